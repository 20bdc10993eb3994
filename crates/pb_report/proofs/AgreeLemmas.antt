-- Two lists of outcomes of the same requests over one history.
use Rattle.std.proofs.Common.{◌≡◌, ◌≢◌, inl, inr, ℕ, suc, Bool, true, false, cond, eqb, List, [], ◌∷◌, Option, Some, None, length, eq-eqb, refl, sym, ap, subst, ◌∙◌, arith}
use Rattle.std.specs.List.{zip}
use Rattle.pb_object.specs.declared.request.Ask.{Ask}
use Rattle.pb_object.specs.declared.request.Reply.{Reply}
use Rattle.pb_object.specs.declared.request.Kept.{Kept as KeptRequest}
use Rattle.pb_object.specs.History.{Entry, History, kept_by}
use Rattle.pb_object.specs.Standing.{keep}
use Rattle.pb_report.specs.declared.outcome.Outcome.{Outcome}
use Rattle.pb_report.specs.declared.outcome.Outcome.TheVariants.{New, Kept, Old, Gap, Changed, Doubt, Left}
use Rattle.pb_report.specs.Laws.{AgreeUntilDoubt, HasNoDoubt}
use Rattle.pb_report.specs.Outcomes.{AreLeft, AreLines, GoesOn, IsLine, decided_outcome, entry_of, lines_of_client}
use Rattle.pb_report.proofs.EntryLemmas.{HasOneForEach}

abbrev Line : Type 0
Line = Ask × Outcome

-- lines that are left agree
left_agree : (client : ℕ) (asks : List Ask) (first second : List Outcome) → length first ≡ length asks → length second ≡ length asks
    → AreLeft (lines_of_client client (zip asks first)) → AreLeft (lines_of_client client (zip asks second)) → AgreeUntilDoubt (lines_of_client client (zip asks first)) (lines_of_client client (zip asks second))
left_agree client [] first second l m x y = tt
left_agree client (ask ∷ asks) [] second l m x y = absurd (omega arith)
left_agree client (ask ∷ asks) (o ∷ first) [] l m x y = absurd (omega arith)
left_agree client (ask ∷ asks) (o ∷ first) (p ∷ second) l m x y =
    let firsts = lines_of_client client (zip asks first) in
    let seconds = lines_of_client client (zip asks second) in
    elim (eqb ask.client client) as (λ own. AreLeft (cond own ((ask, o) ∷ firsts) firsts) → AreLeft (cond own ((ask, p) ∷ seconds) seconds)
    → AgreeUntilDoubt (cond own ((ask, o) ∷ firsts) firsts) (cond own ((ask, p) ∷ seconds) seconds)) [
      | true ↦ λ x y. inr (inr (
        ap (λ (outcome : Outcome). let line : Line = (ask, outcome) in line) (x 0 (ask, o) (omega arith) ∙ sym (y 0 (ask, p) (omega arith))),
        left_agree client asks first second (omega arith) (omega arith) (λ k d h. x (suc k) d (omega arith)) (λ k d h. y (suc k) d (omega arith)),
      ))
      | false ↦ λ x y. left_agree client asks first second (omega arith) (omega arith) x y
    ] x y

-- what comes after one decided outcome is one of two
after_decided : (decided : Outcome) (A B C D E : Type 0) → GoesOn decided A B → GoesOn decided C D → (A → C → E) → (B → D → E) → E
after_decided (New reply) A B C D E x y on left = on x y
after_decided (Kept reply) A B C D E x y on left = on x y
after_decided Old A B C D E x y on left = on x y
after_decided Gap A B C D E x y on left = left x y
after_decided Changed A B C D E x y on left = left x y
after_decided Doubt A B C D E x y on left = on x y
after_decided Left A B C D E x y on left = on x y

-- one line after the other
step : (history : History) (kept : List KeptRequest) (ask : Ask) (firsts seconds : List Line) → HasOneForEach history → (decided : Option Outcome) (o p : Outcome)
    → ((next : List KeptRequest) → AreLines history next firsts → AreLines history next seconds → AgreeUntilDoubt firsts seconds)
    → (AreLeft firsts → AreLeft seconds → AgreeUntilDoubt firsts seconds)
    → IsLine decided history kept ask o (λ next. AreLines history next firsts) (AreLeft firsts)
    → IsLine decided history kept ask p (λ next. AreLines history next seconds) (AreLeft seconds)
    → AgreeUntilDoubt ((ask, o) ∷ firsts) ((ask, p) ∷ seconds)
step history kept ask firsts seconds one (Some decided) o p on left x y =
    inr (inr (
      ap (λ (outcome : Outcome). let line : Line = (ask, outcome) in line) (x.0 ∙ sym y.0),
      after_decided decided (AreLines history kept firsts) (AreLeft firsts) (AreLines history kept seconds) (AreLeft seconds) (AgreeUntilDoubt firsts seconds) x.1 y.1 (on kept) left,
    ))
step history kept ask firsts seconds one None (New r) (New q) on left x y =
    let same : r ≡ q = ap (λ (entry : Entry). entry.reply) (one (entry_of ask r) (entry_of ask q) x.0 y.0 refl refl) in
    inr (inr (
      ap (λ (reply : Reply). let line : Line = (ask, New reply) in line) same,
      on (keep (kept_by (entry_of ask r)) kept) x.1 (subst (λ (reply : Reply). AreLines history (keep (kept_by (entry_of ask reply)) kept) seconds) (sym same) y.1),
    ))
step history kept ask firsts seconds one None Doubt p on left x y = inl refl
step history kept ask firsts seconds one None (New r) Doubt on left x y = inr (inl refl)
step history kept ask firsts seconds one None (New r) (Kept q) on left x y = absurd y
step history kept ask firsts seconds one None (New r) Old on left x y = absurd y
step history kept ask firsts seconds one None (New r) Gap on left x y = absurd y
step history kept ask firsts seconds one None (New r) Changed on left x y = absurd y
step history kept ask firsts seconds one None (New r) Left on left x y = absurd y
step history kept ask firsts seconds one None (Kept r) p on left x y = absurd x
step history kept ask firsts seconds one None Old p on left x y = absurd x
step history kept ask firsts seconds one None Gap p on left x y = absurd x
step history kept ask firsts seconds one None Changed p on left x y = absurd x
step history kept ask firsts seconds one None Left p on left x y = absurd x

-- the lines of a client agree until one of them is in doubt
pub lines_agree : (history : History) → HasOneForEach history → (client : ℕ) (asks : List Ask) (first second : List Outcome) (kept : List KeptRequest) → length first ≡ length asks → length second ≡ length asks
    → AreLines history kept (lines_of_client client (zip asks first)) → AreLines history kept (lines_of_client client (zip asks second)) → AgreeUntilDoubt (lines_of_client client (zip asks first)) (lines_of_client client (zip asks second))
unfolding AreLines
lines_agree history one client [] first second kept l m x y = tt
lines_agree history one client (ask ∷ asks) [] second kept l m x y = absurd (omega arith)
lines_agree history one client (ask ∷ asks) (o ∷ first) [] kept l m x y = absurd (omega arith)
lines_agree history one client (ask ∷ asks) (o ∷ first) (p ∷ second) kept l m x y =
    let firsts = lines_of_client client (zip asks first) in
    let seconds = lines_of_client client (zip asks second) in
    elim (eqb ask.client client) as (λ own. AreLines history kept (cond own ((ask, o) ∷ firsts) firsts) → AreLines history kept (cond own ((ask, p) ∷ seconds) seconds)
    → AgreeUntilDoubt (cond own ((ask, o) ∷ firsts) firsts) (cond own ((ask, p) ∷ seconds) seconds)) [
      | true ↦ λ x y. step history kept ask firsts seconds one (decided_outcome kept ask) o p
          (λ next. lines_agree history one client asks first second next (omega arith) (omega arith))
          (left_agree client asks first second (omega arith) (omega arith)) x y
      | false ↦ λ x y. lines_agree history one client asks first second kept (omega arith) (omega arith) x y
    ] x y

-- the first lines and the others, where no line is in doubt
first_agrees : (own : Bool) (x y : Line) (xs ys : List Line) → own ≡ true → x.1 ≢ Doubt → y.1 ≢ Doubt → AgreeUntilDoubt (cond own (x ∷ xs) xs) (cond own (y ∷ ys) ys) → x ≡ y
first_agrees true x y xs ys is no_x no_y (inl doubt) = absurd (no_x doubt)
first_agrees true x y xs ys is no_x no_y (inr (inl doubt)) = absurd (no_y doubt)
first_agrees true x y xs ys is no_x no_y (inr (inr both)) = both.0
first_agrees false x y xs ys is no_x no_y agree = cc

rest_agrees : (own : Bool) (x y : Line) (xs ys : List Line) → x.1 ≢ Doubt → y.1 ≢ Doubt → AgreeUntilDoubt (cond own (x ∷ xs) xs) (cond own (y ∷ ys) ys) → AgreeUntilDoubt xs ys
rest_agrees true x y xs ys no_x no_y (inl doubt) = absurd (no_x doubt)
rest_agrees true x y xs ys no_x no_y (inr (inl doubt)) = absurd (no_y doubt)
rest_agrees true x y xs ys no_x no_y (inr (inr both)) = both.1
rest_agrees false x y xs ys no_x no_y agree = agree

no_doubt_first : (o : Outcome) (outcomes : List Outcome) → HasNoDoubt (o ∷ outcomes) → o ≢ Doubt
no_doubt_first o outcomes none = λ is. none (0, omega arith, is)

no_doubt_rest : (o : Outcome) (outcomes : List Outcome) → HasNoDoubt (o ∷ outcomes) → HasNoDoubt outcomes
no_doubt_rest o outcomes none = λ there. none (suc there.0, omega (arith, there.1), there.2)

-- lists without a doubt whose lines agree are one
pub all_agree : (asks : List Ask) (first second : List Outcome) → length first ≡ length asks → length second ≡ length asks → HasNoDoubt first → HasNoDoubt second
    → ((client : ℕ) → AgreeUntilDoubt (lines_of_client client (zip asks first)) (lines_of_client client (zip asks second))) → first ≡ second
all_agree [] [] [] l m no_first no_second agree = refl
all_agree [] [] (p ∷ second) l m no_first no_second agree = absurd (omega arith)
all_agree [] (o ∷ first) second l m no_first no_second agree = absurd (omega arith)
all_agree (ask ∷ asks) [] second l m no_first no_second agree = absurd (omega arith)
all_agree (ask ∷ asks) (o ∷ first) [] l m no_first no_second agree = absurd (omega arith)
all_agree (ask ∷ asks) (o ∷ first) (p ∷ second) l m no_first no_second agree =
    let no_o = no_doubt_first o first no_first in
    let no_p = no_doubt_first p second no_second in
    let one = first_agrees (eqb ask.client ask.client) (ask, o) (ask, p) (lines_of_client ask.client (zip asks first)) (lines_of_client ask.client (zip asks second)) (eq-eqb ask.client ask.client refl) no_o no_p (agree ask.client) in
    let same : o ≡ p = ap (λ (line : Line). line.1) one in
    let rest : first ≡ second = all_agree asks first second (omega arith) (omega arith) (no_doubt_rest o first no_first) (no_doubt_rest p second no_second)
    (λ client. rest_agrees (eqb ask.client client) (ask, o) (ask, p) (lines_of_client client (zip asks first)) (lines_of_client client (zip asks second)) no_o no_p (agree client)) in
    ap (λ (outcome : Outcome). outcome ∷ first) same ∙ ap (λ (outcomes : List Outcome). p ∷ outcomes) rest
