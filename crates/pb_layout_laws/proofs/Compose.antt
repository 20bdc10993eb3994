-- Coverings one after the other are a covering, and stepwise after stepwise is stepwise.
use Rattle.std.proofs.Common.{◌≡◌, ℕ, ◌-◌, ◌<◌, ◌≤◌, ◌⊎◌, false, List, [], ◌∷◌, ◌++◌, length, take, drop, Option, Some, None, ap, subst, sym, refl, ◌∙◌, inl, inr, arith}
use Rattle.std.specs.List.{list_any}
use Rattle.std.proofs.Math.Seq.{take-append_seam, drop-append_seam, take-append-add, take-length}
use Rattle.std.proofs.lemmas.Bool.{cases_lt, or_from}
use Rattle.std.proofs.lemmas.List.{take-append-le, drop-append-le, take-append-drop, length-take-le, length-append, append_assoc, append-nil}
use Rattle.std.proofs.lemmas.List.Folds.{list_any-append}
use Rattle.pb_pmem.specs.declared.line.Line.{Line}
use Rattle.pb_pmem.specs.declared.log.LogOp.{LogOp}
use Rattle.pb_pmem.specs.Contents.{contents}
use Rattle.pb_pmem.specs.Crash.{is_sync, IsCrashImage, IsCrashImageAt}
use Rattle.pb_object.specs.History.{History, state_after}
use Rattle.pb_object.specs.Standing.{Standing}
use Rattle.pb_layout.specs.Covers.{IsCoveredBy, HasNoSync, IsAsBefore, IsStillNothing, Covers}
use Rattle.pb_layout.specs.LogHistory.{LoggedRound, rounds_in, AreSealed, AreUnsealed, history_of}
use Rattle.pb_layout.specs.Damage.{HasRegion}
use Rattle.pb_layout.specs.Ready.{ImageRepresents}
use Rattle.pb_layout.specs.Recovered.{Represents}
use Rattle.pb_layout.proofs.OneRecovery.{has_region, represents_one}
use Rattle.pb_layout.specs.Exits.{HasOneUnsealedAtMost, HasOneUnsealedAtMostAlways}
use Rattle.pb_layout_laws.proofs.Growing.{history_of-front, flagged, flagged-append, flagged-sealed, flagged-unsealed, length-flagged, rounds_in-flagged, history_of-parts, rounds_of-parts}
use Rattle.pb_layout_laws.proofs.Histories.{rounds_in-append, state_after-rounds_in, AreSealed-append, AreUnsealed-append, history_after-unsealed, history_of-second}
use Rattle.pb_layout_laws.proofs.OneUnsealed.{history_of-longer}

-- lines represent one thing at most
pub stands_for_one : (image : List Line) (m n : Option Standing) → ImageRepresents image m → ImageRepresents image n → m ≡ n
stands_for_one image None None left right = refl
stands_for_one image None (Some t) left right = absurd (left (has_region image t right))
stands_for_one image (Some s) None left right = absurd (right (has_region image s left))
stands_for_one image (Some s) (Some t) left right = ap Some (represents_one image s t left right)

-- Images after one covering and another

-- what is covered after some rounds is covered by these and those after them, whatever more is known of these
covered-after : (s : Standing) (first known second : List LoggedRound) (image : List Line) → rounds_in known ≡ rounds_in first → IsCoveredBy (state_after s (rounds_in first)) second image → IsCoveredBy s (known ++ second) image
covered-after s first known second image same covered = record {
  kept = known ++ covered.kept;
  lost = covered.lost;
  whole = ap (λ (l : List LoggedRound). known ++ l) covered.whole ∙ sym (append_assoc known covered.kept covered.lost);
  unsealed = covered.unsealed;
  stands = subst (Represents image) (sym (state_after-rounds_in s known covered.kept ∙ ap (λ (h : History). state_after (state_after s h) (rounds_in covered.kept)) same)) covered.stands;
}

-- without a sync, lines that represent what covered lines represented are covered
covered-still : (s : Standing) (first second : List LoggedRound) (log : List LogOp) (earlier image : List Line) → list_any is_sync log ≡ false → AreUnsealed second → IsCoveredBy s first earlier → ((t : Standing) → Represents earlier t → Represents image t) → IsCoveredBy s (flagged log first ++ second) image
covered-still s first second log earlier image none unsealed covered same = record {
  kept = flagged log covered.kept;
  lost = flagged log covered.lost ++ second;
  whole = ap (λ (l : List LoggedRound). l ++ second) (ap (flagged log) covered.whole ∙ flagged-append log covered.kept covered.lost) ∙ append_assoc (flagged log covered.kept) (flagged log covered.lost) second;
  unsealed = AreUnsealed-append (flagged log covered.lost) second (flagged-unsealed log covered.lost none covered.unsealed) unsealed;
  stands = subst (λ (h : History). Represents image (state_after s h)) (sym (rounds_in-flagged log covered.kept)) (same (state_after s (rounds_in covered.kept)) covered.stands);
}

-- an image that represents what one at a later moment represented, which represented what one at the first moment represented
as_before-along : (base : List Line) (a b : List LogOp) (from : ℕ) (image earlier : List Line) (member : Option Standing) → ImageRepresents earlier member → ImageRepresents image member → take from b ≡ take from a → IsAsBefore base a from earlier → IsAsBefore base b from image
as_before-along base a b from image earlier member stood stands same before =
    record {
      earlier = before.earlier;
      left = subst (λ l. IsCrashImage base l before.earlier) (sym same) before.left;
      member = member;
      stood = subst (ImageRepresents before.earlier) (stands_for_one earlier before.member member before.stands stood) before.stood;
      stands = stands;
    }

-- Two coverings

-- what an image after a log is: covered, or as before while there was no sync
abbrev IsFine : List Line → List LogOp → ℕ → Standing → List Line → List LogOp → Type 0
IsFine base whole from s image past =
    IsCoveredBy s (history_of base past from) image ⊎ ((list_any is_sync (drop from past) ≡ false) × IsAsBefore base whole from image)

-- an image of a moment of the first log
first_images : (base : List Line) (a b : List LogOp) (from moment : ℕ) (s : Standing) (first : List LoggedRound) (image : List Line) → Covers base a from s first → from ≤ moment → moment ≤ length a → IsCrashImage base (take moment a) image → IsFine base (a ++ b) from s image (take moment a)
first_images base a b from moment s first image covers low high left =
    elim (covers.images moment low high image left) [
      | inl covered ↦ inl covered
      | inr (none, before) ↦ inr (
        none,
        record {
          earlier = before.earlier;
          left = subst (λ l. IsCrashImage base l before.earlier) (sym (take-append-le from a b covers.within)) before.left;
          member = before.member;
          stood = before.stood;
          stands = before.stands;
        },
      )
    ]

-- no sync stands in two logs, one after the other
no_sync-append : (a c : List LogOp) (from : ℕ) → from ≤ length a → list_any is_sync (drop from a) ≡ false → list_any is_sync c ≡ false → list_any is_sync (drop from (a ++ c)) ≡ false
no_sync-append a c from within first second =
    ap (list_any is_sync) (drop-append-le from a c within) ∙ (list_any-append is_sync (drop from a) c ∙ or_from (list_any is_sync (drop from a)) (list_any is_sync c) first second)

-- an image of a moment of the second log
second_images : (base : List Line) (a b c : List LogOp) (from : ℕ) (s : Standing) (first : List LoggedRound) (image : List Line) → Covers base a from s first → IsFine base (a ++ b) (length a) (state_after s (rounds_in first)) image (a ++ c) → IsFine base (a ++ b) from s image (a ++ c)
second_images base a b c from s first image covers (inl covered) =
    inl (subst (λ (l : List LoggedRound). IsCoveredBy s l image) (sym (history_of-parts base a c from covers.within)) (covered-after s first (flagged c (history_of base a from)) (history_of base (a ++ c) (length a)) image (rounds_in-flagged c (history_of base a from) ∙ ap rounds_in (sym covers.told)) covered))
second_images base a b c from s first image covers (inr (since, before)) =
    go (covers.images (length a) covers.within (omega arith) before.earlier left)
  where
    none : list_any is_sync c ≡ false
    none = ap (list_any is_sync) (sym (drop-append_seam a c)) ∙ since

    left : IsCrashImage base (take (length a) a) before.earlier
    left = subst (λ l. IsCrashImage base l before.earlier) (take-append_seam a b ∙ sym (take-length a)) before.left

    unsealed : AreUnsealed (history_of base (a ++ c) (length a))
    unsealed = rw (history_of-second base a c) (history_after-unsealed (contents base a) [] c none tt)

    same : (t : Standing) → Represents before.earlier t → Represents image t
    same t stood = subst (ImageRepresents image) (stands_for_one before.earlier before.member (Some t) before.stood stood) before.stands

    go : IsCoveredBy s (history_of base (take (length a) a) from) before.earlier ⊎ (HasNoSync from (length a) a × IsAsBefore base a from before.earlier) → IsFine base (a ++ b) from s image (a ++ c)
    go (inl covered) =
        inl (subst (λ (l : List LoggedRound). IsCoveredBy s l image) (sym (history_of-parts base a c from covers.within)) (covered-still s (history_of base a from) (history_of base (a ++ c) (length a)) c before.earlier image none unsealed (subst (λ (l : List LogOp). IsCoveredBy s (history_of base l from) before.earlier) (take-length a) covered) same))
    go (inr (h, first_before)) =
        inr (no_sync-append a c from covers.within (ap (λ (l : List LogOp). list_any is_sync (drop from l)) (sym (take-length a)) ∙ h) none, as_before-along base a (a ++ b) from image before.earlier before.member before.stood before.stands (take-append-le from a b covers.within) first_before)

-- two coverings, one after the other, are a covering of both logs
pub coverings-append : (base : List Line) (a b : List LogOp) (from : ℕ) (s : Standing) (first second : List LoggedRound) → Covers base a from s first → Covers base (a ++ b) (length a) (state_after s (rounds_in first)) second → Covers base (a ++ b) from s (history_of base (a ++ b) from)
coverings-append base a b from s first second one two =
    record {
      within = omega (arith, one.within, two.within);
      told = refl;
      images = images;
      end = end one.end two.end;
    }
  where
    images : (moment : ℕ) → from ≤ moment → moment ≤ length (a ++ b) → (image : List Line) → IsCrashImageAt base (a ++ b) moment image → IsFine base (a ++ b) from s image (take moment (a ++ b))
    images moment low high image left = go (cases_lt moment (length a))
      where
        go : (moment < length a) ⊎ (length a ≤ moment) → IsFine base (a ++ b) from s image (take moment (a ++ b))
        go (inl l) =
            let here : take moment (a ++ b) ≡ take moment a = take-append-le moment a b (omega arith) in
            subst (IsFine base (a ++ b) from s image) (sym here) (first_images base a b from moment s first image one low (omega arith) (subst (λ past. IsCrashImage base past image) here left))
        go (inr l) =
            let rest : ℕ = moment - length a in
            let here : take moment (a ++ b) ≡ a ++ take rest b = ap (λ n. take n (a ++ b)) (omega arith) ∙ take-append-add a b rest in
            subst (IsFine base (a ++ b) from s image) (sym here) (second_images base a b (take rest b) from s first image one (subst (IsFine base (a ++ b) (length a) (state_after s (rounds_in first)) image) here (two.images moment l high image left)))

    rounds : rounds_in (history_of base (a ++ b) from) ≡ rounds_in (first ++ second)
    rounds =
        rounds_of-parts base a b from one.within ∙ ((λ i. rounds_in (sym one.told i) ++ rounds_in (sym two.told i)) ∙ sym (rounds_in-append first second))

    end : Represents (contents base a) (state_after s (rounds_in first)) ⊎ IsStillNothing base a from → Represents (contents base (a ++ b)) (state_after (state_after s (rounds_in first)) (rounds_in second)) ⊎ IsStillNothing base (a ++ b) (length a) → Represents (contents base (a ++ b)) (state_after s (rounds_in (history_of base (a ++ b) from))) ⊎ IsStillNothing base (a ++ b) from
    end first_end (inl stands) =
        inl (subst (Represents (contents base (a ++ b))) (sym (ap (state_after s) rounds ∙ state_after-rounds_in s first second)) stands)
    end (inl stands) (inr nothing) =
        absurd (nothing.before (rw (take-append_seam a b) (has_region (contents base a) (state_after s (rounds_in first)) stands)))
    end (inr still) (inr nothing) =
        inr (record {
          before = subst (λ (l : List LogOp). ¬ HasRegion (contents base l)) (sym (take-append-le from a b one.within)) still.before;
          no_sync = ap (λ (l : List LogOp). list_any is_sync (drop from l)) (take-length (a ++ b)) ∙ no_sync-append a b from one.within (ap (λ (l : List LogOp). list_any is_sync (drop from l)) (sym (take-length a)) ∙ still.no_sync) (ap (list_any is_sync) (sym (drop-append_seam a b) ∙ ap (drop (length a)) (sym (take-length (a ++ b)))) ∙ nothing.no_sync);
          now = nothing.now;
        })

-- the same of one log that is cut at a moment
pub coverings-compose : (base : List Line) (log : List LogOp) (from middle : ℕ) (s : Standing) (first second : List LoggedRound) → middle ≤ length log → Covers base (take middle log) from s first → Covers base log middle (state_after s (rounds_in first)) second → Covers base log from s (history_of base log from)
coverings-compose base log from middle s first second inside one two =
    subst (λ (l : List LogOp). Covers base l from s (history_of base l from)) whole (coverings-append base a b from s first second one at)
  where
    a : List LogOp
    a = take middle log

    b : List LogOp
    b = drop middle log

    whole : a ++ b ≡ log
    whole = take-append-drop middle log

    at : Covers base (a ++ b) (length a) (state_after s (rounds_in first)) second
    at = rw (whole, length-take-le middle log inside) two

-- two logs, one after the other, and a covering of each, where all rounds of the first are sealed
pub record TwoCoverings (base : List Line) (a b : List LogOp) (from : ℕ) (s : Standing) (prefix back : List LoggedRound) : Type 0 where
  pub first : Covers base a from s prefix
  pub sealed : AreSealed prefix
  pub holds : Represents (contents base a) (state_after s (rounds_in prefix))
  pub second : Covers base (a ++ b) (length a) (state_after s (rounds_in prefix)) back

-- then the history is the two, one after the other
pub covers-append : (base : List Line) (a b : List LogOp) (from : ℕ) (s : Standing) (prefix back : List LoggedRound) → TwoCoverings base a b from s prefix back → Covers base (a ++ b) from s (prefix ++ back)
covers-append base a b from s prefix back two =
    subst (Covers base (a ++ b) from s) (history_of-front base a b from two.first.within (subst AreSealed two.first.told two.sealed) ∙ (λ i. sym two.first.told i ++ sym two.second.told i)) (coverings-append base a b from s prefix back two.first two.second)

-- One round after the other

-- one open round after sealed ones
one_open-after : (prefix rounds : List LoggedRound) → AreSealed prefix → HasOneUnsealedAtMost rounds → HasOneUnsealedAtMost (prefix ++ rounds)
one_open-after prefix rounds sealed one = record {
  prefix = prefix ++ one.prefix;
  last = one.last;
  whole = ap (λ (l : List LoggedRound). prefix ++ l) one.whole ∙ sym (append_assoc prefix one.prefix one.last);
  sealed = AreSealed-append prefix one.prefix sealed one.sealed;
  few = one.few;
}

-- at the end of the first log at most one round is unsealed, and so it stays while no more are told
one_open-still : (log : List LogOp) (rounds : List LoggedRound) → HasOneUnsealedAtMost rounds → HasOneUnsealedAtMost (flagged log rounds)
one_open-still log rounds one = record {
  prefix = flagged log one.prefix;
  last = flagged log one.last;
  whole = ap (flagged log) one.whole ∙ flagged-append log one.prefix one.last;
  sealed = flagged-sealed log one.prefix one.sealed;
  few = omega (arith, one.few, length-flagged log one.last);
}

no_rounds : (rounds : List LoggedRound) → length rounds ≤ 0 → rounds ≡ []
no_rounds [] few = refl
no_rounds (logged ∷ rounds) few = absurd (omega arith)

-- then at each moment at most one round is unsealed, where it is so of both
pub one_unsealed-append : (base : List Line) (a b : List LogOp) (from : ℕ) → from ≤ length a → AreSealed (history_of base a from) ⊎ (history_of base (a ++ b) (length a) ≡ []) → HasOneUnsealedAtMostAlways base a from → HasOneUnsealedAtMostAlways base (a ++ b) (length a) → HasOneUnsealedAtMostAlways base (a ++ b) from
one_unsealed-append base a b from within apart first second moment low high =
    go (cases_lt moment (length a))
  where
    IsStepwise : List LogOp → Type 0
    IsStepwise past = HasOneUnsealedAtMost (history_of base past from)

    at_end : HasOneUnsealedAtMost (history_of base a from)
    at_end =
        subst IsStepwise (take-length a) (first (length a) within (omega arith))

    joined : (c d : List LogOp) → c ++ d ≡ b → HasOneUnsealedAtMost (history_of base (a ++ c) (length a)) → HasOneUnsealedAtMost (flagged c (history_of base a from) ++ history_of base (a ++ c) (length a))
    joined c d parts one = elim apart [
      | inl sealed ↦ one_open-after (flagged c (history_of base a from)) (history_of base (a ++ c) (length a)) (flagged-sealed c (history_of base a from) sealed) one
      | inr none ↦
          let longer : length (history_of base (a ++ c) (length a)) ≤ length (history_of base ((a ++ c) ++ d) (length a)) = history_of-longer base (a ++ c) d (length a) (omega (arith, length-append a c)) in
          let same : history_of base ((a ++ c) ++ d) (length a) ≡ [] = ap (λ (l : List LogOp). history_of base l (length a)) (append_assoc a c d ∙ ap (λ (l : List LogOp). a ++ l) parts) ∙ none in
          let here : history_of base (a ++ c) (length a) ≡ [] = no_rounds (history_of base (a ++ c) (length a)) (omega (arith, longer, ap length same)) in
          subst HasOneUnsealedAtMost (sym (ap (λ (h : List LoggedRound). flagged c (history_of base a from) ++ h) here ∙ append-nil (flagged c (history_of base a from)))) (one_open-still c (history_of base a from) at_end)
    ]

    go : (moment < length a) ⊎ (length a ≤ moment) → IsStepwise (take moment (a ++ b))
    go (inl before) =
        subst IsStepwise (sym (take-append-le moment a b (omega (arith, before)))) (first moment low (omega (arith, before)))
    go (inr after) =
        let rest : ℕ = moment - length a in
        let here : take moment (a ++ b) ≡ a ++ take rest b = ap (λ (n : ℕ). take n (a ++ b)) (omega (arith, after)) ∙ take-append-add a b rest in
        let one : HasOneUnsealedAtMost (history_of base (a ++ take rest b) (length a)) = subst (λ (l : List LogOp). HasOneUnsealedAtMost (history_of base l (length a))) here (second moment after high) in
        subst IsStepwise (sym here) (subst HasOneUnsealedAtMost (sym (history_of-parts base a (take rest b) from within)) (joined (take rest b) (drop rest b) (take-append-drop rest b) one))

-- the same of one log that is cut at a moment
pub one_unsealed-compose : (base : List Line) (log : List LogOp) (from middle : ℕ) → from ≤ middle → middle ≤ length log → HasOneUnsealedAtMostAlways base (take middle log) from → HasOneUnsealedAtMostAlways base log middle → AreSealed (history_of base (take middle log) from) ⊎ (history_of base log middle ≡ []) → HasOneUnsealedAtMostAlways base log from
one_unsealed-compose base log from middle low inside first second apart =
    let a = take middle log in
    let b = drop middle log in
    let whole : a ++ b ≡ log = take-append-drop middle log in
    let long : length a ≡ middle = length-take-le middle log inside in
    subst (λ (l : List LogOp). HasOneUnsealedAtMostAlways base l from) whole (one_unsealed-append base a b from (omega (arith, long)) (rw (whole, long) apart) first (rw (whole, long) second))
