-- What a text of outcomes tells.
use Rattle.std.proofs.Common.{◌≡◌, ℕ, zero, suc, ◌<◌, ◌≤◌, ◌^◌, true, false, cond, eqb, List, [], ◌∷◌, ◌++◌, Option, Some, None, IsSomeAnd, codes, find, length, get_or, take, drop, refl, sym, ap, subst, ◌∙◌, arith, append_assoc, append-nil}
use Rattle.std.proofs.lemmas.Bool.{eqb-true}
use Rattle.std.proofs.lemmas.Fmt.{decimal_injective}
use Rattle.std.proofs.lemmas.List.{append_cancel_left}
use Rattle.std.specs.Fmt.{decimal}
use Rattle.std.specs.List.{All}
use Rattle.std.specs.Str.{bytes_eq}
use Rattle.pb_object.specs.declared.codes.Action.{Action}
use Rattle.pb_object.specs.declared.codes.Answer.{Answer}
use Rattle.pb_object.specs.declared.codes.Answer.TheVariants.{Is, Was, Stale, NoKey, Worn, Depth, Full, Item, Empty, Size, At}
use Rattle.pb_object.specs.declared.request.Ask.{Ask}
use Rattle.pb_object.specs.declared.request.Op.{Op}
use Rattle.pb_object.specs.declared.request.Reply.{Reply}
use Rattle.pb_object.specs.Codes.{action_of, answer_code, answer_of, answer_word, value_count}
use Rattle.pb_object.specs.Text.{spaced, reply_text, reply_text_by}
use Rattle.pb_object.proofs.CodeLemmas.{told_apart}
use Rattle.pb_object.proofs.PlainWords.{decimal_word, answer_word_is}
use Rattle.pb_report.specs.declared.outcome.Outcome.{Outcome}
use Rattle.pb_report.specs.declared.outcome.Outcome.TheVariants.{New, Kept, Old, Gap, Changed, Doubt, Left}
use Rattle.pb_report.specs.Laws.{IsPlainReply, IsPlainOutcome, ArePlain}
use Rattle.pb_report.specs.OutcomeText.{outcome_text, outcome_line, outcomes_text, outcome_line_at}
use Rattle.pb_report.specs.Pieces.{joined}
use Rattle.pb_object.specs.Request.{LeavesReplyZero}
use Rattle.pb_report.proofs.PieceLemmas.{joined-zero}

-- what comes after a word begins with no byte above the space
abbrev pub Ends : List ℕ → Type 0
Ends rest = get_or rest 0 0 ≤ 32

-- the bytes of a word
abbrev IsBytes : List ℕ → Type 0
IsBytes word = All (λ byte. 33 ≤ byte) word

-- a text has one first word
one_word : (v w x y : List ℕ) → IsBytes v → IsBytes w → Ends x → Ends y → v ++ x ≡ w ++ y → (v ≡ w) × (x ≡ y)
one_word [] [] x y first second x_ends y_ends e = (refl, e)
one_word [] (b ∷ w) x y first second x_ends y_ends e =
    let high = second 0 0 (omega arith) in
    let same : get_or x 0 0 ≡ b = ap (λ (text : List ℕ). get_or text 0 0) e in
    absurd (omega arith)
one_word (a ∷ v) [] x y first second x_ends y_ends e =
    let high = first 0 0 (omega arith) in
    let same : a ≡ get_or y 0 0 = ap (λ (text : List ℕ). get_or text 0 0) e in
    absurd (omega arith)
one_word (a ∷ v) (b ∷ w) x y first second x_ends y_ends e =
    let rest = one_word v w x y (λ k d h. first (suc k) d (omega arith)) (λ k d h. second (suc k) d (omega arith)) x_ends y_ends (ap (drop 1) e) in
    let same : a ≡ b = ap (λ (text : List ℕ). get_or text 0 0) e in
    (ap (λ byte. byte ∷ v) same ∙ ap (λ (word : List ℕ). b ∷ word) rest.0, rest.1)

one_number : (m n : ℕ) (x y : List ℕ) → m < 2 ^ 64 → n < 2 ^ 64 → Ends x → Ends y → decimal m ++ x ≡ decimal n ++ y → (m ≡ n) × (x ≡ y)
one_number m n x y m_small n_small x_ends y_ends e =
    let both = one_word (decimal m) (decimal n) x y (decimal_word m m_small).bytes (decimal_word n n_small).bytes x_ends y_ends e in
    (decimal_injective m n m_small n_small both.0, both.1)

-- numbers after spaces, and what comes after them
spaced_ends : (ns rest : List ℕ) → Ends rest → Ends (spaced ns ++ rest)
spaced_ends [] rest ends = ends
spaced_ends (n ∷ ns) rest ends = omega arith

one_spaced : (m n : ℕ) (ms ns x y : List ℕ) → m < 2 ^ 64 → n < 2 ^ 64 → Ends x → Ends y → spaced (m ∷ ms) ++ x ≡ spaced (n ∷ ns) ++ y → (m ≡ n) × (spaced ms ++ x ≡ spaced ns ++ y)
one_spaced m n ms ns x y m_small n_small x_ends y_ends e =
    one_number m n (spaced ms ++ x) (spaced ns ++ y) m_small n_small (spaced_ends ms x x_ends) (spaced_ends ns y y_ends)
    (sym (append_assoc (decimal m) (spaced ms) x) ∙ ap (drop 1) e ∙ append_assoc (decimal n) (spaced ns) y)

take_none : (count : ℕ) → take {A = ℕ} count [] ≡ []
take_none zero = refl
take_none (suc count) = refl

-- the numbers of a reply
numbers_of : (count : ℕ) (r q : Reply) (x y : List ℕ) → LeavesReplyZero count r → LeavesReplyZero count q → r.value < 2 ^ 64 → q.value < 2 ^ 64 → r.extra < 2 ^ 64 → q.extra < 2 ^ 64 → Ends x → Ends y
    → spaced (take count (r.value ∷ r.extra ∷ [])) ++ x ≡ spaced (take count (q.value ∷ q.extra ∷ [])) ++ y → (r.value ≡ q.value) × (r.extra ≡ q.extra) × (x ≡ y)
numbers_of zero r q x y zr zq rv qv re qe x_ends y_ends e = (zr.value (omega arith) ∙ sym (zq.value (omega arith)), zr.extra (omega arith) ∙ sym (zq.extra (omega arith)), e)
numbers_of (suc zero) r q x y zr zq rv qv re qe x_ends y_ends e =
    let first = one_spaced r.value q.value [] [] x y rv qv x_ends y_ends e in
    (first.0, zr.extra (omega arith) ∙ sym (zq.extra (omega arith)), first.1)
numbers_of (suc (suc more)) r q x y zr zq rv qv re qe x_ends y_ends e =
    let both : spaced (r.value ∷ r.extra ∷ []) ++ x ≡ spaced (q.value ∷ q.extra ∷ []) ++ y =
    ap (λ (end : List ℕ). spaced (r.value ∷ r.extra ∷ end) ++ x) (sym (take_none more)) ∙ e ∙ ap (λ (end : List ℕ). spaced (q.value ∷ q.extra ∷ end) ++ y) (take_none more) in
    let first = one_spaced r.value q.value (r.extra ∷ []) (q.extra ∷ []) x y rv qv x_ends y_ends both in
    let second = one_spaced r.extra q.extra [] [] x y re qe x_ends y_ends first.1 in
    (first.0, second.0, second.1)

-- the answer that a word names
answer_named : List ℕ → Option Answer
answer_named word = find (λ answer. bytes_eq (answer_word answer) word) (Is ∷ Was ∷ Stale ∷ NoKey ∷ Worn ∷ Depth ∷ Full ∷ Item ∷ Empty ∷ Size ∷ At ∷ [])

answer_named-word : (answer : Answer) → answer_named (answer_word answer) ≡ Some answer
unfolding answer_named
answer_named-word Is = refl
answer_named-word Was = refl
answer_named-word Stale = refl
answer_named-word NoKey = refl
answer_named-word Worn = refl
answer_named-word Depth = refl
answer_named-word Full = refl
answer_named-word Item = refl
answer_named-word Empty = refl
answer_named-word Size = refl
answer_named-word At = refl

one_answer : (first second : Answer) → answer_word first ≡ answer_word second → first ≡ second
one_answer = told_apart answer_word answer_named answer_named-word

-- a code is that of the answer that it stands for
code_by : (code n : ℕ) (this answer : Answer) (rest : Option Answer) → n ≡ answer_code this → (rest ≡ Some answer → code ≡ answer_code answer)
    → cond (eqb code n) (Some this) rest ≡ Some answer → code ≡ answer_code answer
code_by code n this answer rest is others =
    elim (eqb code n) as (λ test. eqb code n ≡ test → cond test (Some this) rest ≡ Some answer → code ≡ answer_code answer) [
      | true ↦ λ t e. (let same : this ≡ answer = cc in eqb-true code n t ∙ is ∙ ap answer_code same)
      | false ↦ λ t e. others e
    ] refl

code_of : (code : ℕ) (answer : Answer) → answer_of code ≡ Some answer → code ≡ answer_code answer
unfolding answer_of
code_of code answer =
    code_by code 1 Is answer _ refl (code_by code 2 Was answer _ refl (code_by code 3 Stale answer _ refl (code_by code 4 NoKey answer _ refl
    (code_by code 5 Worn answer _ refl (code_by code 6 Depth answer _ refl (code_by code 7 Full answer _ refl (code_by code 8 Item answer _ refl
    (code_by code 9 Empty answer _ refl (code_by code 10 Size answer _ refl (code_by code 11 At answer _ refl (λ e. cc)))))))))))

-- a reply, and what comes after it
abbrev pub LeavesZeroBy : Option Action → Option Answer → Reply → Type 0
LeavesZeroBy action answer reply = IsSomeAnd action (λ action. IsSomeAnd answer (λ answer. LeavesReplyZero (value_count action answer) reply))

one_reply_by : (action : Option Action) (first second : Option Answer) (r q : Reply) (x y : List ℕ) → LeavesZeroBy action first r → LeavesZeroBy action second q
    → r.value < 2 ^ 64 → q.value < 2 ^ 64 → r.extra < 2 ^ 64 → q.extra < 2 ^ 64 → Ends x → Ends y
    → reply_text_by action first r ++ x ≡ reply_text_by action second q ++ y → (answer : Answer) × (first ≡ Some answer) × (second ≡ Some answer) × (r.value ≡ q.value) × (r.extra ≡ q.extra) × (x ≡ y)
one_reply_by None first second r q x y zr zq rv qv re qe x_ends y_ends e = absurd zr
one_reply_by (Some action) None second r q x y zr zq rv qv re qe x_ends y_ends e = absurd zr
one_reply_by (Some action) (Some a) None r q x y zr zq rv qv re qe x_ends y_ends e = absurd zq
one_reply_by (Some action) (Some a) (Some b) r q x y zr zq rv qv re qe x_ends y_ends e =
    let ms = take (value_count action a) (r.value ∷ r.extra ∷ []) in
    let ns = take (value_count action b) (q.value ∷ q.extra ∷ []) in
    let words = one_word (answer_word a) (answer_word b) (spaced ms ++ x) (spaced ns ++ y) (answer_word_is a).bytes (answer_word_is b).bytes (spaced_ends ms x x_ends) (spaced_ends ns y y_ends)
    (sym (append_assoc (answer_word a) (spaced ms) x) ∙ e ∙ append_assoc (answer_word b) (spaced ns) y) in
    let same : a ≡ b = one_answer a b words.0 in
    let count : value_count action b ≡ value_count action a = ap (value_count action) (sym same) in
    let numbers = numbers_of (value_count action a) r q x y zr (subst (λ (n : ℕ). LeavesReplyZero n q) count zq) rv qv re qe x_ends y_ends
    (words.1 ∙ ap (λ (n : ℕ). spaced (take n (q.value ∷ q.extra ∷ [])) ++ y) count) in
    (a, refl, ap (λ (answer : Answer). Some answer) (sym same), numbers.0, numbers.1, numbers.2)

one_reply : (op : Op) (r q : Reply) (x y : List ℕ) → IsPlainReply op r → IsPlainReply op q → Ends x → Ends y → reply_text op r ++ x ≡ reply_text op q ++ y → (r ≡ q) × (x ≡ y)
one_reply op r q x y pr pq x_ends y_ends e =
    let parts = one_reply_by (action_of op.code) (answer_of r.code) (answer_of q.code) r q x y pr.codes pq.codes pr.value pq.value pr.extra pq.extra x_ends y_ends e in
    let code : r.code ≡ q.code = code_of r.code parts.0 parts.1 ∙ sym (code_of q.code parts.0 parts.2) in
    let same : r ≡ q = λ i. record { code = code i; value = parts.3 i; extra = parts.4 i } in
    (same, parts.5)

-- the byte with which an outcome's text begins
abbrev pub first_byte : Op → Outcome → List ℕ → ℕ
first_byte op outcome rest = get_or (outcome_text op outcome ++ rest) 0 0

-- an outcome, and what comes after it
one_outcome : (op : Op) (o p : Outcome) (x y : List ℕ) → IsPlainOutcome op o → IsPlainOutcome op p → Ends x → Ends y → outcome_text op o ++ x ≡ outcome_text op p ++ y → (o ≡ p) × (x ≡ y)
one_outcome op (New r) (New q) x y plain_o plain_p x_ends y_ends e =
    let both = one_reply op r q x y plain_o plain_p x_ends y_ends (ap (drop 4) e) in (ap (λ (reply : Reply). New reply) both.0, both.1)
one_outcome op (Kept r) (Kept q) x y plain_o plain_p x_ends y_ends e =
    let both = one_reply op r q x y plain_o plain_p x_ends y_ends (ap (drop 5) e) in (ap (λ (reply : Reply). Kept reply) both.0, both.1)
one_outcome op Old Old x y plain_o plain_p x_ends y_ends e = (refl, ap (drop 3) e)
one_outcome op Gap Gap x y plain_o plain_p x_ends y_ends e = (refl, ap (drop 3) e)
one_outcome op Changed Changed x y plain_o plain_p x_ends y_ends e = (refl, ap (drop 7) e)
one_outcome op Doubt Doubt x y plain_o plain_p x_ends y_ends e = (refl, ap (drop 5) e)
one_outcome op Left Left x y plain_o plain_p x_ends y_ends e = (refl, ap (drop 4) e)
one_outcome op o p x y plain_o plain_p x_ends y_ends e = let same : first_byte op o x ≡ first_byte op p y = ap (λ (text : List ℕ). get_or text 0 0) e in absurd (omega arith)

-- the first line of a text
joined-first : (line : ℕ → List ℕ) (count : ℕ) → joined line (suc count) ≡ line 0 ++ joined (λ place. line (suc place)) count
unfolding joined
joined-first line zero = sym (append-nil (line 0))
joined-first line (suc count) = ap (λ (text : List ℕ). text ++ line (suc count)) (joined-first line count) ∙ append_assoc (line 0) (joined (λ place. line (suc place)) count) (line (suc count))

texts-first : (ask : Ask) (asks : List Ask) (o : Outcome) (outcomes : List Outcome) → outcomes_text (ask ∷ asks) (o ∷ outcomes) ≡ outcome_line ask o ++ outcomes_text asks outcomes
texts-first ask asks o outcomes = refl

-- the text is that of its lines by their places
pub text-by_places : (asks : List Ask) (outcomes : List Outcome) → length outcomes ≡ length asks → joined (outcome_line_at asks outcomes) (length asks) ≡ outcomes_text asks outcomes
text-by_places [] [] l = joined-zero (outcome_line_at [] [])
text-by_places [] (o ∷ outcomes) l = absurd (omega arith)
text-by_places (ask ∷ asks) [] l = absurd (omega arith)
text-by_places (ask ∷ asks) (o ∷ outcomes) l =
    joined-first (outcome_line_at (ask ∷ asks) (o ∷ outcomes)) (length asks) ∙ ap (λ (text : List ℕ). outcome_line ask o ++ text) (text-by_places asks outcomes (omega arith))

-- what stands before the outcome of a request
abbrev pub before_outcome : Ask → List ℕ
before_outcome ask = decimal ask.client ++ (codes " " ++ (decimal ask.number ++ codes " "))

line_split : (ask : Ask) (o : Outcome) (rest : List ℕ) → outcome_line ask o ++ rest ≡ before_outcome ask ++ (outcome_text ask.op o ++ (10 ∷ rest))
line_split ask o rest = simp append_assoc

pub texts_tell : (asks : List Ask) (first second : List Outcome) → length first ≡ length asks → length second ≡ length asks → ArePlain asks first → ArePlain asks second
    → outcomes_text asks first ≡ outcomes_text asks second → first ≡ second
texts_tell [] [] [] l m x y e = refl
texts_tell [] [] (p ∷ second) l m x y e = absurd (omega arith)
texts_tell [] (o ∷ first) second l m x y e = absurd (omega arith)
texts_tell (ask ∷ asks) [] second l m x y e = absurd (omega arith)
texts_tell (ask ∷ asks) (o ∷ first) [] l m x y e = absurd (omega arith)
texts_tell (ask ∷ asks) (o ∷ first) (p ∷ second) l m x y e =
    let line : before_outcome ask ++ (outcome_text ask.op o ++ (10 ∷ outcomes_text asks first)) ≡ before_outcome ask ++ (outcome_text ask.op p ++ (10 ∷ outcomes_text asks second)) =
    sym (line_split ask o (outcomes_text asks first)) ∙ sym (texts-first ask asks o first) ∙ e ∙ texts-first ask asks p second ∙ line_split ask p (outcomes_text asks second) in
    let both = one_outcome ask.op o p (10 ∷ outcomes_text asks first) (10 ∷ outcomes_text asks second) (x 0 (ask, o) (omega arith)) (y 0 (ask, p) (omega arith)) (omega arith) (omega arith)
    (append_cancel_left (before_outcome ask) (outcome_text ask.op o ++ (10 ∷ outcomes_text asks first)) (outcome_text ask.op p ++ (10 ∷ outcomes_text asks second)) line) in
    let rest : first ≡ second = texts_tell asks first second (omega arith) (omega arith) (λ k d h. x (suc k) d (omega arith)) (λ k d h. y (suc k) d (omega arith)) (ap (drop 1) both.1) in
    ap (λ (outcome : Outcome). outcome ∷ first) both.0 ∙ ap (λ (outcomes : List Outcome). p ∷ outcomes) rest
