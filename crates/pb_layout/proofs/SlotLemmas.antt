-- Lemmas on the slots of a client, and on the requests that they hold.
use Rattle.std.proofs.Common.{◌≡◌, ◌≢◌, ◌⊎◌, ℕ, zero, suc, ◌+◌, ◌-◌, ◌*◌, ◌<◌, ◌≤◌, ◌==◌, nat_lt, List, [], ◌∷◌, take, drop, get_or, if◌then◌else◌, refl, sym, ap, ◌∙◌, subst, inl, inr, arith}
use Rattle.std.proofs.lemmas.Bool.{cases_eq, cases_lt}
use Rattle.std.proofs.lemmas.Bool.Decides.{nat_tests}
use Rattle.std.proofs.lemmas.List.{get_or-drop, drop-drop}
use Rattle.pb_pmem.specs.declared.line.Line.{Line}
use Rattle.pb_pmem.specs.Lines.{line_at}
use Rattle.pb_object.specs.declared.kind.Kind.{Kind}
use Rattle.pb_object.specs.declared.kind.Kind.TheVariants.{Queue}
use Rattle.pb_object.specs.declared.request.Kept.{Kept}
use Rattle.pb_object.specs.declared.request.TheConstants.{KEPT_REQUESTS}
use Rattle.pb_object.specs.Request.{none_kept}
use Rattle.pb_object.specs.Standing.{newest}
use Rattle.pb_layout.specs.ClientLine.{client_line_of, kept_in, IsKept}
use Rattle.pb_layout.specs.Header.{slot_count, word}
use Rattle.pb_layout.specs.Record.{slot_line_at, kept_from, kept_in_slots, AreSlots}
use Rattle.pb_layout.specs.Represents.{newest_of_two}
use Rattle.pb_layout.specs.Slots.{AreClientSlots, slots_from, newer_of}
use Rattle.pb_layout.specs.declared.header.Header.{Header}

-- the requests in a slot and those after it
abbrev pub with_slot : Line → List Kept → List Kept
with_slot line rest = if word line 0 == 0 then rest else kept_in line ∷ rest

pub kept_from-none : (lines : List Line) (first : ℕ) → kept_from lines first 0 ≡ []
unfolding kept_from
kept_from-none lines first = refl

pub kept_from-more : (lines : List Line) (first count : ℕ) → kept_from lines first (suc count) ≡ with_slot (line_at lines first) (kept_from lines (suc first) count)
unfolding kept_from
kept_from-more lines first count = refl

pub with_slot-empty : (line : Line) (rest : List Kept) → word line 0 ≡ 0 → with_slot line rest ≡ rest
with_slot-empty line rest e = grind (arith, nat_tests)

with_slot-full : (line : Line) (rest : List Kept) → word line 0 ≢ 0 → with_slot line rest ≡ kept_in line ∷ rest
with_slot-full line rest e = grind (arith, nat_tests)

-- slots that are the same hold the same requests
pub kept_from-same : (a b : List Line) (i j count : ℕ) → ((k : ℕ) → k < count → line_at a (i + k) ≡ line_at b (j + k)) → kept_from a i count ≡ kept_from b j count
kept_from-same a b i j zero same = kept_from-none a i ∙ sym (kept_from-none b j)
kept_from-same a b i j (suc count) same =
    let left : i + 0 ≡ i = omega arith in
    let right : j + 0 ≡ j = omega arith in
    let here : line_at a i ≡ line_at b j = ap (line_at a) (sym left) ∙ (same 0 (omega arith) ∙ ap (line_at b) right) in
    let rest : kept_from a (suc i) count ≡ kept_from b (suc j) count = kept_from-same a b (suc i) (suc j) count (λ k inside. ap (line_at a) (shift i k) ∙ (same (suc k) (omega arith) ∙ ap (line_at b) (sym (shift j k)))) in
    kept_from-more a i count ∙ ((λ x. with_slot (here x) (rest x)) ∙ sym (kept_from-more b j count))
  where
    shift : (n k : ℕ) → suc n + k ≡ n + suc k
    shift n k = omega arith

-- numbers fall from slot to slot, and empty slots come last
abbrev pub Falling : List Line → ℕ → ℕ → Type 0
Falling lines first count =
    (k : ℕ) → suc k < count → word (line_at lines (first + suc k)) 0 ≢ 0 → word (line_at lines (first + suc k)) 0 < word (line_at lines (first + k)) 0

pub falling_after : (lines : List Line) (first count : ℕ) → Falling lines first (suc count) → Falling lines (suc first) count
falling_after lines first count falling k inside some =
    let here : first + suc k ≡ suc first + k = omega arith in
    let next : first + suc (suc k) ≡ suc first + suc k = omega arith in
    let at = ap (λ (n : ℕ). word (line_at lines n) 0) here in
    let after = ap (λ (n : ℕ). word (line_at lines n) 0) next in
    let below = falling (suc k) (omega arith) (λ e. some (sym after ∙ e)) in
    omega (arith, at, after, below)

-- a slot's number is at most that of the first
pub slot_at_most : (lines : List Line) (first count k : ℕ) → Falling lines first count → k < count → word (line_at lines (first + k)) 0 ≤ word (line_at lines first) 0
slot_at_most lines first count zero falling inside =
    let here : first + 0 ≡ first = omega arith in
    omega (arith, ap (λ (n : ℕ). word (line_at lines n) 0) here)
slot_at_most lines first count (suc k) falling inside =
    let before = slot_at_most lines first count k falling (omega arith) in
    elim (cases_eq (word (line_at lines (first + suc k)) 0) 0) [
      | inl empty ↦ omega (arith, empty)
      | inr some ↦ let below = falling k inside some in omega (arith, before, below)
    ]

-- where the first slot is empty, all are
pub kept_from-empty : (lines : List Line) (first count : ℕ) → Falling lines first count → word (line_at lines first) 0 ≡ 0 → kept_from lines first count ≡ []
kept_from-empty lines first zero falling empty = kept_from-none lines first
kept_from-empty lines first (suc zero) falling empty =
    kept_from-more lines first 0 ∙ (with_slot-empty (line_at lines first) (kept_from lines (suc first) 0) empty ∙ kept_from-none lines (suc first))
kept_from-empty lines first (suc (suc count)) falling empty =
    kept_from-more lines first (suc count) ∙ (with_slot-empty (line_at lines first) (kept_from lines (suc first) (suc count)) empty ∙ kept_from-empty lines (suc first) (suc count) (falling_after lines first (suc count) falling) next)
  where
    at : suc first ≡ first + 1
    at = omega arith

    next : word (line_at lines (suc first)) 0 ≡ 0
    next =
        let most = slot_at_most lines first (suc (suc count)) 1 falling (omega arith) in
        omega (arith, most, empty, ap (λ (n : ℕ). word (line_at lines n) 0) at)

pub kept_from-full : (lines : List Line) (first count : ℕ) → word (line_at lines first) 0 ≢ 0 → kept_from lines first (suc count) ≡ kept_in (line_at lines first) ∷ kept_from lines (suc first) count
kept_from-full lines first count some =
    kept_from-more lines first count ∙ with_slot-full (line_at lines first) (kept_from lines (suc first) count) some

-- the last slot goes where there are too many
pub take-kept_from : (lines : List Line) (first count : ℕ) → Falling lines first (suc count) → take count (kept_from lines first (suc count)) ≡ kept_from lines first count
take-kept_from lines first zero falling = sym (kept_from-none lines first)
take-kept_from lines first (suc count) falling =
    elim (cases_eq (word (line_at lines first) 0) 0) [
      | inl empty ↦
          ap (take (suc count)) (kept_from-empty lines first (suc (suc count)) falling empty) ∙ sym (kept_from-empty lines first (suc count) (λ k inside some. falling k (omega arith) some) empty)
      | inr some ↦
          ap (take (suc count)) (kept_from-full lines first (suc count) some)
          ∙ (ap (λ (rest : List Kept). kept_in (line_at lines first) ∷ rest) (take-kept_from lines (suc first) count (falling_after lines first (suc count) falling)) ∙ sym (kept_from-full lines first count some))
    ]

-- a request in front of the slots of before, of which the last one goes
pub kept_from-shifted : (lines before : List Line) (first count : ℕ) (kept : Kept) → kept.number ≢ 0 → line_at lines first ≡ client_line_of kept → ((k : ℕ) → suc k < suc count → line_at lines (first + suc k) ≡ line_at before (first + k)) → Falling before first (suc count)
    → kept_from lines first (suc count) ≡ take (suc count) (kept ∷ kept_from before first (suc count))
kept_from-shifted lines before first count kept some here shifted falling =
    kept_from-full lines first count (λ e. some (sym (ap (λ (l : Line). word l 0) here) ∙ e))
    ∙ ((λ x. kept_in (here x) ∷ same x) ∙ ap (λ (rest : List Kept). kept ∷ rest) (sym (take-kept_from before first count falling)))
  where
    at : (n k : ℕ) → suc n + k ≡ n + suc k
    at n k = omega arith

    same : kept_from lines (suc first) count ≡ kept_from before first count
    same = kept_from-same lines before (suc first) first count (λ k inside. ap (line_at lines) (at first k) ∙ shifted k (omega arith))

-- the newest number of a client is that in its first slot
pub newest-kept_from : (lines : List Line) (first count : ℕ) → Falling lines first (suc count) → (newest (kept_from lines first (suc count))).number ≡ word (line_at lines first) 0
newest-kept_from lines first count falling =
    elim (cases_eq (word (line_at lines first) 0) 0) [
      | inl empty ↦ ap (λ (list : List Kept). (newest list).number) (kept_from-empty lines first (suc count) falling empty) ∙ sym empty
      | inr some ↦ ap (λ (list : List Kept). (newest list).number) (kept_from-full lines first count some)
    ]

-- the numbers of each client's slots fall
pub slots_fall : (head : Header) (side : ℕ) (lines : List Line) (client : ℕ) → AreSlots head.kind side lines (slot_count head) → client < head.clients → Falling lines (1 + KEPT_REQUESTS * client) KEPT_REQUESTS
slots_fall head side lines client slots inside k below some =
    let place : ℕ = KEPT_REQUESTS * client + suc k in
    let within : place < slot_count head = omega arith in
    let at : 1 + KEPT_REQUESTS * client + suc k ≡ 1 + place = omega arith in
    let back : 1 + KEPT_REQUESTS * client + k ≡ place = omega arith in
    let here = ap (λ (n : ℕ). word (line_at lines n) 0) at in
    let before = ap (λ (n : ℕ). word (line_at lines n) 0) back in
    let less = (slots place within).falls (λ e. absurd (omega (arith, e))) (λ e. some (here ∙ e)) in
    omega (arith, here, before, less)

-- The newest requests of two lists

take_nil : (n : ℕ) → take {A = Kept} n [] ≡ []
take_nil zero = refl
take_nil (suc n) = refl

take_fewer : (count more : ℕ) (xs : List Kept) → count ≤ more → take count (take more xs) ≡ take count xs
take_fewer zero more xs fits = refl
take_fewer (suc count) zero xs fits = absurd (omega arith)
take_fewer (suc count) (suc more) [] fits = refl
take_fewer (suc count) (suc more) (x ∷ xs) fits = ap (λ (rest : List Kept). x ∷ rest) (take_fewer count more xs (omega arith))

newest-take : (count : ℕ) (xs : List Kept) → (newest (take (suc count) xs)).number ≡ (newest xs).number
newest-take count [] = refl
newest-take count (x ∷ xs) = refl

pub newest_of_two-first : (count : ℕ) (a : List Kept) → newest_of_two count a [] ≡ take count a
unfolding newest_of_two
newest_of_two-first zero a = refl
newest_of_two-first (suc count) [] = refl
newest_of_two-first (suc count) (kept ∷ a) = refl

pub newest_of_two-second : (count : ℕ) (b : List Kept) → newest_of_two count [] b ≡ take count b
unfolding newest_of_two
newest_of_two-second zero b = refl
newest_of_two-second (suc count) b = refl

two_step : ℕ → Kept → List Kept → Kept → List Kept → List Kept
two_step count kept a other b =
    if nat_lt kept.number other.number then other ∷ newest_of_two count (kept ∷ a) b else kept ∷ newest_of_two count a (other ∷ b)

newest_of_two-both : (count : ℕ) (kept other : Kept) (a b : List Kept) → newest_of_two (suc count) (kept ∷ a) (other ∷ b) ≡ two_step count kept a other b
unfolding newest_of_two two_step
newest_of_two-both count kept other a b = refl

two_step-second : (count : ℕ) (kept other : Kept) (a b : List Kept) → kept.number < other.number → two_step count kept a other b ≡ other ∷ newest_of_two count (kept ∷ a) b
unfolding two_step
two_step-second count kept other a b less = grind (arith, nat_tests)

two_step-first : (count : ℕ) (kept other : Kept) (a b : List Kept) → other.number ≤ kept.number → two_step count kept a other b ≡ kept ∷ newest_of_two count a (other ∷ b)
unfolding two_step
two_step-first count kept other a b most = grind (arith, nat_tests)

-- a request of the first list that is newer than those of the second comes first
pub newest_of_two-newer_first : (count : ℕ) (kept : Kept) (a b : List Kept) → (newest b).number ≤ kept.number → newest_of_two (suc count) (kept ∷ a) b ≡ kept ∷ newest_of_two count a b
newest_of_two-newer_first count kept a [] newer =
    newest_of_two-first (suc count) (kept ∷ a) ∙ ap (λ (rest : List Kept). kept ∷ rest) (sym (newest_of_two-first count a))
newest_of_two-newer_first count kept a (other ∷ b) newer = newest_of_two-both count kept other a b ∙ two_step-first count kept other a b newer

-- and one of the second list that is newer than those of the first
pub newest_of_two-newer_second : (count : ℕ) (kept : Kept) (a b : List Kept) → (newest a).number < kept.number → newest_of_two (suc count) a (kept ∷ b) ≡ kept ∷ newest_of_two count a b
newest_of_two-newer_second count kept [] b newer =
    newest_of_two-second (suc count) (kept ∷ b) ∙ ap (λ (rest : List Kept). kept ∷ rest) (sym (newest_of_two-second count b))
newest_of_two-newer_second count kept (other ∷ a) b newer = newest_of_two-both count other kept a b ∙ two_step-second count other kept a b newer

-- of each list no more than so many count
pub newest_of_two-take_first : (count more : ℕ) (a b : List Kept) → count ≤ more → newest_of_two count (take more a) b ≡ newest_of_two count a b
unfolding newest_of_two
newest_of_two-take_first zero more a b fits = refl
newest_of_two-take_first (suc count) zero a b fits = absurd (omega arith)
newest_of_two-take_first (suc count) (suc more) [] b fits = refl
newest_of_two-take_first (suc count) (suc more) (kept ∷ a) [] fits =
    ap (λ (rest : List Kept). kept ∷ rest) (take_fewer count more a (omega arith))
newest_of_two-take_first (suc count) (suc more) (kept ∷ a) (other ∷ b) fits =
    elim (cases_lt kept.number other.number) [
      | inl less ↦
          newest_of_two-both count kept other (take more a) b ∙ (two_step-second count kept other (take more a) b less
          ∙ (ap (λ (rest : List Kept). other ∷ rest) (newest_of_two-take_first count (suc more) (kept ∷ a) b (omega arith)) ∙ sym (newest_of_two-both count kept other a b ∙ two_step-second count kept other a b less)))
      | inr most ↦
          newest_of_two-both count kept other (take more a) b ∙ (two_step-first count kept other (take more a) b most
          ∙ (ap (λ (rest : List Kept). kept ∷ rest) (newest_of_two-take_first count more a (other ∷ b) (omega arith)) ∙ sym (newest_of_two-both count kept other a b ∙ two_step-first count kept other a b most)))
    ]

pub newest_of_two-take_second : (count more : ℕ) (a b : List Kept) → count ≤ more → newest_of_two count a (take more b) ≡ newest_of_two count a b
unfolding newest_of_two
newest_of_two-take_second zero more a b fits = refl
newest_of_two-take_second (suc count) zero a b fits = absurd (omega arith)
newest_of_two-take_second (suc count) (suc more) [] b fits = take_fewer (suc count) (suc more) b fits
newest_of_two-take_second (suc count) (suc more) (kept ∷ a) [] fits = refl
newest_of_two-take_second (suc count) (suc more) (kept ∷ a) (other ∷ b) fits =
    elim (cases_lt kept.number other.number) [
      | inl less ↦
          newest_of_two-both count kept other a (take more b) ∙ (two_step-second count kept other a (take more b) less
          ∙ (ap (λ (rest : List Kept). other ∷ rest) (newest_of_two-take_second count more (kept ∷ a) b (omega arith)) ∙ sym (newest_of_two-both count kept other a b ∙ two_step-second count kept other a b less)))
      | inr most ↦
          newest_of_two-both count kept other a (take more b) ∙ (two_step-first count kept other a (take more b) most
          ∙ (ap (λ (rest : List Kept). kept ∷ rest) (newest_of_two-take_second count (suc more) a (other ∷ b) (omega arith)) ∙ sym (newest_of_two-both count kept other a b ∙ two_step-first count kept other a b most)))
    ]

-- fewer of the newest
pub take-newest_of_two : (count more : ℕ) (a b : List Kept) → count ≤ more → take count (newest_of_two more a b) ≡ newest_of_two count a b
unfolding newest_of_two
take-newest_of_two zero more a b fits = refl
take-newest_of_two (suc count) zero a b fits = absurd (omega arith)
take-newest_of_two (suc count) (suc more) [] b fits =
    ap (take (suc count)) (newest_of_two-second (suc more) b) ∙ (take_fewer (suc count) (suc more) b fits ∙ sym (newest_of_two-second (suc count) b))
take-newest_of_two (suc count) (suc more) (kept ∷ a) [] fits =
    ap (take (suc count)) (newest_of_two-first (suc more) (kept ∷ a)) ∙ (take_fewer (suc count) (suc more) (kept ∷ a) fits ∙ sym (newest_of_two-first (suc count) (kept ∷ a)))
take-newest_of_two (suc count) (suc more) (kept ∷ a) (other ∷ b) fits =
    elim (cases_lt kept.number other.number) [
      | inl less ↦
          ap (take (suc count)) (newest_of_two-both more kept other a b ∙ two_step-second more kept other a b less)
          ∙ (ap (λ (rest : List Kept). other ∷ rest) (take-newest_of_two count more (kept ∷ a) b (omega arith)) ∙ sym (newest_of_two-both count kept other a b ∙ two_step-second count kept other a b less))
      | inr most ↦
          ap (take (suc count)) (newest_of_two-both more kept other a b ∙ two_step-first more kept other a b most)
          ∙ (ap (λ (rest : List Kept). kept ∷ rest) (take-newest_of_two count more a (other ∷ b) (omega arith)) ∙ sym (newest_of_two-both count kept other a b ∙ two_step-first count kept other a b most))
    ]

-- the newest of two lists is at least the newest of each
pub newest_of_two-at_least_first : (count : ℕ) (a b : List Kept) → (newest a).number ≤ (newest (newest_of_two (suc count) a b)).number
newest_of_two-at_least_first count [] b = omega arith
newest_of_two-at_least_first count (kept ∷ a) [] =
    omega (arith, ap (λ (list : List Kept). (newest list).number) (newest_of_two-first (suc count) (kept ∷ a)))
newest_of_two-at_least_first count (kept ∷ a) (other ∷ b) =
    elim (cases_lt kept.number other.number) [
      | inl less ↦ omega (arith, less, ap (λ (list : List Kept). (newest list).number) (newest_of_two-both count kept other a b ∙ two_step-second count kept other a b less))
      | inr most ↦ omega (arith, most, ap (λ (list : List Kept). (newest list).number) (newest_of_two-both count kept other a b ∙ two_step-first count kept other a b most))
    ]

pub newest_of_two-at_least_second : (count : ℕ) (a b : List Kept) → (newest b).number ≤ (newest (newest_of_two (suc count) a b)).number
newest_of_two-at_least_second count [] b =
    omega (arith, ap (λ (list : List Kept). (newest list).number) (newest_of_two-second (suc count) b), newest-take count b)
newest_of_two-at_least_second count (kept ∷ a) [] = omega arith
newest_of_two-at_least_second count (kept ∷ a) (other ∷ b) =
    elim (cases_lt kept.number other.number) [
      | inl less ↦ omega (arith, less, ap (λ (list : List Kept). (newest list).number) (newest_of_two-both count kept other a b ∙ two_step-second count kept other a b less))
      | inr most ↦ omega (arith, most, ap (λ (list : List Kept). (newest list).number) (newest_of_two-both count kept other a b ∙ two_step-first count kept other a b most))
    ]

-- Going through two lists of slots, the newest first

-- what stands first of two
two_head : (n : ℕ) (x y : Line) (a b : List Kept) → (word x 0 ≡ 0 → kept_in x ≡ none_kept) → (word x 0 ≡ 0 → a ≡ []) → (word y 0 ≡ 0 → b ≡ []) → get_or (newest_of_two (suc n) (with_slot x a) (with_slot y b)) 0 none_kept ≡ newer_of (kept_in x) (kept_in y)
two_head n x y a b none first second = go (cases_lt (word x 0) (word y 0)) (cases_eq (word x 0) 0) (cases_eq (word y 0) 0)
  where
    P : List Kept → List Kept → Type 0
    P u v = get_or (newest_of_two (suc n) u v) 0 none_kept ≡ newer_of (kept_in x) (kept_in y)

    take_is : word x 0 < word y 0 → newer_of (kept_in x) (kept_in y) ≡ kept_in y
    take_is less = grind (arith, nat_tests)

    put_is : word y 0 ≤ word x 0 → newer_of (kept_in x) (kept_in y) ≡ kept_in x
    put_is most = grind (arith, nat_tests)

    at : (u v : List Kept) → with_slot x a ≡ u → with_slot y b ≡ v → P u v → P (with_slot x a) (with_slot y b)
    at u v left right p = subst (λ (l : List Kept). P l (with_slot y b)) (sym left) (subst (P u) (sym right) p)

    go : (word x 0 < word y 0) ⊎ (word y 0 ≤ word x 0) → (word x 0 ≡ 0) ⊎ (word x 0 ≢ 0) → (word y 0 ≡ 0) ⊎ (word y 0 ≢ 0) → P (with_slot x a) (with_slot y b)
    go (inl less) left (inl empty) = absurd (omega (arith, less, empty))
    go (inl less) (inl empty) (inr some) =
        at [] (kept_in y ∷ b) (with_slot-empty x a empty ∙ first empty) (with_slot-full y b some) (ap (λ (l : List Kept). get_or l 0 none_kept) (newest_of_two-second (suc n) (kept_in y ∷ b)) ∙ sym (take_is less))
    go (inl less) (inr one) (inr some) =
        at (kept_in x ∷ a) (kept_in y ∷ b) (with_slot-full x a one) (with_slot-full y b some) (ap (λ (l : List Kept). get_or l 0 none_kept) (newest_of_two-both n (kept_in x) (kept_in y) a b ∙ two_step-second n (kept_in x) (kept_in y) a b less) ∙ sym (take_is less))
    go (inr most) (inl empty) (inr some) = absurd (omega (arith, most, empty, some))
    go (inr most) (inl empty) (inl other) =
        at [] [] (with_slot-empty x a empty ∙ first empty) (with_slot-empty y b other ∙ second other) (ap (λ (l : List Kept). get_or l 0 none_kept) (newest_of_two-second (suc n) []) ∙ sym (put_is most ∙ none empty))
    go (inr most) (inr one) (inl other) =
        at (kept_in x ∷ a) [] (with_slot-full x a one) (with_slot-empty y b other ∙ second other) (ap (λ (l : List Kept). get_or l 0 none_kept) (newest_of_two-first (suc n) (kept_in x ∷ a)) ∙ sym (put_is most))
    go (inr most) (inr one) (inr some) =
        at (kept_in x ∷ a) (kept_in y ∷ b) (with_slot-full x a one) (with_slot-full y b some) (ap (λ (l : List Kept). get_or l 0 none_kept) (newest_of_two-both n (kept_in x) (kept_in y) a b ∙ two_step-first n (kept_in x) (kept_in y) a b most) ∙ sym (put_is most))

-- what stands after it, where that is a put or a take
two_after_take : (n : ℕ) (x y : Line) (a b : List Kept) → (word x 0 ≡ 0 → a ≡ []) → word x 0 < word y 0 → drop 1 (newest_of_two (suc n) (with_slot x a) (with_slot y b)) ≡ newest_of_two n (with_slot x a) b
two_after_take n x y a b first less = go (cases_eq (word x 0) 0)
  where
    some : word y 0 ≢ 0
    some e = omega (arith, less, e)

    go : (word x 0 ≡ 0) ⊎ (word x 0 ≢ 0) → drop 1 (newest_of_two (suc n) (with_slot x a) (with_slot y b)) ≡ newest_of_two n (with_slot x a) b
    go (inl empty) =
        let left = with_slot-empty x a empty ∙ first empty in
        ((λ i. drop 1 (newest_of_two (suc n) (left i) (with_slot-full y b some i))) ∙ ap (drop 1) (newest_of_two-second (suc n) (kept_in y ∷ b))) ∙ (sym (newest_of_two-second n b) ∙ ap (λ (l : List Kept). newest_of_two n l b) (sym left))
    go (inr one) =
        let left = with_slot-full x a one in
        ((λ i. drop 1 (newest_of_two (suc n) (left i) (with_slot-full y b some i))) ∙ ap (drop 1) (newest_of_two-both n (kept_in x) (kept_in y) a b ∙ two_step-second n (kept_in x) (kept_in y) a b less)) ∙ ap (λ (l : List Kept). newest_of_two n l b) (sym left)

two_after_put : (n : ℕ) (x y : Line) (a b : List Kept) → (word x 0 ≡ 0 → a ≡ []) → (word y 0 ≡ 0 → b ≡ []) → word y 0 ≤ word x 0 → drop 1 (newest_of_two (suc n) (with_slot x a) (with_slot y b)) ≡ newest_of_two n a (with_slot y b)
two_after_put n x y a b first second most = go (cases_eq (word x 0) 0) (cases_eq (word y 0) 0)
  where
    go : (word x 0 ≡ 0) ⊎ (word x 0 ≢ 0) → (word y 0 ≡ 0) ⊎ (word y 0 ≢ 0) → drop 1 (newest_of_two (suc n) (with_slot x a) (with_slot y b)) ≡ newest_of_two n a (with_slot y b)
    go (inl empty) (inr some) = absurd (omega (arith, most, empty, some))
    go (inl empty) (inl other) =
        let left = with_slot-empty x a empty ∙ first empty in
        let right = with_slot-empty y b other ∙ second other in
        ((λ i. drop 1 (newest_of_two (suc n) (left i) (right i))) ∙ ap (drop 1) (newest_of_two-second (suc n) [])) ∙ (sym (newest_of_two-second n [] ∙ take_nil n) ∙ (λ i. newest_of_two n (sym (first empty) i) (sym right i)))
    go (inr one) (inl other) =
        let left = with_slot-full x a one in
        let right = with_slot-empty y b other ∙ second other in
        ((λ i. drop 1 (newest_of_two (suc n) (left i) (right i))) ∙ ap (drop 1) (newest_of_two-first (suc n) (kept_in x ∷ a))) ∙ (sym (newest_of_two-first n a) ∙ ap (newest_of_two n a) (sym right))
    go (inr one) (inr some) =
        let left = with_slot-full x a one in
        let right = with_slot-full y b some in
        ((λ i. drop 1 (newest_of_two (suc n) (left i) (right i))) ∙ ap (drop 1) (newest_of_two-both n (kept_in x) (kept_in y) a b ∙ two_step-first n (kept_in x) (kept_in y) a b most)) ∙ ap (newest_of_two n a) (sym right)

-- the slots of a client from one on
pub slots_from-more : (lines : List Line) (client slot : ℕ) → slot < KEPT_REQUESTS → slots_from lines client slot ≡ with_slot (slot_line_at lines client slot) (slots_from lines client (slot + 1))
slots_from-more lines client slot inside =
    let count : KEPT_REQUESTS - slot ≡ suc (KEPT_REQUESTS - (slot + 1)) = omega arith in
    let next : suc (1 + (KEPT_REQUESTS * client + slot)) ≡ 1 + (KEPT_REQUESTS * client + (slot + 1)) = omega arith in
    ap (kept_from lines (1 + (KEPT_REQUESTS * client + slot))) count ∙ (kept_from-more lines (1 + (KEPT_REQUESTS * client + slot)) (KEPT_REQUESTS - (slot + 1))
    ∙ ap (λ (at : ℕ). with_slot (slot_line_at lines client slot) (kept_from lines at (KEPT_REQUESTS - (slot + 1)))) next)

-- after an empty slot all are
pub slots_from-empty : (kind : Kind) (side : ℕ) (lines : List Line) (client slot : ℕ) → AreClientSlots kind side lines client → slot < KEPT_REQUESTS → word (slot_line_at lines client slot) 0 ≡ 0 → slots_from lines client (slot + 1) ≡ []
slots_from-empty kind side lines client slot are inside empty =
    elim (cases_lt (slot + 1) KEPT_REQUESTS) [
      | inl more ↦ kept_from-empty lines (1 + (KEPT_REQUESTS * client + (slot + 1))) (KEPT_REQUESTS - (slot + 1)) falling (next more)
      | inr past ↦ let none : KEPT_REQUESTS - (slot + 1) ≡ 0 = omega arith in ap (kept_from lines (1 + (KEPT_REQUESTS * client + (slot + 1)))) none ∙ kept_from-none lines (1 + (KEPT_REQUESTS * client + (slot + 1)))
    ]
  where
    next : slot + 1 < KEPT_REQUESTS → word (line_at lines (1 + (KEPT_REQUESTS * client + (slot + 1)))) 0 ≡ 0
    next more = elim (cases_eq (word (line_at lines (1 + (KEPT_REQUESTS * client + (slot + 1)))) 0) 0) [
      | inl e ↦ e
      | inr some ↦
          let back : KEPT_REQUESTS * client + (slot + 1) ≡ 1 + (KEPT_REQUESTS * client + slot) = omega arith in
          let less = (are (slot + 1) more).falls (λ e. absurd (omega (arith, e))) some in
          absurd (omega (arith, less, empty, ap (λ (n : ℕ). word (line_at lines n) 0) back))
    ]

    falling : Falling lines (1 + (KEPT_REQUESTS * client + (slot + 1))) (KEPT_REQUESTS - (slot + 1))
    falling k below some =
        let place : ℕ = slot + 1 + suc k in
        let at : 1 + (KEPT_REQUESTS * client + (slot + 1)) + suc k ≡ 1 + (KEPT_REQUESTS * client + place) = omega arith in
        let back : 1 + (KEPT_REQUESTS * client + (slot + 1)) + k ≡ KEPT_REQUESTS * client + place = omega arith in
        let here = ap (λ (n : ℕ). word (line_at lines n) 0) at in
        let before = ap (λ (n : ℕ). word (line_at lines n) 0) back in
        let less = (are place (omega arith)).falls (λ e. absurd (omega (arith, e))) (λ e. some (here ∙ e)) in
        omega (arith, here, before, less)

-- an empty slot holds no request
pub empty_slot : (kind : Kind) (side : ℕ) (kept : Kept) → IsKept kind side kept → kept.number ≡ 0 → kept ≡ none_kept
empty_slot kind side kept (inl none) empty = none
empty_slot kind side kept (inr recorded) empty = absurd (omega (arith, recorded.some, empty))

-- So many of the newest requests of a queue's client were gone through: these slots are left of its puts and takes

abbrev pub left_of_both : List Line → List Line → ℕ → ℕ → ℕ → ℕ → List Kept
left_of_both puts takes client gone put take = newest_of_two (KEPT_REQUESTS - gone) (slots_from puts client put) (slots_from takes client take)

pub record HasGone (puts takes : List Line) (client gone put take : ℕ) : Type 0 where
  pub both : put + take ≡ gone
  pub left : drop gone (newest_of_two KEPT_REQUESTS (kept_in_slots puts client) (kept_in_slots takes client)) ≡ left_of_both puts takes client gone put take

pub none_gone : (puts takes : List Line) (client : ℕ) → HasGone puts takes client 0 0 0
none_gone puts takes client =
    let at : 1 + KEPT_REQUESTS * client ≡ 1 + (KEPT_REQUESTS * client + 0) = omega arith in
    record { both = refl; left = λ i. newest_of_two KEPT_REQUESTS (kept_from puts (at i) KEPT_REQUESTS) (kept_from takes (at i) KEPT_REQUESTS) }

one_more : (gone : ℕ) (all : List Kept) → drop (gone + 1) all ≡ drop 1 (drop gone all)
one_more gone all = ap (λ (n : ℕ). drop n all) (omega arith) ∙ sym (drop-drop 1 gone all)

-- what is left of both has the two slots in front that are next
left_now : (puts takes : List Line) (client gone put take : ℕ) → gone < KEPT_REQUESTS → HasGone puts takes client gone put take → drop gone (newest_of_two KEPT_REQUESTS (kept_in_slots puts client) (kept_in_slots takes client)) ≡ newest_of_two (suc (KEPT_REQUESTS - (gone + 1))) (with_slot (slot_line_at puts client put) (slots_from puts client (put + 1))) (with_slot (slot_line_at takes client take) (slots_from takes client (take + 1)))
left_now puts takes client gone put take inside has =
    let count : KEPT_REQUESTS - gone ≡ suc (KEPT_REQUESTS - (gone + 1)) = omega arith in
    let left = slots_from-more puts client put (omega (arith, has.both)) in
    let right = slots_from-more takes client take (omega (arith, has.both)) in
    has.left ∙ (λ i. newest_of_two (count i) (left i) (right i))

-- a take is next
pub gone_take : (puts takes : List Line) (client gone put take : ℕ) → AreClientSlots Queue 0 puts client → gone + 1 < KEPT_REQUESTS → HasGone puts takes client gone put take → word (slot_line_at puts client put) 0 < word (slot_line_at takes client take) 0 → HasGone puts takes client (gone + 1) put (take + 1)
gone_take puts takes client gone put take are inside has less =
    let few : put < KEPT_REQUESTS = omega (arith, has.both) in
    record {
      both = omega (arith, has.both);
      left = one_more gone _ ∙ (ap (drop 1) (left_now puts takes client gone put take (omega arith) has) ∙ (two_after_take (KEPT_REQUESTS - (gone + 1)) (slot_line_at puts client put) (slot_line_at takes client take) (slots_from puts client (put + 1)) (slots_from takes client (take + 1)) (slots_from-empty Queue 0 puts client put are few) less ∙ ap (λ (l : List Kept). newest_of_two (KEPT_REQUESTS - (gone + 1)) l (slots_from takes client (take + 1))) (sym (slots_from-more puts client put few))));
    }

-- a put is next
pub gone_put : (puts takes : List Line) (client gone put take : ℕ) → AreClientSlots Queue 0 puts client → AreClientSlots Queue 1 takes client → gone + 1 < KEPT_REQUESTS → HasGone puts takes client gone put take → word (slot_line_at takes client take) 0 ≤ word (slot_line_at puts client put) 0 → HasGone puts takes client (gone + 1) (put + 1) take
gone_put puts takes client gone put take are others inside has most =
    let few : put < KEPT_REQUESTS = omega (arith, has.both) in
    let fits : take < KEPT_REQUESTS = omega (arith, has.both) in
    record {
      both = omega (arith, has.both);
      left = one_more gone _ ∙ (ap (drop 1) (left_now puts takes client gone put take (omega arith) has) ∙ (two_after_put (KEPT_REQUESTS - (gone + 1)) (slot_line_at puts client put) (slot_line_at takes client take) (slots_from puts client (put + 1)) (slots_from takes client (take + 1)) (slots_from-empty Queue 0 puts client put are few) (slots_from-empty Queue 1 takes client take others fits) most ∙ ap (newest_of_two (KEPT_REQUESTS - (gone + 1)) (slots_from puts client (put + 1))) (sym (slots_from-more takes client take fits))));
    }

-- the newer one of those that are left comes next
pub gone_next : (puts takes : List Line) (client gone put take : ℕ) → AreClientSlots Queue 0 puts client → AreClientSlots Queue 1 takes client → gone < KEPT_REQUESTS → HasGone puts takes client gone put take → get_or (newest_of_two KEPT_REQUESTS (kept_in_slots puts client) (kept_in_slots takes client)) gone none_kept ≡ newer_of (kept_in (slot_line_at puts client put)) (kept_in (slot_line_at takes client take))
gone_next puts takes client gone put take are others inside has =
    let few : put < KEPT_REQUESTS = omega (arith, has.both) in
    let fits : take < KEPT_REQUESTS = omega (arith, has.both) in
    let all = newest_of_two KEPT_REQUESTS (kept_in_slots puts client) (kept_in_slots takes client) in
    let here : get_or all gone none_kept ≡ get_or (drop gone all) 0 none_kept = ap (λ (n : ℕ). get_or all n none_kept) (omega arith) ∙ sym (get_or-drop gone all 0 none_kept) in
    here ∙ (ap (λ (l : List Kept). get_or l 0 none_kept) (left_now puts takes client gone put take inside has) ∙ two_head (KEPT_REQUESTS - (gone + 1)) (slot_line_at puts client put) (slot_line_at takes client take) (slots_from puts client (put + 1)) (slots_from takes client (take + 1)) (empty_slot Queue 0 (kept_in (slot_line_at puts client put)) (are put few).allowed) (slots_from-empty Queue 0 puts client put are few) (slots_from-empty Queue 1 takes client take others fits))
