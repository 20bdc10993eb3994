-- Lists of kept requests.
use Rattle.std.proofs.Common.{◌≡◌, ◌≢◌, ℕ, zero, suc, ◌<◌, ◌≤◌, List, [], ◌∷◌, ◌++◌, length, take, slice_index_or, All, arith, refl, ap, ◌⊎◌, inl, inr}
use Rattle.pb_object.specs.declared.request.Kept.{Kept}
use Rattle.pb_object.specs.KeptLists.{HasNumber}
use Rattle.pb_object.specs.Request.{none_kept}

pub grow : (xs : List Kept) (n : ℕ) → n < length xs → take (suc n) xs ≡ take n xs ++ slice_index_or xs n none_kept ∷ []
grow [] n inside = absurd (omega (arith, inside))
grow (x ∷ xs) zero inside = refl
grow (x ∷ xs) (suc n) inside = ap (λ (ys : List Kept). x ∷ ys) (grow xs n (omega (arith, inside)))

either : (xs : List Kept) (n : ℕ) → (n < length xs) ⊎ (length xs ≤ n)
either [] n = inr (omega arith)
either (x ∷ xs) zero = inl (omega arith)
either (x ∷ xs) (suc n) = further (either xs n)
  where
    further : (n < length xs) ⊎ (length xs ≤ n) → (suc n < length (x ∷ xs)) ⊎ (length (x ∷ xs) ≤ suc n)
    further (inl inside) = inl (omega (arith, inside))
    further (inr outside) = inr (omega (arith, outside))

pub beyond : (xs : List Kept) (n : ℕ) → All HasNumber xs → (slice_index_or xs n none_kept).number ≡ 0 → length xs ≤ n
beyond xs n all is = judged (either xs n)
  where
    judged : (n < length xs) ⊎ (length xs ≤ n) → length xs ≤ n
    judged (inl inside) = absurd (omega (arith, (all n none_kept inside).some, is))
    judged (inr outside) = outside

pub within : (xs : List Kept) (n : ℕ) → (slice_index_or xs n none_kept).number ≢ 0 → n < length xs
within [] n is = absurd (is refl)
within (x ∷ xs) zero is = omega arith
within (x ∷ xs) (suc n) is =
    let later : n < length xs = within xs n is in
    omega (arith, later)

pub all_taken : (xs : List Kept) (n : ℕ) → length xs ≤ n → take n xs ≡ xs
all_taken [] zero few = refl
all_taken [] (suc n) few = refl
all_taken (x ∷ xs) zero few = absurd (omega (arith, few))
all_taken (x ∷ xs) (suc n) few = ap (λ (ys : List Kept). x ∷ ys) (all_taken xs n (omega (arith, few)))

pub taken_few : (xs : List Kept) (n : ℕ) → length (take n xs) ≤ n
taken_few [] zero = omega arith
taken_few [] (suc n) = omega arith
taken_few (x ∷ xs) zero = omega arith
taken_few (x ∷ xs) (suc n) =
    let later : length (take n xs) ≤ n = taken_few xs n in
    omega (arith, later)
