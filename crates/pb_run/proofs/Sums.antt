-- Sums over the clients below a number.
use Rattle.std.proofs.Common.{◌≡◌, ◌≢◌, ◌⊎◌, ℕ, zero, suc, ◌+◌, ◌<◌, ◌≤◌, eqb, Bool, true, false, cond, List, [], ◌∷◌, refl, ap, subst, inl, inr, arith}
use Rattle.std.specs.List.{count_by, filter}
use Rattle.std.proofs.lemmas.Bool.{cases_eq}
use Rattle.std.proofs.lemmas.Bool.Decides.{nat_tests}
use Rattle.std.proofs.lemmas.List.Recursion.{is_count_by}

abbrev pub sum_below : ℕ → (ℕ → ℕ) → ℕ
sum_below zero f = 0
sum_below (suc n) f = sum_below n f + f n

pub sum-same : (n : ℕ) (f g : ℕ → ℕ) → ((c : ℕ) → c < n → f c ≡ g c) → sum_below n f ≡ sum_below n g
sum-same zero f g same = refl
sum-same (suc n) f g same =
    omega (arith, sum-same n f g (λ c inside. same c (omega (arith, inside))), same n (omega arith))

pub sum-most : (n : ℕ) (f g : ℕ → ℕ) → ((c : ℕ) → c < n → f c ≤ g c) → sum_below n f ≤ sum_below n g
sum-most zero f g most = omega arith
sum-most (suc n) f g most =
    omega (arith, sum-most n f g (λ c inside. most c (omega (arith, inside))), most n (omega arith))

sum-both : (n : ℕ) (f g : ℕ → ℕ) → sum_below n (λ c. f c + g c) ≡ sum_below n f + sum_below n g
sum-both zero f g = omega arith
sum-both (suc n) f g = omega (arith, sum-both n f g)

sum-none : (n : ℕ) (f : ℕ → ℕ) → ((c : ℕ) → c < n → f c ≡ 0) → sum_below n f ≡ 0
sum-none zero f none = refl
sum-none (suc n) f none =
    omega (arith, sum-none n f (λ c inside. none c (omega (arith, inside))), none n (omega arith))

abbrev one_at : (k : ℕ) → ℕ → ℕ
one_at k c = cond (eqb k c) 1 0

at_own : (k : ℕ) → one_at k k ≡ 1
at_own k = let same : eqb k k ≡ true = grind (arith, nat_tests) in ap (λ (b : Bool). cond b 1 0) same

at_other : (k c : ℕ) → k ≢ c → one_at k c ≡ 0
at_other k c other = let apart : eqb k c ≡ false = grind (arith, nat_tests) in ap (λ (b : Bool). cond b 1 0) apart

sum-one : (n k : ℕ) → k < n → sum_below n (one_at k) ≡ 1
sum-one zero k below = absurd (omega (arith, below))
sum-one (suc n) k below = go (sum-one n k) (cases_eq k n)
  where
    go : (k < n → sum_below n (one_at k) ≡ 1) → (k ≡ n) ⊎ (k ≢ n) → sum_below (suc n) (one_at k) ≡ 1
    go rest (inl same) = omega (arith, sum-none n (one_at k) (λ c inside. at_other k c (λ e. omega (arith, e, inside, same))), subst (λ (m : ℕ). one_at k m ≡ 1) same (at_own k))
    go rest (inr other) = omega (arith, rest (omega (arith, below, other)), at_other k n other)

-- how many pass a test, and how many of them have a key
module _ {A : Type 0} (key : A → ℕ) (test : A → Bool) where
  abbrev pub tally : List A → ℕ
  tally [] = 0
  tally (x ∷ xs) = cond (test x) (1 + tally xs) (tally xs)

  abbrev pub tally_with : ℕ → List A → ℕ
  tally_with c [] = 0
  tally_with c (x ∷ xs) = cond (test x) (one_at (key x) c + tally_with c xs) (tally_with c xs)

  abbrev pub AreBelow : ℕ → List A → Type 0
  AreBelow n [] = Unit {0}
  AreBelow n (x ∷ xs) = (key x < n) × AreBelow n xs

  -- each has one key
  pub tallies : (n : ℕ) (xs : List A) → AreBelow n xs → sum_below n (λ c. tally_with c xs) ≡ tally xs
  tallies n [] below = sum-none n (λ c. 0) (λ c inside. refl)
  tallies n (x ∷ xs) below = go (tallies n xs below.1) (test x)
    where
      go : sum_below n (λ c. tally_with c xs) ≡ tally xs → (b : Bool) → sum_below n (λ c. cond b (one_at (key x) c + tally_with c xs) (tally_with c xs)) ≡ cond b (1 + tally xs) (tally xs)
      go rest true = omega (arith, sum-both n (one_at (key x)) (λ c. tally_with c xs), sum-one n (key x) below.0, rest)
      go rest false = rest

  -- those of a key are those that a filter keeps
  pub tally-filter : (c : ℕ) (xs : List A) → tally_with c xs ≡ tally (filter (λ x. eqb (key x) c) xs)
  tally-filter c [] = refl
  tally-filter c (x ∷ xs) = go (eqb (key x) c) (tally-filter c xs)
    where
      go : (own : Bool) → tally_with c xs ≡ tally (filter (λ x. eqb (key x) c) xs)
          → cond (test x) (cond own 1 0 + tally_with c xs) (tally_with c xs) ≡ tally (cond own (x ∷ filter (λ x. eqb (key x) c) xs) (filter (λ x. eqb (key x) c) xs))
      go true rest = ap (λ (n : ℕ). cond (test x) (1 + n) n) rest
      go false rest = by (test x)
        where
          by : (b : Bool) → cond b (0 + tally_with c xs) (tally_with c xs) ≡ tally (filter (λ x. eqb (key x) c) xs)
          by true = omega (arith, rest)
          by false = rest

  pub tally-counts : (xs : List A) → tally xs ≡ count_by test xs
  tally-counts xs = is_count_by tally test refl (λ x rest. refl) xs
