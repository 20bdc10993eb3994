-- Lists that are cut in two ways.
use Rattle.std.proofs.Common.{◌≡◌, ◌⊎◌, List, [], ◌∷◌, ◌++◌, sym, refl, inl, inr}
use Rattle.std.specs.List.{All}
use Rattle.std.proofs.lemmas.List.{append_assoc}
use Rattle.std.proofs.lemmas.List.Elements.{All-from_recursion, recursion_from_All}
use Rattle.std.specs.List.{AllByRecursion}

-- what one cut leaves of the other
pub record IsBefore {X : Type 0} (a b c d : List X) : Type 0 where
  pub more : List X
  pub first : c ≡ a ++ more
  pub rest : b ≡ more ++ d

-- of two cuts of a list one is before the other
pub two_cuts : {X : Type 0} (a b c d : List X) → a ++ b ≡ c ++ d → IsBefore a b c d ⊎ IsBefore c d a b
two_cuts [] b c d e = inl (record { more = c; first = refl; rest = e })
two_cuts (x ∷ a) b [] d e = inr (record { more = x ∷ a; first = refl; rest = sym e })
two_cuts (x ∷ a) b (y ∷ c) d e = go (two_cuts a b c d (cc))
  where
    head : x ≡ y
    head = cc

    go : IsBefore a b c d ⊎ IsBefore c d a b → IsBefore (x ∷ a) b (y ∷ c) d ⊎ IsBefore (y ∷ c) d (x ∷ a) b
    go (inl before) = inl (record {
      more = before.more;
      first = (λ i. sym head i ∷ before.first i);
      rest = before.rest;
    })
    go (inr before) =
        inr (record { more = before.more; first = (λ i. head i ∷ before.first i); rest = before.rest })

-- one more element moves from the rest to the front
pub cut_on : {X : Type 0} (a : List X) (x : X) (b : List X) → (a ++ x ∷ []) ++ b ≡ a ++ x ∷ b
cut_on a x b = append_assoc a (x ∷ []) b

front_by : {X : Type 0} (P : X → Type 0) (a b : List X) → AllByRecursion P (a ++ b) → AllByRecursion P a
front_by P [] b all = tt
front_by P (x ∷ a) b all = (all.0, front_by P a b all.1)

pub All-front : {X : Type 0} (P : X → Type 0) (a b : List X) → All P (a ++ b) → All P a
All-front P a b all = All-from_recursion P a (front_by P a b (recursion_from_All P (a ++ b) all))
