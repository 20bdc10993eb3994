-- One more of which all is so.
use Rattle.std.proofs.Common.{zero, suc, List, [], ◌∷◌, ◌++◌, All, arith}

pub all_more : {A : Type 0} (P : A → Type 0) (xs : List A) (x : A) → All P xs → P x → All P (xs ++ x ∷ [])
all_more P [] x all own zero d inside = own
all_more P [] x all own (suc k) d inside = absurd (omega (arith, inside))
all_more P (y ∷ xs) x all own zero d inside = all 0 d (omega arith)
all_more P (y ∷ xs) x all own (suc k) d inside =
    all_more P xs x (λ j e there. all (suc j) e (omega (arith, there))) own k d (omega (arith, inside))
