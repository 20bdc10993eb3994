-- Lemmas on `Any`, for lists that grow at either end.
use Rattle.std.proofs.Common.{◌≡◌, zero, suc, ◌⊎◌, Bool, true, false, cond, List, [], ◌∷◌, ◌++◌, Any, reverse, subst, sym, refl, inl, inr, arith}
use Rattle.std.proofs.lemmas.List.{reverse-append, reverse-reverse}

pub Any-nil : {X : Type 0} (P : X → Type 0) → Any P [] → ⊥
Any-nil P (k, x, inside, e, p) = absurd (omega arith)

pub Any-here : {X : Type 0} (P : X → Type 0) (x : X) (xs : List X) → P x → Any P (x ∷ xs)
Any-here P x xs p = (0, x, omega arith, refl, p)

pub Any-there : {X : Type 0} (P : X → Type 0) (x : X) (xs : List X) → Any P xs → Any P (x ∷ xs)
Any-there P x xs (k, y, inside, e, p) = (suc k, y, omega arith, e, p)

pub Any-cases : {X : Type 0} (P : X → Type 0) (x : X) (xs : List X) → Any P (x ∷ xs) → P x ⊎ Any P xs
Any-cases P x xs (zero, y, inside, e, p) = inl (subst P (sym e) p)
Any-cases P x xs (suc k, y, inside, e, p) = inr (k, y, omega arith, e, p)

pub Any-append_left : {X : Type 0} (P : X → Type 0) (xs ys : List X) → Any P xs → Any P (xs ++ ys)
Any-append_left P [] ys h = absurd (Any-nil P h)
Any-append_left P (x ∷ xs) ys h = go (Any-append_left P xs ys) (Any-cases P x xs h)
  where
    go : (Any P xs → Any P (xs ++ ys)) → P x ⊎ Any P xs → Any P (x ∷ (xs ++ ys))
    go rest (inl p) = Any-here P x (xs ++ ys) p
    go rest (inr a) = Any-there P x (xs ++ ys) (rest a)

pub Any-append_right : {X : Type 0} (P : X → Type 0) (xs ys : List X) → Any P ys → Any P (xs ++ ys)
Any-append_right P [] ys h = h
Any-append_right P (x ∷ xs) ys h = Any-there P x (xs ++ ys) (Any-append_right P xs ys h)

pub Any-append_cases : {X : Type 0} (P : X → Type 0) (xs ys : List X) → Any P (xs ++ ys) → Any P xs ⊎ Any P ys
Any-append_cases P [] ys h = inr h
Any-append_cases P (x ∷ xs) ys h = go (Any-append_cases P xs ys) (Any-cases P x (xs ++ ys) h)
  where
    there : Any P xs ⊎ Any P ys → Any P (x ∷ xs) ⊎ Any P ys
    there (inl a) = inl (Any-there P x xs a)
    there (inr b) = inr b

    go : (Any P (xs ++ ys) → Any P xs ⊎ Any P ys) → P x ⊎ Any P (xs ++ ys) → Any P (x ∷ xs) ⊎ Any P ys
    go rest (inl p) = inl (Any-here P x xs p)
    go rest (inr a) = there (rest a)

pub Any-weaker : {X : Type 0} (P Q : X → Type 0) (xs : List X) → ((x : X) → P x → Q x) → Any P xs → Any Q xs
Any-weaker P Q xs f (k, x, inside, e, p) = (k, x, inside, e, f x p)

-- an element that is there under a condition
pub Any-cond_cases : {X : Type 0} (P : X → Type 0) (b : Bool) (x : X) (xs : List X) → Any P (cond b (x ∷ xs) xs) → ((b ≡ true) × P x) ⊎ Any P xs
Any-cond_cases P true x xs h = go (Any-cases P x xs h)
  where
    go : P x ⊎ Any P xs → ((true ≡ true) × P x) ⊎ Any P xs
    go (inl p) = inl (refl, p)
    go (inr a) = inr a
Any-cond_cases P false x xs h = inr h

pub Any-cond_here : {X : Type 0} (P : X → Type 0) (b : Bool) (x : X) (xs : List X) → b ≡ true → P x → Any P (cond b (x ∷ xs) xs)
Any-cond_here P b x xs e p = rw e (Any-here P x xs p)

pub Any-cond_there : {X : Type 0} (P : X → Type 0) (b : Bool) (x : X) (xs : List X) → Any P xs → Any P (cond b (x ∷ xs) xs)
Any-cond_there P true x xs h = Any-there P x xs h
Any-cond_there P false x xs h = h

pub Any-reverse : {X : Type 0} (P : X → Type 0) (xs : List X) → Any P xs → Any P (reverse xs)
Any-reverse P [] h = h
Any-reverse P (x ∷ xs) h = rw (reverse-append (x ∷ []) xs) (go (Any-reverse P xs) (Any-cases P x xs h))
  where
    go : (Any P xs → Any P (reverse xs)) → P x ⊎ Any P xs → Any P (reverse xs ++ x ∷ [])
    go rest (inl p) = Any-append_right P (reverse xs) (x ∷ []) (Any-here P x [] p)
    go rest (inr a) = Any-append_left P (reverse xs) (x ∷ []) (rest a)

pub Any-from_reverse : {X : Type 0} (P : X → Type 0) (xs : List X) → Any P (reverse xs) → Any P xs
Any-from_reverse P xs h = rw reverse-reverse at (Any-reverse P (reverse xs) h)
