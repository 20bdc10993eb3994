-- Numbers in a row, read one by one.
use Rattle.std.proofs.Common.{◌≡◌, ℕ, ◌<◌, cond, eqb, List, [], ◌∷◌, ◌++◌, Option, Some, None, length, take, refl, sym, ap, ◌∙◌, arith}
use Rattle.std.proofs.lemmas.Bool.{cond-true, cond-false, eq-eqb, ne_eqb}
use Rattle.std.proofs.lemmas.List.{append-nil, append_assoc, length-append}
use Rattle.std.proofs.lemmas.Option.{none-some, same_Some, option_and_then_some}
use Rattle.std.specs.Option.{option_and_then}
use Rattle.pb_object.specs.Number.{number_of}
use Rattle.pb_script.specs.Request.{each, arguments_of}

pub each_none : {A B : Type 0} (give : A → Option B) → each give [] ≡ Some []
unfolding each
each_none give = refl

pub each_first_none : {A B : Type 0} (give : A → Option B) (x : A) (xs : List A) → give x ≡ None → each give (x ∷ xs) ≡ None
unfolding each
each_first_none give x xs e = rw e refl

pub each_first_some : {A B : Type 0} (give : A → Option B) (x : A) (xs : List A) (y : B) → give x ≡ Some y → each give (x ∷ xs) ≡ option_and_then (λ ys. Some (y ∷ ys)) (each give xs)
unfolding each
each_first_some give x xs y e = rw e refl

-- the numbers of these words are those read so far and then those of the words that are left
pub record HasRead (words : List (List ℕ)) (prefix : List ℕ) (left : List (List ℕ)) : Type 0 where
  pub numbers : each number_of words ≡ option_and_then (λ more. Some (prefix ++ more)) (each number_of left)

read_nothing_by : (o : Option (List ℕ)) → o ≡ option_and_then (λ more. Some ([] ++ more)) o
read_nothing_by None = refl
read_nothing_by (Some more) = refl

pub HasRead_nothing : (words : List (List ℕ)) → HasRead words [] words
HasRead_nothing words = record { numbers = read_nothing_by (each number_of words) }

read_more_by : (prefix : List ℕ) (n : ℕ) (o : Option (List ℕ)) → option_and_then (λ more. Some (prefix ++ more)) (option_and_then (λ more. Some (n ∷ more)) o) ≡ option_and_then (λ more. Some ((prefix ++ n ∷ []) ++ more)) o
read_more_by prefix n None = refl
read_more_by prefix n (Some more) = ap (λ ns. Some ns) (sym (append_assoc prefix (n ∷ []) more))

pub HasRead_more : (words : List (List ℕ)) (prefix : List ℕ) (word : List ℕ) (left : List (List ℕ)) (n : ℕ) → HasRead words prefix (word ∷ left) → number_of word ≡ Some n → HasRead words (prefix ++ n ∷ []) left
HasRead_more words prefix word left n h e = record {
  numbers = h.numbers ∙ ap (option_and_then (λ more. Some (prefix ++ more))) (each_first_some number_of word left n e) ∙ read_more_by prefix n (each number_of left);
}

arguments_from_numbers : (count : ℕ) (words : List (List ℕ)) (o : Option (List ℕ)) → each number_of words ≡ o → arguments_of count words ≡ option_and_then (λ ns. cond (eqb (length ns) count) (Some ns) None) o
unfolding arguments_of
arguments_from_numbers count words o e = ap (option_and_then (λ ns. cond (eqb (length ns) count) (Some ns) None)) e

-- all were read
pub arguments_all : (count : ℕ) (words : List (List ℕ)) (prefix : List ℕ) → HasRead words prefix [] → length prefix ≡ count → arguments_of count words ≡ Some prefix
arguments_all count words prefix h len =
    arguments_from_numbers count words (Some prefix) (h.numbers ∙ ap (option_and_then (λ more. Some (prefix ++ more))) (each_none number_of) ∙ ap (λ ns. Some ns) (append-nil prefix))
    ∙ cond-true (eqb (length prefix) count) _ _ (eq-eqb (length prefix) count len)

-- there are too few
pub arguments_few : (count : ℕ) (words : List (List ℕ)) (prefix : List ℕ) → HasRead words prefix [] → length prefix < count → arguments_of count words ≡ None
arguments_few count words prefix h few =
    arguments_from_numbers count words (Some prefix) (h.numbers ∙ ap (option_and_then (λ more. Some (prefix ++ more))) (each_none number_of) ∙ ap (λ ns. Some ns) (append-nil prefix))
    ∙ cond-false (eqb (length prefix) count) _ _ (ne_eqb (length prefix) count (λ e. omega arith))

-- the next is no number
pub arguments_bad : (count : ℕ) (words : List (List ℕ)) (prefix : List ℕ) (word : List ℕ) (left : List (List ℕ)) → HasRead words prefix (word ∷ left) → number_of word ≡ None → arguments_of count words ≡ None
arguments_bad count words prefix word left h e =
    arguments_from_numbers count words None (h.numbers ∙ ap (option_and_then (λ more. Some (prefix ++ more))) (each_first_none number_of word left e))

many_by : (count : ℕ) (prefix : List ℕ) (n : ℕ) (o : Option (List ℕ)) → length prefix ≡ count → option_and_then (λ ns. cond (eqb (length ns) count) (Some ns) None) (option_and_then (λ more. Some (prefix ++ more)) (option_and_then (λ more. Some (n ∷ more)) o)) ≡ None
many_by count prefix n None len = refl
many_by count prefix n (Some more) len = cond-false (eqb (length (prefix ++ n ∷ more)) count) _ _ (ne_eqb (length (prefix ++ n ∷ more)) count (λ e. omega (arith, length-append prefix (n ∷ more))))

many_from : (count : ℕ) (words : List (List ℕ)) (prefix : List ℕ) (word : List ℕ) (left : List (List ℕ)) (o : Option ℕ) → number_of word ≡ o → HasRead words prefix (word ∷ left) → length prefix ≡ count → arguments_of count words ≡ None
many_from count words prefix word left None e h len = arguments_bad count words prefix word left h e
many_from count words prefix word left (Some n) e h len =
    arguments_from_numbers count words _ (h.numbers ∙ ap (option_and_then (λ more. Some (prefix ++ more))) (each_first_some number_of word left n e))
    ∙ many_by count prefix n (each number_of left) len

-- there is one too many
pub arguments_many : (count : ℕ) (words : List (List ℕ)) (prefix : List ℕ) (word : List ℕ) (left : List (List ℕ)) → HasRead words prefix (word ∷ left) → length prefix ≡ count → arguments_of count words ≡ None
arguments_many count words prefix word left h len = many_from count words prefix word left (number_of word) refl h len

push_by : {B : Type 0} (y : B) (o : Option (List B)) (p : Option B) → option_and_then (λ ys. Some (y ∷ ys)) (option_and_then (λ ys. option_and_then (λ w. Some (ys ++ w ∷ [])) p) o) ≡ option_and_then (λ ys. option_and_then (λ w. Some (ys ++ w ∷ [])) p) (option_and_then (λ ys. Some (y ∷ ys)) o)
push_by y None p = refl
push_by y (Some ys) None = refl
push_by y (Some ys) (Some w) = refl

each_push_by : {A B : Type 0} (give : A → Option B) (z : A) (zs : List A) (x : A) (o : Option B) → give z ≡ o → (each give (zs ++ x ∷ []) ≡ option_and_then (λ ys. option_and_then (λ y. Some (ys ++ y ∷ [])) (give x)) (each give zs)) → each give ((z ∷ zs) ++ x ∷ []) ≡ option_and_then (λ ys. option_and_then (λ y. Some (ys ++ y ∷ [])) (give x)) (each give (z ∷ zs))
each_push_by give z zs x None e more = each_first_none give z (zs ++ x ∷ []) e ∙ sym (ap (option_and_then (λ ys. option_and_then (λ y. Some (ys ++ y ∷ [])) (give x))) (each_first_none give z zs e))
each_push_by give z zs x (Some y) e more =
    each_first_some give z (zs ++ x ∷ []) y e ∙ ap (option_and_then (λ ys. Some (y ∷ ys))) more ∙ push_by y (each give zs) (give x)
    ∙ sym (ap (option_and_then (λ ys. option_and_then (λ y. Some (ys ++ y ∷ [])) (give x))) (each_first_some give z zs y e))

-- one more at the end
pub each_push : {A B : Type 0} (give : A → Option B) (xs : List A) (x : A) → each give (xs ++ x ∷ []) ≡ option_and_then (λ ys. option_and_then (λ y. Some (ys ++ y ∷ [])) (give x)) (each give xs)
unfolding each
each_push give [] x = elim (give x) as (λ o. option_and_then (λ y. Some (y ∷ [])) o ≡ option_and_then (λ y. Some (y ∷ [])) o) [ None ↦ refl | Some y ↦ refl ]
each_push give (z ∷ zs) x = each_push_by give z zs x (give z) refl (each_push give zs x)

each_front_by : {A B : Type 0} (give : A → Option B) (x : A) (xs ys : List A) (zs : List B) (o : Option B) → give x ≡ o → each give (x ∷ (xs ++ ys)) ≡ Some zs → ((ws : List B) → each give (xs ++ ys) ≡ Some ws → each give xs ≡ Some (take (length xs) ws)) → each give (x ∷ xs) ≡ Some (take (length (x ∷ xs)) zs)
each_front_by give x xs ys zs None e h prefix = absurd (none-some zs (sym (each_first_none give x (xs ++ ys) e) ∙ h))
each_front_by give x xs ys zs (Some y) e h prefix =
    option_and_then_some (λ ws. Some (y ∷ ws)) (each give (xs ++ ys)) zs (sym (each_first_some give x (xs ++ ys) y e) ∙ h)
    (λ ws read whole. each_first_some give x xs y e ∙ ap (option_and_then (λ ws. Some (y ∷ ws))) (prefix ws read) ∙ ap (λ vs. Some (take (length (x ∷ xs)) vs)) (same_Some (y ∷ ws) zs whole))

-- those read so far, where all were read
pub each_front : {A B : Type 0} (give : A → Option B) (xs ys : List A) (zs : List B) → each give (xs ++ ys) ≡ Some zs → each give xs ≡ Some (take (length xs) zs)
each_front give [] ys zs h = each_none give
each_front give (x ∷ xs) ys zs h = each_front_by give x xs ys zs (give x) refl h (λ ws. each_front give xs ys ws)
