-- Bytes that are read or written in several calls.
use Rattle.std.proofs.Common.{◌≡◌, ℕ, ◌+◌, ◌≤◌, List, ◌++◌, Option, length, take, drop, sym, subst, ap, ◌∙◌}
use Rattle.std.proofs.lemmas.List.{take-append-le, length-take-le}
use Rattle.std.proofs.Math.Seq.{take-add, take-append-add}
use Rattle.std.specs.Io.KnownBytes.{Appends, Consumes}
use Rattle.std.proofs.KnownBytes.{Appends-trans, Consumes-trans}

-- the first bytes of a text, and then some of the rest, are first bytes of it
pub appends_more : (a b c : Option (List ℕ)) (text rest : List ℕ) (sent more : ℕ) → rest ≡ drop sent text → Appends a b (take sent text) → Appends b c (take more rest) → Appends a c (take (sent + more) text)
appends_more a b c text rest sent more rest_is first second =
    subst (Appends a c) (sym (take-add sent more text ∙ ap (λ l. take sent text ++ take more l) (sym rest_is))) (Appends-trans a b c _ _ first second)

-- what one more read puts after the bytes that are there
pub consumes_more : (a b c : Option (List ℕ)) (old new rest : List ℕ) (len count : ℕ) → len ≤ length old → count ≤ length new → Consumes a b (take len old) → Consumes b c (take count new) → Consumes a c (take (len + count) (take len old ++ (new ++ rest)))
consumes_more a b c old new rest len count within fits first second =
    let prefix : length (take len old) ≡ len = length-take-le len old within in
    let same : take (len + count) (take len old ++ (new ++ rest)) ≡ take len old ++ take count new =
    ap (λ n. take (n + count) (take len old ++ (new ++ rest))) (sym prefix) ∙ take-append-add (take len old) (new ++ rest) count
    ∙ ap (λ l. take len old ++ l) (take-append-le count new rest fits) in
    subst (Consumes a c) (sym same) (Consumes-trans a b c _ _ first second)
