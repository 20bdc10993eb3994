-- Two texts that are written one after the other.
use Rattle.std.proofs.Common.{ℕ, ◌+◌, List, ◌++◌, Option, Result, Ok, Err, length, min, take, sym, subst, ◌∙◌, arith}
use Rattle.std.specs.Prelude.{OnErr}
use Rattle.std.proofs.lemmas.List.{take-append-le, take_min}
use Rattle.std.proofs.Math.Seq.{take-append-add}
use Rattle.std.specs.Io.KnownBytes.{Appends}
use Rattle.std.proofs.KnownBytes.{Appends-trans}
use Rattle.pb_io.specs.SinkBytes.{AppendsSome}

-- some of the first one is some of both
pub some_of_first : (a b : Option (List ℕ)) (first second : List ℕ) → AppendsSome a b first → AppendsSome a b (first ++ second)
some_of_first a b first second some =
    (min some.0 (length first), subst (Appends a b) (sym (take_min some.0 first) ∙ sym (take-append-le (min some.0 (length first)) first second (omega arith))) some.1)

-- and so are the first one and some of the second
pub some_of_second : (a b c : Option (List ℕ)) (first second : List ℕ) → Appends a b first → AppendsSome b c second → AppendsSome a c (first ++ second)
some_of_second a b c first second all some =
    (length first + some.0, subst (Appends a c) (sym (take-append-add first second some.0)) (Appends-trans a b c first (take some.0 second) all some.1))

pub err_of_first : {T E : Type 0} (result : Result T E) (a b : Option (List ℕ)) (first second : List ℕ) → AppendsSome a b first → OnErr result (AppendsSome a b (first ++ second))
err_of_first (Ok done) a b first second some = tt
err_of_first (Err fault) a b first second some = some_of_first a b first second some

pub err_of_second : {T E : Type 0} (result : Result T E) (a b c : Option (List ℕ)) (first second : List ℕ) → Appends a b first → OnErr result (AppendsSome b c second) → OnErr result (AppendsSome a c (first ++ second))
err_of_second (Ok done) a b c first second all some = tt
err_of_second (Err fault) a b c first second all some = some_of_second a b c first second all some
