-- What a lazy file ends as, once a reference to its file has ended.
use Rattle.std.specs.Prelude.{Result, Some}
use Rattle.std.specs.Borrow.{Fml, LendsIfOk, MutBor, RattleType}
use Rattle.pb_file.specs.declared.lazy_file.LazyFile.{LazyFile}
use Rattle.pb_file.specs.contracts.lazy_file.LazyFile.{the_row}

module _ (R F D : RattleType) where
  -- it has the file as it was last written through the reference, and after an error it is as before
  abbrev pub LendsFile : {E : Type 0} → MutBor (LazyFile R.Denot F.Denot D.Denot) → Result (MutBor F.Denot) E → Fml
  LendsFile lazy result = LendsIfOk (the_row R F D) F lazy result (λ file. record lazy.now { opened = Some file }) lazy.now
