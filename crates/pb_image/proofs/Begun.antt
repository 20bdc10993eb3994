-- A device that was just made: its lines from bytes, and its rest.
use Rattle.std.proofs.Common.{◌≡◌, ℕ, zero, suc, List, length, refl, ◌∙◌, arith}
use Rattle.std.proofs.lemmas.List.{length_push}
use Rattle.pb_pmem.specs.declared.line.Line.{Line}
use Rattle.pb_pmem.specs.Crash.{IsAtRest}
use Rattle.pb_pmem.proofs.CrashLaws.{IsAtRest-none}
use Rattle.pb_image.specs.Bytes.{lines_of_bytes}
use Rattle.pb_image.specs.State.{ImageView, IsNew}

-- how many lines bytes have
pub length-lines_of_bytes : (count : ℕ) (bytes : List ℕ) → length (lines_of_bytes count bytes) ≡ count
unfolding lines_of_bytes
length-lines_of_bytes zero bytes = refl
length-lines_of_bytes (suc count) bytes =
    length_push (lines_of_bytes count bytes) _ ∙ omega (arith, length-lines_of_bytes count bytes)

-- a new device is at rest
pub IsAtRest-IsNew : (start : List Line) (size : ℕ) (image : ImageView) → IsNew start size image → IsAtRest image.base image.log
IsAtRest-IsNew start size image new = rw new.log (IsAtRest-none image.base)
