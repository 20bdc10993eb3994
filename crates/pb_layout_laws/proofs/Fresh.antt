-- A device of zeros is ready with no region.
use Rattle.std.proofs.Common.{◌≡◌, ℕ, List, [], ◌∷◌, None, ap, subst, sym, arith}
use Rattle.pb_pmem.specs.declared.line.Line.{Line}
use Rattle.pb_pmem.specs.Lines.{line_at, word_of, zero_line}
use Rattle.pb_pmem.proofs.CrashLaws.{IsAtRest-none}
use Rattle.pb_pmem.proofs.Lines.{contents-none}
use Rattle.pb_layout.specs.Damage.{HasRegion}
use Rattle.pb_layout.specs.Ready.{IsReady}
use Rattle.pb_layout.proofs.Readiness.{at_rest_is_ready}

no_magic : (base : List Line) → ((line : ℕ) → line_at base line ≡ zero_line) → ¬ HasRegion base
no_magic base zeros region =
    let first : word_of base 0 0 ≡ 0 = ap (λ (l : Line). word_of (l ∷ []) 0 0) (zeros 0) in
    omega (arith, first, region)

pub fresh_is_ready : (base : List Line) → ((line : ℕ) → line_at base line ≡ zero_line) → IsReady base [] (None ∷ [])
fresh_is_ready base zeros =
    at_rest_is_ready base [] None (IsAtRest-none base) (subst (λ (l : List Line). ¬ HasRegion l) (sym (contents-none base)) (no_magic base zeros))
