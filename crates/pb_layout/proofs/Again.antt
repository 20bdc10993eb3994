-- What was written is read again.
use Rattle.std.proofs.Common.{◌≡◌, ℕ, ◌≤◌, nat_le, ◌&&◌, zero, suc, Bool, true, false, Option, Some, None, Result, Ok, Err, is_some, IfOk, IfErr, MatchOption, List, [], ◌∷◌, refl, sym, ap, ◌∙◌, subst, eq-eqb, arith}
use Rattle.std.specs.Prelude.{replicate, slice_get}
use Rattle.std.proofs.lemmas.Bool.Decides.{nat_tests}
use Rattle.pb_pmem.specs.declared.line.Line.{Line}
use Rattle.pb_layout.specs.Cell.{cell_line_of, IsCell}
use Rattle.pb_layout.specs.Shape.{IsHeader}
use Rattle.pb_layout.specs.Header.{header_line_of, header_tests, named_header, old_record_length, old_first_record_line, word, IsHeaderFault}
use Rattle.pb_layout.specs.declared.fault.LayoutFault.{LayoutFault}
use Rattle.pb_layout.specs.declared.fault.LayoutFault.TheVariants.{NoMagic, BadHeader, BadRecord}
use Rattle.pb_layout.specs.declared.header.Header.{Header}
use Rattle.pb_object.proofs.CodeLemmas.{kind_of_code-code}
use Rattle.pb_layout.proofs.OneStanding.{same_header}
use Rattle.pb_layout.proofs.Readers.{named_header-of}

within_test : (low high n : ℕ) → low ≤ n → n ≤ high → (nat_le low n && nat_le n high) ≡ true
within_test low high n below above = grind (arith, nat_tests)

-- a header's line passes each of its tests
header_tests-of : (head : Header) → IsHeader head → header_tests (header_line_of head) ≡ replicate 8 true
header_tests-of head valid =
    let kind = ap is_some (kind_of_code-code head.kind) in
    let clients = within_test 1 16 head.clients valid.some_clients valid.few_clients in
    let size = within_test 1 1024 head.size valid.some_size valid.small_size in
    let length = eq-eqb (old_record_length head) (old_record_length (named_header (header_line_of head))) (ap old_record_length (sym (named_header-of head))) in
    let first = eq-eqb (old_first_record_line head) (old_first_record_line (named_header (header_line_of head))) (ap old_first_record_line (sym (named_header-of head))) in
    λ i. true ∷ true ∷ kind i ∷ clients i ∷ size i ∷ length i ∷ first i ∷ true ∷ []

all_true : (n place : ℕ) → slice_get (replicate n true) place ≡ Some false → ⊥
all_true zero place e = cc
all_true (suc n) zero e = cc
all_true (suc n) (suc place) e = all_true n place e

no_fault : (head : Header) → IsHeader head → (fault : LayoutFault) → IsHeaderFault (header_line_of head) fault → ⊥
no_fault head valid NoMagic fault = fault refl
no_fault head valid (BadHeader place) fault =
    all_true 8 place (subst (λ (tests : List Bool). slice_get tests place ≡ Some false) (header_tests-of head valid) fault.1.refused)
no_fault head valid (BadRecord line) fault = fault

pub header_read : (head : Header) (line : Line) (result : Result Header LayoutFault) → IsHeader head → line ≡ header_line_of head → IfOk result (λ h. IsHeader h × (line ≡ header_line_of h)) → IfErr result (IsHeaderFault line) → result ≡ Ok head
header_read head line (Ok h) valid written ok refused = ap (λ (x : Header). Ok x) (same_header h head (sym ok.1 ∙ written))
header_read head line (Err fault) valid written ok refused =
    absurd (no_fault head valid fault (subst (λ (l : Line). IsHeaderFault l fault) written refused))

pub cell_read : (position value : ℕ) (line : Line) (result : Option ℕ) → line ≡ cell_line_of position value → MatchOption result (¬ IsCell position line) (λ v. line ≡ cell_line_of position v) → result ≡ Some value
cell_read position value line None written read = absurd (read (value, written))
cell_read position value line (Some v) written read = ap (λ (x : ℕ). Some x) (ap (λ (l : Line). word l 1) (sym read ∙ written))
