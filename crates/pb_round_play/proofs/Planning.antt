-- The calls that store a record.
use Rattle.std.proofs.Common.{◌≡◌, ℕ, ◌+◌, suc, List, [], ◌∷◌, ◌++◌, length, take, drop, sym, ap, ◌∙◌, add-one, append_assoc, arith}
use Rattle.std.proofs.Math.Seq.{take-suc}
use Rattle.std.proofs.lemmas.List.{append-nil, length-take-le, get_or-drop}
use Rattle.pb_pmem.specs.declared.line.Line.{Line}
use Rattle.pb_pmem.specs.declared.log.LogOp.{LogOp}
use Rattle.pb_pmem.specs.Lines.{line_at, zero_line}
use Rattle.pb_layout.specs.RegionOps.{changes_from}
use Rattle.pb_layout.proofs.SparseWrites.{change_at, changes_from-none, changes_from-more, changes_from-append}
use Rattle.pb_pair.proofs.Changes.{IsPlace, line_found}

-- those that differ among the first lines, and the next one where it differs
changes_next : (first : ℕ) (before lines : List Line) (place : ℕ) (old line : Line) → IsPlace before lines place old line → changes_from first before (take (place + 1) lines) ≡ changes_from first before (take place lines) ++ change_at (first + place) old line
changes_next first before lines place old line at =
    let long : length (take place lines) ≡ place = length-take-le place lines (omega (arith, at.within)) in
    let there : line_at (drop place before) 0 ≡ old = get_or-drop place before 0 zero_line ∙ (ap (line_at before) (omega arith) ∙ line_found before place old at.old_within at.old_is) in
    let same : take (place + 1) lines ≡ take place lines ++ (line ∷ []) = ap (λ (n : ℕ). take n lines) (add-one place) ∙ (take-suc lines place line at.within ∙ ap (λ l. take place lines ++ (l ∷ [])) (sym at.is)) in
    ap (changes_from first before) same
    ∙ (changes_from-append first before (take place lines) (line ∷ [])
    ∙ (ap (λ (n : ℕ). changes_from first before (take place lines) ++ changes_from (first + n) (drop n before) (line ∷ [])) long
    ∙ ap (λ (l : List LogOp). changes_from first before (take place lines) ++ l)
    (changes_from-more (first + place) (drop place before) line []
    ∙ (ap (λ (none : List LogOp). change_at (first + place) (line_at (drop place before) 0) line ++ none) (changes_from-none (suc (first + place)) (drop 1 (drop place before)))
    ∙ (append-nil (change_at (first + place) (line_at (drop place before) 0) line) ∙ ap (λ (l : Line). change_at (first + place) l line) there)))))

-- none of them yet, and one more
pub planned_none : (first : ℕ) (before : List Line) (lines : List Line) (plan : List LogOp) → plan ≡ plan ++ changes_from first before (take 0 lines)
planned_none first before lines plan = sym (ap (λ (l : List LogOp). plan ++ l) (changes_from-none first before) ∙ append-nil plan)

pub planned_more : (first : ℕ) (before lines : List Line) (place : ℕ) (old line : Line) (start plan new : List LogOp) → IsPlace before lines place old line → plan ≡ start ++ changes_from first before (take place lines) → new ≡ plan ++ change_at (first + place) old line → new ≡ start ++ changes_from first before (take (place + 1) lines)
planned_more first before lines place old line start plan new at so_far added =
    added
    ∙ (ap (λ (l : List LogOp). l ++ change_at (first + place) old line) so_far
    ∙ (append_assoc start (changes_from first before (take place lines)) (change_at (first + place) old line)
    ∙ ap (λ (l : List LogOp). start ++ l) (sym (changes_next first before lines place old line at))))
