use Rattle.std.proofs.Common.{◌≡◌, List, [], ◌∷◌, OnOk, OnErr, slice_index, ap, subst, ◌∙◌}
use Rattle.pb_pmem.specs.declared.line.Line.{Line}
use Rattle.pb_pmem.specs.declared.log.LogOp.{LogOp}
use Rattle.pb_pmem.specs.declared.log.LogOp.TheVariants.{Whole, Word}
use Rattle.pb_pmem.specs.Lines.{zero_line}
use Rattle.pb_pmem.specs.Operations.{IsFailedPrefix, Does, Stops}
use Rattle.pb_layout.specs.RegionOps.{front_ops}
use Rattle.pb_pair.proofs.format.write_front.Goals as goal

-- the operations by the header's line
abbrev by_line : Line → List LogOp
by_line line =
    Whole 1 zero_line ∷ Whole 2 zero_line ∷ Word 0 1 (slice_index line.words 1) ∷ Word 0 2 (slice_index line.words 2) ∷ Word 0 3 (slice_index line.words 3) ∷ Word 0 4 (slice_index line.words 4) ∷ Word 0 5 (slice_index line.words 5) ∷ Word 0 6 (slice_index line.words 6) ∷ Word 0 7 (slice_index line.words 7) ∷ []

pub returns-clause-ok : goal.returns-clause-ok
returns-clause-ok g c =
    let made : List LogOp = Whole 1 c.count_line-to.result ∷ Whole 2 c.count_line-to.result ∷ c.header_word.result ∷ c.header_word-2.result ∷ c.header_word-3.result ∷ c.header_word-4.result ∷ c.header_word-5.result ∷ c.header_word-6.result ∷ c.header_word-7.result ∷ [] in
    let words : made ≡ by_line c.header_line-line.result = λ i. Whole 1 (c.count_line-to.ensures i) ∷ Whole 2 (c.count_line-to.ensures i) ∷ c.header_word.ensures i ∷ c.header_word-2.ensures i ∷ c.header_word-3.ensures i ∷ c.header_word-4.ensures i ∷ c.header_word-5.ensures i ∷ c.header_word-6.ensures i ∷ c.header_word-7.ensures i ∷ [] in
    let same : made ≡ front_ops c.args.head.now = words ∙ ap by_line c.header_line-line.ensures.line in
    subst (λ (ops : List LogOp). OnOk c.make_all.result (Does ops (g.P.Pmem.seen c.args.device.now) (g.P.Pmem.seen c.make_all.new.device))) same c.make_all.ensures.ok

pub returns-clause-err : goal.returns-clause-err
returns-clause-err g c =
    let made : List LogOp = Whole 1 c.count_line-to.result ∷ Whole 2 c.count_line-to.result ∷ c.header_word.result ∷ c.header_word-2.result ∷ c.header_word-3.result ∷ c.header_word-4.result ∷ c.header_word-5.result ∷ c.header_word-6.result ∷ c.header_word-7.result ∷ [] in
    let words : made ≡ by_line c.header_line-line.result = λ i. Whole 1 (c.count_line-to.ensures i) ∷ Whole 2 (c.count_line-to.ensures i) ∷ c.header_word.ensures i ∷ c.header_word-2.ensures i ∷ c.header_word-3.ensures i ∷ c.header_word-4.ensures i ∷ c.header_word-5.ensures i ∷ c.header_word-6.ensures i ∷ c.header_word-7.ensures i ∷ [] in
    let same : made ≡ front_ops c.args.head.now = words ∙ ap by_line c.header_line-line.ensures.line in
    subst (λ (ops : List LogOp). OnErr c.make_all.result (Stops (IsFailedPrefix ops) (g.P.Pmem.seen c.args.device.now) (g.P.Pmem.seen c.make_all.new.device))) same c.make_all.ensures.err
