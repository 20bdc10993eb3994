use Rattle.std.proofs.Common.{ap, arith, ◌+◌, ◌*◌}
use Rattle.pb_object.specs.declared.request.Kept.{Kept}
use Rattle.pb_core.specs.Client.{row_word}
use Rattle.pb_rule.proofs.Opens.{start_count}
use Rattle.pb_rule.proofs.opening.put_row.Goals as goal

pub returns-clause-put : goal.returns-clause-put
returns-clause-put c = λ s there kept has.
    let row = c.args.row in
    let client = c.args.client in
    let a = c.put_word.ensures.put s there (ap (λ (k : Kept). row_word k 0) kept) (start_count s client (4 * row) (4 * row + 0) c.args.start.now (omega arith) has) in
    let b = c.put_word-2.ensures.put s there (ap (λ (k : Kept). row_word k 1) kept) (start_count s client (4 * row + 0 + 1) (4 * row + 1) _ (omega arith) a) in
    let d = c.put_word-3.ensures.put s there (ap (λ (k : Kept). row_word k 2) kept) (start_count s client (4 * row + 1 + 1) (4 * row + 2) _ (omega arith) b) in
    let e = c.put_word-4.ensures.put s there (ap (λ (k : Kept). row_word k 3) kept) (start_count s client (4 * row + 2 + 1) (4 * row + 3) _ (omega arith) d) in
    start_count s client (4 * row + 3 + 1) (4 * row + 4) _ (omega arith) e
