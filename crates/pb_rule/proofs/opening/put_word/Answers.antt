use Rattle.std.proofs.Common.{ℕ, set, sym, subst, ◌+◌, ◌*◌}
use Rattle.pb_rule.specs.Opening.{HasStart}
use Rattle.pb_rule.proofs.Opens.{put_start}
use Rattle.pb_rule.proofs.opening.put_word.Goals as goal

pub returns-clause-put : goal.returns-clause-put
returns-clause-put c = λ s there word_is has.
    subst (λ (n : ℕ). HasStart s c.args.client (4 * c.args.row + c.args.place + 1) (set c.args.start.now n c.args.word)) (sym c.row_word.ensures) (put_start s c.args.client c.args.row c.args.place c.args.word c.args.start.now there c.requires.row c.requires.place word_is has)
