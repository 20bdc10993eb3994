use Rattle.pb_play.proofs.Publishing.{notes_faults}
use Rattle.pb_play.proofs.publish.note.Goals as goal

pub returns : goal.returns
returns c = notes_faults c.args.client c.args.side c.args.from c.args.to c.requires.holds c.requires.at c.note_count.ensures.after c.note_count.ensures.says
