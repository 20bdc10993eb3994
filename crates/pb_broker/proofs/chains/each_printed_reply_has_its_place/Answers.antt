use Rattle.pb_broker.proofs.Replied.{each_reply_stands}
use Rattle.pb_broker.proofs.chains.each_printed_reply_has_its_place.Goals as goal

pub returns : goal.returns
returns c = each_reply_stands
