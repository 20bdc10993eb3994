-- An engine over a pair: what the pair's fields say of it.
use Rattle.std.specs.Prelude.{Bool, true, false, List, [], ◌∷◌, Option, Some, None}
use Rattle.pb_object.specs.declared.request.Ask.{Ask}
use Rattle.pb_object.specs.Standing.{Standing}
use Rattle.pb_pair.specs.declared.known.Known.{Known}
use Rattle.pb_pair.specs.declared.known.Known.TheVariants.{Sure, Opened, Failed}
use Rattle.pb_pair.specs.View.{SideView, if_known}
use Rattle.pb_engine.specs.Asks.{asked_round}
use Rattle.pb_engine.specs.View.{FailedRound, KnownRecords}

-- the pair is sure
abbrev pub is_sure : Known → Bool
is_sure Sure = true
is_sure Opened = false
is_sure Failed = false

-- what is known of a side's records
abbrev pub known_records : SideView → KnownRecords
known_records part = record { in_use = if_known part.written part.lines; spare = part.spare }

-- the round of requests that failed, where there are some
abbrev pub doubt_of : Standing → List Ask → Bool → Option FailedRound
doubt_of s [] called = None
doubt_of s (ask ∷ asks) called = Some (record { round = asked_round s (ask ∷ asks); called = called })
