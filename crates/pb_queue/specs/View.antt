-- A queue's engine, as its fields say what an engine is.
use Rattle.std.specs.Prelude.{◌≡◌, ◌≢◌, List, [], length, Option, Some, None}
use Rattle.pb_pmem.specs.declared.line.Line.{Line}
use Rattle.pb_object.specs.declared.kind.Kind.TheVariants.{Queue}
use Rattle.pb_object.specs.declared.request.Ask.{Ask}
use Rattle.pb_object.specs.Object.{Waits}
use Rattle.pb_object.specs.Standing.{Standing}
use Rattle.pb_layout.specs.Header.{record_length}
use Rattle.pb_layout.specs.NextRecord.{IsNextOf}
use Rattle.pb_layout.specs.Represents.{AreRecords}
use Rattle.pb_pair.specs.declared.known.Known.TheVariants.{Failed}
use Rattle.pb_pair.specs.Settle.{was_called}
use Rattle.pb_pair.specs.View.{DoubtView, PairView, IsPair, lines_of}
use Rattle.pb_engine.specs.Asks.{MayBeServed, side_asked, state_from, asked_round}
use Rattle.pb_engine.specs.Pairs.{is_sure, known_records, doubt_of}
use Rattle.pb_engine.specs.View.{EngineView}
use Rattle.pb_queue.specs.Items.{ItemsView}
use Rattle.pb_queue.specs.Standing.{standing_of}

-- the engine as contracts see it
abbrev pub twin_view : PairView → ItemsView → List Ask → EngineView
twin_view pair items asked = record {
  standing = standing_of pair items.sure;
  doubt = doubt_of (standing_of pair items.sure) asked (was_called pair.doubt);
  sure = is_sure pair.known;
  device = pair.device;
  first = known_records pair.first;
  second = known_records pair.second;
  first_record = pair.first.lines;
  second_record = pair.second.lines;
}

-- the record that a failed round left in the pair: none, where it failed among its cells, or the one that it makes of the one in use
abbrev pub LeavesRecord : PairView → Standing → List Ask → Option DoubtView → Type 0
LeavesRecord pair s asked None = Unit {0}
LeavesRecord pair s asked (Some doubt) = (doubt.side ≡ side_asked asked) × IsNextOf (lines_of pair) s (asked_round s asked) doubt.lines

-- a round that failed
pub record HasDoubt (pair : PairView) (s : Standing) (asked : List Ask) : Type 0 where
  pub failed : pair.known ≡ Failed
  pub may : MayBeServed s asked
  pub left : LeavesRecord pair s asked pair.doubt

-- The fields of an engine: the records in use and the items that wait for sure say the standing; the items are ahead by the requests of
-- the round that failed, if there is one
pub record IsTwin (pair : PairView) (items : ItemsView) (next : List Line) (asked : List Ask) : Type 0 where
  pub sound : IsPair pair
  pub queue : pair.head.kind ≡ Queue
  pub records : AreRecords (lines_of pair) (standing_of pair items.sure)
  pub size : items.size ≡ pair.head.size
  pub ahead_by : Waits items.size items.next ≡ state_from (Waits items.size items.sure) asked
  pub long : length next ≡ record_length pair.head
  pub none : asked ≡ [] → pair.doubt ≡ None
  pub some : asked ≢ [] → HasDoubt pair (standing_of pair items.sure) asked
