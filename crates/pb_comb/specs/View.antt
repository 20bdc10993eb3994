-- A combining engine, as its fields say what an engine is.
use Rattle.std.specs.Prelude.{◌≡◌, ◌≢◌, true, List, [], ◌∷◌, length, Some, None}
use Rattle.pb_pmem.specs.declared.line.Line.{Line}
use Rattle.pb_object.specs.declared.kind.Kind.{Kind}
use Rattle.pb_object.specs.declared.kind.Kind.TheVariants.{Queue}
use Rattle.pb_object.specs.declared.request.Ask.{Ask}
use Rattle.pb_object.specs.Object.{State}
use Rattle.pb_object.specs.Standing.{Standing}
use Rattle.pb_layout.specs.Header.{record_length}
use Rattle.pb_layout.specs.NextRecord.{IsNextOf}
use Rattle.pb_layout.specs.Record.{kept_in_slots}
use Rattle.pb_layout.specs.Recovered.{listed}
use Rattle.pb_layout.specs.Represents.{AreRecords}
use Rattle.pb_pair.specs.declared.known.Known.TheVariants.{Failed}
use Rattle.pb_pair.specs.Settle.{was_called}
use Rattle.pb_pair.specs.View.{DoubtView, PairView, IsPair, round_of_side, lines_of}
use Rattle.pb_engine.specs.Asks.{MayBeServed, state_from, asked_round}
use Rattle.pb_engine.specs.View.{EngineView}
use Rattle.pb_engine.specs.Pairs.{is_sure, known_records, doubt_of}

-- what the record in use and the object say
abbrev pub standing_of : PairView → State → Standing
standing_of pair state = record {
  kind = pair.head.kind;
  clients = pair.head.clients;
  size = pair.head.size;
  rounds = round_of_side pair 0 ∷ [];
  state = state;
  kept = listed pair.head.clients (kept_in_slots (lines_of pair 0));
}

-- the engine as contracts see it
abbrev pub comb_view : PairView → State → List Ask → EngineView
comb_view pair state asked = record {
  standing = standing_of pair state;
  doubt = doubt_of (standing_of pair state) asked (was_called pair.doubt);
  sure = is_sure pair.known;
  device = pair.device;
  first = known_records pair.first;
  second = known_records pair.second;
  first_record = pair.first.lines;
  second_record = pair.second.lines;
}

-- the record of a round that failed: it is what the round makes of the one in use
pub record HasDoubt (pair : PairView) (s : Standing) (asked : List Ask) : Type 0 where
  pub failed : pair.known ≡ Failed
  pub may : MayBeServed s asked
  pub doubt : DoubtView
  pub is : pair.doubt ≡ Some doubt
  pub side : doubt.side ≡ 0
  pub next : IsNextOf (lines_of pair) s (asked_round s asked) doubt.lines

-- The fields of an engine: the record in use says the object's state and the kept requests; the other copy of the object is ahead by
-- the requests of the round that failed, if there is one; and where the engine is sure, the next record begins as the one in use
pub record IsComb (kind : Kind) (pair : PairView) (state ahead : State) (next : List Line) (asked : List Ask) : Type 0 where
  pub sound : IsPair pair
  pub kind_is : pair.head.kind ≡ kind
  pub one_side : kind ≢ Queue
  pub records : AreRecords (lines_of pair) (standing_of pair state)
  pub ahead_by : ahead ≡ state_from state asked
  pub long : length next ≡ record_length pair.head
  pub carried : is_sure pair.known ≡ true → next ≡ lines_of pair 0
  pub none : asked ≡ [] → pair.doubt ≡ None
  pub some : asked ≢ [] → HasDoubt pair (standing_of pair state) asked
