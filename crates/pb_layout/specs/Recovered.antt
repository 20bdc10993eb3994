-- What a device holds, as a function of its lines: no region, one that is damaged at a line, or one that represents a standing.
use Rattle.std.specs.Prelude.{◌≡◌, ℕ, ◌+◌, ◌-◌, List, length, map}
use Rattle.std.specs.List.{range_with_len}
use Rattle.pb_pmem.specs.declared.line.Line.{Line}
use Rattle.pb_pmem.specs.declared.line.TheConstants.{LINES}
use Rattle.pb_pmem.specs.Lines.{line_at, word_of}
use Rattle.pb_object.specs.declared.kind.Kind.{Kind}
use Rattle.pb_object.specs.declared.kind.Kind.TheVariants.{Map, Stack, Heap, Queue}
use Rattle.pb_object.specs.Heap.{rising_of}
use Rattle.pb_object.specs.ItemLines.{count_in, item_in}
use Rattle.pb_object.specs.MapLines.{register_in}
use Rattle.pb_object.specs.Object.{State, Registers, Items, Rising, Waits}
use Rattle.pb_object.specs.Standing.{Standing, side_count}
use Rattle.pb_layout.specs.Damage.{AllPass, HasRegion, IsDamagedAt, header_in, round_in, record_in, object_lines_in, region_checks}
use Rattle.pb_layout.specs.Header.{word}
use Rattle.pb_layout.specs.Region.{cell_place}
use Rattle.pb_layout.specs.Represents.{kept_list}
use Rattle.pb_layout.specs.declared.header.Header.{Header}

-- the first so many values of a function
unfoldable pub listed : {X : Type 0} → ℕ → (ℕ → X) → List X
listed count value = map value (range_with_len 0 count)

-- the state that object lines say, where the format allows them; a heap's items rise, and a queue's items lie in the cells of their
-- positions
unfoldable pub state_by : Kind → ℕ → List Line → List Line → Header → State
state_by Map size lines image head = Registers (listed size (register_in lines))
state_by Stack size lines image head = Items size (listed (count_in lines) (item_in lines))
state_by Heap size lines image head = Rising size (rising_of (listed (count_in lines) (item_in lines)))
state_by Queue size lines image head = Waits size (record {
  taken = word_of lines 1 0;
  items = listed (word_of lines 0 0 - word_of lines 1 0) (λ place. word (line_at image (cell_place head (word_of lines 1 0 + place))) 1);
})

-- what the lines of a region say, where they pass all checks
unfoldable pub standing_in : List Line → Standing
standing_in image = record {
  kind = (header_in image).kind;
  clients = (header_in image).clients;
  size = (header_in image).size;
  rounds = listed (side_count (header_in image).kind) (round_in image);
  state = state_by (header_in image).kind (header_in image).size (object_lines_in image) image (header_in image);
  kept = listed (header_in image).clients (kept_list (header_in image) (record_in image));
}

-- the lines of a device are a region that represents s: they pass all checks, and s is what they say
pub record Represents (image : List Line) (s : Standing) : Type 0 where
  pub whole : length image ≡ LINES
  pub passes : AllPass (region_checks image)
  pub says : s ≡ standing_in image

-- what a device may hold
pub data Recovery : Type 0 where
  NoRegion : Recovery
  DamagedAt : ℕ → Recovery
  Recovered : Standing → Recovery

-- what it holds
abbrev pub Recovers : List Line → Recovery → Type 0
Recovers image NoRegion = ¬ HasRegion image
Recovers image (DamagedAt line) = IsDamagedAt image line
Recovers image (Recovered s) = Represents image s
