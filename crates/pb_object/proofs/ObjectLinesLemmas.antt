-- Lines represent one state at most, and none of those that represent a state is refused.
use Rattle.std.proofs.Common.{◌≡◌, ◌≢◌, ℕ, List, refl, sym, ap, ◌∙◌, arith}
use Rattle.std.proofs.lemmas.List.{ext_get_or}
use Rattle.pb_pmem.specs.declared.line.Line.{Line}
use Rattle.pb_object.specs.declared.kind.Kind.TheVariants.{Queue}
use Rattle.pb_object.specs.Heap.{rising_of}
use Rattle.pb_object.specs.ItemLines.{WordsRepresentItems}
use Rattle.pb_object.specs.Map.{empty_register}
use Rattle.pb_object.specs.Object.{State, Registers, Items, Rising, Waits}
use Rattle.pb_object.specs.ObjectLines.{kind_of, size_of, WordsRepresent, LinesRepresent, IsFirstRefused}

pub not_refused : (lines : List Line) (state : State) (line : ℕ) → LinesRepresent lines state → IsFirstRefused (kind_of state) (size_of state) lines line → ⊥
not_refused lines state line stand refused = refused.refused (stand.allowed line refused.within)

pub same_items : (lines : List Line) (xs ys : List ℕ) → WordsRepresentItems lines xs → WordsRepresentItems lines ys → xs ≡ ys
same_items lines xs ys held others =
    ext_get_or 0 xs ys (held.count ∙ sym others.count) (λ place h. held.each place h ∙ sym (others.each place (omega arith)))

-- what one lot of lines holds: the same state, but for a queue's items, which lie elsewhere
pub same_held : (lines : List Line) (a b : State) → kind_of a ≡ kind_of b → size_of a ≡ size_of b → kind_of a ≢ Queue → WordsRepresent lines a → WordsRepresent lines b → a ≡ b
same_held lines (Registers xs) (Registers ys) kind size no_queue held others =
    ap Registers (ext_get_or empty_register xs ys size (λ key h. held key h ∙ sym (others key (omega arith))))
same_held lines (Items n xs) (Items m ys) kind size no_queue held others = let same = same_items lines xs ys held others in cc
same_held lines (Rising n xs) (Rising m ys) kind size no_queue held others =
    let same : xs ≡ ys = held.2 ∙ ap rising_of (same_items lines held.0 others.0 held.1 others.1) ∙ sym others.2 in cc
same_held lines (Waits n p) b kind size no_queue held others = absurd (no_queue refl)
same_held lines a b kind size no_queue held others = absurd (cc)

pub same_state : (lines : List Line) (a b : State) → kind_of a ≡ kind_of b → size_of a ≡ size_of b → kind_of a ≢ Queue → LinesRepresent lines a → LinesRepresent lines b → a ≡ b
same_state lines a b kind size no_queue stand other = same_held lines a b kind size no_queue stand.hold other.hold
