-- A store: what a crash leaves after each of its operations.
use Rattle.std.proofs.Common.{◌≡◌, ℕ, ◌+◌, ◌%◌, ◌<◌, ◌≤◌, ◌⊎◌, ◌&&◌, nat_le, nat_lt, if◌then◌else◌, true, List, [], ◌∷◌, ◌++◌, length, reverse, slice_index, Some, ap, subst, sym, ◌∙◌, inl, inr, arith}
use Rattle.std.proofs.lemmas.Bool.{cases_lt}
use Rattle.std.proofs.lemmas.Bool.Decides.{nat_tests}
use Rattle.std.proofs.lemmas.List.{reverse-append, reverse-reverse}
use Rattle.pb_pmem.specs.declared.line.Line.{Line}
use Rattle.pb_pmem.specs.declared.line.TheConstants.{LINES}
use Rattle.pb_pmem.specs.declared.log.LogOp.{LogOp}
use Rattle.pb_pmem.specs.declared.log.LogOp.TheVariants.{Back, Fence}
use Rattle.pb_pmem.specs.Contents.{contents}
use Rattle.pb_pmem.specs.Crash.{is_back_of}
use Rattle.pb_pmem.specs.Lines.{line_at, word_of}
use Rattle.pb_pmem.specs.Past.{Words, now, AtNextMark, AllAtNextMark, IsGiven, Bounds}
use Rattle.pb_pmem.proofs.Bounds.{Bounds-Back, Bounds-Fence, AtNextMark-clean}
use Rattle.pb_pmem.proofs.AtNextMark.{AtNextMark-now}
use Rattle.pb_pmem.proofs.Lines.{length-contents, contents-append, contents-none, contents-first}
use Rattle.pb_object.specs.History.{Round, after_round}
use Rattle.pb_object.specs.Object.{State, Registers, Items, Rising, Waits}
use Rattle.pb_object.specs.Standing.{Standing, rounds_of}
use Rattle.pb_layout.specs.declared.header.Header.{Header}
use Rattle.pb_layout.specs.Shape.{IsHeader}
use Rattle.pb_layout.specs.Header.{record_length}
use Rattle.pb_layout.specs.Ready.{IsReady}
use Rattle.pb_layout.specs.Region.{record_place, cell_place}
use Rattle.pb_layout.specs.Represents.{header_for, record_of_side, RegionParts}
use Rattle.pb_layout.specs.Recovered.{Represents}
use Rattle.pb_pmem.specs.Operations.{writes_from}
use Rattle.pb_layout.specs.RegionOps.{fenced_ops}
use Rattle.pb_layout.specs.Stages.{IsLineFrom, StagesRecord}
use Rattle.pb_layout.specs.NextRecord.{IsNextRecord, next_position, AddedCellsRepresent, AreBacked, HasCells}
use Rattle.pb_layout_laws.proofs.Entering.{IsOneOf, ready_bounds}
use Rattle.pb_layout.proofs.OneRecovery.{parts, record_fits}
use Rattle.pb_layout.proofs.ChangedRegion.{same_piece}
use Rattle.pb_layout_laws.proofs.Geometry.{parity-lt, cell_offset}
use Rattle.pb_layout_laws.proofs.Images.{image_of, length-image_of, line_in, line_in-is, line_at-image_of}
use Rattle.pb_layout_laws.proofs.NextCells.{after_entries-later, cells_later}
use Rattle.pb_layout_laws.proofs.NextRecord.{next_record_along}
use Rattle.pb_layout_laws.proofs.ReadyWithOne.{only_member}
use Rattle.pb_layout_laws.proofs.Rounds.{next_side}
use Rattle.pb_layout_laws.proofs.Staging.{quiet_bounds, KeepsOutside, IsOld, HasNextCells, place_of, keeps_old, keeps_cells, all_lines_stage}

-- what a store begins with
pub record IsStore (base : List Line) (log : List LogOp) (s : Standing) (round : Round) (lines : List Line) : Type 0 where
  pub long : length base ≡ LINES
  pub ready : IsReady base log (Some s ∷ [])
  pub next : IsNextRecord (contents base log) s round lines
  pub cells : HasCells base log s round

-- and with the writes that put its record in its place
pub record IsStoreBy (base : List Line) (log : List LogOp) (s : Standing) (round : Round) (lines : List Line) (writes : List LogOp) : Type 0 where
  pub ready : IsReady base log (Some s ∷ [])
  pub next : IsNextRecord (contents base log) s round lines
  pub cells : HasCells base log s round
  pub stages : StagesRecord (place_of s round) lines (contents base log) writes

-- a base whose log leaves a region has all lines
pub whole_base : (base : List Line) (log : List LogOp) (s : Standing) → Represents (contents base log) s → length base ≡ LINES
whole_base base log s stands = sym (length-contents base log) ∙ stands.whole

pub begun : {base : List Line} {log : List LogOp} {s : Standing} {round : Round} {lines : List Line} {writes : List LogOp} → IsStoreBy base log s round lines writes → IsStore base log s round lines
begun {base} {log} {s} store = record {
  long = whole_base base log s (only_member (contents base log) s store.ready.holds);
  ready = store.ready;
  next = store.next;
  cells = store.cells;
}

pub store_stands : {base : List Line} {log : List LogOp} {s : Standing} {round : Round} {lines : List Line} → IsStore base log s round lines → Represents (contents base log) s
store_stands store = elim store.ready.holds [ inl stands ↦ stands | inr never ↦ absurd never ]

pub store_parts : {base : List Line} {log : List LogOp} {s : Standing} {round : Round} {lines : List Line} → IsStore base log s round lines → RegionParts (contents base log) s
store_parts {base} {log} {s} store = parts (contents base log) s (store_stands store)

-- the lines of a side's record in use
abbrev pub IsInOwnRecord : Standing → Round → ℕ → Type 0
IsInOwnRecord s round = IsLineFrom (record_place (header_for s) round.side (rounds_of s round.side % 2)) (record_length (header_for s))

-- an image whose words of some lines are those of other lines
with_lines : List Line → ℕ → ℕ → Words → Words
with_lines lines first count words line word = if nat_le first line && nat_lt line (first + count) then word_of lines line word else words line word

with_lines-inside : (lines : List Line) (first count : ℕ) (words : Words) (line word : ℕ) → IsLineFrom first count line → with_lines lines first count words line word ≡ word_of lines line word
unfolding with_lines
with_lines-inside lines first count words line word (low, high) = grind (arith, nat_tests)

with_lines-outside : (lines : List Line) (first count : ℕ) (words : Words) (line word : ℕ) → ¬ IsLineFrom first count line → with_lines lines first count words line word ≡ words line word
unfolding with_lines
with_lines-outside lines first count words line word outside =
    elim (cases_lt line first) [
      | inl below ↦ grind (arith, nat_tests)
      | inr above ↦ elim (cases_lt line (first + count)) [
        | inl inside ↦ absurd (outside (above, inside))
        | inr past ↦ grind (arith, nat_tests)
      ]
    ]

line_from : (first count line : ℕ) → IsLineFrom first count line ⊎ ¬ IsLineFrom first count line
line_from first count line =
    elim (cases_lt line first) [
      | inl below ↦ inr (λ inside. absurd (omega (arith, inside.0)))
      | inr above ↦ elim (cases_lt line (first + count)) [ inl inside ↦ inl (above, inside) | inr past ↦ inr (λ inside. absurd (omega (arith, inside.1))) ]
    ]

-- the spare record holds the new lines
abbrev pub HasSpare : Standing → Round → List Line → Words → Type 0
HasSpare s round lines words = (place : ℕ) → place < length lines → line_in words (place_of s round + place) ≡ line_at lines place

-- an image that represents s and has the words of another one but for the side's record in use, of which the round makes the new lines:
-- regions that represent the same may differ in a record's oldest slots, and the new record was made of the device's contents
pub record IsMixed (base : List Line) (s : Standing) (round : Round) (lines : List Line) (words mixed : Words) : Type 0 where
  pub old : IsOld base s mixed
  pub next : IsNextRecord (image_of (length base) mixed) s round lines
  pub same : (line word : ℕ) → ¬ IsInOwnRecord s round line → mixed line word ≡ words line word

-- all is there but the index word
pub record IsStaged (base : List Line) (s : Standing) (round : Round) (lines : List Line) (words : Words) : Type 0 where
  pub old : IsOld base s words
  pub mixed : Words
  pub mix : IsMixed base s round lines words mixed
  pub cells : HasNextCells base s round words
  pub spare : HasSpare s round lines words

-- and the index word is the old or the new one
abbrev pub IsIndex : Round → ℕ → ℕ → Type 0
IsIndex round line word = (line ≡ 1 + round.side) × (word ≡ 0)

pub record IsCommitting (base : List Line) (s : Standing) (round : Round) (lines : List Line) (words : Words) : Type 0 where
  pub before : Words
  pub staged : IsStaged base s round lines before
  pub same : (line word : ℕ) → ¬ IsIndex round line word → words line word ≡ before line word
  pub index : (words (1 + round.side) 0 ≡ rounds_of s round.side) ⊎ (words (1 + round.side) 0 ≡ rounds_of s round.side + 1)

pub record IsCommitted (base : List Line) (s : Standing) (round : Round) (lines : List Line) (words : Words) : Type 0 where
  pub turning : IsCommitting base s round lines words
  pub index : words (1 + round.side) 0 ≡ rounds_of s round.side + 1

-- Staging

-- a clean cell is held as it is
held_added : (base : List Line) (log : List LogOp) (head : Header) (from : ℕ) (state : State) (words : Words) → ((position : ℕ) → cell_place head position < length base) → AllAtNextMark base (reverse log) words → AreBacked log head from state → AddedCellsRepresent (contents base log) head from state → AddedCellsRepresent (image_of (length base) words) head from state
held_added base log head from (Registers registers) words fits at_next_mark backed hold = tt
held_added base log head from (Items size items) words fits at_next_mark backed hold = tt
held_added base log head from (Rising size items) words fits at_next_mark backed hold = tt
held_added base log head from (Waits size queue) words fits at_next_mark backed hold =
    λ place inside added.
    let line = cell_place head (queue.taken + place) in
    line_at-image_of (length base) words line (fits (queue.taken + place)) ∙ (line_in-is words line (line_at (contents base log) line) (λ word few. AtNextMark-clean base (reverse log) line word (words line word) (backed place inside added) (at_next_mark line word) ∙ ap (λ (l : List LogOp). word_of (contents base l) line word) (reverse-reverse log)) ∙ hold place inside added)

back_of_piece : (first count place : ℕ) → place < count → is_back_of (first + place) (Back first count) ≡ true
back_of_piece first count place inside = grind (arith, nat_tests)

pub contents_fenced : (a : List Line) (writes : List LogOp) (first count : ℕ) → contents a (fenced_ops writes first count) ≡ contents a writes
contents_fenced a writes first count =
    contents-append a writes (Back first count ∷ Fence ∷ []) ∙ (contents-first (contents a writes) (Back first count) (Fence ∷ []) ∙ (contents-first (contents a writes) Fence [] ∙ contents-none (contents a writes)))

-- the cells of a queue lie on the device
pub cell_fits : (base : List Line) (s : Standing) (position : ℕ) → length base ≡ LINES → IsHeader (header_for s) → cell_place (header_for s) position < length base
cell_fits base s position long valid =
    let few = cell_offset (header_for s) position valid in
    omega (arith, valid.small_size)

-- a spare record fits the device
pub place_fits : {base : List Line} {log : List LogOp} {s : Standing} {round : Round} {lines : List Line} → IsStore base log s round lines → place_of s round + length lines ≤ length (contents base log)
place_fits {base} {log} {s} {round} {lines} store =
    omega (arith, length-contents base log, store.long, store.next.long, record_fits (header_for s) round.side ((rounds_of s round.side + 1) % 2) (store_parts store).valid (next_side s round store.next.legal) (parity-lt (rounds_of s round.side + 1)))

-- a store of all lines is one
pub of_all_lines : {base : List Line} {log : List LogOp} {s : Standing} {round : Round} {lines : List Line} → IsStore base log s round lines → IsStoreBy base log s round lines (writes_from (place_of s round) lines)
of_all_lines {base} {log} {s} {round} {lines} store = record {
  ready = store.ready;
  next = store.next;
  cells = store.cells;
  stages = all_lines_stage (place_of s round) lines (contents base log) (place_fits store);
}

-- the facts that a store's proof goes by
staging_past : (log writes : List LogOp) (first count : ℕ) → reverse (log ++ fenced_ops writes first count) ≡ Fence ∷ Back first count ∷ (reverse writes ++ reverse log)
staging_past log writes first count =
    reverse-append log (fenced_ops writes first count) ∙ ap (λ (l : List LogOp). l ++ reverse log) (reverse-append writes (Back first count ∷ Fence ∷ []))

writes_now : (base : List Line) (log writes : List LogOp) → now base (reverse writes ++ reverse log) ≡ contents (contents base log) writes
writes_now base log writes =
    ap (contents base) (ap reverse (sym (reverse-append log writes)) ∙ reverse-reverse (log ++ writes)) ∙ contents-append base log writes

-- after staging, what is held has the spare record, and what may be left is as it was
pub staged_bounds : {base : List Line} {log : List LogOp} {s : Standing} {round : Round} {lines : List Line} {writes : List LogOp} → IsStoreBy base log s round lines writes → Bounds base (reverse (log ++ fenced_ops writes (place_of s round) (length lines))) (IsOld base s) (IsStaged base s round lines) (IsStaged base s round lines)
staged_bounds {base} {log} {s} {round} {lines} {writes} store =
    subst (λ (l : List LogOp). Bounds base l (IsOld base s) (IsStaged base s round lines) (IsStaged base s round lines)) (sym (staging_past log writes place (length lines))) (Bounds-Fence (Bounds-Back place (length lines) (IsStaged base s round lines) written given))
  where
    place : ℕ
    place = place_of s round

    old : (words : Words) → IsOneOf base (Some s ∷ []) words → IsOld base s words
    old words (inl stands) = stands
    old words (inr never) = absurd never

    own : ℕ
    own = record_place (header_for s) round.side (rounds_of s round.side % 2)

    mix_of : Words → Words
    mix_of words = with_lines (contents base log) own (record_length (header_for s)) words

    IsHeldOld : Words → Type 0
    IsHeldOld words = IsOld base s words × HasNextCells base s round words × IsOld base s (mix_of words)

    -- what is held has the cells of items that waited before, since it represents s, and those that the round adds, since they are clean
    next_cells : (words : Words) → IsOld base s words → AllAtNextMark base (reverse log) words → HasNextCells base s round words
    next_cells words stands at_next_mark =
        cells_later (image_of (length base) words) (header_for s) s.state (after_round s round).state (after_entries-later s round.entries) (parts (image_of (length base) words) s stands).cells (held_added base log (header_for s) (next_position s.state) (after_round s round).state words (λ position. cell_fits base s position (begun store).long (parts (image_of (length base) words) s stands).valid) at_next_mark store.cells.backed store.cells.hold)

    mix_held : (words : Words) → AllAtNextMark base (reverse log) words → AllAtNextMark base (reverse log) (mix_of words)
    mix_held words at_next_mark line word =
        elim (line_from own (record_length (header_for s)) line) [
          | inl inside ↦ subst (AtNextMark base (reverse log) line word) (ap (λ (l : List LogOp). word_of (contents base l) line word) (reverse-reverse log) ∙ sym (with_lines-inside (contents base log) own (record_length (header_for s)) words line word inside)) (AtNextMark-now base (reverse log) line word)
          | inr outside ↦ subst (AtNextMark base (reverse log) line word) (sym (with_lines-outside (contents base log) own (record_length (header_for s)) words line word outside)) (at_next_mark line word)
        ]

    entry : Bounds base (reverse log) (IsOld base s) (IsOld base s) IsHeldOld
    entry =
        let bounds = ready_bounds base log (Some s ∷ []) store.ready in
        record {
          all = λ words left. old words (bounds.all words left);
          last = λ words last. old words (bounds.last words last);
          at_next_mark = λ words at_next_mark. (old words (bounds.at_next_mark words at_next_mark), next_cells words (old words (bounds.at_next_mark words at_next_mark)) at_next_mark, old (mix_of words) (bounds.at_next_mark (mix_of words) (mix_held words at_next_mark)));
        }

    own_parts : RegionParts (contents base log) s
    own_parts = store_parts (begun store)

    mix_differs : (before image : Words) → ((line word : ℕ) → (image line word ≡ before line word) ⊎ IsLineFrom place (length lines) line) → (line word : ℕ) → (mix_of image line word ≡ mix_of before line word) ⊎ IsLineFrom place (length lines) line
    mix_differs before image differs line word =
        elim (line_from own (record_length (header_for s)) line) [
          | inl inside ↦ inl (with_lines-inside (contents base log) own (record_length (header_for s)) image line word inside ∙ sym (with_lines-inside (contents base log) own (record_length (header_for s)) before line word inside))
          | inr outside ↦ elim (differs line word) [
            | inl same ↦ inl (with_lines-outside (contents base log) own (record_length (header_for s)) image line word outside ∙ (same ∙ sym (with_lines-outside (contents base log) own (record_length (header_for s)) before line word outside)))
            | inr there ↦ inr there
          ]
        ]

    -- the mixed image has the contents' record in use
    own_fits : own + record_length (header_for s) ≤ length base
    own_fits =
        omega (arith, (begun store).long, record_fits (header_for s) round.side (rounds_of s round.side % 2) own_parts.valid (next_side s round store.next.legal) (parity-lt (rounds_of s round.side)))

    own_record : (words : Words) → record_of_side (image_of (length base) (mix_of words)) s round.side ≡ record_of_side (contents base log) s round.side
    own_record words =
        same_piece (image_of (length base) (mix_of words)) (contents base log) own (record_length (header_for s)) (length-image_of (length base) (mix_of words) ∙ sym (length-contents base log)) (λ at inside. line_at-image_of (length base) (mix_of words) (own + at) (omega (arith, own_fits)) ∙ line_in-is (mix_of words) (own + at) (line_at (contents base log) (own + at)) (λ word few. with_lines-inside (contents base log) own (record_length (header_for s)) words (own + at) word (omega arith, omega arith)))

    mixed : (words : Words) → IsOld base s (mix_of words) → IsMixed base s round lines words (mix_of words)
    mixed words stands = record {
      old = stands;
      next = next_record_along (contents base log) (image_of (length base) (mix_of words)) s round lines own_parts (parts (image_of (length base) (mix_of words)) s stands) (own_record words) store.next;
      same = λ line word outside. with_lines-outside (contents base log) own (record_length (header_for s)) words line word outside;
    }

    keeps_held : KeepsOutside place (length lines) IsHeldOld
    keeps_held before image both differs = (
      keeps_old base s round (length lines) store.next.long before image both.0 differs,
      keeps_cells base s round (length lines) (begun store).long own_parts.valid own_parts.kind (next_side s round store.next.legal) before image both.1 differs,
      keeps_old base s round (length lines) store.next.long (mix_of before) (mix_of image) both.2 (mix_differs before image differs),
    )

    written : Bounds base (reverse writes ++ reverse log) (IsOld base s) (IsOld base s) IsHeldOld
    written =
        quiet_bounds (reverse log) place (length lines) (IsOld base s) IsHeldOld (λ words both. both.0) (keeps_old base s round (length lines) store.next.long) keeps_held writes store.stages.all entry

    given : (words : Words) → IsHeldOld words → IsGiven (Back place (length lines)) (now base (reverse writes ++ reverse log)) words → IsStaged base s round lines words
    given words both is_given = record {
      old = both.0;
      mixed = mix_of words;
      mix = mixed words both.2;
      cells = both.1;
      spare = λ i inside. line_in-is words (place + i) (line_at lines i) (λ word few. is_given (place + i) word (back_of_piece place (length lines) i inside) ∙ (ap (λ (l : List Line). word_of l (place + i) word) (writes_now base log writes) ∙ ap (λ (l : Line). slice_index l.words word) (store.stages.there i inside)));
    }
