-- A store from its index word on: the images represent the state before the round or after it.
use Rattle.std.proofs.Common.{◌≡◌, ◌≢◌, ℕ, zero, suc, ◌+◌, ◌-◌, ◌%◌, ◌<◌, ◌≤◌, ◌⊎◌, List, [], ◌∷◌, length, take, drop, slice_index, Some, ap, subst, sym, refl, ◌∙◌, inl, inr, arith}
use Rattle.std.proofs.Math.Path.{fun_ext}
use Rattle.std.proofs.lemmas.Bool.{cases_eq}
use Rattle.pb_pmem.specs.declared.line.Line.{Line}
use Rattle.pb_pmem.specs.declared.log.LogOp.{LogOp}
use Rattle.pb_pmem.specs.Lines.{line_at}
use Rattle.pb_pmem.specs.Past.{Words}
use Rattle.pb_object.specs.History.{Round, after_round}
use Rattle.pb_object.specs.Object.{State, Registers, Items, Rising, Waits}
use Rattle.pb_object.specs.Standing.{Standing, side_count, rounds_of}
use Rattle.pb_object.proofs.Sides.{sides_few}
use Rattle.pb_layout.specs.Shape.{IsHeader}
use Rattle.pb_layout.specs.Header.{record_length}
use Rattle.pb_layout.specs.Ready.{IsSettlingWord}
use Rattle.pb_layout.specs.Record.{count_line_of}
use Rattle.pb_layout.specs.Region.{record_place, cell_place}
use Rattle.pb_layout.specs.Represents.{header_for, CellsRepresent}
use Rattle.pb_layout.specs.declared.header.Header.{Header}
use Rattle.pb_layout.proofs.OneRecovery.{parts, record_fits}
use Rattle.pb_layout.proofs.Readiness.{settling_word}
use Rattle.pb_layout.proofs.Records.{piece_is}
use Rattle.pb_layout.proofs.ChangedRegion.{same_piece}
use Rattle.pb_layout_laws.proofs.Entering.{IsOneOf, KeepsSettled}
use Rattle.pb_layout_laws.proofs.Geometry.{records_apart, record_after, parity-lt, cell_after}
use Rattle.pb_layout_laws.proofs.Images.{image_of, length-image_of, line_in, line_in-is, line_in-same, line_at-image_of, word_of-image_of}
use Rattle.pb_layout_laws.proofs.NextRecord.{IsSwitched, next_stands}
use Rattle.pb_layout_laws.proofs.Rounds.{next_side}
use Rattle.pb_layout_laws.proofs.Staging.{IsOld, place_of}
use Rattle.pb_layout_laws.proofs.Storing.{IsStore, store_parts, IsInOwnRecord, IsIndex, IsCommitting, IsCommitted, cell_fits}

-- where settling writes
pub settling_place : (line word to : ℕ) (s : Standing) → IsSettlingWord line word to s → (line < 3) × (word < 8)
settling_place line word to s (first, inl magic) = (omega (arith, magic.0), omega arith)
settling_place line word to s (first, inr (inl one)) = (omega (arith, one.0), omega arith)
settling_place line word to s (first, inr (inr two)) = (omega (arith, two.0), omega arith)

-- the word of an image that represents s where s says what it is
pub old_word : (base : List Line) (s : Standing) (words : Words) (line word to : ℕ) → 3 ≤ length base → IsSettlingWord line word to s → IsOld base s words → words line word ≡ to
old_word base s words line word to long settle_ops stands =
    let place = settling_place line word to s settle_ops in
    sym (word_of-image_of (length base) words line word (omega (arith, place.0)) (omega (arith, place.1))) ∙ sym (settling_word (image_of (length base) words) s line word to stands settle_ops)

-- the round number of a side is such a word
pub settling_round : (s : Standing) (side : ℕ) → side < 2 → IsSettlingWord (1 + side) 0 (rounds_of s side) s
settling_round s zero few = (refl, inr (inl (refl, refl)))
settling_round s (suc zero) few = (refl, inr (inr (refl, refl)))
settling_round s (suc (suc side)) few = absurd (omega arith)

-- what settling writes for a standing is in each image that represents it
pub keeps_one : (base : List Line) (s : Standing) → 3 ≤ length base → KeepsSettled (Some s ∷ []) (IsOld base s)
keeps_one base s long line word to (inr never) before image stands differs = absurd never
keeps_one base s long line word to (inl settle_ops) before image stands differs =
    subst (IsOld base s) (sym (fun_ext (λ l. fun_ext (λ w. same l w)))) stands
  where
    same : (l w : ℕ) → image l w ≡ before l w
    same l w = elim (differs l w) [
      | inl e ↦ e
      | inr written ↦ sym written.2 ∙ (sym (old_word base s before line word to long settle_ops stands) ∙ (λ i. before (written.0 i) (written.1 i)))
    ]

-- Turning

turning_index : (round : Round) (line word : ℕ) → IsIndex round line word ⊎ ¬ IsIndex round line word
turning_index round line word =
    elim (cases_eq line (1 + round.side)) [
      | inl e ↦ elim (cases_eq word 0) [ inl f ↦ inl (e, f) | inr other ↦ inr (λ both. other both.1) ]
      | inr other ↦ inr (λ both. other both.0)
    ]

-- lines that aren't the index line are as before
turning_line : {base : List Line} {s : Standing} {round : Round} {lines : List Line} (words : Words) (turning : IsCommitting base s round lines words) (line : ℕ) → line ≢ 1 + round.side → line_in words line ≡ line_in turning.before line
turning_line words turning line other =
    line_in-same words turning.before line (λ word few. turning.same line word (λ both. other both.0))

turning_image_line : {base : List Line} {s : Standing} {round : Round} {lines : List Line} (words : Words) (turning : IsCommitting base s round lines words) (line : ℕ) → line ≢ 1 + round.side → line < length base → line_at (image_of (length base) words) line ≡ line_at (image_of (length base) turning.before) line
turning_image_line {base} words turning line other inside =
    line_at-image_of (length base) words line inside ∙ (turning_line words turning line other ∙ sym (line_at-image_of (length base) turning.before line inside))

-- with the old number the image is the one before
pub turning_old : {base : List Line} {s : Standing} {round : Round} {lines : List Line} (words : Words) (turning : IsCommitting base s round lines words) → 3 ≤ length base → round.side < 2 → words (1 + round.side) 0 ≡ rounds_of s round.side → IsOld base s words
turning_old {base} {s} {round} words turning long few index =
    subst (IsOld base s) (sym (fun_ext (λ l. fun_ext (λ w. same l w)))) turning.staged.old
  where
    same : (l w : ℕ) → words l w ≡ turning.before l w
    same l w = elim (turning_index round l w) [
      | inl here ↦ (λ i. words (here.0 i) (here.1 i)) ∙ (index ∙ (sym (old_word base s turning.before (1 + round.side) 0 (rounds_of s round.side) long (settling_round s round.side few) turning.staged.old) ∙ (λ i. turning.before (sym here.0 i) (sym here.1 i))))
      | inr other ↦ turning.same l w other
    ]

cells_above : (a b : List Line) (head : Header) (state : State) → ((position : ℕ) → line_at b (cell_place head position) ≡ line_at a (cell_place head position)) → CellsRepresent a head state → CellsRepresent b head state
cells_above a b head (Registers registers) same hold = tt
cells_above a b head (Items size items) same hold = tt
cells_above a b head (Rising size items) same hold = tt
cells_above a b head (Waits size queue) same hold = λ place inside. same (queue.taken + place) ∙ hold place inside

-- with the new one it has the next record in use
pub turned_switched : {base : List Line} {log : List LogOp} {s : Standing} {round : Round} {lines : List Line} (store : IsStore base log s round lines) (words : Words) (turned : IsCommitted base s round lines words) → IsSwitched (image_of (length base) turned.turning.staged.mixed) (image_of (length base) words) s round lines
turned_switched {base} {log} {s} {round} {lines} store words turned = record {
  header = beside 0 (λ e. omega arith) (omega (arith, store.long)) (λ own. omega (arith, own.0, record_after (header_for s) round.side (rounds_of s round.side % 2)));
  index = line_at-image_of (length base) words (1 + round.side) (omega (arith, store.long, few)) ∙ line_in-is words (1 + round.side) (count_line_of (rounds_of s round.side + 1)) index_words;
  others = λ other below apart. beside (1 + other) (λ e. apart (omega arith)) (omega (arith, store.long)) (λ own. omega (arith, below, own.0, record_after (header_for s) round.side (rounds_of s round.side % 2)));
  spare = ap (λ (n : ℕ). take n (drop (place_of s round) (image_of (length base) words))) (sym store.next.long) ∙ piece_is (image_of (length base) words) lines (place_of s round) (omega (arith, spare_fits, length-image_of (length base) words)) spare_line;
  others_in_use = λ other below apart. same_piece (image_of (length base) words) (image_of (length base) turned.turning.staged.mixed) (record_place (header_for s) other (rounds_of s other % 2)) (record_length (header_for s)) (length-image_of (length base) words ∙ sym (length-image_of (length base) turned.turning.staged.mixed)) (λ place inside. beside (record_place (header_for s) other (rounds_of s other % 2) + place) (λ e. omega (arith, record_after (header_for s) other (rounds_of s other % 2), few)) (omega (arith, store.long, record_fits (header_for s) other (rounds_of s other % 2) valid below (parity-lt (rounds_of s other)))) (other_record other apart place inside));
  cells = cells_above (image_of (length base) turned.turning.before) (image_of (length base) words) (header_for s) (after_round s round).state (λ position. line (cell_place (header_for s) position) (λ e. omega (arith, cell_after (header_for s) position, few)) (cell_fits base s position store.long valid)) turned.turning.staged.cells;
}
  where
    valid : IsHeader (header_for s)
    valid = (store_parts store).valid

    here : round.side < side_count s.kind
    here = next_side s round store.next.legal

    few : round.side < 2
    few = sides_few s.kind round.side here

    line : (l : ℕ) → l ≢ 1 + round.side → l < length base → line_at (image_of (length base) words) l ≡ line_at (image_of (length base) turned.turning.before) l
    line l other inside = turning_image_line words turned.turning l other inside

    -- .. and as in the mixed image, but for the side's own record
    beside : (l : ℕ) → l ≢ 1 + round.side → l < length base → ¬ IsInOwnRecord s round l → line_at (image_of (length base) words) l ≡ line_at (image_of (length base) turned.turning.staged.mixed) l
    beside l other inside outside =
        line l other inside ∙ (line_at-image_of (length base) turned.turning.before l inside ∙ (line_in-same turned.turning.before turned.turning.staged.mixed l (λ word few. sym (turned.turning.staged.mix.same l word outside)) ∙ sym (line_at-image_of (length base) turned.turning.staged.mixed l inside)))

    other_record : (other : ℕ) → other ≢ round.side → (place : ℕ) → place < record_length (header_for s) → ¬ IsInOwnRecord s round (record_place (header_for s) other (rounds_of s other % 2) + place)
    other_record other apart place inside own =
        let first : ℕ = record_place (header_for s) round.side (rounds_of s round.side % 2) in
        let back : first + ((record_place (header_for s) other (rounds_of s other % 2) + place) - first) ≡ record_place (header_for s) other (rounds_of s other % 2) + place = omega (arith, own.0) in
        records_apart (header_for s) round.side (rounds_of s round.side % 2) other (rounds_of s other % 2) ((record_place (header_for s) other (rounds_of s other % 2) + place) - first) place (λ e. apart (omega (arith, e, parity-lt (rounds_of s round.side), parity-lt (rounds_of s other)))) (omega (arith, own.0, own.1)) inside back

    index_words : (word : ℕ) → word < 8 → words (1 + round.side) word ≡ slice_index (count_line_of (rounds_of s round.side + 1)).words word
    index_words zero inside = turned.index
    index_words (suc word) inside =
        turned.turning.same (1 + round.side) (suc word) (λ both. omega (arith, both.1)) ∙ (sym (word_of-image_of (length base) turned.turning.before (1 + round.side) (suc word) (omega (arith, store.long, few)) inside) ∙ ap (λ (l : Line). slice_index l.words (suc word)) ((parts (image_of (length base) turned.turning.before) s turned.turning.staged.old).rounds round.side few))

    spare_fits : place_of s round + length lines ≤ length base
    spare_fits = omega (arith, store.long, store.next.long, record_fits (header_for s) round.side ((rounds_of s round.side + 1) % 2) valid here (parity-lt (rounds_of s round.side + 1)))

    spare_line : (place : ℕ) → place < length lines → line_at (image_of (length base) words) (place_of s round + place) ≡ line_at lines place
    spare_line place inside =
        let after = record_after (header_for s) round.side ((rounds_of s round.side + 1) % 2) in
        line_at-image_of (length base) words (place_of s round + place) (omega (arith, spare_fits)) ∙ (turning_line words turned.turning (place_of s round + place) (λ e. omega arith) ∙ turned.turning.staged.spare place inside)

-- so it represents the next state
pub turned_new : {base : List Line} {log : List LogOp} {s : Standing} {round : Round} {lines : List Line} (store : IsStore base log s round lines) (words : Words) → IsCommitted base s round lines words → IsOld base (after_round s round) words
turned_new {base} {log} {s} {round} {lines} store words turned =
    let mix = turned.turning.staged.mix in
    next_stands (image_of (length base) turned.turning.staged.mixed) (image_of (length base) words) s round lines (parts (image_of (length base) turned.turning.staged.mixed) s mix.old) mix.next (length-image_of (length base) words ∙ store.long) (turned_switched store words turned)

-- one of two states
pub turning_two : {base : List Line} {log : List LogOp} {s : Standing} {round : Round} {lines : List Line} (store : IsStore base log s round lines) (words : Words) → IsCommitting base s round lines words → IsOneOf base (Some s ∷ Some (after_round s round) ∷ []) words
turning_two {base} {log} {s} {round} store words turning =
    elim turning.index [
      | inl index ↦ inl (turning_old words turning (omega (arith, store.long)) (sides_few s.kind round.side (next_side s round store.next.legal)) index)
      | inr index ↦ inr (inl (turned_new store words (record { turning = turning; index = index })))
    ]
