-- A store that is left anywhere: what it covers, and how it leaves the device.
use Rattle.std.proofs.Common.{◌≡◌, ℕ, zero, suc, ◌+◌, ◌-◌, ◌%◌, ◌<◌, ◌≤◌, ◌⊎◌, Bool, true, false, List, [], ◌∷◌, ◌++◌, length, take, drop, reverse, slice_index, Some, ap, subst, sym, refl, ◌∙◌, inl, inr, arith}
use Rattle.std.specs.List.{All}
use Rattle.std.proofs.lemmas.List.Elements.{All-take, All-weaker}
use Rattle.std.proofs.Math.Seq.{take-append-add}
use Rattle.std.proofs.lemmas.Bool.{cases_lt}
use Rattle.std.proofs.lemmas.Bool.Decides.{nat_tests}
use Rattle.std.proofs.lemmas.List.{append_assoc, append-nil, reverse-append, get_or-set_same, take-append-le}
use Rattle.pb_pmem.specs.declared.line.Line.{Line}
use Rattle.pb_pmem.specs.declared.log.LogOp.{LogOp}
use Rattle.pb_pmem.specs.declared.log.LogOp.TheVariants.{Whole, Word, Back, Fence, Sync}
use Rattle.pb_pmem.specs.Contents.{applied, contents}
use Rattle.pb_pmem.specs.Crash.{is_back_of, IsCrashImage}
use Rattle.pb_pmem.specs.Device.{IsMark, MayAdd}
use Rattle.pb_pmem.specs.Lines.{line_at, word_of, with_word, zero_line}
use Rattle.pb_pmem.specs.Past.{Words, now, DiffersBy, IsGiven, Bounds}
use Rattle.pb_pmem.proofs.Bounds.{Bounds-write, Bounds-Back, Bounds-Fence, Bounds-Sync, Bounds-weaker}
use Rattle.pb_pmem.proofs.Lines.{length-contents, contents-append, contents-none, contents-first}
use Rattle.pb_pmem.proofs.CrashLaws.{IsCrashImage-contents}
use Rattle.pb_pmem.proofs.Words.{now-more}
use Rattle.pb_object.specs.History.{Round, after_round, state_after}
use Rattle.pb_object.specs.Standing.{Standing, rounds_of}
use Rattle.pb_layout.specs.Covers.{IsCoveredBy, Covers}
use Rattle.pb_object.specs.ObjectLines.{kind_of}
use Rattle.pb_object.proofs.Sides.{sides_few}
use Rattle.pb_layout.specs.Shape.{IsHeader}
use Rattle.pb_layout.specs.Header.{record_length}
use Rattle.pb_layout.specs.LogHistory.{LoggedRound, rounds_in, round_at, recorded_by_op, history_after}
use Rattle.pb_layout.specs.Ready.{HasStanding, IsSettlingWord, IsReady, ImageRepresentsOne}
use Rattle.pb_layout.specs.Region.{record_place}
use Rattle.pb_layout.specs.Represents.{header_for, record_in_use, record_of_side}
use Rattle.pb_layout.specs.Recovered.{Represents}
use Rattle.pb_layout.proofs.LogHistories.{history_after-none, history_after-first, history_after-append}
use Rattle.pb_layout.proofs.OneRecovery.{parts}
use Rattle.pb_layout.proofs.Records.{piece_is}
use Rattle.pb_layout.proofs.ChangedRegion.{same_piece}
use Rattle.pb_pmem.specs.Operations.{writes_from, IsFailedPrefix}
use Rattle.pb_layout.specs.RegionOps.{fenced_ops, stage_ops, commit_ops, spare_place, stage_by, store_by}
use Rattle.pb_layout.specs.Stages.{IsLineFrom, IsStagingOp}
use Rattle.pb_layout.specs.InUse.{IsInUse, IsOutside}
use Rattle.pb_layout.specs.Doubt.{IsRoundInDoubt, HasRoundLanded, IsExitInDoubt, IsExitOfCommit}
use Rattle.pb_layout.specs.Exits.{HasOneUnsealedAtMostAlways, IsExit, sealed_round}
use Rattle.pb_layout_laws.proofs.Entering.{IsOneOf, KeepsSettled, ready_from_bounds, image_from_bounds}
use Rattle.pb_layout_laws.proofs.Prefixes.{IsCoveredPrefix, covers_by_prefixes}
use Rattle.pb_layout_laws.proofs.Geometry.{spare_is_other, spare_not_in_use}
use Rattle.pb_layout_laws.proofs.ReadyWithOne.{only_member, images_from_one, one_from_images}
use Rattle.pb_layout_laws.proofs.UnusedLines.{unused_covered, writing_unused_failing}
use Rattle.pb_layout_laws.proofs.IndexWord.{logged, index_records}
use Rattle.pb_layout_laws.proofs.NextEntries.{next_round}
use Rattle.pb_layout_laws.proofs.Rounds.{next_side, next_rounds, next_rounds_other}
use Rattle.pb_layout_laws.proofs.Staging.{quiet_fenced, quiet_history, quiet_lines, place_of}
use Rattle.pb_layout_laws.proofs.OneUnsealed.{covered_stepwise}
use Rattle.pb_layout_laws.proofs.Storing.{IsStore, IsStoreBy, begun, of_all_lines, place_fits, store_stands, store_parts, IsStaged, IsIndex, IsCommitting, IsCommitted, contents_fenced, staged_bounds}
use Rattle.pb_layout_laws.proofs.Switching.{old_word, settling_round, turned_new, turning_two}

-- While staging

spare_line_unused : (s : Standing) (side count line : ℕ) → IsHeader (header_for s) → kind_of s.state ≡ s.kind → count ≤ record_length (header_for s) → IsLineFrom (spare_place (header_for s) side (rounds_of s side)) count line → ¬ IsInUse s line
spare_line_unused s side count line valid kind few within used =
    let first = spare_place (header_for s) side (rounds_of s side) in
    spare_not_in_use s side (line - first) valid kind (omega (arith, within.0, within.1)) (subst (IsInUse s) (omega (arith, within.0)) used)

staging_op_outside : (s : Standing) (side count : ℕ) → IsHeader (header_for s) → kind_of s.state ≡ s.kind → count ≤ record_length (header_for s) → (op : LogOp) → IsStagingOp (spare_place (header_for s) side (rounds_of s side)) count op → IsOutside s op
staging_op_outside s side count valid kind few (Whole line to) staging = spare_line_unused s side count line valid kind few staging
staging_op_outside s side count valid kind few (Word line word to) staging = absurd staging
staging_op_outside s side count valid kind few (Back at many) staging = tt
staging_op_outside s side count valid kind few Fence staging = tt
staging_op_outside s side count valid kind few Sync staging = absurd staging

-- operations that stage a record write no line in use
pub staging_outside : (image : List Line) (s : Standing) (side count : ℕ) (ops : List LogOp) → Represents image s → count ≤ record_length (header_for s) → All (IsStagingOp (spare_place (header_for s) side (rounds_of s side)) count) ops → All (IsOutside s) ops
staging_outside image s side count ops stands few staging =
    All-weaker (IsStagingOp (spare_place (header_for s) side (rounds_of s side)) count) (IsOutside s) (staging_op_outside s side count (parts image s stands).valid (parts image s stands).kind few) ops staging

-- so a store that is cut off there leaves the standing alone
pub store_by_while_staging : (base : List Line) (log writes ops : List LogOp) (s : Standing) (side : ℕ) → IsReady base log (Some s ∷ []) → All (IsStagingOp (spare_place (header_for s) side (rounds_of s side)) (record_length (header_for s))) writes → IsFailedPrefix (stage_by writes (header_for s) side (rounds_of s side)) ops → IsExit base log ops s [] (Some s ∷ [])
store_by_while_staging base log writes ops s side ready staging cut =
    let first = spare_place (header_for s) side (rounds_of s side) in
    let count = record_length (header_for s) in
    writing_unused_failing base log (stage_by writes (header_for s) side (rounds_of s side)) ops s ready (staging_outside (contents base log) s side count (fenced_ops writes first count) (only_member (contents base log) s ready.holds) (omega arith) (quiet_fenced first count writes staging)) cut

staged_front : {base : List Line} {log : List LogOp} {s : Standing} {round : Round} {lines : List Line} {writes : List LogOp} → IsStoreBy base log s round lines writes → (ops : List LogOp) → All (IsStagingOp (place_of s round) (length lines)) ops → IsCoveredPrefix base log s ops
staged_front {base} {log} {s} {round} {lines} {writes} store ops quiet =
    unused_covered base log ops s (images_from_one base log s store.ready) (staging_outside (contents base log) s round.side (length lines) ops (store_stands (begun store)) (omega (arith, store.next.long)) quiet)

-- While switching

-- how far a store has come: its index word is only called; it is there; given to the device; fenced by a sync that failed; synced
pub data Reach : Type 0 where
  called : Reach
  indexed : Reach
  given : Reach
  fenced : Reach
  synced : Reach

abbrev pub tail_to : ℕ → ℕ → Reach → List LogOp
tail_to side index called = []
tail_to side index indexed = Word (1 + side) 0 index ∷ []
tail_to side index given = Word (1 + side) 0 index ∷ Back (1 + side) 1 ∷ []
tail_to side index fenced = Word (1 + side) 0 index ∷ Back (1 + side) 1 ∷ Fence ∷ []
tail_to side index synced = Word (1 + side) 0 index ∷ Back (1 + side) 1 ∷ Sync ∷ []

-- the prefix of such a tail is one
abbrev pub IsTail : ℕ → ℕ → List LogOp → Type 0
IsTail side index tail = (reach : Reach) × (tail ≡ tail_to side index reach)

pub take-tail : (side index : ℕ) (reach : Reach) (count : ℕ) → IsTail side index (take count (tail_to side index reach))
take-tail side index called zero = (called, refl)
take-tail side index called (suc count) = (called, refl)
take-tail side index indexed zero = (called, refl)
take-tail side index indexed (suc zero) = (indexed, refl)
take-tail side index indexed (suc (suc count)) = (indexed, refl)
take-tail side index given zero = (called, refl)
take-tail side index given (suc zero) = (indexed, refl)
take-tail side index given (suc (suc zero)) = (given, refl)
take-tail side index given (suc (suc (suc count))) = (given, refl)
take-tail side index fenced zero = (called, refl)
take-tail side index fenced (suc zero) = (indexed, refl)
take-tail side index fenced (suc (suc zero)) = (given, refl)
take-tail side index fenced (suc (suc (suc zero))) = (fenced, refl)
take-tail side index fenced (suc (suc (suc (suc count)))) = (fenced, refl)
take-tail side index synced zero = (called, refl)
take-tail side index synced (suc zero) = (indexed, refl)
take-tail side index synced (suc (suc zero)) = (given, refl)
take-tail side index synced (suc (suc (suc zero))) = (synced, refl)
take-tail side index synced (suc (suc (suc (suc count)))) = (synced, refl)

-- switching that is cut off has come so far
added_mark : (side index : ℕ) (op : LogOp) → IsMark op → IsTail side index (Word (1 + side) 0 index ∷ Back (1 + side) 1 ∷ op ∷ [])
added_mark side index (Whole line to) mark = absurd mark
added_mark side index (Word line word to) mark = absurd mark
added_mark side index (Back first count) mark = absurd mark
added_mark side index Fence mark = (fenced, refl)
added_mark side index Sync mark = (synced, refl)

cut_tail : (side index : ℕ) (prefix : List LogOp) (failed : LogOp) (rest ops : List LogOp) → commit_ops side index ≡ prefix ++ failed ∷ rest → (ops ≡ prefix) ⊎ ((op : LogOp) × MayAdd failed op × (ops ≡ prefix ++ op ∷ [])) → IsTail side index ops
cut_tail side index [] failed rest ops whole (inl same) = (called, same)
cut_tail side index [] failed rest ops whole (inr (op, may, more)) =
    let first : Word (1 + side) 0 index ≡ failed = cc in
    let is : op ≡ Word (1 + side) 0 index = subst (λ (f : LogOp). MayAdd f op) (sym first) may in
    (indexed, more ∙ ap (λ (o : LogOp). o ∷ []) is)
cut_tail side index (a ∷ []) failed rest ops whole (inl same) =
    let first : Word (1 + side) 0 index ≡ a = cc in
    (indexed, same ∙ ap (λ (o : LogOp). o ∷ []) (sym first))
cut_tail side index (a ∷ []) failed rest ops whole (inr (op, may, more)) =
    let first : Word (1 + side) 0 index ≡ a = cc in
    let second : Back (1 + side) 1 ≡ failed = cc in
    let is : op ≡ Back (1 + side) 1 = subst (λ (f : LogOp). MayAdd f op) (sym second) may in
    (given, more ∙ (λ i. sym first i ∷ is i ∷ []))
cut_tail side index (a ∷ b ∷ []) failed rest ops whole (inl same) =
    let first : Word (1 + side) 0 index ≡ a = cc in
    let second : Back (1 + side) 1 ≡ b = cc in
    (given, same ∙ (λ i. sym first i ∷ sym second i ∷ []))
cut_tail side index (a ∷ b ∷ []) failed rest ops whole (inr (op, may, more)) =
    let first : Word (1 + side) 0 index ≡ a = cc in
    let second : Back (1 + side) 1 ≡ b = cc in
    let third : Sync ≡ failed = cc in
    let mark = added_mark side index op (subst (λ (f : LogOp). MayAdd f op) (sym third) may) in
    (mark.0, more ∙ ((λ i. sym first i ∷ sym second i ∷ op ∷ []) ∙ mark.1))
cut_tail side index (a ∷ b ∷ c ∷ prefix) failed rest ops whole added = absurd (too_long prefix failed rest whole)
  where
    too_long : (prefix : List LogOp) (failed : LogOp) (rest : List LogOp) → commit_ops side index ≡ a ∷ b ∷ c ∷ (prefix ++ failed ∷ rest) → ⊥
    too_long [] failed rest e = cc
    too_long (d ∷ prefix) failed rest e = cc

pub cut_is_tail : (side index : ℕ) (ops : List LogOp) → IsFailedPrefix (commit_ops side index) ops → IsTail side index ops
cut_is_tail side index ops cut = cut_tail side index cut.prefix cut.failed cut.rest ops cut.whole cut.added

-- The images after each of them

abbrev pub AreTwoStates : List Line → Standing → Round → Words → Type 0
AreTwoStates base s round words = IsOneOf base (Some s ∷ Some (after_round s round) ∷ []) words

-- a word that was written is there
pub word_of-written : (lines : List Line) (line word to : ℕ) → line < length lines → word < 8 → word_of (applied (Word line word to) lines) line word ≡ to
word_of-written lines line word to inside few =
    ap (λ (l : Line). slice_index l.words word) (get_or-set_same lines line (with_word (line_at lines line) word to) zero_line inside) ∙ get_or-set_same (line_at lines line).words word to 0 (omega (arith, (line_at lines line).eight))

-- the past after staging
abbrev pub staged_log : List LogOp → Standing → Round → List Line → List LogOp → List LogOp
staged_log log s round lines writes = log ++ fenced_ops writes (place_of s round) (length lines)

abbrev pub index_of : Standing → Round → ℕ
index_of s round = rounds_of s round.side + 1

side_few : {base : List Line} {log : List LogOp} {s : Standing} {round : Round} {lines : List Line} {writes : List LogOp} → IsStoreBy base log s round lines writes → round.side < 2
side_few {base} {log} {s} {round} store = sides_few s.kind round.side (next_side s round store.next.legal)

turning_staged : {base : List Line} {log : List LogOp} {s : Standing} {round : Round} {lines : List Line} {writes : List LogOp} (store : IsStoreBy base log s round lines writes) (words : Words) → IsStaged base s round lines words → IsCommitting base s round lines words
turning_staged {base} {log} {s} {round} store words staged = record {
  before = words;
  staged = staged;
  same = λ line word other. refl;
  index = inl (old_word base s words (1 + round.side) 0 (rounds_of s round.side) (omega (arith, (begun store).long)) (settling_round s round.side (side_few store)) staged.old);
}

turning_written : {base : List Line} {log : List LogOp} {s : Standing} {round : Round} {lines : List Line} {writes : List LogOp} (store : IsStoreBy base log s round lines writes) (before image : Words) → IsStaged base s round lines before → DiffersBy (Word (1 + round.side) 0 (index_of s round)) before image → IsCommitting base s round lines image
turning_written {base} {log} {s} {round} store before image staged differs = record {
  before = before;
  staged = staged;
  same = λ line word other. elim (differs line word) [ inl e ↦ e | inr written ↦ absurd (other (sym written.0, sym written.1)) ];
  index = elim (differs (1 + round.side) 0) [
    | inl e ↦ inl (e ∙ old_word base s before (1 + round.side) 0 (rounds_of s round.side) (omega (arith, (begun store).long)) (settling_round s round.side (side_few store)) staged.old)
    | inr written ↦ inr (sym written.2)
  ];
}

at_indexed : {base : List Line} {log : List LogOp} {s : Standing} {round : Round} {lines : List Line} {writes : List LogOp} (store : IsStoreBy base log s round lines writes) → Bounds base (Word (1 + round.side) 0 (index_of s round) ∷ reverse (staged_log log s round lines writes)) (AreTwoStates base s round) (IsCommitting base s round lines) (IsCommitting base s round lines)
at_indexed {base} {log} {s} {round} {lines} {writes} store =
    Bounds-write (Word (1 + round.side) 0 (index_of s round)) (1 + round.side) (AreTwoStates base s round) (IsCommitting base s round lines) (IsCommitting base s round lines) refl (staged_bounds store) (turning_written store) (turning_written store) (λ words old. inl old) (turning_two (begun store))

at_given : {base : List Line} {log : List LogOp} {s : Standing} {round : Round} {lines : List Line} {writes : List LogOp} (store : IsStoreBy base log s round lines writes) → Bounds base (Back (1 + round.side) 1 ∷ Word (1 + round.side) 0 (index_of s round) ∷ reverse (staged_log log s round lines writes)) (AreTwoStates base s round) (IsCommitting base s round lines) (IsCommitted base s round lines)
at_given {base} {log} {s} {round} {lines} {writes} store =
    Bounds-Back (1 + round.side) 1 (IsCommitted base s round lines) (at_indexed store) given
  where
    back : is_back_of (1 + round.side) (Back (1 + round.side) 1) ≡ true
    back = grind (arith, nat_tests)

    given : (words : Words) → IsCommitting base s round lines words → IsGiven (Back (1 + round.side) 1) (now base (Word (1 + round.side) 0 (index_of s round) ∷ reverse (staged_log log s round lines writes))) words → IsCommitted base s round lines words
    given words turning is_given =
        let past = reverse (staged_log log s round lines writes) in
        record {
          turning = turning;
          index = is_given (1 + round.side) 0 back ∙ (ap (λ (l : List Line). word_of l (1 + round.side) 0) (now-more base (Word (1 + round.side) 0 (index_of s round)) past) ∙ word_of-written (now base past) (1 + round.side) 0 (index_of s round) (omega (arith, length-contents base (reverse past), (begun store).long, side_few store)) (omega arith));
        }

at_fenced : {base : List Line} {log : List LogOp} {s : Standing} {round : Round} {lines : List Line} {writes : List LogOp} (store : IsStoreBy base log s round lines writes) → Bounds base (Fence ∷ Back (1 + round.side) 1 ∷ Word (1 + round.side) 0 (index_of s round) ∷ reverse (staged_log log s round lines writes)) (AreTwoStates base s round) (IsCommitted base s round lines) (IsCommitted base s round lines)
at_fenced store = Bounds-Fence (at_given store)

at_synced : {base : List Line} {log : List LogOp} {s : Standing} {round : Round} {lines : List Line} {writes : List LogOp} (store : IsStoreBy base log s round lines writes) → Bounds base (Sync ∷ Back (1 + round.side) 1 ∷ Word (1 + round.side) 0 (index_of s round) ∷ reverse (staged_log log s round lines writes)) (IsCommitted base s round lines) (IsCommitted base s round lines) (IsCommitted base s round lines)
at_synced store = Bounds-Sync (at_given store)

-- after any of them the images are of two states, and those of the last cut and the held ones have the new record
tail_bounds : {base : List Line} {log : List LogOp} {s : Standing} {round : Round} {lines : List Line} {writes : List LogOp} (store : IsStoreBy base log s round lines writes) (reach : Reach) → Bounds base (reverse (tail_to round.side (index_of s round) reach) ++ reverse (staged_log log s round lines writes)) (AreTwoStates base s round) (IsCommitting base s round lines) (IsCommitting base s round lines)
tail_bounds {base} {log} {s} {round} {lines} {writes} store called =
    Bounds-weaker (AreTwoStates base s round) (IsCommitting base s round lines) (IsCommitting base s round lines) (staged_bounds store) (λ words old. inl old) (turning_staged store) (turning_staged store)
tail_bounds store indexed = at_indexed store
tail_bounds {base} {log} {s} {round} {lines} {writes} store given =
    Bounds-weaker (AreTwoStates base s round) (IsCommitting base s round lines) (IsCommitting base s round lines) (at_given store) (λ words a. a) (λ words t. t) (λ words t. t.turning)
tail_bounds {base} {log} {s} {round} {lines} {writes} store fenced =
    Bounds-weaker (AreTwoStates base s round) (IsCommitting base s round lines) (IsCommitting base s round lines) (at_fenced store) (λ words a. a) (λ words t. t.turning) (λ words t. t.turning)
tail_bounds {base} {log} {s} {round} {lines} {writes} store synced =
    Bounds-weaker (AreTwoStates base s round) (IsCommitting base s round lines) (IsCommitting base s round lines) (at_synced store) (λ words t. turning_two (begun store) words t.turning) (λ words t. t.turning) (λ words t. t.turning)

-- what settling may write keeps them
keeps_turning : {base : List Line} {log : List LogOp} {s : Standing} {round : Round} {lines : List Line} {writes : List LogOp} (store : IsStoreBy base log s round lines writes) → KeepsSettled (Some s ∷ Some (after_round s round) ∷ []) (IsCommitting base s round lines)
keeps_turning {base} {log} {s} {round} {lines} {writes} store line word to settle_ops before image turning differs = record {
  before = turning.before;
  staged = turning.staged;
  same = λ l w other. elim (differs l w) [
    | inl e ↦ e ∙ turning.same l w other
    | inr written ↦ sym written.2 ∙ (other_word settle_ops l w written.0 written.1 other ∙ refl)
  ];
  index = elim (differs (1 + round.side) 0) [
    | inl e ↦ elim turning.index [ inl old ↦ inl (e ∙ old) | inr new ↦ inr (e ∙ new) ]
    | inr written ↦ index_word settle_ops written.0 written.1 written.2
  ];
}
  where
    few : round.side < 2
    few = side_few store

    -- the words of the next state that aren't the index are those of s
    of_next : (l w : ℕ) → IsSettlingWord l w to (after_round s round) → ¬ IsIndex round l w → IsSettlingWord l w to s
    of_next l w (first, inl magic) other = (first, inl magic)
    of_next l w (first, inr (inl (at, e))) other = (first, inr (inl (at, e ∙ next_rounds_other s round 0 (λ side. other (omega arith, first)))))
    of_next l w (first, inr (inr (at, e))) other = (first, inr (inr (at, e ∙ next_rounds_other s round 1 (λ side. other (omega arith, first)))))

    other_word : HasStanding (IsSettlingWord line word to) (Some s ∷ Some (after_round s round) ∷ []) → (l w : ℕ) → line ≡ l → word ≡ w → ¬ IsIndex round l w → to ≡ turning.before l w
    other_word (inl old) l w at place other =
        sym (old_word base s turning.before l w to (omega (arith, (begun store).long)) (subst (λ (n : ℕ). IsSettlingWord n w to s) at (subst (λ (n : ℕ). IsSettlingWord line n to s) place old)) turning.staged.old)
    other_word (inr (inl new)) l w at place other =
        sym (old_word base s turning.before l w to (omega (arith, (begun store).long)) (of_next l w (subst (λ (n : ℕ). IsSettlingWord n w to (after_round s round)) at (subst (λ (n : ℕ). IsSettlingWord line n to (after_round s round)) place new)) other) turning.staged.old)
    other_word (inr (inr never)) l w at place other = absurd never

    settling_number : (t : Standing) (to line word : ℕ) → IsSettlingWord line word to t → line ≡ 1 + round.side → to ≡ rounds_of t round.side
    settling_number t to line word (first, inl magic) at = absurd (omega (arith, magic.0))
    settling_number t to line word (first, inr (inl one)) at = one.1 ∙ ap (rounds_of t) (omega (arith, one.0))
    settling_number t to line word (first, inr (inr two)) at = two.1 ∙ ap (rounds_of t) (omega (arith, two.0))

    index_word : HasStanding (IsSettlingWord line word to) (Some s ∷ Some (after_round s round) ∷ []) → line ≡ 1 + round.side → word ≡ 0 → to ≡ image (1 + round.side) 0 → (image (1 + round.side) 0 ≡ rounds_of s round.side) ⊎ (image (1 + round.side) 0 ≡ rounds_of s round.side + 1)
    index_word (inl old) at place is = inl (sym is ∙ settling_number s to line word old at)
    index_word (inr (inl new)) at place is =
        inr (sym is ∙ (settling_number (after_round s round) to line word new at ∙ next_rounds s round store.next.legal (store_parts (begun store)).sides))
    index_word (inr (inr never)) at place is = absurd never

-- The history after each of them

-- what the device holds after staging
staged_now : {base : List Line} {log : List LogOp} {s : Standing} {round : Round} {lines : List Line} {writes : List LogOp} → IsStoreBy base log s round lines writes → contents base (staged_log log s round lines writes) ≡ contents (contents base log) writes
staged_now {base} {log} {s} {round} {lines} {writes} store =
    contents-append base log (fenced_ops writes (place_of s round) (length lines)) ∙ contents_fenced (contents base log) writes (place_of s round) (length lines)

staged_stands : {base : List Line} {log : List LogOp} {s : Standing} {round : Round} {lines : List Line} {writes : List LogOp} → IsStoreBy base log s round lines writes → Represents (contents base (staged_log log s round lines writes)) s
staged_stands {base} {log} {s} {round} {lines} {writes} store =
    image_from_bounds (staged_log log s round lines writes) (λ i. Represents i s) (staged_bounds store) (λ words old. old) (contents base (staged_log log s round lines writes)) (IsCrashImage-contents base (staged_log log s round lines writes))

-- the index word records the round
staged_round : {base : List Line} {log : List LogOp} {s : Standing} {round : Round} {lines : List Line} {writes : List LogOp} → IsStoreBy base log s round lines writes → round_at (contents base (staged_log log s round lines writes)) round.side (index_of s round) ≡ round
staged_round {base} {log} {s} {round} {lines} {writes} store =
    next_round (contents base log) (contents base (staged_log log s round lines writes)) s round lines (store_parts (begun store)) store.next (parts (contents base (staged_log log s round lines writes)) s (staged_stands store)).header spare in_use
  where
    here : List Line
    here = contents base (staged_log log s round lines writes)

    same : here ≡ contents (contents base log) writes
    same = staged_now store

    spare : record_in_use here (header_for s) round.side (index_of s round) ≡ lines
    spare =
        ap (λ (n : ℕ). take n (drop (place_of s round) here)) (sym store.next.long) ∙ piece_is here lines (place_of s round) (omega (arith, place_fits (begun store), length-contents base log, length-contents base (staged_log log s round lines writes))) (λ place inside. ap (λ (l : List Line). line_at l (place_of s round + place)) same ∙ store.stages.there place inside)

    outside : (place : ℕ) → place < record_length (header_for s) → ¬ IsLineFrom (place_of s round) (length lines) (record_place (header_for s) round.side (rounds_of s round.side % 2) + place)
    outside place inside within =
        let at = record_place (header_for s) round.side (rounds_of s round.side % 2) + place in
        spare_is_other (header_for s) round.side round.side (rounds_of s round.side) (rounds_of s round.side) (at - place_of s round) place (λ e. refl) (omega (arith, store.next.long, within.0, within.1)) inside (omega (arith, within.0))

    in_use : record_of_side here s round.side ≡ record_of_side (contents base log) s round.side
    in_use =
        same_piece here (contents base log) (record_place (header_for s) round.side (rounds_of s round.side % 2)) (record_length (header_for s)) (length-contents base (staged_log log s round lines writes) ∙ sym (length-contents base log)) (λ place inside. ap (λ (l : List Line). line_at l (record_place (header_for s) round.side (rounds_of s round.side % 2) + place)) same ∙ quiet_lines (place_of s round) (length lines) (contents base log) writes (record_place (header_for s) round.side (rounds_of s round.side % 2) + place) store.stages.all (outside place inside))

abbrev pub rounds_to : Round → Reach → List LoggedRound
rounds_to round called = []
rounds_to round indexed = logged round false false ∷ []
rounds_to round given = logged round true false ∷ []
rounds_to round fenced = logged round true false ∷ []
rounds_to round synced = logged round true true ∷ []

index_history : {base : List Line} {log : List LogOp} {s : Standing} {round : Round} {lines : List Line} {writes : List LogOp} → IsStoreBy base log s round lines writes → recorded_by_op (Word (1 + round.side) 0 (index_of s round)) (contents base (staged_log log s round lines writes)) [] ≡ logged round false false ∷ []
index_history {base} {log} {s} {round} {lines} {writes} store =
    index_records (contents base (staged_log log s round lines writes)) s round (next_side s round store.next.legal) (staged_stands store) (staged_round store)

back_itself : (side : ℕ) → is_back_of (1 + side) (Back (1 + side) 1) ≡ true
back_itself side = grind (arith, nat_tests)

tail_history : {base : List Line} {log : List LogOp} {s : Standing} {round : Round} {lines : List Line} {writes : List LogOp} (store : IsStoreBy base log s round lines writes) (reach : Reach) → history_after (contents base (staged_log log s round lines writes)) [] (tail_to round.side (index_of s round) reach) ≡ rounds_to round reach
tail_history {base} {log} {s} {round} {lines} {writes} store called = history_after-none (contents base (staged_log log s round lines writes)) []
tail_history {base} {log} {s} {round} {lines} {writes} store indexed = rw (history_after-first, history_after-none) (index_history store)
tail_history {base} {log} {s} {round} {lines} {writes} store given = rw (history_after-first, history_after-first, history_after-none, index_history store, back_itself round.side) refl
tail_history {base} {log} {s} {round} {lines} {writes} store fenced = rw (history_after-first, history_after-first, history_after-first, history_after-none, index_history store, back_itself round.side) refl
tail_history {base} {log} {s} {round} {lines} {writes} store synced = rw (history_after-first, history_after-first, history_after-first, history_after-none, index_history store, back_itself round.side) refl

-- the history of all that a store did
pub store_history : {base : List Line} {log : List LogOp} {s : Standing} {round : Round} {lines : List Line} {writes : List LogOp} (store : IsStoreBy base log s round lines writes) (reach : Reach) → history_after (contents base log) [] (fenced_ops writes (place_of s round) (length lines) ++ tail_to round.side (index_of s round) reach) ≡ rounds_to round reach
store_history {base} {log} {s} {round} {lines} {writes} store reach =
    let all = fenced_ops writes (place_of s round) (length lines) in
    let tail = tail_to round.side (index_of s round) reach in
    history_after-append (contents base log) [] all tail ∙ (ap (λ (h : List LoggedRound). history_after (contents (contents base log) all) h tail) (quiet_history (place_of s round) (length lines) (contents base log) all (quiet_fenced (place_of s round) (length lines) writes store.stages.all)) ∙ (ap (λ (l : List Line). history_after l [] tail) (sym (contents-append base log all)) ∙ tail_history store reach))

-- The exits

-- an image of one of the two states is covered, while the round isn't sealed
covered_two : {s : Standing} {round : Round} (backed : Bool) (image : List Line) → ImageRepresentsOne image (Some s ∷ Some (after_round s round) ∷ []) → IsCoveredBy s (logged round backed false ∷ []) image
covered_two {s} {round} backed image (inl stands) =
    record { kept = []; lost = logged round backed false ∷ []; whole = refl; unsealed = (refl, tt); stands = stands }
covered_two {s} {round} backed image (inr (inl stands)) =
    record { kept = logged round backed false ∷ []; lost = []; whole = refl; unsealed = tt; stands = stands }
covered_two backed image (inr (inr never)) = absurd never

covered_new : {s : Standing} {round : Round} (image : List Line) → Represents image (after_round s round) → IsCoveredBy s (sealed_round round ∷ []) image
covered_new {s} {round} image stands =
    record { kept = sealed_round round ∷ []; lost = []; whole = refl; unsealed = tt; stands = stands }

-- the log of a store that came so far
abbrev pub log_to : List LogOp → Standing → Round → List Line → List LogOp → Reach → List LogOp
log_to log s round lines writes reach = staged_log log s round lines writes ++ tail_to round.side (index_of s round) reach

two_left : {base : List Line} {log : List LogOp} {s : Standing} {round : Round} {lines : List Line} {writes : List LogOp} (store : IsStoreBy base log s round lines writes) (reach : Reach) (image : List Line) → IsCrashImage base (log_to log s round lines writes reach) image → ImageRepresentsOne image (Some s ∷ Some (after_round s round) ∷ [])
two_left {base} {log} {s} {round} {lines} {writes} store reach image left =
    image_from_bounds (log_to log s round lines writes reach) (λ i. ImageRepresentsOne i (Some s ∷ Some (after_round s round) ∷ [])) (subst (λ (l : List LogOp). Bounds base l (AreTwoStates base s round) (IsCommitting base s round lines) (IsCommitting base s round lines)) (sym (reverse-append (staged_log log s round lines writes) (tail_to round.side (index_of s round) reach))) (tail_bounds store reach)) (λ words two. two) image left

synced_left : {base : List Line} {log : List LogOp} {s : Standing} {round : Round} {lines : List Line} {writes : List LogOp} (store : IsStoreBy base log s round lines writes) (image : List Line) → IsCrashImage base (log_to log s round lines writes synced) image → Represents image (after_round s round)
synced_left {base} {log} {s} {round} {lines} {writes} store image left =
    image_from_bounds (log_to log s round lines writes synced) (λ i. Represents i (after_round s round)) (subst (λ (l : List LogOp). Bounds base l (IsCommitted base s round lines) (IsCommitted base s round lines) (IsCommitted base s round lines)) (sym (reverse-append (staged_log log s round lines writes) (tail_to round.side (index_of s round) synced))) (at_synced store)) (turned_new (begun store)) image left

called_left : {base : List Line} {log : List LogOp} {s : Standing} {round : Round} {lines : List Line} {writes : List LogOp} (store : IsStoreBy base log s round lines writes) (image : List Line) → IsCrashImage base (log_to log s round lines writes called) image → Represents image s
called_left {base} {log} {s} {round} {lines} {writes} store image left =
    image_from_bounds (staged_log log s round lines writes) (λ i. Represents i s) (staged_bounds store) (λ words old. old) image (subst (λ (l : List LogOp). IsCrashImage base l image) (append-nil (staged_log log s round lines writes)) left)

covered_to : {base : List Line} {log : List LogOp} {s : Standing} {round : Round} {lines : List Line} {writes : List LogOp} (store : IsStoreBy base log s round lines writes) (reach : Reach) (image : List Line) → IsCrashImage base (log_to log s round lines writes reach) image → IsCoveredBy s (rounds_to round reach) image
covered_to store called image left = record { kept = []; lost = []; whole = refl; unsealed = tt; stands = called_left store image left }
covered_to store indexed image left = covered_two false image (two_left store indexed image left)
covered_to store given image left = covered_two true image (two_left store given image left)
covered_to store fenced image left = covered_two true image (two_left store fenced image left)
covered_to store synced image left = covered_new image (synced_left store image left)

-- after each prefix of what a store did
store_front : {base : List Line} {log : List LogOp} {s : Standing} {round : Round} {lines : List Line} {writes : List LogOp} (store : IsStoreBy base log s round lines writes) (reach : Reach) (count : ℕ) → IsCoveredPrefix base log s (take count (fenced_ops writes (place_of s round) (length lines) ++ tail_to round.side (index_of s round) reach))
store_front {base} {log} {s} {round} {lines} {writes} store reach count =
    elim (cases_lt count (length all)) [
      | inl before ↦ subst (IsCoveredPrefix base log s) (sym (take-append-le count all tail (omega arith))) (staged_front store (take count all) (All-take (IsStagingOp (place_of s round) (length lines)) count all (quiet_fenced (place_of s round) (length lines) writes store.stages.all)))
      | inr after ↦ subst (IsCoveredPrefix base log s) (sym (split after)) (in_tail (take-tail round.side (index_of s round) reach (count - length all)))
    ]
  where
    all : List LogOp
    all = fenced_ops writes (place_of s round) (length lines)

    tail : List LogOp
    tail = tail_to round.side (index_of s round) reach

    split : length all ≤ count → take count (all ++ tail) ≡ all ++ take (count - length all) tail
    split after =
        let e : count ≡ length all + (count - length all) = omega arith in
        ap (λ (n : ℕ). take n (all ++ tail)) e ∙ take-append-add all tail (count - length all)

    in_tail : IsTail round.side (index_of s round) (take (count - length all) tail) → IsCoveredPrefix base log s (all ++ take (count - length all) tail)
    in_tail (prefix, is) image left =
        inl (subst (λ (h : List LoggedRound). IsCoveredBy s h image) (sym (ap (λ (t : List LogOp). history_after (contents base log) [] (all ++ t)) is ∙ store_history store prefix)) (covered_to store prefix image (subst (λ (l : List LogOp). IsCrashImage base l image) (ap (λ (t : List LogOp). log ++ (all ++ t)) is ∙ sym (append_assoc log all (tail_to round.side (index_of s round) prefix))) left)))

-- what the device holds has the index that was written
turned_now : {base : List Line} {log : List LogOp} {s : Standing} {round : Round} {lines : List Line} {writes : List LogOp} (store : IsStoreBy base log s round lines writes) (image : List Line) → ImageRepresentsOne image (Some s ∷ Some (after_round s round) ∷ []) → word_of image (1 + round.side) 0 ≡ index_of s round → Represents image (after_round s round)
turned_now {base} {log} {s} {round} store image (inl stands) index =
    let old : word_of image (1 + round.side) 0 ≡ rounds_of s round.side = ap (λ (l : Line). slice_index l.words 0) ((parts image s stands).rounds round.side (side_few store)) in
    absurd (omega arith)
turned_now store image (inr (inl stands)) index = stands
turned_now store image (inr (inr never)) index = absurd never

index_now : {base : List Line} {log : List LogOp} {s : Standing} {round : Round} {lines : List Line} {writes : List LogOp} (store : IsStoreBy base log s round lines writes) (rest : List LogOp) → contents (applied (Word (1 + round.side) 0 (index_of s round)) (contents base (staged_log log s round lines writes))) rest ≡ applied (Word (1 + round.side) 0 (index_of s round)) (contents base (staged_log log s round lines writes)) → word_of (contents base (staged_log log s round lines writes ++ Word (1 + round.side) 0 (index_of s round) ∷ rest)) (1 + round.side) 0 ≡ index_of s round
index_now {base} {log} {s} {round} {lines} {writes} store rest still =
    let here = contents base (staged_log log s round lines writes) in
    let op = Word (1 + round.side) 0 (index_of s round) in
    ap (λ (l : List Line). word_of l (1 + round.side) 0) (contents-append base (staged_log log s round lines writes) (op ∷ rest) ∙ (contents-first here op rest ∙ still)) ∙ word_of-written here (1 + round.side) 0 (index_of s round) (omega (arith, length-contents base (staged_log log s round lines writes), (begun store).long, side_few store)) (omega arith)

still_one : (a : List Line) (op : LogOp) → applied op a ≡ a → contents a (op ∷ []) ≡ a
still_one a op same = contents-first a op [] ∙ (contents-none (applied op a) ∙ same)

ends : {base : List Line} {log : List LogOp} {s : Standing} {round : Round} {lines : List Line} {writes : List LogOp} (store : IsStoreBy base log s round lines writes) (reach : Reach) → Represents (contents base (log_to log s round lines writes reach)) (state_after s (rounds_in (rounds_to round reach)))
ends {base} {log} {s} {round} {lines} {writes} store called = called_left store (contents base (log_to log s round lines writes called)) (IsCrashImage-contents base (log_to log s round lines writes called))
ends {base} {log} {s} {round} {lines} {writes} store indexed =
    turned_now store (contents base (log_to log s round lines writes indexed)) (two_left store indexed (contents base (log_to log s round lines writes indexed)) (IsCrashImage-contents base (log_to log s round lines writes indexed))) (index_now store [] (contents-none _))
ends {base} {log} {s} {round} {lines} {writes} store given =
    turned_now store (contents base (log_to log s round lines writes given)) (two_left store given (contents base (log_to log s round lines writes given)) (IsCrashImage-contents base (log_to log s round lines writes given))) (index_now store (Back (1 + round.side) 1 ∷ []) (still_one _ (Back (1 + round.side) 1) refl))
ends {base} {log} {s} {round} {lines} {writes} store fenced =
    turned_now store (contents base (log_to log s round lines writes fenced)) (two_left store fenced (contents base (log_to log s round lines writes fenced)) (IsCrashImage-contents base (log_to log s round lines writes fenced))) (index_now store (Back (1 + round.side) 1 ∷ Fence ∷ []) (contents-first _ (Back (1 + round.side) 1) (Fence ∷ []) ∙ still_one _ Fence refl))
ends {base} {log} {s} {round} {lines} {writes} store synced = synced_left store (contents base (log_to log s round lines writes synced)) (IsCrashImage-contents base (log_to log s round lines writes synced))

-- what a store that came so far covers
store_covers : {base : List Line} {log : List LogOp} {s : Standing} {round : Round} {lines : List Line} {writes : List LogOp} (store : IsStoreBy base log s round lines writes) (reach : Reach) → Covers base (log ++ (fenced_ops writes (place_of s round) (length lines) ++ tail_to round.side (index_of s round) reach)) (length log) s (rounds_to round reach)
store_covers {base} {log} {s} {round} {lines} {writes} store reach =
    covers_by_prefixes base log (fenced_ops writes (place_of s round) (length lines) ++ tail_to round.side (index_of s round) reach) s (rounds_to round reach) (sym (store_history store reach)) (store_front store reach) (inl (subst (λ (l : List LogOp). Represents (contents base l) (state_after s (rounds_in (rounds_to round reach)))) (append_assoc log (fenced_ops writes (place_of s round) (length lines)) (tail_to round.side (index_of s round) reach)) (ends store reach)))

-- a store tells one round at most, so it is stepwise
one_round : (round : Round) (reach : Reach) → length (rounds_to round reach) ≤ 1
one_round round called = omega arith
one_round round indexed = omega arith
one_round round given = omega arith
one_round round fenced = omega arith
one_round round synced = omega arith

store_stepwise : {base : List Line} {log : List LogOp} {s : Standing} {round : Round} {lines : List Line} {writes : List LogOp} (store : IsStoreBy base log s round lines writes) (reach : Reach) → HasOneUnsealedAtMostAlways base (log ++ (fenced_ops writes (place_of s round) (length lines) ++ tail_to round.side (index_of s round) reach)) (length log)
store_stepwise {base} {log} {s} {round} {lines} {writes} store reach = covered_stepwise (store_covers store reach) (one_round round reach)

store_ready : {base : List Line} {log : List LogOp} {s : Standing} {round : Round} {lines : List Line} {writes : List LogOp} (store : IsStoreBy base log s round lines writes) (reach : Reach) → IsReady base (log ++ (fenced_ops writes (place_of s round) (length lines) ++ tail_to round.side (index_of s round) reach)) (Some s ∷ Some (after_round s round) ∷ [])
store_ready {base} {log} {s} {round} {lines} {writes} store reach =
    ready_from_bounds base (log ++ (fenced_ops writes (place_of s round) (length lines) ++ tail_to round.side (index_of s round) reach)) (Some s ∷ Some (after_round s round) ∷ []) (record {
      shape = (round, store.next.legal, refl);
      settled = IsCommitting base s round lines;
      bounds = subst (λ (l : List LogOp). Bounds base l (AreTwoStates base s round) (IsCommitting base s round lines) (IsCommitting base s round lines)) (sym (ap reverse (sym (append_assoc log (fenced_ops writes (place_of s round) (length lines)) (tail_to round.side (index_of s round) reach))) ∙ reverse-append (staged_log log s round lines writes) (tail_to round.side (index_of s round) reach))) (tail_bounds store reach);
      inside = turning_two (begun store);
      keeps = keeps_turning store;
    })

-- the state of a round that its log has no index word of
still_in_doubt : {base : List Line} {log : List LogOp} {s : Standing} {round : Round} {lines : List Line} {writes : List LogOp} (store : IsStoreBy base log s round lines writes) → IsRoundInDoubt base (log ++ (fenced_ops writes (place_of s round) (length lines) ++ [])) s round
still_in_doubt {base} {log} {s} {round} {lines} {writes} store =
    let staged : staged_log log s round lines writes ≡ log ++ (fenced_ops writes (place_of s round) (length lines) ++ []) = ap (λ (l : List LogOp). log ++ l) (sym (append-nil (fenced_ops writes (place_of s round) (length lines)))) in
    record {
      legal = store.next.legal;
      ready = store_ready store called;
      stands = subst (λ (l : List LogOp). Represents (contents base l) s) staged (staged_stands store);
      records = ap (λ (l : List LogOp). round_at (contents base l) round.side (index_of s round)) (sym staged) ∙ staged_round store;
    }

landed_to : {base : List Line} {log : List LogOp} {s : Standing} {round : Round} {lines : List Line} {writes : List LogOp} (store : IsStoreBy base log s round lines writes) (reach : Reach) → state_after s (rounds_in (rounds_to round reach)) ≡ after_round s round → HasRoundLanded base (log ++ (fenced_ops writes (place_of s round) (length lines) ++ tail_to round.side (index_of s round) reach)) s round
landed_to {base} {log} {s} {round} {lines} {writes} store reach next = record {
  legal = store.next.legal;
  ready = store_ready store reach;
  stands = subst (λ (l : List LogOp). Represents (contents base l) (after_round s round)) (append_assoc log (fenced_ops writes (place_of s round) (length lines)) (tail_to round.side (index_of s round) reach)) (subst (Represents (contents base (log_to log s round lines writes reach))) next (ends store reach));
}

in_doubt : {base : List Line} {log : List LogOp} {s : Standing} {round : Round} {lines : List Line} {writes : List LogOp} (store : IsStoreBy base log s round lines writes) (reach : Reach) → IsExitInDoubt base log (fenced_ops writes (place_of s round) (length lines) ++ tail_to round.side (index_of s round) reach) s round
in_doubt {base} {log} {s} {round} {lines} {writes} store reach = record {
  history = rounds_to round reach;
  exit = record { covers = store_covers store reach; one_unsealed = store_stepwise store reach; ready = store_ready store reach };
  rounds = told reach;
}
  where
    told : (r : Reach) → ((rounds_to round r ≡ []) × IsRoundInDoubt base (log ++ (fenced_ops writes (place_of s round) (length lines) ++ tail_to round.side (index_of s round) r)) s round) ⊎ ((rounds_in (rounds_to round r) ≡ round ∷ []) × HasRoundLanded base (log ++ (fenced_ops writes (place_of s round) (length lines) ++ tail_to round.side (index_of s round) r)) s round)
    told called = inl (refl, still_in_doubt store)
    told indexed = inr (refl, landed_to store indexed refl)
    told given = inr (refl, landed_to store given refl)
    told fenced = inr (refl, landed_to store fenced refl)
    told synced = inr (refl, landed_to store synced refl)

exit_of_commit : {base : List Line} {log : List LogOp} {s : Standing} {round : Round} {lines : List Line} {writes : List LogOp} (store : IsStoreBy base log s round lines writes) (reach : Reach) → IsExitOfCommit base log (fenced_ops writes (place_of s round) (length lines) ++ tail_to round.side (index_of s round) reach) (tail_to round.side (index_of s round) reach) s round
unfolding in_doubt
exit_of_commit {base} {log} {s} {round} {lines} {writes} store reach = record {
  left = in_doubt store reach;
  none = none reach;
  some = some reach;
}
  where
    none : (r : Reach) → tail_to round.side (index_of s round) r ≡ [] → rounds_to round r ≡ []
    none called e = refl
    none indexed e = cc
    none given e = cc
    none fenced e = cc
    none synced e = cc

    some : (r : Reach) → ¬ (tail_to round.side (index_of s round) r ≡ []) → rounds_in (rounds_to round r) ≡ round ∷ []
    some called other = absurd (other refl)
    some indexed other = refl
    some given other = refl
    some fenced other = refl
    some synced other = refl

-- a `Back` of the whole record
same_fenced : {base : List Line} {log : List LogOp} {s : Standing} {round : Round} {lines : List Line} {writes : List LogOp} → IsStoreBy base log s round lines writes → fenced_ops writes (place_of s round) (length lines) ≡ stage_by writes (header_for s) round.side (rounds_of s round.side)
same_fenced {base} {log} {s} {round} {lines} {writes} store = ap (fenced_ops writes (place_of s round)) store.next.long

pub store_by_while_committing : {base : List Line} {log : List LogOp} {s : Standing} {round : Round} {lines : List Line} {writes : List LogOp} → IsStoreBy base log s round lines writes → (tail : List LogOp) → IsFailedPrefix (commit_ops round.side (index_of s round)) tail → IsExitOfCommit base log (stage_by writes (header_for s) round.side (rounds_of s round.side) ++ tail) tail s round
store_by_while_committing {base} {log} {s} {round} {lines} {writes} store tail cut =
    let is = cut_is_tail round.side (index_of s round) tail cut in
    subst (λ (front : List LogOp). IsExitOfCommit base log (front ++ tail) tail s round) (same_fenced store) (subst (λ (t : List LogOp). IsExitOfCommit base log (fenced_ops writes (place_of s round) (length lines) ++ t) t s round) (sym is.1) (exit_of_commit store is.0))

pub store_by_whole : {base : List Line} {log : List LogOp} {s : Standing} {round : Round} {lines : List Line} {writes : List LogOp} → IsStoreBy base log s round lines writes → IsExit base log (store_by writes (header_for s) round.side (rounds_of s round.side)) s (sealed_round round ∷ []) (Some (after_round s round) ∷ [])
store_by_whole {base} {log} {s} {round} {lines} {writes} store =
    subst (λ (front : List LogOp). IsExit base log (front ++ commit_ops round.side (index_of s round)) s (sealed_round round ∷ []) (Some (after_round s round) ∷ [])) (same_fenced store) (record {
      covers = store_covers store synced;
      one_unsealed = store_stepwise store synced;
      ready = one_from_images base (log ++ (fenced_ops writes (place_of s round) (length lines) ++ commit_ops round.side (index_of s round))) (after_round s round) (λ image left. synced_left store image (subst (λ (l : List LogOp). IsCrashImage base l image) (sym (append_assoc log (fenced_ops writes (place_of s round) (length lines)) (commit_ops round.side (index_of s round)))) left));
    })

-- Stores of all lines

pub store_while_staging : {base : List Line} {log : List LogOp} {s : Standing} {round : Round} {lines : List Line} → IsStore base log s round lines → (ops : List LogOp) → IsFailedPrefix (stage_ops (place_of s round) lines) ops → IsExit base log ops s [] (Some s ∷ [])
store_while_staging {base} {log} {s} {round} {lines} store ops cut =
    let by = of_all_lines store in
    store_by_while_staging base log (writes_from (place_of s round) lines) ops s round.side store.ready (subst (λ (count : ℕ). All (IsStagingOp (place_of s round) count) (writes_from (place_of s round) lines)) store.next.long by.stages.all) (subst (λ (all : List LogOp). IsFailedPrefix all ops) (same_fenced by) cut)

pub store_while_switching : {base : List Line} {log : List LogOp} {s : Standing} {round : Round} {lines : List Line} → IsStore base log s round lines → (tail : List LogOp) → IsFailedPrefix (commit_ops round.side (index_of s round)) tail → IsExitOfCommit base log (stage_ops (place_of s round) lines ++ tail) tail s round
store_while_switching {base} {log} {s} {round} {lines} store tail cut =
    let by = of_all_lines store in
    subst (λ (front : List LogOp). IsExitOfCommit base log (front ++ tail) tail s round) (sym (same_fenced by)) (store_by_while_committing by tail cut)

pub store_whole : {base : List Line} {log : List LogOp} {s : Standing} {round : Round} {lines : List Line} → IsStore base log s round lines → IsExit base log (stage_ops (place_of s round) lines ++ commit_ops round.side (index_of s round)) s (sealed_round round ∷ []) (Some (after_round s round) ∷ [])
store_whole {base} {log} {s} {round} {lines} store =
    let by = of_all_lines store in
    subst (λ (front : List LogOp). IsExit base log (front ++ commit_ops round.side (index_of s round)) s (sealed_round round ∷ []) (Some (after_round s round) ∷ [])) (sym (same_fenced by)) (store_by_whole by)
