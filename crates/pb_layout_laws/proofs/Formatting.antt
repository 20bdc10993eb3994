-- Formatting from its magic on: a crash leaves no region, or the fresh one.
use Rattle.std.proofs.Common.{◌≡◌, ◌≢◌, ℕ, zero, suc, ◌+◌, ◌-◌, ◌<◌, ◌≤◌, ◌⊎◌, Bool, false, ◌||◌, List, [], ◌∷◌, ◌++◌, length, take, reverse, get_or, slice_index, Option, Some, None, ap, subst, sym, refl, ◌∙◌, inl, inr, arith}
use Rattle.std.specs.List.{list_any}
use Rattle.std.proofs.lemmas.Bool.{cases_lt}
use Rattle.std.proofs.lemmas.List.{append_assoc, append-nil, length-append, take-append-le, get_or-set_same}
use Rattle.std.proofs.lemmas.List.Elements.{All-take}
use Rattle.std.proofs.lemmas.List.Folds.{list_any-append}
use Rattle.std.proofs.Math.Seq.{take-append-add}
use Rattle.pb_pmem.specs.declared.line.Line.{Line}
use Rattle.pb_pmem.specs.declared.line.TheConstants.{LINES}
use Rattle.pb_pmem.specs.declared.log.LogOp.{LogOp}
use Rattle.pb_pmem.specs.declared.log.LogOp.TheVariants.{Whole, Word, Back, Fence, Sync}
use Rattle.pb_pmem.specs.Contents.{applied, contents}
use Rattle.pb_pmem.specs.Crash.{IsCrashImage, is_sync, MayWrite}
use Rattle.pb_pmem.specs.Device.{IsMark, MayAdd}
use Rattle.pb_pmem.specs.Lines.{word_of}
use Rattle.pb_pmem.specs.Past.{Words, DiffersBy, Bounds}
use Rattle.pb_pmem.proofs.Bounds.{Bounds-weaker}
use Rattle.pb_pmem.proofs.Lines.{contents-append, contents_push, length-contents, contents-none}
use Rattle.pb_pmem.proofs.CrashLaws.{IsCrashImage-contents, IsAtRest-none}
use Rattle.pb_object.specs.Standing.{Standing, rounds_of}
use Rattle.pb_layout.specs.Covers.{Covers, IsCoveredBy}
use Rattle.pb_layout.specs.Damage.{HasRegion}
use Rattle.pb_layout.specs.Shape.{IsHeader}
use Rattle.pb_layout.specs.LogHistory.{LoggedRound, history_after}
use Rattle.pb_layout.specs.Ready.{IsSettlingWord, IsReady}
use Rattle.pb_layout.specs.Recovered.{Represents}
use Rattle.pb_layout.specs.declared.header.Header.{Header}
use Rattle.pb_layout.specs.declared.header.TheConstants.{MAGIC}
use Rattle.pb_layout.proofs.LogHistories.{history_after-append}
use Rattle.pb_pmem.specs.Operations.{IsFailedPrefix}
use Rattle.pb_layout.specs.RegionOps.{prepare_ops, publish_ops, format_ops, write_backs}
use Rattle.pb_layout.specs.Exits.{IsExit, IsExitPublishing, AreEmptyRecords, empty_for}
use Rattle.pb_layout_laws.proofs.EmptyRegion.{no_rounds, formed_stands}
use Rattle.pb_layout_laws.proofs.Entering.{IsOneOf, KeepsSettled, ready_from_bounds, image_from_bounds}
use Rattle.pb_layout_laws.proofs.Prefixes.{IsCoveredPrefix, covers_by_prefixes}
use Rattle.pb_layout_laws.proofs.Images.{image_of}
use Rattle.pb_layout_laws.proofs.WrittenRegion.{HasWritten, Prepared, Formed, write_backs_bounds, push_three}
use Rattle.pb_layout_laws.proofs.WritingRegion.{laying, IsWrittenIn, laid_in}
use Rattle.pb_layout_laws.proofs.Preparing.{nothing_of_bare, bare_start, nothing_at_start, quiet_front, quiet_leaves, prepare_ops-is, preparing_quiet, laying_quiet}
use Rattle.pb_layout_laws.proofs.Quiet.{IsQuiet, Bare, quiet-records, quiet-no_sync, quiet-bare, HasGiven, push_write, push_back, push_fence, push_sync}
use Rattle.pb_layout_laws.proofs.OneUnsealed.{covered_stepwise}
use Rattle.pb_layout.proofs.Readiness.{at_rest_is_ready}
use Rattle.pb_layout_laws.proofs.ReadyWithOne.{only_member}

-- Where formatting may be left from its magic on

-- the write of the magic, and the `Back` of its line
abbrev pub magic_word : LogOp
magic_word = Word 0 0 MAGIC

abbrev pub magic_back : LogOp
magic_back = Back 0 1

-- what follows where the magic was called: nothing, the given line, and a fence or a sync
abbrev pub IsRest : List LogOp → Type 0
IsRest rest =
    (rest ≡ []) ⊎ ((rest ≡ magic_back ∷ []) ⊎ ((rest ≡ magic_back ∷ Fence ∷ []) ⊎ (rest ≡ magic_back ∷ Sync ∷ [])))

-- the magic wasn't called, or that follows it
abbrev pub IsTail : List LogOp → Type 0
IsTail tail = (tail ≡ []) ⊎ ((rest : List LogOp) × IsRest rest × (tail ≡ magic_word ∷ rest))

nth_of : (xs ys : List LogOp) (d : LogOp) (n : ℕ) → xs ≡ ys → get_or xs n d ≡ get_or ys n d
nth_of xs ys d n e = ap (λ (l : List LogOp). get_or l n d) e

-- the failed call was the first, the second or the third
tail_of_cut : (tail prefix rest : List LogOp) (failed : LogOp) → publish_ops ≡ prefix ++ failed ∷ rest → (tail ≡ prefix) ⊎ ((op : LogOp) × MayAdd failed op × (tail ≡ prefix ++ op ∷ [])) → IsTail tail
tail_of_cut tail [] rest failed whole (inl e) = inl e
tail_of_cut tail [] rest failed whole (inr (op, may, e)) =
    let same : magic_word ≡ failed = nth_of publish_ops (failed ∷ rest) failed 0 whole in
    let added : op ≡ magic_word = subst (λ (f : LogOp). MayAdd f op) (sym same) may in
    inr ([], inl refl, e ∙ ap (λ (o : LogOp). o ∷ []) added)
tail_of_cut tail (a ∷ []) rest failed whole (inl e) =
    let one : magic_word ≡ a = nth_of publish_ops (a ∷ failed ∷ rest) failed 0 whole in
    inr ([], inl refl, e ∙ ap (λ (o : LogOp). o ∷ []) (sym one))
tail_of_cut tail (a ∷ []) rest failed whole (inr (op, may, e)) =
    let one : magic_word ≡ a = nth_of publish_ops (a ∷ failed ∷ rest) failed 0 whole in
    let same : magic_back ≡ failed = nth_of publish_ops (a ∷ failed ∷ rest) failed 1 whole in
    let added : op ≡ magic_back = subst (λ (f : LogOp). MayAdd f op) (sym same) may in
    inr (op ∷ [], inr (inl (ap (λ (o : LogOp). o ∷ []) added)), e ∙ ap (λ (o : LogOp). o ∷ op ∷ []) (sym one))
tail_of_cut tail (a ∷ b ∷ []) rest failed whole (inl e) =
    let one : magic_word ≡ a = nth_of publish_ops (a ∷ b ∷ failed ∷ rest) failed 0 whole in
    let two : magic_back ≡ b = nth_of publish_ops (a ∷ b ∷ failed ∷ rest) failed 1 whole in
    inr (b ∷ [], inr (inl (ap (λ (o : LogOp). o ∷ []) (sym two))), e ∙ ap (λ (o : LogOp). o ∷ b ∷ []) (sym one))
tail_of_cut tail (a ∷ b ∷ []) rest failed whole (inr (op, may, e)) =
    let one : magic_word ≡ a = nth_of publish_ops (a ∷ b ∷ failed ∷ rest) failed 0 whole in
    let two : magic_back ≡ b = nth_of publish_ops (a ∷ b ∷ failed ∷ rest) failed 1 whole in
    let same : Sync ≡ failed = nth_of publish_ops (a ∷ b ∷ failed ∷ rest) failed 2 whole in
    inr (b ∷ op ∷ [], inr (inr (mark op two (subst (λ (f : LogOp). MayAdd f op) (sym same) may))), e ∙ ap (λ (o : LogOp). o ∷ b ∷ op ∷ []) (sym one))
  where
    mark : (op : LogOp) → magic_back ≡ b → IsMark op → (b ∷ op ∷ [] ≡ magic_back ∷ Fence ∷ []) ⊎ (b ∷ op ∷ [] ≡ magic_back ∷ Sync ∷ [])
    mark (Whole line to) two is = absurd is
    mark (Word line word to) two is = absurd is
    mark (Back first count) two is = absurd is
    mark Fence two is = inl (ap (λ (o : LogOp). o ∷ Fence ∷ []) (sym two))
    mark Sync two is = inr (ap (λ (o : LogOp). o ∷ Sync ∷ []) (sym two))
tail_of_cut tail (a ∷ b ∷ c ∷ prefix) rest failed whole added =
    absurd (omega (arith, ap length whole, length-append prefix (failed ∷ rest)))

-- appearing that is cut off is such a tail
pub cut_off-tail : (tail : List LogOp) → IsFailedPrefix publish_ops tail → IsTail tail
cut_off-tail tail cut = tail_of_cut tail cut.prefix cut.rest cut.failed cut.whole cut.added

-- What is known of the images

-- a fresh region, without its magic or with it
abbrev pub PreparedOrFormed : Header → List Line → Words → Type 0
PreparedOrFormed head lines words = Prepared head lines words ⊎ Formed head lines words

-- no region, or the fresh one
abbrev pub BareOrFormed : Header → List Line → Words → Type 0
BareOrFormed head lines words = Bare words ⊎ Formed head lines words

bare_or_formed : (head : Header) (lines : List Line) (words : Words) → PreparedOrFormed head lines words → BareOrFormed head lines words
bare_or_formed head lines words (inl prepared) = inl prepared.0
bare_or_formed head lines words (inr formed) = inr formed

-- an image is as one before but for the first word, which is as before or the magic
pub record Appears (before image : Words) : Type 0 where
  pub others : (line word : ℕ) → (line ≡ 0 → word ≢ 0) → image line word ≡ before line word
  pub first : (image 0 0 ≡ before 0 0) ⊎ (image 0 0 ≡ MAGIC)

appears_laid : (head : Header) (lines : List Line) (before image : Words) → Appears before image → HasWritten head lines before → HasWritten head lines image
appears_laid head lines before image appears laid line word here other =
    appears.others line word other ∙ laid line word here other

appears_formed : (head : Header) (lines : List Line) (before image : Words) → Appears before image → Formed head lines before → Formed head lines image
appears_formed head lines before image appears formed =
    (first appears.first, appears_laid head lines before image appears formed.1)
  where
    first : (image 0 0 ≡ before 0 0) ⊎ (image 0 0 ≡ MAGIC) → image 0 0 ≡ MAGIC
    first (inl same) = same ∙ formed.0
    first (inr is) = is

appears_either : (head : Header) (lines : List Line) (before image : Words) → Appears before image → PreparedOrFormed head lines before → PreparedOrFormed head lines image
appears_either head lines before image appears (inr formed) =
    inr (appears_formed head lines before image appears formed)
appears_either head lines before image appears (inl prepared) = first appears.first
  where
    first : (image 0 0 ≡ before 0 0) ⊎ (image 0 0 ≡ MAGIC) → PreparedOrFormed head lines image
    first (inl same) =
        inl ((λ is. prepared.0 (sym same ∙ is)), appears_laid head lines before image appears prepared.1)
    first (inr is) = inr (is, appears_laid head lines before image appears prepared.1)

-- so it is after a write of the magic
magic_appears : (before image : Words) → DiffersBy magic_word before image → Appears before image
magic_appears before image differs = record { others = others; first = first (differs 0 0) }
  where
    others : (line word : ℕ) → (line ≡ 0 → word ≢ 0) → image line word ≡ before line word
    others line word other =
        elim (differs line word) [
          | inl same ↦ same
          | inr written ↦ absurd (other (sym written.0) (sym written.1))
        ]

    first : (image 0 0 ≡ before 0 0) ⊎ MayWrite 0 0 (image 0 0) magic_word → (image 0 0 ≡ before 0 0) ⊎ (image 0 0 ≡ MAGIC)
    first (inl same) = inl same
    first (inr written) = inr (sym written.2)

-- and after each word that settling may write for the empty object
zero_appears : (head : Header) (first second lines : List Line) (line to : ℕ) (before image : Words) → (line ≡ 1) ⊎ (line ≡ 2) → to ≡ 0 → IsWrittenIn head first second lines → HasWritten head lines before → DiffersBy (Word line 0 to) before image → Appears before image
zero_appears head first second lines line to before image which is_zero is laid differs = record { others = others; first = inl (others_at 0 0 (differs 0 0)) }
  where
    zeros : (line ≡ 1) ⊎ (line ≡ 2) → before line 0 ≡ 0
    zeros (inl e) =
        ap (λ (n : ℕ). before n 0) e ∙ (laid 1 0 (inl (omega arith)) (λ f. absurd (omega (arith, f))) ∙ ap (λ (l : Line). slice_index l.words 0) is.first_round)
    zeros (inr e) =
        ap (λ (n : ℕ). before n 0) e ∙ (laid 2 0 (inl (omega arith)) (λ f. absurd (omega (arith, f))) ∙ ap (λ (l : Line). slice_index l.words 0) is.second_round)

    others_at : (at word : ℕ) → (image at word ≡ before at word) ⊎ MayWrite at word (image at word) (Word line 0 to) → image at word ≡ before at word
    others_at at word (inl same) = same
    others_at at word (inr (here, place, value)) =
        sym value ∙ (is_zero ∙ (sym (zeros which) ∙ (ap (λ (n : ℕ). before n 0) here ∙ ap (before at) place)))

    others : (at word : ℕ) → (at ≡ 0 → word ≢ 0) → image at word ≡ before at word
    others at word other = others_at at word (differs at word)

settling_appears : (head : Header) (first second lines : List Line) (line word to : ℕ) (before image : Words) → IsSettlingWord line word to (empty_for head) → IsWrittenIn head first second lines → HasWritten head lines before → DiffersBy (Word line word to) before image → Appears before image
settling_appears head first second lines line word to before image settle_ops is laid differs =
    go settle_ops.1 (subst (λ (w : ℕ). DiffersBy (Word line w to) before image) settle_ops.0 differs)
  where
    go : ((line ≡ 0) × (to ≡ MAGIC)) ⊎ (((line ≡ 1) × (to ≡ rounds_of (empty_for head) 0)) ⊎ ((line ≡ 2) × (to ≡ rounds_of (empty_for head) 1))) → DiffersBy (Word line 0 to) before image → Appears before image
    go (inl (at, value)) d =
        magic_appears before image (subst (λ (v : ℕ). DiffersBy (Word 0 0 v) before image) value (subst (λ (l : ℕ). DiffersBy (Word l 0 to) before image) at d))
    go (inr (inl (at, value))) d =
        zero_appears head first second lines line to before image (inl at) (value ∙ no_rounds head 0) is laid d
    go (inr (inr (at, value))) d =
        zero_appears head first second lines line to before image (inr at) (value ∙ no_rounds head 1) is laid d

-- After the magic

-- what formatting is asked for
pub record IsFormatting (base : List Line) (log : List LogOp) (head : Header) (first second : List Line) : Type 0 where
  pub valid : IsHeader head
  pub long : length base ≡ LINES
  pub empty : AreEmptyRecords head first second
  pub ready : IsReady base log (None ∷ [])

-- the lines of the fresh region, without its magic
abbrev pub fresh_lines : List Line → List LogOp → Header → List Line → List Line → List Line
fresh_lines base log head first second = contents base (log ++ laying head first second)

fresh_laid : (base : List Line) (log : List LogOp) (head : Header) (first second : List Line) → IsFormatting base log head first second → IsWrittenIn head first second (fresh_lines base log head first second)
fresh_laid base log head first second is =
    subst (IsWrittenIn head first second) (sym (contents-append base log (laying head first second))) (laid_in head first second (contents base log) is.valid is.empty (length-contents base log ∙ is.long))

some_lines : (base : List Line) → length base ≡ LINES → 0 < length base
some_lines base long = omega (arith, long)

-- the region is prepared after its fence
pub prepared_bounds : (base : List Line) (log : List LogOp) (head : Header) (first second : List Line) → IsFormatting base log head first second → Bounds base (reverse (log ++ prepare_ops head first second)) Bare (Prepared head (fresh_lines base log head first second)) (Prepared head (fresh_lines base log head first second))
prepared_bounds base log head first second is =
    let lines : List Line = fresh_lines base log head first second in
    let bare = quiet-bare log (laying head first second) (laying_quiet head first second) (bare_start base log (some_lines base is.long) is.ready) in
    subst (λ (l : List LogOp). Bounds base (reverse l) Bare (Prepared head lines) (Prepared head lines)) (append_assoc log (laying head first second) (write_backs head) ∙ ap (λ (l : List LogOp). log ++ l) (sym (prepare_ops-is head first second))) (write_backs_bounds (log ++ laying head first second) head bare)

magic_in : (lines : List Line) → 0 < length lines → word_of (applied magic_word lines) 0 0 ≡ MAGIC
magic_in [] some = absurd (omega arith)
magic_in (line ∷ lines) some = get_or-set_same line.words 0 MAGIC 0 (omega (arith, line.eight))

-- what follows the magic writes nothing
rest_writes_nothing : (lines : List Line) (rest : List LogOp) → IsRest rest → contents lines rest ≡ lines
unfolding contents
rest_writes_nothing lines rest (inl e) = ap (contents lines) e
rest_writes_nothing lines rest (inr (inl e)) = ap (contents lines) e
rest_writes_nothing lines rest (inr (inr (inl e))) = ap (contents lines) e
rest_writes_nothing lines rest (inr (inr (inr e))) = ap (contents lines) e

-- after a log with the magic there is a region
magic_there : (base : List Line) (log rest : List LogOp) → 0 < length base → IsRest rest → HasRegion (contents base (log ++ magic_word ∷ rest))
magic_there base log rest some is =
    ap (λ (l : List Line). word_of l 0 0) (ap (contents base) (sym (append_assoc log (magic_word ∷ []) rest)) ∙ (contents-append base (log ++ magic_word ∷ []) rest ∙ (rest_writes_nothing (contents base (log ++ magic_word ∷ [])) rest is ∙ contents_push base log magic_word))) ∙ magic_in (contents base log) (omega (arith, some, length-contents base log))

called_bounds : {base : List Line} (log : List LogOp) (head : Header) (lines : List Line) → Bounds base (reverse log) Bare (Prepared head lines) (Prepared head lines) → Bounds base (reverse (log ++ magic_word ∷ [])) (BareOrFormed head lines) (PreparedOrFormed head lines) (PreparedOrFormed head lines)
called_bounds log head lines bounds =
    push_write log magic_word 0 (BareOrFormed head lines) (PreparedOrFormed head lines) (PreparedOrFormed head lines) refl bounds (λ before image prepared differs. appears_either head lines before image (magic_appears before image differs) (inl prepared)) (λ before image prepared differs. appears_either head lines before image (magic_appears before image differs) (inl prepared)) (λ words bare. inl bare) (bare_or_formed head lines)

given_bounds : {base : List Line} (log : List LogOp) (head : Header) (lines : List Line) → 0 < length base → Bounds base (reverse log) Bare (Prepared head lines) (Prepared head lines) → Bounds base (reverse ((log ++ magic_word ∷ []) ++ magic_back ∷ [])) (BareOrFormed head lines) (PreparedOrFormed head lines) (Formed head lines)
given_bounds {base} log head lines some bounds =
    push_back (log ++ magic_word ∷ []) 0 1 (Formed head lines) (called_bounds log head lines bounds) with_magic
  where
    with_magic : (words : Words) → PreparedOrFormed head lines words → HasGiven 0 1 (contents base (log ++ magic_word ∷ [])) words → Formed head lines words
    with_magic words (inl prepared) given =
        absurd (prepared.0 (given 0 0 (omega arith) (omega arith) ∙ magic_there base log [] some (inl refl)))
    with_magic words (inr formed) given = formed

-- after the magic and what follows it
pub rest_bounds : {base : List Line} (log rest : List LogOp) (head : Header) (lines : List Line) → 0 < length base → IsRest rest → Bounds base (reverse log) Bare (Prepared head lines) (Prepared head lines) → Bounds base (reverse (log ++ magic_word ∷ rest)) (BareOrFormed head lines) (PreparedOrFormed head lines) (PreparedOrFormed head lines)
rest_bounds {base} log rest head lines some is bounds = go is
  where
    Known : List LogOp → Type 0
    Known l = Bounds base (reverse l) (BareOrFormed head lines) (PreparedOrFormed head lines) (PreparedOrFormed head lines)

    go : IsRest rest → Bounds base (reverse (log ++ magic_word ∷ rest)) (BareOrFormed head lines) (PreparedOrFormed head lines) (PreparedOrFormed head lines)
    go (inl e) =
        subst (λ (r : List LogOp). Known (log ++ magic_word ∷ r)) (sym e) (called_bounds log head lines bounds)
    go (inr (inl e)) =
        subst (λ (r : List LogOp). Known (log ++ magic_word ∷ r)) (sym e) (subst Known (append_assoc log (magic_word ∷ []) (magic_back ∷ [])) (Bounds-weaker (BareOrFormed head lines) (PreparedOrFormed head lines) (PreparedOrFormed head lines) (given_bounds log head lines some bounds) (λ w b. b) (λ w p. p) (λ w f. inr f)))
    go (inr (inr (inl e))) =
        subst (λ (r : List LogOp). Known (log ++ magic_word ∷ r)) (sym e) (subst Known (push_three log magic_word magic_back Fence) (Bounds-weaker (BareOrFormed head lines) (PreparedOrFormed head lines) (PreparedOrFormed head lines) (push_fence ((log ++ magic_word ∷ []) ++ magic_back ∷ []) (given_bounds log head lines some bounds)) (λ w b. b) (λ w f. inr f) (λ w f. inr f)))
    go (inr (inr (inr e))) =
        subst (λ (r : List LogOp). Known (log ++ magic_word ∷ r)) (sym e) (subst Known (push_three log magic_word magic_back Sync) (Bounds-weaker (BareOrFormed head lines) (PreparedOrFormed head lines) (PreparedOrFormed head lines) (push_sync ((log ++ magic_word ∷ []) ++ magic_back ∷ []) (given_bounds log head lines some bounds)) (λ w f. inr f) (λ w f. inr f) (λ w f. inr f)))

-- after the sync the region is there
pub appeared_bounds : {base : List Line} (log : List LogOp) (head : Header) (lines : List Line) → 0 < length base → Bounds base (reverse log) Bare (Prepared head lines) (Prepared head lines) → Bounds base (reverse (log ++ publish_ops)) (Formed head lines) (Formed head lines) (Formed head lines)
appeared_bounds {base} log head lines some bounds =
    subst (λ (l : List LogOp). Bounds base (reverse l) (Formed head lines) (Formed head lines) (Formed head lines)) (push_three log magic_word magic_back Sync) (push_sync ((log ++ magic_word ∷ []) ++ magic_back ∷ []) (given_bounds log head lines some bounds))

-- Covering

tail_records : (lines : List Line) (tail : List LogOp) → IsTail tail → history_after lines [] tail ≡ []
unfolding history_after
tail_records lines tail (inl e) = ap (history_after lines []) e
tail_records lines tail (inr (rest, is, e)) = ap (history_after lines []) e ∙ go is
  where
    go : IsRest rest → history_after lines [] (magic_word ∷ rest) ≡ []
    go (inl e) = ap (λ (r : List LogOp). history_after lines [] (magic_word ∷ r)) e
    go (inr (inl e)) = ap (λ (r : List LogOp). history_after lines [] (magic_word ∷ r)) e
    go (inr (inr (inl e))) = ap (λ (r : List LogOp). history_after lines [] (magic_word ∷ r)) e
    go (inr (inr (inr e))) = ap (λ (r : List LogOp). history_after lines [] (magic_word ∷ r)) e

-- formatting records no round
format_records : (lines : List Line) (head : Header) (first second : List Line) (tail : List LogOp) → IsTail tail → history_after lines [] (prepare_ops head first second ++ tail) ≡ []
format_records lines head first second tail is =
    history_after-append lines [] (prepare_ops head first second) tail ∙ (ap (λ (h : List LoggedRound). history_after (contents lines (prepare_ops head first second)) h tail) (quiet-records lines (prepare_ops head first second) (preparing_quiet head first second)) ∙ tail_records (contents lines (prepare_ops head first second)) tail is)

rest_taken : (count : ℕ) (rest : List LogOp) → IsRest rest → IsRest (take count rest)
rest_taken zero rest is = inl refl
rest_taken (suc count) rest (inl e) = inl (ap (take (suc count)) e)
rest_taken (suc zero) rest (inr (inl e)) = inr (inl (ap (take 1) e))
rest_taken (suc (suc count)) rest (inr (inl e)) = inr (inl (ap (take (suc (suc count))) e))
rest_taken (suc zero) rest (inr (inr (inl e))) = inr (inl (ap (take 1) e))
rest_taken (suc (suc zero)) rest (inr (inr (inl e))) = inr (inr (inl (ap (take 2) e)))
rest_taken (suc (suc (suc count))) rest (inr (inr (inl e))) = inr (inr (inl (ap (take (suc (suc (suc count)))) e)))
rest_taken (suc zero) rest (inr (inr (inr e))) = inr (inl (ap (take 1) e))
rest_taken (suc (suc zero)) rest (inr (inr (inr e))) = inr (inr (inr (ap (take 2) e)))
rest_taken (suc (suc (suc count))) rest (inr (inr (inr e))) = inr (inr (inr (ap (take (suc (suc (suc count)))) e)))

tail_taken : (count : ℕ) (tail : List LogOp) → IsTail tail → IsTail (take count tail)
tail_taken zero tail is = inl refl
tail_taken (suc count) tail (inl e) = inl (ap (take (suc count)) e)
tail_taken (suc count) tail (inr (rest, is, e)) =
    inr (take count rest, rest_taken count rest is, ap (take (suc count)) e)

-- an image without a region, or that of the empty object
abbrev pub NoneOrEmpty : Header → List Line → Type 0
NoneOrEmpty head image = (¬ HasRegion image) ⊎ Represents image (empty_for head)

-- what formatting lays, as lines
formed_image : (base : List Line) (log : List LogOp) (head : Header) (first second : List Line) → IsFormatting base log head first second → (words : Words) → Formed head (fresh_lines base log head first second) words → Represents (image_of (length base) words) (empty_for head)
formed_image base log head first second is words formed =
    formed_stands head first second (fresh_lines base log head first second) (length base) words is.valid is.empty (fresh_laid base log head first second is) is.long formed

none_or_empty : (base : List Line) (log : List LogOp) (head : Header) (first second : List Line) → IsFormatting base log head first second → (words : Words) → BareOrFormed head (fresh_lines base log head first second) words → NoneOrEmpty head (image_of (length base) words)
none_or_empty base log head first second is words (inl bare) =
    inl (nothing_of_bare (length base) words (some_lines base is.long) bare)
none_or_empty base log head first second is words (inr formed) =
    inr (formed_image base log head first second is words formed)

-- each image after the magic has no region, or is that of the empty object
rest_images : (base : List Line) (log : List LogOp) (head : Header) (first second : List Line) (rest : List LogOp) → IsFormatting base log head first second → IsRest rest → (image : List Line) → IsCrashImage base ((log ++ prepare_ops head first second) ++ magic_word ∷ rest) image → NoneOrEmpty head image
rest_images base log head first second rest is follows =
    image_from_bounds ((log ++ prepare_ops head first second) ++ magic_word ∷ rest) (NoneOrEmpty head) (rest_bounds (log ++ prepare_ops head first second) rest head (fresh_lines base log head first second) (some_lines base is.long) follows (prepared_bounds base log head first second is)) (none_or_empty base log head first second is)

-- after the sync each is that of the empty object
appeared_images : (base : List Line) (log : List LogOp) (head : Header) (first second : List Line) → IsFormatting base log head first second → (image : List Line) → IsCrashImage base ((log ++ prepare_ops head first second) ++ publish_ops) image → Represents image (empty_for head)
appeared_images base log head first second is =
    image_from_bounds ((log ++ prepare_ops head first second) ++ publish_ops) (λ (i : List Line). Represents i (empty_for head)) (appeared_bounds (log ++ prepare_ops head first second) head (fresh_lines base log head first second) (some_lines base is.long) (prepared_bounds base log head first second is)) (formed_image base log head first second is)

-- an image of the empty object is covered
covered_empty : (lines image : List Line) (head : Header) (first second : List Line) (tail : List LogOp) → IsTail tail → Represents image (empty_for head) → IsCoveredBy (empty_for head) (history_after lines [] (prepare_ops head first second ++ tail)) image
covered_empty lines image head first second tail is stands = record {
  kept = [];
  lost = [];
  whole = format_records lines head first second tail is;
  unsealed = tt;
  stands = stands;
}

-- formatting is covered prefix by prefix
tail_front : (base : List Line) (log : List LogOp) (head : Header) (first second : List Line) (tail : List LogOp) → IsFormatting base log head first second → IsTail tail → IsCoveredPrefix base log (empty_for head) (prepare_ops head first second ++ tail)
tail_front base log head first second tail is (inl e) =
    subst (IsCoveredPrefix base log (empty_for head)) (sym (append-nil (prepare_ops head first second)) ∙ ap (λ (t : List LogOp). prepare_ops head first second ++ t) (sym e)) (quiet_front base log (prepare_ops head first second) (empty_for head) (some_lines base is.long) is.ready (preparing_quiet head first second))
tail_front base log head first second tail is (inr (rest, follows, e)) =
    subst (λ (t : List LogOp). IsCoveredPrefix base log (empty_for head) (prepare_ops head first second ++ t)) (sym e) (go follows)
  where
    prefix : List LogOp
    prefix = prepare_ops head first second

    left_after : (image : List Line) (more : List LogOp) → IsCrashImage base (log ++ (prefix ++ more)) image → IsCrashImage base ((log ++ prefix) ++ more) image
    left_after image more left = subst (λ (l : List LogOp). IsCrashImage base l image) (sym (append_assoc log prefix more)) left

    without_sync : (rest : List LogOp) → IsRest rest → list_any is_sync (magic_word ∷ rest) ≡ false → IsCoveredPrefix base log (empty_for head) (prefix ++ magic_word ∷ rest)
    without_sync rest follows none image left =
        elim (rest_images base log head first second rest is follows image (left_after image (magic_word ∷ rest) left)) [
          | inl nothing ↦ inr (
            list_any-append is_sync prefix (magic_word ∷ rest) ∙ (ap (λ (b : Bool). b || list_any is_sync (magic_word ∷ rest)) (quiet-no_sync prefix (preparing_quiet head first second)) ∙ none),
            record {
              earlier = contents base log;
              left = IsCrashImage-contents base log;
              member = None;
              stood = nothing_at_start base log is.ready;
              stands = nothing;
            },
          )
          | inr stands ↦ inl (covered_empty (contents base log) image head first second (magic_word ∷ rest) (inr (rest, follows, refl)) stands)
        ]

    with_sync : IsCoveredPrefix base log (empty_for head) (prefix ++ publish_ops)
    with_sync image left =
        inl (covered_empty (contents base log) image head first second publish_ops (inr (magic_back ∷ Sync ∷ [], inr (inr (inr refl)), refl)) (appeared_images base log head first second is image (left_after image publish_ops left)))

    go : IsRest rest → IsCoveredPrefix base log (empty_for head) (prefix ++ magic_word ∷ rest)
    go (inl e) = without_sync rest (inl e) (ap (λ (r : List LogOp). list_any is_sync (magic_word ∷ r)) e)
    go (inr (inl e)) =
        without_sync rest (inr (inl e)) (ap (λ (r : List LogOp). list_any is_sync (magic_word ∷ r)) e)
    go (inr (inr (inl e))) =
        without_sync rest (inr (inr (inl e))) (ap (λ (r : List LogOp). list_any is_sync (magic_word ∷ r)) e)
    go (inr (inr (inr e))) =
        subst (λ (r : List LogOp). IsCoveredPrefix base log (empty_for head) (prefix ++ magic_word ∷ r)) (sym e) with_sync

-- after the magic the device holds the empty object
rest_contents : (base : List Line) (log : List LogOp) (head : Header) (first second : List Line) (rest : List LogOp) → IsFormatting base log head first second → IsRest rest → Represents (contents base (log ++ (prepare_ops head first second ++ magic_word ∷ rest))) (empty_for head)
rest_contents base log head first second rest is follows =
    subst (λ (l : List LogOp). Represents (contents base l) (empty_for head)) (append_assoc log (prepare_ops head first second) (magic_word ∷ rest)) (go (rest_images base log head first second rest is follows (contents base after) (IsCrashImage-contents base after)))
  where
    after : List LogOp
    after = (log ++ prepare_ops head first second) ++ magic_word ∷ rest

    go : NoneOrEmpty head (contents base after) → Represents (contents base after) (empty_for head)
    go (inl nothing) =
        absurd (nothing (magic_there base (log ++ prepare_ops head first second) rest (some_lines base is.long) follows))
    go (inr stands) = stands

-- formatting from its magic on is covered
rest_covers : (base : List Line) (log : List LogOp) (head : Header) (first second : List Line) (rest : List LogOp) → IsFormatting base log head first second → IsRest rest → Covers base (log ++ (prepare_ops head first second ++ magic_word ∷ rest)) (length log) (empty_for head) []
rest_covers base log head first second rest is follows =
    covers_by_prefixes base log (prefix ++ tail) (empty_for head) [] (sym (format_records (contents base log) head first second tail is_tail)) prefixes (inl (rest_contents base log head first second rest is follows))
  where
    prefix : List LogOp
    prefix = prepare_ops head first second

    tail : List LogOp
    tail = magic_word ∷ rest

    is_tail : IsTail tail
    is_tail = inr (rest, follows, refl)

    prefixes : (count : ℕ) → IsCoveredPrefix base log (empty_for head) (take count (prefix ++ tail))
    prefixes count =
        elim (cases_lt count (length prefix)) [
          | inl less ↦ subst (IsCoveredPrefix base log (empty_for head)) (sym (take-append-le count prefix tail (omega (arith, less)))) (quiet_front base log (take count prefix) (empty_for head) (some_lines base is.long) is.ready (All-take IsQuiet count prefix (preparing_quiet head first second)))
          | inr more ↦ subst (IsCoveredPrefix base log (empty_for head)) (sym (after count more)) (tail_front base log head first second (take (count - length prefix) tail) is (tail_taken (count - length prefix) tail is_tail))
        ]
      where
        after : (count : ℕ) → length prefix ≤ count → take count (prefix ++ tail) ≡ prefix ++ take (count - length prefix) tail
        after count more =
            let e : count ≡ length prefix + (count - length prefix) = omega (arith, more) in
            ap (λ (n : ℕ). take n (prefix ++ tail)) e ∙ take-append-add prefix tail (count - length prefix)

-- The laws

-- after its magic formatting leaves no region or the empty object
rest_leaves : (base : List Line) (log : List LogOp) (head : Header) (first second : List Line) (rest : List LogOp) → IsFormatting base log head first second → IsRest rest → IsExit base log (prepare_ops head first second ++ magic_word ∷ rest) (empty_for head) [] (None ∷ Some (empty_for head) ∷ [])
rest_leaves base log head first second rest is follows = record {
  covers = rest_covers base log head first second rest is follows;
  one_unsealed = covered_stepwise (rest_covers base log head first second rest is follows) (omega arith);
  ready = ready_from_bounds base (log ++ (prepare_ops head first second ++ magic_word ∷ rest)) members (record {
    shape = refl;
    settled = PreparedOrFormed head lines;
    bounds = Bounds-weaker (IsOneOf base members) (PreparedOrFormed head lines) (PreparedOrFormed head lines) (subst (λ (l : List LogOp). Bounds base (reverse l) (BareOrFormed head lines) (PreparedOrFormed head lines) (PreparedOrFormed head lines)) (append_assoc log (prepare_ops head first second) (magic_word ∷ rest)) (rest_bounds (log ++ prepare_ops head first second) rest head lines (some_lines base is.long) follows (prepared_bounds base log head first second is))) one_of (λ w p. p) (λ w p. p);
    inside = λ words either. one_of words (bare_or_formed head lines words either);
    keeps = keeps;
  });
}
  where
    members : List (Option Standing)
    members = None ∷ Some (empty_for head) ∷ []

    lines : List Line
    lines = fresh_lines base log head first second

    one_of : (words : Words) → BareOrFormed head lines words → IsOneOf base members words
    one_of words known = go (none_or_empty base log head first second is words known)
      where
        go : NoneOrEmpty head (image_of (length base) words) → IsOneOf base members words
        go (inl nothing) = inl nothing
        go (inr stands) = inr (inl stands)

    keeps : KeepsSettled members (PreparedOrFormed head lines)
    keeps line word to (inl settle_ops) before image either differs =
        appears_either head lines before image (settling_appears head first second lines line word to before image settle_ops (fresh_laid base log head first second is) (laid either) differs) either
      where
        laid : PreparedOrFormed head lines before → HasWritten head lines before
        laid (inl prepared) = prepared.1
        laid (inr formed) = formed.1
    keeps line word to (inr other) before image either differs = absurd other

-- formatting that is cut off while it appears leaves no region, or the empty object where the magic was called
pub cut_off_while_appearing : (base : List Line) (log tail : List LogOp) (head : Header) (first second : List Line) → IsHeader head → length base ≡ LINES → AreEmptyRecords head first second → IsReady base log (None ∷ []) → IsFailedPrefix publish_ops tail → IsExitPublishing base log (prepare_ops head first second ++ tail) tail head
cut_off_while_appearing base log tail head first second valid long empty ready cut = record {
  none = λ e. subst (λ (t : List LogOp). IsExit base log (prepare_ops head first second ++ t) (empty_for head) [] (None ∷ [])) (sym e) (subst (λ (l : List LogOp). IsExit base log l (empty_for head) [] (None ∷ [])) (sym (append-nil (prepare_ops head first second))) (quiet_leaves base log (prepare_ops head first second) (empty_for head) (some_lines base long) ready (preparing_quiet head first second)));
  some = λ other. go other (cut_off-tail tail cut);
  holds = λ other. at_next_mark other (cut_off-tail tail cut);
}
  where
    at_next_mark : ¬ (tail ≡ []) → IsTail tail → Represents (contents base (log ++ (prepare_ops head first second ++ tail))) (empty_for head)
    at_next_mark other (inl e) = absurd (other e)
    at_next_mark other (inr (rest, follows, e)) =
        subst (λ (t : List LogOp). Represents (contents base (log ++ (prepare_ops head first second ++ t))) (empty_for head)) (sym e) (rest_contents base log head first second rest (record { valid = valid; long = long; empty = empty; ready = ready }) follows)

    go : ¬ (tail ≡ []) → IsTail tail → IsExit base log (prepare_ops head first second ++ tail) (empty_for head) [] (None ∷ Some (empty_for head) ∷ [])
    go other (inl e) = absurd (other e)
    go other (inr (rest, follows, e)) =
        subst (λ (t : List LogOp). IsExit base log (prepare_ops head first second ++ t) (empty_for head) [] (None ∷ Some (empty_for head) ∷ [])) (sym e) (rest_leaves base log head first second rest (record { valid = valid; long = long; empty = empty; ready = ready }) follows)

-- whole formatting leaves the empty object alone
pub makes_a_region : (base : List Line) (log : List LogOp) (head : Header) (first second : List Line) → IsHeader head → length base ≡ LINES → AreEmptyRecords head first second → IsReady base log (None ∷ []) → IsExit base log (format_ops head first second) (empty_for head) [] (Some (empty_for head) ∷ [])
makes_a_region base log head first second valid long empty ready = record {
  covers = rest_covers base log head first second (magic_back ∷ Sync ∷ []) is (inr (inr (inr refl)));
  one_unsealed = covered_stepwise (rest_covers base log head first second (magic_back ∷ Sync ∷ []) is (inr (inr (inr refl)))) (omega arith);
  ready = ready_from_bounds base (log ++ (prepare_ops head first second ++ publish_ops)) members (record {
    shape = tt;
    settled = Formed head lines;
    bounds = Bounds-weaker (IsOneOf base members) (Formed head lines) (Formed head lines) (subst (λ (l : List LogOp). Bounds base (reverse l) (Formed head lines) (Formed head lines) (Formed head lines)) (append_assoc log (prepare_ops head first second) publish_ops) (appeared_bounds (log ++ prepare_ops head first second) head lines (some_lines base long) (prepared_bounds base log head first second is))) one_of (λ w f. f) (λ w f. f);
    inside = one_of;
    keeps = keeps;
  });
}
  where
    is : IsFormatting base log head first second
    is = record { valid = valid; long = long; empty = empty; ready = ready }

    members : List (Option Standing)
    members = Some (empty_for head) ∷ []

    lines : List Line
    lines = fresh_lines base log head first second

    one_of : (words : Words) → Formed head lines words → IsOneOf base members words
    one_of words formed = inl (formed_image base log head first second is words formed)

    keeps : KeepsSettled members (Formed head lines)
    keeps line word to (inl settle_ops) before image formed differs =
        appears_formed head lines before image (settling_appears head first second lines line word to before image settle_ops (fresh_laid base log head first second is) formed.1 differs) formed
    keeps line word to (inr other) before image formed differs = absurd other

-- formatting lines that have no region makes them the empty one
pub formatted_stands : (head : Header) (first lines : List Line) → IsHeader head → AreEmptyRecords head first [] → length lines ≡ LINES → ¬ HasRegion lines → Represents (contents lines (format_ops head first [])) (empty_for head)
formatted_stands head first lines valid empty long bare =
    only_member _ (empty_for head) (makes_a_region lines [] head first [] valid long empty (at_rest_is_ready lines [] None (IsAtRest-none lines) (subst (λ ls. ¬ HasRegion ls) (sym (contents-none lines)) bare))).ready.holds
