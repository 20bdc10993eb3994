-- Formatting before its magic is called: there is no region yet, and what is laid is what a crash leaves.
use Rattle.std.proofs.Common.{◌≡◌, ◌≢◌, ℕ, suc, ◌<◌, Bool, true, false, ◌==◌, List, [], ◌∷◌, ◌++◌, length, take, reverse, None, if◌then◌else◌, ap, subst, sym, refl, ◌∙◌, inl, inr, arith}
use Rattle.std.specs.List.{All}
use Rattle.std.proofs.lemmas.List.{append_assoc}
use Rattle.std.proofs.lemmas.List.Elements.{All-nil, All-append, All-cons, All-take}
use Rattle.pb_pmem.specs.declared.line.Line.{Line}
use Rattle.pb_pmem.specs.declared.line.TheConstants.{LINES}
use Rattle.pb_pmem.specs.declared.log.LogOp.{LogOp}
use Rattle.pb_pmem.specs.declared.log.LogOp.TheVariants.{Whole, Word, Back, Fence}
use Rattle.pb_pmem.specs.Contents.{contents}
use Rattle.pb_pmem.specs.Crash.{IsCrashImage}
use Rattle.pb_pmem.specs.Lines.{zero_line}
use Rattle.pb_pmem.specs.Past.{Words, Bounds}
use Rattle.pb_pmem.proofs.Bounds.{Bounds-weaker}
use Rattle.pb_pmem.proofs.CrashLaws.{IsCrashImage-contents}
use Rattle.pb_object.specs.Codes.{kind_code}
use Rattle.pb_object.specs.Standing.{Standing, side_count}
use Rattle.pb_layout.specs.Covers.{Covers}
use Rattle.pb_layout.specs.Damage.{HasRegion}
use Rattle.pb_layout.specs.declared.header.TheConstants.{VERSION}
use Rattle.pb_layout.specs.Shape.{IsHeader}
use Rattle.pb_layout.specs.Header.{record_length, old_record_length, old_first_record_line}
use Rattle.pb_layout.specs.Ready.{ImageRepresentsOne, IsReady}
use Rattle.pb_layout.specs.Region.{record_place}
use Rattle.pb_layout.specs.declared.header.Header.{Header}
use Rattle.pb_pmem.specs.Operations.{IsFailedPrefix, writes_from}
use Rattle.pb_layout.specs.RegionOps.{header_words, prepare_ops, front_ops, write_backs}
use Rattle.pb_layout.specs.Exits.{IsExit, AreEmptyRecords, empty_for}
use Rattle.pb_layout_laws.proofs.Entering.{ready_bounds, IsOneOf, ready_from_bounds, image_from_bounds}
use Rattle.pb_layout_laws.proofs.Prefixes.{IsCoveredPrefix, covers_by_prefixes}
use Rattle.pb_layout_laws.proofs.Geometry.{record_after}
use Rattle.pb_layout_laws.proofs.Images.{image_of, word_of-image_of}
use Rattle.pb_layout_laws.proofs.WritingRegion.{laying}
use Rattle.pb_layout_laws.proofs.Quiet.{IsQuiet, Bare, quiet-records, quiet-no_sync, quiet-bare, cut_off-quiet}
use Rattle.pb_layout_laws.proofs.OneUnsealed.{covered_stepwise}
use Rattle.pb_pmem.proofs.WrittenLines.{writes_from-none, writes_from-more}

-- No region

-- an image whose first word isn't the magic has no region
pub nothing_of_bare : (count : ℕ) (words : Words) → 0 < count → Bare words → ¬ HasRegion (image_of count words)
nothing_of_bare count words some bare region =
    bare (sym (word_of-image_of count words 0 0 some (omega arith)) ∙ region)

-- a device that is ready without a region leaves none
pub bare_start : (base : List Line) (log : List LogOp) → 0 < length base → IsReady base log (None ∷ []) → Bounds base (reverse log) Bare Bare Bare
bare_start base log some ready =
    Bounds-weaker Bare Bare Bare (ready_bounds base log (None ∷ []) ready) bare bare bare
  where
    bare : (words : Words) → IsOneOf base (None ∷ []) words → Bare words
    bare words (inl nothing) = λ is. nothing (word_of-image_of (length base) words 0 0 some (omega arith) ∙ is)
    bare words (inr other) = absurd other

-- and holds none
pub nothing_at_start : (base : List Line) (log : List LogOp) → IsReady base log (None ∷ []) → ¬ HasRegion (contents base log)
nothing_at_start base log ready = go ready.holds
  where
    go : ImageRepresentsOne (contents base log) (None ∷ []) → ¬ HasRegion (contents base log)
    go (inl nothing) = nothing
    go (inr other) = absurd other

-- after quiet operations there is no region
pub nothing_after : (base : List Line) (log ops : List LogOp) → 0 < length base → IsReady base log (None ∷ []) → All IsQuiet ops → (image : List Line) → IsCrashImage base (log ++ ops) image → ¬ HasRegion image
nothing_after base log ops some ready quiet =
    image_from_bounds (log ++ ops) (λ (i : List Line). ¬ HasRegion i) (quiet-bare log ops quiet (bare_start base log some ready)) (λ words bare. nothing_of_bare (length base) words some bare)

-- so they are covered, whatever standing is asked for
pub quiet_front : (base : List Line) (log prefix : List LogOp) (s : Standing) → 0 < length base → IsReady base log (None ∷ []) → All IsQuiet prefix → IsCoveredPrefix base log s prefix
quiet_front base log prefix s some ready quiet image left =
    inr (
      quiet-no_sync prefix quiet,
      record {
        earlier = contents base log;
        left = IsCrashImage-contents base log;
        member = None;
        stood = nothing_at_start base log ready;
        stands = nothing_after base log prefix some ready quiet image left;
      },
    )

-- quiet operations leave no region
pub quiet_leaves : (base : List Line) (log ops : List LogOp) (s : Standing) → 0 < length base → IsReady base log (None ∷ []) → All IsQuiet ops → IsExit base log ops s [] (None ∷ [])
quiet_leaves base log ops s some ready quiet = record {
  covers = covers;
  one_unsealed = covered_stepwise covers (omega arith);
  ready = ready_from_bounds base (log ++ ops) (None ∷ []) (record {
    shape = tt;
    settled = Bare;
    bounds = Bounds-weaker (IsOneOf base (None ∷ [])) Bare Bare (quiet-bare log ops quiet (bare_start base log some ready)) (λ words bare. inl (nothing_of_bare (length base) words some bare)) (λ words bare. bare) (λ words bare. bare);
    inside = λ words bare. inl (nothing_of_bare (length base) words some bare);
    keeps = λ line word to allowed. absurd allowed;
  });
}
  where
    covers : Covers base (log ++ ops) (length log) s []
    covers = covers_by_prefixes base log ops s [] (sym (quiet-records (contents base log) ops quiet)) (λ count. quiet_front base log (take count ops) s some ready (All-take IsQuiet count ops quiet)) (inr (nothing_at_start base log ready, quiet-no_sync ops quiet, nothing_after base log ops some ready quiet (contents base (log ++ ops)) (IsCrashImage-contents base (log ++ ops))))

-- What preparing does

-- preparing is all the writes but the magic, and then that
pub prepare_ops-is : (head : Header) (first second : List Line) → prepare_ops head first second ≡ laying head first second ++ write_backs head
prepare_ops-is head first second =
    sym (append_assoc (writes_from (record_place head 0 0) first) (writes_from (record_place head 1 0) second ++ front_ops head) (write_backs head) ∙ ap (λ (l : List LogOp). writes_from (record_place head 0 0) first ++ l) (append_assoc (writes_from (record_place head 1 0) second) (front_ops head) (write_backs head)))

writes_quiet : (first : ℕ) (lines : List Line) → first ≢ 0 → All IsQuiet (writes_from first lines)
writes_quiet first [] after = subst (All IsQuiet) (sym (writes_from-none first)) (All-nil IsQuiet)
writes_quiet first (line ∷ lines) after =
    subst (All IsQuiet) (sym (writes_from-more first line lines)) (All-cons IsQuiet (Whole first line) (writes_from (suc first) lines) after (writes_quiet (suc first) lines (λ e. omega (arith, e))))

word_quiet : (word to : ℕ) (ops : List LogOp) → word ≢ 0 → All IsQuiet ops → All IsQuiet (Word 0 word to ∷ ops)
word_quiet word to ops after quiet = All-cons IsQuiet (Word 0 word to) ops (refl, after) quiet

header_quiet : (head : Header) → All IsQuiet (header_words head)
header_quiet head =
    let from_seven : List LogOp = Word 0 7 0 ∷ [] in
    let from_six : List LogOp = Word 0 6 (old_first_record_line head) ∷ from_seven in
    let from_five : List LogOp = Word 0 5 (old_record_length head) ∷ from_six in
    let from_four : List LogOp = Word 0 4 head.size ∷ from_five in
    let from_three : List LogOp = Word 0 3 head.clients ∷ from_four in
    let from_two : List LogOp = Word 0 2 (kind_code head.kind) ∷ from_three in
    let seven = word_quiet 7 0 [] (λ e. omega (arith, e)) (All-nil IsQuiet) in
    let six = word_quiet 6 (old_first_record_line head) from_seven (λ e. omega (arith, e)) seven in
    let five = word_quiet 5 (old_record_length head) from_six (λ e. omega (arith, e)) six in
    let four = word_quiet 4 head.size from_five (λ e. omega (arith, e)) five in
    let three = word_quiet 3 head.clients from_four (λ e. omega (arith, e)) four in
    let two = word_quiet 2 (kind_code head.kind) from_three (λ e. omega (arith, e)) three in
    word_quiet 1 VERSION from_two (λ e. omega (arith, e)) two

front_ops_quiet : (head : Header) → All IsQuiet (front_ops head)
front_ops_quiet head =
    All-cons IsQuiet (Whole 1 zero_line) (Whole 2 zero_line ∷ header_words head) (λ e. omega (arith, e)) (All-cons IsQuiet (Whole 2 zero_line) (header_words head) (λ e. omega (arith, e)) (header_quiet head))

-- the writes are quiet
pub laying_quiet : (head : Header) (first second : List Line) → All IsQuiet (laying head first second)
laying_quiet head first second =
    All-append IsQuiet (writes_from (record_place head 0 0) first) (writes_from (record_place head 1 0) second ++ front_ops head) (writes_quiet (record_place head 0 0) first (λ e. omega (arith, e, record_after head 0 0))) (All-append IsQuiet (writes_from (record_place head 1 0) second) (front_ops head) (writes_quiet (record_place head 1 0) second (λ e. omega (arith, e, record_after head 1 0))) (front_ops_quiet head))

backs_quiet : (two : Bool) (first count : ℕ) → All IsQuiet ((if two then Back first count ∷ [] else []) ++ Fence ∷ [])
backs_quiet true first count = All-cons IsQuiet (Back first count) (Fence ∷ []) tt (All-cons IsQuiet Fence [] tt (All-nil IsQuiet))
backs_quiet false first count = All-cons IsQuiet Fence [] tt (All-nil IsQuiet)

write_backs_quiet : (head : Header) → All IsQuiet (write_backs head)
write_backs_quiet head =
    let rest : List LogOp = (if side_count head.kind == 2 then Back (record_place head 1 0) (record_length head) ∷ [] else []) ++ Fence ∷ [] in
    All-cons IsQuiet (Back 0 3) (Back (record_place head 0 0) (record_length head) ∷ rest) tt (All-cons IsQuiet (Back (record_place head 0 0) (record_length head)) rest tt (backs_quiet (side_count head.kind == 2) (record_place head 1 0) (record_length head)))

-- all of it is quiet
pub preparing_quiet : (head : Header) (first second : List Line) → All IsQuiet (prepare_ops head first second)
preparing_quiet head first second =
    subst (All IsQuiet) (sym (prepare_ops-is head first second)) (All-append IsQuiet (laying head first second) (write_backs head) (laying_quiet head first second) (write_backs_quiet head))

-- formatting that is cut off before its magic is called leaves no region
pub cut_off_while_preparing : (base : List Line) (log ops : List LogOp) (head : Header) (first second : List Line) → IsHeader head → length base ≡ LINES → AreEmptyRecords head first second → IsReady base log (None ∷ []) → IsFailedPrefix (prepare_ops head first second) ops → IsExit base log ops (empty_for head) [] (None ∷ [])
cut_off_while_preparing base log ops head first second valid long empty ready cut =
    quiet_leaves base log ops (empty_for head) (omega (arith, long)) ready (cut_off-quiet (prepare_ops head first second) ops (preparing_quiet head first second) cut)
