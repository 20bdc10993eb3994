-- Settling: what it leaves where it is cut off, and after all of it.
use Rattle.std.proofs.Common.{◌≡◌, ℕ, zero, suc, ◌+◌, ◌-◌, ◌<◌, ◌≤◌, ◌⊎◌, ◌==◌, Bool, true, false, List, [], ◌∷◌, ◌++◌, All, length, take, drop, reverse, Option, Some, None, if◌then◌else◌, ap, subst, sym, refl, ◌∙◌, inl, inr, arith}
use Rattle.std.proofs.Math.Seq.{take-append_seam, drop-append_seam, take-append-add}
use Rattle.std.proofs.lemmas.Bool.{cases_lt, false≢true}
use Rattle.std.proofs.lemmas.Bool.Decides.{nat_tests}
use Rattle.std.proofs.lemmas.List.{append-nil, append_assoc, length-append, reverse-append, reverse-reverse, take_all, take-append-le}
use Rattle.std.proofs.lemmas.List.Elements.{All-nil, All-cons, All-head, All-tail, All-append, All-push, All-take, All-drop, All-weaker}
use Rattle.std.proofs.lemmas.List.Folds.{list_any_none}
use Rattle.pb_pmem.specs.declared.line.Line.{Line}
use Rattle.pb_pmem.specs.declared.log.LogOp.{LogOp}
use Rattle.pb_pmem.specs.declared.log.LogOp.TheVariants.{Whole, Word, Back, Fence, Sync}
use Rattle.pb_pmem.specs.Contents.{contents}
use Rattle.pb_pmem.specs.Crash.{is_sync, is_back_of, IsCrashImage}
use Rattle.pb_pmem.specs.Lines.{word_of}
use Rattle.pb_pmem.specs.Past.{Leaves as LeavesWords}
use Rattle.pb_pmem.proofs.Agree.{Leaves-IsCrashImage}
use Rattle.pb_pmem.proofs.Bounds.{Leaves-after_Sync, AtNextMark-given}
use Rattle.pb_pmem.proofs.Lines.{contents-none, contents-first, contents-append}
use Rattle.pb_pmem.proofs.CrashLaws.{applied-same}
use Rattle.pb_object.specs.History.{Round, after_round, IsLegalRound}
use Rattle.pb_object.specs.Standing.{Standing, rounds_of, side_count}
use Rattle.pb_layout.specs.Covers.{IsCoveredBy, Covers}
use Rattle.pb_layout.specs.Header.{word}
use Rattle.pb_layout.specs.LogHistory.{raises_index, recorded_by_op, history_after}
use Rattle.pb_layout.specs.Ready.{ImageRepresents, ImageRepresentsOne, HasStanding, IsSettlingWord, IsAllowed, AreMembers, IsReady}
use Rattle.pb_layout.specs.Recovered.{Represents}
use Rattle.pb_layout.specs.Represents.{header_for}
use Rattle.pb_layout.specs.declared.header.TheConstants.{MAGIC}
use Rattle.pb_layout.proofs.LogHistories.{history_after-none, history_after-first}
use Rattle.pb_object.proofs.Sides.{few_sides}
use Rattle.pb_layout.proofs.Readiness.{ready_is_kept, settling_word, allowed_writes_same}
use Rattle.pb_pmem.specs.Operations.{IsFailedPrefix}
use Rattle.pb_pmem.specs.Device.{MayAdd}
use Rattle.pb_layout.specs.RegionOps.{settle_ops}
use Rattle.pb_layout.specs.Exits.{ImagesAlwaysRepresent, IsExit}
use Rattle.pb_layout.proofs.OneRecovery.{parts, has_region, represents_one}
use Rattle.pb_layout_laws.proofs.Compose.{stands_for_one}
use Rattle.pb_layout_laws.proofs.CutOff.{added_has}
use Rattle.pb_layout_laws.proofs.Prefixes.{IsAsAtStart, IsCoveredPrefix, covers_by_prefixes}
use Rattle.pb_layout_laws.proofs.Rounds.{next_side, next_rounds}
use Rattle.pb_layout_laws.proofs.OneUnsealed.{covered_stepwise}
use Rattle.pb_layout_laws.proofs.ReadyWithOne.{Settles, left_before, same_before, along, one_from_images}

-- What stands there already is written once more

-- over lines that represent s, the device holds what it held
pub contents-settled : (s : Standing) (lines : List Line) (ops : List LogOp) → Represents lines s → All (Settles s) ops → contents lines ops ≡ lines
contents-settled s lines [] stands settle = contents-none lines
contents-settled s lines (op ∷ ops) stands settle =
    contents-first lines op ops ∙ (ap (λ (l : List Line). contents l ops) (applied-same op lines (allowed_writes_same lines (Some s) op stands (All-head (Settles s) op ops settle))) ∙ contents-settled s lines ops stands (All-tail (Settles s) op ops settle))

pub no_rise : (lines : List Line) (line place to : ℕ) → place ≡ 0 → to ≡ word_of lines line place → raises_index lines line place to ≡ false
no_rise lines line place to first same =
    let here : to ≡ word_of lines line 0 = same ∙ ap (word_of lines line) first in
    grind (arith, nat_tests)

pub recorded_none : (s : Standing) (lines : List Line) (op : LogOp) → Represents lines s → Settles s op → recorded_by_op op lines [] ≡ []
recorded_none s lines (Whole line to) stands settles = absurd settles
recorded_none s lines (Word line place to) stands (inl settles) =
    rw (no_rise lines line place to settles.0 (settling_word lines s line place to stands settles)) refl
recorded_none s lines (Word line place to) stands (inr none_left) = absurd none_left
recorded_none s lines (Back first count) stands settles = refl
recorded_none s lines Fence stands settles = refl
recorded_none s lines Sync stands settles = refl

-- and no round is recorded by operations that settle s
pub history-settled : (s : Standing) (lines : List Line) (ops : List LogOp) → Represents lines s → All (Settles s) ops → history_after lines [] ops ≡ []
history-settled s lines [] stands settle = history_after-none lines []
history-settled s lines (op ∷ ops) stands settle =
    let still = applied-same op lines (allowed_writes_same lines (Some s) op stands (All-head (Settles s) op ops settle)) in
    let recorded = recorded_none s lines op stands (All-head (Settles s) op ops settle) in
    history_after-first lines [] op ops ∙ ((λ i. history_after (still i) (recorded i) ops) ∙ history-settled s lines ops stands (All-tail (Settles s) op ops settle))

-- Members

member_is : (at_next_mark image : List Line) (m : Option Standing) (s : Standing) → ImageRepresents at_next_mark m → Represents at_next_mark s → ImageRepresents image m → Represents image s
member_is at_next_mark image m s stood stands member = subst (λ (x : Option Standing). ImageRepresents image x) (stands_for_one at_next_mark m (Some s) stood stands) member

-- what holds of the standing that a member's lines represent holds of a member
has_standing : (P : Standing → Type 0) (members : List (Option Standing)) (at_next_mark : List Line) (s : Standing) → ImageRepresentsOne at_next_mark members → Represents at_next_mark s → P s → HasStanding P members
has_standing P [] at_next_mark s member stands holds = absurd member
has_standing P (None ∷ members) at_next_mark s (inl nothing) stands holds = absurd (nothing (has_region at_next_mark s stands))
has_standing P (None ∷ members) at_next_mark s (inr other) stands holds = has_standing P members at_next_mark s other stands holds
has_standing P (Some t ∷ members) at_next_mark s (inl here) stands holds = inl (subst P (represents_one at_next_mark s t stands here) holds)
has_standing P (Some t ∷ members) at_next_mark s (inr other) stands holds = inr (has_standing P members at_next_mark s other stands holds)

allowed_op : (members : List (Option Standing)) (at_next_mark : List Line) (s : Standing) (op : LogOp) → ImageRepresentsOne at_next_mark members → Represents at_next_mark s → Settles s op → IsAllowed members op
allowed_op members at_next_mark s (Whole line to) member stands settles = absurd settles
allowed_op members at_next_mark s (Word line place to) member stands (inl settles) = has_standing (IsSettlingWord line place to) members at_next_mark s member stands settles
allowed_op members at_next_mark s (Word line place to) member stands (inr none_left) = absurd none_left
allowed_op members at_next_mark s (Back first count) member stands settles = tt
allowed_op members at_next_mark s Fence member stands settles = tt
allowed_op members at_next_mark s Sync member stands settles = tt

-- settling a member is allowed
pub settling_is_allowed : (members : List (Option Standing)) (at_next_mark : List Line) (s : Standing) (ops : List LogOp) → ImageRepresentsOne at_next_mark members → Represents at_next_mark s → All (Settles s) ops → All (IsAllowed members) ops
settling_is_allowed members at_next_mark s ops member stands settle =
    All-weaker (Settles s) (IsAllowed members) (λ op settles. allowed_op members at_next_mark s op member stands settles) ops settle

no_third : (first second third : Option Standing) (members : List (Option Standing)) → ¬ AreMembers (first ∷ second ∷ third ∷ members)
no_third None None third members shape = shape
no_third None (Some t) third members shape = shape
no_third (Some s) None third members shape = shape
no_third (Some s) (Some t) third members shape = shape

-- the same member for two images
abbrev IsOneFor : List Line → List Line → Type 0
IsOneFor before image = (m : Option Standing) × ImageRepresents before m × ImageRepresents image m

-- of two images one represents s, or both the same member
meet : (members : List (Option Standing)) (at_next_mark before image : List Line) (s : Standing) → AreMembers members → ImageRepresentsOne at_next_mark members → Represents at_next_mark s → ImageRepresentsOne before members → ImageRepresentsOne image members → Represents before s ⊎ (Represents image s ⊎ IsOneFor before image)
meet [] at_next_mark before image s shape h stands b i = absurd shape
meet (m ∷ []) at_next_mark before image s shape h stands (inl b) (inl i) = inr (inr (m, b, i))
meet (m ∷ []) at_next_mark before image s shape h stands (inr b) i = absurd b
meet (m ∷ []) at_next_mark before image s shape h stands (inl b) (inr i) = absurd i
meet (m ∷ n ∷ []) at_next_mark before image s shape h stands (inl b) (inl i) = inr (inr (m, b, i))
meet (m ∷ n ∷ []) at_next_mark before image s shape h stands (inr (inl b)) (inr (inl i)) = inr (inr (n, b, i))
meet (m ∷ n ∷ []) at_next_mark before image s shape (inl h) stands (inl b) (inr (inl i)) = inl (member_is at_next_mark before m s h stands b)
meet (m ∷ n ∷ []) at_next_mark before image s shape (inr (inl h)) stands (inl b) (inr (inl i)) = inr (inl (member_is at_next_mark image n s h stands i))
meet (m ∷ n ∷ []) at_next_mark before image s shape (inl h) stands (inr (inl b)) (inl i) = inr (inl (member_is at_next_mark image m s h stands i))
meet (m ∷ n ∷ []) at_next_mark before image s shape (inr (inl h)) stands (inr (inl b)) (inl i) = inl (member_is at_next_mark before n s h stands b)
meet (m ∷ n ∷ []) at_next_mark before image s shape (inr (inr h)) stands b i = absurd h
meet (m ∷ n ∷ []) at_next_mark before image s shape h stands (inr (inr b)) i = absurd b
meet (m ∷ n ∷ []) at_next_mark before image s shape h stands b (inr (inr i)) = absurd i
meet (m ∷ n ∷ o ∷ members) at_next_mark before image s shape h stands b i = absurd (no_third m n o members shape)

-- The words that settling writes

-- word 0 of lines 0, 1 and 2
abbrev pub settled_word : Standing → ℕ → ℕ
settled_word s zero = MAGIC
settled_word s (suc side) = rounds_of s side

-- lines that have these words
abbrev pub HasSettled : Standing → List Line → Type 0
HasSettled s image = (line : ℕ) → line < 3 → word_of image line 0 ≡ settled_word s line

-- lines that represent s have them
pub settled_in : (image : List Line) (s : Standing) → Represents image s → HasSettled s image
settled_in image s stands zero below = has_region image s stands
settled_in image s stands (suc side) below =
    let place : suc side ≡ 1 + side = omega arith in
    ap (λ (line : ℕ). word_of image line 0) place ∙ ap (λ (l : Line). word l 0) ((parts image s stands).rounds side (omega arith))

-- a standing and what a round makes of it differ in a round number
rounds_differ : (before after : List Line) (a : Standing) (round : Round) → IsLegalRound a round → Represents before a → Represents after (after_round a round) → ¬ ((line : ℕ) → line < 3 → word_of before line 0 ≡ word_of after line 0)
rounds_differ before after a round legal old new same =
    let side = next_side a round legal in
    let next = next_rounds a round legal (parts before a old).sides in
    let inside : suc round.side < 3 = omega (arith, side, few_sides a.kind) in
    omega (arith, same (suc round.side) inside, settled_in before a old (suc round.side) inside, settled_in after (after_round a round) new (suc round.side) inside, next)

-- lines that represent a member and have the settled words of another member's lines represent that one
pub settled_member : (members : List (Option Standing)) (at_next_mark image : List Line) (s : Standing) → AreMembers members → ImageRepresentsOne at_next_mark members → Represents at_next_mark s → ImageRepresentsOne image members → HasSettled s image → Represents image s
settled_member [] at_next_mark image s shape h stands i has = absurd shape
settled_member (m ∷ []) at_next_mark image s shape (inl h) stands (inl i) has = member_is at_next_mark image m s h stands i
settled_member (m ∷ []) at_next_mark image s shape (inr h) stands i has = absurd h
settled_member (m ∷ []) at_next_mark image s shape h stands (inr i) has = absurd i
settled_member (Some a ∷ Some b ∷ []) at_next_mark image s shape (inl h) stands (inl i) has = member_is at_next_mark image (Some a) s h stands i
settled_member (Some a ∷ Some b ∷ []) at_next_mark image s shape (inr (inl h)) stands (inr (inl i)) has = member_is at_next_mark image (Some b) s h stands i
settled_member (Some a ∷ Some b ∷ []) at_next_mark image s (round, legal, e) (inl h) stands (inr (inl i)) has =
    absurd (rounds_differ at_next_mark image a round legal h (subst (Represents image) e i) (λ line below. settled_in at_next_mark s stands line below ∙ sym (has line below)))
settled_member (Some a ∷ Some b ∷ []) at_next_mark image s (round, legal, e) (inr (inl h)) stands (inl i) has =
    absurd (rounds_differ image at_next_mark a round legal i (subst (Represents at_next_mark) e h) (λ line below. has line below ∙ sym (settled_in at_next_mark s stands line below)))
settled_member (Some a ∷ Some b ∷ []) at_next_mark image s shape (inr (inr h)) stands i has = absurd h
settled_member (Some a ∷ Some b ∷ []) at_next_mark image s shape h stands (inr (inr i)) has = absurd i
settled_member (None ∷ Some e ∷ []) at_next_mark image s shape (inl nothing) stands i has = absurd (nothing (has_region at_next_mark s stands))
settled_member (None ∷ Some e ∷ []) at_next_mark image s shape h stands (inl nothing) has = absurd (nothing (has 0 (omega arith)))
settled_member (None ∷ Some e ∷ []) at_next_mark image s shape (inr (inl h)) stands (inr (inl i)) has = member_is at_next_mark image (Some e) s h stands i
settled_member (None ∷ Some e ∷ []) at_next_mark image s shape (inr (inr h)) stands i has = absurd h
settled_member (None ∷ Some e ∷ []) at_next_mark image s shape h stands (inr (inr i)) has = absurd i
settled_member (Some a ∷ None ∷ []) at_next_mark image s shape h stands i has = absurd shape
settled_member (None ∷ None ∷ []) at_next_mark image s shape h stands i has = absurd shape
settled_member (m ∷ n ∷ o ∷ members) at_next_mark image s shape h stands i has = absurd (no_third m n o members shape)

-- Before the sync

pub member_left : (base : List Line) (log : List LogOp) (members : List (Option Standing)) → IsReady base log members → (image : List Line) → IsCrashImage base log image → ImageRepresentsOne image members
member_left base log members ready image left =
    ready.images [] (All-nil (IsAllowed members)) image (subst (λ (l : List LogOp). IsCrashImage base l image) (sym (append-nil log)) left)

some_member : (members : List (Option Standing)) (image : List Line) → ImageRepresentsOne image members → (m : Option Standing) × ImageRepresents image m
some_member [] image member = absurd member
some_member (m ∷ members) image (inl here) = (m, here)
some_member (m ∷ members) image (inr other) = some_member members image other

-- a device that is being settled: it is ready as at the start, and each image represents s, or what one at the start represented
record IsSettling (base : List Line) (start : List LogOp) (members : List (Option Standing)) (s : Standing) (log : List LogOp) : Type 0 where
  ready : IsReady base log members
  images : (image : List Line) → IsCrashImage base log image → Represents image s ⊎ IsAsAtStart base start image

settling_starts : (base : List Line) (log : List LogOp) (members : List (Option Standing)) (s : Standing) → IsReady base log members → IsSettling base log members s log
settling_starts base log members s ready =
    record {
      ready = ready;
      images = λ image left.
          let m = some_member members image (member_left base log members ready image left) in
          inr (record { earlier = image; left = left; member = m.0; stood = m.1; stands = m.1 });
    }

as_before : (base : List Line) (start : List LogOp) (before image : List Line) (s : Standing) → (Represents before s → Represents image s) → Represents before s ⊎ IsAsAtStart base start before → Represents before s ⊎ (Represents image s ⊎ IsOneFor before image) → Represents image s ⊎ IsAsAtStart base start image
as_before base start before image s same was (inl stands) = inl (same stands)
as_before base start before image s same was (inr (inl stands)) = inl stands
as_before base start before image s same (inl stands) (inr (inr (m, left, right))) = inl (same stands)
as_before base start before image s same (inr at_start) (inr (inr (m, left, right))) =
    inr (record {
      earlier = at_start.earlier;
      left = at_start.left;
      member = at_start.member;
      stood = at_start.stood;
      stands = subst (λ (x : Option Standing). ImageRepresents image x) (stands_for_one before m at_start.member left at_start.stands) right;
    })

settling_step : (base : List Line) (start : List LogOp) (members : List (Option Standing)) (s : Standing) (at_next_mark : List Line) → ImageRepresentsOne at_next_mark members → Represents at_next_mark s → (log : List LogOp) (op : LogOp) → Settles s op → IsSettling base start members s log → IsSettling base start members s (log ++ op ∷ [])
settling_step base start members s at_next_mark member stands log op settles so_far =
    record { ready = ready; images = images }
  where
    ready : IsReady base (log ++ op ∷ []) members
    ready =
        ready_is_kept base log (op ∷ []) members so_far.ready (All-cons (IsAllowed members) op [] (allowed_op members at_next_mark s op member stands settles) (All-nil (IsAllowed members)))

    images : (image : List Line) → IsCrashImage base (log ++ op ∷ []) image → Represents image s ⊎ IsAsAtStart base start image
    images image left =
        let before = left_before base log op image left in
        let same : Represents before.0 s → Represents image s = λ stood. subst (λ (i : List Line). Represents i s) (sym (same_before op before.0 image (left.left.lines ∙ sym before.1.left.lines) (allowed_writes_same before.0 (Some s) op stood settles) before.2)) stood in
        as_before base start before.0 image s same (so_far.images before.0 before.1) (meet members at_next_mark before.0 image s so_far.ready.shape member stands (member_left base log members so_far.ready before.0 before.1) (member_left base (log ++ op ∷ []) members ready image left))

-- lines that represent s are covered while nothing but settling is done
covered_by_none : (lines : List Line) (ops : List LogOp) (s : Standing) (image : List Line) → Represents lines s → All (Settles s) ops → Represents image s → IsCoveredBy s (history_after lines [] ops) image
covered_by_none lines ops s image stands settle found =
    record { kept = []; lost = []; whole = history-settled s lines ops stands settle; unsealed = tt; stands = found }

-- an operation that is no sync
abbrev pub IsNoSync : LogOp → Type 0
IsNoSync op = is_sync op ≡ false

-- settling that had no sync yet is covered
settling_covered : (base : List Line) (log ops : List LogOp) (s : Standing) (members : List (Option Standing)) → IsReady base log members → Represents (contents base log) s → All (Settles s) ops → All IsNoSync ops → IsCoveredPrefix base log s ops
settling_covered base log ops s members ready stands settle none_yet image left =
    let after = along s (IsSettling base log members s) (settling_step base log members s (contents base log) ready.holds stands) log ops settle (settling_starts base log members s ready) in
    elim (after.images image left) [
      | inl found ↦ inl (covered_by_none (contents base log) ops s image stands settle found)
      | inr at_start ↦ inr (list_any_none is_sync ops none_yet, at_start)
    ]

-- After the sync

-- settling's words: a region of one side has no second round number
abbrev pub second_words : Standing → Bool → List LogOp
second_words s two = if two then Word 2 0 (rounds_of s 1) ∷ [] else []

abbrev pub settling_words : Standing → List LogOp
settling_words s =
    Word 0 0 MAGIC ∷ Word 1 0 (rounds_of s 0) ∷ second_words s (side_count s.kind == 2)

-- all before its sync, and all of it
abbrev pub settling_body : Standing → List LogOp
settling_body s = settling_words s ++ Back 0 3 ∷ []

abbrev pub settling_of : Standing → List LogOp
settling_of s = settle_ops (header_for s) (rounds_of s 0) (rounds_of s 1)

pub settling_whole : (s : Standing) → settling_of s ≡ settling_body s ++ Sync ∷ []
settling_whole s = sym (append_assoc (settling_words s) (Back 0 3 ∷ []) (Sync ∷ []))

second_all : (P : LogOp → Type 0) (s : Standing) (two : Bool) → P (Word 2 0 (rounds_of s 1)) → All P (second_words s two)
second_all P s true second = All-cons P (Word 2 0 (rounds_of s 1)) [] second (All-nil P)
second_all P s false second = All-nil P

words_all : (P : LogOp → Type 0) (s : Standing) → P (Word 0 0 MAGIC) → P (Word 1 0 (rounds_of s 0)) → P (Word 2 0 (rounds_of s 1)) → All P (settling_words s)
words_all P s magic first second =
    let two = side_count s.kind == 2 in
    All-cons P (Word 0 0 MAGIC) (Word 1 0 (rounds_of s 0) ∷ second_words s two) magic (All-cons P (Word 1 0 (rounds_of s 0)) (second_words s two) first (second_all P s two second))

pub words_settle : (s : Standing) → All (Settles s) (settling_words s)
words_settle s =
    words_all (Settles s) s (inl (refl, inl (refl, refl))) (inl (refl, inr (inl (refl, refl)))) (inl (refl, inr (inr (refl, refl))))

pub settling_settles : (s : Standing) → All (Settles s) (settling_of s)
settling_settles s =
    All-append (Settles s) (settling_words s) (Back 0 3 ∷ Sync ∷ []) (words_settle s) (All-cons (Settles s) (Back 0 3) (Sync ∷ []) tt (All-cons (Settles s) Sync [] tt (All-nil (Settles s))))

pub body-no_sync : (s : Standing) → All IsNoSync (settling_body s)
body-no_sync s =
    All-push IsNoSync (settling_words s) (Back 0 3) (words_all IsNoSync s refl refl refl) refl

first_three : (line : ℕ) → line < 3 → is_back_of line (Back 0 3) ≡ true
first_three line below = grind (arith, nat_tests)

-- after a `Back` of lines 0 to 2 and a `Sync` each image has these lines as the device holds them
pub given_words : (base : List Line) (log : List LogOp) (image : List Line) → IsCrashImage base (log ++ Back 0 3 ∷ Sync ∷ []) image → (line place : ℕ) → line < 3 → word_of image line place ≡ word_of (contents base log) line place
given_words base log image left line place below =
    let leaves = subst (λ (l : List LogOp). LeavesWords base l (word_of image)) (reverse-append log (Back 0 3 ∷ Sync ∷ [])) (Leaves-IsCrashImage base (log ++ Back 0 3 ∷ Sync ∷ []) image left) in
    let at_next_mark = Leaves-after_Sync base (Back 0 3 ∷ reverse log) (word_of image) leaves in
    AtNextMark-given base 0 3 (reverse log) (word_of image) at_next_mark line place (first_three line below) ∙ ap (λ (l : List LogOp). word_of (contents base l) line place) (reverse-reverse log)

-- the device still holds lines that represent s after what settles s
pub still_stands : (base : List Line) (log ops : List LogOp) (s : Standing) → Represents (contents base log) s → All (Settles s) ops → Represents (contents base (log ++ ops)) s
still_stands base log ops s stands settle =
    subst (λ (i : List Line). Represents i s) (sym (contents-append base log ops ∙ contents-settled s (contents base log) ops stands settle)) stands

-- after a `Back` of lines 0 to 2 and a `Sync` each image represents what the device holds, where this is a member
pub given_stands : (base : List Line) (log : List LogOp) (s : Standing) (members : List (Option Standing)) → IsReady base log members → Represents (contents base log) s → (image : List Line) → IsCrashImage base (log ++ Back 0 3 ∷ Sync ∷ []) image → Represents image s
given_stands base log s members ready stands image left =
    let after = ready_is_kept base log (Back 0 3 ∷ Sync ∷ []) members ready (All-cons (IsAllowed members) (Back 0 3) (Sync ∷ []) tt (All-cons (IsAllowed members) Sync [] tt (All-nil (IsAllowed members)))) in
    settled_member members (contents base log) image s ready.shape ready.holds stands (member_left base (log ++ Back 0 3 ∷ Sync ∷ []) members after image left) (λ line below. given_words base log image left line 0 below ∙ settled_in (contents base log) s stands line below)

-- so each image after settling represents s
pub stands_after : (base : List Line) (log : List LogOp) (s : Standing) (members : List (Option Standing)) → IsReady base log members → Represents (contents base log) s → (image : List Line) → IsCrashImage base (log ++ settling_of s) image → Represents image s
stands_after base log s members ready stands image left =
    given_stands base (log ++ settling_words s) s members (ready_is_kept base log (settling_words s) members ready (settling_is_allowed members (contents base log) s (settling_words s) ready.holds stands (words_settle s))) (still_stands base log (settling_words s) s stands (words_settle s)) image (subst (λ (l : List LogOp). IsCrashImage base l image) (sym (append_assoc log (settling_words s) (Back 0 3 ∷ Sync ∷ []))) left)

-- Where settling may be cut off

-- a prefix of a list whose one sync is its last operation, and what stands after it
cut_before_sync : (body prefix rest : List LogOp) (failed : LogOp) → All IsNoSync body → body ++ Sync ∷ [] ≡ prefix ++ failed ∷ rest → All IsNoSync prefix × (IsNoSync failed ⊎ ((failed ≡ Sync) × (prefix ≡ body)))
cut_before_sync [] [] rest failed none_yet whole =
    let last : failed ≡ Sync = cc in
    (All-nil IsNoSync, inr (last, refl))
cut_before_sync [] (first ∷ prefix) rest failed none_yet whole =
    absurd (omega (arith, ap length whole, length-append prefix (failed ∷ rest)))
cut_before_sync (op ∷ body) [] rest failed none_yet whole =
    let here : op ≡ failed = cc in
    (All-nil IsNoSync, inl (subst IsNoSync here (All-head IsNoSync op body none_yet)))
cut_before_sync (op ∷ body) (first ∷ prefix) rest failed none_yet whole =
    let here : op ≡ first = cc in
    let more : body ++ Sync ∷ [] ≡ prefix ++ failed ∷ rest = cc in
    let cut = cut_before_sync body prefix rest failed (All-tail IsNoSync op body none_yet) more in (
      All-cons IsNoSync first prefix (subst IsNoSync here (All-head IsNoSync op body none_yet)) cut.0,
      elim cut.1 [
        | inl other ↦ inl other
        | inr last ↦ inr (last.0, λ i. sym here i ∷ last.1 i)
      ],
    )

added_settles : (s : Standing) (failed op : LogOp) → Settles s failed → MayAdd failed op → Settles s op
added_settles s = added_has (Settles s) (λ line to other settles. absurd settles) (λ _. tt)

added_no_sync : (failed op : LogOp) → IsNoSync failed → MayAdd failed op → IsNoSync op
added_no_sync = added_has IsNoSync (λ line to other no_sync. refl) (λ no_sync. absurd (false≢true (sym no_sync)))

-- what a failed sync may add
added_mark : (op : LogOp) → MayAdd Sync op → IsNoSync op ⊎ (op ≡ Sync)
added_mark (Whole line to) may = absurd may
added_mark (Word line place to) may = absurd may
added_mark (Back first count) may = absurd may
added_mark Fence may = inl refl
added_mark Sync may = inr refl

-- settling that is cut off has no sync, or is whole, and settles in each operation
pub cut_settling : (s : Standing) (ops : List LogOp) → IsFailedPrefix (settling_of s) ops → All (Settles s) ops × (All IsNoSync ops ⊎ (ops ≡ settling_of s))
cut_settling s ops cut = go cut.added
  where
    front_settles : All (Settles s) cut.prefix
    front_settles =
        subst (All (Settles s)) (ap (take (length cut.prefix)) cut.whole ∙ take-append_seam cut.prefix (cut.failed ∷ cut.rest)) (All-take (Settles s) (length cut.prefix) (settling_of s) (settling_settles s))

    failed_settles : Settles s cut.failed
    failed_settles =
        All-head (Settles s) cut.failed cut.rest (subst (All (Settles s)) (ap (drop (length cut.prefix)) cut.whole ∙ drop-append_seam cut.prefix (cut.failed ∷ cut.rest)) (All-drop (Settles s) (length cut.prefix) (settling_of s) (settling_settles s)))

    place : All IsNoSync cut.prefix × (IsNoSync cut.failed ⊎ ((cut.failed ≡ Sync) × (cut.prefix ≡ settling_body s)))
    place = cut_before_sync (settling_body s) cut.prefix cut.rest cut.failed (body-no_sync s) (sym (settling_whole s) ∙ cut.whole)

    with_op : (op : LogOp) → MayAdd cut.failed op → All IsNoSync (cut.prefix ++ op ∷ []) ⊎ (cut.prefix ++ op ∷ [] ≡ settling_of s)
    with_op op may = elim place.1 [
      | inl other ↦ inl (All-push IsNoSync cut.prefix op place.0 (added_no_sync cut.failed op other may))
      | inr last ↦ elim (added_mark op (subst (λ (l : LogOp). MayAdd l op) last.0 may)) [
        | inl other ↦ inl (All-push IsNoSync cut.prefix op place.0 other)
        | inr sync ↦ inr ((λ i. last.1 i ++ sync i ∷ []) ∙ sym (settling_whole s))
      ]
    ]

    go : (ops ≡ cut.prefix) ⊎ ((op : LogOp) × MayAdd cut.failed op × (ops ≡ cut.prefix ++ op ∷ [])) → All (Settles s) ops × (All IsNoSync ops ⊎ (ops ≡ settling_of s))
    go (inl same) =
        (subst (All (Settles s)) (sym same) front_settles, inl (subst (All IsNoSync) (sym same) place.0))
    go (inr (op, may, same)) = (
      subst (All (Settles s)) (sym same) (All-push (Settles s) cut.prefix op front_settles (added_settles s cut.failed op failed_settles may)),
      subst (λ (l : List LogOp). All IsNoSync l ⊎ (l ≡ settling_of s)) (sym same) (with_op op may),
    )

-- The laws

-- after all of settling, each image is covered
whole_covered : (base : List Line) (log : List LogOp) (s : Standing) (members : List (Option Standing)) → IsReady base log members → Represents (contents base log) s → IsCoveredPrefix base log s (settling_of s)
whole_covered base log s members ready stands image left =
    inl (covered_by_none (contents base log) (settling_of s) s image stands (settling_settles s) (stands_after base log s members ready stands image left))

-- after each prefix of settling that isn't cut off, or is before its sync, each image is covered
prefixes_covered : (base : List Line) (log ops : List LogOp) (s : Standing) (members : List (Option Standing)) → IsReady base log members → Represents (contents base log) s → All (Settles s) ops → All IsNoSync ops ⊎ (ops ≡ settling_of s) → (count : ℕ) → IsCoveredPrefix base log s (take count ops)
prefixes_covered base log ops s members ready stands settle (inl none_yet) count =
    settling_covered base log (take count ops) s members ready stands (All-take (Settles s) count ops settle) (All-take IsNoSync count ops none_yet)
prefixes_covered base log ops s members ready stands settle (inr whole) count =
    go (cases_lt count (length (settling_of s)))
  where
    go : (count < length (settling_of s)) ⊎ (length (settling_of s) ≤ count) → IsCoveredPrefix base log s (take count ops)
    go (inr all) =
        subst (IsCoveredPrefix base log s) (sym (ap (take count) whole ∙ take_all count (settling_of s) all)) (whole_covered base log s members ready stands)
    go (inl before) =
        let body = settling_body s in
        let near : count ≤ length body = omega (arith, ap length (settling_whole s), length-append body (Sync ∷ [])) in
        let prefix : take count ops ≡ take count body = ap (take count) (whole ∙ settling_whole s) ∙ take-append-le count body (Sync ∷ []) near in
        settling_covered base log (take count ops) s members ready stands (All-take (Settles s) count ops settle) (subst (All IsNoSync) (sym prefix) (All-take IsNoSync count body (body-no_sync s)))

settling_covers : (base : List Line) (log ops : List LogOp) (s : Standing) (members : List (Option Standing)) → IsReady base log members → Represents (contents base log) s → All (Settles s) ops → All IsNoSync ops ⊎ (ops ≡ settling_of s) → Covers base (log ++ ops) (length log) s []
settling_covers base log ops s members ready stands settle which =
    covers_by_prefixes base log ops s [] (sym (history-settled s (contents base log) ops stands settle)) (prefixes_covered base log ops s members ready stands settle which) (inl (still_stands base log ops s stands settle))

-- settling that is cut off anywhere leaves the members as they were, and records no round
pub settling_failing : (base : List Line) (log ops : List LogOp) (s : Standing) (members : List (Option Standing)) → IsReady base log members → Represents (contents base log) s → IsFailedPrefix (settle_ops (header_for s) (rounds_of s 0) (rounds_of s 1)) ops → IsExit base log ops s [] members
settling_failing base log ops s members ready stands cut =
    let parts = cut_settling s ops cut in
    record {
      covers = settling_covers base log ops s members ready stands parts.0 parts.1;
      one_unsealed = covered_stepwise (settling_covers base log ops s members ready stands parts.0 parts.1) (omega arith);
      ready = ready_is_kept base log ops members ready (settling_is_allowed members (contents base log) s ops ready.holds stands parts.0);
    }

-- settling on a device that is ready with s alone leaves what each image represents
pub settling_may_be_repeated : (base : List Line) (log ops : List LogOp) (s : Standing) → IsReady base log (Some s ∷ []) → IsFailedPrefix (settling_of s) ops ⊎ (ops ≡ settling_of s) → ImagesAlwaysRepresent base log ops s
settling_may_be_repeated base log ops s ready how moment low image left =
    let settle : All (Settles s) ops = elim how [ inl cut ↦ (cut_settling s ops cut).0 | inr whole ↦ subst (All (Settles s)) (sym whole) (settling_settles s) ] in
    let prefix : take moment (log ++ ops) ≡ log ++ take (moment - length log) ops = ap (λ (n : ℕ). take n (log ++ ops)) (omega arith) ∙ take-append-add log ops (moment - length log) in
    elim (ready.images (take (moment - length log) ops) (All-take (Settles s) (moment - length log) ops settle) image (subst (λ (l : List LogOp). IsCrashImage base l image) prefix left)) [
      | inl stands ↦ stands
      | inr never ↦ absurd never
    ]

-- all of settling leaves what the device holds, alone
pub settling_leaves_one : (base : List Line) (log : List LogOp) (s : Standing) (members : List (Option Standing)) → IsReady base log members → Represents (contents base log) s → IsExit base log (settle_ops (header_for s) (rounds_of s 0) (rounds_of s 1)) s [] (Some s ∷ [])
settling_leaves_one base log s members ready stands = record {
  covers = settling_covers base log (settling_of s) s members ready stands (settling_settles s) (inr refl);
  one_unsealed = covered_stepwise (settling_covers base log (settling_of s) s members ready stands (settling_settles s) (inr refl)) (omega arith);
  ready = one_from_images base (log ++ settling_of s) s (stands_after base log s members ready stands);
}
