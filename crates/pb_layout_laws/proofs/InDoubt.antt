-- A round in doubt, while the device is settled to the state after it.
use Rattle.std.proofs.Common.{◌≡◌, ◌⊎◌, ℕ, zero, suc, ◌+◌, ◌<◌, ◌≤◌, Bool, true, false, ◌==◌, List, [], ◌∷◌, ◌++◌, All, length, take, drop, Some, slice_index, ap, subst, sym, refl, ◌∙◌, inl, inr, arith}
use Rattle.std.proofs.lemmas.Bool.{cases_eq, cases_lt, false≢true}
use Rattle.std.proofs.lemmas.Bool.Decides.{nat_tests}
use Rattle.std.proofs.lemmas.List.{append-nil, append_assoc, length-append, take-append-le, take_all, length-map}
use Rattle.std.proofs.lemmas.List.Elements.{All-nil, All-cons, All-head, All-tail, All-take, All-weaker}
use Rattle.std.proofs.Math.Seq.{take-append_seam}
use Rattle.std.proofs.lemmas.List.Folds.{list_any_none}
use Rattle.pb_pmem.specs.declared.line.Line.{Line}
use Rattle.pb_pmem.specs.declared.log.LogOp.{LogOp}
use Rattle.pb_pmem.specs.declared.log.LogOp.TheVariants.{Whole, Word, Back, Fence, Sync}
use Rattle.pb_pmem.specs.Contents.{applied, contents}
use Rattle.pb_pmem.specs.Crash.{is_sync, MayWrite, IsCrashImage}
use Rattle.pb_pmem.specs.Lines.{word_of}
use Rattle.pb_pmem.specs.Operations.{IsFailedPrefix}
use Rattle.pb_pmem.proofs.CrashLaws.{WritesSame, applied-same}
use Rattle.pb_pmem.proofs.Words.{word_of-applied, same_images}
use Rattle.pb_pmem.proofs.Lines.{length-contents, contents-append, contents-none, contents-first, contents_push}
use Rattle.pb_object.specs.declared.kind.Kind.{Kind}
use Rattle.pb_object.specs.History.{Round, after_round, state_after}
use Rattle.pb_object.specs.Standing.{Standing, side_count, rounds_of}
use Rattle.pb_layout.specs.Covers.{IsCoveredBy, Covers}
use Rattle.pb_layout.specs.Doubt.{either_state, IsRoundInDoubt, HasRoundLanded, IsExitInDoubt}
use Rattle.pb_layout.specs.Exits.{IsExit, sealed_round}
use Rattle.pb_layout.specs.LogHistory.{LoggedRound, round_of, rounds_in, AreSealed, AreUnsealed, round_at, recorded_by_op, history_after, history_of}
use Rattle.pb_layout.specs.Ready.{ImageRepresentsOne, IsSettlingWord, IsAllowed, IsReady}
use Rattle.pb_layout.specs.RegionOps.{settle_to}
use Rattle.pb_layout.specs.Represents.{header_for}
use Rattle.pb_layout.specs.Recovered.{Represents}
use Rattle.pb_layout.specs.declared.header.Header.{Header}
use Rattle.pb_layout.specs.declared.header.TheConstants.{MAGIC}
use Rattle.pb_layout.proofs.OneRecovery.{parts}
use Rattle.pb_layout.proofs.LogHistories.{history_after-none, history_after-first}
use Rattle.pb_object.proofs.Sides.{few_sides}
use Rattle.pb_layout.proofs.Readiness.{ready_is_kept, settling_word, allowed_writes_same}
use Rattle.pb_layout_laws.proofs.Calls.{calls-append, calls-append_sealed}
use Rattle.pb_layout_laws.proofs.Growing.{flagged, rounds_in-flagged, history_after-flagged, rounds_of-parts}
use Rattle.pb_layout_laws.proofs.Histories.{history_after-unsealed, history_after-backed, history_of-second}
use Rattle.pb_layout_laws.proofs.IndexWord.{logged, index_records}
use Rattle.pb_layout_laws.proofs.OneUnsealed.{covered_stepwise}
use Rattle.pb_layout_laws.proofs.Prefixes.{IsAsAtStart, IsCoveredPrefix, covers_by_prefixes}
use Rattle.pb_layout_laws.proofs.ReadyWithOne.{Settles, left_before, same_before, one_from_images}
use Rattle.pb_layout_laws.proofs.Rounds.{next_side, next_header, next_rounds, next_rounds_other}
use Rattle.pb_layout_laws.proofs.Sealing.{sealed_by_settling, sealed_alone}
use Rattle.pb_layout_laws.proofs.Settling.{contents-settled, recorded_none, history-settled, IsNoSync, second_words, settling_words, settling_body, settling_of, settling_whole, settling_settles, words_settle, body-no_sync, cut_settling, member_left, given_stands, settling_failing, settling_leaves_one}
use Rattle.pb_layout_laws.proofs.StoreExits.{word_of-written}
use Rattle.pb_layout_laws.proofs.Storing.{IsIndex, whole_base}

-- One operation that settles to the state after the round

-- .. is allowed
next_allowed : (s : Standing) (round : Round) (op : LogOp) → Settles (after_round s round) op → IsAllowed (either_state s round) op
next_allowed s round (Whole line to) settles = absurd settles
next_allowed s round (Word line word to) (inl settles) = inr (inl settles)
next_allowed s round (Word line word to) (inr never) = absurd never
next_allowed s round (Back first count) settles = tt
next_allowed s round Fence settles = tt
next_allowed s round Sync settles = tt

all_next_allowed : (s : Standing) (round : Round) (ops : List LogOp) → All (Settles (after_round s round)) ops → All (IsAllowed (either_state s round)) ops
all_next_allowed s round ops settle = All-weaker (Settles (after_round s round)) (IsAllowed (either_state s round)) (next_allowed s round) ops settle

-- a word of the next state is the index word of the round, or a word of the state before
pub next_word : (s : Standing) (round : Round) (line word to : ℕ) → IsSettlingWord line word to (after_round s round) → ((line ≡ 1 + round.side) × (word ≡ 0) × (to ≡ rounds_of (after_round s round) round.side)) ⊎ IsSettlingWord line word to s
next_word s round line word to (first, inl magic) = inr (first, inl magic)
next_word s round line word to (first, inr (inl (at, is))) = elim (cases_eq 0 round.side) [
  | inl here ↦ inl (omega (arith, at, here), first, is ∙ ap (rounds_of (after_round s round)) here)
  | inr other ↦ inr (first, inr (inl (at, is ∙ next_rounds_other s round 0 other)))
]
next_word s round line word to (first, inr (inr (at, is))) = elim (cases_eq 1 round.side) [
  | inl here ↦ inl (omega (arith, at, here), first, is ∙ ap (rounds_of (after_round s round)) here)
  | inr other ↦ inr (first, inr (inr (at, is ∙ next_rounds_other s round 1 other)))
]

-- an operation that settles to the next state is the index word, or settles to the state before
next_op : (s : Standing) (round : Round) (op : LogOp) → rounds_of (after_round s round) round.side ≡ rounds_of s round.side + 1 → Settles (after_round s round) op → (op ≡ Word (1 + round.side) 0 (rounds_of s round.side + 1)) ⊎ Settles s op
next_op s round (Whole line to) more settles = absurd settles
next_op s round (Word line word to) more (inl settles) = elim (next_word s round line word to settles) [
  | inl (at, first, is) ↦ inl (λ i. Word (at i) (first i) ((is ∙ more) i))
  | inr old ↦ inr (inl old)
]
next_op s round (Word line word to) more (inr never) = absurd never
next_op s round (Back first count) more settles = inr tt
next_op s round Fence more settles = inr tt
next_op s round Sync more settles = inr tt

applied_none : (s : Standing) (lines : List Line) (op : LogOp) → Represents lines s → Settles s op → applied op lines ≡ lines
applied_none s lines op stands settles = applied-same op lines (allowed_writes_same lines (Some s) op stands settles)

-- A round in doubt, and the operations that settle to its state

doubt_rounds : {base : List Line} {log : List LogOp} {s : Standing} {round : Round} → IsRoundInDoubt base log s round → rounds_of (after_round s round) round.side ≡ rounds_of s round.side + 1
doubt_rounds {base} {log} {s} {round} doubt = next_rounds s round doubt.legal (parts _ _ doubt.stands).sides

-- the index word lands it
index_lands : {base : List Line} {log : List LogOp} {s : Standing} {round : Round} → IsRoundInDoubt base log s round → HasRoundLanded base (log ++ Word (1 + round.side) 0 (rounds_of s round.side + 1) ∷ []) s round
index_lands {base} {log} {s} {round} doubt = record { legal = doubt.legal; ready = ready; stands = member ready.holds }
  where
    op : LogOp
    op = Word (1 + round.side) 0 (rounds_of s round.side + 1)

    few : round.side < 2
    few = omega (arith, next_side s round doubt.legal, few_sides s.kind)

    of_next : (side : ℕ) → side < 2 → IsSettlingWord (1 + side) 0 (rounds_of (after_round s round) side) (after_round s round)
    of_next zero low = (refl, inr (inl (refl, refl)))
    of_next (suc zero) low = (refl, inr (inr (refl, refl)))
    of_next (suc (suc side)) low = absurd (omega arith)

    ready : IsReady base (log ++ op ∷ []) (either_state s round)
    ready =
        ready_is_kept base log (op ∷ []) (either_state s round) doubt.ready (All-cons (IsAllowed (either_state s round)) op [] (inr (inl (subst (λ (n : ℕ). IsSettlingWord (1 + round.side) 0 n (after_round s round)) (doubt_rounds doubt) (of_next round.side few)))) (All-nil (IsAllowed (either_state s round))))

    index : word_of (contents base (log ++ op ∷ [])) (1 + round.side) 0 ≡ rounds_of s round.side + 1
    index =
        ap (λ (l : List Line). word_of l (1 + round.side) 0) (contents_push base log op) ∙ word_of-written (contents base log) (1 + round.side) 0 (rounds_of s round.side + 1) (omega (arith, length-contents base log, whole_base base log s doubt.stands, few)) (omega arith)

    member : ImageRepresentsOne (contents base (log ++ op ∷ [])) (either_state s round) → Represents (contents base (log ++ op ∷ [])) (after_round s round)
    member (inl stands) =
        let old : word_of (contents base (log ++ op ∷ [])) (1 + round.side) 0 ≡ rounds_of s round.side = ap (λ (l : Line). slice_index l.words 0) ((parts _ _ stands).rounds round.side few) in
        absurd (omega (arith, old, index))
    member (inr (inl stands)) = stands
    member (inr (inr never)) = absurd never

-- another one leaves it in doubt
other_doubt : {base : List Line} {log : List LogOp} {s : Standing} {round : Round} → IsRoundInDoubt base log s round → (op : LogOp) → Settles (after_round s round) op → Settles s op → IsRoundInDoubt base (log ++ op ∷ []) s round
other_doubt {base} {log} {s} {round} doubt op settles old =
    let same : contents base log ≡ contents base (log ++ op ∷ []) = sym (contents_push base log op ∙ applied_none s (contents base log) op doubt.stands old) in
    record {
      legal = doubt.legal;
      ready = ready_is_kept base log (op ∷ []) (either_state s round) doubt.ready (All-cons (IsAllowed (either_state s round)) op [] (next_allowed s round op settles) (All-nil (IsAllowed (either_state s round))));
      stands = subst (λ (l : List Line). Represents l s) same doubt.stands;
      records = ap (λ (l : List Line). round_at l round.side (rounds_of s round.side + 1)) (sym same) ∙ doubt.records;
    }

-- what is settled to the state of a round that has landed leaves it so
landed_along : {base : List Line} {log : List LogOp} {s : Standing} {round : Round} → HasRoundLanded base log s round → (ops : List LogOp) → All (Settles (after_round s round)) ops → HasRoundLanded base (log ++ ops) s round
landed_along {base} {log} {s} {round} landed ops settle = record {
  legal = landed.legal;
  ready = ready_is_kept base log ops (either_state s round) landed.ready (all_next_allowed s round ops settle);
  stands = subst (λ (l : List Line). Represents l (after_round s round)) (sym (contents-append base log ops ∙ contents-settled (after_round s round) (contents base log) ops landed.stands settle)) landed.stands;
}

-- so a list of such operations tells nothing and writes what stands there already, or tells the round once
pub record IsStillDoubt (base : List Line) (log ops : List LogOp) (s : Standing) (round : Round) : Type 0 where
  pub none : history_after (contents base log) [] ops ≡ []
  pub doubt : IsRoundInDoubt base (log ++ ops) s round
  pub old : All (Settles s) ops

pub record HasTold (base : List Line) (log ops : List LogOp) (s : Standing) (round : Round) : Type 0 where
  pub told : rounds_in (history_after (contents base log) [] ops) ≡ round ∷ []
  pub landed : HasRoundLanded base (log ++ ops) s round

pub doubt_along : {base : List Line} (log : List LogOp) {s : Standing} {round : Round} → IsRoundInDoubt base log s round → (ops : List LogOp) → All (Settles (after_round s round)) ops → IsStillDoubt base log ops s round ⊎ HasTold base log ops s round
doubt_along {base} log {s} {round} doubt [] settle =
    inl (record {
      none = history_after-none (contents base log) [];
      doubt = subst (λ (l : List LogOp). IsRoundInDoubt base l s round) (sym (append-nil log)) doubt;
      old = All-nil (Settles s);
    })
doubt_along {base} log {s} {round} doubt (op ∷ ops) settle =
    go (next_op s round op (doubt_rounds doubt) (All-head (Settles (after_round s round)) op ops settle)) (λ still. doubt_along (log ++ op ∷ []) still ops rest)
  where
    rest : All (Settles (after_round s round)) ops
    rest = All-tail (Settles (after_round s round)) op ops settle

    joined : (log ++ op ∷ []) ++ ops ≡ log ++ op ∷ ops
    joined = append_assoc log (op ∷ []) ops

    here : history_after (contents base log) [] (op ∷ ops) ≡ history_after (contents base (log ++ op ∷ [])) (recorded_by_op op (contents base log) []) ops
    here = history_after-first (contents base log) [] op ops ∙ ap (λ (l : List Line). history_after l (recorded_by_op op (contents base log) []) ops) (sym (contents_push base log op))

    go : (op ≡ Word (1 + round.side) 0 (rounds_of s round.side + 1)) ⊎ Settles s op → (IsRoundInDoubt base (log ++ op ∷ []) s round → IsStillDoubt base (log ++ op ∷ []) ops s round ⊎ HasTold base (log ++ op ∷ []) ops s round) → IsStillDoubt base log (op ∷ ops) s round ⊎ HasTold base log (op ∷ ops) s round
    go (inl index) more =
        let landed : HasRoundLanded base (log ++ op ∷ []) s round = subst (λ (o : LogOp). HasRoundLanded base (log ++ o ∷ []) s round) (sym index) (index_lands doubt) in
        let recorded : recorded_by_op op (contents base log) [] ≡ logged round false false ∷ [] = ap (λ (o : LogOp). recorded_by_op o (contents base log) []) index ∙ index_records (contents base log) s round (next_side s round doubt.legal) doubt.stands doubt.records in
        inr (record {
          told = ap rounds_in (here ∙ (ap (λ (h : List LoggedRound). history_after (contents base (log ++ op ∷ [])) h ops) recorded ∙ (history_after-flagged (contents base (log ++ op ∷ [])) (logged round false false ∷ []) [] ops ∙ (ap (λ (h : List LoggedRound). flagged ops (logged round false false ∷ []) ++ h) (history-settled (after_round s round) (contents base (log ++ op ∷ [])) ops landed.stands rest) ∙ append-nil (flagged ops (logged round false false ∷ [])))))) ∙ rounds_in-flagged ops (logged round false false ∷ []);
          landed = subst (λ (l : List LogOp). HasRoundLanded base l s round) joined (landed_along landed ops rest);
        })
    go (inr old) more =
        let settles = All-head (Settles (after_round s round)) op ops settle in
        let recorded = recorded_none s (contents base log) op doubt.stands old in
        let same : history_after (contents base (log ++ op ∷ [])) [] ops ≡ history_after (contents base log) [] (op ∷ ops) = sym (here ∙ ap (λ (h : List LoggedRound). history_after (contents base (log ++ op ∷ [])) h ops) recorded) in
        elim (more (other_doubt doubt op settles old)) [
          | inl still ↦ inl (record {
            none = sym same ∙ still.none;
            doubt = subst (λ (l : List LogOp). IsRoundInDoubt base l s round) joined still.doubt;
            old = All-cons (Settles s) op ops old still.old;
          })
          | inr now ↦ inr (record {
            told = ap rounds_in (sym same) ∙ now.told;
            landed = subst (λ (l : List LogOp). HasRoundLanded base l s round) joined now.landed;
          })
        ]

-- Images while nothing is told

-- operations that settle both states write what stands in each image already
both_same : (base : List Line) (log : List LogOp) (s : Standing) (round : Round) (op : LogOp) (image : List Line) → IsReady base log (either_state s round) → Settles s op → Settles (after_round s round) op → IsCrashImage base (log ++ op ∷ []) image → IsCrashImage base log image
both_same base log s round op image ready old new left =
    let before = left_before base log op image left in
    let same : WritesSame before.0 op = elim (member_left base log (either_state s round) ready before.0 before.1) [
      | inl stands ↦ allowed_writes_same before.0 (Some s) op stands old
      | inr later ↦ elim later [ inl stands ↦ allowed_writes_same before.0 (Some (after_round s round)) op stands new | inr never ↦ absurd never ]
    ] in
    subst (IsCrashImage base log) (sym (same_before op before.0 image (left.left.lines ∙ sym before.1.left.lines) same before.2)) before.1

both_along : (base : List Line) (log ops : List LogOp) (s : Standing) (round : Round) (image : List Line) → IsReady base log (either_state s round) → All (Settles s) ops → All (Settles (after_round s round)) ops → IsCrashImage base (log ++ ops) image → IsCrashImage base log image
both_along base log [] s round image ready old new left =
    subst (λ (l : List LogOp). IsCrashImage base l image) (append-nil log) left
both_along base log (op ∷ ops) s round image ready old new left =
    let settles = All-head (Settles (after_round s round)) op ops new in
    let after = ready_is_kept base log (op ∷ []) (either_state s round) ready (All-cons (IsAllowed (either_state s round)) op [] (next_allowed s round op settles) (All-nil (IsAllowed (either_state s round)))) in
    both_same base log s round op image ready (All-head (Settles s) op ops old) settles (both_along base (log ++ op ∷ []) ops s round image after (All-tail (Settles s) op ops old) (All-tail (Settles (after_round s round)) op ops new) (subst (λ (l : List LogOp). IsCrashImage base l image) (sym (append_assoc log (op ∷ []) ops)) left))

-- Covering

-- an image of either state is covered by a round that isn't sealed
covered_either : (s : Standing) (round : Round) (rounds : List LoggedRound) (image : List Line) → rounds_in rounds ≡ round ∷ [] → AreUnsealed rounds → ImageRepresentsOne image (either_state s round) → IsCoveredBy s rounds image
covered_either s round rounds image told unsealed (inl stands) =
    record { kept = []; lost = rounds; whole = refl; unsealed = unsealed; stands = stands }
covered_either s round rounds image told unsealed (inr (inl stands)) = record {
  kept = rounds;
  lost = [];
  whole = sym (append-nil rounds);
  unsealed = tt;
  stands = subst (λ (h : List Round). Represents image (state_after s h)) (sym told) stands;
}
covered_either s round rounds image told unsealed (inr (inr never)) = absurd never

-- where nothing is told, it is covered or as at the start
covered_or_as_at_start : (base : List Line) (log : List LogOp) (s : Standing) (round : Round) (rounds : List LoggedRound) (image : List Line) → rounds ≡ [] → IsCrashImage base log image → ImageRepresentsOne image (either_state s round) → IsCoveredBy s rounds image ⊎ IsAsAtStart base log image
covered_or_as_at_start base log s round rounds image none left (inl stands) =
    inl (record { kept = []; lost = []; whole = none; unsealed = tt; stands = stands })
covered_or_as_at_start base log s round rounds image none left (inr (inl stands)) =
    inr (record { earlier = image; left = left; member = Some (after_round s round); stood = stands; stands = stands })
covered_or_as_at_start base log s round rounds image none left (inr (inr never)) = absurd never

next_ready : {base : List Line} {log : List LogOp} (s : Standing) (round : Round) → IsReady base log (either_state s round) → (ops : List LogOp) → All (Settles (after_round s round)) ops → IsReady base (log ++ ops) (either_state s round)
next_ready {base} {log} s round ready ops settle = ready_is_kept base log ops (either_state s round) ready (all_next_allowed s round ops settle)

-- before its sync, settling is covered
doubt_prefix : {base : List Line} {log : List LogOp} {s : Standing} {round : Round} → IsRoundInDoubt base log s round → (ops : List LogOp) → All (Settles (after_round s round)) ops → All IsNoSync ops → IsCoveredPrefix base log s ops
doubt_prefix {base} {log} {s} {round} doubt ops settle none_yet image left =
    let member = member_left base (log ++ ops) (either_state s round) (next_ready s round doubt.ready ops settle) image left in
    let no_sync = list_any_none is_sync ops none_yet in
    elim (doubt_along log doubt ops settle) [
      | inl still ↦ elim (covered_or_as_at_start base log s round (history_after (contents base log) [] ops) image still.none (both_along base log ops s round image doubt.ready still.old settle left) member) [
        | inl covered ↦ inl covered
        | inr at_start ↦ inr (no_sync, at_start)
      ]
      | inr now ↦ inl (covered_either s round (history_after (contents base log) [] ops) image now.told (history_after-unsealed (contents base log) [] ops no_sync tt) member)
    ]

-- All of settling

number_of_side : (s : Standing) (side to : ℕ) → side < 2 → Settles s (Word (1 + side) 0 to) → to ≡ rounds_of s side
number_of_side s side to few (inr never) = absurd never
number_of_side s side to few (inl (first, inl magic)) = absurd (omega (arith, magic.0))
number_of_side s side to few (inl (first, inr (inl one))) = one.1 ∙ ap (rounds_of s) (omega (arith, one.0))
number_of_side s side to few (inl (first, inr (inr two))) = two.1 ∙ ap (rounds_of s) (omega (arith, two.0))

-- the index word is among what settling to the next state writes
index_among : (s : Standing) (round : Round) (two : Bool) → round.side < side_count s.kind → (1 < side_count s.kind → two ≡ true) → All (Settles s) (Word 0 0 MAGIC ∷ Word 1 0 (rounds_of (after_round s round) 0) ∷ second_words (after_round s round) two) → rounds_of (after_round s round) round.side ≡ rounds_of s round.side
index_among s round two here both old = go round.side refl two both rest
  where
    next : Standing
    next = after_round s round

    tail : All (Settles s) (Word 1 0 (rounds_of next 0) ∷ second_words next two)
    tail = All-tail (Settles s) (Word 0 0 MAGIC) (Word 1 0 (rounds_of next 0) ∷ second_words next two) old

    rest : All (Settles s) (second_words next two)
    rest = All-tail (Settles s) (Word 1 0 (rounds_of next 0)) (second_words next two) tail

    go : (side : ℕ) → round.side ≡ side → (b : Bool) → (1 < side_count s.kind → b ≡ true) → All (Settles s) (second_words next b) → rounds_of next side ≡ rounds_of s side
    go zero is b h more =
        number_of_side s 0 (rounds_of next 0) (omega arith) (All-head (Settles s) (Word 1 0 (rounds_of next 0)) (second_words next two) tail)
    go (suc zero) is true h more =
        number_of_side s 1 (rounds_of next 1) (omega arith) (All-head (Settles s) (Word 2 0 (rounds_of next 1)) [] more)
    go (suc zero) is false h more = absurd (false≢true (h (omega (arith, here, is))))
    go (suc (suc side)) is b h more = absurd (omega (arith, here, is, few_sides s.kind))

two_sides : (a b : Kind) → a ≡ b → 1 < side_count b → (side_count a == 2) ≡ true
two_sides a b same more =
    let both : side_count a ≡ 2 = omega (arith, ap side_count same, few_sides b) in grind (arith, nat_tests)

-- so it tells the round
settling_tells : {base : List Line} {log : List LogOp} {s : Standing} {round : Round} → IsRoundInDoubt base log s round → (rest : List LogOp) → All (Settles (after_round s round)) (settling_words (after_round s round) ++ rest) → HasTold base log (settling_words (after_round s round) ++ rest) s round
settling_tells {base} {log} {s} {round} doubt rest settle =
    elim (doubt_along log doubt (settling_words next ++ rest) settle) [
      | inl still ↦ absurd (omega (arith, doubt_rounds doubt, index_among s round (side_count next.kind == 2) (next_side s round doubt.legal) (two_sides next.kind s.kind (ap (λ (h : Header). h.kind) (next_header s round))) (front still.old)))
      | inr now ↦ now
    ]
  where
    next : Standing
    next = after_round s round

    front : All (Settles s) (settling_words next ++ rest) → All (Settles s) (settling_words next)
    front old = subst (All (Settles s)) (take-append_seam (settling_words next) rest) (All-take (Settles s) (length (settling_words next)) (settling_words next ++ rest) old)

-- after all of it each image represents the next state
next_stands : {base : List Line} {log : List LogOp} {s : Standing} {round : Round} → IsRoundInDoubt base log s round → (image : List Line) → IsCrashImage base (log ++ settling_of (after_round s round)) image → Represents image (after_round s round)
next_stands {base} {log} {s} {round} doubt image left =
    let next = after_round s round in
    let words = settling_words next in
    let settle : All (Settles next) (words ++ []) = subst (All (Settles next)) (sym (append-nil words)) (words_settle next) in
    let told = settling_tells doubt [] settle in
    let landed : HasRoundLanded base (log ++ words) s round = subst (λ (l : List LogOp). HasRoundLanded base (log ++ l) s round) (append-nil words) told.landed in
    given_stands base (log ++ words) next (either_state s round) landed.ready landed.stands image (subst (λ (l : List LogOp). IsCrashImage base l image) (sym (append_assoc log words (Back 0 3 ∷ Sync ∷ []))) left)

-- and the round is sealed
whole_history : {base : List Line} {log : List LogOp} {s : Standing} {round : Round} → IsRoundInDoubt base log s round → history_after (contents base log) [] (settling_of (after_round s round)) ≡ sealed_round round ∷ []
whole_history {base} {log} {s} {round} doubt =
    let next = after_round s round in
    let told = settling_tells doubt (Back 0 3 ∷ Sync ∷ []) (settling_settles next) in
    sealed_alone (history_after (contents base log) [] (settling_of next)) round told.told (subst AreSealed (history_of-second base log (settling_of next)) (sealed_by_settling base log (header_for next) (rounds_of next 0) (rounds_of next 1) (length log) (omega arith))) (history_after-backed (contents base log) [] (settling_of next) tt)

-- The exits

-- each prefix of settling that isn't cut off, or is before its sync, is covered
doubt_prefixes : {base : List Line} {log : List LogOp} {s : Standing} {round : Round} → IsRoundInDoubt base log s round → (ops : List LogOp) → All (Settles (after_round s round)) ops → All IsNoSync ops ⊎ (ops ≡ settling_of (after_round s round)) → (count : ℕ) → IsCoveredPrefix base log s (take count ops)
doubt_prefixes {base} {log} {s} {round} doubt ops settle (inl none_yet) count =
    doubt_prefix doubt (take count ops) (All-take (Settles (after_round s round)) count ops settle) (All-take IsNoSync count ops none_yet)
doubt_prefixes {base} {log} {s} {round} doubt ops settle (inr whole) count =
    go (cases_lt count (length (settling_of next)))
  where
    next : Standing
    next = after_round s round

    all : IsCoveredPrefix base log s (settling_of next)
    all image left = inl (record {
      kept = sealed_round round ∷ [];
      lost = [];
      whole = whole_history doubt;
      unsealed = tt;
      stands = next_stands doubt image left;
    })

    go : (count < length (settling_of next)) ⊎ (length (settling_of next) ≤ count) → IsCoveredPrefix base log s (take count ops)
    go (inr after) =
        subst (IsCoveredPrefix base log s) (sym (ap (take count) whole ∙ take_all count (settling_of next) after)) all
    go (inl before) =
        let body = settling_body next in
        let near : count ≤ length body = omega (arith, ap length (settling_whole next), length-append body (Sync ∷ [])) in
        let prefix : take count ops ≡ take count body = ap (take count) (whole ∙ settling_whole next) ∙ take-append-le count body (Sync ∷ []) near in
        doubt_prefix doubt (take count ops) (All-take (Settles next) count ops settle) (subst (All IsNoSync) (sym prefix) (All-take IsNoSync count body (body-no_sync next)))

doubt_covers : {base : List Line} {log : List LogOp} {s : Standing} {round : Round} → IsRoundInDoubt base log s round → (ops : List LogOp) → All (Settles (after_round s round)) ops → All IsNoSync ops ⊎ (ops ≡ settling_of (after_round s round)) → Covers base (log ++ ops) (length log) s (history_after (contents base log) [] ops)
doubt_covers {base} {log} {s} {round} doubt ops settle which =
    covers_by_prefixes base log ops s (history_after (contents base log) [] ops) refl (doubt_prefixes doubt ops settle which) (inl (end (doubt_along log doubt ops settle)))
  where
    end : IsStillDoubt base log ops s round ⊎ HasTold base log ops s round → Represents (contents base (log ++ ops)) (state_after s (rounds_in (history_after (contents base log) [] ops)))
    end (inl still) = subst (λ (h : List LoggedRound). Represents (contents base (log ++ ops)) (state_after s (rounds_in h))) (sym still.none) still.doubt.stands
    end (inr now) = subst (λ (h : List Round). Represents (contents base (log ++ ops)) (state_after s h)) (sym now.told) now.landed.stands

few_told : {base : List Line} {log ops : List LogOp} {s : Standing} {round : Round} → IsStillDoubt base log ops s round ⊎ HasTold base log ops s round → length (history_after (contents base log) [] ops) ≤ 1
few_told (inl still) = omega (arith, ap length still.none)
few_told {base} {log} {ops} (inr now) = omega (arith, ap length now.told, length-map (history_after (contents base log) [] ops) round_of)

-- settling to the header's sides is settling to those of the next state
pub next_settling : (s : Standing) (round : Round) → settle_to (header_for s) (after_round s round) ≡ settling_of (after_round s round)
next_settling s round = ap (λ (h : Header). settle_to h (after_round s round)) (sym (next_header s round))

-- all of settling tells the round in doubt, sealed, and leaves its state alone
pub settling_doubt : {base : List Line} {log : List LogOp} {s : Standing} {round : Round} → IsRoundInDoubt base log s round → IsExit base log (settle_to (header_for s) (after_round s round)) s (sealed_round round ∷ []) (Some (after_round s round) ∷ [])
settling_doubt {base} {log} {s} {round} doubt =
    let next = after_round s round in
    let covers = subst (Covers base (log ++ settling_of next) (length log) s) (whole_history doubt) (doubt_covers doubt (settling_of next) (settling_settles next) (inr refl)) in
    subst (λ (ops : List LogOp). IsExit base log ops s (sealed_round round ∷ []) (Some next ∷ [])) (sym (next_settling s round)) (record {
      covers = covers;
      one_unsealed = covered_stepwise covers (omega arith);
      ready = one_from_images base (log ++ settling_of next) next (next_stands doubt);
    })

-- where it is cut off anywhere, the round is in doubt still, or it is told and has landed
pub settling_doubt_failing : {base : List Line} {log : List LogOp} {s : Standing} {round : Round} → IsRoundInDoubt base log s round → (ops : List LogOp) → IsFailedPrefix (settle_to (header_for s) (after_round s round)) ops → IsExitInDoubt base log ops s round
settling_doubt_failing {base} {log} {s} {round} doubt ops cut =
    let parts = cut_settling (after_round s round) ops (subst (λ (all : List LogOp). IsFailedPrefix all ops) (next_settling s round) cut) in
    let covers = doubt_covers doubt ops parts.0 parts.1 in
    let after = doubt_along log doubt ops parts.0 in
    record {
      history = history_after (contents base log) [] ops;
      exit = record {
        covers = covers;
        one_unsealed = covered_stepwise covers (few_told after);
        ready = next_ready s round doubt.ready ops parts.0;
      };
      rounds = elim after [ inl still ↦ inl (still.none, still.doubt) | inr now ↦ inr (now.told, now.landed) ];
    }

-- Where the round has landed

pub settling_landed : {base : List Line} {log : List LogOp} {s : Standing} {round : Round} → HasRoundLanded base log s round → IsExit base log (settle_to (header_for s) (after_round s round)) (after_round s round) [] (Some (after_round s round) ∷ [])
settling_landed {base} {log} {s} {round} landed =
    subst (λ (ops : List LogOp). IsExit base log ops (after_round s round) [] (Some (after_round s round) ∷ [])) (sym (next_settling s round)) (settling_leaves_one base log (after_round s round) (either_state s round) landed.ready landed.stands)

pub settling_landed_failing : {base : List Line} {log : List LogOp} {s : Standing} {round : Round} → HasRoundLanded base log s round → (ops : List LogOp) → IsFailedPrefix (settle_to (header_for s) (after_round s round)) ops → IsExit base log ops (after_round s round) [] (either_state s round)
settling_landed_failing {base} {log} {s} {round} landed ops cut =
    settling_failing base log ops (after_round s round) (either_state s round) landed.ready landed.stands (subst (λ (all : List LogOp). IsFailedPrefix all ops) (next_settling s round) cut)

pub landed_still : {base : List Line} {log : List LogOp} {s : Standing} {round : Round} → HasRoundLanded base log s round → (ops : List LogOp) → IsFailedPrefix (settle_to (header_for s) (after_round s round)) ops → HasRoundLanded base (log ++ ops) s round
landed_still {base} {log} {s} {round} landed ops cut =
    landed_along landed ops (cut_settling (after_round s round) ops (subst (λ (all : List LogOp). IsFailedPrefix all ops) (next_settling s round) cut)).0

-- After a call that left the round in doubt

pub settling_after : {base : List Line} {log ops : List LogOp} {s : Standing} {round : Round} → IsExitInDoubt base log ops s round → IsExit base log (ops ++ settle_to (header_for s) (after_round s round)) s (sealed_round round ∷ []) (Some (after_round s round) ∷ [])
settling_after {base} {log} {ops} {s} {round} left = go left.rounds
  where
    next : Standing
    next = after_round s round

    settle : List LogOp
    settle = settle_to (header_for s) next

    whole : List LoggedRound
    whole = history_of base (log ++ (ops ++ settle)) (length log)

    go : ((left.history ≡ []) × IsRoundInDoubt base (log ++ ops) s round) ⊎ ((rounds_in left.history ≡ round ∷ []) × HasRoundLanded base (log ++ ops) s round) → IsExit base log (ops ++ settle) s (sealed_round round ∷ []) (Some next ∷ [])
    go (inl (none, doubt)) =
        calls-append_sealed (subst (λ (h : List LoggedRound). IsExit base log ops s h (either_state s round)) none left.exit) (settling_doubt doubt) tt
    go (inr (told, landed)) =
        let exit : IsExit base log (ops ++ settle) s whole (Some next ∷ []) = calls-append left.exit (subst (λ (h : List Round). IsExit base (log ++ ops) settle (state_after s h) [] (Some next ∷ [])) (sym told) (settling_landed landed)) (inr refl) in
        let joined : (log ++ ops) ++ settle ≡ log ++ (ops ++ settle) = append_assoc log ops settle in
        let rounds : rounds_in whole ≡ round ∷ [] = ap (λ (l : List LogOp). rounds_in (history_of base l (length log))) (sym joined) ∙ (rounds_of-parts base (log ++ ops) settle (length log) left.exit.covers.within ∙ (λ i. rounds_in (sym left.exit.covers.told i) ++ rounds_in (sym (settling_landed landed).covers.told i)) ∙ (append-nil (rounds_in left.history) ∙ told)) in
        let sealed : AreSealed whole = subst (λ (l : List LogOp). AreSealed (history_of base l (length log))) joined (sealed_by_settling base (log ++ ops) (header_for s) (rounds_of next 0) (rounds_of next 1) (length log) left.exit.covers.within) in
        subst (λ (h : List LoggedRound). IsExit base log (ops ++ settle) s h (Some next ∷ [])) (sealed_alone whole round rounds sealed (history_after-backed (contents base (take (length log) (log ++ (ops ++ settle)))) [] (drop (length log) (log ++ (ops ++ settle))) tt)) exit

pub settling_after_failing : {base : List Line} {log ops more : List LogOp} {s : Standing} {round : Round} → IsExitInDoubt base log ops s round → IsFailedPrefix (settle_to (header_for s) (after_round s round)) more → IsExitInDoubt base log (ops ++ more) s round
settling_after_failing {base} {log} {ops} {more} {s} {round} left cut = go left.rounds
  where
    joined : (log ++ ops) ++ more ≡ log ++ (ops ++ more)
    joined = append_assoc log ops more

    go : ((left.history ≡ []) × IsRoundInDoubt base (log ++ ops) s round) ⊎ ((rounds_in left.history ≡ round ∷ []) × HasRoundLanded base (log ++ ops) s round) → IsExitInDoubt base log (ops ++ more) s round
    go (inl (none, doubt)) =
        let again = settling_doubt_failing doubt more cut in
        record {
          history = again.history;
          exit = calls-append_sealed (subst (λ (h : List LoggedRound). IsExit base log ops s h (either_state s round)) none left.exit) again.exit tt;
          rounds = elim again.rounds [
            | inl (nothing, still) ↦ inl (nothing, subst (λ (l : List LogOp). IsRoundInDoubt base l s round) joined still)
            | inr (told, landed) ↦ inr (told, subst (λ (l : List LogOp). HasRoundLanded base l s round) joined landed)
          ];
        }
    go (inr (told, landed)) =
        let second = subst (λ (h : List Round). IsExit base (log ++ ops) more (state_after s h) [] (either_state s round)) (sym told) (settling_landed_failing landed more cut) in
        record {
          history = history_of base (log ++ (ops ++ more)) (length log);
          exit = calls-append left.exit second (inr refl);
          rounds = inr (
            ap (λ (l : List LogOp). rounds_in (history_of base l (length log))) (sym joined) ∙ (rounds_of-parts base (log ++ ops) more (length log) left.exit.covers.within ∙ ((λ i. rounds_in (sym left.exit.covers.told i) ++ rounds_in (sym second.covers.told i)) ∙ (append-nil (rounds_in left.history) ∙ told))),
            subst (λ (l : List LogOp). HasRoundLanded base l s round) joined (landed_still landed more cut),
          );
        }

-- Whatever is allowed

-- lines that have the same words but perhaps the index word
abbrev IsSameBut : Round → List Line → List Line → Type 0
IsSameBut round a b = (line word : ℕ) → ¬ IsIndex round line word → word_of a line word ≡ word_of b line word

allowed_value : (lines : List Line) (s : Standing) (round : Round) (op : LogOp) (line word value : ℕ) → Represents lines s → IsAllowed (either_state s round) op → MayWrite line word value op → ¬ IsIndex round line word → value ≡ word_of lines line word
allowed_value lines s round (Whole at to) line word value stands allowed written other = absurd allowed
allowed_value lines s round (Word at place to) line word value stands (inl old) (here, there, is) other =
    sym is ∙ (settling_word lines s at place to stands old ∙ (λ i. word_of lines (here i) (there i)))
allowed_value lines s round (Word at place to) line word value stands (inr (inl new)) (here, there, is) other =
    elim (next_word s round at place to new) [
      | inl index ↦ absurd (other (sym here ∙ index.0, sym there ∙ index.1))
      | inr old ↦ sym is ∙ (settling_word lines s at place to stands old ∙ (λ i. word_of lines (here i) (there i)))
    ]
allowed_value lines s round (Word at place to) line word value stands (inr (inr never)) written other = absurd never
allowed_value lines s round (Back first count) line word value stands allowed written other = absurd written
allowed_value lines s round Fence line word value stands allowed written other = absurd written
allowed_value lines s round Sync line word value stands allowed written other = absurd written

same_but-along : (lines a : List Line) (s : Standing) (round : Round) (ops : List LogOp) → Represents lines s → All (IsAllowed (either_state s round)) ops → IsSameBut round a lines → IsSameBut round (contents a ops) lines
same_but-along lines a s round [] stands allowed same = subst (λ (l : List Line). IsSameBut round l lines) (sym (contents-none a)) same
same_but-along lines a s round (op ∷ ops) stands allowed same =
    subst (λ (l : List Line). IsSameBut round l lines) (sym (contents-first a op ops)) (same_but-along lines (applied op a) s round ops stands (All-tail (IsAllowed (either_state s round)) op ops allowed) (λ line word other. elim (word_of-applied op a line word) [
      | inl still ↦ still ∙ same line word other
      | inr written ↦ allowed_value lines s round op line word (word_of (applied op a) line word) stands (All-head (IsAllowed (either_state s round)) op ops allowed) written other
    ]))

-- with the old index word they are the same
same_if_old : (a b : List Line) (s : Standing) (round : Round) → round.side < 2 → length a ≡ length b → IsSameBut round a b → Represents a s → Represents b s → a ≡ b
same_if_old a b s round few long same left right =
    same_images a b long (λ line word. elim (cases_eq line (1 + round.side)) [
      | inr other ↦ same line word (λ index. other index.0)
      | inl here ↦ elim (cases_eq word 0) [
        | inr other ↦ same line word (λ index. other index.1)
        | inl first ↦ (λ i. word_of a (here i) (first i)) ∙ (ap (λ (l : Line). slice_index l.words 0) ((parts _ _ left).rounds round.side few ∙ sym ((parts _ _ right).rounds round.side few)) ∙ (λ i. word_of b (sym here i) (sym first i)))
      ]
    ])

pub doubt_kept : {base : List Line} {log : List LogOp} {s : Standing} {round : Round} → IsRoundInDoubt base log s round → (ops : List LogOp) → All (IsAllowed (either_state s round)) ops → IsRoundInDoubt base (log ++ ops) s round ⊎ HasRoundLanded base (log ++ ops) s round
doubt_kept {base} {log} {s} {round} doubt ops allowed = go ready.holds
  where
    ready : IsReady base (log ++ ops) (either_state s round)
    ready = ready_is_kept base log ops (either_state s round) doubt.ready allowed

    go : ImageRepresentsOne (contents base (log ++ ops)) (either_state s round) → IsRoundInDoubt base (log ++ ops) s round ⊎ HasRoundLanded base (log ++ ops) s round
    go (inl stands) =
        let after = contents base (log ++ ops) in
        let before = contents base log in
        let same_but : IsSameBut round after before = subst (λ (l : List Line). IsSameBut round l before) (sym (contents-append base log ops)) (same_but-along before before s round ops doubt.stands allowed (λ line word other. refl)) in
        let same : after ≡ before = same_if_old after before s round (omega (arith, next_side s round doubt.legal, few_sides s.kind)) (length-contents base (log ++ ops) ∙ sym (length-contents base log)) same_but stands doubt.stands in
        inl (record {
          legal = doubt.legal;
          ready = ready;
          stands = stands;
          records = ap (λ (l : List Line). round_at l round.side (rounds_of s round.side + 1)) same ∙ doubt.records;
        })
    go (inr (inl stands)) = inr (record { legal = doubt.legal; ready = ready; stands = stands })
    go (inr (inr never)) = absurd never
