-- What each call of the device keeps, by the laws of crash safety.
use Rattle.std.proofs.Common.{◌≡◌, ℕ, ◌⊎◌, List, [], ◌∷◌, ◌++◌, Option, Some, option_to_list, ap, subst, sym, refl, ◌∙◌, inl, inr, arith}
use Rattle.std.specs.List.{All}
use Rattle.std.proofs.lemmas.List.{append-nil, append_assoc}
use Rattle.std.proofs.lemmas.List.Elements.{All-nil, All-cons, All-append}
use Rattle.pb_crash.specs.declared.leaves.Leaves.{Leaves}
use Rattle.pb_crash.specs.declared.leaves.Leaves.TheVariants.{Left, Done, Torn, Fenced}
use Rattle.pb_crash.specs.Leaves.{left_by, filled}
use Rattle.pb_pmem.specs.declared.line.Line.{Line}
use Rattle.pb_pmem.specs.declared.log.LogOp.{LogOp}
use Rattle.pb_pmem.specs.declared.log.LogOp.TheVariants.{Whole, Word, Back, Fence, Sync}
use Rattle.pb_pmem.specs.Contents.{contents}
use Rattle.pb_pmem.specs.Device.{Tale, MayAdd}
use Rattle.pb_pmem.specs.Operations.{IsFailedPrefix, with_ops}
use Rattle.pb_object.specs.History.{Round, History, after_round, state_after}
use Rattle.pb_object.specs.Standing.{Standing, rounds_of}
use Rattle.pb_layout.specs.Doubt.{IsRoundInDoubt, HasRoundLanded, IsExitInDoubt}
use Rattle.pb_layout.specs.Exits.{IsExit, sealed_round}
use Rattle.pb_layout.specs.Header.{record_length}
use Rattle.pb_layout.specs.InUse.{IsOutside}
use Rattle.pb_layout.specs.LogHistory.{LoggedRound, rounds_in}
use Rattle.pb_layout.specs.Cell.{cell_line_of}
use Rattle.pb_layout.specs.Recovered.{Represents}
use Rattle.pb_layout.specs.Region.{cell_place}
use Rattle.pb_layout.specs.RegionOps.{spare_place, stage_by, fenced_ops}
use Rattle.pb_layout.specs.Represents.{header_for}
use Rattle.pb_layout.specs.Stages.{IsStagingOp}
use Rattle.pb_layout_laws.proofs.Calls.{calls-append_sealed}
use Rattle.pb_layout_laws.proofs.Histories.{rounds_in-append, state_after-append, AreSealed-append}
use Rattle.pb_layout_laws.proofs.PutCells.{free_unused}
use Rattle.pb_layout_laws.proofs.ReadyWithOne.{only_member}
use Rattle.pb_layout_laws.proofs.Staging.{quiet_fenced}
use Rattle.pb_layout_laws.proofs.Storing.{IsStoreBy}
use Rattle.pb_layout_laws.proofs.StoreExits.{staging_outside, store_by_while_committing, store_by_whole}
use Rattle.pb_layout_laws.proofs.UnusedLines.{writing_unused, writing_unused_failing}
use Rattle.pb_core.specs.DeviceParts.{with_log, IsSteady, IsInDoubtAfter}
use Rattle.pb_core.specs.World.{Put, ops_of_puts, AreFreePositions, IsRoundPlan}
use Rattle.pb_core.specs.WorldMoves.{last_calls}
use Rattle.pb_core.proofs.Lists.{All-front}

-- Steady devices

pub steady_holds : {tale : Tale} {s : Standing} {rounds : History} → IsSteady tale s rounds → Represents (contents tale.base tale.log) (state_after s rounds)
steady_holds {tale} {s} {rounds} steady =
    only_member (contents tale.base tale.log) (state_after s rounds) steady.exit.ready.holds

-- more calls
pub steady_then : {tale : Tale} {s : Standing} {rounds : History} {ops : List LogOp} {more : List LoggedRound} {members : List (Option Standing)} (steady : IsSteady tale s rounds) → IsExit tale.base tale.log ops (state_after s rounds) more members → IsExit tale.base [] (tale.log ++ ops) s (steady.history ++ more) members
steady_then {tale} {s} {rounds} {ops} {more} {members} steady exit =
    calls-append_sealed {log = []} steady.exit (subst (λ (h : History). IsExit tale.base tale.log ops (state_after s h) more members) (sym steady.told) exit) steady.sealed

-- calls that tell no round
pub steady_quiet : {tale : Tale} {s : Standing} {rounds : History} {ops : List LogOp} → IsSteady tale s rounds → IsExit tale.base tale.log ops (state_after s rounds) [] (Some (state_after s rounds) ∷ []) → IsSteady (with_ops ops tale) s rounds
steady_quiet {tale} {s} {rounds} {ops} steady exit = record {
  history = steady.history ++ [];
  exit = steady_then steady exit;
  sealed = AreSealed-append steady.history [] steady.sealed tt;
  told = rounds_in-append steady.history [] ∙ (append-nil (rounds_in steady.history) ∙ steady.told);
}

-- calls that seal one
pub steady_sealed : {tale : Tale} {s : Standing} {rounds : History} {ops : List LogOp} {round : Round} → IsSteady tale s rounds → IsExit tale.base tale.log ops (state_after s rounds) (sealed_round round ∷ []) (Some (after_round (state_after s rounds) round) ∷ []) → IsSteady (with_ops ops tale) s (rounds ++ round ∷ [])
steady_sealed {tale} {s} {rounds} {ops} {round} steady exit = record {
  history = steady.history ++ sealed_round round ∷ [];
  exit = subst (λ (t : Standing). IsExit tale.base [] (tale.log ++ ops) s (steady.history ++ sealed_round round ∷ []) (Some t ∷ [])) (sym (state_after-append s rounds (round ∷ []))) (steady_then steady exit);
  sealed = AreSealed-append steady.history (sealed_round round ∷ []) steady.sealed (refl, tt);
  told = rounds_in-append steady.history (sealed_round round ∷ []) ∙ ap (λ (h : History). h ++ round ∷ []) steady.told;
}

-- the same device, its log named in another way
pub steady_at : {tale : Tale} {s : Standing} {rounds : History} (log : List LogOp) → log ≡ tale.log → IsSteady (with_log tale log) s rounds → IsSteady tale s rounds
steady_at {tale} {s} {rounds} log same steady =
    subst (λ (l : List LogOp). IsSteady (with_log tale l) s rounds) same steady

-- What a failing call leaves

-- nothing, or an operation that may be added
pub left_may : (how : Leaves) (op : LogOp) → (option_to_list (left_by how op) ≡ []) ⊎ ((added : LogOp) × MayAdd op added × (option_to_list (left_by how op) ≡ added ∷ []))
left_may Left op = inl refl
left_may Done (Whole line to) = inr (Whole line to, refl, refl)
left_may Done (Word line word to) = inr (Word line word to, refl, refl)
left_may Done (Back first count) = inr (Back first count, refl, refl)
left_may Done Fence = inr (Fence, refl, refl)
left_may Done Sync = inr (Sync, tt, refl)
left_may (Torn value) (Whole line to) = inr (Whole line (filled value), refl, refl)
left_may (Torn value) (Word line word to) = inl refl
left_may (Torn value) (Back first count) = inl refl
left_may (Torn value) Fence = inl refl
left_may (Torn value) Sync = inl refl
left_may Fenced (Whole line to) = inl refl
left_may Fenced (Word line word to) = inl refl
left_may Fenced (Back first count) = inl refl
left_may Fenced Fence = inl refl
left_may Fenced Sync = inr (Fence, tt, refl)

-- calls up to a failing one, with what that leaves
pub failed_prefix : (how : Leaves) (all made : List LogOp) (op : LogOp) (rest : List LogOp) → all ≡ made ++ op ∷ rest → IsFailedPrefix all (made ++ option_to_list (left_by how op))
failed_prefix how all made op rest whole = record {
  prefix = made;
  failed = op;
  rest = rest;
  whole = whole;
  added = elim (left_may how op) [
    | inl none ↦ inl (ap (λ (l : List LogOp). made ++ l) none ∙ append-nil made)
    | inr (added, may, is) ↦ inr (added, may, ap (λ (l : List LogOp). made ++ l) is)
  ];
}

-- calls up to one that isn't made yet
pub begun_prefix : (all made : List LogOp) (op : LogOp) (rest : List LogOp) → all ≡ made ++ op ∷ rest → IsFailedPrefix all made
begun_prefix all made op rest whole =
    record { prefix = made; failed = op; rest = rest; whole = whole; added = inl refl }

-- The calls of a round, before its index word

cells_outside : (image : List Line) (s : Standing) (puts : List Put) → Represents image s → AreFreePositions s.state puts → All (IsOutside s) (ops_of_puts (header_for s) puts)
cells_outside image s [] stands free = All-nil (IsOutside s)
cells_outside image s (put ∷ puts) stands free =
    All-cons (IsOutside s) (Whole (cell_place (header_for s) put.position) (cell_line_of put.position put.value)) (Back (cell_place (header_for s) put.position) 1 ∷ ops_of_puts (header_for s) puts) (free_unused image s put.position stands free.0) (All-cons (IsOutside s) (Back (cell_place (header_for s) put.position) 1) (ops_of_puts (header_for s) puts) tt (cells_outside image s puts stands free.1))

-- the calls before the index word: they write no line in use
abbrev pub first_calls : {tale : Tale} {s : Standing} {round : Round} {plan : List LogOp} → IsRoundPlan tale s round plan → List LogOp
first_calls {tale} {s} {round} planned = ops_of_puts (header_for s) planned.puts ++ stage_by planned.writes (header_for s) round.side (rounds_of s round.side)

pub plan_cut : {tale : Tale} {s : Standing} {round : Round} {plan : List LogOp} (planned : IsRoundPlan tale s round plan) → plan ≡ first_calls planned ++ last_calls s round
plan_cut {tale} {s} {round} planned =
    planned.is ∙ sym (append_assoc (ops_of_puts (header_for s) planned.puts) (stage_by planned.writes (header_for s) round.side (rounds_of s round.side)) (last_calls s round))

first_outside : {tale : Tale} {s : Standing} {round : Round} {plan : List LogOp} → Represents (contents tale.base tale.log) s → (planned : IsRoundPlan tale s round plan) → All (IsOutside s) (first_calls planned)
first_outside {tale} {s} {round} stands planned =
    let first = spare_place (header_for s) round.side (rounds_of s round.side) in
    let count = record_length (header_for s) in
    let image = contents tale.base tale.log in
    let staging : All (IsStagingOp first count) planned.writes = subst (λ (n : ℕ). All (IsStagingOp first n) planned.writes) planned.next.long planned.staged.all in
    All-append (IsOutside s) (ops_of_puts (header_for s) planned.puts) (fenced_ops planned.writes first count) (cells_outside image s planned.puts stands planned.free) (staging_outside image s round.side count (fenced_ops planned.writes first count) stands (omega arith) (quiet_fenced first count planned.writes staging))

-- a round whose index word is still to be called leaves the device as it was
pub staging_leaves : {tale : Tale} {s : Standing} {rounds : History} {round : Round} {plan : List LogOp} (ops : List LogOp) → IsSteady tale s rounds → (planned : IsRoundPlan tale (state_after s rounds) round plan) → IsFailedPrefix (first_calls planned) ops ⊎ ((more : List LogOp) × (first_calls planned ≡ ops ++ more)) → IsSteady (with_ops ops tale) s rounds
staging_leaves {tale} {s} {rounds} {round} ops steady planned (inl cut) =
    steady_quiet steady (writing_unused_failing tale.base tale.log (first_calls planned) ops (state_after s rounds) steady.exit.ready (first_outside (steady_holds steady) planned) cut)
staging_leaves {tale} {s} {rounds} {round} ops steady planned (inr (more, whole)) =
    steady_quiet steady (writing_unused tale.base tale.log ops (state_after s rounds) steady.exit.ready (All-front (IsOutside (state_after s rounds)) ops more (subst (All (IsOutside (state_after s rounds))) whole (first_outside (steady_holds steady) planned))))

-- The calls of a round, from its index word on

-- the device with the cells of the round's items
with_cells : {tale : Tale} {s : Standing} {rounds : History} {round : Round} {plan : List LogOp} → IsSteady tale s rounds → (planned : IsRoundPlan tale (state_after s rounds) round plan) → IsExit tale.base tale.log (ops_of_puts (header_for (state_after s rounds)) planned.puts) (state_after s rounds) [] (Some (state_after s rounds) ∷ [])
with_cells {tale} {s} {rounds} steady planned =
    writing_unused tale.base tale.log (ops_of_puts (header_for (state_after s rounds)) planned.puts) (state_after s rounds) steady.exit.ready (cells_outside (contents tale.base tale.log) (state_after s rounds) planned.puts (steady_holds steady) planned.free)

is_store : {tale : Tale} {s : Standing} {rounds : History} {round : Round} {plan : List LogOp} → IsSteady tale s rounds → (planned : IsRoundPlan tale (state_after s rounds) round plan) → IsStoreBy tale.base (tale.log ++ ops_of_puts (header_for (state_after s rounds)) planned.puts) (state_after s rounds) round planned.lines planned.writes
is_store steady planned = record {
  ready = (with_cells steady planned).ready;
  next = planned.next;
  cells = planned.cells;
  stages = planned.staged;
}

-- calls that tell nothing, and then calls that leave a round in doubt
doubt_after : {base : List Line} {log ops more : List LogOp} {s : Standing} {round : Round} → IsExit base log ops s [] (Some s ∷ []) → IsExitInDoubt base (log ++ ops) more s round → IsExitInDoubt base log (ops ++ more) s round
doubt_after {base} {log} {ops} {more} {s} {round} quiet doubt = record {
  history = doubt.history;
  exit = calls-append_sealed quiet doubt.exit tt;
  rounds = elim doubt.rounds [
    | inl (none, still) ↦ inl (none, subst (λ (l : List LogOp). IsRoundInDoubt base l s round) (append_assoc log ops more) still)
    | inr (told, landed) ↦ inr (told, subst (λ (l : List LogOp). HasRoundLanded base l s round) (append_assoc log ops more) landed)
  ];
}

-- cut off there, they leave the round in doubt
pub committing_leaves : {tale : Tale} {s : Standing} {rounds : History} {round : Round} {plan : List LogOp} (tail : List LogOp) → IsSteady tale s rounds → (planned : IsRoundPlan tale (state_after s rounds) round plan) → IsFailedPrefix (last_calls (state_after s rounds) round) tail → IsInDoubtAfter (with_ops (first_calls planned ++ tail) tale) s rounds round
committing_leaves {tale} {s} {rounds} {round} tail steady planned cut = record {
  entry = tale.log;
  made = first_calls planned ++ tail;
  log = refl;
  begun = steady;
  doubt = subst (λ (ops : List LogOp). IsExitInDoubt tale.base tale.log ops (state_after s rounds) round) (sym (append_assoc cells stage tail)) (doubt_after (with_cells steady planned) (store_by_while_committing (is_store steady planned) tail cut).left);
}
  where
    cells : List LogOp
    cells = ops_of_puts (header_for (state_after s rounds)) planned.puts

    stage : List LogOp
    stage = stage_by planned.writes (header_for (state_after s rounds)) round.side (rounds_of (state_after s rounds) round.side)

-- all of them seal it
pub committing_seals : {tale : Tale} {s : Standing} {rounds : History} {round : Round} {plan : List LogOp} → IsSteady tale s rounds → (planned : IsRoundPlan tale (state_after s rounds) round plan) → IsSteady (with_ops plan tale) s (rounds ++ round ∷ [])
committing_seals {tale} {s} {rounds} {round} {plan} steady planned =
    subst (λ (ops : List LogOp). IsSteady (with_ops ops tale) s (rounds ++ round ∷ [])) (sym planned.is) (steady_sealed steady (calls-append_sealed (with_cells steady planned) (store_by_whole (is_store steady planned)) tt))
