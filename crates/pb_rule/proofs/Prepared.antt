-- The calls of the device that a holder made since its last step, as moves of the core.
use Rattle.std.proofs.Common.{arith, ◌+◌, ◌≡◌, ◌≢◌, ℕ, suc, ◌<◌, Bool, true, false, List, [], ◌∷◌, ◌++◌, length, Option, Some, None, Contains, sym, refl, ap, ◌∙◌, subst, inr}
use Rattle.std.proofs.lemmas.Bool.{false≢true}
use lib.ListN.{get_elem?}
use mathlib.Core.Option.{some}
use Rattle.atomic_table.specs.Table.{State}
use Rattle.pb_object.specs.declared.kind.Kind.{Kind}
use Rattle.pb_object.specs.declared.request.Ask.{Ask}
use Rattle.pb_object.specs.History.{Entry, Round, History, after_round, state_after}
use Rattle.pb_object.specs.Standing.{Standing}
use Rattle.pb_pmem.specs.declared.device.DeviceFault.{DeviceFault}
use Rattle.pb_pmem.specs.Count.{Rose}
use Rattle.pb_core.specs.Client.{Client, is_holding}
use Rattle.pb_core.specs.HolderMoves.{round_by, HolderMove, beginning, recording, settling_none, settling_round, failing_settling, failing_before, failing_after, Begins}
use Rattle.pb_core.specs.Memory.{Owner, Held, AtNumber, Work, Settling, Scanning, Calling, Filling, Noting, Engine, Resting, Recorded, Writing, Doubtful, Memory, clients_of, shown, known_standing, known_by, with_round_ahead, coming, side_of_operation}
use Rattle.pb_core.specs.MemoryParts.{IsMemory, IsScan}
use Rattle.pb_core.specs.MemoryRun.{called}
use Rattle.pb_core.proofs.Scans.{the_scan, known_shown, meets_some}
use Rattle.pb_core.proofs.Turns.{work_suits}
use Rattle.pb_engine.specs.Asks.{asked_round}
use Rattle.pb_layout.specs.RegionOps.{settle_to}
use Rattle.pb_layout.specs.Represents.{header_for}
use Rattle.pb_engine.specs.Calls.{EngineCall, Made, Failed, Settled as SettledCall, FailedSettling as FailedSettlingCall, HasRequest, AreMadeFor, settled_rounds, with_doubt, Progress, progress_of, after_calls}
use Rattle.pb_engine.specs.Good.{HasCome}
use Rattle.pb_engine.specs.View.{EngineView, FailedRound, IsEngine, was_called, settled_by, settled_standing}
use Rattle.pb_engine.specs.Operations.{round_ops}
use Rattle.pb_engine.proofs.Coming.{after_round_made, after_round_failed, after_settled, after_settling_failed}
use Rattle.pb_engine.proofs.MadeFor.{round_for_none, settling_for_none, failed_for, failed_settling_for}
use Rattle.pb_rule.specs.View.{OwnRound, PassView, numbers_of}
use Rattle.pb_rule.specs.Plays.{own_by}
use Rattle.pb_rule.specs.Ready.{Settled, FailedSettling, MadeRound, LeavesFailedRound as FailedMaking, Ready, untouched, settled_none, settled_round, recorded, failed_settling, failed_round}
use Rattle.pb_rule.specs.Rule.{called_if, called_round, SuitsEngine, recorded_by, IsTied, IsAhead, IsOwn, IsHolder, HasNothing, IsViewOf, HasCoreRun, Keeps, Fault, failed_calls, fault_asks, asked_by, failed_asks, IsUnpublished, IsNextOn, AreNextAtSettling, AreCalledFor, IsAskedFor}
use Rattle.pb_rule.proofs.Known.{started}
use Rattle.pb_rule.proofs.MadeRounds.{goes_nowhere, scanned_request, not_resting, not_doubtful, makers_stay, makers_more, asked_stay, asked_more, ahead_asked, held_next, round_next, settling_next, failed_next, failed_settling_next}
use Rattle.pb_rule.proofs.Movers.{own_view, is_memory}
use Rattle.pb_rule.proofs.Rounds.{round_same}
use Rattle.pb_rule.proofs.Runs.{moved_on, memory_of}

-- memory after the holder's calls: it alone may have changed so much
abbrev pub called_to : Memory → Option Round → Engine → ℕ → Work → Memory
called_to m ahead engine count work = record m { ahead = ahead; engine = engine; count = count; work = work }

-- the calls were made: memory is at this work, and the engine suits it
pub record IsPrepared (kind : Kind) (start : EngineView) (m : Memory) (faults : List Fault) (before now : EngineView) (work : Work) : Type 0 where
  pub ahead : Option Round
  pub engine : Engine
  pub count : ℕ
  pub run : HasCoreRun start (called_to m ahead engine count work)
  pub tied : IsTied kind start (called_to m ahead engine count work) now faults
  -- the round that is filled from a scan is the one ahead, and else a round of one's own stays as it is
  pub fills : (stored : ℕ) → work ≡ Filling stored → (own : Option OwnRound) → IsOwn m.start m.published m.ahead own → IsOwn m.start m.published ahead (own_by before (length m.published) m.work own)
  pub stays : ((stored : ℕ) → work ≢ Filling stored) → (own : Option OwnRound) → IsOwn m.start m.published m.ahead own → IsOwn m.start m.published ahead own

-- what a doubt says of the round ahead
uncalled_none : (doubt : Option FailedRound) → was_called doubt ≡ false → called_round doubt ≡ None
uncalled_none None is = refl
uncalled_none (Some failed) is = ap (λ (b : Bool). called_if b failed.round) is

uncalled_standing : (s : Standing) (doubt : Option FailedRound) → was_called doubt ≡ false → settled_standing s doubt ≡ s
uncalled_standing s None is = refl
uncalled_standing s (Some failed) is = ap (λ (b : Bool). settled_by b s failed.round) is

uncalled_rounds : (rounds : History) (doubt : Option FailedRound) → was_called doubt ≡ false → settled_rounds rounds doubt ≡ rounds
uncalled_rounds rounds None is = refl
uncalled_rounds rounds (Some failed) is = ap (λ (b : Bool). with_doubt b rounds failed.round) is

-- a round in doubt whose index word was called
record IsCalled (s : Standing) (rounds : History) (doubt : Option FailedRound) : Type 0 where
  pub round : Round
  pub is : called_round doubt ≡ Some round
  pub standing : settled_standing s doubt ≡ after_round s round
  pub rounds_are : settled_rounds rounds doubt ≡ rounds ++ round ∷ []

called_some : (s : Standing) (rounds : History) (doubt : Option FailedRound) → was_called doubt ≡ true → IsCalled s rounds doubt
called_some s rounds None is = absurd (false≢true is)
called_some s rounds (Some failed) is = record {
  round = failed.round;
  is = ap (λ (b : Bool). called_if b failed.round) is;
  standing = ap (λ (b : Bool). settled_by b s failed.round) is;
  rounds_are = ap (λ (b : Bool). with_doubt b rounds failed.round) is;
}

-- Rounds of one's own

-- with nothing ahead there is none
none_ahead : (start : Standing) (published : History) (ahead later : Option Round) (own : Option OwnRound) → ahead ≡ None → IsOwn start published ahead own → IsOwn start published later own
none_ahead start published ahead later None none is = tt
none_ahead start published ahead later (Some own) none is =
    absurd (none_some is.round (sym none ∙ is.ahead_is))
  where
    none_some : (round : Round) → None ≡ Some round → ⊥
    none_some round e = cc

own_at : (work known_standing : Work) (before : EngineView) (rounds : ℕ) (own : Option OwnRound) (start : Standing) (published : History) (ahead : Option Round) → work ≡ known_standing → IsOwn start published ahead (own_by before rounds known_standing own) → IsOwn start published ahead (own_by before rounds work own)
own_at work known_standing before rounds own start published ahead is fits =
    subst (λ (w : Work). IsOwn start published ahead (own_by before rounds w own)) (sym is) fits

-- Calls

abbrev settled_call : EngineView → EngineCall
settled_call now = SettledCall (settle_to (header_for now.standing) now.standing)

-- a round that is made waits to be published, and what one that fails has was asked for
abbrev Suits : Memory → EngineCall → Type 0
Suits m (Made round ops) = IsUnpublished m round
Suits m (Failed failed ops) = (entry : Entry) → Contains failed.round.entries entry → IsAskedFor (clients_of m) m.book entry
Suits m (SettledCall ops) = Unit {0}
Suits m (FailedSettlingCall ops) = Unit {0}

module _ {X : Type 0} (seen : X → EngineView) (kind : Kind) (start : EngineView) where
  abbrev Rule : State (Option X) (List PassView) → Type 0
  Rule = Keeps seen kind start

  -- what the rule says of the pass that holds the turn
  pub record HasTurn {s : State (Option X) (List PassView)} (r : Rule s) (v : PassView) (before : EngineView) : Type 0 where
    pub holding : is_holding v.body.stage ≡ true
    pub owner : r.m.owner ≡ Held v.client (side_of_operation (r.m.book v.client).ask.op)
    pub same : r.engine ≡ before
    pub holder : IsHolder r.m r.engine v

  pub has_turn : {s : State (Option X) (List PassView)} (r : Rule s) (id : ℕ) (v : PassView) (before : EngineView) → get_elem? s.views id ≡ some (v ∷ []) → v.hand ≡ Some before → HasTurn r v before
  has_turn {s} r id v before at hand = go (is_holding v.body.stage) refl
    where
      own : IsViewOf r.m r.engine v
      own = own_view seen kind start r id v at

      engine_of : Option EngineView → EngineView
      engine_of None = before
      engine_of (Some e) = e

      go : (b : Bool) → is_holding v.body.stage ≡ b → HasTurn r v before
      go false free =
          let nothing : HasNothing v = own.other free in
          absurd (none_some (sym nothing.hand ∙ hand))
        where
          none_some : None ≡ Some before → ⊥
          none_some e = cc
      go true holds =
          let holder : IsHolder r.m r.engine v = own.holder holds in
          record {
            holding = holds;
            owner = ((is_memory seen kind start r).clients v.client own.there).holding (ap (λ (b : Client). is_holding b.stage) (sym own.body) ∙ holds);
            same = same_some (sym holder.hand ∙ hand);
            holder = holder;
          }
        where
          same_some : Some r.engine ≡ Some before → r.engine ≡ before
          same_some e = cc

  module _ {s : State (Option X) (List PassView)} (r : Rule s) (c : ℕ) (there : c < clients_of r.m) (held : r.m.owner ≡ Held c (side_of_operation (r.m.book c).ask.op)) where
    is : IsMemory r.m
    is = is_memory seen kind start r

    abbrev side : ℕ
    side = side_of_operation (r.m.book c).ask.op

    scanning_filling : (stored : ℕ) → Scanning 0 AtNumber [] ≡ Filling stored → ⊥
    scanning_filling stored e = cc

    noting_filling : (from to stored : ℕ) → Noting from to ≡ Filling stored → ⊥
    noting_filling from to stored e = cc

    one_more_call : {now : EngineView} {rounds : History} {calls : List EngineCall} → HasCome start now rounds (length r.faults + 1) calls → HasCome start now rounds (suc (length r.faults)) calls
    one_more_call {now} {rounds} {calls} come =
        subst (λ (failures : ℕ). HasCome start now rounds failures calls) (omega arith) come

    -- what the engine was called for, with a call more
    one_called : (ahead : Option Round) (engine : Engine) (count : ℕ) (work : Work) (call : EngineCall) → (r.m.engine ≡ Recorded → ⊥) → AreMadeFor (r.tied.calls ++ call ∷ []) (failed_asks work (asked_by r.m.owner r.m.book) r.faults)
        → AreNextAtSettling start.standing (progress_of [] start) (r.tied.calls ++ call ∷ []) (failed_asks work (asked_by r.m.owner r.m.book) r.faults)
        → Suits (called_to r.m ahead engine count work) call → AreCalledFor start (called_to r.m ahead engine count work) r.faults (r.tied.calls ++ call ∷ [])
    one_called ahead engine count work call quiet failed next last = record {
      failed = failed;
      next = next;
      asked = asked_more new r.tied.calls call (λ failed ops same. subst (Suits new) same last) (asked_stay r.m new r.tied.calls refl (λ d. goes_nowhere (r.m.book d)) r.tied.called_for.asked);
      made = makers_more new r.tied.calls call (λ round ops same. inr (subst (Suits new) same last))
          (makers_stay r.m new r.tied.calls refl (λ d. goes_nowhere (r.m.book d)) (λ round unpublished. absurd (quiet unpublished.recorded)) r.tied.called_for.made);
    }
      where
        new : Memory
        new = called_to r.m ahead engine count work

    -- one call is one move
    one_call : (new : Memory) → HolderMove r.m c new → HasCoreRun start new
    one_call new move = moved_on r.run (called c there move)

    -- the device, while settling is due
    doubtful : r.m.work ≡ Settling → r.m.engine ≡ Doubtful
    doubtful at = work_suits Settling is held at

    settling_suits : r.m.work ≡ Settling → (r.engine.sure ≡ false) × (called_round r.engine.doubt ≡ r.m.ahead)
    settling_suits at =
        subst (λ (e : Engine). SuitsEngine e r.m.ahead r.engine) (doubtful at) r.tied.suits

    settling_known : r.m.work ≡ Settling → r.engine.standing ≡ shown r.m
    settling_known at =
        r.tied.standing ∙ ap (λ (e : Engine). known_by e r.m.ahead (shown r.m)) (doubtful at)

    settling_come : r.m.work ≡ Settling → HasCome start r.engine r.m.published (length r.faults) r.tied.calls
    settling_come at =
        subst (λ (e : Engine). HasCome start r.engine (recorded_by e r.m.ahead r.m.published) (length r.faults) r.tied.calls) (doubtful at)
        (subst (λ (w : Work). HasCome start r.engine (recorded_by r.m.engine r.m.ahead r.m.published) (failed_calls w r.faults) r.tied.calls) at r.tied.come)

    settling_for : r.m.work ≡ Settling → AreMadeFor r.tied.calls (fault_asks r.faults)
    settling_for at =
        subst (λ (w : Work). AreMadeFor r.tied.calls (failed_asks w (asked_by r.m.owner r.m.book) r.faults)) at r.tied.called_for.failed

    next_before : r.m.work ≡ Settling → AreNextAtSettling start.standing (progress_of [] start) r.tied.calls (fault_asks r.faults)
    next_before at =
        subst (λ (w : Work). AreNextAtSettling start.standing (progress_of [] start) r.tied.calls (failed_asks w (asked_by r.m.owner r.m.book) r.faults)) at r.tied.called_for.next

    -- the holder's request is its client's next one on what is recorded for sure
    own_next : r.m.work ≡ Settling → IsNextOn (state_after start.standing (after_calls (progress_of [] start) r.tied.calls).rounds) (asked_by r.m.owner r.m.book)
    own_next at =
        subst (λ (ask : Ask). IsNextOn (state_after start.standing (after_calls (progress_of [] start) r.tied.calls).rounds) ask) (ap (λ (o : Owner). asked_by o r.m.book) (sym held))
        (subst (λ (t : Standing). IsNextOn t (r.m.book c).ask) shown_is (held_next c side is there held))
      where
        recorded_is : (after_calls (progress_of [] start) r.tied.calls).rounds ≡ r.m.published
        recorded_is = ap (λ (p : Progress). p.rounds) (settling_come at).called.come

        shown_is : shown r.m ≡ state_after start.standing (after_calls (progress_of [] start) r.tied.calls).rounds
        shown_is = (λ i. state_after ((started r.run).0 i) ((started r.run).1 i ++ r.m.published)) ∙ ap (state_after start.standing) (sym recorded_is)

    quiet_at : r.m.work ≡ Settling → r.m.engine ≡ Recorded → ⊥
    quiet_at at recorded_is = not_doubtful (sym (doubtful at) ∙ recorded_is)

    prepare_untouched : (now : EngineView) (work : Work) → work ≡ r.m.work → now ≡ r.engine → IsPrepared kind start r.m r.faults r.engine now work
    prepare_untouched now work work_is now_is = subst (λ (w : Work). IsPrepared kind start r.m r.faults r.engine now w) (sym work_is) (record {
      ahead = r.m.ahead;
      engine = r.m.engine;
      count = r.m.count;
      run = r.run;
      tied = subst (λ (e : EngineView). IsTied kind start r.m e r.faults) (sym now_is) r.tied;
      fills = λ stored fills own is. own_at r.m.work (Filling stored) r.engine (length r.m.published) own r.m.start r.m.published r.m.ahead fills is;
      stays = λ never own is. is;
    })

    prepare_none : (now : EngineView) (work : Work) → IsEngine kind now → r.m.work ≡ Settling → was_called r.engine.doubt ≡ false → Settled r.engine now → work ≡ Scanning 0 AtNumber [] → IsPrepared kind start r.m r.faults r.engine now work
    prepare_none now work sound at uncalled settled work_is = subst (λ (w : Work). IsPrepared kind start r.m r.faults r.engine now w) (sym work_is) (record {
      ahead = r.m.ahead;
      engine = Resting;
      count = r.m.count;
      run = one_call _ (settling_none (record { side = side; holds = held; at = at; none = sym (settling_suits at).1 ∙ uncalled_none r.engine.doubt uncalled; is = refl }));
      tied = record {
        standing = settled.settled.standing ∙ (uncalled_standing r.engine.standing r.engine.doubt uncalled ∙ settling_known at);
        count = settled.settled.device.faults ∙ r.tied.count;
        suits = settled.settled.sure;
        calls = r.tied.calls ++ settled_call now ∷ [];
        come = subst (λ (h : History). HasCome start now h (length r.faults) (r.tied.calls ++ settled_call now ∷ [])) (uncalled_rounds r.m.published r.engine.doubt uncalled) (after_settled start r.engine now r.m.published (length r.faults) r.tied.calls (settling_come at) r.tied.sound.legal (settling_suits at).0 settled.settled settled.covers);
        called_for = one_called r.m.ahead Resting r.m.count (Scanning 0 AtNumber []) (settled_call now) (quiet_at at) (settling_for_none r.tied.calls (settle_to (header_for now.standing) now.standing) (fault_asks r.faults) (settling_for at)) (settling_next start.standing (progress_of [] start) r.tied.calls (settle_to (header_for now.standing) now.standing) (fault_asks r.faults) (settling_for at) (next_before at)) tt;
        sound = sound;
      };
      fills = λ stored fills. absurd (scanning_filling stored fills);
      stays = λ never own is. is;
    })

    prepare_round : (now : EngineView) (work : Work) → IsEngine kind now → r.m.work ≡ Settling → was_called r.engine.doubt ≡ true → Settled r.engine now → work ≡ Filling 0 → IsPrepared kind start r.m r.faults r.engine now work
    prepare_round now work sound at was settled work_is = subst (λ (w : Work). IsPrepared kind start r.m r.faults r.engine now w) (sym work_is) (record {
      ahead = r.m.ahead;
      engine = Recorded;
      count = r.m.count;
      run = one_call _ (settling_round (record { side = side; holds = held; round = doubt.round; at = at; some = ahead_is; is = refl }));
      tied = record {
        standing = settled.settled.standing ∙ (doubt.standing ∙ (λ i. with_round_ahead (sym ahead_is i) (settling_known at i)));
        count = settled.settled.device.faults ∙ r.tied.count;
        suits = settled.settled.sure;
        calls = r.tied.calls ++ settled_call now ∷ [];
        come = subst (λ (h : History). HasCome start now h (length r.faults) (r.tied.calls ++ settled_call now ∷ [])) (doubt.rounds_are ∙ ap (λ (a : Option Round). r.m.published ++ coming a) (sym ahead_is)) (after_settled start r.engine now r.m.published (length r.faults) r.tied.calls (settling_come at) r.tied.sound.legal (settling_suits at).0 settled.settled settled.covers);
        called_for = one_called r.m.ahead Recorded r.m.count (Filling 0) (settled_call now) (quiet_at at) (settling_for_none r.tied.calls (settle_to (header_for now.standing) now.standing) (fault_asks r.faults) (settling_for at)) (settling_next start.standing (progress_of [] start) r.tied.calls (settle_to (header_for now.standing) now.standing) (fault_asks r.faults) (settling_for at) (next_before at)) tt;
        sound = sound;
      };
      fills = λ stored fills own is. own_at r.m.work Settling r.engine (length r.m.published) own r.m.start r.m.published r.m.ahead at tt;
      stays = λ never. absurd (never 0 refl);
    })
      where
        doubt : IsCalled r.engine.standing r.m.published r.engine.doubt
        doubt = called_some r.engine.standing r.m.published r.engine.doubt was

        ahead_is : r.m.ahead ≡ Some doubt.round
        ahead_is = sym (settling_suits at).1 ∙ doubt.is

    prepare_failed_settling : (fault : DeviceFault) (now : EngineView) (work : Work) → IsEngine kind now → r.m.work ≡ Settling → FailedSettling fault r.engine now → work ≡ Noting r.engine.device.faults now.device.faults → IsPrepared kind start r.m r.faults r.engine now work
    prepare_failed_settling fault now work sound at failed work_is = subst (λ (w : Work). IsPrepared kind start r.m r.faults r.engine now w) (sym (work_is ∙ ap (λ (n : ℕ). Noting n now.device.faults) r.tied.count)) (record {
      ahead = r.m.ahead;
      engine = r.m.engine;
      count = now.device.faults;
      run = one_call _ (failing_settling (record { side = side; holds = held; to = now.device.faults; at = at; rose = subst (λ (n : ℕ). Rose n now.device.faults) r.tied.count failed.failed.device.stops.rose; is = refl }));
      tied = record {
        standing = failed.failed.standing ∙ r.tied.standing;
        count = refl;
        suits = subst (λ (e : Engine). SuitsEngine e r.m.ahead now) (sym (doubtful at)) (failed.failed.unsure.sure, ap called_round failed.failed.doubt ∙ (settling_suits at).1);
        calls = r.tied.calls ++ FailedSettlingCall failed.failed.device.stops.ops ∷ [];
        come = subst (λ (e : Engine). HasCome start now (recorded_by e r.m.ahead r.m.published) (suc (length r.faults)) (r.tied.calls ++ FailedSettlingCall failed.failed.device.stops.ops ∷ [])) (sym (doubtful at)) (one_more_call (after_settling_failed start r.engine now r.m.published (length r.faults) r.tied.calls fault (settling_come at) (settling_suits at).0 failed.failed failed.covers));
        called_for = one_called r.m.ahead r.m.engine now.device.faults (Noting r.m.count now.device.faults) (FailedSettlingCall failed.failed.device.stops.ops) (quiet_at at) (failed_settling_for r.tied.calls failed.failed.device.stops.ops (fault_asks r.faults) (asked_by r.m.owner r.m.book) (settling_for at)) (failed_settling_next start.standing (progress_of [] start) r.tied.calls failed.failed.device.stops.ops (fault_asks r.faults) (asked_by r.m.owner r.m.book) (own_next at) (settling_for at) (next_before at)) tt;
        sound = sound;
      };
      fills = λ stored fills. absurd (noting_filling r.m.count now.device.faults stored fills);
      stays = λ never own is. is;
    })

    -- A round

    module _ (asks : List Ask) (at : r.m.work ≡ Scanning (clients_of r.m) AtNumber asks) where
      scan : IsScan (shown r.m) c side r.m.start.clients r.m.requests (clients_of r.m) AtNumber asks
      scan = the_scan (clients_of r.m) AtNumber asks is held at

      resting : (r.m.engine ≡ Resting) × (r.m.ahead ≡ None)
      resting = work_suits (Scanning (clients_of r.m) AtNumber asks) is held at

      sure : r.engine.sure ≡ true
      sure = subst (λ (e : Engine). SuitsEngine e r.m.ahead r.engine) resting.0 r.tied.suits

      decided : r.engine.doubt ≡ None
      decided = r.tied.sound.decided sure

      scan_known : r.engine.standing ≡ shown r.m
      scan_known = r.tied.standing ∙ known_shown (clients_of r.m) AtNumber asks is held at

      scan_come : HasCome start r.engine r.m.published (length r.faults) r.tied.calls
      scan_come =
          subst (λ (e : Engine). HasCome start r.engine (recorded_by e r.m.ahead r.m.published) (length r.faults) r.tied.calls) resting.0
          (subst (λ (w : Work). HasCome start r.engine (recorded_by r.m.engine r.m.ahead r.m.published) (failed_calls w r.faults) r.tied.calls) at r.tied.come)

      scan_for : AreMadeFor r.tied.calls (fault_asks r.faults)
      scan_for =
          subst (λ (w : Work). AreMadeFor r.tied.calls (failed_asks w (asked_by r.m.owner r.m.book) r.faults)) at r.tied.called_for.failed

      scan_next : AreNextAtSettling start.standing (progress_of [] start) r.tied.calls (fault_asks r.faults)
      scan_next =
          subst (λ (w : Work). AreNextAtSettling start.standing (progress_of [] start) r.tied.calls (failed_asks w (asked_by r.m.owner r.m.book) r.faults)) at r.tied.called_for.next

      quiet : r.m.engine ≡ Recorded → ⊥
      quiet recorded_is = not_resting (sym resting.0 ∙ recorded_is)

      abbrev begun_to : Memory
      begun_to = record r.m { ahead = Some (round_by side (known_standing r.m) asks); work = Calling; engine = Writing }

      abbrev begins : Begins r.m c begun_to
      begins = record { side = side; holds = held; seen = asks; at = at; is = refl }

      begun_run : HasCoreRun start begun_to
      begun_run = one_call begun_to (beginning begins)

      round_is : asked_round r.engine.standing asks ≡ round_by side (known_standing r.m) asks
      round_is =
          round_same (shown r.m) side 0 r.m.start.clients r.m.requests asks (meets_some c asks (scan.own there)) scan.seen_are r.engine.standing ∙ ap (λ (t : Standing). round_by side t asks) r.tied.standing

      own_ahead : IsAhead r.m.start r.m.published (Some (round_by side (known_standing r.m) asks)) (record { number = suc (length r.m.published); entries = (asked_round r.engine.standing asks).entries; kept = numbers_of r.engine.standing })
      own_ahead = record {
        number = refl;
        round = round_by side (known_standing r.m) asks;
        ahead_is = refl;
        entries = ap (λ (round : Round). round.entries) round_is;
        kept = ap numbers_of (scan_known ∙ ap (λ (past : History). state_after r.m.start (past ++ r.m.published)) (started r.run).1);
      }

      -- the holder's own request is in it
      own_request : HasRequest (asked_round r.engine.standing asks) (asked_by r.m.owner r.m.book)
      own_request =
          subst (λ (round : Round). HasRequest round (asked_by r.m.owner r.m.book)) (sym round_is)
          (subst (HasRequest (round_by side (known_standing r.m) asks)) (ap (λ (o : Owner). asked_by o r.m.book) (sym held))
          (scanned_request {m = begun_to} c (round_by side (known_standing r.m) asks) (known_standing r.m) asks (memory_of r.kept begun_run) there refl refl (scan.own there)))

      -- and all that is in it was asked for
      all_asked : (entry : Entry) → Contains (asked_round r.engine.standing asks).entries entry → IsAskedFor (clients_of r.m) r.m.book entry
      all_asked entry one =
          ahead_asked {m = begun_to} (round_by side (known_standing r.m) asks) (memory_of r.kept begun_run) refl entry (subst (λ (round : Round). Contains round.entries entry) round_is one)

      prepare_recorded : (now : EngineView) (work : Work) → IsEngine kind now → MadeRound asks r.engine now → work ≡ Filling 0 → IsPrepared kind start r.m r.faults r.engine now work
      prepare_recorded now work sound made work_is = subst (λ (w : Work). IsPrepared kind start r.m r.faults r.engine now w) (sym work_is) (record {
        ahead = Some (round_by side (known_standing r.m) asks);
        engine = Recorded;
        count = r.m.count;
        run = moved_on begun_run (called c there (recording (record { side = side; holds = held; at = refl; is = refl })));
        tied = record {
          standing = made.made.standing ∙ (λ i. after_round (scan_known i) (round_is i));
          count = made.made.device.faults ∙ r.tied.count;
          suits = made.made.sure;
          calls = r.tied.calls ++ Made (asked_round r.engine.standing asks) (round_ops r.engine (asked_round r.engine.standing asks) made.made.lines) ∷ [];
          come = subst (λ (round : Round). HasCome start now (r.m.published ++ round ∷ []) (length r.faults) (r.tied.calls ++ Made (asked_round r.engine.standing asks) (round_ops r.engine (asked_round r.engine.standing asks) made.made.lines) ∷ [])) round_is (after_round_made start r.engine now r.m.published (length r.faults) r.tied.calls (asked_round r.engine.standing asks) scan_come sure decided made.made made.covers);
          called_for = one_called (Some (round_by side (known_standing r.m) asks)) Recorded r.m.count (Filling 0) (Made (asked_round r.engine.standing asks) (round_ops r.engine (asked_round r.engine.standing asks) made.made.lines)) quiet (round_for_none r.tied.calls (asked_round r.engine.standing asks) (round_ops r.engine (asked_round r.engine.standing asks) made.made.lines) (fault_asks r.faults) scan_for) (round_next start.standing (progress_of [] start) r.tied.calls (asked_round r.engine.standing asks) (round_ops r.engine (asked_round r.engine.standing asks) made.made.lines) (fault_asks r.faults) scan_for scan_next)
              (record { recorded = refl; ahead = ap Some (sym round_is); own = own_request });
          sound = sound;
        };
        fills = λ stored fills own is. own_at r.m.work (Scanning (clients_of r.m) AtNumber asks) r.engine (length r.m.published) own r.m.start r.m.published (Some (round_by side (known_standing r.m) asks)) at own_ahead;
        stays = λ never. absurd (never 0 refl);
      })

      prepare_failed : (fault : DeviceFault) (now : EngineView) (work : Work) → IsEngine kind now → FailedMaking asks fault r.engine now → work ≡ Noting r.engine.device.faults now.device.faults → IsPrepared kind start r.m r.faults r.engine now work
      prepare_failed fault now work sound failed work_is =
          subst (λ (w : Work). IsPrepared kind start r.m r.faults r.engine now w) (sym (work_is ∙ ap (λ (n : ℕ). Noting n now.device.faults) r.tied.count)) (go failed.failed.called refl)
        where
          rose : Rose r.m.count now.device.faults
          rose = subst (λ (n : ℕ). Rose n now.device.faults) r.tied.count failed.failed.device.stops.rose

          call : EngineCall
          call = Failed (record { round = asked_round r.engine.standing asks; called = failed.failed.called }) failed.failed.device.stops.ops

          come : HasCome start now r.m.published (suc (length r.faults)) (r.tied.calls ++ Failed (record { round = asked_round r.engine.standing asks; called = failed.failed.called }) failed.failed.device.stops.ops ∷ [])
          come = one_more_call (after_round_failed start r.engine now r.m.published (length r.faults) r.tied.calls (asked_round r.engine.standing asks) fault scan_come sure decided failed.failed failed.covers)

          failed_is : (ahead : Option Round) → AreCalledFor start (called_to r.m ahead Doubtful now.device.faults (Noting r.m.count now.device.faults)) r.faults (r.tied.calls ++ Failed (record { round = asked_round r.engine.standing asks; called = failed.failed.called }) failed.failed.device.stops.ops ∷ [])
          failed_is ahead = one_called ahead Doubtful now.device.faults (Noting r.m.count now.device.faults) call quiet (failed_for r.tied.calls (record { round = asked_round r.engine.standing asks; called = failed.failed.called }) failed.failed.device.stops.ops (fault_asks r.faults) (asked_by r.m.owner r.m.book) own_request scan_for) (failed_next start.standing (progress_of [] start) r.tied.calls (record { round = asked_round r.engine.standing asks; called = failed.failed.called }) failed.failed.device.stops.ops (fault_asks r.faults) (asked_by r.m.owner r.m.book) scan_for scan_next) all_asked

          doubt_is : (b : Bool) → failed.failed.called ≡ b → called_round now.doubt ≡ called_if b (asked_round r.engine.standing asks)
          doubt_is b e = ap called_round failed.failed.doubt ∙ ap (λ (x : Bool). called_if x (asked_round r.engine.standing asks)) e

          go : (b : Bool) → failed.failed.called ≡ b → IsPrepared kind start r.m r.faults r.engine now (Noting r.m.count now.device.faults)
          go false e = record {
            ahead = None;
            engine = Doubtful;
            count = now.device.faults;
            run = moved_on begun_run (called c there (failing_before (record { side = side; holds = held; to = now.device.faults; at = refl; rose = rose; is = refl })));
            tied = record {
              standing = failed.failed.standing ∙ scan_known;
              count = refl;
              suits = (failed.failed.unsure.sure, doubt_is false e);
              calls = r.tied.calls ++ call ∷ [];
              come = come;
              called_for = failed_is None;
              sound = sound;
            };
            fills = λ stored fills. absurd (noting_filling r.m.count now.device.faults stored fills);
            stays = λ never own is. none_ahead r.m.start r.m.published r.m.ahead _ own resting.1 is;
          }
          go true e = record {
            ahead = Some (round_by side (known_standing r.m) asks);
            engine = Doubtful;
            count = now.device.faults;
            run = moved_on begun_run (called c there (failing_after (record { side = side; holds = held; to = now.device.faults; at = refl; rose = rose; is = refl })));
            tied = record {
              standing = failed.failed.standing ∙ scan_known;
              count = refl;
              suits = (failed.failed.unsure.sure, doubt_is true e ∙ ap Some round_is);
              calls = r.tied.calls ++ call ∷ [];
              come = come;
              called_for = failed_is (Some (round_by side (known_standing r.m) asks));
              sound = sound;
            };
            fills = λ stored fills. absurd (noting_filling r.m.count now.device.faults stored fills);
            stays = λ never own is. none_ahead r.m.start r.m.published r.m.ahead _ own resting.1 is;
          }

    -- whatever it called, memory is prepared
    pub prepares : (clients : ℕ) (now : EngineView) (work : Work) → IsEngine kind now → clients ≡ clients_of r.m → Ready clients r.m.work r.engine now work → IsPrepared kind start r.m r.faults r.engine now work
    prepares clients now work sound same (untouched work_is now_is) =
        prepare_untouched now work work_is now_is
    prepares clients now work sound same (settled_none at uncalled settled work_is) =
        prepare_none now work sound at uncalled settled work_is
    prepares clients now work sound same (settled_round at was settled work_is) =
        prepare_round now work sound at was settled work_is
    prepares clients now work sound same (recorded asks at made work_is) =
        prepare_recorded asks (at ∙ ap (λ (n : ℕ). Scanning n AtNumber asks) same) now work sound made work_is
    prepares clients now work sound same (failed_settling fault at failed work_is) =
        prepare_failed_settling fault now work sound at failed work_is
    prepares clients now work sound same (failed_round asks fault at failed work_is) =
        prepare_failed asks (at ∙ ap (λ (n : ℕ). Scanning n AtNumber asks) same) fault now work sound failed work_is
