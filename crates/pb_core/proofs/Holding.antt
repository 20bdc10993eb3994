-- What comes of the holder's calls of the device.
use Rattle.std.proofs.Common.{◌≡◌, ℕ, suc, ◌<◌, ◌≤◌, List, [], ◌∷◌, ◌++◌, length, Option, Some, None, IsSome, ap, subst, sym, refl, ◌∙◌, inl, inr, arith}
use Rattle.pb_object.specs.declared.kind.Kind.{Kind}
use Rattle.pb_object.specs.declared.request.Ask.{Ask}
use Rattle.pb_object.specs.declared.request.Kept.{Kept}
use Rattle.pb_object.specs.declared.request.TheConstants.{LAST_NUMBER}
use Rattle.pb_object.specs.History.{Round, History, IsLegalRound}
use Rattle.pb_object.specs.Request.{IsOperation}
use Rattle.pb_object.specs.Standing.{Standing, kept_list_of}
use Rattle.pb_pmem.specs.Count.{Rose}
use Rattle.pb_core.specs.Client.{Client}
use Rattle.pb_core.specs.HolderMoves.{round_by, Begins, Records, SettlesNone, SettlesRound, FailsSettling, FailsBefore, FailsAfter, HolderMove, beginning, recording, settling_none, settling_round, failing_settling, failing_before, failing_after}
use Rattle.pb_core.specs.Laws.{AreDue}
use Rattle.pb_core.specs.Memory.{Owner, Held, AtNumber, Work, Settling, Scanning, Calling, Filling, Noting, Engine, Resting, Recorded, Writing, Doubtful, Memory, shown, known_standing}
use Rattle.pb_core.specs.MemoryParts.{IsClient, HasEntries, IsAsking, AreSeen, Meets, IsScan, HasScan, IsMemory, SuitsWork, Suits, HasCause, HasFilled}
use Rattle.pb_core.proofs.Beginning.{IsOpen, seen_open, due-round, of_side, served_still, begins_client}
use Rattle.pb_core.proofs.Histories.{HasShape, shape_after}
use Rattle.pb_core.proofs.Scans.{the_scan, known_shown, meets_some}
use Rattle.pb_core.proofs.Turns.{work_suits}

-- The round of a scan

-- what was seen is due
due_of : {m : Memory} (side low : ℕ) (asks : List Ask) → IsMemory m → AreSeen (shown m) side m.requests low m.start.clients asks → AreDue (shown m) side low asks
due_of {m} side low [] is seen = tt
due_of {m} side low (ask ∷ asks) is seen = (
  seen.0,
  record {
    there = omega (arith, seen.1, shape.clients);
    number = seen.2.due;
    few = subst (λ (a : Ask). a.number ≤ LAST_NUMBER) (sym request.same) asking.few;
    operation = operation;
    side_is = of_side (shown m).kind ask.op side operation seen.2.side_is;
  },
  due_of side (suc ask.client) asks is seen.3,
)
  where
    shape : HasShape m.start (shown m)
    shape = shape_after m.start (m.past ++ m.published)

    request : IsOpen ask (m.book ask.client)
    request = seen_open ask (is.clients ask.client seen.1) refl seen.2.words seen.2.due

    asking : IsAsking m.start.kind ask.client (m.book ask.client)
    asking = (is.clients ask.client seen.1).asking request.busy

    operation : IsOperation (shown m).kind ask.op
    operation = subst (λ (k : Kind). IsOperation k ask.op) (sym shape.kind) (subst (λ (a : Ask). IsOperation m.start.kind a.op) (sym request.same) asking.operation)

-- a scan that is over saw a legal round: its requests are those that are due, and the holder's own is among them
pub begins_legal : {old new : Memory} {c : ℕ} → IsMemory old → c < old.start.clients → (move : Begins old c new) → IsLegalRound (shown old) (round_by move.side (shown old) move.seen)
begins_legal {old} {new} {c} is there move =
    due-round (shown old) move.side move.seen (meets_some c move.seen (scan.own there)) (due_of move.side 0 move.seen is scan.seen_are)
  where
    scan : IsScan (shown old) c move.side old.start.clients old.requests old.start.clients AtNumber move.seen
    scan = the_scan old.start.clients AtNumber move.seen is move.holds move.at

-- each of its requests is due
pub begins_due : {old new : Memory} {c : ℕ} → IsMemory old → (move : Begins old c new) → AreDue (shown old) move.side 0 move.seen
begins_due {old} is move =
    due_of move.side 0 move.seen is (the_scan old.start.clients AtNumber move.seen is move.holds move.at).seen_are

-- and the holder's own request is among them
pub begins_own : {old new : Memory} {c : ℕ} → IsMemory old → c < old.start.clients → (move : Begins old c new) → Meets c move.seen
begins_own {old} is there move = (the_scan old.start.clients AtNumber move.seen is move.holds move.at).own there

keeps-beginning : {old new : Memory} {c : ℕ} → IsMemory old → c < old.start.clients → Begins old c new → IsMemory new
keeps-beginning {old} {new} {c} is there move = subst IsMemory (sym (move.is ∙ as_shown)) (record {
  history = record { keeps = is.history.keeps; legal = is.history.legal; next = begins_legal is there move };
  turn = is.turn;
  suits = subst (λ (o : Owner). Suits o Calling Writing (Some round)) (sym move.holds) (refl, refl);
  low = is.low;
  cause = tt;
  clients = λ d inside. begins_client (shown old) move.side old.requests old.start.clients move.seen (subst (λ (a : Option Round). IsClient old.start.kind (kept_list_of (shown old) d) old.published a old.owner (old.requests d) d (old.book d)) none (is.clients d inside)) scan.seen_are;
  rows = is.rows;
  filled = tt;
  scan = subst (λ (o : Owner). HasScan o Calling (shown old) old.start.clients old.requests) (sym move.holds) tt;
  answers_are = is.answers_are;
})
  where
    round : Round
    round = round_by move.side (shown old) move.seen

    none : old.ahead ≡ None
    none = (work_suits (Scanning old.start.clients AtNumber move.seen) is move.holds move.at).1

    scan : IsScan (shown old) c move.side old.start.clients old.requests old.start.clients AtNumber move.seen
    scan = the_scan old.start.clients AtNumber move.seen is move.holds move.at

    as_shown : record old { ahead = Some (round_by move.side (known_standing old) move.seen); work = Calling; engine = Writing } ≡ record old { ahead = Some round; work = Calling; engine = Writing }
    as_shown =
        ap (λ (s : Standing). record old { ahead = Some (round_by move.side s move.seen); work = Calling; engine = Writing }) (known_shown old.start.clients AtNumber move.seen is move.holds move.at)

-- Recording and settling

-- the holder goes on to something, and what is known_standing of the device changes
hold_on : {m : Memory} {c side : ℕ} (work : Work) (engine : Engine) → IsMemory m → m.owner ≡ Held c side → SuitsWork work engine m.ahead → HasCause work m.noted m.count → HasFilled work (known_standing (record m { engine = engine })) m.start.clients (length m.published) m.rows → HasScan (Held c side) work (shown m) m.start.clients m.requests → IsMemory (record m { work = work; engine = engine })
hold_on {m} {c} {side} work engine is holds suits cause filled scan = record {
  history = is.history;
  turn = is.turn;
  suits = subst (λ (o : Owner). Suits o work engine m.ahead) (sym holds) suits;
  low = is.low;
  cause = cause;
  clients = is.clients;
  rows = is.rows;
  filled = filled;
  scan = subst (λ (o : Owner). HasScan o work (shown m) m.start.clients m.requests) (sym holds) scan;
  answers_are = is.answers_are;
}

keeps-recording : {old new : Memory} {c : ℕ} → IsMemory old → Records old c new → IsMemory new
keeps-recording {old} {new} {c} is move =
    subst IsMemory (sym move.is) (hold_on (Filling 0) Recorded is move.holds (refl, (work_suits Calling is move.holds move.at).1) tt (record { few = omega arith; stored = λ d place few below. absurd (omega arith) }) tt)

keeps-settling_none : {old new : Memory} {c : ℕ} → IsMemory old → SettlesNone old c new → IsMemory new
keeps-settling_none {old} {new} {c} is move =
    subst IsMemory (sym move.is) (hold_on (Scanning 0 AtNumber []) Resting is move.holds (refl, move.none) tt tt (record { within = omega arith; part_is = tt; seen_are = tt; own = λ below. absurd (omega arith) }))

keeps-settling_round : {old new : Memory} {c : ℕ} → IsMemory old → SettlesRound old c new → IsMemory new
keeps-settling_round {old} {new} {c} is move =
    subst IsMemory (sym move.is) (hold_on (Filling 0) Recorded is move.holds (refl, subst IsSome (sym move.some) refl) tt (record { few = omega arith; stored = λ d place few below. absurd (omega arith) }) tt)

-- Failing

rose_up : (before now : ℕ) → Rose before now → before ≤ now
rose_up before now (inl up) = omega (arith, up)
rose_up before now (inr last) = omega (arith, last.0, last.1)

-- the count rose, and the holder is to note it
fault : {m : Memory} {c side : ℕ} (to : ℕ) → IsMemory m → m.owner ≡ Held c side → Rose m.count to → IsMemory (record m { count = to; work = Noting m.count to; engine = Doubtful })
fault {m} {c} {side} to is holds rose = record {
  history = is.history;
  turn = is.turn;
  suits = subst (λ (o : Owner). Suits o (Noting m.count to) Doubtful m.ahead) (sym holds) refl;
  low = omega (arith, is.low, rose_up m.count to rose);
  cause = (rose, is.low, refl);
  clients = is.clients;
  rows = is.rows;
  filled = tt;
  scan = subst (λ (o : Owner). HasScan o (Noting m.count to) (shown m) m.start.clients m.requests) (sym holds) tt;
  answers_are = is.answers_are;
}

keeps-failing_settling : {old new : Memory} {c : ℕ} → IsMemory old → FailsSettling old c new → IsMemory new
keeps-failing_settling {old} {new} {c} is move =
    subst IsMemory (sym move.is) (subst (λ (e : Engine). IsMemory (record old { count = move.to; work = Noting old.count move.to; engine = e })) (sym (work_suits Settling is move.holds move.at)) (fault move.to is move.holds move.rose))

keeps-failing_after : {old new : Memory} {c : ℕ} → IsMemory old → FailsAfter old c new → IsMemory new
keeps-failing_after {old} {new} {c} is move =
    subst IsMemory (sym move.is) (fault move.to is move.holds move.rose)

-- nothing is ahead any more
drops_entries : {c : ℕ} {published : History} {ahead : Option Round} {list : List Kept} {b : Client} → HasEntries c published ahead list b → HasEntries c published None list b
drops_entries (inl clear) = inl (record { told = clear.told; none = refl; kept = clear.kept })
drops_entries (inr (inl coming)) = inl (record { told = coming.told; none = refl; kept = coming.kept })
drops_entries (inr (inr served)) = inr (inr (served_still None refl served))

drops_client : {kind : Kind} {list : List Kept} {published : History} {ahead : Option Round} {owner : Owner} {words : ℕ → ℕ} {c : ℕ} {b : Client} → IsClient kind list published ahead owner words c b → IsClient kind list published None owner words c b
drops_client is = record {
  holding = is.holding;
  holder = is.holder;
  rests = is.rests;
  asking = is.asking;
  has_words = is.has_words;
  front = is.front;
  read = is.read;
  entries = drops_entries is.entries;
  dates = is.dates;
}

keeps-failing_before : {old new : Memory} {c : ℕ} → IsMemory old → FailsBefore old c new → IsMemory new
keeps-failing_before {old} {new} {c} is move =
    let after = fault move.to is move.holds move.rose in
    subst IsMemory (sym move.is) (record {
      history = record { keeps = is.history.keeps; legal = is.history.legal; next = tt };
      turn = is.turn;
      suits = subst (λ (o : Owner). Suits o (Noting old.count move.to) Doubtful None) (sym move.holds) refl;
      low = after.low;
      cause = after.cause;
      clients = λ d inside. drops_client (is.clients d inside);
      rows = is.rows;
      filled = tt;
      scan = after.scan;
      answers_are = is.answers_are;
    })

-- All of them

pub keeps-holder : {old new : Memory} {c : ℕ} → IsMemory old → c < old.start.clients → HolderMove old c new → IsMemory new
keeps-holder is there (beginning move) = keeps-beginning is there move
keeps-holder is there (recording move) = keeps-recording is move
keeps-holder is there (settling_none move) = keeps-settling_none is move
keeps-holder is there (settling_round move) = keeps-settling_round is move
keeps-holder is there (failing_settling move) = keeps-failing_settling is move
keeps-holder is there (failing_before move) = keeps-failing_before is move
keeps-holder is there (failing_after move) = keeps-failing_after is move
