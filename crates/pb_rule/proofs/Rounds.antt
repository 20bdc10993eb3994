-- The round of a scan, as the core has it and as an engine has it.
use Rattle.std.proofs.Common.{◌≡◌, ◌≢◌, ℕ, suc, List, [], ◌∷◌, sym, refl, ap, ◌∙◌, subst, arith}
use Rattle.std.specs.List.{All, AllByRecursion}
use Rattle.std.proofs.lemmas.List.Elements.{All-from_recursion}
use Rattle.pb_object.specs.declared.request.Ask.{Ask}
use Rattle.pb_object.specs.History.{Entry, after_entry}
use Rattle.pb_object.specs.Object.{reply_of}
use Rattle.pb_object.specs.Standing.{Standing}
use Rattle.pb_core.specs.Client.{entry_by}
use Rattle.pb_core.specs.HolderMoves.{entries_by, round_by}
use Rattle.pb_core.specs.Laws.{AreDue}
use Rattle.pb_core.specs.MemoryParts.{AreSeen, Meets}
use Rattle.pb_core.proofs.Scans.{meets_some}
use Rattle.pb_engine.specs.Asks.{side_asked, IsNextAsk, AskersRise, MayBeServed, answered_from, asked_round}
use Rattle.pb_engine.proofs.Served.{answered_from-none, answered_from-more}

entries_same : (s : Standing) (asks : List Ask) → answered_from s.state asks ≡ entries_by s asks
entries_same s [] = answered_from-none s.state
entries_same s (ask ∷ asks) =
    answered_from-more s.state ask asks ∙ ap (λ (es : List Entry). entry_by ask (reply_of s.state ask.op) ∷ es) (entries_same (after_entry s (entry_by ask (reply_of s.state ask.op))) asks)

side_same : (s : Standing) (side low high : ℕ) (requests : ℕ → ℕ → ℕ) (asks : List Ask) → asks ≢ [] → AreSeen s side requests low high asks → side_asked asks ≡ side
side_same s side low high requests [] some seen = absurd (some refl)
side_same s side low high requests (ask ∷ asks) some seen = seen.2.side_is

pub round_same : (s : Standing) (side low high : ℕ) (requests : ℕ → ℕ → ℕ) (asks : List Ask) → asks ≢ [] → AreSeen s side requests low high asks → (t : Standing) → asked_round t asks ≡ round_by side t asks
round_same s side low high requests asks some seen t =
    λ i. record { side = side_same s side low high requests asks some seen i; entries = entries_same t asks i }

rising : (s : Standing) (side low : ℕ) (asks : List Ask) → AreDue s side low asks → AskersRise asks
rising s side low [] due = tt
rising s side low (ask ∷ []) due = tt
rising s side low (first ∷ second ∷ asks) due =
    (omega (arith, due.2.0), rising s side (suc first.client) (second ∷ asks) due.2)

next_each : (s : Standing) (side low : ℕ) (asks : List Ask) → AreDue s side low asks → AllByRecursion (IsNextAsk s side) asks
next_each s side low [] due = tt
next_each s side low (ask ∷ asks) due = (
  record { client = due.1.there; number = due.1.number; few = due.1.few; operation = due.1.operation; of_side = due.1.side_is },
  next_each s side (suc ask.client) asks due.2,
)

-- requests that are due, the holder's own among them, may be served in one round
pub may_be_served : (s : Standing) (side c : ℕ) (asks : List Ask) → side_asked asks ≡ side → Meets c asks → AreDue s side 0 asks → MayBeServed s asks
may_be_served s side c asks same met due = record {
  some = meets_some c asks met;
  rising = rising s side 0 asks due;
  next = subst (λ (k : ℕ). All (IsNextAsk s k) asks) (sym same) (All-from_recursion (IsNextAsk s side) asks (next_each s side 0 asks due));
}

pub seen_side : (s : Standing) (side low high : ℕ) (requests : ℕ → ℕ → ℕ) (c : ℕ) (asks : List Ask) → Meets c asks → AreSeen s side requests low high asks → side_asked asks ≡ side
seen_side s side low high requests c asks met seen =
    side_same s side low high requests asks (meets_some c asks met) seen
