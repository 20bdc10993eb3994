-- Requests that may be served in one round, looked at one after the other.
use Rattle.std.proofs.Common.{◌≡◌, ◌≢◌, ℕ, suc, ◌+◌, ◌<◌, ◌≤◌, List, [], ◌∷◌, ◌++◌, length, take, get_or, Option, Some, None, refl, sym, ap, subst, ◌∙◌, arith}
use Rattle.std.specs.Prelude.{IsSomeAnd, unwrap_or, option_map}
use Rattle.std.specs.List.{All}
use Rattle.std.proofs.Math.Seq.{take-suc}
use Rattle.std.proofs.lemmas.List.Elements.{All-nil, All-cons, All-head, All-append}
use Rattle.pb_object.specs.declared.codes.Action.{Action}
use Rattle.pb_object.specs.declared.request.Ask.{Ask}
use Rattle.pb_object.specs.declared.request.Op.{Op}
use Rattle.pb_object.specs.Codes.{action_of, action_side}
use Rattle.pb_object.specs.History.{IsOfSide}
use Rattle.pb_object.specs.Request.{side_of_op}
use Rattle.pb_object.specs.Standing.{Standing}
use Rattle.pb_engine.specs.Asks.{IsNextAsk, AskersRise, MayBeServed, side_asked}

-- askers that rise, all below a client
abbrev pub RiseTo : ℕ → List Ask → Type 0
RiseTo floor [] = Unit {0}
RiseTo floor (ask ∷ []) = ask.client < floor
RiseTo floor (first ∷ second ∷ asks) = (first.client < second.client) × RiseTo floor (second ∷ asks)

-- what is known of the requests so far
pub record AreNext (s : Standing) (side floor : ℕ) (asks : List Ask) : Type 0 where
  pub rising : RiseTo floor asks
  pub next : All (IsNextAsk s side) asks

pub rises : (floor : ℕ) (asks : List Ask) → RiseTo floor asks → AskersRise asks
rises floor [] rise = tt
rises floor (ask ∷ []) rise = tt
rises floor (first ∷ second ∷ asks) rise = (rise.0, rises floor (second ∷ asks) rise.1)

rise_more : (floor : ℕ) (asks : List Ask) (ask : Ask) → RiseTo floor asks → floor ≤ ask.client → RiseTo (ask.client + 1) (asks ++ ask ∷ [])
rise_more floor [] ask rise above = omega arith
rise_more floor (first ∷ []) ask rise above = (omega (arith, rise, above), omega arith)
rise_more floor (first ∷ second ∷ asks) ask rise above = (rise.0, rise_more floor (second ∷ asks) ask rise.1 above)

pub none_next : (s : Standing) (side : ℕ) (asks : List Ask) → AreNext s side 0 (take 0 asks)
none_next s side asks = record { rising = tt; next = All-nil (IsNextAsk s side) }

one_more : (asks : List Ask) (at : ℕ) (d : Ask) → at < length asks → take (at + 1) asks ≡ take at asks ++ get_or asks at d ∷ []
one_more asks at d below =
    let next : at + 1 ≡ suc at = omega arith in
    ap (λ (n : ℕ). take n asks) next ∙ take-suc asks at d below

pub more_next : (s : Standing) (side floor : ℕ) (asks : List Ask) (at : ℕ) (d : Ask) → at < length asks → AreNext s side floor (take at asks) → floor ≤ (get_or asks at d).client → IsNextAsk s side (get_or asks at d)
    → AreNext s side ((get_or asks at d).client + 1) (take (at + 1) asks)
more_next s side floor asks at d below are above is =
    subst (AreNext s side ((get_or asks at d).client + 1)) (sym (one_more asks at d below)) (record {
      rising = rise_more floor (take at asks) (get_or asks at d) are.rising above;
      next = All-append (IsNextAsk s side) (take at asks) (get_or asks at d ∷ []) are.next (All-cons (IsNextAsk s side) (get_or asks at d) [] is (All-nil (IsNextAsk s side)));
    })

on_side : (side : ℕ) (op : Op) → IsOfSide side op → side_of_op op ≡ side
on_side side op is = elim (action_of op.code) as (λ (action : Option Action). IsSomeAnd action (λ a. action_side a ≡ side) → unwrap_or (option_map action_side action) 0 ≡ side) [
  | Some action ↦ λ x. x
  | None ↦ λ x. absurd x
] is

side_is : (s : Standing) (side : ℕ) (asks : List Ask) → asks ≢ [] → All (IsNextAsk s side) asks → side_asked asks ≡ side
side_is s side [] some next = absurd (some refl)
side_is s side (ask ∷ asks) some next = on_side side ask.op (All-head (IsNextAsk s side) ask asks next).of_side

pub next_may : (s : Standing) (side : ℕ) (asks : List Ask) → asks ≢ [] → AskersRise asks → All (IsNextAsk s side) asks → MayBeServed s asks
next_may s side asks some rising next = record {
  some = some;
  rising = rising;
  next = subst (λ (of : ℕ). All (IsNextAsk s of) asks) (sym (side_is s side asks some next)) next;
}
