-- What a call said to be applied stays so, call after call.
use Rattle.std.proofs.Common.{◌≡◌, ℕ, ◌≤◌, List, [], ◌∷◌, ◌++◌, length, sym, ap, subst, ◌∙◌, arith}
use Rattle.std.specs.List.{zip}
use Rattle.std.specs.Prelude.{Contains}
use Rattle.pb_object.specs.declared.request.Ask.{Ask}
use Rattle.pb_object.specs.History.{History, after_round, state_after}
use Rattle.pb_object.specs.Standing.{Standing}
use Rattle.pb_layout.specs.LogHistory.{LoggedRound, AreUnsealed, rounds_in}
use Rattle.pb_layout_laws.proofs.Histories.{state_after-append}
use Rattle.pb_report.specs.declared.outcome.Outcome.{Outcome}
use Rattle.pb_report.proofs.EntryLemmas.{full_after_all, last_of}
use Rattle.pb_broker.specs.Chain.{Point, Called, Chain, Steps, IsBehind, IsApplied, HasSaid}
use Rattle.pb_broker.proofs.Applied.{last_rises_all, said_at_most, stands_or_began}
use Rattle.pb_broker.proofs.Held.{IsHeld, IsHeldAt, IsServedIn, IsServing, Stays, held_point, held_since, same_line, served_held, serving}
use Rattle.pb_broker.proofs.Points.{IsSound}
use Rattle.pb_broker.proofs.Steps.{chain_sound}

-- the number of a client's last entry isn't below this one
abbrev AtLeast : ℕ → ℕ → Standing → History → Type 0
AtLeast client number s rounds = number ≤ last_of (state_after s rounds) client

at_least_stays : (client number : ℕ) (s : Standing) → Stays (AtLeast client number s) s
at_least_stays client number s [] more full legal held = (let rises = last_rises_all s more client full legal in omega (arith, held, rises))
at_least_stays client number s (round ∷ first) more full legal held =
    at_least_stays client number (after_round s round) first more (full_after_all s round.entries full) legal.1 held

held_applied : (client number : ℕ) (s : Standing) (point : Point) → IsSound point → IsHeld (AtLeast client number s) s point → IsApplied point client number
held_applied client number s point sound held =
    let is = held_point (AtLeast client number s) s point sound held in
    (s, held.first, stands_or_began s point.rounds client number is.region.keeps is.region.legal held.now)

module _ (client number : ℕ) (s t : Standing) (before : Point) (called : Called before.tale) (asks : List Ask) (list : List Outcome) (served : IsServedIn s t before called asks list) (said : HasSaid called.answered.ending client number) (line : Contains (zip asks list) (said.ask, said.outcome)) where
  -- the rounds that are kept by a crash hold it
  said_of : (kept lost : List LoggedRound) → served.logged.history ≡ kept ++ lost → AreUnsealed lost → AtLeast client number s (before.rounds ++ rounds_in kept)
  said_of kept lost whole unsealed =
      subst (λ (u : Standing). number ≤ last_of u client) (ap (λ (u : Standing). state_after u (rounds_in kept)) served.is ∙ sym (state_after-append s before.rounds (rounds_in kept)))
      (subst (λ (n : ℕ). n ≤ last_of (state_after t (rounds_in kept)) client) said.number_is
      (subst (λ (c : ℕ). said.ask.number ≤ last_of (state_after t (rounds_in kept)) c) said.client_is
      (said_at_most t served.logged.history kept lost asks list (record {
        lists = served.lists;
        legal = served.logged.explained.legal;
        outcomes = served.logged.explained.outcomes;
        new_sealed = served.logged.new_sealed;
        whole = whole;
        unsealed = unsealed;
      }) said.ask said.outcome line said.applied)))

  said_held : IsHeldAt (AtLeast client number s) s before called (length called.after.log)
  said_held = served_held (AtLeast client number s) s t before called asks list served said_of

pub applied_stays : (before next now : Point) (called : Called before.tale) (client number count : ℕ) → Chain before → HasSaid called.answered.ending client number → IsBehind before called next → Steps count next now → IsApplied now client number
applied_stays before next now called client number count chain said behind steps = go (serving before called said.asks said.list sound said.served)
  where
    sound : IsSound before
    sound = chain_sound before chain

    go : IsServing before called → IsApplied now client number
    go some =
        let line = same_line called.answered.ending some.asks said.asks some.list said.list (said.ask, said.outcome) some.ending said.served said.line in
        let held = said_held client number some.s some.t before called some.asks some.list some.served said line in
        let end = held_since (AtLeast client number some.s) some.s before next now called count sound (at_least_stays client number some.s) held behind steps in
        held_applied client number some.s now end.0 end.1
