-- Counts fit their words, and the header stays.
use Rattle.std.proofs.Common.{◌≡◌, ◌≢◌, ℕ, ◌+◌, ◌*◌, ◌<◌, ◌≤◌, ◌⊎◌, List, [], ◌∷◌, ◌++◌, length, get_or, set, Option, Some, None, ap, subst, sym, refl, ◌∙◌, inl, inr, arith, length-append}
use Rattle.std.proofs.lemmas.Bool.{cases_eq, cases_lt}
use Rattle.std.proofs.lemmas.List.{get_or-set_same, get_or_past, length-set}
use Rattle.pb_object.specs.declared.request.TheConstants.{LAST_NUMBER}
use Rattle.pb_object.specs.History.{Round, History, after_round, state_after}
use Rattle.pb_object.specs.Standing.{Standing, rounds_of, side_count}
use Rattle.pb_layout.specs.declared.header.Header.{Header}
use Rattle.pb_object.specs.declared.limits.TheConstants.{MOST_CLIENTS}
use Rattle.pb_layout.specs.Represents.{header_for}
use Rattle.pb_layout.proofs.OneRecovery.{parts}
use Rattle.pb_layout_laws.proofs.FewRounds.{side_rounds_few, legal_few}
use Rattle.pb_layout_laws.proofs.Rounds.{next_header, next_round_list, next_rounds_other}
use Rattle.pb_core.specs.DeviceParts.{IsWorld, opened_state}
use Rattle.pb_core.specs.Memory.{with_round_ahead, shown}
use Rattle.pb_core.specs.World.{World}
use Rattle.pb_core.proofs.Waiting.{held-small}
use Rattle.pb_core.proofs.Worlds.{shown_is}
use Rattle.pb_play.specs.Steps.{FitsWords}

-- the header of a standing stays
pub header_after : (s : Standing) (history : History) → header_for (state_after s history) ≡ header_for s
header_after s [] = refl
header_after s (round ∷ history) = header_after (after_round s round) history ∙ next_header s round

-- so do its sides
pub sides_after : (s : Standing) (history : History) → length (state_after s history).rounds ≡ length s.rounds
sides_after s [] = refl
sides_after s (round ∷ history) =
    sides_after (after_round s round) history ∙ (ap length (next_round_list s round) ∙ length-set s.rounds round.side (rounds_of s round.side + 1))

-- a round counts one more at most
one_more : (s : Standing) (round : Round) (side : ℕ) → rounds_of (after_round s round) side ≤ rounds_of s side + 1
one_more s round side = go (cases_eq side round.side)
  where
    in_range : (round.side < length s.rounds) ⊎ (length s.rounds ≤ round.side) → get_or (set s.rounds round.side (rounds_of s round.side + 1)) round.side 0 ≤ rounds_of s round.side + 1
    in_range (inl inside) = omega (arith, get_or-set_same s.rounds round.side (rounds_of s round.side + 1) 0 inside)
    in_range (inr past) = omega (arith, get_or_past (set s.rounds round.side (rounds_of s round.side + 1)) round.side 0 (omega (arith, past, length-set s.rounds round.side (rounds_of s round.side + 1))))

    own : rounds_of (after_round s round) round.side ≤ rounds_of s round.side + 1
    own = omega (arith, ap (λ (l : List ℕ). get_or l round.side 0) (next_round_list s round), in_range (cases_lt round.side (length s.rounds)))

    go : (side ≡ round.side) ⊎ (side ≢ round.side) → rounds_of (after_round s round) side ≤ rounds_of s side + 1
    go (inl same) = subst (λ (e : ℕ). rounds_of (after_round s round) e ≤ rounds_of s e + 1) (sym same) own
    go (inr other) = omega (arith, next_rounds_other s round side other)

rounds_more : (s : Standing) (history : History) (side : ℕ) → rounds_of (state_after s history) side ≤ rounds_of s side + length history
rounds_more s [] side = omega arith
rounds_more s (round ∷ history) side = omega (arith, rounds_more (after_round s round) history side, one_more s round side)

with_round_more : (s : Standing) (ahead : Option Round) (side : ℕ) → rounds_of (with_round_ahead ahead s) side ≤ rounds_of s side + 1
with_round_more s None side = omega arith
with_round_more s (Some round) side = one_more s round side

-- in a world all counts fit their words
pub world_fits : {w : World} → IsWorld w → FitsWords w.memory
world_fits {w} is =
    let m = w.memory in
    let first = parts w.tale.base (opened_state m) is.base in
    let few : m.start.clients ≤ MOST_CLIENTS = omega (arith, first.valid.few_clients, ap (λ (h : Header). h.clients) (header_after m.start m.past)) in
    let all : length (m.past ++ m.published) ≤ MOST_CLIENTS * LAST_NUMBER = legal_few m.start (m.past ++ m.published) is.memory_is.history.keeps few is.memory_is.history.legal in
    let published : length m.published ≤ MOST_CLIENTS * LAST_NUMBER = omega (arith, all, length-append m.past m.published) in
    record {
      turn = omega (arith, published, is.memory_is.turn, held-small m.owner);
      sides = ap (λ (s : Standing). length s.rounds) (shown_is m) ∙ (sides_after (opened_state m) m.published ∙ (first.sides ∙ ap (λ (h : Header). side_count h.kind) (sym (ap header_for (shown_is m) ∙ header_after (opened_state m) m.published))));
      rounds = λ side. omega (arith, published, with_round_more (shown m) m.ahead side, ap (λ (s : Standing). rounds_of s side) (shown_is m), rounds_more (opened_state m) m.published side, side_rounds_few w.tale.base (opened_state m) side is.base);
    }
