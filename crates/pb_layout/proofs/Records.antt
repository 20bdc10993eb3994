-- Lemmas on client lines and records.
use Rattle.std.proofs.Common.{length, get_or, ◌≡◌, ℕ, suc, ◌+◌, ◌*◌, ◌<◌, ◌≤◌, List, take, drop, ap, ◌∙◌, refl, sym, inl, inr, arith}
use Rattle.std.proofs.lemmas.List.{get_or_read, get_or-take, get_or-drop, ext_get_or, length-take, length-drop}
use Rattle.pb_pmem.specs.declared.line.Line.{Line}
use Rattle.pb_pmem.specs.Lines.{line_at, zero_line}
use Rattle.pb_object.specs.declared.kind.Kind.{Kind}
use Rattle.pb_object.specs.declared.request.Kept.{Kept}
use Rattle.pb_object.specs.declared.request.TheConstants.{KEPT_REQUESTS, LAST_NUMBER}
use Rattle.pb_layout.specs.ClientLine.{kept_in, IsKept}
use Rattle.pb_layout.specs.Header.{slot_count, word}
use Rattle.pb_layout.specs.Record.{number_sum, slot_at, client_line_at, IsSlot, AreSlots, AreSmall}
use Rattle.pb_layout.specs.declared.header.Header.{Header}

-- what is kept has a number that a request can have, or 0
pub number_few : (kind : Kind) (side : ℕ) (kept : Kept) → IsKept kind side kept → kept.number ≤ LAST_NUMBER
number_few kind side kept (inl none) =
    let zero : kept.number ≡ 0 = ap (λ (k : Kept). k.number) none in omega arith
number_few kind side kept (inr recorded) = recorded.few

-- the lines of a piece
pub line_at-piece : (lines : List Line) (first count place : ℕ) → place < count → line_at (take count (drop first lines)) place ≡ line_at lines (first + place)
line_at-piece lines first count place inside =
    get_or-take count (drop first lines) place zero_line inside ∙ get_or-drop first lines place zero_line

-- a block of lines that was written line by line is there as a piece
pub piece_is : (lines block : List Line) (first : ℕ) → first + length block ≤ length lines → ((place : ℕ) → place < length block → line_at lines (first + place) ≡ line_at block place) → take (length block) (drop first lines) ≡ block
piece_is lines block first fits same =
    let long : length (take (length block) (drop first lines)) ≡ length block = omega (arith, length-take (length block) (drop first lines), length-drop first lines) in
    ext_get_or zero_line (take (length block) (drop first lines)) block long (λ place inside. line_at-piece lines first (length block) place (omega arith) ∙ same place (omega arith))

-- the number in a slot of a record
pub slot_number_few : (kind : Kind) (side : ℕ) (lines : List Line) (place : ℕ) → IsSlot kind side lines place → word (slot_at lines place) 0 ≤ LAST_NUMBER
slot_number_few kind side lines place slot = number_few kind side (kept_in (slot_at lines place)) slot.allowed

pub are_small : (head : Header) (side : ℕ) (lines : List Line) → AreSlots head.kind side lines (slot_count head) → AreSmall lines head.clients
are_small head side lines slots client inside = slot_number_few head.kind side lines (KEPT_REQUESTS * client + 0) (slots (KEPT_REQUESTS * client + 0) (omega arith))

-- the sum of no clients' numbers, and of one client more
pub number_sum-none : (lines : List Line) → number_sum lines 0 ≡ 0
unfolding number_sum
number_sum-none lines = refl

pub number_sum-more : (lines : List Line) (client : ℕ) → number_sum lines (suc client) ≡ number_sum lines client + word (client_line_at lines client) 0
unfolding number_sum
number_sum-more lines client = refl

-- the newest number of a client, where its line is read
pub number_read : (lines : List Line) (client : ℕ) (line : Line) → 1 + KEPT_REQUESTS * client < length lines → line ≡ get_or lines (1 + KEPT_REQUESTS * client) line → word (get_or lines (1 + KEPT_REQUESTS * client) line) 0 ≡ word (client_line_at lines client) 0
number_read lines client line inside is =
    let place : 1 + KEPT_REQUESTS * client ≡ 1 + (KEPT_REQUESTS * client + 0) = omega arith in
    ap (λ (l : Line). word l 0) (sym is ∙ (get_or_read lines (1 + KEPT_REQUESTS * client) line inside is zero_line ∙ ap (line_at lines) place))
