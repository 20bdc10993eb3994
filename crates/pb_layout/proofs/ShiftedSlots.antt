-- A request is put in front of a client's slots, one slot after the other.
use Rattle.std.proofs.Common.{◌≡◌, ◌≢◌, ◌⊎◌, ℕ, suc, ◌+◌, ◌*◌, ◌<◌, ◌≤◌, List, length, get_or, set, ap, ◌∙◌, inl, inr, arith}
use Rattle.std.proofs.lemmas.Bool.{cases_eq}
use Rattle.std.proofs.lemmas.List.{length-set, get_or-set_same, get_or-set_other, get_or_read}
use Rattle.pb_pmem.specs.declared.line.Line.{Line}
use Rattle.pb_pmem.specs.Lines.{line_at, zero_line}
use Rattle.pb_object.specs.declared.request.Kept.{Kept}
use Rattle.pb_object.specs.declared.request.TheConstants.{KEPT_REQUESTS}
use Rattle.pb_layout.specs.ClientLine.{client_line_of}
use Rattle.pb_layout.specs.Record.{slot_line_at, client_line_at}
use Rattle.pb_layout.specs.Slots.{PutsInFront}

-- so many slots are written; the others, and the other lines, are as they were
pub record HasShifted (before : List Line) (client : ℕ) (kept : Kept) (old new : List Line) (count : ℕ) : Type 0 where
  pub some : 1 ≤ count
  pub long : length new ≡ length old
  pub newest : client_line_at new client ≡ client_line_of kept
  pub shifted : (slot : ℕ) → suc slot < count → slot_line_at new client (suc slot) ≡ slot_line_at before client slot
  pub others : (line : ℕ) → (line ≤ KEPT_REQUESTS * client) ⊎ (KEPT_REQUESTS * client + count < line) → line_at new line ≡ line_at old line

-- the first one
pub first_shifted : (before old : List Line) (client : ℕ) (kept : Kept) (line : Line) → KEPT_REQUESTS * client + KEPT_REQUESTS < length old → line ≡ client_line_of kept → HasShifted before client kept old (set old (1 + KEPT_REQUESTS * client) line) 1
first_shifted before old client kept line room is = record {
  some = omega arith;
  long = length-set old (1 + KEPT_REQUESTS * client) line;
  newest = ap (line_at (set old (1 + KEPT_REQUESTS * client) line)) at ∙ (get_or-set_same old (1 + KEPT_REQUESTS * client) line zero_line (omega arith) ∙ is);
  shifted = λ slot below. absurd (omega arith);
  others = λ other out. get_or-set_other old (1 + KEPT_REQUESTS * client) other line zero_line (apart other out);
}
  where
    at : 1 + (KEPT_REQUESTS * client + 0) ≡ 1 + KEPT_REQUESTS * client
    at = omega arith

    apart : (other : ℕ) → (other ≤ KEPT_REQUESTS * client) ⊎ (KEPT_REQUESTS * client + 1 < other) → other ≢ 1 + KEPT_REQUESTS * client
    apart other (inl low) e = omega (arith, low, e)
    apart other (inr high) e = omega (arith, high, e)

-- the next one
pub next_shifted : (before old new : List Line) (client : ℕ) (kept : Kept) (count : ℕ) (line : Line) → KEPT_REQUESTS * client + KEPT_REQUESTS < length old → KEPT_REQUESTS * client + KEPT_REQUESTS < length before → count < KEPT_REQUESTS → HasShifted before client kept old new count → line ≡ get_or before (KEPT_REQUESTS * client + count) line
    → HasShifted before client kept old (set new (1 + KEPT_REQUESTS * client + count) line) (count + 1)
next_shifted before old new client kept count line room space few has is = record {
  some = omega arith;
  long = length-set new (1 + KEPT_REQUESTS * client + count) line ∙ has.long;
  newest = stays 0 has.some ∙ has.newest;
  shifted = shifted;
  others = λ other out. get_or-set_other new (1 + KEPT_REQUESTS * client + count) other line zero_line (apart other out) ∙ has.others other (wider other out);
}
  where
    stays : (slot : ℕ) → slot < count → slot_line_at (set new (1 + KEPT_REQUESTS * client + count) line) client slot ≡ slot_line_at new client slot
    stays slot below = get_or-set_other new (1 + KEPT_REQUESTS * client + count) (1 + (KEPT_REQUESTS * client + slot)) line zero_line (λ e. omega (arith, below, e))

    shifted : (slot : ℕ) → suc slot < count + 1 → slot_line_at (set new (1 + KEPT_REQUESTS * client + count) line) client (suc slot) ≡ slot_line_at before client slot
    shifted slot below = elim (cases_eq (suc slot) count) [
      | inl e ↦
          let at : 1 + (KEPT_REQUESTS * client + suc slot) ≡ 1 + KEPT_REQUESTS * client + count = omega arith in
          let back : KEPT_REQUESTS * client + count ≡ 1 + (KEPT_REQUESTS * client + slot) = omega arith in
          ap (line_at (set new (1 + KEPT_REQUESTS * client + count) line)) at ∙ (get_or-set_same new (1 + KEPT_REQUESTS * client + count) line zero_line (omega (arith, has.long)) ∙ (get_or_read before (KEPT_REQUESTS * client + count) line (omega arith) is zero_line ∙ ap (line_at before) back))
      | inr other ↦ stays (suc slot) (omega arith) ∙ has.shifted slot (omega arith)
    ]

    apart : (other : ℕ) → (other ≤ KEPT_REQUESTS * client) ⊎ (KEPT_REQUESTS * client + (count + 1) < other) → other ≢ 1 + KEPT_REQUESTS * client + count
    apart other (inl low) e = omega (arith, low, e)
    apart other (inr high) e = omega (arith, high, e)

    wider : (other : ℕ) → (other ≤ KEPT_REQUESTS * client) ⊎ (KEPT_REQUESTS * client + (count + 1) < other) → (other ≤ KEPT_REQUESTS * client) ⊎ (KEPT_REQUESTS * client + count < other)
    wider other (inl low) = inl low
    wider other (inr high) = inr (omega arith)

-- all of them
pub all_shifted : (before old new : List Line) (client : ℕ) (kept : Kept) (count : ℕ) → count ≡ KEPT_REQUESTS → HasShifted before client kept old new count → PutsInFront before client kept old new
all_shifted before old new client kept count whole has = record {
  newest = has.newest;
  shifted = λ slot below. has.shifted slot (omega arith);
  others = λ line out. has.others line (out_of line out);
}
  where
    out_of : (line : ℕ) → (line ≤ KEPT_REQUESTS * client) ⊎ (KEPT_REQUESTS * client + KEPT_REQUESTS < line) → (line ≤ KEPT_REQUESTS * client) ⊎ (KEPT_REQUESTS * client + count < line)
    out_of line (inl low) = inl low
    out_of line (inr high) = inr (omega arith)
