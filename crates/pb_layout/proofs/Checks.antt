-- Each check of a region is decided, and so is which comes first.
use Rattle.std.proofs.Common.{◌≡◌, ◌≢◌, ◌⊎◌, ℕ, ◌+◌, ◌*◌, ◌/◌, ◌%◌, ◌<◌, List, [], ◌∷◌, ◌++◌, length, refl, sym, ap, ◌∙◌, inl, inr, arith}
use Rattle.std.proofs.lemmas.Bool.{cases_lt}
use Rattle.pb_pmem.specs.declared.line.Line.{Line}
use Rattle.pb_pmem.specs.Lines.{line_at}
use Rattle.pb_object.specs.declared.kind.Kind.{Kind}
use Rattle.pb_object.specs.declared.kind.Kind.TheVariants.{Queue}
use Rattle.pb_object.specs.declared.request.TheConstants.{KEPT_REQUESTS}
use Rattle.pb_object.specs.ObjectLines.{IsAllowedLine, IsFirstRefused}
use Rattle.pb_object.specs.Standing.{side_count}
use Rattle.pb_layout.specs.Damage.{Check, AllPass, IsFirstNamed, header_in, round_in, record_in, object_lines_in, record_place_in, slot_place_in, object_place_by, IsRoundLine, taken_in, waiting_in, IsCellAt, region_checks}
use Rattle.pb_layout.specs.Header.{IsHeaderLine, slot_count, word}
use Rattle.pb_layout.specs.Record.{count_line_of, slot_at, number_sum, IsSlot, IsFirstWithout, IsRecord, HasBadSlot, HasManyRounds, IsBadRecordAt}
use Rattle.pb_layout.specs.Region.{cell_place}
use Rattle.pb_layout.specs.Represents.{number_at, IsApart}
use Rattle.pb_layout.specs.ClientLine.{kept_in}
use Rattle.pb_layout.specs.declared.header.Header.{Header}
use Rattle.pb_layout.proofs.Decided.{Decided, decided_by, decided_both, decided_if, decided_not, decided_eq, decided_lt, decided_le, decided_below, decided_all, one_first, decided_line}
use Rattle.pb_layout.proofs.Readers.{decided_kind, decided_kept, decided_header_line, decided_cell, decided_allowed}

-- a check passes or names a line, never both, and never two lines
pub record IsSharp (check : Check) : Type 0 where
  pub answer : check.passes ⊎ ((line : ℕ) × check.refuses line)
  pub sound : (line : ℕ) → check.refuses line → ¬ check.passes
  pub one : (a b : ℕ) → check.refuses a → check.refuses b → a ≡ b

abbrev pub AllSharp : List Check → Type 0
AllSharp [] = Unit {0}
AllSharp (check ∷ checks) = IsSharp check × AllSharp checks

pub all_answer : (checks : List Check) → AllSharp checks → AllPass checks ⊎ ((line : ℕ) × IsFirstNamed checks line)
all_answer [] sharp = inl tt
all_answer (check ∷ checks) sharp =
    elim sharp.0.answer [
      | inl passes ↦ elim (all_answer checks sharp.1) [ inl rest ↦ inl (passes, rest) | inr named ↦ inr (named.0, inr (passes, named.1)) ]
      | inr refused ↦ inr (refused.0, inl refused.1)
    ]

pub all_sound : (checks : List Check) → AllSharp checks → (line : ℕ) → IsFirstNamed checks line → ¬ AllPass checks
all_sound [] sharp line named = absurd named
all_sound (check ∷ checks) sharp line (inl refused) = λ pass. sharp.0.sound line refused pass.0
all_sound (check ∷ checks) sharp line (inr later) = λ pass. all_sound checks sharp.1 line later.1 pass.1

pub all_one : (checks : List Check) → AllSharp checks → (a b : ℕ) → IsFirstNamed checks a → IsFirstNamed checks b → a ≡ b
all_one [] sharp a b left right = absurd left
all_one (check ∷ checks) sharp a b (inl left) (inl right) = sharp.0.one a b left right
all_one (check ∷ checks) sharp a b (inl left) (inr right) = absurd (sharp.0.sound a left right.0)
all_one (check ∷ checks) sharp a b (inr left) (inl right) = absurd (sharp.0.sound b right left.0)
all_one (check ∷ checks) sharp a b (inr left) (inr right) = all_one checks sharp.1 a b left.1 right.1

-- more checks after these: a line that these name is named, and where these pass those name the line
pub named_before : (checks more : List Check) (line : ℕ) → IsFirstNamed checks line → IsFirstNamed (checks ++ more) line
named_before [] more line named = absurd named
named_before (check ∷ checks) more line (inl refused) = inl refused
named_before (check ∷ checks) more line (inr later) = inr (later.0, named_before checks more line later.1)

pub named_after : (checks more : List Check) (line : ℕ) → AllPass checks → IsFirstNamed more line → IsFirstNamed (checks ++ more) line
named_after [] more line pass named = named
named_after (check ∷ checks) more line pass named = inr (pass.0, named_after checks more line pass.1 named)

-- a check that names one line
sharp_here : (P : Type 0) (place : ℕ) → Decided P → IsSharp (record { passes = P; refuses = λ line. (line ≡ place) × ¬ P })
sharp_here P place decided = record {
  answer = elim decided [ inl holds ↦ inl holds | inr never ↦ inr (place, (refl, never)) ];
  sound = λ line refused. refused.1;
  one = λ a b left right. left.0 ∙ sym right.0;
}

-- a check of places one after another, under a condition
sharp_each : (Q : Type 0) (P : ℕ → Type 0) (count : ℕ) (at : ℕ → ℕ) → Decided Q → ((k : ℕ) → Decided (P k)) → IsSharp (record { passes = Q → (k : ℕ) → k < count → P k; refuses = λ line. Q × ((k : ℕ) × (line ≡ at k) × IsFirstWithout P count k) })
sharp_each Q P count at (inl holds) each = record {
  answer = elim (decided_below P each count) [ inl all ↦ inl (λ _. all) | inr first ↦ inr (at first.0, (holds, (first.0, refl, first.1))) ];
  sound = λ line refused pass. refused.1.2.refused (pass holds refused.1.0 refused.1.2.within);
  one = λ a b left right. left.1.1 ∙ (ap at (one_first P count left.1.0 right.1.0 left.1.2 right.1.2) ∙ sym right.1.1);
}
sharp_each Q P count at (inr never) each = record {
  answer = inl (λ holds. absurd (never holds));
  sound = λ line refused. absurd (never refused.0);
  one = λ a b left right. absurd (never left.0);
}

decided_round_line : (kind : Kind) (side : ℕ) (line : Line) → Decided (IsRoundLine kind side line)
decided_round_line kind side line =
    decided_by (λ p. record { count = p.0; no_side = p.1 }) (λ r. (r.count, r.no_side)) (decided_both (decided_line line (count_line_of (word line 0))) (decided_if (decided_le (side_count kind) side) (decided_eq (word line 0) 0)))

decided_slot : (kind : Kind) (side : ℕ) (lines : List Line) (place : ℕ) → Decided (IsSlot kind side lines place)
decided_slot kind side lines place =
    decided_by (λ p. record { allowed = p.0; falls = p.1 }) (λ r. (r.allowed, r.falls)) (decided_both (decided_kept kind side (kept_in (slot_at lines place))) (decided_if (decided_not (decided_eq (place % KEPT_REQUESTS) 0)) (decided_if (decided_not (decided_eq (word (slot_at lines place) 0) 0)) (decided_lt (word (slot_at lines place) 0) (word (line_at lines place) 0)))))

-- a record is one, or has a first refused line
pub record_answer : (head : Header) (side round : ℕ) (lines : List Line) → IsRecord head side round lines ⊎ ((place : ℕ) × IsBadRecordAt head side round lines place)
record_answer head side round lines =
    elim (decided_line (line_at lines 0) (count_line_of round)) [
      | inr other ↦ inr (0, inl (record { place = refl; refused = other }))
      | inl carries ↦ elim (decided_below (IsSlot head.kind side lines) (decided_slot head.kind side lines) (slot_count head)) [
        | inr first ↦ inr (1 + first.0, inr (inl (record { carries = carries; slot = first.0; place = refl; first = first.1 })))
        | inl all ↦ elim (cases_lt (number_sum lines head.clients) round) [
          | inl many ↦ inr (0, inr (inr (record { place = refl; carries = carries; slots = all; refused = many })))
          | inr few ↦ inl (record { carries = carries; slots = all; rounds = few })
        ]
      ]
    ]

pub record_sound : (head : Header) (side round : ℕ) (lines : List Line) (place : ℕ) → IsBadRecordAt head side round lines place → ¬ IsRecord head side round lines
record_sound head side round lines place (inl bad) = λ own. bad.refused own.carries
record_sound head side round lines place (inr (inl bad)) = λ own. bad.first.refused (own.slots bad.slot bad.first.within)
record_sound head side round lines place (inr (inr bad)) = λ own. omega (arith, bad.refused, own.rounds)

slot_one : (head : Header) (side round : ℕ) (lines : List Line) (a b : ℕ) → HasBadSlot head side round lines a → HasBadSlot head side round lines b → a ≡ b
slot_one head side round lines a b left right =
    left.place ∙ (ap (λ (n : ℕ). 1 + n) (one_first (IsSlot head.kind side lines) (slot_count head) left.slot right.slot left.first right.first) ∙ sym right.place)

slot_or_many : (head : Header) (side round : ℕ) (lines : List Line) (a b : ℕ) → HasBadSlot head side round lines a → HasManyRounds head side round lines b → ⊥
slot_or_many head side round lines a b left right = left.first.refused (right.slots left.slot left.first.within)

pub record_one : (head : Header) (side round : ℕ) (lines : List Line) (a b : ℕ) → IsBadRecordAt head side round lines a → IsBadRecordAt head side round lines b → a ≡ b
record_one head side round lines a b (inl left) (inl right) = left.place ∙ sym right.place
record_one head side round lines a b (inl left) (inr (inl right)) = absurd (left.refused right.carries)
record_one head side round lines a b (inl left) (inr (inr right)) = absurd (left.refused right.carries)
record_one head side round lines a b (inr (inl left)) (inl right) = absurd (right.refused left.carries)
record_one head side round lines a b (inr (inr left)) (inl right) = absurd (right.refused left.carries)
record_one head side round lines a b (inr (inl left)) (inr (inl right)) = slot_one head side round lines a b left right
record_one head side round lines a b (inr (inl left)) (inr (inr right)) = absurd (slot_or_many head side round lines a b left right)
record_one head side round lines a b (inr (inr left)) (inr (inl right)) = absurd (slot_or_many head side round lines b a right left)
record_one head side round lines a b (inr (inr left)) (inr (inr right)) = left.place ∙ sym right.place

sharp_record_by : (Q : Type 0) (head : Header) (side round : ℕ) (lines : List Line) (at : ℕ) → Decided Q → IsSharp (record { passes = Q → IsRecord head side round lines; refuses = λ line. Q × ((place : ℕ) × (line ≡ at + place) × IsBadRecordAt head side round lines place) })
sharp_record_by Q head side round lines at (inl holds) = record {
  answer = elim (record_answer head side round lines) [ inl own ↦ inl (λ _. own) | inr bad ↦ inr (at + bad.0, (holds, (bad.0, refl, bad.1))) ];
  sound = λ line refused pass. record_sound head side round lines refused.1.0 refused.1.2 (pass holds);
  one = λ a b left right. left.1.1 ∙ (ap (λ (place : ℕ). at + place) (record_one head side round lines left.1.0 right.1.0 left.1.2 right.1.2) ∙ sym right.1.1);
}
sharp_record_by Q head side round lines at (inr never) = record {
  answer = inl (λ holds. absurd (never holds));
  sound = λ line refused. absurd (never refused.0);
  one = λ a b left right. absurd (never left.0);
}

sharp_objects : (kind : Kind) (size : ℕ) (lines : List Line) (at : ℕ → ℕ) → IsSharp (record { passes = (place : ℕ) → place < length lines → IsAllowedLine kind size lines place; refuses = λ line. (place : ℕ) × (line ≡ at place) × IsFirstRefused kind size lines place })
sharp_objects kind size lines at = record {
  answer = elim (decided_below (IsAllowedLine kind size lines) (decided_allowed kind size lines) (length lines)) [
    | inl all ↦ inl all
    | inr first ↦ inr (at first.0, (first.0, refl, record { within = first.1.within; before = first.1.before; refused = first.1.refused }))
  ];
  sound = λ line refused pass. refused.2.refused (pass refused.0 refused.2.within);
  one = λ a b left right. left.1 ∙ (ap at (one_first (IsAllowedLine kind size lines) (length lines) left.0 right.0 (record { within = left.2.within; before = left.2.before; refused = left.2.refused }) (record { within = right.2.within; before = right.2.before; refused = right.2.refused })) ∙ sym right.1);
}

decided_apart : (records : ℕ → List Line) (place : ℕ) → Decided (IsApart records place)
decided_apart records place =
    decided_if (decided_not (decided_eq (number_at records 1 place) 0)) (decided_all (λ slot. number_at records 1 place ≢ number_at records 0 (KEPT_REQUESTS * (place / KEPT_REQUESTS) + slot)) (λ slot. decided_not (decided_eq (number_at records 1 place) (number_at records 0 (KEPT_REQUESTS * (place / KEPT_REQUESTS) + slot)))) KEPT_REQUESTS)

-- all checks of a region are sharp
pub region_sharp : (image : List Line) → AllSharp (region_checks image)
region_sharp image =
    let head = header_in image in
    let records = record_in image in
    let queue = decided_kind head.kind Queue in (
      sharp_here (IsHeaderLine (line_at image 0)) 0 (decided_header_line (line_at image 0)),
      (
        sharp_here (IsRoundLine head.kind 0 (line_at image 1)) 1 (decided_round_line head.kind 0 (line_at image 1)),
        (
          sharp_here (IsRoundLine head.kind 1 (line_at image 2)) 2 (decided_round_line head.kind 1 (line_at image 2)),
          (
            sharp_record_by (0 < side_count head.kind) head 0 (round_in image 0) (records 0) (record_place_in image 0) (decided_lt 0 (side_count head.kind)),
            (
              sharp_record_by (1 < side_count head.kind) head 1 (round_in image 1) (records 1) (record_place_in image 1) (decided_lt 1 (side_count head.kind)),
              (
                sharp_objects head.kind head.size (object_lines_in image) (object_place_by head.kind image),
                (
                  sharp_each (head.kind ≡ Queue) (IsApart records) (slot_count head) (slot_place_in image 1) queue (decided_apart records),
                  (
                    sharp_each (head.kind ≡ Queue) (IsCellAt image) (waiting_in image) (λ place. cell_place head (taken_in image + place)) queue (λ place. decided_cell (taken_in image + place) (line_at image (cell_place head (taken_in image + place)))),
                    tt,
                  ),
                ),
              ),
            ),
          ),
        ),
      ),
    )
