-- Requests change the registers that they name, and no others.
use Rattle.std.proofs.Common.{◌≡◌, ◌≢◌, ◌⊎◌, ℕ, ◌+◌, ◌/◌, ◌<◌, ◌≤◌, Bool, true, false, if◌then◌else◌, List, [], ◌∷◌, length, take, get_or, refl, sym, ap, subst, ◌∙◌, inl, inr, arith}
use Rattle.std.specs.List.{All, slice_set}
use Rattle.std.proofs.lemmas.Bool.{cases_eq, cases_lt}
use Rattle.std.proofs.lemmas.List.{get_or-set_other, get_or_past, length-set, take_all}
use Rattle.std.proofs.lemmas.List.Elements.{All-head, All-tail, All-more, All-nil}
use Rattle.pb_pmem.specs.declared.line.Line.{Line}
use Rattle.pb_object.specs.declared.request.Ask.{Ask}
use Rattle.pb_object.specs.declared.request.Op.{Op}
use Rattle.pb_object.specs.Changes.{after_asks}
use Rattle.pb_object.specs.Map.{Register, register_at, empty_register, next_registers}
use Rattle.pb_object.specs.MapLines.{register_in, IsRegisterAt}
use Rattle.pb_object.specs.Object.{State, Registers, Items, Rising, Waits, next_state}
use Rattle.pb_object.specs.ObjectLines.{kind_of, LinesRepresent}
use Rattle.pb_map.specs.Registers.{AreRegisters}

-- One request

set_other : (test : Bool) (registers : List Register) (key at : ℕ) (register : Register) → key ≢ at → register_at (if test then slice_set registers at register else registers) key ≡ register_at registers key
set_other true registers key at register other = get_or-set_other registers at key register empty_register other
set_other false registers key at register other = refl

set_count : (test : Bool) (registers : List Register) (at : ℕ) (register : Register) → length (if test then slice_set registers at register else registers) ≡ length registers
set_count true registers at register = length-set registers at register
set_count false registers at register = refl

next_other : (registers : List Register) (op : Op) (key : ℕ) → key ≢ op.a → register_at (next_registers registers op) key ≡ register_at registers key
next_other registers op key other = set_other _ registers key op.a _ other

next_count : (registers : List Register) (op : Op) → length (next_registers registers op) ≡ length registers
next_count registers op = set_count _ registers op.a _

-- Several

abbrev pub IsOfOther : ℕ → Ask → Type 0
IsOfOther key ask = ask.op.a ≢ key

next_kind : (state : State) (op : Op) → kind_of (next_state state op) ≡ kind_of state
next_kind (Registers registers) op = refl
next_kind (Items size items) op = refl
next_kind (Rising size items) op = refl
next_kind (Waits size queue) op = refl

same_kind : (asks : List Ask) (state : State) → kind_of (after_asks state asks) ≡ kind_of state
same_kind [] state = refl
same_kind (ask ∷ asks) state = same_kind asks (next_state state ask.op) ∙ next_kind state ask.op

one_list : (a b : List Register) → Registers a ≡ Registers b → a ≡ b
one_list a b e = cc

after_count : (asks : List Ask) (before after : List Register) → Registers after ≡ after_asks (Registers before) asks → length after ≡ length before
after_count [] before after is = ap length (one_list after before is)
after_count (ask ∷ asks) before after is = after_count asks (next_registers before ask.op) after is ∙ next_count before ask.op

after_other : (asks : List Ask) (before after : List Register) (key : ℕ) → Registers after ≡ after_asks (Registers before) asks → All (IsOfOther key) asks → register_at after key ≡ register_at before key
after_other [] before after key is apart = ap (λ (rs : List Register). register_at rs key) (one_list after before is)
after_other (ask ∷ asks) before after key is apart =
    after_other asks (next_registers before ask.op) after key is (All-tail (IsOfOther key) ask asks apart)
    ∙ next_other before ask.op key (λ e. All-head (IsOfOther key) ask asks apart (sym e))

abbrev pub no_ask : Ask
no_ask = record { client = 0; number = 0; op = record { code = 0; a = 0; b = 0; c = 0 } }

-- Lines in which the registers of the first requests are written

pub record IsChangedTo (registers : List Register) (asks : List Ask) (old new : List Line) (place : ℕ) : Type 0 where
  pub long : length new ≡ length old
  pub each : (key : ℕ) → (register_in new key ≡ register_at registers key) ⊎ ((register_in new key ≡ register_in old key) × (key < length registers → All (IsOfOther key) (take place asks)))

pub none_changed : (registers : List Register) (asks : List Ask) (old : List Line) → IsChangedTo registers asks old old 0
none_changed registers asks old = record { long = refl; each = λ key. inr (refl, λ inside. All-nil (IsOfOther key)) }

-- what writing one register comes to
pub record PutsNamed (registers : List Register) (key : ℕ) (old new : List Line) : Type 0 where
  pub long : length new ≡ length old
  pub here : key < length registers → register_in new key ≡ register_at registers key
  pub others : (other : ℕ) → other ≢ key → register_in new other ≡ register_in old other
  pub past : length registers ≤ key → new ≡ old

pub one_more : (registers : List Register) (asks : List Ask) (old mid new : List Line) (place : ℕ) (ask : Ask) → IsChangedTo registers asks old mid place → place < length asks → ask ≡ get_or asks place no_ask → PutsNamed registers ask.op.a mid new → IsChangedTo registers asks old new (place + 1)
one_more registers asks old mid new place ask changed inside is puts = record { long = puts.long ∙ changed.long; each = each }
  where
    apart_more : (key : ℕ) → key ≢ ask.op.a → All (IsOfOther key) (take place asks) → All (IsOfOther key) (take (place + 1) asks)
    apart_more key other apart = All-more (IsOfOther key) asks place no_ask inside apart (subst (IsOfOther key) is (λ e. other (sym e)))

    by_other : (key : ℕ) → key ≢ ask.op.a → (register_in mid key ≡ register_at registers key) ⊎ ((register_in mid key ≡ register_in old key) × (key < length registers → All (IsOfOther key) (take place asks))) → (register_in new key ≡ register_at registers key) ⊎ ((register_in new key ≡ register_in old key) × (key < length registers → All (IsOfOther key) (take (place + 1) asks)))
    by_other key other (inl written) = inl (puts.others key other ∙ written)
    by_other key other (inr (still, apart)) = inr (puts.others key other ∙ still, λ within. apart_more key other (apart within))

    by_past : (key : ℕ) → length registers ≤ key → new ≡ mid → (register_in mid key ≡ register_at registers key) ⊎ ((register_in mid key ≡ register_in old key) × (key < length registers → All (IsOfOther key) (take place asks))) → (register_in new key ≡ register_at registers key) ⊎ ((register_in new key ≡ register_in old key) × (key < length registers → All (IsOfOther key) (take (place + 1) asks)))
    by_past key past same (inl written) = inl (ap (λ (ls : List Line). register_in ls key) same ∙ written)
    by_past key past same (inr (still, apart)) = inr (ap (λ (ls : List Line). register_in ls key) same ∙ still, λ within. absurd (omega (arith, within, past)))

    each : (key : ℕ) → (register_in new key ≡ register_at registers key) ⊎ ((register_in new key ≡ register_in old key) × (key < length registers → All (IsOfOther key) (take (place + 1) asks)))
    each key = elim (cases_eq key ask.op.a) [
      | inr other ↦ by_other key other (changed.each key)
      | inl same ↦ elim (cases_lt ask.op.a (length registers)) [
        | inl within ↦ inl (subst (λ (k : ℕ). register_in new k ≡ register_at registers k) (sym same) (puts.here within))
        | inr past ↦ by_past key (omega (arith, same, past)) (puts.past (omega (arith, past))) (changed.each key)
      ]
    ]

-- all of them

represent : (registers : List Register) (lines : List Line) → AreRegisters registers → length lines ≡ (length registers + 3) / 4 → ((key : ℕ) → key / 4 < length lines → register_in lines key ≡ register_at registers key) → LinesRepresent lines (Registers registers)
represent registers lines are count each = record {
  count = count;
  allowed = λ line below key here. subst (IsRegisterAt (length registers) key) (sym (each key (omega (arith, below, here)))) (are.each key);
  hold = λ key inside. sym (each key (omega (arith, count, inside)));
}

-- what the old lines say of a register that no request names
unnamed : (registers before : List Register) (asks : List Ask) (old : List Line) (key : ℕ) → Registers registers ≡ after_asks (Registers before) asks → LinesRepresent old (Registers before) → key / 4 < length old → (key < length registers → All (IsOfOther key) asks) → register_in old key ≡ register_at registers key
unnamed registers before asks old key is stands inside apart = elim (cases_lt key (length registers)) [
  | inl within ↦ sym (after_other asks before registers key is (apart within) ∙ stands.hold key (omega (arith, within, many)))
  | inr past ↦ (stands.allowed (key / 4) inside key refl).unused (omega (arith, past, many)) ∙ sym (get_or_past registers key empty_register past)
]
  where
    many : length registers ≡ length before
    many = after_count asks before registers is

pub all_changed : (registers : List Register) (asks : List Ask) (old new : List Line) (place : ℕ) → AreRegisters registers → length old ≡ (length registers + 3) / 4 → length asks ≤ place → IsChangedTo registers asks old new place → (before : State) → LinesRepresent old before → Registers registers ≡ after_asks before asks → LinesRepresent new (Registers registers)
all_changed registers asks old new place are count all changed (Items size items) stands is = absurd (cc (ap kind_of is ∙ same_kind asks (Items size items)))
all_changed registers asks old new place are count all changed (Rising size items) stands is = absurd (cc (ap kind_of is ∙ same_kind asks (Rising size items)))
all_changed registers asks old new place are count all changed (Waits size queue) stands is = absurd (cc (ap kind_of is ∙ same_kind asks (Waits size queue)))
all_changed registers asks old new place are count all changed (Registers before) stands is =
    represent registers new are (changed.long ∙ count)
    (λ key inside. elim (changed.each key) [
      | inl written ↦ written
      | inr (still, apart) ↦ still ∙ unnamed registers before asks old key is stands (omega (arith, inside, changed.long)) (λ within. subst (All (IsOfOther key)) (take_all place asks all) (apart within))
    ])
