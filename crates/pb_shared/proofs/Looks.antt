-- Lists of looks, with one more.
use Rattle.std.proofs.Common.{◌≡◌, ◌≢◌, ℕ, zero, suc, ◌+◌, eqb, Bool, true, false, List, [], ◌∷◌, ◌++◌, length, map, get_or, Some, None, sym, refl, ap, ◌∙◌, arith, length-append}
use Rattle.std.specs.Prelude.{if◌then◌else◌}
use Rattle.std.proofs.lemmas.Bool.{eq-eqb, ne_eqb, false≢true}
use Rattle.std.proofs.lemmas.List.{append-nil, append_assoc}
use Rattle.pb_object.specs.declared.request.Ask.{Ask}
use Rattle.pb_object.specs.declared.request.Kept.{Kept}
use Rattle.pb_object.specs.declared.request.Op.{Op}
use Rattle.pb_object.specs.Standing.{Standing}
use Rattle.pb_core.specs.Memory.{side_of_operation}
use Rattle.pb_rule.specs.View.{Look, numbers_of, newest_number}
use Rattle.pb_rule.specs.Plays.{kept_number, seen_with}
use Rattle.pb_shared.specs.Combined.{is_due, asked_if, due_if, due_asks, InOrder, AreLoaded, HasLooked}

-- a client's newest number among those of all
mapped : (lists : List (List Kept)) (client : ℕ) → get_or (map newest_number lists) client 0 ≡ newest_number (get_or lists client [])
mapped [] client = refl
mapped (list ∷ lists) zero = refl
mapped (list ∷ lists) (suc client) = mapped lists client

pub number_at : (s : Standing) (client : ℕ) → get_or (numbers_of s) client 0 ≡ kept_number s client
number_at s client = mapped s.kept client

order_push : (from : ℕ) (looked : List Look) (look : Look) → InOrder from looked → look.client ≡ from + length looked → InOrder from (looked ++ look ∷ [])
order_push from [] look order is = (omega (arith, is), tt)
order_push from (first ∷ looked) look order is =
    (order.0, order_push (suc from) looked look order.1 (omega (arith, is)))

loaded_push : (kept : List ℕ) (looked : List Look) (look : Look) → AreLoaded kept looked → (is_due kept look ≡ true → look.op ≢ None) → AreLoaded kept (looked ++ look ∷ [])
loaded_push kept [] look loaded is = (is, tt)
loaded_push kept (first ∷ looked) look loaded is =
    (loaded.0, loaded_push kept looked look loaded.1 is)

due_push : (side : ℕ) (kept : List ℕ) (looked : List Look) (look : Look) → due_asks side kept (looked ++ look ∷ []) ≡ due_asks side kept looked ++ due_if (is_due kept look) side look
due_push side kept [] look = append-nil (due_if (is_due kept look) side look)
due_push side kept (first ∷ looked) look =
    ap (λ (l : List Ask). due_if (is_due kept first) side first ++ l) (due_push side kept looked look) ∙ sym (append_assoc (due_if (is_due kept first) side first) (due_asks side kept looked) (due_if (is_due kept look) side look))

-- one more client was looked at
looked_more : {client side : ℕ} {kept : List ℕ} {looked : List Look} {asks : List Ask} (look : Look) (more : List Ask) → look.client ≡ client → (is_due kept look ≡ true → look.op ≢ None) → more ≡ asks ++ due_if (is_due kept look) side look → HasLooked client side kept looked asks
    → HasLooked (client + 1) side kept (looked ++ look ∷ []) more
looked_more {client} {side} {kept} {looked} {asks} look more here loaded more_is has = record {
  order = order_push 0 looked look has.order (omega (arith, here, has.all));
  all = length-append looked (look ∷ []) ∙ ap (λ (n : ℕ). n + 1) has.all;
  loaded = loaded_push kept looked look has.loaded loaded;
  due = more_is ∙ (ap (λ (l : List Ask). l ++ due_if (is_due kept look) side look) has.due ∙ sym (due_push side kept looked look));
}

-- its request isn't due
pub looked_over : (s : Standing) (client side number : ℕ) (looked : List Look) (asks : List Ask) → number ≢ kept_number s client + 1 → HasLooked client side (numbers_of s) looked asks
    → HasLooked (client + 1) side (numbers_of s) (looked ++ record { client = client; number = number; op = None } ∷ []) asks
looked_over s client side number looked asks other has =
    looked_more (record { client = client; number = number; op = None }) asks refl (λ e. absurd (false≢true (sym not_due ∙ e))) (sym (append-nil asks) ∙ ap (λ (b : Bool). asks ++ due_if b side (record { client = client; number = number; op = None })) (sym not_due)) has
  where
    not_due : is_due (numbers_of s) (record { client = client; number = number; op = None }) ≡ false
    not_due = ne_eqb number (get_or (numbers_of s) client 0 + 1) (λ e. other (e ∙ ap (λ (n : ℕ). n + 1) (number_at s client)))

-- it is
pub looked_due : (s : Standing) (client side number : ℕ) (op : Op) (looked : List Look) (asks : List Ask) → number ≡ kept_number s client + 1 → HasLooked client side (numbers_of s) looked asks
    → HasLooked (client + 1) side (numbers_of s) (looked ++ record { client = client; number = number; op = Some op } ∷ []) (seen_with side asks (record { client = client; number = number; op = op }))
looked_due s client side number op looked asks same has =
    looked_more look (seen_with side asks ask) refl (λ e none. some_none (sym none)) (by (eqb (side_of_operation op) side) ∙ ap (λ (b : Bool). asks ++ due_if b side look) (sym due)) has
  where
    look : Look
    look = record { client = client; number = number; op = Some op }

    ask : Ask
    ask = record { client = client; number = number; op = op }

    some_none : None ≡ Some op → ⊥
    some_none e = cc

    due : is_due (numbers_of s) (record { client = client; number = number; op = Some op }) ≡ true
    due = eq-eqb number (get_or (numbers_of s) client 0 + 1) (same ∙ ap (λ (n : ℕ). n + 1) (sym (number_at s client)))

    by : (b : Bool) → (if b then asks ++ record { client = client; number = number; op = op } ∷ [] else asks) ≡ asks ++ asked_if b (record { client = client; number = number; op = Some op }) op
    by true = refl
    by false = sym (append-nil asks)
