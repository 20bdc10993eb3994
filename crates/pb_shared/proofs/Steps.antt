-- A client of a scan.
use Rattle.std.proofs.Common.{◌≡◌, ◌≢◌, ℕ, suc, ◌+◌, eqb, true, false, List, [], ◌∷◌, ◌++◌, Some, None, sym, refl, ap, ◌∙◌, subst, arith}
use Rattle.std.proofs.lemmas.Bool.{eq-eqb, ne_eqb, cond-true, cond-false}
use Rattle.std.proofs.lemmas.List.{append-nil}
use Rattle.pb_object.specs.declared.kind.Kind.{Kind}
use Rattle.pb_object.specs.declared.request.Ask.{Ask}
use Rattle.pb_object.specs.declared.request.Op.{Op}
use Rattle.pb_core.specs.Memory.{Part, AtNumber, AtCode, Work, Scanning, side_of_operation}
use Rattle.pb_engine.specs.View.{EngineView}
use Rattle.pb_rule.specs.View.{Look, PassView, numbers_of}
use Rattle.pb_rule.specs.Holding.{part_place}
use Rattle.pb_shared.specs.Combined.{HasLooked}
use Rattle.pb_rule.specs.Plays.{Seated, kept_number, seen_with, looked_part}
use Rattle.pb_shared.specs.Scanning.{IsAtPart, IsAfter, IsScanning, next_work, next_looked, HasPart}
use Rattle.pb_shared.proofs.Looks.{looked_over, looked_due}
use Rattle.pb_shared.proofs.Parts.{at_part}

module _ {X : Type 0} (seen : X → EngineView) (kind : Kind) (start : PassView) (engine : EngineView) (client : ℕ) (asks : List Ask) where
  At : Part → List Look → Seated X → Type 0
  At part looked me = IsAtPart seen kind start engine client part asks looked me

  After : Part → List Look → ℕ → Seated X → Type 0
  After part looked found me = IsAfter seen kind start engine (next_work engine start client found part asks) (next_looked engine client found part looked) me

  -- a part in the midst of a request, where nothing is looked at yet
  pub to_part : (part next : Part) (looked : List Look) (found : ℕ) (me : Seated X) → next_work engine start client found part asks ≡ Scanning client next asks → looked_part (kept_number engine.standing) found client part ≡ []
      → IsAfter seen kind start engine (next_work engine start client found part asks) (next_looked engine client found part looked) me → IsAtPart seen kind start engine client next asks looked me
  to_part part next looked found me work none after =
      subst (λ (l : List Look). IsAtPart seen kind start engine client next asks l me) (ap (λ (l : List Look). looked ++ l) none ∙ append-nil looked) (at_part seen kind client next asks work after)

  -- where a scan stands before the words of an operation
  pub has_part : (part : Part) (looked : List Look) (me : Seated X) (place : ℕ) → place ≡ part_place part → IsAtPart seen kind start engine client part asks looked me → HasPart seen kind client place me
  has_part part looked me place is at =
      record { start = start; engine = engine; part = part; asks = asks; looked = looked; place_is = is; is = at }

  -- the number isn't due
  pub passed_over : (looked : List Look) (number : ℕ) (me : Seated X) → number ≢ kept_number engine.standing client + 1 → HasLooked client (side_of_operation start.body.ask.op) (numbers_of engine.standing) looked asks
      → IsAfter seen kind start engine (next_work engine start client number AtNumber asks) (next_looked engine client number AtNumber looked) me → IsScanning seen kind start engine (client + 1) asks me
  passed_over looked number me other has after = record {
    looked = looked ++ record { client = client; number = number; op = None } ∷ [];
    part = at_part seen kind (client + 1) AtNumber asks refl now;
    has_looked = looked_over engine.standing client (side_of_operation start.body.ask.op) number looked asks other has;
    later = λ some. now;
  }
    where
      not_due : eqb number (kept_number engine.standing client + 1) ≡ false
      not_due = ne_eqb number (kept_number engine.standing client + 1) other

      more : suc client ≡ client + 1
      more = omega arith

      now : IsAfter seen kind start engine (Scanning (client + 1) AtNumber asks) (looked ++ record { client = client; number = number; op = None } ∷ []) me
      now = subst (λ (w : Work). IsAfter seen kind start engine w (looked ++ record { client = client; number = number; op = None } ∷ []) me)
          (cond-false (eqb number (kept_number engine.standing client + 1)) (Scanning client (AtCode number) asks) (Scanning (suc client) AtNumber asks) not_due ∙ ap (λ (n : ℕ). Scanning n AtNumber asks) more)
          (subst (λ (l : List Look). IsAfter seen kind start engine (next_work engine start client number AtNumber asks) (looked ++ l) me) (cond-false (eqb number (kept_number engine.standing client + 1)) [] (record { client = client; number = number; op = None } ∷ []) not_due) after)

  -- the number is due: its words are next
  pub meets_due : (looked : List Look) (number : ℕ) (me : Seated X) → number ≡ kept_number engine.standing client + 1
      → IsAfter seen kind start engine (next_work engine start client number AtNumber asks) (next_looked engine client number AtNumber looked) me → IsAtPart seen kind start engine client (AtCode number) asks looked me
  meets_due looked number me same after =
      let due : eqb number (kept_number engine.standing client + 1) ≡ true = eq-eqb number (kept_number engine.standing client + 1) same in
      to_part AtNumber (AtCode number) looked number me (cond-true (eqb number (kept_number engine.standing client + 1)) (Scanning client (AtCode number) asks) (Scanning (suc client) AtNumber asks) due) (cond-true (eqb number (kept_number engine.standing client + 1)) [] (record { client = client; number = number; op = None } ∷ []) due) after

  -- all its words are loaded
  pub scanned_whole : (looked : List Look) (number : ℕ) (op : Op) (more : List Ask) (me : Seated X) → number ≡ kept_number engine.standing client + 1 → HasLooked client (side_of_operation start.body.ask.op) (numbers_of engine.standing) looked asks
      → more ≡ seen_with (side_of_operation start.body.ask.op) asks (record { client = client; number = number; op = op })
      → IsAfter seen kind start engine (Scanning (suc client) AtNumber (seen_with (side_of_operation start.body.ask.op) asks (record { client = client; number = number; op = op }))) (looked ++ record { client = client; number = number; op = Some op } ∷ []) me
      → IsScanning seen kind start engine (client + 1) more me
  scanned_whole looked number op more me same has more_is after = subst (λ (l : List Ask). IsScanning seen kind start engine (client + 1) l me) (sym more_is) (record {
    looked = looked ++ record { client = client; number = number; op = Some op } ∷ [];
    part = at_part seen kind (client + 1) AtNumber _ refl now;
    has_looked = looked_due engine.standing client (side_of_operation start.body.ask.op) number op looked asks same has;
    later = λ some. now;
  })
    where
      now : IsAfter seen kind start engine (Scanning (client + 1) AtNumber (seen_with (side_of_operation start.body.ask.op) asks (record { client = client; number = number; op = op }))) (looked ++ record { client = client; number = number; op = Some op } ∷ []) me
      now = subst (λ (n : ℕ). IsAfter seen kind start engine (Scanning n AtNumber (seen_with (side_of_operation start.body.ask.op) asks (record { client = client; number = number; op = op }))) (looked ++ record { client = client; number = number; op = Some op } ∷ []) me) (omega arith) after
