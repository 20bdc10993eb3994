-- One word more of a scan.
use Rattle.std.proofs.Common.{◌≡◌, ℕ, suc, ◌+◌, eqb, Bool, true, false, List, [], ◌∷◌, ◌++◌, Some, sym, refl, ap, ◌∙◌, subst}
use Rattle.std.specs.Prelude.{if◌then◌else◌}
use Rattle.pb_object.specs.declared.kind.Kind.{Kind}
use Rattle.pb_object.specs.declared.request.Ask.{Ask}
use Rattle.pb_core.specs.Memory.{Part, AtNumber, AtCode, AtFirst, AtSecond, AtThird, Work, Scanning, side_of_operation}
use Rattle.pb_engine.specs.View.{EngineView}
use Rattle.pb_rule.specs.View.{Look, PassView}
use Rattle.pb_rule.specs.Holding.{part_place, IsScanPlace}
use Rattle.pb_rule.specs.Plays.{Seated, the_view, engine_now, scanning_now, kept_number, part_found, looked_part, scan_found, looked_by, scanned_on, scan_step, ScanIsOver}
use Rattle.pb_rule.specs.Ready.{IsReadyFor, untouched}
use Rattle.pb_shared.specs.Scanning.{blank, IsAtPart, IsAfter, next_work, next_looked}

module _ {X : Type 0} (seen : X → EngineView) (kind : Kind) where
  -- where a scan stands after a step
  pub at_part : {start : PassView} {engine : EngineView} {work : Work} {looked : List Look} {me : Seated X} (client : ℕ) (part : Part) (asks : List Ask) → work ≡ Scanning client part asks → IsAfter seen kind start engine work looked me → IsAtPart seen kind start engine client part asks looked me
  at_part client part asks is after = record {
    ready = after.ready;
    at = ap scanning_now (after.work_is ∙ is);
    now = after.now;
    clients = after.clients;
    rest = after.rest;
    looked_is = after.looked_is;
  }

  -- the same view, but for what the holder is at
  pub same_clients : (v w : PassView) → blank v ≡ blank w → v.clients ≡ w.clients
  same_clients v w same = ap (λ (u : PassView). u.clients) same

  pub same_side : (v w : PassView) → blank v ≡ blank w → side_of_operation v.body.ask.op ≡ side_of_operation w.body.ask.op
  same_side v w same = ap (λ (u : PassView). side_of_operation u.body.ask.op) same

  pub scan_place : {start : PassView} {engine : EngineView} {asks : List Ask} {looked : List Look} {me : Seated X} (client place : ℕ) (part : Part) → place ≡ part_place part → IsAtPart seen kind start engine client part asks looked me → IsScanPlace (scanning_now (the_view me).work) client place
  scan_place {asks = asks} client place part is at =
      record { part = part; seen = asks; at = at.at; place_is = is }

  -- the step that is made by loading the word
  pub after_load : {start : PassView} {engine : EngineView} {part : Part} {asks : List Ask} {looked : List Look} {me : Seated X} (client found : ℕ) (new : Seated X) → IsAtPart seen kind start engine client part asks looked me → new ≡ scan_step seen found me → ScanIsOver (engine_now seen me) (the_view new)
      → IsAfter seen kind start engine (next_work engine start client found part asks) (next_looked engine client found part looked) new
  after_load {start} {engine} {part} {asks} {looked} {me} client found new at is over =
      subst (IsAfter seen kind start engine (next_work engine start client found part asks) (next_looked engine client found part looked)) (sym is) (record {
        ready = ready;
        work_is = ap (scan_found (kept_number now.standing) (side_of_operation v.body.ask.op) found) at.at ∙ (λ i. part_found (kept_number (at.now i).standing) (same_side v start at.rest i) found client part asks);
        hand = ap Some at.now;
        now = at.now;
        clients = at.clients;
        rest = at.rest;
        looked_is = ap (λ (w : Work). v.looked ++ looked_by (kept_number now.standing) found w) at.at ∙ (λ i. at.looked_is i ++ looked_part (kept_number (at.now i).standing) found client part);
        over = subst (λ (e : EngineView). ScanIsOver e (scanned_on now found v)) at.now (subst (λ (s : Seated X). ScanIsOver now (the_view s)) is over);
      })
    where
      v : PassView
      v = the_view me

      now : EngineView
      now = engine_now seen me

      work : Work
      work = scan_found (kept_number (engine_now seen me).standing) (side_of_operation (the_view me).body.ask.op) found (scanning_now (the_view me).work)

      -- a scan is a scan still
      still : (w : Work) (d : ℕ) (p : Part) (l : List Ask) → w ≡ Scanning d p l → scanning_now w ≡ w
      still w d p l e = ap scanning_now e ∙ sym e

      next_part : (n : ℕ) (p : Part) → (d : ℕ) × (q : Part) × (l : List Ask) × (part_found (kept_number (engine_now seen me).standing) (side_of_operation (the_view me).body.ask.op) found n p asks ≡ Scanning d q l)
      next_part n AtNumber = go (eqb found (kept_number now.standing n + 1))
        where
          go : (b : Bool) → (d : ℕ) × (q : Part) × (l : List Ask) × ((if b then Scanning n (AtCode found) asks else Scanning (suc n) AtNumber asks) ≡ Scanning d q l)
          go true = (n, AtCode found, asks, refl)
          go false = (suc n, AtNumber, asks, refl)
      next_part n (AtCode number) = (n, AtFirst number found, asks, refl)
      next_part n (AtFirst number code) = (n, AtSecond number code found, asks, refl)
      next_part n (AtSecond number code a) = (n, AtThird number code a found, asks, refl)
      next_part n (AtThird number code a b) = (suc n, AtNumber, _, refl)

      again : scanning_now (scan_found (kept_number (engine_now seen me).standing) (side_of_operation (the_view me).body.ask.op) found (scanning_now (the_view me).work)) ≡ scan_found (kept_number (engine_now seen me).standing) (side_of_operation (the_view me).body.ask.op) found (scanning_now (the_view me).work)
      again =
          let is_next = next_part client part in
          still work is_next.0 is_next.1 is_next.2 (ap (scan_found (kept_number now.standing) (side_of_operation v.body.ask.op) found) at.at ∙ is_next.3)

      ready : IsReadyFor seen kind scanning_now (scan_step seen found me)
      ready = record {
        holds = record { value = at.ready.holds.value; is = ap (λ (m : Seated X). (scanned_on now found v ∷ [], m.1)) at.ready.holds.is };
        sound = at.ready.sound;
        hand = refl;
        ready = untouched again refl;
      }
