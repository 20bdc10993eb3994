-- One word more of a reply row.
use Rattle.std.proofs.Common.{◌≡◌, ℕ, suc, ◌+◌, ◌<◌, [], ◌∷◌, Option, Some, sym, refl, ap, ◌∙◌, subst, arith}
use Rattle.pb_object.specs.declared.kind.Kind.{Kind}
use Rattle.pb_core.specs.Memory.{Work, Filling}
use Rattle.pb_engine.specs.View.{EngineView}
use Rattle.pb_rule.specs.View.{OwnRound, PassView}
use Rattle.pb_rule.specs.Plays.{Seated, the_view, engine_before, engine_now, filling_now, next_filled, own_by, filled_on, fill_step, publish_step, engine_or}
use Rattle.pb_rule.specs.Ready.{IsReadyFor, same_work, untouched}
use Rattle.pb_shared.specs.Filling.{bare, IsFilling, HasFilling, after_publishing}

module _ {X : Type 0} (seen : X → EngineView) (kind : Kind) where
  pub after_store : {start : PassView} {engine : EngineView} {own : Option OwnRound} {me : Seated X} (count : ℕ) (new : Seated X) → IsFilling seen kind start engine own count me → new ≡ fill_step seen me → IsFilling seen kind start engine own (count + 1) new
  after_store {start} {engine} {own} {me} count new at is = subst (IsFilling seen kind start engine own (count + 1)) (sym is) (record {
    ready = record {
      holds = record { value = at.ready.holds.value; is = ap (λ (m : Seated X). (filled_on (engine_before me) now v ∷ [], m.1)) at.ready.holds.is };
      sound = at.ready.sound;
      hand = refl;
      ready = untouched again refl;
    };
    at = again ∙ work;
    now = at.now;
    clients = at.clients;
    rest = at.rest;
    own_is = ap (λ (w : Work). own_by now v.body.front w mine) work ∙ at.own_is;
    later = λ some. (work, ap Some at.now);
  })
    where
      v : PassView
      v = the_view me

      now : EngineView
      now = engine_now seen me

      mine : Option OwnRound
      mine = own_by (engine_before me) (the_view me).body.front (the_view me).work (the_view me).own

      work : next_filled (filling_now (the_view me).work) ≡ Filling (count + 1)
      work = ap next_filled at.at ∙ ap Filling (one_more count)
        where
          one_more : (n : ℕ) → suc n ≡ n + 1
          one_more n = omega arith

      again : filling_now (next_filled (filling_now (the_view me).work)) ≡ next_filled (filling_now (the_view me).work)
      again = ap filling_now work ∙ sym work

  pub at_count : {start : PassView} {engine : EngineView} {own : Option OwnRound} {me : Seated X} (count other : ℕ) → count ≡ other → IsFilling seen kind start engine own count me → IsFilling seen kind start engine own other me
  at_count {start} {engine} {own} {me} count other same at =
      subst (λ (n : ℕ). IsFilling seen kind start engine own n me) same at

  pub at_seat : {start : PassView} {engine : EngineView} {own : Option OwnRound} (count : ℕ) (me other : Seated X) → other ≡ me → IsFilling seen kind start engine own count me → IsFilling seen kind start engine own count other
  at_seat {start} {engine} {own} count me other same at =
      subst (IsFilling seen kind start engine own count) (sym same) at

  pub has_filling : {start : PassView} {engine : EngineView} {own : Option OwnRound} {me : Seated X} {count : ℕ} → IsFilling seen kind start engine own count me → HasFilling seen kind count me
  has_filling {start} {engine} {own} at =
      record { start = start; engine = engine; own = own; is = at }

  -- what stays of the view
  pub bare_clients : (v w : PassView) → bare v ≡ bare w → v.clients ≡ w.clients
  bare_clients v w same = ap (λ (u : PassView). u.clients) same

  pub bare_front : (v w : PassView) → bare v ≡ bare w → v.body.front ≡ w.body.front
  bare_front v w same = ap (λ (u : PassView). u.body.front) same

  pub bare_client : (v w : PassView) → bare v ≡ bare w → v.client ≡ w.client
  bare_client v w same = ap (λ (u : PassView). u.client) same

  -- All words are stored

  pub engine_same : {start : PassView} {engine : EngineView} {own : Option OwnRound} {me : Seated X} (count : ℕ) → 0 < count → IsFilling seen kind start engine own count me → engine_before me ≡ engine
  engine_same count some at = ap engine_or (at.later some).1

  pub publish_ready : {start : PassView} {engine : EngineView} {own : Option OwnRound} {me : Seated X} (count : ℕ) → 0 < count → IsFilling seen kind start engine own count me → IsReadyFor seen kind same_work me
  publish_ready count some at = record {
    holds = at.ready.holds;
    sound = at.ready.sound;
    hand = at.ready.hand;
    ready = untouched refl (at.now ∙ sym (engine_same count some at));
  }

  pub own_same : {start : PassView} {engine : EngineView} {own : Option OwnRound} {me : Seated X} (count : ℕ) → 0 < count → IsFilling seen kind start engine own count me → (the_view me).own ≡ own
  own_same {me = me} count some at =
      sym (ap (λ (w : Work). own_by (engine_before me) (the_view me).body.front w (the_view me).own) (at.later some).0) ∙ at.own_is

  pub after_publish : {start : PassView} {engine : EngineView} {own : Option OwnRound} {me : Seated X} (count : ℕ) (new : Seated X) → 0 < count → IsFilling seen kind start engine own count me → new ≡ publish_step me → new ≡ (after_publishing engine own start ∷ [], [])
  after_publish count new some at is =
      is ∙ (λ i. (after_publishing (engine_same count some at i) (own_same count some at i) (at.rest i) ∷ [], []))
