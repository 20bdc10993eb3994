-- A holder that stores the words of the next reply row, and publishes.
use Rattle.std.specs.Prelude.{◌≡◌, ℕ, suc, ◌*◌, ◌<◌, ◌++◌, ◌∷◌, [], ◌==◌, Some, None, Option}
use Rattle.pb_object.specs.declared.kind.Kind.{Kind}
use Rattle.pb_object.specs.Standing.{newest_of}
use Rattle.pb_core.specs.Memory.{NoWork, Filling}
use Rattle.pb_engine.specs.View.{EngineView}
use Rattle.pb_rule.specs.View.{Turn, Row, OwnRound, PassView}
use Rattle.pb_rule.specs.Plays.{Seated, the_view, engine_before, engine_now, filling_now, own_by, own_round, published_body}
use Rattle.pb_rule.specs.Ready.{IsReadyFor}

-- a view but for what the holder is at
abbrev pub bare : PassView → PassView
bare v = record v { work = NoWork; hand = None; own = None }

-- so many words are stored; the round that is filled from the own scan, if there is one, is this
pub record IsFilling {X : Type 0} (seen : X → EngineView) (kind : Kind) (start : PassView) (engine : EngineView) (own : Option OwnRound) (count : ℕ) (me : Seated X) : Type 0 where
  pub ready : IsReadyFor seen kind filling_now me
  pub at : filling_now (the_view me).work ≡ Filling count
  pub now : engine_now seen me ≡ engine
  pub clients : engine.standing.clients ≡ start.clients
  pub rest : bare (the_view me) ≡ bare start
  pub own_is : own_by (engine_before me) (the_view me).body.front (the_view me).work (the_view me).own ≡ own
  pub later : 0 < count → ((the_view me).work ≡ Filling count) × ((the_view me).hand ≡ Some engine)

pub record HasFilling {X : Type 0} (seen : X → EngineView) (kind : Kind) (count : ℕ) (me : Seated X) : Type 0 where
  pub start : PassView
  pub engine : EngineView
  pub own : Option OwnRound
  pub is : IsFilling seen kind start engine own count me

-- the view after publishing: the holder is answered where the round has its request
abbrev pub after_publishing : EngineView → Option OwnRound → PassView → PassView
after_publishing engine own v = record v {
  body = published_body ((newest_of engine.standing v.client).number == v.body.ask.number) (newest_of engine.standing v.client).reply v.body;
  notes = v.notes ++ Row (newest_of engine.standing v.client).number ∷ Turn (2 * suc v.body.front) ∷ [];
  served = v.served ++ own_round own;
  work = NoWork;
  hand = None;
  own = None;
}
