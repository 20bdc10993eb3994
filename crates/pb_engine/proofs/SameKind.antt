-- An engine's kind, by its view.
use Rattle.std.proofs.Common.{sym, subst}
use Rattle.pb_object.specs.declared.kind.Kind.{Kind}
use Rattle.pb_engine.specs.View.{EngineView, IsEngine}

-- an engine is one of the kind of its own standing
pub of_own_kind : (kind : Kind) (engine : EngineView) → IsEngine kind engine → IsEngine engine.standing.kind engine
of_own_kind kind engine is = subst (λ (k : Kind). IsEngine k engine) (sym is.kind_is) is

-- an engine after a call is one of the kind of the standing before, where both are of one kind
pub of_kind_before : (kind : Kind) (old new : EngineView) → IsEngine kind old → IsEngine kind new → IsEngine old.standing.kind new
of_kind_before kind old new is next = subst (λ (k : Kind). IsEngine k new) (sym is.kind_is) next

-- an engine after a call has the kind of the one before
pub of_same_kind : (kind : Kind) (old new : EngineView) → IsEngine kind old → IsEngine old.standing.kind new → IsEngine kind new
of_same_kind kind old new is next = subst (λ (k : Kind). IsEngine k new) is.kind_is next
