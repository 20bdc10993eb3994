use Rattle.std.proofs.Common.{◌≡◌, ◌≢◌, ◌∙◌, sym, refl}
use Rattle.pb_object.specs.declared.kind.Kind.{Kind}
use Rattle.pb_object.specs.declared.kind.Kind.TheVariants.{Map}
use Rattle.pb_object.specs.Object.{State, Registers, Items, Rising, Waits}
use Rattle.pb_object.specs.ObjectLines.{kind_of}
use Rattle.pb_broker.specs.Comes.{version_sum}
use Rattle.pb_broker.proofs.drill.no_versions.Goals as goal

-- only a map has registers
no_registers : (state : State) (kind : Kind) → kind_of state ≡ kind → kind ≢ Map → 0 ≡ version_sum state
no_registers (Registers registers) kind is other = absurd (other (sym is))
no_registers (Items size items) kind is other = refl
no_registers (Rising size items) kind is other = refl
no_registers (Waits size queue) kind is other = refl

pub returns : goal.returns
returns g c =
    no_registers (g.E.Engine.seen c.args.engine.now).standing.state c.args.kind (c.clients.ensures.sound.state_kind ∙ sym c.requires.kind) c.requires.other
