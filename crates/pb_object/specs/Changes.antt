-- What requests make of a state.
use Rattle.std.specs.Prelude.{List, [], ◌∷◌}
use Rattle.pb_object.specs.declared.request.Ask.{Ask}
use Rattle.pb_object.specs.Object.{State, next_state}

-- the state after requests, one after another
abbrev pub after_asks : State → List Ask → State
after_asks state [] = state
after_asks state (ask ∷ asks) = after_asks (next_state state ask.op) asks
