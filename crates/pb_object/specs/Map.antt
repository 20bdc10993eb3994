-- The versioned register map.
use Rattle.std.specs.Prelude.{ℕ, ◌+◌, List, Option, Some, if◌then◌else◌, ◌==◌, nat_lt, length, slice_index_or, slice_set}
use Rattle.pb_object.specs.declared.codes.Action.{Action}
use Rattle.pb_object.specs.declared.codes.Action.TheVariants.{Get, Put, Cas}
use Rattle.pb_object.specs.declared.codes.Answer.TheVariants.{Is, Was, Stale, NoKey, Worn}
use Rattle.pb_object.specs.declared.map.Register.{Register as MapRegister}
use Rattle.pb_object.specs.declared.request.Op.{Op}
use Rattle.pb_object.specs.declared.request.Reply.{Reply}
use Rattle.pb_object.specs.Codes.{action_of, answer_code}
use Rattle.pb_object.specs.Request.{reply, no_reply}

-- a register: its value, and how often it was written
abbrev pub Register : Type 0
Register = MapRegister

-- the last version that a register can have: 2^62
abbrev pub last_version : ℕ
last_version = 4611686018427387904

-- a register that was never written
abbrev pub empty_register : Register
empty_register = record { value = 0; version = 0 }

-- the register of a key; past the end an empty one
abbrev pub register_at : List Register → ℕ → Register
register_at registers key = slice_index_or registers key empty_register

-- a write is answered by the value before and the version now, or refused at the last version
abbrev pub write_reply : Register → Reply
write_reply register =
    if nat_lt register.version last_version then reply Was register.value (register.version + 1) else reply Worn 0 0

-- the register after a write
abbrev pub after_write : ℕ → Register → Register
after_write value register =
    if nat_lt register.version last_version then record { value = value; version = register.version + 1 } else register

-- the reply of a register that is there
abbrev pub register_reply : Option Action → Register → Op → Reply
register_reply (Some Get) register op = reply Is register.value register.version
register_reply (Some Put) register op = write_reply register
register_reply (Some Cas) register op =
    if register.version == op.b then write_reply register else reply Stale register.value register.version
register_reply _ register op = no_reply

-- the value that an action writes
abbrev pub written : Option Action → Op → ℕ
written (Some Put) op = op.b
written (Some Cas) op = op.c
written _ op = 0

-- the reply of a map to an operation
abbrev pub map_reply : List Register → Op → Reply
map_reply registers op =
    if nat_lt op.a (length registers) then register_reply (action_of op.code) (register_at registers op.a) op else reply NoKey 0 0

-- the registers after an operation: where the reply is `was` the register has the new value and the next version; otherwise nothing changes
abbrev pub next_registers : List Register → Op → List Register
next_registers registers op =
    if (map_reply registers op).code == answer_code Was
    then slice_set registers op.a (record { value = written (action_of op.code) op; version = (register_at registers op.a).version + 1 })
    else registers
