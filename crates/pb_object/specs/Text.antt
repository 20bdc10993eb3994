-- Operations and replies as scripts and outcome lines spell them.
use Rattle.std.specs.Prelude.{ℕ, List, [], ◌∷◌, ◌++◌, Option, Some, None, codes, decimal, take}
use Rattle.pb_object.specs.declared.codes.Action.{Action}
use Rattle.pb_object.specs.declared.codes.Answer.{Answer}
use Rattle.pb_object.specs.declared.request.Op.{Op}
use Rattle.pb_object.specs.declared.request.Reply.{Reply}
use Rattle.pb_object.specs.Codes.{action_of, action_word, argument_count, answer_of, answer_word, value_count}

-- each number in decimal, after a space
abbrev pub spaced : List ℕ → List ℕ
spaced [] = []
spaced (n ∷ ns) = codes " " ++ (decimal n ++ spaced ns)

-- an operation that asks for this action, in its script form
abbrev pub op_text_by : Option Action → Op → List ℕ
op_text_by (Some action) op = action_word action ++ spaced (take (argument_count action) (op.a ∷ op.b ∷ op.c ∷ []))
op_text_by None op = []

-- an operation in its script form, as `put 3 77`
abbrev pub op_text : Op → List ℕ
op_text op = op_text_by (action_of op.code) op

-- a reply to this action that says this, as an outcome line spells it
abbrev pub reply_text_by : Option Action → Option Answer → Reply → List ℕ
reply_text_by (Some action) (Some answer) reply = answer_word answer ++ spaced (take (value_count action answer) (reply.value ∷ reply.extra ∷ []))
reply_text_by _ _ reply = []

-- the reply to an operation, as `was 0 1`
abbrev pub reply_text : Op → Reply → List ℕ
reply_text op reply = reply_text_by (action_of op.code) (answer_of reply.code) reply
