-- Operations and replies.
use Rattle.std.specs.Prelude.{◌≡◌, ℕ, ◌<◌, ◌==◌, ◌&&◌, Bool, IsSomeAnd, option_map, unwrap_or}
use Rattle.pb_object.specs.declared.kind.Kind.{Kind}
use Rattle.pb_object.specs.declared.codes.Answer.{Answer}
use Rattle.pb_object.specs.declared.request.Op.{Op}
use Rattle.pb_object.specs.declared.request.Reply.{Reply}
use Rattle.pb_object.specs.declared.request.Kept.{Kept}
use Rattle.pb_object.specs.Codes.{action_of, action_kind, action_side, argument_count, answer_code}

-- the arguments after the first so many are 0
pub record LeavesUnusedZero (used : ℕ) (op : Op) : Type 0 where
  pub a : used < 1 → op.a ≡ 0
  pub b : used < 2 → op.b ≡ 0
  pub c : used < 3 → op.c ≡ 0

-- the numbers of a reply after the first so many are 0
pub record LeavesReplyZero (used : ℕ) (reply : Reply) : Type 0 where
  pub value : used < 1 → reply.value ≡ 0
  pub extra : used < 2 → reply.extra ≡ 0

-- an operation of this kind: its code is one of the kind's, and the arguments that it doesn't use are 0
abbrev pub IsOperation : Kind → Op → Type 0
IsOperation kind op = IsSomeAnd (action_of op.code) (λ action. (action_kind action ≡ kind) × LeavesUnusedZero (argument_count action) op)

-- the side of an operation, 0 for what is no operation
abbrev pub side_of_op : Op → ℕ
side_of_op op = unwrap_or (option_map action_side (action_of op.code)) 0

-- two operations are the same
abbrev pub is_same_op : Op → Op → Bool
is_same_op first second = first.code == second.code && first.a == second.a && first.b == second.b && first.c == second.c

-- the reply that says this
abbrev pub reply : Answer → ℕ → ℕ → Reply
reply answer value extra = record { code = answer_code answer; value = value; extra = extra }

-- what a state answers to an operation that isn't of its kind
abbrev pub no_reply : Reply
no_reply = record { code = 0; value = 0; extra = 0 }

-- the operation that asks for nothing
abbrev pub no_op : Op
no_op = record { code = 0; a = 0; b = 0; c = 0 }

-- no request was recorded yet
abbrev pub none_kept : Kept
none_kept = record { number = 0; op = no_op; reply = no_reply }
