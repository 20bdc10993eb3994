-- The line of one slot of a client in a record: a recorded request, with the reply.
use Rattle.std.specs.Prelude.{◌≡◌, ◌⊎◌, ℕ, ◌≤◌, IsSomeAnd, Contains}
use Rattle.pb_pmem.specs.declared.line.Line.{Line}
use Rattle.pb_pmem.specs.Lines.{line_of}
use Rattle.pb_object.specs.declared.kind.Kind.{Kind}
use Rattle.pb_object.specs.declared.request.Op.{Op}
use Rattle.pb_object.specs.declared.request.Reply.{Reply}
use Rattle.pb_object.specs.declared.request.Kept.{Kept}
use Rattle.pb_object.specs.declared.request.TheConstants.{LAST_NUMBER}
use Rattle.pb_object.specs.Codes.{action_of, answer_of, answers_of, value_count}
use Rattle.pb_object.specs.History.{IsOfSide}
use Rattle.pb_object.specs.Request.{IsOperation, none_kept, LeavesReplyZero}
use Rattle.pb_layout.specs.Header.{word}

-- the line of a kept request: its number, its operation and its reply
abbrev pub client_line_of : Kept → Line
client_line_of kept = line_of kept.number kept.op.code kept.op.a kept.op.b kept.op.c kept.reply.code kept.reply.value kept.reply.extra

-- the kept request whose line this is: each line is that of one
abbrev pub kept_in : Line → Kept
kept_in line = record {
  number = word line 0;
  op = record { code = word line 1; a = word line 2; b = word line 3; c = word line 4 };
  reply = record { code = word line 5; value = word line 6; extra = word line 7 };
}

-- a reply that an operation may have: its code is one of the operation's, and the numbers that it doesn't use are 0
abbrev pub IsReplyTo : Op → Reply → Type 0
IsReplyTo op reply =
    IsSomeAnd (action_of op.code) (λ action. IsSomeAnd (answer_of reply.code) (λ answer. Contains (answers_of action) answer × LeavesReplyZero (value_count action answer) reply))

-- a request that may have been recorded on this side of an object of this kind
pub record IsRecorded (kind : Kind) (side : ℕ) (kept : Kept) : Type 0 where
  pub some : 1 ≤ kept.number
  pub few : kept.number ≤ LAST_NUMBER
  pub operation : IsOperation kind kept.op
  pub of_side : IsOfSide side kept.op
  pub reply : IsReplyTo kept.op kept.reply

-- what may be kept of a client on this side: no request, or one that may have been recorded
abbrev pub IsKept : Kind → ℕ → Kept → Type 0
IsKept kind side kept = (kept ≡ none_kept) ⊎ IsRecorded kind side kept
