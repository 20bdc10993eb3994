-- A client that reads its reply.
use Rattle.std.specs.Prelude.{◌≡◌, ◌≢◌, ℕ, ◌/◌, ◌≤◌, ◌++◌, ◌∷◌, []}
use Rattle.pb_object.specs.declared.request.Reply.{Reply}
use Rattle.pb_core.specs.Client.{Looking, Confirming}
use Rattle.pb_core.specs.WordMoves.{go_to, sees, answered}
use Rattle.pb_rule.specs.View.{Turn, PassView}
use Rattle.pb_shared.specs.declared.answers.Attempt.{Attempt}
use Rattle.pb_shared.specs.declared.answers.Attempt.TheVariants.{Done, Busy, Fault}

-- it has the words of its reply
abbrev pub with_reply : ℕ → Reply → PassView → PassView
with_reply turn reply v = record v { body = go_to (Confirming turn reply) v.body }

-- the turn word behind the reply is of the same round
pub record IsConfirmed (turn : ℕ) (old new : PassView) : Type 0 where
  pub to : ℕ
  pub notes : new.notes ≡ old.notes ++ Turn to ∷ []
  pub round : to / 2 ≡ turn / 2
  pub front : new.body.front ≡ to / 2

-- what reading comes to: the reply counts, or the turn is of another round
abbrev pub HasReadReply : ℕ → PassView → PassView → Attempt → Type 0
HasReadReply turn old new (Done reply) =
    (new.body ≡ answered reply new.body.front old.body) × (old.body.front ≤ new.body.front) × (new.met ≡ old.met) × (new.served ≡ old.served) × IsConfirmed turn old new
HasReadReply turn old new (Busy from to) =
    (from ≡ turn) × (to / 2 ≢ turn / 2) × (new.body ≡ sees Looking to old.body) × (old.body.front ≤ new.body.front) × (new.notes ≡ old.notes ++ Turn to ∷ []) × (new.met ≡ old.met) × (new.served ≡ old.served)
HasReadReply turn old new (Fault from to) = ⊥
