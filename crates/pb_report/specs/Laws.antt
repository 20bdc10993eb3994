-- What lists of outcomes promise.
use Rattle.std.specs.Prelude.{◌≡◌, ◌⊎◌, ℕ, ◌<◌, ◌^◌, List, [], ◌∷◌, IsSomeAnd, length, Contains}
use Rattle.std.specs.List.{zip, All}
use Rattle.pb_object.specs.declared.request.Ask.{Ask}
use Rattle.pb_object.specs.declared.request.Op.{Op}
use Rattle.pb_object.specs.declared.request.Reply.{Reply}
use Rattle.pb_object.specs.Codes.{action_of, answer_of, value_count}
use Rattle.pb_object.specs.History.{History, IsLegal}
use Rattle.pb_object.specs.Standing.{Standing}
use Rattle.pb_report.specs.declared.outcome.Outcome.{Outcome}
use Rattle.pb_report.specs.declared.outcome.Outcome.TheVariants.{New, Kept, Doubt}
use Rattle.pb_report.specs.OutcomeText.{outcomes_text}
use Rattle.pb_report.specs.Outcomes.{Outcomes, lines_of_client}
use Rattle.pb_object.specs.Request.{LeavesReplyZero}

-- the lines of one client agree, but for what comes from a doubt on
abbrev pub AgreeUntilDoubt : List (Ask × Outcome) → List (Ask × Outcome) → Type 0
AgreeUntilDoubt [] [] = Unit {0}
AgreeUntilDoubt (first ∷ firsts) (second ∷ seconds) =
    (first.1 ≡ Doubt) ⊎ ((second.1 ≡ Doubt) ⊎ ((first ≡ second) × AgreeUntilDoubt firsts seconds))
AgreeUntilDoubt [] (second ∷ seconds) = ⊥
AgreeUntilDoubt (first ∷ firsts) [] = ⊥

-- outcomes of the same requests over the same legal history agree, for each client, until one of them is a doubt
abbrev pub AreOneUntilDoubt : List Ask → List Outcome → List Outcome → Type 0
AreOneUntilDoubt asks first second =
    (s : Standing) (history : History) → length s.kept ≡ s.clients → IsLegal s history → Outcomes s history asks first → Outcomes s history asks second
    → (client : ℕ) → AgreeUntilDoubt (lines_of_client client (zip asks first)) (lines_of_client client (zip asks second))

abbrev pub HasNoDoubt : List Outcome → Type 0
HasNoDoubt outcomes = (Contains outcomes Doubt) → ⊥

-- where there is no doubt, the history has the outcomes of one list alone
abbrev pub AreOneWithoutDoubt : List Ask → List Outcome → List Outcome → Type 0
AreOneWithoutDoubt asks first second =
    (s : Standing) (history : History) → length s.kept ≡ s.clients → IsLegal s history → Outcomes s history asks first → Outcomes s history asks second
    → HasNoDoubt first → HasNoDoubt second → first ≡ second

-- a reply of which the text tells all: it has a code, and the numbers that it doesn't use are 0
pub record IsPlainReply (op : Op) (reply : Reply) : Type 0 where
  pub codes : IsSomeAnd (action_of op.code) (λ action. IsSomeAnd (answer_of reply.code) (λ answer. LeavesReplyZero (value_count action answer) reply))
  pub value : reply.value < 2 ^ 64
  pub extra : reply.extra < 2 ^ 64

abbrev pub IsPlainOutcome : Op → Outcome → Type 0
IsPlainOutcome op (New reply) = IsPlainReply op reply
IsPlainOutcome op (Kept reply) = IsPlainReply op reply
IsPlainOutcome op _ = Unit {0}

abbrev pub ArePlain : List Ask → List Outcome → Type 0
ArePlain asks outcomes = All (λ line. IsPlainOutcome line.0.op line.1) (zip asks outcomes)

-- two lists of outcomes of the same requests with one text are one list
abbrev pub TextTells : List Ask → List Outcome → List Outcome → Type 0
TextTells asks first second =
    length first ≡ length asks → length second ≡ length asks → ArePlain asks first → ArePlain asks second
    → outcomes_text asks first ≡ outcomes_text asks second → first ≡ second
