-- A client that reads its reply.
use Rattle.std.proofs.Common.{◌≡◌, ◌≢◌, ℕ, ◌≤◌, eqb, Bool, true, false, [], ◌∷◌, sym, refl, ap, ◌∙◌, subst}
use Rattle.std.proofs.lemmas.Bool.{eq-eqb, ne_eqb}
use Rattle.pb_object.specs.declared.request.Reply.{Reply}
use Rattle.pb_core.specs.Client.{Stage, LoadsCode, Confirming}
use Rattle.pb_core.specs.Memory.{round_of_turn}
use Rattle.pb_core.specs.WordMoves.{go_to, answered}
use Rattle.pb_rule.specs.View.{PassView}
use Rattle.pb_rule.specs.Plays.{Seated, the_view, IsPlain, with_view, first_turn, reply_found, word_found, row_word_found, confirmed_if, confirmed, confirms}
use Rattle.pb_shared.specs.declared.answers.Attempt.TheVariants.{Done, Busy}
use Rattle.pb_shared.specs.Reads.{with_reply, HasReadReply}
use Rattle.pb_shared.specs.Tries.{IsSamePass}

module _ {X : Type 0} where
  pub plain_with : (me new : Seated X) (change : PassView → PassView) → IsPlain me → new ≡ with_view change me → IsPlain new
  plain_with me new change plain is =
      subst IsPlain (sym is) (refl, plain.1)

  -- the stage after a word of the reply
  pub stage_after : (me new : Seated X) (found : ℕ) (stage : Stage) → (the_view me).body.stage ≡ stage → new ≡ with_view (row_word_found found) me → (the_view new).body.stage ≡ word_found found stage
  stage_after me new found stage at is =
      ap (λ (m : Seated X). (the_view m).body.stage) is ∙ ap (word_found found) at

  -- all words of the reply
  pub whole_reply : (a b c d : Seated X) (turn code value extra : ℕ) → (the_view a).body.stage ≡ LoadsCode turn → b ≡ with_view (row_word_found code) a → c ≡ with_view (row_word_found value) b → d ≡ with_view (row_word_found extra) c
      → d ≡ with_view (with_reply turn (record { code = code; value = value; extra = extra })) a
  whole_reply a b c d turn code value extra at first second third =
      third ∙ (ap (with_view (row_word_found extra)) (second ∙ ap (with_view (row_word_found value)) first)
      ∙ (λ i. (record (the_view a) { body = go_to (word_found extra (word_found value (word_found code (at i)))) (the_view a).body } ∷ [], a.1)))

  -- the turn behind it
  pub confirm_stage : (a b : Seated X) (turn : ℕ) (reply : Reply) → b ≡ with_view (with_reply turn reply) a → (the_view b).body.stage ≡ Confirming (first_turn (the_view b).body.stage) (reply_found (the_view b).body.stage)
  confirm_stage a b turn reply is =
      subst (λ (m : Seated X). (the_view m).body.stage ≡ Confirming (first_turn (the_view m).body.stage) (reply_found (the_view m).body.stage)) (sym is) refl

  module _ (a b c : Seated X) (turn to : ℕ) (reply : Reply) (read : b ≡ with_view (with_reply turn reply) a) (seen : c ≡ with_view (confirms to) b) (later : (the_view b).body.front ≤ round_of_turn to) where
    view_is : the_view c ≡ confirmed turn reply to (with_reply turn reply (the_view a))
    view_is =
        ap (λ (m : Seated X). the_view m) (seen ∙ ap (with_view (confirms to)) read)

    front : (the_view a).body.front ≤ round_of_turn to
    front = subst (λ (n : ℕ). n ≤ round_of_turn to) (ap (λ (m : Seated X). (the_view m).body.front) read) later

    pub counts : round_of_turn to ≡ round_of_turn turn → HasReadReply turn (the_view a) (the_view c) (Done reply)
    counts same =
        let is : the_view c ≡ confirmed_if true reply to (with_reply turn reply (the_view a)) = view_is ∙ ap (λ (b : Bool). confirmed_if b reply to (with_reply turn reply (the_view a))) (eq-eqb _ _ same) in
        let rounds : round_of_turn to ≡ (the_view c).body.front = sym (ap (λ (v : PassView). v.body.front) is) in (
          ap (λ (v : PassView). v.body) is ∙ (λ i. answered reply (rounds i) (the_view a).body),
          subst (λ (n : ℕ). (the_view a).body.front ≤ n) rounds front,
          ap (λ (v : PassView). v.met) is,
          ap (λ (v : PassView). v.served) is,
          record { to = to; notes = ap (λ (v : PassView). v.notes) is; round = same; front = sym rounds },
        )

    pub other_round : round_of_turn to ≢ round_of_turn turn → HasReadReply turn (the_view a) (the_view c) (Busy turn to)
    other_round other =
        let is : the_view c ≡ confirmed_if false reply to (with_reply turn reply (the_view a)) = view_is ∙ ap (λ (b : Bool). confirmed_if b reply to (with_reply turn reply (the_view a))) (ne_eqb _ _ other) in (
          refl,
          other,
          ap (λ (v : PassView). v.body) is,
          subst (λ (n : ℕ). (the_view a).body.front ≤ n) (sym (ap (λ (v : PassView). v.body.front) is)) front,
          ap (λ (v : PassView). v.notes) is,
          ap (λ (v : PassView). v.met) is,
          ap (λ (v : PassView). v.served) is,
        )

    pub same_pass : IsSamePass (the_view a) (the_view c)
    same_pass = by (eqb (round_of_turn to) (round_of_turn turn)) view_is
      where
        by : (b : Bool) → the_view c ≡ confirmed_if b reply to (with_reply turn reply (the_view a)) → IsSamePass (the_view a) (the_view c)
        by true is = record { clients = ap (λ (v : PassView). v.clients) is; client = ap (λ (v : PassView). v.client) is }
        by false is = record { clients = ap (λ (v : PassView). v.clients) is; client = ap (λ (v : PassView). v.client) is }
