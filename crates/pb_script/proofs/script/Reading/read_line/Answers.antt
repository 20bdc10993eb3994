use Rattle.std.proofs.Common.{◌≡◌, ◌<◌, true, false, Some, rules, arith, sym, ap, subst, ◌∙◌}
use Rattle.std.proofs.lemmas.Bool.{false≢true}
use Rattle.std.proofs.lemmas.Option.{same_Some}
use Rattle.std.specs.Option.{is_some}
use Rattle.pb_object.specs.declared.request.Ask.{Ask}
use Rattle.pb_script.specs.Request.{request_of}
use Rattle.pb_script.specs.Reading.{FollowsLast}
use Rattle.pb_script.specs.Words.{words, fields, is_request}
use Rattle.pb_script.proofs.Steps.{Holds_skip, Holds_after, Holds_refused, Holds_push, too_many}
use Rattle.pb_script.proofs.script.Reading.read_line.Goals as goal
use Rattle.pb_script.proofs.script.Reading.read_line.Goals.{in_default-via-in-Some+else-follows, in_default-via-in_default}

pub returns-then-not-is_request : goal.returns-then-not-is_request
returns-then-not-is_request c = λ read h.
    let e : is_request (fields c.args.line.now) ≡ false = ap (λ t. is_request (words t)) (sym c.without_return-text.ensures) ∙ sym c.is_request.ensures ∙ (search rules) in
    Holds_skip c.args.kind c.args.clients read c.args.line.now c.args.self.now e h

pub returns-then-self-ge-MOST_REQUESTS : goal.returns-then-self-ge-MOST_REQUESTS
returns-then-self-ge-MOST_REQUESTS c = λ read h.
    let e : is_request (fields c.args.line.now) ≡ true = ap (λ t. is_request (words t)) (sym c.without_return-text.ensures) ∙ sym c.is_request.ensures ∙ (search rules) in
    too_many c.args.kind c.args.clients read c.args.line.now c.args.self.now e (omega arith) h

pub returns-then-is_some : goal.returns-then-is_some
returns-then-is_some c = λ read h.
    let e : is_request (fields c.args.line.now) ≡ true = ap (λ t. is_request (words t)) (sym c.without_return-text.ensures) ∙ sym c.is_request.ensures ∙ (search rules) in
    Holds_after c.args.kind c.args.clients read c.args.line.now c.args.self.now e (omega arith) (search rules) h

pub returns-in_ok-add-in-Some : goal.returns-in_ok-add-in-Some
returns-in_ok-add-in-Some c = λ read h.
    let e : is_request (fields c.args.line.now) ≡ true = ap (λ t. is_request (words t)) (sym c.without_return-text.ensures) ∙ sym c.is_request.ensures ∙ (search rules) in
    let reads : request_of c.args.kind c.args.clients (fields c.args.line.now) ≡ Some c.in-Some.ask = ap (λ t. request_of c.args.kind c.args.clients (words t)) (sym c.without_return-text.ensures) ∙ sym c.in-Some.ensures.value in
    let added = c.in_ok-add-in-Some.ensures in
    let refused : is_some c.args.self.now.refused ≡ false = search rules in
    Holds_push c.args.kind c.args.clients read c.args.line.now c.args.self.now c.add.new.self c.in-Some.ask e (omega arith) refused reads (omega (arith, c.in-Some.ensures.within.0)) c.in-Some.ensures.within.1 (search rules)
    added.0 added.1 added.2 added.3 added.4 h

pub returns-in_default : goal.returns-in_default
returns-in_default c = λ read h.
    let e : is_request (fields c.args.line.now) ≡ true = ap (λ t. is_request (words t)) (sym c.without_return-text.ensures) ∙ sym c.is_request.ensures ∙ (search rules) in
    let refused : is_some c.args.self.now.refused ≡ false = search rules in
    let refuses : (ask : Ask) → request_of c.args.kind c.args.clients (fields c.args.line.now) ≡ Some ask → (ask.client < 16) × (FollowsLast c.args.self.now.last ask → ⊥) = λ ask reads.
    let result : c.read_request.result ≡ Some ask = c.read_request.ensures.value ∙ ap (λ t. request_of c.args.kind c.args.clients (words t)) c.without_return-text.ensures ∙ reads in
    elim c.in_default.branch [
      | in_default-via-in-Some+else-follows w ↦ (
          let P : Ask → Type 0 = λ asked. (asked.client < 16) × (FollowsLast c.args.self.now.last asked → ⊥) in
          subst P (same_Some w.in-Some.ask ask (sym w.in-Some.is ∙ result)) (omega (arith, w.in-Some.ensures.within.0), λ next. false≢true (w.if-follows.ensures.1 next))
          )
      | in_default-via-in_default w ↦ absurd (w.in_default.not-Some ask result)
    ] in
    Holds_refused c.args.kind c.args.clients read c.args.line.now c.args.self.now e (omega arith) refused refuses h
