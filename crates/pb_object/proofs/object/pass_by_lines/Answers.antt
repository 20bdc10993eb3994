use Rattle.std.proofs.Common.{◌≡◌, Result, Ok, Err, OnOk, IfErr, sym, ◌∙◌}
use Rattle.pb_object.specs.Object.{State}
use Rattle.pb_object.specs.ObjectLines.{kind_of}
use Rattle.pb_object.proofs.ObjectLinesLemmas.{not_refused, same_state}
use Rattle.pb_object.proofs.object.pass_by_lines.Goals as goal

from_ok : {T E : Type 0} (r : Result T E) (P : Type 0) (Q : E → Type 0) → OnOk r P → IfErr r Q → ((e : E) → Q e → ⊥) → P
from_ok (Ok x) P Q p q no_error = p
from_ok (Err e) P Q p q no_error = absurd (no_error e q)

pub returns-clause-same : goal.returns-clause-same
returns-clause-same g c =
    let from : State = g.O.Object.state c.args.from.now in
    let into : State = g.O.Object.state c.args.into.now in
    let taken : State = g.O.Object.state c.take_lines.new.self in
    let of_kind : kind_of from ≡ g.O.Object.KIND = g.met.O.Object.is_of_kind c.args.from.now in
    let new_of_kind : kind_of taken ≡ g.O.Object.KIND = g.met.O.Object.is_of_kind c.take_lines.new.self in
    let stand = from_ok c.take_lines.result _ _ c.take_lines.ensures.taken c.take_lines.ensures.refused
    (λ refused first. not_refused _ from refused.line c.put_lines.ensures (rw (of_kind, sym c.requires.size) first)) in
    same_state _ taken from (new_of_kind ∙ sym of_kind) (c.take_lines.ensures.size ∙ c.requires.size)
    (λ queue. g.met.O.Object.is_no_queue (sym new_of_kind ∙ queue)) stand c.put_lines.ensures
