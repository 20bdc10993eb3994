-- The device's calls, one after the other.
use Rattle.std.proofs.Common.{◌≡◌, ℕ, ◌+◌, ◌<◌, ◌≤◌, Bool, true, false, List, [], ◌∷◌, ◌++◌, length, get_or, option_to_list, Option, Some, None, ap, subst, sym, refl, ◌∙◌, arith, length-append}
use Rattle.std.proofs.lemmas.List.Folds.{list_all-append}
use Rattle.pb_pmem.specs.declared.log.LogOp.{LogOp}
use Rattle.pb_pmem.specs.Contents.{contents}
use Rattle.pb_pmem.specs.Device.{Tale}
use Rattle.pb_pmem.proofs.Lines.{length-contents, contents-append}
use Rattle.pb_crash.specs.declared.leaves.Leaves.{Leaves}
use Rattle.pb_crash.specs.Leaves.{left_by}
use Rattle.pb_crash.specs.Within.{is_within}
use Rattle.pb_core.specs.World.{CallProgress, NoCall, InCall}
use Rattle.pb_core.proofs.Lists.{cut_on}
use Rattle.pb_play.specs.declared.calls.Calls.{Calls}
use Rattle.pb_play.specs.declared.device.Device.{Device}
use Rattle.pb_play.specs.Device.{IsReached, ShowsProgress, ShowsDevice, MakesCall, FailsCall}
use Rattle.pb_core.specs.Play.{IsCallable}
use Rattle.pb_round_play.specs.Shape.{AreWithin}
use Rattle.pb_play.specs.Shape.{IsDevice, AddsTo}

-- What is added keeps the device whole

pub device_adds : {ops : List LogOp} {old new : Device} → AddsTo ops old new → IsDevice old → AreWithin ops → length old.log.items + length ops ≤ old.room → IsDevice new
device_adds {ops} {old} {new} adds is within fits = record {
  base = ap (λ v. length v.items) adds.base ∙ is.base;
  lines = ap length adds.lines ∙ (length-contents old.lines.items ops ∙ is.lines);
  backs = ap (λ v. length v.items) adds.backs ∙ is.backs;
  within = rw (adds.log, list_all-append is_within old.log.items ops, is.within) within;
  few = omega (arith, fits, adds.room, ap length adds.log, length-append old.log.items ops);
  room = omega (arith, adds.room, adds.capacity, is.room);
  small = omega (arith, adds.room, is.small);
}

-- The next call

callable_is : (calls : Calls) (progress : CallProgress) → ShowsProgress calls.going calls.plan.items calls.made progress → IsCallable progress → (calls.going ≡ true) × (calls.made < length calls.plan.items)
callable_is calls progress shows due = go calls.going refl progress shows due
  where
    go : (going : Bool) → calls.going ≡ going → (now : CallProgress) → ShowsProgress going calls.plan.items calls.made now → IsCallable now → (calls.going ≡ true) × (calls.made < length calls.plan.items)
    go false is NoCall s d = absurd d
    go false is (InCall entry made left) s d = absurd s
    go true is NoCall s d = absurd d
    go true is (InCall entry made []) s d = absurd d
    go true is (InCall entry made (op ∷ left)) s d = (is, omega (arith, s.count, ap length s.all, length-append made (op ∷ left)))

pub callable_going : {calls : Calls} {device : Device} {tale : Tale} {progress : CallProgress} → ShowsDevice calls device tale progress → IsCallable progress → calls.going ≡ true
callable_going {calls} {progress = progress} s due = (callable_is calls progress s.progress_is due).0

pub callable_left : {calls : Calls} {device : Device} {tale : Tale} {progress : CallProgress} → ShowsDevice calls device tale progress → IsCallable progress → calls.made < length calls.plan.items
callable_left {calls} {progress = progress} s due = (callable_is calls progress s.progress_is due).1

-- the call at the place that is reached
reached_op : (plan : List LogOp) (reached : ℕ) (made left : List LogOp) (op d : LogOp) → IsReached plan reached made (op ∷ left) → get_or plan reached d ≡ op
reached_op plan reached made left op d is =
    (λ i. get_or (sym is.all i) (sym is.count i) d) ∙ at_end made
  where
    at_end : (l : List LogOp) → get_or (l ++ op ∷ left) (length l) d ≡ op
    at_end [] = refl
    at_end (x ∷ l) = at_end l

reached_more : (plan : List LogOp) (reached : ℕ) (made left : List LogOp) (op : LogOp) → IsReached plan reached made (op ∷ left) → IsReached plan (reached + 1) (made ++ op ∷ []) left
reached_more plan reached made left op is = record {
  all = cut_on made op left ∙ is.all;
  count = omega (arith, length-append made (op ∷ []), is.count);
}

-- the log and the lines after more operations
adds_log : {ops : List LogOp} {old new : Device} {log : List LogOp} → AddsTo ops old new → log ≡ old.log.items → log ++ ops ≡ new.log.items
adds_log {ops} adds is = ap (λ l. l ++ ops) is ∙ sym adds.log

adds_lines : {ops : List LogOp} {old new : Device} (tale : Tale) → AddsTo ops old new → contents tale.base tale.log ≡ old.lines.items → contents tale.base (tale.log ++ ops) ≡ new.lines.items
adds_lines {ops} tale adds is = contents-append tale.base tale.log ops ∙ (ap (λ l. contents l ops) is ∙ sym adds.lines)

-- where a call is due, it is the one at the place that is reached
pub due_reached : {calls : Calls} {device : Device} {tale : Tale} {progress : CallProgress} {entry made left : List LogOp} {op : LogOp} → ShowsDevice calls device tale progress → progress ≡ InCall entry made (op ∷ left) → calls.going ≡ true → IsReached calls.plan.items calls.made made (op ∷ left)
due_reached {calls} {entry = entry} {made = made} {left = left} {op = op} s is going =
    subst (λ (g : Bool). ShowsProgress g calls.plan.items calls.made (InCall entry made (op ∷ left))) going
    (subst (λ (q : CallProgress). ShowsProgress calls.going calls.plan.items calls.made q) is s.progress_is)

pub makes_call : {calls : Calls} {old new : Device} {tale : Tale} {progress : CallProgress} (op d : LogOp) → op ≡ get_or calls.plan.items calls.made d → AddsTo (op ∷ []) old new → ShowsDevice calls old tale progress → IsCallable progress → MakesCall tale progress (record calls { made = calls.made + 1 }) new
makes_call {calls} {old} {new} {tale} {progress} op d at adds s due = go progress refl due
  where
    go : (now : CallProgress) → progress ≡ now → IsCallable now → MakesCall tale progress (record calls { made = calls.made + 1 }) new
    go NoCall is due' = absurd due'
    go (InCall entry made []) is due' = absurd due'
    go (InCall entry made (next ∷ left)) is due' =
        let going : calls.going ≡ true = callable_going s due in
        let reached : IsReached calls.plan.items calls.made made (next ∷ left) = due_reached s is going in
        let same : op ≡ next = at ∙ reached_op calls.plan.items calls.made made left next d reached in
        let added : AddsTo (next ∷ []) old new = subst (λ (o : LogOp). AddsTo (o ∷ []) old new) same adds in
        record {
          entry = entry;
          made = made;
          op = next;
          left = left;
          at = is;
          shows = record {
            progress_is = subst (λ (g : Bool). ShowsProgress g calls.plan.items (calls.made + 1) (InCall entry (made ++ next ∷ []) left)) (sym going) (reached_more calls.plan.items calls.made made left next reached);
            base = s.base ∙ ap (λ v. v.items) (sym added.base);
            log = adds_log added s.log;
            lines = adds_lines tale added s.lines;
          };
        }

pub fails_call : {calls : Calls} {old new : Device} {tale : Tale} {progress : CallProgress} (how : Leaves) (op d : LogOp) → op ≡ get_or calls.plan.items calls.made d → AddsTo (option_to_list (left_by how op)) old new → ShowsDevice calls old tale progress → IsCallable progress → FailsCall how tale progress (record calls { going = false }) new
fails_call {calls} {old} {new} {tale} {progress} how op d at adds s due = go progress refl due
  where
    go : (now : CallProgress) → progress ≡ now → IsCallable now → FailsCall how tale progress (record calls { going = false }) new
    go NoCall is due' = absurd due'
    go (InCall entry made []) is due' = absurd due'
    go (InCall entry made (next ∷ left)) is due' =
        let going : calls.going ≡ true = callable_going s due in
        let reached : IsReached calls.plan.items calls.made made (next ∷ left) = due_reached s is going in
        let same : op ≡ next = at ∙ reached_op calls.plan.items calls.made made left next d reached in
        let added : AddsTo (option_to_list (left_by how next)) old new = subst (λ (o : LogOp). AddsTo (option_to_list (left_by how o)) old new) same adds in
        record {
          entry = entry;
          made = made;
          op = next;
          left = left;
          at = is;
          shows = record {
            progress_is = tt;
            base = s.base ∙ ap (λ v. v.items) (sym added.base);
            log = adds_log added s.log;
            lines = adds_lines tale added s.lines;
          };
        }

pub one_at_most : (added : Option LogOp) → length (option_to_list added) ≤ 1
one_at_most None = omega arith
one_at_most (Some op) = omega arith
