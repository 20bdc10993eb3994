use Rattle.std.proofs.Common.{◌≡◌, true, false, refl, arith, rules}
use Rattle.std.proofs.lemmas.Bool.Decides.{nat_tests}
use Rattle.std.proofs.lemmas.List.{nil_from_length}
use Rattle.pb_script.specs.Words.{fields, is_request}
use Rattle.pb_script.proofs.Counting.{one_more, no_more, none_left}
use Rattle.pb_script.proofs.script.is_short.Goals as goal

pub returns-then-requests-eq-MOST_REQUESTS : goal.returns-then-requests-eq-MOST_REQUESTS
returns-then-requests-eq-MOST_REQUESTS c =
    let asks : is_request (fields c.cut_line.result.0.now) ≡ true = search rules in
    let more = one_more c.loop-rest.rest.now c.cut_line.result.0.now c.cut_line.result.1.now c.cut_line.ensures.cut asks in
    grind (arith, nat_tests, more, c.loop-rest.invariant.counted, c.loop-rest.invariant.few)

pub loop-rest-preserved-else-requests-eq-MOST_REQUESTS : goal.loop-rest-preserved-else-requests-eq-MOST_REQUESTS
loop-rest-preserved-else-requests-eq-MOST_REQUESTS c =
    let asks : is_request (fields c.cut_line.result.0.now) ≡ true = search rules in
    let more = one_more c.loop-rest.rest.now c.cut_line.result.0.now c.cut_line.result.1.now c.cut_line.ensures.cut asks in
    record {
      counted = omega (arith, more, c.loop-rest.invariant.counted);
      few = grind (arith, nat_tests, c.loop-rest.invariant.few);
    }

pub loop-rest-preserved : goal.loop-rest-preserved
loop-rest-preserved c =
    let asks : is_request (fields c.cut_line.result.0.now) ≡ false = search rules in
    let more = no_more c.loop-rest.rest.now c.cut_line.result.0.now c.cut_line.result.1.now c.cut_line.ensures.cut asks in
    record { counted = omega (arith, more, c.loop-rest.invariant.counted); few = c.loop-rest.invariant.few }

pub returns : goal.returns
returns c =
    let none = none_left c.loop-rest.rest.now (nil_from_length c.loop-rest.rest.now (grind (arith, nat_tests))) in
    (λ _. omega (arith, none, c.loop-rest.invariant.counted, c.loop-rest.invariant.few), λ _. refl)
