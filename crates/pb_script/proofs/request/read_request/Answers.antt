use Rattle.std.proofs.Common.{◌∙◌}
use Rattle.pb_script.specs.Words.{words}
use Rattle.pb_script.proofs.Asking.{request_no_client, request_no_number, request_no_operation, request_whole}
use Rattle.pb_script.proofs.request.read_request.Goals as goal

pub returns-in_err-client-clause-value : goal.returns-in_err-client-clause-value
returns-in_err-client-clause-value c =
    c.from_residual.ensures ∙ request_no_client c.args.kind c.args.clients (words c.args.text.now) (rw c.from.ensures at c.in_err-client.ensures.value)

pub returns-in_err-number-clause-value : goal.returns-in_err-number-clause-value
returns-in_err-number-clause-value c =
    c.from_residual-in_err-number.ensures ∙ request_no_number c.args.kind c.args.clients (words c.args.text.now) c.in_ok-client.client (words c.in_ok-client.text.now) (rw c.from.ensures at c.in_ok-client.ensures.value) c.in_err-number.ensures.value

pub returns-in_err-op-clause-value : goal.returns-in_err-op-clause-value
returns-in_err-op-clause-value c =
    c.from_residual-in_err-op.ensures ∙ request_no_operation c.args.kind c.args.clients (words c.args.text.now) c.in_ok-client.client (words c.in_ok-client.text.now) c.in_ok-number.number (words c.in_ok-number.text.now) (rw c.from.ensures at c.in_ok-client.ensures.value) c.in_ok-number.ensures.value c.in_err-op.ensures

pub returns-clause-value : goal.returns-clause-value
returns-clause-value c =
    request_whole c.args.kind c.args.clients (words c.args.text.now) c.in_ok-client.client (words c.in_ok-client.text.now) c.in_ok-number.number (words c.in_ok-number.text.now) c.in_ok-op.op (rw c.from.ensures at c.in_ok-client.ensures.value) c.in_ok-number.ensures.value c.in_ok-op.ensures
