use Rattle.std.proofs.Common.{◌∙◌, ap, inr}
use Rattle.pb_engines.specs.AnyEngine.{view_of}
use Rattle.pb_broker.proofs.Ran.{made_alone}
use Rattle.pb_broker.proofs.fresh.run_new.Goals as goal

pub returns-in-Err-serve-clause-ran : goal.returns-in-Err-serve-clause-ran
returns-in-Err-serve-clause-ran g c =
    inr (made_alone c.in-Ok.ensures.ok (c.close-in-Err-serve.ensures ∙ ap (λ engine. (view_of engine).device) c.in-Err-serve.ensures.err))
