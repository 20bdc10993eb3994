-- A client's next request.
use Rattle.std.specs.Prelude.{◌≡◌, ◌+◌, ◌<◌, ◌≤◌}
use Rattle.pb_object.specs.declared.kind.Kind.{Kind}
use Rattle.pb_object.specs.declared.request.Ask.{Ask}
use Rattle.pb_object.specs.declared.request.TheConstants.{LAST_NUMBER}
use Rattle.pb_object.specs.Request.{IsOperation}
use Rattle.pb_object.specs.Standing.{newest}
use Rattle.pb_rule.specs.View.{PassView}

-- a request of the pass's client under its next number
pub record IsNextRequestOf (kind : Kind) (v : PassView) (ask : Ask) : Type 0 where
  pub client : ask.client ≡ v.client
  pub there : ask.client < v.clients
  pub few_clients : v.clients ≤ 16
  pub number : ask.number ≡ (newest v.body.kept).number + 1
  pub few : ask.number ≤ LAST_NUMBER
  pub operation : IsOperation kind ask.op
