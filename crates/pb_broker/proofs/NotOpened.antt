-- Why a region wasn't opened, as a stop.
use Rattle.std.proofs.Common.{◌≡◌, ℕ, List, Result, Err, MatchResult, sym, subst, inl, inr}
use Rattle.pb_pmem.specs.Device.{Device, Fails, IsNoOp}
use Rattle.pb_pair.specs.declared.why.Why.{Why}
use Rattle.pb_pair.specs.declared.why.Why.TheVariants.{Memory, Device as DeviceWhy, Taken, NoRegion, Damaged}
use Rattle.pb_engines.specs.Unopened.{IsUnopened}
use Rattle.pb_broker.specs.declared.stop.Stop.{Stop}
use Rattle.pb_broker.specs.Comes.{IsNotOpened}
use Rattle.pb_broker.specs.Serving.{StopsOn}
use Rattle.pb_broker.specs.Stops.{stop_of_device}

-- a failed read leaves the log
same_log : (old new : Device) → Fails IsNoOp old new → new.told ≡ old.told
same_log old new fails = elim fails.told [
  | inl same ↦ same
  | inr (op, never, more) ↦ absurd never
]

pub not_opened : (old new : Device) (why : Why) → IsUnopened old new why → IsNotOpened old new (stop_of_device why)
not_opened old new Memory is = is
not_opened old new (DeviceWhy fault) is = (is.fails.rose, same_log old new is.fails)
not_opened old new Taken is = absurd is
not_opened old new NoRegion is = (is.1, is.0)
not_opened old new (Damaged line) is = (is.1, is.0)

pub run_refused : {R : Type 0} (Served : R → Type 0) (bytes : List ℕ) (before mid after : Device) (why : Why) (served : Result R Stop) → served ≡ Err (stop_of_device why) → after ≡ mid → IsUnopened before mid why → MatchResult served Served (StopsOn bytes before after)
run_refused {R} Served bytes before mid after why served is same refusal =
    subst (λ (r : Result R Stop). MatchResult r Served (StopsOn bytes before after)) (sym is)
    (inl (subst (λ (d : Device). IsNotOpened before d (stop_of_device why)) (sym same) (not_opened before mid why refusal)))
