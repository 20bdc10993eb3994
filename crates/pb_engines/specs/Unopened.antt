-- Why no engine was opened.
use Rattle.std.specs.Prelude.{◌≡◌, IfSome}
use Rattle.pb_pmem.specs.Device.{Device}
use Rattle.pb_layout.specs.Damage.{HasRegion, IsDamagedAt}
use Rattle.pb_pair.specs.declared.why.Why.{Why}
use Rattle.pb_pair.specs.declared.why.Why.TheVariants.{Memory, Device as DeviceWhy, Taken, NoRegion, Damaged}
use Rattle.pb_pair.specs.Open.{HasFailedRead}

-- memory ran out, a read failed, the device has no region, or this is the first line of the region that the format refuses. Nothing was
-- done to the device
abbrev pub IsUnopened : Device → Device → Why → Type 0
IsUnopened old new Memory = new ≡ old
IsUnopened old new (DeviceWhy fault) = HasFailedRead fault old new
IsUnopened old new Taken = ⊥
IsUnopened old new NoRegion = (new ≡ old) × IfSome old.now (λ lines. ¬ HasRegion lines)
IsUnopened old new (Damaged line) = (new ≡ old) × IfSome old.now (λ lines. IsDamagedAt lines line)
