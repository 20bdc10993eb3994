use Rattle.std.proofs.Common.{refl, arith}
use Rattle.pb_play.proofs.Devices.{device_adds, one_at_most}
use Rattle.pb_play.proofs.device.Device.add.Goals as goal

pub returns-clause-device : goal.returns-clause-device
returns-clause-device c =
    device_adds {old = c.args.self.now} (record { base = refl; backs = refl; room = refl; log = c.add.ensures.log; lines = c.add.ensures.lines; capacity = c.add.ensures.capacity }) c.requires.device c.requires.within (omega (arith, c.requires.room, one_at_most c.args.added))
