-- Which stop an error of a crate below is.
use Rattle.pb_pair.specs.declared.why.Why.{Why}
use Rattle.pb_pair.specs.declared.why.Why.TheVariants.{Memory as MemoryWhy, Device as DeviceWhy, Taken as TakenWhy, NoRegion as NoRegionWhy, Damaged as DamagedWhy}
use Rattle.pb_script.specs.declared.script.ScriptFault.{ScriptFault}
use Rattle.pb_script.specs.declared.script.ScriptFault.TheVariants.{Memory as MemoryFault, Many as ManyFault, Line as LineFault}
use Rattle.pb_broker.specs.declared.stop.Stop.{Stop}
use Rattle.pb_broker.specs.declared.stop.Stop.TheVariants.{Memory, Many, Line, DeviceFault, Taken, NoRegion, Damaged}

abbrev pub stop_of_script : ScriptFault → Stop
stop_of_script MemoryFault = Memory
stop_of_script ManyFault = Many
stop_of_script (LineFault number) = Line number

abbrev pub stop_of_device : Why → Stop
stop_of_device MemoryWhy = Memory
stop_of_device (DeviceWhy fault) = DeviceFault
stop_of_device TakenWhy = Taken
stop_of_device NoRegionWhy = NoRegion
stop_of_device (DamagedWhy line) = Damaged line
