-- A crash.
use Rattle.std.proofs.Common.{◌≡◌, ℕ, false, List, [], subst, sym, refl, ◌∙◌}
use Rattle.pb_pmem.specs.declared.line.Line.{Line}
use Rattle.pb_pmem.proofs.Lines.{contents-none}
use Rattle.pb_crash.specs.Picked.{picked}
use Rattle.pb_object.specs.History.{History, Entry, state_after}
use Rattle.pb_object.specs.Standing.{Standing}
use Rattle.pb_layout.specs.declared.header.Header.{Header}
use Rattle.pb_layout.specs.Recovered.{Represents}
use Rattle.pb_layout.specs.Represents.{header_for}
use Rattle.pb_events.specs.declared.event.Event.TheVariants.{Crash}
use Rattle.pb_events.specs.declared.event.Stepped.TheVariants.{Went}
use Rattle.pb_core.specs.DeviceParts.{IsWorld}
use Rattle.pb_core.specs.Memory.{memory_at_opening}
use Rattle.pb_core.specs.Possible.{MayCrash}
use Rattle.pb_core.specs.World.{NoCall, World}
use Rattle.pb_core.specs.Play.{at_once}
use Rattle.pb_core.proofs.Runs.{can_crash}
use Rattle.pb_play.specs.declared.calls.Calls.{Calls}
use Rattle.pb_play.specs.declared.device.Device.{Device}
use Rattle.pb_play.specs.declared.memory.Memory.{Memory as CodeMemory}
use Rattle.pb_play.specs.declared.world.World.{World as CodeWorld}
use Rattle.pb_play.specs.Device.{ShowsProgress}
use Rattle.pb_play.specs.Shown.{ShowsMemory}
use Rattle.pb_play.specs.Worlds.{ShowsWorld, HasStepped}

-- memory is what is found on the lines of a region
abbrev pub IsFound : List Line → Header → CodeMemory → Type 0
IsFound lines head memory =
    (start : Standing) (past : History) (answers : List Entry) → Represents lines (state_after start past) → header_for start ≡ head → ShowsMemory memory (memory_at_opening start past answers)

pub crashes_to : {old : CodeWorld} {w : World} {memory : CodeMemory} {calls : Calls} {device : Device} (cut pick : ℕ) → IsWorld w → ShowsWorld old w → MayCrash w cut → calls.going ≡ false → device.base.items ≡ picked old.device.base.items old.device.log.items cut pick → device.lines.items ≡ device.base.items → device.log.items ≡ [] → IsFound device.lines.items old.head memory → HasStepped w (Crash cut pick) (record old { memory = memory; calls = calls; device = device }) Went
crashes_to {old} {w} {memory} {calls} {device} cut pick is s may idle base_is lines_is log_is found =
    let crash = (can_crash is cut pick may.low may.high).1 in
    let image : List Line = picked w.tale.base w.tale.log cut pick in
    let left : image ≡ device.base.items = (λ i. picked (s.device.base i) (s.device.log i) cut pick) ∙ sym base_is in
    record {
      next = record { memory = memory_at_opening w.memory.start crash.kept w.memory.answers; tale = record { base = image; log = [] }; progress = NoCall };
      step = record {
        middle = w;
        before = at_once tt refl;
        move = record { low = may.low; high = may.high; kept = crash.kept; lost = crash.lost; whole = crash.whole; stands = crash.stands; is = refl; says = refl };
      };
      shows = record {
        memory = found w.memory.start crash.kept w.memory.answers (subst (λ (lines : List Line). Represents lines (state_after w.memory.start crash.kept)) (left ∙ sym lines_is) crash.stands) s.head;
        device = record {
          progress_is = subst (λ g. ShowsProgress g calls.plan.items calls.made NoCall) (sym idle) tt;
          base = left;
          log = sym log_is;
          lines = contents-none image ∙ (left ∙ sym lines_is);
        };
        head = s.head;
      };
    }
