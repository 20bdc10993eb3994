-- What a pair knows of its records is what an engine knows.
use Rattle.std.proofs.Common.{◌≡◌, ℕ, ◌<◌, Bool, true, false, List, Option, Some, None, IfSome, ◌∙◌, refl, sym}
use Rattle.pb_pmem.specs.declared.line.Line.{Line}
use Rattle.pb_layout.specs.declared.header.Header.{Header}
use Rattle.pb_object.specs.declared.kind.Kind.{Kind}
use Rattle.pb_object.specs.Standing.{side_count}
use Rattle.pb_layout.specs.Represents.{record_of_side}
use Rattle.pb_pair.specs.View.{SideView, HoldsSide, if_known}
use Rattle.pb_engine.specs.Pairs.{known_records}
use Rattle.pb_engine.specs.View.{EngineView, HoldsKnown, IsEngine, IsInUse, IsKnown, known_of, record_in_memory}

known_lines : (written : Bool) (own lines : List Line) → if_known written own ≡ Some lines → (written ≡ true) × (own ≡ lines)
known_lines true own lines is = (refl, the own lines is)
  where
    the : (a b : List Line) → ◌≡◌ {A = Option (List Line)} (Some a) (Some b) → a ≡ b
    the a b e = cc
known_lines false own lines is = absurd (cc (is))

pub known_holds : (head : Header) (side : ℕ) (part : SideView) (image : List Line) → HoldsSide head side part image → HoldsKnown head side part.round (known_records part) image
known_holds head side part image holds = record {
  in_use = λ lines is. let known = known_lines part.written part.lines lines is in holds.in_use known.0 ∙ known.1;
  spare = λ lines is. holds.spare lines is;
}

-- a record that is known is in memory
pub known_in_memory : (part : SideView) (lines : List Line) → (known_records part).in_use ≡ Some lines → part.lines ≡ lines
known_in_memory part lines is = (known_lines part.written part.lines lines is).1

-- and in use on the device
pub known_in_use : (kind : Kind) (engine : EngineView) (side : ℕ) → IsEngine kind engine → side < side_count kind → IsKnown engine side → IsInUse engine side
known_in_use kind engine side sound below known = by engine.device.now refl (known_of engine side).in_use refl
  where
    by : (now : Option (List Line)) → engine.device.now ≡ now → (used : Option (List Line)) → (known_of engine side).in_use ≡ used → IfSome now (λ image. record_of_side image engine.standing side ≡ record_in_memory engine side)
    by None told used is = tt
    by (Some image) told None is = absurd (known is)
    by (Some image) told (Some lines) is = (sound.records image told side below).in_use lines is ∙ sym (sound.in_memory side below lines is)
