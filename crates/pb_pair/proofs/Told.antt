-- A device that tells its log.
use Rattle.std.proofs.Common.{◌≡◌, List, length, Option, Some, None, IfSome, option_map, refl, sym, ap, subst, ◌∙◌}
use Rattle.pb_pmem.specs.declared.line.Line.{Line}
use Rattle.pb_pmem.specs.declared.line.TheConstants.{LINES}
use Rattle.pb_pmem.specs.declared.log.LogOp.{LogOp}
use Rattle.pb_pmem.specs.Contents.{contents}
use Rattle.pb_pmem.specs.Device.{Device, Tale, IsWhole, IsReplay}
use Rattle.pb_pmem.specs.Operations.{with_ops, after}
use Rattle.pb_pmem.proofs.Lines.{contents-append, length-contents}
use Rattle.pb_layout.specs.ToldExits.{contents_of}

-- it tells its lines, and has all of them
pub told_now : (device : Device) (tale : Tale) → IsReplay device → device.told ≡ Some tale → device.now ≡ Some (contents_of tale)
told_now device tale replay told = subst (λ (o : Option Tale). IfSome o (λ t. device.now ≡ Some (contents t.base t.log))) told replay

pub whole_contents : (device : Device) (tale : Tale) → IsWhole device → IsReplay device → device.told ≡ Some tale → length (contents_of tale) ≡ LINES
whole_contents device tale whole replay told =
    subst (λ (o : Option (List Line)). IfSome o (λ lines. length lines ≡ LINES)) (told_now device tale replay told) whole

pub told_length : (device : Device) (tale : Tale) → IsWhole device → IsReplay device → device.told ≡ Some tale → length tale.base ≡ LINES
told_length device tale whole replay told =
    sym (length-contents tale.base tale.log) ∙ whole_contents device tale whole replay told

-- its log after a call, and before one
pub told_after : (old new : Option Tale) (tale : Tale) (ops : List LogOp) → old ≡ Some tale → new ≡ option_map (with_ops ops) old → new ≡ Some (with_ops ops tale)
told_after old new tale ops told grown = grown ∙ ap (option_map (with_ops ops)) told

pub told_before : (ops : List LogOp) (old new : Option Tale) (tale : Tale) → new ≡ option_map (with_ops ops) old → new ≡ Some tale → (before : Tale) × (old ≡ Some before) × (contents_of tale ≡ contents (contents_of before) ops)
told_before ops None new tale grown told = absurd (cc (grown, told))
told_before ops (Some before) new tale grown told =
    (before, refl, ap contents_of (one_some tale (with_ops ops before) (sym told ∙ grown)) ∙ contents-append before.base before.log ops)
  where
    one_some : (a b : Tale) → ◌≡◌ {A = Option Tale} (Some a) (Some b) → a ≡ b
    one_some a b e = cc

-- Where something is told

-- what holds of each told value holds where one is told
pub where_told : {T : Type 0} (P : T → Type 0) (told : Option T) → ((value : T) → told ≡ Some value → P value) → IfSome told P
where_told P None shown = tt
where_told P (Some value) shown = shown value refl

-- what holds after a function of a value, where there is one
pub if_some_mapped : {T : Type 0} (A B C : T → Type 0) (f : T → T) (old new : Option T) → new ≡ option_map f old → IfSome old A → IfSome old B → ((value : T) → A value → B value → C (f value)) → IfSome new C
if_some_mapped A B C f None new mapped first second step = subst (λ o. IfSome o C) (sym mapped) tt
if_some_mapped A B C f (Some value) new mapped first second step = subst (λ o. IfSome o C) (sym mapped) (step value first second)

-- a device that tells all its lines does so after what is done to it
pub whole_after : (ops : List LogOp) (old new : Device) → IsWhole old → new.now ≡ option_map (after ops) old.now → IsWhole new
whole_after ops old new whole now =
    if_some_mapped (λ (ls : List Line). length ls ≡ LINES) (λ (ls : List Line). length ls ≡ LINES) (λ (ls : List Line). length ls ≡ LINES) (after ops) old.now new.now now whole whole (λ ls long _. length-contents ls ops ∙ long)

-- and its lines are still what its log leaves of its base
pub replay_after : (ops : List LogOp) (old new : Device) → IsReplay old → new.told ≡ option_map (with_ops ops) old.told → new.now ≡ option_map (after ops) old.now → IsReplay new
replay_after ops old new replay told now = go old.told replay told
  where
    go : (before : Option Tale) → IfSome before (λ tale. old.now ≡ Some (contents_of tale)) → new.told ≡ option_map (with_ops ops) before → IsReplay new
    go None was is = subst (λ (o : Option Tale). IfSome o (λ tale. new.now ≡ Some (contents_of tale))) (sym is) tt
    go (Some tale) was is =
        subst (λ (o : Option Tale). IfSome o (λ t. new.now ≡ Some (contents_of t))) (sym is)
        (now ∙ (ap (option_map (after ops)) was ∙ ap (λ (ls : List Line). Some ls) (sym (contents-append tale.base tale.log ops))))
