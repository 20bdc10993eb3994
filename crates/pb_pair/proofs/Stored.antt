-- What a store makes of a pair, from the parts of the call.
use Rattle.std.proofs.Common.{◌≡◌, ℕ, Bool, List, Option, Some, None, option_map, refl, sym, subst, ◌∙◌}
use Rattle.pb_pmem.specs.declared.device.DeviceFault.{DeviceFault}
use Rattle.pb_pmem.specs.declared.line.Line.{Line}
use Rattle.pb_pmem.specs.Device.{Device, IsWhole, IsReplay}
use Rattle.pb_pmem.specs.Operations.{StopsBy}
use Rattle.pb_layout.specs.declared.header.Header.{Header}
use Rattle.pb_pair.specs.declared.known.Doubt.{Doubt}
use Rattle.pb_pair.specs.declared.known.Known.{Known}
use Rattle.pb_pair.specs.declared.known.Known.TheVariants.{Sure, Failed}
use Rattle.pb_pair.specs.declared.side.Sides.{Sides}
use Rattle.pb_pair.specs.Store.{IsNext, IsStored, IsFailedStore, doubt_of, StoresSides, StopsSides, HasFailedStore}
use Rattle.pb_pair.specs.View.{DoubtView, at_side, view_of_side, side_view, doubt_view, pair_view, IsDoubt, IsPair, HasForgotten}
use Rattle.pb_pair.proofs.Pairs.{stored_as, stored_pair, after_failed_store, IsFailedAs, has_failed, sure_not_failed}

no_doubt : (sides more : Sides) (doubt : Option Doubt) → option_map (doubt_view sides) doubt ≡ None → option_map (doubt_view more) doubt ≡ None
no_doubt sides more None is = refl
no_doubt sides more (Some doubt) is = absurd (cc)

stored_view : (device new : Device) (head : Header) (old sides : Sides) (known : Known) (doubt : Option Doubt) (side : ℕ) (lines : List Line) → IsPair (pair_view device head old known doubt) → known ≡ Sure → StoresSides head side lines old sides device new → pair_view new head sides known doubt ≡ stored_as (pair_view device head old known doubt) new side lines
stored_view device new head old sides known doubt side lines sound sure stores =
    let none : option_map (doubt_view sides) doubt ≡ None = no_doubt old sides doubt (sound.decided (λ failed. sure_not_failed (sym sure ∙ failed))) in
    λ i. record { device = new; head = head; first = stores.first i; second = stores.second i; known = sure i; doubt = none i }

pub is_stored : (device new : Device) (head : Header) (old sides : Sides) (known : Known) (doubt : Option Doubt) (side : ℕ) (lines : List Line) → IsPair (pair_view device head old known doubt) → IsWhole device → IsReplay device → known ≡ Sure → IsNext (pair_view device head old known doubt) side lines → StoresSides head side lines old sides device new → IsStored side lines (pair_view device head old known doubt) (pair_view new head sides known doubt)
is_stored device new head old sides known doubt side lines sound whole replay sure next stores = record {
  sound = subst IsPair (sym (stored_view device new head old sides known doubt side lines sound sure stores)) (stored_pair (pair_view device head old known doubt) new side lines sound whole replay next stores.device);
  device = stores.device;
  head = refl;
  first = stores.first;
  second = stores.second;
  known = sure;
  doubt = no_doubt old sides doubt (sound.decided (λ failed. sure_not_failed (sym sure ∙ failed)));
}

-- a store that failed, and then nothing is known
pub fails_storing : (device : Device) (head : Header) (old mid final : Sides) (known now : Known) (doubt : Option Doubt) (side : ℕ) (lines : List Line) (called : Bool) (before after : Device) → IsNext (pair_view device head old known doubt) side lines → StopsSides head side lines called old mid before after → HasForgotten mid final → now ≡ Failed → IsFailedAs (pair_view device head old known doubt) final now (Some (record { side = side; called = called })) (doubt_of side lines called)
fails_storing device head old mid final known now doubt side lines called before after next stops same failed = record {
  first = same.first ∙ stops.first;
  second = same.second ∙ stops.second;
  known_is = failed;
  left_is = λ i. Some (record { side = side; lines = kept i; called = called });
  in_doubt = in_doubt;
}
  where
    kept : at_side final.first.spare.items final.second.spare.items side ≡ lines
    kept = (λ i. at_side (same.first_spare i).items (same.second_spare i).items side) ∙ stops.kept

    this : DoubtView
    this = record { side = side; lines = lines; called = called }

    in_doubt : (d : DoubtView) → doubt_of side lines called ≡ Some d → IsDoubt head (side_view old.first) (side_view old.second) d
    in_doubt d e =
        let is : this ≡ d = cc in
        let found : IsDoubt head (side_view old.first) (side_view old.second) this = record { here = next.here; long = next.long; own = next.own } in
        subst (IsDoubt head (side_view old.first) (side_view old.second)) is found

pub has_failed_store : (device new : Device) (head : Header) (old mid final : Sides) (known now : Known) (doubt : Option Doubt) (side : ℕ) (lines : List Line) (called : Bool) (fault : DeviceFault) → IsPair (pair_view device head old known doubt) → IsWhole device → IsReplay device → IsNext (pair_view device head old known doubt) side lines → StopsSides head side lines called old mid device new → HasForgotten mid final → now ≡ Failed → StopsBy (IsFailedStore head side (view_of_side (pair_view device head old known doubt) side) lines called) fault device new → HasFailedStore side lines (pair_view device head old known doubt) fault (pair_view new head final now (Some (record { side = side; called = called })))
has_failed_store device new head old mid final known now doubt side lines called fault sound whole replay next stops same failed by = record {
  called = called;
  failed = has_failed (IsFailedStore head side (view_of_side (pair_view device head old known doubt) side) lines called) (pair_view device head old known doubt) new final now (Some (record { side = side; called = called })) (doubt_of side lines called) fault sound (fails_storing device head old mid final known now doubt side lines called device new next stops same failed)
      (after_failed_store called (pair_view device head old known doubt) new side lines sound whole replay next by.stops) by;
}
