-- The records in use of a queue, on its device and in memory.
use Rattle.std.proofs.Common.{◌≡◌, ℕ, zero, suc, ◌%◌, ◌<◌, List, [], ◌∷◌, IfSome, sym, ap, subst, arith}
use Rattle.std.specs.List.{All}
use Rattle.std.proofs.lemmas.List.Elements.{All-append}
use Rattle.pb_pmem.specs.declared.log.LogOp.{LogOp}
use Rattle.pb_object.specs.declared.kind.Kind.TheVariants.{Queue}
use Rattle.pb_object.specs.declared.request.Ask.{Ask}
use Rattle.pb_object.specs.Standing.{side_count}
use Rattle.pb_layout.specs.declared.header.Header.{Header}
use Rattle.pb_layout.specs.Header.{record_length}
use Rattle.pb_layout.specs.Region.{record_place}
use Rattle.pb_layout.specs.Represents.{record_in_use}
use Rattle.pb_layout.specs.Shape.{IsHeader}
use Rattle.pb_layout.proofs.Untouched.{Spares}
use Rattle.pb_pair.specs.View.{SideView, PairView, view_of_side, round_of_side}
use Rattle.pb_pair.proofs.HeldRecords.{SparesRecords, none_spares}
use Rattle.pb_pair.proofs.Pairs.{put_spares}
use Rattle.pb_engine.specs.Operations.{puts_from}
use Rattle.pb_layout.specs.PutCell.{put_ops}
use Rattle.pb_engine.specs.View.{IsInUse}
use Rattle.pb_engine.proofs.InUse.{HasInUse, stays_in_use}
use Rattle.pb_queue.specs.Items.{ItemsView}
use Rattle.pb_queue.specs.Rounds.{HavePut}
use Rattle.pb_queue.specs.View.{twin_view}
use Rattle.pb_queue.proofs.PutCells.{puts_from-none, puts_from-more}
use Rattle.pb_queue.proofs.Standings.{head_is}

-- what is said of a pair is said of its engine
pub in_engine : (pair : PairView) (items : ItemsView) (asked : List Ask) (side : ℕ) → pair.head.kind ≡ Queue → side < 2 → HasInUse pair side → IsInUse (twin_view pair items asked) side
in_engine pair items asked zero queue below held =
    subst (λ (h : Header). IfSome pair.device.now (λ image. record_in_use image h 0 pair.first.round ≡ pair.first.lines)) (head_is pair items.sure queue) held
in_engine pair items asked (suc zero) queue below held =
    subst (λ (h : Header). IfSome pair.device.now (λ image. record_in_use image h 1 pair.second.round ≡ pair.second.lines)) (head_is pair items.sure queue) held
in_engine pair items asked (suc (suc side)) queue below held = absurd (omega arith)

pub of_engine : (pair : PairView) (items : ItemsView) (asked : List Ask) (side : ℕ) → pair.head.kind ≡ Queue → side < 2 → IsInUse (twin_view pair items asked) side → HasInUse pair side
of_engine pair items asked zero queue below held =
    subst (λ (h : Header). IfSome pair.device.now (λ image. record_in_use image h 0 pair.first.round ≡ pair.first.lines)) (sym (head_is pair items.sure queue)) held
of_engine pair items asked (suc zero) queue below held =
    subst (λ (h : Header). IfSome pair.device.now (λ image. record_in_use image h 1 pair.second.round ≡ pair.second.lines)) (sym (head_is pair items.sure queue)) held
of_engine pair items asked (suc (suc side)) queue below held = absurd (omega arith)

-- cells are no records
puts_spare : (head : Header) (from : ℕ) (items : List ℕ) → IsHeader head → head.kind ≡ Queue → SparesRecords head (puts_from head from items)
puts_spare head from [] valid queue side which here = none_spares head (puts_from head from []) (puts_from-none head from) side which here
puts_spare head from (item ∷ items) valid queue side which here =
    let Out : LogOp → Type 0 = Spares (record_place head side which) (record_length head) in
    subst (All Out) (sym (puts_from-more head from item items))
    (All-append Out (put_ops head from item) (puts_from head (suc from) items) (put_spares head from item valid queue side which here) (puts_spare head (suc from) items valid queue side which here))

same_part : (from : ℕ) (put : List ℕ) (old new : PairView) (side : ℕ) → HavePut from put old new → view_of_side new side ≡ view_of_side old side
same_part from put old new zero cells = cells.first
same_part from put old new (suc side) cells = cells.second

pub put_in_use : (from : ℕ) (put : List ℕ) (old new : PairView) (side : ℕ) → IsHeader old.head → old.head.kind ≡ Queue → side < 2 → HavePut from put old new → HasInUse old side → HasInUse new side
put_in_use from put old new side valid queue below cells held =
    let part = same_part from put old new side cells in
    stays_in_use old new (puts_from old.head from put) side (record {
      head = cells.head;
      round = ap (λ (p : SideView). p.round) part;
      lines = ap (λ (p : SideView). p.lines) part;
      now = cells.device.now;
      spares = puts_spare old.head from put valid queue side (round_of_side old side % 2) (omega (arith, below, ap side_count queue));
    }) held
