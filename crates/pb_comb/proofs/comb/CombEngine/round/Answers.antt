-- The round is written, stored, and followed by the other copy of the object.
use Rattle.std.proofs.Common.{◌≡◌, ◌∙◌, List, [], refl, sym, ap, subst, arith}
use Rattle.pb_pmem.specs.declared.line.Line.{Line}
use Rattle.pb_object.specs.declared.request.Ask.{Ask}
use Rattle.pb_engine.specs.Asks.{MayBeServed, asked_round, state_from}
use Rattle.pb_engine.specs.Covers.{RoundCovers, FailedRoundCovers}
use Rattle.pb_engine.specs.Outcomes.{HasMade, HasFailedToMake}
use Rattle.pb_engine.specs.View.{EngineView, IsEngine}
use Rattle.pb_comb.specs.View.{standing_of, comb_view}
use Rattle.pb_comb.proofs.Finished.{IsWritten, fits_object, round_by, number_fits, done, done_comb, failed, kept_all}
use Rattle.pb_comb.proofs.Made.{failed_comb}
use Rattle.pb_comb.proofs.Rounds.{IsRound, store_next}
use Rattle.pb_comb.proofs.Sound.{engine_of, none_in_doubt}
use Rattle.pb_engine.proofs.SameKind.{of_kind_before}
use Rattle.pb_comb.proofs.comb.CombEngine.round.Goals as goal
use Rattle.pb_pair.specs.Store.{IsNext, IsStored, HasFailedStore}
use Rattle.pb_pair.specs.Safe.{StoreCovers, FailedStoreCovers}
use Rattle.pb_object.specs.Object.{State}
use Rattle.pb_engine.proofs.Served.{state_from-none}

pub overflow_add-round : goal.overflow_add-round
overflow_add-round g c =
    let i = c.self.inside in
    omega (arith, c.round-round.ensures, number_fits g.O.Object.KIND i.pair (g.O.Object.state i.object) (g.O.Object.state i.ahead) i.next i.asked.items c.self.invariant)

pub put_changes-requires : goal.put_changes-requires
put_changes-requires g c =
    let i = c.self.inside in
    let asks : List Ask = c.as_slice.result.now in
    let none : i.asked.items ≡ [] = none_in_doubt g.O.Object.KIND i.pair (g.O.Object.state i.object) (g.O.Object.state i.ahead) i.next i.asked.items c.self.invariant (ap (λ (e : EngineView). e.sure) c.self.view_is ∙ c.requires.sure) in
    let written : IsWritten g.O.Object.KIND i.pair (g.O.Object.state i.ahead) (g.O.Object.state c.serve.new.object) asks c.round-round.result i.next c.lines_of.result.now c.carry.new.self c.serve.new.next c.serve.new.next = record { round_is = c.round-round.ensures; before_is = c.self.invariant.carried (ap (λ (e : EngineView). e.sure) c.self.view_is ∙ c.requires.sure); again_is = c.lines_of.ensures; begins = c.carry.ensures; serves = c.serve.ensures.entries; moves = c.serve.ensures.state } in
    fits_object g.O.Object.KIND i.pair (g.O.Object.state i.object) (g.O.Object.state i.ahead) (g.O.Object.state c.serve.new.object) i.next i.asked.items asks c.round-round.result i.next c.lines_of.result.now c.carry.new.self c.serve.new.next c.serve.new.next none c.self.invariant written

pub store-requires-clause-next : goal.store-requires-clause-next
store-requires-clause-next g c =
    let i = c.self.inside in
    let asks : List Ask = c.as_slice.result.now in
    let none : i.asked.items ≡ [] = none_in_doubt g.O.Object.KIND i.pair (g.O.Object.state i.object) (g.O.Object.state i.ahead) i.next i.asked.items c.self.invariant (ap (λ (e : EngineView). e.sure) c.self.view_is ∙ c.requires.sure) in
    let written : IsWritten g.O.Object.KIND i.pair (g.O.Object.state i.ahead) (g.O.Object.state c.serve.new.object) asks c.round-round.result i.next c.lines_of.result.now c.carry.new.self c.serve.new.next c.put_changes.new.self = record { round_is = c.round-round.ensures; before_is = c.self.invariant.carried (ap (λ (e : EngineView). e.sure) c.self.view_is ∙ c.requires.sure); again_is = c.lines_of.ensures; begins = c.carry.ensures; serves = c.serve.ensures.entries; moves = c.serve.ensures.state } in
    let may : MayBeServed (standing_of i.pair (g.O.Object.state i.object)) asks = subst (MayBeServed (standing_of i.pair (g.O.Object.state i.object))) (sym c.as_slice.ensures.value) (subst (λ (e : EngineView). MayBeServed e.standing c.args.asks.now.items) (sym c.self.view_is) c.requires.asks) in
    let is : IsRound g.O.Object.KIND i.pair (g.O.Object.state i.object) asks c.put_changes.new.self = round_by g.O.Object.KIND i.pair (g.O.Object.state i.object) (g.O.Object.state i.ahead) (g.O.Object.state c.serve.new.object) i.next i.asked.items asks c.round-round.result i.next c.lines_of.result.now c.carry.new.self c.serve.new.next c.put_changes.new.self none c.self.invariant may written c.put_changes.ensures.others (c.as_slice-2.ensures.value ∙ sym c.as_slice.ensures.value) c.put_changes.ensures.objects in
    subst (λ (ls : List Line). IsNext i.pair 0 ls) (sym c.lines.ensures) (store_next g.O.Object.KIND i.pair (g.O.Object.state i.object) asks c.put_changes.new.self is)

pub invariant_of-self : goal.invariant_of-self
invariant_of-self g c =
    let i = c.self.inside in
    let asks : List Ask = c.as_slice.result.now in
    let none : i.asked.items ≡ [] = none_in_doubt g.O.Object.KIND i.pair (g.O.Object.state i.object) (g.O.Object.state i.ahead) i.next i.asked.items c.self.invariant (ap (λ (e : EngineView). e.sure) c.self.view_is ∙ c.requires.sure) in
    let written : IsWritten g.O.Object.KIND i.pair (g.O.Object.state i.ahead) (g.O.Object.state c.serve.new.object) asks c.round-round.result i.next c.lines_of.result.now c.carry.new.self c.serve.new.next c.put_changes.new.self = record { round_is = c.round-round.ensures; before_is = c.self.invariant.carried (ap (λ (e : EngineView). e.sure) c.self.view_is ∙ c.requires.sure); again_is = c.lines_of.ensures; begins = c.carry.ensures; serves = c.serve.ensures.entries; moves = c.serve.ensures.state } in
    let may : MayBeServed (standing_of i.pair (g.O.Object.state i.object)) asks = subst (MayBeServed (standing_of i.pair (g.O.Object.state i.object))) (sym c.as_slice.ensures.value) (subst (λ (e : EngineView). MayBeServed e.standing c.args.asks.now.items) (sym c.self.view_is) c.requires.asks) in
    let is : IsRound g.O.Object.KIND i.pair (g.O.Object.state i.object) asks c.put_changes.new.self = round_by g.O.Object.KIND i.pair (g.O.Object.state i.object) (g.O.Object.state i.ahead) (g.O.Object.state c.serve.new.object) i.next i.asked.items asks c.round-round.result i.next c.lines_of.result.now c.carry.new.self c.serve.new.next c.put_changes.new.self none c.self.invariant may written c.put_changes.ensures.others (c.as_slice-2.ensures.value ∙ sym c.as_slice.ensures.value) c.put_changes.ensures.objects in
    let stored = subst (λ (ls : List Line). IsStored 0 ls i.pair c.store.new.self) c.lines.ensures c.in-Ok.ensures.ok in
    let same : c.as_slice-in-Ok.result.now ≡ asks = c.as_slice-in-Ok.ensures.value ∙ sym c.as_slice.ensures.value in
    let moved : g.O.Object.state c.catch_up.new.object ≡ state_from (g.O.Object.state i.object) asks = c.catch_up.ensures ∙ ap (state_from (g.O.Object.state i.object)) same in
    let ahead_is : (g.O.Object.state c.serve.new.object) ≡ state_from (g.O.Object.state i.object) asks = c.serve.ensures.state ∙ ap (λ (s : State). state_from s asks) (c.self.invariant.ahead_by ∙ (ap (state_from (g.O.Object.state i.object)) none ∙ state_from-none (g.O.Object.state i.object))) in
    done_comb g.O.Object.KIND i.pair c.store.new.self (g.O.Object.state i.object) (g.O.Object.state i.ahead) (g.O.Object.state c.catch_up.new.object) (g.O.Object.state c.serve.new.object) c.put_changes.new.self c.put_changes.new.self i.asked.items asks none is stored refl moved ahead_is

pub returns-in-Ok-clause-ok : goal.returns-in-Ok-clause-ok
returns-in-Ok-clause-ok g c =
    let i = c.self.inside in
    let asks : List Ask = c.as_slice.result.now in
    let none : i.asked.items ≡ [] = none_in_doubt g.O.Object.KIND i.pair (g.O.Object.state i.object) (g.O.Object.state i.ahead) i.next i.asked.items c.self.invariant (ap (λ (e : EngineView). e.sure) c.self.view_is ∙ c.requires.sure) in
    let written : IsWritten g.O.Object.KIND i.pair (g.O.Object.state i.ahead) (g.O.Object.state c.serve.new.object) asks c.round-round.result i.next c.lines_of.result.now c.carry.new.self c.serve.new.next c.put_changes.new.self = record { round_is = c.round-round.ensures; before_is = c.self.invariant.carried (ap (λ (e : EngineView). e.sure) c.self.view_is ∙ c.requires.sure); again_is = c.lines_of.ensures; begins = c.carry.ensures; serves = c.serve.ensures.entries; moves = c.serve.ensures.state } in
    let may : MayBeServed (standing_of i.pair (g.O.Object.state i.object)) asks = subst (MayBeServed (standing_of i.pair (g.O.Object.state i.object))) (sym c.as_slice.ensures.value) (subst (λ (e : EngineView). MayBeServed e.standing c.args.asks.now.items) (sym c.self.view_is) c.requires.asks) in
    let is : IsRound g.O.Object.KIND i.pair (g.O.Object.state i.object) asks c.put_changes.new.self = round_by g.O.Object.KIND i.pair (g.O.Object.state i.object) (g.O.Object.state i.ahead) (g.O.Object.state c.serve.new.object) i.next i.asked.items asks c.round-round.result i.next c.lines_of.result.now c.carry.new.self c.serve.new.next c.put_changes.new.self none c.self.invariant may written c.put_changes.ensures.others (c.as_slice-2.ensures.value ∙ sym c.as_slice.ensures.value) c.put_changes.ensures.objects in
    let stored = subst (λ (ls : List Line). IsStored 0 ls i.pair c.store.new.self) c.lines.ensures c.in-Ok.ensures.ok in
    let same : c.as_slice-in-Ok.result.now ≡ asks = c.as_slice-in-Ok.ensures.value ∙ sym c.as_slice.ensures.value in
    let moved : g.O.Object.state c.catch_up.new.object ≡ state_from (g.O.Object.state i.object) asks = c.catch_up.ensures ∙ ap (state_from (g.O.Object.state i.object)) same in
    let covers = subst (λ (ls : List Line). StoreCovers 0 ls i.pair c.store.new.self.device) c.lines.ensures c.in-Ok.ensures.safe in
    let both = done g.O.Object.KIND i.pair c.store.new.self (g.O.Object.state i.object) (g.O.Object.state c.catch_up.new.object) c.put_changes.new.self i.asked.items asks c.args.self.now c.self.view_is none is stored covers moved in
    subst (λ (list : List Ask). HasMade (asked_round c.args.self.now.standing list) c.args.self.now (comb_view c.store.new.self (g.O.Object.state c.catch_up.new.object) i.asked.items)) c.as_slice.ensures.value both.0

pub returns-in-Ok-clause-safe : goal.returns-in-Ok-clause-safe
returns-in-Ok-clause-safe g c =
    let i = c.self.inside in
    let asks : List Ask = c.as_slice.result.now in
    let none : i.asked.items ≡ [] = none_in_doubt g.O.Object.KIND i.pair (g.O.Object.state i.object) (g.O.Object.state i.ahead) i.next i.asked.items c.self.invariant (ap (λ (e : EngineView). e.sure) c.self.view_is ∙ c.requires.sure) in
    let written : IsWritten g.O.Object.KIND i.pair (g.O.Object.state i.ahead) (g.O.Object.state c.serve.new.object) asks c.round-round.result i.next c.lines_of.result.now c.carry.new.self c.serve.new.next c.put_changes.new.self = record { round_is = c.round-round.ensures; before_is = c.self.invariant.carried (ap (λ (e : EngineView). e.sure) c.self.view_is ∙ c.requires.sure); again_is = c.lines_of.ensures; begins = c.carry.ensures; serves = c.serve.ensures.entries; moves = c.serve.ensures.state } in
    let may : MayBeServed (standing_of i.pair (g.O.Object.state i.object)) asks = subst (MayBeServed (standing_of i.pair (g.O.Object.state i.object))) (sym c.as_slice.ensures.value) (subst (λ (e : EngineView). MayBeServed e.standing c.args.asks.now.items) (sym c.self.view_is) c.requires.asks) in
    let is : IsRound g.O.Object.KIND i.pair (g.O.Object.state i.object) asks c.put_changes.new.self = round_by g.O.Object.KIND i.pair (g.O.Object.state i.object) (g.O.Object.state i.ahead) (g.O.Object.state c.serve.new.object) i.next i.asked.items asks c.round-round.result i.next c.lines_of.result.now c.carry.new.self c.serve.new.next c.put_changes.new.self none c.self.invariant may written c.put_changes.ensures.others (c.as_slice-2.ensures.value ∙ sym c.as_slice.ensures.value) c.put_changes.ensures.objects in
    let stored = subst (λ (ls : List Line). IsStored 0 ls i.pair c.store.new.self) c.lines.ensures c.in-Ok.ensures.ok in
    let same : c.as_slice-in-Ok.result.now ≡ asks = c.as_slice-in-Ok.ensures.value ∙ sym c.as_slice.ensures.value in
    let moved : g.O.Object.state c.catch_up.new.object ≡ state_from (g.O.Object.state i.object) asks = c.catch_up.ensures ∙ ap (state_from (g.O.Object.state i.object)) same in
    let covers = subst (λ (ls : List Line). StoreCovers 0 ls i.pair c.store.new.self.device) c.lines.ensures c.in-Ok.ensures.safe in
    let both = done g.O.Object.KIND i.pair c.store.new.self (g.O.Object.state i.object) (g.O.Object.state c.catch_up.new.object) c.put_changes.new.self i.asked.items asks c.args.self.now c.self.view_is none is stored covers moved in
    subst (λ (list : List Ask). RoundCovers (asked_round c.args.self.now.standing list) c.args.self.now (comb_view c.store.new.self (g.O.Object.state c.catch_up.new.object) i.asked.items)) c.as_slice.ensures.value both.1

pub returns-in-Ok-clause-sound : goal.returns-in-Ok-clause-sound
returns-in-Ok-clause-sound g c =
    let i = c.self.inside in
    let asks : List Ask = c.as_slice.result.now in
    let none : i.asked.items ≡ [] = none_in_doubt g.O.Object.KIND i.pair (g.O.Object.state i.object) (g.O.Object.state i.ahead) i.next i.asked.items c.self.invariant (ap (λ (e : EngineView). e.sure) c.self.view_is ∙ c.requires.sure) in
    let written : IsWritten g.O.Object.KIND i.pair (g.O.Object.state i.ahead) (g.O.Object.state c.serve.new.object) asks c.round-round.result i.next c.lines_of.result.now c.carry.new.self c.serve.new.next c.put_changes.new.self = record { round_is = c.round-round.ensures; before_is = c.self.invariant.carried (ap (λ (e : EngineView). e.sure) c.self.view_is ∙ c.requires.sure); again_is = c.lines_of.ensures; begins = c.carry.ensures; serves = c.serve.ensures.entries; moves = c.serve.ensures.state } in
    let may : MayBeServed (standing_of i.pair (g.O.Object.state i.object)) asks = subst (MayBeServed (standing_of i.pair (g.O.Object.state i.object))) (sym c.as_slice.ensures.value) (subst (λ (e : EngineView). MayBeServed e.standing c.args.asks.now.items) (sym c.self.view_is) c.requires.asks) in
    let is : IsRound g.O.Object.KIND i.pair (g.O.Object.state i.object) asks c.put_changes.new.self = round_by g.O.Object.KIND i.pair (g.O.Object.state i.object) (g.O.Object.state i.ahead) (g.O.Object.state c.serve.new.object) i.next i.asked.items asks c.round-round.result i.next c.lines_of.result.now c.carry.new.self c.serve.new.next c.put_changes.new.self none c.self.invariant may written c.put_changes.ensures.others (c.as_slice-2.ensures.value ∙ sym c.as_slice.ensures.value) c.put_changes.ensures.objects in
    let stored = subst (λ (ls : List Line). IsStored 0 ls i.pair c.store.new.self) c.lines.ensures c.in-Ok.ensures.ok in
    let same : c.as_slice-in-Ok.result.now ≡ asks = c.as_slice-in-Ok.ensures.value ∙ sym c.as_slice.ensures.value in
    let moved : g.O.Object.state c.catch_up.new.object ≡ state_from (g.O.Object.state i.object) asks = c.catch_up.ensures ∙ ap (state_from (g.O.Object.state i.object)) same in
    let ahead_is : (g.O.Object.state c.serve.new.object) ≡ state_from (g.O.Object.state i.object) asks = c.serve.ensures.state ∙ ap (λ (s : State). state_from s asks) (c.self.invariant.ahead_by ∙ (ap (state_from (g.O.Object.state i.object)) none ∙ state_from-none (g.O.Object.state i.object))) in
    of_kind_before g.O.Object.KIND c.args.self.now _ (subst (IsEngine g.O.Object.KIND) c.self.view_is (engine_of g.O.Object.KIND i.pair (g.O.Object.state i.object) (g.O.Object.state i.ahead) i.next i.asked.items c.self.invariant))
    (engine_of g.O.Object.KIND c.store.new.self (g.O.Object.state c.catch_up.new.object) (g.O.Object.state c.serve.new.object) c.put_changes.new.self i.asked.items
    (done_comb g.O.Object.KIND i.pair c.store.new.self (g.O.Object.state i.object) (g.O.Object.state i.ahead) (g.O.Object.state c.catch_up.new.object) (g.O.Object.state c.serve.new.object) c.put_changes.new.self c.put_changes.new.self i.asked.items asks none is stored refl moved ahead_is))

pub invariant_of-self-in-Err : goal.invariant_of-self-in-Err
invariant_of-self-in-Err g c =
    let i = c.self.inside in
    let asks : List Ask = c.as_slice.result.now in
    let none : i.asked.items ≡ [] = none_in_doubt g.O.Object.KIND i.pair (g.O.Object.state i.object) (g.O.Object.state i.ahead) i.next i.asked.items c.self.invariant (ap (λ (e : EngineView). e.sure) c.self.view_is ∙ c.requires.sure) in
    let written : IsWritten g.O.Object.KIND i.pair (g.O.Object.state i.ahead) (g.O.Object.state c.serve.new.object) asks c.round-round.result i.next c.lines_of.result.now c.carry.new.self c.serve.new.next c.put_changes.new.self = record { round_is = c.round-round.ensures; before_is = c.self.invariant.carried (ap (λ (e : EngineView). e.sure) c.self.view_is ∙ c.requires.sure); again_is = c.lines_of.ensures; begins = c.carry.ensures; serves = c.serve.ensures.entries; moves = c.serve.ensures.state } in
    let may : MayBeServed (standing_of i.pair (g.O.Object.state i.object)) asks = subst (MayBeServed (standing_of i.pair (g.O.Object.state i.object))) (sym c.as_slice.ensures.value) (subst (λ (e : EngineView). MayBeServed e.standing c.args.asks.now.items) (sym c.self.view_is) c.requires.asks) in
    let is : IsRound g.O.Object.KIND i.pair (g.O.Object.state i.object) asks c.put_changes.new.self = round_by g.O.Object.KIND i.pair (g.O.Object.state i.object) (g.O.Object.state i.ahead) (g.O.Object.state c.serve.new.object) i.next i.asked.items asks c.round-round.result i.next c.lines_of.result.now c.carry.new.self c.serve.new.next c.put_changes.new.self none c.self.invariant may written c.put_changes.ensures.others (c.as_slice-2.ensures.value ∙ sym c.as_slice.ensures.value) c.put_changes.ensures.objects in
    let fails = subst (λ (ls : List Line). HasFailedStore 0 ls i.pair c.in-Err.fault c.store.new.self) c.lines.ensures c.in-Err.ensures.err in
    let kept : c.try_extend_from_slice.new.self.items ≡ asks = kept_all c.clear.new.self.items c.as_slice-in-Err.result.now c.args.asks.now.items asks c.try_extend_from_slice.new.self.items c.try_extend_from_slice.result c.clear.ensures c.as_slice-in-Err.ensures.value c.as_slice.ensures.value c.as_slice-in-Err.ensures.fits c.try_extend_from_slice.ensures.variant c.try_extend_from_slice.ensures.ok in
    let ahead_is : (g.O.Object.state c.serve.new.object) ≡ state_from (g.O.Object.state i.object) asks = c.serve.ensures.state ∙ ap (λ (s : State). state_from s asks) (c.self.invariant.ahead_by ∙ (ap (state_from (g.O.Object.state i.object)) none ∙ state_from-none (g.O.Object.state i.object))) in
    failed_comb g.O.Object.KIND i.pair c.store.new.self (g.O.Object.state i.object) (g.O.Object.state c.serve.new.object) asks c.try_extend_from_slice.new.self.items c.put_changes.new.self c.put_changes.new.self c.in-Err.fault is fails refl kept ahead_is

pub returns-in-Err-clause-err : goal.returns-in-Err-clause-err
returns-in-Err-clause-err g c =
    let i = c.self.inside in
    let asks : List Ask = c.as_slice.result.now in
    let none : i.asked.items ≡ [] = none_in_doubt g.O.Object.KIND i.pair (g.O.Object.state i.object) (g.O.Object.state i.ahead) i.next i.asked.items c.self.invariant (ap (λ (e : EngineView). e.sure) c.self.view_is ∙ c.requires.sure) in
    let written : IsWritten g.O.Object.KIND i.pair (g.O.Object.state i.ahead) (g.O.Object.state c.serve.new.object) asks c.round-round.result i.next c.lines_of.result.now c.carry.new.self c.serve.new.next c.put_changes.new.self = record { round_is = c.round-round.ensures; before_is = c.self.invariant.carried (ap (λ (e : EngineView). e.sure) c.self.view_is ∙ c.requires.sure); again_is = c.lines_of.ensures; begins = c.carry.ensures; serves = c.serve.ensures.entries; moves = c.serve.ensures.state } in
    let may : MayBeServed (standing_of i.pair (g.O.Object.state i.object)) asks = subst (MayBeServed (standing_of i.pair (g.O.Object.state i.object))) (sym c.as_slice.ensures.value) (subst (λ (e : EngineView). MayBeServed e.standing c.args.asks.now.items) (sym c.self.view_is) c.requires.asks) in
    let is : IsRound g.O.Object.KIND i.pair (g.O.Object.state i.object) asks c.put_changes.new.self = round_by g.O.Object.KIND i.pair (g.O.Object.state i.object) (g.O.Object.state i.ahead) (g.O.Object.state c.serve.new.object) i.next i.asked.items asks c.round-round.result i.next c.lines_of.result.now c.carry.new.self c.serve.new.next c.put_changes.new.self none c.self.invariant may written c.put_changes.ensures.others (c.as_slice-2.ensures.value ∙ sym c.as_slice.ensures.value) c.put_changes.ensures.objects in
    let fails = subst (λ (ls : List Line). HasFailedStore 0 ls i.pair c.in-Err.fault c.store.new.self) c.lines.ensures c.in-Err.ensures.err in
    let kept : c.try_extend_from_slice.new.self.items ≡ asks = kept_all c.clear.new.self.items c.as_slice-in-Err.result.now c.args.asks.now.items asks c.try_extend_from_slice.new.self.items c.try_extend_from_slice.result c.clear.ensures c.as_slice-in-Err.ensures.value c.as_slice.ensures.value c.as_slice-in-Err.ensures.fits c.try_extend_from_slice.ensures.variant c.try_extend_from_slice.ensures.ok in
    let covers = subst (λ (ls : List Line). FailedStoreCovers 0 ls i.pair c.store.new.self) c.lines.ensures c.in-Err.ensures.fails_safe in
    let both = failed g.O.Object.KIND i.pair c.store.new.self (g.O.Object.state i.object) c.put_changes.new.self i.asked.items asks c.try_extend_from_slice.new.self.items c.in-Err.fault c.args.self.now c.self.view_is none is fails covers kept in
    subst (λ (list : List Ask). HasFailedToMake (asked_round c.args.self.now.standing list) c.in-Err.fault c.args.self.now (comb_view c.store.new.self (g.O.Object.state i.object) c.try_extend_from_slice.new.self.items)) c.as_slice.ensures.value both.0

pub returns-in-Err-clause-fails_safe : goal.returns-in-Err-clause-fails_safe
returns-in-Err-clause-fails_safe g c =
    let i = c.self.inside in
    let asks : List Ask = c.as_slice.result.now in
    let none : i.asked.items ≡ [] = none_in_doubt g.O.Object.KIND i.pair (g.O.Object.state i.object) (g.O.Object.state i.ahead) i.next i.asked.items c.self.invariant (ap (λ (e : EngineView). e.sure) c.self.view_is ∙ c.requires.sure) in
    let written : IsWritten g.O.Object.KIND i.pair (g.O.Object.state i.ahead) (g.O.Object.state c.serve.new.object) asks c.round-round.result i.next c.lines_of.result.now c.carry.new.self c.serve.new.next c.put_changes.new.self = record { round_is = c.round-round.ensures; before_is = c.self.invariant.carried (ap (λ (e : EngineView). e.sure) c.self.view_is ∙ c.requires.sure); again_is = c.lines_of.ensures; begins = c.carry.ensures; serves = c.serve.ensures.entries; moves = c.serve.ensures.state } in
    let may : MayBeServed (standing_of i.pair (g.O.Object.state i.object)) asks = subst (MayBeServed (standing_of i.pair (g.O.Object.state i.object))) (sym c.as_slice.ensures.value) (subst (λ (e : EngineView). MayBeServed e.standing c.args.asks.now.items) (sym c.self.view_is) c.requires.asks) in
    let is : IsRound g.O.Object.KIND i.pair (g.O.Object.state i.object) asks c.put_changes.new.self = round_by g.O.Object.KIND i.pair (g.O.Object.state i.object) (g.O.Object.state i.ahead) (g.O.Object.state c.serve.new.object) i.next i.asked.items asks c.round-round.result i.next c.lines_of.result.now c.carry.new.self c.serve.new.next c.put_changes.new.self none c.self.invariant may written c.put_changes.ensures.others (c.as_slice-2.ensures.value ∙ sym c.as_slice.ensures.value) c.put_changes.ensures.objects in
    let fails = subst (λ (ls : List Line). HasFailedStore 0 ls i.pair c.in-Err.fault c.store.new.self) c.lines.ensures c.in-Err.ensures.err in
    let kept : c.try_extend_from_slice.new.self.items ≡ asks = kept_all c.clear.new.self.items c.as_slice-in-Err.result.now c.args.asks.now.items asks c.try_extend_from_slice.new.self.items c.try_extend_from_slice.result c.clear.ensures c.as_slice-in-Err.ensures.value c.as_slice.ensures.value c.as_slice-in-Err.ensures.fits c.try_extend_from_slice.ensures.variant c.try_extend_from_slice.ensures.ok in
    let covers = subst (λ (ls : List Line). FailedStoreCovers 0 ls i.pair c.store.new.self) c.lines.ensures c.in-Err.ensures.fails_safe in
    let both = failed g.O.Object.KIND i.pair c.store.new.self (g.O.Object.state i.object) c.put_changes.new.self i.asked.items asks c.try_extend_from_slice.new.self.items c.in-Err.fault c.args.self.now c.self.view_is none is fails covers kept in
    subst (λ (list : List Ask). FailedRoundCovers (asked_round c.args.self.now.standing list) c.args.self.now (comb_view c.store.new.self (g.O.Object.state i.object) c.try_extend_from_slice.new.self.items)) c.as_slice.ensures.value both.1

pub returns-in-Err-clause-sound : goal.returns-in-Err-clause-sound
returns-in-Err-clause-sound g c =
    let i = c.self.inside in
    let asks : List Ask = c.as_slice.result.now in
    let none : i.asked.items ≡ [] = none_in_doubt g.O.Object.KIND i.pair (g.O.Object.state i.object) (g.O.Object.state i.ahead) i.next i.asked.items c.self.invariant (ap (λ (e : EngineView). e.sure) c.self.view_is ∙ c.requires.sure) in
    let written : IsWritten g.O.Object.KIND i.pair (g.O.Object.state i.ahead) (g.O.Object.state c.serve.new.object) asks c.round-round.result i.next c.lines_of.result.now c.carry.new.self c.serve.new.next c.put_changes.new.self = record { round_is = c.round-round.ensures; before_is = c.self.invariant.carried (ap (λ (e : EngineView). e.sure) c.self.view_is ∙ c.requires.sure); again_is = c.lines_of.ensures; begins = c.carry.ensures; serves = c.serve.ensures.entries; moves = c.serve.ensures.state } in
    let may : MayBeServed (standing_of i.pair (g.O.Object.state i.object)) asks = subst (MayBeServed (standing_of i.pair (g.O.Object.state i.object))) (sym c.as_slice.ensures.value) (subst (λ (e : EngineView). MayBeServed e.standing c.args.asks.now.items) (sym c.self.view_is) c.requires.asks) in
    let is : IsRound g.O.Object.KIND i.pair (g.O.Object.state i.object) asks c.put_changes.new.self = round_by g.O.Object.KIND i.pair (g.O.Object.state i.object) (g.O.Object.state i.ahead) (g.O.Object.state c.serve.new.object) i.next i.asked.items asks c.round-round.result i.next c.lines_of.result.now c.carry.new.self c.serve.new.next c.put_changes.new.self none c.self.invariant may written c.put_changes.ensures.others (c.as_slice-2.ensures.value ∙ sym c.as_slice.ensures.value) c.put_changes.ensures.objects in
    let fails = subst (λ (ls : List Line). HasFailedStore 0 ls i.pair c.in-Err.fault c.store.new.self) c.lines.ensures c.in-Err.ensures.err in
    let kept : c.try_extend_from_slice.new.self.items ≡ asks = kept_all c.clear.new.self.items c.as_slice-in-Err.result.now c.args.asks.now.items asks c.try_extend_from_slice.new.self.items c.try_extend_from_slice.result c.clear.ensures c.as_slice-in-Err.ensures.value c.as_slice.ensures.value c.as_slice-in-Err.ensures.fits c.try_extend_from_slice.ensures.variant c.try_extend_from_slice.ensures.ok in
    let ahead_is : (g.O.Object.state c.serve.new.object) ≡ state_from (g.O.Object.state i.object) asks = c.serve.ensures.state ∙ ap (λ (s : State). state_from s asks) (c.self.invariant.ahead_by ∙ (ap (state_from (g.O.Object.state i.object)) none ∙ state_from-none (g.O.Object.state i.object))) in
    of_kind_before g.O.Object.KIND c.args.self.now _ (subst (IsEngine g.O.Object.KIND) c.self.view_is (engine_of g.O.Object.KIND i.pair (g.O.Object.state i.object) (g.O.Object.state i.ahead) i.next i.asked.items c.self.invariant))
    (engine_of g.O.Object.KIND c.store.new.self (g.O.Object.state i.object) (g.O.Object.state c.serve.new.object) c.put_changes.new.self c.try_extend_from_slice.new.self.items
    (failed_comb g.O.Object.KIND i.pair c.store.new.self (g.O.Object.state i.object) (g.O.Object.state c.serve.new.object) asks c.try_extend_from_slice.new.self.items c.put_changes.new.self c.put_changes.new.self c.in-Err.fault is fails refl kept ahead_is))
