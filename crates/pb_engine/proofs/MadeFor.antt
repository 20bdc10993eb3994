-- Calls that were made for requests, one after the other.
use Rattle.std.proofs.Common.{List, [], ◌∷◌, ◌++◌, subst}
use Rattle.std.proofs.lemmas.List.{append-nil}
use Rattle.pb_pmem.specs.declared.log.LogOp.{LogOp}
use Rattle.pb_object.specs.declared.request.Ask.{Ask}
use Rattle.pb_object.specs.History.{Round}
use Rattle.pb_engine.specs.Calls.{EngineCall, Made, Failed, Settled, FailedSettling, HasRequest, AreMadeFor}
use Rattle.pb_engine.specs.View.{FailedRound}

-- calls after calls
pub AreMadeFor-append : (calls more : List EngineCall) (asks others : List Ask) → AreMadeFor calls asks → AreMadeFor more others → AreMadeFor (calls ++ more) (asks ++ others)
AreMadeFor-append [] more [] others one two = two
AreMadeFor-append [] more (ask ∷ asks) others one two = absurd one
AreMadeFor-append (Made round ops ∷ calls) more asks others one two = AreMadeFor-append calls more asks others one two
AreMadeFor-append (Failed failed ops ∷ calls) more [] others one two = absurd one
AreMadeFor-append (Failed failed ops ∷ calls) more (ask ∷ asks) others one two =
    (one.0, AreMadeFor-append calls more asks others one.1 two)
AreMadeFor-append (Settled ops ∷ calls) more asks others one two = AreMadeFor-append calls more asks others one two
AreMadeFor-append (FailedSettling ops ∷ calls) more [] others one two = absurd one
AreMadeFor-append (FailedSettling ops ∷ calls) more (ask ∷ asks) others one two = AreMadeFor-append calls more asks others one two

-- a call that didn't fail is for none of them
no_more : (calls more : List EngineCall) (asks : List Ask) → AreMadeFor calls asks → AreMadeFor more [] → AreMadeFor (calls ++ more) asks
no_more calls more asks one two =
    subst (AreMadeFor (calls ++ more)) (append-nil asks) (AreMadeFor-append calls more asks [] one two)

pub round_for_none : (calls : List EngineCall) (round : Round) (ops : List LogOp) (asks : List Ask) → AreMadeFor calls asks → AreMadeFor (calls ++ Made round ops ∷ []) asks
round_for_none calls round ops asks are = no_more calls (Made round ops ∷ []) asks are tt

pub settling_for_none : (calls : List EngineCall) (ops : List LogOp) (asks : List Ask) → AreMadeFor calls asks → AreMadeFor (calls ++ Settled ops ∷ []) asks
settling_for_none calls ops asks are = no_more calls (Settled ops ∷ []) asks are tt

-- one that failed is for one more
pub failed_for : (calls : List EngineCall) (failed : FailedRound) (ops : List LogOp) (asks : List Ask) (ask : Ask) → HasRequest failed.round ask → AreMadeFor calls asks → AreMadeFor (calls ++ Failed failed ops ∷ []) (asks ++ ask ∷ [])
failed_for calls failed ops asks ask has are = AreMadeFor-append calls (Failed failed ops ∷ []) asks (ask ∷ []) are (has, tt)

pub failed_settling_for : (calls : List EngineCall) (ops : List LogOp) (asks : List Ask) (ask : Ask) → AreMadeFor calls asks → AreMadeFor (calls ++ FailedSettling ops ∷ []) (asks ++ ask ∷ [])
failed_settling_for calls ops asks ask are = AreMadeFor-append calls (FailedSettling ops ∷ []) asks (ask ∷ []) are tt
