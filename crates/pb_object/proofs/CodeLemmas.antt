-- Kinds, actions and answers are told apart by their codes.
use Rattle.std.proofs.Common.{◌≡◌, Option, Some, refl, ap}
use Rattle.pb_object.specs.declared.kind.Kind.{Kind}
use Rattle.pb_object.specs.declared.kind.Kind.TheVariants.{Map, Stack, Heap, Queue}
use Rattle.pb_object.specs.declared.codes.Action.{Action}
use Rattle.pb_object.specs.declared.codes.Action.TheVariants.{Get, Put, Cas, Push, Pop, Top, Insert, RemoveMin, Min, QueuePut, QueueTake}
use Rattle.pb_object.specs.declared.codes.Answer.{Answer}
use Rattle.pb_object.specs.declared.codes.Answer.TheVariants.{Is, Was, Stale, NoKey, Worn, Depth, Full, Item, Empty, Size, At}
use Rattle.pb_object.specs.Codes.{kind_code, kind_of_code, action_code, action_of, answer_code, answer_of}

-- what is read again is told apart by what is written
pub told_apart : {A B : Type 0} (written : A → B) (read : B → Option A) → ((a : A) → read (written a) ≡ Some a) → (a b : A) → written a ≡ written b → a ≡ b
told_apart written read again a b e =
    let left = again a in
    let right = again b in
    let same = ap read e in
    cc

-- a kind's code is read as that kind
pub kind_of_code-code : (kind : Kind) → kind_of_code (kind_code kind) ≡ Some kind
kind_of_code-code Map = refl
kind_of_code-code Stack = refl
kind_of_code-code Heap = refl
kind_of_code-code Queue = refl

pub same_kind : (a b : Kind) → kind_code a ≡ kind_code b → a ≡ b
same_kind = told_apart kind_code kind_of_code kind_of_code-code

-- an action's code is read as that action
pub action_of-code : (action : Action) → action_of (action_code action) ≡ Some action
unfolding action_of
action_of-code Get = refl
action_of-code Put = refl
action_of-code Cas = refl
action_of-code Push = refl
action_of-code Pop = refl
action_of-code Top = refl
action_of-code Insert = refl
action_of-code RemoveMin = refl
action_of-code Min = refl
action_of-code QueuePut = refl
action_of-code QueueTake = refl

-- an answer's code is read as that answer
pub answer_of-code : (answer : Answer) → answer_of (answer_code answer) ≡ Some answer
unfolding answer_of
answer_of-code Is = refl
answer_of-code Was = refl
answer_of-code Stale = refl
answer_of-code NoKey = refl
answer_of-code Worn = refl
answer_of-code Depth = refl
answer_of-code Full = refl
answer_of-code Item = refl
answer_of-code Empty = refl
answer_of-code Size = refl
answer_of-code At = refl

pub same_answer : (a b : Answer) → answer_code a ≡ answer_code b → a ≡ b
same_answer = told_apart answer_code answer_of answer_of-code
