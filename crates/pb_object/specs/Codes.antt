-- The format's codes, and the words of scripts and outcome lines.
use Rattle.std.specs.Prelude.{ℕ, ◌+◌, List, [], ◌∷◌, Option, Some, None, if◌then◌else◌, ◌==◌, codes, find}
use Rattle.std.specs.Str.{bytes_eq}
use Rattle.pb_object.specs.declared.kind.Kind.{Kind}
use Rattle.pb_object.specs.declared.kind.Kind.TheVariants.{Map, Stack, Heap, Queue}
use Rattle.pb_object.specs.declared.codes.Action.{Action}
use Rattle.pb_object.specs.declared.codes.Action.TheVariants.{Get, Put, Cas, Push, Pop, Top, Insert, RemoveMin, Min, QueuePut, QueueTake}
use Rattle.pb_object.specs.declared.codes.Answer.{Answer}
use Rattle.pb_object.specs.declared.codes.Answer.TheVariants.{Is, Was, Stale, NoKey, Worn, Depth, Full, Item, Empty, Size, At}

-- the number that stands for a kind in a header
abbrev pub kind_code : Kind → ℕ
kind_code Map = 1
kind_code Stack = 2
kind_code Heap = 3
kind_code Queue = 4

-- the kind that a number stands for, if there is one
abbrev pub kind_of_code : ℕ → Option Kind
kind_of_code code =
    if code == 1 then Some Map else
    (if code == 2 then Some Stack else
    (if code == 3 then Some Heap else
    (if code == 4 then Some Queue else None)))

-- the word for a kind
abbrev pub kind_word : Kind → List ℕ
kind_word Map = codes "map"
kind_word Stack = codes "stack"
kind_word Heap = codes "heap"
kind_word Queue = codes "queue"

-- the code of an action
abbrev pub action_code : Action → ℕ
action_code Get = 1
action_code Put = 2
action_code Cas = 3
action_code Push = 4
action_code Pop = 5
action_code Top = 6
action_code Insert = 7
action_code RemoveMin = 8
action_code Min = 9
action_code QueuePut = 10
action_code QueueTake = 11

-- the action with this code, if there is one
unfoldable pub action_of : ℕ → Option Action
action_of code =
    if code == 1 then Some Get else
    (if code == 2 then Some Put else
    (if code == 3 then Some Cas else
    (if code == 4 then Some Push else
    (if code == 5 then Some Pop else
    (if code == 6 then Some Top else
    (if code == 7 then Some Insert else
    (if code == 8 then Some RemoveMin else
    (if code == 9 then Some Min else
    (if code == 10 then Some QueuePut else
    (if code == 11 then Some QueueTake else None))))))))))

-- the kind of object that an action is for
abbrev pub action_kind : Action → Kind
action_kind Get = Map
action_kind Put = Map
action_kind Cas = Map
action_kind Push = Stack
action_kind Pop = Stack
action_kind Top = Stack
action_kind Insert = Heap
action_kind RemoveMin = Heap
action_kind Min = Heap
action_kind QueuePut = Queue
action_kind QueueTake = Queue

-- takes of a queue are combined apart from its puts; all else is on one side
abbrev pub action_side : Action → ℕ
action_side QueueTake = 1
action_side _ = 0

-- how many of the arguments a, b, c an action uses, the first ones
abbrev pub argument_count : Action → ℕ
argument_count Get = 1
argument_count Put = 2
argument_count Cas = 3
argument_count Push = 1
argument_count Pop = 0
argument_count Top = 0
argument_count Insert = 1
argument_count RemoveMin = 0
argument_count Min = 0
argument_count QueuePut = 1
argument_count QueueTake = 0

-- the word of an action in a script
abbrev pub action_word : Action → List ℕ
action_word Get = codes "get"
action_word Put = codes "put"
action_word Cas = codes "cas"
action_word Push = codes "push"
action_word Pop = codes "pop"
action_word Top = codes "top"
action_word Insert = codes "insert"
action_word RemoveMin = codes "removemin"
action_word Min = codes "min"
action_word QueuePut = codes "put"
action_word QueueTake = codes "take"

-- the code of an answer
abbrev pub answer_code : Answer → ℕ
answer_code Is = 1
answer_code Was = 2
answer_code Stale = 3
answer_code NoKey = 4
answer_code Worn = 5
answer_code Depth = 6
answer_code Full = 7
answer_code Item = 8
answer_code Empty = 9
answer_code Size = 10
answer_code At = 11

-- the answer with this code, if there is one
unfoldable pub answer_of : ℕ → Option Answer
answer_of code =
    if code == 1 then Some Is else
    (if code == 2 then Some Was else
    (if code == 3 then Some Stale else
    (if code == 4 then Some NoKey else
    (if code == 5 then Some Worn else
    (if code == 6 then Some Depth else
    (if code == 7 then Some Full else
    (if code == 8 then Some Item else
    (if code == 9 then Some Empty else
    (if code == 10 then Some Size else
    (if code == 11 then Some At else None))))))))))

-- the word of an answer in an outcome line
abbrev pub answer_word : Answer → List ℕ
answer_word Is = codes "is"
answer_word Was = codes "was"
answer_word Stale = codes "stale"
answer_word NoKey = codes "nokey"
answer_word Worn = codes "worn"
answer_word Depth = codes "depth"
answer_word Full = codes "full"
answer_word Item = codes "item"
answer_word Empty = codes "empty"
answer_word Size = codes "size"
answer_word At = codes "at"

-- what a reply to an action may say
abbrev pub answers_of : Action → List Answer
answers_of Get = Is ∷ NoKey ∷ []
answers_of Put = Was ∷ NoKey ∷ Worn ∷ []
answers_of Cas = Was ∷ Stale ∷ NoKey ∷ Worn ∷ []
answers_of Push = Depth ∷ Full ∷ []
answers_of Pop = Item ∷ Empty ∷ []
answers_of Top = Item ∷ Empty ∷ []
answers_of Insert = Size ∷ Full ∷ []
answers_of RemoveMin = Item ∷ Empty ∷ []
answers_of Min = Item ∷ Empty ∷ []
answers_of QueuePut = At ∷ Full ∷ Worn ∷ []
answers_of QueueTake = Item ∷ Empty ∷ []

-- how many of its two numbers a reply to an action uses
abbrev pub value_count : Action → Answer → ℕ
value_count action Is = 2
value_count action Was = 2
value_count action Stale = 2
value_count action NoKey = 0
value_count action Worn = 0
value_count action Depth = 1
value_count action Full = 0
value_count action Item = action_side action + 1
value_count action Empty = 0
value_count action Size = 1
value_count action At = 1

-- the actions of a kind
abbrev pub actions_of : Kind → List Action
actions_of Map = Get ∷ Put ∷ Cas ∷ []
actions_of Stack = Push ∷ Pop ∷ Top ∷ []
actions_of Heap = Insert ∷ RemoveMin ∷ Min ∷ []
actions_of Queue = QueuePut ∷ QueueTake ∷ []

-- the one of these actions that a word names, if it names one
abbrev pub named_among : List Action → List ℕ → Option Action
named_among actions word = find (λ action. bytes_eq (action_word action) word) actions

-- the action of a kind that a word names, if it names one
unfoldable pub action_named : Kind → List ℕ → Option Action
action_named kind word = named_among (actions_of kind) word

-- the kind that a word names, if it names one
unfoldable pub kind_named : List ℕ → Option Kind
kind_named word = find (λ kind. bytes_eq (kind_word kind) word) (Map ∷ Stack ∷ Heap ∷ Queue ∷ [])
