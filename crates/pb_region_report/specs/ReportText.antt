-- The report of a region: what it is, what is kept of each client, and what the object holds.
use Rattle.std.specs.Prelude.{ℕ, ◌+◌, Bool, List, [], ◌∷◌, ◌++◌, if◌then◌else◌, ◌==◌, nat_lt, codes, count_by, decimal, length, slice_index}
use Rattle.pb_object.specs.declared.request.Kept.{Kept}
use Rattle.pb_object.specs.Codes.{kind_word}
use Rattle.pb_object.specs.Map.{Register, register_at}
use Rattle.pb_object.specs.Object.{State, Registers, Items, Rising, Waits}
use Rattle.pb_object.specs.Queue.{Waiting}
use Rattle.pb_object.specs.Standing.{Standing, newest_of}
use Rattle.pb_object.specs.Text.{op_text, reply_text}
use Rattle.pb_report.specs.Pieces.{joined, numbered}

-- as `kind map`, `clients 2`, `size 4` and `rounds 3`, each on its line
abbrev pub head_text : Standing → List ℕ
head_text s =
    (codes "kind " ++ (kind_word s.kind ++ codes "\n")) ++ (numbered (codes "clients") (s.clients ∷ [])
    ++ (numbered (codes "size") (s.size ∷ []) ++ numbered (codes "rounds") s.rounds))

-- a kept request, as `2 get 0 is 77 1`
abbrev pub kept_text : Kept → List ℕ
kept_text kept = decimal kept.number ++ (codes " " ++ (op_text kept.op ++ (codes " " ++ reply_text kept.op kept.reply)))

-- a client's last request, as `client 0 2 get 0 is 77 1`, or `client 0 none`
abbrev pub client_line : ℕ → Kept → List ℕ
client_line client kept =
    codes "client " ++ (decimal client ++ (codes " " ++ ((if kept.number == 0 then codes "none" else kept_text kept) ++ codes "\n")))

-- the lines of all clients, rising
abbrev pub clients_text : Standing → List ℕ
clients_text s = joined (λ client. client_line client (newest_of s client)) s.clients

abbrev pub is_written : Register → Bool
is_written register = nat_lt 0 register.version

-- a register that was written, as `register 3 77 1`. One that wasn't has no line
abbrev pub register_line : ℕ → Register → List ℕ
register_line key register =
    if is_written register then numbered (codes "register") (key ∷ register.value ∷ register.version ∷ []) else []

-- how many registers were written, and a line for each of them
abbrev pub registers_text : List Register → List ℕ
registers_text registers =
    numbered (codes "registers") (count_by is_written registers ∷ [])
    ++ joined (λ key. register_line key (register_at registers key)) (length registers)

-- as `items 2`, and `item 5` for each
abbrev pub items_text : List ℕ → List ℕ
items_text items =
    numbered (codes "items") (length items ∷ [])
    ++ joined (λ place. numbered (codes "item") (slice_index items place ∷ [])) (length items)

-- a queue's items from front to back, each with its position, as `item 5 12`: positions are counted from the first item ever put
abbrev pub waiting_text : Waiting → List ℕ
waiting_text queue =
    numbered (codes "items") (length queue.items ∷ [])
    ++ joined (λ place. numbered (codes "item") (slice_index queue.items place ∷ (queue.taken + place) ∷ [])) (length queue.items)

-- a map's registers, a stack's items from bottom to top, a heap's in rising order, a queue's with their positions
abbrev pub state_text : State → List ℕ
state_text (Registers registers) = registers_text registers
state_text (Items size items) = items_text items
state_text (Rising size items) = items_text items
state_text (Waits size queue) = waiting_text queue

-- the whole report
unfoldable pub report_text : Standing → List ℕ
report_text s = (head_text s ++ clients_text s) ++ state_text s.state

-- what it says before it comes to the object
abbrev pub region_text : Standing → List ℕ
region_text s = head_text s ++ clients_text s
