-- Whether the format allows a line is decided, for each sort of line.
use Rattle.std.proofs.Common.{◌≡◌, ℕ, ◌+◌, ◌-◌, ◌*◌, ◌/◌, ◌<◌, IsSomeAnd, Contains, List, sym, ap, ◌∙◌, subst, unwrap_or, arith}
use Rattle.pb_pmem.specs.declared.line.Line.{Line}
use Rattle.pb_pmem.specs.Lines.{line_at, word_of}
use Rattle.pb_object.specs.declared.codes.Answer.{Answer}
use Rattle.pb_object.specs.declared.kind.Kind.{Kind}
use Rattle.pb_object.specs.declared.kind.Kind.TheVariants.{Map, Stack, Heap, Queue}
use Rattle.pb_object.specs.declared.request.Kept.{Kept}
use Rattle.pb_object.specs.declared.request.Op.{Op}
use Rattle.pb_object.specs.declared.request.Reply.{Reply}
use Rattle.pb_object.specs.declared.request.TheConstants.{LAST_NUMBER}
use Rattle.pb_object.specs.Codes.{action_of, action_kind, action_side, argument_count, answer_code, answer_of, answers_of, value_count, kind_code}
use Rattle.pb_object.specs.History.{IsOfSide}
use Rattle.pb_object.specs.ItemLines.{count_in, item_in, HasOneWord, IsCountLine, IsStackPlace, IsHeapPlace, IsItemLine}
use Rattle.pb_object.specs.Map.{Register, empty_register, last_version}
use Rattle.pb_object.specs.MapLines.{register_in, IsRegisterAt, IsMapLine}
use Rattle.pb_object.specs.ObjectLines.{IsQueueLine, IsAllowedLine}
use Rattle.pb_object.specs.Queue.{last_position}
use Rattle.pb_object.specs.Request.{LeavesUnusedZero, IsOperation, none_kept, LeavesReplyZero}
use Rattle.pb_layout.specs.Cell.{cell_line_of, IsCell}
use Rattle.pb_layout.specs.ClientLine.{client_line_of, kept_in, IsReplyTo, IsRecorded, IsKept}
use Rattle.pb_layout.specs.Shape.{IsHeader}
use Rattle.pb_layout.specs.Header.{header_line_of, IsHeaderLine, named_header, word}
use Rattle.pb_layout.specs.declared.header.Header.{Header}
use Rattle.pb_layout.proofs.Decided.{Decided, decided_by, decided_both, decided_either, decided_if, decided_eq, decided_lt, decided_le, decided_all, decided_option, decided_contains, decided_line}
use Rattle.pb_object.proofs.CodeLemmas.{kind_of_code-code, same_kind, same_answer}

decided_answer : (a b : Answer) → Decided (a ≡ b)
decided_answer a b = decided_by (same_answer a b) (ap answer_code) (decided_eq (answer_code a) (answer_code b))

pub decided_kind : (a b : Kind) → Decided (a ≡ b)
decided_kind a b = decided_by (same_kind a b) (ap kind_code) (decided_eq (kind_code a) (kind_code b))

decided_unused : (used : ℕ) (op : Op) → Decided (LeavesUnusedZero used op)
decided_unused used op =
    decided_by (λ p. record { a = p.0; b = p.1.0; c = p.1.1 }) (λ r. (r.a, (r.b, r.c))) (decided_both (decided_if (decided_lt used 1) (decided_eq op.a 0)) (decided_both (decided_if (decided_lt used 2) (decided_eq op.b 0)) (decided_if (decided_lt used 3) (decided_eq op.c 0))))

decided_operation : (kind : Kind) (op : Op) → Decided (IsOperation kind op)
decided_operation kind op =
    decided_option (action_of op.code) (λ action. (action_kind action ≡ kind) × LeavesUnusedZero (argument_count action) op) (λ action. decided_both (decided_kind (action_kind action) kind) (decided_unused (argument_count action) op))

decided_of_side : (side : ℕ) (op : Op) → Decided (IsOfSide side op)
decided_of_side side op = decided_option (action_of op.code) (λ action. action_side action ≡ side) (λ action. decided_eq (action_side action) side)

decided_reply_zero : (used : ℕ) (reply : Reply) → Decided (LeavesReplyZero used reply)
decided_reply_zero used reply =
    decided_by (λ p. record { value = p.0; extra = p.1 }) (λ r. (r.value, r.extra)) (decided_both (decided_if (decided_lt used 1) (decided_eq reply.value 0)) (decided_if (decided_lt used 2) (decided_eq reply.extra 0)))

decided_reply : (op : Op) (reply : Reply) → Decided (IsReplyTo op reply)
decided_reply op reply =
    decided_option (action_of op.code) (λ action. IsSomeAnd (answer_of reply.code) (λ answer. Contains (answers_of action) answer × LeavesReplyZero (value_count action answer) reply)) (λ action. decided_option (answer_of reply.code) (λ answer. Contains (answers_of action) answer × LeavesReplyZero (value_count action answer) reply) (λ answer. decided_both (decided_contains (answers_of action) answer decided_answer) (decided_reply_zero (value_count action answer) reply)))

decided_recorded : (kind : Kind) (side : ℕ) (kept : Kept) → Decided (IsRecorded kind side kept)
decided_recorded kind side kept =
    decided_by (λ p. record { some = p.0; few = p.1.0; operation = p.1.1.0; of_side = p.1.1.1.0; reply = p.1.1.1.1 }) (λ r. (r.some, (r.few, (r.operation, (r.of_side, r.reply))))) (decided_both (decided_le 1 kept.number) (decided_both (decided_le kept.number LAST_NUMBER) (decided_both (decided_operation kind kept.op) (decided_both (decided_of_side side kept.op) (decided_reply kept.op kept.reply)))))

-- what may be kept is decided
pub decided_kept : (kind : Kind) (side : ℕ) (kept : Kept) → Decided (IsKept kind side kept)
decided_kept kind side kept =
    decided_either (decided_by (ap kept_in) (ap client_line_of) (decided_line (client_line_of kept) (client_line_of none_kept))) (decided_recorded kind side kept)

-- a header's line names that header
pub named_header-of : (head : Header) → named_header (header_line_of head) ≡ head
named_header-of head =
    λ i. record { kind = unwrap_or (kind_of_code-code head.kind i) Map; clients = head.clients; size = head.size }

pub named_by_line : (line : Line) (head : Header) → line ≡ header_line_of head → named_header line ≡ head
named_by_line line head e = ap named_header e ∙ named_header-of head

decided_header : (head : Header) → Decided (IsHeader head)
decided_header head =
    decided_by (λ p. record { some_clients = p.0; few_clients = p.1.0; some_size = p.1.1.0; small_size = p.1.1.1 }) (λ r. (r.some_clients, (r.few_clients, (r.some_size, r.small_size)))) (decided_both (decided_le 1 head.clients) (decided_both (decided_le head.clients 16) (decided_both (decided_le 1 head.size) (decided_le head.size 1024))))

header_of_named : (line : Line) → IsHeader (named_header line) × (line ≡ header_line_of (named_header line)) → IsHeaderLine line
header_of_named line p = (named_header line, p.0, p.1)

pub named_of_header : (line : Line) → IsHeaderLine line → IsHeader (named_header line) × (line ≡ header_line_of (named_header line))
named_of_header line p =
    let same = sym (named_by_line line p.0 p.2) in
    (subst (λ (h : Header). IsHeader h) same p.1, subst (λ (h : Header). line ≡ header_line_of h) same p.2)

pub decided_header_line : (line : Line) → Decided (IsHeaderLine line)
decided_header_line line =
    decided_by (header_of_named line) (named_of_header line) (decided_both (decided_header (named_header line)) (decided_line line (header_line_of (named_header line))))

cell_by_value : (position : ℕ) (line : Line) → IsCell position line → line ≡ cell_line_of position (word line 1)
cell_by_value position line cell = cell.1 ∙ ap (cell_line_of position) (sym (ap (λ (l : Line). word l 1) cell.1))

pub decided_cell : (position : ℕ) (line : Line) → Decided (IsCell position line)
decided_cell position line =
    decided_by (λ e. (word line 1, e)) (cell_by_value position line) (decided_line line (cell_line_of position (word line 1)))

-- the object lines
decided_one_word : (line : Line) → Decided (HasOneWord line)
decided_one_word line =
    decided_by (λ all place some inside. all place inside some) (λ all place inside some. all place some inside) (decided_all (λ place. 0 < place → word line place ≡ 0) (λ place. decided_if (decided_lt 0 place) (decided_eq (word line place) 0)) 8)

decided_empty : (register : Register) → Decided (register ≡ empty_register)
decided_empty register =
    decided_by (λ p. λ i. record { value = p.0 i; version = p.1 i }) (λ e. (ap (λ (r : Register). r.value) e, ap (λ (r : Register). r.version) e)) (decided_both (decided_eq register.value 0) (decided_eq register.version 0))

decided_register : (size key : ℕ) (register : Register) → Decided (IsRegisterAt size key register)
decided_register size key register =
    decided_by (λ p. record { last = p.0; unwritten = p.1.0; unused = p.1.1 }) (λ r. (r.last, (r.unwritten, r.unused))) (decided_both (decided_le register.version last_version) (decided_both (decided_if (decided_eq register.version 0) (decided_eq register.value 0)) (decided_if (decided_le size key) (decided_empty register))))

decided_map_line : (size : ℕ) (lines : List Line) (line : ℕ) → Decided (IsMapLine size lines line)
decided_map_line size lines line =
    decided_by (λ all key at. all key (omega arith) at) (λ all key inside at. all key at) (decided_all (λ key. key / 4 ≡ line → IsRegisterAt size key (register_in lines key)) (λ key. decided_if (decided_eq (key / 4) line) (decided_register size key (register_in lines key))) (4 * line + 4))

decided_count_line : (size : ℕ) (line : Line) → Decided (IsCountLine size line)
decided_count_line size line =
    decided_by (λ p. record { count = p.0; rest = p.1 }) (λ r. (r.count, r.rest)) (decided_both (decided_le (word line 0) size) (decided_one_word line))

decided_stack_place : (lines : List Line) (place : ℕ) → Decided (IsStackPlace lines place)
decided_stack_place lines place =
    decided_by (λ p. record { unused = p }) (λ r. r.unused) (decided_if (decided_le (count_in lines) place) (decided_eq (item_in lines place) 0))

decided_heap_place : (lines : List Line) (place : ℕ) → Decided (IsHeapPlace lines place)
decided_heap_place lines place =
    decided_by (λ p. record { unused = p.0; ordered = p.1 }) (λ r. (r.unused, r.ordered)) (decided_both (decided_if (decided_le (count_in lines) place) (decided_eq (item_in lines place) 0)) (decided_if (decided_lt 0 place) (decided_if (decided_lt place (count_in lines)) (decided_le (item_in lines ((place - 1) / 2)) (item_in lines place)))))

decided_item_line : (IsPlace : List Line → ℕ → Type 0) → ((lines : List Line) (place : ℕ) → Decided (IsPlace lines place)) → (size : ℕ) (lines : List Line) (line : ℕ) → Decided (IsItemLine IsPlace size lines line)
decided_item_line IsPlace each size lines line =
    decided_by (λ p. record { count = p.0; places = λ place at. p.1 place (omega arith) at }) (λ r. (r.count, λ place inside at. r.places place at)) (decided_both (decided_if (decided_eq line 0) (decided_count_line size (line_at lines 0))) (decided_all (λ place. place / 8 + 1 ≡ line → IsPlace lines place) (λ place. decided_if (decided_eq (place / 8 + 1) line) (each lines place)) (8 * line + 8)))

decided_queue_line : (size : ℕ) (lines : List Line) (line : ℕ) → Decided (IsQueueLine size lines line)
decided_queue_line size lines line =
    decided_by (λ p. record { last = p.0; rest = p.1.0; head = p.1.1.0; waiting = p.1.1.1 }) (λ r. (r.last, (r.rest, (r.head, r.waiting)))) (decided_both (decided_le (word_of lines line 0) last_position) (decided_both (decided_one_word (line_at lines line)) (decided_both (decided_if (decided_eq line 1) (decided_le (word_of lines 1 0) (word_of lines 0 0))) (decided_if (decided_eq line 1) (decided_le (word_of lines 0 0 - word_of lines 1 0) size)))))

pub decided_allowed : (kind : Kind) (size : ℕ) (lines : List Line) (line : ℕ) → Decided (IsAllowedLine kind size lines line)
decided_allowed Map size lines line = decided_map_line size lines line
decided_allowed Stack size lines line = decided_item_line IsStackPlace decided_stack_place size lines line
decided_allowed Heap size lines line = decided_item_line IsHeapPlace decided_heap_place size lines line
decided_allowed Queue size lines line = decided_queue_line size lines line
