-- A whole source is read.
use Rattle.std.proofs.Common.{◌≡◌, ℕ, ◌+◌, ◌<◌, ◌≤◌, List, [], ◌∷◌, ◌++◌, None, Result, Ok, Err, length, get_or, take, drop, replicate, refl, sym, ap, ◌∙◌, arith, subst, ⊎_elim}
use Rattle.std.proofs.lemmas.Bool.{cases_lt}
use Rattle.std.proofs.lemmas.List.{append-nil, append_assoc, take-append-drop, length-append, length_push, get_or-replicate, get_or_past, length-replicate}
use Rattle.std.proofs.lemmas.Option.{same_Some}
use Rattle.std.specs.Global.{Vec}
use Rattle.std.specs.Result.{IsErrAnd}
use Rattle.pb_object.specs.declared.kind.Kind.{Kind}
use Rattle.pb_object.specs.declared.request.Ask.{Ask}
use Rattle.pb_script.specs.declared.script.Reading.{Reading}
use Rattle.pb_script.specs.declared.script.ScriptFault.{ScriptFault}
use Rattle.pb_script.specs.declared.script.ScriptFault.TheVariants.{Memory, Many, Line}
use Rattle.pb_script.specs.Reading.{some_number, Holds, HoldsMore, IsFinished}
use Rattle.pb_script.specs.Request.{each, request_of}
use Rattle.pb_script.specs.Script.{IsAnswer, IsReadAs, IsScript, IsShort, request_lines}
use Rattle.pb_script.specs.Words.{lines}
use Rattle.pb_script.proofs.Arguments.{each_none}
use Rattle.pb_script.proofs.Cuts.{lines_none}
use Rattle.pb_script.proofs.Steps.{IsScript_front, request_lines_append, request_lines_none}

-- some lines of a source were read, and the others are those of the rest
pub record Progress (kind : Kind) (clients : ℕ) (source rest : List ℕ) (reading : Reading) : Type 0 where
  pub read : List (List ℕ)
  pub cut : lines source ≡ read ++ lines rest
  pub held : Holds kind clients read reading
  pub room : length read + length rest ≤ length source

zeros_by : (d : ℕ) (k : ℕ) → get_or (replicate 16 d) k d ≡ d
zeros_by d k = ⊎_elim (λ (h : k < 16). get_or-replicate 16 k d d h) (λ (h : 16 ≤ k). get_or_past (replicate 16 d) k d (omega (arith, length-replicate 16 d))) (cases_lt k 16)

pub zeros : (k : ℕ) → get_or (replicate {A = ℕ} 16 0) k 0 ≡ 0
zeros k = zeros_by 0 k

no_lines : (kind : Kind) (clients : ℕ) → IsScript kind clients [] []
no_lines kind clients = record { reads = ap (each (request_of kind clients)) request_lines_none ∙ each_none (request_of kind clients); follow = λ k d h. absurd (omega arith) }

-- nothing was read yet
pub Progress_none : (kind : Kind) (clients : ℕ) (source : List ℕ) (reading : Reading) → reading.asks.items ≡ [] → ((k : ℕ) → get_or reading.last k 0 ≡ 0) → length reading.last ≡ 16 → reading.lines ≡ 0 → reading.requests ≡ 0 → reading.refused ≡ None → Progress kind clients source source reading
Progress_none kind clients source reading asks last many lines requests refused = record {
  read = [];
  cut = refl;
  held = record {
    lines = lines;
    requests = requests ∙ sym (ap length request_lines_none);
    last = many;
    few = omega arith;
    script = rw (refused, asks) (no_lines kind clients, λ client l. sym (ap some_number (last client)));
  };
  room = omega arith;
}

-- one more line was read
pub Progress_more : (kind : Kind) (clients : ℕ) (source rest : List ℕ) (line after : List ℕ) (reading new : Reading) (before : Progress kind clients source rest reading) → lines rest ≡ line ∷ lines after → length after < length rest → Holds kind clients (before.read ++ line ∷ []) new → Progress kind clients source after new
Progress_more kind clients source rest line after reading new before cut shorter held =
    let read = before.read in
    let room = before.room in
    record {
      read = read ++ line ∷ [];
      cut = before.cut ∙ ap (λ r. read ++ r) cut ∙ sym (append_assoc read (line ∷ []) (lines after));
      held = held;
      room = omega (arith, length_push read line);
    }

-- a fault at a line is the source's
pub fault_at_line : (kind : Kind) (clients : ℕ) (source rest : List ℕ) (line after : List ℕ) (reading new : Reading) (before : Progress kind clients source rest reading) (fault : ScriptFault) → lines rest ≡ line ∷ lines after → HoldsMore kind clients (before.read ++ line ∷ []) new (Err fault) → IsReadAs kind clients (lines source) (Err fault)
fault_at_line kind clients source rest line after reading new before Memory cut h = tt
fault_at_line kind clients source rest line after reading new before Many cut h =
    let read = before.read in
    let whole : lines source ≡ (read ++ line ∷ []) ++ lines after = before.cut ∙ ap (λ r. read ++ r) cut ∙ sym (append_assoc read (line ∷ []) (lines after)) in
    let len : length (request_lines (lines source)) ≡ length (request_lines (read ++ line ∷ [])) + length (request_lines (lines after)) =
    ap (λ l. length (request_lines l)) whole ∙ ap length (request_lines_append (read ++ line ∷ []) (lines after)) ∙ length-append (request_lines (read ++ line ∷ [])) (request_lines (lines after)) in
    omega arith
fault_at_line kind clients source rest line after reading new before (Line number) cut h = absurd h

-- a fault that `?` passes on
pub passed_on : (kind : Kind) (clients : ℕ) (lines : List (List ℕ)) (result : Result (Vec Ask) ScriptFault) (fault : ScriptFault) → IsErrAnd result (λ e. e ≡ fault) → IsReadAs kind clients lines (Err fault) → IsReadAs kind clients lines result
passed_on kind clients lines (Ok asks) fault e h = absurd e
passed_on kind clients lines (Err other) fault e h = let P : ScriptFault → Type 0 = λ f. IsReadAs kind clients lines (Err f) in subst P (sym e) h

finished_by : (kind : Kind) (clients : ℕ) (read : List (List ℕ)) (reading : Reading) (result : Result (Vec Ask) ScriptFault) → IsFinished reading result → Holds kind clients read reading → IsReadAs kind clients read result
finished_by kind clients read reading (Ok asks) e h =
    let script = rw e.0 at h.script in
    let requests = h.requests in let few = h.few in
    (omega arith, rw e.1 script.0)
finished_by kind clients read reading (Err Memory) e h = tt
finished_by kind clients read reading (Err Many) e h = absurd e
finished_by kind clients read reading (Err (Line number)) e h =
    let script = rw e at h.script in
    let requests = h.requests in let few = h.few in
    (omega arith, script.1)

-- what a reading answers at the end of the source
pub finished : (kind : Kind) (clients : ℕ) (source : List ℕ) (reading : Reading) (result : Result (Vec Ask) ScriptFault) → Progress kind clients source [] reading → IsFinished reading result → IsReadAs kind clients (lines source) result
finished kind clients source reading result p e =
    let whole : lines source ≡ p.read = p.cut ∙ ap (λ r. p.read ++ r) lines_none ∙ append-nil p.read in
    rw whole (finished_by kind clients p.read reading result e p.held)

-- a script is read as its requests alone
pub only : (kind : Kind) (clients : ℕ) (lines : List (List ℕ)) (result : Result (Vec Ask) ScriptFault) → IsReadAs kind clients lines result → (asks : List Ask) → IsShort lines → IsScript kind clients lines asks → IsAnswer asks result
only kind clients lines (Ok read) h asks short script = let s = h.1 in same_Some read.items asks (sym s.reads ∙ script.reads)
only kind clients lines (Err Memory) h asks short script = tt
only kind clients lines (Err Many) h asks short script = omega arith
only kind clients lines (Err (Line number)) h asks short script =
    let refused = h.1 in
    let whole : lines ≡ take number lines ++ drop number lines = sym (take-append-drop number lines) in
    let P : List (List ℕ) → Type 0 = λ l. IsScript kind clients l asks in
    refused.none _ (IsScript_front kind clients (take number lines) (drop number lines) asks (subst P whole script))
