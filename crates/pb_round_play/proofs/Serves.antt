-- The object of a record takes the requests of a round.
use Rattle.std.proofs.Common.{◌≡◌, ◌≢◌, ℕ, ◌+◌, List, ◌++◌, length, drop, Result, Ok, Err, OnOk, IfErr, sym, ap, subst, ◌∙◌, arith}
use Rattle.std.proofs.Math.Seq.{drop-append_seam}
use Rattle.std.proofs.Math.ListN.{get_or-append}
use Rattle.std.proofs.lemmas.List.{length-append}
use Rattle.pb_pmem.specs.declared.line.Line.{Line}
use Rattle.pb_pmem.specs.Lines.{line_at, zero_line}
use Rattle.pb_object.specs.declared.kind.Kind.{Kind}
use Rattle.pb_object.specs.declared.kind.Kind.TheVariants.{Queue}
use Rattle.pb_object.specs.Object.{State}
use Rattle.pb_object.specs.ObjectLines.{kind_of, size_of, LinesRepresent, IsFirstRefused}
use Rattle.pb_object.specs.declared.object.NotAState.{NotAState}
use Rattle.pb_object.proofs.ObjectLinesLemmas.{not_refused, same_state}
use Rattle.pb_object.specs.declared.request.Ask.{Ask}
use Rattle.pb_layout.specs.declared.header.Header.{Header}
use Rattle.pb_layout.specs.Header.{slot_count}
use Rattle.pb_engine.specs.Asks.{state_from}
use Rattle.pb_engine.specs.Next.{KeepsBefore}
use Rattle.pb_round_play.specs.declared.seat.Seat.{Seat}
use Rattle.pb_round_play.specs.Serving.{HasServed}

from_ok : {T E : Type 0} (r : Result T E) (P : Type 0) (Q : E → Type 0) → OnOk r P → IfErr r Q → ((e : E) → Q e → ⊥) → P
from_ok (Ok x) P Q p q no_error = p
from_ok (Err e) P Q p q no_error = absurd (no_error e q)

-- lines that represent a state are taken as it
pub takes : {T : Type 0} (r : Result T NotAState) (lines : List Line) (kind : Kind) (size : ℕ) (taken state : State) → kind ≢ Queue → kind_of taken ≡ kind → size_of taken ≡ size → kind_of state ≡ kind → size_of state ≡ size → LinesRepresent lines state → OnOk r (LinesRepresent lines taken) → IfErr r (λ refused. IsFirstRefused kind size lines refused.line) → taken ≡ state
takes r lines kind size taken state no_queue taken_kind taken_size state_kind state_size stand ok err =
    same_state lines taken state (taken_kind ∙ sym state_kind) (taken_size ∙ sym state_size) (λ queue. no_queue (sym taken_kind ∙ queue))
    (from_ok r (LinesRepresent lines taken) (λ refused. IsFirstRefused kind size lines refused.line) ok err (λ refused first. not_refused lines state refused.line stand (subst (λ (k : Kind). IsFirstRefused k (size_of state) lines refused.line) (sym state_kind) (subst (λ (n : ℕ). IsFirstRefused kind n lines refused.line) (sym state_size) first))))
    stand

-- lines before a place stay where those from it on are written
pub front_stays : (lines front back into : List Line) (first : ℕ) → lines ≡ front ++ back → length front ≡ first → length into ≡ length back → KeepsBefore first lines (front ++ into)
front_stays lines front back into first parts at long = record {
  long = length-append front into ∙ (ap (λ (n : ℕ). length front + n) long ∙ (sym (length-append front back) ∙ ap length (sym parts)));
  same = λ line below.
      get_or-append front into zero_line line (omega (arith, at, below)) ∙ (sym (get_or-append front back zero_line line (omega (arith, at, below))) ∙ ap (λ (ls : List Line). line_at ls line) (sym parts));
}

pub back_is : (front into : List Line) (first : ℕ) → length front ≡ first → drop first (front ++ into) ≡ into
back_is front into first at = ap (λ (n : ℕ). drop n (front ++ into)) (sym at) ∙ drop-append_seam front into

-- the object's lines are written once more, and represent the same
pub written_again : {head : Header} {before old new : List Line} (front back into : List Line) {state : State} {asks : List Ask} {seats rows : List Seat} (first : ℕ) → HasServed head before state asks old new seats rows → first ≡ 1 + slot_count head → new ≡ front ++ back → length front ≡ first → length into ≡ length back → LinesRepresent into (state_from state asks) → HasServed head before state asks old (front ++ into) seats rows
written_again {head} {before} {old} {new} front back into {state} {asks} first served is parts at long stands = record {
  between = served.between;
  puts = served.puts;
  keeps = record { long = again.long ∙ served.keeps.long; same = λ line below. again.same line below ∙ served.keeps.same line below };
  object = subst (λ (ls : List Line). LinesRepresent ls (state_from state asks)) (sym (back_is front into (1 + slot_count head) (at ∙ is))) stands;
  rows_are = served.rows_are;
}
  where
    again : KeepsBefore (1 + slot_count head) new (front ++ into)
    again = front_stays new front back into (1 + slot_count head) parts (at ∙ is) long
