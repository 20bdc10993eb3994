-- What a queue's pair represents, and when its records in use say a standing.
use Rattle.std.proofs.Common.{◌≡◌, ℕ, zero, suc, ◌<◌, List, [], ◌∷◌, refl, sym, ap, subst, ◌∙◌, arith}
use Rattle.std.proofs.lemmas.List.{ext_get_or}
use Rattle.pb_pmem.specs.declared.line.Line.{Line}
use Rattle.pb_object.specs.declared.kind.Kind.{Kind}
use Rattle.pb_object.specs.declared.kind.Kind.TheVariants.{Queue}
use Rattle.pb_object.specs.declared.request.Kept.{Kept}
use Rattle.pb_object.specs.Object.{Waits}
use Rattle.pb_object.specs.ObjectLines.{LinesRepresent}
use Rattle.pb_object.specs.Queue.{Waiting}
use Rattle.pb_object.specs.Standing.{Standing, side_count, rounds_of}
use Rattle.pb_layout.specs.declared.header.Header.{Header}
use Rattle.pb_layout.specs.Record.{IsRecord}
use Rattle.pb_layout.specs.Recovered.{listed}
use Rattle.pb_layout.specs.Represents.{header_for, kept_list_by, AreRecords}
use Rattle.pb_layout.proofs.ChangedRegion.{object_parts-same, kept_list-same, apart-same}
use Rattle.pb_layout.proofs.OneRecovery.{length-listed, get_or-listed}
use Rattle.pb_pair.specs.Safe.{IsPairOf}
use Rattle.pb_pair.specs.View.{PairView, round_of_side, lines_of}
use Rattle.pb_queue.specs.Standing.{standing_of}

-- records that are the same on the sides that there are
pub records_along : (f g : ℕ → List Line) (s : Standing) → ((side : ℕ) → side < side_count s.kind → f side ≡ g side) → AreRecords f s → AreRecords g s
records_along f g s same are = record {
  valid = are.valid;
  sides = are.sides;
  own = λ side here. subst (IsRecord (header_for s) side (rounds_of s side)) (same side here) (are.own side here);
  kind = are.kind;
  size = are.size;
  state = subst (λ (ls : List Line). LinesRepresent ls s.state) (object_parts-same s.kind (header_for s) f g same) are.state;
  clients = are.clients;
  apart = apart-same (header_for s) f g same are.apart;
  kept = λ client inside. are.kept client inside ∙ kept_list-same s.kind f g client same;
}

-- a queue's pair is one of its standing
pub head_is : (pair : PairView) (queue : Waiting) → pair.head.kind ≡ Queue → pair.head ≡ header_for (standing_of pair queue)
head_is pair queue kind = λ i. record { kind = kind i; clients = pair.head.clients; size = pair.head.size }

pub pair_of : (pair : PairView) (queue : Waiting) → pair.head.kind ≡ Queue → IsPairOf pair (standing_of pair queue)
pair_of pair queue kind = record { head = head_is pair queue kind; rounds = rounds }
  where
    rounds : (side : ℕ) → side < 2 → round_of_side pair side ≡ rounds_of (standing_of pair queue) side
    rounds zero below = refl
    rounds (suc zero) below = refl
    rounds (suc (suc side)) below = absurd (omega arith)

-- a standing that the records in use say, with these rounds and items
pub record SaysStanding (pair : PairView) (queue : Waiting) (t : Standing) : Type 0 where
  pub kind : t.kind ≡ Queue
  pub head : pair.head ≡ header_for t
  pub rounds : round_of_side pair 0 ∷ round_of_side pair 1 ∷ [] ≡ t.rounds
  pub state : Waits pair.head.size queue ≡ t.state
  pub records : AreRecords (lines_of pair) t

pub standing_is : (pair : PairView) (queue : Waiting) (t : Standing) → SaysStanding pair queue t → standing_of pair queue ≡ t
standing_is pair queue t says =
    λ i. record { kind = sym says.kind i; clients = (says.head i).clients; size = (says.head i).size; rounds = says.rounds i; state = says.state i; kept = kept i }
  where
    lists : ℕ → List Kept
    lists = kept_list_by Queue (lines_of pair)

    kept : listed pair.head.clients lists ≡ t.kept
    kept =
        ext_get_or [] (listed pair.head.clients lists) t.kept (length-listed pair.head.clients lists ∙ (ap (λ (h : Header). h.clients) says.head ∙ sym says.records.clients))
        (λ client inside.
        let below : client < pair.head.clients = omega (arith, inside, length-listed pair.head.clients lists) in
        get_or-listed pair.head.clients lists client [] below
        ∙ (ap (λ (k : Kind). kept_list_by k (lines_of pair) client) (sym says.kind)
        ∙ sym (says.records.kept client (omega (arith, below, ap (λ (h : Header). h.clients) says.head)))))

pub records_are : (pair : PairView) (queue : Waiting) (t : Standing) → SaysStanding pair queue t → AreRecords (lines_of pair) (standing_of pair queue)
records_are pair queue t says = subst (AreRecords (lines_of pair)) (sym (standing_is pair queue t says)) says.records
