-- What is kept of a client after a history.
use Rattle.std.proofs.Common.{◌≡◌, ◌≢◌, ℕ, ◌<◌, List, [], ◌∷◌, length, take, ap, sym, ◌∙◌, inl, inr, arith}
use Rattle.std.specs.Prelude.{◌==◌, if◌then◌else◌}
use Rattle.std.proofs.lemmas.Bool.{cases_eq}
use Rattle.std.proofs.lemmas.Bool.Decides.{nat_tests}
use Rattle.std.proofs.lemmas.List.{length-set, get_or-set_same, get_or-set_other, take_all, take-take}
use Rattle.pb_object.specs.declared.request.Kept.{Kept}
use Rattle.pb_object.specs.declared.request.TheConstants.{KEPT_REQUESTS}
use Rattle.pb_object.specs.History.{Entry, History, kept_by, after_entry, after_entries, after_round, state_after}
use Rattle.pb_object.specs.Laws.{requests_in, requests_of, KeepsTheLastEight}
use Rattle.pb_object.specs.Standing.{Standing, keep, kept_list_of}

-- what is kept of a client is the first eight of these, where it has a place
record Keeps (s : Standing) (client : ℕ) (requests : List Kept) : Type 0 where
  there : client < length s.kept
  are : kept_list_of s client ≡ take KEPT_REQUESTS requests

-- one more request
here_is : (entry : Entry) (client : ℕ) (before : List Kept) → entry.client ≡ client → (if entry.client == client then kept_by entry ∷ before else before) ≡ kept_by entry ∷ before
here_is entry client before e = grind (arith, nat_tests)

other_is : (entry : Entry) (client : ℕ) (before : List Kept) → entry.client ≢ client → (if entry.client == client then kept_by entry ∷ before else before) ≡ before
other_is entry client before e = grind (arith, nat_tests)

keeps_entry : (s : Standing) (entry : Entry) (client : ℕ) (requests : List Kept) → Keeps s client requests → Keeps (after_entry s entry) client (if entry.client == client then kept_by entry ∷ requests else requests)
keeps_entry s entry client requests keeps = record {
  there = omega (arith, keeps.there, length-set s.kept entry.client (keep (kept_by entry) (kept_list_of s entry.client)));
  are = elim (cases_eq entry.client client) [
    | inl e ↦
        ap (λ (c : ℕ). kept_list_of (after_entry s entry) c) (sym e)
        ∙ (get_or-set_same s.kept entry.client (keep (kept_by entry) (kept_list_of s entry.client)) [] (omega (arith, keeps.there, e))
        ∙ (ap (λ (c : ℕ). keep (kept_by entry) (kept_list_of s c)) e
        ∙ (ap (keep (kept_by entry)) keeps.are
        ∙ (ap (λ (list : List Kept). kept_by entry ∷ list) (take-take 7 KEPT_REQUESTS requests (omega arith))
        ∙ ap (take KEPT_REQUESTS) (sym (here_is entry client requests e))))))
    | inr other ↦
        get_or-set_other s.kept entry.client client (keep (kept_by entry) (kept_list_of s entry.client)) [] (λ e. other (sym e))
        ∙ (keeps.are ∙ ap (take KEPT_REQUESTS) (sym (other_is entry client requests other)))
  ];
}

keeps_entries : (s : Standing) (entries : List Entry) (client : ℕ) (requests : List Kept) → Keeps s client requests → Keeps (after_entries s entries) client (requests_in client entries requests)
keeps_entries s [] client requests keeps = keeps
keeps_entries s (entry ∷ entries) client requests keeps =
    keeps_entries (after_entry s entry) entries client (if entry.client == client then kept_by entry ∷ requests else requests) (keeps_entry s entry client requests keeps)

keeps_history : (s : Standing) (history : History) (client : ℕ) (requests : List Kept) → Keeps s client requests → Keeps (state_after s history) client (requests_of client history requests)
keeps_history s [] client requests keeps = keeps
keeps_history s (round ∷ history) client requests keeps =
    let entries = keeps_entries s round.entries client requests keeps in
    keeps_history (after_round s round) history client (requests_in client round.entries requests) (record { there = entries.there; are = entries.are })

pub keeps_the_last_eight : (s : Standing) (history : History) → KeepsTheLastEight s history
keeps_the_last_eight s history client there few =
    (keeps_history s history client (kept_list_of s client) (record { there = there; are = sym (take_all KEPT_REQUESTS (kept_list_of s client) few) })).are
