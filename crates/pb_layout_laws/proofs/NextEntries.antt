-- The entries in which a round's record differs from the one before are the round's.
use Rattle.std.proofs.Common.{◌≡◌, ◌≢◌, ℕ, zero, suc, ◌+◌, ◌%◌, ◌<◌, ◌≤◌, ◌==◌, List, [], ◌∷◌, ◌++◌, if◌then◌else◌, refl, sym, ap, ◌∙◌, subst, inl, inr, arith}
use Rattle.std.proofs.lemmas.Bool.{cases_eq}
use Rattle.std.proofs.lemmas.Bool.Decides.{nat_tests}
use Rattle.std.proofs.lemmas.List.{append_assoc, append-nil}
use Rattle.std.specs.List.{All}
use Rattle.std.proofs.lemmas.List.Elements.{All-nil, All-head, All-tail, All-cons}
use Rattle.pb_pmem.specs.declared.line.Line.{Line}
use Rattle.pb_pmem.specs.Lines.{line_at}
use Rattle.pb_object.specs.declared.request.Kept.{Kept}
use Rattle.pb_object.specs.History.{Entry, Round, kept_by, after_entry, AreLegal}
use Rattle.pb_object.specs.Standing.{Standing, rounds_of, kept_list_of, newest, newest_of}
use Rattle.pb_layout.specs.ClientLine.{kept_in}
use Rattle.pb_layout.specs.Damage.{header_in}
use Rattle.pb_layout.specs.Header.{header_line_of}
use Rattle.pb_layout.specs.LogHistory.{number_in, entry_in, entries_between, round_at}
use Rattle.pb_layout.specs.Record.{client_line_at}
use Rattle.pb_layout.specs.Represents.{header_for, record_at, record_in_use, record_of_side, RegionParts}
use Rattle.pb_layout.specs.declared.header.Header.{Header}
use Rattle.pb_layout.proofs.OneRecovery.{region_records}
use Rattle.pb_layout.proofs.Readers.{named_by_line}
use Rattle.pb_layout.specs.NextRecord.{HasEntryInFront, IsOfOther, IsNextRecord}
use Rattle.pb_layout_laws.proofs.NextRecord.{number_kept}
use Rattle.pb_layout_laws.proofs.Rounds.{RiseFrom, rise_from_zero, rise-others, after_entry-other, next_side}

-- the entry of one client, where its numbers differ
abbrev pub entry_between : List Line → List Line → ℕ → List Entry
entry_between before after client = if number_in before client == number_in after client then [] else entry_in after client ∷ []

-- no clients have no entries
pub entries_between-none : (before after : List Line) → entries_between before after 0 ≡ []
unfolding entries_between
entries_between-none before after = refl

-- one more client may have one more entry
pub entries_between-more : (before after : List Line) (client : ℕ) → entries_between before after (suc client) ≡ entries_between before after client ++ entry_between before after client
unfolding entries_between
entries_between-more before after client = refl

entry_same : (before after : List Line) (client : ℕ) → number_in before client ≡ number_in after client → entry_between before after client ≡ []
entry_same before after client e = grind (arith, nat_tests)

entry_differs : (before after : List Line) (client : ℕ) → number_in before client ≢ number_in after client → entry_between before after client ≡ entry_in after client ∷ []
entry_differs before after client e = grind (arith, nat_tests)

-- the entries of so many clients from one on, the first first
entries_from : List Line → List Line → ℕ → ℕ → List Entry
entries_from before after first zero = []
entries_from before after first (suc count) = entry_between before after first ++ entries_from before after (suc first) count

entries_from-more : (before after : List Line) (first count : ℕ) → entries_from before after first (suc count) ≡ entries_from before after first count ++ entry_between before after (first + count)
unfolding entries_from
entries_from-more before after first zero = append-nil (entry_between before after first) ∙ ap (entry_between before after) (plus_none first)
  where
    plus_none : (n : ℕ) → n ≡ n + 0
    plus_none n = omega arith
entries_from-more before after first (suc count) =
    ap (λ (entries : List Entry). entry_between before after first ++ entries) (entries_from-more before after (suc first) count ∙ ap (λ (n : ℕ). entries_from before after (suc first) count ++ entry_between before after n) (shift first count))
    ∙ sym (append_assoc (entry_between before after first) (entries_from before after (suc first) count) (entry_between before after (first + suc count)))
  where
    shift : (n k : ℕ) → suc n + k ≡ n + suc k
    shift n k = omega arith

none_plus : (n : ℕ) → n ≡ 0 + n
none_plus n = omega arith

entries_between-from : (before after : List Line) (count : ℕ) → entries_between before after count ≡ entries_from before after 0 count
unfolding entries_from
entries_between-from before after zero = entries_between-none before after
entries_between-from before after (suc count) =
    entries_between-more before after count ∙ (ap (λ (entries : List Entry). entries ++ entry_between before after count) (entries_between-from before after count) ∙ (ap (λ (n : ℕ). entries_from before after 0 count ++ entry_between before after n) (none_plus count) ∙ sym (entries_from-more before after 0 count)))

-- the second record tells this entry of a client below the count, and the first has another number
pub record IsEntryBetween (before after : List Line) (count : ℕ) (entry : Entry) : Type 0 where
  pub within : entry.client < count
  pub differs : number_in before entry.client ≢ number_in after entry.client
  pub told : entry_in after entry.client ≡ entry

entries_are : (before after : List Line) (first count : ℕ) (entries : List Entry) → RiseFrom first entries → All (IsEntryBetween before after (first + count)) entries
    → ((client : ℕ) → first ≤ client → client < first + count → All (IsOfOther client) entries → number_in before client ≡ number_in after client)
    → entries_from before after first count ≡ entries
unfolding entries_from
entries_are before after first zero [] rise are others = refl
entries_are before after first zero (entry ∷ entries) rise are others = absurd (omega (arith, rise.0, (All-head (IsEntryBetween before after (first + 0)) entry entries are).within))
entries_are before after first (suc count) [] rise are others =
    ap (λ (prefix : List Entry). prefix ++ entries_from before after (suc first) count) (entry_same before after first (others first (omega arith) (omega arith) (All-nil (IsOfOther first))))
    ∙ entries_are before after (suc first) count [] tt (All-nil (IsEntryBetween before after (suc first + count))) (λ client above below none. others client (omega arith) (omega arith) none)
entries_are before after first (suc count) (entry ∷ entries) rise are others =
    elim (cases_eq entry.client first) [
      | inl e ↦
          let own = All-head (IsEntryBetween before after (first + suc count)) entry entries are in
          let one : entry_between before after first ≡ entry ∷ [] = sym (ap (entry_between before after) e) ∙ (entry_differs before after entry.client own.differs ∙ ap (λ (x : Entry). x ∷ []) own.told) in
          ap (λ (prefix : List Entry). prefix ++ entries_from before after (suc first) count) one
          ∙ ap (λ (rest : List Entry). entry ∷ rest) (entries_are before after (suc first) count entries (subst (λ (n : ℕ). RiseFrom (suc n) entries) e rise.1) (subst (λ (n : ℕ). All (IsEntryBetween before after n) entries) (shift first count) (All-tail (IsEntryBetween before after (first + suc count)) entry entries are)) (λ client above below none. others client (omega arith) (omega arith) (All-cons (IsOfOther client) entry entries (λ same. absurd (omega (arith, e, same))) none)))
      | inr apart ↦
          ap (λ (prefix : List Entry). prefix ++ entries_from before after (suc first) count) (entry_same before after first (others first (omega arith) (omega arith) (All-cons (IsOfOther first) entry entries apart (rise-others first (suc entry.client) entries (omega (arith, rise.0)) rise.1))))
          ∙ entries_are before after (suc first) count (entry ∷ entries) (omega (arith, rise.0, apart), rise.1) (subst (λ (n : ℕ). All (IsEntryBetween before after n) (entry ∷ entries)) (shift first count) are) (λ client above below none. others client (omega arith) (omega arith) none)
    ]
  where
    shift : (n k : ℕ) → n + suc k ≡ suc n + k
    shift n k = omega arith

-- the entries between two records are these, where the second has them, and no other client's number differs
pub entries_between-are : (before after : List Line) (count : ℕ) (entries : List Entry) → RiseFrom 0 entries → All (IsEntryBetween before after count) entries
    → ((client : ℕ) → client < count → All (IsOfOther client) entries → number_in before client ≡ number_in after client)
    → entries_between before after count ≡ entries
entries_between-are before after count entries rise are others =
    entries_between-from before after count ∙ entries_are before after 0 count entries rise (subst (λ (n : ℕ). All (IsEntryBetween before after n) entries) (none_plus count) are) (λ client above below none. others client (omega arith) none)

-- legal entries are between a record whose numbers are at most the last, and one that has the entries' lines
pub legal_between : (before after : List Line) (s t : Standing) (side floor : ℕ) (entries : List Entry) → t.clients ≡ s.clients → ((client : ℕ) → floor ≤ client → kept_list_of t client ≡ kept_list_of s client) → ((client : ℕ) → client < s.clients → number_in before client ≤ (newest_of s client).number)
    → AreLegal t side entries → RiseFrom floor entries → All (HasEntryInFront before after) entries → All (IsEntryBetween before after s.clients) entries
legal_between before after s t side floor [] clients kept most legal rise lines = All-nil (IsEntryBetween before after s.clients)
legal_between before after s t side floor (entry ∷ entries) clients kept most legal rise lines =
    let same : kept_in (client_line_at after entry.client) ≡ kept_by entry = ap kept_in (All-head (HasEntryInFront before after) entry entries lines).newest in
    let inside : entry.client < s.clients = omega (arith, legal.0.client, clients) in
    let own : IsEntryBetween before after s.clients entry = record {
      within = inside;
      differs = λ e. absurd (omega (arith, e, most entry.client inside, legal.0.number, ap (λ (list : List Kept). (newest list).number) (kept entry.client rise.0), ap (λ (k : Kept). k.number) same));
      told = λ i. record { client = entry.client; number = (same i).number; op = (same i).op; reply = (same i).reply };
    } in
    All-cons (IsEntryBetween before after s.clients) entry entries own
    (legal_between before after s (after_entry t entry) side (suc entry.client) entries clients (λ client above. after_entry-other t entry client (λ e. absurd (omega (arith, e, above))) ∙ kept client (omega (arith, above, rise.0))) most legal.1 rise.1 (All-tail (HasEntryInFront before after) entry entries lines))

-- the entries between a record in use and the one that a round makes of it are the round's
pub next_entries : (c : List Line) (s : Standing) (round : Round) (lines : List Line) → RegionParts c s → IsNextRecord c s round lines → entries_between (record_of_side c s round.side) lines s.clients ≡ round.entries
next_entries c s round lines stands next =
    let rise = rise_from_zero round.entries next.legal.rising in
    let here = next_side s round next.legal in
    entries_between-are (record_of_side c s round.side) lines s.clients round.entries rise
    (legal_between (record_of_side c s round.side) lines s s round.side 0 round.entries refl (λ client above. refl) (λ client inside. number_kept (record_of_side c s) s round.side client (region_records c s stands) here inside) next.legal.legal rise next.entries)
    (λ client inside none. ap (λ (line : Line). (kept_in line).number) (sym (next.others client 0 inside (omega arith) none)))

-- the round that a side's next index word puts into force, where the spare record is what the round makes of the one in use
pub next_round : (c b : List Line) (s : Standing) (round : Round) (lines : List Line) → RegionParts c s → IsNextRecord c s round lines → line_at b 0 ≡ header_line_of (header_for s) → record_in_use b (header_for s) round.side (rounds_of s round.side + 1) ≡ lines → record_of_side b s round.side ≡ record_of_side c s round.side
    → round_at b round.side (rounds_of s round.side + 1) ≡ round
next_round c b s round lines stands next header spare in_use =
    let head : header_in b ≡ header_for s = named_by_line (line_at b 0) (header_for s) header in
    let count = rounds_of s round.side in
    let other : record_in_use b (header_for s) round.side (count + 1 + 1) ≡ record_of_side c s round.side = ap (λ (n : ℕ). record_at b (header_for s) round.side n) (parity count) ∙ in_use in
    let entries : entries_between (record_in_use b (header_in b) round.side (count + 1 + 1)) (record_in_use b (header_in b) round.side (count + 1)) (header_in b).clients ≡ round.entries =
    ap (λ (h : Header). entries_between (record_in_use b h round.side (count + 1 + 1)) (record_in_use b h round.side (count + 1)) h.clients) head
    ∙ (ap (λ (before : List Line). entries_between before (record_in_use b (header_for s) round.side (count + 1)) s.clients) other
    ∙ (ap (λ (after : List Line). entries_between (record_of_side c s round.side) after s.clients) spare ∙ next_entries c s round lines stands next))
    in
    λ i. record { side = round.side; entries = entries i }
  where
    parity : (n : ℕ) → (n + 1 + 1) % 2 ≡ n % 2
    parity n = omega arith
