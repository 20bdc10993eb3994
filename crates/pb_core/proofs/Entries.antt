-- Where entries stand in a history that grows.
use Rattle.std.proofs.Common.{◌≡◌, ℕ, zero, suc, ◌+◌, ◌≤◌, Bool, true, false, List, [], ◌∷◌, ◌++◌, Some, length, slice_get, cond, eqb, ap, subst, sym, refl, ◌∙◌, inl, inr, arith}
use Rattle.std.proofs.lemmas.List.{append-nil, append_assoc, length-append}
use Rattle.pb_object.specs.History.{Entry, Round, History}
use Rattle.pb_core.specs.Client.{Dated}
use Rattle.pb_core.specs.MemoryParts.{IsOneOf, StandsBetween, StandsIn, entries_with, entries_in, AreAnswered, AreDated}

slice_get-front : {X : Type 0} (a b : List X) (k : ℕ) (x : X) → slice_get a k ≡ Some x → slice_get (a ++ b) k ≡ Some x
slice_get-front [] b k x e = cc
slice_get-front (y ∷ a) b zero x e = e
slice_get-front (y ∷ a) b (suc k) x e = slice_get-front a b k x e

slice_get-back : {X : Type 0} (a b : List X) (k : ℕ) (x : X) → slice_get b k ≡ Some x → slice_get (a ++ b) (length a + k) ≡ Some x
slice_get-back [] b k x e =
    let same : k ≡ 0 + k = omega arith in
    subst (λ (n : ℕ). slice_get b n ≡ Some x) same e
slice_get-back (y ∷ a) b k x e =
    let same : suc (length a + k) ≡ suc (length a) + k = omega arith in
    subst (λ (n : ℕ). slice_get (y ∷ (a ++ b)) n ≡ Some x) same (slice_get-back a b k x e)

-- more rounds, after or before
pub stands-more : {history : History} {after by : ℕ} {entry : Entry} (more : History) → StandsBetween history after by entry → StandsBetween (history ++ more) after by entry
stands-more {history} more stands = record {
  place = stands.place;
  round = stands.round;
  late = stands.late;
  early = stands.early;
  there = slice_get-front history more stands.place stands.round stands.there;
  one = stands.one;
}

pub stands-before : {history : History} {after by : ℕ} {entry : Entry} (past : History) → StandsBetween history after by entry → StandsBetween (past ++ history) (length past + after) (length past + by) entry
stands-before {history} past stands = record {
  place = length past + stands.place;
  round = stands.round;
  late = omega (arith, stands.late);
  early = omega (arith, stands.early);
  there = slice_get-back past history stands.place stands.round stands.there;
  one = stands.one;
}

pub stands-wider : {history : History} {after by : ℕ} {entry : Entry} (first last : ℕ) → first ≤ after → by ≤ last → StandsBetween history after by entry → StandsBetween history first last entry
stands-wider first last low high stands = record {
  place = stands.place;
  round = stands.round;
  late = omega (arith, stands.late);
  early = omega (arith, stands.early);
  there = stands.there;
  one = stands.one;
}

-- it stands in a history, then in one with more rounds
pub stands_in-more : {history : History} {entry : Entry} (more : History) → StandsIn history entry → StandsIn (history ++ more) entry
stands_in-more {history} more stands =
    stands-wider 0 (length (history ++ more)) (omega arith) (omega (arith, length-append history more)) (stands-more more stands)

pub stands_in-before : {history : History} {after by : ℕ} {entry : Entry} (past : History) → by ≤ length history → StandsBetween history after by entry → StandsIn (past ++ history) entry
stands_in-before {history} {after} {by} past within stands =
    stands-wider 0 (length (past ++ history)) (omega arith) (omega (arith, length-append past history)) (stands-before past stands)

pub answered-more : (history more : History) (answers : List Entry) → AreAnswered history answers → AreAnswered (history ++ more) answers
answered-more history more [] are = tt
answered-more history more (entry ∷ answers) are =
    (stands_in-more more are.0, answered-more history more answers are.1)

pub answered-push : (history : History) (answers : List Entry) (entry : Entry) → AreAnswered history answers → StandsIn history entry → AreAnswered history (answers ++ entry ∷ [])
answered-push history [] entry are stands = (stands, tt)
answered-push history (first ∷ answers) entry are stands =
    (are.0, answered-push history answers entry are.1 stands)

pub dated-more : (history more : History) (mine : List Dated) → AreDated history mine → AreDated (history ++ more) mine
dated-more history more [] are = tt
dated-more history more (dated ∷ mine) are = (stands-more more are.0, dated-more history more mine are.1)

pub dated-push : (history : History) (mine : List Dated) (dated : Dated) → AreDated history mine → StandsBetween history dated.after dated.by dated.entry → AreDated history (mine ++ dated ∷ [])
dated-push history [] dated are stands = (stands, tt)
dated-push history (first ∷ mine) dated are stands = (are.0, dated-push history mine dated are.1 stands)

-- a client's entries

pub entries_in-append : (c : ℕ) (a b : History) → entries_in c (a ++ b) ≡ entries_in c a ++ entries_in c b
entries_in-append c [] b = refl
entries_in-append c (round ∷ a) b =
    ap (λ (l : List Entry). entries_with c round.entries ++ l) (entries_in-append c a b) ∙ sym (append_assoc (entries_with c round.entries) (entries_in c a) (entries_in c b))

pub entries_in-push : (c : ℕ) (history : History) (round : Round) → entries_in c (history ++ round ∷ []) ≡ entries_in c history ++ entries_with c round.entries
entries_in-push c history round =
    entries_in-append c history (round ∷ []) ∙ ap (λ (l : List Entry). entries_in c history ++ l) (append-nil (entries_with c round.entries))

-- a client's entry is one of all
pub one_with : (c : ℕ) (entries : List Entry) (entry : Entry) → IsOneOf entry (entries_with c entries) → IsOneOf entry entries
one_with c [] entry one = one
one_with c (first ∷ entries) entry one = go (eqb first.client c) (one_with c entries entry) one
  where
    go : (b : Bool) → (IsOneOf entry (entries_with c entries) → IsOneOf entry entries) → IsOneOf entry (cond b (first ∷ entries_with c entries) (entries_with c entries)) → IsOneOf entry (first ∷ entries)
    go true rest (inl same) = inl same
    go true rest (inr more) = inr (rest more)
    go false rest more = inr (rest more)

-- the last round of a history has its entries
pub stands-push : (history : History) (round : Round) (after : ℕ) (entry : Entry) → after ≤ length history → IsOneOf entry round.entries → StandsBetween (history ++ round ∷ []) after (length (history ++ round ∷ [])) entry
stands-push history round after entry low one = record {
  place = length history + 0;
  round = round;
  late = omega (arith, low);
  early = omega (arith, length-append history (round ∷ []));
  there = slice_get-back history (round ∷ []) 0 round refl;
  one = one;
}
