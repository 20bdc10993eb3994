-- Asking, storing the words of a request, and announcing it.
use Rattle.std.proofs.Common.{◌≡◌, ◌≢◌, ℕ, suc, ◌+◌, ◌<◌, ◌≤◌, false, List, [], ◌∷◌, Option, ap, subst, sym, refl, ◌∙◌, inl, inr, arith}
use Rattle.std.proofs.lemmas.Bool.{false≢true, true≢false}
use Rattle.pb_object.specs.declared.kind.Kind.{Kind}
use Rattle.pb_object.specs.declared.request.Ask.{Ask}
use Rattle.pb_object.specs.declared.request.Kept.{Kept}
use Rattle.pb_object.specs.History.{History, Round}
use Rattle.pb_object.specs.Standing.{Standing, kept_list_of, newest, newest_of}
use Rattle.pb_events.specs.declared.event.Stepped.{Stepped}
use Rattle.pb_core.specs.Client.{Stage, Storing, Looking, is_idle, is_announced, is_holding, stored_words, Client, ask_word}
use Rattle.pb_core.specs.Memory.{Owner, Free, Held, Closed, Part, AtNumber, AtCode, AtFirst, AtSecond, AtThird, Work, NoWork, Settling, Scanning, Calling, Filling, Noting, GivingUp, Memory, with_at, with_client, shown}
use Rattle.pb_core.specs.MemoryParts.{IsClient, IsClear, HasEntries, IsSeen, AreSeen, HasPart, HasScan, HasScanOf, IsMemory}
use Rattle.pb_core.specs.WordMoves.{IsNotReopening, go_to, Asks, StoresWord, Announces}
use Rattle.pb_core.proofs.Basics.{with_at-same, with_at-other, at_each}
use Rattle.pb_core.proofs.Movers.{ClientOf, OwnClient, move_client}

-- A client that hasn't announced its request

-- nothing of it is ahead, and none of its requests waits for an answer
pub quiet_clear : {kind : Kind} {list : List Kept} {published : History} {ahead : Option Round} {owner : Owner} {words : ℕ → ℕ} {c : ℕ} {b : Client} → IsClient kind list published ahead owner words c b → is_announced b.stage ≡ false → IsClear c published ahead list b
quiet_clear {kind} {list} {published} {ahead} {owner} {words} {c} {b} is quiet = go is.entries
  where
    go : HasEntries c published ahead list b → IsClear c published ahead list b
    go (inl clear) = clear
    go (inr (inl coming)) = absurd (false≢true (sym quiet ∙ coming.announced))
    go (inr (inr served)) = absurd (false≢true (sym quiet ∙ served.announced))

-- its number word is no due one
pub quiet_low : {kind : Kind} {list : List Kept} {published : History} {ahead : Option Round} {owner : Owner} {words : ℕ → ℕ} {c : ℕ} {b : Client} → IsClient kind list published ahead owner words c b → is_announced b.stage ≡ false → words 0 ≤ (newest list).number
quiet_low {list = list} {words = words} {b = b} is quiet =
    let low : words 0 ≤ (newest b.kept).number = is.has_words.quiet quiet in
    let same : (newest list).number ≡ (newest b.kept).number = ap (λ (l : List Kept). (newest l).number) (quiet_clear is quiet).kept in
    omega (arith, low, same)

clear_same : {c : ℕ} {published : History} {ahead : Option Round} {list : List Kept} {b : Client} (stage : Stage) (ask : Ask) (after : ℕ) → IsClear c published ahead list b → HasEntries c published ahead list (record b { stage = stage; ask = ask; after = after })
clear_same stage ask after clear =
    inl (record { told = clear.told; none = clear.none; kept = clear.kept })

-- Asking

-- while the region isn't being opened again
pub runs_not_closed : (owner : Owner) → IsNotReopening owner → ¬ (owner ≡ Closed)
runs_not_closed Free running e = cc
runs_not_closed (Held c side) running e = cc
runs_not_closed Closed running e = running

pub keeps-asking : {old new : Memory} {ask : Ask} → IsMemory old → Asks old ask new → IsMemory new
keeps-asking {old} {new} {ask} is move = subst IsMemory (sym move.is) (move_client ask.client b is client)
  where
    before : Client
    before = old.book ask.client

    b : Client
    b = record before { stage = Storing 0; ask = ask; after = before.front }

    own : OwnClient old ask.client
    own = is.clients ask.client move.there

    quiet : is_announced before.stage ≡ false
    quiet = ap is_announced move.at

    client : ClientOf old ask.client b
    client = record {
      holding = λ e. absurd (false≢true e);
      holder = λ side e. absurd (false≢true (sym (ap is_holding move.at) ∙ own.holder side e));
      rests = λ e. absurd (runs_not_closed old.owner move.running e);
      asking = λ _. record { client = refl; number = move.number; few = move.few; operation = move.operation; after = omega arith };
      has_words = record {
        stored = λ place some few. absurd (omega arith);
        announced = λ e. absurd (false≢true e);
        quiet = λ _. own.has_words.quiet quiet;
      };
      front = own.front;
      read = omega arith;
      entries = clear_same (Storing 0) ask before.front (quiet_clear own quiet);
      dates = own.dates;
    }

-- A word of a request that isn't announced

-- what is scanned is of other clients
seen_other : (s : Standing) (side : ℕ) (requests : ℕ → ℕ → ℕ) (c : ℕ) (words : ℕ → ℕ) (ask : Ask) → requests c 0 ≤ (newest_of s c).number → IsSeen s side requests ask → IsSeen s side (with_at c words requests) ask
seen_other s side requests c words ask low seen = record {
  words = subst (λ (w : ℕ → ℕ). (place : ℕ) → place < 5 → w place ≡ ask_word ask place) (sym (with_at-other c words requests ask.client apart)) seen.words;
  due = seen.due;
  side_is = seen.side_is;
}
  where
    apart : ask.client ≢ c
    apart same =
        let here : requests ask.client 0 ≡ ask.number = seen.words 0 (omega arith) in
        let due : ask.number ≡ (newest_of s ask.client).number + 1 = seen.due in
        let low_at : requests ask.client 0 ≤ (newest_of s ask.client).number = subst (λ (d : ℕ). requests d 0 ≤ (newest_of s d).number) (sym same) low in
        omega (arith, here, due, low_at)

seen_others : (s : Standing) (side : ℕ) (requests : ℕ → ℕ → ℕ) (c : ℕ) (words : ℕ → ℕ) (from to : ℕ) (asks : List Ask) → requests c 0 ≤ (newest_of s c).number → AreSeen s side requests from to asks → AreSeen s side (with_at c words requests) from to asks
seen_others s side requests c words from to [] low seen = tt
seen_others s side requests c words from to (ask ∷ asks) low seen =
    (seen.0, seen.1, seen_other s side requests c words ask low seen.2, seen_others s side requests c words (suc ask.client) to asks low seen.3)

part_other : (s : Standing) (clients : ℕ) (requests : ℕ → ℕ → ℕ) (c : ℕ) (words : ℕ → ℕ) (d : ℕ) (part : Part) → requests c 0 ≤ (newest_of s c).number → HasPart s clients (requests d) d part → HasPart s clients (with_at c words requests d) d part
part_other s clients requests c words d part low has = go part has
  where
    apart : (number : ℕ) → requests d 0 ≡ number → number ≡ (newest_of s d).number + 1 → with_at c words requests d ≡ requests d
    apart number here due =
        with_at-other c words requests d (λ same.
        let low_at : requests d 0 ≤ (newest_of s d).number = subst (λ (e : ℕ). requests e 0 ≤ (newest_of s e).number) (sym same) low in
        omega (arith, here, due, low_at))

    go : (part : Part) → HasPart s clients (requests d) d part → HasPart s clients (with_at c words requests d) d part
    go AtNumber has = tt
    go (AtCode number) has =
        subst (λ (w : ℕ → ℕ). HasPart s clients w d (AtCode number)) (sym (apart number has.1 has.2)) has
    go (AtFirst number code) has =
        subst (λ (w : ℕ → ℕ). HasPart s clients w d (AtFirst number code)) (sym (apart number has.1 has.2)) has
    go (AtSecond number code a) has =
        subst (λ (w : ℕ → ℕ). HasPart s clients w d (AtSecond number code a)) (sym (apart number has.1 has.2)) has
    go (AtThird number code a b) has =
        subst (λ (w : ℕ → ℕ). HasPart s clients w d (AtThird number code a b)) (sym (apart number has.1 has.2)) has

scan_other : (owner : Owner) (work : Work) (s : Standing) (clients : ℕ) (requests : ℕ → ℕ → ℕ) (c : ℕ) (words : ℕ → ℕ) → requests c 0 ≤ (newest_of s c).number → HasScan owner work s clients requests → HasScan owner work s clients (with_at c words requests)
scan_other Free work s clients requests c words low scan = tt
scan_other Closed work s clients requests c words low scan = tt
scan_other (Held h side) work s clients requests c words low scan = go work scan
  where
    go : (work : Work) → HasScanOf work s h side clients requests → HasScanOf work s h side clients (with_at c words requests)
    go NoWork scan = tt
    go Settling scan = tt
    go (Scanning d part seen) scan = record {
      within = scan.within;
      part_is = part_other s clients requests c words d part low scan.part_is;
      seen_are = seen_others s side requests c words 0 d seen low scan.seen_are;
      own = scan.own;
    }
    go Calling scan = tt
    go (Filling count) scan = tt
    go (Noting from to) scan = tt
    go (GivingUp from to) scan = tt

-- its words change, and it moves
move_request : {m : Memory} (c : ℕ) (words : ℕ → ℕ) (b : Client) → IsMemory m → c < m.start.clients → is_announced (m.book c).stage ≡ false → IsClient m.start.kind (kept_list_of (shown m) c) m.published m.ahead m.owner words c b → IsMemory (record (with_client c b m) { requests = with_at c words m.requests })
move_request {m} c words b is there quiet client = record {
  history = is.history;
  turn = is.turn;
  suits = is.suits;
  low = is.low;
  cause = is.cause;
  clients = λ d inside. at_each Holds c b m.book (λ _. here) others d inside;
  rows = is.rows;
  filled = is.filled;
  scan = scan_other m.owner m.work (shown m) m.start.clients m.requests c words (quiet_low (is.clients c there) quiet) is.scan;
  answers_are = is.answers_are;
}
  where
    Of : ℕ → (ℕ → ℕ) → Client → Type 0
    Of d w x = IsClient m.start.kind (kept_list_of (shown m) d) m.published m.ahead m.owner w d x

    Holds : ℕ → Client → Type 0
    Holds d x = d < m.start.clients → IsClient m.start.kind (kept_list_of (shown m) d) m.published m.ahead m.owner (with_at c words m.requests d) d x

    here : IsClient m.start.kind (kept_list_of (shown m) c) m.published m.ahead m.owner (with_at c words m.requests c) c b
    here = subst (λ (w : ℕ → ℕ). IsClient m.start.kind (kept_list_of (shown m) c) m.published m.ahead m.owner w c b) (sym (with_at-same c words m.requests)) client

    others : (d : ℕ) → d ≢ c → d < m.start.clients → IsClient m.start.kind (kept_list_of (shown m) d) m.published m.ahead m.owner (with_at c words m.requests d) d (m.book d)
    others d apart inside =
        subst (λ (w : ℕ → ℕ). IsClient m.start.kind (kept_list_of (shown m) d) m.published m.ahead m.owner w d (m.book d)) (sym (with_at-other c words m.requests d apart)) (is.clients d inside)

pub keeps-storing : {old new : Memory} {c : ℕ} {answer : Stepped} → IsMemory old → c < old.start.clients → StoresWord old c new answer → IsMemory new
keeps-storing {old} {new} {c} is there move =
    subst IsMemory (sym move.is) (move_request c words (go_to (Storing (suc move.place)) b) is there quiet client)
  where
    b : Client
    b = old.book c

    own : OwnClient old c
    own = is.clients c there

    quiet : is_announced b.stage ≡ false
    quiet = ap is_announced move.at

    words : ℕ → ℕ
    words = with_at (suc move.place) (ask_word b.ask (suc move.place)) (old.requests c)

    before : stored_words b.stage ≡ move.place
    before = ap stored_words move.at

    stored : (place : ℕ) → 1 ≤ place → place ≤ suc move.place → words place ≡ ask_word b.ask place
    stored place some few =
        at_each (λ (p : ℕ) (w : ℕ). 1 ≤ p → p ≤ suc move.place → w ≡ ask_word b.ask p) (suc move.place) (ask_word b.ask (suc move.place)) (old.requests c) (λ _ _. refl) (λ other apart some_at few_at. own.has_words.stored other some_at (omega (arith, apart, few_at, before))) place some few

    client : IsClient old.start.kind (kept_list_of (shown old) c) old.published old.ahead old.owner words c (go_to (Storing (suc move.place)) b)
    client = record {
      holding = λ e. absurd (false≢true e);
      holder = λ side e. absurd (false≢true (sym (ap is_holding move.at) ∙ own.holder side e));
      rests = λ e. absurd (false≢true (sym (ap is_idle move.at) ∙ own.rests e));
      asking = λ _.
          let asking = own.asking (ap is_idle move.at) in
          record { client = asking.client; number = asking.number; few = asking.few; operation = asking.operation; after = asking.after };
      has_words = record {
        stored = stored;
        announced = λ e. absurd (false≢true e);
        quiet = λ _.
            let low : old.requests c 0 ≤ (newest b.kept).number = own.has_words.quiet quiet in
            let same : words 0 ≡ old.requests c 0 = with_at-other (suc move.place) (ask_word b.ask (suc move.place)) (old.requests c) 0 (λ e. omega (arith, e)) in
            omega (arith, low, same);
      };
      front = own.front;
      read = omega (arith, move.few);
      entries = clear_same (Storing (suc move.place)) b.ask b.after (quiet_clear own quiet);
      dates = own.dates;
    }

pub keeps-announcing : {old new : Memory} {c : ℕ} {answer : Stepped} → IsMemory old → c < old.start.clients → Announces old c new answer → IsMemory new
keeps-announcing {old} {new} {c} is there move =
    subst IsMemory (sym move.is) (move_request c words (go_to Looking b) is there quiet client)
  where
    b : Client
    b = old.book c

    own : OwnClient old c
    own = is.clients c there

    quiet : is_announced b.stage ≡ false
    quiet = ap is_announced move.at

    words : ℕ → ℕ
    words = with_at 0 b.ask.number (old.requests c)

    before : stored_words b.stage ≡ 4
    before = ap stored_words move.at

    client : IsClient old.start.kind (kept_list_of (shown old) c) old.published old.ahead old.owner words c (go_to Looking b)
    client = record {
      holding = λ e. absurd (false≢true e);
      holder = λ side e. absurd (false≢true (sym (ap is_holding move.at) ∙ own.holder side e));
      rests = λ e. absurd (false≢true (sym (ap is_idle move.at) ∙ own.rests e));
      asking = λ _.
          let asking = own.asking (ap is_idle move.at) in
          record { client = asking.client; number = asking.number; few = asking.few; operation = asking.operation; after = asking.after };
      has_words = record {
        stored = λ place some few. with_at-other 0 b.ask.number (old.requests c) place (λ e. omega (arith, e, some)) ∙ own.has_words.stored place some (omega (arith, few, before));
        announced = λ _. with_at-same 0 b.ask.number (old.requests c);
        quiet = λ e. absurd (true≢false e);
      };
      front = own.front;
      read = tt;
      entries = clear_same Looking b.ask b.after (quiet_clear own quiet);
      dates = own.dates;
    }
