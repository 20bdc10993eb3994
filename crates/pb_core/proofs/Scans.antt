-- Scanning the clients' requests.
use Rattle.std.proofs.Common.{◌≡◌, ◌≢◌, ℕ, zero, suc, ◌+◌, ◌<◌, ◌≤◌, ◌⊎◌, List, [], ◌∷◌, ◌++◌, ap, subst, sym, refl, ◌∙◌, inl, inr, arith}
use Rattle.std.proofs.lemmas.Bool.{cases_lt, false≢true}
use Rattle.pb_object.specs.declared.request.Ask.{Ask}
use Rattle.pb_object.specs.declared.request.Kept.{Kept}
use Rattle.pb_object.specs.declared.request.Op.{Op}
use Rattle.pb_object.specs.Standing.{Standing, kept_list_of, newest, newest_of}
use Rattle.pb_events.specs.declared.event.Stepped.{Stepped}
use Rattle.pb_core.specs.Client.{Holding, is_idle, is_announced, is_holding, stored_words, ask_word}
use Rattle.pb_core.specs.Memory.{Owner, Held, Part, AtNumber, AtCode, AtFirst, AtSecond, AtThird, Work, Scanning, Engine, Memory, shown, known_standing, known_by, side_of_operation}
use Rattle.pb_core.specs.MemoryParts.{HasEntries, IsSeen, AreSeen, Meets, IsScan, HasScan, IsMemory}
use Rattle.pb_core.specs.WordMoves.{scanned, PassesOver, MeetsDue, ScansCode, ScansFirst, ScansSecond, ScansRequest, ScansOther}
use Rattle.pb_core.proofs.Movers.{OwnClient, move_work}
use Rattle.pb_core.proofs.Turns.{IsHolder, the_holder, work_suits, suits_work}

-- the scan, where what the holder is at is known_standing
pub the_scan : {m : Memory} {c side : ℕ} (d : ℕ) (part : Part) (seen : List Ask) → IsMemory m → m.owner ≡ Held c side → m.work ≡ Scanning d part seen → IsScan (shown m) c side m.start.clients m.requests d part seen
the_scan {m} {c} {side} d part seen is holds at =
    subst (λ (w : Work). HasScan (Held c side) w (shown m) m.start.clients m.requests) at (subst (λ (o : Owner). HasScan o m.work (shown m) m.start.clients m.requests) holds is.scan)

-- while scanning, what is published is what is known_standing
pub known_shown : {m : Memory} {c side : ℕ} (d : ℕ) (part : Part) (seen : List Ask) → IsMemory m → m.owner ≡ Held c side → m.work ≡ Scanning d part seen → known_standing m ≡ shown m
known_shown {m} d part seen is holds at =
    ap (λ (e : Engine). known_by e m.ahead (shown m)) (work_suits (Scanning d part seen) is holds at).0

-- it goes on
go_on : {m : Memory} {c side : ℕ} (d : ℕ) (part : Part) (seen : List Ask) (e : ℕ) (next : Part) (more : List Ask) → IsMemory m → m.owner ≡ Held c side → m.work ≡ Scanning d part seen → IsScan (shown m) c side m.start.clients m.requests e next more → IsMemory (record m { work = Scanning e next more })
go_on {m} {c} {side} d part seen e next more is holds at scan =
    move_work (Scanning e next more) is (suits_work m (Scanning e next more) holds (work_suits (Scanning d part seen) is holds at)) tt tt (subst (λ (o : Owner). HasScan o (Scanning e next more) (shown m) m.start.clients m.requests) (sym holds) scan)

-- Requests that were seen

-- of clients below more
pub seen-wider : (s : Standing) (side : ℕ) (requests : ℕ → ℕ → ℕ) (low high more : ℕ) (asks : List Ask) → high ≤ more → AreSeen s side requests low high asks → AreSeen s side requests low more asks
seen-wider s side requests low high more [] wide seen = tt
seen-wider s side requests low high more (ask ∷ asks) wide seen =
    (seen.0, omega (arith, seen.1, wide), seen.2, seen-wider s side requests (suc ask.client) high more asks wide seen.3)

-- with one more, of the next client
pub seen-push : (s : Standing) (side : ℕ) (requests : ℕ → ℕ → ℕ) (low high : ℕ) (asks : List Ask) (ask : Ask) → low ≤ high → ask.client ≡ high → IsSeen s side requests ask → AreSeen s side requests low high asks → AreSeen s side requests low (suc high) (asks ++ ask ∷ [])
seen-push s side requests low high [] ask order at is seen =
    (omega (arith, at, order), omega (arith, at), is, tt)
seen-push s side requests low high (first ∷ asks) ask order at is seen =
    (seen.0, omega (arith, seen.1), seen.2, seen-push s side requests (suc first.client) high asks ask (omega (arith, seen.1)) at is seen.3)

-- a client's request among them
meets-push : (c : ℕ) (asks : List Ask) (ask : Ask) → Meets c asks → Meets c (asks ++ ask ∷ [])
meets-push c [] ask met = absurd met
meets-push c (first ∷ asks) ask (inl here) = inl here
meets-push c (first ∷ asks) ask (inr later) = inr (meets-push c asks ask later)

meets-last : (c : ℕ) (asks : List Ask) (ask : Ask) → ask.client ≡ c → Meets c (asks ++ ask ∷ [])
meets-last c [] ask here = inl here
meets-last c (first ∷ asks) ask here = inr (meets-last c asks ask here)

pub meets_some : (c : ℕ) (asks : List Ask) → Meets c asks → asks ≢ []
meets_some c [] met e = met
meets_some c (ask ∷ asks) met e = cc

-- The holder's own request

-- it is due
own_due : {m : Memory} {c side : ℕ} → IsMemory m → c < m.start.clients → m.owner ≡ Held c side → m.requests c 0 ≡ (newest_of (shown m) c).number + 1
own_due {m} {c} {side} is there holds =
    own.has_words.announced (ap is_announced at) ∙ ((own.asking (ap is_idle at)).number ∙ ap (λ (l : List Kept). (newest l).number + 1) (sym (kept own.entries)))
  where
    own : OwnClient m c
    own = is.clients c there

    at : (m.book c).stage ≡ Holding
    at = (the_holder side own holds).stage

    kept : HasEntries c m.published m.ahead (kept_list_of (shown m) c) (m.book c) → kept_list_of (shown m) c ≡ (m.book c).kept
    kept (inl clear) = clear.kept
    kept (inr (inl coming)) = coming.kept
    kept (inr (inr served)) = absurd (false≢true (sym served.waiting ∙ ap is_holding at))

-- Moves

pub keeps-passing_over : {old new : Memory} {c : ℕ} {answer : Stepped} → IsMemory old → c < old.start.clients → PassesOver old c new answer → IsMemory new
keeps-passing_over {old} {new} {c} is there move =
    subst IsMemory (sym move.is) (go_on move.d AtNumber move.seen (suc move.d) AtNumber move.seen is move.holds move.at (record {
      within = omega (arith, move.there);
      part_is = tt;
      seen_are = seen-wider (shown old) move.side old.requests 0 move.d (suc move.d) move.seen (omega arith) scan.seen_are;
      own = λ below. own (cases_lt c move.d) below;
    }))
  where
    scan : IsScan (shown old) c move.side old.start.clients old.requests move.d AtNumber move.seen
    scan = the_scan move.d AtNumber move.seen is move.holds move.at

    own : (c < move.d) ⊎ (move.d ≤ c) → c < suc move.d → Meets c move.seen
    own (inl before) below = scan.own before
    own (inr after) below =
        let here : move.d ≡ c = omega (arith, after, below) in
        let due : old.requests move.d 0 ≡ (newest_of (shown old) move.d).number + 1 = subst (λ (d : ℕ). old.requests d 0 ≡ (newest_of (shown old) d).number + 1) (sym here) (own_due is there move.holds) in
        absurd (move.other (due ∙ ap (λ (s : Standing). (newest_of s move.d).number + 1) (sym (known_shown move.d AtNumber move.seen is move.holds move.at))))

pub keeps-meeting : {old new : Memory} {c : ℕ} {answer : Stepped} → IsMemory old → MeetsDue old c new answer → IsMemory new
keeps-meeting {old} {new} {c} is move =
    subst IsMemory (sym move.is) (go_on move.d AtNumber move.seen move.d (AtCode (old.requests move.d 0)) move.seen is move.holds move.at (record {
      within = scan.within;
      part_is = (move.there, refl, move.due ∙ ap (λ (s : Standing). (newest_of s move.d).number + 1) (known_shown move.d AtNumber move.seen is move.holds move.at));
      seen_are = scan.seen_are;
      own = scan.own;
    }))
  where
    scan : IsScan (shown old) c move.side old.start.clients old.requests move.d AtNumber move.seen
    scan = the_scan move.d AtNumber move.seen is move.holds move.at

pub keeps-scanning_code : {old new : Memory} {c : ℕ} {answer : Stepped} → IsMemory old → ScansCode old c new answer → IsMemory new
keeps-scanning_code {old} {new} {c} is move =
    let scan = the_scan move.d (AtCode move.number) move.seen is move.holds move.at in
    subst IsMemory (sym move.is) (go_on move.d (AtCode move.number) move.seen move.d (AtFirst move.number (old.requests move.d 1)) move.seen is move.holds move.at (record {
      within = scan.within;
      part_is = (scan.part_is.0, scan.part_is.1, scan.part_is.2, refl);
      seen_are = scan.seen_are;
      own = scan.own;
    }))

pub keeps-scanning_first : {old new : Memory} {c : ℕ} {answer : Stepped} → IsMemory old → ScansFirst old c new answer → IsMemory new
keeps-scanning_first {old} {new} {c} is move =
    let scan = the_scan move.d (AtFirst move.number move.code) move.seen is move.holds move.at in
    subst IsMemory (sym move.is) (go_on move.d (AtFirst move.number move.code) move.seen move.d (AtSecond move.number move.code (old.requests move.d 2)) move.seen is move.holds move.at (record {
      within = scan.within;
      part_is = (scan.part_is.0, scan.part_is.1, scan.part_is.2, scan.part_is.3, refl);
      seen_are = scan.seen_are;
      own = scan.own;
    }))

pub keeps-scanning_second : {old new : Memory} {c : ℕ} {answer : Stepped} → IsMemory old → ScansSecond old c new answer → IsMemory new
keeps-scanning_second {old} {new} {c} is move =
    let scan = the_scan move.d (AtSecond move.number move.code move.a) move.seen is move.holds move.at in
    subst IsMemory (sym move.is) (go_on move.d (AtSecond move.number move.code move.a) move.seen move.d (AtThird move.number move.code move.a (old.requests move.d 3)) move.seen is move.holds move.at (record {
      within = scan.within;
      part_is = (scan.part_is.0, scan.part_is.1, scan.part_is.2, scan.part_is.3, scan.part_is.4, refl);
      seen_are = scan.seen_are;
      own = scan.own;
    }))

-- the words that were scanned
scanned_words : (m : Memory) (d number code a b place : ℕ) → m.requests d 0 ≡ number → m.requests d 1 ≡ code → m.requests d 2 ≡ a → m.requests d 3 ≡ b → place < 5 → m.requests d place ≡ ask_word (scanned m d number code a b) place
scanned_words m d number code a b zero n c x y few = n
scanned_words m d number code a b (suc zero) n c x y few = c
scanned_words m d number code a b (suc (suc zero)) n c x y few = x
scanned_words m d number code a b (suc (suc (suc zero))) n c x y few = y
scanned_words m d number code a b (suc (suc (suc (suc zero)))) n c x y few = refl
scanned_words m d number code a b (suc (suc (suc (suc (suc more))))) n c x y few = absurd (omega (arith, few))

pub keeps-scanning_own : {old new : Memory} {c : ℕ} {answer : Stepped} → IsMemory old → ScansRequest old c new answer → IsMemory new
keeps-scanning_own {old} {new} {c} is move =
    subst IsMemory (sym move.is) (go_on move.d part move.seen (suc move.d) AtNumber (move.seen ++ ask ∷ []) is move.holds move.at (record {
      within = omega (arith, scan.part_is.0);
      part_is = tt;
      seen_are = seen-push (shown old) move.side old.requests 0 move.d move.seen ask (omega arith) refl (record {
        words = λ place few. scanned_words old move.d move.number move.code move.a move.b place scan.part_is.1 scan.part_is.3 scan.part_is.4 scan.part_is.5 few;
        due = scan.part_is.2;
        side_is = move.same;
      }) scan.seen_are;
      own = λ below. own (cases_lt c move.d) below;
    }))
  where
    part : Part
    part = AtThird move.number move.code move.a move.b

    ask : Ask
    ask = scanned old move.d move.number move.code move.a move.b

    scan : IsScan (shown old) c move.side old.start.clients old.requests move.d part move.seen
    scan = the_scan move.d part move.seen is move.holds move.at

    own : (c < move.d) ⊎ (move.d ≤ c) → c < suc move.d → Meets c (move.seen ++ ask ∷ [])
    own (inl before) below = meets-push c move.seen ask (scan.own before)
    own (inr after) below = meets-last c move.seen ask (omega (arith, after, below))

op_is : (x y : Op) → x.code ≡ y.code → side_of_operation x ≡ side_of_operation y
op_is x y e = ap (λ (code : ℕ). side_of_operation (record x { code = code })) e

pub keeps-scanning_other : {old new : Memory} {c : ℕ} {answer : Stepped} → IsMemory old → c < old.start.clients → ScansOther old c new answer → IsMemory new
keeps-scanning_other {old} {new} {c} is there move =
    subst IsMemory (sym move.is) (go_on move.d part move.seen (suc move.d) AtNumber move.seen is move.holds move.at (record {
      within = omega (arith, scan.part_is.0);
      part_is = tt;
      seen_are = seen-wider (shown old) move.side old.requests 0 move.d (suc move.d) move.seen (omega arith) scan.seen_are;
      own = λ below. own (cases_lt c move.d) below;
    }))
  where
    part : Part
    part = AtThird move.number move.code move.a move.b

    scan : IsScan (shown old) c move.side old.start.clients old.requests move.d part move.seen
    scan = the_scan move.d part move.seen is move.holds move.at

    client : OwnClient old c
    client = is.clients c there

    holder : IsHolder c move.side (old.book c)
    holder = the_holder move.side client move.holds

    own : (c < move.d) ⊎ (move.d ≤ c) → c < suc move.d → Meets c move.seen
    own (inl before) below = scan.own before
    own (inr after) below =
        let here : c ≡ move.d = omega (arith, after, below) in
        let code : old.requests c 1 ≡ (old.book c).ask.op.code = client.has_words.stored 1 (omega arith) (omega (arith, ap stored_words holder.stage)) in
        let same : move.code ≡ (old.book c).ask.op.code = sym scan.part_is.3 ∙ (ap (λ (d : ℕ). old.requests d 1) (sym here) ∙ code) in
        absurd (move.other (op_is (scanned old move.d move.number move.code move.a move.b).op (old.book c).ask.op same ∙ holder.of_side))
