-- A worker's lines, one more after the other.
use Rattle.std.proofs.Common.{◌≡◌, ◌⊎◌, ℕ, ◌+◌, ◌<◌, ◌≤◌, leb, eqb, Bool, true, false, cond, List, [], ◌∷◌, ◌++◌, length, map, take, Option, Some, None, refl, sym, ap, subst, ◌∙◌, inl, inr, arith, length-append, Contains}
use Rattle.std.specs.List.{zip, count_by, filter}
use Rattle.std.specs.Prelude.{slice_index_or, slice_set}
use Rattle.std.proofs.lemmas.Bool.{false≢true}
use Rattle.std.proofs.lemmas.Bool.Decides.{nat_tests}
use Rattle.std.proofs.lemmas.List.{append-nil, map-append, take_more, take_more_set, take_all, length-set, length-take}
use Rattle.std.proofs.lemmas.List.Elements.{filter-append, Contains-append_left, Contains-push, Contains-push_cases}
use Rattle.std.proofs.lemmas.List.Sums.{sum_by-append}
use Rattle.pb_object.specs.declared.kind.Kind.{Kind}
use Rattle.pb_object.specs.declared.request.Ask.{Ask}
use Rattle.pb_object.specs.declared.request.Kept.{Kept as KeptRequest}
use Rattle.pb_object.specs.declared.request.Reply.{Reply}
use Rattle.pb_object.specs.declared.request.TheConstants.{LAST_NUMBER}
use Rattle.pb_object.specs.History.{Entry, Round, History, kept_by}
use Rattle.pb_object.specs.KeptLists.{IsKeptList, kept_with}
use Rattle.pb_object.specs.Standing.{newest}
use Rattle.pb_object.proofs.KeptLists.{keep_kept_list}
use Rattle.pb_core.specs.Client.{Idle, Dated}
use Rattle.pb_core.specs.MemoryParts.{own_entries}
use Rattle.pb_report.specs.declared.outcome.Outcome.{Outcome}
use Rattle.pb_report.specs.declared.outcome.Outcome.TheVariants.{New, Kept, Old, Gap, Changed, Doubt, Left}
use Rattle.pb_report.specs.Outcomes.{GoesOn, IsLine, HasEntry, AreLines, ask_of, decided_outcome, entry_of, outcome_by}
use Rattle.pb_object.specs.Request.{is_same_op}
use Rattle.pb_report.specs.GoingOn.{is_ending, kept_next}
use Rattle.pb_report.proofs.GoingOn.{IsNextLine, HasEntriesOf}
use Rattle.pb_rule.specs.View.{PassView}
use Rattle.pb_shared.specs.Passes.{PassSeen, SharedSeen}
use Rattle.pb_run.specs.Line.{met_ask, DecidesOrTries, RunsLine, IsServed, StaysOpen, TriesAsk, ends_run}
use Rattle.pb_run.specs.Run.{is_doubt, line_in_doubt, line_ask, asks_in_doubt}
use Rattle.pb_run.specs.Worker.{Line, own_history, IsPendingLine, IsSoFar, IsReadyToWork}
use Rattle.pb_report.specs.SummaryText.{is_new}
use Rattle.pb_run.proofs.LineLemmas.{IsClientSoFar, next_line, left_line, zip-push}

-- Counts

abbrev one_if : Bool → ℕ
one_if b = cond b 1 0

counts : (test : Outcome → Bool) (lines : List Line) (ask : Ask) (o : Outcome) (b : Bool) → test o ≡ b
    → count_by (λ line. test line.1) (lines ++ (ask, o) ∷ []) ≡ count_by (λ line. test line.1) lines + (0 + one_if b)
counts test lines ask o b is =
    sum_by-append (λ (line : Line). one_if (test line.1)) lines ((ask, o) ∷ []) ∙ ap (λ (t : Bool). count_by (λ (line : Line). test line.1) lines + (0 + one_if t)) is

counted : (test : Outcome → Bool) (lines : List Line) (ask : Ask) (o : Outcome) → test o ≡ true
    → count_by (λ line. test line.1) (lines ++ (ask, o) ∷ []) ≡ count_by (λ line. test line.1) lines + 1
counted test lines ask o is = counts test lines ask o true is

uncounted : (test : Outcome → Bool) (lines : List Line) (ask : Ask) (o : Outcome) → test o ≡ false
    → count_by (λ line. test line.1) (lines ++ (ask, o) ∷ []) ≡ count_by (λ line. test line.1) lines
uncounted test lines ask o is = let more = counts test lines ask o false is in omega (arith, more)

-- the requests in doubt
in_doubt_append : (lines : List Line) (ask : Ask) (o : Outcome) → asks_in_doubt (lines ++ (ask, o) ∷ []) ≡ asks_in_doubt lines ++ asks_in_doubt ((ask, o) ∷ [])
in_doubt_append lines ask o =
    ap (map line_ask) (filter-append line_in_doubt lines ((ask, o) ∷ [])) ∙ map-append line_ask (filter line_in_doubt lines) (filter line_in_doubt ((ask, o) ∷ []))

none_in_doubt : (lines : List Line) (ask : Ask) (o : Outcome) → is_doubt o ≡ false → asks_in_doubt (lines ++ (ask, o) ∷ []) ≡ asks_in_doubt lines
none_in_doubt lines ask o is =
    in_doubt_append lines ask o ∙ (ap (λ (b : Bool). asks_in_doubt lines ++ map line_ask (cond b ((ask, o) ∷ []) [])) is ∙ append-nil (asks_in_doubt lines))

one_in_doubt : (lines : List Line) (ask : Ask) → asks_in_doubt (lines ++ (ask, Doubt) ∷ []) ≡ asks_in_doubt lines ++ ask ∷ []
one_in_doubt lines ask = in_doubt_append lines ask Doubt

-- Outcomes that kept requests decide

abbrev IsDecided : Outcome → Type 0
IsDecided (New reply) = ⊥
IsDecided Doubt = ⊥
IsDecided Left = ⊥
IsDecided _ = Unit {0}

abbrev AreDecided : Option Outcome → Type 0
AreDecided None = Unit {0}
AreDecided (Some outcome) = IsDecided outcome

decided_by : (one : Option KeptRequest) (last : ℕ) (ask : Ask) → AreDecided (outcome_by one last ask)
decided_by (Some one) last ask =
    elim (is_same_op one.op ask.op) as (λ same. IsDecided (cond same (Kept one.reply) Changed)) [ true ↦ tt | false ↦ tt ]
decided_by None last ask =
    elim (leb ask.number last) as
    (λ old. AreDecided (cond old (Some Old) (cond (eqb ask.number (last + 1)) None (Some Gap)))) [
      | true ↦ tt
      | false ↦ elim (eqb ask.number (last + 1)) as (λ next. AreDecided (cond next None (Some Gap)))
          [ true ↦ tt | false ↦ tt ]
    ]

record IsUntried (o : Outcome) : Type 0 where
  new : is_new o ≡ false
  doubt : is_doubt o ≡ false

record Decides (o : Outcome) : Type 0 where
  untried : IsUntried o
  ends : ends_run o ≡ is_ending o
  goes : GoesOn o (Unit {0}) (Unit {0})
  kept : (known : List KeptRequest) (ask : Ask) → known ≡ kept_next known ask o

decides : (o : Outcome) → IsDecided o → Decides o
decides (New reply) is = absurd is
decides Doubt is = absurd is
decides Left is = absurd is
decides (Kept reply) is = record { untried = record { new = refl; doubt = refl }; ends = refl; goes = tt; kept = λ known ask. refl }
decides Old is = record { untried = record { new = refl; doubt = refl }; ends = refl; goes = tt; kept = λ known ask. refl }
decides Gap is = record { untried = record { new = refl; doubt = refl }; ends = refl; goes = tt; kept = λ known ask. refl }
decides Changed is = record { untried = record { new = refl; doubt = refl }; ends = refl; goes = tt; kept = λ known ask. refl }

-- nothing is decided only of the number after the last one
next_number : (one : Option KeptRequest) (last : ℕ) (ask : Ask) → outcome_by one last ask ≡ None → ask.number ≡ last + 1
next_number (Some one) last ask is = absurd (cc (is))
next_number None last ask is = grind (arith, nat_tests)

-- One more line

module _ (first : List KeptRequest) (lines : List Line) (ask : Ask) where
  so_client : {left : Bool} {v : PassView} → IsSoFar first lines left v → IsClientSoFar (own_history v) first lines v.body.kept left
  so_client so = record { are = so.are; ended = so.ended; kept = so.known }

  pending_more : {v : PassView} (o : Outcome) → IsPendingLine lines v → IsPendingLine (lines ++ (ask, o) ∷ []) v
  pending_more {v} o is = record { pending = is.pending; line = Contains-append_left lines ((ask, o) ∷ []) (v.body.ask, Doubt) is.line }

  rests_more : {v : PassView} (o : Outcome) → (v.body.stage ≡ Idle) ⊎ IsPendingLine lines v → (v.body.stage ≡ Idle) ⊎ IsPendingLine (lines ++ (ask, o) ∷ []) v
  rests_more o (inl idle) = inl idle
  rests_more o (inr is) = inr (pending_more o is)

  abbrev reply_or : Reply → Outcome → Reply
  reply_or other (New reply) = reply
  reply_or other _ = other

  -- a line that isn't tried leaves the pass
  untried : {left : Bool} {v : PassView} (o : Outcome) (ends : Bool) → IsSoFar first lines left v → IsUntried o → IsClientSoFar (own_history v) first (lines ++ (ask, o) ∷ []) v.body.kept ends → (ends ≡ false → left ≡ false) → IsSoFar first (lines ++ (ask, o) ∷ []) ends v
  untried {left} {v} o ends so is client earlier = record {
    are = client.are;
    ended = client.ended;
    known = client.kept;
    kept = so.kept;
    idle = λ goes. so.idle (earlier goes);
    rests = rests_more o so.rests;
    recorded = λ one reply line. elim (Contains-push_cases lines (ask, o) (one, New reply) line) [
      | inl before ↦ so.recorded one reply before
      | inr same ↦ absurd (false≢true (sym is.new ∙ ap (λ (l : Line). is_new l.1) same))
    ];
    told = λ entry own. Contains-append_left lines ((ask, o) ∷ []) (ask_of entry, New entry.reply) (so.told entry own);
    new_lines = so.new_lines ∙ sym (uncounted is_new lines ask o is.new);
    doubts = so.doubts ∙ sym (none_in_doubt lines ask o is.doubt);
  }

  decided_line : {v : PassView} (o : Outcome) → IsSoFar first lines false v → decided_outcome v.body.kept ask ≡ Some o → IsSoFar first (lines ++ (ask, o) ∷ []) (ends_run o) v
  decided_line {v} o so is =
      let facts : Decides o = decides o (subst AreDecided is (decided_by (kept_with ask.number v.body.kept) (newest v.body.kept).number ask)) in
      let next : IsNextLine (own_history v) v.body.kept ask o = subst (λ (decided : Option Outcome). IsLine decided (own_history v) v.body.kept ask o (λ next. Unit {0}) (Unit {0})) (sym is) (refl, facts.goes) in
      untried o (ends_run o) so facts.untried (next_line (own_history v) (own_history v) first lines v.body.kept v.body.kept ask o (λ entry has. has) next facts.ends (λ on. facts.kept v.body.kept ask) (so_client so)) (λ goes. refl)

  -- the request is served

  same_own : (v w : PassView) (entries : List Entry) → own_entries w.body ≡ entries → own_history w ≡ record { side = 0; entries = entries } ∷ []
  same_own v w entries is = ap (λ (es : List Entry). record { side = 0; entries = es } ∷ []) is

  has_own : (v : PassView) (entry : Entry) → Contains (own_entries v.body) entry → HasEntry (own_history v) entry
  has_own v entry is = record { round = record { side = 0; entries = own_entries v.body }; told = Contains-push [] (record { side = 0; entries = own_entries v.body }); member = is }

  own_has : (v : PassView) (entry : Entry) → HasEntry (own_history v) entry → Contains (own_entries v.body) entry
  own_has v entry has = elim (Contains-push_cases [] (record { side = 0; entries = own_entries v.body }) has.round has.told) [
    | inl nothing ↦ absurd (omega (arith, nothing.1))
    | inr same ↦ subst (λ (r : Round). Contains r.entries entry) (sym same) has.member
  ]

  served_line : {v w : PassView} (reply : Reply) → IsSoFar first lines false v → None ≡ decided_outcome v.body.kept ask → ask.number ≤ LAST_NUMBER → IsServed ask reply v w → IsSoFar first (lines ++ (ask, New reply) ∷ []) false w
  served_line {v} {w} reply so none few served =
      let entry : Entry = entry_of ask reply in
      let here : Contains (own_entries w.body) entry = subst (λ (es : List Entry). Contains es entry) (sym served.mine) (Contains-push (own_entries v.body) entry) in
      let next : IsNextLine (own_history w) v.body.kept ask (New reply) = subst (λ (decided : Option Outcome). IsLine decided (own_history w) v.body.kept ask (New reply) (λ next. Unit {0}) (Unit {0})) none (has_own w entry here, tt) in
      let client = next_line (own_history v) (own_history w) first lines v.body.kept w.body.kept ask (New reply) more next refl (λ on. served.kept) (so_client so) in
      record {
        are = client.are;
        ended = client.ended;
        known = client.kept;
        kept = subst IsKeptList (sym served.kept) (keep_kept_list (kept_by entry) v.body.kept (next_number (kept_with ask.number v.body.kept) (newest v.body.kept).number ask (sym none)) few so.kept);
        idle = λ goes. served.idle;
        rests = inl served.idle;
        recorded = λ one other line. elim (Contains-push_cases lines (ask, New reply) (one, New other) line) [
          | inl before ↦ earlier (entry_of one other) (so.recorded one other before)
          | inr same ↦ subst (λ (e : Entry). Contains (own_entries w.body) e) (λ i. entry_of (same i).0 (reply_or reply (same i).1)) here
        ];
        told = λ one own. elim (Contains-push_cases (own_entries v.body) entry one (subst (λ (es : List Entry). Contains es one) served.mine own)) [
          | inl before ↦ Contains-append_left lines ((ask, New reply) ∷ []) (ask_of one, New one.reply) (so.told one before)
          | inr same ↦ subst (λ (e : Entry). Contains (lines ++ (ask, New reply) ∷ []) (ask_of e, New e.reply)) same (Contains-push lines (ask, New reply))
        ];
        new_lines = ap length served.mine ∙ (length-append (own_entries v.body) (entry ∷ []) ∙ (ap (λ (n : ℕ). n + 1) so.new_lines ∙ sym (counted is_new lines ask (New reply) refl)));
        doubts = ap (map met_ask) served.met ∙ (so.doubts ∙ sym (none_in_doubt lines ask (New reply) refl));
      }
    where
      earlier : (entry : Entry) → Contains (own_entries v.body) entry → Contains (own_entries w.body) entry
      earlier entry is = subst (λ (es : List Entry). Contains es entry) (sym served.mine) (Contains-append_left (own_entries v.body) (entry_of ask reply ∷ []) entry is)

      more : HasEntriesOf (own_history w) (own_history v)
      more entry has = has_own w entry (earlier entry (own_has v entry has))

  -- it is in doubt

  doubt_line : {v w : PassView} → IsSoFar first lines false v → None ≡ decided_outcome v.body.kept ask → StaysOpen ask v w → IsSoFar first (lines ++ (ask, Doubt) ∷ []) true w
  doubt_line {v} {w} so none stays =
      let next : IsNextLine (own_history w) v.body.kept ask Doubt = subst (λ (decided : Option Outcome). IsLine decided (own_history w) v.body.kept ask Doubt (λ next. Unit {0}) (Unit {0})) none tt in
      let client = next_line (own_history v) (own_history w) first lines v.body.kept w.body.kept ask Doubt more next refl (λ on. absurd (false≢true (sym on))) (so_client so) in
      record {
        are = client.are;
        ended = client.ended;
        known = client.kept;
        kept = subst IsKeptList (sym stays.kept) so.kept;
        idle = λ goes. absurd (false≢true (sym goes));
        rests = inr (record { pending = stays.pending; line = subst (λ (a : Ask). Contains (lines ++ (ask, Doubt) ∷ []) (a, Doubt)) (sym stays.asked) (Contains-push lines (ask, Doubt)) });
        recorded = λ one other line. elim (Contains-push_cases lines (ask, Doubt) (one, New other) line) [
          | inl before ↦ subst (λ (es : List Entry). Contains es (entry_of one other)) (sym stays.mine) (so.recorded one other before)
          | inr same ↦ absurd (false≢true (ap (λ (l : Line). is_new l.1) same))
        ];
        told = λ one own. Contains-append_left lines ((ask, Doubt) ∷ []) (ask_of one, New one.reply) (so.told one (subst (λ (es : List Entry). Contains es one) stays.mine own));
        new_lines = ap length stays.mine ∙ (so.new_lines ∙ sym (uncounted is_new lines ask Doubt refl));
        doubts = stays.met ∙ (ap (λ (asks : List Ask). asks ++ ask ∷ []) so.doubts ∙ sym (one_in_doubt lines ask));
      }
    where
      more : HasEntriesOf (own_history w) (own_history v)
      more entry has = has_own w entry (subst (λ (es : List Entry). Contains es entry) (sym stays.mine) (own_has v entry has))

  tried_line : {v w : PassView} (o : Outcome) → IsSoFar first lines false v → None ≡ decided_outcome v.body.kept ask → ask.number ≤ LAST_NUMBER → TriesAsk ask v w o → IsSoFar first (lines ++ (ask, o) ∷ []) (ends_run o) w
  tried_line (New reply) so none few tried = served_line reply so none few tried
  tried_line Doubt so none few tried = doubt_line so none tried
  tried_line (Kept reply) so none few tried = absurd tried
  tried_line Old so none few tried = absurd tried
  tried_line Gap so none few tried = absurd tried
  tried_line Changed so none few tried = absurd tried
  tried_line Left so none few tried = absurd tried

  answered_line : {v w : PassView} (o : Outcome) (decided : Option Outcome) → decided ≡ decided_outcome v.body.kept ask → IsSoFar first lines false v → ask.number ≤ LAST_NUMBER → DecidesOrTries decided ask v w o → IsSoFar first (lines ++ (ask, o) ∷ []) (ends_run o) w
  answered_line o None is so few by = tried_line o so is few by
  answered_line {v} {w} o (Some decided) is so few by =
      subst (IsSoFar first (lines ++ (ask, o) ∷ []) (ends_run o)) (sym by.1) (decided_line o so (sym is ∙ ap Some (sym by.0)))

  pub line_more : {v w : PassView} (o : Outcome) (left : Bool) → IsSoFar first lines left v → ask.number ≤ LAST_NUMBER → RunsLine left ask v w o → IsSoFar first (lines ++ (ask, o) ∷ []) (ends_run o) w
  line_more {v} {w} o true so few is =
      subst (IsSoFar first (lines ++ (ask, o) ∷ []) (ends_run o)) (sym is.1)
      (subst (λ (p : Outcome). IsSoFar first (lines ++ (ask, p) ∷ []) (ends_run p) v) (sym is.0)
      (untried Left true so (record { new = refl; doubt = refl }) (left_line (own_history v) first lines v.body.kept ask (so_client so)) (λ goes. absurd (false≢true (sym goes)))))
  line_more {v} {w} o false so few is = answered_line o (decided_outcome v.body.kept ask) refl so few is

-- From the first line on

no_lines : (history : History) (kept : List KeptRequest) → AreLines history kept []
unfolding AreLines
no_lines history kept = tt

pub at_first : {kind : Kind} {object : SharedSeen} {pass : PassSeen} {asks : List Ask} → IsReadyToWork kind object pass asks → IsSoFar pass.view.body.kept [] false pass.view
at_first {pass = pass} ready = record {
  are = no_lines (own_history pass.view) pass.view.body.kept;
  ended = refl;
  known = λ goes. refl;
  kept = ready.kept;
  idle = λ goes. ready.idle;
  rests = inl ready.idle;
  recorded = λ ask reply line. absurd (omega (arith, line.1));
  told = λ entry own. absurd (none (subst (λ (es : List Entry). Contains es entry) entries own));
  new_lines = ap length entries;
  doubts = ap (map met_ask) ready.calm;
}
  where
    entries : own_entries pass.view.body ≡ []
    entries = ap (λ (mine : List Dated). own_entries (record pass.view.body { mine = mine })) ready.none

    none : {entry : Entry} → Contains [] entry → ⊥
    none is = omega (arith, is.1)

-- the lines before a place are through
pub record IsRunTo (first : List KeptRequest) (asks : List Ask) (list : List Outcome) (place : ℕ) (left : Bool) (v : PassView) : Type 0 where
  pub so : IsSoFar first (zip (take place asks) (take place list)) left v
  pub places : length list ≡ length asks

pub at_start : {kind : Kind} {object : SharedSeen} {pass : PassSeen} (asks : List Ask) (list : List Outcome) → length list ≡ length asks → IsReadyToWork kind object pass asks → IsRunTo pass.view.body.kept asks list 0 false pass.view
at_start {pass = pass} asks list places ready = record { so = at_first ready; places = places }

pub one_further : (first : List KeptRequest) (asks : List Ask) (list : List Outcome) (place : ℕ) (left : Bool) (v w : PassView) (d : Ask) (o : Outcome)
    → place < length asks → (slice_index_or asks place d).number ≤ LAST_NUMBER → RunsLine left (slice_index_or asks place d) v w o → IsRunTo first asks list place left v → IsRunTo first asks (slice_set list place o) (place + 1) (ends_run o) w
one_further first asks list place left v w d o inside few is to = record {
  so = subst (λ (lines : List Line). IsSoFar first lines (ends_run o) w) (sym whole) (line_more first (zip (take place asks) (take place list)) (slice_index_or asks place d) o left to.so few is);
  places = length-set list place o ∙ to.places;
}
  where
    before : length (take place list) ≡ length (take place asks)
    before = omega (arith, length-take place list, length-take place asks, to.places)

    whole : zip (take (place + 1) asks) (take (place + 1) (slice_set list place o)) ≡ zip (take place asks) (take place list) ++ (slice_index_or asks place d, o) ∷ []
    whole = (λ i. zip (take_more asks place d inside i) (take_more_set list place o (omega (arith, inside, to.places)) i)) ∙ zip-push (take place asks) (take place list) (slice_index_or asks place d) o before

pub all_through : (first : List KeptRequest) (asks : List Ask) (list : List Outcome) (place : ℕ) (left : Bool) (v : PassView) → length asks ≤ place → IsRunTo first asks list place left v → IsSoFar first (zip asks list) left v
all_through first asks list place left v all to =
    subst (λ (lines : List Line). IsSoFar first lines left v) (λ i. zip (take_all place asks all i) (take_all place list (omega (arith, all, to.places)) i)) to.so
