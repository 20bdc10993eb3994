-- Requests are applied one after the other.
use Rattle.std.proofs.Common.{◌≡◌, ℕ, suc, ◌+◌, ◌<◌, List, [], ◌∷◌, ◌++◌, length, take, drop, get_or, sym, ap, subst, ◌∙◌, arith}
use Rattle.std.proofs.Math.Seq.{take-suc, split_at}
use Rattle.std.specs.List.{All}
use Rattle.pb_pmem.specs.declared.line.Line.{Line}
use Rattle.pb_object.specs.declared.request.Ask.{Ask}
use Rattle.pb_object.specs.declared.request.Reply.{Reply}
use Rattle.pb_object.specs.History.{Entry}
use Rattle.pb_object.specs.Object.{State, next_state, reply_of}
use Rattle.pb_layout.specs.NextRecord.{IsOfOther}
use Rattle.pb_layout.specs.Slots.{PutsInFront}
use Rattle.pb_engine.specs.Asks.{answered_by, answered_from, state_from, AskersRise}
use Rattle.pb_engine.specs.Next.{PutsEntries}
use Rattle.pb_engine.proofs.Entries.{puts_none, puts_more, earlier_are_others}
use Rattle.pb_engine.proofs.Served.{answered_from-none, answered_from-more, answered_from-append, state_from-none, state_from-more, state_from-append}
use Rattle.pb_comb.specs.Serving.{IsServing}
use Rattle.pb_object.specs.Request.{no_op}

one_more : (asks : List Ask) (at : ℕ) (d : Ask) → at < length asks → take (at + 1) asks ≡ take at asks ++ get_or asks at d ∷ []
one_more asks at d below =
    let next : at + 1 ≡ suc at = omega arith in
    ap (λ (n : ℕ). take n asks) next ∙ take-suc asks at d below

state_more : (old middle new : State) (done : List Ask) (ask : Ask) → middle ≡ state_from old done → new ≡ next_state middle ask.op → new ≡ state_from old (done ++ ask ∷ [])
state_more old middle new done ask before moved =
    moved ∙ (ap (λ (s : State). next_state s ask.op) before
    ∙ (sym (state_from-none (next_state (state_from old done) ask.op)) ∙ (sym (state_from-more (state_from old done) ask []) ∙ sym (state_from-append old done (ask ∷ [])))))

-- the state of an object that follows
pub follows_none : (asks : List Ask) (state : State) → state ≡ state_from state (take 0 asks)
follows_none asks state = sym (state_from-none state)

pub follows_more : (asks : List Ask) (at : ℕ) (d : Ask) (old middle new : State) → at < length asks → middle ≡ state_from old (take at asks) → new ≡ next_state middle (get_or asks at d).op → new ≡ state_from old (take (at + 1) asks)
follows_more asks at d old middle new below before moved =
    state_more old middle new (take at asks) (get_or asks at d) before moved ∙ ap (state_from old) (sym (one_more asks at d below))

-- .. and of one whose entries are put into a record
pub serving_none : (asks : List Ask) (before : List Line) (state : State) (lines : List Line) → IsServing (take 0 asks) before state state lines lines
serving_none asks before state lines = record {
  state = follows_none asks state;
  entries = subst (λ (es : List Entry). PutsEntries before es lines lines) (sym (answered_from-none state)) (puts_none before lines);
}

pub serving_more : (asks : List Ask) (at : ℕ) (d : Ask) (before : List Line) (old middle new : State) (lines next after : List Line) (reply : Reply) → at < length asks → AskersRise asks → IsServing (take at asks) before old middle lines next
    → new ≡ next_state middle (get_or asks at d).op → reply ≡ reply_of middle (get_or asks at d).op
    → PutsInFront before (get_or asks at d).client (record { number = (get_or asks at d).number; op = (get_or asks at d).op; reply = reply }) next after → length after ≡ length next
    → IsServing (take (at + 1) asks) before old new lines after
serving_more asks at d before old middle new lines next after reply below rise so_far moved replied puts long =
    subst (λ (done : List Ask). IsServing done before old new lines after) (sym (one_more asks at d below)) (record {
      state = state_more old middle new done ask so_far.state moved;
      entries = subst (λ (es : List Entry). PutsEntries before es lines after) (sym all) (puts_more before (answered_from old done) entry lines next after so_far.entries others (subst (λ (r : Reply). PutsInFront before ask.client (record { number = ask.number; op = ask.op; reply = r }) next after) said puts) long);
    })
  where
    ask : Ask
    ask = get_or asks at d

    done : List Ask
    done = take at asks

    entry : Entry
    entry = answered_by (state_from old done) ask

    said : reply ≡ reply_of (state_from old done) ask.op
    said = replied ∙ ap (λ (s : State). reply_of s ask.op) so_far.state

    all : answered_from old (done ++ ask ∷ []) ≡ answered_from old done ++ entry ∷ []
    all = answered_from-append old done (ask ∷ []) ∙ ap (λ (es : List Entry). answered_from old done ++ es) (answered_from-more (state_from old done) ask [] ∙ ap (λ (es : List Entry). entry ∷ es) (answered_from-none (next_state (state_from old done) ask.op)))

    others : All (IsOfOther ask.client) (answered_from old done)
    others = earlier_are_others old done ask (drop (suc at) asks) (subst AskersRise (split_at asks at d below) rise)

-- no request: what a slice gives beyond its end
abbrev pub no_ask : Ask
no_ask = record { client = 0; number = 0; op = no_op }
