-- A try, put together from its parts.
use Rattle.std.proofs.Common.{◌≡◌, ◌≢◌, ℕ, suc, ◌+◌, ◌*◌, ◌/◌, ◌%◌, ◌≤◌, eqb, List, [], ◌∷◌, ◌++◌, sym, refl, ap, ◌∙◌, subst, inl, inr, arith}
use Rattle.std.proofs.lemmas.Bool.{eq-eqb, ne_eqb, cond-true, cond-false}
use Rattle.pb_object.specs.declared.kind.Kind.{Kind}
use Rattle.pb_core.specs.Client.{Stage, Looking, LoadsCode, Lacking, Taking, Client}
use Rattle.pb_core.specs.Memory.{round_of_turn}
use Rattle.pb_core.specs.WordMoves.{answered}
use Rattle.pb_engine.specs.View.{EngineView}
use Rattle.pb_rule.specs.View.{Note, Turn, Row, OwnRound, PassView}
use Rattle.pb_rule.specs.Plays.{Seated, the_view, with_view, first_look, last_look, row_number, number_found, taken, HasTaken}
use Rattle.pb_shared.specs.declared.answers.Attempt.{Attempt}
use Rattle.pb_shared.specs.declared.answers.Attempt.TheVariants.{Done, Busy, Fault}
use Rattle.pb_shared.specs.Holding.{IsHolding}
use Rattle.pb_shared.specs.Reads.{HasReadReply}
use Rattle.pb_shared.specs.Tries.{HasCombined, Serves, HasHadTurn, IsDone, read_row, had_turn, lacked, missed, moved_on, settled, IsSamePass, HasTried, HasHeld}

pub with_same : {X : Type 0} (me new : Seated X) (change : PassView → PassView) → new ≡ with_view change me → the_view new ≡ change (the_view me)
with_same {X} me new change is = ap (λ (m : Seated X). the_view m) is

-- The first two words

-- the view after the turn word and the number word of the row
abbrev pub looked_at : (turn found : ℕ) → PassView → PassView
looked_at turn found v = row_number found (first_look turn v)

module _ (v : PassView) (turn found : ℕ) where
  number : Stage
  number = number_found turn v.body.ask.number found

  pub own_number : found ≡ v.body.ask.number → (looked_at turn found v).body.stage ≡ LoadsCode turn
  own_number same = cond-true (eqb found v.body.ask.number) (LoadsCode turn) _ (eq-eqb _ _ same)

  pub other_held : found ≢ v.body.ask.number → turn % 2 ≡ 1 → (looked_at turn found v).body.stage ≡ Lacking turn found
  other_held other odd =
      cond-false (eqb found v.body.ask.number) (LoadsCode turn) _ (ne_eqb _ _ other) ∙ cond-true (eqb (turn % 2) 1) (Lacking turn found) (Taking turn found) (eq-eqb _ _ odd)

  pub other_free : found ≢ v.body.ask.number → turn % 2 ≢ 1 → (looked_at turn found v).body.stage ≡ Taking turn found
  other_free other even =
      cond-false (eqb found v.body.ask.number) (LoadsCode turn) _ (ne_eqb _ _ other) ∙ cond-false (eqb (turn % 2) 1) (Lacking turn found) (Taking turn found) (ne_eqb _ _ even)

-- Reading

stays_by : (v w : PassView) (stage : Stage) (front : ℕ) (body : Client) → body ≡ record v.body { stage = stage; front = front } → w.body ≡ record body { stage = Looking; front = w.body.front } → w.body ≡ record v.body { stage = Looking; front = w.body.front }
stays_by v w stage front body is after =
    after ∙ ap (λ (b : Client). record b { stage = Looking; front = w.body.front }) is

pub read_tried : (v w : PassView) (turn : ℕ) (answer : Attempt) → v.body.front ≤ round_of_turn turn → HasReadReply turn (looked_at turn v.body.ask.number v) w answer → HasTried v w answer
read_tried v w turn (Done reply) low read =
    (read.0, omega (arith, low, read.1), read.2, read_row turn read.4.to read.4.notes read.4.round read.4.front read.3)
read_tried v w turn (Busy from to) low read = (
  record {
    body = read.2 ∙ (λ i. record v.body { stage = Looking; front = sym (ap (λ (b : Client). b.front) read.2) i });
    front = omega (arith, low, read.3);
  },
  read.5,
  ap (λ (b : Client). b.front) read.2,
  read.6,
  moved_on (subst (λ (n : ℕ). w.notes ≡ Turn n ∷ Row v.body.ask.number ∷ Turn to ∷ []) (sym read.0) read.4) (λ e. read.1 (e ∙ ap (λ (n : ℕ). n / 2) read.0)),
)
read_tried v w turn (Fault from to) low read = absurd read

-- The row lacks the number while the turn is held
pub lacked_tried : (v w : PassView) (turn found to : ℕ) → v.body.front ≤ round_of_turn turn → round_of_turn turn ≤ round_of_turn to → found ≢ v.body.ask.number → turn % 2 ≡ 1 → w ≡ last_look to (looked_at turn found v) → HasTried v w (Busy turn to)
lacked_tried v w turn found to low later other odd is = (
  record {
    body = ap (λ (u : PassView). u.body) is ∙ (λ i. record v.body { stage = Looking; front = sym (ap (λ (u : PassView). u.body.front) is) i });
    front = subst (λ (n : ℕ). v.body.front ≤ n) (sym (ap (λ (u : PassView). u.body.front) is)) (omega (arith, low, later));
  },
  ap (λ (u : PassView). u.met) is,
  ap (λ (u : PassView). u.body.front) is,
  ap (λ (u : PassView). u.served) is,
  lacked found (ap (λ (u : PassView). u.notes) is) other odd,
)

pub same_looked : (v w : PassView) (turn found to : ℕ) → w ≡ last_look to (looked_at turn found v) → IsSamePass v w
same_looked v w turn found to is = record {
  clients = ap (λ (u : PassView). u.clients) is;
  client = ap (λ (u : PassView). u.client) is;
}

-- Taking the turn

combined_as : {v old new : PassView} → old.served ≡ v.served → HasCombined old new → HasCombined v new
combined_as same own = record {
  own = own.own;
  served = own.served ∙ ap (λ (rounds : List OwnRound). rounds ++ own.own ∷ []) same;
  round = own.round;
  combined = own.combined;
}

-- from another view with the same request and the same rounds
pub done_as : {v old new : PassView} → old.body.ask.number ≡ v.body.ask.number → old.served ≡ v.served → IsDone old new → IsDone v new
done_as number same (read_row from to notes round front served) =
    read_row from to (notes ∙ ap (λ (n : ℕ). Turn from ∷ Row n ∷ Turn to ∷ []) number) round front (served ∙ same)
done_as {new = new} number same (had_turn turn had front (inl settles)) =
    had_turn turn (subst (λ (n : ℕ). HasHadTurn n turn (Row n ∷ Turn (turn + 2) ∷ []) new.notes) number had) front (inl (settles.0, settles.1 ∙ same))
done_as {new = new} number same (had_turn turn had front (inr own)) =
    had_turn turn (subst (λ (n : ℕ). HasHadTurn n turn (Row n ∷ Turn (turn + 2) ∷ []) new.notes) number had) front (inr (combined_as same own))

-- what a try comes to after the first two words is what it comes to
pub rest_tried : (v w : PassView) (turn found : ℕ) (answer : Attempt) → v.body.front ≤ round_of_turn turn → HasTried (looked_at turn found v) w answer → HasTried v w answer
rest_tried v w turn found (Done reply) low tried =
    (tried.0, omega (arith, low, tried.1), tried.2, done_as refl refl tried.3)
rest_tried v w turn found (Busy from to) low tried =
    (record { body = tried.0.body; front = omega (arith, low, tried.0.front) }, tried.1, tried.2, tried.3, tried.4)
rest_tried v w turn found (Fault from to) low tried =
    (record { body = tried.0.body; front = omega (arith, low, tried.0.front) }, tried.1, tried.2, tried.3, tried.4)

pub missed_tried : (v w : PassView) (turn found to : ℕ) → v.notes ≡ Turn turn ∷ Row found ∷ [] → found ≢ v.body.ask.number → turn % 2 ≡ 0 → to ≢ turn → v.body.front ≤ round_of_turn to → w ≡ last_look to v → HasTried v w (Busy turn to)
missed_tried v w turn found to notes other free apart later is = (
  record {
    body = ap (λ (u : PassView). u.body) is ∙ (λ i. record v.body { stage = Looking; front = sym (ap (λ (u : PassView). u.body.front) is) i });
    front = subst (λ (n : ℕ). v.body.front ≤ n) (sym (ap (λ (u : PassView). u.body.front) is)) later;
  },
  ap (λ (u : PassView). u.met) is,
  ap (λ (u : PassView). u.body.front) is,
  ap (λ (u : PassView). u.served) is,
  missed found (ap (λ (u : PassView). u.notes) is ∙ ap (λ (l : List Note). l ++ Turn to ∷ []) notes) other free apart,
)

pub same_missed : (v w : PassView) (to : ℕ) → w ≡ last_look to v → IsSamePass v w
same_missed v w to is = record {
  clients = ap (λ (u : PassView). u.clients) is;
  client = ap (λ (u : PassView). u.client) is;
}

-- it has the turn
module _ (v t w : PassView) (turn found : ℕ) (engine : EngineView) (is : t ≡ taken turn engine v) (notes : v.notes ≡ Turn turn ∷ Row found ∷ []) (other : found ≢ v.body.ask.number) (free : turn % 2 ≡ 0) (front : v.body.front ≡ round_of_turn turn) where
  front_taken : t.body.front ≡ turn / 2
  front_taken = ap (λ (u : PassView). u.body.front) is ∙ front

  notes_taken : t.notes ≡ Turn turn ∷ Row found ∷ Turn turn ∷ []
  notes_taken = ap (λ (u : PassView). u.notes) is ∙ ap (λ (l : List Note). l ++ Turn turn ∷ []) notes

  same_served : t.served ≡ v.served
  same_served = ap (λ (u : PassView). u.served) is

  same_front : t.body.front ≤ w.body.front → v.body.front ≤ w.body.front
  same_front = subst (λ (n : ℕ). n ≤ w.body.front) (ap (λ (u : PassView). u.body.front) is)

  -- it published these words
  had : (published : List Note) → w.notes ≡ t.notes ++ published → HasHadTurn v.body.ask.number turn published w.notes
  had published more = record {
    found = found;
    met = more ∙ ap (λ (l : List Note). l ++ published) notes_taken;
    lacks = other;
    free = free;
  }

  same_number : t.body.ask.number ≡ v.body.ask.number
  same_number = ap (λ (u : PassView). u.body.ask.number) is

  next_turn : 2 * suc t.body.front ≡ turn + 2
  next_turn = omega (arith, front_taken, free)

  next_front : w.body.front ≡ suc t.body.front → w.body.front ≡ (turn + 2) / 2
  next_front more = omega (arith, front_taken, more)

  pub held_tried : (answer : Attempt) → HasHeld t w answer → HasTried v w answer
  held_tried (Done reply) held = (
    held.0 ∙ (λ i. answered reply w.body.front (ap (λ (u : PassView). u.body) is i)),
    same_front (omega (arith, held.1)),
    held.2 ∙ ap (λ (u : PassView). u.met) is,
    had_turn turn (had (Row v.body.ask.number ∷ Turn (turn + 2) ∷ []) (held.3 ∙ (λ i. t.notes ++ Row (same_number i) ∷ Turn (next_turn i) ∷ []))) (next_front held.1) (serves held.4),
  )
    where
      serves : Serves t.looked t w → Serves [] v w
      serves (inl settles) = inl (settles.0 ∙ ap (λ (u : PassView). u.looked) is, settles.1 ∙ same_served)
      serves (inr own) = inr (combined_as same_served own)
  held_tried (Busy from to) held = (
    record {
      body = held.0.body ∙ ap (λ (u : PassView). record u.body { stage = Looking; front = w.body.front }) is;
      front = same_front held.0.front;
    },
    held.1 ∙ ap (λ (u : PassView). u.met) is,
    omega (arith, held.2, held.3, held.4),
    held.7 ∙ same_served,
    settled held.5.kept (subst (λ (n : ℕ). HasHadTurn v.body.ask.number n (Row held.5.kept ∷ Turn to ∷ []) w.notes) (sym from_is) (had (Row held.5.kept ∷ Turn to ∷ []) held.5.notes)) (λ e. held.5.lacks (e ∙ sym same_number)) held.4 (held.6 ∙ ap (λ (u : PassView). u.looked) is),
  )
    where
      from_is : from ≡ turn
      from_is = omega (arith, held.3, front_taken, free)
  held_tried (Fault from to) held = (
    record {
      body = held.0.body ∙ ap (λ (u : PassView). record u.body { stage = Looking; front = w.body.front }) is;
      front = same_front held.0.front;
    },
    held.1 ∙ ap (λ (u : PassView). u.met ++ record { ask = u.body.ask; from = from; to = to } ∷ []) is,
    held.3,
    held.5 ∙ same_served,
    record {
      turn = turn;
      had = record { found = found; met = held.4 ∙ notes_taken; lacks = other; free = free };
      front = held.2 ∙ front_taken;
    },
  )

pub same_taken : (v t : PassView) (turn : ℕ) (engine : EngineView) → t ≡ taken turn engine v → IsSamePass v t
same_taken v t turn engine is = record {
  clients = ap (λ (u : PassView). u.clients) is;
  client = ap (λ (u : PassView). u.client) is;
}

module _ {X : Type 0} (seen : X → EngineView) (kind : Kind) where
  -- the holder as it took the turn
  pub now_holds : {turn : ℕ} {old new : Seated X} → HasTaken seen kind turn old new → (the_view old).body.front ≡ round_of_turn turn → turn % 2 ≡ 0 → IsHolding seen kind turn new
  now_holds {turn} {old} {new} has front free = subst (IsHolding seen kind turn) (sym has.is) (record {
    holds = record { value = has.value; is = refl };
    sound = has.sound;
    hand = refl;
    same = refl;
    work = refl;
    own = refl;
    looked = refl;
    clients = has.clients;
    turn_is = sym (ap (λ (n : ℕ). 2 * n) front ∙ even turn free);
  })
    where
      even : (n : ℕ) → n % 2 ≡ 0 → 2 * (n / 2) ≡ n
      even n e = omega (arith, e)

  pub view_taken : {turn : ℕ} {old new : Seated X} → (has : HasTaken seen kind turn old new) → the_view new ≡ taken turn (seen has.value) (the_view old)
  view_taken has = ap (λ (m : Seated X). the_view m) has.is
