-- The history of a log is the one that its places tell.
use Rattle.std.proofs.Common.{◌≡◌, ℕ, zero, suc, ◌+◌, ◌-◌, ◌<◌, ◌≤◌, ◌⊎◌, Bool, true, false, ◌&&◌, ◌||◌, List, [], ◌∷◌, ◌++◌, get_or, map, length, take, drop, Some, option_map, slice_get, Contains, ap, subst, sym, refl, ◌∙◌, inl, inr, arith}
use Rattle.std.proofs.lemmas.Bool.{cases_Bool, cases_lt, and_parts, and_from, or_cases, or_left, or_right, false≢true}
use Rattle.std.proofs.lemmas.Bool.Decides.{nat_tests}
use Rattle.std.proofs.lemmas.List.{append_assoc, append-nil, length-append, length-map, length-take, take-append-le, take-append-drop, take_all}
use Rattle.std.proofs.lemmas.List.Elements.{Contains-append_left, Contains-push}
use Rattle.std.proofs.lemmas.List.Folds.{map_fixed}
use Rattle.std.proofs.lemmas.Option.{same_Some, slice_get-map, slice_get_within}
use Rattle.pb_pmem.specs.declared.line.Line.{Line}
use Rattle.pb_pmem.specs.declared.log.LogOp.{LogOp}
use Rattle.pb_pmem.specs.declared.log.LogOp.TheVariants.{Whole, Word, Back, Fence, Sync}
use Rattle.pb_pmem.specs.Contents.{contents}
use Rattle.pb_pmem.specs.Crash.{is_sync, is_back_of}
use Rattle.pb_pmem.specs.Lines.{word_of}
use Rattle.pb_object.specs.History.{Round}
use Rattle.pb_layout.specs.LogHistory.{LoggedRound, sides_in, round_at, raises_index, backed_by, sealed_by_sync, recorded_by_op, history_of}
use Rattle.pb_layout.specs.HistoryByPlaces.{IsIndexWord, HasBackAfter, HasSyncAfter, IsRoundAt, TellsByPlaces}
use Rattle.pb_layout.proofs.LogHistories.{history_of-push, history_of-none}

-- The elements of a list with one more after it

get-before : {X : Type 0} (xs : List X) (y : X) (k : ℕ) → k < length xs → slice_get (xs ++ y ∷ []) k ≡ slice_get xs k
get-before [] y k inside = absurd (omega arith)
get-before (x ∷ xs) y zero inside = refl
get-before (x ∷ xs) y (suc k) inside = get-before xs y k (omega arith)

get-last : {X : Type 0} (xs : List X) (y : X) → slice_get (xs ++ y ∷ []) (length xs) ≡ Some y
get-last [] y = refl
get-last (x ∷ xs) y = get-last xs y

get-cases : {X : Type 0} (xs : List X) (y : X) (k : ℕ) (x : X) → slice_get (xs ++ y ∷ []) k ≡ Some x → ((k < length xs) × (slice_get xs k ≡ Some x)) ⊎ ((k ≡ length xs) × (y ≡ x))
get-cases xs y k x at = go (cases_lt k (length xs)) (cases_lt (length xs) k)
  where
    go : (k < length xs) ⊎ (length xs ≤ k) → (length xs < k) ⊎ (k ≤ length xs) → ((k < length xs) × (slice_get xs k ≡ Some x)) ⊎ ((k ≡ length xs) × (y ≡ x))
    go (inl inside) other = inl (inside, sym (get-before xs y k inside) ∙ at)
    go (inr past) (inl after) = absurd (omega (arith, after, slice_get_within (xs ++ y ∷ []) k x at, length-append xs (y ∷ [])))
    go (inr past) (inr before) =
        let here : k ≡ length xs = omega arith in
        inr (here, same_Some y x (sym (get-last xs y) ∙ (ap (slice_get (xs ++ y ∷ [])) (sym here) ∙ at)))

get-grown : {X : Type 0} (xs : List X) (y : X) (k : ℕ) (x : X) → slice_get xs k ≡ Some x → slice_get (xs ++ y ∷ []) k ≡ Some x
get-grown xs y k x at = get-before xs y k (slice_get_within xs k x at) ∙ at

get-some : {X : Type 0} (xs : List X) (k : ℕ) → k < length xs → (x : X) × (slice_get xs k ≡ Some x)
get-some [] k inside = absurd (omega arith)
get-some (x ∷ xs) zero inside = (x, refl)
get-some (x ∷ xs) (suc k) inside = get-some xs k (omega arith)

-- What one more operation makes of the rounds

-- a round after one more operation
abbrev pub stepped_by : LogOp → LoggedRound → LoggedRound
stepped_by op logged = record {
  round = logged.round;
  backed = logged.backed || is_back_of (1 + logged.round.side) op;
  sealed = logged.sealed || (is_sync op && logged.backed);
}

same_logged : (a b : LoggedRound) → a.round ≡ b.round → a.backed ≡ b.backed → a.sealed ≡ b.sealed → a ≡ b
same_logged a b round backed sealed = λ i. record { round = round i; backed = backed i; sealed = sealed i }

or-none : (a : Bool) → (a || false) ≡ a
or-none true = refl
or-none false = refl

stepped-still : (op : LogOp) (rounds : List LoggedRound) → ((line : ℕ) → is_back_of line op ≡ false) → is_sync op ≡ false → map (stepped_by op) rounds ≡ rounds
stepped-still op rounds no_back no_sync = map_fixed (stepped_by op) rounds (λ k d inside. still (get_or rounds k d))
  where
    still : (logged : LoggedRound) → stepped_by op logged ≡ logged
    still logged = same_logged (stepped_by op logged) logged refl (rw (no_back (1 + logged.round.side)) (or-none logged.backed)) (rw no_sync (or-none logged.sealed))

map-same : {X Y : Type 0} (f g : X → Y) (xs : List X) → ((x : X) → f x ≡ g x) → map f xs ≡ map g xs
map-same f g [] same = refl
map-same f g (x ∷ xs) same = rw (same x) (ap (λ l. g x ∷ l) (map-same f g xs same))

-- the round of an index word
abbrev pub new_round : List Line → ℕ → ℕ → LoggedRound
new_round lines line to = record { round = round_at lines (line - 1) to; backed = false; sealed = false }

-- the operation is an index word that raises its side's round number
abbrev pub raises_by : List Line → LogOp → Bool
raises_by lines (Whole line to) = false
raises_by lines (Word line word to) = raises_index lines line word to
raises_by lines (Back first count) = false
raises_by lines Fence = false
raises_by lines Sync = false

-- an operation that isn't an index word adds no round
pub recorded-still : (op : LogOp) (lines : List Line) (rounds : List LoggedRound) → raises_by lines op ≡ false → recorded_by_op op lines rounds ≡ map (stepped_by op) rounds
recorded-still (Whole line to) lines rounds other = sym (stepped-still (Whole line to) rounds (λ l. refl) refl)
recorded-still (Word line word to) lines rounds other =
    rw (other, stepped-still (Word line word to) rounds (λ l. refl) refl) refl
recorded-still (Back first count) lines rounds other = map-same (backed_by first count) (stepped_by (Back first count)) rounds (λ logged. same_logged _ _ refl refl (sym (or-none logged.sealed)))
recorded-still Fence lines rounds other = sym (stepped-still Fence rounds (λ l. refl) refl)
recorded-still Sync lines rounds other = map-same sealed_by_sync (stepped_by Sync) rounds (λ logged. same_logged _ _ refl (sym (or-none logged.backed)) refl)

-- and an index word adds its round
pub recorded-more : (line word to : ℕ) (lines : List Line) (rounds : List LoggedRound) → raises_index lines line word to ≡ true → recorded_by_op (Word line word to) lines rounds ≡ map (stepped_by (Word line word to)) rounds ++ new_round lines line to ∷ []
recorded-more line word to lines rounds raises =
    rw (raises, stepped-still (Word line word to) rounds (λ l. refl) refl) refl

-- what the test of an index word says
raises-says : (lines : List Line) (line word to : ℕ) → raises_index lines line word to ≡ true → (1 ≤ line) × (line ≤ sides_in lines) × (word ≡ 0) × (to ≡ word_of lines line 0 + 1)
raises-says lines line word to raises = (grind (arith, nat_tests), grind (arith, nat_tests), grind (arith, nat_tests), grind (arith, nat_tests))

raises-since : (lines : List Line) (side to : ℕ) → side < sides_in lines → to ≡ word_of lines (1 + side) 0 + 1 → raises_index lines (1 + side) 0 to ≡ true
raises-since lines side to here raises = grind (arith, nat_tests)

-- A place after one more operation

-- an index word stands where it stood
IsIndexWord-push : (base : List Line) (log : List LogOp) (op : LogOp) (place side index : ℕ) → IsIndexWord base log place side index → IsIndexWord base (log ++ op ∷ []) place side index
IsIndexWord-push base log op place side index h =
    let within = slice_get_within log place _ h.word in
    record {
      here = rw (take-append-le place log (op ∷ []) (omega (arith, within))) h.here;
      word = get-grown log op place _ h.word;
      raises = rw (take-append-le place log (op ∷ []) (omega (arith, within))) h.raises;
    }

-- and is one of before, or the new operation
IsIndexWord-cases : (base : List Line) (log : List LogOp) (op : LogOp) (place side index : ℕ) → IsIndexWord base (log ++ op ∷ []) place side index → IsIndexWord base log place side index ⊎ ((place ≡ length log) × (op ≡ Word (1 + side) 0 index) × (raises_index (contents base log) (1 + side) 0 index ≡ true))
IsIndexWord-cases base log op place side index h = go (get-cases log op place (Word (1 + side) 0 index) h.word)
  where
    here_before : place ≤ length log → side < sides_in (contents base (take place log))
    here_before le = rw (take-append-le place log (op ∷ []) le) at h.here

    before : place ≤ length log → index ≡ word_of (contents base (take place log)) (1 + side) 0 + 1
    before le = rw (take-append-le place log (op ∷ []) le) at h.raises

    go : ((place < length log) × (slice_get log place ≡ Some (Word (1 + side) 0 index))) ⊎ ((place ≡ length log) × (op ≡ Word (1 + side) 0 index)) → IsIndexWord base log place side index ⊎ ((place ≡ length log) × (op ≡ Word (1 + side) 0 index) × (raises_index (contents base log) (1 + side) 0 index ≡ true))
    go (inl (inside, at)) = inl (record { here = here_before (omega arith); word = at; raises = before (omega arith) })
    go (inr (place_is, same)) = inr (place_is, same, raises-since (contents base log) side index (rw (place_is, take_all (length log) log (omega arith)) at here_before (omega arith)) (rw (place_is, take_all (length log) log (omega arith)) at before (omega arith)))

HasBackAfter-push : (log : List LogOp) (op : LogOp) (line place : ℕ) → HasBackAfter log line place → HasBackAfter (log ++ op ∷ []) line place
HasBackAfter-push log op line place h =
    record { back = h.back; op = h.op; after = h.after; at = get-grown log op h.back h.op h.at; covers = h.covers }

HasBackAfter-last : (log : List LogOp) (op : LogOp) (line place : ℕ) → place < length log → is_back_of line op ≡ true → HasBackAfter (log ++ op ∷ []) line place
HasBackAfter-last log op line place inside covers =
    record { back = length log; op = op; after = inside; at = get-last log op; covers = covers }

HasBackAfter-cases : (log : List LogOp) (op : LogOp) (line place : ℕ) → HasBackAfter (log ++ op ∷ []) line place → HasBackAfter log line place ⊎ (is_back_of line op ≡ true)
HasBackAfter-cases log op line place h = go (get-cases log op h.back h.op h.at)
  where
    go : ((h.back < length log) × (slice_get log h.back ≡ Some h.op)) ⊎ ((h.back ≡ length log) × (op ≡ h.op)) → HasBackAfter log line place ⊎ (is_back_of line op ≡ true)
    go (inl (inside, at)) = inl (record { back = h.back; op = h.op; after = h.after; at = at; covers = h.covers })
    go (inr (last, same)) = inr (ap (is_back_of line) same ∙ h.covers)

HasSyncAfter-push : (log : List LogOp) (op : LogOp) (line place : ℕ) → HasSyncAfter log line place → HasSyncAfter (log ++ op ∷ []) line place
unfolding HasBackAfter-push
HasSyncAfter-push log op line place h =
    record { given = HasBackAfter-push log op line place h.given; sync = h.sync; later = h.later; waits = get-grown log op h.sync Sync h.waits }

HasSyncAfter-last : (log : List LogOp) (op : LogOp) (line place : ℕ) → HasBackAfter log line place → op ≡ Sync → HasSyncAfter (log ++ op ∷ []) line place
unfolding HasBackAfter-push
HasSyncAfter-last log op line place h sync =
    record { given = HasBackAfter-push log op line place h; sync = length log; later = slice_get_within log h.back h.op h.at; waits = get-last log op ∙ ap Some sync }

HasSyncAfter-cases : (log : List LogOp) (op : LogOp) (line place : ℕ) → HasSyncAfter (log ++ op ∷ []) line place → HasSyncAfter log line place ⊎ (HasBackAfter log line place × (op ≡ Sync))
HasSyncAfter-cases log op line place h = go (get-cases log op h.given.back h.given.op h.given.at) (get-cases log op h.sync Sync h.waits)
  where
    before : h.given.back < length log → slice_get log h.given.back ≡ Some h.given.op → HasBackAfter log line place
    before inside at = record { back = h.given.back; op = h.given.op; after = h.given.after; at = at; covers = h.given.covers }

    go : ((h.given.back < length log) × (slice_get log h.given.back ≡ Some h.given.op)) ⊎ ((h.given.back ≡ length log) × (op ≡ h.given.op)) → ((h.sync < length log) × (slice_get log h.sync ≡ Some Sync)) ⊎ ((h.sync ≡ length log) × (op ≡ Sync)) → HasSyncAfter log line place ⊎ (HasBackAfter log line place × (op ≡ Sync))
    go (inl (inside, at)) (inl (within, waits)) =
        inl (record { given = before inside at; sync = h.sync; later = h.later; waits = waits })
    go (inl (inside, at)) (inr (last, sync)) = inr (before inside at, sync)
    go (inr (last, same)) (inl (within, waits)) = absurd (omega (arith, h.later))
    go (inr (last, same)) (inr (also, sync)) = absurd (omega (arith, h.later))

is-sync : (op : LogOp) → is_sync op ≡ true → op ≡ Sync
is-sync (Whole line to) e = cc
is-sync (Word line word to) e = cc
is-sync (Back first count) e = cc
is-sync Fence e = cc
is-sync Sync e = refl

-- A round after one more operation

IsRoundAt-push : (base : List Line) (log : List LogOp) (op : LogOp) (place : ℕ) (logged : LoggedRound) → IsRoundAt base log place logged → IsRoundAt base (log ++ op ∷ []) place (stepped_by op logged)
IsRoundAt-push base log op place logged h =
    record {
      side = h.side;
      index = h.index;
      word = IsIndexWord-push base log op place h.side h.index h.word;
      round = rw (take-append-le place log (op ∷ []) (omega (arith, inside))) h.round;
      backed = (to_back, from_back);
      sealed = (to_sync, from_sync);
    }
  where
    inside : place < length log
    inside = slice_get_within log place _ h.word.word

    same_side : logged.round.side ≡ h.side
    same_side = ap (λ (r : Round). r.side) h.round

    same_back : is_back_of (1 + logged.round.side) op ≡ is_back_of (1 + h.side) op
    same_back = ap (λ n. is_back_of (1 + n) op) same_side

    to_back : (logged.backed || is_back_of (1 + logged.round.side) op) ≡ true → HasBackAfter (log ++ op ∷ []) (1 + h.side) place
    to_back e = go (or_cases logged.backed (is_back_of (1 + logged.round.side) op) e)
      where
        go : (logged.backed ≡ true) ⊎ (is_back_of (1 + logged.round.side) op ≡ true) → HasBackAfter (log ++ op ∷ []) (1 + h.side) place
        go (inl before) = HasBackAfter-push log op (1 + h.side) place (h.backed.0 before)
        go (inr here) = HasBackAfter-last log op (1 + h.side) place inside (sym same_back ∙ here)

    from_back : HasBackAfter (log ++ op ∷ []) (1 + h.side) place → (logged.backed || is_back_of (1 + logged.round.side) op) ≡ true
    from_back b = go (HasBackAfter-cases log op (1 + h.side) place b)
      where
        go : HasBackAfter log (1 + h.side) place ⊎ (is_back_of (1 + h.side) op ≡ true) → (logged.backed || is_back_of (1 + logged.round.side) op) ≡ true
        go (inl before) = or_left logged.backed _ (h.backed.1 before)
        go (inr here) = or_right logged.backed _ (same_back ∙ here)

    to_sync : (logged.sealed || (is_sync op && logged.backed)) ≡ true → HasSyncAfter (log ++ op ∷ []) (1 + h.side) place
    to_sync e = go (or_cases logged.sealed (is_sync op && logged.backed) e)
      where
        go : (logged.sealed ≡ true) ⊎ ((is_sync op && logged.backed) ≡ true) → HasSyncAfter (log ++ op ∷ []) (1 + h.side) place
        go (inl before) = HasSyncAfter-push log op (1 + h.side) place (h.sealed.0 before)
        go (inr here) =
            let both = and_parts (is_sync op) logged.backed here in
            HasSyncAfter-last log op (1 + h.side) place (h.backed.0 both.1) (is-sync op both.0)

    from_sync : HasSyncAfter (log ++ op ∷ []) (1 + h.side) place → (logged.sealed || (is_sync op && logged.backed)) ≡ true
    from_sync b = go (HasSyncAfter-cases log op (1 + h.side) place b)
      where
        go : HasSyncAfter log (1 + h.side) place ⊎ (HasBackAfter log (1 + h.side) place × (op ≡ Sync)) → (logged.sealed || (is_sync op && logged.backed)) ≡ true
        go (inl before) = or_left logged.sealed _ (h.sealed.1 before)
        go (inr (back, sync)) =
            or_right logged.sealed _ (and_from (is_sync op) logged.backed (ap is_sync sync) (h.backed.1 back))

-- the round of the new operation
IsRoundAt-new : (base : List Line) (log : List LogOp) (line word to : ℕ) → raises_index (contents base log) line word to ≡ true → IsRoundAt base (log ++ Word line word to ∷ []) (length log) (new_round (contents base log) line to)
IsRoundAt-new base log line word to raises =
    record {
      side = line - 1;
      index = to;
      word = record {
        here = subst (λ (l : List LogOp). line - 1 < sides_in (contents base l)) (sym all) (omega (arith, says.0, says.1));
        word = get-last log (Word line word to) ∙ ap Some same_word;
        raises = rw (all, back) says.3;
      };
      round = rw all refl;
      backed = ((λ e. absurd (false≢true e)), (λ h. absurd (past h.back h.op h.after h.at)));
      sealed = ((λ e. absurd (false≢true e)), (λ h. absurd (past h.given.back h.given.op h.given.after h.given.at)));
    }
  where
    says : (1 ≤ line) × (line ≤ sides_in (contents base log)) × (word ≡ 0) × (to ≡ word_of (contents base log) line 0 + 1)
    says = raises-says (contents base log) line word to raises

    back : 1 + (line - 1) ≡ line
    back = omega (arith, says.0)

    same_word : Word line word to ≡ Word (1 + (line - 1)) 0 to
    same_word = rw (back, says.2) refl

    all : take (length log) (log ++ Word line word to ∷ []) ≡ log
    all = take-append-le (length log) log (Word line word to ∷ []) (omega arith) ∙ take_all (length log) log (omega arith)

    past : (k : ℕ) (op : LogOp) → length log < k → slice_get (log ++ Word line word to ∷ []) k ≡ Some op → ⊥
    past k op after at =
        omega (arith, slice_get_within (log ++ Word line word to ∷ []) k op at, length-append log (Word line word to ∷ []), after)

-- The history after one more operation

-- the place of each round stands in the log
place-within : (base : List Line) (log : List LogOp) (from : ℕ) (history : List LoggedRound) (told : TellsByPlaces base log from history) (k place : ℕ) → slice_get told.places k ≡ Some place → place < length log
place-within base log from history told k place at =
    let some = get-some history k (omega (arith, told.as_many, slice_get_within told.places k place at)) in
    slice_get_within log place _ (told.rounds k place some.0 at some.1).1.word.word

-- the rounds of before
rounds-before : (base : List Line) (log : List LogOp) (from : ℕ) (history : List LoggedRound) (op : LogOp) (told : TellsByPlaces base log from history) (k place : ℕ) (logged : LoggedRound) → slice_get told.places k ≡ Some place → slice_get (map (stepped_by op) history) k ≡ Some logged → (from ≤ place) × IsRoundAt base (log ++ op ∷ []) place logged
rounds-before base log from history op told k place logged at_place at_round =
    let some = get-some history k (omega (arith, told.as_many, slice_get_within told.places k place at_place)) in
    let same : stepped_by op some.0 ≡ logged = same_Some (stepped_by op some.0) logged (sym (slice_get-map (stepped_by op) history k ∙ ap (option_map (stepped_by op)) some.1) ∙ at_round) in
    let before = told.rounds k place some.0 at_place some.1 in
    (before.0, subst (λ l. IsRoundAt base (log ++ op ∷ []) place l) same (IsRoundAt-push base log op place some.0 before.1))

-- after an operation that isn't an index word
tells-still : (base : List Line) (log : List LogOp) (from : ℕ) (history : List LoggedRound) (op : LogOp) → TellsByPlaces base log from history → raises_by (contents base log) op ≡ false → TellsByPlaces base (log ++ op ∷ []) from (map (stepped_by op) history)
tells-still base log from history op told other =
    record {
      places = told.places;
      as_many = told.as_many ∙ sym (length-map history (stepped_by op));
      rising = told.rising;
      rounds = rounds-before base log from history op told;
      all = λ place side index within word. elim (IsIndexWord-cases base log op place side index word) [
        | inl before ↦ told.all place side index within before
        | inr here ↦ absurd (false≢true (sym other ∙ (ap (raises_by (contents base log)) here.1 ∙ here.2)))
      ];
    }

-- after an index word
tells-more : (base : List Line) (log : List LogOp) (from : ℕ) (history : List LoggedRound) (line word to : ℕ) → from ≤ length log → TellsByPlaces base log from history → raises_index (contents base log) line word to ≡ true → TellsByPlaces base (log ++ Word line word to ∷ []) from (map (stepped_by (Word line word to)) history ++ new_round (contents base log) line to ∷ [])
tells-more base log from history line word to from_here told raises =
    record {
      places = told.places ++ length log ∷ [];
      as_many = omega (arith, told.as_many, length-append told.places (length log ∷ []), length-append (map (stepped_by op) history) (new_round (contents base log) line to ∷ []), length-map history (stepped_by op));
      rising = λ a b first second below at_a at_b. rise a b first second below (get-cases told.places (length log) a first at_a) (get-cases told.places (length log) b second at_b);
      rounds = λ k place logged at_place at_round. rounds k place logged (get-cases told.places (length log) k place at_place) (get-cases (map (stepped_by op) history) (new_round (contents base log) line to) k logged at_round);
      all = λ place side index within is. elim (IsIndexWord-cases base log op place side index is) [
        | inl before ↦ Contains-append_left told.places (length log ∷ []) place (told.all place side index within before)
        | inr here ↦ subst (λ n. Contains (told.places ++ length log ∷ []) n) (sym here.0) (Contains-push told.places (length log))
      ];
    }
  where
    op : LogOp
    op = Word line word to

    as_many : length told.places ≡ length (map (stepped_by op) history)
    as_many = told.as_many ∙ sym (length-map history (stepped_by op))

    rise : (a b first second : ℕ) → a < b → ((a < length told.places) × (slice_get told.places a ≡ Some first)) ⊎ ((a ≡ length told.places) × (length log ≡ first)) → ((b < length told.places) × (slice_get told.places b ≡ Some second)) ⊎ ((b ≡ length told.places) × (length log ≡ second)) → first < second
    rise a b first second below (inl (inside, at_a)) (inl (within, at_b)) = told.rising a b first second below at_a at_b
    rise a b first second below (inl (inside, at_a)) (inr (last, here)) =
        subst (λ n. first < n) here (place-within base log from history told a first at_a)
    rise a b first second below (inr (last, here)) (inl (within, at_b)) = absurd (omega (arith, last, within, below))
    rise a b first second below (inr (last, here)) (inr (also, there)) = absurd (omega (arith, last, also, below))

    rounds : (k place : ℕ) (logged : LoggedRound) → ((k < length told.places) × (slice_get told.places k ≡ Some place)) ⊎ ((k ≡ length told.places) × (length log ≡ place)) → ((k < length (map (stepped_by op) history)) × (slice_get (map (stepped_by op) history) k ≡ Some logged)) ⊎ ((k ≡ length (map (stepped_by op) history)) × (new_round (contents base log) line to ≡ logged)) → (from ≤ place) × IsRoundAt base (log ++ op ∷ []) place logged
    rounds k place logged (inl (inside, at_place)) (inl (within, at_round)) =
        rounds-before base log from history op told k place logged at_place at_round
    rounds k place logged (inl (inside, at_place)) (inr (last, new)) = absurd (omega (arith, as_many, inside, last))
    rounds k place logged (inr (last, here)) (inl (within, at_round)) = absurd (omega (arith, as_many, last, within))
    rounds k place logged (inr (last, here)) (inr (also, new)) =
        (omega (arith, from_here, here), subst (λ n. IsRoundAt base (log ++ op ∷ []) n logged) here (subst (λ l. IsRoundAt base (log ++ op ∷ []) (length log) l) new (IsRoundAt-new base log line word to raises)))

-- the history after one more operation is the one that its places tell
tells-push : (base : List Line) (log : List LogOp) (from : ℕ) (history : List LoggedRound) (op : LogOp) → from ≤ length log → TellsByPlaces base log from history → TellsByPlaces base (log ++ op ∷ []) from (recorded_by_op op (contents base log) history)
tells-push base log from history op within told = go op (cases_Bool (raises_by (contents base log) op))
  where
    go : (op : LogOp) → (raises_by (contents base log) op ≡ true) ⊎ (raises_by (contents base log) op ≡ false) → TellsByPlaces base (log ++ op ∷ []) from (recorded_by_op op (contents base log) history)
    go op (inr other) =
        rw (recorded-still op (contents base log) history other) (tells-still base log from history op told other)
    go (Whole line to) (inl raises) = absurd (false≢true raises)
    go (Word line word to) (inl raises) =
        subst (λ h. TellsByPlaces base (log ++ Word line word to ∷ []) from h) (sym (recorded-more line word to (contents base log) history raises)) (tells-more base log from history line word to within told raises)
    go (Back first count) (inl raises) = absurd (false≢true raises)
    go Fence (inl raises) = absurd (false≢true raises)
    go Sync (inl raises) = absurd (false≢true raises)

-- before any operation since
tells-none : (base : List Line) (log : List LogOp) → TellsByPlaces base log (length log) []
tells-none base log =
    record {
      places = [];
      as_many = refl;
      rising = λ a b first second below at_a at_b. absurd (cc);
      rounds = λ k place logged at_place at_round. absurd (cc);
      all = λ place side index within is. absurd (omega (arith, within, slice_get_within log place _ is.word));
    }

-- a history that its places tell goes on to be told by them
tells-append : (base : List Line) (log more : List LogOp) (from : ℕ) → from ≤ length log → TellsByPlaces base log from (history_of base log from) → TellsByPlaces base (log ++ more) from (history_of base (log ++ more) from)
tells-append base log [] from within told =
    subst (λ l. TellsByPlaces base l from (history_of base l from)) (sym (append-nil log)) told
tells-append base log (op ∷ more) from within told =
    subst (λ l. TellsByPlaces base l from (history_of base l from)) (append_assoc log (op ∷ []) more) (tells-append base (log ++ op ∷ []) more from (omega (arith, within, length-append log (op ∷ []))) (subst (λ h. TellsByPlaces base (log ++ op ∷ []) from h) (sym (history_of-push base log op from within)) (tells-push base log from (history_of base log from) op within told)))

-- the history of a log is the one that its places tell
pub history_by_places : (base : List Line) (log : List LogOp) (from : ℕ) → from ≤ length log → TellsByPlaces base log from (history_of base log from)
history_by_places base log from within =
    subst (λ l. TellsByPlaces base l from (history_of base l from)) (take-append-drop from log) (tells-append base (take from log) (drop from log) from (omega (arith, long)) prefix)
  where
    long : length (take from log) ≡ from
    long = omega (arith, length-take from log)

    prefix : TellsByPlaces base (take from log) from (history_of base (take from log) from)
    prefix =
        subst (λ n. TellsByPlaces base (take from log) n (history_of base (take from log) n)) long (subst (λ h. TellsByPlaces base (take from log) (length (take from log)) h) (sym (history_of-none base (take from log))) (tells-none base (take from log)))
