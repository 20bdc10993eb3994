-- Lemmas on the rounds of a log that are sealed, and on those that aren't.
use Rattle.std.proofs.Common.{◌≡◌, ℕ, ◌+◌, Bool, true, false, ◌||◌, List, [], ◌∷◌, ◌++◌, length, map, if◌then◌else◌, ap, sym, refl, ◌∙◌}
use Rattle.std.specs.List.{list_any}
use Rattle.std.proofs.Math.Seq.{take-append_seam, drop-append_seam}
use Rattle.std.proofs.lemmas.Bool.{false≢true, or_parts}
use Rattle.std.proofs.lemmas.List.{map-append}
use Rattle.pb_pmem.specs.declared.line.Line.{Line}
use Rattle.pb_pmem.specs.declared.log.LogOp.{LogOp}
use Rattle.pb_pmem.specs.declared.log.LogOp.TheVariants.{Whole, Word, Back, Fence, Sync}
use Rattle.pb_pmem.specs.Contents.{applied, contents}
use Rattle.pb_pmem.specs.Crash.{is_sync, is_back_of}
use Rattle.pb_object.specs.History.{History, after_round, state_after}
use Rattle.pb_object.specs.Standing.{Standing}
use Rattle.pb_layout.specs.LogHistory.{LoggedRound, rounds_in, round_of, AreSealed, AreUnsealed, raises_index, backed_by, sealed_by_sync, recorded_by_op, history_after, history_of}
use Rattle.pb_layout.proofs.LogHistories.{history_after-none, history_after-first}

-- The standing after one history and another

-- the state after two histories, one after the other
pub state_after-append : (s : Standing) (a b : History) → state_after s (a ++ b) ≡ state_after (state_after s a) b
state_after-append s [] b = refl
state_after-append s (round ∷ a) b = state_after-append (after_round s round) a b

-- the rounds alone of two histories of a log
pub rounds_in-append : (a b : List LoggedRound) → rounds_in (a ++ b) ≡ rounds_in a ++ rounds_in b
rounds_in-append a b = map-append round_of a b

-- the same of logged rounds
pub state_after-rounds_in : (s : Standing) (a b : List LoggedRound) → state_after s (rounds_in (a ++ b)) ≡ state_after (state_after s (rounds_in a)) (rounds_in b)
state_after-rounds_in s a b =
    ap (state_after s) (rounds_in-append a b) ∙ state_after-append s (rounds_in a) (rounds_in b)

-- Sealed and unsealed rounds

-- sealed rounds, one after the other
pub AreSealed-append : (a b : List LoggedRound) → AreSealed a → AreSealed b → AreSealed (a ++ b)
AreSealed-append [] b left right = right
AreSealed-append (logged ∷ a) b left right = (left.0, AreSealed-append a b left.1 right)

-- unsealed rounds, one after the other
pub AreUnsealed-append : (a b : List LoggedRound) → AreUnsealed a → AreUnsealed b → AreUnsealed (a ++ b)
AreUnsealed-append [] b left right = right
AreUnsealed-append (logged ∷ a) b left right = (left.0, AreUnsealed-append a b left.1 right)

pub unsealed-backed_by : (first count : ℕ) (rounds : List LoggedRound) → AreUnsealed rounds → AreUnsealed (map (backed_by first count) rounds)
unsealed-backed_by first count [] h = tt
unsealed-backed_by first count (logged ∷ rounds) h = (h.0, unsealed-backed_by first count rounds h.1)

unsealed_word : (b : Bool) (rounds : List LoggedRound) (new : LoggedRound) → new.sealed ≡ false → AreUnsealed rounds → AreUnsealed (if b then rounds ++ new ∷ [] else rounds)
unsealed_word true rounds new none h = AreUnsealed-append rounds (new ∷ []) h (none, tt)
unsealed_word false rounds new none h = h

-- an operation that is no sync seals nothing
pub recorded-unsealed : (op : LogOp) (lines : List Line) (rounds : List LoggedRound) → is_sync op ≡ false → AreUnsealed rounds → AreUnsealed (recorded_by_op op lines rounds)
recorded-unsealed (Whole line to) lines rounds other h = h
recorded-unsealed (Word line word to) lines rounds other h =
    unsealed_word (raises_index lines line word to) rounds _ refl h
recorded-unsealed (Back first count) lines rounds other h = unsealed-backed_by first count rounds h
recorded-unsealed Fence lines rounds other h = h
recorded-unsealed Sync lines rounds other h = absurd (false≢true (sym other))

-- without a sync nothing is sealed
pub history_after-unsealed : (lines : List Line) (rounds : List LoggedRound) (log : List LogOp) → list_any is_sync log ≡ false → AreUnsealed rounds → AreUnsealed (history_after lines rounds log)
history_after-unsealed lines rounds [] none h = rw (history_after-none lines rounds) h
history_after-unsealed lines rounds (op ∷ log) none h =
    let parts = or_parts (is_sync op) (list_any is_sync log) none in
    rw (history_after-first lines rounds op log) (history_after-unsealed (applied op lines) (recorded_by_op op lines rounds) log parts.1 (recorded-unsealed op lines rounds parts.0 h))

-- Sealed rounds are backed

-- each round that is sealed is backed
abbrev pub SealedAreBacked : List LoggedRound → Type 0
SealedAreBacked [] = Unit {0}
SealedAreBacked (logged ∷ rounds) = (logged.sealed ≡ true → logged.backed ≡ true) × SealedAreBacked rounds

backed-append : (a b : List LoggedRound) → SealedAreBacked a → SealedAreBacked b → SealedAreBacked (a ++ b)
backed-append [] b left right = right
backed-append (logged ∷ a) b left right = (left.0, backed-append a b left.1 right)

backed_word : (b : Bool) (rounds : List LoggedRound) (new : LoggedRound) → new.sealed ≡ false → SealedAreBacked rounds → SealedAreBacked (if b then rounds ++ new ∷ [] else rounds)
backed_word true rounds new none h = backed-append rounds (new ∷ []) h ((λ e. absurd (false≢true (sym none ∙ e))), tt)
backed_word false rounds new none h = h

backed_more : (first count : ℕ) (rounds : List LoggedRound) → SealedAreBacked rounds → SealedAreBacked (map (backed_by first count) rounds)
backed_more first count [] h = tt
backed_more first count (logged ∷ rounds) h =
    ((λ e. ap (λ b. b || is_back_of (1 + logged.round.side) (Back first count)) (h.0 e)), backed_more first count rounds h.1)

sealed_or : (s b : Bool) → (s ≡ true → b ≡ true) → (s || b) ≡ true → b ≡ true
sealed_or true b h e = h refl
sealed_or false b h e = e

backed_sync : (rounds : List LoggedRound) → SealedAreBacked rounds → SealedAreBacked (map sealed_by_sync rounds)
backed_sync [] h = tt
backed_sync (logged ∷ rounds) h = (sealed_or logged.sealed logged.backed h.0, backed_sync rounds h.1)

recorded-backed : (op : LogOp) (lines : List Line) (rounds : List LoggedRound) → SealedAreBacked rounds → SealedAreBacked (recorded_by_op op lines rounds)
recorded-backed (Whole line to) lines rounds h = h
recorded-backed (Word line word to) lines rounds h =
    backed_word (raises_index lines line word to) rounds _ refl h
recorded-backed (Back first count) lines rounds h = backed_more first count rounds h
recorded-backed Fence lines rounds h = h
recorded-backed Sync lines rounds h = backed_sync rounds h

-- in a history each sealed round is backed
pub history_after-backed : (lines : List Line) (rounds : List LoggedRound) (log : List LogOp) → SealedAreBacked rounds → SealedAreBacked (history_after lines rounds log)
history_after-backed lines rounds [] h = rw (history_after-none lines rounds) h
history_after-backed lines rounds (op ∷ log) h =
    rw (history_after-first lines rounds op log) (history_after-backed (applied op lines) (recorded_by_op op lines rounds) log (recorded-backed op lines rounds h))

-- The history of one log after another

-- what the second log tells, over what the first one left
pub history_of-second : (base : List Line) (a b : List LogOp) → history_of base (a ++ b) (length a) ≡ history_after (contents base a) [] b
history_of-second base a b = rw (take-append_seam a b, drop-append_seam a b) refl
