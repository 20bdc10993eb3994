-- Settling seals every round that a log told.
use Rattle.std.proofs.Common.{◌≡◌, ℕ, ◌+◌, ◌-◌, ◌<◌, ◌≤◌, Bool, true, false, ◌||◌, ◌==◌, List, [], ◌∷◌, ◌++◌, length, map, take, drop, if◌then◌else◌, ap, subst, sym, refl, ◌∙◌, arith}
use Rattle.std.proofs.lemmas.Bool.Decides.{nat_tests}
use Rattle.std.proofs.lemmas.List.{append_assoc, length-append}
use Rattle.pb_pmem.specs.declared.line.Line.{Line}
use Rattle.pb_pmem.specs.declared.log.LogOp.{LogOp}
use Rattle.pb_pmem.specs.declared.log.LogOp.TheVariants.{Whole, Word, Back, Fence, Sync}
use Rattle.pb_pmem.specs.Contents.{applied, contents}
use Rattle.pb_pmem.specs.Crash.{is_back_of}
use Rattle.pb_object.specs.History.{Round}
use Rattle.pb_object.specs.Standing.{side_count}
use Rattle.pb_layout.specs.LogHistory.{LoggedRound, rounds_in, AreSealed, raises_index, backed_by, sealed_by_sync, recorded_by_op, history_after, history_of}
use Rattle.pb_layout.specs.Exits.{sealed_round}
use Rattle.pb_layout.specs.RegionOps.{settle_ops}
use Rattle.pb_layout.specs.declared.header.Header.{Header}
use Rattle.pb_layout.specs.declared.header.TheConstants.{MAGIC}
use Rattle.pb_layout.proofs.LogHistories.{history_after-none, history_after-first, history_of-push}
use Rattle.pb_layout_laws.proofs.Histories.{SealedAreBacked}

-- Rounds are of side 0 or 1

abbrev pub AreOfTwoSides : List LoggedRound → Type 0
AreOfTwoSides [] = Unit {0}
AreOfTwoSides (logged ∷ rounds) = (logged.round.side < 2) × AreOfTwoSides rounds

two_sides-append : (a b : List LoggedRound) → AreOfTwoSides a → AreOfTwoSides b → AreOfTwoSides (a ++ b)
two_sides-append [] b left right = right
two_sides-append (logged ∷ a) b left right = (left.0, two_sides-append a b left.1 right)

two_sides-backed_by : (first count : ℕ) (rounds : List LoggedRound) → AreOfTwoSides rounds → AreOfTwoSides (map (backed_by first count) rounds)
two_sides-backed_by first count [] h = tt
two_sides-backed_by first count (logged ∷ rounds) h = (h.0, two_sides-backed_by first count rounds h.1)

two_sides-sync : (rounds : List LoggedRound) → AreOfTwoSides rounds → AreOfTwoSides (map sealed_by_sync rounds)
two_sides-sync [] h = tt
two_sides-sync (logged ∷ rounds) h = (h.0, two_sides-sync rounds h.1)

-- an index word stands in line 1 or 2
raises_line : (lines : List Line) (line word to : ℕ) → raises_index lines line word to ≡ true → line - 1 < 2
raises_line lines line word to raises = grind (arith, nat_tests)

two_sides-word : (b : Bool) (rounds : List LoggedRound) (new : LoggedRound) → (b ≡ true → new.round.side < 2) → AreOfTwoSides rounds → AreOfTwoSides (if b then rounds ++ new ∷ [] else rounds)
two_sides-word true rounds new few h = two_sides-append rounds (new ∷ []) h (few refl, tt)
two_sides-word false rounds new few h = h

two_sides-op : (op : LogOp) (lines : List Line) (rounds : List LoggedRound) → AreOfTwoSides rounds → AreOfTwoSides (recorded_by_op op lines rounds)
two_sides-op (Whole line to) lines rounds h = h
two_sides-op (Word line word to) lines rounds h =
    two_sides-word (raises_index lines line word to) rounds _ (raises_line lines line word to) h
two_sides-op (Back first count) lines rounds h = two_sides-backed_by first count rounds h
two_sides-op Fence lines rounds h = h
two_sides-op Sync lines rounds h = two_sides-sync rounds h

history_after-two_sides : (lines : List Line) (rounds : List LoggedRound) (log : List LogOp) → AreOfTwoSides rounds → AreOfTwoSides (history_after lines rounds log)
history_after-two_sides lines rounds [] h = subst AreOfTwoSides (sym (history_after-none lines rounds)) h
history_after-two_sides lines rounds (op ∷ log) h =
    subst AreOfTwoSides (sym (history_after-first lines rounds op log)) (history_after-two_sides (applied op lines) (recorded_by_op op lines rounds) log (two_sides-op op lines rounds h))

-- A `Back` of the first three lines and a sync seal them

index_given : (side : ℕ) (backed : Bool) → side < 2 → (backed || is_back_of (1 + side) (Back 0 3)) ≡ true
index_given side true few = refl
index_given side false few = grind (arith, nat_tests)

sealed_or : (sealed backed : Bool) → backed ≡ true → (sealed || backed) ≡ true
sealed_or true backed e = refl
sealed_or false backed e = e

given_sealed : (rounds : List LoggedRound) → AreOfTwoSides rounds → AreSealed (map sealed_by_sync (map (backed_by 0 3) rounds))
given_sealed [] h = tt
given_sealed (logged ∷ rounds) h =
    (sealed_or logged.sealed (logged.backed || is_back_of (1 + logged.round.side) (Back 0 3)) (index_given logged.round.side logged.backed h.0), given_sealed rounds h.1)

pub sealed_by_given : (base : List Line) (log : List LogOp) (from : ℕ) → from ≤ length log → AreSealed (history_of base (log ++ Back 0 3 ∷ Sync ∷ []) from)
sealed_by_given base log from within =
    subst AreSealed (sym told) (given_sealed (history_of base log from) (history_after-two_sides (contents base (take from log)) [] (drop from log) tt))
  where
    told : history_of base (log ++ Back 0 3 ∷ Sync ∷ []) from ≡ map sealed_by_sync (map (backed_by 0 3) (history_of base log from))
    told =
        ap (λ (l : List LogOp). history_of base l from) (sym (append_assoc log (Back 0 3 ∷ []) (Sync ∷ []))) ∙ (history_of-push base (log ++ Back 0 3 ∷ []) Sync from (omega (arith, length-append log (Back 0 3 ∷ []))) ∙ ap (map sealed_by_sync) (history_of-push base log (Back 0 3) from within))

-- settling ends with these
pub sealed_by_settling : (base : List Line) (log : List LogOp) (head : Header) (first second from : ℕ) → from ≤ length log → AreSealed (history_of base (log ++ settle_ops head first second) from)
sealed_by_settling base log head first second from within =
    subst (λ (l : List LogOp). AreSealed (history_of base l from)) (append_assoc log words (Back 0 3 ∷ Sync ∷ [])) (sealed_by_given base (log ++ words) from (omega (arith, length-append log words)))
  where
    words : List LogOp
    words = Word 0 0 MAGIC ∷ Word 1 0 first ∷ (if side_count head.kind == 2 then Word 2 0 second ∷ [] else [])

-- one sealed round is what a history is that tells it alone
pub sealed_alone : (history : List LoggedRound) (round : Round) → rounds_in history ≡ round ∷ [] → AreSealed history → SealedAreBacked history → history ≡ sealed_round round ∷ []
sealed_alone [] round told sealed backed = cc
sealed_alone (logged ∷ []) round told sealed backed =
    let same : logged.round ≡ round = cc in
    λ i. record { round = same i; backed = backed.0 sealed.0 i; sealed = sealed.0 i } ∷ []
sealed_alone (logged ∷ second ∷ history) round told sealed backed = cc
