-- Rounds that a log told, while it grows: they stay, and more is known of each of them.
use Rattle.std.proofs.Common.{◌≡◌, ℕ, ◌+◌, ◌≤◌, Bool, true, false, ◌||◌, List, [], ◌∷◌, ◌++◌, length, map, take, drop, if◌then◌else◌, ap, subst, sym, refl, ◌∙◌, arith}
use Rattle.std.specs.List.{list_any}
use Rattle.std.proofs.lemmas.Bool.{false≢true, or_parts}
use Rattle.std.proofs.lemmas.List.{map-append, append_assoc, append-nil, take-append-le, drop-append-le, take-append-drop, length-take-le, length-map}
use Rattle.pb_pmem.specs.declared.line.Line.{Line}
use Rattle.pb_pmem.specs.declared.log.LogOp.{LogOp}
use Rattle.pb_pmem.specs.declared.log.LogOp.TheVariants.{Whole, Word, Back, Fence, Sync}
use Rattle.pb_pmem.specs.Contents.{applied, contents}
use Rattle.pb_pmem.specs.Crash.{is_sync, is_back_of}
use Rattle.pb_pmem.proofs.Lines.{contents-append}
use Rattle.pb_object.specs.History.{History}
use Rattle.pb_layout.specs.LogHistory.{LoggedRound, rounds_in, AreSealed, AreUnsealed, raises_index, backed_by, sealed_by_sync, recorded_by_op, history_after, history_of}
use Rattle.pb_layout.proofs.LogHistories.{history_after-none, history_after-first, history_after-append}
use Rattle.pb_layout_laws.proofs.Histories.{SealedAreBacked, rounds_in-append, history_after-backed, history_of-second, unsealed-backed_by}

-- what is known of rounds after one more operation
abbrev pub flagged_op : LogOp → List LoggedRound → List LoggedRound
flagged_op (Whole line to) rounds = rounds
flagged_op (Word line word to) rounds = rounds
flagged_op (Back first count) rounds = map (backed_by first count) rounds
flagged_op Fence rounds = rounds
flagged_op Sync rounds = map sealed_by_sync rounds

-- .. and after a log
unfoldable pub flagged : List LogOp → List LoggedRound → List LoggedRound
flagged [] rounds = rounds
flagged (op ∷ log) rounds = flagged log (flagged_op op rounds)

pub flagged-none : (rounds : List LoggedRound) → flagged [] rounds ≡ rounds
unfolding flagged
flagged-none rounds = refl

pub flagged-first : (op : LogOp) (log : List LogOp) (rounds : List LoggedRound) → flagged (op ∷ log) rounds ≡ flagged log (flagged_op op rounds)
unfolding flagged
flagged-first op log rounds = refl

-- The rounds stay

rounds-backed_by : (first count : ℕ) (rounds : List LoggedRound) → rounds_in (map (backed_by first count) rounds) ≡ rounds_in rounds
rounds-backed_by first count [] = refl
rounds-backed_by first count (logged ∷ rounds) = ap (λ (h : History). logged.round ∷ h) (rounds-backed_by first count rounds)

rounds-sealed_by_sync : (rounds : List LoggedRound) → rounds_in (map sealed_by_sync rounds) ≡ rounds_in rounds
rounds-sealed_by_sync [] = refl
rounds-sealed_by_sync (logged ∷ rounds) = ap (λ (h : History). logged.round ∷ h) (rounds-sealed_by_sync rounds)

rounds-flagged_op : (op : LogOp) (rounds : List LoggedRound) → rounds_in (flagged_op op rounds) ≡ rounds_in rounds
rounds-flagged_op (Whole line to) rounds = refl
rounds-flagged_op (Word line word to) rounds = refl
rounds-flagged_op (Back first count) rounds = rounds-backed_by first count rounds
rounds-flagged_op Fence rounds = refl
rounds-flagged_op Sync rounds = rounds-sealed_by_sync rounds

pub rounds_in-flagged : (log : List LogOp) (rounds : List LoggedRound) → rounds_in (flagged log rounds) ≡ rounds_in rounds
rounds_in-flagged [] rounds = ap rounds_in (flagged-none rounds)
rounds_in-flagged (op ∷ log) rounds =
    ap rounds_in (flagged-first op log rounds) ∙ (rounds_in-flagged log (flagged_op op rounds) ∙ rounds-flagged_op op rounds)

flagged_op-append : (op : LogOp) (a b : List LoggedRound) → flagged_op op (a ++ b) ≡ flagged_op op a ++ flagged_op op b
flagged_op-append (Whole line to) a b = refl
flagged_op-append (Word line word to) a b = refl
flagged_op-append (Back first count) a b = map-append (backed_by first count) a b
flagged_op-append Fence a b = refl
flagged_op-append Sync a b = map-append sealed_by_sync a b

pub flagged-append : (log : List LogOp) (a b : List LoggedRound) → flagged log (a ++ b) ≡ flagged log a ++ flagged log b
flagged-append [] a b = rw (flagged-none (a ++ b), flagged-none a, flagged-none b) refl
flagged-append (op ∷ log) a b =
    rw (flagged-first op log (a ++ b), flagged-first op log a, flagged-first op log b, flagged_op-append op a b) (flagged-append log (flagged_op op a) (flagged_op op b))

-- What is known stays known

or_left : (a b : Bool) → a ≡ true → (a || b) ≡ true
or_left a b e = ap (λ (x : Bool). x || b) e

sealed-backed_by : (first count : ℕ) (rounds : List LoggedRound) → AreSealed rounds → AreSealed (map (backed_by first count) rounds)
sealed-backed_by first count [] h = tt
sealed-backed_by first count (logged ∷ rounds) h = (h.0, sealed-backed_by first count rounds h.1)

sealed-sync : (rounds : List LoggedRound) → AreSealed rounds → AreSealed (map sealed_by_sync rounds)
sealed-sync [] h = tt
sealed-sync (logged ∷ rounds) h = (or_left logged.sealed logged.backed h.0, sealed-sync rounds h.1)

sealed-flagged_op : (op : LogOp) (rounds : List LoggedRound) → AreSealed rounds → AreSealed (flagged_op op rounds)
sealed-flagged_op (Whole line to) rounds h = h
sealed-flagged_op (Word line word to) rounds h = h
sealed-flagged_op (Back first count) rounds h = sealed-backed_by first count rounds h
sealed-flagged_op Fence rounds h = h
sealed-flagged_op Sync rounds h = sealed-sync rounds h

-- sealed rounds stay sealed
pub flagged-sealed : (log : List LogOp) (rounds : List LoggedRound) → AreSealed rounds → AreSealed (flagged log rounds)
flagged-sealed [] rounds h = subst AreSealed (sym (flagged-none rounds)) h
flagged-sealed (op ∷ log) rounds h =
    subst AreSealed (sym (flagged-first op log rounds)) (flagged-sealed log (flagged_op op rounds) (sealed-flagged_op op rounds h))

unsealed-flagged_op : (op : LogOp) (rounds : List LoggedRound) → is_sync op ≡ false → AreUnsealed rounds → AreUnsealed (flagged_op op rounds)
unsealed-flagged_op (Whole line to) rounds other h = h
unsealed-flagged_op (Word line word to) rounds other h = h
unsealed-flagged_op (Back first count) rounds other h = unsealed-backed_by first count rounds h
unsealed-flagged_op Fence rounds other h = h
unsealed-flagged_op Sync rounds other h = absurd (false≢true (sym other))

-- without a sync unsealed rounds stay unsealed
pub flagged-unsealed : (log : List LogOp) (rounds : List LoggedRound) → list_any is_sync log ≡ false → AreUnsealed rounds → AreUnsealed (flagged log rounds)
flagged-unsealed [] rounds none h = subst AreUnsealed (sym (flagged-none rounds)) h
flagged-unsealed (op ∷ log) rounds none h =
    let parts = or_parts (is_sync op) (list_any is_sync log) none in
    subst AreUnsealed (sym (flagged-first op log rounds)) (flagged-unsealed log (flagged_op op rounds) parts.1 (unsealed-flagged_op op rounds parts.0 h))

length-flagged_op : (op : LogOp) (rounds : List LoggedRound) → length (flagged_op op rounds) ≡ length rounds
length-flagged_op (Whole line to) rounds = refl
length-flagged_op (Word line word to) rounds = refl
length-flagged_op (Back first count) rounds = length-map rounds (backed_by first count)
length-flagged_op Fence rounds = refl
length-flagged_op Sync rounds = length-map rounds sealed_by_sync

pub length-flagged : (log : List LogOp) (rounds : List LoggedRound) → length (flagged log rounds) ≡ length rounds
length-flagged [] rounds = ap length (flagged-none rounds)
length-flagged (op ∷ log) rounds =
    ap length (flagged-first op log rounds) ∙ (length-flagged log (flagged_op op rounds) ∙ length-flagged_op op rounds)

-- The history of a log that grows

keeps_word : (b : Bool) (prefix rounds new : List LoggedRound) → (if b then (prefix ++ rounds) ++ new else prefix ++ rounds) ≡ prefix ++ (if b then rounds ++ new else rounds)
keeps_word true prefix rounds new = append_assoc prefix rounds new
keeps_word false prefix rounds new = refl

recorded-flagged : (op : LogOp) (lines : List Line) (prefix rounds : List LoggedRound) → recorded_by_op op lines (prefix ++ rounds) ≡ flagged_op op prefix ++ recorded_by_op op lines rounds
recorded-flagged (Whole line to) lines prefix rounds = refl
recorded-flagged (Word line word to) lines prefix rounds = keeps_word (raises_index lines line word to) prefix rounds _
recorded-flagged (Back first count) lines prefix rounds = map-append (backed_by first count) prefix rounds
recorded-flagged Fence lines prefix rounds = refl
recorded-flagged Sync lines prefix rounds = map-append sealed_by_sync prefix rounds

-- more is known of the first rounds, and the log tells the rounds that it would tell without them
pub history_after-flagged : (lines : List Line) (prefix rounds : List LoggedRound) (log : List LogOp) → history_after lines (prefix ++ rounds) log ≡ flagged log prefix ++ history_after lines rounds log
history_after-flagged lines prefix rounds [] =
    rw (history_after-none lines (prefix ++ rounds), flagged-none prefix, history_after-none lines rounds) refl
history_after-flagged lines prefix rounds (op ∷ log) =
    rw (history_after-first lines (prefix ++ rounds) op log, flagged-first op log prefix, history_after-first lines rounds op log, recorded-flagged op lines prefix rounds) (history_after-flagged (applied op lines) (flagged_op op prefix) (recorded_by_op op lines rounds) log)

-- the history of one log and another after it
pub history_of-parts : (base : List Line) (a b : List LogOp) (from : ℕ) → from ≤ length a → history_of base (a ++ b) from ≡ flagged b (history_of base a from) ++ history_of base (a ++ b) (length a)
history_of-parts base a b from within =
    cut ∙ (history_after-append (contents base (take from a)) [] (drop from a) b ∙ (over ∙ (history_after-flagged (contents base a) (history_of base a from) [] b ∙ ap (λ (l : List LoggedRound). flagged b (history_of base a from) ++ l) (sym (history_of-second base a b)))))
  where
    cut : history_of base (a ++ b) from ≡ history_after (contents base (take from a)) [] (drop from a ++ b)
    cut = rw (take-append-le from a b within, drop-append-le from a b within) refl

    over : history_after (contents (contents base (take from a)) (drop from a)) (history_of base a from) b ≡ history_after (contents base a) (history_of base a from ++ []) b
    over =
        (λ i. history_after ((sym (contents-append base (take from a) (drop from a)) ∙ ap (contents base) (take-append-drop from a)) i) (sym (append-nil (history_of base a from)) i) b)

-- and the rounds alone
pub rounds_of-parts : (base : List Line) (a b : List LogOp) (from : ℕ) → from ≤ length a → rounds_in (history_of base (a ++ b) from) ≡ rounds_in (history_of base a from) ++ rounds_in (history_of base (a ++ b) (length a))
rounds_of-parts base a b from within =
    ap rounds_in (history_of-parts base a b from within) ∙ (rounds_in-append (flagged b (history_of base a from)) (history_of base (a ++ b) (length a)) ∙ ap (λ (h : History). h ++ rounds_in (history_of base (a ++ b) (length a))) (rounds_in-flagged b (history_of base a from)))

-- the same of one log that is cut at a moment
pub rounds_of-compose : (base : List Line) (log : List LogOp) (from middle : ℕ) → from ≤ middle → middle ≤ length log → rounds_in (history_of base log from) ≡ rounds_in (history_of base (take middle log) from) ++ rounds_in (history_of base log middle)
rounds_of-compose base log from middle low inside =
    let a = take middle log in
    let b = drop middle log in
    let whole : a ++ b ≡ log = take-append-drop middle log in
    let long : length a ≡ middle = length-take-le middle log inside in
    ap (λ (l : List LogOp). rounds_in (history_of base l from)) (sym whole) ∙ (rounds_of-parts base a b from (omega (arith, long)) ∙ (λ i. rounds_in (history_of base a from) ++ rounds_in (history_of base (whole i) (long i))))

-- Rounds that are sealed stay as they are

keeps_by : (first count : ℕ) (prefix : List LoggedRound) → AreSealed prefix → SealedAreBacked prefix → map (backed_by first count) prefix ≡ prefix
keeps_by first count [] sealed backed = refl
keeps_by first count (logged ∷ prefix) sealed backed =
    let marked : logged.backed ≡ true = backed.0 sealed.0 in
    let same : (logged.backed || is_back_of (1 + logged.round.side) (Back first count)) ≡ logged.backed = rw marked refl in
    let rest = keeps_by first count prefix sealed.1 backed.1 in
    λ i. record { round = logged.round; backed = same i; sealed = logged.sealed } ∷ rest i

keeps_sync : (prefix : List LoggedRound) → AreSealed prefix → map sealed_by_sync prefix ≡ prefix
keeps_sync [] sealed = refl
keeps_sync (logged ∷ prefix) sealed =
    let same : (logged.sealed || logged.backed) ≡ logged.sealed = rw (sealed.0) refl in
    let rest = keeps_sync prefix sealed.1 in
    λ i. record { round = logged.round; backed = logged.backed; sealed = same i } ∷ rest i

flagged_op-same : (op : LogOp) (rounds : List LoggedRound) → AreSealed rounds → SealedAreBacked rounds → flagged_op op rounds ≡ rounds
flagged_op-same (Whole line to) rounds sealed backed = refl
flagged_op-same (Word line word to) rounds sealed backed = refl
flagged_op-same (Back first count) rounds sealed backed = keeps_by first count rounds sealed backed
flagged_op-same Fence rounds sealed backed = refl
flagged_op-same Sync rounds sealed backed = keeps_sync rounds sealed

flagged-same : (log : List LogOp) (rounds : List LoggedRound) → AreSealed rounds → SealedAreBacked rounds → flagged log rounds ≡ rounds
flagged-same [] rounds sealed backed = flagged-none rounds
flagged-same (op ∷ log) rounds sealed backed =
    flagged-first op log rounds ∙ (ap (flagged log) (flagged_op-same op rounds sealed backed) ∙ flagged-same log rounds sealed backed)

-- where all that the first log told is sealed, the history is its rounds and those of the second
pub history_of-front : (base : List Line) (a b : List LogOp) (from : ℕ) → from ≤ length a → AreSealed (history_of base a from) → history_of base (a ++ b) from ≡ history_of base a from ++ history_of base (a ++ b) (length a)
history_of-front base a b from within sealed =
    history_of-parts base a b from within ∙ ap (λ (l : List LoggedRound). l ++ history_of base (a ++ b) (length a)) (flagged-same b (history_of base a from) sealed (history_after-backed (contents base (take from a)) [] (drop from a) tt))
