-- The steps of the loops over a log.
use Rattle.std.proofs.Common.{◌≡◌, ℕ, zero, suc, ◌+◌, ◌-◌, ◌<◌, ◌≤◌, Bool, true, false, cond, List, [], ◌∷◌, ◌++◌, length, get_or, take, drop, ap, sym, refl, ◌∙◌, arith}
use Rattle.std.proofs.lemmas.List.{append-nil, append_assoc, drop_more, take_more, drop_all, take_all}
use Rattle.pb_pmem.specs.declared.log.LogOp.{LogOp}
use Rattle.pb_pmem.specs.Crash.{is_mark, through_mark, after_mark, until_mark}
use Rattle.pb_pmem.proofs.Marks.{through_mark-nil, through_mark-first, after_mark-nil, after_mark-first, until_mark-first, until_mark-nil}

-- the operation at a place, and what stands from there on
pub at_place : (log : List LogOp) (i : ℕ) (op : LogOp) → i < length log → op ≡ get_or log i op → drop i log ≡ op ∷ drop (i + 1) log
at_place log i op inside e = drop_more log i op inside ∙ ap (λ o. o ∷ drop (i + 1) log) (sym e)

pub up_to_place : (log : List LogOp) (i : ℕ) (op : LogOp) → i < length log → op ≡ get_or log i op → take (i + 1) log ≡ take i log ++ op ∷ []
up_to_place log i op inside e = take_more log i op inside ∙ ap (λ o. take i log ++ o ∷ []) (sym e)

regroup : (log : List LogOp) (i : ℕ) (op : LogOp) (rest : List LogOp) → i < length log → op ≡ get_or log i op → take i log ++ op ∷ rest ≡ take (i + 1) log ++ rest
regroup log i op rest inside e =
    sym (append_assoc (take i log) (op ∷ []) rest) ∙ ap (λ l. l ++ rest) (sym (up_to_place log i op inside e))

left_of : (b : Bool) (cut : ℕ) → cond b cut (suc cut) ≡ suc cut - cond b 1 0
left_of true cut = omega arith
left_of false cut = omega arith

pub through_step : (left : ℕ) (log : List LogOp) (i : ℕ) (op : LogOp) → 0 < left → i < length log → op ≡ get_or log i op → take i log ++ through_mark left (drop i log) ≡ take (i + 1) log ++ through_mark (left - cond (is_mark op) 1 0) (drop (i + 1) log)
through_step zero log i op some inside e = absurd (omega arith)
through_step (suc left) log i op some inside e =
    rw (at_place log i op inside e, through_mark-first, left_of (is_mark op) left) (regroup log i op _ inside e)

pub after_step : (left : ℕ) (log : List LogOp) (i : ℕ) (op : LogOp) → 0 < left → i < length log → op ≡ get_or log i op → after_mark left (drop i log) ≡ after_mark (left - cond (is_mark op) 1 0) (drop (i + 1) log)
after_step zero log i op some inside e = absurd (omega arith)
after_step (suc left) log i op some inside e =
    rw (at_place log i op inside e, after_mark-first, left_of (is_mark op) left) refl

pub until_step : (log : List LogOp) (i : ℕ) (op : LogOp) → is_mark op ≡ false → i < length log → op ≡ get_or log i op → take i log ++ until_mark (drop i log) ≡ take (i + 1) log ++ until_mark (drop (i + 1) log)
until_step log i op other inside e =
    rw (at_place log i op inside e, until_mark-first, other) (regroup log i op _ inside e)

pub until_end : (log : List LogOp) (i : ℕ) (op : LogOp) → is_mark op ≡ true → i < length log → op ≡ get_or log i op → take i log ++ until_mark (drop i log) ≡ take i log
until_end log i op mark inside e =
    rw (at_place log i op inside e, until_mark-first, mark) (append-nil (take i log))

-- a loop that went over the whole log
all_taken : (log rest : List LogOp) (i : ℕ) → length log ≤ i → rest ≡ [] → take i log ++ rest ≡ take (length log) log
all_taken log rest i past none =
    ap (λ l. take i log ++ l) none ∙ (append-nil (take i log) ∙ (take_all i log past ∙ sym (take_all (length log) log (omega arith))))

pub until_all : (log : List LogOp) (i : ℕ) → length log ≤ i → take i log ++ until_mark (drop i log) ≡ take (length log) log
until_all log i past = all_taken log _ i past (ap until_mark (drop_all i log past) ∙ until_mark-nil)

pub through_all : (left : ℕ) (log : List LogOp) (i : ℕ) → length log ≤ i → take i log ++ through_mark left (drop i log) ≡ take (length log) log
through_all left log i past =
    all_taken log _ i past (ap (through_mark left) (drop_all i log past) ∙ through_mark-nil left)

pub after_all : (left : ℕ) (log : List LogOp) (i : ℕ) → length log ≤ i → after_mark left (drop i log) ≡ drop (length log) log
after_all left log i past =
    ap (after_mark left) (drop_all i log past) ∙ (after_mark-nil left ∙ sym (drop_all (length log) log (omega arith)))

-- an operation is one mark or none
pub at_most_one : (b : Bool) → cond b 1 0 ≤ 1
at_most_one true = omega arith
at_most_one false = omega arith
