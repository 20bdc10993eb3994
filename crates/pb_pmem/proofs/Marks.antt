-- Lemmas on marks and cuts of a log that has more operations after it.
use Rattle.std.proofs.Common.{◌≡◌, ℕ, zero, suc, ◌+◌, ◌<◌, ◌≤◌, ◌⊎◌, Bool, true, false, cond, ◌||◌, List, [], ◌∷◌, ◌++◌, Any, ap, refl, inl, inr, arith, add-one}
use Rattle.std.specs.List.{list_any}
use Rattle.std.proofs.lemmas.List.Folds.{list_any-append}
use Rattle.std.proofs.lemmas.Bool.{cases_Bool}
use Rattle.pb_pmem.specs.declared.log.LogOp.{LogOp}
use Rattle.pb_pmem.specs.Crash.{is_mark, is_sync, marks, through_last_sync, least_cut, through_mark, after_mark, until_mark}
use Rattle.pb_pmem.proofs.AnyLemmas.{Any-nil, Any-here, Any-there, Any-cases}

pub marks-none : marks [] ≡ 0
unfolding marks
marks-none = refl

pub marks-first : (op : LogOp) (log : List LogOp) → marks (op ∷ log) ≡ cond (is_mark op) 1 0 + marks log
unfolding marks
marks-first op log = refl

pub marks-append : (log more : List LogOp) → marks (log ++ more) ≡ marks log + marks more
unfolding marks
marks-append [] more = omega arith
marks-append (op ∷ log) more = omega (arith, marks-append log more)

pub marks_push_mark : (log : List LogOp) (op : LogOp) → is_mark op ≡ true → marks (log ++ op ∷ []) ≡ marks log + 1
marks_push_mark log op e = rw (marks-append, marks-first, e, marks-none) (omega arith)

pub marks_push_other : (log : List LogOp) (op : LogOp) → is_mark op ≡ false → marks (log ++ op ∷ []) ≡ marks log
marks_push_other log op e = rw (marks-append, marks-first, e, marks-none) (omega arith)

-- what stands up to a mark stays, whatever comes after the log, and that comes after what stands behind it
mark_parts-append : (cut : ℕ) (log more : List LogOp) → cut ≤ marks log
    → (through_mark cut (log ++ more) ≡ through_mark cut log) × (after_mark cut (log ++ more) ≡ after_mark cut log ++ more)
unfolding marks through_mark after_mark
mark_parts-append zero [] [] few = (refl, refl)
mark_parts-append zero [] (op ∷ more) few = (refl, refl)
mark_parts-append (suc cut) [] more few = absurd (omega arith)
mark_parts-append zero (op ∷ log) more few = (refl, refl)
mark_parts-append (suc cut) (op ∷ log) more few =
    let parts = go (is_mark op) few (mark_parts-append cut log more) (mark_parts-append (suc cut) log more) in
    (ap (λ l. op ∷ l) parts.0, parts.1)
  where
    go : (b : Bool) → suc cut ≤ cond b 1 0 + marks log
        → (cut ≤ marks log → (through_mark cut (log ++ more) ≡ through_mark cut log) × (after_mark cut (log ++ more) ≡ after_mark cut log ++ more))
        → (suc cut ≤ marks log → (through_mark (suc cut) (log ++ more) ≡ through_mark (suc cut) log) × (after_mark (suc cut) (log ++ more) ≡ after_mark (suc cut) log ++ more))
        → (through_mark (cond b cut (suc cut)) (log ++ more) ≡ through_mark (cond b cut (suc cut)) log) × (after_mark (cond b cut (suc cut)) (log ++ more) ≡ after_mark (cond b cut (suc cut)) log ++ more)
    go true few at_mark at_other = at_mark (omega arith)
    go false few at_mark at_other = at_other (omega arith)

pub through_mark-append : (cut : ℕ) (log more : List LogOp) → cut ≤ marks log → through_mark cut (log ++ more) ≡ through_mark cut log
through_mark-append cut log more few = (mark_parts-append cut log more few).0

pub after_mark-append : (cut : ℕ) (log more : List LogOp) → cut ≤ marks log → after_mark cut (log ++ more) ≡ after_mark cut log ++ more
after_mark-append cut log more few = (mark_parts-append cut log more few).1

-- a cut that the log hasn't reached takes it whole
pub through_mark-all : (cut : ℕ) (log : List LogOp) → marks log < cut → through_mark cut log ≡ log
unfolding marks through_mark
through_mark-all zero log few = absurd (omega arith)
through_mark-all (suc cut) [] few = refl
through_mark-all (suc cut) (op ∷ log) few =
    ap (λ l. op ∷ l) (go (is_mark op) few (through_mark-all cut log) (through_mark-all (suc cut) log))
  where
    go : (b : Bool) → cond b 1 0 + marks log < suc cut → (marks log < cut → through_mark cut log ≡ log) → (marks log < suc cut → through_mark (suc cut) log ≡ log) → through_mark (cond b cut (suc cut)) log ≡ log
    go true few at_mark at_other = at_mark (omega arith)
    go false few at_mark at_other = at_other (omega arith)

-- the last mark, put after a log, is the cut that takes it whole
pub through_mark_push : (log : List LogOp) (op : LogOp) → is_mark op ≡ true → through_mark (marks log + 1) (log ++ op ∷ []) ≡ log ++ op ∷ []
unfolding marks through_mark
through_mark_push [] op e = refl
through_mark_push (first ∷ log) op e = rw add-one (ap (λ l. first ∷ l) (go (is_mark first) (through_mark_push log op e)))
  where
    go : (b : Bool) → through_mark (marks log + 1) (log ++ op ∷ []) ≡ log ++ op ∷ [] → through_mark (cond b (cond b 1 0 + marks log) (suc (cond b 1 0 + marks log))) (log ++ op ∷ []) ≡ log ++ op ∷ []
    go true h = let e : 1 + marks log ≡ marks log + 1 = omega arith in rw e h
    go false h = let e : suc (0 + marks log) ≡ marks log + 1 = omega arith in rw e h

pub after_mark-nil : (cut : ℕ) → after_mark cut [] ≡ []
unfolding after_mark
after_mark-nil zero = refl
after_mark-nil (suc cut) = refl

pub after_mark_push : (log : List LogOp) (op : LogOp) → is_mark op ≡ true → after_mark (marks log + 1) (log ++ op ∷ []) ≡ []
unfolding marks after_mark
after_mark_push [] op e = after_mark-nil (cond (is_mark op) 0 1)
after_mark_push (first ∷ log) op e = rw add-one (go (is_mark first) (after_mark_push log op e))
  where
    go : (b : Bool) → after_mark (marks log + 1) (log ++ op ∷ []) ≡ [] → after_mark (cond b (cond b 1 0 + marks log) (suc (cond b 1 0 + marks log))) (log ++ op ∷ []) ≡ []
    go true h = let e : 1 + marks log ≡ marks log + 1 = omega arith in rw e h
    go false h = let e : suc (0 + marks log) ≡ marks log + 1 = omega arith in rw e h

-- how many marks stand after a mark
pub marks-after_mark : (cut : ℕ) (log : List LogOp) → cut ≤ marks log → marks (after_mark cut log) + cut ≡ marks log
unfolding marks after_mark
marks-after_mark zero [] few = refl
marks-after_mark (suc cut) [] few = absurd (omega arith)
marks-after_mark zero (op ∷ log) few = omega arith
marks-after_mark (suc cut) (op ∷ log) few =
    go (is_mark op) few (marks-after_mark cut log) (marks-after_mark (suc cut) log)
  where
    go : (b : Bool) → suc cut ≤ cond b 1 0 + marks log → (cut ≤ marks log → marks (after_mark cut log) + cut ≡ marks log) → (suc cut ≤ marks log → marks (after_mark (suc cut) log) + suc cut ≡ marks log) → marks (after_mark (cond b cut (suc cut)) log) + suc cut ≡ cond b 1 0 + marks log
    go true few at_mark at_other = omega (arith, at_mark (omega arith))
    go false few at_mark at_other = omega (arith, at_other (omega arith))

-- Up to the first mark

pub until_mark-none : (log more : List LogOp) → marks log ≡ 0 → until_mark (log ++ more) ≡ log ++ until_mark more
unfolding marks until_mark
until_mark-none [] more e = refl
until_mark-none (op ∷ log) more e = go (is_mark op) e (until_mark-none log more)
  where
    go : (b : Bool) → cond b 1 0 + marks log ≡ 0 → (marks log ≡ 0 → until_mark (log ++ more) ≡ log ++ until_mark more) → cond b [] (op ∷ until_mark (log ++ more)) ≡ op ∷ (log ++ until_mark more)
    go true e rest = absurd (omega arith)
    go false e rest = ap (λ l. op ∷ l) (rest (omega arith))

pub until_mark-some : (log more : List LogOp) → 0 < marks log → until_mark (log ++ more) ≡ until_mark log
unfolding marks until_mark
until_mark-some [] more some = absurd (omega arith)
until_mark-some (op ∷ log) more some = go (is_mark op) some (until_mark-some log more)
  where
    go : (b : Bool) → 0 < cond b 1 0 + marks log → (0 < marks log → until_mark (log ++ more) ≡ until_mark log) → cond b [] (op ∷ until_mark (log ++ more)) ≡ cond b [] (op ∷ until_mark log)
    go true some rest = refl
    go false some rest = ap (λ l. op ∷ l) (rest (omega arith))

pub until_mark-nil : until_mark [] ≡ []
unfolding until_mark
until_mark-nil = refl

pub until_mark_one : (op : LogOp) → until_mark (op ∷ []) ≡ cond (is_mark op) [] (op ∷ [])
unfolding until_mark
until_mark_one op = refl

-- a mark after a log is no part of what stands before its first mark
pub until_mark_push_mark : (log : List LogOp) (op : LogOp) → is_mark op ≡ true → until_mark (log ++ op ∷ []) ≡ until_mark log
unfolding until_mark
until_mark_push_mark [] op e = rw e refl
until_mark_push_mark (first ∷ log) op e = ap (λ l. cond (is_mark first) [] (first ∷ l)) (until_mark_push_mark log op e)

pub Any-until_mark-append : (P : LogOp → Type 0) (log more : List LogOp) → Any P (until_mark log) → Any P (until_mark (log ++ more))
unfolding until_mark
Any-until_mark-append P [] more h = absurd (Any-nil P h)
Any-until_mark-append P (op ∷ log) more h = go (is_mark op) h (Any-until_mark-append P log more)
  where
    there : (Any P (until_mark log) → Any P (until_mark (log ++ more))) → P op ⊎ Any P (until_mark log) → Any P (op ∷ until_mark (log ++ more))
    there rest (inl p) = Any-here P op _ p
    there rest (inr a) = Any-there P op _ (rest a)

    go : (b : Bool) → Any P (cond b [] (op ∷ until_mark log)) → (Any P (until_mark log) → Any P (until_mark (log ++ more))) → Any P (cond b [] (op ∷ until_mark (log ++ more)))
    go true h rest = absurd (Any-nil P h)
    go false h rest = there rest (Any-cases P op (until_mark log) h)

-- The last sync

pub through_last_sync_push : (log : List LogOp) (op : LogOp) → is_sync op ≡ true → through_last_sync (log ++ op ∷ []) ≡ log ++ op ∷ []
unfolding through_last_sync
through_last_sync_push [] op e = rw e refl
through_last_sync_push (first ∷ log) op e =
    rw (list_any-append is_sync log (op ∷ []), e, or_true (list_any is_sync log), or_true (is_sync first)) (ap (λ l. first ∷ l) (through_last_sync_push log op e))
  where
    or_true : (b : Bool) → (b || true) ≡ true
    or_true true = refl
    or_true false = refl

pub through_last_sync_push_other : (log : List LogOp) (op : LogOp) → is_sync op ≡ false → through_last_sync (log ++ op ∷ []) ≡ through_last_sync log
unfolding through_last_sync
through_last_sync_push_other [] op e = rw e refl
through_last_sync_push_other (first ∷ log) op e =
    rw (list_any-append is_sync log (op ∷ []), e, or_false (list_any is_sync log)) (ap (λ l. cond (is_sync first || list_any is_sync log) (first ∷ l) []) (through_last_sync_push_other log op e))
  where
    or_false : (b : Bool) → (b || false) ≡ b
    or_false true = refl
    or_false false = refl

pub least_cut-le : (log : List LogOp) → least_cut log ≤ marks log
unfolding marks through_last_sync
least_cut-le [] = omega arith
least_cut-le (op ∷ log) = go (is_sync op || list_any is_sync log) (least_cut-le log)
  where
    go : (b : Bool) → marks (through_last_sync log) ≤ marks log → marks (cond b (op ∷ through_last_sync log) []) ≤ cond (is_mark op) 1 0 + marks log
    go true h = omega (arith, marks-first op (through_last_sync log))
    go false h = omega (arith, marks-none)

-- The recursions, one operation at a time

pub through_mark-zero : (log : List LogOp) → through_mark 0 log ≡ []
unfolding through_mark
through_mark-zero [] = refl
through_mark-zero (op ∷ log) = refl

pub through_mark-nil : (cut : ℕ) → through_mark cut [] ≡ []
unfolding through_mark
through_mark-nil zero = refl
through_mark-nil (suc cut) = refl

pub through_mark-first : (cut : ℕ) (op : LogOp) (log : List LogOp) → through_mark (suc cut) (op ∷ log) ≡ op ∷ through_mark (cond (is_mark op) cut (suc cut)) log
unfolding through_mark
through_mark-first cut op log = refl

pub after_mark-zero : (log : List LogOp) → after_mark 0 log ≡ log
unfolding after_mark
after_mark-zero [] = refl
after_mark-zero (op ∷ log) = refl

pub after_mark-first : (cut : ℕ) (op : LogOp) (log : List LogOp) → after_mark (suc cut) (op ∷ log) ≡ after_mark (cond (is_mark op) cut (suc cut)) log
unfolding after_mark
after_mark-first cut op log = refl

pub until_mark-first : (op : LogOp) (log : List LogOp) → until_mark (op ∷ log) ≡ cond (is_mark op) [] (op ∷ until_mark log)
unfolding until_mark
until_mark-first op log = refl

pub least_cut_push : (log : List LogOp) (op : LogOp) → least_cut (log ++ op ∷ []) ≡ cond (is_sync op) (marks (log ++ op ∷ [])) (least_cut log)
least_cut_push log op = go (cases_Bool (is_sync op))
  where
    go : (is_sync op ≡ true) ⊎ (is_sync op ≡ false) → least_cut (log ++ op ∷ []) ≡ cond (is_sync op) (marks (log ++ op ∷ [])) (least_cut log)
    go (inl e) = rw e (ap marks (through_last_sync_push log op e))
    go (inr e) = rw e (ap marks (through_last_sync_push_other log op e))

pub marks_push : (log : List LogOp) (op : LogOp) → marks (log ++ op ∷ []) ≡ marks log + cond (is_mark op) 1 0
marks_push log op = rw (marks-append, marks-first, marks-none) (omega arith)

pub least_cut-none : least_cut [] ≡ 0
unfolding through_last_sync
least_cut-none = marks-none
