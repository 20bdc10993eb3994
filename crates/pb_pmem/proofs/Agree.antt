-- The two forms of what a crash may leave say the same.
use Rattle.std.proofs.Common.{◌≡◌, ℕ, ◌+◌, ◌<◌, ◌≤◌, ◌⊎◌, true, false, List, [], ◌∷◌, ◌++◌, length, reverse, Any, ap, subst, sym, refl, ◌∙◌, inl, inr, arith}
use Rattle.std.specs.List.{list_any}
use Rattle.std.proofs.lemmas.Bool.{cases_Bool, cases_lt}
use Rattle.std.proofs.lemmas.List.{append-nil, append_assoc, reverse-reverse}
use Rattle.pb_pmem.specs.declared.line.Line.{Line}
use Rattle.pb_pmem.specs.declared.log.LogOp.{LogOp}
use Rattle.pb_pmem.specs.Contents.{contents}
use Rattle.pb_pmem.specs.Crash.{is_mark, is_sync, is_back_of, marks, least_cut, through_mark, after_mark, until_mark, backed_writes, unbacked_writes, settled_content, loose_writes, MayWrite, IsCrashImage}
use Rattle.pb_pmem.specs.Lines.{word_of}
use Rattle.pb_pmem.specs.Past.{Words, now, AtNextMark, Last, AllAtNextMark, AllLast, Leaves}
use Rattle.pb_pmem.proofs.Backed.{backed_past, unbacked_past, backed_writes-past, unbacked_writes-past, IsBackedOr, AtNextMark-backed, AtNextMark-from_backed}
use Rattle.pb_pmem.proofs.AtNextMark.{mark-writes_none, mark-no_Back, sync-is_mark, Last-cases, Last-mark, Last-more, Last-none, Last-at_none, Leaves-cases, Leaves-more, Leaves-none, Leaves-at_none, Leaves-Last}
use Rattle.pb_pmem.proofs.Lines.{contents-none}
use Rattle.pb_pmem.proofs.Marks.{marks-append, marks_push_mark, marks_push_other, through_mark-nil, through_mark-append, through_mark_push, after_mark-append, after_mark_push, after_mark-nil, marks-after_mark, until_mark-none, until_mark-some, until_mark-nil, until_mark_one, until_mark_push_mark, Any-until_mark-append, through_last_sync_push, through_last_sync_push_other, least_cut-le}
use Rattle.pb_pmem.proofs.AnyLemmas.{Any-nil, Any-here, Any-cases, Any-append_left, Any-append_right, Any-append_cases, Any-reverse, Any-from_reverse}
use Rattle.pb_pmem.proofs.Words.{reverse-cons}

-- a value that a crash at this cut may leave in a word
abbrev pub WordAt : List Line → List LogOp → ℕ → ℕ → ℕ → ℕ → Type 0
WordAt base log cut line word value =
    (value ≡ word_of (settled_content base cut log) line word) ⊎ Any (MayWrite line word value) (loose_writes cut log)

backed-nil : backed_writes [] ≡ []
unfolding backed_writes
backed-nil = refl

unbacked-nil : unbacked_writes [] ≡ []
unfolding unbacked_writes
unbacked-nil = refl

backed_one : (op : LogOp) → is_mark op ≡ true → backed_writes (op ∷ []) ≡ []
unfolding backed_writes
backed_one op e = rw (mark-writes_none op e) refl

unbacked_one : (op : LogOp) → is_mark op ≡ true → unbacked_writes (op ∷ []) ≡ []
unfolding unbacked_writes
unbacked_one op e = rw (mark-writes_none op e) refl

-- After an empty log

settled-nil : (base : List Line) (cut : ℕ) → settled_content base cut [] ≡ base
settled-nil base cut = rw (through_mark-nil cut, backed-nil) (contents-none base)

loose-nil : (cut : ℕ) → loose_writes cut [] ≡ []
loose-nil cut = rw (through_mark-nil cut, unbacked-nil, after_mark-nil, until_mark-nil) refl

WordAt-nil : (base : List Line) (cut line word value : ℕ) → WordAt base [] cut line word value → value ≡ word_of base line word
WordAt-nil base cut line word value (inl same) = same ∙ ap (λ lines. word_of lines line word) (settled-nil base cut)
WordAt-nil base cut line word value (inr a) = absurd (Any-nil (MayWrite line word value) (rw (loose-nil cut) at a))

WordAt-at_nil : (base : List Line) (cut line word value : ℕ) → value ≡ word_of base line word → WordAt base [] cut line word value
WordAt-at_nil base cut line word value same =
    inl (same ∙ sym (ap (λ lines. word_of lines line word) (settled-nil base cut)))

-- One more operation, at a cut that was there before

settled_push : (base : List Line) (log : List LogOp) (op : LogOp) (cut : ℕ) → cut ≤ marks log → settled_content base cut (log ++ op ∷ []) ≡ settled_content base cut log
settled_push base log op cut few = ap (λ l. contents base (backed_writes l)) (through_mark-append cut log (op ∷ []) few)

loose_push : (log : List LogOp) (op : LogOp) (cut : ℕ) → cut ≤ marks log → loose_writes cut (log ++ op ∷ []) ≡ unbacked_writes (through_mark cut log) ++ until_mark (after_mark cut log ++ op ∷ [])
loose_push log op cut few =
    rw (through_mark-append cut log (op ∷ []) few, after_mark-append cut log (op ∷ []) few) refl

-- a mark, or anything after another mark, changes nothing
loose_push_same : (log : List LogOp) (op : LogOp) (cut : ℕ) → cut ≤ marks log → (is_mark op ≡ true) ⊎ (cut < marks log) → loose_writes cut (log ++ op ∷ []) ≡ loose_writes cut log
loose_push_same log op cut few (inl mark) =
    loose_push log op cut few ∙ ap (λ l. unbacked_writes (through_mark cut log) ++ l) (until_mark_push_mark (after_mark cut log) op mark)
loose_push_same log op cut few (inr more) =
    loose_push log op cut few ∙ ap (λ l. unbacked_writes (through_mark cut log) ++ l) (until_mark-some (after_mark cut log) (op ∷ []) (omega (arith, marks-after_mark cut log few)))

-- another operation at the greatest cut is loose
loose_push_last : (log : List LogOp) (op : LogOp) → is_mark op ≡ false → loose_writes (marks log) (log ++ op ∷ []) ≡ loose_writes (marks log) log ++ op ∷ []
loose_push_last log op other =
    loose_push log op (marks log) (omega arith) ∙ (ap (λ l. unbacked_writes (through_mark (marks log) log) ++ l) (longer ∙ ap (λ l. l ++ op ∷ []) (sym whole)) ∙ sym (append_assoc (unbacked_writes (through_mark (marks log) log)) (until_mark (after_mark (marks log) log)) (op ∷ [])))
  where
    none : marks (after_mark (marks log) log) ≡ 0
    none = omega (arith, marks-after_mark (marks log) log (omega arith))

    longer : until_mark (after_mark (marks log) log ++ op ∷ []) ≡ after_mark (marks log) log ++ op ∷ []
    longer = until_mark-none (after_mark (marks log) log) (op ∷ []) none ∙ ap (λ l. after_mark (marks log) log ++ l) (rw (until_mark_one, other) refl)

    whole : until_mark (after_mark (marks log) log) ≡ after_mark (marks log) log
    whole = ap until_mark (sym (append-nil (after_mark (marks log) log))) ∙ (until_mark-none (after_mark (marks log) log) [] none ∙ (ap (λ l. after_mark (marks log) log ++ l) until_mark-nil ∙ append-nil (after_mark (marks log) log)))

WordAt_push_same : (base : List Line) (log : List LogOp) (op : LogOp) (cut line word value : ℕ) → cut ≤ marks log → (is_mark op ≡ true) ⊎ (cut < marks log) → WordAt base (log ++ op ∷ []) cut line word value → WordAt base log cut line word value
WordAt_push_same base log op cut line word value few more (inl same) =
    inl (same ∙ ap (λ lines. word_of lines line word) (settled_push base log op cut few))
WordAt_push_same base log op cut line word value few more (inr a) = inr (rw (loose_push_same log op cut few more) at a)

WordAt_push : (base : List Line) (log : List LogOp) (op : LogOp) (cut line word value : ℕ) → cut ≤ marks log → WordAt base log cut line word value → WordAt base (log ++ op ∷ []) cut line word value
WordAt_push base log op cut line word value few (inl same) =
    inl (same ∙ sym (ap (λ lines. word_of lines line word) (settled_push base log op cut few)))
WordAt_push base log op cut line word value few (inr a) =
    inr (rw (loose_push log op cut few) (go (Any-append_cases (MayWrite line word value) (unbacked_writes (through_mark cut log)) (until_mark (after_mark cut log)) a)))
  where
    go : Any (MayWrite line word value) (unbacked_writes (through_mark cut log)) ⊎ Any (MayWrite line word value) (until_mark (after_mark cut log)) → Any (MayWrite line word value) (unbacked_writes (through_mark cut log) ++ until_mark (after_mark cut log ++ op ∷ []))
    go (inl b) = Any-append_left (MayWrite line word value) _ _ b
    go (inr b) =
        Any-append_right (MayWrite line word value) (unbacked_writes (through_mark cut log)) _ (Any-until_mark-append (MayWrite line word value) (after_mark cut log) (op ∷ []) b)

-- At the greatest cut

-- after a mark the settled values and the loose writes are what that mark settles
settled_mark : (base : List Line) (past : List LogOp) (op : LogOp) → is_mark op ≡ true → settled_content base (marks (reverse past) + 1) (reverse past ++ op ∷ []) ≡ now base (backed_past (op ∷ []) past)
settled_mark base past op mark =
    rw (through_mark_push (reverse past) op mark, backed_writes-past past (op ∷ []), backed_one op mark, append-nil) refl

loose_mark : (past : List LogOp) (op : LogOp) → is_mark op ≡ true → loose_writes (marks (reverse past) + 1) (reverse past ++ op ∷ []) ≡ reverse (unbacked_past (op ∷ []) past)
loose_mark past op mark =
    rw (through_mark_push (reverse past) op mark, after_mark_push (reverse past) op mark, until_mark-nil, unbacked_writes-past past (op ∷ []), unbacked_one op mark, append-nil, append-nil) refl

no_Back : (line : ℕ) (op : LogOp) → is_mark op ≡ true → list_any (is_back_of line) (op ∷ []) ≡ false
no_Back line op mark = rw (mark-no_Back line op mark) refl

WordAt-AtNextMark : (base : List Line) (past : List LogOp) (op : LogOp) (line word value : ℕ) → is_mark op ≡ true → AtNextMark base past line word value → WordAt base (reverse past ++ op ∷ []) (marks (reverse past) + 1) line word value
WordAt-AtNextMark base past op line word value mark at_next_mark =
    go (AtNextMark-backed base past (op ∷ []) line word value (no_Back line op mark) at_next_mark)
  where
    go : IsBackedOr base past (op ∷ []) line word value → WordAt base (reverse past ++ op ∷ []) (marks (reverse past) + 1) line word value
    go (inl same) = inl (same ∙ sym (ap (λ lines. word_of lines line word) (settled_mark base past op mark)))
    go (inr a) =
        inr (rw (loose_mark past op mark) (Any-reverse (MayWrite line word value) (unbacked_past (op ∷ []) past) a))

AtNextMark-WordAt : (base : List Line) (past : List LogOp) (op : LogOp) (line word value : ℕ) → is_mark op ≡ true → WordAt base (reverse past ++ op ∷ []) (marks (reverse past) + 1) line word value → AtNextMark base past line word value
AtNextMark-WordAt base past op line word value mark h =
    AtNextMark-from_backed base past (op ∷ []) line word value (no_Back line op mark) (go h)
  where
    go : WordAt base (reverse past ++ op ∷ []) (marks (reverse past) + 1) line word value → IsBackedOr base past (op ∷ []) line word value
    go (inl same) = inl (same ∙ ap (λ lines. word_of lines line word) (settled_mark base past op mark))
    go (inr a) =
        inr (Any-from_reverse (MayWrite line word value) (unbacked_past (op ∷ []) past) (rw (loose_mark past op mark) at a))

-- the greatest cut allows the same in both forms
pub WordAt-Last : (base : List Line) (past : List LogOp) (line word value : ℕ) → Last base past line word value → WordAt base (reverse past) (marks (reverse past)) line word value
WordAt-Last base [] line word value h =
    WordAt-at_nil base (marks []) line word value (Last-at_none base line word value h)
WordAt-Last base (op ∷ past) line word value h =
    rw (reverse-cons op past) (go (WordAt-Last base past line word value) (Last-cases base op past line word value h))
  where
    more : is_mark op ≡ false → WordAt base (reverse past) (marks (reverse past)) line word value → WordAt base (reverse past ++ op ∷ []) (marks (reverse past ++ op ∷ [])) line word value
    more other h =
        rw (marks_push_other (reverse past) op other) (WordAt_push base (reverse past) op (marks (reverse past)) line word value (omega arith) h)

    written : is_mark op ≡ false → MayWrite line word value op → WordAt base (reverse past ++ op ∷ []) (marks (reverse past ++ op ∷ [])) line word value
    written other w =
        rw (marks_push_other (reverse past) op other) (inr (rw (loose_push_last (reverse past) op other) (Any-append_right (MayWrite line word value) (loose_writes (marks (reverse past)) (reverse past)) (op ∷ []) (Any-here (MayWrite line word value) op [] w))))

    go : (Last base past line word value → WordAt base (reverse past) (marks (reverse past)) line word value) → ((is_mark op ≡ true) × AtNextMark base past line word value) ⊎ ((is_mark op ≡ false) × (MayWrite line word value op ⊎ Last base past line word value)) → WordAt base (reverse past ++ op ∷ []) (marks (reverse past ++ op ∷ [])) line word value
    go before (inl (mark, at_next_mark)) = rw (marks_push_mark (reverse past) op mark) (WordAt-AtNextMark base past op line word value mark at_next_mark)
    go before (inr (other, inl w)) = written other w
    go before (inr (other, inr last)) = more other (before last)

pub Last-WordAt : (base : List Line) (past : List LogOp) (line word value : ℕ) → WordAt base (reverse past) (marks (reverse past)) line word value → Last base past line word value
Last-WordAt base [] line word value h = Last-none base line word value (WordAt-nil base (marks []) line word value h)
Last-WordAt base (op ∷ past) line word value h =
    go (Last-WordAt base past line word value) (cases_Bool (is_mark op)) (rw (reverse-cons op past) at h)
  where
    other_op : is_mark op ≡ false → (WordAt base (reverse past) (marks (reverse past)) line word value → Last base past line word value) → WordAt base (reverse past ++ op ∷ []) (marks (reverse past)) line word value → MayWrite line word value op ⊎ Last base past line word value
    other_op other before (inl same) =
        inr (before (inl (same ∙ ap (λ lines. word_of lines line word) (settled_push base (reverse past) op (marks (reverse past)) (omega arith)))))
    other_op other before (inr a) =
        split (Any-append_cases (MayWrite line word value) (loose_writes (marks (reverse past)) (reverse past)) (op ∷ []) (rw (loose_push_last (reverse past) op other) at a))
      where
        one : MayWrite line word value op ⊎ Any (MayWrite line word value) [] → MayWrite line word value op ⊎ Last base past line word value
        one (inl w) = inl w
        one (inr none) = absurd (Any-nil (MayWrite line word value) none)

        split : Any (MayWrite line word value) (loose_writes (marks (reverse past)) (reverse past)) ⊎ Any (MayWrite line word value) (op ∷ []) → MayWrite line word value op ⊎ Last base past line word value
        split (inl b) = inr (before (inr b))
        split (inr b) = one (Any-cases (MayWrite line word value) op [] b)

    go : (WordAt base (reverse past) (marks (reverse past)) line word value → Last base past line word value) → (is_mark op ≡ true) ⊎ (is_mark op ≡ false) → WordAt base (reverse past ++ op ∷ []) (marks (reverse past ++ op ∷ [])) line word value → Last base (op ∷ past) line word value
    go before (inl mark) h =
        Last-mark base op past line word value mark (AtNextMark-WordAt base past op line word value mark (rw (marks_push_mark (reverse past) op mark) at h))
    go before (inr other) h =
        Last-more base op past line word value other (other_op other before (rw (marks_push_other (reverse past) op other) at h))

-- Any cut

-- the words that a crash may leave at some cut
pub record AtSomeCut (base : List Line) (log : List LogOp) (image : Words) : Type 0 where
  pub cut : ℕ
  pub low : least_cut log ≤ cut
  pub high : cut ≤ marks log
  pub words : (line word : ℕ) → WordAt base log cut line word (image line word)

AtSomeCut-greatest : (base : List Line) (past : List LogOp) (image : Words) → AllLast base past image → AtSomeCut base (reverse past) image
AtSomeCut-greatest base past image h =
    record {
      cut = marks (reverse past);
      low = least_cut-le (reverse past);
      high = omega arith;
      words = λ line word. WordAt-Last base past line word (image line word) (h line word);
    }

pub AtSomeCut-Leaves : (base : List Line) (past : List LogOp) (image : Words) → Leaves base past image → AtSomeCut base (reverse past) image
AtSomeCut-Leaves base [] image h = AtSomeCut-greatest base [] image (Leaves-at_none base image h)
AtSomeCut-Leaves base (op ∷ past) image h =
    go (AtSomeCut-Leaves base past image) (Leaves-cases base op past image h)
  where
    more : is_sync op ≡ false → AtSomeCut base (reverse past) image → AtSomeCut base (reverse (op ∷ past)) image
    more other at =
        rw (reverse-cons op past) (record {
          cut = at.cut;
          low = rw (through_last_sync_push_other (reverse past) op other) at.low;
          high = let h = at.high in omega (arith, marks-append (reverse past) (op ∷ []));
          words = λ line word. WordAt_push base (reverse past) op at.cut line word (image line word) at.high (at.words line word);
        })

    go : (Leaves base past image → AtSomeCut base (reverse past) image) → ((is_sync op ≡ true) × AllAtNextMark base past image) ⊎ ((is_sync op ≡ false) × (AllLast base (op ∷ past) image ⊎ Leaves base past image)) → AtSomeCut base (reverse (op ∷ past)) image
    go before (inl (sync, at_next_mark)) =
        AtSomeCut-greatest base (op ∷ past) image (λ line word. Last-mark base op past line word (image line word) (sync-is_mark op sync) (at_next_mark line word))
    go before (inr (other, inl last)) = AtSomeCut-greatest base (op ∷ past) image last
    go before (inr (other, inr leaves)) = more other (before leaves)

pub Leaves-AtSomeCut : (base : List Line) (past : List LogOp) (image : Words) → AtSomeCut base (reverse past) image → Leaves base past image
Leaves-AtSomeCut base [] image at =
    Leaves-none base image (λ line word. Last-none base line word (image line word) (WordAt-nil base at.cut line word (image line word) (at.words line word)))
Leaves-AtSomeCut base (op ∷ past) image at =
    go (Leaves-AtSomeCut base past image) (cases_lt at.cut (marks (reverse (op ∷ past)))) (cases_Bool (is_sync op)) (cases_Bool (is_mark op))
  where
    words : (line word : ℕ) → WordAt base (reverse past ++ op ∷ []) at.cut line word (image line word)
    words line word = rw (reverse-cons op past) at (at.words line word)

    greatest : marks (reverse (op ∷ past)) ≤ at.cut → AllLast base (op ∷ past) image
    greatest high line word =
        Last-WordAt base (op ∷ past) line word (image line word) (subst (λ cut. WordAt base (reverse (op ∷ past)) cut line word (image line word)) (omega (arith, at.high)) (at.words line word))

    earlier : is_sync op ≡ false → at.cut ≤ marks (reverse past) → (is_mark op ≡ true) ⊎ (at.cut < marks (reverse past)) → AtSomeCut base (reverse past) image
    earlier other few more =
        record {
          cut = at.cut;
          low = let h : least_cut (reverse past ++ op ∷ []) ≤ at.cut = rw (reverse-cons op past) at at.low in rw (through_last_sync_push_other (reverse past) op other) at h;
          high = few;
          words = λ line word. WordAt_push_same base (reverse past) op at.cut line word (image line word) few more (words line word);
        }

    all_of_sync : is_sync op ≡ true → least_cut (reverse (op ∷ past)) ≡ marks (reverse (op ∷ past))
    all_of_sync sync = rw (reverse-cons op past) (ap marks (through_last_sync_push (reverse past) op sync))

    marks_now : is_mark op ≡ true → marks (reverse (op ∷ past)) ≡ marks (reverse past) + 1
    marks_now mark = rw (reverse-cons op past) (marks_push_mark (reverse past) op mark)

    marks_still : is_mark op ≡ false → marks (reverse (op ∷ past)) ≡ marks (reverse past)
    marks_still other = rw (reverse-cons op past) (marks_push_other (reverse past) op other)

    go : (AtSomeCut base (reverse past) image → Leaves base past image) → (at.cut < marks (reverse (op ∷ past))) ⊎ (marks (reverse (op ∷ past)) ≤ at.cut) → (is_sync op ≡ true) ⊎ (is_sync op ≡ false) → (is_mark op ≡ true) ⊎ (is_mark op ≡ false) → Leaves base (op ∷ past) image
    go before (inr high) sync mark = Leaves-Last base (op ∷ past) image (greatest high)
    go before (inl low) (inl sync) mark = absurd (omega (arith, all_of_sync sync, at.low))
    go before (inl low) (inr other) (inl mark) =
        Leaves-more base op past image other (inr (before (earlier other (omega (arith, marks_now mark)) (inl mark))))
    go before (inl low) (inr other) (inr no_mark) =
        Leaves-more base op past image other (inr (before (earlier other (omega (arith, marks_still no_mark)) (inr (omega (arith, marks_still no_mark))))))

-- The forms agree

pub Leaves-IsCrashImage : (base : List Line) (log : List LogOp) (image : List Line) → IsCrashImage base log image → Leaves base (reverse log) (word_of image)
Leaves-IsCrashImage base log image h =
    Leaves-AtSomeCut base (reverse log) (word_of image) (rw reverse-reverse (record { cut = h.cut; low = h.low; high = h.high; words = h.left.words }))

pub IsCrashImage-Leaves : (base : List Line) (log : List LogOp) (image : List Line) → length image ≡ length base → Leaves base (reverse log) (word_of image) → IsCrashImage base log image
IsCrashImage-Leaves base log image long h = go (rw reverse-reverse at (AtSomeCut-Leaves base (reverse log) (word_of image) h))
  where
    go : AtSomeCut base log (word_of image) → IsCrashImage base log image
    go at = record { cut = at.cut; low = at.low; high = at.high; left = record { lines = long; words = at.words } }
