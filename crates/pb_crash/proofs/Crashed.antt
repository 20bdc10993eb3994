-- The image of a pick is one that a crash may leave.
use Rattle.std.proofs.Common.{◌≡◌, ℕ, zero, suc, ◌⊎◌, Bool, true, false, cond, eqb, IsTrue, List, [], ◌∷◌, length, Any, ap, subst, sym, refl, ◌∙◌, inl, inr}
use Rattle.std.specs.List.{list_all}
use Rattle.std.proofs.lemmas.List.Folds.{list_all-append}
use Rattle.pb_pmem.specs.declared.line.Line.{Line}
use Rattle.pb_pmem.specs.declared.log.LogOp.{LogOp}
use Rattle.pb_pmem.specs.declared.log.LogOp.TheVariants.{Whole, Word, Back, Fence, Sync}
use Rattle.pb_pmem.specs.Contents.{applied, contents}
use Rattle.pb_pmem.specs.Crash.{is_mark, unbacked_writes, through_mark, after_mark, until_mark, settled_writes, loose_writes, settled_content, MayWrite, IsCrashImageAtCut}
use Rattle.pb_pmem.specs.Lines.{word_of}
use Rattle.pb_pmem.proofs.Lines.{contents-none, contents-first, length-contents}
use Rattle.pb_pmem.proofs.AnyLemmas.{Any-here, Any-there, Any-cases}
use Rattle.pb_pmem.proofs.Words.{word_of-applied}
use Rattle.pb_crash.specs.Leaves.{filled}
use Rattle.pb_crash.specs.Picked.{flooded, with_loose, picked}
use Rattle.pb_crash.specs.Within.{is_within}
use Rattle.std.proofs.lemmas.Bool.{and_parts}
use Rattle.pb_crash.proofs.Doing.{length-with_loose}

pub length-picked : (base : List Line) (log : List LogOp) (cut pick : ℕ) → length (picked base log cut pick) ≡ length base
length-picked base log cut pick =
    length-with_loose pick (loose_writes cut log) (settled_content base cut log) ∙ length-contents base (settled_writes cut log)

-- each word is as it was, or as an operation may write it
word_of-contents : (lines : List Line) (log : List LogOp) (line word : ℕ) → (word_of (contents lines log) line word ≡ word_of lines line word) ⊎ Any (MayWrite line word (word_of (contents lines log) line word)) log
word_of-contents lines [] line word = inl (ap (λ l. word_of l line word) (contents-none lines))
word_of-contents lines (op ∷ log) line word =
    rw contents-first (go (word_of-contents (applied op lines) log line word) (word_of-applied op lines line word))
  where
    go : (word_of (contents (applied op lines) log) line word ≡ word_of (applied op lines) line word) ⊎ Any (MayWrite line word (word_of (contents (applied op lines) log) line word)) log → (word_of (applied op lines) line word ≡ word_of lines line word) ⊎ MayWrite line word (word_of (applied op lines) line word) op → (word_of (contents (applied op lines) log) line word ≡ word_of lines line word) ⊎ Any (MayWrite line word (word_of (contents (applied op lines) log) line word)) (op ∷ log)
    go (inr later) first = inr (Any-there _ op log later)
    go (inl same) (inl still) = inl (same ∙ still)
    go (inl same) (inr written) =
        inr (Any-here _ op log (subst (λ x. MayWrite line word x op) (sym same) written))

-- a flood may write what a whole line may
Any-flooded : (pick line word value : ℕ) (log : List LogOp) → Any (MayWrite line word value) (flooded pick log) → Any (MayWrite line word value) log
unfolding flooded
Any-flooded pick line word value [] h = h
Any-flooded pick line word value (Whole at to ∷ log) h =
    go (Any-flooded pick line word value log) (Any-cases (MayWrite line word value) (Whole at (filled pick)) (flooded pick log) h)
  where
    go : (Any (MayWrite line word value) (flooded pick log) → Any (MayWrite line word value) log) → (at ≡ line) ⊎ Any (MayWrite line word value) (flooded pick log) → Any (MayWrite line word value) (Whole at to ∷ log)
    go rest (inl e) = Any-here (MayWrite line word value) (Whole at to) log e
    go rest (inr a) = Any-there (MayWrite line word value) (Whole at to) log (rest a)
Any-flooded pick line word value (Word at place to ∷ log) h =
    Any-there (MayWrite line word value) (Word at place to) log (Any-flooded pick line word value log h)
Any-flooded pick line word value (Back first count ∷ log) h =
    Any-there (MayWrite line word value) (Back first count) log (Any-flooded pick line word value log h)
Any-flooded pick line word value (Fence ∷ log) h =
    Any-there (MayWrite line word value) Fence log (Any-flooded pick line word value log h)
Any-flooded pick line word value (Sync ∷ log) h =
    Any-there (MayWrite line word value) Sync log (Any-flooded pick line word value log h)

word_of-with_loose : (pick : ℕ) (loose : List LogOp) (lines : List Line) (line word : ℕ) → (word_of (with_loose pick loose lines) line word ≡ word_of lines line word) ⊎ Any (MayWrite line word (word_of (with_loose pick loose lines) line word)) loose
word_of-with_loose pick loose lines line word = go (eqb pick 0) (eqb pick 1)
  where
    flood : (word_of (contents (contents lines loose) (flooded pick loose)) line word ≡ word_of (contents lines loose) line word) ⊎ Any (MayWrite line word (word_of (contents (contents lines loose) (flooded pick loose)) line word)) (flooded pick loose) → (word_of (contents lines loose) line word ≡ word_of lines line word) ⊎ Any (MayWrite line word (word_of (contents lines loose) line word)) loose → (word_of (contents (contents lines loose) (flooded pick loose)) line word ≡ word_of lines line word) ⊎ Any (MayWrite line word (word_of (contents (contents lines loose) (flooded pick loose)) line word)) loose
    flood (inr a) before = inr (Any-flooded pick line word _ loose a)
    flood (inl same) (inl still) = inl (same ∙ still)
    flood (inl same) (inr a) = inr (subst (λ x. Any (MayWrite line word x) loose) (sym same) a)

    go : (a b : Bool) → (word_of (cond a lines (cond b (contents lines loose) (contents (contents lines loose) (flooded pick loose)))) line word ≡ word_of lines line word) ⊎ Any (MayWrite line word (word_of (cond a lines (cond b (contents lines loose) (contents (contents lines loose) (flooded pick loose)))) line word)) loose
    go true b = inl refl
    go false true = word_of-contents lines loose line word
    go false false =
        flood (word_of-contents (contents lines loose) (flooded pick loose) line word) (word_of-contents lines loose line word)

-- a crash may leave it
pub IsCrashImageAtCut-picked : (base : List Line) (log : List LogOp) (cut pick : ℕ) → IsCrashImageAtCut base log cut (picked base log cut pick)
IsCrashImageAtCut-picked base log cut pick =
    record {
      lines = length-picked base log cut pick;
      words = λ line word. word_of-with_loose pick (loose_writes cut log) (settled_content base cut log) line word;
    }
