-- Operations that lie within the device, done to lines one after the other.
use Rattle.std.proofs.Common.{◌≡◌, ℕ, zero, suc, ◌+◌, ◌<◌, ◌≤◌, Bool, true, false, cond, IsTrue, eqb, List, [], ◌∷◌, ◌++◌, length, get_or, take, drop, ap, sym, refl, ◌∙◌, arith}
use Rattle.std.specs.List.{list_all}
use Rattle.std.proofs.lemmas.Bool.{and_parts}
use Rattle.std.proofs.lemmas.List.{take-append-drop, drop_all}
use Rattle.std.proofs.lemmas.List.Folds.{list_all-append}
use Rattle.pb_pmem.specs.declared.line.Line.{Line}
use Rattle.pb_pmem.specs.declared.log.LogOp.{LogOp}
use Rattle.pb_pmem.specs.declared.log.LogOp.TheVariants.{Whole, Word, Back, Fence, Sync}
use Rattle.pb_pmem.specs.Contents.{applied, contents}
use Rattle.pb_pmem.specs.Crash.{is_backed, is_unbacked, line_written, backed_writes, unbacked_writes}
use Rattle.pb_pmem.proofs.Lines.{contents-none, contents-first, contents-append, length-contents}
use Rattle.pb_crash.specs.Picked.{flood_of, flooded, with_loose}
use Rattle.pb_crash.specs.Within.{is_within}
use Rattle.pb_crash.proofs.Steps.{at_place}

-- Within the device

pub within_at : (log : List LogOp) (i : ℕ) (d : LogOp) → IsTrue (list_all is_within log) → i < length log → IsTrue (is_within (get_or log i d))
within_at [] i d h inside = absurd (omega arith)
within_at (op ∷ log) zero d h inside = (and_parts (is_within op) (list_all is_within log) h).0
within_at (op ∷ log) (suc i) d h inside =
    within_at log i d (and_parts (is_within op) (list_all is_within log) h).1 (omega arith)

pub within_item : (log : List LogOp) (i : ℕ) (op : LogOp) → IsTrue (list_all is_within log) → i < length log → op ≡ get_or log i op → IsTrue (is_within op)
within_item log i op h inside e = rw e (within_at log i op h inside)

within_parts : (n : ℕ) (log : List LogOp) → IsTrue (list_all is_within log) → IsTrue (list_all is_within (take n log)) × IsTrue (list_all is_within (drop n log))
within_parts n log h =
    and_parts (list_all is_within (take n log)) (list_all is_within (drop n log)) (sym (list_all-append is_within (take n log) (drop n log)) ∙ (ap (list_all is_within) (take-append-drop n log) ∙ h))

pub within-take : (n : ℕ) (log : List LogOp) → IsTrue (list_all is_within log) → IsTrue (list_all is_within (take n log))
within-take n log h = (within_parts n log h).0

pub within-drop : (n : ℕ) (log : List LogOp) → IsTrue (list_all is_within log) → IsTrue (list_all is_within (drop n log))
within-drop n log h = (within_parts n log h).1

-- Doing

pub contents_step : (lines : List Line) (log : List LogOp) (i : ℕ) (op : LogOp) → i < length log → op ≡ get_or log i op → contents (applied op lines) (drop (i + 1) log) ≡ contents lines (drop i log)
contents_step lines log i op inside e =
    sym (ap (contents lines) (at_place log i op inside e) ∙ contents-first lines op (drop (i + 1) log))

pub contents_all : (lines : List Line) (log : List LogOp) (i : ℕ) → length log ≤ i → contents lines (drop i log) ≡ lines
contents_all lines log i past = ap (contents lines) (drop_all i log past) ∙ contents-none lines

pub flooded-first : (value : ℕ) (op : LogOp) (log : List LogOp) → flooded value (op ∷ log) ≡ flood_of value op [] ++ flooded value log
unfolding flooded
flooded-first value (Whole line to) log = refl
flooded-first value (Word line word to) log = refl
flooded-first value (Back first count) log = refl
flooded-first value Fence log = refl
flooded-first value Sync log = refl

pub flooded-nil : (value : ℕ) → flooded value [] ≡ []
unfolding flooded
flooded-nil value = refl

pub flood_step : (value : ℕ) (lines : List Line) (log : List LogOp) (i : ℕ) (op : LogOp) → i < length log → op ≡ get_or log i op → contents (contents lines (flood_of value op [])) (flooded value (drop (i + 1) log)) ≡ contents lines (flooded value (drop i log))
flood_step value lines log i op inside e =
    sym (ap (λ l. contents lines (flooded value l)) (at_place log i op inside e) ∙ (ap (contents lines) (flooded-first value op (drop (i + 1) log)) ∙ contents-append lines (flood_of value op []) (flooded value (drop (i + 1) log))))

pub flood_all : (value : ℕ) (lines : List Line) (log : List LogOp) (i : ℕ) → length log ≤ i → contents lines (flooded value (drop i log)) ≡ lines
flood_all value lines log i past =
    ap (λ l. contents lines (flooded value l)) (drop_all i log past) ∙ (ap (contents lines) (flooded-nil value) ∙ contents-none lines)

-- no flood without a whole line
pub flood_none : (value : ℕ) (op : LogOp) → ((line : ℕ) (to : Line) → op ≡ Whole line to → ⊥) → flood_of value op [] ≡ []
flood_none value (Whole line to) h = absurd (h line to refl)
flood_none value (Word line word to) h = refl
flood_none value (Back first count) h = refl
flood_none value Fence h = refl
flood_none value Sync h = refl

-- as many lines as before
pub length-with_loose : (pick : ℕ) (loose : List LogOp) (lines : List Line) → length (with_loose pick loose lines) ≡ length lines
length-with_loose pick loose lines = go (eqb pick 0) (eqb pick 1)
  where
    go : (a b : Bool) → length (cond a lines (cond b (contents lines loose) (contents (contents lines loose) (flooded pick loose)))) ≡ length lines
    go true b = refl
    go false true = length-contents lines loose
    go false false = length-contents (contents lines loose) (flooded pick loose) ∙ length-contents lines loose
