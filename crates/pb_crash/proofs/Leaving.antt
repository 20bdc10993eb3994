-- What a crash leaves of settled and of loose writes, one after the other.
use Rattle.std.proofs.Common.{◌≡◌, ℕ, ◌+◌, ◌<◌, ◌≤◌, Bool, true, false, not, List, [], ◌∷◌, ◌++◌, length, get_or, drop, append_assoc, ap, sym, refl, ◌∙◌}
use Rattle.std.specs.Prelude.{◌==◌, ◌≢◌, if◌then◌else◌}
use Rattle.std.proofs.Common.{eqb}
use Rattle.std.proofs.lemmas.Bool.{ne_eqb, cond-false}
use Rattle.std.specs.List.{list_any}
use Rattle.std.proofs.lemmas.List.{drop_all}
use Rattle.pb_pmem.specs.declared.line.Line.{Line}
use Rattle.pb_pmem.specs.declared.log.LogOp.{LogOp}
use Rattle.pb_pmem.specs.declared.log.LogOp.TheVariants.{Whole, Word, Back, Fence, Sync}
use Rattle.pb_pmem.specs.Contents.{applied, contents}
use Rattle.pb_pmem.specs.Crash.{is_back_of, line_written, is_backed, is_unbacked, backed_writes, unbacked_writes}
use Rattle.pb_pmem.proofs.Lines.{contents-none, contents-first, contents-append, length-contents, length-applied}
use Rattle.pb_crash.specs.Picked.{flood_of, flooded, with_loose}
use Rattle.pb_crash.proofs.Doing.{flooded-first, flooded-nil}
use Rattle.pb_crash.proofs.Steps.{at_place}

backed-first : (op : LogOp) (log : List LogOp) → backed_writes (op ∷ log) ≡ (if is_backed (line_written op) log then op ∷ backed_writes log else backed_writes log)
unfolding backed_writes
backed-first op log = refl

backed-nil : backed_writes [] ≡ []
unfolding backed_writes
backed-nil = refl

unbacked-first : (op : LogOp) (log : List LogOp) → unbacked_writes (op ∷ log) ≡ (if is_unbacked (line_written op) log then op ∷ unbacked_writes log else unbacked_writes log)
unfolding unbacked_writes
unbacked-first op log = refl

unbacked-nil : unbacked_writes [] ≡ []
unfolding unbacked_writes
unbacked-nil = refl

-- a settled write is done
settle_by : (lines : List Line) (op : LogOp) (log : List LogOp) (b : Bool) → contents (if b then applied op lines else lines) (backed_writes log) ≡ contents lines (if b then op ∷ backed_writes log else backed_writes log)
settle_by lines op log true = sym (contents-first lines op (backed_writes log))
settle_by lines op log false = refl

pub settle_step : (lines : List Line) (log : List LogOp) (i : ℕ) (op : LogOp) (b : Bool) → i < length log → op ≡ get_or log i op → b ≡ is_backed (line_written op) (drop (i + 1) log) → contents (if b then applied op lines else lines) (backed_writes (drop (i + 1) log)) ≡ contents lines (backed_writes (drop i log))
settle_step lines log i op b inside e is =
    settle_by lines op (drop (i + 1) log) b
    ∙ (ap (λ (c : Bool). contents lines (if c then op ∷ backed_writes (drop (i + 1) log) else backed_writes (drop (i + 1) log))) is
    ∙ (ap (contents lines) (sym (backed-first op (drop (i + 1) log)))
    ∙ ap (λ (l : List LogOp). contents lines (backed_writes l)) (sym (at_place log i op inside e))))

pub settle_all : (lines : List Line) (log : List LogOp) (i : ℕ) → length log ≤ i → contents lines (backed_writes (drop i log)) ≡ lines
settle_all lines log i past =
    ap (λ (l : List LogOp). contents lines (backed_writes l)) (drop_all i log past) ∙ (ap (contents lines) backed-nil ∙ contents-none lines)

-- a loose write is done, and what is no write changes nothing
loose_by : (lines : List Line) (op : LogOp) (log rest : List LogOp) (b : Bool) → b ≡ is_backed (line_written op) log → contents (if not b then applied op lines else lines) rest ≡ contents lines (if is_unbacked (line_written op) log then op ∷ rest else rest)
loose_by lines (Whole line to) log rest b is =
    ap (λ (c : Bool). contents (if not c then applied (Whole line to) lines else lines) rest) is ∙ go (list_any (is_back_of line) log)
  where
    go : (c : Bool) → contents (if not c then applied (Whole line to) lines else lines) rest ≡ contents lines (if not c then Whole line to ∷ rest else rest)
    go true = refl
    go false = sym (contents-first lines (Whole line to) rest)
loose_by lines (Word line word to) log rest b is =
    ap (λ (c : Bool). contents (if not c then applied (Word line word to) lines else lines) rest) is ∙ go (list_any (is_back_of line) log)
  where
    go : (c : Bool) → contents (if not c then applied (Word line word to) lines else lines) rest ≡ contents lines (if not c then Word line word to ∷ rest else rest)
    go true = refl
    go false = sym (contents-first lines (Word line word to) rest)
loose_by lines (Back first count) log rest b is = ap (λ (c : Bool). contents (if not c then applied (Back first count) lines else lines) rest) is
loose_by lines Fence log rest b is = ap (λ (c : Bool). contents (if not c then applied Fence lines else lines) rest) is
loose_by lines Sync log rest b is = ap (λ (c : Bool). contents (if not c then applied Sync lines else lines) rest) is

pub loose_step : (lines : List Line) (log : List LogOp) (i : ℕ) (op : LogOp) (b : Bool) → i < length log → op ≡ get_or log i op → b ≡ is_backed (line_written op) (drop (i + 1) log) → contents (if not b then applied op lines else lines) (unbacked_writes (drop (i + 1) log)) ≡ contents lines (unbacked_writes (drop i log))
loose_step lines log i op b inside e is =
    loose_by lines op (drop (i + 1) log) (unbacked_writes (drop (i + 1) log)) b is
    ∙ (ap (contents lines) (sym (unbacked-first op (drop (i + 1) log)))
    ∙ ap (λ (l : List LogOp). contents lines (unbacked_writes l)) (sym (at_place log i op inside e)))

pub loose_all : (lines : List Line) (log : List LogOp) (i : ℕ) → length log ≤ i → contents lines (unbacked_writes (drop i log)) ≡ lines
loose_all lines log i past =
    ap (λ (l : List LogOp). contents lines (unbacked_writes l)) (drop_all i log past) ∙ (ap (contents lines) unbacked-nil ∙ contents-none lines)

-- .. or floods its line
flood_first : (value : ℕ) (lines : List Line) (op : LogOp) (rest : List LogOp) → contents (contents lines (flood_of value op [])) (flooded value rest) ≡ contents lines (flooded value (op ∷ rest))
flood_first value lines op rest = sym (ap (contents lines) (flooded-first value op rest) ∙ contents-append lines (flood_of value op []) (flooded value rest))

flood_by : (value : ℕ) (lines : List Line) (op : LogOp) (log rest : List LogOp) (b : Bool) → b ≡ is_backed (line_written op) log → contents (if b then lines else contents lines (flood_of value op [])) (flooded value rest) ≡ contents lines (flooded value (if is_unbacked (line_written op) log then op ∷ rest else rest))
flood_by value lines (Whole line to) log rest b is =
    ap (λ (c : Bool). contents (if c then lines else contents lines (flood_of value (Whole line to) [])) (flooded value rest)) is ∙ go (list_any (is_back_of line) log)
  where
    go : (c : Bool) → contents (if c then lines else contents lines (flood_of value (Whole line to) [])) (flooded value rest) ≡ contents lines (flooded value (if not c then Whole line to ∷ rest else rest))
    go true = refl
    go false = flood_first value lines (Whole line to) rest
flood_by value lines (Word line word to) log rest b is =
    ap (λ (c : Bool). contents (if c then lines else contents lines (flood_of value (Word line word to) [])) (flooded value rest)) is ∙ go (list_any (is_back_of line) log)
  where
    go : (c : Bool) → contents (if c then lines else contents lines (flood_of value (Word line word to) [])) (flooded value rest) ≡ contents lines (flooded value (if not c then Word line word to ∷ rest else rest))
    go true = refl
    go false = flood_first value lines (Word line word to) rest
flood_by value lines (Back first count) log rest b is = ap (λ (c : Bool). contents (if c then lines else contents lines []) (flooded value rest)) is ∙ ap (λ (l : List Line). contents l (flooded value rest)) (contents-none lines)
flood_by value lines Fence log rest b is = ap (λ (c : Bool). contents (if c then lines else contents lines []) (flooded value rest)) is ∙ ap (λ (l : List Line). contents l (flooded value rest)) (contents-none lines)
flood_by value lines Sync log rest b is = ap (λ (c : Bool). contents (if c then lines else contents lines []) (flooded value rest)) is ∙ ap (λ (l : List Line). contents l (flooded value rest)) (contents-none lines)

pub flood_loose_step : (value : ℕ) (lines : List Line) (log : List LogOp) (i : ℕ) (op : LogOp) (b : Bool) → i < length log → op ≡ get_or log i op → b ≡ is_backed (line_written op) (drop (i + 1) log) → contents (if b then lines else contents lines (flood_of value op [])) (flooded value (unbacked_writes (drop (i + 1) log))) ≡ contents lines (flooded value (unbacked_writes (drop i log)))
flood_loose_step value lines log i op b inside e is =
    flood_by value lines op (drop (i + 1) log) (unbacked_writes (drop (i + 1) log)) b is
    ∙ (ap (λ (l : List LogOp). contents lines (flooded value l)) (sym (unbacked-first op (drop (i + 1) log)))
    ∙ ap (λ (l : List LogOp). contents lines (flooded value (unbacked_writes l))) (sym (at_place log i op inside e)))

pub flood_loose_all : (value : ℕ) (lines : List Line) (log : List LogOp) (i : ℕ) → length log ≤ i → contents lines (flooded value (unbacked_writes (drop i log))) ≡ lines
flood_loose_all value lines log i past =
    ap (λ (l : List LogOp). contents lines (flooded value (unbacked_writes l))) (drop_all i log past) ∙ (ap (λ (l : List LogOp). contents lines (flooded value l)) unbacked-nil ∙ (ap (contents lines) (flooded-nil value) ∙ contents-none lines))

-- the length stays
pub length-settled : (lines : List Line) (op : LogOp) (b : Bool) → length (if b then applied op lines else lines) ≡ length lines
length-settled lines op true = length-applied op lines
length-settled lines op false = refl

pub length-flooded : (value : ℕ) (lines : List Line) (op : LogOp) (b : Bool) → length (if b then lines else contents lines (flood_of value op [])) ≡ length lines
length-flooded value lines op true = refl
length-flooded value lines op false = length-contents lines (flood_of value op [])

-- writes after writes flood as both
pub flooded-append : (value : ℕ) (a b : List LogOp) → flooded value (a ++ b) ≡ flooded value a ++ flooded value b
flooded-append value [] b = ap (λ (l : List LogOp). l ++ flooded value b) (sym (flooded-nil value))
flooded-append value (op ∷ a) b =
    flooded-first value op (a ++ b)
    ∙ (ap (λ (l : List LogOp). flood_of value op [] ++ l) (flooded-append value a b)
    ∙ (sym (append_assoc (flood_of value op []) (flooded value a) (flooded value b))
    ∙ ap (λ (l : List LogOp). l ++ flooded value b) (sym (flooded-first value op a))))

-- what a pick leaves, where it is neither nothing nor all
pub flood_pick : (pick : ℕ) (writes : List LogOp) (lines : List Line) → pick ≢ 0 → pick ≢ 1 → with_loose pick writes lines ≡ contents (contents lines writes) (flooded pick writes)
flood_pick pick writes lines some more =
    cond-false (eqb pick 0) lines (if pick == 1 then contents lines writes else contents (contents lines writes) (flooded pick writes)) (ne_eqb pick 0 some)
    ∙ cond-false (eqb pick 1) (contents lines writes) (contents (contents lines writes) (flooded pick writes)) (ne_eqb pick 1 more)

pub flood_both : (pick : ℕ) (lines all first second : List Line) (loose next : List LogOp) → all ≡ contents lines (loose ++ next) → first ≡ contents all (flooded pick loose) → second ≡ contents first (flooded pick next) → second ≡ contents (contents lines (loose ++ next)) (flooded pick (loose ++ next))
flood_both pick lines all first second loose next done one two =
    two
    ∙ (ap (λ (l : List Line). contents l (flooded pick next)) one
    ∙ (sym (contents-append all (flooded pick loose) (flooded pick next))
    ∙ (ap (contents all) (sym (flooded-append pick loose next))
    ∙ ap (λ (l : List Line). contents l (flooded pick (loose ++ next))) done)))

pub both_done : (lines first all : List Line) (loose next : List LogOp) → first ≡ contents lines loose → all ≡ contents first next → all ≡ contents lines (loose ++ next)
both_done lines first all loose next one two = two ∙ (ap (λ (l : List Line). contents l next) one ∙ sym (contents-append lines loose next))
