-- What a crash may leave of a device: the base that it began with, and the log of operations since then.
use Rattle.std.specs.Prelude.{◌≡◌, ℕ, zero, suc, ◌+◌, ◌≤◌, ◌⊎◌, Bool, true, false, ◌&&◌, not, nat_le, nat_lt, List, [], ◌∷◌, ◌++◌, length, take, Option, Some, None, Any, if◌then◌else◌}
use Rattle.std.specs.List.{list_any}
use Rattle.pb_pmem.specs.declared.line.Line.{Line}
use Rattle.pb_pmem.specs.declared.log.LogOp.{LogOp}
use Rattle.pb_pmem.specs.declared.log.LogOp.TheVariants.{Whole, Word, Back, Fence, Sync}
use Rattle.pb_pmem.specs.Contents.{contents}
use Rattle.pb_pmem.specs.Lines.{word_of}

-- Marks and cuts

-- a sync
abbrev pub is_sync : LogOp → Bool
is_sync Sync = true
is_sync _ = false

-- a mark is a fence or a sync
abbrev pub is_mark : LogOp → Bool
is_mark Fence = true
is_mark Sync = true
is_mark _ = false

-- how many marks a log has; they are numbered from 1
unfoldable pub marks : List LogOp → ℕ
marks [] = 0
marks (op ∷ log) = (if is_mark op then 1 else 0) + marks log

-- the log up to and with its last sync
unfoldable pub through_last_sync : List LogOp → List LogOp
through_last_sync [] = []
through_last_sync (op ∷ log) = if list_any is_sync (op ∷ log) then op ∷ through_last_sync log else []

-- the least cut that a crash may pick: the number of the last sync, which the device has reached, or 0 where there is none
abbrev pub least_cut : List LogOp → ℕ
least_cut log = marks (through_last_sync log)

-- the greatest cut that a crash may pick: the number of the last mark, which the device may have reached
abbrev pub greatest_cut : List LogOp → ℕ
greatest_cut log = marks log

-- the log up to and with mark `cut`; nothing for cut 0
unfoldable pub through_mark : ℕ → List LogOp → List LogOp
through_mark cut [] = []
through_mark zero (op ∷ log) = []
through_mark (suc cut) (op ∷ log) = op ∷ through_mark (if is_mark op then cut else suc cut) log

-- the log after mark `cut`; the whole log for cut 0
unfoldable pub after_mark : ℕ → List LogOp → List LogOp
after_mark cut [] = []
after_mark zero (op ∷ log) = op ∷ log
after_mark (suc cut) (op ∷ log) = after_mark (if is_mark op then cut else suc cut) log

-- the log before its first mark
unfoldable pub until_mark : List LogOp → List LogOp
until_mark [] = []
until_mark (op ∷ log) = if is_mark op then [] else op ∷ until_mark log

-- Settled, loose and barred writes

-- the line that an operation writes, whole or in part
abbrev pub line_written : LogOp → Option ℕ
line_written (Whole line to) = Some line
line_written (Word line word to) = Some line
line_written _ = None

-- the operation gives this line to the device
abbrev pub is_back_of : ℕ → LogOp → Bool
is_back_of line (Back first count) = nat_le first line && nat_lt line (first + count)
is_back_of line _ = false

-- a write of this line, if it is one, has a `Back` of the line after it
abbrev pub is_backed : Option ℕ → List LogOp → Bool
is_backed None after = false
is_backed (Some line) after = list_any (is_back_of line) after

-- a write of this line, if it is one, has none
abbrev pub is_unbacked : Option ℕ → List LogOp → Bool
is_unbacked None after = false
is_unbacked (Some line) after = not (list_any (is_back_of line) after)

-- the writes that have a `Back` of their line after them, in their order
unfoldable pub backed_writes : List LogOp → List LogOp
backed_writes [] = []
backed_writes (op ∷ log) = if is_backed (line_written op) log then op ∷ backed_writes log else backed_writes log

-- the writes that have no `Back` of their line after them, in their order
unfoldable pub unbacked_writes : List LogOp → List LogOp
unbacked_writes [] = []
unbacked_writes (op ∷ log) = if is_unbacked (line_written op) log then op ∷ unbacked_writes log else unbacked_writes log

-- a write is settled where a `Back` of its line stands after it and before mark `cut`
abbrev pub settled_writes : ℕ → List LogOp → List LogOp
settled_writes cut log = backed_writes (through_mark cut log)

-- the loose writes are those before mark `cut` that aren't settled, and all between it and the next mark; a write after mark `cut + 1`
-- is barred, and is neither settled nor loose
abbrev pub loose_writes : ℕ → List LogOp → List LogOp
loose_writes cut log =
    unbacked_writes (through_mark cut log) ++ until_mark (after_mark cut log)

-- What a crash may leave

-- the base with its settled writes in their order
abbrev pub settled_content : List Line → ℕ → List LogOp → List Line
settled_content base cut log = contents base (settled_writes cut log)

-- what a loose write may leave in a word: a whole line any value, one word its own
abbrev pub MayWrite : ℕ → ℕ → ℕ → LogOp → Type 0
MayWrite line word value (Whole at to) = at ≡ line
MayWrite line word value (Word at place to) = (at ≡ line) × (place ≡ word) × (to ≡ value)
MayWrite line word value _ = ⊥

-- an image that a crash at this cut may leave: each word has its settled value, or one that a loose write of it may leave
pub record IsCrashImageAtCut (base : List Line) (log : List LogOp) (cut : ℕ) (image : List Line) : Type 0 where
  pub lines : length image ≡ length base
  pub words : (line word : ℕ)
      → (word_of image line word ≡ word_of (settled_content base cut log) line word)
      ⊎ Any (MayWrite line word (word_of image line word)) (loose_writes cut log)

-- an image that a crash after the whole log may leave
pub record IsCrashImage (base : List Line) (log : List LogOp) (image : List Line) : Type 0 where
  pub cut : ℕ
  pub low : least_cut log ≤ cut
  pub high : cut ≤ greatest_cut log
  pub left : IsCrashImageAtCut base log cut image

-- an image that a crash may leave after the log's first `moment` operations
abbrev pub IsCrashImageAt : List Line → List LogOp → ℕ → List Line → Type 0
IsCrashImageAt base log moment image = IsCrashImage base (take moment log) image

-- a crash may leave one image alone, and that is the contents
pub record IsAtRest (base : List Line) (log : List LogOp) : Type 0 where
  pub left : IsCrashImageAt base log (length log) (contents base log)
  pub alone : (image : List Line) → IsCrashImageAt base log (length log) image → image ≡ contents base log
