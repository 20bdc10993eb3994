-- What a crash may leave, once more: by recursion on the last operation, for proofs.
-- A log stands here with its last operation first, and an image is a value for each line and word.
use Rattle.std.specs.Prelude.{◌≡◌, ℕ, ◌⊎◌, Bool, true, false, not, ◌||◌, ◌&&◌, ◌==◌, List, [], ◌∷◌, Option, Some, None, reverse, MatchBool}
use Rattle.pb_pmem.specs.declared.line.Line.{Line}
use Rattle.pb_pmem.specs.declared.log.LogOp.{LogOp}
use Rattle.pb_pmem.specs.Contents.{contents}
use Rattle.pb_pmem.specs.Lines.{word_of}
use Rattle.pb_pmem.specs.Crash.{is_mark, is_sync, is_back_of, line_written, MayWrite}

-- a value for each line and word
abbrev pub Words : Type 0
Words = ℕ → ℕ → ℕ

-- what a device holds after this past
abbrev pub now : List Line → List LogOp → List Line
now base past = contents base (reverse past)

-- what a mark put here would settle: after a `Back` of the line what the device holds, else a later write, or what a mark put earlier would
-- have settled
unfoldable pub AtNextMark : List Line → List LogOp → ℕ → ℕ → ℕ → Type 0
AtNextMark base [] line word value = value ≡ word_of base line word
AtNextMark base (op ∷ past) line word value =
    MatchBool (is_back_of line op) (value ≡ word_of (now base past) line word) (MayWrite line word value op ⊎ AtNextMark base past line word value)

-- what the greatest cut allows: after a mark what that mark settles, else a write, or what was allowed before
unfoldable pub Last : List Line → List LogOp → ℕ → ℕ → ℕ → Type 0
Last base [] line word value = value ≡ word_of base line word
Last base (op ∷ past) line word value =
    MatchBool (is_mark op) (AtNextMark base past line word value) (MayWrite line word value op ⊎ Last base past line word value)

-- a mark put here would settle this image
abbrev pub AllAtNextMark : List Line → List LogOp → Words → Type 0
AllAtNextMark base past image = (line word : ℕ) → AtNextMark base past line word (image line word)

-- the greatest cut allows this image
abbrev pub AllLast : List Line → List LogOp → Words → Type 0
AllLast base past image = (line word : ℕ) → Last base past line word (image line word)

-- what a crash may leave: after a sync what that sync settles, else what the greatest cut allows, or what might be left before
unfoldable pub Leaves : List Line → List LogOp → Words → Type 0
Leaves base [] image = AllLast base [] image
Leaves base (op ∷ past) image =
    MatchBool (is_sync op) (AllAtNextMark base past image) (AllLast base (op ∷ past) image ⊎ Leaves base past image)

-- a line that is written is this one
abbrev pub writes_line : ℕ → Option ℕ → Bool
writes_line line None = false
writes_line line (Some at) = at == line

-- the last write of a line, where there is one, has a `Back` of the line after it
unfoldable pub is_clean : ℕ → List LogOp → Bool
is_clean line [] = true
is_clean line (op ∷ past) = is_back_of line op || (not (writes_line line (line_written op)) && is_clean line past)

-- the two images differ only where the operation may have written
abbrev pub DiffersBy : LogOp → Words → Words → Type 0
DiffersBy op before image = (line word : ℕ) → (image line word ≡ before line word) ⊎ MayWrite line word (image line word) op

-- the lines that the operation gives to the device are those that it holds
abbrev pub IsGiven : LogOp → List Line → Words → Type 0
IsGiven op lines image = (line word : ℕ) → is_back_of line op ≡ true → image line word ≡ word_of lines line word

-- what is known of each image that a crash may leave, of each at the greatest cut, and of each that a mark put here would settle
pub record Bounds (base : List Line) (past : List LogOp) (A T S : Words → Type 0) : Type 0 where
  pub all : (image : Words) → Leaves base past image → A image
  pub last : (image : Words) → AllLast base past image → T image
  pub at_next_mark : (image : Words) → AllAtNextMark base past image → S image
