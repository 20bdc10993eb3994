-- The lines that are held back for a file: the place of the first, and the bytes of all.
use Rattle.std.specs.Prelude.{◌≡◌, ◌⊎◌, ℕ, ◌+◌, ◌<◌, ◌≤◌, ◌/◌, ◌++◌, [], List, Option, Some, Result, MatchResult, length}
use Rattle.std.specs.Io.KnownBytes.{Appends}
use Rattle.pb_pmem.specs.declared.line.Line.{Line}
use Rattle.pb_file.specs.Bytes.{line_bytes}
use Rattle.pb_file.specs.declared.store.Store.{Store}

module _ {R F D : Type 0} where
  -- nothing is held back: what was has left
  abbrev pub HasLeft : Store R F D → Type 0
  HasLeft new = new.held.value.items ≡ []

  -- these bytes, if any, were the last that its file was given, where the file tells what it was given
  pub record IsGiven (contents : F → Option (List ℕ)) (store : Store R F D) (bytes : List ℕ) : Type 0 where
    pub before : F
    pub now : F
    pub opened : store.file.opened ≡ Some now
    pub bytes_are : Appends (contents before) (contents now) bytes

  -- what was held back was given to the file, or nothing was held back
  abbrev pub HasGiven : (F → Option (List ℕ)) → Store R F D → Store R F D → Type 0
  HasGiven contents old new = (old.held.value.items ≡ []) ⊎ IsGiven contents new old.held.value.items

  -- what was held back is so still
  pub record Keeps (old new : Store R F D) : Type 0 where
    pub first : new.first ≡ old.first
    pub held : new.held ≡ old.held

  -- the line stands behind those that are held back
  pub record IsNext (store : Store R F D) (line : ℕ) : Type 0 where
    pub some : 0 < length store.held.value.items / 64
    pub line_is : line ≡ store.first + length store.held.value.items / 64

  -- the line comes next, and there is room for it
  pub record Joins (store : Store R F D) (line : ℕ) : Type 0 where
    pub next : IsNext store line
    pub room : length store.held.value.items + 64 ≤ 4096

  -- a line was held back behind the others
  pub record HasJoined (old new : Store R F D) (line : ℕ) (from : Line) : Type 0 where
    pub joins : Joins old line
    pub first : new.first ≡ old.first
    pub held : new.held.value.items ≡ old.held.value.items ++ line_bytes from

  -- a line that doesn't join the others is held back alone
  pub record IsAlone (contents : F → Option (List ℕ)) (old new : Store R F D) (line : ℕ) (from : Line) : Type 0 where
    pub apart : ¬ Joins old line
    pub given : HasGiven contents old new
    pub first : new.first ≡ line
    pub held : new.held.value.items ≡ line_bytes from

  -- a line is held back: behind the others exactly where it joins them, else alone, once the others were given to the file
  abbrev pub HasHeld : (F → Option (List ℕ)) → Store R F D → Store R F D → ℕ → Line → Type 0
  HasHeld contents old new line from = HasJoined old new line from ⊎ IsAlone contents old new line from

  -- a call that lets the lines leave, and what it came to: after an error they may be held back still, as they were
  abbrev pub Sends : {T E : Type 0} → Store R F D → Store R F D → Result T E → Type 0
  Sends old new result = MatchResult result (λ _. HasLeft new) (λ _. HasLeft new ⊎ Keeps old new)

  -- a call that holds a line back, and what it came to: after an error it isn't held back, and the others are
  abbrev pub Holds : {T E : Type 0} → (F → Option (List ℕ)) → Store R F D → Store R F D → ℕ → Line → Result T E → Type 0
  Holds contents old new line from result = MatchResult result (λ _. HasHeld contents old new line from) (λ _. Keeps old new)
