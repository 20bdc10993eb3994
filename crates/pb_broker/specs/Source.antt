-- What a call of the program reads of its source.
use Rattle.std.specs.Prelude.{◌≡◌, ℕ, suc, ◌≤◌, List, length}
use Rattle.std.specs.Io.KnownBytes.{Consumes, Keeps, IsAtEnd}
use Rattle.pb_broker.specs.declared.source.TheConstants.{SOURCE_LIMIT}
use Rattle.pb_broker.specs.Stream.{Stream, IsSound}

-- it is as it was
pub record IsUnread (read : Stream) : Type 0 where
  pub same : Keeps read.before read.after
  pub reads : IsSound read

-- some of its first bytes were read: one more than it may have at most
abbrev pub HasReadSome : Stream → Type 0
HasReadSome read = (front : List ℕ) × (length front ≤ suc SOURCE_LIMIT) × Consumes read.before read.after front

-- all of it was read: it has no more bytes than it may, and of these this holds
pub record IsReadWhole (Holds : List ℕ → Type 0) (read : Stream) : Type 0 where
  pub bytes : List ℕ
  pub taken : Consumes read.before read.after bytes
  pub end : IsAtEnd read.after
  pub few : length bytes ≤ SOURCE_LIMIT
  pub holds : Holds bytes
  pub sound : IsSound read

-- it has more bytes than it may: so many and one were read
pub record IsLong (read : Stream) : Type 0 where
  pub front : List ℕ
  pub many : length front ≡ suc SOURCE_LIMIT
  pub taken : Consumes read.before read.after front
  pub sound : IsSound read
