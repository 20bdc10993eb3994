-- What comes of the holder's calls of the device, as memory sees it. The device itself isn't named here.
use Rattle.std.specs.Prelude.{◌≡◌, ℕ, List, [], ◌∷◌, Some, None}
use Rattle.pb_object.specs.declared.request.Ask.{Ask}
use Rattle.pb_object.specs.History.{Entry, Round, after_entry}
use Rattle.pb_object.specs.Object.{reply_of}
use Rattle.pb_object.specs.Standing.{Standing}
use Rattle.pb_pmem.specs.Count.{Rose}
use Rattle.pb_core.specs.Client.{entry_by}
use Rattle.pb_core.specs.Memory.{Held, AtNumber, Settling, Scanning, Calling, Filling, Noting, Resting, Recorded, Writing, Doubtful, Memory, clients_of, known_standing}

-- requests that are applied one after the other, with the object's replies
abbrev pub entries_by : Standing → List Ask → List Entry
entries_by s [] = []
entries_by s (ask ∷ asks) = entry_by ask (reply_of s.state ask.op) ∷ entries_by (after_entry s (entry_by ask (reply_of s.state ask.op))) asks

-- the round of these requests
abbrev pub round_by : ℕ → Standing → List Ask → Round
round_by side s asks = record { side = side; entries = entries_by s asks }

-- all clients are scanned: the round of the requests that were seen begins
pub record Begins (old : Memory) (c : ℕ) (new : Memory) : Type 0 where
  pub side : ℕ
  pub holds : old.owner ≡ Held c side
  pub seen : List Ask
  pub at : old.work ≡ Scanning (clients_of old) AtNumber seen
  pub is : new ≡ record old { ahead = Some (round_by side (known_standing old) seen); work = Calling; engine = Writing }

-- its calls are made: it is recorded, and the replies come next
pub record Records (old : Memory) (c : ℕ) (new : Memory) : Type 0 where
  pub side : ℕ
  pub holds : old.owner ≡ Held c side
  pub at : old.work ≡ Calling
  pub is : new ≡ record old { work = Filling 0; engine = Recorded }

-- the calls of settling are made. No round was in doubt: the scan begins, ..
pub record SettlesNone (old : Memory) (c : ℕ) (new : Memory) : Type 0 where
  pub side : ℕ
  pub holds : old.owner ≡ Held c side
  pub at : old.work ≡ Settling
  pub none : old.ahead ≡ None
  pub is : new ≡ record old { work = Scanning 0 AtNumber []; engine = Resting }

-- .. or one was: it is recorded now
pub record SettlesRound (old : Memory) (c : ℕ) (new : Memory) : Type 0 where
  pub side : ℕ
  pub holds : old.owner ≡ Held c side
  pub round : Round
  pub at : old.work ≡ Settling
  pub some : old.ahead ≡ Some round
  pub is : new ≡ record old { work = Filling 0; engine = Recorded }

-- a call of settling fails: what was in doubt is so still
pub record FailsSettling (old : Memory) (c : ℕ) (new : Memory) : Type 0 where
  pub side : ℕ
  pub holds : old.owner ≡ Held c side
  pub to : ℕ
  pub at : old.work ≡ Settling
  pub rose : Rose old.count to
  pub is : new ≡ record old { count = to; work = Noting old.count to }

-- a call of the round fails before its index word is called: the round is dropped, ..
pub record FailsBefore (old : Memory) (c : ℕ) (new : Memory) : Type 0 where
  pub side : ℕ
  pub holds : old.owner ≡ Held c side
  pub to : ℕ
  pub at : old.work ≡ Calling
  pub rose : Rose old.count to
  pub is : new ≡ record old { count = to; work = Noting old.count to; ahead = None; engine = Doubtful }

-- .. or from then on: it is in doubt
pub record FailsAfter (old : Memory) (c : ℕ) (new : Memory) : Type 0 where
  pub side : ℕ
  pub holds : old.owner ≡ Held c side
  pub to : ℕ
  pub at : old.work ≡ Calling
  pub rose : Rose old.count to
  pub is : new ≡ record old { count = to; work = Noting old.count to; engine = Doubtful }

pub data HolderMove (old : Memory) (c : ℕ) (new : Memory) : Type 0 where
  beginning : Begins old c new → HolderMove old c new
  recording : Records old c new → HolderMove old c new
  settling_none : SettlesNone old c new → HolderMove old c new
  settling_round : SettlesRound old c new → HolderMove old c new
  failing_settling : FailsSettling old c new → HolderMove old c new
  failing_before : FailsBefore old c new → HolderMove old c new
  failing_after : FailsAfter old c new → HolderMove old c new
