-- What a device may be found with, and when it may be opened: readiness.
use Rattle.std.specs.Prelude.{◌≡◌, ◌⊎◌, ℕ, List, [], ◌∷◌, ◌++◌, Option, Some, None, All}
use Rattle.pb_pmem.specs.declared.line.Line.{Line}
use Rattle.pb_pmem.specs.declared.log.LogOp.{LogOp}
use Rattle.pb_pmem.specs.declared.log.LogOp.TheVariants.{Whole, Word, Back, Fence, Sync}
use Rattle.pb_pmem.specs.Contents.{contents}
use Rattle.pb_pmem.specs.Crash.{IsCrashImage}
use Rattle.pb_object.specs.History.{Round, IsLegalRound, after_round}
use Rattle.pb_object.specs.Standing.{Standing, rounds_of, empty_standing}
use Rattle.pb_layout.specs.Damage.{HasRegion}
use Rattle.pb_layout.specs.Recovered.{Represents}
use Rattle.pb_layout.specs.declared.header.TheConstants.{MAGIC}

-- what lines represent: a standing, or nothing where there is no region
abbrev pub ImageRepresents : List Line → Option Standing → Type 0
ImageRepresents image None = ¬ HasRegion image
ImageRepresents image (Some s) = Represents image s

-- one of these
abbrev pub ImageRepresentsOne : List Line → List (Option Standing) → Type 0
ImageRepresentsOne image [] = ⊥
ImageRepresentsOne image (member ∷ members) = ImageRepresents image member ⊎ ImageRepresentsOne image members

-- a standing among these of which this holds
abbrev pub HasStanding : (Standing → Type 0) → List (Option Standing) → Type 0
HasStanding Holds [] = ⊥
HasStanding Holds (None ∷ members) = HasStanding Holds members
HasStanding Holds (Some s ∷ members) = Holds s ⊎ HasStanding Holds members

-- what settling may write for a standing: the magic, and the round number of a side, 0 where there is no such side
abbrev pub IsSettlingWord : ℕ → ℕ → ℕ → Standing → Type 0
IsSettlingWord line word to s =
    (word ≡ 0) × (((line ≡ 0) × (to ≡ MAGIC)) ⊎ (((line ≡ 1) × (to ≡ rounds_of s 0)) ⊎ ((line ≡ 2) × (to ≡ rounds_of s 1))))

-- what may be done to a device without changing what it may be found with
abbrev pub IsAllowed : List (Option Standing) → LogOp → Type 0
IsAllowed members (Whole line to) = ⊥
IsAllowed members (Word line word to) = HasStanding (IsSettlingWord line word to) members
IsAllowed members (Back first count) = Unit {0}
IsAllowed members Fence = Unit {0}
IsAllowed members Sync = Unit {0}

-- what may be said of a device: one member, or two. Two are a standing and what a legal round makes of it, or no region and one
-- in which nothing was asked yet
abbrev pub AreMembers : List (Option Standing) → Type 0
AreMembers [] = ⊥
AreMembers (member ∷ []) = Unit {0}
AreMembers (Some s ∷ Some t ∷ []) = (round : Round) × IsLegalRound s round × (t ≡ after_round s round)
AreMembers (None ∷ Some s ∷ []) = s ≡ empty_standing s.kind s.clients s.size
AreMembers (Some s ∷ None ∷ []) = ⊥
AreMembers (None ∷ None ∷ []) = ⊥
AreMembers (first ∷ second ∷ third ∷ members) = ⊥

-- the device represents one of these, and a crash leaves one of these, also after whatever is allowed to be done to it
pub record IsReady (base : List Line) (log : List LogOp) (members : List (Option Standing)) : Type 0 where
  pub shape : AreMembers members
  pub holds : ImageRepresentsOne (contents base log) members
  pub images : (more : List LogOp) → All (IsAllowed members) more → (image : List Line) → IsCrashImage base (log ++ more) image → ImageRepresentsOne image members
