-- What holds of all lines.
use Rattle.std.specs.Prelude.{◌≡◌, List}
use Rattle.pb_pmem.specs.declared.line.Line.{Line}
use Rattle.pb_object.specs.Standing.{Standing}
use Rattle.pb_layout.specs.Recovered.{Recovery, Recovers, Represents}

-- lines represent one standing at most
abbrev pub RepresentsOne : List Line → Type 0
RepresentsOne image = (s t : Standing) → Represents image s → Represents image t → s ≡ t

-- what lines hold is a function of them: there is an answer, and never two
pub record HasOneRecovery (image : List Line) : Type 0 where
  pub recovery : Recovery
  pub recovers : Recovers image recovery
  pub alone : (other : Recovery) → Recovers image other → other ≡ recovery
