-- What the lines of a client so far say of its further ones.
use Rattle.std.specs.Prelude.{Bool, true, false, ◌||◌, List, [], ◌∷◌}
use Rattle.pb_object.specs.declared.request.Ask.{Ask}
use Rattle.pb_object.specs.declared.request.Kept.{Kept as KeptRequest}
use Rattle.pb_object.specs.History.{kept_by}
use Rattle.pb_object.specs.Standing.{keep}
use Rattle.pb_report.specs.declared.outcome.Outcome.{Outcome}
use Rattle.pb_report.specs.declared.outcome.Outcome.TheVariants.{New, Gap, Changed, Doubt}
use Rattle.pb_report.specs.Outcomes.{entry_of}

-- a client's further lines are left after this outcome
abbrev pub is_ending : Outcome → Bool
is_ending Gap = true
is_ending Changed = true
is_ending Doubt = true
is_ending _ = false

-- .. and after these lines
abbrev pub has_ended : List (Ask × Outcome) → Bool
has_ended [] = false
has_ended (line ∷ lines) = is_ending line.1 || has_ended lines

-- what is kept of a client after a line, and after several
abbrev pub kept_next : List KeptRequest → Ask → Outcome → List KeptRequest
kept_next kept ask (New reply) = keep (kept_by (entry_of ask reply)) kept
kept_next kept ask _ = kept

abbrev pub kept_after : List KeptRequest → List (Ask × Outcome) → List KeptRequest
kept_after kept [] = kept
kept_after kept (line ∷ lines) = kept_after (kept_next kept line.0 line.1) lines
