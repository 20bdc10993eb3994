-- What a client's kept requests tell of a request that is asked again.
use Rattle.std.specs.Prelude.{ℕ, ◌+◌, ◌==◌, nat_le, List, Option, Some, None, if◌then◌else◌}
use Rattle.pb_object.specs.declared.request.Kept.{Kept as KeptRequest}
use Rattle.pb_object.specs.declared.request.Op.{Op}
use Rattle.pb_object.specs.Standing.{newest}
use Rattle.pb_shared.specs.declared.answers.Again.{Again}
use Rattle.pb_shared.specs.declared.answers.Again.TheVariants.{Announced, Kept, Old, Gap, Changed}
use Rattle.pb_object.specs.KeptLists.{kept_with}
use Rattle.pb_object.specs.Request.{is_same_op}

-- a request up to the last one: the member with its number decides, and none is left of an old one
abbrev pub again_by : Option KeptRequest → (last : ℕ) → Op → Again
again_by None last op = Old last
again_by (Some one) last op = if is_same_op one.op op then Kept one.reply else Changed one

abbrev pub again_on : List KeptRequest → (number : ℕ) → Op → Again
again_on list number op =
    if nat_le number (newest list).number then again_by (kept_with number list) (newest list).number op
    else (if number == (newest list).number + 1 then Announced else Gap (newest list).number)
