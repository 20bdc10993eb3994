-- The request lines of a source are counted.
use Rattle.std.proofs.Common.{◌≡◌, ℕ, suc, List, [], ◌∷◌, true, false, length, ap, ◌∙◌}
use Rattle.pb_script.specs.Script.{request_lines}
use Rattle.pb_script.specs.Words.{fields, is_request, lines}
use Rattle.pb_script.proofs.Cuts.{lines_none}
use Rattle.pb_script.proofs.Steps.{request_lines_none, request_lines_skipping, request_lines_taking}

pub one_more : (rest line after : List ℕ) → lines rest ≡ line ∷ lines after → is_request (fields line) ≡ true → length (request_lines (lines rest)) ≡ suc (length (request_lines (lines after)))
one_more rest line after cut asks = ap (λ ls. length (request_lines ls)) cut ∙ ap length (request_lines_taking line (lines after) asks)

pub no_more : (rest line after : List ℕ) → lines rest ≡ line ∷ lines after → is_request (fields line) ≡ false → length (request_lines (lines rest)) ≡ length (request_lines (lines after))
no_more rest line after cut asks = ap (λ ls. length (request_lines ls)) cut ∙ ap length (request_lines_skipping line (lines after) asks)

pub none_left : (rest : List ℕ) → rest ≡ [] → length (request_lines (lines rest)) ≡ 0
none_left rest none = ap (λ text. length (request_lines (lines text))) none ∙ (ap (λ ls. length (request_lines ls)) lines_none ∙ ap length request_lines_none)
