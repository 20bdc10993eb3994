-- The plain form of a script.
use Rattle.std.specs.Prelude.{ℕ, List, ◌++◌, codes, decimal}
use Rattle.std.specs.List.{flat_map}
use Rattle.pb_object.specs.declared.request.Ask.{Ask}
use Rattle.pb_object.specs.Text.{op_text}

-- a request: client, number and operation, one space between fields and no leading zeros
abbrev pub request_text : Ask → List ℕ
request_text ask = decimal ask.client ++ (codes " " ++ (decimal ask.number ++ (codes " " ++ op_text ask.op)))

abbrev pub line_text : Ask → List ℕ
line_text ask = request_text ask ++ codes "\n"

-- a line for each request, and nothing else
unfoldable pub script_text : List Ask → List ℕ
script_text asks = flat_map line_text asks
