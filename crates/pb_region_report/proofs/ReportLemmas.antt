-- The report of a region, by its count and its lines.
use Rattle.std.proofs.Common.{◌≡◌, ℕ, List, [], ◌∷◌, ◌++◌, sym, ap, ◌∙◌}
use Rattle.pb_object.specs.Standing.{Standing, newest_of}
use Rattle.pb_report.specs.Pieces.{joined, numbered, section_of}
use Rattle.pb_region_report.specs.ReportText.{client_line, clients_text, head_text, region_text, state_text, report_text}

pub report_is : (s : Standing) (word bytes : List ℕ) (line : ℕ → List ℕ) (lines n count : ℕ)
    → state_text s.state ≡ numbered word (count ∷ []) ++ joined line lines → bytes ≡ numbered word (n ∷ []) → n ≡ count
    → region_text s ++ section_of bytes line lines ≡ report_text s
unfolding report_text section_of
report_is s word bytes line lines n count state is same =
    ap (λ (text : List ℕ). region_text s ++ (text ++ joined line lines)) (is ∙ ap (λ (m : ℕ). numbered word (m ∷ [])) same)
    ∙ ap (λ (text : List ℕ). region_text s ++ text) (sym state)

pub region_is : (s : Standing) (head : List ℕ) → head ≡ head_text s
    → section_of head (λ client. client_line client (newest_of s client)) s.clients ≡ region_text s
unfolding section_of
region_is s head is = ap (λ (text : List ℕ). text ++ clients_text s) is
