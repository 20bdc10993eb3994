use Rattle.std.proofs.Common.{◌≡◌, ◌+◌, ◌≤◌, [], ◌∷◌, length, take, drop, sym, ap, ◌∙◌, arith}
use Rattle.std.proofs.lemmas.List.{take_all, nil_from_length, drop-drop}
use Rattle.std.specs.List.{position_or_len}
use Rattle.pb_script.specs.Words.{is_line_end, lines}
use Rattle.pb_script.proofs.Cuts.{lines_last, lines_more, lines_none}
use Rattle.pb_script.proofs.words.cut_line.Goals as goal

pub returns-in-empty-clause-cut : goal.returns-in-empty-clause-cut
returns-in-empty-clause-cut c =
    let source = c.args.source.now in
    let last : length source ≤ position_or_len is_line_end source = omega (arith, c.line_len.ensures.len) in
    let whole : c.split_at.result.0.now ≡ source = c.split_at.ensures.front ∙ take_all c.line_len.result source (omega arith) in
    let empty : c.split_at.result.1.now ≡ [] = nil_from_length c.split_at.result.1.now (omega arith) in
    lines_last source c.requires last
    ∙ ap (λ line. line ∷ []) (sym whole) ∙ ap (λ rest. c.split_at.result.0.now ∷ rest) (sym (ap lines empty ∙ lines_none))

pub returns-in_default-clause-cut : goal.returns-in_default-clause-cut
returns-in_default-clause-cut c =
    let source = c.args.source.now in
    let len = c.line_len.ensures.len in
    let line : c.split_at.result.0.now ≡ take (position_or_len is_line_end source) source = c.split_at.ensures.front ∙ ap (λ n. take n source) len in
    let rest : c.split_at-in_default.result.1.now ≡ drop (position_or_len is_line_end source + 1) source =
    c.split_at-in_default.ensures.back ∙ ap (drop 1) (c.split_at.ensures.back ∙ ap (λ n. drop n source) len) ∙ drop-drop 1 (position_or_len is_line_end source) source in
    lines_more source (omega arith) ∙ ap (λ l. l ∷ lines (drop (position_or_len is_line_end source + 1) source)) (sym line)
    ∙ ap (λ r. c.split_at.result.0.now ∷ lines r) (sym rest)
