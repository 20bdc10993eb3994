use Rattle.std.proofs.Common.{◌≡◌, [], ◌∷◌, take, drop, sym, ap, ◌∙◌, arith}
use Rattle.std.proofs.lemmas.Bool.Decides.{nat_tests}
use Rattle.std.proofs.lemmas.List.{nil_from_length}
use Rattle.std.specs.List.{position_or_len}
use Rattle.pb_script.specs.Words.{is_blank, is_field_byte, words}
use Rattle.pb_script.proofs.Cuts.{words_after_blanks, words_at_word, words_none, no_blanks_after_blanks}
use Rattle.pb_script.proofs.words.cut_word.Goals as goal

pub returns-then-is_empty : goal.returns-then-is_empty
returns-then-is_empty c =
    let empty : c.split_at.result.1.now ≡ [] = nil_from_length c.split_at.result.1.now (grind (arith, nat_tests)) in
    let after : c.split_at.result.1.now ≡ drop (position_or_len is_field_byte c.args.text.now) c.args.text.now = c.split_at.ensures.back ∙ ap (λ n. drop n c.args.text.now) c.blanks_len.ensures.len in
    words_after_blanks c.args.text.now ∙ ap words (sym after ∙ empty) ∙ words_none

pub returns : goal.returns
returns c =
    let text = c.args.text.now in
    let rest = c.split_at.result.1.now in
    let after : rest ≡ drop (position_or_len is_field_byte text) text = c.split_at.ensures.back ∙ ap (λ n. drop n text) c.blanks_len.ensures.len in
    let prefix : position_or_len is_field_byte rest ≡ 0 = ap (position_or_len is_field_byte) after ∙ no_blanks_after_blanks text in
    let word : c.split_at-2.result.0.now ≡ take (position_or_len is_blank rest) rest = c.split_at-2.ensures.front ∙ ap (λ n. take n rest) c.word_len.ensures.len in
    let others : c.split_at-2.result.1.now ≡ drop (position_or_len is_blank rest) rest = c.split_at-2.ensures.back ∙ ap (λ n. drop n rest) c.word_len.ensures.len in
    words_after_blanks text ∙ ap words (sym after)
    ∙ words_at_word rest prefix (grind (arith, nat_tests))
    ∙ ap (λ w. w ∷ words (drop (position_or_len is_blank rest) rest)) (sym word)
    ∙ ap (λ o. c.split_at-2.result.0.now ∷ words o) (sym others)
