use Rattle.std.proofs.Common.{sym, ap, ◌∙◌}
use Rattle.pv_lex.specs.declared.pieces.Found.{Found}
use Rattle.pv_lex.specs.Pieces.{Here}
use Rattle.pv_lex.specs.Views.{what_of}
use Rattle.pv_lex.proofs.Beginnings.{some_byte}
use Rattle.pv_lex.proofs.WordFronts.{stands_word}
use Rattle.pv_lex.proofs.pieces.word_token.Goals as goal

pub returns : goal.returns
returns c = λ fresh.
    stands_word c.args.text.now (some_byte c.args.text.now c.is_empty.result c.is_empty.ensures c.if-is_empty.false) (sym c.is_white.ensures ∙ c.if-is_white.false) (sym c.is_letter.ensures ∙ c.if-not-is_letter.false) fresh
    ∙ sym c.in-Here.ensures
    ∙ ap (λ (w : Found). Here (record { what = what_of w; after = c.in-Here.after.now })) c.in-Spelling.is
