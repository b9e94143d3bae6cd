use Rattle.std.proofs.Common.{rules, [], ◌∷◌, get_or, refl, sym, ap, ◌∙◌}
use Rattle.std.specs.Option.{option_map}
use Rattle.std.proofs.lemmas.Bool.{eqb-true}
use Rattle.pv_token.specs.declared.marks.Mark.TheVariants as mark
use Rattle.pv_lex.specs.Marks.{marks}
use Rattle.pv_lex.proofs.Beginnings.{measured, some_byte, apart, first_alone, first_counted, no_first, no_first_empty}
use Rattle.pv_lex.proofs.pieces.front_mark.Goals as goal

-- bytes with which one punctuator alone begins
pub returns-in-91-clause-row : goal.returns-in-91-clause-row
unfolding marks
returns-in-91-clause-row c = first_alone marks 91 mark.OpenBracket c.args.text.now (some_byte c.args.text.now c.is_empty.result c.is_empty.ensures c.if-is_empty.false) c.in-91.is refl

pub returns-in-93-clause-row : goal.returns-in-93-clause-row
unfolding marks
returns-in-93-clause-row c = first_alone marks 93 mark.CloseBracket c.args.text.now (some_byte c.args.text.now c.is_empty.result c.is_empty.ensures c.if-is_empty.false) c.in-93.is refl

pub returns-in-40-clause-row : goal.returns-in-40-clause-row
unfolding marks
returns-in-40-clause-row c = first_alone marks 40 mark.OpenParen c.args.text.now (some_byte c.args.text.now c.is_empty.result c.is_empty.ensures c.if-is_empty.false) c.in-40.is refl

pub returns-in-41-clause-row : goal.returns-in-41-clause-row
unfolding marks
returns-in-41-clause-row c = first_alone marks 41 mark.CloseParen c.args.text.now (some_byte c.args.text.now c.is_empty.result c.is_empty.ensures c.if-is_empty.false) c.in-41.is refl

pub returns-in-123-clause-row : goal.returns-in-123-clause-row
unfolding marks
returns-in-123-clause-row c = first_alone marks 123 mark.OpenBrace c.args.text.now (some_byte c.args.text.now c.is_empty.result c.is_empty.ensures c.if-is_empty.false) c.in-123.is refl

pub returns-in-125-clause-row : goal.returns-in-125-clause-row
unfolding marks
returns-in-125-clause-row c = first_alone marks 125 mark.CloseBrace c.args.text.now (some_byte c.args.text.now c.is_empty.result c.is_empty.ensures c.if-is_empty.false) c.in-125.is refl

pub returns-in-126-clause-row : goal.returns-in-126-clause-row
unfolding marks
returns-in-126-clause-row c = first_alone marks 126 mark.Tilde c.args.text.now (some_byte c.args.text.now c.is_empty.result c.is_empty.ensures c.if-is_empty.false) c.in-126.is refl

pub returns-in-63-clause-row : goal.returns-in-63-clause-row
unfolding marks
returns-in-63-clause-row c = first_alone marks 63 mark.Question c.args.text.now (some_byte c.args.text.now c.is_empty.result c.is_empty.ensures c.if-is_empty.false) c.in-63.is refl

pub returns-in-59-clause-row : goal.returns-in-59-clause-row
unfolding marks
returns-in-59-clause-row c = first_alone marks 59 mark.Semicolon c.args.text.now (some_byte c.args.text.now c.is_empty.result c.is_empty.ensures c.if-is_empty.false) c.in-59.is refl

pub returns-in-44-clause-row : goal.returns-in-44-clause-row
unfolding marks
returns-in-44-clause-row c = first_alone marks 44 mark.Comma c.args.text.now (some_byte c.args.text.now c.is_empty.result c.is_empty.ensures c.if-is_empty.false) c.in-44.is refl

-- bytes with which several begin
pub returns-in-46-clause-row : goal.returns-in-46-clause-row
unfolding marks
returns-in-46-clause-row c = c.first_row.ensures.row ∙ first_counted marks 46 c.args.text.now (some_byte c.args.text.now c.is_empty.result c.is_empty.ensures c.if-is_empty.false) c.in-46.is

pub returns-in-60-clause-row : goal.returns-in-60-clause-row
unfolding marks
returns-in-60-clause-row c = c.first_row-in-60.ensures.row ∙ first_counted marks 60 c.args.text.now (some_byte c.args.text.now c.is_empty.result c.is_empty.ensures c.if-is_empty.false) c.in-60.is

pub returns-in-62-clause-row : goal.returns-in-62-clause-row
unfolding marks
returns-in-62-clause-row c = c.first_row-in-62.ensures.row ∙ first_counted marks 62 c.args.text.now (some_byte c.args.text.now c.is_empty.result c.is_empty.ensures c.if-is_empty.false) c.in-62.is

pub returns-in-45-clause-row : goal.returns-in-45-clause-row
unfolding marks
returns-in-45-clause-row c = c.first_row-in-45.ensures.row ∙ first_counted marks 45 c.args.text.now (some_byte c.args.text.now c.is_empty.result c.is_empty.ensures c.if-is_empty.false) c.in-45.is

pub returns-in-43-clause-row : goal.returns-in-43-clause-row
unfolding marks
returns-in-43-clause-row c = c.first_row-in-43.ensures.row ∙ first_counted marks 43 c.args.text.now (some_byte c.args.text.now c.is_empty.result c.is_empty.ensures c.if-is_empty.false) c.in-43.is

pub returns-in-61-clause-row : goal.returns-in-61-clause-row
unfolding marks
returns-in-61-clause-row c = c.first_row-in-61.ensures.row ∙ first_counted marks 61 c.args.text.now (some_byte c.args.text.now c.is_empty.result c.is_empty.ensures c.if-is_empty.false) c.in-61.is

pub returns-in-33-clause-row : goal.returns-in-33-clause-row
unfolding marks
returns-in-33-clause-row c = c.first_row-in-33.ensures.row ∙ first_counted marks 33 c.args.text.now (some_byte c.args.text.now c.is_empty.result c.is_empty.ensures c.if-is_empty.false) c.in-33.is

pub returns-in-38-clause-row : goal.returns-in-38-clause-row
unfolding marks
returns-in-38-clause-row c = c.first_row-in-38.ensures.row ∙ first_counted marks 38 c.args.text.now (some_byte c.args.text.now c.is_empty.result c.is_empty.ensures c.if-is_empty.false) c.in-38.is

pub returns-in-124-clause-row : goal.returns-in-124-clause-row
unfolding marks
returns-in-124-clause-row c = c.first_row-in-124.ensures.row ∙ first_counted marks 124 c.args.text.now (some_byte c.args.text.now c.is_empty.result c.is_empty.ensures c.if-is_empty.false) c.in-124.is

pub returns-in-42-clause-row : goal.returns-in-42-clause-row
unfolding marks
returns-in-42-clause-row c = c.first_row-in-42.ensures.row ∙ first_counted marks 42 c.args.text.now (some_byte c.args.text.now c.is_empty.result c.is_empty.ensures c.if-is_empty.false) c.in-42.is

pub returns-in-47-clause-row : goal.returns-in-47-clause-row
unfolding marks
returns-in-47-clause-row c = c.first_row-in-47.ensures.row ∙ first_counted marks 47 c.args.text.now (some_byte c.args.text.now c.is_empty.result c.is_empty.ensures c.if-is_empty.false) c.in-47.is

pub returns-in-37-clause-row : goal.returns-in-37-clause-row
unfolding marks
returns-in-37-clause-row c = c.first_row-in-37.ensures.row ∙ first_counted marks 37 c.args.text.now (some_byte c.args.text.now c.is_empty.result c.is_empty.ensures c.if-is_empty.false) c.in-37.is

pub returns-in-94-clause-row : goal.returns-in-94-clause-row
unfolding marks
returns-in-94-clause-row c = c.first_row-in-94.ensures.row ∙ first_counted marks 94 c.args.text.now (some_byte c.args.text.now c.is_empty.result c.is_empty.ensures c.if-is_empty.false) c.in-94.is

pub returns-in-58-clause-row : goal.returns-in-58-clause-row
unfolding marks
returns-in-58-clause-row c = c.first_row-in-58.ensures.row ∙ first_counted marks 58 c.args.text.now (some_byte c.args.text.now c.is_empty.result c.is_empty.ensures c.if-is_empty.false) c.in-58.is

pub returns-in_default-clause-row : goal.returns-in_default-clause-row
unfolding marks
returns-in_default-clause-row c = sym (ap (option_map measured) (no_first marks (91 ∷ 93 ∷ 40 ∷ 41 ∷ 123 ∷ 125 ∷ 126 ∷ 63 ∷ 59 ∷ 44 ∷ 46 ∷ 60 ∷ 62 ∷ 45 ∷ 43 ∷ 61 ∷ 33 ∷ 38 ∷ 124 ∷ 42 ∷ 47 ∷ 37 ∷ 94 ∷ 58 ∷ []) c.args.text.now (some_byte c.args.text.now c.is_empty.result c.is_empty.ensures c.if-is_empty.false) refl (apart (91 ∷ 93 ∷ 40 ∷ 41 ∷ 123 ∷ 125 ∷ 126 ∷ 63 ∷ 59 ∷ 44 ∷ 46 ∷ 60 ∷ 62 ∷ 45 ∷ 43 ∷ 61 ∷ 33 ∷ 38 ∷ 124 ∷ 42 ∷ 47 ∷ 37 ∷ 94 ∷ 58 ∷ []) (get_or c.args.text.now 0 0) (search rules))))

pub returns-then-is_empty-clause-row : goal.returns-then-is_empty-clause-row
unfolding marks
returns-then-is_empty-clause-row c = sym (ap (option_map measured) (no_first_empty marks (91 ∷ 93 ∷ 40 ∷ 41 ∷ 123 ∷ 125 ∷ 126 ∷ 63 ∷ 59 ∷ 44 ∷ 46 ∷ 60 ∷ 62 ∷ 45 ∷ 43 ∷ 61 ∷ 33 ∷ 38 ∷ 124 ∷ 42 ∷ 47 ∷ 37 ∷ 94 ∷ 58 ∷ []) c.args.text.now (eqb-true _ 0 (sym c.is_empty.ensures ∙ c.if-is_empty.true)) refl))
