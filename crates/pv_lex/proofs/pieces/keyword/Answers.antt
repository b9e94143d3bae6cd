use Rattle.std.proofs.Common.{rules, [], ◌∷◌, get_or, refl, sym, ◌∙◌}
use Rattle.std.proofs.lemmas.Bool.{eqb-true}
use Rattle.pv_lex.specs.Words.{words}
use Rattle.pv_lex.proofs.Beginnings.{some_byte, apart, row_under, no_row, no_row_empty}
use Rattle.pv_lex.proofs.pieces.keyword.Goals as goal

-- a text that begins with a byte has its keyword among those under the byte
pub returns-in-95 : goal.returns-in-95
unfolding words
returns-in-95 c = c.row_of.ensures ∙ row_under words 95 c.args.word.now (some_byte c.args.word.now c.is_empty.result c.is_empty.ensures c.if-is_empty.false) c.in-95.is

pub returns-in-97 : goal.returns-in-97
unfolding words
returns-in-97 c = c.row_of-in-97.ensures ∙ row_under words 97 c.args.word.now (some_byte c.args.word.now c.is_empty.result c.is_empty.ensures c.if-is_empty.false) c.in-97.is

pub returns-in-98 : goal.returns-in-98
unfolding words
returns-in-98 c = c.row_of-in-98.ensures ∙ row_under words 98 c.args.word.now (some_byte c.args.word.now c.is_empty.result c.is_empty.ensures c.if-is_empty.false) c.in-98.is

pub returns-in-99 : goal.returns-in-99
unfolding words
returns-in-99 c = c.row_of-in-99.ensures ∙ row_under words 99 c.args.word.now (some_byte c.args.word.now c.is_empty.result c.is_empty.ensures c.if-is_empty.false) c.in-99.is

pub returns-in-100 : goal.returns-in-100
unfolding words
returns-in-100 c = c.row_of-in-100.ensures ∙ row_under words 100 c.args.word.now (some_byte c.args.word.now c.is_empty.result c.is_empty.ensures c.if-is_empty.false) c.in-100.is

pub returns-in-101 : goal.returns-in-101
unfolding words
returns-in-101 c = c.row_of-in-101.ensures ∙ row_under words 101 c.args.word.now (some_byte c.args.word.now c.is_empty.result c.is_empty.ensures c.if-is_empty.false) c.in-101.is

pub returns-in-102 : goal.returns-in-102
unfolding words
returns-in-102 c = c.row_of-in-102.ensures ∙ row_under words 102 c.args.word.now (some_byte c.args.word.now c.is_empty.result c.is_empty.ensures c.if-is_empty.false) c.in-102.is

pub returns-in-103 : goal.returns-in-103
unfolding words
returns-in-103 c = c.row_of-in-103.ensures ∙ row_under words 103 c.args.word.now (some_byte c.args.word.now c.is_empty.result c.is_empty.ensures c.if-is_empty.false) c.in-103.is

pub returns-in-105 : goal.returns-in-105
unfolding words
returns-in-105 c = c.row_of-in-105.ensures ∙ row_under words 105 c.args.word.now (some_byte c.args.word.now c.is_empty.result c.is_empty.ensures c.if-is_empty.false) c.in-105.is

pub returns-in-108 : goal.returns-in-108
unfolding words
returns-in-108 c = c.row_of-in-108.ensures ∙ row_under words 108 c.args.word.now (some_byte c.args.word.now c.is_empty.result c.is_empty.ensures c.if-is_empty.false) c.in-108.is

pub returns-in-114 : goal.returns-in-114
unfolding words
returns-in-114 c = c.row_of-in-114.ensures ∙ row_under words 114 c.args.word.now (some_byte c.args.word.now c.is_empty.result c.is_empty.ensures c.if-is_empty.false) c.in-114.is

pub returns-in-115 : goal.returns-in-115
unfolding words
returns-in-115 c = c.row_of-in-115.ensures ∙ row_under words 115 c.args.word.now (some_byte c.args.word.now c.is_empty.result c.is_empty.ensures c.if-is_empty.false) c.in-115.is

pub returns-in-116 : goal.returns-in-116
unfolding words
returns-in-116 c = c.row_of-in-116.ensures ∙ row_under words 116 c.args.word.now (some_byte c.args.word.now c.is_empty.result c.is_empty.ensures c.if-is_empty.false) c.in-116.is

pub returns-in-117 : goal.returns-in-117
unfolding words
returns-in-117 c = c.row_of-in-117.ensures ∙ row_under words 117 c.args.word.now (some_byte c.args.word.now c.is_empty.result c.is_empty.ensures c.if-is_empty.false) c.in-117.is

pub returns-in-118 : goal.returns-in-118
unfolding words
returns-in-118 c = c.row_of-in-118.ensures ∙ row_under words 118 c.args.word.now (some_byte c.args.word.now c.is_empty.result c.is_empty.ensures c.if-is_empty.false) c.in-118.is

pub returns-in-119 : goal.returns-in-119
unfolding words
returns-in-119 c = c.row_of-in-119.ensures ∙ row_under words 119 c.args.word.now (some_byte c.args.word.now c.is_empty.result c.is_empty.ensures c.if-is_empty.false) c.in-119.is

pub returns-in_default : goal.returns-in_default
unfolding words
returns-in_default c = sym (no_row words (95 ∷ 97 ∷ 98 ∷ 99 ∷ 100 ∷ 101 ∷ 102 ∷ 103 ∷ 105 ∷ 108 ∷ 114 ∷ 115 ∷ 116 ∷ 117 ∷ 118 ∷ 119 ∷ []) c.args.word.now (some_byte c.args.word.now c.is_empty.result c.is_empty.ensures c.if-is_empty.false) refl (apart (95 ∷ 97 ∷ 98 ∷ 99 ∷ 100 ∷ 101 ∷ 102 ∷ 103 ∷ 105 ∷ 108 ∷ 114 ∷ 115 ∷ 116 ∷ 117 ∷ 118 ∷ 119 ∷ []) (get_or c.args.word.now 0 0) (search rules)))

pub returns-then-is_empty : goal.returns-then-is_empty
unfolding words
returns-then-is_empty c = sym (no_row_empty words (95 ∷ 97 ∷ 98 ∷ 99 ∷ 100 ∷ 101 ∷ 102 ∷ 103 ∷ 105 ∷ 108 ∷ 114 ∷ 115 ∷ 116 ∷ 117 ∷ 118 ∷ 119 ∷ []) c.args.word.now (eqb-true _ 0 (sym c.is_empty.ensures ∙ c.if-is_empty.true)) refl)
