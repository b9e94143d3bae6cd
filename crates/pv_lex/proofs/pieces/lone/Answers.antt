use Rattle.std.proofs.Common.{refl}
use Rattle.pv_token.specs.declared.marks.Mark.TheVariants as mark
use Rattle.pv_lex.specs.Marks.{marks, mark_at}
use Rattle.pv_lex.specs.Stands.{stands}
use Rattle.pv_lex.proofs.LoneMarks.{stands_alone}
use Rattle.pv_lex.proofs.pieces.lone.Goals as goal

pub returns-in-91 : goal.returns-in-91
unfolding stands mark_at marks
returns-in-91 c = stands_alone 91 mark.OpenBracket c.args.b c.in-91.is (λ fresh rest. refl)

pub returns-in-93 : goal.returns-in-93
unfolding stands mark_at marks
returns-in-93 c = stands_alone 93 mark.CloseBracket c.args.b c.in-93.is (λ fresh rest. refl)

pub returns-in-40 : goal.returns-in-40
unfolding stands mark_at marks
returns-in-40 c = stands_alone 40 mark.OpenParen c.args.b c.in-40.is (λ fresh rest. refl)

pub returns-in-41 : goal.returns-in-41
unfolding stands mark_at marks
returns-in-41 c = stands_alone 41 mark.CloseParen c.args.b c.in-41.is (λ fresh rest. refl)

pub returns-in-123 : goal.returns-in-123
unfolding stands mark_at marks
returns-in-123 c = stands_alone 123 mark.OpenBrace c.args.b c.in-123.is (λ fresh rest. refl)

pub returns-in-125 : goal.returns-in-125
unfolding stands mark_at marks
returns-in-125 c = stands_alone 125 mark.CloseBrace c.args.b c.in-125.is (λ fresh rest. refl)

pub returns-in-126 : goal.returns-in-126
unfolding stands mark_at marks
returns-in-126 c = stands_alone 126 mark.Tilde c.args.b c.in-126.is (λ fresh rest. refl)

pub returns-in-63 : goal.returns-in-63
unfolding stands mark_at marks
returns-in-63 c = stands_alone 63 mark.Question c.args.b c.in-63.is (λ fresh rest. refl)

pub returns-in-59 : goal.returns-in-59
unfolding stands mark_at marks
returns-in-59 c = stands_alone 59 mark.Semicolon c.args.b c.in-59.is (λ fresh rest. refl)

pub returns-in-44 : goal.returns-in-44
unfolding stands mark_at marks
returns-in-44 c = stands_alone 44 mark.Comma c.args.b c.in-44.is (λ fresh rest. refl)
