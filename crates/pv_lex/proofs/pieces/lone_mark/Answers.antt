use Rattle.pv_lex.proofs.Beginnings.{some_byte}
use Rattle.pv_lex.proofs.LoneMarks.{front_alone}
use Rattle.pv_lex.proofs.pieces.lone_mark.Goals as goal

pub returns : goal.returns
returns c =
    let text = c.args.text.now in
    front_alone text c.behind.result.now c.in-Some.mark (some_byte text c.is_empty.result c.is_empty.ensures c.if-is_empty.false) c.behind.ensures c.in-Some.ensures
