use Rattle.std.proofs.Common.{length, sym, ◌∙◌, arith}
use Rattle.std.proofs.lemmas.Bool.{eqb-false}
use Rattle.pv_lex.proofs.Runs.{run_some}
use Rattle.pv_lex.proofs.comments.some_of.Goals as goal

pub returns-clause-shorter : goal.returns-clause-shorter
returns-clause-shorter c =
    let some = eqb-false (length c.args.text.now) 0 (sym c.is_empty.ensures ∙ c.if-is_empty.false) in
    let reach = run_some c.args.class c.args.text.now (omega (arith, some)) (sym c.is_in.ensures ∙ c.if-not-is_in.false) in
    omega (arith, some, reach, c.run.ensures.value, c.split_at.ensures.back_len)
