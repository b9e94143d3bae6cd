use Rattle.pv_expr_forms.proofs.Naming.{type_is}
use Rattle.pv_expr.proofs.openings.type_name.Goals as goal

pub returns : goal.returns
returns g c = type_is c.args.source.now.typedefs.now (g.R.TypeReader.types c.args.source.now.reader.now) c.args.into.now c.args.source.now.tokens.now.tokens c.args.at c.type_name.result c.type_name.ensures c.requires.place c.requires.tied
