use Rattle.std.proofs.Common.{arith}
use Rattle.pv_tree.proofs.Spanned.{spans_count}
use Rattle.pv_tree.proofs.lists.Lists.len.Goals as goal

pub returns : goal.returns
returns c = omega (arith, c.len.ensures, c.self.inside.spans.ok.0, spans_count c.self.inside.numbers.items c.self.inside.spans.items c.args.self.now c.self.view_is)
