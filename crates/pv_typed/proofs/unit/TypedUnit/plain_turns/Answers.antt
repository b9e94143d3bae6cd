use Rattle.std.proofs.Common.{◌≡◌, subst}
use Rattle.pv_typed.specs.Children.{row_at}
use Rattle.pv_typed.specs.Tables.{Stored}
use Rattle.pv_typed.specs.Formed.{IsFormed}
use Rattle.pv_typed.proofs.Plain.{turns_read}
use Rattle.pv_typed.proofs.unit.TypedUnit.plain_turns.Goals as goal

pub returns : goal.returns
returns c = turns_read c.args.self.now (subst IsFormed c.self.view_is c.self.invariant) c.args.n c.at.result c.requires (subst (λ (k : Stored). row_at k.rows c.args.n.0 ≡ c.at.result) c.self.view_is c.at.ensures) c.in-Expression.x c.in-Expression.t c.in-Expression.counts c.in-Expression.plain c.in-Expression.is
