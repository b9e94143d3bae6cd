use Rattle.std.proofs.Common.{sym, subst}
use Rattle.std.specs.Prelude.{IfSome}
use Rattle.pv_eval.specs.declared.plain.Found.{Found}
use Rattle.pv_eval.specs.Plainly.{IsLooked, found_worth}
use Rattle.pv_eval.proofs.PlainPointers.{looked_null}
use Rattle.pv_eval.proofs.plain_comparisons.looked_at.Goals as goal

pub returns-in-Null : goal.returns-in-Null
returns-in-Null c =
    let T = c.args.world.now.memory.table in
    subst (λ (q : Found). IsLooked T (found_worth q) 0) (sym c.in-Null.is) (looked_null T)

pub returns-in-Place : goal.returns-in-Place
returns-in-Place c =
    let T = c.args.world.now.memory.table in
    subst (λ (q : Found). IfSome c.live_address.result (λ a. IsLooked T (found_worth q) a)) (sym c.in-Place.is) c.live_address.ensures
