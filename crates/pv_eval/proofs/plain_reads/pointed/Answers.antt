use Rattle.std.proofs.Common.{◌≡◌, sym, subst}
use Rattle.std.specs.Prelude.{IfSome}
use Rattle.pv_prov.specs.declared.names.Prov.{Prov}
use Rattle.pv_world.specs.Worths.{pointer}
use Rattle.pv_eval.specs.Plainly.{IsLooked, found_worth}
use Rattle.pv_eval.proofs.plain_reads.pointed.Goals as goal

pub returns-in-Inst-clause-value : goal.returns-in-Inst-clause-value
returns-in-Inst-clause-value c =
    subst (λ (z : Prov). IfSome c.live_place.result (λ v. found_worth v ≡ pointer (record { address = c.args.p.address; prov = z }))) (sym c.in-Inst.is) c.live_place.ensures.value

pub returns-in-Inst-clause-looked : goal.returns-in-Inst-clause-looked
returns-in-Inst-clause-looked c =
    subst (λ (z : Prov). IfSome c.live_place.result (λ v. IsLooked c.args.world.now.memory.table (pointer (record { address = c.args.p.address; prov = z })) c.args.p.address)) (sym c.in-Inst.is) c.live_place.ensures.looked

pub returns-in-Empty-clause-value : goal.returns-in-Empty-clause-value
returns-in-Empty-clause-value c =
    subst (λ (z : Prov). IfSome c.null_place.result (λ v. found_worth v ≡ pointer (record { address = c.args.p.address; prov = z }))) (sym c.in-Empty.is) c.null_place.ensures.value

pub returns-in-Empty-clause-looked : goal.returns-in-Empty-clause-looked
returns-in-Empty-clause-looked c =
    subst (λ (z : Prov). IfSome c.null_place.result (λ v. IsLooked c.args.world.now.memory.table (pointer (record { address = c.args.p.address; prov = z })) c.args.p.address)) (sym c.in-Empty.is) c.null_place.ensures.looked
