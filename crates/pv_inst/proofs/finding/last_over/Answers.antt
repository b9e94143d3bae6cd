use Rattle.std.proofs.Common.{◌≡◌, ◌+◌, ◌<◌, ◌≤◌, ℕ, Option, None, IfNone, All, sym, subst, arith}
use Rattle.pv_inst.specs.Kept.{IsBehind}
use Rattle.pv_inst.proofs.Rows.{row_found}
use Rattle.pv_inst.proofs.Meetings.{no_instance}
use Rattle.pv_inst.proofs.Index.{all_behind, last_is_nearest, last_is_over, is_made}
use Rattle.pv_inst.proofs.finding.last_over.Goals as goal

pub returns-in_err-i-clause-none : goal.returns-in_err-i-clause-none
returns-in_err-i-clause-none c =
    let e : c.from_residual.result ≡ None = (cc) in
    let P : Option ℕ → Type 0 = λ o. IfNone o (All (IsBehind c.args.base) c.args.instances.now) in
    subst P (sym e) (all_behind c.args.places.now.entries c.args.instances.now c.args.base c.requires.placed c.requires.apart c.requires.indexed c.in_err-i.ensures.none)

pub returns-in_err-x-clause-none : goal.returns-in_err-x-clause-none
returns-in_err-x-clause-none c =
    absurd (is_made c.args.places.now.entries c.args.instances.now c.in_ok-i.field-0-0 c.in_ok-i.i no_instance c.requires.indexed c.in_ok-i.ensures.there (sym c.in_err-x.ensures))

pub returns-then-ends_behind-clause-found : goal.returns-then-ends_behind-clause-found
returns-then-ends_behind-clause-found c =
    let r = row_found c.args.instances.now c.in_ok-i.i c.in_ok-x.x c.in_ok-x.ensures in
    let behind : c.args.base < c.in_ok-x.x.base + c.in_ok-x.x.size = omega (arith, c.if-ends_behind.true) in
    last_is_nearest c.args.places.now.entries c.args.instances.now c.args.base c.in_ok-i.field-0-0 c.in_ok-i.i c.in_ok-x.x c.requires.placed c.requires.apart c.requires.indexed c.in_ok-i.ensures.there r c.in_ok-i.ensures.low c.in_ok-i.ensures.greatest behind

pub returns-else-ends_behind-clause-none : goal.returns-else-ends_behind-clause-none
returns-else-ends_behind-clause-none c =
    let r = row_found c.args.instances.now c.in_ok-i.i c.in_ok-x.x c.in_ok-x.ensures in
    let ends : c.in_ok-x.x.base + c.in_ok-x.x.size ≤ c.args.base = omega (arith, c.if-ends_behind.false) in
    last_is_over c.args.places.now.entries c.args.instances.now c.args.base c.in_ok-i.field-0-0 c.in_ok-i.i c.in_ok-x.x c.requires.placed c.requires.apart c.requires.indexed c.in_ok-i.ensures.there r c.in_ok-i.ensures.low c.in_ok-i.ensures.greatest ends
