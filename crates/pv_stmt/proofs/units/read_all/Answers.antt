use Rattle.std.proofs.Common.{arith, nat_eq}
use Rattle.indexmap.specs.IndexSet.{contains}
use Rattle.pv_stmt_forms.proofs.OuterSteps.{read_ends, read_forward, read_goes, one_there}
use Rattle.pv_stmt.proofs.units.read_all.Goals as goal

pub loop-declaration-smaller : goal.loop-declaration-smaller
loop-declaration-smaller c =
    let e = c.in_ok-declaration in
    let far = read_forward c.loop-declaration.into c.external.new.into (contains nat_eq c.loop-declaration.types) c.args.t.now.tokens c.loop-declaration.at c.loop-declaration.invariant c.external.ensures.keeps e.field-0 e.ensures.ok c.in-Some.declaration c.in-Some.end c.in-Some.is in
    let there = one_there c.loop-declaration.into c.external.new.into (contains nat_eq c.loop-declaration.types) c.args.t.now.tokens c.loop-declaration.at c.loop-declaration.invariant c.external.ensures.keeps e.field-0 e.ensures.ok c.in-Some.declaration c.in-Some.end c.in-Some.is in
    omega (arith, far, there.1)

pub loop-declaration-preserved : goal.loop-declaration-preserved
loop-declaration-preserved c =
    let e = c.in_ok-declaration in
    read_goes c.loop-declaration.into c.external.new.into (contains nat_eq c.loop-declaration.types) c.args.t.now.tokens c.loop-declaration.at c.loop-declaration.invariant c.external.ensures.keeps e.field-0 e.ensures.ok c.in-Some.declaration c.in-Some.end c.in-Some.is
    c.add_external.new.self (contains nat_eq c.add_types.new.types) c.in_ok-add_external.ensures.made c.in_ok-add_types.ensures

pub returns-clause-reads : goal.returns-clause-reads
returns-clause-reads c =
    let e = c.in_ok-declaration in
    read_ends c.loop-declaration.into c.external.new.into (contains nat_eq c.loop-declaration.types) c.args.t.now.tokens c.loop-declaration.at c.loop-declaration.invariant c.external.ensures.keeps e.field-0 e.ensures.ok c.in_default.is
