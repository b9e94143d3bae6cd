use Rattle.std.proofs.Common.{arith, nat_eq}
use Rattle.indexmap.specs.IndexSet.{contains}
use Rattle.pv_stmt_forms.proofs.OuterSteps.{read_forward, one_there}
use Rattle.pv_stmt.proofs.Rows.{first_ends, first_goes}
use Rattle.pv_stmt.proofs.beginnings.place_behind.Goals as goal

pub returns-in_default-clause-none : goal.returns-in_default-clause-none
returns-in_default-clause-none c =
    let e = c.in_ok-declaration in
    λ _. first_ends c.loop-alloc.into (contains nat_eq c.loop-alloc.types) c.args.t.now.tokens c.loop-alloc.at c.args.count c.loop-alloc.invariant
    c.external.new.into c.count.result c.count.ensures (omega (arith, c.loop-alloc-test.true)) c.external.ensures.keeps e.field-0 e.ensures.ok c.in_default.is

pub loop-alloc-smaller : goal.loop-alloc-smaller
loop-alloc-smaller c =
    let e = c.in_ok-declaration in
    let reading = c.loop-alloc.invariant.reading in
    let far = read_forward c.loop-alloc.into c.external.new.into (contains nat_eq c.loop-alloc.types) c.args.t.now.tokens c.loop-alloc.at reading c.external.ensures.keeps e.field-0 e.ensures.ok c.in-Some.declaration c.in-Some.end c.in-Some.is in
    let there = one_there c.loop-alloc.into c.external.new.into (contains nat_eq c.loop-alloc.types) c.args.t.now.tokens c.loop-alloc.at reading c.external.ensures.keeps e.field-0 e.ensures.ok c.in-Some.declaration c.in-Some.end c.in-Some.is in
    omega (arith, far, there.1)

pub loop-alloc-preserved : goal.loop-alloc-preserved
loop-alloc-preserved c =
    let e = c.in_ok-declaration in
    first_goes c.loop-alloc.into (contains nat_eq c.loop-alloc.types) c.args.t.now.tokens c.loop-alloc.at c.args.count c.loop-alloc.invariant
    c.external.new.into c.count.result c.count.ensures (omega (arith, c.loop-alloc-test.true)) c.external.ensures.keeps e.field-0 e.ensures.ok
    c.in-Some.declaration c.in-Some.end c.in-Some.is c.add_external.new.self (contains nat_eq c.add_types.new.types) c.in_ok-add_external.ensures.made c.in_ok-add_types.ensures
