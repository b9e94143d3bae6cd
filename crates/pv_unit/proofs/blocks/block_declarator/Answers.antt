use Rattle.std.proofs.Common.{◌≡◌, ◌<◌, ℕ, length}
use Rattle.pv_typed.specs.Tables.{whole_unit}
use Rattle.pv_check.specs.Open.{Goes}
use Rattle.pv_check.proofs.Opening.{then_goes}
use Rattle.pv_check.proofs.SpecifierRows.{there}
use Rattle.pv_unit.proofs.BlockMade.{reached_stay}
use Rattle.pv_unit.proofs.blocks.block_declarator.Goals as goal

pub returns-clause-goes : goal.returns-clause-goes
returns-clause-goes c =
    let a = c.args.into.now in
    let b = c.type_declared.new.into in
    let d = c.block_object.new.into in
    then_goes a b d (there (λ x. Goes a b) c.in-Some-2.is c.in_ok-made.ensures.goes) (there (λ x. Goes b d) c.in-Some-3.is c.in_ok-object.ensures.goes)

pub returns-clause-there : goal.returns-clause-there
returns-clause-there c =
    let a = c.args.into.now in
    let b = c.type_declared.new.into in
    let d = c.block_object.new.into in
    let goes : Goes a d = then_goes a b d (there (λ x. Goes a b) c.in-Some-2.is c.in_ok-made.ensures.goes) (there (λ x. Goes b d) c.in-Some-3.is c.in_ok-object.ensures.goes) in
    let number : (c.in-Some-3.object ≡ length (whole_unit b).objects) × (c.in-Some-3.object < length d.objects) = there (λ (o : ℕ). (o ≡ length (whole_unit b).objects) × (o < length d.objects)) c.in-Some-3.is c.in_ok-object.ensures.number in
    c.in_ok-reach.ensures.there d (reached_stay a d c.args.all.now.items goes c.requires.there) number.1
