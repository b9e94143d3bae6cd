use Rattle.std.proofs.Common.{rules, ◌≡◌, ◌∙◌, Bool, true, false, sym, ap}
use Rattle.pv_typed.specs.Tables.{whole_unit}
use Rattle.pv_typed.proofs.Adding.{grown_refl}
use Rattle.pv_unit.specs.Resolving.{placed_if}
use Rattle.pv_unit.proofs.Resolutions.{placed_on}
use Rattle.pv_unit.proofs.resolving.place_one.Goals as goal

pub returns-then-not-is_placed-clause-grown : goal.returns-then-not-is_placed-clause-grown
returns-then-not-is_placed-clause-grown c = grown_refl c.args.into.now

pub returns-then-not-is_placed-clause-whole : goal.returns-then-not-is_placed-clause-whole
returns-then-not-is_placed-clause-whole c =
    let is : c.is_placed.result ≡ false = search rules in
    ap (λ (b : Bool). placed_if b c.args.f (whole_unit c.args.into.now)) (sym is ∙ c.is_placed.ensures)

pub returns-clause-whole : goal.returns-clause-whole
returns-clause-whole c =
    let is : c.is_placed.result ≡ true = search rules in
    placed_on c.add_placed.result (whole_unit c.add_placed.new.self) (whole_unit c.args.into.now) c.args.f _ (sym is ∙ c.is_placed.ensures) c.add_placed.ensures.whole
