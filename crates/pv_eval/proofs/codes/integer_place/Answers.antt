use Rattle.std.proofs.Common.{◌≡◌, ◌<◌, true, length, refl, sym, ap, subst}
use Rattle.pv_types.specs.Ty.{IntTy}
use Rattle.pv_types.specs.Known.{Known, tree}
use Rattle.pv_types.specs.Sorts.{is_scalar_in}
use Rattle.pv_eval.proofs.codes.integer_place.Goals as goal

pub view-requires : goal.view-requires
view-requires c = subst (λ (m : Known). c.type_of-t.result.0 < length m.terms) (sym c.types.ensures) (c.type_of-t.ensures.known c.requires.known)

pub designated-own-requires-clause-scalar : goal.designated-own-requires-clause-scalar
designated-own-requires-clause-scalar c = subst (λ (m : Known). is_scalar_in (tree m c.type_of-t.result.0) ≡ true) c.types.ensures (ap is_scalar_in c.in-Int.ensures.tree)

pub returns-clause-place : goal.returns-clause-place
returns-clause-place c = record {
  there = c.requires.there;
  known = c.type_of-t.ensures.known c.requires.known;
  same = c.type_of-t.ensures.tree;
  integer = subst (λ (m : Known). tree m c.type_of-t.result.0 ≡ IntTy c.in-Int.kind) c.types.ensures c.in-Int.ensures.tree;
  own = c.designated-own.ensures;
}

pub returns-clause-node : goal.returns-clause-node
returns-clause-node c = refl
