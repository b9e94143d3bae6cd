use Rattle.std.proofs.Common.{ℕ, ◌≤◌, sym, ◌∙◌, subst, ap}
use Rattle.pv_eval.specs.Sizes.{setting_of}
use Rattle.pv_eval.specs.Permission.{permits_object, type_by}
use Rattle.pv_eval.proofs.Allowing.{tree_bare, complete_bare, size_bare}
use Rattle.pv_eval.proofs.permission.permits_own.Goals as goal

pub permits_object-requires-clause-complete : goal.permits_object-requires-clause-complete
permits_object-requires-clause-complete c = complete_bare c.args.unit.now.known c.types.result.now c.bare-want.result.0 c.args.l.t.0 c.types.ensures c.bare-want.ensures.tree c.requires.complete.complete

pub permits_object-requires-clause-small : goal.permits_object-requires-clause-small
permits_object-requires-clause-small c =
    let same = size_bare c.args.unit.now.known c.types.result.now c.bare-want.result.0 c.args.l.t.0 c.types.ensures c.bare-want.ensures.tree in
    let P : ℕ → Type 0 = λ n. n ≤ 4294967296 in
    subst P (sym same) c.requires.complete.small

pub returns-then-is_whole_scalar : goal.returns-then-is_whole_scalar
returns-then-is_whole_scalar c =
    let b = setting_of c.args.unit.now in
    sym (ap (permits_object b (type_by b c.args.object) c.args.offset) (c.is_whole_scalar.ensures.unqualified c.if-is_whole_scalar.true) ∙ c.is_whole_scalar.ensures.permitted c.if-is_whole_scalar.true)

pub returns : goal.returns
returns c =
    let b = setting_of c.args.unit.now in
    c.permits_object.ensures
    ∙ ap (permits_object b (type_by b c.args.object) c.args.offset) (tree_bare c.args.unit.now.known c.types.result.now c.bare-want.result.0 c.args.l.t.0 c.types.ensures c.bare-want.ensures.tree)
