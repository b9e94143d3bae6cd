use Rattle.std.proofs.Common.{rules, ◌≡◌, ◌∙◌, ◌<◌, ◌-◌, suc, ap, sym, length, take, arith, true, false, Some, None}
use Rattle.std.proofs.lemmas.List.{length-map}
use Rattle.pv_tree.specs.Syntax.{DeclarationTree, TypeName, NoTrees, Absent}
use Rattle.pv_tree.specs.Tables.{declaration_at}
use Rattle.pv_unit.specs.Checking.{externals_in}
use Rattle.pv_unit.specs.Definitions.{may_end}
use Rattle.pv_unit.specs.Functions.{typed_external}
use Rattle.pv_unit.specs.Outside.{unit_state}
use Rattle.pv_unit.specs.Units.{typed_first}
use Rattle.pv_unit.proofs.Firsts.{up_next, breaks_at, breaks_last, all_typed, left_open, declaration_is, at_end, ended}
use Rattle.pv_unit.proofs.checking.all_declarations.Goals as goal

abbrev no_tree : DeclarationTree
no_tree = TypeName 0 NoTrees Absent

pub returns-in-Ok-false-clause-refused : goal.returns-in-Ok-false-clause-refused
returns-in-Ok-false-clause-refused c =
    let u = c.args.u.now in
    let texts = c.args.t.now.texts in
    let before = unit_state texts c.args.s.now c.args.into.now c.args.outer.now in
    let s = unit_state texts c.loop-i.s c.loop-i.into c.loop-i.outer in
    let count = length-map u.externals (declaration_at u.forest) in
    let lt : c.loop-i.i < length (externals_in u) = search rules in
    let is = declaration_is (declaration_at u.forest) u.externals c.loop-i.i c.external.result no_tree c.external.ensures.number in
    let none : None ≡ typed_external (declaration_at u.forest c.external.result) s = search rules in
    breaks_at (externals_in u) c.loop-i.i no_tree before s lt c.loop-i.invariant.2 (none ∙ ap (λ d. typed_external d s) (sym is))

pub loop-i-preserved : goal.loop-i-preserved
loop-i-preserved c =
    let u = c.args.u.now in
    let texts = c.args.t.now.texts in
    let before = unit_state texts c.args.s.now c.args.into.now c.args.outer.now in
    let s = unit_state texts c.loop-i.s c.loop-i.into c.loop-i.outer in
    let t = unit_state texts c.external-in-loop-i.new.s c.external-in-loop-i.new.into c.external-in-loop-i.new.outer in
    let count = length-map u.externals (declaration_at u.forest) in
    let lt : c.loop-i.i < length (externals_in u) = search rules in
    let is = declaration_is (declaration_at u.forest) u.externals c.loop-i.i c.external.result no_tree c.external.ensures.number in
    let some : Some t ≡ typed_external (declaration_at u.forest c.external.result) s = search rules in
    (search rules, search rules, up_next (externals_in u) c.loop-i.i no_tree before s t lt c.loop-i.invariant.2 (some ∙ ap (λ d. typed_external d s) (sym is)))

pub returns-then-is_left_open-clause-refused : goal.returns-then-is_left_open-clause-refused
returns-then-is_left_open-clause-refused c =
    let u = c.args.u.now in
    let texts = c.args.t.now.texts in
    let before = unit_state texts c.args.s.now c.args.into.now c.args.outer.now in
    let s = unit_state texts c.loop-i.s c.loop-i.into c.loop-i.outer in
    let count = length-map u.externals (declaration_at u.forest) in
    let is : c.is_left_open.result ≡ true = search rules in
    let h = left_open c.count-count.result (may_end s) (sym (c.is_left_open.ensures texts) ∙ is) in
    let counted = c.count-count.ensures in
    let positive = h.0 in
    let size : length (externals_in u) ≡ suc (c.count-count.result - 1) = omega (arith, count, counted, positive) in
    let end : suc (c.count-count.result - 1) ≡ c.loop-i.i = ended c.loop-i.i c.count-count.result c.loop-i.auto.i-end c.loop-i-test.false positive in
    breaks_last (externals_in u) (c.count-count.result - 1) no_tree before s size (ap (λ k. typed_first (take k (externals_in u)) before) end ∙ c.loop-i.invariant.2) h.1

pub returns-clause-typed : goal.returns-clause-typed
returns-clause-typed c =
    let u = c.args.u.now in
    let texts = c.args.t.now.texts in
    let before = unit_state texts c.args.s.now c.args.into.now c.args.outer.now in
    let s = unit_state texts c.loop-i.s c.loop-i.into c.loop-i.outer in
    let count = length-map u.externals (declaration_at u.forest) in
    let size : length (externals_in u) ≡ c.count-count.result = search rules in
    let is : c.is_left_open.result ≡ false = search rules in
    all_typed (externals_in u) c.count-count.result before s size
    (ap (λ k. typed_first (take k (externals_in u)) before) (at_end c.loop-i.i c.count-count.result c.loop-i.auto.i-end c.loop-i-test.false) ∙ c.loop-i.invariant.2) (sym (c.is_left_open.ensures texts) ∙ is)

pub overflow_sub-result : goal.overflow_sub-result
overflow_sub-result c =
    let s = unit_state c.args.t.now.texts c.loop-i.s c.loop-i.into c.loop-i.outer in
    let is : c.is_left_open.result ≡ true = search rules in
    let h = left_open c.count-count.result (may_end s) (sym (c.is_left_open.ensures c.args.t.now.texts) ∙ is) in
    let positive = h.0 in
    omega (arith, positive)
