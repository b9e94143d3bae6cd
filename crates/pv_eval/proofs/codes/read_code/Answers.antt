use Rattle.std.proofs.Common.{◌≡◌, ◌<◌, ◌∙◌, true, length, sym, ap, subst}
use Rattle.pv_types.specs.Ty.{IntTy}
use Rattle.pv_types.specs.Known.{Known, tree}
use Rattle.pv_types.specs.Sorts.{bare_type, is_scalar_in}
use Rattle.pv_eval.specs.Sizes.{points}
use Rattle.pv_eval.specs.Codes.{IsReadOf}
use Rattle.pv_eval.proofs.codes.read_code.Goals as goal

pub bare-t-requires : goal.bare-t-requires
bare-t-requires c = subst (λ (m : Known). c.type_of.result.0 < length m.terms) (sym c.types.ensures) (c.type_of.ensures.known c.requires.known)

pub view-requires : goal.view-requires
view-requires c = subst (λ (m : Known). c.bare-t.result.0 < length m.terms) (c.types.ensures ∙ sym c.types-2.ensures) c.bare-t.ensures.known

pub returns-in-Some : goal.returns-in-Some
returns-in-Some c =
    let u = c.args.unit.now in
    let same = subst (λ (m : Known). tree m c.bare-t.result.0 ≡ bare_type (tree m c.type_of.result.0)) c.types.ensures c.bare-t.ensures.tree ∙ ap bare_type c.type_of.ensures.tree in
    let known = subst (λ (m : Known). c.bare-t.result.0 < length m.terms) c.types.ensures c.bare-t.ensures.known in
    let read : IsReadOf u c.args.n c.args.a c.bare-t.result = record { form = c.requires.form; operand = (c.requires.there, c.requires.less); known = known; same = same } in
    (read, subst (λ (m : Known). tree m c.bare-t.result.0 ≡ IntTy c.in-Int.kind) c.types-2.ensures c.in-Int.ensures.tree, record { same = c.in-Some.ensures.own; scalar = subst (λ (m : Known). is_scalar_in (tree m c.bare-t.result.0) ≡ true) c.types-2.ensures (ap is_scalar_in c.in-Int.ensures.tree) }, c.in-Some.ensures.object)

pub returns-in-None : goal.returns-in-None
returns-in-None c =
    let u = c.args.unit.now in
    let same = subst (λ (m : Known). tree m c.bare-t.result.0 ≡ bare_type (tree m c.type_of.result.0)) c.types.ensures c.bare-t.ensures.tree ∙ ap bare_type c.type_of.ensures.tree in
    let known = subst (λ (m : Known). c.bare-t.result.0 < length m.terms) c.types.ensures c.bare-t.ensures.known in
    let read : IsReadOf u c.args.n c.args.a c.bare-t.result = record { form = c.requires.form; operand = (c.requires.there, c.requires.less); known = known; same = same } in
    (read, subst (λ (m : Known). tree m c.bare-t.result.0 ≡ IntTy c.in-Int.kind) c.types-2.ensures c.in-Int.ensures.tree, c.in_structure-own.ensures)

pub returns-in-Some-named_object : goal.returns-in-Some-named_object
returns-in-Some-named_object c =
    let u = c.args.unit.now in
    let same = subst (λ (m : Known). tree m c.bare-t.result.0 ≡ bare_type (tree m c.type_of.result.0)) c.types.ensures c.bare-t.ensures.tree ∙ ap bare_type c.type_of.ensures.tree in
    let known = subst (λ (m : Known). c.bare-t.result.0 < length m.terms) c.types.ensures c.bare-t.ensures.known in
    let read : IsReadOf u c.args.n c.args.a c.bare-t.result = record { form = c.requires.form; operand = (c.requires.there, c.requires.less); known = known; same = same } in
    (read, subst (λ (m : Known). points (tree m c.bare-t.result.0) ≡ true) c.types-2.ensures (ap points c.in-Pointer.ensures.tree), record { same = c.in-Some-named_object.ensures.own; scalar = subst (λ (m : Known). is_scalar_in (tree m c.bare-t.result.0) ≡ true) c.types-2.ensures (ap is_scalar_in c.in-Pointer.ensures.tree) }, c.in-Some-named_object.ensures.object)

pub returns-in-None-named_object : goal.returns-in-None-named_object
returns-in-None-named_object c =
    let u = c.args.unit.now in
    let same = subst (λ (m : Known). tree m c.bare-t.result.0 ≡ bare_type (tree m c.type_of.result.0)) c.types.ensures c.bare-t.ensures.tree ∙ ap bare_type c.type_of.ensures.tree in
    let known = subst (λ (m : Known). c.bare-t.result.0 < length m.terms) c.types.ensures c.bare-t.ensures.known in
    let read : IsReadOf u c.args.n c.args.a c.bare-t.result = record { form = c.requires.form; operand = (c.requires.there, c.requires.less); known = known; same = same } in
    (read, subst (λ (m : Known). points (tree m c.bare-t.result.0) ≡ true) c.types-2.ensures (ap points c.in-Pointer.ensures.tree), c.in_structure-own.ensures)
