use Rattle.std.proofs.Common.{◌≡◌, ◌∙◌, ap}
use Rattle.pv_types.specs.Known.{tree, env}
use Rattle.pv_types.specs.Layouts.{layout_in}
use Rattle.pv_values.specs.ShapeParts.{elements_of}
use Rattle.pv_values.proofs.Shaped.{Measured, measured, array_some, element_parts_within}
use Rattle.pv_values.proofs.shapes.array_shape.Goals as goal

pub size-bytes-requires-clause-small : goal.size-bytes-requires-clause-small
size-bytes-requires-clause-small c =
    let m = c.args.u.now.known in
    let all : Measured m c.args.element.0 c.args.n =
    measured m c.args.whole.0 c.args.element.0 c.args.n c.is_measured.result c.requires.is (rw c.types-types.ensures at c.is_measured.ensures) c.if-not-is_measured.false in
    rw c.types-types.ensures all.small

pub returns-clause-shape : goal.returns-clause-shape
returns-clause-shape c =
    let m = c.args.u.now.known in
    let all : Measured m c.args.element.0 c.args.n =
    measured m c.args.whole.0 c.args.element.0 c.args.n c.is_measured.result c.requires.is (rw c.types-types.ensures at c.is_measured.ensures) c.if-not-is_measured.false in
    let size : c.size-bytes.result ≡ (layout_in (env m) (tree m c.args.element.0)).size = rw c.types-types.ensures at c.size-bytes.ensures in
    array_some c.args.u.now c.args.element c.args.n c.size-bytes.result c.bracketed.result c.in_ok-parts.parts c.bracketed.ensures
    (c.in_ok-parts.ensures ∙ ap (elements_of c.args.element c.size-bytes.result 0) c.shown_of.ensures.value) size all

pub returns-clause-parts : goal.returns-clause-parts
returns-clause-parts c =
    let m = c.args.u.now.known in
    let all : Measured m c.args.element.0 c.args.n =
    measured m c.args.whole.0 c.args.element.0 c.args.n c.is_measured.result c.requires.is (rw c.types-types.ensures at c.is_measured.ensures) c.if-not-is_measured.false in
    let size : c.size-bytes.result ≡ (layout_in (env m) (tree m c.args.element.0)).size = rw c.types-types.ensures at c.size-bytes.ensures in
    rw c.bracketed.ensures
    (element_parts_within m c.args.element c.args.n c.size-bytes.result c.shown_of.result c.in_ok-parts.parts.items c.requires.part c.in_ok-parts.ensures c.shown_of.ensures.most size all)
