use Rattle.std.proofs.Common.{◌≡◌, ◌∙◌, ap, Some, None}
use Rattle.pv_types.specs.Sorts.{bare_type}
use Rattle.pv_types.specs.Known.{env, tree}
use Rattle.pv_types.specs.Ty.{Ty}
use Rattle.pv_check.specs.Growing.{IsType, type_if}
use Rattle.pv_unit.specs.Initializers.{filled_type}
use Rattle.pv_unit.specs.Stores.{stores_in}
use Rattle.pv_unit.proofs.Spaces.{space_text}
use Rattle.pv_unit.proofs.Texts.{filled_none, filled_of}
use Rattle.pv_unit.proofs.initializers.fill.Goals as goal

pub returns-in_default-clause-typed : goal.returns-in_default-clause-typed
returns-in_default-clause-typed c =
    let m1 = c.filling.new.into in
    let none : None ≡ filled_type (bare_type (tree m1.known c.args.part.t.0)) c.in_ok-text.text.length = rw c.in_default.is at c.in_ok-whole.ensures.tree in
    filled_none c.args.t.now.texts c.args.into.now m1 c.args.s.now c.args.part c.args.line c.args.first c.args.more c.in_ok-text.text.length (stores_in c.args.into.now c.args.out.now.items)
    c.in_ok-text.ensures.goes c.requires.part c.in_ok-text.ensures.length none

pub returns-clause-typed : goal.returns-clause-typed
returns-clause-typed c =
    let m0 = c.args.into.now in
    let m1 = c.filling.new.into in
    let m2 = c.filled_type.new.into in
    let tree_is : type_if m2.known (Some c.in-Some.whole) ≡ filled_type (bare_type (tree m1.known c.args.part.t.0)) c.in_ok-text.text.length = rw c.in-Some.is at c.in_ok-whole.ensures.tree in
    let there : IsType m2.known (Some c.in-Some.whole) = rw c.in-Some.is at c.in_ok-whole.ensures.number in
    (filled_of c.args.t.now.texts m0 m1 m2 c.args.s.now c.args.part c.in-Some.whole c.args.line c.args.first c.args.more c.in_ok-text.text.number c.in_ok-text.text.length c.args.out.now.items c.push.new.self.items
    c.requires.opened c.in_ok-text.ensures.goes c.in_ok-whole.ensures.kept c.requires.stores c.requires.part there c.in_ok-text.ensures.number.0 c.in_ok-text.ensures.number.1 c.in_ok-text.ensures.length c.in_ok-text.ensures.state tree_is c.in_ok-push.ensures.items).typed

pub returns-clause-fills : goal.returns-clause-fills
returns-clause-fills c =
    let m0 = c.args.into.now in
    let m1 = c.filling.new.into in
    let m2 = c.filled_type.new.into in
    let tree_is : type_if m2.known (Some c.in-Some.whole) ≡ filled_type (bare_type (tree m1.known c.args.part.t.0)) c.in_ok-text.text.length = rw c.in-Some.is at c.in_ok-whole.ensures.tree in
    let there : IsType m2.known (Some c.in-Some.whole) = rw c.in-Some.is at c.in_ok-whole.ensures.number in
    (filled_of c.args.t.now.texts m0 m1 m2 c.args.s.now c.args.part c.in-Some.whole c.args.line c.args.first c.args.more c.in_ok-text.text.number c.in_ok-text.text.length c.args.out.now.items c.push.new.self.items
    c.requires.opened c.in_ok-text.ensures.goes c.in_ok-whole.ensures.kept c.requires.stores c.requires.part there c.in_ok-text.ensures.number.0 c.in_ok-text.ensures.number.1 c.in_ok-text.ensures.length c.in_ok-text.ensures.state tree_is c.in_ok-push.ensures.items).fills

pub returns-clause-room : goal.returns-clause-room
returns-clause-room c =
    let m0 = c.args.into.now in
    let m1 = c.filling.new.into in
    let m2 = c.filled_type.new.into in
    let count = c.in_ok-text.text.length in
    let tree_is : type_if m2.known (Some c.in-Some.whole) ≡ filled_type (bare_type (tree m1.known c.args.part.t.0)) count = rw c.in-Some.is at c.in_ok-whole.ensures.tree in
    let same = c.in_ok-text.ensures.goes.grown.types c.args.part.t.0 c.requires.part in
    space_text (env m2.known) (tree m0.known c.args.part.t.0) count (tree m2.known c.in-Some.whole.0) c.requires.text (tree_is ∙ ap (λ (t : Ty). filled_type (bare_type t) count) same)
