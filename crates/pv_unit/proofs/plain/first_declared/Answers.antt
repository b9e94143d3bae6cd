use Rattle.std.proofs.Common.{rules, ◌≡◌, ◌∙◌, ap, Some, false}
use Rattle.pv_tree.specs.Tables.{declaration_at}
use Rattle.pv_check.specs.Open.{state_of}
use Rattle.pv_typed.specs.Constants.{and_then}
use Rattle.pv_unit.specs.Blocks.{block_declaration}
use Rattle.pv_unit.specs.Stated.{items_in, statements_in}
use Rattle.pv_unit.specs.Made.{with_reached}
use Rattle.pv_unit.proofs.PlainRows.{first_is}
use Rattle.pv_unit.proofs.plain.first_declared.Goals as goal

pub returns-clause-typed : goal.returns-clause-typed
returns-clause-typed c =
    let texts = c.args.t.now.texts in
    let a = c.args.into.now in
    let m = c.add_declaration.new.into in
    let s = c.add_declaration.new.s in
    let o = block_declaration (declaration_at c.args.u.now.forest c.args.d) (state_of texts false c.args.s.now a) in
    let held : Some (items_in texts s m c.add_declaration.new.items.items) ≡ and_then (block_declaration (declaration_at c.args.u.now.forest c.args.d) (state_of texts false c.args.s.now a)) (with_reached (statements_in a c.args.items.now.items)) = search rules in
    first_is texts s m c.add_declaration.new.items.items c.automatic_alone.result o
    (held ∙ ap (λ xs. and_then o (with_reached (statements_in a xs))) c.requires.none) (c.automatic_alone.ensures texts)
