use Rattle.std.proofs.Common.{rules, ◌≡◌, ◌++◌, map, Some, true, false, sym, ap, ◌∙◌}
use Rattle.pv_tree.specs.Tables.{declaration_at}
use Rattle.pv_check.specs.Open.{state_of, IsOpen, Goes}
use Rattle.pv_unit.specs.Blocks.{block_declaration}
use Rattle.pv_unit.specs.Reaching.{reached_if, reached_in, reached_of}
use Rattle.pv_unit.specs.Stated.{statements_in}
use Rattle.pv_unit.specs.Statements.{reached_declarations}
use Rattle.pv_unit.proofs.ItemRows.{declared_none, declared_done, declared_moves}
use Rattle.pv_unit.proofs.Moving.{moves_on, statements_stay}
use Rattle.pv_unit.proofs.adding.add_declaration.Goals as goal

pub returns-then-not-found-clause-typed : goal.returns-then-not-found-clause-typed
returns-then-not-found-clause-typed c =
    let texts = c.args.t.now.texts in
    let has : c.in_ok-found.found ≡ false = search rules in
    declared_none (block_declaration (declaration_at c.args.u.now.forest c.args.d) (state_of texts false c.args.s.now c.args.into.now)) (statements_in c.args.into.now c.args.items.now.items)
    (ap (reached_if texts c.block_declaration.new.s c.block_declaration.new.into c.block_declaration.new.all.items) (sym has) ∙ c.in_ok-found.ensures.answer)

pub declare-requires-clause-items : goal.declare-requires-clause-items
declare-requires-clause-items c =
    let goes : Goes c.args.into.now c.block_declaration.new.into = search rules in
    statements_stay c.args.into.now c.block_declaration.new.into c.args.items.now.items goes c.requires.items

pub returns-clause-moves : goal.returns-clause-moves
returns-clause-moves c =
    let texts = c.args.t.now.texts in
    let m = c.block_declaration.new.into in
    let s = c.block_declaration.new.s in
    let has : c.in_ok-found.found ≡ true = search rules in
    let opened : IsOpen m s = search rules in
    let goes : Goes c.args.into.now m = search rules in
    let is : Some (reached_in texts s m c.block_declaration.new.all.items) ≡ block_declaration (declaration_at c.args.u.now.forest c.args.d) (state_of texts false c.args.s.now c.args.into.now) =
    ap (reached_if texts s m c.block_declaration.new.all.items) (sym has) ∙ c.in_ok-found.ensures.answer in
    moves_on c.args.into.now m c.declare.new.into c.args.s.now s s (declared_moves texts (declaration_at c.args.u.now.forest c.args.d) c.args.into.now m c.args.s.now s c.block_declaration.new.all.items opened goes is) c.in_ok-declare.ensures.moves

pub returns-clause-typed : goal.returns-clause-typed
returns-clause-typed c =
    let texts = c.args.t.now.texts in
    let m = c.block_declaration.new.into in
    let s = c.block_declaration.new.s in
    let has : c.in_ok-found.found ≡ true = search rules in
    let goes : Goes c.args.into.now m = search rules in
    let is : Some (reached_in texts s m c.block_declaration.new.all.items) ≡ block_declaration (declaration_at c.args.u.now.forest c.args.d) (state_of texts false c.args.s.now c.args.into.now) =
    ap (reached_if texts s m c.block_declaration.new.all.items) (sym has) ∙ c.in_ok-found.ensures.answer in
    let new : statements_in c.declare.new.into c.declare.new.items.items ≡ statements_in m c.args.items.now.items ++ reached_declarations (map reached_of c.block_declaration.new.all.items) = search rules in
    declared_done texts (block_declaration (declaration_at c.args.u.now.forest c.args.d) (state_of texts false c.args.s.now c.args.into.now)) c.args.into.now m c.declare.new.into s c.args.items.now.items c.declare.new.items.items c.block_declaration.new.all.items
    goes c.requires.items is new (c.in_ok-declare.ensures.state texts)
