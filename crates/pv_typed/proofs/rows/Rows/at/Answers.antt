use Rattle.std.proofs.Common.{◌<◌, length, ap, ◌∙◌, sym, subst}
use Rattle.pv_typed.specs.declared.rows.What.TheVariants as what
use Rattle.pv_typed.specs.Packed.{row_of, IsThere}
use Rattle.pv_typed.proofs.PackedRows.{row_read, read_there, whole_read}
use Rattle.pv_typed.proofs.rows.Rows.at.Goals as goal

pub index-requires-in-Whole : goal.index-requires-in-Whole
index-requires-in-Whole c =
    subst (λ n. c.in-Whole.n < n) (sym c.self.inside.whole.ok.0)
    (subst (IsThere (length c.self.inside.whole.items)) c.in-Whole.is
    (read_there c.self.inside.whole.items c.self.inside.packed.items c.args.self.now c.args.i c.index.result.now c.requires c.self.view_is c.index.ensures (length c.self.inside.whole.items) c.self.invariant))

pub returns-in-Expression : goal.returns-in-Expression
returns-in-Expression c =
    row_read c.self.inside.whole.items c.self.inside.packed.items c.args.self.now c.args.i c.index.result.now c.requires c.self.view_is c.index.ensures
    ∙ ap (row_of c.self.inside.whole.items) c.in-Expression.is

pub returns-in-Statement : goal.returns-in-Statement
returns-in-Statement c =
    row_read c.self.inside.whole.items c.self.inside.packed.items c.args.self.now c.args.i c.index.result.now c.requires c.self.view_is c.index.ensures
    ∙ ap (row_of c.self.inside.whole.items) c.in-Statement.is
    ∙ ap (λ x. record { what = what.Statement x c.in-Statement.declared; line = c.in-Statement.line }) (sym c.statement_of-x.ensures)

pub returns-in-Whole : goal.returns-in-Whole
returns-in-Whole c =
    let there = read_there c.self.inside.whole.items c.self.inside.packed.items c.args.self.now c.args.i c.index.result.now c.requires c.self.view_is c.index.ensures (length c.self.inside.whole.items) c.self.invariant in
    row_read c.self.inside.whole.items c.self.inside.packed.items c.args.self.now c.args.i c.index.result.now c.requires c.self.view_is c.index.ensures
    ∙ ap (row_of c.self.inside.whole.items) c.in-Whole.is
    ∙ whole_read c.self.inside.whole.items c.in-Whole.n c.index-in-Whole.result.now (subst (IsThere (length c.self.inside.whole.items)) c.in-Whole.is there) c.index-in-Whole.ensures
