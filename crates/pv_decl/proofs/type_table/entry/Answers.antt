use Rattle.std.proofs.Common.{sym, ◌∙◌}
use Rattle.pv_tree.proofs.Kept.{extends_same}
use Rattle.pv_expr_forms.specs.Known.{names_in}
use Rattle.pv_decl_forms.proofs.Answered.{moved, nothing}
use Rattle.pv_decl.specs.NameTables.{type_map}
use Rattle.pv_decl.proofs.Filling.{entry_shut, entry_opens}
use Rattle.pv_decl.proofs.type_table.entry.Goals as goal

pub returns-then-not-opens-clause-keeps : goal.returns-then-not-opens-clause-keeps
returns-then-not-opens-clause-keeps c = extends_same _

pub returns-then-not-opens-clause-ok : goal.returns-then-not-opens-clause-ok
returns-then-not-opens-clause-ok c =
    let names = names_in c.args.types.now (type_map c.args.names.now) c.args.into.now c.args.t.now.tokens in
    nothing _ _ _ _ (entry_shut names c.args.t.now.tokens c.args.at (sym c.requires.opens ∙ c.if-not-opens.true))

pub returns-clause-ok : goal.returns-clause-ok
returns-clause-ok c =
    let names = names_in c.args.types.now (type_map c.args.names.now) c.args.into.now c.args.t.now.tokens in
    moved _ _ _ _ _ _ (entry_opens names c.args.t.now.tokens c.args.at (sym c.requires.opens ∙ c.if-not-opens.false)) c.type_name.ensures.answer

pub type_name-requires : goal.type_name-requires
type_name-requires c = record { place = c.requires.place; tied = c.requires.tied }

pub returns-clause-keeps : goal.returns-clause-keeps
returns-clause-keeps c = c.type_name.ensures.keeps
