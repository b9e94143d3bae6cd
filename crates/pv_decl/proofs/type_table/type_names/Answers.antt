use Rattle.std.proofs.Common.{sym, ap, ◌∙◌, ◌<◌, ◌≤◌, ◌-◌, length, nat_eq, arith, inl, inr}
use Rattle.std.specs.Prelude.{min}
use Rattle.indexmap.specs.IndexSet.{contains}
use Rattle.pv_tree.specs.Units.{depth_limit}
use Rattle.pv_tree.proofs.Kept.{extends_same, extends_then}
use Rattle.pv_expr_forms.specs.Known.{names_in}
use Rattle.pv_decl.specs.Filled.{list_map}
use Rattle.pv_decl.specs.NameTables.{NameTable, type_map}
use Rattle.pv_decl.proofs.Filling.{cut_by, filled_kept, table_none, table_step, table_given, lists_step}
use Rattle.pv_decl.proofs.Givens.{given_tied, no_lists}
use Rattle.pv_decl.proofs.Held.{filled_before}
use Rattle.pv_decl.proofs.Tabled.{whole_found, whole_longest, whole_only, whole_none, whole_elsewhere, whole_outside}
use Rattle.pv_decl.proofs.type_table.type_names.Goals as goal

-- ---- the loop

pub loop-at-init : goal.loop-at-init
loop-at-init c =
    let tokens = c.args.t.now.tokens in
    let cut = c.min-end.ensures ∙ ap (min c.args.to) c.len.ensures in
    let made = ap (λ (n : NameTable). n.to) c.new-names.ensures in
    let filled = table_none (contains nat_eq c.args.types.now) c.args.into.now tokens depth_limit c.min-end.result c.new-names.result c.new-names.ensures (cut_by c.min-end.result c.args.to (length tokens) cut).1 in
    record {
      filled = filled;
      given = given_tied (list_map c.new-lists.result) c.args.types.now (type_map c.new-names.result) c.args.into.now tokens (no_lists c.new-lists.result c.new-lists.ensures.items) filled.tied;
      count = omega (arith, c.new-lists.ensures.to, ap length c.new-lists.ensures.items);
      same = c.new-lists.ensures.to ∙ sym made;
      keeps = extends_same _;
      low = inr (omega (arith, made));
      cut = made ∙ cut;
    }

pub entry-requires-clause-place : goal.entry-requires-clause-place
entry-requires-clause-place c = omega (arith, c.loop-at.invariant.filled.inside, c.loop-at.invariant.filled.count)

pub opens_type-opens-requires : goal.opens_type-opens-requires
opens_type-opens-requires c = omega (arith, c.loop-at.invariant.filled.inside, c.loop-at.invariant.filled.count)

pub entry-requires-clause-opens : goal.entry-requires-clause-opens
entry-requires-clause-opens c = c.opens_type-opens.ensures (type_map c.loop-at.names) c.loop-at.into

pub entry-requires-clause-tied : goal.entry-requires-clause-tied
entry-requires-clause-tied c = c.loop-at.invariant.given

pub list_entry-requires-clause-place : goal.list_entry-requires-clause-place
list_entry-requires-clause-place c = omega (arith, c.loop-at.invariant.filled.inside, c.loop-at.invariant.filled.count)

pub list_entry-requires-clause-tied : goal.list_entry-requires-clause-tied
unfolding names_in
list_entry-requires-clause-tied c =
    table_given c.args.types.now c.loop-at.into c.entry.new.into c.args.t.now.tokens depth_limit c.loop-at.names c.push.new.self c.loop-at.at (omega (arith, c.loop-at-test.true))
    c.loop-at.invariant.filled c.entry.ensures.keeps c.in_ok-found.found c.in_ok-found.ensures.ok c.in_ok-push.ensures
    c.loop-at.lists.to c.loop-at.lists.found c.loop-at.invariant.same c.loop-at.invariant.count c.loop-at.invariant.given

pub note-requires : goal.note-requires
note-requires c = omega (arith, c.loop-at-test.true, c.loop-at.invariant.count)

pub loop-at-preserved : goal.loop-at-preserved
unfolding names_in
loop-at-preserved c =
    let u = c.loop-at.into in
    let v = c.entry.new.into in
    let w = c.list_entry.new.into in
    let on = extends_then u v w c.entry.ensures.keeps c.list_entry.ensures.keeps in
    let some : 0 < c.loop-at.at = omega (arith, c.loop-at-test.true) in
    let low : c.args.from ≤ c.loop-at.at - 1 = omega (arith, c.loop-at-test.true) in
    let made = ap (λ (n : NameTable). n.to) c.in_ok-push.ensures in
    let filled = table_step c.args.types.now u v c.args.t.now.tokens depth_limit c.loop-at.names c.push.new.self c.loop-at.at some c.loop-at.invariant.filled c.entry.ensures.keeps c.in_ok-found.found c.in_ok-found.ensures.ok c.in_ok-push.ensures in
    let given = table_given c.args.types.now u v c.args.t.now.tokens depth_limit c.loop-at.names c.push.new.self c.loop-at.at some c.loop-at.invariant.filled c.entry.ensures.keeps c.in_ok-found.found c.in_ok-found.ensures.ok c.in_ok-push.ensures
    c.loop-at.lists.to c.loop-at.lists.found c.loop-at.invariant.same c.loop-at.invariant.count c.loop-at.invariant.given in
    record {
      filled = filled_kept (contains nat_eq c.args.types.now) v w c.args.t.now.tokens depth_limit c.push.new.self.to c.push.new.self.found (c.loop-at.at - 1) filled c.list_entry.ensures.keeps;
      given = lists_step c.args.types.now (type_map c.push.new.self) v w c.args.t.now.tokens (list_map c.loop-at.lists) (list_map c.note.new.self) (c.loop-at.at - 1)
          given c.list_entry.ensures.keeps c.in_ok-list.list c.in_ok-list.ensures.ok
          (λ p low. filled_before c.note.new.self.to c.note.new.self.found p (omega (arith, low, c.in_ok-note.ensures.before))) c.in_ok-note.ensures.here c.in_ok-note.ensures.behind;
      count = c.in_ok-note.ensures.before;
      same = c.in_ok-note.ensures.to ∙ c.loop-at.invariant.same ∙ sym made;
      keeps = extends_then c.args.into.now u w c.loop-at.invariant.keeps on;
      low = inl low;
      cut = made ∙ c.loop-at.invariant.cut;
    }

-- ---- what is kept

pub returns-in_err-found-clause-keeps : goal.returns-in_err-found-clause-keeps
returns-in_err-found-clause-keeps c = extends_then c.args.into.now c.loop-at.into c.entry.new.into c.loop-at.invariant.keeps c.entry.ensures.keeps

pub returns-in_err-push-clause-keeps : goal.returns-in_err-push-clause-keeps
returns-in_err-push-clause-keeps c = extends_then c.args.into.now c.loop-at.into c.entry.new.into c.loop-at.invariant.keeps c.entry.ensures.keeps

pub returns-in_err-list-clause-keeps : goal.returns-in_err-list-clause-keeps
returns-in_err-list-clause-keeps c =
    extends_then c.args.into.now c.loop-at.into c.list_entry.new.into c.loop-at.invariant.keeps (extends_then c.loop-at.into c.entry.new.into c.list_entry.new.into c.entry.ensures.keeps c.list_entry.ensures.keeps)

pub returns-in_err-note-clause-keeps : goal.returns-in_err-note-clause-keeps
returns-in_err-note-clause-keeps c =
    extends_then c.args.into.now c.loop-at.into c.list_entry.new.into c.loop-at.invariant.keeps (extends_then c.loop-at.into c.entry.new.into c.list_entry.new.into c.entry.ensures.keeps c.list_entry.ensures.keeps)

pub returns-clause-keeps : goal.returns-clause-keeps
returns-clause-keeps c = c.loop-at.invariant.keeps

-- ---- the whole table

pub returns-clause-tied : goal.returns-clause-tied
returns-clause-tied c = c.loop-at.invariant.filled.tied

pub returns-clause-found : goal.returns-clause-found
returns-clause-found c = whole_found c.args.types.now c.loop-at.into c.args.t.now.tokens depth_limit c.loop-at.names c.loop-at.at c.args.from c.args.to c.loop-at.invariant.filled (omega (arith, c.loop-at-test.false)) c.loop-at.invariant.low c.loop-at.invariant.cut

pub returns-clause-longest : goal.returns-clause-longest
returns-clause-longest c = whole_longest c.args.types.now c.loop-at.into c.args.t.now.tokens depth_limit c.loop-at.names c.loop-at.at c.args.from c.args.to c.loop-at.invariant.filled (omega (arith, c.loop-at-test.false)) c.loop-at.invariant.low c.loop-at.invariant.cut

pub returns-clause-only : goal.returns-clause-only
returns-clause-only c = whole_only c.args.types.now c.loop-at.into c.args.t.now.tokens depth_limit c.loop-at.names c.loop-at.at c.args.from c.args.to c.loop-at.invariant.filled (omega (arith, c.loop-at-test.false)) c.loop-at.invariant.low c.loop-at.invariant.cut

pub returns-clause-none : goal.returns-clause-none
returns-clause-none c = whole_none c.args.types.now c.loop-at.into c.args.t.now.tokens depth_limit c.loop-at.names c.loop-at.at c.args.from c.args.to c.loop-at.invariant.filled (omega (arith, c.loop-at-test.false)) c.loop-at.invariant.low c.loop-at.invariant.cut

pub returns-clause-elsewhere : goal.returns-clause-elsewhere
returns-clause-elsewhere c = whole_elsewhere c.args.types.now c.loop-at.into c.args.t.now.tokens depth_limit c.loop-at.names c.loop-at.at c.args.from c.args.to c.loop-at.invariant.filled (omega (arith, c.loop-at-test.false)) c.loop-at.invariant.low c.loop-at.invariant.cut

pub returns-clause-outside : goal.returns-clause-outside
returns-clause-outside c = whole_outside c.args.types.now c.loop-at.into c.args.t.now.tokens depth_limit c.loop-at.names c.loop-at.at c.args.from c.args.to c.loop-at.invariant.filled (omega (arith, c.loop-at-test.false)) c.loop-at.invariant.low c.loop-at.invariant.cut
