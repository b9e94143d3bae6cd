use Rattle.std.proofs.Common.{Some, ◌∙◌, sym, arith}
use Rattle.pv_decl.proofs.Held.{filled_before, noted_count, noted_here, noted_behind}
use Rattle.pv_decl.proofs.lists.ParameterLists.note.Goals as goal

pub returns-in_default-clause-here : goal.returns-in_default-clause-here
returns-in_default-clause-here c = filled_before c.args.self.now.to c.args.self.now.found c.args.at c.requires ∙ sym c.in_default.is

pub fill-requires : goal.fill-requires
fill-requires c = omega (arith, c.requires)

pub returns-clause-before : goal.returns-clause-before
returns-clause-before c = noted_count c.args.self.now.to c.args.self.now.found c.fill.new.self c.push.new.self c.args.at (Some c.in-Some.known) c.requires c.in_ok-fill.ensures c.in_ok-push.ensures

pub returns-clause-here : goal.returns-clause-here
returns-clause-here c =
    noted_here c.args.self.now.to c.args.self.now.found c.fill.new.self c.push.new.self c.args.at (Some c.in-Some.known) c.requires c.in_ok-fill.ensures c.in_ok-push.ensures ∙ sym c.in-Some.is

pub returns-clause-behind : goal.returns-clause-behind
returns-clause-behind c = noted_behind c.args.self.now.to c.args.self.now.found c.fill.new.self c.push.new.self c.args.at (Some c.in-Some.known) c.requires c.in_ok-fill.ensures c.in_ok-push.ensures
