use Rattle.std.proofs.Common.{arith}
use Rattle.std.proofs.lemmas.Result.{MatchResult-weaker}
use Rattle.pv_tree.proofs.Kept.{extends_same}
use Rattle.pv_decl_forms.proofs.Outer.{found, longest, only, none}
use Rattle.pv_decl.specs.Filled.{list_map}
use Rattle.pv_decl.proofs.Givens.{given_tied, no_lists}
use Rattle.pv_decl.proofs.parser.declaration.Goals as goal

pub returns-then-at-len-clause-keeps : goal.returns-then-at-len-clause-keeps
returns-then-at-len-clause-keeps g c = extends_same _

pub returns-clause-found : goal.returns-clause-found
returns-clause-found g c =
    MatchResult-weaker c.declaration.result c.declaration.ensures.answer (λ r a. found c.args.types.now (g.R.TypeReader.types c.args.reader.now) c.args.into.now c.declaration.new.into c.args.t.now.tokens c.args.at c.args.depth c.requires (omega arith) r a) (λ e h. h)

pub returns-clause-longest : goal.returns-clause-longest
returns-clause-longest g c =
    MatchResult-weaker c.declaration.result c.declaration.ensures.answer (λ r a. longest c.args.types.now (g.R.TypeReader.types c.args.reader.now) c.args.into.now c.declaration.new.into c.args.t.now.tokens c.args.at c.args.depth c.requires (omega arith) r a) (λ e h. h)

pub returns-clause-only : goal.returns-clause-only
returns-clause-only g c =
    MatchResult-weaker c.declaration.result c.declaration.ensures.answer (λ r a. only c.args.types.now (g.R.TypeReader.types c.args.reader.now) c.args.into.now c.declaration.new.into c.args.t.now.tokens c.args.at c.args.depth c.requires (omega arith) r a) (λ e h. h)

pub returns-clause-none : goal.returns-clause-none
returns-clause-none g c =
    MatchResult-weaker c.declaration.result c.declaration.ensures.answer (λ r a. none c.args.types.now (g.R.TypeReader.types c.args.reader.now) c.args.into.now c.declaration.new.into c.args.t.now.tokens c.args.at c.args.depth c.requires (omega arith) r a) (λ e h. h)

pub returns-then-at-len-clause-found : goal.returns-then-at-len-clause-found
returns-then-at-len-clause-found g c = tt

pub returns-then-at-len-clause-longest : goal.returns-then-at-len-clause-longest
returns-then-at-len-clause-longest g c = tt

pub returns-then-at-len-clause-only : goal.returns-then-at-len-clause-only
returns-then-at-len-clause-only g c = tt

pub returns-then-at-len-clause-none : goal.returns-then-at-len-clause-none
returns-then-at-len-clause-none g c = λ _ d end from to spells. omega (arith, from, to, c.if-at-len.true, c.len.ensures)

pub declaration-requires : goal.declaration-requires
declaration-requires g c = record { place = omega (arith, c.if-at-len.false, c.len.ensures); tied = given_tied (list_map c.new-lists.result) c.args.types.now (g.R.TypeReader.types c.args.reader.now) c.args.into.now c.args.t.now.tokens (no_lists c.new-lists.result c.new-lists.ensures.items) c.requires }

pub returns-clause-keeps : goal.returns-clause-keeps
returns-clause-keeps g c = c.declaration.ensures.keeps
