use Rattle.std.proofs.Common.{ℕ, ap, arith, drop}
use Rattle.std.proofs.lemmas.Result.{MatchResult-weaker}
use Rattle.pv_tree.proofs.Kept.{extends_same}
use Rattle.pv_expr_forms.specs.Known.{names_in}
use Rattle.pv_expr_forms.specs.Numbers.{level_number}
use Rattle.pv_expr_forms.specs.Reader.{read}
use Rattle.pv_expr_forms.proofs.Answered.{moved}
use Rattle.pv_expr_forms.proofs.Parsed.{found, longest, only, none}
use Rattle.pv_expr.proofs.parser.expression.Goals as goal

pub returns-then-at-len-clause-keeps : goal.returns-then-at-len-clause-keeps
returns-then-at-len-clause-keeps g c = extends_same _

pub returns-then-at-len-clause-none : goal.returns-then-at-len-clause-none
returns-then-at-len-clause-none g c = λ e a end from to s. absurd (omega (arith, from, to))

pub returns-clause-found : goal.returns-clause-found
returns-clause-found g c =
    let answers = moved c.read_tree.result c.read_tree.new.into c.args.t.now.tokens _ _ (ap (λ (l : ℕ). read (names_in c.args.types.now (g.R.TypeReader.types c.args.reader.now) c.args.into.now c.args.t.now.tokens) c.args.depth l (drop c.args.at c.args.t.now.tokens)) c.number.ensures) c.read_tree.ensures.answer in
    MatchResult-weaker c.read_tree.result answers (λ r a. found c.args.types.now (g.R.TypeReader.types c.args.reader.now) c.args.into.now c.read_tree.new.into c.args.t.now.tokens c.args.at (level_number c.args.level) c.args.depth c.requires (omega arith) r a) (λ e h. h)

pub returns-clause-longest : goal.returns-clause-longest
returns-clause-longest g c =
    let answers = moved c.read_tree.result c.read_tree.new.into c.args.t.now.tokens _ _ (ap (λ (l : ℕ). read (names_in c.args.types.now (g.R.TypeReader.types c.args.reader.now) c.args.into.now c.args.t.now.tokens) c.args.depth l (drop c.args.at c.args.t.now.tokens)) c.number.ensures) c.read_tree.ensures.answer in
    MatchResult-weaker c.read_tree.result answers (λ r a. longest c.args.types.now (g.R.TypeReader.types c.args.reader.now) c.args.into.now c.read_tree.new.into c.args.t.now.tokens c.args.at (level_number c.args.level) c.args.depth c.requires (omega arith) r a) (λ e h. h)

pub returns-clause-only : goal.returns-clause-only
returns-clause-only g c =
    let answers = moved c.read_tree.result c.read_tree.new.into c.args.t.now.tokens _ _ (ap (λ (l : ℕ). read (names_in c.args.types.now (g.R.TypeReader.types c.args.reader.now) c.args.into.now c.args.t.now.tokens) c.args.depth l (drop c.args.at c.args.t.now.tokens)) c.number.ensures) c.read_tree.ensures.answer in
    MatchResult-weaker c.read_tree.result answers (λ r a. only c.args.types.now (g.R.TypeReader.types c.args.reader.now) c.args.into.now c.read_tree.new.into c.args.t.now.tokens c.args.at (level_number c.args.level) c.args.depth c.requires (omega arith) r a) (λ e h. h)

pub returns-clause-none : goal.returns-clause-none
returns-clause-none g c =
    let answers = moved c.read_tree.result c.read_tree.new.into c.args.t.now.tokens _ _ (ap (λ (l : ℕ). read (names_in c.args.types.now (g.R.TypeReader.types c.args.reader.now) c.args.into.now c.args.t.now.tokens) c.args.depth l (drop c.args.at c.args.t.now.tokens)) c.number.ensures) c.read_tree.ensures.answer in
    MatchResult-weaker c.read_tree.result answers (λ r a. none c.args.types.now (g.R.TypeReader.types c.args.reader.now) c.args.into.now c.read_tree.new.into c.args.t.now.tokens c.args.at (level_number c.args.level) c.args.depth c.requires (omega arith) r a) (λ e h. h)

pub returns-clause-keeps : goal.returns-clause-keeps
returns-clause-keeps g c = c.read_tree.ensures.keeps

pub read_tree-requires : goal.read_tree-requires
read_tree-requires g c = record { place = omega (arith, c.if-at-len.false, c.len.ensures); tied = c.requires }
