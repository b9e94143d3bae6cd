use Rattle.std.proofs.Common.{rules, ◌≡◌, ◌<◌, ◌≤◌, length, All, subst}
use Rattle.std.proofs.lemmas.List.{take_all}
use Rattle.std.proofs.lemmas.List.Elements.{All-more}
use Rattle.pv_object.specs.Answers.{IsMadeValue}
use Rattle.pv_libc.specs.declared.values.Arg.{Arg}
use Rattle.pv_memory_tests.proofs.library.known.Goals as goal

pub loop-i-preserved : goal.loop-i-preserved
loop-i-preserved g c =
    let before : c.loop-i.i < length c.args.args.now = search rules in
    let P : Arg → Type 0 = λ a. IsMadeValue c.args.memory.now.table a.value in
    All-more P c.args.args.now c.loop-i.i _ before c.loop-i.invariant c.assert_known.ensures

pub returns : goal.returns
returns g c =
    let over : length c.args.args.now ≤ c.loop-i.i = search rules in
    let P : Arg → Type 0 = λ a. IsMadeValue c.args.memory.now.table a.value in
    subst (λ xs. All P xs) (take_all c.loop-i.i c.args.args.now over) c.loop-i.invariant
