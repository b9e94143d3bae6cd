use Rattle.std.proofs.Common.{◌≡◌, ℕ, ◌+◌, ◌<◌, length, get_or, map, List, Bor, Vec, Global, ap, ◌∙◌, arith}
use Rattle.std.proofs.lemmas.List.{length-map}
use Rattle.pv_shown.specs.declared.reading.Command.{Command}
use Rattle.pv_shown.specs.Commands.{after_line}
use Rattle.pv_shown.proofs.LineSteps.{get_or_map, few_lines, passes_on, fault_told, fault_of_all, all_read, list_is}
use Rattle.pv_shown.proofs.reading.commands.Goals as goal

pub overflow_cast-i : goal.overflow_cast-i
overflow_cast-i c =
    let l = few_lines (λ x. x.now) c.in-Ok.lines.items c.args.text.now c.in-Ok.ensures (omega arith) in
    record { fits = omega (arith, l, c.in-Ok.lines.ok.0) }

pub overflow_add-i : goal.overflow_add-i
overflow_add-i c =
    let l = few_lines (λ x. x.now) c.in-Ok.lines.items c.args.text.now c.in-Ok.ensures (omega arith) in
    record { fits = omega (arith, l, c.in-Ok.lines.ok.0) }

pub returns-in-Err : goal.returns-in-Err
returns-in-Err c =
    let f : Bor (List ℕ) → List ℕ = λ x. x.now in
    let lines = map f c.in-Ok.lines.items in
    let i = c.loop-i.i in
    let cs = c.loop-i.commands.items in
    let d = f c.index.result.now in
    let here : d ≡ get_or lines i d = ap f c.index.ensures ∙ get_or_map f c.in-Ok.lines.items i c.index.result.now in
    let within : i < length lines = omega (arith, length-map c.in-Ok.lines.items f, c.in-Ok.lines.ok.0, c.len-i-end.ensures) in
    fault_told (λ (u : Unit {0}). c.add_line.new.commands.items) (λ (v : Vec Command Global). v.items) c.in-Err.error _ _ c.in-Err.ensures (λ h. fault_of_all lines i d cs c.in-Err.error within c.loop-i.invariant (h ∙ ap (λ x. after_line (i + 1) x cs) here)
    ∙ list_is c.args.text.now lines c.if-text-gt-COMMANDS_LIMIT.false c.in-Ok.ensures)

pub loop-i-preserved : goal.loop-i-preserved
loop-i-preserved c =
    let f : Bor (List ℕ) → List ℕ = λ x. x.now in
    let lines = map f c.in-Ok.lines.items in
    let i = c.loop-i.i in
    let cs = c.loop-i.commands.items in
    let d = f c.index.result.now in
    let here : d ≡ get_or lines i d = ap f c.index.ensures ∙ get_or_map f c.in-Ok.lines.items i c.index.result.now in
    let within : i < length lines = omega (arith, length-map c.in-Ok.lines.items f, c.in-Ok.lines.ok.0, c.len-i-end.ensures) in
    passes_on lines i d cs (c.add_line.new.commands.items) within (c.in_default-add_line.ensures ∙ ap (λ x. after_line (i + 1) x cs) here) ∙ c.loop-i.invariant

pub returns : goal.returns
returns c =
    let f : Bor (List ℕ) → List ℕ = λ x. x.now in
    let lines = map f c.in-Ok.lines.items in
    let all : c.loop-i.i ≡ length lines = omega (arith, length-map c.in-Ok.lines.items f, c.in-Ok.lines.ok.0, c.len-i-end.ensures, c.loop-i.auto.i-end) in
    all_read lines c.loop-i.i (c.loop-i.commands.items) all c.loop-i.invariant ∙ list_is c.args.text.now lines c.if-text-gt-COMMANDS_LIMIT.false c.in-Ok.ensures
