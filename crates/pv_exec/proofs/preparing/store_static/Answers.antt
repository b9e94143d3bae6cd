use Rattle.std.proofs.Common.{◌∙◌, ◌+◌, ap, sym, subst, ◌∷◌, ◌≡◌}
use Rattle.std.specs.Prelude.{drop}
use Rattle.pv_typed.specs.declared.entries.InitValue.{InitValue}
use Rattle.pv_typed.specs.TypedUnits.{WholeUnit, object_at}
use Rattle.pv_typed.specs.Tables.{nodes, store_in, value_in}
use Rattle.pv_typed.specs.NodeTrees.{expression_at}
use Rattle.pv_typed.specs.Addresses.{constant_of}
use Rattle.pv_world.specs.Coming.{worth_of}
use Rattle.pv_eval.specs.Moments.{state_of}
use Rattle.pv_exec.proofs.Readying.{first-same, static-constant, static-text}
use Rattle.pv_exec.proofs.preparing.store_static.Goals as goal

pub returns-in-Some-clause-made : goal.returns-in-Some-clause-made
returns-in-Some-clause-made c = λ b out es hs hl x xs h.
    let u = c.args.unit.now in
    let old = c.args.machine.now.moment in
    let new = c.put.new.self.moment in
    let o = c.args.o in
    let i = c.args.i in
    let y = store_in u.known (nodes u) c.init_at-init.result in
    let inits = subst (λ (q : WholeUnit). drop i (object_at q o).inits ≡ y ∷ drop (i + 1) (object_at q o).inits) (sym hs.unit) c.init_at-init.ensures.store in
    let e = expression_at u c.in-Node.e in
    static-constant b o x y e c.in-Some.c (worth_of c.constant-v.result) c.put.result (state_of old out es) (state_of new out es) (first-same x y xs (drop (i + 1) (object_at b.unit o).inits) (sym h ∙ inits)) (ap (λ (q : InitValue). value_in (nodes u) q) c.in-Node.is)
    (ap (λ (q : WholeUnit). constant_of q e) hs.unit ∙ sym c.in-Some.ensures) c.constant-v.ensures (c.put.ensures.made b out es hs hl y.line)

pub returns-in-Text-clause-made : goal.returns-in-Text-clause-made
returns-in-Text-clause-made c = λ b out es hs hl x xs h.
    let u = c.args.unit.now in
    let old = c.args.machine.now.moment in
    let new = c.put_text.new.self.moment in
    let o = c.args.o in
    let i = c.args.i in
    let y = store_in u.known (nodes u) c.init_at-init.result in
    let inits = subst (λ (q : WholeUnit). drop i (object_at q o).inits ≡ y ∷ drop (i + 1) (object_at q o).inits) (sym hs.unit) c.init_at-init.ensures.store in
    static-text b o x y c.in-Text.l c.put_text.result (state_of old out es) (state_of new out es) (first-same x y xs (drop (i + 1) (object_at b.unit o).inits) (sym h ∙ inits)) (ap (λ (q : InitValue). value_in (nodes u) q) c.in-Text.is)
    (c.put_text.ensures.made b out es hs hl y.line)
