use Rattle.std.proofs.Common.{[], refl, sym, ap, ◌∙◌}
use Rattle.std.specs.Prelude.{Ok}
use Rattle.pv_object.specs.declared.values.Pointer.{Pointer}
use Rattle.pv_object.specs.declared.values.Value.TheVariants.{Pointer as PointerValue}
use Rattle.pv_world.specs.declared.got.Got.TheVariants as got
use Rattle.pv_world.specs.Worths.{pointer}
use Rattle.pv_world.specs.Objects.{address_of, function_of}
use Rattle.pv_world.specs.Coming.{Gave, worth_of}
use Rattle.pv_eval.specs.Operations.{NamesFunction}
use Rattle.pv_eval.specs.Acting.{pair_count}
use Rattle.pv_eval.specs.Moments.{Moment, Came, state_of}
use Rattle.pv_eval.proofs.Chosen.{closing}
use Rattle.pv_eval.proofs.moment.Moment.function.Goals as goal

pub returns-clause-acted : goal.returns-clause-acted
returns-clause-acted c = λ b out es hs hf.
    let w = c.args.self.now.world in
    let did = ap (λ (p : Pointer). Gave (pointer p) w []) (sym (c.function_place-place.ensures ∙ ap (λ (m : Moment). address_of m.world (function_of m.world c.args.f)) c.self.view_is)) in
    closing worth_of (λ z. Came z c.close.result (state_of c.close.new.self out es)) b c.args.unit.now (NamesFunction c.args.f) (NamesFunction c.args.f) c.args.line (Ok (got.Scalar (PointerValue c.function_place-place.result))) c.args.self.now c.args.self.now w [] [] _ out es
    refl hs hf refl (c.deref.ensures.value ∙ c.new-told.ensures.items) refl
    did
    (λ op s f d. c.close.ensures.acted b _ op out es s (c.pairs_made-before.ensures ∙ ap (λ (m : Moment). pair_count m.world) c.self.view_is) f d)
