use Rattle.std.proofs.Common.{refl, ap, ◌∙◌}
use Rattle.pv_typed.specs.TypedUnits.{WholeUnit, TypedFunction, function_at}
use Rattle.pv_typed.specs.Tables.{nodes, body_in}
use Rattle.pv_typed.specs.Formed.{HasBody}
use Rattle.std.proofs.Common.{subst}
use Rattle.pv_exec.proofs.Calling.{body-some, body-none}
use Rattle.pv_exec.proofs.calls.body_of.Goals as goal

pub returns-in-Some : goal.returns-in-Some
returns-in-Some c =
    let u = c.args.unit.now in
    let f = c.args.f in
    record {
      does = record {
        runs = λ b k es s e. body-some b u k f c.in-Some.x es s (ap (λ (x : TypedFunction). x.body) (ap (λ (q : WholeUnit). function_at q f) e ∙ c.function.ensures.function) ∙ ap (body_in (nodes u)) c.in-Some.is);
        here = λ es. refl;
        counts = λ es. refl;
        fits = λ es. subst (HasBody u) c.in-Some.is c.function.ensures.body;
      };
    }

pub returns-in-None : goal.returns-in-None
returns-in-None c =
    let u = c.args.unit.now in
    let f = c.args.f in
    record {
      does = record {
        runs = λ b k es s e. body-none b u k f es s (ap (λ (x : TypedFunction). x.body) (ap (λ (q : WholeUnit). function_at q f) e ∙ c.function.ensures.function) ∙ ap (body_in (nodes u)) c.in-None.is);
        here = λ es. refl;
        counts = λ es. refl;
        fits = λ es. tt;
      };
    }
