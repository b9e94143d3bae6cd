use Rattle.std.proofs.Common.{refl, subst, sym, ap, ◌∙◌}
use Rattle.pv_check.specs.declared.scopes.Named.TheVariants as named
use Rattle.pv_check.specs.Open.{state_of, IsOpen}
use Rattle.pv_check.specs.Raw.{Raw}
use Rattle.pv_check.proofs.Noting.{open_noted, state_noted}
use Rattle.pv_check.proofs.calls.used_callee.Goals as goal

pub returns-in_default-clause-value : goal.returns-in_default-clause-value
returns-in_default-clause-value c = λ texts hidden. (sym (c.in_default.ensures.value texts hidden), refl)

pub returns-clause-open : goal.returns-clause-open
returns-clause-open c = subst (λ (r : Raw). IsOpen c.args.into.now r) (sym c.in_ok-note.ensures) (open_noted c.args.into.now c.args.s.now (named.Function c.in-Some.f) c.requires.open)

pub returns-clause-value : goal.returns-clause-value
returns-clause-value c = λ texts hidden. (
  sym (c.in-Some.ensures.value texts hidden),
  ap (λ (r : Raw). state_of texts hidden r c.args.into.now) c.in_ok-note.ensures ∙ state_noted texts hidden c.args.into.now c.args.s.now (named.Function c.in-Some.f),
)
