-- A turn that was taken.
use Rattle.std.proofs.Common.{◌≡◌, ℕ, ◌+◌, List, length, sym, ap, ◌∙◌, subst}
use Rattle.pv_typed.specs.Tables.{Stored}
use Rattle.pv_eval.specs.declared.marked.Marked.{Marked}
use Rattle.pv_eval.specs.States.{Setting, spend}
use Rattle.pv_eval.specs.Moments.{Moment, IsSetting, Follows, Stays, state_of}
use Rattle.pv_eval.specs.MachineSteps.{KeepsSetting}

pub ticked-setting : (b : Setting) (u : Stored) (m n : Moment) → n ≡ record m { taken = m.taken + 1 } → IsSetting b u m → IsSetting b u n
ticked-setting b u m n e h = record { unit = h.unit; types = h.types; sides = h.sides ∙ sym (ap (λ (x : Moment). x.sides) e) }

pub ticked-follows : (m n : Moment) (out : List ℕ) → n ≡ record m { taken = m.taken + 1 } → Follows m (length out) → Follows n (length out)
ticked-follows m n out e h = subst (λ (x : Moment). Follows x (length out)) (sym e) h

pub ticked-state : (m n : Moment) (out : List ℕ) (es : List Marked) → n ≡ record m { taken = m.taken + 1 } → spend (state_of m out es) ≡ state_of n out es
ticked-state m n out es e = ap (λ (x : Moment). state_of x out es) (sym e)

pub ticked-keeps : (l m n : Moment) → m ≡ record l { taken = l.taken + 1 } → Stays m n → KeepsSetting l n
ticked-keeps l m n e h = record { total = λ t f. h.total t (subst (λ (x : Moment). Follows x t) (sym e) f); sides = h.sides ∙ ap (λ (x : Moment). x.sides) e }
