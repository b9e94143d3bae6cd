-- An expression that a turn is due of goes on by a step.
use Rattle.std.proofs.Common.{◌≡◌, true, false, List, [], ◌∷◌, refl}
use Rattle.std.specs.Prelude.{if◌then◌else◌}
use Rattle.pv_eval.specs.declared.frames.Now.{Now}
use Rattle.pv_eval.specs.declared.frames.Now.TheVariants as now
use Rattle.pv_eval.specs.Machines.{Started, is_due, is_due_at, is_call_at, is_going}

due_here : (p : Now) → is_due_at p ≡ true → (if is_call_at p then false else true) ≡ true
due_here (now.Due n) e = refl
due_here (now.Value v) e = absurd cc
due_here (now.Asked f args line) e = absurd cc

pub due_goes : (es : List Started) → is_due es ≡ true → is_going es ≡ true
due_goes [] e = absurd cc
due_goes (x ∷ es) e = due_here x.place e
