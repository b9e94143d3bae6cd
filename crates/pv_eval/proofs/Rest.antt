-- Pieces of a run and the stack.
use Rattle.std.proofs.Common.{◌≡◌, refl}
use Rattle.pv_eval.specs.States.{State, Res, Gives, Stops, then_do}

-- pieces in a row may be joined either way
pub then-then : {A B C : Type 0} (m : Res A) (f : A → State → Res B) (g : B → State → Res C) → then_do m (λ a s. then_do (f a s) g) ≡ then_do (then_do m f) g
then-then (Gives a s) f g = refl
then-then (Stops w s) f g = refl
