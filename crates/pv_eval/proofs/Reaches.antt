-- Accesses piece by piece: what a piece comes to within the whole.
use Rattle.std.proofs.Common.{◌≡◌, Bool, false, List, ◌++◌, sym, ap, ◌∙◌}
use Rattle.std.specs.Prelude.{if◌then◌else◌}
use Rattle.pv_watch.specs.declared.event.What.{What}
use Rattle.pv_world.specs.Worlds.{Worth, World}
use Rattle.pv_world.specs.Telling.{telling}
use Rattle.pv_world.specs.Doing.{Done, Answers}
use Rattle.pv_world.specs.Coming.{Gave, coming_of}

-- a value that was stored
pub stored_alone : (t : Bool) (d : Done) (v : Worth) (w0 x new : World) (es us bs : List What) → t ≡ false → new ≡ x → bs ≡ es ++ us
    → coming_of es w0 (if t then d else Answers v x (telling us)) ≡ Gave v new bs
stored_alone t d v w0 x new es us bs e is told =
    ap (λ c. coming_of es w0 (if c then d else Answers v x (telling us))) e ∙ ap (λ z. Gave v z (es ++ us)) (sym is) ∙ ap (Gave v new) (sym told)
