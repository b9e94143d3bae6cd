-- What a call comes to that ends the run.
use Rattle.std.proofs.Common.{◌≡◌, List, Err, sym, ap, ◌∙◌}
use Rattle.pv_watch.specs.declared.event.What.{What}
use Rattle.pv_world.specs.declared.got.Failure.{Failure}
use Rattle.pv_world.specs.declared.got.Failure.TheVariants as failure
use Rattle.pv_world.specs.Worlds.{Worth, World, Wrong}
use Rattle.pv_world.specs.Coming.{Came, Seen, Ended, Faulted, wrong_for}

pub came_fails : {A : Type 0} (give : A → Worth) (f : Failure) (y : Wrong) (w : World) (es wanted : List What) (s : Seen) → s ≡ Ended y w wanted → Faulted f y es wanted → Came give (Err f) w es s
came_fails give (failure.Stop z) y w es wanted s is h = is ∙ ap (λ x. Ended x w wanted) (sym h.0) ∙ ap (Ended (wrong_for z) w) (sym h.1)
came_fails give failure.NoMemory y w es wanted s is h = tt
