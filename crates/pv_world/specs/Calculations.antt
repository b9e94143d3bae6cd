-- What `*` gives without an access (C17 6.5.3.2).
use Rattle.std.specs.Prelude.{Bool, true, false}
use Rattle.pv_world.specs.Worlds.{Worth, Nothing, World}
use Rattle.pv_world.specs.Telling.{no_telling}
use Rattle.pv_world.specs.Doing.{Done, Answers}
use Rattle.pv_world.specs.Worths.{on_present_value}

-- 6.5.3.2p4: what `*` gives, where it designates an object or has the type `void`: without an access it checks nothing but that there is a value
abbrev pub follows_to : (nothing : Bool) → Worth → World → Done
follows_to true v w = on_present_value v w (λ v. Answers Nothing w no_telling)
follows_to false v w = on_present_value v w (λ v. Answers v w no_telling)
