-- A bridge: what functions answer that do a part of what Library says.
use Rattle.std.specs.Prelude.{Bool, List}
use Rattle.pv_libc.specs.declared.values.Arg.{Arg}
use Rattle.pv_libc.specs.declared.values.Note.{Note}
use Rattle.pv_inst.specs.Table.{Table}
use Rattle.pv_watch.specs.declared.event.What.{What}
use Rattle.pv_world.specs.Suiting.{knows_value}
use Rattle.pv_eval.specs.Library.{noted_as}
use Rattle.std.specs.List.{flat_map, list_all}

-- what happened within a call, in order, as events (the memory model)
abbrev pub all_noted : Table → List Note → List What
all_noted T ns = flat_map (noted_as T) ns

-- what the names in arguments speak of was made (the memory model)
abbrev pub knows_arguments : Table → List Arg → Bool
knows_arguments T args = list_all (λ (x : Arg). knows_value T x.value) args
