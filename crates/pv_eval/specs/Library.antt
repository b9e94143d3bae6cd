-- Calls of the library (C17 7): what they tell of, and what they come to.
use Rattle.std.specs.Prelude.{ℕ, List, [], ◌∷◌, Option, Some, None, Result, Ok, Err}
use Rattle.pv_library.specs.declared.library.Library.{Library}
use Rattle.pv_inst.specs.Table.{Table}
use Rattle.pv_object.specs.declared.values.Stop.{Stop}
use Rattle.pv_object.specs.Memory.{Mem}
use Rattle.pv_libc.specs.declared.values.Arg.{Arg}
use Rattle.pv_libc.specs.declared.values.Note.{Note}
use Rattle.pv_libc.specs.declared.values.Note.TheVariants as note
use Rattle.pv_libc.specs.declared.values.Reply.{Reply}
use Rattle.pv_libc.specs.declared.values.Reply.TheVariants as reply
use Rattle.pv_libc.specs.Steps.{Now}
use Rattle.pv_libc.specs.Calls.{reply_to_call, output}
use Rattle.pv_watch.specs.declared.event.What.{What}
use Rattle.pv_watch.specs.declared.event.What.TheVariants as what
use Rattle.pv_world.specs.declared.failing.Blame.{Blame}
use Rattle.pv_world.specs.Worlds.{World, Nothing, Scalar, Halts, Exits, Aborts, Refused}
use Rattle.pv_world.specs.Telling.{Told, event_of_use, event_of_making}
use Rattle.pv_world.specs.Doing.{Done, Answers, Fails, Breaks}
use Rattle.pv_world.specs.Worths.{wrong_of}
use Rattle.std.specs.List.{flat_map}

-- what happened within a call, as events (the memory model: instances made and ended, exposure, uses of pairs of candidates)
abbrev pub noted_as : Table → Note → List What
noted_as T (note.Made i) = event_of_making T i
noted_as T (note.Ended i) = what.Ended i ∷ []
noted_as T (note.Exposed i) = what.Exposed i ∷ []
noted_as T (note.Used tried test) = event_of_use test tried
noted_as T (note.Stopped low high pair) = []

-- the memory model: the candidates of the pointer whose check stops a call, noted last, as they were before
abbrev pub blame_in : List Note → Option Blame
blame_in [] = None
blame_in (note.Stopped low high pair ∷ ns) = Some (record { low = low; high = high; pair = pair })
blame_in (n ∷ ns) = blame_in ns

-- what a call tells: its events (the memory model), and the bytes that it prints (7.21.6.3)
abbrev pub told_of : Mem → List Note → List ℕ → Told
told_of M notes text = record { events = flat_map (noted_as M.table) notes; bytes = text }

-- the memory model: the world, with this memory
abbrev pub with_memory : World → Mem → World
with_memory w M = record w { memory = M }

-- 7.22.4.1, 7.22.4.4: the program may end; a place that the script has for an allocation may be refused, under the name 1
abbrev pub done_by_reply : Reply → World → Told → Done
done_by_reply reply.Nothing w t = Answers Nothing w t
done_by_reply (reply.Value v) w t = Answers (Scalar v) w t
done_by_reply (reply.Exit n) w t = Fails (Halts (Exits n)) None w t
done_by_reply reply.Abort w t = Fails (Halts Aborts) None w t
done_by_reply (reply.Placement e) w t = Fails (Halts (Refused 1 e)) None w t

-- 7.1.4: what comes of the answer of a call, with the memory that it leaves and what it tells; one that stops prints nothing
abbrev pub done_by_call : World → (text : List ℕ) → Result Reply Stop → Now → Done
done_by_call w text (Ok r) S = done_by_reply r (with_memory w S.memory) (told_of S.memory S.notes text)
done_by_call w text (Err y) S = Breaks (wrong_of y) (blame_in S.notes) (with_memory w S.memory) (told_of S.memory S.notes [])

-- 7.1.4: a call of a library function
abbrev pub asks : Library → List Arg → World → Done
asks f args w = done_by_call w (output f args w.memory) (reply_to_call f args w.memory).answer (reply_to_call f args w.memory).after
