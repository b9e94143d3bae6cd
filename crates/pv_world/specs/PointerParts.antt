-- A bridge: what functions answer that do a part of what Pointers says.
use Rattle.pv_fault.specs.declared.faults.Reason.TheVariants.{Uneven, WrongType}
use Rattle.pv_fault.specs.declared.faults.Clause.TheVariants.{SubtractionOfPointers, PointerToFunction}
use Rattle.pv_world.specs.Worths.{undefined_behaviour, on_present_value, pointer_of}
use Rattle.pv_world.specs.Worlds.{Wrong, World, Worth}
use Rattle.pv_world.specs.Pointers.{between_by, moved_by}
use Rattle.pv_world.specs.Doing.{Done, Answers}
use Rattle.pv_world.specs.Telling.{no_telling}
use Rattle.std.specs.Prelude.{ℕ}
use Rattle.pv_object.specs.Operations.{together, select}
use Rattle.pv_object.specs.declared.values.Pointer.{Pointer}

-- 6.5.6p9: a difference that is not whole
abbrev pub uneven : Wrong
uneven = undefined_behaviour SubtractionOfPointers Uneven

-- 6.3.2.3p8: the function is not one of the type that is called
abbrev pub unlike : Wrong
unlike = undefined_behaviour PointerToFunction WrongType

-- 6.5.6p9: the two settle to what they have in common (the memory model: pairs of candidates)
abbrev pub between : (size : ℕ) → Pointer → Pointer → World → Done
between size p q w = between_by size p q w (together SubtractionOfPointers w.memory.table p q)

-- 6.5.3.2p4: without an access `*` checks nothing but that there is a value
abbrev pub follows : Worth → World → Done
follows v w = on_present_value v w (λ v. Answers v w no_telling)

-- 6.5.2.3: null and the empty name are those of the pointer; the range is that of no bytes at the member's address
abbrev pub selects : (offset : ℕ) → Worth → World → Done
selects offset v w = on_present_value v w (λ v. moved_by w (pointer_of v) (select w.memory.table (pointer_of v) offset))
