-- A bridge: what a step of a call of the library answers.
use Rattle.std.specs.Prelude.{List, ◌++◌, ◌≡◌, Result, Err, Ok}
use Rattle.pv_object.specs.declared.values.Stop.{Stop}
use Rattle.pv_object.specs.declared.values.Stop.TheVariants.{NoMemory}
use Rattle.pv_libc.specs.declared.values.Note.{Note}
use Rattle.pv_libc.specs.Steps.{Did, Now}

-- 7: what a step of a call did, with its notes behind those that there were
abbrev pub behind : {A : Type 0} → List Note → Did A → Did A
behind before d = record d { after = record d.after { notes = before ++ d.after.notes } }

-- this answer, and this is left; or no memory was had, and nothing is said
abbrev pub OrNoMemory : {A : Type 0} → Result A Stop → Now → Did A → Type 0
OrNoMemory (Err NoMemory) S wanted = Unit {0}
OrNoMemory r S wanted = (r ≡ wanted.answer) × (S ≡ wanted.after)

-- an answer that is worth another one
abbrev pub worth : {A B : Type 0} → (A → B) → Result A Stop → Result B Stop
worth f (Ok a) = Ok (f a)
worth f (Err stop) = Err stop

-- the memory model: the call stops so, and these are its notes; or no memory was had, and nothing is said
abbrev pub StopsSo : Stop → List Note → (stop : Stop) → (notes : List Note) → Type 0
StopsSo NoMemory ns stop wanted = Unit {0}
StopsSo y ns stop wanted = (y ≡ stop) × (ns ≡ wanted)
