-- A step of a call, and one step behind another.
use Rattle.std.specs.Prelude.{ℕ, ◌+◌, ◌-◌, ◌^◌, min, Bool, List, [], ◌∷◌, ◌++◌, map, Result, Ok, Err}
use Rattle.pv_inst.specs.declared.values.Tried.{Tried}
use Rattle.pv_inst.specs.declared.values.Miss.{Miss}
use Rattle.pv_inst.specs.declared.values.Test.TheVariants.{Range}
use Rattle.pv_inst.specs.Table.{Table}
use Rattle.pv_inst.specs.Use.{use_answer, test_number}
use Rattle.pv_object.specs.declared.values.Reach.{Reach}
use Rattle.pv_object.specs.declared.values.Stop.{Stop}
use Rattle.pv_object.specs.declared.values.Asker.{Asker}
use Rattle.pv_object.specs.Memory.{Mem, with_table}
use Rattle.pv_object.specs.Access.{reach}
use Rattle.pv_libc.specs.declared.values.Note.{Note}
use Rattle.pv_libc.specs.declared.values.Note.TheVariants.{Exposed, Used}
use Rattle.pv_libc.specs.declared.values.Given.{Given}
use Rattle.std.specs.Option.{option_map_or}

-- where a call stands: the memory, and what was noted so far (the memory model)
pub record Now : Type 0 where
  pub memory : Mem
  pub notes : List Note

-- a call begins, with these notes
abbrev pub with_notes : Mem → List Note → Now
with_notes M notes = record { memory = M; notes = notes }

-- a step of a call: its answer, or why it stops, and what it leaves
pub record Did (A : Type 0) : Type 0 where
  pub answer : Result A Stop
  pub after : Now

-- nothing is to be done
abbrev pub answer_now : {A : Type 0} → A → Now → Did A
answer_now a S = record { answer = Ok a; after = S }

-- it stops here
abbrev pub stop_now : {A : Type 0} → Stop → Now → Did A
stop_now stop S = record { answer = Err stop; after = S }

-- a step, and then another one on its answer and on what it leaves. After a stop there is none
abbrev pub next_by : {A B : Type 0} → Result A Stop → Did A → (A → Now → Did B) → Did B
next_by (Ok a) d rest = rest a d.after
next_by (Err stop) d rest = stop_now stop d.after

-- a step, and then another one
abbrev pub next : {A B : Type 0} → Did A → (A → Now → Did B) → Did B
next d rest = next_by d.answer d rest

-- more is noted
abbrev pub with_more_notes : List Note → Now → Now
with_more_notes more S = record S { notes = S.notes ++ more }

-- the memory is this one
abbrev pub in_memory : Now → Mem → Now
in_memory S M = record S { memory = M }

-- the table of instances and pairs is this one
abbrev pub in_table : Now → Table → Now
in_table S T = in_memory S (with_table S.memory T)

-- where a step stops with this answer, this is noted last
abbrev pub about_by : {A : Type 0} → Result A Stop → Note → Did A → Did A
about_by (Ok a) note d = d
about_by (Err stop) note d = stop_now stop (with_more_notes (note ∷ []) d.after)

-- where the step stops, this is noted last
abbrev pub about : {A : Type 0} → Note → Did A → Did A
about note d = about_by d.answer note d

-- the memory model: a use of a name that stood for two before, a pair of candidates, is noted where it found survivors
abbrev pub use_notes : Result Tried Miss → ℕ → List Note
use_notes (Ok tried) test = option_map_or (λ k. Used tried test ∷ []) tried.pair []
use_notes (Err miss) test = []

-- the memory model: what became exposed is noted, in order
abbrev pub with_exposures : Now → Now
with_exposures S = record {
  memory = with_table S.memory (record S.memory.table { pending = [] });
  notes = S.notes ++ map Exposed S.memory.table.pending;
}

-- 7.24.1p2, 6.5.3.2p4: the checks of an access to n bytes, and the use of the pointer that they make
abbrev pub reached_by : Asker → (write : Bool) → Given → (n : ℕ) → Now → Result Reach Stop × Table → Did Reach
reached_by by write g n S got =
    let t = Range g.pointer.address n in
    record { answer = got.0; after = with_more_notes (use_notes (use_answer S.memory.table g.pointer.prov t) (test_number t)) (in_table S got.1) }

-- 7.24.1p2, 7.1.4p1: an access through this pointer, on behalf of who asks
abbrev pub reach_for : Asker → (write : Bool) → Given → (n : ℕ) → Now → Did Reach
reach_for by write g n S = about g.stopped (reached_by by write g n S (reach S.memory.table g.pointer n 1 write by))

-- 6.5.6p8: the pointer so many bytes further on; where there is no such address, the last one, which lies in no instance
abbrev pub bytes_further : Given → ℕ → Given
bytes_further g i = record g { pointer = record g.pointer { address = min (g.pointer.address + i) (2 ^ 64 - 1) } }
