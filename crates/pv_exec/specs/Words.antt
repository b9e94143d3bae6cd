-- The numbers of events are those of 64 bits (the memory model: instances and pairs are counted from 0).
use Rattle.std.specs.Prelude.{ℕ, ◌<◌, ◌^◌, None, Some}
use Rattle.std.specs.declared.option.Option.{Option}
use Rattle.pv_watch.specs.declared.event.What.{What}
use Rattle.pv_watch.specs.declared.event.What.TheVariants as what
use Rattle.pv_eval.specs.declared.marked.Marked.{Marked}

-- the memory model: a number, of an instance, of its name or of a pair, that 64 bits can say
abbrev pub IsWord : ℕ → Type 0
IsWord n = n < 2 ^ 64

-- the memory model: a number that may be left out, and that 64 bits can say if it isn't
abbrev pub IsWordIf : Option ℕ → Type 0
IsWordIf None = Unit {0}
IsWordIf (Some n) = IsWord n

-- the memory model: each number of what happened is one that 64 bits can say
abbrev pub FitsWhat : What → Type 0
FitsWhat (what.Made inst name k base size) = IsWord inst × IsWord k × IsWord base × IsWord size
FitsWhat (what.Ended inst) = IsWord inst
FitsWhat (what.Exposed inst) = IsWord inst
FitsWhat (what.Pair pair address low high) = IsWord pair × IsWord address × IsWord low × IsWord high
FitsWhat (what.Tried pair test low high) = IsWord pair
FitsWhat (what.Fault verdict low high pair) = IsWordIf low × IsWordIf high × IsWordIf pair

-- 5.1.2.3: an event whose numbers, its turn first, 64 bits can say
pub record FitsWords (m : Marked) : Type 0 where
  pub turn : IsWord m.event.turn
  pub mark : IsWord m.mark
  pub what : FitsWhat m.event.what
