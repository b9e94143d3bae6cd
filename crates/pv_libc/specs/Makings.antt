-- A bridge: what a call makes is there when it ends (C17 7.22.3p1: an allocation lives until it is deallocated).
use Rattle.std.specs.Prelude.{List, All, Result, Err}
use Rattle.pv_inst.specs.declared.values.Instance.{Instance}
use Rattle.pv_inst.specs.Answers.{IsLive}
use Rattle.pv_object.specs.declared.values.Stop.{Stop}
use Rattle.pv_object.specs.declared.values.Stop.TheVariants.{NoMemory}
use Rattle.pv_object.specs.Memory.{Mem}
use Rattle.pv_libc.specs.declared.values.Note.{Note}
use Rattle.pv_libc.specs.declared.values.Note.TheVariants.{Made, Ended, Exposed, Used, Stopped}

-- 7.22.3p1: an instance that is noted as made is live
abbrev pub IsLiveIfMade : List Instance → Note → Type 0
IsLiveIfMade xs (Made i) = IsLive xs i
IsLiveIfMade xs (Ended i) = Unit {0}
IsLiveIfMade xs (Exposed i) = Unit {0}
IsLiveIfMade xs (Used tried test) = Unit {0}
IsLiveIfMade xs (Stopped low high pair) = Unit {0}

-- 7.22.3p1: the same of each
abbrev pub AreLive : Mem → List Note → Type 0
AreLive M notes = All (IsLiveIfMade M.table.instances) notes

-- after want of memory nothing is said
abbrev pub UnlessNoMemory : {A : Type 0} → Result A Stop → Type 0 → Type 0
UnlessNoMemory (Err NoMemory) P = Unit {0}
UnlessNoMemory r P = P
