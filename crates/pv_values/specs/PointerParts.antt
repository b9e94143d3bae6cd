-- A bridge: what functions answer that do a part of what Values says of pointers.
use Rattle.std.specs.Prelude.{ℕ, List, Option, Some}
use Rattle.std.specs.Option.{option_map}
use Rattle.pv_prov.specs.declared.names.Prov.{Prov}
use Rattle.pv_inst.specs.Table.{Table}
use Rattle.pv_inst.specs.Finding.{found_at}
use Rattle.pv_typed.specs.TypedUnits.{WholeUnit}
use Rattle.pv_values.specs.declared.pointers.Pointed.{Pointed}
use Rattle.pv_values.specs.Values.{found_text}

-- the memory model: a pointer that was read: its number, and its name where it was stored as one
abbrev pub seen_pointer : Option Pointed → Option (ℕ × Option Prov)
seen_pointer p = option_map (λ (p : Pointed). (p.address, p.name)) p

-- 6.3.2.3p5: a number that finds two instances
abbrev pub number_of_two : WholeUnit → Table → (low high a : ℕ) → List ℕ
number_of_two u T i j a = found_text u T a (Some i) (Some j)

-- 6.3.2.3p5: a pointer whose bytes are a number
abbrev pub found_by : WholeUnit → Table → (a : ℕ) → List ℕ
found_by u T a = found_text u T a (found_at T a).low (found_at T a).high
