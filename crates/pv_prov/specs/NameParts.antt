-- A bridge: what functions answer that do a part of what Names says.
use Rattle.std.specs.Prelude.{if◌then◌else◌, None, Some, Bool, slice_set, ℕ, ◌-◌, List, Option}
use Rattle.pv_prov.specs.declared.names.Stands.{Stands}
use Rattle.pv_prov.specs.declared.pairs.Twin.{Twin}
use Rattle.std.specs.Option.{option_map_or}

-- the memory model: a pair stands for those of its two that it keeps
abbrev pub those_kept : Twin → Stands
those_kept t = record { low = if t.keeps_low then Some t.low else None; high = if t.keeps_high then Some t.high else None }

-- the memory model: the pairs after pair k, if it was made, keeps those two of its instances that the tests name
abbrev pub keeping : Option Twin → List Twin → ℕ → Bool → Bool → List Twin
keeping t pairs k low high = option_map_or (λ (t : Twin). slice_set pairs (k - 1) (record t { keeps_low = low; keeps_high = high })) t pairs
