-- A bridge: what functions answer that do a part of what Parts says.
use Rattle.std.specs.Prelude.{◌+◌, Bool, false}
use Rattle.std.specs.Option.{option_map_or}
use Rattle.pv_num.specs.Kinds.{is_character_kind}
use Rattle.pv_types.specs.Layouts.{Part}
use Rattle.pv_types.specs.Ty.{Ty}
use Rattle.pv_types.specs.Sorts.{bare_type, kind_in}
use Rattle.pv_unit.specs.Parts.{aggregate_layer}

-- 6.7.9p17: a part of a part of an object, from the object's beginning
abbrev pub within : Part → Part → Part
within whole p = record { offset = whole.offset + p.offset; t = p.t }

-- 6.2.5p21, and unions: what has parts
abbrev pub is_aggregate : Ty → Bool
is_aggregate t = aggregate_layer (bare_type t)

-- 6.2.5p15: a character type, of a type without qualifiers
abbrev pub character_layer : Ty → Bool
character_layer t = option_map_or is_character_kind (kind_in t) false
