-- A bridge: what functions answer that do a part of what Encoding says.
use Rattle.std.specs.Prelude.{ℕ, None, Option}
use Rattle.pv_shadow.specs.Whole.{mark_at}
use Rattle.pv_shadow.specs.declared.byte.Byte.{Byte}
use Rattle.pv_object.specs.declared.values.Value.TheVariants as value
use Rattle.pv_prov.specs.declared.names.Prov.TheVariants.{Empty}

-- 3.19.2: the byte of an unset value, of a character type
abbrev pub unset_byte : Option ℕ → Byte
unset_byte mark = record { value = None; prov = Empty; index = None; mark = mark_at mark 0 }
