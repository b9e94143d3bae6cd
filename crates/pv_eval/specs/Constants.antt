-- Constants that initializers store (C17 6.6p7), and which side a pair keeps.
use Rattle.std.specs.Prelude.{ℕ, ◌+◌, ◌%◌, ◌^◌, Bool, not, unwrap_or}
use Rattle.std.specs.FinMap as map
use Rattle.pv_prov.specs.declared.pairs.Twin.{Twin}
use Rattle.pv_prov.specs.declared.names.Prov.TheVariants.{Inst}
use Rattle.pv_typed.specs.declared.values.Const.{Const}
use Rattle.pv_typed.specs.declared.values.Const.TheVariants as const
use Rattle.pv_world.specs.Worlds.{Worth, World}
use Rattle.pv_world.specs.Worths.{int, pointer, null_pointer}
use Rattle.pv_world.specs.Objects.{base_in, literal_of, function_of}

-- 6.6p9: the pointer to a place in the instance of a static object or of a literal, or to that of a function
abbrev pub place_by : World → (instance offset : ℕ) → Worth
place_by w i n = pointer (record { address = (base_in w i + n) % 2 ^ 64; prov = Inst i })

-- 6.6p7: the value of a constant
abbrev pub constant_worth : World → Const → Worth
constant_worth w (const.Int n) = int n
constant_worth w const.Null = pointer null_pointer
constant_worth w (const.Address o n) = place_by w (unwrap_or (map.get w.statics o) 0) n
constant_worth w (const.Literal l n) = place_by w (literal_of w l) n
constant_worth w (const.Function f) = place_by w (function_of w f) 0

-- the memory model: a pair that keeps its high candidate alone
abbrev pub is_high_pair : Twin → Bool
is_high_pair t = not t.keeps_low
