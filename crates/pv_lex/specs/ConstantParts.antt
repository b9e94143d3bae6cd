-- A bridge: what functions answer that do a part of what Constants says.
use Rattle.std.specs.Prelude.{◌&&◌, nat_lt, ◌||◌, nat_eq, not, Bool, ◌^◌, ℕ}
use Rattle.pv_lex.specs.declared.suffixes.Suffix.{Suffix}

-- Some type of the constant's list holds the value (6.4.4p2, 6.4.4.1p5): a decimal constant without `u` is signed.
abbrev pub fits_constant : (base value : ℕ) → Suffix → Bool
fits_constant base value s = nat_lt value (2 ^ 64) && ((not (nat_eq base 10) || s.unsigned) || nat_lt value (2 ^ 63))
