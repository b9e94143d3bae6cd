-- A bridge: what functions answer that do a part of what Texts says.
use Rattle.std.specs.Fmt.{signed_decimal}
use Rattle.std.specs.Prelude.{ℕ, List, ℤ}

-- 7.21.6.1p8, `%d`, `%u`: decimal digits without leading zeros, with `-` before those of a negative number
abbrev pub decimal_text : ℤ → List ℕ
decimal_text n = signed_decimal n
