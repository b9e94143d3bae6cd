-- The arguments of `printf`: which a conversion takes, and the text of a number or an address (C17 7.21.6.1p7, p8).
use Rattle.std.specs.Prelude.{ℕ, ℤ, Bool, true, false, ◌&&◌, ◌==◌, not, List, Option, None, Some, if◌then◌else◌, codes}
use Rattle.std.specs.Fmt.{signed_decimal}
use Rattle.pv_num.specs.declared.kinds.IntKind.{IntKind}
use Rattle.pv_num.specs.declared.kinds.IntKind.TheVariants as kind
use Rattle.pv_num.specs.Kinds.{bits_of, fits_of}
use Rattle.pv_prov.specs.Names.{is_empty}
use Rattle.pv_object.specs.declared.values.Pointer.{Pointer}
use Rattle.pv_object.specs.declared.values.Value.{Value}
use Rattle.pv_object.specs.declared.values.Value.TheVariants as value
use Rattle.pv_print.specs.Texts.{hexadecimal_text, address_text}
use Rattle.pv_libc.specs.declared.values.Shape.{Shape}
use Rattle.pv_libc.specs.declared.values.Shape.TheVariants as shape
use Rattle.pv_libc.specs.declared.formats.Style.{Style}
use Rattle.pv_libc.specs.declared.formats.Style.TheVariants as style

-- 7.21.6.1p8, `p`: the text, which is the implementation's; a pointer at address 0 that has a name is not null
abbrev pub pointer_text : Pointer → List ℕ
pointer_text p = if p.address == 0 && not (is_empty p.prov) then codes "0x0" else address_text p.address

-- 7.21.6.1p7: with `l` the argument is a `long` or `unsigned long`
abbrev pub is_long : IntKind → Bool
is_long kind.Long = true
is_long kind.ULong = true
is_long _ = false

-- 7.21.6.1p8: and without it `int` or `unsigned int`
abbrev pub is_int : IntKind → Bool
is_int kind.Int = true
is_int kind.UInt = true
is_int _ = false

-- 7.21.6.1p8: the type whose values a number conversion writes
abbrev pub written_kind : (long : Bool) → Style → IntKind
written_kind long style.Signed = if long then kind.Long else kind.Int
written_kind long _ = if long then kind.ULong else kind.UInt

-- 7.21.6.1p8: decimal for `d` and `u`, hexadecimal for `x`
abbrev pub number_text : Style → ℤ → List ℕ
number_text style.Hexadecimal n = hexadecimal_text (bits_of kind.ULong n)
number_text _ n = signed_decimal n

-- the value of an argument of one of the two types (7.21.6.1p7), if it is one of the type that is written too (6.5.2.2p6)
abbrev pub number_of : (long : Bool) → Style → Shape → Value → Option ℤ
number_of long how (shape.Int k) (value.Int n) = if (if long then is_long k else is_int k) && fits_of (written_kind long how) n then Some n else None
number_of long how _ _ = None

-- 7.21.6.1p8, `s`: a pointer to a character type
abbrev pub string_of : Shape → Value → Option Pointer
string_of shape.Text (value.Pointer p) = Some p
string_of _ _ = None

-- 7.21.6.1p8, `p`: a pointer to `void`, or to a character type (6.2.5p28)
abbrev pub address_of : Shape → Value → Option Pointer
address_of shape.Text (value.Pointer p) = Some p
address_of shape.Void (value.Pointer p) = Some p
address_of _ _ = None
