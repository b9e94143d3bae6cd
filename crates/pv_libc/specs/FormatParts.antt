-- A bridge: what functions answer that do a part of what Formats says.
use Rattle.pv_libc.specs.declared.formats.Piece.TheVariants.{Goes, Converts}
use Rattle.pv_libc.specs.Formats.{number_piece}
use Rattle.pv_libc.specs.declared.formats.Within.TheVariants as within
use Rattle.pv_libc.specs.declared.formats.Conversion.TheVariants as conversion
use Rattle.pv_libc.specs.declared.formats.Piece.{Piece}
use Rattle.pv_libc.specs.Arguments.{is_long, is_int}
use Rattle.pv_libc.specs.Printing.{before_zero}
use Rattle.pv_libc.specs.declared.values.Given.{Given}
use Rattle.pv_libc.specs.declared.values.Note.{Note}
use Rattle.std.specs.Prelude.{ℕ, ◌==◌, None, Some, false, if◌then◌else◌, Bool, [], List, Option, ◌∷◌}
use Rattle.pv_num.specs.declared.kinds.IntKind.{IntKind}
use Rattle.pv_object.specs.Memory.{Mem}
use Rattle.pv_object.specs.declared.values.Pointer.{Pointer}
use Rattle.pv_inst.specs.declared.values.Info.{Info}
use Rattle.pv_shadow.specs.Bytes.{bytes_from}
use Rattle.std.specs.Option.{option_map_or, option_map}

-- 7.21.6.1p8: behind `%`: `%`, `l`, `c`, `s`, `p`, and numbers
abbrev pub percent_piece : ℕ → Piece
percent_piece c =
    if c == 37 then Goes (Some 37) within.Text
    else (if c == 108 then Goes None within.Long
    else (if c == 99 then Converts conversion.Character
    else (if c == 115 then Converts conversion.String
    else (if c == 112 then Converts conversion.Address else number_piece false c))))

-- 7.21.6.1p7: whether an argument of this kind fits
abbrev pub takes : (long : Bool) → IntKind → Bool
takes long k = if long then is_long k else is_int k

-- 6.4.5p6: the literal in this instance
abbrev pub literal_bytes : Mem → Option Info → List ℕ
literal_bytes M x = option_map_or (λ (x : Info). before_zero (bytes_from M.bytes x.base x.size)) x []

-- 7.1.1p1: a byte of the format and those behind it, none from the first 0 on
abbrev pub unless_zero : Option ℕ → List ℕ → List ℕ
unless_zero v rest = option_map_or (λ v. if v == 0 then [] else v ∷ rest) v []

-- 7.21.6.1p9: an argument's pointer, if it is one that fits
abbrev pub given_of : Note → Option Pointer → Option Given
given_of note p = option_map (λ p. record { pointer = p; stopped = note }) p
