-- A bridge: the types in the library's prototypes, as the code names them.
use Rattle.std.specs.Prelude.{List, [], ◌∷◌, Bool, if◌then◌else◌}
use Rattle.pv_types.specs.Ty.{Ty, Tys, VoidTy, ConstOf, NoTys, MoreTys}
use Rattle.pv_unit.specs.declared.library_types.Simple.{Simple}
use Rattle.pv_unit.specs.declared.library_types.Simple.TheVariants as simple
use Rattle.pv_library.specs.LibraryTypes.{bytes, constant_bytes, text, constant_text, size, int}

-- the types in the library's prototypes (7.21.6.3, 7.22.3, 7.24), as the code names them
abbrev pub simple_type : Simple → Ty
simple_type simple.Void = VoidTy
simple_type simple.Int = int
simple_type simple.Size = size
simple_type simple.Bytes = bytes
simple_type simple.ConstantBytes = constant_bytes
simple_type simple.Text = text
simple_type simple.ConstantText = constant_text

-- a list of such types (6.7.6.3p1)
abbrev pub simple_types : List Simple → Tys
simple_types [] = NoTys
simple_types (x ∷ xs) = MoreTys (simple_type x) (simple_types xs)

-- a type, perhaps with `const` (6.7.3)
abbrev pub constant_if : Bool → Ty → Ty
constant_if constant t = if constant then ConstOf t else t
