-- What a setting of a unit says of a type is what the unit's table says.
use Rattle.std.proofs.Common.{◌≡◌, ℕ, ◌/◌, Bool, refl, sym, ap, ◌∙◌}
use Rattle.pv_num.specs.declared.kinds.IntKind.{IntKind}
use Rattle.pv_num.specs.declared.kinds.IntKind.TheVariants as kind
use Rattle.pv_num.specs.Kinds.{width}
use Rattle.pv_object.specs.declared.values.Scalar.TheVariants as scalar
use Rattle.pv_object.specs.Encoding.{size_of as scalar_size}
use Rattle.pv_types.specs.Ty.{Ty, VoidTy, IntTy, PointerTo, ArrayOf, StructTag, UnionTag, FunctionTy, ConstOf}
use Rattle.pv_types.specs.Known.{Known, tree}
use Rattle.pv_types.specs.Layouts.{layout_in}
use Rattle.pv_typed.specs.TypedUnits.{WholeUnit, layouts}
use Rattle.pv_typed.specs.Tables.{Stored, whole_unit}
use Rattle.pv_world.specs.Preconditions.{HasSizeOf}
use Rattle.pv_eval.specs.States.{Setting}
use Rattle.pv_eval.specs.TypeForms.{shape_of, size_of, pointed_to, element_size}
use Rattle.pv_eval.specs.Conversions.{how_by, how_to}
use Rattle.pv_eval.specs.Sizes.{size_in, element_in, how_in}

module _ (b : Setting) (u : Stored) (m : Known) (unit : b.unit ≡ whole_unit u) (known : m ≡ u.known) where
  pub how_is : (implied : Bool) (i j : ℕ) → how_in m implied (tree m i) (tree m j) ≡ how_to b implied (tree u.known i) (tree u.known j)
  how_is implied i j =
      ap (λ k. how_in k implied (tree k i) (tree k j)) known
      ∙ ap (λ (w : WholeUnit). how_by (layouts w) implied (shape_of (tree u.known i)) (shape_of (tree u.known j)) (pointed_to (tree u.known j))) (sym unit)

  pub element_is : (i : ℕ) → element_in m (tree m i) ≡ element_size b (tree u.known i)
  element_is i =
      ap (λ k. element_in k (tree k i)) known ∙ ap (λ (w : WholeUnit). (layout_in (layouts w) (pointed_to (tree u.known i))).size) (sym unit)

  pub size_is : (i : ℕ) → size_in m (tree m i) ≡ size_of b (tree u.known i)
  size_is i = ap (λ k. size_in k (tree k i)) known ∙ ap (λ (w : WholeUnit). (layout_in (layouts w) (tree u.known i)).size) (sym unit)

kind_size : (k : IntKind) → width k / 8 ≡ scalar_size (scalar.Int k)
kind_size kind.Bool = refl
kind_size kind.Char = refl
kind_size kind.SChar = refl
kind_size kind.UChar = refl
kind_size kind.Short = refl
kind_size kind.UShort = refl
kind_size kind.Int = refl
kind_size kind.UInt = refl
kind_size kind.Long = refl
kind_size kind.ULong = refl
kind_size kind.LLong = refl
kind_size kind.ULLong = refl

-- a scalar type has the size of its scalar
pub scalar_sized : (m : Known) (t : Ty) → HasSizeOf (shape_of t) (size_in m t)
scalar_sized m (IntTy k) = kind_size k
scalar_sized m (PointerTo t) = refl
scalar_sized m (ConstOf t) = scalar_sized m t
scalar_sized m VoidTy = tt
scalar_sized m (ArrayOf t n) = tt
scalar_sized m (StructTag n) = tt
scalar_sized m (UnionTag n) = tt
scalar_sized m (FunctionTy t ts v) = tt
