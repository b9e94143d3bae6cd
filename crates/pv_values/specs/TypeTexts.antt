-- Types as C writes them (6.7.6, 6.7.7): specifiers, and behind them a declarator, which is built from its name outwards.
use Rattle.std.specs.Prelude.{ℕ, zero, suc, ◌+◌, ◌==◌, Bool, true, false, nat_lt, List, [], ◌∷◌, ◌++◌, codes, Option, if◌then◌else◌}
use Rattle.std.specs.Option.{option_map_or}
use Rattle.std.specs.Fmt.{decimal}
use Rattle.pv_num.specs.declared.kinds.IntKind.{IntKind}
use Rattle.pv_num.specs.declared.kinds.IntKind.TheVariants.{Bool as BoolKind, Char, SChar, UChar, Short, UShort, Int, UInt, Long, ULong, LLong, ULLong}
use Rattle.pv_types.specs.Ty.{Ty, Tys, VoidTy, IntTy, PointerTo, ArrayOf, StructTag, UnionTag, FunctionTy, ConstOf, NoTys, MoreTys}
use Rattle.pv_types.specs.Known.{heading_at}
use Rattle.pv_types.specs.Sorts.{bare_type}
use Rattle.pv_typed.specs.TypedUnits.{WholeUnit}
use Rattle.pv_describe.specs.Describing.{source_name}

-- ---- lists of texts

-- docs/FORMATS.md, Where a run stands: what stands before number i of a list, from 0
abbrev pub separator : (i : ℕ) → List ℕ
separator zero = []
separator (suc i) = codes ", "

-- docs/FORMATS.md, Where a run stands: `..` in place of number i of a list, of which so many are shown, and of those behind it
abbrev pub cut : (most i : ℕ) → List ℕ
cut most i = if i == most then codes ", .." else []

-- docs/FORMATS.md, Where a run stands: number i of a list, of which the first so many are shown
abbrev pub listed : (most i : ℕ) → (text : List ℕ) → List ℕ
listed most i text = if nat_lt i most then separator i ++ text else cut most i

-- docs/FORMATS.md, Where a run stands: the most parameters of a function that are shown (6.7.6.3)
abbrev pub most_params : ℕ
most_params = 16

-- docs/FORMATS.md, Where a run stands: as many lists of parameters are shown within one another (6.7.6.3)
abbrev pub type_levels : ℕ
type_levels = 3

-- ---- specifiers

-- 6.7.2p2: the words of an integer type
abbrev pub kind_word : IntKind → List ℕ
kind_word BoolKind = codes "_Bool"
kind_word Char = codes "char"
kind_word SChar = codes "signed char"
kind_word UChar = codes "unsigned char"
kind_word Short = codes "short"
kind_word UShort = codes "unsigned short"
kind_word Int = codes "int"
kind_word UInt = codes "unsigned int"
kind_word Long = codes "long"
kind_word ULong = codes "unsigned long"
kind_word LLong = codes "long long"
kind_word ULLong = codes "unsigned long long"

-- 6.7.2.3: a tag; where a structure or union has none, `{..}`
abbrev pub tag_name : WholeUnit → (tag : ℕ) → List ℕ
tag_name u tag = option_map_or (source_name u) (heading_at u.headings tag).name (codes "{..}")

-- 6.7.2.3: `struct` or `union` and the tag
abbrev pub tag_word : WholeUnit → (word : List ℕ) → (tag : ℕ) → List ℕ
tag_word u word tag = word ++ tag_name u tag

-- 6.7.3: `const` before specifiers, where the type has it
abbrev pub qualified : (constant : Bool) → (word : List ℕ) → List ℕ
qualified constant word = if constant then codes "const " ++ word else word

-- 6.7p1: a word, and behind it, where there is one, a declarator
abbrev pub spaced : (word declarator : List ℕ) → List ℕ
spaced word [] = word
spaced word (c ∷ cs) = word ++ codes " " ++ c ∷ cs

-- ---- declarators

-- 6.7.6.1p1: `*` before a declarator, with `const` between them where the pointer has it (6.7.3p9)
abbrev pub starred : (constant : Bool) → (declarator : List ℕ) → List ℕ
starred constant d = if constant then spaced (codes "*const") d else codes "*" ++ d

-- 6.7.6p2: what declares an array or a function stands behind its declarator, and binds closer than `*` before it; of a type without qualifiers
abbrev pub stands_behind_in : Ty → Bool
stands_behind_in (ArrayOf t n) = true
stands_behind_in (FunctionTy t ts v) = true
stands_behind_in _ = false

-- 6.7.6p2: the same of any type
abbrev pub stands_behind : Ty → Bool
stands_behind t = stands_behind_in (bare_type t)

-- 6.7.6p6: a declarator in parentheses, where it wants them
abbrev pub enclosed : (wants : Bool) → (declarator : List ℕ) → List ℕ
enclosed wants d = if wants then codes "(" ++ d ++ codes ")" else d

-- 6.7.6.1p1: a pointer to this type
abbrev pub pointing : Ty → (constant : Bool) → (declarator : List ℕ) → List ℕ
pointing t constant d = enclosed (stands_behind t) (starred constant d)

-- 6.7.6.2p4: the size of an array, where it has one
abbrev pub size_text : Option ℕ → List ℕ
size_text n = codes "[" ++ option_map_or decimal n [] ++ codes "]"

-- 6.7.6.3p9: `...` behind the parameters
abbrev pub ellipsis : (variadic : Bool) → List ℕ
ellipsis variadic = if variadic then codes ", ..." else []

abbrev mutual
  -- 6.7.6p4: what this declarator declares, where it is of this type, `const` or not (6.7.3p9: of an array its elements are). Without a name it is the
  -- type's name (6.7.7p2). So many lists of parameters are shown within one another
  pub declared : WholeUnit → (levels : ℕ) → (constant : Bool) → Ty → (declarator : List ℕ) → List ℕ
  declared u l q VoidTy d = spaced (qualified q (codes "void")) d
  declared u l q (IntTy k) d = spaced (qualified q (kind_word k)) d
  declared u l q (PointerTo t) d = declared u l false t (pointing t q d)
  declared u l q (ArrayOf t n) d = declared u l q t (d ++ size_text n)
  declared u l q (StructTag n) d = spaced (qualified q (tag_word u (codes "struct ") n)) d
  declared u l q (UnionTag n) d = spaced (qualified q (tag_word u (codes "union ") n)) d
  declared u l q (FunctionTy t ts v) d = declared u l false t (d ++ params_text u l ts v)
  declared u l q (ConstOf t) d = declared u l true t d

  -- 6.7.6.3: a list of parameters; of none it is `void` (p10)
  pub params_text : WholeUnit → (levels : ℕ) → Tys → (variadic : Bool) → List ℕ
  params_text u zero ts v = codes "(..)"
  params_text u (suc l) NoTys v = codes "(void)"
  params_text u (suc l) (MoreTys t ts) v =
      codes "(" ++ (listed most_params 0 (declared u l false t []) ++ param_texts u l 1 ts) ++ ellipsis v ++ codes ")"

  -- 6.7.6.3p4: parameters from number i on, each the name of its type (6.7.7p2)
  pub param_texts : WholeUnit → (levels i : ℕ) → Tys → List ℕ
  param_texts u l i NoTys = []
  param_texts u l i (MoreTys t ts) = listed most_params i (declared u l false t []) ++ param_texts u l (i + 1) ts

-- 6.7.7p2: the name of a type
-- worked: type_names
abbrev pub type_text : WholeUnit → Ty → List ℕ
type_text u t = declared u type_levels false t []
