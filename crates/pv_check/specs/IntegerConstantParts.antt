-- A bridge: what laws ask of what IntegerConstants says.
use Rattle.std.specs.Prelude.{[], ◌∷◌, List}
use Rattle.pv_num.specs.declared.kinds.IntKind.{IntKind}
use Rattle.pv_num.specs.declared.kinds.IntKind.TheVariants.{Int, UInt, Long, ULong, LLong, ULLong}

-- 6.4.4.1p5: the kinds of constants, in the order in which they are tried
abbrev pub kinds_of_constants : List IntKind
kinds_of_constants = Int ∷ UInt ∷ Long ∷ ULong ∷ LLong ∷ ULLong ∷ []
