-- A bridge: the outermost layer of a function type in the table of types.
use Rattle.std.specs.Prelude.{ℕ, ◌<◌, length}
use Rattle.pv_types.specs.Ty.{Ty, FunctionTy}
use Rattle.pv_types.specs.Known.{Known, tree}
use Rattle.pv_types.specs.KnownParts.{list_at}
use Rattle.pv_types.specs.Formed.{AllBelow, parameters_at}
use Rattle.pv_check.specs.declared.composite_types.Signature.{Signature}

-- what a layer of a function type (6.7.6.3) says, of parts below n
abbrev pub IsSignature : Known → ℕ → Signature → Type 0
IsSignature m n s = (s.result.0 < n) × (s.params < length m.lists) × AllBelow n (list_at m.lists s.params)

-- the function type that it is (6.7.6.3)
abbrev pub signature_in : Known → Signature → Ty
signature_in m s = FunctionTy (tree m s.result.0) (parameters_at m s.params) s.variadic
