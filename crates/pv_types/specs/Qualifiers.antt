-- `const` of a type and of its parts (6.7.3).
use Rattle.std.specs.Prelude.{Bool, true, false, List}
use Rattle.std.specs.List.{list_any}
use Rattle.pv_types.specs.Layouts.{Entry, Part, layout_in}
use Rattle.pv_types.specs.Ty.{Ty, ConstOf}

-- 6.2.5p26: the type has `const` itself
abbrev pub is_const : Ty → Bool
is_const (ConstOf t) = true
is_const _ = false

-- 6.3.2.1p1: the type has `const`, or a part of it at any depth: a member, an element
abbrev pub has_const : List Entry → Ty → Bool
has_const env t = list_any (λ (p : Part). is_const p.t) (layout_in env t).parts
