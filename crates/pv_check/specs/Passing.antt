-- A bridge: arguments one by one, as the code passes them.
use Rattle.std.specs.Prelude.{ℕ, Bool, true, false, Option, Some, None, List, map}
use Rattle.std.specs.declared.vec.Vec.{Vec}
use Rattle.std.specs.declared.alloc.Global.{Global}
use Rattle.pv_tree.specs.declared.nodes.NodeId.{NodeId}
use Rattle.pv_types.specs.Ty.{Tys, NoTys, MoreTys}
use Rattle.pv_typed.specs.Tables.{Stored}
use Rattle.pv_typed.specs.NodeTrees.{expression_at}
use Rattle.pv_typed.specs.TypedTree.{TypedTree}
use Rattle.pv_check.specs.Calls.{further_argument}
use Rattle.pv_check.specs.declared.formats.Place.{Place}
use Rattle.pv_check.specs.declared.formats.Place.TheVariants as place
use Rattle.pv_check.specs.PrintfFormats.{is_format, is_conversion, is_long_conversion}
use Rattle.pv_check.specs.Open.{state_of}
use Rattle.pv_check.specs.Raw.{Raw}
use Rattle.pv_check.specs.State.{After}
use Rattle.pv_check.specs.Values.{as_if_assigned}

-- 6.5.2.2p7: an argument, where these parameters are left
abbrev pub one_passed : Tys → Bool → TypedTree → Option TypedTree
one_passed NoTys true a = further_argument a
one_passed NoTys false a = None
one_passed (MoreTys t ts) variadic a = as_if_assigned t a

-- the arguments of an answer (6.5.2.2p4)
abbrev pub trees_if : Stored → Option (Vec NodeId Global) → Option (List TypedTree)
trees_if m None = None
trees_if m (Some v) = Some (map (expression_at m) v.items)

-- arguments that were typed, and the state after them (6.5.2.2p4)
abbrev pub arguments_after : List (List ℕ) → Bool → Raw → Stored → List NodeId → After (List TypedTree)
arguments_after texts unevaluated s m args = record { value = map (expression_at m) args; state = state_of texts unevaluated s m }

-- the arguments of an answer of the code, and the state after them (6.5.2.2p4)
abbrev pub after_nodes : List (List ℕ) → Bool → Raw → Stored → Option (Vec NodeId Global) → Option (After (List TypedTree))
after_nodes texts u s m None = None
after_nodes texts u s m (Some v) = Some (record { value = map (expression_at m) v.items; state = state_of texts u s m })

-- 7.21.6.1p3: the rest of a format, by where it begins
abbrev pub reads : Place → List ℕ → Bool
reads place.Text cs = is_format cs
reads place.Conversion cs = is_conversion cs
reads place.LongConversion cs = is_long_conversion cs

-- the same, where it is a format so far (7.21.6.1)
abbrev pub reads_if : Option Place → List ℕ → Bool
reads_if None cs = false
reads_if (Some p) cs = reads p cs
