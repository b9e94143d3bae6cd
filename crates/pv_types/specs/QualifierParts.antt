-- A bridge: what functions answer that do a part of what Qualifiers says.
use Rattle.std.specs.Prelude.{Bool, List}
use Rattle.pv_types.specs.Layouts.{Part}
use Rattle.pv_types.specs.Qualifiers.{is_const}
use Rattle.std.specs.List.{list_any}

-- some part is `const`
abbrev pub some_const : List Part → Bool
some_const ps = list_any (λ (p : Part). is_const p.t) ps
