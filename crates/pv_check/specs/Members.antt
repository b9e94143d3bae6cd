-- The members of structures and unions, by their names.
use Rattle.std.specs.Prelude.{ℕ, ◌==◌, if◌then◌else◌, Option, Some, None, List, [], ◌∷◌}
use Rattle.pv_types.specs.Layouts.{Part, Named, Placed}
use Rattle.pv_types.specs.Members.{member_part}

-- 6.5.2.3p3: of these members the one of this name: where it begins, and its type
abbrev pub member_named : ℕ → List (Placed Named) → Option Part
member_named name [] = None
member_named name (p ∷ ps) = if p.member.name == name then Some (member_part p) else member_named name ps
