-- A bridge: which member of a structure or union a name is.
use Rattle.std.specs.Prelude.{ℕ, suc, ◌==◌, if◌then◌else◌, Some, None, List, [], ◌∷◌}
use Rattle.std.specs.declared.option.Option.{Option}
use Rattle.std.specs.Option.{option_map}
use Rattle.pv_types.specs.declared.terms.Member.{Member}

-- 6.5.2.3p3, p4: the first of the members that has the name, by its number from 0
abbrev pub number_of : ℕ → List Member → Option ℕ
number_of name [] = None
number_of name (x ∷ xs) = if x.name == name then Some 0 else option_map suc (number_of name xs)
