-- A bridge: the names that declarators and declarations declare, in the words of the code (6.7.6p2, 6.7.8p3).
use Rattle.std.specs.Prelude.{◌<◌, ◌==◌, ℕ, Bool, false, Option, Some, None}
use Rattle.pv_tree.specs.declared.nodes.NodeId.{NodeId}
use Rattle.pv_tree.specs.Syntax.{InitDeclarator, Tree, OfDeclaration}
use Rattle.pv_tree.specs.Tables.{Forest, Tables, declarator_at, is_declarator, Is}
use Rattle.pv_tree.specs.Units.{declares}
use Rattle.pv_stmt_forms.specs.declared.typedefs.NamePlace.{NamePlace}
use Rattle.pv_stmt_forms.specs.declared.typedefs.NamePlace.TheVariants as name_place

-- the name that stands there is this one (6.7.6p2)
abbrev pub names_there : Forest → NamePlace → ℕ → Bool
names_there f (name_place.Here n) m = n == m
names_there f (name_place.Within d) m = declares (declarator_at f d) m
names_there f name_place.Nowhere m = false

-- a declarator within another is an older node
abbrev pub IsBefore : Tables → NodeId → NamePlace → Type 0
IsBefore u n (name_place.Within d) = (d.0 < n.0) × Is u is_declarator d
IsBefore u n _ = Unit {0}

-- a name, if there is one, is this one
abbrev pub is_name : Option ℕ → ℕ → Bool
is_name None m = false
is_name (Some n) m = n == m

-- the name that an init-declarator declares is this one (6.7.6p2)
abbrev pub declares_one : Tree → ℕ → Bool
declares_one (OfDeclaration (InitDeclarator line declarator init)) m = declares declarator m
declares_one _ m = false
