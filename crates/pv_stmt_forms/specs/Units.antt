-- A bridge: what a unit's tables hold, as external declarations.
use Rattle.std.specs.Prelude.{List, map}
use Rattle.pv_tree.specs.Syntax.{DeclarationTree}
use Rattle.pv_tree.specs.Tables.{Tables, declaration_at}

-- the external declarations (6.9p1) that a unit's tables hold, in order
abbrev pub externals_of : Tables → List DeclarationTree
externals_of u = map (λ n. declaration_at u.forest n) u.externals
