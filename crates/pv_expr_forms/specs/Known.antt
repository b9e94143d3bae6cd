-- A bridge: what is known of names where an expression is read.
use Rattle.std.specs.Prelude.{ℕ, List, nat_eq}
use Rattle.indexmap.specs.IndexSet.{IndexSet, contains}
use Rattle.pv_token.specs.declared.token_table.Token.{Token}
use Rattle.pv_tree.specs.Tables.{Tables}
use Rattle.pv_tree.specs.Spells.{Names}
use Rattle.pv_tree.specs.TypeNames.{TypeMap, names_of}

-- 6.7.8p3: a set of typedef names, and the type names that a reader has as nodes of a unit
unfoldable pub names_in : {S : Type 0} → IndexSet ℕ S → TypeMap → Tables → List Token → Names
names_in typedefs types u tokens = names_of (contains nat_eq typedefs) types u.forest tokens
