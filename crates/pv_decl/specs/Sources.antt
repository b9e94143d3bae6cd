-- A bridge: what is known where declarations are read.
use Rattle.std.specs.Prelude.{◌≤◌, ℕ, length}
use Rattle.pv_tree.specs.Tables.{Tables}
use Rattle.pv_tree.specs.TypeNames.{TypeMap}
use Rattle.pv_decl_forms.specs.Givens.{AreGiven}
use Rattle.pv_decl.specs.declared.declarations.Declarations.{Declarations}
use Rattle.pv_decl.specs.Filled.{list_map}

-- the type names that the reader has (6.7.7) are tied to the unit, and each list of parameters that is known (6.7.6.3) is what reading gives
abbrev pub AreKnown : {R : Type 0} → (R → TypeMap) → Declarations R → Tables → Type 0
AreKnown types given u = AreGiven (list_map given.lists.now) given.source.typedefs.now (types given.source.reader.now) u given.source.tokens.now.tokens

-- a reader may begin at a place (6.4p1): it is among the tokens or behind the last, and the type names and lists that are known are so
pub record IsReady {R : Type 0} (types : R → TypeMap) (given : Declarations R) (u : Tables) (at : ℕ) : Type 0 where
  pub place : at ≤ length given.source.tokens.now.tokens
  pub tied : AreKnown types given u
