-- A bridge: the tokens that a reader is given with what is known of the names among them, and what is read of these.
use Rattle.std.specs.Prelude.{◌≤◌, ℕ, List, length, drop, Option, Result, IfOk}
use Rattle.pv_token.specs.declared.token_table.Token.{Token}
use Rattle.pv_tree.specs.declared.nodes.NodeId.{NodeId}
use Rattle.pv_tree.specs.Spells.{Names}
use Rattle.pv_tree.specs.Tables.{Tables, Extends}
use Rattle.pv_tree.specs.TypeNames.{TypeMap, AreTied}
use Rattle.pv_expr_forms.specs.declared.source.Source.{Source}
use Rattle.pv_expr_forms.specs.Answers.{Answers}
use Rattle.pv_expr_forms.specs.Known.{names_in}
use Rattle.pv_expr_forms.specs.Reader.{Read}

-- what is known of names: the typedef names (6.7.8p3), and the type names that a reader has as nodes of a unit (6.7.7)
abbrev pub known_names : {R : Type 0} → (R → TypeMap) → Source R → Tables → Names
known_names types source u = names_in source.typedefs.now (types source.reader.now) u source.tokens.now.tokens

-- the type names that the reader has (6.7.7) are nodes of the unit, and spell the tokens
abbrev pub AreKnown : {R : Type 0} → (R → TypeMap) → Source R → Tables → Type 0
AreKnown types source u = AreTied (types source.reader.now) u source.tokens.now.tokens

-- a reader may begin at a place (6.4p1): it is among the tokens or behind the last, and the type names that the reader has are tied to the unit
pub record IsReady {R : Type 0} (types : R → TypeMap) (source : Source R) (u : Tables) (at : ℕ) : Type 0 where
  pub place : at ≤ length source.tokens.now.tokens
  pub tied : AreKnown types source u

-- the tokens from a place on (6.4p1)
abbrev pub tokens_from : {R : Type 0} → Source R → (at : ℕ) → List Token
tokens_from source at = drop at source.tokens.now.tokens

-- something is read (6.7, 6.8, 6.9): older nodes stay, and what is answered is so, unless memory is wanting
pub record ReadsInto {A E : Type 0} (u v : Tables) (result : Result A E) (IsAnswer : A → Type 0) : Type 0 where
  pub keeps : Extends u v
  pub answer : IfOk result IsAnswer

-- the expression that is read from a place on is what reading on lists gives
abbrev pub ReadsFrom : {R E : Type 0} → Source R → (at : ℕ) → (u v : Tables) → Result (Option (NodeId × ℕ)) E → (List Token → Read) → Type 0
ReadsFrom source at u v result reading = ReadsInto u v result (λ r. Answers v source.tokens.now.tokens r (reading (tokens_from source at)))

-- the same, where what reading gives goes by what is known of names
abbrev pub Reads : {R E : Type 0} → (R → TypeMap) → Source R → (at : ℕ) → (u v : Tables) → Result (Option (NodeId × ℕ)) E → (Names → List Token → Read) → Type 0
Reads types source at u v result reading = ReadsFrom source at u v result (reading (known_names types source u))
