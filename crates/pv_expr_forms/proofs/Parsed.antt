-- What `expression` promises, under the names as its clauses have them, and what follows from that.
use Rattle.std.proofs.Common.{◌≡◌, ◌≤◌, ℕ, List, length, drop, Option, Some, None, Result, Ok, Err, refl, nat_eq}
use Rattle.std.specs.Prelude.{IfOk}
use Rattle.indexmap.specs.IndexSet.{IndexSet, contains}
use Rattle.pv_token.specs.declared.token_table.Token.{Token}
use Rattle.pv_tree.specs.declared.nodes.NodeId.{NodeId}
use Rattle.pv_tree.specs.Tables.{Tables, expression_at, is_expression, Is}
use Rattle.pv_tree.specs.Spells.{Spells}
use Rattle.pv_tree.specs.TypeNames.{TypeMap, AreTied}
use Rattle.pv_expr_forms.specs.Answers.{Answers}
use Rattle.pv_expr_forms.specs.Known.{names_in}
use Rattle.pv_expr_forms.specs.Reader.{read}
use Rattle.pv_expr_forms.specs.Spelled.{IsSpelled, IsLongest, IsOnly, NothingSpells}
use Rattle.pv_expr_forms.proofs.Promises.{expression_found, expression_longest, expression_only, expression_none, none_read, longest_read}

module _ {S : Type 0} (typedefs : IndexSet ℕ S) (types : TypeMap) (u v : Tables) (tokens : List Token) (at level deep : ℕ) (tied : AreTied types u tokens) (place : at ≤ length tokens)
    (r : Option (NodeId × ℕ)) (a : Answers v tokens r (read (names_in typedefs types u tokens) deep level (drop at tokens))) where
  pub found : IsSpelled (Spells (names_in typedefs types u tokens) level deep tokens at) (Is v is_expression) (expression_at v.forest) tokens at r
  unfolding names_in
  found = expression_found (contains nat_eq typedefs) types u v tokens at level deep tied place r a

  pub longest : IsLongest (Spells (names_in typedefs types u tokens) level deep tokens at) tokens at r
  unfolding names_in
  longest = expression_longest (contains nat_eq typedefs) types u v tokens at level deep tied place r a

  pub only : IsOnly (Spells (names_in typedefs types u tokens) level deep tokens at) (expression_at v.forest) r
  unfolding names_in
  only = expression_only (contains nat_eq typedefs) types u v tokens at level deep tied place r a

  pub none : r ≡ None → NothingSpells (Spells (names_in typedefs types u tokens) level deep tokens at) tokens at
  unfolding names_in
  none = expression_none (contains nat_eq typedefs) types u v tokens at level deep tied place r a

-- what is promised is what reading gives
module _ {S E : Type 0} (typedefs : IndexSet ℕ S) (types : TypeMap) (u v : Tables) (tokens : List Token) (at level deep : ℕ) (tied : AreTied types u tokens) (place : at ≤ length tokens) where
  pub is_read : (result : Result (Option (NodeId × ℕ)) E)
      → IfOk result (λ r. IsSpelled (Spells (names_in typedefs types u tokens) level deep tokens at) (Is v is_expression) (expression_at v.forest) tokens at r)
      → IfOk result (λ r. IsLongest (Spells (names_in typedefs types u tokens) level deep tokens at) tokens at r)
      → IfOk result (λ r. r ≡ None → NothingSpells (Spells (names_in typedefs types u tokens) level deep tokens at) tokens at)
      → IfOk result (λ r. Answers v tokens r (read (names_in typedefs types u tokens) deep level (drop at tokens)))
  unfolding names_in
  is_read (Ok None) f l n = none_read (contains nat_eq typedefs) types u v tokens at level deep tied place (n refl)
  is_read (Ok (Some x)) f l n = longest_read (contains nat_eq typedefs) types u v tokens at level deep tied place x f l
  is_read (Err e) f l n = tt
