-- The names whose type names are the longest, under a set of typedef names alone.
use Rattle.std.proofs.Common.{◌≡◌, ◌≤◌, ◌<◌, ℕ, zero, suc, Bool, List, [], ◌∷◌, length, Some, None, refl, sym, ap, subst, arith}
use Rattle.std.proofs.lemmas.List.{length-drop}
use Rattle.pv_token.specs.declared.token_table.Token.{Token}
use Rattle.pv_tree.specs.Syntax.{DeclarationTree, NoTrees}
use Rattle.pv_tree.specs.Spelling.{declaration_tokens}
use Rattle.pv_tree.specs.Spells.{Names}
use Rattle.pv_tree.specs.Tables.{as_declaration}
use Rattle.pv_tree.specs.Places.{Specifiers}
use Rattle.pv_tree.specs.Units.{depth_limit}
use Rattle.pv_expr_forms.proofs.Runs.{Takes}
use Rattle.pv_expr_forms.proofs.Steps.{some_is}
use Rattle.pv_expr_forms.proofs.Heads.{IsSpelled}
use Rattle.pv_decl_forms.specs.Pieces.{Piece}
use Rattle.pv_decl_forms.specs.Reader.{behind_specifiers, readers, type_name, as_type_name, HasTypeNames}
use Rattle.pv_decl_forms.proofs.Stops.{specifiers_none, row_quits}
use Rattle.pv_decl_forms.proofs.Naming.{type_name_good}
use Rattle.pv_decl_forms.proofs.Nested.{IsWithin, type_name_agrees}
use Rattle.pv_stmt_forms.specs.Externals.{type_names_for, names_by}

-- where no token is left there is no type name
pub type_name_empty : (names : Names) (deep : ℕ) → type_name names deep [] ≡ None
unfolding type_name behind_specifiers
type_name_empty names deep = rw (row_quits (readers names deep Specifiers) NoTrees [] (specifiers_none names deep [] refl)) refl

named_takes : (names : Names) (K : List Token → Type 0) → IsSpelled names K → (deep : ℕ) (ts : List Token) (type : DeclarationTree) (rest : List Token) → K ts
    → (o : Piece) → type_name names deep ts ≡ o → as_type_name o ≡ Some (type, rest) → Takes (declaration_tokens type) ts rest
named_takes names K spelled deep ts type rest known None is e = absurd cc
named_takes names K spelled deep ts type rest known (Some x) is e =
    let g = type_name_good names K spelled deep ts x.0 x.1 known is in
    let same : ◌≡◌ {A = DeclarationTree × List Token} (as_declaration x.0, x.1) (type, rest) = some_is _ _ e in
    let tree : g.tree ≡ as_declaration x.0 = ap as_declaration g.is in
    subst (λ (y : DeclarationTree × List Token). Takes (declaration_tokens y.0) ts y.1) same (subst (λ (d : DeclarationTree). Takes (declaration_tokens d) ts x.1) tree g.takes)

within_less : (here : List Token) (o : Token) (ts : List Token) → IsWithin here (o ∷ ts) → length ts < length here
within_less here o ts w = omega (arith, ap length w.1, length-drop w.0 here)

module _ (is_type : ℕ → Bool) where
  abbrev Any : List Token → Type 0
  Any ts = Unit {0}

  abbrev names_for : (count : ℕ) → Names
  names_for count = record { is_type = is_type; type_at = type_names_for is_type count }

  types_spelled : (count : ℕ) → IsSpelled (names_for count) Any
  unfolding type_names_for
  types_spelled zero = record { tail = λ t ts k. tt; type_is = λ ts type rest k e. absurd cc }
  types_spelled (suc count) = record {
    tail = λ t ts k. tt;
    type_is = λ ts type rest k e. named_takes (names_for count) Any (types_spelled count) depth_limit ts type rest tt (type_name (names_for count) depth_limit ts) refl e;
  }

  -- enough tokens are as good as any
  types_enough : (n m : ℕ) (ts : List Token) → length ts ≤ n → length ts ≤ m → type_names_for is_type n ts ≡ type_names_for is_type m ts
  unfolding type_names_for
  types_enough zero zero ts p q = refl
  types_enough zero (suc m) [] p q = sym (ap as_type_name (type_name_empty (names_for m) depth_limit))
  types_enough zero (suc m) (t ∷ ts) p q = absurd (omega (arith, p))
  types_enough (suc n) zero [] p q = ap as_type_name (type_name_empty (names_for n) depth_limit)
  types_enough (suc n) zero (t ∷ ts) p q = absurd (omega (arith, q))
  types_enough (suc n) (suc m) ts p q =
      ap as_type_name (type_name_agrees is_type Any depth_limit ts tt (type_names_for is_type n) (type_names_for is_type m) (types_spelled n) (types_spelled m)
      (λ o us w k. types_enough n m us (omega (arith, p, within_less ts o us w)) (omega (arith, q, within_less ts o us w))))

  pub by_spelled : (K : List Token → Type 0) → ((t : Token) (ts : List Token) → K (t ∷ ts) → K ts) → IsSpelled (names_by is_type) K
  unfolding names_by
  by_spelled K tail = record { tail = tail; type_is = λ ts type rest k e. (types_spelled (length ts)).type_is ts type rest tt e }

  by_there : (ts : List Token) → type_names_for is_type (length ts) ts ≡ as_type_name (type_name (names_by is_type) depth_limit ts)
  unfolding names_by type_names_for
  by_there [] = sym (ap as_type_name (type_name_empty (names_by is_type) depth_limit))
  by_there (t ∷ us) =
      ap as_type_name (type_name_agrees is_type Any depth_limit (t ∷ us) tt (type_names_for is_type (length us)) (λ ts. type_names_for is_type (length ts) ts)
      (types_spelled (length us)) (by_spelled Any (λ o ts k. tt))
      (λ o vs w k. types_enough (length us) (length vs) vs (omega (arith, within_less (t ∷ us) o vs w)) (omega arith)))

  pub by_has : (K : List Token → Type 0) → HasTypeNames (names_by is_type) K depth_limit
  unfolding names_by
  by_has K = λ o ts known k. by_there ts

  pub by_is_type : (names_by is_type).is_type ≡ is_type
  unfolding names_by
  by_is_type = refl
