-- Type names within type names: those of the grammar alone, and those that a map has which was read so.
use Rattle.std.proofs.Common.{◌≡◌, ◌≤◌, ◌+◌, ℕ, zero, suc, Bool, true, List, [], ◌∷◌, ◌++◌, length, drop, Option, Some, None, refl, sym, ap, subst, ◌∙◌, arith, inl, inr}
use Rattle.std.proofs.lemmas.List.{drop-drop}
use Rattle.std.proofs.lemmas.Bool.{false≢true}
use Rattle.pv_token.specs.declared.token_table.Token.{Token}
use Rattle.pv_token.specs.declared.token_table.TokenKind.{TokenKind}
use Rattle.pv_token.specs.declared.token_table.TokenKind.TheVariants as kind
use Rattle.pv_token.specs.declared.marks.Mark.TheVariants as mark
use Rattle.pv_tree.specs.Syntax.{ExpressionTree, DeclarationTree, TypeName, Tree, Trees, OfDeclaration}
use Rattle.pv_tree.specs.Depths.{expression_depth, declaration_depth}
use Rattle.pv_tree.specs.Spelling.{expression_tokens, declaration_tokens, trees_tokens, listed_tokens, variadic_tokens, optional_tokens}
use Rattle.pv_tree.specs.Grammar.{line_here, FitsBy}
use Rattle.pv_tree.specs.Spells.{Names, kind_begins_type, begins_type, IsTypeName, Fits}
use Rattle.pv_tree.specs.Tables.{as_declaration}
use Rattle.pv_tree.specs.Places.{Parameters, is_type_name}
use Rattle.pv_tree.specs.Fitting.{DeclarationFits, TypeNameFits}
use Rattle.pv_expr_forms.proofs.Runs.{Takes, takes_parts, takes_rest, parts_at}
use Rattle.pv_expr_forms.proofs.Steps.{some_is}
use Rattle.pv_expr_forms.proofs.Heads.{IsSpelled}
use Rattle.pv_decl_forms.specs.declared.forms.Form.TheVariants as form
use Rattle.pv_decl_forms.specs.Declarators.{parameters_behind}
use Rattle.pv_decl_forms.specs.Pieces.{Piece}
use Rattle.pv_decl_forms.specs.Reader.{readers, type_name, as_type_name, HasTypeNames}
use Rattle.pv_decl_forms.proofs.Stops.{Closes, closes_on}
use Rattle.pv_decl_forms.proofs.Beginnings.{first_specifiers}
use Rattle.pv_decl_forms.proofs.Wholes.{on_line}
use Rattle.pv_decl_forms.proofs.Specified.{specified_exact}
use Rattle.pv_decl_forms.proofs.Closings.{parametrized_exact}
use Rattle.pv_decl_forms.proofs.Everywhere.{readers_exact}
use Rattle.pv_decl_forms.proofs.Goods.{parametrized_good, comma_shortens}
use Rattle.pv_decl_forms.proofs.Sound.{readers_sound}
use Rattle.pv_decl_forms.proofs.Longest.{Within, Reaches}
use Rattle.pv_decl_forms.proofs.Naming.{type_name_good, type_name_longest}
use Rattle.pv_decl_forms.proofs.Lifting.{Stand, front, fits_changed}
use Rattle.pv_decl_forms.proofs.Lifted.{declaration_lifted, list_lifted}

-- ---- a type name that something closes

pub type_name_closed : (names : Names) (K : List Token → Type 0) → IsSpelled names K → (deep : ℕ) (d : DeclarationTree) (here rest : List Token)
    → K here → is_type_name d ≡ true
    → DeclarationFits names.is_type (Fits names) d here → declaration_depth d ≤ deep → Takes (declaration_tokens d) here rest → Closes rest
    → type_name names deep here ≡ Some (OfDeclaration d, rest)
unfolding type_name
type_name_closed names K spelled deep (TypeName line specs o) here rest known s f d h c =
    on_line (λ l. OfDeclaration (TypeName l specs o)) line (line_here here) rest _ f.0
    (specified_exact names K spelled deep (readers names deep) (readers_exact names K spelled deep) form.Abstract (TypeName (line_here here)) specs o here rest known f.1 f.2 f.3 d h c)
type_name_closed names K spelled deep _ here rest known s f d h c = absurd (false≢true s)

type_begins : (names : Names) (d : DeclarationTree) (here rest : List Token) → is_type_name d ≡ true
    → DeclarationFits names.is_type (Fits names) d here → Takes (declaration_tokens d) here rest
    → begins_type names here ≡ true
type_begins names (TypeName line specs o) here rest s f h =
    let p = takes_parts (trees_tokens specs) (optional_tokens o) here rest h in
    first_specifiers names specs here p.0 f.1 f.2 p.1
type_begins names _ here rest s f h = absurd (false≢true s)

module _ (names : Names) (K : List Token → Type 0) (spelled : IsSpelled names K) (limit : ℕ) (has : HasTypeNames names K limit) where
  -- it is the one that begins there
  type_there : (type : DeclarationTree) (o : Token) (ts : List Token) → K (o ∷ ts) → o.kind ≡ kind.Mark mark.OpenParen
      → Stand (declaration_tokens type ++ kind.Mark mark.CloseParen ∷ []) ts
      → declaration_depth type ≤ limit → is_type_name type ≡ true → DeclarationFits names.is_type (Fits names) type ts → IsTypeName names type ts
  type_there type o ts known k s d is f =
      let p = parts_at (declaration_tokens type) (kind.Mark mark.CloseParen) [] ts s.0 s.1 in
      let e = type_name_closed names K spelled limit type ts (p.token ∷ p.after) (spelled.tail o ts known) is f d p.left (closes_on (kind.Mark mark.CloseParen) p.token p.after p.kind refl) in
      record {
        begins = type_begins names type ts (p.token ∷ p.after) is f p.left;
        is = has o ts known k ∙ ap as_type_name e ∙ ap (λ (x : List Token). let y : Option (DeclarationTree × List Token) = Some (type, x) in y) (sym (takes_rest (declaration_tokens type) ts (p.token ∷ p.after) p.left));
      }

  -- what fits by the grammar alone fits by the map
  pub fits_by_map : (nesting : ℕ) (a : ExpressionTree) (here : List Token) → K here → Stand (expression_tokens a) here → expression_depth a ≤ limit
      → FitsBy names.is_type (TypeNameFits names.is_type nesting) a here → Fits names a here
  fits_by_map zero a here known s d f =
      fits_changed names.is_type (TypeNameFits names.is_type zero) (IsTypeName names) K spelled.tail limit (λ type o ts k e t l p. absurd p) a here known s d f
  fits_by_map (suc nesting) a here known s d f =
      fits_changed names.is_type (TypeNameFits names.is_type (suc nesting)) (IsTypeName names) K spelled.tail limit
      (λ type o ts k e t l p.
      let deep : declaration_depth type ≤ limit = omega (arith, l) in
      let q = parts_at (declaration_tokens type) (kind.Mark mark.CloseParen) [] ts t.0 t.1 in
      type_there type o ts k e t deep p.0
      (declaration_lifted names.is_type (FitsBy names.is_type (TypeNameFits names.is_type nesting)) (Fits names) K spelled.tail limit (fits_by_map nesting)
      type ts (spelled.tail o ts k) (q.token ∷ q.after, q.left) deep p.1)) a here known s d f

  -- and so do declarations, and what else stands in a unit
  pub declaration_by_map : (nesting : ℕ) (d : DeclarationTree) (here : List Token) → K here → Stand (declaration_tokens d) here
      → declaration_depth d ≤ limit
      → DeclarationFits names.is_type (FitsBy names.is_type (TypeNameFits names.is_type nesting)) d here
      → DeclarationFits names.is_type (Fits names) d here
  declaration_by_map nesting d here known s deep f =
      declaration_lifted names.is_type (FitsBy names.is_type (TypeNameFits names.is_type nesting)) (Fits names) K spelled.tail limit (fits_by_map nesting) d here known s deep f

-- behind each `(`, where K holds of the tokens from it on, a type name that there is is the longest of at most so much depth
abbrev pub HoldsTypeNames : Names → (K : List Token → Type 0) → (deep : ℕ) → Type 0
HoldsTypeNames names K deep = (o : Token) (ts : List Token) (type : DeclarationTree) (rest : List Token) → K (o ∷ ts) → o.kind ≡ kind.Mark mark.OpenParen → names.type_at ts ≡ Some (type, rest) → as_type_name (type_name names deep ts) ≡ Some (type, rest)

pub has_holds : (names : Names) (K : List Token → Type 0) (deep : ℕ) → HasTypeNames names K deep → HoldsTypeNames names K deep
has_holds names K deep has = λ o ts type rest known k e. sym (has o ts known k) ∙ e

module _ (names : Names) (K : List Token → Type 0) (spelled : IsSpelled names K) (limit : ℕ) (holds : HoldsTypeNames names K limit) where
  map_fits_by : (type : DeclarationTree) (ts : List Token) → K ts → (o : Piece) → type_name names limit ts ≡ o
      → as_type_name o ≡ Some (type, drop (length (declaration_tokens type)) ts)
      → (is_type_name type ≡ true) × DeclarationFits names.is_type (Fits names) type ts
  map_fits_by type ts known None is e = absurd cc
  map_fits_by type ts known (Some x) is e =
      let g = type_name_good names K spelled limit ts x.0 x.1 known is in
      let same : as_declaration x.0 ≡ type = ap (λ (y : DeclarationTree × List Token). y.0) (some_is {A = DeclarationTree × List Token} (as_declaration x.0, x.1) (type, drop (length (declaration_tokens type)) ts) e) in
      let tree : g.tree ≡ type = ap as_declaration g.is ∙ same in
      (subst (λ (d : DeclarationTree). is_type_name d ≡ true) tree g.stands, subst (λ (d : DeclarationTree). DeclarationFits names.is_type (Fits names) d ts) tree g.fits)

  -- what the map has at a place is spelled there
  map_fits : (type : DeclarationTree) (o : Token) (ts : List Token) → K (o ∷ ts) → o.kind ≡ kind.Mark mark.OpenParen → IsTypeName names type ts
      → (is_type_name type ≡ true) × DeclarationFits names.is_type (Fits names) type ts
  map_fits type o ts known k n = map_fits_by type ts (spelled.tail o ts known) (type_name names limit ts) refl (holds o ts type (drop (length (declaration_tokens type)) ts) known k n.is)

  -- what fits by the map fits by the grammar alone
  pub fits_by_grammar : (nesting : ℕ) (a : ExpressionTree) (here : List Token) → K here → Stand (expression_tokens a) here
      → expression_depth a ≤ nesting
      → Fits names a here → FitsBy names.is_type (TypeNameFits names.is_type nesting) a here
  fits_by_grammar zero a here known s d f =
      fits_changed names.is_type (IsTypeName names) (TypeNameFits names.is_type zero) K spelled.tail zero (λ type o ts k e t l p. absurd (omega (arith, l))) a here known s d f
  fits_by_grammar (suc nesting) a here known s d f =
      fits_changed names.is_type (IsTypeName names) (TypeNameFits names.is_type (suc nesting)) K spelled.tail (suc nesting)
      (λ type o ts k e t l p.
      let m = map_fits type o ts k e p in
      let q = parts_at (declaration_tokens type) (kind.Mark mark.CloseParen) [] ts t.0 t.1 in (
        m.0,
        declaration_lifted names.is_type (Fits names) (FitsBy names.is_type (TypeNameFits names.is_type nesting)) K spelled.tail nesting (fits_by_grammar nesting)
            type ts (spelled.tail o ts k) (q.token ∷ q.after, q.left) (omega (arith, l)) m.1,
      )) a here known s d f

  pub declaration_by_grammar : (nesting : ℕ) (d : DeclarationTree) (here : List Token) → K here → Stand (declaration_tokens d) here
      → declaration_depth d ≤ nesting
      → DeclarationFits names.is_type (Fits names) d here
      → DeclarationFits names.is_type (FitsBy names.is_type (TypeNameFits names.is_type nesting)) d here
  declaration_by_grammar nesting d here known s deep f =
      declaration_lifted names.is_type (Fits names) (FitsBy names.is_type (TypeNameFits names.is_type nesting)) K spelled.tail nesting (fits_by_grammar nesting) d here known s deep f

-- ---- a type name depends on those within it alone

-- an end of these tokens
abbrev pub IsWithin : (here ts : List Token) → Type 0
IsWithin here ts = (at : ℕ) × (drop at here ≡ ts)

within_tail : (here : List Token) (t : Token) (ts : List Token) → IsWithin here (t ∷ ts) → IsWithin here ts
within_tail here t ts w = (w.0 + 1, sym (drop-drop 1 w.0 here) ∙ ap (drop 1) w.1)

both_ways : (x y : Tree × List Token) → Within x y → Within y x → x ≡ y
both_ways x y (inl h) (inl k) = absurd (omega arith)
both_ways x y (inl h) (inr e) = sym e
both_ways x y (inr e) k = e

-- names that have the same type names behind each `(` within these tokens
module _ (is_type : ℕ → Bool) (K : List Token → Type 0) (deep : ℕ) (here : List Token) (known : K here) where
  abbrev names_at : (List Token → Option (DeclarationTree × List Token)) → Names
  names_at f = record { is_type = is_type; type_at = f }

  abbrev Agree : (f g : List Token → Option (DeclarationTree × List Token)) → Type 0
  Agree f g = (o : Token) (ts : List Token) → IsWithin here (o ∷ ts) → o.kind ≡ kind.Mark mark.OpenParen → f ts ≡ g ts

  same_kind : (f g : List Token → Option (DeclarationTree × List Token)) (k : TokenKind) → kind_begins_type (names_at f) k ≡ true
      → kind_begins_type (names_at g) k ≡ true
  same_kind f g (kind.Name n) e = e
  same_kind f g (kind.Word w) e = e
  same_kind f g _ e = absurd (false≢true e)

  same_begins : (f g : List Token → Option (DeclarationTree × List Token)) (ts : List Token) → begins_type (names_at f) ts ≡ true
      → begins_type (names_at g) ts ≡ true
  same_begins f g [] e = e
  same_begins f g (t ∷ ts) e = same_kind f g t.kind e

  same_type : (f g : List Token → Option (DeclarationTree × List Token)) (type : DeclarationTree) (ts : List Token) → f ts ≡ g ts
      → IsTypeName (names_at f) type ts → IsTypeName (names_at g) type ts
  same_type f g type ts e n = record { begins = same_begins f g ts n.begins; is = sym e ∙ n.is }

  -- what is read by the one is reached by the other
  other_reaches : (f g : List Token → Option (DeclarationTree × List Token)) → IsSpelled (names_at f) K → IsSpelled (names_at g) K → Agree f g
      → (x : Tree × List Token)
      → type_name (names_at f) deep here ≡ Some x → Reaches (type_name (names_at g) deep here) x
  other_reaches f g sf sg agree x e =
      let t = type_name_good (names_at f) K sf deep here x.0 x.1 known e in
      let fits = declaration_lifted is_type (Fits (names_at f)) (Fits (names_at g)) (IsWithin here) (within_tail here) deep
      (λ a ts w s d h. fits_changed is_type (IsTypeName (names_at f)) (IsTypeName (names_at g)) (IsWithin here) (within_tail here) deep
      (λ type o us v k st l n. same_type f g type us (agree o us v k) n) a ts w s d h)
      t.tree here (0, refl) (x.1, t.takes) t.shallow t.fits in
      let r = type_name_longest (names_at g) K sg deep t.tree here x.1 known t.stands fits t.shallow t.takes in
      subst (λ (y : Tree). Reaches (type_name (names_at g) deep here) (y, x.1)) t.is r

  none_by : (f g : List Token → Option (DeclarationTree × List Token)) → IsSpelled (names_at f) K → IsSpelled (names_at g) K → Agree g f → (o : Piece)
      → type_name (names_at g) deep here ≡ o → type_name (names_at f) deep here ≡ None → o ≡ None
  none_by f g sf sg gf None e n = refl
  none_by f g sf sg gf (Some y) e n =
      let r = other_reaches g f sg sf gf y e in
      let clash : ◌≡◌ {A = Piece} None (Some r.found) = sym n ∙ r.is in
      absurd cc

  agreed_by : (f g : List Token → Option (DeclarationTree × List Token)) → IsSpelled (names_at f) K → IsSpelled (names_at g) K → Agree f g → Agree g f
      → (o : Piece)
      → type_name (names_at f) deep here ≡ o → type_name (names_at f) deep here ≡ type_name (names_at g) deep here
  agreed_by f g sf sg fg gf (Some x) e =
      let r = other_reaches f g sf sg fg x e in
      let q = other_reaches g f sg sf gf r.found r.is in
      let one : Some x ≡ Some q.found = sym e ∙ q.is in
      let same : x ≡ q.found = cc in
      let last : x ≡ r.found = both_ways x r.found (subst (λ (y : Tree × List Token). Within y r.found) (sym same) q.within) r.within in
      e ∙ ap (λ (y : Tree × List Token). let z : Piece = Some y in z) last ∙ sym r.is
  agreed_by f g sf sg fg gf None e = e ∙ sym (none_by f g sf sg gf (type_name (names_at g) deep here) refl e)

  -- a type name is read by the type names within it alone
  pub type_name_agrees : (f g : List Token → Option (DeclarationTree × List Token)) → IsSpelled (names_at f) K → IsSpelled (names_at g) K
      → ((o : Token) (ts : List Token) → IsWithin here (o ∷ ts) → o.kind ≡ kind.Mark mark.OpenParen → f ts ≡ g ts)
      → type_name (names_at f) deep here ≡ type_name (names_at g) deep here
  type_name_agrees f g sf sg agree = agreed_by f g sf sg agree (λ o ts w k. sym (agree o ts w k)) (type_name (names_at f) deep here) refl

  -- ---- and so does a list of parameters

  other_list : (f g : List Token → Option (DeclarationTree × List Token)) → IsSpelled (names_at f) K → IsSpelled (names_at g) K → Agree f g
      → (make : Trees → Bool → Tree) (x : Tree × List Token)
      → parameters_behind make (readers (names_at f) deep) here ≡ Some x → parameters_behind make (readers (names_at g) deep) here ≡ Some x
  other_list f g sf sg agree make x e =
      let t = parametrized_good (names_at f) K sf deep (readers (names_at f) deep) (readers_sound (names_at f) K sf deep) make here x.0 x.1 known e in
      let run = front (listed_tokens t.parameters) (variadic_tokens t.variadic) here (front (listed_tokens t.parameters ++ variadic_tokens t.variadic) (kind.Mark mark.CloseParen ∷ []) here (x.1, t.takes)) in
      let fits = list_lifted is_type (Fits (names_at f)) (Fits (names_at g)) (IsWithin here) (within_tail here) deep
      (λ a ts w s d h. fits_changed is_type (IsTypeName (names_at f)) (IsTypeName (names_at g)) (IsWithin here) (within_tail here) deep
      (λ type o us v k st l n. same_type f g type us (agree o us v k) n) a ts w s d h)
      Parameters t.parameters here (0, refl) run t.shallow t.fits in
      let r = readers_exact (names_at g) K sg deep in
      parametrized_exact (names_at g) K sg deep (readers (names_at g) deep) (r.exact Parameters refl) (r.shut Parameters) (comma_shortens (names_at g) K sg deep (readers (names_at g) deep) r.sound Parameters)
      make t.parameters t.variadic here x.1 known t.may fits t.shallow t.takes
      ∙ ap (λ (y : Tree). let z : Piece = Some (y, x.1) in z) t.is

  list_by : (f g : List Token → Option (DeclarationTree × List Token)) → IsSpelled (names_at f) K → IsSpelled (names_at g) K → Agree f g → Agree g f
      → (make : Trees → Bool → Tree) (o p : Piece)
      → parameters_behind make (readers (names_at f) deep) here ≡ o → parameters_behind make (readers (names_at g) deep) here ≡ p → o ≡ p
  list_by f g sf sg fg gf make (Some x) p e q = sym (other_list f g sf sg fg make x e) ∙ q
  list_by f g sf sg fg gf make None None e q = refl
  list_by f g sf sg fg gf make None (Some y) e q = let clash : ◌≡◌ {A = Piece} None (Some y) = sym e ∙ other_list g f sg sf gf make y q in absurd cc

  pub list_agrees : (f g : List Token → Option (DeclarationTree × List Token)) → IsSpelled (names_at f) K → IsSpelled (names_at g) K
      → ((o : Token) (ts : List Token) → IsWithin here (o ∷ ts) → o.kind ≡ kind.Mark mark.OpenParen → f ts ≡ g ts)
      → (make : Trees → Bool → Tree)
      → parameters_behind make (readers (names_at f) deep) here ≡ parameters_behind make (readers (names_at g) deep) here
  list_agrees f g sf sg agree make =
      list_by f g sf sg agree (λ o ts w k. sym (agree o ts w k)) make (parameters_behind make (readers (names_at f) deep) here) (parameters_behind make (readers (names_at g) deep) here) refl refl
