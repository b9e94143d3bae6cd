-- Specifiers, parameters and initializers that are spelled so are read.
use Rattle.std.proofs.Common.{◌≡◌, ◌≤◌, ℕ, max, Bool, true, false, List, [], ◌∷◌, ◌++◌, drop, Option, Some, None, refl, ap, subst, ◌∙◌, arith}
use Rattle.std.proofs.lemmas.Bool.{false≢true}
use Rattle.pv_token.specs.declared.token_table.Token.{Token}
use Rattle.pv_token.specs.declared.token_table.TokenKind.{TokenKind}
use Rattle.pv_token.specs.declared.token_table.TokenKind.TheVariants as kind
use Rattle.pv_token.specs.declared.words.Word.{Word}
use Rattle.pv_token.specs.declared.words.Word.TheVariants as word
use Rattle.pv_token.specs.declared.marks.Mark.TheVariants as mark
use Rattle.pv_tree.specs.Syntax.{DeclarationTree, DeclaratorTree, Tree, OfDeclaration, OfDeclarator, OfSpecifier, Trees, NoTrees, OptionalTree, Absent, Present}
use Rattle.pv_tree.specs.Depths.{trees_depth, optional_depth}
use Rattle.pv_tree.specs.Spelling.{tree_tokens, trees_tokens, optional_tokens, tag_tokens}
use Rattle.pv_tree.specs.Spells.{Names, begins_type, Fits}
use Rattle.pv_tree.specs.Places.{Place, Specifiers, Members, stands, is_plain_word, is_composite_word, is_tag_word, some}
use Rattle.pv_tree.specs.Fitting.{TreeFits, RowFits, OptionalFits, past}
use Rattle.pv_expr_forms.specs.Reader.{after}
use Rattle.pv_expr_forms.proofs.Runs.{Takes, takes_parts, takes_rest, parts_at}
use Rattle.pv_expr_forms.proofs.Heads.{IsSpelled}
use Rattle.pv_decl_forms.specs.declared.forms.Form.{Form}
use Rattle.pv_decl_forms.specs.Pieces.{Reads, is_open_brace, row}
use Rattle.pv_decl_forms.specs.Declarators.{place_of}
use Rattle.pv_decl_forms.specs.Reader.{name_of, tag_in, tag_at, behind_specifiers}
use Rattle.pv_decl_forms.proofs.Marks.{after_taken}
use Rattle.pv_decl_forms.proofs.Goods.{known_behind, part_shortens}
use Rattle.pv_decl_forms.proofs.Directs.{declarator_stands}
use Rattle.pv_decl_forms.proofs.Stops.{Stops, Closes, closes_stops, closed_shuts, shuts_no_type}
use Rattle.pv_decl_forms.proofs.Beginnings.{opening, specifier_begins}
use Rattle.pv_decl_forms.proofs.Exacts.{Starts, row_exact}
use Rattle.pv_decl_forms.proofs.Wholes.{IsExact, of_parts, exact_as}

pub specifiers_start : (names : Names) → Starts names Specifiers
specifiers_start names (OfSpecifier s) here rest stand f h = specifier_begins names s here rest f h
specifiers_start names _ here rest stand f h = absurd (false≢true stand)

pub members_start : (names : Names) → Starts names Members
members_start names t [] rest stand f h = tt
members_start names t (u ∷ us) rest stand f h = refl

-- ---- tags

tag_exact : (tag : Option ℕ) (ts : List Token) (t : Token) (mid : List Token) → Takes (tag_tokens tag) ts (t ∷ mid) → name_of t.kind ≡ None
    → tag_at ts ≡ (tag, t ∷ mid)
tag_exact None ts t mid h none = ap tag_at h ∙ ap (λ (o : Option ℕ). tag_in o t mid) none
tag_exact (Some n) [] t mid h none = absurd h
tag_exact (Some n) (u ∷ ts) t mid h none =
    let name : name_of u.kind ≡ Some n = ap name_of h.0 in
    ap (λ (o : Option ℕ). tag_in o u ts) name ∙ ap (λ (y : List Token). let z : Option ℕ × List Token = (Some n, y) in z) h.1

pub tag_there : (n : ℕ) (ts rest : List Token) → Takes (kind.Name n ∷ []) ts rest → tag_at ts ≡ (Some n, rest)
tag_there n [] rest h = absurd h
tag_there n (u ∷ ts) rest h =
    let name : name_of u.kind ≡ Some n = ap name_of h.0 in
    ap (λ (o : Option ℕ). tag_in o u ts) name ∙ ap (λ (y : List Token). let z : Option ℕ × List Token = (Some n, y) in z) h.1

-- a tag that may be left out, and `{`
pub record Opened (tag : Option ℕ) (ks : List TokenKind) (ts rest : List Token) : Type 0 where
  pub inner : List Token
  pub at : drop 1 (past (tag_tokens tag) ts) ≡ inner
  pub right : Takes ks inner rest
  pub brace : after is_open_brace (tag_at ts).1 ≡ Some inner
  pub tag_is : (tag_at ts).0 ≡ tag

pub opened_at : (tag : Option ℕ) (ks : List TokenKind) (ts rest : List Token) → Takes (tag_tokens tag ++ (kind.Mark mark.OpenBrace ∷ ks)) ts rest
    → Opened tag ks ts rest
opened_at tag ks ts rest h =
    let p = parts_at (tag_tokens tag) (kind.Mark mark.OpenBrace) ks ts rest h in
    let none : name_of p.token.kind ≡ None = ap name_of p.kind in
    let e = tag_exact tag ts p.token p.after p.left none in
    record {
      inner = p.after;
      at = ap (drop 1) (takes_rest (tag_tokens tag) ts (p.token ∷ p.after) p.left);
      right = p.right;
      brace = ap (λ (y : Option ℕ × List Token). after is_open_brace y.1) e ∙ after_taken is_open_brace (kind.Mark mark.OpenBrace) (p.token ∷ p.after) p.after refl (p.kind, refl);
      tag_is = ap (λ (y : Option ℕ × List Token). y.0) e;
    }

pub composite_word : (w : Word) → is_composite_word w ≡ true → (is_plain_word w ≡ false) × (is_tag_word w ≡ true)
composite_word word.Struct e = (refl, refl)
composite_word word.Union e = (refl, refl)
composite_word _ e = absurd (false≢true e)

pub tag_word : (w : Word) → is_tag_word w ≡ true → is_plain_word w ≡ false
tag_word word.Struct e = refl
tag_word word.Union e = refl
tag_word word.Enum e = refl
tag_word _ e = absurd (false≢true e)

module _ (names : Names) (K : List Token → Type 0) (spelled : IsSpelled names K) (depth : ℕ) (r : Reads) where
  -- ---- specifiers in a row, and a declarator that may be left out

  module _ (at : Place → Bool) (x : IsExact names K depth at r) (specifiers : at Specifiers ≡ true) where
    pub specs_exact : (specs : Trees) (here rest : List Token) → K here → RowFits names.is_type (Fits names) Specifiers specs here
        → trees_depth specs ≤ depth
        → Takes (trees_tokens specs) here rest → Stops Specifiers rest → begins_type names rest ≡ false
        → row (r Specifiers) NoTrees here ≡ (specs, rest)
    specs_exact specs here rest known f d h s none =
        row_exact names K spelled Specifiers depth (r Specifiers) (x.exact Specifiers specifiers) (part_shortens names K spelled depth r x.sound Specifiers) (specifiers_start names)
        specs here rest known f d h s (x.typeless rest none)

  module _ (x : IsExact names K depth of_parts r) where
    pub specs_closed : (specs : Trees) (here rest : List Token) → K here → RowFits names.is_type (Fits names) Specifiers specs here
        → trees_depth specs ≤ depth
        → Takes (trees_tokens specs) here rest → Closes rest → row (r Specifiers) NoTrees here ≡ (specs, rest)
    specs_closed specs here rest known f d h c =
        specs_exact of_parts x refl specs here rest known f d h (closes_stops Specifiers rest c) (shuts_no_type names rest (closed_shuts rest c))

    pub specs_then : (specs : Trees) (d : DeclaratorTree) (here mid rest : List Token) → K here
        → RowFits names.is_type (Fits names) Specifiers specs here → trees_depth specs ≤ depth
        → Takes (trees_tokens specs) here mid → TreeFits names.is_type (Fits names) (OfDeclarator d) mid
        → Takes (tree_tokens (OfDeclarator d)) mid rest
        → row (r Specifiers) NoTrees here ≡ (specs, mid)
    specs_then specs d here mid rest known f deep h g k =
        let o = opening names d mid rest g k in
        specs_exact of_parts x refl specs here mid known f deep h o.stops o.no_type

    with_declarator : (f : Form) (specs : Trees) (t : Tree) (here mid rest : List Token) → K here
        → RowFits names.is_type (Fits names) Specifiers specs here → trees_depth specs ≤ depth
        → Takes (trees_tokens specs) here mid → stands (place_of f) t ≡ true → TreeFits names.is_type (Fits names) t mid
        → Takes (tree_tokens t) mid rest
        → row (r Specifiers) NoTrees here ≡ (specs, mid)
    with_declarator f specs t here mid rest known f' deep h s g k =
        let d = declarator_stands f t s in
        specs_then specs d.0 here mid rest known f' deep h (subst (λ (y : Tree). TreeFits names.is_type (Fits names) y mid) d.1 g) (subst (λ (y : Tree). Takes (tree_tokens y) mid rest) d.1 k)

    pub specified_exact : (f : Form) (make : Trees → OptionalTree → DeclarationTree) (specs : Trees) (o : OptionalTree) (here rest : List Token)
        → K here → some specs ≡ true
        → RowFits names.is_type (Fits names) Specifiers specs here
        → OptionalFits names.is_type (Fits names) (place_of f) o (past (trees_tokens specs) here)
        → max (trees_depth specs) (optional_depth o) ≤ depth → Takes (trees_tokens specs ++ optional_tokens o) here rest → Closes rest
        → behind_specifiers make (r (place_of f)) (row (r Specifiers) NoTrees here) ≡ Some (OfDeclaration (make specs o), rest)
    unfolding behind_specifiers
    specified_exact f make specs Absent here rest known has row fits deep h c =
        let p = takes_parts (trees_tokens specs) [] here rest h in
        let run : Takes (trees_tokens specs) here rest = rw p.2 at p.1 in
        rw (specs_closed specs here rest known row (omega (arith, deep)) run c, has, x.shut (place_of f) rest (closed_shuts rest c)) refl
    specified_exact f make specs (Present t) here rest known has row fits deep h c =
        let p = takes_parts (trees_tokens specs) (tree_tokens t) here rest h in
        let at = takes_rest (trees_tokens specs) here p.0 p.1 in
        let fits' = subst (λ (y : List Token). TreeFits names.is_type (Fits names) t y) at fits.1 in
        let known' = known_behind names K spelled (trees_tokens specs) here p.0 p.1 known in
        let e = exact_as names K depth r x f t p.0 rest known' fits.0 fits' (omega (arith, deep)) p.2 (closes_stops (place_of f) rest c) in
        rw (with_declarator f specs t here p.0 rest known row (omega (arith, deep)) p.1 fits.0 fits' p.2, has, e) refl
