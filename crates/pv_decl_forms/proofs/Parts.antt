-- What is read as a part that is no node of its own is spelled so.
use Rattle.std.proofs.Common.{◌≡◌, ◌≤◌, ◌<◌, ◌⊎◌, ℕ, max, Bool, true, List, [], ◌∷◌, ◌++◌, length, drop, Option, Some, None, option_map, refl, sym, ap, subst, arith, inl, inr}
use Rattle.pv_token.specs.declared.token_table.Token.{Token}
use Rattle.pv_token.specs.declared.token_table.TokenKind.TheVariants as kind
use Rattle.pv_token.specs.declared.marks.Mark.TheVariants as mark
use Rattle.pv_tree.specs.Syntax.{DeclarationTree, MemberDeclaration, Enumerator, DeclaratorTree, Tree, OfDeclaration, OfDeclarator, Trees, NoTrees, OptionalTree}
use Rattle.pv_tree.specs.Depths.{trees_depth, optional_depth}
use Rattle.pv_tree.specs.Spelling.{tree_tokens, trees_tokens, listed_tokens, optional_tokens, value_tokens, declarator_tokens, comma_tokens}
use Rattle.pv_tree.specs.Grammar.{line_here}
use Rattle.pv_tree.specs.Spells.{Names, Fits}
use Rattle.pv_tree.specs.Places.{Place, Specifiers, InitDeclarators, Members, MemberDeclarators, Enumerators, Initializers, Constants, some}
use Rattle.pv_tree.specs.Fitting.{RowFits, ListFits, OptionalFits, past}
use Rattle.pv_expr_forms.specs.Follows.{or_else}
use Rattle.pv_expr_forms.specs.Reader.{is_comma, after}
use Rattle.pv_expr_forms.proofs.Runs.{Takes, takes_then, takes_parts, takes_rest}
use Rattle.pv_expr_forms.proofs.Steps.{guarded, unless, mapped}
use Rattle.pv_expr_forms.proofs.Heads.{IsSpelled}
use Rattle.pv_decl_forms.specs.declared.forms.Form.TheVariants as form
use Rattle.pv_decl_forms.specs.Pieces.{Piece, Reads, is_semicolon, is_close_brace, found_in, part_if_any, value, row, comma_list}
use Rattle.pv_decl_forms.specs.Reader.{brace_closed, listed_in_braces, row_in_braces, name_of, made_of, behind_specifiers, semicolon_behind, with_members, member_with, member, enumerator_of, enumerator, declarator_and_value, init_declarator, with_parts}
use Rattle.pv_decl_forms.proofs.Marks.{comma_found, close_brace_taken, semicolon_taken, name_is}
use Rattle.pv_decl_forms.proofs.Steps.{piece_is}
use Rattle.pv_decl_forms.proofs.Goods.{Good, IsSound, Rowed, good_at, left_spells, known_behind, row_good, listed_good, optional_good, value_good}
use Rattle.pv_decl_forms.proofs.Directs.{declarator_stands}

-- ---- lists in braces

pub record Braced (make : Trees → Bool → Tree) (parts : Trees) (ts : List Token) (a : Tree) (rest : List Token) : Type 0 where
  pub comma : Bool
  pub has : some parts ≡ true
  pub is : make parts comma ≡ a
  pub takes : Takes (comma_tokens comma ++ kind.Mark mark.CloseBrace ∷ []) ts rest

pub braced_is : (make : Trees → Bool → Tree) (x : Trees × List Token) (a : Tree) (rest : List Token) → listed_in_braces make x ≡ Some (a, rest)
    → Braced make x.0 x.1 a rest
unfolding listed_in_braces brace_closed
braced_is make x a rest e =
    let c = found_in (after is_comma x.1) x.1 in
    let g = guarded (some x.0) (brace_closed (make x.0) c) (a, rest) e in
    let m = mapped (λ (y : List Token). let z : Tree × List Token = (make x.0 c.0, y) in z) (after is_close_brace c.1) (a, rest) g.1 in
    let k = takes_then (comma_tokens c.0) (kind.Mark mark.CloseBrace ∷ []) x.1 c.1 m.0 (comma_found (after is_comma x.1) x.1 refl) (close_brace_taken c.1 m.0 m.1) in
    record {
      comma = c.0;
      has = g.0;
      is = ap (λ (y : Tree × List Token). y.0) m.2;
      takes = subst (λ (y : List Token). Takes (comma_tokens c.0 ++ kind.Mark mark.CloseBrace ∷ []) x.1 y) (ap (λ (y : Tree × List Token). y.1) m.2) k;
    }

pub row_braced_is : (make : Trees → Tree) (x : Trees × List Token) (a : Tree) (rest : List Token) → row_in_braces make x ≡ Some (a, rest)
    → (some x.0 ≡ true) × (make x.0 ≡ a) × Takes (kind.Mark mark.CloseBrace ∷ []) x.1 rest
unfolding row_in_braces
row_braced_is make x a rest e =
    let g = guarded (some x.0) (option_map (λ (y : List Token). let z : Tree × List Token = (make x.0, y) in z) (after is_close_brace x.1)) (a, rest) e in
    let m = mapped (λ (y : List Token). let z : Tree × List Token = (make x.0, y) in z) (after is_close_brace x.1) (a, rest) g.1 in
    (g.0, ap (λ (y : Tree × List Token). y.0) m.2, subst (λ (y : List Token). Takes (kind.Mark mark.CloseBrace ∷ []) x.1 y) (ap (λ (y : Tree × List Token). y.1) m.2) (close_brace_taken x.1 m.0 m.1))

-- a comma at the end of a list
pub takes_listed : (parts : Trees) (comma : Bool) (here mid rest : List Token) → Takes (listed_tokens parts) here mid
    → Takes (comma_tokens comma ++ kind.Mark mark.CloseBrace ∷ []) mid rest
    → Takes ((listed_tokens parts ++ comma_tokens comma) ++ kind.Mark mark.CloseBrace ∷ []) here rest
takes_listed parts comma here mid rest h k =
    let p = takes_parts (comma_tokens comma) (kind.Mark mark.CloseBrace ∷ []) mid rest k in
    takes_then (listed_tokens parts ++ comma_tokens comma) (kind.Mark mark.CloseBrace ∷ []) here p.0 rest (takes_then (listed_tokens parts) (comma_tokens comma) here mid p.0 h p.1) p.2

pub or_else_is : (o p : Piece) (y : Tree × List Token) → or_else o p ≡ Some y → (o ≡ Some y) ⊎ (p ≡ Some y)
or_else_is None p y e = inr e
or_else_is (Some x) p y e = inl e

-- specifiers, and a declarator that may be left out
pub record Specified (names : Names) (place : Place) (deep : ℕ) (here : List Token) (make : Trees → OptionalTree → DeclarationTree) (a : Tree) (rest : List Token) : Type 0 where
  pub specs : Trees
  pub declarator : OptionalTree
  pub is : OfDeclaration (make specs declarator) ≡ a
  pub has : some specs ≡ true
  pub row : RowFits names.is_type (Fits names) Specifiers specs here
  pub fits : OptionalFits names.is_type (Fits names) place declarator (past (trees_tokens specs) here)
  pub shallow : max (trees_depth specs) (optional_depth declarator) ≤ deep
  pub spells : 0 < length (trees_tokens specs ++ optional_tokens declarator)
  pub takes : Takes (trees_tokens specs ++ optional_tokens declarator) here rest

module _ (names : Names) (K : List Token → Type 0) (spelled : IsSpelled names K) where
  module _ (deep : ℕ) (r : Reads) (s : IsSound names K deep r) where
    pub specified_good : (place : Place) (make : Trees → OptionalTree → DeclarationTree) (ts : List Token) (a : Tree) (rest : List Token) → K ts
        → behind_specifiers make (r place) (row (r Specifiers) NoTrees ts) ≡ Some (a, rest) → Specified names place deep ts make a rest
    unfolding behind_specifiers
    specified_good place make ts a rest known e =
        let x = row (r Specifiers) NoTrees ts in
        let o = part_if_any x.1 (r place x.1) in
        let g = guarded (some x.0) (made_of make x.0 o) (a, rest) e in
        let same = piece_is _ _ _ _ g.1 in
        let b = row_good names K spelled deep r s Specifiers ts known in
        let d = optional_good names K spelled deep r s place x.1 b.0 in
        let at = takes_rest (trees_tokens x.0) ts x.1 b.1.takes in
        record {
          specs = x.0;
          declarator = o.0;
          is = ap (λ (y : Tree × List Token). y.0) same;
          has = g.0;
          row = b.1.fits;
          fits = subst (λ (y : List Token). OptionalFits names.is_type (Fits names) place o.0 y) (sym at) d.1.fits;
          shallow = omega (arith, b.1.shallow, d.1.shallow);
          spells = left_spells (trees_tokens x.0) (optional_tokens o.0) (b.1.spells g.0);
          takes = takes_then (trees_tokens x.0) (optional_tokens o.0) ts x.1 rest b.1.takes
              (subst (λ (y : List Token). Takes (optional_tokens o.0) x.1 y) (ap (λ (y : Tree × List Token). y.1) same) d.1.takes);
        }

    -- ---- what is no node of its own

    member_by : (ts : List Token) (x : Trees × List Token) (a : Tree) (rest : List Token) → Rowed names Specifiers deep ts x.0 x.1 → some x.0 ≡ true
        → K x.1
        → with_members (line_here ts) x.0 (comma_list (r MemberDeclarators) x.1) ≡ Some (a, rest) → Good names Members deep ts a rest
    unfolding with_members semicolon_behind
    member_by ts x a rest b has known e =
        let y = comma_list (r MemberDeclarators) x.1 in
        let d = MemberDeclaration (line_here ts) x.0 y.0 in
        let g = guarded (some y.0) (semicolon_behind d y.1) (a, rest) e in
        let m = mapped (λ (z : List Token). let w : Tree × List Token = (OfDeclaration d, z) in w) (after is_semicolon y.1) (a, rest) g.1 in
        let l = listed_good names K spelled deep r s MemberDeclarators x.1 known in
        let at = takes_rest (trees_tokens x.0) ts x.1 b.takes in
        let front = takes_then (trees_tokens x.0) (listed_tokens y.0) ts x.1 y.1 b.takes l.1.takes in
        good_at names Members deep ts (OfDeclaration d, m.0) a rest m.2 (record {
          stand = refl;
          fits = (refl, has, g.0, b.fits, subst (λ (z : List Token). ListFits names.is_type (Fits names) MemberDeclarators y.0 z) (sym at) l.1.fits);
          shallow = omega (arith, b.shallow, l.1.shallow);
          spells = left_spells (trees_tokens x.0 ++ listed_tokens y.0) _ (left_spells (trees_tokens x.0) (listed_tokens y.0) (b.spells has));
          takes = takes_then (trees_tokens x.0 ++ listed_tokens y.0) (kind.Mark mark.Semicolon ∷ []) ts y.1 m.0 front (semicolon_taken y.1 m.0 m.1);
        })

    member_good : (ts : List Token) (a : Tree) (rest : List Token) → K ts → member r ts ≡ Some (a, rest) → Good names Members deep ts a rest
    unfolding member member_with
    member_good ts a rest known e =
        let x = row (r Specifiers) NoTrees ts in
        let g = guarded (some x.0) (with_members (line_here ts) x.0 (comma_list (r MemberDeclarators) x.1)) (a, rest) e in
        let b = row_good names K spelled deep r s Specifiers ts known in
        member_by ts x a rest b.1 g.0 b.0 g.1

    enumerator_by : (o : Option ℕ) (t : Token) (ts : List Token) (a : Tree) (rest : List Token) → K ts → name_of t.kind ≡ o
        → enumerator_of names r t.line o ts ≡ Some (a, rest) → Good names Enumerators deep (t ∷ ts) a rest
    unfolding enumerator_of
    enumerator_by None t ts a rest known n e = absurd cc
    enumerator_by (Some n) t ts a rest known is e =
        let v = value (r Constants) ts in
        let g = unless {A = Tree × List Token} (names.is_type n) (Some (OfDeclaration (Enumerator t.line n v.0), v.1)) (a, rest) e in
        let w = value_good names K spelled deep r s Constants ts known in
        good_at names Enumerators deep (t ∷ ts) (OfDeclaration (Enumerator t.line n v.0), v.1) a rest (piece_is _ _ _ _ g.1) (record {
          stand = refl;
          fits = (refl, g.0, w.1.fits);
          shallow = w.1.shallow;
          spells = omega arith;
          takes = (name_is t.kind n is, w.1.takes);
        })

    enumerator_good : (ts : List Token) (a : Tree) (rest : List Token) → K ts → enumerator names r ts ≡ Some (a, rest)
        → Good names Enumerators deep ts a rest
    unfolding enumerator
    enumerator_good [] a rest known e = absurd cc
    enumerator_good (t ∷ ts) a rest known e = enumerator_by (name_of t.kind) t ts a rest (spelled.tail t ts known) refl e

    initialized_by : (here : List Token) (d : DeclaratorTree) (ts : List Token) → K ts → Good names MemberDeclarators deep here (OfDeclarator d) ts
        → let x = declarator_and_value r (line_here here) (OfDeclarator d) ts in K x.1 × Good names InitDeclarators deep here x.0 x.1
    unfolding declarator_and_value
    initialized_by here d ts known g =
        let v = value (r Initializers) ts in
        let w = value_good names K spelled deep r s Initializers ts known in
        let at = takes_rest (declarator_tokens d) here ts g.takes in (
          w.0,
          record {
            stand = refl;
            fits = (refl, g.stand, g.fits, subst (λ (z : List Token). OptionalFits names.is_type (Fits names) Initializers v.0 (drop 1 z)) (sym at) w.1.fits);
            shallow = omega (arith, g.shallow, w.1.shallow);
            spells = left_spells (declarator_tokens d) (value_tokens v.0) g.spells;
            takes = takes_then (declarator_tokens d) (value_tokens v.0) here ts v.1 g.takes w.1.takes;
          },
        )

    pub initialized_good : (here : List Token) (t : Tree) (ts : List Token) → K ts → Good names MemberDeclarators deep here t ts
        → let x = declarator_and_value r (line_here here) t ts in K x.1 × Good names InitDeclarators deep here x.0 x.1
    initialized_good here t ts known g =
        let d = declarator_stands form.Named t g.stand in
        subst (λ (y : Tree). let x = declarator_and_value r (line_here here) y ts in K x.1 × Good names InitDeclarators deep here x.0 x.1) (sym d.1)
        (initialized_by here d.0 ts known (subst (λ (y : Tree). Good names MemberDeclarators deep here y ts) d.1 g))

    init_declarator_good : (ts : List Token) (a : Tree) (rest : List Token) → K ts → init_declarator r ts ≡ Some (a, rest)
        → Good names InitDeclarators deep ts a rest
    unfolding init_declarator
    init_declarator_good ts a rest known e =
        let m = mapped (λ (x : Tree × List Token). declarator_and_value r (line_here ts) x.0 x.1) (r MemberDeclarators ts) (a, rest) e in
        let g = s.good MemberDeclarators ts m.0.0 m.0.1 known m.1 in
        let i = initialized_good ts m.0.0 m.0.1 (known_behind names K spelled (tree_tokens m.0.0) ts m.0.1 g.takes known) g in
        good_at names InitDeclarators deep ts (declarator_and_value r (line_here ts) m.0.0 m.0.1) a rest m.2 i.1

    parts_good : (place : Place) (ts : List Token) (a : Tree) (rest : List Token) → K ts → with_parts names r place ts ≡ Some (a, rest)
        → Good names place deep ts a rest
    unfolding with_parts
    parts_good InitDeclarators ts a rest known e = init_declarator_good ts a rest known e
    parts_good Members ts a rest known e = member_good ts a rest known e
    parts_good Enumerators ts a rest known e = enumerator_good ts a rest known e
    parts_good place ts a rest known e = s.good place ts a rest known e

    pub parts_sound : IsSound names K deep (with_parts names r)
    parts_sound = record { good = parts_good }
