-- Declarations, heads of functions and type names, once their parts are read.
use Rattle.std.proofs.Common.{◌≡◌, ◌≤◌, ◌<◌, ◌-◌, ◌==◌, ℕ, zero, suc, Bool, true, false, List, [], ◌∷◌, ◌++◌, All, length, drop, Option, Some, None, Result, Ok, Err, option_and_then, refl, sym, ap, ◌∙◌, arith, sub-one, nat_eq}
use Rattle.std.specs.Prelude.{is_some, IfOk}
use Rattle.indexmap.specs.IndexSet.{IndexSet, contains}
use Rattle.pv_token.specs.declared.token_table.Token.{Token}
use Rattle.pv_tree.specs.declared.nodes.NodeId.{NodeId}
use Rattle.pv_tree.specs.Syntax.{Declaration, Parameter, TypeName, Tree, Trees, NoTrees, Then, Present}
use Rattle.pv_tree.specs.Grammar.{line_here}
use Rattle.pv_tree.specs.Spells.{Names}
use Rattle.pv_tree.specs.Places.{Specifiers, InitDeclarators, MemberDeclarators, AbstractDeclarators}
use Rattle.pv_tree.specs.Tables.{Tables, tree_at, trees_of, declaration_at, is_declaration, is_declarator, is_specifier, Is, Extends}
use Rattle.pv_tree.specs.TypeNames.{TypeMap, AreTied}
use Rattle.pv_tree.proofs.Kept.{all_none, all_more}
use Rattle.pv_expr_forms.specs.Reader.{is_comma, after}
use Rattle.pv_expr_forms.specs.Answers.{IsBehind}
use Rattle.pv_expr_forms.specs.Known.{names_in}
use Rattle.pv_expr_forms.specs.Spelled.{IsSpelled, IsLongest, IsOnly, NothingSpells}
use Rattle.pv_expr_forms.proofs.Naming.{names_kept}
use Rattle.pv_expr_forms.proofs.Steps.{some_is}
use Rattle.pv_decl_forms.specs.Pieces.{Piece, Reads, is_semicolon, part_if_any, row, after_comma}
use Rattle.pv_decl_forms.specs.Grammar.{opens_block, SpellsDeclaration}
use Rattle.pv_decl_forms.specs.Declarators.{declarator}
use Rattle.pv_decl_forms.specs.Reader.{behind_specifiers, made_of, member, enumerator, semicolon_behind, declarator_and_value, init_declarator, node_readers, leaves, with_parts, readers, type_name, behind_declarators, after_declarator, after_specifiers, declaration_with, declaration}
use Rattle.pv_decl_forms.specs.Answers.{piece_from, Answers}
use Rattle.pv_decl_forms.specs.Rows.{AreAnswered}
use Rattle.pv_decl_forms.proofs.Answered.{moved, got, got_none}
use Rattle.pv_decl_forms.proofs.Listing.{some_of, none_of}
use Rattle.pv_decl_forms.proofs.Loops.{trees_kept}
use Rattle.pv_decl_forms.proofs.Promises.{declaration_found, declaration_longest, declaration_only, declaration_none, declaration_read}

-- ---- what is read under the names of a unit that has grown

pub are_at_start : {S : Type 0} (typedefs : IndexSet ℕ S) (types : TypeMap) (u v w : Tables) (tokens : List Token) → AreTied types u tokens → Extends u v → (kind : Tree → Bool) (nodes : List NodeId) (next : ℕ) (reading : Names → Trees × List Token)
    → AreAnswered w kind tokens nodes next (reading (names_in typedefs types v tokens)) → AreAnswered w kind tokens nodes next (reading (names_in typedefs types u tokens))
are_at_start typedefs types u v w tokens tied keeps kind nodes next reading a =
    record { is = a.is ∙ ap reading (names_kept typedefs types u v tokens tied keeps); there = a.there; place = a.place }

pub moved_at_start : {S E : Type 0} (typedefs : IndexSet ℕ S) (types : TypeMap) (u v w : Tables) (tokens : List Token) → AreTied types u tokens → Extends u v → (kind : Tree → Bool) (result : Result (Option (NodeId × ℕ)) E) (reading : Names → Piece)
    → IfOk result (λ r. Answers w kind tokens r (reading (names_in typedefs types v tokens))) → IfOk result (λ r. Answers w kind tokens r (reading (names_in typedefs types u tokens)))
moved_at_start typedefs types u v w tokens tied keeps kind result reading h =
    moved result w kind tokens (reading (names_in typedefs types v tokens)) (reading (names_in typedefs types u tokens)) (ap reading (names_kept typedefs types u v tokens tied keeps)) h

-- ---- an init-declarator

init_declarator_by : (names : Names) (depth : ℕ) (ts : List Token) → init_declarator (readers names depth) ts ≡ readers names depth InitDeclarators ts
unfolding readers with_parts leaves node_readers init_declarator declarator member enumerator declarator_and_value
init_declarator_by names zero ts = refl
init_declarator_by names (suc depth) ts = refl

module _ (names : Names) (depth : ℕ) (ts : List Token) (v : Tables) (tokens : List Token) (answer : Option (NodeId × ℕ))
    (a : Answers v is_declarator tokens answer (readers names depth MemberDeclarators ts)) where
  pub init_none : answer ≡ None → None ≡ readers names depth InitDeclarators ts
  unfolding init_declarator
  init_none e = rw (← init_declarator_by names depth ts, ← got_none v is_declarator tokens answer _ a e) refl

  pub init_some : (d : NodeId) (end : ℕ) → answer ≡ Some (d, end)
      → ◌≡◌ {A = Piece} (Some (declarator_and_value (readers names depth) (line_here ts) (tree_at v.forest d) (drop end tokens))) (readers names depth InitDeclarators ts)
  unfolding init_declarator
  init_some d end e = rw (← init_declarator_by names depth ts, ← (got v is_declarator tokens answer _ d end a e).0) refl

-- ---- behind a comma

module _ (w : Tables) (kind : Tree → Bool) (tokens : List Token) (part : List Token → Piece) (behind : ℕ) where
  pub comma_none : after is_comma (drop behind tokens) ≡ None → Answers w kind tokens None (after_comma part (drop behind tokens))
  unfolding after_comma
  comma_none e = record { is = ap (option_and_then part) (sym e); there = tt }

  pub comma_some : (next : ℕ) (answer : Option (NodeId × ℕ)) → after is_comma (drop behind tokens) ≡ Some (drop next tokens)
      → Answers w kind tokens answer (part (drop next tokens)) → Answers w kind tokens answer (after_comma part (drop behind tokens))
  unfolding after_comma
  comma_some next answer e a = record { is = a.is ∙ ap (option_and_then part) (sym e); there = a.there }

-- the first alone
pub one_part : (kind : Tree → Bool) (u : Tables) (n : NodeId) (items none : List NodeId) → none ≡ [] → items ≡ none ++ (n ∷ []) → Is u kind n → All (λ m. Is u kind m) items
one_part kind u n items none e is there = rw (is, e) (all_more (λ m. Is u kind m) n [] there (all_none (λ m. Is u kind m)))

pub start_one : (part : List Token → Piece) (u : Tables) (n : NodeId) (items none : List NodeId) (ts : List Token) → none ≡ [] → items ≡ none ++ (n ∷ [])
    → row part (trees_of u.forest items) ts ≡ row part (Then NoTrees (tree_at u.forest n)) ts
start_one part u n items none ts e is = rw (is, e) refl

-- whether there are parts
pub same_count : (a b : ℕ) (x : Bool) → a ≡ b → (a == 0) ≡ x → (b == 0) ≡ x
same_count a b x e h = rw (← e) h

-- ---- a declaration, once its specifiers are read

-- whether a `;` stands at a place
pub semicolon_there : (tokens : List Token) (ts : List Token) (o : Option ℕ)
    → IsBehind tokens o (after is_semicolon ts)
    → is_some o ≡ true → (rest : List Token) × (after is_semicolon ts ≡ Some rest)
semicolon_there tokens ts None m e = absurd cc
semicolon_there tokens ts (Some next) m e = (drop next tokens, m.0)

pub no_semicolon : (tokens : List Token) (ts : List Token) (o : Option ℕ)
    → IsBehind tokens o (after is_semicolon ts)
    → is_some o ≡ false → after is_semicolon ts ≡ None
no_semicolon tokens ts None m e = m
no_semicolon tokens ts (Some next) m e = absurd cc

pub ends_here : (r : Reads) (line : ℕ) (specs : Trees) (ts rest : List Token) → after is_semicolon ts ≡ Some rest
    → semicolon_behind (Declaration line specs NoTrees) ts ≡ after_specifiers r line specs ts
unfolding after_specifiers semicolon_behind
ends_here r line specs ts rest e = rw e refl

goes_on : (r : Reads) (line : ℕ) (specs : Trees) (ts : List Token) → after is_semicolon ts ≡ None → (o : Piece) → o ≡ r MemberDeclarators ts
    → option_and_then (λ x. after_declarator r line (line_here ts) specs x.0 x.1) o ≡ after_specifiers r line specs ts
unfolding after_specifiers semicolon_behind
goes_on r line specs ts e o h = rw (e, h) refl

module _ (u v : Tables) (tokens : List Token) (r : Reads) (line at : ℕ) (specs : List NodeId) (nodes : All (λ n. Is u is_specifier n) specs) (keeps : Extends u v)
    (stands : after is_semicolon (drop at tokens) ≡ None) (answer : Option (NodeId × ℕ)) (a : Answers v is_declarator tokens answer (r MemberDeclarators (drop at tokens))) where
  pub specified_none : answer ≡ None → None ≡ after_specifiers r line (trees_of u.forest specs) (drop at tokens)
  specified_none e = goes_on r line (trees_of u.forest specs) (drop at tokens) stands None (got_none v is_declarator tokens answer _ a e)

  module _ (d : NodeId) (end : ℕ) (e : answer ≡ Some (d, end)) where
    from_declarator : after_declarator r line (line_here (drop at tokens)) (trees_of u.forest specs) (tree_at v.forest d) (drop end tokens)
        ≡ after_specifiers r line (trees_of u.forest specs) (drop at tokens)
    from_declarator = goes_on r line (trees_of u.forest specs) (drop at tokens) stands (Some (tree_at v.forest d, drop end tokens)) (got v is_declarator tokens answer _ d end a e).0

    pub specified_head : opens_block (drop end tokens) ≡ true
        → made_of (Parameter line) (trees_of v.forest specs) (part_if_any (drop at tokens) (piece_from v.forest tokens (Some (d, end)))) ≡ after_specifiers r line (trees_of u.forest specs) (drop at tokens)
    unfolding after_declarator
    specified_head b =
        ap (λ (x : Trees). made_of (Parameter line) x (Present (tree_at v.forest d), drop end tokens)) (trees_kept is_specifier u v keeps specs nodes)
        ∙ rw b at from_declarator

    module _ (b : opens_block (drop end tokens) ≡ false) (w : Tables) (first : NodeId) (behind : ℕ)
        (one : ◌≡◌ {A = Piece} (Some (tree_at w.forest first, drop behind tokens)) (Some (declarator_and_value r (line_here (drop at tokens)) (tree_at v.forest d) (drop end tokens))))
        (x : Tables) (grows : Extends u x) (ns : List NodeId) (last : ℕ)
        (all : AreAnswered x is_declaration tokens ns last (row (after_comma (r InitDeclarators)) (Then NoTrees (tree_at w.forest first)) (drop behind tokens))) where
      from_first : (y : Tree × List Token) → ◌≡◌ {A = Tree × List Token} (tree_at w.forest first, drop behind tokens) y
          → ◌≡◌ {A = Trees × List Token} (trees_of x.forest ns, drop last tokens) (row (after_comma (r InitDeclarators)) (Then NoTrees y.0) y.1)
      from_first y h = all.is ∙ ap (λ (z : Tree × List Token). row (after_comma (r InitDeclarators)) (Then NoTrees z.0) z.1) h

      pub specified_list : semicolon_behind (Declaration line (trees_of x.forest specs) (trees_of x.forest ns)) (drop last tokens) ≡ after_specifiers r line (trees_of u.forest specs) (drop at tokens)
      unfolding after_declarator behind_declarators
      specified_list =
          let y = declarator_and_value r (line_here (drop at tokens)) (tree_at v.forest d) (drop end tokens) in
          let same : ◌≡◌ {A = Tree × List Token} (tree_at w.forest first, drop behind tokens) y = some_is _ _ one in
          ap (λ (s : Trees). semicolon_behind (Declaration line s (trees_of x.forest ns)) (drop last tokens)) (trees_kept is_specifier u x grows specs nodes)
          ∙ ap (λ (z : Trees × List Token). semicolon_behind (Declaration line (trees_of u.forest specs) z.0) z.1) (from_first y same)
          ∙ rw b at from_declarator

-- ---- a declaration

pub declaration_zero : (names : Names) (depth : ℕ) (ts : List Token) → depth ≡ 0 → None ≡ declaration names depth ts
unfolding declaration
declaration_zero names depth ts e = rw e refl

declaration_by : (names : Names) (depth : ℕ) (ts : List Token) → 0 < depth
    → declaration_with (readers names (depth - 1)) (line_here ts) (row (readers names (depth - 1) Specifiers) NoTrees ts) ≡ declaration names depth ts
unfolding declaration
declaration_by names zero ts h = absurd (omega arith)
declaration_by names (suc depth) ts h = rw sub-one refl

module _ (names : Names) (depth : ℕ) (ts : List Token) (positive : 0 < depth) (v : Tables) (tokens : List Token) (specs : List NodeId) (next : ℕ)
    (a : AreAnswered v is_specifier tokens specs next (row (readers names (depth - 1) Specifiers) NoTrees ts)) where
  pub declaration_none_by : (length specs == 0) ≡ true → None ≡ declaration names depth ts
  unfolding declaration_with
  declaration_none_by e = rw (← declaration_by names depth ts positive, ← a.is, none_of v.forest specs e) refl

  pub declaration_some_by : (length specs == 0) ≡ false
      → after_specifiers (readers names (depth - 1)) (line_here ts) (trees_of v.forest specs) (drop next tokens) ≡ declaration names depth ts
  unfolding declaration_with
  declaration_some_by e = rw (← declaration_by names depth ts positive, ← a.is, some_of v.forest specs e) refl

-- ---- a type name

module _ (names : Names) (depth : ℕ) (ts : List Token) (v : Tables) (tokens : List Token) (specs : List NodeId) (next : ℕ)
    (a : AreAnswered v is_specifier tokens specs next (row (readers names depth Specifiers) NoTrees ts)) where
  pub type_name_none_by : (length specs == 0) ≡ true → None ≡ type_name names depth ts
  unfolding type_name behind_specifiers
  type_name_none_by e = rw (← a.is, none_of v.forest specs e) refl

  pub type_name_some_by : (length specs == 0) ≡ false → (w : Tables) → Extends v w → (answer : Option (NodeId × ℕ)) → Answers w is_declarator tokens answer (readers names depth AbstractDeclarators (drop next tokens))
      → made_of (TypeName (line_here ts)) (trees_of w.forest specs) (part_if_any (drop next tokens) (piece_from w.forest tokens answer)) ≡ type_name names depth ts
  unfolding type_name behind_specifiers
  type_name_some_by e w keeps answer b =
      rw (← a.is, some_of v.forest specs e, ← b.is)
      (ap (λ (x : Trees). made_of (TypeName (line_here ts)) x (part_if_any (drop next tokens) (piece_from w.forest tokens answer))) (trees_kept is_specifier v w keeps specs a.there))

-- ---- under the names as the clauses have them

module _ {S : Type 0} (typedefs : IndexSet ℕ S) (types : TypeMap) (u v : Tables) (tokens : List Token) (at deep : ℕ) (tied : AreTied types u tokens) (place : at ≤ length tokens)
    (r : Option (NodeId × ℕ)) (a : Answers v is_declaration tokens r (declaration (names_in typedefs types u tokens) deep (drop at tokens))) where
  pub found : IsSpelled (SpellsDeclaration (names_in typedefs types u tokens) deep tokens at) (Is v is_declaration) (declaration_at v.forest) tokens at r
  unfolding names_in
  found = declaration_found (contains nat_eq typedefs) types u v tokens at deep tied place r a

  pub longest : IsLongest (SpellsDeclaration (names_in typedefs types u tokens) deep tokens at) tokens at r
  unfolding names_in
  longest = declaration_longest (contains nat_eq typedefs) types u v tokens at deep tied place r a

  pub only : IsOnly (SpellsDeclaration (names_in typedefs types u tokens) deep tokens at) (declaration_at v.forest) r
  unfolding names_in
  only = declaration_only (contains nat_eq typedefs) types u v tokens at deep tied place r a

  pub none : r ≡ None → NothingSpells (SpellsDeclaration (names_in typedefs types u tokens) deep tokens at) tokens at
  unfolding names_in
  none = declaration_none (contains nat_eq typedefs) types u v tokens at deep tied place r a

-- what is promised is what reading gives
module _ {S E : Type 0} (typedefs : IndexSet ℕ S) (types : TypeMap) (u v : Tables) (tokens : List Token) (at deep : ℕ) (tied : AreTied types u tokens) (place : at ≤ length tokens) where
  pub is_read : (result : Result (Option (NodeId × ℕ)) E)
      → IfOk result (λ r. IsSpelled (SpellsDeclaration (names_in typedefs types u tokens) deep tokens at) (Is v is_declaration) (declaration_at v.forest) tokens at r)
      → IfOk result (λ r. IsLongest (SpellsDeclaration (names_in typedefs types u tokens) deep tokens at) tokens at r)
      → IfOk result (λ r. r ≡ None → NothingSpells (SpellsDeclaration (names_in typedefs types u tokens) deep tokens at) tokens at)
      → IfOk result (λ r. Answers v is_declaration tokens r (declaration (names_in typedefs types u tokens) deep (drop at tokens)))
  unfolding names_in
  is_read (Ok r) f l n = declaration_read (contains nat_eq typedefs) types u v tokens at deep tied place r f l n
  is_read (Err e) f l n = tt
