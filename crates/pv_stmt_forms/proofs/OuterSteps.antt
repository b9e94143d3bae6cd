-- External declarations: what the code reads is what reading on lists gives (6.9).
use Rattle.std.proofs.Common.{◌≡◌, ◌≤◌, ◌<◌, ◌+◌, ℕ, suc, Bool, true, false, List, [], ◌∷◌, ◌++◌, All, length, drop, map, get_or, Option, Some, None, option_and_then, refl, sym, ap, subst, ◌∙◌, arith, nat_eq}
use Rattle.std.specs.Prelude.{IfSome}
use Rattle.std.proofs.lemmas.List.{length-drop, length-map, append_assoc, append-nil, map-append, drop_all, drop_more}
use Rattle.std.proofs.lemmas.List.Elements.{All-push}
use Rattle.indexmap.specs.IndexSet.{IndexSet, contains}
use Rattle.pv_token.specs.declared.token_table.Token.{Token}
use Rattle.pv_tree.specs.declared.nodes.NodeId.{NodeId}
use Rattle.pv_tree.specs.declared.nodes.ListId.{ListId}
use Rattle.pv_tree.specs.declared.nodes.Decl.{Decl}
use Rattle.pv_tree.specs.declared.nodes.Decl.TheVariants as decl
use Rattle.pv_tree.specs.Syntax.{DeclarationTree, Function, Declaration, Parameter, DeclaratorTree, Tree, OfDeclaration, OfDeclarator, Trees, Present, is_external}
use Rattle.pv_tree.specs.Tables.{Forest, Tables, with_tree, with_external, as_declaration, as_declarator, tree_at, trees_of, trees_at, declaration_at, declarator_at, statement_at, is_declaration, is_declarator, is_specifier, is_statement, Has, HasOptional, HasList, Is, Extends}
use Rattle.pv_tree.specs.Nodes.{declaration_of}
use Rattle.pv_tree.specs.Spells.{Names}
use Rattle.pv_tree.specs.TypeNames.{TypeMap, names_of, type_seen, AreTied}
use Rattle.pv_tree.specs.Units.{depth_limit, no_types, with_types, SpellUnit, IsWhole}
use Rattle.pv_tree.proofs.Kept.{tree_kept, list_kept, is_kept}
use Rattle.pv_expr_forms.specs.Known.{names_in}
use Rattle.pv_expr_forms.proofs.Naming.{names_kept}
use Rattle.pv_decl_forms.specs.Answers.{IsThere, Answers}
use Rattle.pv_decl_forms.specs.Pieces.{Piece}
use Rattle.pv_decl_forms.specs.Reader.{declaration}
use Rattle.pv_decl_forms.specs.TypeNames.{AreTypeNames}
use Rattle.pv_decl_forms.proofs.Answered.{got, got_none, added, nothing}
use Rattle.pv_decl_forms.proofs.Loops.{trees_kept}
use Rattle.pv_stmt_forms.specs.Statements.{statement}
use Rattle.pv_stmt_forms.specs.Externals.{with_block, external, external_at, units_on, units}
use Rattle.pv_stmt_forms.specs.Found.{function_with, IsExternalAt}
use Rattle.pv_stmt_forms.specs.Units.{externals_of}
use Rattle.pv_stmt_forms.proofs.OuterParts.{found_by_part, none_by_all, external_less, units_step, unit_spelled, unit_only, unit_none, unit_whole}

-- ---- a node of a kind

pub declarator_is : (t : Tree) → is_declarator t ≡ true → t ≡ OfDeclarator (as_declarator t)
declarator_is (OfDeclarator d) e = refl
declarator_is _ e = absurd cc

pub list_trees_kept : (u v : Tables) (kind : Tree → Bool) (l : ListId) → Extends u v → HasList u.forest (length u.forest.trees) kind l → trees_at v.forest l ≡ trees_at u.forest l
list_trees_kept u v kind l e h = ap (trees_of v.forest) (list_kept u v l e h.0) ∙ trees_kept kind u v e _ h.1

pub declarator_kept : (u v : Tables) (n : NodeId) → Extends u v → n.0 < length u.forest.trees → declarator_at v.forest n ≡ declarator_at u.forest n
declarator_kept u v n e lt = ap as_declarator (tree_kept u v n e lt)

pub declaration_kept : (u v : Tables) (n : NodeId) → Extends u v → n.0 < length u.forest.trees → declaration_at v.forest n ≡ declaration_at u.forest n
declaration_kept u v n e lt = ap as_declaration (tree_kept u v n e lt)

-- ---- a declaration, or a function definition

external_by : (names : Names) (ts : List Token) (o : Piece) → o ≡ declaration names 500 ts → external names depth_limit ts ≡ option_and_then (λ x. with_block names 499 x.0 x.1) o
unfolding depth_limit external
external_by names ts o e = ap (option_and_then (λ x. with_block names 499 x.0 x.1)) (sym e)

pub external_none : (names : Names) (ts : List Token) → None ≡ declaration names 500 ts → None ≡ external names depth_limit ts
external_none names ts e = sym (external_by names ts None e)

pub external_declared : (names : Names) (ts : List Token) (t : Tree) (rest : List Token) (line : ℕ) (specs declared : Trees) → Some (t, rest) ≡ declaration names 500 ts
    → t ≡ OfDeclaration (Declaration line specs declared) → Some (t, rest) ≡ external names depth_limit ts
unfolding with_block
external_declared names ts t rest line specs declared e is =
    let a : external names depth_limit ts ≡ with_block names 499 t rest = external_by names ts (Some (t, rest)) e in
    ap (λ (x : Tree). Some (x, rest)) is ∙ sym (a ∙ ap (λ (x : Tree). with_block names 499 x rest) is)

pub external_headed : (names : Names) (ts : List Token) (t : Tree) (rest : List Token) (line : ℕ) (specs : Trees) (d : Tree) → Some (t, rest) ≡ declaration names 500 ts
    → t ≡ OfDeclaration (Parameter line specs (Present d)) → is_declarator d ≡ true
    → function_with line specs (as_declarator d) (statement names 499 rest) ≡ external names depth_limit ts
unfolding with_block
external_headed names ts t rest line specs d e is kind =
    let a : external names depth_limit ts ≡ with_block names 499 t rest = external_by names ts (Some (t, rest)) e in
    let whole : t ≡ OfDeclaration (Parameter line specs (Present (OfDeclarator (as_declarator d)))) = is ∙ ap (λ (x : Tree). OfDeclaration (Parameter line specs (Present x))) (declarator_is d kind) in
    sym (a ∙ ap (λ (x : Tree). with_block names 499 x rest) whole)

-- what is neither
abbrev pub is_outer : Decl → Bool
is_outer (decl.Declaration specs declared) = true
is_outer (decl.Parameter specs (Some d)) = true
is_outer _ = false

pub not_outer : (d : Decl) → ((specs declared : ListId) → d ≡ decl.Declaration specs declared → ⊥) → ((specs : ListId) (o : Option NodeId) → d ≡ decl.Parameter specs o → ⊥) → is_outer d ≡ false
not_outer (decl.Declaration specs declared) n p = absurd (n specs declared refl)
not_outer (decl.Parameter specs o) n p = absurd (p specs o refl)
not_outer _ n p = refl

no_block : (names : Names) (f : Forest) (line : ℕ) (d : Decl) (rest : List Token) → is_outer d ≡ false → with_block names 499 (OfDeclaration (declaration_of f line d)) rest ≡ None
unfolding with_block
no_block names f line (decl.Declaration specs declared) rest e = absurd cc
no_block names f line (decl.Parameter specs (Some d)) rest e = absurd cc
no_block names f line (decl.Parameter specs None) rest e = refl
no_block names f line _ rest e = refl

pub external_other : (names : Names) (ts : List Token) (t : Tree) (rest : List Token) (f : Forest) (line : ℕ) (d : Decl) → Some (t, rest) ≡ declaration names 500 ts
    → t ≡ OfDeclaration (declaration_of f line d) → is_outer d ≡ false → None ≡ external names depth_limit ts
external_other names ts t rest f line d e is other =
    let a : external names depth_limit ts ≡ with_block names 499 t rest = external_by names ts (Some (t, rest)) e in
    sym (a ∙ ap (λ (x : Tree). with_block names 499 x rest) is ∙ no_block names f line d rest other)

-- the head of a function, in the words of a unit that has grown
module _ {S : Type 0} (typedefs : IndexSet ℕ S) (types : TypeMap) (u v : Tables) (tokens : List Token) (tied : AreTied types u tokens) (keeps : Extends u v) (at : ℕ)
    (answer : Option (NodeId × ℕ)) (a : Answers v is_declaration tokens answer (declaration (names_in typedefs types u tokens) 500 (drop at tokens))) where
  pub head_none : answer ≡ None → Answers v is_external tokens None (external (names_in typedefs types u tokens) depth_limit (drop at tokens))
  head_none e = nothing v is_external tokens _ (external_none (names_in typedefs types u tokens) (drop at tokens) (got_none v is_declaration tokens answer _ a e))

  module _ (head : NodeId) (next : ℕ) (is : answer ≡ Some (head, next)) where
    pub head_declared : (line : ℕ) (specs declared : ListId) → tree_at v.forest head ≡ OfDeclaration (declaration_of v.forest line (decl.Declaration specs declared))
        → Answers v is_external tokens (Some (head, next)) (external (names_in typedefs types u tokens) depth_limit (drop at tokens))
    head_declared line specs declared e =
        let g = got v is_declaration tokens answer _ head next a is in
        record {
          is = external_declared (names_in typedefs types u tokens) (drop at tokens) (tree_at v.forest head) (drop next tokens) line (trees_at v.forest specs) (trees_at v.forest declared) g.0 e;
          there = ((g.1.0, ap is_external e), g.2);
        }

    pub head_reads : (line same : ℕ) (specs : ListId) (found : Option NodeId) (d : NodeId) (count : ℕ) → tree_at v.forest head ≡ OfDeclaration (declaration_of v.forest same (decl.Parameter specs found))
        → HasOptional v.forest count is_declarator found → found ≡ Some d → line ≡ same
        → function_with line (trees_at v.forest specs) (declarator_at v.forest d) (statement (names_in typedefs types v tokens) 499 (drop next tokens)) ≡ external (names_in typedefs types u tokens) depth_limit (drop at tokens)
    head_reads line same specs found d count e has some l =
        let g = got v is_declaration tokens answer _ head next a is in
        let e' : tree_at v.forest head ≡ OfDeclaration (Parameter same (trees_at v.forest specs) (Present (tree_at v.forest d))) =
        e ∙ ap (λ (o : Option NodeId). OfDeclaration (declaration_of v.forest same (decl.Parameter specs o))) some in
        let kind : Has v.forest count is_declarator d = subst (HasOptional v.forest count is_declarator) some has in
        ap (λ (k : ℕ). function_with k (trees_at v.forest specs) (declarator_at v.forest d) (statement (names_in typedefs types v tokens) 499 (drop next tokens))) l
        ∙ ap (λ (n : Names). function_with same (trees_at v.forest specs) (declarator_at v.forest d) (statement n 499 (drop next tokens))) (names_kept typedefs types u v tokens tied keeps)
        ∙ external_headed (names_in typedefs types u tokens) (drop at tokens) (tree_at v.forest head) (drop next tokens) same (trees_at v.forest specs) (tree_at v.forest d) g.0 e' kind.1

    pub head_abstract : (same : ℕ) (specs : ListId) (found : Option NodeId) → tree_at v.forest head ≡ OfDeclaration (declaration_of v.forest same (decl.Parameter specs found)) → found ≡ None
        → Answers v is_external tokens None (external (names_in typedefs types u tokens) depth_limit (drop at tokens))
    head_abstract same specs found e none =
        let g = got v is_declaration tokens answer _ head next a is in
        let e' = e ∙ ap (λ (o : Option NodeId). OfDeclaration (declaration_of v.forest same (decl.Parameter specs o))) none in
        nothing v is_external tokens _ (external_other (names_in typedefs types u tokens) (drop at tokens) (tree_at v.forest head) (drop next tokens) v.forest same (decl.Parameter specs None) g.0 e' refl)

    pub head_other : (same : ℕ) (d : Decl) → tree_at v.forest head ≡ OfDeclaration (declaration_of v.forest same d) → is_outer d ≡ false
        → Answers v is_external tokens None (external (names_in typedefs types u tokens) depth_limit (drop at tokens))
    head_other same d e other =
        let g = got v is_declaration tokens answer _ head next a is in
        nothing v is_external tokens _ (external_other (names_in typedefs types u tokens) (drop at tokens) (tree_at v.forest head) (drop next tokens) v.forest same d g.0 e other)

-- ---- a function definition, whose block is read

module _ (u v w : Tables) (tokens : List Token) (line : ℕ) (specs : ListId) (declarator block function : NodeId) (end : ℕ) (keeps : Extends u v)
    (has_specs : HasList u.forest (length u.forest.trees) is_specifier specs) (has_declarator : Is u is_declarator declarator)
    (answer : Option (NodeId × ℕ)) (reading : Piece) (a : Answers v is_statement tokens answer reading) (is : answer ≡ Some (block, end)) where
  pub function_made : w ≡ with_tree v (OfDeclaration (declaration_of v.forest line (decl.Function specs declarator block))) → function.0 ≡ length v.forest.trees
      → Answers w is_external tokens (Some (function, end)) (function_with line (trees_at u.forest specs) (declarator_at u.forest declarator) reading)
  function_made made at =
      let g = got v is_statement tokens answer reading block end a is in
      let t = Function line (trees_at v.forest specs) (declarator_at v.forest declarator) (statement_at v.forest block) in
      let new = added v w is_external tokens (OfDeclaration t) function end made at refl g.2 in
      let same : t ≡ Function line (trees_at u.forest specs) (declarator_at u.forest declarator) (statement_at v.forest block) =
      ap (λ (x : Trees). Function line x (declarator_at v.forest declarator) (statement_at v.forest block)) (list_trees_kept u v is_specifier specs keeps has_specs)
      ∙ ap (λ (x : DeclaratorTree). Function line (trees_at u.forest specs) x (statement_at v.forest block)) (declarator_kept u v declarator keeps has_declarator.0) in
      record {
        is = new.is
            ∙ ap (λ (x : DeclarationTree). Some (OfDeclaration x, drop end tokens)) same
            ∙ ap (function_with line (trees_at u.forest specs) (declarator_at u.forest declarator)) g.0;
        there = new.there;
      }

-- ---- with the type names of a part of the tokens

module _ {S : Type 0} (typedefs : IndexSet ℕ S) (types : TypeMap) (u v : Tables) (tokens : List Token) (at to : ℕ) (tied : AreTied types u tokens)
    (names : AreTypeNames (contains nat_eq typedefs) types u tokens depth_limit at to) (place : at ≤ length tokens) where
  part_is : (x : NodeId × ℕ) → Answers v is_external tokens (Some x) (external (names_of (contains nat_eq typedefs) types u.forest tokens) depth_limit (drop at tokens))
      → IsExternalAt v (contains nat_eq typedefs) tokens at (Some x)
  part_is x a = record {
    is = sym (found_by_part (contains nat_eq typedefs) types u tokens at at to tied names place (omega arith) (tree_at v.forest x.0) (drop x.1 tokens) (sym a.is));
    there = a.there;
  }

  pub part_found : (answer : Option (NodeId × ℕ)) → Answers v is_external tokens answer (external (names_in typedefs types u tokens) depth_limit (drop at tokens))
      → IfSome answer (λ x. IsExternalAt v (contains nat_eq typedefs) tokens at (Some x))
  unfolding names_in
  part_found None a = tt
  part_found (Some x) a = part_is x a

  pub part_none : length tokens ≤ to → (answer : Option (NodeId × ℕ)) → Answers v is_external tokens answer (external (names_in typedefs types u tokens) depth_limit (drop at tokens))
      → answer ≡ None → IsExternalAt v (contains nat_eq typedefs) tokens at None
  unfolding names_in
  part_none all None a e = record { is = sym (none_by_all (contains nat_eq typedefs) types u tokens at at to tied names place (omega arith) all (sym a.is)); there = tt }
  part_none all (Some x) a e = absurd cc

-- ---- external declarations in a row

pub externals_kept : (u v : Tables) → Extends u v → All (λ n. Is u is_external n) u.externals → externals_of v ≡ externals_of u
externals_kept u v e all =
    ap (λ (ns : List NodeId). map (λ n. declaration_at v.forest n) ns) (ap (λ (x : Tables). x.externals) e.is)
    ∙ declarations_kept u.externals all
  where
    declarations_kept : (ns : List NodeId) → All (λ n. Is u is_external n) ns → map (λ n. declaration_at v.forest n) ns ≡ map (λ n. declaration_at u.forest n) ns
    declarations_kept [] h = refl
    declarations_kept (n ∷ ns) h =
        ap (λ (d : DeclarationTree). d ∷ map (λ m. declaration_at v.forest m) ns) (declaration_kept u v n e (h 0 n (omega arith)).0)
        ∙ ap (λ (ds : List DeclarationTree). declaration_at u.forest n ∷ ds) (declarations_kept ns (λ k d lt. h (suc k) d (omega (arith, lt))))

externals_there : (u v : Tables) → Extends u v → All (λ n. Is u is_external n) u.externals → All (λ n. Is v is_external n) v.externals
externals_there u v e all = subst (All (λ n. Is v is_external n)) (sym (ap (λ (x : Tables). x.externals) e.is)) (λ k d lt. is_kept u v is_external _ e (all k d lt))

-- those that are read, and what reading goes on to from here, are all
pub record ReadSoFar (u : Tables) (is_type : ℕ → Bool) (tokens : List Token) (at : ℕ) : Type 0 where
  pub place : at ≤ length tokens
  pub there : All (λ n. Is u is_external n) u.externals
  pub same : ◌≡◌ {A = List DeclarationTree × List Token} (externals_of u ++ (units is_type (drop at tokens)).0, (units is_type (drop at tokens)).1) (units no_types tokens)

module _ (u v : Tables) (is_type : ℕ → Bool) (tokens : List Token) (at : ℕ) (s : ReadSoFar u is_type tokens at) (keeps : Extends u v)
    (answer : Option (NodeId × ℕ)) (a : IsExternalAt v is_type tokens at answer) where
  -- there is none any more
  pub read_ends : answer ≡ None → ◌≡◌ {A = List DeclarationTree × List Token} (externals_of v, drop at tokens) (units no_types tokens)
  read_ends e =
      let none : None ≡ external_at is_type (drop at tokens) = ap (type_seen v.forest tokens) (sym e) ∙ a.is in
      let left : units is_type (drop at tokens) ≡ ([], drop at tokens) = units_step is_type (drop at tokens) ∙ ap (units_on units is_type (drop at tokens)) (sym none) in
      ap (λ (ds : List DeclarationTree). let y : List DeclarationTree × List Token = (ds, drop at tokens) in y) (externals_kept u v keeps s.there ∙ sym (append-nil (externals_of u)))
      ∙ ap (λ (x : List DeclarationTree × List Token). let y : List DeclarationTree × List Token = (externals_of u ++ x.0, x.1) in y) (sym left)
      ∙ s.same

  module _ (n : NodeId) (end : ℕ) (e : answer ≡ Some (n, end)) where
    one_is : Some (declaration_at v.forest n, drop end tokens) ≡ external_at is_type (drop at tokens)
    one_is = ap (type_seen v.forest tokens) (sym e) ∙ a.is

    pub one_there : Is v is_external n × (end ≤ length tokens)
    one_there = subst (IsThere v is_external tokens) e a.there

    pub read_forward : at < end
    read_forward =
        let less = external_less is_type (drop at tokens) (declaration_at v.forest n) (drop end tokens) (sym one_is) in
        omega (arith, less, length-drop at tokens, length-drop end tokens, s.place, one_there.1)

    -- one more
    pub read_goes : (w : Tables) (more : ℕ → Bool) → w ≡ with_external v n → ((m : ℕ) → more m ≡ with_types is_type (declaration_at w.forest n) m) → ReadSoFar w more tokens end
    read_goes w more made grown =
        let d = declaration_at v.forest n in
        let here : declaration_at w.forest n ≡ d = ap (λ (x : Tables). declaration_at x.forest n) made in
        let types : more ≡ with_types is_type d = λ i m. (grown m ∙ ap (λ (y : DeclarationTree). with_types is_type y m) here) i in
        let others = units (with_types is_type d) (drop end tokens) in
        let step : units is_type (drop at tokens) ≡ (d ∷ others.0, others.1) = units_step is_type (drop at tokens) ∙ ap (units_on units is_type (drop at tokens)) (sym one_is) in
        let all : externals_of w ≡ externals_of u ++ (d ∷ []) =
        ap externals_of made ∙ map-append (λ k. declaration_at v.forest k) v.externals (n ∷ []) ∙ ap (λ (ds : List DeclarationTree). ds ++ (d ∷ [])) (externals_kept u v keeps s.there) in
        record {
          place = one_there.1;
          there = rw made (All-push (λ k. Is v is_external k) v.externals n (externals_there u v keeps s.there) one_there.0);
          same =
              ap (λ (ds : List DeclarationTree). let y : List DeclarationTree × List Token = (ds ++ (units more (drop end tokens)).0, (units more (drop end tokens)).1) in y) all
              ∙ ap (λ (p : ℕ → Bool). let y : List DeclarationTree × List Token = ((externals_of u ++ (d ∷ [])) ++ (units p (drop end tokens)).0, (units p (drop end tokens)).1) in y) types
              ∙ ap (λ (ds : List DeclarationTree). let y : List DeclarationTree × List Token = (ds, others.1) in y) (append_assoc (externals_of u) (d ∷ []) others.0)
              ∙ ap (λ (x : List DeclarationTree × List Token). let y : List DeclarationTree × List Token = (externals_of u ++ x.0, x.1) in y) (sym step)
              ∙ s.same;
        }

-- ---- the unit

tokens_there : (at : ℕ) (tokens : List Token) → at < length tokens → (t : Token) × (ts : List Token) × (drop at tokens ≡ t ∷ ts)
tokens_there at [] lt = absurd (omega (arith, lt))
tokens_there at (t ∷ ts) lt = (get_or (t ∷ ts) at t, drop (at + 1) (t ∷ ts), drop_more (t ∷ ts) at t lt)

module _ (u : Tables) (tokens : List Token) (end : ℕ) (reads : ◌≡◌ {A = List DeclarationTree × List Token} (externals_of u, drop end tokens) (units no_types tokens)) where
  all_read : length tokens ≤ end → ◌≡◌ {A = List DeclarationTree × List Token} (externals_of u, []) (units no_types tokens)
  all_read le = ap (λ (ts : List Token). let y : List DeclarationTree × List Token = (externals_of u, ts) in y) (sym (drop_all end tokens le)) ∙ reads

  pub spelled_by : length tokens ≤ end → SpellUnit tokens (externals_of u)
  spelled_by le = unit_spelled tokens (externals_of u) (all_read le)

  pub only_by : length tokens ≤ end → (ds : List DeclarationTree) → SpellUnit tokens ds → ds ≡ externals_of u
  only_by le ds s = unit_only tokens (externals_of u) ds (all_read le) s

  pub refused_by : end < length tokens → (count whole : ℕ) → count ≡ length u.externals → count ≡ whole → ((ds : List DeclarationTree) → SpellUnit tokens ds → ⊥) × IsWhole tokens whole
  refused_by lt count whole is same =
      let t = tokens_there end tokens lt in
      let left : ◌≡◌ {A = List DeclarationTree × List Token} (externals_of u, t.0 ∷ t.1) (units no_types tokens) =
      ap (λ (ts : List Token). let y : List DeclarationTree × List Token = (externals_of u, ts) in y) (sym t.2) ∙ reads in
      let long : length (externals_of u) ≡ whole = length-map u.externals (λ n. declaration_at u.forest n) ∙ sym is ∙ same in
      (λ ds s. unit_none tokens (externals_of u) t.0 t.1 left ds s, subst (IsWhole tokens) long (unit_whole tokens (externals_of u) t.0 t.1 left))
