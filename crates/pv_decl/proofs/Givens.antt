-- What is given stays given as a unit grows; and which list of parameters is read where it is known for the greatest depth.
use Rattle.std.proofs.Common.{◌≡◌, ◌≤◌, ◌<◌, ℕ, suc, Bool, true, false, List, ◌++◌, [], ◌∷◌, length, drop, Option, Some, None, nat_eq, refl, sym, ap, ◌∙◌, arith, inl, inr}
use Rattle.std.proofs.lemmas.Bool.Decides.{leb_tells}
use Rattle.indexmap.specs.IndexSet.{IndexSet, contains}
use Rattle.pv_token.specs.declared.token_table.Token.{Token}
use Rattle.pv_token.specs.declared.token_table.TokenKind.TheVariants as kind
use Rattle.pv_token.specs.declared.marks.Mark.TheVariants as mark
use Rattle.pv_tree.specs.declared.nodes.Declarator.{Declarator}
use Rattle.pv_tree.specs.declared.nodes.Declarator.TheVariants as declarator_node
use Rattle.pv_tree.specs.declared.nodes.ListId.{ListId}
use Rattle.pv_tree.specs.declared.nodes.NodeId.{NodeId}
use Rattle.pv_tree.specs.Depths.{tree_depth, trees_depth}
use Rattle.pv_tree.specs.Fitting.{ListFits}
use Rattle.pv_tree.specs.Spells.{Names, Fits}
use Rattle.pv_tree.specs.Nodes.{declarator_of}
use Rattle.pv_tree.specs.Places.{Parameters, may_be_variadic}
use Rattle.pv_tree.specs.Spelling.{listed_tokens, variadic_tokens}
use Rattle.pv_tree.specs.Syntax.{AbstractFunction, Tree, OfDeclarator, Trees, NoTrees, Absent}
use Rattle.pv_tree.specs.Tables.{Forest, Tables, tree_at, is_declarator, HasList, Extends}
use Rattle.pv_tree.specs.TypeNames.{TypeMap, AreTied}
use Rattle.pv_tree.specs.Units.{depth_limit}
use Rattle.pv_tree.proofs.Kept.{tree_kept, is_kept}
use Rattle.pv_expr_forms.specs.Known.{names_in}
use Rattle.pv_expr_forms.proofs.Naming.{tied_kept, names_kept}
use Rattle.pv_expr_forms.proofs.Heads.{IsSpelled}
use Rattle.pv_expr_forms.proofs.Runs.{Takes}
use Rattle.pv_expr_forms.proofs.Spans.{IsEnd, names_spelled, at_end}
use Rattle.pv_expr_forms.proofs.Steps.{some_is}
use Rattle.pv_decl.specs.declared.lists.ParameterLists.{ParameterLists}
use Rattle.pv_decl_forms.specs.Answers.{Answers}
use Rattle.pv_decl_forms.specs.Declarators.{parameters_behind}
use Rattle.pv_decl.specs.Filled.{list_map}
use Rattle.pv_decl_forms.specs.Givens.{AreGiven, parameter_list}
use Rattle.pv_decl_forms.specs.Parts.{function_of}
use Rattle.pv_decl_forms.specs.Pieces.{Piece}
use Rattle.pv_decl_forms.specs.Reader.{readers}
use Rattle.pv_decl_forms.proofs.Answered.{got, got_none}
use Rattle.pv_decl_forms.proofs.Closings.{parametrized_exact}
use Rattle.pv_decl_forms.proofs.Everywhere.{readers_exact}
use Rattle.pv_decl.proofs.Held.{filled_beyond, filled_before}
use Rattle.pv_decl_forms.proofs.Goods.{Parametered, parametrized_good, comma_shortens}
use Rattle.pv_decl_forms.proofs.Sound.{readers_sound}

-- ---- what is given

-- an answer of a unit that grows
pub answer_kept : (u v : Tables) (tokens : List Token) (o : Option (NodeId × ℕ)) (a b : Piece) → Extends u v → a ≡ b → Answers u is_declarator tokens o a
    → Answers v is_declarator tokens o b
answer_kept u v tokens None a b e same k = record { is = k.is ∙ same; there = tt }
answer_kept u v tokens (Some x) a b e same k = record {
  is = ap (λ (t : Tree). let y : Piece = Some (t, drop x.1 tokens) in y) (tree_kept u v x.0 e k.there.0.0) ∙ k.is ∙ same;
  there = (is_kept u v is_declarator x.0 e k.there.0, k.there.1);
}

pub given_kept : {S : Type 0} (lists : ℕ → Option (Option (NodeId × ℕ))) (typedefs : IndexSet ℕ S) (types : TypeMap) (u v : Tables) (tokens : List Token)
    → AreGiven lists typedefs types u tokens → Extends u v → AreGiven lists typedefs types v tokens
given_kept lists typedefs types u v tokens g e = record {
  tied = tied_kept types u v tokens g.tied e;
  read = λ at o is.
      answer_kept u v tokens o (parameter_list (names_in typedefs types u tokens) depth_limit (drop at tokens)) (parameter_list (names_in typedefs types v tokens) depth_limit (drop at tokens)) e
      (ap (λ (n : Names). parameter_list n depth_limit (drop at tokens)) (sym (names_kept typedefs types u v tokens g.tied e))) (g.read at o is);
}

-- the greatest depth, in figures
pub limited : (names : Names) (here : List Token) (u : Tables) (tokens : List Token) (o : Option (NodeId × ℕ)) → Answers u is_declarator tokens o (parameter_list names 500 here)
    → Answers u is_declarator tokens o (parameter_list names depth_limit here)
unfolding depth_limit
limited names here u tokens o k = k

-- where nothing is known
pub given_tied : {S : Type 0} (lists : ℕ → Option (Option (NodeId × ℕ))) (typedefs : IndexSet ℕ S) (types : TypeMap) (u : Tables) (tokens : List Token)
    → ((at : ℕ) → lists at ≡ None) → AreTied types u tokens → AreGiven lists typedefs types u tokens
given_tied lists typedefs types u tokens none tied = record {
  tied = tied;
  read = λ at o is. let no : None ≡ Some o = sym (none at) ∙ is in absurd cc;
}

pub no_lists : (lists : ParameterLists) → lists.found ≡ [] → (at : ℕ) → list_map lists at ≡ None
no_lists lists e at = elim (leb_tells lists.to at) [
  | inl h ↦ filled_beyond lists.to lists.found at h.1
  | inr h ↦ filled_before lists.to lists.found at (omega (arith, h.1, ap length e))
]

-- a list whose members stand before a node of a unit is a list of the unit
pub list_below : (f : Forest) (kind : Tree → Bool) (n count : ℕ) (l : ListId) → n < count → HasList f n kind l → HasList f count kind l
list_below f kind n count l before h = (h.0, λ k d lt. let x = h.1 k d lt in (omega (arith, x.0, before), x.1))

-- ---- a list of parameters, for one depth and for another

abbrev pub parts_of : Tree → Trees
parts_of (OfDeclarator (AbstractFunction line d parameters variadic)) = parameters
parts_of _ = NoTrees

abbrev pub varies : Tree → Bool
varies (OfDeclarator (AbstractFunction line d parameters variadic)) = variadic
varies _ = false

module _ (names : Names) (K : List Token → Type 0) (spelled : IsSpelled names K) (make : Trees → Bool → Tree) (here : List Token) (known : K here) where
  list_good : (depth : ℕ) (a : Tree) (rest : List Token) → parameters_behind make (readers names depth) here ≡ Some (a, rest) → Parametered names depth here make a rest
  list_good depth a rest e = parametrized_good names K spelled depth (readers names depth) (readers_sound names K spelled depth) make here a rest known e

  list_exact : (depth : ℕ) (parameters : Trees) (variadic : Bool) (rest : List Token) → may_be_variadic parameters variadic ≡ true
      → ListFits names.is_type (Fits names) Parameters parameters here → trees_depth parameters ≤ depth
      → Takes ((listed_tokens parameters ++ variadic_tokens variadic) ++ kind.Mark mark.CloseParen ∷ []) here rest
      → parameters_behind make (readers names depth) here ≡ Some (make parameters variadic, rest)
  list_exact depth parameters variadic rest may f d h =
      let x = readers_exact names K spelled depth in
      parametrized_exact names K spelled depth (readers names depth) (x.exact Parameters refl) (x.shut Parameters) (comma_shortens names K spelled depth (readers names depth) x.sound Parameters)
      make parameters variadic here rest known may f d h

module _ (names : Names) (K : List Token → Type 0) (spelled : IsSpelled names K) (make : Trees → Bool → Tree) (here : List Token) (known : K here) (deep depth : ℕ) where
  -- one that is not too deep is read so, too
  list_shallow : (a : Tree) (rest : List Token) → parameter_list names deep here ≡ Some (a, rest) → tree_depth a ≤ suc depth
      → Some (make (parts_of a) (varies a), rest) ≡ parameters_behind make (readers names depth) here
  list_shallow a rest e d =
      let g = list_good names K spelled (function_of 0 Absent) here known deep a rest e in
      let parts : g.parameters ≡ parts_of a = ap parts_of g.is in
      let more : g.variadic ≡ varies a = ap varies g.is in
      let low : trees_depth g.parameters ≤ depth = omega (arith, ap tree_depth g.is, d) in
      ap (λ (p : Trees). let y : Piece = Some (make p (varies a), rest) in y) (sym parts)
      ∙ ap (λ (b : Bool). let y : Piece = Some (make g.parameters b, rest) in y) (sym more)
      ∙ sym (list_exact names K spelled make here known depth g.parameters g.variadic rest g.may g.fits low g.takes)

  -- what is read so is the one
  none_by : depth ≤ deep → ((a : Tree) (rest : List Token) → parameter_list names deep here ≡ Some (a, rest) → tree_depth a ≤ suc depth → ⊥)
      → (o : Piece) → parameters_behind make (readers names depth) here ≡ o → None ≡ o
  none_by low never None e = refl
  none_by low never (Some x) e =
      let g = list_good names K spelled make here known depth x.0 x.1 e in
      let there = list_exact names K spelled (function_of 0 Absent) here known deep g.parameters g.variadic x.1 g.may g.fits (omega (arith, g.shallow, low)) g.takes in
      absurd (never (function_of 0 Absent g.parameters g.variadic) x.1 there (omega (arith, g.shallow)))

  list_none : depth ≤ deep → parameter_list names deep here ≡ None → None ≡ parameters_behind make (readers names depth) here
  list_none low n =
      none_by low (λ a rest e d. let no : ◌≡◌ {A = Piece} None (Some (a, rest)) = sym n ∙ e in absurd cc) (parameters_behind make (readers names depth) here) refl

  list_deep : depth ≤ deep → (b : Tree) (end : List Token) → parameter_list names deep here ≡ Some (b, end) → suc depth < tree_depth b
      → None ≡ parameters_behind make (readers names depth) here
  list_deep low b end n high =
      none_by low (λ a rest e d.
      let same : b ≡ a = ap (λ (y : Tree × List Token). y.0) (some_is {A = Tree × List Token} (b, end) (a, rest) (sym n ∙ e)) in
      omega (arith, ap tree_depth same, high, d)) (parameters_behind make (readers names depth) here) refl

-- a node whose tree is an abstract function is one
pub is_function : (f : Forest) (line : ℕ) (x : Declarator) (parameters : Trees) (variadic : Bool)
    → ◌≡◌ {A = Tree} (OfDeclarator (declarator_of f line x)) (OfDeclarator (AbstractFunction 0 Absent parameters variadic))
    → (d : Option NodeId) × (l : ListId) × (v : Bool) × (x ≡ declarator_node.AbstractFunction d l v)
is_function f line (declarator_node.AbstractFunction d l v) parameters variadic e = (d, l, v, refl)
is_function f line _ parameters variadic e = absurd cc

-- ---- the list that is known of a place

limit_is : (n : ℕ) → n ≤ 500 → n ≤ depth_limit
unfolding depth_limit
limit_is n h = h

module _ {S : Type 0} (lists : ℕ → Option (Option (NodeId × ℕ))) (typedefs : IndexSet ℕ S) (types : TypeMap) (u : Tables) (tokens : List Token)
    (given : AreGiven lists typedefs types u tokens) (at : ℕ) (place : at ≤ length tokens) (o : Option (NodeId × ℕ)) (e : lists at ≡ Some o) where
  pub known_there : (n : NodeId) (end : ℕ) → o ≡ Some (n, end)
      → (Some (tree_at u.forest n, drop end tokens) ≡ parameter_list (names_in typedefs types u tokens) depth_limit (drop at tokens)) × (n.0 < length u.forest.trees × is_declarator (tree_at u.forest n) ≡ true) × (end ≤ length tokens)
  known_there n end is = got u is_declarator tokens o (parameter_list (names_in typedefs types u tokens) depth_limit (drop at tokens)) n end (given.read at o e) is

  module _ (make : Trees → Bool → Tree) (below : ℕ) (low : below ≤ 500) where
    pub known_none : o ≡ None → None ≡ parameters_behind make (readers (names_in typedefs types u tokens) below) (drop at tokens)
    unfolding names_in
    known_none is =
        list_none (names_in typedefs types u tokens) (IsEnd tokens) (names_spelled (contains nat_eq typedefs) types u tokens given.tied) make (drop at tokens) (at_end tokens at place) depth_limit below
        (limit_is below low) (sym (got_none u is_declarator tokens o (parameter_list (names_in typedefs types u tokens) depth_limit (drop at tokens)) (given.read at o e) is))

    pub known_deep : (n : NodeId) (end : ℕ) → o ≡ Some (n, end) → suc below < tree_depth (tree_at u.forest n)
        → None ≡ parameters_behind make (readers (names_in typedefs types u tokens) below) (drop at tokens)
    unfolding names_in
    known_deep n end is high =
        list_deep (names_in typedefs types u tokens) (IsEnd tokens) (names_spelled (contains nat_eq typedefs) types u tokens given.tied) make (drop at tokens) (at_end tokens at place) depth_limit below
        (limit_is below low) (tree_at u.forest n) (drop end tokens) (sym (known_there n end is).0) high

    pub known_shallow : (n : NodeId) (end : ℕ) → o ≡ Some (n, end) → tree_depth (tree_at u.forest n) ≤ suc below
        → Some (make (parts_of (tree_at u.forest n)) (varies (tree_at u.forest n)), drop end tokens) ≡ parameters_behind make (readers (names_in typedefs types u tokens) below) (drop at tokens)
    unfolding names_in
    known_shallow n end is d =
        list_shallow (names_in typedefs types u tokens) (IsEnd tokens) (names_spelled (contains nat_eq typedefs) types u tokens given.tied) make (drop at tokens) (at_end tokens at place) depth_limit below
        (tree_at u.forest n) (drop end tokens) (sym (known_there n end is).0) d

  -- it is an abstract function
  pub known_function : (n : NodeId) (end : ℕ) → o ≡ Some (n, end) → (parameters : Trees) × (variadic : Bool) × (tree_at u.forest n ≡ OfDeclarator (AbstractFunction 0 Absent parameters variadic))
  unfolding names_in
  known_function n end is =
      let g = list_good (names_in typedefs types u tokens) (IsEnd tokens) (names_spelled (contains nat_eq typedefs) types u tokens given.tied) (function_of 0 Absent) (drop at tokens) (at_end tokens at place) depth_limit
      (tree_at u.forest n) (drop end tokens) (sym (known_there n end is).0) in
      (g.parameters, g.variadic, sym g.is)
