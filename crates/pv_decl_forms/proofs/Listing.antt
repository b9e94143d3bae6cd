-- Parts that are made of lists of nodes.
use Rattle.std.proofs.Common.{◌≡◌, ◌<◌, ◌==◌, ℕ, Bool, true, false, List, [], ◌∷◌, length, Some, option_and_then, All, refl, sym, ap, subst, ◌∙◌, arith}
use Rattle.std.specs.List.{fold}
use Rattle.std.proofs.lemmas.Bool.{eqb-true}
use Rattle.std.proofs.lemmas.List.{length-append, get_or_push}
use Rattle.pv_token.specs.declared.token_table.Token.{Token}
use Rattle.pv_tree.specs.declared.nodes.NodeId.{NodeId}
use Rattle.pv_tree.specs.declared.nodes.ListId.{ListId}
use Rattle.pv_tree.specs.Syntax.{Declaration, MemberDeclaration, Tree, OfDeclaration, Trees, Then}
use Rattle.pv_tree.specs.Places.{some}
use Rattle.pv_tree.specs.Tables.{Forest, Tables, tree_at, trees_of, trees_at, with_list, HasList, Is}
use Rattle.pv_tree.proofs.Kept.{list_kept, extends_list, list_new, has_list_kept}
use Rattle.pv_expr_forms.proofs.Answered.{kept_list}
use Rattle.pv_expr_forms.specs.Reader.{is_close, is_comma, after}
use Rattle.pv_decl_forms.specs.Pieces.{is_ellipsis, is_close_brace, is_semicolon, found_in}
use Rattle.pv_decl_forms.specs.Declarators.{variadic_at, behind_parameters, with_parameters}
use Rattle.pv_decl_forms.specs.Reader.{brace_closed, listed_in_braces, row_in_braces, semicolon_behind, with_members}

-- ---- the trees of nodes that are kept as a list

pub list_made : (u v : Tables) (ns : List NodeId) (l : ListId) → v ≡ with_list u ns → l.0 ≡ length u.forest.lists → trees_at v.forest l ≡ trees_of u.forest ns
list_made u v ns l made at =
    ap (λ (x : Tables). trees_at x.forest l) made
    ∙ ap (λ (ms : List NodeId). trees_of u.forest ms) (get_or_push u.forest.lists ns [] l.0 (sym at))

-- another list is kept behind
pub list_before : (v w : Tables) (ms : List NodeId) (l : ListId) → w ≡ with_list v ms → l.0 < length v.forest.lists → trees_at w.forest l ≡ trees_at v.forest l
list_before v w ms l made lt =
    ap (λ (x : Tables). trees_at x.forest l) made
    ∙ ap (λ (ns : List NodeId). trees_of v.forest ns) (list_kept v (with_list v ms) l (extends_list v ms) lt)

-- ---- whether there are some

some_fold : (f : Forest) (before : Trees) (ns : List NodeId) → some before ≡ true → some (fold (λ b n. Then b (tree_at f n)) before ns) ≡ true
some_fold f before [] h = h
some_fold f before (n ∷ ns) h = some_fold f (Then before (tree_at f n)) ns refl

pub some_of : (f : Forest) (ns : List NodeId) → (length ns == 0) ≡ false → some (trees_of f ns) ≡ true
some_of f [] e = absurd cc
some_of f (n ∷ ns) e = some_fold f (Then _ (tree_at f n)) ns refl

pub none_of : (f : Forest) (ns : List NodeId) → (length ns == 0) ≡ true → some (trees_of f ns) ≡ false
none_of f [] e = refl
none_of f (n ∷ ns) e = absurd (omega (arith, eqb-true (length (n ∷ ns)) 0 e))

-- ---- what stands behind them

module _ (make : Trees → Bool → Tree) (f : Forest) (ns : List NodeId) (ts : List Token) where
  pub braces_close : (comma : Bool) (mid rest : List Token) (t : Tree) → (length ns == 0) ≡ false → ◌≡◌ {A = Bool × List Token} (comma, mid) (found_in (after is_comma ts) ts)
      → after is_close_brace mid ≡ Some rest → t ≡ make (trees_of f ns) comma → Some (t, rest) ≡ listed_in_braces make (trees_of f ns, ts)
  unfolding listed_in_braces brace_closed
  braces_close comma mid rest t s e a is = rw (some_of f ns s, ← e, a, is) refl

module _ (make : Trees → Tree) (f : Forest) (ns : List NodeId) (ts : List Token) where
  pub row_close : (rest : List Token) (t : Tree) → (length ns == 0) ≡ false → after is_close_brace ts ≡ Some rest → t ≡ make (trees_of f ns) → Some (t, rest) ≡ row_in_braces make (trees_of f ns, ts)
  unfolding row_in_braces
  row_close rest t s a is = rw (some_of f ns s, a, is) refl

-- ---- two lists that are kept, one behind the other

module _ (u v w : Tables) (ns ms : List NodeId) (i j : ListId) (one : v ≡ with_list u ns) (at : i.0 ≡ length u.forest.lists) (two : w ≡ with_list v ms) (then_at : j.0 ≡ length v.forest.lists) where
  longer_list : i.0 < length v.forest.lists
  longer_list = omega (arith, at, ap (λ (x : Tables). length x.forest.lists) one, length-append u.forest.lists (ns ∷ []))

  pub first_trees : trees_at w.forest i ≡ trees_of u.forest ns
  first_trees = list_before v w ms i two longer_list ∙ list_made u v ns i one at

  pub second_trees : trees_at w.forest j ≡ trees_of u.forest ms
  second_trees = list_made v w ms j two then_at ∙ ap (λ (x : Tables). trees_of x.forest ms) one

  pub first_has : (kind : Tree → Bool) → All (λ n. Is u kind n) ns → HasList w.forest (length w.forest.trees) kind i
  first_has kind all =
      let h : HasList v.forest (length v.forest.trees) kind i = subst (λ (x : Tables). HasList x.forest (length x.forest.trees) kind i) (sym one) (list_new u ns kind i at all) in
      has_list_kept v w kind i (kept_list v w ms two) h

  pub second_has : (kind : Tree → Bool) → All (λ n. Is u kind n) ms → HasList w.forest (length w.forest.trees) kind j
  second_has kind all =
      let all' : All (λ n. Is v kind n) ms = subst (λ (x : Tables). All (λ n. Is x kind n) ms) (sym one) all in
      subst (λ (x : Tables). HasList x.forest (length x.forest.trees) kind j) (sym two) (list_new v ms kind j then_at all')

-- a member declaration, whose parts are kept
pub members_so : (line : ℕ) (specs a b : Trees) (f : Forest) (ns : List NodeId) (ts rest : List Token) → (length ns == 0) ≡ false → after is_semicolon ts ≡ Some rest → a ≡ specs → b ≡ trees_of f ns
    → Some (OfDeclaration (MemberDeclaration line a b), rest) ≡ with_members line specs (trees_of f ns, ts)
unfolding with_members semicolon_behind
members_so line specs a b f ns ts rest s e p q = rw (some_of f ns s, e, p, q) refl

pub declaration_so : (line : ℕ) (specs declared a b : Trees) (ts rest : List Token) → after is_semicolon ts ≡ Some rest → a ≡ specs → b ≡ declared
    → Some (OfDeclaration (Declaration line a b), rest) ≡ semicolon_behind (Declaration line specs declared) ts
unfolding semicolon_behind
declaration_so line specs declared a b ts rest e p q = rw (e, p, q) refl

-- a function, whose parameters are kept
pub function_so : (make : Trees → Bool → Tree) (f : Forest) (ns : List NodeId) (ts mid rest : List Token) (variadic : Bool) (t : Tree)
    → ◌≡◌ {A = Bool × List Token} (variadic, mid) (variadic_at (trees_of f ns) ts) → after is_close mid ≡ Some rest → t ≡ make (trees_of f ns) variadic
    → Some (t, rest) ≡ with_parameters make (trees_of f ns, ts)
unfolding with_parameters behind_parameters
function_so make f ns ts mid rest variadic t e a is = rw (← e, a, is) refl

pub variadic_so : (f : Forest) (ns : List NodeId) (ts : List Token) (x : Bool × List Token) → (length ns == 0) ≡ false
    → x ≡ found_in (option_and_then (after is_ellipsis) (after is_comma ts)) ts → x ≡ variadic_at (trees_of f ns) ts
unfolding variadic_at
variadic_so f ns ts x s e = rw (some_of f ns s) e

-- nodes that are kept as a list
pub list_has : (u v : Tables) (ns : List NodeId) (l : ListId) (kind : Tree → Bool) → v ≡ with_list u ns → l.0 ≡ length u.forest.lists → All (λ n. Is u kind n) ns → HasList v.forest (length v.forest.trees) kind l
list_has u v ns l kind made at all = subst (λ (x : Tables). HasList x.forest (length x.forest.trees) kind l) (sym made) (list_new u ns kind l at all)
