-- The typedef names that an external declaration adds, node by node (6.7.8p3).
use Rattle.std.proofs.Common.{◌≡◌, ◌<◌, ◌≤◌, ◌+◌, ◌||◌, ℕ, Bool, true, false, List, [], ◌∷◌, length, drop, get_or, refl, sym, ap, ◌∙◌}
use Rattle.std.specs.List.{fold}
use Rattle.std.proofs.lemmas.List.{drop_more, drop_all}
use Rattle.pv_tree.specs.declared.nodes.NodeId.{NodeId}
use Rattle.pv_tree.specs.Syntax.{InitDeclarator, Tree, OfDeclaration, Trees, NoTrees, Then}
use Rattle.pv_tree.specs.Tables.{Forest, tree_at, trees_of}
use Rattle.pv_tree.specs.Units.{is_typedef, has_typedef, any_declares}
use Rattle.pv_stmt_forms.specs.Names.{declares_one}

or_assoc : (a b c : Bool) → ((a || b) || c) ≡ (a || (b || c))
or_assoc true b c = refl
or_assoc false b c = refl

pub or_false : (a : Bool) → (a || false) ≡ a
or_false true = refl
or_false false = refl

-- ---- `typedef` among specifiers, from the first one on

abbrev pub any_typedef : Forest → List NodeId → Bool
any_typedef f [] = false
any_typedef f (n ∷ ns) = is_typedef (tree_at f n) || any_typedef f ns

typedef_behind : (f : Forest) (before : Trees) (ns : List NodeId) → has_typedef (fold (λ b n. Then b (tree_at f n)) before ns) ≡ (has_typedef before || any_typedef f ns)
typedef_behind f before [] = sym (or_false (has_typedef before))
typedef_behind f before (n ∷ ns) = typedef_behind f (Then before (tree_at f n)) ns ∙ or_assoc (has_typedef before) (is_typedef (tree_at f n)) (any_typedef f ns)

pub typedef_among : (f : Forest) (ns : List NodeId) → has_typedef (trees_of f ns) ≡ any_typedef f ns
typedef_among f ns = typedef_behind f NoTrees ns

-- one of them is
pub typedef_here : (f : Forest) (ns : List NodeId) (i : ℕ) (d : NodeId) → i < length ns → is_typedef (tree_at f (get_or ns i d)) ≡ true → any_typedef f (drop i ns) ≡ any_typedef f ns
    → has_typedef (trees_of f ns) ≡ true
typedef_here f ns i d lt e same =
    typedef_among f ns ∙ sym same ∙ ap (any_typedef f) (drop_more ns i d lt) ∙ ap (λ (b : Bool). b || any_typedef f (drop (i + 1) ns)) e

-- none of them is
pub typedef_nowhere : (f : Forest) (ns : List NodeId) (i : ℕ) → length ns ≤ i → any_typedef f (drop i ns) ≡ any_typedef f ns → has_typedef (trees_of f ns) ≡ false
typedef_nowhere f ns i le same = typedef_among f ns ∙ sym same ∙ ap (any_typedef f) (drop_all i ns le)

-- ---- names of init-declarators, from the first one on

abbrev pub any_named : Forest → List NodeId → ℕ → Bool
any_named f [] m = false
any_named f (n ∷ ns) m = declares_one (tree_at f n) m || any_named f ns m

one_more : (before : Trees) (t : Tree) (m : ℕ) → any_declares (Then before t) m ≡ (any_declares before m || declares_one t m)
one_more before (OfDeclaration (InitDeclarator line declarator init)) m = refl
one_more before _ m = sym (or_false (any_declares before m))

names_behind : (f : Forest) (before : Trees) (ns : List NodeId) (m : ℕ) → any_declares (fold (λ b n. Then b (tree_at f n)) before ns) m ≡ (any_declares before m || any_named f ns m)
names_behind f before [] m = sym (or_false (any_declares before m))
names_behind f before (n ∷ ns) m =
    names_behind f (Then before (tree_at f n)) ns m
    ∙ ap (λ (b : Bool). b || any_named f ns m) (one_more before (tree_at f n) m)
    ∙ or_assoc (any_declares before m) (declares_one (tree_at f n) m) (any_named f ns m)

pub names_among : (f : Forest) (ns : List NodeId) (m : ℕ) → any_declares (trees_of f ns) m ≡ any_named f ns m
names_among f ns m = names_behind f NoTrees ns m

-- all are added
pub names_end : (f : Forest) (ns : List NodeId) (i : ℕ) (old new : Bool) (m : ℕ) → length ns ≤ i → (new || any_named f (drop i ns) m) ≡ (old || any_named f ns m)
    → new ≡ (old || any_declares (trees_of f ns) m)
names_end f ns i old new m le same =
    sym (or_false new) ∙ ap (λ (xs : List NodeId). new || any_named f xs m) (sym (drop_all i ns le)) ∙ same ∙ ap (λ (b : Bool). old || b) (sym (names_among f ns m))
