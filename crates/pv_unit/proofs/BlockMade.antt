-- Statements that are added to the tables, and the objects that they declare.
use Rattle.std.proofs.Common.{◌≡◌, ℕ, zero, suc, true, false, ◌+◌, ◌-◌, ◌<◌, ◌≤◌, List, [], ◌∷◌, ◌++◌, Option, Some, None, map, take, length, get_or, append_assoc, refl, sym, ◌∙◌, ap, arith}
use Rattle.std.proofs.lemmas.List.{take_more, take-map, length-map}
use Rattle.pv_tree.specs.declared.nodes.NodeId.{NodeId}
use Rattle.pv_tree.specs.declared.nodes.ListId.{ListId}
use Rattle.pv_typed.specs.declared.nodes.TypedStmt.TheVariants as stmt
use Rattle.pv_typed.specs.Children.{HasKind, HasKinds, HasParts, list_if_any}
use Rattle.pv_typed.specs.Known.{Each}
use Rattle.pv_typed.specs.Formed.{AreObjects}
use Rattle.pv_typed.proofs.Each.{each_append}
use Rattle.pv_typed.specs.Nodes.{statements_in as trees_in, optional_in as trees_optional, statement_form, list_in}
use Rattle.pv_typed.specs.Tables.{Stored, nodes}
use Rattle.pv_typed.specs.NodeTrees.{list_at, statement_at, IsStatement}
use Rattle.pv_typed.specs.TypedStatement.{TypedStatement, Statements, MoreStatements, Declare, For, ForDeclaration, statements_of}
use Rattle.pv_types.specs.Known.{Known}
use Rattle.pv_check.specs.Raw.{Raw, RawScope, scope_shown, scopes_shown}
use Rattle.pv_check.specs.Scopes.{behind_scope}
use Rattle.pv_check.specs.Open.{state_of, Goes}
use Rattle.pv_unit.specs.declared.blocks.Reached.{Reached}
use Rattle.pv_unit.specs.Reaching.{reached_of, AreReached}
use Rattle.pv_unit.specs.Statements.{reached_declarations, declared_by, declared_in}
use Rattle.pv_unit.specs.Blocks.{Reached as WholeReached}
use Rattle.pv_unit.specs.Stated.{statements_in, optional_in, IsOptional, AreStatements}
use Rattle.pv_unit.proofs.Moving.{expression_stays, statement_stays, optional_same, statement_same, statements_append, statements_same}

-- ---- the innermost scope ends

left_shown : (m : Known) (ss : List RawScope) → scopes_shown m (take (length ss - 1) ss) ≡ take (length (scopes_shown m ss) - 1) (scopes_shown m ss)
left_shown m ss =
    sym (take-map (scope_shown m) (length ss - 1) ss)
    ∙ ap (λ k. take (k - 1) (scopes_shown m ss)) (sym (length-map ss (scope_shown m)))

pub left_state : (texts : List (List ℕ)) (m : Stored) (s t : Raw) → t ≡ record s { scopes = take (length s.scopes - 1) s.scopes } → state_of texts false t m ≡ behind_scope (state_of texts false s m)
left_state texts m s t e =
    ap (λ (r : Raw). state_of texts false r m) e ∙ ap (λ ss. record (state_of texts false s m) { scopes = ss }) (left_shown m.known s.scopes)

-- ---- what a statement declares

nil_right : (xs : List ℕ) → xs ++ [] ≡ xs
nil_right [] = refl
nil_right (x ∷ xs) = ap (λ ys. x ∷ ys) (nil_right xs)

declared_append : (xs : List TypedStatement) (x : TypedStatement) → declared_in (xs ++ (x ∷ [])) ≡ declared_in xs ++ declared_by x
declared_append [] x = nil_right (declared_by x)
declared_append (y ∷ ys) x = ap (λ zs. declared_by y ++ zs) (declared_append ys x) ∙ sym (append_assoc (declared_by y) (declared_in ys) (declared_by x))

-- one statement more
pub taken_more : (m : Stored) (ns : List NodeId) (i : ℕ) (d : NodeId) → i < length ns → statements_in m (take (i + 1) ns) ≡ statements_in m (take i ns) ++ (statement_at m (get_or ns i d) ∷ [])
taken_more m ns i d lt = ap (statements_in m) (take_more ns i d lt) ∙ statements_append m (take i ns) (get_or ns i d)

pub declared_more : (m : Stored) (ns : List NodeId) (i : ℕ) (d : NodeId) (os more : List ℕ) → i < length ns → os ≡ declared_in (statements_in m (take i ns)) → more ≡ os ++ declared_by (statement_at m (get_or ns i d))
    → more ≡ declared_in (statements_in m (take (i + 1) ns))
declared_more m ns i d os more lt held new =
    new ∙ ap (λ xs. xs ++ declared_by (statement_at m (get_or ns i d))) held
    ∙ sym (ap declared_in (taken_more m ns i d lt) ∙ declared_append (statements_in m (take i ns)) (statement_at m (get_or ns i d)))

-- ---- the objects that a declaration reaches

reached_append : (xs : List WholeReached) (x : WholeReached) → reached_declarations (xs ++ (x ∷ [])) ≡ reached_declarations xs ++ (Declare x.line x.object ∷ [])
reached_append [] x = refl
reached_append (y ∷ ys) x = ap (λ zs. Declare y.line y.object ∷ zs) (reached_append ys x)

map_append : (xs : List Reached) (x : Reached) → map reached_of (xs ++ (x ∷ [])) ≡ map reached_of xs ++ (reached_of x ∷ [])
map_append [] x = refl
map_append (y ∷ ys) x = ap (λ zs. reached_of y ∷ zs) (map_append ys x)

pub reached_more : (xs : List Reached) (i : ℕ) (d : Reached) → i < length xs
    → reached_declarations (map reached_of (take (i + 1) xs)) ≡ reached_declarations (map reached_of (take i xs)) ++ (Declare (get_or xs i d).line (get_or xs i d).object ∷ [])
reached_more xs i d lt =
    ap (λ ys. reached_declarations (map reached_of ys)) (take_more xs i d lt) ∙ ap reached_declarations (map_append (take i xs) (get_or xs i d)) ∙ reached_append (map reached_of (take i xs)) (reached_of (get_or xs i d))

pub reached_at : (m : Stored) (xs : List Reached) (i : ℕ) (d : Reached) → AreReached m xs → i < length xs → (get_or xs i d).object < length m.objects
reached_at m [] i d h lt = absurd (omega (arith, lt))
reached_at m (x ∷ xs) zero d h lt = h.0
reached_at m (x ∷ xs) (suc i) d h lt = reached_at m xs i d h.1 (omega (arith, lt))

pub reached_stay : (a b : Stored) (xs : List Reached) → Goes a b → AreReached a xs → AreReached b xs
reached_stay a b [] g h = tt
reached_stay a b (x ∷ xs) g h = let more : length a.objects ≤ length b.objects = g.grown.objects in let lt : x.object < length a.objects = h.0 in (omega (arith, more, lt), reached_stay a b xs g h.1)

-- one more of them behind others
pub reached_next : (m0 now new : Stored) (xs : List Reached) (i : ℕ) (d : Reached) (items more before : List NodeId) → i < length xs
    → statements_in now items ≡ statements_in m0 before ++ reached_declarations (map reached_of (take i xs))
    → statements_in new more ≡ statements_in now items ++ (Declare (get_or xs i d).line (get_or xs i d).object ∷ [])
    → statements_in new more ≡ statements_in m0 before ++ reached_declarations (map reached_of (take (i + 1) xs))
reached_next m0 now new xs i d items more before lt held one =
    one ∙ ap (λ ys. ys ++ (Declare (get_or xs i d).line (get_or xs i d).object ∷ [])) held
    ∙ append_assoc (statements_in m0 before) (reached_declarations (map reached_of (take i xs))) (Declare (get_or xs i d).line (get_or xs i d).object ∷ [])
    ∙ ap (λ ys. statements_in m0 before ++ ys) (sym (reached_more xs i d lt))

-- one statement behind others
pub one_behind : (a b : Stored) (items more : List NodeId) (n : NodeId) (x : TypedStatement) → Goes a b → AreStatements a items → more ≡ items ++ (n ∷ []) → statement_at b n ≡ x
    → statements_in b more ≡ statements_in a items ++ (x ∷ [])
one_behind a b items more n x g h new e =
    ap (statements_in b) new ∙ statements_append b items n ∙ ap (λ ys. ys ++ (statement_at b n ∷ [])) (statements_same a b items g h) ∙ ap (λ y. statements_in a items ++ (y ∷ [])) e

-- ---- a list of statements in the tables

pub listed_is : (m : Stored) (ns : List NodeId) → trees_in (nodes m) ns ≡ statements_of (statements_in m ns)
listed_is m [] = refl
listed_is m (n ∷ ns) = ap (λ (xs : Statements). MoreStatements (statement_at m n) xs) (listed_is m ns)

-- the statements of a list that was added, in tables that have more since
pub listed_there : (a b : Stored) (l : ListId) (ns : List NodeId) → Goes a b → AreStatements a ns → list_at b l ≡ ns → trees_in (nodes b) (list_in b.lists l) ≡ statements_of (statements_in a ns)
listed_there a b l ns g h e = ap (trees_in (nodes b)) e ∙ listed_is b ns ∙ ap statements_of (statements_same a b ns g h)

pub objects_there : (a b : Stored) (os : List ℕ) → Goes a b → AreObjects a os → AreObjects b os
objects_there a b [] g h = tt
objects_there a b (o ∷ os) g h = let more : length a.objects ≤ length b.objects = g.grown.objects in let lt : o < length a.objects = h.0 in (omega (arith, more, lt), objects_there a b os g h.1)

pub nothing_behind : (xs : List TypedStatement) → xs ++ [] ≡ xs
nothing_behind [] = refl
nothing_behind (x ∷ xs) = ap (λ ys. x ∷ ys) (nothing_behind xs)

-- ---- a `for` with a declaration

present_there : (a b : Stored) (o : Option NodeId) → Goes a b → IsOptional a o → Each (HasKind b.rows (length b.rows) true) (list_if_any o)
present_there a b None g h = tt
present_there a b (Some n) g h = (expression_stays a b n g h, tt)

present_is : (m : Stored) (o : Option NodeId) → IsOptional m o → Each (HasKind m.rows (length m.rows) true) (list_if_any o)
present_is m None h = tt
present_is m (Some n) h = (h, tt)

pub for_parts : (m : Stored) (f v n : Option NodeId) (body : NodeId) → IsOptional m f → IsOptional m v → IsOptional m n → IsStatement m body → HasParts m.rows m.lists (length m.rows) (stmt.For f v n body)
for_parts m f v n body is_f is_v is_n is = (
  each_append (HasKind m.rows (length m.rows) true) (list_if_any f) (list_if_any v ++ list_if_any n) (present_is m f is_f)
      (each_append (HasKind m.rows (length m.rows) true) (list_if_any v) (list_if_any n) (present_is m v is_v) (present_is m n is_n)),
  (is, tt),
  tt,
)

pub round_parts : (a b : Stored) (l : ListId) (v n : Option NodeId) (body : NodeId) → Goes a b → HasKinds b.rows b.lists (length b.rows) false l → IsOptional a v → IsOptional a n → IsStatement a body
    → HasParts b.rows b.lists (length b.rows) (stmt.ForDeclaration l v n body)
round_parts a b l v n body g list is_v is_n is =
    (each_append (HasKind b.rows (length b.rows) true) (list_if_any v) (list_if_any n) (present_there a b v g is_v) (present_there a b n g is_n), (statement_stays a b body g is, tt), (list, tt))

tree_of : (m : Stored) (o : Option NodeId) → trees_optional (nodes m) o ≡ optional_in m o
tree_of m None = refl
tree_of m (Some n) = refl

pub round_form : (a b : Stored) (line : ℕ) (os : List ℕ) (l : ListId) (v n : Option NodeId) (body : NodeId) → Goes a b → IsOptional a v → IsOptional a n → IsStatement a body
    → statement_form b.lists (nodes b) line os (stmt.ForDeclaration l v n body) ≡ ForDeclaration line os (trees_in (nodes b) (list_in b.lists l)) (optional_in a v) (optional_in a n) (statement_at a body)
round_form a b line os l v n body g is_v is_n is =
    let xs = trees_in (nodes b) (list_in b.lists l) in
    ap (λ x. ForDeclaration line os xs x (trees_optional (nodes b) n) (statement_at b body)) (tree_of b v ∙ optional_same a b v g is_v)
    ∙ ap (λ x. ForDeclaration line os xs (optional_in a v) x (statement_at b body)) (tree_of b n ∙ optional_same a b n g is_n)
    ∙ ap (λ x. ForDeclaration line os xs (optional_in a v) (optional_in a n) x) (statement_same a b body g is)

pub for_form : (m : Stored) (line : ℕ) (f v n : Option NodeId) (body : NodeId)
    → statement_form m.lists (nodes m) line [] (stmt.For f v n body) ≡ For line (optional_in m f) (optional_in m v) (optional_in m n) (statement_at m body)
for_form m line f v n body =
    ap (λ x. For line x (trees_optional (nodes m) v) (trees_optional (nodes m) n) (statement_at m body)) (tree_of m f)
    ∙ ap (λ x. For line (optional_in m f) x (trees_optional (nodes m) n) (statement_at m body)) (tree_of m v)
    ∙ ap (λ x. For line (optional_in m f) (optional_in m v) x (statement_at m body)) (tree_of m n)
