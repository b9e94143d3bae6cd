-- Arguments that are passed one by one.
use Rattle.std.proofs.Common.{◌≡◌, ℕ, zero, suc, ◌+◌, ◌<◌, ◌≤◌, Bool, true, false, Some, None, Option, List, [], ◌∷◌, ◌++◌, length, drop, map, get_or, refl, sym, ap, arith, append_assoc, ◌∙◌}
use Rattle.pv_tree.specs.declared.nodes.NodeId.{NodeId}
use Rattle.pv_tree.specs.declared.nodes.ListId.{ListId}
use Rattle.pv_types.specs.declared.terms.TypeId.{TypeId}
use Rattle.pv_types.specs.Known.{tys_in}
use Rattle.pv_types.specs.Ty.{Ty, Tys, NoTys, MoreTys}
use Rattle.pv_typed.specs.Known.{Each}
use Rattle.pv_typed.specs.Nodes.{expression_in, arguments_in, list_in, Tree}
use Rattle.pv_typed.specs.Tables.{Stored, nodes}
use Rattle.pv_typed.specs.NodeTrees.{IsExpression, expression_at, list_at}
use Rattle.pv_typed.specs.TypedTree.{TypedTree, MoreArguments, arguments_of}
use Rattle.pv_typed.specs.Children.{is_expression}
use Rattle.pv_typed.specs.declared.rows.Row.{Row}
use Rattle.pv_typed.specs.Formed.{Grown}
use Rattle.pv_typed.proofs.Each.{each_weaker, map_same}
use Rattle.pv_check.specs.Calls.{passed_arguments}
use Rattle.pv_check.specs.CallParts.{more}
use Rattle.pv_check.specs.Passing.{one_passed}

-- those before a place, and what the rest gives
abbrev pub joined : List TypedTree → Option (List TypedTree) → Option (List TypedTree)
joined xs None = None
joined xs (Some ys) = Some (xs ++ ys)

pub joined_nil : (o : Option (List TypedTree)) → joined [] o ≡ o
joined_nil None = refl
joined_nil (Some ys) = refl

abbrev rest_of : Tys → Tys
rest_of NoTys = NoTys
rest_of (MoreTys t ts) = ts

first_passed : (ts : Tys) (v : Bool) (a : TypedTree) (rest : List TypedTree) → passed_arguments ts v (a ∷ rest) ≡ more (one_passed ts v a) (passed_arguments (rest_of ts) v rest)
first_passed NoTys true a rest = refl
first_passed NoTys false a rest = refl
first_passed (MoreTys t ts) v a rest = refl

drop_nil : {A : Type 0} (n : ℕ) → ◌≡◌ {A = List A} (drop n []) []
drop_nil zero = refl
drop_nil (suc n) = refl

rest_drop : (ts : List Ty) (ids : List TypeId) (i : ℕ) → rest_of (tys_in ts (drop i ids)) ≡ tys_in ts (drop (i + 1) ids)
rest_drop ts [] i = ap (λ xs. rest_of (tys_in ts xs)) (drop_nil i) ∙ ap (tys_in ts) (sym (drop_nil (i + 1)))
rest_drop ts (x ∷ xs) zero = refl
rest_drop ts (x ∷ xs) (suc i) = let e : suc i + 1 ≡ suc (i + 1) = omega arith in rw e (rest_drop ts xs i)

joined_more : (xs : List TypedTree) (x : TypedTree) (o : Option (List TypedTree)) → joined xs (more (Some x) o) ≡ joined (xs ++ x ∷ []) o
joined_more xs x None = refl
joined_more xs x (Some ys) = ap Some (sym (append_assoc xs (x ∷ []) ys))

pub drop_at : {A : Type 0} (xs : List A) (i : ℕ) (d : A) → i < length xs → drop i xs ≡ get_or xs i d ∷ drop (i + 1) xs
drop_at [] i d lt = absurd (omega (arith, lt))
drop_at (x ∷ xs) zero d lt = refl
drop_at (x ∷ xs) (suc i) d lt = let e : suc i + 1 ≡ suc (i + 1) = omega arith in rw e (drop_at xs i d (omega (arith, lt)))

module _ (ts : List Ty) (ids : List TypeId) (v : Bool) (f : NodeId → TypedTree) (args : List NodeId) (i : ℕ) (d : NodeId) (lt : i < length args) (done : List TypedTree) where
  here : joined done (passed_arguments (tys_in ts (drop i ids)) v (map f (drop i args))) ≡ joined done (more (one_passed (tys_in ts (drop i ids)) v (f (get_or args i d))) (passed_arguments (tys_in ts (drop (i + 1) ids)) v (map f (drop (i + 1) args))))
  here =
      ap (λ xs. joined done (passed_arguments (tys_in ts (drop i ids)) v (map f xs))) (drop_at args i d lt)
      ∙ ap (joined done) (first_passed (tys_in ts (drop i ids)) v (f (get_or args i d)) (map f (drop (i + 1) args)))
      ∙ ap (λ us. joined done (more (one_passed (tys_in ts (drop i ids)) v (f (get_or args i d))) (passed_arguments us v (map f (drop (i + 1) args))))) (rest_drop ts ids i)

  pub passed_on : (x : TypedTree) → one_passed (tys_in ts (drop i ids)) v (f (get_or args i d)) ≡ Some x
      → joined (done ++ x ∷ []) (passed_arguments (tys_in ts (drop (i + 1) ids)) v (map f (drop (i + 1) args))) ≡ joined done (passed_arguments (tys_in ts (drop i ids)) v (map f (drop i args)))
  passed_on x e =
      sym (joined_more done x _)
      ∙ ap (λ o. joined done (more o (passed_arguments (tys_in ts (drop (i + 1) ids)) v (map f (drop (i + 1) args))))) (sym e)
      ∙ sym here

  pub passed_stops : one_passed (tys_in ts (drop i ids)) v (f (get_or args i d)) ≡ None → None ≡ joined done (passed_arguments (tys_in ts (drop i ids)) v (map f (drop i args)))
  passed_stops e =
      ap (λ o. joined done (more o (passed_arguments (tys_in ts (drop (i + 1) ids)) v (map f (drop (i + 1) args))))) (sym e) ∙ sym here

pub drop_past : {A : Type 0} (xs : List A) (i : ℕ) → length xs ≤ i → drop i xs ≡ []
drop_past [] i le = drop_nil i
drop_past (x ∷ xs) zero le = absurd (omega (arith, le))
drop_past (x ∷ xs) (suc i) le = drop_past xs i (omega (arith, le))

-- behind the last argument
module _ (ts : List Ty) (ids : List TypeId) (v : Bool) (f : NodeId → TypedTree) (args : List NodeId) (i : ℕ) (le : length args ≤ i) (done : List TypedTree) where
  pub too_few : i < length ids → None ≡ joined done (passed_arguments (tys_in ts (drop i ids)) v (map f (drop i args)))
  too_few k = at_least ids i k ∙ ap (λ xs. joined done (passed_arguments (tys_in ts (drop i ids)) v (map f xs))) (sym (drop_past args i le))
    where
      at_least : (js : List TypeId) (j : ℕ) → j < length js → None ≡ joined done (passed_arguments (tys_in ts (drop j js)) v [])
      at_least [] j lt = absurd (omega (arith, lt))
      at_least (x ∷ xs) zero lt = refl
      at_least (x ∷ xs) (suc j) lt = at_least xs j (omega (arith, lt))

-- ---- nodes in tables that have more

pub expression_stays : (a b : Stored) → Grown a b → (n : NodeId) → IsExpression a n → IsExpression b n
expression_stays a b g n h =
    let more : length a.rows ≤ length b.rows = g.nodes in
    let here : n.0 < length a.rows = h.0 in
    (omega (arith, more, here), ap (λ (r : Row). is_expression r.what) (g.rows n here) ∙ h.1)

pub nodes_known : (a b : Stored) (ns : List NodeId) → Grown a b → Each (IsExpression a) ns → Each (IsExpression b) ns
nodes_known a b ns g h = each_weaker (IsExpression a) (IsExpression b) (λ n k. expression_stays a b g n k) ns h

pub nodes_stay : (a b : Stored) (ns : List NodeId) → Grown a b → Each (IsExpression a) ns → map (expression_at b) ns ≡ map (expression_at a) ns
nodes_stay a b ns g h = map_same (expression_at b) (expression_at a) (IsExpression a) (λ n k. g.expressions n k.0) ns h

-- the arguments of a node's list
pub arguments_shown : (m : Stored) (ts : List Tree) (ns : List NodeId) → ((n : NodeId) → expression_in ts n ≡ expression_at m n) → arguments_in ts ns ≡ arguments_of (map (expression_at m) ns)
arguments_shown m ts [] e = refl
arguments_shown m ts (n ∷ ns) e = ap (λ x. MoreArguments x (arguments_in ts ns)) (e n) ∙ ap (MoreArguments (expression_at m n)) (arguments_shown m ts ns e)

pub list_shown : (m : Stored) (l : ListId) (ns : List NodeId) → list_at m l ≡ ns → arguments_in (nodes m) (list_in m.lists l) ≡ arguments_of (map (expression_at m) ns)
list_shown m l ns e = ap (arguments_in (nodes m)) e ∙ arguments_shown m (nodes m) ns (λ n. refl)
