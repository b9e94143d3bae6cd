-- Where a table of types has a type, it has the type without its qualifiers (C17 6.2.5p26).
use Rattle.std.proofs.Common.{◌≡◌, ℕ, List, [], ◌∷◌, ◌++◌, refl, sym, subst, arith, ◌⊎◌, inl, inr}
use Rattle.std.specs.List.{Contains}
use Rattle.std.proofs.lemmas.List.Elements.{Contains-append_left, Contains-append_right}
use Rattle.pv_types.specs.declared.terms.Term.{Term}
use Rattle.pv_types.specs.declared.terms.TypeId.{TypeId}
use Rattle.pv_types.specs.declared.terms.Term.TheVariants.{Void, Int, Pointer, Array, Struct, Union, Function, Const}
use Rattle.pv_types.specs.Ty.{Ty, VoidTy, ConstOf}
use Rattle.pv_types.specs.Known.{Known, at, tree, trees, tree_in, trees_of}
use Rattle.pv_types.specs.Sorts.{bare_type}
use Rattle.pv_typed.specs.Known.{Each}
use Rattle.pv_typed.proofs.Each.{each_weaker, each_append}
use Rattle.pv_numbering.proofs.Folds.{fold_keeps, each_or, each_always}

-- the type without qualifiers is one of these, or it is `void`, of which there is no scalar
abbrev pub IsAmong : List Ty → Ty → Type 0
IsAmong ts t = Contains ts (bare_type t) ⊎ (bare_type t ≡ VoidTy)

-- the same of a table
abbrev pub InTable : Known → Ty → Type 0
InTable m t = IsAmong (trees m) t

among_more : (ts us : List Ty) (t : Ty) → IsAmong ts t → IsAmong (ts ++ us) t
among_more ts us t (inl h) = inl (Contains-append_left ts us (bare_type t) h)
among_more ts us t (inr e) = inr e

among_last : (ts : List Ty) (t : Ty) → bare_type t ≡ t → IsAmong (ts ++ (t ∷ [])) t
among_last ts t e = inl (subst (Contains (ts ++ (t ∷ []))) (sym e) (Contains-append_right ts (t ∷ []) t (0, omega arith, refl)))

-- a tree that is made of trees whose unqualified ones are among them
among_made : (ls : List (List TypeId)) (ts : List Ty) (x : Term) → Each (IsAmong ts) ts → IsAmong (ts ++ (tree_in ls ts x ∷ [])) (tree_in ls ts x)
among_made ls ts Void h = inr refl
among_made ls ts (Int k) h = among_last ts _ refl
among_made ls ts (Pointer x) h = among_last ts _ refl
among_made ls ts (Array x k) h = among_last ts _ refl
among_made ls ts (Struct n) h = among_last ts _ refl
among_made ls ts (Union n) h = among_last ts _ refl
among_made ls ts (Function x p v) h = among_last ts _ refl
among_made ls ts (Const x) h = among_more ts (ConstOf (at ts x.0) ∷ []) (at ts x.0) (each_or (IsAmong ts) VoidTy (inr refl) ts h x.0)

among_step : (ls : List (List TypeId)) (ts : List Ty) (x : Term) → Each (IsAmong ts) ts → Each (IsAmong (ts ++ (tree_in ls ts x ∷ []))) (ts ++ (tree_in ls ts x ∷ []))
among_step ls ts x h =
    each_append (IsAmong (ts ++ (tree_in ls ts x ∷ []))) ts (tree_in ls ts x ∷ [])
    (each_weaker (IsAmong ts) (IsAmong (ts ++ (tree_in ls ts x ∷ []))) (among_more ts (tree_in ls ts x ∷ [])) ts h)
    (among_made ls ts x h, tt)

all_among : (ls : List (List TypeId)) (terms : List Term) → Each (IsAmong (trees_of ls terms)) (trees_of ls terms)
unfolding trees_of
all_among ls terms =
    fold_keeps (tree_in ls) (λ (x : Term). Unit {0}) (λ (ts : List Ty). Each (IsAmong ts) ts)
    (λ ts x q h. among_step ls ts x h) terms (each_always _ (λ x. tt) terms) [] tt

-- so it is with the type of every number, and of none
pub tree_in_table : (m : Known) (i : ℕ) → InTable m (tree m i)
tree_in_table m i = each_or (InTable m) VoidTy (inr refl) (trees m) (all_among m.lists m.terms) i

pub void_in_table : (m : Known) → InTable m VoidTy
void_in_table m = inr refl
