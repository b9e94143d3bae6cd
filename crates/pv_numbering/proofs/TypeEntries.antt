-- Each type can be put into a table of types (C17 6.2.5).
use Rattle.std.proofs.Common.{◌≡◌, ℕ, List, [], ◌∷◌, ◌++◌, length, refl, sym, ap, ◌∙◌}
use Rattle.pv_types.specs.declared.terms.Term.{Term}
use Rattle.pv_types.specs.declared.terms.TypeId.{TypeId}
use Rattle.pv_types.specs.declared.terms.Member.{Member}
use Rattle.pv_types.specs.declared.terms.Term.TheVariants.{Void, Int, Pointer, Array, Struct, Union, Function, Const}
use Rattle.pv_types.specs.Ty.{Ty, Tys, VoidTy, IntTy, PointerTo, ArrayOf, StructTag, UnionTag, FunctionTy, ConstOf, NoTys, MoreTys}
use Rattle.pv_types.specs.Layouts.{Named, Completed}
use Rattle.pv_types.specs.Known.{DoneTag, at, tys_in, tree_in, trees_of, named_in, completed_in}
use Rattle.pv_types.specs.KnownParts.{list_at}
use Rattle.pv_typed.specs.Built.{row_by_row}
use Rattle.pv_numbering.proofs.Entries.{NodeTables, Filled, Puts, longer_same, longer_push, filled_on, kept, made, beside, paired, found, found_built}

-- the types of the tables
abbrev pub types : NodeTables → List Ty
types s = trees_of s.params s.terms

-- the type of a number
abbrev pub type_at : NodeTables → TypeId → Ty
type_at s t = at (types s) t.0

-- the type whose outermost layer a term is
abbrev pub layer : NodeTables → Term → Ty
layer s x = tree_in s.params (types s) x

-- the types of numbers in a row, and of the number of such a row
abbrev pub types_at : NodeTables → List TypeId → Tys
types_at s ts = tys_in (types s) ts

abbrev pub params_at : NodeTables → ℕ → Tys
params_at s p = types_at s (list_at s.params p)

trees_built : (ls : List (List TypeId)) (terms : List Term) → trees_of ls terms ≡ row_by_row (tree_in ls) terms
unfolding trees_of row_by_row
trees_built ls terms = refl

-- the tables with one more term
abbrev with_term : NodeTables → Term → NodeTables
with_term s x = record s { terms = s.terms ++ (x ∷ []) }

-- the same tables, without the terms that came later
abbrev before : NodeTables → List Term → NodeTables
before s terms = record s { terms = terms }

more_terms : (s : NodeTables) (x : Term) → Filled s (with_term s x)
more_terms s x = record {
  terms = longer_push s.terms x;
  params = longer_same s.params;
  rows = longer_same s.rows;
  lists = longer_same s.lists;
  blocks = longer_same s.blocks;
}

layer_found : (s s' : NodeTables) (x : Term) → Filled (with_term s x) s' → type_at s' (record { 0 = length s.terms }) ≡ layer (before s' s.terms) x
layer_found s s' x h =
    ap (λ ts. at ts (length s.terms)) (trees_built s'.params s'.terms)
    ∙ found_built (tree_in s'.params) s.terms x VoidTy s'.terms h.terms
    ∙ ap (λ ts. tree_in s'.params ts x) (sym (trees_built s'.params s.terms))

pub put_layer : (t : Ty) → Puts layer t → Puts type_at t
put_layer t p = record {
  put = λ s. (
      let q = p.put s in
      let x : Term = q.entry in
      let u : NodeTables = q.behind in
      record {
        behind = with_term u x;
        entry = record { 0 = length u.terms };
        filled = filled_on s u (with_term u x) q.filled (more_terms u x);
        is = λ s' h. layer_found u s' x h ∙ q.is (before s' u.terms) (record {
          terms = longer_same u.terms;
          params = h.params;
          rows = h.rows;
          lists = h.lists;
          blocks = h.blocks;
        });
      });
}

-- a row of parameters becomes one of the table's
put_params : (ts : Tys) → Puts types_at ts → Puts params_at ts
put_params ts p = record {
  put = λ s. (
      let q = p.put s in
      let u : NodeTables = q.behind in
      let v : NodeTables = record u { params = u.params ++ (q.entry ∷ []) } in
      let more : Filled u v = record {
        terms = longer_same u.terms;
        params = longer_push u.params q.entry;
        rows = longer_same u.rows;
        lists = longer_same u.lists;
        blocks = longer_same u.blocks;
      } in
      record {
        behind = v;
        entry = length u.params;
        filled = filled_on s u v q.filled more;
        is = λ s' h. ap (types_at s') (found u.params q.entry [] s'.params h.params) ∙ q.is s' (filled_on u v s' more h);
      });
}

mutual
  pub put_type : (t : Ty) → Puts type_at t
  put_type VoidTy = put_layer VoidTy (kept layer Void VoidTy (λ s. refl))
  put_type (IntTy k) = put_layer (IntTy k) (kept layer (Int k) (IntTy k) (λ s. refl))
  put_type (PointerTo t) = put_layer (PointerTo t) (made type_at layer Pointer PointerTo (λ s n. refl) t (put_type t))
  put_type (ArrayOf t n) = put_layer (ArrayOf t n) (made type_at layer (λ x. Array x n) (λ u. ArrayOf u n) (λ s x. refl) t (put_type t))
  put_type (StructTag n) = put_layer (StructTag n) (kept layer (Struct n) (StructTag n) (λ s. refl))
  put_type (UnionTag n) = put_layer (UnionTag n) (kept layer (Union n) (UnionTag n) (λ s. refl))
  put_type (FunctionTy t ts v) =
      put_layer (FunctionTy t ts v)
      (made (beside type_at params_at) layer (λ p. Function p.0 p.1 v) (λ p. FunctionTy p.0 p.1 v) (λ s p. refl) (t, ts)
      (paired type_at params_at t ts (put_type t) (put_params ts (put_types ts))))
  put_type (ConstOf t) = put_layer (ConstOf t) (made type_at layer Const ConstOf (λ s n. refl) t (put_type t))

  put_types : (ts : Tys) → Puts types_at ts
  put_types NoTys = kept types_at [] NoTys (λ s. refl)
  put_types (MoreTys t ts) =
      made (beside type_at types_at) types_at (λ p. p.0 ∷ p.1) (λ p. MoreTys p.0 p.1) (λ s p. refl) (t, ts)
      (paired type_at types_at t ts (put_type t) (put_types ts))

-- the members (6.7.2.1) of numbers of types
abbrev members : NodeTables → List Member → List Named
members s ms = named_in (types s) ms

put_members : (ms : List Named) → Puts members ms
put_members [] = kept members [] [] (λ s. refl)
put_members (m ∷ ms) =
    made (beside type_at members) members (λ p. record { name = m.name; t = p.0 } ∷ p.1) (λ p. record { name = m.name; t = p.0 } ∷ p.1) (λ s p. refl) (m.t, ms)
    (paired type_at members m.t ms (put_type m.t) (put_members ms))

-- the completed tags (6.7.2.3p4)
abbrev pub completions : NodeTables → List DoneTag → List Completed
completions s ds = completed_in (types s) ds

pub put_completions : (cs : List Completed) → Puts completions cs
put_completions [] = kept completions [] [] (λ s. refl)
put_completions (c ∷ cs) =
    made (beside members completions) completions
    (λ p. record { tag = c.tag; union = c.union; members = p.0 } ∷ p.1) (λ p. record { tag = c.tag; union = c.union; members = p.0 } ∷ p.1) (λ s p. refl) (c.members, cs)
    (paired members completions c.members cs (put_members c.members) (put_completions cs))
