-- The declarators of a declaration at file scope, one after the other.
use Rattle.std.proofs.Common.{◌≡◌, ℕ, suc, ◌+◌, ◌<◌, ◌≤◌, true, false, List, [], ◌∷◌, None, length, take, drop, get_or, refl, sym, ◌∙◌, ap, arith}
use Rattle.std.specs.List.{fold}
use Rattle.pv_tree.specs.declared.nodes.NodeId.{NodeId}
use Rattle.pv_tree.specs.Syntax.{Trees, NoTrees, Then}
use Rattle.pv_tree.specs.Tables.{Forest, tree_at, trees_of}
use Rattle.pv_types.specs.Ty.{Ty}
use Rattle.pv_typed.specs.Tables.{Stored}
use Rattle.pv_check.specs.declared.specifiers.Specified.{Specified}
use Rattle.pv_check.specs.Specifiers.{Specified as WhatIsSpecified}
use Rattle.pv_check.specs.Raw.{Raw}
use Rattle.pv_check.specs.Open.{IsOpen, Goes}
use Rattle.pv_typed.specs.Constants.{and_then}
use Rattle.pv_check.proofs.Opening.{same_goes, then_goes}
use Rattle.pv_unit.specs.declared.entities.Outer.{Outer}
use Rattle.pv_unit.specs.Redeclarations.{UnitState}
use Rattle.pv_unit.specs.Declarations.{file_declarators, file_init_declarator}
use Rattle.pv_unit.specs.DeclaredIn.{specified_in}
use Rattle.pv_unit.specs.Outside.{unit_state, unit_if}
use Rattle.pv_unit.proofs.Lists.{split_from, take_from, take_all}

files_stop : (x : WhatIsSpecified) (f : Forest) (t : Trees) (ns : List NodeId) (u : UnitState) → file_declarators t x u ≡ None → file_declarators (fold (λ b n. Then b (tree_at f n)) t ns) x u ≡ None
files_stop x f t [] u e = e
files_stop x f t (n ∷ ns) u e = files_stop x f (Then t (tree_at f n)) ns u (ap (λ o. and_then o (file_init_declarator x (tree_at f n))) e)

-- the type that specifiers name stays
pub specified_stays : (a b : Stored) (x : Specified) → Goes a b → x.t.0 < length a.known.terms → specified_in b.known x ≡ specified_in a.known x
specified_stays a b x g lt = ap (λ (t : Ty). record { storage = x.storage; t = t }) (g.grown.types x.t.0 lt)

pub record Along (texts : List (List ℕ)) (x : Specified) (f : Forest) (ns : List NodeId) (r : Raw) (a : Stored) (first : Outer) (k : ℕ) (s : Raw) (m : Stored) (o : Outer) : Type 0 where
  pub typed : unit_if texts s m o true ≡ file_declarators (trees_of f (take k ns)) (specified_in a.known x) (unit_state texts r a first)
  pub opened : IsOpen m s
  pub goes : Goes a m

pub along_start : (texts : List (List ℕ)) (x : Specified) (f : Forest) (ns : List NodeId) (r : Raw) (a : Stored) (first : Outer) → IsOpen a r → Along texts x f ns r a first 0 r a first
along_start texts x f ns r a first h = record { typed = refl; opened = h; goes = same_goes a }

pub along_next : (texts : List (List ℕ)) (x : Specified) (f : Forest) (ns : List NodeId) (r s t : Raw) (a m n : Stored) (first o p : Outer) (k : ℕ) (d : NodeId)
    → Along texts x f ns r a first k s m o → k < length ns → x.t.0 < length a.known.terms
    → unit_if texts t n p true ≡ file_init_declarator (specified_in m.known x) (tree_at f (get_or ns k d)) (unit_state texts s m o) → IsOpen n t → Goes m n
    → Along texts x f ns r a first (k + 1) t n p
along_next texts x f ns r s t a m n first o p k d h lt known held opened goes =
    let next : suc k ≡ k + 1 = omega arith in
    let one = tree_at f (get_or ns k d) in
    let whole = specified_in a.known x in
    record {
      typed = held ∙ ap (λ y. file_init_declarator y one (unit_state texts s m o)) (specified_stays a m x h.goes known)
          ∙ ap (λ c. and_then c (file_init_declarator whole one)) h.typed
          ∙ sym (ap (λ ts. file_declarators ts whole (unit_state texts r a first)) (take_from f NoTrees ns k d lt))
          ∙ ap (λ j. file_declarators (trees_of f (take j ns)) whole (unit_state texts r a first)) next;
      opened = opened;
      goes = then_goes a m n h.goes goes;
    }

pub along_stop : (texts : List (List ℕ)) (x : Specified) (f : Forest) (ns : List NodeId) (r s t : Raw) (a m n : Stored) (first o p : Outer) (k : ℕ) (d : NodeId)
    → Along texts x f ns r a first k s m o → k < length ns → x.t.0 < length a.known.terms
    → unit_if texts t n p false ≡ file_init_declarator (specified_in m.known x) (tree_at f (get_or ns k d)) (unit_state texts s m o)
    → None ≡ file_declarators (trees_of f ns) (specified_in a.known x) (unit_state texts r a first)
along_stop texts x f ns r s t a m n first o p k d h lt known held =
    let one = tree_at f (get_or ns k d) in
    let whole = specified_in a.known x in
    let none = held ∙ ap (λ y. file_init_declarator y one (unit_state texts s m o)) (specified_stays a m x h.goes known)
    ∙ ap (λ c. and_then c (file_init_declarator whole one)) h.typed in
    sym (ap (λ ts. file_declarators ts whole (unit_state texts r a first)) (split_from f NoTrees ns k d lt) ∙ files_stop whole f _ (drop (suc k) ns) (unit_state texts r a first) (sym none))

pub along_done : (texts : List (List ℕ)) (x : Specified) (f : Forest) (ns : List NodeId) (r s : Raw) (a m : Stored) (first o : Outer) (k : ℕ) → Along texts x f ns r a first k s m o → length ns ≤ k
    → unit_if texts s m o true ≡ file_declarators (trees_of f ns) (specified_in a.known x) (unit_state texts r a first)
along_done texts x f ns r s a m first o k h end = h.typed ∙ ap (λ xs. file_declarators (trees_of f xs) (specified_in a.known x) (unit_state texts r a first)) (take_all ns k end)
