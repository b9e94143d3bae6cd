-- Two tables of types that both have a type mark it alike (C17 6.5p6).
use Rattle.std.proofs.Common.{◌≡◌, ◌≢◌, ℕ, ◌<◌, Bool, true, ◌&&◌, ◌||◌, ◌==◌, List, Some, length, get_or, refl, sym, ap, ◌∙◌, subst, arith, inl, inr, ⊎_elim}
use Rattle.std.specs.Prelude.{nat_lt, cond, unwrap_or, None}
use Rattle.std.specs.List.{Contains, position_or_len}
use Rattle.std.proofs.lemmas.Bool.{cases_lt, lt-ltb, true≢false}
use Rattle.std.proofs.lemmas.List.Sums.{passes_at_first, fails_before_first}
use Rattle.pv_types.specs.Ty.{Ty, VoidTy, IntTy, PointerTo, ArrayOf, StructTag, UnionTag, FunctionTy, ConstOf}
use Rattle.pv_types.specs.Known.{Known, tree, trees}
use Rattle.pv_types.proofs.Trees.{length-trees}
use Rattle.pv_types.specs.Sorts.{bare_type, is_character}
use Rattle.pv_effect.specs.EffectiveType.{same_or_counterpart}
use Rattle.pv_types.specs.SameTypes.{same_type}
use Rattle.pv_world.specs.declared.got.Shape.TheVariants as shape
use Rattle.pv_eval.specs.States.{Setting}
use Rattle.pv_eval.specs.TypeForms.{number_of, shape_of, lvalue}
use Rattle.pv_numbering.proofs.Marks.{AcceptedAlike}
use Rattle.pv_numbering.proofs.Alike.{AlikeLvalue, with_types}
use Rattle.pv_numbering.proofs.SameTypes.{type_self, type_equal}
use Rattle.pv_numbering.proofs.InTables.{InTable}

-- where something passes, the first place that passes is there
first_within : {X : Type 0} (p : X → Bool) (xs : List X) (i : ℕ) (d : X) → i < length xs → p (get_or xs i d) ≡ true → position_or_len p xs < length xs
first_within p xs i d lt passes =
    ⊎_elim
    (λ within. within)
    (λ past. absurd (true≢false (sym passes ∙ fails_before_first p xs i d (omega (arith, lt, past)))))
    (cases_lt (position_or_len p xs) (length xs))

-- the number of a type that the table has
pub record Numbered (m : Known) (t : Ty) (n : ℕ) : Type 0 where
  pub below : n < length m.terms
  pub is : tree m n ≡ t

pub numbered : (m : Known) (t : Ty) → Contains (trees m) t → Numbered m t (number_of m t)
numbered m t has =
    let n : ℕ = position_or_len (same_type t) (trees m) in
    let within : n < length (trees m) = first_within (same_type t) (trees m) has.0 t has.1 (ap (same_type t) has.2 ∙ type_self t) in
    let number : number_of m t ≡ n = ap (λ b. unwrap_or (cond b (Some n) None) 0) (lt-ltb n (length (trees m)) within) in
    subst (Numbered m t) (sym number) (record {
      below = omega (arith, within, length-trees m.lists m.terms);
      is = sym (type_equal t (tree m n) (passes_at_first (same_type t) (trees m) VoidTy within));
    })

-- both numbers are known to their tables, and stand for one type
numbers_accept : (m m' : Known) (t : Ty) (n n' : ℕ) → Numbered m t n → Numbered m' t n' → (k : ℕ) → AcceptedAlike m m' (n, k) (n', k)
numbers_accept m m' t n n' h h' k j u =
    let same : same_or_counterpart u (tree m' n') ≡ same_or_counterpart u (tree m n) = ap (same_or_counterpart u) (h'.is ∙ sym h.is) in
    let known : nat_lt n (length m.terms) ≡ true = lt-ltb n (length m.terms) h.below in
    let known' : nat_lt n' (length m'.terms) ≡ true = lt-ltb n' (length m'.terms) h'.below in
    ap (λ b. is_character u || (nat_lt n' (length m'.terms) && ((k == j) && b))) same
    ∙ ap (λ b. is_character u || (b && ((k == j) && same_or_counterpart u (tree m n)))) (known' ∙ sym known)

-- 6.2.5p19: what is `void`, qualifiers aside, has no scalar
no_scalar : (t : Ty) → bare_type t ≡ VoidTy → shape_of t ≡ shape.Whole
no_scalar VoidTy e = refl
no_scalar (IntTy k) e = absurd cc
no_scalar (PointerTo t) e = absurd cc
no_scalar (ArrayOf t n) e = refl
no_scalar (StructTag n) e = refl
no_scalar (UnionTag n) e = refl
no_scalar (FunctionTy t ts v) e = refl
no_scalar (ConstOf t) e = no_scalar t e

marked_alike : (m m' : Known) (t : Ty) → InTable m t → InTable m' t → shape_of t ≢ shape.Whole → (k : ℕ) → AcceptedAlike m m' (number_of m (bare_type t), k) (number_of m' (bare_type t), k)
marked_alike m m' t (inl h) (inl h') scalar = numbers_accept m m' (bare_type t) (number_of m (bare_type t)) (number_of m' (bare_type t)) (numbered m (bare_type t) h) (numbered m' (bare_type t) h')
marked_alike m m' t (inr e) h' scalar = absurd (scalar (no_scalar t e))
marked_alike m m' t (inl h) (inr e) scalar = absurd (scalar (no_scalar t e))

-- so the lvalues of one type mark alike
pub alike_lvalue : (b : Setting) (m' : Known) (t : Ty) → InTable b.types t → InTable m' t → AlikeLvalue b.types m' (lvalue b t) (lvalue (with_types b m') t)
alike_lvalue b m' t h h' = record {
  number = number_of m' (bare_type t);
  is = refl;
  marks = marked_alike b.types m' t h h';
}
