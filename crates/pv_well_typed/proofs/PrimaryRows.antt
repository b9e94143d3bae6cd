-- Primary expressions (C17 6.5.1): each row of typing gives what is well typed.
use Rattle.std.proofs.Common.{◌≡◌, ℕ, zero, suc, ◌<◌, ◌≤◌, ◌*◌, ℤ, pos, Bool, true, false, ◌&&◌, not, Option, Some, None, List, [], ◌∷◌, ◌++◌, length, get_or, refl, sym, subst, ◌∙◌, arith, int_le, length-append, inl, inr}
use Rattle.std.specs.Prelude.{if◌then◌else◌, ◌^◌, ◌≤ℤ◌}
use Rattle.std.proofs.lemmas.Int.{ints}
use Rattle.std.proofs.lemmas.Bool.Decides.{nat_tests}
use Rattle.pv_num.specs.declared.kinds.IntKind.{IntKind}
use Rattle.pv_num.specs.declared.kinds.IntKind.TheVariants.{Int}
use Rattle.pv_num.specs.Kinds.{Fits, fits_of, least_member, greatest_member}
use Rattle.pv_types.specs.Ty.{IntTy}
use Rattle.pv_typed.specs.Known.{Each}
use Rattle.pv_typed.proofs.Each.{each_right}
use Rattle.pv_typed.specs.TypedTree.{TypedTree, Constant, Object, Function}
use Rattle.pv_typed.specs.TypedUnits.{WholeUnit, TypedObject, Literal, object_at, function_at, literal_at}
use Rattle.pv_typed.specs.UnitParts.{no_object, no_literal}
use Rattle.pv_check.specs.IntegerConstants.{may_have, first_kind, kind_of_constant}
use Rattle.pv_check.specs.IntegerConstantParts.{kinds_of_constants}
use Rattle.pv_check.specs.Primary.{with_use, integer_of}
use Rattle.pv_check.specs.PrimaryParts.{used_function, constant_of_kind, character_of}
use Rattle.pv_check.specs.StringLiterals.{text_of}
use Rattle.pv_check.specs.State.{State, ObjectName, UsedObject}
use Rattle.pv_check.specs.Values.{source_node}
use Rattle.pv_guards.specs.Typed.{IsIn, IsInScope}
use Rattle.pv_well_typed.specs.Proper.{IsProper}
use Rattle.pv_well_typed.specs.Later.{IsFinished, IsThere, Later, library_of}
use Rattle.pv_well_typed.specs.ProperStates.{HasFunctionType, IsProperState, IsVisible}
use Rattle.pv_well_typed.proofs.Operands.{IsExpression, as-made, some-same}
use Rattle.pv_well_typed.proofs.UnaryRows.{both-true}

-- ---- lists

-- what holds of each, and of what stands for none, holds of any
pub each-at : {A : Type 0} (P : A → Type 0) (z : A) (xs : List A) (i : ℕ) → P z → Each P xs → P (get_or xs i z)
each-at P z [] i n h = n
each-at P z (x ∷ xs) zero n h = h.0
each-at P z (x ∷ xs) (suc i) n h = each-at P z xs i n h.1

pub each-last : {A : Type 0} (P : A → Type 0) (xs : List A) (x : A) → Each P (xs ++ (x ∷ [])) → P x
each-last P xs x h = (each_right P xs (x ∷ []) h).0

pub last-in : (xs : List ℕ) (x : ℕ) → IsIn x (xs ++ (x ∷ []))
last-in [] x = inl refl
last-in (y ∷ xs) x = inr (last-in xs x)

pub last-at : {A : Type 0} (z : A) (xs : List A) (x : A) → get_or (xs ++ (x ∷ [])) (length xs) z ≡ x
last-at z [] x = refl
last-at z (y ∷ xs) x = last-at z xs x

pub beyond-at : {A : Type 0} (z : A) (xs : List A) (i : ℕ) → length xs ≤ i → get_or xs i z ≡ z
beyond-at z [] i le = refl
beyond-at z (x ∷ xs) zero le = absurd (omega (arith, le))
beyond-at z (x ∷ xs) (suc i) le = beyond-at z xs i (omega (arith, le))

-- ---- 6.4.4.1p5: an integer constant has a kind that has its value

pub fits-read : (k : IntKind) (n : ℤ) → fits_of k n ≡ true → Fits k n
fits-read k n e =
    let b = both-true (int_le (least_member k) n) (int_le n (greatest_member k)) e in
    (below (least_member k) n b.0, below n (greatest_member k) b.1)
  where
    below : (m n : ℤ) → int_le m n ≡ true → m ≤ℤ n
    below m n e = grind (arith, ints, nat_tests)

first-fits : (d u : Bool) (l : ℕ) (n : ℤ) (ks : List IntKind) (k : IntKind) → first_kind d u l n ks ≡ Some k → Fits k n
first-fits d u l n [] k e = absurd cc
first-fits d u l n (j ∷ ks) k e = by (may_have d u l j && fits_of j n) refl (first-fits d u l n ks k) e
  where
    by : (b : Bool) → (may_have d u l j && fits_of j n) ≡ b → (first_kind d u l n ks ≡ Some k → Fits k n) → (if b then Some j else first_kind d u l n ks) ≡ Some k → Fits k n
    by true p rest e = subst (λ i. Fits i n) (some-same j k e) (fits-read j n (both-true (may_have d u l j) (fits_of j n) p).1)
    by false p rest e = rest e

module _ (E : Type 0) (v : WholeUnit) (os : List ℕ) where
  pub number-row : (line value : ℕ) (decimal unsigned : Bool) (longs : ℕ) (x : TypedTree) → integer_of line value decimal unsigned longs ≡ Some x → IsExpression E v os x
  number-row line value decimal unsigned longs x e = by (kind_of_constant decimal unsigned longs (pos value)) refl e
    where
      by : (o : Option IntKind) → kind_of_constant decimal unsigned longs (pos value) ≡ o → constant_of_kind line value o ≡ Some x → IsExpression E v os x
      by None p e = absurd cc
      by (Some k) p e = as-made (IsExpression E v os) (source_node line (IntTy k) (Constant (pos value))) x (record {
        typed = λ i. (k, refl, first-fits decimal unsigned longs (pos value) kinds_of_constants k p);
        proper = tt;
        valued = λ n. (refl, tt);
      }) e

  -- 6.4.4.4p10
  pub character-row : (line : ℕ) (value : ℤ) → (E → Fits Int value) → IsExpression E v os (character_of line value)
  character-row line value h = record { typed = λ i. (Int, refl, h i); proper = tt; valued = λ n. (refl, tt) }

  -- ---- 6.5.1p2: identifiers

  -- of an object with static storage the unit has it at its end; another one is visible
  in-scope : (o : ℕ) → ((object_at v o).lasting ≡ true → IsIn o v.statics) → ((object_at v o).lasting ≡ false → IsIn o os) → IsInScope v os o
  in-scope o static automatic = by (object_at v o).lasting static automatic
    where
      by : (b : Bool) → (b ≡ true → IsIn o v.statics) → (b ≡ false → IsIn o os) → IsIn o (if b then v.statics else os)
      by true h g = h refl
      by false h g = g refl

  pub object-row : (line o : ℕ) (s : State) → IsProperState v s → Later (with_use s (UsedObject o)) v → (E → IsVisible v os (ObjectName o)) → IsExpression E v os (source_node line (object_at s.unit o).t (Object o))
  object-row line o s good later seen = record {
    typed = λ i. in-scope o (each-last (IsThere v) s.used (UsedObject o) later.used) (seen i);
    proper = each-at (λ (x : TypedObject). IsProper v x.t) no_object s.unit.objects o tt good.unit.objects;
    valued = λ n. absurd cc;
  }

  -- a function that is pointed to, where it isn't named in the operand of sizeof
  pub function-row : (line f : ℕ) (s : State) → IsProperState v s → f < length s.unit.functions → library_of s.unit f ≡ None → (E → s.unevaluated ≡ false)
      → Later (with_use s (used_function s.unevaluated f)) v → IsExpression E v os (source_node line (function_at s.unit f).t (Function f))
  function-row line f s good few none evaluated later = record {
    typed = λ i. subst (λ b. IsThere v (used_function b f)) (evaluated i) (each-last (IsThere v) s.used (used_function s.unevaluated f) later.used);
    proper = (subst (λ o. HasFunctionType v o (function_at s.unit f).t) none (good.unit.functions f few)).0;
    valued = λ n. absurd cc;
  }

  -- ---- 6.4.5p6: string literals

  text-small : (n : ℕ) → n ≤ 2 ^ 32 → n * 1 ≤ 2 ^ 32
  text-small n h = omega (arith, h)

  pub text-row : (line : ℕ) (bytes : List ℕ) (s : State) → IsFinished v → (E → s.unevaluated ≡ false) → Later (text_of line bytes s).state v → IsExpression E v os (text_of line bytes s).value
  text-row line bytes s done evaluated later = record {
    typed = λ i. later.unit.instances (length s.unit.literals) (subst (λ b. IsIn (length s.unit.literals) (if not b then s.unit.instances ++ (length s.unit.literals ∷ []) else s.unit.instances)) (sym (evaluated i)) (last-in s.unit.instances (length s.unit.literals)));
    proper = (tt, refl, text-small (length bytes) few);
    valued = λ n. absurd cc;
  }
    where
      made : Literal
      made = record { bytes = bytes; line = line }

      there : length s.unit.literals < length (s.unit.literals ++ (record { bytes = bytes; line = line } ∷ []))
      there = let l = length-append s.unit.literals (record { bytes = bytes; line = line } ∷ []) in omega (arith, l)

      same : literal_at v (length s.unit.literals) ≡ record { bytes = bytes; line = line }
      same = later.unit.literals (length s.unit.literals) there ∙ last-at no_literal s.unit.literals (record { bytes = bytes; line = line })

      few : length bytes ≤ 2 ^ 32
      few = subst (λ (x : Literal). length x.bytes ≤ 2 ^ 32) same (done.texts (length s.unit.literals))
