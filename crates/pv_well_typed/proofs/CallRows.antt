-- Calls (C17 6.5.2.2): each row of typing gives what is well typed, of arguments that are so.
use Rattle.std.proofs.Common.{◌≡◌, ℕ, ◌<◌, Bool, true, false, ◌||◌, Option, Some, None, List, [], ◌∷◌, length, refl, ap, subst}
use Rattle.std.specs.Prelude.{if◌then◌else◌}
use Rattle.pv_library.specs.declared.library.Library.{Library}
use Rattle.pv_types.specs.Layouts.{is_complete_in}
use Rattle.pv_types.specs.Ty.{Ty, Tys, NoTys, MoreTys, VoidTy, IntTy, PointerTo, ArrayOf, StructTag, UnionTag, FunctionTy, ConstOf}
use Rattle.pv_typed.specs.Known.{Each}
use Rattle.pv_typed.specs.TypedTree.{TypedTree, Call, CallPointer, LibraryCall, arguments_of, type_of}
use Rattle.pv_typed.specs.TypedUnits.{WholeUnit, layouts, function_at}
use Rattle.pv_types.specs.Sorts.{pointed_by, is_void, bare_type}
use Rattle.pv_check.specs.Values.{source_node, promoted_value, as_if_assigned}
use Rattle.pv_check.specs.Calls.{further_argument, passed_arguments, may_pass, typed_call, call_at, call_to}
use Rattle.pv_check.specs.CallParts.{more, library_call, program_call, pointed_call, call_through, call_of}
use Rattle.pv_guards.specs.Typed.{IsValueType, AreLike, IsSignature, HasBody, ArePassed}
use Rattle.pv_well_typed.specs.Proper.{IsProper}
use Rattle.pv_well_typed.specs.Later.{library_of}
use Rattle.pv_well_typed.specs.ProperStates.{IsLibraryType, HasFunctionType}
use Rattle.pv_well_typed.proofs.Types.{pointed-type, not-void}
use Rattle.pv_well_typed.proofs.Operands.{IsExpression, IsOperand, IsConverted, has-value-as, has-type, promoted-row, as-made, some-same}
use Rattle.pv_well_typed.proofs.Conversions.{assigned-row}

-- one argument before others
record IsMore (o : Option TypedTree) (p : Option (List TypedTree)) (xs : List TypedTree) : Type 0 where
  first : TypedTree
  rest : List TypedTree
  one : o ≡ Some first
  others : p ≡ Some rest
  is : first ∷ rest ≡ xs

some-more : (o : Option TypedTree) (p : Option (List TypedTree)) (xs : List TypedTree) → more o p ≡ Some xs → IsMore o p xs
some-more None None xs e = absurd cc
some-more None (Some r) xs e = absurd cc
some-more (Some a) None xs e = absurd cc
some-more (Some a) (Some r) xs e = record { first = a; rest = r; one = refl; others = refl; is = some-same (a ∷ r) xs e }

like-itself : (t : Ty) → AreLike t t
like-itself t env w = ((λ h. h), (λ h. h))

module _ (E : Type 0) (v : WholeUnit) (os : List ℕ) where
  -- 6.5.2.2p6: an argument beyond the parameters
  record IsFurther (a : TypedTree) : Type 0 where
    converted : IsConverted E v os (type_of a) a
    value : IsValueType (type_of a)

  further-row : (a : TypedTree) → IsOperand E v os a → (x : TypedTree) → further_argument a ≡ Some x → IsFurther x
  further-row a h x e = by (is_void (type_of a)) refl e
    where
      by : (b : Bool) → is_void (type_of a) ≡ b → (if b then None else Some (promoted_value a)) ≡ Some x → IsFurther x
      by true p e = absurd cc
      by false p e =
          let r = promoted-row E v os a h (not-void (type_of a) h.plain p) in
          as-made IsFurther (promoted_value a) x (record { converted = r.0; value = r.1 }) e

  -- 6.5.2.2p2, p7: the arguments of a call
  pub passed-row : (ts : Tys) (variadic : Bool) (args : List TypedTree) → Each (IsOperand E v os) args → (xs : List TypedTree) → passed_arguments ts variadic args ≡ Some xs → E → ArePassed v os ts variadic (arguments_of xs)
  passed-row NoTys true [] h xs e i = subst (λ ys. ArePassed v os NoTys true (arguments_of ys)) (some-same [] xs e) tt
  passed-row NoTys false [] h xs e i = subst (λ ys. ArePassed v os NoTys false (arguments_of ys)) (some-same [] xs e) tt
  passed-row NoTys true (a ∷ rest) h xs e i =
      let m = some-more (further_argument a) (passed_arguments NoTys true rest) xs e in
      let f = further-row a h.0 m.first m.one in
      subst (λ ys. ArePassed v os NoTys true (arguments_of ys)) m.is
      (f.converted.typed i, has-type E v os (type_of m.first) m.first f.converted, f.value, passed-row NoTys true rest h.1 m.rest m.others i)
  passed-row NoTys false (a ∷ rest) h xs e i = absurd cc
  passed-row (MoreTys t ts) variadic [] h xs e i = absurd cc
  passed-row (MoreTys t ts) variadic (a ∷ rest) h xs e i =
      let m = some-more (as_if_assigned t a) (passed_arguments ts variadic rest) xs e in
      let q = assigned-row E v os t a h.0 m.first m.one in
      subst (λ ys. ArePassed v os (MoreTys t ts) variadic (arguments_of ys)) m.is (
        q.converted.typed i,
        has-type E v os (bare_type t) m.first q.converted,
        q.value,
        passed-row ts variadic rest h.1 m.rest m.others i,
      )

  module _ (args : List TypedTree) (all : Each (IsOperand E v os) args) (line : ℕ) where
    -- ---- a function by its name

    module _ (u : WholeUnit) (f : ℕ) where
      -- 7.1.4p1: one of the library
      library-row : (l : Library) (t : Ty) (ts : Tys) (c : Bool) → IsLibraryType v l (FunctionTy t ts c) → (o : Option (List TypedTree)) → passed_arguments ts c args ≡ o
          → (x : TypedTree) → library_call u line l t o ≡ Some x → IsExpression E v os x
      library-row l t ts c h None p x e = absurd cc
      library-row l t ts c h (Some xs) p x e = by (may_pass u l xs) e
        where
          by : (b : Bool) → (if b then Some (source_node line t (LibraryCall l (arguments_of xs))) else None) ≡ Some x → IsExpression E v os x
          by true e = as-made (IsExpression E v os) (source_node line t (LibraryCall l (arguments_of xs))) x (record {
            typed = λ i. (ts, c, h.0, passed-row ts c args all xs p i, h.3);
            proper = h.2;
            valued = λ n. (refl, h.1);
          }) e
          by false e = absurd cc

      -- 6.5.2.2p5: one of the program
      program-row : (t : Ty) (ts : Tys) (c : Bool) → IsProper v (FunctionTy t ts c) × (c ≡ false) → (E → (f < length v.functions) × HasBody v f) → (c ≡ false → IsSignature (function_at v f).t t ts)
          → (o : Option (List TypedTree)) → passed_arguments ts c args ≡ o → (x : TypedTree) → program_call line f t o ≡ Some x → IsExpression E v os x
      program-row t ts c h there signed None p x e = absurd cc
      program-row t ts c h there signed (Some xs) p x e = as-made (IsExpression E v os) (source_node line t (Call f (arguments_of xs))) x (record {
        typed = λ i. (ts, ((there i).0, (there i).1, signed h.1), subst (λ b. ArePassed v os ts b (arguments_of xs)) h.1 (passed-row ts c args all xs p i));
        proper = h.0.1;
        valued = λ n. (refl, h.0.0);
      }) e

      either-row : (o : Option Library) (t : Ty) (ts : Tys) (c : Bool) → HasFunctionType v o (FunctionTy t ts c) → (o ≡ None → E → (f < length v.functions) × HasBody v f) → (c ≡ false → IsSignature (function_at v f).t t ts)
          → (x : TypedTree) → typed_call u line f o t (passed_arguments ts c args) ≡ Some x → IsExpression E v os x
      either-row (Some l) t ts c h there signed x e = library-row l t ts c h (passed_arguments ts c args) refl x e
      either-row None t ts c h there signed x e = program-row t ts c h (there refl) signed (passed_arguments ts c args) refl x e

      call-at-row : (w : Ty) → HasFunctionType v (library_of u f) w → (library_of u f ≡ None → E → (f < length v.functions) × HasBody v f)
          → ((t : Ty) (ts : Tys) → w ≡ FunctionTy t ts false → IsSignature (function_at v f).t t ts) → (x : TypedTree) → call_at u line f w args ≡ Some x → IsExpression E v os x
      call-at-row (FunctionTy t ts c) h there signed x e = by (is_void t || is_complete_in (layouts u) t) e
        where
          by : (b : Bool) → (if b then typed_call u line f (library_of u f) t (passed_arguments ts c args) else None) ≡ Some x → IsExpression E v os x
          by true e = either-row (library_of u f) t ts c h there (λ q. signed t ts (ap (FunctionTy t ts) q)) x e
          by false e = absurd cc
      call-at-row VoidTy h there signed x e = absurd cc
      call-at-row (IntTy k) h there signed x e = absurd cc
      call-at-row (PointerTo t) h there signed x e = absurd cc
      call-at-row (ArrayOf t n) h there signed x e = absurd cc
      call-at-row (StructTag n) h there signed x e = absurd cc
      call-at-row (UnionTag n) h there signed x e = absurd cc
      call-at-row (ConstOf t) h there signed x e = absurd cc

      pub named-row : HasFunctionType v (library_of u f) (function_at u f).t → (library_of u f ≡ None → E → (f < length v.functions) × HasBody v f)
          → ((t : Ty) (ts : Tys) → (function_at u f).t ≡ FunctionTy t ts false → IsSignature (function_at v f).t t ts) → (x : TypedTree) → call_of u line f args ≡ Some x → IsExpression E v os x
      named-row h there signed x e = call-at-row (function_at u f).t h there signed x e

    -- ---- 6.5.2.2p1: by a value

    module _ (u : WholeUnit) (a : TypedTree) (callee : IsOperand E v os a) where
      pointed-row : (t : Ty) (ts : Tys) (c : Bool) → type_of a ≡ PointerTo (FunctionTy t ts c) → (o : Option (List TypedTree)) → passed_arguments ts c args ≡ o
          → (x : TypedTree) → pointed_call line a t o ≡ Some x → IsExpression E v os x
      pointed-row t ts c is None p x e = absurd cc
      pointed-row t ts c is (Some xs) p x e =
          let h : IsProper v (FunctionTy t ts c) = subst (IsProper v) is callee.proper in
          as-made (IsExpression E v os) (source_node line t (CallPointer a (arguments_of xs))) x (record {
            typed = λ i. (
              t,
              ts,
              c,
              callee.typed i,
              has-value-as E v os a (PointerTo (FunctionTy t ts c)) callee is,
              like-itself t,
              passed-row ts c args all xs p i,
              h.2,
            );
            proper = h.1;
            valued = λ n. (refl, h.0);
          }) e

      call-to-row : (o : Option Ty) → pointed_by (type_of a) ≡ o → (x : TypedTree) → call_to u line a o args ≡ Some x → IsExpression E v os x
      call-to-row None p x e = absurd cc
      call-to-row (Some (FunctionTy t ts c)) p x e = by (is_void t || is_complete_in (layouts u) t) e
        where
          by : (b : Bool) → (if b then pointed_call line a t (passed_arguments ts c args) else None) ≡ Some x → IsExpression E v os x
          by true e = pointed-row t ts c (pointed-type (type_of a) (FunctionTy t ts c) callee.plain p) (passed_arguments ts c args) refl x e
          by false e = absurd cc
      call-to-row (Some VoidTy) p x e = absurd cc
      call-to-row (Some (IntTy k)) p x e = absurd cc
      call-to-row (Some (PointerTo t)) p x e = absurd cc
      call-to-row (Some (ArrayOf t n)) p x e = absurd cc
      call-to-row (Some (StructTag n)) p x e = absurd cc
      call-to-row (Some (UnionTag n)) p x e = absurd cc
      call-to-row (Some (ConstOf t)) p x e = absurd cc

      pub through-row : (x : TypedTree) → call_through u line a args ≡ Some x → IsExpression E v os x
      through-row x e = call-to-row (pointed_by (type_of a)) refl x e
