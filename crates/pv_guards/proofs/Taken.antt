-- The arguments of a call of the library are values of its parameters' types (C17 6.5.2.2p7, 7.1.4p1).
use Rattle.std.proofs.Common.{◌≡◌, ◌^◌, Bool, true, false, List, [], ◌∷◌, ◌++◌, append_assoc, append-nil, refl, sym, subst}
use Rattle.std.proofs.lemmas.Bool.{lt-ltb}
use Rattle.pv_num.specs.Kinds.{is_character_kind}
use Rattle.pv_types.specs.Ty.{Ty, Tys, NoTys, MoreTys, VoidTy, IntTy, PointerTo, ArrayOf, StructTag, UnionTag, FunctionTy, ConstOf}
use Rattle.pv_types.specs.Layouts.{Entry}
use Rattle.pv_types.specs.Sorts.{bare_type}
use Rattle.pv_library.specs.declared.library.Library.{Library}
use Rattle.pv_library.specs.declared.library.Library.TheVariants as library
use Rattle.pv_library.specs.LibraryTypes.{prototype}
use Rattle.pv_libc.specs.declared.values.Arg.{Arg}
use Rattle.pv_object.specs.declared.values.Value.TheVariants.{Int as IntValue, Unset, Pointer as PointerValue}
use Rattle.pv_world.specs.Worlds.{Worth, Nothing, Missing, Scalar, Whole}
use Rattle.pv_world.specs.Worths.{value_of}
use Rattle.pv_guards.specs.Worths.{IsOfType, IsThere}
use Rattle.pv_guards.specs.Typed.{AreLike, AreAllLike, AreParametersOf}
use Rattle.pv_guards.specs.Ruled.{is_taken, are_taken, takes_arguments}
use Rattle.pv_guards.proofs.Numbers.{both, fits_tested}
use Rattle.pv_guards.proofs.Values.{from-bare}

-- ---- the parameters of functions of the library are pointers and integers, none of which is a character

abbrev IsPlain : Ty → Type 0
IsPlain (IntTy k) = is_character_kind k ≡ false
IsPlain (PointerTo t) = Unit {0}
IsPlain _ = ⊥

abbrev pub ArePlain : Tys → Type 0
ArePlain NoTys = Unit {0}
ArePlain (MoreTys t ts) = IsPlain t × ArePlain ts

abbrev HasPlain : Ty → Type 0
HasPlain (FunctionTy t ts variadic) = ArePlain ts
HasPlain _ = ⊥

plain-parameters : (f : Library) → HasPlain (prototype f)
plain-parameters library.Malloc = (refl, tt)
plain-parameters library.Calloc = (refl, (refl, tt))
plain-parameters library.Free = (tt, tt)
plain-parameters library.Realloc = (tt, (refl, tt))
plain-parameters library.Memcpy = (tt, (tt, (refl, tt)))
plain-parameters library.Memmove = (tt, (tt, (refl, tt)))
plain-parameters library.Memset = (tt, (refl, (refl, tt)))
plain-parameters library.Memcmp = (tt, (tt, (refl, tt)))
plain-parameters library.Strlen = (tt, tt)
plain-parameters library.Strcmp = (tt, (tt, tt))
plain-parameters library.Strcpy = (tt, (tt, tt))
plain-parameters library.Exit = (refl, tt)
plain-parameters library.Abort = tt
plain-parameters library.Printf = (tt, tt)

-- what is asked of the arguments of a call by these types
pub record Calls (f : Library) (ts : Tys) (variadic : Bool) : Type 0 where
  pub parameters : Tys
  pub plain : ArePlain parameters
  pub like : AreAllLike ts parameters
  pub taken : (args : List Arg) → are_taken parameters variadic args ≡ true → takes_arguments (prototype f) args ≡ true

pub calls-by : (f : Library) (ts : Tys) (variadic : Bool) → AreParametersOf (prototype f) ts variadic → Calls f ts variadic
calls-by f ts variadic h = by (prototype f) refl (plain-parameters f) h
  where
    by : (p : Ty) → prototype f ≡ p → HasPlain p → AreParametersOf p ts variadic → Calls f ts variadic
    by (FunctionTy r us v) e p h = record {
      parameters = us;
      plain = p;
      like = h.0;
      taken = λ args g. subst (λ q. takes_arguments q args ≡ true) (sym e) (subst (λ c. are_taken us c args ≡ true) h.1 g);
    }
    by VoidTy e p h = absurd h
    by (IntTy k) e p h = absurd h
    by (PointerTo t) e p h = absurd h
    by (ArrayOf t n) e p h = absurd h
    by (StructTag n) e p h = absurd h
    by (UnionTag n) e p h = absurd h
    by (ConstOf t) e p h = absurd h

-- ---- a value of such a type that is there

plain-taken : (env : List Entry) (t : Ty) (v : Worth) → IsPlain t → IsOfType env t v → IsThere v → is_taken t (value_of v) ≡ true
plain-taken env (IntTy k) (Scalar (IntValue n)) p h there = fits_tested k n h
plain-taken env (IntTy k) (Scalar Unset) p h there = absurd (no-both (is_character_kind k) h p)
  where
    no-both : (c : Bool) → c ≡ true → c ≡ false → ⊥
    no-both true e f = absurd cc
    no-both false e f = absurd cc
plain-taken env (IntTy k) (Scalar (PointerValue q)) p h there = absurd h
plain-taken env (IntTy k) Missing p h there = absurd there
plain-taken env (IntTy k) Nothing p h there = absurd h
plain-taken env (IntTy k) (Whole bs a) p h there = absurd h
plain-taken env (PointerTo t) (Scalar (PointerValue q)) p h there = lt-ltb q.address (2 ^ 64) h
plain-taken env (PointerTo t) (Scalar (IntValue n)) p h there = absurd h
plain-taken env (PointerTo t) (Scalar Unset) p h there = absurd h
plain-taken env (PointerTo t) Missing p h there = absurd there
plain-taken env (PointerTo t) Nothing p h there = absurd h
plain-taken env (PointerTo t) (Whole bs a) p h there = absurd h
plain-taken env VoidTy v p h there = absurd p
plain-taken env (ArrayOf t n) v p h there = absurd p
plain-taken env (StructTag n) v p h there = absurd p
plain-taken env (UnionTag n) v p h there = absurd p
plain-taken env (FunctionTy t ts c) v p h there = absurd p
plain-taken env (ConstOf t) v p h there = absurd p

-- ---- arguments, one after another: with those that are left they are taken

abbrev pub Take : Library → Tys → (variadic : Bool) → (got : List Arg) → Type 0
Take f ts variadic got = (rest : List Arg) → are_taken ts variadic rest ≡ true → takes_arguments (prototype f) (got ++ rest) ≡ true

none-taken : (variadic : Bool) → are_taken NoTys variadic [] ≡ true
none-taken true = refl
none-taken false = refl

pub take-all : (f : Library) (variadic : Bool) (got : List Arg) → Take f NoTys variadic got → takes_arguments (prototype f) got ≡ true
take-all f variadic got h = subst (λ args. takes_arguments (prototype f) args ≡ true) (append-nil got) (h [] (none-taken variadic))

behind : (f : Library) (got : List Arg) (x : Arg) (rest : List Arg) → takes_arguments (prototype f) (got ++ x ∷ rest) ≡ true → takes_arguments (prototype f) ((got ++ x ∷ []) ++ rest) ≡ true
behind f got x rest h = subst (λ args. takes_arguments (prototype f) args ≡ true) (sym (append_assoc got (x ∷ []) rest)) h

pub take-further : (f : Library) (got : List Arg) (x : Arg) → Take f NoTys true got → Take f NoTys true (got ++ x ∷ [])
take-further f got x h rest e = behind f got x rest (h (x ∷ rest) refl)

pub take-one : (f : Library) (env : List Entry) (t u : Ty) (us : Tys) (variadic : Bool) (got : List Arg) (x : Arg) (v : Worth) → x.value ≡ value_of v → AreLike t u → IsPlain u → IsOfType env (bare_type t) v → IsThere v → Take f (MoreTys u us) variadic got → Take f us variadic (got ++ x ∷ [])
take-one f env t u us variadic got x v same like plain h there g rest e =
    let one : is_taken u x.value ≡ true = subst (λ y. is_taken u y ≡ true) (sym same) (plain-taken env u v plain ((like env v).0 (from-bare env t v h)) there) in
    behind f got x rest (g (x ∷ rest) (both (is_taken u x.value) (are_taken us variadic rest) one e))
