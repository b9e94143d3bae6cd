-- What the initializer of an object gives it: what the code's answers come to.
use Rattle.std.proofs.Common.{◌≡◌, ℕ, ◌+◌, ◌<◌, ◌≤◌, Bool, true, false, List, [], ◌∷◌, ◌++◌, Option, Some, None, length, drop, set, get_or, option_map, suc, refl, sym, ◌∙◌, ap, arith, append_assoc, length-set}
use Rattle.std.specs.Prelude.{if◌then◌else◌}
use Rattle.std.proofs.Math.Seq.{drop-cons}
use Rattle.std.proofs.lemmas.List.{drop_all, get_or-set_same, length-map, set-get_or, set-set}
use Rattle.pv_tree.specs.Syntax.{InitializerTree}
use Rattle.pv_types.specs.Known.{Known, env, tree}
use Rattle.pv_types.specs.Formed.{completions}
use Rattle.pv_types.specs.Layouts.{Completed, layouts_of}
use Rattle.pv_types.specs.Ty.{Ty, VoidTy, IntTy, PointerTo, ArrayOf, StructTag, UnionTag, FunctionTy, ConstOf}
use Rattle.pv_typed.specs.declared.entries.Init.{Init}
use Rattle.pv_typed.specs.declared.entries.Object.{Object}
use Rattle.pv_typed.specs.Entries.{stored_in, with_object_at, with_store}
use Rattle.pv_typed.specs.Formed.{Grown}
use Rattle.pv_typed.specs.Headed.{list_of}
use Rattle.pv_typed.specs.Tables.{Stored, nodes, object_in, store_in, whole_unit as whole_of}
use Rattle.pv_typed.specs.TypedUnits.{Store, TypedObject, WholeUnit, object_at}
use Rattle.pv_typed.specs.UnitParts.{no_object}
use Rattle.pv_typed.proofs.Each.{each_at}
use Rattle.pv_check.specs.Kept.{Kept}
use Rattle.pv_check.specs.Open.{state_of, IsOpen, Goes}
use Rattle.pv_check.specs.Raw.{Raw}
use Rattle.pv_check.specs.State.{Scope, State}
use Rattle.pv_typed.specs.Constants.{and_then}
use Rattle.pv_check.specs.State as check
use Rattle.pv_check.proofs.ArmLaws.{goes_kept}
use Rattle.pv_check.proofs.Literals.{goes_same_types}
use Rattle.pv_check.proofs.Opening.{open_goes, same_goes, scopes_stay, state_stays, then_goes}
use Rattle.pv_unit.specs.declared.giving.Completion.{Completion}
use Rattle.pv_unit.specs.Giving.{given_if, given_in, with_stores}
use Rattle.pv_unit.specs.Initializers.{Stores, Given, given_to, initializer_stores, initialized_object, whole_object}
use Rattle.pv_unit.specs.InitializerParts.{is_braced}
use Rattle.pv_unit.specs.Parts.{can_be_initialized, with_size}
use Rattle.pv_unit.specs.Rules.{After}
use Rattle.pv_unit.specs.Stores.{AreStores, Fills, IsStore, behind, stores_if, stores_in}
use Rattle.pv_unit.specs.ValueRules.{to_expressions, values, with_given}
use Rattle.pv_unit.specs.ValueRules as object_rules
use Rattle.pv_unit.proofs.Growth.{complete_stays, store_same, stores_same, stores_stay}
use Rattle.pv_unit.proofs.ValueWords.{values_completed}

-- ---- the type, and the stores

same_behind : (o : Option (After State Stores)) → option_map (behind []) o ≡ o
same_behind None = refl
same_behind (Some x) = refl

if_true : {A : Type 0} (b : Bool) (x y : A) → b ≡ true → x ≡ (if b then x else y)
if_true true x y e = refl
if_true false x y e = cc

if_false : {A : Type 0} (b : Bool) (x y : A) → b ≡ false → y ≡ (if b then x else y)
if_false true x y e = cc
if_false false x y e = refl

-- an array of unknown size with complete elements is one while the tables grow
pub can_stay : (a b : Stored) → Goes a b → (t : Ty) → can_be_initialized (env a.known) t ≡ true → can_be_initialized (env b.known) t ≡ true
can_stay a b g (ArrayOf t None) e = complete_stays (env a.known) (env b.known) g.completed t e
can_stay a b g (ArrayOf t (Some n)) e = complete_stays (env a.known) (env b.known) g.completed (ArrayOf t (Some n)) e
can_stay a b g (ConstOf t) e = complete_stays (env a.known) (env b.known) g.completed (ConstOf t) e
can_stay a b g VoidTy e = cc
can_stay a b g (IntTy k) e = refl
can_stay a b g (PointerTo t) e = refl
can_stay a b g (StructTag n) e = complete_stays (env a.known) (env b.known) g.completed (StructTag n) e
can_stay a b g (UnionTag n) e = complete_stays (env a.known) (env b.known) g.completed (UnionTag n) e
can_stay a b g (FunctionTy t ts v) e = cc

module _ (lasting : Bool) (texts : List (List ℕ)) (m0 : Stored) (s0 : Raw) (t : Ty) (i : InitializerTree) where
  abbrev st0 : State
  st0 = state_of texts false s0 m0

  abbrev braced_in : List Completed → Bool
  braced_in done = is_braced done (whole_object t) i

  abbrev gives : Bool → Option (After State Stores) → Option (After State Given)
  gives can o = if can then option_map (given_to t (braced_in (values.completed st0))) o else None

  object_is : initialized_object values lasting t i st0 ≡ gives (can_be_initialized (layouts_of (values.completed st0)) t) (initializer_stores values lasting (whole_object t) i st0)
  unfolding initialized_object
  object_is = refl

  can_is : can_be_initialized (layouts_of (values.completed st0)) t ≡ can_be_initialized (env m0.known) t
  can_is = ap (λ (done : List Completed). can_be_initialized (layouts_of done) t) (values_completed st0)

  pub given_refused : can_be_initialized (env m0.known) t ≡ false → None ≡ initialized_object values lasting t i st0
  given_refused can =
      if_false (can_be_initialized (layouts_of (values.completed st0)) t) (option_map (given_to t (braced_in (values.completed st0))) (initializer_stores values lasting (whole_object t) i st0)) None (can_is ∙ can)
      ∙ sym object_is

  typed_is : (o : Option (After State Stores)) → can_be_initialized (env m0.known) t ≡ true → o ≡ option_map (behind []) (initializer_stores values lasting (whole_object t) i st0)
      → option_map (given_to t (braced_in (values.completed st0))) o ≡ initialized_object values lasting t i st0
  typed_is o can typed =
      ap (option_map (given_to t (braced_in (values.completed st0)))) (typed ∙ same_behind (initializer_stores values lasting (whole_object t) i st0))
      ∙ if_true (can_be_initialized (layouts_of (values.completed st0)) t) (option_map (given_to t (braced_in (values.completed st0))) (initializer_stores values lasting (whole_object t) i st0)) None (can_is ∙ can)
      ∙ sym object_is

  pub given_none : can_be_initialized (env m0.known) t ≡ true → None ≡ option_map (behind []) (initializer_stores values lasting (whole_object t) i st0) → None ≡ initialized_object values lasting t i st0
  given_none can none = typed_is None can none

  abbrev given_as : Ty → Bool → List Store → State → Option (After State Given)
  given_as u b xs s = Some (record { value = record { t = u; braced = b; stores = xs }; state = s })

  pub given_done : (m1 m2 : Stored) (s1 : Raw) (n : ℕ) (out : List Init) (x : Completion) → can_be_initialized (env m0.known) t ≡ true → Fills m0 m1 s1 out → Kept m1 m2
      → stores_if texts s1 m1 out (Some n) ≡ option_map (behind []) (initializer_stores values lasting (whole_object t) i st0) → tree m2.known x.t.0 ≡ with_size t n → x.braced ≡ braced_in (completions m0.known)
      → given_if texts s1 m2 out (Some x) ≡ initialized_object values lasting t i st0
  given_done m1 m2 s1 n out x can fills k typed tree_is braced =
      let h = goes_kept m1 m2 k in
      let st1 = state_of texts false s1 m1 in
      let braced_is : x.braced ≡ braced_in (values.completed st0) = braced ∙ sym (ap braced_in (values_completed st0)) in
      let state : state_of texts false s1 m2 ≡ st1 = state_stays texts false m1 m2 s1 fills.opened h k.whole in
      ap (λ (u : Ty). given_as u x.braced (stores_in m2 out) (state_of texts false s1 m2)) tree_is
      ∙ ap (λ b. given_as (with_size t n) b (stores_in m2 out) (state_of texts false s1 m2)) braced_is
      ∙ ap (λ xs. given_as (with_size t n) (braced_in (values.completed st0)) xs (state_of texts false s1 m2)) (stores_same m1 m2 h out fills.stores)
      ∙ ap (given_as (with_size t n) (braced_in (values.completed st0)) (stores_in m1 out)) state
      ∙ typed_is (stores_if texts s1 m1 out (Some n)) can typed

pub fills_kept : (m0 m1 m2 : Stored) (s1 : Raw) (out : List Init) → Fills m0 m1 s1 out → Kept m1 m2 → Fills m0 m2 s1 out
fills_kept m0 m1 m2 s1 out f k =
    let h = goes_kept m1 m2 k in
    record { goes = then_goes m0 m1 m2 f.goes h; opened = open_goes m1 m2 s1 f.opened h; stores = stores_stay m1 m2 h out f.stores }

-- ---- the stores are the object's

-- some of them are
pub record Storing (m0 : Stored) (o : ℕ) (xs : List Init) (k : ℕ) (m : Stored) : Type 0 where
  pub grown : Grown m0 m
  pub known : m.known ≡ m0.known
  pub left : with_stores (whole_of m) o (stores_in m0 (drop k xs)) ≡ with_stores (whole_of m0) o (stores_in m0 xs)

abbrev with_at : WholeUnit → ℕ → TypedObject → WholeUnit
with_at u o y = record u { objects = set u.objects o y }

abbrev more_stores : TypedObject → List Store → TypedObject
more_stores y xs = record y { inits = y.inits ++ xs }

append_nil : {A : Type 0} (xs : List A) → xs ++ [] ≡ xs
append_nil [] = refl
append_nil (x ∷ xs) = ap (λ ys. x ∷ ys) (append_nil xs)

-- all at once
stores_are : (u : WholeUnit) (o : ℕ) (xs : List Store) → o < length u.objects → with_stores u o xs ≡ with_at u o (more_stores (object_at u o) xs)
stores_are u o [] lt =
    ap (λ os. record u { objects = os }) (sym (set-get_or u.objects o no_object))
    ∙ ap (λ is. with_at u o (record (object_at u o) { inits = is })) (sym (append_nil (object_at u o).inits))
stores_are u o (x ∷ xs) lt =
    let y = object_at u o in
    let v = with_store u o x in
    let size = length-set u.objects o (stored_in y x) in
    let within : o < length v.objects = omega (arith, lt, size) in
    stores_are v o xs within
    ∙ ap (λ (z : TypedObject). with_at v o (more_stores z xs)) (get_or-set_same u.objects o (stored_in y x) no_object lt)
    ∙ ap (λ os. record u { objects = os }) (set-set u.objects o (stored_in y x) (more_stores (stored_in y x) xs))
    ∙ ap (λ is. with_at u o (record y { inits = is })) (append_assoc y.inits (x ∷ []) xs)

-- the object as it is set, with the stores that it has
abbrev set_as : Object → Ty → Bool → TypedObject
set_as x t b = record { name = x.name; t = t; line = x.line; lasting = x.lasting; braced = b; inits = [] }

unit_given : (m0 m1 m2 : Stored) (o : ℕ) (old : Object) (x : Completion) (xs : List Store) → o < length (whole_of m0).objects
    → object_at (whole_of m0) o ≡ object_in m0.known (nodes m0) (old, list_of m0.objects o)
    → whole_of m1 ≡ with_stores (whole_of m0) o xs → m1.known ≡ m0.known
    → whole_of m2 ≡ with_object_at (whole_of m1) o (set_as old (tree m1.known x.t.0) x.braced)
    → whole_of m2 ≡ with_at (whole_of m0) o (record (object_at (whole_of m0) o) { t = tree m0.known x.t.0; braced = x.braced; inits = (object_at (whole_of m0) o).inits ++ xs })
unit_given m0 m1 m2 o old x xs lt was stored known is =
    let w = whole_of m0 in
    let y = object_at w o in
    let t = tree m0.known x.t.0 in
    let more = more_stores y xs in
    is
    ∙ ap (λ (k : Known). with_object_at (whole_of m1) o (set_as old (tree k x.t.0) x.braced)) known
    ∙ ap (λ v. with_object_at v o (set_as old t x.braced)) (stored ∙ stores_are w o xs lt)
    ∙ ap (λ (z : TypedObject). with_at (with_at w o more) o (record (set_as old t x.braced) { inits = z.inits })) (get_or-set_same w.objects o more no_object lt)
    ∙ ap (λ os. record w { objects = os }) (set-set w.objects o more (record (set_as old t x.braced) { inits = more.inits }))
    ∙ ap (λ (z : TypedObject). with_at w o (record { name = z.name; t = t; line = z.line; lasting = z.lasting; braced = x.braced; inits = more.inits })) (sym was)

pub object_given : (texts : List (List ℕ)) (m0 m1 m2 : Stored) (s : Raw) (o : ℕ) (old : Object) (x : Completion) (out : List Init) → IsOpen m0 s → Goes m0 m2 → o < length m0.objects
    → object_at (whole_of m0) o ≡ object_in m0.known (nodes m0) (old, list_of m0.objects o)
    → whole_of m1 ≡ with_stores (whole_of m0) o (stores_in m0 out) → m1.known ≡ m0.known
    → whole_of m2 ≡ with_object_at (whole_of m1) o (set_as old (tree m1.known x.t.0) x.braced)
    → state_of texts false s m2 ≡ with_given o (given_in m0 out x) (state_of texts false s m0)
object_given texts m0 m1 m2 s o old x out ready g lt was stored known is =
    let kept = length-map m0.objects (object_in m0.known (nodes m0)) in
    let within : o < length (whole_of m0).objects = omega (arith, lt, kept) in
    ap (λ ss. record (state_of texts false s m2) { scopes = ss }) (scopes_stay m0 m2 s ready g)
    ∙ ap (λ (w : WholeUnit). record (state_of texts false s m0) { unit = w }) (unit_given m0 m1 m2 o old x (stores_in m0 out) within was stored known is)

-- ---- the call

abbrev given_all : ℕ → check.After Given → Option State
given_all o f = Some (with_given o f.value f.state)

pub giving_done : (lasting : Bool) (texts : List (List ℕ)) (m1 m2 : Stored) (s1 : Raw) (t u : Ty) (i : InitializerTree) (s : State) (o : ℕ) (out : List Init) (x : Completion) → u ≡ t
    → given_if texts s1 m1 out (Some x) ≡ initialized_object values lasting t i s → state_of texts false s1 m2 ≡ with_given o (given_in m1 out x) (state_of texts false s1 m1)
    → Some (state_of texts false s1 m2) ≡ and_then (object_rules.typed_initializer lasting u i s) (given_all o)
giving_done lasting texts m1 m2 s1 t u i s o out x same typed is =
    ap (λ z. Some z) is ∙ ap (λ y. and_then (to_expressions y) (given_all o)) typed ∙ ap (λ (v : Ty). and_then (object_rules.typed_initializer lasting v i s) (given_all o)) (sym same)
