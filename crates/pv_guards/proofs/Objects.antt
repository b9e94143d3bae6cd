-- What operations on objects leave: bodies, and the objects in scope (C17 6.2.4, 6.7.9, 6.9.1).
use Rattle.std.proofs.Common.{◌≡◌, ◌≢◌, ℕ, zero, suc, ◌+◌, ◌<◌, ◌≤◌, ◌^◌, Bool, true, false, cond, eqb, List, [], ◌∷◌, ◌++◌, length, length-append, take, replicate, Option, Some, None, Result, Ok, Err, refl, sym, ap, ◌∙◌, subst, arith, ◌⊎◌, inl, inr}
use Rattle.std.specs.Prelude.{unwrap_or, if◌then◌else◌, ◌-◌, ◌==◌, slice_index_or}
use Rattle.std.specs.FinMap as map
use Rattle.std.specs.FinMap.{get-insert}
use Rattle.std.specs.Cmp.{nat_cmp_total, unsigned_tied}
use Rattle.std.proofs.lemmas.Bool.Decides.{nat_tests}
use Rattle.pv_types.specs.Ty.{Ty}
use Rattle.pv_types.specs.Sorts.{bare_type}
use Rattle.pv_inst.specs.declared.values.CreateError.{CreateError}
use Rattle.pv_inst.specs.Table.{Table, instance_at, IsNumber}
use Rattle.pv_inst.specs.Placing.{Request, place}
use Rattle.pv_inst.specs.Ending.{after_end}
use Rattle.pv_inst.specs.Use.{is_heap, is_function}
use Rattle.pv_inst.proofs.Apartness.{same_or_not}
use Rattle.pv_shadow.specs.declared.byte.Byte.{Byte}
use Rattle.pv_shadow.specs.Whole.{number_bytes}
use Rattle.pv_object.specs.Memory.{Mem}
use Rattle.pv_object.specs.Creating.{with_new_bytes, without}
use Rattle.pv_object.proofs.Born.{IsBorn, born}
use Rattle.pv_typed.specs.Known.{Each}
use Rattle.pv_typed.specs.TypedUnits.{layouts, object_at, literal_at}
use Rattle.pv_world.specs.Worlds.{Worth, World, Bindings, Body}
use Rattle.pv_world.specs.Objects.{bind, bound_in, bind_in, owning, owner_of, instance_of, base_in, makes_object}
use Rattle.pv_world.specs.ObjectParts.{owned_next, object_made, filling}
use Rattle.pv_eval.specs.States.{Setting, State}
use Rattle.pv_eval.specs.Acting.{with_side}
use Rattle.pv_eval.specs.TypeForms.{lvalue, size_of}
use Rattle.pv_world.specs.Accesses.{stored_as}
use Rattle.pv_eval.specs.Objects.{request_of, instance_for, text_for}
use Rattle.pv_eval.specs.Operations.{Op, Makes, Ends, Fills, Puts, PutsText, does, act}
use Rattle.pv_eval.proofs.Closed.{IsAsked}
use Rattle.pv_exec.proofs.Memory.Rows.{Leads as Led}
use Rattle.pv_exec.proofs.Memory.Tables.{place-leads, ended-leads}
use Rattle.pv_exec.proofs.Memory.Ways.{OfTables}
use Rattle.pv_exec.proofs.Memory.Worlds.{Onward}
use Rattle.pv_exec.proofs.Memory.Operations.{does-on}
use Rattle.pv_guards.specs.Worths.{IsThere}
use Rattle.pv_guards.specs.Fair.{IsFair}
use Rattle.pv_guards.specs.Typed.{IsIn, IsInScope, IsValueType}
use Rattle.pv_guards.specs.Soundness.{Value, IsHomeIn, IsHome, IsCode, LiveStill, AllLiveStill, IsSound, IsAfter}
use Rattle.pv_guards.specs.TypedStatements.{IsMakeable}
use Rattle.pv_world.specs.Suiting.{is_stored}
use Rattle.pv_guards.specs.Ruled.{has_instance, has_rule}
use Rattle.pv_guards.specs.Plain.{plain_doing, act_plainly}
use Rattle.pv_guards.proofs.Found.{no-name}
use Rattle.pv_guards.proofs.Fair.{Keeps, store-later, written-fair, plain-fair}
use Rattle.pv_guards.proofs.Living.{all-same, all-on, place-live, IsNext, next-made, next-home, home-later, none-earlier, new-other, ended-others, ended-code, ended-none, ended-length, code-earlier, not-code}
use Rattle.pv_guards.proofs.Made.{number-of, number-led, made-led, laid-led, led-changes}
use Rattle.pv_guards.proofs.Numbers.{both}
use Rattle.pv_guards.proofs.Ruled.{bound-there}
use Rattle.pv_guards.proofs.Values.{stored-of}
use Rattle.pv_guards.proofs.Possible.{makes-same, ends-same, fills-same, puts-same, text-same}
use Rattle.pv_guards.proofs.Results.{Answering}
use Rattle.pv_guards.proofs.Triples.{Holds}
use Rattle.pv_guards.proofs.Leaving.{ordered, instance-same, Keeping, leaves-keeping, stored-fair}
use Rattle.pv_guards.proofs.Acting.{acts-so, sides-keep}
use Rattle.pv_guards.proofs.LibraryLeads.{blank-fair, cleared-in-fair}
use Rattle.pv_guards.proofs.Sure.{Sure, does-sure}

-- 6.9.1: a body has begun, above these
abbrev pub InBody : List Body → World → Type 0
InBody rest z = (m : Body) × (z.bodies ≡ m ∷ rest)

-- a later world, whose bodies may be others
pub record IsLater (w z : World) : Type 0 where
  pub made : Keeps w.memory.table z.memory.table
  pub lives : AllLiveStill w.memory.table z.memory.table
  pub statics : z.statics ≡ w.statics
  pub literals : z.literals ≡ w.literals
  pub functions : z.functions ≡ w.functions

-- within a body: a later world than that in which it was begun, which is sound; the body's own objects were made since
pub record Within (b : Setting) (os : List ℕ) (rest : List Body) (w z : World) : Type 0 where
  pub later : IsLater w z
  pub sound : IsSound b os z
  pub body : InBody rest z
  pub own : (o : ℕ) → IsIn o os → (object_at b.unit o).lasting ≡ false → instance_at w.memory.table.instances (instance_for b o z) ≡ None

pub later-after : {w y z : World} → IsLater w y → IsAfter y z → IsLater w z
later-after {w} {y} {z} h g = record {
  made = λ p k. g.made p (h.made p k);
  lives = all-on w.memory.table y.memory.table z.memory.table h.lives g.lives;
  statics = g.statics ∙ h.statics;
  literals = g.literals ∙ h.literals;
  functions = g.functions ∙ h.functions;
}

-- fewer objects are in scope
pub scope-more : (b : Setting) (os ds : List ℕ) → ((n : ℕ) → IsIn n os → IsIn n ds) → (o : ℕ) → IsInScope b.unit os o → IsInScope b.unit ds o
scope-more b os ds f o h = by (object_at b.unit o).lasting h
  where
    by : (c : Bool) → IsIn o (if c then b.unit.statics else os) → IsIn o (if c then b.unit.statics else ds)
    by true h = h
    by false h = f o h

pub sound-less : (b : Setting) (os ds : List ℕ) (w : World) → ((n : ℕ) → IsIn n os → IsIn n ds) → IsSound b ds w → IsSound b os w
sound-less b os ds w f s = record {
  laid = s.laid;
  bytes = s.bytes;
  objects = λ o h. s.objects o (scope-more b os ds f o h);
  apart = λ o q h g e. s.apart o q (scope-more b os ds f o h) (scope-more b os ds f q g) e;
  literals = s.literals;
  functions = s.functions;
  code = s.code;
  owned = s.owned;
}

-- what is the body's own stays so
pub own-after : (b : Setting) (os : List ℕ) (w y z : World) → IsAfter y z → ((o : ℕ) → IsIn o os → (object_at b.unit o).lasting ≡ false → instance_at w.memory.table.instances (instance_for b o y) ≡ None)
    → (o : ℕ) → IsIn o os → (object_at b.unit o).lasting ≡ false → instance_at w.memory.table.instances (instance_for b o z) ≡ None
own-after b os w y z g h o k a = ap (instance_at w.memory.table.instances) (instance-same y z g.statics g.bodies o (object_at b.unit o).lasting) ∙ h o k a

-- 6.2.4p5: an automatic object in scope
pub in-scope : (b : Setting) (os : List ℕ) (o : ℕ) → (object_at b.unit o).lasting ≡ false → IsIn o os → IsInScope b.unit os o
in-scope b os o e h = subst (λ c. IsIn o (if c then b.unit.statics else os)) (sym e) h

pub filling-fair-of : (T : Table) (v : Option ℕ) → ((n : ℕ) → v ≡ Some n → n < 256) → IsFair T (filling v)
filling-fair-of T v h = record { value = h; named = tt; high = λ i n p e f k. absurd (no-name p) }

pub all-fair-of : (T : Table) (n : ℕ) (x : Byte) → IsFair T x → Each (IsFair T) (replicate n x)
all-fair-of T zero x h = tt
all-fair-of T (suc n) x h = (h, all-fair-of T n x h)

pub take-small : (n : ℕ) (vs : List ℕ) → Each (λ (v : ℕ). v < 256) vs → Each (λ (v : ℕ). v < 256) (take n vs)
take-small zero vs h = tt
take-small (suc n) [] h = tt
take-small (suc n) (v ∷ vs) h = (h.0, take-small n vs h.1)

-- 6.7.9: stores into an object in scope, which lives
module _ (b : Setting) (os : List ℕ) where
  abbrev Any : Worth → World → Type 0
  Any v z = Unit {0}

  keeps-any : (v : Worth) (w z : World) → IsAfter w z → Any v w → Any v z
  keeps-any v w z g h = tt

  stores-so : (line : ℕ) (op : Op) → IsAsked b op → (w : World) → ((z : World) (g : IsAfter w z) (s : IsSound b os z) → (has_rule b op z ≡ true) × (does b op z ≡ plain_doing b op z) × Answering (Keeping b os z s Any) (plain_doing b op z)) → Holds (ordered b os) Any w (act b line op) (act_plainly b line op)
  stores-so line op is w h =
      acts-so b os Any keeps-any line op w (λ z g s.
      let p = h z g s in
      (p.0, p.1, leaves-keeping b os z s Any (plain_doing b op z) (subst (λ d. Onward (OfTables (Led ⊥)) z d) p.1 (does-on b (led-changes b) op is z)) p.2))

  module _ (line o : ℕ) (w : World) (scope : IsInScope b.unit os o) (small : size_of b (object_at b.unit o).t ≤ 2 ^ 32) where
    pub fills-holds : (v : Option ℕ) → ((n : ℕ) → v ≡ Some n → n < 256) → Holds (ordered b os) Any w (act b line (Fills o v)) (act_plainly b line (Fills o v))
    fills-holds v h =
        stores-so line (Fills o v) tt w (λ z g s.
        let T = z.memory.table in
        let n = size_of b (object_at b.unit o).t in (
          bound-there b o z (size_of b (object_at b.unit o).t) (s.objects o scope),
          fills-same b z o (s.objects o scope) v small,
          (refl, refl, refl, refl, refl, all-same T, written-fair T z.memory.bytes (base_in z (instance_of z o (object_at b.unit o).lasting)) (replicate n (filling v)) s.bytes (all-fair-of T n (filling v) (filling-fair-of T v h)), tt),
        ))

    pub puts-holds : (offset : ℕ) (t : Ty) (v : Worth) → offset + size_of b t ≤ size_of b (object_at b.unit o).t → IsValueType (bare_type t) → IsThere v → ((z : World) → IsAfter w z → Value b z (bare_type t) v)
        → Holds (ordered b os) Any w (act b line (Puts o offset (lvalue b t) v)) (act_plainly b line (Puts o offset (lvalue b t) v))
    puts-holds offset t v lies valued there h =
        stores-so line (Puts o offset (lvalue b t) v) (t, refl) w (λ z g s.
        let T = z.memory.table in
        let l = lvalue b t in
        let f = h z g in (
          both (has_instance b o z) (is_stored l.shape l.size v) (bound-there b o z (size_of b (object_at b.unit o).t) (s.objects o scope)) (stored-of (layouts b.unit) t v valued f.0 there),
          puts-same b z o (s.objects o scope) offset t v small lies valued f there,
          (refl, refl, refl, refl, refl, all-same T, written-fair T z.memory.bytes (base_in z (instance_of z o (object_at b.unit o).lasting) + offset) (stored_as l.number l.shape v) s.bytes (stored-fair T l.number l.shape v f.1), tt),
        ))

    pub text-holds : (offset size l : ℕ) → offset + size ≤ size_of b (object_at b.unit o).t → Each (λ (v : ℕ). v < 256) (literal_at b.unit l).bytes
        → Holds (ordered b os) Any w (act b line (PutsText o offset size l)) (act_plainly b line (PutsText o offset size l))
    text-holds offset size l lies h =
        stores-so line (PutsText o offset size l) tt w (λ z g s.
        let T = z.memory.table in (
          bound-there b o z (size_of b (object_at b.unit o).t) (s.objects o scope),
          text-same b z o (s.objects o scope) offset size l small lies,
          (refl, refl, refl, refl, refl, all-same T, written-fair T z.memory.bytes (base_in z (instance_of z o (object_at b.unit o).lasting) + offset) (number_bytes None 0 (text_for b size l)) s.bytes (plain-fair T None 0 (text_for b size l) (take-small size (literal_at b.unit l).bytes h)), tt),
        ))

-- an instance that was made has a number, and is new
pub placed-number : (T : Table) (r : Request) (w : Result ℕ CreateError × Table) → place T r ≡ w → (i : ℕ) → w.0 ≡ Ok i → IsNumber w.1.instances i
placed-number T r (Ok j, U) e i f =
    let n = born T U r i (sym f ∙ ap (λ (x : Result ℕ CreateError × Table). x.0) (sym e)) (ap (λ (x : Result ℕ CreateError × Table). x.1) (sym e)) in
    number-of U.instances i n.inst n.is
placed-number T r (Err y, U) e i f = absurd cc

pub placed-born : (T : Table) (r : Request) (w : Result ℕ CreateError × Table) → place T r ≡ w → (i : ℕ) → w.0 ≡ Ok i → IsBorn T w.1 i
placed-born T r (Ok j, U) e i f = born T U r i (sym f ∙ ap (λ (x : Result ℕ CreateError × Table). x.0) (sym e)) (ap (λ (x : Result ℕ CreateError × Table). x.1) (sym e))
placed-born T r (Err y, U) e i f = absurd cc

pub placed-new : (T : Table) (r : Request) (w : Result ℕ CreateError × Table) → place T r ≡ w → (i : ℕ) → w.0 ≡ Ok i → instance_at T.instances i ≡ None
placed-new T r w e i f = (placed-born T r w e i f).was

-- the owners of instances: of the next one this, and of the others what they had
none-owned : (m k : ℕ) (o : Option ℕ) → k ≢ m → slice_index_or (replicate m None ++ o ∷ []) k None ≡ None
none-owned zero zero o d = absurd (d refl)
none-owned zero (suc zero) o d = refl
none-owned zero (suc (suc k)) o d = refl
none-owned (suc m) zero o d = refl
none-owned (suc m) (suc k) o d = none-owned m k o (λ e. d (ap suc e))

others-owned : (os : List (Option ℕ)) (m k : ℕ) (o : Option ℕ) → k ≢ length os + m → slice_index_or ((os ++ replicate m None) ++ o ∷ []) k None ≡ slice_index_or os k None
others-owned [] m k o d = none-owned m k o (λ e. d (omega (arith, e)))
others-owned (x ∷ os) m zero o d = refl
others-owned (x ∷ os) m (suc k) o d = others-owned os m k o (λ e. d (omega (arith, e)))

next-owned : (os : List (Option ℕ)) (m k : ℕ) (o : Option ℕ) → k ≡ length os + m → slice_index_or ((os ++ replicate m None) ++ o ∷ []) k None ≡ o
next-owned [] zero zero o e = refl
next-owned [] zero (suc k) o e = absurd (omega (arith, e))
next-owned [] (suc m) zero o e = absurd (omega (arith, e))
next-owned [] (suc m) (suc k) o e = next-owned [] m k o (omega (arith, e))
next-owned (x ∷ os) m zero o e = absurd (omega (arith, e))
next-owned (x ∷ os) m (suc k) o e = next-owned os m k o (omega (arith, e))

abbrev nones : ℕ → List (Option ℕ)
nones m = replicate m None

nones-length : (m : ℕ) → length (nones m) ≡ m
nones-length zero = refl
nones-length (suc m) = ap suc (nones-length m)

owners-length : (os : List (Option ℕ)) (m : ℕ) (o : Option ℕ) → length ((os ++ replicate m None) ++ o ∷ []) ≡ length os + m + 1
owners-length os m o =
    let a = length-append (os ++ replicate m None) (o ∷ []) in
    let c = length-append os (replicate m None) in
    let d = nones-length m in
    omega (arith, a, c, d)

not-zero : (j : ℕ) → (j == 0) ≡ false → 1 ≤ j
not-zero j e = grind (arith, nat_tests)

-- 6.5p6: the world in which the next instance was made for this
module _ (z : World) (M : Mem) (i : ℕ) (o : Option ℕ) (n : ℕ) (number : i ≡ n + 1) (few : length z.owners ≤ n) where
  same-number : (j : ℕ) → 1 ≤ j → j - 1 ≡ length z.owners + (i - 1 - length z.owners) → j ≡ i
  same-number j l f = omega (arith, l, f, number, few)

  pub owner-other : (j : ℕ) → j ≢ i → owner_of (owning z M i o) j ≡ owner_of z j
  owner-other j d = by (j == 0) refl
    where
      by : (c : Bool) → (j == 0) ≡ c → (if c then None else slice_index_or (owned_next z.owners (i - 1) o) (j - 1) None) ≡ (if c then None else slice_index_or z.owners (j - 1) None)
      by true e = refl
      by false e = others-owned z.owners (i - 1 - length z.owners) (j - 1) o (λ f. d (same-number j (not-zero j e) f))

  pub owner-next : owner_of (owning z M i o) i ≡ o
  owner-next =
      let some : (i == 0) ≡ false = grind (arith, nat_tests) in
      let at : i - 1 ≡ length z.owners + (i - 1 - length z.owners) = omega (arith, number, few) in
      ap (λ c. if c then None else slice_index_or (owned_next z.owners (i - 1) o) (i - 1) None) some
      ∙ next-owned z.owners (i - 1 - length z.owners) (i - 1) o at

  pub owners-more : length (owning z M i o).owners ≡ n + 1
  owners-more = let l = owners-length z.owners (i - 1 - length z.owners) o in omega (arith, l, number, few)

-- a binding that was made
get-here : (m : Bindings) (o i q : ℕ) → q ≡ o → map.get (map.insert m o i) q ≡ Some i
get-here m o i q h = let t : eqb q o ≡ true = grind (arith, nat_tests) in get-insert nat_cmp_total m o i q ∙ ap (λ t. cond t (Some i) (map.get m q)) (unsigned_tied q o ∙ t)

get-other : (m : Bindings) (o i q : ℕ) → q ≢ o → map.get (map.insert m o i) q ≡ map.get m q
get-other m o i q h = let t : eqb q o ≡ false = grind (arith, nat_tests) in get-insert nat_cmp_total m o i q ∙ ap (λ t. cond t (Some i) (map.get m q)) (unsigned_tied q o ∙ t)

-- 6.2.4p6: the body, in which the object has this instance from now on
abbrev with_bound : Body → (o i : ℕ) → Body
with_bound m o i = record m { bindings = map.insert m.bindings o i }

-- 6.2.4p2: the number that a binding gives an object
abbrev pub bound_number : Bindings → ℕ → ℕ
bound_number m q = unwrap_or (map.get m q) 0

pub bound-here : (m : Bindings) (o i q : ℕ) → q ≡ o → bound_number (map.insert m o i) q ≡ i
bound-here m o i q h = ap (λ x. unwrap_or x 0) (get-here m o i q h)

pub bound-other : (m : Bindings) (o i q : ℕ) → q ≢ o → bound_number (map.insert m o i) q ≡ bound_number m q
bound-other m o i q h = ap (λ x. unwrap_or x 0) (get-other m o i q h)

pub inserted : (P : ℕ → Type 0) (m : Bindings) (o i q : ℕ) → P i → (q ≢ o → P (bound_number m q)) → P (bound_number (map.insert m o i) q)
inserted P m o i q h g = by (same_or_not q o)
  where
    by : (q ≡ o) ⊎ (q ≢ o) → P (bound_number (map.insert m o i) q)
    by (inl e) = subst P (sym (bound-here m o i q e)) h
    by (inr n) = subst P (sym (bound-other m o i q n)) (g n)

-- a side of a pair changes no binding
pub within-sided : (b : Setting) (os : List ℕ) (rest : List Body) (w : World) (v : Worth) (z : World) (k : ℕ) (high : Bool) → Within b os rest w z → Within b os rest w (with_side z k high)
within-sided b os rest w v z k high h =
    let g = sides-keep b os z k high h.sound in
    record { later = later-after h.later g.0; sound = g.1; body = (h.body.0, g.0.bodies ∙ h.body.1); own = own-after b os w z (with_side z k high) g.0 h.own }

module _ (b : Setting) (os : List ℕ) (rest : List Body) (w : World) where
  -- 6.2.4p2, p6: an automatic object begins, in an instance of its own
  module _ (z : World) (h : Within b os rest w z) (o : ℕ) (automatic : (object_at b.unit o).lasting ≡ false) where
    module _ (i : ℕ) (y : World) (statics : y.statics ≡ z.statics) (bodies : y.bodies ≡ bind_in z.bodies o i) where
      abbrev Numbered : ℕ → Type 0
      Numbered q = ((q ≡ o) × (instance_for b q y ≡ i)) ⊎ (IsInScope b.unit os q × (instance_for b q y ≡ instance_for b q z))

      own-bodies : y.bodies ≡ with_bound h.body.0 o i ∷ rest
      own-bodies = bodies ∙ ap (λ ms. bind_in ms o i) h.body.1

      number-here : (q : ℕ) → q ≡ o → instance_for b q y ≡ i
      number-here q e =
          ap (λ c. instance_of y q c) (ap (λ n. (object_at b.unit n).lasting) e ∙ automatic) ∙ ap (λ ms. unwrap_or (bound_in ms q) 0) own-bodies ∙ bound-here h.body.0.bindings o i q e

      number-other : (q : ℕ) (c : Bool) → q ≢ o → IsIn q (if c then b.unit.statics else o ∷ os) → IsIn q (if c then b.unit.statics else os) × (instance_of y q c ≡ instance_of z q c)
      number-other q true d g = (g, ap (λ m. bound_number m q) statics)
      number-other q false d g =
          (still d g, ap (λ ms. unwrap_or (bound_in ms q) 0) own-bodies ∙ bound-other h.body.0.bindings o i q d ∙ sym (ap (λ ms. unwrap_or (bound_in ms q) 0) h.body.1))
        where
          still : q ≢ o → (q ≡ o) ⊎ IsIn q os → IsIn q os
          still d (inl e) = absurd (d e)
          still d (inr k) = k

      numbered : (q : ℕ) → IsInScope b.unit (o ∷ os) q → Numbered q
      numbered q g = by (same_or_not q o)
        where
          by : (q ≡ o) ⊎ (q ≢ o) → Numbered q
          by (inl e) = inl (e, number-here q e)
          by (inr d) = inr (number-other q (object_at b.unit q).lasting d g)

      module _ (U : Table) (lives : AllLiveStill z.memory.table U) (new : instance_at z.memory.table.instances i ≡ None) (home : IsHome U i (size_of b (object_at b.unit o).t)) where
        homes-now : (q : ℕ) → IsInScope b.unit (o ∷ os) q → IsHome U (instance_for b q y) (size_of b (object_at b.unit q).t)
        homes-now q g = by (numbered q g)
          where
            by : Numbered q → IsHome U (instance_for b q y) (size_of b (object_at b.unit q).t)
            by (inl (e, f)) = subst (λ k. IsHome U k (size_of b (object_at b.unit q).t)) (sym f) (subst (λ n. IsHome U i (size_of b (object_at b.unit n).t)) (sym e) home)
            by (inr (k, f)) =
                let n = size_of b (object_at b.unit q).t in
                subst (λ k. IsHome U k n) (sym f) (home-later z.memory.table U lives (instance_for b q z) n (h.sound.objects q k))

        old-other : (q : ℕ) → IsInScope b.unit os q → instance_for b q z ≢ i
        old-other q k = new-other z.memory.table i (instance_for b q z) (size_of b (object_at b.unit q).t) new (h.sound.objects q k)

        apart-now : (q r : ℕ) → IsInScope b.unit (o ∷ os) q → IsInScope b.unit (o ∷ os) r → instance_for b q y ≡ instance_for b r y → q ≡ r
        apart-now q r g k e = by (numbered q g) (numbered r k)
          where
            by : Numbered q → Numbered r → q ≡ r
            by (inl (x, f)) (inl (u, g)) = x ∙ sym u
            by (inl (x, f)) (inr (k, g)) = absurd (old-other r k (sym g ∙ sym e ∙ f))
            by (inr (k, g)) (inl (x, f)) = absurd (old-other q k (sym g ∙ e ∙ f))
            by (inr (k, f)) (inr (l, g)) = h.sound.apart q r k l (sym f ∙ e ∙ g)

        own-now : (q : ℕ) → IsIn q (o ∷ os) → (object_at b.unit q).lasting ≡ false → instance_at w.memory.table.instances (instance_for b q y) ≡ None
        own-now q g a = by (numbered q (in-scope b (o ∷ os) q a g))
          where
            by : Numbered q → instance_at w.memory.table.instances (instance_for b q y) ≡ None
            by (inl (e, f)) = ap (instance_at w.memory.table.instances) f ∙ none-earlier w.memory.table z.memory.table h.later.lives i new
            by (inr (k, f)) = ap (instance_at w.memory.table.instances) f ∙ h.own q (subst (λ c. IsIn q (if c then b.unit.statics else os)) a k) a

    begun : (name : ℕ) (r : Request) (got : Result ℕ CreateError × Table) → r.size ≡ size_of b (object_at b.unit o).t → is_heap r.kind ≡ false → is_function r.kind ≡ false → place z.memory.table r ≡ got → Led ⊥ z.memory.table got.1 → AllLiveStill z.memory.table got.1 → ((i : ℕ) → got.0 ≡ Ok i → IsNext z.memory.table r i got.1)
        → Answering (λ v y. Within b (o ∷ os) rest w y) (object_made z o false name (with_new_bytes z.memory got))
    begun name r (Ok i, U) large object stored e l a next =
        let M = (with_new_bytes z.memory (Ok i, U)).1 in
        let y = bind (owning z M i (Some o)) o false i in
        let new = placed-new z.memory.table r (Ok i, U) e i refl in
        let n = next i refl in
        let home : IsHome U i (size_of b (object_at b.unit o).t) = subst (λ k. IsHome U i k) large (next-home z.memory.table U r i object n) in
        record {
          later = record {
            made = λ p k. made-led z.memory.table U l p (h.later.made p k);
            lives = all-on w.memory.table z.memory.table U h.later.lives a;
            statics = h.later.statics;
            literals = h.later.literals;
            functions = h.later.functions;
          };
          sound = record {
            laid = laid-led z.memory.table U l h.sound.laid;
            bytes = blank-fair b U (instance_at U.instances i) z.memory.bytes (store-later z.memory.table U (made-led z.memory.table U l) z.memory.bytes h.sound.bytes);
            objects = homes-now i y refl refl U a new home;
            apart = apart-now i y refl refl U a new home;
            literals = λ q g. number-led z.memory.table U l _ (h.sound.literals q g);
            functions = λ q g. number-led z.memory.table U l _ (h.sound.functions q g);
            code = λ j c.
                let d : j ≢ i = λ s. not-code U i n.inst n.is (ap is_function n.kind ∙ stored) (subst (λ k. IsCode U k) s c) in
                let g = h.sound.code j (code-earlier z.memory.table U a j c) in
                (g.0, owner-other z M i (Some o) (length z.memory.table.instances) n.number h.sound.owned j d ∙ g.1, g.2);
            owned = let more = owners-more z M i (Some o) (length z.memory.table.instances) n.number h.sound.owned in let long = n.longer in omega (arith, more, long);
          };
          body = (with_bound h.body.0 o i, ap (λ ms. bind_in ms o i) h.body.1);
          own = own-now i y refl refl U a new home;
        }
    begun name r (Err y, U) large object stored e l a next = tt

    object-begins : Answering (λ v y. Within b (o ∷ os) rest w y) (plain_doing b (Makes o) z)
    object-begins =
        let x = object_at b.unit o in
        let r = request_of b x in
        let T = z.memory.table in
        subst (λ c. Answering (λ v y. Within b (o ∷ os) rest w y) (makes_object o c r z)) (sym automatic)
        (begun r.name r (place T r) refl refl refl refl (place-leads T r (λ y. absurd y)) (place-live T r refl) (next-made T r))

  pub makes-sure : (line o : ℕ) (s : State) → IsMakeable b.unit false o → Within b os rest w s.world → Sure (λ v z. Within b (o ∷ os) rest w z) (act b line (Makes o) s) (act_plainly b line (Makes o) s)
  makes-sure line o s m h =
      does-sure b (λ v z. Within b (o ∷ os) rest w z) (within-sided b (o ∷ os) rest w) line (Makes o) s refl (makes-same b s.world o false m) (object-begins s.world h o m.storage)

  -- 6.2.4p2, p6: an automatic object ends; all others live on
  module _ (z : World) (d : ℕ) (automatic : (object_at b.unit d).lasting ≡ false) (other : IsIn d os → ⊥) (h : Within b (d ∷ os) rest w z) where
    abbrev number : ℕ
    number = instance_for b d z

    abbrev left : World
    left = record z { memory = without z.memory number }

    wider : (o : ℕ) → IsInScope b.unit os o → IsInScope b.unit (d ∷ os) o
    wider o g = scope-more b os (d ∷ os) (λ n k. inr k) o g

    not-this : (o : ℕ) (c : Bool) → (object_at b.unit o).lasting ≡ c → IsIn o (if c then b.unit.statics else os) → o ≢ d
    not-this o true e g f = let p : true ≡ false = sym e ∙ ap (λ n. (object_at b.unit n).lasting) f ∙ automatic in absurd (no-name p)
    not-this o false e g f = other (subst (λ n. IsIn n os) f g)

    other-number : (o : ℕ) → IsInScope b.unit os o → instance_for b o z ≢ number
    other-number o g e = not-this o (object_at b.unit o).lasting refl g (h.sound.apart o d (wider o g) (in-scope b (d ∷ os) d automatic (inl refl)) e)

    homes-left : (o : ℕ) → IsInScope b.unit os o → IsHome left.memory.table (instance_for b o z) (size_of b (object_at b.unit o).t)
    homes-left o g =
        let n = size_of b (object_at b.unit o).t in
        subst (λ x. IsHomeIn x n) (sym (ended-others z.memory.table number (instance_for b o z) (other-number o g))) (h.sound.objects o (wider o g))

    lives-left : AllLiveStill w.memory.table left.memory.table
    lives-left j = by (same_or_not j number)
      where
        by : (j ≡ number) ⊎ (j ≢ number) → LiveStill (instance_at w.memory.table.instances j) (instance_at left.memory.table.instances j)
        by (inl e) =
            let none = ap (instance_at w.memory.table.instances) e ∙ h.own d (inl refl) automatic in
            subst (λ x. LiveStill x (instance_at left.memory.table.instances j)) (sym none)
            (ended-none z.memory.table number j (subst (λ x. LiveStill x (instance_at z.memory.table.instances j)) none (h.later.lives j)))
        by (inr n) = subst (λ x. LiveStill (instance_at w.memory.table.instances j) x) (sym (ended-others z.memory.table number j n)) (h.later.lives j)

    object-ends : Within b os rest w left × Keeps z.memory.table left.memory.table
    object-ends =
        let T = z.memory.table in
        let U = after_end T number in
        let l : Led ⊥ T U = ended-leads T number in
        let keeps = made-led T U l in (
          record {
            later = record { made = λ p k. keeps p (h.later.made p k); lives = lives-left; statics = h.later.statics; literals = h.later.literals; functions = h.later.functions };
            sound = record {
              laid = laid-led T U l h.sound.laid;
              bytes = cleared-in-fair b U (instance_at T.instances number) z.memory.bytes (store-later T U keeps z.memory.bytes h.sound.bytes);
              objects = homes-left;
              apart = λ o q g k e. h.sound.apart o q (wider o g) (wider q k) e;
              literals = λ q g. number-led T U l _ (h.sound.literals q g);
              functions = λ q g. number-led T U l _ (h.sound.functions q g);
              code = λ j c. h.sound.code j (ended-code T number j c);
              owned = let more = ended-length T number in let few = h.sound.owned in omega (arith, more, few);
            };
            body = h.body;
            own = λ o g a. h.own o (inr g) a;
          },
          keeps,
        )

  pub ends-sure : (line d : ℕ) (s : State) → IsMakeable b.unit false d → (IsIn d os → ⊥) → Within b (d ∷ os) rest w s.world
      → Sure (λ v z. Within b os rest w z × Keeps s.world.memory.table z.memory.table) (act b line (Ends d) s) (act_plainly b line (Ends d) s)
  ends-sure line d s m other h =
      does-sure b (λ v z. Within b os rest w z × Keeps s.world.memory.table z.memory.table) closed line (Ends d) s (bound-there b d s.world (size_of b (object_at b.unit d).t) (h.sound.objects d (in-scope b (d ∷ os) d m.storage (inl refl))))
      (ends-same b s.world d (h.sound.objects d (in-scope b (d ∷ os) d m.storage (inl refl)))) (object-ends s.world d m.storage other h)
    where
      closed : (v : Worth) (z : World) (k : ℕ) (high : Bool) → Within b os rest w z × Keeps s.world.memory.table z.memory.table → Within b os rest w (with_side z k high) × Keeps s.world.memory.table (with_side z k high).memory.table
      closed v z k high q = (within-sided b os rest w v z k high q.0, λ p g. (sides-keep b os z k high q.0.sound).0.made p (q.1 p g))
