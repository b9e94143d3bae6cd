-- Which instances live still behind each change of a table, and behind each operation on pointers: all of them, but allocations that were
-- deallocated (C17 6.2.4p2, 7.22.3.3p2).
use Rattle.std.proofs.Common.{◌≡◌, ◌≢◌, ℕ, zero, suc, ◌+◌, ◌-◌, ◌%◌, ◌^◌, ◌<◌, ◌≤◌, ℤ, pos, Bool, true, false, ◌||◌, not, cond, eqb, ltb, List, [], ◌∷◌, ◌++◌, length, length-append, length-set, set, Option, Some, None, Result, Ok, Err, refl, sym, ap, ◌∙◌, subst, ◌⊎◌, inl, inr, arith}
use Rattle.std.specs.List.{slice_get}
use Rattle.std.specs.Prelude.{if◌then◌else◌}
use Rattle.std.specs.Option.{option_map}
use Rattle.std.proofs.lemmas.Option.{none-some}
use Rattle.std.proofs.lemmas.Bool.Decides.{nat_tests}
use Rattle.pv_num.specs.declared.kinds.IntKind.{IntKind}
use Rattle.pv_fault.specs.declared.faults.Clause.{Clause}
use Rattle.pv_num.specs.Kinds.{fits_of, is_character_kind as is_character}
use Rattle.pv_prov.specs.declared.names.Prov.{Prov}
use Rattle.pv_prov.specs.Names.{is_empty, nobody, with_twin}
use Rattle.pv_inst.specs.declared.values.Instance.{Instance}
use Rattle.pv_inst.specs.declared.values.CreateError.{CreateError}
use Rattle.pv_inst.specs.declared.values.CreateError.TheVariants.{Storage, Denied, Range as RangeError, Misaligned}
use Rattle.pv_inst.specs.declared.values.Test.TheVariants.{Live, Range, Code}
use Rattle.pv_inst.specs.declared.values.Tried.{Tried}
use Rattle.pv_inst.specs.declared.values.Miss.{Miss}
use Rattle.pv_script.specs.declared.script.Place.{Place}
use Rattle.pv_script.specs.declared.script.Place.TheVariants.{At, Null}
use Rattle.pv_script.specs.Places.{place_of}
use Rattle.pv_inst.specs.Table.{Table, instance_at, with_instance, live_bytes, count_of, IsNumber}
use Rattle.pv_inst.specs.Use.{use_answer, after_use, is_heap, is_function}
use Rattle.pv_inst.specs.TwoPointers.{after_same}
use Rattle.pv_inst.specs.Exposure.{expose}
use Rattle.pv_inst.specs.Finding.{both_found, number_of, reaches, begins, table_by, after_name, name_at, fitting}
use Rattle.pv_inst.specs.Placing.{Request, place, place_said, place_at, unless_overlap, with_number_used, with_fresh, first_overlap}
use Rattle.pv_inst.specs.PlacingParts.{multiple_of_16, fresh}
use Rattle.pv_inst.specs.Ending.{after_end}
use Rattle.pv_inst.specs.EndingParts.{ending, over}
use Rattle.pv_inst.proofs.Rows.{IsRow, row_found}
use Rattle.pv_inst.proofs.Together.{slice_get-set_here, slice_get-set_other}
use Rattle.pv_inst.proofs.Apartness.{same_or_not}
use Rattle.pv_shadow.specs.declared.byte.Byte.{Byte}
use Rattle.pv_shadow.specs.Whole.{whole_name, number_in}
use Rattle.pv_object.specs.declared.values.Asker.{Asker}
use Rattle.pv_object.specs.declared.values.Pointer.{Pointer}
use Rattle.pv_object.specs.declared.values.Scalar.{Scalar}
use Rattle.pv_object.specs.declared.values.Scalar.TheVariants as scalar
use Rattle.pv_object.specs.Access.{reach, reach_after, clause_of, is_null}
use Rattle.pv_object.specs.Loading.{value_of, integer_of, pointer_of, pointer_named, exposed_by, is_trap}
use Rattle.pv_object.specs.Operations.{truth, pointer_equality, equal_after, recast, to_ptr, address_of, exposed_to, to_int, to_int_after, move_under, code, together}
use Rattle.pv_object.specs.OperationParts.{address_on}
use Rattle.pv_object.specs.Later.{still, IsLater}
use Rattle.pv_object.proofs.Later.{still_at, settled_later, same_later, expose_later}
use Rattle.pv_object.proofs.Born.{at_next, slice_last}
use Rattle.pv_exec.proofs.Memory.Reached.{IsAllocated, IsAllocation}
use Rattle.pv_guards.proofs.Made.{instance-there}
use Rattle.pv_guards.specs.Soundness.{IsHome, IsHomeIn, IsCode, IsCodeIn, LiveStill, AllLiveStill}

pub lives-itself : (o : Option Instance) → LiveStill o o
lives-itself None = tt
lives-itself (Some x) = record { size = refl; kind = refl; live = λ h l. l }

lives-trans : (a b c : Option Instance) → LiveStill a b → LiveStill b c → LiveStill a c
lives-trans None None c h g = g
lives-trans None (Some y) None h g = absurd g
lives-trans None (Some y) (Some z) h g = ap is_function g.kind ∙ h
lives-trans (Some x) None c h g = absurd h
lives-trans (Some x) (Some y) None h g = absurd g
lives-trans (Some x) (Some y) (Some z) h g = record { size = g.size ∙ h.size; kind = g.kind ∙ h.kind; live = λ k l. g.live (ap is_heap h.kind ∙ k) (h.live k l) }

pub all-same : (T : Table) → AllLiveStill T T
all-same T i = lives-itself (instance_at T.instances i)

pub all-on : (T U V : Table) → AllLiveStill T U → AllLiveStill U V → AllLiveStill T V
all-on T U V h g i = lives-trans (instance_at T.instances i) (instance_at U.instances i) (instance_at V.instances i) (h i) (g i)

-- the same instances
pub same-live : (T U : Table) → U.instances ≡ T.instances → AllLiveStill T U
same-live T U e i = subst (λ xs. LiveStill (instance_at T.instances i) (instance_at xs i)) (sym e) (lives-itself (instance_at T.instances i))

-- the same, exposures aside
still-lives : (o p : Option Instance) → option_map still p ≡ option_map still o → LiveStill o p
still-lives None None e = tt
still-lives None (Some y) e = absurd (none-some (still y) (sym e))
still-lives (Some x) None e = absurd (none-some (still x) e)
still-lives (Some x) (Some y) e =
    let like : still y ≡ still x = cc in
    record { size = ap (λ (z : Instance). z.size) like; kind = ap (λ (z : Instance). z.kind) like; live = λ h l. ap (λ (z : Instance). z.live) like ∙ l }

later-live : (T U : Table) → IsLater T U → AllLiveStill T U
later-live T U l i = still-lives (instance_at T.instances i) (instance_at U.instances i) (still_at T U i l)

-- an instance that ends; the others are as before
not-zero : (j : ℕ) → eqb j 0 ≡ false → 1 ≤ j
not-zero j e = grind (arith, nat_tests)

same-number : (i j : ℕ) → 1 ≤ i → 1 ≤ j → i - 1 ≡ j - 1 → j ≡ i
same-number i j h g e = omega (arith, h, g, e)

ended-other : (T : Table) (i j : ℕ) (x : Instance) → IsRow T.instances i x → j ≢ i → instance_at (with_instance T.instances i (over x)) j ≡ instance_at T.instances j
ended-other T i j x r d = by (eqb j 0) refl
  where
    by : (c : Bool) → eqb j 0 ≡ c → cond c None (slice_get (set T.instances (i - 1) (over x)) (j - 1)) ≡ cond c None (slice_get T.instances (j - 1))
    by true e = refl
    by false e = slice_get-set_other T.instances (i - 1) (j - 1) (over x) (λ q. d (same-number i j r.from_one (not-zero j e) q))

ending-others : (T : Table) (i j : ℕ) (o : Option Instance) → instance_at T.instances i ≡ o → j ≢ i → instance_at (ending T i o).instances j ≡ instance_at T.instances j
ending-others T i j None e d = refl
ending-others T i j (Some x) e d = ended-other T i j x (row_found T.instances i x (sym e)) d

pub ended-others : (T : Table) (i j : ℕ) → j ≢ i → instance_at (after_end T i).instances j ≡ instance_at T.instances j
ended-others T i j d = ending-others T i j (instance_at T.instances i) refl d

-- so that an allocation ends keeps all others
heap-not : true ≡ false → ⊥
heap-not e = absurd cc

at-row : (xs : List Instance) (i : ℕ) (y : Instance) → 1 ≤ i → i - 1 < length xs → instance_at (with_instance xs i y) i ≡ Some y
at-row xs i y s l = let z : eqb i 0 ≡ false = grind (arith, nat_tests) in ap (λ c. cond c None (slice_get (set xs (i - 1) y) (i - 1))) z ∙ slice_get-set_here xs (i - 1) y l

ending-here : (T : Table) (i : ℕ) (o : Option Instance) → instance_at T.instances i ≡ o → IsAllocated o → LiveStill o (instance_at (ending T i o).instances i)
ending-here T i None e h = absurd h
ending-here T i (Some x) e h =
    let r = row_found T.instances i x (sym e) in
    subst (λ o. LiveStill (Some x) o) (sym (at-row T.instances i (over x) r.from_one r.within)) (record { size = refl; kind = refl; live = λ k l. absurd (heap-not (sym h.1 ∙ k)) })

pub ended-live : (T : Table) (i : ℕ) → IsAllocation T i → AllLiveStill T (after_end T i)
ended-live T i h j = by (same_or_not j i)
  where
    by : (j ≡ i) ⊎ (j ≢ i) → LiveStill (instance_at T.instances j) (instance_at (after_end T i).instances j)
    by (inl e) = subst (λ k. LiveStill (instance_at T.instances k) (instance_at (after_end T i).instances k)) (sym e) (ending-here T i (instance_at T.instances i) refl h)
    by (inr d) = subst (λ o. LiveStill (instance_at T.instances j) o) (sym (ended-others T i j d)) (lives-itself (instance_at T.instances j))

-- an object that lives has an instance, and lives still
home-number-by : (xs : List Instance) (i n : ℕ) (o : Option Instance) → instance_at xs i ≡ o → IsHomeIn o n → IsNumber xs i
home-number-by xs i n None e h = absurd h
home-number-by xs i n (Some x) e h = let r = row_found xs i x (sym e) in (r.from_one, omega (arith, r.from_one, r.within))

pub home-number : (T : Table) (i n : ℕ) → IsHome T i n → IsNumber T.instances i
home-number T i n h = home-number-by T.instances i n (instance_at T.instances i) refl h

home-by : (n : ℕ) (o p : Option Instance) → LiveStill o p → IsHomeIn o n → IsHomeIn p n
home-by n None p l h = absurd h
home-by n (Some x) None l h = absurd l
home-by n (Some x) (Some y) l h = (l.live h.1 h.0, ap is_heap l.kind ∙ h.1, l.size ∙ h.2)

pub home-later : (T U : Table) → AllLiveStill T U → (i n : ℕ) → IsHome T i n → IsHome U i n
home-later T U l i n h = home-by n (instance_at T.instances i) (instance_at U.instances i) (l i) h

-- where an instance wasn't made yet, none was made earlier
pub none-earlier : (T U : Table) → AllLiveStill T U → (i : ℕ) → instance_at U.instances i ≡ None → instance_at T.instances i ≡ None
none-earlier T U l i e = by (instance_at T.instances i) (subst (λ o. LiveStill (instance_at T.instances i) o) e (l i))
  where
    by : (o : Option Instance) → LiveStill o None → o ≡ None
    by None h = refl
    by (Some x) h = absurd h

-- an instance that is new is none of those that live
pub new-other : (T : Table) (i j n : ℕ) → instance_at T.instances i ≡ None → IsHome T j n → j ≢ i
new-other T i j n e h f = subst (λ o. IsHomeIn o n) (ap (instance_at T.instances) f ∙ e) h

-- a use, an exposure, and an integer that is converted to a pointer (6.3.2.3p5)
pub uses-live : (T : Table) (p : Prov) (r : Result Tried Miss) → AllLiveStill T (after_use T p r)
uses-live T p r = later-live T (after_use T p r) (settled_later T p r)

both-live : (T : Table) (low high : Option ℕ) → AllLiveStill T (table_by T (both_found low high))
both-live T None None = all-same T
both-live T None (Some i) = all-same T
both-live T (Some i) None = all-same T
both-live T (Some i) (Some j) = same-live T (record T { pairs = with_twin T.pairs i j }) refl

names-live : (T : Table) (a : ℕ) → AllLiveStill T (after_name T a)
names-live T a = by (eqb a 0)
  where
    by : (null : Bool) → AllLiveStill T (table_by T (cond null nobody (fitting T.instances a)))
    by true = all-same T
    by false = both-live T (number_of (reaches a) T.instances) (number_of (begins a) T.instances)

-- operations on pointers
pair-if : {A : Type 0} (c : Bool) (T : Table) (w v : A × Table) → AllLiveStill T w.1 → AllLiveStill T v.1 → AllLiveStill T (cond c w v).1
pair-if true T w v h g = h
pair-if false T w v h g = g

after-live : (T : Table) (p : Pointer) (n align : ℕ) (write : Bool) (c : Clause) (r : Result Tried Miss) → AllLiveStill T (reach_after T p n align write c r).1
after-live T p n align write c (Err m) = all-same T
after-live T p n align write c (Ok tried) = uses-live T p.prov (Ok tried)

pub reach-live : (T : Table) (p : Pointer) (n align : ℕ) (write : Bool) (by : Asker) → AllLiveStill T (reach T p n align write by).1
reach-live T p n align write by =
    pair-if (is_null p) T _ _ (all-same T)
    (pair-if (is_empty p.prov) T _ _ (all-same T) (after-live T p n align write (clause_of by) (use_answer T p.prov (Range p.address n))))

exposed-live : (T : Table) (bs : List Byte) → AllLiveStill T (exposed_by T bs)
exposed-live T [] = all-same T
exposed-live T (b ∷ bs) = all-on T (expose T b.prov) (exposed_by (expose T b.prov) bs) (later-live T (expose T b.prov) (expose_later T b.prov)) (exposed-live (expose T b.prov) bs)

integer-live : (T : Table) (k : IntKind) (bytes : List Byte) (o : Option ℕ) → AllLiveStill T (integer_of T k bytes o).1
integer-live T k bytes None = pair-if (is_character k) T _ _ (exposed-live T bytes) (all-same T)
integer-live T k bytes (Some n) = pair-if (is_trap k n) T _ _ (all-same T) (exposed-live T bytes)

named-live : (T : Table) (o : Option Prov) (a : ℕ) → AllLiveStill T (pointer_named T o a).1
named-live T (Some p) a = uses-live T p (use_answer T p Live)
named-live T None a =
    let U = after_name T a in
    let p = name_at T a in
    all-on T U (after_use U p (use_answer U p Live)) (names-live T a) (uses-live U p (use_answer U p Live))

pointer-live : (T : Table) (bytes : List Byte) (o : Option ℕ) → AllLiveStill T (pointer_of T bytes o).1
pointer-live T bytes None = all-same T
pointer-live T bytes (Some a) = named-live T (whole_name bytes) a

pub value-live : (T : Table) (bytes : List Byte) (t : Scalar) → AllLiveStill T (value_of T bytes t).1
value-live T bytes (scalar.Int k) = integer-live T k bytes (number_in bytes)
value-live T bytes scalar.Pointer = pointer-live T bytes (number_in bytes)

pub truth-live : (T : Table) (p : Pointer) → AllLiveStill T (truth T p).1
truth-live T p = uses-live T p.prov (use_answer T p.prov Live)

equal-after : (T : Table) (p q : Pointer) (r : Result Tried Miss) → AllLiveStill T (equal_after T p q r).1
equal-after T p q (Err m) = all-same T
equal-after T p q (Ok left) =
    let U = after_use T p.prov (Ok left) in
    all-on T U (after_use U q.prov (use_answer U q.prov Live)) (uses-live T p.prov (Ok left)) (uses-live U q.prov (use_answer U q.prov Live))

pub equal-live : (T : Table) (p q : Pointer) → AllLiveStill T (pointer_equality T p q).1
equal-live T p q = equal-after T p q (use_answer T p.prov Live)

pub to_ptr-live : (T : Table) (n : ℤ) → AllLiveStill T (to_ptr T n).1
to_ptr-live T n = names-live T (address_of n)

pub recast-live : (T : Table) (p : Pointer) (align : ℕ) → AllLiveStill T (recast T p align).1
recast-live T p align = uses-live T p.prov (use_answer T p.prov Live)

exposed-if : (T : Table) (p : Pointer) (c : Bool) (tried : Tried) → AllLiveStill T (exposed_to T p c tried).1
exposed-if T p true tried = later-live T (expose T p.prov) (expose_later T p.prov)
exposed-if T p false tried = all-same T

to_int-after : (T : Table) (p : Pointer) (k : IntKind) (r : Result Tried Miss) → AllLiveStill T (to_int_after T p k r).1
to_int-after T p k (Err m) = all-same T
to_int-after T p k (Ok tried) =
    let U = after_use T p.prov (Ok tried) in
    let fits = fits_of k (pos p.address) in
    all-on T U (exposed_to U p fits tried).1 (uses-live T p.prov (Ok tried)) (exposed-if U p fits tried)

pub to_int-live : (T : Table) (p : Pointer) (k : IntKind) → AllLiveStill T (to_int T p k).1
to_int-live T p k = to_int-after T p k (use_answer T p.prov Live)

pub move-live : (c : Clause) (T : Table) (p : Pointer) (by : ℤ) → AllLiveStill T (move_under c T p by).1
move-live c T p by =
    pair-if (is_null p) T _ _ (all-same T)
    (pair-if (is_empty p.prov) T _ _ (all-same T) (uses-live T p.prov (use_answer T p.prov (Range (address_on p.address by) 0))))

pub code-live : (T : Table) (p : Pointer) → AllLiveStill T (code T p).1
code-live T p = pair-if (is_null p) T _ _ (all-same T) (pair-if (is_empty p.prov) T _ _ (all-same T) (uses-live T p.prov (use_answer T p.prov (Code p.address))))

pub together-live : (c : Clause) (T : Table) (p q : Pointer) → AllLiveStill T (together c T p q).1
together-live c T p q = pair-if (is_null p || is_null q) T _ _ (all-same T) (later-live T (after_same T p.prov q.prov) (same_later T p.prov q.prov))

-- a request that is refused since too many bytes live
abbrev denied-by : Table → Request → Result ℕ CreateError × Table
denied-by T r = (Err (if is_heap r.kind then Denied else Storage (live_bytes T.instances) r.size), with_number_used T r.name)

-- a request, granted or not, of what is no function
push-live : (xs : List Instance) (y : Instance) (k : ℕ) → is_function y.kind ≡ false → LiveStill (slice_get xs k) (slice_get (xs ++ y ∷ []) k)
push-live [] y zero h = h
push-live [] y (suc zero) h = tt
push-live [] y (suc (suc k)) h = tt
push-live (x ∷ xs) y zero h = lives-itself (Some x)
push-live (x ∷ xs) y (suc k) h = push-live xs y k h

by-number : (c : Bool) (o p : Option Instance) → LiveStill o p → LiveStill (cond c None o) (cond c None p)
by-number true o p h = tt
by-number false o p h = h

module _ (T : Table) (r : Request) (stored : is_function r.kind ≡ false) where
  fresh-live : (k base : ℕ) (default : Bool) → AllLiveStill T (with_fresh T r k base default)
  fresh-live k base default i =
      by-number (eqb i 0) (slice_get T.instances (i - 1)) (slice_get (T.instances ++ fresh r k base ∷ []) (i - 1)) (push-live T.instances (fresh r k base) (i - 1) stored)

  overlap-live : (k base : ℕ) (default : Bool) (o : Option (ℕ × ℕ)) → AllLiveStill T (unless_overlap o T r k base default).1
  overlap-live k base default (Some hit) = all-same T
  overlap-live k base default None = fresh-live k base default

  at-live : (k base : ℕ) (default : Bool) → AllLiveStill T (place_at T r k base default).1
  at-live k base default =
      pair-if (ltb base 4096 || ltb (2 ^ 47) (base + r.size)) T _ _ (all-same T)
      (pair-if (not (eqb (base % r.align) 0)) T _ _ (all-same T) (overlap-live k base default (first_overlap T.instances base r.size)))

  said-live : (k : ℕ) (o : Option Place) → AllLiveStill T (place_said o T r k).1
  said-live k None = at-live k (multiple_of_16 T.cursor) true
  said-live k (Some (At base)) = at-live k base false
  said-live k (Some Null) = same-live T (with_number_used T r.name) refl

  pub place-live : AllLiveStill T (place T r).1
  place-live =
      let k = count_of T r.name + 1 in
      pair-if (ltb (2 ^ 24) (live_bytes T.instances + r.size)) T (denied-by T r) (place_said (place_of T.script r.text k) T r k) (same-live T (with_number_used T r.name) refl) (said-live k (place_of T.script r.text k))

-- what is made is the next instance; and it lives, is as large as was asked for, and is of this kind
pub record IsNext (T : Table) (r : Request) (i : ℕ) (U : Table) : Type 0 where
  pub number : i ≡ length T.instances + 1
  pub longer : length U.instances ≡ length T.instances + 1
  pub inst : Instance
  pub is : instance_at U.instances i ≡ Some inst
  pub live : inst.live ≡ true
  pub kind : inst.kind ≡ r.kind
  pub size : inst.size ≡ r.size

module _ (T : Table) (r : Request) where
  abbrev IsMade : Result ℕ CreateError × Table → Type 0
  IsMade w = (i : ℕ) → w.0 ≡ Ok i → IsNext T r i w.1

  not-made : (e : CreateError) (U : Table) → IsMade (Err e, U)
  not-made e U i f = absurd cc

  made-if : (c : Bool) (w v : Result ℕ CreateError × Table) → IsMade w → IsMade v → IsMade (cond c w v)
  made-if true w v h g = h
  made-if false w v h g = g

  overlap-made : (k base : ℕ) (default : Bool) (o : Option (ℕ × ℕ)) → IsMade (unless_overlap o T r k base default)
  overlap-made k base default (Some hit) i e = absurd cc
  overlap-made k base default None i e =
      let xs = T.instances in
      let y = fresh r k base in
      let same : length xs + 1 ≡ i = cc in
      let there : instance_at (xs ++ y ∷ []) (length xs + 1) ≡ Some y = at_next xs (xs ++ y ∷ []) (length xs) refl ∙ slice_last xs y in
      record {
        number = sym same;
        longer = length-append xs (y ∷ []);
        inst = y;
        is = subst (λ n. instance_at (xs ++ y ∷ []) n ≡ Some y) same there;
        live = refl;
        kind = refl;
        size = refl;
      }

  abbrev unaligned-or : ℕ → ℕ → Bool → Result ℕ CreateError × Table
  unaligned-or k base default = if not (eqb (base % r.align) 0) then (Err (Misaligned k base), T) else unless_overlap (first_overlap T.instances base r.size) T r k base default

  at-made : (k base : ℕ) (default : Bool) → IsMade (place_at T r k base default)
  at-made k base default =
      made-if (ltb base 4096 || ltb (2 ^ 47) (base + r.size)) (Err (RangeError k base), T) (unaligned-or k base default) (not-made (RangeError k base) T)
      (made-if (not (eqb (base % r.align) 0)) (Err (Misaligned k base), T) (unless_overlap (first_overlap T.instances base r.size) T r k base default) (not-made (Misaligned k base) T) (overlap-made k base default (first_overlap T.instances base r.size)))

  said-made : (k : ℕ) (o : Option Place) → IsMade (place_said o T r k)
  said-made k None = at-made k (multiple_of_16 T.cursor) true
  said-made k (Some (At base)) = at-made k base false
  said-made k (Some Null) = not-made Denied (with_number_used T r.name)

  pub next-made : IsMade (place T r)
  next-made =
      let k = count_of T r.name + 1 in
      made-if (ltb (2 ^ 24) (live_bytes T.instances + r.size)) (denied-by T r) (place_said (place_of T.script r.text k) T r k) (not-made (if is_heap r.kind then Denied else Storage (live_bytes T.instances) r.size) (with_number_used T r.name)) (said-made k (place_of T.script r.text k))

-- the home of an object
pub next-home : (T U : Table) (r : Request) (i : ℕ) → is_heap r.kind ≡ false → IsNext T r i U → IsHome U i r.size
next-home T U r i object n = subst (λ o. IsHomeIn o r.size) (sym n.is) (n.live, ap is_heap n.kind ∙ object, n.size)

-- functions that are there were there before
code-by : (o p : Option Instance) → LiveStill o p → IsCodeIn p → IsCodeIn o
code-by None None l h = absurd h
code-by None (Some y) l h = absurd (heap-not (sym h ∙ l))
code-by (Some x) None l h = absurd h
code-by (Some x) (Some y) l h = sym (ap is_function l.kind) ∙ h

pub code-earlier : (T U : Table) → AllLiveStill T U → (i : ℕ) → IsCode U i → IsCode T i
code-earlier T U l i h = code-by (instance_at T.instances i) (instance_at U.instances i) (l i) h

-- no instance is lost
longer-by : (xs ys : List Instance) → ((i : ℕ) → LiveStill (instance_at xs i) (instance_at ys i)) → length xs ≤ length ys
longer-by [] ys l = omega arith
longer-by (x ∷ xs) ys l =
    let n = length (x ∷ xs) in
    let there = instance-there (x ∷ xs) n (omega arith, omega arith) in
    by there.0 (instance_at ys n) refl (subst (λ o. LiveStill o (instance_at ys n)) there.1 (l n))
  where
    by : (z : Instance) (o : Option Instance) → instance_at ys (length (x ∷ xs)) ≡ o → LiveStill (Some z) o → length (x ∷ xs) ≤ length ys
    by z None e h = absurd h
    by z (Some y) e h = let r = row_found ys (length (x ∷ xs)) y (sym e) in omega (arith, r.within, r.from_one)

pub longer-live : (T U : Table) → AllLiveStill T U → length T.instances ≤ length U.instances
longer-live T U l = longer-by T.instances U.instances l

-- a function is still there where an instance ended, and no other instance became one
pub not-code : (T : Table) (i : ℕ) (x : Instance) → instance_at T.instances i ≡ Some x → is_function x.kind ≡ false → IsCode T i → ⊥
not-code T i x e f c = heap-not (sym (subst IsCodeIn e c) ∙ f)

ending-code : (T : Table) (i : ℕ) (o : Option Instance) → instance_at T.instances i ≡ o → IsCodeIn (instance_at (ending T i o).instances i) → IsCodeIn o
ending-code T i None e h = subst IsCodeIn e h
ending-code T i (Some x) e h = let r = row_found T.instances i x (sym e) in subst IsCodeIn (at-row T.instances i (over x) r.from_one r.within) h

pub ended-code : (T : Table) (i j : ℕ) → IsCode (after_end T i) j → IsCode T j
ended-code T i j c = by (same_or_not j i)
  where
    by : (j ≡ i) ⊎ (j ≢ i) → IsCode T j
    by (inl e) = subst (λ k. IsCode T k) (sym e) (ending-code T i (instance_at T.instances i) refl (subst (λ k. IsCode (after_end T i) k) e c))
    by (inr n) = subst IsCodeIn (ended-others T i j n) c

ending-length : (T : Table) (i : ℕ) (o : Option Instance) → length (ending T i o).instances ≡ length T.instances
ending-length T i None = refl
ending-length T i (Some x) = length-set T.instances (i - 1) (over x)

pub ended-length : (T : Table) (i : ℕ) → length (after_end T i).instances ≡ length T.instances
ended-length T i = ending-length T i (instance_at T.instances i)

-- what was made since is no function, also where it ended
no-code-in : (o : Option Instance) → LiveStill None o → IsCodeIn o → ⊥
no-code-in None l c = c
no-code-in (Some y) l c = heap-not (sym c ∙ l)

not-true : (c : Bool) → (c ≡ true → ⊥) → c ≡ false
not-true true h = absurd (h refl)
not-true false h = refl

none-lives : (o : Option Instance) → (IsCodeIn o → ⊥) → LiveStill None o
none-lives None h = tt
none-lives (Some y) h = not-true (is_function y.kind) h

pub ended-none : (T : Table) (i j : ℕ) → LiveStill None (instance_at T.instances j) → LiveStill None (instance_at (after_end T i).instances j)
ended-none T i j l = none-lives (instance_at (after_end T i).instances j) (λ c. no-code-in (instance_at T.instances j) l (ended-code T i j c))
