-- What each operation of an expression leaves: a later world that is as sound, and a value of its type (C17 6.3, 6.5).
use Rattle.std.proofs.Common.{◌≡◌, ℕ, zero, suc, ◌+◌, ◌<◌, ◌≤◌, ◌^◌, Bool, true, false, List, [], ◌∷◌, length, take, drop, Option, Some, None, Result, Ok, Err, IfOk, is_some, refl, sym, ap, ◌∙◌, subst, arith, inl, inr}
use Rattle.std.specs.Prelude.{unwrap_or, if◌then◌else◌, ◌-◌, ◌==◌, slice_index_or, pos}
use Rattle.std.specs.FinMap as map
use Rattle.std.proofs.lemmas.Bool.{false≢true}
use Rattle.pv_num.specs.declared.kinds.IntKind.{IntKind}
use Rattle.pv_num.specs.declared.kinds.IntKind.TheVariants.{Int, Long}
use Rattle.pv_num.specs.Arithmetic.{yielded_kind}
use Rattle.pv_library.specs.declared.library.Library.{Library}
use Rattle.pv_libc.specs.declared.values.Arg.{Arg}
use Rattle.pv_inst.specs.declared.values.Tried.{Tried}
use Rattle.pv_types.specs.Ty.{Ty, VoidTy, IntTy, PointerTo, ArrayOf, StructTag, UnionTag, FunctionTy, ConstOf}
use Rattle.pv_types.specs.Layouts.{layout_in}
use Rattle.pv_types.specs.Sorts.{bare_type}
use Rattle.pv_inst.specs.declared.values.Instance.{Instance}
use Rattle.pv_inst.specs.Infos.{base_of}
use Rattle.pv_inst.specs.Table.{Table, instance_at, IsNumber}
use Rattle.pv_shadow.specs.declared.byte.Byte.{Byte}
use Rattle.pv_shadow.specs.Bytes.{bytes_from}
use Rattle.pv_shadow.proofs.Ranges.{length-read}
use Rattle.pv_object.specs.declared.values.Asker.TheVariants.{Access as ByAccess}
use Rattle.pv_object.specs.declared.values.Pointer.{Pointer}
use Rattle.pv_object.specs.declared.values.Reach.{Reach}
use Rattle.pv_object.specs.declared.values.Scalar.TheVariants as scalar
use Rattle.pv_object.specs.declared.values.Stop.{Stop}
use Rattle.pv_object.specs.declared.values.Value.TheVariants.{Int as IntValue, Unset, Pointer as PointerValue}
use Rattle.pv_object.specs.Access.{reach}
use Rattle.pv_object.specs.Operations.{code}
use Rattle.pv_seq.specs.Sequencing.{Access, conflicts}
use Rattle.pv_typed.specs.Known.{Each}
use Rattle.pv_typed.specs.TypedUnits.{layouts, object_at}
use Rattle.pv_watch.specs.declared.event.What.{What}
use Rattle.pv_world.specs.declared.got.Shape.{Shape}
use Rattle.pv_world.specs.declared.got.Shape.TheVariants as shape
use Rattle.pv_world.specs.Worlds.{Worth, Nothing, Missing, Scalar, Whole, World, with_table}
use Rattle.pv_world.specs.Worths.{int, truth_int, pointer, pointer_of, value_of, bytes_of, why_not_set, why_missing}
use Rattle.pv_world.specs.Conversions.{opposite}
use Rattle.pv_world.specs.CalculationParts.{accepts}
use Rattle.pv_world.specs.Pointers.{found_by, finds}
use Rattle.pv_world.specs.PointerParts.{unlike}
use Rattle.pv_world.specs.Telling.{Told, no_telling, telling, event_of_use, code_test}
use Rattle.pv_world.specs.Doing.{Done, Answers, Fails, Breaks}
use Rattle.pv_world.specs.Objects.{bound_in, instance_of, literal_of, function_of, base_in, address_of, owner_of}
use Rattle.pv_world.specs.Accesses.{reaching_by, mark_of, stored_as, is_inexact}
use Rattle.pv_world.specs.AccessParts.{range_use}
use Rattle.pv_eval.specs.States.{Setting}
use Rattle.pv_eval.specs.TypeForms.{lvalue, size_of}
use Rattle.pv_eval.specs.Objects.{instance_for}
use Rattle.pv_eval.specs.Permission.{permits}
use Rattle.pv_eval.specs.Callees.{may_call}
use Rattle.pv_eval.specs.CalleeParts.{function_in}
use Rattle.pv_eval.specs.Library.{asks}
use Rattle.pv_eval.specs.Accesses.{access_to, reads_at, reads, writes_at, writes}
use Rattle.pv_eval.specs.AccessParts.{takes_part}
use Rattle.pv_eval.specs.Operations as op
use Rattle.pv_eval.specs.Operations.{Op, does}
use Rattle.pv_exec.proofs.Memory.Rows.{Leads as Led}
use Rattle.pv_exec.proofs.Memory.Pointers.{reach-leads}
use Rattle.pv_exec.proofs.Memory.Ways.{OfTables}
use Rattle.pv_exec.proofs.Memory.Worlds.{Onward}
use Rattle.pv_exec.proofs.Memory.Operations.{does-on}
use Rattle.pv_guards.specs.Worths.{IsScalar, IsWhole, IsOfType, IsThere}
use Rattle.pv_guards.specs.Typed.{IsTag, IsValueType, HasBody, IsInScope}
use Rattle.pv_guards.specs.Fair.{IsFair, AreFair, IsFairValue, IsArgument}
use Rattle.pv_guards.specs.Soundness.{Value, IsFairWorth, IsHome, IsCode, IsSound, AllLiveStill, IsAfter}
use Rattle.pv_guards.specs.Ruled.{may_be_pointer, is_of_function, is_callee}
use Rattle.pv_guards.specs.Plain.{plain_doing}
use Rattle.pv_guards.proofs.Numbers.{both}
use Rattle.pv_guards.specs.Promises.{Promised}
use Rattle.pv_guards.proofs.Fair.{Keeps, bytes-later, store-later, read-fair, take-fair, drop-fair, written-fair, encode-fair}
use Rattle.pv_guards.proofs.Living.{all-same, all-on, home-number, home-later, code-earlier, longer-live, reach-live, code-live}
use Rattle.pv_guards.proofs.Chosen.{code-found}
use Rattle.pv_guards.proofs.Made.{instance-there, number-led, made-led, laid-led, led-changes}
use Rattle.pv_guards.proofs.Results.{Answering, unless-answers, answers-more, calculates-gives, one-gives}
use Rattle.pv_guards.proofs.Tabled.{TabledIn, tests-gives, truth-value, opposite-value, converts-gives, moves-gives, selects-gives, subtracts-gives, orders-gives, equals-gives, follows-gives, worth-gives}
use Rattle.pv_guards.proofs.Triples.{Order}
use Rattle.pv_guards.proofs.Promised.{promised, asked}

-- a value stays one in a later table
pub value-later : (T U : Table) → Keeps T U → (v : Worth) → IsFairWorth T v → IsFairWorth U v
value-later T U k (Scalar (PointerValue p)) h = (k p.prov h.0, h.1)
value-later T U k (Scalar (IntValue n)) h = tt
value-later T U k (Scalar Unset) h = tt
value-later T U k (Whole bs a) h = bytes-later T U k bs h
value-later T U k Nothing h = tt
value-later T U k Missing h = tt

pub values-later : (T U : Table) → Keeps T U → (args : List Arg) → Each (λ (x : Arg). IsArgument T x.value) args → Each (λ (x : Arg). IsArgument U x.value) args
values-later T U k [] h = tt
values-later T U k (x ∷ args) h = ((value-later T U k (Scalar x.value) h.0.0, h.0.1), values-later T U k args h.1)

pub value-fair : (U : Table) (v : Worth) → IsFairWorth U v → IsFairValue U (value_of v)
value-fair U (Scalar v) h = h
value-fair U Nothing h = tt
value-fair U Missing h = tt
value-fair U (Whole bs a) h = tt

whole-fair : (U : Table) (v : Worth) → IsFairWorth U v → Each (IsFair U) (bytes_of v)
whole-fair U (Whole bs a) h = h
whole-fair U (Scalar v) h = tt
whole-fair U Nothing h = tt
whole-fair U Missing h = tt

pub stored-fair : (U : Table) (number : ℕ) (s : Shape) (v : Worth) → IsFairWorth U v → Each (IsFair U) (stored_as number s v)
stored-fair U number (shape.Int k) v h = encode-fair U (scalar.Int k) (value_of v) (mark_of number (shape.Int k)) (value-fair U v h)
stored-fair U number shape.Pointer v h = encode-fair U scalar.Pointer (value_of v) (mark_of number shape.Pointer) (value-fair U v h)
stored-fair U number shape.Whole v h = whole-fair U v h

-- sound worlds in their order
pub after-itself : {w : World} → IsAfter w w
after-itself {w} = record { made = λ p h. h; lives = all-same w.memory.table; statics = refl; literals = refl; functions = refl; bodies = refl }

pub after-both : {w t z : World} → IsAfter w t → IsAfter t z → IsAfter w z
after-both {w} {t} {z} h g = record {
  made = λ p k. g.made p (h.made p k);
  lives = all-on w.memory.table t.memory.table z.memory.table h.lives g.lives;
  statics = g.statics ∙ h.statics;
  literals = g.literals ∙ h.literals;
  functions = g.functions ∙ h.functions;
  bodies = g.bodies ∙ h.bodies;
}

pub ordered : (b : Setting) (os : List ℕ) → Order b (IsSound b os) IsAfter
ordered b os = record {
  here = after-itself;
  on = λ h g. after-both h g;
  keeps = λ {w} {t} u v g h. (h.0, value-later w.memory.table t.memory.table g.made v h.1);
}

-- 6.5p6: the object or the function that an instance was made for, of so many owners
abbrev owner_in : List (Option ℕ) → ℕ → Option ℕ
owner_in os i = if i == 0 then None else slice_index_or os (i - 1) None

pub instance-same : (w z : World) → z.statics ≡ w.statics → z.bodies ≡ w.bodies → (o : ℕ) (lasting : Bool) → instance_of z o lasting ≡ instance_of w o lasting
instance-same w z es eb o true = ap (λ m. unwrap_or (map.get m o) 0) es
instance-same w z es eb o false = ap (λ ms. unwrap_or (bound_in ms o) 0) eb

-- 6.2.4p2: objects live on in their instances
pub homes-later : (b : Setting) (os : List ℕ) (w z : World) → z.statics ≡ w.statics → z.bodies ≡ w.bodies → AllLiveStill w.memory.table z.memory.table → IsSound b os w
    → (o : ℕ) → IsInScope b.unit os o → IsHome z.memory.table (instance_for b o z) (size_of b (object_at b.unit o).t)
homes-later b os w z es eb l s o g =
    let n = size_of b (object_at b.unit o).t in
    subst (λ i. IsHome z.memory.table i n) (sym (instance-same w z es eb o (object_at b.unit o).lasting)) (home-later w.memory.table z.memory.table l (instance_for b o w) n (s.objects o g))

pub apart-later : (b : Setting) (os : List ℕ) (w z : World) → z.statics ≡ w.statics → z.bodies ≡ w.bodies → IsSound b os w
    → (o q : ℕ) → IsInScope b.unit os o → IsInScope b.unit os q → instance_for b o z ≡ instance_for b q z → o ≡ q
apart-later b os w z es eb s o q g k e =
    s.apart o q g k (sym (instance-same w z es eb o (object_at b.unit o).lasting) ∙ e ∙ instance-same w z es eb q (object_at b.unit q).lasting)

pub sound-after : (b : Setting) (os : List ℕ) (w z : World) → Led ⊥ w.memory.table z.memory.table → IsAfter w z → z.owners ≡ w.owners → AreFair z.memory.table z.memory.bytes → IsSound b os w → IsSound b os z
sound-after b os w z l h same f s =
    let N : ℕ → Type 0 = λ i. IsNumber z.memory.table.instances i in
    record {
      laid = laid-led w.memory.table z.memory.table l s.laid;
      bytes = f;
      objects = homes-later b os w z h.statics h.bodies h.lives s;
      apart = apart-later b os w z h.statics h.bodies s;
      literals = λ i g. subst N (sym (ap (λ m. unwrap_or (map.get m i) 0) h.literals)) (number-led w.memory.table z.memory.table l _ (s.literals i g));
      functions = λ i g. subst N (sym (ap (λ m. unwrap_or (map.get m i) 0) h.functions)) (number-led w.memory.table z.memory.table l _ (s.functions i g));
      code = λ i c.
          let g = s.code i (code-earlier w.memory.table z.memory.table h.lives i c) in
          (g.0, ap (λ (os : List (Option ℕ)). owner_in os i) same ∙ g.1, g.2);
      owned = let more = longer-live w.memory.table z.memory.table h.lives in let owners : length z.owners ≡ length w.owners = ap length same in let few = s.owned in omega (arith, more, owners, few);
    }

-- 6.5.2.2p1, 6.3.2.3p8, 6.9p5: a function that may be called so, and is defined
abbrev pub MayBeCalled : Setting → Ty → Worth → World → Type 0
MayBeCalled b t v z = (may_call b t (Some (function_in v)) ≡ true) × HasBody b.unit (function_in v) × (v ≡ int (pos (function_in v)))

module _ (b : Setting) (os : List ℕ) (w : World) (sound : IsSound b os w) where
  abbrev T : Table
  T = w.memory.table

  -- what an operation leaves
  abbrev pub Leaving : (Worth → World → Type 0) → Worth → World → Type 0
  Leaving Q v z = IsAfter w z × IsSound b os z × Q v z

  pub after-table : (z : World) → Led ⊥ T z.memory.table → AllLiveStill T z.memory.table → z ≡ with_table w z.memory.table → IsAfter w z
  after-table z l a e = record {
    made = made-led T z.memory.table l;
    lives = a;
    statics = ap (λ (x : World). x.statics) e;
    literals = ap (λ (x : World). x.literals) e;
    functions = ap (λ (x : World). x.functions) e;
    bodies = ap (λ (x : World). x.bodies) e;
  }

  pub sound-table : (z : World) → Led ⊥ T z.memory.table → AllLiveStill T z.memory.table → z ≡ with_table w z.memory.table → IsSound b os z
  sound-table z l a e =
      sound-after b os w z l (after-table z l a e) (ap (λ (x : World). x.owners) e)
      (subst (λ m. AreFair z.memory.table m) (sym (ap (λ (x : World). x.memory.bytes) e)) (store-later T z.memory.table (made-led T z.memory.table l) w.memory.bytes sound.bytes)) sound

  pub leaves-tabled : (Q : Worth → World → Type 0) (d : Done) → Onward (OfTables (Led ⊥)) w d → Answering (λ v z. (z ≡ with_table w z.memory.table) × AllLiveStill T z.memory.table × Q v z) d → Answering (Leaving Q) d
  leaves-tabled Q (Answers v z t) l h = (after-table z l.leads h.1 h.0, sound-table z l.leads h.1 h.0, h.2)
  leaves-tabled Q (Fails y p z t) l h = tt
  leaves-tabled Q (Breaks y p z t) l h = tt

  -- bindings stay, instances live still, and bytes are fair
  abbrev pub Keeping : (Worth → World → Type 0) → Worth → World → Type 0
  Keeping Q v z = (z.owners ≡ w.owners) × (z.statics ≡ w.statics) × (z.literals ≡ w.literals) × (z.functions ≡ w.functions) × (z.bodies ≡ w.bodies) × AllLiveStill T z.memory.table × AreFair z.memory.table z.memory.bytes × Q v z

  pub leaves-keeping : (Q : Worth → World → Type 0) (d : Done) → Onward (OfTables (Led ⊥)) w d → Answering (Keeping Q) d → Answering (Leaving Q) d
  leaves-keeping Q (Answers v z t) l h =
      let a : IsAfter w z = record { made = made-led T z.memory.table l.leads; lives = h.5; statics = h.1; literals = h.2; functions = h.3; bodies = h.4 } in
      (a, sound-after b os w z l.leads a h.0 h.6 sound, h.7)
  leaves-keeping Q (Fails y p z t) l h = tt
  leaves-keeping Q (Breaks y p z t) l h = tt

  within : (i : ℕ) (x : Instance) → instance_at T.instances i ≡ Some x → x.base + x.size ≤ 2 ^ 47
  within i x e = (sound.laid.within i x e).upto

  answers-if : (Q : Worth → World → Type 0) (c : Bool) (d e : Done) → Answering Q d → Answering Q e → Answering Q (if c then d else e)
  answers-if Q true d e h g = h
  answers-if Q false d e h g = g

  -- accesses
  reaching-gives : (Q : Worth → World → Type 0) (p : Pointer) (us : List What) (got : Result Reach Stop × Table) (go : Reach → World → Told → Done) → Led ⊥ T got.1 → AllLiveStill T got.1 → ((at : Reach) (U : Table) → Led ⊥ T U → AllLiveStill T U → Answering Q (go at (with_table w U) (telling us))) → Answering Q (reaching_by w p us got go)
  reaching-gives Q p us (Ok at, U) go l a h = h at U l a
  reaching-gives Q p us (Err y, U) go l a h = tt

  reached : (p : Pointer) (n align : ℕ) (write : Bool) → Led ⊥ T (reach T p n align write ByAccess).1
  reached p n align write = reach-leads (led-changes b) w.memory p n align write ByAccess

  reads-gives : (u : Ty) (place : Worth) (rivals : List Access) → IsValueType (bare_type u) → Answering (TabledIn b w (bare_type u)) (reads b (lvalue b u) place rivals w)
  reads-gives u place rivals valued =
      let p = pointer_of place in
      let l = lvalue b u in
      reaching-gives (TabledIn b w (bare_type u)) p (range_use T p l.size) (reach T p l.size l.align false ByAccess) (reads_at b l p rivals) (reached p l.size l.align false) (reach-live T p l.size l.align false ByAccess) (λ at U led lives.
      let z = with_table w U in
      let s = sound-table z led lives refl in
      answers-if (TabledIn b w (bare_type u)) (permits b z l at false) _ _
      (answers-if (TabledIn b w (bare_type u)) (conflicts (access_to l p false) rivals) _ _ tt
      (answers-more (TabledIn b z (bare_type u)) (TabledIn b w (bare_type u)) (further U lives) _ (worth-gives b z (λ i x e. (s.laid.within i x e).upto) u (bytes_from z.memory.bytes at.address l.size) (Some at.address) (Some p.prov) (telling (range_use T p l.size)) valued (length-read z.memory.bytes at.address l.size) (read-fair U z.memory.bytes at.address l.size s.bytes)))) tt)
    where
      further : (U : Table) → AllLiveStill T U → (v : Worth) (z : World) → TabledIn b (with_table w U) (bare_type u) v z → TabledIn b w (bare_type u) v z
      further U l v z h = (h.0, all-on T U z.memory.table l h.1, h.2)

  writes-gives : (u : Ty) (place v : Worth) (from : Option ℕ) (rivals : List Access) → Value b w (bare_type u) v → Answering (Keeping (λ v z. Value b z (bare_type u) v)) (writes b (lvalue b u) place v from rivals w)
  writes-gives u place v from rivals h =
      let p = pointer_of place in
      let l = lvalue b u in
      let Q : Worth → World → Type 0 = Keeping (λ v z. Value b z (bare_type u) v) in
      unless-answers Q (why_missing v) w _
      (reaching-gives Q p (range_use T p l.size) (reach T p l.size l.align true ByAccess) (writes_at b l p v from rivals) (reached p l.size l.align true) (reach-live T p l.size l.align true ByAccess) (λ at U led lives.
      let z = with_table w U in
      let s = sound-table z led lives refl in
      let f = value-later T U (made-led T U led) v h.1 in
      answers-if Q (permits b z l at true) _ _
      (answers-if Q (conflicts (access_to l p true) rivals) _ _ tt
      (answers-if Q (is_inexact from p.address l.size) _ _ tt
      (refl, refl, refl, refl, refl, lives, written-fair U z.memory.bytes at.address (stored_as l.number l.shape v) s.bytes (stored-fair U l.number l.shape v f), (h.0, f)))) tt))

  -- parts of a structure or union
  take-length : (n : ℕ) (bs : List Byte) → n ≤ length bs → length (take n bs) ≡ n
  take-length zero bs h = refl
  take-length (suc n) [] h = absurd (omega (arith, h))
  take-length (suc n) (x ∷ bs) h = ap suc (take-length n bs (omega (arith, h)))

  part-length : (o n : ℕ) (bs : List Byte) → o + n ≤ length bs → length (take n (drop o bs)) ≡ n
  part-length zero n bs h = take-length n bs (omega (arith, h))
  part-length (suc o) n [] h = absurd (omega (arith, h))
  part-length (suc o) n (x ∷ bs) h = part-length o n bs (omega (arith, h))

  bare-valued : (t : Ty) → IsValueType t → (bare_type t ≡ t) × IsValueType (bare_type t)
  bare-valued (IntTy k) h = (refl, tt)
  bare-valued (PointerTo s) h = (refl, tt)
  bare-valued (StructTag n) h = (refl, tt)
  bare-valued (UnionTag n) h = (refl, tt)
  bare-valued VoidTy h = absurd h
  bare-valued (ArrayOf s n) h = absurd h
  bare-valued (FunctionTy s ts c) h = absurd h
  bare-valued (ConstOf s) h = absurd h

  tag-whole : (u : Ty) (v : Worth) → IsTag u → Value b w u v → IsWhole (layout_in (layouts b.unit) u).size v
  tag-whole u v (inl (n, e)) h = subst (λ x. IsOfType (layouts b.unit) x v → IsWhole (layout_in (layouts b.unit) x).size v) (sym e) (λ y. y) h.0
  tag-whole u v (inr (n, e)) h = subst (λ x. IsOfType (layouts b.unit) x v → IsWhole (layout_in (layouts b.unit) x).size v) (sym e) (λ y. y) h.0

  takes-gives : (offset : ℕ) (u t : Ty) (v : Worth) → IsTag u → IsValueType t → offset + size_of b t ≤ size_of b u → Value b w u v → Answering (TabledIn b w t) (takes_part offset (lvalue b t) v w)
  takes-gives offset u t v tag valued le h = by v (tag-whole u v tag h) h.1
    where
      by : (v : Worth) → IsWhole (layout_in (layouts b.unit) u).size v → IsFairWorth T v → Answering (TabledIn b w t) (takes_part offset (lvalue b t) v w)
      by (Whole bs a) e f =
          let r = bare-valued t valued in
          subst (λ x. Answering (TabledIn b w x) (takes_part offset (lvalue b t) (Whole bs a) w)) r.0
          (worth-gives b w within t (take (size_of b t) (drop offset bs)) None None no_telling r.1 (part-length offset (size_of b t) bs (subst (λ n. offset + size_of b t ≤ n) e le)) (take-fair T (size_of b t) (drop offset bs) (drop-fair T offset bs f)))
      by Missing e f = tt
      by (Scalar x) e f = absurd e
      by Nothing e f = absurd e

  -- places
  place-gives : (i : ℕ) (t r : Ty) → t ≡ PointerTo r → IsNumber T.instances i → TabledIn b w t (pointer (address_of w i)) w
  place-gives i t r e h =
      let x = instance-there T.instances i h in
      let l = within i x.0 x.1 in
      let base : base_in w i ≡ x.0.base = ap base_of x.1 in
      let low : base_in w i < 2 ^ 48 = omega (arith, l, base) in
      let all : base_in w i < 2 ^ 64 = omega (arith, low) in
      subst (λ y. TabledIn b w y (pointer (address_of w i)) w) (sym e) (refl, all-same T, (all, (h, λ q. low)))

  -- each operation
  int-fair : (k : IntKind) (U : Table) (v : Worth) → IsScalar (scalar.Int k) v → IsFairWorth U v
  int-fair k U (Scalar (IntValue n)) h = tt
  int-fair k U (Scalar Unset) h = tt
  int-fair k U (Scalar (PointerValue p)) h = absurd h
  int-fair k U Missing h = tt
  int-fair k U Nothing h = absurd h
  int-fair k U (Whole bs a) h = absurd h

  kind-tabled : (k : IntKind) (v : Worth) (z : World) → IsScalar (scalar.Int k) v × (z ≡ w) → TabledIn b w (IntTy k) v z
  kind-tabled k v z h = subst (λ x. TabledIn b w (IntTy k) v x) (sym h.1) (refl, all-same T, (h.0, int-fair k T v h.0))

  abbrev Val : Ty → Worth → World → Type 0
  Val t v z = Value b z t v

  onward : (o : Op) (t : Ty) → Promised b os w o t → Onward (OfTables (Led ⊥)) w (plain_doing b o w)
  onward o t h = subst (λ d. Onward (OfTables (Led ⊥)) w d) (promised b os w o t h) (does-on b (led-changes b) o (asked b os w o t h) w)

  leaves : (o : Op) (t u : Ty) → Promised b os w o t → t ≡ u → Answering (TabledIn b w u) (plain_doing b o w) → Answering (Leaving (Val t)) (plain_doing b o w)
  leaves o t u h e g = leaves-tabled (Val t) (plain_doing b o w) (onward o t h) (subst (λ x. Answering (TabledIn b w x) (plain_doing b o w)) (sym e) g)

  pub answers : (o : Op) (t : Ty) → Promised b os w o t → ((f : Library) (args : List Arg) → Promised b os w (op.Asks f args) t → Answering (Keeping (Val t)) (asks f args w)) → Answering (Leaving (Val t)) (plain_doing b o w)
  answers (op.Converts how v) t h a = leaves (op.Converts how v) t t h refl (converts-gives b w within how h.0 t v h.2 h.1)
  answers (op.Calculates o k v x) t h a =
      leaves (op.Calculates o k v x) t (IntTy (yielded_kind o k)) h h.7
      (answers-more _ _ (kind-tabled (yielded_kind o k)) (plain_doing b (op.Calculates o k v x) w) (calculates-gives o h.0 k v x w h.2 h.3 h.5.0))
  answers (op.CalculatesOne o k v) t h a =
      leaves (op.CalculatesOne o k v) t (IntTy k) h h.2 (answers-more _ _ (kind-tabled k) (plain_doing b (op.CalculatesOne o k v) w) (one-gives o k v w h.0 h.1.0))
  answers (op.Tests v) t h a = leaves (op.Tests v) t (IntTy Int) h h.2 (tests-gives b w within (IntTy Int) truth_int v (truth-value b w within Int))
  answers (op.Negates v) t h a = leaves (op.Negates v) t (IntTy Int) h h.2 (tests-gives b w within (IntTy Int) opposite v (opposite-value b w within Int))
  answers (op.Accepts v) t h a = leaves (op.Accepts v) t t h refl (unless-answers (TabledIn b w t) (why_missing v) w _ (refl, all-same T, h))
  answers (op.Needs v) t h a = leaves (op.Needs v) t t h refl (unless-answers (TabledIn b w t) (why_not_set v) w _ (refl, all-same T, h.2))
  answers (op.Moves minus first size v x) t h a = leaves (op.Moves minus first size v x) t (PointerTo h.2) h h.6 (moves-gives b w within minus first size h.0 h.1 h.2 v x h.3 h.4)
  answers (op.Subtracts size v x) t h a = leaves (op.Subtracts size v x) t (IntTy Long) h h.6 (subtracts-gives b w within size h.0 h.1 v x h.4 h.2 h.3)
  answers (op.Orders o v x) t h a = leaves (op.Orders o v x) t (IntTy Int) h h.5 (orders-gives b w within o v x h.4)
  answers (op.Equals negated v x) t h a = leaves (op.Equals negated v x) t (IntTy Int) h h.4 (equals-gives b w within negated v x)
  answers (op.Follows nothing v) t h a = leaves (op.Follows nothing v) t t h refl (follows-gives b w within nothing h.0 t v h.2 h.1)
  answers (op.Selects offset v) t h a = leaves (op.Selects offset v) t (PointerTo h.1) h h.3 (selects-gives b w within offset (PointerTo h.0) h.1 v h.2)
  answers (op.TakesPart offset l v) t h a =
      leaves (op.TakesPart offset l v) t t h refl (subst (λ x. Answering (TabledIn b w t) (takes_part offset x v w)) (sym h.5) (takes-gives offset h.0 t v h.2 h.4 h.6 h.1))
  answers (op.Reads l place rivals) t h a =
      leaves (op.Reads l place rivals) t (bare_type h.0) h h.4 (subst (λ x. Answering (TabledIn b w (bare_type h.0)) (reads b x place rivals w)) (sym h.1) (reads-gives h.0 place rivals h.3))
  answers (op.Writes l place v from rivals) t h a =
      leaves-keeping (Val t) (plain_doing b (op.Writes l place v from rivals) w) (onward (op.Writes l place v from rivals) t h)
      (subst (λ y. Answering (Keeping (Val y)) (writes b l place v from rivals w)) (sym h.4)
      (subst (λ x. Answering (Keeping (Val (bare_type h.0))) (writes b x place v from rivals w)) (sym h.1) (writes-gives h.0 place v from rivals (subst (λ y. Value b w y v) h.4 h.6))))
  answers (op.NamesObject o) t h a = leaves (op.NamesObject o) t t h refl (place-gives (instance_of w o (object_at b.unit o).lasting) t h.0 h.1 (home-number T (instance_for b o w) (size_of b (object_at b.unit o).t) (sound.objects o h.2)))
  answers (op.NamesLiteral l) t h a = leaves (op.NamesLiteral l) t t h refl (place-gives (literal_of w l) t h.0 h.1 (sound.literals l h.2))
  answers (op.NamesFunction f) t h a = leaves (op.NamesFunction f) t t h refl (place-gives (function_of w f) t h.0 h.1 (sound.functions f h.2))
  answers (op.Asks f args) t h a = leaves-keeping (Val t) (asks f args w) (onward (op.Asks f args) t h) (a f args h)
  answers (op.Finds r v) t h a = absurd h
  answers (op.Makes o) t h a = absurd h
  answers (op.MakesLiteral l) t h a = absurd h
  answers (op.MakesFunction f) t h a = absurd h
  answers (op.Ends o) t h a = absurd h
  answers (op.BeginsBody f n) t h a = absurd h
  answers op.EndsBody t h a = absurd h
  answers (op.Fills o v) t h a = absurd h
  answers (op.Puts o offset l v) t h a = absurd h
  answers (op.PutsText o offset size l) t h a = absurd h

  -- 6.9.1p12: a value that is passed on is there
  abbrev There : Ty → Worth → World → Type 0
  There t v z = Value b z t v × IsThere v

  present-there : (t : Ty) (v : Worth) → Value b w t v → Answering (λ v z. (z ≡ with_table w z.memory.table) × AllLiveStill T z.memory.table × There t v z) (accepts v w)
  present-there t Missing h = tt
  present-there t Nothing h = (refl, all-same T, (h, tt))
  present-there t (Scalar v) h = (refl, all-same T, (h, tt))
  present-there t (Whole bs a) h = (refl, all-same T, (h, tt))

  pub accepted : (t : Ty) (v : Worth) → Value b w t v → Answering (Leaving (There t)) (plain_doing b (op.Accepts v) w)
  accepted t v h = leaves-tabled (There t) (accepts v w) (onward (op.Accepts v) t h) (present-there t v h)

  some-same : (f g : ℕ) → Some f ≡ Some g → f ≡ g
  some-same f g e = cc

  found-fits : (t : Ty) (p : Pointer) (U : Table) (o : Option ℕ) (us : List What) (c : Bool) → AllLiveStill T U → may_call b t o ≡ c → ((f : ℕ) → o ≡ Some f → HasBody b.unit f) → Answering (λ v z. (z ≡ with_table w z.memory.table) × AllLiveStill T z.memory.table × MayBeCalled b t v z) (if c then Answers (int (pos (unwrap_or o 0))) (with_table w U) (telling us) else Fails unlike (Some p.prov) (with_table w U) (telling us))
  found-fits t p U o us false l e h = tt
  found-fits t p U None us true l e h = absurd (false≢true e)
  found-fits t p U (Some f) us true l e h = (refl, l, (e, h f refl, refl))

  found-by : (t : Ty) (p : Pointer) (got : Result (ℕ × Tried) Stop × Table) → AllLiveStill T got.1 → IfOk got.0 (λ (r : ℕ × Tried). IsCode T r.0) → Answering (λ v z. (z ≡ with_table w z.memory.table) × AllLiveStill T z.memory.table × MayBeCalled b t v z) (found_by w p (may_call b t) got)
  found-by t p (Ok r, U) l c = found-fits t p U (owner_of w r.0) (event_of_use code_test r.1) (may_call b t (owner_of w r.0)) l refl (λ f e. let g = sound.code r.0 c in subst (λ k. HasBody b.unit k) (some-same g.0 f (sym g.1 ∙ e)) g.2)
  found-by t p (Err y, U) l c = tt

  -- 6.5.2.2p1: what is found is a function
  found-owned : (got : Result (ℕ × Tried) Stop) → IfOk got (λ (r : ℕ × Tried). IsCode T r.0) → is_of_function w got ≡ true
  found-owned (Ok r) c = let g = sound.code r.0 c in ap is_some g.1
  found-owned (Err y) c = refl

  pub callee : (v : Worth) → may_be_pointer v ≡ true → is_callee w v ≡ true
  callee v h = both (may_be_pointer v) (is_of_function w (code T (pointer_of v)).0) h (found-owned (code T (pointer_of v)).0 (code-found T (pointer_of v)))

  pub found : (t : Ty) (v : Worth) → Onward (OfTables (Led ⊥)) w (finds (may_call b t) v w) → Answering (Leaving (MayBeCalled b t)) (finds (may_call b t) v w)
  found t v l =
      leaves-tabled (MayBeCalled b t) (finds (may_call b t) v w) l
      (unless-answers _ (why_not_set v) w _ (found-by t (pointer_of v) (code w.memory.table (pointer_of v)) (code-live w.memory.table (pointer_of v)) (code-found w.memory.table (pointer_of v))))
