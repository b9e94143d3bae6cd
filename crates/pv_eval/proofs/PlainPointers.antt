-- Reads of pointers that were stored whole, which pass all their checks and leave the world as it is.
use Rattle.std.proofs.Common.{◌≡◌, ℕ, ◌+◌, ◌++◌, Bool, true, false, List, [], length, refl, sym, ap, ◌∙◌, arith, subst, Some, None}
use Rattle.std.specs.Prelude.{not, is_some, ◌||◌, Option, IfSome, if◌then◌else◌, Ok, Err}
use Rattle.std.proofs.lemmas.List.{drop_all}
use Rattle.pv_fault.specs.declared.faults.Clause.TheVariants.{EffectiveTypes, Sequencing}
use Rattle.pv_fault.specs.declared.faults.Reason.TheVariants.{WrongType, Unsequenced}
use Rattle.std.specs.Option.{option_map, option_and_then}
use Rattle.pv_prov.specs.declared.names.Prov.{Prov}
use Rattle.pv_prov.specs.declared.names.Prov.TheVariants.{Empty, Inst}
use Rattle.pv_prov.specs.Names.{one_candidate}
use Rattle.pv_inst.specs.declared.values.Info.{Info}
use Rattle.pv_inst.specs.declared.values.Instance.{Instance}
use Rattle.pv_inst.specs.declared.values.Test.TheVariants.{Live}
use Rattle.pv_inst.specs.declared.values.Miss.TheVariants.{Ended}
use Rattle.pv_inst.specs.Table.{Table, instance_at}
use Rattle.pv_inst.specs.Infos.{info_of}
use Rattle.pv_inst.specs.Use.{any_survives, miss_of, use_answer, empty_use, after_use}
use Rattle.pv_inst.specs.SameParts.{made_passes}
use Rattle.pv_shadow.specs.declared.byte.Byte.{Byte}
use Rattle.pv_shadow.specs.Bytes.{bytes_from}
use Rattle.pv_shadow.specs.Whole.{whole_name, number_in}
use Rattle.pv_object.specs.declared.values.Pointer.{Pointer}
use Rattle.pv_object.specs.declared.values.Reach.{Reach}
use Rattle.pv_object.specs.declared.values.Value.TheVariants.{Pointer as PointerValue}
use Rattle.pv_object.specs.Loading.{pointer_of, pointer_named}
use Rattle.pv_object.specs.OperationParts.{live_answer}
use Rattle.pv_object.specs.Loads.{whole_pointer}
use Rattle.pv_types.specs.Ty.{Ty}
use Rattle.pv_typed.specs.Tables.{Stored}
use Rattle.pv_world.specs.declared.got.Shape.{Shape}
use Rattle.pv_world.specs.declared.got.Shape.TheVariants as shape
use Rattle.pv_world.specs.Worlds.{World, with_table}
use Rattle.pv_world.specs.Worths.{pointer, null_pointer, missing_value, undefined_behaviour}
use Rattle.pv_world.specs.Telling.{no_telling, telling, uses, live_test, range_test, each_paired, each_exposed, exposures, pairings}
use Rattle.pv_world.specs.ObjectParts.{used_pair}
use Rattle.pv_world.specs.Doing.{Answers, Fails}
use Rattle.pv_world.specs.Accesses.{reaching_by, scalar_by, worth_in}
use Rattle.pv_world.specs.AccessParts.{range_use}
use Rattle.pv_eval.specs.TypeForms.{Lvalue, lvalue, shape_of}
use Rattle.pv_eval.specs.Sizes.{setting_of}
use Rattle.pv_world.specs.Suiting.{knows}
use Rattle.pv_eval.specs.Permission.{permits}
use Rattle.pv_eval.specs.Accesses.{access_to, reads_permitted, reads_at, reads}
use Rattle.pv_eval.specs.declared.plain.Found.{Found}
use Rattle.pv_eval.specs.Plainly.{setting_by, ReadsFrom, alone_tried, HasReached, IsLooked, found_worth}
use Rattle.pv_world.proofs.Guards.{both_of}
use Rattle.pv_eval.proofs.Through.{fits_lvalue}
use Rattle.pv_eval.proofs.PlainReads.{told_live, live_known, no_clash}

-- a live instance passes the live test
live_passes : (zap live : Bool) → live ≡ true → (not zap || live) ≡ true
live_passes true live e = e
live_passes false live e = refl

module _ (T : Table) (i : ℕ) (y : Info) (there : info_of (instance_at T.instances i) ≡ Some y) where
  lives_by : (o : Option Instance) → info_of o ≡ Some y → made_passes T.zap o Live ≡ true
  lives_by None h = absurd cc
  lives_by (Some x) h = let t = told_live x y h in live_passes T.zap x.live t.live

  used_live : use_answer T (Inst i) Live ≡ Ok alone_tried
  used_live =
      ap (λ c. if c || false then Ok (record { pair = None; low = c; high = false }) else Err (if any_survives true T.instances (one_candidate i) Live then miss_of Live else Ended))
      (lives_by (instance_at T.instances i) there)

pub live_used : (T : Table) (i : ℕ) (o : Option Info) → o ≡ info_of (instance_at T.instances i) → is_some o ≡ true → use_answer T (Inst i) Live ≡ Ok alone_tried
live_used T i None e h = absurd cc
live_used T i (Some y) e h = used_live T i y (sym e)

pub live_is_known : (T : Table) (i : ℕ) (o : Option Info) → o ≡ info_of (instance_at T.instances i) → is_some o ≡ true → knows T (Inst i) ≡ true
live_is_known T i None e h = absurd cc
live_is_known T i (Some y) e h = live_known T i y (sym e)

-- pointers that pass their live tests
pub looked_null : (T : Table) → IsLooked T (pointer null_pointer) 0
looked_null T = record { named = null_pointer; is = refl; address = refl; known = refl; tried = empty_use; used = refl; single = refl; stays = refl }

pub looked_empty : (T : Table) (a : ℕ) → a ≡ 0 → IsLooked T (pointer (record { address = a; prov = Empty })) a
looked_empty T a e = subst (λ (n : ℕ). IsLooked T (pointer (record { address = n; prov = Empty })) n) (sym e) (looked_null T)

pub looked_live : (T : Table) (i a : ℕ) → knows T (Inst i) ≡ true → use_answer T (Inst i) Live ≡ Ok alone_tried → IsLooked T (pointer (record { address = a; prov = Inst i })) a
looked_live T i a known used = record { named = record { address = a; prov = Inst i }; is = refl; address = refl; known = known; tried = alone_tried; used = used; single = refl; stays = refl }

-- bytes that are a pointer stored whole have its address, and its name
whole_parts : (n : Option ℕ) (m : Option Prov) (q : Pointer) → option_map (λ (x : ℕ × Prov). record { address = x.0; prov = x.1 }) (option_and_then (λ a. option_map (λ p. (a, p)) m) n) ≡ Some q → (n ≡ Some q.address) × (m ≡ Some q.prov)
whole_parts None m q h = absurd cc
whole_parts (Some a) None q h = absurd cc
whole_parts (Some a) (Some r) q h =
    let e : record { address = a; prov = r } ≡ q = cc in
    (ap (λ (z : Pointer). Some z.address) e, ap (λ (z : Pointer). Some z.prov) e)

same_pointer : (p q : Pointer) → pointer p ≡ pointer q → p ≡ q
same_pointer p q e = cc

-- a load of such bytes, of which the pointer passes its live test
module _ (w : World) (bytes : List Byte) (q : Pointer) (a : ℕ) (p : Pointer) (whole : whole_pointer bytes ≡ Some q) (looked : IsLooked w.memory.table (pointer q) a) (all : w.memory.table.pending ≡ []) where
  abbrev T : Table
  T = w.memory.table

  named : looked.named ≡ q
  named = sym (same_pointer q looked.named looked.is)

  used_q : use_answer T q.prov Live ≡ Ok looked.tried
  used_q = ap (λ (z : Pointer). use_answer T z.prov Live) (sym named) ∙ looked.used

  stays_q : after_use T q.prov (Ok looked.tried) ≡ T
  stays_q = ap (λ (z : Pointer). after_use T z.prov (Ok looked.tried)) (sym named) ∙ looked.stays

  pointer_is : pointer_of T bytes (number_in bytes) ≡ (Ok (PointerValue q, looked.tried), T)
  pointer_is =
      let parts = whole_parts (number_in bytes) (whole_name bytes) q whole in
      ap (pointer_of T bytes) parts.0
      ∙ ap (λ m. pointer_named T m q.address) parts.1
      ∙ ap (λ x. (live_answer q x, after_use T q.prov x)) used_q
      ∙ ap (λ (U : Table). (Ok (PointerValue q, looked.tried), U)) stays_q

  pub pointer_given : scalar_by w bytes shape.Pointer (Some p.prov) no_telling (pointer_of T bytes (number_in bytes)) ≡ Answers (pointer q) w no_telling
  pointer_given =
      ap (scalar_by w bytes shape.Pointer (Some p.prov) no_telling) pointer_is
      ∙ ap (λ (xs : List ℕ). Answers (pointer q) (with_table w (record T { pending = xs })) (telling ([] ++ pairings T T ++ used_pair looked.tried.pair live_test looked.tried ++ exposures T))) (sym all)
      ∙ ap (λ k. Answers (pointer q) w (telling ([] ++ pairings T T ++ used_pair k live_test looked.tried ++ exposures T))) looked.single
      ∙ ap (λ ts. Answers (pointer q) w (telling ([] ++ each_paired T (length T.pairs + 1) ts ++ [] ++ exposures T))) (drop_all (length T.pairs) T.pairs (omega arith))
      ∙ ap (λ (xs : List ℕ). Answers (pointer q) w (telling ([] ++ [] ++ [] ++ each_exposed xs))) all

-- a read of a pointer that was reached, is permitted and was stored whole
module _ (u : Stored) (w : World) (t : Ty) (p : Pointer) (at : Reach) (form : shape_of t ≡ shape.Pointer) (fits : fits_lvalue u t ≡ true) (known : knows w.memory.table p.prov ≡ true) where
  abbrev l : Lvalue
  l = lvalue (setting_of u) t

  abbrev bytes_there : List Byte
  bytes_there = bytes_from w.memory.bytes at.address l.size

  pub pointer_read : (q : Pointer) (a : ℕ) → HasReached w.memory.table p l.size l.align false at → permits (setting_of u) w l at false ≡ true → w.memory.table.pending ≡ [] → whole_pointer bytes_there ≡ Some q → IsLooked w.memory.table (pointer q) a
      → ReadsFrom u w t p (pointer q)
  pointer_read q a reached permitted all whole looked = λ bound sides zap rs hr.
      let b = setting_by u bound sides zap in
      ap (λ c. if c then reads b l (pointer p) rs w else Fails missing_value None w no_telling) (both_of (fits_lvalue u t) (knows w.memory.table p.prov) fits known)
      ∙ ap (λ x. reaching_by w p (range_use w.memory.table p l.size) x (reads_at b l p rs)) reached.is
      ∙ ap (λ x. reads_at b l p rs at w (telling (uses range_test x))) reached.used
      ∙ ap (λ c. if c then reads_permitted l p rs at w no_telling else Fails (undefined_behaviour EffectiveTypes WrongType) (Some p.prov) w no_telling) permitted
      ∙ ap (λ c. if c then Fails (undefined_behaviour Sequencing Unsequenced) (Some p.prov) w no_telling else worth_in w bytes_there l.shape (Some at.address) (Some p.prov) no_telling) (no_clash (access_to l p false) rs refl hr)
      ∙ ap (λ (s : Shape). worth_in w bytes_there s (Some at.address) (Some p.prov) no_telling) form
      ∙ pointer_given w bytes_there q a p whole looked all

pub pointer_some : (u : Stored) (w : World) (t : Ty) (p : Pointer) (spot : Reach) (size align : ℕ) (q : Pointer) (r : Option Found) → shape_of t ≡ shape.Pointer → fits_lvalue u t ≡ true
    → size ≡ (lvalue (setting_of u) t).size → align ≡ (lvalue (setting_of u) t).align → HasReached w.memory.table p size align false spot → permits (setting_of u) w (lvalue (setting_of u) t) spot false ≡ true
    → w.memory.table.pending ≡ [] → whole_pointer (bytes_from w.memory.bytes spot.address size) ≡ Some q → IfSome r (λ v. found_worth v ≡ pointer q) → IfSome r (λ v. IsLooked w.memory.table (pointer q) q.address)
    → IfSome r (λ v. ReadsFrom u w t p (found_worth v))
pointer_some u w t p spot size align q None form fits es ea reached permitted all whole value looked = tt
pointer_some u w t p spot size align q (Some v) form fits es ea reached permitted all whole value looked =
    let l = lvalue (setting_of u) t in
    subst (ReadsFrom u w t p) (sym value)
    (pointer_read u w t p spot form fits reached.known q q.address
    (subst (λ (n : ℕ). HasReached w.memory.table p l.size n false spot) ea (subst (λ (n : ℕ). HasReached w.memory.table p n align false spot) es reached))
    permitted all (subst (λ (n : ℕ). whole_pointer (bytes_from w.memory.bytes spot.address n) ≡ Some q) es whole) looked)
