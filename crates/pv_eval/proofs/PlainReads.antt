-- Reads of integers that pass all their checks, and leave the world as it is.
use Rattle.std.proofs.Common.{◌≡◌, ℕ, ◌+◌, ◌++◌, ◌-◌, ◌%◌, ◌≤◌, ◌≤ℤ◌, Bool, true, false, List, [], ◌∷◌, length, refl, sym, ap, ◌∙◌, arith, subst, Some, None}
use Rattle.std.specs.Prelude.{ℤ, pos, not, is_some, ◌||◌, ◌&&◌, ◌==◌, nat_le, Option, IfSome, if◌then◌else◌, Result, Ok, Err}
use Rattle.std.specs.List.{list_any}
use Rattle.std.proofs.lemmas.Bool.{le-leb}
use Rattle.std.proofs.lemmas.Int.{ints}
use Rattle.std.proofs.lemmas.List.{drop_all}
use Rattle.pv_num.specs.declared.kinds.IntKind.{IntKind}
use Rattle.pv_num.specs.declared.kinds.IntKind.TheVariants.{Bool as BoolKind, Char}
use Rattle.pv_fault.specs.declared.faults.Clause.TheVariants as clause
use Rattle.pv_fault.specs.declared.faults.Clause.TheVariants.{EffectiveTypes, Sequencing}
use Rattle.pv_fault.specs.declared.faults.Reason.TheVariants as reason
use Rattle.pv_fault.specs.declared.faults.Reason.TheVariants.{WrongType, Unsequenced}
use Rattle.pv_num.specs.Kinds.{least_member, greatest_member, convert_of}
use Rattle.pv_prov.specs.declared.names.Prov.TheVariants.{Inst}
use Rattle.pv_prov.specs.Names.{one_candidate}
use Rattle.pv_inst.specs.declared.values.Info.{Info}
use Rattle.pv_inst.specs.declared.values.Instance.{Instance}
use Rattle.pv_inst.specs.declared.values.Test.TheVariants.{Live, Range}
use Rattle.pv_inst.specs.declared.values.Miss.TheVariants.{Ended}
use Rattle.pv_inst.specs.Table.{Table, instance_at}
use Rattle.pv_inst.specs.Infos.{info_of}
use Rattle.pv_inst.specs.Use.{passes, any_survives, miss_of, use_answer, empty_use, holds}
use Rattle.pv_inst.specs.SameParts.{made_passes}
use Rattle.pv_shadow.specs.declared.byte.Byte.{Byte}
use Rattle.pv_shadow.specs.Bytes.{bytes_from}
use Rattle.pv_object.specs.declared.values.Pointer.{Pointer}
use Rattle.pv_object.specs.declared.values.Reach.{Reach}
use Rattle.pv_object.specs.declared.values.Stop.{Stop}
use Rattle.pv_object.specs.declared.values.Value.TheVariants.{Int as IntValue}
use Rattle.pv_object.specs.Reaching.{IsReachIn}
use Rattle.pv_object.specs.Access.{fault, reach_after, checked_in, or_stop, readonly_stop}
use Rattle.pv_object.specs.OperationParts.{write_stop}
use Rattle.pv_shadow.specs.Whole.{number_in}
use Rattle.pv_object.specs.Loading.{is_trap, integer_of, exposed_by}
use Rattle.pv_types.specs.Ty.{Ty, VoidTy, IntTy, PointerTo, ArrayOf, StructTag, UnionTag, FunctionTy, ConstOf}
use Rattle.pv_types.specs.Sorts.{bare_type}
use Rattle.pv_tree.specs.declared.nodes.NodeId.{NodeId}
use Rattle.pv_typed.specs.declared.nodes.Typed.TheVariants as typed
use Rattle.pv_typed.specs.TypedTree.{type_of}
use Rattle.pv_typed.specs.Tables.{Stored}
use Rattle.pv_typed.specs.NodeTrees.{expression_at}
use Rattle.pv_seq.specs.Sequencing.{Access, clash, overlap, conflicts, rivals, with_access}
use Rattle.pv_seq.specs.SequencingParts.{access_of}
use Rattle.pv_world.specs.declared.got.Shape.{Shape}
use Rattle.pv_world.specs.declared.got.Shape.TheVariants as shape
use Rattle.pv_world.specs.Worlds.{Worth, World, with_table}
use Rattle.pv_world.specs.Worths.{int, pointer, missing_value, undefined_behaviour}
use Rattle.pv_world.specs.Telling.{no_telling, telling, uses, range_test, each_paired, each_exposed, exposures, pairings}
use Rattle.pv_world.specs.Doing.{Answers, Fails}
use Rattle.pv_world.specs.Accesses.{reaching_by, scalar_by, worth_in}
use Rattle.pv_world.specs.AccessParts.{range_use}
use Rattle.pv_eval.specs.States.{Setting, then_do}
use Rattle.pv_eval.specs.TypeForms.{Lvalue, lvalue, shape_of}
use Rattle.pv_eval.specs.Sizes.{setting_of, size_in}
use Rattle.pv_world.specs.Suiting.{knows}
use Rattle.pv_eval.specs.Permission.{permits}
use Rattle.pv_eval.specs.Accesses.{access_to, reads_permitted, reads_at, reads}
use Rattle.pv_eval.specs.Operations.{Reads, does}
use Rattle.pv_eval.specs.Sequenced.{node_value}
use Rattle.pv_eval.specs.declared.plain.Found.{Found}
use Rattle.pv_eval.specs.Plainly.{setting_by, AreReads, has_read, GivesReading, GivesNoting, ReadsFrom, alone_tried, HasReached, IsPlainNumber, found_worth}
use Rattle.pv_inst.proofs.Rows.{row_found}
use Rattle.pv_world.proofs.Guards.{both_of}
use Rattle.pv_eval.proofs.Through.{fits_lvalue, right_false}
use Rattle.pv_eval.proofs.PlainSteps.{reads_both}
use Rattle.pv_eval.proofs.PlainNumbers.{act_gives, member_kept}

-- what is told of a live instance
abbrev pub told : Instance → Info
told x = record { name = x.name; k = x.k; base = x.base; size = x.size; kind = x.kind; exposed = x.exposed }

pub record IsTold (x : Instance) (y : Info) : Type 0 where
  pub live : x.live ≡ true
  pub is : told x ≡ y

told_by : (x : Instance) (y : Info) (c : Bool) → x.live ≡ c → (if c then Some (told x) else None) ≡ Some y → IsTold x y
told_by x y true e h = record { live = e; is = cc }
told_by x y false e h = absurd cc

pub told_live : (x : Instance) (y : Info) → info_of (Some x) ≡ Some y → IsTold x y
told_live x y h = told_by x y x.live refl h

-- a live object passes the test of a range that lies in it
passes_all : (zap : Bool) (x : Instance) (a n : ℕ) → x.live ≡ true → x.base ≤ a → a + n ≤ x.base + x.size → holds x.kind n ≡ true → passes zap x (Range a n) ≡ true
passes_all zap x a n live low high held =
    both_of x.live (nat_le x.base a && (nat_le (a + n) (x.base + x.size) && holds x.kind n)) live
    (both_of (nat_le x.base a) (nat_le (a + n) (x.base + x.size) && holds x.kind n) (le-leb x.base a low)
    (both_of (nat_le (a + n) (x.base + x.size)) (holds x.kind n) (le-leb (a + n) (x.base + x.size) high)
    held))

-- a name of a live instance was made
module _ (T : Table) (i : ℕ) (y : Info) (there : info_of (instance_at T.instances i) ≡ Some y) where
  known_by : (o : Option Instance) → instance_at T.instances i ≡ o → info_of o ≡ Some y → knows T (Inst i) ≡ true
  known_by None e h = absurd cc
  known_by (Some x) e h =
      let r = row_found T.instances i x (sym e) in
      let in_range : i ≤ length T.instances = omega (arith, r.from_one, r.within) in
      both_of (nat_le 1 i) (nat_le i (length T.instances)) (le-leb 1 i r.from_one) (le-leb i (length T.instances) in_range)

  pub live_known : knows T (Inst i) ≡ true
  live_known = known_by (instance_at T.instances i) refl there

-- a use of it for a range that lies in it
module _ (T : Table) (i a n : ℕ) (y : Info) (there : info_of (instance_at T.instances i) ≡ Some y) (low : y.base ≤ a) (high : a + n ≤ y.base + y.size) (held : holds y.kind n ≡ true) where
  survives_by : (o : Option Instance) → info_of o ≡ Some y → made_passes T.zap o (Range a n) ≡ true
  survives_by None h = absurd cc
  survives_by (Some x) h =
      let t = told_live x y h in
      let base : x.base ≡ y.base = ap (λ (z : Info). z.base) t.is in
      let size : x.size ≡ y.size = ap (λ (z : Info). z.size) t.is in
      passes_all T.zap x a n t.live (omega (arith, base, low)) (omega (arith, base, size, high)) (ap (λ (z : Info). holds z.kind n) t.is ∙ held)

  pub used : use_answer T (Inst i) (Range a n) ≡ Ok alone_tried
  used =
      ap (λ c. if c || false then Ok (record { pair = None; low = c; high = false }) else Err (if any_survives true T.instances (one_candidate i) Live then miss_of (Range a n) else Ended))
      (survives_by (instance_at T.instances i) there)

-- a read of that range
module _ (T : Table) (i a n align : ℕ) (y : Info) (there : info_of (instance_at T.instances i) ≡ Some y) (low : y.base ≤ a) (high : a + n ≤ y.base + y.size) (held : holds y.kind n ≡ true) (aligned : (a % align == 0) ≡ true) (write : Bool) (stops : (write && is_some (readonly_stop y.kind)) ≡ false) where
  abbrev p : Pointer
  p = record { address = a; prov = Inst i }

  abbrev at : Reach
  at = record { inst = i; offset = a - y.base; address = a; tried = alone_tried }

  abbrev used_here : use_answer T (Inst i) (Range a n) ≡ Ok alone_tried
  used_here = used T i a n y there low high held

  abbrev null_or : Bool → Result Reach Stop × Table
  null_or c = if c then (Err (fault clause.Indirection reason.Null), T) else reach_after T p n align write clause.Indirection (use_answer T (Inst i) (Range a n))

  may_write : (c d : Bool) (o : Option Stop) → (c && is_some o) ≡ false → (if c && not d then o else None) ≡ None
  may_write true true o h = refl
  may_write true false None h = refl
  may_write true false (Some s) h = absurd cc
  may_write false d o h = refl

  pub has_reached : HasReached T p n align write at
  has_reached = record {
    known = live_known T i y there;
    address = refl;
    used = used_here;
    is =
        ap null_or (right_false (a == 0) false refl)
        ∙ ap (reach_after T p n align write clause.Indirection) used_here
        ∙ ap (λ o. (checked_in i clause.Indirection p n align write alone_tried o, T)) there
        ∙ ap (λ c. (if c then or_stop (write_stop write n y.kind) at else Err (fault clause.Indirection reason.Misaligned), T)) aligned
        ∙ ap (λ o. (or_stop o at, T)) (may_write write (n == 0) (readonly_stop y.kind) stops);
  }

  within_by : (o : Option Instance) → info_of o ≡ Some y → IsReachIn o at n
  within_by None h = absurd cc
  within_by (Some x) h =
      let t = told_live x y h in
      let base : x.base ≡ y.base = ap (λ (z : Info). z.base) t.is in
      let size : x.size ≡ y.size = ap (λ (z : Info). z.size) t.is in
      (t.live, omega (arith, base, low), omega (arith, base, size, low, high))

  pub reached_within : IsReachIn (instance_at T.instances i) at n
  reached_within = within_by (instance_at T.instances i) there

-- reads don't conflict
pub no_clash : (a : Access) (xs : List Access) → a.writes ≡ false → AreReads xs → conflicts a xs ≡ false
no_clash a [] e h = refl
no_clash a (x ∷ xs) e h =
    ap (λ c. ((c || a.writes) && overlap a x) || list_any (clash a) xs) h.0
    ∙ ap (λ c. (c && overlap a x) || list_any (clash a) xs) e
    ∙ no_clash a xs e h.1

-- a load of bytes that are a number: nothing is exposed, and no pair is made
module _ (w : World) (bytes : List Byte) (k : IntKind) (p : Pointer) (m : ℕ) (z : ℤ) (is : IsPlainNumber bytes m) (trap : is_trap k m ≡ false) (value : z ≡ convert_of k (pos m)) (all : w.memory.table.pending ≡ []) where
  abbrev T : Table
  T = w.memory.table

  load_is : integer_of T k bytes (number_in bytes) ≡ (Ok (IntValue (convert_of k (pos m)), empty_use), T)
  load_is =
      ap (integer_of T k bytes) is.0
      ∙ ap (λ (c : Bool). if c then (Err (fault clause.Traps reason.Trap), T) else (Ok (IntValue (convert_of k (pos m)), empty_use), exposed_by T bytes)) trap
      ∙ ap (λ (U : Table). (Ok (IntValue (convert_of k (pos m)), empty_use), U)) (is.1 T)

  pub scalar_given : scalar_by w bytes (shape.Int k) (Some p.prov) no_telling (integer_of T k bytes (number_in bytes)) ≡ Answers (int z) w no_telling
  scalar_given =
      ap (scalar_by w bytes (shape.Int k) (Some p.prov) no_telling) load_is
      ∙ ap (λ (q : List ℕ). Answers (int (convert_of k (pos m))) (with_table w (record T { pending = q })) (telling ([] ++ pairings T T ++ [] ++ exposures T))) (sym all)
      ∙ ap (λ ts. Answers (int (convert_of k (pos m))) w (telling ([] ++ each_paired T (length T.pairs + 1) ts ++ [] ++ exposures T))) (drop_all (length T.pairs) T.pairs (omega arith))
      ∙ ap (λ (q : List ℕ). Answers (int (convert_of k (pos m))) w (telling ([] ++ [] ++ [] ++ each_exposed q))) all
      ∙ ap (λ (c : ℤ). Answers (int c) w no_telling) (sym value)

-- a read of an integer that was reached, is permitted and is a number
module _ (u : Stored) (w : World) (t : Ty) (k : IntKind) (p : Pointer) (at : Reach) (form : shape_of t ≡ shape.Int k) (fits : fits_lvalue u t ≡ true) (known : knows w.memory.table p.prov ≡ true) where
  abbrev l : Lvalue
  l = lvalue (setting_of u) t

  abbrev bytes_there : List Byte
  bytes_there = bytes_from w.memory.bytes at.address l.size

  pub number_read : (m : ℕ) (z : ℤ) → HasReached w.memory.table p l.size l.align false at → permits (setting_of u) w l at false ≡ true → w.memory.table.pending ≡ [] → IsPlainNumber bytes_there m → is_trap k m ≡ false → z ≡ convert_of k (pos m)
      → ReadsFrom u w t p (int z)
  number_read m z reached permitted all is trap value = λ bound sides zap rs hr.
      let b = setting_by u bound sides zap in
      ap (λ c. if c then reads b l (pointer p) rs w else Fails missing_value None w no_telling) (both_of (fits_lvalue u t) (knows w.memory.table p.prov) fits known)
      ∙ ap (λ x. reaching_by w p (range_use w.memory.table p l.size) x (reads_at b l p rs)) reached.is
      ∙ ap (λ x. reads_at b l p rs at w (telling (uses range_test x))) reached.used
      ∙ ap (λ c. if c then reads_permitted l p rs at w no_telling else Fails (undefined_behaviour EffectiveTypes WrongType) (Some p.prov) w no_telling) permitted
      ∙ ap (λ c. if c then Fails (undefined_behaviour Sequencing Unsequenced) (Some p.prov) w no_telling else worth_in w bytes_there l.shape (Some at.address) (Some p.prov) no_telling) (no_clash (access_to l p false) rs refl hr)
      ∙ ap (λ (s : Shape). worth_in w bytes_there s (Some at.address) (Some p.prov) no_telling) form
      ∙ scalar_given w bytes_there k p m z is trap value all

-- a number that is no greater than the members of a kind is one
least_below : (k : IntKind) (n : ℕ) → least_member k ≤ℤ pos n
least_below BoolKind n = grind (arith, ints)
least_below Char n = grind (arith, ints)
least_below _ n = grind (arith, ints)

pub member_stays : (k : IntKind) (n : ℕ) → pos n ≤ℤ greatest_member k → convert_of k (pos n) ≡ pos n
member_stays k n h = member_kept k (pos n) (least_below k n, h)

pub read_some : (u : Stored) (w : World) (t : Ty) (k : IntKind) (p : Pointer) (spot : Reach) (size align m : ℕ) (z : ℤ) (r : Option Found) → shape_of t ≡ shape.Int k → fits_lvalue u t ≡ true
    → size ≡ (lvalue (setting_of u) t).size → align ≡ (lvalue (setting_of u) t).align → HasReached w.memory.table p size align false spot → permits (setting_of u) w (lvalue (setting_of u) t) spot false ≡ true
    → w.memory.table.pending ≡ [] → IsPlainNumber (bytes_from w.memory.bytes spot.address size) m → is_trap k m ≡ false → z ≡ convert_of k (pos m) → IfSome r (λ q. found_worth q ≡ int z) → IfSome r (λ q. ReadsFrom u w t p (found_worth q))
read_some u w t k p spot size align m z None form fits es ea reached permitted all is trap value h = tt
read_some u w t k p spot size align m z (Some q) form fits es ea reached permitted all is trap value h =
    let l = lvalue (setting_of u) t in
    subst (ReadsFrom u w t p) (sym h)
    (number_read u w t k p spot form fits reached.known m z
    (subst (λ (n : ℕ). HasReached w.memory.table p l.size n false spot) ea (subst (λ (n : ℕ). HasReached w.memory.table p n align false spot) es reached))
    permitted all (subst (λ (n : ℕ). IsPlainNumber (bytes_from w.memory.bytes spot.address n) m) es is) trap value)

-- a node that reads it
-- 6.3.2.1p2: what an lvalue is, and what is read through it, doesn't ask for the qualifiers of its type
lvalue_bare : (b : Setting) (t : Ty) → lvalue b (bare_type t) ≡ lvalue b t
lvalue_bare b (ConstOf t) = lvalue_bare b t
lvalue_bare b VoidTy = refl
lvalue_bare b (IntTy k) = refl
lvalue_bare b (PointerTo t) = refl
lvalue_bare b (ArrayOf t n) = refl
lvalue_bare b (StructTag n) = refl
lvalue_bare b (UnionTag n) = refl
lvalue_bare b (FunctionTy t ts v) = refl

pub reads_bare : (u : Stored) (w : World) (t : Ty) (p : Pointer) (v : Worth) → ReadsFrom u w (bare_type t) p v → ReadsFrom u w t p v
reads_bare u w t p v h = λ bound sides zap others only.
    ap (λ l. does (setting_by u bound sides zap) (Reads l (pointer p) others) w) (sym (lvalue_bare (setting_by u bound sides zap) t)) ∙ h bound sides zap others only

pub read_given : (u : Stored) (w : World) (t : Ty) (a : NodeId) (p : Pointer) (v : Worth) → ReadsFrom u w (type_of (expression_at u a)) p v → GivesReading u w t (typed.Read a) (pointer p) v
read_given u w t a p v h = record {
  own = access_to (lvalue (setting_of u) (type_of (expression_at u a))) p false;
  read = refl;
  turns = λ turn. refl;
  gives = λ call bound sides zap line fs gs out es n hf hg.
      let b = setting_by u bound sides zap in
      let l = lvalue b (type_of (expression_at u a)) in
      let j = has_read fs gs in
      record {
        reads = reads_both gs (access_to l p false ∷ []) hg (refl, tt);
        is =
            ap (λ r. then_do r (λ v s. node_value (with_access (access_to l p false) j) v s))
            (act_gives w out es n b line (Reads l (pointer p) (rivals j)) v (h bound sides zap (fs ++ []) (reads_both fs [] hf tt)));
      };
}

-- what was read, once the read is noted if it is to be
pub noting_given : (noting : Bool) (ks js : List Access) (u : Stored) (w : World) (t : Ty) (a : NodeId) (p : Pointer) (size : ℕ) (v : Found) (r : Option Found) → size ≡ size_in u.known (type_of (expression_at u a))
    → ReadsFrom u w (type_of (expression_at u a)) p (found_worth v) → IfSome r (λ z. z ≡ v) → IfSome r (λ z. noting ≡ true → js ≡ ks ++ access_of p.address size false ∷ []) → IfSome r (λ z. GivesNoting u w t (typed.Read a) (pointer p) (found_worth z) noting ks js)
unfolding read_given
noting_given noting ks js u w t a p size v None e h same is = tt
noting_given noting ks js u w t a p size v (Some z) e h same is = record {
  gives = read_given u w t a p (found_worth z) (subst (λ (q : Found). ReadsFrom u w (type_of (expression_at u a)) p (found_worth q)) (sym same) h);
  noted = λ on. is on ∙ ap (λ n. ks ++ access_of p.address n false ∷ []) e;
}
