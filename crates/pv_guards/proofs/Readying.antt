-- Before the first turn: static objects, literals, functions and initializers, with the guards and without, and so whole runs (C17 5.1.2).
use Rattle.std.proofs.Common.{◌≡◌, ◌≢◌, ℕ, suc, ◌+◌, ◌<◌, ◌≤◌, ◌^◌, ◌%◌, Bool, true, false, cond, eqb, List, [], ◌∷◌, ◌++◌, length, replicate, Option, Some, None, Result, Ok, Err, refl, sym, ap, ◌∙◌, subst, arith, ◌⊎◌, inl, inr}
use Rattle.std.specs.Prelude.{if◌then◌else◌}
use Rattle.std.specs.FinMap as map
use Rattle.std.specs.FinMap.{get-empty}
use Rattle.std.specs.Ordering.{nat_cmp}
use Rattle.std.proofs.lemmas.Option.{none-some}
use Rattle.pv_script.specs.Lines.{ScriptLine}
use Rattle.pv_types.specs.Ty.{Ty, NoTys, PointerTo}
use Rattle.pv_types.specs.Sorts.{bare_type}
use Rattle.pv_inst.specs.declared.values.Instance.{Instance}
use Rattle.pv_inst.specs.declared.values.CreateError.{CreateError}
use Rattle.pv_inst.specs.Infos.{base_of}
use Rattle.pv_inst.specs.Table.{Table, instance_at, IsNumber}
use Rattle.pv_inst.specs.Placing.{Request, place}
use Rattle.pv_inst.proofs.Apartness.{same_or_not}
use Rattle.pv_shadow.specs.declared.byte.Byte.{Byte}
use Rattle.pv_shadow.specs.Whole.{number_bytes as plain_bytes}
use Rattle.pv_inst.specs.Use.{is_heap, is_function}
use Rattle.pv_object.specs.Memory.{Mem}
use Rattle.pv_object.specs.Creating.{with_new_bytes}
use Rattle.pv_object.proofs.Born.{IsBorn}
use Rattle.pv_script.specs.Names.{name_at as text_of}
use Rattle.pv_typed.specs.declared.values.Const.{Const}
use Rattle.pv_typed.specs.declared.values.Const.TheVariants as const
use Rattle.pv_typed.specs.Known.{Each}
use Rattle.pv_typed.specs.Mains.{main_of}
use Rattle.pv_typed.specs.Tables.{Stored, whole_unit}
use Rattle.pv_typed.specs.TypedUnits.{Store, StoredValue, ValueOf, TextOf, layouts, object_at, function_at, literal_at}
use Rattle.pv_world.specs.Worlds.{Worth, Nothing, Missing, Scalar, Whole, World}
use Rattle.pv_world.specs.Worths.{int, pointer, null_pointer}
use Rattle.pv_world.specs.Accesses.{stored_as}
use Rattle.pv_world.specs.Objects.{put_at, instance_of, literal_of, function_of, base_in, makes_object, owner_of, owning, function_request}
use Rattle.pv_world.specs.ObjectParts.{filling, object_made, literal_made, literal_request, function_made}
use Rattle.pv_eval.specs.States.{Setting, State, Res, Gives, Stops, Unreached}
use Rattle.pv_eval.specs.Acting.{with_side}
use Rattle.pv_eval.specs.ActingParts.{one_kept, keeps_both}
use Rattle.pv_eval.specs.TypeForms.{lvalue, size_of}
use Rattle.pv_eval.specs.Constants.{constant_worth, place_by}
use Rattle.pv_eval.specs.Objects.{heap_name, request_of, text_for, instance_for}
use Rattle.pv_eval.specs.Operations.{Makes, MakesLiteral, MakesFunction, Fills, Puts, PutsText, act}
use Rattle.pv_exec.specs.Laying.{IsLaidOut}
use Rattle.pv_exec.specs.OfRuns.{below, make_static, store_constant, store_static, prepare, call_main}
use Rattle.pv_exec.specs.Lists.{make_statics, make_literals, make_functions, store_statics, initialize_statics}
use Rattle.pv_exec.specs.Run.{run_of_by, initial_state, run_of, setting_of}
use Rattle.pv_exec.proofs.Reaching.{EndFits, run-fits}
use Rattle.pv_exec.proofs.Memory.Rows.{Leads as Led}
use Rattle.pv_exec.proofs.Memory.Tables.{place-leads}
use Rattle.pv_exec.proofs.Memory.Runs.{first-sound}
use Rattle.pv_guards.proofs.Laid.{sound-laid}
use Rattle.pv_prov.specs.Names.{twin_at}
use Rattle.pv_num.specs.declared.kinds.IntKind.TheVariants.{Int}
use Rattle.pv_object.specs.declared.values.Scalar.TheVariants as scalar
use Rattle.pv_object.specs.declared.values.Value.TheVariants.{Int as IntValue, Unset, Pointer as PointerValue}
use Rattle.pv_guards.specs.Worths.{IsScalar, IsOfType, IsThere}
use Rattle.pv_guards.specs.Fair.{IsFair, AreFair}
use Rattle.pv_guards.specs.Typed.{IsIn, IsValueType, HasBody}
use Rattle.pv_guards.specs.Soundness.{Value, IsFairWorth, IsHomeIn, IsHome, IsCodeIn, IsCode, IsSound, AllLiveStill}
use Rattle.pv_guards.specs.TypedStatements.{IsMakeable, LiesIn, IsPlaced, IsConstantOf, IsConstant, AreConstants, IsTypedUnit}
use Rattle.pv_guards.specs.Plain.{act_plainly}
use Rattle.pv_guards.specs.PlainRun as plain
use Rattle.pv_guards.specs.PlainParts as parts
use Rattle.pv_guards.specs.PlainLists as lists
use Rattle.pv_guards.proofs.Fair.{store-later, written-fair, plain-fair}
use Rattle.pv_guards.proofs.Found.{no-name}
use Rattle.pv_guards.proofs.Living.{same-live, place-live, longer-live, IsNext, next-made, next-home, home-number, home-later, code-earlier, not-code, new-other}
use Rattle.pv_guards.proofs.Made.{instance-there, number-led, made-led, laid-led}
use Rattle.pv_guards.proofs.Possible.{makes-same, fills-same, puts-same, text-same, literal-same, function-same}
use Rattle.pv_guards.proofs.Results.{Answering}
use Rattle.pv_guards.proofs.Leaving.{stored-fair}
use Rattle.pv_guards.proofs.Acting.{kept-if}
use Rattle.pv_guards.proofs.LibraryLeads.{blank-fair}
use Rattle.pv_guards.proofs.Objects.{placed-number, placed-born, placed-new, owner-other, owner-next, owners-more, bound_number, bound-here, bound-other, inserted, all-fair-of, filling-fair-of, take-small}
use Rattle.pv_guards.proofs.Sure.{Lands, Sure, sure-seq, sure-more, does-sure}
use Rattle.pv_world.specs.Suiting.{is_stored}
use Rattle.pv_guards.specs.Ruled.{has_instance}
use Rattle.pv_guards.proofs.Numbers.{both}
use Rattle.pv_guards.proofs.Ruled.{bound-there}
use Rattle.pv_guards.proofs.Values.{stored-of, to-bare}
use Rattle.pv_guards.proofs.Statements.{moved-in}
use Rattle.pv_guards.specs.Laws.{IsStatus}
use Rattle.pv_guards.proofs.Mains.{main-has-name}
use Rattle.pv_guards.proofs.Bodies.{call-sure, levels}

-- 6.2.4p3: the instance of an object with static storage
abbrev pub static_of : World → ℕ → ℕ
static_of w o = bound_number w.statics o

-- what a world keeps before the first turn: these static objects live in instances of their own, and these literals and functions have
-- instances
pub record Ready (b : Setting) (ss ls fs : List ℕ) (w : World) : Type 0 where
  pub laid : IsLaidOut w.memory.table
  pub bytes : AreFair w.memory.table w.memory.bytes
  pub statics : (o : ℕ) → IsIn o ss → IsHome w.memory.table (static_of w o) (size_of b (object_at b.unit o).t)
  pub apart : (o q : ℕ) → IsIn o ss → IsIn q ss → static_of w o ≡ static_of w q → o ≡ q
  pub literals : (l : ℕ) → IsIn l ls → IsNumber w.memory.table.instances (literal_of w l)
  pub functions : (f : ℕ) → IsIn f fs → IsNumber w.memory.table.instances (function_of w f)
  pub code : (i : ℕ) → IsCode w.memory.table i → (f : ℕ) × (owner_of w i ≡ Some f) × HasBody b.unit f
  pub owned : length w.owners ≤ length w.memory.table.instances

module _ (b : Setting) (ss ls fs : List ℕ) where
  -- another table
  ready-table : (w : World) (U : Table) → Led ⊥ w.memory.table U → AllLiveStill w.memory.table U → Ready b ss ls fs w → Ready b ss ls fs (record w { memory = record w.memory { table = U } })
  ready-table w U l a h = record {
    laid = laid-led w.memory.table U l h.laid;
    bytes = store-later w.memory.table U (made-led w.memory.table U l) w.memory.bytes h.bytes;
    statics = λ o g. home-later w.memory.table U a (static_of w o) (size_of b (object_at b.unit o).t) (h.statics o g);
    apart = h.apart;
    literals = λ o g. number-led w.memory.table U l _ (h.literals o g);
    functions = λ o g. number-led w.memory.table U l _ (h.functions o g);
    code = λ i c. h.code i (code-earlier w.memory.table U a i c);
    owned = let more = longer-live w.memory.table U a in let few = h.owned in omega (arith, more, few);
  }

  side-if : (c : Bool) (w : World) (k : ℕ) (high : Bool) → Led ⊥ w.memory.table (if c then one_kept w k high else w).memory.table → Ready b ss ls fs w → Ready b ss ls fs (if c then one_kept w k high else w)
  side-if true w k high l h = ready-table w (one_kept w k high).memory.table l (same-live w.memory.table (one_kept w k high).memory.table refl) h
  side-if false w k high l h = h

  ready-sided : (v : Worth) (w : World) (k : ℕ) (high : Bool) → Ready b ss ls fs w → Ready b ss ls fs (with_side w k high)
  ready-sided v w k high h = let c = keeps_both (twin_at w.memory.table.pairs k) in side-if c w k high (kept-if c w k high refl) h

  -- other bytes
  ready-bytes : (w : World) (a : ℕ) (bytes : List Byte) → Each (IsFair w.memory.table) bytes → Ready b ss ls fs w → Ready b ss ls fs (put_at w a bytes)
  ready-bytes w a bytes f h = record {
    laid = h.laid;
    bytes = written-fair w.memory.table w.memory.bytes a bytes h.bytes f;
    statics = h.statics;
    apart = h.apart;
    literals = h.literals;
    functions = h.functions;
    code = h.code;
    owned = h.owned;
  }

  -- stores into a static object
  module _ (line o : ℕ) (s : State) (m : IsMakeable b.unit true o) (among : IsIn o ss) (h : Ready b ss ls fs s.world) where
    abbrev w : World
    w = s.world

    abbrev T : Table
    T = w.memory.table

    abbrev base : ℕ
    base = base_in w (instance_of w o (object_at b.unit o).lasting)

    abbrev StillReady : Worth → World → Type 0
    StillReady v z = Ready b ss ls fs z

    home : IsHome T (instance_for b o w) (size_of b (object_at b.unit o).t)
    home = subst (λ c. IsHome T (instance_of w o c) (size_of b (object_at b.unit o).t)) (sym m.storage) (h.statics o among)

    fills-ready : (v : Option ℕ) → ((n : ℕ) → v ≡ Some n → n < 256) → Sure StillReady (act b line (Fills o v) s) (act_plainly b line (Fills o v) s)
    fills-ready v f =
        let n = size_of b (object_at b.unit o).t in
        does-sure b StillReady ready-sided line (Fills o v) s (bound-there b o w n home) (fills-same b w o home v m.small) (ready-bytes w base (replicate n (filling v)) (all-fair-of T n (filling v) (filling-fair-of T v f)) h)

    puts-ready : (offset : ℕ) (t : Ty) (v : Worth) → offset + size_of b t ≤ size_of b (object_at b.unit o).t → IsValueType (bare_type t) → Value b w (bare_type t) v → IsThere v
        → Sure StillReady (act b line (Puts o offset (lvalue b t) v) s) (act_plainly b line (Puts o offset (lvalue b t) v) s)
    puts-ready offset t v lies valued f there =
        let l = lvalue b t in
        does-sure b StillReady ready-sided line (Puts o offset l v) s (both (has_instance b o w) (is_stored l.shape l.size v) (bound-there b o w (size_of b (object_at b.unit o).t) home) (stored-of (layouts b.unit) t v valued f.0 there)) (puts-same b w o home offset t v m.small lies valued f there)
        (ready-bytes w (base + offset) (stored_as l.number l.shape v) (stored-fair T l.number l.shape v f.1) h)

    text-ready : (offset size l : ℕ) → offset + size ≤ size_of b (object_at b.unit o).t → Each (λ (v : ℕ). v < 256) (literal_at b.unit l).bytes
        → Sure StillReady (act b line (PutsText o offset size l) s) (act_plainly b line (PutsText o offset size l) s)
    text-ready offset size l lies f =
        does-sure b StillReady ready-sided line (PutsText o offset size l) s (bound-there b o w (size_of b (object_at b.unit o).t) home) (text-same b w o home offset size l m.small lies)
        (ready-bytes w (base + offset) (plain_bytes None 0 (text_for b size l)) (plain-fair T None 0 (text_for b size l) (take-small size (literal_at b.unit l).bytes f)) h)

-- 5.1.2.2.3p1: where there is a `main`, what it gives is an `int`, which is there
abbrev pub IsGiven : Option ℕ → Worth → Type 0
IsGiven None v = Unit {0}
IsGiven (Some f) v = IsScalar (scalar.Int Int) v × IsThere v

-- 5.1.2.2.3p1: so it is a status
a-status : (v : Worth) → IsScalar (scalar.Int Int) v → IsThere v → IsStatus v
a-status (Scalar (IntValue n)) h there = (n, refl, h)
a-status (Scalar Unset) h there = absurd cc
a-status (Scalar (PointerValue p)) h there = absurd h
a-status Missing h there = absurd there
a-status Nothing h there = absurd h
a-status (Whole bs a) h there = absurd h

-- instances that are made
module _ (b : Setting) (unit : IsTypedUnit b.unit) where
  module _ (ss ls fs : List ℕ) where
    -- what is made is no function: those that are there are owned as before
    others-kept : (w : World) (r : Request) (i : ℕ) (U : Table) (M : Mem) (o : Option ℕ) → AllLiveStill w.memory.table U → IsNext w.memory.table r i U → is_function r.kind ≡ false → Ready b ss ls fs w
        → (j : ℕ) → IsCode U j → (f : ℕ) × (owner_of (owning w M i o) j ≡ Some f) × HasBody b.unit f
    others-kept w r i U M o a n stored h j c =
        let d : j ≢ i = λ s. not-code U i n.inst n.is (ap is_function n.kind ∙ stored) (subst (λ k. IsCode U k) s c) in
        let g = h.code j (code-earlier w.memory.table U a j c) in
        (g.0, owner-other w M i o (length w.memory.table.instances) n.number h.owned j d ∙ g.1, g.2)

    -- 6.2.4p3: a static object begins, in an instance of its own
    module _ (o : ℕ) (w : World) (h : Ready b ss ls fs w) (i : ℕ) (U : Table) (lives : AllLiveStill w.memory.table U) (new : instance_at w.memory.table.instances i ≡ None) (home : IsHome U i (size_of b (object_at b.unit o).t)) where
      abbrev now : ℕ → ℕ
      now q = bound_number (map.insert w.statics o i) q

      abbrev Numbered : ℕ → Type 0
      Numbered q = ((q ≡ o) × (now q ≡ i)) ⊎ (IsIn q ss × (now q ≡ static_of w q))

      numbered : (q : ℕ) → IsIn q (o ∷ ss) → Numbered q
      numbered q g = by (same_or_not q o) g
        where
          by : (q ≡ o) ⊎ (q ≢ o) → IsIn q (o ∷ ss) → Numbered q
          by (inl e) g = inl (e, bound-here w.statics o i q e)
          by (inr d) (inl e) = absurd (d e)
          by (inr d) (inr k) = inr (k, bound-other w.statics o i q d)

      homes-now : (q : ℕ) → IsIn q (o ∷ ss) → IsHome U (now q) (size_of b (object_at b.unit q).t)
      homes-now q g = by (numbered q g)
        where
          by : Numbered q → IsHome U (now q) (size_of b (object_at b.unit q).t)
          by (inl (e, f)) = subst (λ k. IsHome U k (size_of b (object_at b.unit q).t)) (sym f) (subst (λ n. IsHome U i (size_of b (object_at b.unit n).t)) (sym e) home)
          by (inr (k, f)) =
              let n = size_of b (object_at b.unit q).t in
              subst (λ k. IsHome U k n) (sym f) (home-later w.memory.table U lives (static_of w q) n (h.statics q k))

      old-other : (q : ℕ) → IsIn q ss → static_of w q ≢ i
      old-other q k = new-other w.memory.table i (static_of w q) (size_of b (object_at b.unit q).t) new (h.statics q k)

      apart-now : (q r : ℕ) → IsIn q (o ∷ ss) → IsIn r (o ∷ ss) → now q ≡ now r → q ≡ r
      apart-now q r g k e = by (numbered q g) (numbered r k)
        where
          by : Numbered q → Numbered r → q ≡ r
          by (inl (x, f)) (inl (u, g)) = x ∙ sym u
          by (inl (x, f)) (inr (k, g)) = absurd (old-other r k (sym g ∙ sym e ∙ f))
          by (inr (k, g)) (inl (x, f)) = absurd (old-other q k (sym g ∙ e ∙ f))
          by (inr (k, f)) (inr (l, g)) = h.apart q r k l (sym f ∙ e ∙ g)

    static-made : (o name : ℕ) (r : Request) (w : World) (got : Result ℕ CreateError × Table) → place w.memory.table r ≡ got → Led ⊥ w.memory.table got.1 → AllLiveStill w.memory.table got.1
        → r.size ≡ size_of b (object_at b.unit o).t → is_heap r.kind ≡ false → is_function r.kind ≡ false → ((i : ℕ) → got.0 ≡ Ok i → IsNext w.memory.table r i got.1) → Ready b ss ls fs w → Answering (λ v z. Ready b (o ∷ ss) ls fs z) (object_made w o true name (with_new_bytes w.memory got))
    static-made o name r w (Ok i, U) e l a large object stored next h =
        let T = w.memory.table in
        let M = (with_new_bytes w.memory (Ok i, U)).1 in
        let new = placed-new T r (Ok i, U) e i refl in
        let n = next i refl in
        let home : IsHome U i (size_of b (object_at b.unit o).t) = subst (λ k. IsHome U i k) large (next-home T U r i object n) in
        record {
          laid = laid-led w.memory.table U l h.laid;
          bytes = blank-fair b U (instance_at U.instances i) w.memory.bytes (store-later w.memory.table U (made-led w.memory.table U l) w.memory.bytes h.bytes);
          statics = homes-now o w h i U a new home;
          apart = apart-now o w h i U a new home;
          literals = λ q g. number-led w.memory.table U l _ (h.literals q g);
          functions = λ q g. number-led w.memory.table U l _ (h.functions q g);
          code = others-kept w r i U M (Some o) a n stored h;
          owned = let more = owners-more w M i (Some o) (length T.instances) n.number h.owned in let long = n.longer in omega (arith, more, long);
        }
    static-made o name r w (Err y, U) e l a large object stored next h = tt

    makes-static : (line o : ℕ) (s : State) → IsMakeable b.unit true o → Ready b ss ls fs s.world → Sure (λ v z. Ready b (o ∷ ss) ls fs z) (act b line (Makes o) s) (act_plainly b line (Makes o) s)
    makes-static line o s m h =
        let x = object_at b.unit o in
        let w = s.world in
        let T = w.memory.table in
        let r = request_of b x in
        does-sure b (λ v z. Ready b (o ∷ ss) ls fs z) (ready-sided b (o ∷ ss) ls fs) line (Makes o) s refl (makes-same b w o true m)
        (subst (λ c. Answering (λ v z. Ready b (o ∷ ss) ls fs z) (makes_object o c r w)) (sym m.storage)
        (static-made o r.name r w (place T r) refl (place-leads T r (λ y. absurd y)) (place-live T r refl) refl refl refl (next-made T r) h))

    literal-made : (l : ℕ) (bytes : List ℕ) (r : Request) (w : World) (got : Result ℕ CreateError × Table) → place w.memory.table r ≡ got → Led ⊥ w.memory.table got.1 → AllLiveStill w.memory.table got.1 → is_function r.kind ≡ false → ((i : ℕ) → got.0 ≡ Ok i → IsNext w.memory.table r i got.1) → Each (λ (v : ℕ). v < 256) bytes → Ready b ss ls fs w → Answering (λ v z. Ready b ss (l ∷ ls) fs z) (literal_made w l bytes (with_new_bytes w.memory got))
    literal-made l bytes r w (Ok i, U) e k a stored next f h =
        let M = (with_new_bytes w.memory (Ok i, U)).1 in
        let n = next i refl in
        let N : ℕ → Type 0 = λ i. IsNumber U.instances i in
        record {
          laid = laid-led w.memory.table U k h.laid;
          bytes = written-fair U _ _ (plain_bytes None 0 bytes) (blank-fair b U (instance_at U.instances i) w.memory.bytes (store-later w.memory.table U (made-led w.memory.table U k) w.memory.bytes h.bytes)) (plain-fair U None 0 bytes f);
          statics = λ q g. home-later w.memory.table U a (static_of w q) (size_of b (object_at b.unit q).t) (h.statics q g);
          apart = h.apart;
          literals = λ q g. inserted N w.literals l i q (placed-number w.memory.table r (Ok i, U) e i refl) (λ d. number-led w.memory.table U k _ (h.literals q (behind d g)));
          functions = λ q g. number-led w.memory.table U k _ (h.functions q g);
          code = others-kept w r i U M None a n stored h;
          owned = let more = owners-more w M i None (length w.memory.table.instances) n.number h.owned in let long = n.longer in omega (arith, more, long);
        }
      where
        behind : {q : ℕ} → q ≢ l → (q ≡ l) ⊎ IsIn q ls → IsIn q ls
        behind d (inl x) = absurd (d x)
        behind d (inr j) = j
    literal-made l bytes r w (Err y, U) e k a stored next f h = tt

    makes-the-literal : (line l : ℕ) (s : State) → 1 ≤ length (literal_at b.unit l).bytes → Ready b ss ls fs s.world → Sure (λ v z. Ready b ss (l ∷ ls) fs z) (act b line (MakesLiteral l) s) (act_plainly b line (MakesLiteral l) s)
    makes-the-literal line l s m h =
        let bytes = (literal_at b.unit l).bytes in
        let w = s.world in
        let T = w.memory.table in
        let r = literal_request (text_of b.unit.names 0) bytes in
        does-sure b (λ v z. Ready b ss (l ∷ ls) fs z) (ready-sided b ss (l ∷ ls) fs) line (MakesLiteral l) s refl (literal-same b w l m)
        (literal-made l bytes r w (place T r) refl (place-leads T r (λ y. absurd y)) (place-live T r refl) refl (next-made T r) (unit.characters l) h)

    -- 6.3.2.1p4: a function gets an instance; all others are as they were
    module _ (w : World) (U : Table) (i : ℕ) (new : IsBorn w.memory.table U i) (h : Ready b ss ls fs w) where
      homes-placed : (q : ℕ) → IsIn q ss → IsHome U (static_of w q) (size_of b (object_at b.unit q).t)
      homes-placed q g =
          let n = size_of b (object_at b.unit q).t in
          let home = h.statics q g in
          subst (λ x. IsHomeIn x n) (sym (new.others (static_of w q) (new-other w.memory.table i (static_of w q) n new.was home))) home

      code-placed : (M : Mem) (f : ℕ) → i ≡ length w.memory.table.instances + 1 → HasBody b.unit f → (j : ℕ) → IsCode U j → (g : ℕ) × (owner_of (owning w M i (Some f)) j ≡ Some g) × HasBody b.unit g
      code-placed M f number body j c = by (same_or_not j i)
        where
          by : (j ≡ i) ⊎ (j ≢ i) → (g : ℕ) × (owner_of (owning w M i (Some f)) j ≡ Some g) × HasBody b.unit g
          by (inl s) = (f, ap (owner_of (owning w M i (Some f))) s ∙ owner-next w M i (Some f) (length w.memory.table.instances) number h.owned, body)
          by (inr d) =
              let g = h.code j (subst IsCodeIn (new.others j d) c) in
              (g.0, owner-other w M i (Some f) (length w.memory.table.instances) number h.owned j d ∙ g.1, g.2)

    function-placed : (f name : ℕ) (r : Request) (w : World) (got : Result ℕ CreateError × Table) → HasBody b.unit f → place w.memory.table r ≡ got → Led ⊥ w.memory.table got.1 → ((i : ℕ) → got.0 ≡ Ok i → IsNext w.memory.table r i got.1) → Ready b ss ls fs w → Answering (λ v z. Ready b ss ls (f ∷ fs) z) (function_made w f name (with_new_bytes w.memory got))
    function-placed f name r w (Ok i, U) body e k next h =
        let N : ℕ → Type 0 = λ i. IsNumber U.instances i in
        let M = (with_new_bytes w.memory (Ok i, U)).1 in
        let n = next i refl in
        let new = placed-born w.memory.table r (Ok i, U) e i refl in
        record {
          laid = laid-led w.memory.table U k h.laid;
          bytes = blank-fair b U (instance_at U.instances i) w.memory.bytes (store-later w.memory.table U (made-led w.memory.table U k) w.memory.bytes h.bytes);
          statics = homes-placed w U i new h;
          apart = h.apart;
          literals = λ q g. number-led w.memory.table U k _ (h.literals q g);
          functions = λ q g. inserted N w.functions f i q (placed-number w.memory.table r (Ok i, U) e i refl) (λ d. number-led w.memory.table U k _ (h.functions q (behind d g)));
          code = code-placed w U i new h M f n.number body;
          owned = let more = owners-more w M i (Some f) (length w.memory.table.instances) n.number h.owned in let long = n.longer in omega (arith, more, long);
        }
      where
        behind : {q : ℕ} → q ≢ f → (q ≡ f) ⊎ IsIn q fs → IsIn q fs
        behind d (inl x) = absurd (d x)
        behind d (inr j) = j
    function-placed f name r w (Err y, U) body e k next h = tt

    makes-the-function : (line f : ℕ) (s : State) → ((function_at b.unit f).name ≢ heap_name) × HasBody b.unit f → Ready b ss ls fs s.world → Sure (λ v z. Ready b ss ls (f ∷ fs) z) (act b line (MakesFunction f) s) (act_plainly b line (MakesFunction f) s)
    makes-the-function line f s m h =
        let x = function_at b.unit f in
        let w = s.world in
        let T = w.memory.table in
        let r = function_request x.name (text_of b.unit.names x.name) in
        does-sure b (λ v z. Ready b ss ls (f ∷ fs) z) (ready-sided b ss ls (f ∷ fs)) line (MakesFunction f) s refl (function-same b w f m.0)
        (function-placed f r.name r w (place T r) m.1 refl (place-leads T r (λ y. absurd y)) (next-made T r) h)

  some-zero : (n : ℕ) → Some 0 ≡ Some n → n < 256
  some-zero n e = let same : 0 ≡ n = cc in subst (λ k. k < 256) same (omega arith)

  less-ready : (ss ls fs sd ld fd : List ℕ) (w : World) → ((n : ℕ) → IsIn n ss → IsIn n sd) → ((n : ℕ) → IsIn n ls → IsIn n ld) → ((n : ℕ) → IsIn n fs → IsIn n fd) → Ready b sd ld fd w → Ready b ss ls fs w
  less-ready ss ls fs sd ld fd w f g k h = record { laid = h.laid; bytes = h.bytes; statics = λ o m. h.statics o (f o m); apart = λ o q m n e. h.apart o q (f o m) (f q n) e; literals = λ o m. h.literals o (g o m); functions = λ o m. h.functions o (k o m); code = h.code; owned = h.owned }

  -- those of lists
  statics-sure : (ss os : List ℕ) → ((o : ℕ) → IsIn o os → IsMakeable b.unit true o) → (s : State) → Ready b ss [] [] s.world → Sure (λ v z. Ready b (os ++ ss) [] [] z) (make_statics b os s) (lists.make_statics b os s)
  statics-sure ss [] m s h = (refl, h)
  statics-sure ss (o ∷ os) m s h =
      let line = (object_at b.unit o).line in
      sure-seq (λ v z. Ready b (o ∷ ss) [] [] z) (λ v z. Ready b (o ∷ os ++ ss) [] [] z) (make_static b o s) (parts.make_static b o s) _ _
      (sure-seq (λ v z. Ready b (o ∷ ss) [] [] z) (λ v z. Ready b (o ∷ ss) [] [] z) (act b line (Makes o) s) (act_plainly b line (Makes o) s) _ _ (makes-static ss [] [] line o s (m o (inl refl)) h) (λ v t k. fills-ready b (o ∷ ss) [] [] line o t (m o (inl refl)) (inl refl) k (Some 0) some-zero)) (λ v t k.
      sure-more (λ v z. Ready b (os ++ o ∷ ss) [] [] z) (λ v z. Ready b (o ∷ os ++ ss) [] [] z) (make_statics b os t) (lists.make_statics b os t)
      (λ v z q. less-ready (o ∷ os ++ ss) [] [] (os ++ o ∷ ss) [] [] z (moved-in o os ss) (λ n g. g) (λ n g. g) q) (statics-sure (o ∷ ss) os (λ q g. m q (inr g)) t k))

  literals-sure : (ss ls ms : List ℕ) → ((l : ℕ) → IsIn l ms → 1 ≤ length (literal_at b.unit l).bytes) → (s : State) → Ready b ss ls [] s.world → Sure (λ v z. Ready b ss (ms ++ ls) [] z) (make_literals b ms s) (lists.make_literals b ms s)
  literals-sure ss ls [] m s h = (refl, h)
  literals-sure ss ls (l ∷ ms) m s h =
      let line = (literal_at b.unit l).line in
      sure-seq (λ v z. Ready b ss (l ∷ ls) [] z) (λ v z. Ready b ss (l ∷ ms ++ ls) [] z) (act b line (MakesLiteral l) s) (act_plainly b line (MakesLiteral l) s) _ _ (makes-the-literal ss ls [] line l s (m l (inl refl)) h) (λ v t k.
      sure-more (λ v z. Ready b ss (ms ++ l ∷ ls) [] z) (λ v z. Ready b ss (l ∷ ms ++ ls) [] z) (make_literals b ms t) (lists.make_literals b ms t)
      (λ v z q. less-ready ss (l ∷ ms ++ ls) [] ss (ms ++ l ∷ ls) [] z (λ n g. g) (moved-in l ms ls) (λ n g. g) q) (literals-sure ss (l ∷ ls) ms (λ q g. m q (inr g)) t k))

  functions-sure : (ss ls fs gs : List ℕ) → ((f : ℕ) → IsIn f gs → ((function_at b.unit f).name ≢ heap_name) × HasBody b.unit f) → (s : State) → Ready b ss ls fs s.world → Sure (λ v z. Ready b ss ls (gs ++ fs) z) (make_functions b gs s) (lists.make_functions b gs s)
  functions-sure ss ls fs [] m s h = (refl, h)
  functions-sure ss ls fs (f ∷ gs) m s h =
      let line = (function_at b.unit f).line in
      sure-seq (λ v z. Ready b ss ls (f ∷ fs) z) (λ v z. Ready b ss ls (f ∷ gs ++ fs) z) (act b line (MakesFunction f) s) (act_plainly b line (MakesFunction f) s) _ _ (makes-the-function ss ls fs line f s (m f (inl refl)) h) (λ v t k.
      sure-more (λ v z. Ready b ss ls (gs ++ f ∷ fs) z) (λ v z. Ready b ss ls (f ∷ gs ++ fs) z) (make_functions b gs t) (lists.make_functions b gs t)
      (λ v z q. less-ready ss ls (f ∷ gs ++ fs) ss ls (gs ++ f ∷ fs) z (λ n g. g) (λ n g. g) (moved-in f gs fs) q) (functions-sure ss ls (f ∷ fs) gs (λ q g. m q (inr g)) t k))

  -- 6.7.9p4: the values of constants
  abbrev All : World → Type 0
  All w = Ready b b.unit.statics b.unit.instances b.unit.placed w

  placed-fair : (w : World) (i n : ℕ) → All w → IsNumber w.memory.table.instances i → n ≤ 2 ^ 32 → IsFairWorth w.memory.table (place_by w i n)
  placed-fair w i n h g l =
      let x = instance-there w.memory.table.instances i g in
      let u = (h.laid.within i x.0 x.1).upto in
      let base : base_in w i ≡ x.0.base = ap base_of x.1 in
      (g, λ q. low (base_in w i) n (omega (arith, u, base)) l)
    where
      low : (a n : ℕ) → a ≤ 2 ^ 47 → n ≤ 2 ^ 32 → (a + n) % 2 ^ 64 < 2 ^ 48
      low a n h l = omega (arith, h, l)

  constant-fair : (w : World) (c : Const) → All w → IsPlaced b.unit c → IsFairWorth w.memory.table (constant_worth w c)
  constant-fair w (const.Int n) h p = tt
  constant-fair w const.Null h p = (tt, λ q. absurd (no-name q))
  constant-fair w (const.Address o n) h p = placed-fair w (static_of w o) n h (home-number w.memory.table (static_of w o) (size_of b (object_at b.unit o).t) (h.statics o p.0)) p.1
  constant-fair w (const.Literal l n) h p = placed-fair w _ n h (h.literals l p.0) p.1
  constant-fair w (const.Function f) h p = placed-fair w _ 0 h (h.functions f p) (omega arith)

  -- 6.6p7: a constant is a value of its type, and is there
  place-typed : (w : World) (i n : ℕ) (t : Ty) → (s : Ty) × (t ≡ PointerTo s) → IsOfType (layouts b.unit) t (place_by w i n)
  place-typed w i n t (s, e) = subst (λ u. IsOfType (layouts b.unit) u (place_by w i n)) (sym e) (below-all (base_in w i + n))
    where
      below-all : (a : ℕ) → a % 2 ^ 64 < 2 ^ 64
      below-all a = omega arith

  constant-typed : (w : World) (c : Const) (t : Ty) → IsConstantOf c t → IsOfType (layouts b.unit) t (constant_worth w c)
  constant-typed w (const.Int n) t (k, e, f) = subst (λ u. IsOfType (layouts b.unit) u (int n)) (sym e) f
  constant-typed w const.Null t (s, e) = subst (λ u. IsOfType (layouts b.unit) u (pointer null_pointer)) (sym e) (omega arith)
  constant-typed w (const.Address o n) t h = place-typed w (static_of w o) n t h
  constant-typed w (const.Literal l n) t h = place-typed w (literal_of w l) n t h
  constant-typed w (const.Function f) t h = place-typed w (function_of w f) 0 t h

  constant-there : (w : World) (c : Const) → IsThere (constant_worth w c)
  constant-there w (const.Int n) = tt
  constant-there w const.Null = tt
  constant-there w (const.Address o n) = tt
  constant-there w (const.Literal l n) = tt
  constant-there w (const.Function f) = tt

  constant-valued : (c : Const) (t : Ty) → IsConstantOf c t → IsValueType t
  constant-valued (const.Int n) t (k, e, f) = subst IsValueType (sym e) tt
  constant-valued const.Null t (s, e) = subst IsValueType (sym e) tt
  constant-valued (const.Address o n) t (s, e) = subst IsValueType (sym e) tt
  constant-valued (const.Literal l n) t (s, e) = subst IsValueType (sym e) tt
  constant-valued (const.Function f) t (s, e) = subst IsValueType (sym e) tt

  -- 6.7.9p4: the stores of a static object
  module _ (o : ℕ) (among : IsIn o b.unit.statics) where
    static-sure : (x : Store) (v : StoredValue) → LiesIn b.unit o x → IsConstant b.unit x.t v → (s : State) → All s.world → Sure (λ v z. All z) (store_static b o x v s) (parts.store_static b o x v s)
    static-sure x (ValueOf e) lies (c, is, placed, typed) s h =
        let w = s.world in
        subst (λ q. Sure (λ v z. All z) (store_constant b o x q s) (parts.store_constant b o x q s)) (sym is)
        (puts-ready b b.unit.statics b.unit.instances b.unit.placed x.line o s (unit.statics o among) among h x.offset x.t (constant_worth w c) lies (constant-valued c (bare_type x.t) typed)
        (constant-typed w c (bare_type x.t) typed, constant-fair w c h placed) (constant-there w c))
    static-sure x (TextOf l) lies m s h =
        text-ready b b.unit.statics b.unit.instances b.unit.placed x.line o s (unit.statics o among) among h x.offset (size_of b x.t) l lies (unit.characters l)

    stored-sure : (xs : List Store) → AreConstants b.unit o xs → (s : State) → All s.world → Sure (λ v z. All z) (store_statics b o xs s) (lists.store_statics b o xs s)
    stored-sure [] m s h = (refl, h)
    stored-sure (x ∷ xs) m s h = sure-seq (λ v z. All z) (λ v z. All z) (store_static b o x x.what s) (parts.store_static b o x x.what s) _ _ (static-sure x x.what m.0.0 m.0.1 s h) (λ v t k. stored-sure xs m.1 t k)

  initials-sure : (os : List ℕ) → ((o : ℕ) → IsIn o os → IsIn o b.unit.statics) → (s : State) → All s.world → Sure (λ v z. All z) (initialize_statics b os s) (lists.initialize_statics b os s)
  initials-sure [] m s h = (refl, h)
  initials-sure (o ∷ os) m s h =
      let among = m o (inl refl) in
      let xs = (object_at b.unit o).inits in
      sure-seq (λ v z. All z) (λ v z. All z) (store_statics b o xs s) (lists.store_statics b o xs s) _ _ (stored-sure o among xs (unit.constants o among) s h) (λ v t k. initials-sure os (λ q g. m q (inr g)) t k)

  none-behind : (os : List ℕ) (n : ℕ) → IsIn n os → IsIn n (os ++ [])
  none-behind (o ∷ os) n (inl e) = inl e
  none-behind (o ∷ os) n (inr h) = inr (none-behind os n h)
  none-behind [] n h = absurd h

  prepare-sure : (s : State) → Ready b [] [] [] s.world → Sure (λ v z. All z) (prepare b s) (parts.prepare b s)
  prepare-sure s h =
      let ss = b.unit.statics in
      let ls = b.unit.instances in
      let fs = b.unit.placed in
      sure-seq (λ v z. Ready b (ss ++ []) [] [] z) (λ v z. All z) (make_statics b ss s) (lists.make_statics b ss s) _ _ (statics-sure [] ss unit.statics s h) (λ v t k.
      sure-seq (λ v z. Ready b (ss ++ []) (ls ++ []) [] z) (λ v z. All z) (make_literals b ls t) (lists.make_literals b ls t) _ _ (literals-sure (ss ++ []) [] ls unit.literals t k) (λ v t k.
      sure-seq (λ v z. Ready b (ss ++ []) (ls ++ []) (fs ++ []) z) (λ v z. All z) (make_functions b fs t) (lists.make_functions b fs t) _ _ (functions-sure (ss ++ []) (ls ++ []) [] fs unit.placed t k) (λ v t k.
      initials-sure ss (λ o g. g) t (less-ready ss ls fs (ss ++ []) (ls ++ []) (fs ++ []) t.world (none-behind ss) (none-behind ls) (none-behind fs) k))))

  -- and `main`
  static-same : (o : ℕ) (w : World) (c : Bool) → IsIn o (if c then b.unit.statics else []) → IsIn o b.unit.statics × (instance_of w o c ≡ static_of w o)
  static-same o w true g = (g, refl)
  static-same o w false g = absurd g

  ready-sound : (w : World) → All w → IsSound b [] w
  ready-sound w h = record {
    laid = h.laid;
    bytes = h.bytes;
    objects = λ o g.
        let p = static-same o w (object_at b.unit o).lasting g in
        let n = size_of b (object_at b.unit o).t in
        subst (λ i. IsHome w.memory.table i n) (sym p.1) (h.statics o p.0);
    apart = λ o q g k e.
        let p = static-same o w (object_at b.unit o).lasting g in
        let r = static-same q w (object_at b.unit q).lasting k in
        h.apart o q p.0 r.0 (sym p.1 ∙ e ∙ r.1);
    literals = h.literals;
    functions = h.functions;
    code = h.code;
    owned = h.owned;
  }

  main-sure : (o : Option ℕ) → main_of b.unit ≡ o → (s : State) → All s.world → Sure (λ v z. IsGiven o v) (call_main b o s) (parts.call_main b o s)
  main-sure None e s h = (refl, tt)
  main-sure (Some f) e s h =
      let m = unit.main f e in
      let x = function_at b.unit f in
      let r = m.2.0 in
      let p = call-sure b unit (below b b.bound) (parts.below b b.bound) (levels b unit b.bound) [] x r NoTys (unit.functions f r NoTys m.0 m.2.1) m.2.1 m.1 [] x.line s tt (ready-sound s.world h) in
      sure-more _ (λ v z. IsGiven (Some f) v) (call_main b (Some f) s) (parts.call_main b (Some f) s) (λ v z q. (subst (λ t. IsOfType (layouts b.unit) t v) m.2.2 (to-bare (layouts b.unit) r v q.0.0), q.3 (main-has-name b.unit.names b.unit.functions f e))) p

  no-code-yet : (i : ℕ) → IsCodeIn (instance_at [] i) → ⊥
  no-code-yet i h = by (eqb i 0) h
    where
      by : (c : Bool) → IsCodeIn (cond {A = Option Instance} c None None) → ⊥
      by true h = h
      by false h = h

  first-ready : (script : List ScriptLine) → Ready b [] [] [] (initial_state script b.zap).world
  first-ready script = record {
    laid = sound-laid ⊥ (initial_state script b.zap).world.memory.table (first-sound ⊥ script b.zap);
    bytes = λ a x e. absurd (none-some x (sym (get-empty nat_cmp a) ∙ e));
    statics = λ o g. absurd g;
    apart = λ o q g k e. absurd g;
    literals = λ o g. absurd g;
    functions = λ o g. absurd g;
    code = λ i c. absurd (no-code-yet i c);
    owned = omega arith;
  }

  run-sure : (script : List ScriptLine) → Sure (λ v z. IsGiven (main_of b.unit) v) (run_of b script) (plain.run_of b script)
  unfolding run_of_by
  run-sure script =
      sure-seq (λ v z. All z) (λ v z. IsGiven (main_of b.unit) v) (prepare b (initial_state script b.zap)) (parts.prepare b (initial_state script b.zap)) _ _ (prepare-sure (initial_state script b.zap) (first-ready script)) (λ v t k. main-sure (main_of b.unit) refl t k)

  pub run-same : (script : List ScriptLine) → run_of b script ≡ plain.run_of b script
  run-same script = (run-sure script).0

  -- 5.1.2.2.3p1: what `main` gives
  pub run-gives : (script : List ScriptLine) (f : ℕ) → main_of b.unit ≡ Some f → (v : Worth) (s : State) → run_of b script ≡ Gives v s → IsStatus v
  run-gives script f e v s g =
      let h : IsGiven (Some f) v = subst (λ o. IsGiven o v) e (subst (λ (r : Res Worth). Lands (λ v z. IsGiven (main_of b.unit) v) r) g (run-sure script).1) in
      a-status v h.0 h.1

-- no run of the rules comes to what C has no rule for
pub run-never : (u : Stored) → IsTypedUnit (whole_unit u) → (sides : Option (List Bool)) (zap : Bool) (script : List ScriptLine) (n : ℕ) (s : State) → plain.run_of (setting_of u n sides zap) script ≢ Stops Unreached s
run-never u unit sides zap script n s e = (subst (λ (r : Res Worth). EndFits n (suc n) r) (run-same (setting_of u n sides zap) unit script ∙ e) (run-fits u n sides zap script)).1
