-- What each operation of a world leads to (C17 6.2.4, 6.3, 6.4.5, 6.5).
use Rattle.std.proofs.Common.{◌≡◌, ℕ, ◌≤◌, ℤ, pos, ◌-ℤ◌, Bool, true, false, List, length, Option, Some, None, Result, Ok, Err, IfOk, refl, sym, subst, take, drop}
use Rattle.std.specs.Prelude.{unwrap_or, if◌then◌else◌}
use Rattle.std.specs.declared.cmp.Ordering.{Ordering}
use Rattle.pv_num.specs.declared.kinds.IntKind.{IntKind}
use Rattle.pv_num.specs.declared.kinds.IntKind.TheVariants.{Int as IntOfInt}
use Rattle.pv_num.specs.declared.operators.BinOp.{BinOp}
use Rattle.pv_num.specs.declared.operators.UnOp.{UnOp}
use Rattle.pv_num.specs.declared.operators.ArithmeticFault.{ArithmeticFault}
use Rattle.pv_fault.specs.declared.faults.Clause.TheVariants.{AdditionOfPointers, SubtractionOfPointers, Indirection}
use Rattle.pv_num.specs.Arithmetic.{binary_of, unary_of}
use Rattle.pv_prov.specs.declared.names.Prov.{Prov}
use Rattle.pv_inst.specs.declared.values.Tried.{Tried}
use Rattle.pv_inst.specs.declared.values.CreateError.{CreateError}
use Rattle.pv_inst.specs.Answers.{IsLive}
use Rattle.pv_inst.specs.Infos.{base_of}
use Rattle.pv_inst.specs.Table.{Table, instance_at, IsMadeIn}
use Rattle.pv_inst.specs.Placing.{Request}
use Rattle.pv_shadow.specs.declared.byte.Byte.{Byte}
use Rattle.pv_shadow.specs.Whole.{number_bytes}
use Rattle.pv_object.specs.declared.values.Pointer.{Pointer}
use Rattle.pv_object.specs.declared.values.Reach.{Reach}
use Rattle.pv_object.specs.declared.values.Scalar.TheVariants as scalar
use Rattle.pv_object.specs.declared.values.Stop.{Stop}
use Rattle.pv_object.specs.declared.values.Asker.TheVariants.{Access}
use Rattle.pv_object.specs.declared.values.Value.{Value}
use Rattle.pv_object.specs.declared.values.Value.TheVariants.{Int as IntValue, Unset, Pointer as PointerValue}
use Rattle.pv_object.specs.Later.{IsLater}
use Rattle.pv_object.specs.Memory.{Mem, with_table as retabled}
use Rattle.pv_object.specs.Access.{reach}
use Rattle.pv_object.specs.Creating.{creation}
use Rattle.pv_object.specs.Loading.{Loaded}
use Rattle.pv_object.specs.Operations.{truth, to_ptr, recast, to_int, code, together, order, pointer_equality, shift, select}
use Rattle.pv_watch.specs.declared.event.What.{What}
use Rattle.pv_world.specs.declared.got.Shape.{Shape}
use Rattle.pv_world.specs.declared.got.Shape.TheVariants as shape
use Rattle.pv_world.specs.declared.got.How.{How}
use Rattle.pv_world.specs.declared.got.How.TheVariants.{Rounds, Passes, Tests, Numbers, Points, Recasts, Voids}
use Rattle.pv_world.specs.Worlds.{Worth, Nothing, Missing, Scalar, Whole, World, Wrong, with_table}
use Rattle.pv_world.specs.Telling.{Told, no_telling, telling, event_of_use, both_used, code_test}
use Rattle.pv_world.specs.Doing.{Done, Answers, Fails, Breaks}
use Rattle.pv_world.specs.Worths.{int, truth_int, int_of, pointer_of, unless, why_not_set, why_missing, arithmetic_result, bytes_of}
use Rattle.pv_world.specs.Conversions.{truth_by, truth_value, truth_worth, tests, number_by, pointer_by_number, recast_by, passes, converts}
use Rattle.pv_world.specs.Calculations.{follows_to}
use Rattle.pv_world.specs.CalculationParts.{calculates, calculates_one}
use Rattle.pv_world.specs.Pointers.{moved_by, distance, moves, in_elements, elements_by, between_by, ordered_by, equal_by, equals, found_in, found_by, finds}
use Rattle.pv_world.specs.PointerParts.{between, unlike, selects}
use Rattle.pv_world.specs.Accesses.{reaching_by, reaching, scalar_as, scalar_by, worth_in, takes_bytes}
use Rattle.pv_world.specs.AccessParts.{range_use}
use Rattle.pv_world.specs.Objects.{makes_object, makes_literal_of, makes_function, owner_of, put_at, ends_instance}
use Rattle.pv_world.specs.ObjectParts.{object_made, literal_request, literal_made, function_made}
use Rattle.pv_exec.proofs.Memory.Pointers.{Retabled, reach-leads, value-leads, truth-leads, equal-leads, to_ptr-leads, recast-leads, to_int-leads, move-leads, code-leads, together-leads, order-leads}
use Rattle.pv_exec.proofs.Memory.Reached.{AreInLive, reach-reaches, reach-later, created-in-live}
use Rattle.pv_exec.proofs.Memory.Stored.{AreMade, plain-length, plain-made}
use Rattle.pv_exec.proofs.Memory.Ways.{Changes}

-- the memory of the world that a doing leaves
abbrev pub left : Done → Mem
left (Answers v w t) = w.memory
left (Fails y p w t) = w.memory
left (Breaks y b w t) = w.memory

-- what is done in this world leads on from it
pub record Onward (R : Mem → Mem → Type 0) (w : World) (d : Done) : Type 0 where
  pub leads : R w.memory (left d)

module _ {F : Type 0} {R : Mem → Mem → Type 0} (changes : Changes F R) where
  pub unless-on : (o : Option Wrong) (w : World) (d : Done) → Onward R w d → Onward R w (unless o w d)
  unless-on None w d h = h
  unless-on (Some y) w d h = record { leads = changes.itself }

  -- conversions
  truth-by : (w : World) (p : Pointer) (got : Result (Bool × Tried) Stop × Table) (give : Bool → Worth) → Retabled R w.memory got.1 → Onward R w (truth_by w p got give)
  truth-by w p ((Ok r), T) give h = record { leads = h }
  truth-by w p ((Err y), T) give h = record { leads = h }

  truth-value : (w : World) (v : Value) (give : Bool → Worth) → Onward R w (truth_value w v give)
  truth-value w (IntValue n) give = record { leads = changes.itself }
  truth-value w (PointerValue p) give = truth-by w p (truth w.memory.table p) give (truth-leads changes w.memory p)
  truth-value w Unset give = record { leads = changes.itself }

  truth-worth : (w : World) (give : Bool → Worth) (v : Worth) → Onward R w (truth_worth w give v)
  truth-worth w give (Scalar v) = truth-value w v give
  truth-worth w give Nothing = record { leads = changes.itself }
  truth-worth w give Missing = record { leads = changes.itself }
  truth-worth w give (Whole bs a) = record { leads = changes.itself }

  pub tests-on : (give : Bool → Worth) (v : Worth) (w : World) → Onward R w (tests give v w)
  tests-on give v w = unless-on (why_not_set v) w _ (truth-worth w give v)

  number-by : (w : World) (p : Pointer) (got : Result (ℤ × Tried) Stop × Table) → Retabled R w.memory got.1 → Onward R w (number_by w p got)
  number-by w p ((Ok r), T) h = record { leads = changes.trans h (changes.told (retabled w.memory T)) }
  number-by w p ((Err y), T) h = record { leads = h }

  pointed-on : (w : World) (got : Result Pointer Stop × Table) → Retabled R w.memory got.1 → Onward R w (pointer_by_number w got)
  pointed-on w ((Ok r), T) h = record { leads = h }
  pointed-on w ((Err y), T) h = record { leads = h }

  recast-by : (w : World) (p : Pointer) (got : Result Tried Stop × Table) → Retabled R w.memory got.1 → Onward R w (recast_by w p got)
  recast-by w p ((Ok r), T) h = record { leads = h }
  recast-by w p ((Err y), T) h = record { leads = h }

  passes-on : (k : IntKind) (w : World) (v : Worth) → Onward R w (passes k w v)
  passes-on k w (Scalar v) = record { leads = changes.itself }
  passes-on k w Nothing = record { leads = changes.itself }
  passes-on k w Missing = record { leads = changes.itself }
  passes-on k w (Whole bs a) = record { leads = changes.itself }

  pub converts-on : (how : How) (v : Worth) (w : World) → Onward R w (converts how v w)
  converts-on (Rounds k) v w = unless-on (why_not_set v) w _ (record { leads = changes.itself })
  converts-on (Passes k) v w = unless-on (why_missing v) w _ (passes-on k w v)
  converts-on Tests v w = tests-on truth_int v w
  converts-on (Numbers k) v w = unless-on (why_not_set v) w _ (number-by w (pointer_of v) (to_int w.memory.table (pointer_of v) k) (to_int-leads changes w.memory (pointer_of v) k))
  converts-on Points v w = unless-on (why_not_set v) w _ (pointed-on w (to_ptr w.memory.table (int_of v)) (to_ptr-leads changes w.memory (int_of v)))
  converts-on (Recasts n) v w = unless-on (why_not_set v) w _ (recast-by w (pointer_of v) (recast w.memory.table (pointer_of v) n) (recast-leads changes w.memory (pointer_of v) n))
  converts-on Voids v w = record { leads = changes.itself }

  -- operators on integers
  computed-on : (w : World) (r : Result ℤ ArithmeticFault) → Onward R w (arithmetic_result w r)
  computed-on w (Ok n) = record { leads = changes.itself }
  computed-on w (Err f) = record { leads = changes.itself }

  pub calculates-on : (op : BinOp) (k : IntKind) (v x : Worth) (w : World) → Onward R w (calculates op k v x w)
  calculates-on op k v x w = unless-on (why_not_set v) w _ (unless-on (why_not_set x) w _ (computed-on w (binary_of op k (int_of v) (int_of x))))

  pub calculates-one-on : (op : UnOp) (k : IntKind) (v : Worth) (w : World) → Onward R w (calculates_one op k v w)
  calculates-one-on op k v w = unless-on (why_not_set v) w _ (computed-on w (unary_of op k (int_of v)))

  pub follows-on : (nothing : Bool) (v : Worth) (w : World) → Onward R w (follows_to nothing v w)
  follows-on true v w = unless-on (why_missing v) w _ (record { leads = changes.itself })
  follows-on false v w = unless-on (why_missing v) w _ (record { leads = changes.itself })

  -- operations on pointers
  moved-by : (w : World) (p : Pointer) (got : Result (Pointer × Tried) Stop × Table) → Retabled R w.memory got.1 → Onward R w (moved_by w p got)
  moved-by w p ((Ok r), T) h = record { leads = h }
  moved-by w p ((Err y), T) h = record { leads = h }

  pointer-moves : (minus : Bool) (size : ℕ) (p n : Worth) (w : World) → Onward R w (moved_by w (pointer_of p) (shift w.memory.table (pointer_of p) (distance minus size (int_of n))))
  pointer-moves minus size p n w = moved-by w (pointer_of p) (shift w.memory.table (pointer_of p) (distance minus size (int_of n))) (move-leads changes AdditionOfPointers w.memory (pointer_of p) (distance minus size (int_of n)))

  pub moves-on : (minus first : Bool) (size : ℕ) (v x : Worth) (w : World) → Onward R w (moves minus first size v x w)
  moves-on minus true size v x w = unless-on (why_not_set v) w _ (unless-on (why_not_set x) w _ (pointer-moves minus size v x w))
  moves-on minus false size v x w = unless-on (why_not_set v) w _ (unless-on (why_not_set x) w _ (pointer-moves minus size x v w))

  pub selects-on : (offset : ℕ) (v : Worth) (w : World) → Onward R w (selects offset v w)
  selects-on offset v w = unless-on (why_missing v) w _ (moved-by w (pointer_of v) (select w.memory.table (pointer_of v) offset) (move-leads changes Indirection w.memory (pointer_of v) (pos offset)))

  found-in : (w : World) (p : Pointer) (fits : Option ℕ → Bool) (o : Option ℕ) (us : List What) → Onward R w (found_in w p fits o us)
  found-in w p fits o us = by (fits o)
    where
      by : (t : Bool) → Onward R w (if t then Answers (int (pos (unwrap_or o 0))) w (telling us) else Fails unlike (Some p.prov) w (telling us))
      by true = record { leads = changes.itself }
      by false = record { leads = changes.itself }

  found-by : (w : World) (p : Pointer) (fits : Option ℕ → Bool) (got : Result (ℕ × Tried) Stop × Table) → Retabled R w.memory got.1 → Onward R w (found_by w p fits got)
  found-by w p fits ((Ok r), T) h = record { leads = changes.trans h (found-in (with_table w T) p fits (owner_of w r.0) (event_of_use code_test r.1)).leads }
  found-by w p fits ((Err y), T) h = record { leads = h }

  pub finds-on : (fits : Option ℕ → Bool) (v : Worth) (w : World) → Onward R w (finds fits v w)
  finds-on fits v w = unless-on (why_not_set v) w _ (found-by w (pointer_of v) fits (code w.memory.table (pointer_of v)) (code-leads changes w.memory (pointer_of v)))

  elements-by : (w : World) (p : Pointer) (us : List What) (o : Option ℤ) → Onward R w (elements_by w p us o)
  elements-by w p us (Some n) = record { leads = changes.itself }
  elements-by w p us None = record { leads = changes.itself }

  between-by : (size : ℕ) (p q : Pointer) (w : World) (got : Result (Tried × Tried) Stop × Table) → Retabled R w.memory got.1 → Onward R w (between_by size p q w got)
  between-by size p q w ((Ok both), T) h = record { leads = changes.trans h (elements-by (with_table w T) p (both_used both.0 both.1) (in_elements (pos p.address -ℤ pos q.address) size)).leads }
  between-by size p q w ((Err y), T) h = record { leads = h }

  pub between-on : (size : ℕ) (p q : Pointer) (w : World) → IsMadeIn w.memory.table p.prov → IsMadeIn w.memory.table q.prov → Onward R w (between size p q w)
  between-on size p q w a b = between-by size p q w (together SubtractionOfPointers w.memory.table p q) (together-leads changes SubtractionOfPointers w.memory p q a b)

  ordered-by : (op : BinOp) (w : World) (p q : Pointer) (got : Result (Ordering × Tried × Tried) Stop × Table) → Retabled R w.memory got.1 → Onward R w (ordered_by op w p q got)
  ordered-by op w p q ((Ok r), T) h = by (binary_of op IntOfInt (pos p.address) (pos q.address)) refl
    where
      by : (o : Result ℤ ArithmeticFault) → binary_of op IntOfInt (pos p.address) (pos q.address) ≡ o → Onward R w (ordered_by op w p q ((Ok r), T))
      by (Ok n) e = rw e (record { leads = h })
      by (Err f) e = rw e (record { leads = h })
  ordered-by op w p q ((Err y), T) h = record { leads = h }

  pub order-on : (op : BinOp) (p q : Pointer) (w : World) → IsMadeIn w.memory.table p.prov → IsMadeIn w.memory.table q.prov → Onward R w (ordered_by op w p q (order w.memory.table p q))
  order-on op p q w a b = ordered-by op w p q (order w.memory.table p q) (order-leads changes w.memory p q a b)

  equal-by : (negated : Bool) (w : World) (p q : Pointer) (got : Result (Bool × Tried × Tried) Stop × Table) → Retabled R w.memory got.1 → Onward R w (equal_by negated w p q got)
  equal-by negated w p q ((Ok r), T) h = record { leads = h }
  equal-by negated w p q ((Err y), T) h = record { leads = h }

  pub equals-on : (negated : Bool) (v x : Worth) (w : World) → Onward R w (equals negated v x w)
  equals-on negated v x w = unless-on (why_not_set v) w _ (unless-on (why_not_set x) w _ (equal-by negated w (pointer_of v) (pointer_of x) (pointer_equality w.memory.table (pointer_of v) (pointer_of x)) (equal-leads changes w.memory (pointer_of v) (pointer_of x))))

  -- accesses: what was reached lies in a live instance, and nothing else has changed
  reaching-by : (w : World) (p : Pointer) (n : ℕ) (us : List What) (got : Result Reach Stop × Table) (go : Reach → World → Told → Done) → Retabled R w.memory got.1 → IsLater w.memory.table got.1
      → IfOk got.0 (λ at. AreInLive got.1 at.address n) → ((at : Reach) (v : World) (t : Told) → IsLater w.memory.table v.memory.table → AreInLive v.memory.table at.address n → Onward R v (go at v t))
      → Onward R w (reaching_by w p us got go)
  reaching-by w p n us ((Ok at), T) go h l k g = record { leads = changes.trans h (g at (with_table w T) (telling us) l k).leads }
  reaching-by w p n us ((Err y), T) go h l k g = record { leads = h }

  pub reaching-on : (p : Pointer) (n align : ℕ) (write : Bool) (w : World) (go : Reach → World → Told → Done)
      → ((at : Reach) (v : World) (t : Told) → IsLater w.memory.table v.memory.table → AreInLive v.memory.table at.address n → Onward R v (go at v t)) → Onward R w (reaching p n align write w go)
  reaching-on p n align write w go g =
      let T = w.memory.table in
      reaching-by w p n (range_use T p n) (reach T p n align write Access) go (reach-leads changes w.memory p n align write Access) (reach-later T p n align write Access) (reach-reaches T p n align write Access) g

  scalar-by : (w : World) (bytes : List Byte) (s : Shape) (p : Option Prov) (t : Told) (got : Loaded) → Retabled R w.memory got.1 → Onward R w (scalar_by w bytes s p t got)
  scalar-by w bytes s p t ((Ok r), T) h = record { leads = changes.trans h (changes.told (retabled w.memory T)) }
  scalar-by w bytes s p t ((Err y), T) h = record { leads = h }

  pub worth-on : (w : World) (bytes : List Byte) (s : Shape) (origin : Option ℕ) (p : Option Prov) (t : Told) → Onward R w (worth_in w bytes s origin p t)
  worth-on w bytes shape.Whole origin p t = record { leads = changes.itself }
  worth-on w bytes shape.Pointer origin p t = scalar-by w bytes shape.Pointer p t (scalar_as w.memory.table bytes shape.Pointer) (value-leads changes w.memory bytes scalar.Pointer)
  worth-on w bytes (shape.Int k) origin p t = scalar-by w bytes (shape.Int k) p t (scalar_as w.memory.table bytes (shape.Int k)) (value-leads changes w.memory bytes (scalar.Int k))

  pub takes-on : (offset size : ℕ) (s : Shape) (v : Worth) (w : World) → Onward R w (takes_bytes offset size s v w)
  takes-on offset size s v w = unless-on (why_missing v) w _ (worth-on w (take size (drop offset (bytes_of v))) s None None no_telling)

  -- instances
  object-made : (w : World) (o : ℕ) (lasting : Bool) (name : ℕ) (got : Result ℕ CreateError × Mem) → R w.memory got.1 → Onward R w (object_made w o lasting name got)
  object-made w o true name ((Ok i), M) h = record { leads = h }
  object-made w o false name ((Ok i), M) h = record { leads = h }
  object-made w o lasting name ((Err e), M) h = record { leads = h }

  pub object-on : (o : ℕ) (lasting : Bool) (r : Request) (w : World) → (F → 1 ≤ r.size) → Onward R w (makes_object o lasting r w)
  object-on o lasting r w some = object-made w o lasting r.name (creation w.memory r) (changes.makes w.memory r some)

  function-made : (w : World) (f name : ℕ) (got : Result ℕ CreateError × Mem) → R w.memory got.1 → Onward R w (function_made w f name got)
  function-made w f name ((Ok i), M) h = record { leads = h }
  function-made w f name ((Err e), M) h = record { leads = h }

  pub function-on : (f : ℕ) (r : Request) (w : World) → (F → 1 ≤ r.size) → Onward R w (makes_function f r w)
  function-on f r w some = function-made w f r.name (creation w.memory r) (changes.makes w.memory r some)

  -- 6.4.5p6: the characters of a literal are stored in its array
  literal-made : (w : World) (l : ℕ) (bytes : List ℕ) (got : Result ℕ CreateError × Mem) → R w.memory got.1 → IfOk got.0 (λ i. AreInLive got.1.table (base_of (instance_at got.1.table.instances i)) (length bytes))
      → Onward R w (literal_made w l bytes got)
  literal-made w l bytes ((Ok i), M) h k =
      let a = base_of (instance_at M.table.instances i) in
      record { leads = changes.trans h (changes.stores M a (number_bytes None 0 bytes) (subst (λ n. AreInLive M.table a n) (sym (plain-length None 0 bytes)) k) (plain-made M.table None 0 bytes)) }
  literal-made w l bytes ((Err e), M) h k = record { leads = h }

  pub literal-on : (l : ℕ) (text bytes : List ℕ) (w : World) → (F → 1 ≤ (literal_request text bytes).size) → Onward R w (makes_literal_of l text bytes w)
  literal-on l text bytes w some = literal-made w l bytes (creation w.memory (literal_request text bytes)) (changes.makes w.memory (literal_request text bytes) some) (created-in-live w.memory (literal_request text bytes))

  pub ends-on : (w : World) (i : ℕ) → IsLive w.memory.table.instances i → Onward R w (ends_instance w i)
  ends-on w i h = record { leads = changes.ends w.memory i h }

  -- 6.5.16.1p2, 6.7.9: bytes that are stored
  pub put-on : (v : Worth) (w : World) (a : ℕ) (bytes : List Byte) (t : Told) → AreInLive w.memory.table a (length bytes) → AreMade w.memory.table bytes → Onward R w (Answers v (put_at w a bytes) t)
  put-on v w a bytes t h g = record { leads = changes.stores w.memory a bytes h g }
