-- Operators on values look at the table of instances alone (C17 6.3, 6.5): on worlds that are alike what they do is alike.
use Rattle.std.proofs.Common.{◌≡◌, ℕ, ℤ, pos, ◌-ℤ◌, Bool, true, false, not, List, Option, Some, None, Result, Ok, Err, int_eq, if◌then◌else◌, refl, Ordering, unwrap_or}
use Rattle.pv_num.specs.declared.kinds.IntKind.{IntKind}
use Rattle.pv_num.specs.declared.operators.BinOp.{BinOp}
use Rattle.pv_num.specs.declared.operators.BinOp.TheVariants as op
use Rattle.pv_num.specs.declared.operators.UnOp.{UnOp}
use Rattle.pv_fault.specs.declared.faults.Clause.TheVariants.{SubtractionOfPointers}
use Rattle.pv_num.specs.Arithmetic.{binary_of, unary_of}
use Rattle.pv_num.specs.Kinds.{convert_of}
use Rattle.pv_types.specs.Known.{Known}
use Rattle.pv_inst.specs.declared.values.Tried.{Tried}
use Rattle.pv_inst.specs.Table.{Table}
use Rattle.pv_shadow.specs.Bytes.{Store}
use Rattle.pv_object.specs.declared.values.Pointer.{Pointer}
use Rattle.pv_object.specs.declared.values.Value.{Value}
use Rattle.pv_object.specs.declared.values.Value.TheVariants.{Int as IntValue, Unset, Pointer as PointerValue}
use Rattle.pv_object.specs.declared.values.Stop.{Stop}
use Rattle.pv_object.specs.Operations.{truth, to_ptr, recast, to_int, code, together, order, pointer_equality, shift, select}
use Rattle.pv_watch.specs.declared.event.What.{What}
use Rattle.pv_world.specs.declared.got.How.{How}
use Rattle.pv_world.specs.declared.got.How.TheVariants.{Rounds, Passes, Tests, Numbers, Points, Recasts, Voids}
use Rattle.pv_world.specs.Worlds.{Worth, World, with_table}
use Rattle.pv_world.specs.Telling.{no_telling, telling, event_of_use, code_test, all_told}
use Rattle.pv_world.specs.Doing.{Done, Answers}
use Rattle.pv_world.specs.Worths.{int, truth_int, int_of, pointer_of, arithmetic_result}
use Rattle.pv_world.specs.Objects.{owner_of}
use Rattle.pv_world.specs.ObjectParts.{with_bytes}
use Rattle.pv_world.specs.Conversions as convert
use Rattle.pv_world.specs.Calculations as calculate
use Rattle.pv_world.specs.CalculationParts as calculate_parts
use Rattle.pv_world.specs.Pointers as point
use Rattle.pv_world.specs.PointerParts as point_parts
use Rattle.pv_numbering.proofs.Alike.{AlikeWorth}
use Rattle.pv_numbering.proofs.Worths.{by_worths, int-same, pointer-same}
use Rattle.pv_numbering.proofs.Doing.{AlikeDone, at_one, at_two, Alikes, alike_world, gives_alike, fails_alike, either_alike, does_nothing, plain_alike, present_alike, computed_alike}

module _ (m m' : Known) where
  -- what an operation comes to, by the answer of the memory below
  truth_by-alike : (w : World) (b : Store) (p : Pointer) (r : Result (Bool × Tried) Stop × Table) (give : Bool → Worth) → ((c : Bool) → AlikeWorth m m' (give c) (give c)) → Alikes m m' w b
      → AlikeDone m m' (convert.truth_by w p r give) (convert.truth_by (with_bytes w b) p r give)
  truth_by-alike w b p (Ok r, T) give g h = (g r.0, alike_world m m' (with_table w T) b h, refl)
  truth_by-alike w b p (Err y, T) give g h = (refl, refl, alike_world m m' (with_table w T) b h, refl)

  number_by-alike : (w : World) (b : Store) (p : Pointer) (r : Result (ℤ × Tried) Stop × Table) → Alikes m m' w b → AlikeDone m m' (convert.number_by w p r) (convert.number_by (with_bytes w b) p r)
  number_by-alike w b p (Ok r, T) h = (refl, alike_world m m' (with_table w (all_told T)) b h, refl)
  number_by-alike w b p (Err y, T) h = (refl, refl, alike_world m m' (with_table w T) b h, refl)

  pointed-alike : (w : World) (b : Store) (r : Result Pointer Stop × Table) → Alikes m m' w b → AlikeDone m m' (convert.pointer_by_number w r) (convert.pointer_by_number (with_bytes w b) r)
  pointed-alike w b (Ok p, T) h = (refl, alike_world m m' (with_table w T) b h, refl)
  pointed-alike w b (Err y, T) h = (refl, refl, alike_world m m' (with_table w T) b h, refl)

  recast_by-alike : (w : World) (b : Store) (p : Pointer) (r : Result Tried Stop × Table) → Alikes m m' w b → AlikeDone m m' (convert.recast_by w p r) (convert.recast_by (with_bytes w b) p r)
  recast_by-alike w b p (Ok t, T) h = (refl, alike_world m m' (with_table w T) b h, refl)
  recast_by-alike w b p (Err y, T) h = (refl, refl, alike_world m m' (with_table w T) b h, refl)

  moved_by-alike : (w : World) (b : Store) (p : Pointer) (r : Result (Pointer × Tried) Stop × Table) → Alikes m m' w b → AlikeDone m m' (point.moved_by w p r) (point.moved_by (with_bytes w b) p r)
  moved_by-alike w b p (Ok r, T) h = (refl, alike_world m m' (with_table w T) b h, refl)
  moved_by-alike w b p (Err y, T) h = (refl, refl, alike_world m m' (with_table w T) b h, refl)

  elements_by-alike : (w : World) (b : Store) (p : Pointer) (us : List What) (o : Option ℤ) → Alikes m m' w b → AlikeDone m m' (point.elements_by w p us o) (point.elements_by (with_bytes w b) p us o)
  elements_by-alike w b p us (Some n) h = (refl, alike_world m m' w b h, refl)
  elements_by-alike w b p us None h = (refl, refl, alike_world m m' w b h, refl)

  between_by-alike : (size : ℕ) (p q : Pointer) (w : World) (b : Store) (r : Result (Tried × Tried) Stop × Table) → Alikes m m' w b → AlikeDone m m' (point.between_by size p q w r) (point.between_by size p q (with_bytes w b) r)
  between_by-alike size p q w b (Ok both, T) h = elements_by-alike (with_table w T) b p _ (point.in_elements (pos p.address -ℤ pos q.address) size) h
  between_by-alike size p q w b (Err y, T) h = (refl, refl, alike_world m m' (with_table w T) b h, refl)

  ordered_by-alike : (k : BinOp) (w : World) (b : Store) (p q : Pointer) (r : Result (Ordering × Tried × Tried) Stop × Table) → point.is_order k ≡ true → Alikes m m' w b
      → AlikeDone m m' (point.ordered_by k w p q r) (point.ordered_by k (with_bytes w b) p q r)
  ordered_by-alike k w b p q (Err y, T) e h = (refl, refl, alike_world m m' (with_table w T) b h, refl)
  ordered_by-alike op.Lt w b p q (Ok r, T) e h = (refl, alike_world m m' (with_table w T) b h, refl)
  ordered_by-alike op.Gt w b p q (Ok r, T) e h = (refl, alike_world m m' (with_table w T) b h, refl)
  ordered_by-alike op.Le w b p q (Ok r, T) e h = (refl, alike_world m m' (with_table w T) b h, refl)
  ordered_by-alike op.Ge w b p q (Ok r, T) e h = (refl, alike_world m m' (with_table w T) b h, refl)
  ordered_by-alike _ w b p q (Ok r, T) e h = absurd cc

  truths : (c : Bool) → AlikeWorth m m' (truth_int c) (truth_int c)
  truths true = refl
  truths false = refl

  opposites : (c : Bool) → AlikeWorth m m' (convert.opposite c) (convert.opposite c)
  opposites true = refl
  opposites false = refl

  equal_by-alike : (negated : Bool) (w : World) (b : Store) (p q : Pointer) (r : Result (Bool × Tried × Tried) Stop × Table) → Alikes m m' w b
      → AlikeDone m m' (point.equal_by negated w p q r) (point.equal_by negated (with_bytes w b) p q r)
  equal_by-alike negated w b p q (Ok r, T) h = (truths (if negated then not r.0 else r.0), alike_world m m' (with_table w T) b h, refl)
  equal_by-alike negated w b p q (Err y, T) h = (refl, refl, alike_world m m' (with_table w T) b h, refl)

  -- an operation on the pointers or numbers in values that are alike
  by_pointer : (f : World → Pointer → Done) (v v' : Worth) (w : World) (b : Store) → AlikeWorth m m' v v' → ((p : Pointer) → AlikeDone m m' (f w p) (f (with_bytes w b) p))
      → AlikeDone m m' (f w (pointer_of v)) (f (with_bytes w b) (pointer_of v'))
  by_pointer f v v' w b g k = at_one (λ p. AlikeDone m m' (f w (pointer_of v)) (f (with_bytes w b) p)) (pointer_of v) (pointer_of v') (pointer-same m m' v v' g) (k (pointer_of v))

  by_number : (f : World → ℤ → Done) (v v' : Worth) (w : World) (b : Store) → AlikeWorth m m' v v' → ((n : ℤ) → AlikeDone m m' (f w n) (f (with_bytes w b) n))
      → AlikeDone m m' (f w (int_of v)) (f (with_bytes w b) (int_of v'))
  by_number f v v' w b g k = at_one (λ n. AlikeDone m m' (f w (int_of v)) (f (with_bytes w b) n)) (int_of v) (int_of v') (int-same m m' v v' g) (k (int_of v))

  by_pointers : (f : World → Pointer → Pointer → Done) (v v' x x' : Worth) (w : World) (b : Store) → AlikeWorth m m' v v' → AlikeWorth m m' x x'
      → ((p q : Pointer) → AlikeDone m m' (f w p q) (f (with_bytes w b) p q)) → AlikeDone m m' (f w (pointer_of v) (pointer_of x)) (f (with_bytes w b) (pointer_of v') (pointer_of x'))
  by_pointers f v v' x x' w b g i k =
      at_two (λ p q. AlikeDone m m' (f w (pointer_of v) (pointer_of x)) (f (with_bytes w b) p q)) (pointer_of v) (pointer_of v') (pointer_of x) (pointer_of x')
      (pointer-same m m' v v' g) (pointer-same m m' x x' i) (k (pointer_of v) (pointer_of x))

  by_numbers : (f : World → ℤ → ℤ → Done) (v v' x x' : Worth) (w : World) (b : Store) → AlikeWorth m m' v v' → AlikeWorth m m' x x'
      → ((n k : ℤ) → AlikeDone m m' (f w n k) (f (with_bytes w b) n k)) → AlikeDone m m' (f w (int_of v) (int_of x)) (f (with_bytes w b) (int_of v') (int_of x'))
  by_numbers f v v' x x' w b g i k =
      at_two (λ n l. AlikeDone m m' (f w (int_of v) (int_of x)) (f (with_bytes w b) n l)) (int_of v) (int_of v') (int_of x) (int_of x')
      (int-same m m' v v' g) (int-same m m' x x' i) (k (int_of v) (int_of x))

  by_both : (f : World → Pointer → ℤ → Done) (v v' x x' : Worth) (w : World) (b : Store) → AlikeWorth m m' v v' → AlikeWorth m m' x x'
      → ((p : Pointer) (n : ℤ) → AlikeDone m m' (f w p n) (f (with_bytes w b) p n)) → AlikeDone m m' (f w (pointer_of v) (int_of x)) (f (with_bytes w b) (pointer_of v') (int_of x'))
  by_both f v v' x x' w b g i k =
      at_two (λ p n. AlikeDone m m' (f w (pointer_of v) (int_of x)) (f (with_bytes w b) p n)) (pointer_of v) (pointer_of v') (int_of x) (int_of x')
      (pointer-same m m' v v' g) (int-same m m' x x' i) (k (pointer_of v) (int_of x))

  -- 6.3
  truth_value-alike : (w : World) (b : Store) (v : Value) (give : Bool → Worth) → ((c : Bool) → AlikeWorth m m' (give c) (give c)) → Alikes m m' w b
      → AlikeDone m m' (convert.truth_value w v give) (convert.truth_value (with_bytes w b) v give)
  truth_value-alike w b (IntValue n) give g h = gives_alike m m' _ _ w b no_telling (g (not (int_eq n (pos 0)))) h
  truth_value-alike w b (PointerValue p) give g h = truth_by-alike w b p (truth w.memory.table p) give g h
  truth_value-alike w b Unset give g h = gives_alike m m' _ _ w b no_telling (g false) h

  tests_by : (give : Bool → Worth) → ((c : Bool) → AlikeWorth m m' (give c) (give c)) → (v v' : Worth) → AlikeWorth m m' v v' → (w : World) (b : Store) → Alikes m m' w b
      → AlikeDone m m' (convert.tests give v w) (convert.tests give v' (with_bytes w b))
  tests_by give k v v' g w b h =
      let no : AlikeDone m m' (Answers (give false) w no_telling) (Answers (give false) (with_bytes w b) no_telling) = gives_alike m m' (give false) (give false) w b no_telling (k false) h in
      plain_alike m m' w b v v' (convert.truth_worth w give v) (convert.truth_worth (with_bytes w b) give v') h g
      (by_worths m m' (λ v v'. AlikeDone m m' (convert.truth_worth w give v) (convert.truth_worth (with_bytes w b) give v'))
      no no (λ v. truth_value-alike w b v give k h) (λ xs xs' a e. no) v v' g)

  pub tests-alike : (v v' : Worth) → AlikeWorth m m' v v' → (w : World) (b : Store) → Alikes m m' w b → AlikeDone m m' (convert.tests truth_int v w) (convert.tests truth_int v' (with_bytes w b))
  tests-alike = tests_by truth_int truths

  pub negates-alike : (v v' : Worth) → AlikeWorth m m' v v' → (w : World) (b : Store) → Alikes m m' w b → AlikeDone m m' (convert.tests convert.opposite v w) (convert.tests convert.opposite v' (with_bytes w b))
  negates-alike = tests_by convert.opposite opposites

  passes-alike : (k : IntKind) (v v' : Worth) → AlikeWorth m m' v v' → (w : World) (b : Store) → Alikes m m' w b → AlikeDone m m' (convert.passes k w v) (convert.passes k (with_bytes w b) v')
  passes-alike k v v' g w b h =
      by_worths m m' (λ v v'. AlikeDone m m' (convert.passes k w v) (convert.passes k (with_bytes w b) v'))
      (tt, alike_world m m' w b h, refl) (tt, alike_world m m' w b h, refl) passes_scalar (λ xs xs' a e. ((e, refl), alike_world m m' w b h, refl)) v v' g
    where
      passes_scalar : (v : Value) → AlikeDone m m' (Answers (convert.character_conversion k v) w no_telling) (Answers (convert.character_conversion k v) (with_bytes w b) no_telling)
      passes_scalar (IntValue n) = (refl, alike_world m m' w b h, refl)
      passes_scalar Unset = (refl, alike_world m m' w b h, refl)
      passes_scalar (PointerValue p) = (refl, alike_world m m' w b h, refl)

  pub converts-alike : (how : How) (v v' : Worth) → AlikeWorth m m' v v' → (w : World) (b : Store) → Alikes m m' w b → AlikeDone m m' (convert.converts how v w) (convert.converts how v' (with_bytes w b))
  converts-alike (Rounds k) v v' g w b h =
      plain_alike m m' w b v v' _ _ h g (by_number (λ w n. Answers (int (convert_of k n)) w no_telling) v v' w b g (λ n. (refl, alike_world m m' w b h, refl)))
  converts-alike (Passes k) v v' g w b h = present_alike m m' w b v v' _ _ h g (passes-alike k v v' g w b h)
  converts-alike Tests v v' g w b h = tests-alike v v' g w b h
  converts-alike (Numbers k) v v' g w b h =
      plain_alike m m' w b v v' _ _ h g (by_pointer (λ w p. convert.number_by w p (to_int w.memory.table p k)) v v' w b g (λ p. number_by-alike w b p (to_int w.memory.table p k) h))
  converts-alike Points v v' g w b h =
      plain_alike m m' w b v v' _ _ h g (by_number (λ w n. convert.pointer_by_number w (to_ptr w.memory.table n)) v v' w b g (λ n. pointed-alike w b (to_ptr w.memory.table n) h))
  converts-alike (Recasts n) v v' g w b h =
      plain_alike m m' w b v v' _ _ h g (by_pointer (λ w p. convert.recast_by w p (recast w.memory.table p n)) v v' w b g (λ p. recast_by-alike w b p (recast w.memory.table p n) h))
  converts-alike Voids v v' g w b h = does_nothing m m' w b no_telling h

  -- 6.5.2.2p4, 6.5.3.2p4, 6.8.4.2p5: a value that is passed on or looked at
  pub accepts-alike : (v v' : Worth) → AlikeWorth m m' v v' → (w : World) (b : Store) → Alikes m m' w b → AlikeDone m m' (calculate_parts.accepts v w) (calculate_parts.accepts v' (with_bytes w b))
  accepts-alike v v' g w b h = present_alike m m' w b v v' _ _ h g (gives_alike m m' v v' w b no_telling g h)

  pub needs-alike : (v v' : Worth) → AlikeWorth m m' v v' → (w : World) (b : Store) → Alikes m m' w b → AlikeDone m m' (calculate_parts.needs v w) (calculate_parts.needs v' (with_bytes w b))
  needs-alike v v' g w b h = plain_alike m m' w b v v' _ _ h g (gives_alike m m' v v' w b no_telling g h)

  pub follows-alike : (nothing : Bool) (v v' : Worth) → AlikeWorth m m' v v' → (w : World) (b : Store) → Alikes m m' w b
      → AlikeDone m m' (calculate.follows_to nothing v w) (calculate.follows_to nothing v' (with_bytes w b))
  follows-alike true v v' g w b h = present_alike m m' w b v v' _ _ h g (does_nothing m m' w b no_telling h)
  follows-alike false v v' g w b h = present_alike m m' w b v v' _ _ h g (gives_alike m m' v v' w b no_telling g h)

  -- 6.5.3.3, 6.5.5 to 6.5.12
  pub calculates-alike : (k : BinOp) (i : IntKind) (v v' x x' : Worth) → AlikeWorth m m' v v' → AlikeWorth m m' x x' → (w : World) (b : Store) → Alikes m m' w b
      → AlikeDone m m' (calculate_parts.calculates k i v x w) (calculate_parts.calculates k i v' x' (with_bytes w b))
  calculates-alike k i v v' x x' g f w b h =
      plain_alike m m' w b v v' _ _ h g (plain_alike m m' w b x x' _ _ h f
      (by_numbers (λ w n l. arithmetic_result w (binary_of k i n l)) v v' x x' w b g f (λ n l. computed_alike m m' w b (binary_of k i n l) h)))

  pub calculates_one-alike : (k : UnOp) (i : IntKind) (v v' : Worth) → AlikeWorth m m' v v' → (w : World) (b : Store) → Alikes m m' w b
      → AlikeDone m m' (calculate_parts.calculates_one k i v w) (calculate_parts.calculates_one k i v' (with_bytes w b))
  calculates_one-alike k i v v' g w b h =
      plain_alike m m' w b v v' _ _ h g (by_number (λ w n. arithmetic_result w (unary_of k i n)) v v' w b g (λ n. computed_alike m m' w b (unary_of k i n) h))

  -- 6.5.2.3, 6.5.6, 6.5.8, 6.5.9
  moves_pointer-alike : (minus : Bool) (size : ℕ) (v v' x x' : Worth) → AlikeWorth m m' v v' → AlikeWorth m m' x x' → (w : World) (b : Store) → Alikes m m' w b
      → AlikeDone m m' (point.moves_pointer minus size v x w) (point.moves_pointer minus size v' x' (with_bytes w b))
  moves_pointer-alike minus size v v' x x' g f w b h =
      by_both (λ w p n. point.moved_by w p (shift w.memory.table p (point.distance minus size n))) v v' x x' w b g f
      (λ p n. moved_by-alike w b p (shift w.memory.table p (point.distance minus size n)) h)

  pub moves-alike : (minus first : Bool) (size : ℕ) (v v' x x' : Worth) → AlikeWorth m m' v v' → AlikeWorth m m' x x' → (w : World) (b : Store) → Alikes m m' w b
      → AlikeDone m m' (point.moves minus first size v x w) (point.moves minus first size v' x' (with_bytes w b))
  moves-alike minus true size v v' x x' g f w b h =
      plain_alike m m' w b v v' _ _ h g (plain_alike m m' w b x x' _ _ h f (moves_pointer-alike minus size v v' x x' g f w b h))
  moves-alike minus false size v v' x x' g f w b h =
      plain_alike m m' w b v v' _ _ h g (plain_alike m m' w b x x' _ _ h f (moves_pointer-alike minus size x x' v v' f g w b h))

  pub subtracts-alike : (size : ℕ) (v v' x x' : Worth) → AlikeWorth m m' v v' → AlikeWorth m m' x x' → (w : World) (b : Store) → Alikes m m' w b
      → AlikeDone m m' (point.subtracts size v x w) (point.subtracts size v' x' (with_bytes w b))
  subtracts-alike size v v' x x' g f w b h =
      plain_alike m m' w b v v' _ _ h g (plain_alike m m' w b x x' _ _ h f
      (by_pointers (λ w p q. point_parts.between size p q w) v v' x x' w b g f (λ p q. between_by-alike size p q w b (together SubtractionOfPointers w.memory.table p q) h)))

  pub orders-alike : (k : BinOp) (v v' x x' : Worth) → point.is_order k ≡ true → AlikeWorth m m' v v' → AlikeWorth m m' x x' → (w : World) (b : Store) → Alikes m m' w b
      → AlikeDone m m' (point.orders k v x w) (point.orders k v' x' (with_bytes w b))
  orders-alike k v v' x x' e g f w b h =
      plain_alike m m' w b v v' _ _ h g (plain_alike m m' w b x x' _ _ h f
      (by_pointers (λ w p q. point.ordered_by k w p q (order w.memory.table p q)) v v' x x' w b g f (λ p q. ordered_by-alike k w b p q (order w.memory.table p q) e h)))

  pub equals-alike : (negated : Bool) (v v' x x' : Worth) → AlikeWorth m m' v v' → AlikeWorth m m' x x' → (w : World) (b : Store) → Alikes m m' w b
      → AlikeDone m m' (point.equals negated v x w) (point.equals negated v' x' (with_bytes w b))
  equals-alike negated v v' x x' g f w b h =
      plain_alike m m' w b v v' _ _ h g (plain_alike m m' w b x x' _ _ h f
      (by_pointers (λ w p q. point.equal_by negated w p q (pointer_equality w.memory.table p q)) v v' x x' w b g f (λ p q. equal_by-alike negated w b p q (pointer_equality w.memory.table p q) h)))

  found_in-alike : (w : World) (b : Store) (p : Pointer) (fits : Option ℕ → Bool) (o : Option ℕ) (us : List What) → Alikes m m' w b
      → AlikeDone m m' (point.found_in w p fits o us) (point.found_in (with_bytes w b) p fits o us)
  found_in-alike w b p fits o us h =
      either_alike m m' (fits o) _ _ _ _ (gives_alike m m' (int (pos (unwrap_or o 0))) (int (pos (unwrap_or o 0))) w b (telling us) refl h) (fails_alike m m' point_parts.unlike (Some p.prov) w b (telling us) h)

  found_by-alike : (w : World) (b : Store) (p : Pointer) (fits : Option ℕ → Bool) (r : Result (ℕ × Tried) Stop × Table) → Alikes m m' w b → AlikeDone m m' (point.found_by w p fits r) (point.found_by (with_bytes w b) p fits r)
  found_by-alike w b p fits (Ok r, T) h = found_in-alike (with_table w T) b p fits (owner_of w r.0) (event_of_use code_test r.1) h
  found_by-alike w b p fits (Err y, T) h = (refl, refl, alike_world m m' (with_table w T) b h, refl)

  pub finds-alike : (fits : Option ℕ → Bool) (v v' : Worth) → AlikeWorth m m' v v' → (w : World) (b : Store) → Alikes m m' w b → AlikeDone m m' (point.finds fits v w) (point.finds fits v' (with_bytes w b))
  finds-alike fits v v' g w b h =
      plain_alike m m' w b v v' _ _ h g (by_pointer (λ w p. point.found_by w p fits (code w.memory.table p)) v v' w b g (λ p. found_by-alike w b p fits (code w.memory.table p) h))

  pub selects-alike : (offset : ℕ) (v v' : Worth) → AlikeWorth m m' v v' → (w : World) (b : Store) → Alikes m m' w b → AlikeDone m m' (point_parts.selects offset v w) (point_parts.selects offset v' (with_bytes w b))
  selects-alike offset v v' g w b h =
      present_alike m m' w b v v' _ _ h g (by_pointer (λ w p. point.moved_by w p (select w.memory.table p offset)) v v' w b g (λ p. moved_by-alike w b p (select w.memory.table p offset) h))
