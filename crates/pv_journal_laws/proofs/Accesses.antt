-- The same of order and equality, of accesses, and of instances that are made and ended (C17 6.2.4p2, 6.3.2.1p2, 6.4.5p6, 6.5.8p5, 6.5.9p6).
use Rattle.std.proofs.Common.{◌≡◌, ℕ, ℤ, pos, Bool, true, false, ◌&&◌, ◌||◌, not, cond, List, [], ◌∷◌, ◌++◌, take, drop, Option, Some, None, Result, Ok, Err, refl, sym, ◌∙◌, subst}
use Rattle.std.specs.declared.cmp.Ordering.{Ordering}
use Rattle.std.specs.Ordering.{nat_cmp}
use Rattle.pv_num.specs.declared.kinds.IntKind.{IntKind}
use Rattle.pv_num.specs.declared.kinds.IntKind.TheVariants.{Int as IntOfInt}
use Rattle.pv_num.specs.declared.operators.BinOp.{BinOp}
use Rattle.pv_num.specs.declared.operators.ArithmeticFault.{ArithmeticFault}
use Rattle.pv_fault.specs.declared.faults.Clause.{Clause}
use Rattle.pv_fault.specs.declared.faults.Clause.TheVariants.{OrderOfPointers}
use Rattle.pv_num.specs.Arithmetic.{binary_of}
use Rattle.pv_journal_laws.specs.Naming.{AreDistinct}
use Rattle.pv_prov.specs.declared.names.Prov.{Prov}
use Rattle.pv_prov.specs.Names.{is_empty, stands}
use Rattle.pv_inst.specs.declared.values.Instance.{Instance}
use Rattle.pv_inst.specs.declared.values.Tried.{Tried}
use Rattle.pv_inst.specs.declared.values.Miss.{Miss}
use Rattle.pv_inst.specs.declared.values.Test.TheVariants.{Live, Range}
use Rattle.pv_inst.specs.declared.values.CreateError.{CreateError}
use Rattle.pv_inst.specs.Table.{Table, instance_at, with_instance, IsMadeIn}
use Rattle.pv_inst.specs.Use.{use_answer, after_use, empty_use}
use Rattle.pv_inst.specs.TwoPointers.{same_miss, same_by, same_state, same_left, same_right}
use Rattle.pv_inst.specs.Exposure.{expose, expose_one, exposing}
use Rattle.pv_inst.specs.ExposureParts.{exposure_from}
use Rattle.pv_inst.specs.Finding.{after_name, name_at}
use Rattle.pv_inst.specs.Placing.{Request}
use Rattle.pv_shadow.specs.declared.byte.Byte.{Byte}
use Rattle.pv_shadow.specs.Whole.{whole_name, number_bytes, number_in}
use Rattle.pv_object.specs.declared.values.Pointer.{Pointer}
use Rattle.pv_object.specs.declared.values.Reach.{Reach}
use Rattle.pv_object.specs.declared.values.Stop.{Stop}
use Rattle.pv_object.specs.declared.values.Asker.TheVariants.{Access}
use Rattle.pv_object.specs.declared.values.Value.{Value}
use Rattle.pv_object.specs.Memory.{Mem}
use Rattle.pv_object.specs.Access.{reach_after, clause_of, is_null}
use Rattle.pv_object.specs.Creating.{creation}
use Rattle.pv_num.specs.Kinds.{is_character_kind as is_character}
use Rattle.pv_object.specs.Loading.{Loaded, exposed_by, integer_of, is_trap, pointer_of as pointer_from, pointer_named}
use Rattle.pv_object.specs.OperationParts.{live_answer, equal_by as equal_or_stop, both_or_stop, order_by as order_or_stop}
use Rattle.pv_object.specs.Operations.{equal_after, order}
use Rattle.pv_object.proofs.Contents.{whole_made}
use Rattle.pv_watch.specs.declared.event.What.{What}
use Rattle.pv_world.specs.declared.got.Shape.{Shape}
use Rattle.pv_world.specs.declared.got.Shape.TheVariants as shape
use Rattle.pv_world.specs.Worlds.{Worth, World, with_table}
use Rattle.pv_world.specs.Telling.{Told, no_telling, telling, event_of_use, uses, both_used, live_use, live_test, pairings}
use Rattle.pv_world.specs.Doing.{Done}
use Rattle.pv_world.specs.Worths.{pointer_of, why_not_set, why_missing, bytes_of}
use Rattle.pv_world.specs.Pointers.{ordered_by, equal_by, equals}
use Rattle.pv_world.specs.Accesses.{reaching_by, reaching, scalar_by, worth_in, takes_bytes}
use Rattle.pv_world.specs.AccessParts.{range_use}
use Rattle.pv_world.specs.Objects.{makes_object, makes_literal_of, makes_function, ends_instance}
use Rattle.pv_world.specs.ObjectParts.{object_made, literal_request, literal_made, function_made}
use Rattle.pv_journal_laws.proofs.Telling.{IsNumbered}
use Rattle.pv_journal_laws.proofs.Changes.{Tells, Showing, tells-itself, tells-trans, tells-exposures, showing-itself, showing-trans, use-tells, name-tells, expose-shows, ends-tells}
use Rattle.pv_journal_laws.proofs.Requests.{IsAsked, Creates, created-tells}
use Rattle.pv_journal_laws.proofs.Beside.{together_told, same-tells, settled_paired, none_paired}
use Rattle.pv_journal_laws.proofs.Numbering.{AreNumbered, Named, name_numbered, all_drop, all_take, created_named, without_named, named_written, plain_numbered}
use Rattle.pv_journal_laws.proofs.Doings.{Fine, Answered, Coming, passed_told, passed_none, unless-comes, stops}

module _ (names : List (List ℕ)) (distinct : AreDistinct names) (turn : ℕ) where
  abbrev C : World → Done → Type 0
  C w d = Coming names turn w d

  -- order
  ordered-as : (w : World) (T : Table) (o : Result ℤ ArithmeticFault) (op : BinOp) (p q : Pointer) (r : Ordering × Tried × Tried) → binary_of op IntOfInt (pos p.address) (pos q.address) ≡ o → Tells names turn w.memory.table (both_used r.1 r.2) T
      → C w (ordered_by op w p q (Ok r, T))
  ordered-as w T (Ok n) op p q r e t = rw e (record { comes = record { tells = t; named = λ n. n } })
  ordered-as w T (Err y) op p q r e t = rw e (record { comes = record { tells = t; named = λ n. n } })

  ordered-by : (op : BinOp) (p q : Pointer) (w : World) (c : Clause) (o : Option Miss) → Tells names turn w.memory.table (together_told names distinct turn o w.memory.table p.prov q.prov) (same_state o w.memory.table p.prov q.prov)
      → C w (ordered_by op w p q (order_or_stop p q (both_or_stop c (same_by o w.memory.table p.prov q.prov)), same_state o w.memory.table p.prov q.prov))
  ordered-by op p q w c (Some m) t = stops names distinct turn w _ _ _
  ordered-by op p q w c None t = ordered-as w _ (binary_of op IntOfInt (pos p.address) (pos q.address)) op p q (nat_cmp p.address q.address, same_left w.memory.table p.prov q.prov, same_right w.memory.table p.prov q.prov) refl t

  ordered-if : (op : BinOp) (p q : Pointer) (w : World) (b : Bool) (x y : Result (Tried × Tried) Stop × Table) → C w (ordered_by op w p q (order_or_stop p q x.0, x.1)) → C w (ordered_by op w p q (order_or_stop p q y.0, y.1))
      → C w (ordered_by op w p q (order_or_stop p q (cond b x y).0, (cond b x y).1))
  ordered-if op p q w true x y h g = h
  ordered-if op p q w false x y h g = g

  pub order-comes : (op : BinOp) (p q : Pointer) (w : World) → IsMadeIn w.memory.table p.prov → IsMadeIn w.memory.table q.prov → C w (ordered_by op w p q (order w.memory.table p q))
  order-comes op p q w a b =
      ordered-if op p q w (is_null p || is_null q) _ _ (stops names distinct turn w _ _ _)
      (ordered-by op p q w OrderOfPointers (same_miss w.memory.table p.prov q.prov) (same-tells names distinct turn w.memory.table p.prov q.prov a b))

  -- equality
  equal-right : (negated : Bool) (w : World) (p q : Pointer) (left : Tried) (U : Table) (r : Result Tried Miss) → Fine names w → Tells names turn w.memory.table (live_use w.memory.table p) U → Tells names turn U (uses live_test r) (after_use U q.prov r)
      → C w (equal_by negated w p q (equal_or_stop p q left r, after_use U q.prov r))
  equal-right negated w p q left U (Ok right) f t u = record { comes = record { tells = tells-trans t u; named = λ n. n } }
  equal-right negated w p q left U (Err m) f t u = record { comes = passed_told f t }

  equal-left : (negated : Bool) (w : World) (p q : Pointer) (r : Result Tried Miss) → Fine names w → IsNumbered q.prov → Tells names turn w.memory.table (live_use w.memory.table p) (after_use w.memory.table p.prov r)
      → C w (equal_by negated w p q (equal_after w.memory.table p q r))
  equal-left negated w p q (Err m) f h t = record { comes = passed_told f t }
  equal-left negated w p q (Ok left) f h t =
      let U = after_use w.memory.table p.prov (Ok left) in
      equal-right negated w p q left U (use_answer U q.prov Live) f t (use-tells names distinct turn U q.prov Live h)

  pub equals-come : (negated : Bool) (v x : Worth) (w : World) → Fine names w → IsNumbered (pointer_of v).prov → IsNumbered (pointer_of x).prov → C w (equals negated v x w)
  equals-come negated v x w f h g =
      let p = pointer_of v in
      let q = pointer_of x in
      unless-comes names distinct turn (why_not_set v) w _ (unless-comes names distinct turn (why_not_set x) w _
      (equal-left negated w p q (use_answer w.memory.table p.prov Live) f g (use-tells names distinct turn w.memory.table p.prov Live h)))

  -- accesses
  abbrev GoesOn : World → (Reach → World → Told → Done) → Type 0
  GoesOn w go = (at : Reach) (T : Table) (us : List What) → Tells names turn w.memory.table us T → C w (go at (with_table w T) (telling us))

  reached-or : (w : World) (p : Pointer) (us : List What) (T : Table) (r : Result Reach Stop) (go : Reach → World → Told → Done) → Fine names w → Tells names turn w.memory.table us T → GoesOn w go → C w (reaching_by w p us (r, T) go)
  reached-or w p us T (Ok at) go f t g = g at T us t
  reached-or w p us T (Err y) go f t g = record { comes = passed_told f t }

  reached-by : (w : World) (p : Pointer) (us : List What) (n align : ℕ) (write : Bool) (c : Clause) (r : Result Tried Miss) (go : Reach → World → Told → Done) → Fine names w → Tells names turn w.memory.table us (after_use w.memory.table p.prov r) → GoesOn w go
      → C w (reaching_by w p us (reach_after w.memory.table p n align write c r) go)
  reached-by w p us n align write c (Err m) go f t g = record { comes = passed_told f t }
  reached-by w p us n align write c (Ok tried) go f t g = reached-or w p us (after_use w.memory.table p.prov (Ok tried)) _ go f t g

  reached-if : (w : World) (p : Pointer) (us : List What) (b : Bool) (x y : Result Reach Stop × Table) (go : Reach → World → Told → Done) → C w (reaching_by w p us x go) → C w (reaching_by w p us y go) → C w (reaching_by w p us (cond b x y) go)
  reached-if w p us true x y go h g = h
  reached-if w p us false x y go h g = g

  pub reaching-comes : (p : Pointer) (n align : ℕ) (write : Bool) (w : World) (go : Reach → World → Told → Done) → Fine names w → IsNumbered p.prov → GoesOn w go → C w (reaching p n align write w go)
  reaching-comes p n align write w go f h g =
      let us = range_use w.memory.table p n in
      let t = use-tells names distinct turn w.memory.table p.prov (Range p.address n) h in
      reached-if w p us (is_null p) _ _ go (record { comes = passed_told f t })
      (reached-if w p us (is_empty p.prov) _ (reach_after w.memory.table p n align write (clause_of Access) (use_answer w.memory.table p.prov (Range p.address n))) go (record { comes = passed_told f t })
      (reached-by w p us n align write (clause_of Access) (use_answer w.memory.table p.prov (Range p.address n)) go f t g))

  -- what bytes are worth, behind events that were told before
  nothing-paired : (T U : Table) → pairings T U ≡ [] → Tells names turn T (pairings T U) T
  nothing-paired T U e = subst (λ es. Tells names turn T es T) (sym e) tells-itself

  loaded-by : (z w : World) (bytes : List Byte) (s : Shape) (p : Option Prov) (t : Told) (q : Pointer) (V : Table) (r : Result Tried Miss) → Fine names z → Answered names turn z t.events w → Tells names turn w.memory.table (pairings w.memory.table V) V
      → Tells names turn V (uses live_test r) (after_use V q.prov r) → C z (scalar_by w bytes s p t (live_answer q r, after_use V q.prov r))
  loaded-by z w bytes s p t q V (Ok tried) f a pairs u =
      let T = w.memory.table in
      let U = after_use V q.prov (Ok tried) in
      let same : pairings T U ≡ pairings T V = settled_paired T V q.prov (Ok tried) in
      let all : Tells names turn z.memory.table ((t.events ++ pairings T U) ++ event_of_use live_test tried) U = tells-trans (tells-trans a.tells (subst (λ es. Tells names turn T es V) (sym same) pairs)) u in
      record { comes = record { tells = tells-exposures f.none all showing-itself; named = a.named } }
  loaded-by z w bytes s p t q V (Err m) f a pairs u = record { comes = passed_told f a.tells }

  pointer-named : (z w : World) (bytes : List Byte) (s : Shape) (p : Option Prov) (t : Told) (a : ℕ) (o : Option Prov) → Fine names z → Answered names turn z t.events w → ((q : Prov) → o ≡ Some q → IsNumbered q)
      → C z (scalar_by w bytes s p t (pointer_named w.memory.table o a))
  pointer-named z w bytes s p t a (Some q) f h n =
      let T = w.memory.table in
      loaded-by z w bytes s p t (record { address = a; prov = q }) T (use_answer T q Live) f h (nothing-paired T T (none_paired T T refl)) (use-tells names distinct turn T q Live (n q refl))
  pointer-named z w bytes s p t a None f h n =
      let T = w.memory.table in
      let V = after_name T a in
      loaded-by z w bytes s p t (record { address = a; prov = name_at T a }) V (use_answer V (name_at T a) Live) f h (name-tells names distinct turn T a) (use-tells names distinct turn V (name_at T a) Live (name_numbered T a))

  pointer-loaded : (z w : World) (bytes : List Byte) (s : Shape) (p : Option Prov) (t : Told) (o : Option ℕ) → Fine names z → Answered names turn z t.events w → AreNumbered bytes → C z (scalar_by w bytes s p t (pointer_from w.memory.table bytes o))
  pointer-loaded z w bytes s p t None f h n = record { comes = passed_told f h.tells }
  pointer-loaded z w bytes s p t (Some a) f h n = pointer-named z w bytes s p t a (whole_name bytes) f h (λ q e. whole_made IsNumbered bytes q n (sym e))

  -- exposures of what is read as a number
  exposing_pairs : (T : Table) (i : ℕ) (o : Option Instance) → (exposing T i o).pairs ≡ T.pairs
  exposing_pairs T i None = refl
  exposing_pairs T i (Some x) = by (x.live && not x.exposed)
    where
      by : (b : Bool) → (cond b (record T { instances = with_instance T.instances i (exposure_from x); pending = T.pending ++ i ∷ [] }) T).pairs ≡ T.pairs
      by true = refl
      by false = refl

  one_pairs : (T : Table) (o : Option ℕ) → (expose_one T o).pairs ≡ T.pairs
  one_pairs T None = refl
  one_pairs T (Some i) = exposing_pairs T i (instance_at T.instances i)

  exposed_pairs : (T : Table) (bytes : List Byte) → (exposed_by T bytes).pairs ≡ T.pairs
  exposed_pairs T [] = refl
  exposed_pairs T (b ∷ bs) =
      let s = stands T.pairs b.prov in
      exposed_pairs (expose T b.prov) bs ∙ one_pairs (expose_one T s.low) s.high ∙ one_pairs T s.low

  pub exposed-shows : (T : Table) (bytes : List Byte) → Showing names turn T (exposed_by T bytes)
  exposed-shows T [] = showing-itself
  exposed-shows T (b ∷ bs) = showing-trans (expose-shows names distinct turn T b.prov) (exposed-shows (expose T b.prov) bs)

  shown-as : (z w : World) (bytes : List Byte) (s : Shape) (p : Option Prov) (t : Told) (v : Value) → Fine names z → Answered names turn z t.events w → C z (scalar_by w bytes s p t (Ok (v, empty_use), exposed_by w.memory.table bytes))
  shown-as z w bytes s p t v f h =
      let T = w.memory.table in
      let V = exposed_by T bytes in
      let all : Tells names turn z.memory.table ((t.events ++ pairings T V) ++ []) T = tells-trans (tells-trans h.tells (nothing-paired T V (none_paired T V (exposed_pairs T bytes)))) tells-itself in
      record { comes = record { tells = tells-exposures f.none all (exposed-shows T bytes); named = h.named } }

  shown-if : (z w : World) (bytes : List Byte) (s : Shape) (p : Option Prov) (t : Told) (b : Bool) (x y : Loaded) → C z (scalar_by w bytes s p t x) → C z (scalar_by w bytes s p t y) → C z (scalar_by w bytes s p t (cond b x y))
  shown-if z w bytes s p t true x y h g = h
  shown-if z w bytes s p t false x y h g = g

  integer-loaded : (z w : World) (bytes : List Byte) (s : Shape) (p : Option Prov) (t : Told) (k : IntKind) (o : Option ℕ) → Fine names z → Answered names turn z t.events w → C z (scalar_by w bytes s p t (integer_of w.memory.table k bytes o))
  integer-loaded z w bytes s p t k None f h = shown-if z w bytes s p t (is_character k) _ _ (shown-as z w bytes s p t _ f h) (record { comes = passed_told f h.tells })
  integer-loaded z w bytes s p t k (Some n) f h = shown-if z w bytes s p t (is_trap k n) _ _ (record { comes = passed_told f h.tells }) (shown-as z w bytes s p t _ f h)

  pub worth-comes : (z w : World) (bytes : List Byte) (s : Shape) (origin : Option ℕ) (p : Option Prov) (t : Told) → Fine names z → Answered names turn z t.events w → AreNumbered bytes → C z (worth_in w bytes s origin p t)
  worth-comes z w bytes shape.Whole origin p t f h n = record { comes = h }
  worth-comes z w bytes shape.Pointer origin p t f h n = pointer-loaded z w bytes shape.Pointer p t (number_in bytes) f h n
  worth-comes z w bytes (shape.Int k) origin p t f h n = integer-loaded z w bytes (shape.Int k) p t k (number_in bytes) f h

  pub takes-come : (offset size : ℕ) (s : Shape) (v : Worth) (w : World) → Fine names w → AreNumbered (bytes_of v) → C w (takes_bytes offset size s v w)
  takes-come offset size s v w f n =
      unless-comes names distinct turn (why_missing v) w _ (worth-comes w w (take size (drop offset (bytes_of v))) s None None no_telling f (record { tells = tells-itself; named = λ n. n })
      (all_take (λ (x : Byte). IsNumbered x.prov) size (drop offset (bytes_of v)) (all_drop (λ (x : Byte). IsNumbered x.prov) offset (bytes_of v) n)))

  -- instances
  object-made : (w : World) (o : ℕ) (lasting : Bool) (name : ℕ) (got : Result ℕ CreateError × Mem) → Creates names distinct turn w.memory got → (Named w.memory.bytes → Named got.1.bytes) → C w (object_made w o lasting name got)
  object-made w o true name ((Ok i), M) t n = record { comes = record { tells = t; named = n } }
  object-made w o false name ((Ok i), M) t n = record { comes = record { tells = t; named = n } }
  object-made w o lasting name ((Err e), M) t n = record { comes = passed_none }

  pub object-comes : (o : ℕ) (lasting : Bool) (r : Request) (w : World) → IsAsked names r → C w (makes_object o lasting r w)
  object-comes o lasting r w asked = object-made w o lasting r.name (creation w.memory r) (created-tells names distinct turn w.memory r asked) (created_named w.memory r)

  function-made : (w : World) (f name : ℕ) (got : Result ℕ CreateError × Mem) → Creates names distinct turn w.memory got → (Named w.memory.bytes → Named got.1.bytes) → C w (function_made w f name got)
  function-made w f name ((Ok i), M) t n = record { comes = record { tells = t; named = n } }
  function-made w f name ((Err e), M) t n = record { comes = passed_none }

  pub function-comes : (f : ℕ) (r : Request) (w : World) → IsAsked names r → C w (makes_function f r w)
  function-comes f r w asked = function-made w f r.name (creation w.memory r) (created-tells names distinct turn w.memory r asked) (created_named w.memory r)

  literal-made : (w : World) (l : ℕ) (bytes : List ℕ) (got : Result ℕ CreateError × Mem) → Creates names distinct turn w.memory got → (Named w.memory.bytes → Named got.1.bytes) → C w (literal_made w l bytes got)
  literal-made w l bytes ((Ok i), M) t n = record { comes = record { tells = t; named = λ h. named_written M.bytes _ (number_bytes None 0 bytes) (plain_numbered None 0 bytes) (n h) } }
  literal-made w l bytes ((Err e), M) t n = record { comes = passed_none }

  pub literal-comes : (l : ℕ) (text bytes : List ℕ) (w : World) → IsAsked names (literal_request text bytes) → C w (makes_literal_of l text bytes w)
  literal-comes l text bytes w asked = literal-made w l bytes (creation w.memory (literal_request text bytes)) (created-tells names distinct turn w.memory (literal_request text bytes) asked) (created_named w.memory (literal_request text bytes))

  pub ends-come : (w : World) (i : ℕ) (x : Instance) → instance_at w.memory.table.instances i ≡ Some x → x.live ≡ true → C w (ends_instance w i)
  ends-come w i x at live = record { comes = record { tells = ends-tells names distinct turn w.memory.table i x at live; named = without_named w.memory i } }
