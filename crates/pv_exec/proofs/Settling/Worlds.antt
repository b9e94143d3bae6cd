-- The operations of a world (C17 6.3, 6.5) in both runs.
use Rattle.std.proofs.Common.{◌≡◌, ℕ, ℤ, pos, ◌-ℤ◌, Bool, true, false, not, cond, List, [], Option, Some, None, Result, Ok, Err, refl, sym, ap, ◌∙◌, subst, take, drop}
use Rattle.std.specs.declared.cmp.Ordering.{Ordering}
use Rattle.pv_num.specs.declared.kinds.IntKind.{IntKind}
use Rattle.pv_num.specs.declared.kinds.IntKind.TheVariants.{Int as IntOfInt}
use Rattle.pv_num.specs.declared.operators.BinOp.{BinOp}
use Rattle.pv_num.specs.declared.operators.UnOp.{UnOp}
use Rattle.pv_num.specs.declared.operators.ArithmeticFault.{ArithmeticFault}
use Rattle.pv_fault.specs.declared.faults.Clause.TheVariants.{AdditionOfPointers, SubtractionOfPointers, Indirection}
use Rattle.pv_num.specs.Arithmetic.{binary_of, unary_of}
use Rattle.pv_prov.specs.declared.names.Prov.{Prov}
use Rattle.pv_inst.specs.declared.values.Tried.{Tried}
use Rattle.pv_inst.specs.Table.{Table, IsMadeIn}
use Rattle.pv_shadow.specs.declared.byte.Byte.{Byte}
use Rattle.pv_object.specs.declared.values.Pointer.{Pointer}
use Rattle.pv_object.specs.declared.values.Scalar.TheVariants as scalar
use Rattle.pv_object.specs.declared.values.Stop.{Stop}
use Rattle.pv_object.specs.declared.values.Value.{Value}
use Rattle.pv_object.specs.declared.values.Value.TheVariants.{Int as IntValue, Unset, Pointer as PointerValue}
use Rattle.pv_object.specs.Loading.{Loaded}
use Rattle.pv_object.specs.Operations.{truth, to_ptr, recast, to_int, together, order, pointer_equality, shift, select}
use Rattle.pv_watch.specs.declared.event.What.{What}
use Rattle.pv_world.specs.declared.got.Shape.{Shape}
use Rattle.pv_world.specs.declared.got.Shape.TheVariants as shape
use Rattle.pv_world.specs.declared.got.How.{How}
use Rattle.pv_world.specs.declared.got.How.TheVariants.{Rounds, Passes, Tests, Numbers, Points, Recasts, Voids}
use Rattle.pv_world.specs.Worlds.{Worth, Nothing, Missing, Scalar, Whole, World, Wrong, with_table}
use Rattle.pv_world.specs.Telling.{Told, no_telling, telling, both_used, all_told}
use Rattle.pv_world.specs.Doing.{Answers, Fails}
use Rattle.pv_world.specs.Worths.{int, pointer, truth_int, int_of, pointer_of, why_not_set, why_missing, arithmetic_result, bytes_of, wrong_of}
use Rattle.pv_world.specs.Conversions.{truth_by, truth_value, truth_worth, tests, number_by, pointer_by_number, recast_by, passes, converts}
use Rattle.pv_world.specs.Calculations.{follows_to}
use Rattle.pv_world.specs.CalculationParts.{calculates, calculates_one}
use Rattle.pv_world.specs.Pointers.{moved_by, distance, moves, in_elements, elements_by, between_by, ordered_by, equal_by, equals}
use Rattle.pv_world.specs.PointerParts.{between, selects}
use Rattle.pv_world.specs.Accesses.{scalar_as, scalar_by, worth_in, takes_bytes}
use Rattle.pv_exec.proofs.Memory.Rows.{Sound}
use Rattle.pv_exec.proofs.Settling.Sides.{on_table, on_world, Allows, Covers, Nearly, nearly}
use Rattle.pv_exec.proofs.Settling.Along.{Along}
use Rattle.pv_exec.proofs.Settling.Pointers.{SameFirst, SameOne, Anyhow, Equal, truth-along, recast-along, move-along, equal-along, int-along, pointer-along, value-along}
use Rattle.pv_exec.proofs.Settling.Meeting.{together-along, order-along}
use Rattle.pv_exec.proofs.Settling.Doings.{pairs_of, IsWrong, Tracks, fault-wrong, ends-ok, ends-err, gives-tracks, unless-tracks}

module _ (F : Type 0) (ds : List Bool) where
  abbrev pub Fits : World → Type 0
  Fits w = Sound F w.memory.table.instances w.memory.table.pairs × Allows ds (pairs_of w) × Covers ds (pairs_of w)

  -- nothing but the value matters
  pub quiet-gives : (v : Worth) (w : World) → Fits w → Tracks ds (Answers v w no_telling) (Answers v (on_world ds w) no_telling)
  quiet-gives v w f = gives-tracks ds v w no_telling no_telling refl f.1 (nearly ds (pairs_of w) f.2)

  -- conversions
  truth-tracks : (w w' : World) (p : Pointer) (got got' : Result (Bool × Tried) Stop × Table) (give : Bool → Worth) → w' ≡ on_world ds w → Along ds SameFirst got got' → Tracks ds (truth_by w p got give) (truth_by w' p got' give)
  truth-tracks w w' p ((Ok r), T) ((Ok r'), T') give e h = (ap give h.0, refl, h.1, (λ i. with_table (e i) (h.2 i)), h.3)
  truth-tracks w w' p ((Ok r), T) ((Err y'), T') give e h = (fault-wrong y' h.0, h.1)
  truth-tracks w w' p ((Err y), T) ((Ok r'), T') give e h = ends-ok ds y T r' [] (truth_by w' p (Ok r', T') give) h
  truth-tracks w w' p ((Err y), T) ((Err y'), T') give e h = ends-err (Bool × Tried) ds y y' T [] (Some p.prov) (with_table w' T') no_telling refl h

  value-truth : (w : World) (v : Value) (give : Bool → Worth) → Fits w → Tracks ds (truth_value w v give) (truth_value (on_world ds w) v give)
  value-truth w (IntValue n) give f = quiet-gives _ w f
  value-truth w (PointerValue p) give f = truth-tracks w (on_world ds w) p (truth w.memory.table p) (truth (on_table ds w.memory.table) p) give refl (truth-along F ds w.memory.table p f.1 f.2)
  value-truth w Unset give f = quiet-gives _ w f

  worth-truth : (w : World) (give : Bool → Worth) (v : Worth) → Fits w → Tracks ds (truth_worth w give v) (truth_worth (on_world ds w) give v)
  worth-truth w give (Scalar v) f = value-truth w v give f
  worth-truth w give Nothing f = quiet-gives _ w f
  worth-truth w give Missing f = quiet-gives _ w f
  worth-truth w give (Whole bs a) f = quiet-gives _ w f

  pub tests-track : (give : Bool → Worth) (v : Worth) (w : World) → Fits w → Tracks ds (tests give v w) (tests give v (on_world ds w))
  tests-track give v w f = unless-tracks ds (why_not_set v) w _ _ f.1 (worth-truth w give v f)

  number-tracks : (w w' : World) (p : Pointer) (got got' : Result (ℤ × Tried) Stop × Table) → w' ≡ on_world ds w → Along ds SameFirst got got' → Tracks ds (number_by w p got) (number_by w' p got')
  number-tracks w w' p ((Ok r), T) ((Ok r'), T') e h = (ap int h.0, refl, h.1, (λ i. with_table (e i) (all_told (h.2 i))), h.3)
  number-tracks w w' p ((Ok r), T) ((Err y'), T') e h = (fault-wrong y' h.0, h.1)
  number-tracks w w' p ((Err y), T) ((Ok r'), T') e h = ends-ok ds y T r' [] (number_by w' p (Ok r', T')) h
  number-tracks w w' p ((Err y), T) ((Err y'), T') e h = ends-err (ℤ × Tried) ds y y' T [] (Some p.prov) (with_table w' T') _ refl h

  pointed-tracks : (w w' : World) (got got' : Result Pointer Stop × Table) → w' ≡ on_world ds w → Along ds Equal got got' → Tracks ds (pointer_by_number w got) (pointer_by_number w' got')
  pointed-tracks w w' ((Ok r), T) ((Ok r'), T') e h = (ap pointer h.0, refl, h.1, (λ i. with_table (e i) (h.2 i)), h.3)
  pointed-tracks w w' ((Ok r), T) ((Err y'), T') e h = (fault-wrong y' h.0, h.1)
  pointed-tracks w w' ((Err y), T) ((Ok r'), T') e h = ends-ok ds y T r' [] (pointer_by_number w' (Ok r', T')) h
  pointed-tracks w w' ((Err y), T) ((Err y'), T') e h = ends-err (Pointer) ds y y' T [] None (with_table w' T') no_telling refl h

  recast-tracks : (w w' : World) (p : Pointer) (got got' : Result Tried Stop × Table) → w' ≡ on_world ds w → Along ds Anyhow got got' → Tracks ds (recast_by w p got) (recast_by w' p got')
  recast-tracks w w' p ((Ok r), T) ((Ok r'), T') e h = (refl, refl, h.1, (λ i. with_table (e i) (h.2 i)), h.3)
  recast-tracks w w' p ((Ok r), T) ((Err y'), T') e h = (fault-wrong y' h.0, h.1)
  recast-tracks w w' p ((Err y), T) ((Ok r'), T') e h = ends-ok ds y T r' [] (recast_by w' p (Ok r', T')) h
  recast-tracks w w' p ((Err y), T) ((Err y'), T') e h = ends-err (Tried) ds y y' T [] (Some p.prov) (with_table w' T') _ refl h

  passes-track : (k : IntKind) (w : World) (v : Worth) → Fits w → Tracks ds (passes k w v) (passes k (on_world ds w) v)
  passes-track k w (Scalar v) f = quiet-gives _ w f
  passes-track k w Nothing f = quiet-gives _ w f
  passes-track k w Missing f = quiet-gives _ w f
  passes-track k w (Whole bs a) f = quiet-gives _ w f

  pub converts-track : (how : How) (v : Worth) (w : World) → Fits w → Tracks ds (converts how v w) (converts how v (on_world ds w))
  converts-track (Rounds k) v w f = unless-tracks ds (why_not_set v) w _ _ f.1 (quiet-gives _ w f)
  converts-track (Passes k) v w f = unless-tracks ds (why_missing v) w _ _ f.1 (passes-track k w v f)
  converts-track Tests v w f = tests-track truth_int v w f
  converts-track (Numbers k) v w f = unless-tracks ds (why_not_set v) w _ _ f.1 (number-tracks w (on_world ds w) (pointer_of v) (to_int w.memory.table (pointer_of v) k) (to_int (on_table ds w.memory.table) (pointer_of v) k) refl (int-along F ds w.memory.table (pointer_of v) k f.0 f.1 f.2))
  converts-track Points v w f = unless-tracks ds (why_not_set v) w _ _ f.1 (pointed-tracks w (on_world ds w) (to_ptr w.memory.table (int_of v)) (to_ptr (on_table ds w.memory.table) (int_of v)) refl (pointer-along F ds w.memory.table (int_of v) f.1 f.2))
  converts-track (Recasts n) v w f = unless-tracks ds (why_not_set v) w _ _ f.1 (recast-tracks w (on_world ds w) (pointer_of v) (recast w.memory.table (pointer_of v) n) (recast (on_table ds w.memory.table) (pointer_of v) n) refl (recast-along F ds w.memory.table (pointer_of v) n f.1 f.2))
  converts-track Voids v w f = quiet-gives Nothing w f

  -- operators on integers
  computed-tracks : (w : World) (r : Result ℤ ArithmeticFault) → Fits w → Tracks ds (arithmetic_result w r) (arithmetic_result (on_world ds w) r)
  computed-tracks w (Ok n) f = quiet-gives (int n) w f
  computed-tracks w (Err x) f = tt

  pub calculates-track : (op : BinOp) (k : IntKind) (v x : Worth) (w : World) → Fits w → Tracks ds (calculates op k v x w) (calculates op k v x (on_world ds w))
  calculates-track op k v x w f = unless-tracks ds (why_not_set v) w _ _ f.1 (unless-tracks ds (why_not_set x) w _ _ f.1 (computed-tracks w (binary_of op k (int_of v) (int_of x)) f))

  pub calculates-one : (op : UnOp) (k : IntKind) (v : Worth) (w : World) → Fits w → Tracks ds (calculates_one op k v w) (calculates_one op k v (on_world ds w))
  calculates-one op k v w f = unless-tracks ds (why_not_set v) w _ _ f.1 (computed-tracks w (unary_of op k (int_of v)) f)

  pub follows-track : (nothing : Bool) (v : Worth) (w : World) → Fits w → Tracks ds (follows_to nothing v w) (follows_to nothing v (on_world ds w))
  follows-track true v w f = unless-tracks ds (why_missing v) w _ _ f.1 (quiet-gives Nothing w f)
  follows-track false v w f = unless-tracks ds (why_missing v) w _ _ f.1 (quiet-gives v w f)

  -- operations on pointers
  moved-tracks : (w w' : World) (p : Pointer) (got got' : Result (Pointer × Tried) Stop × Table) → w' ≡ on_world ds w → Along ds SameFirst got got' → Tracks ds (moved_by w p got) (moved_by w' p got')
  moved-tracks w w' p ((Ok r), T) ((Ok r'), T') e h = (ap pointer h.0, refl, h.1, (λ i. with_table (e i) (h.2 i)), h.3)
  moved-tracks w w' p ((Ok r), T) ((Err y'), T') e h = (fault-wrong y' h.0, h.1)
  moved-tracks w w' p ((Err y), T) ((Ok r'), T') e h = ends-ok ds y T r' [] (moved_by w' p (Ok r', T')) h
  moved-tracks w w' p ((Err y), T) ((Err y'), T') e h = ends-err (Pointer × Tried) ds y y' T [] (Some p.prov) (with_table w' T') no_telling refl h

  pointer-moves : (minus : Bool) (size : ℕ) (p n : Worth) (w : World) → Fits w
      → Tracks ds (moved_by w (pointer_of p) (shift w.memory.table (pointer_of p) (distance minus size (int_of n)))) (moved_by (on_world ds w) (pointer_of p) (shift (on_table ds w.memory.table) (pointer_of p) (distance minus size (int_of n))))
  pointer-moves minus size p n w f = moved-tracks w (on_world ds w) (pointer_of p) (shift w.memory.table (pointer_of p) (distance minus size (int_of n))) (shift (on_table ds w.memory.table) (pointer_of p) (distance minus size (int_of n))) refl (move-along F ds AdditionOfPointers w.memory.table (pointer_of p) (distance minus size (int_of n)) f.1 f.2)

  pub moves-track : (minus first : Bool) (size : ℕ) (v x : Worth) (w : World) → Fits w → Tracks ds (moves minus first size v x w) (moves minus first size v x (on_world ds w))
  moves-track minus true size v x w f = unless-tracks ds (why_not_set v) w _ _ f.1 (unless-tracks ds (why_not_set x) w _ _ f.1 (pointer-moves minus size v x w f))
  moves-track minus false size v x w f = unless-tracks ds (why_not_set v) w _ _ f.1 (unless-tracks ds (why_not_set x) w _ _ f.1 (pointer-moves minus size x v w f))

  pub selects-track : (offset : ℕ) (v : Worth) (w : World) → Fits w → Tracks ds (selects offset v w) (selects offset v (on_world ds w))
  selects-track offset v w f = unless-tracks ds (why_missing v) w _ _ f.1 (moved-tracks w (on_world ds w) (pointer_of v) (select w.memory.table (pointer_of v) offset) (select (on_table ds w.memory.table) (pointer_of v) offset) refl (move-along F ds Indirection w.memory.table (pointer_of v) (pos offset) f.1 f.2))

  elements-track : (w : World) (p : Pointer) (us us' : List What) (o : Option ℤ) → Allows ds (pairs_of w) → Nearly ds (pairs_of w) → Tracks ds (elements_by w p us o) (elements_by (on_world ds w) p us' o)
  elements-track w p us us' (Some n) al k = gives-tracks ds (int n) w (telling us) (telling us') refl al k
  elements-track w p us us' None al k = tt

  elements-lost : (w : World) (p : Pointer) (us : List What) (o : Option ℤ) (y' : Wrong) (p' : Option Prov) (w' : World) (t' : Told) → IsWrong y' → (Allows ds (pairs_of w) → ⊥) → Tracks ds (elements_by w p us o) (Fails y' p' w' t')
  elements-lost w p us (Some n) y' p' w' t' h k = (h, k)
  elements-lost w p us None y' p' w' t' h k = h

  between-tracks : (size : ℕ) (p q : Pointer) (w w' : World) (got got' : Result (Tried × Tried) Stop × Table) → w' ≡ on_world ds w → Along ds Anyhow got got' → Tracks ds (between_by size p q w got) (between_by size p q w' got')
  between-tracks size p q w w' ((Ok b), T) ((Ok b'), T') e h =
      let o = in_elements (pos p.address -ℤ pos q.address) size in
      subst (λ (v : World). Tracks ds (elements_by (with_table w T) p (both_used b.0 b.1) o) (elements_by v p (both_used b'.0 b'.1) o)) (sym (λ i. with_table (e i) (h.2 i)))
      (elements-track (with_table w T) p (both_used b.0 b.1) (both_used b'.0 b'.1) o h.1 h.3)
  between-tracks size p q w w' ((Ok b), T) ((Err y'), T') e h = elements-lost (with_table w T) p (both_used b.0 b.1) (in_elements (pos p.address -ℤ pos q.address) size) (wrong_of y') (Some p.prov) (with_table w' T') no_telling (fault-wrong y' h.0) h.1
  between-tracks size p q w w' ((Err y), T) ((Ok b'), T') e h = ends-ok ds y T b' [] (between_by size p q w' (Ok b', T')) h
  between-tracks size p q w w' ((Err y), T) ((Err y'), T') e h = ends-err (Tried × Tried) ds y y' T [] (Some p.prov) (with_table w' T') no_telling refl h

  pub between-track : (size : ℕ) (p q : Pointer) (w : World) → IsMadeIn w.memory.table p.prov → IsMadeIn w.memory.table q.prov → Fits w → Tracks ds (between size p q w) (between size p q (on_world ds w))
  between-track size p q w a b f = between-tracks size p q w (on_world ds w) (together SubtractionOfPointers w.memory.table p q) (together SubtractionOfPointers (on_table ds w.memory.table) p q) refl (together-along ds SubtractionOfPointers w.memory.table p q a b f.1 f.2)

  ordered-tracks : (op : BinOp) (w w' : World) (p q : Pointer) (got got' : Result (Ordering × Tried × Tried) Stop × Table) → w' ≡ on_world ds w → Along ds SameOne got got' → Tracks ds (ordered_by op w p q got) (ordered_by op w' p q got')
  ordered-tracks op w w' p q ((Ok r), T) ((Ok r'), T') e h = by (binary_of op IntOfInt (pos p.address) (pos q.address)) refl
    where
      by : (o : Result ℤ ArithmeticFault) → binary_of op IntOfInt (pos p.address) (pos q.address) ≡ o → Tracks ds (ordered_by op w p q ((Ok r), T)) (ordered_by op w' p q ((Ok r'), T'))
      by (Ok n) g = rw g (refl, refl, h.1, (λ i. with_table (e i) (h.2 i)), h.3)
      by (Err x) g = rw g (refl, refl, h.1, (λ i. with_table (e i) (h.2 i)), h.3)
  ordered-tracks op w w' p q ((Ok r), T) ((Err y'), T') e h = by (binary_of op IntOfInt (pos p.address) (pos q.address)) refl
    where
      by : (o : Result ℤ ArithmeticFault) → binary_of op IntOfInt (pos p.address) (pos q.address) ≡ o → Tracks ds (ordered_by op w p q ((Ok r), T)) (ordered_by op w' p q ((Err y'), T'))
      by (Ok n) g = rw g (fault-wrong y' h.0, h.1)
      by (Err x) g = rw g (fault-wrong y' h.0, h.1)
  ordered-tracks op w w' p q ((Err y), T) ((Ok r'), T') e h = ends-ok ds y T r' [] (ordered_by op w' p q (Ok r', T')) h
  ordered-tracks op w w' p q ((Err y), T) ((Err y'), T') e h = ends-err (Ordering × Tried × Tried) ds y y' T [] (Some p.prov) (with_table w' T') no_telling refl h

  pub ordered-track : (op : BinOp) (p q : Pointer) (w : World) → IsMadeIn w.memory.table p.prov → IsMadeIn w.memory.table q.prov → Fits w → Tracks ds (ordered_by op w p q (order w.memory.table p q)) (ordered_by op (on_world ds w) p q (order (on_table ds w.memory.table) p q))
  ordered-track op p q w a b f = ordered-tracks op w (on_world ds w) p q (order w.memory.table p q) (order (on_table ds w.memory.table) p q) refl (order-along ds w.memory.table p q a b f.1 f.2)

  equal-tracks : (negated : Bool) (w w' : World) (p q : Pointer) (got got' : Result (Bool × Tried × Tried) Stop × Table) → w' ≡ on_world ds w → Along ds SameOne got got' → Tracks ds (equal_by negated w p q got) (equal_by negated w' p q got')
  equal-tracks negated w w' p q ((Ok r), T) ((Ok r'), T') e h = (ap (λ b. truth_int (cond negated (not b) b)) h.0, refl, h.1, (λ i. with_table (e i) (h.2 i)), h.3)
  equal-tracks negated w w' p q ((Ok r), T) ((Err y'), T') e h = (fault-wrong y' h.0, h.1)
  equal-tracks negated w w' p q ((Err y), T) ((Ok r'), T') e h = ends-ok ds y T r' [] (equal_by negated w' p q (Ok r', T')) h
  equal-tracks negated w w' p q ((Err y), T) ((Err y'), T') e h = ends-err (Bool × Tried × Tried) ds y y' T [] (Some p.prov) (with_table w' T') _ refl h

  pub equals-track : (negated : Bool) (v x : Worth) (w : World) → Fits w → Tracks ds (equals negated v x w) (equals negated v x (on_world ds w))
  equals-track negated v x w f = unless-tracks ds (why_not_set v) w _ _ f.1 (unless-tracks ds (why_not_set x) w _ _ f.1
      (equal-tracks negated w (on_world ds w) (pointer_of v) (pointer_of x) (pointer_equality w.memory.table (pointer_of v) (pointer_of x)) (pointer_equality (on_table ds w.memory.table) (pointer_of v) (pointer_of x)) refl (equal-along F ds w.memory.table (pointer_of v) (pointer_of x) f.0 f.1 f.2)))

  -- what bytes are worth
  scalar-tracks : (w w' : World) (bytes : List Byte) (s : Shape) (p : Option Prov) (t t' : Told) (got got' : Loaded) → w' ≡ on_world ds w → t.bytes ≡ [] → t'.bytes ≡ [] → Along ds SameFirst got got' → Tracks ds (scalar_by w bytes s p t got) (scalar_by w' bytes s p t' got')
  scalar-tracks w w' bytes s p t t' ((Ok r), T) ((Ok r'), T') e q q' h = (ap Scalar h.0, refl, h.1, (λ i. with_table (e i) (all_told (h.2 i))), h.3)
  scalar-tracks w w' bytes s p t t' ((Ok r), T) ((Err y'), T') e q q' h = (fault-wrong y' h.0, h.1)
  scalar-tracks w w' bytes s p t t' ((Err y), T) ((Ok r'), T') e q q' h = ends-ok ds y T r' t.bytes (scalar_by w' bytes s p t' (Ok r', T')) h
  scalar-tracks w w' bytes s p t t' ((Err y), T) ((Err y'), T') e q q' h = ends-err (Value × Tried) ds y y' T t.bytes _ (with_table w' T') t' (q' ∙ sym q) h

  pub worth-tracks : (w : World) (bytes : List Byte) (s : Shape) (origin : Option ℕ) (p : Option Prov) (t t' : Told) → t.bytes ≡ [] → t'.bytes ≡ [] → Fits w → Tracks ds (worth_in w bytes s origin p t) (worth_in (on_world ds w) bytes s origin p t')
  worth-tracks w bytes shape.Whole origin p t t' q q' f = gives-tracks ds (Whole bytes origin) w t t' (q' ∙ sym q) f.1 (nearly ds (pairs_of w) f.2)
  worth-tracks w bytes shape.Pointer origin p t t' q q' f = scalar-tracks w (on_world ds w) bytes shape.Pointer p t t' (scalar_as w.memory.table bytes shape.Pointer) (scalar_as (on_table ds w.memory.table) bytes shape.Pointer) refl q q' (value-along F ds w.memory.table bytes scalar.Pointer f.0 f.1 f.2)
  worth-tracks w bytes (shape.Int k) origin p t t' q q' f = scalar-tracks w (on_world ds w) bytes (shape.Int k) p t t' (scalar_as w.memory.table bytes (shape.Int k)) (scalar_as (on_table ds w.memory.table) bytes (shape.Int k)) refl q q' (value-along F ds w.memory.table bytes (scalar.Int k) f.0 f.1 f.2)

  pub takes-track : (offset size : ℕ) (s : Shape) (v : Worth) (w : World) → Fits w → Tracks ds (takes_bytes offset size s v w) (takes_bytes offset size s v (on_world ds w))
  takes-track offset size s v w f = unless-tracks ds (why_missing v) w _ _ f.1 (worth-tracks w (take size (drop offset (bytes_of v))) s None None no_telling no_telling refl refl f)
