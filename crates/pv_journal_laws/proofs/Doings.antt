-- What each operation of a world tells passes, and leaves the state of the table of the world after it (C17 6.2.4, 6.3, 6.5).
use Rattle.std.proofs.Common.{◌≡◌, ℕ, ℤ, pos, Bool, true, false, ◌||◌, cond, List, [], Option, Some, None, Result, Ok, Err, refl, ◌∙◌}
use Rattle.std.specs.Prelude.{if◌then◌else◌}
use Rattle.pv_num.specs.declared.kinds.IntKind.{IntKind}
use Rattle.pv_num.specs.declared.operators.BinOp.{BinOp}
use Rattle.pv_num.specs.declared.operators.UnOp.{UnOp}
use Rattle.pv_num.specs.declared.operators.ArithmeticFault.{ArithmeticFault}
use Rattle.pv_fault.specs.declared.faults.Clause.{Clause}
use Rattle.pv_fault.specs.declared.faults.Clause.TheVariants.{AdditionOfPointers, SubtractionOfPointers, Indirection}
use Rattle.pv_num.specs.Arithmetic.{binary_of, unary_of}
use Rattle.pv_num.specs.Kinds.{fits_of}
use Rattle.pv_journal_laws.specs.Naming.{AreDistinct}
use Rattle.pv_prov.specs.declared.names.Prov.{Prov}
use Rattle.pv_prov.specs.Names.{is_empty, stands}
use Rattle.pv_inst.specs.declared.values.Tried.{Tried}
use Rattle.pv_inst.specs.declared.values.Miss.{Miss}
use Rattle.pv_inst.specs.declared.values.Test.TheVariants.{Live, Range, Code}
use Rattle.pv_inst.specs.Table.{Table, IsMadeIn}
use Rattle.pv_inst.specs.Use.{use_answer, after_use}
use Rattle.pv_inst.specs.TwoPointers.{same_miss, same_by, same_state}
use Rattle.pv_object.specs.declared.values.Pointer.{Pointer}
use Rattle.pv_object.specs.declared.values.Stop.{Stop}
use Rattle.pv_object.specs.declared.values.Value.{Value}
use Rattle.pv_object.specs.declared.values.Value.TheVariants.{Int as IntValue, Unset, Pointer as PointerValue}
use Rattle.pv_object.specs.Access.{first_survivor, is_null}
use Rattle.pv_object.specs.Operations.{to_ptr, recast_by as recast_or_stop, to_int_after, exposed_to, move_under, moved_to, code_in}
use Rattle.pv_object.specs.OperationParts.{truth_by as truth_or_stop, address_on, moved_by as moved_or_stop, code_at, both_or_stop}
use Rattle.pv_watch.specs.declared.event.What.{What}
use Rattle.pv_world.specs.declared.got.How.{How}
use Rattle.pv_world.specs.declared.got.How.TheVariants.{Rounds, Passes, Tests, Numbers, Points, Recasts, Voids}
use Rattle.pv_world.specs.Worlds.{Worth, Nothing, Missing, Scalar, Whole, World, Wrong, with_table}
use Rattle.pv_world.specs.Telling.{no_telling, telling, event_of_use, uses, live_use, live_test, code_test}
use Rattle.pv_world.specs.Doing.{Done, Answers, Fails, Breaks}
use Rattle.pv_world.specs.Worths.{truth_int, int_of, pointer_of, unless, why_not_set, why_missing, arithmetic_result}
use Rattle.pv_world.specs.Conversions.{truth_by, truth_value, truth_worth, tests, number_by, pointer_by_number, recast_by, passes, converts}
use Rattle.pv_world.specs.Calculations.{follows_to}
use Rattle.pv_world.specs.CalculationParts.{calculates, calculates_one}
use Rattle.pv_world.specs.Pointers.{moved_by, distance, moves, elements_by, between_by, found_by, finds}
use Rattle.pv_world.specs.PointerParts.{between, unlike, selects}
use Rattle.pv_world.specs.Objects.{owner_of}
use Rattle.pv_journal.specs.Obeying.{State}
use Rattle.pv_journal_laws.proofs.Telling.{IsNumbered, told_from}
use Rattle.pv_journal_laws.proofs.Uses.{at_table}
use Rattle.pv_journal_laws.proofs.Changes.{AreFew, Sane, Tells, sane_told, tells-itself, tells-exposures, use-tells, name-tells, expose-shows}
use Rattle.pv_journal_laws.proofs.Beside.{together_told, same-tells}
use Rattle.pv_journal_laws.proofs.Numbering.{Named}

-- what a world keeps between its operations
pub record Fine (names : List (List ℕ)) (w : World) : Type 0 where
  pub sane : Sane names w.memory.table
  pub none : w.memory.table.pending ≡ []
  pub named : Named w.memory.bytes

-- from a world to another one these events are told
pub record Answered (names : List (List ℕ)) (turn : ℕ) (w : World) (es : List What) (x : World) : Type 0 where
  pub tells : Tells names turn w.memory.table es x.memory.table
  pub named : Named w.memory.bytes → Named x.memory.bytes

-- these events pass, and none of them is a fault
pub record Passing (names : List (List ℕ)) (s : State) (es : List What) : Type 0 where
  pub left : State
  pub told : told_from names s es ≡ Some left
  pub over : left.over ≡ false

-- the same from the state that a world's table is
pub record Passed (names : List (List ℕ)) (turn : ℕ) (w : World) (es : List What) : Type 0 where
  pub some : AreFew es → Passing names (at_table names turn false w.memory.table) es

-- what an operation that began in this world comes to
abbrev pub Comes : List (List ℕ) → (turn : ℕ) → World → Done → Type 0
Comes names turn w (Answers v x t) = Answered names turn w t.events x
Comes names turn w (Fails y p x t) = Passed names turn w t.events
Comes names turn w (Breaks y b x t) = Passed names turn w t.events

-- the same, of an operation that is not named
pub record Coming (names : List (List ℕ)) (turn : ℕ) (w : World) (d : Done) : Type 0 where
  pub comes : Comes names turn w d

pub fine_told : {names : List (List ℕ)} {turn : ℕ} {w x : World} {es : List What} → Fine names w → Answered names turn w es x → Fine names x
fine_told f a = record { sane = sane_told a.tells f.sane; none = a.tells.pending ∙ f.none; named = a.named f.named }

pub passed_told : {names : List (List ℕ)} {turn : ℕ} {w : World} {es : List What} {T : Table} → Fine names w → Tells names turn w.memory.table es T → Passed names turn w es
passed_told {names} {turn} {w} {es} {T} f t = record { some = λ few. record { left = at_table names turn false T; told = t.told f.sane few; over = refl } }

pub passed_none : {names : List (List ℕ)} {turn : ℕ} {w : World} → Passed names turn w []
passed_none {names} {turn} {w} = record { some = λ few. record { left = at_table names turn false w.memory.table; told = refl; over = refl } }

pub answered_none : {names : List (List ℕ)} {turn : ℕ} {w : World} → Answered names turn w [] w
answered_none = record { tells = tells-itself; named = λ n. n }

module _ (names : List (List ℕ)) (distinct : AreDistinct names) (turn : ℕ) where
  abbrev C : World → Done → Type 0
  C w d = Coming names turn w d

  -- another table is left
  tabled : {w : World} {es : List What} {T : Table} (v : Worth) → Tells names turn w.memory.table es T → C w (Answers v (with_table w T) (telling es))
  tabled v t = record { comes = record { tells = t; named = λ n. n } }

  pub still : (w : World) (v : Worth) → C w (Answers v w no_telling)
  still w v = record { comes = answered_none }

  pub stops : (w x : World) (y : Wrong) (p : Option Prov) → C w (Fails y p x no_telling)
  stops w x y p = record { comes = passed_none }

  pub unless-comes : (o : Option Wrong) (w : World) (d : Done) → C w d → C w (unless o w d)
  unless-comes None w d h = h
  unless-comes (Some y) w d h = stops w w y None

  live-tells : (T : Table) (p : Pointer) → IsNumbered p.prov → Tells names turn T (live_use T p) (after_use T p.prov (use_answer T p.prov Live))
  live-tells T p n = use-tells names distinct turn T p.prov Live n

  -- conversions
  truth-by : (w : World) (p : Pointer) (give : Bool → Worth) (r : Result Tried Miss) → Tells names turn w.memory.table (uses live_test r) (after_use w.memory.table p.prov r) → C w (truth_by w p (truth_or_stop p r, after_use w.memory.table p.prov r) give)
  truth-by w p give (Ok tried) t = tabled _ t
  truth-by w p give (Err m) t = stops w _ _ _

  truth-value : (w : World) (v : Value) (give : Bool → Worth) → IsNumbered (pointer_of (Scalar v)).prov → C w (truth_value w v give)
  truth-value w (IntValue n) give h = still w _
  truth-value w (PointerValue p) give h = truth-by w p give (use_answer w.memory.table p.prov Live) (live-tells w.memory.table p h)
  truth-value w Unset give h = still w _

  truth-worth : (w : World) (give : Bool → Worth) (v : Worth) → IsNumbered (pointer_of v).prov → C w (truth_worth w give v)
  truth-worth w give (Scalar v) h = truth-value w v give h
  truth-worth w give Nothing h = still w _
  truth-worth w give Missing h = still w _
  truth-worth w give (Whole bs a) h = still w _

  pub tests-come : (give : Bool → Worth) (v : Worth) (w : World) → IsNumbered (pointer_of v).prov → C w (tests give v w)
  tests-come give v w h = unless-comes (why_not_set v) w (truth_worth w give v) (truth-worth w give v h)

  number-fits : (w : World) (p : Pointer) (b : Bool) (tried : Tried) → Fine names w → Tells names turn w.memory.table (live_use w.memory.table p) (after_use w.memory.table p.prov (Ok tried))
      → C w (number_by w p (exposed_to (after_use w.memory.table p.prov (Ok tried)) p b tried))
  number-fits w p true tried f t = record { comes = record { tells = tells-exposures f.none t (expose-shows names distinct turn (after_use w.memory.table p.prov (Ok tried)) p.prov); named = λ n. n } }
  number-fits w p false tried f t = record { comes = passed_told f t }

  number-by : (w : World) (p : Pointer) (k : IntKind) (r : Result Tried Miss) → Fine names w → Tells names turn w.memory.table (live_use w.memory.table p) (after_use w.memory.table p.prov r) → C w (number_by w p (to_int_after w.memory.table p k r))
  number-by w p k (Err m) f t = record { comes = passed_told f t }
  number-by w p k (Ok tried) f t = number-fits w p (fits_of k (pos p.address)) tried f t

  pointed-comes : (w : World) (n : ℤ) → C w (pointer_by_number w (to_ptr w.memory.table n))
  pointed-comes w n = tabled _ (name-tells names distinct turn w.memory.table _)

  recast-fits : (w : World) (p : Pointer) (b : Bool) (tried : Tried) (y : Stop) (T : Table) → Fine names w → Tells names turn w.memory.table (live_use w.memory.table p) T → C w (recast_by w p (cond b (Ok tried) (Err y), T))
  recast-fits w p true tried y T f t = tabled _ t
  recast-fits w p false tried y T f t = record { comes = passed_told f t }

  recast-by : (w : World) (p : Pointer) (n : ℕ) (r : Result Tried Miss) → Fine names w → Tells names turn w.memory.table (live_use w.memory.table p) (after_use w.memory.table p.prov r) → C w (recast_by w p (recast_or_stop p n r, after_use w.memory.table p.prov r))
  recast-by w p n (Ok tried) f t = recast-fits w p _ tried _ (after_use w.memory.table p.prov (Ok tried)) f t
  recast-by w p n (Err m) f t = record { comes = passed_told f t }

  passes-come : (k : IntKind) (w : World) (v : Worth) → C w (passes k w v)
  passes-come k w (Scalar v) = still w _
  passes-come k w Nothing = still w _
  passes-come k w Missing = still w _
  passes-come k w (Whole bs a) = still w _

  pub converts-come : (how : How) (v : Worth) (w : World) → Fine names w → IsNumbered (pointer_of v).prov → C w (converts how v w)
  converts-come (Rounds k) v w f h = unless-comes (why_not_set v) w _ (still w _)
  converts-come (Passes k) v w f h = unless-comes (why_missing v) w _ (passes-come k w v)
  converts-come Tests v w f h = tests-come truth_int v w h
  converts-come (Numbers k) v w f h = unless-comes (why_not_set v) w _ (number-by w (pointer_of v) k (use_answer w.memory.table (pointer_of v).prov Live) f (live-tells w.memory.table (pointer_of v) h))
  converts-come Points v w f h = unless-comes (why_not_set v) w _ (pointed-comes w (int_of v))
  converts-come (Recasts n) v w f h = unless-comes (why_not_set v) w _ (recast-by w (pointer_of v) n (use_answer w.memory.table (pointer_of v).prov Live) f (live-tells w.memory.table (pointer_of v) h))
  converts-come Voids v w f h = still w _

  -- operators on integers
  computed-comes : (w : World) (r : Result ℤ ArithmeticFault) → C w (arithmetic_result w r)
  computed-comes w (Ok n) = still w _
  computed-comes w (Err y) = stops w w _ _

  pub calculates-come : (op : BinOp) (k : IntKind) (v x : Worth) (w : World) → C w (calculates op k v x w)
  calculates-come op k v x w = unless-comes (why_not_set v) w _ (unless-comes (why_not_set x) w _ (computed-comes w (binary_of op k (int_of v) (int_of x))))

  pub calculates-one-come : (op : UnOp) (k : IntKind) (v : Worth) (w : World) → C w (calculates_one op k v w)
  calculates-one-come op k v w = unless-comes (why_not_set v) w _ (computed-comes w (unary_of op k (int_of v)))

  pub follows-come : (nothing : Bool) (v : Worth) (w : World) → C w (follows_to nothing v w)
  follows-come true v w = unless-comes (why_missing v) w _ (still w _)
  follows-come false v w = unless-comes (why_missing v) w _ (still w _)

  -- operations on pointers
  moved-to : (w : World) (p : Pointer) (c : Clause) (a : ℕ) (r : Result Tried Miss) → Tells names turn w.memory.table (uses 2 r) (after_use w.memory.table p.prov r) → C w (moved_by w p (moved_or_stop c p a r, after_use w.memory.table p.prov r))
  moved-to w p c a (Ok tried) t = tabled _ t
  moved-to w p c a (Err m) t = stops w _ _ _

  moved-if : (w : World) (p : Pointer) (b : Bool) (x y : Result (Pointer × Tried) Stop × Table) → C w (moved_by w p x) → C w (moved_by w p y) → C w (moved_by w p (cond b x y))
  moved-if w p true x y h g = h
  moved-if w p false x y h g = g

  moved-comes : (w : World) (p : Pointer) (c : Clause) (by : ℤ) → IsNumbered p.prov → C w (moved_by w p (move_under c w.memory.table p by))
  moved-comes w p c by h =
      moved-if w p (is_null p) _ _ (stops w _ _ _)
      (moved-if w p (is_empty p.prov) _ (moved_to c w.memory.table p (address_on p.address by)) (stops w _ _ _)
      (moved-to w p c (address_on p.address by) (use_answer w.memory.table p.prov (Range (address_on p.address by) 0)) (use-tells names distinct turn w.memory.table p.prov (Range (address_on p.address by) 0) h)))

  pub moves-come : (minus first : Bool) (size : ℕ) (v x : Worth) (w : World) → IsNumbered (pointer_of v).prov → IsNumbered (pointer_of x).prov → C w (moves minus first size v x w)
  moves-come minus true size v x w h g = unless-comes (why_not_set v) w _ (unless-comes (why_not_set x) w _ (moved-comes w (pointer_of v) AdditionOfPointers (distance minus size (int_of x)) h))
  moves-come minus false size v x w h g = unless-comes (why_not_set v) w _ (unless-comes (why_not_set x) w _ (moved-comes w (pointer_of x) AdditionOfPointers (distance minus size (int_of v)) g))

  pub selects-come : (offset : ℕ) (v : Worth) (w : World) → IsNumbered (pointer_of v).prov → C w (selects offset v w)
  selects-come offset v w h = unless-comes (why_missing v) w _ (moved-comes w (pointer_of v) Indirection (pos offset) h)

  found-in : (w : World) (T : Table) (p : Pointer) (b : Bool) (v : Worth) (us : List What) → Fine names w → Tells names turn w.memory.table us T
      → C w (if b then Answers v (with_table w T) (telling us) else Fails unlike (Some p.prov) (with_table w T) (telling us))
  found-in w T p true v us f t = tabled v t
  found-in w T p false v us f t = record { comes = passed_told f t }

  found-at : (w : World) (p : Pointer) (fits : Option ℕ → Bool) (o : Option ℕ) (tried : Tried) → Fine names w → Tells names turn w.memory.table (event_of_use code_test tried) (after_use w.memory.table p.prov (Ok tried))
      → C w (found_by w p fits (code_in o tried, after_use w.memory.table p.prov (Ok tried)))
  found-at w p fits None tried f t = stops w _ _ _
  found-at w p fits (Some i) tried f t = found-in w (after_use w.memory.table p.prov (Ok tried)) p (fits (owner_of w i)) _ (event_of_use code_test tried) f t

  found-to : (w : World) (p : Pointer) (fits : Option ℕ → Bool) (r : Result Tried Miss) → Fine names w → Tells names turn w.memory.table (uses code_test r) (after_use w.memory.table p.prov r) → C w (found_by w p fits (code_at w.memory.table p r))
  found-to w p fits (Ok tried) f t = found-at w p fits (first_survivor (stands w.memory.table.pairs p.prov) tried) tried f t
  found-to w p fits (Err m) f t = stops w _ _ _

  found-if : (w : World) (p : Pointer) (fits : Option ℕ → Bool) (b : Bool) (x y : Result (ℕ × Tried) Stop × Table) → C w (found_by w p fits x) → C w (found_by w p fits y) → C w (found_by w p fits (cond b x y))
  found-if w p fits true x y h g = h
  found-if w p fits false x y h g = g

  pub finds-come : (fits : Option ℕ → Bool) (v : Worth) (w : World) → Fine names w → IsNumbered (pointer_of v).prov → C w (finds fits v w)
  finds-come fits v w f h =
      let p = pointer_of v in
      unless-comes (why_not_set v) w _ (found-if w p fits (is_null p) _ _ (stops w _ _ _)
      (found-if w p fits (is_empty p.prov) _ (code_at w.memory.table p (use_answer w.memory.table p.prov (Code p.address))) (stops w _ _ _)
      (found-to w p fits (use_answer w.memory.table p.prov (Code p.address)) f (use-tells names distinct turn w.memory.table p.prov (Code p.address) h))))

  -- two operands
  elements-by : (w : World) (T : Table) (p : Pointer) (us : List What) (o : Option ℤ) → Fine names w → Tells names turn w.memory.table us T → C w (elements_by (with_table w T) p us o)
  elements-by w T p us (Some n) f t = tabled _ t
  elements-by w T p us None f t = record { comes = passed_told f t }

  between-by : (size : ℕ) (p q : Pointer) (w : World) (c : Clause) (o : Option Miss) → Fine names w → Tells names turn w.memory.table (together_told names distinct turn o w.memory.table p.prov q.prov) (same_state o w.memory.table p.prov q.prov)
      → C w (between_by size p q w (both_or_stop c (same_by o w.memory.table p.prov q.prov), same_state o w.memory.table p.prov q.prov))
  between-by size p q w c (Some m) f t = stops w _ _ _
  between-by size p q w c None f t = elements-by w _ p _ _ f t

  between-if : (size : ℕ) (p q : Pointer) (w : World) (b : Bool) (x y : Result (Tried × Tried) Stop × Table) → C w (between_by size p q w x) → C w (between_by size p q w y) → C w (between_by size p q w (cond b x y))
  between-if size p q w true x y h g = h
  between-if size p q w false x y h g = g

  pub between-come : (size : ℕ) (p q : Pointer) (w : World) → Fine names w → IsMadeIn w.memory.table p.prov → IsMadeIn w.memory.table q.prov → C w (between size p q w)
  between-come size p q w f a b =
      between-if size p q w (is_null p || is_null q) _ _ (stops w _ _ _)
      (between-by size p q w SubtractionOfPointers (same_miss w.memory.table p.prov q.prov) f (same-tells names distinct turn w.memory.table p.prov q.prov a b))
