-- What each operation of a run tells passes (C17 6.3, 6.5, 6.7.9, 7).
use Rattle.std.proofs.Common.{◌≡◌, ℕ, zero, suc, ◌≤◌, Bool, true, false, ◌&&◌, not, eqb, List, [], ◌∷◌, length, replicate, All, Option, Some, None, Result, Ok, Err, refl, sym, ap, subst, arith}
use Rattle.std.specs.Prelude.{nat_le, if◌then◌else◌, slice_index_or}
use Rattle.std.proofs.lemmas.Bool.{leb-true, false≢true}
use Rattle.std.proofs.lemmas.List.Elements.{All-nil}
use Rattle.pv_types.specs.Layouts.{Entry, AllFill, layout_in, is_complete_in}
use Rattle.pv_num.specs.declared.operators.BinOp.{BinOp}
use Rattle.pv_types.specs.Ty.{Ty}
use Rattle.pv_types.proofs.Fills.{layout_fills}
use Rattle.pv_inst.specs.declared.values.Instance.{Instance}
use Rattle.pv_inst.specs.Table.{Table, instance_at, IsMadeIn}
use Rattle.pv_shadow.specs.declared.byte.Byte.{Byte}
use Rattle.pv_shadow.specs.Bytes.{bytes_from, with_bytes_at}
use Rattle.pv_shadow.specs.Whole.{number_bytes}
use Rattle.pv_object.specs.declared.values.Pointer.{Pointer}
use Rattle.pv_object.specs.declared.values.Reach.{Reach}
use Rattle.pv_object.specs.declared.values.Stop.{Stop}
use Rattle.pv_object.specs.declared.values.Scalar.TheVariants as scalar
use Rattle.pv_object.specs.declared.values.Value.{Value}
use Rattle.pv_object.specs.declared.values.Value.TheVariants.{Int as IntValue, Unset, Pointer as PointerValue}
use Rattle.pv_object.specs.Answers.{IsMadeValue}
use Rattle.pv_typed.specs.Known.{Each}
use Rattle.pv_typed.specs.TypedUnits.{TypedObject, TypedFunction, layouts, object_at, function_at, literal_at}
use Rattle.pv_typed.specs.UnitParts.{no_object, no_function}
use Rattle.pv_script.specs.Words.{is_name}
use Rattle.pv_script.specs.Names.{name_at as text_of}
use Rattle.pv_library.specs.declared.library.Library.{Library}
use Rattle.pv_seq.specs.Sequencing.{Access, conflicts}
use Rattle.pv_libc.specs.declared.values.Arg.{Arg}
use Rattle.pv_libc.specs.declared.values.Reply.{Reply}
use Rattle.pv_libc.specs.declared.values.Reply.TheVariants as reply
use Rattle.pv_libc.specs.Steps.{Now}
use Rattle.pv_libc.specs.Calls.{reply_to_call, output}
use Rattle.pv_watch.specs.declared.event.What.{What}
use Rattle.pv_world.specs.declared.got.Shape.{Shape}
use Rattle.pv_world.specs.declared.got.Shape.TheVariants as shape
use Rattle.pv_world.specs.Worlds.{Worth, Nothing, Missing, Scalar, Whole, World, with_table}
use Rattle.pv_world.specs.Worths.{truth_int, pointer_of, bytes_of, value_of, why_not_set, why_missing}
use Rattle.pv_world.specs.Conversions.{opposite}
use Rattle.pv_world.specs.Telling.{Told, no_telling, telling}
use Rattle.pv_world.specs.Doing.{Done, Answers}
use Rattle.pv_world.specs.Coming.{IsMadeWorth}
use Rattle.pv_world.specs.Accesses.{is_inexact, stored_as, mark_of}
use Rattle.pv_world.specs.ObjectParts.{filling}
use Rattle.pv_world.specs.Objects.{function_request}
use Rattle.pv_eval.specs.States.{Setting}
use Rattle.pv_eval.specs.TypeForms.{Lvalue, size_of}
use Rattle.pv_eval.specs.Permission.{permits}
use Rattle.pv_eval.specs.Accesses.{access_to, reads_at, reads, writes_alone, writes_at, writes}
use Rattle.pv_eval.specs.Objects.{where_possible, heap_name, request_of, makes, instance_for, ends, makes_literal, makes_function, can_fill, can_put, can_put_text, text_for, can_make}
use Rattle.pv_eval.specs.ObjectParts.{can_place}
use Rattle.pv_eval.specs.Callees.{may_call}
use Rattle.pv_eval.specs.Library.{done_by_reply, with_memory, done_by_call, asks, told_of}
use Rattle.pv_eval.specs.LibraryParts.{all_noted}
use Rattle.pv_world.specs.Suiting.{is_size, is_live, knows_worth, is_stored, live_in}
use Rattle.pv_eval.specs.Operations.{Op, Converts, Calculates, CalculatesOne, Tests, Negates, Accepts, Needs, Moves, Subtracts, Orders, Equals, Follows, Selects, Finds, TakesPart, Reads, Writes, NamesObject, NamesLiteral, NamesFunction, Makes, MakesLiteral, MakesFunction, Ends, BeginsBody, EndsBody, Fills, Puts, PutsText, Asks, suits, works, does}
use Rattle.pv_world.proofs.Guards.{left_of, right_of, worth_made}
use Rattle.pv_eval.proofs.Asked.{arguments_made}
use Rattle.pv_exec.proofs.Memory.Rows.{led-itself}
use Rattle.pv_journal_laws.specs.Naming.{IsNamed, HasNames}
use Rattle.pv_journal_laws.proofs.Telling.{IsNumbered}
use Rattle.pv_journal_laws.proofs.Changes.{Tells, tells-itself}
use Rattle.pv_journal_laws.proofs.Numbering.{AreNumbered, IsNumberedValue, made_numbered, read_numbered, encode_numbered, named_written, same_numbered, plain_numbered}
use Rattle.pv_journal_laws.proofs.Doings.{Fine, Answered, Coming, passed_told, unless-comes, stops, still, tests-come, converts-come, calculates-come, calculates-one-come, follows-come, moves-come, selects-come, finds-come, between-come}
use Rattle.pv_journal_laws.proofs.Accesses.{order-comes, equals-come, reaching-comes, worth-comes, takes-come, object-comes, function-comes, literal-comes, ends-come}
use Rattle.pv_journal_laws.proofs.Printing.{AreNumberedArguments}
use Rattle.pv_journal_laws.proofs.Libraries.{called-goes}

-- ---- operands whose names were made

pointer_made : (T : Table) (v : Worth) → IsMadeWorth T v → IsMadeIn T (pointer_of v).prov
pointer_made T (Scalar (PointerValue p)) h = h
pointer_made T (Scalar (IntValue n)) h = tt
pointer_made T (Scalar Unset) h = tt
pointer_made T Nothing h = tt
pointer_made T Missing h = tt
pointer_made T (Whole bs a) h = tt

known_made : (T : Table) (v : Worth) → knows_worth T v ≡ true → IsMadeIn T (pointer_of v).prov
known_made T v e = pointer_made T v (worth_made T v e)

known_numbered : (T : Table) (v : Worth) → knows_worth T v ≡ true → IsNumbered (pointer_of v).prov
known_numbered T v e = made_numbered T (pointer_of v).prov (known_made T v e)

value_numbered : (T : Table) (v : Value) → IsMadeValue T v → IsNumberedValue v
value_numbered T (PointerValue p) h = made_numbered T p.prov h
value_numbered T (IntValue n) h = tt
value_numbered T Unset h = tt

worth_numbered : (T : Table) (v : Worth) → IsMadeWorth T v → IsNumberedValue (value_of v)
worth_numbered T (Scalar v) h = value_numbered T v h
worth_numbered T Nothing h = tt
worth_numbered T Missing h = tt
worth_numbered T (Whole bs a) h = tt

bytes_numbered : (T : Table) (v : Worth) → IsMadeWorth T v → AreNumbered (bytes_of v)
bytes_numbered T (Whole bs a) h = λ k d l. made_numbered T _ (h k d l)
bytes_numbered T (Scalar v) h = All-nil (λ (x : Byte). IsNumbered x.prov)
bytes_numbered T Nothing h = All-nil (λ (x : Byte). IsNumbered x.prov)
bytes_numbered T Missing h = All-nil (λ (x : Byte). IsNumbered x.prov)

stored_numbered : (T : Table) (number : ℕ) (s : Shape) (v : Worth) → IsMadeWorth T v → AreNumbered (stored_as number s v)
stored_numbered T number (shape.Int k) v h = encode_numbered (scalar.Int k) (value_of v) (mark_of number (shape.Int k)) (worth_numbered T v h)
stored_numbered T number shape.Pointer v h = encode_numbered scalar.Pointer (value_of v) (mark_of number shape.Pointer) (worth_numbered T v h)
stored_numbered T number shape.Whole v h = bytes_numbered T v h

arguments_numbered : (T : Table) (xs : List Arg) → All (λ (x : Arg). IsMadeValue T x.value) xs → AreNumberedArguments xs
arguments_numbered T [] h = tt
arguments_numbered T (x ∷ xs) h = (value_numbered T x.value (h 0 x (omega arith)), arguments_numbered T xs (λ k d l. h (suc k) d (omega (arith, l))))

-- ---- names of objects

each_at : {X : Type 0} (P : X → Type 0) (xs : List X) (i : ℕ) (d : X) → Each P xs → P d → P (slice_index_or xs i d)
each_at P [] i d h p = p
each_at P (x ∷ xs) zero d h p = h.0
each_at P (x ∷ xs) (suc i) d h p = each_at P xs i d h.1 p

-- if every tag has a byte
abbrev pub Filled : Setting → Type 0
Filled b = AllFill (layouts b.unit)

some_by : (es : List Entry) (t : Ty) (c : Bool) → (is_complete_in es t && is_size (layout_in es t).size) && c ≡ true → AllFill es → 1 ≤ (layout_in es t).size
some_by es t c e f =
    let complete = left_of (is_complete_in es t) (is_size (layout_in es t).size) (left_of (is_complete_in es t && is_size (layout_in es t).size) c e) in
    omega (arith, (layout_fills es t f complete).0)

-- an object that can be made has a byte then
made_some : (b : Setting) (x : TypedObject) → can_make b x ≡ true → Filled b → 1 ≤ size_of b x.t
made_some b x e f = some_by (layouts b.unit) x.t (not (eqb x.name heap_name)) e f

lives : (o : Option Instance) → live_in o ≡ true → (x : Instance) × (o ≡ Some x) × (x.live ≡ true)
lives None e = absurd (false≢true e)
lives (Some x) e = (x, refl, e)

module _ (b : Setting) (u : HasNames b.unit) (filled : Filled b) (turn : ℕ) where
  abbrev ns : List (List ℕ)
  ns = b.unit.names

  abbrev C : World → Done → Type 0
  C w d = Coming ns turn w d

  lit_named : IsNamed ns 0
  lit_named = (let two = u.two in omega (arith, two), ap is_name u.literal)

  if-comes : (c : Bool) (w : World) (d e : Done) → (c ≡ true → C w d) → (c ≡ false → C w e) → C w (if c then d else e)
  if-comes true w d e h g = h refl
  if-comes false w d e h g = g refl

  possible-comes : (c : Bool) (w : World) (d : Done) → (c ≡ true → C w d) → C w (where_possible c w d)
  possible-comes true w d h = h refl
  possible-comes false w d h = still ns u.distinct turn w _

  -- accesses
  reads-on : (l : Lvalue) (p : Pointer) (rivals : List Access) (w : World) → Fine ns w → (at : Reach) (T : Table) (us : List What) → Tells ns turn w.memory.table us T → C w (reads_at b l p rivals at (with_table w T) (telling us))
  reads-on l p rivals w f at T us t =
      if-comes (permits b (with_table w T) l at false) w _ _
      (λ e. if-comes (conflicts (access_to l p false) rivals) w _ _ (λ e. record { comes = passed_told f t })
      (λ e. worth-comes ns u.distinct turn w (with_table w T) (bytes_from w.memory.bytes at.address l.size) l.shape (Some at.address) (Some p.prov) (telling us) f (record { tells = t; named = λ n. n })
      (read_numbered w.memory.bytes at.address l.size f.named)))
      (λ e. record { comes = passed_told f t })

  reads-come : (l : Lvalue) (v : Worth) (rivals : List Access) (w : World) → Fine ns w → IsNumbered (pointer_of v).prov → C w (reads b l v rivals w)
  reads-come l v rivals w f h = reaching-comes ns u.distinct turn (pointer_of v) l.size l.align false w (reads_at b l (pointer_of v) rivals) f h (reads-on l (pointer_of v) rivals w f)

  alone-on : (l : Lvalue) (p : Pointer) (v : Worth) (from : Option ℕ) (at : Reach) (w : World) (T : Table) (us : List What) → Fine ns w → Tells ns turn w.memory.table us T → IsMadeWorth w.memory.table v
      → C w (writes_alone l p v from at (with_table w T) (telling us))
  alone-on l p v from at w T us f t m =
      if-comes (is_inexact from p.address l.size) w _ _ (λ e. record { comes = passed_told f t })
      (λ e. record { comes = record { tells = t; named = λ n. named_written w.memory.bytes at.address (stored_as l.number l.shape v) (stored_numbered w.memory.table l.number l.shape v m) n } })

  writes-on : (l : Lvalue) (p : Pointer) (v : Worth) (from : Option ℕ) (rivals : List Access) (w : World) → Fine ns w → IsMadeWorth w.memory.table v → (at : Reach) (T : Table) (us : List What) → Tells ns turn w.memory.table us T
      → C w (writes_at b l p v from rivals at (with_table w T) (telling us))
  writes-on l p v from rivals w f m at T us t =
      if-comes (permits b (with_table w T) l at true) w _ _
      (λ e. if-comes (conflicts (access_to l p true) rivals) w _ _ (λ e. record { comes = passed_told f t }) (λ e. alone-on l p v from at w T us f t m))
      (λ e. record { comes = passed_told f t })

  writes-come : (l : Lvalue) (place v : Worth) (from : Option ℕ) (rivals : List Access) (w : World) → Fine ns w → IsNumbered (pointer_of place).prov → IsMadeWorth w.memory.table v → C w (writes b l place v from rivals w)
  writes-come l place v from rivals w f h m =
      unless-comes ns u.distinct turn (why_missing v) w _ (reaching-comes ns u.distinct turn (pointer_of place) l.size l.align true w (writes_at b l (pointer_of place) v from rivals) f h (writes-on l (pointer_of place) v from rivals w f m))

  -- calls of the library
  replied-comes : (r : Reply) (w x : World) (t : Told) → Fine ns w → Answered ns turn w t.events x → C w (done_by_reply r x t)
  replied-comes reply.Nothing w x t f a = record { comes = a }
  replied-comes (reply.Value v) w x t f a = record { comes = a }
  replied-comes (reply.Exit n) w x t f a = record { comes = passed_told f a.tells }
  replied-comes reply.Abort w x t f a = record { comes = passed_told f a.tells }
  replied-comes (reply.Placement e) w x t f a = record { comes = passed_told f a.tells }

  asked-comes : (w : World) (text : List ℕ) (r : Result Reply Stop) (S : Now) → Fine ns w → Answered ns turn w (all_noted S.memory.table S.notes) (with_memory w S.memory) → C w (done_by_call w text r S)
  asked-comes w text (Ok r) S f a = replied-comes r w (with_memory w S.memory) (told_of S.memory S.notes text) f a
  asked-comes w text (Err y) S f a = record { comes = passed_told f a.tells }

  asks-come : (g : Library) (args : List Arg) (w : World) → Fine ns w → AreNumberedArguments args → C w (asks g args w)
  asks-come g args w f n =
      let S = (reply_to_call g args w.memory).after in
      let goes = called-goes ns u.distinct turn (record { there = u.two; text = u.heap }) g args w.memory n in
      asked-comes w (output g args w.memory) (reply_to_call g args w.memory).answer S f
      (record { tells = subst (λ l. Tells ns turn w.memory.table (all_noted S.memory.table l) S.memory.table) (sym goes.notes) (goes.tells f.none S.memory.table led-itself); named = goes.named })

  -- instances
  makes-come : (o : ℕ) (w : World) → C w (makes b o w)
  makes-come o w =
      let x = object_at b.unit o in
      let named = each_at (λ (x : TypedObject). IsNamed ns x.name) b.unit.objects o no_object u.objects lit_named in
      possible-comes (can_make b x) w _ (λ e. object-comes ns u.distinct turn o x.lasting (request_of b x) w (record { named = named.0; valid = named.1; heap = λ h. absurd (false≢true h); some = made_some b x e filled }))

  functions-come : (g : ℕ) (w : World) → C w (makes_function b g w)
  functions-come g w =
      let x = function_at b.unit g in
      let named = each_at (λ (x : TypedFunction). IsNamed ns x.name) b.unit.functions g no_function u.functions lit_named in
      possible-comes (can_place x) w _ (λ e. function-comes ns u.distinct turn g (function_request x.name (text_of ns x.name)) w (record { named = named.0; valid = named.1; heap = λ h. absurd (false≢true h); some = omega arith }))

  literals-come : (l : ℕ) (w : World) → C w (makes_literal b l w)
  literals-come l w =
      let bytes = (literal_at b.unit l).bytes in
      possible-comes (nat_le 1 (length bytes)) w _
      (λ e. literal-comes ns u.distinct turn l (text_of ns 0) bytes w (record { named = lit_named.0; valid = lit_named.1; heap = λ h. absurd (false≢true h); some = leb-true 1 (length bytes) e }))

  ended-comes : (o : ℕ) (w : World) → C w (ends b o w)
  ended-comes o w =
      let i = instance_for b o w in
      possible-comes (is_live w i) w _ (λ e. let x = lives (instance_at w.memory.table.instances i) e in ends-come ns u.distinct turn w i x.0 x.1 x.2)

  -- bytes that are put where they belong
  put-comes : (w : World) (a : ℕ) (bs : List Byte) (v : Worth) → AreNumbered bs → C w (Answers v (record w { memory = record w.memory { bytes = with_bytes_at w.memory.bytes a bs } }) no_telling)
  put-comes w a bs v n = record { comes = record { tells = tells-itself; named = λ h. named_written w.memory.bytes a bs n h } }

  -- two operands whose names were made
  subtracts-come : (size : ℕ) (v x : Worth) (w : World) → Fine ns w → suits b (Subtracts size v x) w ≡ true → C w (works b (Subtracts size v x) w)
  subtracts-come size v x w f e =
      let T = w.memory.table in
      let both = right_of (nat_le 1 size) (knows_worth T v && knows_worth T x) (right_of (is_size size) _ e) in
      unless-comes ns u.distinct turn (why_not_set v) w _ (unless-comes ns u.distinct turn (why_not_set x) w _ (between-come ns u.distinct turn size (pointer_of v) (pointer_of x) w f
      (known_made T v (left_of (knows_worth T v) (knows_worth T x) both)) (known_made T x (right_of (knows_worth T v) (knows_worth T x) both))))

  orders-come : (op : BinOp) (v x : Worth) (w : World) → suits b (Orders op v x) w ≡ true → C w (works b (Orders op v x) w)
  orders-come op v x w e =
      let T = w.memory.table in
      let both = right_of _ (knows_worth T v && knows_worth T x) e in
      unless-comes ns u.distinct turn (why_not_set v) w _ (unless-comes ns u.distinct turn (why_not_set x) w _ (order-comes ns u.distinct turn op (pointer_of v) (pointer_of x) w
      (known_made T v (left_of (knows_worth T v) (knows_worth T x) both)) (known_made T x (right_of (knows_worth T v) (knows_worth T x) both))))

  works-come : (o : Op) (w : World) → Fine ns w → suits b o w ≡ true → C w (works b o w)
  works-come (Converts how v) w f e = converts-come ns u.distinct turn how v w f (known_numbered w.memory.table v (right_of _ (knows_worth w.memory.table v) e))
  works-come (Calculates op k v x) w f e = calculates-come ns u.distinct turn op k v x w
  works-come (CalculatesOne op k v) w f e = calculates-one-come ns u.distinct turn op k v w
  works-come (Tests v) w f e = tests-come ns u.distinct turn truth_int v w (known_numbered w.memory.table v e)
  works-come (Negates v) w f e = tests-come ns u.distinct turn opposite v w (known_numbered w.memory.table v e)
  works-come (Accepts v) w f e = unless-comes ns u.distinct turn (why_missing v) w _ (still ns u.distinct turn w _)
  works-come (Needs v) w f e = unless-comes ns u.distinct turn (why_not_set v) w _ (still ns u.distinct turn w _)
  works-come (Moves minus first size v x) w f e =
      let T = w.memory.table in
      let both = right_of _ (knows_worth T v && knows_worth T x) (right_of (is_size size) _ e) in
      moves-come ns u.distinct turn minus first size v x w (known_numbered T v (left_of (knows_worth T v) (knows_worth T x) both)) (known_numbered T x (right_of (knows_worth T v) (knows_worth T x) both))
  works-come (Subtracts size v x) w f e = subtracts-come size v x w f e
  works-come (Orders op v x) w f e = orders-come op v x w e
  works-come (Equals negated v x) w f e =
      let T = w.memory.table in
      equals-come ns u.distinct turn negated v x w f (known_numbered T v (left_of (knows_worth T v) (knows_worth T x) e)) (known_numbered T x (right_of (knows_worth T v) (knows_worth T x) e))
  works-come (Follows nothing v) w f e = follows-come ns u.distinct turn nothing v w
  works-come (Selects offset v) w f e = selects-come ns u.distinct turn offset v w (known_numbered w.memory.table v e)
  works-come (Finds t v) w f e = finds-come ns u.distinct turn (may_call b t) v w f (known_numbered w.memory.table v e)
  works-come (TakesPart offset l v) w f e =
      takes-come ns u.distinct turn offset l.size l.shape v w f (bytes_numbered w.memory.table v (worth_made w.memory.table v (right_of _ (knows_worth w.memory.table v) (right_of (is_size l.size) _ e))))
  works-come (Reads l place rivals) w f e = reads-come l place rivals w f (known_numbered w.memory.table place (right_of _ (knows_worth w.memory.table place) e))
  works-come (Writes l place v from rivals) w f e =
      let T = w.memory.table in
      let both = right_of (is_stored l.shape l.size v) (knows_worth T place && knows_worth T v) (right_of _ _ e) in
      writes-come l place v from rivals w f (known_numbered T place (left_of (knows_worth T place) (knows_worth T v) both)) (worth_made T v (right_of (knows_worth T place) (knows_worth T v) both))
  works-come (NamesObject o) w f e = still ns u.distinct turn w _
  works-come (NamesLiteral l) w f e = still ns u.distinct turn w _
  works-come (NamesFunction g) w f e = still ns u.distinct turn w _
  works-come (Makes o) w f e = makes-come o w
  works-come (MakesLiteral l) w f e = literals-come l w
  works-come (MakesFunction g) w f e = functions-come g w
  works-come (Ends o) w f e = ended-comes o w
  works-come (BeginsBody g l) w f e = record { comes = record { tells = tells-itself; named = λ n. n } }
  works-come EndsBody w f e = record { comes = record { tells = tells-itself; named = λ n. n } }
  works-come (Fills o v) w f e = possible-comes (can_fill b o w) w _ (λ c. put-comes w _ (replicate (size_of b (object_at b.unit o).t) (filling v)) _ (same_numbered (size_of b (object_at b.unit o).t) (filling v) tt))
  works-come (Puts o offset l v) w f e =
      let T = w.memory.table in
      possible-comes (can_put b o offset l v w) w _
      (λ c. put-comes w _ (stored_as l.number l.shape v) _ (stored_numbered T l.number l.shape v (worth_made T v (right_of (is_stored l.shape l.size v) (knows_worth T v) (left_of _ _ (right_of (is_size l.size) _ c))))))
  works-come (PutsText o offset size l) w f e = possible-comes (can_put_text b o offset size l w) w _ (λ c. put-comes w _ (number_bytes None 0 (text_for b size l)) _ (plain_numbered None 0 (text_for b size l)))
  works-come (Asks g args) w f e = asks-come g args w f (arguments_numbered w.memory.table args (arguments_made w.memory.table args e))

  pub does-come : (o : Op) (w : World) → Fine ns w → C w (does b o w)
  does-come o w f = if-comes (suits b o w) w (works b o w) _ (λ e. works-come o w f e) (λ e. stops ns u.distinct turn w w _ _)
