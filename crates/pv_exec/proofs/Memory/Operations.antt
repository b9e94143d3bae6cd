-- What each operation of a run leads to (C17 6.3, 6.5, 6.7.9, 7).
use Rattle.std.proofs.Common.{◌≡◌, ℕ, ◌+◌, ◌≤◌, Bool, true, false, ◌&&◌, not, eqb, List, length, replicate, Option, Some, None, Result, Ok, Err, IsSomeAnd, IsTrue, refl, sym, subst, arith}
use Rattle.std.specs.Prelude.{nat_le, if◌then◌else◌}
use Rattle.std.proofs.lemmas.Bool.{false≢true, leb-true}
use Rattle.std.proofs.lemmas.List.{length-replicate}
use Rattle.pv_types.specs.Layouts.{Entry, AllFill, layout_in, is_complete_in}
use Rattle.pv_num.specs.declared.operators.BinOp.{BinOp}
use Rattle.pv_types.specs.Ty.{Ty}
use Rattle.pv_types.proofs.Fills.{layout_fills}
use Rattle.pv_inst.specs.declared.values.Instance.{Instance}
use Rattle.pv_inst.specs.Table.{Table, instance_at, IsMadeIn}
use Rattle.pv_object.specs.declared.values.Pointer.{Pointer}
use Rattle.pv_object.specs.declared.values.Reach.{Reach}
use Rattle.pv_object.specs.declared.values.Stop.{Stop}
use Rattle.pv_object.specs.declared.values.Value.TheVariants.{Int as IntValue, Unset, Pointer as PointerValue}
use Rattle.pv_object.specs.Memory.{Mem}
use Rattle.pv_shadow.specs.Bytes.{bytes_from}
use Rattle.pv_shadow.specs.Whole.{number_bytes}
use Rattle.pv_typed.specs.TypedUnits.{TypedObject, layouts, object_at, function_at, literal_at}
use Rattle.pv_script.specs.Names.{name_at as text_of}
use Rattle.pv_library.specs.declared.library.Library.{Library}
use Rattle.pv_seq.specs.Sequencing.{Access, conflicts}
use Rattle.pv_libc.specs.declared.values.Arg.{Arg}
use Rattle.pv_libc.specs.declared.values.Reply.{Reply}
use Rattle.pv_libc.specs.declared.values.Reply.TheVariants as reply
use Rattle.pv_libc.specs.Steps.{Now}
use Rattle.pv_libc.specs.Calls.{reply_to_call, output}
use Rattle.pv_world.specs.Worlds.{Worth, Nothing, Missing, Scalar, Whole, World}
use Rattle.pv_world.specs.Worths.{truth_int, pointer_of, why_not_set, why_missing}
use Rattle.pv_world.specs.Conversions.{opposite}
use Rattle.pv_world.specs.Telling.{Told, no_telling}
use Rattle.pv_world.specs.Doing.{Done}
use Rattle.pv_world.specs.Coming.{IsMadeWorth}
use Rattle.pv_world.specs.Accesses.{is_inexact, stored_as}
use Rattle.pv_world.specs.Objects.{base_in, function_request}
use Rattle.pv_world.specs.ObjectParts.{filling}
use Rattle.pv_eval.specs.States.{Setting}
use Rattle.pv_eval.specs.TypeForms.{Lvalue, size_of}
use Rattle.pv_eval.specs.Permission.{permits}
use Rattle.pv_eval.specs.Accesses.{access_to, reads_permitted, reads_at, reads, writes_alone, writes_at, writes}
use Rattle.pv_eval.specs.Objects.{where_possible, heap_name, request_of, makes, instance_for, ends, makes_literal, makes_function, can_fill, fills, can_put, puts, text_for, can_put_text, puts_text, can_make}
use Rattle.pv_eval.specs.ObjectParts.{can_place}
use Rattle.pv_eval.specs.Callees.{may_call}
use Rattle.pv_eval.specs.Library.{done_by_reply, with_memory, done_by_call, asks}
use Rattle.pv_world.specs.Suiting.{is_size, is_stored, is_live, has_room, knows_worth, live_in}
use Rattle.pv_eval.specs.Operations.{Op, Converts, Calculates, CalculatesOne, Tests, Negates, Accepts, Needs, Moves, Subtracts, Orders, Equals, Follows, Selects, Finds, TakesPart, Reads, Writes, NamesObject, NamesLiteral, NamesFunction, Makes, MakesLiteral, MakesFunction, Ends, BeginsBody, EndsBody, Fills, Puts, PutsText, Asks, suits, works, does}
use Rattle.pv_eval.proofs.Closed.{IsLvalue, IsAsked}
use Rattle.pv_world.proofs.Guards.{left_of, right_of, worth_made}
use Rattle.pv_exec.proofs.Memory.Calls.{called-leads}
use Rattle.pv_exec.proofs.Memory.Worlds.{Onward, unless-on, tests-on, converts-on, calculates-on, calculates-one-on, follows-on, moves-on, selects-on, between-on, order-on, equals-on, reaching-on, worth-on, takes-on, finds-on, object-on, function-on, literal-on, ends-on, put-on}
use Rattle.pv_exec.proofs.Memory.Reached.{AreInLive}
use Rattle.pv_exec.proofs.Memory.Stored.{AreMade, made-still, plain-length, plain-made, filling-made, stored-length, stored-made, room-in-live}
use Rattle.pv_exec.proofs.Memory.Ways.{Changes}

-- if every tag has a byte
abbrev pub Filled : Setting → Type 0
Filled b = AllFill (layouts b.unit)

some_by : (es : List Entry) (t : Ty) (c : Bool) → (is_complete_in es t && is_size (layout_in es t).size) && c ≡ true → AllFill es → 1 ≤ (layout_in es t).size
some_by es t c e f =
    let complete = left_of (is_complete_in es t) (is_size (layout_in es t).size) (left_of (is_complete_in es t && is_size (layout_in es t).size) c e) in
    omega (arith, (layout_fills es t f complete).0)

-- an object that can be made has a byte then
made-some : (b : Setting) (x : TypedObject) → can_make b x ≡ true → Filled b → 1 ≤ size_of b x.t
made-some b x e f = some_by (layouts b.unit) x.t (not (eqb x.name heap_name)) e f

pointer-made : (T : Table) (v : Worth) → IsMadeWorth T v → IsMadeIn T (pointer_of v).prov
pointer-made T (Scalar (PointerValue p)) h = h
pointer-made T (Scalar (IntValue n)) h = tt
pointer-made T (Scalar Unset) h = tt
pointer-made T Nothing h = tt
pointer-made T Missing h = tt
pointer-made T (Whole bs a) h = tt

known-made : (T : Table) (v : Worth) → knows_worth T v ≡ true → IsMadeIn T (pointer_of v).prov
known-made T v e = pointer-made T v (worth_made T v e)

live-is : (o : Option Instance) → live_in o ≡ true → IsSomeAnd o (λ (x : Instance). IsTrue x.live)
live-is None e = absurd (false≢true e)
live-is (Some x) e = e

module _ {F : Type 0} {R : Mem → Mem → Type 0} (changes : Changes F R) where
  pub if-on : (c : Bool) (w : World) (d e : Done) → Onward R w d → (c ≡ false → Onward R w e) → Onward R w (if c then d else e)
  if-on true w d e h g = h
  if-on false w d e h g = g refl

  possible-on : (c : Bool) (w : World) (d : Done) → (c ≡ true → Onward R w d) → Onward R w (where_possible c w d)
  possible-on true w d h = h refl
  possible-on false w d h = record { leads = changes.itself }

  -- accesses
  permitted-on : (l : Lvalue) (p : Pointer) (rivals : List Access) (at : Reach) (w : World) (t : Told) → Onward R w (reads_permitted l p rivals at w t)
  permitted-on l p rivals at w t =
      if-on (conflicts (access_to l p false) rivals) w _ _ (record { leads = changes.itself })
      (λ e. worth-on changes w (bytes_from w.memory.bytes at.address l.size) l.shape (Some at.address) (Some p.prov) t)

  reads-at : (b : Setting) (l : Lvalue) (p : Pointer) (rivals : List Access) (at : Reach) (w : World) (t : Told) → Onward R w (reads_at b l p rivals at w t)
  reads-at b l p rivals at w t = if-on (permits b w l at false) w _ _ (permitted-on l p rivals at w t) (λ e. record { leads = changes.itself })

  reads-on : (b : Setting) (l : Lvalue) (v : Worth) (rivals : List Access) (w : World) → Onward R w (reads b l v rivals w)
  reads-on b l v rivals w = reaching-on changes (pointer_of v) l.size l.align false w (reads_at b l (pointer_of v) rivals) (λ at u t later within. reads-at b l (pointer_of v) rivals at u t)

  alone-on : (l : Lvalue) (p : Pointer) (v : Worth) (from : Option ℕ) (at : Reach) (w : World) (t : Told) → AreInLive w.memory.table at.address (length (stored_as l.number l.shape v)) → AreMade w.memory.table (stored_as l.number l.shape v)
      → Onward R w (writes_alone l p v from at w t)
  alone-on l p v from at w t h g =
      if-on (is_inexact from p.address l.size) w _ _ (record { leads = changes.itself }) (λ e. put-on changes v w at.address (stored_as l.number l.shape v) t h g)

  writes-at : (b : Setting) (l : Lvalue) (p : Pointer) (v : Worth) (from : Option ℕ) (rivals : List Access) (at : Reach) (w : World) (t : Told) → AreInLive w.memory.table at.address (length (stored_as l.number l.shape v))
      → AreMade w.memory.table (stored_as l.number l.shape v) → Onward R w (writes_at b l p v from rivals at w t)
  writes-at b l p v from rivals at w t h g =
      if-on (permits b w l at true) w _ _
      (if-on (conflicts (access_to l p true) rivals) w _ _ (record { leads = changes.itself }) (λ e. alone-on l p v from at w t h g))
      (λ e. record { leads = changes.itself })

  -- 6.5.16p3: what is stored has the bytes of its lvalue, which were reached, and its names were made before
  writes-on : (b : Setting) (l : Lvalue) (place v : Worth) (from : Option ℕ) (rivals : List Access) (w : World) → IsLvalue b l → is_stored l.shape l.size v ≡ true → knows_worth w.memory.table v ≡ true
      → Onward R w (writes b l place v from rivals w)
  writes-on b l place v from rivals w is fits known =
      let bytes = stored_as l.number l.shape v in
      unless-on changes (why_missing v) w _ (reaching-on changes (pointer_of place) l.size l.align true w (writes_at b l (pointer_of place) v from rivals) (λ at u t later within.
      writes-at b l (pointer_of place) v from rivals at u t (subst (λ n. AreInLive u.memory.table at.address n) (sym (stored-length b l v is fits)) within)
      (made-still w.memory.table u.memory.table bytes later (stored-made w.memory.table l.number l.shape v (worth_made w.memory.table v known)))))

  -- calls of the library
  replied-on : (r : Reply) (u w : World) (t : Told) → R u.memory w.memory → Onward R u (done_by_reply r w t)
  replied-on reply.Nothing u w t h = record { leads = h }
  replied-on (reply.Value v) u w t h = record { leads = h }
  replied-on (reply.Exit n) u w t h = record { leads = h }
  replied-on reply.Abort u w t h = record { leads = h }
  replied-on (reply.Placement e) u w t h = record { leads = h }

  asked-on : (w : World) (text : List ℕ) (r : Result Reply Stop) (S : Now) → R w.memory S.memory → Onward R w (done_by_call w text r S)
  asked-on w text (Ok r) S h = replied-on r w (with_memory w S.memory) _ h
  asked-on w text (Err y) S h = record { leads = h }

  asks-on : (f : Library) (args : List Arg) (w : World) → Onward R w (asks f args w)
  asks-on f args w = asked-on w (output f args w.memory) (reply_to_call f args w.memory).answer (reply_to_call f args w.memory).after (called-leads changes f args w.memory)

module _ (b : Setting) {R : Mem → Mem → Type 0} (changes : Changes (Filled b) R) where
  makes-on : (o : ℕ) (w : World) → Onward R w (makes b o w)
  makes-on o w =
      let x = object_at b.unit o in
      possible-on changes (can_make b x) w _ (λ e. object-on changes o x.lasting (request_of b x) w (made-some b x e))

  function-makes : (f : ℕ) (w : World) → Onward R w (makes_function b f w)
  function-makes f w =
      let x = function_at b.unit f in
      possible-on changes (can_place x) w _ (λ e. function-on changes f (function_request x.name (text_of b.unit.names x.name)) w (λ g. omega arith))

  literal-makes : (l : ℕ) (w : World) → Onward R w (makes_literal b l w)
  literal-makes l w =
      let bytes = (literal_at b.unit l).bytes in
      possible-on changes (nat_le 1 (length bytes)) w _ (λ e. literal-on changes l (text_of b.unit.names 0) bytes w (λ f. leb-true 1 (length bytes) e))

  ends-object : (o : ℕ) (w : World) → Onward R w (ends b o w)
  ends-object o w = possible-on changes (is_live w (instance_for b o w)) w _ (λ e. ends-on changes w (instance_for b o w) (live-is (instance_at w.memory.table.instances (instance_for b o w)) e))

  -- 6.7.9: stores into an object, where a live instance has room for them
  fills-on : (o : ℕ) (v : Option ℕ) (w : World) → Onward R w (fills b o v w)
  fills-on o v w =
      let T = w.memory.table in
      let n = size_of b (object_at b.unit o).t in
      let i = instance_for b o w in
      let bytes = replicate n (filling v) in
      possible-on changes (can_fill b o w) w _ (λ c.
      let room : AreInLive T (base_in w i + 0) n = room-in-live w i 0 n (right_of (is_size n) (has_room w i 0 n) c) in
      let here : base_in w i + 0 ≡ base_in w i = omega arith in
      put-on changes Nothing w (base_in w i) bytes no_telling
      (subst (λ k. AreInLive T (base_in w i) k) (sym (length-replicate n (filling v))) (subst (λ a. AreInLive T a n) here room)) (filling-made T n v))

  puts-on : (o offset : ℕ) (l : Lvalue) (v : Worth) (w : World) → IsLvalue b l → Onward R w (puts b o offset l v w)
  puts-on o offset l v w is =
      let T = w.memory.table in
      let i = instance_for b o w in
      possible-on changes (can_put b o offset l v w) w _ (λ c.
      let rest = right_of (is_size l.size) ((is_stored l.shape l.size v && knows_worth T v) && has_room w i offset l.size) c in
      let both = left_of (is_stored l.shape l.size v && knows_worth T v) (has_room w i offset l.size) rest in
      let room = room-in-live w i offset l.size (right_of (is_stored l.shape l.size v && knows_worth T v) (has_room w i offset l.size) rest) in
      put-on changes Nothing w (base_in w i + offset) (stored_as l.number l.shape v) no_telling
      (subst (λ n. AreInLive T (base_in w i + offset) n) (sym (stored-length b l v is (left_of (is_stored l.shape l.size v) (knows_worth T v) both))) room)
      (stored-made T l.number l.shape v (worth_made T v (right_of (is_stored l.shape l.size v) (knows_worth T v) both))))

  puts-text-on : (o offset size l : ℕ) (w : World) → Onward R w (puts_text b o offset size l w)
  puts-text-on o offset size l w =
      let T = w.memory.table in
      let i = instance_for b o w in
      let text = text_for b size l in
      possible-on changes (can_put_text b o offset size l w) w _ (λ c.
      put-on changes Nothing w (base_in w i + offset) (number_bytes None 0 text) no_telling
      (subst (λ n. AreInLive T (base_in w i + offset) n) (sym (plain-length None 0 text)) (room-in-live w i offset (length text) (right_of (is_size size) (has_room w i offset (length text)) c)))
      (plain-made T None 0 text))

  -- two operands whose names were made
  subtracts-on : (size : ℕ) (v x : Worth) (w : World) → suits b (Subtracts size v x) w ≡ true → Onward R w (works b (Subtracts size v x) w)
  subtracts-on size v x w e =
      let T = w.memory.table in
      let both = right_of (nat_le 1 size) (knows_worth T v && knows_worth T x) (right_of (is_size size) _ e) in
      unless-on changes (why_not_set v) w _ (unless-on changes (why_not_set x) w _ (between-on changes size (pointer_of v) (pointer_of x) w
      (known-made T v (left_of (knows_worth T v) (knows_worth T x) both)) (known-made T x (right_of (knows_worth T v) (knows_worth T x) both))))

  orders-on : (op : BinOp) (v x : Worth) (w : World) → suits b (Orders op v x) w ≡ true → Onward R w (works b (Orders op v x) w)
  orders-on op v x w e =
      let T = w.memory.table in
      let both = right_of _ (knows_worth T v && knows_worth T x) e in
      unless-on changes (why_not_set v) w _ (unless-on changes (why_not_set x) w _ (order-on changes op (pointer_of v) (pointer_of x) w
      (known-made T v (left_of (knows_worth T v) (knows_worth T x) both)) (known-made T x (right_of (knows_worth T v) (knows_worth T x) both))))

  works-on : (o : Op) → IsAsked b o → (w : World) → suits b o w ≡ true → Onward R w (works b o w)
  works-on (Converts how v) is w e = converts-on changes how v w
  works-on (Calculates op k v x) is w e = calculates-on changes op k v x w
  works-on (CalculatesOne op k v) is w e = calculates-one-on changes op k v w
  works-on (Tests v) is w e = tests-on changes truth_int v w
  works-on (Negates v) is w e = tests-on changes opposite v w
  works-on (Accepts v) is w e = unless-on changes (why_missing v) w _ (record { leads = changes.itself })
  works-on (Needs v) is w e = unless-on changes (why_not_set v) w _ (record { leads = changes.itself })
  works-on (Moves minus first size v x) is w e = moves-on changes minus first size v x w
  works-on (Subtracts size v x) is w e = subtracts-on size v x w e
  works-on (Orders op v x) is w e = orders-on op v x w e
  works-on (Equals negated v x) is w e = equals-on changes negated v x w
  works-on (Follows nothing v) is w e = follows-on changes nothing v w
  works-on (Selects offset v) is w e = selects-on changes offset v w
  works-on (Finds t v) is w e = finds-on changes (may_call b t) v w
  works-on (TakesPart offset l v) is w e = takes-on changes offset l.size l.shape v w
  works-on (Reads l place rivals) is w e = reads-on changes b l place rivals w
  works-on (Writes l place v from rivals) is w e =
      let T = w.memory.table in
      let rest = right_of _ (is_stored l.shape l.size v && (knows_worth T place && knows_worth T v)) e in
      writes-on changes b l place v from rivals w is (left_of (is_stored l.shape l.size v) (knows_worth T place && knows_worth T v) rest)
      (right_of (knows_worth T place) (knows_worth T v) (right_of (is_stored l.shape l.size v) (knows_worth T place && knows_worth T v) rest))
  works-on (NamesObject o) is w e = record { leads = changes.itself }
  works-on (NamesLiteral l) is w e = record { leads = changes.itself }
  works-on (NamesFunction f) is w e = record { leads = changes.itself }
  works-on (Makes o) is w e = makes-on o w
  works-on (MakesLiteral l) is w e = literal-makes l w
  works-on (MakesFunction f) is w e = function-makes f w
  works-on (Ends o) is w e = ends-object o w
  works-on (BeginsBody f l) is w e = record { leads = changes.itself }
  works-on EndsBody is w e = record { leads = changes.itself }
  works-on (Fills o v) is w e = fills-on o v w
  works-on (Puts o offset l v) is w e = puts-on o offset l v w is
  works-on (PutsText o offset size l) is w e = puts-text-on o offset size l w
  works-on (Asks f args) is w e = asks-on changes f args w

  suited-on : (c : Bool) (w : World) (d x : Done) → (c ≡ true → Onward R w d) → Onward R w x → Onward R w (if c then d else x)
  suited-on true w d x h g = h refl
  suited-on false w d x h g = g

  pub does-on : (o : Op) → IsAsked b o → (w : World) → Onward R w (does b o w)
  does-on o is w = suited-on (suits b o w) w (works b o w) _ (λ e. works-on o is w e) (record { leads = changes.itself })
