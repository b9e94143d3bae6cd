-- The operations of a run (C17 6.3, 6.5, 6.7.9) in both runs; those of the library are handed in.
use Rattle.std.proofs.Common.{◌≡◌, ℕ, ◌+◌, ◌≤◌, Bool, true, false, ◌&&◌, cond, List, [], ◌∷◌, length, Option, Some, None, refl, sym, ap, ◌∙◌, subst}
use Rattle.std.specs.Prelude.{nat_le, replicate}
use Rattle.std.proofs.lemmas.Bool.{leb-true}
use Rattle.pv_num.specs.declared.operators.BinOp.{BinOp}
use Rattle.pv_prov.specs.declared.names.Prov.{Prov}
use Rattle.pv_prov.specs.declared.names.Prov.TheVariants.{Empty, Inst, Pair}
use Rattle.pv_inst.specs.Table.{Table, IsMadeIn}
use Rattle.pv_shadow.specs.declared.byte.Byte.{Byte}
use Rattle.pv_shadow.specs.Bytes.{bytes_from}
use Rattle.pv_shadow.specs.Whole.{number_bytes}
use Rattle.pv_object.specs.declared.values.Pointer.{Pointer}
use Rattle.pv_object.specs.declared.values.Reach.{Reach}
use Rattle.pv_object.specs.declared.values.Value.{Value}
use Rattle.pv_object.specs.declared.values.Value.TheVariants.{Int as IntValue, Unset, Pointer as PointerValue}
use Rattle.pv_script.specs.Names.{name_at as text_of}
use Rattle.pv_library.specs.declared.library.Library.{Library}
use Rattle.pv_typed.specs.TypedUnits.{layouts, object_at, function_at, literal_at}
use Rattle.pv_types.specs.Layouts.{is_complete_in}
use Rattle.pv_seq.specs.Sequencing.{Access, conflicts}
use Rattle.pv_libc.specs.declared.values.Arg.{Arg}
use Rattle.pv_watch.specs.declared.event.What.{What}
use Rattle.pv_world.specs.Worlds.{Worth, Nothing, Missing, Scalar, Whole, World}
use Rattle.pv_world.specs.Worths.{truth_int, pointer_of, why_not_set, why_missing, missing_value}
use Rattle.pv_world.specs.Conversions.{opposite}
use Rattle.pv_world.specs.Telling.{Told, no_telling, telling}
use Rattle.pv_world.specs.Doing.{Done, Answers, Fails}
use Rattle.pv_world.specs.Coming.{IsMadeWorth}
use Rattle.pv_world.specs.Accesses.{is_inexact, stored_as}
use Rattle.pv_world.specs.Pointers.{is_order}
use Rattle.pv_world.specs.Objects.{put_at, base_in, function_request}
use Rattle.pv_world.specs.ObjectParts.{filling}
use Rattle.pv_eval.specs.States.{Setting}
use Rattle.pv_eval.specs.TypeForms.{Lvalue, size_of}
use Rattle.pv_eval.specs.Permission.{permits}
use Rattle.pv_eval.specs.Accesses.{access_to, reads_permitted, reads_at, reads, writes_alone, writes_at, writes}
use Rattle.pv_eval.specs.Objects.{where_possible, request_of, makes, instance_for, ends, makes_literal, makes_function, can_fill, fills, can_put, puts, can_put_text, text_for, puts_text, can_make}
use Rattle.pv_eval.specs.ObjectParts.{can_place}
use Rattle.pv_eval.specs.Callees.{may_call}
use Rattle.pv_eval.specs.Library.{asks}
use Rattle.pv_world.specs.Suiting.{is_size, is_live, has_room, knows, knows_value, knows_worth, is_small, is_stored, has_part}
use Rattle.pv_world.specs.SuitingParts.{knows_bytes}
use Rattle.pv_eval.specs.LibraryParts.{knows_arguments}
use Rattle.pv_eval.specs.Operations.{Op, Converts, Calculates, CalculatesOne, Tests, Negates, Accepts, Needs, Moves, Subtracts, Orders, Equals, Follows, Selects, Finds, TakesPart, Reads, Writes, NamesObject, NamesLiteral, NamesFunction, Makes, MakesLiteral, MakesFunction, Ends, BeginsBody, EndsBody, Fills, Puts, PutsText, Asks, suits, works, does}
use Rattle.pv_world.proofs.Guards.{left_of, right_of, worth_made}
use Rattle.pv_exec.proofs.Memory.Rows.{Leads, led-itself}
use Rattle.pv_exec.proofs.Memory.Tables.{leading}
use Rattle.pv_exec.proofs.Memory.Ways.{OfTables}
use Rattle.pv_exec.proofs.Memory.Worlds.{Onward, worth-on}
use Rattle.pv_exec.proofs.Memory.Operations.{if-on}
use Rattle.pv_exec.proofs.Settling.Sides.{on_table, on_world, nearly, length-sides}
use Rattle.pv_exec.proofs.Settling.Reaching.{Reaches}
use Rattle.pv_exec.proofs.Settling.Doings.{pairs_of, Tracks, either-tracks, gives-tracks, unless-tracks}
use Rattle.pv_exec.proofs.Settling.Worlds.{Fits, quiet-gives, tests-track, converts-track, calculates-track, calculates-one, follows-track, moves-track, selects-track, between-track, ordered-track, equals-track, worth-tracks, takes-track}
use Rattle.pv_exec.proofs.Settling.Accesses.{GoesOn, reaching-tracks, object-tracks, literal-tracks, function-tracks, ends-tracks}
use Rattle.pv_exec.proofs.Settling.Callees.{finds-track}

-- what names speak of is the same in both runs
knows-on : (ds : List Bool) (T : Table) (p : Prov) → knows (on_table ds T) p ≡ knows T p
knows-on ds T Empty = refl
knows-on ds T (Inst i) = refl
knows-on ds T (Pair k) = ap (λ n. nat_le 1 k && nat_le k n) (length-sides ds T.pairs)

value-on : (ds : List Bool) (T : Table) (v : Value) → knows_value (on_table ds T) v ≡ knows_value T v
value-on ds T (PointerValue p) = knows-on ds T p.prov
value-on ds T (IntValue n) = refl
value-on ds T Unset = refl

bytes-on : (ds : List Bool) (T : Table) (bs : List Byte) → knows_bytes (on_table ds T) bs ≡ knows_bytes T bs
bytes-on ds T [] = refl
bytes-on ds T (b ∷ bs) = ap (λ c. c && knows_bytes (on_table ds T) bs) (knows-on ds T b.prov) ∙ ap (λ c. knows T b.prov && c) (bytes-on ds T bs)

worth-on-table : (ds : List Bool) (T : Table) (v : Worth) → knows_worth (on_table ds T) v ≡ knows_worth T v
worth-on-table ds T (Scalar v) = value-on ds T v
worth-on-table ds T (Whole bs a) = bytes-on ds T bs
worth-on-table ds T Nothing = refl
worth-on-table ds T Missing = refl

arguments-on : (ds : List Bool) (T : Table) (xs : List Arg) → knows_arguments (on_table ds T) xs ≡ knows_arguments T xs
arguments-on ds T [] = refl
arguments-on ds T (x ∷ xs) = ap (λ c. c && knows_arguments (on_table ds T) xs) (value-on ds T x.value) ∙ ap (λ c. knows_value T x.value && c) (arguments-on ds T xs)

two-on : (ds : List Bool) (T : Table) (v x : Worth) → (knows_worth (on_table ds T) v && knows_worth (on_table ds T) x) ≡ (knows_worth T v && knows_worth T x)
two-on ds T v x = ap (λ c. c && knows_worth (on_table ds T) x) (worth-on-table ds T v) ∙ ap (λ c. knows_worth T v && c) (worth-on-table ds T x)

suits-on : (b : Setting) (ds : List Bool) (o : Op) (w : World) → suits b o (on_world ds w) ≡ suits b o w
suits-on b ds (Converts how v) w = ap (λ c. is_small v && c) (worth-on-table ds w.memory.table v)
suits-on b ds (Calculates op k v x) w = refl
suits-on b ds (CalculatesOne op k v) w = refl
suits-on b ds (Tests v) w = worth-on-table ds w.memory.table v
suits-on b ds (Negates v) w = worth-on-table ds w.memory.table v
suits-on b ds (Accepts v) w = refl
suits-on b ds (Needs v) w = refl
suits-on b ds (Moves minus first size v x) w = ap (λ c. is_size size && ((is_small v && is_small x) && c)) (two-on ds w.memory.table v x)
suits-on b ds (Subtracts size v x) w = ap (λ c. is_size size && (nat_le 1 size && c)) (two-on ds w.memory.table v x)
suits-on b ds (Orders op v x) w = ap (λ c. is_order op && c) (two-on ds w.memory.table v x)
suits-on b ds (Equals negated v x) w = two-on ds w.memory.table v x
suits-on b ds (Follows nothing v) w = refl
suits-on b ds (Selects offset v) w = worth-on-table ds w.memory.table v
suits-on b ds (Finds t v) w = worth-on-table ds w.memory.table v
suits-on b ds (TakesPart offset l v) w = ap (λ c. is_size l.size && (has_part v offset l.size && c)) (worth-on-table ds w.memory.table v)
suits-on b ds (Reads l place rivals) w = ap (λ c. (is_complete_in (layouts b.unit) l.t && (nat_le 1 l.size && is_size l.size)) && c) (worth-on-table ds w.memory.table place)
suits-on b ds (Writes l place v from rivals) w = ap (λ c. (is_complete_in (layouts b.unit) l.t && (nat_le 1 l.size && is_size l.size)) && (is_stored l.shape l.size v && c)) (two-on ds w.memory.table place v)
suits-on b ds (NamesObject o) w = refl
suits-on b ds (NamesLiteral l) w = refl
suits-on b ds (NamesFunction f) w = refl
suits-on b ds (Makes o) w = refl
suits-on b ds (MakesLiteral l) w = refl
suits-on b ds (MakesFunction f) w = refl
suits-on b ds (Ends o) w = refl
suits-on b ds (BeginsBody f l) w = refl
suits-on b ds EndsBody w = refl
suits-on b ds (Fills o v) w = refl
suits-on b ds (Puts o offset l v) w = refl
suits-on b ds (PutsText o offset size l) w = refl
suits-on b ds (Asks f args) w = arguments-on ds w.memory.table args

pointer-made : (T : Table) (v : Worth) → IsMadeWorth T v → IsMadeIn T (pointer_of v).prov
pointer-made T (Scalar (PointerValue p)) h = h
pointer-made T (Scalar (IntValue n)) h = tt
pointer-made T (Scalar Unset) h = tt
pointer-made T Nothing h = tt
pointer-made T Missing h = tt
pointer-made T (Whole bs a) h = tt

known-made : (T : Table) (v : Worth) → knows_worth T v ≡ true → IsMadeIn T (pointer_of v).prov
known-made T v e = pointer-made T v (worth_made T v e)

-- what was reached, but for what was tried
abbrev at_with : Reach → Reach → Reach
at_with at at' = record { inst = at.inst; offset = at.offset; address = at.address; tried = at'.tried }

same-place : (n : ℕ) (at at' : Reach) → 1 ≤ n → Reaches n at at' → at' ≡ at_with at at'
same-place n at at' some h = λ i. record { inst = (h.1 some).0 i; offset = (h.1 some).1 i; address = h.0 i; tried = at'.tried }

module _ (b : Setting) (F : Type 0) (ds : List Bool) where
  possible-tracks : (c : Bool) (w : World) (d d' : Done) → Fits F ds w → Tracks ds d d' → Tracks ds (where_possible c w d) (where_possible c (on_world ds w) d')
  possible-tracks true w d d' f h = h
  possible-tracks false w d d' f h = quiet-gives F ds Nothing w f

  -- reads
  permitted-tracks : (l : Lvalue) (p : Pointer) (rivals : List Access) (at at' : Reach) (w : World) (us us' : List What) → Fits F ds w
      → Tracks ds (reads_permitted l p rivals at w (telling us)) (reads_permitted l p rivals (at_with at at') (on_world ds w) (telling us'))
  permitted-tracks l p rivals at at' w us us' f =
      either-tracks ds (conflicts (access_to l p false) rivals) _ _ _ _ tt
      (worth-tracks F ds w (bytes_from w.memory.bytes at.address l.size) l.shape (Some at.address) (Some p.prov) (telling us) (telling us') refl refl f)

  reads-at : (l : Lvalue) (p : Pointer) (rivals : List Access) → 1 ≤ l.size → GoesOn F ds l.size (reads_at b l p rivals)
  reads-at l p rivals some at at' w us us' h f =
      subst (λ z. Tracks ds (reads_at b l p rivals at w (telling us)) (reads_at b l p rivals z (on_world ds w) (telling us'))) (sym (same-place l.size at at' some h))
      (either-tracks ds (permits b w l at false) _ _ _ _ (permitted-tracks l p rivals at at' w us us' f) tt)

  reads-onward : (l : Lvalue) (p : Pointer) (rivals : List Access) (at : Reach) (w : World) (t : Told) → Onward (OfTables (Leads F)) w (reads_at b l p rivals at w t)
  reads-onward l p rivals at w t =
      if-on (leading F) (permits b w l at false) w _ _
      (if-on (leading F) (conflicts (access_to l p false) rivals) w _ _ (record { leads = led-itself })
      (λ e. worth-on (leading F) w (bytes_from w.memory.bytes at.address l.size) l.shape (Some at.address) (Some p.prov) t))
      (λ e. record { leads = led-itself })

  reads-track : (l : Lvalue) (v : Worth) (rivals : List Access) (w : World) → 1 ≤ l.size → Fits F ds w → Tracks ds (reads b l v rivals w) (reads b l v rivals (on_world ds w))
  reads-track l v rivals w some f = reaching-tracks F ds (pointer_of v) l.size l.align false w (reads_at b l (pointer_of v) rivals) f (reads-at l (pointer_of v) rivals some) (λ at u t. reads-onward l (pointer_of v) rivals at u t)

  -- writes
  alone-tracks : (l : Lvalue) (p : Pointer) (v : Worth) (from : Option ℕ) (at at' : Reach) (w : World) (us us' : List What) → Fits F ds w
      → Tracks ds (writes_alone l p v from at w (telling us)) (writes_alone l p v from (at_with at at') (on_world ds w) (telling us'))
  alone-tracks l p v from at at' w us us' f =
      either-tracks ds (is_inexact from p.address l.size) _ _ _ _ tt
      (gives-tracks ds v (put_at w at.address (stored_as l.number l.shape v)) (telling us) (telling us') refl f.1 (nearly ds (pairs_of w) f.2))

  writes-at : (l : Lvalue) (p : Pointer) (v : Worth) (from : Option ℕ) (rivals : List Access) → 1 ≤ l.size → GoesOn F ds l.size (writes_at b l p v from rivals)
  writes-at l p v from rivals some at at' w us us' h f =
      subst (λ z. Tracks ds (writes_at b l p v from rivals at w (telling us)) (writes_at b l p v from rivals z (on_world ds w) (telling us'))) (sym (same-place l.size at at' some h))
      (either-tracks ds (permits b w l at true) _ _ _ _
      (either-tracks ds (conflicts (access_to l p true) rivals) _ _ _ _ tt (alone-tracks l p v from at at' w us us' f)) tt)

  writes-onward : (l : Lvalue) (p : Pointer) (v : Worth) (from : Option ℕ) (rivals : List Access) (at : Reach) (w : World) (t : Told) → Onward (OfTables (Leads F)) w (writes_at b l p v from rivals at w t)
  writes-onward l p v from rivals at w t =
      if-on (leading F) (permits b w l at true) w _ _
      (if-on (leading F) (conflicts (access_to l p true) rivals) w _ _ (record { leads = led-itself })
      (λ e. if-on (leading F) (is_inexact from p.address l.size) w _ _ (record { leads = led-itself }) (λ g. record { leads = led-itself })))
      (λ e. record { leads = led-itself })

  writes-track : (l : Lvalue) (place v : Worth) (from : Option ℕ) (rivals : List Access) (w : World) → 1 ≤ l.size → Fits F ds w → Tracks ds (writes b l place v from rivals w) (writes b l place v from rivals (on_world ds w))
  writes-track l place v from rivals w some f =
      unless-tracks ds (why_missing v) w _ _ f.1
      (reaching-tracks F ds (pointer_of place) l.size l.align true w (writes_at b l (pointer_of place) v from rivals) f (writes-at l (pointer_of place) v from rivals some) (λ at u t. writes-onward l (pointer_of place) v from rivals at u t))

  -- objects
  makes-track : (o : ℕ) (w : World) → Fits F ds w → Tracks ds (makes b o w) (makes b o (on_world ds w))
  makes-track o w f = possible-tracks (can_make b (object_at b.unit o)) w _ _ f (object-tracks F ds o (object_at b.unit o).lasting (request_of b (object_at b.unit o)) w f)

  literal-makes : (l : ℕ) (w : World) → Fits F ds w → Tracks ds (makes_literal b l w) (makes_literal b l (on_world ds w))
  literal-makes l w f = possible-tracks (nat_le 1 (length (literal_at b.unit l).bytes)) w _ _ f (literal-tracks F ds l (text_of b.unit.names 0) (literal_at b.unit l).bytes w f)

  function-makes : (g : ℕ) (w : World) → Fits F ds w → Tracks ds (makes_function b g w) (makes_function b g (on_world ds w))
  function-makes g w f =
      let x = function_at b.unit g in
      possible-tracks (can_place x) w _ _ f (function-tracks F ds g (function_request x.name (text_of b.unit.names x.name)) w f)

  ends-track : (o : ℕ) (w : World) → Fits F ds w → Tracks ds (ends b o w) (ends b o (on_world ds w))
  ends-track o w f = possible-tracks (is_live w (instance_for b o w)) w _ _ f (ends-tracks F ds w (instance_for b o w) f)

  stored-tracks : (w : World) (a : ℕ) (bytes : List Byte) → Fits F ds w → Tracks ds (Answers Nothing (put_at w a bytes) no_telling) (Answers Nothing (put_at (on_world ds w) a bytes) no_telling)
  stored-tracks w a bytes f = gives-tracks ds Nothing (put_at w a bytes) no_telling no_telling refl f.1 (nearly ds (pairs_of w) f.2)

  fills-track : (o : ℕ) (v : Option ℕ) (w : World) → Fits F ds w → Tracks ds (fills b o v w) (fills b o v (on_world ds w))
  fills-track o v w f = possible-tracks (can_fill b o w) w _ _ f (stored-tracks w (base_in w (instance_for b o w)) (replicate (size_of b (object_at b.unit o).t) (filling v)) f)

  can-on : (o offset : ℕ) (l : Lvalue) (v : Worth) (w : World) → can_put b o offset l v (on_world ds w) ≡ can_put b o offset l v w
  can-on o offset l v w = ap (λ c. is_size l.size && ((is_stored l.shape l.size v && c) && has_room w (instance_for b o w) offset l.size)) (worth-on-table ds w.memory.table v)

  puts-track : (o offset : ℕ) (l : Lvalue) (v : Worth) (w : World) → Fits F ds w → Tracks ds (puts b o offset l v w) (puts b o offset l v (on_world ds w))
  puts-track o offset l v w f =
      subst (λ c. Tracks ds (puts b o offset l v w) (where_possible c (on_world ds w) (Answers Nothing (put_at (on_world ds w) (base_in w (instance_for b o w) + offset) (stored_as l.number l.shape v)) no_telling))) (sym (can-on o offset l v w))
      (possible-tracks (can_put b o offset l v w) w _ _ f (stored-tracks w (base_in w (instance_for b o w) + offset) (stored_as l.number l.shape v) f))

  text-track : (o offset size l : ℕ) (w : World) → Fits F ds w → Tracks ds (puts_text b o offset size l w) (puts_text b o offset size l (on_world ds w))
  text-track o offset size l w f = possible-tracks (can_put_text b o offset size l w) w _ _ f (stored-tracks w (base_in w (instance_for b o w) + offset) (number_bytes None 0 (text_for b size l)) f)

  -- two operands whose names were made
  subtracts-track : (size : ℕ) (v x : Worth) (w : World) → suits b (Subtracts size v x) w ≡ true → Fits F ds w → Tracks ds (works b (Subtracts size v x) w) (works b (Subtracts size v x) (on_world ds w))
  subtracts-track size v x w e f =
      let T = w.memory.table in
      let both = right_of (nat_le 1 size) (knows_worth T v && knows_worth T x) (right_of (is_size size) _ e) in
      unless-tracks ds (why_not_set v) w _ _ f.1 (unless-tracks ds (why_not_set x) w _ _ f.1 (between-track F ds size (pointer_of v) (pointer_of x) w
      (known-made T v (left_of (knows_worth T v) (knows_worth T x) both)) (known-made T x (right_of (knows_worth T v) (knows_worth T x) both)) f))

  orders-track : (op : BinOp) (v x : Worth) (w : World) → suits b (Orders op v x) w ≡ true → Fits F ds w → Tracks ds (works b (Orders op v x) w) (works b (Orders op v x) (on_world ds w))
  orders-track op v x w e f =
      let T = w.memory.table in
      let both = right_of (is_order op) (knows_worth T v && knows_worth T x) e in
      unless-tracks ds (why_not_set v) w _ _ f.1 (unless-tracks ds (why_not_set x) w _ _ f.1 (ordered-track F ds op (pointer_of v) (pointer_of x) w
      (known-made T v (left_of (knows_worth T v) (knows_worth T x) both)) (known-made T x (right_of (knows_worth T v) (knows_worth T x) both)) f))

  -- a size of one byte at least
  some-read : (l : Lvalue) (c d e : Bool) → ((c && (nat_le 1 l.size && d)) && e) ≡ true → 1 ≤ l.size
  some-read l c d e h = leb-true 1 l.size (left_of (nat_le 1 l.size) d (right_of c (nat_le 1 l.size && d) (left_of (c && (nat_le 1 l.size && d)) e h)))

  abbrev pub AsksTrack : Type 0
  AsksTrack = (f : Library) (args : List Arg) (w : World) → Fits F ds w → Tracks ds (asks f args w) (asks f args (on_world ds w))

  module _ (full : F) (library : AsksTrack) where
    works-track : (o : Op) (w : World) → suits b o w ≡ true → Fits F ds w → Tracks ds (works b o w) (works b o (on_world ds w))
    works-track (Converts how v) w e f = converts-track F ds how v w f
    works-track (Calculates op k v x) w e f = calculates-track F ds op k v x w f
    works-track (CalculatesOne op k v) w e f = calculates-one F ds op k v w f
    works-track (Tests v) w e f = tests-track F ds truth_int v w f
    works-track (Negates v) w e f = tests-track F ds opposite v w f
    works-track (Accepts v) w e f = unless-tracks ds (why_missing v) w _ _ f.1 (quiet-gives F ds v w f)
    works-track (Needs v) w e f = unless-tracks ds (why_not_set v) w _ _ f.1 (quiet-gives F ds v w f)
    works-track (Moves minus first size v x) w e f = moves-track F ds minus first size v x w f
    works-track (Subtracts size v x) w e f = subtracts-track size v x w e f
    works-track (Orders op v x) w e f = orders-track op v x w e f
    works-track (Equals negated v x) w e f = equals-track F ds negated v x w f
    works-track (Follows nothing v) w e f = follows-track F ds nothing v w f
    works-track (Selects offset v) w e f = selects-track F ds offset v w f
    works-track (Finds t v) w e f = finds-track F full ds (may_call b t) v w f
    works-track (TakesPart offset l v) w e f = takes-track F ds offset l.size l.shape v w f
    works-track (Reads l place rivals) w e f = reads-track l place rivals w (some-read l _ _ _ e) f
    works-track (Writes l place v from rivals) w e f = writes-track l place v from rivals w (some-read l _ _ _ e) f
    works-track (NamesObject o) w e f = quiet-gives F ds _ w f
    works-track (NamesLiteral l) w e f = quiet-gives F ds _ w f
    works-track (NamesFunction g) w e f = quiet-gives F ds _ w f
    works-track (Makes o) w e f = makes-track o w f
    works-track (MakesLiteral l) w e f = literal-makes l w f
    works-track (MakesFunction g) w e f = function-makes g w f
    works-track (Ends o) w e f = ends-track o w f
    works-track (BeginsBody g l) w e f = gives-tracks ds Nothing _ no_telling no_telling refl f.1 (nearly ds (pairs_of w) f.2)
    works-track EndsBody w e f = gives-tracks ds Nothing _ no_telling no_telling refl f.1 (nearly ds (pairs_of w) f.2)
    works-track (Fills o v) w e f = fills-track o v w f
    works-track (Puts o offset l v) w e f = puts-track o offset l v w f
    works-track (PutsText o offset size l) w e f = text-track o offset size l w f
    works-track (Asks g args) w e f = library g args w f

    suited-tracks : (c : Bool) (w : World) (d d' x x' : Done) → (c ≡ true → Tracks ds d d') → Tracks ds x x' → Tracks ds (cond c d x) (cond c d' x')
    suited-tracks true w d d' x x' h g = h refl
    suited-tracks false w d d' x x' h g = g

    pub does-tracks : (o : Op) (w : World) → Fits F ds w → Tracks ds (does b o w) (does b o (on_world ds w))
    does-tracks o w f =
        subst (λ c. Tracks ds (does b o w) (cond c (works b o (on_world ds w)) (Fails missing_value None (on_world ds w) no_telling))) (sym (suits-on b ds o w))
        (suited-tracks (suits b o w) w (works b o w) (works b o (on_world ds w)) (Fails missing_value None w no_telling) (Fails missing_value None (on_world ds w) no_telling) (λ e. works-track o w e f) tt)
