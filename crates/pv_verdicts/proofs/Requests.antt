-- How each operation of a run may end it: by no request that is denied (C17 6.2.4, 6.3, 6.5, 6.7.9, 7).
use Rattle.std.proofs.Common.{◌≡◌, ℕ, Bool, true, false, ◌&&◌, not, eqb, List, [], length, Option, Some, Result, Ok, Err, refl, subst}
use Rattle.std.specs.Prelude.{nat_le, if◌then◌else◌}
use Rattle.pv_library.specs.declared.library.Library.{Library}
use Rattle.pv_script.specs.Lines.{ScriptLine}
use Rattle.pv_script.specs.Names.{name_at as text_of}
use Rattle.pv_object.specs.declared.values.Pointer.{Pointer}
use Rattle.pv_object.specs.declared.values.Reach.{Reach}
use Rattle.pv_object.specs.declared.values.Stop.{Stop}
use Rattle.pv_shadow.specs.Bytes.{bytes_from}
use Rattle.pv_typed.specs.Mains.{heap_text}
use Rattle.pv_typed.specs.TypedUnits.{TypedObject, TypedFunction, object_at, function_at, literal_at}
use Rattle.pv_seq.specs.Sequencing.{Access, conflicts}
use Rattle.pv_libc.specs.declared.values.Arg.{Arg}
use Rattle.pv_libc.specs.declared.values.Reply.{Reply}
use Rattle.pv_libc.specs.declared.values.Reply.TheVariants as reply
use Rattle.pv_libc.specs.Steps.{Now}
use Rattle.pv_libc.specs.Calls.{reply_to_call, output}
use Rattle.pv_world.specs.Worlds.{Worth, World}
use Rattle.pv_world.specs.Worths.{truth_int, pointer_of}
use Rattle.pv_world.specs.Conversions.{opposite}
use Rattle.pv_world.specs.Telling.{Told}
use Rattle.pv_world.specs.Doing.{Done}
use Rattle.pv_world.specs.Accesses.{is_inexact}
use Rattle.pv_world.specs.ObjectParts.{literal_request}
use Rattle.pv_world.specs.Objects.{function_request}
use Rattle.pv_eval.specs.States.{Setting}
use Rattle.pv_eval.specs.TypeForms.{Lvalue}
use Rattle.pv_eval.specs.Permission.{permits}
use Rattle.pv_eval.specs.Accesses.{access_to, reads_permitted, reads_at, reads, writes_alone, writes_at, writes}
use Rattle.pv_eval.specs.Objects.{where_possible, has_extent, heap_name, request_of, makes, instance_for, makes_literal, makes_function, can_fill, can_put, can_put_text, can_make}
use Rattle.pv_eval.specs.ObjectParts.{can_place}
use Rattle.pv_eval.specs.Callees.{may_call}
use Rattle.pv_eval.specs.Library.{done_by_reply, with_memory, done_by_call, asks}
use Rattle.pv_world.specs.Suiting.{is_live}
use Rattle.pv_eval.specs.Operations.{Op, Converts, Calculates, CalculatesOne, Tests, Negates, Accepts, Needs, Moves, Subtracts, Orders, Equals, Follows, Selects, Finds, TakesPart, Reads, Writes, NamesObject, NamesLiteral, NamesFunction, MakesFunction, Makes, MakesLiteral, Ends, BeginsBody, EndsBody, Fills, Puts, PutsText, Asks, suits, works, does}
use Rattle.pv_verdicts.specs.Own.{OwnNames, DeniesHeap}
use Rattle.pv_verdicts.proofs.Refusals.{FineReplied, stop-fine, created-fine, called-fine}
use Rattle.pv_verdicts.proofs.Granted.{Granted, plain-on, present-on, tests-on, converts-on, calculates-on, calculates-one-on, follows-on, moves-on, selects-on, between-on, order-on, equals-on, reaching-on, worth-on, takes-on, object-on, function-on, finds-on, literal-on}

right_of : (a b : Bool) → (a && b) ≡ true → b ≡ true
right_of true b e = e
right_of false b e = absurd cc

if-on : (c : Bool) (w : World) (d e : Done) → Granted d → (c ≡ false → Granted e) → Granted (if c then d else e)
if-on true w d e h g = h
if-on false w d e h g = g refl

possible-on : (c : Bool) (w : World) (d : Done) → (c ≡ true → Granted d) → Granted (where_possible c w d)
possible-on true w d h = h refl
possible-on false w d h = record { fine = tt }

-- accesses
permitted-on : (l : Lvalue) (p : Pointer) (rivals : List Access) (at : Reach) (w : World) (t : Told) → Granted (reads_permitted l p rivals at w t)
permitted-on l p rivals at w t =
    if-on (conflicts (access_to l p false) rivals) w _ _ (record { fine = tt })
    (λ e. worth-on w (bytes_from w.memory.bytes at.address l.size) l.shape (Some at.address) (Some p.prov) t)

reads-at : (b : Setting) (l : Lvalue) (p : Pointer) (rivals : List Access) (at : Reach) (w : World) (t : Told) → Granted (reads_at b l p rivals at w t)
reads-at b l p rivals at w t = if-on (permits b w l at false) w _ _ (permitted-on l p rivals at w t) (λ e. record { fine = tt })

reads-on : (b : Setting) (l : Lvalue) (v : Worth) (rivals : List Access) (w : World) → Granted (reads b l v rivals w)
reads-on b l v rivals w = reaching-on (pointer_of v) l.size l.align false w (reads_at b l (pointer_of v) rivals) (λ at u t. reads-at b l (pointer_of v) rivals at u t)

alone-on : (l : Lvalue) (p : Pointer) (v : Worth) (from : Option ℕ) (at : Reach) (w : World) (t : Told) → Granted (writes_alone l p v from at w t)
alone-on l p v from at w t = if-on (is_inexact from p.address l.size) w _ _ (record { fine = tt }) (λ e. record { fine = tt })

writes-at : (b : Setting) (l : Lvalue) (p : Pointer) (v : Worth) (from : Option ℕ) (rivals : List Access) (at : Reach) (w : World) (t : Told) → Granted (writes_at b l p v from rivals at w t)
writes-at b l p v from rivals at w t =
    if-on (permits b w l at true) w _ _
    (if-on (conflicts (access_to l p true) rivals) w _ _ (record { fine = tt }) (λ e. alone-on l p v from at w t))
    (λ e. record { fine = tt })

writes-on : (b : Setting) (l : Lvalue) (place v : Worth) (from : Option ℕ) (rivals : List Access) (w : World) → Granted (writes b l place v from rivals w)
writes-on b l place v from rivals w =
    present-on v w _ (reaching-on (pointer_of place) l.size l.align true w (writes_at b l (pointer_of place) v from rivals) (λ at u t. writes-at b l (pointer_of place) v from rivals at u t))

-- ---- calls of the library

replied-on : (r : Reply) (w : World) (t : Told) → FineReplied (Ok r) → Granted (done_by_reply r w t)
replied-on reply.Nothing w t f = record { fine = tt }
replied-on (reply.Value v) w t f = record { fine = tt }
replied-on (reply.Exit n) w t f = record { fine = tt }
replied-on reply.Abort w t f = record { fine = tt }
replied-on (reply.Placement e) w t f = record { fine = f }

asked-on : (w : World) (text : List ℕ) (r : Result Reply Stop) (S : Now) → FineReplied r → Granted (done_by_call w text r S)
asked-on w text (Ok r) S f = replied-on r (with_memory w S.memory) _ f
asked-on w text (Err y) S f = record { fine = stop-fine y }

asks-on : (f : Library) (args : List Arg) (w : World) → Granted (asks f args w)
asks-on f args w =
    asked-on w (output f args w.memory) (reply_to_call f args w.memory).answer (reply_to_call f args w.memory).after (called-fine f args (record { memory = w.memory; notes = [] }))

-- ---- objects and literals

-- a unit that has one name of allocations, and a script that denies no other request
module _ (b : Setting) (own : OwnNames b.unit.names) (lines : List ScriptLine) (denies : DeniesHeap lines) where
  named-other : (x : TypedObject) → can_make b x ≡ true → text_of b.unit.names x.name ≡ heap_text → ⊥
  named-other x e same =
      let free : not (eqb x.name 1) ≡ true = right_of (has_extent b x.t) (not (eqb x.name heap_name)) e in
      let no : not (eqb 1 1) ≡ true = subst (λ n. not (eqb n 1) ≡ true) (own x.name same) free in
      absurd cc

  function-other : (x : TypedFunction) → can_place x ≡ true → text_of b.unit.names x.name ≡ heap_text → ⊥
  function-other x free same =
      let no : not (eqb 1 1) ≡ true = subst (λ n. not (eqb n 1) ≡ true) (own x.name same) free in
      absurd cc

  literal-other : text_of b.unit.names 0 ≡ heap_text → ⊥
  literal-other same = let e : ◌≡◌ {A = ℕ} 0 1 = own 0 same in absurd cc

  makes-on : (o : ℕ) (w : World) → w.memory.table.script ≡ lines → Granted (makes b o w)
  makes-on o w s =
      let x = object_at b.unit o in
      possible-on (can_make b x) w _ (λ e. object-on o x.lasting (request_of b x) w (created-fine lines w.memory (request_of b x) denies s refl (named-other x e)))

  literal-makes : (l : ℕ) (w : World) → w.memory.table.script ≡ lines → Granted (makes_literal b l w)
  literal-makes l w s =
      let bytes = (literal_at b.unit l).bytes in
      let text = text_of b.unit.names 0 in
      possible-on (nat_le 1 (length bytes)) w _ (λ e. literal-on l text bytes w (created-fine lines w.memory (literal_request text bytes) denies s refl literal-other))

  function-makes : (f : ℕ) (w : World) → w.memory.table.script ≡ lines → Granted (makes_function b f w)
  function-makes f w s =
      let x = function_at b.unit f in
      let r = function_request x.name (text_of b.unit.names x.name) in
      possible-on (can_place x) w _ (λ e. function-on f r w (created-fine lines w.memory r denies s refl (function-other x e)))

  works-on : (o : Op) (w : World) → w.memory.table.script ≡ lines → Granted (works b o w)
  works-on (Converts how v) w s = converts-on how v w
  works-on (Calculates op k v x) w s = calculates-on op k v x w
  works-on (CalculatesOne op k v) w s = calculates-one-on op k v w
  works-on (Tests v) w s = tests-on truth_int v w
  works-on (Negates v) w s = tests-on opposite v w
  works-on (Accepts v) w s = present-on v w _ (record { fine = tt })
  works-on (Needs v) w s = plain-on v w _ (record { fine = tt })
  works-on (Moves minus first size v x) w s = moves-on minus first size v x w
  works-on (Subtracts size v x) w s = plain-on v w _ (plain-on x w _ (between-on size (pointer_of v) (pointer_of x) w))
  works-on (Orders op v x) w s = plain-on v w _ (plain-on x w _ (order-on op (pointer_of v) (pointer_of x) w))
  works-on (Equals negated v x) w s = equals-on negated v x w
  works-on (Follows nothing v) w s = follows-on nothing v w
  works-on (Selects offset v) w s = selects-on offset v w
  works-on (Finds t v) w s = finds-on (may_call b t) v w
  works-on (TakesPart offset l v) w s = takes-on offset l.size l.shape v w
  works-on (Reads l place rivals) w s = reads-on b l place rivals w
  works-on (Writes l place v from rivals) w s = writes-on b l place v from rivals w
  works-on (NamesObject o) w s = record { fine = tt }
  works-on (NamesLiteral l) w s = record { fine = tt }
  works-on (NamesFunction f) w s = record { fine = tt }
  works-on (MakesFunction f) w s = function-makes f w s
  works-on (Makes o) w s = makes-on o w s
  works-on (MakesLiteral l) w s = literal-makes l w s
  works-on (Ends o) w s = possible-on (is_live w (instance_for b o w)) w _ (λ e. record { fine = tt })
  works-on (BeginsBody f l) w s = record { fine = tt }
  works-on EndsBody w s = record { fine = tt }
  works-on (Fills o v) w s = possible-on (can_fill b o w) w _ (λ c. record { fine = tt })
  works-on (Puts o offset l v) w s = possible-on (can_put b o offset l v w) w _ (λ c. record { fine = tt })
  works-on (PutsText o offset size l) w s = possible-on (can_put_text b o offset size l w) w _ (λ c. record { fine = tt })
  works-on (Asks f args) w s = asks-on f args w

  pub does-granted : (o : Op) (w : World) → w.memory.table.script ≡ lines → Granted (does b o w)
  does-granted o w s = if-on (suits b o w) w (works b o w) _ (works-on o w s) (λ e. record { fine = tt })
