-- Objects and literals of a unit (C17 6.2.4, 6.4.5, 6.7.9), whose types have other numbers: what is done with them is alike.
use Rattle.std.proofs.Common.{◌≡◌, ℕ, Bool, ◌&&◌, List, Option, None, length, nat_le, if◌then◌else◌, refl}
use Rattle.pv_script.specs.Names.{name_at as text_of}
use Rattle.pv_types.specs.Known.{Known}
use Rattle.pv_typed.specs.TypedUnits.{TypedObject, TypedFunction, object_at, function_at, literal_at}
use Rattle.pv_shadow.specs.Bytes.{Store}
use Rattle.pv_shadow.specs.Whole.{number_bytes}
use Rattle.pv_world.specs.Worlds.{Worth, Nothing, World}
use Rattle.pv_world.specs.Telling.{no_telling}
use Rattle.pv_world.specs.Doing.{Done, Answers}
use Rattle.pv_world.specs.Accesses.{stored_as}
use Rattle.pv_world.specs.ObjectParts.{with_bytes, names_literal, names_function, begins_body, ends_body}
use Rattle.pv_world.specs.Objects.{function_request}
use Rattle.pv_eval.specs.States.{Setting}
use Rattle.pv_eval.specs.TypeForms.{Lvalue, size_of}
use Rattle.pv_world.specs.Suiting.{is_size, is_live, has_room}
use Rattle.pv_eval.specs.Objects.{request_of, makes, instance_for, ends, makes_literal, makes_function, can_fill, fills, can_put, puts, text_for, can_put_text, puts_text, can_make}
use Rattle.pv_eval.specs.ObjectParts.{names_object, can_place}
use Rattle.pv_numbering.proofs.Alike.{with_types, AlikeWorth, AlikeLvalue}
use Rattle.pv_numbering.proofs.Bytes.{alike_plain}
use Rattle.pv_numbering.proofs.Doing.{AlikeDone, at_one, Alikes, alike_world, does_nothing, either_alike}
use Rattle.pv_numbering.proofs.Reaching.{stored-alike}
use Rattle.pv_numbering.proofs.Objects.{makes_object-alike, makes_literal-alike as literals-alike, makes_function-alike as functions-alike, ends_object-alike, puts_bytes-alike, fills_object-alike}
use Rattle.pv_numbering.proofs.Suiting.{knows-same, is_stored-same}

module _ (b : Setting) (m' : Known) where
  -- both are done where they can be
  possible-alike : (c c' : Bool) (w : World) (z : Store) (d d' : Done) → c' ≡ c → Alikes b.types m' w z → AlikeDone b.types m' d d'
      → AlikeDone b.types m' (if c then d else Answers Nothing w no_telling) (if c' then d' else Answers Nothing (with_bytes w z) no_telling)
  possible-alike c c' w z d d' e h g =
      at_one (λ x. AlikeDone b.types m' (if c then d else Answers Nothing w no_telling) (if x then d' else Answers Nothing (with_bytes w z) no_telling)) c c' e
      (either_alike b.types m' c d d' _ _ g (does_nothing b.types m' w z no_telling h))

  pub names_object-alike : (o : ℕ) (w : World) (z : Store) → Alikes b.types m' w z → AlikeDone b.types m' (names_object b o w) (names_object (with_types b m') o (with_bytes w z))
  names_object-alike o w z h = (refl, alike_world b.types m' w z h, refl)

  pub names_literal-alike : (l : ℕ) (w : World) (z : Store) → Alikes b.types m' w z → AlikeDone b.types m' (names_literal l w) (names_literal l (with_bytes w z))
  names_literal-alike l w z h = (refl, alike_world b.types m' w z h, refl)

  pub names_function-alike : (f : ℕ) (w : World) (z : Store) → Alikes b.types m' w z → AlikeDone b.types m' (names_function f w) (names_function f (with_bytes w z))
  names_function-alike f w z h = (refl, alike_world b.types m' w z h, refl)

  pub begins_body-alike : (f line : ℕ) (w : World) (z : Store) → Alikes b.types m' w z → AlikeDone b.types m' (begins_body f line w) (begins_body f line (with_bytes w z))
  begins_body-alike f line w z h = (tt, record { bytes = z; is = refl; alike = h }, refl)

  pub ends_body-alike : (w : World) (z : Store) → Alikes b.types m' w z → AlikeDone b.types m' (ends_body w) (ends_body (with_bytes w z))
  ends_body-alike w z h = (tt, record { bytes = z; is = refl; alike = h }, refl)

  -- 6.2.4p2
  pub makes-alike : (o : ℕ) (w : World) (z : Store) → Alikes b.types m' w z → AlikeDone b.types m' (makes b o w) (makes (with_types b m') o (with_bytes w z))
  makes-alike o w z h =
      let x : TypedObject = object_at b.unit o in
      possible-alike (can_make b x) (can_make b x) w z _ _ refl h (makes_object-alike b.types m' o x.lasting (request_of b x) w z h)

  pub ends-alike : (o : ℕ) (w : World) (z : Store) → Alikes b.types m' w z → AlikeDone b.types m' (ends b o w) (ends (with_types b m') o (with_bytes w z))
  ends-alike o w z h =
      let c : Bool = is_live w (instance_for b o w) in
      possible-alike c c w z _ _ refl h (ends_object-alike b.types m' o (object_at b.unit o).lasting w z h)

  -- 6.4.5p6
  pub makes_literal-alike : (l : ℕ) (w : World) (z : Store) → Alikes b.types m' w z → AlikeDone b.types m' (makes_literal b l w) (makes_literal (with_types b m') l (with_bytes w z))
  makes_literal-alike l w z h =
      let bytes : List ℕ = (literal_at b.unit l).bytes in
      possible-alike (nat_le 1 (length bytes)) (nat_le 1 (length bytes)) w z _ _ refl h (literals-alike b.types m' l (text_of b.unit.names 0) bytes w z h)

  -- 6.3.2.1p4
  pub makes_function-alike : (f : ℕ) (w : World) (z : Store) → Alikes b.types m' w z → AlikeDone b.types m' (makes_function b f w) (makes_function (with_types b m') f (with_bytes w z))
  makes_function-alike f w z h =
      let x : TypedFunction = function_at b.unit f in
      possible-alike (can_place x) (can_place x) w z _ _ refl h (functions-alike b.types m' f (function_request x.name (text_of b.unit.names x.name)) w z h)

  -- 6.7.9p10
  pub fills-alike : (o : ℕ) (v : Option ℕ) (w : World) (z : Store) → Alikes b.types m' w z → AlikeDone b.types m' (fills b o v w) (fills (with_types b m') o v (with_bytes w z))
  fills-alike o v w z h =
      let x : TypedObject = object_at b.unit o in
      possible-alike (can_fill b o w) (can_fill b o w) w z _ _ refl h (fills_object-alike b.types m' o x.lasting (size_of b x.t) v w z h)

  -- 6.7.9p11, 6.9.1p10
  can_put-same : (o offset : ℕ) (l : Lvalue) (k : ℕ) (v v' : Worth) → AlikeWorth b.types m' v v' → (w : World) (z : Store)
      → can_put (with_types b m') o offset (record l { number = k }) v' (with_bytes w z) ≡ can_put b o offset l v w
  can_put-same o offset l k v v' g w z = λ i.
      is_size l.size
      && ((is_stored-same b.types m' l.shape l.size v v' g i && knows-same b.types m' w.memory.table v v' g i) && has_room w (instance_for b o w) offset l.size)

  pub puts-alike : (o offset : ℕ) (l l' : Lvalue) (v v' : Worth) → AlikeLvalue b.types m' l l' → AlikeWorth b.types m' v v' → (w : World) (z : Store) → Alikes b.types m' w z
      → AlikeDone b.types m' (puts b o offset l v w) (puts (with_types b m') o offset l' v' (with_bytes w z))
  puts-alike o offset l l' v v' e g w z h =
      at_one (λ x. AlikeDone b.types m' (puts b o offset l v w) (puts (with_types b m') o offset x v' (with_bytes w z))) (record l { number = e.number }) l' e.is
      (possible-alike (can_put b o offset l v w) (can_put (with_types b m') o offset (record l { number = e.number }) v' (with_bytes w z)) w z _ _ (can_put-same o offset l e.number v v' g w z) h
      (puts_bytes-alike b.types m' o (object_at b.unit o).lasting offset (stored_as l.number l.shape v) (stored_as e.number l.shape v')
      (stored-alike b.types m' l.shape l.number e.number v v' e.marks g) w z h))

  -- 6.7.9p14
  pub puts_text-alike : (o offset size l : ℕ) (w : World) (z : Store) → Alikes b.types m' w z
      → AlikeDone b.types m' (puts_text b o offset size l w) (puts_text (with_types b m') o offset size l (with_bytes w z))
  puts_text-alike o offset size l w z h =
      let text : List ℕ = text_for b size l in
      possible-alike (can_put_text b o offset size l w) (can_put_text b o offset size l w) w z _ _ refl h
      (puts_bytes-alike b.types m' o (object_at b.unit o).lasting offset (number_bytes None 0 text) (number_bytes None 0 text) (alike_plain b.types m' None None 0 text tt) w z h)
