-- What is done to an object that lives can be done: its guard makes no difference (C17 6.2.4, 6.4.5p6, 6.7.9, 6.9.1p10).
use Rattle.std.proofs.Common.{◌≡◌, ◌≢◌, ℕ, zero, suc, ◌+◌, ◌≤◌, ◌^◌, Bool, true, false, ◌&&◌, not, List, [], ◌∷◌, length, take, Option, Some, None, refl, sym, ap, subst, arith}
use Rattle.std.specs.Prelude.{nat_le, ◌==◌}
use Rattle.std.proofs.lemmas.Bool.{le-leb}
use Rattle.std.proofs.lemmas.Bool.Decides.{nat_tests}
use Rattle.pv_types.specs.Ty.{Ty}
use Rattle.pv_types.specs.Layouts.{is_complete_in}
use Rattle.pv_types.specs.Sorts.{bare_type}
use Rattle.pv_inst.specs.declared.values.Instance.{Instance}
use Rattle.pv_inst.specs.Table.{instance_at}
use Rattle.pv_typed.specs.TypedUnits.{layouts, object_at, function_at, literal_at}
use Rattle.pv_world.specs.Worlds.{Worth, World}
use Rattle.pv_world.specs.Doing.{Done}
use Rattle.pv_eval.specs.States.{Setting}
use Rattle.pv_eval.specs.TypeForms.{lvalue, shape_of, size_of}
use Rattle.pv_world.specs.Suiting.{is_size, is_stored, knows_worth, is_live, has_room, live_in}
use Rattle.pv_world.specs.SuitingParts.{room_in}
use Rattle.pv_eval.specs.Objects.{where_possible, heap_name, has_extent, can_fill, can_put, can_put_text, text_for, instance_for, can_make}
use Rattle.pv_eval.specs.ObjectParts.{can_place}
use Rattle.pv_eval.specs.Operations.{Makes, MakesLiteral, MakesFunction, Ends, Fills, Puts, PutsText, does}
use Rattle.pv_guards.specs.Worths.{IsThere}
use Rattle.pv_guards.specs.Typed.{IsValueType}
use Rattle.pv_guards.specs.Soundness.{Value, IsHomeIn, IsHome}
use Rattle.pv_guards.specs.TypedStatements.{IsMakeable}
use Rattle.pv_guards.specs.Plain.{plain_doing}
use Rattle.pv_guards.proofs.Numbers.{both}
use Rattle.pv_guards.proofs.Values.{stored-of}
use Rattle.pv_guards.proofs.Suits.{fair-known}

-- what can be done is done
possible-same : (c : Bool) (w : World) (d : Done) → c ≡ true → where_possible c w d ≡ d
possible-same true w d e = refl
possible-same false w d e = absurd cc

name-differs : (n : ℕ) → n ≢ heap_name → (n == heap_name) ≡ false
name-differs n h = grind (arith, nat_tests)

take-short : (n : ℕ) (xs : List ℕ) → length (take n xs) ≤ n
take-short zero xs = omega arith
take-short (suc n) [] = omega arith
take-short (suc n) (x ∷ xs) = let l = take-short n xs in omega (arith, l)

-- an instance that lives, and its room
live-of : (o : Option Instance) (n : ℕ) → IsHomeIn o n → live_in o ≡ true
live-of None n h = absurd h
live-of (Some x) n h = h.0

room-of : (o : Option Instance) (n offset k : ℕ) → offset + k ≤ n → IsHomeIn o n → room_in o offset k ≡ true
room-of None n offset k l h = absurd h
room-of (Some x) n offset k l h = both x.live (nat_le (offset + k) x.size) h.0 (le-leb (offset + k) x.size (subst (λ m. offset + k ≤ m) (sym h.2) l))

module _ (b : Setting) (w : World) (o : ℕ) where
  -- 6.2.4p2: an object that can be made is made
  pub makes-same : (lasting : Bool) → IsMakeable b.unit lasting o → does b (Makes o) w ≡ plain_doing b (Makes o) w
  makes-same lasting h =
      let x = object_at b.unit o in
      possible-same (can_make b x) w (plain_doing b (Makes o) w)
      (both (has_extent b x.t) (not (x.name == heap_name))
      (both (is_complete_in (layouts b.unit) x.t) (is_size (size_of b x.t)) h.complete (le-leb (size_of b x.t) (2 ^ 32) h.small)) (ap not (name-differs x.name h.named)))

  -- an object that lives
  module _ (home : IsHome w.memory.table (instance_for b o w) (size_of b (object_at b.unit o).t)) where
    abbrev there : Option Instance
    there = instance_at w.memory.table.instances (instance_for b o w)

    abbrev size : ℕ
    size = size_of b (object_at b.unit o).t

    pub ends-same : does b (Ends o) w ≡ plain_doing b (Ends o) w
    ends-same = possible-same (is_live w (instance_for b o w)) w (plain_doing b (Ends o) w) (live-of there size home)

    pub fills-same : (v : Option ℕ) → size ≤ 2 ^ 32 → does b (Fills o v) w ≡ plain_doing b (Fills o v) w
    fills-same v small =
        possible-same (can_fill b o w) w (plain_doing b (Fills o v) w) (both (is_size size) (has_room w (instance_for b o w) 0 size) (le-leb size (2 ^ 32) small) (room-of there size 0 size (omega arith) home))

    pub puts-same : (offset : ℕ) (t : Ty) (v : Worth) → size ≤ 2 ^ 32 → offset + size_of b t ≤ size → IsValueType (bare_type t) → Value b w (bare_type t) v → IsThere v
        → does b (Puts o offset (lvalue b t) v) w ≡ plain_doing b (Puts o offset (lvalue b t) v) w
    puts-same offset t v small lies valued h there-is =
        let n = size_of b t in
        possible-same (can_put b o offset (lvalue b t) v w) w (plain_doing b (Puts o offset (lvalue b t) v) w)
        (both (is_size n) ((is_stored (shape_of t) n v && knows_worth w.memory.table v) && has_room w (instance_for b o w) offset n) (le-leb n (2 ^ 32) (omega (arith, small, lies)))
        (both (is_stored (shape_of t) n v && knows_worth w.memory.table v) (has_room w (instance_for b o w) offset n)
        (both (is_stored (shape_of t) n v) (knows_worth w.memory.table v) (stored-of (layouts b.unit) t v valued h.0 there-is) (fair-known w v h.1))
        (room-of there size offset n lies home)))

    pub text-same : (offset n l : ℕ) → size ≤ 2 ^ 32 → offset + n ≤ size → does b (PutsText o offset n l) w ≡ plain_doing b (PutsText o offset n l) w
    text-same offset n l small lies =
        let bytes = (literal_at b.unit l).bytes in
        let short = take-short n bytes in
        possible-same (can_put_text b o offset n l w) w (plain_doing b (PutsText o offset n l) w)
        (both (is_size n) (has_room w (instance_for b o w) offset (length (text_for b n l))) (le-leb n (2 ^ 32) (omega (arith, small, lies)))
        (room-of there size offset (length (take n bytes)) (omega (arith, short, lies)) home))

-- 6.4.5p6, 6.3.2.1p4: literals, and functions that are pointed to
pub literal-same : (b : Setting) (w : World) (l : ℕ) → 1 ≤ length (literal_at b.unit l).bytes → does b (MakesLiteral l) w ≡ plain_doing b (MakesLiteral l) w
literal-same b w l h = possible-same (nat_le 1 (length (literal_at b.unit l).bytes)) w (plain_doing b (MakesLiteral l) w) (le-leb 1 (length (literal_at b.unit l).bytes) h)

pub function-same : (b : Setting) (w : World) (f : ℕ) → (function_at b.unit f).name ≢ heap_name → does b (MakesFunction f) w ≡ plain_doing b (MakesFunction f) w
function-same b w f h = possible-same (can_place (function_at b.unit f)) w (plain_doing b (MakesFunction f) w) (ap not (name-differs (function_at b.unit f).name h))
