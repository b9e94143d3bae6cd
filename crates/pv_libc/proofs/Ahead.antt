-- Characters that are plain: what reading one does, which is nothing, and the turns of the loops that read many.
use Rattle.std.proofs.Common.{◌≡◌, ℕ, suc, ◌+◌, ◌++◌, ◌-◌, ◌*◌, ◌/◌, ◌%◌, ◌<◌, ◌≤◌, ◌^◌, Bool, true, false, List, [], ◌∷◌, map, refl, sym, ap, ◌∙◌, arith, subst, Some, None, IsSomeAnd, unwrap_or}
use Rattle.std.specs.Prelude.{ℤ, pos, min, ◌||◌, ◌&&◌, ◌==◌, nat_le, Option, Result, Ok, Err, if◌then◌else◌, unsigned_abs}
use Rattle.std.specs.FinMap.{get}
use Rattle.std.specs.Option.{option_map, option_and_then}
use Rattle.std.proofs.Math.Nat.{min-eq_left}
use Rattle.std.proofs.lemmas.Bool.{le-leb}
use Rattle.std.proofs.lemmas.Bool.Decides.{nat_tests}
use Rattle.std.proofs.lemmas.Int.{ints}
use Rattle.std.proofs.lemmas.List.{append-nil}
use Rattle.std.proofs.lemmas.Option.{none-some}
use Rattle.pv_num.specs.declared.kinds.IntKind.TheVariants.{UChar}
use Rattle.pv_num.specs.Kinds.{Fits, convert_of}
use Rattle.pv_fault.specs.declared.faults.Reason.TheVariants as reason
use Rattle.pv_prov.specs.declared.names.Prov.{Prov}
use Rattle.pv_prov.specs.declared.names.Prov.TheVariants.{Inst}
use Rattle.pv_prov.specs.Names.{one_candidate}
use Rattle.pv_inst.specs.declared.values.Info.{Info}
use Rattle.pv_inst.specs.declared.values.Instance.{Instance}
use Rattle.pv_inst.specs.declared.values.Tried.{Tried}
use Rattle.pv_inst.specs.declared.values.Miss.{Miss}
use Rattle.pv_inst.specs.declared.values.Miss.TheVariants.{Ended}
use Rattle.pv_inst.specs.declared.values.Test.TheVariants.{Live, Range}
use Rattle.pv_inst.specs.Table.{Table, instance_at}
use Rattle.pv_inst.specs.Infos.{info_of}
use Rattle.pv_inst.specs.Use.{passes, any_survives, miss_of, use_answer, empty_use, holds}
use Rattle.pv_inst.specs.SameParts.{made_passes}
use Rattle.pv_inst.specs.Exposure.{expose}
use Rattle.pv_inst.specs.WellFormed.{IsWellFormed}
use Rattle.pv_shadow.specs.declared.byte.Byte.{Byte}
use Rattle.pv_shadow.specs.Bytes.{Store, blank_byte, byte_at, bytes_from}
use Rattle.pv_shadow.specs.Packed.{digit_at, IsNameless}
use Rattle.pv_shadow.specs.Readings.{HasDigits}
use Rattle.pv_shadow.specs.Whole.{number_of, number_in}
use Rattle.pv_object.specs.declared.values.Pointer.{Pointer}
use Rattle.pv_object.specs.declared.values.Reach.{Reach}
use Rattle.pv_object.specs.declared.values.Stop.{Stop}
use Rattle.pv_object.specs.declared.values.Asker.{Asker}
use Rattle.pv_object.specs.declared.values.Asker.TheVariants.{Text}
use Rattle.pv_object.specs.declared.values.Value.TheVariants as value
use Rattle.pv_object.specs.Memory.{Mem, with_table}
use Rattle.pv_object.specs.Access.{fault, clause_of, reach, reach_after, checked_in, or_stop}
use Rattle.pv_object.specs.Loading.{integer_of}
use Rattle.pv_libc.specs.declared.values.Note.{Note}
use Rattle.pv_libc.specs.declared.values.Note.TheVariants.{Exposed}
use Rattle.pv_libc.specs.declared.values.Given.{Given}
use Rattle.pv_libc.specs.Steps.{Did, answer_now, next, with_notes, with_more_notes, in_table, about, with_exposures, use_notes, reach_for, reached_by, bytes_further}
use Rattle.pv_libc.specs.Characters.{character_loaded, character_in, most}
use Rattle.pv_libc.specs.Strings.{compared_from}
use Rattle.pv_libc.specs.StringParts.{compared_by}
use Rattle.pv_libc.specs.Ahead.{HasRoom, GivesAt}
use Rattle.pv_libc.proofs.Running.{compared_both}

both_true : (a b : Bool) → a ≡ true → b ≡ true → (a && b) ≡ true
both_true true b e f = f
both_true false b e f = e

never_both : (a : Bool) → (a && false) ≡ false
never_both true = refl
never_both false = refl

-- what is told of a live instance
abbrev info_told : Instance → Info
info_told x = record { name = x.name; k = x.k; base = x.base; size = x.size; kind = x.kind; exposed = x.exposed }

record IsTold (x : Instance) (y : Info) : Type 0 where
  live : x.live ≡ true
  is : info_told x ≡ y

told_by : (x : Instance) (y : Info) (c : Bool) → x.live ≡ c → (if c then Some (info_told x) else None) ≡ Some y → IsTold x y
told_by x y true e h = record { live = e; is = cc }
told_by x y false e h = absurd (none-some y h)

told_live : (x : Instance) (y : Info) → info_of (Some x) ≡ Some y → IsTold x y
told_live x y h = told_by x y x.live refl h

-- it lies within the addresses
upto_in : (o : Option Instance) (T : Table) (i : ℕ) (y : Info) → IsWellFormed T → instance_at T.instances i ≡ o → info_of o ≡ Some y → y.base + y.size ≤ 2 ^ 47
upto_in None T i y w e h = absurd (none-some y h)
upto_in (Some x) T i y w e h =
    let t = told_live x y h in
    let p = w.placed i x e in
    let base : x.base ≡ y.base = ap (λ (z : Info). z.base) t.is in
    let size : x.size ≡ y.size = ap (λ (z : Info). z.size) t.is in
    omega (arith, p.upto, base, size)

pub told_upto : (T : Table) (i : ℕ) (y : Info) → IsWellFormed T → info_of (instance_at T.instances i) ≡ Some y → y.base + y.size ≤ 2 ^ 47
told_upto T i y w h = upto_in (instance_at T.instances i) T i y w refl h

-- it passes the test of a range that lies in it
passes_range : (zap : Bool) (x : Instance) (a n : ℕ) → x.live ≡ true → x.base ≤ a → a + n ≤ x.base + x.size → holds x.kind n ≡ true → passes zap x (Range a n) ≡ true
passes_range zap x a n live low high held =
    both_true x.live (nat_le x.base a && (nat_le (a + n) (x.base + x.size) && holds x.kind n)) live
    (both_true (nat_le x.base a) (nat_le (a + n) (x.base + x.size) && holds x.kind n) (le-leb x.base a low)
    (both_true (nat_le (a + n) (x.base + x.size)) (holds x.kind n) (le-leb (a + n) (x.base + x.size) high)
    held))

-- what the use of a name finds that is that of one live instance
abbrev one_tried : Tried
one_tried = record { pair = None; low = true; high = false }

-- the checks of a read of one byte that lies in it: they leave all as it was
module _ (M : Mem) (i a : ℕ) (y : Info) (there : info_of (instance_at M.table.instances i) ≡ Some y) (low : y.base ≤ a) (high : a + 1 ≤ y.base + y.size) (held : holds y.kind 1 ≡ true) where
  abbrev T : Table
  T = M.table

  survives_by : (o : Option Instance) → info_of o ≡ Some y → made_passes T.zap o (Range a 1) ≡ true
  survives_by None h = absurd (none-some y h)
  survives_by (Some x) h =
      let t = told_live x y h in
      let base : x.base ≡ y.base = ap (λ (z : Info). z.base) t.is in
      let size : x.size ≡ y.size = ap (λ (z : Info). z.size) t.is in
      passes_range T.zap x a 1 t.live (omega (arith, base, low)) (omega (arith, base, size, high)) (ap (λ (z : Info). holds z.kind 1) t.is ∙ held)

  found : use_answer T (Inst i) (Range a 1) ≡ Ok one_tried
  found =
      ap (λ c. if c || false then Ok (record { pair = None; low = c; high = false }) else Err (if any_survives true T.instances (one_candidate i) Live then miss_of (Range a 1) else Ended))
      (survives_by (instance_at T.instances i) there)

  abbrev p : Pointer
  p = record { address = a; prov = Inst i }

  abbrev at : Reach
  at = record { inst = i; offset = a - y.base; address = a; tried = one_tried }

  module _ (by : Asker) where
    abbrev null_or : Bool → Result Reach Stop × Table
    null_or c = if c then (Err (fault (clause_of by) reason.Null), T) else reach_after T p 1 1 false (clause_of by) (use_answer T (Inst i) (Range a 1))

    aligned : (a % 1 == 0) ≡ true
    aligned = let e : a % 1 ≡ 0 = omega arith in ap (λ (r : ℕ). r == 0) e

    reach_is : reach T p 1 1 false by ≡ (Ok at, T)
    reach_is =
        ap null_or (never_both (a == 0))
        ∙ ap (reach_after T p 1 1 false (clause_of by)) found
        ∙ ap (λ o. (checked_in i (clause_of by) p 1 1 false one_tried o, T)) there
        ∙ ap (λ c. (if c then or_stop None at else Err (fault (clause_of by) reason.Misaligned), T)) aligned

    pub reached_is : (note : Note) (notes : List Note) → reach_for by false (record { pointer = p; stopped = note }) 1 (with_notes M notes) ≡ answer_now at (with_notes M notes)
    reached_is note notes =
        let g : Given = record { pointer = p; stopped = note } in
        ap (λ got. about note (reached_by by false g 1 (with_notes M notes) got)) reach_is
        ∙ ap (λ (r : Result Tried Miss). answer_now at (with_more_notes (use_notes r 2) (in_table (with_notes M notes) T))) found
        ∙ ap (λ (ns : List Note). answer_now at (with_notes M ns)) (append-nil notes)

-- the pointer further on, where there is such an address
further_is : (g : Given) (i number : ℕ) → g.pointer.prov ≡ Inst number → g.pointer.address + i ≤ 2 ^ 64 - 1 → bytes_further g i ≡ record { pointer = record { address = g.pointer.address + i; prov = Inst number }; stopped = g.stopped }
further_is g i number e h =
    let m : min (g.pointer.address + i) (2 ^ 64 - 1) ≡ g.pointer.address + i = min-eq_left h in
    λ j. record { pointer = record { address = m j; prov = e j }; stopped = g.stopped }

-- a byte that has a value and no name
pub nameless_there : (v : ℕ) (o : Option Byte) → IsSomeAnd o (IsNameless v) → IsNameless v (unwrap_or o blank_byte)
nameless_there v None h = absurd h
nameless_there v (Some b) h = h

one_read : (m : Store) (a : ℕ) → bytes_from m a 1 ≡ byte_at m a ∷ []
unfolding bytes_from
one_read m a = refl

one_number : (b : Byte) (v : ℕ) → b.value ≡ Some v → number_in (b ∷ []) ≡ Some v
one_number b v e =
    let z : v + 256 * 0 ≡ v = omega arith in
    ap (λ (o : Option ℕ). option_map number_of (option_and_then (λ x. option_map (λ (vs : List ℕ). x ∷ vs) (Some [])) o)) e ∙ ap (λ (n : ℕ). Some n) z

kept : (z : ℤ) → Fits UChar z → convert_of UChar z ≡ z
kept z h = grind (arith, ints, nat_tests)

character_kept : (v : ℕ) → v < 256 → convert_of UChar (pos v) ≡ pos v
character_kept v h = kept (pos v) (grind (arith, ints), grind (arith, ints))

nothing_told : (M : Mem) (notes : List Note) → M.table.pending ≡ [] → with_exposures (with_notes M notes) ≡ with_notes M notes
nothing_told M notes all =
    ap (λ (q : List ℕ). with_notes (with_table M (record M.table { pending = q })) (notes ++ map Exposed M.table.pending)) (sym all)
    ∙ ap (λ (q : List ℕ). with_notes M (notes ++ map Exposed q)) all
    ∙ ap (with_notes M) (append-nil notes)

pub character_plain : (M : Mem) (g : Given) (a v : ℕ) → M.table.pending ≡ [] → v < 256 → IsSomeAnd (get M.bytes a) (IsNameless v) → (notes : List Note) → character_in g a (with_notes M notes) ≡ answer_now v (with_notes M notes)
character_plain M g a v all few h notes =
    let T = M.table in
    let S = with_notes M notes in
    let b = byte_at M.bytes a in
    let n = nameless_there v (get M.bytes a) h in
    ap (λ (bs : List Byte). about g.stopped (character_loaded S (integer_of T UChar bs (number_in bs)))) (one_read M.bytes a)
    ∙ ap (λ (o : Option ℕ). about g.stopped (character_loaded S (integer_of T UChar (b ∷ []) o))) (one_number b v n.0)
    ∙ ap (λ (q : Prov). about g.stopped (character_loaded S (Ok (value.Int (convert_of UChar (pos v)), empty_use), expose T q))) n.1
    ∙ ap (λ (z : ℤ). answer_now (unsigned_abs z) (with_exposures S)) (character_kept v few)
    ∙ ap (answer_now v) (nothing_told M notes all)

-- the character so many bytes further on, in an object
pub gives_at : (M : Mem) (g : Given) (n i v : ℕ) → M.table.pending ≡ [] → HasRoom M.table g.pointer n → i < n → v < 256 → IsSomeAnd (get M.bytes (g.pointer.address + i)) (IsNameless v) → GivesAt M g i v
gives_at M g n i v all room here few h = λ by notes.
    let S = with_notes M notes in
    let a = g.pointer.address + i in
    ap (λ (f : Given). next (reach_for by false f 1 S) (λ r T. character_in g r.address T)) (further_is g i room.number room.name (omega (arith, room.far, here)))
    ∙ ap (λ (d : Did Reach). next d (λ r T. character_in g r.address T))
    (reached_is M room.number a room.info room.there (omega (arith, room.from)) (omega (arith, room.upto, here)) room.holding by g.stopped notes)
    ∙ character_plain M g a v all few h notes

-- the first digit, and the others
pub first_digit : (m : Store) (a n k : ℕ) → 1 ≤ n → HasDigits m a n k → IsSomeAnd (get m a) (IsNameless (k % 256))
first_digit m a n k some h = let e : a + 0 ≡ a = omega arith in subst (λ q. IsSomeAnd (get m q) (IsNameless (k % 256))) e (h 0 (omega (arith, some)))

pub other_digits : (m : Store) (a n k : ℕ) → HasDigits m a n k → HasDigits m (a + 1) (n - 1) (k / 256)
other_digits m a n k h = λ j l.
    let e : a + suc j ≡ (a + 1) + j = omega arith in
    subst (λ q. IsSomeAnd (get m q) (IsNameless (digit_at (k / 256) j))) e (h (suc j) (omega (arith, l)))

-- a turn of the loop over two strings
pub compared_plain : (M : Mem) (p q : Given) (i a b : ℕ) → i < most → GivesAt M p i a → GivesAt M q i b → (notes : List Note)
    → compared_from (most - i) p q i (with_notes M notes) ≡ compared_by a b (with_notes M notes) (compared_from (most - (i + 1)) p q (i + 1) (with_notes M notes))
compared_plain M p q i a b before one other notes =
    let S = with_notes M notes in
    let f = one Text notes in
    let g = other Text notes in
    compared_both most i p q S before S a (sym (ap (λ (d : Did ℕ). d.answer) f)) (sym (ap (λ (d : Did ℕ). d.after) f)) S b (sym (ap (λ (d : Did ℕ). d.answer) g)) (sym (ap (λ (d : Did ℕ). d.after) g))
