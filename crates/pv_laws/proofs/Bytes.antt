-- Every operation of a run leaves the addresses that have bytes exactly those in live instances (C17 6.2.4p2, 6.2.6.1p2).
use Rattle.std.proofs.Common.{◌≡◌, ℕ, ◌+◌, ◌-◌, Bool, true, false, not, cond, eqb, List, [], ◌∷◌, length, length-append, map, Option, Some, None, Result, Ok, Err, IsSome, refl, sym, ap, subst, inl, inr, arith}
use Rattle.std.specs.FinMap.{get}
use Rattle.pv_script.specs.Lines.{ScriptLine}
use Rattle.pv_prov.specs.declared.names.Prov.TheVariants.{Pair}
use Rattle.pv_prov.specs.Names.{nobody, after_narrowing}
use Rattle.pv_inst.specs.declared.values.CreateError.{CreateError}
use Rattle.pv_inst.specs.Answers.{IsLive}
use Rattle.pv_inst.specs.Ending.{after_end}
use Rattle.pv_inst.specs.Finding.{reaches, begins, number_of, both_found, table_by, after_name, fitting}
use Rattle.pv_inst.specs.Placing.{Request, place}
use Rattle.pv_inst.specs.Table.{Table}
use Rattle.pv_inst.specs.Use.{use_answer}
use Rattle.pv_shadow.specs.declared.byte.Byte.{Byte}
use Rattle.pv_shadow.specs.Bytes.{Store, bytes_from}
use Rattle.pv_shadow.specs.Readings.{HasBytes}
use Rattle.pv_shadow.proofs.Ranges.{length-read}
use Rattle.pv_object.specs.Creating.{with_new_bytes, without}
use Rattle.pv_object.specs.OperationParts.{blank_in, cleared_in}
use Rattle.pv_object.specs.Later.{still, IsLater}
use Rattle.pv_object.specs.Memory.{Mem, with_table}
use Rattle.pv_object.specs.Reaching.{HasLiveBytes}
use Rattle.pv_object.specs.Copying.{with_bytes, after_copy}
use Rattle.pv_object.proofs.Born.{BornOrRefused, born_or_refused, ok_err, spread_live, born, over_ended, cleared_live}
use Rattle.pv_object.proofs.Contents.{empty_live, read_made, written_live}
use Rattle.pv_object.proofs.Later.{later_itself, settled_later, same_later, expose_later, live_bytes_later}
use Rattle.pv_typed.specs.Tables.{Stored}
use Rattle.pv_eval.specs.States.{State, end_of}
use Rattle.pv_exec.specs.Laying.{table_at, BytesAreOfLive, HasNoEmptyTag}
use Rattle.pv_exec.specs.Laws.{run_at}
use Rattle.pv_exec.proofs.Memory.Findings.{name-leads}
use Rattle.pv_exec.proofs.Memory.Reached.{AreInLive}
use Rattle.pv_exec.proofs.Memory.Rows.{Sound, Leads, led-itself, led-trans}
use Rattle.pv_exec.proofs.Memory.Runs.{run-comes, first-sound}
use Rattle.pv_exec.proofs.Memory.Stored.{AreMade}
use Rattle.pv_exec.proofs.Memory.Tables.{use-leads, same-leads, settles-leads, expose-leads, leading}
use Rattle.pv_exec.proofs.Memory.Ways.{Changes}
use Rattle.pv_guards.proofs.Laid.{sound-laid}

-- from a memory to a later one, in which the bytes are those of live instances where they were
record Kept (M N : Mem) : Type 0 where
  led : Leads ⊥ M.table N.table
  bytes : Sound ⊥ M.table.instances M.table.pairs → HasLiveBytes M.table M.bytes → HasLiveBytes N.table N.bytes

-- what changes no instance but in its exposure
table-kept : (M : Mem) (U : Table) → Leads ⊥ M.table U → IsLater M.table U → Kept M (with_table M U)
table-kept M U l later = record { led = l; bytes = λ s h. live_bytes_later M.table U M.bytes later h }

-- 6.3.2.3p5: an integer that is converted to a pointer makes a pair at most
both-later : (T : Table) (low high : Option ℕ) → IsLater T (table_by T (both_found low high))
both-later T None None = later_itself T
both-later T None (Some i) = later_itself T
both-later T (Some i) None = later_itself T
both-later T (Some i) (Some j) = record { same = refl; more = let l = length-append T.pairs (record { low = i; high = j; keeps_low = true; keeps_high = true } ∷ []) in omega arith }

name-later : (T : Table) (a : ℕ) → IsLater T (after_name T a)
name-later T a = by (eqb a 0)
  where
    by : (null : Bool) → IsLater T (table_by T (cond null nobody (fitting T.instances a)))
    by true = later_itself T
    by false = both-later T (number_of (reaches a) T.instances) (number_of (begins a) T.instances)

-- in a settled run
side-later : (T : Table) (k : ℕ) (high : Bool) → IsLater T (record T { pairs = after_narrowing T.pairs k (not high) high })
side-later T k high = settled_later T (Pair k) (Ok (record { pair = None; low = not high; high = high }))

-- 6.2.4p2: a new instance has blank bytes, and a request that is refused changes none
made-bytes : (M : Mem) (r : Request) (w : Result ℕ CreateError × Table) → place M.table r ≡ w → BornOrRefused M.table w → HasLiveBytes M.table M.bytes → HasLiveBytes (with_new_bytes M w).1.table (with_new_bytes M w).1.bytes
made-bytes M r (Ok i, U) e o h =
    let n = born M.table U r i (ap (λ (x : Result ℕ CreateError × Table). x.0) (sym e)) (ap (λ (x : Result ℕ CreateError × Table). x.1) (sym e)) in
    subst (λ (m : Store). HasLiveBytes U m) (sym (ap (λ o. blank_in o M.bytes) n.is)) (spread_live M.table U i M.bytes n h)
made-bytes M r (Err y, U) e (inl o) h =
    let more : length U.pairs ≡ length M.table.pairs = ap length o.3 in
    live_bytes_later M.table U M.bytes (record { same = ap (map still) o.2; more = omega arith }) h
made-bytes M r (Err y, U) e (inr o) h = absurd (ok_err o.0 y (sym o.1))

-- 6.2.4p2: what ends gives up its bytes alone, since live instances lie apart
without-bytes : (M : Mem) (i : ℕ) → IsLive M.table.instances i → Sound ⊥ M.table.instances M.table.pairs → HasLiveBytes M.table M.bytes → HasLiveBytes (without M i).table (without M i).bytes
without-bytes M i live s h =
    let o = over_ended M.table i live in
    let laid = sound-laid ⊥ M.table s in
    subst (λ (m : Store). HasLiveBytes (after_end M.table i) m) (sym (ap (λ p. cleared_in p M.bytes) o.was))
    (cleared_live M.table (after_end M.table i) i M.bytes o (λ j x n e. laid.apart i j o.inst x n o.was e) h)

-- bytes in a live instance are there
in-live-bytes : (T : Table) (b : Store) (a n : ℕ) → AreInLive T a n → HasLiveBytes T b → HasBytes b a n
in-live-bytes T b a n l h = λ k m.
    let P : ℕ → Type 0 = λ q. IsSome (get b q) in
    let from = l.from in
    let upto = l.upto in
    let e : l.inst.base + ((a - l.inst.base) + k) ≡ a + k = omega (arith, from) in
    subst P e (h.there l.number l.inst l.is l.live ((a - l.inst.base) + k) (omega (arith, m, from, upto)))

stores-bytes : (M : Mem) (a : ℕ) (bytes : List Byte) → AreInLive M.table a (length bytes) → AreMade M.table bytes → HasLiveBytes M.table M.bytes → HasLiveBytes M.table (with_bytes M a bytes).bytes
stores-bytes M a bytes l g h = written_live M.table M.bytes a bytes h (in-live-bytes M.table M.bytes a (length bytes) l h) g

copies-bytes : (M : Mem) (to from n : ℕ) → AreInLive M.table to n → AreInLive M.table from n → HasLiveBytes M.table M.bytes → HasLiveBytes M.table (after_copy M to from n).bytes
copies-bytes M to from n l k h =
    stores-bytes M to (bytes_from M.bytes from n) (subst (λ m. AreInLive M.table to m) (sym (length-read M.bytes from n)) l)
    (read_made M.table M.bytes from n h (in-live-bytes M.table M.bytes from n k h)) h

-- each way in which an operation changes a memory
keeping : (F : Type 0) → Changes F Kept
keeping F = record {
  itself = λ {M}. record { led = led-itself; bytes = λ s h. h };
  trans = λ {M} {N} {O} h g. record { led = led-trans h.led g.led; bytes = λ s b. g.bytes (h.led.sound s) (h.bytes s b) };
  told = λ M. table-kept M (record M.table { pending = [] }) led-itself (record { same = refl; more = omega arith });
  uses = λ M p t. table-kept M _ (use-leads M.table p t) (settled_later M.table p (use_answer M.table p t));
  meets = λ M p q a b. table-kept M _ (same-leads M.table p q a b) (same_later M.table p q);
  names = λ M a. table-kept M _ (name-leads M.table a) (name-later M.table a);
  exposes = λ M p. table-kept M _ (expose-leads M.table p) (expose_later M.table p);
  settles = λ M k high e. table-kept M _ (settles-leads M.table k high e) (side-later M.table k high);
  makes = λ M r some. record { led = (leading ⊥).makes M r (λ x. absurd x); bytes = λ s h. made-bytes M r (place M.table r) refl (born_or_refused M.table r) h };
  ends = λ M i live. record { led = (leading ⊥).ends M i live; bytes = λ s h. without-bytes M i live s h };
  stores = λ M a bytes l g. record { led = led-itself; bytes = λ s h. stores-bytes M a bytes l g h };
  copies = λ M to from n l k. record { led = led-itself; bytes = λ s h. copies-bytes M to from n l k h };
}

-- at the end of every run
live-bytes : (u : Stored) (sides : Option (List Bool)) (zap : Bool) (script : List ScriptLine) (n : ℕ) → let M = (end_of (run_at u sides zap script n)).world.memory in HasLiveBytes M.table M.bytes
live-bytes u sides zap script n = (run-comes u sides zap script n (keeping (HasNoEmptyTag u))).bytes (first-sound ⊥ script zap) (empty_live script zap)

of-live : (s : State) → HasLiveBytes (table_at s) s.world.memory.bytes → BytesAreOfLive s
of-live s h = record {
  exactly = λ a. (
    λ b. let r = h.only a b in record { number = r.number; inst = r.inst; is = r.is; live = r.live; from = r.from; before = r.before },
    λ w.
        let P : ℕ → Type 0 = λ q. IsSome (get s.world.memory.bytes q) in
        let from = w.from in
        let before = w.before in
        let e : w.inst.base + (a - w.inst.base) ≡ a = omega (arith, from) in
        subst P e (h.there w.number w.inst w.is w.live (a - w.inst.base) (omega (arith, from, before))),
  );
  named = λ a x e. h.named a x e;
}

pub run-bytes : (u : Stored) (sides : Option (List Bool)) (zap : Bool) (script : List ScriptLine) (n : ℕ) → BytesAreOfLive (end_of (run_at u sides zap script n))
run-bytes u sides zap script n = of-live (end_of (run_at u sides zap script n)) (live-bytes u sides zap script n)
