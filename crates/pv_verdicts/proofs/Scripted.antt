-- Whatever is done to a table of instances and pairs, the places that its script gives stay (C17 6.2.4p2).
use Rattle.std.proofs.Common.{◌≡◌, ℕ, Bool, true, false, cond, ◌&&◌, not, Option, Some, None, Result, Ok, Err, refl, ◌∙◌}
use Rattle.std.specs.Prelude.{nat_lt, nat_eq, ◌+◌, ◌%◌, ◌^◌, ◌||◌}
use Rattle.pv_script.specs.declared.script.Place.{Place}
use Rattle.pv_script.specs.declared.script.Place.TheVariants.{At, Null}
use Rattle.pv_script.specs.Places.{place_of}
use Rattle.pv_prov.specs.declared.names.Prov.{Prov}
use Rattle.pv_prov.specs.declared.names.Prov.TheVariants.{Empty, Inst, Pair}
use Rattle.pv_prov.specs.Names.{stands}
use Rattle.pv_inst.specs.declared.values.CreateError.TheVariants.{Range, Misaligned}
use Rattle.pv_inst.specs.declared.values.Instance.{Instance}
use Rattle.pv_inst.specs.declared.values.Tried.{Tried}
use Rattle.pv_inst.specs.declared.values.Miss.{Miss}
use Rattle.pv_inst.specs.Table.{Table, instance_at, live_bytes, count_of}
use Rattle.pv_inst.specs.Use.{use_answer, after_use}
use Rattle.pv_inst.specs.TwoPointers.{same_miss, same_state, same_left, same_right, after_left}
use Rattle.pv_inst.specs.Exposure.{exposing, expose_one, expose}
use Rattle.pv_inst.specs.EndingParts.{ending}
use Rattle.pv_inst.specs.Finding.{found_at, table_by}
use Rattle.pv_inst.specs.Placing.{Request, place, place_said, place_at, unless_overlap, first_overlap}
use Rattle.pv_inst.specs.PlacingParts.{multiple_of_16}
use Rattle.pv_exec.proofs.Memory.Ways.{Changes, OfTables, of-tables}

-- the second table has the script of the first one
pub record Same (T U : Table) : Type 0 where
  pub script : U.script ≡ T.script

same-itself : {T : Table} → Same T T
same-itself {T} = record { script = refl }

same-trans : {T U V : Table} → Same T U → Same U V → Same T V
same-trans {T} {U} {V} h g = record { script = g.script ∙ h.script }

-- ---- instances and pairs

settled-same : (T : Table) (p : Prov) (r : Result Tried Miss) → Same T (after_use T p r)
settled-same T (Pair k) (Ok tried) = record { script = refl }
settled-same T (Pair k) (Err miss) = record { script = refl }
settled-same T (Inst i) r = record { script = refl }
settled-same T Empty r = record { script = refl }

both-same : (T : Table) (p q : Prov) (o : Option Miss) → Same T (same_state o T p q)
both-same T p q (Some m) = same-itself
both-same T p q None = same-trans (settled-same T p (Ok (same_left T p q))) (settled-same (after_left T p q) q (Ok (same_right T p q)))

same-if : (b : Bool) (T U : Table) → Same T U → Same T (cond b U T)
same-if true T U h = h
same-if false T U h = same-itself

exposing-same : (T : Table) (i : ℕ) (o : Option Instance) → Same T (exposing T i o)
exposing-same T i None = same-itself
exposing-same T i (Some x) = same-if (x.live && not x.exposed) T _ (record { script = refl })

one-same : (T : Table) (o : Option ℕ) → Same T (expose_one T o)
one-same T None = same-itself
one-same T (Some i) = exposing-same T i (instance_at T.instances i)

expose-same : (T : Table) (p : Prov) → Same T (expose T p)
expose-same T p =
    let s = stands T.pairs p in
    same-trans (one-same T s.low) (one-same (expose_one T s.low) s.high)

ending-same : (T : Table) (i : ℕ) (o : Option Instance) → Same T (ending T i o)
ending-same T i None = same-itself
ending-same T i (Some x) = record { script = refl }

found-same : (T : Table) (low high : Option ℕ) → Same T (table_by T (record { low = low; high = high }))
found-same T None high = same-itself
found-same T (Some i) None = same-itself
found-same T (Some i) (Some j) = record { script = refl }

pair-if : {A : Type 0} (b : Bool) (T : Table) (w v : A × Table) → Same T w.1 → Same T v.1 → Same T (cond b w v).1
pair-if true T w v h g = h
pair-if false T w v h g = g

overlap-same : (T : Table) (r : Request) (k base : ℕ) (default : Bool) (o : Option (ℕ × ℕ)) → Same T (unless_overlap o T r k base default).1
overlap-same T r k base default (Some hit) = same-itself
overlap-same T r k base default None = record { script = refl }

at-same : (T : Table) (r : Request) (k base : ℕ) (default : Bool) → Same T (place_at T r k base default).1
at-same T r k base default =
    pair-if (nat_lt base 4096 || nat_lt (2 ^ 47) (base + r.size)) T (Err (Range k base), T) _ same-itself
    (pair-if (not (nat_eq (base % r.align) 0)) T (Err (Misaligned k base), T) _ same-itself (overlap-same T r k base default (first_overlap T.instances base r.size)))

said-same : (T : Table) (r : Request) (k : ℕ) (o : Option Place) → Same T (place_said o T r k).1
said-same T r k None = at-same T r k (multiple_of_16 T.cursor) true
said-same T r k (Some (At base)) = at-same T r k base false
said-same T r k (Some Null) = record { script = refl }

place-same : (T : Table) (r : Request) → Same T (place T r).1
place-same T r =
    let k = count_of T r.name + 1 in
    pair-if (nat_lt (2 ^ 24) (live_bytes T.instances + r.size)) T (_, _) (place_said (place_of T.script r.text k) T r k) (record { script = refl }) (said-same T r k (place_of T.script r.text k))

-- every way in which a table changes
pub scripted : (F : Type 0) → Changes F (OfTables Same)
scripted F = of-tables Same (record {
  itself = same-itself;
  trans = λ h g. same-trans h g;
  told = λ T. record { script = refl };
  uses = λ T p t. settled-same T p (use_answer T p t);
  meets = λ T p q a b. both-same T p q (same_miss T p q);
  names = λ T a. found-same T (found_at T a).low (found_at T a).high;
  exposes = expose-same;
  settles = λ T k high e. record { script = refl };
  places = λ T r some. place-same T r;
  ends = λ T i. ending-same T i (instance_at T.instances i);
})
