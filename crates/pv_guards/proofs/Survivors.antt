-- A use of a name that finds survivors finds an instance (the memory model): so the rows for none are met by no access and by no call.
use Rattle.std.proofs.Common.{◌≡◌, ℕ, Bool, true, false, ◌||◌, List, Option, Some, None, Ok, Err, is_ok, refl, ap, subst}
use Rattle.std.specs.Prelude.{if◌then◌else◌}
use Rattle.std.specs.Option.{option_map_or}
use Rattle.std.proofs.lemmas.Bool.{false≢true}
use Rattle.pv_prov.specs.declared.names.Prov.{Prov}
use Rattle.pv_prov.specs.declared.names.Prov.TheVariants.{Empty, Inst, Pair}
use Rattle.pv_prov.specs.declared.names.Stands.{Stands}
use Rattle.pv_prov.specs.Names.{stands, is_empty}
use Rattle.pv_inst.specs.declared.values.Instance.{Instance}
use Rattle.pv_inst.specs.declared.values.Test.{Test}
use Rattle.pv_inst.specs.declared.values.Tried.{Tried}
use Rattle.pv_inst.specs.declared.values.Miss.{Miss}
use Rattle.pv_inst.specs.Table.{Table, instance_at}
use Rattle.pv_inst.specs.Use.{use_answer, survives, passes}
use Rattle.pv_object.specs.Access.{first_survivor}
use Rattle.pv_guards.specs.Laws.{IsInstance}

no-error : {A : Type 0} (m : Miss) (x : A) → Err m ≡ Ok x → ⊥
no-error m x e = false≢true (ap is_ok e)

survivor-there : (zap : Bool) (xs : List Instance) (o : Option ℕ) (t : Test) → survives zap xs o t ≡ true → IsInstance xs o
survivor-there zap xs None t e = absurd (false≢true e)
survivor-there zap xs (Some i) t e = by (instance_at xs i) refl e
  where
    by : (x : Option Instance) → instance_at xs i ≡ x → option_map_or (λ (x : Instance). passes zap x t) x false ≡ true → IsInstance xs (Some i)
    by None q e = absurd (false≢true e)
    by (Some x) q e = (i, x, refl, q)

-- of two candidates the first one that survives
first-of : (zap : Bool) (xs : List Instance) (s : Stands) (t : Test) (b d : Bool) (pair : Option ℕ) (m : Miss) (tried : Tried) → survives zap xs s.low t ≡ b → survives zap xs s.high t ≡ d
    → (if b || d then Ok (record { pair = pair; low = b; high = d }) else Err m) ≡ Ok tried → IsInstance xs (first_survivor s tried)
first-of zap xs s t true d pair m tried eb ed e =
    let l : true ≡ tried.low = cc in
    subst (λ (c : Bool). IsInstance xs (if c then s.low else s.high)) l (survivor-there zap xs s.low t eb)
first-of zap xs s t false true pair m tried eb ed e =
    let l : false ≡ tried.low = cc in
    subst (λ (c : Bool). IsInstance xs (if c then s.low else s.high)) l (survivor-there zap xs s.high t ed)
first-of zap xs s t false false pair m tried eb ed e = absurd (no-error m tried e)

pub first-there : (T : Table) (p : Prov) (t : Test) (tried : Tried) → is_empty p ≡ false → use_answer T p t ≡ Ok tried → IsInstance T.instances (first_survivor (stands T.pairs p) tried)
first-there T Empty t tried h e = absurd cc
first-there T (Inst i) t tried h e = let s = stands T.pairs (Inst i) in first-of T.zap T.instances s t (survives T.zap T.instances s.low t) (survives T.zap T.instances s.high t) _ _ tried refl refl e
first-there T (Pair k) t tried h e = let s = stands T.pairs (Pair k) in first-of T.zap T.instances s t (survives T.zap T.instances s.low t) (survives T.zap T.instances s.high t) _ _ tried refl refl e
