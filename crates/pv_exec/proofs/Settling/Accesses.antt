-- Accesses, and instances that are made and end (C17 6.2.4, 6.3.2.1, 6.5.16), in both runs.
use Rattle.std.proofs.Common.{◌≡◌, ℕ, ◌+◌, ◌%◌, ◌^◌, Bool, true, false, not, ◌||◌, cond, eqb, ltb, List, [], Option, Some, None, Result, Ok, Err, refl, sym, ap, ◌∙◌, subst, inl}
use Rattle.pv_script.specs.declared.script.Place.{Place}
use Rattle.pv_script.specs.declared.script.Place.TheVariants.{At, Null}
use Rattle.pv_script.specs.Places.{place_of}
use Rattle.pv_prov.specs.Names.{is_empty}
use Rattle.pv_inst.specs.declared.values.Instance.{Instance}
use Rattle.pv_inst.specs.declared.values.CreateError.{CreateError}
use Rattle.pv_inst.specs.declared.values.Test.TheVariants.{Range}
use Rattle.pv_inst.specs.declared.values.Tried.{Tried}
use Rattle.pv_inst.specs.declared.values.Miss.{Miss}
use Rattle.pv_inst.specs.Table.{Table, instance_at, live_bytes, count_of}
use Rattle.pv_inst.specs.Use.{use_answer}
use Rattle.pv_inst.specs.EndingParts.{ending}
use Rattle.pv_inst.specs.Placing.{Request, place, place_said, place_at, unless_overlap, first_overlap}
use Rattle.pv_inst.specs.PlacingParts.{multiple_of_16}
use Rattle.pv_fault.specs.declared.faults.Clause.{Clause}
use Rattle.pv_object.specs.declared.values.Pointer.{Pointer}
use Rattle.pv_object.specs.declared.values.Reach.{Reach}
use Rattle.pv_object.specs.declared.values.Asker.{Asker}
use Rattle.pv_object.specs.declared.values.Asker.TheVariants.{Access}
use Rattle.pv_object.specs.declared.values.Stop.{Stop}
use Rattle.pv_object.specs.Access.{is_null, clause_of, reach_after, reach}
use Rattle.pv_object.specs.Memory.{Mem}
use Rattle.pv_object.specs.Creating.{with_new_bytes, creation, without}
use Rattle.pv_watch.specs.declared.event.What.{What}
use Rattle.pv_world.specs.Worlds.{World, with_table}
use Rattle.pv_world.specs.Telling.{Told, telling}
use Rattle.pv_world.specs.Doing.{Done, Fails}
use Rattle.pv_world.specs.Worths.{wrong_of}
use Rattle.pv_world.specs.Accesses.{reaching_by, reaching}
use Rattle.pv_world.specs.AccessParts.{range_use}
use Rattle.pv_world.specs.Objects.{makes_object, makes_literal_of, makes_function, ends_instance}
use Rattle.pv_world.specs.ObjectParts.{object_made, literal_request, literal_made, function_made}
use Rattle.pv_exec.proofs.Memory.Rows.{Sound, Leads}
use Rattle.pv_exec.proofs.Memory.Tables.{leading}
use Rattle.pv_exec.proofs.Memory.Pointers.{reach-leads}
use Rattle.pv_exec.proofs.Memory.Ways.{OfTables}
use Rattle.pv_exec.proofs.Memory.Worlds.{Onward}
use Rattle.pv_exec.proofs.Settling.Sides.{on_table, on_memory, on_world, Allows, Covers, Nearly, nearly}
use Rattle.pv_exec.proofs.Settling.Uses.{settled-covers}
use Rattle.pv_exec.proofs.Settling.Along.{Along}
use Rattle.pv_exec.proofs.Settling.Reaching.{Reaches, reach-along}
use Rattle.pv_exec.proofs.Settling.Doings.{pairs_of, Tracks, fault-wrong, ends-ok, ends-err, lost-later}
use Rattle.pv_exec.proofs.Settling.Worlds.{Fits}

-- the checks of an access make no pair
after-covers : (ds : List Bool) (T : Table) (p : Pointer) (n align : ℕ) (write : Bool) (c : Clause) (r : Result Tried Miss) → Covers ds T.pairs → Covers ds (reach_after T p n align write c r).1.pairs
after-covers ds T p n align write c (Err m) h = h
after-covers ds T p n align write c (Ok tried) h = settled-covers ds T p.prov (Ok tried) h

either-covers : {A : Type 0} (ds : List Bool) (b : Bool) (x y : A × Table) → Covers ds x.1.pairs → Covers ds y.1.pairs → Covers ds (cond b x y).1.pairs
either-covers ds true x y h g = h
either-covers ds false x y h g = g

pub reach-covers : (ds : List Bool) (T : Table) (p : Pointer) (n align : ℕ) (write : Bool) (by : Asker) → Covers ds T.pairs → Covers ds (reach T p n align write by).1.pairs
reach-covers ds T p n align write by h =
    either-covers {A = Result Reach Stop} ds (is_null p) (_, T) _ h
    (either-covers {A = Result Reach Stop} ds (is_empty p.prov) (_, T) _ h (after-covers ds T p n align write (clause_of by) (use_answer T p.prov (Range p.address n)) h))

module _ (F : Type 0) (ds : List Bool) where
  -- what is done behind the checks of an access, at places that are the same in both runs
  abbrev pub GoesOn : ℕ → (Reach → World → Told → Done) → Type 0
  GoesOn n go = (at at' : Reach) (w : World) (us us' : List What) → Reaches n at at' → Fits F ds w → Tracks ds (go at w (telling us)) (go at' (on_world ds w) (telling us'))

  reaching-by : (n : ℕ) (w w' : World) (p : Pointer) (us us' : List What) (got got' : Result Reach Stop × Table) (go : Reach → World → Told → Done) → w' ≡ on_world ds w
      → Sound F got.1.instances got.1.pairs → Covers ds got.1.pairs → Along ds (Reaches n) got got' → GoesOn n go → ((at : Reach) (v : World) (t : Told) → Onward (OfTables (Leads F)) v (go at v t))
      → Tracks ds (reaching_by w p us got go) (reaching_by w' p us' got' go)
  reaching-by n w w' p us us' ((Ok at), T) ((Ok at'), T') go e s c h g o =
      subst (λ (v : World). Tracks ds (go at (with_table w T) (telling us)) (go at' v (telling us'))) (sym (λ i. with_table (e i) (h.2 i)))
      (g at at' (with_table w T) us us' h.0 (s, h.1, c))
  reaching-by n w w' p us us' ((Ok at), T) ((Err y'), T') go e s c h g o =
      lost-later {F = F} ds T (with_table w T) (go at (with_table w T) (telling us)) (Fails (wrong_of y') (Some p.prov) (with_table w' T') (telling us')) refl (o at (with_table w T) (telling us)) (fault-wrong y' h.0) h.1
  reaching-by n w w' p us us' ((Err y), T) ((Ok at'), T') go e s c h g o = ends-ok ds y T at' [] (reaching_by w' p us' (Ok at', T') go) h
  reaching-by n w w' p us us' ((Err y), T) ((Err y'), T') go e s c h g o = ends-err Reach ds y y' T [] (Some p.prov) (with_table w' T') (telling us') refl h

  pub reaching-tracks : (p : Pointer) (n align : ℕ) (write : Bool) (w : World) (go : Reach → World → Told → Done) → Fits F ds w → GoesOn n go → ((at : Reach) (v : World) (t : Told) → Onward (OfTables (Leads F)) v (go at v t))
      → Tracks ds (reaching p n align write w go) (reaching p n align write (on_world ds w) go)
  reaching-tracks p n align write w go f g o =
      reaching-by n w (on_world ds w) p (range_use w.memory.table p n) (range_use (on_table ds w.memory.table) p n) (reach w.memory.table p n align write Access) (reach (on_table ds w.memory.table) p n align write Access) go refl
      ((reach-leads (leading F) w.memory p n align write Access).sound f.0) (reach-covers ds w.memory.table p n align write Access f.2) (reach-along F ds w.memory.table p n align write Access f.0 f.1 f.2) g o

-- placing looks at no pair
abbrev pub second : List Bool → Result ℕ CreateError × Table → Result ℕ CreateError × Table
second ds x = (x.0, on_table ds x.1)

record IsApart (ds : List Bool) (T : Table) (x x' : Result ℕ CreateError × Table) : Type 0 where
  is : x' ≡ second ds x
  pairs : x.1.pairs ≡ T.pairs

either-apart : (ds : List Bool) (T : Table) (b : Bool) (x x' y y' : Result ℕ CreateError × Table) → IsApart ds T x x' → IsApart ds T y y' → IsApart ds T (cond b x y) (cond b x' y')
either-apart ds T true x x' y y' h g = h
either-apart ds T false x x' y y' h g = g

overlap-apart : (ds : List Bool) (T : Table) (o : Option (ℕ × ℕ)) (r : Request) (k base : ℕ) (default : Bool) → IsApart ds T (unless_overlap o T r k base default) (unless_overlap o (on_table ds T) r k base default)
overlap-apart ds T (Some hit) r k base default = record { is = refl; pairs = refl }
overlap-apart ds T None r k base default = record { is = refl; pairs = refl }

at-apart : (ds : List Bool) (T : Table) (r : Request) (k base : ℕ) (default : Bool) → IsApart ds T (place_at T r k base default) (place_at (on_table ds T) r k base default)
at-apart ds T r k base default =
    either-apart ds T (ltb base 4096 || ltb (2 ^ 47) (base + r.size)) (_, T) (_, on_table ds T) _ _ (record { is = refl; pairs = refl })
    (either-apart ds T (not (eqb (base % r.align) 0)) (_, T) (_, on_table ds T) _ _ (record { is = refl; pairs = refl }) (overlap-apart ds T (first_overlap T.instances base r.size) r k base default))

said-apart : (ds : List Bool) (T : Table) (o : Option Place) (r : Request) (k : ℕ) → IsApart ds T (place_said o T r k) (place_said o (on_table ds T) r k)
said-apart ds T None r k = at-apart ds T r k (multiple_of_16 T.cursor) true
said-apart ds T (Some (At base)) r k = at-apart ds T r k base false
said-apart ds T (Some Null) r k = record { is = refl; pairs = refl }

place-apart : (ds : List Bool) (T : Table) (r : Request) → IsApart ds T (place T r) (place (on_table ds T) r)
place-apart ds T r =
    either-apart ds T (ltb (2 ^ 24) (live_bytes T.instances + r.size)) (_, _) (_, _) _ _ (record { is = refl; pairs = refl }) (said-apart ds T (place_of T.script r.text (count_of T r.name + 1)) r (count_of T r.name + 1))

made-on : (ds : List Bool) (M : Mem) (x : Result ℕ CreateError × Table) → with_new_bytes (on_memory ds M) (second ds x) ≡ ((with_new_bytes M x).0, on_memory ds (with_new_bytes M x).1)
made-on ds M ((Ok i), U) = refl
made-on ds M ((Err e), U) = refl

made-pairs : (M : Mem) (x : Result ℕ CreateError × Table) → (with_new_bytes M x).1.table.pairs ≡ x.1.pairs
made-pairs M ((Ok i), U) = refl
made-pairs M ((Err e), U) = refl

pub created-on : (ds : List Bool) (M : Mem) (r : Request) → creation (on_memory ds M) r ≡ ((creation M r).0, on_memory ds (creation M r).1)
created-on ds M r = ap (with_new_bytes (on_memory ds M)) (place-apart ds M.table r).is ∙ made-on ds M (place M.table r)

pub created-pairs : (M : Mem) (r : Request) → (creation M r).1.table.pairs ≡ M.table.pairs
created-pairs M r = made-pairs M (place M.table r) ∙ (place-apart [] M.table r).pairs

-- an end looks at no pair
ending-on : (ds : List Bool) (T : Table) (i : ℕ) (o : Option Instance) → ending (on_table ds T) i o ≡ on_table ds (ending T i o)
ending-on ds T i None = refl
ending-on ds T i (Some x) = refl

ending-pairs : (T : Table) (i : ℕ) (o : Option Instance) → (ending T i o).pairs ≡ T.pairs
ending-pairs T i None = refl
ending-pairs T i (Some x) = refl

pub without-on : (ds : List Bool) (M : Mem) (i : ℕ) → without (on_memory ds M) i ≡ on_memory ds (without M i)
without-on ds M i = ap (λ (T : Table). record (without M i) { table = T }) (ending-on ds M.table i (instance_at M.table.instances i))

pub without-pairs : (M : Mem) (i : ℕ) → (without M i).table.pairs ≡ M.table.pairs
without-pairs M i = ending-pairs M.table i (instance_at M.table.instances i)

module _ (F : Type 0) (ds : List Bool) where
  -- what leaves the pairs alone, and comes to the same
  object-by : (w : World) (o : ℕ) (lasting : Bool) (name : ℕ) (got : Result ℕ CreateError × Mem) → Fits F ds w → got.1.table.pairs ≡ pairs_of w → Tracks ds (object_made w o lasting name got) (object_made (on_world ds w) o lasting name (got.0, on_memory ds got.1))
  object-by w o true name ((Ok i), M) f e = (refl, refl, subst (Allows ds) (sym e) f.1, refl, subst (Nearly ds) (sym e) (nearly ds (pairs_of w) f.2))
  object-by w o false name ((Ok i), M) f e = (refl, refl, subst (Allows ds) (sym e) f.1, refl, subst (Nearly ds) (sym e) (nearly ds (pairs_of w) f.2))
  object-by w o lasting name ((Err x), M) f e = inl ((refl, refl), subst (Allows ds) (sym e) f.1)

  pub object-tracks : (o : ℕ) (lasting : Bool) (r : Request) (w : World) → Fits F ds w → Tracks ds (makes_object o lasting r w) (makes_object o lasting r (on_world ds w))
  object-tracks o lasting r w f =
      subst (λ q. Tracks ds (makes_object o lasting r w) (object_made (on_world ds w) o lasting r.name q)) (sym (created-on ds w.memory r))
      (object-by w o lasting r.name (creation w.memory r) f (created-pairs w.memory r))

  literal-by : (w : World) (l : ℕ) (bytes : List ℕ) (got : Result ℕ CreateError × Mem) → Fits F ds w → got.1.table.pairs ≡ pairs_of w → Tracks ds (literal_made w l bytes got) (literal_made (on_world ds w) l bytes (got.0, on_memory ds got.1))
  literal-by w l bytes ((Ok i), M) f e = (refl, refl, subst (Allows ds) (sym e) f.1, refl, subst (Nearly ds) (sym e) (nearly ds (pairs_of w) f.2))
  literal-by w l bytes ((Err x), M) f e = inl ((refl, refl), subst (Allows ds) (sym e) f.1)

  pub literal-tracks : (l : ℕ) (text bytes : List ℕ) (w : World) → Fits F ds w → Tracks ds (makes_literal_of l text bytes w) (makes_literal_of l text bytes (on_world ds w))
  literal-tracks l text bytes w f =
      subst (λ q. Tracks ds (makes_literal_of l text bytes w) (literal_made (on_world ds w) l bytes q)) (sym (created-on ds w.memory (literal_request text bytes)))
      (literal-by w l bytes (creation w.memory (literal_request text bytes)) f (created-pairs w.memory (literal_request text bytes)))

  function-by : (w : World) (f name : ℕ) (got : Result ℕ CreateError × Mem) → Fits F ds w → got.1.table.pairs ≡ pairs_of w → Tracks ds (function_made w f name got) (function_made (on_world ds w) f name (got.0, on_memory ds got.1))
  function-by w g name ((Ok i), M) f e = (refl, refl, subst (Allows ds) (sym e) f.1, refl, subst (Nearly ds) (sym e) (nearly ds (pairs_of w) f.2))
  function-by w g name ((Err x), M) f e = inl ((refl, refl), subst (Allows ds) (sym e) f.1)

  pub function-tracks : (f : ℕ) (r : Request) (w : World) → Fits F ds w → Tracks ds (makes_function f r w) (makes_function f r (on_world ds w))
  function-tracks g r w f =
      subst (λ q. Tracks ds (makes_function g r w) (function_made (on_world ds w) g r.name q)) (sym (created-on ds w.memory r))
      (function-by w g r.name (creation w.memory r) f (created-pairs w.memory r))

  pub ends-tracks : (w : World) (i : ℕ) → Fits F ds w → Tracks ds (ends_instance w i) (ends_instance (on_world ds w) i)
  ends-tracks w i f =
      (refl, refl, subst (Allows ds) (sym (without-pairs w.memory i)) f.1, ap (λ (M : Mem). record w { memory = M }) (without-on ds w.memory i), subst (Nearly ds) (sym (without-pairs w.memory i)) (nearly ds (pairs_of w) f.2))
