-- The function that a pointer points to (C17 6.5.2.2p1) in both runs: at most one instance of a pair is a function at an address.
use Rattle.std.proofs.Common.{◌≡◌, ℕ, Bool, true, false, List, [], Option, Some, Result, Ok, Err, refl, sym, subst}
use Rattle.pv_fault.specs.declared.faults.Clause.TheVariants as clause
use Rattle.pv_prov.specs.Names.{stands, is_empty}
use Rattle.pv_inst.specs.declared.values.Test.TheVariants.{Code}
use Rattle.pv_inst.specs.declared.values.Tried.{Tried}
use Rattle.pv_inst.specs.declared.values.Miss.{Miss}
use Rattle.pv_inst.specs.Table.{Table}
use Rattle.pv_inst.specs.Use.{use_answer, after_use}
use Rattle.pv_object.specs.declared.values.Pointer.{Pointer}
use Rattle.pv_object.specs.declared.values.Stop.{Stop}
use Rattle.pv_object.specs.declared.values.Stop.TheVariants as stop
use Rattle.pv_fault.specs.declared.verdict.Verdict.TheVariants as verdict
use Rattle.pv_object.specs.Access.{first_survivor, is_null, range_stop}
use Rattle.pv_object.specs.Operations.{code_in, code_by, code}
use Rattle.pv_object.specs.OperationParts.{code_at}
use Rattle.pv_watch.specs.declared.event.What.{What}
use Rattle.pv_world.specs.Worlds.{Worth, World, Wrong, with_table}
use Rattle.pv_world.specs.Telling.{Told, telling, no_telling, event_of_use, code_test}
use Rattle.pv_world.specs.Doing.{Fails}
use Rattle.pv_world.specs.Worths.{pointer_of, why_not_set, wrong_of}
use Rattle.pv_world.specs.Objects.{owner_of}
use Rattle.pv_world.specs.Pointers.{found_in, found_by, finds}
use Rattle.pv_prov.specs.declared.names.Prov.{Prov}
use Rattle.pv_exec.proofs.Memory.Rows.{Sound}
use Rattle.pv_exec.proofs.Settling.Sides.{on_sides, on_table, on_world, Allows, Covers, Nearly, nearly}
use Rattle.pv_exec.proofs.Settling.Uses.{Agree, use-agrees, settled-covers}
use Rattle.pv_exec.proofs.Settling.Along.{IsFault, Along, lost, either-along, range-fault}
use Rattle.pv_exec.proofs.Settling.Pointers.{SameFirst}
use Rattle.pv_exec.proofs.Settling.Starts.{start-hit, start-same, code-fixes}
use Rattle.pv_exec.proofs.Settling.Doings.{pairs_of, IsWrong, Tracks, fault-wrong, ends-ok, ends-err, gives-tracks, unless-tracks}
use Rattle.pv_exec.proofs.Settling.Worlds.{Fits}

module _ (F : Type 0) (full : F) (ds : List Bool) where
  code-by : (T : Table) (p : Pointer) → Sound F T.instances T.pairs → Covers ds T.pairs → (r r' : Result Tried Miss)
      → use_answer T p.prov (Code p.address) ≡ r → use_answer (on_table ds T) p.prov (Code p.address) ≡ r' → Agree ds r (after_use T p.prov r) r' (after_use (on_table ds T) p.prov r')
      → Along ds SameFirst (code_at T p r) (code_at (on_table ds T) p r')
  code-by T p so c (Ok t) (Ok t') e f h =
      let g = start-hit T p.prov (Code p.address) p.address (code-fixes T.zap p.address) t e in
      let k = start-hit (on_table ds T) p.prov (Code p.address) p.address (code-fixes T.zap p.address) t' f in
      let U = after_use T p.prov (Ok t) in
      let U' = after_use (on_table ds T) p.prov (Ok t') in
      subst (λ o. Along ds SameFirst (code_in o t, U) (code_in (first_survivor (stands (on_sides ds T.pairs) p.prov) t') t', U')) (sym g.is)
      (subst (λ o. Along ds SameFirst (code_in (Some g.number) t, U) (code_in o t', U')) (sym k.is)
      (start-same F full ds T so p.prov p.address t t' g k, h.0, h.1, nearly ds U.pairs (settled-covers ds T p.prov (Ok t) c)))
  code-by T p so c (Ok t) (Err m') e f h =
      lost ds SameFirst (code_by (stands T.pairs p.prov) (Ok t)) (after_use T p.prov (Ok t)) (range_stop clause.Indirection m') (after_use (on_table ds T) p.prov (Err m')) (range-fault clause.Indirection m') h
  code-by T p so c (Err m) (Ok t') e f h = absurd h
  code-by T p so c (Err m) (Err m') e f h = go (range_stop clause.Indirection m) (range-fault clause.Indirection m)
    where
      go : (y : Stop) → IsFault y → Along {A = ℕ × Tried} ds SameFirst (Err y, after_use T p.prov (Err m)) (Err (range_stop clause.Indirection m'), after_use (on_table ds T) p.prov (Err m'))
      go (stop.Ends (verdict.Undefined x)) k = range-fault clause.Indirection m'
      go (stop.Ends verdict.Indeterminate) k = absurd k
      go (stop.Ends verdict.Undecided) k = tt
      go stop.NoMemory k = tt

  pub code-along : (T : Table) (p : Pointer) → Sound F T.instances T.pairs → Allows ds T.pairs → Covers ds T.pairs → Along ds SameFirst (code T p) (code (on_table ds T) p)
  code-along T p so al c =
      either-along ds SameFirst (is_null p) _ _ _ _ tt
      (either-along ds SameFirst (is_empty p.prov) _ _ _ _ tt
      (code-by T p so c (use_answer T p.prov (Code p.address)) (use_answer (on_table ds T) p.prov (Code p.address)) refl refl (use-agrees ds T p.prov (Code p.address) al)))

  -- which function it is, is the same, and so is whether it may be called
  callee-tracks : (w : World) (p : Pointer) (fits : Option ℕ → Bool) (o : Option ℕ) (us us' : List What) (b : Bool) → fits o ≡ b → Allows ds (pairs_of w) → Nearly ds (pairs_of w)
      → Tracks ds (found_in w p fits o us) (found_in (on_world ds w) p fits o us')
  callee-tracks w p fits o us us' true e al n = rw e (gives-tracks ds _ w (telling us) (telling us') refl al n)
  callee-tracks w p fits o us us' false e al n = rw e tt

  callee-lost : (w : World) (p : Pointer) (fits : Option ℕ → Bool) (o : Option ℕ) (us : List What) (b : Bool) → fits o ≡ b → (y' : Wrong) (p' : Option Prov) (w' : World) (t' : Told) → IsWrong y' → (Allows ds (pairs_of w) → ⊥)
      → Tracks ds (found_in w p fits o us) (Fails y' p' w' t')
  callee-lost w p fits o us true e y' p' w' t' h n = rw e (h, n)
  callee-lost w p fits o us false e y' p' w' t' h n = rw e h

  found-tracks : (w w' : World) (p : Pointer) (fits : Option ℕ → Bool) (got got' : Result (ℕ × Tried) Stop × Table) → w' ≡ on_world ds w → Along ds SameFirst got got' → Tracks ds (found_by w p fits got) (found_by w' p fits got')
  found-tracks w w' p fits ((Ok r), T) ((Ok r'), T') e h =
      let V = with_table w T in
      let o = owner_of w r.0 in
      subst (λ (v : World). Tracks ds (found_in V p fits o (event_of_use code_test r.1)) (found_in v p fits (owner_of w' r'.0) (event_of_use code_test r'.1))) (sym (λ i. with_table (e i) (h.2 i)))
      (subst (λ (v : World). Tracks ds (found_in V p fits o (event_of_use code_test r.1)) (found_in (on_world ds V) p fits (owner_of v r'.0) (event_of_use code_test r'.1))) (sym e)
      (subst (λ i. Tracks ds (found_in V p fits o (event_of_use code_test r.1)) (found_in (on_world ds V) p fits (owner_of w i) (event_of_use code_test r'.1))) (sym h.0)
      (callee-tracks V p fits o (event_of_use code_test r.1) (event_of_use code_test r'.1) (fits o) refl h.1 h.3)))
  found-tracks w w' p fits ((Ok r), T) ((Err y'), T') e h =
      callee-lost (with_table w T) p fits (owner_of w r.0) (event_of_use code_test r.1) (fits (owner_of w r.0)) refl (wrong_of y') (Some p.prov) (with_table w' T') no_telling (fault-wrong y' h.0) h.1
  found-tracks w w' p fits ((Err y), T) ((Ok r'), T') e h = ends-ok ds y T r' [] (found_by w' p fits (Ok r', T')) h
  found-tracks w w' p fits ((Err y), T) ((Err y'), T') e h = ends-err (ℕ × Tried) ds y y' T [] (Some p.prov) (with_table w' T') no_telling refl h

  pub finds-track : (fits : Option ℕ → Bool) (v : Worth) (w : World) → Fits F ds w → Tracks ds (finds fits v w) (finds fits v (on_world ds w))
  finds-track fits v w f =
      unless-tracks ds (why_not_set v) w _ _ f.1
      (found-tracks w (on_world ds w) (pointer_of v) fits (code w.memory.table (pointer_of v)) (code (on_table ds w.memory.table) (pointer_of v)) refl (code-along w.memory.table (pointer_of v) f.0 f.1 f.2))
