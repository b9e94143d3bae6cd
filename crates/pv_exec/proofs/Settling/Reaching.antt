-- The checks of an access (6.5.3.2p4) in both runs: at most one instance of a pair holds a byte at an address.
use Rattle.std.proofs.Common.{◌≡◌, ℕ, zero, suc, ◌+◌, ◌-◌, ◌%◌, ◌≤◌, Bool, true, false, not, ◌&&◌, ◌||◌, cond, eqb, leb, List, [], ◌∷◌, Option, Some, None, Result, Ok, Err, refl, sym, ap, ◌∙◌, subst, ◌⊎◌, inl, inr, arith, true≢false}
use Rattle.std.specs.List.{slice_get}
use Rattle.std.proofs.lemmas.Bool.Decides.{nat_tests}
use Rattle.std.proofs.lemmas.Option.{none-some, same_Some}
use Rattle.pv_fault.specs.declared.faults.Clause.{Clause}
use Rattle.pv_fault.specs.declared.faults.Reason.TheVariants as reason
use Rattle.pv_prov.specs.declared.pairs.Twin.{Twin}
use Rattle.pv_prov.specs.declared.names.Stands.{Stands}
use Rattle.pv_prov.specs.declared.names.Prov.{Prov}
use Rattle.pv_prov.specs.declared.names.Prov.TheVariants.{Empty, Inst, Pair}
use Rattle.pv_prov.specs.Names.{stands, stands_of, twin_at, one_candidate, is_empty}
use Rattle.pv_inst.specs.declared.values.Instance.{Instance}
use Rattle.pv_inst.specs.declared.values.Info.{Info}
use Rattle.pv_inst.specs.declared.values.Kind.{Kind}
use Rattle.pv_inst.specs.declared.values.Test.{Test}
use Rattle.pv_inst.specs.declared.values.Test.TheVariants.{Range}
use Rattle.pv_inst.specs.declared.values.Tried.{Tried}
use Rattle.pv_inst.specs.declared.values.Miss.{Miss}
use Rattle.pv_inst.specs.Table.{Table, instance_at}
use Rattle.pv_inst.specs.Infos.{info_of}
use Rattle.pv_inst.specs.WellFormed.{Meet, HasMet}
use Rattle.pv_inst.specs.Use.{survives, test_answer, if_two, use_answer, after_use}
use Rattle.pv_inst.specs.SameParts.{made_passes}
use Rattle.pv_object.specs.declared.values.Pointer.{Pointer}
use Rattle.pv_object.specs.declared.values.Reach.{Reach}
use Rattle.pv_object.specs.declared.values.Asker.{Asker}
use Rattle.pv_object.specs.declared.values.Stop.{Stop}
use Rattle.pv_object.specs.declared.values.Stop.TheVariants as stop
use Rattle.pv_fault.specs.declared.verdict.Verdict.TheVariants as verdict
use Rattle.pv_object.specs.Access.{fault, clause_of, is_null, range_stop, first_survivor, readonly_stop, or_stop, checked_in, access_check, reach_after, reach}
use Rattle.pv_object.specs.OperationParts.{write_stop}
use Rattle.pv_exec.proofs.Memory.Rows.{Sound}
use Rattle.pv_exec.proofs.Settling.Sides.{to_side, on_sides, on_table, Allows, Covers, nearly}
use Rattle.pv_exec.proofs.Settling.Uses.{Agree, use-agrees, settled-covers}
use Rattle.pv_exec.proofs.Settling.Exposures.{pair-here}
use Rattle.pv_exec.proofs.Settling.Along.{IsFault, Along, lost, Similar, along, either-along, range-fault}

-- at the same place; of a byte or more in the same instance
abbrev pub Reaches : ℕ → Reach → Reach → Type 0
Reaches n r r' = (r'.address ≡ r.address) × (1 ≤ n → (r'.inst ≡ r.inst) × (r'.offset ≡ r.offset))

-- the survivor that is chosen
pub record IsPick (zap : Bool) (xs : List Instance) (s : Stands) (t : Test) (tried : Tried) : Type 0 where
  pub number : ℕ
  pub is : first_survivor s tried ≡ Some number
  pub passed : survives zap xs (Some number) t ≡ true
  pub member : (s.low ≡ Some number) ⊎ (s.high ≡ Some number)

pick-by : (zap : Bool) (xs : List Instance) (low high : Option ℕ) (t : Test) (pair : Option ℕ) (m : Miss) (tried : Tried) (u v : Bool) → survives zap xs low t ≡ u → survives zap xs high t ≡ v
    → cond (u || v) (Ok (record { pair = pair; low = u; high = v })) (Err m) ≡ Ok tried → IsPick zap xs (record { low = low; high = high }) t tried
pick-by zap xs (Some i) high t pair m tried true v e f h =
    let l : true ≡ tried.low = cc in
    record { number = i; is = ap (λ b. cond b (Some i) high) (sym l); passed = e; member = inl refl }
pick-by zap xs None high t pair m tried true v e f h = absurd (true≢false (sym e))
pick-by zap xs low (Some i) t pair m tried false true e f h =
    let l : false ≡ tried.low = cc in
    record { number = i; is = ap (λ b. cond b low (Some i)) (sym l); passed = f; member = inr refl }
pick-by zap xs low None t pair m tried false true e f h = absurd (true≢false (sym f))
pick-by zap xs low high t pair m tried false false e f h = absurd (cc)

pub pick : (zap : Bool) (xs : List Instance) (s : Stands) (t : Test) (pair : Option ℕ) (tried : Tried) → test_answer zap xs s pair t ≡ Ok tried → IsPick zap xs s t tried
pick zap xs s t pair tried h = pick-by zap xs s.low s.high t pair _ tried (survives zap xs s.low t) (survives zap xs s.high t) refl refl h

-- which of its candidates it is
abbrev pub Which : Table → Prov → ℕ → Type 0
Which T Empty i = ⊥
Which T (Inst j) i = i ≡ j
Which T (Pair k) i = (w : Twin) × (twin_at T.pairs k ≡ Some w) × ((i ≡ w.low) ⊎ (i ≡ w.high))

kept-number : (b : Bool) (i j : ℕ) → cond b (Some i) None ≡ Some j → j ≡ i
kept-number true i j e = sym (same_Some i j e)
kept-number false i j e = absurd (none-some j e)

pub which-of : (o : Option Twin) (i : ℕ) → ((stands_of o).low ≡ Some i) ⊎ ((stands_of o).high ≡ Some i) → (w : Twin) × (o ≡ Some w) × ((i ≡ w.low) ⊎ (i ≡ w.high))
which-of None i (inl e) = absurd (none-some i e)
which-of None i (inr e) = absurd (none-some i e)
which-of (Some w) i (inl e) = (w, refl, inl (kept-number w.keeps_low w.low i e))
which-of (Some w) i (inr e) = (w, refl, inr (kept-number w.keeps_high w.high i e))

pub alone-which : (j i : ℕ) → ((one_candidate j).low ≡ Some i) ⊎ ((one_candidate j).high ≡ Some i) → i ≡ j
alone-which j i (inl e) = sym (same_Some j i e)
alone-which j i (inr e) = absurd (none-some i e)

record IsHit (T : Table) (p : Prov) (a n : ℕ) (tried : Tried) : Type 0 where
  number : ℕ
  inst : Instance
  is : first_survivor (stands T.pairs p) tried ≡ Some number
  here : instance_at T.instances number ≡ Some inst
  live : inst.live ≡ true
  from : inst.base ≤ a
  upto : a + n ≤ inst.base + inst.size
  which : Which T p number

and_left : (a b : Bool) → (a && b) ≡ true → a ≡ true
and_left true b h = refl
and_left false b h = absurd (true≢false (sym h))

and_right : (a b : Bool) → (a && b) ≡ true → b ≡ true
and_right true b h = h
and_right false b h = absurd (true≢false (sym h))

hit-at : (T : Table) (p : Prov) (a n : ℕ) (tried : Tried) (i : ℕ) (o : Option Instance) → instance_at T.instances i ≡ o → made_passes T.zap o (Range a n) ≡ true → first_survivor (stands T.pairs p) tried ≡ Some i → Which T p i → IsHit T p a n tried
hit-at T p a n tried i None e h is w = absurd (true≢false (sym h))
hit-at T p a n tried i (Some x) e h is w =
    let tests = and_right x.live _ h in
    record {
      number = i;
      inst = x;
      is = is;
      here = e;
      live = and_left x.live _ h;
      from = let t = and_left (leb x.base a) _ tests in grind (arith, nat_tests);
      upto = let t = and_left (leb (a + n) (x.base + x.size)) _ (and_right (leb x.base a) _ tests) in grind (arith, nat_tests);
      which = w;
    }

hit : (T : Table) (p : Prov) (a n : ℕ) (tried : Tried) → use_answer T p (Range a n) ≡ Ok tried → IsHit T p a n tried
hit T Empty a n tried h = absurd (cc)
hit T (Inst j) a n tried h =
    let k = pick T.zap T.instances (one_candidate j) (Range a n) None tried h in
    hit-at T (Inst j) a n tried k.number (instance_at T.instances k.number) refl k.passed k.is (alone-which j k.number k.member)
hit T (Pair k) a n tried h =
    let s = stands T.pairs (Pair k) in
    let g = pick T.zap T.instances s (Range a n) (if_two k s) tried h in
    hit-at T (Pair k) a n tried g.number (instance_at T.instances g.number) refl g.passed g.is (which-of (twin_at T.pairs k) g.number g.member)

-- the two of a pair are those of the other run
pub same-twin : (ds : List Bool) (ts : List Twin) (k : ℕ) (w v : Twin) → slice_get ts k ≡ Some w → slice_get (on_sides ds ts) k ≡ Some v → (v.low ≡ w.low) × (v.high ≡ w.high)
same-twin ds [] k w v e f = absurd (none-some w e)
same-twin [] (t ∷ ts) k w v e f = let same : v ≡ w = same_Some v w (sym f ∙ e) in (ap (λ (z : Twin). z.low) same, ap (λ (z : Twin). z.high) same)
same-twin (d ∷ ds) (t ∷ ts) zero w v e f =
    let a : t ≡ w = same_Some t w e in
    let b : to_side d t ≡ v = same_Some (to_side d t) v f in
    (ap (λ (z : Twin). z.low) (sym b) ∙ ap (λ (z : Twin). z.low) a, ap (λ (z : Twin). z.high) (sym b) ∙ ap (λ (z : Twin). z.high) a)
same-twin (d ∷ ds) (t ∷ ts) (suc k) w v e f = same-twin ds ts k w v e f

-- a range with a byte lies in one of the two
apart-low : (o o' : Option Instance) (x y : Instance) (a n : ℕ) → Meet o o' → o ≡ Some x → o' ≡ Some y → y.base ≤ a → a + n ≤ x.base + x.size → 1 ≤ n → ⊥
apart-low None o' x y a n m e f from upto some = m
apart-low (Some z) None x y a n m e f from upto some = m
apart-low (Some z) (Some v) x y a n m e f from upto some =
    let b : z ≡ x = same_Some z x e in
    let c : v ≡ y = same_Some v y f in
    let base : z.base ≡ x.base = ap (λ (q : Instance). q.base) b in
    let size : z.size ≡ x.size = ap (λ (q : Instance). q.size) b in
    let high : v.base ≡ y.base = ap (λ (q : Instance). q.base) c in
    omega (arith, m.2, base, size, high, from, upto, some)

module _ (F : Type 0) (ds : List Bool) (T : Table) (s : Sound F T.instances T.pairs) where
  pair-same : (k a n : ℕ) (t t' : Tried) (h : IsHit T (Pair k) a n t) (g : IsHit (on_table ds T) (Pair k) a n t') → 1 ≤ n → g.number ≡ h.number
  pair-same k a n t t' h g some = by h.which.2 g.which.2
    where
      w : Twin
      w = h.which.0

      v : Twin
      v = g.which.0

      same : (v.low ≡ w.low) × (v.high ≡ w.high)
      same = same-twin ds T.pairs (k - 1) w v h.which.1 g.which.1

      meets : HasMet T.instances w
      meets = pair-here T.pairs (k - 1) w (HasMet T.instances) h.which.1 s.met

      by : (h.number ≡ w.low) ⊎ (h.number ≡ w.high) → (g.number ≡ v.low) ⊎ (g.number ≡ v.high) → g.number ≡ h.number
      by (inl e) (inl f) = f ∙ same.0 ∙ sym e
      by (inr e) (inr f) = f ∙ same.1 ∙ sym e
      by (inl e) (inr f) = absurd (apart-low (instance_at T.instances w.low) (instance_at T.instances w.high) h.inst g.inst a n meets
          (subst (λ i. instance_at T.instances i ≡ Some h.inst) e h.here) (subst (λ i. instance_at T.instances i ≡ Some g.inst) (f ∙ same.1) g.here) g.from h.upto some)
      by (inr e) (inl f) = absurd (apart-low (instance_at T.instances w.low) (instance_at T.instances w.high) g.inst h.inst a n meets
          (subst (λ i. instance_at T.instances i ≡ Some g.inst) (f ∙ same.0) g.here) (subst (λ i. instance_at T.instances i ≡ Some h.inst) e h.here) h.from g.upto some)

  hit-same : (p : Prov) (a n : ℕ) (t t' : Tried) (h : IsHit T p a n t) (g : IsHit (on_table ds T) p a n t') → 1 ≤ n → g.number ≡ h.number
  hit-same Empty a n t t' h g some = absurd h.which
  hit-same (Inst j) a n t t' h g some = g.which ∙ sym h.which
  hit-same (Pair k) a n t t' h g some = pair-same k a n t t' h g some

abbrev info : Instance → Info
info x = record { name = x.name; k = x.k; base = x.base; size = x.size; kind = x.kind; exposed = x.exposed }

-- the checks behind the use
similar-itself : {A : Type 0} (V : A → A → Type 0) (y : Stop) → Similar V (Err y) (Err y)
similar-itself V (stop.Ends (verdict.Undefined f)) = tt
similar-itself V (stop.Ends verdict.Indeterminate) = refl
similar-itself V (stop.Ends verdict.Undecided) = tt
similar-itself V stop.NoMemory = tt

stopped-similar : (n : ℕ) (o : Option Stop) (r r' : Reach) → Reaches n r r' → Similar (Reaches n) (or_stop o r) (or_stop o r')
stopped-similar n None r r' h = h
stopped-similar n (Some y) r r' h = similar-itself (Reaches n) y

quiet-write : (write : Bool) (k : Kind) → cond (write && false) (readonly_stop k) None ≡ None
quiet-write true k = refl
quiet-write false k = refl

write-similar : (b : Bool) (write : Bool) (n : ℕ) (k k' : Kind) (r r' : Reach) → eqb n 0 ≡ b → (1 ≤ n → k' ≡ k) → Reaches n r r' → Similar (Reaches n) (or_stop (write_stop write n k) r) (or_stop (write_stop write n k') r')
write-similar true write n k k' r r' e same h =
    let z : (q : Kind) → write_stop write n q ≡ None = λ q. ap (λ b. cond (write && not b) (readonly_stop q) None) e ∙ quiet-write write q in
    subst (λ o. Similar (Reaches n) (or_stop o r) (or_stop (write_stop write n k') r')) (sym (z k))
    (subst (λ o. Similar (Reaches n) (Ok r) (or_stop o r')) (sym (z k')) h)
write-similar false write n k k' r r' e same h =
    let some : 1 ≤ n = grind (arith, nat_tests) in
    subst (λ q. Similar (Reaches n) (or_stop (write_stop write n k) r) (or_stop (write_stop write n q) r')) (sym (same some)) (stopped-similar n (write_stop write n k) r r' h)

aligned-similar : (b : Bool) (n : ℕ) (c : Clause) (x x' : Result Reach Stop) → Similar (Reaches n) x x' → Similar (Reaches n) (cond b x (Err (fault c reason.Misaligned))) (cond b x' (Err (fault c reason.Misaligned)))
aligned-similar true n c x x' h = h
aligned-similar false n c x x' h = tt

checked-is : (W : Table) (xs : List Instance) (o : Option ℕ) (i : ℕ) (x : Instance) (c : Clause) (p : Pointer) (n align : ℕ) (write : Bool) (t : Tried) → W.instances ≡ xs → o ≡ Some i → instance_at xs i ≡ Some x → x.live ≡ true
    → access_check W o c p n align write t ≡ checked_in i c p n align write t (Some (info x))
checked-is W xs o i x c p n align write t w e f l =
    ap (λ q. access_check W q c p n align write t) e
    ∙ ap (λ ys. checked_in i c p n align write t (info_of (instance_at ys i))) w
    ∙ ap (λ q. checked_in i c p n align write t (info_of q)) f
    ∙ ap (λ b. checked_in i c p n align write t (cond b (Some (info x)) None)) l

settled-same : (T : Table) (p : Prov) (tried : Tried) → (after_use T p (Ok tried)).instances ≡ T.instances
settled-same T Empty tried = refl
settled-same T (Inst i) tried = refl
settled-same T (Pair k) tried = refl

module _ (F : Type 0) (ds : List Bool) (T : Table) (s : Sound F T.instances T.pairs) (co : Covers ds T.pairs) (p : Pointer) (n align : ℕ) (write : Bool) (c : Clause) where
  both-hit : (t t' : Tried) (h : IsHit T p.prov p.address n t) (g : IsHit (on_table ds T) p.prov p.address n t') → Similar (Reaches n)
      (access_check (after_use T p.prov (Ok t)) (first_survivor (stands T.pairs p.prov) t) c p n align write t)
      (access_check (after_use (on_table ds T) p.prov (Ok t')) (first_survivor (stands (on_sides ds T.pairs) p.prov) t') c p n align write t')
  both-hit t t' h g =
      let x = h.inst in
      let y = g.inst in
      let same : 1 ≤ n → g.number ≡ h.number = hit-same F ds T s p.prov p.address n t t' h g in
      let insts : 1 ≤ n → y ≡ x = λ some. same_Some y x (sym g.here ∙ ap (instance_at T.instances) (same some) ∙ h.here) in
      let r : Reach = record { inst = h.number; offset = p.address - x.base; address = p.address; tried = t } in
      let r' : Reach = record { inst = g.number; offset = p.address - y.base; address = p.address; tried = t' } in
      subst (λ q. Similar (Reaches n) q (access_check (after_use (on_table ds T) p.prov (Ok t')) (first_survivor (stands (on_sides ds T.pairs) p.prov) t') c p n align write t'))
      (sym (checked-is (after_use T p.prov (Ok t)) T.instances _ h.number x c p n align write t (settled-same T p.prov t) h.is h.here h.live))
      (subst (λ q. Similar (Reaches n) (checked_in h.number c p n align write t (Some (info x))) q)
      (sym (checked-is (after_use (on_table ds T) p.prov (Ok t')) T.instances _ g.number y c p n align write t' (settled-same (on_table ds T) p.prov t') g.is g.here g.live))
      (aligned-similar (eqb (p.address % align) 0) n c _ _
      (write-similar (eqb n 0) write n x.kind y.kind r r' refl (λ some. ap (λ (z : Instance). z.kind) (insts some)) (refl, λ some. (same some, ap (λ (z : Instance). p.address - z.base) (insts some))))))

  reach-by : (r r' : Result Tried Miss) → use_answer T p.prov (Range p.address n) ≡ r → use_answer (on_table ds T) p.prov (Range p.address n) ≡ r' → Agree ds r (after_use T p.prov r) r' (after_use (on_table ds T) p.prov r')
      → Along ds (Reaches n) (reach_after T p n align write c r) (reach_after (on_table ds T) p n align write c r')
  reach-by (Err m) (Err m') e f h = go (range_stop c m) (range-fault c m)
    where
      go : (y : Stop) → IsFault y → Along ds (Reaches n) (Err y, T) (Err (range_stop c m'), on_table ds T)
      go (stop.Ends (verdict.Undefined x)) k = range-fault c m'
      go (stop.Ends verdict.Indeterminate) k = absurd k
      go (stop.Ends verdict.Undecided) k = tt
      go stop.NoMemory k = tt
  reach-by (Err m) (Ok t') e f h = absurd h
  reach-by (Ok t) (Err m') e f h =
      lost {A = Reach} ds (Reaches n) (access_check (after_use T p.prov (Ok t)) (first_survivor (stands T.pairs p.prov) t) c p n align write t) (after_use T p.prov (Ok t)) (range_stop c m') (on_table ds T) (range-fault c m') h
  reach-by (Ok t) (Ok t') e f h =
      along {A = Reach} ds (Reaches n) _ _ (after_use T p.prov (Ok t)) (after_use (on_table ds T) p.prov (Ok t'))
      (both-hit t t' (hit T p.prov p.address n t e) (hit (on_table ds T) p.prov p.address n t' f)) h.0 (nearly ds (after_use T p.prov (Ok t)).pairs (settled-covers ds T p.prov (Ok t) co)) h.1

pub reach-along : (F : Type 0) (ds : List Bool) (T : Table) (p : Pointer) (n align : ℕ) (write : Bool) (by : Asker) → Sound F T.instances T.pairs → Allows ds T.pairs → Covers ds T.pairs
    → Along ds (Reaches n) (reach T p n align write by) (reach (on_table ds T) p n align write by)
reach-along F ds T p n align write by s al c =
    either-along ds (Reaches n) (is_null p) _ _ _ _ tt
    (either-along ds (Reaches n) (is_empty p.prov) _ _ _ _ tt
    (reach-by F ds T s c p n align write (clause_of by) (use_answer T p.prov (Range p.address n)) (use_answer (on_table ds T) p.prov (Range p.address n)) refl refl (use-agrees ds T p.prov (Range p.address n) al)))
