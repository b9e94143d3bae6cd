-- A test that asks for a live instance which begins at an address (C17 6.5.2.2p1, 7.22.3.3p2) in both runs: at most one of a pair does.
use Rattle.std.proofs.Common.{◌≡◌, ℕ, ◌-◌, ◌≤◌, Bool, true, false, ◌&&◌, eqb, List, Option, Some, None, Ok, refl, sym, ap, ◌∙◌, subst, ◌⊎◌, inl, inr, arith, true≢false}
use Rattle.std.proofs.lemmas.Bool.Decides.{nat_tests}
use Rattle.std.proofs.lemmas.Option.{same_Some}
use Rattle.pv_prov.specs.declared.pairs.Twin.{Twin}
use Rattle.pv_prov.specs.declared.names.Prov.{Prov}
use Rattle.pv_prov.specs.declared.names.Prov.TheVariants.{Empty, Inst, Pair}
use Rattle.pv_prov.specs.Names.{stands, twin_at, one_candidate}
use Rattle.pv_inst.specs.declared.values.Instance.{Instance}
use Rattle.pv_inst.specs.declared.values.Test.{Test}
use Rattle.pv_inst.specs.declared.values.Test.TheVariants.{Block, Code}
use Rattle.pv_inst.specs.declared.values.Tried.{Tried}
use Rattle.pv_inst.specs.Table.{Table, instance_at}
use Rattle.pv_inst.specs.WellFormed.{Meet, HasMet}
use Rattle.pv_inst.specs.Use.{if_two, use_answer, is_heap, is_function, empty_answer, passes}
use Rattle.pv_inst.specs.SameParts.{made_passes}
use Rattle.pv_inst.proofs.Rows.{row_found}
use Rattle.pv_object.specs.Access.{first_survivor}
use Rattle.pv_exec.proofs.Memory.Rows.{Lies, Sound}
use Rattle.pv_exec.proofs.Settling.Sides.{on_table}
use Rattle.pv_exec.proofs.Settling.Exposures.{pair-here}
use Rattle.pv_exec.proofs.Settling.Reaching.{Which, pick, which-of, alone-which, same-twin}

-- the instance that such a test has found
pub record IsStart (T : Table) (p : Prov) (a : ℕ) (tried : Tried) : Type 0 where
  pub number : ℕ
  pub inst : Instance
  pub is : first_survivor (stands T.pairs p) tried ≡ Some number
  pub here : instance_at T.instances number ≡ Some inst
  pub live : inst.live ≡ true
  pub base : inst.base ≡ a
  pub which : Which T p number

and_left : (a b : Bool) → (a && b) ≡ true → a ≡ true
and_left true b h = refl
and_left false b h = absurd (true≢false (sym h))

and_right : (a b : Bool) → (a && b) ≡ true → b ≡ true
and_right true b h = h
and_right false b h = absurd (true≢false (sym h))

-- a test that asks for a live instance that begins at an address, as those for an allocation, and for a function that is called
abbrev pub Fixes : (zap : Bool) → Test → ℕ → Type 0
Fixes zap t a = ((x : Instance) → passes zap x t ≡ true → (x.live ≡ true) × (x.base ≡ a)) × ((tried : Tried) → empty_answer t ≡ Ok tried → ⊥)

start-at : (T : Table) (p : Prov) (t : Test) (a : ℕ) → Fixes T.zap t a → (tried : Tried) (i : ℕ) (o : Option Instance) → instance_at T.instances i ≡ o → made_passes T.zap o t ≡ true → first_survivor (stands T.pairs p) tried ≡ Some i → Which T p i → IsStart T p a tried
start-at T p t a fixes tried i None e h is w = absurd (true≢false (sym h))
start-at T p t a fixes tried i (Some x) e h is w =
    let at = fixes.0 x h in
    record { number = i; inst = x; is = is; here = e; live = at.0; base = at.1; which = w }

-- what such a test has found
pub start-hit : (T : Table) (p : Prov) (t : Test) (a : ℕ) → Fixes T.zap t a → (tried : Tried) → use_answer T p t ≡ Ok tried → IsStart T p a tried
start-hit T Empty t a fixes tried h = absurd (fixes.1 tried h)
start-hit T (Inst j) t a fixes tried h =
    let k = pick T.zap T.instances (one_candidate j) t None tried h in
    start-at T (Inst j) t a fixes tried k.number (instance_at T.instances k.number) refl k.passed k.is (alone-which j k.number k.member)
start-hit T (Pair k) t a fixes tried h =
    let s = stands T.pairs (Pair k) in
    let g = pick T.zap T.instances s t (if_two k s) tried h in
    start-at T (Pair k) t a fixes tried g.number (instance_at T.instances g.number) refl g.passed g.is (which-of (twin_at T.pairs k) g.number g.member)

starts-by : (x : Instance) (of_kind : Bool) (a : ℕ) → (x.live && (of_kind && eqb x.base a)) ≡ true → (x.live ≡ true) × (x.base ≡ a)
starts-by x of_kind a h = (and_left x.live _ h, let t = and_right of_kind _ (and_right x.live _ h) in grind (arith, nat_tests))

pub block-fixes : (zap : Bool) (a : ℕ) → Fixes zap (Block a) a
block-fixes zap a = (λ x h. starts-by x (is_heap x.kind) a h, λ tried h. absurd (cc))

pub code-fixes : (zap : Bool) (a : ℕ) → Fixes zap (Code a) a
code-fixes zap a = (λ x h. starts-by x (is_function x.kind) a h, λ tried h. absurd (cc))

-- the two of a pair don't begin at one address, where each has a byte
apart-base : (o o' : Option Instance) (x y : Instance) (a : ℕ) → Meet o o' → o ≡ Some x → o' ≡ Some y → x.base ≡ a → y.base ≡ a → 1 ≤ x.size → ⊥
apart-base None o' x y a m e f b c some = m
apart-base (Some z) None x y a m e f b c some = m
apart-base (Some z) (Some v) x y a m e f b c some =
    let g : z ≡ x = same_Some z x e in
    let h : v ≡ y = same_Some v y f in
    let base : z.base ≡ x.base = ap (λ (q : Instance). q.base) g in
    let size : z.size ≡ x.size = ap (λ (q : Instance). q.size) g in
    let high : v.base ≡ y.base = ap (λ (q : Instance). q.base) h in
    omega (arith, m.2, base, size, high, b, c, some)

module _ (F : Type 0) (full : F) (ds : List Bool) where
  has-byte : (T : Table) → Sound F T.instances T.pairs → (i : ℕ) (x : Instance) → instance_at T.instances i ≡ Some x → 1 ≤ x.size
  has-byte T s i x e =
      let r = row_found T.instances i x (sym e) in
      let P : Instance → Type 0 = λ z. Lies F z in
      (subst P r.here (s.placed (i - 1) x r.within)).some full

  pub start-same : (T : Table) → Sound F T.instances T.pairs → (p : Prov) (a : ℕ) (t t' : Tried) (h : IsStart T p a t) (g : IsStart (on_table ds T) p a t') → g.number ≡ h.number
  start-same T s Empty a t t' h g = absurd h.which
  start-same T s (Inst j) a t t' h g = g.which ∙ sym h.which
  start-same T s (Pair k) a t t' h g = by h.which.2 g.which.2
    where
      w : Twin
      w = h.which.0

      v : Twin
      v = g.which.0

      same : (v.low ≡ w.low) × (v.high ≡ w.high)
      same = same-twin ds T.pairs (k - 1) w v h.which.1 g.which.1

      meets : HasMet T.instances w
      meets = pair-here T.pairs (k - 1) w (HasMet T.instances) h.which.1 s.met

      by : (h.number ≡ w.low) ⊎ (h.number ≡ w.high) → (g.number ≡ v.low) ⊎ (g.number ≡ v.high) → g.number ≡ h.number
      by (inl e) (inl f) = f ∙ same.0 ∙ sym e
      by (inr e) (inr f) = f ∙ same.1 ∙ sym e
      by (inl e) (inr f) = absurd (apart-base (instance_at T.instances w.low) (instance_at T.instances w.high) h.inst g.inst a meets
          (subst (λ i. instance_at T.instances i ≡ Some h.inst) e h.here) (subst (λ i. instance_at T.instances i ≡ Some g.inst) (f ∙ same.1) g.here) h.base g.base (has-byte T s h.number h.inst h.here))
      by (inr e) (inl f) = absurd (apart-base (instance_at T.instances w.low) (instance_at T.instances w.high) g.inst h.inst a meets
          (subst (λ i. instance_at T.instances i ≡ Some g.inst) (f ∙ same.0) g.here) (subst (λ i. instance_at T.instances i ≡ Some h.inst) e h.here) g.base h.base (has-byte T s g.number g.inst g.here))
