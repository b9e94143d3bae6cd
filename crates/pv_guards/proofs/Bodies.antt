-- Calls of a unit's functions, and what lies below at every level, with the guards and without (C17 6.5.2.2, 6.8.5, 6.9.1).
use Rattle.std.proofs.Common.{◌≡◌, ℕ, zero, suc, Bool, true, false, List, [], ◌∷◌, ◌++◌, Some, None, refl, sym, ap, ◌∙◌, subst, inl, inr, arith}
use Rattle.std.specs.Prelude.{pos, is_some, if◌then◌else◌}
use Rattle.std.specs.declared.option.Option.{Option}
use Rattle.std.specs.FinMap as map
use Rattle.pv_num.specs.declared.kinds.IntKind.TheVariants.{Int}
use Rattle.pv_types.specs.Ty.{Ty, Tys, NoTys, MoreTys, VoidTy, IntTy, PointerTo, ArrayOf, StructTag, UnionTag, FunctionTy, ConstOf}
use Rattle.pv_types.specs.Sorts.{bare_type}
use Rattle.pv_typed.specs.TypedStatement.{TypedStatement}
use Rattle.pv_typed.specs.TypedUnits.{TypedFunction, layouts, object_at, function_at}
use Rattle.pv_world.specs.Worlds.{Worth, Nothing, Missing, World, Body}
use Rattle.pv_world.specs.Worths.{int}
use Rattle.pv_world.specs.Objects.{begun_body, instance_of}
use Rattle.pv_world.specs.ObjectParts.{without_first}
use Rattle.pv_eval.specs.States.{Setting, State, Res, Gives, Stops}
use Rattle.pv_typed.specs.Known.{Each}
use Rattle.pv_eval.specs.TypeForms.{lvalue, size_of, gives_none}
use Rattle.pv_eval.specs.Acting.{with_side}
use Rattle.pv_eval.specs.Operations.{Makes, BeginsBody, EndsBody, Puts, works, act}
use Rattle.pv_exec.specs.Flows.{Flow, Falls, Breaks, Continues, Returns, Below}
use Rattle.pv_exec.specs.OfRuns.{end_all, ex, take_params, runs_body, call_body, below}
use Rattle.pv_exec.specs.Calls.{below_by, value_at_end, value_by}
use Rattle.pv_exec.specs.CallParts.{is_main}
use Rattle.pv_guards.specs.Worths.{IsOfType, IsThere}
use Rattle.pv_guards.specs.Typed.{IsIn, AreLike, AreAllLike, IsSignature}
use Rattle.pv_guards.specs.Soundness.{Value, AreValues, IsHome, IsSound, IsAfter}
use Rattle.pv_guards.specs.Plain.{act_plainly}
use Rattle.pv_guards.specs.PlainParts as parts
use Rattle.pv_guards.specs.TypedStatements.{IsMakeable, IsParameter, AreParameters, IsResult, IsDefinition, IsTypedFunction, IsTypedUnit}
use Rattle.pv_guards.specs.Laws.{GivesSound, CallsAgree}
use Rattle.pv_guards.proofs.Numbers.{zero_fits}
use Rattle.pv_guards.proofs.Values.{from-bare, to-bare}
use Rattle.pv_guards.proofs.Fair.{Keeps}
use Rattle.pv_guards.proofs.Results.{Answering}
use Rattle.pv_guards.proofs.Living.{all-same}
use Rattle.pv_guards.proofs.Leaving.{after-both, homes-later, apart-later, value-later}
use Rattle.pv_guards.proofs.Acting.{sides-keep}
use Rattle.pv_guards.proofs.Sure.{Lands, Sure, sure-seq, sure-more, acted-lands}
use Rattle.pv_guards.proofs.Objects.{Within, in-scope, puts-holds, makes-sure, within-sided}
use Rattle.pv_guards.proofs.Statements.{none-nothing, value-missing, moved-in, before-in, FlowOf, flow-later, EndsIn, Level, piece, end-sure, inv-less, ex-sure, round-sure, round_do-sure}

signature-of : (x t : Ty) (ts : Tys) → IsSignature x t ts → (r : Ty) × (us : Tys) × (x ≡ FunctionTy r us false) × AreLike r t × AreAllLike ts us
signature-of (FunctionTy r us false) t ts h = (r, us, refl, h.0, h.1)
signature-of (FunctionTy r us true) t ts h = absurd h
signature-of VoidTy t ts h = absurd h
signature-of (IntTy k) t ts h = absurd h
signature-of (PointerTo a) t ts h = absurd h
signature-of (ArrayOf a n) t ts h = absurd h
signature-of (StructTag n) t ts h = absurd h
signature-of (UnionTag n) t ts h = absurd h
signature-of (ConstOf a) t ts h = absurd h

values-like : (b : Setting) (w : World) (ts us : Tys) (vs : List Worth) → AreAllLike ts us → AreValues b w ts vs → AreValues b w us vs
values-like b w NoTys NoTys vs h g = g
values-like b w NoTys (MoreTys u us) vs h g = absurd h
values-like b w (MoreTys t ts) NoTys vs h g = absurd h
values-like b w (MoreTys t ts) (MoreTys u us) [] h g = absurd g
values-like b w (MoreTys t ts) (MoreTys u us) (v ∷ vs) h g =
    ((to-bare (layouts b.unit) u v ((h.0 (layouts b.unit) v).0 (from-bare (layouts b.unit) t v g.0.0)), g.0.1), g.1, values-like b w ts us vs h.1 g.2)

-- 6.9.1p10: the parameters of a call whose arguments had their values in an earlier world
module _ (b : Setting) (rest : List Body) (w0 : World) where
  put-sure : (os : List ℕ) (line o : ℕ) (v : Worth) (t : Ty) (s : State) → IsIn o os → IsParameter b.unit o t → Value b w0 (bare_type t) v → IsThere v → Within b os rest w0 s.world
      → Sure (λ x z. Within b os rest w0 z) (act b line (Puts o 0 (lvalue b (object_at b.unit o).t) v) s) (act_plainly b line (Puts o 0 (lvalue b (object_at b.unit o).t) v) s)
  put-sure os line o v t s among m g there i =
      let u = (object_at b.unit o).t in
      let l = lvalue b u in
      let env = layouts b.unit in
      let typed : IsOfType env (bare_type u) v = to-bare env u v ((m.1 env v).0 (from-bare env t v g.0)) in
      sure-more _ (λ x z. Within b os rest w0 z) (act b line (Puts o 0 l v) s) (act_plainly b line (Puts o 0 l v) s) (λ x z p. p.1)
      (piece b rest w0 os (λ x z. Unit {0}) (act b line (Puts o 0 l v)) (act_plainly b line (Puts o 0 l v)) s i
      (puts-holds b os line o s.world (in-scope b os o m.0.storage among) m.0.small 0 u v (omega arith) m.2 there (λ z a. (typed, value-later w0.memory.table z.memory.table (λ p h. a.made p (i.later.made p h)) v g.1))))

  params-sure : (line : ℕ) (os ps : List ℕ) (ts : Tys) (vs : List Worth) → AreParameters b.unit ps ts → AreValues b w0 ts vs → (s : State) → Within b os rest w0 s.world
      → Sure (λ x z. Within b (ps ++ os) rest w0 z) (take_params b line ps vs s) (parts.take_params b line ps vs s)
  params-sure line os [] NoTys vs h g s i = (refl, i)
  params-sure line os [] (MoreTys t ts) vs h g s i = absurd h
  params-sure line os (o ∷ ps) NoTys vs h g s i = absurd h
  params-sure line os (o ∷ ps) (MoreTys t ts) [] h g s i = absurd g
  params-sure line os (o ∷ ps) (MoreTys t ts) (v ∷ vs) h g s i =
      sure-seq (λ x z. Within b (o ∷ os) rest w0 z) (λ x z. Within b (o ∷ ps ++ os) rest w0 z) (act b line (Makes o) s) (act_plainly b line (Makes o) s) _ _ (makes-sure b os rest w0 line o s h.0.0 i) (λ x y k.
      sure-seq (λ x z. Within b (o ∷ os) rest w0 z) (λ x z. Within b (o ∷ ps ++ os) rest w0 z) (act b line (Puts o 0 (lvalue b (object_at b.unit o).t) v) y) (act_plainly b line (Puts o 0 (lvalue b (object_at b.unit o).t) v) y) _ _ (put-sure (o ∷ os) line o v t y (inl refl) h.0 g.0 g.1 k) (λ x z q.
      sure-more (λ x z. Within b (ps ++ o ∷ os) rest w0 z) (λ x z. Within b (o ∷ ps ++ os) rest w0 z) (take_params b line ps vs z) (parts.take_params b line ps vs z)
      (λ x y n. inv-less b rest w0 (o ∷ ps ++ os) (ps ++ o ∷ os) y (moved-in o ps os) n) (params-sure line (o ∷ os) ps ts vs h.1 g.2 z q)))

-- 6.9.1: a body begins and ends
module _ (b : Setting) (os : List ℕ) (w : World) (s : IsSound b os w) where
  -- 6.2.4p3: static objects alone are in scope where a body begins
  static-scope : (o : ℕ) (c : Bool) → IsIn o (if c then b.unit.statics else []) → IsIn o (if c then b.unit.statics else os)
  static-scope o true h = h
  static-scope o false h = absurd h

  abbrev inner : (f line : ℕ) → World
  inner f line = begun_body w f line

  inner-same : (f line o : ℕ) (c : Bool) → IsIn o (if c then b.unit.statics else []) → instance_of (inner f line) o c ≡ instance_of w o c
  inner-same f line o true h = refl
  inner-same f line o false h = absurd h

  body-begins : (f line : ℕ) → Within b [] w.bodies w (inner f line)
  body-begins f line = record {
    later = record { made = λ p h. h; lives = all-same w.memory.table; statics = refl; literals = refl; functions = refl };
    sound = record {
      laid = s.laid;
      bytes = s.bytes;
      objects = λ o g.
          let c = (object_at b.unit o).lasting in
          let n = size_of b (object_at b.unit o).t in
          subst (λ i. IsHome w.memory.table i n) (sym (inner-same f line o c g)) (s.objects o (static-scope o c g));
      apart = λ o q g k e.
          let c = (object_at b.unit o).lasting in
          let d = (object_at b.unit q).lasting in
          s.apart o q (static-scope o c g) (static-scope q d k) (sym (inner-same f line o c g) ∙ e ∙ inner-same f line q d k);
      literals = s.literals;
      functions = s.functions;
      code = s.code;
      owned = s.owned;
    };
    body = (record { function = f; line = line; bindings = map.empty }, refl);
    own = λ o h e. absurd h;
  }

  -- behind the call the caller's objects are in scope again
  abbrev Back : World → Worth → World → Type 0
  Back t v z = IsAfter w z × IsSound b os z × Keeps t.memory.table z.memory.table

  body-ends : (t : World) → Within b [] w.bodies w t → Back t Nothing (record t { bodies = without_first t.bodies })
  body-ends t h =
      let z : World = record t { bodies = without_first t.bodies } in
      let a : IsAfter w z = record { made = h.later.made; lives = h.later.lives; statics = h.later.statics; literals = h.later.literals; functions = h.later.functions; bodies = ap without_first h.body.1 } in
      let sound : IsSound b os z = record {
        laid = h.sound.laid;
        bytes = h.sound.bytes;
        objects = homes-later b os w z a.statics a.bodies a.lives s;
        apart = apart-later b os w z a.statics a.bodies s;
        literals = h.sound.literals;
        functions = h.sound.functions;
        code = h.sound.code;
        owned = h.sound.owned;
      } in
      (a, sound, λ p k. k)

  back-sided : (t : World) (v : Worth) (z : World) (k : ℕ) (high : Bool) → Back t v z → Back t v (with_side z k high)
  back-sided t v z k high h = let g = sides-keep b os z k high h.1 in (after-both h.0 g.0, g.1, λ p q. g.0.made p (h.2 p q))

  leaves-sure : (line : ℕ) (t : State) → Within b [] w.bodies w t.world → Sure (Back t.world) (act b line EndsBody t) (act_plainly b line EndsBody t)
  leaves-sure line t h = (refl, acted-lands b (Back t.world) (back-sided t.world) line (works b EndsBody t.world) t (body-ends t.world h))

  begins-sure : (f line : ℕ) (t : State) → t.world ≡ w → Sure (λ v z. Within b [] w.bodies w z) (act b line (BeginsBody f line) t) (act_plainly b line (BeginsBody f line) t)
  begins-sure f line t e =
      (refl, acted-lands b (λ v z. Within b [] w.bodies w z) (within-sided b [] w.bodies w) line (works b (BeginsBody f line) t.world) t (subst (λ x. Answering (λ v z. Within b [] w.bodies w z) (works b (BeginsBody f line) x)) (sym e) (body-begins f line)))

-- 6.9.1p10: the objects of parameters can be made
makeable : (b : Setting) (ps : List ℕ) (ts : Tys) → AreParameters b.unit ps ts → Each (IsMakeable b.unit false) ps
makeable b [] ts h = tt
makeable b (o ∷ ps) NoTys h = absurd h
makeable b (o ∷ ps) (MoreTys t ts) h = (h.0.0, makeable b ps ts h.1)

none-behind : (os : List ℕ) (n : ℕ) → IsIn n (os ++ []) → IsIn n os
none-behind [] n h = h
none-behind (o ∷ os) n (inl e) = inl e
none-behind (o ∷ os) n (inr h) = inr (none-behind os n h)

module _ (b : Setting) (unit : IsTypedUnit b.unit) where
  -- 6.9.1p12: what there is where the `}` is reached
  end-value : (x : TypedFunction) (r : Ty) (us : Tys) → IsTypedFunction b.unit x r us → x.t ≡ FunctionTy r us false → (z : World) → Value b z r (value_at_end b x)
  end-value x r us f e z = by (is_main b.unit x) refl (gives_none x.t) refl
    where
      by : (c : Bool) → is_main b.unit x ≡ c → (d : Bool) → gives_none x.t ≡ d → Value b z r (if c then int (pos 0) else (if d then Nothing else Missing))
      by true p d q = (from-bare (layouts b.unit) r (int (pos 0)) (subst (λ t. IsOfType (layouts b.unit) t (int (pos 0))) (sym (f.main p)) (zero_fits Int)), tt)
      by false p true q = (none-nothing (layouts b.unit) r (sym (ap gives_none e) ∙ q), tt)
      by false p false q = missing f.result
        where
          missing : IsResult r → Value b z r Missing
          missing (inl n) = let k : true ≡ false = sym n ∙ (sym (ap gives_none e) ∙ q) in absurd cc
          missing (inr v) = (from-bare (layouts b.unit) r Missing (value-missing (layouts b.unit) (bare_type r) v), tt)

  flow-value : (x : TypedFunction) (r : Ty) (us : Tys) → IsTypedFunction b.unit x r us → x.t ≡ FunctionTy r us false → (fl : Flow) (z : World) → FlowOf b r fl z → Value b z r (value_by b x fl)
  flow-value x r us f e (Returns v) z h = h.0
  flow-value x r us f e Falls z h = end-value x r us f e z
  flow-value x r us f e Breaks z h = end-value x r us f e z
  flow-value x r us f e Continues z h = end-value x r us f e z

  -- 5.1.2.2.3p1: what `main` gives is there
  zero-there : (c d : Bool) → c ≡ true → IsThere (if c then int (pos 0) else (if d then Nothing else Missing))
  zero-there true d e = tt
  zero-there false d e = absurd cc

  main-there : (x : TypedFunction) (r : Ty) (fl : Flow) (z : World) → FlowOf b r fl z → is_main b.unit x ≡ true → IsThere (value_by b x fl)
  main-there x r (Returns v) z h e = h.1
  main-there x r Falls z h e = zero-there (is_main b.unit x) (gives_none x.t) e
  main-there x r Breaks z h e = zero-there (is_main b.unit x) (gives_none x.t) e
  main-there x r Continues z h e = zero-there (is_main b.unit x) (gives_none x.t) e

  module _ (u u' : Below) (level : Level b u u') where
    -- 6.9.1p10, p11: the parameters, and then the body
    taken-sure : (rest : List Body) (w0 : World) (r : Ty) (us : Tys) (ps : List ℕ) (x : Option TypedStatement) → IsDefinition b.unit r us ps x → (line : ℕ) (vs : List Worth) → AreValues b w0 us vs → (s : State) → Within b [] rest w0 s.world
        → Sure (λ v z. Within b ps rest w0 z) (take_params b line ps vs s) (parts.take_params b line ps vs s)
    taken-sure rest w0 r us ps (Some x) d line vs g s i =
        sure-more (λ v z. Within b (ps ++ []) rest w0 z) (λ v z. Within b ps rest w0 z) (take_params b line ps vs s) (parts.take_params b line ps vs s)
        (λ v z q. inv-less b rest w0 ps (ps ++ []) z (before-in ps) q) (params-sure b rest w0 line [] ps us vs d.0 g s i)
    taken-sure rest w0 r us ps None d line vs g s i =
        subst (λ os. Sure (λ v z. Within b os rest w0 z) (take_params b line os vs s) (parts.take_params b line os vs s)) (sym d) (refl, i)

    runs-sure : (rest : List Body) (w0 : World) (r : Ty) (us : Tys) (ps : List ℕ) (x : Option TypedStatement) → is_some x ≡ true → IsDefinition b.unit r us ps x → (s : State) → Within b ps rest w0 s.world → Sure (EndsIn b rest w0 r ps) (runs_body b u x s) (parts.runs_body b u' x s)
    runs-sure rest w0 r us ps None there h s i = absurd cc
    runs-sure rest w0 r us ps (Some x) there h s i = ex-sure b rest w0 unit.characters u u' level r ps x h.2 s i

    -- 6.2.4p6: the parameters end
    ended-sure : (rest : List Body) (w0 : World) (r : Ty) (us : Tys) (ps : List ℕ) (x : Option TypedStatement) → IsDefinition b.unit r us ps x → (s : State) → Within b ps rest w0 s.world
        → Sure (λ v z. Within b [] rest w0 z × Keeps s.world.memory.table z.memory.table) (end_all b ps s) (parts.end_all b ps s)
    ended-sure rest w0 r us ps (Some x) d s i =
        end-sure b rest w0 [] ps (makeable b ps us d.0) d.1 s (inv-less b rest w0 (ps ++ []) ps s.world (λ n k. none-behind ps n k) i)
    ended-sure rest w0 r us ps None d s i =
        subst (λ os. Within b os rest w0 s.world → Sure (λ v z. Within b [] rest w0 z × Keeps s.world.memory.table z.memory.table) (end_all b os s) (parts.end_all b os s)) (sym d) (λ k. (refl, (k, λ p g. g))) i

    -- a call of a function with this result and these parameters
    abbrev Called : List ℕ → TypedFunction → Ty → World → Worth → World → Type 0
    Called os x t w v z = Value b z t v × IsSound b os z × IsAfter w z × (is_main b.unit x ≡ true → IsThere v)

    pub call-sure : (os : List ℕ) (x : TypedFunction) (r : Ty) (us : Tys) → IsTypedFunction b.unit x r us → x.t ≡ FunctionTy r us false → is_some x.body ≡ true → (vs : List Worth) (line : ℕ) (s : State) → AreValues b s.world us vs → IsSound b os s.world → Sure (Called os x r s.world) (call_body b u x vs line s) (parts.call_body b u' x vs line s)
    call-sure os x r us f e there vs line s g sound =
        let w = s.world in
        let rest = w.bodies in
        let ps = x.params in
        sure-seq (λ v z. Within b [] rest w z) (Called os x r w) (act b line (BeginsBody x.name line) s) (act_plainly b line (BeginsBody x.name line) s) _ _ (begins-sure b os w sound x.name line s refl) (λ v t i.
        sure-seq (λ v z. Within b ps rest w z) (Called os x r w) (take_params b line ps vs t) (parts.take_params b line ps vs t) _ _ (taken-sure rest w r us ps x.body f.definition line vs g t i) (λ v t i.
        sure-seq (EndsIn b rest w r ps) (Called os x r w) (runs_body b u x.body t) (parts.runs_body b u' x.body t) _ _ (runs-sure rest w r us ps x.body there f.definition t i) (λ fl t i.
        sure-seq (λ v z. Within b [] rest w z × Keeps t.world.memory.table z.memory.table) (Called os x r w) (end_all b ps t) (parts.end_all b ps t) _ _ (ended-sure rest w r us ps x.body f.definition t i.0) (λ v y k.
        sure-seq (Back b os w sound y.world) (Called os x r w) (act b line EndsBody y) (act_plainly b line EndsBody y) _ _ (leaves-sure b os w sound line y k.0) (λ v q h.
        let g : FlowOf b r fl q.world = flow-later b r fl y.world q.world h.2 (flow-later b r fl t.world y.world k.1 i.1) in
        (refl, (flow-value x r us f e fl q.world g, h.1, h.0, main-there x r fl q.world g)))))))

    given-sound : (os : List ℕ) (f : TypedFunction) (r t : Ty) (w : World) (x : Res Worth) → AreLike r t → Lands (Called os f r w) x → GivesSound b os (λ v. v) t w x
    given-sound os f r t w (Gives v s) l h = (((l (layouts b.unit) v).0 h.0.0, h.0.1), h.1, h.2)
    given-sound os f r t w (Stops y s) l h = tt

    calls-agree : (os : List ℕ) → CallsAgree b os (λ f vs line s. call_body b u (function_at b.unit f) vs line s) (λ f vs line s. parts.call_body b u' (function_at b.unit f) vs line s)
    calls-agree os f line t ts vs s h g sound =
        let x = function_at b.unit f in
        let sg = signature-of x.t t ts h.2 in
        let p = call-sure os x sg.0 sg.1 (unit.functions f sg.0 sg.1 h.0 sg.2) sg.2 h.1 vs line s (values-like b s.world ts sg.1 vs sg.4 g) sound in
        (p.0, given-sound os x sg.0 t s.world (call_body b u x vs line s) sg.3 p.1)

  -- every level
  pub levels : (k : ℕ) → Level b (below b k) (parts.below b k)
  unfolding below_by
  levels zero = record { call = λ os f line t ts vs s h g sound. (refl, tt); again = λ rest w0 r os c step x hc hs hx s i. (refl, tt); again_do = λ rest w0 r os x c hx hc s i. (refl, tt) }
  levels (suc k) =
      let l = levels k in
      let u : Below = below b k in
      let u' : Below = parts.below b k in
      record {
        call = λ os. calls-agree u u' l os;
        again = λ rest w0 r os c step x hc hs hx s i. round-sure b rest w0 unit.characters u u' l r os c step (ex b u x) (parts.ex b u' x) (u.again c step x) (u'.again c step x) hc hs (λ s i. ex-sure b rest w0 unit.characters u u' l r os x hx s i) (λ s i. l.again rest w0 r os c step x hc hs hx s i) s i;
        again_do = λ rest w0 r os x c hx hc s i. round_do-sure b rest w0 unit.characters u u' l r os c (ex b u x) (parts.ex b u' x) (u.again_do x c) (u'.again_do x c) hc (λ s i. ex-sure b rest w0 unit.characters u u' l r os x hx s i) (λ s i. l.again_do rest w0 r os x c hx hc s i) s i;
      }
