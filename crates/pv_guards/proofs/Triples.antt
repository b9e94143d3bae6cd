-- Pieces of a run that are the same with the guards as without them, and give values of their types: how they are put together.
use Rattle.std.proofs.Common.{◌≡◌, refl, subst, Bool, true, false}
use Rattle.std.specs.Prelude.{nat_lt, if◌then◌else◌}
use Rattle.pv_types.specs.Ty.{Ty}
use Rattle.pv_seq.specs.Sequencing.{Open}
use Rattle.pv_world.specs.Worlds.{Worth, World}
use Rattle.pv_eval.specs.States.{Setting, State, Res, Gives, Stops, Turns, then_do, spend}
use Rattle.pv_eval.specs.Sequenced.{Given, node_value}
use Rattle.pv_eval.specs.Steps.{tick_if}
use Rattle.pv_guards.specs.Soundness.{Value}

-- an order of worlds: what was made is there in a later one
pub record Order (b : Setting) (Sound : World → Type 0) (To : World → World → Type 0) : Type 0 where
  pub here : {w : World} → To w w
  pub on : {w t z : World} → To w t → To t z → To w z
  pub keeps : {w t : World} (u : Ty) (v : Worth) → To w t → Value b w u v → Value b t u v

module _ {b : Setting} {Sound : World → Type 0} {To : World → World → Type 0} (order : Order b Sound To) where
  -- what a piece leaves: a sound world, later than the one before, and what is asked of what it gives
  abbrev pub After : {A : Type 0} → (A → World → Type 0) → World → Res A → Type 0
  After Q w (Gives a s) = To w s.world × Sound s.world × Q a s.world
  After Q w (Stops y s) = Unit {0}

  -- a piece, beside the same without guards, from any sound world after this one
  abbrev pub Holds : {A : Type 0} → (A → World → Type 0) → World → (State → Res A) → (State → Res A) → Type 0
  Holds {A} Q w m m' = (s : State) → To w s.world → Sound s.world → (m s ≡ m' s) × After Q s.world (m s)

  abbrev pub Rest : {A B : Type 0} → (A → World → Type 0) → (B → World → Type 0) → World → (A → State → Res B) → (A → State → Res B) → Type 0
  Rest {A} Q R w f f' = (a : A) (t : World) → To w t → Q a t → Holds R t (f a) (f' a)

  pub gives : {A : Type 0} (Q : A → World → Type 0) (w : World) (a : A) → ((t : World) → To w t → Q a t) → Holds Q w (λ s. Gives a s) (λ s. Gives a s)
  gives Q w a h s g sound = (refl, (order.here, sound, h s.world g))

  later-by : {A B : Type 0} (Q : A → World → Type 0) (R : B → World → Type 0) (w : World) (f f' : A → State → Res B) → Rest Q R w f f' → (s : State) → To w s.world → (r : Res A) → After Q s.world r → (then_do r f ≡ then_do r f') × After R s.world (then_do r f)
  later-by Q R w f f' h s g (Gives a t) k =
      let p = h a t.world (order.on g k.0) k.2 t order.here k.1 in
      (p.0, step f R a t k.0 (f a t) p.1)
    where
      step : {A B : Type 0} (f : A → State → Res B) (R : B → World → Type 0) (a : A) (t : State) → To s.world t.world → (r : Res B) → After R t.world r → After R s.world r
      step f R a t k (Gives c z) q = (order.on k q.0, q.1, q.2)
      step f R a t k (Stops y z) q = tt
  later-by Q R w f f' h s g (Stops y t) k = (refl, tt)

  pub seq : {A B : Type 0} (Q : A → World → Type 0) (R : B → World → Type 0) (w : World) (m m' : State → Res A) (f f' : A → State → Res B) → Holds Q w m m' → Rest Q R w f f' → Holds R w (λ s. then_do (m s) f) (λ s. then_do (m' s) f')
  seq Q R w m m' f f' h k s g sound =
      let p = h s g sound in
      subst (λ r. (then_do (m s) f ≡ then_do r f') × After R s.world (then_do (m s) f)) p.0 (later-by Q R w f f' k s g (m s) p.1)

  weaker-by : {A : Type 0} (Q R : A → World → Type 0) → ((a : A) (z : World) → Q a z → R a z) → (w : World) (r : Res A) → After Q w r → After R w r
  weaker-by Q R f w (Gives a s) h = (h.0, h.1, f a s.world h.2)
  weaker-by Q R f w (Stops y s) h = tt

  pub weaker : {A : Type 0} (Q R : A → World → Type 0) → ((a : A) (z : World) → Q a z → R a z) → (w : World) (m m' : State → Res A) → Holds Q w m m' → Holds R w m m'
  weaker Q R f w m m' h s g sound = let p = h s g sound in (p.0, weaker-by Q R f s.world (m s) p.1)

  pub choice : {A : Type 0} (Q : A → World → Type 0) (w : World) (c : Bool) (m m' x x' : State → Res A) → Holds Q w m m' → Holds Q w x x' → Holds Q w (λ s. if c then m s else x s) (λ s. if c then m' s else x' s)
  choice Q w true m m' x x' h k = h
  choice Q w false m m' x x' h k = k

  tick-by : {A : Type 0} (Q : A → World → Type 0) (w : World) (c : Bool) (m m' : State → Res A) (y : State → Res A) → ((s : State) → After Q s.world (y s)) → Holds Q w m m' → Holds Q w (λ s. if c then m (spend s) else y s) (λ s. if c then m' (spend s) else y s)
  tick-by Q w true m m' y k h s g sound = h (spend s) g sound
  tick-by Q w false m m' y k h s g sound = (refl, k s)

  pub ticks : {A : Type 0} (Q : A → World → Type 0) (w : World) (c : Bool) (m m' : State → Res A) → Holds Q w m m' → Holds Q w (λ s. tick_if c b s m) (λ s. tick_if c b s m')
  ticks Q w true m m' h s g sound = tick-by Q w (nat_lt s.taken b.bound) m m' (λ s. Stops Turns s) (λ s. tt) h s g sound
  ticks Q w false m m' h s g sound = h s g sound

  -- what an expression gives
  abbrev pub Gave : Ty → Given → World → Type 0
  Gave t g w = Value b w t g.value

  pub done-holds : (w : World) (t : Ty) (j : Open) (v : Worth) → Value b w t v → Holds (Gave t) w (node_value j v) (node_value j v)
  done-holds w t j v h = gives (Gave t) w _ (λ z g. order.keeps t v g h)
