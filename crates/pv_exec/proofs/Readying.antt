-- What is done before the first turn, one after the other.
use Rattle.std.proofs.Common.{◌≡◌, ℕ, ◌+◌, ◌<◌, List, [], ◌∷◌, sym, ap, ◌∙◌, arith, Err}
use Rattle.std.specs.Prelude.{drop, length, get_or}
use Rattle.std.proofs.lemmas.List.{drop_more}
use Rattle.pv_world.specs.Worlds.{Worth, Nothing}
use Rattle.pv_eval.specs.States.{Setting, State, Res, Gives, then_do}
use Rattle.pv_eval.specs.Moments.{Made}
use Rattle.pv_eval.specs.declared.failure.Failure.{Failure}
use Rattle.std.specs.Prelude.{Some, Result}
use Rattle.std.specs.declared.option.Option.{Option}
use Rattle.pv_typed.specs.declared.values.Const.{Const}
use Rattle.pv_typed.specs.Addresses.{constant_of}
use Rattle.pv_typed.specs.TypedTree.{TypedTree}
use Rattle.pv_typed.specs.TypedUnits.{Store, StoredValue, ValueOf, TextOf}
use Rattle.pv_eval.specs.TypeForms.{lvalue, size_of}
use Rattle.pv_eval.specs.Operations.{Puts, PutsText, act}
use Rattle.pv_eval.specs.Constants.{constant_worth}
use Rattle.pv_exec.specs.OfRuns.{prepare, store_constant, store_static}
use Rattle.pv_exec.specs.Lists.{make_statics, make_literals, make_functions, initialize_statics}
use Rattle.pv_exec.proofs.Pieces.{made-stops, made-is}

-- one more was done, and one that ends the run
pub each-more : {A : Type 0} (f : List A → State → Res Worth) (g : A → State → Res Worth) → ((x : A) (xs : List A) (s : State) → f (x ∷ xs) s ≡ then_do (g x s) (λ v s. f xs s)) → (xs rest : List A) (x : A) (s s' : State) → xs ≡ x ∷ rest → g x s ≡ Gives Nothing s' → f xs s ≡ f rest s'
each-more f g law xs rest x s s' e h =
    ap (λ zs. f zs s) e ∙ law x rest s ∙ ap (λ (r : Res Worth). then_do r (λ v s. f rest s)) h

pub each-stops : {A : Type 0} (f : List A → State → Res Worth) (g : A → State → Res Worth) → ((x : A) (xs : List A) (s : State) → f (x ∷ xs) s ≡ then_do (g x s) (λ v s. f xs s)) → (xs rest : List A) (x : A) (y : Failure) (s s' : State) → xs ≡ x ∷ rest → Made (g x s) (Err y) s' → Made (f xs s) (Err y) s'
each-stops f g law xs rest x y s s' e h =
    made-is (then_do (g x s) (λ v s. f rest s)) (f xs s) (Err y) s' (ap (λ zs. f zs s) e ∙ law x rest s) (made-stops (g x s) (λ v s. f rest s) y s' h)

-- an element at a place within a list
pub split-at : {A R : Type 0} (ys : List A) (i : ℕ) → i < length ys → ((x : A) → drop i ys ≡ x ∷ drop (i + 1) ys → R) → R
split-at [] i lt k = absurd (omega (arith, lt))
split-at (y ∷ ys) i lt k = k (get_or (y ∷ ys) i y) (drop_more (y ∷ ys) i y lt)

pub first-same : {A : Type 0} (x y : A) (xs ys : List A) → x ∷ xs ≡ y ∷ ys → x ≡ y
first-same x y xs ys e = ap (λ zs. get_or zs 0 x) e

-- a static store of a constant
pub static-constant : (b : Setting) (o : ℕ) (x y : Store) (e : TypedTree) (c : Const) (w : Worth) (r : Result (Unit {0}) Failure) (s s' : State) → x ≡ y → y.what ≡ ValueOf e → constant_of b.unit e ≡ Some c → w ≡ constant_worth s.world c → Made (act b y.line (Puts o y.offset (lvalue b y.t) w) s) r s' → Made (store_static b o x x.what s) r s'
static-constant b o x y e c w r s s' is what const worth h =
    made-is (act b y.line (Puts o y.offset (lvalue b y.t) w) s) (store_static b o x x.what s) r s'
    (ap (λ (z : Store). store_static b o z z.what s) is
    ∙ ap (λ (q : StoredValue). store_static b o y q s) what
    ∙ ap (λ (q : Option Const). store_constant b o y q s) const
    ∙ ap (λ (w : Worth). act b y.line (Puts o y.offset (lvalue b y.t) w) s) (sym worth)) h

-- a static store of a string's characters
pub static-text : (b : Setting) (o : ℕ) (x y : Store) (l : ℕ) (r : Result (Unit {0}) Failure) (s s' : State) → x ≡ y → y.what ≡ TextOf l → Made (act b y.line (PutsText o y.offset (size_of b y.t) l) s) r s' → Made (store_static b o x x.what s) r s'
static-text b o x y l r s s' is what h =
    made-is (act b y.line (PutsText o y.offset (size_of b y.t) l) s) (store_static b o x x.what s) r s'
    (ap (λ (z : Store). store_static b o z z.what s) is ∙ ap (λ (q : StoredValue). store_static b o y q s) what) h

-- what comes behind the literals, and behind the static objects
abbrev behind-literals : Setting → Worth → State → Res Worth
behind-literals b v s = then_do (make_functions b b.unit.placed s) (λ v s. initialize_statics b b.unit.statics s)

abbrev behind-statics : Setting → Worth → State → Res Worth
behind-statics b v s = then_do (make_literals b b.unit.instances s) (behind-literals b)

-- one part before another
pub prepare-after : (b : Setting) (s s1 s2 s3 : State) → make_statics b b.unit.statics s ≡ Gives Nothing s1 → make_literals b b.unit.instances s1 ≡ Gives Nothing s2 → make_functions b b.unit.placed s2 ≡ Gives Nothing s3
    → prepare b s ≡ initialize_statics b b.unit.statics s3
prepare-after b s s1 s2 s3 h k l =
    ap (λ (r : Res Worth). then_do r (behind-statics b)) h ∙ ap (λ (r : Res Worth). then_do r (behind-literals b)) k
    ∙ ap (λ (r : Res Worth). then_do r (λ v s. initialize_statics b b.unit.statics s)) l

pub prepare-stops : (b : Setting) (e : Failure) (s s1 : State) → Made (make_statics b b.unit.statics s) (Err e) s1 → Made (prepare b s) (Err e) s1
prepare-stops b e s s1 h = made-stops (make_statics b b.unit.statics s) (behind-statics b) e s1 h

pub prepare-stops-later : (b : Setting) (e : Failure) (s s1 s2 : State) → make_statics b b.unit.statics s ≡ Gives Nothing s1 → Made (make_literals b b.unit.instances s1) (Err e) s2 → Made (prepare b s) (Err e) s2
prepare-stops-later b e s s1 s2 h k =
    made-is (then_do (make_literals b b.unit.instances s1) (behind-literals b)) (prepare b s) (Err e) s2
    (ap (λ (r : Res Worth). then_do r (behind-statics b)) h)
    (made-stops (make_literals b b.unit.instances s1) (behind-literals b) e s2 k)

pub prepare-stops-last : (b : Setting) (e : Failure) (s s1 s2 s3 : State) → make_statics b b.unit.statics s ≡ Gives Nothing s1 → make_literals b b.unit.instances s1 ≡ Gives Nothing s2
    → Made (make_functions b b.unit.placed s2) (Err e) s3 → Made (prepare b s) (Err e) s3
prepare-stops-last b e s s1 s2 s3 h k l =
    made-is (then_do (make_functions b b.unit.placed s2) (λ v s. initialize_statics b b.unit.statics s)) (prepare b s) (Err e) s3
    (ap (λ (r : Res Worth). then_do r (behind-statics b)) h ∙ ap (λ (r : Res Worth). then_do r (behind-literals b)) k)
    (made-stops (make_functions b b.unit.placed s2) (λ v s. initialize_statics b b.unit.statics s) e s3 l)
