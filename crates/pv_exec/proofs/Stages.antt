-- How far a run was let out, stage after stage.
use Rattle.std.proofs.Common.{inl, inr, ◌≡◌, ℕ, zero, suc, ◌+◌, ◌*◌, ◌^◌, ◌<◌, ◌≤◌, List, [], ◌∷◌, ◌++◌, append-nil, length-append, refl, sym, ap, ◌∙◌, subst, arith}
use Rattle.std.specs.Prelude.{Bool, true, false, nat_lt, length}
use Rattle.std.proofs.lemmas.Bool.{ltb-true, ltb-false}
use Rattle.std.specs.declared.option.Option.{Option}
use Rattle.pv_typed.specs.Known.{Each}
use Rattle.pv_eval.specs.declared.marked.Marked.{Marked}
use Rattle.pv_eval.specs.States.{State}
use Rattle.pv_eval.specs.Moments.{Moment, state_of}
use Rattle.pv_exec.specs.Streaming.{IsFar, BlockPart}
use Rattle.pv_exec.specs.Stages.{LetOut, IsBehind, Stands, StandsLast}

pub stands-first : (stage : ℕ → State) (k : ℕ) → k ≡ 0 → (stage zero).output ≡ [] → (stage zero).events ≡ [] → Stands stage k [] []
stands-first stage k e o v =
    let z : length (stage zero).output ≡ 0 = ap length o in
    subst (λ (i : ℕ). Stands stage i [] []) (sym e) (record { blocks = 0; whole = refl; told = sym v; few = omega (arith, z) })

each-behind : {A : Type 0} (P : A → Type 0) (xs ys : List A) → Each P (xs ++ ys) → Each P ys
each-behind P [] ys h = h
each-behind P (x ∷ xs) ys h = each-behind P xs ys h.1

-- where fewer bytes are kept than a block has, no event is far
none-far : (w n : ℕ) (es ws : List Marked) → IsFar w ws → Each (IsBehind n) (es ++ ws) → (w + 1 < 2 ^ 64 → n < w + 4096) → ws ≡ []
none-far w n es [] f h g = refl
none-far w n es (m ∷ ms) f h g =
    let near : m.mark ≤ n = (each-behind (IsBehind n) es (m ∷ ms) h).0 in
    let less : n < w + 4096 = g (omega (arith, f.0, f.1)) in
    absurd (omega (arith, f.0, near, less))

-- a stage whose blocks were written, and so its events told
pub stands-next : (stage : ℕ → State) (k w : ℕ) (bytes : List ℕ) (events : List Marked) (m : Moment) (a c : ℕ) → stage k ≡ state_of m bytes events → length bytes ≡ 4096 * (a + c) → length m.printed < 4096 → IsFar w m.waiting → Each (IsBehind (length (stage k).output)) (stage k).events → (w + 1 < 2 ^ 64 → w ≡ length bytes) → Stands stage k bytes events
stands-next stage k w bytes events m a c here whole few far behind exact =
    let out : length (stage k).output ≡ length bytes + length m.printed = ap (λ (s : State). length s.output) here ∙ length-append bytes m.printed in
    let es : (stage k).events ≡ events ++ m.waiting = ap (λ (s : State). s.events) here in
    let n = length (stage k).output in
    let none : m.waiting ≡ [] = none-far w n events m.waiting far (subst (λ (xs : List Marked). Each (IsBehind n) xs) es behind) (λ lt. omega (arith, exact lt, out, few)) in
    record {
      blocks = a + c;
      whole = whole;
      told = sym (es ∙ ap (λ (xs : List Marked). events ++ xs) none ∙ append-nil events);
      few = omega (arith, out, few);
    }

-- so do all stages in which nothing more was printed or told
pub stands-cut : (stage : ℕ → State) (k t : ℕ) (bytes : List ℕ) (events : List Marked) (m : Moment) → ((j : ℕ) → k ≤ j → j < t → stage (suc j) ≡ state_of (record m { taken = j }) bytes events) → k < t → Stands stage (suc k) bytes events → Stands stage t bytes events
stands-cut stage k zero bytes events m f lt h = absurd (omega (arith, lt))
stands-cut stage k (suc j) bytes events m f lt h =
    let here : stage (suc k) ≡ state_of (record m { taken = k }) bytes events = f k (omega arith) lt in
    let there : stage (suc j) ≡ state_of (record m { taken = j }) bytes events = f j (omega (arith, lt)) (omega arith) in
    let long : length (stage (suc j)).output ≡ length (stage (suc k)).output = ap (λ (s : State). length s.output) there ∙ sym (ap (λ (s : State). length s.output) here) in
    record {
      blocks = h.blocks;
      whole = h.whole;
      told = h.told ∙ ap (λ (s : State). s.events) here ∙ sym (ap (λ (s : State). s.events) there);
      few = omega (arith, long, h.few);
    }

pub stands-last : (stage : ℕ → State) (k t : ℕ) (bytes : List ℕ) (events : List Marked) (m : Moment) (q : Bool) → nat_lt k t ≡ q → ((j : ℕ) → k ≤ j → j < t → stage (suc j) ≡ state_of (record m { taken = j }) bytes events) → Stands stage (suc k) bytes events → StandsLast stage t bytes events
stands-last stage k t bytes events m true is f h = record { stages = t; stands = stands-cut stage k t bytes events m f (ltb-true k t is) h; last = omega arith }
stands-last stage k t bytes events m false is f h = record { stages = suc k; stands = h; last = let le = ltb-false k t is in omega (arith, le) }

-- a block that was full in the next stage could not be written
pub let-out-block : (stage : ℕ → State) (k last : ℕ) (bytes printed : List ℕ) (events : List Marked) (a b : Option (List ℕ)) → Stands stage k bytes events → (p : BlockPart a b printed) → (stage (suc k)).output ≡ bytes ++ printed → LetOut stage last (bytes ++ p.part.part) events
let-out-block stage k last bytes printed events a b h p out =
    let long = length-append bytes p.part.part in
    let next : length (stage (suc k)).output ≡ length bytes + length printed = ap length out ∙ length-append bytes printed in
    record {
      stages = k;
      blocks = h.blocks + p.blocks;
      begun = omega (arith, h.whole, p.begun, long);
      part = omega (arith, h.whole, p.block, long);
      told = h.told;
      before = omega (arith, h.whole, h.few);
      next = inr (omega (arith, next, h.whole, p.full));
    }

-- how many blocks there are in so many bytes
record Parted (n : ℕ) : Type 0 where
  blocks : ℕ
  begun : 4096 * blocks ≤ n
  part : n < 4096 * blocks + 4096

one-more : (n : ℕ) (p : Parted n) (t : Bool) → nat_lt (suc n) (4096 * p.blocks + 4096) ≡ t → Parted (suc n)
one-more n p true is =
    let lt : suc n < 4096 * p.blocks + 4096 = ltb-true (suc n) (4096 * p.blocks + 4096) is in
    record { blocks = p.blocks; begun = omega (arith, p.begun); part = lt }
one-more n p false is =
    let le : 4096 * p.blocks + 4096 ≤ suc n = ltb-false (suc n) (4096 * p.blocks + 4096) is in
    record { blocks = p.blocks + 1; begun = omega (arith, le); part = omega (arith, le, p.part) }

parted : (n : ℕ) → Parted n
parted zero = record { blocks = 0; begun = omega arith; part = omega arith }
parted (suc n) = let p = parted n in one-more n p (nat_lt (suc n) (4096 * p.blocks + 4096)) refl

-- all turns were taken, and what was left could not be written
pub let-out-last : (stage : ℕ → State) (taken : ℕ) (bytes part : List ℕ) (events : List Marked) → StandsLast stage taken bytes events → LetOut stage taken (bytes ++ part) events
let-out-last stage taken bytes part events h =
    let p = parted (length part) in
    let long = length-append bytes part in
    record {
      stages = h.stages;
      blocks = h.stands.blocks + p.blocks;
      begun = omega (arith, h.stands.whole, p.begun, long);
      part = omega (arith, h.stands.whole, p.part, long);
      told = h.stands.told;
      before = omega (arith, h.stands.whole, h.stands.few);
      next = inl h.last;
    }
