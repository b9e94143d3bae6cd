-- What watchers say who come to a run having seen nothing.
use Rattle.std.proofs.Common.{◌≡◌, ℕ, ◌+◌, ◌<◌, List, [], ◌∷◌, ◌++◌, take, length, Bool, true, false, cond, refl, sym, ap, ◌∙◌, subst, arith, append_assoc}
use Rattle.std.specs.Prelude.{Option, None, Some, ◌==◌}
use Rattle.std.specs.List.{filter, AllZip}
use Rattle.std.proofs.lemmas.Bool.Decides.{nat_tests}
use Rattle.std.proofs.lemmas.List.{take_all, length-append, append-nil}
use Rattle.pv_watch.specs.declared.event.Event.{Event}
use Rattle.pv_watch.specs.Seen.{Kind}
use Rattle.pv_watch.specs.Kinds.{kind_meant}
use Rattle.pv_watch.specs.Shipped.{shipped}
use Rattle.pv_watch.specs.Slots.{Slot, Present, Left, Stays, After, Told, Says, SayAll, is_kept}
use Rattle.pv_serve.specs.Jobs.{Job, kinds_of, watched_of}
use Rattle.pv_serve.specs.Verdicts.{Course}
use Rattle.pv_serve.specs.Watching.{AreFresh, AreTold, IsReport, kept_by, story_of, stories}

-- ---- one watcher

abbrev ToldOne : List (List ℕ) → Slot → List Event → Slot → Type 0
ToldOne names slot [] now = now ≡ slot
ToldOne names slot (e ∷ es) now = (next : Slot) × After e names slot next × ToldOne names next es now

left_stays : (names : List (List ℕ)) (number : ℕ) (text : List ℕ) (events : List Event) (now : Slot) → ToldOne names (Left number text) events now → now ≡ Left number text
left_stays names number text [] now h = h
left_stays names number text (e ∷ es) now h = left_stays names number text es now (subst (λ (s : Slot). ToldOne names s es now) h.1 h.2)

take_front : (n : ℕ) (xs ys : List Event) → length xs ≡ n → take n (xs ++ ys) ≡ xs
take_front n [] ys e = subst (λ (k : ℕ). take k ys ≡ []) e refl
take_front n (x ∷ xs) ys e = subst (λ (k : ℕ). take k (x ∷ (xs ++ ys)) ≡ x ∷ xs) e (ap (λ (zs : List Event). x ∷ zs) (take_front (length xs) xs ys refl))

less : (n m w : ℕ) → m ≡ n + 1 → n < w → (m == w) ≡ false → m < w
less n m w e lt ne = grind (arith, nat_tests)

same_number : (m w : ℕ) → (m == w) ≡ true → m ≡ w
same_number m w e = grind (arith, nat_tests)

abbrev Tells : Kind → (wants : ℕ) → List Event → List (List ℕ) → List ℕ → Type 0
Tells kind wants events names t = t ≡ (kind_meant kind).text wants (take wants events) names

tells_by : (kind : Kind) (wants : ℕ) (seen events : List Event) (names : List (List ℕ)) (t : List ℕ) → take wants events ≡ seen → t ≡ (kind_meant kind).text wants seen names → Tells kind wants events names t
tells_by kind wants seen events names t e h = subst (λ (xs : List Event). t ≡ (kind_meant kind).text wants xs names) (sym e) h

-- it has seen one event more, and goes on or has left
tells_next : (b : Bool) (kind : Kind) (wants : ℕ) (seen : List Event) (e : Event) (es : List Event) (names : List (List ℕ)) (next now : Slot) (t : List ℕ)
    → length seen < wants → (length (seen ++ e ∷ []) == wants) ≡ b → Stays b kind wants (seen ++ e ∷ []) names next → ToldOne names next es now → Says names now t
    → ((more : List Event) → length more < wants → ToldOne names (Present kind wants more) es now → Tells kind wants (more ++ es) names t)
    → Tells kind wants ((seen ++ e ∷ []) ++ es) names t
tells_next true kind wants seen e es names (Present k w s) now t room is h told says go = absurd h
tells_next true kind wants seen e es names (Left number text) now t room is h told says go =
    let same : t ≡ text = subst (λ (s : Slot). Says names s t) (left_stays names number text es now told) says in
    tells_by kind wants (seen ++ e ∷ []) ((seen ++ e ∷ []) ++ es) names t (take_front wants (seen ++ e ∷ []) es (same_number (length (seen ++ e ∷ [])) wants is)) (same ∙ h.1)
tells_next false kind wants seen e es names next now t room is h told says go =
    go (seen ++ e ∷ []) (less (length seen) (length (seen ++ e ∷ [])) wants (length-append seen (e ∷ [])) room is) (subst (λ (s : Slot). ToldOne names s es now) h told)

tells_one : (kind : Kind) (wants : ℕ) (seen events : List Event) (names : List (List ℕ)) (now : Slot) (t : List ℕ) → length seen < wants
    → ToldOne names (Present kind wants seen) events now → Says names now t → Tells kind wants (seen ++ events) names t
tells_one kind wants seen [] names now t room told says =
    tells_by kind wants seen (seen ++ []) names t (take_all wants (seen ++ []) (omega (arith, room, length-append {A = Event} seen [])) ∙ append-nil seen)
    (subst (λ (s : Slot). Says names s t) told says)
tells_one kind wants seen (e ∷ es) names now t room told says =
    subst (λ (xs : List Event). Tells kind wants xs names t) (append_assoc seen (e ∷ []) es)
    (tells_next (length (seen ++ e ∷ []) == wants) kind wants seen e es names told.0 now t room refl told.1 told.2 says
    (λ more room' told'. tells_one kind wants more es names now t room' told' says))

-- ---- all of them

record Parted (names : List (List ℕ)) (x : Slot) (xs : List Slot) (events : List Event) (new : List Slot) : Type 0 where
  y : Slot
  ys : List Slot
  is : new ≡ y ∷ ys
  one : ToldOne names x events y
  rest : Told xs events names ys

parted_next : (names : List (List ℕ)) (x : Slot) (xs : List Slot) (e : Event) (es : List Event) (next new : List Slot) → AllZip (After e names) (x ∷ xs) next → Told next es names new
    → ((m : Slot) (ms : List Slot) → Told (m ∷ ms) es names new → Parted names m ms es new) → Parted names x xs (e ∷ es) new
parted_next names x xs e es [] new z h go = absurd z
parted_next names x xs e es (m ∷ ms) new z h go =
    let p = go m ms h in
    record { y = p.y; ys = p.ys; is = p.is; one = (m, z.0, p.one); rest = (ms, z.1, p.rest) }

parted : (names : List (List ℕ)) (x : Slot) (xs : List Slot) (events : List Event) (new : List Slot) → Told (x ∷ xs) events names new → Parted names x xs events new
parted names x xs [] new h = record { y = x; ys = xs; is = h; one = refl; rest = refl }
parted names x xs (e ∷ es) new h = parted_next names x xs e es h.0 new h.1 h.2 (λ m ms k. parted names m ms es new k)

none_next : (names : List (List ℕ)) (e : Event) (next : List Slot) → AllZip (After e names) [] next → next ≡ []
none_next names e [] z = refl
none_next names e (m ∷ ms) z = absurd z

none_told : (names : List (List ℕ)) (events : List Event) (new : List Slot) → Told [] events names new → new ≡ []
none_told names [] new h = h
none_told names (e ∷ es) new h = none_told names es new (subst (λ (ss : List Slot). Told ss es names new) (none_next names e h.0 h.1) h.2)

all_tell : (c : Course) (kept new : List Slot) (text : List ℕ) → AreFresh kept → Told kept c.events c.names new → SayAll c.names new text → text ≡ stories c kept
all_tell c [] new text fresh told says = subst (λ (ss : List Slot). SayAll c.names ss text) (none_told c.names c.events new told) says
all_tell c ((Left number left) ∷ xs) new text fresh told says = absurd fresh
all_tell c ((Present kind wants seen) ∷ xs) new text fresh told says =
    let p = parted c.names (Present kind wants seen) xs c.events new told in
    let s = subst (λ (ss : List Slot). SayAll c.names ss text) p.is says in
    let one = subst (λ (es : List Event). ToldOne c.names (Present kind wants es) c.events p.y) fresh.0 p.one in
    let first = tells_one kind wants [] c.events c.names p.y s.0 fresh.1 one s.3 in
    s.2 ∙ ap (λ (bytes : List ℕ). bytes ++ s.1) first ∙ ap (λ (bytes : List ℕ). story_of c (Present kind wants seen) ++ bytes) (all_tell c xs p.ys s.1 fresh.2 p.rest s.4)

pub watchers_tell : (kept new : List Slot) (c : Course) (line text : List ℕ) → AreFresh kept → AreTold (Some c) kept new → IsReport (Some c) new line text → text ≡ line ++ stories c kept
watchers_tell kept new c line text fresh told report = report.2 ∙ ap (λ (bytes : List ℕ). line ++ bytes) (all_tell c kept new report.0 fresh told report.1)

-- one watcher, and nobody else
pub one_told : (kind : Kind) (wants : ℕ) (events : List Event) (names : List (List ℕ)) (old new : List Slot) (text : List ℕ) → 0 < wants → old ≡ Present kind wants [] ∷ [] → Told old events names new
    → SayAll names new text → text ≡ (kind_meant kind).text wants (take wants events) names
one_told kind wants events names old new text some first told says =
    all_tell (record { events = events; names = names }) (Present kind wants [] ∷ []) new text (refl, some, tt)
    (subst (λ (ss : List Slot). Told ss events names new) first told) says ∙ append-nil ((kind_meant kind).text wants (take wants events) names)

-- ---- the watchers of the program

fresh_next : (b : Bool) (s : Slot) (slots : List Slot) → AreFresh (s ∷ []) → AreFresh slots → AreFresh (cond b (s ∷ slots) slots)
fresh_next false s slots one rest = rest
fresh_next true (Left number text) slots one rest = absurd one
fresh_next true (Present kind wants seen) slots one rest = (one.0, one.1, rest)

fresh_kept : (p : Slot → Bool) (slots : List Slot) → AreFresh slots → AreFresh (filter p slots)
fresh_kept p [] fresh = tt
fresh_kept p ((Left number text) ∷ slots) fresh = absurd fresh
fresh_kept p ((Present kind wants seen) ∷ slots) fresh =
    fresh_next (p (Present kind wants seen)) (Present kind wants seen) (filter p slots) (fresh.0, fresh.1, tt) (fresh_kept p slots fresh.2)

fresh_shipped : AreFresh shipped
fresh_shipped = (refl, omega arith, (refl, omega arith, (refl, omega arith, tt)))

fresh_asked : (asked : Option Job) → AreFresh (kept_by asked shipped)
fresh_asked None = fresh_shipped
fresh_asked (Some job) = fresh_kept (is_kept (kinds_of (watched_of job))) shipped fresh_shipped

pub shipped_tell : (asked : Option Job) (new : List Slot) (c : Course) (line text : List ℕ) → AreTold (Some c) (kept_by asked shipped) new → IsReport (Some c) new line text
    → text ≡ line ++ stories c (kept_by asked shipped)
shipped_tell asked new c line text told report = watchers_tell (kept_by asked shipped) new c line text (fresh_asked asked) told report
