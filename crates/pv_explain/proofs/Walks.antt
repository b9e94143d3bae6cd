-- Walks over the events seen.
use Rattle.std.proofs.Common.{◌≡◌, ℕ, ◌+◌, ◌-◌, ◌<◌, ◌≤◌, Bool, true, false, cond, not, ◌||◌, List, [], ◌∷◌, ◌++◌, length, drop, get_or, Option, Some, None, refl, sym, ◌∙◌, ap, arith, append_assoc, append-nil}
use Rattle.std.proofs.lemmas.List.{drop_more, drop_all}
use Rattle.std.specs.List.{filter}
use Rattle.std.specs.Option.{option_or}
use Rattle.pv_watch.specs.declared.event.Event.{Event}
use Rattle.pv_fault.specs.declared.verdict.Verdict.{Verdict}
use Rattle.pv_watch.specs.declared.event.What.{What}
use Rattle.pv_watch.specs.declared.event.What.TheVariants.{Made, Ended, Exposed, Pair, Tried, Fault}
use Rattle.pv_watch.specs.Lines.{first_told, event_lines}
use Rattle.pv_watch.specs.LineParts.{event_line}
use Rattle.pv_watch.specs.Kinds.{Suspects, suspects_of, is_of_pair, is_fault, concerns, concerning}

-- ---- the first of the events that tells something

-- one event more, from the last to the first
pub told_before : {A : Type 0} (f : ℕ → What → Option A) (es : List Event) (at : ℕ) (d : Event) (now next : ℕ → Option A) → 0 < at → at ≤ length es
    → ((i : ℕ) → now i ≡ first_told (f i) (drop at es)) → ((i : ℕ) → next i ≡ option_or (f i (get_or es (at - 1) d).what) (now i))
    → (i : ℕ) → next i ≡ first_told (f i) (drop (at - 1) es)
told_before f es at d now next some within told step i =
    let whole : drop (at - 1) es ≡ get_or es (at - 1) d ∷ drop (at - 1 + 1) es = drop_more es (at - 1) d (omega arith) in
    let same : at - 1 + 1 ≡ at = omega arith in
    step i ∙ ap (option_or (f i (get_or es (at - 1) d).what)) (told i)
    ∙ sym (ap (first_told (f i)) (whole ∙ ap (λ n. get_or es (at - 1) d ∷ drop n es) same))

-- behind the last one nothing is told
pub told_at_end : {A : Type 0} (f : What → Option A) (es : List Event) (i : ℕ) → length es ≤ i → first_told f (drop i es) ≡ None
told_at_end f es i le = ap (first_told f) (drop_all i es le)

-- the event at a place tells it, or doesn't
pub told_here : {A : Type 0} (f : What → Option A) (es : List Event) (i : ℕ) (d : Event) (a : A) (all : Option A) → i < length es → f (get_or es i d).what ≡ Some a
    → first_told f (drop i es) ≡ all → Some a ≡ all
told_here f es i d a all lt here left =
    ap (λ o. option_or o (first_told f (drop (i + 1) es))) (sym here) ∙ sym (ap (first_told f) (drop_more es i d lt)) ∙ left

pub told_not : {A : Type 0} (f : What → Option A) (es : List Event) (i : ℕ) (d : Event) (all : Option A) → i < length es → f (get_or es i d).what ≡ None
    → first_told f (drop i es) ≡ all → first_told f (drop (i + 1) es) ≡ all
told_not f es i d all lt here left =
    ap (λ o. option_or o (first_told f (drop (i + 1) es))) (sym here) ∙ sym (ap (first_told f) (drop_more es i d lt)) ∙ left

pub no_suspects : (w : What) → ((v : Verdict) (l h p : Option ℕ) → w ≡ Fault v l h p → ⊥) → suspects_of w ≡ None
no_suspects (Made inst name k base size) other = refl
no_suspects (Ended inst) other = refl
no_suspects (Exposed inst) other = refl
no_suspects (Pair pair address low high) other = refl
no_suspects (Tried pair test low high) other = refl
no_suspects (Fault v l h p) other = absurd (other v l h p refl)

-- ---- lines of the events that are left

-- one event more
pub walk_more : (before behind : List Event → List ℕ) (es : List Event) (i : ℕ) (d : Event) (text more piece all : List ℕ) → i < length es → more ≡ text ++ piece
    → before (get_or es i d ∷ drop (i + 1) es) ≡ piece ++ behind (drop (i + 1) es) → text ++ before (drop i es) ≡ all → more ++ behind (drop (i + 1) es) ≡ all
walk_more before behind es i d text more piece all lt adds one left =
    ap (λ t. t ++ behind (drop (i + 1) es)) adds ∙ append_assoc text piece (behind (drop (i + 1) es))
    ∙ ap (λ l. text ++ l) (sym one ∙ sym (ap before (drop_more es i d lt))) ∙ left

-- none is left
pub walk_ends : (lines : List Event → List ℕ) (es : List Event) (i : ℕ) (text all : List ℕ) → length es ≤ i → lines [] ≡ [] → text ++ lines (drop i es) ≡ all → text ≡ all
walk_ends lines es i text all le none left = sym (append-nil text) ∙ ap (λ l. text ++ l) (sym none ∙ sym (ap lines (drop_all i es le))) ∙ left

-- ---- the events of pairs

abbrev pub life_lines : List Event → List (List ℕ) → List Event → List ℕ
life_lines seen names es = event_lines seen names (filter (λ (e : Event). is_of_pair e.what) es)

kept_or_not : (seen : List Event) (names : List (List ℕ)) (b : Bool) (x : Event) (es : List Event)
    → event_lines seen names (cond b (x ∷ es) es) ≡ cond b (event_line seen names x) [] ++ event_lines seen names es
kept_or_not seen names true x es = refl
kept_or_not seen names false x es = refl

pub life_step : (seen : List Event) (names : List (List ℕ)) (x : Event) (rest : List Event)
    → life_lines seen names (x ∷ rest) ≡ cond (is_of_pair x.what) (event_line seen names x) [] ++ life_lines seen names rest
life_step seen names x rest = kept_or_not seen names (is_of_pair x.what) x (filter (λ (e : Event). is_of_pair e.what) rest)

pub life_next : (seen : List Event) (names : List (List ℕ)) (es : List Event) (i : ℕ) (d : Event) (text more : List ℕ) (wanted : Bool) (all : List ℕ) → i < length es
    → wanted ≡ is_of_pair (get_or es i d).what → more ≡ text ++ cond wanted (event_line seen names (get_or es i d)) []
    → text ++ life_lines seen names (drop i es) ≡ all → more ++ life_lines seen names (drop (i + 1) es) ≡ all
life_next seen names es i d text more wanted all lt is adds left =
    walk_more (life_lines seen names) (life_lines seen names) es i d text more (cond (is_of_pair (get_or es i d).what) (event_line seen names (get_or es i d)) []) all lt
    (adds ∙ ap (λ b. text ++ cond b (event_line seen names (get_or es i d)) []) is) (life_step seen names (get_or es i d) (drop (i + 1) es)) left

-- ---- the events that concern a fault

abbrev pub story_lines : List Event → List (List ℕ) → Suspects → Bool → List Event → List ℕ
story_lines seen names s passed es = event_lines seen names (concerning s passed es)

part_or_not : (seen : List Event) (names : List (List ℕ)) (fault passed part : Bool) (x : Event) (rest : Bool → List Event)
    → event_lines seen names (cond fault (cond passed (rest true) (x ∷ rest true)) (cond part (x ∷ rest passed) (rest passed)))
    ≡ cond (cond fault (not passed) part) (event_line seen names x) [] ++ event_lines seen names (rest (passed || fault))
part_or_not seen names true true part x rest = refl
part_or_not seen names true false part x rest = refl
part_or_not seen names false true true x rest = refl
part_or_not seen names false true false x rest = refl
part_or_not seen names false false true x rest = refl
part_or_not seen names false false false x rest = refl

pub story_step : (seen : List Event) (names : List (List ℕ)) (s : Suspects) (passed : Bool) (x : Event) (rest : List Event)
    → story_lines seen names s passed (x ∷ rest) ≡ cond (cond (is_fault x.what) (not passed) (concerns s x.what)) (event_line seen names x) [] ++ story_lines seen names s (passed || is_fault x.what) rest
story_step seen names s passed x rest = part_or_not seen names (is_fault x.what) passed (concerns s x.what) x (λ p. concerning s p rest)

pub story_next : (seen : List Event) (names : List (List ℕ)) (s : Suspects) (passed fault : Bool) (es : List Event) (i : ℕ) (d : Event) (text more : List ℕ) (wanted : Bool) (all : List ℕ) → i < length es
    → wanted ≡ cond (is_fault (get_or es i d).what) (not passed) (concerns s (get_or es i d).what) → fault ≡ is_fault (get_or es i d).what
    → more ≡ text ++ cond wanted (event_line seen names (get_or es i d)) []
    → text ++ story_lines seen names s passed (drop i es) ≡ all → more ++ story_lines seen names s (passed || fault) (drop (i + 1) es) ≡ all
story_next seen names s passed fault es i d text more wanted all lt is end adds left =
    ap (λ b. more ++ story_lines seen names s (passed || b) (drop (i + 1) es)) end
    ∙ walk_more (story_lines seen names s passed) (story_lines seen names s (passed || is_fault (get_or es i d).what)) es i d text more
    (cond (cond (is_fault (get_or es i d).what) (not passed) (concerns s (get_or es i d).what)) (event_line seen names (get_or es i d)) []) all lt
    (adds ∙ ap (λ b. text ++ cond b (event_line seen names (get_or es i d)) []) is) (story_step seen names s passed (get_or es i d) (drop (i + 1) es)) left
