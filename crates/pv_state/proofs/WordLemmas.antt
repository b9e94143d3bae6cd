-- Words of the command line, one after another.
use Rattle.std.proofs.Common.{◌≡◌, ℕ, zero, suc, ◌-◌, ◌<◌, ◌≤◌, Bool, true, false, List, [], ◌∷◌, take, drop, get_or, length, refl, sym, ◌∙◌, ap, subst, arith}
use Rattle.std.proofs.lemmas.Bool.{le-leb, lt-leb, lt-ltb}
use Rattle.std.proofs.lemmas.Bool.Decides.{Decides-eqb}
use Rattle.std.proofs.lemmas.List.{take_all, length-map}
use Rattle.std.specs.Prelude.{String, string_bytes, Option, Some, None, is_some, codes, option_map, option_and_then, unwrap_or, if◌then◌else◌, ◌==◌}
use Rattle.std.specs.Str.{bytes_eq}
use Rattle.std.specs.declared.alloc.Global.{Global}
use Rattle.pv_serve.specs.declared.words.Mode.TheVariants as whose
use Rattle.pv_serve.specs.Jobs.{default_turns}
use Rattle.pv_serve.specs.Words.{Options, no_options, texts, with_option}
use Rattle.pv_state.specs.declared.words.Place.{Place}
use Rattle.pv_state.specs.declared.words.Asked.{Asked}
use Rattle.pv_state.specs.Words.{StateJob, job, is_option, asked, valued, job_of, job_by, places_in, or_end}
use Rattle.pv_state.specs.ReadWords.{IsAsked, places_read}

rest_is : (v : String Global) (rest : List (String Global)) → take (length (v ∷ rest) - 1) rest ≡ rest
rest_is v rest = take_all (length (v ∷ rest) - 1) rest (omega arith)

-- the first word, and those behind it
pub one_more : (ws : List (String Global)) (x : String Global) (a : List ℕ) → 1 ≤ length ws → x ≡ get_or ws 0 x → a ≡ string_bytes x → texts ws ≡ a ∷ texts (take (length ws - 1) (drop 1 ws))
one_more [] x a h e ea = absurd (omega arith)
one_more (v ∷ rest) x a h e ea =
    let first : string_bytes v ≡ a = sym (ea ∙ ap (λ (s : String Global). string_bytes s) e) in
    ap (λ (b : List ℕ). b ∷ texts rest) first ∙ ap (λ (ws : List (String Global)). a ∷ texts ws) (sym (rest_is v rest))

-- no word
pub none_left : (ws : List (String Global)) → length ws < 1 → texts ws ≡ []
none_left [] few = refl
none_left (v ∷ rest) few = absurd (omega (arith, few))

-- ---- options

option_gives : (file : List ℕ) (o : Options) (all : Bool) (ts : List (List ℕ)) (a : List ℕ) (rest : List (List ℕ)) (b : Bool) → ts ≡ a ∷ rest → is_option a ≡ b
    → asked file o all ts ≡ (if b then (if bytes_eq a (codes "--all") then (if all then None else asked file o true rest) else valued file o all rest a) else job_of file o all (a ∷ rest))
option_gives file o all ts a rest b et eo =
    ap (λ (w : List (List ℕ)). asked file o all w) et
    ∙ ap (λ (x : Bool). if x then (if bytes_eq a (codes "--all") then (if all then None else asked file o true rest) else valued file o all rest a) else job_of file o all (a ∷ rest)) eo

all_gives : (file : List ℕ) (o : Options) (all : Bool) (a : List ℕ) (rest : List (List ℕ)) (b : Bool) → bytes_eq a (codes "--all") ≡ b
    → (if bytes_eq a (codes "--all") then (if all then None else asked file o true rest) else valued file o all rest a) ≡ (if b then (if all then None else asked file o true rest) else valued file o all rest a)
all_gives file o all a rest b ea = ap (λ (x : Bool). if x then (if all then None else asked file o true rest) else valued file o all rest a) ea

-- a word that is no option's
pub asked_place : (file : List ℕ) (o : Options) (all : Bool) (ts : List (List ℕ)) (a : List ℕ) (rest : List (List ℕ)) → ts ≡ a ∷ rest → is_option a ≡ false → asked file o all ts ≡ job_of file o all ts
asked_place file o all ts a rest et eo = option_gives file o all ts a rest false et eo ∙ ap (λ (w : List (List ℕ)). job_of file o all w) (sym et)

-- `--all`, for the second time or the first
pub asked_twice : (file : List ℕ) (o : Options) (all : Bool) (ts : List (List ℕ)) (a : List ℕ) (rest : List (List ℕ)) → ts ≡ a ∷ rest → is_option a ≡ true → bytes_eq a (codes "--all") ≡ true → all ≡ true
    → asked file o all ts ≡ None
asked_twice file o all ts a rest et eo ea en =
    option_gives file o all ts a rest true et eo ∙ all_gives file o all a rest true ea ∙ ap (λ (x : Bool). if x then None else asked file o true rest) en

pub asked_all : (file : List ℕ) (o : Options) (all : Bool) (ts : List (List ℕ)) (a : List ℕ) (rest : List (List ℕ)) → ts ≡ a ∷ rest → is_option a ≡ true → bytes_eq a (codes "--all") ≡ true → all ≡ false
    → asked file o all ts ≡ asked file o true rest
asked_all file o all ts a rest et eo ea en =
    option_gives file o all ts a rest true et eo ∙ all_gives file o all a rest true ea ∙ ap (λ (x : Bool). if x then None else asked file o true rest) en

-- an option with a value
pub asked_value : (file : List ℕ) (o : Options) (all : Bool) (ts : List (List ℕ)) (a : List ℕ) (rest : List (List ℕ)) → ts ≡ a ∷ rest → is_option a ≡ true → bytes_eq a (codes "--all") ≡ false
    → asked file o all ts ≡ valued file o all rest a
asked_value file o all ts a rest et eo ea = option_gives file o all ts a rest true et eo ∙ all_gives file o all a rest false ea

-- its value
pub valued_more : (file : List ℕ) (o p : Options) (all : Bool) (ts : List (List ℕ)) (name a : List ℕ) (rest : List (List ℕ)) → ts ≡ a ∷ rest → with_option whose.Settle o name a ≡ Some p
    → valued file o all ts name ≡ asked file p all rest
valued_more file o p all ts name a rest et e =
    ap (λ (w : List (List ℕ)). valued file o all w name) et ∙ ap (λ (q : Option Options). option_and_then (λ p. asked file p all rest) q) e

pub valued_none : (file : List ℕ) (o : Options) (all : Bool) (ts : List (List ℕ)) (name a : List ℕ) (rest : List (List ℕ)) → ts ≡ a ∷ rest → with_option whose.Settle o name a ≡ None
    → valued file o all ts name ≡ None
valued_none file o all ts name a rest et e =
    ap (λ (w : List (List ℕ)). valued file o all w name) et ∙ ap (λ (q : Option Options). option_and_then (λ p. asked file p all rest) q) e

pub valued_end : (file : List ℕ) (o : Options) (all : Bool) (ts : List (List ℕ)) (name : List ℕ) → ts ≡ [] → valued file o all ts name ≡ None
valued_end file o all ts name et = ap (λ (w : List (List ℕ)). valued file o all w name) et

-- ---- the job

pub too_many : (file : List ℕ) (o : Options) (all : Bool) (ws : List (String Global)) → 16 < length ws → job_of file o all (texts ws) ≡ None
too_many file o all ws more =
    let long : 16 < length (texts ws) = omega (arith, more, length-map ws string_bytes) in
    ap (λ (b : Bool). if b then option_map (job_by file o all) (places_in (unwrap_or o.turns default_turns) (texts ws)) else None) (lt-leb (length (texts ws)) 16 long)

few : (file : List ℕ) (o : Options) (all : Bool) (ws : List (String Global)) → length ws ≤ 16 → job_of file o all (texts ws) ≡ option_map (job_by file o all) (places_in (unwrap_or o.turns default_turns) (texts ws))
few file o all ws less =
    let short : length (texts ws) ≤ 16 = omega (arith, less, length-map ws string_bytes) in
    ap (λ (b : Bool). if b then option_map (job_by file o all) (places_in (unwrap_or o.turns default_turns) (texts ws)) else None) (le-leb (length (texts ws)) 16 short)

pub no_job : (file : List ℕ) (o : Options) (all : Bool) (ws : List (String Global)) (bound : ℕ) → length ws ≤ 16 → bound ≡ unwrap_or o.turns default_turns → is_some (places_in bound (texts ws)) ≡ false
    → job_of file o all (texts ws) ≡ None
no_job file o all ws bound less eb none =
    few file o all ws less ∙ ap (λ (n : ℕ). option_map (job_by file o all) (places_in n (texts ws))) (sym eb) ∙ by (places_in bound (texts ws)) none
  where
    by : (q : Option (List Place)) → is_some q ≡ false → option_map (job_by file o all) q ≡ None
    by None h = refl
    by (Some ps) h = absurd cc

pub some_job : (file : List ℕ) (o : Options) (all : Bool) (ws : List (String Global)) (bound : ℕ) (zap : Bool) → length ws ≤ 16 → bound ≡ unwrap_or o.turns default_turns → zap ≡ unwrap_or o.zap true
    → is_some (places_in bound (texts ws)) ≡ true
    → job_of file o all (texts ws)
    ≡ Some (record { file = file; script = o.script; look = record { bound = bound; zap = zap; sides = o.sides; all = all }; places = places_read bound (texts ws) })
some_job file o all ws bound zap less eb ez some =
    few file o all ws less ∙ ap (λ (n : ℕ). option_map (job_by file o all) (places_in n (texts ws))) (sym eb) ∙ by (places_in bound (texts ws)) some
    ∙ (λ i. Some (record { file = file; script = o.script; look = record { bound = sym eb i; zap = sym ez i; sides = o.sides; all = all }; places = places_read bound (texts ws) }))
  where
    by : (q : Option (List Place)) → is_some q ≡ true → option_map (job_by file o all) q
        ≡ Some (record { file = file; script = o.script; look = record { bound = unwrap_or o.turns default_turns; zap = unwrap_or o.zap true; sides = o.sides; all = all }; places = or_end (unwrap_or q []) })
    by None h = absurd cc
    by (Some ps) h = refl

-- ---- the file

pub zero_is : (n : ℕ) (b : Bool) → b ≡ (n == 0) → b ≡ true → n ≡ 0
zero_is n b e h = (Decides-eqb n 0).0 (sym e ∙ h)

pub some_is : (n : ℕ) (b : Bool) → b ≡ (n == 0) → b ≡ false → 0 < n
some_is zero b e h = absurd (no (sym e ∙ h))
  where
    no : true ≡ false → ⊥
    no x = cc
some_is (suc n) b e h = omega arith

pub no_file : (ts : List (List ℕ)) (a : List ℕ) (rest : List (List ℕ)) (b : Bool) → ts ≡ a ∷ rest → b ≡ (length a == 0) → b ≡ true → job ts ≡ None
no_file ts a rest b et eb is = ap (λ (w : List (List ℕ)). job w) et ∙ by a (zero_is (length a) b eb is)
  where
    by : (x : List ℕ) → length x ≡ 0 → job (x ∷ rest) ≡ None
    by [] h = refl
    by (y ∷ ys) h = absurd (omega (arith, h))

pub some_file : (ts : List (List ℕ)) (a : List ℕ) (rest : List (List ℕ)) (b : Bool) → ts ≡ a ∷ rest → b ≡ (length a == 0) → b ≡ false → job ts ≡ asked a no_options false rest
some_file ts a rest b et eb is = ap (λ (w : List (List ℕ)). job w) et ∙ by a (some_is (length a) b eb is)
  where
    by : (x : List ℕ) → 0 < length x → job (x ∷ rest) ≡ asked x no_options false rest
    by [] h = absurd (omega (arith, h))
    by (y ∷ ys) h = ap (λ (b : Bool). if b then asked (y ∷ ys) no_options false rest else None) (lt-ltb 0 (length (y ∷ ys)) h)

-- ---- what was read is what is asked for

asked_same : (r : Option Asked) (a b : Option StateJob) → a ≡ b → IsAsked r b → IsAsked r a
asked_same r a b e h = subst (λ (w : Option StateJob). IsAsked r w) (sym e) h

pub file_asks : (ts : List (List ℕ)) (a : List ℕ) (rest : List (List ℕ)) (b : Bool) (o : Options) (r : Option Asked) → ts ≡ a ∷ rest → b ≡ (length a == 0) → b ≡ false → o ≡ no_options
    → IsAsked r (asked a o false rest) → IsAsked r (job ts)
file_asks ts a rest b o r et eb is eo h = asked_same r (job ts) (asked a o false rest) (some_file ts a rest b et eb is ∙ ap (λ (p : Options). asked a p false rest) (sym eo)) h

pub no_words : (ws : List (String Global)) → length ws < 1 → job (texts ws) ≡ None
no_words ws few = ap (λ (ts : List (List ℕ)). job ts) (none_left ws few)

pub end_asks : (file : List ℕ) (o : Options) (all : Bool) (ts : List (List ℕ)) (r : Option Asked) → ts ≡ [] → IsAsked r (job_of file o all ts) → IsAsked r (asked file o all ts)
end_asks file o all ts r et h =
    asked_same r (asked file o all ts) (job_of file o all ts) (ap (λ (w : List (List ℕ)). asked file o all w) et ∙ ap (λ (w : List (List ℕ)). job_of file o all w) (sym et)) h

pub place_asks : (file : List ℕ) (o : Options) (all : Bool) (ts : List (List ℕ)) (a : List ℕ) (rest : List (List ℕ)) (r : Option Asked) → ts ≡ a ∷ rest → is_option a ≡ false
    → IsAsked r (job_of file o all ts) → IsAsked r (asked file o all ts)
place_asks file o all ts a rest r et eo h = asked_same r (asked file o all ts) (job_of file o all ts) (asked_place file o all ts a rest et eo) h

pub all_asks : (file : List ℕ) (o : Options) (all : Bool) (ts : List (List ℕ)) (a : List ℕ) (rest : List (List ℕ)) (r : Option Asked) → ts ≡ a ∷ rest → is_option a ≡ true
    → bytes_eq a (codes "--all") ≡ true → all ≡ false → IsAsked r (asked file o true rest) → IsAsked r (asked file o all ts)
all_asks file o all ts a rest r et eo ea en h = asked_same r (asked file o all ts) (asked file o true rest) (asked_all file o all ts a rest et eo ea en) h

pub value_asks : (file : List ℕ) (o : Options) (all : Bool) (ts : List (List ℕ)) (a : List ℕ) (rest : List (List ℕ)) (r : Option Asked) → ts ≡ a ∷ rest → is_option a ≡ true
    → bytes_eq a (codes "--all") ≡ false → IsAsked r (valued file o all rest a) → IsAsked r (asked file o all ts)
value_asks file o all ts a rest r et eo ea h = asked_same r (asked file o all ts) (valued file o all rest a) (asked_value file o all ts a rest et eo ea) h

pub more_asks : (file : List ℕ) (o p : Options) (all : Bool) (ts : List (List ℕ)) (name a : List ℕ) (rest : List (List ℕ)) (r : Option Asked) → ts ≡ a ∷ rest
    → with_option whose.Settle o name a ≡ Some p → IsAsked r (asked file p all rest) → IsAsked r (valued file o all ts name)
more_asks file o p all ts name a rest r et e h = asked_same r (valued file o all ts name) (asked file p all rest) (valued_more file o p all ts name a rest et e) h
