-- What is read of a job's files.
use Rattle.std.proofs.Common.{◌≡◌, ℕ, zero, suc, ◌+◌, ◌<◌, ◌≤◌, List, [], ◌∷◌, take, length, Bool, true, false, refl, sym, ap, ◌∙◌, subst, arith}
use Rattle.std.specs.Prelude.{Option, Some, None, IfSome, IfOk, Result, Ok, Err, option_map, Any, Vec, nat_lt, if◌then◌else◌, option_to_list}
use Rattle.std.specs.Option.{option_map_or}
use Rattle.std.specs.declared.alloc.Global.{Global}
use Rattle.std.proofs.lemmas.Bool.{lt-ltb, le-ltb}
use Rattle.pv_script.specs.Outside.{Rose}
use Rattle.pv_script.specs.declared.reading.ReadError.{ReadError}
use Rattle.pv_serve.specs.Comes.{source_limit}
use Rattle.pv_serve.specs.Judged.{script_limit}
use Rattle.pv_serve.specs.Answer.{files_read, script_needed, script_held}
use Rattle.pv_serve.specs.Outside.{AnyRose}
use Rattle.pv_serve.specs.Serving.{AreRead}
use Rattle.pv_serve.proofs.ComesLemmas.{source_limit_is}
use Rattle.pv_serve.proofs.Limits.{script_limit_is, was_long, was_short}

-- ---- the counts of faults

any_first : (P : List ℕ → Type 0) (x : List ℕ) (xs : List (List ℕ)) → P x → Any P (x ∷ xs)
any_first P x xs p = (0, x, omega arith, refl, p)

any_later : (P : List ℕ → Type 0) (x : List ℕ) (xs : List (List ℕ)) → Any P xs → Any P (x ∷ xs)
any_later P x xs a = (suc a.0, a.1, omega (arith, a.2), a.3, a.4)

any_map : (P Q : List ℕ → Type 0) (xs : List (List ℕ)) → ((x : List ℕ) → P x → Q x) → Any P xs → Any Q xs
any_map P Q xs f a = (a.0, a.1, a.2, a.3, f a.1 a.4)

rose_since : (before between now : ℕ) → before ≤ between → Rose between now → Rose before now
rose_since before between now le rose = omega arith

one_rose : (name : List ℕ) (old new : List ℕ → ℕ) → Rose (old name) (new name) → Any (λ n. Rose (old n) (new n)) (name ∷ [])
one_rose name old new rose = any_first (λ n. Rose (old n) (new n)) name [] rose

-- ---- what was read

at_limit : (limit number : ℕ) (o : Option (List ℕ)) (bytes : List ℕ) → limit ≡ number → IfSome o (λ all. bytes ≡ take (number + 1) all) → IfSome o (λ all. bytes ≡ take (limit + 1) all)
at_limit limit number None bytes is h = tt
at_limit limit number (Some all) bytes is h = h ∙ ap (λ (n : ℕ). take (n + 1) all) (sym is)

source_read : (o : Option (List ℕ)) (bytes : List ℕ) → IfSome o (λ all. bytes ≡ take 1048577 all) → IfSome o (λ all. bytes ≡ take (source_limit + 1) all)
source_read o bytes h = at_limit source_limit 1048576 o bytes source_limit_is h

script_read : (o : Option (List ℕ)) (bytes : List ℕ) → IfSome o (λ all. bytes ≡ take 65537 all) → IfSome o (λ all. bytes ≡ take (script_limit + 1) all)
script_read o bytes h = at_limit script_limit 65536 o bytes script_limit_is h

-- no script has no bytes
take_none : (n : ℕ) → [] ≡ take {A = ℕ} n []
take_none zero = refl
take_none (suc n) = refl

no_script : [] ≡ take {A = ℕ} (script_limit + 1) []
no_script = take_none (script_limit + 1)

if_long : (n : ℕ) → source_limit < n → nat_lt source_limit n ≡ true
if_long n long = lt-ltb source_limit n long

if_short : (n : ℕ) → n ≤ source_limit → nat_lt source_limit n ≡ false
if_short n short = le-ltb source_limit n short

read_long : (file : List ℕ) (script : Option (List ℕ)) (held : List ℕ → Option (List ℕ)) (source : List ℕ) → source_limit < length source
    → IfSome (held file) (λ all. source ≡ take (source_limit + 1) all) → AreRead file script held source []
read_long file script held source long told = by (held file) told
  where
    by : (o : Option (List ℕ)) → IfSome o (λ all. source ≡ take (source_limit + 1) all)
        → IfSome o (λ all. IfSome (script_needed all (script_held script held)) (λ text. (source ≡ take (source_limit + 1) all) × ([] ≡ take (script_limit + 1) text)))
    by None h = tt
    by (Some all) h =
        let long_all = was_long source_limit all (subst (λ (s : List ℕ). source_limit < length s) h long) in
        subst (λ (b : Bool). IfSome (if b then Some [] else script_held script held) (λ text. (source ≡ take (source_limit + 1) all) × ([] ≡ take (script_limit + 1) text)))
        (sym (if_long (length all) long_all)) (h, no_script)

with_text : (o : Option (List ℕ)) (A : Type 0) (P : List ℕ → Type 0) → A → IfSome o P → IfSome o (λ text. A × P text)
with_text None A P a h = tt
with_text (Some text) A P a h = (a, h)

read_short : (file : List ℕ) (script : Option (List ℕ)) (held : List ℕ → Option (List ℕ)) (source text : List ℕ) → length source ≤ source_limit
    → IfSome (held file) (λ all. source ≡ take (source_limit + 1) all) → IfSome (script_held script held) (λ rest. text ≡ take (script_limit + 1) rest) → AreRead file script held source text
read_short file script held source text short told read = by (held file) told
  where
    by : (o : Option (List ℕ)) → IfSome o (λ all. source ≡ take (source_limit + 1) all)
        → IfSome o (λ all. IfSome (script_needed all (script_held script held)) (λ rest. (source ≡ take (source_limit + 1) all) × (text ≡ take (script_limit + 1) rest)))
    by None h = tt
    by (Some all) h =
        let short_all = was_short source_limit all (subst (λ (s : List ℕ). length s ≤ source_limit) h short) in
        subst (λ (b : Bool). IfSome (if b then Some [] else script_held script held) (λ rest. (source ≡ take (source_limit + 1) all) × (text ≡ take (script_limit + 1) rest)))
        (sym (if_short (length all) short_all))
        (with_text (script_held script held) (source ≡ take (source_limit + 1) all) (λ rest. text ≡ take (script_limit + 1) rest) h read)

-- ---- of which file a read failed

pub source_rose : (file : List ℕ) (script : Option (List ℕ)) (held : List ℕ → Option (List ℕ)) (old new : List ℕ → ℕ) → Rose (old file) (new file) → AnyRose (files_read file script held) old new
source_rose file script held old new rose =
    any_first (λ n. Rose (old n) (new n)) file (if option_map_or (λ (source : List ℕ). nat_lt source_limit (length source)) (held file) false then [] else option_to_list script) rose

-- of the script of a source that is not too long
pub script_rose : (file : List ℕ) (script : Option (List ℕ)) (held : List ℕ → Option (List ℕ)) (source : List ℕ) (old mid new : List ℕ → ℕ) → length source ≤ source_limit
    → IfSome (held file) (λ all. source ≡ take 1048577 all) → ((n : List ℕ) → old n ≤ mid n) → AnyRose (option_to_list script) mid new → AnyRose (files_read file script held) old new
script_rose file script held source old mid new short told later any = by (held file) (source_read (held file) source told)
  where
    rises : AnyRose (file ∷ option_to_list script) old new
    rises =
        any_later (λ n. Rose (old n) (new n)) file (option_to_list script)
        (any_map (λ n. Rose (mid n) (new n)) (λ n. Rose (old n) (new n)) (option_to_list script) (λ n rose. rose_since (old n) (mid n) (new n) (later n) rose) any)

    by : (o : Option (List ℕ)) → IfSome o (λ all. source ≡ take (source_limit + 1) all)
        → AnyRose (file ∷ (if option_map_or (λ (bytes : List ℕ). nat_lt source_limit (length bytes)) o false then [] else option_to_list script)) old new
    by None h = rises
    by (Some all) h =
        let short_all = was_short source_limit all (subst (λ (s : List ℕ). length s ≤ source_limit) h short) in
        subst (λ (b : Bool). AnyRose (file ∷ (if b then [] else option_to_list script)) old new) (sym (if_short (length all) short_all)) rises

-- ---- files that hold what they held

script_same : (script : Option (List ℕ)) (old new : List ℕ → Option (List ℕ)) → ((n : List ℕ) → new n ≡ old n) → script_held script new ≡ script_held script old
script_same None old new same = refl
script_same (Some name) old new same = same name

-- a source that is not too long, and its script, which was read when the files held what they had held before
pub read_both : (file : List ℕ) (script : Option (List ℕ)) (old mid : List ℕ → Option (List ℕ)) (source text : List ℕ) → length source ≤ source_limit
    → ((n : List ℕ) → mid n ≡ old n) → IfSome (old file) (λ all. source ≡ take 1048577 all) → IfSome (script_held script mid) (λ rest. text ≡ take (script_limit + 1) rest)
    → AreRead file script old source text
read_both file script old mid source text short same told read =
    read_short file script old source text short (source_read (old file) source told)
    (subst (λ (o : Option (List ℕ)). IfSome o (λ rest. text ≡ take (script_limit + 1) rest)) (script_same script old mid same) read)

script_if : (o : Option (List ℕ)) (r : Result (Vec ℕ Global) ReadError) → IfOk r (λ v. IfSome o (λ all. v.items ≡ take 65537 all)) → IfOk r (λ v. IfSome o (λ all. v.items ≡ take (script_limit + 1) all))
script_if o (Ok v) h = script_read o v.items h
script_if o (Err e) h = tt

-- ---- the script that may be named, by what its reference stands for

pub script_some : {R : Type 0} (view : R → List ℕ) (o : Option R) (x : R) (held : List ℕ → Option (List ℕ)) (r : Result (Vec ℕ Global) ReadError) → o ≡ Some x
    → IfOk r (λ v. IfSome (held (view x)) (λ all. v.items ≡ take 65537 all)) → IfOk r (λ v. IfSome (script_held (option_map view o) held) (λ all. v.items ≡ take (script_limit + 1) all))
script_some {R = R} view o x held r e h =
    subst (λ (p : Option R). IfOk r (λ v. IfSome (script_held (option_map view p) held) (λ all. v.items ≡ take (script_limit + 1) all))) (sym e) (script_if (held (view x)) r h)

pub rose_some : {R : Type 0} (view : R → List ℕ) (o : Option R) (x : R) (old new : List ℕ → ℕ) → o ≡ Some x → Rose (old (view x)) (new (view x))
    → Any (λ n. Rose (old n) (new n)) (option_to_list (option_map view o))
rose_some {R = R} view o x old new e rose =
    subst (λ (p : Option R). Any (λ n. Rose (old n) (new n)) (option_to_list (option_map view p))) (sym e) (one_rose (view x) old new rose)

pub script_none : {R : Type 0} (view : R → List ℕ) (o : Option R) (held : List ℕ → Option (List ℕ)) (bytes : List ℕ) → o ≡ None → bytes ≡ []
    → IfSome (script_held (option_map view o) held) (λ all. bytes ≡ take (script_limit + 1) all)
script_none {R = R} view o held bytes e none =
    subst (λ (p : Option R). IfSome (script_held (option_map view p) held) (λ all. bytes ≡ take (script_limit + 1) all)) (sym e) (none ∙ no_script)

-- a source that is too long, of which no script is read
pub read_alone : (file : List ℕ) (script : Option (List ℕ)) (held : List ℕ → Option (List ℕ)) (source bytes : List ℕ) → source_limit < length source → bytes ≡ []
    → IfSome (held file) (λ all. source ≡ take 1048577 all) → AreRead file script held source bytes
read_alone file script held source bytes long none told =
    subst (λ (b : List ℕ). AreRead file script held source b) (sym none) (read_long file script held source long (source_read (held file) source told))

err_same : {A : Type 0} (e f : ReadError) → ◌≡◌ {A = Result A ReadError} (Err e) (Err f) → e ≡ f
err_same e f same = cc

-- the same error, of another result
pub other_err : {A B : Type 0} (e f : ReadError) → ◌≡◌ {A = Result A ReadError} (Err e) (Err f) → ◌≡◌ {A = Result B ReadError} (Err e) (Err f)
other_err {A = A} {B = B} e f same = let is : e ≡ f = err_same {A = A} e f same in ap (λ (x : ReadError). Err x) is
