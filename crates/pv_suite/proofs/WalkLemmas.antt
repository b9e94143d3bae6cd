-- The cases one after the other.
use Rattle.std.proofs.Common.{◌≡◌, ℕ, zero, suc, ◌+◌, ◌<◌, ◌≤◌, Bool, false, List, [], ◌∷◌, ◌++◌, length, map, drop, get_or, refl, sym, ap, ◌∙◌, subst, append_assoc, drop-cons, arith}
use Rattle.std.specs.Prelude.{Option, Some, None, IfSome, All, slice_get, if◌then◌else◌}
use Rattle.std.specs.Option.{option_map_or}
use Rattle.std.proofs.Math.ListN.{drop_of_length-le}
use Rattle.std.proofs.lemmas.List.{append-nil}
use Rattle.std.proofs.lemmas.Option.{get_or_from_slice_get, slice_get_within}
use Rattle.pv_cases.specs.Cases.{SuiteCase}
use Rattle.pv_cases.specs.Suites.{CaseTold}
use Rattle.pv_script.specs.Outside.{Rose}
use Rattle.pv_serve.specs.Outside.{AnyRose}
use Rattle.pv_suite.specs.Answers.{Given, Came, AllTold, LongOutput, with_told, FirstComes, TooLong, Fits, CasesCome, given_of, is_long}
use Rattle.pv_suite.specs.Causes.{case_files, is_refused, run_files}
use Rattle.pv_suite.specs.Answering.{IsCaseOf}
use Rattle.pv_suite.proofs.RoseLemmas.{any_left, any_right, any_within}

-- functions that agree everywhere are the same
pub same_held : {A : Type 0} (old new : List ℕ → A) → ((n : List ℕ) → new n ≡ old n) → new ≡ old
same_held old new same = λ i n. same n i

-- what was told of the cases so far, before what the others come to
abbrev pub with_all : List CaseTold → Came → Came
with_all ts (AllTold us) = AllTold (ts ++ us)
with_all ts (LongOutput n) = LongOutput n

-- the cases that are left lead where all of them lead
abbrev pub Leads : (held : List ℕ → Option (List ℕ)) (cs : List SuiteCase) (i : ℕ) (ts : List CaseTold) → Type 0
Leads held cs i ts = (rest : Came) → CasesCome held (i + 1) (drop i cs) rest → CasesCome held 1 cs (with_all ts rest)

with_none : (rest : Came) → rest ≡ with_all [] rest
with_none (AllTold us) = refl
with_none (LongOutput n) = refl

with_one : (ts : List CaseTold) (t : CaseTold) (rest : Came) → with_all ts (with_told t rest) ≡ with_all (ts ++ t ∷ []) rest
with_one ts t (AllTold us) = ap (λ (xs : List CaseTold). AllTold xs) (sym (append_assoc ts (t ∷ []) us))
with_one ts t (LongOutput n) = refl

pub leads_first : (held : List ℕ → Option (List ℕ)) (cs : List SuiteCase) → Leads held cs 0 []
leads_first held cs rest come = subst (CasesCome held 1 cs) (with_none rest) come

first_left : (cs : List SuiteCase) (i : ℕ) (c : SuiteCase) → i < length cs → c ≡ get_or cs i c → c ∷ drop (i + 1) cs ≡ drop i cs
first_left cs i c lt at =
    let e : i + 1 ≡ suc i = omega arith in
    sym (drop-cons cs i c lt ∙ ap (λ (d : SuiteCase). d ∷ drop (suc i) cs) (sym at) ∙ ap (λ (k : ℕ). c ∷ drop k cs) (sym e))

told_here : (n : ℕ) (c : SuiteCase) (t : CaseTold) (Rest : Came → Type 0) (rest : Came) (held : Option Given) → IsCaseOf n c held (Some t) → Rest rest
    → IfSome held (λ (g : Given). FirstComes n c g Rest (with_told t rest))
told_here n c t Rest rest None is come = tt
told_here n c t Rest rest (Some g) is come = Fits is.fits is.gave is.comes rest come (ap (λ (u : CaseTold). with_told u rest) is.is)

long_here : (n : ℕ) (c : SuiteCase) (Rest : Came → Type 0) (held : Option Given) → IsCaseOf n c held None → IfSome held (λ (g : Given). FirstComes n c g Rest (LongOutput n))
long_here n c Rest None is = tt
long_here n c Rest (Some g) is = TooLong is refl

-- a case that is told
pub leads_on : (held : List ℕ → Option (List ℕ)) (cs : List SuiteCase) (i : ℕ) (c : SuiteCase) (ts : List CaseTold) (t : CaseTold) → i < length cs → c ≡ get_or cs i c
    → IsCaseOf (i + 1) c (given_of c held) (Some t) → Leads held cs i ts → Leads held cs (i + 1) (ts ++ t ∷ [])
leads_on held cs i c ts t lt at is leads rest come =
    subst (CasesCome held 1 cs) (with_one ts t rest)
    (leads (with_told t rest)
    (subst (λ (xs : List SuiteCase). CasesCome held (i + 1) xs (with_told t rest)) (first_left cs i c lt at)
    (told_here (i + 1) c t (CasesCome held ((i + 1) + 1) (drop (i + 1) cs)) rest (given_of c held) is come)))

-- a case whose output is too long
pub leads_to_long : (held : List ℕ → Option (List ℕ)) (cs : List SuiteCase) (i : ℕ) (c : SuiteCase) (ts : List CaseTold) → i < length cs → c ≡ get_or cs i c
    → IsCaseOf (i + 1) c (given_of c held) None → Leads held cs i ts → CasesCome held 1 cs (LongOutput (i + 1))
leads_to_long held cs i c ts lt at is leads =
    leads (LongOutput (i + 1))
    (subst (λ (xs : List SuiteCase). CasesCome held (i + 1) xs (LongOutput (i + 1))) (first_left cs i c lt at)
    (long_here (i + 1) c (CasesCome held ((i + 1) + 1) (drop (i + 1) cs)) (given_of c held) is))

-- behind the last case
pub leads_to_all : (held : List ℕ → Option (List ℕ)) (cs : List SuiteCase) (i : ℕ) (ts : List CaseTold) → length cs ≤ i → Leads held cs i ts → CasesCome held 1 cs (AllTold ts)
leads_to_all held cs i ts end leads =
    subst (CasesCome held 1 cs) (ap (λ (xs : List CaseTold). AllTold xs) (append-nil ts))
    (leads (AllTold []) (subst (λ (xs : List SuiteCase). CasesCome held (i + 1) xs (AllTold [])) (sym (drop_of_length-le cs end)) refl))

-- ---- whose files are read

-- a file of the cases that are left is one of a case that is run
abbrev pub Reaches : (held : List ℕ → Option (List ℕ)) (cs : List SuiteCase) (i : ℕ) → Type 0
Reaches held cs i = (old new : List ℕ → ℕ) → AnyRose (run_files held (drop i cs)) old new → AnyRose (run_files held cs) old new

fits_of : (n : ℕ) (c : SuiteCase) (t : CaseTold) (held : Option Given) → IsCaseOf n c held (Some t) → option_map_or (λ (g : Given). is_long g.output) held false ≡ false
fits_of n c t None is = refl
fits_of n c t (Some g) is = is.fits

-- a case that is told is followed by the next
pub reaches_on : (held : List ℕ → Option (List ℕ)) (cs : List SuiteCase) (i : ℕ) (c : SuiteCase) (t : CaseTold) → i < length cs → c ≡ get_or cs i c
    → IsCaseOf (i + 1) c (given_of c held) (Some t) → Reaches held cs i → Reaches held cs (i + 1)
reaches_on held cs i c t lt at is reaches old new any =
    let behind = subst (λ (b : Bool). AnyRose (if b then [] else run_files held (drop (i + 1) cs)) old new) (sym (fits_of (i + 1) c t (given_of c held) is)) any in
    reaches old new
    (subst (λ (xs : List SuiteCase). AnyRose (run_files held xs) old new) (first_left cs i c lt at)
    (any_right (λ n. Rose (old n) (new n)) (case_files c) (if is_refused held c then [] else run_files held (drop (i + 1) cs)) behind))

-- the files of a case, which were read after others
pub reaches_case : (held : List ℕ → Option (List ℕ)) (cs : List SuiteCase) (i : ℕ) (c : SuiteCase) (old mid new : List ℕ → ℕ) → i < length cs → c ≡ get_or cs i c
    → ((n : List ℕ) → old n ≤ mid n) → AnyRose (case_files c) mid new → Reaches held cs i → AnyRose (run_files held cs) old new
reaches_case held cs i c old mid new lt at later any reaches =
    reaches old new
    (subst (λ (xs : List SuiteCase). AnyRose (run_files held xs) old new) (first_left cs i c lt at)
    (any_left (λ n. Rose (old n) (new n)) (case_files c) (if is_refused held c then [] else run_files held (drop (i + 1) cs)) (any_within (case_files c) old mid new new later (λ n. omega arith) any)))

-- ---- for the loop

-- a case is what stands at its place
pub case_at : {X : Type 0} (view : X → SuiteCase) (xs : List X) (i : ℕ) (x : X) → slice_get xs i ≡ Some x → view x ≡ get_or (map view xs) i (view x)
case_at view xs i x at = ap view (sym (get_or_from_slice_get xs i x x at)) ∙ mapped view xs i x
  where
    mapped : {X : Type 0} (view : X → SuiteCase) (xs : List X) (i : ℕ) (d : X) → view (get_or xs i d) ≡ get_or (map view xs) i (view d)
    mapped view [] i d = refl
    mapped view (x ∷ xs) zero d = refl
    mapped view (x ∷ xs) (suc i) d = mapped view xs i d

-- what holds of all holds of it
pub all_at : {X : Type 0} (P : X → Type 0) (xs : List X) (i : ℕ) (x : X) → All P xs → slice_get xs i ≡ Some x → P x
all_at P xs i x all at = subst P (get_or_from_slice_get xs i x x at) (all i x (slice_get_within xs i x at))

-- what is told of a case by files that hold what they held
pub case_same : (n : ℕ) (c : SuiteCase) (old new : List ℕ → Option (List ℕ)) (t : Option CaseTold) → ((m : List ℕ) → new m ≡ old m) → IsCaseOf n c (given_of c new) t → IsCaseOf n c (given_of c old) t
case_same n c old new t same is = subst (λ (h : List ℕ → Option (List ℕ)). IsCaseOf n c (given_of c h) t) (same_held old new same) is
