-- What is read of a case's files.
use Rattle.std.proofs.Common.{◌≡◌, inl, inr, ℕ, ◌+◌, ◌<◌, ◌≤◌, List, take, length, true, false, refl, sym, ap, ◌∙◌, subst, arith}
use Rattle.std.specs.Prelude.{Option, Some, None, IfSome, Result, Ok, Err, IfOk, Vec, option_map, option_and_then, nat_lt}
use Rattle.std.specs.declared.alloc.Global.{Global}
use Rattle.pv_script.specs.declared.reading.ReadError.{ReadError}
use Rattle.std.proofs.lemmas.Bool.{lt-ltb, cases_lt}
use Rattle.std.proofs.lemmas.List.{length-take, take_all}
use Rattle.pv_serve.specs.Judged.{script_limit}
use Rattle.pv_serve.specs.Answer.{script_held}
use Rattle.pv_serve.proofs.ComesLemmas.{source_limit_is}
use Rattle.pv_cases.specs.Cases.{SuiteCase}
use Rattle.pv_suite.specs.Answers.{given_of, output_held, output_limit, is_long}
use Rattle.pv_suite.specs.Answering.{IsRead}

pub output_limit_is : output_limit ≡ 1048576
unfolding output_limit
output_limit_is = refl

-- ---- an output that may be named

pub some_bytes : (bytes : List ℕ) (h : Option (List ℕ)) → IfSome h (λ all. bytes ≡ take 1048577 all) → IfSome h (λ all. ◌≡◌ {A = Option (List ℕ)} (Some bytes) (Some (take 1048577 all)))
some_bytes bytes None e = tt
some_bytes bytes (Some all) e = ap (λ (b : List ℕ). Some b) e

-- what was read of it, where one is named
pub output_some : {R : Type 0} (view : R → List ℕ) (o : Option R) (x : R) (held : List ℕ → Option (List ℕ)) (r : Result (Option (Vec ℕ Global)) ReadError) → o ≡ Some x
    → IfOk r (λ v. IfSome (held (view x)) (λ all. option_map (λ (w : Vec ℕ Global). w.items) v ≡ Some (take 1048577 all)))
    → IfOk r (λ v. IfSome (output_held (option_map view o) held) (λ (h : Option (List ℕ)). option_map (λ (w : Vec ℕ Global). w.items) v ≡ option_map (λ (all : List ℕ). take (output_limit + 1) all) h))
output_some {R = R} view o x held (Err e) is read = tt
output_some {R = R} view o x held (Ok v) is read =
    subst (λ (p : Option R). IfSome (output_held (option_map view p) held) (λ (h : Option (List ℕ)). option_map (λ (w : Vec ℕ Global). w.items) v ≡ option_map (λ (all : List ℕ). take (output_limit + 1) all) h))
    (sym is) (some_read (option_map (λ (w : Vec ℕ Global). w.items) v) (held (view x)) read)
  where
    some_read : (bytes h : Option (List ℕ)) → IfSome h (λ all. bytes ≡ Some (take 1048577 all))
        → IfSome (option_map (λ (all : List ℕ). Some all) h) (λ (g : Option (List ℕ)). bytes ≡ option_map (λ (all : List ℕ). take (output_limit + 1) all) g)
    some_read bytes None e = tt
    some_read bytes (Some all) e = e ∙ ap (λ (n : ℕ). Some (take (n + 1) all)) (sym output_limit_is)

-- none, where none is named
pub output_none : {R : Type 0} (view : R → List ℕ) (o : Option R) (held : List ℕ → Option (List ℕ)) → o ≡ None
    → IfSome (output_held (option_map view o) held) (λ (h : Option (List ℕ)). ◌≡◌ {A = Option (List ℕ)} None (option_map (λ (all : List ℕ). take (output_limit + 1) all) h))
output_none {R = R} view o held e =
    subst (λ (p : Option R). IfSome (output_held (option_map view p) held) (λ (h : Option (List ℕ)). ◌≡◌ {A = Option (List ℕ)} None (option_map (λ (all : List ℕ). take (output_limit + 1) all) h)))
    (sym e) refl

-- ---- all files of a case

-- what is told of three files, where all of them are told
joined : (source script : Option (List ℕ)) (output : Option (Option (List ℕ))) (a b : List ℕ) (c : Option (List ℕ))
    → IfSome source (λ all. a ≡ take 1048577 all) → IfSome script (λ all. b ≡ take (script_limit + 1) all)
    → IfSome output (λ (h : Option (List ℕ)). c ≡ option_map (λ (all : List ℕ). take (output_limit + 1) all) h)
    → IsRead (option_and_then (λ (s : List ℕ). option_and_then (λ (t : List ℕ).
    option_and_then (λ (o : Option (List ℕ)). Some (record { source = s; script = t; output = o })) output) script) source) (record { source = a; script = b; output = c })
joined None script output a b c p q r = tt
joined (Some s) None output a b c p q r = tt
joined (Some s) (Some t) None a b c p q r = tt
joined (Some s) (Some t) (Some o) a b c p q r = record { source = p ∙ ap (λ (n : ℕ). take (n + 1) s) (sym source_limit_is); script = q; output = r }

-- the files are read one after the other, and hold what they held
pub case_read : (c : SuiteCase) (held mid between : List ℕ → Option (List ℕ)) (source script : List ℕ) (output : Option (List ℕ))
    → ((n : List ℕ) → mid n ≡ held n) → ((n : List ℕ) → between n ≡ mid n)
    → IfSome (held c.source) (λ all. source ≡ take 1048577 all)
    → IfSome (script_held c.script mid) (λ all. script ≡ take (script_limit + 1) all)
    → IfSome (output_held c.output between) (λ (h : Option (List ℕ)). output ≡ option_map (λ (all : List ℕ). take (output_limit + 1) all) h)
    → IsRead (given_of c held) (record { source = source; script = script; output = output })
case_read c held mid between source script output first later p q r =
    joined (held c.source) (script_held c.script held) (output_held c.output held) source script output p
    (subst (λ (h : List ℕ → Option (List ℕ)). IfSome (script_held c.script h) (λ all. script ≡ take (script_limit + 1) all)) (λ i n. first n i) q)
    (subst (λ (g : List ℕ → Option (List ℕ)). IfSome (output_held c.output g) (λ (h : Option (List ℕ)). output ≡ option_map (λ (all : List ℕ). take (output_limit + 1) all) h))
    (λ i n. (later n ∙ first n) i) r)

-- ---- outputs

long_part : (n : ℕ) (xs : List ℕ) → n < length xs → nat_lt n (length (take (n + 1) xs)) ≡ true
long_part n xs long = lt-ltb n (length (take (n + 1) xs)) (omega (arith, length-take (n + 1) xs))

short_part : (n : ℕ) (xs : List ℕ) → length xs ≤ n → take (n + 1) xs ≡ xs
short_part n xs short = take_all (n + 1) xs (omega arith)

-- a byte above the limit tells as much as all that follow
pub same_length : (output : Option (List ℕ)) → is_long (option_map (λ (all : List ℕ). take (output_limit + 1) all) output) ≡ is_long output
same_length None = refl
same_length (Some all) = elim (cases_lt output_limit (length all)) [
  | inl long ↦ long_part output_limit all long ∙ sym (lt-ltb output_limit (length all) long)
  | inr short ↦ ap (λ (xs : List ℕ). nat_lt output_limit (length xs)) (short_part output_limit all short)
]

-- and an output that is short enough is read whole
pub same_output : (output : Option (List ℕ)) → is_long output ≡ false → option_map (λ (all : List ℕ). take (output_limit + 1) all) output ≡ output
same_output None short = refl
same_output (Some all) short = elim (cases_lt output_limit (length all)) [
  | inl long ↦ absurd (cc (sym short ∙ lt-ltb output_limit (length all) long))
  | inr few ↦ ap (λ (xs : List ℕ). Some xs) (short_part output_limit all few)
]

-- of a file that is longer than the limit by its bytes
pub long_is : (n : ℕ) → nat_lt 1048576 n ≡ nat_lt output_limit n
long_is n = ap (λ (m : ℕ). nat_lt m n) (sym output_limit_is)
