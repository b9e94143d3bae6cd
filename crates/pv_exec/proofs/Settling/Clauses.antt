-- What a run without sides answers (C17 5.1.2.2.3p1), and the two laws on its settling.
use Rattle.std.proofs.Common.{◌≡◌, ℕ, Bool, true, false, List, [], ◌∷◌, length, map, Option, Some, None, Result, Ok, Err, IfSome, IfNone, IfOk, IsSomeAnd, refl, sym, ap, ◌∙◌, subst, arith, suc}
use Rattle.pv_script.specs.Lines.{ScriptLine}
use Rattle.pv_prov.specs.declared.pairs.Twin.{Twin}
use Rattle.pv_typed.specs.Tables.{Stored}
use Rattle.pv_eval.specs.States.{end_of}
use Rattle.pv_eval.specs.Constants.{is_high_pair}
use Rattle.pv_exec.specs.declared.outcome.Outcome.{Outcome}
use Rattle.pv_exec.specs.declared.program.Ran.{Ran}
use Rattle.pv_exec.specs.declared.program.RunError.{RunError}
use Rattle.pv_exec.specs.declared.sides.Side.{Side}
use Rattle.pv_exec.specs.Run.{sides_at}
use Rattle.pv_exec.specs.Sided.{side_of, is_high}
use Rattle.pv_exec.specs.Answering.{RanAs, highs}
use Rattle.pv_exec.specs.Laws.{run_at}
use Rattle.pv_exec.specs.Laying.{HasNoEmptyTag}
use Rattle.pv_exec.specs.Settling.{IsDecided, IsUndefined, EndsAlike, EndsBy}
use Rattle.pv_exec.specs.SettledRuns.{SettlesAlike, IsUndefinedByAll}
use Rattle.pv_exec.proofs.Settling.Laws.{late-law, sooner-law}

high-is : (bs : List Bool) → map is_high (map side_of bs) ≡ bs
high-is [] = refl
high-is (true ∷ bs) = ap (λ cs. true ∷ cs) (high-is bs)
high-is (false ∷ bs) = ap (λ cs. false ∷ cs) (high-is bs)

sides-length : (ts : List Twin) → length (map side_of (map is_high_pair ts)) ≡ length ts
sides-length [] = refl
sides-length (t ∷ ts) = ap (λ n. suc n) (sides-length ts)

late-clause : (u : Stored) → HasNoEmptyTag u → (n : ℕ) (zap : Bool) (script : List ScriptLine) (ran : Ran) → RanAs (run_at u None zap script n) ran → SettlesAlike u n zap script ran
late-clause u full n zap script ran h d =
    let r = run_at u None zap script n in
    let sides : map is_high ran.sides ≡ sides_at (end_of r) = ap (map is_high) h.sides ∙ high-is (sides_at (end_of r)) in
    let law = late-law u full zap script n (subst (λ (o : Option Outcome). IfSome o IsDecided) (sym h.outcome) d) in
    subst (λ bs. EndsAlike r (run_at u (Some bs) zap script n)) (sym sides) law

sooner-clause : (u : Stored) → HasNoEmptyTag u → (n : ℕ) (zap : Bool) (script : List ScriptLine) (ran : Ran) → RanAs (run_at u None zap script n) ran → IsUndefinedByAll u n zap script ran
sooner-clause u full n zap script ran h d sides enough =
    let r = run_at u None zap script n in
    let many : length ran.sides ≡ length (end_of r).world.memory.table.pairs = ap (λ (ss : List Side). length ss) h.sides ∙ sides-length (end_of r).world.memory.table.pairs in
    let law = sooner-law u full zap script n (subst (λ (o : Option Outcome). IsSomeAnd o IsUndefined) (sym h.outcome) d) sides (omega (arith, many, enough)) in
    subst (λ k. EndsBy k (run_at u (Some sides) zap script n)) (sym h.turns) law

-- as clauses of `run`, whatever it is given
pub late-answer : {R : Type 0} (u : Stored) → HasNoEmptyTag u → (n : ℕ) (zap : Bool) (script : List ScriptLine) (sides : Option R) (view : R → List Side) (result : Result Ran RunError)
    → IfOk result (RanAs (run_at u (highs sides view) zap script n)) → IfOk result (λ ran. IfNone sides (SettlesAlike u n zap script ran))
late-answer u full n zap script None view (Ok ran) h = late-clause u full n zap script ran h
late-answer u full n zap script (Some r) view (Ok ran) h = tt
late-answer u full n zap script sides view (Err e) h = tt

pub sooner-answer : {R : Type 0} (u : Stored) → HasNoEmptyTag u → (n : ℕ) (zap : Bool) (script : List ScriptLine) (sides : Option R) (view : R → List Side) (result : Result Ran RunError)
    → IfOk result (RanAs (run_at u (highs sides view) zap script n)) → IfOk result (λ ran. IfNone sides (IsUndefinedByAll u n zap script ran))
sooner-answer u full n zap script None view (Ok ran) h = sooner-clause u full n zap script ran h
sooner-answer u full n zap script (Some r) view (Ok ran) h = tt
sooner-answer u full n zap script sides view (Err e) h = tt
