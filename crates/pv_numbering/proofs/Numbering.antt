-- No run depends on how the types of its unit are numbered (C17 6.5p6).
use Rattle.std.proofs.Common.{◌≡◌, ℕ, Bool, List, subst, sym}
use Rattle.std.specs.Prelude.{Option}
use Rattle.pv_script.specs.Lines.{ScriptLine}
use Rattle.pv_typed.specs.Tables.{Stored, whole_unit}
use Rattle.pv_eval.specs.States.{Setting}
use Rattle.pv_exec.specs.Run.{setting_of, run_of}
use Rattle.pv_exec.specs.Laws.{run_at}
use Rattle.pv_numbering.specs.Same.{SameRun}
use Rattle.pv_numbering.proofs.Operations.{acts-alike}
use Rattle.pv_numbering.proofs.Runs.{same-run}
use Rattle.pv_numbering.proofs.Tables.{same_layouts, unit_alike, other_setting}

pub same-tables : (u v : Stored) → whole_unit u ≡ whole_unit v → (sides : Option (List Bool)) (zap : Bool) (script : List ScriptLine) (n : ℕ) → SameRun (run_at u sides zap script n) (run_at v sides zap script n)
same-tables u v same sides zap script n =
    let b = setting_of u n sides zap in
    subst (λ (c : Setting). SameRun (run_of b script) (run_of c script)) (other_setting u v same n sides zap)
    (same-run b v.known (acts-alike b v.known (sym (same_layouts u v same))) (unit_alike u v same n sides zap) script)
