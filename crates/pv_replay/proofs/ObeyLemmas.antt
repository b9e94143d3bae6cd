-- What the run of a source tells of its memory is the journal of lines that obey (the memory model).
use Rattle.std.proofs.Common.{◌≡◌, ℕ, true, List, take, map, sym, ap, ◌∙◌, subst}
use Rattle.std.specs.Prelude.{None}
use Rattle.pv_script.specs.Lines.{ScriptLine}
use Rattle.pv_typed.specs.Known.{Each}
use Rattle.pv_typed.specs.Tables.{whole_unit}
use Rattle.pv_typed.specs.TypedUnits.{WholeUnit}
use Rattle.pv_world.specs.Worlds.{Worth}
use Rattle.pv_eval.specs.States.{Res, end_of}
use Rattle.pv_exec.specs.Outlets.{event_of}
use Rattle.pv_exec.specs.Words.{FitsWords}
use Rattle.pv_serve.specs.Readings.{Program}
use Rattle.pv_serve.specs.Fitting.{IsFit}
use Rattle.pv_serve.specs.Comes.{Comes}
use Rattle.pv_serve.specs.Judged.{IsRunBy}
use Rattle.pv_serve.proofs.ComesLemmas.{program_typed}
use Rattle.pv_journal_laws.specs.Runs.{run_end, events_at, TellsAJournal}
use Rattle.pv_journal_laws.proofs.Namings.{units_named}
use Rattle.pv_journal_laws.proofs.Running.{run_tells_first, words_fit}

-- the first events of the run of fit tables, as many as are wanted
pub run_obeys : (source : List ℕ) (unit : WholeUnit) (lines : List ScriptLine) (bound wants : ℕ) (run : Res Worth) (names : List (List ℕ)) (runs : IsRunBy unit lines bound true None run)
    → Comes source (Program unit) → IsFit runs.tables → Each FitsWords (end_of run).events → names ≡ unit.names → TellsAJournal (take wants (map event_of (end_of run).events)) names
run_obeys source unit lines bound wants run names runs comes fit words named =
    let u = runs.tables in
    let typed = program_typed source (whole_unit u) (subst (λ (w : WholeUnit). Comes source (Program w)) (sym runs.stands) comes) in
    let told : TellsAJournal (take wants (events_at u lines bound)) u.names =
    run_tells_first u lines bound wants (units_named source typed.0 typed.1 u typed.2 typed.3 fit.known) fit.filled
    (words_fit (run_end u lines bound).events (subst (λ (r : Res Worth). Each FitsWords (end_of r).events) runs.is words)) in
    subst (λ (ns : List (List ℕ)). TellsAJournal (take wants (map event_of (end_of run).events)) ns) (ap (λ (w : WholeUnit). w.names) runs.stands ∙ sym named)
    (subst (λ (r : Res Worth). TellsAJournal (take wants (map event_of (end_of r).events)) u.names) (sym runs.is) told)
