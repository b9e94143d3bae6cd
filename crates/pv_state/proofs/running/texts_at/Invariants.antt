use Rattle.std.proofs.Common.{◌≡◌, List, drop}
use Rattle.std.specs.Prelude.{Ok}
use Rattle.pv_script.specs.Lines.{ScriptLine}
use Rattle.pv_script.specs.Scripts.{script_of}
use Rattle.pv_typed.specs.Tables.{whole_unit}
use Rattle.pv_state.specs.Answering.{look_of}
use Rattle.pv_state.proofs.TellingLemmas.{Leads}
use Rattle.pv_state.proofs.running.texts_at.Given as goal

abbrev pub invariant-loop-place : goal.invariant-loop-place
invariant-loop-place l =
    (lines : List ScriptLine) → script_of l.script ≡ Ok lines → Leads (whole_unit l.unit) lines (look_of l.look) l.places (drop l.place-index l.places) l.text.items
