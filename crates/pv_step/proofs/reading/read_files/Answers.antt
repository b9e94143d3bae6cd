use Rattle.pv_step.specs.ReadWords.{asked_job}
use Rattle.pv_step.proofs.FileLemmas.{files_read}
use Rattle.pv_step.proofs.RoseLemmas.{script_rose, commands_rose, other_err}
use Rattle.pv_step.proofs.reading.read_files.Goals as goal

pub returns-in-Err-read_script-clause-cause : goal.returns-in-Err-read_script-clause-cause
returns-in-Err-read_script-clause-cause g c = λ h.
    script_rose (asked_job c.args.asked) _ _ _ c.in-Ok.ensures.later (c.in-Err-read_script.ensures.cause (other_err _ _ h))

pub returns-in-Ok-read_commands-clause-read : goal.returns-in-Ok-read_commands-clause-read
returns-in-Ok-read_commands-clause-read g c =
    files_read (asked_job c.args.asked) (g.F.Files.held c.args.files.now) _ _ c.in-Ok.source.items c.in-Ok-read_script.script.items c.in-Ok-read_commands.commands.items
    c.in-Ok.ensures.same c.in-Ok-read_script.ensures.same c.in-Ok.ensures.bytes c.in-Ok-read_script.ensures.read c.in-Ok-read_commands.ensures.read

pub returns-in-Err-read_commands-clause-cause : goal.returns-in-Err-read_commands-clause-cause
returns-in-Err-read_commands-clause-cause g c = λ h.
    commands_rose (asked_job c.args.asked) _ _ _ _ c.in-Ok.ensures.later c.in-Ok-read_script.ensures.later (c.in-Err-read_commands.ensures.cause (other_err _ _ h))
