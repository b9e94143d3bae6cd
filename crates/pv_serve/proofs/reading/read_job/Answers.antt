use Rattle.std.proofs.Common.{rules, length, arith}
use Rattle.std.specs.Prelude.{option_map}
use Rattle.pv_serve.proofs.RunLemmas.{beyond, within}
use Rattle.pv_serve.proofs.FilesLemmas.{read_alone, read_both, source_rose, script_rose, other_err}
use Rattle.pv_serve.proofs.reading.read_job.Goals as goal

pub returns-then-len-gt-SOURCE_LIMIT-clause-read : goal.returns-then-len-gt-SOURCE_LIMIT-clause-read
returns-then-len-gt-SOURCE_LIMIT-clause-read g c =
    read_alone c.args.source.now (option_map (λ s. s.now) c.args.script) (g.F.Files.held c.args.files.now) c.in-Ok.bytes.items c.new-script.result.items
    (beyond (length c.in-Ok.bytes.items) (omega (arith, c.if-len-gt-SOURCE_LIMIT.true, c.in-Ok.bytes.ok.0))) (search rules) c.in-Ok.ensures.bytes

pub returns-in-Ok-read_script-clause-read : goal.returns-in-Ok-read_script-clause-read
returns-in-Ok-read_script-clause-read g c =
    read_both c.args.source.now (option_map (λ s. s.now) c.args.script) (g.F.Files.held c.args.files.now) _ c.in-Ok.bytes.items _
    (within (length c.in-Ok.bytes.items) (omega (arith, c.if-len-gt-SOURCE_LIMIT.false, c.in-Ok.bytes.ok.0))) c.in-Ok.ensures.same c.in-Ok.ensures.bytes c.in-Ok-read_script.ensures.read

pub returns-in-Err-clause-cause : goal.returns-in-Err-clause-cause
returns-in-Err-clause-cause g c = λ h.
    source_rose c.args.source.now (option_map (λ s. s.now) c.args.script) (g.F.Files.held c.args.files.now) _ _ (c.in-Err.ensures.cause (other_err _ _ h))

pub returns-in-Err-read_script-clause-cause : goal.returns-in-Err-read_script-clause-cause
returns-in-Err-read_script-clause-cause g c = λ h.
    script_rose c.args.source.now (option_map (λ s. s.now) c.args.script) (g.F.Files.held c.args.files.now) c.in-Ok.bytes.items _ _ _
    (within (length c.in-Ok.bytes.items) (omega (arith, c.if-len-gt-SOURCE_LIMIT.false, c.in-Ok.bytes.ok.0))) c.in-Ok.ensures.bytes c.in-Ok.ensures.later
    (c.in-Err-read_script.ensures.cause (other_err _ _ h))
