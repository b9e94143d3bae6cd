use Rattle.std.proofs.Common.{refl, sym}
use Rattle.pv_serve.specs.Words.{texts}
use Rattle.pv_serve.specs.Jobs.{Files}
use Rattle.pv_serve.proofs.CausesLemmas.{served_by_files, served_by_number, served_by_words, served_by_nothing, job_files, job_number, job_none}
use Rattle.pv_serve.proofs.serving.serve.Goals as goal

pub run_generated-requires : goal.run_generated-requires
run_generated-requires g c = record { number = c.in-Some.ensures.range }

pub run_files-requires : goal.run_files-requires
run_files-requires g c = record { task = c.in-Some-file_job.ensures.turns }

pub returns-in-Some-clause-served : goal.returns-in-Some-clause-served
returns-in-Some-clause-served g c = served_by_number _ _ (job_number (texts c.args.words.now) _ (sym c.in-Some.ensures.value)) c.run_generated.ensures

pub returns-in-Ok-clause-served : goal.returns-in-Ok-clause-served
returns-in-Ok-clause-served g c =
    served_by_files _ _ _ (job_files (texts c.args.words.now) _ (sym c.in_default.ensures.value) c.in-Some-file_job.ensures.words) c.in-Ok.ensures c.run_files.ensures.served

pub returns-in_default-file_job-clause-served : goal.returns-in_default-file_job-clause-served
returns-in_default-file_job-clause-served g c =
    served_by_words _ (job_none (texts c.args.words.now) (sym c.in_default.ensures.value) c.in_default-file_job.ensures.words) refl refl c.tell.ensures

pub returns-in-Err-clause-served : goal.returns-in-Err-clause-served
returns-in-Err-clause-served g c =
    served_by_nothing _ (Files _) (job_files (texts c.args.words.now) _ (sym c.in_default.ensures.value) c.in-Some-file_job.ensures.words) refl refl refl
