use Rattle.std.proofs.Common.{refl}
use Rattle.pv_serve.proofs.CausesLemmas.{quiet_report, run_report}
use Rattle.pv_serve.proofs.serving.report_of.Goals as goal

pub returns-in-Ran : goal.returns-in-Ran
returns-in-Ran g c = run_report _ _ _ _ _ _ _ c.in-Ran.is c.in_ok-text.ensures c.with_story.ensures

pub returns-in-Settled : goal.returns-in-Settled
returns-in-Settled g c = quiet_report _ _ _ _ c.in-Settled.is (λ shown. refl) c.in_ok-text.ensures

pub returns-in-Described : goal.returns-in-Described
returns-in-Described g c = quiet_report _ _ _ _ c.in-Described.is (λ shown. refl) c.in_ok-text.ensures

pub returns-in-Source : goal.returns-in-Source
returns-in-Source g c = quiet_report _ _ _ _ c.in-Source.is (λ shown. refl) c.in_ok-text.ensures

pub returns-in-Script : goal.returns-in-Script
returns-in-Script g c = quiet_report _ _ _ _ c.in-Script.is (λ shown. refl) c.in_ok-text.ensures
