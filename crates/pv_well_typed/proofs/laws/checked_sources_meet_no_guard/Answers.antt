use Rattle.pv_typed.specs.Tables.{whole_unit}
use Rattle.pv_exec.specs.Run.{setting_of}
use Rattle.pv_guards.proofs.Readying.{run-same}
use Rattle.pv_well_typed.proofs.LexedTokens.{typed-lexed}
use Rattle.pv_well_typed.proofs.laws.checked_sources_meet_no_guard.Goals as goal

pub returns : goal.returns
returns c = record { same = λ source t ds u checked sides zap script n. run-same (setting_of u n sides zap) (typed-lexed source t ds (whole_unit u) checked) script }
