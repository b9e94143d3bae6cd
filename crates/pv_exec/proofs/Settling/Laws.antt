-- Late settling is right (the memory model): what a run ends with is its outcome.
use Rattle.std.proofs.Common.{IfSome, IsSomeAnd}
use Rattle.pv_inst.specs.declared.values.CreateError.TheVariants as refusal
use Rattle.pv_fault.specs.declared.verdict.Verdict.TheVariants as verdict
use Rattle.pv_world.specs.Worlds.{Worth, ByVerdict, Halts, Exits, Aborts, Refused, SidesEnded}
use Rattle.pv_eval.specs.States.{Res, Gives, Stops, Turns, Unreached, Stopped}
use Rattle.pv_exec.specs.Run.{outcome_of}
use Rattle.pv_exec.specs.Laying.{HasNoEmptyTag}
use Rattle.pv_exec.specs.Settling.{IsDecided, IsUndefined, LateIsSettled, UndefinedIsUndefined}
use Rattle.pv_exec.proofs.Settling.Asks.{asks-track}
use Rattle.pv_exec.proofs.Settling.Runs.{EndsUndefined, EndsDecided, late-is-settled, undefined-is-undefined}

decided : (r : Res Worth) → IfSome (outcome_of r) IsDecided → EndsDecided r
decided (Gives v s) d = tt
decided (Stops Turns s) d = tt
decided (Stops Unreached s) d = tt
decided (Stops (Stopped (ByVerdict (verdict.Undefined f)) line) s) d = d
decided (Stops (Stopped (ByVerdict verdict.Undecided) line) s) d = d
decided (Stops (Stopped (ByVerdict verdict.Indeterminate) line) s) d = tt
decided (Stops (Stopped (Halts h) line) s) d = tt

-- no other end is reported as undefined
undefined : (r : Res Worth) → IsSomeAnd (outcome_of r) IsUndefined → EndsUndefined r
undefined (Gives v s) h = h
undefined (Stops Turns s) h = h
undefined (Stops Unreached s) h = h
undefined (Stops (Stopped (ByVerdict (verdict.Undefined g)) l) s) h = tt
undefined (Stops (Stopped (ByVerdict verdict.Undecided) l) s) h = h
undefined (Stops (Stopped (ByVerdict verdict.Indeterminate) l) s) h = h
undefined (Stops (Stopped (Halts (Exits n)) l) s) h = h
undefined (Stops (Stopped (Halts Aborts) l) s) h = h
undefined (Stops (Stopped (Halts (SidesEnded k)) l) s) h = h
undefined (Stops (Stopped (Halts (Refused name (refusal.Storage live size))) l) s) h = h
undefined (Stops (Stopped (Halts (Refused name refusal.Denied)) l) s) h = h
undefined (Stops (Stopped (Halts (Refused name (refusal.Range k a))) l) s) h = h
undefined (Stops (Stopped (Halts (Refused name (refusal.Misaligned k a))) l) s) h = h
undefined (Stops (Stopped (Halts (Refused name (refusal.Overlap k a with))) l) s) h = h
undefined (Stops (Stopped (Halts (Refused name refusal.NoMemory)) l) s) h = h

pub late-law : LateIsSettled
late-law = λ u full zap script n d. late-is-settled u full zap script n (λ cs f args w h. asks-track (HasNoEmptyTag u) full cs f args w h) (decided _ d)

pub sooner-law : UndefinedIsUndefined
sooner-law = λ u full zap script n d sides enough. undefined-is-undefined u full zap script n (λ cs f args w h. asks-track (HasNoEmptyTag u) full cs f args w h) (undefined _ d) sides enough
