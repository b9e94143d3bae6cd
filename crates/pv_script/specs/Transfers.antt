-- A bridge: what one read and one write do, and when they may fail.
use Rattle.std.specs.Prelude.{ℕ, ◌≤◌, Result, OnErr, ◌≡◌, List, length, take, drop, IfOk, [], Option, MatchResult, ◌<◌}
use Rattle.pv_script.specs.Outside.{Rose, Gains}

-- The count has not fallen, and a failure comes only where it rose, as an error sets its stream's indicator (C17 7.21.1p2).
pub record HasCause {T E : Type 0} (before now : ℕ) (result : Result T E) : Type 0 where
  pub later : before ≤ now
  pub failed : OnErr result (Rose before now)

-- A read of a file of these bytes: those that stand at the place, and none only at the end (C17 7.21.8.1p2).
abbrev pub ReadsFrom : {E : Type 0} → List ℕ → ℕ → Result ℕ E → List ℕ → Type 0
ReadsFrom bytes place result into = IfOk result (λ n. (take n into ≡ take n (drop place bytes)) × (n ≡ 0 → length bytes ≤ place))

-- A write takes a first part of at least one byte, or fails and takes none (C17 7.21.8.2p3).
abbrev pub Takes : {E : Type 0} → Option (List ℕ) → Option (List ℕ) → Result ℕ E → List ℕ → Type 0
Takes old new result bytes = MatchResult result (λ n. Gains old new (take n bytes)) (λ _. Gains old new [])

-- at least one byte, and at most all (C17 7.21.8.2p3)
abbrev pub TakesSome : {E : Type 0} → Result ℕ E → List ℕ → Type 0
TakesSome result bytes = IfOk result (λ n. (0 < n) × (n ≤ length bytes))
