-- Files and a sink that never fail.
use Rattle.std.proofs.Common.{inl, inr, ℕ, List}
use Rattle.std.specs.Prelude.{Option, Some, None}
use Rattle.pv_serve.proofs.OwedLemmas.{no_rise, none_rose}
use Rattle.pv_cases.specs.Cases.{cases_of}
use Rattle.pv_suite.specs.Causes.{list_files, CaseRose, ListRose}

case_calm : (list : Option (List ℕ)) (held : List ℕ → Option (List ℕ)) → CaseRose list held (λ _. 0) (λ _. 0) → ⊥
case_calm None held rose = no_rise rose.1
case_calm (Some list) held rose = none_rose (list_files held (cases_of list)) rose

pub list_calm : (name : List ℕ) (held : List ℕ → Option (List ℕ)) → ListRose name held (λ _. 0) (λ _. 0) → ⊥
list_calm name held (inl rose) = no_rise rose
list_calm name held (inr rose) = case_calm (held name) held rose
