use Rattle.std.proofs.Common.{◌⊎◌, inl, inr}
use Rattle.pv_token.specs.Table.{Table}
use Rattle.pv_lex.specs.declared.error.LexError.{LexError}
use Rattle.pv_lex.specs.Lexes.{Lexes}
use Rattle.pv_lex.specs.Faults.{IsFaultOf}
use Rattle.pv_lex.proofs.Exactly.{either_error, no_error, one_table, one_error}
use Rattle.pv_lex.proofs.lexing.exactly_one.Goals as goal

pub returns-clause-either_one : goal.returns-clause-either_one
returns-clause-either_one c = λ source. elim (either_error source) as (λ _. ((t : Table) × Lexes source t) ⊎ ((e : LexError) × IsFaultOf source e)) [
  | inl t ↦ inl t
  | inr f ↦ inr (f.0, (f.1, f.2))
]

pub returns-clause-not_both : goal.returns-clause-not_both
returns-clause-not_both c = λ source t e l x. no_error source t e x.0 l x.1

pub returns-clause-one_table : goal.returns-clause-one_table
returns-clause-one_table c = one_table

pub returns-clause-one_fault : goal.returns-clause-one_fault
returns-clause-one_fault c = λ source e g x y. one_error source e g x.0 y.0 x.1 y.1
