-- What a use found is what is noted of it.
use Rattle.std.proofs.Common.{◌≡◌, ℕ, List, ◌++◌, Result, Ok, Err, ap, ◌∙◌}
use Rattle.pv_inst.specs.declared.values.Tried.{Tried}
use Rattle.pv_inst.specs.declared.values.Miss.{Miss}
use Rattle.pv_object.specs.Answers.{survivors}
use Rattle.pv_libc.specs.declared.values.Note.{Note}
use Rattle.pv_libc.specs.Steps.{use_notes}

pub noted_use : (n : ℕ) (r : Result Tried Miss) (tried : Tried) → tried ≡ survivors r → use_notes (Ok tried) n ≡ use_notes r n
noted_use n (Ok t) tried e = ap (λ x. use_notes (Ok x) n) e
noted_use n (Err m) tried e = ap (λ x. use_notes (Ok x) n) e

pub noted_next : (n : ℕ) (r : Result Tried Miss) (tried : Tried) (ns ms : List Note) → ms ≡ ns ++ use_notes (Ok tried) n → tried ≡ survivors r → ms ≡ ns ++ use_notes r n
noted_next n r tried ns ms h e = h ∙ ap (λ us. ns ++ us) (noted_use n r tried e)
