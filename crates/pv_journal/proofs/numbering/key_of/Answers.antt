use Rattle.pv_journal.proofs.Added.{called_by, more_text, more_itself}
use Rattle.std.proofs.Common.{List, ℕ, sym, subst}
use Rattle.pv_journal.specs.Standing.{IsMore, IsCalled}
use Rattle.pv_journal.proofs.numbering.key_of.Goals as goal

pub returns-clause-called : goal.returns-clause-called
returns-clause-called c =
    subst (λ (t : List ℕ). IsCalled c.add.new.self (record { name = t; k = c.args.id.now.k }) (record { name = c.in_ok-name.name; k = c.args.id.now.k })) c.deref.ensures.value
    (called_by c.add.new.self c.deref.result.now c.in_ok-name.name c.args.id.now.k c.in_ok-name.ensures.number c.in_ok-name.ensures.once)

pub returns-clause-more : goal.returns-clause-more
returns-clause-more c = subst (IsMore _) (sym c.in_ok-name.ensures.texts) (more_text _ _)

pub returns-in_err-name-clause-more : goal.returns-in_err-name-clause-more
returns-in_err-name-clause-more c = subst (IsMore _) (sym c.in_err-name.ensures.unchanged) (more_itself _)
