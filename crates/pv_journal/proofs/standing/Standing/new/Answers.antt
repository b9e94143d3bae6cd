use Rattle.std.proofs.Common.{List, All, map, false, sym, subst}
use Rattle.std.proofs.lemmas.List.Elements.{All-nil}
use Rattle.pv_journal.specs.Standing.{held_under, bond_under, IsHeldKnown, IsBondKnown}
use Rattle.pv_journal.specs.declared.held.Held.{Held}
use Rattle.pv_journal.specs.declared.bonds.Bond.{Bond}
use Rattle.pv_journal.proofs.standing.Standing.new.Goals as goal

pub returns-clause-first : goal.returns-clause-first
returns-clause-first c = λ names i. record { held = map (held_under names) (c.new.ensures i); bonds = map (bond_under names) (c.new-2.ensures i); turn = 0; over = false }

pub returns-clause-known : goal.returns-clause-known
returns-clause-known c = λ names. record {
  held = subst (λ (l : List Held). All (IsHeldKnown names) l) (sym c.new.ensures) (All-nil (IsHeldKnown names));
  bonds = subst (λ (l : List Bond). All (IsBondKnown names) l) (sym c.new-2.ensures) (All-nil (IsBondKnown names));
}
