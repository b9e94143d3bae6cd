use Rattle.pv_check.proofs.special_names.+declared_name.Given as goal

abbrev pub decreases-declared_name : goal.decreases-declared_name
decreases-declared_name l = l.n.0
