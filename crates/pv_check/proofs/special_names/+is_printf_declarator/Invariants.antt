use Rattle.pv_check.proofs.special_names.+is_printf_declarator.Given as goal

abbrev pub decreases-is_printf_declarator : goal.decreases-is_printf_declarator
decreases-is_printf_declarator l = l.n.0
