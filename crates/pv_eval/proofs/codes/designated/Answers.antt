use Rattle.pv_eval.proofs.codes.designated.Goals as goal

pub returns-in-Some : goal.returns-in-Some
returns-in-Some c = record { same = c.in-Some.ensures; scalar = c.requires.scalar }

pub returns-in-None : goal.returns-in-None
returns-in-None c = c.in_structure.ensures
