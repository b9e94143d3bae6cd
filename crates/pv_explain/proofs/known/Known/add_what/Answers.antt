use Rattle.pv_explain.proofs.known.Known.add_what.Goals as goal

pub returns-in-Made : goal.returns-in-Made
returns-in-Made c = rw c.in-Made.is c.add_made.ensures

pub returns-in-Pair : goal.returns-in-Pair
returns-in-Pair c = rw c.in-Pair.is c.add_pair.ensures
