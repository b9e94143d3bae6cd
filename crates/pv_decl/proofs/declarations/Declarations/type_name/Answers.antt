use Rattle.pv_decl.proofs.declarations.Declarations.type_name.Goals as goal

pub returns-in-Some : goal.returns-in-Some
returns-in-Some g c = c.word_name.ensures c.args.depth
