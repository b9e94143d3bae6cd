use Rattle.pv_decl_forms.proofs.Outer.{is_read}
use Rattle.pv_stmt.proofs.parts.declaration.Goals as goal

pub returns : goal.returns
returns g c = record {
  keeps = c.declaration.ensures.keeps;
  answer =
      is_read c.args.source.now.typedefs.now (g.R.TypeReader.types c.args.source.now.reader.now) c.args.into.now c.declaration.new.into c.args.source.now.tokens.now.tokens c.args.at c.args.depth c.requires.tied c.requires.place
      c.declaration.result c.declaration.ensures.found c.declaration.ensures.longest c.declaration.ensures.none;
}

pub declaration-requires : goal.declaration-requires
declaration-requires g c = c.requires.tied
