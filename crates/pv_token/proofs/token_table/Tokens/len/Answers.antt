use Rattle.std.proofs.Common.{length, ap, arith}
use Rattle.std.proofs.lemmas.List.{length-map}
use Rattle.pv_token.specs.Short.{token_of}
use Rattle.pv_token.specs.Table.{Table}
use Rattle.pv_token.proofs.token_table.Tokens.len.Goals as goal

pub returns : goal.returns
returns c = omega (arith, c.len.ensures, c.self.inside.tokens.ok.0, ap (λ (t : Table). length t.tokens) c.self.view_is, length-map c.self.inside.tokens.items (token_of c.self.inside.values.items))
