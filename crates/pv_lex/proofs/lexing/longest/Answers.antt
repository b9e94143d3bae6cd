use Rattle.pv_lex.specs.Rows.{start}
use Rattle.pv_lex.proofs.Wholes.{piece_longest, row_bytes, bad_byte_alone}
use Rattle.pv_lex.proofs.lexing.longest.Goals as goal

pub returns-clause-pieces : goal.returns-clause-pieces
returns-clause-pieces c = piece_longest

pub returns-clause-whole : goal.returns-clause-whole
returns-clause-whole c = λ source xs q row. row_bytes (start source) q xs row

pub returns-clause-bad_byte : goal.returns-clause-bad_byte
returns-clause-bad_byte c = bad_byte_alone
