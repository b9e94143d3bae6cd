use Rattle.pv_tree.proofs.Kept.{extends_same}
use Rattle.pv_decl.proofs.declarations.Declarations.word_name.Goals as goal

pub returns-in-Some : goal.returns-in-Some
returns-in-Some g c = λ depth. record {
  keeps = extends_same _;
  answer = c.in-Some.ensures depth;
}
