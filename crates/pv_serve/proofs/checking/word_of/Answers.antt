use Rattle.std.proofs.Common.{refl}
use Rattle.pv_serve.proofs.ComesLemmas.{wordless_byte, wordless_token, cut_word}
use Rattle.pv_serve.proofs.checking.word_of.Goals as goal

pub returns-in-BadByte : goal.returns-in-BadByte
returns-in-BadByte c = wordless_byte _ _ _ _ c.in-BadByte.is c.empty.ensures

pub returns-in-BadToken : goal.returns-in-BadToken
returns-in-BadToken c = wordless_token _ _ _ _ c.in-BadToken.is c.empty-in-BadToken.ensures

pub returns-in-Profile : goal.returns-in-Profile
returns-in-Profile c = cut_word _ _ _ _ _ _ _ _ _ c.in-Profile.is c.copied.ensures refl refl refl refl
