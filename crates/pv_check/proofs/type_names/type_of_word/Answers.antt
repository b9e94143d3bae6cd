use Rattle.std.proofs.Common.{Some, None, refl}
use Rattle.pv_num.specs.declared.kinds.IntKind.TheVariants as kind
use Rattle.pv_tree.specs.declared.nodes.Spec.TheVariants as spec
use Rattle.pv_check.specs.Words.{type_of_words}
use Rattle.pv_check.proofs.WordTypes.{same_word}
use Rattle.pv_check.proofs.type_names.type_of_word.Goals as goal

pub returns-in-Void : goal.returns-in-Void
unfolding type_of_words
returns-in-Void c = same_word c.args.spec spec.Void None c.in-Void.is (λ f line z. refl)

pub returns-in-Char : goal.returns-in-Char
unfolding type_of_words
returns-in-Char c = same_word c.args.spec spec.Char (Some kind.Char) c.in-Char.is (λ f line z. refl)

pub returns-in-Short : goal.returns-in-Short
unfolding type_of_words
returns-in-Short c = same_word c.args.spec spec.Short (Some kind.Short) c.in-Short.is (λ f line z. refl)

pub returns-in-Int : goal.returns-in-Int
unfolding type_of_words
returns-in-Int c = same_word c.args.spec spec.Int (Some kind.Int) c.in-Int.is (λ f line z. refl)

pub returns-in-Signed : goal.returns-in-Signed
unfolding type_of_words
returns-in-Signed c = same_word c.args.spec spec.Signed (Some kind.Int) c.in-Signed.is (λ f line z. refl)

pub returns-in-Unsigned : goal.returns-in-Unsigned
unfolding type_of_words
returns-in-Unsigned c = same_word c.args.spec spec.Unsigned (Some kind.UInt) c.in-Unsigned.is (λ f line z. refl)

pub returns-in-Long : goal.returns-in-Long
unfolding type_of_words
returns-in-Long c = same_word c.args.spec spec.Long (Some kind.Long) c.in-Long.is (λ f line z. refl)

pub returns-in-Bool : goal.returns-in-Bool
unfolding type_of_words
returns-in-Bool c = same_word c.args.spec spec.Bool (Some kind.Bool) c.in-Bool.is (λ f line z. refl)
