-- Arguments of a call of the library whose names were looked at: what these speak of was made.
use Rattle.std.proofs.Common.{◌≡◌, true, List}
use Rattle.std.specs.Prelude.{All}
use Rattle.std.proofs.lemmas.List.Sums.{AllPass-from_list_all}
use Rattle.pv_inst.specs.Table.{Table}
use Rattle.pv_object.specs.Answers.{IsMadeValue}
use Rattle.pv_libc.specs.declared.values.Arg.{Arg}
use Rattle.pv_world.specs.Suiting.{knows_value}
use Rattle.pv_world.proofs.Guards.{value_made}
use Rattle.pv_eval.specs.LibraryParts.{knows_arguments}

pub arguments_made : (T : Table) (args : List Arg) → knows_arguments T args ≡ true → All (λ (x : Arg). IsMadeValue T x.value) args
arguments_made T args e = λ k d l. value_made T _ (AllPass-from_list_all (λ (x : Arg). knows_value T x.value) args e k d l)
