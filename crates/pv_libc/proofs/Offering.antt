-- The arguments behind a format are pointers that were made, as all are.
use Rattle.std.proofs.Common.{◌≡◌, List, map, drop, All, sym, subst}
use Rattle.std.proofs.lemmas.List.Elements.{All-map, All-drop}
use Rattle.pv_object.specs.Memory.{Mem}
use Rattle.pv_object.specs.Answers.{IsMadeValue}
use Rattle.pv_libc.specs.declared.values.Arg.{Arg}
use Rattle.pv_libc.specs.declared.values.Offered.{Offered}
use Rattle.pv_libc.specs.Calls.{offer}

pub offered_made : (M : Mem) (args : List Arg) (xs : List Offered) → xs ≡ map (offer M) (drop 1 args) → All (λ (a : Arg). IsMadeValue M.table a.value) args → All (λ (x : Offered). IsMadeValue M.table x.arg.value) xs
offered_made M args xs e h =
    let P : Arg → Type 0 = λ a. IsMadeValue M.table a.value in
    let Q : Offered → Type 0 = λ x. IsMadeValue M.table x.arg.value in
    subst (λ zs. All Q zs) (sym e) (All-map Q (offer M) (drop 1 args) (All-drop P 1 args h))
