-- What a call of the library leads to (C17 7.21.6, 7.22.3, 7.24).
use Rattle.std.proofs.Common.{All, List, [], ◌∷◌, sym, subst}
use Rattle.std.proofs.lemmas.List.Elements.{All-cons, All-nil}
use Rattle.pv_library.specs.declared.library.Library.{Library}
use Rattle.pv_prov.specs.declared.names.Prov.{Prov}
use Rattle.pv_inst.specs.Table.{Table, IsMadeIn}
use Rattle.pv_shadow.specs.declared.byte.Byte.{Byte}
use Rattle.pv_object.specs.Memory.{Mem}
use Rattle.pv_libc.specs.declared.values.Arg.{Arg}
use Rattle.pv_libc.specs.Calls.{reply_to_call}
use Rattle.pv_typed.specs.Known.{Each}
use Rattle.pv_exec.proofs.Memory.Reached.{allocation-lives}
use Rattle.pv_exec.proofs.Memory.Ways.{Changes, Ways, IsCharacter}
use Rattle.pv_exec.proofs.Memory.Library.{called-closed}
use Rattle.pv_exec.proofs.Memory.Pointers.{reach-leads, value-leads, to_int-leads}

-- characters have no name
characters-made : (T : Table) (bytes : List Byte) → Each IsCharacter bytes → All (λ (x : Byte). IsMadeIn T x.prov) bytes
characters-made T [] h = All-nil (λ (x : Byte). IsMadeIn T x.prov)
characters-made T (x ∷ bytes) h = All-cons (λ (x : Byte). IsMadeIn T x.prov) x bytes (subst (λ (p : Prov). IsMadeIn T p) (sym h.0.nameless) tt) (characters-made T bytes h.1)

along : {F : Type 0} {R : Mem → Mem → Type 0} → Changes F R → Ways R
along changes = record {
  itself = changes.itself;
  trans = λ h g. changes.trans h g;
  told = λ M. changes.told M;
  uses = λ M p t. changes.uses M p t;
  reaches = λ M p n align write by. reach-leads changes M p n align write by;
  loads = λ M bytes t. value-leads changes M bytes t;
  numbers = λ M p k. to_int-leads changes M p k;
  makes = λ M r some none. changes.makes M r (λ f. some);
  ends = λ M i h. changes.ends M i (allocation-lives M.table i h);
  stores = λ M a bytes within characters. changes.stores M a bytes within (characters-made M.table bytes characters);
  copies = λ M to from n l k. changes.copies M to from n l k;
}

pub called-leads : {F : Type 0} {R : Mem → Mem → Type 0} (changes : Changes F R) (f : Library) (args : List Arg) (M : Mem) → R M (reply_to_call f args M).after.memory
called-leads changes f args M = called-closed (along changes) f args M
