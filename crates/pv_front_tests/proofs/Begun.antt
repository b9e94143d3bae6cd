-- Scopes and tables of which the tests begin.
use Rattle.std.proofs.Common.{◌≡◌, [], ◌∷◌, ◌++◌, Result, Ok, refl, sym, subst, ap, ◌∙◌, arith}
use Rattle.std.specs.Prelude.{OnOk}
use Rattle.pv_types.specs.Layouts.{layouts_of}
use Rattle.pv_typed.specs.Known.{AreKnown}
use Rattle.pv_typed.specs.Formed.{no_tables}
use Rattle.pv_typed.specs.Tables.{Stored}
use Rattle.pv_check.specs.Growing.{AreSized}
use Rattle.pv_check.specs.Open.{IsOpen}
use Rattle.pv_check.specs.Raw.{Raw, no_raw}

no_types_sized : AreSized no_tables.known
unfolding layouts_of
no_types_sized = record { types = λ i lt. absurd (omega (arith, lt)); tags = λ n. refl }

-- the scope of the file, over tables without types
pub begun : (m : Stored) (s t : Raw) → AreKnown m → m.known ≡ no_tables.known → s ≡ record { scopes = []; used = [] } → t ≡ record s { scopes = s.scopes ++ (no_raw ∷ []) } → IsOpen m t
begun m s t known same none e =
    let is : t ≡ record { scopes = no_raw ∷ []; used = [] } = e ∙ ap (λ (r : Raw). record r { scopes = r.scopes ++ (no_raw ∷ []) }) none in
    subst (IsOpen m) (sym is) (record { known = known; sized = subst AreSized (sym same) no_types_sized; some = omega arith; scopes = ((tt, tt), tt) })

-- what a call that gave a result says
pub on_ok : {A E : Type 0} (P : Type 0) (r : Result A E) (x : A) → OnOk r P → r ≡ Ok x → P
on_ok P r x h e = subst (λ y. OnOk y P) e h
