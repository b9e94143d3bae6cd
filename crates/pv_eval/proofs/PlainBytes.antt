-- Bytes that are a number and have no names, of which nothing is exposed.
use Rattle.std.proofs.Common.{◌≡◌, ℕ, Bool, true, false, cond, ◌&&◌, List, [], ◌∷◌, Option, None, Some, IfSome, refl, sym}
use Rattle.std.proofs.lemmas.Bool.{false≢true}
use Rattle.pv_prov.specs.declared.names.Prov.{Prov}
use Rattle.pv_prov.specs.declared.names.Prov.TheVariants.{Empty, Inst, Pair}
use Rattle.pv_prov.specs.Names.{is_empty}
use Rattle.pv_inst.specs.Table.{Table}
use Rattle.pv_inst.specs.Exposure.{expose}
use Rattle.pv_shadow.specs.declared.byte.Byte.{Byte}
use Rattle.pv_shadow.specs.Readings.{are_nameless, nameless_number}
use Rattle.pv_shadow.specs.Whole.{number_in}
use Rattle.pv_object.specs.Loading.{exposed_by}
use Rattle.pv_eval.specs.Plainly.{IsPlainNumber}

first_exposes : (p : Prov) (bs : List Byte) → (is_empty p && are_nameless bs) ≡ true → (are_nameless bs ≡ true → (T : Table) → exposed_by T bs ≡ T) → (T : Table) → exposed_by (expose T p) bs ≡ T
first_exposes Empty bs h go T = go h T
first_exposes (Inst i) bs h go T = absurd (false≢true h)
first_exposes (Pair k) bs h go T = absurd (false≢true h)

nothing_exposed : (bs : List Byte) → are_nameless bs ≡ true → (T : Table) → exposed_by T bs ≡ T
nothing_exposed [] h T = refl
nothing_exposed (b ∷ bs) h T = first_exposes b.prov bs h (nothing_exposed bs) T

number_by : (t : Bool) (bs : List Byte) (n : ℕ) → are_nameless bs ≡ t → cond t (number_in bs) None ≡ Some n → IsPlainNumber bs n
number_by true bs n all e = (e, nothing_exposed bs all)
number_by false bs n all e = absurd cc

pub plain_number : (o : Option ℕ) (bs : List Byte) → o ≡ nameless_number bs → IfSome o (IsPlainNumber bs)
plain_number None bs e = tt
plain_number (Some n) bs e = number_by (are_nameless bs) bs n refl (sym e)
