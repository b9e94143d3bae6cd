-- The tables and the scopes before the first declaration of a unit.
use Rattle.std.proofs.Common.{◌≡◌, ℕ, ◌+◌, ◌≤◌, nat_eq, Bool, true, false, List, [], ◌∷◌, ◌++◌, Some, length, take, IsTrue, refl, sym, ◌∙◌, ap, subst, arith}
use Rattle.std.specs.Prelude.{if◌then◌else◌}
use Rattle.std.specs.Cmp.Lexicographic.{pointwise}
use Rattle.std.specs.List.{list_any, slice_get}
use Rattle.std.proofs.lemmas.List.{take_all, take_more}
use Rattle.std.proofs.lemmas.Option.{get_or_from_slice_get, slice_get_within}
use Rattle.pv_script.specs.Texts.{with_text}
use Rattle.pv_token.specs.Table.{Table}
use Rattle.pv_types.specs.Known.{env}
use Rattle.pv_types.specs.Layouts.{layouts_of}
use Rattle.pv_types.specs.Ty.{StructTag}
use Rattle.pv_typed.specs.Formed.{Grown, no_tables}
use Rattle.pv_typed.specs.Known.{AreKnown}
use Rattle.pv_typed.specs.Mains.{literal_text, heap_text}
use Rattle.pv_typed.specs.Tables.{Stored, whole_unit}
use Rattle.pv_typed.specs.TypedUnits.{WholeUnit}
use Rattle.pv_check.specs.Growing.{AreSized, is_sized}
use Rattle.pv_check.specs.Open.{state_of, IsOpen}
use Rattle.pv_check.specs.Raw.{Raw}
use Rattle.pv_unit.specs.declared.entities.Outer.{Outer}
use Rattle.pv_unit.specs.Outside.{unit_state}
use Rattle.pv_unit.specs.Starting.{IsFirst, first_raw, with_name_behind}
use Rattle.pv_unit.specs.Units.{unit_at_first}

-- ---- names

new_name : (b : Bool) (names : List (List ℕ)) (text : List ℕ) (n : ℕ) → slice_get (if b then names else names ++ (text ∷ [])) n ≡ Some text → n ≡ length names → (if b then names else names ++ (text ∷ [])) ≡ names ++ (text ∷ [])
new_name true names text n e last = let lt = slice_get_within names n text e in absurd (omega (arith, lt, last))
new_name false names text n e last = refl

-- a name that got the next number is behind the others
pub name_behind : (old new : WholeUnit) (text : List ℕ) (n : ℕ) → new ≡ record old { names = with_text old.names text } → slice_get new.names n ≡ Some text → n ≡ length old.names → new ≡ with_name_behind old text
name_behind old new text n is e last =
    let names = ap (λ (u : WholeUnit). u.names) is in
    let there = ap (λ xs. slice_get xs n) (sym names) ∙ e in
    is ∙ ap (λ xs. record old { names = xs }) (new_name (list_any (pointwise nat_eq text) old.names) old.names text n there last)

abbrev named_to : Table → ℕ → WholeUnit
named_to t k = record (unit_at_first t).state.unit { names = literal_text ∷ heap_text ∷ take k t.names }

-- some of the names of the tokens are there
pub record Naming (t : Table) (k : ℕ) (m : Stored) : Type 0 where
  pub unit : whole_unit m ≡ named_to t k
  pub types : m.known ≡ no_tables.known
  pub known : AreKnown m

pub naming_next : (t : Table) (k : ℕ) (m new : Stored) (text : List ℕ) → Naming t k m → slice_get t.names k ≡ Some text → whole_unit new ≡ with_name_behind (whole_unit m) text → new.known ≡ m.known → Grown m new → Naming t (k + 1) new
naming_next t k m new text h e is known grown =
    let lt = slice_get_within t.names k text e in
    let last = get_or_from_slice_get t.names k text [] e in
    let names : take k t.names ++ (text ∷ []) ≡ take (k + 1) t.names = ap (λ x. take k t.names ++ (x ∷ [])) (sym last) ∙ sym (take_more t.names k [] lt) in
    record {
      unit = is ∙ ap (λ u. with_name_behind u text) h.unit ∙ ap (λ xs. record (unit_at_first t).state.unit { names = literal_text ∷ heap_text ∷ xs }) names;
      types = known ∙ h.types;
      known = grown.known h.known;
    }

-- ---- before the first declaration

no_tags_sized : (n : ℕ) → IsTrue (is_sized (env no_tables.known) (StructTag n))
unfolding layouts_of
no_tags_sized n = refl

none_sized : AreSized no_tables.known
none_sized = record { types = λ i lt. absurd (omega (arith, lt)); tags = no_tags_sized }

pub first_open : (t : Table) (m : Stored) (s : Raw) → IsFirst t m → s ≡ first_raw → IsOpen m s
first_open t m s h e = subst (λ r. IsOpen m r) (sym e) (record {
  known = h.known;
  sized = subst AreSized (sym h.types) none_sized;
  some = omega arith;
  scopes = ((tt, tt), tt);
})

pub first_state : (t : Table) (m : Stored) (s : Raw) (o : Outer) → IsFirst t m → s ≡ first_raw → o.entities ≡ [] → o.unsized_typedef ≡ false → unit_state t.texts s m o ≡ unit_at_first t
first_state t m s o h raw none closed =
    ap (λ r. unit_state t.texts r m o) raw
    ∙ ap (λ es. record { state = state_of t.texts false first_raw m; entities = es; unsized_typedef = o.unsized_typedef }) none
    ∙ ap (λ b. record { state = state_of t.texts false first_raw m; entities = []; unsized_typedef = b }) closed
    ∙ ap (λ u. record (unit_at_first t) { state = record (unit_at_first t).state { unit = u } }) h.unit
