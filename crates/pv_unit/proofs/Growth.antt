-- Stores that are kept while the tables grow.
use Rattle.std.proofs.Common.{◌≡◌, ℕ, ◌<◌, ◌≤◌, true, List, [], ◌∷◌, ◌++◌, length, refl, ◌∙◌, ap, arith}
use Rattle.std.proofs.lemmas.List.{map_push}
use Rattle.pv_types.specs.Known.{tree}
use Rattle.pv_types.specs.Layouts.{Entry, layout_in, is_complete_in}
use Rattle.pv_types.specs.Ty.{Ty}
use Rattle.pv_types.proofs.LayoutLaws.{layout-append, complete-append}
use Rattle.pv_typed.specs.declared.entries.Init.{Init}
use Rattle.pv_typed.specs.declared.entries.InitValue.{InitValue}
use Rattle.pv_typed.specs.declared.entries.InitValue.TheVariants as value
use Rattle.pv_typed.specs.declared.rows.Row.{Row}
use Rattle.pv_typed.specs.Children.{is_expression}
use Rattle.pv_typed.specs.Formed.{HasValue}
use Rattle.pv_typed.specs.Tables.{Stored, nodes, value_in, store_in}
use Rattle.pv_typed.specs.TypedUnits.{Store, StoredValue, ValueOf}
use Rattle.pv_typed.proofs.Each.{each_weaker, each_append, map_same}
use Rattle.pv_check.specs.Growing.{Lengthens}
use Rattle.pv_check.specs.Open.{Goes}
use Rattle.pv_unit.specs.Rules.{After}
use Rattle.pv_unit.specs.Initializers.{Stores}
use Rattle.pv_unit.specs.Stores.{IsStore, AreStores, stores_in}

-- ---- complete types

-- what is complete stays so, and keeps its layout
pub complete_stays : (old new : List Entry) → Lengthens old new → (t : Ty) → is_complete_in old t ≡ true → is_complete_in new t ≡ true
complete_stays old new h t e = ap (λ es. is_complete_in es t) h.1 ∙ complete-append old h.0 t e ∙ e

pub layout_stays : (old new : List Entry) → Lengthens old new → (t : Ty) → is_complete_in old t ≡ true → layout_in new t ≡ layout_in old t
layout_stays old new h t e = ap (λ es. layout_in es t) h.1 ∙ layout-append old h.0 t e

-- ---- stores

abbrev pub store_with : ℕ → Ty → ℕ → StoredValue → Store
store_with offset t line what = record { offset = offset; t = t; line = line; what = what }

pub value_stays : (a b : Stored) → Goes a b → (x : InitValue) → HasValue a x → HasValue b x
value_stays a b g (value.Node n) h =
    let more : length a.rows ≤ length b.rows = g.grown.nodes in
    let here : n.0 < length a.rows = h.0 in
    (omega (arith, more, here), ap (λ (r : Row). is_expression r.what) (g.grown.rows n here) ∙ h.1)
value_stays a b g (value.Text l) h =
    let more : length a.literals ≤ length b.literals = g.grown.literals in
    let here : l < length a.literals = h in
    omega (arith, more, here)

pub store_stays : (a b : Stored) → Goes a b → (x : Init) → IsStore a x → IsStore b x
store_stays a b g x h =
    let more : length a.known.terms ≤ length b.known.terms = g.grown.terms in
    let here : x.t.0 < length a.known.terms = h.0 in
    (omega (arith, more, here), value_stays a b g x.what h.1)

value_same : (a b : Stored) → Goes a b → (x : InitValue) → HasValue a x → value_in (nodes b) x ≡ value_in (nodes a) x
value_same a b g (value.Node n) h = ap ValueOf (g.grown.expressions n h.0)
value_same a b g (value.Text l) h = refl

pub store_same : (a b : Stored) → Goes a b → (x : Init) → IsStore a x → store_in b.known (nodes b) x ≡ store_in a.known (nodes a) x
store_same a b g x h =
    ap (λ (t : Ty). store_with x.offset t x.line (value_in (nodes b) x.what)) (g.grown.types x.t.0 h.0)
    ∙ ap (λ (w : StoredValue). store_with x.offset (tree a.known x.t.0) x.line w) (value_same a b g x.what h.1)

-- the stores of older tables
pub stores_stay : (a b : Stored) → Goes a b → (xs : List Init) → AreStores a xs → AreStores b xs
stores_stay a b g xs h = each_weaker (IsStore a) (IsStore b) (λ x k. store_stays a b g x k) xs h

pub stores_same : (a b : Stored) → Goes a b → (xs : List Init) → AreStores a xs → stores_in b xs ≡ stores_in a xs
stores_same a b g xs h = map_same (store_in b.known (nodes b)) (store_in a.known (nodes a)) (IsStore a) (λ x k. store_same a b g x k) xs h

-- one store more, in tables that have grown
pub record Pushed (old new : Stored) (before : List Init) (x : Init) : Type 0 where
  pub same : stores_in new (before ++ (x ∷ [])) ≡ stores_in old before ++ (store_in new.known (nodes new) x ∷ [])
  pub are : AreStores new (before ++ (x ∷ []))

pub pushed : (old new : Stored) (before : List Init) (x : Init) → Goes old new → AreStores old before → IsStore new x → Pushed old new before x
pushed old new before x g h there = record {
  same = map_push (store_in new.known (nodes new)) before x ∙ ap (λ xs. xs ++ (store_in new.known (nodes new) x ∷ [])) (stores_same old new g before h);
  are = each_append (IsStore new) before (x ∷ []) (stores_stay old new g before h) (there, tt);
}

-- the stores that were made, of so many parts
abbrev pub made : {S : Type 0} → List Store → ℕ → S → After S Stores
made stores n s = record { value = record { stores = stores; count = n }; state = s }
