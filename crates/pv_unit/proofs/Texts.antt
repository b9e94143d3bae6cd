-- String literals that fill arrays of characters.
use Rattle.std.proofs.Common.{◌≡◌, ℕ, ◌*◌, ◌<◌, ◌≤◌, ◌^◌, true, false, List, [], ◌∷◌, ◌++◌, Some, None, length, option_map, refl, sym, ◌∙◌, ap, arith}
use Rattle.std.proofs.lemmas.List.{length-map}
use Rattle.pv_num.specs.declared.kinds.IntKind.{IntKind}
use Rattle.pv_num.specs.declared.kinds.IntKind.TheVariants.{Bool as BoolKind, Char, SChar, UChar, Short, UShort, Int, UInt, Long, ULong, LLong, ULLong}
use Rattle.pv_types.specs.declared.terms.TypeId.{TypeId}
use Rattle.pv_types.specs.Ty.{Ty, VoidTy, IntTy, PointerTo, ArrayOf, StructTag, UnionTag, FunctionTy, ConstOf}
use Rattle.pv_types.specs.Layouts.{Entry, layout_in}
use Rattle.pv_types.specs.Known.{tree}
use Rattle.pv_types.specs.Sorts.{bare_type}
use Rattle.pv_layout.proofs.Ahead.{bare_size}
use Rattle.pv_typed.specs.declared.entries.Init.{Init}
use Rattle.pv_typed.specs.declared.entries.InitValue.TheVariants as value
use Rattle.pv_typed.specs.Tables.{Stored, nodes, store_in, literal_in}
use Rattle.pv_typed.specs.TypedUnits.{Store, TextOf}
use Rattle.pv_check.specs.Growing.{type_if}
use Rattle.pv_check.specs.Kept.{Kept}
use Rattle.pv_check.specs.Open.{state_of, IsOpen, Goes}
use Rattle.pv_check.specs.StringLiterals.{bytes_of_text}
use Rattle.pv_check.specs.Raw.{Raw}
use Rattle.pv_check.proofs.ArmLaws.{goes_kept}
use Rattle.pv_check.proofs.Opening.{open_goes, state_stays, then_goes}
use Rattle.pv_unit.specs.declared.parts.Subobject.{Subobject}
use Rattle.pv_unit.specs.PartParts.{character_layer}
use Rattle.pv_num.specs.Kinds.{is_character_kind}
use Rattle.pv_unit.specs.Initializers.{characters, filled_type, filled_with}
use Rattle.pv_unit.specs.Stores.{AreStores, Fills, behind, stores_if, stores_in}
use Rattle.pv_unit.specs.Subobjects.{part_of}
use Rattle.pv_unit.specs.ValueRules.{filling_text, values}
use Rattle.pv_unit.proofs.Growth.{made, pushed, store_with}
use Rattle.pv_unit.proofs.ValueWords.{values_string}

kind_size : (env : List Entry) (k : IntKind) → is_character_kind k ≡ true → (layout_in env (IntTy k)).size ≡ 1
kind_size env Char e = refl
kind_size env SChar e = refl
kind_size env UChar e = refl
kind_size env BoolKind e = cc
kind_size env Short e = cc
kind_size env UShort e = cc
kind_size env Int e = cc
kind_size env UInt e = cc
kind_size env Long e = cc
kind_size env ULong e = cc
kind_size env LLong e = cc
kind_size env ULLong e = cc

layer_size : (env : List Entry) (t : Ty) → character_layer t ≡ true → (layout_in env t).size ≡ 1
layer_size env (IntTy k) e = kind_size env k e
layer_size env VoidTy e = cc
layer_size env (PointerTo t) e = cc
layer_size env (ArrayOf t n) e = cc
layer_size env (StructTag n) e = cc
layer_size env (UnionTag n) e = cc
layer_size env (FunctionTy t ts v) e = cc
layer_size env (ConstOf t) e = cc

-- a character takes one byte
pub character_size : (env : List Entry) (t : Ty) → character_layer (bare_type t) ≡ true → (layout_in env t).size ≡ 1
character_size env t e = sym (bare_size env t) ∙ layer_size env (bare_type t) e

pub small_text : (env : List Entry) (t : Ty) (n : ℕ) → character_layer (bare_type t) ≡ true → n ≤ 2 ^ 32 → n * (layout_in env t).size ≤ 2 ^ 32
small_text env t n e lt = let one = character_size env t e in rw one (omega (arith, lt))

abbrev pub text_store : Subobject → TypeId → ℕ → ℕ → Init
text_store part t line l = record { offset = part.offset; t = t; line = line; what = value.Text l }

-- there is no room for them
pub filled_none : (texts : List (List ℕ)) (m0 m1 : Stored) (s : Raw) (part : Subobject) (line first more count : ℕ) (before : List Store) → Goes m0 m1 → part.t.0 < length m0.known.terms
    → count ≡ length (bytes_of_text texts first more) → None ≡ filled_type (bare_type (tree m1.known part.t.0)) count
    → None ≡ option_map (behind before) (filled_with (part_of m0.known part) line (values.string line first more (state_of texts false s m0)))
filled_none texts m0 m1 s part line first more count before g known size none =
    let st0 = state_of texts false s m0 in
    let p = part_of m0.known part in
    let x = filling_text line (bytes_of_text texts first more) st0 in
    let own : None ≡ filled_type (bare_type p.t) (length x.value.characters) = none ∙ ap (λ (u : Ty). filled_type (bare_type u) count) (g.grown.types part.t.0 known) ∙ ap (filled_type (bare_type p.t)) size in
    ap (option_map (behind before)) (ap (option_map (characters p line x)) own ∙ ap (filled_with p line) (sym (values_string line first more st0)))

pub record Filled (texts : List (List ℕ)) (m0 m2 : Stored) (s : Raw) (part : Subobject) (line first more : ℕ) (before out : List Init) (count : ℕ) : Type 0 where
  pub typed : stores_if texts s m2 out (Some count) ≡ option_map (behind (stores_in m0 before)) (filled_with (part_of m0.known part) line (values.string line first more (state_of texts false s m0)))
  pub fills : Fills m0 m2 s out

pub filled_of : (texts : List (List ℕ)) (m0 m1 m2 : Stored) (s : Raw) (part : Subobject) (t : TypeId) (line first more l count : ℕ) (before out : List Init)
    → IsOpen m0 s → Goes m0 m1 → Kept m1 m2 → AreStores m0 before → part.t.0 < length m0.known.terms → t.0 < length m2.known.terms
    → l ≡ length m0.literals → l < length m1.literals → count ≡ length (bytes_of_text texts first more)
    → state_of texts false s m1 ≡ (filling_text line (bytes_of_text texts first more) (state_of texts false s m0)).state
    → type_if m2.known (Some t) ≡ filled_type (bare_type (tree m1.known part.t.0)) count → out ≡ before ++ (text_store part t line l ∷ [])
    → Filled texts m0 m2 s part line first more before out count
filled_of texts m0 m1 m2 s part t line first more l count before out ready g k are known there number literal size state typed pushed_is =
    let h = goes_kept m1 m2 k in
    let goes = then_goes m0 m1 m2 g h in
    let st0 = state_of texts false s m0 in
    let p = part_of m0.known part in
    let x = filling_text line (bytes_of_text texts first more) st0 in
    let opened = open_goes m0 m1 s ready g in
    let same : state_of texts false s m2 ≡ x.state = state_stays texts false m1 m2 s opened h k.whole ∙ state in
    let own : Some (tree m2.known t.0) ≡ filled_type (bare_type p.t) (length x.value.characters) =
    typed ∙ ap (λ (u : Ty). filled_type (bare_type u) count) (g.grown.types part.t.0 known) ∙ ap (filled_type (bare_type p.t)) size in
    let done = ap (option_map (characters p line x)) own ∙ ap (filled_with p line) (sym (values_string line first more st0)) in
    let literals : length m1.literals ≤ length m2.literals = h.grown.literals in
    let q = pushed m0 m2 before (text_store part t line l) goes are (there, omega (arith, literals, literal)) in
    let store_is : store_in m2.known (nodes m2) (text_store part t line l) ≡ store_with part.offset (tree m2.known t.0) line (TextOf x.value.number) =
    ap (λ (n : ℕ). store_with part.offset (tree m2.known t.0) line (TextOf n)) (number ∙ sym (length-map m0.literals literal_in)) in
    let stores = ap (stores_in m2) pushed_is ∙ q.same ∙ ap (λ (y : Store). stores_in m0 before ++ (y ∷ [])) store_is in
    record {
      typed = ap (λ z. Some (made (stores_in m2 out) count z)) same ∙ ap (λ xs. Some (made xs count x.state)) stores
          ∙ ap (λ n. Some (made (stores_in m0 before ++ (store_with part.offset (tree m2.known t.0) line (TextOf x.value.number) ∷ [])) n x.state)) size
          ∙ ap (option_map (behind (stores_in m0 before))) done;
      fills = record { goes = goes; opened = open_goes m1 m2 s opened h; stores = rw pushed_is q.are };
    }
