-- Qualifiers around a type change only the type of the whole in its list of parts.
use Rattle.std.proofs.Common.{◌≡◌, ℕ, suc, ◌<◌, Bool, false, ◌&&◌, ◌||◌, ◌==◌, IsTrue, List, length, refl, sym, ◌∙◌, ap}
use Rattle.pv_types.specs.Ty.{Ty, VoidTy, IntTy, PointerTo, ArrayOf, StructTag, UnionTag, FunctionTy, ConstOf}
use Rattle.pv_types.specs.Qualifiers.{is_const}
use Rattle.pv_types.specs.Layouts.{Entry, layout_in, is_complete_in}
use Rattle.pv_types.specs.LayoutParts.{part_count}
use Rattle.pv_types.specs.Known.{Known, tree, env}
use Rattle.pv_types.specs.Formed.{IsBuilt}
use Rattle.pv_types.proofs.Wholes.{inner_parts, BeginsWhole, begins_whole}
use Rattle.pv_layout.specs.Parts.{some_at}
use Rattle.pv_types.specs.Sorts.{bare_type}
use Rattle.pv_layout.specs.declared.wanted.Sought.{Sought}
use Rattle.pv_layout.specs.declared.wanted.Sought.TheVariants.{Leaf, Part as Whole}
use Rattle.pv_layout.specs.Searches.{passes}
use Rattle.pv_layout.proofs.Ahead.{bare_size, bare_complete}

pub bare_inner : (env : List Entry) (t : Ty) → inner_parts env (bare_type t) ≡ inner_parts env t
bare_inner env (ConstOf t) = bare_inner env t
bare_inner env VoidTy = refl
bare_inner env (IntTy k) = refl
bare_inner env (PointerTo t) = refl
bare_inner env (ArrayOf t n) = refl
bare_inner env (StructTag n) = refl
bare_inner env (UnionTag n) = refl
bare_inner env (FunctionTy t ts v) = refl

pub bare_unqualified : (t : Ty) → is_const (bare_type t) ≡ false
bare_unqualified (ConstOf t) = bare_unqualified t
bare_unqualified VoidTy = refl
bare_unqualified (IntTy k) = refl
bare_unqualified (PointerTo t) = refl
bare_unqualified (ArrayOf t n) = refl
bare_unqualified (StructTag n) = refl
bare_unqualified (UnionTag n) = refl
bare_unqualified (FunctionTy t ts v) = refl

-- what passes without qualifiers passes with them
abbrev pub IsBlind : {A : Type 0} → (Ty → A) → Type 0
IsBlind f = (t : Ty) → f (ConstOf t) ≡ f t

-- so it is with what a search looks for
pub passes_blind : (m : Known) (s : Sought) → IsBlind (passes m s)
passes_blind m (Leaf want) t = refl
passes_blind m (Whole want) t = refl

pub bare_passes : {A : Type 0} (f : Ty → A) → IsBlind f → (t : Ty) → f (bare_type t) ≡ f t
bare_passes f h (ConstOf t) = bare_passes f h t ∙ sym (h t)
bare_passes f h VoidTy = refl
bare_passes f h (IntTy k) = refl
bare_passes f h (PointerTo t) = refl
bare_passes f h (ArrayOf t n) = refl
bare_passes f h (StructTag n) = refl
bare_passes f h (UnionTag n) = refl
bare_passes f h (FunctionTy t ts v) = refl

-- two types of a table, the first without the qualifiers around the second
pub record Stripped (m : Known) (u t : ℕ) : Type 0 where
  pub built : IsBuilt m
  pub inner : u < length m.terms
  pub known : t < length m.terms
  pub is : tree m u ≡ bare_type (tree m t)
  pub complete : IsTrue (is_complete_in (env m) (tree m t))

module _ (m : Known) (u t : ℕ) (h : Stripped m u t) where
  pub stripped_complete : IsTrue (is_complete_in (env m) (tree m u))
  stripped_complete = ap (is_complete_in (env m)) h.is ∙ bare_complete (env m) (tree m t) ∙ h.complete

  pub stripped_size : (layout_in (env m) (tree m u)).size ≡ (layout_in (env m) (tree m t)).size
  stripped_size = ap (λ x. (layout_in (env m) x).size) h.is ∙ bare_size (env m) (tree m t)

  pub stripped_unqualified : is_const (tree m u) ≡ false
  stripped_unqualified = ap is_const h.is ∙ bare_unqualified (tree m t)

  pub stripped_inner : inner_parts (env m) (tree m u) ≡ inner_parts (env m) (tree m t)
  stripped_inner = ap (inner_parts (env m)) h.is ∙ bare_inner (env m) (tree m t)

  pub stripped_whole : BeginsWhole (env m) (tree m u)
  stripped_whole = begins_whole m u h.built h.inner stripped_complete

  pub stripped_outer : BeginsWhole (env m) (tree m t)
  stripped_outer = begins_whole m t h.built h.known h.complete

  pub stripped_count : part_count (layout_in (env m) (tree m u)) ≡ part_count (layout_in (env m) (tree m t))
  stripped_count = ap length stripped_whole ∙ ap (λ ps. suc (length ps)) stripped_inner ∙ sym (ap length stripped_outer)

  -- a test that looks past qualifiers finds the same
  pub stripped_same : (f : Ty → Bool) (o : ℕ) → IsBlind f → some_at f o (layout_in (env m) (tree m u)).parts ≡ some_at f o (layout_in (env m) (tree m t)).parts
  stripped_same f o blind =
      ap (some_at f o) stripped_whole
      ∙ ap (λ b. ((0 == o) && b) || some_at f o (inner_parts (env m) (tree m u))) (ap f h.is ∙ bare_passes f blind (tree m t))
      ∙ ap (λ ps. ((0 == o) && f (tree m t)) || some_at f o ps) stripped_inner
      ∙ sym (ap (some_at f o) stripped_outer)
