-- Whether a part of a type is `const`, read off its elements or members.
use Rattle.std.proofs.Common.{◌≡◌, ◌≢◌, ℕ, zero, suc, ◌*◌, ◌+◌, ◌<◌, Bool, true, false, ◌||◌, List, [], ◌∷◌, ◌++◌, Some, length, drop, drop-cons, get_or, refl, sym, ◌∙◌, ap, subst}
use Rattle.std.specs.Int.{next_multiple_of}
use Rattle.pv_types.specs.declared.terms.Member.{Member}
use Rattle.pv_types.specs.Ty.{Ty, ArrayOf}
use Rattle.pv_types.specs.Known.{Known, tree, trees, env, named_in}
use Rattle.pv_types.specs.Formed.{MembersBelow}
use Rattle.pv_types.specs.Layouts.{Entry, Part, Named, layout_in, layout_of, shifted_parts, parts_of_elements}
use Rattle.pv_types.specs.LayoutParts.{union_parts, struct_parts}
use Rattle.pv_types.specs.Qualifiers.{is_const, has_const}
use Rattle.pv_types.specs.QualifierParts.{some_const}

or_assoc : (a b c : Bool) → ((a || b) || c) ≡ (a || (b || c))
or_assoc true b c = refl
or_assoc false b c = refl

or_same : (b : Bool) → (b || b) ≡ b
or_same true = refl
or_same false = refl

const_append : (ps qs : List Part) → some_const (ps ++ qs) ≡ (some_const ps || some_const qs)
const_append [] qs = refl
const_append (p ∷ ps) qs = rw (const_append ps qs) (sym (or_assoc (is_const p.t) (some_const ps) (some_const qs)))

const_shifted : (k : ℕ) (ps : List Part) → some_const (shifted_parts k ps) ≡ some_const ps
const_shifted k [] = refl
const_shifted k (p ∷ ps) = ap (λ b. is_const p.t || b) (const_shifted k ps)

-- elements have what one of them has
const_repeated : (n size : ℕ) (ps : List Part) → some_const (parts_of_elements (suc n) size ps) ≡ some_const ps
const_repeated zero size ps = const_shifted (zero * size) ps
const_repeated (suc n) size ps =
    const_append (parts_of_elements (suc n) size ps) (shifted_parts (suc n * size) ps)
    ∙ ap (λ b. b || some_const (shifted_parts (suc n * size) ps)) (const_repeated n size ps)
    ∙ ap (λ b. some_const ps || b) (const_shifted (suc n * size) ps)
    ∙ or_same (some_const ps)

-- some member has `const`
abbrev pub any_const : List Entry → List Named → Bool
any_const env [] = false
any_const env (m ∷ ms) = has_const env m.t || any_const env ms

const_union : (env : List Entry) (ms : List Named) → some_const (union_parts env ms) ≡ any_const env ms
const_union env [] = refl
const_union env (m ∷ ms) =
    const_append (shifted_parts 0 (layout_in env m.t).parts) (union_parts env ms)
    ∙ ap (λ b. b || some_const (union_parts env ms)) (const_shifted 0 (layout_in env m.t).parts)
    ∙ ap (λ b. has_const env m.t || b) (const_union env ms)

const_struct : (env : List Entry) (ms : List Named) (o : ℕ) → some_const (struct_parts env ms o) ≡ any_const env ms
const_struct env [] o = refl
const_struct env (m ∷ ms) o =
    const_append (shifted_parts (next_multiple_of o (layout_in env m.t).align) (layout_in env m.t).parts) _
    ∙ ap (λ b. b || some_const (struct_parts env ms (next_multiple_of o (layout_in env m.t).align + (layout_in env m.t).size))) (const_shifted _ (layout_in env m.t).parts)
    ∙ ap (λ b. has_const env m.t || b) (const_struct env ms (next_multiple_of o (layout_in env m.t).align + (layout_in env m.t).size))

pub const_of_members : (env : List Entry) (n : ℕ) (union : Bool) (ms : List Named) → some_const (layout_of env n union ms).parts ≡ any_const env ms
const_of_members env n true ms = const_union env ms
const_of_members env n false ms = const_struct env ms 0

pub const_of_elements : (env : List Entry) (t : Ty) (n : ℕ) → n ≢ 0 → has_const env (ArrayOf t (Some n)) ≡ has_const env t
const_of_elements env t zero some = absurd (some refl)
const_of_elements env t (suc n) some = const_repeated n (layout_in env t).size (layout_in env t).parts

-- no member before these has `const`, and whether one of these has it decides
pub record Looking (m : Known) (all : List Named) (left : List Member) : Type 0 where
  pub known : MembersBelow (length m.terms) left
  pub rest : any_const (env m) all ≡ any_const (env m) (named_in (trees m) left)

module _ (m : Known) (all : List Named) (i : ℕ) (items : List Member) (d : Member) (lt : i < length items) (h : Looking m all (drop i items)) where
  abbrev here : Member
  here = get_or items i d

  parts : Looking m all (here ∷ drop (suc i) items)
  parts = subst (λ ms. Looking m all ms) (drop-cons items i d lt) h

  pub looked_hit : has_const (env m) (tree m here.t.0) ≡ true → any_const (env m) all ≡ true
  looked_hit e = parts.rest ∙ ap (λ b. b || any_const (env m) (named_in (trees m) (drop (suc i) items))) e

pub const_through_array : (m : Known) (at inner n : ℕ) (b : Bool) → tree m at ≡ ArrayOf (tree m inner) (Some n) → n ≢ 0 → has_const (env m) (tree m at) ≡ b → has_const (env m) (tree m inner) ≡ b
const_through_array m at inner n b is some h = sym (const_of_elements (env m) (tree m inner) n some) ∙ ap (has_const (env m)) (sym is) ∙ h
