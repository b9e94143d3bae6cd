-- The parts of a complete type of a table are the whole and, behind it, those of its elements or members.
use Rattle.std.proofs.Common.{◌≡◌, ℕ, ◌<◌, ◌∙◌, Bool, true, false, IsTrue, List, [], ◌∷◌, Some, None, length, refl, sym, ap, subst, is_some}
use Rattle.pv_num.specs.declared.kinds.IntKind.TheVariants as kind
use Rattle.pv_types.specs.declared.terms.Term.{Term}
use Rattle.pv_types.specs.declared.terms.Term.TheVariants.{Void, Int, Pointer, Array, Struct, Union, Function, Const}
use Rattle.pv_types.specs.Ty.{Ty, IntTy, ArrayOf, ConstOf}
use Rattle.pv_types.specs.Layouts.{Part, Entry, Named, look, layout_in, layout_of, is_complete_in, tag_type}
use Rattle.pv_types.specs.LayoutParts.{or_none, behind_whole}
use Rattle.pv_types.specs.Known.{Known, tree, trees, tree_in, env}
use Rattle.pv_types.specs.Formed.{term_at, IsTagged, named_members, is_union_in, IsBuilt}
use Rattle.pv_types.proofs.Made.{made, flag}

-- the parts of the elements or members
abbrev pub inner_parts : List Entry → Ty → List Part
inner_parts env t = behind_whole (layout_in env t).parts

-- the list of parts begins with the type
abbrev pub BeginsWhole : List Entry → Ty → Type 0
BeginsWhole env t = (layout_in env t).parts ≡ record { offset = 0; t = t } ∷ inner_parts env t

tag_whole : (env : List Entry) (n : ℕ) (u : Bool) (ms : List Named) → or_none (look env n) ≡ layout_of env n u ms
    → (or_none (look env n)).parts ≡ record { offset = 0; t = tag_type u n } ∷ behind_whole (or_none (look env n)).parts
tag_whole env n u ms is = rw is refl

laid : (m : Known) (n : ℕ) (u : Bool) → IsBuilt m → IsTrue (is_some (look (env m) n)) → is_union_in m.done n ≡ u → or_none (look (env m) n) ≡ layout_of (env m) n u (named_members m n)
laid m n u built there flag = ap or_none (made m n built there).laid ∙ ap (λ b. layout_of (env m) n b (named_members m n)) flag

term_whole : (m : Known) (term : Term) → IsBuilt m → IsTagged m.tags term → IsTrue (is_complete_in (env m) (tree_in m.lists (trees m) term)) → BeginsWhole (env m) (tree_in m.lists (trees m) term)
term_whole m Void built tagged complete = cc
term_whole m (Int k) built tagged complete = refl
term_whole m (Pointer x) built tagged complete = refl
term_whole m (Array x None) built tagged complete = cc
term_whole m (Array x (Some n)) built tagged complete = refl
term_whole m (Struct n) built tagged complete = tag_whole (env m) n false (named_members m n) (laid m n false built complete (flag m n built complete ∙ tagged.1))
term_whole m (Union n) built tagged complete = tag_whole (env m) n true (named_members m n) (laid m n true built complete (flag m n built complete ∙ tagged.1))
term_whole m (Function x p v) built tagged complete = cc
term_whole m (Const x) built tagged complete = refl

pub begins_whole : (m : Known) (t : ℕ) → IsBuilt m → t < length m.terms → IsTrue (is_complete_in (env m) (tree m t)) → BeginsWhole (env m) (tree m t)
begins_whole m t built known complete =
    let P : Ty → Type 0 = λ u. IsTrue (is_complete_in (env m) u) → BeginsWhole (env m) u in
    subst P (sym (built.formed.shown t known)) (λ c. term_whole m (term_at m.terms t) built (built.tagged t known) c) complete

-- `const int` has one part, and a qualified array of two `const char` has three
parts : (env : List Entry) → (layout_in env (ConstOf (IntTy kind.Int))).parts ≡ record { offset = 0; t = ConstOf (IntTy kind.Int) } ∷ []
parts env = refl

elements : (env : List Entry) → (layout_in env (ConstOf (ArrayOf (ConstOf (IntTy kind.Char)) (Some 2)))).parts
    ≡ record { offset = 0; t = ConstOf (ArrayOf (ConstOf (IntTy kind.Char)) (Some 2)) } ∷ record { offset = 0; t = ConstOf (IntTy kind.Char) } ∷ record { offset = 1; t = ConstOf (IntTy kind.Char) } ∷ []
elements env = refl
