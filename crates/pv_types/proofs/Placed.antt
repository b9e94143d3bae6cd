-- The members of a table's structures and unions, where they begin, are those of the trees.
use Rattle.std.proofs.Common.{◌≡◌, ℕ, ◌+◌, ◌==◌, Bool, true, false, cond, List, [], ◌∷◌, map, refl, ap, ◌∙◌}
use Rattle.std.specs.Int.{next_multiple_of}
use Rattle.pv_types.specs.declared.terms.Member.{Member}
use Rattle.pv_types.specs.Ty.{Ty, StructTag, UnionTag}
use Rattle.pv_types.specs.Layouts.{Named, Placed, layout_in, layout_at, struct_placed, union_placed}
use Rattle.pv_types.specs.Known.{Known, DoneTag, completed_in, named_in, tree, trees, env}
use Rattle.pv_types.specs.Formed.{completions, members_in}
use Rattle.pv_types.specs.Members.{completed_members, placed_in}
use Rattle.pv_types.specs.Places.{struct_places, union_places}

members_step : (b : Bool) (ts : List Ty) (ms : List Member) (xs : List Named) (ys : List Member) → xs ≡ named_in ts ys → cond b (named_in ts ms) xs ≡ named_in ts (cond b ms ys)
members_step true ts ms xs ys e = refl
members_step false ts ms xs ys e = e

-- the members of a completed tag as trees
pub members_named : (ts : List Ty) (ds : List DoneTag) (n : ℕ) → completed_members (completed_in ts ds) n ≡ named_in ts (members_in ds n)
members_named ts [] n = refl
members_named ts (d ∷ ds) n = members_step (d.tag == n) ts d.members _ _ (members_named ts ds n)

-- a member where it begins, with the tree of its type
abbrev pub named_place : Known → Placed Member → Placed Named
named_place m p = record { offset = p.offset; layout = p.layout; member = record { name = p.member.name; t = tree m p.member.t.0 } }

pub struct_named : (m : Known) (o : ℕ) (ms : List Member) → struct_placed (layout_at (env m)) o (named_in (trees m) ms) ≡ map (named_place m) (struct_places m o ms)
struct_named m o [] = refl
struct_named m o (x ∷ xs) =
    let l = layout_in (env m) (tree m x.t.0) in
    ap (λ (ps : List (Placed Named)). named_place m (record { offset = next_multiple_of o l.align; layout = l; member = x }) ∷ ps) (struct_named m (next_multiple_of o l.align + l.size) xs)

pub union_named : (m : Known) (ms : List Member) → union_placed (layout_at (env m)) (named_in (trees m) ms) ≡ map (named_place m) (union_places m ms)
union_named m [] = refl
union_named m (x ∷ xs) =
    ap (λ (ps : List (Placed Named)). named_place m (record { offset = 0; layout = layout_in (env m) (tree m x.t.0); member = x }) ∷ ps) (union_named m xs)

pub struct_placed_in : (m : Known) (n : ℕ) → placed_in (completions m) (StructTag n) ≡ map (named_place m) (struct_places m 0 (members_in m.done n))
struct_placed_in m n = ap (struct_placed (layout_at (env m)) 0) (members_named (trees m) m.done n) ∙ struct_named m 0 (members_in m.done n)

pub union_placed_in : (m : Known) (n : ℕ) → placed_in (completions m) (UnionTag n) ≡ map (named_place m) (union_places m (members_in m.done n))
union_placed_in m n = ap (union_placed (layout_at (env m))) (members_named (trees m) m.done n) ∙ union_named m (members_in m.done n)
