-- The initializers of a list, one after the other.
use Rattle.std.proofs.Common.{◌≡◌, ℕ, suc, ◌+◌, ◌<◌, ◌≤◌, Bool, true, false, List, [], ◌∷◌, ◌++◌, Option, Some, None, length, take, drop, get_or, option_map, option_and_then, refl, sym, ◌∙◌, ap, subst, arith, append_assoc}
use Rattle.std.specs.List.{fold}
use Rattle.pv_tree.specs.declared.nodes.NodeId.{NodeId}
use Rattle.pv_tree.specs.declared.nodes.ListId.{ListId}
use Rattle.pv_tree.specs.Syntax.{Tree, OfExpression, OfDeclaration, OfDeclarator, OfSpecifier, OfInitializer, OfStatement, Trees, NoTrees, Then, InitializerTree, Initial, Braces}
use Rattle.pv_tree.specs.Tables.{Forest, tree_at, trees_of, trees_at, list_at, initializer_at, as_initializer, is_initializer}
use Rattle.pv_types.specs.Layouts.{Part}
use Rattle.pv_types.specs.Known.{tree, env}
use Rattle.pv_types.specs.Formed.{completions}
use Rattle.pv_types.specs.Ty.{Ty}
use Rattle.pv_typed.specs.declared.entries.Init.{Init}
use Rattle.pv_typed.specs.Tables.{Stored}
use Rattle.pv_typed.specs.TypedUnits.{Store}
use Rattle.pv_check.specs.Open.{state_of, IsOpen, Goes}
use Rattle.pv_check.specs.Raw.{Raw}
use Rattle.pv_check.specs.State.{State}
use Rattle.pv_check.proofs.Opening.{same_goes, then_goes}
use Rattle.pv_unit.specs.declared.parts.Subobject.{Subobject}
use Rattle.pv_unit.specs.Rules.{Rules, After}
use Rattle.pv_unit.specs.Parts.{part_at}
use Rattle.pv_unit.specs.Initializers.{Shape, Stores, then_part, stores_of_shape, shape_of, initializer_stores, each_initialized}
use Rattle.pv_unit.specs.RuleParts.{each_of}
use Rattle.pv_unit.specs.Stores.{AreStores, Fills, behind, stores_if, stores_in}
use Rattle.pv_unit.specs.Subobjects.{part_of, HasSpace, IsPart}
use Rattle.pv_unit.specs.ValueRules.{values}
use Rattle.pv_unit.proofs.Fitting.{grown_fits}
use Rattle.pv_unit.proofs.Growth.{complete_stays, layout_stays, made}
use Rattle.pv_unit.proofs.Lists.{split_from, take_from, take_all}
use Rattle.pv_unit.proofs.Spaces.{space_grown, space_next, space_one}
use Rattle.pv_unit.proofs.ValueWords.{values_completed}

-- by its shape
initialized_is : (r : Rules State) (lasting : Bool) (p : Part) (i : InitializerTree) (s : State) → initializer_stores r lasting p i s ≡ stores_of_shape r lasting p s (each_of r lasting p i s) (shape_of (r.completed s) p i)
initialized_is r lasting p (Initial line a) s = refl
initialized_is r lasting p (Braces line inits comma) s = refl

-- the same, where the shape was found in the tables
pub initialized_shape : (lasting : Bool) (texts : List (List ℕ)) (s : Raw) (m : Stored) (part : Subobject) (i : InitializerTree) (x : Shape) → x ≡ shape_of (completions m.known) (part_of m.known part) i
    → stores_of_shape values lasting (part_of m.known part) (state_of texts false s m) (each_of values lasting (part_of m.known part) i (state_of texts false s m)) x ≡ initializer_stores values lasting (part_of m.known part) i (state_of texts false s m)
initialized_shape lasting texts s m part i x e =
    let p = part_of m.known part in
    let st = state_of texts false s m in
    let found = e ∙ ap (λ c. shape_of c p i) (sym (values_completed st)) in
    ap (stores_of_shape values lasting p st (each_of values lasting p i st)) found ∙ sym (initialized_is values lasting p i st)

pub part_stays : (a b : Stored) (p : Subobject) → Goes a b → IsPart a.known p → IsPart b.known p
part_stays a b p g h =
    let terms : length a.known.terms ≤ length b.known.terms = g.grown.terms in
    let known = h.known in
    let same = g.grown.types p.t.0 known in
    record {
      known = omega (arith, terms, known);
      fits = rw same (grown_fits (env a.known) (env b.known) p.offset (tree a.known p.t.0) (complete_stays (env a.known) (env b.known) g.completed) (layout_stays (env a.known) (env b.known) g.completed) h.fits);
    }

is_tree : (t : Tree) → is_initializer t ≡ true → t ≡ OfInitializer (as_initializer t)
is_tree (OfInitializer i) e = refl
is_tree (OfExpression a) e = cc
is_tree (OfDeclaration d) e = cc
is_tree (OfDeclarator d) e = cc
is_tree (OfSpecifier s) e = cc
is_tree (OfStatement s) e = cc

-- ---- a list that stops

one_stops : (r : Rules State) (lasting : Bool) (p : Part) (t : Trees) (x : Tree) (s : State) → each_initialized r lasting p t s ≡ None → each_initialized r lasting p (Then t x) s ≡ None
one_stops r lasting p t (OfInitializer i) s e = ap (option_and_then (λ d. option_and_then (λ q. option_map (then_part d.value) (initializer_stores r lasting q i d.state)) (part_at (r.completed d.state) p d.value.count))) e
one_stops r lasting p t (OfExpression a) s e = refl
one_stops r lasting p t (OfDeclaration d) s e = refl
one_stops r lasting p t (OfDeclarator d) s e = refl
one_stops r lasting p t (OfSpecifier d) s e = refl
one_stops r lasting p t (OfStatement d) s e = refl

stops : (r : Rules State) (lasting : Bool) (p : Part) (f : Forest) (t : Trees) (ns : List NodeId) (s : State) → each_initialized r lasting p t s ≡ None
    → each_initialized r lasting p (fold (λ b n. Then b (tree_at f n)) t ns) s ≡ None
stops r lasting p f t [] s e = e
stops r lasting p f t (n ∷ ns) s e = stops r lasting p f (Then t (tree_at f n)) ns s (one_stops r lasting p t (tree_at f n) s e)

-- ---- one more

-- what the rest of a list gives, where its beginning gave this
abbrev further : Rules State → Bool → Part → InitializerTree → After State Stores → Option (After State Stores)
further r lasting p i d = option_and_then (λ q. option_map (then_part d.value) (initializer_stores r lasting q i d.state)) (part_at (r.completed d.state) p d.value.count)

more_is : (r : Rules State) (lasting : Bool) (p : Part) (f : Forest) (ns : List NodeId) (k : ℕ) (d : NodeId) (s : State) → k < length ns → is_initializer (tree_at f (get_or ns k d)) ≡ true
    → each_initialized r lasting p (trees_of f (take (suc k) ns)) s ≡ option_and_then (further r lasting p (initializer_at f (get_or ns k d))) (each_initialized r lasting p (trees_of f (take k ns)) s)
more_is r lasting p f ns k d s lt kind =
    ap (λ t. each_initialized r lasting p t s) (take_from f NoTrees ns k d lt ∙ ap (λ x. Then (trees_of f (take k ns)) x) (is_tree (tree_at f (get_or ns k d)) kind))

abbrev after_or : After State Stores → Option (After State Stores) → After State Stores
after_or d None = d
after_or d (Some x) = x

-- the beginning gave the stores that were kept
found : (before kept : List Store) (n : ℕ) (s : State) (x : Option (After State Stores)) → Some (made kept n s) ≡ option_map (behind before) x → (mine : List Store) × ((x ≡ Some (made mine n s)) × (before ++ mine ≡ kept))
found before kept n s None e = cc
found before kept n s (Some y) e =
    let stores = ap (λ o. (after_or y o).value.stores) e in
    let count = ap (λ o. (after_or y o).value.count) e in
    let state = ap (λ o. (after_or y o).state) e in
    (y.value.stores, (rw (count, state) refl, sym stores))

nil_right : (xs : List Store) → xs ≡ xs ++ []
nil_right [] = refl
nil_right (x ∷ xs) = ap (λ ys. x ∷ ys) (nil_right xs)

-- with the next one, the list is this one's initializer behind what there was
next_is : (r : Rules State) (lasting : Bool) (p : Part) (f : Forest) (ns : List NodeId) (before kept : List Store) (k count : ℕ) (d : NodeId) (first s : State)
    → Some (made kept count s) ≡ option_map (behind before) (each_initialized r lasting p (trees_of f (take k ns)) first) → k < length ns → is_initializer (tree_at f (get_or ns k d)) ≡ true
    → (mine : List Store) × ((before ++ mine ≡ kept)
    × (each_initialized r lasting p (trees_of f (take (suc k) ns)) first
    ≡ option_and_then (λ q. option_map (then_part (record { stores = mine; count = count })) (initializer_stores r lasting q (initializer_at f (get_or ns k d)) s)) (part_at (r.completed s) p count)))
next_is r lasting p f ns before kept k count d first s typed lt kind =
    let h = found before kept count s _ typed in
    (h.0, (h.1.1, more_is r lasting p f ns k d first lt kind ∙ ap (option_and_then (further r lasting p (initializer_at f (get_or ns k d)))) h.1.0))

whole_none : (r : Rules State) (lasting : Bool) (p : Part) (f : Forest) (ns : List NodeId) (k : ℕ) (d : NodeId) (s : State) → k < length ns → each_initialized r lasting p (trees_of f (take (suc k) ns)) s ≡ None → each_initialized r lasting p (trees_of f ns) s ≡ None
whole_none r lasting p f ns k d s lt e =
    let here = ap (λ t. each_initialized r lasting p t s) (sym (take_from f NoTrees ns k d lt)) ∙ e in
    ap (λ t. each_initialized r lasting p t s) (split_from f NoTrees ns k d lt) ∙ stops r lasting p f _ (drop (suc k) ns) s here

unmapped : (before : List Store) (x : Option (After State Stores)) → None ≡ option_map (behind before) x → x ≡ None
unmapped before None e = refl
unmapped before (Some y) e = cc

-- ---- as the code goes through it

-- some initializers of a list are typed
pub record Going (lasting : Bool) (texts : List (List ℕ)) (m0 : Stored) (s0 : Raw) (part : Subobject) (f : Forest) (ns : List NodeId) (before : List Store) (k : ℕ) (m : Stored) (s : Raw) (out : List Init) (count : ℕ) : Type 0 where
  pub typed : stores_if texts s m out (Some count) ≡ option_map (behind before) (each_initialized values lasting (part_of m0.known part) (trees_of f (take k ns)) (state_of texts false s0 m0))
  pub fills : Fills m0 m s out
  pub is : IsPart m.known part
  pub number : count ≡ k
  pub space : HasSpace (env m.known) (tree m0.known part.t.0) count

pub going_start : (lasting : Bool) (texts : List (List ℕ)) (m0 : Stored) (s0 : Raw) (part : Subobject) (f : Forest) (ns : List NodeId) (out : List Init) → IsOpen m0 s0 → AreStores m0 out → IsPart m0.known part
    → Going lasting texts m0 s0 part f ns (stores_in m0 out) 0 m0 s0 out 0
going_start lasting texts m0 s0 part f ns out ready are is = record {
  typed = ap (λ xs. Some (made xs 0 (state_of texts false s0 m0))) (nil_right (stores_in m0 out));
  fills = record { goes = same_goes m0; opened = ready; stores = are };
  is = is;
  number = refl;
  space = space_one (env m0.known) (tree m0.known part.t.0) 0 (omega arith);
}

-- the list and the place to which the code has come
module _ (lasting : Bool) (texts : List (List ℕ)) (m0 m : Stored) (s0 s : Raw) (part : Subobject) (f : Forest) (ns : List NodeId) (before : List Store) (k count : ℕ) (out : List Init) (d : NodeId) (g : Going lasting texts m0 s0 part f ns before k m s out count) (lt : k < length ns) (kind : is_initializer (tree_at f (get_or ns k d)) ≡ true) (known : part.t.0 < length m0.known.terms) where
  abbrev p : Part
  p = part_of m0.known part

  abbrev i : InitializerTree
  i = initializer_at f (get_or ns k d)

  abbrev next : List Store → Option Part → Option (After State Stores)
  next mine o = option_and_then (λ q. option_map (then_part (record { stores = mine; count = count })) (initializer_stores values lasting q i (state_of texts false s m))) o

  -- the next part is the one that the code goes to
  place : part_at (values.completed (state_of texts false s m)) p count ≡ part_at (completions m.known) (part_of m.known part) count
  place =
      ap (λ c. part_at c p count) (values_completed (state_of texts false s m))
      ∙ ap (λ (t : Ty). part_at (completions m.known) (record { offset = part.offset; t = t }) count) (sym (g.fills.goes.grown.types part.t.0 known))

  further_is : (mine : List Store) × ((before ++ mine ≡ stores_in m out) × (each_initialized values lasting p (trees_of f (take (suc k) ns)) (state_of texts false s0 m0) ≡ next mine (part_at (completions m.known) (part_of m.known part) count)))
  further_is =
      let h = next_is values lasting p f ns before (stores_in m out) k count d (state_of texts false s0 m0) (state_of texts false s m) g.typed lt kind in
      (h.0, (h.1.0, h.1.1 ∙ ap (next h.0) place))

  none_of : each_initialized values lasting p (trees_of f (take (suc k) ns)) (state_of texts false s0 m0) ≡ None → None ≡ option_map (behind before) (each_initialized values lasting p (trees_of f ns) (state_of texts false s0 m0))
  none_of e = ap (option_map (behind before)) (sym (whole_none values lasting p f ns k d (state_of texts false s0 m0) lt e))

  -- there is no next part
  pub going_missing : None ≡ part_at (completions m.known) (part_of m.known part) count → None ≡ option_map (behind before) (each_initialized values lasting p (trees_of f ns) (state_of texts false s0 m0))
  going_missing e = let h = further_is in none_of (h.1.1 ∙ ap (next h.0) (sym e))

  -- its initializer has no typing
  pub going_refused : (inner : Subobject) → Some (part_of m.known inner) ≡ part_at (completions m.known) (part_of m.known part) count
      → None ≡ option_map (behind (stores_in m out)) (initializer_stores values lasting (part_of m.known inner) i (state_of texts false s m))
      → None ≡ option_map (behind before) (each_initialized values lasting p (trees_of f ns) (state_of texts false s0 m0))
  going_refused inner e refused =
      let h = further_is in
      none_of (h.1.1 ∙ ap (next h.0) (sym e) ∙ ap (option_map (then_part (record { stores = h.0; count = count }))) (unmapped (stores_in m out) _ refused))

  -- it is typed too
  pub going_next : (b : Stored) (t : Raw) (inner : Subobject) (n : ℕ) (more : List Init) → Some (part_of m.known inner) ≡ part_at (completions m.known) (part_of m.known part) count
      → stores_if texts t b more (Some n) ≡ option_map (behind (stores_in m out)) (initializer_stores values lasting (part_of m.known inner) i (state_of texts false s m)) → Fills m b t more
      → Going lasting texts m0 s0 part f ns before (k + 1) b t more (count + 1)
  going_next b t inner n more e typed fills =
      let h = further_is in
      let st = state_of texts false t b in
      let j = found (stores_in m out) (stores_in b more) n st _ typed in
      let done = h.1.1 ∙ ap (next h.0) (sym e) ∙ ap (option_map (then_part (record { stores = h.0; count = count }))) j.1.0 in
      let step : suc k ≡ k + 1 = omega arith in
      let stores = sym (append_assoc before h.0 j.0) ∙ ap (λ xs. xs ++ j.0) h.1.0 ∙ j.1.1 in
      let layouts = layout_stays (env m.known) (env b.known) fills.goes.completed in
      let room = space_grown (env m.known) (env b.known) part.offset (tree m.known part.t.0) (count + 1) layouts g.is.fits (space_next (completions m.known) part.offset (tree m.known part.t.0) count (part_of m.known inner) e) in
      record {
        typed = ap (λ xs. Some (made xs (count + 1) st)) (sym stores) ∙ sym (ap (option_map (behind before)) done)
            ∙ ap (λ l. option_map (behind before) (each_initialized values lasting p (trees_of f (take l ns)) (state_of texts false s0 m0))) step;
        fills = record { goes = then_goes m0 m b g.fills.goes fills.goes; opened = fills.opened; stores = fills.stores };
        is = part_stays m b part fills.goes g.is;
        number = ap (λ c. c + 1) g.number;
        space = subst (λ u. HasSpace (env b.known) u (count + 1)) (g.fills.goes.grown.types part.t.0 known) room;
      }

-- the list of an initializer in braces
pub list_of : (r : Rules State) (lasting : Bool) (p : Part) (f : Forest) (i : NodeId) (inits : ListId) (comma : Bool) (line : ℕ) (ns : List NodeId) (before : List Store) (s : State)
    → tree_at f i ≡ OfInitializer (Braces line (trees_at f inits) comma) → ns ≡ list_at f inits
    → option_map (behind before) (each_initialized r lasting p (trees_of f ns) s) ≡ option_map (behind before) (each_of r lasting p (initializer_at f i) s)
list_of r lasting p f i inits comma line ns before s e same =
    ap (λ xs. option_map (behind before) (each_initialized r lasting p (trees_of f xs) s)) same ∙ sym (ap (λ t. option_map (behind before) (each_of r lasting p (as_initializer t) s)) e)
