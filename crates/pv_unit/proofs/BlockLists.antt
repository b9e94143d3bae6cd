-- The declarators of a declaration in a block, one after the other.
use Rattle.std.proofs.Common.{◌≡◌, ℕ, suc, ◌+◌, ◌<◌, ◌≤◌, Bool, true, false, List, [], ◌∷◌, None, length, take, drop, get_or, refl, sym, ◌∙◌, ap, arith}
use Rattle.std.specs.List.{fold}
use Rattle.pv_tree.specs.declared.nodes.NodeId.{NodeId}
use Rattle.pv_tree.specs.Syntax.{Tree, Trees, NoTrees, Then, Declaration}
use Rattle.pv_tree.specs.Tables.{Forest, tree_at, trees_of}
use Rattle.pv_types.specs.Ty.{Ty}
use Rattle.pv_types.specs.Known.{tree}
use Rattle.pv_typed.specs.Tables.{Stored}
use Rattle.pv_check.specs.Raw.{Raw}
use Rattle.pv_check.specs.Open.{state_of, IsOpen, Goes}
use Rattle.pv_check.specs.State.{State}
use Rattle.pv_typed.specs.Constants.{and_then}
use Rattle.pv_check.proofs.Opening.{same_goes, then_goes}
use Rattle.pv_unit.specs.declared.blocks.Reached.{Reached}
use Rattle.pv_unit.specs.Blocks.{block_declarators, block_init_declarator, block_declaration}
use Rattle.pv_unit.specs.BlockParts.{block_declared}
use Rattle.pv_unit.specs.Reaching.{reached_in, reached_if, AreReached}
use Rattle.pv_unit.proofs.Lists.{split_from, take_from, take_all}

blocks_stop : (lasting : Bool) (b : Ty) (f : Forest) (t : Trees) (ns : List NodeId) (s : State) → block_declarators t lasting b s ≡ None → block_declarators (fold (λ z n. Then z (tree_at f n)) t ns) lasting b s ≡ None
blocks_stop lasting b f t [] s e = e
blocks_stop lasting b f t (n ∷ ns) s e = blocks_stop lasting b f (Then t (tree_at f n)) ns s (ap (λ o. and_then o (block_init_declarator lasting b (tree_at f n))) e)

pub record Along (texts : List (List ℕ)) (lasting : Bool) (base : ℕ) (f : Forest) (ns : List NodeId) (r : Raw) (a : Stored) (k : ℕ) (s : Raw) (m : Stored) (xs : List Reached) : Type 0 where
  pub typed : reached_if texts s m xs true ≡ block_declarators (trees_of f (take k ns)) lasting (tree a.known base) (state_of texts false r a)
  pub opened : IsOpen m s
  pub goes : Goes a m
  pub there : AreReached m xs

pub along_start : (texts : List (List ℕ)) (lasting : Bool) (base : ℕ) (f : Forest) (ns : List NodeId) (r : Raw) (a : Stored) (xs : List Reached) → IsOpen a r → xs ≡ [] → Along texts lasting base f ns r a 0 r a xs
along_start texts lasting base f ns r a xs h e = record { typed = ap (λ zs. reached_if texts r a zs true) e; opened = h; goes = same_goes a; there = rw e tt }

pub along_next : (texts : List (List ℕ)) (lasting : Bool) (base : ℕ) (f : Forest) (ns : List NodeId) (r s t : Raw) (a m n : Stored) (xs ys : List Reached) (k : ℕ) (d : NodeId)
    → Along texts lasting base f ns r a k s m xs → k < length ns → base < length a.known.terms
    → reached_if texts t n ys true ≡ block_init_declarator lasting (tree m.known base) (tree_at f (get_or ns k d)) (reached_in texts s m xs) → IsOpen n t → Goes m n → AreReached n ys
    → Along texts lasting base f ns r a (k + 1) t n ys
along_next texts lasting base f ns r s t a m n xs ys k d h lt known held opened goes there =
    let next : suc k ≡ k + 1 = omega arith in
    let one = tree_at f (get_or ns k d) in
    let ty = tree a.known base in
    record {
      typed = held ∙ ap (λ y. block_init_declarator lasting y one (reached_in texts s m xs)) (h.goes.grown.types base known)
          ∙ ap (λ c. and_then c (block_init_declarator lasting ty one)) h.typed
          ∙ sym (ap (λ ts. block_declarators ts lasting ty (state_of texts false r a)) (take_from f NoTrees ns k d lt))
          ∙ ap (λ j. block_declarators (trees_of f (take j ns)) lasting ty (state_of texts false r a)) next;
      opened = opened;
      goes = then_goes a m n h.goes goes;
      there = there;
    }

pub along_stop : (texts : List (List ℕ)) (lasting : Bool) (base : ℕ) (f : Forest) (ns : List NodeId) (r s t : Raw) (a m n : Stored) (xs ys : List Reached) (k : ℕ) (d : NodeId)
    → Along texts lasting base f ns r a k s m xs → k < length ns → base < length a.known.terms
    → reached_if texts t n ys false ≡ block_init_declarator lasting (tree m.known base) (tree_at f (get_or ns k d)) (reached_in texts s m xs)
    → None ≡ block_declarators (trees_of f ns) lasting (tree a.known base) (state_of texts false r a)
along_stop texts lasting base f ns r s t a m n xs ys k d h lt known held =
    let one = tree_at f (get_or ns k d) in
    let ty = tree a.known base in
    let none = held ∙ ap (λ y. block_init_declarator lasting y one (reached_in texts s m xs)) (h.goes.grown.types base known)
    ∙ ap (λ c. and_then c (block_init_declarator lasting ty one)) h.typed in
    sym (ap (λ ts. block_declarators ts lasting ty (state_of texts false r a)) (split_from f NoTrees ns k d lt) ∙ blocks_stop lasting ty f _ (drop (suc k) ns) (state_of texts false r a) (sym none))

pub along_done : (texts : List (List ℕ)) (lasting : Bool) (base : ℕ) (f : Forest) (ns : List NodeId) (r s : Raw) (a m : Stored) (xs : List Reached) (k : ℕ) → Along texts lasting base f ns r a k s m xs → length ns ≤ k
    → reached_if texts s m xs true ≡ block_declarators (trees_of f ns) lasting (tree a.known base) (state_of texts false r a)
along_done texts lasting base f ns r s a m xs k h end = h.typed ∙ ap (λ zs. block_declarators (trees_of f zs) lasting (tree a.known base) (state_of texts false r a)) (take_all ns k end)

-- ---- with declarators

some_declared : (line : ℕ) (specs : Trees) (f : Forest) (before : Trees) (x : Tree) (ns : List NodeId) (s : State)
    → block_declared specs (fold (λ b n. Then b (tree_at f n)) (Then before x) ns) s ≡ block_declaration (Declaration line specs (fold (λ b n. Then b (tree_at f n)) (Then before x) ns)) s
some_declared line specs f before x [] s = refl
some_declared line specs f before x (n ∷ ns) s = some_declared line specs f (Then before x) (tree_at f n) ns s

pub declared_is : (line : ℕ) (specs : Trees) (f : Forest) (ns : List NodeId) (s : State) → 0 < length ns → block_declared specs (trees_of f ns) s ≡ block_declaration (Declaration line specs (trees_of f ns)) s
declared_is line specs f [] s h = absurd (omega arith)
declared_is line specs f (n ∷ ns) s h = some_declared line specs f NoTrees (tree_at f n) ns s
