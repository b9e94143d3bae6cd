-- One step of reading parts in a row, and of a declarator that goes on.
use Rattle.std.proofs.Common.{◌≡◌, ◌≤◌, ◌<◌, ◌+◌, ◌&&◌, ℕ, zero, suc, Bool, true, false, List, [], ◌∷◌, length, Some, None, refl, sym, ap, ◌∙◌, arith, leb}
use Rattle.std.proofs.lemmas.Bool.{leb-true, and_parts}
use Rattle.std.proofs.lemmas.Option.{none-some}
use Rattle.pv_token.specs.declared.token_table.Token.{Token}
use Rattle.pv_token.specs.declared.token_table.TokenKind.{TokenKind}
use Rattle.pv_token.specs.declared.token_table.TokenKind.TheVariants as kind
use Rattle.pv_token.specs.declared.marks.Mark.TheVariants as mark
use Rattle.pv_tree.specs.Syntax.{DeclaratorTree, Tree, OfDeclarator, Trees, Then, OptionalTree}
use Rattle.pv_tree.specs.Depths.{declarator_depth}
use Rattle.pv_tree.specs.Tables.{as_declarator}
use Rattle.pv_tree.specs.Places.{Parameters, Constants, is_named, is_direct}
use Rattle.pv_expr_forms.specs.Reader.{is_bracket, is_close, after}
use Rattle.pv_expr_forms.proofs.Steps.{guarded, mapped}
use Rattle.pv_decl_forms.specs.Pieces.{Piece, Reads, part_if_any, row_on, row_for, row, comma_list}
use Rattle.pv_decl_forms.specs.Declarators.{array_tree, function_tree, behind_size, size_behind, variadic_at, behind_parameters, with_parameters, parameters_behind, declarator_on, longer_declarator, on_with, grown_for, longest_declarator}

pub piece_is : (a b : Tree) (ts rest : List Token) → ◌≡◌ {A = Piece} (Some (a, ts)) (Some (b, rest)) → ◌≡◌ {A = Tree × List Token} (a, ts) (b, rest)
piece_is a b ts rest e = cc

-- ---- parts in a row

-- what is read takes a token, where K holds of the tokens, and then K holds of those behind it
pub record Shortens (K : List Token → Type 0) (read : List Token → Piece) : Type 0 where
  pub less : (ts : List Token) (t : Tree) (rest : List Token) → K ts → read ts ≡ Some (t, rest) → length rest < length ts
  pub known : (ts : List Token) (t : Tree) (rest : List Token) → K ts → read ts ≡ Some (t, rest) → K rest

row_same : (f g : Trees → List Token → Trees × List Token) (before : Trees) (ts : List Token) (o : Piece)
    → ((t : Tree) (rest : List Token) → o ≡ Some (t, rest) → f (Then before t) rest ≡ g (Then before t) rest)
    → row_on f before ts o ≡ row_on g before ts o
row_same f g before ts None h = refl
row_same f g before ts (Some x) h = h x.0 x.1 refl

row_none : (f : Trees → List Token → Trees × List Token) (before : Trees) (ts : List Token) (o : Piece)
    → ((t : Tree) (rest : List Token) → o ≡ Some (t, rest) → ⊥) → row_on f before ts o ≡ (before, ts)
row_none f before ts None h = refl
row_none f before ts (Some x) h = absurd (h x.0 x.1 refl)

module _ (K : List Token → Type 0) (read : List Token → Piece) (short : Shortens K read) where
  row_enough : (g h : ℕ) (before : Trees) (ts : List Token) → K ts → length ts ≤ g → length ts ≤ h
      → row_for g read before ts ≡ row_for h read before ts
  unfolding row_for
  row_enough zero zero before ts known p q = refl
  row_enough zero (suc h) before ts known p q = sym (row_none (row_for h read) before ts (read ts) (λ t rest e. omega (arith, short.less ts t rest known e)))
  row_enough (suc g) zero before ts known p q = row_none (row_for g read) before ts (read ts) (λ t rest e. omega (arith, short.less ts t rest known e))
  row_enough (suc g) (suc h) before ts known p q =
      row_same (row_for g read) (row_for h read) before ts (read ts)
      (λ t rest e. row_enough g h (Then before t) rest (short.known ts t rest known e) (omega (arith, short.less ts t rest known e)) (omega (arith, short.less ts t rest known e)))

  -- one part, and the rest of them
  pub row_step : (before : Trees) (ts : List Token) → K ts → row read before ts ≡ row_on (row read) before ts (read ts)
  unfolding row row_for
  row_step before ts known =
      row_enough (length ts) (suc (length ts)) before ts known (omega arith) (omega arith)
      ∙ row_same (row_for (length ts) read) (row read) before ts (read ts)
      (λ t rest e. row_enough (length ts) (length rest) (Then before t) rest (short.known ts t rest known e) (omega (arith, short.less ts t rest known e)) (omega arith))

  pub row_next : (before : Trees) (ts : List Token) (t : Tree) (rest : List Token) → K ts → read ts ≡ Some (t, rest)
      → row read before ts ≡ row read (Then before t) rest
  row_next before ts t rest known e = row_step before ts known ∙ ap (row_on (row read) before ts) e

  pub row_stop : (before : Trees) (ts : List Token) → K ts → read ts ≡ None → row read before ts ≡ (before, ts)
  row_stop before ts known e = row_step before ts known ∙ ap (row_on (row read) before ts) e

-- what holds of a row and what is left holds of the longest row
module _ (K : List Token → Type 0) (read : List Token → Piece) (Holds : Trees → List Token → Type 0)
    (step : (before : Trees) (ts : List Token) (t : Tree) (rest : List Token) → K ts → Holds before ts → read ts ≡ Some (t, rest) → K rest × Holds (Then before t) rest) where
  row_by : (go : Trees → List Token → Trees × List Token)
      → ((before : Trees) (ts : List Token) → K ts → Holds before ts → K (go before ts).1 × Holds (go before ts).0 (go before ts).1)
      → (before : Trees) (ts : List Token) (o : Piece) → K ts → Holds before ts → read ts ≡ o
      → K (row_on go before ts o).1 × Holds (row_on go before ts o).0 (row_on go before ts o).1
  row_by go goes before ts None known h e = (known, h)
  row_by go goes before ts (Some x) known h e = let s = step before ts x.0 x.1 known h e in goes (Then before x.0) x.1 s.0 s.1

  row_for_holds : (steps : ℕ) (before : Trees) (ts : List Token) → K ts → Holds before ts
      → K (row_for steps read before ts).1 × Holds (row_for steps read before ts).0 (row_for steps read before ts).1
  unfolding row_for
  row_for_holds zero before ts known h = (known, h)
  row_for_holds (suc steps) before ts known h = row_by (row_for steps read) (row_for_holds steps) before ts (read ts) known h refl

  pub row_holds : (before : Trees) (ts : List Token) → K ts → Holds before ts
      → K (row read before ts).1 × Holds (row read before ts).0 (row read before ts).1
  unfolding row
  row_holds before ts known h = row_for_holds (length ts) before ts known h

-- ---- what stands in brackets and in parentheses

pub bracketed_is : (make : OptionalTree → Tree) (x : OptionalTree × List Token) (a : Tree) (rest : List Token) → behind_size make x ≡ Some (a, rest)
    → (after is_bracket x.1 ≡ Some rest) × (make x.0 ≡ a)
unfolding behind_size
bracketed_is make x a rest e =
    let m = mapped (λ (y : List Token). let z : Tree × List Token = (make x.0, y) in z) (after is_bracket x.1) (a, rest) e in
    (m.1 ∙ ap (λ (y : Tree × List Token). Some y.1) m.2, ap (λ (y : Tree × List Token). y.0) m.2)

pub with_parameters_is : (make : Trees → Bool → Tree) (x : Trees × List Token) (a : Tree) (rest : List Token)
    → with_parameters make x ≡ Some (a, rest)
    → (after is_close (variadic_at x.0 x.1).1 ≡ Some rest) × (make x.0 (variadic_at x.0 x.1).0 ≡ a)
unfolding with_parameters behind_parameters
with_parameters_is make x a rest e =
    let v = variadic_at x.0 x.1 in
    let m = mapped (λ (y : List Token). let z : Tree × List Token = (make x.0 v.0, y) in z) (after is_close v.1) (a, rest) e in
    (m.1 ∙ ap (λ (y : Tree × List Token). Some y.1) m.2, ap (λ (y : Tree × List Token). y.0) m.2)

-- ---- growth by steps

abbrev pub deep_of : Tree → ℕ
deep_of t = declarator_depth (as_declarator t)

arrayed_by : (b : Bool) (line : ℕ) (d : DeclaratorTree) (size : OptionalTree) → is_named d ≡ b
    → declarator_depth d < deep_of (array_tree line (OfDeclarator d) size)
arrayed_by true line d size e = rw e (omega arith)
arrayed_by false line d size e = rw e (omega arith)

arrayed_deeper : (line : ℕ) (t : Tree) (size : OptionalTree) → deep_of t < deep_of (array_tree line t size)
arrayed_deeper line (OfDeclarator d) size = arrayed_by (is_named d) line d size refl
arrayed_deeper line _ size = omega arith

functioned_by : (b : Bool) (line : ℕ) (d : DeclaratorTree) (parameters : Trees) (variadic : Bool) → is_named d ≡ b
    → declarator_depth d < deep_of (function_tree line (OfDeclarator d) parameters variadic)
functioned_by true line d parameters variadic e = rw e (omega arith)
functioned_by false line d parameters variadic e = rw e (omega arith)

functioned_deeper : (line : ℕ) (t : Tree) (parameters : Trees) (variadic : Bool) → deep_of t < deep_of (function_tree line t parameters variadic)
functioned_deeper line (OfDeclarator d) parameters variadic = functioned_by (is_named d) line d parameters variadic refl
functioned_deeper line _ parameters variadic = omega arith

tried_deeper : (below : Reads) (line : ℕ) (left : Tree) (k : TokenKind) (ts : List Token) (a : Tree) (rest : List Token)
    → declarator_on below line left k ts ≡ Some (a, rest)
    → deep_of left < deep_of a
unfolding declarator_on size_behind parameters_behind
tried_deeper below line left (kind.Mark mark.OpenBracket) ts a rest e =
    let x = part_if_any ts (below Constants ts) in
    omega (arith, arrayed_deeper line left x.0, ap deep_of (bracketed_is (array_tree line left) x a rest e).1)
tried_deeper below line left (kind.Mark mark.OpenParen) ts a rest e =
    let x = comma_list (below Parameters) ts in
    omega (arith, functioned_deeper line left x.0 (variadic_at x.0 x.1).0, ap deep_of (with_parameters_is (function_tree line left) x a rest e).1)
tried_deeper below line left _ ts a rest e = absurd (none-some (a, rest) e)

-- a goes on from left
pub record Goes (depth : ℕ) (left a : Tree) : Type 0 where
  pub grows : deep_of left < deep_of a
  pub was_shallow : deep_of left ≤ depth

pub longer_goes : (below : Reads) (depth line : ℕ) (left : Tree) (ts : List Token) (a : Tree) (rest : List Token)
    → longer_declarator below depth line left ts ≡ Some (a, rest) → Goes depth left a
unfolding longer_declarator
longer_goes below depth line left [] a rest e = absurd cc
longer_goes below depth line left (t ∷ ts) a rest e =
    let g = guarded (is_direct (as_declarator left) && leb (deep_of left) depth) (declarator_on below line left t.kind ts) (a, rest) e in
    record { grows = tried_deeper below line left t.kind ts a rest g.1; was_shallow = leb-true (deep_of left) depth (and_parts (is_direct (as_declarator left)) (leb (deep_of left) depth) g.0).1 }

carried_same : (f g : Tree → List Token → Tree × List Token) (left : Tree) (ts : List Token) (o : Piece)
    → ((a : Tree) (rest : List Token) → o ≡ Some (a, rest) → f a rest ≡ g a rest) → on_with f left ts o ≡ on_with g left ts o
carried_same f g left ts None h = refl
carried_same f g left ts (Some x) h = h x.0 x.1 refl

carried_stop : (f : Tree → List Token → Tree × List Token) (left : Tree) (ts : List Token) (o : Piece)
    → ((a : Tree) (rest : List Token) → o ≡ Some (a, rest) → ⊥) → on_with f left ts o ≡ (left, ts)
carried_stop f left ts None h = refl
carried_stop f left ts (Some x) h = absurd (h x.0 x.1 refl)

module _ (below : Reads) (depth line : ℕ) where
  -- enough steps are as good as any
  grown_enough : (g h : ℕ) (left : Tree) (ts : List Token) → suc depth ≤ g + deep_of left → suc depth ≤ h + deep_of left
      → grown_for g below depth line left ts ≡ grown_for h below depth line left ts
  unfolding grown_for
  grown_enough zero zero left ts p q = refl
  grown_enough zero (suc h) left ts p q =
      sym (carried_stop (grown_for h below depth line) left ts (longer_declarator below depth line left ts) (λ a rest e. let k = longer_goes below depth line left ts a rest e in omega (arith, k.was_shallow)))
  grown_enough (suc g) zero left ts p q =
      carried_stop (grown_for g below depth line) left ts (longer_declarator below depth line left ts) (λ a rest e. let k = longer_goes below depth line left ts a rest e in omega (arith, k.was_shallow))
  grown_enough (suc g) (suc h) left ts p q =
      carried_same (grown_for g below depth line) (grown_for h below depth line) left ts (longer_declarator below depth line left ts)
      (λ a rest e. let k = longer_goes below depth line left ts a rest e in grown_enough g h a rest (omega (arith, k.grows)) (omega (arith, k.grows)))

  -- one step, and the rest of them
  pub grown_step : (left : Tree) (ts : List Token)
      → longest_declarator below depth line left ts ≡ on_with (longest_declarator below depth line) left ts (longer_declarator below depth line left ts)
  unfolding longest_declarator grown_for
  grown_step left ts =
      carried_same (grown_for depth below depth line) (grown_for (suc depth) below depth line) left ts (longer_declarator below depth line left ts)
      (λ a rest e. let k = longer_goes below depth line left ts a rest e in grown_enough depth (suc depth) a rest (omega (arith, k.grows)) (omega (arith, k.grows)))

  pub grown_next : (left : Tree) (ts : List Token) (a : Tree) (rest : List Token) → longer_declarator below depth line left ts ≡ Some (a, rest)
      → longest_declarator below depth line left ts ≡ longest_declarator below depth line a rest
  grown_next left ts a rest e = grown_step left ts ∙ ap (on_with (longest_declarator below depth line) left ts) e

  pub grown_stop : (left : Tree) (ts : List Token) → longer_declarator below depth line left ts ≡ None → longest_declarator below depth line left ts ≡ (left, ts)
  grown_stop left ts e = grown_step left ts ∙ ap (on_with (longest_declarator below depth line) left ts) e
