-- Nothing longer is spelled than what is read as an abstract declarator or as specifiers, and nothing else that is as long.
use Rattle.std.proofs.Common.{◌≡◌, ◌≤◌, ◌<◌, ◌⊎◌, ℕ, zero, suc, Bool, true, false, cond, List, [], ◌∷◌, ◌++◌, length, drop, Some, None, refl, sym, ap, subst, ◌∙◌, arith, inl, inr}
use Rattle.std.proofs.lemmas.Bool.{cases_eq, false≢true, true≢false}
use Rattle.std.proofs.lemmas.Option.{none-some}
use Rattle.pv_token.specs.declared.token_table.Token.{Token}
use Rattle.pv_token.specs.declared.token_table.TokenKind.{TokenKind}
use Rattle.pv_token.specs.declared.token_table.TokenKind.TheVariants as kind
use Rattle.pv_token.specs.declared.marks.Mark.TheVariants as mark
use Rattle.pv_tree.specs.Syntax.{DeclaratorTree, AbstractPointer, Pointer, Tree, OfDeclarator, Trees, Then, Absent, Present}
use Rattle.pv_tree.specs.Depths.{declarator_depth}
use Rattle.pv_tree.specs.Spelling.{declarator_tokens, tree_tokens, listed_tokens, optional_tokens, variadic_tokens, const_tokens}
use Rattle.pv_tree.specs.Grammar.{line_here}
use Rattle.pv_tree.specs.Spells.{Names, Fits}
use Rattle.pv_tree.specs.Places.{AbstractDeclarators, stands, is_abstract, is_direct}
use Rattle.pv_tree.specs.Fitting.{TreeFits, DeclaratorFits}
use Rattle.pv_expr_forms.proofs.Runs.{Takes, takes_parts, takes_rest, takes_length}
use Rattle.pv_expr_forms.proofs.Steps.{guarded}
use Rattle.pv_expr_forms.proofs.Heads.{IsSpelled}
use Rattle.pv_decl_forms.specs.declared.forms.Form.TheVariants as form
use Rattle.pv_decl_forms.specs.Pieces.{Piece, Reads, is_const, row}
use Rattle.pv_decl_forms.specs.Declarators.{array_tree, function_tree, consts_in_row, pointer_tree, pointing, head, declarator_on, longer_declarator, on_with, grown_for, longest_declarator, declarator}
use Rattle.pv_decl_forms.specs.Reader.{node_readers, with_parts, readers}
use Rattle.pv_decl_forms.proofs.Marks.{consts_taken, length_consts}
use Rattle.pv_decl_forms.proofs.Steps.{Shortens, row_holds}
use Rattle.pv_decl_forms.proofs.Goods.{IsSound, known_behind, sized_good, parametrized_good}
use Rattle.pv_decl_forms.proofs.Directs.{abstract_unnamed, declarator_stands}
use Rattle.pv_decl_forms.proofs.Wholes.{IsExact, of_parts, on_line, head_star}
use Rattle.pv_decl_forms.proofs.Whole.{whole, pointer_stays, head_pointing, star_parts}
use Rattle.pv_decl_forms.proofs.Everywhere.{readers_exact, declarator_deep}

-- less is left, or it is the same
abbrev pub Within : Tree × List Token → Tree × List Token → Type 0
Within x y = (length x.1 < length y.1) ⊎ (x ≡ y)

pub within_then : (x y z : Tree × List Token) → Within x y → Within y z → Within x z
within_then x y z (inl h) (inl k) = inl (omega arith)
within_then x y z (inl h) (inr e) = inl (subst (λ (w : Tree × List Token). length x.1 < length w.1) e h)
within_then x y z (inr e) (inl k) = inl (subst (λ (w : Tree × List Token). length w.1 < length z.1) (sym e) k)
within_then x y z (inr e) (inr k) = inr (e ∙ k)

pub within_made : (make : Tree → Tree) (x : Tree × List Token) (a : Tree) (rest : List Token) → Within x (a, rest)
    → Within (make x.0, x.1) (make a, rest)
within_made make x a rest (inl h) = inl h
within_made make x a rest (inr e) = inr (ap (λ (w : Tree × List Token). let p : Tree × List Token = (make w.0, w.1) in p) e)

-- something was read that leaves less than y does, or is y
pub record Reaches (o : Piece) (y : Tree × List Token) : Type 0 where
  pub found : Tree × List Token
  pub is : o ≡ Some found
  pub within : Within found y

pub reached : (o : Piece) (a : Tree) (rest : List Token) → o ≡ Some (a, rest) → Reaches o (a, rest)
reached o a rest e = record { found = (a, rest); is = e; within = inr refl }

reaches_by : (o p : Piece) (y : Tree × List Token) → o ≡ p → Reaches p y → Reaches o y
reaches_by o p y e r = record { found = r.found; is = e ∙ r.is; within = r.within }

-- ---- rows

abbrev pub RowWithin : Trees × List Token → Trees × List Token → Type 0
RowWithin x y = (length x.1 < length y.1) ⊎ (x ≡ y)

row_step : (before : Trees) (ts : List Token) (parts : Trees) (here : List Token) (more : Trees) (rest : List Token) → length rest < length here
    → RowWithin (parts, here) (before, ts)
    → RowWithin (more, rest) (before, ts)
row_step before ts parts here more rest l (inl h) = inl (omega arith)
row_step before ts parts here more rest l (inr e) =
    let same : length here ≡ length ts = ap (λ (y : Trees × List Token). length y.1) e in
    inl (omega arith)

pub row_within : (K : List Token → Type 0) (read : List Token → Piece) → Shortens K read → (before : Trees) (ts : List Token) → K ts
    → RowWithin (row read before ts) (before, ts)
row_within K read short before ts known =
    (row_holds K read (λ parts here. RowWithin (parts, here) (before, ts))
    (λ parts here t rest k h e. (short.known here t rest k e, row_step before ts parts here (Then parts t) rest (short.less here t rest k e) h))
    before ts known (inr refl)).1

-- ---- growth

module _ (names : Names) (K : List Token → Type 0) (spelled : IsSpelled names K) (depth : ℕ) (r : Reads) (s : IsSound names K depth r) where
  abbrev Shorter : (ts rest : List Token) → Type 0
  Shorter ts rest = (length rest < length ts) × K rest

  tried_shorter : (line : ℕ) (left : Tree) (k : TokenKind) (t : Token) (ts : List Token) (a : Tree) (rest : List Token) → K ts
      → declarator_on r line left k ts ≡ Some (a, rest) → Shorter (t ∷ ts) rest
  unfolding declarator_on
  tried_shorter line left (kind.Mark mark.OpenBracket) t ts a rest known e =
      let g = sized_good names K spelled depth r s (array_tree line left) ts a rest known e in
      let ks = optional_tokens g.size ++ kind.Mark mark.CloseBracket ∷ [] in
      (omega (arith, takes_length ks ts rest g.takes), known_behind names K spelled ks ts rest g.takes known)
  tried_shorter line left (kind.Mark mark.OpenParen) t ts a rest known e =
      let g = parametrized_good names K spelled depth r s (function_tree line left) ts a rest known e in
      let ks = (listed_tokens g.parameters ++ variadic_tokens g.variadic) ++ kind.Mark mark.CloseParen ∷ [] in
      (omega (arith, takes_length ks ts rest g.takes), known_behind names K spelled ks ts rest g.takes known)
  tried_shorter line left _ t ts a rest known e = absurd (none-some (a, rest) e)

  longer_shorter : (line : ℕ) (left : Tree) (ts : List Token) (a : Tree) (rest : List Token) → K ts → longer_declarator r depth line left ts ≡ Some (a, rest)
      → Shorter ts rest
  unfolding longer_declarator
  longer_shorter line left [] a rest known e = absurd cc
  longer_shorter line left (t ∷ ts) a rest known e =
      let g = guarded _ (declarator_on r line left t.kind ts) (a, rest) e in
      tried_shorter line left t.kind t ts a rest (spelled.tail t ts known) g.1

  carried_within : (go : Tree → List Token → Tree × List Token) (line : ℕ) (left : Tree) (ts : List Token) (o : Piece) → K ts
      → longer_declarator r depth line left ts ≡ o
      → ((a : Tree) (rest : List Token) → K rest → Within (go a rest) (a, rest)) → Within (on_with go left ts o) (left, ts)
  carried_within go line left ts None known e h = inr refl
  carried_within go line left ts (Some x) known e h =
      let k = longer_shorter line left ts x.0 x.1 known e in
      within_then (go x.0 x.1) x (left, ts) (h x.0 x.1 k.1) (inl k.0)

  grown_for_within : (steps line : ℕ) (left : Tree) (ts : List Token) → K ts → Within (grown_for steps r depth line left ts) (left, ts)
  unfolding grown_for
  grown_for_within zero line left ts known = inr refl
  grown_for_within (suc steps) line left ts known =
      carried_within (grown_for steps r depth line) line left ts (longer_declarator r depth line left ts) known refl (λ a rest k. grown_for_within steps line a rest k)

  grown_within : (line : ℕ) (left : Tree) (ts : List Token) → K ts → Within (longest_declarator r depth line left ts) (left, ts)
  unfolding longest_declarator
  grown_within line left ts known = grown_for_within (suc depth) line left ts known

-- ---- words `const` in a row

consts_end_by : (b : Bool) (t : Token) (ts : List Token) → is_const t.kind ≡ b → consts_in_row (drop (consts_in_row ts) ts) ≡ 0
    → consts_in_row (drop (cond b (suc (consts_in_row ts)) 0) (t ∷ ts)) ≡ 0
consts_end_by true t ts e h = h
consts_end_by false t ts e h = rw e refl

consts_end : (ts : List Token) → consts_in_row (drop (consts_in_row ts) ts) ≡ 0
consts_end [] = refl
consts_end (t ∷ ts) = consts_end_by (is_const t.kind) t ts refl (consts_end ts)

consts_least : (n : ℕ) (ts rest : List Token) → Takes (const_tokens n) ts rest → n ≤ consts_in_row ts
consts_least zero ts rest h = omega arith
consts_least (suc n) [] rest h = absurd h
consts_least (suc n) (t ∷ ts) rest h =
    let c : is_const t.kind ≡ true = ap is_const h.0 in
    rw c (omega (arith, consts_least n ts rest h.1))

consts_left : (n : ℕ) (ts rest : List Token) → Takes (const_tokens n) ts rest → drop n ts ≡ rest
consts_left n ts rest h = ap (λ (k : ℕ). drop k ts) (sym (length_consts n)) ∙ takes_rest (const_tokens n) ts rest h

alone_within : (line consts : ℕ) (ts rest : List Token) → Takes (const_tokens consts) ts rest
    → Within (OfDeclarator (AbstractPointer line (consts_in_row ts) Absent), drop (consts_in_row ts) ts) (OfDeclarator (AbstractPointer line consts Absent), rest)
alone_within line consts ts rest h =
    let n = consts_in_row ts in
    elim (cases_eq n consts) [
      | inl e ↦
          let left : drop n ts ≡ rest = ap (λ (k : ℕ). drop k ts) e ∙ consts_left consts ts rest h in
          inr (ap (λ (k : ℕ). let p : Tree × List Token = (OfDeclarator (AbstractPointer line k Absent), drop n ts) in p) e
          ∙ ap (λ (y : List Token). let p : Tree × List Token = (OfDeclarator (AbstractPointer line consts Absent), y) in p) left)
      | inr ne ↦
          inl (omega (arith, consts_least consts ts rest h, takes_length (const_tokens n) ts (drop n ts) (consts_taken ts), takes_length (const_tokens consts) ts rest h, length_consts n, length_consts consts))
    ]

-- ---- abstract declarators

abstract_by : (names : Names) (depth : ℕ) (ts : List Token)
    → readers names (suc depth) AbstractDeclarators ts ≡ declarator names (readers names depth) depth form.Abstract ts
unfolding readers with_parts node_readers
abstract_by names depth ts = refl

module _ (names : Names) (K : List Token → Type 0) (spelled : IsSpelled names K) (depth : ℕ) where
  abbrev r : Reads
  r = readers names depth

  x : IsExact names K depth of_parts (readers names depth)
  x = readers_exact names K spelled depth

  abbrev Found : (here : List Token) → Tree × List Token → Type 0
  Found here y = Reaches (declarator names (readers names depth) depth form.Abstract here) y

  direct_longest : (d : DeclaratorTree) (here rest : List Token) → K here → is_abstract d ≡ true → DeclaratorFits names.is_type (Fits names) d here
      → declarator_depth d ≤ suc depth
      → Takes (declarator_tokens d) here rest → is_direct d ≡ true → Found here (OfDeclarator d, rest)
  direct_longest d here rest known a f deep h direct = record {
    found = longest_declarator r depth (line_here here) (OfDeclarator d) rest;
    is = whole names K spelled depth r x form.Abstract d here rest known a f deep h direct;
    within = grown_within names K spelled depth r x.sound (line_here here) (OfDeclarator d) rest (known_behind names K spelled (declarator_tokens d) here rest h known);
  }

  -- behind a star alone
  alone_by : (line consts : ℕ) (t : Token) (ts rest : List Token) (o : Piece) → K (drop (consts_in_row ts) ts) → line ≡ t.line
      → t.kind ≡ kind.Mark mark.Star
      → Takes (const_tokens consts) ts rest → r AbstractDeclarators (drop (consts_in_row ts) ts) ≡ o
      → Found (t ∷ ts) (OfDeclarator (AbstractPointer line consts Absent), rest)
  unfolding pointer_tree
  alone_by line consts t ts rest None known e star h is =
      let n = consts_in_row ts in
      let mid = drop n ts in
      let begun = on_line (λ l. OfDeclarator (AbstractPointer l n Absent)) line t.line mid (head names r form.Abstract (t ∷ ts)) e
      (head_star names K spelled depth r x form.Abstract t ts n mid star (consts_taken ts) (consts_end ts) ∙ ap (pointer_tree form.Abstract t.line n mid) is) in
      record {
        found = (OfDeclarator (AbstractPointer line n Absent), mid);
        is = pointer_stays names K spelled depth r x form.Abstract (AbstractPointer line n Absent) (t ∷ ts) mid refl begun;
        within = alone_within line consts ts rest h;
      }
  alone_by line consts t ts rest (Some y) known e star h is =
      let n = consts_in_row ts in
      let mid = drop n ts in
      let g = x.sound.good AbstractDeclarators mid y.0 y.1 known is in
      let d = declarator_stands form.Abstract y.0 g.stand in
      let a : is_abstract d.0 ≡ true = ap (stands AbstractDeclarators) (sym d.1) ∙ g.stand in
      let unnamed = abstract_unnamed d.0 a in
      let m = AbstractPointer line n (Present (OfDeclarator d.0)) in
      let made_is : pointing t.line n (OfDeclarator d.0) ≡ OfDeclarator (AbstractPointer t.line n (Present (OfDeclarator d.0))) = rw unnamed refl in
      let begun = on_line (λ l. OfDeclarator (AbstractPointer l n (Present (OfDeclarator d.0)))) line t.line y.1 (head names r form.Abstract (t ∷ ts)) e
      (head_star names K spelled depth r x form.Abstract t ts n mid star (consts_taken ts) (consts_end ts) ∙ ap (pointer_tree form.Abstract t.line n mid) is
      ∙ ap (λ (z : Tree). let w : Piece = Some (pointing t.line n z, y.1) in w) d.1 ∙ ap (λ (z : Tree). let w : Piece = Some (z, y.1) in w) made_is) in
      record {
        found = (OfDeclarator m, y.1);
        is = pointer_stays names K spelled depth r x form.Abstract m (t ∷ ts) y.1 refl begun;
        within = inl (omega (arith, takes_length (tree_tokens y.0) mid y.1 g.takes, g.spells, takes_length (const_tokens consts) ts rest h, takes_length (const_tokens n) ts mid (consts_taken ts), length_consts n, length_consts consts, consts_least consts ts rest h));
      }

  -- behind a star and a declarator
  star_longest : (line consts : ℕ) (d : DeclaratorTree) (here rest mid : List Token) → line ≡ line_here here
      → Takes (kind.Mark mark.Star ∷ const_tokens consts) here mid → K mid
      → Reaches (r AbstractDeclarators mid) (OfDeclarator d, rest)
      → Found here (OfDeclarator (AbstractPointer line consts (Present (OfDeclarator d))), rest)
  star_longest line consts d here rest mid e run known o =
      let y = o.found in
      let g = x.sound.good AbstractDeclarators mid y.0 y.1 known o.is in
      let m = declarator_stands form.Abstract y.0 g.stand in
      let a : is_abstract m.0 ≡ true = ap (stands AbstractDeclarators) (sym m.1) ∙ g.stand in
      let unnamed = abstract_unnamed m.0 a in
      let is' : r AbstractDeclarators mid ≡ Some (OfDeclarator m.0, y.1) = o.is ∙ ap (λ (z : Tree). let w : Piece = Some (z, y.1) in w) m.1 in
      let fits = subst (λ (z : Tree). TreeFits names.is_type (Fits names) z mid) m.1 g.fits in
      let takes = subst (λ (z : Tree). Takes (tree_tokens z) mid y.1) m.1 g.takes in
      let begun = head_pointing names K spelled depth r x form.Abstract (λ l. AbstractPointer l consts (Present (OfDeclarator m.0))) line consts m.0 here y.1 mid e (λ l. rw unnamed refl) run fits y.1 takes is' in
      let w : Within (OfDeclarator m.0, y.1) (OfDeclarator d, rest) = subst (λ (z : Tree). Within (z, y.1) (OfDeclarator d, rest)) m.1 o.within in
      record {
        found = (OfDeclarator (AbstractPointer line consts (Present (OfDeclarator m.0))), y.1);
        is = pointer_stays names K spelled depth r x form.Abstract (AbstractPointer line consts (Present (OfDeclarator m.0))) here y.1 refl begun;
        within = within_made (λ z. OfDeclarator (AbstractPointer line consts (Present z))) (OfDeclarator m.0, y.1) (OfDeclarator d) rest w;
      }

  -- what is a level less deep is reached
  abbrev Deeper : Type 0
  Deeper = (d : DeclaratorTree) (here rest : List Token) → K here → is_abstract d ≡ true → DeclaratorFits names.is_type (Fits names) d here → declarator_depth d ≤ depth → Takes (declarator_tokens d) here rest → Reaches (readers names depth AbstractDeclarators here) (OfDeclarator d, rest)

  pointer_longest : Deeper → (d : DeclaratorTree) (here rest : List Token) → K here → is_abstract d ≡ true
      → DeclaratorFits names.is_type (Fits names) d here
      → declarator_depth d ≤ suc depth → Takes (declarator_tokens d) here rest → is_direct d ≡ false → Found here (OfDeclarator d, rest)
  pointer_longest deeper (AbstractPointer line consts Absent) [] rest known a f deep h direct = absurd h
  pointer_longest deeper (AbstractPointer line consts Absent) (t ∷ ts) rest known a f deep h direct =
      let p = takes_parts (const_tokens consts) [] ts rest h.1 in
      let run : Takes (const_tokens consts) ts rest = rw p.2 at p.1 in
      alone_by line consts t ts rest (r AbstractDeclarators (drop (consts_in_row ts) ts))
      (known_behind names K spelled (const_tokens (consts_in_row ts)) ts (drop (consts_in_row ts) ts) (consts_taken ts) (spelled.tail t ts known)) f.0 h.0 run refl
  pointer_longest deeper (AbstractPointer line consts (Present (OfDeclarator m))) here rest known a f deep h direct =
      let p = star_parts names K spelled depth r x form.Abstract consts m here rest known f.1.1 h in
      star_longest line consts m here rest p.0 f.0 p.1 p.2 (deeper m p.0 rest p.2 f.1.0 p.3 (omega (arith, deep)) p.4)
  pointer_longest deeper (AbstractPointer line consts (Present _)) here rest known a f deep h direct = absurd (false≢true f.1.0)
  pointer_longest deeper (Pointer line consts m) here rest known a f deep h direct = absurd (false≢true a)
  pointer_longest deeper _ here rest known a f deep h direct = absurd (true≢false direct)

  longest_by : Deeper → (direct : Bool) (d : DeclaratorTree) (here rest : List Token) → K here → is_abstract d ≡ true
      → DeclaratorFits names.is_type (Fits names) d here
      → declarator_depth d ≤ suc depth → Takes (declarator_tokens d) here rest → is_direct d ≡ direct → Found here (OfDeclarator d, rest)
  longest_by deeper true d here rest known a f deep h direct = direct_longest d here rest known a f deep h direct
  longest_by deeper false d here rest known a f deep h direct = pointer_longest deeper d here rest known a f deep h direct

pub abstract_longest : (names : Names) (K : List Token → Type 0) → IsSpelled names K → (depth : ℕ) (d : DeclaratorTree) (here rest : List Token)
    → K here → is_abstract d ≡ true
    → DeclaratorFits names.is_type (Fits names) d here → declarator_depth d ≤ depth → Takes (declarator_tokens d) here rest
    → Reaches (readers names depth AbstractDeclarators here) (OfDeclarator d, rest)
abstract_longest names K spelled zero d here rest known a f deep h = absurd (omega (arith, declarator_deep names K spelled d, deep))
abstract_longest names K spelled (suc depth) d here rest known a f deep h =
    reaches_by (readers names (suc depth) AbstractDeclarators here) (declarator names (readers names depth) depth form.Abstract here) (OfDeclarator d, rest) (abstract_by names depth here)
    (longest_by names K spelled depth (abstract_longest names K spelled depth) (is_direct d) d here rest known a f deep h refl)
