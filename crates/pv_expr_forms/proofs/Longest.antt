-- Nothing longer is spelled than what is read, and nothing else that is as long.
use Rattle.std.proofs.Common.{◌≡◌, ◌≤◌, ◌<◌, ◌+◌, ◌⊎◌, ℕ, zero, suc, List, [], ◌∷◌, ◌++◌, length, drop, Some, refl, sym, ap, subst, ◌∙◌, arith, inl, inr}
use Rattle.std.proofs.lemmas.Bool.{cases_eq}
use Rattle.pv_token.specs.declared.token_table.Token.{Token}
use Rattle.pv_token.specs.declared.token_table.TokenKind.{TokenKind}
use Rattle.pv_token.specs.declared.token_table.TokenKind.TheVariants as kind
use Rattle.pv_token.specs.declared.marks.Mark.TheVariants as mark
use Rattle.pv_tree.specs.Syntax.{ExpressionTree, Name, Number, Character, Text, Paren, Index, Call, Member, Arrow, PostIncrement, PostDecrement, PreIncrement, PreDecrement, Unary, SizeofExpr, SizeofType, Cast, Binary, Conditional, Assign, Comma, DeclarationTree}
use Rattle.pv_tree.specs.Depths.{expression_depth, declaration_depth}
use Rattle.pv_tree.specs.Lines.{expression_line}
use Rattle.pv_tree.specs.Levels.{rank}
use Rattle.pv_tree.specs.Spelling.{text_tokens, expression_tokens, declaration_tokens}
use Rattle.pv_tree.specs.Grammar.{line_here, behind}
use Rattle.pv_tree.specs.Spells.{Names, IsTypeName, Fits}
use Rattle.pv_expr_forms.specs.declared.follows.Prefix.{Prefix}
use Rattle.pv_expr_forms.specs.declared.follows.Prefix.TheVariants as prefix
use Rattle.pv_expr_forms.specs.declared.follows.Join.{Join}
use Rattle.pv_expr_forms.specs.declared.follows.Join.TheVariants as join
use Rattle.pv_expr_forms.specs.declared.follows.Follow.TheVariants as follow
use Rattle.pv_expr_forms.specs.Follows.{prefix_token, prefix_operand, prefix_tree, join_mark, join_rank, join_left, join_right, join_tree}
use Rattle.pv_expr_forms.specs.Reader.{Read, texts_in_row, longest_tree, read}
use Rattle.pv_expr_forms.proofs.Runs.{Takes, takes_then, takes_parts, parts_at, takes_behind, takes_past, one_token, takes_rest, takes_length, takes_known}
use Rattle.pv_expr_forms.proofs.Steps.{depth_joined}
use Rattle.pv_expr_forms.proofs.Marks.{texts_taken}
use Rattle.pv_expr_forms.proofs.Trees.{line_is, tokens_prefixed, depth_prefixed, rank_prefixed, fits_prefixed, tokens_joined, rank_joined, fits_joined, depth_pos}
use Rattle.pv_expr_forms.proofs.Ends.{Stops, right_of, stops_always, stops_at}
use Rattle.pv_expr_forms.proofs.Heads.{IsSpelled}
use Rattle.pv_expr_forms.proofs.Growth.{grown_good}
use Rattle.pv_expr_forms.proofs.Sound.{read_sound}
use Rattle.pv_expr_forms.proofs.Beginnings.{opens_none}
use Rattle.pv_expr_forms.proofs.Forms.{on_line, head_text, head_cast, Clear, head_front, goes_join, goes_ask, read_head}
use Rattle.pv_expr_forms.proofs.Wholes.{exact_by, goes_whole, text_itself, length_texts}
use Rattle.pv_expr_forms.proofs.Whole.{whole}

-- less is left, or it is the same
abbrev pub Within : ExpressionTree × List Token → ExpressionTree × List Token → Type 0
Within x y = (length x.1 < length y.1) ⊎ (x ≡ y)

within_then : (x y z : ExpressionTree × List Token) → Within x y → Within y z → Within x z
within_then x y z (inl h) (inl k) = inl (omega arith)
within_then x y z (inl h) (inr e) = inl (subst (λ (w : ExpressionTree × List Token). length x.1 < length w.1) e h)
within_then x y z (inr e) (inl k) = inl (subst (λ (w : ExpressionTree × List Token). length w.1 < length z.1) (sym e) k)
within_then x y z (inr e) (inr k) = inr (e ∙ k)

within_made : (make : ExpressionTree → ExpressionTree) (x : ExpressionTree × List Token) (a : ExpressionTree) (rest : List Token) → Within x (a, rest)
    → Within (make x.0, x.1) (make a, rest)
within_made make x a rest (inl h) = inl h
within_made make x a rest (inr e) = inr (ap (λ (w : ExpressionTree × List Token). let p : ExpressionTree × List Token = (make w.0, w.1) in p) e)

-- something was read that leaves less than y does, or is y
pub record Reaches (o : Read) (y : ExpressionTree × List Token) : Type 0 where
  pub found : ExpressionTree × List Token
  pub is : o ≡ Some found
  pub within : Within found y

-- ---- string literals in a row

texts_least : (more n : ℕ) (ts rest : List Token) → Takes (text_tokens more n) ts rest → more ≤ texts_in_row n ts
texts_least zero n ts rest h = omega arith
texts_least (suc more) n [] rest h = absurd h
texts_least (suc more) n (t ∷ ts) rest h = rw (text_itself n t h.0) (omega (arith, texts_least more (suc n) ts rest h.1))

texts_left : (more n : ℕ) (ts rest : List Token) → Takes (text_tokens more n) ts rest → drop more ts ≡ rest
texts_left more n ts rest h = ap (λ (k : ℕ). drop k ts) (sym (length_texts more n)) ∙ takes_rest (text_tokens more n) ts rest h

texts_within : (line first more : ℕ) (ts rest : List Token) → Takes (text_tokens more (suc first)) ts rest
    → Within (Text line first (texts_in_row (suc first) ts), drop (texts_in_row (suc first) ts) ts) (Text line first more, rest)
texts_within line first more ts rest h =
    let most = texts_in_row (suc first) ts in
    elim (cases_eq most more) [
      | inl e ↦
          let left : drop most ts ≡ rest = ap (λ (k : ℕ). drop k ts) e ∙ texts_left more (suc first) ts rest h in
          inr (ap (λ (k : ℕ). let p : ExpressionTree × List Token = (Text line first k, drop most ts) in p) e ∙ ap (λ (x : List Token). let p : ExpressionTree × List Token = (Text line first more, x) in p) left)
      | inr ne ↦
          let all = takes_length (text_tokens most (suc first)) ts (drop most ts) (texts_taken (suc first) ts) in
          let some = takes_length (text_tokens more (suc first)) ts rest h in
          inl (omega (arith, texts_least more (suc first) ts rest h, all, some, length_texts most (suc first), length_texts more (suc first)))
    ]

module _ (names : Names) (K : List Token → Type 0) (spelled : IsSpelled names K) where
  known_behind : (ks : List TokenKind) (here rest : List Token) → Takes ks here rest → K here → K rest
  known_behind ks here rest h known = takes_known K spelled.tail ks here rest h known

  -- an expression that fits where tokens are known is reached where it is spelled
  abbrev AllLongest : ExpressionTree → (here : List Token) → Type 0
  AllLongest a here = (rest : List Token) → K here → Takes (expression_tokens a) here rest → (deep level : ℕ) → level ≤ rank a → expression_depth a ≤ deep → Reaches (read names deep level here) (a, rest)

  -- so one level of depth down
  abbrev AllReached : ExpressionTree → (here : List Token) → Type 0
  AllReached a here = (rest : List Token) → K here → Takes (expression_tokens a) here rest → (below level : ℕ) → level ≤ rank a → expression_depth a ≤ suc below → Reaches (read names (suc below) level here) (a, rest)

  grown_within : (below level : ℕ) (here : List Token) (left : ExpressionTree) (ts : List Token) → K here → Fits names left here → Takes (expression_tokens left) here ts
      → level ≤ rank left → expression_depth left ≤ suc below → Within (longest_tree names (read names below) level below left ts) (left, ts)
  grown_within below level here left ts known f h l d = (grown_good names K spelled below (read names below) (read_sound names K spelled below) level here known left ts f l d h).shorter

  -- with an operand at its end that may have been read further
  grown_reaches : (below level : ℕ) (here : List Token) (o : Read) (make : ExpressionTree → ExpressionTree) (x : ExpressionTree × List Token) (a : ExpressionTree) (rest : List Token)
      → K here → o ≡ Some (longest_tree names (read names below) level below (make x.0) x.1) → Within x (a, rest) → Fits names (make x.0) here
      → Takes (expression_tokens (make x.0)) here x.1 → level ≤ rank (make x.0) → expression_depth (make x.0) ≤ suc below → Reaches o (make a, rest)
  grown_reaches below level here o make x a rest known e w f h l d = record {
    found = longest_tree names (read names below) level below (make x.0) x.1;
    is = e;
    within = within_then (longest_tree names (read names below) level below (make x.0) x.1) (make x.0, x.1) (make a, rest) (grown_within below level here (make x.0) x.1 known f h l d) (within_made make x a rest w);
  }

  -- what has no operand at its right end
  long_shut : (a : ExpressionTree) (here : List Token) → right_of a ≡ 18 → Fits names a here → AllReached a here
  long_shut a here shut f rest known h below level l d = record {
    found = longest_tree names (read names below) level below a rest;
    is = whole names a here f rest h below level l d (subst (λ (n : ℕ). Stops n rest) (sym shut) (stops_always rest));
    within = grown_within below level here a rest known f h l d;
  }

  long_text : (line first more : ℕ) (here : List Token) → line ≡ line_here here → AllReached (Text line first more) here
  long_text line first more [] e rest known h below level l d = absurd h
  long_text line first more (t ∷ ts) e rest known h below level l d =
      let most = texts_in_row (suc first) ts in
      let x : ExpressionTree × List Token = (Text line first most, drop most ts) in
      let is = read_head names below level (t ∷ ts) (Text line first most) (drop most ts) (head_text names (read names below) below t ts first most (drop most ts) h.0 refl refl ∙ on_line (λ k. Text k first most) line t.line (drop most ts) e) l in
      grown_reaches below level (t ∷ ts) (read names (suc below) level (t ∷ ts)) (λ b. b) x (Text line first more) rest known is (texts_within line first more ts rest h.1) e (h.0, texts_taken (suc first) ts) l d

  long_prefixed : (line : ℕ) (op : Prefix) (a : ExpressionTree) (here : List Token) → line ≡ line_here here → prefix_operand op ≤ rank a
      → ((mid : List Token) → Takes (expression_tokens a) (drop 1 here) mid → Clear names (drop 1 here) op) → AllLongest a (drop 1 here) → (rest : List Token) → K here
      → Takes (prefix_token op ∷ expression_tokens a) here rest → (below level : ℕ) → level ≤ 15 → expression_depth a ≤ below
      → Reaches (read names (suc below) level here) (prefix_tree line op a, rest)
  long_prefixed line op a [] e tight clear la rest known h below level l d = absurd h
  long_prefixed line op a (t ∷ ts) e tight clear la rest known h below level l d =
      let known' = spelled.tail t ts known in
      let o = la rest known' h.1 below (prefix_operand op) tight d in
      let x = o.found in
      let g = (read_sound names K spelled below).good (prefix_operand op) ts x.0 x.1 known' o.is in
      let is = read_head names below level (t ∷ ts) (prefix_tree line op x.0) x.1
      (head_front names (read names below) below t ts op x.0 x.1 h.0 (clear rest h.1) o.is ∙ on_line (λ k. prefix_tree k op x.0) line t.line x.1 e) (omega (arith, rank_prefixed line op x.0)) in
      grown_reaches below level (t ∷ ts) (read names (suc below) level (t ∷ ts)) (prefix_tree line op) x a rest known is o.within
      (fits_prefixed names line op x.0 (t ∷ ts) e g.tight g.fits)
      (subst (λ (ks : List TokenKind). Takes ks (t ∷ ts) x.1) (sym (tokens_prefixed line op x.0)) (h.0, g.takes))
      (omega (arith, rank_prefixed line op x.0)) (omega (arith, depth_prefixed line op x.0, g.shallow))

  -- a cast, once its operand is reached
  cast_reaches : (line : ℕ) (type : DeclarationTree) (a : ExpressionTree) (t : Token) (ts : List Token) (c : Token) (inner rest : List Token) (below level : ℕ)
      → K (t ∷ ts) → K inner → line ≡ t.line → IsTypeName names type ts → t.kind ≡ kind.Mark mark.OpenParen → Takes (declaration_tokens type) ts (c ∷ inner)
      → c.kind ≡ kind.Mark mark.CloseParen → declaration_depth type ≤ below → level ≤ 14 → Reaches (read names below 14 inner) (a, rest)
      → Reaches (read names (suc below) level (t ∷ ts)) (Cast line type a, rest)
  cast_reaches line type a t ts c inner rest below level known within e n o h k deep l r =
      let x = r.found in
      let g = (read_sound names K spelled below).good 14 inner x.0 x.1 within r.is in
      let is : names.type_at ts ≡ Some (type, c ∷ inner) = n.is ∙ ap (λ (y : List Token). Some (type, y)) (takes_rest (declaration_tokens type) ts (c ∷ inner) h) in
      let close = one_token (kind.Mark mark.CloseParen) c inner k in
      let place : drop (length (declaration_tokens type) + 2) (t ∷ ts) ≡ inner = takes_past t (declaration_tokens type) (kind.Mark mark.CloseParen) ts (c ∷ inner) inner h close in
      let named = takes_then (declaration_tokens type) (kind.Mark mark.CloseParen ∷ []) ts (c ∷ inner) inner h close in
      let all = read_head names below level (t ∷ ts) (Cast line type x.0) x.1
      (head_cast names (read names below) below t ts type c inner x.0 x.1 o n.begins is deep k r.is ∙ on_line (λ y. Cast y type x.0) line t.line x.1 e) l in
      grown_reaches below level (t ∷ ts) (read names (suc below) level (t ∷ ts)) (Cast line type) x a rest known all r.within
      (e, n, g.tight, subst (λ (y : List Token). Fits names x.0 y) (sym place) g.fits)
      (o, takes_then (declaration_tokens type ++ kind.Mark mark.CloseParen ∷ []) (expression_tokens x.0) ts inner x.1 named g.takes)
      l (omega (arith, g.shallow))

  long_cast : (line : ℕ) (type : DeclarationTree) (a : ExpressionTree) (here : List Token) → Fits names (Cast line type a) here
      → AllLongest a (drop (length (declaration_tokens type) + 2) here) → AllReached (Cast line type a) here
  long_cast line type a [] f la rest known h below level l d = absurd h
  long_cast line type a (t ∷ ts) f la rest known h below level l d =
      let p = takes_parts (declaration_tokens type ++ kind.Mark mark.CloseParen ∷ []) (expression_tokens a) ts rest h.1 in
      let q = parts_at (declaration_tokens type) (kind.Mark mark.CloseParen) [] ts p.0 p.1 in
      let place : drop (length (declaration_tokens type) + 2) (t ∷ ts) ≡ q.after = takes_past t (declaration_tokens type) (kind.Mark mark.CloseParen) ts (q.token ∷ q.after) q.after q.left (one_token (kind.Mark mark.CloseParen) q.token q.after q.kind) in
      let last : Takes (expression_tokens a) q.after rest = subst (λ (x : List Token). Takes (expression_tokens a) x rest) (sym q.right) p.2 in
      let within = spelled.tail q.token q.after (known_behind (declaration_tokens type) ts (q.token ∷ q.after) q.left (spelled.tail t ts known)) in
      let r = subst (λ (x : List Token). AllLongest a x) place la rest within last below 14 f.2 (omega arith) in
      cast_reaches line type a t ts q.token q.after rest below level known within f.0 f.1 h.0 q.left q.kind (omega arith) l r

  module _ (a : ExpressionTree) (here : List Token) (f : Fits names a here) where
    long_join : (op : Join) (b : ExpressionTree) → join_left op ≤ rank a → join_right op ≤ rank b → AllLongest b (behind a 1 here) → (rest : List Token) → K here
        → Takes (expression_tokens a ++ (kind.Mark (join_mark op) ∷ expression_tokens b)) here rest → (below level : ℕ) → level ≤ join_rank op
        → expression_depth a ≤ below → expression_depth b ≤ below → Reaches (read names (suc below) level here) (join_tree op a b, rest)
    long_join op b left right lb rest known h below level l d k =
        let p = parts_at (expression_tokens a) (kind.Mark (join_mark op)) (expression_tokens b) here rest h in
        let place : behind a 1 here ≡ p.after = takes_behind 1 (expression_tokens a) here (p.token ∷ p.after) p.left in
        let known' = spelled.tail p.token p.after (known_behind (expression_tokens a) here (p.token ∷ p.after) p.left known) in
        let o = subst (λ (x : List Token). AllLongest b x) place lb rest known' p.right below (join_right op) right k in
        let x = o.found in
        let g = (read_sound names K spelled below).good (join_right op) p.after x.0 x.1 known' o.is in
        let is = goes_whole names (follow.Join op) a here p.token p.after (join_tree op a x.0) x.1 (whole names a here f (p.token ∷ p.after) p.left) p.kind below level l left d
        (goes_join names (read names below) a p.after op x.0 x.1 o.is) in
        grown_reaches below level here (read names (suc below) level here) (join_tree op a) x b rest known is o.within
        (fits_joined names op a x.0 here left g.tight f (subst (λ (y : List Token). Fits names x.0 y) (sym place) g.fits))
        (subst (λ (ks : List TokenKind). Takes ks here x.1) (sym (tokens_joined op a x.0)) (takes_then (expression_tokens a) (kind.Mark (join_mark op) ∷ expression_tokens x.0) here (p.token ∷ p.after) x.1 p.left (p.kind, g.takes)))
        (omega (arith, rank_joined op a x.0)) (omega (arith, depth_joined op a x.0, g.shallow))

    long_ask : (b c : ExpressionTree) → 4 ≤ rank a → 1 ≤ rank b → 3 ≤ rank c → Fits names b (behind a 1 here) → AllLongest c (behind b 1 (behind a 1 here))
        → AllReached (Conditional (expression_line a) a b c) here
    long_ask b c left middle right fb lc rest known h below level l d =
        let p = parts_at (expression_tokens a) (kind.Mark mark.Question) (expression_tokens b ++ (kind.Mark mark.Colon ∷ expression_tokens c)) here rest h in
        let q = parts_at (expression_tokens b) (kind.Mark mark.Colon) (expression_tokens c) p.after rest p.right in
        let place : behind a 1 here ≡ p.after = takes_behind 1 (expression_tokens a) here (p.token ∷ p.after) p.left in
        let place' : behind b 1 (behind a 1 here) ≡ q.after = ap (λ (x : List Token). behind b 1 x) place ∙ takes_behind 1 (expression_tokens b) p.after (q.token ∷ q.after) q.left in
        let fb' = subst (λ (x : List Token). Fits names b x) place fb in
        let inner = exact_by names b p.after (q.token ∷ q.after) (whole names b p.after fb' (q.token ∷ q.after) q.left) below 1 middle (omega (arith, d)) (stops_at (kind.Mark mark.Colon) 1 q.token q.after q.kind (omega arith)) in
        let known1 = spelled.tail p.token p.after (known_behind (expression_tokens a) here (p.token ∷ p.after) p.left known) in
        let known2 = spelled.tail q.token q.after (known_behind (expression_tokens b) p.after (q.token ∷ q.after) q.left known1) in
        let o = subst (λ (x : List Token). AllLongest c x) place' lc rest known2 q.right below 3 right (omega (arith, d)) in
        let x = o.found in
        let g = (read_sound names K spelled below).good 3 q.after x.0 x.1 known2 o.is in
        let is = goes_whole names follow.Ask a here p.token p.after (Conditional (expression_line a) a b x.0) x.1 (whole names a here f (p.token ∷ p.after) p.left) p.kind below level l left (omega (arith, d))
        (goes_ask names (read names below) a p.after b q.token q.after x.0 x.1 inner q.kind o.is) in
        grown_reaches below level here (read names (suc below) level here) (Conditional (expression_line a) a b) x c rest known is o.within
        (line_is names a here f, left, middle, g.tight, f, fb, subst (λ (y : List Token). Fits names x.0 y) (sym place') g.fits)
        (takes_then (expression_tokens a) (kind.Mark mark.Question ∷ (expression_tokens b ++ (kind.Mark mark.Colon ∷ expression_tokens x.0))) here (p.token ∷ p.after) x.1 p.left
        (p.kind, takes_then (expression_tokens b) (kind.Mark mark.Colon ∷ expression_tokens x.0) p.after (q.token ∷ q.after) x.1 q.left (q.kind, g.takes)))
        l (omega (arith, g.shallow))

  -- a line that the first operand has
  first_line : (make : ℕ → ExpressionTree) (line : ℕ) (a : ExpressionTree) (here : List Token) (o : Read) (rest : List Token) → line ≡ line_here here → Fits names a here
      → Reaches o (make (expression_line a), rest) → Reaches o (make line, rest)
  first_line make line a here o rest e f r = subst (λ (l : ℕ). Reaches o (make l, rest)) (line_is names a here f ∙ sym e) r

  pub longest : (a : ExpressionTree) (here : List Token) → Fits names a here → AllLongest a here
  longest a here f rest known h zero level l d = absurd (omega (arith, depth_pos a))
  longest (Name line n) here f rest known h (suc below) level l d = long_shut (Name line n) here refl f rest known h below level l d
  longest (Number line value decimal unsigned longs) here f rest known h (suc below) level l d = long_shut (Number line value decimal unsigned longs) here refl f rest known h below level l d
  longest (Character line value) here f rest known h (suc below) level l d = long_shut (Character line value) here refl f rest known h below level l d
  longest (Text line first more) here f rest known h (suc below) level l d = long_text line first more here f rest known h below level l d
  longest (Paren line a) here f rest known h (suc below) level l d = long_shut (Paren line a) here refl f rest known h below level l d
  longest (Index line a i) here f rest known h (suc below) level l d = long_shut (Index line a i) here refl f rest known h below level l d
  longest (Call line callee args) here f rest known h (suc below) level l d = long_shut (Call line callee args) here refl f rest known h below level l d
  longest (Member line a n) here f rest known h (suc below) level l d = long_shut (Member line a n) here refl f rest known h below level l d
  longest (Arrow line a n) here f rest known h (suc below) level l d = long_shut (Arrow line a n) here refl f rest known h below level l d
  longest (PostIncrement line a) here f rest known h (suc below) level l d = long_shut (PostIncrement line a) here refl f rest known h below level l d
  longest (PostDecrement line a) here f rest known h (suc below) level l d = long_shut (PostDecrement line a) here refl f rest known h below level l d
  longest (SizeofType line type) here f rest known h (suc below) level l d = long_shut (SizeofType line type) here refl f rest known h below level l d
  longest (PreIncrement line a) here f rest known h (suc below) level l d = long_prefixed line prefix.Increment a here f.0 f.1 (λ mid k. tt) (longest a (drop 1 here) f.2) rest known h below level l (omega arith)
  longest (PreDecrement line a) here f rest known h (suc below) level l d = long_prefixed line prefix.Decrement a here f.0 f.1 (λ mid k. tt) (longest a (drop 1 here) f.2) rest known h below level l (omega arith)
  longest (Unary line op a) here f rest known h (suc below) level l d = long_prefixed line (prefix.Unary op) a here f.0 f.1 (λ mid k. tt) (longest a (drop 1 here) f.2) rest known h below level l (omega arith)
  longest (SizeofExpr line a) here f rest known h (suc below) level l d = long_prefixed line prefix.Sizeof a here f.0 f.1 (λ mid k. opens_none names a (drop 1 here) mid f.1 f.2 k) (longest a (drop 1 here) f.2) rest known h below level l (omega arith)
  longest (Cast line type a) here f rest known h (suc below) level l d = long_cast line type a here f (longest a _ f.3) rest known h below level l d
  longest (Binary line op a b) here f rest known h (suc below) level l d =
      first_line (λ k. Binary k op a b) line a here (read names (suc below) level here) rest f.0 f.3
      (long_join a here f.3 (join.Binary op) b f.1 f.2 (longest b _ f.4) rest known h below level l (omega arith) (omega arith))
  longest (Assign line op a b) here f rest known h (suc below) level l d =
      first_line (λ k. Assign k op a b) line a here (read names (suc below) level here) rest f.0 f.3
      (long_join a here f.3 (join.Assign op) b f.1 f.2 (longest b _ f.4) rest known h below level l (omega arith) (omega arith))
  longest (Comma line a b) here f rest known h (suc below) level l d =
      first_line (λ k. Comma k a b) line a here (read names (suc below) level here) rest f.0 f.3
      (long_join a here f.3 join.Comma b f.1 f.2 (longest b _ f.4) rest known h below level l (omega arith) (omega arith))
  longest (Conditional line a b c) here f rest known h (suc below) level l d =
      first_line (λ k. Conditional k a b c) line a here (read names (suc below) level here) rest f.0 f.4
      (long_ask a here f.4 b c f.1 f.2 f.3 f.5 (longest c _ f.6) rest known h below level l d)
