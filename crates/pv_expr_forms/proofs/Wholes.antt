-- Of one form: reading what it spells comes to it, and goes on from there.
use Rattle.std.proofs.Common.{◌≡◌, ◌≤◌, ◌+◌, ℕ, ℤ, zero, suc, Bool, true, false, List, [], ◌∷◌, ◌++◌, length, drop, Some, refl, sym, ap, subst, ◌∙◌, arith, inl, inr}
use Rattle.std.proofs.lemmas.Bool.{eq-eqb}
use Rattle.pv_token.specs.declared.token_table.Token.{Token}
use Rattle.pv_token.specs.declared.token_table.TokenKind.{TokenKind}
use Rattle.pv_token.specs.declared.token_table.TokenKind.TheVariants as kind
use Rattle.pv_token.specs.declared.words.Word.TheVariants as word
use Rattle.pv_token.specs.declared.marks.Mark.TheVariants as mark
use Rattle.pv_tree.specs.Syntax.{ExpressionTree, Name, Number, Character, Text, Paren, Index, Call, Member, Arrow, PostIncrement, PostDecrement, SizeofType, Cast, Conditional, ArgumentTrees, DeclarationTree}
use Rattle.pv_tree.specs.Depths.{expression_depth, arguments_depth}
use Rattle.pv_tree.specs.Lines.{expression_line}
use Rattle.pv_tree.specs.Levels.{rank}
use Rattle.pv_tree.specs.Spelling.{text_tokens, expression_tokens, arguments_tokens, declaration_tokens}
use Rattle.pv_tree.specs.Grammar.{line_here, behind}
use Rattle.pv_tree.specs.Spells.{Names, begins_type, IsTypeName}
use Rattle.pv_expr_forms.specs.declared.follows.Prefix.{Prefix}
use Rattle.pv_expr_forms.specs.declared.follows.Join.{Join}
use Rattle.pv_expr_forms.specs.declared.follows.Follow.{Follow}
use Rattle.pv_expr_forms.specs.declared.follows.Follow.TheVariants as follow
use Rattle.pv_expr_forms.specs.Follows.{prefix_token, prefix_operand, prefix_tree, join_mark, join_left, join_right, join_tree, follow_mark, follow_rank, follow_left}
use Rattle.pv_expr_forms.specs.Reader.{Read, is_text, texts_in_row, goes_on, longest_tree, read}
use Rattle.pv_expr_forms.proofs.Runs.{Takes, takes_parts, parts_at, takes_behind, takes_past, one_token, takes_rest, begun_at}
use Rattle.pv_expr_forms.proofs.Operators.{follow_law, operand_cases}
use Rattle.pv_expr_forms.proofs.Steps.{depth_joined, grown_on, grown_stop}
use Rattle.pv_expr_forms.proofs.Trees.{depth_prefixed, rank_joined, depth_pos}
use Rattle.pv_expr_forms.proofs.Ends.{goes_level, Stops, right_of, stops_more, stops_right, closes, longer_stops, right_prefixed, right_joined, stops_at}
use Rattle.pv_expr_forms.proofs.Forms.{on_line, head_name, head_number, head_character, head_text, head_paren, head_cast, Clear, head_front, head_sizeof_type, longer_on, goes_join, goes_ask, goes_index, goes_increment, goes_decrement, goes_dot, goes_arrow, read_head}

-- reading what an expression spells comes to that expression, and goes on from there
abbrev pub IsWhole : Names → ExpressionTree → (here rest : List Token) → Type 0
IsWhole names a here rest = (below level : ℕ) → level ≤ rank a → expression_depth a ≤ suc below → Stops (right_of a) rest → read names (suc below) level here ≡ Some (longest_tree names (read names below) level below a rest)

-- so wherever it ends
abbrev pub AllWhole : Names → ExpressionTree → (here : List Token) → Type 0
AllWhole names a here = (rest : List Token) → Takes (expression_tokens a) here rest → IsWhole names a here rest

-- where nothing goes on, reading gives the expression
pub exact_by : (names : Names) (a : ExpressionTree) (here rest : List Token) → IsWhole names a here rest → (deep level : ℕ) → level ≤ rank a → expression_depth a ≤ deep
    → Stops level rest → read names deep level here ≡ Some (a, rest)
exact_by names a here rest w zero level l d s = absurd (omega (arith, depth_pos a))
exact_by names a here rest w (suc below) level l d s =
    w below level l d (stops_right a level rest l s)
    ∙ ap (λ (x : ExpressionTree × List Token). let y : Read = Some x in y) (grown_stop names (read names below) level below a rest (longer_stops names (read names below) level below a rest s))

-- an expression that goes on
pub goes_whole : (names : Names) (f : Follow) (a : ExpressionTree) (here : List Token) (t : Token) (ts : List Token) (b : ExpressionTree) (rest : List Token)
    → IsWhole names a here (t ∷ ts) → t.kind ≡ kind.Mark (follow_mark f) → (below level : ℕ) → level ≤ follow_rank f → follow_left f ≤ rank a → expression_depth a ≤ below
    → goes_on names (read names below) a f ts ≡ Some (b, rest) → read names (suc below) level here ≡ Some (longest_tree names (read names below) level below b rest)
goes_whole names f a here t ts b rest w k below level l left d e =
    w below level (omega (arith, (follow_law f).le)) (omega arith) (closes a f t ts k left)
    ∙ ap (λ (x : ExpressionTree × List Token). let y : Read = Some x in y) (grown_on names (read names below) level below a (t ∷ ts) b rest (longer_on names (read names below) level below a f t ts k l left d ∙ e))

-- ---- forms of one token

pub whole_name : (names : Names) (line n : ℕ) (here rest : List Token) → line ≡ line_here here → names.is_type n ≡ false → Takes (kind.Name n ∷ []) here rest
    → IsWhole names (Name line n) here rest
whole_name names line n [] rest e free h below level l d s = absurd h
whole_name names line n (t ∷ ts) rest e free h below level l d s =
    read_head names below level (t ∷ ts) (Name line n) rest
    (head_name names (read names below) below t ts n h.0 free ∙ rw (e, h.1) refl) l

pub whole_number : (names : Names) (line value : ℕ) (decimal unsigned : Bool) (longs : ℕ) (here rest : List Token) → line ≡ line_here here
    → Takes (kind.Number value decimal unsigned longs ∷ []) here rest → IsWhole names (Number line value decimal unsigned longs) here rest
whole_number names line value decimal unsigned longs [] rest e h below level l d s = absurd h
whole_number names line value decimal unsigned longs (t ∷ ts) rest e h below level l d s =
    read_head names below level (t ∷ ts) (Number line value decimal unsigned longs) rest
    (head_number names (read names below) below t ts value decimal unsigned longs h.0 ∙ rw (e, h.1) refl) l

pub whole_character : (names : Names) (line : ℕ) (value : ℤ) (here rest : List Token) → line ≡ line_here here → Takes (kind.Character value ∷ []) here rest
    → IsWhole names (Character line value) here rest
whole_character names line value [] rest e h below level l d s = absurd h
whole_character names line value (t ∷ ts) rest e h below level l d s =
    read_head names below level (t ∷ ts) (Character line value) rest
    (head_character names (read names below) below t ts value h.0 ∙ rw (e, h.1) refl) l

-- ---- string literals in a row

text_stops : (n : ℕ) (k : TokenKind) → goes_level k ≤ 17 → is_text n k ≡ false
text_stops n (kind.Text m) h = absurd (omega arith)
text_stops n _ h = refl

row_stops : (n : ℕ) (ts : List Token) → Stops 17 ts → texts_in_row n ts ≡ 0
row_stops n [] s = refl
row_stops n (t ∷ ts) s = rw (text_stops n t.kind s) refl

pub text_itself : (n : ℕ) (t : Token) → t.kind ≡ kind.Text n → is_text n t.kind ≡ true
text_itself n t e = ap (is_text n) e ∙ eq-eqb n n refl

texts_exact : (more n : ℕ) (ts rest : List Token) → Takes (text_tokens more n) ts rest → Stops 17 rest → texts_in_row n ts ≡ more
texts_exact zero n ts rest h s = row_stops n ts (subst (λ (x : List Token). Stops 17 x) (sym h) s)
texts_exact (suc more) n [] rest h s = absurd h
texts_exact (suc more) n (t ∷ ts) rest h s = rw (text_itself n t h.0) (ap suc (texts_exact more (suc n) ts rest h.1 s))

pub length_texts : (more n : ℕ) → length (text_tokens more n) ≡ more
length_texts zero n = refl
length_texts (suc more) n = ap suc (length_texts more (suc n))

pub whole_text : (names : Names) (line first more : ℕ) (here rest : List Token) → line ≡ line_here here → Takes (text_tokens (suc more) first) here rest
    → IsWhole names (Text line first more) here rest
whole_text names line first more [] rest e h below level l d s = absurd h
whole_text names line first more (t ∷ ts) rest e h below level l d s =
    let left : drop more ts ≡ rest = ap (λ (k : ℕ). drop k ts) (sym (length_texts more (suc first))) ∙ takes_rest (text_tokens more (suc first)) ts rest h.1 in
    read_head names below level (t ∷ ts) (Text line first more) rest
    (head_text names (read names below) below t ts first more rest h.0 (texts_exact more (suc first) ts rest h.1 s) left ∙ on_line (λ k. Text k first more) line t.line rest e) l

-- ---- forms in front

pub whole_paren : (names : Names) (line : ℕ) (a : ExpressionTree) (here rest : List Token) → line ≡ line_here here → 1 ≤ rank a
    → ((mid : List Token) → Takes (expression_tokens a) (drop 1 here) mid → begins_type names (drop 1 here) ≡ false) → AllWhole names a (drop 1 here)
    → Takes (kind.Mark mark.OpenParen ∷ (expression_tokens a ++ kind.Mark mark.CloseParen ∷ [])) here rest → IsWhole names (Paren line a) here rest
whole_paren names line a [] rest e one none w h below level l d s = absurd h
whole_paren names line a (t ∷ ts) rest e one none w h below level l d s =
    let p = parts_at (expression_tokens a) (kind.Mark mark.CloseParen) [] ts rest h.1 in
    let inside = exact_by names a ts (p.token ∷ p.after) (w (p.token ∷ p.after) p.left) below 1 one (omega arith) (stops_at (kind.Mark mark.CloseParen) 1 p.token p.after p.kind (omega arith)) in
    read_head names below level (t ∷ ts) (Paren line a) rest
    (head_paren names (read names below) below t ts a p.token p.after h.0 (none (p.token ∷ p.after) p.left) inside p.kind ∙ rw (e, p.right) refl) l

pub whole_prefixed : (names : Names) (line : ℕ) (op : Prefix) (a : ExpressionTree) (here rest : List Token) → line ≡ line_here here → prefix_operand op ≤ rank a
    → ((mid : List Token) → Takes (expression_tokens a) (drop 1 here) mid → Clear names (drop 1 here) op) → AllWhole names a (drop 1 here)
    → Takes (prefix_token op ∷ expression_tokens a) here rest → IsWhole names (prefix_tree line op a) here rest
whole_prefixed names line op a [] rest e tight clear w h below level l d s = absurd h
whole_prefixed names line op a (t ∷ ts) rest e tight clear w h below level l d s =
    let least : 14 ≤ prefix_operand op = elim (operand_cases op) [ inl q ↦ omega arith | inr q ↦ omega arith ] in
    let stops : Stops 14 rest = subst (λ (n : ℕ). Stops n rest) (right_prefixed line op a) s in
    let inside = exact_by names a ts rest (w rest h.1) below (prefix_operand op) tight (omega (arith, d, depth_prefixed line op a)) (stops_more 14 (prefix_operand op) rest least stops) in
    read_head names below level (t ∷ ts) (prefix_tree line op a) rest
    (head_front names (read names below) below t ts op a rest h.0 (clear rest h.1) inside ∙ on_line (λ k. prefix_tree k op a) line t.line rest e) l

pub whole_sizeof_type : (names : Names) (line : ℕ) (type : DeclarationTree) (here rest : List Token) → line ≡ line_here here → IsTypeName names type (drop 2 here)
    → Takes (kind.Word word.Sizeof ∷ kind.Mark mark.OpenParen ∷ (declaration_tokens type ++ kind.Mark mark.CloseParen ∷ [])) here rest
    → IsWhole names (SizeofType line type) here rest
whole_sizeof_type names line type [] rest e n h below level l d s = absurd h
whole_sizeof_type names line type (t ∷ []) rest e n h below level l d s = absurd h.1
whole_sizeof_type names line type (t ∷ p ∷ ts) rest e n h below level l d s =
    let q = parts_at (declaration_tokens type) (kind.Mark mark.CloseParen) [] ts rest h.1.1 in
    let is : names.type_at ts ≡ Some (type, q.token ∷ q.after) = n.is ∙ ap (λ (x : List Token). Some (type, x)) (takes_rest (declaration_tokens type) ts (q.token ∷ q.after) q.left) in
    read_head names below level (t ∷ p ∷ ts) (SizeofType line type) rest
    (head_sizeof_type names (read names below) below t p ts type q.token q.after h.0 h.1.0 n.begins is (omega arith) q.kind ∙ rw (e, q.right) refl) l

pub whole_cast : (names : Names) (line : ℕ) (type : DeclarationTree) (a : ExpressionTree) (here rest : List Token) → line ≡ line_here here
    → IsTypeName names type (drop 1 here) → 14 ≤ rank a → AllWhole names a (drop (length (declaration_tokens type) + 2) here)
    → Takes (kind.Mark mark.OpenParen ∷ ((declaration_tokens type ++ kind.Mark mark.CloseParen ∷ []) ++ expression_tokens a)) here rest
    → IsWhole names (Cast line type a) here rest
whole_cast names line type a [] rest e n tight w h below level l d s = absurd h
whole_cast names line type a (t ∷ ts) rest e n tight w h below level l d s =
    let p = takes_parts (declaration_tokens type ++ kind.Mark mark.CloseParen ∷ []) (expression_tokens a) ts rest h.1 in
    let q = parts_at (declaration_tokens type) (kind.Mark mark.CloseParen) [] ts p.0 p.1 in
    let is : names.type_at ts ≡ Some (type, q.token ∷ q.after) = n.is ∙ ap (λ (x : List Token). Some (type, x)) (takes_rest (declaration_tokens type) ts (q.token ∷ q.after) q.left) in
    let place : drop (length (declaration_tokens type) + 2) (t ∷ ts) ≡ q.after = takes_past t (declaration_tokens type) (kind.Mark mark.CloseParen) ts (q.token ∷ q.after) q.after q.left (one_token (kind.Mark mark.CloseParen) q.token q.after q.kind) in
    let w' = subst (λ (x : List Token). AllWhole names a x) place w in
    let last : Takes (expression_tokens a) q.after rest = subst (λ (x : List Token). Takes (expression_tokens a) x rest) (sym q.right) p.2 in
    let inside = exact_by names a q.after rest (w' rest last) below 14 tight (omega arith) s in
    read_head names below level (t ∷ ts) (Cast line type a) rest
    (head_cast names (read names below) below t ts type q.token q.after a rest h.0 n.begins is (omega arith) q.kind inside ∙ on_line (λ k. Cast k type a) line t.line rest e) l

-- ---- forms that go on

module _ (names : Names) (a : ExpressionTree) (here : List Token) (wa : AllWhole names a here) where
  pub whole_join : (op : Join) (b : ExpressionTree) (rest : List Token) → join_left op ≤ rank a → join_right op ≤ rank b → AllWhole names b (behind a 1 here)
      → Takes (expression_tokens a ++ (kind.Mark (join_mark op) ∷ expression_tokens b)) here rest → IsWhole names (join_tree op a b) here rest
  whole_join op b rest left right wb h below level l d s =
      let p = parts_at (expression_tokens a) (kind.Mark (join_mark op)) (expression_tokens b) here rest h in
      let place : behind a 1 here ≡ p.after = takes_behind 1 (expression_tokens a) here (p.token ∷ p.after) p.left in
      let wb' = subst (λ (x : List Token). AllWhole names b x) place wb in
      let deep = depth_joined op a b in
      let stops : Stops (join_right op) rest = subst (λ (n : ℕ). Stops n rest) (right_joined op a b) s in
      let last = exact_by names b p.after rest (wb' rest p.right) below (join_right op) right (omega (arith, deep, d)) stops in
      goes_whole names (follow.Join op) a here p.token p.after (join_tree op a b) rest (wa (p.token ∷ p.after) p.left) p.kind below level (omega (arith, l, rank_joined op a b)) left (omega (arith, deep, d))
      (goes_join names (read names below) a p.after op b rest last)

  pub whole_ask : (b c : ExpressionTree) (rest : List Token) → 4 ≤ rank a → 1 ≤ rank b → 3 ≤ rank c → AllWhole names b (behind a 1 here)
      → AllWhole names c (behind b 1 (behind a 1 here))
      → Takes (expression_tokens a ++ (kind.Mark mark.Question ∷ (expression_tokens b ++ (kind.Mark mark.Colon ∷ expression_tokens c)))) here rest
      → IsWhole names (Conditional (expression_line a) a b c) here rest
  whole_ask b c rest left middle right wb wc h below level l d s =
      let p = parts_at (expression_tokens a) (kind.Mark mark.Question) (expression_tokens b ++ (kind.Mark mark.Colon ∷ expression_tokens c)) here rest h in
      let q = parts_at (expression_tokens b) (kind.Mark mark.Colon) (expression_tokens c) p.after rest p.right in
      let place : behind a 1 here ≡ p.after = takes_behind 1 (expression_tokens a) here (p.token ∷ p.after) p.left in
      let place' : behind b 1 (behind a 1 here) ≡ q.after = ap (λ (x : List Token). behind b 1 x) place ∙ takes_behind 1 (expression_tokens b) p.after (q.token ∷ q.after) q.left in
      let wb' = subst (λ (x : List Token). AllWhole names b x) place wb in
      let wc' = subst (λ (x : List Token). AllWhole names c x) place' wc in
      let inner = exact_by names b p.after (q.token ∷ q.after) (wb' (q.token ∷ q.after) q.left) below 1 middle (omega (arith, d)) (stops_at (kind.Mark mark.Colon) 1 q.token q.after q.kind (omega arith)) in
      let last = exact_by names c q.after rest (wc' rest q.right) below 3 right (omega (arith, d)) s in
      goes_whole names follow.Ask a here p.token p.after (Conditional (expression_line a) a b c) rest (wa (p.token ∷ p.after) p.left) p.kind below level l left (omega (arith, d))
      (goes_ask names (read names below) a p.after b q.token q.after c rest inner q.kind last)

  pub whole_index : (i : ExpressionTree) (rest : List Token) → 16 ≤ rank a → 1 ≤ rank i → AllWhole names i (behind a 1 here)
      → Takes (expression_tokens a ++ (kind.Mark mark.OpenBracket ∷ (expression_tokens i ++ kind.Mark mark.CloseBracket ∷ []))) here rest
      → IsWhole names (Index (expression_line a) a i) here rest
  whole_index i rest left one wi h below level l d s =
      let p = parts_at (expression_tokens a) (kind.Mark mark.OpenBracket) (expression_tokens i ++ kind.Mark mark.CloseBracket ∷ []) here rest h in
      let q = parts_at (expression_tokens i) (kind.Mark mark.CloseBracket) [] p.after rest p.right in
      let place : behind a 1 here ≡ p.after = takes_behind 1 (expression_tokens a) here (p.token ∷ p.after) p.left in
      let wi' = subst (λ (x : List Token). AllWhole names i x) place wi in
      let inner = exact_by names i p.after (q.token ∷ q.after) (wi' (q.token ∷ q.after) q.left) below 1 one (omega (arith, d)) (stops_at (kind.Mark mark.CloseBracket) 1 q.token q.after q.kind (omega arith)) in
      goes_whole names follow.Index a here p.token p.after (Index (expression_line a) a i) rest (wa (p.token ∷ p.after) p.left) p.kind below level l left (omega (arith, d))
      (goes_index names (read names below) a p.after i q.token q.after inner q.kind ∙ rw q.right refl)

  pub whole_call : (args : ArgumentTrees) (rest : List Token) → 16 ≤ rank a
      → ((ts : List Token) → behind a 1 here ≡ ts → Takes (arguments_tokens args ++ kind.Mark mark.CloseParen ∷ []) ts rest → (below : ℕ) → arguments_depth args ≤ below → goes_on names (read names below) a follow.Call ts ≡ Some (Call (expression_line a) a args, rest))
      → Takes (expression_tokens a ++ (kind.Mark mark.OpenParen ∷ (arguments_tokens args ++ kind.Mark mark.CloseParen ∷ []))) here rest
      → IsWhole names (Call (expression_line a) a args) here rest
  whole_call args rest left goes h below level l d s =
      let p = parts_at (expression_tokens a) (kind.Mark mark.OpenParen) (arguments_tokens args ++ kind.Mark mark.CloseParen ∷ []) here rest h in
      let place : behind a 1 here ≡ p.after = takes_behind 1 (expression_tokens a) here (p.token ∷ p.after) p.left in
      goes_whole names follow.Call a here p.token p.after (Call (expression_line a) a args) rest (wa (p.token ∷ p.after) p.left) p.kind below level l left (omega (arith, d))
      (goes p.after place p.right below (omega (arith, d)))

  pub whole_dot : (n : ℕ) (rest : List Token) → 16 ≤ rank a → names.is_type n ≡ false → Takes (expression_tokens a ++ (kind.Mark mark.Dot ∷ kind.Name n ∷ [])) here rest
      → IsWhole names (Member (expression_line a) a n) here rest
  whole_dot n rest left free h below level l d s =
      let p = parts_at (expression_tokens a) (kind.Mark mark.Dot) (kind.Name n ∷ []) here rest h in
      let q = begun_at (kind.Name n) [] p.after rest p.right in
      goes_whole names follow.Dot a here p.token p.after (Member (expression_line a) a n) rest (wa (p.token ∷ p.after) p.left) p.kind below level l left (omega (arith, d))
      (rw q.is (goes_dot names (read names below) a n q.token q.after q.kind free ∙ ap (λ (x : List Token). let y : Read = Some (Member (expression_line a) a n, x) in y) q.right))

  pub whole_arrow : (n : ℕ) (rest : List Token) → 16 ≤ rank a → names.is_type n ≡ false
      → Takes (expression_tokens a ++ (kind.Mark mark.Arrow ∷ kind.Name n ∷ [])) here rest → IsWhole names (Arrow (expression_line a) a n) here rest
  whole_arrow n rest left free h below level l d s =
      let p = parts_at (expression_tokens a) (kind.Mark mark.Arrow) (kind.Name n ∷ []) here rest h in
      let q = begun_at (kind.Name n) [] p.after rest p.right in
      goes_whole names follow.Arrow a here p.token p.after (Arrow (expression_line a) a n) rest (wa (p.token ∷ p.after) p.left) p.kind below level l left (omega (arith, d))
      (rw q.is (goes_arrow names (read names below) a n q.token q.after q.kind free ∙ ap (λ (x : List Token). let y : Read = Some (Arrow (expression_line a) a n, x) in y) q.right))

  pub whole_increment : (rest : List Token) → 16 ≤ rank a → Takes (expression_tokens a ++ kind.Mark mark.Increment ∷ []) here rest
      → IsWhole names (PostIncrement (expression_line a) a) here rest
  whole_increment rest left h below level l d s =
      let p = parts_at (expression_tokens a) (kind.Mark mark.Increment) [] here rest h in
      goes_whole names follow.Increment a here p.token p.after (PostIncrement (expression_line a) a) rest (wa (p.token ∷ p.after) p.left) p.kind below level l left (omega (arith, d))
      (goes_increment names (read names below) a p.after ∙ ap (λ (x : List Token). let y : Read = Some (PostIncrement (expression_line a) a, x) in y) p.right)

  pub whole_decrement : (rest : List Token) → 16 ≤ rank a → Takes (expression_tokens a ++ kind.Mark mark.Decrement ∷ []) here rest
      → IsWhole names (PostDecrement (expression_line a) a) here rest
  whole_decrement rest left h below level l d s =
      let p = parts_at (expression_tokens a) (kind.Mark mark.Decrement) [] here rest h in
      goes_whole names follow.Decrement a here p.token p.after (PostDecrement (expression_line a) a) rest (wa (p.token ∷ p.after) p.left) p.kind below level l left (omega (arith, d))
      (goes_decrement names (read names below) a p.after ∙ ap (λ (x : List Token). let y : Read = Some (PostDecrement (expression_line a) a, x) in y) p.right)
