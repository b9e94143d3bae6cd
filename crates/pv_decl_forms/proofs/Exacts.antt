-- What is spelled so is read: rows, lists, and parts that may be left out, of what is read so itself.
use Rattle.std.proofs.Common.{◌≡◌, ◌≤◌, ℕ, Bool, true, false, List, [], ◌∷◌, ◌++◌, drop, Option, Some, None, option_and_then, refl, ap, subst, ◌∙◌, arith}
use Rattle.pv_token.specs.declared.token_table.Token.{Token}
use Rattle.pv_token.specs.declared.token_table.TokenKind.{TokenKind}
use Rattle.pv_token.specs.declared.token_table.TokenKind.TheVariants as kind
use Rattle.pv_token.specs.declared.marks.Mark.TheVariants as mark
use Rattle.pv_tree.specs.Syntax.{Tree, Trees, NoTrees, Then, OptionalTree, Absent, Present}
use Rattle.pv_tree.specs.Depths.{tree_depth, trees_depth, optional_depth}
use Rattle.pv_tree.specs.Spelling.{tree_tokens, trees_tokens, listed_tokens, optional_tokens, value_tokens, variadic_tokens}
use Rattle.pv_tree.specs.Spells.{Names, Fits}
use Rattle.pv_tree.specs.Places.{Place, Specifiers, Members, MemberDeclarators, Constants, stands, some, may_be_variadic}
use Rattle.pv_tree.specs.Fitting.{TreeFits, RowFits, ListFits, OptionalFits}
use Rattle.pv_expr_forms.specs.Reader.{is_comma, is_bracket, after}
use Rattle.pv_expr_forms.proofs.Runs.{Takes, takes_parts, takes_rest, parts_at}
use Rattle.pv_expr_forms.proofs.Heads.{IsSpelled}
use Rattle.pv_decl_forms.specs.Pieces.{Piece, Reads, is_equals, is_ellipsis, found_in, part_if_any, value, row_on, row, after_comma, comma_list}
use Rattle.pv_decl_forms.specs.Declarators.{behind_size, size_behind, variadic_at}
use Rattle.pv_decl_forms.proofs.Marks.{after_taken, after_other}
use Rattle.pv_decl_forms.proofs.Steps.{Shortens, row_next}
use Rattle.pv_decl_forms.proofs.Goods.{known_behind}
use Rattle.pv_decl_forms.proofs.Stops.{stops_at, Stops, Shuts, stops_on, shuts_on, row_quits}

-- a tree that stands at a place and is not too deep is read where it is spelled and ends
abbrev pub ExactBy : Names → (K : List Token → Type 0) → Place → (depth : ℕ) → (List Token → Piece) → Type 0
ExactBy names K place depth read = (t : Tree) (here rest : List Token) → K here → stands place t ≡ true → TreeFits names.is_type (Fits names) t here → tree_depth t ≤ depth → Takes (tree_tokens t) here rest → Stops place rest → read here ≡ Some (t, rest)

-- such a tree stands before what ends one that stands at the place
abbrev pub Starts : Names → Place → Type 0
Starts names place = (t : Tree) (here rest : List Token) → stands place t ≡ true → TreeFits names.is_type (Fits names) t here → Takes (tree_tokens t) here rest → Stops place here

stops_comma : (place : Place) → stops_at place (kind.Mark mark.Comma) ≡ true
stops_comma Specifiers = refl
stops_comma Members = refl
stops_comma MemberDeclarators = refl
stops_comma _ = refl

-- no comma stands here, or nothing behind it
pub no_comma : (read : List Token → Piece) (k : TokenKind) (t : Token) (ts : List Token) → t.kind ≡ k → is_comma k ≡ false
    → after_comma read (t ∷ ts) ≡ None
unfolding after_comma
no_comma read k t ts e c = ap (option_and_then read) (after_other is_comma k t ts e c)

pub comma_alone : (read : List Token → Piece) (here mid : List Token) → Takes (kind.Mark mark.Comma ∷ []) here mid → read mid ≡ None
    → after_comma read here ≡ None
unfolding after_comma
comma_alone read here mid c e = ap (option_and_then read) (after_taken is_comma (kind.Mark mark.Comma) here mid refl c) ∙ e

behind_comma : (read : List Token → Piece) (here mid : List Token) (t : Tree) (rest : List Token) → Takes (kind.Mark mark.Comma ∷ []) here mid
    → read mid ≡ Some (t, rest)
    → after_comma read here ≡ Some (t, rest)
unfolding after_comma
behind_comma read here mid t rest c e = ap (option_and_then read) (after_taken is_comma (kind.Mark mark.Comma) here mid refl c) ∙ e

module _ (names : Names) (K : List Token → Type 0) (spelled : IsSpelled names K) (place : Place) (depth : ℕ) (read : List Token → Piece) (exact : ExactBy names K place depth read) where
  -- ---- parts that may be left out

  pub optional_exact : (o : OptionalTree) (here rest : List Token) → K here → OptionalFits names.is_type (Fits names) place o here
      → optional_depth o ≤ depth
      → Takes (optional_tokens o) here rest → Stops place rest → read rest ≡ None → part_if_any here (read here) ≡ (o, rest)
  optional_exact Absent here rest known f d h s none =
      ap (λ (x : List Token). part_if_any x (read x)) h ∙ ap (part_if_any rest) none
  optional_exact (Present t) here rest known f d h s none = ap (part_if_any here) (exact t here rest known f.0 f.1 d h s)

  pub value_exact : (o : OptionalTree) (here rest : List Token) → K here → OptionalFits names.is_type (Fits names) place o (drop 1 here)
      → optional_depth o ≤ depth
      → Takes (value_tokens o) here rest → Stops place rest → after is_equals rest ≡ None → value read here ≡ (o, rest)
  unfolding value
  value_exact Absent here rest known f d h s none =
      ap (λ (x : List Token). part_if_any x (option_and_then read (after is_equals x))) h ∙ ap (λ (x : Option (List Token)). part_if_any rest (option_and_then read x)) none
  value_exact (Present t) [] rest known f d h s none = absurd h
  value_exact (Present t) (e ∷ ts) rest known f d h s none =
      let c = after_taken is_equals (kind.Mark mark.Assign) (e ∷ ts) ts refl (h.0, refl) in
      ap (λ (x : Option (List Token)). part_if_any (e ∷ ts) (option_and_then read x)) c ∙ ap (part_if_any (e ∷ ts)) (exact t ts rest (spelled.tail e ts known) f.0 f.1 d h.1 s)

  -- ---- rows

  pub row_comes : Shortens K read → Starts names place → (parts : Trees) (here rest : List Token) → K here
      → RowFits names.is_type (Fits names) place parts here
      → trees_depth parts ≤ depth → Takes (trees_tokens parts) here rest → Stops place rest → row read NoTrees here ≡ row read parts rest
  row_comes short starts NoTrees here rest known f d h s = ap (row read NoTrees) h
  row_comes short starts (Then before last) here rest known f d h s =
      let p = takes_parts (trees_tokens before) (tree_tokens last) here rest h in
      let at = takes_rest (trees_tokens before) here p.0 p.1 in
      let f' = subst (λ (x : List Token). TreeFits names.is_type (Fits names) last x) at f.2 in
      let known' = known_behind names K spelled (trees_tokens before) here p.0 p.1 known in
      row_comes short starts before here p.0 known f.0 (omega (arith, d)) p.1 (starts last p.0 rest f.1 f' p.2)
      ∙ row_next K read short before p.0 last rest known' (exact last p.0 rest known' f.1 f' (omega (arith, d)) p.2 s)

  pub row_exact : Shortens K read → Starts names place → (parts : Trees) (here rest : List Token) → K here
      → RowFits names.is_type (Fits names) place parts here
      → trees_depth parts ≤ depth → Takes (trees_tokens parts) here rest → Stops place rest → read rest ≡ None → row read NoTrees here ≡ (parts, rest)
  row_exact short starts parts here rest known f d h s none = row_comes short starts parts here rest known f d h s ∙ row_quits read parts rest none

  -- ---- lists

  pub list_comes : Shortens K (after_comma read) → (before : Trees) (last : Tree) (here rest : List Token) → K here
      → ListFits names.is_type (Fits names) place (Then before last) here → trees_depth (Then before last) ≤ depth
      → Takes (listed_tokens (Then before last)) here rest
      → Stops place rest → comma_list read here ≡ row (after_comma read) (Then before last) rest
  unfolding comma_list
  list_comes short NoTrees last here rest known f d h s =
      ap (row_on (row (after_comma read)) NoTrees here) (exact last here rest known f.1 f.2 (omega (arith, d)) h s)
  list_comes short (Then others other) last here rest known f d h s =
      let before = Then others other in
      let p = takes_parts (listed_tokens before ++ kind.Mark mark.Comma ∷ []) (tree_tokens last) here rest h in
      let at = takes_rest (listed_tokens before ++ kind.Mark mark.Comma ∷ []) here p.0 p.1 in
      let f' = subst (λ (x : List Token). TreeFits names.is_type (Fits names) last x) at f.2 in
      let q = parts_at (listed_tokens before) (kind.Mark mark.Comma) [] here p.0 p.1 in
      let comma : Takes (kind.Mark mark.Comma ∷ []) (q.token ∷ q.after) p.0 = (q.kind, q.right) in
      let known1 = known_behind names K spelled (listed_tokens before) here (q.token ∷ q.after) q.left known in
      let known2 = known_behind names K spelled (kind.Mark mark.Comma ∷ []) (q.token ∷ q.after) p.0 comma known1 in
      list_comes short others other here (q.token ∷ q.after) known f.0 (omega (arith, d)) q.left (stops_on place (kind.Mark mark.Comma) q.token q.after q.kind (stops_comma place))
      ∙ row_next K (after_comma read) short before (q.token ∷ q.after) last rest known1
      (behind_comma read (q.token ∷ q.after) p.0 last rest comma (exact last p.0 rest known2 f.1 f' (omega (arith, d)) p.2 s))

  pub listed_exact : Shortens K (after_comma read) → (parts : Trees) (here rest : List Token) → K here
      → ListFits names.is_type (Fits names) place parts here
      → trees_depth parts ≤ depth → Takes (listed_tokens parts) here rest → Stops place rest → after_comma read rest ≡ None
      → (some parts ≡ false → read rest ≡ None)
      → comma_list read here ≡ (parts, rest)
  unfolding comma_list
  listed_exact short NoTrees here rest known f d h s stop none =
      ap (λ (x : List Token). row_on (row (after_comma read)) NoTrees x (read x)) h ∙ ap (row_on (row (after_comma read)) NoTrees rest) (none refl)
  listed_exact short (Then before last) here rest known f d h s stop none =
      list_comes short before last here rest known f d h s ∙ row_quits (after_comma read) (Then before last) rest stop

-- ---- what closes

pub sized_exact : (names : Names) (K : List Token → Type 0) → IsSpelled names K → (depth : ℕ) (r : Reads)
    → ExactBy names K Constants depth (r Constants)
    → ((ts : List Token) → Shuts ts → r Constants ts ≡ None) → (make : OptionalTree → Tree) (size : OptionalTree) (ts rest : List Token) → K ts
    → OptionalFits names.is_type (Fits names) Constants size ts → optional_depth size ≤ depth
    → Takes (optional_tokens size ++ kind.Mark mark.CloseBracket ∷ []) ts rest
    → size_behind make r ts ≡ Some (make size, rest)
unfolding size_behind behind_size
sized_exact names K spelled depth r exact none make size ts rest known f d h =
    let p = parts_at (optional_tokens size) (kind.Mark mark.CloseBracket) [] ts rest h in
    let stop = stops_on Constants (kind.Mark mark.CloseBracket) p.token p.after p.kind refl in
    let o = optional_exact names K spelled Constants depth (r Constants) exact size ts (p.token ∷ p.after) known f d p.left stop (none (p.token ∷ p.after) (shuts_on (kind.Mark mark.CloseBracket) p.token p.after p.kind refl)) in
    let c = after_taken is_bracket (kind.Mark mark.CloseBracket) (p.token ∷ p.after) rest refl (p.kind, p.right) in
    rw (o, c) refl

-- `, ...` or nothing, before the parenthesis that closes
pub varied_exact : (parameters : Trees) (variadic : Bool) (ts : List Token) (c : Token) (rest : List Token)
    → may_be_variadic parameters variadic ≡ true
    → Takes (variadic_tokens variadic) ts (c ∷ rest) → c.kind ≡ kind.Mark mark.CloseParen → variadic_at parameters ts ≡ (variadic, c ∷ rest)
unfolding variadic_at
varied_exact parameters true [] c rest m h k = absurd h
varied_exact parameters true (t ∷ ts) c rest m h k =
    let comma = after_taken is_comma (kind.Mark mark.Comma) (t ∷ ts) ts refl (h.0, refl) in
    let dots = after_taken is_ellipsis (kind.Mark mark.Ellipsis) ts (c ∷ rest) refl h.1 in
    rw (m, comma, dots) refl
varied_exact NoTrees false ts c rest m h k = ap (λ (x : List Token). let y : Bool × List Token = (false, x) in y) h
varied_exact (Then before last) false ts c rest m h k =
    let none : after is_comma (c ∷ rest) ≡ None = after_other is_comma (kind.Mark mark.CloseParen) c rest k refl in
    ap (λ (x : List Token). found_in (option_and_then (after is_ellipsis) (after is_comma x)) x) h ∙ ap (λ (x : Option (List Token)). found_in (option_and_then (after is_ellipsis) x) (c ∷ rest)) none
