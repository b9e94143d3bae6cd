-- A declaration, and the head of a function: what is spelled so is read.
use Rattle.std.proofs.Common.{◌≡◌, ◌≤◌, ◌<◌, ℕ, zero, suc, Bool, true, false, cond, List, [], ◌∷◌, ◌++◌, length, Option, Some, None, option_map, option_and_then, refl, sym, ap, subst, ◌∙◌, arith}
use Rattle.std.proofs.lemmas.Bool.{and_parts, false≢true}
use Rattle.pv_token.specs.declared.token_table.Token.{Token}
use Rattle.pv_token.specs.declared.token_table.TokenKind.{TokenKind}
use Rattle.pv_token.specs.declared.token_table.TokenKind.TheVariants as kind
use Rattle.pv_token.specs.declared.marks.Mark.TheVariants as mark
use Rattle.pv_tree.specs.Syntax.{DeclarationTree, Declaration, Parameter, DeclaratorTree, Tree, OfDeclaration, OfDeclarator, Trees, NoTrees, Then, OptionalTree, Absent, Present}
use Rattle.pv_tree.specs.Depths.{declaration_depth, declarator_depth, trees_depth}
use Rattle.pv_tree.specs.Spelling.{declaration_tokens, declarator_tokens, trees_tokens, listed_tokens}
use Rattle.pv_tree.specs.Grammar.{line_here}
use Rattle.pv_tree.specs.Spells.{Names, Fits}
use Rattle.pv_tree.specs.Places.{Specifiers, InitDeclarators, MemberDeclarators, Initializers, is_named, some}
use Rattle.pv_tree.specs.Fitting.{DeclarationFits, DeclaratorFits, RowFits, ListFits, past}
use Rattle.pv_expr_forms.specs.Follows.{or_else}
use Rattle.pv_expr_forms.proofs.Runs.{Takes, takes_parts, takes_rest, takes_length, parts_at}
use Rattle.pv_expr_forms.proofs.Heads.{IsSpelled}
use Rattle.pv_decl_forms.specs.Pieces.{Piece, Reads, is_semicolon, is_equals, part_if_any, value, row_on, row, after_comma, comma_list}
use Rattle.pv_decl_forms.specs.Grammar.{opens_block, is_declared}
use Rattle.pv_decl_forms.specs.Reader.{semicolon_behind, declarator_and_value, init_declarator, leaves, with_parts, readers, behind_declarators, after_declarator, after_specifiers, declaration_with, declaration}
use Rattle.pv_decl_forms.proofs.Marks.{after_taken, after_other, open_brace_is}
use Rattle.pv_decl_forms.proofs.Goods.{known_behind, comma_shortens}
use Rattle.pv_decl_forms.proofs.Stops.{Stops, closes_on, row_quits}
use Rattle.pv_decl_forms.proofs.Beginnings.{First, first_token, first_declared}
use Rattle.pv_decl_forms.proofs.Exacts.{no_comma}
use Rattle.pv_decl_forms.proofs.Closings.{semicolon_ends, list_ended}
use Rattle.pv_decl_forms.proofs.Wholes.{IsExact, of_parts, on_line}
use Rattle.pv_decl_forms.proofs.Specified.{specs_exact, specs_closed}
use Rattle.pv_decl_forms.proofs.Everywhere.{readers_exact}

-- an init-declarator is read from its declarator on
pub init_by : (names : Names) (depth : ℕ) (ts : List Token) → readers names depth InitDeclarators ts ≡ init_declarator (readers names depth) ts
unfolding readers with_parts init_declarator leaves declarator_and_value
init_by names zero ts = refl
init_by names (suc depth) ts = refl

-- no semicolon stands here
no_semicolon_at : (names : Names) (line : ℕ) (specs : Trees) (t : Token) (ts : List Token) → First names t.kind
    → semicolon_behind (Declaration line specs NoTrees) (t ∷ ts) ≡ None
unfolding semicolon_behind
no_semicolon_at names line specs t ts f =
    ap (λ (b : Bool). option_map (λ (y : List Token). let z : Tree × List Token = (OfDeclaration (Declaration line specs NoTrees), y) in z) (cond b (Some ts) None)) f.no_semicolon

-- before a block stands no value, and no comma
value_blocked : (read : List Token → Piece) (ts : List Token) → opens_block ts ≡ true → value read ts ≡ (Absent, ts)
unfolding value
value_blocked read [] e = refl
value_blocked read (t ∷ ts) e =
    ap (λ (o : Option (List Token)). part_if_any (t ∷ ts) (option_and_then read o)) (after_other is_equals (kind.Mark mark.OpenBrace) t ts (open_brace_is t.kind e) refl)

row_blocked : (read : List Token → Piece) (before : Trees) (ts : List Token) → opens_block ts ≡ true → row (after_comma read) before ts ≡ (before, ts)
row_blocked read before [] e = absurd cc
row_blocked read before (t ∷ ts) e = row_quits (after_comma read) before (t ∷ ts) (no_comma read (kind.Mark mark.OpenBrace) t ts (open_brace_is t.kind e) refl)

block_no_semicolon : (ts : List Token) (t : Token) (us : List Token) → opens_block ts ≡ true → ts ≡ t ∷ us → t.kind ≡ kind.Mark mark.Semicolon → ⊥
block_no_semicolon [] t us o e k = absurd cc
block_no_semicolon (u ∷ ts) t us o e k =
    let same : u ≡ t = cc in
    let brace = open_brace_is u.kind o in
    let clash : kind.Mark mark.OpenBrace ≡ kind.Mark mark.Semicolon = sym brace ∙ ap (λ (x : Token). x.kind) same ∙ k in
    absurd cc

some_before : (rest mid : List Token) (ks : List TokenKind) → opens_block rest ≡ true → Takes ks mid rest → 0 < length mid
some_before [] mid ks o h = absurd cc
some_before (t ∷ ts) mid ks o h = omega (arith, takes_length ks mid (t ∷ ts) h)

block_stops : (ts : List Token) → opens_block ts ≡ true → Stops MemberDeclarators ts
block_stops [] e = tt
block_stops (t ∷ ts) e = let brace = open_brace_is t.kind e in rw brace refl

module _ (names : Names) (K : List Token → Type 0) (spelled : IsSpelled names K) (depth : ℕ) where
  abbrev r : Reads
  r = readers names depth

  exact : IsExact names K depth of_parts (readers names depth)
  exact = readers_exact names K spelled depth

  -- declarators behind specifiers, to a semicolon
  list_by : (line : ℕ) (specs declarators : Trees) (mid : List Token) (t : Token) (ts : List Token) (block : Bool) (y : Tree × List Token)
      → opens_block y.1 ≡ block → t.kind ≡ kind.Mark mark.Semicolon
      → row (after_comma (r InitDeclarators)) (Then NoTrees (declarator_and_value r (line_here mid) y.0 y.1).0) (declarator_and_value r (line_here mid) y.0 y.1).1 ≡ (declarators, t ∷ ts)
      → after_declarator r line (line_here mid) specs y.0 y.1 ≡ Some (OfDeclaration (Declaration line specs declarators), ts)
  unfolding after_declarator declarator_and_value behind_declarators semicolon_behind
  list_by line specs declarators mid t ts true y o k e =
      let v = value_blocked (r Initializers) y.1 o in
      let left : (value (r Initializers) y.1).1 ≡ y.1 = ap (λ (z : OptionalTree × List Token). z.1) v in
      let stop = row_blocked (r InitDeclarators) (Then NoTrees (declarator_and_value r (line_here mid) y.0 y.1).0) (value (r Initializers) y.1).1 (ap opens_block left ∙ o) in
      absurd (block_no_semicolon (value (r Initializers) y.1).1 t ts (ap opens_block left ∙ o) (ap (λ (z : Trees × List Token). z.1) (sym stop ∙ e)) k)
  list_by line specs declarators mid t ts false y o k e =
      let c = after_taken is_semicolon (kind.Mark mark.Semicolon) (t ∷ ts) ts refl (k, refl) in
      rw (o, e, c) refl

  listed_by : (line : ℕ) (specs declarators : Trees) (mid : List Token) (t : Token) (ts : List Token) (o : Piece) → r MemberDeclarators mid ≡ o
      → some declarators ≡ true
      → t.kind ≡ kind.Mark mark.Semicolon
      → row_on (row (after_comma (r InitDeclarators))) NoTrees mid (option_map (λ y. declarator_and_value r (line_here mid) y.0 y.1) o) ≡ (declarators, t ∷ ts)
      → option_and_then (λ y. after_declarator r line (line_here mid) specs y.0 y.1) o ≡ Some (OfDeclaration (Declaration line specs declarators), ts)
  listed_by line specs declarators mid t ts None is has k e =
      let none : false ≡ true = ap (λ (z : Trees × List Token). some z.0) e ∙ has in
      absurd cc
  listed_by line specs declarators mid t ts (Some y) is has k e = list_by line specs declarators mid t ts (opens_block y.1) y refl k e

  list_read : (line : ℕ) (specs declarators : Trees) (mid : List Token) (t : Token) (ts : List Token) → some declarators ≡ true
      → t.kind ≡ kind.Mark mark.Semicolon
      → comma_list (r InitDeclarators) mid ≡ (declarators, t ∷ ts)
      → option_and_then (λ y. after_declarator r line (line_here mid) specs y.0 y.1) (r MemberDeclarators mid) ≡ Some (OfDeclaration (Declaration line specs declarators), ts)
  unfolding comma_list init_declarator
  list_read line specs declarators mid t ts has k e =
      listed_by line specs declarators mid t ts (r MemberDeclarators mid) refl has k
      (ap (row_on (row (after_comma (r InitDeclarators))) NoTrees mid) (sym (init_by names depth mid)) ∙ e)

  -- ---- the forms

  module _ (line : ℕ) (specs : Trees) (here : List Token) (known : K here) (e : line ≡ line_here here) (has : some specs ≡ true)
      (f : RowFits names.is_type (Fits names) Specifiers specs here) (d : trees_depth specs ≤ depth) where
    read_specs : (mid : List Token) (a : Tree) (rest : List Token) → row (r Specifiers) NoTrees here ≡ (specs, mid)
        → after_specifiers r (line_here here) specs mid ≡ Some (a, rest) → declaration names (suc depth) here ≡ Some (a, rest)
    unfolding declaration declaration_with
    read_specs mid a rest s h = rw (s, has) h

    alone_read : (rest : List Token) → Takes ((trees_tokens specs ++ []) ++ kind.Mark mark.Semicolon ∷ []) here rest
        → declaration names (suc depth) here ≡ Some (OfDeclaration (Declaration line specs NoTrees), rest)
    unfolding after_specifiers semicolon_behind
    alone_read rest h =
        let p = parts_at (trees_tokens specs ++ []) (kind.Mark mark.Semicolon) [] here rest h in
        let q = takes_parts (trees_tokens specs) [] here (p.token ∷ p.after) p.left in
        let run : Takes (trees_tokens specs) here (p.token ∷ p.after) = rw q.2 at q.1 in
        let s = specs_closed names K spelled depth r exact specs here (p.token ∷ p.after) known f d run (closes_on (kind.Mark mark.Semicolon) p.token p.after p.kind refl) in
        let c = after_taken is_semicolon (kind.Mark mark.Semicolon) (p.token ∷ p.after) rest refl (p.kind, p.right) in
        on_line (λ n. OfDeclaration (Declaration n specs NoTrees)) line (line_here here) rest _ e
        (read_specs (p.token ∷ p.after) (OfDeclaration (Declaration (line_here here) specs NoTrees)) rest s (rw c refl))

    -- behind the specifiers, once it is known what begins
    goes_by : (mid : List Token) (rest : List Token) (a : Tree) → (some_left : 0 < length mid)
        → ((t : Token) (ts : List Token) → mid ≡ t ∷ ts → First names t.kind)
        → Takes (trees_tokens specs) here mid
        → option_and_then (λ y. after_declarator r (line_here here) (line_here mid) specs y.0 y.1) (r MemberDeclarators mid) ≡ Some (a, rest)
        → declaration names (suc depth) here ≡ Some (a, rest)
    unfolding after_specifiers
    goes_by [] rest a left first h g = absurd (omega (arith, left))
    goes_by (t ∷ ts) rest a left first h g =
        let k = first t ts refl in
        let s = specs_exact names K spelled depth r of_parts exact refl specs here (t ∷ ts) known f d h k.not_brace k.no_type in
        read_specs (t ∷ ts) a rest s (ap (λ (o : Piece). or_else o (option_and_then (λ y. after_declarator r (line_here here) (line_here (t ∷ ts)) specs y.0 y.1) (r MemberDeclarators (t ∷ ts)))) (no_semicolon_at names (line_here here) specs t ts k) ∙ g)

    list_whole : (declarators : Trees) (rest : List Token) → some declarators ≡ true
        → ListFits names.is_type (Fits names) InitDeclarators declarators (past (trees_tokens specs) here)
        → trees_depth declarators ≤ depth → Takes ((trees_tokens specs ++ listed_tokens declarators) ++ kind.Mark mark.Semicolon ∷ []) here rest
        → declaration names (suc depth) here ≡ Some (OfDeclaration (Declaration line specs declarators), rest)
    list_whole declarators rest more g k h =
        let p = parts_at (trees_tokens specs ++ listed_tokens declarators) (kind.Mark mark.Semicolon) [] here rest h in
        let q = takes_parts (trees_tokens specs) (listed_tokens declarators) here (p.token ∷ p.after) p.left in
        let at = takes_rest (trees_tokens specs) here q.0 q.1 in
        let g' = subst (λ (y : List Token). ListFits names.is_type (Fits names) InitDeclarators declarators y) at g in
        let known' = known_behind names K spelled (trees_tokens specs) here q.0 q.1 known in
        let l = list_ended names K spelled InitDeclarators depth (r InitDeclarators) (exact.exact InitDeclarators refl) (exact.shut InitDeclarators) (comma_shortens names K spelled depth r exact.sound InitDeclarators)
        declarators q.0 (p.token ∷ p.after) known' g' k q.2 (semicolon_ends (r InitDeclarators) p.token p.after p.kind) in
        on_line (λ n. OfDeclaration (Declaration n specs declarators)) line (line_here here) rest _ e
        (goes_by q.0 rest (OfDeclaration (Declaration (line_here here) specs declarators)) (omega (arith, takes_length (listed_tokens declarators) q.0 (p.token ∷ p.after) q.2))
        (λ t ts is. first_declared names declarators t ts (p.token ∷ p.after) more (rw is at g') (rw is at q.2)) q.1
        (list_read (line_here here) specs declarators q.0 p.token p.after more p.kind l ∙ ap (λ (y : List Token). let z : Piece = Some (OfDeclaration (Declaration (line_here here) specs declarators), y) in z) p.right))

    head_whole : (m : DeclaratorTree) (rest : List Token) → is_named m ≡ true → opens_block rest ≡ true
        → DeclaratorFits names.is_type (Fits names) m (past (trees_tokens specs) here)
        → declarator_depth m ≤ depth → Takes (trees_tokens specs ++ declarator_tokens m) here rest
        → declaration names (suc depth) here ≡ Some (OfDeclaration (Parameter line specs (Present (OfDeclarator m))), rest)
    unfolding after_declarator
    head_whole m rest named block g k h =
        let q = takes_parts (trees_tokens specs) (declarator_tokens m) here rest h in
        let at = takes_rest (trees_tokens specs) here q.0 q.1 in
        let g' = subst (λ (y : List Token). DeclaratorFits names.is_type (Fits names) m y) at g in
        let known' = known_behind names K spelled (trees_tokens specs) here q.0 q.1 known in
        let b = exact.exact MemberDeclarators refl (OfDeclarator m) q.0 rest known' named g' k q.2 (block_stops rest block) in
        on_line (λ n. OfDeclaration (Parameter n specs (Present (OfDeclarator m)))) line (line_here here) rest _ e
        (goes_by q.0 rest (OfDeclaration (Parameter (line_here here) specs (Present (OfDeclarator m)))) (some_before rest q.0 (declarator_tokens m) block q.2)
        (λ t ts is. first_token names m t ts rest (rw is at g') (rw is at q.2)) q.1
        (rw (b, block) refl))

-- ---- a declaration, or the head of a function

pub declaration_exact : (names : Names) (K : List Token → Type 0) → IsSpelled names K → (deep : ℕ) (d : DeclarationTree) (here rest : List Token)
    → K here → is_declared d rest ≡ true
    → DeclarationFits names.is_type (Fits names) d here → declaration_depth d ≤ deep → Takes (declaration_tokens d) here rest
    → declaration names deep here ≡ Some (OfDeclaration d, rest)
declaration_exact names K spelled zero (Declaration line specs declarators) here rest known s f d h = absurd (omega (arith, d))
declaration_exact names K spelled zero (Parameter line specs (Present (OfDeclarator m))) here rest known s f d h = absurd (omega (arith, d))
declaration_exact names K spelled (suc depth) (Declaration line specs NoTrees) here rest known s f d h =
    alone_read names K spelled depth line specs here known f.0 f.1 f.2 (omega (arith, d)) rest h
declaration_exact names K spelled (suc depth) (Declaration line specs (Then before last)) here rest known s f d h =
    list_whole names K spelled depth line specs here known f.0 f.1 f.2 (omega (arith, d)) (Then before last) rest refl f.3 (omega (arith, d)) h
declaration_exact names K spelled (suc depth) (Parameter line specs (Present (OfDeclarator m))) here rest known s f d h =
    let both = and_parts (is_named m) (opens_block rest) s in
    head_whole names K spelled depth line specs here known f.0 f.1 f.2 (omega (arith, d)) m rest both.0 both.1 f.3.1 (omega (arith, d)) h
declaration_exact names K spelled deep _ here rest known s f d h = absurd (false≢true s)
