-- Nodes that are spelled so are read: specifiers, parameters, initializers and constants.
use Rattle.std.proofs.Common.{◌≡◌, ◌≤◌, ℕ, suc, max, Bool, true, false, cond, List, [], ◌∷◌, ◌++◌, drop, Option, Some, None, option_map, refl, ap, subst, ◌∙◌, arith}
use Rattle.std.proofs.lemmas.Bool.{leb-true}
use Rattle.pv_token.specs.declared.token_table.Token.{Token}
use Rattle.pv_token.specs.declared.token_table.TokenKind.{TokenKind}
use Rattle.pv_token.specs.declared.token_table.TokenKind.TheVariants as kind
use Rattle.pv_token.specs.declared.words.Word.{Word}
use Rattle.pv_token.specs.declared.words.Word.TheVariants as word
use Rattle.pv_token.specs.declared.marks.Mark.TheVariants as mark
use Rattle.pv_tree.specs.Syntax.{ExpressionTree, Parameter, SpecifierTree, Keyword, Composite, Enumeration, Tag, TypedefName, InitializerTree, Initial, Braces, Tree, OfExpression, OfDeclaration, OfSpecifier, OfInitializer, Trees, OptionalTree}
use Rattle.pv_tree.specs.Depths.{expression_depth, specifier_depth, initializer_depth, trees_depth, optional_depth}
use Rattle.pv_tree.specs.Levels.{rank}
use Rattle.pv_tree.specs.Spelling.{expression_tokens, specifier_tokens, initializer_tokens, trees_tokens, listed_tokens, optional_tokens, tag_tokens, comma_tokens}
use Rattle.pv_tree.specs.Grammar.{line_here}
use Rattle.pv_tree.specs.Spells.{Names, Fits}
use Rattle.pv_tree.specs.Places.{Specifiers, Members, Enumerators, Initializers, Constants, ParameterDeclarators, stands, is_plain_word, is_composite_word, is_tag_word, some}
use Rattle.pv_tree.specs.Fitting.{SpecifierFits, InitializerFits, RowFits, ListFits, OptionalFits, past}
use Rattle.pv_expr_forms.specs.Reader.{after, read}
use Rattle.pv_expr_forms.proofs.Runs.{Takes, takes_length}
use Rattle.pv_expr_forms.proofs.Trees.{some_tokens}
use Rattle.pv_expr_forms.proofs.Heads.{IsSpelled}
use Rattle.pv_expr_forms.proofs.Wholes.{exact_by}
use Rattle.pv_expr_forms.proofs.Whole.{whole}
use Rattle.pv_decl_forms.specs.declared.forms.Form.TheVariants as form
use Rattle.pv_decl_forms.specs.Pieces.{Reads, is_open_brace, row}
use Rattle.pv_decl_forms.specs.Reader.{tag_at, behind_open_brace, with_tag, specifier_of, specifier, parameter, initializer}
use Rattle.pv_decl_forms.proofs.Marks.{open_brace_taken, tag_taken}
use Rattle.pv_decl_forms.proofs.Goods.{known_behind, part_shortens, comma_shortens}
use Rattle.pv_decl_forms.proofs.Stops.{Stops, Closes, closes_ends, read_brace, brace_not}
use Rattle.pv_decl_forms.proofs.Closings.{braces_exact, row_braces_exact}
use Rattle.pv_decl_forms.proofs.Wholes.{IsExact, of_parts, on_line}
use Rattle.pv_decl_forms.proofs.Specified.{members_start, tag_there, Opened, opened_at, composite_word, tag_word, specified_exact}

-- ---- specifiers without braces

module _ (names : Names) (r : Reads) where
  specifier_as : (t : Token) (ts : List Token) (k : TokenKind) → t.kind ≡ k → specifier names r (t ∷ ts) ≡ specifier_of names r t.line k ts
  unfolding specifier
  specifier_as t ts k e = ap (λ (y : TokenKind). specifier_of names r t.line y ts) e

  pub keyword_exact : (w : Word) (t : Token) (ts rest : List Token) → is_plain_word w ≡ true → Takes (kind.Word w ∷ []) (t ∷ ts) rest
      → specifier names r (t ∷ ts) ≡ Some (OfSpecifier (Keyword t.line w), rest)
  unfolding specifier_of
  keyword_exact w t ts rest p h = specifier_as t ts (kind.Word w) h.0 ∙ rw (p, h.1) refl

  pub typedef_exact : (n : ℕ) (t : Token) (ts rest : List Token) → names.is_type n ≡ true → Takes (kind.Name n ∷ []) (t ∷ ts) rest
      → specifier names r (t ∷ ts) ≡ Some (OfSpecifier (TypedefName t.line n), rest)
  unfolding specifier_of
  typedef_exact n t ts rest p h = specifier_as t ts (kind.Name n) h.0 ∙ rw (p, h.1) refl

  -- a word that a tag follows
  pub tagged_as : (w : Word) (t : Token) (ts : List Token) → is_plain_word w ≡ false → is_tag_word w ≡ true → t.kind ≡ kind.Word w
      → specifier names r (t ∷ ts) ≡ with_tag r t.line w (tag_at ts)
  unfolding specifier_of
  tagged_as w t ts p q e = specifier_as t ts (kind.Word w) e ∙ rw (p, q) refl

  no_brace_after : (ts : List Token) → Stops Specifiers ts → after is_open_brace ts ≡ None
  no_brace_after [] s = refl
  no_brace_after (t ∷ ts) s = ap (λ (b : Bool). cond b (Some ts) None) (brace_not t.kind s)

  pub tag_alone_exact : (w : Word) (n : ℕ) (t : Token) (ts rest : List Token) → is_tag_word w ≡ true
      → Takes (kind.Word w ∷ kind.Name n ∷ []) (t ∷ ts) rest → Stops Specifiers rest
      → specifier names r (t ∷ ts) ≡ Some (OfSpecifier (Tag t.line w n), rest)
  unfolding with_tag
  tag_alone_exact w n t ts rest tag h s =
      tagged_as w t ts (tag_word w tag) tag h.0 ∙ rw (tag_there n ts rest h.1, no_brace_after rest s) refl

-- a tag alone ends where no braces begin
abbrev pub TagEnds : SpecifierTree → List Token → Type 0
TagEnds (Tag line w n) rest = Stops Specifiers rest
TagEnds _ rest = Unit {0}

pub tag_ends : (s : SpecifierTree) (rest : List Token) → Stops Specifiers rest → TagEnds s rest
tag_ends (Keyword line w) rest h = tt
tag_ends (Composite line w tag members) rest h = tt
tag_ends (Enumeration line tag enumerators comma) rest h = tt
tag_ends (Tag line w n) rest h = h
tag_ends (TypedefName line n) rest h = tt

module _ (names : Names) (K : List Token → Type 0) (spelled : IsSpelled names K) (depth : ℕ) (r : Reads) (x : IsExact names K depth of_parts r) where
  -- ---- specifiers

  -- with braces
  braced_as : (w : Word) (line : ℕ) (tag : Option ℕ) (ks : List TokenKind) (ts rest : List Token) (o : Opened tag ks ts rest) (y : Tree × List Token)
      → behind_open_brace r line w tag o.inner ≡ Some y → with_tag r line w (tag_at ts) ≡ Some y
  unfolding with_tag
  braced_as w line tag ks ts rest o y e = rw (o.brace, o.tag_is, e) refl

  braced_members : (w : Word) (line : ℕ) (tag : Option ℕ) (members : Trees) (ts rest : List Token) → K ts → is_composite_word w ≡ true
      → some members ≡ true
      → RowFits names.is_type (Fits names) Members members ts → trees_depth members ≤ depth
      → Takes (trees_tokens members ++ kind.Mark mark.CloseBrace ∷ []) ts rest
      → behind_open_brace r line w tag ts ≡ Some (OfSpecifier (Composite line w tag members), rest)
  unfolding behind_open_brace
  braced_members word.Struct line tag members ts rest known c has f d h =
      row_braces_exact names K spelled Members depth (r Members) (x.exact Members refl) (x.shut Members) (part_shortens names K spelled depth r x.sound Members) (members_start names)
      (λ ms. OfSpecifier (Composite line word.Struct tag ms)) members ts rest known has f d h
  braced_members word.Union line tag members ts rest known c has f d h =
      row_braces_exact names K spelled Members depth (r Members) (x.exact Members refl) (x.shut Members) (part_shortens names K spelled depth r x.sound Members) (members_start names)
      (λ ms. OfSpecifier (Composite line word.Union tag ms)) members ts rest known has f d h
  braced_members _ line tag members ts rest known c has f d h = absurd cc

  braced_enumerators : (line : ℕ) (tag : Option ℕ) (enumerators : Trees) (comma : Bool) (ts rest : List Token) → K ts → some enumerators ≡ true
      → ListFits names.is_type (Fits names) Enumerators enumerators ts → trees_depth enumerators ≤ depth
      → Takes ((listed_tokens enumerators ++ comma_tokens comma) ++ kind.Mark mark.CloseBrace ∷ []) ts rest
      → behind_open_brace r line word.Enum tag ts ≡ Some (OfSpecifier (Enumeration line tag enumerators comma), rest)
  unfolding behind_open_brace
  braced_enumerators line tag enumerators comma ts rest known has f d h =
      braces_exact names K spelled Enumerators depth (r Enumerators) (x.exact Enumerators refl) (x.shut Enumerators) (comma_shortens names K spelled depth r x.sound Enumerators)
      (λ es c. OfSpecifier (Enumeration line tag es c)) enumerators comma ts rest known has f d h

  -- the tokens in braces are known
  known_inside : (tag : Option ℕ) (ks : List TokenKind) (ts rest : List Token) (o : Opened tag ks ts rest) → K ts → K o.inner
  known_inside tag ks ts rest o known =
      known_behind names K spelled (kind.Mark mark.OpenBrace ∷ []) (tag_at ts).1 o.inner (open_brace_taken (tag_at ts).1 o.inner o.brace)
      (known_behind names K spelled (tag_tokens (tag_at ts).0) ts (tag_at ts).1 (tag_taken ts) known)

  composite_exact : (w : Word) (tag : Option ℕ) (members : Trees) (t : Token) (ts rest : List Token) → K ts → is_composite_word w ≡ true
      → some members ≡ true
      → RowFits names.is_type (Fits names) Members members (drop 1 (past (tag_tokens tag) ts)) → trees_depth members ≤ depth
      → Takes (kind.Word w ∷ (tag_tokens tag ++ (kind.Mark mark.OpenBrace ∷ (trees_tokens members ++ kind.Mark mark.CloseBrace ∷ [])))) (t ∷ ts) rest
      → specifier names r (t ∷ ts) ≡ Some (OfSpecifier (Composite t.line w tag members), rest)
  composite_exact w tag members t ts rest known c has f d h =
      let ks = trees_tokens members ++ kind.Mark mark.CloseBrace ∷ [] in
      let o = opened_at tag ks ts rest h.1 in
      let word = composite_word w c in
      tagged_as names r w t ts word.0 word.1 h.0
      ∙ braced_as w t.line tag ks ts rest o (OfSpecifier (Composite t.line w tag members), rest)
      (braced_members w t.line tag members o.inner rest (known_inside tag ks ts rest o known) c has (subst (λ (y : List Token). RowFits names.is_type (Fits names) Members members y) o.at f) d o.right)

  enumeration_exact : (tag : Option ℕ) (enumerators : Trees) (comma : Bool) (t : Token) (ts rest : List Token) → K ts → some enumerators ≡ true
      → ListFits names.is_type (Fits names) Enumerators enumerators (drop 1 (past (tag_tokens tag) ts)) → trees_depth enumerators ≤ depth
      → Takes (kind.Word word.Enum ∷ (tag_tokens tag ++ (kind.Mark mark.OpenBrace ∷ ((listed_tokens enumerators ++ comma_tokens comma) ++ kind.Mark mark.CloseBrace ∷ [])))) (t ∷ ts) rest
      → specifier names r (t ∷ ts) ≡ Some (OfSpecifier (Enumeration t.line tag enumerators comma), rest)
  enumeration_exact tag enumerators comma t ts rest known has f d h =
      let ks = (listed_tokens enumerators ++ comma_tokens comma) ++ kind.Mark mark.CloseBrace ∷ [] in
      let o = opened_at tag ks ts rest h.1 in
      tagged_as names r word.Enum t ts refl refl h.0
      ∙ braced_as word.Enum t.line tag ks ts rest o (OfSpecifier (Enumeration t.line tag enumerators comma), rest)
      (braced_enumerators t.line tag enumerators comma o.inner rest (known_inside tag ks ts rest o known) has (subst (λ (y : List Token). ListFits names.is_type (Fits names) Enumerators enumerators y) o.at f) d o.right)

  pub specifier_exact : (s : SpecifierTree) (here rest : List Token) → K here → SpecifierFits names.is_type (Fits names) s here
      → specifier_depth s ≤ suc depth
      → Takes (specifier_tokens s) here rest → TagEnds s rest → specifier names r here ≡ Some (OfSpecifier s, rest)
  specifier_exact (Keyword line w) [] rest known f d h s = absurd h
  specifier_exact (Keyword line w) (t ∷ ts) rest known f d h s =
      on_line (λ l. OfSpecifier (Keyword l w)) line t.line rest (specifier names r (t ∷ ts)) f.0 (keyword_exact names r w t ts rest f.1 h)
  specifier_exact (Composite line w tag members) [] rest known f d h s = absurd h
  specifier_exact (Composite line w tag members) (t ∷ ts) rest known f d h s =
      on_line (λ l. OfSpecifier (Composite l w tag members)) line t.line rest (specifier names r (t ∷ ts)) f.0
      (composite_exact w tag members t ts rest (spelled.tail t ts known) f.1 f.2 f.3 (omega (arith, d)) h)
  specifier_exact (Enumeration line tag enumerators comma) [] rest known f d h s = absurd h
  specifier_exact (Enumeration line tag enumerators comma) (t ∷ ts) rest known f d h s =
      on_line (λ l. OfSpecifier (Enumeration l tag enumerators comma)) line t.line rest (specifier names r (t ∷ ts)) f.0
      (enumeration_exact tag enumerators comma t ts rest (spelled.tail t ts known) f.1 f.2 (omega (arith, d)) h)
  specifier_exact (Tag line w n) [] rest known f d h s = absurd h
  specifier_exact (Tag line w n) (t ∷ ts) rest known f d h s =
      on_line (λ l. OfSpecifier (Tag l w n)) line t.line rest (specifier names r (t ∷ ts)) f.0 (tag_alone_exact names r w n t ts rest f.1 h s)
  specifier_exact (TypedefName line n) [] rest known f d h s = absurd h
  specifier_exact (TypedefName line n) (t ∷ ts) rest known f d h s =
      on_line (λ l. OfSpecifier (TypedefName l n)) line t.line rest (specifier names r (t ∷ ts)) f.0 (typedef_exact names r n t ts rest f.1 h)

  -- ---- parameters

  pub parameter_exact : (line : ℕ) (specs : Trees) (o : OptionalTree) (here rest : List Token) → K here → line ≡ line_here here → some specs ≡ true
      → RowFits names.is_type (Fits names) Specifiers specs here
      → OptionalFits names.is_type (Fits names) ParameterDeclarators o (past (trees_tokens specs) here)
      → max (trees_depth specs) (optional_depth o) ≤ depth → Takes (trees_tokens specs ++ optional_tokens o) here rest → Closes rest
      → parameter r here ≡ Some (OfDeclaration (Parameter line specs o), rest)
  unfolding parameter
  parameter_exact line specs o here rest known e has row fits deep h c =
      on_line (λ l. OfDeclaration (Parameter l specs o)) line (line_here here) rest _ e
      (specified_exact names K spelled depth r x form.Either (Parameter (line_here here)) specs o here rest known has row fits deep h c)

  -- ---- initializers

  no_brace_by : (b : Bool) (t : Token) (ts : List Token) (y : ExpressionTree × List Token) → is_open_brace t.kind ≡ b
      → read names depth 2 (t ∷ ts) ≡ Some y → b ≡ false
  no_brace_by false t ts y e h = refl
  no_brace_by true t ts y e h = absurd (let none = read_brace names depth 2 t ts e in cc)

  initial_exact : (a : ExpressionTree) (t : Token) (ts rest : List Token) → 2 ≤ rank a → Fits names a (t ∷ ts) → expression_depth a ≤ depth
      → Takes (expression_tokens a) (t ∷ ts) rest
      → Closes rest → initializer names r depth (t ∷ ts) ≡ Some (OfInitializer (Initial t.line a), rest)
  unfolding initializer
  initial_exact a t ts rest l f d h c =
      let e = exact_by names a (t ∷ ts) rest (whole names a (t ∷ ts) f rest h) depth 2 l d (closes_ends 2 rest (omega arith) c) in
      rw (no_brace_by (is_open_brace t.kind) t ts (a, rest) refl e, e) refl

  inits_exact : (inits : Trees) (comma : Bool) (t : Token) (ts rest : List Token) → K ts → t.kind ≡ kind.Mark mark.OpenBrace → some inits ≡ true
      → ListFits names.is_type (Fits names) Initializers inits ts → trees_depth inits ≤ depth
      → Takes ((listed_tokens inits ++ comma_tokens comma) ++ kind.Mark mark.CloseBrace ∷ []) ts rest
      → initializer names r depth (t ∷ ts) ≡ Some (OfInitializer (Braces t.line inits comma), rest)
  unfolding initializer
  inits_exact inits comma t ts rest known k has f d h =
      let brace : is_open_brace t.kind ≡ true = ap is_open_brace k in
      rw brace (braces_exact names K spelled Initializers depth (r Initializers) (x.exact Initializers refl) (x.shut Initializers) (comma_shortens names K spelled depth r x.sound Initializers)
      (λ is c. OfInitializer (Braces t.line is c)) inits comma ts rest known has f d h)

  pub initializer_exact : (i : InitializerTree) (here rest : List Token) → K here → InitializerFits names.is_type (Fits names) i here
      → initializer_depth i ≤ suc depth
      → Takes (initializer_tokens i) here rest → Closes rest → initializer names r depth here ≡ Some (OfInitializer i, rest)
  initializer_exact (Initial line a) [] rest known f d h c = absurd (omega (arith, some_tokens a, takes_length (expression_tokens a) [] rest h))
  initializer_exact (Initial line a) (t ∷ ts) rest known f d h c =
      on_line (λ l. OfInitializer (Initial l a)) line t.line rest (initializer names r depth (t ∷ ts)) f.0 (initial_exact a t ts rest f.1 f.2 (omega (arith, d)) h c)
  initializer_exact (Braces line inits comma) [] rest known f d h c = absurd h
  initializer_exact (Braces line inits comma) (t ∷ ts) rest known f d h c =
      on_line (λ l. OfInitializer (Braces l inits comma)) line t.line rest (initializer names r depth (t ∷ ts)) f.0
      (inits_exact inits comma t ts rest (spelled.tail t ts known) h.0 f.1 f.2 (omega (arith, d)) h.1)

  -- ---- constants

  pub constant_exact : (a : ExpressionTree) (here rest : List Token) → stands Constants (OfExpression a) ≡ true → Fits names a here
      → expression_depth a ≤ suc depth
      → Takes (expression_tokens a) here rest → Closes rest → option_map {U = Tree × List Token} (λ y. (OfExpression y.0, y.1)) (read names (suc depth) 3 here) ≡ Some (OfExpression a, rest)
  constant_exact a here rest s f d h c =
      let e = exact_by names a here rest (whole names a here f rest h) (suc depth) 3 (leb-true 3 (rank a) s) d (closes_ends 3 rest (omega arith) c) in
      rw e refl
