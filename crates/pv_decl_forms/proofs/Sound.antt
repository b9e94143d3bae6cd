-- What is read is spelled so.
use Rattle.std.proofs.Common.{◌≡◌, ℕ, zero, suc, Bool, true, false, cond, List, [], ◌∷◌, ◌++◌, drop, Option, Some, None, option_map, option_and_then, refl, sym, ap, subst, ◌∙◌, arith, inl, inr}
use Rattle.std.proofs.lemmas.Bool.{le-leb, false≢true}
use Rattle.std.proofs.lemmas.Option.{none-some}
use Rattle.pv_token.specs.declared.token_table.Token.{Token}
use Rattle.pv_token.specs.declared.token_table.TokenKind.{TokenKind}
use Rattle.pv_token.specs.declared.token_table.TokenKind.TheVariants as kind
use Rattle.pv_token.specs.declared.words.Word.{Word}
use Rattle.pv_token.specs.declared.words.Word.TheVariants as word
use Rattle.pv_token.specs.declared.marks.Mark.TheVariants as mark
use Rattle.pv_tree.specs.Syntax.{ExpressionTree, Parameter, Keyword, Composite, Enumeration, Tag, TypedefName, Initial, Braces, Tree, OfExpression, OfSpecifier, OfInitializer, NoTrees}
use Rattle.pv_tree.specs.Levels.{rank}
use Rattle.pv_tree.specs.Spelling.{trees_tokens, listed_tokens, comma_tokens, tag_tokens}
use Rattle.pv_tree.specs.Grammar.{line_here}
use Rattle.pv_tree.specs.Spells.{Names, Fits}
use Rattle.pv_tree.specs.Places.{Place, Specifiers, Members, MemberDeclarators, Enumerators, Parameters, Initializers, Constants, AbstractDeclarators, ParameterDeclarators, is_plain_word, is_composite_word, is_tag_word}
use Rattle.pv_tree.specs.Fitting.{RowFits, ListFits, past}
use Rattle.pv_expr_forms.specs.Reader.{after, read}
use Rattle.pv_expr_forms.proofs.Runs.{Takes, takes_then, takes_rest}
use Rattle.pv_expr_forms.proofs.Steps.{mapped, followed}
use Rattle.pv_expr_forms.proofs.Trees.{some_tokens}
use Rattle.pv_expr_forms.proofs.Heads.{IsSpelled}
use Rattle.pv_expr_forms.proofs.Sound.{read_sound}
use Rattle.pv_decl_forms.specs.declared.forms.Form.TheVariants as form
use Rattle.pv_decl_forms.specs.Pieces.{Piece, Reads, is_open_brace, row, comma_list}
use Rattle.pv_decl_forms.specs.Reader.{listed_in_braces, row_in_braces, tag_at, tag_alone, behind_open_brace, with_tag, specifier_of, specifier, parameter, initializer, node_readers, nothing, leaves, readers}
use Rattle.pv_decl_forms.proofs.Marks.{open_brace_taken, open_brace_is, tag_taken}
use Rattle.pv_decl_forms.proofs.Steps.{piece_is}
use Rattle.pv_decl_forms.proofs.Goods.{Good, IsSound, good_at, known_behind, row_good, listed_good}
use Rattle.pv_decl_forms.proofs.Directs.{declarator_good}
use Rattle.pv_decl_forms.proofs.Stops.{row_quits}
use Rattle.pv_decl_forms.proofs.Parts.{braced_is, row_braced_is, takes_listed, or_else_is, specified_good, parts_sound}

module _ (names : Names) (K : List Token → Type 0) (spelled : IsSpelled names K) where
  -- specifiers, whose braces are spelled so
  module _ (top : ℕ) (r : Reads) (braces : (w : Word) (t : Token) (ts mid : List Token) (a : Tree) (rest : List Token) → is_tag_word w ≡ true → t.kind ≡ kind.Word w → K mid
      → after is_open_brace (tag_at ts).1 ≡ Some mid → behind_open_brace r t.line w (tag_at ts).0 mid ≡ Some (a, rest) → Good names Specifiers top (t ∷ ts) a rest) where
    alone_good : (w : Word) (t : Token) (ts : List Token) (o : Option ℕ) (a : Tree) (rest : List Token) → is_tag_word w ≡ true → t.kind ≡ kind.Word w
        → (tag_at ts).0 ≡ o → tag_alone t.line w o (tag_at ts).1 ≡ Some (a, rest) → Good names Specifiers top (t ∷ ts) a rest
    alone_good w t ts None a rest tag is o e = absurd cc
    alone_good w t ts (Some n) a rest tag is o e =
        good_at names Specifiers top (t ∷ ts) (OfSpecifier (Tag t.line w n), (tag_at ts).1) a rest (piece_is _ _ _ _ e) (record {
          stand = refl;
          fits = (refl, tag);
          shallow = omega arith;
          spells = omega arith;
          takes = (is, subst (λ (x : Option ℕ). Takes (tag_tokens x) ts (tag_at ts).1) o (tag_taken ts));
        })

    tagged_good : (w : Word) (t : Token) (ts : List Token) (a : Tree) (rest : List Token) → is_tag_word w ≡ true → t.kind ≡ kind.Word w → K ts
        → with_tag r t.line w (tag_at ts) ≡ Some (a, rest) → Good names Specifiers top (t ∷ ts) a rest
    unfolding with_tag
    tagged_good w t ts a rest tag is known e =
        let x = tag_at ts in
        elim (or_else_is (option_and_then (behind_open_brace r t.line w x.0) (after is_open_brace x.1)) (tag_alone t.line w x.0 x.1) (a, rest) e) [
          | inl b ↦
              let m = followed (behind_open_brace r t.line w x.0) (after is_open_brace x.1) (a, rest) b in
              let known' = known_behind names K spelled (kind.Mark mark.OpenBrace ∷ []) x.1 m.0 (open_brace_taken x.1 m.0 m.1) (known_behind names K spelled (tag_tokens x.0) ts x.1 (tag_taken ts) known) in
              braces w t ts m.0 a rest tag is known' m.1 m.2
          | inr b ↦ alone_good w t ts x.0 a rest tag is refl b
        ]

    word_good : (b c : Bool) (w : Word) (t : Token) (ts : List Token) (a : Tree) (rest : List Token) → K ts → t.kind ≡ kind.Word w
        → is_plain_word w ≡ b → is_tag_word w ≡ c
        → cond {A = Piece} b (Some (OfSpecifier (Keyword t.line w), ts)) (cond c (with_tag r t.line w (tag_at ts)) None) ≡ Some (a, rest)
        → Good names Specifiers top (t ∷ ts) a rest
    word_good true c w t ts a rest known is p q e =
        good_at names Specifiers top (t ∷ ts) (OfSpecifier (Keyword t.line w), ts) a rest (piece_is _ _ _ _ e) (record { stand = refl; fits = (refl, p); shallow = omega arith; spells = omega arith; takes = (is, refl) })
    word_good false true w t ts a rest known is p q e = tagged_good w t ts a rest q is known e
    word_good false false w t ts a rest known is p q e = absurd cc

    name_good : (b : Bool) (n : ℕ) (t : Token) (ts : List Token) (a : Tree) (rest : List Token) → t.kind ≡ kind.Name n → names.is_type n ≡ b
        → cond {A = Piece} b (Some (OfSpecifier (TypedefName t.line n), ts)) None ≡ Some (a, rest) → Good names Specifiers top (t ∷ ts) a rest
    name_good true n t ts a rest is b e =
        good_at names Specifiers top (t ∷ ts) (OfSpecifier (TypedefName t.line n), ts) a rest (piece_is _ _ _ _ e) (record { stand = refl; fits = (refl, b); shallow = omega arith; spells = omega arith; takes = (is, refl) })
    name_good false n t ts a rest is b e = absurd cc

    specifier_of_good : (k : TokenKind) (t : Token) (ts : List Token) (a : Tree) (rest : List Token) → K ts → t.kind ≡ k
        → specifier_of names r t.line k ts ≡ Some (a, rest)
        → Good names Specifiers top (t ∷ ts) a rest
    unfolding specifier_of
    specifier_of_good (kind.Name n) t ts a rest known is e = name_good (names.is_type n) n t ts a rest is refl e
    specifier_of_good (kind.Word w) t ts a rest known is e = word_good (is_plain_word w) (is_tag_word w) w t ts a rest known is refl refl e
    specifier_of_good _ t ts a rest known is e = absurd (none-some (a, rest) e)

    specifier_good : (ts : List Token) (a : Tree) (rest : List Token) → K ts → specifier names r ts ≡ Some (a, rest)
        → Good names Specifiers top ts a rest
    unfolding specifier
    specifier_good [] a rest known e = absurd cc
    specifier_good (t ∷ ts) a rest known e = specifier_of_good t.kind t ts a rest (spelled.tail t ts known) refl e

  -- ---- nodes

  module _ (depth : ℕ) (r : Reads) (s : IsSound names K depth r) where
    -- the tokens behind a tag and `{`
    inside : (ts mid : List Token) → after is_open_brace (tag_at ts).1 ≡ Some mid → drop 1 (past (tag_tokens (tag_at ts).0) ts) ≡ mid
    inside ts mid e = ap (drop 1) (takes_rest (tag_tokens (tag_at ts).0) ts (tag_at ts).1 (tag_taken ts)) ∙ takes_rest (kind.Mark mark.OpenBrace ∷ []) (tag_at ts).1 mid (open_brace_taken (tag_at ts).1 mid e)

    tag_run : (t : Token) (ts : List Token) (w : Word) (mid : List Token) (ks : List TokenKind) (rest : List Token) → t.kind ≡ kind.Word w
        → after is_open_brace (tag_at ts).1 ≡ Some mid → Takes ks mid rest
        → Takes (kind.Word w ∷ (tag_tokens (tag_at ts).0 ++ (kind.Mark mark.OpenBrace ∷ ks))) (t ∷ ts) rest
    tag_run t ts w mid ks rest is e h = (
      is,
      takes_then (tag_tokens (tag_at ts).0) (kind.Mark mark.OpenBrace ∷ ks) ts (tag_at ts).1 rest (tag_taken ts)
          (takes_then (kind.Mark mark.OpenBrace ∷ []) ks (tag_at ts).1 mid rest (open_brace_taken (tag_at ts).1 mid e) h),
    )

    composite_good : (w : Word) (t : Token) (ts mid : List Token) (a : Tree) (rest : List Token) → is_composite_word w ≡ true → t.kind ≡ kind.Word w
        → K mid
        → after is_open_brace (tag_at ts).1 ≡ Some mid
        → row_in_braces (λ members. OfSpecifier (Composite t.line w (tag_at ts).0 members)) (row (r Members) NoTrees mid) ≡ Some (a, rest)
        → Good names Specifiers (suc depth) (t ∷ ts) a rest
    composite_good w t ts mid a rest c is known o e =
        let x = row (r Members) NoTrees mid in
        let p = row_braced_is (λ members. OfSpecifier (Composite t.line w (tag_at ts).0 members)) x a rest e in
        let b = row_good names K spelled depth r s Members mid known in
        subst (λ (y : Tree). Good names Specifiers (suc depth) (t ∷ ts) y rest) p.1 (record {
          stand = refl;
          fits = (refl, c, p.0, subst (λ (y : List Token). RowFits names.is_type (Fits names) Members x.0 y) (sym (inside ts mid o)) b.1.fits);
          shallow = omega (arith, b.1.shallow);
          spells = omega arith;
          takes = tag_run t ts w mid (trees_tokens x.0 ++ kind.Mark mark.CloseBrace ∷ []) rest is o (takes_then (trees_tokens x.0) (kind.Mark mark.CloseBrace ∷ []) mid x.1 rest b.1.takes p.2);
        })

    enumeration_good : (t : Token) (ts mid : List Token) (a : Tree) (rest : List Token) → t.kind ≡ kind.Word word.Enum → K mid
        → after is_open_brace (tag_at ts).1 ≡ Some mid
        → listed_in_braces (λ enumerators comma. OfSpecifier (Enumeration t.line (tag_at ts).0 enumerators comma)) (comma_list (r Enumerators) mid) ≡ Some (a, rest)
        → Good names Specifiers (suc depth) (t ∷ ts) a rest
    enumeration_good t ts mid a rest is known o e =
        let x = comma_list (r Enumerators) mid in
        let p = braced_is (λ enumerators comma. OfSpecifier (Enumeration t.line (tag_at ts).0 enumerators comma)) x a rest e in
        let b = listed_good names K spelled depth r s Enumerators mid known in
        let run = takes_listed x.0 p.comma mid x.1 rest b.1.takes p.takes in
        subst (λ (y : Tree). Good names Specifiers (suc depth) (t ∷ ts) y rest) p.is (record {
          stand = refl;
          fits = (refl, p.has, subst (λ (y : List Token). ListFits names.is_type (Fits names) Enumerators x.0 y) (sym (inside ts mid o)) b.1.fits);
          shallow = omega (arith, b.1.shallow);
          spells = omega arith;
          takes = tag_run t ts word.Enum mid ((listed_tokens x.0 ++ comma_tokens p.comma) ++ kind.Mark mark.CloseBrace ∷ []) rest is o run;
        })

    braced_good : (w : Word) (t : Token) (ts mid : List Token) (a : Tree) (rest : List Token) → is_tag_word w ≡ true → t.kind ≡ kind.Word w → K mid
        → after is_open_brace (tag_at ts).1 ≡ Some mid → behind_open_brace r t.line w (tag_at ts).0 mid ≡ Some (a, rest)
        → Good names Specifiers (suc depth) (t ∷ ts) a rest
    unfolding behind_open_brace
    braced_good word.Enum t ts mid a rest w is known o e = enumeration_good t ts mid a rest is known o e
    braced_good word.Struct t ts mid a rest w is known o e = composite_good word.Struct t ts mid a rest refl is known o e
    braced_good word.Union t ts mid a rest w is known o e = composite_good word.Union t ts mid a rest refl is known o e
    braced_good _ t ts mid a rest w is known o e = absurd (false≢true w)

    parameter_good : (ts : List Token) (a : Tree) (rest : List Token) → K ts → parameter r ts ≡ Some (a, rest)
        → Good names Parameters (suc depth) ts a rest
    unfolding parameter
    parameter_good ts a rest known e =
        let p = specified_good names K spelled depth r s ParameterDeclarators (Parameter (line_here ts)) ts a rest known e in
        subst (λ (y : Tree). Good names Parameters (suc depth) ts y rest) p.is (record {
          stand = refl;
          fits = (refl, p.has, p.row, p.fits);
          shallow = omega (arith, p.shallow);
          spells = p.spells;
          takes = p.takes;
        })

    inits_good : (t : Token) (ts : List Token) (a : Tree) (rest : List Token) → K ts → t.kind ≡ kind.Mark mark.OpenBrace
        → listed_in_braces (λ inits comma. OfInitializer (Braces t.line inits comma)) (comma_list (r Initializers) ts) ≡ Some (a, rest)
        → Good names Initializers (suc depth) (t ∷ ts) a rest
    inits_good t ts a rest known o e =
        let x = comma_list (r Initializers) ts in
        let p = braced_is (λ inits comma. OfInitializer (Braces t.line inits comma)) x a rest e in
        let b = listed_good names K spelled depth r s Initializers ts known in
        subst (λ (y : Tree). Good names Initializers (suc depth) (t ∷ ts) y rest) p.is (record {
          stand = refl;
          fits = (refl, p.has, b.1.fits);
          shallow = omega (arith, b.1.shallow);
          spells = omega arith;
          takes = (o, takes_listed x.0 p.comma ts x.1 rest b.1.takes p.takes);
        })

    initial_good : (t : Token) (ts : List Token) (a : Tree) (rest : List Token) → K (t ∷ ts)
        → option_map {U = Tree × List Token} (λ x. (OfInitializer (Initial t.line x.0), x.1)) (read names depth 2 (t ∷ ts)) ≡ Some (a, rest) → Good names Initializers (suc depth) (t ∷ ts) a rest
    initial_good t ts a rest known e =
        let m = mapped (λ (x : ExpressionTree × List Token). let y : Tree × List Token = (OfInitializer (Initial t.line x.0), x.1) in y) (read names depth 2 (t ∷ ts)) (a, rest) e in
        let g = (read_sound names K spelled depth).good 2 (t ∷ ts) m.0.0 m.0.1 known m.1 in
        good_at names Initializers (suc depth) (t ∷ ts) (OfInitializer (Initial t.line m.0.0), m.0.1) a rest m.2
        (record { stand = refl; fits = (refl, g.tight, g.fits); shallow = omega (arith, g.shallow); spells = some_tokens m.0.0; takes = g.takes })

    initializer_by : (b : Bool) (t : Token) (ts : List Token) (a : Tree) (rest : List Token) → K (t ∷ ts) → is_open_brace t.kind ≡ b
        → cond b (listed_in_braces (λ inits comma. OfInitializer (Braces t.line inits comma)) (comma_list (r Initializers) ts))
        (option_map {U = Tree × List Token} (λ x. (OfInitializer (Initial t.line x.0), x.1)) (read names depth 2 (t ∷ ts))) ≡ Some (a, rest) → Good names Initializers (suc depth) (t ∷ ts) a rest
    initializer_by true t ts a rest known o e = inits_good t ts a rest (spelled.tail t ts known) (open_brace_is t.kind o) e
    initializer_by false t ts a rest known o e = initial_good t ts a rest known e

    initializer_good : (ts : List Token) (a : Tree) (rest : List Token) → K ts → initializer names r depth ts ≡ Some (a, rest)
        → Good names Initializers (suc depth) ts a rest
    unfolding initializer
    initializer_good [] a rest known e = absurd cc
    initializer_good (t ∷ ts) a rest known e = initializer_by (is_open_brace t.kind) t ts a rest known refl e

    constant_good : (ts : List Token) (a : Tree) (rest : List Token) → K ts → option_map {U = Tree × List Token} (λ x. (OfExpression x.0, x.1)) (read names (suc depth) 3 ts) ≡ Some (a, rest)
        → Good names Constants (suc depth) ts a rest
    constant_good ts a rest known e =
        let m = mapped (λ (x : ExpressionTree × List Token). let y : Tree × List Token = (OfExpression x.0, x.1) in y) (read names (suc depth) 3 ts) (a, rest) e in
        let g = (read_sound names K spelled (suc depth)).good 3 ts m.0.0 m.0.1 known m.1 in
        good_at names Constants (suc depth) ts (OfExpression m.0.0, m.0.1) a rest m.2
        (record { stand = le-leb 3 (rank m.0.0) g.tight; fits = g.fits; shallow = g.shallow; spells = some_tokens m.0.0; takes = g.takes })

    made_good : (place : Place) (ts : List Token) (a : Tree) (rest : List Token) → K ts → node_readers names r depth place ts ≡ Some (a, rest)
        → Good names place (suc depth) ts a rest
    unfolding node_readers
    made_good Specifiers ts a rest known e = specifier_good (suc depth) r braced_good ts a rest known e
    made_good MemberDeclarators ts a rest known e = declarator_good names K spelled depth r s form.Named ts a rest known e
    made_good AbstractDeclarators ts a rest known e = declarator_good names K spelled depth r s form.Abstract ts a rest known e
    made_good ParameterDeclarators ts a rest known e = declarator_good names K spelled depth r s form.Either ts a rest known e
    made_good Parameters ts a rest known e = parameter_good ts a rest known e
    made_good Initializers ts a rest known e = initializer_good ts a rest known e
    made_good Constants ts a rest known e = constant_good ts a rest known e
    made_good _ ts a rest known e = absurd (none-some (a, rest) e)

  -- without depth there are no braces
  pub nothing_braced : (line : ℕ) (w : Word) (tag : Option ℕ) (ts : List Token) → behind_open_brace nothing line w tag ts ≡ None
  unfolding behind_open_brace listed_in_braces row_in_braces comma_list
  nothing_braced line word.Enum tag ts = refl
  nothing_braced line _ tag ts = rw (row_quits (nothing Members) NoTrees ts refl) refl

  leaves_good : (place : Place) (ts : List Token) (a : Tree) (rest : List Token) → K ts → leaves names place ts ≡ Some (a, rest)
      → Good names place 0 ts a rest
  unfolding leaves
  leaves_good Specifiers ts a rest known e =
      specifier_good 0 nothing (λ w t us mid b end tag is known' o h. absurd (let none = nothing_braced t.line w (tag_at us).0 mid in cc)) ts a rest known e
  leaves_good _ ts a rest known e = absurd (none-some (a, rest) e)

  pub leaves_sound : IsSound names K 0 (leaves names)
  leaves_sound = record { good = leaves_good }

  made_by : (depth : ℕ) → IsSound names K depth (readers names depth) → IsSound names K (suc depth) (node_readers names (readers names depth) depth)
  made_by depth s = record { good = made_good depth (readers names depth) s }

  pub readers_sound : (depth : ℕ) → IsSound names K depth (readers names depth)
  unfolding readers
  readers_sound zero = parts_sound names K spelled 0 (leaves names) leaves_sound
  readers_sound (suc depth) = parts_sound names K spelled (suc depth) (node_readers names (readers names depth) depth) (made_by depth (readers_sound depth))

  pub made_sound : (depth : ℕ) → IsSound names K (suc depth) (node_readers names (readers names depth) depth)
  made_sound depth = made_by depth (readers_sound depth)
