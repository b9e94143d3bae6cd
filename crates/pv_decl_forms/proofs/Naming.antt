-- Type names: what is read is spelled so, nothing longer is spelled, and nothing else that is as long.
use Rattle.std.proofs.Common.{◌≡◌, ◌≤◌, ◌<◌, ℕ, zero, suc, Bool, true, List, [], ◌∷◌, ◌++◌, length, Option, Some, None, option_and_then, refl, sym, ap, subst, ◌∙◌, arith, inl, inr}
use Rattle.std.proofs.lemmas.Bool.{false≢true}
use Rattle.pv_token.specs.declared.token_table.Token.{Token}
use Rattle.pv_token.specs.declared.token_table.TokenKind.TheVariants as kind
use Rattle.pv_token.specs.declared.words.Word.{Word}
use Rattle.pv_token.specs.declared.words.Word.TheVariants as word
use Rattle.pv_token.specs.declared.marks.Mark.TheVariants as mark
use Rattle.pv_tree.specs.Syntax.{DeclarationTree, TypeName, DeclaratorTree, SpecifierTree, Keyword, Composite, Enumeration, Tag, TypedefName, Tree, OfDeclaration, OfDeclarator, OfSpecifier, Trees, NoTrees, Then, Absent, Present}
use Rattle.pv_tree.specs.Depths.{declaration_depth, specifier_depth, trees_depth}
use Rattle.pv_tree.specs.Spelling.{declaration_tokens, specifier_tokens, tree_tokens, trees_tokens, listed_tokens, comma_tokens}
use Rattle.pv_tree.specs.Grammar.{line_here}
use Rattle.pv_tree.specs.Spells.{Names, Fits}
use Rattle.pv_tree.specs.Places.{Specifiers, Members, Enumerators, AbstractDeclarators, stands, is_type_name, is_tag_word, some}
use Rattle.pv_tree.specs.Fitting.{TreeFits, DeclarationFits, SpecifierFits, RowFits}
use Rattle.pv_expr_forms.specs.Follows.{or_else}
use Rattle.pv_expr_forms.specs.Reader.{after}
use Rattle.pv_expr_forms.proofs.Runs.{Takes, takes_parts, takes_rest, takes_length}
use Rattle.pv_expr_forms.proofs.Steps.{followed}
use Rattle.pv_expr_forms.proofs.Heads.{IsSpelled}
use Rattle.pv_decl_forms.specs.Pieces.{Piece, Reads, is_open_brace, part_if_any, row, comma_list}
use Rattle.pv_decl_forms.specs.Reader.{listed_in_braces, row_in_braces, behind_open_brace, with_tag, specifier, made_of, behind_specifiers, node_readers, nothing, leaves, with_parts, readers, type_name}
use Rattle.pv_decl_forms.proofs.Marks.{open_brace_taken}
use Rattle.pv_decl_forms.proofs.Steps.{row_next}
use Rattle.pv_decl_forms.proofs.Goods.{IsSound, known_behind, part_shortens, row_good, listed_good}
use Rattle.pv_decl_forms.proofs.Parts.{braced_is, row_braced_is, specified_good}
use Rattle.pv_decl_forms.proofs.Sound.{readers_sound}
use Rattle.pv_decl_forms.proofs.Stops.{Stops}
use Rattle.pv_decl_forms.proofs.Exacts.{row_comes}
use Rattle.pv_decl_forms.proofs.Specified.{specifiers_start, tag_there, tag_word, specs_then}
use Rattle.pv_decl_forms.proofs.Nodal.{tagged_as, specifier_exact}
use Rattle.pv_decl_forms.proofs.Everywhere.{readers_exact, leaf_exact}
use Rattle.pv_decl_forms.proofs.Longest.{Within, within_then, within_made, Reaches, reached, RowWithin, row_within, abstract_longest}

-- ---- specifiers

module _ (names : Names) (K : List Token → Type 0) (spelled : IsSpelled names K) (depth : ℕ) (r : Reads) (s : IsSound names K depth r) where
  -- braces leave less than what stands in them
  row_braced_less : (make : Trees → Tree) (ts : List Token) (a : Tree) (rest : List Token) → K ts
      → row_in_braces make (row (r Members) NoTrees ts) ≡ Some (a, rest) → length rest ≤ length ts
  row_braced_less make ts a rest known e =
      let x = row (r Members) NoTrees ts in
      let g = row_good names K spelled depth r s Members ts known in
      let p = row_braced_is make x a rest e in
      omega (arith, takes_length (trees_tokens x.0) ts x.1 g.1.takes, takes_length (kind.Mark mark.CloseBrace ∷ []) x.1 rest p.2)

  list_braced_less : (make : Trees → Bool → Tree) (ts : List Token) (a : Tree) (rest : List Token) → K ts
      → listed_in_braces make (comma_list (r Enumerators) ts) ≡ Some (a, rest)
      → length rest ≤ length ts
  list_braced_less make ts a rest known e =
      let x = comma_list (r Enumerators) ts in
      let g = listed_good names K spelled depth r s Enumerators ts known in
      let p = braced_is make x a rest e in
      omega (arith, takes_length (listed_tokens x.0) ts x.1 g.1.takes, takes_length (comma_tokens p.comma ++ kind.Mark mark.CloseBrace ∷ []) x.1 rest p.takes)

  braced_less : (line : ℕ) (w : Word) (tag : Option ℕ) (ts : List Token) (a : Tree) (rest : List Token) → K ts
      → behind_open_brace r line w tag ts ≡ Some (a, rest) → length rest ≤ length ts
  unfolding behind_open_brace
  braced_less line word.Enum tag ts a rest known e = list_braced_less _ ts a rest known e
  braced_less line w tag ts a rest known e = row_braced_less _ ts a rest known e

  or_tag : (o : Piece) (a : Tree) (rest : List Token) → ((y : Tree × List Token) → o ≡ Some y → length y.1 < length rest)
      → Reaches (or_else o (Some (a, rest))) (a, rest)
  or_tag None a rest h = reached (Some (a, rest)) a rest refl
  or_tag (Some y) a rest h = record { found = y; is = refl; within = inl (h y refl) }

  -- a tag alone, where braces may follow
  tag_reaches : (line n : ℕ) (w : Word) (t : Token) (ts rest : List Token) → K ts → line ≡ t.line → is_tag_word w ≡ true → t.kind ≡ kind.Word w
      → Takes (kind.Name n ∷ []) ts rest
      → Reaches (specifier names r (t ∷ ts)) (OfSpecifier (Tag line w n), rest)
  unfolding with_tag
  tag_reaches line n w t ts rest known e tag k h =
      let o = option_and_then (behind_open_brace r t.line w (Some n)) (after is_open_brace rest) in
      let tagged : specifier names r (t ∷ ts) ≡ or_else o (Some (OfSpecifier (Tag line w n), rest)) = tagged_as names r w t ts (tag_word w tag) tag k ∙ rw (tag_there n ts rest h, e) refl in
      let known' = known_behind names K spelled (kind.Name n ∷ []) ts rest h known in
      let all = or_tag o (OfSpecifier (Tag line w n)) rest (λ y is.
      let m = followed (behind_open_brace r t.line w (Some n)) (after is_open_brace rest) y is in
      let b = open_brace_taken rest m.0 m.1 in
      let less = braced_less t.line w (Some n) m.0 y.0 y.1 (known_behind names K spelled (kind.Mark mark.OpenBrace ∷ []) rest m.0 b known') m.2 in
      omega (arith, takes_length (kind.Mark mark.OpenBrace ∷ []) rest m.0 b, less)) in
      record { found = all.found; is = tagged ∙ all.is; within = all.within }

module _ (names : Names) (K : List Token → Type 0) (spelled : IsSpelled names K) where
  nothing_sound : IsSound names K 0 nothing
  nothing_sound = record { good = λ place ts t rest known e. absurd cc }

  zero_reaches : (x : SpecifierTree) (here rest : List Token) → K here → SpecifierFits names.is_type (Fits names) x here → specifier_depth x ≤ 0
      → Takes (specifier_tokens x) here rest
      → Reaches (leaves names Specifiers here) (OfSpecifier x, rest)
  unfolding leaves
  zero_reaches (Tag line w n) [] rest known f d h = absurd h
  zero_reaches (Tag line w n) (t ∷ ts) rest known f d h = tag_reaches names K spelled 0 nothing nothing_sound line n w t ts rest (spelled.tail t ts known) f.0 f.1 h.0 h.1
  zero_reaches (Keyword line w) here rest known f d h = reached _ _ rest (leaf_exact names K spelled (Keyword line w) here rest f d h tt)
  zero_reaches (Composite line w tag members) here rest known f d h = reached _ _ rest (leaf_exact names K spelled (Composite line w tag members) here rest f d h tt)
  zero_reaches (Enumeration line tag enumerators comma) here rest known f d h = reached _ _ rest (leaf_exact names K spelled (Enumeration line tag enumerators comma) here rest f d h tt)
  zero_reaches (TypedefName line n) here rest known f d h = reached _ _ rest (leaf_exact names K spelled (TypedefName line n) here rest f d h tt)

  more_reaches : (depth : ℕ) (x : SpecifierTree) (here rest : List Token) → K here → SpecifierFits names.is_type (Fits names) x here
      → specifier_depth x ≤ suc depth
      → Takes (specifier_tokens x) here rest → Reaches (specifier names (readers names depth) here) (OfSpecifier x, rest)
  more_reaches depth (Tag line w n) [] rest known f d h = absurd h
  more_reaches depth (Tag line w n) (t ∷ ts) rest known f d h =
      tag_reaches names K spelled depth (readers names depth) (readers_sound names K spelled depth) line n w t ts rest (spelled.tail t ts known) f.0 f.1 h.0 h.1
  more_reaches depth (Keyword line w) here rest known f d h = reached _ _ rest (specifier_exact names K spelled depth (readers names depth) (readers_exact names K spelled depth) (Keyword line w) here rest known f d h tt)
  more_reaches depth (Composite line w tag members) here rest known f d h = reached _ _ rest (specifier_exact names K spelled depth (readers names depth) (readers_exact names K spelled depth) (Composite line w tag members) here rest known f d h tt)
  more_reaches depth (Enumeration line tag enumerators comma) here rest known f d h = reached _ _ rest (specifier_exact names K spelled depth (readers names depth) (readers_exact names K spelled depth) (Enumeration line tag enumerators comma) here rest known f d h tt)
  more_reaches depth (TypedefName line n) here rest known f d h = reached _ _ rest (specifier_exact names K spelled depth (readers names depth) (readers_exact names K spelled depth) (TypedefName line n) here rest known f d h tt)

  specifier_reaches : (depth : ℕ) (x : SpecifierTree) (here rest : List Token) → K here → SpecifierFits names.is_type (Fits names) x here
      → specifier_depth x ≤ depth
      → Takes (specifier_tokens x) here rest → Reaches (readers names depth Specifiers here) (OfSpecifier x, rest)
  unfolding readers with_parts node_readers
  specifier_reaches zero x here rest known f d h = zero_reaches x here rest known f d h
  specifier_reaches (suc depth) x here rest known f d h = more_reaches depth x here rest known f d h

  last_reaches : (depth : ℕ) (t : Tree) (here rest : List Token) → K here → stands Specifiers t ≡ true → TreeFits names.is_type (Fits names) t here
      → trees_depth (Then NoTrees t) ≤ depth
      → Takes (tree_tokens t) here rest → Reaches (readers names depth Specifiers here) (t, rest)
  last_reaches depth (OfSpecifier x) here rest known stand f d h = specifier_reaches depth x here rest known f (omega (arith, d)) h
  last_reaches depth _ here rest known stand f d h = absurd (false≢true stand)

  -- ---- specifiers in a row

  rows_reach : (before : Trees) (last : Tree) (x : Trees × List Token) (y : Tree × List Token) (rest : List Token)
      → RowWithin x (Then before y.0, y.1) → Within y (last, rest)
      → RowWithin x (Then before last, rest)
  rows_reach before last x y rest (inl h) (inl k) = inl (omega arith)
  rows_reach before last x y rest (inl h) (inr e) = inl (subst (λ (z : Tree × List Token). length x.1 < length z.1) e h)
  rows_reach before last x y rest (inr e) (inl k) = inl (subst (λ (z : Trees × List Token). length z.1 < length rest) (sym e) k)
  rows_reach before last x y rest (inr e) (inr g) = inr (e ∙ ap (λ (z : Tree × List Token). let p : Trees × List Token = (Then before z.0, z.1) in p) g)

  row_at : (x y : Trees × List Token) (parts : Trees) (rest : List Token) → x ≡ y → RowWithin y (parts, rest) → RowWithin x (parts, rest)
  row_at x y parts rest e w = subst (λ (z : Trees × List Token). RowWithin z (parts, rest)) (sym e) w

  -- reading comes to specifiers behind which others stand, and goes on from there
  specs_come : (depth : ℕ) (specs : Trees) (here mid : List Token) → K here → RowFits names.is_type (Fits names) Specifiers specs here → trees_depth specs ≤ depth
      → Takes (trees_tokens specs) here mid → Stops Specifiers mid
      → row (readers names depth Specifiers) NoTrees here ≡ row (readers names depth Specifiers) specs mid
  specs_come depth specs here mid known f d h s =
      let x = readers_exact names K spelled depth in
      row_comes names K spelled Specifiers depth (readers names depth Specifiers) (x.exact Specifiers refl)
      (part_shortens names K spelled depth (readers names depth) x.sound Specifiers) (specifiers_start names) specs here mid known f d h s

  last_longest : (depth : ℕ) (before : Trees) (last : Tree) (here mid rest : List Token) → K mid → Reaches (readers names depth Specifiers mid) (last, rest)
      → row (readers names depth Specifiers) NoTrees here ≡ row (readers names depth Specifiers) before mid
      → RowWithin (row (readers names depth Specifiers) NoTrees here) (Then before last, rest)
  last_longest depth before last here mid rest known o comes =
      let short = part_shortens names K spelled depth (readers names depth) (readers_sound names K spelled depth) Specifiers in
      let a = o.found.0 in
      let ts = o.found.1 in
      let next = row_next K (readers names depth Specifiers) short before mid a ts known o.is in
      row_at (row (readers names depth Specifiers) NoTrees here) (row (readers names depth Specifiers) (Then before a) ts) (Then before last) rest (comes ∙ next)
      (rows_reach before last (row (readers names depth Specifiers) (Then before a) ts) o.found rest
      (row_within K (readers names depth Specifiers) short (Then before a) ts (short.known mid a ts known o.is)) o.within)

  pub specs_longest : (depth : ℕ) (specs : Trees) (here rest : List Token) → K here → RowFits names.is_type (Fits names) Specifiers specs here
      → trees_depth specs ≤ depth
      → Takes (trees_tokens specs) here rest → RowWithin (row (readers names depth Specifiers) NoTrees here) (specs, rest)
  specs_longest depth NoTrees here rest known f d h =
      let x = readers_exact names K spelled depth in
      subst (λ (y : List Token). RowWithin (row (readers names depth Specifiers) NoTrees here) (NoTrees, y)) h
      (row_within K (readers names depth Specifiers) (part_shortens names K spelled depth (readers names depth) x.sound Specifiers) NoTrees here known)
  specs_longest depth (Then before last) here rest known f d h =
      let p = takes_parts (trees_tokens before) (tree_tokens last) here rest h in
      let at = takes_rest (trees_tokens before) here p.0 p.1 in
      let f' = subst (λ (y : List Token). TreeFits names.is_type (Fits names) last y) at f.2 in
      let known' = known_behind names K spelled (trees_tokens before) here p.0 p.1 known in
      last_longest depth before last here p.0 rest known' (last_reaches depth last p.0 rest known' f.1 f' (omega (arith, d)) p.2)
      (specs_come depth before here p.0 known f.0 (omega (arith, d)) p.1 (specifiers_start names last p.0 rest f.1 f' p.2))

  -- ---- type names

  pub record NamingTree (deep : ℕ) (here : List Token) (a : Tree) (rest : List Token) : Type 0 where
    pub tree : DeclarationTree
    pub is : OfDeclaration tree ≡ a
    pub stands : is_type_name tree ≡ true
    pub fits : DeclarationFits names.is_type (Fits names) tree here
    pub shallow : declaration_depth tree ≤ deep
    pub spells : 0 < length (declaration_tokens tree)
    pub takes : Takes (declaration_tokens tree) here rest

  pub type_name_good : (deep : ℕ) (here : List Token) (a : Tree) (rest : List Token) → K here → type_name names deep here ≡ Some (a, rest)
      → NamingTree deep here a rest
  unfolding type_name
  type_name_good deep here a rest known e =
      let g = specified_good names K spelled deep (readers names deep) (readers_sound names K spelled deep) AbstractDeclarators (TypeName (line_here here)) here a rest known e in
      record { tree = TypeName (line_here here) g.specs g.declarator; is = g.is; stands = refl; fits = (refl, g.has, g.row, g.fits); shallow = g.shallow; spells = g.spells; takes = g.takes }

  -- once the specifiers are read
  made_reaches : (line : ℕ) (specs : Trees) (o : Piece) (mid : List Token) → ((y : Tree × List Token) → o ≡ Some y → length y.1 < length mid)
      → Reaches (made_of (TypeName line) specs (part_if_any mid o)) (OfDeclaration (TypeName line specs Absent), mid)
  made_reaches line specs None mid h = reached _ _ mid refl
  made_reaches line specs (Some y) mid h = record { found = (OfDeclaration (TypeName line specs (Present y.0)), y.1); is = refl; within = inl (h y refl) }

  specs_by : (depth : ℕ) (here : List Token) → K here → (x : Trees × List Token) → row (readers names depth Specifiers) NoTrees here ≡ x
      → some x.0 ≡ true
      → Reaches (type_name names depth here) (OfDeclaration (TypeName (line_here here) x.0 Absent), x.1)
  unfolding type_name behind_specifiers
  specs_by depth here known x is has =
      let s = readers_sound names K spelled depth in
      let r = readers names depth in
      let k : K x.1 = subst (λ (z : Trees × List Token). K z.1) is (row_good names K spelled depth r s Specifiers here known).0 in
      let short = part_shortens names K spelled depth r s AbstractDeclarators in
      let m = made_reaches (line_here here) x.0 (r AbstractDeclarators x.1) x.1 (λ y e. short.less x.1 y.0 y.1 k e) in
      record { found = m.found; is = rw (is, has) m.is; within = m.within }

  -- specifiers are read where some are spelled
  some_read : (specs : Trees) (here rest : List Token) (x : Trees × List Token) → some specs ≡ true → Takes (trees_tokens specs) here rest
      → Takes (trees_tokens x.0) here x.1
      → RowWithin x (specs, rest) → some x.0 ≡ true
  some_read specs here rest (Then before last, left) has h k w = refl
  some_read specs here rest (NoTrees, left) has h k (inl l) = absurd (omega (arith, takes_length (trees_tokens specs) here rest h, ap length k))
  some_read specs here rest (NoTrees, left) has h k (inr e) = ap (λ (z : Trees × List Token). some z.0) e ∙ has

  name_within : (line : ℕ) (specs : Trees) (rest : List Token) (x : Trees × List Token) → RowWithin x (specs, rest)
      → Within (OfDeclaration (TypeName line x.0 Absent), x.1) (OfDeclaration (TypeName line specs Absent), rest)
  name_within line specs rest x (inl l) = inl l
  name_within line specs rest x (inr e) = inr (ap (λ (z : Trees × List Token). let p : Tree × List Token = (OfDeclaration (TypeName line z.0 Absent), z.1) in p) e)

  alone_longest : (depth : ℕ) (specs : Trees) (here rest : List Token) → K here → some specs ≡ true
      → RowFits names.is_type (Fits names) Specifiers specs here → trees_depth specs ≤ depth
      → Takes (trees_tokens specs) here rest → Reaches (type_name names depth here) (OfDeclaration (TypeName (line_here here) specs Absent), rest)
  alone_longest depth specs here rest known has f d h =
      let s = readers_sound names K spelled depth in
      let x = row (readers names depth Specifiers) NoTrees here in
      let w = specs_longest depth specs here rest known f d h in
      let g = row_good names K spelled depth (readers names depth) s Specifiers here known in
      let o = specs_by depth here known x refl (some_read specs here rest x has h g.1.takes w) in
      record { found = o.found; is = o.is; within = within_then o.found (OfDeclaration (TypeName (line_here here) x.0 Absent), x.1) (OfDeclaration (TypeName (line_here here) specs Absent), rest) o.within (name_within (line_here here) specs rest x w) }

  name_made : (line : ℕ) (specs : Trees) (y : Tree × List Token) (a : Tree) (rest : List Token) → Within y (a, rest)
      → Within (OfDeclaration (TypeName line specs (Present y.0)), y.1) (OfDeclaration (TypeName line specs (Present a)), rest)
  name_made line specs y a rest w = within_made (λ (z : Tree). OfDeclaration (TypeName line specs (Present z))) y a rest w

  behind_longest : (depth : ℕ) (specs : Trees) (d : DeclaratorTree) (here mid rest : List Token) → K here → some specs ≡ true
      → row (readers names depth Specifiers) NoTrees here ≡ (specs, mid)
      → Reaches (readers names depth AbstractDeclarators mid) (OfDeclarator d, rest)
      → Reaches (type_name names depth here) (OfDeclaration (TypeName (line_here here) specs (Present (OfDeclarator d))), rest)
  unfolding type_name behind_specifiers
  behind_longest depth specs d here mid rest known has is o = record {
    found = (OfDeclaration (TypeName (line_here here) specs (Present o.found.0)), o.found.1);
    is = rw (is, has, o.is) refl;
    within = name_made (line_here here) specs o.found (OfDeclarator d) rest o.within;
  }

  pub type_name_longest : (depth : ℕ) (d : DeclarationTree) (here rest : List Token) → K here → is_type_name d ≡ true
      → DeclarationFits names.is_type (Fits names) d here
      → declaration_depth d ≤ depth → Takes (declaration_tokens d) here rest → Reaches (type_name names depth here) (OfDeclaration d, rest)
  type_name_longest depth (TypeName line specs Absent) here rest known s f d h =
      let p = takes_parts (trees_tokens specs) [] here rest h in
      let run : Takes (trees_tokens specs) here rest = rw p.2 at p.1 in
      subst (λ (l : ℕ). Reaches (type_name names depth here) (OfDeclaration (TypeName l specs Absent), rest)) (sym f.0) (alone_longest depth specs here rest known f.1 f.2 (omega (arith, d)) run)
  type_name_longest depth (TypeName line specs (Present (OfDeclarator m))) here rest known s f d h =
      let r = readers names depth in
      let p = takes_parts (trees_tokens specs) (tree_tokens (OfDeclarator m)) here rest h in
      let at = takes_rest (trees_tokens specs) here p.0 p.1 in
      let f' = subst (λ (y : List Token). TreeFits names.is_type (Fits names) (OfDeclarator m) y) at f.3.1 in
      let known' = known_behind names K spelled (trees_tokens specs) here p.0 p.1 known in
      let is = specs_then names K spelled depth r (readers_exact names K spelled depth) specs m here p.0 rest known f.2 (omega (arith, d)) p.1 f' p.2 in
      let o = abstract_longest names K spelled depth m p.0 rest known' f.3.0 f' (omega (arith, d)) p.2 in
      subst (λ (l : ℕ). Reaches (type_name names depth here) (OfDeclaration (TypeName l specs (Present (OfDeclarator m))), rest)) (sym f.0) (behind_longest depth specs m here p.0 rest known f.1 is o)
  type_name_longest depth (TypeName line specs (Present _)) here rest known s f d h = absurd (false≢true f.3.0)
  type_name_longest depth _ here rest known s f d h = absurd (false≢true s)
