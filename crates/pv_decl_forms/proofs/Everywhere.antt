-- What stands at a place of a declaration and is spelled so is read.
use Rattle.std.proofs.Common.{◌≡◌, ◌≤◌, ℕ, zero, suc, Bool, true, false, List, [], ◌∷◌, ◌++◌, drop, Some, None, refl, sym, ap, subst, arith}
use Rattle.std.proofs.lemmas.Bool.{false≢true}
use Rattle.pv_token.specs.declared.token_table.Token.{Token}
use Rattle.pv_token.specs.declared.token_table.TokenKind.{TokenKind}
use Rattle.pv_token.specs.declared.token_table.TokenKind.TheVariants as kind
use Rattle.pv_token.specs.declared.marks.Mark.TheVariants as mark
use Rattle.pv_tree.specs.Syntax.{InitDeclarator, MemberDeclaration, Enumerator, Parameter, DeclaratorTree, DeclaredName, ParenDeclarator, Pointer, Array, FunctionDeclarator, AbstractParen, AbstractPointer, AbstractArray, AbstractFunction, InitializerTree, Initial, Braces, SpecifierTree, Keyword, Composite, Enumeration, Tag, TypedefName, OfExpression, OfDeclaration, OfDeclarator, OfSpecifier, OfInitializer, Trees, OptionalTree, Absent, Present}
use Rattle.pv_tree.specs.Depths.{initializer_depth, specifier_depth, declarator_depth, trees_depth, optional_depth}
use Rattle.pv_tree.specs.Spelling.{declarator_tokens, specifier_tokens, trees_tokens, listed_tokens, value_tokens}
use Rattle.pv_tree.specs.Grammar.{line_here}
use Rattle.pv_tree.specs.Spells.{Names, Fits}
use Rattle.pv_tree.specs.Places.{Place, Specifiers, InitDeclarators, Members, MemberDeclarators, Enumerators, Parameters, Initializers, Constants, AbstractDeclarators, ParameterDeclarators, is_named, some}
use Rattle.pv_tree.specs.Fitting.{DeclaratorFits, SpecifierFits, RowFits, ListFits, OptionalFits, past}
use Rattle.pv_expr_forms.specs.Reader.{after}
use Rattle.pv_expr_forms.proofs.Runs.{Takes, takes_parts, takes_rest, parts_at}
use Rattle.pv_expr_forms.proofs.Trees.{depth_pos}
use Rattle.pv_expr_forms.proofs.Heads.{IsSpelled}
use Rattle.pv_decl_forms.specs.declared.forms.Form.TheVariants as form
use Rattle.pv_decl_forms.specs.Pieces.{Reads, is_equals, is_semicolon}
use Rattle.pv_decl_forms.specs.Reader.{name_of, semicolon_behind, with_members, member_with, member, enumerator_of, enumerator, declarator_and_value, init_declarator, node_readers, nothing, leaves, with_parts, readers}
use Rattle.pv_decl_forms.proofs.Marks.{after_taken, after_other}
use Rattle.pv_decl_forms.proofs.Goods.{known_behind, comma_shortens}
use Rattle.pv_decl_forms.proofs.Sound.{leaves_sound, made_sound, readers_sound}
use Rattle.pv_decl_forms.proofs.Stops.{closes, Closes, Stops, stops_on, closes_stops, specifiers_none, none_made, made_none, leaves_none, leaves_shut, readers_shut}
use Rattle.pv_decl_forms.proofs.Beginnings.{first_member}
use Rattle.pv_decl_forms.proofs.Exacts.{ExactBy, value_exact}
use Rattle.pv_decl_forms.proofs.Closings.{semicolon_ends, list_ended}
use Rattle.pv_decl_forms.proofs.Wholes.{IsExact, of_nodes, of_parts, on_line}
use Rattle.pv_decl_forms.proofs.Whole.{declarator_exact}
use Rattle.pv_decl_forms.proofs.Specified.{specs_exact}
use Rattle.pv_decl_forms.proofs.Nodal.{TagEnds, tag_ends, keyword_exact, typedef_exact, tag_alone_exact, specifier_exact, parameter_exact, initializer_exact, constant_exact}

not_equals : (k : TokenKind) → closes k ≡ true → is_equals k ≡ false
not_equals (kind.Mark mark.Assign) e = absurd cc
not_equals _ e = refl

pub closes_no_equals : (ts : List Token) → Closes ts → after is_equals ts ≡ None
closes_no_equals [] c = refl
closes_no_equals (t ∷ ts) c = after_other is_equals t.kind t ts refl (not_equals t.kind c)

-- a declarator ends before its value, and where that is left out
declarator_stops : (init : OptionalTree) (ts rest : List Token) → Takes (value_tokens init) ts rest → Closes rest → Stops MemberDeclarators ts
declarator_stops Absent ts rest h c = subst (λ (y : List Token). Stops MemberDeclarators y) (sym h) (closes_stops MemberDeclarators rest c)
declarator_stops (Present t) [] rest h c = tt
declarator_stops (Present t) (u ∷ us) rest h c = stops_on MemberDeclarators (kind.Mark mark.Assign) u us h.0 refl

-- most parts end where something closes
abbrev closed_behind : Place → Bool
closed_behind Specifiers = false
closed_behind Members = false
closed_behind MemberDeclarators = false
closed_behind _ = true

as_closed : (place : Place) → closed_behind place ≡ true → (ts : List Token) → Stops place ts → Closes ts
as_closed place p [] s = tt
as_closed Specifiers p (t ∷ ts) s = absurd (false≢true p)
as_closed Members p (t ∷ ts) s = absurd (false≢true p)
as_closed MemberDeclarators p (t ∷ ts) s = absurd (false≢true p)
as_closed _ p (t ∷ ts) s = s

module _ (names : Names) (K : List Token → Type 0) (spelled : IsSpelled names K) (depth : ℕ) (r : Reads) (x : IsExact names K depth of_nodes r) where
  -- ---- what is no node of its own

  member_exact : (line : ℕ) (specs declarators : Trees) (here rest : List Token) → K here → line ≡ line_here here → some specs ≡ true
      → some declarators ≡ true
      → RowFits names.is_type (Fits names) Specifiers specs here
      → ListFits names.is_type (Fits names) MemberDeclarators declarators (past (trees_tokens specs) here)
      → trees_depth specs ≤ depth → trees_depth declarators ≤ depth
      → Takes ((trees_tokens specs ++ listed_tokens declarators) ++ kind.Mark mark.Semicolon ∷ []) here rest
      → member r here ≡ Some (OfDeclaration (MemberDeclaration line specs declarators), rest)
  unfolding member member_with with_members semicolon_behind
  member_exact line specs declarators here rest known e has more f g d k h =
      let p = parts_at (trees_tokens specs ++ listed_tokens declarators) (kind.Mark mark.Semicolon) [] here rest h in
      let q = takes_parts (trees_tokens specs) (listed_tokens declarators) here (p.token ∷ p.after) p.left in
      let at = takes_rest (trees_tokens specs) here q.0 q.1 in
      let g' = subst (λ (y : List Token). ListFits names.is_type (Fits names) MemberDeclarators declarators y) at g in
      let known' = known_behind names K spelled (trees_tokens specs) here q.0 q.1 known in
      let o = first_member names declarators q.0 (p.token ∷ p.after) more g' q.2 in
      let s = specs_exact names K spelled depth r of_nodes x refl specs here q.0 known f d q.1 o.stops o.no_type in
      let l = list_ended names K spelled MemberDeclarators depth (r MemberDeclarators) (x.exact MemberDeclarators refl) (x.shut MemberDeclarators) (comma_shortens names K spelled depth r x.sound MemberDeclarators)
      declarators q.0 (p.token ∷ p.after) known' g' k q.2 (semicolon_ends (r MemberDeclarators) p.token p.after p.kind) in
      let c = after_taken is_semicolon (kind.Mark mark.Semicolon) (p.token ∷ p.after) rest refl (p.kind, p.right) in
      on_line (λ n. OfDeclaration (MemberDeclaration n specs declarators)) line (line_here here) rest _ e (rw (s, has, l, more, c) refl)

  enumerator_exact : (line n : ℕ) (v : OptionalTree) (here rest : List Token) → K here → line ≡ line_here here → names.is_type n ≡ false
      → OptionalFits names.is_type (Fits names) Constants v (drop 2 here) → optional_depth v ≤ depth → Takes (kind.Name n ∷ value_tokens v) here rest
      → Closes rest
      → enumerator names r here ≡ Some (OfDeclaration (Enumerator line n v), rest)
  unfolding enumerator enumerator_of
  enumerator_exact line n v [] rest known e free f d h c = absurd h
  enumerator_exact line n v (t ∷ ts) rest known e free f d h c =
      let name : name_of t.kind ≡ Some n = ap name_of h.0 in
      let w = value_exact names K spelled Constants depth (r Constants) (x.exact Constants refl) v ts rest (spelled.tail t ts known) f d h.1 (closes_stops Constants rest c) (closes_no_equals rest c) in
      on_line (λ l. OfDeclaration (Enumerator l n v)) line t.line rest (enumerator names r (t ∷ ts)) e (rw (name, free, w) refl)

  pub initialized_exact : (line : ℕ) (d : DeclaratorTree) (init : OptionalTree) (ts rest : List Token) → K ts
      → OptionalFits names.is_type (Fits names) Initializers init (drop 1 ts)
      → optional_depth init ≤ depth → Takes (value_tokens init) ts rest → Closes rest
      → declarator_and_value r line (OfDeclarator d) ts ≡ (OfDeclaration (InitDeclarator line d init), rest)
  unfolding declarator_and_value
  initialized_exact line d init ts rest known f deep h c =
      rw (value_exact names K spelled Initializers depth (r Initializers) (x.exact Initializers refl) init ts rest known f deep h (closes_stops Initializers rest c) (closes_no_equals rest c)) refl

  init_declarator_exact : (line : ℕ) (d : DeclaratorTree) (init : OptionalTree) (here rest : List Token) → K here → line ≡ line_here here
      → is_named d ≡ true
      → DeclaratorFits names.is_type (Fits names) d here
      → OptionalFits names.is_type (Fits names) Initializers init (drop 1 (past (declarator_tokens d) here))
      → declarator_depth d ≤ depth → optional_depth init ≤ depth → Takes (declarator_tokens d ++ value_tokens init) here rest → Closes rest
      → init_declarator r here ≡ Some (OfDeclaration (InitDeclarator line d init), rest)
  unfolding init_declarator
  init_declarator_exact line d init here rest known e named f g deep low h c =
      let p = takes_parts (declarator_tokens d) (value_tokens init) here rest h in
      let at = takes_rest (declarator_tokens d) here p.0 p.1 in
      let known' = known_behind names K spelled (declarator_tokens d) here p.0 p.1 known in
      let b = x.exact MemberDeclarators refl (OfDeclarator d) here p.0 known named f deep p.1 (declarator_stops init p.0 rest p.2 c) in
      let i = initialized_exact (line_here here) d init p.0 rest known' (subst (λ (y : List Token). OptionalFits names.is_type (Fits names) Initializers init (drop 1 y)) at g) low p.2 c in
      on_line (λ n. OfDeclaration (InitDeclarator n d init)) line (line_here here) rest _ e (rw (b, i) refl)

  parts_exact : (place : Place) → of_parts place ≡ true → ExactBy names K place depth (with_parts names r place)
  unfolding with_parts
  parts_exact InitDeclarators p (OfDeclaration (InitDeclarator line d init)) here rest known s f deep h stop =
      init_declarator_exact line d init here rest known f.0 f.1 f.2 f.3 (omega (arith, deep)) (omega (arith, deep)) h (as_closed InitDeclarators refl rest stop)
  parts_exact InitDeclarators p _ here rest known s f deep h stop = absurd (false≢true s)
  parts_exact Members p (OfDeclaration (MemberDeclaration line specs declarators)) here rest known s f deep h stop =
      member_exact line specs declarators here rest known f.0 f.1 f.2 f.3 f.4 (omega (arith, deep)) (omega (arith, deep)) h
  parts_exact Members p _ here rest known s f deep h stop = absurd (false≢true s)
  parts_exact Enumerators p (OfDeclaration (Enumerator line n v)) here rest known s f deep h stop =
      enumerator_exact line n v here rest known f.0 f.1 f.2 deep h (as_closed Enumerators refl rest stop)
  parts_exact Enumerators p _ here rest known s f deep h stop = absurd (false≢true s)
  parts_exact Specifiers p t here rest known s f deep h stop = x.exact Specifiers refl t here rest known s f deep h stop
  parts_exact MemberDeclarators p t here rest known s f deep h stop = x.exact MemberDeclarators refl t here rest known s f deep h stop
  parts_exact AbstractDeclarators p t here rest known s f deep h stop = x.exact AbstractDeclarators refl t here rest known s f deep h stop
  parts_exact ParameterDeclarators p t here rest known s f deep h stop = x.exact ParameterDeclarators refl t here rest known s f deep h stop
  parts_exact Parameters p t here rest known s f deep h stop = x.exact Parameters refl t here rest known s f deep h stop
  parts_exact Initializers p t here rest known s f deep h stop = x.exact Initializers refl t here rest known s f deep h stop
  parts_exact Constants p t here rest known s f deep h stop = x.exact Constants refl t here rest known s f deep h stop
  parts_exact _ p t here rest known s f deep h stop = absurd (false≢true p)

-- ---- nodes

module _ (names : Names) (K : List Token → Type 0) (spelled : IsSpelled names K) (depth : ℕ) (x : IsExact names K depth of_parts (readers names depth)) where
  made_exact : (place : Place) → of_nodes place ≡ true → ExactBy names K place (suc depth) (node_readers names (readers names depth) depth place)
  unfolding node_readers
  made_exact Specifiers p (OfSpecifier s) here rest known stand f deep h stop = specifier_exact names K spelled depth (readers names depth) x s here rest known f deep h (tag_ends s rest stop)
  made_exact Specifiers p _ here rest known stand f deep h stop = absurd (false≢true stand)
  made_exact MemberDeclarators p (OfDeclarator d) here rest known stand f deep h stop = declarator_exact names K spelled depth (readers names depth) x form.Named d here rest known stand f deep h stop
  made_exact MemberDeclarators p _ here rest known stand f deep h stop = absurd (false≢true stand)
  made_exact AbstractDeclarators p (OfDeclarator d) here rest known stand f deep h stop = declarator_exact names K spelled depth (readers names depth) x form.Abstract d here rest known stand f deep h stop
  made_exact AbstractDeclarators p _ here rest known stand f deep h stop = absurd (false≢true stand)
  made_exact ParameterDeclarators p (OfDeclarator d) here rest known stand f deep h stop = declarator_exact names K spelled depth (readers names depth) x form.Either d here rest known stand f deep h stop
  made_exact ParameterDeclarators p _ here rest known stand f deep h stop = absurd (false≢true stand)
  made_exact Parameters p (OfDeclaration (Parameter line specs o)) here rest known stand f deep h stop =
      parameter_exact names K spelled depth (readers names depth) x line specs o here rest known f.0 f.1 f.2 f.3 (omega (arith, deep)) h (as_closed Parameters refl rest stop)
  made_exact Parameters p _ here rest known stand f deep h stop = absurd (false≢true stand)
  made_exact Initializers p (OfInitializer i) here rest known stand f deep h stop = initializer_exact names K spelled depth (readers names depth) x i here rest known f deep h (as_closed Initializers refl rest stop)
  made_exact Initializers p _ here rest known stand f deep h stop = absurd (false≢true stand)
  made_exact Constants p (OfExpression a) here rest known stand f deep h stop = constant_exact names K spelled depth (readers names depth) x a here rest stand f deep h (as_closed Constants refl rest stop)
  made_exact Constants p _ here rest known stand f deep h stop = absurd (false≢true stand)
  made_exact _ p t here rest known stand f deep h stop = absurd (false≢true p)

-- ---- without depth

module _ (names : Names) (K : List Token → Type 0) (spelled : IsSpelled names K) where
  pub leaf_exact : (s : SpecifierTree) (here rest : List Token) → SpecifierFits names.is_type (Fits names) s here → specifier_depth s ≤ 0
      → Takes (specifier_tokens s) here rest
      → TagEnds s rest → leaves names Specifiers here ≡ Some (OfSpecifier s, rest)
  unfolding leaves
  leaf_exact (Keyword line w) [] rest f d h s = absurd h
  leaf_exact (Keyword line w) (t ∷ ts) rest f d h s = on_line (λ l. OfSpecifier (Keyword l w)) line t.line rest _ f.0 (keyword_exact names nothing w t ts rest f.1 h)
  leaf_exact (Composite line w tag members) here rest f d h s = absurd (omega (arith, d))
  leaf_exact (Enumeration line tag enumerators comma) here rest f d h s = absurd (omega (arith, d))
  leaf_exact (Tag line w n) [] rest f d h s = absurd h
  leaf_exact (Tag line w n) (t ∷ ts) rest f d h s = on_line (λ l. OfSpecifier (Tag l w n)) line t.line rest _ f.0 (tag_alone_exact names nothing w n t ts rest f.1 h s)
  leaf_exact (TypedefName line n) [] rest f d h s = absurd h
  leaf_exact (TypedefName line n) (t ∷ ts) rest f d h s = on_line (λ l. OfSpecifier (TypedefName l n)) line t.line rest _ f.0 (typedef_exact names nothing n t ts rest f.1 h)

  pub declarator_deep : (d : DeclaratorTree) → 1 ≤ declarator_depth d
  declarator_deep (DeclaredName line n) = omega arith
  declarator_deep (ParenDeclarator line d) = omega arith
  declarator_deep (Pointer line consts d) = omega arith
  declarator_deep (Array line d size) = omega arith
  declarator_deep (FunctionDeclarator line d parameters variadic) = omega arith
  declarator_deep (AbstractParen line d) = omega arith
  declarator_deep (AbstractPointer line consts d) = omega arith
  declarator_deep (AbstractArray line d size) = omega arith
  declarator_deep (AbstractFunction line d parameters variadic) = omega arith

  initializer_deep : (i : InitializerTree) → 1 ≤ initializer_depth i
  initializer_deep (Initial line a) = omega arith
  initializer_deep (Braces line inits comma) = omega arith

  leaves_exact : (place : Place) → of_nodes place ≡ true → ExactBy names K place 0 (leaves names place)
  leaves_exact Specifiers p (OfSpecifier s) here rest known stand f deep h stop = leaf_exact s here rest f deep h (tag_ends s rest stop)
  leaves_exact Specifiers p _ here rest known stand f deep h stop = absurd (false≢true stand)
  leaves_exact MemberDeclarators p (OfDeclarator d) here rest known stand f deep h stop = absurd (omega (arith, declarator_deep d, deep))
  leaves_exact MemberDeclarators p _ here rest known stand f deep h stop = absurd (false≢true stand)
  leaves_exact AbstractDeclarators p (OfDeclarator d) here rest known stand f deep h stop = absurd (omega (arith, declarator_deep d, deep))
  leaves_exact AbstractDeclarators p _ here rest known stand f deep h stop = absurd (false≢true stand)
  leaves_exact ParameterDeclarators p (OfDeclarator d) here rest known stand f deep h stop = absurd (omega (arith, declarator_deep d, deep))
  leaves_exact ParameterDeclarators p _ here rest known stand f deep h stop = absurd (false≢true stand)
  leaves_exact Parameters p (OfDeclaration (Parameter line specs o)) here rest known stand f deep h stop = absurd (omega (arith, deep))
  leaves_exact Parameters p _ here rest known stand f deep h stop = absurd (false≢true stand)
  leaves_exact Initializers p (OfInitializer i) here rest known stand f deep h stop = absurd (omega (arith, initializer_deep i, deep))
  leaves_exact Initializers p _ here rest known stand f deep h stop = absurd (false≢true stand)
  leaves_exact Constants p (OfExpression a) here rest known stand f deep h stop = absurd (omega (arith, depth_pos a, deep))
  leaves_exact Constants p _ here rest known stand f deep h stop = absurd (false≢true stand)
  leaves_exact _ p t here rest known stand f deep h stop = absurd (false≢true p)

  -- ---- at any depth

  pub readers_exact : (depth : ℕ) → IsExact names K depth of_parts (readers names depth)
  unfolding readers
  readers_exact zero =
      let x : IsExact names K 0 of_nodes (leaves names) = record { sound = leaves_sound names K spelled; exact = leaves_exact; shut = leaves_shut names; typeless = leaves_none names } in
      record { sound = readers_sound names K spelled zero; exact = parts_exact names K spelled 0 (leaves names) x; shut = readers_shut names zero; typeless = specifiers_none names zero }
  readers_exact (suc depth) =
      let y = readers_exact depth in
      let x : IsExact names K (suc depth) of_nodes (node_readers names (readers names depth) depth) = record { sound = made_sound names K spelled depth; exact = made_exact names K spelled depth y; shut = none_made names depth; typeless = made_none names depth } in
      record { sound = readers_sound names K spelled (suc depth); exact = parts_exact names K spelled (suc depth) (node_readers names (readers names depth) depth) x; shut = readers_shut names (suc depth); typeless = specifiers_none names (suc depth) }
