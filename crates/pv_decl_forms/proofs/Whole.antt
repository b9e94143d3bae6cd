-- A declarator that is spelled so is read, where it ends.
use Rattle.std.proofs.Common.{◌≡◌, ◌≤◌, ℕ, suc, Bool, true, false, List, [], ◌∷◌, ◌++◌, drop, Some, None, refl, sym, ap, ◌∙◌, arith}
use Rattle.std.proofs.lemmas.Bool.{and_parts, false≢true, true≢false}
use Rattle.pv_token.specs.declared.token_table.Token.{Token}
use Rattle.pv_token.specs.declared.token_table.TokenKind.TheVariants as kind
use Rattle.pv_token.specs.declared.marks.Mark.TheVariants as mark
use Rattle.pv_tree.specs.Syntax.{DeclaratorTree, DeclaredName, ParenDeclarator, Pointer, Array, FunctionDeclarator, AbstractParen, AbstractPointer, AbstractArray, AbstractFunction, Tree, OfDeclarator, Absent, Present}
use Rattle.pv_tree.specs.Depths.{declarator_depth}
use Rattle.pv_tree.specs.Spelling.{declarator_tokens, const_tokens}
use Rattle.pv_tree.specs.Grammar.{line_here}
use Rattle.pv_tree.specs.Spells.{Names, Fits}
use Rattle.pv_tree.specs.Places.{stands, is_abstract, is_direct}
use Rattle.pv_tree.specs.Fitting.{DeclaratorFits}
use Rattle.pv_expr_forms.proofs.Runs.{Takes, takes_parts}
use Rattle.pv_expr_forms.proofs.Heads.{IsSpelled}
use Rattle.pv_decl_forms.specs.declared.forms.Form.{Form}
use Rattle.pv_decl_forms.specs.Pieces.{Piece, Reads}
use Rattle.pv_decl_forms.specs.Declarators.{place_of, allows_abstract, pointing, pointer_tree, head, longer_declarator, declarator}
use Rattle.pv_decl_forms.proofs.Steps.{grown_stop}
use Rattle.pv_decl_forms.proofs.Goods.{known_behind}
use Rattle.pv_decl_forms.proofs.Directs.{abstract_unnamed, stand_like}
use Rattle.pv_decl_forms.proofs.Stops.{Stops, closed_shuts, longer_stops}
use Rattle.pv_decl_forms.proofs.Beginnings.{opening}
use Rattle.pv_decl_forms.proofs.Wholes.{IsExact, of_parts, exact_as, name_allowed, abstract_allowed, on_line, consts_left, closed_consts, abstract_closes, declarator_ends, head_star, read_head, IsWhole, whole_array, whole_function, whole_name, whole_paren, whole_parameters, whole_size}

-- nothing goes on behind a pointer
pub longer_pointer : (r : Reads) (depth line : ℕ) (d : DeclaratorTree) (ts : List Token) → is_direct d ≡ false
    → longer_declarator r depth line (OfDeclarator d) ts ≡ None
unfolding longer_declarator
longer_pointer r depth line d [] e = refl
longer_pointer r depth line d (t ∷ ts) e = rw e refl

module _ (names : Names) (K : List Token → Type 0) (spelled : IsSpelled names K) (depth : ℕ) (r : Reads) (x : IsExact names K depth of_parts r) (f : Form) where
  -- reading comes to a direct declarator, and goes on from there
  pub whole : (d : DeclaratorTree) (here rest : List Token) → K here → stands (place_of f) (OfDeclarator d) ≡ true
      → DeclaratorFits names.is_type (Fits names) d here
      → declarator_depth d ≤ suc depth → Takes (declarator_tokens d) here rest → is_direct d ≡ true → IsWhole names K spelled depth r x f d here rest
  whole (DeclaredName line n) here rest known s fits deep h direct =
      whole_name names K spelled depth r x f line n here rest fits.0 fits.1 (name_allowed f (DeclaredName line n) s refl) h
  whole (ParenDeclarator line d) here rest known s fits deep h direct =
      whole_paren names K spelled depth r x f (λ l. ParenDeclarator l d) line d here rest known fits.0 (stand_like f (ParenDeclarator line d) d (sym fits.1) s)
      (λ l. rw fits.1 refl) fits.2 (omega (arith, deep)) h
  whole (AbstractParen line d) here rest known s fits deep h direct =
      let unnamed = abstract_unnamed d fits.1 in
      whole_paren names K spelled depth r x f (λ l. AbstractParen l d) line d here rest known fits.0 (stand_like f (AbstractParen line d) d (sym unnamed) s)
      (λ l. rw unnamed refl) fits.2 (omega (arith, deep)) h
  whole (Array line d size) here rest known s fits deep h direct =
      whole_array names K spelled depth r x f d here known fits.2 (omega (arith, deep))
      (λ mid k. whole d here mid known (stand_like f (Array line d size) d (sym fits.1) s) fits.3 (omega (arith, deep)) k fits.2)
      size (Array line d size) rest (rw fits.1 (ap (λ (l : ℕ). OfDeclarator (Array l d size)) (sym fits.0))) fits.4 (omega (arith, deep)) h
  whole (FunctionDeclarator line d parameters variadic) here rest known s fits deep h direct =
      whole_function names K spelled depth r x f d here known fits.2 (omega (arith, deep))
      (λ mid k. whole d here mid known (stand_like f (FunctionDeclarator line d parameters variadic) d (sym fits.1) s) fits.4 (omega (arith, deep)) k fits.2)
      parameters variadic (FunctionDeclarator line d parameters variadic) rest (rw fits.1 (ap (λ (l : ℕ). OfDeclarator (FunctionDeclarator l d parameters variadic)) (sym fits.0)))
      fits.3 fits.5 (omega (arith, deep)) h
  whole (AbstractArray line Absent size) here rest known s fits deep h direct =
      whole_size names K spelled depth r x f line size here rest known fits.0 (abstract_allowed f (AbstractArray line Absent size) s refl) fits.2 (omega (arith, deep)) h
  whole (AbstractArray line (Present (OfDeclarator d)) size) here rest known s fits deep h direct =
      let both = and_parts (is_abstract d) (is_direct d) fits.1.0 in
      let unnamed = abstract_unnamed d both.0 in
      whole_array names K spelled depth r x f d here known both.1 (omega (arith, deep))
      (λ mid k. whole d here mid known (stand_like f (AbstractArray line (Present (OfDeclarator d)) size) d (sym unnamed) s) fits.1.1 (omega (arith, deep)) k both.1)
      size (AbstractArray line (Present (OfDeclarator d)) size) rest (rw unnamed (ap (λ (l : ℕ). OfDeclarator (AbstractArray l (Present (OfDeclarator d)) size)) (sym fits.0))) fits.2 (omega (arith, deep)) h
  whole (AbstractArray line (Present _) size) here rest known s fits deep h direct = absurd (false≢true fits.1.0)
  whole (AbstractFunction line Absent parameters variadic) here rest known s fits deep h direct =
      whole_parameters names K spelled depth r x f line parameters variadic here rest known fits.0 (abstract_allowed f (AbstractFunction line Absent parameters variadic) s refl)
      fits.1 fits.3 (omega (arith, deep)) h
  whole (AbstractFunction line (Present (OfDeclarator d)) parameters variadic) here rest known s fits deep h direct =
      let both = and_parts (is_abstract d) (is_direct d) fits.2.0 in
      let unnamed = abstract_unnamed d both.0 in
      whole_function names K spelled depth r x f d here known both.1 (omega (arith, deep))
      (λ mid k. whole d here mid known (stand_like f (AbstractFunction line (Present (OfDeclarator d)) parameters variadic) d (sym unnamed) s) fits.2.1 (omega (arith, deep)) k both.1)
      parameters variadic (AbstractFunction line (Present (OfDeclarator d)) parameters variadic) rest
      (rw unnamed (ap (λ (l : ℕ). OfDeclarator (AbstractFunction l (Present (OfDeclarator d)) parameters variadic)) (sym fits.0))) fits.1 fits.3 (omega (arith, deep)) h
  whole (AbstractFunction line (Present _) parameters variadic) here rest known s fits deep h direct = absurd (false≢true fits.2.0)
  whole (Pointer line consts d) here rest known s fits deep h direct = absurd (false≢true direct)
  whole (AbstractPointer line consts d) here rest known s fits deep h direct = absurd (false≢true direct)

  -- a pointer that is read as the first form is the declarator
  pub pointer_stays : (d : DeclaratorTree) (here rest : List Token) → is_direct d ≡ false → head names r f here ≡ Some (OfDeclarator d, rest)
      → declarator names r depth f here ≡ Some (OfDeclarator d, rest)
  pointer_stays d here rest e h =
      read_head names K spelled depth r x f here (OfDeclarator d) rest h
      ∙ ap (λ (y : Tree × List Token). let z : Piece = Some y in z) (grown_stop r depth (line_here here) (OfDeclarator d) rest (longer_pointer r depth (line_here here) d rest e))

  -- a pointer to what is read behind
  pub head_pointing : (make : ℕ → DeclaratorTree) (line consts : ℕ) (d : DeclaratorTree) (here rest : List Token) (mid : List Token)
      → line ≡ line_here here
      → ((l : ℕ) → pointing l consts (OfDeclarator d) ≡ OfDeclarator (make l))
      → Takes (kind.Mark mark.Star ∷ const_tokens consts) here mid → DeclaratorFits names.is_type (Fits names) d mid → (end : List Token)
      → Takes (declarator_tokens d) mid end
      → r (place_of f) mid ≡ Some (OfDeclarator d, rest) → head names r f here ≡ Some (OfDeclarator (make line), rest)
  unfolding pointer_tree
  head_pointing make line consts d [] rest mid e is h fits end run read = absurd h
  head_pointing make line consts d (t ∷ ts) rest mid e is h fits end run read =
      on_line (λ l. OfDeclarator (make l)) line t.line rest (head names r f (t ∷ ts)) e
      (head_star names K spelled depth r x f t ts consts mid h.0 h.1 (opening names d mid end fits run).no_consts
      ∙ ap (pointer_tree f t.line consts mid) read ∙ ap (λ (y : Tree). let z : Piece = Some (y, rest) in z) (is t.line))

  -- the parts of a pointer
  pub star_parts : (consts : ℕ) (d : DeclaratorTree) (here rest : List Token) → K here
      → DeclaratorFits names.is_type (Fits names) d (drop (suc consts) here)
      → Takes (kind.Mark mark.Star ∷ (const_tokens consts ++ declarator_tokens d)) here rest
      → (mid : List Token) × Takes (kind.Mark mark.Star ∷ const_tokens consts) here mid × K mid × DeclaratorFits names.is_type (Fits names) d mid × Takes (declarator_tokens d) mid rest
  star_parts consts d [] rest known fits h = absurd h
  star_parts consts d (t ∷ ts) rest known fits h =
      let p = takes_parts (const_tokens consts) (declarator_tokens d) ts rest h.1 in
      let at : drop consts ts ≡ p.0 = consts_left consts ts p.0 p.1 in
      let front : Takes (kind.Mark mark.Star ∷ const_tokens consts) (t ∷ ts) p.0 = (h.0, p.1) in
      (p.0, front, known_behind names K spelled (kind.Mark mark.Star ∷ const_tokens consts) (t ∷ ts) p.0 front known, rw at at fits, p.2)

  pointing_exact : (make : ℕ → DeclaratorTree) (line consts : ℕ) (d : DeclaratorTree) (here rest : List Token) → K here → line ≡ line_here here
      → ((l : ℕ) → pointing l consts (OfDeclarator d) ≡ OfDeclarator (make l)) → is_direct (make line) ≡ false
      → stands (place_of f) (OfDeclarator d) ≡ true
      → DeclaratorFits names.is_type (Fits names) d (drop (suc consts) here) → declarator_depth d ≤ depth
      → Takes (kind.Mark mark.Star ∷ (const_tokens consts ++ declarator_tokens d)) here rest → Stops (place_of f) rest
      → declarator names r depth f here ≡ Some (OfDeclarator (make line), rest)
  pointing_exact make line consts d here rest known e is direct s fits deep h stop =
      let p = star_parts consts d here rest known fits h in
      let read = exact_as names K depth r x f (OfDeclarator d) p.0 rest p.2 s p.3 deep p.4 stop in
      pointer_stays (make line) here rest direct (head_pointing make line consts d here rest p.0 e is p.1 p.3 rest p.4 read)

  alone_exact : (line consts : ℕ) (here rest : List Token) → line ≡ line_here here → allows_abstract f ≡ true
      → Takes (kind.Mark mark.Star ∷ (const_tokens consts ++ [])) here rest
      → Stops (place_of f) rest → declarator names r depth f here ≡ Some (OfDeclarator (AbstractPointer line consts Absent), rest)
  unfolding pointer_tree
  alone_exact line consts [] rest e may h stop = absurd h
  alone_exact line consts (t ∷ ts) rest e may h stop =
      let p = takes_parts (const_tokens consts) [] ts rest h.1 in
      let run : Takes (const_tokens consts) ts rest = rw p.2 at p.1 in
      let closed = abstract_closes f rest may stop in
      let none = x.shut (place_of f) rest (closed_shuts rest closed) in
      pointer_stays (AbstractPointer line consts Absent) (t ∷ ts) rest refl
      (on_line (λ l. OfDeclarator (AbstractPointer l consts Absent)) line t.line rest (head names r f (t ∷ ts)) e
      (head_star names K spelled depth r x f t ts consts rest h.0 run (closed_consts rest closed) ∙ rw (none, may) refl))

  pointers_exact : (d : DeclaratorTree) (here rest : List Token) → K here → stands (place_of f) (OfDeclarator d) ≡ true
      → DeclaratorFits names.is_type (Fits names) d here
      → declarator_depth d ≤ suc depth → Takes (declarator_tokens d) here rest → Stops (place_of f) rest → is_direct d ≡ false
      → declarator names r depth f here ≡ Some (OfDeclarator d, rest)
  pointers_exact (Pointer line consts d) here rest known s fits deep h stop direct =
      pointing_exact (λ l. Pointer l consts d) line consts d here rest known fits.0 (λ l. rw fits.1 refl) refl (stand_like f (Pointer line consts d) d (sym fits.1) s) fits.2 (omega (arith, deep)) h stop
  pointers_exact (AbstractPointer line consts Absent) here rest known s fits deep h stop direct =
      alone_exact line consts here rest fits.0 (abstract_allowed f (AbstractPointer line consts Absent) s refl) h stop
  pointers_exact (AbstractPointer line consts (Present (OfDeclarator d))) here rest known s fits deep h stop direct =
      let unnamed = abstract_unnamed d fits.1.0 in
      pointing_exact (λ l. AbstractPointer l consts (Present (OfDeclarator d))) line consts d here rest known fits.0 (λ l. rw unnamed refl) refl
      (stand_like f (AbstractPointer line consts (Present (OfDeclarator d))) d (sym unnamed) s) fits.1.1 (omega (arith, deep)) h stop
  pointers_exact (AbstractPointer line consts (Present _)) here rest known s fits deep h stop direct = absurd (false≢true fits.1.0)
  pointers_exact _ here rest known s fits deep h stop direct = absurd (true≢false direct)

  exact_by : (direct : Bool) (d : DeclaratorTree) (here rest : List Token) → K here → stands (place_of f) (OfDeclarator d) ≡ true
      → DeclaratorFits names.is_type (Fits names) d here
      → declarator_depth d ≤ suc depth → Takes (declarator_tokens d) here rest → Stops (place_of f) rest → is_direct d ≡ direct
      → declarator names r depth f here ≡ Some (OfDeclarator d, rest)
  exact_by true d here rest known s fits deep h stop direct =
      whole d here rest known s fits deep h direct
      ∙ ap (λ (y : Tree × List Token). let z : Piece = Some y in z) (grown_stop r depth (line_here here) (OfDeclarator d) rest (longer_stops r depth (line_here here) (OfDeclarator d) rest (declarator_ends f rest stop)))
  exact_by false d here rest known s fits deep h stop direct = pointers_exact d here rest known s fits deep h stop direct

  pub declarator_exact : (d : DeclaratorTree) (here rest : List Token) → K here → stands (place_of f) (OfDeclarator d) ≡ true
      → DeclaratorFits names.is_type (Fits names) d here
      → declarator_depth d ≤ suc depth → Takes (declarator_tokens d) here rest → Stops (place_of f) rest
      → declarator names r depth f here ≡ Some (OfDeclarator d, rest)
  declarator_exact d here rest known s fits deep h stop = exact_by (is_direct d) d here rest known s fits deep h stop refl
