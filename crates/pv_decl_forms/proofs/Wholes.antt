-- A declarator that is spelled so is read: reading comes to a direct one, and goes on from there.
use Rattle.std.proofs.Common.{◌≡◌, ◌≤◌, ℕ, zero, suc, Bool, true, false, List, [], ◌∷◌, ◌++◌, drop, Some, None, refl, sym, ap, subst, ◌∙◌}
use Rattle.std.proofs.lemmas.Bool.{le-leb}
use Rattle.pv_token.specs.declared.token_table.Token.{Token}
use Rattle.pv_token.specs.declared.token_table.TokenKind.{TokenKind}
use Rattle.pv_token.specs.declared.token_table.TokenKind.TheVariants as kind
use Rattle.pv_token.specs.declared.words.Word.TheVariants as word
use Rattle.pv_token.specs.declared.marks.Mark.TheVariants as mark
use Rattle.pv_tree.specs.Syntax.{DeclaratorTree, DeclaredName, AbstractArray, AbstractFunction, Tree, OfDeclarator, Trees, OptionalTree, Absent}
use Rattle.pv_tree.specs.Depths.{declarator_depth, optional_depth, trees_depth}
use Rattle.pv_tree.specs.Spelling.{declarator_tokens, optional_tokens, listed_tokens, variadic_tokens, const_tokens}
use Rattle.pv_tree.specs.Grammar.{line_here}
use Rattle.pv_tree.specs.Spells.{Names, begins_type, Fits}
use Rattle.pv_tree.specs.Places.{Place, Specifiers, InitDeclarators, Members, Enumerators, MemberDeclarators, AbstractDeclarators, ParameterDeclarators, Parameters, Initializers, Constants, stands, is_named, is_direct, may_be_variadic}
use Rattle.pv_tree.specs.Fitting.{DeclaratorFits, OptionalFits, ListFits, past}
use Rattle.pv_expr_forms.specs.Reader.{is_close}
use Rattle.pv_expr_forms.proofs.Runs.{Takes, takes_rest, parts_at}
use Rattle.pv_expr_forms.proofs.Heads.{IsSpelled}
use Rattle.pv_decl_forms.specs.declared.forms.Form.{Form}
use Rattle.pv_decl_forms.specs.declared.forms.Form.TheVariants as form
use Rattle.pv_decl_forms.specs.Pieces.{Piece, Reads, is_const}
use Rattle.pv_decl_forms.specs.Declarators.{place_of, allows_name, allows_abstract, paren_tree, array_tree, function_tree, consts_in_row, pointer_tree, pointer, in_parentheses, behind_paren, head_of, head, declarator_on, longer_declarator, longest_declarator, declarator}
use Rattle.pv_decl_forms.proofs.Marks.{after_taken, length_consts}
use Rattle.pv_decl_forms.proofs.Steps.{grown_next}
use Rattle.pv_decl_forms.proofs.Goods.{IsSound, known_behind, comma_shortens}
use Rattle.pv_decl_forms.proofs.Directs.{abstract_unnamed}
use Rattle.pv_decl_forms.proofs.Stops.{Stops, Shuts, Closes, closes, closes_on, closes_stops}
use Rattle.pv_decl_forms.proofs.Beginnings.{opening, first_parameters}
use Rattle.pv_decl_forms.proofs.Exacts.{ExactBy, sized_exact}
use Rattle.pv_decl_forms.proofs.Closings.{parametrized_exact}

-- what stands at one of these places and is not too deep is read
pub record IsExact (names : Names) (K : List Token → Type 0) (depth : ℕ) (at : Place → Bool) (r : Reads) : Type 0 where
  pub sound : IsSound names K depth r
  pub exact : (place : Place) → at place ≡ true → ExactBy names K place depth (r place)
  pub shut : (place : Place) (ts : List Token) → Shuts ts → r place ts ≡ None
  pub typeless : (ts : List Token) → begins_type names ts ≡ false → r Specifiers ts ≡ None

-- the places of nodes in declarations, and all of their places
abbrev pub of_nodes : Place → Bool
of_nodes Specifiers = true
of_nodes MemberDeclarators = true
of_nodes AbstractDeclarators = true
of_nodes ParameterDeclarators = true
of_nodes Parameters = true
of_nodes Initializers = true
of_nodes Constants = true
of_nodes _ = false

abbrev pub of_parts : Place → Bool
of_parts InitDeclarators = true
of_parts Members = true
of_parts Enumerators = true
of_parts place = of_nodes place

pub exact_as : (names : Names) (K : List Token → Type 0) (depth : ℕ) (r : Reads) → IsExact names K depth of_parts r → (f : Form)
    → ExactBy names K (place_of f) depth (r (place_of f))
exact_as names K depth r x form.Named = x.exact MemberDeclarators refl
exact_as names K depth r x form.Abstract = x.exact AbstractDeclarators refl
exact_as names K depth r x form.Either = x.exact ParameterDeclarators refl

pub name_allowed : (f : Form) (d : DeclaratorTree) → stands (place_of f) (OfDeclarator d) ≡ true → is_named d ≡ true → allows_name f ≡ true
name_allowed form.Named d s e = refl
name_allowed form.Abstract d s e = absurd (let h = abstract_unnamed d s in cc)
name_allowed form.Either d s e = refl

pub abstract_allowed : (f : Form) (d : DeclaratorTree) → stands (place_of f) (OfDeclarator d) ≡ true → is_named d ≡ false → allows_abstract f ≡ true
abstract_allowed form.Named d s e = absurd cc
abstract_allowed form.Abstract d s e = refl
abstract_allowed form.Either d s e = refl

-- on the line of the first token
pub on_line : (make : ℕ → Tree) (line first : ℕ) (rest : List Token) (o : Piece) → line ≡ first → o ≡ Some (make first, rest)
    → o ≡ Some (make line, rest)
on_line make line first rest o e h = h ∙ ap (λ (l : ℕ). let y : Piece = Some (make l, rest) in y) (sym e)

-- ---- words `const` in a row

pub consts_exact : (n : ℕ) (ts mid : List Token) → Takes (const_tokens n) ts mid → consts_in_row mid ≡ 0 → consts_in_row ts ≡ n
consts_exact zero ts mid h none = ap consts_in_row h ∙ none
consts_exact (suc n) [] mid h none = absurd h
consts_exact (suc n) (t ∷ ts) mid h none =
    let c : is_const t.kind ≡ true = ap is_const h.0 in
    rw c (ap suc (consts_exact n ts mid h.1 none))

pub consts_left : (n : ℕ) (ts mid : List Token) → Takes (const_tokens n) ts mid → drop n ts ≡ mid
consts_left n ts mid h = ap (λ (k : ℕ). drop k ts) (sym (length_consts n)) ∙ takes_rest (const_tokens n) ts mid h

close_no_const : (k : TokenKind) → closes k ≡ true → is_const k ≡ false
close_no_const (kind.Word word.Const) e = absurd cc
close_no_const _ e = refl

pub closed_consts : (ts : List Token) → Closes ts → consts_in_row ts ≡ 0
closed_consts [] c = refl
closed_consts (t ∷ ts) c = rw (close_no_const t.kind c) refl

-- an abstract declarator ends where something closes
pub abstract_closes : (f : Form) (ts : List Token) → allows_abstract f ≡ true → Stops (place_of f) ts → Closes ts
abstract_closes f [] a s = tt
abstract_closes form.Named (t ∷ ts) a s = absurd cc
abstract_closes form.Abstract (t ∷ ts) a s = s
abstract_closes form.Either (t ∷ ts) a s = s

pub declarator_ends : (f : Form) (ts : List Token) → Stops (place_of f) ts → Stops MemberDeclarators ts
declarator_ends form.Named ts s = s
declarator_ends form.Abstract [] s = tt
declarator_ends form.Abstract (t ∷ ts) s = closes_stops MemberDeclarators (t ∷ ts) s
declarator_ends form.Either [] s = tt
declarator_ends form.Either (t ∷ ts) s = closes_stops MemberDeclarators (t ∷ ts) s

module _ (names : Names) (K : List Token → Type 0) (spelled : IsSpelled names K) (depth : ℕ) (r : Reads) (x : IsExact names K depth of_parts r) (f : Form) where
  -- ---- how it begins

  head_as : (t : Token) (ts : List Token) (k : TokenKind) → t.kind ≡ k → head names r f (t ∷ ts) ≡ head_of names r f t.line k ts
  unfolding head
  head_as t ts k e = ap (λ (y : TokenKind). head_of names r f t.line y ts) e

  pub head_name : (t : Token) (ts : List Token) (n : ℕ) → t.kind ≡ kind.Name n → names.is_type n ≡ false → allows_name f ≡ true
      → head names r f (t ∷ ts) ≡ Some (OfDeclarator (DeclaredName t.line n), ts)
  unfolding head_of
  head_name t ts n k free may = head_as t ts (kind.Name n) k ∙ rw (free, may) refl

  pub head_paren : (t : Token) (ts : List Token) (d : DeclaratorTree) (rest : List Token) → K ts → t.kind ≡ kind.Mark mark.OpenParen
      → stands (place_of f) (OfDeclarator d) ≡ true
      → DeclaratorFits names.is_type (Fits names) d ts → declarator_depth d ≤ depth
      → Takes (declarator_tokens d ++ kind.Mark mark.CloseParen ∷ []) ts rest
      → head names r f (t ∷ ts) ≡ Some (paren_tree t.line (OfDeclarator d), rest)
  unfolding head_of behind_paren in_parentheses
  head_paren t ts d rest known k s fits deep h =
      let p = parts_at (declarator_tokens d) (kind.Mark mark.CloseParen) [] ts rest h in
      let o = opening names d ts (p.token ∷ p.after) fits p.left in
      let end = closes_on (kind.Mark mark.CloseParen) p.token p.after p.kind refl in
      let e = exact_as names K depth r x f (OfDeclarator d) ts (p.token ∷ p.after) known s fits deep p.left (closes_stops (place_of f) (p.token ∷ p.after) end) in
      let c = after_taken is_close (kind.Mark mark.CloseParen) (p.token ∷ p.after) rest refl (p.kind, p.right) in
      head_as t ts (kind.Mark mark.OpenParen) k ∙ rw (o.no_parameters, e, c) refl

  pub head_parameters : (t : Token) (ts : List Token) (parameters : Trees) (variadic : Bool) (rest : List Token) → K ts
      → t.kind ≡ kind.Mark mark.OpenParen → allows_abstract f ≡ true
      → may_be_variadic parameters variadic ≡ true → ListFits names.is_type (Fits names) Parameters parameters ts → trees_depth parameters ≤ depth
      → Takes ((listed_tokens parameters ++ variadic_tokens variadic) ++ kind.Mark mark.CloseParen ∷ []) ts rest
      → head names r f (t ∷ ts) ≡ Some (OfDeclarator (AbstractFunction t.line Absent parameters variadic), rest)
  unfolding head_of behind_paren
  head_parameters t ts parameters variadic rest known k may vary fits deep h =
      let opens = first_parameters names parameters variadic ts rest fits vary h in
      head_as t ts (kind.Mark mark.OpenParen) k
      ∙ rw (opens, may) (parametrized_exact names K spelled depth r (x.exact Parameters refl) (x.shut Parameters) (comma_shortens names K spelled depth r x.sound Parameters)
      (λ ps v. OfDeclarator (AbstractFunction t.line Absent ps v)) parameters variadic ts rest known vary fits deep h)

  pub head_size : (t : Token) (ts : List Token) (size : OptionalTree) (rest : List Token) → K ts → t.kind ≡ kind.Mark mark.OpenBracket
      → allows_abstract f ≡ true
      → OptionalFits names.is_type (Fits names) Constants size ts → optional_depth size ≤ depth
      → Takes (optional_tokens size ++ kind.Mark mark.CloseBracket ∷ []) ts rest
      → head names r f (t ∷ ts) ≡ Some (OfDeclarator (AbstractArray t.line Absent size), rest)
  unfolding head_of
  head_size t ts size rest known k may fits deep h =
      head_as t ts (kind.Mark mark.OpenBracket) k
      ∙ rw may (sized_exact names K spelled depth r (x.exact Constants refl) (x.shut Constants) (λ s. OfDeclarator (AbstractArray t.line Absent s)) size ts rest known fits deep h)

  -- behind a star and words `const`
  pub head_star : (t : Token) (ts : List Token) (consts : ℕ) (mid : List Token) → t.kind ≡ kind.Mark mark.Star → Takes (const_tokens consts) ts mid
      → consts_in_row mid ≡ 0
      → head names r f (t ∷ ts) ≡ pointer_tree f t.line consts mid (r (place_of f) mid)
  unfolding head_of pointer
  head_star t ts consts mid k h none =
      head_as t ts (kind.Mark mark.Star) k ∙ rw (consts_exact consts ts mid h none, consts_left consts ts mid h) refl

  pub read_head : (here : List Token) (a : Tree) (rest : List Token) → head names r f here ≡ Some (a, rest)
      → declarator names r depth f here ≡ Some (longest_declarator r depth (line_here here) a rest)
  unfolding declarator
  read_head here a rest e = rw e refl

  -- ---- how it goes on

  longer_as : (line : ℕ) (d : DeclaratorTree) (t : Token) (ts : List Token) (k : TokenKind) (a : Tree) (rest : List Token) → is_direct d ≡ true
      → declarator_depth d ≤ depth
      → t.kind ≡ k → declarator_on r line (OfDeclarator d) k ts ≡ Some (a, rest) → longer_declarator r depth line (OfDeclarator d) (t ∷ ts) ≡ Some (a, rest)
  unfolding longer_declarator
  longer_as line d t ts k a rest direct low e s =
      rw (direct, le-leb (declarator_depth d) depth low) (ap (λ (y : TokenKind). declarator_on r line (OfDeclarator d) y ts) e ∙ s)

  -- reading comes to a declarator, and goes on from there
  abbrev pub IsWhole : DeclaratorTree → (here rest : List Token) → Type 0
  IsWhole d here rest = declarator names r depth f here ≡ Some (longest_declarator r depth (line_here here) (OfDeclarator d) rest)

  goes_on : (d : DeclaratorTree) (here mid : List Token) (a : Tree) (rest : List Token) → IsWhole d here mid
      → longer_declarator r depth (line_here here) (OfDeclarator d) mid ≡ Some (a, rest)
      → declarator names r depth f here ≡ Some (longest_declarator r depth (line_here here) a rest)
  goes_on d here mid a rest w e =
      w ∙ ap (λ (y : Tree × List Token). let z : Piece = Some y in z) (grown_next r depth (line_here here) (OfDeclarator d) mid a rest e)

  module _ (d : DeclaratorTree) (here : List Token) (known : K here) (direct : is_direct d ≡ true) (low : declarator_depth d ≤ depth)
      (w : (mid : List Token) → Takes (declarator_tokens d) here mid → IsWhole d here mid) where
    pub whole_array : (size : OptionalTree) (a : DeclaratorTree) (rest : List Token) → array_tree (line_here here) (OfDeclarator d) size ≡ OfDeclarator a
        → OptionalFits names.is_type (Fits names) Constants size (drop 1 (past (declarator_tokens d) here)) → optional_depth size ≤ depth
        → Takes (declarator_tokens d ++ (kind.Mark mark.OpenBracket ∷ (optional_tokens size ++ kind.Mark mark.CloseBracket ∷ []))) here rest
        → IsWhole a here rest
    unfolding declarator_on
    whole_array size a rest is fits deep h =
        let p = parts_at (declarator_tokens d) (kind.Mark mark.OpenBracket) (optional_tokens size ++ kind.Mark mark.CloseBracket ∷ []) here rest h in
        let behind : drop 1 (past (declarator_tokens d) here) ≡ p.after = ap (drop 1) (takes_rest (declarator_tokens d) here (p.token ∷ p.after) p.left) in
        let known' = spelled.tail p.token p.after (known_behind names K spelled (declarator_tokens d) here (p.token ∷ p.after) p.left known) in
        let e = sized_exact names K spelled depth r (x.exact Constants refl) (x.shut Constants) (array_tree (line_here here) (OfDeclarator d)) size p.after rest known'
        (subst (λ (y : List Token). OptionalFits names.is_type (Fits names) Constants size y) behind fits) deep p.right in
        let l = longer_as (line_here here) d p.token p.after (kind.Mark mark.OpenBracket) (array_tree (line_here here) (OfDeclarator d) size) rest direct low p.kind e in
        goes_on d here (p.token ∷ p.after) (OfDeclarator a) rest (w (p.token ∷ p.after) p.left) (subst (λ (y : Tree). longer_declarator r depth (line_here here) (OfDeclarator d) (p.token ∷ p.after) ≡ Some (y, rest)) is l)

    pub whole_function : (parameters : Trees) (variadic : Bool) (a : DeclaratorTree) (rest : List Token)
        → function_tree (line_here here) (OfDeclarator d) parameters variadic ≡ OfDeclarator a
        → may_be_variadic parameters variadic ≡ true
        → ListFits names.is_type (Fits names) Parameters parameters (drop 1 (past (declarator_tokens d) here)) → trees_depth parameters ≤ depth
        → Takes (declarator_tokens d ++ (kind.Mark mark.OpenParen ∷ ((listed_tokens parameters ++ variadic_tokens variadic) ++ kind.Mark mark.CloseParen ∷ []))) here rest
        → IsWhole a here rest
    unfolding declarator_on
    whole_function parameters variadic a rest is vary fits deep h =
        let p = parts_at (declarator_tokens d) (kind.Mark mark.OpenParen) ((listed_tokens parameters ++ variadic_tokens variadic) ++ kind.Mark mark.CloseParen ∷ []) here rest h in
        let behind : drop 1 (past (declarator_tokens d) here) ≡ p.after = ap (drop 1) (takes_rest (declarator_tokens d) here (p.token ∷ p.after) p.left) in
        let known' = spelled.tail p.token p.after (known_behind names K spelled (declarator_tokens d) here (p.token ∷ p.after) p.left known) in
        let e = parametrized_exact names K spelled depth r (x.exact Parameters refl) (x.shut Parameters) (comma_shortens names K spelled depth r x.sound Parameters)
        (function_tree (line_here here) (OfDeclarator d)) parameters variadic p.after rest known' vary
        (subst (λ (y : List Token). ListFits names.is_type (Fits names) Parameters parameters y) behind fits) deep p.right in
        let l = longer_as (line_here here) d p.token p.after (kind.Mark mark.OpenParen) (function_tree (line_here here) (OfDeclarator d) parameters variadic) rest direct low p.kind e in
        goes_on d here (p.token ∷ p.after) (OfDeclarator a) rest (w (p.token ∷ p.after) p.left) (subst (λ (y : Tree). longer_declarator r depth (line_here here) (OfDeclarator d) (p.token ∷ p.after) ≡ Some (y, rest)) is l)

  -- ---- forms that begin

  pub whole_name : (line n : ℕ) (here rest : List Token) → line ≡ line_here here → names.is_type n ≡ false → allows_name f ≡ true
      → Takes (kind.Name n ∷ []) here rest
      → IsWhole (DeclaredName line n) here rest
  whole_name line n [] rest e free may h = absurd h
  whole_name line n (t ∷ ts) rest e free may h =
      read_head (t ∷ ts) (OfDeclarator (DeclaredName line n)) rest
      (on_line (λ l. OfDeclarator (DeclaredName l n)) line t.line rest (head names r f (t ∷ ts)) e
      (head_name t ts n h.0 free may ∙ ap (λ (y : List Token). let z : Piece = Some (OfDeclarator (DeclaredName t.line n), y) in z) h.1))

  -- a declarator in parentheses
  pub whole_paren : (make : ℕ → DeclaratorTree) (line : ℕ) (d : DeclaratorTree) (here rest : List Token) → K here → line ≡ line_here here
      → stands (place_of f) (OfDeclarator d) ≡ true
      → ((l : ℕ) → paren_tree l (OfDeclarator d) ≡ OfDeclarator (make l)) → DeclaratorFits names.is_type (Fits names) d (drop 1 here)
      → declarator_depth d ≤ depth
      → Takes (kind.Mark mark.OpenParen ∷ (declarator_tokens d ++ kind.Mark mark.CloseParen ∷ [])) here rest → IsWhole (make line) here rest
  whole_paren make line d [] rest known e s is fits deep h = absurd h
  whole_paren make line d (t ∷ ts) rest known e s is fits deep h =
      read_head (t ∷ ts) (OfDeclarator (make line)) rest
      (on_line (λ l. OfDeclarator (make l)) line t.line rest (head names r f (t ∷ ts)) e
      (head_paren t ts d rest (spelled.tail t ts known) h.0 s fits deep h.1 ∙ ap (λ (y : Tree). let z : Piece = Some (y, rest) in z) (is t.line)))

  pub whole_parameters : (line : ℕ) (parameters : Trees) (variadic : Bool) (here rest : List Token) → K here → line ≡ line_here here
      → allows_abstract f ≡ true
      → may_be_variadic parameters variadic ≡ true → ListFits names.is_type (Fits names) Parameters parameters (drop 1 here)
      → trees_depth parameters ≤ depth
      → Takes (kind.Mark mark.OpenParen ∷ ((listed_tokens parameters ++ variadic_tokens variadic) ++ kind.Mark mark.CloseParen ∷ [])) here rest
      → IsWhole (AbstractFunction line Absent parameters variadic) here rest
  whole_parameters line parameters variadic [] rest known e may vary fits deep h = absurd h
  whole_parameters line parameters variadic (t ∷ ts) rest known e may vary fits deep h =
      read_head (t ∷ ts) (OfDeclarator (AbstractFunction line Absent parameters variadic)) rest
      (on_line (λ l. OfDeclarator (AbstractFunction l Absent parameters variadic)) line t.line rest (head names r f (t ∷ ts)) e
      (head_parameters t ts parameters variadic rest (spelled.tail t ts known) h.0 may vary fits deep h.1))

  pub whole_size : (line : ℕ) (size : OptionalTree) (here rest : List Token) → K here → line ≡ line_here here → allows_abstract f ≡ true
      → OptionalFits names.is_type (Fits names) Constants size (drop 1 here) → optional_depth size ≤ depth
      → Takes (kind.Mark mark.OpenBracket ∷ (optional_tokens size ++ kind.Mark mark.CloseBracket ∷ [])) here rest
      → IsWhole (AbstractArray line Absent size) here rest
  whole_size line size [] rest known e may fits deep h = absurd h
  whole_size line size (t ∷ ts) rest known e may fits deep h =
      read_head (t ∷ ts) (OfDeclarator (AbstractArray line Absent size)) rest
      (on_line (λ l. OfDeclarator (AbstractArray l Absent size)) line t.line rest (head names r f (t ∷ ts)) e
      (head_size t ts size rest (spelled.tail t ts known) h.0 may fits deep h.1))
