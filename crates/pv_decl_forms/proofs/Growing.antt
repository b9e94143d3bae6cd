-- Declarators: how one begins, and how it goes on.
use Rattle.std.proofs.Common.{◌≡◌, ◌≢◌, ◌≤◌, ◌<◌, ◌-◌, ◌&&◌, ℕ, zero, suc, Bool, true, false, if◌then◌else◌, List, [], ◌∷◌, All, length, drop, Option, Some, None, option_map, option_and_then, refl, sym, ap, subst, ◌∙◌, arith, sub-one, nat_eq, nat_le}
use Rattle.std.specs.Prelude.{IfSome}
use Rattle.indexmap.specs.IndexSet.{IndexSet, contains}
use Rattle.pv_token.specs.declared.token_table.Token.{Token}
use Rattle.pv_token.specs.declared.token_table.TokenKind.{TokenKind}
use Rattle.pv_token.specs.declared.token_table.TokenKind.TheVariants as kind
use Rattle.pv_token.specs.declared.marks.Mark.TheVariants as mark
use Rattle.pv_tree.specs.declared.nodes.NodeId.{NodeId}
use Rattle.pv_tree.specs.Syntax.{Tree, OptionalTree, Absent, Present}
use Rattle.pv_tree.specs.Depths.{declarator_depth}
use Rattle.pv_tree.specs.Grammar.{line_here}
use Rattle.pv_tree.specs.Spells.{Names}
use Rattle.pv_tree.specs.Places.{Parameters, is_direct}
use Rattle.pv_tree.specs.Tables.{Tables, tree_at, as_declarator, optional_at, trees_of, is_declaration, is_declarator, Is, Extends}
use Rattle.pv_tree.specs.TypeNames.{TypeMap, names_of, AreTied}
use Rattle.pv_tree.proofs.Kept.{tree_kept, is_kept}
use Rattle.pv_expr_forms.specs.Known.{names_in}
use Rattle.pv_expr_forms.proofs.Naming.{names_kept}
use Rattle.pv_decl_forms.specs.declared.forms.Form.{Form}
use Rattle.pv_decl_forms.specs.declared.forms.Opening.{Opening}
use Rattle.pv_decl_forms.specs.declared.forms.Opening.TheVariants as opening
use Rattle.pv_decl_forms.specs.Pieces.{Piece, Reads, comma_list}
use Rattle.pv_decl_forms.specs.Declarators.{place_of, allows_abstract, consts_in_row, size_behind, with_parameters, parameters_behind, pointer_tree, pointer, opens_parameters, in_parentheses, behind_paren, head_of, head, declarator_on, longer_declarator, longest_declarator, declarator}
use Rattle.pv_decl_forms.specs.Reader.{readers}
use Rattle.pv_decl_forms.specs.Parts.{opening_of, named_of, array_of, function_of}
use Rattle.pv_decl_forms.specs.Answers.{Answers}
use Rattle.pv_decl_forms.specs.Rows.{AreAnswered}
use Rattle.pv_decl_forms.proofs.Answered.{got, got_none}
use Rattle.pv_decl_forms.proofs.Constants.{optional_kept}
use Rattle.pv_decl_forms.proofs.Rounds.{declarator_by, no_declarator}
use Rattle.pv_decl_forms.proofs.Steps.{grown_stop}

-- ---- how one begins

module _ (names : Names) (below : Reads) (f : Form) (line : ℕ) (ts : List Token) where
  by_none : (k : TokenKind) → opening_of k ≡ None → None ≡ head_of names below f line k ts
  unfolding head_of
  by_none (kind.Name n) e = absurd cc
  by_none (kind.Mark mark.Star) e = absurd cc
  by_none (kind.Mark mark.OpenParen) e = absurd cc
  by_none (kind.Mark mark.OpenBracket) e = absurd cc
  by_none _ e = refl

  by_name : (k : TokenKind) (n : ℕ) → opening_of k ≡ Some (opening.Name n) → named_of names.is_type f line n ts ≡ head_of names below f line k ts
  unfolding named_of head_of
  by_name (kind.Name m) n e = let p : n ≡ m = cc in ap (λ (x : ℕ). named_of names.is_type f line x ts) p
  by_name (kind.Mark mark.Star) n e = absurd cc
  by_name _ n e = absurd cc

  by_star : (k : TokenKind) → opening_of k ≡ Some opening.Star → pointer below f line (consts_in_row ts) (drop (consts_in_row ts) ts) ≡ head_of names below f line k ts
  unfolding head_of
  by_star (kind.Mark mark.Star) e = refl
  by_star _ e = absurd cc

  by_paren : (k : TokenKind) → opening_of k ≡ Some opening.Paren → behind_paren names below f line ts ≡ head_of names below f line k ts
  unfolding head_of
  by_paren (kind.Mark mark.OpenParen) e = refl
  by_paren _ e = absurd cc

  by_bracket : (k : TokenKind) → opening_of k ≡ Some opening.Bracket → (if allows_abstract f then size_behind (array_of line Absent) below ts else None) ≡ head_of names below f line k ts
  unfolding head_of
  by_bracket (kind.Mark mark.OpenBracket) e = refl
  by_bracket _ e = absurd cc

pub head_end : (names : Names) (below : Reads) (f : Form) (ts : List Token) → ts ≡ [] → None ≡ head names below f ts
unfolding head
head_end names below f ts e = ap (head names below f) (sym e)

module _ (names : Names) (below : Reads) (f : Form) (ts : List Token) (t : Token) (rest : List Token) (is : ts ≡ t ∷ rest) where
  at_first : (o : Piece) → o ≡ head_of names below f t.line t.kind rest → o ≡ head names below f ts
  unfolding head
  at_first o e = e ∙ ap (head names below f) (sym is)

  pub head_other : opening_of t.kind ≡ None → None ≡ head names below f ts
  head_other e = at_first _ (by_none names below f t.line rest t.kind e)

  module _ (o : Opening) (e : opening_of t.kind ≡ Some o) where
    so : (p : Opening) → o ≡ p → opening_of t.kind ≡ Some p
    so p h = e ∙ ap (λ (x : Opening). let y : Option Opening = Some x in y) h

    pub head_named : (n : ℕ) → o ≡ opening.Name n → named_of names.is_type f t.line n rest ≡ head names below f ts
    head_named n h = at_first _ (by_name names below f t.line rest t.kind n (so (opening.Name n) h))

    pub head_star : o ≡ opening.Star → pointer below f t.line (consts_in_row rest) (drop (consts_in_row rest) rest) ≡ head names below f ts
    head_star h = at_first _ (by_star names below f t.line rest t.kind (so opening.Star h))

    pub head_paren : o ≡ opening.Paren → behind_paren names below f t.line rest ≡ head names below f ts
    head_paren h = at_first _ (by_paren names below f t.line rest t.kind (so opening.Paren h))

    pub head_bracket : o ≡ opening.Bracket → (if allows_abstract f then size_behind (array_of t.line Absent) below rest else None) ≡ head names below f ts
    head_bracket h = at_first _ (by_bracket names below f t.line rest t.kind (so opening.Bracket h))

-- a name, by the set of typedef names
pub named_in : {S : Type 0} (typedefs : IndexSet ℕ S) (types : TypeMap) (u : Tables) (tokens : List Token) (f : Form) (line n : ℕ) (ts : List Token)
    → named_of (contains nat_eq typedefs) f line n ts ≡ named_of (names_in typedefs types u tokens).is_type f line n ts
unfolding names_in names_of
named_in typedefs types u tokens f line n ts = refl

-- behind `*`, once it is read what is pointed from
pub pointer_is : (below : Reads) (f : Form) (line count : ℕ) (here behind : List Token) (o : Piece) → count ≡ consts_in_row here → behind ≡ drop count here → o ≡ below (place_of f) behind
    → pointer_tree f line count behind o ≡ pointer below f line (consts_in_row here) (drop (consts_in_row here) here)
unfolding pointer
pointer_is below f line count here behind o c b e =
    ap (pointer_tree f line count behind) e
    ∙ ap (λ (ts : List Token). pointer below f line count ts) b
    ∙ ap (λ (n : ℕ). pointer below f line n (drop n here)) c

-- behind `(`
module _ (names : Names) (below : Reads) (f : Form) (line : ℕ) (ts : List Token) where
  pub opened_function : opens_parameters names ts ≡ true → allows_abstract f ≡ true → parameters_behind (function_of line Absent) below ts ≡ behind_paren names below f line ts
  unfolding behind_paren
  opened_function e a = rw (e, a) refl

  pub opened_not : opens_parameters names ts ≡ true → allows_abstract f ≡ false → None ≡ behind_paren names below f line ts
  unfolding behind_paren
  opened_not e a = rw (e, a) refl

  pub opened_within : opens_parameters names ts ≡ false → (o : Piece) → o ≡ below (place_of f) ts → option_and_then (λ x. in_parentheses line x.0 x.1) o ≡ behind_paren names below f line ts
  unfolding behind_paren
  opened_within e o h = rw e (ap (option_and_then (λ (x : Tree × List Token). in_parentheses line x.0 x.1)) h)

-- ---- how one goes on

module _ (below : Reads) (line : ℕ) (left : Tree) (ts : List Token) where
  on_none : (k : TokenKind) → opening_of k ≡ None → None ≡ declarator_on below line left k ts
  unfolding declarator_on
  on_none (kind.Mark mark.OpenBracket) e = absurd cc
  on_none (kind.Mark mark.OpenParen) e = absurd cc
  on_none _ e = refl

  on_other : (k : TokenKind) (o : Opening) → opening_of k ≡ Some o → o ≢ opening.Bracket → o ≢ opening.Paren → None ≡ declarator_on below line left k ts
  unfolding declarator_on
  on_other (kind.Mark mark.OpenBracket) o e p q = let h : o ≡ opening.Bracket = cc in absurd (p h)
  on_other (kind.Mark mark.OpenParen) o e p q = let h : o ≡ opening.Paren = cc in absurd (q h)
  on_other _ o e p q = refl

  on_bracket : (k : TokenKind) (o : Opening) → opening_of k ≡ Some o → o ≡ opening.Bracket → size_behind (array_of line (Present left)) below ts ≡ declarator_on below line left k ts
  unfolding declarator_on
  on_bracket (kind.Mark mark.OpenBracket) o e h = refl
  on_bracket _ o e h = absurd cc

  on_paren : (k : TokenKind) (o : Opening) → opening_of k ≡ Some o → o ≡ opening.Paren → parameters_behind (function_of line (Present left)) below ts ≡ declarator_on below line left k ts
  unfolding declarator_on
  on_paren (kind.Mark mark.OpenParen) o e h = refl
  on_paren _ o e h = absurd cc

module _ (below : Reads) (depth line : ℕ) (left : Tree) where
  pub longer_not : (ts : List Token) → (is_direct (as_declarator left) && nat_le (declarator_depth (as_declarator left)) depth) ≡ false → None ≡ longer_declarator below depth line left ts
  unfolding longer_declarator
  longer_not [] e = refl
  longer_not (t ∷ ts) e = rw e refl

  pub longer_end : (ts : List Token) → ts ≡ [] → None ≡ longer_declarator below depth line left ts
  unfolding longer_declarator
  longer_end ts e = ap (longer_declarator below depth line left) (sym e)

  module _ (may : (is_direct (as_declarator left) && nat_le (declarator_depth (as_declarator left)) depth) ≡ true) (ts : List Token) (t : Token) (rest : List Token) (is : ts ≡ t ∷ rest) where
    first_on : declarator_on below line left t.kind rest ≡ longer_declarator below depth line left (t ∷ rest)
    unfolding longer_declarator
    first_on = rw may refl

    on_first : (o : Piece) → o ≡ declarator_on below line left t.kind rest → o ≡ longer_declarator below depth line left ts
    on_first o e = e ∙ first_on ∙ ap (longer_declarator below depth line left) (sym is)

    pub longer_none : opening_of t.kind ≡ None → None ≡ longer_declarator below depth line left ts
    longer_none e = on_first _ (on_none below line left rest t.kind e)

    module _ (o : Opening) (e : opening_of t.kind ≡ Some o) where
      pub longer_other : o ≢ opening.Bracket → o ≢ opening.Paren → None ≡ longer_declarator below depth line left ts
      longer_other p q = on_first _ (on_other below line left rest t.kind o e p q)

      pub longer_bracket : o ≡ opening.Bracket → size_behind (array_of line (Present left)) below rest ≡ longer_declarator below depth line left ts
      longer_bracket h = on_first _ (on_bracket below line left rest t.kind o e h)

      pub longer_paren : o ≡ opening.Paren → parameters_behind (function_of line (Present left)) below rest ≡ longer_declarator below depth line left ts
      longer_paren h = on_first _ (on_paren below line left rest t.kind o e h)

-- ---- parameters behind one that may be left out

pub some_kept : (u v : Tables) (kind : Tree → Bool) (o : Option NodeId) → Extends u v → IfSome o (λ n. Is u kind n) → IfSome o (λ n. Is v kind n)
some_kept u v kind None e h = h
some_kept u v kind (Some n) e h = is_kept u v kind n e h

pub all_as : (u : Tables) (kind : Tree → Bool) (ns ms : List NodeId) → ms ≡ ns → All (λ n. Is u kind n) ns → All (λ n. Is u kind n) ms
all_as u kind ns ms e all = subst (λ (xs : List NodeId). All (λ n. Is u kind n) xs) (sym e) all

pub parametrized_is : (u v : Tables) (tokens : List Token) (line at : ℕ) (below : Reads) (left : Option NodeId) → Extends u v → IfSome left (λ n. Is u is_declarator n) → (ns ms : List NodeId) (end : ℕ) → ms ≡ ns
    → AreAnswered v is_declaration tokens ns end (comma_list (below Parameters) (drop at tokens))
    → with_parameters (function_of line (optional_at v.forest left)) (trees_of v.forest ms, drop end tokens) ≡ parameters_behind (function_of line (optional_at u.forest left)) below (drop at tokens)
unfolding parameters_behind
parametrized_is u v tokens line at below left keeps there ns ms end e a =
    ap (λ (o : OptionalTree). with_parameters (function_of line o) (trees_of v.forest ms, drop end tokens)) (optional_kept u v is_declarator left keeps there)
    ∙ ap (λ (xs : List NodeId). with_parameters (function_of line (optional_at u.forest left)) (trees_of v.forest xs, drop end tokens)) e
    ∙ ap (with_parameters (function_of line (optional_at u.forest left))) a.is

-- ---- growth

module _ (below : Reads) (depth line : ℕ) (u v : Tables) (tokens : List Token) (left : NodeId) (at : ℕ) (answer : Option (NodeId × ℕ))
    (a : Answers v is_declarator tokens answer (longer_declarator below depth line (tree_at u.forest left) (drop at tokens))) where
  -- one that grew
  pub grew : (n : NodeId) (next : ℕ) → answer ≡ Some (n, next) → longer_declarator below depth line (tree_at u.forest left) (drop at tokens) ≡ Some (tree_at v.forest n, drop next tokens)
  grew n next e = sym (got v is_declarator tokens answer _ n next a e).0

  -- one that grew no more
  pub grew_out : (whole : Tree × List Token) → answer ≡ None → Extends u v → Is u is_declarator left → at ≤ length tokens → longest_declarator below depth line (tree_at u.forest left) (drop at tokens) ≡ whole
      → Answers v is_declarator tokens (Some (left, at)) (Some whole)
  grew_out whole e k there place same =
      let stop = sym (got_none v is_declarator tokens answer _ a e) in
      record {
        is = ap (λ (t : Tree). let x : Tree × List Token = (t, drop at tokens) in Some x) (tree_kept u v left k there.0)
            ∙ ap (λ (x : Tree × List Token). let y : Piece = Some x in y) (sym (grown_stop below depth line (tree_at u.forest left) (drop at tokens) stop) ∙ same);
        there = (is_kept u v is_declarator left k there, place);
      }

-- ---- the whole

pub no_declarators : (names : Names) (depth : ℕ) (f : Form) (ts : List Token) → depth ≡ 0 → None ≡ readers names depth (place_of f) ts
no_declarators names depth f ts e = sym (no_declarator names f ts) ∙ ap (λ (d : ℕ). readers names d (place_of f) ts) (sym e)

declarators_are : (names : Names) (depth : ℕ) (f : Form) (ts : List Token) → 0 < depth → declarator names (readers names (depth - 1)) (depth - 1) f ts ≡ readers names depth (place_of f) ts
declarators_are names zero f ts h = absurd (omega arith)
declarators_are names (suc depth) f ts h = rw sub-one (sym (declarator_by names depth f ts))

module _ {S : Type 0} (typedefs : IndexSet ℕ S) (types : TypeMap) (u v : Tables) (tokens : List Token) (tied : AreTied types u tokens) (keeps : Extends u v) (depth at : ℕ) (f : Form) (positive : 0 < depth)
    (answer : Option (NodeId × ℕ)) (a : Answers v is_declarator tokens answer (head (names_in typedefs types u tokens) (readers (names_in typedefs types u tokens) (depth - 1)) f (drop at tokens))) where
  from_head : (o : Piece) → o ≡ head (names_in typedefs types u tokens) (readers (names_in typedefs types u tokens) (depth - 1)) f (drop at tokens)
      → option_map (λ x. longest_declarator (readers (names_in typedefs types u tokens) (depth - 1)) (depth - 1) (line_here (drop at tokens)) x.0 x.1) o ≡ readers (names_in typedefs types u tokens) depth (place_of f) (drop at tokens)
  unfolding declarator
  from_head o e =
      ap (option_map (λ (x : Tree × List Token). longest_declarator (readers (names_in typedefs types u tokens) (depth - 1)) (depth - 1) (line_here (drop at tokens)) x.0 x.1)) e
      ∙ declarators_are (names_in typedefs types u tokens) depth f (drop at tokens) positive

  pub declarator_none : answer ≡ None → None ≡ readers (names_in typedefs types u tokens) depth (place_of f) (drop at tokens)
  declarator_none e = from_head None (got_none v is_declarator tokens answer _ a e)

  pub declarator_some : (n : NodeId) (next line : ℕ) → answer ≡ Some (n, next) → line ≡ line_here (drop at tokens)
      → Some (longest_declarator (readers (names_in typedefs types v tokens) (depth - 1)) (depth - 1) line (tree_at v.forest n) (drop next tokens)) ≡ readers (names_in typedefs types u tokens) depth (place_of f) (drop at tokens)
  declarator_some n next line e l =
      ap (λ (m : Names). let y : Piece = Some (longest_declarator (readers m (depth - 1)) (depth - 1) line (tree_at v.forest n) (drop next tokens)) in y) (names_kept typedefs types u v tokens tied keeps)
      ∙ ap (λ (k : ℕ). let y : Piece = Some (longest_declarator (readers (names_in typedefs types u tokens) (depth - 1)) (depth - 1) k (tree_at v.forest n) (drop next tokens)) in y) l
      ∙ from_head (Some (tree_at v.forest n, drop next tokens)) (got v is_declarator tokens answer _ n next a e).0
