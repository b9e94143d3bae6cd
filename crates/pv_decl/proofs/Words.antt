-- A type name of one word before a `)`: one specifier, and no declarator.
use Rattle.std.proofs.Common.{◌≡◌, ◌≤◌, ℕ, zero, suc, Bool, true, false, List, [], ◌∷◌, length, drop, Option, Some, None, refl, sym, ap, ◌∙◌, nat_eq}
use Rattle.std.specs.Prelude.{is_some, option_map, if◌then◌else◌}
use Rattle.std.proofs.lemmas.Option.{none-some}
use Rattle.indexmap.specs.IndexSet.{IndexSet, contains}
use Rattle.pv_token.specs.declared.token_table.Token.{Token}
use Rattle.pv_token.specs.declared.token_table.TokenKind.{TokenKind}
use Rattle.pv_token.specs.declared.token_table.TokenKind.TheVariants as kind
use Rattle.pv_token.specs.declared.marks.Mark.TheVariants as mark
use Rattle.pv_tree.specs.declared.nodes.NodeId.{NodeId}
use Rattle.pv_tree.specs.Grammar.{line_here}
use Rattle.pv_tree.specs.Places.{Specifiers, AbstractDeclarators, is_plain_word}
use Rattle.pv_tree.specs.Spells.{Names}
use Rattle.pv_tree.specs.Syntax.{TypeName, Tree, OfDeclaration, Trees, NoTrees, Absent}
use Rattle.pv_tree.specs.Tables.{Tables, tree_at, trees_of, is_declaration, is_declarator, is_specifier, Is, Extends}
use Rattle.pv_tree.specs.TypeNames.{TypeMap}
use Rattle.pv_tree.proofs.Kept.{extends_same}
use Rattle.pv_expr_forms.specs.Known.{names_in}
use Rattle.pv_expr_forms.specs.Reader.{after, is_close}
use Rattle.pv_expr_forms.proofs.Steps.{some_is}
use Rattle.pv_decl_forms.specs.declared.forms.Form.TheVariants as form
use Rattle.pv_decl_forms.specs.Answers.{piece_from, Answers}
use Rattle.pv_decl_forms.specs.Declarators.{declarator, longest_declarator}
use Rattle.pv_decl_forms.specs.Givens.{AreGiven}
use Rattle.pv_decl_forms.specs.Parts.{tag_word_of, plain_of, opening_of}
use Rattle.pv_decl_forms.specs.Pieces.{Piece, part_if_any, row}
use Rattle.pv_decl_forms.specs.Reader.{readers, made_of, type_name}
use Rattle.pv_decl_forms.specs.Rows.{AreAnswered}
use Rattle.pv_decl_forms.proofs.Answered.{nothing, got}
use Rattle.pv_decl_forms.proofs.Bracing.{specifier_plain}
use Rattle.pv_decl_forms.proofs.Growing.{head_other}
use Rattle.pv_decl_forms.proofs.Loops.{no_parts}
use Rattle.pv_decl_forms.proofs.Outer.{type_name_none_by, type_name_some_by}
use Rattle.pv_decl_forms.proofs.Rounds.{declarator_by, no_declarator}
use Rattle.pv_decl.proofs.Looping.{row_done, row_turn}
use Rattle.pv_decl.proofs.WordNodes.{piece_same}

-- ---- a `)` begins neither a specifier nor a declarator

closes_no_tag : (k : TokenKind) → is_close k ≡ true → tag_word_of k ≡ None
closes_no_tag (kind.Mark mark.CloseParen) e = refl
closes_no_tag _ e = absurd cc

closes_no_word : (is_type : ℕ → Bool) (line : ℕ) (k : TokenKind) (ts : List Token) → is_close k ≡ true → None ≡ plain_of is_type line k ts
unfolding plain_of
closes_no_word is_type line (kind.Mark mark.CloseParen) ts e = refl
closes_no_word is_type line _ ts e = absurd cc

closes_nothing : (k : TokenKind) → is_close k ≡ true → opening_of k ≡ None
closes_nothing (kind.Mark mark.CloseParen) e = refl
closes_nothing _ e = absurd cc

-- the token that closes
closing : (ts : List Token) → is_some (after is_close ts) ≡ true → (t : Token) × (rest : List Token) × (ts ≡ t ∷ rest) × (is_close t.kind ≡ true)
closing [] e = absurd cc
closing (t ∷ rest) e = (t, rest, refl, closing_by (is_close t.kind) t rest refl e) where
  closing_by : (b : Bool) (t : Token) (rest : List Token) → is_close t.kind ≡ b → is_some (if b then Some rest else None) ≡ true → is_close t.kind ≡ true
  closing_by true t rest h e = h
  closing_by false t rest h e = absurd cc

no_specifier : {S : Type 0} (typedefs : IndexSet ℕ S) (types : TypeMap) (u : Tables) (tokens : List Token) (depth : ℕ) (ts : List Token) → is_some (after is_close ts) ≡ true
    → None ≡ readers (names_in typedefs types u tokens) depth Specifiers ts
no_specifier typedefs types u tokens depth ts e =
    let c = closing ts e in
    closes_no_word (contains nat_eq typedefs) c.0.line c.0.kind c.1 c.3 ∙ specifier_plain typedefs types u tokens depth ts c.0 c.1 c.2 (closes_no_tag c.0.kind c.3)

no_abstract : (names : Names) (depth : ℕ) (ts : List Token) → is_some (after is_close ts) ≡ true → None ≡ readers names depth AbstractDeclarators ts
unfolding declarator
no_abstract names zero ts e = sym (no_declarator names form.Abstract ts)
no_abstract names (suc depth) ts e =
    let c = closing ts e in
    ap (option_map (λ x. longest_declarator (readers names depth) depth (line_here ts) x.0 x.1)) (head_other names (readers names depth) form.Abstract ts c.0 c.1 c.2 (closes_nothing c.0.kind c.3))
    ∙ sym (declarator_by names depth form.Abstract ts)

-- ---- the word before it

word_rest : (b : Bool) (w : Tree) (ts : List Token) (t : Tree) (rest : List Token) → ◌≡◌ {A = Piece} (if b then Some (w, ts) else None) (Some (t, rest)) → ts ≡ rest
word_rest true w ts t rest e = ap (λ (x : Tree × List Token). x.1) (some_is {A = Tree × List Token} (w, ts) (t, rest) e)
word_rest false w ts t rest e = absurd (none-some (t, rest) e)

-- what is behind a word is what was behind its token
plain_rest : (is_type : ℕ → Bool) (line : ℕ) (k : TokenKind) (ts : List Token) (t : Tree) (rest : List Token) → plain_of is_type line k ts ≡ Some (t, rest) → ts ≡ rest
unfolding plain_of
plain_rest is_type line (kind.Name n) ts t rest e = word_rest (is_type n) _ ts t rest e
plain_rest is_type line (kind.Word w) ts t rest e = word_rest (is_plain_word w) _ ts t rest e
plain_rest is_type line _ ts t rest e = absurd (none-some (t, rest) e)

module _ {S : Type 0} (lists : ℕ → Option (Option (NodeId × ℕ))) (typedefs : IndexSet ℕ S) (types : TypeMap) (u v : Tables) (tokens : List Token) (given : AreGiven lists typedefs types u tokens)
    (keeps : Extends u v) (at next : ℕ) (place : at ≤ length tokens) (t : Token) (here : drop at tokens ≡ t ∷ drop next tokens) (plain : tag_word_of t.kind ≡ None)
    (closed : is_some (after is_close (drop next tokens)) ≡ true) (word : Option (NodeId × ℕ))
    (a : Answers v is_specifier tokens word (plain_of (contains nat_eq typedefs) t.line t.kind (drop next tokens))) (depth : ℕ) where
  abbrev names : Names
  names = names_in typedefs types u tokens

  abbrev whole : Trees × List Token
  whole = row (readers names depth Specifiers) NoTrees (drop at tokens)

  first : Answers v is_specifier tokens word (readers names depth Specifiers (drop at tokens))
  first = record { is = a.is ∙ specifier_plain typedefs types u tokens depth (drop at tokens) t (drop next tokens) here plain; there = a.there }

  pub word_none : word ≡ None → None ≡ type_name names depth (drop at tokens)
  word_none e =
      let none = row_done lists typedefs types u u v tokens given (extends_same u) keeps is_specifier depth Specifiers [] (no_parts is_specifier u [] refl) at place word first whole refl e in
      type_name_none_by names depth (drop at tokens) v tokens [] at none refl

  module _ (spec : NodeId) (end : ℕ) (e : word ≡ Some (spec, end)) where
    behind : drop next tokens ≡ drop end tokens
    behind =
        plain_rest (contains nat_eq typedefs) t.line t.kind (drop next tokens) (tree_at v.forest spec) (drop end tokens)
        (sym (got v is_specifier tokens word (plain_of (contains nat_eq typedefs) t.line t.kind (drop next tokens)) spec end a e).0)

    still : is_some (after is_close (drop end tokens)) ≡ true
    still = ap (λ (ts : List Token). is_some (after is_close ts)) (sym behind) ∙ closed

    alone : AreAnswered v is_specifier tokens (spec ∷ []) end whole
    alone =
        let turn = row_turn lists typedefs types u u v tokens given (extends_same u) keeps is_specifier depth Specifiers [] (no_parts is_specifier u [] refl) at place word first whole refl spec end e (spec ∷ []) refl in
        row_done lists typedefs types u v v tokens given keeps (extends_same v) is_specifier depth Specifiers (spec ∷ []) turn.nodes end turn.place None
        (nothing v is_specifier tokens (readers (names_in typedefs types v tokens) depth Specifiers (drop end tokens)) (no_specifier typedefs types v tokens depth (drop end tokens) still)) whole turn.same refl

    pub word_some : made_of (TypeName t.line) (trees_of v.forest (spec ∷ [])) (part_if_any (drop end tokens) (piece_from v.forest tokens None)) ≡ type_name names depth (drop at tokens)
    word_some =
        ap (λ (l : ℕ). made_of (TypeName l) (trees_of v.forest (spec ∷ [])) (part_if_any (drop end tokens) (piece_from v.forest tokens None))) (ap line_here (sym here))
        ∙ type_name_some_by names depth (drop at tokens) v tokens (spec ∷ []) end alone refl v (extends_same v) None
        (nothing v is_declarator tokens (readers names depth AbstractDeclarators (drop end tokens)) (no_abstract names depth (drop end tokens) still))

-- ---- a type name of one word that is a node already

pub word_again : {S : Type 0} (lists : ℕ → Option (Option (NodeId × ℕ))) (typedefs : IndexSet ℕ S) (types : TypeMap) (u : Tables) (tokens : List Token) (given : AreGiven lists typedefs types u tokens)
    (at next : ℕ) (place : at ≤ length tokens) (t : Token) (here : drop at tokens ≡ t ∷ drop next tokens) (plain : tag_word_of t.kind ≡ None) (closed : is_some (after is_close (drop next tokens)) ≡ true)
    (behind : next ≤ length tokens) (depth : ℕ) (name spec : NodeId) → Is u is_declaration name → Is u is_specifier spec
    → plain_of (contains nat_eq typedefs) t.line t.kind (drop next tokens) ≡ Some (tree_at u.forest spec, drop next tokens)
    → tree_at u.forest name ≡ OfDeclaration (TypeName t.line (trees_of u.forest (spec ∷ [])) Absent)
    → Answers u is_declaration tokens (Some (name, next)) (type_name (names_in typedefs types u tokens) depth (drop at tokens))
word_again lists typedefs types u tokens given at next place t here plain closed behind depth name spec named specified word tree =
    let a : Answers u is_specifier tokens (Some (spec, next)) (plain_of (contains nat_eq typedefs) t.line t.kind (drop next tokens)) = record { is = sym word; there = (specified, behind) } in
    record {
      is = piece_same (tree_at u.forest name) (OfDeclaration (TypeName t.line (trees_of u.forest (spec ∷ [])) Absent)) (drop next tokens) tree
          ∙ word_some lists typedefs types u u tokens given (extends_same u) at next place t here plain closed (Some (spec, next)) a depth spec next refl;
      there = (named, behind);
    }
