-- External declarations that are read by a table of type names, and those that are read by the longest ones.
use Rattle.std.proofs.Common.{◌≡◌, ◌≤◌, ◌<◌, ◌⊎◌, ◌-◌, ◌+◌, ℕ, suc, Bool, List, [], ◌∷◌, length, drop, Option, Some, None, refl, sym, ap, subst, ◌∙◌, arith, inl, inr}
use Rattle.std.proofs.lemmas.Bool.{cases_lt}
use Rattle.std.proofs.lemmas.List.{length-drop, drop-drop}
use Rattle.pv_token.specs.declared.token_table.Token.{Token}
use Rattle.pv_token.specs.declared.token_table.TokenKind.TheVariants as kind
use Rattle.pv_token.specs.declared.marks.Mark.TheVariants as mark
use Rattle.pv_tree.specs.declared.nodes.NodeId.{NodeId}
use Rattle.pv_tree.specs.Syntax.{DeclarationTree, Tree, OfDeclaration}
use Rattle.pv_tree.specs.Depths.{declaration_depth}
use Rattle.pv_tree.specs.Grammar.{FitsBy}
use Rattle.pv_tree.specs.Spells.{Names}
use Rattle.pv_tree.specs.Tables.{Forest, Tables, as_declaration}
use Rattle.pv_tree.specs.TypeNames.{TypeMap, type_seen, names_of, AreTied}
use Rattle.pv_tree.specs.Fitting.{DeclarationFits, TypeNameFits}
use Rattle.pv_tree.specs.Units.{depth_limit}
use Rattle.pv_expr_forms.proofs.Heads.{IsSpelled}
use Rattle.pv_expr_forms.proofs.Spans.{IsEnd, names_spelled, at_end}
use Rattle.pv_decl_forms.specs.Pieces.{Piece}
use Rattle.pv_decl_forms.specs.Answers.{piece_from}
use Rattle.pv_decl_forms.specs.Reader.{type_name, as_type_name, HasTypeNames}
use Rattle.pv_decl_forms.specs.TypeNames.{AreTypeNames}
use Rattle.pv_decl_forms.proofs.Nested.{HoldsTypeNames, has_holds, declaration_by_map, declaration_by_grammar}
use Rattle.pv_stmt_forms.specs.Externals.{external, names_by, external_at}
use Rattle.pv_stmt_forms.proofs.OuterGoods.{external_good}
use Rattle.pv_stmt_forms.proofs.OuterExacts.{external_exact}
use Rattle.pv_stmt_forms.proofs.LongestTypes.{type_name_empty, by_spelled, by_has}

-- ---- from some names to others

abbrev pub Anywhere : List Token → Type 0
Anywhere ts = Unit {0}

-- what is read by names whose type names are read so is read by names that have all of them
pub read_by_others : (names others : Names) (K L : List Token → Type 0) → IsSpelled names K → IsSpelled others L → HoldsTypeNames names K depth_limit
    → HasTypeNames others L depth_limit → names.is_type ≡ others.is_type
    → (here : List Token) → K here → L here → (a : Tree) (rest : List Token) → external names depth_limit here ≡ Some (a, rest)
    → external others depth_limit here ≡ Some (OfDeclaration (as_declaration a), rest)
read_by_others names others K L spelled spelled' holds has same here known known' a rest e =
    let g = external_good names K spelled depth_limit here a rest known e in
    let d = as_declaration a in
    let n = declaration_depth d in
    let grammar = declaration_by_grammar names K spelled depth_limit holds n d here known (rest, g.takes) (omega arith) g.fits in
    let moved = subst (λ (t : ℕ → Bool). DeclarationFits t (FitsBy t (TypeNameFits t n)) d here) same grammar in
    let fits = declaration_by_map others L spelled' depth_limit has n d here known' (rest, g.takes) g.shallow moved in
    external_exact others L spelled' depth_limit d here rest known' g.external fits g.shallow g.takes

by_longest : (is_type : ℕ → Bool) → IsSpelled (names_by is_type) Anywhere
by_longest is_type = by_spelled is_type Anywhere (λ t ts k. tt)

-- ---- a table of type names

seen_type : (f : Forest) (tokens : List Token) (o : Option (NodeId × ℕ)) → type_seen f tokens o ≡ as_type_name (piece_from f tokens o)
seen_type f tokens None = refl
seen_type f tokens (Some x) = refl

-- an end of the tokens, from a place on
abbrev pub IsFrom : (from : ℕ) (tokens here : List Token) → Type 0
IsFrom from tokens here = (k : ℕ) × (from ≤ k) × (k ≤ length tokens) × (drop k tokens ≡ here)

from_tail : (from : ℕ) (tokens : List Token) (t : Token) (ts : List Token) → IsFrom from tokens (t ∷ ts) → IsFrom from tokens ts
from_tail from tokens t ts w =
    let one : drop 1 (drop w.0 tokens) ≡ ts = ap (drop 1) w.3 in
    (w.0 + 1, omega (arith, w.1), omega (arith, ap length w.3, length-drop w.0 tokens), sym (drop-drop 1 w.0 tokens) ∙ one)

-- the place behind a token
place_behind : (tokens : List Token) (k : ℕ) (o : Token) (ts : List Token) → k ≤ length tokens → drop k tokens ≡ o ∷ ts → length tokens - length ts ≡ suc k
place_behind tokens k o ts p e = omega (arith, p, ap length e, length-drop k tokens)

no_tokens : (ts : List Token) → length ts ≤ 0 → ts ≡ []
no_tokens [] l = refl
no_tokens (t ∷ ts) l = absurd (omega (arith, l))

module _ (is_type : ℕ → Bool) (types : TypeMap) (u : Tables) (tokens : List Token) (from to : ℕ) (tied : AreTied types u tokens)
    (names : AreTypeNames is_type types u tokens depth_limit from to) where
  table : Names
  table = names_of is_type types u.forest tokens

  same_types : (names_of is_type types u.forest tokens).is_type ≡ (names_by is_type).is_type
  unfolding names_of names_by
  same_types = refl

  -- what the table has at a place
  type_there : (k : ℕ) (o : Token) (ts : List Token) → k ≤ length tokens → drop k tokens ≡ o ∷ ts
      → (names_of is_type types u.forest tokens).type_at ts ≡ as_type_name (piece_from u.forest tokens (types (suc k)))
  unfolding names_of
  type_there k o ts p e =
      ap (λ (n : ℕ). type_seen u.forest tokens (types n)) (place_behind tokens k o ts p e) ∙ seen_type u.forest tokens (types (suc k))

  range : (n : ℕ) → ((from ≤ n) × (n < to)) ⊎ ((n < from) ⊎ (to ≤ n))
  range n = elim (cases_lt n from) [
    | inl h ↦ inr (inl h)
    | inr h ↦ (elim (cases_lt n to) [ inl l ↦ inl (h, l) | inr l ↦ inr (inr l) ])
  ]

  nothing_outside : (k : ℕ) → (suc k < from) ⊎ (to ≤ suc k) → as_type_name (piece_from u.forest tokens (types (suc k))) ≡ None
  nothing_outside k out = ap (λ (x : Option (NodeId × ℕ)). as_type_name (piece_from u.forest tokens x)) (names.outside (suc k) out)

  read_inside : (k : ℕ) (o : Token) (ts : List Token) → from ≤ suc k → suc k < to → drop k tokens ≡ o ∷ ts → o.kind ≡ kind.Mark mark.OpenParen
      → as_type_name (piece_from u.forest tokens (types (suc k))) ≡ as_type_name (type_name (names_of is_type types u.forest tokens) depth_limit ts)
  read_inside k o ts p q e paren = ap as_type_name (names.behind k o ts p q e paren)

  -- what there is was read so, wherever it stands
  holds_by : (k : ℕ) (o : Token) (ts : List Token) (type : DeclarationTree) (rest : List Token) → drop k tokens ≡ o ∷ ts → o.kind ≡ kind.Mark mark.OpenParen
      → ((from ≤ suc k) × (suc k < to)) ⊎ ((suc k < from) ⊎ (to ≤ suc k))
      → as_type_name (piece_from u.forest tokens (types (suc k))) ≡ Some (type, rest)
      → as_type_name (type_name (names_of is_type types u.forest tokens) depth_limit ts) ≡ Some (type, rest)
  holds_by k o ts type rest e paren (inl h) s = sym (read_inside k o ts h.0 h.1 e paren) ∙ s
  holds_by k o ts type rest e paren (inr h) s = absurd (let none = nothing_outside k h in cc)

  table_holds : HoldsTypeNames (names_of is_type types u.forest tokens) (IsEnd tokens) depth_limit
  table_holds = λ o ts type rest w paren e. holds_by w.0 o ts type rest w.2 paren (range (suc w.0)) (sym (type_there w.0 o ts w.1 w.2) ∙ e)

  -- all there are from a place on
  has_by : (k : ℕ) (o : Token) (ts : List Token) → from ≤ k → length tokens ≤ to → k ≤ length tokens → drop k tokens ≡ o ∷ ts → o.kind ≡ kind.Mark mark.OpenParen
      → ((from ≤ suc k) × (suc k < to)) ⊎ ((suc k < from) ⊎ (to ≤ suc k))
      → as_type_name (piece_from u.forest tokens (types (suc k))) ≡ as_type_name (type_name (names_of is_type types u.forest tokens) depth_limit ts)
  has_by k o ts p all q e paren (inl h) = read_inside k o ts h.0 h.1 e paren
  has_by k o ts p all q e paren (inr (inl h)) = absurd (omega (arith, h, p))
  has_by k o ts p all q e paren (inr (inr h)) =
      let empty = no_tokens ts (omega (arith, h, all, q, ap length e, length-drop k tokens)) in
      nothing_outside k (inr h)
      ∙ sym (ap (λ (x : List Token). as_type_name (type_name (names_of is_type types u.forest tokens) depth_limit x)) empty ∙ ap as_type_name (type_name_empty (names_of is_type types u.forest tokens) depth_limit))

  table_has : length tokens ≤ to → HasTypeNames (names_of is_type types u.forest tokens) (IsFrom from tokens) depth_limit
  table_has all = λ o ts w paren. type_there w.0 o ts w.2 w.3 ∙ has_by w.0 o ts w.1 all w.2 w.3 paren (range (suc w.0))

  from_spelled : IsSpelled (names_of is_type types u.forest tokens) (IsFrom from tokens)
  from_spelled = record {
    tail = from_tail from tokens;
    type_is = λ ts type rest w e. (names_spelled is_type types u tokens tied).type_is ts type rest (w.0, w.2, w.3) e;
  }

  module _ (at : ℕ) (place : at ≤ length tokens) where
    -- what is read with the type names of a part of the tokens is what is read with all
    pub found_by_part : (t : Tree) (rest : List Token) → external (names_of is_type types u.forest tokens) depth_limit (drop at tokens) ≡ Some (t, rest)
        → external_at is_type (drop at tokens) ≡ Some (as_declaration t, rest)
    found_by_part t rest e =
        ap as_type_name (read_by_others (names_of is_type types u.forest tokens) (names_by is_type) (IsEnd tokens) Anywhere (names_spelled is_type types u tokens tied) (by_longest is_type)
        table_holds (by_has is_type Anywhere) same_types (drop at tokens) (at_end tokens at place) tt t rest e)

    none_from : from ≤ at → length tokens ≤ to → (o : Piece) → external (names_by is_type) depth_limit (drop at tokens) ≡ o
        → external (names_of is_type types u.forest tokens) depth_limit (drop at tokens) ≡ None → as_type_name o ≡ None
    none_from begins all None is none = refl
    none_from begins all (Some x) is none =
        let r = read_by_others (names_by is_type) (names_of is_type types u.forest tokens) Anywhere (IsFrom from tokens) (by_longest is_type) from_spelled
        (has_holds (names_by is_type) Anywhere depth_limit (by_has is_type Anywhere)) (table_has all) (sym same_types) (drop at tokens) tt (at, begins, place, refl) x.0 x.1 is in
        let clash : ◌≡◌ {A = Piece} None (Some (OfDeclaration (as_declaration x.0), x.1)) = sym none ∙ r in
        absurd cc

    -- where nothing is read with all type names, there is none
    pub none_by_all : from ≤ at → length tokens ≤ to → external (names_of is_type types u.forest tokens) depth_limit (drop at tokens) ≡ None
        → external_at is_type (drop at tokens) ≡ None
    none_by_all begins all none = none_from begins all (external (names_by is_type) depth_limit (drop at tokens)) refl none
