-- The names that a reader of type names gives, as a unit grows.
use Rattle.std.proofs.Common.{◌≡◌, ◌≤◌, ◌<◌, ◌-◌, ℕ, List, length, drop, Option, Some, None, false, refl, sym, ap, ◌∙◌, arith, ◌++◌, inl, inr}
use Rattle.std.specs.Prelude.{MatchOption, nat_eq, nat_le, option_map}
use Rattle.std.proofs.lemmas.List.{length-drop}
use Rattle.std.proofs.lemmas.Bool.{le-leb}
use Rattle.std.proofs.lemmas.Bool.Decides.{leb_tells}
use Rattle.indexmap.specs.IndexSet.{IndexSet, contains}
use Rattle.pv_token.specs.declared.token_table.Token.{Token}
use Rattle.pv_tree.specs.declared.nodes.NodeId.{NodeId}
use Rattle.pv_tree.specs.Syntax.{Tree, DeclarationTree}
use Rattle.pv_tree.specs.Depths.{declaration_depth}
use Rattle.pv_tree.specs.Spelling.{declaration_tokens}
use Rattle.pv_tree.specs.Tables.{Tables, as_declaration, declaration_at, is_declaration, Is, Extends}
use Rattle.pv_tree.specs.Grammar.{kinds}
use Rattle.pv_tree.specs.Spells.{Names}
use Rattle.pv_tree.specs.TypeNames.{TypeMap, names_of, type_seen, AreTied}
use Rattle.pv_tree.proofs.Kept.{tree_kept, is_kept}
use Rattle.pv_expr_forms.specs.Reader.{is_close, after}
use Rattle.pv_expr_forms.specs.Known.{names_in}
use Rattle.pv_expr_forms.specs.Parts.{type_closed}

-- ---- a unit that grows keeps the type names

declaration_kept : (u v : Tables) (n : NodeId) → Extends u v → n.0 < length u.forest.trees → declaration_at v.forest n ≡ declaration_at u.forest n
declaration_kept u v n e lt = ap (λ (t : Tree). as_declaration t) (tree_kept u v n e lt)

pub tied_kept : (types : TypeMap) (u v : Tables) (tokens : List Token) → AreTied types u tokens → Extends u v → AreTied types v tokens
tied_kept types u v tokens t e = λ at x is.
    let k = t at x is in
    record {
      node = is_kept u v is_declaration x.0 e k.node;
      place = k.place;
      spells = k.spells ∙ ap (λ (d : DeclarationTree). declaration_tokens d ++ kinds (drop x.1 tokens)) (sym (declaration_kept u v x.0 e k.node.0));
    }

seen_kept : (types : TypeMap) (u v : Tables) (tokens : List Token) → AreTied types u tokens → Extends u v → (at : ℕ) (o : Option (NodeId × ℕ)) → types at ≡ o → type_seen v.forest tokens o ≡ type_seen u.forest tokens o
seen_kept types u v tokens t e at None is = refl
seen_kept types u v tokens t e at (Some x) is = ap (λ (d : DeclarationTree). Some (d, drop x.1 tokens)) (declaration_kept u v x.0 e (t at x is).node.0)

pub names_kept : {S : Type 0} (typedefs : IndexSet ℕ S) (types : TypeMap) (u v : Tables) (tokens : List Token) → AreTied types u tokens → Extends u v → names_in typedefs types v tokens ≡ names_in typedefs types u tokens
unfolding names_in names_of
names_kept typedefs types u v tokens t e =
    let same : (ts : List Token) → type_seen v.forest tokens (types (length tokens - length ts)) ≡ type_seen u.forest tokens (types (length tokens - length ts)) =
    λ ts. seen_kept types u v tokens t e (length tokens - length ts) (types (length tokens - length ts)) refl in
    λ i. record { is_type = contains nat_eq typedefs; type_at = λ ts. same ts i }

-- ---- the type name at a place

place_is : (at : ℕ) (tokens : List Token) → at ≤ length tokens → length tokens - length (drop at tokens) ≡ at
place_is at tokens h = omega (arith, length-drop at tokens)

type_at_place : {S : Type 0} (typedefs : IndexSet ℕ S) (types : TypeMap) (u : Tables) (tokens : List Token) (at : ℕ) → at ≤ length tokens → (names_in typedefs types u tokens).type_at (drop at tokens) ≡ type_seen u.forest tokens (types at)
unfolding names_in names_of
type_at_place typedefs types u tokens at h = ap (λ (k : ℕ). type_seen u.forest tokens (types k)) (place_is at tokens h)

abbrev pub IsTypeAt : Names → Tables → List Token → ℕ → Option (NodeId × ℕ) → Type 0
IsTypeAt names u tokens at o = MatchOption o (names.type_at (drop at tokens) ≡ None) (λ x. (names.type_at (drop at tokens) ≡ Some (declaration_at u.forest x.0, drop x.1 tokens)) × Is u is_declaration x.0 × (x.1 ≤ length tokens))

pub type_is : {S : Type 0} (typedefs : IndexSet ℕ S) (types : TypeMap) (u : Tables) (tokens : List Token) (at : ℕ) (o : Option (NodeId × ℕ)) → o ≡ types at → at ≤ length tokens → AreTied types u tokens → IsTypeAt (names_in typedefs types u tokens) u tokens at o
type_is typedefs types u tokens at None e h t = type_at_place typedefs types u tokens at h ∙ ap (type_seen u.forest tokens) (sym e)
type_is typedefs types u tokens at (Some x) e h t =
    let k = t at x (sym e) in
    (type_at_place typedefs types u tokens at h ∙ ap (type_seen u.forest tokens) (sym e), k.node, k.place)

-- ---- a type name, and a closing parenthesis behind it

pub leb_not : (a b : ℕ) → b < a → nat_le a b ≡ false
leb_not a b h = elim (leb_tells a b) [
  | inl p ↦ absurd (omega (arith, p.1))
  | inr p ↦ p.0
]

pub closed_without : (names : Names) (below : ℕ) (ts : List Token) → names.type_at ts ≡ None → type_closed names below ts ≡ None
unfolding type_closed
closed_without names below ts e = rw e refl

pub closed_is : (names : Names) (below : ℕ) (ts : List Token) (d : DeclarationTree) (rest : List Token) (o : Option (List Token)) → names.type_at ts ≡ Some (d, rest) → declaration_depth d ≤ below → after is_close rest ≡ o → type_closed names below ts ≡ option_map (λ next. (d, next)) o
unfolding type_closed
closed_is names below ts d rest o e h a = rw (e, le-leb (declaration_depth d) below h, a) refl

pub closed_deep : (names : Names) (below : ℕ) (ts : List Token) (d : DeclarationTree) (rest : List Token) → names.type_at ts ≡ Some (d, rest) → below < declaration_depth d → type_closed names below ts ≡ None
unfolding type_closed
closed_deep names below ts d rest e h = rw (e, leb_not (declaration_depth d) below h) refl
