-- Reading at a place of one token list, under the names that a reader of type names gives.
use Rattle.std.proofs.Common.{◌≡◌, ◌≤◌, ◌<◌, ◌+◌, ◌-◌, ℕ, Bool, List, ◌∷◌, ◌++◌, length, take, drop, Option, Some, None, option_and_then, refl, sym, ap, subst, ◌∙◌, arith}
use Rattle.std.specs.Prelude.{slice_range}
use Rattle.std.proofs.lemmas.List.{length-append, length-drop, length-map, drop-drop}
use Rattle.std.proofs.lemmas.List.Folds.{drop_split}
use Rattle.pv_token.specs.declared.token_table.Token.{Token}
use Rattle.pv_token.specs.declared.token_table.TokenKind.{TokenKind}
use Rattle.pv_tree.specs.declared.nodes.NodeId.{NodeId}
use Rattle.pv_tree.specs.Syntax.{ExpressionTree, DeclarationTree, ArgumentTrees, Argument}
use Rattle.pv_tree.specs.Tables.{Tables, declaration_at}
use Rattle.pv_tree.specs.Spelling.{declaration_tokens}
use Rattle.pv_tree.specs.Grammar.{kinds}
use Rattle.pv_tree.specs.TypeNames.{TypeMap, type_seen, names_of, AreTied}
use Rattle.pv_expr_forms.specs.Reader.{more_arguments, arguments, read}
use Rattle.pv_expr_forms.proofs.Runs.{Takes, takes_rest, takes_length, kinds_taken, takes_kinds, takes_by_kinds}
use Rattle.pv_expr_forms.proofs.Steps.{arguments_step, some_is}
use Rattle.pv_expr_forms.proofs.Heads.{IsSpelled}
use Rattle.pv_expr_forms.proofs.Sound.{read_shortens}

-- an end of the token list
abbrev pub IsEnd : (tokens here : List Token) → Type 0
IsEnd tokens here = (at : ℕ) × (at ≤ length tokens) × (drop at tokens ≡ here)

end_tail : (tokens : List Token) (t : Token) (ts : List Token) → IsEnd tokens (t ∷ ts) → IsEnd tokens ts
end_tail tokens t ts k =
    let one : drop 1 (drop k.0 tokens) ≡ ts = ap (drop 1) k.2 in
    (k.0 + 1, omega (arith, ap length k.2, length-drop k.0 tokens), sym (drop-drop 1 k.0 tokens) ∙ one)

-- kinds that stand from one place to another
takes_between : (ks : List TokenKind) (tokens : List Token) (at next : ℕ) → at ≤ length tokens → next ≤ length tokens
    → kinds (drop at tokens) ≡ ks ++ kinds (drop next tokens) → Takes ks (drop at tokens) (drop next tokens)
takes_between ks tokens at next p q e =
    let long : at + length ks ≡ next = omega (arith, ap length e, length-append ks (kinds (drop next tokens)), length-map (drop at tokens) (λ (t : Token). t.kind), length-map (drop next tokens) (λ (t : Token). t.kind), length-drop at tokens, length-drop next tokens) in
    takes_by_kinds ks (drop at tokens) (drop next tokens) e (drop-drop (length ks) at tokens ∙ ap (λ (n : ℕ). drop n tokens) long)

type_by : (types : TypeMap) (u : Tables) (tokens : List Token) → AreTied types u tokens → (at : ℕ) → at ≤ length tokens
    → (o : Option (NodeId × ℕ)) (type : DeclarationTree) (rest : List Token) → types at ≡ o → type_seen u.forest tokens o ≡ Some (type, rest)
    → Takes (declaration_tokens type) (drop at tokens) rest
type_by types u tokens tied at p None type rest is e = absurd cc
type_by types u tokens tied at p (Some x) type rest is e =
    let k = tied at x is in
    let same : ◌≡◌ {A = DeclarationTree × List Token} (declaration_at u.forest x.0, drop x.1 tokens) (type, rest) = some_is _ _ e in
    subst (λ (y : DeclarationTree × List Token). Takes (declaration_tokens y.0) (drop at tokens) y.1) same
    (takes_between (declaration_tokens (declaration_at u.forest x.0)) tokens at x.1 p k.place k.spells)

pub names_spelled : (is_type : ℕ → Bool) (types : TypeMap) (u : Tables) (tokens : List Token) → AreTied types u tokens
    → IsSpelled (names_of is_type types u.forest tokens) (IsEnd tokens)
unfolding names_of
names_spelled is_type types u tokens tied = record {
  tail = end_tail tokens;
  type_is = λ ts type rest k e.
      let place : length tokens - length ts ≡ k.0 = omega (arith, k.1, ap length k.2, length-drop k.0 tokens) in
      let e' : type_seen u.forest tokens (types k.0) ≡ Some (type, rest) = rw place at e in
      subst (λ (x : List Token). Takes (declaration_tokens type) x rest) k.2 (type_by types u tokens tied k.0 k.1 (types k.0) type rest refl e');
}

-- a place is an end
pub at_end : (tokens : List Token) (at : ℕ) → at ≤ length tokens → IsEnd tokens (drop at tokens)
at_end tokens at p = (at, p, refl)

-- ---- steps at a place

pub read_forward : (is_type : ℕ → Bool) (types : TypeMap) (u : Tables) (tokens : List Token) → AreTied types u tokens → (deep level at next : ℕ) (a : ExpressionTree)
    → at ≤ length tokens → next ≤ length tokens → read (names_of is_type types u.forest tokens) deep level (drop at tokens) ≡ Some (a, drop next tokens) → at < next
read_forward is_type types u tokens tied deep level at next a p q e =
    let names = names_of is_type types u.forest tokens in
    let short = read_shortens names (IsEnd tokens) (names_spelled is_type types u tokens tied) deep in
    omega (arith, short.less level (drop at tokens) a (drop next tokens) (at_end tokens at p) e, length-drop at tokens, length-drop next tokens)

pub arguments_next : (is_type : ℕ → Bool) (types : TypeMap) (u : Tables) (tokens : List Token) → AreTied types u tokens → (deep : ℕ) (before : ArgumentTrees) (at : ℕ)
    → at ≤ length tokens
    → arguments (read (names_of is_type types u.forest tokens) deep) before (drop at tokens)
    ≡ option_and_then (λ x. more_arguments (arguments (read (names_of is_type types u.forest tokens) deep)) (Argument before x.0) x.1) (read (names_of is_type types u.forest tokens) deep 2 (drop at tokens))
arguments_next is_type types u tokens tied deep before at p =
    let names = names_of is_type types u.forest tokens in
    arguments_step (IsEnd tokens) (read names deep) (read_shortens names (IsEnd tokens) (names_spelled is_type types u tokens tied) deep) before (drop at tokens) (at_end tokens at p)

-- ---- runs at places

-- what a run of kinds leaves begins at a place
pub ends_at : (ks : List TokenKind) (tokens : List Token) (at : ℕ) (rest : List Token) → at ≤ length tokens → Takes ks (drop at tokens) rest
    → (next : ℕ) × (next ≤ length tokens) × (rest ≡ drop next tokens)
ends_at ks tokens at rest place h =
    (at + length ks, omega (arith, takes_length ks (drop at tokens) rest h, length-drop at tokens, place), sym (takes_rest ks (drop at tokens) rest h) ∙ drop-drop (length ks) at tokens)

pub takes_spelled : (ks : List TokenKind) (tokens : List Token) (at end : ℕ) → at ≤ end → ks ≡ kinds (slice_range tokens at end)
    → Takes ks (drop at tokens) (drop end tokens)
takes_spelled ks tokens at end from is =
    let front = take (end - at) (drop at tokens) in
    let parts : drop at tokens ≡ front ++ drop end tokens = drop_split tokens at end from in
    subst (λ (x : List Token). Takes ks x (drop end tokens)) (sym parts)
    (subst (λ (x : List TokenKind). Takes x (front ++ drop end tokens) (drop end tokens)) (sym is) (takes_kinds front (drop end tokens)))

pub spelled_taken : (ks : List TokenKind) (tokens : List Token) (at end : ℕ) → at ≤ length tokens → end ≤ length tokens → Takes ks (drop at tokens) (drop end tokens)
    → (at ≤ end) × (ks ≡ kinds (slice_range tokens at end))
spelled_taken ks tokens at end p q h =
    let long = takes_length ks (drop at tokens) (drop end tokens) h in
    let count : length ks ≡ end - at = omega (arith, long, length-drop at tokens, length-drop end tokens) in
    (omega (arith, long, length-drop at tokens, length-drop end tokens), kinds_taken ks (drop at tokens) (drop end tokens) h ∙ ap (λ (n : ℕ). kinds (take n (drop at tokens))) count)
