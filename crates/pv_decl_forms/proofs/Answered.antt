-- What the functions that read answer.
use Rattle.std.proofs.Common.{◌≡◌, ◌≤◌, ℕ, Bool, true, List, length, drop, Option, Some, None, Result, sym, ap, subst, ◌∙◌}
use Rattle.std.specs.Prelude.{IfOk}
use Rattle.pv_token.specs.declared.token_table.Token.{Token}
use Rattle.pv_tree.specs.declared.nodes.NodeId.{NodeId}
use Rattle.pv_tree.specs.Syntax.{Tree}
use Rattle.pv_tree.specs.Tables.{Tables, tree_at, with_tree, Is}
use Rattle.pv_tree.proofs.Kept.{tree_new, is_new}
use Rattle.pv_decl_forms.specs.Pieces.{Piece}
use Rattle.pv_decl_forms.specs.Answers.{piece_from, IsThere, Answers}

-- a new tree
pub added : (u v : Tables) (kind : Tree → Bool) (tokens : List Token) (t : Tree) (n : NodeId) (next : ℕ) → v ≡ with_tree u t → n.0 ≡ length u.forest.trees → kind t ≡ true → next ≤ length tokens
    → Answers v kind tokens (Some (n, next)) (Some (t, drop next tokens))
added u v kind tokens t n next made i k p =
    rw made (record { is = ap (λ (x : Tree). Some (x, drop next tokens)) (tree_new u t n i); there = (is_new u t kind n i k, p) })

-- nothing was read
pub nothing : (u : Tables) (kind : Tree → Bool) (tokens : List Token) (reading : Piece) → None ≡ reading → Answers u kind tokens None reading
nothing u kind tokens reading e = record { is = e; there = tt }

-- the answer that one reading gives is the answer that an equal one gives
pub moved : {E : Type 0} (result : Result (Option (NodeId × ℕ)) E) (u : Tables) (kind : Tree → Bool) (tokens : List Token) (a b : Piece) → a ≡ b → IfOk result (λ r. Answers u kind tokens r a) → IfOk result (λ r. Answers u kind tokens r b)
moved result u kind tokens a b e h = subst (λ (x : Piece). IfOk result (λ r. Answers u kind tokens r x)) e h

pub got : (u : Tables) (kind : Tree → Bool) (tokens : List Token) (answer : Option (NodeId × ℕ)) (reading : Piece) (n : NodeId) (next : ℕ) → Answers u kind tokens answer reading → answer ≡ Some (n, next)
    → (Some (tree_at u.forest n, drop next tokens) ≡ reading) × Is u kind n × (next ≤ length tokens)
got u kind tokens answer reading n next a e =
    let there : IsThere u kind tokens (Some (n, next)) = subst (IsThere u kind tokens) e a.there in
    (ap (piece_from u.forest tokens) (sym e) ∙ a.is, there.0, there.1)

pub got_none : (u : Tables) (kind : Tree → Bool) (tokens : List Token) (answer : Option (NodeId × ℕ)) (reading : Piece) → Answers u kind tokens answer reading → answer ≡ None → None ≡ reading
got_none u kind tokens answer reading a e = ap (piece_from u.forest tokens) (sym e) ∙ a.is
