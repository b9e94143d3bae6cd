-- A statement behind labels, as its nodes make it.
use Rattle.std.proofs.Common.{◌≡◌, ℕ, true, List, Some}
use Rattle.pv_token.specs.declared.token_table.Token.{Token}
use Rattle.pv_tree.specs.declared.nodes.NodeId.{NodeId}
use Rattle.pv_tree.specs.Syntax.{Labelled, Tree, OfStatement, Trees, NoTrees}
use Rattle.pv_tree.specs.Grammar.{line_here}
use Rattle.pv_tree.specs.Spells.{Names}
use Rattle.pv_tree.specs.Places.{some}
use Rattle.pv_tree.specs.Tables.{Forest, as_statement, trees_of}
use Rattle.pv_decl_forms.specs.Pieces.{Piece, row}
use Rattle.pv_stmt_forms.specs.Statements.{labels_and_statement, label}
use Rattle.pv_stmt_forms.proofs.Chains.{labelled_so}

-- labels that are read, and a statement behind them, where the line and the labels' nodes have other names
pub labelled_as : (names : Names) (depth : ℕ) (r : List Token → Piece) (ts : List Token) (x : Trees × List Token) → x ≡ row (label names depth) NoTrees ts
    → (f : Forest) (line : ℕ) (ns ms : List NodeId) (y : Tree × List Token) → line ≡ line_here ts → ns ≡ ms → trees_of f ms ≡ x.0 → some x.0 ≡ true → r x.1 ≡ Some y
    → Some (OfStatement (Labelled line (trees_of f ns) (as_statement y.0)), y.1) ≡ labels_and_statement names depth r ts
labelled_as names depth r ts x e f line ns ms y l n t b h = rw (l, n, t) (labelled_so names depth r ts x e y b h)
