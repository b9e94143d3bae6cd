-- Each expression and each statement can be put into a table of nodes (C17 6.5, 6.8).
use Rattle.std.proofs.Common.{◌≡◌, ℕ, List, [], ◌∷◌, ◌++◌, length, refl, ap, ◌∙◌, Some, None}
use Rattle.std.specs.Prelude.{Option, slice_index_or}
use Rattle.pv_tree.specs.declared.nodes.NodeId.{NodeId}
use Rattle.pv_tree.specs.declared.nodes.ListId.{ListId}
use Rattle.pv_types.specs.Known.{Known, Heading, DoneTag}
use Rattle.pv_typed.specs.declared.nodes.Typed.{Typed}
use Rattle.pv_typed.specs.declared.nodes.Typed.TheVariants as typed
use Rattle.pv_typed.specs.declared.nodes.TypedStmt.{TypedStmt}
use Rattle.pv_typed.specs.declared.nodes.TypedStmt.TheVariants as stmt
use Rattle.pv_typed.specs.declared.rows.What.TheVariants as what
use Rattle.pv_typed.specs.declared.rows.Row.{Row}
use Rattle.pv_typed.specs.TypedTree.{TypedTree, Node, Form, Constant, Object, Function, String, Subscript, Call, CallPointer, LibraryCall, Member, MemberOfValue, Arrow, Increment, Address, Indirection, Unary, Not, Sizeof, Cast, Arithmetic, PointerSum, PointerDifference, PointerOrder, PointerEquality, LogicalAnd, LogicalOr, Conditional, Assign, CompoundAssign, PointerAssign, Comma, Read, ArrayPointer, Convert, Arguments, NoArguments, MoreArguments}
use Rattle.pv_typed.specs.TypedStatement.{TypedStatement, Block, Declare, Expression, Empty, If, IfElse, Switch, Case, Default, While, DoWhile, For, ForDeclaration, Continue, Break, Return, Statements, NoStatements, MoreStatements}
use Rattle.pv_typed.specs.Plain.{plain_turns}
use Rattle.pv_typed.specs.Nodes.{Tree, OfExpression, OfStatement, as_expression, as_statement, expression_in, statement_in, optional_in, arguments_in, statements_in, list_in, form_in, statement_form, Base, tree_in}
use Rattle.pv_typed.specs.NodeParts.{at}
use Rattle.pv_typed.specs.Tables.{trees_of}
use Rattle.pv_numbering.proofs.Entries.{NodeTables, Filled, Puts, longer_same, longer_push, filled_on, kept, made, beside, paired, found, found_built}
use Rattle.pv_numbering.proofs.TypeEntries.{type_at, put_type}

-- the table of types, with these tags
abbrev pub known_of : List Heading → List DoneTag → NodeTables → Known
known_of tags done s = record { terms = s.terms; lists = s.params; tags = tags; done = done }

-- what its nodes rest upon
abbrev pub base_of : List Heading → List DoneTag → NodeTables → Base
base_of tags done s = record { known = known_of tags done s; lists = s.lists; blocks = s.blocks }

-- and their trees
abbrev pub nodes_of : List Heading → List DoneTag → NodeTables → List Tree
nodes_of tags done s = trees_of (base_of tags done s) s.rows

-- the lists that statements declare
put_declared : (os : List ℕ) → Puts (λ (s : NodeTables) (d : ℕ). slice_index_or s.blocks d []) os
put_declared os = record {
  put = λ s. record {
    behind = record s { blocks = s.blocks ++ (os ∷ []) };
    entry = length s.blocks;
    filled = record {
      terms = longer_same s.terms;
      params = longer_same s.params;
      rows = longer_same s.rows;
      lists = longer_same s.lists;
      blocks = longer_push s.blocks os;
    };
    is = λ s' h. found s.blocks os [] s'.blocks h.blocks;
  };
}

-- what is read from a list of nodes, is read from the number of the list
put_listed : {A : Type 0} (read : NodeTables → List NodeId → A) (a : A) → Puts read a → Puts (λ (s : NodeTables) (l : ListId). read s (list_in s.lists l)) a
put_listed read a p = record {
  put = λ s. (
      let q = p.put s in
      let u : NodeTables = q.behind in
      let v : NodeTables = record u { lists = u.lists ++ (q.entry ∷ []) } in
      let more : Filled u v = record {
        terms = longer_same u.terms;
        params = longer_same u.params;
        rows = longer_same u.rows;
        lists = longer_push u.lists q.entry;
        blocks = longer_same u.blocks;
      } in
      record {
        behind = v;
        entry = record { 0 = length u.lists };
        filled = filled_on s u v q.filled more;
        is = λ s' h. ap (read s') (found u.lists q.entry [] s'.lists h.lists) ∙ q.is s' (filled_on u v s' more h);
      });
}

module _ (tags : List Heading) (done : List DoneTag) where
  abbrev nodes : NodeTables → List Tree
  nodes s = nodes_of tags done s

  abbrev tree_at : NodeTables → NodeId → Tree
  tree_at s n = at (nodes s) n.0

  abbrev row_tree : NodeTables → Row → Tree
  row_tree s r = tree_in (base_of tags done s) (nodes s) r

  abbrev pub expression : NodeTables → NodeId → TypedTree
  expression s n = expression_in (nodes s) n

  abbrev pub statement : NodeTables → NodeId → TypedStatement
  statement s n = statement_in (nodes s) n

  abbrev optional : NodeTables → Option NodeId → Option TypedTree
  optional s n = optional_in (nodes s) n

  abbrev arguments : NodeTables → List NodeId → Arguments
  arguments s ns = arguments_in (nodes s) ns

  abbrev argument_list : NodeTables → ListId → Arguments
  argument_list s l = arguments s (list_in s.lists l)

  abbrev statements : NodeTables → List NodeId → Statements
  statements s ns = statements_in (nodes s) ns

  abbrev statement_list : NodeTables → ListId → Statements
  statement_list s l = statements s (list_in s.lists l)

  abbrev form : NodeTables → Typed → Form
  form s x = form_in s.lists (nodes s) x

  abbrev declared : NodeTables → ℕ → List ℕ
  declared s d = slice_index_or s.blocks d []

  -- a statement's node with the number of the list of what it declares
  abbrev statement_of : ℕ → NodeTables → TypedStmt × ℕ → TypedStatement
  statement_of line s p = statement_form s.lists (nodes s) line (declared s p.1) p.0

  put_row : (x : Tree) → Puts row_tree x → Puts tree_at x
  put_row x p = record {
    put = λ s. (
        let q = p.put s in
        let u : NodeTables = q.behind in
        let v : NodeTables = record u { rows = u.rows ++ (q.entry ∷ []) } in
        let more : Filled u v = record {
          terms = longer_same u.terms;
          params = longer_same u.params;
          rows = longer_push u.rows q.entry;
          lists = longer_same u.lists;
          blocks = longer_same u.blocks;
        } in
        record {
          behind = v;
          entry = record { 0 = length u.rows };
          filled = filled_on s u v q.filled more;
          is = λ s' h. found_built (tree_in (base_of tags done s')) u.rows q.entry (OfStatement (Empty 0)) s'.rows h.rows ∙ q.is (record s' { rows = u.rows }) (record {
            terms = h.terms;
            params = h.params;
            rows = longer_same u.rows;
            lists = h.lists;
            blocks = h.blocks;
          });
        });
  }

  -- the forms with one operand, two, and three
  one : (c : NodeId → Typed) (f : TypedTree → Form) → ((s : NodeTables) (n : NodeId) → form s (c n) ≡ f (expression s n)) → (x : TypedTree) → Puts expression x → Puts form (f x)
  one c f e x p = made expression form c f e x p

  two : (c : NodeId → NodeId → Typed) (f : TypedTree → TypedTree → Form) → ((s : NodeTables) (n m : NodeId) → form s (c n m) ≡ f (expression s n) (expression s m)) → (x y : TypedTree) → Puts expression x → Puts expression y → Puts form (f x y)
  two c f e x y p q = made (beside expression expression) form (λ n. c n.0 n.1) (λ x. f x.0 x.1) (λ s n. e s n.0 n.1) (x, y) (paired expression expression x y p q)

  mutual
    pub put_expression : (x : TypedTree) → Puts expression x
    put_expression (Node t line turn x) =
        made tree_at expression (λ n. n) as_expression (λ s n. refl) (OfExpression (Node t line turn x))
        (put_row (OfExpression (Node t line turn x))
        (made (beside type_at form) row_tree (λ p. record { what = what.Expression p.1 p.0 turn (plain_turns (Node t line turn x)); line = line }) (λ p. OfExpression (Node p.0 line turn p.1)) (λ s p. refl) (t, x)
        (paired type_at form t x (put_type t) (put_form x))))

    put_form : (x : Form) → Puts form x
    put_form (Constant n) = kept form (typed.Constant n) (Constant n) (λ s. refl)
    put_form (Object o) = kept form (typed.Object o) (Object o) (λ s. refl)
    put_form (Function f) = kept form (typed.Function f) (Function f) (λ s. refl)
    put_form (String l) = kept form (typed.String l) (String l) (λ s. refl)
    put_form (Subscript x y) = two typed.Subscript Subscript (λ s n m. refl) x y (put_expression x) (put_expression y)
    put_form (Call f xs) = made argument_list form (typed.Call f) (Call f) (λ s l. refl) xs (put_listed arguments xs (put_arguments xs))
    put_form (CallPointer x xs) =
        made (beside expression argument_list) form (λ p. typed.CallPointer p.0 p.1) (λ p. CallPointer p.0 p.1) (λ s p. refl) (x, xs)
        (paired expression argument_list x xs (put_expression x) (put_listed arguments xs (put_arguments xs)))
    put_form (LibraryCall f xs) = made argument_list form (typed.LibraryCall f) (LibraryCall f) (λ s l. refl) xs (put_listed arguments xs (put_arguments xs))
    put_form (Member x k) = one (λ n. typed.Member n k) (λ x. Member x k) (λ s n. refl) x (put_expression x)
    put_form (MemberOfValue x k) = one (λ n. typed.MemberOfValue n k) (λ x. MemberOfValue x k) (λ s n. refl) x (put_expression x)
    put_form (Arrow x k) = one (λ n. typed.Arrow n k) (λ x. Arrow x k) (λ s n. refl) x (put_expression x)
    put_form (Increment o x) = one (typed.Increment o) (Increment o) (λ s n. refl) x (put_expression x)
    put_form (Address x) = one typed.Address Address (λ s n. refl) x (put_expression x)
    put_form (Indirection x) = one typed.Indirection Indirection (λ s n. refl) x (put_expression x)
    put_form (Unary o x) = one (typed.Unary o) (Unary o) (λ s n. refl) x (put_expression x)
    put_form (Not x) = one typed.Not Not (λ s n. refl) x (put_expression x)
    put_form (Sizeof n) = kept form (typed.Sizeof n) (Sizeof n) (λ s. refl)
    put_form (Cast x) = one typed.Cast Cast (λ s n. refl) x (put_expression x)
    put_form (Arithmetic o x y) = two (typed.Arithmetic o) (Arithmetic o) (λ s n m. refl) x y (put_expression x) (put_expression y)
    put_form (PointerSum g x y) = two (typed.PointerSum g) (PointerSum g) (λ s n m. refl) x y (put_expression x) (put_expression y)
    put_form (PointerDifference x y) = two typed.PointerDifference PointerDifference (λ s n m. refl) x y (put_expression x) (put_expression y)
    put_form (PointerOrder o x y) = two (typed.PointerOrder o) (PointerOrder o) (λ s n m. refl) x y (put_expression x) (put_expression y)
    put_form (PointerEquality o x y) = two (typed.PointerEquality o) (PointerEquality o) (λ s n m. refl) x y (put_expression x) (put_expression y)
    put_form (LogicalAnd x y) = two typed.LogicalAnd LogicalAnd (λ s n m. refl) x y (put_expression x) (put_expression y)
    put_form (LogicalOr x y) = two typed.LogicalOr LogicalOr (λ s n m. refl) x y (put_expression x) (put_expression y)
    put_form (Conditional x y z) =
        made (beside expression (beside expression expression)) form (λ n. typed.Conditional n.0 n.1.0 n.1.1) (λ x. Conditional x.0 x.1.0 x.1.1) (λ s n. refl) (x, (y, z))
        (paired expression (beside expression expression) x (y, z) (put_expression x) (paired expression expression y z (put_expression y) (put_expression z)))
    put_form (Assign x y) = two typed.Assign Assign (λ s n m. refl) x y (put_expression x) (put_expression y)
    put_form (CompoundAssign o k x y) = two (typed.CompoundAssign o k) (CompoundAssign o k) (λ s n m. refl) x y (put_expression x) (put_expression y)
    put_form (PointerAssign g x y) = two (typed.PointerAssign g) (PointerAssign g) (λ s n m. refl) x y (put_expression x) (put_expression y)
    put_form (Comma x y) = two typed.Comma Comma (λ s n m. refl) x y (put_expression x) (put_expression y)
    put_form (Read x) = one typed.Read Read (λ s n. refl) x (put_expression x)
    put_form (ArrayPointer x) = one typed.ArrayPointer ArrayPointer (λ s n. refl) x (put_expression x)
    put_form (Convert x) = one typed.Convert Convert (λ s n. refl) x (put_expression x)

    put_arguments : (xs : Arguments) → Puts arguments xs
    put_arguments NoArguments = kept arguments [] NoArguments (λ s. refl)
    put_arguments (MoreArguments x xs) =
        made (beside expression arguments) arguments (λ p. p.0 ∷ p.1) (λ p. MoreArguments p.0 p.1) (λ s p. refl) (x, xs)
        (paired expression arguments x xs (put_expression x) (put_arguments xs))

  put_optional : (x : Option TypedTree) → Puts optional x
  put_optional None = kept optional None None (λ s. refl)
  put_optional (Some x) = made expression optional Some Some (λ s n. refl) x (put_expression x)

  -- a statement's node becomes a row
  placed : (line : ℕ) (x : TypedStatement) → Puts (statement_of line) x → Puts statement x
  placed line x p =
      made tree_at statement (λ n. n) as_statement (λ s n. refl) (OfStatement x)
      (put_row (OfStatement x)
      (made (statement_of line) row_tree (λ p. record { what = what.Statement p.0 p.1; line = line }) OfStatement (λ s p. refl) x p))

  -- one that declares nothing
  plain : {A N : Type 0} (line : ℕ) (read : NodeTables → N → A) (c : N → TypedStmt) (f : A → TypedStatement) → ((s : NodeTables) (n : N) → statement_of line s (c n, 0) ≡ f (read s n)) → (a : A) → Puts read a → Puts statement (f a)
  plain line read c f e a p = placed line (f a) (made read (statement_of line) (λ n. (c n, 0)) f e a p)

  bare : (line : ℕ) (c : TypedStmt) (x : TypedStatement) → ((s : NodeTables) → statement_of line s (c, 0) ≡ x) → Puts statement x
  bare line c x e = placed line x (kept (statement_of line) (c, 0) x e)

  abbrev guarded : NodeTables → NodeId × NodeId → TypedTree × TypedStatement
  guarded s p = beside expression statement s p

  abbrev looped : NodeTables → Option NodeId × (Option NodeId × NodeId) → Option TypedTree × (Option TypedTree × TypedStatement)
  looped s p = beside optional (beside optional statement) s p

  put_guarded : (c : TypedTree) (x : TypedStatement) → Puts statement x → Puts guarded (c, x)
  put_guarded c x p = paired expression statement c x (put_expression c) p

  put_looped : (c f : Option TypedTree) (x : TypedStatement) → Puts statement x → Puts looped (c, (f, x))
  put_looped c f x p = paired optional (beside optional statement) c (f, x) (put_optional c) (paired optional statement f x (put_optional f) p)

  mutual
    pub put_statement : (x : TypedStatement) → Puts statement x
    put_statement (Block line os xs) =
        placed line (Block line os xs)
        (made (beside declared statement_list) (statement_of line) (λ p. (stmt.Block p.1, p.0)) (λ p. Block line p.0 p.1) (λ s p. refl) (os, xs)
        (paired declared statement_list os xs (put_declared os) (put_listed statements xs (put_statements xs))))
    put_statement (Declare line o) = bare line (stmt.Declare o) (Declare line o) (λ s. refl)
    put_statement (Expression line x) = plain line expression stmt.Expression (Expression line) (λ s n. refl) x (put_expression x)
    put_statement (Empty line) = bare line stmt.Empty (Empty line) (λ s. refl)
    put_statement (If line c x) = plain line guarded (λ p. stmt.If p.0 p.1) (λ p. If line p.0 p.1) (λ s p. refl) (c, x) (put_guarded c x (put_statement x))
    put_statement (IfElse line c x y) =
        plain line (beside guarded statement) (λ p. stmt.IfElse p.0.0 p.0.1 p.1) (λ p. IfElse line p.0.0 p.0.1 p.1) (λ s p. refl) ((c, x), y)
        (paired guarded statement (c, x) y (put_guarded c x (put_statement x)) (put_statement y))
    put_statement (Switch line c x) = plain line guarded (λ p. stmt.Switch p.0 p.1) (λ p. Switch line p.0 p.1) (λ s p. refl) (c, x) (put_guarded c x (put_statement x))
    put_statement (Case line n x) = plain line statement (stmt.Case n) (Case line n) (λ s p. refl) x (put_statement x)
    put_statement (Default line x) = plain line statement stmt.Default (Default line) (λ s p. refl) x (put_statement x)
    put_statement (While line c x) = plain line guarded (λ p. stmt.While p.0 p.1) (λ p. While line p.0 p.1) (λ s p. refl) (c, x) (put_guarded c x (put_statement x))
    put_statement (DoWhile line x c) = plain line guarded (λ p. stmt.DoWhile p.1 p.0) (λ p. DoWhile line p.1 p.0) (λ s p. refl) (c, x) (put_guarded c x (put_statement x))
    put_statement (For line a c f x) =
        plain line (beside optional looped) (λ p. stmt.For p.0 p.1.0 p.1.1.0 p.1.1.1) (λ p. For line p.0 p.1.0 p.1.1.0 p.1.1.1) (λ s p. refl) (a, (c, (f, x)))
        (paired optional looped a (c, (f, x)) (put_optional a) (put_looped c f x (put_statement x)))
    put_statement (ForDeclaration line os ds c f x) =
        placed line (ForDeclaration line os ds c f x)
        (made (beside declared (beside statement_list looped)) (statement_of line) (λ p. (stmt.ForDeclaration p.1.0 p.1.1.0 p.1.1.1.0 p.1.1.1.1, p.0)) (λ p. ForDeclaration line p.0 p.1.0 p.1.1.0 p.1.1.1.0 p.1.1.1.1) (λ s p. refl) (os, (ds, (c, (f, x))))
        (paired declared (beside statement_list looped) os (ds, (c, (f, x))) (put_declared os)
        (paired statement_list looped ds (c, (f, x)) (put_listed statements ds (put_statements ds)) (put_looped c f x (put_statement x)))))
    put_statement (Continue line) = bare line stmt.Continue (Continue line) (λ s. refl)
    put_statement (Break line) = bare line stmt.Break (Break line) (λ s. refl)
    put_statement (Return line x) = plain line optional stmt.Return (Return line) (λ s n. refl) x (put_optional x)

    put_statements : (xs : Statements) → Puts statements xs
    put_statements NoStatements = kept statements [] NoStatements (λ s. refl)
    put_statements (MoreStatements x xs) =
        made (beside statement statements) statements (λ p. p.0 ∷ p.1) (λ p. MoreStatements p.0 p.1) (λ s p. refl) (x, xs)
        (paired statement statements x xs (put_statement x) (put_statements xs))
