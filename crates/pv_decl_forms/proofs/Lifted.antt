-- Where expressions that fit one way fit another, so do the declarations and the statements that they stand in.
use Rattle.std.proofs.Common.{◌≡◌, ◌≤◌, ℕ, zero, suc, Bool, List, [], ◌∷◌, ◌++◌, length, drop, sym, ap, subst, ◌∙◌, arith}
use Rattle.pv_token.specs.declared.token_table.Token.{Token}
use Rattle.pv_token.specs.declared.token_table.TokenKind.{TokenKind}
use Rattle.pv_token.specs.declared.token_table.TokenKind.TheVariants as kind
use Rattle.pv_token.specs.declared.marks.Mark.TheVariants as mark
use Rattle.pv_tree.specs.Syntax.{ExpressionTree, DeclarationTree, Function, Declaration, InitDeclarator, MemberDeclaration, Enumerator, Parameter, TypeName, DeclaratorTree, DeclaredName, ParenDeclarator, Pointer, Array, FunctionDeclarator, AbstractParen, AbstractPointer, AbstractArray, AbstractFunction, SpecifierTree, Keyword, Composite, Enumeration, Tag, TypedefName, InitializerTree, Initial, Braces, StatementTree, Block, ExpressionStatement, If, IfElse, While, DoWhile, For, ForDeclaration, Switch, SwitchBlock, Labelled, Case, Default, Break, Continue, Return, Tree, OfExpression, OfDeclaration, OfDeclarator, OfSpecifier, OfInitializer, OfStatement, Trees, NoTrees, Then, OptionalTree, Absent, Present}
use Rattle.pv_tree.specs.Depths.{expression_depth, declaration_depth, declarator_depth, specifier_depth, initializer_depth, statement_depth, tree_depth, trees_depth, optional_depth}
use Rattle.pv_tree.specs.Spelling.{expression_tokens, declaration_tokens, declarator_tokens, specifier_tokens, initializer_tokens, statement_tokens, tree_tokens, trees_tokens, listed_tokens, optional_tokens, value_tokens, before_member, const_tokens, tag_tokens}
use Rattle.pv_tree.specs.Places.{Place, Specifiers, InitDeclarators, Members, MemberDeclarators, Enumerators, Parameters, Initializers, Constants, Expressions, AbstractDeclarators, DirectAbstract, ParameterDeclarators, BlockItems, SwitchItems, Labels}
use Rattle.pv_tree.specs.Fitting.{DeclarationFits, DeclaratorFits, SpecifierFits, InitializerFits, StatementFits, TreeFits, RowFits, ListFits, OptionalFits}
use Rattle.pv_expr_forms.proofs.Runs.{Takes, takes_then, takes_parts, takes_rest}
use Rattle.pv_decl_forms.proofs.Marks.{length_consts}
use Rattle.pv_decl_forms.proofs.Lifting.{Stand, front, past_run, past_one, past_two}

-- behind kinds that one closes
past_closed : (ks : List TokenKind) (k : TokenKind) (ls : List TokenKind) (here : List Token) → Stand ((ks ++ (k ∷ [])) ++ ls) here
    → Stand ls (drop 1 (drop (length ks) here))
past_closed ks k ls here s =
    let p = takes_parts (ks ++ (k ∷ [])) ls here s.0 s.1 in
    let q = takes_parts ks (k ∷ []) here p.0 p.1 in
    let at : drop 1 (drop (length ks) here) ≡ p.0 = ap (drop 1) (takes_rest ks here q.0 q.1) ∙ takes_rest (k ∷ []) q.0 p.0 q.2 in
    (s.0, subst (λ (x : List Token). Takes ls x s.0) (sym at) p.2)

-- the same, where a part stands in front of the kinds
past_both : (fs ks : List TokenKind) (k : TokenKind) (ls : List TokenKind) (here mid : List Token) → Takes fs here mid
    → Stand (((fs ++ ks) ++ (k ∷ [])) ++ ls) here
    → Stand ((ks ++ (k ∷ [])) ++ ls) mid
past_both fs ks k ls here mid h s =
    let p = takes_parts ((fs ++ ks) ++ (k ∷ [])) ls here s.0 s.1 in
    let q = takes_parts (fs ++ ks) (k ∷ []) here p.0 p.1 in
    let t = takes_parts fs ks here q.0 q.1 in
    let at : t.0 ≡ mid = sym (takes_rest fs here t.0 t.1) ∙ takes_rest fs here mid h in
    let inner : Takes ks mid q.0 = subst (λ (x : List Token). Takes ks x q.0) at t.2 in
    (s.0, takes_then (ks ++ (k ∷ [])) ls mid p.0 s.0 (takes_then ks (k ∷ []) mid q.0 p.0 inner q.2) p.2)

past_part : (fs ks : List TokenKind) (k : TokenKind) (ls : List TokenKind) (here : List Token) → Stand (((fs ++ ks) ++ (k ∷ [])) ++ ls) here
    → Stand ((ks ++ (k ∷ [])) ++ ls) (drop (length fs) here)
past_part fs ks k ls here s =
    let f = front fs ks here (front (fs ++ ks) (k ∷ []) here (front ((fs ++ ks) ++ (k ∷ [])) ls here s)) in
    subst (λ (x : List Token). Stand ((ks ++ (k ∷ [])) ++ ls) x) (sym (takes_rest fs here f.0 f.1)) (past_both fs ks k ls here f.0 f.1 s)

-- the same, where the part ends with a kind of its own
past_ended : (fs : List TokenKind) (e : TokenKind) (ks : List TokenKind) (k : TokenKind) (ls : List TokenKind) (here : List Token)
    → Stand ((((fs ++ (e ∷ [])) ++ ks) ++ (k ∷ [])) ++ ls) here → Stand ((ks ++ (k ∷ [])) ++ ls) (drop 1 (drop (length fs) here))
past_ended fs e ks k ls here s =
    let f = front (fs ++ (e ∷ [])) ks here (front ((fs ++ (e ∷ [])) ++ ks) (k ∷ []) here (front (((fs ++ (e ∷ [])) ++ ks) ++ (k ∷ [])) ls here s)) in
    let q = takes_parts fs (e ∷ []) here f.0 f.1 in
    let at : drop 1 (drop (length fs) here) ≡ f.0 = ap (drop 1) (takes_rest fs here q.0 q.1) ∙ takes_rest (e ∷ []) q.0 f.0 q.2 in
    subst (λ (x : List Token). Stand ((ks ++ (k ∷ [])) ++ ls) x) (sym at) (past_both (fs ++ (e ∷ [])) ks k ls here f.0 f.1 s)

past_star : (consts : ℕ) (ks : List TokenKind) (here : List Token) → Stand (kind.Mark mark.Star ∷ (const_tokens consts ++ ks)) here
    → Stand ks (drop (suc consts) here)
past_star consts ks [] s = absurd s.1
past_star consts ks (t ∷ ts) s =
    subst (λ (n : ℕ). Stand ks (drop n ts)) (length_consts consts) (past_run (const_tokens consts) ks ts (s.0, s.1.1))

known_drop : (K : List Token → Type 0) → ((t : Token) (ts : List Token) → K (t ∷ ts) → K ts) → (n : ℕ) (here : List Token) → K here → K (drop n here)
known_drop K tail zero here k = k
known_drop K tail (suc n) [] k = k
known_drop K tail (suc n) (t ∷ ts) k = known_drop K tail n ts (tail t ts k)

module _ (types : ℕ → Bool) (F G : ExpressionTree → List Token → Type 0) (K : List Token → Type 0) (tail : (t : Token) (ts : List Token) → K (t ∷ ts) → K ts) (deep : ℕ)
    (lift : (a : ExpressionTree) (here : List Token) → K here → Stand (expression_tokens a) here → expression_depth a ≤ deep → F a here → G a here) where
  known : (n : ℕ) (here : List Token) → K here → K (drop n here)
  known n here k = known_drop K tail n here k

  before_front : (before : Trees) (here : List Token) → Stand (before_member before (listed_tokens before)) here → Stand (listed_tokens before) here
  before_front NoTrees here s = s
  before_front (Then others last) here s = front (listed_tokens (Then others last)) (kind.Mark mark.Comma ∷ []) here s

  mutual
    pub declaration_lifted : (d : DeclarationTree) (here : List Token) → K here → Stand (declaration_tokens d) here → declaration_depth d ≤ deep
        → DeclarationFits types F d here → DeclarationFits types G d here
    declaration_lifted (Function line specs declarator block) here k s d f =
        let n = length (trees_tokens specs) in
        let m = length (declarator_tokens declarator) in
        let t = past_run (trees_tokens specs) _ here s in (
          f.0,
          f.1,
          row_lifted Specifiers specs here k (front (trees_tokens specs) _ here s) (omega (arith, d)) f.2,
          f.3,
          declarator_lifted declarator (drop n here) (known n here k) (front (declarator_tokens declarator) _ (drop n here) t) (omega (arith, d)) f.4,
          f.5,
          statement_lifted block (drop m (drop n here)) (known m (drop n here) (known n here k)) (past_run (declarator_tokens declarator) _ (drop n here) t) (omega (arith, d)) f.6,
        )
    declaration_lifted (Declaration line specs declared) here k s d f =
        let n = length (trees_tokens specs) in
        let t = front (trees_tokens specs ++ listed_tokens declared) _ here s in (
          f.0,
          f.1,
          row_lifted Specifiers specs here k (front (trees_tokens specs) _ here t) (omega (arith, d)) f.2,
          list_lifted InitDeclarators declared (drop n here) (known n here k) (past_run (trees_tokens specs) _ here t) (omega (arith, d)) f.3,
        )
    declaration_lifted (InitDeclarator line declarator init) here k s d f =
        let n = length (declarator_tokens declarator) in (
          f.0,
          f.1,
          declarator_lifted declarator here k (front (declarator_tokens declarator) _ here s) (omega (arith, d)) f.2,
          value_lifted Initializers init (drop n here) (known n here k) (past_run (declarator_tokens declarator) _ here s) (omega (arith, d)) f.3,
        )
    declaration_lifted (MemberDeclaration line specs declarators) here k s d f =
        let n = length (trees_tokens specs) in
        let t = front (trees_tokens specs ++ listed_tokens declarators) _ here s in (
          f.0,
          f.1,
          f.2,
          row_lifted Specifiers specs here k (front (trees_tokens specs) _ here t) (omega (arith, d)) f.3,
          list_lifted MemberDeclarators declarators (drop n here) (known n here k) (past_run (trees_tokens specs) _ here t) (omega (arith, d)) f.4,
        )
    declaration_lifted (Enumerator line n Absent) here k s d f = f
    declaration_lifted (Enumerator line n (Present t)) here k s d f =
        (f.0, f.1, (f.2.0, tree_lifted t (drop 2 here) (known 2 here k) (past_two _ _ _ here s) (omega (arith, d)) f.2.1))
    declaration_lifted (Parameter line specs declarator) here k s d f =
        let n = length (trees_tokens specs) in (
          f.0,
          f.1,
          row_lifted Specifiers specs here k (front (trees_tokens specs) _ here s) (omega (arith, d)) f.2,
          optional_lifted ParameterDeclarators declarator (drop n here) (known n here k) (past_run (trees_tokens specs) _ here s) (omega (arith, d)) f.3,
        )
    declaration_lifted (TypeName line specs declarator) here k s d f =
        let n = length (trees_tokens specs) in (
          f.0,
          f.1,
          row_lifted Specifiers specs here k (front (trees_tokens specs) _ here s) (omega (arith, d)) f.2,
          optional_lifted AbstractDeclarators declarator (drop n here) (known n here k) (past_run (trees_tokens specs) _ here s) (omega (arith, d)) f.3,
        )

    declarator_lifted : (c : DeclaratorTree) (here : List Token) → K here → Stand (declarator_tokens c) here → declarator_depth c ≤ deep
        → DeclaratorFits types F c here → DeclaratorFits types G c here
    declarator_lifted (DeclaredName line n) here k s d f = f
    declarator_lifted (ParenDeclarator line c) here k s d f =
        (f.0, f.1, declarator_lifted c (drop 1 here) (known 1 here k) (front (declarator_tokens c) _ (drop 1 here) (past_one _ _ here s)) (omega (arith, d)) f.2)
    declarator_lifted (Pointer line consts c) here k s d f =
        (f.0, f.1, declarator_lifted c (drop (suc consts) here) (known (suc consts) here k) (past_star consts (declarator_tokens c) here s) (omega (arith, d)) f.2)
    declarator_lifted (Array line c size) here k s d f =
        let mid = drop (length (declarator_tokens c)) here in
        let t = past_one _ _ mid (past_run (declarator_tokens c) _ here s) in (
          f.0,
          f.1,
          f.2,
          declarator_lifted c here k (front (declarator_tokens c) _ here s) (omega (arith, d)) f.3,
          optional_lifted Constants size (drop 1 mid) (known 1 mid (known (length (declarator_tokens c)) here k)) (front (optional_tokens size) _ (drop 1 mid) t) (omega (arith, d)) f.4,
        )
    declarator_lifted (FunctionDeclarator line c parameters variadic) here k s d f =
        let mid = drop (length (declarator_tokens c)) here in
        let t = past_one _ _ mid (past_run (declarator_tokens c) _ here s) in (
          f.0,
          f.1,
          f.2,
          f.3,
          declarator_lifted c here k (front (declarator_tokens c) _ here s) (omega (arith, d)) f.4,
          list_lifted Parameters parameters (drop 1 mid) (known 1 mid (known (length (declarator_tokens c)) here k)) (front (listed_tokens parameters) _ (drop 1 mid) (front _ _ (drop 1 mid) t)) (omega (arith, d)) f.5,
        )
    declarator_lifted (AbstractParen line c) here k s d f =
        (f.0, f.1, declarator_lifted c (drop 1 here) (known 1 here k) (front (declarator_tokens c) _ (drop 1 here) (past_one _ _ here s)) (omega (arith, d)) f.2)
    declarator_lifted (AbstractPointer line consts c) here k s d f =
        (f.0, optional_lifted AbstractDeclarators c (drop (suc consts) here) (known (suc consts) here k) (past_star consts (optional_tokens c) here s) (omega (arith, d)) f.1)
    declarator_lifted (AbstractArray line c size) here k s d f =
        let mid = drop (length (optional_tokens c)) here in
        let t = past_one _ _ mid (past_run (optional_tokens c) _ here s) in (
          f.0,
          optional_lifted DirectAbstract c here k (front (optional_tokens c) _ here s) (omega (arith, d)) f.1,
          optional_lifted Constants size (drop 1 mid) (known 1 mid (known (length (optional_tokens c)) here k)) (front (optional_tokens size) _ (drop 1 mid) t) (omega (arith, d)) f.2,
        )
    declarator_lifted (AbstractFunction line c parameters variadic) here k s d f =
        let mid = drop (length (optional_tokens c)) here in
        let t = past_one _ _ mid (past_run (optional_tokens c) _ here s) in (
          f.0,
          f.1,
          optional_lifted DirectAbstract c here k (front (optional_tokens c) _ here s) (omega (arith, d)) f.2,
          list_lifted Parameters parameters (drop 1 mid) (known 1 mid (known (length (optional_tokens c)) here k)) (front (listed_tokens parameters) _ (drop 1 mid) (front _ _ (drop 1 mid) t)) (omega (arith, d)) f.3,
        )

    specifier_lifted : (x : SpecifierTree) (here : List Token) → K here → Stand (specifier_tokens x) here → specifier_depth x ≤ deep
        → SpecifierFits types F x here → SpecifierFits types G x here
    specifier_lifted (Keyword line w) here k s d f = f
    specifier_lifted (Composite line w tag members) here k s d f =
        let n = length (tag_tokens tag) in
        let mid = drop n (drop 1 here) in
        let t = past_one _ _ mid (past_run (tag_tokens tag) _ (drop 1 here) (past_one _ _ here s)) in
        (f.0, f.1, f.2, row_lifted Members members (drop 1 mid) (known 1 mid (known n (drop 1 here) (known 1 here k))) (front (trees_tokens members) _ (drop 1 mid) t) (omega (arith, d)) f.3)
    specifier_lifted (Enumeration line tag enumerators comma) here k s d f =
        let n = length (tag_tokens tag) in
        let mid = drop n (drop 1 here) in
        let t = past_one _ _ mid (past_run (tag_tokens tag) _ (drop 1 here) (past_one _ _ here s)) in
        (f.0, f.1, list_lifted Enumerators enumerators (drop 1 mid) (known 1 mid (known n (drop 1 here) (known 1 here k))) (front (listed_tokens enumerators) _ (drop 1 mid) (front _ _ (drop 1 mid) t)) (omega (arith, d)) f.2)
    specifier_lifted (Tag line w n) here k s d f = f
    specifier_lifted (TypedefName line n) here k s d f = f

    initializer_lifted : (i : InitializerTree) (here : List Token) → K here → Stand (initializer_tokens i) here → initializer_depth i ≤ deep
        → InitializerFits types F i here → InitializerFits types G i here
    initializer_lifted (Initial line a) here k s d f = (f.0, f.1, lift a here k s (omega (arith, d)) f.2)
    initializer_lifted (Braces line inits comma) here k s d f =
        (f.0, f.1, list_lifted Initializers inits (drop 1 here) (known 1 here k) (front (listed_tokens inits) _ (drop 1 here) (front _ _ (drop 1 here) (past_one _ _ here s))) (omega (arith, d)) f.2)

    statement_lifted : (x : StatementTree) (here : List Token) → K here → Stand (statement_tokens x) here → statement_depth x ≤ deep
        → StatementFits types F x here → StatementFits types G x here
    statement_lifted (Block line items) here k s d f =
        (f.0, row_lifted BlockItems items (drop 1 here) (known 1 here k) (front (trees_tokens items) _ (drop 1 here) (past_one _ _ here s)) (omega (arith, d)) f.1)
    statement_lifted (ExpressionStatement line a) here k s d f =
        (f.0, optional_lifted Expressions a here k (front (optional_tokens a) _ here s) (omega (arith, d)) f.1)
    statement_lifted (If line a body) here k s d f =
        let two = drop 2 here in
        let n = length (expression_tokens a) in
        let t = past_two _ _ _ here s in (
          f.0,
          lift a two (known 2 here k) (front (expression_tokens a) _ two (front _ _ two t)) (omega (arith, d)) f.1,
          f.2,
          statement_lifted body (drop 1 (drop n two)) (known 1 (drop n two) (known n two (known 2 here k))) (past_closed (expression_tokens a) _ _ two t) (omega (arith, d)) f.3,
        )
    statement_lifted (IfElse line a body other) here k s d f =
        let two = drop 2 here in
        let n = length (expression_tokens a) in
        let m = length (statement_tokens body) in
        let t = past_two _ _ _ here s in
        let inner = drop 1 (drop n two) in
        let known' = known 1 (drop n two) (known n two (known 2 here k)) in
        let u = past_closed (expression_tokens a) _ _ two t in (
          f.0,
          lift a two (known 2 here k) (front (expression_tokens a) _ two (front _ _ two t)) (omega (arith, d)) f.1,
          f.2,
          f.3,
          statement_lifted body inner known' (front (statement_tokens body) _ inner u) (omega (arith, d)) f.4,
          f.5,
          statement_lifted other (drop 1 (drop m inner)) (known 1 (drop m inner) (known m inner known')) (past_one _ _ (drop m inner) (past_run (statement_tokens body) _ inner u)) (omega (arith, d)) f.6,
        )
    statement_lifted (While line a body) here k s d f =
        let two = drop 2 here in
        let n = length (expression_tokens a) in
        let t = past_two _ _ _ here s in (
          f.0,
          lift a two (known 2 here k) (front (expression_tokens a) _ two (front _ _ two t)) (omega (arith, d)) f.1,
          f.2,
          statement_lifted body (drop 1 (drop n two)) (known 1 (drop n two) (known n two (known 2 here k))) (past_closed (expression_tokens a) _ _ two t) (omega (arith, d)) f.3,
        )
    statement_lifted (DoWhile line body a) here k s d f =
        let m = length (statement_tokens body) in
        let one = drop 1 here in
        let t = past_one _ _ here s in
        let u = past_two _ _ _ (drop m one) (past_run (statement_tokens body) _ one t) in
        let last = drop 2 (drop m one) in (
          f.0,
          f.1,
          statement_lifted body one (known 1 here k) (front (statement_tokens body) _ one t) (omega (arith, d)) f.2,
          lift a last (known 2 (drop m one) (known m one (known 1 here k))) (front (expression_tokens a) _ last (front _ _ last u)) (omega (arith, d)) f.3,
        )
    statement_lifted (For line first condition step body) here k s d f =
        let two = drop 2 here in
        let n = length (optional_tokens first) in
        let m = length (optional_tokens condition) in
        let l = length (optional_tokens step) in
        let second = drop 1 (drop n two) in
        let third = drop 1 (drop m second) in
        let k2 = known 1 (drop n two) (known n two (known 2 here k)) in
        let k3 = known 1 (drop m second) (known m second k2) in
        let t = past_two _ _ _ here s in
        let u = past_ended (optional_tokens first) _ _ _ _ two t in
        let v = past_ended (optional_tokens condition) _ _ _ _ second u in (
          f.0,
          optional_lifted Expressions first two (known 2 here k) (front (optional_tokens first) _ two (front _ _ two (front _ _ two (front _ _ two t)))) (omega (arith, d)) f.1,
          optional_lifted Expressions condition second k2 (front (optional_tokens condition) _ second (front _ _ second (front _ _ second (front _ _ second u)))) (omega (arith, d)) f.2,
          optional_lifted Expressions step third k3 (front (optional_tokens step) _ third (front _ _ third v)) (omega (arith, d)) f.3,
          f.4,
          statement_lifted body (drop 1 (drop l third)) (known 1 (drop l third) (known l third k3)) (past_closed (optional_tokens step) _ _ third v) (omega (arith, d)) f.5,
        )
    statement_lifted (ForDeclaration line declaration condition step body) here k s d f =
        let two = drop 2 here in
        let n = length (declaration_tokens declaration) in
        let m = length (optional_tokens condition) in
        let l = length (optional_tokens step) in
        let second = drop n two in
        let third = drop 1 (drop m second) in
        let k2 = known n two (known 2 here k) in
        let k3 = known 1 (drop m second) (known m second k2) in
        let t = past_two _ _ _ here s in
        let u = past_part (declaration_tokens declaration) _ _ _ two t in
        let v = past_ended (optional_tokens condition) _ _ _ _ second u in (
          f.0,
          f.1,
          declaration_lifted declaration two (known 2 here k) (front (declaration_tokens declaration) _ two (front _ _ two (front _ _ two t))) (omega (arith, d)) f.2,
          optional_lifted Expressions condition second k2 (front (optional_tokens condition) _ second (front _ _ second (front _ _ second (front _ _ second u)))) (omega (arith, d)) f.3,
          optional_lifted Expressions step third k3 (front (optional_tokens step) _ third (front _ _ third v)) (omega (arith, d)) f.4,
          f.5,
          statement_lifted body (drop 1 (drop l third)) (known 1 (drop l third) (known l third k3)) (past_closed (optional_tokens step) _ _ third v) (omega (arith, d)) f.6,
        )
    statement_lifted (Switch line a block) here k s d f =
        let two = drop 2 here in
        let n = length (expression_tokens a) in
        let t = past_two _ _ _ here s in (
          f.0,
          lift a two (known 2 here k) (front (expression_tokens a) _ two (front _ _ two t)) (omega (arith, d)) f.1,
          f.2,
          statement_lifted block (drop 1 (drop n two)) (known 1 (drop n two) (known n two (known 2 here k))) (past_closed (expression_tokens a) _ _ two t) (omega (arith, d)) f.3,
        )
    statement_lifted (SwitchBlock line items) here k s d f =
        (f.0, row_lifted SwitchItems items (drop 1 here) (known 1 here k) (front (trees_tokens items) _ (drop 1 here) (past_one _ _ here s)) (omega (arith, d)) f.1)
    statement_lifted (Labelled line labels statement) here k s d f =
        let n = length (trees_tokens labels) in (
          f.0,
          f.1,
          row_lifted Labels labels here k (front (trees_tokens labels) _ here s) (omega (arith, d)) f.2,
          f.3,
          statement_lifted statement (drop n here) (known n here k) (past_run (trees_tokens labels) _ here s) (omega (arith, d)) f.4,
        )
    statement_lifted (Case line a) here k s d f =
        (f.0, f.1, lift a (drop 1 here) (known 1 here k) (front (expression_tokens a) _ (drop 1 here) (past_one _ _ here s)) (omega (arith, d)) f.2)
    statement_lifted (Default line) here k s d f = f
    statement_lifted (Break line) here k s d f = f
    statement_lifted (Continue line) here k s d f = f
    statement_lifted (Return line a) here k s d f =
        (f.0, optional_lifted Expressions a (drop 1 here) (known 1 here k) (front (optional_tokens a) _ (drop 1 here) (past_one _ _ here s)) (omega (arith, d)) f.1)

    tree_lifted : (t : Tree) (here : List Token) → K here → Stand (tree_tokens t) here → tree_depth t ≤ deep → TreeFits types F t here
        → TreeFits types G t here
    tree_lifted (OfExpression a) here k s d f = lift a here k s d f
    tree_lifted (OfDeclaration x) here k s d f = declaration_lifted x here k s d f
    tree_lifted (OfDeclarator x) here k s d f = declarator_lifted x here k s d f
    tree_lifted (OfSpecifier x) here k s d f = specifier_lifted x here k s d f
    tree_lifted (OfInitializer x) here k s d f = initializer_lifted x here k s d f
    tree_lifted (OfStatement x) here k s d f = statement_lifted x here k s d f

    row_lifted : (place : Place) (parts : Trees) (here : List Token) → K here → Stand (trees_tokens parts) here → trees_depth parts ≤ deep
        → RowFits types F place parts here → RowFits types G place parts here
    row_lifted place NoTrees here k s d f = tt
    row_lifted place (Then before last) here k s d f =
        let n = length (trees_tokens before) in (
          row_lifted place before here k (front (trees_tokens before) _ here s) (omega (arith, d)) f.0,
          f.1,
          tree_lifted last (drop n here) (known n here k) (past_run (trees_tokens before) _ here s) (omega (arith, d)) f.2,
        )

    pub list_lifted : (place : Place) (parts : Trees) (here : List Token) → K here → Stand (listed_tokens parts) here → trees_depth parts ≤ deep
        → ListFits types F place parts here → ListFits types G place parts here
    list_lifted place NoTrees here k s d f = tt
    list_lifted place (Then before last) here k s d f =
        let ks = before_member before (listed_tokens before) in (
          list_lifted place before here k (before_front before here (front ks _ here s)) (omega (arith, d)) f.0,
          f.1,
          tree_lifted last (drop (length ks) here) (known (length ks) here k) (past_run ks _ here s) (omega (arith, d)) f.2,
        )

    optional_lifted : (place : Place) (o : OptionalTree) (here : List Token) → K here → Stand (optional_tokens o) here → optional_depth o ≤ deep
        → OptionalFits types F place o here → OptionalFits types G place o here
    optional_lifted place Absent here k s d f = tt
    optional_lifted place (Present t) here k s d f = (f.0, tree_lifted t here k s d f.1)

    value_lifted : (place : Place) (o : OptionalTree) (here : List Token) → K here → Stand (value_tokens o) here → optional_depth o ≤ deep
        → OptionalFits types F place o (drop 1 here) → OptionalFits types G place o (drop 1 here)
    value_lifted place Absent here k s d f = tt
    value_lifted place (Present t) here k s d f = (f.0, tree_lifted t (drop 1 here) (known 1 here k) (past_one _ _ here s) d f.1)
