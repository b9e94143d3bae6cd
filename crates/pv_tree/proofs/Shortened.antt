-- The rows of the table of nodes in their short form.
use Rattle.std.proofs.Common.{◌≡◌, ◌<◌, ◌≤◌, ◌+◌, ℕ, zero, suc, List, [], ◌∷◌, ◌++◌, length, map, get_or, refl, sym, ap, subst, ◌∙◌, arith}
use Rattle.std.proofs.lemmas.List.{length-append, length-map, map_push, get_or_append_left, get_or_push, get_or-map, get_or_default}
use Rattle.pv_tree.specs.declared.nodes.Node.{Node}
use Rattle.pv_tree.specs.declared.nodes.Node.TheVariants as node
use Rattle.pv_tree.specs.declared.nodes.Stmt.TheVariants as stmt
use Rattle.pv_tree.specs.declared.short.ShortNode.{ShortNode}
use Rattle.pv_tree.specs.declared.short.ShortNode.TheVariants as short
use Rattle.pv_tree.specs.declared.rows.Row.{Row}
use Rattle.pv_tree.specs.declared.rows.ShortRow.{ShortRow}
use Rattle.pv_tree.specs.Short.{long_node, row_of, row_at, IsAmong, AreAmong, AreShort}

abbrev pub row : Node → ℕ → ℕ → Row
row n line depth = record { node = n; line = line; depth = depth }

abbrev pub short_row : ShortNode → ℕ → ℕ → ShortRow
short_row s line depth = record { node = s; line = line; depth = depth }

-- ---- what one more whole node leaves as it was

node_stays : (whole : List Node) (n : Node) (s : ShortNode) → IsAmong (length whole) s → long_node (whole ++ n ∷ []) s ≡ long_node whole s
node_stays whole n (short.Expr e) h = refl
node_stays whole n (short.Decl d) h = refl
node_stays whole n (short.Declarator d) h = refl
node_stays whole n (short.Spec s) h = refl
node_stays whole n (short.Init i) h = refl
node_stays whole n (short.Stmt s) h = refl
node_stays whole n (short.Whole i) h = get_or_append_left whole (n ∷ []) (node.Stmt stmt.Default) i h

among_more : (m n : ℕ) → m ≤ n → (s : ShortNode) → IsAmong m s → IsAmong n s
among_more m n le (short.Expr e) h = tt
among_more m n le (short.Decl d) h = tt
among_more m n le (short.Declarator d) h = tt
among_more m n le (short.Spec s) h = tt
among_more m n le (short.Init i) h = tt
among_more m n le (short.Stmt s) h = tt
among_more m n le (short.Whole i) h =
    let here : i < m = h in
    omega (arith, le, here)

rows_stay : (whole : List Node) (n : Node) (rs : List ShortRow) → AreAmong (length whole) rs → map (row_of (whole ++ n ∷ [])) rs ≡ map (row_of whole) rs
rows_stay whole n [] h = refl
rows_stay whole n (r ∷ rs) h =
    ap (λ (x : Node). row x r.line r.depth ∷ map (row_of (whole ++ n ∷ [])) rs) (node_stays whole n r.node h.0)
    ∙ ap (λ (l : List Row). row_of whole r ∷ l) (rows_stay whole n rs h.1)

are_among_more : (m n : ℕ) → m ≤ n → (rs : List ShortRow) → AreAmong m rs → AreAmong n rs
are_among_more m n le [] h = tt
are_among_more m n le (r ∷ rs) h = (among_more m n le r.node h.0, are_among_more m n le rs h.1)

among_push : (n : ℕ) (rs : List ShortRow) (r : ShortRow) → AreAmong n rs → IsAmong n r.node → AreAmong n (rs ++ r ∷ [])
among_push n [] r h last = (last, tt)
among_push n (x ∷ rs) r h last = (h.0, among_push n rs r h.1 last)

-- ---- one more row

module _ (whole : List Node) (rs : List ShortRow) (now : List Row) (seen : map (row_of whole) rs ≡ now) (is : AreShort whole rs) (new : List ShortRow) (n : Node) (line depth : ℕ) where
  -- in its short form
  module _ (s : ShortNode) (pushed : new ≡ rs ++ short_row s line depth ∷ []) where
    pub row_added : long_node whole s ≡ n → map (row_of whole) new ≡ now ++ row n line depth ∷ []
    row_added same =
        ap (map (row_of whole)) pushed
        ∙ map_push (row_of whole) rs (short_row s line depth)
        ∙ ap (λ (l : List Row). l ++ row (long_node whole s) line depth ∷ []) seen
        ∙ ap (λ (x : Node). now ++ row x line depth ∷ []) same

    pub short_added : IsAmong (length whole) s → AreShort whole new
    short_added among = record {
      fewer = omega (arith, is.fewer, ap length pushed, length-append rs (short_row s line depth ∷ []));
      among = subst (AreAmong (length whole)) (sym pushed) (among_push (length whole) rs (short_row s line depth) is.among among);
    }

  -- whole
  module _ (nodes : List Node) (kept : nodes ≡ whole ++ n ∷ []) (place : ℕ) (last : place ≡ length whole) (pushed : new ≡ rs ++ short_row (short.Whole place) line depth ∷ []) where
    longer : length nodes ≡ length whole + 1
    longer = ap length kept ∙ length-append whole (n ∷ [])

    pub whole_added : map (row_of nodes) new ≡ now ++ row n line depth ∷ []
    whole_added =
        ap (map (row_of nodes)) pushed
        ∙ map_push (row_of nodes) rs (short_row (short.Whole place) line depth)
        ∙ ap (λ (l : List Row). l ++ row (long_node nodes (short.Whole place)) line depth ∷ []) (ap (λ (w : List Node). map (row_of w) rs) kept ∙ rows_stay whole n rs is.among ∙ seen)
        ∙ ap (λ (x : Node). now ++ row x line depth ∷ []) (ap (λ (w : List Node). get_or w place (node.Stmt stmt.Default)) kept ∙ get_or_push whole n (node.Stmt stmt.Default) place (sym last))

    pub whole_short : AreShort nodes new
    whole_short = record {
      fewer = omega (arith, is.fewer, longer, ap length pushed, length-append rs (short_row (short.Whole place) line depth ∷ []));
      among = subst (AreAmong (length nodes)) (sym pushed) (among_push (length nodes) rs (short_row (short.Whole place) line depth) (are_among_more (length whole) (length nodes) (omega (arith, longer)) rs is.among) (omega (arith, longer, last)));
    }

-- ---- a row that is read

among_at : (n : ℕ) (rs : List ShortRow) (i : ℕ) (r : ShortRow) → AreAmong n rs → i < length rs → IsAmong n (get_or rs i r).node
among_at n [] i r h lt = absurd (omega (arith, lt))
among_at n (x ∷ rs) zero r h lt = h.0
among_at n (x ∷ rs) (suc i) r h lt = among_at n rs i r h.1 (omega (arith, lt))

module _ (whole : List Node) (rs : List ShortRow) (now : List Row) (seen : map (row_of whole) rs ≡ now) where
  pub rows_count : length rs ≡ length now
  rows_count = sym (length-map rs (row_of whole)) ∙ ap (λ (l : List Row). length l) seen

  module _ (i : ℕ) (here : i < length now) (r : ShortRow) (read : r ≡ get_or rs i r) where
    within : i < length rs
    within = omega (arith, here, rows_count)

    pub row_read : row_of whole r ≡ row_at now i
    row_read =
        ap (row_of whole) read
        ∙ sym (get_or-map (row_of whole) rs i r (record { node = node.Stmt stmt.Default; line = 0; depth = 0 }) within)
        ∙ ap (λ (l : List Row). row_at l i) seen

    pub among_read : (n : ℕ) → AreAmong n rs → IsAmong n r.node
    among_read n h = subst (λ (x : ShortRow). IsAmong n x.node) (sym read) (among_at n rs i r h within)

    pub node_read : long_node whole r.node ≡ (row_at now i).node
    node_read = ap (λ (x : Row). x.node) row_read

-- a whole node that is read
pub whole_read : (whole : List Node) (i : ℕ) (n : Node) → IsAmong (length whole) (short.Whole i) → n ≡ get_or whole i n → n ≡ long_node whole (short.Whole i)
whole_read whole i n here read = read ∙ get_or_default whole i n (node.Stmt stmt.Default) here
