-- Parts read one after another: what the loops over them keep, and what they answer.
use Rattle.std.proofs.Common.{◌≡◌, ◌≤◌, ◌<◌, ℕ, suc, Bool, List, [], ◌∷◌, ◌++◌, All, length, drop, Option, Some, None, option_and_then, refl, sym, ap, ◌∙◌, arith, nat_eq}
use Rattle.std.specs.List.{fold}
use Rattle.std.proofs.lemmas.List.{length-drop}
use Rattle.std.proofs.lemmas.List.Elements.{All-push}
use Rattle.indexmap.specs.IndexSet.{IndexSet, contains}
use Rattle.pv_token.specs.declared.token_table.Token.{Token}
use Rattle.pv_token.specs.declared.token_table.TokenKind.TheVariants as kind
use Rattle.pv_token.specs.declared.marks.Mark.TheVariants as mark
use Rattle.pv_tree.specs.declared.nodes.NodeId.{NodeId}
use Rattle.pv_tree.specs.Syntax.{Tree, Trees, NoTrees, Then}
use Rattle.pv_tree.specs.Tables.{Tables, tree_at, trees_of, Is, Extends}
use Rattle.pv_tree.specs.Spells.{Names}
use Rattle.pv_tree.specs.Places.{Place}
use Rattle.pv_tree.specs.TypeNames.{TypeMap, AreTied}
use Rattle.pv_tree.proofs.Forming.{fold_push}
use Rattle.pv_tree.proofs.Kept.{tree_kept, is_kept}
use Rattle.pv_expr_forms.specs.Reader.{is_comma, after}
use Rattle.pv_expr_forms.specs.Known.{names_in}
use Rattle.pv_expr_forms.proofs.Naming.{names_kept}
use Rattle.pv_expr_forms.proofs.Runs.{takes_length}
use Rattle.pv_expr_forms.proofs.Spans.{IsEnd, names_spelled, at_end}
use Rattle.pv_decl_forms.specs.Pieces.{Piece, row_on, row, after_comma, comma_list}
use Rattle.pv_decl_forms.specs.Reader.{readers}
use Rattle.pv_decl_forms.specs.Answers.{Answers}
use Rattle.pv_decl_forms.specs.Rows.{AreAnswered}
use Rattle.pv_decl_forms.proofs.Answered.{got, got_none}
use Rattle.pv_decl_forms.proofs.Goods.{part_shortens, comma_shortens}
use Rattle.pv_decl_forms.proofs.Marks.{comma_taken}
use Rattle.pv_decl_forms.proofs.Sound.{readers_sound}
use Rattle.pv_decl_forms.proofs.Steps.{Shortens, row_step, row_next, row_stop}

-- ---- what is read takes a token

pub parts_shorten : {S : Type 0} (typedefs : IndexSet ℕ S) (types : TypeMap) (u : Tables) (tokens : List Token) → AreTied types u tokens → (depth : ℕ) (place : Place)
    → Shortens (IsEnd tokens) (readers (names_in typedefs types u tokens) depth place)
unfolding names_in
parts_shorten typedefs types u tokens tied depth place =
    let spelled = names_spelled (contains nat_eq typedefs) types u tokens tied in
    part_shortens _ (IsEnd tokens) spelled depth _ (readers_sound _ (IsEnd tokens) spelled depth) place

pub commas_shorten : {S : Type 0} (typedefs : IndexSet ℕ S) (types : TypeMap) (u : Tables) (tokens : List Token) → AreTied types u tokens → (depth : ℕ) (place : Place)
    → Shortens (IsEnd tokens) (after_comma (readers (names_in typedefs types u tokens) depth place))
unfolding names_in
commas_shorten typedefs types u tokens tied depth place =
    let spelled = names_spelled (contains nat_eq typedefs) types u tokens tied in
    comma_shortens _ (IsEnd tokens) spelled depth _ (readers_sound _ (IsEnd tokens) spelled depth) place

-- what is read under the names of a unit that has grown is read under those at the start
pub at_start : {S : Type 0} (typedefs : IndexSet ℕ S) (types : TypeMap) (u v w : Tables) (tokens : List Token) → AreTied types u tokens → Extends u v → (kind : Tree → Bool) (answer : Option (NodeId × ℕ)) (reading : Names → Piece)
    → Answers w kind tokens answer (reading (names_in typedefs types v tokens)) → Answers w kind tokens answer (reading (names_in typedefs types u tokens))
at_start typedefs types u v w tokens tied keeps kind answer reading a = record { is = a.is ∙ ap reading (names_kept typedefs types u v tokens tied keeps); there = a.there }

-- ---- nodes as parts, in a unit that has grown

module _ (kind : Tree → Bool) (u v : Tables) (keeps : Extends u v) where
  fold_kept : (before : Trees) (ns : List NodeId) → All (λ n. Is u kind n) ns → fold (λ b n. Then b (tree_at v.forest n)) before ns ≡ fold (λ b n. Then b (tree_at u.forest n)) before ns
  fold_kept before [] all = refl
  fold_kept before (n ∷ ns) all =
      ap (λ (t : Tree). fold (λ b m. Then b (tree_at v.forest m)) (Then before t) ns) (tree_kept u v n keeps (all 0 n (omega arith)).0)
      ∙ fold_kept (Then before (tree_at u.forest n)) ns (λ k d lt. all (suc k) d (omega (arith, lt)))

  pub trees_kept : (ns : List NodeId) → All (λ n. Is u kind n) ns → trees_of v.forest ns ≡ trees_of u.forest ns
  trees_kept ns all = fold_kept NoTrees ns all

  pub all_kept : (ns : List NodeId) → All (λ n. Is u kind n) ns → All (λ n. Is v kind n) ns
  all_kept ns all = λ k d lt. is_kept u v kind _ keeps (all k d lt)

  -- one more
  pub trees_more : (ns : List NodeId) (n : NodeId) → All (λ m. Is u kind m) ns → trees_of v.forest (ns ++ (n ∷ [])) ≡ Then (trees_of u.forest ns) (tree_at v.forest n)
  trees_more ns n all =
      fold_push (λ (b : Trees) (m : NodeId). Then b (tree_at v.forest m)) NoTrees ns n
      ∙ ap (λ (b : Trees). Then b (tree_at v.forest n)) (trees_kept ns all)

  pub all_more : (ns : List NodeId) (n : NodeId) → All (λ m. Is u kind m) ns → Is v kind n → All (λ m. Is v kind m) (ns ++ (n ∷ []))
  all_more ns n all there = All-push (λ m. Is v kind m) ns n (all_kept ns all) there

pub no_parts : (kind : Tree → Bool) (u : Tables) (items : List NodeId) → items ≡ [] → All (λ n. Is u kind n) items
no_parts kind u items e = rw e (λ k d lt. absurd (omega (arith, lt)))

-- ---- one part more, or none

module _ (kind : Tree → Bool) (v w : Tables) (grows : Extends v w) (tokens : List Token) (part : List Token → Piece) (ns : List NodeId) (nodes : All (λ n. Is v kind n) ns)
    (next : ℕ) (place : next ≤ length tokens) (answer : Option (NodeId × ℕ)) (a : Answers w kind tokens answer (part (drop next tokens))) where
  module _ (short : Shortens (IsEnd tokens) part) (n : NodeId) (end : ℕ) (e : answer ≡ Some (n, end)) where
    pub goes_forward : next < end
    goes_forward =
        let g = got w kind tokens answer _ n end a e in
        omega (arith, short.less (drop next tokens) (tree_at w.forest n) (drop end tokens) (at_end tokens next place) (sym g.0), length-drop next tokens, length-drop end tokens, g.2)

  module _ (n : NodeId) (end : ℕ) (e : answer ≡ Some (n, end)) where
    pub part_there : Is w kind n × (end ≤ length tokens)
    part_there = let g = got w kind tokens answer _ n end a e in (g.1, g.2)

    pub parts_there : (items : List NodeId) → items ≡ ns ++ (n ∷ []) → All (λ m. Is w kind m) items
    parts_there items is = rw is (all_more kind v w grows ns n nodes part_there.0)

    one_more : (items : List NodeId) → items ≡ ns ++ (n ∷ []) → trees_of w.forest items ≡ Then (trees_of v.forest ns) (tree_at w.forest n)
    one_more items is = ap (trees_of w.forest) is ∙ trees_more kind v w grows ns n nodes

  -- ---- in a row

  module _ (short : Shortens (IsEnd tokens) part) (whole : Trees × List Token) (same : row part (trees_of v.forest ns) (drop next tokens) ≡ whole) where
    pub row_ends : answer ≡ None → AreAnswered w kind tokens ns next whole
    row_ends e = record {
      is = ap (λ (ts : Trees). let x : Trees × List Token = (ts, drop next tokens) in x) (trees_kept kind v w grows ns nodes)
          ∙ sym (row_stop (IsEnd tokens) part short (trees_of v.forest ns) (drop next tokens) (at_end tokens next place) (sym (got_none w kind tokens answer _ a e))) ∙ same;
      there = all_kept kind v w grows ns nodes;
      place = place;
    }

    pub row_goes : (n : NodeId) (end : ℕ) → answer ≡ Some (n, end) → (items : List NodeId) → items ≡ ns ++ (n ∷ []) → row part (trees_of w.forest items) (drop end tokens) ≡ whole
    row_goes n end e items is =
        ap (λ (b : Trees). row part b (drop end tokens)) (one_more n end e items is)
        ∙ sym (row_next (IsEnd tokens) part short (trees_of v.forest ns) (drop next tokens) (tree_at w.forest n) (drop end tokens) (at_end tokens next place) (sym (got w kind tokens answer _ n end a e).0))
        ∙ same

  -- ---- with commas between

  module _ (short : Shortens (IsEnd tokens) (after_comma part)) (behind : ℕ) (where_behind : behind ≤ length tokens) (whole : Trees × List Token)
      (same : row_on (row (after_comma part)) (trees_of v.forest ns) (drop behind tokens) (part (drop next tokens)) ≡ whole) where
    from_answer : (o : Piece) → o ≡ part (drop next tokens) → row_on (row (after_comma part)) (trees_of v.forest ns) (drop behind tokens) o ≡ whole
    from_answer o e = ap (row_on (row (after_comma part)) (trees_of v.forest ns) (drop behind tokens)) e ∙ same

    pub list_ends : answer ≡ None → AreAnswered w kind tokens ns behind whole
    list_ends e = record {
      is = ap (λ (ts : Trees). let x : Trees × List Token = (ts, drop behind tokens) in x) (trees_kept kind v w grows ns nodes)
          ∙ from_answer None (got_none w kind tokens answer _ a e);
      there = all_kept kind v w grows ns nodes;
      place = where_behind;
    }

    module _ (n : NodeId) (end : ℕ) (e : answer ≡ Some (n, end)) (items : List NodeId) (is : items ≡ ns ++ (n ∷ [])) where
      list_on : row (after_comma part) (trees_of w.forest items) (drop end tokens) ≡ whole
      list_on =
          ap (λ (b : Trees). row (after_comma part) b (drop end tokens)) (one_more n end e items is)
          ∙ from_answer (Some (tree_at w.forest n, drop end tokens)) (got w kind tokens answer _ n end a e).0

      -- no comma is behind it
      pub list_stops : after is_comma (drop end tokens) ≡ None → AreAnswered w kind tokens items end whole
      unfolding after_comma
      list_stops c = record {
        is = sym (row_stop (IsEnd tokens) (after_comma part) short (trees_of w.forest items) (drop end tokens) (at_end tokens end (part_there n end e).1) (ap (option_and_then part) c)) ∙ list_on;
        there = parts_there n end e items is;
        place = (part_there n end e).1;
      }

      -- a comma is behind it
      pub list_goes : (following : ℕ) → after is_comma (drop end tokens) ≡ Some (drop following tokens)
          → row_on (row (after_comma part)) (trees_of w.forest items) (drop end tokens) (part (drop following tokens)) ≡ whole
      unfolding after_comma
      list_goes following c =
          ap (row_on (row (after_comma part)) (trees_of w.forest items) (drop end tokens)) (sym (ap (option_and_then part) c))
          ∙ sym (row_step (IsEnd tokens) (after_comma part) short (trees_of w.forest items) (drop end tokens) (at_end tokens end (part_there n end e).1))
          ∙ list_on

-- a comma is a token
pub comma_forward : (tokens : List Token) (end following : ℕ) → end ≤ length tokens → following ≤ length tokens → after is_comma (drop end tokens) ≡ Some (drop following tokens) → end < following
comma_forward tokens end following p q c =
    omega (arith, takes_length (kind.Mark mark.Comma ∷ []) (drop end tokens) (drop following tokens) (comma_taken (drop end tokens) (drop following tokens) c), length-drop end tokens, length-drop following tokens)

-- before the first part
pub start_row : (part : List Token → Piece) (u : Tables) (items : List NodeId) (ts : List Token) → items ≡ [] → row part (trees_of u.forest items) ts ≡ row part NoTrees ts
start_row part u items ts e = ap (λ (ns : List NodeId). row part (trees_of u.forest ns) ts) e

pub start_list : (part : List Token → Piece) (u : Tables) (items : List NodeId) (ts : List Token) → items ≡ [] → row_on (row (after_comma part)) (trees_of u.forest items) ts (part ts) ≡ comma_list part ts
unfolding comma_list
start_list part u items ts e = ap (λ (ns : List NodeId). row_on (row (after_comma part)) (trees_of u.forest ns) ts (part ts)) e
