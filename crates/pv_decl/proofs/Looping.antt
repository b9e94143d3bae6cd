-- A turn of a loop over parts, where a unit has grown since the loop began: what the loop keeps, and what it answers where it ends.
use Rattle.std.proofs.Common.{◌≡◌, ◌≤◌, ◌<◌, ℕ, Bool, List, [], ◌∷◌, ◌++◌, All, length, drop, Option, Some, None, arith}
use Rattle.indexmap.specs.IndexSet.{IndexSet}
use Rattle.pv_token.specs.declared.token_table.Token.{Token}
use Rattle.pv_tree.specs.declared.nodes.NodeId.{NodeId}
use Rattle.pv_tree.specs.Places.{Place}
use Rattle.pv_tree.specs.Syntax.{Tree, Trees}
use Rattle.pv_tree.specs.Tables.{Tables, trees_of, Is, Extends}
use Rattle.pv_tree.specs.TypeNames.{TypeMap}
use Rattle.pv_tree.proofs.Kept.{extends_then}
use Rattle.pv_expr_forms.specs.Known.{names_in}
use Rattle.pv_expr_forms.specs.Reader.{is_comma, after}
use Rattle.pv_decl_forms.specs.Answers.{Answers}
use Rattle.pv_decl_forms.specs.Givens.{AreGiven}
use Rattle.pv_decl_forms.specs.Pieces.{Piece, row_on, row, after_comma}
use Rattle.pv_decl_forms.specs.Reader.{readers}
use Rattle.pv_decl_forms.specs.Rows.{AreAnswered}
use Rattle.pv_decl_forms.proofs.Loops.{parts_shorten, commas_shorten, at_start, goes_forward, part_there, parts_there, row_ends, row_goes, list_ends, list_stops, list_goes, comma_forward}
use Rattle.pv_decl.proofs.Givens.{given_kept}

-- u at the start, v at a turn's start, w behind what is read in it
module _ {S : Type 0} (lists : ℕ → Option (Option (NodeId × ℕ))) (typedefs : IndexSet ℕ S) (types : TypeMap) (u v w : Tables) (tokens : List Token) (given : AreGiven lists typedefs types u tokens)
    (keeps : Extends u v) (grows : Extends v w) (kind : Tree → Bool) (depth : ℕ) (place : Place) (ns : List NodeId) (nodes : All (λ n. Is v kind n) ns) (next : ℕ) (here : next ≤ length tokens)
    (answer : Option (NodeId × ℕ)) (a : Answers w kind tokens answer (readers (names_in typedefs types v tokens) depth place (drop next tokens))) where
  abbrev part : List Token → Piece
  part = readers (names_in typedefs types u tokens) depth place

  started : Answers w kind tokens answer (part (drop next tokens))
  started = at_start typedefs types u v w tokens given.tied keeps kind answer (λ n. readers n depth place (drop next tokens)) a

  module _ (n : NodeId) (end : ℕ) (e : answer ≡ Some (n, end)) where
    pub forward : next < end
    forward = goes_forward kind v w grows tokens part ns nodes next here answer started (parts_shorten typedefs types u tokens given.tied depth place) n end e

    pub past_comma : (following : ℕ) → following ≤ length tokens → after is_comma (drop end tokens) ≡ Some (drop following tokens) → next < following
    past_comma following p comma =
        let more = comma_forward tokens end following (part_there kind v w grows tokens part ns nodes next here answer started n end e).1 p comma in
        omega (arith, forward, more)

  module _ (whole : Trees × List Token) (same : row part (trees_of v.forest ns) (drop next tokens) ≡ whole) where
    pub row_done : answer ≡ None → AreAnswered w kind tokens ns next whole
    row_done = row_ends kind v w grows tokens part ns nodes next here answer started (parts_shorten typedefs types u tokens given.tied depth place) whole same

    pub row_turn : (n : NodeId) (end : ℕ) → answer ≡ Some (n, end) → (items : List NodeId) → items ≡ ns ++ (n ∷ [])
        → record {
          nodes : All (λ m. Is w kind m) items;
          place : end ≤ length tokens;
          keeps : Extends u w;
          tied : AreGiven lists typedefs types w tokens;
          same : row part (trees_of w.forest items) (drop end tokens) ≡ whole;
        }
    row_turn n end e items is =
        let on = extends_then u v w keeps grows in
        record {
          nodes = parts_there kind v w grows tokens part ns nodes next here answer started n end e items is;
          place = (part_there kind v w grows tokens part ns nodes next here answer started n end e).1;
          keeps = on;
          tied = given_kept lists typedefs types u w tokens given on;
          same = row_goes kind v w grows tokens part ns nodes next here answer started (parts_shorten typedefs types u tokens given.tied depth place) whole same n end e items is;
        }

  module _ (behind : ℕ) (where_behind : behind ≤ length tokens) (whole : Trees × List Token)
      (same : row_on (row (after_comma part)) (trees_of v.forest ns) (drop behind tokens) (part (drop next tokens)) ≡ whole) where
    pub list_done : answer ≡ None → AreAnswered w kind tokens ns behind whole
    list_done = list_ends kind v w grows tokens part ns nodes next here answer started (commas_shorten typedefs types u tokens given.tied depth place) behind where_behind whole same

    module _ (n : NodeId) (end : ℕ) (e : answer ≡ Some (n, end)) (items : List NodeId) (is : items ≡ ns ++ (n ∷ [])) where
      pub list_stop : after is_comma (drop end tokens) ≡ None → AreAnswered w kind tokens items end whole
      list_stop = list_stops kind v w grows tokens part ns nodes next here answer started (commas_shorten typedefs types u tokens given.tied depth place) behind where_behind whole same n end e items is

      pub list_turn : (following : ℕ) → after is_comma (drop end tokens) ≡ Some (drop following tokens) → following ≤ length tokens
          → record {
            nodes : All (λ m. Is w kind m) items;
            place : following ≤ length tokens;
            where_behind : end ≤ length tokens;
            keeps : Extends u w;
            tied : AreGiven lists typedefs types w tokens;
            same : row_on (row (after_comma part)) (trees_of w.forest items) (drop end tokens) (part (drop following tokens)) ≡ whole;
          }
      list_turn following comma p =
          let on = extends_then u v w keeps grows in
          record {
            nodes = parts_there kind v w grows tokens part ns nodes next here answer started n end e items is;
            place = p;
            where_behind = (part_there kind v w grows tokens part ns nodes next here answer started n end e).1;
            keeps = on;
            tied = given_kept lists typedefs types u w tokens given on;
            same = list_goes kind v w grows tokens part ns nodes next here answer started (commas_shorten typedefs types u tokens given.tied depth place) behind where_behind whole same n end e items is following comma;
          }
