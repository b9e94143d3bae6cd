-- What is read fits, and spells what was taken: parts, rows, lists, and parts that may be left out.
use Rattle.std.proofs.Common.{◌≡◌, ◌≤◌, ◌<◌, ℕ, Bool, true, List, [], ◌∷◌, ◌++◌, length, drop, Some, None, option_and_then, refl, sym, subst, arith}
use Rattle.std.proofs.lemmas.List.{length-append}
use Rattle.std.proofs.lemmas.Bool.{false≢true}
use Rattle.pv_token.specs.declared.token_table.Token.{Token}
use Rattle.pv_token.specs.declared.token_table.TokenKind.{TokenKind}
use Rattle.pv_token.specs.declared.token_table.TokenKind.TheVariants as kind
use Rattle.pv_token.specs.declared.marks.Mark.TheVariants as mark
use Rattle.pv_tree.specs.Syntax.{Tree, Trees, NoTrees, Then, OptionalTree}
use Rattle.pv_tree.specs.Depths.{tree_depth, trees_depth, optional_depth}
use Rattle.pv_tree.specs.Spelling.{tree_tokens, trees_tokens, listed_tokens, optional_tokens, value_tokens, variadic_tokens}
use Rattle.pv_tree.specs.Spells.{Names, Fits}
use Rattle.pv_tree.specs.Places.{Place, Parameters, Constants, stands, some, may_be_variadic}
use Rattle.pv_tree.specs.Fitting.{TreeFits, RowFits, ListFits, OptionalFits}
use Rattle.pv_expr_forms.specs.Reader.{is_comma, after}
use Rattle.pv_expr_forms.proofs.Runs.{Takes, takes_then, takes_rest, takes_length, takes_known}
use Rattle.pv_expr_forms.proofs.Steps.{followed}
use Rattle.pv_expr_forms.proofs.Marks.{after_close, after_bracket}
use Rattle.pv_expr_forms.proofs.Heads.{IsSpelled}
use Rattle.pv_decl_forms.specs.Pieces.{Piece, Reads, is_equals, part_if_any, value, row_on, row, after_comma, comma_list}
use Rattle.pv_decl_forms.specs.Declarators.{size_behind, variadic_at, parameters_behind}
use Rattle.pv_decl_forms.proofs.Marks.{comma_taken, equals_taken, varied}
use Rattle.pv_decl_forms.proofs.Steps.{Shortens, row_holds, bracketed_is, with_parameters_is}

pub record Good (names : Names) (place : Place) (deep : ℕ) (here : List Token) (t : Tree) (rest : List Token) : Type 0 where
  pub stand : stands place t ≡ true
  pub fits : TreeFits names.is_type (Fits names) t here
  pub shallow : tree_depth t ≤ deep
  pub spells : 0 < length (tree_tokens t)
  pub takes : Takes (tree_tokens t) here rest

pub record IsSound (names : Names) (K : List Token → Type 0) (deep : ℕ) (r : Reads) : Type 0 where
  pub good : (place : Place) (ts : List Token) (t : Tree) (rest : List Token) → K ts → r place ts ≡ Some (t, rest) → Good names place deep ts t rest

-- parts in a row
pub record Rowed (names : Names) (place : Place) (deep : ℕ) (here : List Token) (parts : Trees) (rest : List Token) : Type 0 where
  pub fits : RowFits names.is_type (Fits names) place parts here
  pub shallow : trees_depth parts ≤ deep
  pub spells : some parts ≡ true → 0 < length (trees_tokens parts)
  pub takes : Takes (trees_tokens parts) here rest

-- parts with commas between
pub record Commas (names : Names) (place : Place) (deep : ℕ) (here : List Token) (parts : Trees) (rest : List Token) : Type 0 where
  pub fits : ListFits names.is_type (Fits names) place parts here
  pub shallow : trees_depth parts ≤ deep
  pub spells : some parts ≡ true → 0 < length (listed_tokens parts)
  pub takes : Takes (listed_tokens parts) here rest

pub record Optioned (names : Names) (place : Place) (deep : ℕ) (here : List Token) (o : OptionalTree) (rest : List Token) : Type 0 where
  pub fits : OptionalFits names.is_type (Fits names) place o here
  pub shallow : optional_depth o ≤ deep
  pub takes : Takes (optional_tokens o) here rest

-- with `=` in front
pub record Valued (names : Names) (place : Place) (deep : ℕ) (here : List Token) (o : OptionalTree) (rest : List Token) : Type 0 where
  pub fits : OptionalFits names.is_type (Fits names) place o (drop 1 here)
  pub shallow : optional_depth o ≤ deep
  pub takes : Takes (value_tokens o) here rest

-- a size, if there is one, and the bracket that closes
pub record Sized (names : Names) (deep : ℕ) (here : List Token) (make : OptionalTree → Tree) (a : Tree) (rest : List Token) : Type 0 where
  pub size : OptionalTree
  pub is : make size ≡ a
  pub fits : OptionalFits names.is_type (Fits names) Constants size here
  pub shallow : optional_depth size ≤ deep
  pub takes : Takes (optional_tokens size ++ kind.Mark mark.CloseBracket ∷ []) here rest

-- parameters, and the parenthesis that closes
pub record Parametered (names : Names) (deep : ℕ) (here : List Token) (make : Trees → Bool → Tree) (a : Tree) (rest : List Token) : Type 0 where
  pub parameters : Trees
  pub variadic : Bool
  pub is : make parameters variadic ≡ a
  pub fits : ListFits names.is_type (Fits names) Parameters parameters here
  pub may : may_be_variadic parameters variadic ≡ true
  pub shallow : trees_depth parameters ≤ deep
  pub takes : Takes ((listed_tokens parameters ++ variadic_tokens variadic) ++ kind.Mark mark.CloseParen ∷ []) here rest

pub good_at : (names : Names) (place : Place) (deep : ℕ) (here : List Token) (x : Tree × List Token) (t : Tree) (rest : List Token) → x ≡ (t, rest)
    → Good names place deep here x.0 x.1 → Good names place deep here t rest
good_at names place deep here x t rest e g = subst (λ (y : Tree × List Token). Good names place deep here y.0 y.1) e g

pub left_spells : (ks ls : List TokenKind) → 0 < length ks → 0 < length (ks ++ ls)
left_spells ks ls h = omega (arith, length-append ks ls, h)

pub right_spells : (ks ls : List TokenKind) → 0 < length ls → 0 < length (ks ++ ls)
right_spells ks ls h = omega (arith, length-append ks ls, h)

module _ (names : Names) (K : List Token → Type 0) (spelled : IsSpelled names K) where
  pub known_behind : (ks : List TokenKind) (here rest : List Token) → Takes ks here rest → K here → K rest
  known_behind ks here rest h known = takes_known K spelled.tail ks here rest h known

  module _ (deep : ℕ) (r : Reads) (s : IsSound names K deep r) where
    known_part : (place : Place) (ts : List Token) (t : Tree) (rest : List Token) → K ts → r place ts ≡ Some (t, rest) → K rest
    known_part place ts t rest known e = known_behind (tree_tokens t) ts rest (s.good place ts t rest known e).takes known

    -- what is read takes a token
    pub part_shortens : (place : Place) → Shortens K (r place)
    part_shortens place = record {
      less = λ ts t rest known e.
          let g = s.good place ts t rest known e in
          omega (arith, takes_length (tree_tokens t) ts rest g.takes, g.spells);
      known = known_part place;
    }

    pub comma_shortens : (place : Place) → Shortens K (after_comma (r place))
    unfolding after_comma
    comma_shortens place = record {
      less = λ ts t rest known e.
          let f = followed (r place) (after is_comma ts) (t, rest) e in
          let c = comma_taken ts f.0 f.1 in
          let g = s.good place f.0 t rest (known_behind (kind.Mark mark.Comma ∷ []) ts f.0 c known) f.2 in
          omega (arith, takes_length (kind.Mark mark.Comma ∷ []) ts f.0 c, takes_length (tree_tokens t) f.0 rest g.takes, g.spells);
      known = λ ts t rest known e.
          let f = followed (r place) (after is_comma ts) (t, rest) e in
          known_part place f.0 t rest (known_behind (kind.Mark mark.Comma ∷ []) ts f.0 (comma_taken ts f.0 f.1) known) f.2;
    }

    -- ---- rows

    row_then : (place : Place) (here : List Token) (before : Trees) (ts : List Token) (t : Tree) (rest : List Token) → K ts
        → Rowed names place deep here before ts
        → r place ts ≡ Some (t, rest) → K rest × Rowed names place deep here (Then before t) rest
    row_then place here before ts t rest known b e =
        let g = s.good place ts t rest known e in
        let at : drop (length (trees_tokens before)) here ≡ ts = takes_rest (trees_tokens before) here ts b.takes in (
          known_part place ts t rest known e,
          record {
            fits = (b.fits, g.stand, subst (λ (x : List Token). TreeFits names.is_type (Fits names) t x) (sym at) g.fits);
            shallow = omega (arith, b.shallow, g.shallow);
            spells = λ more. right_spells (trees_tokens before) (tree_tokens t) g.spells;
            takes = takes_then (trees_tokens before) (tree_tokens t) here ts rest b.takes g.takes;
          },
        )

    pub row_good : (place : Place) (ts : List Token) → K ts
        → K (row (r place) NoTrees ts).1 × Rowed names place deep ts (row (r place) NoTrees ts).0 (row (r place) NoTrees ts).1
    row_good place ts known =
        row_holds K (r place) (Rowed names place deep ts) (row_then place ts) NoTrees ts known (record { fits = tt; shallow = omega arith; spells = λ more. absurd cc; takes = refl })

    -- ---- lists

    abbrev Listing : (place : Place) (here : List Token) → Trees → List Token → Type 0
    Listing place here before ts = (some before ≡ true) × Commas names place deep here before ts

    list_then : (place : Place) (here : List Token) (before : Trees) (ts : List Token) (t : Tree) (rest : List Token) → K ts
        → Listing place here before ts
        → after_comma (r place) ts ≡ Some (t, rest) → K rest × Listing place here (Then before t) rest
    unfolding after_comma
    list_then place here NoTrees ts t rest known b e = absurd (false≢true b.0)
    list_then place here (Then others last) ts t rest known b e =
        let before = Then others last in
        let f = followed (r place) (after is_comma ts) (t, rest) e in
        let c = comma_taken ts f.0 f.1 in
        let known' = known_behind (kind.Mark mark.Comma ∷ []) ts f.0 c known in
        let g = s.good place f.0 t rest known' f.2 in
        let front = takes_then (listed_tokens before) (kind.Mark mark.Comma ∷ []) here ts f.0 b.1.takes c in
        let at = takes_rest (listed_tokens before ++ kind.Mark mark.Comma ∷ []) here f.0 front in (
          known_part place f.0 t rest known' f.2,
          (
            refl,
            record {
              fits = (b.1.fits, g.stand, subst (λ (x : List Token). TreeFits names.is_type (Fits names) t x) (sym at) g.fits);
              shallow = omega (arith, b.1.shallow, g.shallow);
              spells = λ more. right_spells (listed_tokens before ++ kind.Mark mark.Comma ∷ []) (tree_tokens t) g.spells;
              takes = takes_then (listed_tokens before ++ kind.Mark mark.Comma ∷ []) (tree_tokens t) here f.0 rest front g.takes;
            },
          ),
        )

    -- behind a first part
    pub list_good : (place : Place) (here : List Token) (t : Tree) (ts : List Token) → K ts → Good names place deep here t ts
        → let x = row (after_comma (r place)) (Then NoTrees t) ts in K x.1 × Listing place here x.0 x.1
    list_good place here t ts known g =
        row_holds K (after_comma (r place)) (Listing place here) (list_then place here) (Then NoTrees t) ts known
        (refl, record { fits = (tt, g.stand, g.fits); shallow = omega (arith, g.shallow); spells = λ more. g.spells; takes = g.takes })

    listed_by : (place : Place) (ts : List Token) (o : Piece) → K ts → r place ts ≡ o
        → let x = row_on (row (after_comma (r place))) NoTrees ts o in K x.1 × Commas names place deep ts x.0 x.1
    listed_by place ts None known e = (known, record { fits = tt; shallow = omega arith; spells = λ more. absurd cc; takes = refl })
    listed_by place ts (Some x) known e =
        let g = list_good place ts x.0 x.1 (known_part place ts x.0 x.1 known e) (s.good place ts x.0 x.1 known e) in
        (g.0, g.1.1)

    pub listed_good : (place : Place) (ts : List Token) → K ts
        → K (comma_list (r place) ts).1 × Commas names place deep ts (comma_list (r place) ts).0 (comma_list (r place) ts).1
    unfolding comma_list
    listed_good place ts known = listed_by place ts (r place ts) known refl

    -- ---- parts that may be left out

    optional_by : (place : Place) (ts : List Token) (o : Piece) → K ts → r place ts ≡ o
        → K (part_if_any ts o).1 × Optioned names place deep ts (part_if_any ts o).0 (part_if_any ts o).1
    optional_by place ts None known e = (known, record { fits = tt; shallow = omega arith; takes = refl })
    optional_by place ts (Some x) known e =
        let g = s.good place ts x.0 x.1 known e in
        (known_part place ts x.0 x.1 known e, record { fits = (g.stand, g.fits); shallow = g.shallow; takes = g.takes })

    pub optional_good : (place : Place) (ts : List Token) → K ts
        → K (part_if_any ts (r place ts)).1 × Optioned names place deep ts (part_if_any ts (r place ts)).0 (part_if_any ts (r place ts)).1
    optional_good place ts known = optional_by place ts (r place ts) known refl

    value_by : (place : Place) (ts : List Token) (o : Piece) → K ts → option_and_then (r place) (after is_equals ts) ≡ o
        → K (part_if_any ts o).1 × Valued names place deep ts (part_if_any ts o).0 (part_if_any ts o).1
    value_by place ts None known e = (known, record { fits = tt; shallow = omega arith; takes = refl })
    value_by place ts (Some x) known e =
        let f = followed (r place) (after is_equals ts) x e in
        let c = equals_taken ts f.0 f.1 in
        let known' = known_behind (kind.Mark mark.Assign ∷ []) ts f.0 c known in
        let g = s.good place f.0 x.0 x.1 known' f.2 in
        let at = takes_rest (kind.Mark mark.Assign ∷ []) ts f.0 c in (
          known_part place f.0 x.0 x.1 known' f.2,
          record {
            fits = (g.stand, subst (λ (y : List Token). TreeFits names.is_type (Fits names) x.0 y) (sym at) g.fits);
            shallow = g.shallow;
            takes = takes_then (kind.Mark mark.Assign ∷ []) (tree_tokens x.0) ts f.0 x.1 c g.takes;
          },
        )

    pub value_good : (place : Place) (ts : List Token) → K ts
        → K (value (r place) ts).1 × Valued names place deep ts (value (r place) ts).0 (value (r place) ts).1
    unfolding value
    value_good place ts known = value_by place ts (option_and_then (r place) (after is_equals ts)) known refl

    -- ---- sizes and parameters

    pub sized_good : (make : OptionalTree → Tree) (ts : List Token) (a : Tree) (rest : List Token) → K ts → size_behind make r ts ≡ Some (a, rest)
        → Sized names deep ts make a rest
    unfolding size_behind
    sized_good make ts a rest known e =
        let x = part_if_any ts (r Constants ts) in
        let o = optional_good Constants ts known in
        let b = bracketed_is make x a rest e in
        record {
          size = x.0;
          is = b.1;
          fits = o.1.fits;
          shallow = o.1.shallow;
          takes = takes_then (optional_tokens x.0) (kind.Mark mark.CloseBracket ∷ []) ts x.1 rest o.1.takes (after_bracket x.1 rest b.0);
        }

    pub parametrized_good : (make : Trees → Bool → Tree) (ts : List Token) (a : Tree) (rest : List Token) → K ts
        → parameters_behind make r ts ≡ Some (a, rest)
        → Parametered names deep ts make a rest
    unfolding parameters_behind
    parametrized_good make ts a rest known e =
        let x = comma_list (r Parameters) ts in
        let l = listed_good Parameters ts known in
        let v = variadic_at x.0 x.1 in
        let w = varied x.0 x.1 in
        let b = with_parameters_is make x a rest e in
        record {
          parameters = x.0;
          variadic = v.0;
          is = b.1;
          fits = l.1.fits;
          may = w.0;
          shallow = l.1.shallow;
          takes = takes_then (listed_tokens x.0 ++ variadic_tokens v.0) (kind.Mark mark.CloseParen ∷ []) ts v.1 rest
              (takes_then (listed_tokens x.0) (variadic_tokens v.0) ts x.1 v.1 l.1.takes w.1) (after_close v.1 rest b.0);
        }
