-- How loops come to the ends of comments and of names in markers.
use Rattle.std.proofs.Common.{◌≡◌, ℕ, zero, suc, ◌+◌, ◌-◌, ◌<◌, ◌≤◌, List, [], ◌∷◌, length, get_or, drop, Bool, true, false, cond, not, ◌&&◌, Option, Some, None, nat_eq, refl, sym, ap, ◌∙◌, arith}
use Rattle.std.specs.Prelude.{if◌then◌else◌}
use Rattle.std.specs.Option.{option_map_or}
use Rattle.std.specs.List.{starts_with}
use Rattle.std.proofs.lemmas.Bool.{eqb-true}
use Rattle.std.proofs.lemmas.Bool.Decides.{nat_tests}
use Rattle.pv_lex.specs.declared.bytes.Class.{Class}
use Rattle.pv_lex.specs.declared.bytes.Class.TheVariants as class
use Rattle.pv_lex.specs.Bytes.{line_feeds, run, behind}
use Rattle.pv_lex.specs.Pieces.{Comment, Piece}
use Rattle.pv_lex.specs.Comments.{behind_close, block_comment}
use Rattle.pv_lex.specs.Markers.{behind_name, groups, behind_line_feed}
use Rattle.pv_lex.specs.MarkerParts.{group_at}

pub eqb_is : (a b : ℕ) → a ≡ b → nat_eq a b ≡ true
eqb_is a b e = grind (arith, nat_tests)

pub eqb_not : (a b : ℕ) → (a ≡ b → ⊥) → nat_eq a b ≡ false
eqb_not a b e = grind (arith, nat_tests)

both : (a b : Bool) → (a && b) ≡ true → (a ≡ true) × (b ≡ true)
both true b e = (refl, e)
both false b e = absurd cc

pub close_here : (text : List ℕ) → starts_with nat_eq text (42 ∷ 47 ∷ []) ≡ true → (behind_close text ≡ Some (drop 2 text)) × (line_feeds text ≡ line_feeds (drop 2 text))
unfolding behind_close line_feeds
close_here [] e = absurd cc
close_here (a ∷ []) e = let h = both (nat_eq 42 a) false e in absurd cc
close_here (a ∷ b ∷ bs) e =
    let h = both (nat_eq 42 a) (nat_eq 47 b && true) e in
    let k = both (nat_eq 47 b) true h.1 in
    let a_is : a ≡ 42 = sym (eqb-true 42 a h.0) in
    let b_is : b ≡ 47 = sym (eqb-true 47 b k.0) in
    (ap (λ t. cond t (Some bs) (behind_close (b ∷ bs))) e, rw (a_is, b_is) refl)

pub close_next : (text : List ℕ) → 0 < length text → starts_with nat_eq text (42 ∷ 47 ∷ []) ≡ false → behind_close text ≡ behind_close (drop 1 text)
unfolding behind_close
close_next [] h e = absurd (omega arith)
close_next (b ∷ bs) h e = ap (λ t. cond t (Some (drop 1 bs)) (behind_close bs)) e

pub close_none : (text : List ℕ) → length text ≡ 0 → behind_close text ≡ None
unfolding behind_close
close_none [] h = refl
close_none (b ∷ bs) h = absurd (omega arith)

pub feeds_next : (text : List ℕ) → 0 < length text → line_feeds text ≡ (if nat_eq (get_or text 0 0) 10 then 1 else 0) + line_feeds (drop 1 text)
unfolding line_feeds
feeds_next [] h = absurd (omega arith)
feeds_next (b ∷ bs) h = by (nat_eq b 10) (line_feeds bs)
  where
    by : (t : Bool) (n : ℕ) → cond t (suc n) n ≡ (if t then 1 else 0) + n
    by true n = omega arith
    by false n = omega arith

pub comment_is : (text after : List ℕ) (lines : ℕ) → behind_close text ≡ Some after → lines + line_feeds after ≡ line_feeds text → ◌≡◌ {A = Option Piece} (Some (record { what = Comment lines; after = after })) (block_comment text)
unfolding block_comment
comment_is text after lines closes feeds =
    let k : line_feeds text - line_feeds after ≡ lines = omega arith in
    rw (closes, k) refl

pub comment_none : (text : List ℕ) → behind_close text ≡ None → ◌≡◌ {A = Option Piece} None (block_comment text)
unfolding block_comment
comment_none text closes = rw closes refl

pub name_end : (t : Bool) (text : List ℕ) → length text ≡ 0 → behind_name t text ≡ None
unfolding behind_name
name_end true [] h = refl
name_end false [] h = refl
name_end t (b ∷ bs) h = absurd (omega arith)

pub name_feed : (t : Bool) (text : List ℕ) → 0 < length text → get_or text 0 0 ≡ 10 → behind_name t text ≡ None
unfolding behind_name
name_feed t [] h e = absurd (omega arith)
name_feed true (b ∷ bs) h e = rw e refl
name_feed false (b ∷ bs) h e = rw e refl

pub name_close : (t : Bool) (text : List ℕ) → 0 < length text → (not t && nat_eq (get_or text 0 0) 34) ≡ true → behind_name t text ≡ Some (drop 1 text)
unfolding behind_name
name_close t [] h e = absurd (omega arith)
name_close true (b ∷ bs) h e = absurd cc
name_close false (b ∷ bs) h e = ap (λ x. cond x (Some bs) (cond (nat_eq b 10) None (behind_name (nat_eq b 92) bs))) e

pub name_next : (t : Bool) (text : List ℕ) → 0 < length text → (get_or text 0 0 ≡ 10 → ⊥) → (not t && nat_eq (get_or text 0 0) 34) ≡ false → behind_name t text ≡ behind_name (not t && nat_eq (get_or text 0 0) 92) (drop 1 text)
unfolding behind_name
name_next t [] h n e = absurd (omega arith)
name_next true (b ∷ bs) h n e = ap (λ x. cond x None (behind_name false bs)) (eqb_not b 10 n)
name_next false (b ∷ bs) h n e =
    ap (λ x. cond x (Some bs) (cond (nat_eq b 10) None (behind_name (nat_eq b 92) bs))) e ∙ ap (λ x. cond x None (behind_name (nat_eq b 92) bs)) (eqb_not b 10 n)

pub groups_step : (k : ℕ) (text : List ℕ) (g : List ℕ × List ℕ) → length text ≤ k → length g.1 < length text → group_at text ≡ Some g → (j : ℕ) × (length g.1 ≤ j) × (groups k text ≡ groups j g.1)
unfolding groups
groups_step zero text g le lt e = absurd (omega arith)
groups_step (suc k) text g le lt e = (k, omega arith, ap (λ o. option_map_or (λ (x : List ℕ × List ℕ). groups k x.1) o (behind_line_feed (behind class.LineTail text))) e)

pub groups_stop : (k : ℕ) (text : List ℕ) → group_at text ≡ None → groups k text ≡ behind_line_feed (behind class.LineTail text)
unfolding groups
groups_stop zero text e = refl
groups_stop (suc k) text e = ap (λ o. option_map_or (λ (x : List ℕ × List ℕ). groups k x.1) o (behind_line_feed (behind class.LineTail text))) e

pub at_most_one : (t : Bool) (n : ℕ) → n ≡ (if t then 1 else 0) → n ≤ 1
at_most_one true n e = omega arith
at_most_one false n e = omega arith

pub drop_run : (k : Class) (text : List ℕ) (n : ℕ) → n ≡ run k text → drop n text ≡ behind k text
drop_run k text n e = ap (λ i. drop i text) e
