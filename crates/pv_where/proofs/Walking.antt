-- A step of the walk over pieces.
use Rattle.std.proofs.Common.{◌≡◌, ℕ, zero, suc, ◌<◌, ◌≤◌, List, [], ◌∷◌, length, Bool, true, false, cond, Option, Some, None, Bor, refl, sym, ap, ◌∙◌, arith}
use Rattle.std.specs.Prelude.{nat_le, fold}
use Rattle.std.specs.Option.{option_map, option_map_or}
use Rattle.std.proofs.lemmas.Bool.{leb-true}
use Rattle.pv_lex.specs.Pieces.{Piece, Stand, End, Bad, Here}
use Rattle.pv_lex.specs.Stands.{stands}
use Rattle.pv_lex.specs.declared.pieces.Found.{Found}
use Rattle.pv_lex.specs.Views.{what_of}
use Rattle.pv_lex.specs.Rows.{Place, behind_piece, line_behind, fresh_behind}
use Rattle.pv_lex.proofs.Moving.{moves_stands, Moved}
use Rattle.pv_where.specs.Spots.{Spot, piece_before, row_to, file_behind, spot_behind}

-- a piece that ends before the place stands there
pub record Before (left : ℕ) (s : Stand) (x : Piece) : Type 0 where
  pub here : s ≡ Here x
  pub enough : left ≤ length x.after

before_by : (left : ℕ) (x y : Piece) (t : Bool) → nat_le left (length y.after) ≡ t → cond t (Some y) None ≡ Some x → Before left (Here y) x
before_by left x y true le e = let k : y ≡ x = cc in record { here = ap Here k; enough = omega (arith, leb-true left (length y.after) le, ap (λ (z : Piece). length z.after) k) }
before_by left x y false le e = absurd cc

pub before_is : (left : ℕ) (s : Stand) (x : Piece) → piece_before left s ≡ Some x → Before left s x
before_is left End x e = absurd cc
before_is left (Bad f) x e = absurd cc
before_is left (Here y) x e = before_by left x y (nat_le left (length y.after)) refl e

row_by : (left n : ℕ) (p : Place) (o : Option Piece) (x : Piece) → o ≡ Some x → option_map_or (λ (y : Piece). y ∷ row_to left n (behind_piece y p)) o [] ≡ x ∷ row_to left n (behind_piece x p)
row_by left n p None x e = absurd cc
row_by left n p (Some y) x e = let k : y ≡ x = cc in ap (λ (z : Piece). z ∷ row_to left n (behind_piece z p)) k

-- the row goes on with a piece that ends before the place
pub row_step : (left most : ℕ) (p : Place) (x : Piece) → length p.text ≤ most → length x.after < length p.text → piece_before left (stands p.fresh p.text) ≡ Some x
    → (n : ℕ) × (length x.after ≤ n) × (row_to left most p ≡ x ∷ row_to left n (behind_piece x p))
unfolding row_to
row_step left zero p x room shorter e = absurd (omega arith)
row_step left (suc n) p x room shorter e = (n, omega arith, row_by left n p (piece_before left (stands p.fresh p.text)) x e)

-- and ends where none does
pub row_stop : (left most : ℕ) (p : Place) → piece_before left (stands p.fresh p.text) ≡ None → row_to left most p ≡ []
unfolding row_to
row_stop left zero p e = refl
row_stop left (suc n) p e = ap (λ o. option_map_or (λ (y : Piece). y ∷ row_to left n (behind_piece y p)) o []) e

-- the walk leads to this spot
abbrev pub Leads : (left : ℕ) → Spot → (total : Spot) → Type 0
Leads left s total = (most : ℕ) × (length s.place.text ≤ most) × (fold spot_behind s (row_to left most s.place) ≡ total)

-- a piece that ends before the place is within what is left, and so is its line
pub moved : (left : ℕ) (fresh : Bool) (text : List ℕ) (x : Piece) → piece_before left (stands fresh text) ≡ Some x → Moved (length text) x
moved left fresh text x e = (moves_stands fresh text).here x (before_is left (stands fresh text) x e).here

pub enough : (left : ℕ) (fresh : Bool) (text : List ℕ) (x : Piece) → piece_before left (stands fresh text) ≡ Some x → left ≤ length x.after
enough left fresh text x e = (before_is left (stands fresh text) x e).enough

pub walk_on : (left : ℕ) (s : Spot) (x : Piece) (total : Spot) → piece_before left (stands s.place.fresh s.place.text) ≡ Some x → Leads left s total → Leads left (spot_behind s x) total
walk_on left s x total e w =
    let step = row_step left w.0 s.place x w.1 (moved left s.place.fresh s.place.text x e).shorter e in
    (step.0, step.1, sym (ap (fold spot_behind s) step.2) ∙ w.2)

-- the same of the spot in its parts
pub walk_next : (left : ℕ) (s : Spot) (x : Piece) (total : Spot) (file : List ℕ) (line : ℕ) (fresh : Bool) → file ≡ file_behind x.what s.place.text s.file → line ≡ line_behind x.what s.place.line
    → fresh ≡ fresh_behind x.what s.place.fresh → piece_before left (stands s.place.fresh s.place.text) ≡ Some x → Leads left s total
    → Leads left (record { file = file; place = record { text = x.after; line = line; fresh = fresh } }) total
walk_next left s x total file line fresh f l r e w = rw (f, l, r) (walk_on left s x total e w)

pub walk_end : (left : ℕ) (s total : Spot) → piece_before left (stands s.place.fresh s.place.text) ≡ None → Leads left s total → s ≡ total
walk_end left s total e w = sym (ap (fold spot_behind s) (row_stop left w.0 s.place e)) ∙ w.2

-- a piece that was found, in the definitions' words
abbrev pub piece_of : Option (Found × Bor (List ℕ)) → Option Piece
piece_of found = option_map (λ p. record { what = what_of p.0; after = p.1.now }) found
