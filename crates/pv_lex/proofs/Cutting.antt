-- One more piece in a row.
use Rattle.std.proofs.Common.{◌≡◌, ℕ, ◌-◌, List, [], ◌∷◌, ◌++◌, length, refl, sym, ap, ◌∙◌, append_assoc, subst}
use Rattle.std.proofs.lemmas.List.{append-nil}
use Rattle.pv_lex.specs.declared.pieces.Fault.{Fault}
use Rattle.pv_lex.specs.declared.pieces.Fault.TheVariants as fault
use Rattle.pv_lex.specs.Pieces.{Piece, End, Bad, Here}
use Rattle.pv_lex.specs.Stands.{stands}
use Rattle.pv_lex.specs.Rows.{Place, start, behind_piece, Row, tokens_among, spelt_here}
use Rattle.pv_token.specs.Table.{Table, Tells}
use Rattle.pv_token.specs.Kept.{Adds}
use Rattle.pv_lex.specs.Lexes.{Lexes}
use Rattle.pv_lex.specs.Faults.{LexFault}
use Rattle.pv_lex.specs.Views.{error_of}

row_more : (p q : Place) (xs : List Piece) (x : Piece) → Row p xs q → stands q.fresh q.text ≡ Here x → Row p (xs ++ x ∷ []) (behind_piece x q)
row_more p q [] x row here = (subst (λ (r : Place). stands r.fresh r.text ≡ Here x) (sym row) here, ap (behind_piece x) row)
row_more p q (y ∷ xs) x row here = (row.0, row_more (behind_piece y p) q xs x row.1 here)

spelt_more : (whole : ℕ) (p q : Place) (xs : List Piece) (x : Piece) → Row p xs q → tokens_among whole p (xs ++ x ∷ []) ≡ tokens_among whole p xs ++ spelt_here (whole - length q.text) q.line x.what
spelt_more whole p q [] x row = append-nil (spelt_here (whole - length p.text) p.line x.what) ∙ ap (λ (r : Place). spelt_here (whole - length r.text) r.line x.what) row
spelt_more whole p q (y ∷ xs) x row = ap (λ l. spelt_here (whole - length p.text) p.line y.what ++ l) (spelt_more whole (behind_piece y p) q xs x row.1) ∙ sym (append_assoc (spelt_here (whole - length p.text) p.line y.what) (tokens_among whole (behind_piece y p) xs) (spelt_here (whole - length q.text) q.line x.what))

-- pieces in a row lead from the start to a place, and the table tells their tokens
pub record Cut (source : List ℕ) (t : Table) (p : Place) : Type 0 where
  pub pieces : List Piece
  pub row : Row (start source) pieces p
  pub tells : Tells t (tokens_among (length source) (start source) pieces)

pub cut_goes_on : (source : List ℕ) (old new : Table) (p : Place) (x : Piece) (at : ℕ) → Cut source old p → stands p.fresh p.text ≡ Here x → at ≡ length source - length p.text → Adds old new (spelt_here at p.line x.what) → Cut source new (behind_piece x p)
cut_goes_on source old new p x at cut here place adds = record {
  pieces = cut.pieces ++ x ∷ [];
  row = row_more (start source) p cut.pieces x cut.row here;
  tells = subst (Tells new) (ap (λ n. tokens_among (length source) (start source) cut.pieces ++ spelt_here n p.line x.what) place ∙ sym (spelt_more (length source) (start source) p cut.pieces x cut.row)) (adds _ cut.tells);
}

pub cut_ends : (source : List ℕ) (t : Table) (p : Place) → Cut source t p → stands p.fresh p.text ≡ End → Lexes source t
cut_ends source t p cut end = record { pieces = cut.pieces; last = p; row = cut.row; whole = end; tells = cut.tells }

pub cut_faults : (source : List ℕ) (t : Table) (p : Place) (f : Fault) (at : ℕ) → Cut source t p → stands p.fresh p.text ≡ Bad f → at ≡ length source - length p.text → LexFault source (error_of f at)
cut_faults source t p fault.BadByte at cut bad place = record { pieces = cut.pieces; last = p; row = cut.row; stands_there = bad; place = place }
cut_faults source t p fault.BadToken at cut bad place = record { pieces = cut.pieces; last = p; row = cut.row; stands_there = bad; place = place }
cut_faults source t p (fault.Profile word) at cut bad place = record { pieces = cut.pieces; last = p; row = cut.row; stands_there = bad; place = place }
