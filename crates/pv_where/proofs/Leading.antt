-- Pieces in a row lead to the line that is shown.
use Rattle.std.proofs.Common.{◌≡◌, ℕ, zero, suc, ◌+◌, ◌-◌, ◌<◌, ◌≤◌, List, [], ◌∷◌, ◌++◌, length, map, take, Bool, true, false, cond, Option, Some, None, refl, sym, ap, ◌∙◌, arith}
use Rattle.std.specs.Prelude.{nat_le, fold, slice_get}
use Rattle.std.specs.Option.{option_map}
use Rattle.std.proofs.lemmas.Bool.{le-leb, leb-true}
use Rattle.pv_token.specs.Said.{Said, Spelt}
use Rattle.pv_token.specs.Table.{Table, says, spelt_of}
use Rattle.pv_token.specs.declared.token_table.Token.{Token}
use Rattle.pv_lex.specs.Bytes.{line_feeds}
use Rattle.pv_lex.specs.Pieces.{What, White, Comment, Marker, Spelling, Piece, Stand, End, Bad, Here}
use Rattle.pv_lex.specs.Stands.{stands}
use Rattle.pv_lex.specs.Rows.{Place, Row, start, behind_piece, spelt_here, tokens_among}
use Rattle.pv_lex.specs.Lexes.{Lexes}
use Rattle.pv_lex.proofs.Moving.{moves_stands}
use Rattle.pv_where.specs.Spots.{Spot, piece_before, row_to, spot_behind, line_at}
use Rattle.pv_where.proofs.Walking.{row_step, row_stop}

-- At the place itself no piece ends before it.

none_by : (left : ℕ) (x : Piece) (t : Bool) → length x.after < left → nat_le left (length x.after) ≡ t → cond t (Some x) None ≡ None
none_by left x true h e = absurd (omega (arith, h, leb-true left (length x.after) e))
none_by left x false h e = refl

none_at : (left : ℕ) (s : Stand) → ((x : Piece) → s ≡ Here x → length x.after < left) → piece_before left s ≡ None
none_at left End h = refl
none_at left (Bad f) h = refl
none_at left (Here x) h = none_by left x (nat_le left (length x.after)) (h x refl) refl

none_there : (fresh : Bool) (text : List ℕ) → piece_before (length text) (stands fresh text) ≡ None
none_there fresh text = none_at (length text) (stands fresh text) (λ x e. ((moves_stands fresh text).here x e).shorter)

some_before : (left : ℕ) (s : Stand) (x : Piece) → s ≡ Here x → left ≤ length x.after → piece_before left s ≡ Some x
some_before left s x e h = ap (piece_before left) e ∙ ap (λ (t : Bool). cond t (Some x) None) (le-leb left (length x.after) h)

-- A row goes no further than the text.
row_within : (p : Place) (xs : List Piece) (q : Place) → Row p xs q → length q.text ≤ length p.text
row_within p [] q row = omega (arith, ap (λ (r : Place). length r.text) row)
row_within p (x ∷ xs) q row = omega (arith, row_within (behind_piece x p) xs q row.1, ((moves_stands p.fresh p.text).here x row.0).shorter)

-- The walk to the place where a row ends comes there.
walk_row : (left most : ℕ) (s : Spot) (xs : List Piece) (q : Place) → Row s.place xs q → left ≡ length q.text → length s.place.text ≤ most → (fold spot_behind s (row_to left most s.place)).place ≡ q
walk_row left most s [] q row e room =
    let here : left ≡ length s.place.text = e ∙ ap (λ (r : Place). length r.text) (sym row) in
    let none : piece_before left (stands s.place.fresh s.place.text) ≡ None = ap (λ (n : ℕ). piece_before n (stands s.place.fresh s.place.text)) here ∙ none_there s.place.fresh s.place.text in
    ap (λ (xs : List Piece). (fold spot_behind s xs).place) (row_stop left most s.place none) ∙ row
walk_row left most s (x ∷ xs) q row e room =
    let within : left ≤ length x.after = omega (arith, e, row_within (behind_piece x s.place) xs q row.1) in
    let step = row_step left most s.place x room ((moves_stands s.place.fresh s.place.text).here x row.0).shorter (some_before left (stands s.place.fresh s.place.text) x row.0 within) in
    ap (λ (ys : List Piece). (fold spot_behind s ys).place) step.2 ∙ walk_row left step.0 (spot_behind s x) xs q row.1 e step.1

-- and the line there is the row's
pub row_line : (name source : List ℕ) (xs : List Piece) (q : Place) → Row (start source) xs q → line_at name source (length source - length q.text) ≡ q.line
unfolding line_feeds
row_line name source xs q row =
    let left : ℕ = length source - (length source - length q.text) in
    let same : left ≡ length q.text = omega (arith, row_within (start source) xs q row) in
    let comes = walk_row left (length source) (record { file = name; place = start source }) xs q row same (omega arith) in
    let none : length q.text - left ≡ 0 = omega (arith, same) in
    let plain : q.line + 0 ≡ q.line = omega arith in
    ap (λ (p : Place). p.line + line_feeds (take (length p.text - left) p.text)) comes ∙ ap (λ (n : ℕ). q.line + line_feeds (take n q.text)) none ∙ plain

-- Where a token of a row stands, the row leads.
pub record Led (whole : ℕ) (p : Place) (e : Spelt) : Type 0 where
  pub pieces : List Piece
  pub place : Place
  pub row : Row p pieces place
  pub begins : e.start ≡ whole - length place.text
  pub line : e.line ≡ place.line

led_behind : (whole : ℕ) (p : Place) (x : Piece) (e : Spelt) → stands p.fresh p.text ≡ Here x → Led whole (behind_piece x p) e → Led whole p e
led_behind whole p x e here led = record { pieces = x ∷ led.pieces; place = led.place; row = (here, led.row); begins = led.begins; line = led.line }

led_here : (whole : ℕ) (p : Place) (said : Said) (e : Spelt) → Some (record { said = said; start = whole - length p.text; line = p.line }) ≡ Some e → Led whole p e
led_here whole p said e same =
    let k : record { said = said; start = whole - length p.text; line = p.line } ≡ e = cc in
    record { pieces = []; place = p; row = refl; begins = sym (ap (λ (y : Spelt). y.start) k); line = sym (ap (λ (y : Spelt). y.line) k) }

led_by : (whole : ℕ) (p : Place) (what : What) (rest : List Spelt) (i : ℕ) (e : Spelt) → ((j : ℕ) → slice_get rest j ≡ Some e → Led whole p e) → slice_get (spelt_here (whole - length p.text) p.line what ++ rest) i ≡ Some e → Led whole p e
led_by whole p (White b) rest i e more got = more i got
led_by whole p (Comment n) rest i e more got = more i got
led_by whole p (Marker n) rest i e more got = more i got
led_by whole p (Spelling s) rest zero e more got = led_here whole p s e got
led_by whole p (Spelling s) rest (suc i) e more got = more i got

led_to : (whole : ℕ) (p : Place) (xs : List Piece) (q : Place) → Row p xs q → (i : ℕ) (e : Spelt) → slice_get (tokens_among whole p xs) i ≡ Some e → Led whole p e
led_to whole p [] q row i e got = absurd cc
led_to whole p (x ∷ xs) q row i e got = led_by whole p x.what (tokens_among whole (behind_piece x p) xs) i e (λ j h. led_behind whole p x e row.0 (led_to whole (behind_piece x p) xs q row.1 j e h)) got

-- A token of the table is one of them.

get_map : {A B : Type 0} (f : A → B) (xs : List A) (i : ℕ) (x : A) → slice_get xs i ≡ Some x → slice_get (map f xs) i ≡ Some (f x)
get_map f [] i x e = absurd cc
get_map f (y ∷ ys) zero x e = let k : y ≡ x = cc in ap (λ z. Some (f z)) k
get_map f (y ∷ ys) (suc i) x e = get_map f ys i x e

get_some : (xs : List Spelt) (i : ℕ) (y : Option Spelt) → slice_get (map Some xs) i ≡ Some y → (e : Spelt) × (slice_get xs i ≡ Some e) × (y ≡ Some e)
get_some [] i y h = absurd cc
get_some (e ∷ es) zero y h = (e, refl, let k : Some e ≡ y = cc in sym k)
get_some (e ∷ es) (suc i) y h = get_some es i y h

same_place : (o : Option Said) (start line : ℕ) (e : Spelt) → option_map (λ s. record { said = s; start = start; line = line }) o ≡ Some e → (e.start ≡ start) × (e.line ≡ line)
same_place None start line e h = absurd cc
same_place (Some s) start line e h = let k : record { said = s; start = start; line = line } ≡ e = cc in (sym (ap (λ (y : Spelt). y.start) k), sym (ap (λ (y : Spelt). y.line) k))

pub token_line : (name source : List ℕ) (t : Table) (i : ℕ) (k : Token) → Lexes source t → slice_get t.tokens i ≡ Some k → line_at name source k.start ≡ k.line
token_line name source t i k lexes got =
    let at = get_some (tokens_among (length source) (start source) lexes.pieces) i (spelt_of t.names t.texts k) (sym (ap (λ (ys : List (Option Spelt)). slice_get ys i) lexes.tells.tokens) ∙ get_map (spelt_of t.names t.texts) t.tokens i k got) in
    let same = same_place (says t.names t.texts k.kind) k.start k.line at.0 at.2 in
    let led = led_to (length source) (start source) lexes.pieces lexes.last lexes.row i at.0 at.1 in
    ap (line_at name source) (sym same.0 ∙ led.begins) ∙ row_line name source led.pieces led.place led.row ∙ sym led.line ∙ same.1
