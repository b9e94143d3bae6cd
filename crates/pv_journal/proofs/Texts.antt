-- What is searched by the numbers of names is what is searched by their texts.
use Rattle.std.proofs.Common.{◌≡◌, ℕ, zero, suc, ◌+◌, ◌<◌, Bool, true, false, ◌&&◌, ◌||◌, eqb, ltb, cond, not, List, [], ◌∷◌, ◌++◌, length, map, get_or, All, Option, Some, None, refl, sym, ap, ◌∙◌, arith}
use Rattle.std.proofs.lemmas.Bool.Decides.{Decides-eqb}
use Rattle.std.proofs.lemmas.Slice.Eq.{bytes_eq-Decides}
use Rattle.std.specs.Option.{option_map}
use Rattle.std.specs.List.{position, prefix_len, list_all, list_any}
use Rattle.std.specs.Str.{bytes_eq}
use Rattle.pv_script.specs.Names.{name_at}
use Rattle.pv_journal.specs.Obeying.{same_id, place_of, exceeds, overlaps, left_of}
use Rattle.pv_journal.specs.Keyed.{same_key, is_of, exceeded_by, shares_bytes, left_by}
use Rattle.pv_journal.specs.Journals as fact
use Rattle.pv_journal.specs.Lines.{id_under, fact_under, rows_under}
use Rattle.pv_journal.specs.Standing.{held_under, bond_under, HasText, HaveTexts, IsHeldKnown, IsBondKnown, IsSaidKnown, IsLineKnown}
use Rattle.pv_journal.specs.declared.line.Key.{Key}
use Rattle.pv_journal.specs.declared.line.Line.{Line}
use Rattle.pv_journal.specs.declared.line.Said.{Said}
use Rattle.pv_journal.specs.declared.line.Said.TheVariants.{Made, Ended, Exposed, Pair, Used, Fault}
use Rattle.pv_journal.specs.declared.held.Held.{Held}
use Rattle.pv_journal.specs.declared.bonds.Bond.{Bond}
use Rattle.pv_journal.proofs.Mapped.{all_mapped, any_mapped, position_mapped}

two_tests : (a b : Bool) → (a ≡ true → b ≡ true) → (b ≡ true → a ≡ true) → a ≡ b
two_tests true b f g = sym (f refl)
two_tests false true f g = g refl
two_tests false false f g = refl

module _ (names : List (List ℕ)) where
  -- equal texts have one number
  same_name : (a b : Key) → HasText names a → HasText names b → bytes_eq (name_at names a.name) (name_at names b.name) ≡ eqb a.name b.name
  same_name a b h g =
      two_tests (bytes_eq (name_at names a.name) (name_at names b.name)) (eqb a.name b.name)
      (λ e. (Decides-eqb a.name b.name).1 (g.only a.name h.within ((bytes_eq-Decides (name_at names a.name) (name_at names b.name)).0 e)))
      (λ e. (bytes_eq-Decides (name_at names a.name) (name_at names b.name)).1 (ap (name_at names) ((Decides-eqb a.name b.name).0 e)))

  pub same_text : (a b : Key) → HasText names a → HasText names b → same_id (id_under names a) (id_under names b) ≡ same_key a b
  same_text a b h g = ap (λ t. eqb a.k b.k && t) (same_name a b h g)

  exceeds_text : (key : Key) (x : Held) → HasText names key → HasText names x.key → exceeds (id_under names key) (held_under names x) ≡ exceeded_by key x
  exceeds_text key x h g = ap (λ t. not t || ltb x.key.k key.k) (same_name x.key key g h)

  -- searches whose tests agree at each element
  all_alike : (p q : Held → Bool) (xs : List Held) → All (λ (x : Held). p x ≡ q x) xs → list_all p xs ≡ list_all q xs
  all_alike p q [] all = refl
  all_alike p q (x ∷ xs) all = λ i. all 0 x (omega arith) i && all_alike p q xs (λ k d l. all (suc k) d (omega (arith, l))) i

  prefix_alike : (p q : Held → Bool) (xs : List Held) → All (λ (x : Held). p x ≡ q x) xs → prefix_len (λ x. not (p x)) xs ≡ prefix_len (λ x. not (q x)) xs
  prefix_alike p q [] all = refl
  prefix_alike p q (x ∷ xs) all = λ i. cond (not (all 0 x (omega arith) i)) (1 + prefix_alike p q xs (λ k d l. all (suc k) d (omega (arith, l))) i) 0

  position_alike : (p q : Held → Bool) (xs : List Held) → All (λ (x : Held). p x ≡ q x) xs → position p xs ≡ position q xs
  position_alike p q xs all = ap (λ n. cond (ltb n (length xs)) (Some n) None) (prefix_alike p q xs all)

  pub place_text : (xs : List Held) (key : Key) → All (λ (x : Held). HasText names x.key) xs → HasText names key
      → place_of (map (held_under names) xs) (id_under names key) ≡ position (is_of key) xs
  place_text xs key all h =
      position_mapped (λ x. same_id x.id (id_under names key)) (held_under names) xs
      ∙ position_alike (λ x. same_id (id_under names x.key) (id_under names key)) (λ x. same_key x.key key) xs (λ k d l. same_text (get_or xs k d).key key (all k d l) h)

  pub exceeds_all_text : (xs : List Held) (key : Key) → All (λ (x : Held). HasText names x.key) xs → HasText names key
      → list_all (exceeds (id_under names key)) (map (held_under names) xs) ≡ list_all (exceeded_by key) xs
  exceeds_all_text xs key all h =
      all_mapped (exceeds (id_under names key)) (held_under names) xs
      ∙ all_alike (λ x. exceeds (id_under names key) (held_under names x)) (exceeded_by key) xs (λ k d l. exceeds_text key (get_or xs k d) h (all k d l))

  pub overlaps_any_text : (xs : List Held) (base size : ℕ) → list_any (overlaps base size) (map (held_under names) xs) ≡ list_any (shares_bytes base size) xs
  overlaps_any_text xs base size = any_mapped (overlaps base size) (held_under names) xs

  pub left_text : (b : Bond) (first : Key) (second : Option Key) → IsBondKnown names b → HasText names first → HaveTexts names second
      → left_of (bond_under names b) (id_under names first) (option_map (id_under names) second) ≡ left_by b first second
  left_text b first None k f s =
      λ i. cond (same_text first b.low f k.0 i) (Some (true, false)) (cond (same_text first b.high f k.1 i) (Some (false, true)) None)
  left_text b first (Some second) k f s =
      λ i. cond (same_text first b.low f k.0 i && same_text second b.high s k.1 i) (Some (true, true)) None

-- more names leave ids as they are
pub name_more : (names more : List (List ℕ)) (n : ℕ) → n < length names → name_at (names ++ more) n ≡ name_at names n
name_more [] more n h = absurd (omega (arith, h))
name_more (x ∷ xs) more zero h = refl
name_more (x ∷ xs) more (suc n) h = name_more xs more n (omega (arith, h))

pub id_more : (names more : List (List ℕ)) (key : Key) → HasText names key → id_under (names ++ more) key ≡ id_under names key
id_more names more key h = λ i. record { name = name_more names more key.name h.within i; k = key.k }

pub held_more : (names more : List (List ℕ)) (xs : List Held) → All (IsHeldKnown names) xs → map (held_under (names ++ more)) xs ≡ map (held_under names) xs
held_more names more [] all = refl
held_more names more (x ∷ xs) all =
    λ i. record { id = id_more names more x.key (all 0 x (omega arith)) i; base = x.base; size = x.size; live = x.live; exposed = x.exposed }
    ∷ held_more names more xs (λ k d l. all (suc k) d (omega (arith, l))) i

pub bonds_more : (names more : List (List ℕ)) (bs : List Bond) → All (IsBondKnown names) bs → map (bond_under (names ++ more)) bs ≡ map (bond_under names) bs
bonds_more names more [] all = refl
bonds_more names more (b ∷ bs) all =
    let k = all 0 b (omega arith) in
    λ i. record { address = b.address; low = id_more names more b.low k.0 i; high = id_more names more b.high k.1 i; keeps_low = b.keeps_low; keeps_high = b.keeps_high }
    ∷ bonds_more names more bs (λ j d l. all (suc j) d (omega (arith, l))) i

pub second_more : (names more : List (List ℕ)) (second : Option Key) → HaveTexts names second → option_map (id_under (names ++ more)) second ≡ option_map (id_under names) second
second_more names more None h = refl
second_more names more (Some key) h = ap Some (id_more names more key h)

pub fact_more : (names more : List (List ℕ)) (what : Said) → IsSaidKnown names what → fact_under (names ++ more) what ≡ fact_under names what
fact_more names more (Made key base size) h = ap (λ d. fact.Made d base size) (id_more names more key h)
fact_more names more (Ended key) h = ap fact.Ended (id_more names more key h)
fact_more names more (Exposed key) h = ap fact.Exposed (id_more names more key h)
fact_more names more (Pair pair address low high) h =
    λ i. fact.Paired pair address (id_more names more low h.0 i) (id_more names more high h.1 i)
fact_more names more (Used pair test first second) h =
    λ i. fact.Used pair test (id_more names more first h.0 i) (second_more names more second h.1 i)
fact_more names more Fault h = refl

pub rows_more : (names more : List (List ℕ)) (lines : List Line) → All (IsLineKnown names) lines → rows_under (names ++ more) lines ≡ rows_under names lines
rows_more names more [] all = refl
rows_more names more (line ∷ lines) all =
    λ i. record { turn = line.turn; says = fact_more names more line.what (all 0 line (omega arith)) i }
    ∷ rows_more names more lines (λ k d l. all (suc k) d (omega (arith, l))) i
