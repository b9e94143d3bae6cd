-- What is written of a line is read.
use Rattle.std.proofs.Common.{◌≡◌, ℕ, ◌<◌, ◌^◌, true, false, eqb, not, List, [], ◌∷◌, ◌++◌, codes, Option, Some, None, refl, ap, ◌∙◌, lit<}
use Rattle.std.specs.List.{list_all, slice_split, join_with_byte}
use Rattle.std.specs.Option.{option_and_then, option_map}
use Rattle.std.specs.Fmt.{decimal}
use Rattle.pv_print.specs.Texts.{address_text}
use Rattle.pv_script.specs.Words.{is_name}
use Rattle.pv_prov.specs.TestNumbers.{test_text}
use Rattle.pv_journal.specs.Journals.{Id, Fact, Made, Ended, Exposed, Paired, Used, Fault, Row, id_text, left_text, fact_words, row_text}
use Rattle.pv_journal.specs.Reading.{number_behind, address_behind, id_of, id_in, id_behind, test_in, ids_of, ids_behind, at_turn, said_by, row_said}
use Rattle.pv_journal.proofs.Numbers.{decimal_is_read, address_is_read}
use Rattle.pv_journal.proofs.Splits.{Lacks, Lacking, lacks-append, lacks-cons, cut_is, joined_lack}
use Rattle.pv_journal.proofs.Letters.{is_plain, Stranger, plain_lacks, name_plain, decimal_lacks, number_lacks, address_lacks, id_lacks}

-- a name and a number that fit
pub record FitsId (id : Id) : Type 0 where
  pub name : is_name id.name ≡ true
  pub k : id.k < 2 ^ 64

abbrev pub FitsSecond : Option Id → Type 0
FitsSecond None = Unit {0}
FitsSecond (Some id) = FitsId id

-- numbers fit 64 bits, and addresses aren't null
abbrev pub FitsFact : Fact → Type 0
FitsFact (Made id base size) = FitsId id × (0 < base) × (base < 2 ^ 64) × (size < 2 ^ 64)
FitsFact (Ended id) = FitsId id
FitsFact (Exposed id) = FitsId id
FitsFact (Paired pair address low high) = (pair < 2 ^ 64) × (0 < address) × (address < 2 ^ 64) × FitsId low × FitsId high
FitsFact (Used pair test first second) = (pair < 2 ^ 64) × (test_in (codes "test=" ++ test_text test) ≡ Some test) × ((c : ℕ) → Stranger c → Lacks c (test_text test)) × FitsId first × FitsSecond second
FitsFact Fault = Unit {0}

abbrev pub Fits : Row → Type 0
Fits row = (row.turn < 2 ^ 64) × FitsFact row.says

-- ---- ids

push : (a b : List ℕ) → (a ++ codes "#") ++ b ≡ a ++ (35 ∷ b)
push [] b = refl
push (x ∷ a) b = ap (λ l. x ∷ l) (push a b)

pub id_is_read : (id : Id) → FitsId id → id_in (id_text id) ≡ Some id
id_is_read id f =
    let name_lacks : Lacks 35 id.name = plain_lacks 35 refl id.name (name_plain id.name f.name) in
    let number_lacks : Lacks 35 (decimal id.k) = decimal_lacks 35 (lit< tt) id.k f.k in
    ap (λ t. id_of (slice_split (λ b. eqb b 35) t)) (push id.name (decimal id.k))
    ∙ ap id_of (cut_is 35 id.name (decimal id.k ∷ []) (name_lacks, (number_lacks, tt)))
    ∙ ap (option_map (λ k. record { name = id.name; k = k })) (decimal_is_read id.k f.k)

comma : Stranger 44
comma = record { plain = refl; digit = lit< tt; hash = refl }

pub space : Stranger 32
space = record { plain = refl; digit = lit< tt; hash = refl }

pub feed : Stranger 10
feed = record { plain = refl; digit = lit< tt; hash = refl }

push-comma : (a b : List ℕ) → (a ++ codes ",") ++ b ≡ a ++ (44 ∷ b)
push-comma [] b = refl
push-comma (x ∷ a) b = ap (λ l. x ∷ l) (push-comma a b)

ids_are_read : (first : Id) (second : Option Id) → FitsId first → FitsSecond second → ids_of (slice_split (λ b. eqb b 44) (left_text first second)) ≡ Some (first, second)
ids_are_read first None f s =
    ap ids_of (cut_is 44 (id_text first) [] (id_lacks 44 comma first f.name f.k, tt)) ∙ ap (option_map (λ (a : Id). (a, None))) (id_is_read first f)
ids_are_read first (Some second) f s =
    ap (λ t. ids_of (slice_split (λ b. eqb b 44) t)) (push-comma (id_text first) (id_text second))
    ∙ ap ids_of (cut_is 44 (id_text first) (id_text second ∷ []) (id_lacks 44 comma first f.name f.k, (id_lacks 44 comma second s.name s.k, tt)))
    ∙ ap (option_and_then (λ (a : Id). option_map (λ (b : Id). (a, Some b)) (id_in (id_text second)))) (id_is_read first f)
    ∙ ap (option_map (λ (b : Id). (first, Some b))) (id_is_read second s)

left_lacks : (c : ℕ) → Stranger c → eqb 44 c ≡ false → (first : Id) (second : Option Id) → FitsId first → FitsSecond second → Lacks c (left_text first second)
left_lacks c s n first None f g = id_lacks c s first f.name f.k
left_lacks c s n first (Some second) f g =
    lacks-append c (id_text first ++ codes ",") (id_text second) (lacks-append c (id_text first) (codes ",") (id_lacks c s first f.name f.k) (lacks-cons c 44 [] n refl)) (id_lacks c s second g.name g.k)

-- ---- words

pub turned_is : (t : ℕ) (f : Fact) → t < 2 ^ 64 → at_turn (codes "turn=" ++ decimal t) (Some f) ≡ Some (record { turn = t; says = f })
turned_is t f h = ap (option_map (λ t. record { turn = t; says = f })) (decimal_is_read t h)

pub words_are_read : (t : ℕ) (f : Fact) → t < 2 ^ 64 → FitsFact f → said_by (fact_words t f) ≡ Some (record { turn = t; says = f })
words_are_read t (Made id base size) h (i, z, b, s) =
    let turn = codes "turn=" ++ decimal t in
    let bs = address_behind (codes "base=") (codes "base=" ++ address_text base) in
    let sz = number_behind (codes "size=") (codes "size=" ++ decimal size) in
    ap (λ o. at_turn turn (option_and_then (λ (i : Id). option_and_then (λ (b : ℕ). option_map (λ (s : ℕ). Made i b s) sz) bs) o)) (id_is_read id i)
    ∙ ap (λ o. at_turn turn (option_and_then (λ (b : ℕ). option_map (λ (s : ℕ). Made id b s) sz) o)) (address_is_read base z b)
    ∙ ap (λ o. at_turn turn (option_map (λ (s : ℕ). Made id base s) o)) (decimal_is_read size s)
    ∙ turned_is t (Made id base size) h
words_are_read t (Ended id) h i = ap (λ o. at_turn (codes "turn=" ++ decimal t) (option_map (λ (i : Id). Ended i) o)) (id_is_read id i) ∙ turned_is t (Ended id) h
words_are_read t (Exposed id) h i = ap (λ o. at_turn (codes "turn=" ++ decimal t) (option_map (λ (i : Id). Exposed i) o)) (id_is_read id i) ∙ turned_is t (Exposed id) h
words_are_read t (Paired pair address low high) h (p, z, a, l, g) =
    let turn = codes "turn=" ++ decimal t in
    let ads = address_behind (codes "address=") (codes "address=" ++ address_text address) in
    let ls = id_behind (codes "low=") (codes "low=" ++ id_text low) in
    let hs = id_behind (codes "high=") (codes "high=" ++ id_text high) in
    ap (λ o. at_turn turn (option_and_then (λ (p : ℕ). option_and_then (λ (a : ℕ). option_and_then (λ (l : Id). option_map (λ (h : Id). Paired p a l h) hs) ls) ads) o)) (decimal_is_read pair p)
    ∙ ap (λ o. at_turn turn (option_and_then (λ (a : ℕ). option_and_then (λ (l : Id). option_map (λ (h : Id). Paired pair a l h) hs) ls) o)) (address_is_read address z a)
    ∙ ap (λ o. at_turn turn (option_and_then (λ (l : Id). option_map (λ (h : Id). Paired pair address l h) hs) o)) (id_is_read low l)
    ∙ ap (λ o. at_turn turn (option_map (λ (h : Id). Paired pair address low h) o)) (id_is_read high g)
    ∙ turned_is t (Paired pair address low high) h
words_are_read t (Used pair test first second) h (p, w, n, f, s) =
    let turn = codes "turn=" ++ decimal t in
    let ts = test_in (codes "test=" ++ test_text test) in
    let is = ids_behind (codes "left=") (codes "left=" ++ left_text first second) in
    ap (λ o. at_turn turn (option_and_then (λ (p : ℕ). option_and_then (λ (t : ℕ). option_map (λ (is : Id × Option Id). Used p t is.0 is.1) is) ts) o)) (decimal_is_read pair p)
    ∙ ap (λ o. at_turn turn (option_and_then (λ (t : ℕ). option_map (λ (is : Id × Option Id). Used pair t is.0 is.1) is) o)) w
    ∙ ap (λ o. at_turn turn (option_map (λ (is : Id × Option Id). Used pair test is.0 is.1) o)) (ids_are_read first second f s)
    ∙ turned_is t (Used pair test first second) h
words_are_read t Fault h f = turned_is t Fault h

-- no word has a space or a line feed
word_lacks : (c : ℕ) → Stranger c → (word text : List ℕ) → list_all (λ (b : ℕ). not (eqb b c)) word ≡ true → Lacks c text → Lacks c (word ++ text)
word_lacks c s word text h g = lacks-append c word text h g

plainly : (c : ℕ) → Stranger c → (word : List ℕ) → list_all is_plain word ≡ true → Lacks c word
plainly c s word h = plain_lacks c s.plain word h

pub words_lack : (c : ℕ) → Stranger c → eqb 44 c ≡ false → (t : ℕ) (f : Fact) → t < 2 ^ 64 → FitsFact f → Lacking c (fact_words t f)
words_lack c x n t (Made id base size) h (i, z, b, s) = (
  plainly c x (codes "create") refl,
  (
    id_lacks c x id i.name i.k,
    (
      word_lacks c x (codes "turn=") (decimal t) (plainly c x (codes "turn=") refl) (number_lacks c x t h),
      (
        word_lacks c x (codes "base=") (address_text base) (plainly c x (codes "base=") refl) (address_lacks c x base z b),
        (word_lacks c x (codes "size=") (decimal size) (plainly c x (codes "size=") refl) (number_lacks c x size s), tt),
      ),
    ),
  ),
)
words_lack c x n t (Ended id) h i =
    (plainly c x (codes "end") refl, (id_lacks c x id i.name i.k, (word_lacks c x (codes "turn=") (decimal t) (plainly c x (codes "turn=") refl) (number_lacks c x t h), tt)))
words_lack c x n t (Exposed id) h i =
    (plainly c x (codes "expose") refl, (id_lacks c x id i.name i.k, (word_lacks c x (codes "turn=") (decimal t) (plainly c x (codes "turn=") refl) (number_lacks c x t h), tt)))
words_lack c x n t (Paired pair address low high) h (p, z, a, l, g) = (
  plainly c x (codes "pair") refl,
  (
    number_lacks c x pair p,
    (
      word_lacks c x (codes "turn=") (decimal t) (plainly c x (codes "turn=") refl) (number_lacks c x t h),
      (
        word_lacks c x (codes "address=") (address_text address) (plainly c x (codes "address=") refl) (address_lacks c x address z a),
        (
          word_lacks c x (codes "low=") (id_text low) (plainly c x (codes "low=") refl) (id_lacks c x low l.name l.k),
          (word_lacks c x (codes "high=") (id_text high) (plainly c x (codes "high=") refl) (id_lacks c x high g.name g.k), tt),
        ),
      ),
    ),
  ),
)
words_lack c x n t (Used pair test first second) h (p, w, m, f, s) = (
  plainly c x (codes "use") refl,
  (
    number_lacks c x pair p,
    (
      word_lacks c x (codes "turn=") (decimal t) (plainly c x (codes "turn=") refl) (number_lacks c x t h),
      (
        word_lacks c x (codes "test=") (test_text test) (plainly c x (codes "test=") refl) (m c x),
        (word_lacks c x (codes "left=") (left_text first second) (plainly c x (codes "left=") refl) (left_lacks c x n first second f s), tt),
      ),
    ),
  ),
)
words_lack c x n t Fault h f = (plainly c x (codes "fault") refl, (word_lacks c x (codes "turn=") (decimal t) (plainly c x (codes "turn=") refl) (number_lacks c x t h), tt))

split_words : (t : ℕ) (f : Fact) → Lacking 32 (fact_words t f) → slice_split (λ b. eqb b 32) (join_with_byte 32 (fact_words t f)) ≡ fact_words t f
split_words t (Made id base size) l = cut_is 32 _ _ l
split_words t (Ended id) l = cut_is 32 _ _ l
split_words t (Exposed id) l = cut_is 32 _ _ l
split_words t (Paired pair address low high) l = cut_is 32 _ _ l
split_words t (Used pair test first second) l = cut_is 32 _ _ l
split_words t Fault l = cut_is 32 _ _ l

-- what is written of a line is read
pub row_is_read : (row : Row) → Fits row → row_said (row_text row) ≡ Some row
row_is_read row (h, f) =
    ap said_by (split_words row.turn row.says (words_lack 32 space refl row.turn row.says h f)) ∙ words_are_read row.turn row.says h f

-- a line has no line feed within
pub row_lacks : (row : Row) → Fits row → Lacks 10 (row_text row)
row_lacks row (h, f) = joined_lack 10 32 refl (fact_words row.turn row.says) (words_lack 10 feed refl row.turn row.says h f)
