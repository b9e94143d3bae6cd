-- Each string literal, comment, line marker and punctuator depends on its own bytes alone.
use Rattle.std.proofs.Common.{◌≡◌, ℕ, zero, suc, ◌+◌, ◌-◌, ◌<◌, ◌≤◌, List, [], ◌∷◌, ◌++◌, length, drop, Bool, true, false, cond, ◌&&◌, Option, Some, None, nat_eq, refl, sym, ap, ◌∙◌, subst, append_assoc, length-append, length-take-le, arith}
use Rattle.std.specs.Prelude.{nat_le}
use Rattle.std.specs.Option.{option_map, option_and_then, option_map_or}
use Rattle.std.specs.List.{starts_with}
use Rattle.std.proofs.Math.Seq.{drop-append_seam}
use Rattle.std.proofs.lemmas.List.{drop-append-le}
use Rattle.pv_lex.specs.declared.bytes.Class.{Class}
use Rattle.pv_lex.specs.declared.bytes.Class.TheVariants as class
use Rattle.pv_token.specs.declared.marks.Mark.{Mark}
use Rattle.pv_lex.specs.Bytes.{is_in, run, front, behind, begins, line_feeds}
use Rattle.pv_lex.specs.Tables.{first_row}
use Rattle.pv_token.specs.Said.{Text, Punctuator}
use Rattle.pv_lex.specs.Pieces.{Comment, Marker, What, Piece, Here, token}
use Rattle.pv_lex.specs.Constants.{value_from}
use Rattle.pv_lex.specs.Characters.{character_at, characters, string_literal}
use Rattle.pv_lex.specs.Comments.{behind_close, block_comment}
use Rattle.pv_lex.specs.Markers.{some_of, behind_name, behind_quotes, behind_line_feed, groups, marker}
use Rattle.pv_lex.specs.MarkerParts.{marker_piece, group_at, mark_row}
use Rattle.pv_lex.specs.Marks.{marks, mark_at}
use Rattle.pv_lex.proofs.Runs.{run_within}
use Rattle.pv_lex.proofs.Moving.{character_leaves, behind_shorter}
use Rattle.pv_lex.proofs.Closing.{groups_stop}
use Rattle.pv_lex.proofs.Taking.{Takes, takes_then, takes_as, takes_byte, takes_none, split, pick, pass, begins_front, bound, mapped, IsRun, takes_run, row_cut, row_starts, starts_cut, starts_front}
use Rattle.pv_lex.proofs.TakingTokens.{Reads, StandsAs, Gives, token_is, pair_is, run_begins, takes_characters}

-- String literals.

pub takes_less : (R : List ℕ → List ℕ → Type 0) (text after : List ℕ) → Takes R text after → length after ≤ length text
takes_less R text after x = omega (arith, ap length x.is, length-append x.taken after)

enough_by : (k j : ℕ) (text : List ℕ) (x : List ℕ × List ℕ) → ((text : List ℕ) (x : List ℕ × List ℕ) → characters k text ≡ Some x → length text ≤ j + length x.1 → characters j text ≡ Some x)
    → characters (suc k) text ≡ Some x → length text ≤ suc j + length x.1 → characters (suc j) text ≡ Some x
unfolding characters character_at
enough_by k j [] x more e le = absurd cc
enough_by k j (b ∷ bs) x more e le =
    split (characters (suc j) (b ∷ bs) ≡ Some x) (nat_eq b 34) (Some ([], bs)) _ (Some x) (λ h f. pick (nat_eq b 34) (Some ([], bs)) _ _ h f) (λ h f.
    bound (characters (suc j) (b ∷ bs) ≡ Some x) (character_at 34 (b ∷ bs)) (λ y. option_map (λ z. (y.0 ∷ z.0, z.1)) (characters k y.1)) x (λ y found rest.
    mapped (characters (suc j) (b ∷ bs) ≡ Some x) (characters k y.1) (λ z. (y.0 ∷ z.0, z.1)) x (λ z read same.
    let left : length y.1 ≤ length bs = (character_leaves 34 b bs).left y found in
    let p = pair_is (y.0 ∷ z.0) z.1 x same in
    let fits : length y.1 ≤ j + length z.1 = omega (arith, left, le, ap length p.1) in
    pass (nat_eq b 34) (Some ([], bs)) _ _ h (ap (option_and_then (λ y. option_map (λ z. (y.0 ∷ z.0, z.1)) (characters j y.1))) found ∙ ap (option_map (λ z. (y.0 ∷ z.0, z.1))) (more y.1 z read fits) ∙ ap Some same)) rest) f) e

-- so many characters are enough for the bytes that they take
characters_enough : (k j : ℕ) (text : List ℕ) (x : List ℕ × List ℕ) → characters k text ≡ Some x → length text ≤ j + length x.1 → characters j text ≡ Some x
unfolding characters character_at
characters_enough zero j text x e le = absurd cc
characters_enough (suc k) zero [] x e le = absurd cc
characters_enough (suc k) zero (b ∷ bs) x e le = absurd (none (takes_characters (suc k) (b ∷ bs) x e))
  where
    none : Takes (Gives (characters (suc k)) x.0) (b ∷ bs) x.1 → ⊥
    none t = by t.taken t.is (t.again x.1 [] (nil_behind x.1))
      where
        nil_behind : (l : List ℕ) → l ≡ l ++ []
        nil_behind [] = refl
        nil_behind (c ∷ l) = ap (λ m. c ∷ m) (nil_behind l)

        by : (w : List ℕ) → b ∷ bs ≡ w ++ x.1 → Gives (characters (suc k)) x.0 (w ++ x.1) x.1 → ⊥
        by [] is g = closes is e
          where
            closes : b ∷ bs ≡ x.1 → characters (suc k) (b ∷ bs) ≡ Some x → ⊥
            closes is e = split ⊥ (nat_eq b 34) (Some ([], bs)) _ (Some x) (λ h f. let same : ([], bs) ≡ x = cc in let p = pair_is [] bs x same in absurd (omega (arith, ap length is, ap length p.1))) (λ h f.
                bound ⊥ (character_at 34 (b ∷ bs)) (λ y. option_map (λ z. (y.0 ∷ z.0, z.1)) (characters k y.1)) x (λ y found rest.
                mapped ⊥ (characters k y.1) (λ z. (y.0 ∷ z.0, z.1)) x (λ z read same.
                let left : length y.1 ≤ length bs = (character_leaves 34 b bs).left y found in
                let p = pair_is (y.0 ∷ z.0) z.1 x same in
                let less = takes_less _ y.1 z.1 (takes_characters k y.1 z read) in
                absurd (omega (arith, left, less, ap length is, ap length p.1))) rest) f) e
        by (c ∷ w) is g = absurd (omega (arith, le, ap length is, length-append w x.1))
characters_enough (suc k) (suc j) text x e le = enough_by k j text x (characters_enough k j) e le

pub takes_string : (text : List ℕ) (x : Piece) → string_literal text ≡ Some x → Takes (Reads string_literal x.what) text x.after
unfolding string_literal
takes_string text x e =
    mapped (Takes (Reads string_literal x.what) text x.after) (characters (length text) text) (λ y. token (Text y.0) y.1) x (λ y found same.
    let p = token_is (Text y.0) x y.1 same in
    subst (Takes (Reads string_literal x.what) text) p.0 (takes_as (Gives (characters (length text)) y.0) (Reads string_literal x.what) text y.1 (takes_characters (length text) text y found) (λ t s r f g j.
    ap (option_map (λ z. token (Text z.0) z.1)) (characters_enough (length text) (length t) t (y.0, s) j (omega arith)) ∙ ap (λ (z : What). Some (record { what = z; after = s })) p.1))) e

-- Comments.

abbrev Leads : (List ℕ → Option (List ℕ)) → List ℕ → List ℕ → Type 0
Leads read text after = read text ≡ Some after

takes_close : (text after : List ℕ) → behind_close text ≡ Some after → Takes (Leads behind_close) text after
unfolding behind_close
takes_close [] after e = absurd cc
takes_close (b ∷ bs) after e = close_by b bs after (takes_close bs after) e
  where
    close_by : (b : ℕ) (bs after : List ℕ) → (behind_close bs ≡ Some after → Takes (Leads behind_close) bs after) → cond (starts_with nat_eq (b ∷ bs) (42 ∷ 47 ∷ [])) (Some (drop 1 bs)) (behind_close bs) ≡ Some after → Takes (Leads behind_close) (b ∷ bs) after
    close_by b bs after more e =
        split (Takes (Leads behind_close) (b ∷ bs) after) (starts_with nat_eq (b ∷ bs) (42 ∷ 47 ∷ [])) (Some (drop 1 bs)) (behind_close bs) (Some after) (λ h k.
        let same : drop 1 bs ≡ after = cc in
        subst (Takes (Leads behind_close) (b ∷ bs)) same (record { taken = 42 ∷ 47 ∷ []; is = starts_front (b ∷ bs) (42 ∷ 47 ∷ []) h; again = λ s r f. refl }))
        (λ h k. takes_byte (Leads behind_close) (Leads behind_close) b bs after (more k) (λ t s r f j.
        pass (starts_with nat_eq (b ∷ t) (42 ∷ 47 ∷ [])) (Some (drop 1 t)) _ _ (starts_cut (b ∷ bs) (b ∷ t) r (42 ∷ 47 ∷ []) (ap (λ l. b ∷ l) f) h) j)) e

feeds_by : (t : Bool) (m n : ℕ) → cond t (suc (m + n)) (m + n) ≡ cond t (suc m) m + n
feeds_by true m n = omega arith
feeds_by false m n = refl

feeds_append : (u v : List ℕ) → line_feeds (u ++ v) ≡ line_feeds u + line_feeds v
unfolding line_feeds
feeds_append [] v = omega arith
feeds_append (b ∷ u) v = ap (λ n. cond (nat_eq b 10) (suc n) n) (feeds_append u v) ∙ feeds_by (nat_eq b 10) (line_feeds u) (line_feeds v)

pub takes_comment : (text : List ℕ) (x : Piece) → block_comment text ≡ Some x → Takes (Reads block_comment x.what) text x.after
unfolding block_comment
takes_comment text x e =
    mapped (Takes (Reads block_comment x.what) text x.after) (behind_close text) (λ a. record { what = Comment (line_feeds text - line_feeds a); after = a }) x (λ after found same.
    let left : after ≡ x.after = ap (λ (z : Piece). z.after) same in
    let what : Comment (line_feeds text - line_feeds after) ≡ x.what = ap (λ (z : Piece). z.what) same in
    let c = takes_close text after found in
    subst (Takes (Reads block_comment x.what) text) left (record {
      taken = c.taken;
      is = c.is;
      again = λ s r f.
          let count : line_feeds (c.taken ++ s) - line_feeds s ≡ line_feeds text - line_feeds after = omega (arith, feeds_append c.taken s, ap line_feeds c.is, feeds_append c.taken after) in
          ap (option_map (λ (a : List ℕ). record { what = Comment (line_feeds (c.taken ++ s) - line_feeds a); after = a })) (c.again s r f) ∙ ap (λ n. Some (record { what = Comment n; after = s })) count ∙ ap (λ (z : What). Some (record { what = z; after = s })) what;
    })) e

-- Line markers.

begins_run : (k : Class) (text : List ℕ) → 1 ≤ run k text → begins (is_in k) text ≡ true
unfolding run
begins_run k [] h = absurd (omega arith)
begins_run k (b ∷ bs) h = by (is_in k b) h
  where
    by : (t : Bool) → 1 ≤ cond t (suc (run k bs)) 0 → t ≡ true
    by true h = refl
    by false h = absurd (omega arith)

begins_same : (k : Class) (text t : List ℕ) → front k t ≡ front k text → begins (is_in k) text ≡ true → begins (is_in k) t ≡ true
begins_same k text t e h =
    let one : length (front k t) ≡ run k t = length-take-le (run k t) t (run_within k t) in
    let two : length (front k text) ≡ run k text = length-take-le (run k text) text (run_within k text) in
    begins_run k t (omega (arith, one, two, ap length e, run_begins k text h))

takes_some : (k : Class) (text : List ℕ) (x : List ℕ × List ℕ) → some_of k text ≡ Some x → Takes (Gives (some_of k) x.0) text x.1
unfolding some_of
takes_some k text x e =
    split (Takes (Gives (some_of k) x.0) text x.1) (begins (is_in k) text) (Some (front k text, behind k text)) None (Some x) (λ h f.
    let same : (front k text, behind k text) ≡ x = cc in
    let p = pair_is (front k text) (behind k text) x same in
    subst (Takes (Gives (some_of k) x.0) text) p.1 (takes_as (IsRun k (front k text)) (Gives (some_of k) x.0) text (behind k text) (takes_run k text) (λ t s r f g i.
    pick (begins (is_in k) t) (Some (front k t, behind k t)) None _ (begins_same k text t i.front h) (ap (λ (z : List ℕ). Some (z, behind k t)) (i.front ∙ p.0) ∙ ap (λ (z : List ℕ). Some (x.0, z)) i.behind)))) (λ h f. absurd cc) e

some_less : (k : Class) (text : List ℕ) (x : List ℕ × List ℕ) → some_of k text ≡ Some x → length x.1 < length text
unfolding some_of
some_less k text x e = split (length x.1 < length text) (begins (is_in k) text) (Some (front k text, behind k text)) None (Some x) (λ h f.
    let same : (front k text, behind k text) ≡ x = cc in
    let p = pair_is (front k text) (behind k text) x same in
    omega (arith, behind_shorter k text (run_begins k text h), ap length p.1)) (λ h f. absurd cc) e

pub takes_equal : (b : ℕ) (bs after : List ℕ) (R : List ℕ → List ℕ → Type 0) → bs ≡ after → ((t : List ℕ) → R (b ∷ t) t) → Takes R (b ∷ bs) after
takes_equal b bs after R same h = subst (Takes R (b ∷ bs)) same (takes_byte (λ t s. t ≡ s) R b bs bs (takes_none (λ t s. t ≡ s) bs (λ s r f. refl)) (λ t s r f j. subst (R (b ∷ t)) j (h t)))

takes_name : (q : Bool) (text after : List ℕ) → behind_name q text ≡ Some after → Takes (Leads (behind_name q)) text after
unfolding behind_name
takes_name true [] after e = absurd cc
takes_name false [] after e = absurd cc
takes_name true (b ∷ bs) after e = name_by b bs after (takes_name false bs after) e
  where
    name_by : (b : ℕ) (bs after : List ℕ) → (behind_name false bs ≡ Some after → Takes (Leads (behind_name false)) bs after) → cond (nat_eq b 10) None (behind_name false bs) ≡ Some after → Takes (Leads (behind_name true)) (b ∷ bs) after
    name_by b bs after more e = split (Takes (Leads (behind_name true)) (b ∷ bs) after) (nat_eq b 10) None (behind_name false bs) (Some after) (λ h k. absurd cc) (λ h k.
        takes_byte (Leads (behind_name false)) (Leads (behind_name true)) b bs after (more k) (λ t s r f j. pass (nat_eq b 10) None _ _ h j)) e
takes_name false (b ∷ bs) after e = name_by b bs after (takes_name (nat_eq b 92) bs after) e
  where
    name_by : (b : ℕ) (bs after : List ℕ) → (behind_name (nat_eq b 92) bs ≡ Some after → Takes (Leads (behind_name (nat_eq b 92))) bs after) → cond (nat_eq b 34) (Some bs) (cond (nat_eq b 10) None (behind_name (nat_eq b 92) bs)) ≡ Some after → Takes (Leads (behind_name false)) (b ∷ bs) after
    name_by b bs after more e = split (Takes (Leads (behind_name false)) (b ∷ bs) after) (nat_eq b 34) (Some bs) _ (Some after)
        (λ h k. let same : bs ≡ after = cc in takes_equal b bs after (Leads (behind_name false)) same (λ t. pick (nat_eq b 34) (Some t) _ _ h refl))
        (λ h k. split (Takes (Leads (behind_name false)) (b ∷ bs) after) (nat_eq b 10) None (behind_name (nat_eq b 92) bs) (Some after) (λ h1 k. absurd cc) (λ h1 k.
        takes_byte (Leads (behind_name (nat_eq b 92))) (Leads (behind_name false)) b bs after (more k) (λ t s r f j. pass (nat_eq b 34) _ _ _ h (pass (nat_eq b 10) None _ _ h1 j))) k) e

takes_quoted : (text after : List ℕ) → behind_quotes text ≡ Some after → Takes (Leads behind_quotes) text after
takes_quoted [] after e = absurd cc
takes_quoted (b ∷ bs) after e = split (Takes (Leads behind_quotes) (b ∷ bs) after) (nat_eq b 34) (behind_name false bs) None (Some after) (λ h k.
    takes_byte (Leads (behind_name false)) (Leads behind_quotes) b bs after (takes_name false bs after k) (λ t s r f j. pick (nat_eq b 34) (behind_name false t) None _ h j)) (λ h k. absurd cc) e

end_alone : (s r : List ℕ) → [] ≡ s ++ r → behind_line_feed s ≡ Some s
end_alone [] r e = refl
end_alone (c ∷ s) r e = absurd cc

takes_feed : (text after : List ℕ) → behind_line_feed text ≡ Some after → Takes (Leads behind_line_feed) text after
takes_feed [] after e = let same : [] ≡ after = cc in subst (Takes (Leads behind_line_feed) []) same (takes_none (Leads behind_line_feed) [] end_alone)
takes_feed (b ∷ bs) after e = split (Takes (Leads behind_line_feed) (b ∷ bs) after) (nat_eq b 10) (Some bs) None (Some after)
    (λ h k. let same : bs ≡ after = cc in takes_equal b bs after (Leads behind_line_feed) same (λ t. pick (nat_eq b 10) (Some t) None _ h refl)) (λ h k. absurd cc) e

abbrev line_end : List ℕ → Option (List ℕ)
line_end text = behind_line_feed (behind class.LineTail text)

takes_end : (text after : List ℕ) → line_end text ≡ Some after → Takes (Leads line_end) text after
takes_end text after e = takes_then (IsRun class.LineTail (front class.LineTail text)) (Leads behind_line_feed) (Leads line_end) text (behind class.LineTail text) after (takes_run class.LineTail text) (takes_feed (behind class.LineTail text) after e) (λ t m s a b. ap behind_line_feed a.behind ∙ b)

takes_group : (text : List ℕ) (g : List ℕ × List ℕ) → group_at text ≡ Some g → Takes (Gives group_at g.0) text g.1
takes_group text g e = bound (Takes (Gives group_at g.0) text g.1) (some_of class.Blank text) (λ a. some_of class.Digit a.1) g (λ a blanks digits.
    takes_then (Gives (some_of class.Blank) a.0) (Gives (some_of class.Digit) g.0) (Gives group_at g.0) text a.1 g.1 (takes_some class.Blank text a blanks) (takes_some class.Digit a.1 g digits) (λ t m s x y. ap (option_and_then (λ (b : List ℕ × List ℕ). some_of class.Digit b.1)) x ∙ y)) e

group_less : (text : List ℕ) (g : List ℕ × List ℕ) → group_at text ≡ Some g → length g.1 < length text
group_less text g e = bound (length g.1 < length text) (some_of class.Blank text) (λ a. some_of class.Digit a.1) g (λ a blanks digits. omega (arith, some_less class.Blank text a blanks, some_less class.Digit a.1 g digits)) e

run_on_by : (k : Class) (b : ℕ) (bs r : List ℕ) (t : Bool) → is_in k b ≡ t → (0 < length (behind k bs) → run k (bs ++ r) ≡ run k bs) → 0 < length (drop (cond t (suc (run k bs)) 0) (b ∷ bs)) → cond (is_in k b) (suc (run k (bs ++ r))) 0 ≡ cond t (suc (run k bs)) 0
run_on_by k b bs r true h more lt = pick (is_in k b) (suc (run k (bs ++ r))) 0 _ h (ap suc (more lt))
run_on_by k b bs r false h more lt = pass (is_in k b) (suc (run k (bs ++ r))) 0 _ h refl

-- a run that ends in a text is as long with more behind the text
run_on : (k : Class) (u r : List ℕ) → 0 < length (behind k u) → run k (u ++ r) ≡ run k u
unfolding run
run_on k [] r lt = absurd (omega arith)
run_on k (b ∷ bs) r lt = run_on_by k b bs r (is_in k b) refl (run_on k bs r) lt

record Groups (text : List ℕ) : Type 0 where
  blank : begins (is_in class.Blank) text ≡ true
  digit : begins (is_in class.Digit) (behind class.Blank text) ≡ true

begins_length : (p : ℕ → Bool) (text : List ℕ) → begins p text ≡ true → 0 < length text
begins_length p [] h = absurd cc
begins_length p (b ∷ bs) h = omega arith

some_begins : (k : Class) (text : List ℕ) (x : List ℕ × List ℕ) → some_of k text ≡ Some x → (begins (is_in k) text ≡ true) × (behind k text ≡ x.1)
unfolding some_of
some_begins k text x e = split ((begins (is_in k) text ≡ true) × (behind k text ≡ x.1)) (begins (is_in k) text) (Some (front k text, behind k text)) None (Some x)
    (λ h f. let same : (front k text, behind k text) ≡ x = cc in (h, (pair_is (front k text) (behind k text) x same).1)) (λ h f. absurd cc) e

group_is : (text : List ℕ) (g : List ℕ × List ℕ) → group_at text ≡ Some g → Groups text
group_is text g e = bound (Groups text) (some_of class.Blank text) (λ a. some_of class.Digit a.1) g (λ a blanks digits.
    let x = some_begins class.Blank text a blanks in
    let y = some_begins class.Digit a.1 g digits in
    record { blank = x.0; digit = ap (begins (is_in class.Digit)) x.1 ∙ y.0 }) e

group_stands : (text : List ℕ) → Groups text → group_at text ≡ None → ⊥
unfolding some_of
group_stands text g e =
    let one : group_at text ≡ some_of class.Digit (behind class.Blank text) = ap (λ t. option_and_then (λ (a : List ℕ × List ℕ). some_of class.Digit a.1) (cond t (Some (front class.Blank text, behind class.Blank text)) None)) g.blank in
    let two : some_of class.Digit (behind class.Blank text) ≡ Some (front class.Digit (behind class.Blank text), behind class.Digit (behind class.Blank text)) = pick (begins (is_in class.Digit) (behind class.Blank text)) _ None _ g.digit refl in
    let three = sym e ∙ one ∙ two in
    absurd cc

group_more : (u r : List ℕ) → Groups u → Groups (u ++ r)
group_more u r g =
    let lt = begins_length (is_in class.Digit) (behind class.Blank u) g.digit in
    let same : behind class.Blank (u ++ r) ≡ behind class.Blank u ++ r = ap (λ n. drop n (u ++ r)) (run_on class.Blank u r lt) ∙ drop-append-le (run class.Blank u) u r (run_within class.Blank u) in
    record { blank = begins_front (is_in class.Blank) (u ++ r) u r refl g.blank; digit = ap (begins (is_in class.Digit)) same ∙ begins_front (is_in class.Digit) (behind class.Blank u ++ r) (behind class.Blank u) r refl g.digit }

-- where no flag stands, none stands in a front of the text
group_cut : (text u r : List ℕ) → text ≡ u ++ r → group_at text ≡ None → group_at u ≡ None
group_cut text u r is e = by (group_at u) refl
  where
    by : (o : Option (List ℕ × List ℕ)) → group_at u ≡ o → o ≡ None
    by None h = refl
    by (Some g) h = absurd (group_stands (u ++ r) (group_more u r (group_is u g h)) (sym (ap group_at is) ∙ e))

takes_groups : (n : ℕ) (text after : List ℕ) → groups n text ≡ Some after → Takes (Leads (groups n)) text after
unfolding groups
takes_groups zero text after e = takes_end text after e
takes_groups (suc n) text after e = groups_by n text after (group_at text) refl (takes_groups n) e
  where
    groups_by : (n : ℕ) (text after : List ℕ) (o : Option (List ℕ × List ℕ)) → group_at text ≡ o → ((t a : List ℕ) → groups n t ≡ Some a → Takes (Leads (groups n)) t a)
        → option_map_or (λ (g : List ℕ × List ℕ). groups n g.1) o (line_end text) ≡ Some after → Takes (Leads (groups (suc n))) text after
    groups_by n text after None h more e = takes_as (Leads line_end) (Leads (groups (suc n))) text after (takes_end text after e) (λ t s r f g j.
        ap (λ o. option_map_or (λ (x : List ℕ × List ℕ). groups n x.1) o (line_end t)) (group_cut text t r f h) ∙ j)
    groups_by n text after (Some g) h more e = takes_then (Gives group_at g.0) (Leads (groups n)) (Leads (groups (suc n))) text g.1 after (takes_group text g h) (more g.1 after e) (λ t m s a b.
        ap (λ o. option_map_or (λ (x : List ℕ × List ℕ). groups n x.1) o (line_end t)) a ∙ b)

no_group : (text : List ℕ) → length text ≤ 0 → group_at text ≡ None
unfolding some_of
no_group [] h = refl
no_group (b ∷ bs) h = absurd (omega arith)

-- so many flags are enough as there are bytes
groups_enough : (n m : ℕ) (text : List ℕ) → length text ≤ n → length text ≤ m → groups n text ≡ groups m text
unfolding groups
groups_enough zero m text a b = groups_stop zero text (no_group text a) ∙ sym (groups_stop m text (no_group text a))
groups_enough (suc n) m text a b = by m (group_at text) refl b (groups_enough n)
  where
    by : (m : ℕ) (o : Option (List ℕ × List ℕ)) → group_at text ≡ o → length text ≤ m → ((m : ℕ) (t : List ℕ) → length t ≤ n → length t ≤ m → groups n t ≡ groups m t) → groups (suc n) text ≡ groups m text
    by m None h b more = groups_stop (suc n) text h ∙ sym (groups_stop m text h)
    by zero (Some g) h b more = absurd (omega (arith, b, group_less text g h))
    by (suc m) (Some g) h b more =
        let lt = group_less text g h in
        ap (λ o. option_map_or (λ (x : List ℕ × List ℕ). groups n x.1) o (line_end text)) h ∙ more m g.1 (omega (arith, lt, a)) (omega (arith, lt, b)) ∙ sym (ap (λ o. option_map_or (λ (x : List ℕ × List ℕ). groups m x.1) o (line_end text)) h)

-- first a value, then a piece
takes_bind : (read : List ℕ → Option (List ℕ × List ℕ)) (f : List ℕ → List ℕ → Option Piece) → ((t : List ℕ) (y : List ℕ × List ℕ) → read t ≡ Some y → Takes (Gives read y.0) t y.1) → ((v t : List ℕ) (y : Piece) → f v t ≡ Some y → Takes (Reads (f v) y.what) t y.after)
    → (text : List ℕ) (x : Piece) → option_and_then (λ a. f a.0 a.1) (read text) ≡ Some x → Takes (Reads (λ t. option_and_then (λ a. f a.0 a.1) (read t)) x.what) text x.after
takes_bind read f one two text x e = bound (Takes (Reads (λ t. option_and_then (λ (a : List ℕ × List ℕ). f a.0 a.1) (read t)) x.what) text x.after) (read text) (λ a. f a.0 a.1) x (λ a first then.
    takes_then (Gives read a.0) (Reads (f a.0) x.what) (Reads (λ t. option_and_then (λ (a : List ℕ × List ℕ). f a.0 a.1) (read t)) x.what) text a.1 x.after (one text a first) (two a.0 a.1 x then) (λ t m s p q. ap (option_and_then (λ (b : List ℕ × List ℕ). f b.0 b.1)) p ∙ q)) e

abbrev flags_then : List ℕ → List ℕ → Option Piece
flags_then digits name = option_and_then (marker_piece digits) (groups (length name) name)

abbrev name_then : List ℕ → List ℕ → Option Piece
name_then digits text = option_and_then (flags_then digits) (behind_quotes text)

abbrev blank_then : List ℕ → List ℕ → Option Piece
blank_then digits text = option_and_then (λ b. name_then digits b.1) (some_of class.Blank text)

abbrev digits_then : List ℕ → Option Piece
digits_then text = option_and_then (λ n. blank_then n.0 n.1) (some_of class.Digit text)

marker_is : (digits after : List ℕ) (x : Piece) → marker_piece digits after ≡ Some x → (after ≡ x.after) × ((s : List ℕ) → marker_piece digits s ≡ Some (record { what = x.what; after = s }))
marker_is digits after x e =
    split ((after ≡ x.after) × ((s : List ℕ) → marker_piece digits s ≡ Some (record { what = x.what; after = s }))) (nat_le (length digits) 10 && nat_le (value_from 10 0 digits) 2147483647) (Some (record { what = Marker (value_from 10 0 digits); after = after })) None (Some x) (λ h k.
    let same : record { what = Marker (value_from 10 0 digits); after = after } ≡ x = cc in
    (ap (λ (z : Piece). z.after) same, λ s. pick (nat_le (length digits) 10 && nat_le (value_from 10 0 digits) 2147483647) (Some (record { what = Marker (value_from 10 0 digits); after = s })) None _ h (ap (λ (z : Piece). Some (record { what = z.what; after = s })) same))) (λ h k. absurd cc) e

takes_flags : (digits name : List ℕ) (x : Piece) → flags_then digits name ≡ Some x → Takes (Reads (flags_then digits) x.what) name x.after
takes_flags digits name x e = bound (Takes (Reads (flags_then digits) x.what) name x.after) (groups (length name) name) (marker_piece digits) x (λ after found made.
    let p = marker_is digits after x made in
    subst (Takes (Reads (flags_then digits) x.what) name) p.0 (takes_as (Leads (groups (length name))) (Reads (flags_then digits) x.what) name after (takes_groups (length name) name after found) (λ t s r f g j.
    let shorter : length t ≤ length name = omega (arith, ap length f, length-append t r) in
    ap (option_and_then (marker_piece digits)) (groups_enough (length t) (length name) t (omega arith) shorter ∙ j) ∙ p.1 s))) e

takes_name_then : (digits text : List ℕ) (x : Piece) → name_then digits text ≡ Some x → Takes (Reads (name_then digits) x.what) text x.after
takes_name_then digits text x e = bound (Takes (Reads (name_then digits) x.what) text x.after) (behind_quotes text) (flags_then digits) x (λ name found rest.
    takes_then (Leads behind_quotes) (Reads (flags_then digits) x.what) (Reads (name_then digits) x.what) text name x.after (takes_quoted text name found) (takes_flags digits name x rest) (λ t m s a b. ap (option_and_then (flags_then digits)) a ∙ b)) e

takes_blank_then : (digits text : List ℕ) (x : Piece) → blank_then digits text ≡ Some x → Takes (Reads (blank_then digits) x.what) text x.after
takes_blank_then digits text x e = takes_bind (some_of class.Blank) (λ v t. name_then digits t) (takes_some class.Blank) (λ v t y f. takes_name_then digits t y f) text x e

takes_digits_then : (text : List ℕ) (x : Piece) → digits_then text ≡ Some x → Takes (Reads digits_then x.what) text x.after
takes_digits_then text x e = takes_bind (some_of class.Digit) blank_then (takes_some class.Digit) takes_blank_then text x e

pub takes_marker : (text : List ℕ) (x : Piece) → marker text ≡ Some x → Takes (Reads marker x.what) text x.after
unfolding marker
takes_marker text x e = takes_bind (some_of class.Blank) (λ v t. digits_then t) (takes_some class.Blank) (λ v t y f. takes_digits_then t y f) text x e

-- Punctuators.

mark_by : (text : List ℕ) (x : Piece) (o : Option (List ℕ × Mark)) → first_row marks text ≡ o → mark_row text o ≡ Here x → Takes (StandsAs mark_at x.what) text x.after
unfolding mark_at
mark_by text x None h e = absurd cc
mark_by text x (Some row) h e =
    let same : token (Punctuator row.1) (drop (length row.0) text) ≡ x = cc in
    let p = token_is (Punctuator row.1) x (drop (length row.0) text) same in
    let is = starts_front text row.0 (row_starts marks text row h) in
    subst (Takes (StandsAs mark_at x.what) text) p.0 (record {
      taken = row.0;
      is = is;
      again = λ s r f.
          let whole : text ≡ (row.0 ++ s) ++ r = is ∙ ap (λ l. row.0 ++ l) f ∙ sym (append_assoc row.0 s r) in
          ap (mark_row (row.0 ++ s)) (row_cut marks text (row.0 ++ s) r row whole (omega (arith, length-append row.0 s)) h) ∙ ap (λ (l : List ℕ). Here (token (Punctuator row.1) l)) (drop-append_seam row.0 s) ∙ ap (λ (w : What). Here (record { what = w; after = s })) p.1;
    })

pub takes_mark : (text : List ℕ) (x : Piece) → mark_at text ≡ Here x → Takes (StandsAs mark_at x.what) text x.after
unfolding mark_at
takes_mark text x e = mark_by text x (first_row marks text) refl e
