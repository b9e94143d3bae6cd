-- Each token depends on its own bytes alone.
use Rattle.std.proofs.Common.{◌≡◌, ℕ, zero, suc, ◌≤◌, min, List, [], ◌∷◌, ◌++◌, length, take, drop, Bool, true, false, cond, ◌||◌, ◌&&◌, Option, Some, None, nat_eq, refl, sym, ap, ◌∙◌, subst, length-take-le, take-append-drop, arith}
use Rattle.std.specs.Prelude.{nat_lt}
use Rattle.std.specs.Option.{option_map, option_and_then}
use Rattle.std.proofs.Math.Seq.{take-append_seam, drop-append_seam}
use Rattle.pv_lex.specs.declared.bytes.Class.{Class}
use Rattle.pv_lex.specs.declared.bytes.Class.TheVariants as class
use Rattle.pv_lex.specs.declared.pieces.Fault.TheVariants as fault
use Rattle.pv_token.specs.declared.words.Word.{Word}
use Rattle.pv_lex.specs.Bytes.{is_in, run, front, behind, begins}
use Rattle.pv_lex.specs.Tables.{row_of}
use Rattle.pv_token.specs.Said.{Said, Character, as_char}
use Rattle.pv_lex.specs.Pieces.{What, Spelling, Piece, Stand, Bad, Here, token}
use Rattle.pv_lex.specs.Words.{words, is_wide, is_quote, keyword_or_name, word_at}
use Rattle.pv_lex.specs.Constants.{constant_of, number_at, value_from}
use Rattle.pv_lex.specs.Characters.{escapes, character_by_number, escape_at, character_at, character_constant, characters}
use Rattle.pv_lex.specs.CharacterParts.{closed_character}
use Rattle.pv_lex.proofs.Runs.{run_within}
use Rattle.pv_lex.proofs.Taking.{Takes, takes_then, takes_as, takes_byte, takes_none, split, pick, pass, and_cut, begins_cut, bound, mapped, IsRun, takes_run, run_cut, run_part}

-- a piece is read, or stands there
abbrev pub Reads : (List ℕ → Option Piece) → What → List ℕ → List ℕ → Type 0
Reads read w text after = read text ≡ Some (record { what = w; after = after })

abbrev pub StandsAs : (List ℕ → Stand) → What → List ℕ → List ℕ → Type 0
StandsAs at w text after = at text ≡ Here (record { what = w; after = after })

-- Words.

word_with : List ℕ → List ℕ → ℕ → Stand
word_with word after n = cond (is_wide word && begins is_quote after) (Bad (fault.Profile n)) (keyword_or_name word after (row_of words word))

-- a word and what is left, of which the word alone counts
record IsWord (word after : List ℕ) (x : Piece) : Type 0 where
  left : after ≡ x.after
  any : (s : List ℕ) (o : Option (Option Word)) → o ≡ row_of words word → keyword_or_name word s o ≡ Here (record { what = x.what; after = s })

word_is : (word after : List ℕ) (o : Option (Option Word)) (x : Piece) → o ≡ row_of words word → keyword_or_name word after o ≡ Here x → IsWord word after x
word_is word after None x h e =
    let k : token _ after ≡ x = cc in
    record { left = ap (λ (z : Piece). z.after) k; any = λ s o i. subst (λ (q : Option (Option Word)). keyword_or_name word s q ≡ Here (record { what = x.what; after = s })) (h ∙ sym i) (ap (λ (z : Piece). Here (record { what = z.what; after = s })) k) }
word_is word after (Some None) x h e = absurd cc
word_is word after (Some (Some w)) x h e =
    let k : token _ after ≡ x = cc in
    record { left = ap (λ (z : Piece). z.after) k; any = λ s o i. subst (λ (q : Option (Option Word)). keyword_or_name word s q ≡ Here (record { what = x.what; after = s })) (h ∙ sym i) (ap (λ (z : Piece). Here (record { what = z.what; after = s })) k) }

pub takes_word : (text : List ℕ) (x : Piece) → word_at text ≡ Here x → Takes (StandsAs word_at x.what) text x.after
unfolding word_at word_with
takes_word text x e =
    let word : List ℕ = front class.Word text in
    let after : List ℕ = behind class.Word text in
    split (Takes (StandsAs word_at x.what) text x.after) (is_wide word && begins is_quote after) (Bad (fault.Profile (run class.Word text))) (keyword_or_name word after (row_of words word)) (Here x) (λ h k. absurd cc) (λ h k.
    let w = word_is word after (row_of words word) x refl k in
    subst (Takes (StandsAs word_at x.what) text) w.left (takes_as (IsRun class.Word word) (StandsAs word_at x.what) text after (takes_run class.Word text) (λ t s r f e i.
    ap (λ (z : List ℕ). word_with z (behind class.Word t) (run class.Word t)) i.front ∙ ap (λ (z : List ℕ). word_with word z (run class.Word t)) i.behind
    ∙ pass (is_wide word && begins is_quote s) (Bad (fault.Profile (run class.Word t))) (keyword_or_name word s (row_of words word)) (Here (record { what = x.what; after = s })) (and_cut (is_wide word) (begins is_quote after) (begins is_quote s) (begins_cut is_quote after s r e) h) (w.any s (row_of words word) refl)))) e

-- Constants.

number_with : List ℕ → List ℕ → Option Piece
number_with word after = cond (begins (λ b. nat_eq b 46) after) None (option_map (λ s. token s after) (constant_of word))

pub token_is : (s : Said) (x : Piece) (after : List ℕ) → token s after ≡ x → (after ≡ x.after) × (Spelling s ≡ x.what)
token_is s x after e = (ap (λ (z : Piece). z.after) e, ap (λ (z : Piece). z.what) e)

pub takes_number : (text : List ℕ) (x : Piece) → number_at text ≡ Some x → Takes (Reads number_at x.what) text x.after
unfolding number_at number_with
takes_number text x e =
    let word : List ℕ = front class.Word text in
    let after : List ℕ = behind class.Word text in
    split (Takes (Reads number_at x.what) text x.after) (begins (λ b. nat_eq b 46) after) None (option_map (λ s. token s after) (constant_of word)) (Some x) (λ h k. absurd cc) (λ h k.
    mapped (Takes (Reads number_at x.what) text x.after) (constant_of word) (λ s. token s after) x (λ said is_constant same.
    let p = token_is said x after same in
    subst (Takes (Reads number_at x.what) text) p.0 (takes_as (IsRun class.Word word) (Reads number_at x.what) text after (takes_run class.Word text) (λ t s r f e i.
    ap (λ (z : List ℕ). number_with z (behind class.Word t)) i.front ∙ ap (number_with word) i.behind
    ∙ pass (begins (λ b. nat_eq b 46) s) None (option_map (λ y. token y s) (constant_of word)) (Some (record { what = x.what; after = s })) (begins_cut (λ b. nat_eq b 46) after s r e h) (ap (option_map (λ y. token y s)) is_constant ∙ ap (λ (z : What). Some (record { what = z; after = s })) p.1)))) k) e

-- Characters.

-- a value is read
abbrev pub Gives : {A : Type 0} → (List ℕ → Option (A × List ℕ)) → A → List ℕ → List ℕ → Type 0
Gives read v text after = read text ≡ Some (v, after)

pub pair_is : {A : Type 0} (v : A) (after : List ℕ) (x : A × List ℕ) → (v, after) ≡ x → (v ≡ x.0) × (after ≡ x.1)
pair_is {A} v after x e = (ap (λ (z : A × List ℕ). z.0) e, ap (λ (z : A × List ℕ). z.1) e)

-- a numbered character depends on its digits, and passes on what is left
record IsNumbered (base : ℕ) (digits after : List ℕ) (x : ℕ × List ℕ) : Type 0 where
  left : after ≡ x.1
  any : (s : List ℕ) → character_by_number base digits s ≡ Some (x.0, s)

numbered_is : (base : ℕ) (digits after : List ℕ) (x : ℕ × List ℕ) → character_by_number base digits after ≡ Some x → IsNumbered base digits after x
unfolding character_by_number
numbered_is base [] after x e = absurd cc
numbered_is base (d ∷ ds) after x e =
    let v : ℕ = value_from base 0 (d ∷ ds) in
    split (IsNumbered base (d ∷ ds) after x) (nat_lt v 256) (Some (v, after)) None (Some x) (λ h k.
    let same : (v, after) ≡ x = cc in
    let p = pair_is v after x same in
    record { left = p.1; any = λ s. pick (nat_lt v 256) (Some (v, s)) None (Some (x.0, s)) h (ap (λ (z : ℕ). Some (z, s)) p.0) }) (λ h k. absurd cc) e

octal_at : List ℕ → Option (ℕ × List ℕ)
octal_at text = character_by_number 8 (take (min 3 (run class.Octal text)) text) (drop (min 3 (run class.Octal text)) text)

escape_octal : (text : List ℕ) → begins (is_in class.Octal) text ≡ true → escape_at text ≡ octal_at text
unfolding escape_at octal_at
escape_octal [] h = absurd cc
escape_octal (b ∷ bs) h = pick (is_in class.Octal b) (character_by_number 8 (take (min 3 (run class.Octal (b ∷ bs))) (b ∷ bs)) (drop (min 3 (run class.Octal (b ∷ bs))) (b ∷ bs))) _ _ h refl

begins_take : (p : ℕ → Bool) (n : ℕ) (text s : List ℕ) → 1 ≤ n → begins p text ≡ true → begins p (take n text ++ s) ≡ true
begins_take p zero text s le h = absurd (omega arith)
begins_take p (suc n) [] s le h = absurd cc
begins_take p (suc n) (b ∷ bs) s le h = h

pub run_begins : (k : Class) (text : List ℕ) → begins (is_in k) text ≡ true → 1 ≤ run k text
unfolding run
run_begins k [] h = absurd cc
run_begins k (b ∷ bs) h = let e : cond (is_in k b) (suc (run k bs)) 0 ≡ suc (run k bs) = pick (is_in k b) (suc (run k bs)) 0 _ h refl in omega (arith, e)

-- three digits at most: as many where the text is cut off behind them
octal_again : (text s r : List ℕ) (n : ℕ) → n ≡ min 3 (run class.Octal text) → drop n text ≡ s ++ r → min 3 (run class.Octal (take n text ++ s)) ≡ n
octal_again text s r n is e = by (nat_lt (run class.Octal text) 3) refl
  where
    by : (t : Bool) → nat_lt (run class.Octal text) 3 ≡ t → min 3 (run class.Octal (take n text ++ s)) ≡ n
    by true h =
        let few : n ≡ run class.Octal text = fewer (run class.Octal text) n h is in
        let f : behind class.Octal text ≡ s ++ r = ap (λ i. drop i text) (sym few) ∙ e in
        let g : run class.Octal (take n text ++ s) ≡ run class.Octal text = ap (λ i. run class.Octal (take i text ++ s)) few ∙ run_cut class.Octal text s r f in
        omega (arith, g, is)
      where
        fewer : (m n : ℕ) → nat_lt m 3 ≡ true → n ≡ min 3 m → n ≡ m
        fewer m n h is = grind arith
    by false h =
        let many : n ≡ 3 = three (run class.Octal text) n h is in
        let part = run_part class.Octal n text s (omega (arith, is)) in
        omega (arith, part, many)
      where
        three : (m n : ℕ) → nat_lt m 3 ≡ false → n ≡ min 3 m → n ≡ 3
        three m n h is = grind arith

takes_octal : (text : List ℕ) (x : ℕ × List ℕ) → begins (is_in class.Octal) text ≡ true → octal_at text ≡ Some x → Takes (Gives escape_at x.0) text x.1
unfolding octal_at
takes_octal text x h e =
    let n : ℕ = min 3 (run class.Octal text) in
    let i = numbered_is 8 (take n text) (drop n text) x e in
    let some = run_begins class.Octal text h in
    let size : length (take n text) ≡ n = length-take-le n text (omega (arith, run_within class.Octal text)) in
    subst (Takes (Gives escape_at x.0) text) i.left (record {
      taken = take n text;
      is = sym (take-append-drop n text);
      again = λ s r f.
          let m : min 3 (run class.Octal (take n text ++ s)) ≡ n = octal_again text s r n refl f in
          let digits : take n (take n text ++ s) ≡ take n text = ap (λ i. take i (take n text ++ s)) (sym size) ∙ take-append_seam (take n text) s in
          let rest : drop n (take n text ++ s) ≡ s = ap (λ i. drop i (take n text ++ s)) (sym size) ∙ drop-append_seam (take n text) s in
          escape_octal (take n text ++ s) (begins_take (is_in class.Octal) n text s (omega (arith, some)) h)
          ∙ ap (λ i. character_by_number 8 (take i (take n text ++ s)) (drop i (take n text ++ s))) m
          ∙ ap (λ d. character_by_number 8 d (drop n (take n text ++ s))) digits ∙ ap (character_by_number 8 (take n text)) rest ∙ i.any s;
    })

takes_escape : (text : List ℕ) (x : ℕ × List ℕ) → escape_at text ≡ Some x → Takes (Gives escape_at x.0) text x.1
unfolding escape_at octal_at
takes_escape [] x e = absurd cc
takes_escape (b ∷ bs) x e =
    split (Takes (Gives escape_at x.0) (b ∷ bs) x.1) (is_in class.Octal b) (octal_at (b ∷ bs)) _ (Some x) (takes_octal (b ∷ bs) x) (λ h0 k.
    split (Takes (Gives escape_at x.0) (b ∷ bs) x.1) (nat_eq b 120) (character_by_number 16 (front class.Hex bs) (behind class.Hex bs)) _ (Some x) (λ h1 k.
    let i = numbered_is 16 (front class.Hex bs) (behind class.Hex bs) x k in
    subst (Takes (Gives escape_at x.0) (b ∷ bs)) i.left (takes_byte (IsRun class.Hex (front class.Hex bs)) (Gives escape_at x.0) b bs (behind class.Hex bs) (takes_run class.Hex bs) (λ t s r f j.
    pass (is_in class.Octal b) _ _ _ h0 (pick (nat_eq b 120) (character_by_number 16 (front class.Hex t) (behind class.Hex t)) _ _ h1 (ap (λ d. character_by_number 16 d (behind class.Hex t)) j.front ∙ ap (character_by_number 16 (front class.Hex bs)) j.behind ∙ i.any s)))))
    (λ h1 k. mapped (Takes (Gives escape_at x.0) (b ∷ bs) x.1) (row_of escapes (b ∷ [])) (λ n. (n, bs)) x (λ n found same.
    let p = pair_is n bs x same in
    subst (Takes (Gives escape_at x.0) (b ∷ bs)) p.1 (takes_byte (λ t s. t ≡ s) (Gives escape_at x.0) b bs bs (takes_none (λ t s. t ≡ s) bs (λ s r f. refl)) (λ t s r f j.
    pass (is_in class.Octal b) _ _ _ h0 (pass (nat_eq b 120) _ _ _ h1 (ap (option_map (λ m. (m, t))) found ∙ ap (λ (z : ℕ). Some (z, t)) p.0 ∙ ap (λ (z : List ℕ). Some (x.0, z)) j))))) k) k) e

takes_character : (q : ℕ) (text : List ℕ) (x : ℕ × List ℕ) → character_at q text ≡ Some x → Takes (Gives (character_at q) x.0) text x.1
unfolding character_at
takes_character q [] x e = absurd cc
takes_character q (b ∷ bs) x e =
    split (Takes (Gives (character_at q) x.0) (b ∷ bs) x.1) (nat_eq b 92) (escape_at bs) (cond (nat_eq b 10 || nat_eq b q) None (Some (b, bs))) (Some x)
    (λ h k. takes_byte (Gives escape_at x.0) (Gives (character_at q) x.0) b bs x.1 (takes_escape bs x k) (λ t s r f j. pick (nat_eq b 92) (escape_at t) _ _ h j))
    (λ h k. split (Takes (Gives (character_at q) x.0) (b ∷ bs) x.1) (nat_eq b 10 || nat_eq b q) None (Some (b, bs)) (Some x) (λ h1 k. absurd cc) (λ h1 k.
    let same : (b, bs) ≡ x = cc in
    let p = pair_is b bs x same in
    subst (Takes (Gives (character_at q) x.0) (b ∷ bs)) p.1 (takes_byte (λ t s. t ≡ s) (Gives (character_at q) x.0) b bs bs (takes_none (λ t s. t ≡ s) bs (λ s r f. refl)) (λ t s r f j.
    pass (nat_eq b 92) _ _ _ h (pass (nat_eq b 10 || nat_eq b q) None (Some (b, t)) _ h1 (ap (λ (z : ℕ). Some (z, t)) p.0 ∙ ap (λ (z : List ℕ). Some (x.0, z)) j))))) k) e

-- a byte that a text begins with, and what is left behind it
takes_first : (p : ℕ → Bool) (text : List ℕ) → begins p text ≡ true → Takes (λ t s. (begins p t ≡ true) × (drop 1 t ≡ s)) text (drop 1 text)
takes_first p [] h = absurd cc
takes_first p (b ∷ bs) h = takes_byte (λ t s. t ≡ s) (λ t s. (begins p t ≡ true) × (drop 1 t ≡ s)) b bs bs (takes_none (λ t s. t ≡ s) bs (λ s r f. refl)) (λ t s r f j. (h, j))

takes_closed : (v : ℕ) (text : List ℕ) (x : Piece) → closed_character (v, text) ≡ Some x → Takes (Reads (λ t. closed_character (v, t)) x.what) text x.after
takes_closed v text x e =
    split (Takes (Reads (λ t. closed_character (v, t)) x.what) text x.after) (begins (λ b. nat_eq b 39) text) (Some (token (Character (as_char v)) (drop 1 text))) None (Some x) (λ h k.
    let same : token (Character (as_char v)) (drop 1 text) ≡ x = cc in
    let p = token_is (Character (as_char v)) x (drop 1 text) same in
    subst (Takes (Reads (λ t. closed_character (v, t)) x.what) text) p.0 (takes_as (λ t s. (begins (λ b. nat_eq b 39) t ≡ true) × (drop 1 t ≡ s)) (Reads (λ t. closed_character (v, t)) x.what) text (drop 1 text) (takes_first (λ b. nat_eq b 39) text h) (λ t s r f g j.
    pick (begins (λ b. nat_eq b 39) t) (Some (token (Character (as_char v)) (drop 1 t))) None _ j.0 (ap (λ (z : List ℕ). Some (token (Character (as_char v)) z)) j.1 ∙ ap (λ (z : What). Some (record { what = z; after = s })) p.1)))) (λ h k. absurd cc) e

pub takes_constant : (text : List ℕ) (x : Piece) → character_constant text ≡ Some x → Takes (Reads character_constant x.what) text x.after
unfolding character_constant
takes_constant text x e =
    bound (Takes (Reads character_constant x.what) text x.after) (character_at 39 text) closed_character x (λ y found closed.
    takes_then (Gives (character_at 39) y.0) (Reads (λ t. closed_character (y.0, t)) x.what) (Reads character_constant x.what) text y.1 x.after (takes_character 39 text y found) (takes_closed y.0 y.1 x closed) (λ t m s a b. ap (λ o. option_and_then closed_character o) a ∙ b)) e

-- Strings.

abbrev after_one : ℕ → ℕ × List ℕ → Option (List ℕ × List ℕ)
after_one n y = option_map (λ z. (y.0 ∷ z.0, z.1)) (characters n y.1)

pub takes_characters : (n : ℕ) (text : List ℕ) (x : List ℕ × List ℕ) → characters n text ≡ Some x → Takes (Gives (characters n) x.0) text x.1
unfolding characters
takes_characters zero text x e = absurd cc
takes_characters (suc n) text x e = string_by n text x (takes_characters n) e
  where
    string_by : (n : ℕ) (text : List ℕ) (x : List ℕ × List ℕ) → ((t : List ℕ) (y : List ℕ × List ℕ) → characters n t ≡ Some y → Takes (Gives (characters n) y.0) t y.1)
        → cond (begins (λ b. nat_eq b 34) text) (Some ([], drop 1 text)) (option_and_then (after_one n) (character_at 34 text)) ≡ Some x → Takes (Gives (characters (suc n)) x.0) text x.1
    string_by n text x more e =
        split (Takes (Gives (characters (suc n)) x.0) text x.1) (begins (λ b. nat_eq b 34) text) (Some ([], drop 1 text)) _ (Some x) (λ h k.
        let same : ([], drop 1 text) ≡ x = cc in
        let p = pair_is [] (drop 1 text) x same in
        subst (Takes (Gives (characters (suc n)) x.0) text) p.1 (takes_as (λ t s. (begins (λ b. nat_eq b 34) t ≡ true) × (drop 1 t ≡ s)) (Gives (characters (suc n)) x.0) text (drop 1 text) (takes_first (λ b. nat_eq b 34) text h) (λ t s r f g j.
        pick (begins (λ b. nat_eq b 34) t) (Some ([], drop 1 t)) _ _ j.0 (ap (λ (z : List ℕ). Some ([], z)) j.1 ∙ ap (λ (z : List ℕ). Some (z, s)) p.0))))
        (λ h k. bound (Takes (Gives (characters (suc n)) x.0) text x.1) (character_at 34 text) (after_one n) x (λ y found rest.
        mapped (Takes (Gives (characters (suc n)) x.0) text x.1) (characters n y.1) (λ z. (y.0 ∷ z.0, z.1)) x (λ z read same.
        let p = pair_is (y.0 ∷ z.0) z.1 x same in
        subst (Takes (Gives (characters (suc n)) x.0) text) p.1 (takes_as (λ t s. option_and_then (after_one n) (character_at 34 t) ≡ Some (x.0, s)) (Gives (characters (suc n)) x.0) text z.1
        (takes_then (Gives (character_at 34) y.0) (Gives (characters n) z.0) (λ t s. option_and_then (after_one n) (character_at 34 t) ≡ Some (x.0, s)) text y.1 z.1 (takes_character 34 text y found) (more y.1 z read) (λ t m s a b.
        ap (option_and_then (after_one n)) a ∙ ap (option_map (λ q. (y.0 ∷ q.0, q.1))) b ∙ ap (λ (q : List ℕ). Some (q, s)) p.0))
        (λ t s r f g j. pass (begins (λ b. nat_eq b 34) t) _ _ _ (begins_cut (λ b. nat_eq b 34) text t r f h) j))) rest) k) e
