-- How a loop over characters comes to `characters`.
use Rattle.std.proofs.Common.{◌≡◌, ℕ, zero, suc, ◌-◌, ◌<◌, ◌≤◌, List, [], ◌∷◌, ◌++◌, length, get_or, drop, Bool, true, false, cond, Option, Some, None, nat_eq, refl, sym, ap, ◌∙◌, append_assoc, arith}
use Rattle.std.specs.Option.{option_map}
use Rattle.std.proofs.lemmas.List.{append-nil}
use Rattle.std.proofs.lemmas.Bool.Decides.{nat_tests}
use Rattle.pv_lex.specs.Bytes.{begins}
use Rattle.pv_lex.specs.Pieces.{◌>>=◌}
use Rattle.pv_lex.specs.Characters.{character_at, characters}

-- the bytes of earlier characters, in front
abbrev pub joined : List ℕ → Option (List ℕ × List ℕ) → Option (List ℕ × List ℕ)
joined front o = option_map (λ y. (front ++ y.0, y.1)) o

begins_at : (p : ℕ → Bool) (text : List ℕ) → 0 < length text → begins p text ≡ p (get_or text 0 0)
begins_at p [] h = absurd (omega arith)
begins_at p (b ∷ bs) h = refl

pub begins_byte : (n : ℕ) (text : List ℕ) → 0 < length text → get_or text 0 0 ≡ n → begins (λ b. nat_eq b n) text ≡ true
begins_byte n text h e = begins_at (λ b. nat_eq b n) text h ∙ eqb_is (get_or text 0 0) n e
  where
    eqb_is : (a b : ℕ) → a ≡ b → nat_eq a b ≡ true
    eqb_is a b e = grind (arith, nat_tests)

pub begins_other : (n : ℕ) (text : List ℕ) → 0 < length text → (get_or text 0 0 ≡ n → ⊥) → begins (λ b. nat_eq b n) text ≡ false
begins_other n text h e = begins_at (λ b. nat_eq b n) text h ∙ eqb_not (get_or text 0 0) n e
  where
    eqb_not : (a b : ℕ) → (a ≡ b → ⊥) → nat_eq a b ≡ false
    eqb_not a b e = grind (arith, nat_tests)

abbrev one_more : (n : ℕ) → ℕ × List ℕ → Option (List ℕ × List ℕ)
one_more n x = option_map (λ y. (x.0 ∷ y.0, y.1)) (characters n x.1)

pub characters_close : (front text : List ℕ) (n : ℕ) (total : Option (List ℕ × List ℕ)) → 1 ≤ n → begins (λ b. nat_eq b 34) text ≡ true → joined front (characters n text) ≡ total → Some (front, drop 1 text) ≡ total
unfolding characters
characters_close front text zero total le e h = absurd (omega arith)
characters_close front text (suc n) total le e h =
    let one : joined front (characters (suc n) text) ≡ Some (front ++ [], drop 1 text) = ap (λ t. joined front (cond t (Some ([], drop 1 text)) (character_at 34 text >>= one_more n))) e in
    let two : ◌≡◌ {A = Option (List ℕ × List ℕ)} (Some (front ++ [], drop 1 text)) (Some (front, drop 1 text)) = ap (λ (l : List ℕ). Some (l, drop 1 text)) (append-nil front) in
    sym two ∙ sym one ∙ h

pub characters_none : (front text : List ℕ) (n : ℕ) (total : Option (List ℕ × List ℕ)) → 1 ≤ n → begins (λ b. nat_eq b 34) text ≡ false → character_at 34 text ≡ None → joined front (characters n text) ≡ total → None ≡ total
unfolding characters
characters_none front text zero total le e none h = absurd (omega arith)
characters_none front text (suc n) total le e none h =
    let one : joined front (characters (suc n) text) ≡ joined front (character_at 34 text >>= one_more n) = ap (λ t. joined front (cond t (Some ([], drop 1 text)) (character_at 34 text >>= one_more n))) e in
    sym (one ∙ ap (λ o. joined front (o >>= one_more n)) none) ∙ h

regroup : (front : List ℕ) (b : ℕ) (o : Option (List ℕ × List ℕ)) → joined front (option_map (λ y. (b ∷ y.0, y.1)) o) ≡ joined (front ++ b ∷ []) o
regroup front b None = refl
regroup front b (Some y) = ap (λ (l : List ℕ). Some (l, y.1)) (sym (append_assoc front (b ∷ []) y.0))

pub characters_step : (front text : List ℕ) (n : ℕ) (total : Option (List ℕ × List ℕ)) (b : ℕ) (after : List ℕ) → 1 ≤ n → begins (λ b. nat_eq b 34) text ≡ false → character_at 34 text ≡ Some (b, after) → joined front (characters n text) ≡ total
    → joined (front ++ b ∷ []) (characters (n - 1) after) ≡ total
unfolding characters
characters_step front text zero total b after le e here h = absurd (omega arith)
characters_step front text (suc n) total b after le e here h =
    let one : joined front (characters (suc n) text) ≡ joined front (character_at 34 text >>= one_more n) = ap (λ t. joined front (cond t (Some ([], drop 1 text)) (character_at 34 text >>= one_more n))) e in
    let two : joined front (character_at 34 text >>= one_more n) ≡ joined front (one_more n (b, after)) = ap (λ o. joined front (o >>= one_more n)) here in
    let k : suc n - 1 ≡ n = omega arith in
    rw k (sym (regroup front b (characters n after)) ∙ sym (one ∙ two) ∙ h)

pub characters_end : (front text : List ℕ) (n : ℕ) (total : Option (List ℕ × List ℕ)) → length text ≡ 0 → joined front (characters n text) ≡ total → None ≡ total
unfolding characters character_at
characters_end front [] zero total le h = h
characters_end front [] (suc n) total le h = h
characters_end front (b ∷ bs) n total le h = absurd (omega arith)
