-- What is read of a line was written so.
use Rattle.std.proofs.Common.{◌≡◌, ℕ, Bool, true, false, cond, eqb, List, [], ◌∷◌, ◌++◌, length, take, drop, codes, Option, Some, None, refl, sym, ap, ◌∙◌, take-append-drop}
use Rattle.std.proofs.lemmas.Slice.Eq.{bytes_eq-Decides}
use Rattle.std.proofs.lemmas.Option.{option_and_then_some, none-some, same_Some}
use Rattle.std.specs.Option.{option_map}
use Rattle.std.specs.Str.{bytes_eq}
use Rattle.std.specs.Fmt.{decimal}
use Rattle.std.specs.List.{slice_split, join_with_byte}
use Rattle.pv_print.specs.Texts.{address_text}
use Rattle.pv_journal.specs.Journals.{Id, id_text}
use Rattle.pv_journal.specs.Reading.{decimal_in, address_in, behind, number_behind, address_behind, id_of, id_in, id_behind}
use Rattle.pv_journal.proofs.Numbers.{decimal_was_read, address_was_read}
use Rattle.pv_journal.proofs.Splits.{joined_again}

-- ---- options taken apart, with the conclusion as a parameter

pub map_some : {A B P : Type 0} (f : A → B) (o : Option A) (y : B) → option_map f o ≡ Some y → ((x : A) → o ≡ Some x → f x ≡ y → P) → P
map_some f None y h k = absurd (none-some y h)
map_some f (Some x) y h k = k x refl (same_Some (f x) y h)

pub if_some : {B P : Type 0} (b : Bool) (o : Option B) (y : B) → cond b o None ≡ Some y → (b ≡ true → o ≡ Some y → P) → P
if_some true o y h k = k refl h
if_some false o y h k = absurd (none-some y h)

pub either_some : {B P : Type 0} (b : Bool) (o p : Option B) (y : B) → cond b o p ≡ Some y → (b ≡ true → o ≡ Some y → P) → (p ≡ Some y → P) → P
either_some true o p y h k l = k refl h
either_some false o p y h k l = l h

-- ---- words

pub behind_was : (word text rest : List ℕ) → behind word text ≡ Some rest → text ≡ word ++ rest
behind_was word text rest h =
    if_some (bytes_eq (take (length word) text) word) (Some (drop (length word) text)) rest h
    (λ t e. sym (take-append-drop (length word) text) ∙ ap (λ l. l ++ drop (length word) text) ((bytes_eq-Decides (take (length word) text) word).0 t) ∙ ap (λ r. word ++ r) (same_Some (drop (length word) text) rest e))

pub number_was : (word text : List ℕ) (n : ℕ) → number_behind word text ≡ Some n → text ≡ word ++ decimal n
number_was word text n h = option_and_then_some decimal_in (behind word text) n h (λ rest b d. behind_was word text rest b ∙ ap (λ r. word ++ r) (decimal_was_read rest n d))

pub address_was : (word text : List ℕ) (n : ℕ) → address_behind word text ≡ Some n → text ≡ word ++ address_text n
address_was word text n h = option_and_then_some address_in (behind word text) n h (λ rest b d. behind_was word text rest b ∙ ap (λ r. word ++ r) (address_was_read rest n d))

id_of_was : (text : List ℕ) (ws : List (List ℕ)) (id : Id) → text ≡ join_with_byte 35 ws → id_of ws ≡ Some id → text ≡ id_text id
id_of_was text [] id e h = absurd (none-some id h)
id_of_was text (name ∷ []) id e h = absurd (none-some id h)
id_of_was text (name ∷ number ∷ more ∷ others) id e h = absurd (none-some id h)
id_of_was text (name ∷ number ∷ []) id e h =
    let f : ℕ → Id = λ k. record { name = name; k = k } in
    map_some f (decimal_in number) id h (λ k d i. e ∙ ap (λ l. name ++ (35 ∷ l)) (decimal_was_read number k d) ∙ push name (decimal k) ∙ ap id_text i)
  where
    push : (a b : List ℕ) → a ++ (35 ∷ b) ≡ (a ++ codes "#") ++ b
    push [] b = refl
    push (x ∷ a) b = ap (λ l. x ∷ l) (push a b)

pub id_was : (text : List ℕ) (id : Id) → id_in text ≡ Some id → text ≡ id_text id
id_was text id h = id_of_was text (slice_split (λ b. eqb b 35) text) id (joined_again 35 text (slice_split (λ b. eqb b 35) text) refl) h

pub id_behind_was : (word text : List ℕ) (id : Id) → id_behind word text ≡ Some id → text ≡ word ++ id_text id
id_behind_was word text id h = option_and_then_some id_in (behind word text) id h (λ rest b d. behind_was word text rest b ∙ ap (λ r. word ++ r) (id_was rest id d))
