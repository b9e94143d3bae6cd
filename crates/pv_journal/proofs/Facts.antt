-- What is read of the words of a line was written so: whole lines.
use Rattle.std.proofs.Common.{◌≡◌, ℕ, true, eqb, List, [], ◌∷◌, ◌++◌, codes, Option, Some, None, refl, sym, ap, ◌∙◌}
use Rattle.std.proofs.lemmas.Slice.Eq.{bytes_eq-Decides}
use Rattle.std.proofs.lemmas.Option.{option_and_then_some, none-some, same_Some}
use Rattle.std.specs.Str.{bytes_eq}
use Rattle.std.specs.Fmt.{decimal}
use Rattle.std.specs.List.{slice_split, join_with_byte}
use Rattle.pv_print.specs.Texts.{address_text}
use Rattle.pv_prov.specs.TestNumbers.{test_text}
use Rattle.pv_journal.specs.Journals.{Id, Fact, Made, Ended, Exposed, Paired, Used, Fault, Row, id_text, left_text, fact_words, row_text}
use Rattle.pv_journal.specs.Reading.{decimal_in, behind, number_behind, address_behind, id_in, id_behind, test_in, ids_of, ids_behind, at_turn, said_in_2, said_in_3, said_in_5, said_in_6, said_by, row_said}
use Rattle.pv_journal.proofs.Numbers.{decimal_was_read}
use Rattle.pv_journal.proofs.Splits.{joined_again}
use Rattle.pv_journal.proofs.Sound.{map_some, if_some, either_some, behind_was, number_was, address_was, id_was, id_behind_was}

is_text : (a b : List ℕ) → bytes_eq a b ≡ true → a ≡ b
is_text a b h = (bytes_eq-Decides a b).0 h

test_was : (text : List ℕ) (n : ℕ) → test_in text ≡ Some n → text ≡ codes "test=" ++ test_text n
test_was text n h =
    either_some (bytes_eq text (codes "test=live")) _ _ n h (λ t e. is_text text (codes "test=live") t ∙ ap (λ m. codes "test=" ++ test_text m) (same_Some 1 n e)) (λ h.
    either_some (bytes_eq text (codes "test=range")) _ _ n h (λ t e. is_text text (codes "test=range") t ∙ ap (λ m. codes "test=" ++ test_text m) (same_Some 2 n e)) (λ h.
    either_some (bytes_eq text (codes "test=block")) _ _ n h (λ t e. is_text text (codes "test=block") t ∙ ap (λ m. codes "test=" ++ test_text m) (same_Some 3 n e)) (λ h.
    either_some (bytes_eq text (codes "test=same")) _ _ n h (λ t e. is_text text (codes "test=same") t ∙ ap (λ m. codes "test=" ++ test_text m) (same_Some 4 n e)) (λ h.
    if_some (bytes_eq text (codes "test=code")) _ n h (λ t e. is_text text (codes "test=code") t ∙ ap (λ m. codes "test=" ++ test_text m) (same_Some 5 n e))))))

push : (a b : List ℕ) → a ++ (44 ∷ b) ≡ (a ++ codes ",") ++ b
push [] b = refl
push (x ∷ a) b = ap (λ l. x ∷ l) (push a b)

ids_of_was : (text : List ℕ) (ws : List (List ℕ)) (is : Id × Option Id) → text ≡ join_with_byte 44 ws → ids_of ws ≡ Some is → text ≡ left_text is.0 is.1
ids_of_was text [] is e h = absurd (none-some is h)
ids_of_was text (a ∷ b ∷ c ∷ ws) is e h = absurd (none-some is h)
ids_of_was text (a ∷ []) is e h =
    map_some (λ (i : Id). (i, None)) (id_in a) is h (λ i d f. e ∙ id_was a i d ∙ ap (λ (q : Id × Option Id). left_text q.0 q.1) f)
ids_of_was text (a ∷ b ∷ []) is e h =
    option_and_then_some _ (id_in a) is h (λ i d g. map_some (λ (j : Id). (i, Some j)) (id_in b) is g (λ j c f.
    e ∙ ap (λ l. l ++ (44 ∷ b)) (id_was a i d) ∙ ap (λ l. id_text i ++ (44 ∷ l)) (id_was b j c) ∙ push (id_text i) (id_text j) ∙ ap (λ (q : Id × Option Id). left_text q.0 q.1) f))

ids_was : (word text : List ℕ) (is : Id × Option Id) → ids_behind word text ≡ Some is → text ≡ word ++ left_text is.0 is.1
ids_was word text is h =
    option_and_then_some _ (behind word text) is h (λ left b d. behind_was word text left b
    ∙ ap (λ r. word ++ r) (ids_of_was left (slice_split (λ b. eqb b 44) left) is (joined_again 44 left (slice_split (λ b. eqb b 44) left) refl) d))

-- ---- lines

-- the turn and the fact
turned : {P : Type 0} (turn : List ℕ) (fact : Option Fact) (row : Row) → at_turn turn fact ≡ Some row → ((f : Fact) → fact ≡ Some f → row.says ≡ f → turn ≡ codes "turn=" ++ decimal row.turn → P) → P
turned turn fact row h k =
    option_and_then_some _ fact row h (λ f e g. map_some (λ (t : ℕ). record { turn = t; says = f }) (number_behind (codes "turn=") turn) row g (λ t d r.
    k f e (sym (ap (λ (x : Row). x.says) r)) (number_was (codes "turn=") turn t d ∙ ap (λ (x : Row). codes "turn=" ++ decimal x.turn) r)))

words_2 : (w t : List ℕ) (row : Row) → said_in_2 w t ≡ Some row → w ∷ t ∷ [] ≡ fact_words row.turn row.says
words_2 w t row h =
    turned t _ row h (λ f e s d. if_some (bytes_eq w (codes "fault")) (Some Fault) f e (λ b g.
    ap (λ x. x ∷ t ∷ []) (is_text w (codes "fault") b) ∙ ap (λ x. codes "fault" ∷ x ∷ []) d ∙ ap (fact_words row.turn) (same_Some Fault f g ∙ sym s)))

words_3 : (w i t : List ℕ) (row : Row) → said_in_3 w i t ≡ Some row → w ∷ i ∷ t ∷ [] ≡ fact_words row.turn row.says
words_3 w i t row h =
    turned t _ row h (λ f e s d. either_some (bytes_eq w (codes "end")) _ _ f e
    (λ b g. map_some (λ (id : Id). Ended id) (id_in i) f g (λ id c r.
    ap (λ x. x ∷ i ∷ t ∷ []) (is_text w (codes "end") b) ∙ ap (λ x. codes "end" ∷ x ∷ t ∷ []) (id_was i id c) ∙ ap (λ x. codes "end" ∷ id_text id ∷ x ∷ []) d ∙ ap (fact_words row.turn) (r ∙ sym s)))
    (λ e. if_some (bytes_eq w (codes "expose")) _ f e
    (λ b g. map_some (λ (id : Id). Exposed id) (id_in i) f g (λ id c r.
    ap (λ x. x ∷ i ∷ t ∷ []) (is_text w (codes "expose") b) ∙ ap (λ x. codes "expose" ∷ x ∷ t ∷ []) (id_was i id c) ∙ ap (λ x. codes "expose" ∷ id_text id ∷ x ∷ []) d ∙ ap (fact_words row.turn) (r ∙ sym s)))))

words_5 : (w a t c d : List ℕ) (row : Row) → said_in_5 w a t c d ≡ Some row → w ∷ a ∷ t ∷ c ∷ d ∷ [] ≡ fact_words row.turn row.says
words_5 w a t c d row h =
    turned t _ row h (λ f e s z. either_some (bytes_eq w (codes "create")) _ _ f e
    (λ b g. option_and_then_some _ (id_in a) f g (λ id ia g. option_and_then_some _ (address_behind (codes "base=") c) f g (λ base ib g. map_some (λ (n : ℕ). Made id base n) (number_behind (codes "size=") d) f g (λ n is r.
    ap (λ x. x ∷ a ∷ t ∷ c ∷ d ∷ []) (is_text w (codes "create") b) ∙ ap (λ x. codes "create" ∷ x ∷ t ∷ c ∷ d ∷ []) (id_was a id ia) ∙ ap (λ x. codes "create" ∷ id_text id ∷ x ∷ c ∷ d ∷ []) z
    ∙ ap (λ x. codes "create" ∷ id_text id ∷ (codes "turn=" ++ decimal row.turn) ∷ x ∷ d ∷ []) (address_was (codes "base=") c base ib)
    ∙ ap (λ x. codes "create" ∷ id_text id ∷ (codes "turn=" ++ decimal row.turn) ∷ (codes "base=" ++ address_text base) ∷ x ∷ []) (number_was (codes "size=") d n is)
    ∙ ap (fact_words row.turn) (r ∙ sym s)))))
    (λ e. if_some (bytes_eq w (codes "use")) _ f e
    (λ b g. option_and_then_some _ (decimal_in a) f g (λ p ip g. option_and_then_some _ (test_in c) f g (λ n it g. map_some (λ (is : Id × Option Id). Used p n is.0 is.1) (ids_behind (codes "left=") d) f g (λ is ii r.
    ap (λ x. x ∷ a ∷ t ∷ c ∷ d ∷ []) (is_text w (codes "use") b) ∙ ap (λ x. codes "use" ∷ x ∷ t ∷ c ∷ d ∷ []) (decimal_was_read a p ip) ∙ ap (λ x. codes "use" ∷ decimal p ∷ x ∷ c ∷ d ∷ []) z
    ∙ ap (λ x. codes "use" ∷ decimal p ∷ (codes "turn=" ++ decimal row.turn) ∷ x ∷ d ∷ []) (test_was c n it)
    ∙ ap (λ x. codes "use" ∷ decimal p ∷ (codes "turn=" ++ decimal row.turn) ∷ (codes "test=" ++ test_text n) ∷ x ∷ []) (ids_was (codes "left=") d is ii)
    ∙ ap (fact_words row.turn) (r ∙ sym s)))))))

words_6 : (w a t c d e : List ℕ) (row : Row) → said_in_6 w a t c d e ≡ Some row → w ∷ a ∷ t ∷ c ∷ d ∷ e ∷ [] ≡ fact_words row.turn row.says
words_6 w a t c d e row h =
    turned t _ row h (λ f i s z. if_some (bytes_eq w (codes "pair")) _ f i
    (λ b g. option_and_then_some _ (decimal_in a) f g (λ p ip g. option_and_then_some _ (address_behind (codes "address=") c) f g (λ n ia g. option_and_then_some _ (id_behind (codes "low=") d) f g (λ l il g.
    map_some (λ (y : Id). Paired p n l y) (id_behind (codes "high=") e) f g (λ y iy r.
    ap (λ x. x ∷ a ∷ t ∷ c ∷ d ∷ e ∷ []) (is_text w (codes "pair") b) ∙ ap (λ x. codes "pair" ∷ x ∷ t ∷ c ∷ d ∷ e ∷ []) (decimal_was_read a p ip) ∙ ap (λ x. codes "pair" ∷ decimal p ∷ x ∷ c ∷ d ∷ e ∷ []) z
    ∙ ap (λ x. codes "pair" ∷ decimal p ∷ (codes "turn=" ++ decimal row.turn) ∷ x ∷ d ∷ e ∷ []) (address_was (codes "address=") c n ia)
    ∙ ap (λ x. codes "pair" ∷ decimal p ∷ (codes "turn=" ++ decimal row.turn) ∷ (codes "address=" ++ address_text n) ∷ x ∷ e ∷ []) (id_behind_was (codes "low=") d l il)
    ∙ ap (λ x. codes "pair" ∷ decimal p ∷ (codes "turn=" ++ decimal row.turn) ∷ (codes "address=" ++ address_text n) ∷ (codes "low=" ++ id_text l) ∷ x ∷ []) (id_behind_was (codes "high=") e y iy)
    ∙ ap (fact_words row.turn) (r ∙ sym s)))))))

words_were : (ws : List (List ℕ)) (row : Row) → said_by ws ≡ Some row → ws ≡ fact_words row.turn row.says
words_were [] row h = absurd (none-some row h)
words_were (a ∷ []) row h = absurd (none-some row h)
words_were (a ∷ b ∷ []) row h = words_2 a b row h
words_were (a ∷ b ∷ c ∷ []) row h = words_3 a b c row h
words_were (a ∷ b ∷ c ∷ d ∷ []) row h = absurd (none-some row h)
words_were (a ∷ b ∷ c ∷ d ∷ e ∷ []) row h = words_5 a b c d e row h
words_were (a ∷ b ∷ c ∷ d ∷ e ∷ f ∷ []) row h = words_6 a b c d e f row h
words_were (a ∷ b ∷ c ∷ d ∷ e ∷ f ∷ g ∷ more) row h = absurd (none-some row h)

-- what is read of a line is a line of that text
pub said_was : (text : List ℕ) (row : Row) → row_said text ≡ Some row → text ≡ row_text row
said_was text row h =
    joined_again 32 text (slice_split (λ b. eqb b 32) text) refl ∙ ap (join_with_byte 32) (words_were (slice_split (λ b. eqb b 32) text) row h)
