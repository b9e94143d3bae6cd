-- The line of an event, where what is told makes instances and pairs known, is the line of the row that it is.
use Rattle.std.proofs.Common.{◌≡◌, ℕ, Bool, true, false, List, ◌++◌, codes, Option, Some, None, refl, ap, ◌∙◌, append_assoc}
use Rattle.std.specs.Fmt.{decimal}
use Rattle.pv_print.specs.Texts.{address_text}
use Rattle.pv_watch.specs.declared.event.Event.{Event}
use Rattle.pv_watch.specs.declared.event.What.TheVariants as what
use Rattle.pv_prov.specs.TestNumbers.{test_text}
use Rattle.pv_watch.specs.Lines.{first_told, making_of_pair, instance_text, survivors_of, field, what_text}
use Rattle.pv_journal.specs.Journals.{Id, Made, Ended, Exposed, Paired, Used, Fault, id_text, left_text, row_text}

-- what is told makes known who an instance is, and whose a pair is
abbrev pub IsKnown : List Event → List (List ℕ) → ℕ → Id → Type 0
IsKnown seen names i id = instance_text seen names i ≡ id_text id

pub ends_line : (seen : List Event) (names : List (List ℕ)) (t i : ℕ) (id : Id) → IsKnown seen names i id → what_text seen names t (what.Ended i) ≡ row_text (record { turn = t; says = Ended id })
ends_line seen names t i id known = ap (λ x. codes "end " ++ x ++ field (codes "turn") (decimal t)) known

pub exposed_line : (seen : List Event) (names : List (List ℕ)) (t i : ℕ) (id : Id) → IsKnown seen names i id → what_text seen names t (what.Exposed i) ≡ row_text (record { turn = t; says = Exposed id })
exposed_line seen names t i id known = ap (λ x. codes "expose " ++ x ++ field (codes "turn") (decimal t)) known

pub fault_line : (seen : List Event) (names : List (List ℕ)) (t : ℕ) (v : _) (l h p : Option ℕ) → what_text seen names t (what.Fault v l h p) ≡ row_text (record { turn = t; says = Fault })
fault_line seen names t v l h p = refl

-- three fields behind a text
three : (x t b s : List ℕ) → ((x ++ t) ++ b) ++ s ≡ x ++ (t ++ (b ++ s))
three x t b s = append_assoc (x ++ t) b s ∙ append_assoc x t (b ++ s)

pub made_line : (seen : List Event) (names : List (List ℕ)) (t i name k base size : ℕ) (id : Id) → IsKnown seen names i id → what_text seen names t (what.Made i name k base size) ≡ row_text (record { turn = t; says = Made id base size })
made_line seen names t i name k base size id known =
    ap (λ x. codes "create " ++ x ++ field (codes "turn") (decimal t) ++ field (codes "base") (address_text base) ++ field (codes "size") (decimal size)) known
    ∙ ap (λ l. codes "create " ++ l) (three (id_text id) (field (codes "turn") (decimal t)) (field (codes "base") (address_text base)) (field (codes "size") (decimal size)))

-- four fields behind a text
four : (x a b c d : List ℕ) → (((x ++ a) ++ b) ++ c) ++ d ≡ x ++ (a ++ (b ++ (c ++ d)))
four x a b c d = append_assoc ((x ++ a) ++ b) c d ∙ three x a b (c ++ d)

pub paired_line : (seen : List Event) (names : List (List ℕ)) (t pair address i j : ℕ) (low high : Id) → IsKnown seen names i low → IsKnown seen names j high
    → what_text seen names t (what.Pair pair address i j) ≡ row_text (record { turn = t; says = Paired pair address low high })
paired_line seen names t pair address i j low high l h =
    ap (λ x. codes "pair " ++ decimal pair ++ field (codes "turn") (decimal t) ++ field (codes "address") (address_text address) ++ field (codes "low") x ++ field (codes "high") (instance_text seen names j)) l
    ∙ ap (λ x. codes "pair " ++ decimal pair ++ field (codes "turn") (decimal t) ++ field (codes "address") (address_text address) ++ field (codes "low") (id_text low) ++ field (codes "high") x) h
    ∙ ap (λ l. codes "pair " ++ l) (four (decimal pair) (field (codes "turn") (decimal t)) (field (codes "address") (address_text address)) (field (codes "low") (id_text low)) (field (codes "high") (id_text high)))

-- those who passed a use are told as the row tells them
pub used_line : (seen : List Event) (names : List (List ℕ)) (t pair test : ℕ) (low high : Bool) (first : Id) (second : Option Id)
    → survivors_of seen names (first_told (making_of_pair pair) seen) low high ≡ left_text first second
    → what_text seen names t (what.Tried pair test low high) ≡ row_text (record { turn = t; says = Used pair test first second })
used_line seen names t pair test low high first second left =
    ap (λ s. codes "use " ++ decimal pair ++ field (codes "turn") (decimal t) ++ field (codes "test") (test_text test) ++ field (codes "left") s) left
    ∙ ap (λ l. codes "use " ++ l) (three (decimal pair) (field (codes "turn") (decimal t)) (field (codes "test") (test_text test)) (field (codes "left") (left_text first second)))

-- who passed, where the pair's two are known
pub survivors_line : (seen : List Event) (names : List (List ℕ)) (o : Option (ℕ × ℕ)) (i j : ℕ) (a b : Id) → o ≡ Some (i, j) → IsKnown seen names i a → IsKnown seen names j b
    → (survivors_of seen names o true true ≡ left_text a (Some b)) × (survivors_of seen names o true false ≡ left_text a None) × (survivors_of seen names o false true ≡ left_text b None)
survivors_line seen names o i j a b known l h = (
  ap (λ p. survivors_of seen names p true true) known ∙ ap (λ x. x ++ codes "," ++ instance_text seen names j) l ∙ ap (λ x. id_text a ++ codes "," ++ x) h,
  ap (λ p. survivors_of seen names p true false) known ∙ l,
  ap (λ p. survivors_of seen names p false true) known ∙ h,
)
