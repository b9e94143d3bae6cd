-- Punctuators of one byte, with which nothing else begins.
use Rattle.std.proofs.Common.{◌≡◌, ℕ, ◌<◌, Bool, List, [], ◌∷◌, length, get_or, drop, sym, subst, arith}
use Rattle.pv_token.specs.declared.marks.Mark.{Mark}
use Rattle.pv_token.specs.Said.{Punctuator}
use Rattle.pv_lex.specs.Pieces.{Here, token}
use Rattle.pv_lex.specs.Stands.{stands}

pub stands_alone : (k : ℕ) (m : Mark) (b : ℕ) → b ≡ k → ((fresh : Bool) (rest : List ℕ) → stands fresh (k ∷ rest) ≡ Here (token (Punctuator m) rest)) → (fresh : Bool) (rest : List ℕ) → stands fresh (b ∷ rest) ≡ Here (token (Punctuator m) rest)
stands_alone k m b e h = λ fresh rest. subst (λ (x : ℕ). stands fresh (x ∷ rest) ≡ Here (token (Punctuator m) rest)) (sym e) (h fresh rest)

-- at the front of a text
pub front_alone : (text after : List ℕ) (m : Mark) → 0 < length text → after ≡ drop 1 text → ((fresh : Bool) (rest : List ℕ) → stands fresh (get_or text 0 0 ∷ rest) ≡ Here (token (Punctuator m) rest)) → (fresh : Bool) → stands fresh text ≡ Here (token (Punctuator m) after)
front_alone [] after m some e h = absurd (omega (arith, some))
front_alone (b ∷ bs) after m some e h = λ fresh. subst (λ (r : List ℕ). stands fresh (b ∷ bs) ≡ Here (token (Punctuator m) r)) (sym e) (h fresh bs)
