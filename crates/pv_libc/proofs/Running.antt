-- Loops over characters: what is left of a definition, one step on.
use Rattle.std.proofs.Common.{rules, ◌≡◌, ℕ, suc, ◌+◌, ◌-◌, ◌<◌, true, false, not, cond, eqb, List, [], ◌∷◌, ◌++◌, length, Ok, Err, pos, sym, ap, ◌∙◌, subst, arith}
use Rattle.pv_object.specs.declared.values.Asker.{Asker}
use Rattle.pv_object.specs.declared.values.Asker.TheVariants.{Text}
use Rattle.pv_object.specs.declared.values.Stop.{Stop}
use Rattle.pv_object.specs.declared.values.Value.TheVariants as value
use Rattle.pv_libc.specs.declared.values.Given.{Given}
use Rattle.pv_libc.specs.declared.values.Reply.{Reply}
use Rattle.pv_libc.specs.declared.values.Reply.TheVariants as reply
use Rattle.pv_libc.specs.Steps.{Now, Did, answer_now, next}
use Rattle.pv_libc.specs.Answers.{OrNoMemory}
use Rattle.pv_libc.specs.Characters.{character_in, character_at, characters_from, string_from}
use Rattle.pv_libc.specs.Blocks.{sign_of}
use Rattle.pv_libc.specs.Strings.{compared_from}
use Rattle.pv_libc.specs.StringParts.{compared_by}
use Rattle.pv_libc.proofs.Steps.{next_is, or_stop}

left : (n i : ℕ) → i < n → n - i ≡ suc (n - (i + 1))
left n i l = omega (arith, l)

pub equal_is : (a b : ℕ) → a ≡ b → eqb a b ≡ true
equal_is a b e = search rules

pub by_different : (a b : ℕ) (S : Now) (rest : Did Reply) → eqb a b ≡ false → compared_by a b S rest ≡ answer_now (reply.Value (value.Int (sign_of a b))) S
by_different a b S rest e = ap (λ t. cond (not t) (answer_now (reply.Value (value.Int (sign_of a b))) S) (cond (eqb a 0) (answer_now (reply.Value (value.Int (pos 0))) S) rest)) e

pub by_zero : (a b : ℕ) (S : Now) (rest : Did Reply) → eqb a b ≡ true → eqb a 0 ≡ true → compared_by a b S rest ≡ answer_now (reply.Value (value.Int (pos 0))) S
by_zero a b S rest e f =
    ap (λ t. cond (not t) (answer_now (reply.Value (value.Int (sign_of a b))) S) (cond (eqb a 0) (answer_now (reply.Value (value.Int (pos 0))) S) rest)) e
    ∙ ap (λ t. cond t (answer_now (reply.Value (value.Int (pos 0))) S) rest) f

pub by_rest : (a b : ℕ) (S : Now) (rest : Did Reply) → eqb a b ≡ true → eqb a 0 ≡ false → compared_by a b S rest ≡ rest
by_rest a b S rest e f =
    ap (λ t. cond (not t) (answer_now (reply.Value (value.Int (sign_of a b))) S) (cond (eqb a 0) (answer_now (reply.Value (value.Int (pos 0))) S) rest)) e
    ∙ ap (λ t. cond t (answer_now (reply.Value (value.Int (pos 0))) S) rest) f

-- two strings, before character i of each
module _ (n i : ℕ) (p q : Given) (S : Now) (l : i < n) where
  abbrev rest : Now → Did Reply
  rest U = compared_from (n - (i + 1)) p q (i + 1) U

  compared_is : compared_from (n - i) p q i S ≡ next (character_at Text p i S) (λ a T. next (character_at Text q i T) (λ b U. compared_by a b U (rest U)))
  compared_is = ap (λ z. compared_from z p q i S) (left n i l)

  pub compared_left : (T : Now) (stop : Stop) → OrNoMemory {A = ℕ} (Err stop) T (character_at Text p i S) → OrNoMemory {A = Reply} (Err stop) T (compared_from (n - i) p q i S)
  compared_left T stop h =
      let P : Did Reply → Type 0 = λ d. OrNoMemory (Err stop) T d in
      subst P (sym compared_is) (or_stop stop T (character_at Text p i S) (λ a T. next (character_at Text q i T) (λ b U. compared_by a b U (rest U))) h)

  module _ (T : Now) (a : ℕ) (e : Ok a ≡ (character_at Text p i S).answer) (m : T ≡ (character_at Text p i S).after) where
    right_is : compared_from (n - i) p q i S ≡ next (character_at Text q i T) (λ b U. compared_by a b U (rest U))
    right_is = compared_is ∙ next_is (character_at Text p i S) a T (λ a T. next (character_at Text q i T) (λ b U. compared_by a b U (rest U))) e m

    pub compared_right : (U : Now) (stop : Stop) → OrNoMemory {A = ℕ} (Err stop) U (character_at Text q i T) → OrNoMemory {A = Reply} (Err stop) U (compared_from (n - i) p q i S)
    compared_right U stop h =
        let P : Did Reply → Type 0 = λ d. OrNoMemory (Err stop) U d in
        subst P (sym right_is) (or_stop stop U (character_at Text q i T) (λ b U. compared_by a b U (rest U)) h)

    pub compared_both : (U : Now) (b : ℕ) → Ok b ≡ (character_at Text q i T).answer → U ≡ (character_at Text q i T).after → compared_from (n - i) p q i S ≡ compared_by a b U (rest U)
    compared_both U b f o = right_is ∙ next_is (character_at Text q i T) b U (λ b U. compared_by a b U (rest U)) f o

-- a string, behind the characters read
module _ (n i : ℕ) (by : Asker) (g : Given) (read : List ℕ) (S : Now) (l : i < n) (count : length read ≡ i) where
  string_is : string_from (n - i) by g read S ≡ next (character_at by g i S) (λ c T. cond (eqb c 0) (answer_now read T) (string_from (n - (i + 1)) by g (read ++ c ∷ []) T))
  string_is =
      ap (λ z. string_from z by g read S) (left n i l)
      ∙ ap (λ j. next (character_at by g j S) (λ c T. cond (eqb c 0) (answer_now read T) (string_from (n - (i + 1)) by g (read ++ c ∷ []) T))) count

  pub string_stops : (T : Now) (stop : Stop) → OrNoMemory {A = ℕ} (Err stop) T (character_at by g i S) → OrNoMemory {A = List ℕ} (Err stop) T (string_from (n - i) by g read S)
  string_stops T stop h =
      let P : Did (List ℕ) → Type 0 = λ d. OrNoMemory (Err stop) T d in
      subst P (sym string_is) (or_stop stop T (character_at by g i S) (λ c T. cond (eqb c 0) (answer_now read T) (string_from (n - (i + 1)) by g (read ++ c ∷ []) T)) h)

  module _ (T : Now) (c : ℕ) (e : Ok c ≡ (character_at by g i S).answer) (m : T ≡ (character_at by g i S).after) where
    string_on : string_from (n - i) by g read S ≡ cond (eqb c 0) (answer_now read T) (string_from (n - (i + 1)) by g (read ++ c ∷ []) T)
    string_on = string_is ∙ next_is (character_at by g i S) c T (λ c T. cond (eqb c 0) (answer_now read T) (string_from (n - (i + 1)) by g (read ++ c ∷ []) T)) e m

    pub string_ends : eqb c 0 ≡ true → string_from (n - i) by g read S ≡ answer_now read T
    string_ends f = string_on ∙ ap (λ b. cond b (answer_now read T) (string_from (n - (i + 1)) by g (read ++ c ∷ []) T)) f

    pub string_next : eqb c 0 ≡ false → string_from (n - i) by g read S ≡ string_from (n - (i + 1)) by g (read ++ c ∷ []) T
    string_next f = string_on ∙ ap (λ b. cond b (answer_now read T) (string_from (n - (i + 1)) by g (read ++ c ∷ []) T)) f

-- characters in a row
module _ (n i a : ℕ) (g : Given) (read : List ℕ) (S : Now) (l : i < n) where
  characters_is : characters_from (n - i) g (a + i) read S ≡ next (character_in g (a + i) S) (λ c T. characters_from (n - (i + 1)) g (a + (i + 1)) (read ++ c ∷ []) T)
  characters_is =
      let place : a + i + 1 ≡ a + (i + 1) = omega arith in
      ap (λ z. characters_from z g (a + i) read S) (left n i l)
      ∙ ap (λ z. next (character_in g (a + i) S) (λ c T. characters_from (n - (i + 1)) g z (read ++ c ∷ []) T)) place

  pub characters_stop : (T : Now) (stop : Stop) → OrNoMemory {A = ℕ} (Err stop) T (character_in g (a + i) S) → OrNoMemory {A = List ℕ} (Err stop) T (characters_from (n - i) g (a + i) read S)
  characters_stop T stop h =
      let P : Did (List ℕ) → Type 0 = λ d. OrNoMemory (Err stop) T d in
      subst P (sym characters_is) (or_stop stop T (character_in g (a + i) S) (λ c T. characters_from (n - (i + 1)) g (a + (i + 1)) (read ++ c ∷ []) T) h)

  pub characters_next : (T : Now) (c : ℕ) → Ok c ≡ (character_in g (a + i) S).answer → T ≡ (character_in g (a + i) S).after → characters_from (n - i) g (a + i) read S ≡ characters_from (n - (i + 1)) g (a + (i + 1)) (read ++ c ∷ []) T
  characters_next T c e m = characters_is ∙ next_is (character_in g (a + i) S) c T (λ c T. characters_from (n - (i + 1)) g (a + (i + 1)) (read ++ c ∷ []) T) e m
