-- A source gets one answer.
use Rattle.std.proofs.Common.{◌≡◌, inl, inr, ℕ, ◌<◌, ◌≤◌, List, [], length, refl, sym, ap, ◌∙◌, subst, arith}
use Rattle.std.proofs.lemmas.Bool.{cases_lt}
use Rattle.pv_serve.specs.Verdicts.{Refusal, Size}
use Rattle.pv_serve.specs.Readings.{Reading, Program, Bad}
use Rattle.pv_serve.specs.Comes.{source_limit, Reads, Long, Short}
use Rattle.pv_serve.specs.Replies.{Reply}
use Rattle.pv_serve.proofs.ComesLemmas.{comes_to_one, comes_to_some}
use Rattle.pvwhere.specs.Places.{first_bytes, IsPlace}
use Rattle.pvwhere.specs.Answers.{nothing_told, refused_at, Gets, Nothing, ItsPlace}
use Rattle.pvwhere.proofs.PlaceLemmas.{some_place, one_place}

reads_one : (source : List ℕ) (r s : Reading) → Reads source r → Reads source s → r ≡ s
reads_one source r s (Long a e) (Long b f) = e ∙ sym f
reads_one source r s (Long a e) (Short b d) = absurd (omega (arith, a, b))
reads_one source r s (Short a c) (Long b f) = absurd (omega (arith, a, b))
reads_one source r s (Short a c) (Short b d) = comes_to_one source r s c d

reads_some : (source : List ℕ) → (r : Reading) × Reads source r
reads_some source = elim (cases_lt source_limit (length source)) [
  | inl long ↦ (Bad Size, Long long refl)
  | inr short ↦ let c = comes_to_some source in (c.0, Short (omega arith) c.1)
]

same_refusal : (r s : Refusal) → Bad r ≡ Bad s → r ≡ s
same_refusal r s e = cc

pub one_answer : (name source : List ℕ) (a b : Reply) → Gets name source a → Gets name source b → a ≡ b
one_answer name source a b (Nothing u reads e) (Nothing v others f) = e ∙ sym f
one_answer name source a b (Nothing u reads e) (ItsPlace r p others is f) =
    let same = reads_one source (Program u) (Bad r) reads others in absurd cc
one_answer name source a b (ItsPlace r p reads is e) (Nothing v others f) =
    let same = reads_one source (Bad r) (Program v) reads others in absurd cc
one_answer name source a b (ItsPlace r p reads is e) (ItsPlace s q others at f) =
    let same = same_refusal r s (reads_one source (Bad r) (Bad s) reads others) in
    let place = one_place (first_bytes source) s p q (subst (λ (x : Refusal). IsPlace (first_bytes source) x p) same is) at in
    e ∙ ap (λ (x : Refusal). refused_at name source x p) same ∙ ap (λ (n : ℕ). refused_at name source s n) place ∙ sym f

gets_by : (name source : List ℕ) (r : Reading) → Reads source r → (reply : Reply) × Gets name source reply
gets_by name source (Program unit) reads = (nothing_told, Nothing unit reads refl)
gets_by name source (Bad refusal) reads =
    let g = some_place (first_bytes source) refusal (record { source = source; reads = reads; are = refl }) in
    (refused_at name source refusal g.place, ItsPlace refusal g.place reads g.is refl)

pub some_answer : (name source : List ℕ) → (reply : Reply) × Gets name source reply
some_answer name source = let r = reads_some source in gets_by name source r.0 r.1
