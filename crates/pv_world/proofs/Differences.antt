-- A difference in bytes is always whole: so what two pointers settle to is known before elements are counted.
use Rattle.std.proofs.Common.{◌≡◌, ℕ, suc, ◌/◌, ◌%◌, ℤ, pos, negsuc, ◌-ℤ◌, neg_ℤ, List, ◌++◌, Some, None, Result, Ok, Err, refl, ap, ◌∙◌, arith}
use Rattle.std.proofs.lemmas.List.{append-nil}
use Rattle.std.specs.Prelude.{int_div, int_rem}
use Rattle.pv_inst.specs.declared.values.Tried.{Tried}
use Rattle.pv_inst.specs.Table.{Table}
use Rattle.pv_object.specs.declared.values.Pointer.{Pointer}
use Rattle.pv_object.specs.declared.values.Stop.{Stop}
use Rattle.pv_object.specs.Answers.{subtract_by}
use Rattle.pv_watch.specs.declared.event.What.{What}
use Rattle.pv_world.specs.Worlds.{World, with_table}
use Rattle.pv_world.specs.Telling.{both_used, fault_told}
use Rattle.pv_world.specs.Worths.{int, wrong_of}
use Rattle.pv_world.specs.Pointers.{in_elements, between_by}
use Rattle.pv_world.specs.PointerParts.{uneven}
use Rattle.pv_world.specs.Coming.{coming_of, Gave, Ended}

rem_one : (d : ℤ) → int_rem d (pos 1) ≡ pos 0
rem_one (pos a) = let e : a % 1 ≡ 0 = omega arith in ap pos e
rem_one (negsuc a) = let e : suc a % 1 ≡ 0 = omega arith in ap (λ n. neg_ℤ (pos n)) e

div_one : (d : ℤ) → int_div d (pos 1) ≡ d
div_one (pos a) = let e : a / 1 ≡ a = omega arith in ap pos e
div_one (negsuc a) = let e : suc a / 1 ≡ suc a = omega arith in ap (λ n. neg_ℤ (pos n)) e

in_bytes : (p q : Pointer) (both : Tried × Tried) → subtract_by p q 1 (Ok both) ≡ Ok (pos p.address -ℤ pos q.address, both.0, both.1)
in_bytes p q both = rw (rem_one (pos p.address -ℤ pos q.address), div_one (pos p.address -ℤ pos q.address)) refl

-- what the difference in bytes tells of the two
parted : (p q : Pointer) (both : Tried × Tried) (x : ℤ × Tried × Tried) → Ok x ≡ subtract_by p q 1 (Ok both) → (x.1 ≡ both.0) × (x.2 ≡ both.1)
parted p q both x h =
    let e : Ok x ≡ Ok (pos p.address -ℤ pos q.address, both.0, both.1) = h ∙ in_bytes p q both in
    (let f = e in cc, let f = e in cc)

-- the elements are whole
pub whole : (w v : World) (p q : Pointer) (size : ℕ) (x : ℤ × Tried × Tried) (n : ℤ) (es fs : List What) (c : Result (Tried × Tried) Stop × Table)
    → Ok x ≡ subtract_by p q 1 c.0 → v ≡ with_table w c.1 → fs ≡ es ++ both_used x.1 x.2 → Some n ≡ in_elements (pos p.address -ℤ pos q.address) size
    → coming_of es w (between_by size p q w c) ≡ Gave (int n) v fs
whole w v p q size x n es fs (Ok both, T) h vs ts ns =
    let k = parted p q both x h in
    rw (← ns, vs, ts, k.0, k.1) refl
whole w v p q size x n es fs (Err y, T) h vs ts ns = absurd cc

-- they aren't
pub no_whole : (w v : World) (p q : Pointer) (size : ℕ) (x : ℤ × Tried × Tried) (es fs : List What) (c : Result (Tried × Tried) Stop × Table)
    → Ok x ≡ subtract_by p q 1 c.0 → v ≡ with_table w c.1 → fs ≡ es ++ both_used x.1 x.2 → None ≡ in_elements (pos p.address -ℤ pos q.address) size
    → coming_of es w (between_by size p q w c) ≡ Ended uneven v (fs ++ fault_told w.memory uneven (Some p.prov))
no_whole w v p q size x es fs (Ok both, T) h vs ts ns =
    let k = parted p q both x h in
    rw (← ns, vs, ts, k.0, k.1) refl
no_whole w v p q size x es fs (Err y, T) h vs ts ns = absurd cc

-- the two have nothing in common
pub apart : (w v : World) (p q : Pointer) (size : ℕ) (y : Stop) (es : List What) (c : Result (Tried × Tried) Stop × Table)
    → Err y ≡ subtract_by p q 1 c.0 → v ≡ with_table w c.1
    → coming_of es w (between_by size p q w c) ≡ Ended (wrong_of y) v (es ++ fault_told w.memory (wrong_of y) (Some p.prov))
apart w v p q size y es (Ok both, T) h vs = let k = h ∙ in_bytes p q both in absurd cc
apart w v p q size y es (Err z, T) h vs = let same : y ≡ z = cc in rw (same, vs) (ap (λ xs. Ended (wrong_of z) _ (xs ++ fault_told w.memory (wrong_of z) (Some p.prov))) (append-nil es))
