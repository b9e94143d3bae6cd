-- A bridge: which provenance names were made, and which of a pair's instances one stands for.
use Rattle.std.specs.Prelude.{◌≤◌, List, length, ℕ, ◌++◌, option_to_list, IsTrue, IfSome}
use Rattle.pv_prov.specs.declared.pairs.Twin.{Twin}
use Rattle.pv_prov.specs.declared.names.Prov.{Prov}
use Rattle.pv_prov.specs.declared.names.Prov.TheVariants.{Pair}
use Rattle.pv_prov.specs.Names.{stands, twin_at}

-- the memory model: the pair that a provenance name numbers was made
abbrev pub IsMade : List Twin → Prov → Type 0
IsMade pairs (Pair k) = (1 ≤ k) × (k ≤ length pairs)
IsMade pairs _ = Unit {0}

-- the memory model: the candidates in order, the low one first
abbrev pub candidates : List Twin → Prov → List ℕ
candidates pairs p = let s = stands pairs p in option_to_list s.low ++ option_to_list s.high

-- the memory model: pair k keeps its low one, the instance that ends at its address
abbrev pub Stands_low : List Twin → ℕ → Type 0
Stands_low pairs k = IfSome (twin_at pairs k) (λ t. IsTrue t.keeps_low)

-- the memory model: pair k keeps its high one, the instance that begins there
abbrev pub Stands_high : List Twin → ℕ → Type 0
Stands_high pairs k = IfSome (twin_at pairs k) (λ t. IsTrue t.keeps_high)
