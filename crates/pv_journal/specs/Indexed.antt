-- Bridges from the indices of instances to their list.
use Rattle.std.specs.Prelude.{◌≡◌, ℕ, ◌+◌, ◌^◌, ◌<◌, ◌≤◌, max, true, false, ◌==◌, ◌⊎◌, List, [], ◌∷◌, Option, Some, if◌then◌else◌, slice_get, sum_by}
use Rattle.std.specs.Ordering.{nat_cmp}
use Rattle.std.specs.Map.{lookup}
use Rattle.std.specs.BTreeMap.{is_at}
use Rattle.std.specs.List.{list_all, list_any}
use Rattle.pv_journal.specs.Keyed.{exceeded_by, shares_bytes, live_size}
use Rattle.pv_journal.specs.declared.line.Key.{Key}
use Rattle.pv_journal.specs.declared.held.Held.{Held}

-- the memory model: what an ordered map of beginnings and ends says of an address
abbrev pub said_at : List (ℕ × ℕ) → ℕ → Option ℕ
said_at es q = lookup (is_at (nat_cmp q)) es

-- the memory model: the greatest number of a name, 0 where no instance has it
abbrev pub greatest_number : ℕ → List Held → ℕ
greatest_number n [] = 0
greatest_number n (h ∷ hs) = if h.key.name == n then max h.key.k (greatest_number n hs) else greatest_number n hs

-- the memory model: no two instances have one name and one number
abbrev pub AreDistinct : List Held → Type 0
AreDistinct xs = (j k : ℕ) (x y : Held) → j < k → slice_get xs j ≡ Some x → slice_get xs k ≡ Some y → x.key ≡ y.key → ⊥

-- 6.2.4p2: a live instance begins and ends here
pub record Stands (xs : List Held) (b e : ℕ) : Type 0 where
  pub place : ℕ
  pub inst : Held
  pub is : slice_get xs place ≡ Some inst
  pub live : inst.live ≡ true
  pub base : inst.base ≡ b
  pub end : inst.base + inst.size ≡ e

-- 6.2.4p2: the entries are where live instances begin and end; these have bytes and share none
pub record AreLiving (xs : List Held) (es : List (ℕ × ℕ)) : Type 0 where
  pub there : (k : ℕ) (x : Held) → slice_get xs k ≡ Some x → x.live ≡ true → said_at es x.base ≡ Some (x.base + x.size)
  pub only : (b e : ℕ) → said_at es b ≡ Some e → Stands xs b e
  pub some : (k : ℕ) (x : Held) → slice_get xs k ≡ Some x → 1 ≤ x.size
  pub apart : (j k : ℕ) (x y : Held) → (j ≡ k → ⊥) → slice_get xs j ≡ Some x → slice_get xs k ≡ Some y → x.live ≡ true → y.live ≡ true
      → (x.base + x.size ≤ y.base) ⊎ (y.base + y.size ≤ x.base)

-- the memory model: what is kept beside the instances: the sum of the live bytes, the greatest number of each name, where live ones begin and end
pub record AreIndexed (xs : List Held) (live : ℕ) (top : ℕ → ℕ) (es : List (ℕ × ℕ)) : Type 0 where
  pub sum : live ≡ sum_by live_size xs
  pub tops : (n : ℕ) → top n ≡ greatest_number n xs
  pub distinct : AreDistinct xs
  pub living : AreLiving xs es

-- 6.2.4p2, the memory model: an instance that may be made
pub record IsFree (xs : List Held) (key : Key) (base size : ℕ) : Type 0 where
  pub number : 1 ≤ key.k
  pub exceeds : list_all (exceeded_by key) xs ≡ true
  pub some : 1 ≤ size
  pub end : base + size ≤ 2 ^ 47
  pub apart : list_any (shares_bytes base size) xs ≡ false
  pub few : sum_by live_size xs + size ≤ 2 ^ 24
