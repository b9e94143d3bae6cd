-- A bridge: how the code keeps its pages: page k in bucket k % 256, or in a map if that was taken. What is promised is said of the map that the
-- pages are (6.2.6.1p2).
use Rattle.std.specs.Prelude.{◌≡◌, ℕ, ◌+◌, ◌%◌, ◌==◌, List, [], ◌∷◌, Option, Some, None, IsSome, if◌then◌else◌, cond, slice_index_or}
use Rattle.std.specs.Ordering.{nat_cmp}
use Rattle.std.specs.Map.{lookup}
use Rattle.std.specs.BTreeMap.{is_at}
use Rattle.std.specs.Borrow.{Fml, MutBor, Lends, LendsSo}
use Rattle.std.specs.Vec.{with_item}
use Rattle.pv_shadow.specs.declared.byte.Byte.{Byte}
use Rattle.pv_shadow.specs.declared.table.Bucket.{Bucket}
use Rattle.pv_shadow.specs.declared.table.Bucket.TheVariants.{Free, Taken}
use Rattle.pv_shadow.specs.declared.table.Pages.{Pages}
use Rattle.pv_shadow.specs.contracts.table.Bucket as bucket
use Rattle.pv_shadow.specs.contracts.table.Pages as pages
use Rattle.pv_shadow.specs.contracts.page.Page as page

-- the page that a bucket has for a number
abbrev pub page_in : Bucket → ℕ → Option (List (Option Byte))
page_in Free k = None
page_in (Taken n xs) k = if n == k then Some xs else None

-- the bucket with another page under the same number
abbrev pub with_page_in : Bucket → List (Option Byte) → Bucket
with_page_in Free xs = Free
with_page_in (Taken n _) xs = Taken n xs

-- bucket i counts where it has a page whose number tells it
abbrev pub by_bucket : ℕ → Bucket → List (ℕ × List (Option Byte)) → List (ℕ × List (Option Byte))
by_bucket i Free es = es
by_bucket i (Taken n xs) es = if n % 256 == i then (n, xs) ∷ es else es

-- the pages of the buckets from number i on, and behind them the others
abbrev pub by_buckets : ℕ → List Bucket → List (ℕ × List (Option Byte)) → List (ℕ × List (Option Byte))
by_buckets i [] es = es
by_buckets i (w ∷ ws) es = by_bucket i w (by_buckets (i + 1) ws es)

-- all pages
abbrev pub all_pages : Pages → List (ℕ × List (Option Byte))
all_pages p = by_buckets 0 p.buckets.items p.overflow.entries

-- the page with a number, if there is one
abbrev pub page_said : List (ℕ × List (Option Byte)) → ℕ → Option (List (Option Byte))
page_said es k = lookup (is_at (nat_cmp k)) es

-- fs says w at k, and at all other numbers what es says
abbrev pub SaysAt : (es fs : List (ℕ × List (Option Byte))) → ℕ → Option (List (Option Byte)) → Type 0
SaysAt es fs k w = (q : ℕ) → page_said fs q ≡ cond (is_at (nat_cmp k) q) w (page_said es q)

-- the page with a number, if it stands in its bucket
abbrev pub near_in : Pages → ℕ → Option (List (Option Byte))
near_in p k = page_in (slice_index_or p.buckets.items (k % 256) Free) k

-- the pages with another one in the bucket of this number
abbrev pub with_near : Pages → ℕ → List (Option Byte) → Pages
with_near p k xs = record p { buckets = with_item p.buckets (k % 256) (with_page_in (slice_index_or p.buckets.items (k % 256) Free) xs) }

-- the bucket ends with the last page behind r
abbrev pub LendsBucket : MutBor Bucket → MutBor (List (Option Byte)) → Fml
LendsBucket s r = Lends bucket.the_row page.the_row s r (with_page_in s.now)

-- the pages end with the last page behind r in the bucket of this number
abbrev pub LendsNear : MutBor Pages → ℕ → MutBor (List (Option Byte)) → Fml
LendsNear s k r = Lends pages.the_row page.the_row s r (with_near s.now k)

-- a page that is there ends as the last page behind r, and nothing else is said of any number; at `None` nothing changes
abbrev pub LendsPage : MutBor Pages → ℕ → Option (MutBor (List (Option Byte))) → Fml
LendsPage s k r = LendsSo pages.the_row page.the_row s r
    (λ n w. IsSome (page_said (all_pages s.now) k) → SaysAt (all_pages s.now) (all_pages n) k (Some w))
    (λ n. all_pages n ≡ all_pages s.now)
