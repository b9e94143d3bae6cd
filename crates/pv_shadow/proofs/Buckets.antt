-- What pages in buckets and in a map say, and what a change of one of them leaves.
use Rattle.std.proofs.Common.{◌≡◌, ◌≢◌, ℕ, zero, suc, ◌+◌, ◌<◌, ◌%◌, Bool, true, false, cond, eqb, is_some, length, set, List, [], ◌∷◌, ◌++◌, Option, Some, None, IsSome, Result, Ok, Err, OnErr, refl, sym, ap, ◌∙◌, subst, ⊎_elim, arith, get_or}
use Rattle.std.proofs.lemmas.Bool.{false≢true}
use Rattle.std.proofs.lemmas.Bool.Decides.{nat_tests}
use Rattle.std.proofs.lemmas.List.{get_or-set_same, get_or-set_other, get_or_default}
use Rattle.std.specs.Prelude.{◌==◌, if◌then◌else◌}
use Rattle.std.specs.Vec.{with_item}
use Rattle.pv_shadow.specs.declared.byte.Byte.{Byte}
use Rattle.pv_shadow.specs.declared.table.Bucket.{Bucket}
use Rattle.pv_shadow.specs.declared.table.Bucket.TheVariants.{Free, Taken}
use Rattle.pv_shadow.specs.declared.table.Pages.{Pages}
use Rattle.pv_shadow.specs.Buckets.{page_in, with_page_in, with_near, by_bucket, by_buckets, page_said, SaysAt}
use Rattle.pv_shadow.proofs.Pages.{same_or_not, eq_true, eq_false}

-- the page that is there, or else another one
abbrev pub or_other : Option (List (Option Byte)) → Option (List (Option Byte)) → Option (List (Option Byte))
or_other None o = o
or_other (Some xs) o = Some xs

is_same : (n k : ℕ) → n ≡ k → (n == k) ≡ true
is_same n k h = let t : eqb n k ≡ true = grind (arith, nat_tests) in t

is_other : (n k : ℕ) → n ≢ k → (n == k) ≡ false
is_other n k h = let t : eqb n k ≡ false = grind (arith, nat_tests) in t

page_here : (n k : ℕ) (xs : List (Option Byte)) → n ≡ k → page_in (Taken n xs) k ≡ Some xs
page_here n k xs h = ap (λ b. if b then Some xs else None) (is_same n k h)

page_elsewhere : (n k : ℕ) (xs : List (Option Byte)) → n ≢ k → page_in (Taken n xs) k ≡ None
page_elsewhere n k xs h = ap (λ b. if b then Some xs else None) (is_other n k h)

abbrev kept_if : ℕ → List (Option Byte) → List (ℕ × List (Option Byte)) → Bool → List (ℕ × List (Option Byte))
kept_if n xs es b = if b then (n, xs) ∷ es else es

counts : (i n : ℕ) (xs : List (Option Byte)) (es : List (ℕ × List (Option Byte))) → n % 256 ≡ i → by_bucket i (Taken n xs) es ≡ (n, xs) ∷ es
counts i n xs es h = ap (kept_if n xs es) (is_same (n % 256) i h)

counts_not : (i n : ℕ) (xs : List (Option Byte)) (es : List (ℕ × List (Option Byte))) → n % 256 ≢ i → by_bucket i (Taken n xs) es ≡ es
counts_not i n xs es h = ap (kept_if n xs es) (is_other (n % 256) i h)

-- a page of another number says nothing
passed_by : (w : Bucket) (i k : ℕ) (es : List (ℕ × List (Option Byte))) → page_in w k ≡ None → page_said (by_bucket i w es) k ≡ page_said es k
passed_by Free i k es h = refl
passed_by (Taken n xs) i k es h = ⊎_elim
    (λ e. let P : Option (List (Option Byte)) → Type 0 = λ o. IsSome o in absurd (false≢true (subst P (sym (page_here n k xs e) ∙ h) refl)))
    (λ d. ⊎_elim
    (λ m. ap (λ fs. page_said fs k) (counts i n xs es m) ∙ ap (λ b. cond b (Some xs) (page_said es k)) (eq_false k n (λ e. d (sym e))))
    (λ m. ap (λ fs. page_said fs k) (counts_not i n xs es m))
    (same_or_not (n % 256) i))
    (same_or_not n k)

-- in its bucket a number finds the page, if it stands there
said_head : (w : Bucket) (i k : ℕ) (es : List (ℕ × List (Option Byte))) → k % 256 ≡ i → page_said (by_bucket i w es) k ≡ or_other (page_in w k) (page_said es k)
said_head Free i k es h = refl
said_head (Taken n xs) i k es h = ⊎_elim
    (λ e. ap (λ fs. page_said fs k) (counts i n xs es (ap (λ j. j % 256) e ∙ h)) ∙ ap (λ b. cond b (Some xs) (page_said es k)) (eq_true k n (sym e))
    ∙ sym (ap (λ o. or_other o (page_said es k)) (page_here n k xs e)))
    (λ d. passed_by (Taken n xs) i k es (page_elsewhere n k xs d) ∙ sym (ap (λ o. or_other o (page_said es k)) (page_elsewhere n k xs d)))
    (same_or_not n k)

-- and in no other
said_other : (w : Bucket) (i k : ℕ) (es : List (ℕ × List (Option Byte))) → k % 256 ≢ i → page_said (by_bucket i w es) k ≡ page_said es k
said_other Free i k es h = refl
said_other (Taken n xs) i k es h = ⊎_elim
    (λ m. ap (λ fs. page_said fs k) (counts i n xs es m) ∙ ap (λ b. cond b (Some xs) (page_said es k)) (eq_false k n (λ e. h (ap (λ j. j % 256) e ∙ m))))
    (λ m. ap (λ fs. page_said fs k) (counts_not i n xs es m))
    (same_or_not (n % 256) i)

behind : (ws : List Bucket) (i k : ℕ) (es : List (ℕ × List (Option Byte))) → k % 256 < i → page_said (by_buckets i ws es) k ≡ page_said es k
behind [] i k es h = refl
behind (w ∷ ws) i k es h = said_other w i k (by_buckets (i + 1) ws es) (λ e. omega arith) ∙ behind ws (i + 1) k es (omega arith)

bucket_says : (ws : List Bucket) (i k j : ℕ) (es : List (ℕ × List (Option Byte))) → k % 256 ≡ i + j → page_said (by_buckets i ws es) k ≡ or_other (page_in (get_or ws j Free) k) (page_said es k)
bucket_says [] i k j es h = refl
bucket_says (w ∷ ws) i k zero es h =
    said_head w i k (by_buckets (i + 1) ws es) (omega arith) ∙ ap (or_other (page_in w k)) (behind ws (i + 1) k es (omega arith))
bucket_says (w ∷ ws) i k (suc j) es h = said_other w i k (by_buckets (i + 1) ws es) (λ e. omega arith) ∙ bucket_says ws (i + 1) k j es (omega arith)

-- what is said of a number is what its bucket says, or else the others
pub says : (ws : List Bucket) (es : List (ℕ × List (Option Byte))) (k : ℕ) → page_said (by_buckets 0 ws es) k ≡ or_other (page_in (get_or ws (k % 256) Free) k) (page_said es k)
says ws es k = bucket_says ws 0 k (k % 256) es (omega arith)

-- a bucket that has a page is one of them
pub is_within : (ws : List Bucket) (j k : ℕ) → IsSome (page_in (get_or ws j Free) k) → j < length ws
is_within [] j k h = absurd (false≢true h)
is_within (w ∷ ws) zero k h = omega arith
is_within (w ∷ ws) (suc j) k h = let l = is_within ws j k h in omega (arith, l)

-- the bucket of one number has a page of no other
pub of_one : (w : Bucket) (k q : ℕ) → IsSome (page_in w k) → q ≢ k → page_in w q ≡ None
of_one Free k q h d = refl
of_one (Taken n xs) k q h d = ⊎_elim
    (λ e. page_elsewhere n q xs (λ f. d (sym f ∙ e)))
    (λ m. let P : Option (List (Option Byte)) → Type 0 = λ o. IsSome o in absurd (false≢true (subst P (page_elsewhere n k xs m) h)))
    (same_or_not n k)

pub with_in : (w : Bucket) (k : ℕ) (xs : List (Option Byte)) → IsSome (page_in w k) → page_in (with_page_in w xs) k ≡ Some xs
with_in Free k xs h = absurd (false≢true h)
with_in (Taken n ys) k xs h = ⊎_elim
    (λ e. page_here n k xs e)
    (λ m. let P : Option (List (Option Byte)) → Type 0 = λ o. IsSome o in absurd (false≢true (subst P (page_elsewhere n k ys m) h)))
    (same_or_not n k)

with_elsewhere : (w : Bucket) (k : ℕ) (xs : List (Option Byte)) (q : ℕ) → IsSome (page_in w k) → q ≢ k → page_in (with_page_in w xs) q ≡ page_in w q
with_elsewhere Free k xs q h d = refl
with_elsewhere (Taken n ys) k xs q h d =
    let P : Option (List (Option Byte)) → Type 0 = λ o. IsSome o in
    let there : IsSome (page_in (Taken n xs) k) = subst P (sym (with_in (Taken n ys) k xs h)) refl in
    of_one (Taken n xs) k q there d ∙ sym (of_one (Taken n ys) k q h d)

-- a bucket changes for one number
module _ (ws : List Bucket) (es : List (ℕ × List (Option Byte))) (k : ℕ) (w : Bucket) (within : k % 256 < length ws)
    (others : (q : ℕ) → q ≢ k → page_in w q ≡ page_in (get_or ws (k % 256) Free) q) where
  pub placed : (q : ℕ) → q % 256 ≡ k % 256 → page_said (by_buckets 0 (set ws (k % 256) w) es) q ≡ or_other (page_in w q) (page_said es q)
  placed q r = says (set ws (k % 256) w) es q
      ∙ ap (λ v. or_other (page_in v q) (page_said es q)) (ap (λ j. get_or (set ws (k % 256) w) j Free) r ∙ get_or-set_same ws (k % 256) w Free within)

  same_there : (q : ℕ) → q ≢ k → page_said (by_buckets 0 (set ws (k % 256) w) es) q ≡ page_said (by_buckets 0 ws es) q
  same_there q d = ⊎_elim
      (λ r. placed q r ∙ ap (λ o. or_other o (page_said es q)) (others q d ∙ ap (λ j. page_in (get_or ws j Free) q) (sym r)) ∙ sym (says ws es q))
      (λ r. says (set ws (k % 256) w) es q ∙ ap (λ v. or_other (page_in v q) (page_said es q)) (get_or-set_other ws (k % 256) (q % 256) w Free r) ∙ sym (says ws es q))
      (same_or_not (q % 256) (k % 256))

  pub bucket_changes : SaysAt (by_buckets 0 ws es) (by_buckets 0 (set ws (k % 256) w) es) k (or_other (page_in w k) (page_said es k))
  bucket_changes = λ q. ⊎_elim
      (λ e. ap (page_said (by_buckets 0 (set ws (k % 256) w) es)) e ∙ placed k refl
      ∙ sym (ap (λ b. cond b (or_other (page_in w k) (page_said es k)) (page_said (by_buckets 0 ws es) q)) (eq_true k q (sym e))))
      (λ d. same_there q d ∙ sym (ap (λ b. cond b (or_other (page_in w k) (page_said es k)) (page_said (by_buckets 0 ws es) q)) (eq_false k q (λ e. d (sym e)))))
      (same_or_not q k)

-- the others change for one number, which has no page in its bucket
pub others_change : (ws : List Bucket) (es fs : List (ℕ × List (Option Byte))) (k : ℕ) (v : Option (List (Option Byte))) → page_in (get_or ws (k % 256) Free) k ≡ None
    → SaysAt es fs k v → SaysAt (by_buckets 0 ws es) (by_buckets 0 ws fs) k v
others_change ws es fs k v none is = λ q. ⊎_elim
    (λ e. says ws fs q ∙ ap (λ o. or_other o (page_said fs q)) (ap (λ j. page_in (get_or ws (j % 256) Free) j) e ∙ none) ∙ is q
    ∙ ap (λ b. cond b v (page_said es q)) (eq_true k q (sym e)) ∙ sym (ap (λ b. cond b v (page_said (by_buckets 0 ws es) q)) (eq_true k q (sym e))))
    (λ d. says ws fs q ∙ ap (or_other (page_in (get_or ws (q % 256) Free) q)) (is q ∙ ap (λ b. cond b v (page_said es q)) (eq_false k q (λ e. d (sym e))))
    ∙ sym (says ws es q) ∙ sym (ap (λ b. cond b v (page_said (by_buckets 0 ws es) q)) (eq_false k q (λ e. d (sym e)))))
    (same_or_not q k)

-- two changes for one number
pub then_says : (ds es fs : List (ℕ × List (Option Byte))) (k : ℕ) (u v : Option (List (Option Byte))) → SaysAt ds es k u → SaysAt es fs k v → SaysAt ds fs k v
then_says ds es fs k u v first second = λ q. ⊎_elim
    (λ e. second q ∙ ap (λ b. cond b v (page_said es q)) (eq_true k q (sym e)) ∙ sym (ap (λ b. cond b v (page_said ds q)) (eq_true k q (sym e))))
    (λ d. let n = eq_false k q (λ e. d (sym e)) in
    second q ∙ ap (λ b. cond b v (page_said es q)) n ∙ first q ∙ ap (λ b. cond b u (page_said ds q)) n ∙ sym (ap (λ b. cond b v (page_said ds q)) n))
    (same_or_not q k)

-- the page in a bucket becomes another one
pub near_changes : (ws : List Bucket) (es : List (ℕ × List (Option Byte))) (k : ℕ) (xs : List (Option Byte)) → IsSome (page_in (get_or ws (k % 256) Free) k)
    → SaysAt (by_buckets 0 ws es) (by_buckets 0 (set ws (k % 256) (with_page_in (get_or ws (k % 256) Free) xs)) es) k (Some xs)
near_changes ws es k xs there =
    let w = with_page_in (get_or ws (k % 256) Free) xs in
    let R : Option (List (Option Byte)) → Type 0 = λ v. SaysAt (by_buckets 0 ws es) (by_buckets 0 (set ws (k % 256) w) es) k v in
    subst R (ap (λ o. or_other o (page_said es k)) (with_in (get_or ws (k % 256) Free) k xs there))
    (bucket_changes ws es k w (is_within ws (k % 256) k there) (λ q d. with_elsewhere (get_or ws (k % 256) Free) k xs q there d))

-- a page comes to its free bucket
pub bucket_taken : (ws : List Bucket) (es : List (ℕ × List (Option Byte))) (k : ℕ) (xs : List (Option Byte)) → k % 256 < length ws → get_or ws (k % 256) Free ≡ Free
    → SaysAt (by_buckets 0 ws es) (by_buckets 0 (set ws (k % 256) (Taken k xs)) es) k (Some xs)
bucket_taken ws es k xs within free =
    let R : Option (List (Option Byte)) → Type 0 = λ v. SaysAt (by_buckets 0 ws es) (by_buckets 0 (set ws (k % 256) (Taken k xs)) es) k v in
    subst R (ap (λ o. or_other o (page_said es k)) (page_here k k xs refl))
    (bucket_changes ws es k (Taken k xs) within (λ q d. page_elsewhere k q xs (λ e. d (sym e)) ∙ sym (ap (λ w. page_in w q) free)))

-- a bucket is free again, and the others have no page of this number
pub bucket_left : (ws : List Bucket) (es fs : List (ℕ × List (Option Byte))) (k : ℕ) → IsSome (page_in (get_or ws (k % 256) Free) k) → SaysAt es fs k None
    → SaysAt (by_buckets 0 ws es) (by_buckets 0 (set ws (k % 256) Free) fs) k None
bucket_left ws es fs k there gone =
    let l = is_within ws (k % 256) k there in
    then_says (by_buckets 0 ws es) (by_buckets 0 (set ws (k % 256) Free) es) (by_buckets 0 (set ws (k % 256) Free) fs) k (page_said es k) None
    (bucket_changes ws es k Free l (λ q d. sym (of_one (get_or ws (k % 256) Free) k q there d)))
    (others_change (set ws (k % 256) Free) es fs k None (ap (λ w. page_in w k) (get_or-set_same ws (k % 256) Free Free l)) gone)

-- one free bucket more changes nothing
pub free_last : (ws : List Bucket) (i : ℕ) (es : List (ℕ × List (Option Byte))) → by_buckets i (ws ++ (Free ∷ [])) es ≡ by_buckets i ws es
free_last [] i es = refl
free_last (w ∷ ws) i es = ap (by_bucket i w) (free_last ws (i + 1) es)

-- what there is none of
pub is_none : (o : Option (List (Option Byte))) → is_some o ≡ false → o ≡ None
is_none None h = refl
is_none (Some xs) h = absurd (false≢true (sym h))

pub neither : (o p : Option (List (Option Byte))) → or_other o p ≡ None → o ≡ None
neither None p h = refl
neither (Some xs) p h = let P : Option (List (Option Byte)) → Type 0 = λ o. IsSome o in absurd (false≢true (subst P h refl))

or_there : (o p : Option (List (Option Byte))) → IsSome o → o ≡ or_other o p
or_there None p h = absurd (false≢true h)
or_there (Some xs) p h = refl

-- a page that stands in its bucket is what is said of its number
pub says_near : (ws : List Bucket) (es : List (ℕ × List (Option Byte))) (k : ℕ) → IsSome (page_in (get_or ws (k % 256) Free) k) → page_in (get_or ws (k % 256) Free) k ≡ page_said (by_buckets 0 ws es) k
says_near ws es k there = or_there (page_in (get_or ws (k % 256) Free) k) (page_said es k) there ∙ sym (says ws es k)

pub says_far : (ws : List Bucket) (es : List (ℕ × List (Option Byte))) (k : ℕ) → page_in (get_or ws (k % 256) Free) k ≡ None → page_said es k ≡ page_said (by_buckets 0 ws es) k
says_far ws es k none = ap (λ o. or_other o (page_said es k)) (sym none) ∙ sym (says ws es k)

-- a bucket that was asked for by its index
pub bucket_at : (ws : List Bucket) (i k : ℕ) (x : Bucket) → i ≡ k % 256 → x ≡ get_or ws i x → k % 256 < length ws → x ≡ get_or ws (k % 256) Free
bucket_at ws i k x e is within = is ∙ ap (λ j. get_or ws j x) e ∙ get_or_default ws (k % 256) x Free within

abbrev pub with_bucket : Pages → ℕ → Bucket → Pages
with_bucket p i w = record p { buckets = with_item p.buckets i w }

pub near_is : (p : Pages) (i k : ℕ) (x : Bucket) (xs : List (Option Byte)) → i ≡ k % 256 → x ≡ get_or p.buckets.items i x → IsSome (page_in (get_or p.buckets.items (k % 256) Free) k)
    → with_bucket p i (with_page_in x xs) ≡ with_near p k xs
near_is p i k x xs e is there =
    ap (λ j. with_bucket p j (with_page_in x xs)) e
    ∙ ap (λ v. with_bucket p (k % 256) (with_page_in v xs)) (bucket_at p.buckets.items i k x e is (is_within p.buckets.items (k % 256) k there))

pub taken_is : (n k : ℕ) (xs : List (Option Byte)) → IsSome (page_in (Taken n xs) k) → page_in (Taken n xs) k ≡ Some xs
taken_is n k xs there = with_in (Taken n xs) k xs there

-- the same, asked of a slice of the buckets
pub bucket_there : (ws vs : List Bucket) (i k : ℕ) (x : Bucket) → vs ≡ ws → i ≡ k % 256 → x ≡ get_or vs i Free → x ≡ get_or ws (k % 256) Free
bucket_there ws vs i k x same e is = is ∙ ap (λ us. get_or us i Free) same ∙ ap (λ j. get_or ws j Free) e

-- a new page comes to its free bucket, or to the others, after free buckets were made
pub comes_near : (ds es : List (ℕ × List (Option Byte))) (ws : List Bucket) (i k : ℕ) (w : Bucket) (xs : List (Option Byte)) → by_buckets 0 ws es ≡ ds → i ≡ k % 256 → w ≡ Taken k xs
    → k % 256 < length ws → get_or ws (k % 256) Free ≡ Free → SaysAt ds (by_buckets 0 (set ws i w) es) k (Some xs)
comes_near ds es ws i k w xs same e taken within free =
    let P : ℕ → Type 0 = λ j. SaysAt (by_buckets 0 ws es) (by_buckets 0 (set ws j (Taken k xs)) es) k (Some xs) in
    let Q : Bucket → Type 0 = λ v. SaysAt (by_buckets 0 ws es) (by_buckets 0 (set ws i v) es) k (Some xs) in
    let R : List (ℕ × List (Option Byte)) → Type 0 = λ fs. SaysAt fs (by_buckets 0 (set ws i w) es) k (Some xs) in
    subst R same (subst Q (sym taken) (subst P (sym e) (bucket_taken ws es k xs within free)))

pub comes_farther : (ds es fs : List (ℕ × List (Option Byte))) (ws : List Bucket) (k : ℕ) (xs : List (Option Byte)) → by_buckets 0 ws es ≡ ds → page_said ds k ≡ None
    → SaysAt es fs k (Some xs) → SaysAt ds (by_buckets 0 ws fs) k (Some xs)
comes_farther ds es fs ws k xs same new is =
    let R : List (ℕ × List (Option Byte)) → Type 0 = λ gs. SaysAt gs (by_buckets 0 ws fs) k (Some xs) in
    let nothing = neither (page_in (get_or ws (k % 256) Free) k) (page_said es k) (sym (says ws es k) ∙ ap (λ gs. page_said gs k) same ∙ new) in
    subst R same (others_change ws es fs k (Some xs) nothing is)

-- what holds anyway holds of an error
pub at_err : {T E : Type 0} (P : Type 0) (r : Result T E) → P → OnErr r P
at_err P (Ok x) h = tt
at_err P (Err e) h = h

-- a page goes from its bucket, and the others have none of its number
pub goes_near : (ws : List Bucket) (es fs : List (ℕ × List (Option Byte))) (i k : ℕ) (w : Bucket) → i ≡ k % 256 → w ≡ Free → IsSome (page_in (get_or ws (k % 256) Free) k) → SaysAt es fs k None
    → SaysAt (by_buckets 0 ws es) (by_buckets 0 (set ws i w) fs) k None
goes_near ws es fs i k w e free there gone =
    let P : ℕ → Type 0 = λ j. SaysAt (by_buckets 0 ws es) (by_buckets 0 (set ws j Free) fs) k None in
    let Q : Bucket → Type 0 = λ v. SaysAt (by_buckets 0 ws es) (by_buckets 0 (set ws i v) fs) k None in
    subst Q (sym free) (subst P (sym e) (bucket_left ws es fs k there gone))
