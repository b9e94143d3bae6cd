-- Reads that are noted together.
use Rattle.std.proofs.Common.{◌≡◌, ◌≤◌, ◌+◌, ◌-◌, ℕ, zero, suc, Bool, false, List, [], ◌∷◌, ◌++◌, length, take, replicate, reverse, get_or, if◌then◌else◌, sym, ap, subst, ◌∙◌, arith, append-nil, append_assoc, take_all}
use Rattle.std.proofs.lemmas.List.{length_push}
use Rattle.pv_seq.specs.Sequencing.{Access, Open, with_access}
use Rattle.pv_seq.specs.Rivals.{top, below}
use Rattle.pv_seq.specs.Frames.{row, foes_at, opens, open_nodes, AllRead, AreLastWrites, AreNested, HaveLoose, with_reads}
use Rattle.pv_seq.specs.declared.frames.Frame.{Frame}
use Rattle.pv_seq.specs.declared.index.Index.{Index}
use Rattle.pv_seq.specs.Found.{AreFound}
use Rattle.pv_seq.proofs.Nested.{no_frame, last_frame}
use Rattle.pv_seq.proofs.Nodes.{noted_frames, noted_kept, shown_inner}
use Rattle.pv_seq.proofs.Writes.{all_read_rest, last_pushed, read_behind}
use Rattle.pv_seq.proofs.Finding.{found_pushed}

-- ---- no access writes

all_read_take : (n : ℕ) (xs : List Access) → AllRead xs → AllRead (take n xs)
all_read_take zero xs h = tt
all_read_take (suc n) [] h = tt
all_read_take (suc n) (x ∷ xs) h = (h.0, all_read_take n xs h.1)

all_read_both : (xs ys : List Access) → AllRead xs → AllRead ys → AllRead (xs ++ ys)
all_read_both [] ys h k = k
all_read_both (x ∷ xs) ys h k = (h.0, all_read_both xs ys h.1 k)

all_read_foes : (xs : List Access) (n : ℕ) (fs : List Frame) → AllRead xs → AllRead (foes_at xs n fs)
all_read_foes xs n [] h = tt
all_read_foes xs zero (f ∷ fs) h = all_read_both (foes_at xs (length fs - f.older) fs) (row f.start f.end xs) (all_read_foes xs (length fs - f.older) fs h) (all_read_rest f.start (take f.end xs) (all_read_take f.end xs h))
all_read_foes xs (suc n) (f ∷ fs) h = all_read_foes xs n fs h

read_opens : (xs ls : List Access) (m n : ℕ) (fs : List Frame) → AllRead xs → AllRead (top (opens xs ls m n fs)).foes
read_opens xs ls m n [] h = tt
read_opens xs ls m n (f ∷ fs) h = all_read_foes xs 0 (f ∷ fs) h

pub top_reads : (xs ls : List Access) (frames : List Frame) (js : List Open) (last : ℕ) → open_nodes xs ls frames ≡ js → last ≡ 0 → AllRead (row last (length xs) xs) → AllRead (top js).foes
top_reads xs ls frames js last e none h =
    let all : AllRead xs = subst AllRead (take_all (length xs) xs (omega arith)) (subst (λ n. AllRead (row n (length xs) xs)) none h) in
    subst (λ (ks : List Open). AllRead (top ks).foes) e (read_opens xs ls (length xs) (length ls) (reverse frames) all)

-- ---- where the last write is

pub last_none : (xs : List Access) (lasts : List ℕ) → AreLastWrites xs lasts → length lasts ≡ 0 → (0 ≤ length xs) × AllRead (row 0 (length xs) xs)
last_none [] lasts h e = (omega arith, tt)
last_none (x ∷ xs) lasts h e = let same = h.0 in absurd (omega (arith, same, e))

pub last_some : (xs : List Access) (lasts : List ℕ) → AreLastWrites xs lasts → 1 ≤ length lasts → (get_or lasts (length lasts - 1) 0 ≤ length xs) × AllRead (row (get_or lasts (length lasts - 1) 0) (length xs) xs)
last_some xs lasts h some =
    let same = h.0 in
    let k : (length xs - 1) + 1 ≡ length xs = omega (arith, some, same) in
    let old = h.1 (length xs - 1) (omega (arith, some, same)) in
    let p = get_or lasts (length xs - 1) 0 in
    subst (λ n. (get_or lasts (n - 1) 0 ≤ length xs) × AllRead (row (get_or lasts (n - 1) 0) (length xs) xs)) (sym same)
    (subst (λ n. p ≤ n) k old.0, subst (λ n. AllRead (row p n xs)) k old.1)

-- ---- more reads

pub reads_pushed : (xs : List Access) (lasts : List ℕ) (p : ℕ) (more : List Access) → AreLastWrites xs lasts → p ≤ length xs → AllRead (row p (length xs) xs) → AllRead more → AreLastWrites (xs ++ more) (lasts ++ replicate (length more) p)
reads_pushed xs lasts p [] h le reads all = subst (λ ys. AreLastWrites ys (lasts ++ [])) (sym (append-nil xs)) (subst (AreLastWrites xs) (sym (append-nil lasts)) h)
reads_pushed xs lasts p (a ∷ more) h le reads all =
    let long = length_push xs a in
    let behind : AllRead (row p (length xs + 1) (xs ++ a ∷ [])) = read_behind xs a p all.0 le reads in
    subst (λ ys. AreLastWrites ys (lasts ++ p ∷ replicate (length more) p)) (append_assoc xs (a ∷ []) more)
    (subst (AreLastWrites ((xs ++ a ∷ []) ++ more)) (append_assoc lasts (p ∷ []) (replicate (length more) p))
    (reads_pushed (xs ++ a ∷ []) (lasts ++ p ∷ []) p more (last_pushed xs lasts a p h (omega (arith, le)) behind) (omega (arith, le, long)) (subst (λ n. AllRead (row p n (xs ++ a ∷ []))) (sym long) behind) all.1))

pub found_added : (x : Index) (xs more : List Access) → AreFound x xs → AreFound x (xs ++ more)
found_added x xs [] h = subst (AreFound x) (sym (append-nil xs)) h
found_added x xs (a ∷ more) h = subst (AreFound x) (append_assoc xs (a ∷ []) more) (found_added x (xs ++ a ∷ []) more (found_pushed x xs a h))

loose_same : (ls : List Access) (a : Access) → a.writes ≡ false → ls ≡ (if a.writes then ls ++ a ∷ [] else ls)
loose_same ls a read = sym (ap (λ (w : Bool). if w then ls ++ a ∷ [] else ls) read)

pub reads_kept : (xs ls more : List Access) (fs : List Frame) → AllRead more → AreNested (length xs) fs × HaveLoose (length ls) fs → AreNested (length (xs ++ more)) fs × HaveLoose (length ls) fs
reads_kept xs ls [] fs all h = subst (λ ys. AreNested (length ys) fs × HaveLoose (length ls) fs) (sym (append-nil xs)) h
reads_kept xs ls (a ∷ more) fs all h =
    subst (λ ys. AreNested (length ys) fs × HaveLoose (length ls) fs) (append_assoc xs (a ∷ []) more)
    (reads_kept (xs ++ a ∷ []) ls more fs all.1 (noted_kept xs ls ls a fs (loose_same ls a all.0) h))

-- a read of the node's own, and those behind it
read_first : (a : Access) (more : List Access) (j : Open) → a.writes ≡ false → with_reads more (with_access a j) ≡ with_reads (a ∷ more) j
read_first a more j read =
    ap (λ (ls : List Access). record { foes = j.foes; all = (j.all ++ a ∷ []) ++ more; loose = ls }) (sym (loose_same j.loose a read))
    ∙ ap (λ (qs : List Access). record { foes = j.foes; all = qs; loose = j.loose }) (append_assoc j.all (a ∷ []) more)

none_read : (js : List Open) (f : Open) (ks : List Open) → js ≡ (f ∷ ks) → js ≡ (with_reads [] (top js) ∷ below js)
none_read js f ks e =
    e ∙ ap (λ (qs : List Access). record { foes = f.foes; all = qs; loose = f.loose } ∷ ks) (sym (append-nil f.all)) ∙ ap (λ (is : List Open). with_reads [] (top is) ∷ below is) (sym e)

pub reads_frames : (xs ls more : List Access) (frames : List Frame) → 1 ≤ length frames → AllRead more → AreNested (length xs) (reverse frames) × HaveLoose (length ls) (reverse frames)
    → open_nodes (xs ++ more) ls frames ≡ with_reads more (top (open_nodes xs ls frames)) ∷ below (open_nodes xs ls frames)
reads_frames xs ls [] frames some all h =
    let f = get_or frames (length frames - 1) no_frame in
    let outer = reverse (take (length frames - 1) frames) in
    ap (λ (ys : List Access). open_nodes ys ls frames) (append-nil xs) ∙ none_read (open_nodes xs ls frames) _ _ (shown_inner xs ls frames f outer (last_frame frames no_frame some))
reads_frames xs ls (a ∷ more) frames some all h =
    let ys = xs ++ a ∷ [] in
    let js = open_nodes xs ls frames in
    let one : open_nodes ys ls frames ≡ with_access a (top js) ∷ below js = noted_frames xs ls ls a frames some h (loose_same ls a all.0) in
    ap (λ (zs : List Access). open_nodes zs ls frames) (sym (append_assoc xs (a ∷ []) more))
    ∙ reads_frames ys ls more frames some all.1 (noted_kept xs ls ls a (reverse frames) (loose_same ls a all.0) h)
    ∙ ap (λ (ks : List Open). with_reads more (top ks) ∷ below ks) one
    ∙ ap (λ (j : Open). j ∷ below js) (read_first a more (top js) all.0)
