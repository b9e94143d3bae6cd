-- One step behind another, where a step may find no memory.
use Rattle.std.proofs.Common.{◌≡◌, ℕ, Bool, false, cond, List, ◌++◌, Result, Ok, Err, refl, sym, ap, subst}
use Rattle.pv_fault.specs.declared.faults.Clause.TheVariants.{Reallocating}
use Rattle.pv_object.specs.declared.values.Stop.{Stop}
use Rattle.pv_object.specs.declared.values.Stop.TheVariants.{Ends, NoMemory}
use Rattle.pv_object.specs.Memory.{Mem}
use Rattle.pv_object.specs.Access.{is_null}
use Rattle.pv_libc.specs.declared.values.Note.{Note}
use Rattle.pv_libc.specs.declared.values.Given.{Given}
use Rattle.pv_libc.specs.declared.values.Reply.{Reply}
use Rattle.pv_libc.specs.Heap.{block, realloc, resize_of, malloc}
use Rattle.pv_libc.specs.Steps.{Now, Did, next, next_by, with_notes}
use Rattle.pv_libc.specs.Answers.{OrNoMemory, behind}

-- equations are enough
pub or_is : {A : Type 0} (r : Result A Stop) (S : Now) (d : Did A) → r ≡ d.answer → S ≡ d.after → OrNoMemory r S d
or_is (Ok a) S d e m = (e, m)
or_is (Err NoMemory) S d e m = tt
or_is (Err (Ends v)) S d e m = (e, m)

-- a step that answers goes on
pub next_is : {A B : Type 0} (d : Did A) (a : A) (S : Now) (rest : A → Now → Did B) → Ok a ≡ d.answer → S ≡ d.after → next d rest ≡ rest a S
next_is {A} {B} d a S rest e m =
    let P : Result A Stop → Type 0 = λ r. next_by r d rest ≡ rest a S in
    subst P e (ap (λ T. rest a T) (sym m))

pub or_next : {A B : Type 0} (r : Result B Stop) (T : Now) (d : Did A) (a : A) (S : Now) (rest : A → Now → Did B) → Ok a ≡ d.answer → S ≡ d.after → OrNoMemory r T (rest a S) → OrNoMemory r T (next d rest)
or_next {A} {B} r T d a S rest e m h =
    let P : Did B → Type 0 = λ w. OrNoMemory r T w in
    subst P (sym (next_is d a S rest e m)) h

stopped_by : {A B : Type 0} (stop : Stop) (S : Now) (d : Did A) (rest : A → Now → Did B) → Err stop ≡ d.answer → S ≡ d.after → (Err stop ≡ (next d rest).answer) × (S ≡ (next d rest).after)
stopped_by {A} {B} stop S d rest e m =
    let P : Result A Stop → Type 0 = λ r. (Err stop ≡ (next_by r d rest).answer) × (S ≡ (next_by r d rest).after) in
    subst P e (refl, m)

-- one that stops ends all
pub or_stop : {A B : Type 0} (stop : Stop) (S : Now) (d : Did A) (rest : A → Now → Did B) → OrNoMemory {A = A} (Err stop) S d → OrNoMemory {A = B} (Err stop) S (next d rest)
or_stop NoMemory S d rest h = tt
or_stop (Ends v) S d rest h = stopped_by (Ends v) S d rest h.0 h.1

-- the same with notes before
pub or_behind : {A : Type 0} (r : Result A Stop) (M : Mem) (before notes : List Note) (d : Did A) → OrNoMemory r (with_notes M notes) d → OrNoMemory r (with_notes M (before ++ notes)) (behind before d)
or_behind (Ok a) M before notes d h = (h.0, ap (λ (S : Now). record S { notes = before ++ S.notes }) h.1)
or_behind (Err NoMemory) M before notes d h = tt
or_behind (Err (Ends v)) M before notes d h = (h.0, ap (λ (S : Now). record S { notes = before ++ S.notes }) h.1)

-- behind the block that is given up
pub realloc_next : (r : Result Reply Stop) (T S U : Now) (g : Given) (size i : ℕ) → is_null g.pointer ≡ false → OrNoMemory (Ok i) U (block Reallocating g S) → OrNoMemory r T (resize_of size i U) → OrNoMemory r T (realloc g size S)
realloc_next r T S U g size i e b h =
    let P : Bool → Type 0 = λ null. OrNoMemory r T (cond null (malloc size S) (next (block Reallocating g S) (resize_of size))) in
    subst P (sym e) (or_next r T (block Reallocating g S) i U (resize_of size) b.0 b.1 h)
