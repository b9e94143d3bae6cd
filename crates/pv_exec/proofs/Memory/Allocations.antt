-- What the tests within a call of the library find: of `free` and `realloc` an allocation that lives, since no other instance passes
-- (C17 7.22.3.3p2, 7.22.3.5p3), of an access bytes of a live instance (7.24.1p2).
use Rattle.std.proofs.Common.{◌≡◌, ℕ, ◌≤◌, Bool, true, false, cond, eqb, List, Option, Some, None, Result, Ok, Err, IfOk, refl, sym, subst}
use Rattle.pv_fault.specs.declared.faults.Clause.{Clause}
use Rattle.pv_prov.specs.Names.{stands}
use Rattle.pv_inst.specs.declared.values.Info.{Info}
use Rattle.pv_inst.specs.declared.values.Instance.{Instance}
use Rattle.pv_inst.specs.declared.values.Test.TheVariants.{Block}
use Rattle.pv_inst.specs.declared.values.Tried.{Tried}
use Rattle.pv_inst.specs.declared.values.Miss.{Miss}
use Rattle.pv_inst.specs.Table.{Table, instance_at}
use Rattle.pv_inst.specs.Use.{use_answer, after_use}
use Rattle.pv_object.specs.declared.values.Pointer.{Pointer}
use Rattle.pv_object.specs.declared.values.Asker.{Asker}
use Rattle.pv_object.specs.declared.values.Reach.{Reach}
use Rattle.pv_object.specs.declared.values.Stop.{Stop}
use Rattle.pv_object.specs.Access.{reach, first_survivor}
use Rattle.pv_object.specs.Creating.{creation, with_new_bytes}
use Rattle.pv_object.specs.Memory.{Mem}
use Rattle.pv_object.proofs.Survivors.{settled_instances}
use Rattle.pv_inst.specs.declared.values.CreateError.{CreateError}
use Rattle.pv_inst.specs.declared.values.CreateError.TheVariants as error
use Rattle.pv_inst.specs.Placing.{place}
use Rattle.pv_libc.specs.declared.values.Note.{Note}
use Rattle.pv_libc.specs.declared.values.Reply.{Reply}
use Rattle.pv_libc.specs.Steps.{Now, Did, about_by, reach_for, reached_by}
use Rattle.pv_libc.specs.Heap.{told_of, grant_of, request_of_bytes, block_in, the_block, block_answer, block_by, block, after_block_copy}
use Rattle.pv_libc.specs.HeapParts.{heap_request}
use Rattle.pv_libc.proofs.Reaches.{whole_reach}
use Rattle.pv_exec.proofs.Memory.Reached.{AreInLive, IsAllocated, IsAllocation, chosen-block, reach-in-live, reach-reaches, reach-instances, in-live-same, allocation-placed}
use Rattle.pv_exec.proofs.Memory.Ways.{When}
use Rattle.pv_exec.proofs.Memory.Characters.{when-all}

-- 7.22.3.3p2: the block that a pointer means
in-block : (P : ℕ → Type 0) (c : Clause) (i : ℕ) (o : Option Info) → P i → When P (block_in c i o)
in-block P c i None h = tt
in-block P c i (Some x) h = h

the-block : (P : ℕ → Type 0) (c : Clause) (M : Mem) (o : Option ℕ) → ((i : ℕ) → o ≡ Some i → P i) → When P (the_block c M o)
the-block P c M None h = tt
the-block P c M (Some i) h = in-block P c i (told_of M i) (h i refl)

answer-block : (U : Table) (c : Clause) (M : Mem) (p : Pointer) (r : Result Tried Miss) → U.instances ≡ M.table.instances → use_answer M.table p.prov (Block p.address) ≡ r → When (λ i. IsAllocation U i) (block_answer c M p r)
answer-block U c M p (Ok tried) same e =
    the-block (λ i. IsAllocation U i) c M (first_survivor (stands M.table.pairs p.prov) tried)
    (λ i f. subst (λ xs. IsAllocated (instance_at xs i)) (sym same) (chosen-block M.table p.prov p.address tried i e f))
answer-block U c M p (Err m) same e = tt

about-when : {A : Type 0} (P : A → Now → Type 0) (r : Result A Stop) (note : Note) (d : Did A) → When (λ a. P a d.after) d.answer → When (λ a. P a (about_by r note d).after) (about_by r note d).answer
about-when P (Ok a) note d h = h
about-when P (Err y) note d h = tt

pub block-is : (c : Clause) (g : _) (S : Now) → When (λ i. IsAllocation (block c g S).after.memory.table i) (block c g S).answer
block-is c g S =
    let found = use_answer S.memory.table g.pointer.prov (Block g.pointer.address) in
    about-when (λ i T. IsAllocation T.memory.table i) (block_by c g S found).answer g.stopped (block_by c g S found)
    (answer-block (after_use S.memory.table g.pointer.prov found) c S.memory g.pointer found (settled_instances S.memory.table g.pointer.prov found) refl)

-- 7.22.3.5p4: it is one still behind a request
requested-if : (i : ℕ) (c : Bool) (d e : Did (Result ℕ Reply)) → IsAllocation d.after.memory.table i → IsAllocation e.after.memory.table i → IsAllocation (cond c d e).after.memory.table i
requested-if i true d e h g = h
requested-if i false d e h g = g

granted-is : (i : ℕ) (S : Now) (w : Result ℕ CreateError × Table) → IsAllocation w.1 i → IsAllocation (grant_of S (with_new_bytes S.memory w)).after.memory.table i
granted-is i S (Ok j, U) h = h
granted-is i S (Err error.Denied, U) h = h
granted-is i S (Err error.NoMemory, U) h = h
granted-is i S (Err (error.Storage live wanted), U) h = h
granted-is i S (Err (error.Range k a), U) h = h
granted-is i S (Err (error.Misaligned k a), U) h = h
granted-is i S (Err (error.Overlap k a other), U) h = h

pub requested-is : (n i : ℕ) (S : Now) → IsAllocation S.memory.table i → When (λ r. IsAllocation (request_of_bytes n S).after.memory.table i) (request_of_bytes n S).answer
requested-is n i S h =
    let r = heap_request n in
    when-all _ (request_of_bytes n S).answer (λ a.
    requested-if i (eqb n 0) _ (grant_of S (creation S.memory r)) h (granted-is i S (place S.memory.table r) (allocation-placed S.memory.table r i h)))

-- 7.22.3.5p2: a copy changes no instance
pub both-table : (o p : Option Info) (M : Mem) → (after_block_copy o p M).table ≡ M.table
both-table (Some x) (Some y) M = refl
both-table (Some x) None M = refl
both-table None (Some y) M = refl
both-table None None M = refl

-- 7.24.1p2: the bytes of an access
when-ok : (P : Reach → Type 0) (r : Result Reach Stop) → IfOk r P → When P r
when-ok P (Ok a) h = h
when-ok P (Err y) h = tt

pub reached-is : (by : Asker) (write : Bool) (g : _) (n : ℕ) (S : Now) → When (λ r. AreInLive (reach_for by write g n S).after.memory.table r.address n) (reach_for by write g n S).answer
reached-is by write g n S =
    let got = reach S.memory.table g.pointer n 1 write by in
    about-when (λ r T. AreInLive T.memory.table r.address n) got.0 g.stopped (reached_by by write g n S got)
    (when-ok (λ r. AreInLive got.1 r.address n) got.0 (reach-reaches S.memory.table g.pointer n 1 write by))

about-same : {A : Type 0} (r : Result A Stop) (note : Note) (d : Did A) (xs : List Instance) → d.after.memory.table.instances ≡ xs → (about_by r note d).after.memory.table.instances ≡ xs
about-same (Ok a) note d xs e = e
about-same (Err y) note d xs e = e

when-with : {A : Type 0} (Q : Type 0) (P : A → Type 0) (r : Result A Stop) → Q → When P r → When (λ a. Q × P a) r
when-with Q P (Ok a) q h = (q, h)
when-with Q P (Err y) q h = tt

-- 7.24.2.1p2: what was reached before is there still
pub both-reached : (by : Asker) (write : Bool) (g : _) (n : ℕ) (S : Now) (a k : ℕ) → AreInLive S.memory.table a k
    → When (λ r. AreInLive (reach_for by write g n S).after.memory.table a k × AreInLive (reach_for by write g n S).after.memory.table r.address n) (reach_for by write g n S).answer
both-reached by write g n S a k h =
    let got = reach S.memory.table g.pointer n 1 write by in
    let T = (reach_for by write g n S).after.memory.table in
    let same = about-same got.0 g.stopped (reached_by by write g n S got) S.memory.table.instances (reach-instances S.memory.table g.pointer n 1 write by) in
    when-with (AreInLive T a k) (λ r. AreInLive T r.address n) (reach_for by write g n S).answer (in-live-same S.memory.table T a k same h) (reached-is by write g n S)

-- 6.2.4p2: the first bytes of what is told of
pub told-in-live : (M : Mem) (i : ℕ) (x : Info) (n : ℕ) → told_of M i ≡ Some x → n ≤ x.size → AreInLive M.table x.base n
told-in-live M i x n e l = reach-in-live M.table _ n (whole_reach M.table i x n e l)
