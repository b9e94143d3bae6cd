use Rattle.std.proofs.Common.{◌≡◌, ◌≤◌, ◌+◌, ◌-◌, ◌++◌, List, ℕ, length, take, replicate, sym, ap, subst, ◌∙◌, arith, take_all}
use Rattle.pv_seq.specs.Sequencing.{Access}
use Rattle.pv_seq.specs.Frames.{row, AllRead, AreLastWrites}
use Rattle.pv_seq.proofs.Noting.{reads_pushed}
use Rattle.pv_seq.proofs.notes.note_all.Goals as goal

pub returns-clause-writes : goal.returns-clause-writes
returns-clause-writes c =
    let xs = c.args.accesses.now.items in
    let ls = c.args.last_writes.now.items in
    let more = c.args.reads.now in
    let p = c.last_of-last.result in
    let same = c.requires.writes.0 in
    let kept : c.reserve.new.self.items ≡ xs = c.reserve.ensures.items in
    let far : c.len.result ≡ length ls = omega (arith, c.len.ensures, c.reserve.ensures.len, c.args.accesses.now.ok.0, same) in
    let n = c.len.result + length more in
    let rest : (c.len.result + length more) - length ls ≡ length more = omega (arith, far) in
    let last = subst (λ (qs : List ℕ). (ys : List Access) → AreLastWrites ys qs → (p ≤ length ys) × AllRead (row p (length ys) ys)) c.deref.ensures.value c.last_of-last.ensures xs c.requires.writes in
    let grown : c.resize.new.self.items ≡ ls ++ replicate (length more) p =
    c.in_ok-resize.ensures.items ∙ ap (λ k. take n ls ++ replicate (n - k) p) c.args.last_writes.now.ok.0 ∙ ap (λ (qs : List ℕ). qs ++ replicate (n - length ls) p) (take_all (c.len.result + length more) ls (omega (arith, far))) ∙ ap (λ k. ls ++ replicate k p) rest in
    let noted : c.extend_from_slice.new.self.items ≡ xs ++ more = c.in_ok-extend_from_slice.ensures.items ∙ ap (λ (qs : List Access). qs ++ more) kept in
    subst (λ (ys : List Access). AreLastWrites ys c.resize.new.self.items) (sym noted) (subst (AreLastWrites (xs ++ more)) (sym grown) (reads_pushed xs ls p more c.requires.writes last.0 last.1 c.requires.reads))
