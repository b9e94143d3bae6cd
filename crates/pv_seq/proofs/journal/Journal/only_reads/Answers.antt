use Rattle.std.proofs.Common.{◌≤◌, List, ℕ, length, subst}
use Rattle.std.proofs.lemmas.Bool.Decides.{Decides-eqb}
use Rattle.pv_seq.specs.Sequencing.{Access}
use Rattle.pv_seq.specs.Frames.{row, AllRead, AreLastWrites}
use Rattle.pv_seq.proofs.Noting.{top_reads}
use Rattle.pv_seq.proofs.journal.Journal.only_reads.Goals as goal

pub returns : goal.returns
returns c = λ e.
    let xs = c.self.inside.accesses.items in
    let r = c.last_of.result in
    let last = subst (λ (ls : List ℕ). (ys : List Access) → AreLastWrites ys ls → (r ≤ length ys) × AllRead (row r (length ys) ys)) c.deref.ensures.value c.last_of.ensures in
    top_reads xs c.self.inside.loose.items c.self.inside.frames.items c.args.self.now r c.self.view_is ((Decides-eqb r 0).0 e) (last xs c.self.invariant.1).1
