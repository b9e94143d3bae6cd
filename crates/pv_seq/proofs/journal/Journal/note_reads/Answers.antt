use Rattle.std.proofs.Common.{◌∷◌, sym, ap, subst, refl, ◌∙◌, arith, length, reverse}
use Rattle.pv_seq.specs.Rivals.{top, below}
use Rattle.pv_seq.specs.Frames.{AreNested, HaveLoose, with_reads}
use Rattle.pv_seq.specs.Found.{AreFound}
use Rattle.pv_seq.proofs.Nodes.{shown_by, shown_length}
use Rattle.pv_seq.proofs.Noting.{reads_frames, reads_kept, found_added}
use Rattle.pv_seq.proofs.journal.Journal.note_reads.Goals as goal

pub invariant_of-self-2 : goal.invariant_of-self-2
invariant_of-self-2 c =
    let xs = c.self.inside.accesses.items in
    let ls = c.self.inside.loose.items in
    let frames = c.self.inside.frames.items in
    let more = c.args.reads.now in (
      subst (λ ys. AreNested (length ys) (reverse frames) × HaveLoose (length ls) (reverse frames)) (sym c.in-Ok.ensures.accesses) (reads_kept xs ls more (reverse frames) c.requires.reads c.self.invariant.0),
      c.in-Ok.ensures.writes,
      subst (AreFound c.self.inside.index) (sym c.in-Ok.ensures.accesses) (found_added c.self.inside.index xs more c.self.invariant.2),
      c.self.invariant.3,
    )

pub returns-clause-made : goal.returns-clause-made
returns-clause-made c =
    let xs = c.self.inside.accesses.items in
    let ls = c.self.inside.loose.items in
    let frames = c.self.inside.frames.items in
    let some = shown_length xs ls frames c.args.self.now c.self.view_is in
    shown_by {ls = ls} {frames = frames} c.in-Ok.ensures.accesses refl refl
    ∙ reads_frames xs ls c.args.reads.now frames (omega (arith, some, c.requires.some)) c.requires.reads c.self.invariant.0
    ∙ ap (λ js. with_reads c.args.reads.now (top js) ∷ below js) c.self.view_is
