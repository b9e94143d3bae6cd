use Rattle.std.proofs.Common.{◌≡◌, ℕ, ◌+◌, ◌-◌, length, Some, None, sym, ap, ◌∙◌, arith}
use Rattle.pv_lex.specs.Bytes.{line_feeds}
use Rattle.pv_lex.specs.Stands.{stands}
use Rattle.pv_lex.specs.Views.{what_of}
use Rattle.pv_where.specs.Spots.{Spot, piece_before, spot_at, line_in}
use Rattle.pv_where.proofs.Walking.{piece_of, moved, enough, walk_next, walk_end}
use Rattle.pv_where.proofs.spots.spot.Goals as goal

pub line_behind-line-requires : goal.line_behind-line-requires
line_behind-line-requires c =
    let found : piece_before (length c.args.source.now - c.args.place) (stands c.loop-found.fresh c.loop-found.rest.now) ≡ Some (record { what = what_of c.in-Some.found; after = c.in-Some.after.now }) = sym c.in_ok-found.ensures ∙ ap piece_of c.in-Some.is in
    omega (arith, (moved _ _ _ _ found).line c.loop-found.line, c.loop-found.invariant.lines, c.loop-found.invariant.room, c.requires.short)

pub loop-found-smaller : goal.loop-found-smaller
loop-found-smaller c =
    let found : piece_before (length c.args.source.now - c.args.place) (stands c.loop-found.fresh c.loop-found.rest.now) ≡ Some (record { what = what_of c.in-Some.found; after = c.in-Some.after.now }) = sym c.in_ok-found.ensures ∙ ap piece_of c.in-Some.is in
    (moved _ _ _ _ found).shorter

pub loop-found-preserved : goal.loop-found-preserved
loop-found-preserved c =
    let found : piece_before (length c.args.source.now - c.args.place) (stands c.loop-found.fresh c.loop-found.rest.now) ≡ Some (record { what = what_of c.in-Some.found; after = c.in-Some.after.now }) = sym c.in_ok-found.ensures ∙ ap piece_of c.in-Some.is in
    let shorter = (moved _ _ _ _ found).shorter in
    let line = (moved _ _ _ _ found).line c.loop-found.line in
    record {
      room = omega (arith, shorter, c.loop-found.invariant.room);
      before = enough _ _ _ _ found;
      lines = omega (arith, shorter, line, c.line_behind-line.ensures, c.loop-found.invariant.lines, c.loop-found.invariant.room);
      walk = walk_next _ (record { file = c.loop-found.file.now; place = record { text = c.loop-found.rest.now; line = c.loop-found.line; fresh = c.loop-found.fresh } }) (record { what = what_of c.in-Some.found; after = c.in-Some.after.now }) _ _ _ _ c.file_behind-file.ensures c.line_behind-line.ensures c.fresh_behind-fresh.ensures found c.loop-found.invariant.walk;
    }

pub returns-clause-file : goal.returns-clause-file
returns-clause-file c =
    let none : piece_before (length c.args.source.now - c.args.place) (stands c.loop-found.fresh c.loop-found.rest.now) ≡ None = sym c.in_ok-found.ensures ∙ ap piece_of c.in_default.is in
    ap (λ (s : Spot). s.file) (walk_end _ (record { file = c.loop-found.file.now; place = record { text = c.loop-found.rest.now; line = c.loop-found.line; fresh = c.loop-found.fresh } }) (spot_at c.args.name.now c.args.source.now c.args.place) none c.loop-found.invariant.walk)

pub returns-clause-line : goal.returns-clause-line
returns-clause-line c =
    let none : piece_before (length c.args.source.now - c.args.place) (stands c.loop-found.fresh c.loop-found.rest.now) ≡ None = sym c.in_ok-found.ensures ∙ ap piece_of c.in_default.is in
    ap (λ (n : ℕ). c.loop-found.line + n) (c.line_feeds-between.ensures.value ∙ ap line_feeds c.front.ensures)
    ∙ ap (line_in (length c.args.source.now - c.args.place)) (walk_end _ (record { file = c.loop-found.file.now; place = record { text = c.loop-found.rest.now; line = c.loop-found.line; fresh = c.loop-found.fresh } }) (spot_at c.args.name.now c.args.source.now c.args.place) none c.loop-found.invariant.walk)
