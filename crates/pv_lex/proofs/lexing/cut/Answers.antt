use Rattle.std.proofs.Common.{◌≡◌, refl, sym, ap, ◌∙◌, arith}
use Rattle.pv_token.specs.Said.{Punctuator}
use Rattle.pv_token.specs.Views.{said_of}
use Rattle.pv_lex.specs.Pieces.{Here, Spelling}
use Rattle.pv_lex.specs.Stands.{stands}
use Rattle.pv_lex.specs.Views.{stand_of, what_of}
use Rattle.pv_lex.proofs.Moving.{moves_stands}
use Rattle.pv_lex.proofs.Cutting.{cut_goes_on, cut_ends, cut_faults}
use Rattle.pv_token.proofs.Telling.{tells_known}
use Rattle.pv_lex.proofs.Fitting.{cut_count, cut_room, cut_fault_lies}
use Rattle.pv_lex.proofs.lexing.cut.Goals as goal

-- what the code finds at a place takes some bytes, and counts their lines
pub line_behind-next_line-requires : goal.line_behind-next_line-requires
line_behind-next_line-requires c =
    let here : stands c.pieces.fresh c.pieces.rest.now ≡ Here (record { what = what_of c.in-Here.found; after = c.in-Here.after.now }) = sym c.in_ok-stand.ensures ∙ ap stand_of c.in-Here.is in
    let line = ((moves_stands c.pieces.fresh c.pieces.rest.now).here _ here).line c.pieces.line in
    omega (arith, line, c.pieces.invariant.lines, c.pieces.invariant.room, c.requires.short)

pub pieces-smaller : goal.pieces-smaller
pieces-smaller c =
    let here : stands c.pieces.fresh c.pieces.rest.now ≡ Here (record { what = what_of c.in-Here.found; after = c.in-Here.after.now }) = sym c.in_ok-stand.ensures ∙ ap stand_of c.in-Here.is in
    omega (arith, ((moves_stands c.pieces.fresh c.pieces.rest.now).here _ here).shorter)

pub pieces-preserved : goal.pieces-preserved
pieces-preserved c =
    let here : stands c.pieces.fresh c.pieces.rest.now ≡ Here (record { what = what_of c.in-Here.found; after = c.in-Here.after.now }) = sym c.in_ok-stand.ensures ∙ ap stand_of c.in-Here.is in
    let moved = (moves_stands c.pieces.fresh c.pieces.rest.now).here _ here in
    let line = moved.line c.pieces.line in
    record {
      room = omega (arith, moved.shorter, c.pieces.invariant.room);
      lines = omega (arith, line, c.line_behind-next_line.ensures, c.pieces.invariant.lines, c.pieces.invariant.room);
      cut = rw (c.line_behind-next_line.ensures, c.fresh_behind-next_fresh.ensures) (cut_goes_on c.args.bytes.now c.pieces.out c.add.new.tokens (record { text = c.pieces.rest.now; line = c.pieces.line; fresh = c.pieces.fresh }) (record { what = what_of c.in-Here.found; after = c.in-Here.after.now }) _ c.pieces.invariant.cut here refl c.in_ok-add-in-Here.ensures);
    }

-- the same of a punctuator that stands alone
pub add_mark-requires : goal.add_mark-requires
add_mark-requires c = cut_room c.args.bytes.now c.pieces.out _ c.pieces.invariant.cut c.requires.short

pub pieces-smaller-in-Some : goal.pieces-smaller-in-Some
pieces-smaller-in-Some c =
    let here : stands c.pieces.fresh c.pieces.rest.now ≡ Here (record { what = Spelling (Punctuator c.in-Some.mark); after = c.in-Some.after.now }) = c.in-Some.ensures c.pieces.fresh in
    omega (arith, ((moves_stands c.pieces.fresh c.pieces.rest.now).here _ here).shorter)

pub pieces-preserved-in-Some : goal.pieces-preserved-in-Some
pieces-preserved-in-Some c =
    let here : stands c.pieces.fresh c.pieces.rest.now ≡ Here (record { what = Spelling (Punctuator c.in-Some.mark); after = c.in-Some.after.now }) = c.in-Some.ensures c.pieces.fresh in
    let moved = (moves_stands c.pieces.fresh c.pieces.rest.now).here _ here in
    record {
      room = omega (arith, moved.shorter, c.pieces.invariant.room);
      lines = omega (arith, moved.shorter, c.pieces.invariant.lines);
      cut = cut_goes_on c.args.bytes.now c.pieces.out c.add_mark.new.tokens (record { text = c.pieces.rest.now; line = c.pieces.line; fresh = c.pieces.fresh }) (record { what = Spelling (Punctuator c.in-Some.mark); after = c.in-Some.after.now }) _ c.pieces.invariant.cut here refl c.in_ok-add_mark.ensures;
    }

-- the same of a word
pub add_word-requires : goal.add_word-requires
add_word-requires c = cut_room c.args.bytes.now c.pieces.out _ c.pieces.invariant.cut c.requires.short

pub pieces-smaller-in-Some-word_token : goal.pieces-smaller-in-Some-word_token
pieces-smaller-in-Some-word_token c =
    let here : stands c.pieces.fresh c.pieces.rest.now ≡ Here (record { what = Spelling (said_of c.in-Some-word_token.word); after = c.in-Some-word_token.behind.now }) = c.in-Some-word_token.ensures c.pieces.fresh in
    omega (arith, ((moves_stands c.pieces.fresh c.pieces.rest.now).here _ here).shorter)

pub pieces-preserved-in-Some-word_token : goal.pieces-preserved-in-Some-word_token
pieces-preserved-in-Some-word_token c =
    let here : stands c.pieces.fresh c.pieces.rest.now ≡ Here (record { what = Spelling (said_of c.in-Some-word_token.word); after = c.in-Some-word_token.behind.now }) = c.in-Some-word_token.ensures c.pieces.fresh in
    let moved = (moves_stands c.pieces.fresh c.pieces.rest.now).here _ here in
    record {
      room = omega (arith, moved.shorter, c.pieces.invariant.room);
      lines = omega (arith, moved.shorter, c.pieces.invariant.lines);
      cut = cut_goes_on c.args.bytes.now c.pieces.out c.add_word.new.tokens (record { text = c.pieces.rest.now; line = c.pieces.line; fresh = c.pieces.fresh }) (record { what = Spelling (said_of c.in-Some-word_token.word); after = c.in-Some-word_token.behind.now }) _ c.pieces.invariant.cut here refl c.in_ok-add_word.ensures;
    }

pub returns-in-End-clause-whole : goal.returns-in-End-clause-whole
returns-in-End-clause-whole c = cut_ends c.args.bytes.now c.pieces.out (record { text = c.pieces.rest.now; line = c.pieces.line; fresh = c.pieces.fresh }) c.pieces.invariant.cut (sym c.in_ok-stand.ensures ∙ ap stand_of c.in-End.is)

pub returns-in-Bad-clause-fault : goal.returns-in-Bad-clause-fault
returns-in-Bad-clause-fault c = rw c.error_at.ensures (cut_faults c.args.bytes.now c.pieces.out (record { text = c.pieces.rest.now; line = c.pieces.line; fresh = c.pieces.fresh }) c.in-Bad.fault _ c.pieces.invariant.cut (sym c.in_ok-stand.ensures ∙ ap stand_of c.in-Bad.is) refl)

pub returns-in-End-clause-count : goal.returns-in-End-clause-count
returns-in-End-clause-count c = omega (arith, cut_count c.args.bytes.now c.pieces.out _ c.pieces.invariant.cut)

pub returns-in-Bad-clause-within : goal.returns-in-Bad-clause-within
returns-in-Bad-clause-within c = rw c.error_at.ensures (cut_fault_lies c.args.bytes.now c.pieces.out (record { text = c.pieces.rest.now; line = c.pieces.line; fresh = c.pieces.fresh }) c.in-Bad.fault _ c.pieces.invariant.cut (sym c.in_ok-stand.ensures ∙ ap stand_of c.in-Bad.is) refl)

pub add-requires : goal.add-requires
add-requires c = cut_room c.args.bytes.now c.pieces.out _ c.pieces.invariant.cut c.requires.short

pub returns-in-End-clause-known : goal.returns-in-End-clause-known
returns-in-End-clause-known c = tells_known c.pieces.out _ c.pieces.invariant.cut.tells
