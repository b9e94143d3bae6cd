use Rattle.std.proofs.Common.{◌≡◌, ℕ, List, [], ◌∷◌, length, vec_len, None, arith, refl, ◌<◌, Some, sym, ap, ◌∙◌, subst}
use Rattle.std.proofs.lemmas.Bool.{eqb-true}
use Rattle.std.specs.Option.{option_map}
use Rattle.std.specs.Prelude.{map}
use Rattle.pv_script.specs.declared.script.Line.{Line}
use Rattle.pv_script.specs.Numbered.{numbered_line}
use Rattle.pv_script.specs.Indexed.{line_for}
use Rattle.pv_script.proofs.Keys.{unnamed, by_key, key_within, none_by_key}
use Rattle.pv_script.proofs.kept.Lines.find.Goals as goal

-- a script without lines
no_line : (ls : List Line) (name : List ℕ) (k : ℕ) → length ls ≡ 0 → line_for (map numbered_line ls) name k ≡ None
no_line [] name k h = refl
no_line (l ∷ ls) name k h = absurd (omega (arith, h))

pub returns-then-is_empty : goal.returns-then-is_empty
returns-then-is_empty c =
    let none : length c.self.inside.lines.items ≡ 0 = sym c.self.inside.lines.ok.0 ∙ eqb-true (vec_len c.self.inside.lines) 0 (sym c.is_empty.ensures ∙ c.if-is_empty.true) in
    sym (no_line c.self.inside.lines.items c.args.name.now c.args.k none) ∙ ap (λ ls. line_for ls c.args.name.now c.args.k) c.self.view_is

pub returns-in_err-number : goal.returns-in_err-number
returns-in_err-number c = ap (option_map (λ l. numbered_line l.now)) c.from_residual.ensures
    ∙ sym (unnamed c.self.inside.names c.self.inside.lines.items c.args.name.now c.args.k c.in_err-number.ensures.none c.self.invariant.known) ∙ ap (λ ls. line_for ls c.args.name.now c.args.k) c.self.view_is

pub index-requires : goal.index-requires
index-requires c = subst (λ n. c.in-Some.i.now < n) (sym c.self.inside.lines.ok.0)
    (key_within c.self.inside.names c.self.inside.lines.items c.self.inside.places.entries c.args.name.now c.in_ok-number.number c.args.k (c.in_ok-number.number, c.args.k) c.in-Some.i.now c.in_ok-number.ensures.once c.in_ok-number.ensures.found c.self.invariant refl c.in-Some.ensures.value)

pub returns-in-Some : goal.returns-in-Some
returns-in-Some c = ap (λ l. Some (numbered_line l)) c.index.ensures
    ∙ sym (by_key c.self.inside.names c.self.inside.lines.items c.self.inside.places.entries c.args.name.now c.in_ok-number.number c.args.k (c.in_ok-number.number, c.args.k) c.in-Some.i.now c.index.result.now c.in_ok-number.ensures.once c.in_ok-number.ensures.found c.self.invariant refl c.in-Some.ensures.value)
    ∙ ap (λ ls. line_for ls c.args.name.now c.args.k) c.self.view_is

pub returns-in-None : goal.returns-in-None
returns-in-None c = sym (none_by_key c.self.inside.names c.self.inside.lines.items c.self.inside.places.entries c.args.name.now c.in_ok-number.number c.args.k (c.in_ok-number.number, c.args.k) c.in_ok-number.ensures.once c.in_ok-number.ensures.found c.self.invariant refl c.in-None.ensures.value)
    ∙ ap (λ ls. line_for ls c.args.name.now c.args.k) c.self.view_is
