use Rattle.std.proofs.Common.{◌≡◌, ℕ, ◌<◌, ◌-◌, ◌%◌, ◌≤◌, Some, sym, ap, ◌∙◌, subst, arith}
use Rattle.pv_types.specs.Known.{tree, env}
use Rattle.pv_types.specs.Formed.{members_in}
use Rattle.pv_types.specs.Places.{struct_places, holder}
use Rattle.pv_types.proofs.Fills.{layout_fills}
use Rattle.pv_eval.specs.Sizes.{size_in}
use Rattle.pv_eval.proofs.MemberPlaces.{tag_there, tag_structure, tag_small, tag_landed, tag_stands}
use Rattle.pv_eval.proofs.members.place_in.Goals as goal

pub view-requires : goal.view-requires
view-requires c = c.requires.complete.known

pub member_over-requires-clause-made : goal.member_over-requires-clause-made
member_over-requires-clause-made c = c.in-Struct.ensures.tagged.0

pub member_over-requires-clause-complete : goal.member_over-requires-clause-complete
member_over-requires-clause-complete c = tag_there c.args.types.now c.args.l.t.0 c.in-Struct.tag c.in-Struct.ensures.built c.requires.complete.complete c.requires.complete.small c.in-Struct.ensures.tree c.in-Struct.ensures.tagged.1

pub member_over-requires-clause-structure : goal.member_over-requires-clause-structure
member_over-requires-clause-structure c = tag_structure c.args.types.now c.args.l.t.0 c.in-Struct.tag c.in-Struct.ensures.built c.requires.complete.complete c.requires.complete.small c.in-Struct.ensures.tree c.in-Struct.ensures.tagged.1

pub member_over-requires-clause-small : goal.member_over-requires-clause-small
member_over-requires-clause-small c = tag_small c.args.types.now c.args.l.t.0 c.in-Struct.tag c.in-Struct.ensures.built c.requires.complete.complete c.requires.complete.small c.in-Struct.ensures.tree c.in-Struct.ensures.tagged.1

pub is_array_of-requires-clause-known : goal.is_array_of-requires-clause-known
is_array_of-requires-clause-known c =
    (tag_landed c.args.types.now c.args.l.t.0 c.in-Struct.tag c.in-Struct.ensures.built c.requires.complete.complete c.requires.complete.small c.in-Struct.ensures.tree c.in-Struct.ensures.tagged.1 c.args.offset c.in-Some.start c.in-Some.member (sym c.in-Some.is ∙ c.member_over.ensures.holder)).known

pub is_array_of-requires-clause-complete : goal.is_array_of-requires-clause-complete
is_array_of-requires-clause-complete c =
    (tag_landed c.args.types.now c.args.l.t.0 c.in-Struct.tag c.in-Struct.ensures.built c.requires.complete.complete c.requires.complete.small c.in-Struct.ensures.tree c.in-Struct.ensures.tagged.1 c.args.offset c.in-Some.start c.in-Some.member (sym c.in-Some.is ∙ c.member_over.ensures.holder)).complete

pub size-bytes-requires-clause-known : goal.size-bytes-requires-clause-known
size-bytes-requires-clause-known c =
    (tag_landed c.args.types.now c.args.l.t.0 c.in-Struct.tag c.in-Struct.ensures.built c.requires.complete.complete c.requires.complete.small c.in-Struct.ensures.tree c.in-Struct.ensures.tagged.1 c.args.offset c.in-Some.start c.in-Some.member (sym c.in-Some.is ∙ c.member_over.ensures.holder)).known

pub size-bytes-requires-clause-complete : goal.size-bytes-requires-clause-complete
size-bytes-requires-clause-complete c =
    (tag_landed c.args.types.now c.args.l.t.0 c.in-Struct.tag c.in-Struct.ensures.built c.requires.complete.complete c.requires.complete.small c.in-Struct.ensures.tree c.in-Struct.ensures.tagged.1 c.args.offset c.in-Some.start c.in-Some.member (sym c.in-Some.is ∙ c.member_over.ensures.holder)).complete

pub size-bytes-requires-clause-small : goal.size-bytes-requires-clause-small
size-bytes-requires-clause-small c =
    (tag_landed c.args.types.now c.args.l.t.0 c.in-Struct.tag c.in-Struct.ensures.built c.requires.complete.complete c.requires.complete.small c.in-Struct.ensures.tree c.in-Struct.ensures.tagged.1 c.args.offset c.in-Some.start c.in-Some.member (sym c.in-Some.is ∙ c.member_over.ensures.holder)).small

pub returns : goal.returns
returns c =
    let m = c.args.types.now in
    let w = c.args.l.t.0 in
    let start = c.in-Some.start in
    let member = c.in-Some.member in
    let want = tree m c.args.t.0 in
    let whole = c.in_ok-whole.ensures in
    let size = c.requires.complete.size in
    let few = c.requires.complete.small in
    let first = c.in_ok-first.ensures in
    let length = c.in_ok-length.ensures in
    let bytes = c.size-bytes.ensures in
    let held : Some (start, member) ≡ holder start (struct_places m 0 (members_in m.done c.in-Struct.tag)) =
    sym c.in-Some.is ∙ c.member_over.ensures.holder ∙ ap (λ k. holder k (struct_places m 0 (members_in m.done c.in-Struct.tag))) (sym c.if-start-offset.false) in
    record {
      complete = c.requires.complete.complete;
      size = whole ∙ size;
      small = omega (arith, whole, size, few);
      fills = layout_fills (env m) (tree m w) c.in-Struct.ensures.built.within c.requires.complete.complete;
      scalar = c.requires.scalar;
      permits = λ o s.
          let low : start ≤ o = subst (λ (k : ℕ). k ≤ o) first s.low in
          let under = s.within in
          let within : o - start < size_in m (tree m member.0) = omega (arith, first, length, bytes, under) in
          let begins : (o - start) % size_in m want ≡ 0 = subst (λ (k : ℕ). (o - k) % size_in m want ≡ 0) first s.begins in
          tag_stands c.args.types.now c.args.l.t.0 c.in-Struct.tag c.in-Struct.ensures.built c.requires.complete.complete c.requires.complete.small c.in-Struct.ensures.tree c.in-Struct.ensures.tagged.1 start member want held (c.is_array_of.ensures c.if-not-is_array_of.false) o low within begins;
    }
