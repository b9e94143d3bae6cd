use Rattle.std.proofs.Common.{◌∙◌, sym, ap}
use Rattle.pv_types.specs.Known.{tree, env}
use Rattle.pv_types.proofs.Made.{flag}
use Rattle.pv_check.proofs.Growth.{sized_small}
use Rattle.pv_unit.specs.Subobjects.{fits}
use Rattle.pv_unit.proofs.Fitting.{bare_fits, array_complete, array_room, struct_fits, union_fits}
use Rattle.pv_unit.proofs.parts.part_at.Goals as goal

abbrev layer_fits : goal.element_number-requires-clause-complete
layer_fits c =
    let m = c.args.types.now in
    let fitting = sym (ap (fits (env m) c.args.whole.offset) c.in-Array.ensures.tree) ∙ bare_fits (env m) c.args.whole.offset (tree m c.args.whole.t.0) c.requires.whole.fits in
    array_complete (env m) c.args.whole.offset (tree m c.in-Array.element.0) c.in-Array.count fitting

pub element_number-requires-clause-complete : goal.element_number-requires-clause-complete
element_number-requires-clause-complete c = layer_fits c

pub element_number-requires-clause-room : goal.element_number-requires-clause-room
element_number-requires-clause-room c =
    let m = c.args.types.now in
    let fitting = sym (ap (fits (env m) c.args.whole.offset) c.in-Array.ensures.tree) ∙ bare_fits (env m) c.args.whole.offset (tree m c.args.whole.t.0) c.requires.whole.fits in
    array_room (env m) c.args.whole.offset (tree m c.in-Array.element.0) c.in-Array.count (sized_small (env m) (tree m c.in-Array.element.0) (c.requires.sized.types c.in-Array.element.0 c.in-Array.ensures.earlier)) fitting

pub member_number-requires-clause-complete : goal.member_number-requires-clause-complete
member_number-requires-clause-complete c =
    let m = c.args.types.now in
    let fitting = sym (ap (fits (env m) c.args.whole.offset) c.in-Struct.ensures.tree) ∙ bare_fits (env m) c.args.whole.offset (tree m c.args.whole.t.0) c.requires.whole.fits in
    (struct_fits (env m) c.args.whole.offset c.in-Struct.tag fitting).0

pub member_number-requires-clause-structure : goal.member_number-requires-clause-structure
member_number-requires-clause-structure c = flag c.args.types.now c.in-Struct.tag c.in-Struct.ensures.built (member_number-requires-clause-complete c) ∙ c.in-Struct.ensures.tagged.1

pub member_number-requires-clause-room : goal.member_number-requires-clause-room
member_number-requires-clause-room c =
    let m = c.args.types.now in
    let fitting = sym (ap (fits (env m) c.args.whole.offset) c.in-Struct.ensures.tree) ∙ bare_fits (env m) c.args.whole.offset (tree m c.args.whole.t.0) c.requires.whole.fits in
    (struct_fits (env m) c.args.whole.offset c.in-Struct.tag fitting).1

pub first_member-requires-clause-complete : goal.first_member-requires-clause-complete
first_member-requires-clause-complete c =
    let m = c.args.types.now in
    let fitting = sym (ap (fits (env m) c.args.whole.offset) c.in-Union.ensures.tree) ∙ bare_fits (env m) c.args.whole.offset (tree m c.args.whole.t.0) c.requires.whole.fits in
    (union_fits (env m) c.args.whole.offset c.in-Union.tag fitting).0

pub first_member-requires-clause-union : goal.first_member-requires-clause-union
first_member-requires-clause-union c = flag c.args.types.now c.in-Union.tag c.in-Union.ensures.built (first_member-requires-clause-complete c) ∙ c.in-Union.ensures.tagged.1

pub first_member-requires-clause-room : goal.first_member-requires-clause-room
first_member-requires-clause-room c =
    let m = c.args.types.now in
    let fitting = sym (ap (fits (env m) c.args.whole.offset) c.in-Union.ensures.tree) ∙ bare_fits (env m) c.args.whole.offset (tree m c.args.whole.t.0) c.requires.whole.fits in
    (union_fits (env m) c.args.whole.offset c.in-Union.tag fitting).1
