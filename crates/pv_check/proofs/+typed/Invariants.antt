use Rattle.std.proofs.Common.{◌≡◌, ◌+◌, ◌-◌, ◌*◌, ◌≤◌, max, Some, length, take, map}
use Rattle.pv_tree.specs.Tables.{list_at, trees_of, arguments_of}
use Rattle.pv_types.specs.Known.{tree}
use Rattle.pv_typed.specs.Known.{Each}
use Rattle.pv_typed.specs.NodeTrees.{expression_at, IsExpression}
use Rattle.pv_check.specs.Declarators.{parameters_shown, ParameterKnown}
use Rattle.pv_check.specs.Growing.{IsType}
use Rattle.pv_check.specs.ListedRows.{list_of}
use Rattle.pv_check.specs.MembersRead.{members_shown, AreMembers}
use Rattle.pv_check.specs.Open.{state_of, IsOpen, Goes}
use Rattle.pv_check.specs.Seeing.{seen_in}
use Rattle.pv_check.specs.Typing.{arguments, specifiers, members, member_declarators, enumerators, parameters}
use Rattle.pv_check.specs.WordRows.{total}
use Rattle.pv_check.proofs.Descending.{above, above_all}
use Rattle.pv_check.proofs.+typed.Given as goal

-- a node's functions have its number times 8 and more, those of a list 8 times what is above its nodes

abbrev pub decreases-expressions::typed : goal.decreases-expressions::typed
decreases-expressions::typed l = l.e.0 * 8 + 2

abbrev pub decreases-expressions::operand : goal.decreases-expressions::operand
decreases-expressions::operand l = l.a.0 * 8 + 3

abbrev pub decreases-expressions::of_one : goal.decreases-expressions::of_one
decreases-expressions::of_one l = l.a.0 * 8 + 3

abbrev pub decreases-expressions::first_of : goal.decreases-expressions::first_of
decreases-expressions::first_of l = l.a.0 * 8 + 4

abbrev pub decreases-expressions::of_two : goal.decreases-expressions::of_two
decreases-expressions::of_two l = max l.a.0 l.b.0 * 8 + 5

abbrev pub decreases-expressions::of_three : goal.decreases-expressions::of_three
decreases-expressions::of_three l = max l.a.0 (max l.b.0 l.c.0) * 8 + 5

abbrev pub decreases-expressions::measured : goal.decreases-expressions::measured
decreases-expressions::measured l = l.a.0 * 8 + 3

abbrev pub decreases-expressions::sizeof_named : goal.decreases-expressions::sizeof_named
decreases-expressions::sizeof_named l = l.n.0 * 8 + 7

abbrev pub decreases-expressions::cast_to : goal.decreases-expressions::cast_to
decreases-expressions::cast_to l = max l.n.0 l.a.0 * 8 + 7

abbrev pub decreases-expressions::call_to : goal.decreases-expressions::call_to
decreases-expressions::call_to l = max (l.f.0 * 8 + 6) (above_all (list_at l.u.now.forest l.args) * 8 + 1)

abbrev pub decreases-expressions::callee_of : goal.decreases-expressions::callee_of
decreases-expressions::callee_of l = l.f.0 * 8 + 5

abbrev pub decreases-expressions::arguments : goal.decreases-expressions::arguments
decreases-expressions::arguments l = above_all (list_at l.u.now.forest l.args) * 8

abbrev pub invariant-expressions::arguments-loop-i : goal.invariant-expressions::arguments-loop-i
invariant-expressions::arguments-loop-i l =
    (l.i ≤ length l.nodes) × IsOpen l.into l.s × Goes l.initial.into l.into × Each (IsExpression l.into) l.list.items
    × (Some (record { value = map (expression_at l.into) l.list.items; state = state_of l.t.texts l.hidden l.s l.into }) ≡ arguments (arguments_of l.u.forest (take l.i l.nodes)) (state_of l.t.texts l.hidden l.initial.s l.initial.into))

abbrev pub decreases-expressions::arguments-loop-i : goal.decreases-expressions::arguments-loop-i
decreases-expressions::arguments-loop-i l = length l.nodes - l.i

abbrev pub decreases-type_names::type_named : goal.decreases-type_names::type_named
decreases-type_names::type_named l = l.n.0 * 8 + 6

abbrev pub decreases-type_names::type_name : goal.decreases-type_names::type_name
decreases-type_names::type_name l = max (above_all (list_at l.u.now.forest l.specs) * 8 + 1) (above 5 l.declarator) + 1

abbrev pub decreases-type_names::specified_type : goal.decreases-type_names::specified_type
decreases-type_names::specified_type l = above_all (list_at l.u.now.forest l.specs) * 8 + 1

abbrev pub decreases-declarators::integer_at : goal.decreases-declarators::integer_at
decreases-declarators::integer_at l = l.n.0 * 8 + 4

abbrev pub decreases-declarators::array_size : goal.decreases-declarators::array_size
decreases-declarators::array_size l = above 5 l.size

abbrev pub decreases-declarators::steps_of : goal.decreases-declarators::steps_of
decreases-declarators::steps_of l = l.n.0 * 8 + 4

abbrev pub decreases-declarators::optional_steps : goal.decreases-declarators::optional_steps
decreases-declarators::optional_steps l = above 5 l.d

abbrev pub decreases-parameter_lists::with_parameters : goal.decreases-parameter_lists::with_parameters
decreases-parameter_lists::with_parameters l = above_all (list_at l.u.now.forest l.list) * 8 + 1

abbrev pub decreases-parameter_lists::parameters : goal.decreases-parameter_lists::parameters
decreases-parameter_lists::parameters l = above_all (list_at l.u.now.forest l.list) * 8

abbrev pub decreases-parameter_lists::parameter : goal.decreases-parameter_lists::parameter
decreases-parameter_lists::parameter l = l.n.0 * 8 + 6

abbrev pub invariant-parameter_lists::parameters-loop-i : goal.invariant-parameter_lists::parameters-loop-i
invariant-parameter_lists::parameters-loop-i l =
    (l.i ≤ length l.nodes) × IsOpen l.into l.s × Goes l.initial.into l.into × Each (ParameterKnown l.into) l.ps.items
    × (Some (record { value = parameters_shown l.into.known l.ps.items; state = state_of l.t.texts l.unevaluated l.s l.into }) ≡ parameters (trees_of l.u.forest (take l.i l.nodes)) (state_of l.t.texts l.unevaluated l.initial.s l.initial.into))

abbrev pub decreases-parameter_lists::parameters-loop-i : goal.decreases-parameter_lists::parameters-loop-i
decreases-parameter_lists::parameters-loop-i l = length l.nodes - l.i

abbrev pub decreases-specifying::specifiers : goal.decreases-specifying::specifiers
decreases-specifying::specifiers l = above_all (list_at l.u.now.forest l.list) * 8

abbrev pub invariant-specifying::specifiers-loop-i : goal.invariant-specifying::specifiers-loop-i
invariant-specifying::specifiers-loop-i l =
    (l.i ≤ length l.nodes) × IsOpen l.into l.s × Goes l.initial.into l.into × IsType l.into.known l.seen.named × (total l.seen.words ≤ l.i)
    × (Some (record { value = seen_in l.into.known l.seen; state = state_of l.t.texts l.unevaluated l.s l.into }) ≡ specifiers (trees_of l.u.forest (take l.i l.nodes)) (state_of l.t.texts l.unevaluated l.initial.s l.initial.into))

abbrev pub decreases-specifying::specifiers-loop-i : goal.decreases-specifying::specifiers-loop-i
decreases-specifying::specifiers-loop-i l = length l.nodes - l.i

abbrev pub decreases-specifying::specifier : goal.decreases-specifying::specifier
decreases-specifying::specifier l = l.n.0 * 8 + 6

abbrev pub decreases-specifying::listed_specifier : goal.decreases-specifying::listed_specifier
decreases-specifying::listed_specifier l = above_all (list_at l.u.now.forest (list_of l.x)) * 8 + 2

abbrev pub decreases-listed::composite_listed : goal.decreases-listed::composite_listed
decreases-listed::composite_listed l = above_all (list_at l.u.now.forest l.list) * 8 + 1

abbrev pub decreases-listed::members : goal.decreases-listed::members
decreases-listed::members l = above_all (list_at l.u.now.forest l.list) * 8

abbrev pub invariant-listed::members-loop-i : goal.invariant-listed::members-loop-i
invariant-listed::members-loop-i l =
    (l.i ≤ length l.nodes) × IsOpen l.into l.s × Goes l.initial.into l.into × AreMembers l.into.known l.ms
    × (Some (record { value = members_shown l.into.known l.ms; state = state_of l.t.texts l.unevaluated l.s l.into }) ≡ members (trees_of l.u.forest (take l.i l.nodes)) (state_of l.t.texts l.unevaluated l.initial.s l.initial.into))

abbrev pub decreases-listed::members-loop-i : goal.decreases-listed::members-loop-i
decreases-listed::members-loop-i l = length l.nodes - l.i

abbrev pub decreases-listed::member : goal.decreases-listed::member
decreases-listed::member l = l.n.0 * 8 + 6

abbrev pub decreases-listed::member_declarators : goal.decreases-listed::member_declarators
decreases-listed::member_declarators l = above_all (list_at l.u.now.forest l.list) * 8

abbrev pub invariant-listed::member_declarators-loop-i : goal.invariant-listed::member_declarators-loop-i
invariant-listed::member_declarators-loop-i l =
    (l.i ≤ length l.nodes) × IsOpen l.into l.s × Goes l.initial.into l.into × AreMembers l.into.known l.ms
    × (Some (record { value = members_shown l.into.known l.ms; state = state_of l.t.texts l.unevaluated l.s l.into })
    ≡ member_declarators (trees_of l.u.forest (take l.i l.nodes)) (tree l.initial.into.known l.base.0) (members_shown l.initial.into.known l.initial.ms) (state_of l.t.texts l.unevaluated l.initial.s l.initial.into))

abbrev pub decreases-listed::member_declarators-loop-i : goal.decreases-listed::member_declarators-loop-i
decreases-listed::member_declarators-loop-i l = length l.nodes - l.i

abbrev pub decreases-listed::member_declarator : goal.decreases-listed::member_declarator
decreases-listed::member_declarator l = l.n.0 * 8 + 5

abbrev pub decreases-listed::enumeration_listed : goal.decreases-listed::enumeration_listed
decreases-listed::enumeration_listed l = above_all (list_at l.u.now.forest l.list) * 8 + 1

abbrev pub decreases-listed::enumerators : goal.decreases-listed::enumerators
decreases-listed::enumerators l = above_all (list_at l.u.now.forest l.list) * 8

abbrev pub invariant-listed::enumerators-loop-i : goal.invariant-listed::enumerators-loop-i
invariant-listed::enumerators-loop-i l =
    (l.i ≤ length l.nodes) × IsOpen l.into l.s × Goes l.initial.into l.into
    × (Some (record { value = l.next; state = state_of l.t.texts l.unevaluated l.s l.into }) ≡ enumerators (trees_of l.u.forest (take l.i l.nodes)) (state_of l.t.texts l.unevaluated l.initial.s l.initial.into))

abbrev pub decreases-listed::enumerators-loop-i : goal.decreases-listed::enumerators-loop-i
decreases-listed::enumerators-loop-i l = length l.nodes - l.i

abbrev pub decreases-listed::enumerator : goal.decreases-listed::enumerator
decreases-listed::enumerator l = l.n.0 * 8 + 6

abbrev pub decreases-listed::enumerator_value : goal.decreases-listed::enumerator_value
decreases-listed::enumerator_value l = above 5 l.value
