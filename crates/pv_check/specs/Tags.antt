-- Structures, unions and enumerations: what declares a tag, what completes it, which members and enumerators it may have.
use Rattle.std.specs.Prelude.{ℕ, ℤ, pos, ◌+ℤ◌, ◌+◌, ◌==◌, ◌^◌, nat_le, Bool, true, false, ◌&&◌, not, if◌then◌else◌, Some, None, is_some, List, [], ◌∷◌, ◌++◌, length}
use Rattle.std.specs.declared.option.Option.{Option}
use Rattle.std.specs.Bool.{beq}
use Rattle.pv_num.specs.Kinds.{fits_of}
use Rattle.pv_num.specs.declared.kinds.IntKind.TheVariants as kind
use Rattle.pv_token.specs.declared.words.Word.{Word}
use Rattle.pv_token.specs.declared.words.Word.TheVariants as word
use Rattle.pv_types.specs.Ty.{Ty, IntTy}
use Rattle.pv_types.specs.Layouts.{Named, look, layout_in, is_complete_in, tag_type}
use Rattle.pv_check.specs.State.{State, After, ConstantOf, TagMeaning, CompositeTag, EnumerationTag, OpenEnumeration, give, env}
use Rattle.pv_check.specs.Scopes.{innermost_scope, find, look_tag, bind_tag, declare, is_file_scope}
use Rattle.pv_typed.specs.Constants.{and_then}
use Rattle.pv_typed.specs.Mains.{named_main}
use Rattle.std.specs.List.{list_all}

-- 6.7.2.1p1: `union`, and not `struct`
abbrev pub is_union_word : Word → Bool
is_union_word word.Union = true
is_union_word _ = false

-- 6.7.2.3p5, 6.7.2.1p8: a new tag, incomplete: its number
abbrev pub new_tag : Option ℕ → Bool → State → After ℕ
new_tag n union s = record { value = length s.unit.headings; state = record s { unit = record s.unit { headings = s.unit.headings ++ (record { name = n; union = union } ∷ []) } } }

-- 6.7.2.3p8: a new tag that is declared in the innermost scope
abbrev pub declared_new : ℕ → Bool → State → After ℕ
declared_new n union s =
    let a = new_tag (Some n) union s in
    record { value = a.value; state = bind_tag n (CompositeTag union a.value) a.state }

-- 6.7.2.3p8, p9: `struct n` or `union n` where the tag stands for this (p2: with the same word), and if for nothing, then it is declared
abbrev pub composite_named : Bool → ℕ → Option TagMeaning → State → Option (After Ty)
composite_named union n None s = Some (record { value = tag_type union (declared_new n union s).value; state = (declared_new n union s).state })
composite_named union n (Some (CompositeTag u k)) s = if beq u union then give (Some (tag_type u k)) s else None
composite_named union n (Some _) s = None

-- 6.7.2.3p3: `enum n` stands behind its enumerators alone
-- worked: enumeration_tag_rows (proofs/TagExamples)
abbrev pub enumeration_named : Option TagMeaning → State → Option (After Ty)
enumeration_named (Some EnumerationTag) s = give (Some (IntTy kind.Int)) s
enumeration_named _ s = None

-- 6.7.2.3p3, p8, p9: a word and a tag, without a list
-- worked: known_tag_rows (proofs/TagExamples)
abbrev pub tag_named : Word → ℕ → State → Option (After Ty)
tag_named word.Struct n s = composite_named false n (look_tag s.scopes n) s
tag_named word.Union n s = composite_named true n (look_tag s.scopes n) s
tag_named word.Enum n s = enumeration_named (look_tag s.scopes n) s
tag_named _ n s = None

-- 6.7.2.3p7: `struct n ;` or `union n ;` is about the innermost scope, whatever n stands for outside
abbrev pub tag_alone : Word → ℕ → State → Option State
tag_alone word.Struct n s = and_then (composite_named false n (find (innermost_scope s.scopes).tags n) s) (λ a. Some a.state)
tag_alone word.Union n s = and_then (composite_named true n (find (innermost_scope s.scopes).tags n) s) (λ a. Some a.state)
tag_alone _ n s = None

-- 6.7.2.3p1: a tag is completed once
abbrev pub is_open : State → ℕ → Bool
is_open s k = not (is_some (look (env s) k))

-- 6.7.2.3p1, p6: before `{`, in the innermost scope the tag is incomplete and of this kind, or it is declared there
abbrev pub opened_named : Bool → ℕ → Option TagMeaning → State → Option (After ℕ)
opened_named union n None s = Some (declared_new n union s)
opened_named union n (Some (CompositeTag u k)) s = if beq u union && is_open s k then give (Some k) s else None
opened_named union n (Some _) s = None

-- 6.7.2.3p5, p6: what stands before `{`: a tag in the innermost scope, or without a tag a new type
abbrev pub tag_before_list : Bool → Option ℕ → State → Option (After ℕ)
tag_before_list union None s = Some (new_tag None union s)
tag_before_list union (Some n) s = opened_named union n (find (innermost_scope s.scopes).tags n) s

-- 6.7.2.1p3: a member has a complete object type; 6.2.3p1, 6.7p3: no other member has its name
-- worked: declared_member_rows (proofs/TagExamples)
abbrev pub with_member : State → List Named → ℕ → Ty → Option (List Named)
with_member s ms n t =
    if is_complete_in (env s) t && list_all (λ (m : Named). not (m.name == n)) ms then Some (ms ++ (record { name = n; t = t } ∷ [])) else None

-- the structures and unions with a tag that are completed at file scope: what `layout` prints, no rule of C17
abbrev pub filed_with : Option ℕ → Ty → State → State
filed_with None t s = s
filed_with (Some n) t s = if is_file_scope s then record s { unit = record s.unit { tags = s.unit.tags ++ (t ∷ []) } } else s

-- 6.7.2.1p8: the tag is complete, with these members
abbrev pub with_done : Bool → ℕ → List Named → State → State
with_done union k ms s = record s { unit = record s.unit { completed = s.unit.completed ++ (record { tag = k; union = union; members = ms } ∷ []) } }

-- 5.2.4.1p1: a structure or union that was completed is no larger than 2 ^ 32 bytes
abbrev pub sized_tag : Option ℕ → Ty → State → Option (After Ty)
sized_tag n t s = if nat_le (layout_in (env s) t).size (2 ^ 32) then give (Some t) (filed_with n t s) else None

-- 6.7.2.1p8: the type is complete from the `}` on; none of its members' specifiers completed it
-- worked: declared_structure_rows (proofs/TagExamples)
abbrev pub completion_of : Bool → Option ℕ → ℕ → List Named → State → Option (After Ty)
completion_of union n k ms s = if is_open s k then sized_tag n (tag_type union k) (with_done union k ms s) else None

-- 6.2.1p7: an enumeration's tag begins before its list; p2 of 6.7.2.3: it is declared once in a scope
abbrev pub opened_enumeration : Option ℕ → State → Option State
opened_enumeration None s = Some s
opened_enumeration (Some n) s = if is_some (find (innermost_scope s.scopes).tags n) then None else Some (bind_tag n OpenEnumeration s)

-- 6.7.2.3p3, 6.7.2.2p4: behind its list the enumeration is complete
abbrev pub closed_enumeration : Option ℕ → State → State
closed_enumeration None s = s
closed_enumeration (Some n) s = bind_tag n EnumerationTag s

-- 6.7.2.2p2: the value fits `int`; at file scope `main` is a function (5.1.2.2.1p1)
abbrev pub may_enumerate : ℕ → ℤ → State → Bool
may_enumerate n k s = fits_of kind.Int k && not (is_file_scope s && named_main s.unit.names (n + 2))

-- 6.7.2.2p3: an enumerator, and the value that the next one has without its own
-- worked: declared_enumerator_rows, enumerator_value_rows (proofs/TagExamples)
abbrev pub enumerator_step : ℕ → ℤ → State → Option (After ℤ)
enumerator_step n k s = if may_enumerate n k s then and_then (declare n (ConstantOf k) s) (give (Some (k +ℤ pos 1))) else None
