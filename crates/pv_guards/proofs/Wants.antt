-- No operation of a run, and no call of the library (C17 7), stops for want of memory in the definitions.
use Rattle.std.proofs.Common.{◌≡◌, ℕ, ℤ, zero, suc, pos, ◌+◌, ◌*◌, ◌%◌, Bool, true, false, ◌&&◌, ◌||◌, not, cond, List, [], ◌∷◌, ◌++◌, length, map, drop, Option, Some, None, Result, Ok, Err, refl}
use Rattle.std.specs.Prelude.{if◌then◌else◌, ◌==◌, ◌+ℤ◌, nat_lt, ◌^◌, ◌/◌}
use Rattle.std.specs.Result.{result_map_both}
use Rattle.pv_num.specs.declared.kinds.IntKind.{IntKind}
use Rattle.pv_num.specs.Kinds.{fits_of, is_character_kind}
use Rattle.pv_fault.specs.declared.faults.Clause.{Clause}
use Rattle.pv_fault.specs.declared.faults.Clause.TheVariants as clause
use Rattle.pv_script.specs.declared.script.Place.{Place}
use Rattle.pv_script.specs.declared.script.Place.TheVariants.{At, Null}
use Rattle.pv_script.specs.Places.{place_of}
use Rattle.pv_prov.specs.declared.names.Prov.{Prov}
use Rattle.pv_prov.specs.declared.names.Stands.{Stands}
use Rattle.pv_prov.specs.Names.{stands, is_empty}
use Rattle.pv_inst.specs.declared.values.Info.{Info}
use Rattle.pv_inst.specs.declared.values.Kind.{Kind}
use Rattle.pv_inst.specs.declared.values.Kind.TheVariants.{Declared, Literal, Heap, Function}
use Rattle.pv_inst.specs.declared.values.CreateError.{CreateError}
use Rattle.pv_inst.specs.declared.values.CreateError.TheVariants as create
use Rattle.pv_inst.specs.declared.values.Test.TheVariants.{Live, Range, Block, Code}
use Rattle.pv_inst.specs.declared.values.Tried.{Tried}
use Rattle.pv_inst.specs.declared.values.Miss.{Miss}
use Rattle.pv_inst.specs.declared.values.Miss.TheVariants as miss
use Rattle.pv_inst.specs.Finding.{name_at, after_name}
use Rattle.pv_inst.specs.Infos.{info_of}
use Rattle.pv_inst.specs.Placing.{Request, place, place_at, place_said, first_overlap, unless_overlap}
use Rattle.pv_inst.specs.Table.{Table, instance_at, count_of, live_bytes}
use Rattle.pv_inst.specs.Use.{use_answer, after_use, is_heap}
use Rattle.pv_inst.specs.TwoPointers.{same_answer}
use Rattle.pv_shadow.specs.declared.byte.Byte.{Byte}
use Rattle.pv_shadow.specs.Whole.{whole_name, number_in}
use Rattle.pv_object.specs.declared.values.Asker.{Asker}
use Rattle.pv_object.specs.declared.values.Asker.TheVariants.{Text, Print}
use Rattle.pv_object.specs.declared.values.Pointer.{Pointer}
use Rattle.pv_object.specs.declared.values.Reach.{Reach}
use Rattle.pv_object.specs.declared.values.Scalar.{Scalar}
use Rattle.pv_object.specs.declared.values.Scalar.TheVariants as scalar
use Rattle.pv_object.specs.declared.values.Value.{Value}
use Rattle.pv_object.specs.declared.values.Value.TheVariants as value
use Rattle.pv_object.specs.declared.values.Stop.{Stop}
use Rattle.pv_object.specs.declared.values.Stop.TheVariants.{NoMemory, Ends}
use Rattle.pv_object.specs.Memory.{Mem}
use Rattle.pv_object.specs.Access.{reach, reach_after, access_check, checked_in, or_stop, readonly_stop, range_stop, first_survivor, is_null, clause_of}
use Rattle.pv_object.specs.Creating.{with_new_bytes}
use Rattle.pv_object.specs.Loading.{value_of, integer_of, pointer_of, pointer_named, loaded_test, is_trap, load}
use Rattle.pv_object.specs.Operations.{truth, equal_after, recast_by, to_int_after, to_int, move_under, moved_to, as_address, code_in, code_by, code, same_stop, together, order}
use Rattle.pv_object.specs.Encoding.{size_of}
use Rattle.pv_shadow.specs.Bytes.{bytes_from}
use Rattle.pv_library.specs.declared.library.Library.{Library}
use Rattle.pv_library.specs.declared.library.Library.TheVariants as library
use Rattle.pv_libc.specs.declared.values.Arg.{Arg}
use Rattle.pv_libc.specs.declared.values.Note.{Note}
use Rattle.pv_libc.specs.declared.values.Reply.{Reply}
use Rattle.pv_libc.specs.Steps.{Now, Did, answer_now, next_by, next, about_by, about, with_notes, reached_by, reach_for, bytes_further}
use Rattle.pv_libc.specs.Heap.{told_of, grant_of, request_of_bytes, pointer_or_null, malloc, pointer_to_zeros, calloc, block_stop, block_in, the_block, block_answer, block_by, block, end_of_block, free, reply_after_move, resize_of, realloc}
use Rattle.pv_libc.specs.HeapParts.{heap_request}
use Rattle.pv_libc.specs.Blocks.{share, copy, memset, memcmp}
use Rattle.pv_libc.specs.Characters.{character_of, character_loaded, character_in, character_at, characters_from, string_from, most, string_at}
use Rattle.pv_libc.specs.Strings.{strlen, compared_from, strcpy}
use Rattle.pv_libc.specs.Arguments.{string_of, address_of}
use Rattle.pv_libc.specs.Formats.{piece_at, number_piece}
use Rattle.pv_libc.specs.FormatParts.{percent_piece, given_of}
use Rattle.pv_libc.specs.Printing.{number_done, string_done, text_of_address, address_by, address_done, Printed, piece_done, printed_from, format_of}
use Rattle.pv_libc.specs.Calls.{size, number, pointer, argument_at, offer, text_of_format, printf, reply_to_call}
use Rattle.pv_num.specs.declared.kinds.IntKind.TheVariants.{UChar, ULong}
use Rattle.pv_guards.specs.Wants.{had_memory, NeverWants}

-- a request for an instance is refused, if it is, for another reason
abbrev IsGranted : Result ℕ CreateError → Type 0
IsGranted (Err create.NoMemory) = ⊥
IsGranted r = true ≡ true

abbrev pub Had : {A : Type 0} → Result A Stop → Type 0
Had r = had_memory r ≡ true

had-if : {A : Type 0} (c : Bool) (r s : Result A Stop × Table) → Had r.0 → Had s.0 → Had (cond c r s).0
had-if true r s h g = h
had-if false r s h g = g

pub had-or : {A : Type 0} (c : Bool) (r s : Result A Stop) → Had r → Had s → Had (cond c r s)
had-or true r s h g = h
had-or false r s h g = g

mapped : {A B : Type 0} (f : A → B) (g : Miss → Stop) (r : Result A Miss) → ((m : Miss) → Had {A = B} (Err (g m))) → Had (result_map_both f g r)
mapped f g (Ok a) h = refl
mapped f g (Err m) h = h m

again : {A B : Type 0} (f : A → B) (r : Result A Stop) → Had r → Had (result_map_both f (λ (s : Stop). s) r)
again f (Ok a) h = refl
again f (Err (Ends v)) h = refl
again f (Err NoMemory) h = absurd cc

pub range-had : (A : Type 0) (c : Clause) (m : Miss) → Had {A = A} (Err (range_stop c m))
range-had A c miss.Empty = refl
range-had A c miss.Ended = refl
range-had A c miss.Outside = refl
range-had A c miss.Block = refl
range-had A c miss.Apart = refl
range-had A c miss.Undecided = refl

same-had : (A : Type 0) (c : Clause) (m : Miss) → Had {A = A} (Err (same_stop c m))
same-had A c miss.Empty = refl
same-had A c miss.Ended = refl
same-had A c miss.Outside = refl
same-had A c miss.Block = refl
same-had A c miss.Apart = refl
same-had A c miss.Undecided = refl

-- ---- accesses (6.5.3.2p4)

write-had : (c : Bool) (k : Kind) (r : Reach) → Had (or_stop (if c then readonly_stop k else None) r)
write-had false k r = refl
write-had true Literal r = refl
write-had true (Declared true) r = refl
write-had true (Declared false) r = refl
write-had true Heap r = refl
write-had true Function r = refl

checked-had : (i : ℕ) (c : Clause) (p : Pointer) (n align : ℕ) (write : Bool) (tried : Tried) (o : Option Info) → Had (checked_in i c p n align write tried o)
checked-had i c p n align write tried None = refl
checked-had i c p n align write tried (Some x) = had-or (p.address % align == 0) _ _ (write-had (write && not (n == 0)) x.kind _) refl

check-had : (T : Table) (o : Option ℕ) (c : Clause) (p : Pointer) (n align : ℕ) (write : Bool) (tried : Tried) → Had (access_check T o c p n align write tried)
check-had T None c p n align write tried = refl
check-had T (Some i) c p n align write tried = checked-had i c p n align write tried (info_of (instance_at T.instances i))

after-had : (T : Table) (p : Pointer) (n align : ℕ) (write : Bool) (c : Clause) (r : Result Tried Miss) → Had (reach_after T p n align write c r).0
after-had T p n align write c (Err m) = range-had Reach c m
after-had T p n align write c (Ok tried) = check-had (after_use T p.prov (Ok tried)) (first_survivor (stands T.pairs p.prov) tried) c p n align write tried

pub reach-had : (T : Table) (p : Pointer) (n align : ℕ) (write : Bool) (by : Asker) → Had (reach T p n align write by).0
reach-had T p n align write by = had-if (is_null p) _ _ refl (had-if (is_empty p.prov) _ _ refl (after-had T p n align write (clause_of by) (use_answer T p.prov (Range p.address n))))

-- ---- loads (6.2.6.1p5)

test-had : (T : Table) (p : Pointer) → Had (loaded_test T p).0
test-had T p = mapped _ _ (use_answer T p.prov Live) (λ m. refl)

named-had : (T : Table) (o : Option Prov) (a : ℕ) → Had (pointer_named T o a).0
named-had T (Some p) a = test-had T (record { address = a; prov = p })
named-had T None a = test-had (after_name T a) (record { address = a; prov = name_at T a })

integer-had : (T : Table) (k : IntKind) (bytes : List Byte) (o : Option ℕ) → Had (integer_of T k bytes o).0
integer-had T k bytes None = had-if (is_character_kind k) _ _ refl refl
integer-had T k bytes (Some n) = had-if (is_trap k n) _ _ refl refl

pointer-had : (T : Table) (bytes : List Byte) (o : Option ℕ) → Had (pointer_of T bytes o).0
pointer-had T bytes None = refl
pointer-had T bytes (Some a) = named-had T (whole_name bytes) a

pub value-had : (T : Table) (bytes : List Byte) (s : Scalar) → Had (value_of T bytes s).0
value-had T bytes (scalar.Int k) = integer-had T k bytes (number_in bytes)
value-had T bytes scalar.Pointer = pointer-had T bytes (number_in bytes)

-- ---- operations on pointers

truth-had : (T : Table) (p : Pointer) → Had (truth T p).0
truth-had T p = mapped _ _ (use_answer T p.prov Live) (λ m. refl)

equal-had : (T : Table) (p q : Pointer) (r : Result Tried Miss) → Had (equal_after T p q r).0
equal-had T p q (Err m) = refl
equal-had T p q (Ok left) = mapped _ _ (use_answer (after_use T p.prov (Ok left)) q.prov Live) (λ m. refl)

recast-had : (p : Pointer) (align : ℕ) (r : Result Tried Miss) → Had (recast_by p align r)
recast-had p align (Ok tried) = had-or (p.address % align == 0) _ _ refl refl
recast-had p align (Err m) = refl

number-had : (T : Table) (p : Pointer) (k : IntKind) (r : Result Tried Miss) → Had (to_int_after T p k r).0
number-had T p k (Err m) = refl
number-had T p k (Ok tried) = had-if (fits_of k (pos p.address)) _ _ refl refl

pub to_int-had : (T : Table) (p : Pointer) (k : IntKind) → Had (to_int T p k).0
to_int-had T p k = number-had T p k (use_answer T p.prov Live)

moved-had : (c : Clause) (T : Table) (p : Pointer) (a : ℕ) → Had (moved_to c T p a).0
moved-had c T p a = mapped _ _ (use_answer T p.prov (Range a 0)) (range-had (Pointer × Tried) c)

move-had : (c : Clause) (T : Table) (p : Pointer) (by : ℤ) → Had (move_under c T p by).0
move-had c T p by = had-if (is_null p) _ _ refl (had-if (is_empty p.prov) _ _ refl (moved-had c T p (as_address (pos p.address +ℤ by))))

in-had : (o : Option ℕ) (tried : Tried) → Had (code_in o tried)
in-had None tried = refl
in-had (Some i) tried = refl

by-had : (s : Stands) (r : Result Tried Miss) → Had (code_by s r)
by-had s (Ok tried) = in-had (first_survivor s tried) tried
by-had s (Err m) = range-had (ℕ × Tried) clause.Indirection m

code-had : (T : Table) (p : Pointer) → Had (code T p).0
code-had T p = had-if (is_null p) _ _ refl (had-if (is_empty p.prov) _ _ refl (by-had (stands T.pairs p.prov) (use_answer T p.prov (Code p.address))))

together-had : (c : Clause) (T : Table) (p q : Pointer) → Had (together c T p q).0
together-had c T p q = had-if (is_null p || is_null q) _ _ refl (mapped _ (same_stop c) (same_answer T p.prov q.prov) (same-had (Tried × Tried) c))

order-had : (T : Table) (p q : Pointer) → Had (order T p q).0
order-had T p q = again _ (together clause.OrderOfPointers T p q).0 (together-had clause.OrderOfPointers T p q)

pub never-wants : (T : Table) → NeverWants T
never-wants T = record {
  truth = truth-had T;
  equality = λ p q. equal-had T p q (use_answer T p.prov Live);
  pointer = λ n. refl;
  recast = λ p align. recast-had p align (use_answer T p.prov Live);
  number = to_int-had T;
  shift = λ p by. move-had clause.AdditionOfPointers T p by;
  select = λ p offset. move-had clause.Indirection T p (pos offset);
  code = code-had T;
  together = λ c p q. together-had c T p q;
  order = order-had T;
  access = reach-had T;
  load = value-had T;
}

-- ---- the library: a step behind another one, and what is noted

abbrev HadStep : {A : Type 0} → Did A → Type 0
HadStep d = Had d.answer

had-next-by : {A B : Type 0} (r : Result A Stop) (d : Did A) (rest : A → Now → Did B) → Had r → ((a : A) (S : Now) → HadStep (rest a S)) → HadStep (next_by r d rest)
had-next-by (Ok a) d rest h g = g a d.after
had-next-by (Err (Ends v)) d rest h g = refl
had-next-by (Err NoMemory) d rest h g = absurd cc

had-next : {A B : Type 0} (d : Did A) (rest : A → Now → Did B) → HadStep d → ((a : A) (S : Now) → HadStep (rest a S)) → HadStep (next d rest)
had-next d rest h g = had-next-by d.answer d rest h g

had-about-by : {A : Type 0} (r : Result A Stop) (note : Note) (d : Did A) → Had r → HadStep d → HadStep (about_by r note d)
had-about-by (Ok a) note d h g = g
had-about-by (Err (Ends v)) note d h g = refl
had-about-by (Err NoMemory) note d h g = absurd cc

had-about : {A : Type 0} (note : Note) (d : Did A) → HadStep d → HadStep (about note d)
had-about note d h = had-about-by d.answer note d h h

had-choice : {A : Type 0} (c : Bool) (d e : Did A) → HadStep d → HadStep e → HadStep (cond c d e)
had-choice true d e h g = h
had-choice false d e h g = g

reached : (by : Asker) (write : Bool) (g : _) (n : ℕ) (S : Now) → HadStep (reach_for by write g n S)
reached by write g n S = had-about g.stopped (reached_by by write g n S (reach S.memory.table g.pointer n 1 write by)) (reach-had S.memory.table g.pointer n 1 write by)

-- ---- 7.22.3

overlap-had : (o : Option (ℕ × ℕ)) (T : Table) (r : Request) (k base : ℕ) (default : Bool) → IsGranted (unless_overlap o T r k base default).0
overlap-had None T r k base default = refl
overlap-had (Some hit) T r k base default = refl

granted-if : (c : Bool) (r s : Result ℕ CreateError × Table) → IsGranted r.0 → IsGranted s.0 → IsGranted (cond c r s).0
granted-if true r s h g = h
granted-if false r s h g = g

at-had : (T : Table) (r : Request) (k base : ℕ) (default : Bool) → IsGranted (place_at T r k base default).0
at-had T r k base default =
    granted-if (nat_lt base 4096 || nat_lt (2 ^ 47) (base + r.size)) _ _ refl
    (granted-if (not (base % r.align == 0)) _ _ refl (overlap-had (first_overlap T.instances base r.size) T r k base default))

said-had : (o : Option Place) (T : Table) (r : Request) (k : ℕ) → IsGranted (place_said o T r k).0
said-had None T r k = at-had T r k ((T.cursor + 15) / 16 * 16) true
said-had (Some (At base)) T r k = at-had T r k base false
said-had (Some Null) T r k = refl

denied-had : (c : Bool) (n size : ℕ) → IsGranted (Err (if c then create.Denied else create.Storage n size))
denied-had true n size = refl
denied-had false n size = refl

place-had : (T : Table) (r : Request) → IsGranted (place T r).0
place-had T r = granted-if (nat_lt (2 ^ 24) (live_bytes T.instances + r.size)) _ _ (denied-had (is_heap r.kind) (live_bytes T.instances) r.size) (said-had (place_of T.script r.text (count_of T r.name + 1)) T r (count_of T r.name + 1))

grant-had : (S : Now) (M : Mem) (got : Result ℕ CreateError × Table) → IsGranted got.0 → HadStep (grant_of S (with_new_bytes M got))
grant-had S M (Ok i, U) h = refl
grant-had S M (Err create.Denied, U) h = refl
grant-had S M (Err create.NoMemory, U) h = absurd h
grant-had S M (Err (create.Storage live n), U) h = refl
grant-had S M (Err (create.Range k a), U) h = refl
grant-had S M (Err (create.Misaligned k a), U) h = refl
grant-had S M (Err (create.Overlap k a other), U) h = refl

requested : (n : ℕ) (S : Now) → HadStep (request_of_bytes n S)
requested n S = had-choice (n == 0) _ _ refl (grant-had S S.memory (place S.memory.table (heap_request n)) (place-had S.memory.table (heap_request n)))

pointed : (r : Result ℕ Reply) (S : Now) → HadStep (pointer_or_null r S)
pointed (Ok i) S = refl
pointed (Err r) S = refl

zeroed : (r : Result ℕ Reply) (S : Now) → HadStep (pointer_to_zeros r S)
zeroed (Ok i) S = refl
zeroed (Err r) S = refl

malloc-had : (n : ℕ) (S : Now) → HadStep (malloc n S)
malloc-had n S = had-next (request_of_bytes n S) pointer_or_null (requested n S) (λ r T. pointed r T)

calloc-had : (count n : ℕ) (S : Now) → HadStep (calloc count n S)
calloc-had count n S = had-next (request_of_bytes (count * n) S) pointer_to_zeros (requested (count * n) S) (λ r T. zeroed r T)

block-stop-had : (A : Type 0) (c : Clause) (m : Miss) → Had {A = A} (Err (block_stop c m))
block-stop-had A c miss.Empty = refl
block-stop-had A c miss.Ended = refl
block-stop-had A c miss.Outside = refl
block-stop-had A c miss.Block = refl
block-stop-had A c miss.Apart = refl
block-stop-had A c miss.Undecided = refl

block-in-had : (c : Clause) (i : ℕ) (o : Option Info) → Had (block_in c i o)
block-in-had c i None = refl
block-in-had c i (Some x) = refl

the-block-had : (c : Clause) (M : Mem) (o : Option ℕ) → Had (the_block c M o)
the-block-had c M None = refl
the-block-had c M (Some i) = block-in-had c i (told_of M i)

block-answer-had : (c : Clause) (M : Mem) (p : Pointer) (r : Result Tried Miss) → Had (block_answer c M p r)
block-answer-had c M p (Ok tried) = the-block-had c M (first_survivor (stands M.table.pairs p.prov) tried)
block-answer-had c M p (Err m) = block-stop-had ℕ c m

block-had : (c : Clause) (g : _) (S : Now) → HadStep (block c g S)
block-had c g S =
    let found = use_answer S.memory.table g.pointer.prov (Block g.pointer.address) in
    had-about g.stopped (block_by c g S found) (block-answer-had c S.memory g.pointer found)

free-had : (g : _) (S : Now) → HadStep (free g S)
free-had g S = had-choice (is_null g.pointer) _ _ refl (had-next (block clause.Freeing g S) end_of_block (block-had clause.Freeing g S) (λ i T. refl))

moved : (i : ℕ) (r : Result ℕ Reply) (S : Now) → HadStep (reply_after_move i r S)
moved i (Ok j) S = refl
moved i (Err r) S = refl

resized : (n i : ℕ) (S : Now) → HadStep (resize_of n i S)
resized n i S = had-choice (n == 0) _ _ refl (had-next (request_of_bytes n S) (reply_after_move i) (requested n S) (λ r T. moved i r T))

realloc-had : (g : _) (n : ℕ) (S : Now) → HadStep (realloc g n S)
realloc-had g n S = had-choice (is_null g.pointer) _ _ (malloc-had n S) (had-next (block clause.Reallocating g S) (resize_of n) (block-had clause.Reallocating g S) (λ i T. resized n i T))

-- ---- 7.24, 7.1.1p1

copy-had : (apart : Bool) (to from : _) (n : ℕ) (S : Now) → HadStep (copy apart to from n S)
copy-had apart to from n S =
    had-next (reach_for Text true to n S) _ (reached Text true to n S) (λ t T.
    had-next (reach_for Text false from n T) _ (reached Text false from n T) (λ f U. had-choice (apart && share to.pointer.address from.pointer.address n) _ _ refl refl))

memset-had : (g : _) (c : ℤ) (n : ℕ) (S : Now) → HadStep (memset g c n S)
memset-had g c n S = had-next (reach_for Text true g n S) _ (reached Text true g n S) (λ r T. refl)

character-had : (r : Result (Value × Tried) Stop) → Had r → Had (character_of r)
character-had (Ok ((value.Int n), tried)) h = refl
character-had (Ok (value.Unset, tried)) h = refl
character-had (Ok ((value.Pointer p), tried)) h = refl
character-had (Err (Ends v)) h = refl
character-had (Err NoMemory) h = absurd cc

in-place : (g : _) (a : ℕ) (S : Now) → HadStep (character_in g a S)
in-place g a S =
    let got = load S.memory a (scalar.Int UChar) in
    had-about g.stopped (character_loaded S got) (character-had got.0 (value-had S.memory.table (bytes_from S.memory.bytes a (size_of (scalar.Int UChar))) (scalar.Int UChar)))

at-place : (by : Asker) (g : _) (i : ℕ) (S : Now) → HadStep (character_at by g i S)
at-place by g i S = had-next (reach_for by false (bytes_further g i) 1 S) _ (reached by false (bytes_further g i) 1 S) (λ r T. in-place g r.address T)

characters-had : (n : ℕ) (g : _) (a : ℕ) (read : List ℕ) (S : Now) → HadStep (characters_from n g a read S)
characters-had zero g a read S = refl
characters-had (suc n) g a read S = had-next (character_in g a S) _ (in-place g a S) (λ c T. characters-had n g (a + 1) (read ++ c ∷ []) T)

string-had : (k : ℕ) (by : Asker) (g : _) (read : List ℕ) (S : Now) → HadStep (string_from k by g read S)
string-had zero by g read S = refl
string-had (suc k) by g read S = had-next (character_at by g (length read) S) _ (at-place by g (length read) S) (λ c T. had-choice (c == 0) _ _ refl (string-had k by g (read ++ c ∷ []) T))

memcmp-had : (p q : _) (n : ℕ) (S : Now) → HadStep (memcmp p q n S)
memcmp-had p q n S =
    had-next (reach_for Text false p n S) _ (reached Text false p n S) (λ l T.
    had-next (reach_for Text false q n T) _ (reached Text false q n T) (λ r U.
    had-next (characters_from n p l.address [] U) _ (characters-had n p l.address [] U) (λ ls V. had-next (characters_from n q r.address [] V) _ (characters-had n q r.address [] V) (λ rs W. refl))))

strlen-had : (g : _) (S : Now) → HadStep (strlen g S)
strlen-had g S = had-next (string_at Text g S) _ (string-had most Text g [] S) (λ s T. refl)

compared-had : (k : ℕ) (p q : _) (i : ℕ) (S : Now) → HadStep (compared_from k p q i S)
compared-had zero p q i S = refl
compared-had (suc k) p q i S =
    had-next (character_at Text p i S) _ (at-place Text p i S) (λ a T.
    had-next (character_at Text q i T) _ (at-place Text q i T) (λ c U. had-choice (not (a == c)) _ _ refl (had-choice (a == 0) _ _ refl (compared-had k p q (i + 1) U))))

strcpy-had : (to from : _) (S : Now) → HadStep (strcpy to from S)
strcpy-had to from S =
    had-next (string_at Text from S) _ (string-had most Text from [] S) (λ s T.
    had-next (reach_for Text true to (length s + 1) T) _ (reached Text true to (length s + 1) T) (λ t U. had-choice (share to.pointer.address from.pointer.address (length s + 1)) _ _ refl refl))

-- ---- 7.21.6.1

-- What holds of the place in the format that a step leads to. The enum of these places is the library's own, so each is named here by a byte of a format that
-- leads to it: to the text, behind a `%`, and behind the `l` of a conversion.
abbrev Reaches : (Printed → Type 0) → Result Printed Stop → Type 0
Reaches P (Ok at) = P at
Reaches P (Err y) = ⊥

abbrev to_text : Now → Did Printed
to_text S = piece_done (percent_piece 37) [] [] S

abbrev to_percent : Now → Did Printed
to_percent S = next (to_text S) (λ at T. piece_done (piece_at at.within 37) [] [] T)

abbrev to_long : Now → Did Printed
to_long S = piece_done (percent_piece 108) [] [] S

-- as a record, so that what is said of a step names the step itself
record Stops (A : Type 0) (d : Did A) : Type 0 where
  had : HadStep d

number-text-had : (text : ℤ → List ℕ) (o : Option ℤ) (S : Now) → Stops (List ℕ) (number_done text o S)
number-text-had text None S = record { had = refl }
number-text-had text (Some n) S = record { had = refl }

string-text-had : (o : Option _) (S : Now) → Stops (List ℕ) (string_done o S)
string-text-had None S = record { had = refl }
string-text-had (Some g) S = record { had = string-had most Print g [] S }

text-had : (p : Pointer) (r : Result (ℤ × Tried) Stop) → Had r → Had (text_of_address p r)
text-had p (Ok n) h = refl
text-had p (Err (Ends v)) h = refl
text-had p (Err NoMemory) h = absurd cc

address-text-had : (o : Option _) (S : Now) → Stops (List ℕ) (address_done o S)
address-text-had None S = record { had = refl }
address-text-had (Some g) S =
    let got = to_int S.memory.table g.pointer ULong in
    record { had = had-about g.stopped (address_by g S got) (text-had g.pointer got.0 (to_int-had S.memory.table g.pointer ULong)) }

-- the format from a place on, with any arguments left
abbrev Prints : List ℕ → Result Printed Stop → Type 0
Prints cs r = Reaches (λ at. (left : List _) (text : List ℕ) (S : Now) → Stops (List ℕ) (printed_from cs (record at { left = left; text = text }) S)) r

-- a step of the format, and what is behind it, with any arguments left
abbrev Goes : {X : Type 0} → List ℕ → (List X → List ℕ → Now → Did Printed) → Type 0
Goes cs f = (left : List _) (text : List ℕ) (S : Now) → Stops (List ℕ) (next (f left text S) (λ at T. printed_from cs at T))

if-goes : (cs : List ℕ) (c : Bool) (x y : _) → Goes cs (piece_done x) → Goes cs (piece_done y) → Goes cs (piece_done (if c then x else y))
if-goes cs true x y h g = h
if-goes cs false x y h g = g

-- a step that takes an argument, if there is one
taking : {X : Type 0} (cs : List ℕ) (f : List X → List ℕ → Now → Did Printed)
    → ((text : List ℕ) (S : Now) → Stops (List ℕ) (next (f [] text S) (λ at T. printed_from cs at T)))
    → ((x : X) (left : List X) (text : List ℕ) (S : Now) → Stops (List ℕ) (next (f (x ∷ left) text S) (λ at T. printed_from cs at T)))
    → Goes cs f
taking cs f h g [] text S = h text S
taking cs f h g (x ∷ left) text S = g x left text S

-- a conversion's text, and then the rest of the format
taken-by : (cs : List ℕ) (S : Now) (r : Result (List ℕ) Stop) (d : Did (List ℕ)) (at : List ℕ → Printed) → Had r → ((t : List ℕ) (T : Now) → Stops (List ℕ) (printed_from cs (at t) T))
    → HadStep (next (next_by r d (λ t T. answer_now (at t) T)) (λ at T. printed_from cs at T))
taken-by cs S (Ok t) d at h g = (g t d.after).had
taken-by cs S (Err (Ends v)) d at h g = refl
taken-by cs S (Err NoMemory) d at h g = absurd cc

taken : (cs : List ℕ) (S : Now) (d : Did (List ℕ)) (at : List ℕ → Printed) → Stops (List ℕ) d → ((t : List ℕ) (T : Now) → Stops (List ℕ) (printed_from cs (at t) T))
    → Stops (List ℕ) (next (next d (λ t T. answer_now (at t) T)) (λ at T. printed_from cs at T))
taken cs S d at h g = record { had = taken-by cs S d.answer d at h.had g }

number-goes : (S : Now) (cs : List ℕ) → Prints cs (to_text S).answer → (long : Bool) (c : ℕ) → Goes cs (piece_done (number_piece long c))
number-goes S cs h long c =
    if-goes cs (c == 100) _ _ (taking cs _ (λ text T. record { had = refl }) (λ x left text T. taken cs T _ _ (number-text-had _ _ T) (λ t. h left (text ++ t))))
    (if-goes cs (c == 117) _ _ (taking cs _ (λ text T. record { had = refl }) (λ x left text T. taken cs T _ _ (number-text-had _ _ T) (λ t. h left (text ++ t))))
    (if-goes cs (c == 120) _ _ (taking cs _ (λ text T. record { had = refl }) (λ x left text T. taken cs T _ _ (number-text-had _ _ T) (λ t. h left (text ++ t))))
    (λ left text T. record { had = refl })))

percent-goes : (S : Now) (cs : List ℕ) → Prints cs (to_text S).answer → Prints cs (to_long S).answer → (c : ℕ) → Goes cs (piece_done (percent_piece c))
percent-goes S cs h g c =
    if-goes cs (c == 37) _ _ (λ left text. h left _)
    (if-goes cs (c == 108) _ _ (λ left text. g left _)
    (if-goes cs (c == 99) _ _ (taking cs _ (λ text T. record { had = refl }) (λ x left text T. taken cs T _ _ (number-text-had _ _ T) (λ t. h left (text ++ t))))
    (if-goes cs (c == 115) _ _ (taking cs _ (λ text T. record { had = refl }) (λ x left text T. taken cs T _ _ (string-text-had (given_of x.stopped (string_of x.arg.shape x.arg.value)) T) (λ t. h left (text ++ t))))
    (if-goes cs (c == 112) _ _ (taking cs _ (λ text T. record { had = refl }) (λ x left text T. taken cs T _ _ (address-text-had (given_of x.stopped (address_of x.arg.shape x.arg.value)) T) (λ t. h left (text ++ t))))
    (number-goes S cs h false c)))))

prints : (S : Now) (cs : List ℕ) → Prints cs (to_text S).answer × Prints cs (to_percent S).answer × Prints cs (to_long S).answer
prints S [] = (λ left text T. record { had = refl }, λ left text T. record { had = refl }, λ left text T. record { had = refl })
prints S (c ∷ cs) =
    let h = prints S cs in (
      if-goes cs (c == 37) _ _ (λ left text. h.1 left _) (λ left text. h.0 left _),
      percent-goes S cs h.0 h.2 c,
      number-goes S cs h.0 true c,
    )

printf-had : (args : List Arg) (S : Now) → HadStep (printf args S)
printf-had args S =
    had-next (text_of_format args S) _ ((prints S (format_of S.memory (pointer args 0).prov)).0 (map (offer S.memory) (drop 1 args)) [] S).had (λ text T. refl)

-- ---- each function

pub call-had : (f : Library) (args : List Arg) (M : Mem) → Had (reply_to_call f args M).answer
call-had library.Malloc args M = malloc-had (size args 0) (with_notes M [])
call-had library.Calloc args M = calloc-had (size args 0) (size args 1) (with_notes M [])
call-had library.Free args M = free-had (argument_at args 0 M) (with_notes M [])
call-had library.Realloc args M = realloc-had (argument_at args 0 M) (size args 1) (with_notes M [])
call-had library.Memcpy args M = copy-had true (argument_at args 0 M) (argument_at args 1 M) (size args 2) (with_notes M [])
call-had library.Memmove args M = copy-had false (argument_at args 0 M) (argument_at args 1 M) (size args 2) (with_notes M [])
call-had library.Memset args M = memset-had (argument_at args 0 M) (number args 1) (size args 2) (with_notes M [])
call-had library.Memcmp args M = memcmp-had (argument_at args 0 M) (argument_at args 1 M) (size args 2) (with_notes M [])
call-had library.Strlen args M = strlen-had (argument_at args 0 M) (with_notes M [])
call-had library.Strcmp args M = compared-had most (argument_at args 0 M) (argument_at args 1 M) 0 (with_notes M [])
call-had library.Strcpy args M = strcpy-had (argument_at args 0 M) (argument_at args 1 M) (with_notes M [])
call-had library.Exit args M = refl
call-had library.Abort args M = refl
call-had library.Printf args M = printf-had args (with_notes M [])
