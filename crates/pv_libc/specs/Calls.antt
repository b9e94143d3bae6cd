-- A call of a library function: its reply, the memory after it, and what it prints.
use Rattle.std.specs.Prelude.{ℕ, ℤ, pos, List, [], drop, length, map, slice_get, Option, if◌then◌else◌, true, false}
use Rattle.pv_num.specs.declared.kinds.IntKind.TheVariants.{Int, ULong}
use Rattle.pv_num.specs.Kinds.{bits_of, convert_of, fits_of}
use Rattle.pv_prov.specs.declared.names.Prov.{Prov}
use Rattle.pv_prov.specs.declared.names.Prov.TheVariants.{Empty}
use Rattle.pv_prov.specs.Names.{stands, pair_of}
use Rattle.pv_library.specs.declared.library.Library.{Library}
use Rattle.pv_library.specs.declared.library.Library.TheVariants as library
use Rattle.pv_object.specs.declared.values.Pointer.{Pointer}
use Rattle.pv_object.specs.declared.values.Value.{Value}
use Rattle.pv_object.specs.declared.values.Value.TheVariants as value
use Rattle.pv_object.specs.Memory.{Mem}
use Rattle.pv_libc.specs.declared.values.Arg.{Arg}
use Rattle.pv_libc.specs.declared.values.Note.{Note}
use Rattle.pv_libc.specs.declared.values.Note.TheVariants.{Stopped}
use Rattle.pv_libc.specs.declared.values.Reply.{Reply}
use Rattle.pv_libc.specs.declared.values.Reply.TheVariants as reply
use Rattle.pv_libc.specs.declared.values.Given.{Given}
use Rattle.pv_libc.specs.declared.values.Offered.{Offered}
use Rattle.pv_libc.specs.Steps.{Now, Did, answer_now, next, with_notes}
use Rattle.pv_libc.specs.Heap.{malloc, calloc, free, realloc}
use Rattle.pv_libc.specs.Blocks.{memset, memcmp, copy}
use Rattle.pv_libc.specs.Strings.{strlen, strcpy, compared_from}
use Rattle.pv_libc.specs.declared.formats.Within.TheVariants as within
use Rattle.pv_libc.specs.Printing.{printed_from, format_of}
use Rattle.std.specs.Result.{result_unwrap_or}
use Rattle.std.specs.Option.{option_map_or}
use Rattle.pv_libc.specs.Characters.{most}

-- the number in an argument. Typing makes sure that it is there and of the parameter's type (6.5.2.2p7)
abbrev pub number_in : Value → ℤ
number_in (value.Int n) = n
number_in _ = pos 0

-- the pointer in an argument (6.5.2.2p7)
abbrev pub pointer_in : Value → Pointer
pointer_in (value.Pointer p) = p
pointer_in _ = record { address = 0; prov = Empty }

-- an argument's value
abbrev pub value_in : Option Arg → Value
value_in o = option_map_or (λ (x : Arg). x.value) o value.Unset

-- 6.5.2.2p7: argument number i, from 0, as a number
abbrev pub number : List Arg → ℕ → ℤ
number args i = number_in (value_in (slice_get args i))

-- 7.19p2: argument number i, from 0, as a `size_t`
abbrev pub size : List Arg → ℕ → ℕ
size args i = bits_of ULong (number args i)

-- 6.5.2.2p7: argument number i, from 0, as a pointer
abbrev pub pointer : List Arg → ℕ → Pointer
pointer args i = pointer_in (value_in (slice_get args i))

-- the memory model: what is noted last where a check of the pointer stops the call: the candidates of its name, as they stood before the whole call
abbrev pub stop_note : Mem → Prov → Note
stop_note M p = Stopped (stands M.table.pairs p).low (stands M.table.pairs p).high (pair_of p)

-- 6.5.2.2p7: an argument that is a pointer, with that note
abbrev pub argument_at : List Arg → ℕ → Mem → Given
argument_at args i M = record { pointer = pointer args i; stopped = stop_note M (pointer args i).prov }

-- 7.21.6.1p2: an argument behind the format, with that note
abbrev pub offer : Mem → Arg → Offered
offer M x = record { arg = x; stopped = stop_note M (pointer_in x.value).prov }

-- 7.22.4.4p1, p5: the status is an `int`
abbrev pub status : List Arg → ℕ → ℤ
status args i = if fits_of Int (number args i) then number args i else pos 0

-- 7.21.6.3p2: the text of the format and the arguments behind it
abbrev pub text_of_format : List Arg → Now → Did (List ℕ)
text_of_format args S =
    printed_from (format_of S.memory (pointer args 0).prov) (record { within = within.Text; left = map (offer S.memory) (drop 1 args); text = [] }) S

-- 7.21.6.3p3: how many bytes are printed
abbrev pub printf : List Arg → Now → Did Reply
printf args S = next (text_of_format args S) (λ text T. answer_now (reply.Value (value.Int (convert_of Int (pos (length text))))) T)

-- 7.21.6.3, 7.22.3, 7.22.4, 7.24: each function with its arguments; `memcpy` (7.24.2.1p2) and `memmove` (7.24.2.2p2), as if by way of another array,
-- differ in whether the arrays may share bytes
abbrev pub called_in : Library → List Arg → Now → Did Reply
called_in library.Malloc a S = (malloc (size a 0) S)
called_in library.Calloc a S = (calloc (size a 0) (size a 1) S)
called_in library.Free a S = (free (argument_at a 0 S.memory) S)
called_in library.Realloc a S = (realloc (argument_at a 0 S.memory) (size a 1) S)
called_in library.Memcpy a S = (copy true (argument_at a 0 S.memory) (argument_at a 1 S.memory) (size a 2) S)
called_in library.Memmove a S = (copy false (argument_at a 0 S.memory) (argument_at a 1 S.memory) (size a 2) S)
called_in library.Memset a S = (memset (argument_at a 0 S.memory) (number a 1) (size a 2) S)
called_in library.Memcmp a S = (memcmp (argument_at a 0 S.memory) (argument_at a 1 S.memory) (size a 2) S)
called_in library.Strlen a S = (strlen (argument_at a 0 S.memory) S)
called_in library.Strcmp a S = (compared_from most (argument_at a 0 S.memory) (argument_at a 1 S.memory) 0 S)
called_in library.Strcpy a S = (strcpy (argument_at a 0 S.memory) (argument_at a 1 S.memory) S)
-- 7.22.4.4
called_in library.Exit a S = answer_now (reply.Exit (status a 0)) S
-- 7.22.4.1
called_in library.Abort a S = answer_now reply.Abort S
called_in library.Printf a S = printf a S

-- 7.1.4: a call: its reply or why it stops, the memory that it leaves, and what happened within it, in order
abbrev pub reply_to_call : Library → List Arg → Mem → Did Reply
reply_to_call f args M = called_in f args (with_notes M [])

-- 7.21.6.3: only `printf` prints
abbrev pub output_in : Library → List Arg → Now → List ℕ
output_in library.Printf a S = result_unwrap_or (text_of_format a S).answer []
output_in _ a S = []

-- 7.21.6.3p2: the bytes that a call prints
abbrev pub output : Library → List Arg → Mem → List ℕ
output f args M = output_in f args (with_notes M [])
