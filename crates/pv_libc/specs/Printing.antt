-- `printf` (C17 7.21.6.1, 7.21.6.3).
use Rattle.std.specs.Prelude.{ℕ, ℤ, ◌==◌, false, List, [], ◌∷◌, ◌++◌, Option, None, Some, Result, Ok, Err, if◌then◌else◌, option_to_list}
use Rattle.pv_num.specs.declared.kinds.IntKind.TheVariants as kind
use Rattle.pv_fault.specs.declared.faults.Clause.TheVariants as clause
use Rattle.pv_fault.specs.declared.faults.Reason.TheVariants as reason
use Rattle.pv_num.specs.Kinds.{bits_of}
use Rattle.pv_prov.specs.declared.names.Prov.{Prov}
use Rattle.pv_prov.specs.declared.names.Prov.TheVariants.{Inst}
use Rattle.pv_inst.specs.declared.values.Info.{Info}
use Rattle.pv_inst.specs.declared.values.Tried.{Tried}
use Rattle.pv_inst.specs.declared.values.Test.TheVariants.{Live}
use Rattle.pv_inst.specs.Table.{Table, instance_at}
use Rattle.pv_inst.specs.Infos.{info_of}
use Rattle.pv_inst.specs.Use.{use_answer, test_number}
use Rattle.pv_shadow.specs.declared.byte.Byte.{Byte}
use Rattle.pv_shadow.specs.Bytes.{bytes_from}
use Rattle.pv_object.specs.declared.values.Pointer.{Pointer}
use Rattle.pv_object.specs.declared.values.Stop.{Stop}
use Rattle.pv_object.specs.declared.values.Asker.TheVariants.{Print}
use Rattle.pv_object.specs.Memory.{Mem}
use Rattle.pv_object.specs.Access.{fault}
use Rattle.pv_object.specs.Operations.{to_int}
use Rattle.pv_libc.specs.declared.values.Given.{Given}
use Rattle.pv_libc.specs.declared.values.Offered.{Offered}
use Rattle.pv_libc.specs.Steps.{Now, Did, answer_now, stop_now, next, with_more_notes, in_table, about, use_notes, with_exposures}
use Rattle.pv_libc.specs.Characters.{string_at}
use Rattle.pv_libc.specs.declared.formats.Style.TheVariants as style
use Rattle.pv_libc.specs.declared.formats.Conversion.{Conversion}
use Rattle.pv_libc.specs.declared.formats.Conversion.TheVariants as conversion
use Rattle.pv_libc.specs.declared.formats.Within.{Within}
use Rattle.pv_libc.specs.declared.formats.Within.TheVariants as within
use Rattle.pv_libc.specs.declared.formats.Piece.{Piece}
use Rattle.pv_libc.specs.declared.formats.Piece.TheVariants.{Goes, Converts, Breaks}
use Rattle.pv_libc.specs.Formats.{piece_at}
use Rattle.pv_libc.specs.Arguments.{number_text, pointer_text, number_of, string_of, address_of}
use Rattle.std.specs.Option.{option_map_or, option_map}

-- 7.21.6.1p9: an invalid conversion, or an argument that is missing or doesn't fit
abbrev pub format_stop : Stop
format_stop = fault clause.Formats reason.Format

-- 7.21.6.1p9: there is such an argument, or it stops
abbrev pub number_done : (ℤ → List ℕ) → Option ℤ → Now → Did (List ℕ)
number_done text None S = stop_now format_stop S
number_done text (Some n) S = answer_now (text n) S

-- 7.21.6.1p8, `s`: the string, up to its first 0
abbrev pub string_done : Option Given → Now → Did (List ℕ)
string_done None S = stop_now format_stop S
string_done (Some g) S = string_at Print g S

-- 7.21.6.1p8, `p`: the text, where the live test passes (6.2.4p2)
abbrev pub text_of_address : Pointer → Result (ℤ × Tried) Stop → Result (List ℕ) Stop
text_of_address p (Ok n) = Ok (pointer_text p)
text_of_address p (Err stop) = Err stop

-- 7.21.6.1p8, `p`: the live test, and exposure (the memory model)
abbrev pub address_by : Given → Now → Result (ℤ × Tried) Stop × Table → Did (List ℕ)
address_by g S got = record {
  answer = text_of_address g.pointer got.0;
  after = with_exposures (with_more_notes (use_notes (use_answer S.memory.table g.pointer.prov Live) (test_number Live)) (in_table S got.1));
}

-- 7.21.6.1p8, `p`: an address, if the argument fits
abbrev pub address_done : Option Given → Now → Did (List ℕ)
address_done None S = stop_now format_stop S
address_done (Some g) S = about g.stopped (address_by g S (to_int S.memory.table g.pointer kind.ULong))

-- 7.21.6.1p8: the text of a conversion with its argument
abbrev pub conversion_text : Conversion → Offered → Now → Did (List ℕ)
conversion_text (conversion.Number long how) x S = number_done (number_text how) (number_of long how x.arg.shape x.arg.value) S
conversion_text conversion.Character x S = number_done (λ n. bits_of kind.UChar n ∷ []) (number_of false style.Signed x.arg.shape x.arg.value) S
conversion_text conversion.String x S = string_done (option_map (λ p. record { pointer = p; stopped = x.stopped }) (string_of x.arg.shape x.arg.value)) S
conversion_text conversion.Address x S = address_done (option_map (λ p. record { pointer = p; stopped = x.stopped }) (address_of x.arg.shape x.arg.value)) S

-- 7.21.6.1p4: after a byte of the format: where in it, the arguments left, and what is printed so far
pub record Printed : Type 0 where
  pub within : Within
  pub left : List Offered
  pub text : List ℕ

-- 7.21.6.1p2, p9: a conversion takes the next argument; without one it stops
abbrev pub argument_taken : Conversion → List Offered → List ℕ → Now → Did Printed
argument_taken k [] text S = stop_now format_stop S
argument_taken k (x ∷ xs) text S = next (conversion_text k x S) (λ t T. answer_now (record { within = within.Text; left = xs; text = text ++ t }) T)

-- 7.21.6.1p3, p4: what a byte of the format does
abbrev pub piece_done : Piece → List Offered → List ℕ → Now → Did Printed
piece_done (Goes c place) args text S = answer_now (record { within = place; left = args; text = text ++ option_to_list c }) S
piece_done (Converts k) args text S = argument_taken k args text S
piece_done Breaks args text S = stop_now format_stop S

-- 7.21.6.1p9: the end of the format is none of a conversion
abbrev pub format_end : Within → List ℕ → Now → Did (List ℕ)
format_end within.Text text S = answer_now text S
format_end _ text S = stop_now format_stop S

-- 7.21.6.1p3: the format, byte by byte
abbrev pub printed_from : List ℕ → Printed → Now → Did (List ℕ)
printed_from [] at S = format_end at.within at.text S
printed_from (c ∷ cs) at S = next (piece_done (piece_at at.within c) at.left at.text S) (λ at T. printed_from cs at T)

-- 7.21.6.1p3: a format as it is written in its literal, up to the first 0
abbrev pub before_zero : List Byte → List ℕ
before_zero [] = []
before_zero (b ∷ bs) = option_map_or (λ v. if v == 0 then [] else v ∷ before_zero bs) b.value []

-- 6.4.5p6: the literal that a pointer points to; typing makes sure that it is one
abbrev pub format_of : Mem → Prov → List ℕ
format_of M (Inst i) = option_map_or (λ (x : Info). before_zero (bytes_from M.bytes x.base x.size)) (info_of (instance_at M.table.instances i)) []
format_of M _ = []
