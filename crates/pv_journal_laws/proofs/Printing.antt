-- Each step of `printf` notes what tells of the change of the table (C17 7.21.6.1, 7.21.6.3).
use Rattle.std.proofs.Common.{ℕ, zero, suc, ℤ, ◌==◌, Bool, true, false, List, [], ◌∷◌, ◌++◌, map, drop, Option, Some, None, Result, Ok, Err, if◌then◌else◌}
use Rattle.pv_num.specs.declared.kinds.IntKind.TheVariants.{ULong}
use Rattle.pv_journal_laws.specs.Naming.{AreDistinct}
use Rattle.pv_object.specs.declared.values.Asker.TheVariants.{Print}
use Rattle.pv_object.specs.declared.values.Pointer.{Pointer}
use Rattle.pv_object.specs.declared.values.Stop.{Stop}
use Rattle.pv_object.specs.declared.values.Value.{Value}
use Rattle.pv_object.specs.declared.values.Value.TheVariants as value
use Rattle.pv_object.specs.Memory.{Mem}
use Rattle.pv_object.specs.Operations.{to_int}
use Rattle.pv_libc.specs.declared.values.Arg.{Arg}
use Rattle.pv_libc.specs.declared.values.Note.{Note}
use Rattle.pv_libc.specs.declared.values.Shape.{Shape}
use Rattle.pv_libc.specs.declared.values.Shape.TheVariants as shape
use Rattle.pv_libc.specs.Steps.{Now, Did, answer_now, next, next_by}
use Rattle.pv_libc.specs.Formats.{piece_at, number_piece}
use Rattle.pv_libc.specs.FormatParts.{percent_piece, given_of}
use Rattle.pv_libc.specs.Arguments.{string_of, address_of}
use Rattle.pv_libc.specs.Printing.{number_done, string_done, address_by, address_done, Printed, piece_done, printed_from, format_of}
use Rattle.pv_libc.specs.Calls.{pointer, offer, text_of_format, printf, stop_note, pointer_in}
use Rattle.pv_journal_laws.proofs.Telling.{IsNumbered}
use Rattle.pv_journal_laws.proofs.Numbering.{IsNumberedValue}
use Rattle.pv_journal_laws.proofs.Noting.{IsStopped, goes-itself, goes-trans, Steps, next-steps, about-steps, text-steps, int-steps}

-- the names in these arguments are those of pairs that are numbered from 1
abbrev pub AreNumberedArguments : List Arg → Type 0
AreNumberedArguments [] = Unit {0}
AreNumberedArguments (x ∷ xs) = IsNumberedValue x.value × AreNumberedArguments xs

pub numbered_drop : (n : ℕ) (xs : List Arg) → AreNumberedArguments xs → AreNumberedArguments (drop n xs)
numbered_drop zero xs h = h
numbered_drop (suc n) [] h = tt
numbered_drop (suc n) (x ∷ xs) h = numbered_drop n xs h.1

-- the pointer that a conversion takes
abbrev IfNumbered : Option Pointer → Type 0
IfNumbered None = Unit {0}
IfNumbered (Some p) = IsNumbered p.prov

string_numbered : (s : Shape) (v : Value) → IsNumberedValue v → IfNumbered (string_of s v)
string_numbered shape.Text (value.Pointer p) h = h
string_numbered shape.Text (value.Int n) h = tt
string_numbered shape.Text value.Unset h = tt
string_numbered shape.Void (value.Pointer p) h = tt
string_numbered shape.Void (value.Int n) h = tt
string_numbered shape.Void value.Unset h = tt
string_numbered shape.Other (value.Pointer p) h = tt
string_numbered shape.Other (value.Int n) h = tt
string_numbered shape.Other value.Unset h = tt
string_numbered (shape.Int k) (value.Pointer p) h = tt
string_numbered (shape.Int k) (value.Int n) h = tt
string_numbered (shape.Int k) value.Unset h = tt

address_numbered : (s : Shape) (v : Value) → IsNumberedValue v → IfNumbered (address_of s v)
address_numbered shape.Text (value.Pointer p) h = h
address_numbered shape.Text (value.Int n) h = tt
address_numbered shape.Text value.Unset h = tt
address_numbered shape.Void (value.Pointer p) h = h
address_numbered shape.Void (value.Int n) h = tt
address_numbered shape.Void value.Unset h = tt
address_numbered shape.Other (value.Pointer p) h = tt
address_numbered shape.Other (value.Int n) h = tt
address_numbered shape.Other value.Unset h = tt
address_numbered (shape.Int k) (value.Pointer p) h = tt
address_numbered (shape.Int k) (value.Int n) h = tt
address_numbered (shape.Int k) value.Unset h = tt

-- 7.21.6.1p4: what holds of the place in the format that a step leads to
abbrev There : (Printed → Type 0) → Result Printed Stop → Type 0
There P (Ok at) = P at
There P (Err y) = ⊥

-- The enum of these places is the library's own, so each is named here by a byte of a format that leads to it.
abbrev to_text : Now → Did Printed
to_text S = piece_done (percent_piece 37) [] [] S

abbrev to_percent : Now → Did Printed
to_percent S = next (to_text S) (λ at T. piece_done (piece_at at.within 37) [] [] T)

abbrev to_long : Now → Did Printed
to_long S = piece_done (percent_piece 108) [] [] S

-- `Steps` as a record: so what is said of a step names the step itself, and not only what is behind it
record Along (names : List (List ℕ)) (distinct : AreDistinct names) (turn : ℕ) (A : Type 0) (S : Now) (d : Did A) : Type 0 where
  pub by : Steps names distinct turn S d

module _ (names : List (List ℕ)) (distinct : AreDistinct names) (turn : ℕ) where
  -- 7.21.6.1p8: the text of a conversion
  number-along : (text : ℤ → List ℕ) (o : Option ℤ) (S : Now) → Along names distinct turn (List ℕ) S (number_done text o S)
  number-along text None S = record { by = goes-itself }
  number-along text (Some n) S = record { by = goes-itself }

  string-along : (o : Option Pointer) (n : Note) (S : Now) → IfNumbered o → IsStopped n → Along names distinct turn (List ℕ) S (string_done (given_of n o) S)
  string-along None n S h s = record { by = goes-itself }
  string-along (Some p) n S h s = record { by = text-steps names distinct turn Print p n S h s }

  address-along : (o : Option Pointer) (n : Note) (S : Now) → IfNumbered o → IsStopped n → Along names distinct turn (List ℕ) S (address_done (given_of n o) S)
  address-along None n S h s = record { by = goes-itself }
  address-along (Some p) n S h s = record {
    by = about-steps names distinct turn S n (address_by (record { pointer = p; stopped = n }) S (to_int S.memory.table p ULong)) s (int-steps names distinct turn p ULong S h);
  }

  module _ (M : Mem) where
    -- 7.21.6.1p3: the format from a place on, with any arguments left
    abbrev Prints : List ℕ → Result Printed Stop → Type 0
    Prints cs r = There (λ at. (xs : List Arg) (text : List ℕ) (S : Now) → AreNumberedArguments xs → Along names distinct turn (List ℕ) S (printed_from cs (record at { left = map (offer M) xs; text = text }) S)) r

    -- a step of the format, and what is behind it, with any arguments left
    abbrev On : List ℕ → (List Arg → List ℕ → Now → Did Printed) → Type 0
    On cs f = (xs : List Arg) (text : List ℕ) (S : Now) → AreNumberedArguments xs → Along names distinct turn (List ℕ) S (next (f xs text S) (λ at T. printed_from cs at T))

    if-on : (cs : List ℕ) (c : Bool) (x y : _) → On cs (λ xs. piece_done x (map (offer M) xs)) → On cs (λ xs. piece_done y (map (offer M) xs)) → On cs (λ xs. piece_done (if c then x else y) (map (offer M) xs))
    if-on cs true x y h g = h
    if-on cs false x y h g = g

    -- 7.21.6.1p2: a step that takes an argument, if there is one
    taking : (cs : List ℕ) (f : List Arg → List ℕ → Now → Did Printed)
        → ((text : List ℕ) (S : Now) → Along names distinct turn (List ℕ) S (next (f [] text S) (λ at T. printed_from cs at T)))
        → ((x : Arg) (xs : List Arg) (text : List ℕ) (S : Now) → IsNumberedValue x.value → AreNumberedArguments xs → Along names distinct turn (List ℕ) S (next (f (x ∷ xs) text S) (λ at T. printed_from cs at T)))
        → On cs f
    taking cs f h g [] text S n = h text S
    taking cs f h g (x ∷ xs) text S n = g x xs text S n.0 n.1

    -- a conversion's text, and then the rest of the format
    taken-by : (cs : List ℕ) (S : Now) (r : Result (List ℕ) Stop) (d : Did (List ℕ)) (at : List ℕ → Printed) → Steps names distinct turn S d
        → ((t : List ℕ) (T : Now) → Along names distinct turn (List ℕ) T (printed_from cs (at t) T))
        → Steps names distinct turn S (next (next_by r d (λ t T. answer_now (at t) T)) (λ at T. printed_from cs at T))
    taken-by cs S (Ok t) d at h g = goes-trans h (g t d.after).by
    taken-by cs S (Err y) d at h g = h

    taken : (cs : List ℕ) (S : Now) (d : Did (List ℕ)) (at : List ℕ → Printed) → Along names distinct turn (List ℕ) S d → ((t : List ℕ) (T : Now) → Along names distinct turn (List ℕ) T (printed_from cs (at t) T))
        → Along names distinct turn (List ℕ) S (next (next d (λ t T. answer_now (at t) T)) (λ at T. printed_from cs at T))
    taken cs S d at h g = record { by = taken-by cs S d.answer d at h.by g }

    number-on : (S : Now) (cs : List ℕ) → Prints cs (to_text S).answer → (long : Bool) (c : ℕ) → On cs (λ xs. piece_done (number_piece long c) (map (offer M) xs))
    number-on S cs h long c =
        if-on cs (c == 100) _ _ (taking cs _ (λ text T. record { by = goes-itself }) (λ x xs text T v n. taken cs T _ _ (number-along _ _ T) (λ t U. h xs (text ++ t) U n)))
        (if-on cs (c == 117) _ _ (taking cs _ (λ text T. record { by = goes-itself }) (λ x xs text T v n. taken cs T _ _ (number-along _ _ T) (λ t U. h xs (text ++ t) U n)))
        (if-on cs (c == 120) _ _ (taking cs _ (λ text T. record { by = goes-itself }) (λ x xs text T v n. taken cs T _ _ (number-along _ _ T) (λ t U. h xs (text ++ t) U n)))
        (λ xs text T n. record { by = goes-itself })))

    percent-on : (S : Now) (cs : List ℕ) → Prints cs (to_text S).answer → Prints cs (to_long S).answer → (c : ℕ) → On cs (λ xs. piece_done (percent_piece c) (map (offer M) xs))
    percent-on S cs h g c =
        if-on cs (c == 37) _ _ (λ xs text T n. h xs _ T n)
        (if-on cs (c == 108) _ _ (λ xs text T n. g xs _ T n)
        (if-on cs (c == 99) _ _ (taking cs _ (λ text T. record { by = goes-itself }) (λ x xs text T v n. taken cs T _ _ (number-along _ _ T) (λ t U. h xs (text ++ t) U n)))
        (if-on cs (c == 115) _ _ (taking cs _ (λ text T. record { by = goes-itself })
        (λ x xs text T v n. taken cs T _ _ (string-along (string_of x.shape x.value) (stop_note M (pointer_in x.value).prov) T (string_numbered x.shape x.value v) tt) (λ t U. h xs (text ++ t) U n)))
        (if-on cs (c == 112) _ _ (taking cs _ (λ text T. record { by = goes-itself })
        (λ x xs text T v n. taken cs T _ _ (address-along (address_of x.shape x.value) (stop_note M (pointer_in x.value).prov) T (address_numbered x.shape x.value v) tt) (λ t U. h xs (text ++ t) U n)))
        (number-on S cs h false c)))))

    prints : (S : Now) (cs : List ℕ) → Prints cs (to_text S).answer × Prints cs (to_percent S).answer × Prints cs (to_long S).answer
    prints S [] = (λ xs text T n. record { by = goes-itself }, λ xs text T n. record { by = goes-itself }, λ xs text T n. record { by = goes-itself })
    prints S (c ∷ cs) =
        let h = prints S cs in (
          if-on cs (c == 37) _ _ (λ xs text T n. h.1 xs _ T n) (λ xs text T n. h.0 xs _ T n),
          percent-on S cs h.0 h.2 c,
          number-on S cs h.0 true c,
        )

  -- the whole format, with the arguments as they are when the call begins
  pub printed-steps : (args : List Arg) (S : Now) → AreNumberedArguments args → Steps names distinct turn S (text_of_format args S)
  printed-steps args S n = ((prints S.memory S (format_of S.memory (pointer args 0).prov)).0 (drop 1 args) [] S (numbered_drop 1 args n)).by

  pub printf-steps : (args : List Arg) (S : Now) → AreNumberedArguments args → Steps names distinct turn S (printf args S)
  printf-steps args S n = next-steps names distinct turn S (text_of_format args S) _ (printed-steps args S n) (λ text T. goes-itself)
