-- Each step of `printf` changes the memory along the ways of the library (C17 7.21.6.1, 7.21.6.3).
use Rattle.std.proofs.Common.{ℕ, ℤ, ◌==◌, Bool, true, false, List, [], ◌∷◌, ◌++◌, map, drop, Option, Some, None, Result, Ok, Err, if◌then◌else◌}
use Rattle.pv_num.specs.declared.kinds.IntKind.TheVariants.{ULong}
use Rattle.pv_object.specs.declared.values.Asker.TheVariants.{Print}
use Rattle.pv_object.specs.declared.values.Stop.{Stop}
use Rattle.pv_object.specs.Memory.{Mem, with_table}
use Rattle.pv_object.specs.Operations.{to_int}
use Rattle.pv_libc.specs.declared.values.Arg.{Arg}
use Rattle.pv_libc.specs.Steps.{Now, Did, answer_now, next, next_by}
use Rattle.pv_libc.specs.Formats.{piece_at, number_piece}
use Rattle.pv_libc.specs.FormatParts.{percent_piece, given_of}
use Rattle.pv_libc.specs.Arguments.{string_of, address_of}
use Rattle.pv_libc.specs.Printing.{number_done, string_done, address_by, address_done, Printed, piece_done, printed_from, format_of}
use Rattle.pv_libc.specs.Calls.{pointer, offer, text_of_format, printf}
use Rattle.pv_exec.proofs.Memory.Ways.{Ways, Steps, next-steps, about-steps, text-steps}

-- 7.21.6.1p4: what holds of the place in the format that a step leads to
abbrev There : (Printed → Type 0) → Result Printed Stop → Type 0
There P (Ok at) = P at
There P (Err y) = ⊥

-- The enum of these places is the library's own, so each is named here by a byte of a format that leads to it: to the text, behind a `%`,
-- and behind the `l` of a conversion.
abbrev to_text : Now → Did Printed
to_text S = piece_done (percent_piece 37) [] [] S

abbrev to_percent : Now → Did Printed
to_percent S = next (to_text S) (λ at T. piece_done (piece_at at.within 37) [] [] T)

abbrev to_long : Now → Did Printed
to_long S = piece_done (percent_piece 108) [] [] S

-- `Steps` as a record: so what is said of a step names the step itself, and not only the table behind it
record Along {R : Mem → Mem → Type 0} (w : Ways R) (A : Type 0) (S : Now) (d : Did A) : Type 0 where
  pub by : Steps w S d

module _ {R : Mem → Mem → Type 0} (w : Ways R) where
  -- 7.21.6.1p8: the text of a conversion
  number-along : (text : ℤ → List ℕ) (o : Option ℤ) (S : Now) → Along w (List ℕ) S (number_done text o S)
  number-along text None S = record { by = w.itself }
  number-along text (Some n) S = record { by = w.itself }

  string-along : (o : Option _) (S : Now) → Along w (List ℕ) S (string_done o S)
  string-along None S = record { by = w.itself }
  string-along (Some g) S = record { by = text-steps w Print g S }

  address-along : (o : Option _) (S : Now) → Along w (List ℕ) S (address_done o S)
  address-along None S = record { by = w.itself }
  address-along (Some g) S =
      let got = to_int S.memory.table g.pointer ULong in
      record { by = about-steps w S g.stopped (address_by g S got) (w.trans (w.numbers S.memory g.pointer ULong) (w.told (with_table S.memory got.1))) }

  -- 7.21.6.1p3: the format from a place on, with any arguments left
  abbrev Prints : List ℕ → Result Printed Stop → Type 0
  Prints cs r = There (λ at. (left : List _) (text : List ℕ) (S : Now) → Along w (List ℕ) S (printed_from cs (record at { left = left; text = text }) S)) r

  -- a step of the format, and what is behind it, with any arguments left
  abbrev Goes : {X : Type 0} → List ℕ → (List X → List ℕ → Now → Did Printed) → Type 0
  Goes cs f = (left : List _) (text : List ℕ) (S : Now) → Along w (List ℕ) S (next (f left text S) (λ at T. printed_from cs at T))

  if-goes : (cs : List ℕ) (c : Bool) (x y : _) → Goes cs (piece_done x) → Goes cs (piece_done y) → Goes cs (piece_done (if c then x else y))
  if-goes cs true x y h g = h
  if-goes cs false x y h g = g

  -- 7.21.6.1p2: a step that takes an argument, if there is one
  taking : {X : Type 0} (cs : List ℕ) (f : List X → List ℕ → Now → Did Printed)
      → ((text : List ℕ) (S : Now) → Along w (List ℕ) S (next (f [] text S) (λ at T. printed_from cs at T)))
      → ((x : X) (left : List X) (text : List ℕ) (S : Now) → Along w (List ℕ) S (next (f (x ∷ left) text S) (λ at T. printed_from cs at T)))
      → Goes cs f
  taking cs f h g [] text S = h text S
  taking cs f h g (x ∷ left) text S = g x left text S

  -- a conversion's text, and then the rest of the format
  taken-by : (cs : List ℕ) (S : Now) (r : Result (List ℕ) Stop) (d : Did (List ℕ)) (at : List ℕ → Printed) → Steps w S d
      → ((t : List ℕ) (T : Now) → Along w (List ℕ) T (printed_from cs (at t) T))
      → Steps w S (next (next_by r d (λ t T. answer_now (at t) T)) (λ at T. printed_from cs at T))
  taken-by cs S (Ok t) d at h g = w.trans h (g t d.after).by
  taken-by cs S (Err y) d at h g = h

  taken : (cs : List ℕ) (S : Now) (d : Did (List ℕ)) (at : List ℕ → Printed) → Along w (List ℕ) S d → ((t : List ℕ) (T : Now) → Along w (List ℕ) T (printed_from cs (at t) T))
      → Along w (List ℕ) S (next (next d (λ t T. answer_now (at t) T)) (λ at T. printed_from cs at T))
  taken cs S d at h g = record { by = taken-by cs S d.answer d at h.by g }

  number-goes : (S : Now) (cs : List ℕ) → Prints cs (to_text S).answer → (long : Bool) (c : ℕ) → Goes cs (piece_done (number_piece long c))
  number-goes S cs h long c =
      if-goes cs (c == 100) _ _ (taking cs _ (λ text T. record { by = w.itself }) (λ x left text T. taken cs T _ _ (number-along _ _ T) (λ t. h left (text ++ t))))
      (if-goes cs (c == 117) _ _ (taking cs _ (λ text T. record { by = w.itself }) (λ x left text T. taken cs T _ _ (number-along _ _ T) (λ t. h left (text ++ t))))
      (if-goes cs (c == 120) _ _ (taking cs _ (λ text T. record { by = w.itself }) (λ x left text T. taken cs T _ _ (number-along _ _ T) (λ t. h left (text ++ t))))
      (λ left text T. record { by = w.itself })))

  percent-goes : (S : Now) (cs : List ℕ) → Prints cs (to_text S).answer → Prints cs (to_long S).answer → (c : ℕ) → Goes cs (piece_done (percent_piece c))
  percent-goes S cs h g c =
      if-goes cs (c == 37) _ _ (λ left text. h left _)
      (if-goes cs (c == 108) _ _ (λ left text. g left _)
      (if-goes cs (c == 99) _ _ (taking cs _ (λ text T. record { by = w.itself }) (λ x left text T. taken cs T _ _ (number-along _ _ T) (λ t. h left (text ++ t))))
      (if-goes cs (c == 115) _ _ (taking cs _ (λ text T. record { by = w.itself }) (λ x left text T. taken cs T _ _ (string-along (given_of x.stopped (string_of x.arg.shape x.arg.value)) T) (λ t. h left (text ++ t))))
      (if-goes cs (c == 112) _ _ (taking cs _ (λ text T. record { by = w.itself }) (λ x left text T. taken cs T _ _ (address-along (given_of x.stopped (address_of x.arg.shape x.arg.value)) T) (λ t. h left (text ++ t))))
      (number-goes S cs h false c)))))

  prints : (S : Now) (cs : List ℕ) → Prints cs (to_text S).answer × Prints cs (to_percent S).answer × Prints cs (to_long S).answer
  prints S [] = (λ left text T. record { by = w.itself }, λ left text T. record { by = w.itself }, λ left text T. record { by = w.itself })
  prints S (c ∷ cs) =
      let h = prints S cs in (
        if-goes cs (c == 37) _ _ (λ left text. h.1 left _) (λ left text. h.0 left _),
        percent-goes S cs h.0 h.2 c,
        number-goes S cs h.0 true c,
      )

  pub printf-steps : (args : List Arg) (S : Now) → Steps w S (printf args S)
  printf-steps args S =
      next-steps w S (text_of_format args S) _ ((prints S (format_of S.memory (pointer args 0).prov)).0 (map (offer S.memory) (drop 1 args)) [] S).by (λ text T. w.itself)
