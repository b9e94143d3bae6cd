-- `printf` in stores that are alike (C17 7.21.6.1, 7.21.6.3): what it prints is the same.
use Rattle.std.proofs.Common.{◌≡◌, ℕ, ℤ, pos, ◌==◌, Bool, true, false, List, [], ◌∷◌, ◌++◌, map, drop, length, Option, Some, None, Result, Ok, Err, if◌then◌else◌, refl, sym, subst}
use Rattle.pv_num.specs.declared.kinds.IntKind.TheVariants as kind
use Rattle.pv_num.specs.Kinds.{convert_of}
use Rattle.pv_prov.specs.declared.names.Prov.{Prov}
use Rattle.pv_prov.specs.declared.names.Prov.TheVariants.{Empty, Inst, Pair}
use Rattle.pv_types.specs.Known.{Known}
use Rattle.pv_inst.specs.declared.values.Info.{Info}
use Rattle.pv_inst.specs.declared.values.Tried.{Tried}
use Rattle.pv_inst.specs.Table.{Table, instance_at}
use Rattle.pv_inst.specs.Infos.{info_of}
use Rattle.pv_shadow.specs.declared.byte.Byte.{Byte}
use Rattle.pv_shadow.specs.Bytes.{Store, bytes_from}
use Rattle.pv_object.specs.declared.values.Stop.{Stop}
use Rattle.pv_object.specs.declared.values.Value.TheVariants as value
use Rattle.pv_object.specs.declared.values.Asker.TheVariants.{Print}
use Rattle.pv_object.specs.Memory.{Mem}
use Rattle.pv_object.specs.Operations.{to_int}
use Rattle.pv_libc.specs.declared.values.Arg.{Arg}
use Rattle.pv_libc.specs.declared.values.Reply.{Reply}
use Rattle.pv_libc.specs.declared.values.Reply.TheVariants as reply
use Rattle.pv_libc.specs.Steps.{Now, Did, answer_now, next_by, next}
use Rattle.pv_libc.specs.Formats.{piece_at, number_piece}
use Rattle.pv_libc.specs.FormatParts.{percent_piece, given_of, unless_zero, literal_bytes}
use Rattle.pv_libc.specs.Arguments.{string_of, address_of}
use Rattle.pv_libc.specs.Printing.{number_done, string_done, address_by, address_done, Printed, piece_done, printed_from, before_zero, format_of}
use Rattle.pv_libc.specs.Calls.{pointer, offer, text_of_format, printf}
use Rattle.pv_numbering.proofs.Marks.{AlikeBytes, AlikeStores}
use Rattle.pv_numbering.proofs.Bytes.{alike_read}
use Rattle.pv_numbering.proofs.Doing.{at_one}
use Rattle.pv_numbering.proofs.Steps.{at_bytes, AlikeDid, Keeps, done-keeps, halted-keeps, next-alike, about-alike, string-keeps}

-- 7.21.6.1p4: what holds of the place in the format that a step leads to
abbrev Onward : (Printed → Type 0) → Result Printed Stop → Type 0
Onward P (Ok at) = P at
Onward P (Err y) = ⊥

-- The enum of these places is the library's own, so each is named here by a byte of a format that leads to it: to the text, behind a `%`,
-- and behind the `l` of a conversion.
abbrev to_text : Now → Did Printed
to_text S = piece_done (percent_piece 37) [] [] S

abbrev to_percent : Now → Did Printed
to_percent S = next (to_text S) (λ at T. piece_done (piece_at at.within 37) [] [] T)

abbrev to_long : Now → Did Printed
to_long S = piece_done (percent_piece 108) [] [] S

module _ (m m' : Known) where
  -- 7.21.6.1p8: the text of a conversion
  number-keeps : (text : ℤ → List ℕ) (o : Option ℤ) → Keeps m m' (List ℕ) (number_done text o)
  number-keeps text None S b h = record { bytes = b; is = refl; alike = h }
  number-keeps text (Some n) S b h = record { bytes = b; is = refl; alike = h }

  string_done-keeps : (o : Option _) → Keeps m m' (List ℕ) (string_done o)
  string_done-keeps None S b h = record { bytes = b; is = refl; alike = h }
  string_done-keeps (Some g) S b h = string-keeps m m' Print g S b h

  address-keeps : (o : Option _) → Keeps m m' (List ℕ) (address_done o)
  address-keeps None S b h = record { bytes = b; is = refl; alike = h }
  address-keeps (Some g) S b h =
      let r : Result (ℤ × Tried) Stop × Table = to_int S.memory.table g.pointer kind.ULong in
      about-alike m m' (List ℕ) g.stopped (address_by g S r) (address_by g (at_bytes S b) r) (record { bytes = b; is = refl; alike = h })

  -- a step of the format, and what is behind it
  abbrev Step : List ℕ → (Now → Did Printed) → Type 0
  Step cs f = Keeps m m' (List ℕ) (λ S. next (f S) (λ at T. printed_from cs at T))

  if-steps : (cs : List ℕ) (c : Bool) (x y : _)
      → ((text : List ℕ) → Step cs (piece_done x [] text)) × ((a : _) (left : List _) (text : List ℕ) → Step cs (piece_done x (a ∷ left) text))
      → ((text : List ℕ) → Step cs (piece_done y [] text)) × ((a : _) (left : List _) (text : List ℕ) → Step cs (piece_done y (a ∷ left) text))
      → ((text : List ℕ) → Step cs (piece_done (if c then x else y) [] text)) × ((a : _) (left : List _) (text : List ℕ) → Step cs (piece_done (if c then x else y) (a ∷ left) text))
  if-steps cs true x y h g = h
  if-steps cs false x y h g = g

  all-steps : (cs : List ℕ) (x : _) → ((text : List ℕ) → Step cs (piece_done x [] text)) × ((a : _) (left : List _) (text : List ℕ) → Step cs (piece_done x (a ∷ left) text))
      → (left : List _) (text : List ℕ) → Step cs (piece_done x left text)
  all-steps cs x h [] text = h.0 text
  all-steps cs x h (a ∷ left) text = h.1 a left text

  -- a conversion's text, and then the rest of the format
  taken_by-alike : (cs : List ℕ) (r : Result (List ℕ) Stop) (d : Did (List ℕ)) (b : Store) (at : List ℕ → Printed) → AlikeStores m m' d.after.memory.bytes b
      → ((t : List ℕ) → Keeps m m' (List ℕ) (printed_from cs (at t)))
      → AlikeDid m m' (List ℕ) (next (next_by r d (λ t T. answer_now (at t) T)) (λ at T. printed_from cs at T))
      (next (next_by r (record { answer = d.answer; after = at_bytes d.after b }) (λ t T. answer_now (at t) T)) (λ at T. printed_from cs at T))
  taken_by-alike cs (Ok t) d b at h k = k t d.after b h
  taken_by-alike cs (Err y) d b at h k = record { bytes = b; is = refl; alike = h }

  taken-alike : (cs : List ℕ) (d d' : Did (List ℕ)) (at : List ℕ → Printed) → AlikeDid m m' (List ℕ) d d' → ((t : List ℕ) → Keeps m m' (List ℕ) (printed_from cs (at t)))
      → AlikeDid m m' (List ℕ) (next (next d (λ t T. answer_now (at t) T)) (λ at T. printed_from cs at T)) (next (next d' (λ t T. answer_now (at t) T)) (λ at T. printed_from cs at T))
  taken-alike cs d d' at h k =
      subst (λ x. AlikeDid m m' (List ℕ) (next (next d (λ t T. answer_now (at t) T)) (λ at T. printed_from cs at T)) (next (next x (λ t T. answer_now (at t) T)) (λ at T. printed_from cs at T)))
      (sym h.is) (taken_by-alike cs d.answer d h.bytes at h.alike k)

  -- 7.21.6.1p3: the format from a place on
  abbrev Prints : List ℕ → Result Printed Stop → Type 0
  Prints cs r = Onward (λ at. (left : List _) (text : List ℕ) → Keeps m m' (List ℕ) (printed_from cs (record at { left = left; text = text }))) r

  number-steps : (S : Now) (cs : List ℕ) → Prints cs (to_text S).answer → (long : Bool) (c : ℕ)
      → ((text : List ℕ) → Step cs (piece_done (number_piece long c) [] text)) × ((a : _) (left : List _) (text : List ℕ) → Step cs (piece_done (number_piece long c) (a ∷ left) text))
  number-steps S cs h long c =
      if-steps cs (c == 100) _ _ (λ text. halted-keeps m m' (List ℕ) _, λ a left text T b k. taken-alike cs _ _ _ (number-keeps _ _ T b k) (λ t. h left _))
      (if-steps cs (c == 117) _ _ (λ text. halted-keeps m m' (List ℕ) _, λ a left text T b k. taken-alike cs _ _ _ (number-keeps _ _ T b k) (λ t. h left _))
      (if-steps cs (c == 120) _ _ (λ text. halted-keeps m m' (List ℕ) _, λ a left text T b k. taken-alike cs _ _ _ (number-keeps _ _ T b k) (λ t. h left _))
      (λ text. halted-keeps m m' (List ℕ) _, λ a left text. halted-keeps m m' (List ℕ) _)))

  percent-steps : (S : Now) (cs : List ℕ) → Prints cs (to_text S).answer → Prints cs (to_long S).answer → (c : ℕ)
      → ((text : List ℕ) → Step cs (piece_done (percent_piece c) [] text)) × ((a : _) (left : List _) (text : List ℕ) → Step cs (piece_done (percent_piece c) (a ∷ left) text))
  percent-steps S cs h g c =
      if-steps cs (c == 37) _ _ (λ text. h [] _, λ a left text. h (a ∷ left) _)
      (if-steps cs (c == 108) _ _ (λ text. g [] _, λ a left text. g (a ∷ left) _)
      (if-steps cs (c == 99) _ _ (λ text. halted-keeps m m' (List ℕ) _, λ a left text T b k. taken-alike cs _ _ _ (number-keeps _ _ T b k) (λ t. h left _))
      (if-steps cs (c == 115) _ _ (λ text. halted-keeps m m' (List ℕ) _, λ a left text T b k. taken-alike cs _ _ _ (string_done-keeps (given_of a.stopped (string_of a.arg.shape a.arg.value)) T b k) (λ t. h left (text ++ t)))
      (if-steps cs (c == 112) _ _ (λ text. halted-keeps m m' (List ℕ) _, λ a left text T b k. taken-alike cs _ _ _ (address-keeps (given_of a.stopped (address_of a.arg.shape a.arg.value)) T b k) (λ t. h left (text ++ t)))
      (number-steps S cs h false c)))))

  prints : (S : Now) (cs : List ℕ) → Prints cs (to_text S).answer × Prints cs (to_percent S).answer × Prints cs (to_long S).answer
  prints S [] = (λ left text. done-keeps m m' (List ℕ) text, λ left text. halted-keeps m m' (List ℕ) _, λ left text. halted-keeps m m' (List ℕ) _)
  prints S (c ∷ cs) =
      let h = prints S cs in (
        all-steps cs _ (if-steps cs (c == 37) _ _ (λ text. h.1 [] _, λ a left text. h.1 (a ∷ left) _) (λ text. h.0 [] _, λ a left text. h.0 (a ∷ left) _)),
        all-steps cs _ (percent-steps S cs h.0 h.2 c),
        all-steps cs _ (number-steps S cs h.0 true c),
      )

  -- 6.4.5p6: the format is read from the bytes of its literal
  zero-same : (xs xs' : List Byte) → AlikeBytes m m' xs xs' → before_zero xs' ≡ before_zero xs
  zero-same [] [] h = refl
  zero-same (x ∷ xs) (x' ∷ xs') h = λ i. unless_zero (h.0.value i) (zero-same xs xs' h.1 i)
  zero-same [] (x' ∷ xs') h = absurd h
  zero-same (x ∷ xs) [] h = absurd h

  literal-same : (M : Mem) (b : Store) (o : Option Info) → AlikeStores m m' M.bytes b → literal_bytes (record M { bytes = b }) o ≡ literal_bytes M o
  literal-same M b None h = refl
  literal-same M b (Some x) h = zero-same (bytes_from M.bytes x.base x.size) (bytes_from b x.base x.size) (alike_read m m' M.bytes b x.base x.size h)

  format-same : (M : Mem) (b : Store) (p : Prov) → AlikeStores m m' M.bytes b → format_of (record M { bytes = b }) p ≡ format_of M p
  format-same M b (Inst i) h = literal-same M b (info_of (instance_at M.table.instances i)) h
  format-same M b (Pair k) h = refl
  format-same M b Empty h = refl

  -- two formats that are the same
  format-alike : (cs cs' : List ℕ) (at : Printed) (S : Now) (b : Store) → cs' ≡ cs → AlikeDid m m' (List ℕ) (printed_from cs at S) (printed_from cs at (at_bytes S b))
      → AlikeDid m m' (List ℕ) (printed_from cs at S) (printed_from cs' at (at_bytes S b))
  format-alike cs cs' at S b e h = at_one (λ x. AlikeDid m m' (List ℕ) (printed_from cs at S) (printed_from x at (at_bytes S b))) cs cs' e h

  pub printed-keeps : (args : List Arg) → Keeps m m' (List ℕ) (text_of_format args)
  printed-keeps args S b h =
      let p : Prov = (pointer args 0).prov in
      let cs : List ℕ = format_of S.memory p in
      format-alike cs (format_of (at_bytes S b).memory p) _ S b (format-same S.memory b p h) ((prints S cs).0 (map (offer S.memory) (drop 1 args)) [] S b h)

  pub printf-keeps : (args : List Arg) → Keeps m m' Reply (printf args)
  printf-keeps args S b h =
      next-alike m m' (List ℕ) Reply _ _ (λ text T. answer_now (reply.Value (value.Int (convert_of kind.Int (pos (length text))))) T) (printed-keeps args S b h)
      (λ text. done-keeps m m' Reply (reply.Value (value.Int (convert_of kind.Int (pos (length text))))))
