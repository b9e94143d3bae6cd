-- `printf` (C17 7.21.6.1, 7.21.6.3) in both runs.
use Rattle.std.proofs.Common.{◌≡◌, ℕ, ℤ, pos, ◌==◌, Bool, true, false, List, [], ◌∷◌, ◌++◌, map, drop, Option, Some, None, Result, Ok, Err, if◌then◌else◌, refl, sym, ap, subst, inl, inr}
use Rattle.pv_num.specs.declared.kinds.IntKind.{IntKind}
use Rattle.pv_num.specs.declared.kinds.IntKind.TheVariants.{ULong}
use Rattle.pv_num.specs.Kinds.{fits_of}
use Rattle.pv_prov.specs.declared.names.Prov.{Prov}
use Rattle.pv_prov.specs.declared.names.Prov.TheVariants.{Empty, Inst, Pair}
use Rattle.pv_inst.specs.declared.values.Test.TheVariants.{Live}
use Rattle.pv_inst.specs.declared.values.Tried.{Tried}
use Rattle.pv_inst.specs.declared.values.Miss.{Miss}
use Rattle.pv_inst.specs.Table.{Table}
use Rattle.pv_inst.specs.Use.{use_answer, after_use}
use Rattle.pv_object.specs.declared.values.Asker.TheVariants.{Print}
use Rattle.pv_object.specs.declared.values.Pointer.{Pointer}
use Rattle.pv_object.specs.declared.values.Stop.{Stop}
use Rattle.pv_object.specs.declared.values.Stop.TheVariants as stop
use Rattle.pv_fault.specs.declared.verdict.Verdict.TheVariants as verdict
use Rattle.pv_object.specs.Memory.{Mem}
use Rattle.pv_object.specs.Operations.{to_int, to_int_after, exposed_to}
use Rattle.pv_libc.specs.declared.values.Arg.{Arg}
use Rattle.pv_libc.specs.declared.values.Note.{Note}
use Rattle.pv_libc.specs.Steps.{Now, Did, answer_now, stop_now, next, next_by}
use Rattle.pv_libc.specs.Formats.{piece_at, number_piece}
use Rattle.pv_libc.specs.FormatParts.{percent_piece, given_of}
use Rattle.pv_libc.specs.Arguments.{string_of, address_of}
use Rattle.pv_libc.specs.Printing.{format_stop, number_done, string_done, address_by, address_done, Printed, piece_done, printed_from, format_of}
use Rattle.pv_libc.specs.Calls.{pointer, offer, text_of_format, stop_note, pointer_in}
use Rattle.pv_exec.proofs.Memory.Rows.{Sound, led-itself}
use Rattle.pv_exec.proofs.Memory.Tables.{leading}
use Rattle.pv_exec.proofs.Memory.Pointers.{to_int-leads}
use Rattle.pv_exec.proofs.Settling.Sides.{on_table, on_memory, Allows, Covers}
use Rattle.pv_exec.proofs.Settling.Uses.{settled-covers}
use Rattle.pv_exec.proofs.Settling.Exposures.{expose-pairs}
use Rattle.pv_exec.proofs.Settling.Along.{Along}
use Rattle.pv_exec.proofs.Settling.Pointers.{SameFirst, Equal, int-along}
use Rattle.pv_exec.proofs.Settling.Steps.{on_now, Walks, Goes, done-goes, next-goes, about-goes, text-goes}

-- 7.21.6.1p4: what holds of the place in the format that a step leads to
abbrev There : (Printed → Type 0) → Result Printed Stop → Type 0
There P (Ok at) = P at
There P (Err y) = ⊥

-- The enum of these places is the library's own, so each is named here by a byte of a format that leads to it.
abbrev to_text : Now → Did Printed
to_text S = piece_done (percent_piece 37) [] [] S

abbrev to_percent : Now → Did Printed
to_percent S = next (to_text S) (λ at T. piece_done (piece_at at.within 37) [] [] T)

abbrev to_long : Now → Did Printed
to_long S = piece_done (percent_piece 108) [] [] S

-- a piece of a call from such a place on
abbrev from_place : Result Printed Stop → (Printed → Now → Did (List ℕ)) → Now → Did (List ℕ)
from_place (Ok at) go S = go at S
from_place (Err y) go S = stop_now y S

abbrev stop_of : {A : Type 0} → Stop → Result A Stop → Stop
stop_of z (Ok a) = z
stop_of z (Err y) = y

int-covers : (ds : List Bool) (T : Table) (p : Pointer) (k : IntKind) (r : Result Tried Miss) → Covers ds T.pairs → Covers ds (to_int_after T p k r).1.pairs
int-covers ds T p k (Err m) c = c
int-covers ds T p k (Ok t) c = by (fits_of k (pos p.address))
  where
    U : Table
    U = after_use T p.prov (Ok t)

    by : (b : Bool) → Covers ds (exposed_to (after_use T p.prov (Ok t)) p b t).1.pairs
    by true = subst (λ ts. Covers ds ts) (sym (expose-pairs (after_use T p.prov (Ok t)) p.prov)) (settled-covers ds T p.prov (Ok t) c)
    by false = settled-covers ds T p.prov (Ok t) c

module _ (F : Type 0) (ds : List Bool) where
  -- 7.21.6.1p8: the text of a conversion
  number-goes : (text : ℤ → List ℕ) (o : Option ℤ) → Goes F ds (List ℕ) Equal (number_done text o) (number_done text o)
  number-goes text None = record { leads = λ S. led-itself; covers = λ S c. c; walks = λ S ns so al c. tt }
  number-goes text (Some n) = done-goes F ds Equal (text n) (text n) refl

  string-goes : (o : Option Pointer) (n n' : Note) → Goes F ds (List ℕ) Equal (string_done (given_of n o)) (string_done (given_of n' o))
  string-goes None n n' = record { leads = λ S. led-itself; covers = λ S c. c; walks = λ S ns so al c. tt }
  string-goes (Some p) n n' = text-goes F ds Print p n n'

  address-beside : (p : Pointer) (n n' : Note) (S : Now) (ns : List Note) (got got' : Result (ℤ × Tried) Stop × Table) → Along ds SameFirst got got'
      → Walks ds Equal (address_by (record { pointer = p; stopped = n }) S got) (address_by (record { pointer = p; stopped = n' }) (on_now ds ns S) got')
  address-beside p n n' S ns ((Ok a), U) ((Ok a'), U') h = (refl, h.1, ap (λ (W : Table). record S.memory { table = record W { pending = [] } }) h.2)
  address-beside p n n' S ns ((Ok a), U) ((Err y'), U') h = h
  address-beside p n n' S ns ((Err (stop.Ends (verdict.Undefined f))), U) ((Ok a'), U') h = absurd h
  address-beside p n n' S ns ((Err (stop.Ends (verdict.Undefined f))), U) ((Err y'), U') h = h
  address-beside p n n' S ns ((Err (stop.Ends verdict.Undecided)), U) (r', U') h = tt
  address-beside p n n' S ns ((Err stop.NoMemory), U) (r', U') h = tt
  address-beside p n n' S ns ((Err (stop.Ends verdict.Indeterminate)), U) ((Ok a'), U') (inl h) = absurd (cc)
  address-beside p n n' S ns ((Err (stop.Ends verdict.Indeterminate)), U) ((Ok a'), U') (inr h) = absurd h.0
  address-beside p n n' S ns ((Err (stop.Ends verdict.Indeterminate)), U) ((Err y'), U') (inl h) = inl (ap (λ x. Err x) (ap (stop_of y') h.0), h.1)
  address-beside p n n' S ns ((Err (stop.Ends verdict.Indeterminate)), U) ((Err y'), U') (inr h) = inr h

  address-goes : (o : Option Pointer) (n n' : Note) → Goes F ds (List ℕ) Equal (address_done (given_of n o)) (address_done (given_of n' o))
  address-goes None n n' = record { leads = λ S. led-itself; covers = λ S c. c; walks = λ S ns so al c. tt }
  address-goes (Some p) n n' =
      about-goes F ds Equal n n' (λ S. address_by (record { pointer = p; stopped = n }) S (to_int S.memory.table p ULong)) (λ S. address_by (record { pointer = p; stopped = n' }) S (to_int S.memory.table p ULong))
      (record {
        leads = λ S. to_int-leads (leading F) S.memory p ULong;
        covers = λ S c. int-covers ds S.memory.table p ULong (use_answer S.memory.table p.prov Live) c;
        walks = λ S ns so al c. address-beside p n n' S ns (to_int S.memory.table p ULong) (to_int (on_table ds S.memory.table) p ULong) (int-along F ds S.memory.table p ULong so al c);
      })

  module _ (M M' : Mem) where
    -- 7.21.6.1p3: the format from a place on, with any arguments left
    abbrev Prints : List ℕ → Result Printed Stop → Type 0
    Prints cs r = There (λ at. (xs : List Arg) (text : List ℕ) → Goes F ds (List ℕ) Equal (λ S. printed_from cs (record at { left = map (offer M) xs; text = text }) S) (λ S. printed_from cs (record at { left = map (offer M') xs; text = text }) S)) r

    -- a step of the format in both runs, and what is behind it, with any arguments left
    abbrev On : List ℕ → (f f' : List Arg → List ℕ → Now → Did Printed) → Type 0
    On cs f f' = (xs : List Arg) (text : List ℕ) → Goes F ds (List ℕ) Equal (λ S. next (f xs text S) (λ at T. printed_from cs at T)) (λ S. next (f' xs text S) (λ at T. printed_from cs at T))

    if-on : (cs : List ℕ) (c : Bool) (x y : _) → On cs (λ xs. piece_done x (map (offer M) xs)) (λ xs. piece_done x (map (offer M') xs)) → On cs (λ xs. piece_done y (map (offer M) xs)) (λ xs. piece_done y (map (offer M') xs))
        → On cs (λ xs. piece_done (if c then x else y) (map (offer M) xs)) (λ xs. piece_done (if c then x else y) (map (offer M') xs))
    if-on cs true x y h g = h
    if-on cs false x y h g = g

    -- 7.21.6.1p2: a step that takes an argument, if there is one
    taking : (cs : List ℕ) (f f' : List Arg → List ℕ → Now → Did Printed)
        → ((text : List ℕ) → Goes F ds (List ℕ) Equal (λ S. next (f [] text S) (λ at T. printed_from cs at T)) (λ S. next (f' [] text S) (λ at T. printed_from cs at T)))
        → ((x : Arg) (xs : List Arg) (text : List ℕ) → Goes F ds (List ℕ) Equal (λ S. next (f (x ∷ xs) text S) (λ at T. printed_from cs at T)) (λ S. next (f' (x ∷ xs) text S) (λ at T. printed_from cs at T)))
        → On cs f f'
    taking cs f f' h g [] text = h text
    taking cs f f' h g (x ∷ xs) text = g x xs text

    -- a conversion's text, and then the rest of the format
    flat : (cs : List ℕ) (r : Result (List ℕ) Stop) (d : Did (List ℕ)) (at : List ℕ → Printed) → next_by r d (λ t T. printed_from cs (at t) T) ≡ next (next_by r d (λ t T. answer_now (at t) T)) (λ at T. printed_from cs at T)
    flat cs (Ok t) d at = refl
    flat cs (Err y) d at = refl

    taken : (cs : List ℕ) (d d' : Now → Did (List ℕ)) (at at' : List ℕ → Printed) → Goes F ds (List ℕ) Equal d d' → ((t : List ℕ) → Goes F ds (List ℕ) Equal (λ S. printed_from cs (at t) S) (λ S. printed_from cs (at' t) S))
        → Goes F ds (List ℕ) Equal (λ S. next (next (d S) (λ t T. answer_now (at t) T)) (λ at T. printed_from cs at T)) (λ S. next (next (d' S) (λ t T. answer_now (at' t) T)) (λ at T. printed_from cs at T))
    taken cs d d' at at' h g =
        subst (λ (f : Now → Did (List ℕ)). Goes F ds (List ℕ) Equal f (λ S. next (next (d' S) (λ t T. answer_now (at' t) T)) (λ at T. printed_from cs at T))) (λ i S. flat cs (d S).answer (d S) at i)
        (subst (λ (f : Now → Did (List ℕ)). Goes F ds (List ℕ) Equal (λ S. next (d S) (λ t T. printed_from cs (at t) T)) f) (λ i S. flat cs (d' S).answer (d' S) at' i)
        (next-goes F ds Equal Equal (λ a. refl) d d' (λ t T. printed_from cs (at t) T) (λ t T. printed_from cs (at' t) T) h
        (λ t t' e. subst (λ x. Goes F ds (List ℕ) Equal (λ T. printed_from cs (at t) T) (λ T. printed_from cs (at' x) T)) (sym e) (g t))))

    halts : (cs : List ℕ) → Goes F ds (List ℕ) Equal (λ S. next (stop_now format_stop S) (λ at T. printed_from cs at T)) (λ S. next (stop_now format_stop S) (λ at T. printed_from cs at T))
    halts cs = record { leads = λ S. led-itself; covers = λ S c. c; walks = λ S ns so al c. tt }

    number-on : (S : Now) (cs : List ℕ) → Prints cs (to_text S).answer → (long : Bool) (c : ℕ) → On cs (λ xs. piece_done (number_piece long c) (map (offer M) xs)) (λ xs. piece_done (number_piece long c) (map (offer M') xs))
    number-on S cs h long c =
        if-on cs (c == 100) _ _ (taking cs _ _ (λ text. halts cs) (λ x xs text. taken cs _ _ _ _ (number-goes _ _) (λ t. h xs (text ++ t))))
        (if-on cs (c == 117) _ _ (taking cs _ _ (λ text. halts cs) (λ x xs text. taken cs _ _ _ _ (number-goes _ _) (λ t. h xs (text ++ t))))
        (if-on cs (c == 120) _ _ (taking cs _ _ (λ text. halts cs) (λ x xs text. taken cs _ _ _ _ (number-goes _ _) (λ t. h xs (text ++ t))))
        (λ xs text. halts cs)))

    percent-on : (S : Now) (cs : List ℕ) → Prints cs (to_text S).answer → Prints cs (to_long S).answer → (c : ℕ) → On cs (λ xs. piece_done (percent_piece c) (map (offer M) xs)) (λ xs. piece_done (percent_piece c) (map (offer M') xs))
    percent-on S cs h g c =
        if-on cs (c == 37) _ _ (λ xs text. h xs _)
        (if-on cs (c == 108) _ _ (λ xs text. g xs _)
        (if-on cs (c == 99) _ _ (taking cs _ _ (λ text. halts cs) (λ x xs text. taken cs _ _ _ _ (number-goes _ _) (λ t. h xs (text ++ t))))
        (if-on cs (c == 115) _ _ (taking cs _ _ (λ text. halts cs) (λ x xs text. taken cs _ _ _ _ (string-goes (string_of x.shape x.value) (stop_note M (pointer_in x.value).prov) (stop_note M' (pointer_in x.value).prov)) (λ t. h xs (text ++ t))))
        (if-on cs (c == 112) _ _ (taking cs _ _ (λ text. halts cs) (λ x xs text. taken cs _ _ _ _ (address-goes (address_of x.shape x.value) (stop_note M (pointer_in x.value).prov) (stop_note M' (pointer_in x.value).prov)) (λ t. h xs (text ++ t))))
        (number-on S cs h false c)))))

    prints : (S : Now) (cs : List ℕ) → Prints cs (to_text S).answer × Prints cs (to_percent S).answer × Prints cs (to_long S).answer
    prints S [] = (λ xs text. done-goes F ds Equal text text refl, λ xs text. record { leads = λ S. led-itself; covers = λ S c. c; walks = λ S ns so al c. tt }, λ xs text. record { leads = λ S. led-itself; covers = λ S c. c; walks = λ S ns so al c. tt })
    prints S (c ∷ cs) =
        let h = prints S cs in (
          if-on cs (c == 37) _ _ (λ xs text. h.1 xs _) (λ xs text. h.0 xs _),
          percent-on S cs h.0 h.2 c,
          number-on S cs h.0 true c,
        )

  format-on : (M : Mem) (p : Prov) → format_of (on_memory ds M) p ≡ format_of M p
  format-on M Empty = refl
  format-on M (Inst i) = refl
  format-on M (Pair k) = refl

  -- the whole format, with the arguments as they are when the call begins
  printed-goes : (cs : List ℕ) (args : List Arg) (M M' : Mem) (S : Now) → Prints M M' cs (to_text S).answer
  printed-goes cs args M M' S = (prints M M' S cs).0

  pub printed-covers : (args : List Arg) (S : Now) → Covers ds S.memory.table.pairs → Covers ds (text_of_format args S).after.memory.table.pairs
  printed-covers args S c = (printed-goes (format_of S.memory (pointer args 0).prov) args S.memory S.memory S (drop 1 args) []).covers S c

  pub printed-walks : (args : List Arg) (S : Now) (ns : List Note) → Sound F S.memory.table.instances S.memory.table.pairs → Allows ds S.memory.table.pairs → Covers ds S.memory.table.pairs → Walks ds Equal (text_of_format args S) (text_of_format args (on_now ds ns S))
  printed-walks args S ns so al c =
      let M = S.memory in
      let N = on_memory ds M in
      let cs = format_of M (pointer args 0).prov in
      subst (λ x. Walks ds Equal (text_of_format args S) (from_place (to_text S).answer (λ at T. printed_from x (record at { left = map (offer N) (drop 1 args); text = [] }) T) (on_now ds ns S))) (sym (format-on M (pointer args 0).prov))
      ((printed-goes cs args M N S (drop 1 args) []).walks S ns so al c)
