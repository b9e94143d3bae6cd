-- What tells of no new instance: every function but those that allocate.
use Rattle.std.proofs.Common.{◌≡◌, ℕ, ℤ, zero, suc, ◌+◌, Bool, true, false, not, cond, eqb, List, [], ◌∷◌, ◌++◌, map, length, Option, Some, None, Result, Ok, Err, All, refl, subst}
use Rattle.std.proofs.lemmas.List.Elements.{All-nil, All-cons, All-append, All-push}
use Rattle.pv_fault.specs.declared.faults.Clause.{Clause}
use Rattle.pv_num.specs.declared.kinds.IntKind.TheVariants.{UChar, ULong}
use Rattle.pv_num.specs.Kinds.{bits_of}
use Rattle.pv_inst.specs.declared.values.Tried.{Tried}
use Rattle.pv_inst.specs.declared.values.Miss.{Miss}
use Rattle.pv_inst.specs.declared.values.Test.TheVariants.{Live, Range, Block}
use Rattle.pv_inst.specs.Use.{use_answer, test_number}
use Rattle.pv_object.specs.declared.values.Pointer.{Pointer}
use Rattle.pv_object.specs.declared.values.Scalar.TheVariants as scalar
use Rattle.pv_object.specs.declared.values.Asker.{Asker}
use Rattle.pv_object.specs.declared.values.Asker.TheVariants.{Text, Print}
use Rattle.pv_object.specs.declared.values.Stop.{Stop}
use Rattle.pv_object.specs.Memory.{Mem}
use Rattle.pv_object.specs.Access.{reach}
use Rattle.pv_object.specs.Loading.{load}
use Rattle.pv_object.specs.Operations.{to_int}
use Rattle.pv_libc.specs.declared.values.Arg.{Arg}
use Rattle.pv_libc.specs.declared.values.Note.{Note}
use Rattle.pv_libc.specs.declared.values.Note.TheVariants.{Made, Ended, Exposed, Used, Stopped}
use Rattle.pv_libc.specs.declared.values.Given.{Given}
use Rattle.pv_libc.specs.declared.values.Offered.{Offered}
use Rattle.pv_libc.specs.declared.values.Reply.{Reply}
use Rattle.pv_libc.specs.declared.formats.Style.TheVariants as style
use Rattle.pv_libc.specs.declared.formats.Conversion.{Conversion}
use Rattle.pv_libc.specs.declared.formats.Conversion.TheVariants as conversion
use Rattle.pv_libc.specs.declared.formats.Within.{Within}
use Rattle.pv_libc.specs.declared.formats.Within.TheVariants as within
use Rattle.pv_libc.specs.declared.formats.Piece.{Piece}
use Rattle.pv_libc.specs.declared.formats.Piece.TheVariants.{Goes, Converts, Breaks}
use Rattle.pv_libc.specs.Steps.{Now, Did, answer_now, next, next_by, with_more_notes, in_table, about, about_by, use_notes, with_exposures, reach_for, reached_by, bytes_further}
use Rattle.pv_libc.specs.Characters.{character_loaded, character_in, character_at, characters_from, too_far, string_from, string_at, most}
use Rattle.pv_libc.specs.Blocks.{copy, memset, memcmp}
use Rattle.pv_libc.specs.Strings.{strlen, compared_from, strcpy}
use Rattle.pv_libc.specs.StringParts.{compared_by, pair_used, strcmp}
use Rattle.pv_libc.specs.Formats.{piece_at}
use Rattle.pv_libc.specs.Arguments.{number_text, number_of, string_of, address_of}
use Rattle.pv_libc.specs.Printing.{number_done, string_done, address_by, address_done, conversion_text, Printed, argument_taken, piece_done, format_end, printed_from}
use Rattle.pv_libc.specs.FormatParts.{given_of}
use Rattle.pv_libc.specs.Calls.{offer}
use Rattle.pv_libc.specs.Heap.{block_by, block}

-- the note tells of no instance made
abbrev pub IsQuiet : Note → Type 0
IsQuiet (Made i) = ⊥
IsQuiet (Ended i) = Unit {0}
IsQuiet (Exposed i) = Unit {0}
IsQuiet (Used tried test) = Unit {0}
IsQuiet (Stopped low high pair) = Unit {0}

abbrev pub AreQuiet : List Note → Type 0
AreQuiet notes = All IsQuiet notes

abbrev pub Quiet : {A : Type 0} → Did A → Type 0
Quiet d = AreQuiet d.after.notes

-- steps behind one another
pub quiet_by : {A B : Type 0} (r : Result A Stop) (d : Did A) (rest : A → Now → Did B) → Quiet d → ((a : A) → r ≡ Ok a → Quiet (rest a d.after)) → Quiet (next_by r d rest)
quiet_by (Ok a) d rest h g = g a refl
quiet_by (Err stop) d rest h g = h

pub quiet_next : {A B : Type 0} (d : Did A) (rest : A → Now → Did B) → Quiet d → ((a : A) (T : Now) → AreQuiet T.notes → Quiet (rest a T)) → Quiet (next d rest)
quiet_next d rest h g = quiet_by d.answer d rest h (λ a e. g a d.after h)

quiet_about_by : {A : Type 0} (r : Result A Stop) (note : Note) (d : Did A) → IsQuiet note → Quiet d → Quiet (about_by r note d)
quiet_about_by (Ok a) note d q h = h
quiet_about_by (Err stop) note d q h = All-push IsQuiet d.after.notes note h q

quiet_about : {A : Type 0} (note : Note) (d : Did A) → IsQuiet note → Quiet d → Quiet (about note d)
quiet_about note d q h = quiet_about_by d.answer note d q h

pub quiet_if : {A : Type 0} (b : Bool) (d e : Did A) → Quiet d → Quiet e → Quiet (cond b d e)
quiet_if true d e h g = h
quiet_if false d e h g = g

-- uses and exposures
pair_quiet : (o : Option ℕ) (tried : Tried) (n : ℕ) → AreQuiet (pair_used o tried n)
pair_quiet None tried n = All-nil IsQuiet
pair_quiet (Some k) tried n = All-cons IsQuiet (Used tried n) [] tt (All-nil IsQuiet)

used_quiet : (r : Result Tried Miss) (n : ℕ) → AreQuiet (use_notes r n)
used_quiet (Ok tried) n = pair_quiet tried.pair tried n
used_quiet (Err m) n = All-nil IsQuiet

exposed_quiet : (xs : List ℕ) → AreQuiet (map Exposed xs)
exposed_quiet [] = All-nil IsQuiet
exposed_quiet (x ∷ xs) = All-cons IsQuiet (Exposed x) (map Exposed xs) tt (exposed_quiet xs)

told_quiet : (S : Now) → AreQuiet S.notes → AreQuiet (with_exposures S).notes
told_quiet S h = All-append IsQuiet S.notes (map Exposed S.memory.table.pending) h (exposed_quiet S.memory.table.pending)

-- reads
reached_quiet : (by : Asker) (write : Bool) (g : Given) (n : ℕ) (S : Now) → IsQuiet g.stopped → AreQuiet S.notes → Quiet (reach_for by write g n S)
reached_quiet by write g n S q h =
    let t = Range g.pointer.address n in
    let found = use_answer S.memory.table g.pointer.prov t in
    quiet_about g.stopped (reached_by by write g n S (reach S.memory.table g.pointer n 1 write by)) q (All-append IsQuiet S.notes (use_notes found (test_number t)) h (used_quiet found (test_number t)))

character_quiet : (g : Given) (a : ℕ) (S : Now) → IsQuiet g.stopped → AreQuiet S.notes → Quiet (character_in g a S)
character_quiet g a S q h =
    let got = load S.memory a (scalar.Int UChar) in
    quiet_about g.stopped (character_loaded S got) q (told_quiet (in_table S got.1) h)

at_quiet : (by : Asker) (g : Given) (i : ℕ) (S : Now) → IsQuiet g.stopped → AreQuiet S.notes → Quiet (character_at by g i S)
at_quiet by g i S q h = quiet_next (reach_for by false (bytes_further g i) 1 S) (λ r T. character_in g r.address T) (reached_quiet by false (bytes_further g i) 1 S q h) (λ r T k. character_quiet g r.address T q k)

row_quiet : (n : ℕ) (g : Given) (a : ℕ) (read : List ℕ) (S : Now) → IsQuiet g.stopped → AreQuiet S.notes → Quiet (characters_from n g a read S)
row_quiet zero g a read S q h = h
row_quiet (suc n) g a read S q h =
    quiet_next (character_in g a S) (λ c T. characters_from n g (a + 1) (read ++ c ∷ []) T) (character_quiet g a S q h) (λ c T k. row_quiet n g (a + 1) (read ++ c ∷ []) T q k)

far_quiet : (A : Type 0) (by : Asker) (g : Given) (S : Now) → IsQuiet g.stopped → AreQuiet S.notes → Quiet (too_far {A = A} by g S)
far_quiet A by g S q h = All-push IsQuiet S.notes g.stopped h q

string_quiet : (n : ℕ) (by : Asker) (g : Given) (read : List ℕ) (S : Now) → IsQuiet g.stopped → AreQuiet S.notes → Quiet (string_from n by g read S)
string_quiet zero by g read S q h = far_quiet (List ℕ) by g S q h
string_quiet (suc n) by g read S q h =
    quiet_next (character_at by g (length read) S) (λ c T. cond (eqb c 0) (answer_now read T) (string_from n by g (read ++ c ∷ []) T)) (at_quiet by g (length read) S q h) (λ c T k.
    quiet_if (eqb c 0) (answer_now read T) (string_from n by g (read ++ c ∷ []) T) k (string_quiet n by g (read ++ c ∷ []) T q k))

-- ranges of bytes
pub copy_quiet : (apart : Bool) (to from : Given) (n : ℕ) (S : Now) → IsQuiet to.stopped → IsQuiet from.stopped → AreQuiet S.notes → Quiet (copy apart to from n S)
copy_quiet apart to from n S p q h =
    quiet_next (reach_for Text true to n S) _ (reached_quiet Text true to n S p h) (λ t T k.
    quiet_next (reach_for Text false from n T) _ (reached_quiet Text false from n T q k) (λ f U m. quiet_if _ _ _ (All-push IsQuiet U.notes to.stopped m p) m))

pub memset_quiet : (g : Given) (c : ℤ) (n : ℕ) (S : Now) → IsQuiet g.stopped → AreQuiet S.notes → Quiet (memset g c n S)
memset_quiet g c n S q h = quiet_next (reach_for Text true g n S) _ (reached_quiet Text true g n S q h) (λ r T k. k)

pub memcmp_quiet : (p q : Given) (n : ℕ) (S : Now) → IsQuiet p.stopped → IsQuiet q.stopped → AreQuiet S.notes → Quiet (memcmp p q n S)
memcmp_quiet p q n S a b h =
    quiet_next (reach_for Text false p n S) _ (reached_quiet Text false p n S a h) (λ l T i.
    quiet_next (reach_for Text false q n T) _ (reached_quiet Text false q n T b i) (λ r U j.
    quiet_next (characters_from n p l.address [] U) _ (row_quiet n p l.address [] U a j) (λ ls V k.
    quiet_next (characters_from n q r.address [] V) _ (row_quiet n q r.address [] V b k) (λ rs W m. m))))

-- strings
pub strlen_quiet : (g : Given) (S : Now) → IsQuiet g.stopped → AreQuiet S.notes → Quiet (strlen g S)
strlen_quiet g S q h = quiet_next (string_at Text g S) _ (string_quiet most Text g [] S q h) (λ s T k. k)

by_quiet : (a b : ℕ) (S : Now) (rest : Did Reply) → AreQuiet S.notes → Quiet rest → Quiet (compared_by a b S rest)
by_quiet a b S rest h k = quiet_if (not (eqb a b)) _ _ h (quiet_if (eqb a 0) _ _ h k)

compared_quiet : (n : ℕ) (p q : Given) (i : ℕ) (S : Now) → IsQuiet p.stopped → IsQuiet q.stopped → AreQuiet S.notes → Quiet (compared_from n p q i S)
compared_quiet zero p q i S a b h = far_quiet Reply Text p S a h
compared_quiet (suc n) p q i S a b h =
    quiet_next (character_at Text p i S) _ (at_quiet Text p i S a h) (λ x T k.
    quiet_next (character_at Text q i T) _ (at_quiet Text q i T b k) (λ y U m. by_quiet x y U (compared_from n p q (i + 1) U) m (compared_quiet n p q (i + 1) U a b m)))

pub strcmp_quiet : (p q : Given) (S : Now) → IsQuiet p.stopped → IsQuiet q.stopped → AreQuiet S.notes → Quiet (strcmp p q S)
strcmp_quiet p q S a b h = compared_quiet most p q 0 S a b h

pub strcpy_quiet : (to from : Given) (S : Now) → IsQuiet to.stopped → IsQuiet from.stopped → AreQuiet S.notes → Quiet (strcpy to from S)
strcpy_quiet to from S p q h =
    quiet_next (string_at Text from S) _ (string_quiet most Text from [] S q h) (λ s T k.
    quiet_next (reach_for Text true to (length s + 1) T) _ (reached_quiet Text true to (length s + 1) T p k) (λ t U m. quiet_if _ _ _ (All-push IsQuiet U.notes to.stopped m p) m))

-- the arguments behind a format
abbrev pub AreOffered : List Offered → Type 0
AreOffered [] = Unit {0}
AreOffered (x ∷ xs) = IsQuiet x.stopped × AreOffered xs

pub offered_quiet : (M : Mem) (xs : List Arg) → AreOffered (map (offer M) xs)
offered_quiet M [] = tt
offered_quiet M (x ∷ xs) = (tt, offered_quiet M xs)

number_quiet : (text : ℤ → List ℕ) (o : Option ℤ) (S : Now) → AreQuiet S.notes → Quiet (number_done text o S)
number_quiet text None S h = h
number_quiet text (Some n) S h = h

text_quiet : (note : Note) (o : Option Pointer) (S : Now) → IsQuiet note → AreQuiet S.notes → Quiet (string_done (given_of note o) S)
text_quiet note None S q h = h
text_quiet note (Some p) S q h = string_quiet most Print (record { pointer = p; stopped = note }) [] S q h

address_quiet : (note : Note) (o : Option Pointer) (S : Now) → IsQuiet note → AreQuiet S.notes → Quiet (address_done (given_of note o) S)
address_quiet note None S q h = h
address_quiet note (Some p) S q h =
    let found = use_answer S.memory.table p.prov Live in
    let got = to_int S.memory.table p ULong in
    quiet_about note (address_by (record { pointer = p; stopped = note }) S got) q (told_quiet (with_more_notes (use_notes found (test_number Live)) (in_table S got.1)) (All-append IsQuiet S.notes (use_notes found (test_number Live)) h (used_quiet found (test_number Live))))

converted_quiet : (k : Conversion) (x : Offered) (S : Now) → IsQuiet x.stopped → AreQuiet S.notes → Quiet (conversion_text k x S)
converted_quiet (conversion.Number long how) x S q h = number_quiet (number_text how) (number_of long how x.arg.shape x.arg.value) S h
converted_quiet conversion.Character x S q h = number_quiet (λ n. bits_of UChar n ∷ []) (number_of false style.Signed x.arg.shape x.arg.value) S h
converted_quiet conversion.String x S q h = text_quiet x.stopped (string_of x.arg.shape x.arg.value) S q h
converted_quiet conversion.Address x S q h = address_quiet x.stopped (address_of x.arg.shape x.arg.value) S q h

taken_quiet : (k : Conversion) (args : List Offered) (text : List ℕ) (S : Now) → AreOffered args → AreQuiet S.notes → Quiet (argument_taken k args text S)
taken_quiet k [] text S q h = h
taken_quiet k (x ∷ xs) text S q h = quiet_next (conversion_text k x S) _ (converted_quiet k x S q.0 h) (λ t T m. m)

piece_quiet : (p : Piece) (args : List Offered) (text : List ℕ) (S : Now) → AreOffered args → AreQuiet S.notes → Quiet (piece_done p args text S)
piece_quiet (Goes c place) args text S q h = h
piece_quiet (Converts k) args text S q h = taken_quiet k args text S q h
piece_quiet Breaks args text S q h = h

taken_by : (r : Result (List ℕ) Stop) (d : Did (List ℕ)) (xs : List Offered) (text : List ℕ) (at : Printed) → AreOffered xs → (next_by r d (λ t T. answer_now (record { within = within.Text; left = xs; text = text ++ t }) T)).answer ≡ Ok at → AreOffered at.left
taken_by (Ok t) d xs text at q e =
    let now : Printed = record { within = within.Text; left = xs; text = text ++ t } in
    let same : now ≡ at = cc in
    subst (λ (p : Printed). AreOffered p.left) same q
taken_by (Err stop) d xs text at q e = absurd cc

taken_left : (k : Conversion) (args : List Offered) (text : List ℕ) (S : Now) (at : Printed) → AreOffered args → (argument_taken k args text S).answer ≡ Ok at → AreOffered at.left
taken_left k [] text S at q e = absurd cc
taken_left k (x ∷ xs) text S at q e = taken_by (conversion_text k x S).answer (conversion_text k x S) xs text at q.1 e

piece_left : (p : Piece) (args : List Offered) (text : List ℕ) (S : Now) (at : Printed) → AreOffered args → (piece_done p args text S).answer ≡ Ok at → AreOffered at.left
piece_left (Goes c place) args text S at q e = let left : args ≡ at.left = cc in subst AreOffered left q
piece_left (Converts k) args text S at q e = taken_left k args text S at q e
piece_left Breaks args text S at q e = absurd cc

end_quiet : (w : Within) (text : List ℕ) (S : Now) → AreQuiet S.notes → Quiet (format_end w text S)
end_quiet within.Text text S h = h
end_quiet within.Percent text S h = h
end_quiet within.Long text S h = h

pub printed_quiet : (cs : List ℕ) (at : Printed) (S : Now) → AreOffered at.left → AreQuiet S.notes → Quiet (printed_from cs at S)
printed_quiet [] at S q h = end_quiet at.within at.text S h
printed_quiet (c ∷ cs) at S q h =
    let piece = piece_at at.within c in
    let d = piece_done piece at.left at.text S in
    let still = piece_quiet piece at.left at.text S q h in
    quiet_by d.answer d (λ at T. printed_from cs at T) still (λ more e. printed_quiet cs more d.after (piece_left piece at.left at.text S more q e) still)

-- an allocation that is given back
pub block_quiet : (c : Clause) (g : Given) (S : Now) → IsQuiet g.stopped → AreQuiet S.notes → Quiet (block c g S)
block_quiet c g S q h =
    let t = Block g.pointer.address in
    let found = use_answer S.memory.table g.pointer.prov t in
    quiet_about g.stopped (block_by c g S found) q (All-append IsQuiet S.notes (use_notes found (test_number t)) h (used_quiet found (test_number t)))
