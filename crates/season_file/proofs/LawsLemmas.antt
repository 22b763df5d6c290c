-- Bytes have exactly one reading.
use Rattle.std.proofs.Common.{◌≡◌, ◌<◌, ◌≤◌, ◌⊎◌, inl, inr, ℕ, Bool, List, Option, Some, None, Result, Ok, Err, length, refl, sym, ap, subst, ◌∙◌, arith}
use Rattle.std.specs.Prelude.{IsSome, is_some}
use Rattle.std.specs.Str.{IsUtf8, is_utf8}
use Rattle.std.proofs.lemmas.Bool.{cases_Bool, cases_lt}
use Rattle.std.proofs.lemmas.Str.{IsUtf8-from_is_utf8, is_utf8-from_IsUtf8}
use Rattle.office_base.specs.declared.person.CandId.{CandId}
use Rattle.office_base.specs.Limits.{most_bundle_bytes}
use Rattle.office_asks.specs.declared.ask.Request.{Request}
use Rattle.section_rows.specs.Rows.{Row, rows_of}
use Rattle.section_rows.proofs.StageLemmas.{EndsOnce, gives, gives-once, reads, reads-once, then, then-once}
use Rattle.request_rows.specs.Requests.{script_of}
use Rattle.rank_lists.specs.Laws as rank_laws
use Rattle.rank_lists.specs.Register as rank_grammar
use Rattle.section_rows.specs.declared.fault.TableFault.{TableFault}
use Rattle.section_rows.specs.declared.fault.TableFault.TheVariants.{Bad as BadRow, OutOfMemory as NoTableMemory}
use Rattle.rank_lists.specs.declared.fault.RankKind.{RankKind}
use Rattle.seat_matrix.specs.Laws as seat_laws
use Rattle.seat_matrix.specs.Matrix as seat_grammar
use Rattle.seat_matrix.specs.declared.fault.MatrixKind.{MatrixKind}
use Rattle.choice_lists.specs.Choices as choice_grammar
use Rattle.choice_lists.specs.Laws as choice_laws
use Rattle.choice_lists.specs.declared.fault.ChoiceKind.{ChoiceKind}
use Rattle.season_file.specs.Bundle.{Parts, bundle_of}
use Rattle.season_file.specs.Head.{head_of}
use Rattle.season_file.specs.Laws.{AreSound, HasFault, HaveOneReading}
use Rattle.season_file.specs.Season.{BundleGives, IsChoiceFault, IsClerkApart, IsHeadFault, IsMatrixFault, IsRegisterFault, IsRequestFault, IsText, SectionsGive, request_rows_of}
use Rattle.season_file.specs.declared.fault.SeasonFault.{SeasonFault}
use Rattle.season_file.specs.declared.fault.SeasonFault.TheVariants.{ReadFault, TooLong, BadFirstLine, Section, BadSeason, Register, Matrix, Choices, NotUtf8, BadRequest, OutOfMemory}
use Rattle.season_file.specs.declared.head.Head.{Head}
use Rattle.season_file.specs.declared.content.Content.{Content}
use Rattle.season_file.proofs.SeasonLemmas.{splitting_fault}

-- the laws of the sections
pub record AreLawful : Type 0 where
  pub register : (rows : List Row) → rank_laws.HaveOneReading rows
  pub matrix : (rows : List Row) → seat_laws.HaveOneReading rows
  pub choices : (ranks : rank_grammar.Ranks) (seats : seat_grammar.SeatTable) (rows : List Row) → choice_laws.HaveOneReading ranks seats rows

-- ---- the stages of a reading

-- a content and requests, as sections give them
abbrev Whole : Type 0
Whole = Content × List Request

-- the bytes are a text
abbrev text_ends : List ℕ → Result (Unit {0}) SeasonFault → Type 0
text_ends bytes (Ok done) = IsText bytes
text_ends bytes (Err fault) = ((most_bundle_bytes < length bytes) × (fault ≡ TooLong)) ⊎ ((length bytes ≤ most_bundle_bytes) × (IsUtf8 bytes → ⊥) × (fault ≡ NotUtf8))

-- the clerk's token is no candidate's
abbrev clerk_ends : Head → rank_grammar.Ranks → Result (Unit {0}) SeasonFault → Type 0
clerk_ends head ranks (Ok done) = rank_grammar.find_holder head.clerk ranks.holders ≡ None
clerk_ends head ranks (Err fault) = IsSome (rank_grammar.find_holder head.clerk ranks.holders) × (fault ≡ BadSeason head.row)

-- From each stage on: after the choices come the clerk and the requests.
abbrev after_choices : Parts → Head → rank_grammar.Ranks → seat_grammar.SeatTable → choice_grammar.Lists → Result Whole SeasonFault → Type 0
after_choices parts head ranks seats lists =
    then (clerk_ends head ranks) (λ done. then (gives BadRequest (script_of (request_rows_of parts)))
    (λ script r. r ≡ Ok (record { version = parts.version; head = head; register = ranks; matrix = seats; choices = lists }, script)))

abbrev after_matrix : Parts → Head → rank_grammar.Ranks → seat_grammar.SeatTable → Result Whole SeasonFault → Type 0
after_matrix parts head ranks seats =
    then (reads (choice_grammar.IsRead ranks seats (rows_of parts.choices)) (choice_grammar.IsFault ranks seats (rows_of parts.choices)) Choices) (after_choices parts head ranks seats)

abbrev after_register : Parts → Head → rank_grammar.Ranks → Result Whole SeasonFault → Type 0
after_register parts head ranks = then (reads (seat_grammar.IsRead (rows_of parts.matrix)) (seat_grammar.IsFault (rows_of parts.matrix)) Matrix) (after_matrix parts head ranks)

abbrev after_head : Parts → Head → Result Whole SeasonFault → Type 0
after_head parts head = then (reads (rank_grammar.IsRead (rows_of parts.register)) (rank_grammar.IsFault (rows_of parts.register)) Register) (after_register parts head)

abbrev after_cut : Parts → Result Whole SeasonFault → Type 0
after_cut parts = then (gives BadSeason (head_of (rows_of parts.season))) (after_head parts)

-- what bytes end with: a content and requests, or a fault
abbrev ends : Bool → List ℕ → Result Whole SeasonFault → Type 0
ends requests bytes = then (text_ends bytes) (λ done. then (gives (λ fault. fault) (bundle_of requests bytes)) after_cut)

-- ---- each stage ends in one way

text-once : (bytes : List ℕ) → EndsOnce (text_ends bytes)
text-once bytes (Ok done) (Ok other) a b = refl
text-once bytes (Ok done) (Err fault) a (inl b) = absurd (omega (arith, a.short, b.0))
text-once bytes (Ok done) (Err fault) a (inr b) = absurd (b.1 a.utf8)
text-once bytes (Err fault) (Ok done) (inl a) b = absurd (omega (arith, b.short, a.0))
text-once bytes (Err fault) (Ok done) (inr a) b = absurd (a.1 b.utf8)
text-once bytes (Err fault) (Err other) (inl a) (inl b) = ap Err (a.1 ∙ sym b.1)
text-once bytes (Err fault) (Err other) (inl a) (inr b) = absurd (omega (arith, a.0, b.0))
text-once bytes (Err fault) (Err other) (inr a) (inl b) = absurd (omega (arith, a.0, b.0))
text-once bytes (Err fault) (Err other) (inr a) (inr b) = ap Err (a.2 ∙ sym b.2)

-- who is found is somebody
not_held : (o : Option CandId) → o ≡ None → IsSome o → ⊥
not_held o e h = cc (ap (λ (p : Option CandId). is_some p) e, h)

clerk-once : (head : Head) (ranks : rank_grammar.Ranks) → EndsOnce (clerk_ends head ranks)
clerk-once head ranks (Ok done) (Ok other) a b = refl
clerk-once head ranks (Ok done) (Err fault) a b = absurd (not_held (rank_grammar.find_holder head.clerk ranks.holders) a b.0)
clerk-once head ranks (Err fault) (Ok other) a b = absurd (not_held (rank_grammar.find_holder head.clerk ranks.holders) b a.0)
clerk-once head ranks (Err fault) (Err other) a b = ap Err (a.1 ∙ sym b.1)

choices-once : (parts : Parts) (head : Head) (ranks : rank_grammar.Ranks) (seats : seat_grammar.SeatTable) (lists : choice_grammar.Lists) → EndsOnce (after_choices parts head ranks seats lists)
choices-once parts head ranks seats lists =
    let script = script_of (request_rows_of parts) in
    then-once (clerk_ends head ranks) _ (clerk-once head ranks) (λ done. then-once (gives BadRequest script) _ (gives-once BadRequest script) (λ script r s a b. a ∙ sym b))

matrix-once : AreLawful → (parts : Parts) (head : Head) (ranks : rank_grammar.Ranks) (seats : seat_grammar.SeatTable) → EndsOnce (after_matrix parts head ranks seats)
matrix-once laws parts head ranks seats =
    let law = laws.choices ranks seats (rows_of parts.choices) in
    then-once _ (after_choices parts head ranks seats)
    (reads-once (choice_grammar.IsRead ranks seats (rows_of parts.choices)) (choice_grammar.IsFault ranks seats (rows_of parts.choices)) Choices law.apart law.one_value law.one_fault)
    (choices-once parts head ranks seats)

register-once : AreLawful → (parts : Parts) (head : Head) (ranks : rank_grammar.Ranks) → EndsOnce (after_register parts head ranks)
register-once laws parts head ranks =
    let law = laws.matrix (rows_of parts.matrix) in
    then-once _ (after_matrix parts head ranks) (reads-once (seat_grammar.IsRead (rows_of parts.matrix)) (seat_grammar.IsFault (rows_of parts.matrix)) Matrix law.apart law.one_value law.one_fault)
    (matrix-once laws parts head ranks)

head-once : AreLawful → (parts : Parts) (head : Head) → EndsOnce (after_head parts head)
head-once laws parts head =
    let law = laws.register (rows_of parts.register) in
    then-once _ (after_register parts head) (reads-once (rank_grammar.IsRead (rows_of parts.register)) (rank_grammar.IsFault (rows_of parts.register)) Register law.apart law.one_value law.one_fault)
    (register-once laws parts head)

-- Bytes end in one way.
ends-once : AreLawful → (requests : Bool) (bytes : List ℕ) → EndsOnce (ends requests bytes)
ends-once laws requests bytes =
    then-once (text_ends bytes) _ (text-once bytes)
    (λ done. then-once _ after_cut (gives-once (λ fault. fault) (bundle_of requests bytes))
    (λ parts. then-once _ (after_head parts) (gives-once BadSeason (head_of (rows_of parts.season))) (head-once laws parts)))

-- ---- what bytes give, and their faults, are ends

-- sections that give a content are passed
past-choices : (parts : Parts) (content : Content) (r : Result Whole SeasonFault) → SectionsGive parts content → after_choices parts content.head content.register content.matrix content.choices r → after_cut parts r
past-choices parts content r give rest =
    let matrix : after_register parts content.head content.register r = inr (content.matrix, give.matrix, inr (content.choices, give.choices, rest)) in
    inr (content.head, give.head, inr (content.register, give.register, matrix))

given-ends : (requests : Bool) (bytes : List ℕ) (content : Content) (script : List Request) → BundleGives requests bytes content script → ends requests bytes (Ok (content, script))
given-ends requests bytes content script given =
    let (parts, cut, give, scripted) = given.1 in
    let same : Ok (content, script) ≡ Ok (record { version = parts.version; head = content.head; register = content.register; matrix = content.matrix; choices = content.choices }, script) =
    ap (λ (v : ℕ). Ok (record { version = v; head = content.head; register = content.register; matrix = content.matrix; choices = content.choices }, script)) give.version in
    inr (tt, given.0, inr (parts, cut, past-choices parts content (Ok (content, script)) give (inr (tt, given.2, inr (script, scripted, same)))))

head-ends : (parts : Parts) (row : ℕ) → IsHeadFault parts row → after_cut parts (Err (BadSeason row))
head-ends parts row (inl e) = inl (BadSeason row, (row, e, refl), refl)
head-ends parts row (inr found) =
    let (content, give, held, e) = found in past-choices parts content (Err (BadSeason row)) give (inl (BadSeason content.head.row, (held, refl), ap (λ (r : ℕ). Err (BadSeason r)) e))

register-ends : (parts : Parts) (fault : TableFault RankKind) → IsRegisterFault parts fault → after_cut parts (Err (Register fault))
register-ends parts (BadRow row kind) found = let (head, e, first) = found in inr (head, e, inl (Register (BadRow row kind), (row, kind, first, refl), refl))
register-ends parts NoTableMemory found = absurd found

matrix-ends : (parts : Parts) (fault : TableFault MatrixKind) → IsMatrixFault parts fault → after_cut parts (Err (Matrix fault))
matrix-ends parts (BadRow row kind) found =
    let (head, ranks, e, read, first) = found in inr (head, e, inr (ranks, read, inl (Matrix (BadRow row kind), (row, kind, first, refl), refl)))
matrix-ends parts NoTableMemory found = absurd found

choices-ends : (parts : Parts) (fault : TableFault ChoiceKind) → IsChoiceFault parts fault → after_cut parts (Err (Choices fault))
choices-ends parts (BadRow row kind) found =
    let (head, ranks, seats, e, read, table, first) = found in
    inr (head, e, inr (ranks, read, inr (seats, table, inl (Choices (BadRow row kind), (row, kind, first, refl), refl))))
choices-ends parts NoTableMemory found = absurd found

request-ends : (parts : Parts) (row : ℕ) → IsRequestFault parts row → after_cut parts (Err (BadRequest row))
request-ends parts row found =
    let (content, give, clerk, e) = found in past-choices parts content (Err (BadRequest row)) give (inr (tt, clerk, inl (BadRequest row, (row, e, refl), refl)))

inside-ends : (requests : Bool) (bytes : List ℕ) (parts : Parts) (fault : SeasonFault) → IsText bytes → bundle_of requests bytes ≡ Ok parts → after_cut parts (Err fault) → ends requests bytes (Err fault)
inside-ends requests bytes parts fault text cut first = inr (tt, text, inr (parts, cut, first))

-- A fault is an end.
fault-ends : (requests : Bool) (bytes : List ℕ) (fault : SeasonFault) → HasFault requests bytes fault → ends requests bytes (Err fault)
fault-ends requests bytes TooLong first = inl (TooLong, inl (first, refl), refl)
fault-ends requests bytes NotUtf8 first = inl (NotUtf8, inr (first.0, first.1, refl), refl)
fault-ends requests bytes BadFirstLine first = inr (tt, first.0, inl (BadFirstLine, (BadFirstLine, first.1, refl), refl))
fault-ends requests bytes (Section line) first = inr (tt, first.0, inl (Section line, (Section line, first.1, refl), refl))
fault-ends requests bytes (BadSeason row) first = let (text, found) = first in inside-ends requests bytes found.0 (BadSeason row) text found.1 (head-ends found.0 row found.2)
fault-ends requests bytes (Register fault) first = let (text, found) = first in inside-ends requests bytes found.0 (Register fault) text found.1 (register-ends found.0 fault found.2)
fault-ends requests bytes (Matrix fault) first = let (text, found) = first in inside-ends requests bytes found.0 (Matrix fault) text found.1 (matrix-ends found.0 fault found.2)
fault-ends requests bytes (Choices fault) first = let (text, found) = first in inside-ends requests bytes found.0 (Choices fault) text found.1 (choices-ends found.0 fault found.2)
fault-ends requests bytes (BadRequest row) first = let (text, found) = first in inside-ends requests bytes found.0 (BadRequest row) text found.1 (request-ends found.0 row found.2)
fault-ends requests bytes OutOfMemory first = absurd first
fault-ends requests bytes ReadFault first = let (text, found) = first in absurd found.2

-- ---- bytes give a content or have a fault

-- what bytes give or have
abbrev HaveSome : Bool → List ℕ → Type 0
HaveSome requests bytes = ((content : Content) × (script : List Request) × BundleGives requests bytes content script) ⊎ ((fault : SeasonFault) × HasFault requests bytes fault)

-- Each stage gives what it is to, or has its fault.
some-script : (requests : Bool) (bytes : List ℕ) (parts : Parts) (content : Content) → IsText bytes → bundle_of requests bytes ≡ Ok parts → SectionsGive parts content → IsClerkApart content
    → (r : Result (List Request) ℕ) → script_of (request_rows_of parts) ≡ r → HaveSome requests bytes
some-script requests bytes parts content text cut give clerk (Ok script) e = inl (content, script, (text, (parts, cut, give, e), clerk))
some-script requests bytes parts content text cut give clerk (Err row) e = inr (BadRequest row, (text, (parts, cut, (content, give, clerk, e))))

some-content : (requests : Bool) (bytes : List ℕ) (parts : Parts) (content : Content) → IsText bytes → bundle_of requests bytes ≡ Ok parts → SectionsGive parts content → HaveSome requests bytes
some-content requests bytes parts content text cut give = by (rank_grammar.find_holder content.head.clerk content.register.holders) refl
  where
    by : (o : Option CandId) → rank_grammar.find_holder content.head.clerk content.register.holders ≡ o → HaveSome requests bytes
    by None e = some-script requests bytes parts content text cut give e (script_of (request_rows_of parts)) refl
    by (Some id) e = inr (BadSeason content.head.row, (text, (parts, cut, inr (content, give, ap (λ (o : Option CandId). is_some o) e, refl))))

some-choices : AreLawful → (requests : Bool) (bytes : List ℕ) (parts : Parts) (head : Head) (ranks : rank_grammar.Ranks) (seats : seat_grammar.SeatTable) → IsText bytes → bundle_of requests bytes ≡ Ok parts → head_of (rows_of parts.season) ≡ Ok head
    → rank_grammar.IsRead (rows_of parts.register) ranks → seat_grammar.IsRead (rows_of parts.matrix) seats → HaveSome requests bytes
some-choices laws requests bytes parts head ranks seats text cut e read table = elim (laws.choices ranks seats (rows_of parts.choices)).some [
  | inl found ↦ some-content requests bytes parts (record { version = parts.version; head = head; register = ranks; matrix = seats; choices = found.0 }) text cut (record {
    version = refl;
    head = e;
    register = read;
    matrix = table;
    choices = found.1;
    sound = (laws.choices ranks seats (rows_of parts.choices)).sound found.0 found.1;
  })
  | inr first ↦ inr (Choices (BadRow first.0 first.1), (text, (parts, cut, (head, ranks, seats, e, read, table, first.2))))
]

some-matrix : AreLawful → (requests : Bool) (bytes : List ℕ) (parts : Parts) (head : Head) (ranks : rank_grammar.Ranks) → IsText bytes → bundle_of requests bytes ≡ Ok parts → head_of (rows_of parts.season) ≡ Ok head
    → rank_grammar.IsRead (rows_of parts.register) ranks → HaveSome requests bytes
some-matrix laws requests bytes parts head ranks text cut e read = elim (laws.matrix (rows_of parts.matrix)).some [
  | inl found ↦ some-choices laws requests bytes parts head ranks found.0 text cut e read found.1
  | inr first ↦ inr (Matrix (BadRow first.0 first.1), (text, (parts, cut, (head, ranks, e, read, first.2))))
]

some-register : AreLawful → (requests : Bool) (bytes : List ℕ) (parts : Parts) (head : Head) → IsText bytes → bundle_of requests bytes ≡ Ok parts → head_of (rows_of parts.season) ≡ Ok head → HaveSome requests bytes
some-register laws requests bytes parts head text cut e = elim (laws.register (rows_of parts.register)).some [
  | inl found ↦ some-matrix laws requests bytes parts head found.0 text cut e found.1
  | inr first ↦ inr (Register (BadRow first.0 first.1), (text, (parts, cut, (head, e, first.2))))
]

some-head : AreLawful → (requests : Bool) (bytes : List ℕ) (parts : Parts) → IsText bytes → bundle_of requests bytes ≡ Ok parts → (r : Result Head ℕ) → head_of (rows_of parts.season) ≡ r → HaveSome requests bytes
some-head laws requests bytes parts text cut (Ok head) e = some-register laws requests bytes parts head text cut e
some-head laws requests bytes parts text cut (Err row) e = inr (BadSeason row, (text, (parts, cut, inl e)))

some-bundle : AreLawful → (requests : Bool) (bytes : List ℕ) → IsText bytes → (r : Result Parts SeasonFault) → bundle_of requests bytes ≡ r → HaveSome requests bytes
some-bundle laws requests bytes text (Ok parts) e = some-head laws requests bytes parts text e (head_of (rows_of parts.season)) refl
some-bundle laws requests bytes text (Err fault) e = elim (splitting_fault requests bytes fault e) [
  | inl same ↦ inr (BadFirstLine, (text, e ∙ ap Err same))
  | inr found ↦ inr (Section found.0, (text, e ∙ ap Err found.1))
]

-- Bytes give a content or have a fault.
some_reading : AreLawful → (requests : Bool) (bytes : List ℕ) → HaveSome requests bytes
some_reading laws requests bytes = elim (cases_lt most_bundle_bytes (length bytes)) [
  | inl long ↦ inr (TooLong, long)
  | inr short ↦ elim (cases_Bool (is_utf8 bytes)) [
    | inl e ↦ some-bundle laws requests bytes (record { short = short; utf8 = IsUtf8-from_is_utf8 bytes e }) (bundle_of requests bytes) refl
    | inr e ↦ inr (NotUtf8, (short, λ utf8. cc (e, is_utf8-from_IsUtf8 bytes utf8)))
  ]
]

-- What bodies give is sound.
sound_content : AreLawful → (parts : Parts) (content : Content) → SectionsGive parts content → AreSound content
sound_content laws parts content give = record {
  ranks = (laws.register (rows_of parts.register)).sound content.register give.register;
  seats = (laws.matrix (rows_of parts.matrix)).sound content.matrix give.matrix;
  spelled = (laws.matrix (rows_of parts.matrix)).spelled content.matrix give.matrix;
}

-- Two readings of bytes are one.
one_whole : AreLawful → (requests : Bool) (bytes : List ℕ) (content other : Content) (script more : List Request) → BundleGives requests bytes content script → BundleGives requests bytes other more → (content ≡ other) × (script ≡ more)
one_whole laws requests bytes content other script more a b =
    let same = ends-once laws requests bytes (Ok (content, script)) (Ok (other, more)) (given-ends requests bytes content script a) (given-ends requests bytes other more b) in
    let both : ◌≡◌ {A = Whole} (content, script) (other, more) = cc in
    (ap (λ (w : Whole). w.0) both, ap (λ (w : Whole). w.1) both)

-- Bytes have exactly one reading.
pub one_reading : AreLawful → (requests : Bool) (bytes : List ℕ) → HaveOneReading requests bytes
one_reading laws requests bytes = record {
  some = some_reading laws requests bytes;
  apart = λ content script fault gives first.
      let both = ends-once laws requests bytes (Ok (content, script)) (Err fault) (given-ends requests bytes content script gives) (fault-ends requests bytes fault first) in cc;
  sound = λ content script gives. let (parts, cut, give, scripted) = gives.1 in sound_content laws parts content give;
  one_content = λ content other script more a b. (one_whole laws requests bytes content other script more a b).0;
  one_script = λ content other script more a b. (one_whole laws requests bytes content other script more a b).1;
  one_fault = λ fault other a b. let same = ends-once laws requests bytes (Err fault) (Err other) (fault-ends requests bytes fault a) (fault-ends requests bytes other b) in cc;
}
