-- Which season a bundle is, and which fault is its first.
use Rattle.std.specs.Prelude.{◌≡◌, ◌<◌, ◌≤◌, ◌⊎◌, ℕ, Bool, false, List, [], ◌∷◌, Option, None, Ok, Err, IsSome, length, map}
use Rattle.std.specs.Str.{IsUtf8}
use Rattle.office_base.specs.Limits.{most_bundle_bytes}
use Rattle.office_base.specs.Outside.{IsAtEnd, Took, TookMore}
use Rattle.office_asks.specs.declared.ask.Request.{Request}
use Rattle.section_rows.specs.Rows.{Row, rows_of}
use Rattle.request_rows.specs.Requests.{script_of}
use Rattle.request_rows.specs.declared.script.ScriptFault.{ScriptFault}
use Rattle.request_rows.specs.declared.script.ScriptFault.TheVariants.{BadRequest as NoRequest, OutOfMemory as NoScriptMemory}
use Rattle.rank_lists.specs.Register as rank_grammar
use Rattle.section_rows.specs.declared.fault.TableFault.{TableFault}
use Rattle.choice_lists.specs.declared.fault.ChoiceKind.{ChoiceKind}
use Rattle.seat_matrix.specs.declared.fault.MatrixKind.{MatrixKind}
use Rattle.section_rows.specs.declared.fault.TableFault.TheVariants.{Bad as BadRow, OutOfMemory as NoTableMemory}
use Rattle.rank_lists.specs.declared.fault.RankKind.{RankKind}
use Rattle.seat_matrix.specs.Matrix as seat_grammar
use Rattle.choice_lists.specs.Choices as choice_grammar
use Rattle.season_file.specs.Bundle.{Parts, after_line, bundle_of, season_text}
use Rattle.season_file.specs.Head.{head_of}
use Rattle.season_file.specs.declared.fault.SeasonFault.{SeasonFault}
use Rattle.season_file.specs.declared.fault.SeasonFault.TheVariants.{ReadFault, TooLong, BadFirstLine, Section, BadSeason, Register, Matrix, Choices, NotUtf8, BadRequest, OutOfMemory}
use Rattle.season_file.specs.declared.head.Head.{Head}
use Rattle.season_file.specs.declared.content.Content.{Content}
use Rattle.season_file.specs.declared.season.Season.{Season}

-- UTF-8 of at most 134,217,728 bytes
pub record IsText (bytes : List ℕ) : Type 0 where
  pub short : length bytes ≤ most_bundle_bytes
  pub utf8 : IsUtf8 bytes

-- The sections give this: version, rounds and clerk, a register, a matrix, and choices that are sound for the
-- register and the matrix.
pub record SectionsGive (parts : Parts) (content : Content) : Type 0 where
  pub version : content.version ≡ parts.version
  pub head : head_of (rows_of parts.season) ≡ Ok content.head
  pub register : rank_grammar.IsRead (rows_of parts.register) content.register
  pub matrix : seat_grammar.IsRead (rows_of parts.matrix) content.matrix
  pub choices : choice_grammar.IsRead content.register content.matrix (rows_of parts.choices) content.choices
  pub sound : choice_grammar.AreChoices content.register content.matrix content.choices

-- the clerk's token is no candidate's
abbrev pub IsClerkApart : Content → Type 0
IsClerkApart content = rank_grammar.find_holder content.head.clerk content.register.holders ≡ None

-- the choice lists are in the order of the people of the register
abbrev pub AreAligned : Content → Type 0
AreAligned content = map (λ held. held.0) content.choices ≡ map (λ person. person.id.0) content.register.people

-- the rows after the section line of the requests; none where there is no such section
abbrev pub rows_of_requests : List ℕ → List Row
rows_of_requests [] = []
rows_of_requests (byte ∷ section) = rows_of (after_line (byte ∷ section))

abbrev pub request_rows_of : Parts → List Row
request_rows_of parts = rows_of_requests parts.requests

-- a fault of the requests is reported unchanged, except when memory runs out
abbrev pub script_error : ScriptFault → SeasonFault
script_error (NoRequest row) = BadRequest row
script_error NoScriptMemory = OutOfMemory

-- the first fault of a register; running out of memory is none
abbrev pub IsRegisterFault : Parts → TableFault RankKind → Type 0
IsRegisterFault parts (BadRow row kind) = (head : Head) × (head_of (rows_of parts.season) ≡ Ok head) × rank_grammar.IsFault (rows_of parts.register) (BadRow row kind)
IsRegisterFault parts NoTableMemory = ⊥

-- the first fault of a matrix, after a register without faults
abbrev pub IsMatrixFault : Parts → TableFault MatrixKind → Type 0
IsMatrixFault parts (BadRow row kind) =
    (head : Head) × (ranks : rank_grammar.Ranks) × (head_of (rows_of parts.season) ≡ Ok head) × rank_grammar.IsRead (rows_of parts.register) ranks
    × seat_grammar.IsFault (rows_of parts.matrix) (BadRow row kind)
IsMatrixFault parts NoTableMemory = ⊥

-- the first fault of choices, after a register and a matrix without faults
abbrev pub IsChoiceFault : Parts → TableFault ChoiceKind → Type 0
IsChoiceFault parts (BadRow row kind) =
    (head : Head) × (ranks : rank_grammar.Ranks) × (seats : seat_grammar.SeatTable) × (head_of (rows_of parts.season) ≡ Ok head) × rank_grammar.IsRead (rows_of parts.register) ranks
    × seat_grammar.IsRead (rows_of parts.matrix) seats × choice_grammar.IsFault ranks seats (rows_of parts.choices) (BadRow row kind)
IsChoiceFault parts NoTableMemory = ⊥

-- the first wrong row of the season's section; or the clerk's row, where nothing else is wrong and the clerk's token is a candidate's
abbrev pub IsHeadFault : Parts → ℕ → Type 0
IsHeadFault parts row =
    (head_of (rows_of parts.season) ≡ Err row)
    ⊎ ((content : Content) × SectionsGive parts content × IsSome (rank_grammar.find_holder content.head.clerk content.register.holders) × (row ≡ content.head.row))

-- the first row of the requests that is none, after sections without faults
abbrev pub IsRequestFault : Parts → ℕ → Type 0
IsRequestFault parts row = (content : Content) × SectionsGive parts content × IsClerkApart content × (script_of (request_rows_of parts) ≡ Err row)

-- the first fault in the contents of the sections; there is no other one, and `OutOfMemory` says nothing of them
abbrev pub IsSectionFault : Parts → SeasonFault → Type 0
IsSectionFault parts (BadSeason row) = IsHeadFault parts row
IsSectionFault parts (Register fault) = IsRegisterFault parts fault
IsSectionFault parts (Matrix fault) = IsMatrixFault parts fault
IsSectionFault parts (Choices fault) = IsChoiceFault parts fault
IsSectionFault parts (BadRequest row) = IsRequestFault parts row
IsSectionFault parts OutOfMemory = Unit {0}
IsSectionFault parts fault = ⊥

-- the bytes are cut into sections, in which this is the first fault
abbrev pub HasSectionFault : Bool → List ℕ → SeasonFault → Type 0
HasSectionFault requests bytes fault = IsText bytes × ((parts : Parts) × (bundle_of requests bytes ≡ Ok parts) × IsSectionFault parts fault)

-- The first fault of a bundle, in this order: too long, no UTF-8, the first line, the sections, and then their
-- contents. `OutOfMemory` says nothing of the bytes.
abbrev pub IsSeasonFault : Bool → List ℕ → SeasonFault → Type 0
IsSeasonFault requests bytes TooLong = most_bundle_bytes < length bytes
IsSeasonFault requests bytes NotUtf8 = (length bytes ≤ most_bundle_bytes) × (IsUtf8 bytes → ⊥)
IsSeasonFault requests bytes BadFirstLine = IsText bytes × (bundle_of requests bytes ≡ Err BadFirstLine)
IsSeasonFault requests bytes (Section line) = IsText bytes × (bundle_of requests bytes ≡ Err (Section line))
IsSeasonFault requests bytes OutOfMemory = Unit {0}
IsSeasonFault requests bytes fault = HasSectionFault requests bytes fault

-- the bytes give this and these requests, and have no fault
abbrev pub BundleGives : Bool → List ℕ → Content → List Request → Type 0
BundleGives requests bytes content script =
    IsText bytes × ((parts : Parts) × (bundle_of requests bytes ≡ Ok parts) × SectionsGive parts content × (script_of (request_rows_of parts) ≡ Ok script)) × IsClerkApart content

-- what a season has of its sections, with the clerk's row
abbrev pub content_of : Season → ℕ → Content
content_of season row = record {
  version = season.version;
  head = record { rounds = season.rounds; clerk = season.clerk; row = row };
  register = season.register;
  matrix = season.matrix;
  choices = season.choices;
}

-- The bundle is this season's: it is the season's text, and its sections give the rest.
pub record IsSeason (bytes : List ℕ) (season : Season) : Type 0 where
  pub text : season.text ≡ bytes
  pub row : ℕ
  pub given : BundleGives false bytes (content_of season row) []

-- The bundle gives this season with these requests: the season's text is the bundle without its requests.
pub record IsSeasonWith (requests : Bool) (bytes : List ℕ) (season : Season) (script : List Request) : Type 0 where
  pub text : season.text ≡ season_text requests bytes
  pub row : ℕ
  pub given : BundleGives requests bytes (content_of season row) script

-- the bytes that a source gave up to its end give this season with these requests
abbrev pub GaveSeason : Bool → Option (List ℕ) → Option (List ℕ) → Season → List Request → Type 0
GaveSeason requests before after season script = (bytes : List ℕ) × Took bytes before after × IsAtEnd after × IsSeasonWith requests bytes season script

-- the first fault of the bytes that a source gave up to its end
abbrev pub GaveFault : Bool → Option (List ℕ) → Option (List ℕ) → SeasonFault → Type 0
GaveFault requests before after fault = (bytes : List ℕ) × Took bytes before after × IsAtEnd after × IsSeasonFault requests bytes fault

-- The fault of a source: that of its bytes, if it gave all of them; or there are too many. `ReadFault` and
-- `OutOfMemory` say nothing of them.
abbrev pub IsSourceFault : Bool → Option (List ℕ) → Option (List ℕ) → SeasonFault → Type 0
IsSourceFault requests before after ReadFault = Unit {0}
IsSourceFault requests before after TooLong = TookMore most_bundle_bytes before after
IsSourceFault requests before after OutOfMemory = Unit {0}
IsSourceFault requests before after fault = GaveFault requests before after fault

-- a source was not read to its end: it failed, or gave too many bytes, or there was no memory; there is no other fault
abbrev pub IsUnread : Option (List ℕ) → Option (List ℕ) → SeasonFault → Type 0
IsUnread before after ReadFault = Unit {0}
IsUnread before after TooLong = TookMore most_bundle_bytes before after
IsUnread before after OutOfMemory = Unit {0}
IsUnread before after fault = ⊥
