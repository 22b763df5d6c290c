-- How the command `units` ends.
use Rattle.std.proofs.Common.{◌≡◌, ◌<◌, inl, inr, ℕ, Bool, true, cond, List, Option, Some, None, Result, Ok, Err, length, refl, ap, subst}
use Rattle.std.proofs.lemmas.Bool.{lt-ltb}
use Rattle.office_base.specs.Limits.{most_bundle_bytes}
use Rattle.office_base.specs.Outside.{Appends, AreLeft}
use Rattle.office_asks.specs.declared.ask.Request.{Request}
use Rattle.office_text.specs.Lines.{skip_mark}
use Rattle.section_rows.specs.Rows.{rows_of}
use Rattle.section_rows.specs.Steps.{after}
use Rattle.season_file.specs.Laws.{HasFault}
use Rattle.season_file.specs.Season.{IsSeasonFault, content_of}
use Rattle.season_file.specs.declared.fault.SeasonFault.{SeasonFault}
use Rattle.season_file.specs.declared.fault.SeasonFault.TheVariants as season
use Rattle.season_file.specs.declared.season.Season.{Season}
use Rattle.kept_rows.specs.Tables.{Tables}
use Rattle.command_answers.specs.Answers.{HaveOneAnswer, IsFailureOf, Tells}
use Rattle.command_answers.specs.Writes.{IsTextOut, status_of, text_of}
use Rattle.command_answers.specs.declared.failure.Failure.{Failure}
use Rattle.command_answers.specs.declared.failure.Failure.TheVariants.{Read, Bad, NoMemory}
use Rattle.command_answers.specs.declared.status.Status.{Status}
use Rattle.command_answers.proofs.Ended.{all_left, answer_is_written, long_left}
use Rattle.season_commands.specs.Check.{IsBundle, TellsSeasonFault}
use Rattle.season_commands.specs.Run.{EndsSeason}
use Rattle.quota_units.specs.Expansion.{GaveUnitFault, IsUnitFault}
use Rattle.quota_units.specs.Homes.{states_of, units_of}
use Rattle.quota_units.specs.Input.{expanded, expansion, input_of, with_row}
use Rattle.quota_units.specs.declared.fault.UnitFault.{UnitFault}
use Rattle.quota_units.specs.declared.fault.UnitFault.TheVariants.{ReadFault, TooLong, BadFirstLine, Section, BadUnit, BadState, OutOfMemory}
use Rattle.units_command.specs.Texts.{unit_line}
use Rattle.units_command.specs.Units.{EndsUnits, IsFaultyUnits, IsLeftExpansion, TellsUnitFault, units_answers}

-- ---- why there is no bundle

given_left : (left after : Option (List ℕ)) (failed : Type 0) (fault : UnitFault) (line : List ℕ) → GaveUnitFault left after fault → line ≡ unit_line fault → IsFailureOf units_answers left failed (Bad line)
given_left left after failed fault line (bytes, took, end, e) told = (bytes, all_left bytes left after took end, inl (fault, e, told))

-- too many bytes
too_long : (bytes : List ℕ) → most_bundle_bytes < length bytes → expansion bytes ≡ Err TooLong
too_long bytes less = ap (λ (b : Bool). cond b (Err TooLong) (known bytes)) (lt-ltb most_bundle_bytes (length bytes) less)
  where
    known : List ℕ → Result (List ℕ) UnitFault
    known bytes = after (input_of (skip_mark bytes)) (λ input. after (with_row BadUnit (units_of (rows_of input.units))) (λ units. after (with_row BadState (states_of (rows_of input.states))) (λ states. expanded units states input.bundle)))

-- A failure that reports a fault of units has its cause.
pub unit_failed : (left after : Option (List ℕ)) (failed : Type 0) (fault : UnitFault) (failure : Failure) → (fault ≡ ReadFault → failed)
    → IsUnitFault left after fault → TellsUnitFault fault failure → IsFailureOf units_answers left failed failure
unit_failed left after failed fault Read cause first told = cause told
unit_failed left after failed fault NoMemory cause first told = tt
unit_failed left after failed ReadFault (Bad line) cause first told = absurd (told.0 refl)
unit_failed left after failed OutOfMemory (Bad line) cause first told = absurd (told.1 refl)
unit_failed left after failed TooLong (Bad line) cause first told = let more = long_left most_bundle_bytes left after first in (more.0, more.1, inl (TooLong, too_long more.0 more.2, told.2))
unit_failed left after failed fault (Bad line) cause first told = given_left left after failed fault line first told.2

-- If it reports no failed source, the source did not fail.
pub unit_held : (fault : UnitFault) (failure : Failure) (Held : Type 0) → ((fault ≡ ReadFault → ⊥) → Held) → TellsUnitFault fault failure → (failure ≡ Read → ⊥) → Held
unit_held fault Read Held steady told other = absurd (other refl)
unit_held fault (Bad line) Held steady told other = steady told.0
unit_held fault NoMemory Held steady told other = steady told

-- bytes that are in memory do not fail to be read
has_fault : (text : List ℕ) (fault : SeasonFault) → IsSeasonFault true text fault → (fault ≡ season.OutOfMemory → ⊥) → HasFault true text fault
has_fault text season.ReadFault first other = first
has_fault text season.TooLong first other = first
has_fault text season.NotUtf8 first other = first
has_fault text season.BadFirstLine first other = first
has_fault text (season.Section line) first other = first
has_fault text (season.BadSeason row) first other = first
has_fault text (season.Register fault) first other = first
has_fault text (season.Matrix fault) first other = first
has_fault text (season.Choices fault) first other = first
has_fault text (season.BadRequest row) first other = first
has_fault text season.OutOfMemory first other = absurd (other refl)

no_read : (text : List ℕ) (fault : SeasonFault) → IsSeasonFault true text fault → fault ≡ season.ReadFault → ⊥
no_read text fault first same = let here = subst (λ (f : SeasonFault). IsSeasonFault true text f) same first in here.1.2

-- A failure that reports a fault of the plain bundle has its cause.
pub text_failed : (left : Option (List ℕ)) (bytes text : List ℕ) (failed : Type 0) (fault : SeasonFault) (failure : Failure) → AreLeft bytes left → expansion bytes ≡ Ok text → IsSeasonFault true text fault
    → TellsSeasonFault fault failure → IsFailureOf units_answers left failed failure
text_failed left bytes text failed fault Read are made first told = absurd (no_read text fault first told)
text_failed left bytes text failed fault (Bad line) are made first told = (bytes, are, inr (text, made, (fault, has_fault text fault first told.1, told.2)))
text_failed left bytes text failed fault NoMemory are made first told = tt

-- ---- how the command ends

-- No bundle was read.
pub unread_ends : (left : Option (List ℕ)) (failed : Type 0) (failure : Failure) (tables : Tables) (written now : Option (List ℕ)) (broke : Type 0) (result : Status)
    → IsFailureOf units_answers left failed failure → IsTextOut (status_of (Err failure)) (text_of (Err failure)) written now broke result
    → (output : List ℕ) × Appends output written now × EndsUnits left tables tables result output
unread_ends left failed failure tables written now broke result cause is =
    let (output, appends, writes) = answer_is_written units_answers left failed (Err failure) result written now broke tt cause is in
    (output, appends, inl (writes, refl))

-- No season can be read if the bytes have a fault.
pub no_faulty_units : (left : Option (List ℕ)) (season : Season) (script : List Request) → ((bytes : List ℕ) → HaveOneAnswer units_answers bytes) → IsLeftExpansion left season script → Tells IsFaultyUnits left → ⊥
no_faulty_units None season script laws is tells = tells
no_faulty_units (Some all) season script laws (bytes, text, are, more) tells =
    let (made, with, right) = more in
    let given : IsBundle true text = (content_of season with.row, script, with.given) in
    (laws all).apart (subst (λ (b : List ℕ). units_answers.IsInput b) are (text, made.made, given)) tells

-- A bundle was read, and its season ended.
pub read_ends : (left : Option (List ℕ)) (before after : Tables) (season : Season) (script shown : List Request) (written now : Option (List ℕ)) (status : Status) → IsLeftExpansion left season script
    → shown ≡ script → (output : List ℕ) × Appends output written now × EndsSeason season shown before after status output
    → (output : List ℕ) × Appends output written now × EndsUnits left before after status output
read_ends left before after season script shown written now status is same end =
    (end.0, end.1, inr (season, script, is, subst (λ (requests : List Request). EndsSeason season requests before after status end.0) same end.2))
