-- How the command `special` ends.
use Rattle.std.proofs.Common.{◌≡◌, ◌<◌, ◌≤◌, ◌⊎◌, inl, inr, ℕ, List, Option, Some, None, Err, length, refl, sym, subst}
use Rattle.office_base.specs.Limits.{most_bundle_bytes}
use Rattle.office_base.specs.Outside.{Appends}
use Rattle.kept_rows.specs.Tables.{Tables, AreTold, IsTold as IsTablesTold, still}
use Rattle.office_moves.specs.Facts.{SeasonFacts}
use Rattle.office_moves.specs.State.{State}
use Rattle.replays.specs.Resume.{IsResumed}
use Rattle.special_round.specs.Season.{IsSpecialFault}
use Rattle.special_round.specs.declared.fault.SpecialFault.{SpecialFault}
use Rattle.command_answers.specs.Answers.{HasLeft, IsFailureOf, IsInputFailure, Tells, TellsLine}
use Rattle.command_answers.specs.Writes.{IsTextOut, Writes, status_of, text_of}
use Rattle.command_answers.specs.declared.failure.Failure.{Failure}
use Rattle.command_answers.specs.declared.failure.Failure.TheVariants.{Read, Bad, NoMemory}
use Rattle.command_answers.specs.declared.status.Status.{Status}
use Rattle.command_answers.specs.declared.status.Status.TheVariants.{Ok as Done, OutOfMemory}
use Rattle.command_answers.proofs.Ended.{answer_is_written, status_is_told, told_is_written}
use Rattle.resume_command.proofs.ResumeEnds.{still_resumed}
use Rattle.special_command.specs.declared.lists.SpecialPapers.{SpecialPapers}
use Rattle.special_command.specs.Special.{AreFaultyLists, AreSpecialLists, EndsSpecial, HaveOneSpecial, IsListsFaultLine, IsSpecialOutput, IsSpecialText, IsToldFault, special_answers, too_long_line}

-- ---- why there is no special round

-- A failure that reports a fault of short lists has its cause.
pub fault_failed : (papers : SpecialPapers) (facts : SeasonFacts) (state : State) (bytes : List ℕ) (fault : SpecialFault) (failure : Failure) → length bytes ≤ most_bundle_bytes → IsSpecialFault facts state bytes fault
    → IsToldFault fault failure → IsInputFailure (special_answers papers facts state) bytes failure
fault_failed papers facts state bytes fault Read short has told = told
fault_failed papers facts state bytes fault (Bad line) short has told = inr (fault, (short, has, told.0), told.1)
fault_failed papers facts state bytes fault NoMemory short has told = tt

-- So has one that reports too many bytes.
pub long_failed : (papers : SpecialPapers) (facts : SeasonFacts) (state : State) (bytes : List ℕ) (failure : Failure) → most_bundle_bytes < length bytes → TellsLine too_long_line failure
    → IsInputFailure (special_answers papers facts state) bytes failure
long_failed papers facts state bytes Read long told = told
long_failed papers facts state bytes (Bad line) long told = inl (long, told)
long_failed papers facts state bytes NoMemory long told = tt

-- ---- how the round is written

-- A special round was written.
pub round_ends : (papers : SpecialPapers) (facts : SeasonFacts) (state : State) (left : Option (List ℕ)) (text shown : List ℕ) (written now : Option (List ℕ)) (broke : Type 0) (result : Status)
    → HasLeft (IsSpecialOutput papers facts state) left text → shown ≡ text → IsTextOut Done shown written now broke result
    → (output : List ℕ) × Appends output written now × Writes (IsSpecialText papers facts state left) result output
round_ends papers facts state left text shown written now broke result made same told =
    told_is_written (IsSpecialText papers facts state left) Done result shown written now broke (subst (HasLeft (IsSpecialOutput papers facts state) left) (sym same) made) told

-- It was written why there is none.
pub none_ends : (papers : SpecialPapers) (facts : SeasonFacts) (state : State) (left : Option (List ℕ)) (failed : Type 0) (failure : Failure) (written now : Option (List ℕ)) (broke : Type 0) (result : Status)
    → IsFailureOf (special_answers papers facts state) left failed failure → IsTextOut (status_of (Err failure)) (text_of (Err failure)) written now broke result
    → (output : List ℕ) × Appends output written now × Writes (IsSpecialText papers facts state left) result output
none_ends papers facts state left failed failure written now broke result cause told =
    answer_is_written (special_answers papers facts state) left failed (Err failure) result written now broke tt cause told

-- ---- which lists are answered

-- No round is written over lists with a fault,
pub no_round : (papers : SpecialPapers) (facts : SeasonFacts) (state : State) (left : Option (List ℕ)) (text : List ℕ) → ((facts : SeasonFacts) (state : State) (bytes : List ℕ) → HaveOneSpecial facts state bytes)
    → HasLeft (IsSpecialOutput papers facts state) left text → Tells (AreFaultyLists facts state) left → ⊥
no_round papers facts state None text laws made tells = tells
no_round papers facts state (Some bytes) text laws made tells =
    (laws facts state bytes).apart (subst (AreSpecialLists facts state) made.1 ((laws facts state made.0).of_input papers text made.2)) tells

-- and no fault of lists without one.
no_fault : (facts : SeasonFacts) (state : State) (left : Option (List ℕ)) (line : List ℕ) → ((facts : SeasonFacts) (state : State) (bytes : List ℕ) → HaveOneSpecial facts state bytes)
    → HasLeft (IsListsFaultLine facts state) left line → Tells (AreSpecialLists facts state) left → ⊥
no_fault facts state None line laws has tells = tells
no_fault facts state (Some bytes) line laws has tells =
    (laws facts state bytes).apart tells (subst (AreFaultyLists facts state) has.1 ((laws facts state has.0).of_fault line has.2))

-- Lists without a fault are answered, if neither side failed and memory did not run out.
pub lists_are_answered : (papers : SpecialPapers) (facts : SeasonFacts) (state : State) (left : Option (List ℕ)) (failed : Type 0) (failure : Failure) (written now : Option (List ℕ)) (broke : Type 0) (result : Status)
    → ((facts : SeasonFacts) (state : State) (bytes : List ℕ) → HaveOneSpecial facts state bytes) → IsFailureOf (special_answers papers facts state) left failed failure
    → IsTextOut (status_of (Err failure)) (text_of (Err failure)) written now broke result → Tells (AreSpecialLists facts state) left → (failed → ⊥) → (broke → ⊥)
    → (result ≡ Done) ⊎ (result ≡ OutOfMemory)
lists_are_answered papers facts state left failed Read written now broke result laws cause told tells read wrote = absurd (read cause)
lists_are_answered papers facts state left failed (Bad line) written now broke result laws cause told tells read wrote = absurd (no_fault facts state left line laws cause tells)
lists_are_answered papers facts state left failed NoMemory written now broke result laws cause told tells read wrote = inr (status_is_told OutOfMemory result _ written now broke told wrote)

-- ---- all together

-- The records lead to its state by the tables that were visible before
pub still_here : (facts : SeasonFacts) (state : State) (before held after : Tables) → IsResumed held facts state → AreTold before held → after ≡ held → IsResumed (still before after) facts state
still_here facts state before held after resumed told same =
    still_resumed before held after facts state told (λ was. subst (λ (t : Tables). IsTablesTold t) same was) resumed

-- An office went on.
pub resumed_ends : (papers : SpecialPapers) (facts : SeasonFacts) (state : State) (left : Option (List ℕ)) (before held after : Tables) (written now : Option (List ℕ)) (status : Status)
    → IsResumed held facts state → AreTold before held → after ≡ held → (output : List ℕ) × Appends output written now × Writes (IsSpecialText papers facts state left) status output
    → (output : List ℕ) × Appends output written now × EndsSpecial papers left before after status output
resumed_ends papers facts state left before held after written now status resumed told same end = (
  end.0,
  end.1,
  inr (facts, state, still_here facts state before held after resumed told same, end.2, subst (λ (t : Tables). AreTold before t) (sym same) told),
)

-- What holds of the lists over every state holds over this one.
pub tells_here : (Are : SeasonFacts → State → List ℕ → Type 0) (tables : Tables) (facts : SeasonFacts) (state : State) (left : Option (List ℕ)) → IsResumed tables facts state
    → Tells (λ bytes. (facts : SeasonFacts) (state : State) → IsResumed tables facts state → Are facts state bytes) left → Tells (Are facts state) left
tells_here Are tables facts state None resumed tells = tells
tells_here Are tables facts state (Some bytes) resumed tells = tells facts state resumed
