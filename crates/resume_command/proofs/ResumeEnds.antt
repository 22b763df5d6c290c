-- How the command `resume` ends.
use Rattle.std.proofs.Common.{◌≡◌, ◌∙◌, ap, inl, inr, ℕ, false, List, Option, Result, Ok, Err, refl, subst}
use Rattle.std.specs.Prelude.{IfOk}
use Rattle.office_base.specs.declared.seat.Seat.{Seat}
use Rattle.office_base.specs.declared.person.CandId.{CandId}
use Rattle.office_base.specs.Outside.{Appends}
use Rattle.kept_rows.specs.Tables.{Tables, AreTold, IsFound, IsTold as IsTablesTold, still}
use Rattle.office_moves.specs.Facts.{SeasonFacts}
use Rattle.office_moves.specs.State.{State}
use Rattle.replays.specs.Resume.{IsResumed, IsUnresumed}
use Rattle.replays.specs.declared.resume.Unresumed.{Unresumed}
use Rattle.replays.specs.declared.resume.Unresumed.TheVariants.{BadSeason, Stray, StrayRaise, Differs}
use Rattle.replays.specs.declared.fault.ReplayFault.TheVariants.{Stray as StrayAnswer, StrayRaise as StrayLift, Differs as SeatsDiffer}
use Rattle.season_file.specs.declared.fault.SeasonFault.{SeasonFault}
use Rattle.season_file.specs.declared.season.Season.{Season}
use Rattle.season_texts.specs.Texts.{fault_line}
use Rattle.command_answers.specs.Answers.{IsFailureOf}
use Rattle.office_base.specs.FaultLines.{memory_line}
use Rattle.command_answers.specs.Writes.{IsTextOut, Writes, keeper_line, status_of, text_of}
use Rattle.command_answers.specs.declared.failure.Failure.{Failure}
use Rattle.command_answers.specs.declared.status.Status.{Status}
use Rattle.command_answers.specs.declared.status.Status.TheVariants.{BadInput, WriteFault, KeeperFault as KeeperFailed, OutOfMemory, Differs as StatusDiffers}
use Rattle.command_answers.proofs.Ended.{answer_is_written, told_is_written}
use Rattle.season_commands.proofs.Still.{still_from, still_later}
use Rattle.seat_matrix.specs.Matrix.{SeatTable}
use Rattle.round_cut.proofs.Standing.{told_on}
use Rattle.resume_command.specs.Resume.{EndsAsked, EndsResume, EndsUnresumed, IsUnresumedText, made_status, made_text, no_season_line, script_answers}
use Rattle.resume_command.specs.Stray.{differs_line, raise_line_of, stray_line}

-- ---- no office resumes

-- what holds of a text that was made
ok_map : {E : Type 0} (P Q : List ℕ → Type 0) (result : Result (List ℕ) E) → ((text : List ℕ) → P text → Q text) → IfOk result P → IfOk result Q
ok_map P Q (Ok text) go holds = go text holds
ok_map P Q (Err e) go holds = tt

-- The texts that go with their statuses, if memory did not run out: a text that is no bundle,
pub text_told : {E : Type 0} (tables : Tables) (fault : SeasonFault) (made : Result (List ℕ) E) → IfOk made (λ text. text ≡ fault_line fault) → IsUnresumed tables (BadSeason fault)
    → IfOk made (IsUnresumedText tables BadInput)
text_told tables fault made is stopped =
    let (records, loaded, has) = stopped in
    ok_map (λ text. text ≡ fault_line fault) (IsUnresumedText tables BadInput) made (λ text same. inr (records, loaded, (fault, has, same))) is

-- a stray answer, a stray raise,
pub answer_told : {E : Type 0} (tables : Tables) (row : ℕ) (made : Result (List ℕ) E) → IfOk made (λ text. text ≡ stray_line row) → IsUnresumed tables (Stray row)
    → IfOk made (IsUnresumedText tables StatusDiffers)
answer_told tables row made is stopped =
    let (records, loaded, has) = stopped in
    let (season, read, fault) = has in
    ok_map (λ text. text ≡ stray_line row) (IsUnresumedText tables StatusDiffers) made (λ text same. (records, loaded, (season, StrayAnswer row, read, fault, (λ none. cc none), same))) is

pub raise_told : {E : Type 0} (tables : Tables) (row : ℕ) (made : Result (List ℕ) E) → IfOk made (λ text. text ≡ raise_line_of row) → IsUnresumed tables (StrayRaise row)
    → IfOk made (IsUnresumedText tables StatusDiffers)
raise_told tables row made is stopped =
    let (records, loaded, has) = stopped in
    let (season, read, fault) = has in
    ok_map (λ text. text ≡ raise_line_of row) (IsUnresumedText tables StatusDiffers) made (λ text same. (records, loaded, (season, StrayLift row, read, fault, (λ none. cc none), same))) is

-- and a difference, by the codes of the returned season.
pub difference_told : {E : Type 0} (tables : Tables) (round : ℕ) (cand : CandId) (one other : Option Seat) (season : Season) (made : Result (List ℕ) E)
    → IfOk made (λ line. line ≡ differs_line season.matrix round cand.0 one other) → IsUnresumed tables (Differs round cand one other season) → IfOk made (IsUnresumedText tables StatusDiffers)
difference_told tables round cand one other season made is stopped =
    let (records, loaded, has) = stopped in
    let (spelt, read, fault, same) = has in
    let codes : season.matrix ≡ spelt.matrix = ap (λ (f : SeasonFacts). f.matrix) same in
    ok_map (λ line. line ≡ differs_line season.matrix round cand.0 one other) (IsUnresumedText tables StatusDiffers) made
    (λ line told. (records, loaded, (spelt, SeatsDiffer round cand one other, read, fault, (λ none. cc none), told ∙ ap (λ (t : SeatTable). differs_line t round cand.0 one other) codes))) is

-- The line is written, or memory ran out for it.
pub made_is_written : {E : Type 0} (tables : Tables) (want : Status) (made : Result (List ℕ) E) (result : Status) (before after : Option (List ℕ)) (broke : Type 0) → IfOk made (IsUnresumedText tables want)
    → IsTextOut (made_status want made) (made_text made) before after broke result → (output : List ℕ) × Appends output before after × Writes (IsUnresumedText tables) result output
made_is_written tables want (Ok line) result before after broke is told = told_is_written (IsUnresumedText tables) want result line before after broke is told
made_is_written tables want (Err none) result before after broke is told = told_is_written (IsUnresumedText tables) OutOfMemory result memory_line before after broke refl told

-- Memory ran out.
pub unlined_is_written : (result : Status) (before after : Option (List ℕ)) (broke : Type 0) (tables : Tables) → IsTextOut OutOfMemory memory_line before after broke result
    → (output : List ℕ) × Appends output before after × Writes (IsUnresumedText tables) result output
unlined_is_written result before after broke tables told = told_is_written (IsUnresumedText tables) OutOfMemory result memory_line before after broke refl told

-- No season was found, which has its own line.
pub none_is_written : (result : Status) (before after : Option (List ℕ)) (broke : Type 0) (tables : Tables) → IsTextOut BadInput no_season_line before after broke result → IsFound false tables
    → (output : List ℕ) × Appends output before after × Writes (IsUnresumedText tables) result output
none_is_written result before after broke tables told none = told_is_written (IsUnresumedText tables) BadInput result no_season_line before after broke (inl (none, refl)) told

-- The keeper failed, which has its own line.
pub failed_is_written : (result : Status) (before after : Option (List ℕ)) (broke : Type 0) (tables : Tables) → IsTextOut KeeperFailed keeper_line before after broke result
    → (output : List ℕ) × Appends output before after × Writes (IsUnresumedText tables) result output
failed_is_written result before after broke tables told = told_is_written (IsUnresumedText tables) KeeperFailed result keeper_line before after broke refl told

-- What was written if no office resumes, by what is visible before and after.
pub unresumed_ends : (before after : Tables) (why : Unresumed) (written now : Option (List ℕ)) (status : Status) → AreTold before after → IsUnresumed after why
    → ((tables : Tables) → IsUnresumed tables why → (output : List ℕ) × Appends output written now × Writes (IsUnresumedText tables) status output)
    → (output : List ℕ) × Appends output written now × EndsUnresumed before after status output
unresumed_ends before after why written now status told stopped writes =
    let (output, appends, is) = writes (still before after) (still_from (λ t. IsUnresumed t why) before after told stopped) in
    (output, appends, (is, told))

-- ---- no requests are read

-- The failure is written.
pub unasked_ends : (facts : SeasonFacts) (start : State) (left : Option (List ℕ)) (failed : Type 0) (failure : Failure) (before after : Tables) (written now : Option (List ℕ)) (broke : Type 0) (result : Status)
    → IsFailureOf script_answers left failed failure → IsTextOut (status_of (Err failure)) (text_of (Err failure)) written now broke result → AreTold before after
    → (output : List ℕ) × Appends output written now × EndsAsked facts start left before after result output
unasked_ends facts start left failed failure before after written now broke result cause is told =
    let (output, appends, writes) = answer_is_written script_answers left failed (Err failure) result written now broke tt cause is in
    (output, appends, inl (writes, told))

-- ---- what is visible of the tables

pub still_resumed : (before mid after : Tables) (facts : SeasonFacts) (state : State) → AreTold before mid → (IsTablesTold after → IsTablesTold mid) → IsResumed mid facts state → IsResumed (still before after) facts state
still_resumed before mid after facts state told was resumed =
    let (records, loaded, lead) = resumed in
    still_later (λ t. IsResumed t facts state) before mid after was (records, tt, lead) (still_from (λ t. IsResumed t facts state) before mid told resumed)

-- An office went on from the records.
pub resumed_ends : (facts : SeasonFacts) (start : State) (left : Option (List ℕ)) (before held after : Tables) (written now : Option (List ℕ)) (status : Status)
    → IsResumed held facts start → AreTold before held → (IsTablesTold after → IsTablesTold held) → (output : List ℕ) × Appends output written now × EndsAsked facts start left held after status output
    → (output : List ℕ) × Appends output written now × EndsResume left before after status output
resumed_ends facts start left before held after written now status resumed told was end = (
  end.0,
  end.1,
  inr (
    facts,
    start,
    still_resumed before held after facts start told was resumed,
    elim end.2 [ inl unasked ↦ inl (unasked.0, told_on before held after told unasked.1) | inr asked ↦ inr asked ],
  ),
)

-- An office that resumed reports no difference.
pub none_differs : (facts : SeasonFacts) (start : State) (left : Option (List ℕ)) (before after : Tables) (written now : Option (List ℕ)) (status : Status)
    → (output : List ℕ) × Appends output written now × EndsAsked facts start left before after status output → status ≡ StatusDiffers → ⊥
none_differs facts start left before after written now status end same =
    elim (subst (λ (s : Status). EndsAsked facts start left before after s end.0) same end.2) [
      | inl unasked ↦ elim unasked.0 [ inl text ↦ text | inr failed ↦ let wrong : StatusDiffers ≡ WriteFault = failed.0 in absurd (cc wrong) ]
      | inr asked ↦ asked.2
    ]
