-- When no office resumes, and why, by the tables that are visible before and after a command.
use Rattle.std.proofs.Common.{◌≡◌, ◌⊎◌, ◌∙◌, ap, inl, inr, ℕ, Bool, false, List, [], refl, sym, subst}
use Rattle.kept_rows.specs.Tables.{Tables, Untold, NoSeason, Records, AreTold, still}
use Rattle.kept_rows.specs.declared.rows.Kept.{Kept}
use Rattle.office_moves.specs.Facts.{IsSound, SeasonFacts}
use Rattle.office_moves.specs.State.{State}
use Rattle.replays.specs.Resume.{HaveStopped, IsResumed, IsUnresumed}
use Rattle.replays.specs.declared.resume.Unresumed.{Unresumed}
use Rattle.replays.specs.declared.resume.Unresumed.TheVariants.{NoSeason as NoneKept, BadSeason, Stray, StrayRaise, Differs, KeeperFault, OutOfMemory as NoMemoryToResume}
use Rattle.replays.specs.Faults.{IsReplayFault}
use Rattle.replays.specs.Laws.{HaveOneEnd}
use Rattle.replays.specs.declared.fault.ReplayFault.TheVariants.{Stray as StrayAnswer, StrayRaise as StrayLift, Differs as SeatsDiffer, OutOfMemory as NoMemoryToReplay}
use Rattle.season_file.specs.Laws.{HaveOneReading}
use Rattle.season_file.specs.Season.{IsSeason, content_of}
use Rattle.season_file.specs.declared.season.Season.{Season}
use Rattle.command_answers.specs.declared.status.Status.{Status}
use Rattle.command_answers.specs.declared.status.Status.TheVariants.{BadInput, WriteFault, OutOfMemory, Differs as StatusDiffers}
use Rattle.season_commands.specs.Check.{IsFaultyBundle}
use Rattle.season_commands.specs.Outside.{Outside, held}
use Rattle.resume_command.specs.Resume.{HaveNoFault, HaveRowFault, JudgesRecords, TellsNoOffice, TellsRowFault, TellsSound, TellsTextFault, unresumed_status}
use Rattle.season_commands.specs.Run.{TellsNoSeason}
use Rattle.season_commands.proofs.Still.{still_to}

-- ---- records without a fault

-- the fault of sound records is the keeper's, or memory ran out
sound_fault : (records : Kept) (why : Unresumed) → HaveNoFault records → HaveStopped records why → (why ≡ KeeperFault) ⊎ (why ≡ NoMemoryToResume)
sound_fault records NoneKept sound is = absurd is
sound_fault records (BadSeason fault) sound is = absurd (sound.text fault is)
sound_fault records (Stray row) sound is = let (season, read, fault) = is in let same : StrayAnswer row ≡ NoMemoryToReplay = sound.rows season (StrayAnswer row) read fault in absurd (cc same)
sound_fault records (StrayRaise row) sound is = let (season, read, fault) = is in let same : StrayLift row ≡ NoMemoryToReplay = sound.rows season (StrayLift row) read fault in absurd (cc same)
sound_fault records (Differs round cand one other handed) sound is =
    let (season, read, fault, known) = is in let same : SeatsDiffer round cand one other ≡ NoMemoryToReplay = sound.rows season (SeatsDiffer round cand one other) read fault in absurd (cc same)
sound_fault records KeeperFault sound is = inl refl
sound_fault records NoMemoryToResume sound is = inr refl

-- a fault that stops an office from resuming visible records is a fault of the records, or the keeper failed,
-- or memory ran out
of_records : (kept : Kept) (why : Unresumed) (P : Unresumed → Type 0) → IsUnresumed (Records kept) why → (HaveStopped kept why → P why) → P KeeperFault → P NoMemoryToResume → P why
of_records kept NoneKept P is have failed short = absurd (cc is)
of_records kept (BadSeason fault) P is have failed short = let (records, loaded, has) = is in have (subst (λ (k : Kept). HaveStopped k (BadSeason fault)) (sym loaded) has)
of_records kept (Stray row) P is have failed short = let (records, loaded, has) = is in have (subst (λ (k : Kept). HaveStopped k (Stray row)) (sym loaded) has)
of_records kept (StrayRaise row) P is have failed short = let (records, loaded, has) = is in have (subst (λ (k : Kept). HaveStopped k (StrayRaise row)) (sym loaded) has)
of_records kept (Differs round cand one other season) P is have failed short =
    let (records, loaded, has) = is in have (subst (λ (k : Kept). HaveStopped k (Differs round cand one other season)) (sym loaded) has)
of_records kept KeeperFault P is have failed short = failed
of_records kept NoMemoryToResume P is have failed short = short

told_sound : (tables : Tables) (why : Unresumed) → TellsSound tables → IsUnresumed tables why → (why ≡ KeeperFault) ⊎ (why ≡ NoMemoryToResume)
told_sound Untold why sound is = absurd sound
told_sound NoSeason why sound is = absurd sound
told_sound (Records kept) why sound is = of_records kept why (λ w. (w ≡ KeeperFault) ⊎ (w ≡ NoMemoryToResume)) is (λ has. sound_fault kept why sound has) (inl refl) (inr refl)

-- If the records are sound, and neither the keeper nor the sink failed,
-- only a lack of memory stops an office from resuming.
pub sound_stops : (before tables : Tables) (fault : Unresumed) (result : Status) (rose broke : Type 0) → AreTold before tables → TellsSound (still before tables) → IsUnresumed tables fault
    → (fault ≡ KeeperFault → rose) → (rose → ⊥) → (result ≡ unresumed_status fault) ⊎ ((result ≡ OutOfMemory) ⊎ (result ≡ WriteFault)) → (result ≡ WriteFault → broke) → (broke → ⊥)
    → result ≡ OutOfMemory
sound_stops before tables fault result rose broke same sound judged cause held status wrote kept =
    elim status [
      | inl told ↦ elim (told_sound tables fault (still_to (λ t. TellsSound t) before tables same sound) judged) [ inl failed ↦ absurd (held (cause failed)) | inr short ↦ told ∙ ap unresumed_status short ]
      | inr other ↦ elim other [ inl short ↦ short | inr failed ↦ absurd (kept (wrote failed)) ]
    ]

-- ---- records with a fault

-- why no office resumes: what has this status, or what may happen at any time
abbrev IsStop : Status → Unresumed → Type 0
IsStop want fault = (unresumed_status fault ≡ want) ⊎ ((fault ≡ KeeperFault) ⊎ (fault ≡ NoMemoryToResume))

-- If neither the keeper nor the sink failed, that is the status, or memory ran out.
stops : (want : Status) (fault : Unresumed) (result : Status) (rose broke : Type 0) → IsStop want fault → (fault ≡ KeeperFault → rose) → (rose → ⊥)
    → (result ≡ unresumed_status fault) ⊎ ((result ≡ OutOfMemory) ⊎ (result ≡ WriteFault)) → (result ≡ WriteFault → broke) → (broke → ⊥) → (result ≡ want) ⊎ (result ≡ OutOfMemory)
stops want fault result rose broke stop cause held status wrote kept =
    elim status [
      | inl told ↦ elim stop [
        | inl same ↦ inl (told ∙ same)
        | inr other ↦ elim other [ inl failed ↦ absurd (held (cause failed)) | inr short ↦ inr (told ∙ ap unresumed_status short) ]
      ]
      | inr other ↦ elim other [ inl short ↦ inr short | inr failed ↦ absurd (kept (wrote failed)) ]
    ]

-- A text that is no bundle spells no season.
spells_none : (records : Kept) (season : Season) → HaveOneReading false records.season → IsFaultyBundle false records.season → IsSeason records.season season → ⊥
spells_none records season reading (fault, has) read = reading.apart (content_of season read.row) [] fault read.given has

-- An office does not resume from records whose text is no bundle.
none_goes_on_from_no_bundle : (tables : Tables) (facts : SeasonFacts) (start : State) → ((requests : Bool) (bytes : List ℕ) → HaveOneReading requests bytes) → IsResumed tables facts start
    → TellsTextFault tables → ⊥
none_goes_on_from_no_bundle Untold facts start reading resumed tells = tells
none_goes_on_from_no_bundle NoSeason facts start reading resumed tells = tells
none_goes_on_from_no_bundle (Records kept) facts start reading (records, loaded, lead) tells =
    spells_none records lead.season (reading false records.season) (subst (λ (k : Kept). IsFaultyBundle false k.season) loaded tells) lead.read

text_fault : (records : Kept) (fault : Unresumed) → HaveOneReading false records.season → IsFaultyBundle false records.season → HaveStopped records fault → IsStop BadInput fault
text_fault records NoneKept reading have is = absurd is
text_fault records (BadSeason fault) reading have is = inl refl
text_fault records (Stray row) reading have is = let (season, read, fault) = is in absurd (spells_none records season reading have read)
text_fault records (StrayRaise row) reading have is = let (season, read, fault) = is in absurd (spells_none records season reading have read)
text_fault records (Differs round cand one other handed) reading have is = let (season, read, fault, known) = is in absurd (spells_none records season reading have read)
text_fault records KeeperFault reading have is = inr (inl refl)
text_fault records NoMemoryToResume reading have is = inr (inr refl)

told_text_fault : (tables : Tables) (fault : Unresumed) → ((requests : Bool) (bytes : List ℕ) → HaveOneReading requests bytes) → TellsTextFault tables → IsUnresumed tables fault → IsStop BadInput fault
told_text_fault Untold fault reading tells judged = absurd tells
told_text_fault NoSeason fault reading tells judged = absurd tells
told_text_fault (Records kept) fault reading tells judged =
    of_records kept fault (IsStop BadInput) judged (λ has. text_fault kept fault (reading false kept.season) tells has) (inr (inl refl)) (inr (inr refl))

-- If the text is no bundle, and neither the keeper nor the sink failed, the status says so, or memory ran out.
pub text_fault_stops : (before tables : Tables) (fault : Unresumed) (result : Status) (rose broke : Type 0) → ((requests : Bool) (bytes : List ℕ) → HaveOneReading requests bytes)
    → AreTold before tables → TellsTextFault (still before tables) → IsUnresumed tables fault → (fault ≡ KeeperFault → rose) → (rose → ⊥) → (result ≡ unresumed_status fault) ⊎ ((result ≡ OutOfMemory) ⊎ (result ≡ WriteFault))
    → (result ≡ WriteFault → broke) → (broke → ⊥) → (result ≡ BadInput) ⊎ (result ≡ OutOfMemory)
text_fault_stops before tables fault result rose broke reading same tells judged =
    stops BadInput fault result rose broke (told_text_fault tables fault reading (still_to (λ t. TellsTextFault t) before tables same tells) judged)

-- If there is no season, and neither the keeper nor the sink failed, the status says so, or memory ran out.
told_none : (tables : Tables) (fault : Unresumed) → TellsNoSeason tables → IsUnresumed tables fault → IsStop BadInput fault
told_none Untold fault tells is = absurd tells
told_none NoSeason NoneKept tells is = inl refl
told_none NoSeason (BadSeason reading) tells is = absurd is.1
told_none NoSeason (Stray row) tells is = absurd is.1
told_none NoSeason (StrayRaise row) tells is = absurd is.1
told_none NoSeason (Differs round cand one other season) tells is = absurd is.1
told_none NoSeason KeeperFault tells is = inr (inl refl)
told_none NoSeason NoMemoryToResume tells is = inr (inr refl)
told_none (Records kept) fault tells is = absurd tells

pub none_stops : (before tables : Tables) (fault : Unresumed) (result : Status) (rose broke : Type 0) → AreTold before tables → TellsNoSeason (still before tables) → IsUnresumed tables fault
    → (fault ≡ KeeperFault → rose) → (rose → ⊥) → (result ≡ unresumed_status fault) ⊎ ((result ≡ OutOfMemory) ⊎ (result ≡ WriteFault)) → (result ≡ WriteFault → broke) → (broke → ⊥)
    → (result ≡ BadInput) ⊎ (result ≡ OutOfMemory)
none_stops before tables fault result rose broke same tells judged =
    stops BadInput fault result rose broke (told_none tables fault (still_to (λ t. TellsNoSeason t) before tables same tells) judged)

-- An office does not resume from records whose rows or seats have a fault.
none_goes_on : (tables : Tables) (facts : SeasonFacts) (start : State) → ((facts : SeasonFacts) (kept : Kept) → IsSound facts → HaveOneEnd facts kept) → IsSound facts → IsResumed tables facts start
    → TellsRowFault tables → ⊥
none_goes_on Untold facts start law sound resumed tells = tells
none_goes_on NoSeason facts start law sound resumed tells = tells
none_goes_on (Records kept) facts start law sound (records, loaded, lead) tells =
    let there : HaveRowFault records = subst (λ (k : Kept). HaveRowFault k) loaded tells in
    let (fault, some, is) = there.faulty lead.season lead.read in
    some ((law facts records sound).apart start fault lead.replayed (subst (λ (f : SeasonFacts). IsReplayFault f records fault) (sym lead.same) is))

row_fault : (records : Kept) (fault : Unresumed) → HaveOneReading false records.season → HaveRowFault records → HaveStopped records fault → IsStop StatusDiffers fault
row_fault records NoneKept reading have is = absurd is
row_fault records (BadSeason fault) reading have is = absurd (spells_none records have.season reading (fault, is) have.read)
row_fault records (Stray row) reading have is = inl refl
row_fault records (StrayRaise row) reading have is = inl refl
row_fault records (Differs round cand one other handed) reading have is = inl refl
row_fault records KeeperFault reading have is = inr (inl refl)
row_fault records NoMemoryToResume reading have is = inr (inr refl)

told_row_fault : (tables : Tables) (fault : Unresumed) → ((requests : Bool) (bytes : List ℕ) → HaveOneReading requests bytes) → TellsRowFault tables → IsUnresumed tables fault → IsStop StatusDiffers fault
told_row_fault Untold fault reading tells judged = absurd tells
told_row_fault NoSeason fault reading tells judged = absurd tells
told_row_fault (Records kept) fault reading tells judged =
    of_records kept fault (IsStop StatusDiffers) judged (λ has. row_fault kept fault (reading false kept.season) tells has) (inr (inl refl)) (inr (inr refl))

-- If a row or a seat has a fault, and neither the keeper nor the sink failed, the status says so, or memory ran out.
pub row_fault_stops : (before tables : Tables) (fault : Unresumed) (result : Status) (rose broke : Type 0) → ((requests : Bool) (bytes : List ℕ) → HaveOneReading requests bytes)
    → AreTold before tables → TellsRowFault (still before tables) → IsUnresumed tables fault → (fault ≡ KeeperFault → rose) → (rose → ⊥) → (result ≡ unresumed_status fault) ⊎ ((result ≡ OutOfMemory) ⊎ (result ≡ WriteFault))
    → (result ≡ WriteFault → broke) → (broke → ⊥) → (result ≡ StatusDiffers) ⊎ (result ≡ OutOfMemory)
row_fault_stops before tables fault result rose broke reading same tells judged =
    stops StatusDiffers fault result rose broke (told_row_fault tables fault reading (still_to (λ t. TellsRowFault t) before tables same tells) judged)

-- ---- before the source is read

-- An office does not resume without a season, nor from records with a fault.
pub no_office_goes_on : (tables : Tables) (facts : SeasonFacts) (start : State) → ((requests : Bool) (bytes : List ℕ) → HaveOneReading requests bytes)
    → ((facts : SeasonFacts) (kept : Kept) → IsSound facts → HaveOneEnd facts kept) → IsSound facts → IsResumed tables facts start → TellsNoOffice tables → ⊥
no_office_goes_on tables facts start reading law sound resumed tells =
    elim tells [
      | inl none ↦ goes_on_from_a_season tables resumed none
      | inr faulty ↦ elim faulty [
        | inl text ↦ none_goes_on_from_no_bundle tables facts start reading resumed text
        | inr row ↦ none_goes_on tables facts start law sound resumed row
      ]
    ]
  where
    goes_on_from_a_season : (tables : Tables) → IsResumed tables facts start → TellsNoSeason tables → ⊥
    goes_on_from_a_season Untold resumed none = none
    goes_on_from_a_season NoSeason resumed none = resumed.1
    goes_on_from_a_season (Records kept) resumed none = none

-- Records from which an office resumes are not refused.
pub judged : (old new : Outside) (status : Status) → (TellsNoOffice (held old new) → ⊥) → JudgesRecords old new status
judged old new status none = record {
  none_kept = λ tells kept. absurd (none (inl tells));
  kept_text = λ tells kept. absurd (none (inr (inl tells)));
  differs = λ tells kept. absurd (none (inr (inr tells)));
}
