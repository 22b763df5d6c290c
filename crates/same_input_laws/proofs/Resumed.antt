-- The same visible tables lead to one state of one season, or they have one line of a fault.
use Rattle.std.proofs.Common.{◌≡◌, ◌⊎◌, inl, inr, ℕ, Bool, false, List, [], refl, sym, ap, ◌∙◌, subst}
use Rattle.kept_rows.specs.Tables.{IsTold, NoSeason, Records, Tables, Untold, still}
use Rattle.kept_rows.specs.declared.rows.Kept.{Kept}
use Rattle.season_file.specs.Laws.{HasFault, HaveOneReading}
use Rattle.season_file.specs.Season.{IsSeason, content_of}
use Rattle.season_file.specs.declared.fault.SeasonFault.{SeasonFault}
use Rattle.season_file.specs.declared.season.Season.{Season}
use Rattle.season_texts.specs.Texts.{fault_line}
use Rattle.office_moves.specs.Facts.{IsSound, SeasonFacts}
use Rattle.season_facts.specs.Season.{facts_of}
use Rattle.office_moves.specs.State.{State}
use Rattle.replays.specs.Faults.{IsReplayFault}
use Rattle.replays.specs.Laws.{HaveOneEnd}
use Rattle.replays.specs.Replay.{IsReplayed}
use Rattle.replays.specs.declared.fault.ReplayFault.{ReplayFault}
use Rattle.replays.specs.Resume.{IsResumed, LeadTo}
use Rattle.command_answers.specs.Status.{IsAnswered}
use Rattle.command_answers.specs.Writes.{Writes}
use Rattle.command_answers.specs.declared.status.Status.{Status}
use Rattle.command_answers.specs.declared.status.Status.TheVariants.{BadInput, Differs}
use Rattle.command_answers.proofs.Answered.{by_answer}
use Rattle.resume_command.specs.Resume.{IsKeptFaultLine, IsReplayFaultLine, IsUnresumedText}
use Rattle.resume_command.specs.Stray.{replay_line}
use Rattle.one_output.specs.Laws.{OneKeptSeason, SeasonsAreSound}
use Rattle.same_input_laws.specs.ResumeOutputs.{IsVisible}
use Rattle.same_input_laws.proofs.Written.{whole}

-- Records of a season lead to one state, or have one first fault.
abbrev pub RecordsAreOne : Type 0
RecordsAreOne = (facts : SeasonFacts) (kept : Kept) → IsSound facts → HaveOneEnd facts kept

-- bytes give one season, or have one first fault
abbrev pub ReadingsAreOne : Type 0
ReadingsAreOne = (requests : Bool) (bytes : List ℕ) → HaveOneReading requests bytes

-- Kept texts give one season, which is sound, and its records lead to one state.
pub record AreKept : Type 0 where
  pub seasons : OneKeptSeason
  pub sound : SeasonsAreSound
  pub records : RecordsAreOne

-- a kept season is sound
kept_sound : AreKept → (bytes : List ℕ) (season : Season) → IsSeason bytes season → IsSound (facts_of season)
kept_sound laws bytes season is = laws.sound false bytes season is.row [] is.given

-- the tables are the same, where they are visible after both
pub same_tables : (before after later : Tables) → IsVisible before after → IsVisible before later → still before later ≡ still before after
same_tables before Untold later told seen = absurd told
same_tables before NoSeason Untold told seen = absurd seen
same_tables before NoSeason NoSeason told seen = refl
same_tables before NoSeason (Records kept) told seen = refl
same_tables before (Records kept) Untold told seen = absurd seen
same_tables before (Records kept) NoSeason told seen = refl
same_tables before (Records kept) (Records more) told seen = refl

-- ---- an office resumes

-- What two seasons and their states are to which the same records lead: the same, and the season is sound.
pub record AreAlike (facts other : SeasonFacts) (state then : State) (kept : Kept) : Type 0 where
  pub sound : IsSound facts
  pub seasons : facts ≡ other
  pub states : state ≡ then
  pub replayed : IsReplayed facts kept state

-- what holds of the one holds of the other
pub of_first : (facts other : SeasonFacts) (state then : State) (kept : Kept) → AreAlike facts other state then kept → (Holds : SeasonFacts → State → Type 0) → Holds other then → Holds facts state
of_first facts other state then kept alike Holds held = subst (Holds facts) (sym alike.states) (subst (λ (f : SeasonFacts). Holds f then) (sym alike.seasons) held)

lead_alike : AreKept → (kept : Kept) (facts other : SeasonFacts) (state then : State) → LeadTo kept facts state → LeadTo kept other then → AreAlike facts other state then kept
lead_alike laws kept facts other state then first second =
    let same : facts ≡ other = first.same ∙ laws.seasons kept.season first.season second.season first.read second.read ∙ sym second.same in
    let sound = subst IsSound (sym first.same) (kept_sound laws kept.season first.season first.read) in
    record {
      sound = sound;
      seasons = same;
      states = (laws.records facts kept sound).one_state state then first.replayed (subst (λ (f : SeasonFacts). IsReplayed f kept then) (sym same) second.replayed);
      replayed = first.replayed;
    }

-- The same tables lead to one state.
pub resumed_alike : AreKept → (tables : Tables) → IsTold tables → (facts other : SeasonFacts) (state then : State) → IsResumed tables facts state → IsResumed tables other then
    → (kept : Kept) × AreAlike facts other state then kept
resumed_alike laws Untold told facts other state then first second = absurd told
resumed_alike laws NoSeason told facts other state then first second = absurd first.1
resumed_alike laws (Records kept) told facts other state then first second =
    let a = subst (λ (k : Kept). LeadTo k facts state) (sym first.1) first.2 in
    let b = subst (λ (k : Kept). LeadTo k other then) (sym second.1) second.2 in
    (kept, lead_alike laws kept facts other state then a b)

-- ---- no office resumes

one_text_fault : ReadingsAreOne → (kept : Kept) (fault other : SeasonFault) (line again : List ℕ) → HasFault false kept.season fault → HasFault false kept.season other → line ≡ fault_line fault
    → again ≡ fault_line other → line ≡ again
one_text_fault readings kept fault other line again first second is its =
    is ∙ (ap (λ (f : SeasonFault). fault_line f) ((readings false kept.season).one_fault fault other first second) ∙ sym its)

one_kept_line : ReadingsAreOne → (tables : Tables) → IsTold tables → (line again : List ℕ) → IsKeptFaultLine tables line → IsKeptFaultLine tables again → line ≡ again
one_kept_line readings Untold told line again first second = absurd told
one_kept_line readings NoSeason told line again (inl first) (inl second) = first.1 ∙ sym second.1
one_kept_line readings NoSeason told line again (inl first) (inr second) = absurd second.1
one_kept_line readings NoSeason told line again (inr first) second = absurd first.1
one_kept_line readings (Records kept) told line again (inl first) second = absurd (let e = first.0 in cc e)
one_kept_line readings (Records kept) told line again (inr first) (inl second) = absurd (let e = second.0 in cc e)
one_kept_line readings (Records kept) told line again (inr first) (inr second) =
    one_text_fault readings kept first.2.0 second.2.0 line again (subst (λ (k : Kept). HasFault false k.season first.2.0) (sym first.1) first.2.1)
    (subst (λ (k : Kept). HasFault false k.season second.2.0) (sym second.1) second.2.1) first.2.2 second.2.2

one_replay_line : AreKept → (kept : Kept) (line again : List ℕ) → IsReplayFaultLine kept line → IsReplayFaultLine kept again → line ≡ again
one_replay_line laws kept line again first second =
    let facts = facts_of first.0 in
    let said = laws.seasons kept.season first.0 second.0 first.2 second.2 in
    let fault = subst (λ (f : SeasonFacts). IsReplayFault f kept second.1) (sym said) second.3 in
    let same = (laws.records facts kept (kept_sound laws kept.season first.0 first.2)).one_fault first.1 second.1 first.3 fault first.4 second.4 in
    first.5 ∙ (ap (λ (f : ReplayFault). replay_line first.0.matrix f) same ∙ (ap (λ (f : SeasonFacts). replay_line f.matrix second.1) said ∙ sym second.5))

one_difference : AreKept → (tables : Tables) → IsTold tables → (line again : List ℕ) → IsUnresumedText tables Differs line → IsUnresumedText tables Differs again → line ≡ again
one_difference laws Untold told line again first second = absurd told
one_difference laws NoSeason told line again first second = absurd first.1
one_difference laws (Records kept) told line again first second =
    one_replay_line laws kept line again (subst (λ (k : Kept). IsReplayFaultLine k line) (sym first.1) first.2)
    (subst (λ (k : Kept). IsReplayFaultLine k again) (sym second.1) second.2)

-- such a text is the line of a fault, or of a difference
unresumed_cases : (tables : Tables) (status : Status) (text : List ℕ) → IsAnswered status → Writes (IsUnresumedText tables) status text
    → ((status ≡ BadInput) × IsKeptFaultLine tables text) ⊎ ((status ≡ Differs) × IsUnresumedText tables Differs text)
unresumed_cases tables status text answered writes =
    by_answer (λ s. IsUnresumedText tables s text → ((s ≡ BadInput) × IsKeptFaultLine tables text) ⊎ ((s ≡ Differs) × IsUnresumedText tables Differs text)) (λ is. absurd is) (λ is. absurd is)
    (λ is. inl (refl, is)) (λ is. inr (refl, is)) (λ is. absurd is) status answered (whole (IsUnresumedText tables) status text answered writes)

-- Tables that lead to a state have no such line.
pub no_kept_line : ReadingsAreOne → (tables : Tables) → IsTold tables → (facts : SeasonFacts) (state : State) (line : List ℕ) → IsResumed tables facts state → IsKeptFaultLine tables line → ⊥
no_kept_line readings Untold told facts state line resumed is = told
no_kept_line readings NoSeason told facts state line resumed is = resumed.1
no_kept_line readings (Records kept) told facts state line resumed (inl is) = absurd (let e = is.0 in cc e)
no_kept_line readings (Records kept) told facts state line resumed (inr is) =
    let lead = subst (λ (k : Kept). LeadTo k facts state) (sym resumed.1) resumed.2 in
    let fault = subst (λ (k : Kept). HasFault false k.season is.2.0) (sym is.1) is.2.1 in
    (readings false kept.season).apart (content_of lead.season lead.read.row) [] is.2.0 lead.read.given fault

-- nor do their records stop a replay
no_replay_line : AreKept → (kept : Kept) (facts : SeasonFacts) (state : State) (line : List ℕ) → LeadTo kept facts state → IsReplayFaultLine kept line → ⊥
no_replay_line laws kept facts state line lead is =
    let sound = subst IsSound (sym lead.same) (kept_sound laws kept.season lead.season lead.read) in
    let said : facts ≡ facts_of is.0 = lead.same ∙ laws.seasons kept.season lead.season is.0 lead.read is.2 in
    is.4 ((laws.records facts kept sound).apart state is.1 lead.replayed (subst (λ (f : SeasonFacts). IsReplayFault f kept is.1) (sym said) is.3))

no_difference : AreKept → (tables : Tables) → IsTold tables → (facts : SeasonFacts) (state : State) (line : List ℕ) → IsResumed tables facts state → IsUnresumedText tables Differs line → ⊥
no_difference laws Untold told facts state line resumed is = told
no_difference laws NoSeason told facts state line resumed is = resumed.1
no_difference laws (Records kept) told facts state line resumed is =
    no_replay_line laws kept facts state line (subst (λ (k : Kept). LeadTo k facts state) (sym resumed.1) resumed.2) (subst (λ (k : Kept). IsReplayFaultLine k line) (sym is.1) is.2)

-- Tables that lead to a state have no text of an office that does not resume.
pub no_unresumed : ReadingsAreOne → AreKept → (tables : Tables) → IsTold tables → (facts : SeasonFacts) (state : State) (status : Status) (text : List ℕ) → IsAnswered status
    → IsResumed tables facts state → Writes (IsUnresumedText tables) status text → ⊥
no_unresumed readings laws tables told facts state status text answered resumed writes = elim (unresumed_cases tables status text answered writes) [
  | inl bad ↦ no_kept_line readings tables told facts state text resumed bad.1
  | inr differs ↦ no_difference laws tables told facts state text resumed differs.1
]

-- ---- one status

-- a text that is no bundle is not replayed
text_or_rows : ReadingsAreOne → (tables : Tables) → IsTold tables → (line again : List ℕ) → IsKeptFaultLine tables line → IsUnresumedText tables Differs again → ⊥
text_or_rows readings Untold told line again first second = told
text_or_rows readings NoSeason told line again first second = second.1
text_or_rows readings (Records kept) told line again (inl first) second = absurd (let e = first.0 in cc e)
text_or_rows readings (Records kept) told line again (inr first) second =
    let fault = subst (λ (k : Kept). HasFault false k.season first.2.0) (sym first.1) first.2.1 in
    let read = subst (λ (k : Kept). IsSeason k.season second.2.0) (sym second.1) second.2.2 in
    (readings false kept.season).apart (content_of second.2.0 read.row) [] first.2.0 read.given fault

-- The same tables have one status and one line.
pub one_unresumed : ReadingsAreOne → AreKept → (tables : Tables) → IsTold tables → (status other : Status) (output again : List ℕ) → IsAnswered status → IsAnswered other
    → Writes (IsUnresumedText tables) status output → Writes (IsUnresumedText tables) other again → (status ≡ other) × (output ≡ again)
one_unresumed readings laws tables told status other output again answered answered' first second = elim (unresumed_cases tables status output answered first) [
  | inl a ↦ elim (unresumed_cases tables other again answered' second) [
    | inl b ↦ (a.0 ∙ sym b.0, one_kept_line readings tables told output again a.1 b.1)
    | inr b ↦ absurd (text_or_rows readings tables told output again a.1 b.1)
  ]
  | inr a ↦ elim (unresumed_cases tables other again answered' second) [
    | inl b ↦ absurd (text_or_rows readings tables told again output b.1 a.1)
    | inr b ↦ (a.0 ∙ sym b.0, one_difference laws tables told output again a.1 b.1)
  ]
]
