-- `resume` writes the same for the same input.
use Rattle.std.proofs.Common.{◌≡◌, ◌⊎◌, inl, inr, ℕ, List, Some, refl, sym, ◌∙◌, subst}
use Rattle.office_asks.specs.declared.ask.Request.{Request}
use Rattle.kept_rows.specs.Tables.{AreTold, Tables, still}
use Rattle.kept_rows.specs.declared.rows.Kept.{Kept}
use Rattle.office_moves.specs.Facts.{IsSound, SeasonFacts}
use Rattle.replays.specs.Replay.{IsReplayed}
use Rattle.office_moves.specs.State.{State}
use Rattle.history_laws.specs.Laws.{HistoryGrows}
use Rattle.replays.specs.Resume.{IsResumed}
use Rattle.season_commands.specs.Laws.{OneRun}
use Rattle.season_commands.specs.Runs.{AfterSome, Answers}
use Rattle.command_answers.specs.Answers.{HaveOneAnswer}
use Rattle.command_answers.specs.Status.{IsAnswered}
use Rattle.command_answers.specs.Writes.{Writes}
use Rattle.command_answers.specs.declared.status.Status.{Status}
use Rattle.command_answers.specs.declared.status.Status.TheVariants.{Ok as Done, BadInput}
use Rattle.command_answers.proofs.Answered.{by_answer}
use Rattle.season_commands.specs.Office.{EndsOffice}
use Rattle.resume_command.specs.Resume.{AreLeftRequests, AreRequests, EndsAsked, IsRequestFaultLine, IsUnresumedText, script_answers}
use Rattle.same_input_laws.proofs.Written.{text_cases}
use Rattle.same_input_laws.specs.Keep.{HoldTheSame}
use Rattle.same_input_laws.specs.ResumeOutputs.{ResumesAreOne}
use Rattle.same_input_laws.proofs.Keep.{left_alike, stand_alike}
use Rattle.same_input_laws.proofs.Replayed.{history_replayed}
use Rattle.same_input_laws.proofs.Resumed.{AreKept, ReadingsAreOne, no_unresumed, of_first, one_unresumed, resumed_alike, same_tables}

-- ---- requests that are answered from one state

one_script : (bytes : List ℕ) (script more : List Request) → AreLeftRequests (Some bytes) script → AreLeftRequests (Some bytes) more → more ≡ script
one_script bytes script more first second =
    let a = (subst (λ (b : List ℕ). AreRequests b script) first.1 first.2).1 in
    let b = (subst (λ (b : List ℕ). AreRequests b more) second.1 second.2).1 in
    cc (a, b)

-- The same requests have one output and lead to one state, from where the same records lead.
one_run : ((facts : SeasonFacts) → HistoryGrows facts) → ((facts : SeasonFacts) → OneRun facts) → (facts : SeasonFacts) (state end last : State) (kept : Kept)
    (script more : List Request) (output again : List ℕ) → IsSound facts → IsReplayed facts kept state → more ≡ script → Answers facts state script output end
    → Answers facts state more again last → (output ≡ again) × (end ≡ last)
one_run grows run facts state end last kept script more output again sound replayed scripts first second =
    let history = history_replayed facts (grows facts) sound kept state replayed in
    run facts sound history.0 state end last script output again history.1 first (subst (λ (s : List Request). Answers facts state s again last) scripts second)

-- Requests were read and answered, or their fault was told and the tables were left.
asked_cases : (bytes : List ℕ) (facts : SeasonFacts) (state : State) (before after : Tables) (status : Status) (output : List ℕ) → IsAnswered status
    → EndsAsked facts state (Some bytes) before after status output
    → ((status ≡ BadInput) × IsRequestFaultLine bytes output × AreTold before after)
    ⊎ ((status ≡ Done) × ((script : List Request) × AreLeftRequests (Some bytes) script × ((end : State) × AfterSome facts state script output end after)))
asked_cases bytes facts state before after status output answered (inl first) = elim (text_cases script_answers bytes status output answered first.0) [
  | inl done ↦ absurd done.1
  | inr bad ↦ inl (bad.0, bad.1, first.1)
]
asked_cases bytes facts state before after status output answered (inr first) =
    by_answer (λ s. EndsOffice facts state first.0 after s output → ((s ≡ BadInput) × IsRequestFaultLine bytes output × AreTold before after)
    ⊎ ((s ≡ Done) × ((script : List Request) × AreLeftRequests (Some bytes) script × ((end : State) × AfterSome facts state script output end after))))
    (λ ends. inr (refl, (first.0, first.1, ends))) (λ ends. absurd ends) (λ ends. absurd ends) (λ ends. absurd ends) (λ ends. absurd ends) status answered first.2

-- requests that are read have no fault
no_fault : ((bytes : List ℕ) → HaveOneAnswer script_answers bytes) → (bytes : List ℕ) (script : List Request) (line : List ℕ) → AreLeftRequests (Some bytes) script → IsRequestFaultLine bytes line → ⊥
no_fault one bytes script line left fault = (one bytes).apart (script, subst (λ (b : List ℕ). AreRequests b script) left.1 left.2) ((one bytes).of_fault line fault)

-- They end with one status, one output and tables that hold the same.
one_asked : ((bytes : List ℕ) → HaveOneAnswer script_answers bytes) → ((facts : SeasonFacts) → HistoryGrows facts) → ((facts : SeasonFacts) → OneRun facts) → (bytes : List ℕ)
    (facts : SeasonFacts) (state : State) (kept : Kept) (before after later : Tables) (status other : Status) (output again : List ℕ) → IsAnswered status → IsAnswered other → IsSound facts
    → IsReplayed facts kept state → EndsAsked facts state (Some bytes) before after status output → EndsAsked facts state (Some bytes) before later other again
    → (status ≡ other) × (output ≡ again) × HoldTheSame after later
one_asked one grows run bytes facts state kept before after later status other output again answered answered' sound replayed first second =
    elim (asked_cases bytes facts state before after status output answered first) [
      | inl a ↦ elim (asked_cases bytes facts state before later other again answered' second) [
        | inl b ↦ (a.0 ∙ sym b.0, (one bytes).one_line output again a.1 b.1, left_alike before after later a.2 b.2)
        | inr b ↦ absurd (no_fault one bytes b.1.0 output b.1.1 a.1)
      ]
      | inr a ↦ elim (asked_cases bytes facts state before later other again answered' second) [
        | inl b ↦ absurd (no_fault one bytes a.1.0 again a.1.1 b.1)
        | inr b ↦
            let same = one_run grows run facts state a.1.2.0 b.1.2.0 kept a.1.0 b.1.0 output again sound replayed (one_script bytes a.1.0 b.1.0 a.1.1 b.1.1) a.1.2.1.answers b.1.2.1.answers in
            (a.0 ∙ sym b.0, same.0, stand_alike facts facts a.1.2.0 b.1.2.0 after later refl same.1 a.1.2.1.stands b.1.2.1.stands)
      ]
    ]

-- ---- the command

pub resumes_are_one : ReadingsAreOne → ((bytes : List ℕ) → HaveOneAnswer script_answers bytes) → AreKept → ((facts : SeasonFacts) → HistoryGrows facts)
    → ((facts : SeasonFacts) → OneRun facts) → ResumesAreOne
resumes_are_one readings one laws grows run bytes output again before after later status other answered answered' told seen first second =
    by first (subst (λ (t : Tables). EndsOver t later other again) (same_tables before after later told seen) second)
  where
    tables : Tables
    tables = still before after

    EndsOver : Tables → Tables → Status → List ℕ → Type 0
    EndsOver those left end text = (Writes (IsUnresumedText those) end text × AreTold before left)
        ⊎ ((facts : SeasonFacts) × (start : State) × IsResumed those facts start × EndsAsked facts start (Some bytes) before left end text)

    by : EndsOver tables after status output → EndsOver tables later other again → (status ≡ other) × (output ≡ again) × HoldTheSame after later
    by (inl a) (inl b) =
        let same = one_unresumed readings laws tables told status other output again answered answered' a.0 b.0 in
        (same.0, same.1, left_alike before after later a.1 b.1)
    by (inl a) (inr b) = absurd (no_unresumed readings laws tables told b.0 b.1 status output answered b.2 a.0)
    by (inr a) (inl b) = absurd (no_unresumed readings laws tables told a.0 a.1 other again answered' a.2 b.0)
    by (inr a) (inr b) =
        let alike = resumed_alike laws tables told a.0 b.0 a.1 b.1 a.2 b.2 in
        let its = of_first a.0 b.0 a.1 b.1 alike.0 alike.1 (λ (facts : SeasonFacts) (start : State). EndsAsked facts start (Some bytes) before later other again) b.3 in
        one_asked one grows run bytes a.0 a.1 alike.0 before after later status other output again answered answered' alike.1.sound alike.1.replayed a.3 its
