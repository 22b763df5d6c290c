-- How requests end that are answered over an office.
use Rattle.std.proofs.Common.{◌≡◌, inl, inr, ℕ, List, ◌++◌, Option, Err, take, refl, sym, subst}
use Rattle.office_base.specs.Outside.{Appends}
use Rattle.office_asks.specs.declared.ask.Request.{Request}
use Rattle.kept_rows.specs.Tables.{Tables}
use Rattle.office_moves.specs.Facts.{SeasonFacts}
use Rattle.office_moves.specs.State.{State}
use Rattle.season_commands.specs.Runs.{EndsBy}
use Rattle.season_commands.specs.declared.fault.RunFault.{RunFault}
use Rattle.season_commands.specs.declared.fault.RunFault.TheVariants.{KeeperFault as NoKeeper, OutOfMemory as NoMemory}
use Rattle.season_commands.specs.Office.{EndsOffice, Follows}
use Rattle.office_base.specs.FaultLines.{memory_line}
use Rattle.command_answers.specs.Writes.{IsTextOut, keeper_line}
use Rattle.command_answers.specs.declared.status.Status.{Status}
use Rattle.command_answers.specs.declared.status.Status.TheVariants.{WriteFault, KeeperFault, OutOfMemory}
use Rattle.season_commands.proofs.Running.{appends_on}

-- how the requests end, with what was written
abbrev pub IsEnd : SeasonFacts → State → List Request → Tables → Option (List ℕ) → Option (List ℕ) → Status → Type 0
IsEnd facts start script tables before after status = (output : List ℕ) × Appends output before after × EndsOffice facts start script tables status output

-- the run ended for this reason, with what was written of its replies
abbrev pub IsStopped : SeasonFacts → State → List Request → RunFault → State → Tables → Option (List ℕ) → Option (List ℕ) → Type 0
IsStopped facts start script fault state tables before after = (output : List ℕ) × Appends output before after × EndsBy facts start script (Err fault) output state tables

-- the end of this status is that of the result
as_result : (facts : SeasonFacts) (start : State) (script : List Request) (tables : Tables) (before after : Option (List ℕ)) (status result : Status) → result ≡ status
    → IsEnd facts start script tables before after status → IsEnd facts start script tables before after result
as_result facts start script tables before after status result same end = subst (λ s. IsEnd facts start script tables before after s) (sym same) end

-- a text was written after the replies
follows : (facts : SeasonFacts) (start : State) (script : List Request) (fault : RunFault) (state : State) (tables : Tables) (before mid after : Option (List ℕ)) (text : List ℕ)
    → IsStopped facts start script fault state tables before mid → Appends text mid after → (output : List ℕ) × Appends output before after × Follows facts start script tables fault text output
follows facts start script fault state tables before mid after text (some, written, ends) told = (some ++ text, appends_on some text before mid after written told, (some, state, ends, refl))

-- The keeper failed.
pub keeper_ends : (facts : SeasonFacts) (start : State) (script : List Request) (state : State) (tables : Tables) (before mid after : Option (List ℕ)) (broke : Type 0) (result : Status)
    → IsStopped facts start script NoKeeper state tables before mid → IsTextOut KeeperFault keeper_line mid after broke result → IsEnd facts start script tables before after result
keeper_ends facts start script state tables before mid after broke result here told =
    elim told [
      | inl whole ↦ as_result facts start script tables before after KeeperFault result whole.0 (follows facts start script NoKeeper state tables before mid after keeper_line here whole.1)
      | inr cut ↦
          let (output, appends, ends) = follows facts start script NoKeeper state tables before mid after (take cut.2.0 keeper_line) here cut.2.1 in
          as_result facts start script tables before after WriteFault result cut.0 (output, appends, inr (cut.2.0, inl ends))
    ]

-- Memory ran out.
pub memory_ends : (facts : SeasonFacts) (start : State) (script : List Request) (state : State) (tables : Tables) (before mid after : Option (List ℕ)) (broke : Type 0) (result : Status)
    → IsStopped facts start script NoMemory state tables before mid → IsTextOut OutOfMemory memory_line mid after broke result → IsEnd facts start script tables before after result
memory_ends facts start script state tables before mid after broke result here told =
    elim told [
      | inl whole ↦ as_result facts start script tables before after OutOfMemory result whole.0 (follows facts start script NoMemory state tables before mid after memory_line here whole.1)
      | inr cut ↦
          let (output, appends, ends) = follows facts start script NoMemory state tables before mid after (take cut.2.0 memory_line) here cut.2.1 in
          as_result facts start script tables before after WriteFault result cut.0 (output, appends, inr (cut.2.0, inr ends))
    ]
