-- Which objects the status of a command blames.
use Rattle.std.proofs.Common.{◌≡◌, ◌≢◌, ◌⊎◌, ◌∙◌, ◌≤◌, inl, inr, ℕ, true, List, [], ◌∷◌, Option, map, refl, sym}
use Rattle.office_base.specs.Outside.{Rose}
use Rattle.kept_rows.specs.Tables.{Tables, still}
use Rattle.season_file.specs.declared.season.Season.{Season}
use Rattle.office_asks.specs.declared.ask.Request.{Request}
use Rattle.season_commands.specs.Check.{bundle_answers, check_answers}
use Rattle.season_commands.specs.Generated.{IsCountedText, IsGeneratedText}
use Rattle.resume_command.specs.Resume.{EndsResume, IsUnresumedText, script_answers}
use Rattle.season_commands.specs.Run.{EndsSeason, IsUnbegunText}
use Rattle.season_facts.specs.Season.{facts_of}
use Rattle.special_command.specs.Special.{EndsSpecial, IsSpecialText}
use Rattle.special_command.specs.declared.lists.SpecialPapers.{SpecialPapers}
use Rattle.special_command.specs.declared.lists.SpecialPapers.TheVariants.{RoundAlone, WithLists}
use Rattle.units_command.specs.Units.{units_answers}
use Rattle.step_command.specs.Step.{step_answers}
use Rattle.audit_command.specs.Audit.{IsAuditText}
use Rattle.audit_command.specs.Best.{IsBestText}
use Rattle.door_crews.specs.Ending.{SomeRose}
use Rattle.office_commands.specs.Doors.{Doors}
use Rattle.office_commands.specs.Blames.{Blames, Counts}
use Rattle.command_answers.specs.Writes.{IsTextOf, IsWantText, Writes}
use Rattle.command_answers.specs.declared.status.Status.{Status}
use Rattle.command_answers.specs.declared.status.Status.TheVariants.{BadInput, ReadFault, WriteFault, KeeperFault, OutOfMemory, DoorFault, Differs}
use Rattle.command_words.specs.declared.words.Command.{Command}
use Rattle.command_words.specs.declared.words.Command.TheVariants.{Step, Check, Run, Resume, Units, Special, SpecialLists, Serve, Audit, AuditBest, Generate}
use Rattle.command_words.specs.declared.words.OutKind.TheVariants as out_kind
use Rattle.office_commands.specs.Program.{Ends, Serves}

-- ---- doors are of `serve` alone

-- no text goes with a fault of a door
no_text : (IsText : Status → List ℕ → Type 0) (output : List ℕ) → ((text : List ℕ) → IsText DoorFault text → ⊥) → Writes IsText DoorFault output → ⊥
no_text IsText output none (inl whole) = none output whole
no_text IsText output none (inr cut) = let wrong : DoorFault ≡ WriteFault = cut.0 in cc wrong

no_season : (season : Season) (script : List Request) (before after : Tables) (output : List ℕ) → EndsSeason season script before after DoorFault output → ⊥
no_season season script before after output (inl unbegun) = no_text (IsUnbegunText (still before after)) output (λ text h. h) unbegun.0
no_season season script before after output (inr begun) = begun.1

no_resume : (left : Option (List ℕ)) (before after : Tables) (output : List ℕ) → EndsResume left before after DoorFault output → ⊥
no_resume left before after output (inl unresumed) = no_text (IsUnresumedText (still before after)) output (λ text h. h) unresumed.0
no_resume left before after output (inr (facts, start, is, inl unasked)) = no_text (IsTextOf script_answers left) output (λ text h. h) unasked.0
no_resume left before after output (inr (facts, start, is, inr (script, are, ends))) = ends

no_special : (papers : SpecialPapers) (left : Option (List ℕ)) (before after : Tables) (output : List ℕ) → EndsSpecial papers left before after DoorFault output → ⊥
no_special papers left before after output (inl unresumed) = no_text (IsUnresumedText (still before after)) output (λ text h. h) unresumed.0
no_special papers left before after output (inr (facts, state, is, writes, told)) = no_text (IsSpecialText papers facts state left) output (λ text h. h) writes

-- A command that does not serve does not end with a fault of a door.
pub no_door : (command : Command) (left : Option (List ℕ)) (before after : Tables) (doors : Doors) (output : List ℕ) → (Serves command → ⊥) → Ends command left before after doors DoorFault output → ⊥
no_door Step left before after doors output other ends = no_text (IsTextOf step_answers left) output (λ text h. h) ends.0
no_door Check left before after doors output other ends = no_text (IsTextOf check_answers left) output (λ text h. h) ends.0
no_door (Run store) left before after doors output other (inl unread) = no_text (IsTextOf (bundle_answers true) left) output (λ text h. h) unread.0
no_door (Run store) left before after doors output other (inr (season, script, is, ends)) = no_season season script before after output ends
no_door (Resume store) left before after doors output other ends = no_resume left before after output ends
no_door (Units store) left before after doors output other (inl unread) = no_text (IsTextOf units_answers left) output (λ text h. h) unread.0
no_door (Units store) left before after doors output other (inr (season, script, is, ends)) = no_season season script before after output ends
no_door (Special store) left before after doors output other ends = no_special RoundAlone left before after output ends
no_door (SpecialLists store) left before after doors output other ends = no_special WithLists left before after output ends
no_door (Serve conns workers start port store) left before after doors output other ends = other tt
no_door Audit left before after doors output other ends = no_text (IsAuditText left) output (λ text h. h) ends.0
no_door AuditBest left before after doors output other ends = no_text (IsBestText left) output (λ text h. h) ends.0
no_door (Generate n seed out_kind.Text) left before after doors output other ends = no_text (IsGeneratedText n seed) output (λ text h. h) ends.0
no_door (Generate n seed out_kind.Run) left before after doors output other (inl unmade) = no_text IsWantText output (λ text h. h) unmade.0
no_door (Generate n seed out_kind.Run) left before after doors output other (inr (season, script, is, inl unbegun)) = no_text (IsUnbegunText (still before after)) output (λ text h. h) unbegun.0
no_door (Generate n seed out_kind.Run) left before after doors output other (inr (season, script, is, inr (found, writes))) =
    no_text (IsCountedText n seed (facts_of season) script after) output (λ text h. h) writes

-- ---- who is blamed

-- what happens before an office has begun or resumed is no fault of the keeper
early : (result : Status) (Held : Type 0) → (result ≡ BadInput) ⊎ ((result ≡ ReadFault) ⊎ (result ≡ Differs)) → (result ≢ KeeperFault → result ≢ WriteFault → Held) → Held
early result Held (inl is) held = held (λ same. let wrong : BadInput ≡ KeeperFault = sym is ∙ same in cc wrong) (λ same. let wrong : BadInput ≡ WriteFault = sym is ∙ same in cc wrong)
early result Held (inr (inl is)) held = held (λ same. let wrong : ReadFault ≡ KeeperFault = sym is ∙ same in cc wrong) (λ same. let wrong : ReadFault ≡ WriteFault = sym is ∙ same in cc wrong)
early result Held (inr (inr is)) held = held (λ same. let wrong : Differs ≡ KeeperFault = sym is ∙ same in cc wrong) (λ same. let wrong : Differs ≡ WriteFault = sym is ∙ same in cc wrong)

-- A command that does not serve blames no door.
pub blames : (serves : Type 0) (source source_now sink sink_now keeper keeper_now : ℕ) (doors : List ℕ) (result : Status) → (result ≡ DoorFault → ⊥)
    → (result ≡ ReadFault → Rose source source_now) → (result ≡ WriteFault → Rose sink sink_now) → (result ≡ KeeperFault → Rose keeper keeper_now)
    → (result ≢ ReadFault → result ≢ WriteFault → source_now ≡ source) → (result ≢ WriteFault → sink_now ≡ sink) → (result ≢ KeeperFault → result ≢ WriteFault → keeper_now ≡ keeper) → keeper ≤ keeper_now
    → Blames serves result (record { source = source; sink = sink; keeper = keeper; doors = doors }) (record { source = source_now; sink = sink_now; keeper = keeper_now; doors = doors })
blames serves source source_now sink sink_now keeper keeper_now doors result no_door read write failed source_same sink_same keeper_same count = record {
  read = read;
  write = write;
  keeper = failed;
  door = λ is. absurd (no_door is);
  source_steady = source_same;
  sink_steady = sink_same;
  keeper_steady = λ other. keeper_same;
  keeper_early = λ is. early result (keeper_now ≡ keeper) is keeper_same;
  doors_steady = λ broke wrote short held. refl;
  keeper_count = count;
}

-- if one of the doors failed, one of their counts rose
counted : {D : Type 0} (faults : D → ℕ) (doors doors' : List D) → SomeRose faults doors doors' → SomeRose (λ count. count) (map faults doors) (map faults doors')
counted faults [] doors' rose = rose
counted faults (door ∷ doors) [] rose = rose
counted faults (door ∷ doors) (door' ∷ doors') (inl here) = inl here
counted faults (door ∷ doors) (door' ∷ doors') (inr later) = inr (counted faults doors doors' later)

-- A command that serves blames the doors too.
pub serve_blames : {D : Type 0} (faults : D → ℕ) (serves : Type 0) (source source_now sink sink_now keeper keeper_now : ℕ) (doors doors' : List D) (result : Status) → serves
    → (result ≡ ReadFault → Rose source source_now) → (result ≡ WriteFault → Rose sink sink_now) → (result ≡ KeeperFault → Rose keeper keeper_now) → (result ≡ DoorFault → SomeRose faults doors doors')
    → (result ≢ ReadFault → result ≢ WriteFault → source_now ≡ source) → (result ≢ WriteFault → sink_now ≡ sink) → ((result ≡ BadInput) ⊎ ((result ≡ ReadFault) ⊎ (result ≡ Differs)) → keeper_now ≡ keeper)
    → (result ≢ DoorFault → result ≢ WriteFault → result ≢ OutOfMemory → result ≢ KeeperFault → map faults doors' ≡ map faults doors) → keeper ≤ keeper_now
    → Blames serves result (record { source = source; sink = sink; keeper = keeper; doors = map faults doors }) (record { source = source_now; sink = sink_now; keeper = keeper_now; doors = map faults doors' })
serve_blames faults serves source source_now sink sink_now keeper keeper_now doors doors' result is read write failed broke source_same sink_same keeper_same doors_same count = record {
  read = read;
  write = write;
  keeper = failed;
  door = λ same. counted faults doors doors' (broke same);
  source_steady = source_same;
  sink_steady = sink_same;
  keeper_steady = λ other. absurd (other is);
  keeper_early = keeper_same;
  doors_steady = λ broke wrote short held. doors_same broke wrote short (held is);
  keeper_count = count;
}

-- What blames under one command blames under the words that spell it.
pub blames_as : (serves spelled : Type 0) (result : Status) (old new : Counts) → (serves → spelled) → Blames serves result old new → Blames spelled result old new
blames_as serves spelled result old new more is = record {
  read = is.read;
  write = is.write;
  keeper = is.keeper;
  door = is.door;
  source_steady = is.source_steady;
  sink_steady = is.sink_steady;
  keeper_steady = λ other. is.keeper_steady (λ here. other (more here));
  keeper_early = is.keeper_early;
  doors_steady = λ broke wrote short held. is.doors_steady broke wrote short (λ here. held (more here));
  keeper_count = is.keeper_count;
}
