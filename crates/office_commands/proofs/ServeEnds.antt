-- How the command `serve` ends.
use Rattle.std.proofs.Common.{◌≡◌, inl, inr, ℕ, true, false, List, [], Option, Err, refl, subst}
use Rattle.office_base.specs.Outside.{Appends}
use Rattle.office_asks.specs.declared.ask.Request.{Request}
use Rattle.season_file.specs.declared.season.Season.{Season}
use Rattle.kept_rows.specs.Tables.{Tables, AreTold, IsFound, IsTold as IsTablesTold, still}
use Rattle.office_moves.specs.Facts.{SeasonFacts}
use Rattle.office_moves.specs.History.{IsHistory}
use Rattle.season_facts.specs.Season.{facts_of}
use Rattle.office_moves.specs.State.{State}
use Rattle.office_moves.specs.declared.moves.Entry.{Entry}
use Rattle.replays.specs.Resume.{HoldsTheKept, IsResumed}
use Rattle.round_cut.specs.declared.fault.BeginFault.{BeginFault}
use Rattle.round_cut.specs.declared.fault.BeginFault.TheVariants.{NotEmpty}
use Rattle.season_commands.specs.Check.{IsLeftBundle, bundle_answers}
use Rattle.season_commands.specs.Run.{IsUnbegunText, begin_status, begin_text}
use Rattle.command_answers.specs.Answers.{IsFailureOf}
use Rattle.command_answers.specs.Writes.{IsTextOut, status_of, text_of}
use Rattle.command_answers.specs.declared.failure.Failure.{Failure}
use Rattle.command_answers.specs.declared.status.Status.{Status}
use Rattle.command_answers.proofs.Ended.{answer_is_written, told_is_written}
use Rattle.resume_command.proofs.ResumeEnds.{still_resumed}
use Rattle.season_commands.proofs.Still.{still_from, still_later}
use Rattle.season_commands.proofs.RunEnds.{text_of_begin}
use Rattle.office_commands.specs.Doors.{Doors}
use Rattle.office_commands.specs.Serve.{EndsBegun, EndsServe, EndsServeKept, EndsServed}

-- ---- an office begins

-- No office began.
pub unbegun_ends : (season : Season) (before after : Tables) (doors : Doors) (fault : BeginFault) (written now : Option (List ℕ)) (broke : Type 0) (result : Status)
    → (fault ≡ NotEmpty → IsFound true after) → AreTold before after → doors.spared → IsTextOut (begin_status fault) (begin_text fault) written now broke result
    → (output : List ℕ) × Appends output written now × EndsBegun season before after doors result output
unbegun_ends season before after doors fault written now broke result held told spared is =
    let (output, appends, writes) = told_is_written (IsUnbegunText (still before after)) (begin_status fault) result (begin_text fault) written now broke
    (text_of_begin (still before after) fault (λ same. still_from (λ t. IsFound true t) before after told (held same))) is in
    (output, appends, inl (writes, told, spared))

-- An office began, and was served.
pub begun_ends : (season : Season) (facts : SeasonFacts) (held : List Entry) (before mid after : Tables) (doors : Doors) (written now : Option (List ℕ)) (status : Status)
    → facts ≡ facts_of season → held ≡ [] → IsFound false (still before mid) → (IsTablesTold after → IsTablesTold mid)
    → (output : List ℕ) × Appends output written now × EndsServed facts held after doors status output
    → (output : List ℕ) × Appends output written now × EndsBegun season before after doors status output
begun_ends season facts held before mid after doors written now status same none empty was end = (
  end.0,
  end.1,
  inr (
    still_later (λ t. IsFound false t) before mid after was tt empty,
    subst (λ (f : SeasonFacts). EndsServed f [] after doors status end.0) same (subst (λ (h : List Entry). EndsServed facts h after doors status end.0) none end.2),
  ),
)

-- No bundle was read.
pub unread_ends : (left : Option (List ℕ)) (failed : Type 0) (failure : Failure) (tables : Tables) (doors : Doors) (written now : Option (List ℕ)) (broke : Type 0) (result : Status)
    → IsFailureOf (bundle_answers false) left failed failure → doors.spared → IsTextOut (status_of (Err failure)) (text_of (Err failure)) written now broke result
    → (output : List ℕ) × Appends output written now × EndsServe left tables tables doors result output
unread_ends left failed failure tables doors written now broke result cause spared is =
    let (output, appends, writes) = answer_is_written (bundle_answers false) left failed (Err failure) result written now broke tt cause is in
    (output, appends, inl (writes, refl, spared))

-- A bundle was read, and its season ended.
pub read_ends : (left : Option (List ℕ)) (before after : Tables) (doors : Doors) (season : Season) (script : List Request) (written now : Option (List ℕ)) (status : Status)
    → IsLeftBundle false left season script
    → (output : List ℕ) × Appends output written now × EndsBegun season before after doors status output
    → (output : List ℕ) × Appends output written now × EndsServe left before after doors status output
read_ends left before after doors season script written now status is end = (end.0, end.1, inr (season, script, is, end.2))

-- ---- an office resumes

-- the entries of the records are kept by the tables that were visible before
still_held : (before mid after : Tables) (held : List Entry) → AreTold before mid → (IsTablesTold after → IsTablesTold mid) → HoldsTheKept mid held → HoldsTheKept (still before after) held
still_held before mid after held told was holds =
    let (records, loaded, same) = holds in
    still_later (λ t. HoldsTheKept t held) before mid after was (records, tt, same) (still_from (λ t. HoldsTheKept t held) before mid told holds)

-- An office went on, and was served.
pub kept_ends : (facts : SeasonFacts) (start : State) (held : List Entry) (before mid after : Tables) (doors : Doors) (written now : Option (List ℕ)) (status : Status)
    → IsResumed mid facts start → HoldsTheKept mid held → IsHistory facts held start → AreTold before mid → (IsTablesTold after → IsTablesTold mid)
    → (output : List ℕ) × Appends output written now × EndsServed facts held after doors status output
    → (output : List ℕ) × Appends output written now × EndsServeKept before after doors status output
kept_ends facts start held before mid after doors written now status resumed holds leads told was end = (
  end.0,
  end.1,
  inr (facts, held, (start, still_resumed before mid after facts start told was resumed, still_held before mid after held told was holds, leads), end.2),
)
