-- How the command `run` ends.
use Rattle.std.proofs.Common.{◌≡◌, inl, inr, ℕ, Bool, true, false, List, Option, Some, None, Err, refl, subst}
use Rattle.office_base.specs.Outside.{Appends}
use Rattle.office_asks.specs.declared.ask.Request.{Request}
use Rattle.season_file.specs.declared.season.Season.{Season}
use Rattle.kept_rows.specs.Tables.{Tables, AreTold, IsFound, IsTold as IsTablesTold, still}
use Rattle.office_moves.specs.Facts.{SeasonFacts}
use Rattle.season_facts.specs.Season.{facts_of}
use Rattle.office_moves.specs.State.{State, opening}
use Rattle.season_commands.specs.Office.{EndsOffice}
use Rattle.round_cut.specs.declared.fault.BeginFault.{BeginFault}
use Rattle.round_cut.specs.declared.fault.BeginFault.TheVariants.{NotEmpty, KeeperFault as NoKeeper, OutOfMemory as NoMemory}
use Rattle.season_file.specs.Season.{content_of}
use Rattle.command_answers.specs.Answers.{HaveOneAnswer, IsFailureOf, Tells}
use Rattle.season_commands.specs.Check.{IsBundle, IsFaultyBundle, IsLeftBundle, bundle_answers}
use Rattle.command_answers.specs.Writes.{status_of, text_of}
use Rattle.season_commands.specs.Run.{EndsRun, EndsSeason, IsUnbegunText, begin_status, begin_text}
use Rattle.command_answers.specs.Writes.{IsTextOut}
use Rattle.command_answers.specs.declared.failure.Failure.{Failure}
use Rattle.command_answers.specs.declared.status.Status.{Status}
use Rattle.command_answers.proofs.Ended.{answer_is_written, told_is_written}
use Rattle.season_commands.proofs.Still.{still_from, still_none}

-- the text of why no office began goes with its status
pub text_of_begin : (tables : Tables) (fault : BeginFault) → (fault ≡ NotEmpty → IsFound true tables) → IsUnbegunText tables (begin_status fault) (begin_text fault)
text_of_begin tables NotEmpty held = (held refl, refl)
text_of_begin tables NoKeeper held = refl
text_of_begin tables NoMemory held = refl

-- No office began.
pub unbegun_ends : (season : Season) (script : List Request) (before after : Tables) (fault : BeginFault) (written now : Option (List ℕ)) (broke : Type 0) (result : Status)
    → (fault ≡ NotEmpty → IsFound true after) → AreTold before after → IsTextOut (begin_status fault) (begin_text fault) written now broke result
    → (output : List ℕ) × Appends output written now × EndsSeason season script before after result output
unbegun_ends season script before after fault written now broke result held told is =
    let (output, appends, writes) = told_is_written (IsUnbegunText (still before after)) (begin_status fault) result (begin_text fault) written now broke
    (text_of_begin (still before after) fault (λ same. still_from (λ t. IsFound true t) before after told (held same))) is in
    (output, appends, inl (writes, told))

-- An office began, and answered the requests.
pub begun_ends : (season : Season) (script : List Request) (facts : SeasonFacts) (start : State) (before mid after : Tables) (written now : Option (List ℕ)) (status : Status)
    → facts ≡ facts_of season → start ≡ opening → IsFound false (still before mid) → (IsTablesTold after → IsTablesTold mid)
    → (output : List ℕ) × Appends output written now × EndsOffice facts start script after status output → (output : List ℕ) × Appends output written now × EndsSeason season script before after status output
begun_ends season script facts start before mid after written now status same from none was end = (
  end.0,
  end.1,
  inr (
    still_none before mid after was none,
    subst (λ (f : SeasonFacts). EndsOffice f opening script after status end.0) same (subst (λ (s : State). EndsOffice facts s script after status end.0) from end.2),
  ),
)

-- No bundle was read.
pub unread_ends : (left : Option (List ℕ)) (failed : Type 0) (failure : Failure) (tables : Tables) (written now : Option (List ℕ)) (broke : Type 0) (result : Status)
    → IsFailureOf (bundle_answers true) left failed failure → IsTextOut (status_of (Err failure)) (text_of (Err failure)) written now broke result
    → (output : List ℕ) × Appends output written now × EndsRun left tables tables result output
unread_ends left failed failure tables written now broke result cause is =
    let (output, appends, writes) = answer_is_written (bundle_answers true) left failed (Err failure) result written now broke tt cause is in
    (output, appends, inl (writes, refl))

-- No season can be read if a bundle has a fault.
pub no_faulty_bundle : (requests : Bool) (left : Option (List ℕ)) (season : Season) (script : List Request) → ((requests : Bool) (bytes : List ℕ) → HaveOneAnswer (bundle_answers requests) bytes)
    → IsLeftBundle requests left season script → Tells (IsFaultyBundle requests) left → ⊥
no_faulty_bundle requests None season script laws is tells = tells
no_faulty_bundle requests (Some bytes) season script laws is tells =
    let given = subst (λ b. IsBundle requests b) is.1 (content_of season is.2.row, script, is.2.given) in (laws requests bytes).apart given tells

-- A bundle was read, and its season ended.
pub read_ends : (left : Option (List ℕ)) (before after : Tables) (season : Season) (script shown : List Request) (written now : Option (List ℕ)) (status : Status) → IsLeftBundle true left season script
    → shown ≡ script → (output : List ℕ) × Appends output written now × EndsSeason season shown before after status output
    → (output : List ℕ) × Appends output written now × EndsRun left before after status output
read_ends left before after season script shown written now status is same end =
    (end.0, end.1, inr (season, script, is, subst (λ (requests : List Request). EndsSeason season requests before after status end.0) same end.2))
