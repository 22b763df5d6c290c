-- How the command that runs a generated season ends.
use Rattle.std.proofs.Common.{◌≡◌, ◌<◌, ◌+◌, ◌⊎◌, inl, inr, ℕ, zero, suc, true, false, List, [], ◌∷◌, ◌++◌, Option, Some, None, Result, Ok, Err, length, map, take, arith, refl, sym, ap, subst, ◌∙◌}
use Rattle.std.specs.Prelude.{IfOk, IsErrOf, slice_get}
use Rattle.std.proofs.lemmas.List.{map-append}
use Rattle.office_base.specs.FaultLines.{memory_line}
use Rattle.office_base.specs.Outside.{Appends}
use Rattle.office_asks.specs.declared.ask.Request.{Request}
use Rattle.season_file.specs.Laws.{HasFault}
use Rattle.season_file.specs.Season.{IsSeasonFault, IsSeasonWith}
use Rattle.season_file.specs.declared.fault.SeasonFault.{SeasonFault}
use Rattle.season_file.specs.declared.fault.SeasonFault.TheVariants.{OutOfMemory as NoMemoryToRead}
use Rattle.season_file.specs.declared.season.Season.{Season}
use Rattle.kept_rows.specs.Tables.{Tables, AreTold, IsFound, still}
use Rattle.rounds.specs.declared.round.Round.{Round}
use Rattle.office_moves.specs.Facts.{SeasonFacts}
use Rattle.season_facts.specs.Season.{facts_of}
use Rattle.office_moves.specs.State.{State, opening, round_at}
use Rattle.round_cut.specs.declared.fault.BeginFault.{BeginFault}
use Rattle.round_cut.specs.declared.fault.BeginFault.TheVariants.{NotEmpty}
use Rattle.round_cut.specs.declared.fault.OfficeFault.{OfficeFault}
use Rattle.round_cut.specs.declared.fault.OfficeFault.TheVariants.{KeeperFault as NoKeeper, OutOfMemory as NoMemory}
use Rattle.season_commands.specs.Tally.{CountsAll, StopsBefore}
use Rattle.season_commands.specs.declared.tally.Tally.{Tally}
use Rattle.season_generator.specs.Bundle.{generated}
use Rattle.season_generator.specs.Summary.{summary_text}
use Rattle.command_answers.specs.Writes.{IsTextOut, IsWantText, Writes}
use Rattle.command_answers.specs.declared.status.Status.{Status}
use Rattle.command_answers.specs.declared.status.Status.TheVariants.{Ok as Done, ReadFault, WriteFault, KeeperFault, OutOfMemory}
use Rattle.season_commands.proofs.Still.{still_from}
use Rattle.command_answers.proofs.Ended.{told_is_written}
use Rattle.season_commands.specs.Generated.{EndsGeneratedRun, EndsMade, IsCountedText, IsSummed, StandsForAll, StandsForFirst, summary_of, summed_status, summed_text}
use Rattle.season_commands.specs.Run.{IsUnbegunText, begin_status, begin_text}
use Rattle.season_commands.proofs.RunEnds.{text_of_begin}

-- ---- no season was made

pub unmade_ends : (n seed : ℕ) (tables : Tables) (written now : Option (List ℕ)) (broke : Type 0) (result : Status) → IsTextOut OutOfMemory memory_line written now broke result
    → (output : List ℕ) × Appends output written now × EndsGeneratedRun n seed tables tables result output
unmade_ends n seed tables written now broke result is =
    let (output, appends, writes) = told_is_written IsWantText OutOfMemory result memory_line written now broke refl is in
    (output, appends, inl (writes, refl))

-- if the sink takes all, the status reports that memory ran out
pub unmade_is_told : (written now : Option (List ℕ)) (broke : Type 0) (result : Status) → IsTextOut OutOfMemory memory_line written now broke result → (broke → ⊥) → result ≡ OutOfMemory
unmade_is_told written now broke result told wrote = elim told [ inl whole ↦ whole.0 | inr cut ↦ absurd (wrote cut.1) ]

-- bytes without a fault are not read only when memory runs out
pub only_memory : (bytes : List ℕ) (fault : SeasonFault) → ((other : SeasonFault) → HasFault true bytes other → ⊥) → IsSeasonFault true bytes fault → fault ≡ NoMemoryToRead
only_memory bytes NoMemoryToRead none is = refl
only_memory bytes fault none is = absurd (none fault is)

-- ---- a season was made

pub made_ends : (n seed : ℕ) (before after : Tables) (season : Season) (script shown : List Request) (written now : Option (List ℕ)) (status : Status)
    → IsSeasonWith true (generated n seed) season script → shown ≡ script → (output : List ℕ) × Appends output written now × EndsMade n seed season shown before after status output
    → (output : List ℕ) × Appends output written now × EndsGeneratedRun n seed before after status output
made_ends n seed before after season script shown written now status is same end =
    (end.0, end.1, inr (season, script, is, subst (λ (requests : List Request). EndsMade n seed season requests before after status end.0) same end.2))

-- no office began
pub unbegun_made : (n seed : ℕ) (season : Season) (script : List Request) (before after : Tables) (fault : BeginFault) (written now : Option (List ℕ)) (broke : Type 0) (result : Status)
    → (fault ≡ NotEmpty → IsFound true after) → AreTold before after → IsTextOut (begin_status fault) (begin_text fault) written now broke result
    → (output : List ℕ) × Appends output written now × EndsMade n seed season script before after result output
unbegun_made n seed season script before after fault written now broke result held told is =
    let (output, appends, writes) = told_is_written (IsUnbegunText (still before after)) (begin_status fault) result (begin_text fault) written now broke
    (text_of_begin (still before after) fault (λ same. still_from (λ t. IsFound true t) before after told (held same))) is in
    (output, appends, inl (writes, told))

-- ---- requests are answered and counted

-- all of them, after the opening
pub summed : (n seed : ℕ) (facts : SeasonFacts) (start : State) (script : List Request) (state : State) (tables : Tables) (tally : Tally) (text : List ℕ) → start ≡ opening
    → CountsAll facts start script state tables tally → text ≡ summary_text (summary_of n seed tally state) → IsSummed n seed facts script tables text
summed n seed facts start script state tables tally text from all is = (state, tally, subst (λ s. CountsAll facts s script state tables tally) from all, is)

pub stands_for_all : (facts : SeasonFacts) (start : State) (script : List Request) (state : State) (tables : Tables) (tally : Tally) → start ≡ opening
    → CountsAll facts start script state tables tally → StandsForAll facts script tables
stands_for_all facts start script state tables tally from all = (state, tally, subst (λ s. CountsAll facts s script state tables tally) from all)

pub stands_for_first : (facts : SeasonFacts) (start : State) (script : List Request) (state : State) (tables : Tables) → start ≡ opening → StopsBefore facts start script state tables
    → StandsForFirst facts script tables
stands_for_first facts start script state tables from some = (state, subst (λ s. StopsBefore facts s script state tables) from some)

-- the text of the summary, or of why there is none, goes with its status
text_of_counted : (n seed : ℕ) (facts : SeasonFacts) (script : List Request) (tables : Tables) (summary : Result (List ℕ) OfficeFault) → IfOk summary (IsSummed n seed facts script tables)
    → (IsErrOf summary NoKeeper → StandsForFirst facts script tables) → (IsErrOf summary NoMemory → StandsForFirst facts script tables ⊎ StandsForAll facts script tables)
    → IsCountedText n seed facts script tables (summed_status summary) (summed_text summary)
text_of_counted n seed facts script tables (Ok text) made keeper memory = made
text_of_counted n seed facts script tables (Err NoKeeper) made keeper memory = (refl, keeper refl)
text_of_counted n seed facts script tables (Err NoMemory) made keeper memory = (refl, memory refl)

pub counted_ends : (n seed : ℕ) (facts : SeasonFacts) (script : List Request) (tables : Tables) (summary : Result (List ℕ) OfficeFault) (written now : Option (List ℕ)) (broke : Type 0) (result : Status)
    → IfOk summary (IsSummed n seed facts script tables) → (IsErrOf summary NoKeeper → StandsForFirst facts script tables)
    → (IsErrOf summary NoMemory → StandsForFirst facts script tables ⊎ StandsForAll facts script tables) → IsTextOut (summed_status summary) (summed_text summary) written now broke result
    → (output : List ℕ) × Appends output written now × Writes (IsCountedText n seed facts script tables) result output
counted_ends n seed facts script tables summary written now broke result made keeper memory told =
    told_is_written (IsCountedText n seed facts script tables) (summed_status summary) result (summed_text summary) written now broke (text_of_counted n seed facts script tables summary made keeper memory) told

-- an office began, and answered the requests of the season
pub counted_made : (n seed : ℕ) (season : Season) (script : List Request) (facts : SeasonFacts) (before after : Tables) (written now : Option (List ℕ)) (result : Status) → facts ≡ facts_of season
    → IsFound false (still before after) → (output : List ℕ) × Appends output written now × Writes (IsCountedText n seed facts script after) result output
    → (output : List ℕ) × Appends output written now × EndsMade n seed season script before after result output
counted_made n seed season script facts before after written now result of none end =
    (end.0, end.1, inr (none, subst (λ (f : SeasonFacts). Writes (IsCountedText n seed f script after) result end.0) of end.2))

-- what the status reports of the keeper and the sink
pub record IsSummaryTold (summary : Result (List ℕ) OfficeFault) (broke : Type 0) (result : Status) : Type 0 where
  pub no_read : result ≡ ReadFault → ⊥
  pub write : result ≡ WriteFault → broke
  pub keeper : result ≡ KeeperFault → IsErrOf summary NoKeeper
  pub complete : (broke → ⊥) → (IsErrOf summary NoKeeper → ⊥) → (result ≡ Done) ⊎ (result ≡ OutOfMemory)

-- the sink failed
told_in_part : (summary : Result (List ℕ) OfficeFault) (broke : Type 0) (result : Status) → result ≡ WriteFault → broke → IsSummaryTold summary broke result
told_in_part summary broke result is failed = record {
  no_read = λ same. cc;
  write = λ same. failed;
  keeper = λ same. absurd cc;
  complete = λ wrote kept. absurd (wrote failed);
}

told_whole : (summary : Result (List ℕ) OfficeFault) (broke : Type 0) (result : Status) → result ≡ summed_status summary → IsSummaryTold summary broke result
told_whole (Ok text) broke result is = record {
  no_read = λ same. cc;
  write = λ same. absurd cc;
  keeper = λ same. absurd cc;
  complete = λ wrote kept. inl is;
}
told_whole (Err NoKeeper) broke result is = record {
  no_read = λ same. cc;
  write = λ same. absurd cc;
  keeper = λ same. refl;
  complete = λ wrote kept. absurd (kept refl);
}
told_whole (Err NoMemory) broke result is = record {
  no_read = λ same. cc;
  write = λ same. absurd cc;
  keeper = λ same. absurd cc;
  complete = λ wrote kept. inr is;
}

pub summary_told : (summary : Result (List ℕ) OfficeFault) (written now : Option (List ℕ)) (broke : Type 0) (result : Status) → IsTextOut (summed_status summary) (summed_text summary) written now broke result
    → IsSummaryTold summary broke result
summary_told summary written now broke result told =
    elim told [ inl whole ↦ told_whole summary broke result whole.0 | inr cut ↦ told_in_part summary broke result cut.0 cut.1 ]

-- if no fault of the outside is reported, the keeper did not fail
whole_held : (summary : Result (List ℕ) OfficeFault) (Held : Type 0) (result : Status) → result ≡ summed_status summary → ((IsErrOf summary NoKeeper → ⊥) → Held) → (result ≡ KeeperFault → ⊥) → Held
whole_held (Ok text) Held result is held kept = held (λ failed. cc)
whole_held (Err NoKeeper) Held result is held kept = absurd (kept is)
whole_held (Err NoMemory) Held result is held kept = held (λ failed. cc)

pub summary_held : (summary : Result (List ℕ) OfficeFault) (written now : Option (List ℕ)) (broke Held : Type 0) (result : Status) → IsTextOut (summed_status summary) (summed_text summary) written now broke result
    → ((IsErrOf summary NoKeeper → ⊥) → Held) → (result ≡ KeeperFault → ⊥) → (result ≡ WriteFault → ⊥) → Held
summary_held summary written now broke Held result told held kept wrote =
    elim told [ inl whole ↦ whole_held summary Held result whole.0 held kept | inr cut ↦ absurd (wrote cut.0) ]

-- ---- along the rounds

-- the round that follows the first i
pub round_after : (rounds : List Round) (i : ℕ) → round_at rounds (i + 1) ≡ slice_get rounds i
round_after rounds i = let next : i + 1 ≡ suc i = omega arith in ap (λ (k : ℕ). round_at rounds k) next

-- a list up to a place and the value at that place
pub taken_on : {A : Type 0} (xs : List A) (i : ℕ) (x : A) → slice_get xs i ≡ Some x → take (i + 1) xs ≡ take i xs ++ x ∷ []
taken_on [] zero x there = absurd cc
taken_on [] (suc i) x there = absurd cc
taken_on (y ∷ xs) zero x there = let same : y ≡ x = cc in ap (λ z. z ∷ []) same
taken_on (y ∷ xs) (suc i) x there =
    let next : suc i + 1 ≡ suc (i + 1) = omega arith in ap (λ (k : ℕ). take k (y ∷ xs)) next ∙ ap (λ zs. y ∷ zs) (taken_on xs i x there)

pub is_there : {A : Type 0} (xs : List A) (i : ℕ) → i < length xs → slice_get xs i ≡ None → ⊥
is_there [] i less none = omega (arith, less)
is_there (x ∷ xs) zero less none = cc
is_there (x ∷ xs) (suc i) less none = is_there xs i (omega (arith, less)) none

-- one value more is counted
pub mapped_on : {A : Type 0} (f : A → ℕ) (xs : List A) (i : ℕ) (x : A) (done more : List ℕ) → slice_get xs i ≡ Some x → done ≡ map f (take i xs) → more ≡ done ++ f x ∷ [] → more ≡ map f (take (i + 1) xs)
mapped_on f xs i x done more there before on =
    on ∙ (ap (λ ys. ys ++ f x ∷ []) before ∙ (sym (map-append f (take i xs) (x ∷ [])) ∙ ap (map f) (sym (taken_on xs i x there))))
