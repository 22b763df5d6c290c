-- Every season with its requests has a dossier, and no clause of it is broken.
use Rattle.std.proofs.Common.{◌≡◌, ◌≤◌, ℕ, false, List, [], length, arith, refl, subst}
use Rattle.office_moves.specs.Facts.{IsSound, SeasonFacts}
use Rattle.office_moves.specs.History.{IsHistory, Reaches}
use Rattle.office_moves.specs.State.{State, opening}
use Rattle.office_moves.specs.declared.moves.Entry.{Entry}
use Rattle.history_laws.specs.Laws.{HistoryGrows}
use Rattle.history_laws.specs.Orderly.{IsOrderly}
use Rattle.season_laws.specs.NextRounds.{EveryRequestIsAnswered}
use Rattle.season_laws.specs.ReadBack.{PublishedIsRead}
use Rattle.season_facts.specs.Season.{facts_of}
use Rattle.one_output.specs.Laws.{SeasonsAreSound}
use Rattle.office_base.specs.Limits.{most_bundle_bytes}
use Rattle.one_output.specs.VerdictLaws.{OneVerdictOfBytes}
use Rattle.dossier_file.specs.Split.{IsSplit}
use Rattle.dossier_file.specs.Dossier.{AreDossier}
use Rattle.dossier_file.specs.Due.{cuts_accepted, due}
use Rattle.dossier_file.specs.Papers.{ArePapers}
use Rattle.same_input_laws.specs.SeasonDossiers.{SeasonsHaveDossiers, papers_told, texts_told}
use Rattle.same_input_laws.proofs.Dossiers as dossiers
use Rattle.same_input_laws.specs.Joined.{joined_bytes}
use Rattle.same_input_laws.proofs.Joined.{joined_are_cut}
use Rattle.same_input_laws.proofs.OwnAudit.{audited_well}
use Rattle.same_input_laws.proofs.OwnDossier.{own_dossier}
use Rattle.same_input_laws.proofs.Answered.{answered, counts, ends_history}
use Rattle.same_input_laws.proofs.OwnPapers.{Laws, papers_are_best, papers_are_sound}
use Rattle.same_input_laws.proofs.DuePapers.{told}

pub seasons_have_dossiers : Laws → OneVerdictOfBytes → dossiers.Laws → SeasonsAreSound → ((facts : SeasonFacts) (entries : List Entry) (state : State) → IsSound facts → Reaches facts opening entries state → IsOrderly facts state)
    → ((facts : SeasonFacts) → HistoryGrows facts) → ((facts : SeasonFacts) → EveryRequestIsAnswered facts) → ((facts : SeasonFacts) → PublishedIsRead facts) → SeasonsHaveDossiers
seasons_have_dossiers laws one more sounds orderly grows every reads bundle requests season script of_season of_script =
    let facts = facts_of season in
    let sound = sounds false bundle season of_season.row [] of_season.given in
    let start : IsHistory facts [] opening = record { numbers = refl; reached = refl } in
    record {
      some = answered facts (grows facts) (every facts) sound (λ entries state reached. orderly facts entries state sound reached) [] opening script start;
      each = λ output state answers.
          let end = ends_history facts (grows facts) [] opening state script output start answers in
          let order = orderly facts end.0 state sound end.1.reached in
          let many = counts facts opening state script output answers in
          let papers = subst (λ (n : ℕ). ArePapers season.matrix season.register.people season.rounds (due season.rounds (length season.matrix.programmes) n) (texts_told facts state) (papers_told facts state))
          (let e : state.now ≡ cuts_accepted season.rounds 0 script = omega (arith, many) in e) (told facts state order (reads facts state sound order)) in
          let cuts : state.now ≡ cuts_accepted season.rounds 0 script = omega (arith, many) in
          let no_clause = papers_are_sound laws facts sound (grows facts) (λ entries held reached. orderly facts entries held sound reached) state order script output answers in
          let all_best = papers_are_best laws facts sound (grows facts) (λ entries held reached. orderly facts entries held sound reached) state order script output answers in
          let is : (bytes : List ℕ) → length bytes ≤ most_bundle_bytes → IsSplit bytes bundle requests (texts_told facts state) → AreDossier bytes season script (papers_told facts state) =
          λ bytes short cut. record {
            short = short;
            bundle = bundle;
            requests = requests;
            published = texts_told facts state;
            cut = cut;
            of_season = of_season;
            of_script = of_script;
            of_papers = papers;
          } in
          record {
            due = papers;
            whole = is;
            together = λ can short. is (joined_bytes bundle requests (texts_told facts state)) short (joined_are_cut bundle requests (texts_told facts state) can);
            sound = no_clause;
            best = all_best;
            audited = λ bytes short cut.
                audited_well one more bytes (own_dossier laws season script state sound order cuts papers) (is bytes short cut) (length state.rounds) no_clause all_best;
          };
    }
