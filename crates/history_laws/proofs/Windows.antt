-- The windows along a history: each cut but the last publishes a round, the last one gives the final rows, and nothing is of a window to come.
use Rattle.std.proofs.Common.{◌≡◌, ◌<◌, ◌+◌, ℕ, List, [], ◌∷◌, ◌++◌, length, arith, refl, sym, ap, ◌∙◌, subst, length-append}
use Rattle.kept_rows.specs.declared.rows.AnswerRow.{AnswerRow}
use Rattle.kept_rows.specs.declared.rows.RaiseRow.{RaiseRow}
use Rattle.office_moves.specs.Facts.{SeasonFacts}
use Rattle.office_moves.specs.State.{State, in_window, opening, rows_of}
use Rattle.office_moves.specs.Raised.{raised_before}
use Rattle.office_moves.specs.History.{Reaches}
use Rattle.office_moves.specs.declared.moves.Act.{Act}
use Rattle.office_moves.specs.declared.moves.Entry.{Entry}
use Rattle.history_laws.specs.Laws.{IsInTime, WindowsPass}
use Rattle.history_laws.proofs.Accepted.{is_open}
use Rattle.history_laws.proofs.Changes.{Answered, Finishes, Publishes, Raised, Follows, along}
use Rattle.history_laws.proofs.Rows.{before_more, window_same}

-- ---- rounds and final rows

at_first : (facts : SeasonFacts) → IsInTime facts opening
at_first facts = record {
  now = omega arith;
  order = λ few. refl;
  few = omega arith;
  unfinished = λ few. refl;
  finished = λ less. absurd (omega (arith, less));
  last = λ some. absurd (cc);
}

goes_on : (facts : SeasonFacts) (old new : State) (act : Act) → IsInTime facts old → Follows facts old act new → IsInTime facts new
goes_on facts old new act here (Answered row asks is accepts same) =
    subst (λ (s : State). IsInTime facts s) (sym same) (record { now = here.now; order = here.order; few = here.few; unfinished = here.unfinished; finished = here.finished; last = here.last })
goes_on facts old new act here (Raised row code asks found known is accepts same) =
    subst (λ (s : State). IsInTime facts s) (sym same) (record { now = here.now; order = here.order; few = here.few; unfinished = here.unfinished; finished = here.finished; last = here.last })
goes_on facts old new act here (Publishes window round asks is cuts less next same) =
    let count = here.order (omega (arith, less)) in
    let longer : length (old.rounds ++ round ∷ []) ≡ length old.rounds + 1 = length-append old.rounds (round ∷ []) in
    subst (λ (s : State). IsInTime facts s) (sym same) (record {
      now = omega (arith, less);
      order = λ few. longer ∙ ap (λ n. n + 1) count;
      few = omega (arith, longer, count, less);
      unfinished = λ few. here.unfinished (omega (arith, less));
      finished = λ later. absurd (omega (arith, less, later));
      last = λ some. absurd (let none = here.unfinished (omega (arith, less)) in cc);
    })
goes_on facts old new act here (Finishes window asks is cuts last same) =
    let count = here.order (omega (arith, last)) in
    subst (λ (s : State). IsInTime facts s) (sym same) (record {
      now = omega (arith, last);
      order = λ few. absurd (omega (arith, last, few));
      few = here.few;
      unfinished = λ few. absurd (omega (arith, last, few));
      finished = λ later. (count ∙ last, refl);
      last = λ some. count ∙ last;
    })

-- ---- what is of a window to come

-- Its windows are in time, and nothing was accepted for a window that is not open yet.
pub record Runs (facts : SeasonFacts) (state : State) : Type 0 where
  pub time : IsInTime facts state
  pub answers : (window id : ℕ) → state.now < window → in_window window (rows_of id state.answers) ≡ []
  pub raises : (window : ℕ) → state.now < window → raised_before window state.raises ≡ state.raises

runs_at_first : (facts : SeasonFacts) → Runs facts opening
runs_at_first facts = record { time = at_first facts; answers = λ window id later. refl; raises = λ window later. refl }

-- in a later window, with the same answers and raises
runs_later : (facts : SeasonFacts) (old new : State) → IsInTime facts new → new.answers ≡ old.answers → new.raises ≡ old.raises → new.now ≡ old.now + 1 → Runs facts old → Runs facts new
runs_later facts old new time answers raises now here = record {
  time = time;
  answers = λ window id later. ap (λ (rows : List AnswerRow). in_window window (rows_of id rows)) answers ∙ here.answers window id (omega (arith, now, later));
  raises = λ window later. ap (raised_before window) raises ∙ (here.raises window (omega (arith, now, later)) ∙ sym raises);
}

runs_on : (facts : SeasonFacts) (old new : State) (act : Act) → IsInTime facts new → Runs facts old → Follows facts old act new → Runs facts new
runs_on facts old new act time here (Answered row asks is accepts same) =
    let opened = (is_open old.now facts.rounds row.window accepts.opened).0 in
    let now : new.now ≡ old.now = ap (λ (s : State). s.now) same in
    record {
      time = time;
      answers = λ window id later.
          ap (λ (s : State). in_window window (rows_of id s.answers)) same
          ∙ (window_same window id old.answers row (λ own at. omega (arith, opened, now, at, later)) ∙ here.answers window id (omega (arith, now, later)));
      raises = λ window later. ap (λ (s : State). raised_before window s.raises) same ∙ (here.raises window (omega (arith, now, later)) ∙ ap (λ (s : State). s.raises) (sym same));
    }
runs_on facts old new act time here (Raised row code asks found known is accepts same) =
    let opened = (is_open old.now facts.rounds row.window accepts.opened).0 in
    let now : new.now ≡ old.now = ap (λ (s : State). s.now) same in
    record {
      time = time;
      answers = λ window id later. ap (λ (s : State). in_window window (rows_of id s.answers)) same ∙ here.answers window id (omega (arith, now, later));
      raises = λ window later.
          ap (λ (s : State). raised_before window s.raises) same
          ∙ (before_more window old.raises row (omega (arith, opened, now, later))
          ∙ (ap (λ (rows : List RaiseRow). rows ++ row ∷ []) (here.raises window (omega (arith, now, later))) ∙ ap (λ (s : State). s.raises) (sym same)));
    }
runs_on facts old new act time here (Publishes window round asks is cuts less next same) =
    runs_later facts old new time (ap (λ (s : State). s.answers) same) (ap (λ (s : State). s.raises) same) (ap (λ (s : State). s.now) same) here
runs_on facts old new act time here (Finishes window asks is cuts last same) =
    runs_later facts old new time (ap (λ (s : State). s.answers) same) (ap (λ (s : State). s.raises) same) (ap (λ (s : State). s.now) same) here

-- ---- along a history

runs_follow : (facts : SeasonFacts) (old new : State) (act : Act) → Runs facts old → Follows facts old act new → Runs facts new
runs_follow facts old new act here follows = runs_on facts old new act (goes_on facts old new act here.time follows) here follows

-- what holds at first, and is kept by each entry where windows run so, holds after a history
pub along_windows : (facts : SeasonFacts) (P : State → Type 0) → P opening → ((old new : State) (act : Act) → Runs facts old → Runs facts new → P old → Follows facts old act new → P new)
    → (entries : List Entry) (state : State) → Reaches facts opening entries state → P state
along_windows facts P start keeps entries state reached =
    (along facts (λ s. Runs facts s × P s)
    (λ old new act here follows. let next = runs_follow facts old new act here.0 follows in (next, keeps old new act here.0 next here.1 follows)) entries opening state
    (runs_at_first facts, start) reached).1

pub runs_well : (facts : SeasonFacts) (entries : List Entry) (state : State) → Reaches facts opening entries state → Runs facts state
runs_well facts entries state reached = along facts (Runs facts) (runs_follow facts) entries opening state (runs_at_first facts) reached

pub windows_pass : (facts : SeasonFacts) → WindowsPass facts
windows_pass facts entries state reached = (runs_well facts entries state reached).time
