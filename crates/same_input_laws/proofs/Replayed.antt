-- A history leads to the state to which kept records are replayed.
use Rattle.std.proofs.Common.{◌≡◌, ◌+◌, inl, inr, ℕ, zero, suc, Bool, true, false, List, [], ◌∷◌, Ok, Err, arith, refl, sym, subst, ◌==◌, if◌then◌else◌}
use Rattle.std.specs.Prelude.{map}
use Rattle.std.proofs.lemmas.Bool.{cases_lt}
use Rattle.office_base.specs.Numbered.{last_of_numbers}
use Rattle.office_asks.specs.declared.ask.Request.{Request}
use Rattle.kept_rows.specs.declared.rows.Kept.{Kept}
use Rattle.office_moves.specs.Decided.{decided}
use Rattle.office_moves.specs.Facts.{IsSound, SeasonFacts}
use Rattle.office_moves.specs.History.{IsHistory, asked, grown, newly}
use Rattle.office_moves.specs.Moves.{IsMove}
use Rattle.office_moves.specs.State.{State}
use Rattle.office_moves.specs.declared.moves.Act.{Act}
use Rattle.office_moves.specs.declared.moves.Act.TheVariants.{Answer, Raise, Cut}
use Rattle.office_moves.specs.declared.moves.Reply.{Reply}
use Rattle.history_laws.specs.Laws.{HistoryGrows}
use Rattle.replays.specs.Replay.{IsReplayed, Pass, RowsPass, rows_replayed, takes, window_of, with_act}
use Rattle.replays.proofs.Passed.{closes_by, stays_by}
use Rattle.replays.proofs.RowLemmas.{row_moves}

-- a history leads to this state
abbrev pub HasHistory : SeasonFacts → State → Type 0
HasHistory facts state = (entries : List _) × IsHistory facts entries state

module _ (facts : SeasonFacts) (grows : HistoryGrows facts) (sound : IsSound facts) where
  history_more : (old new : State) (request : Request) (reply : Reply) → HasHistory facts old → IsMove facts old request reply new → HasHistory facts new
  history_more old new request reply there moves =
      let number = last_of_numbers (map (λ entry. entry.number) there.0) + 1 in
      (grown there.0 number (newly old.now (decided facts old request)), grows there.0 old new request reply number there.1 (omega arith) moves)

  history_rows : (window place : ℕ) (rows : List Act) (old new : State) → HasHistory facts old → rows_replayed facts window place rows old ≡ Ok new → HasHistory facts new
  history_rows window place [] old new there e = let same : old ≡ new = cc e in subst (λ (s : State). HasHistory facts s) same there
  history_rows window place (row ∷ rows) old new there e =
      step (window_of row == window) (takes facts old row) refl (history_rows window (place + 1) rows old new there) (history_rows window (place + 1) rows (with_act old row) new) e
    where
      step : (b t : Bool) → takes facts old row ≡ t → (rows_replayed facts window (place + 1) rows old ≡ Ok new → HasHistory facts new)
          → (HasHistory facts (with_act old row) → rows_replayed facts window (place + 1) rows (with_act old row) ≡ Ok new → HasHistory facts new)
          → (if b then (if t then rows_replayed facts window (place + 1) rows (with_act old row) else Err place) else rows_replayed facts window (place + 1) rows old) ≡ Ok new
          → HasHistory facts new
      step true true taken past on e =
          let (reply, accepted, moves) = row_moves facts old row sound.seats taken in on (history_more old (with_act old row) (asked facts row) reply there moves) e
      step true false taken past on e = absurd (cc e)
      step false t taken past on e = past e

  history_window : (kept : Kept) (window : ℕ) (old last : State) → HasHistory facts old → RowsPass facts kept window old last → HasHistory facts last
  history_window kept window old last there rows =
      history_rows window 1 (map Answer kept.answers) rows.raised last (history_rows window 1 (map Raise kept.raises) old rows.raised there rows.raises) rows.answers

  history_pass : (kept : Kept) (windows : ℕ) (state : State) → Pass facts kept windows state → HasHistory facts state
  history_pass kept zero state pass = ([], record { numbers = refl; reached = pass })
  history_pass kept (suc window) state pass =
      let last = history_window kept window pass.0 pass.2.last (history_pass kept window pass.0 pass.1) pass.2.rows in
      elim (cases_lt window kept.cuts) [
        | inl less ↦
            let cut = (closes_by facts kept window pass.2.last state less pass.2.close).0 in history_more pass.2.last state (asked facts (Cut pass.2.last.now)) cut.reply last cut.moves
        | inr past ↦ subst (λ (s : State). HasHistory facts s) (sym (stays_by facts kept window pass.2.last state past pass.2.close)) last
      ]

  -- A history leads to the state to which records were replayed.
  pub history_replayed : (kept : Kept) (state : State) → IsReplayed facts kept state → HasHistory facts state
  history_replayed kept state replayed = history_pass kept (suc kept.cuts) state (replayed.passed (suc kept.cuts) (omega arith))
