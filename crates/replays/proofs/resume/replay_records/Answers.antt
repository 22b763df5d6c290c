use Rattle.std.proofs.Common.{◌∙◌, List, ℕ, ap, subst, sym}
use Rattle.std.proofs.lemmas.Result.{err_from_is_err_and}
use Rattle.season_file.specs.Season.{IsSeason}
use Rattle.office_moves.specs.Facts.{SeasonFacts}
use Rattle.office_moves.specs.Stands.{AreRecordsOf}
use Rattle.replays.specs.Faults.{IsReplayFault}
use Rattle.replays.specs.Replay.{IsReplayed}
use Rattle.season_file.specs.Season.{IsSeasonFault}
use Rattle.std.specs.Prelude.{false}
use Rattle.replays.specs.Resume.{HaveStopped}
use Rattle.replays.specs.declared.resume.Unresumed.{Unresumed}
use Rattle.replays.proofs.Resumed.{rows_fault, text_fault}
use Rattle.replays.proofs.resume.replay_records.Goals as goal

pub returns-in-Ok-replay-clause-led : goal.returns-in-Ok-replay-clause-led
returns-in-Ok-replay-clause-led c = record {
  season = c.in_ok-season.season;
  read = subst (λ (b : List ℕ). IsSeason b c.in_ok-season.season) c.as_slice.ensures c.in_ok-season.ensures.value;
  same = c.in-Ok-replay.ensures.season ∙ c.in-Ok.ensures.season;
  replayed = subst (λ (f : SeasonFacts). IsReplayed f c.args.records.now c.replay.new.book.state) (sym c.in-Ok-replay.ensures.season) c.in-Ok-replay.ensures.replayed;
}

pub returns-in-Ok-replay-clause-stands : goal.returns-in-Ok-replay-clause-stands
returns-in-Ok-replay-clause-stands c =
    subst (λ (f : SeasonFacts). AreRecordsOf f c.replay.new.book.state c.args.records.now) (sym c.in-Ok-replay.ensures.season)
    (c.in-Ok-replay.ensures.stands (sym (ap (λ (f : SeasonFacts). f.text) c.in-Ok.ensures.season ∙ (c.in_ok-season.ensures.value.text ∙ c.as_slice.ensures))))

pub returns-in_err-season-clause-fault : goal.returns-in_err-season-clause-fault
returns-in_err-season-clause-fault c =
    let p = err_from_is_err_and c.from_residual.result c.from_residual.ensures.1 in
    rw (p.1, p.2) (text_fault c.args.records.now c.in_err-season.field-0.0 (subst (λ (b : List ℕ). IsSeasonFault false b c.in_err-season.field-0.0) c.as_slice.ensures c.in_err-season.ensures.fault))

pub returns-in-Err-clause-fault : goal.returns-in-Err-clause-fault
returns-in-Err-clause-fault c =
    subst (λ (why : Unresumed). HaveStopped c.args.records.now why) (sym c.of.ensures)
    (rows_fault c.args.records.now c.in_ok-season.season c.into_season.result c.in-Err.fault (subst (λ (b : List ℕ). IsSeason b c.in_ok-season.season) c.as_slice.ensures c.in_ok-season.ensures.value)
    (c.into_season.ensures ∙ (c.in-Err.ensures.season ∙ c.in-Ok.ensures.season)) (subst (λ (f : SeasonFacts). IsReplayFault f c.args.records.now c.in-Err.fault) c.in-Ok.ensures.season c.in-Err.ensures.fault))
