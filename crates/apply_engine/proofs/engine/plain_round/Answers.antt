use Rattle.std.proofs.Common.{◌∙◌, List, Option, subst}
use Rattle.std.proofs.lemmas.Result.{IfOk-weaker}
use Rattle.office_base.specs.declared.person.ProgId.{ProgId}
use Rattle.rounds.specs.Round.{IsRound}
use Rattle.rounds.specs.Rule.{guarantees}
use Rattle.apply_engine.specs.Engine.{lists_in}
use Rattle.apply_engine.proofs.Nobody.{plain_is}
use Rattle.apply_engine.proofs.engine.plain_round.Goals as goal

pub returns : goal.returns
returns c =
    let season = c.args.season.now in
    let none = c.deref.ensures.value ∙ c.in_ok-guaranteed.ensures in
    record {
      round = IfOk-weaker c.plain_round_with.result _ _
          (λ round is. plain_is season.version c.args.number _ c.args.matrix.now season.register.people (lists_in season.choices) c.args.seeks round
          (subst (λ (g : List (Option ProgId)). IsRound season.version (guarantees season.register.people g) c.args.matrix.now season.register.people (lists_in season.choices) c.args.number c.args.seeks round) none is))
          c.plain_round_with.ensures.round;
    }
