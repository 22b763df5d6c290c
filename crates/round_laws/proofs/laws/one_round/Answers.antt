use Rattle.round_laws.proofs.OneRound as rounds
use Rattle.round_laws.proofs.laws.one_round.Goals as goal

pub returns : goal.returns
returns c = rounds.one_round (record { well = c.choose_well.ensures; one = c.one_programme_choice.ensures; once = c.admitted_once.ensures; certificate = c.one_certificate.ensures })
