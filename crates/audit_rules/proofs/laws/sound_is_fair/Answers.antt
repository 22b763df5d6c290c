use Rattle.audit_rules.proofs.FairSeasons
use Rattle.audit_rules.proofs.laws.sound_is_fair.Goals as goal

pub returns : goal.returns
returns c =
    FairSeasons.sound_is_fair c.one_step_changes.ensures (record { sound = c.sound_lists.ensures; one = c.one_programme_choice.ensures; well = c.choose_well.ensures })
    c.every_text_is_taken.ensures
