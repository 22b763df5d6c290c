use Rattle.office_commands.proofs.FirstLook.{is_the_office}
use Rattle.office_commands.proofs.laws.a_first_look_is_the_office.Goals as goal

pub returns : goal.returns
returns c = is_the_office c.one_spelling.ensures
