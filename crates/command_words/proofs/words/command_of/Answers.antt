use Rattle.command_words.proofs.Spelling.{read_four, read_one, read_six, read_three, read_two}
use Rattle.command_words.proofs.words.command_of.Goals as goal

pub returns-in_default-first-clause-some : goal.returns-in_default-first-clause-some
returns-in_default-first-clause-some c =
    (read_one c.args.parts c.in-Some.name c.read_name.result c.in-Some.is c.in_default-first.is c.read_name.ensures.command c.read_name.ensures.none).some

pub returns-in_default-second-clause-some : goal.returns-in_default-second-clause-some
returns-in_default-second-clause-some c =
    (read_two c.args.parts c.in-Some.name c.in-Some-first.first c.read_store.result c.in-Some.is c.in-Some-first.is c.in_default-second.is c.read_store.ensures.command c.read_store.ensures.none).some

pub returns-in_default-third-clause-some : goal.returns-in_default-third-clause-some
returns-in_default-third-clause-some c =
    (read_three c.args.parts c.in-Some.name c.in-Some-first.first c.in-Some-second.second c.read_lists.result c.in-Some.is c.in-Some-first.is c.in-Some-second.is c.in_default-third.is c.read_lists.ensures.command
    c.read_lists.ensures.none).some

pub returns-in_default-fourth-clause-some : goal.returns-in_default-fourth-clause-some
returns-in_default-fourth-clause-some c =
    (read_four c.args.parts c.in-Some.name c.in-Some-first.first c.in-Some-second.second c.in-Some-third.third c.read_season.result c.in-Some.is c.in-Some-first.is c.in-Some-second.is c.in-Some-third.is
    c.in_default-fourth.is c.read_season.ensures.command c.read_season.ensures.none).some

pub returns-clause-some : goal.returns-clause-some
returns-clause-some c =
    (read_six c.args.parts c.in-Some.name c.in-Some-first.first c.in-Some-second.second c.in-Some-third.third c.in-Some-fourth.fourth c.in-Some-fifth.fifth c.read_service.result c.in-Some.is c.in-Some-first.is
    c.in-Some-second.is c.in-Some-third.is c.in-Some-fourth.is c.in-Some-fifth.is c.read_service.ensures.command c.read_service.ensures.none).some
