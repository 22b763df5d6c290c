use Rattle.std.proofs.Common.{length, refl}
use Rattle.std.proofs.lemmas.Option.{slice_get_read}
use Rattle.apply_engine.proofs.SeatLemmas.{decide_shown, one_programme_more}
use Rattle.round_laws.proofs.People.{distinct_of_rising}
use Rattle.apply_engine.proofs.seating.put_all.Goals as goal

pub put_programme-requires-clause-of_people : goal.put_programme-requires-clause-of_people
put_programme-requires-clause-of_people c =
    let programmes = c.args.programmes.now in
    let there = slice_get_read programmes (length programmes) c.loop-prog.prog c.index-programmes-prog.result refl c.loop-prog-test.true c.index-programmes-prog.is in
    λ kind. c.requires.shown.of_people c.loop-prog.prog c.index-programmes-prog.result kind there

pub put_programme-requires-clause-once : goal.put_programme-requires-clause-once
put_programme-requires-clause-once c =
    let programmes = c.args.programmes.now in
    let there = slice_get_read programmes (length programmes) c.loop-prog.prog c.index-programmes-prog.result refl c.loop-prog-test.true c.index-programmes-prog.is in
    λ person kind other first second. (c.requires.shown.once c.loop-prog.prog c.loop-prog.prog _ _ person kind other there there first second).1

pub loop-prog-preserved : goal.loop-prog-preserved
loop-prog-preserved c =
    let programmes = c.args.programmes.now in
    let p = c.loop-prog.prog in
    let programme = c.index-programmes-prog.result in
    let there = slice_get_read programmes (length programmes) p programme refl c.loop-prog-test.true c.index-programmes-prog.is in
    let distinct = distinct_of_rising c.args.register.now.people c.people-people.ensures.ranks.rising in
    one_programme_more c.args.register.now.people programmes p programme c.loop-prog.seats c.put_programme.new.seats c.requires.shown there c.loop-prog.invariant c.put_programme.ensures
    (λ i person seat at has. decide_shown c.args.register.now.people programme i person distinct (λ kind. c.requires.shown.of_people p programme kind there) at)
