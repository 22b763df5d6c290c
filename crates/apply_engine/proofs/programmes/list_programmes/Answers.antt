use Rattle.std.proofs.Common.{◌≡◌, ◌<◌, List, Some, ap, arith, refl, length, subst}
use Rattle.std.specs.Prelude.{slice_get}
use Rattle.std.proofs.lemmas.Option.{slice_get_read}
use Rattle.allocations.specs.Course.{tried}
use Rattle.open_then_category.specs.State.{ProgrammeKept}
use Rattle.apply_engine.specs.Engine.{seekers_in}
use Rattle.apply_engine.proofs.Finishing.{have_come, shows_tried}
use Rattle.apply_engine.proofs.Pushing.{listed_more}
use Rattle.apply_engine.proofs.programmes.list_programmes.Goals as goal

pub lists_of-requires : goal.lists_of-requires
lists_of-requires g c =
    let prog = c.loop-prog.prog in
    let states = c.deref-state-items.result.now in
    let there = slice_get_read states (length states) prog c.state-item.result refl c.loop-prog-test.true c.state-item.is in
    let at = subst (λ (l : List ProgrammeKept). slice_get l prog ≡ Some c.state-item.result) c.deref-state-items.ensures.value there in
    let tallies = c.args.applied.now.tallies.items in
    let less : prog < length tallies = (let size = ap length c.deref-state-items.ensures.value in omega (arith, size, c.loop-prog-test.true, c.requires.shows.full, c.requires.tallied.full)) in
    let tally = slice_get_read tallies (length tallies) prog c.index.result.now refl less c.index.ensures in
    (tried prog (seekers_in g.over) c.args.applied.now.next.items, have_come g.over _ _ _ prog _ _ c.requires at tally)

pub loop-prog-preserved : goal.loop-prog-preserved
loop-prog-preserved g c =
    let prog = c.loop-prog.prog in
    let states = c.deref-state-items.result.now in
    let there = slice_get_read states (length states) prog c.state-item.result refl c.loop-prog-test.true c.state-item.is in
    let at = subst (λ (l : List ProgrammeKept). slice_get l prog ≡ Some c.state-item.result) c.deref-state-items.ensures.value there in
    let tallies = c.args.applied.now.tallies.items in
    let less : prog < length tallies = (let size = ap length c.deref-state-items.ensures.value in omega (arith, size, c.loop-prog-test.true, c.requires.shows.full, c.requires.tallied.full)) in
    let tally = slice_get_read tallies (length tallies) prog c.index.result.now refl less c.index.ensures in
    let come = have_come g.over _ _ _ prog _ _ c.requires at tally in
    let shown = shows_tried g.over _ _ _ prog _ c.in_ok-programme.programme c.requires at (c.in_ok-programme.ensures (tried prog (seekers_in g.over) c.args.applied.now.next.items) come) in
    listed_more g.over _ prog _ _ _ c.loop-prog.invariant c.in_ok-push.ensures.items shown
