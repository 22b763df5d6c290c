use Rattle.std.proofs.Common.{◌≡◌, ◌∙◌, List, Some, None, length, get_or, arith, ap, subst, sym}
use Rattle.std.proofs.lemmas.Option.{slice_get-get_or}
use Rattle.office_base.proofs.Lists.{whole_again}
use Rattle.office_base.specs.declared.person.Person.{Person}
use Rattle.season_facts.specs.Season.{facts_of}
use Rattle.audit_rules.specs.Cut.{Differ}
use Rattle.audit_rules.proofs.Listing.{miss_within, walk_is, walked, walked_to}
use Rattle.audit_rules.proofs.Seeking.{full_seats, nobody_there}
use Rattle.audit_rules.proofs.unlisted.first_unlisted.Goals as goal

pub offset_bounds-people-miss : goal.offset_bounds-people-miss
offset_bounds-people-miss g c =
    let facts = facts_of c.args.season.now in
    let marking = c.mark-wrong.ensures in
    let marked = marking.marked.full in
    let long = c.in_ok-marks.ensures.len in
    let whole = c.in_ok-marks.marks.ok.0 in
    let seats = full_seats facts g.at c.args.matrix.now c.args.stands.now c.args.seats.now c.requires.0 in
    let full : length c.mark-wrong.new.marks ≡ length c.in_ok-marks.marks.items = omega (arith, marked, long, whole, seats) in
    let w = walk_is facts g.at c.args.matrix.now c.args.stands.now c.args.seats.now c.args.lists.now c.deref.result.now c.mark-wrong.new.marks c.deref-2.result.now c.mark-wrong.result (Some c.in-Some.miss)
    c.requires.0 c.requires.1.0 c.requires.1.1 (c.deref.ensures.value ∙ c.in_ok-all.ensures) marking
    (c.deref-2.ensures.value ∙ whole_again c.mark-wrong.new.marks c.in_ok-marks.marks.items c.in_ok-marks.marks.len full whole)
    (c.in-Some.ensures c.args.season.now.register.people c.deref.result.now) in
    let within = miss_within facts g.at c.args.seats.now c.args.lists.now c.deref-2.result.now c.in-Some.miss w in
    omega (arith, within, ap length c.people.ensures.same, c.people.type_inv.1)

pub bounds-people-miss : goal.bounds-people-miss
bounds-people-miss g c =
    let facts = facts_of c.args.season.now in
    let marking = c.mark-wrong.ensures in
    let marked = marking.marked.full in
    let long = c.in_ok-marks.ensures.len in
    let whole = c.in_ok-marks.marks.ok.0 in
    let seats = full_seats facts g.at c.args.matrix.now c.args.stands.now c.args.seats.now c.requires.0 in
    let full : length c.mark-wrong.new.marks ≡ length c.in_ok-marks.marks.items = omega (arith, marked, long, whole, seats) in
    let w = walk_is facts g.at c.args.matrix.now c.args.stands.now c.args.seats.now c.args.lists.now c.deref.result.now c.mark-wrong.new.marks c.deref-2.result.now c.mark-wrong.result (Some c.in-Some.miss)
    c.requires.0 c.requires.1.0 c.requires.1.1 (c.deref.ensures.value ∙ c.in_ok-all.ensures) marking
    (c.deref-2.ensures.value ∙ whole_again c.mark-wrong.new.marks c.in_ok-marks.marks.items c.in_ok-marks.marks.len full whole)
    (c.in-Some.ensures c.args.season.now.register.people c.deref.result.now) in
    let within = miss_within facts g.at c.args.seats.now c.args.lists.now c.deref-2.result.now c.in-Some.miss w in
    omega (arith, within, ap length c.people.ensures.same)

pub returns-in-Some : goal.returns-in-Some
returns-in-Some g c =
    let facts = facts_of c.args.season.now in
    let marking = c.mark-wrong.ensures in
    let marked = marking.marked.full in
    let long = c.in_ok-marks.ensures.len in
    let whole = c.in_ok-marks.marks.ok.0 in
    let seats = full_seats facts g.at c.args.matrix.now c.args.stands.now c.args.seats.now c.requires.0 in
    let full : length c.mark-wrong.new.marks ≡ length c.in_ok-marks.marks.items = omega (arith, marked, long, whole, seats) in
    let w = walk_is facts g.at c.args.matrix.now c.args.stands.now c.args.seats.now c.args.lists.now c.deref.result.now c.mark-wrong.new.marks c.deref-2.result.now c.mark-wrong.result (Some c.in-Some.miss)
    c.requires.0 c.requires.1.0 c.requires.1.1 (c.deref.ensures.value ∙ c.in_ok-all.ensures) marking
    (c.deref-2.ensures.value ∙ whole_again c.mark-wrong.new.marks c.in_ok-marks.marks.items c.in_ok-marks.marks.len full whole)
    (c.in-Some.ensures c.args.season.now.register.people c.deref.result.now) in
    let within = miss_within facts g.at c.args.seats.now c.args.lists.now c.deref-2.result.now c.in-Some.miss w in
    subst (λ (z : List Person). Differ facts g.at.papers g.at.state c.in-Some.miss.prog (get_or z c.in-Some.miss.at nobody_there).id) (sym c.people.ensures.same)
    (walked_to facts g.at c.args.seats.now c.args.lists.now c.deref-2.result.now c.in-Some.miss (get_or c.args.season.now.register.people c.in-Some.miss.at nobody_there) w
    (slice_get-get_or c.args.season.now.register.people c.in-Some.miss.at nobody_there within))

pub returns : goal.returns
returns g c =
    let facts = facts_of c.args.season.now in
    let marking = c.mark-wrong.ensures in
    let marked = marking.marked.full in
    let long = c.in_ok-marks.ensures.len in
    let whole = c.in_ok-marks.marks.ok.0 in
    let seats = full_seats facts g.at c.args.matrix.now c.args.stands.now c.args.seats.now c.requires.0 in
    let full : length c.mark-wrong.new.marks ≡ length c.in_ok-marks.marks.items = omega (arith, marked, long, whole, seats) in
    let w = walk_is facts g.at c.args.matrix.now c.args.stands.now c.args.seats.now c.args.lists.now c.deref.result.now c.mark-wrong.new.marks c.deref-2.result.now c.mark-wrong.result None
    c.requires.0 c.requires.1.0 c.requires.1.1 (c.deref.ensures.value ∙ c.in_ok-all.ensures) marking
    (c.deref-2.ensures.value ∙ whole_again c.mark-wrong.new.marks c.in_ok-marks.marks.items c.in_ok-marks.marks.len full whole)
    (c.in-None.ensures c.args.season.now.register.people c.deref.result.now) in
    walked facts g.at c.args.seats.now c.args.lists.now c.deref-2.result.now w
