use Rattle.std.proofs.Common.{◌≡◌, ◌∙◌, List, None, length, take, ap, rules, sym}
use Rattle.std.specs.Prelude.{replicate}
use Rattle.std.proofs.lemmas.List.{length-map, take_more}
use Rattle.office_base.proofs.Lists.{whole_again}
use Rattle.office_base.specs.declared.person.Person.{Person}
use Rattle.kept_rows.specs.declared.rows.AllotRow.{AllotRow}
use Rattle.audit_rules.specs.Papers.{seat_told, seats_told}
use Rattle.audit_rules.proofs.SeatsOfRows.{none_along}
use Rattle.audit_rules.proofs.told.seats_told.Goals as goal

pub loop-row-init : goal.loop-row-init
loop-row-init c =
    let none : c.in_ok-seats.seats.items ≡ replicate (length c.people.result.now) None = search rules in
    none ∙ none_along (length c.people.result.now) c.args.register.now.people (ap length c.people.ensures.same)

pub put_row-requires : goal.put_row-requires
put_row-requires c =
    ap length (c.deref_mut.ensures.value ∙ c.loop-row.invariant)
    ∙ length-map c.args.register.now.people (λ (p : Person). seat_told (take c.loop-row.row-index c.args.rows.now) p.id.0)

pub loop-row-preserved : goal.loop-row-preserved
loop-row-preserved c =
    let people = c.args.register.now.people in
    let done = take c.loop-row.row-index c.args.rows.now in
    let old = c.deref_mut.ensures.value ∙ c.loop-row.invariant in
    let full : length c.put_row.new.seats ≡ length c.loop-row.seats.items =
    c.put_row.ensures.full ∙ sym (ap length c.loop-row.invariant ∙ length-map people (λ (p : Person). seat_told done p.id.0)) in
    whole_again c.put_row.new.seats c.loop-row.seats.items c.loop-row.seats.len full c.loop-row.seats.ok.0
    ∙ (c.put_row.ensures.told done old ∙ ap (λ (z : List AllotRow). seats_told z people) (sym (take_more c.args.rows.now c.loop-row.row-index _ c.loop-row-test.true)))
