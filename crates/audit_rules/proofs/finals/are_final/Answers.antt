use Rattle.std.proofs.Common.{◌≡◌, ◌<◌, ◌+◌, ◌∙◌, ℕ, Bool, List, Some, None, length, get_or, arith, ap, subst, sym, true, false, if◌then◌else◌}
use Rattle.std.specs.Prelude.{slice_get}
use Rattle.std.proofs.lemmas.Option.{get_or_from_slice_get, slice_get-get_or, slice_get_within}
use Rattle.office_base.specs.declared.seat.Seat.{Seat}
use Rattle.office_base.specs.declared.person.CandId.{CandId}
use Rattle.office_base.specs.declared.person.Person.{Person}
use Rattle.kept_rows.specs.declared.rows.AllotRow.{AllotRow}
use Rattle.round_options.specs.Options.{holds}
use Rattle.office_moves.specs.Facts.{SeasonFacts}
use Rattle.office_moves.specs.Moves.{final_seat}
use Rattle.office_moves.specs.State.{State}
use Rattle.season_facts.specs.Season.{facts_of}
use Rattle.audit_rules.specs.Stands.{stand_of}
use Rattle.audit_rules.specs.declared.stand.Stand.{Stand}
use Rattle.audit_rules.proofs.RegisterLists.{read_at}
use Rattle.audit_rules.proofs.Ending.{ends_with, ends_without, must_be}
use Rattle.audit_rules.proofs.Seeking.{nobody_there}
use Rattle.audit_rules.proofs.finals.are_final.Goals as goal

-- the seat that a candidate keeps, by whether the standing keeps one
kept : (facts : SeasonFacts) (state : State) (id : ℕ) (stand : Stand) (holding : Bool) → stand ≡ stand_of facts state id → holding ≡ holds stand.standing
    → final_seat facts state id ≡ (if holding then stand.seat else None)
kept facts state id stand holding same is = sym (ap (λ (s : Stand). if holds s.standing then s.seat else None) same) ∙ ap (λ (b : Bool). if b then stand.seat else None) (sym is)

pub loop-k-preserved-then-not-holds : goal.loop-k-preserved-then-not-holds
loop-k-preserved-then-not-holds g c =
    let facts = facts_of c.args.season.now in
    let people = c.args.season.now.register.people in
    let less : c.loop-k.k < length people = omega (arith, c.loop-k-test.true, ap length c.people-person-items.ensures.same) in
    let stand = read_at (λ (p : Person). stand_of facts g.state p.id.0) people c.args.stands.now c.loop-k.k _ nobody_there c.requires less in
    let none = kept facts g.state (get_or people c.loop-k.k nobody_there).id.0 _ false stand (sym c.if-not-holds.true ∙ c.holds.ensures) in
    ends_without (c.args.season.now.rounds + 1) (final_seat facts g.state) people c.args.rows.now c.loop-k.k c.loop-k.next nobody_there c.loop-k.invariant less none

pub loop-k-preserved-in_default : goal.loop-k-preserved-in_default
loop-k-preserved-in_default g c =
    let facts = facts_of c.args.season.now in
    let people = c.args.season.now.register.people in
    let less : c.loop-k.k < length people = omega (arith, c.loop-k-test.true, ap length c.people-person-items.ensures.same) in
    let stand = read_at (λ (p : Person). stand_of facts g.state p.id.0) people c.args.stands.now c.loop-k.k _ nobody_there c.requires less in
    let none = kept facts g.state (get_or people c.loop-k.k nobody_there).id.0 _ true stand (sym c.if-not-holds.false ∙ c.holds.ensures) ∙ c.in_default.is in
    ends_without (c.args.season.now.rounds + 1) (final_seat facts g.state) people c.args.rows.now c.loop-k.k c.loop-k.next nobody_there c.loop-k.invariant less none

-- the seat that the rows have to go on with
abbrev IsRow : List AllotRow → ℕ → ℕ → CandId → Seat → Type 0
IsRow rows next round cand seat = slice_get rows next ≡ Some (record { round = round; cand = cand; prog = seat.prog; step = seat.step })

pub returns-then-next-rows : goal.returns-then-next-rows
returns-then-next-rows g c =
    let facts = facts_of c.args.season.now in
    let people = c.args.season.now.register.people in
    let less : c.loop-k.k < length people = omega (arith, c.loop-k-test.true, ap length c.people-person-items.ensures.same) in
    let stand = read_at (λ (p : Person). stand_of facts g.state p.id.0) people c.args.stands.now c.loop-k.k _ nobody_there c.requires less in
    let held = kept facts g.state (get_or people c.loop-k.k nobody_there).id.0 _ true stand (sym c.if-not-holds.false ∙ c.holds.ensures) ∙ c.in-Some.is in (
      (λ e. absurd (let wrong : false ≡ true = e in cc)),
      (λ all.
          let on = must_be (c.args.season.now.rounds + 1) (final_seat facts g.state) people c.args.rows.now c.loop-k.k c.loop-k.next nobody_there c.in-Some.seat c.loop-k.invariant less held all in
          let inside = slice_get_within c.args.rows.now c.loop-k.next _ on in
          absurd (omega (arith, inside))),
    )

pub returns-then-not-is_row : goal.returns-then-not-is_row
returns-then-not-is_row g c =
    let facts = facts_of c.args.season.now in
    let people = c.args.season.now.register.people in
    let same = c.people-person-items.ensures.same in
    let less : c.loop-k.k < length people = omega (arith, c.loop-k-test.true, ap length same) in
    let stand = read_at (λ (p : Person). stand_of facts g.state p.id.0) people c.args.stands.now c.loop-k.k _ nobody_there c.requires less in
    let held = kept facts g.state (get_or people c.loop-k.k nobody_there).id.0 _ true stand (sym c.if-not-holds.false ∙ c.holds.ensures) ∙ c.in-Some.is in (
      (λ e. absurd (let wrong : false ≡ true = e in cc)),
      (λ all.
          let on = must_be (c.args.season.now.rounds + 1) (final_seat facts g.state) people c.args.rows.now c.loop-k.k c.loop-k.next nobody_there c.in-Some.seat c.loop-k.invariant less held all in
          let on' = subst (λ (z : List Person). IsRow c.args.rows.now c.loop-k.next (c.args.season.now.rounds + 1) (get_or z c.loop-k.k nobody_there).id c.in-Some.seat) (sym same) on in
          absurd (let yes' = c.is_row.ensures.1 (get_or_from_slice_get c.args.rows.now c.loop-k.next _ _ on') in let no' = c.if-not-is_row.true in cc)),
    )

pub loop-k-preserved : goal.loop-k-preserved
loop-k-preserved g c =
    let facts = facts_of c.args.season.now in
    let people = c.args.season.now.register.people in
    let same = c.people-person-items.ensures.same in
    let less : c.loop-k.k < length people = omega (arith, c.loop-k-test.true, ap length same) in
    let stand = read_at (λ (p : Person). stand_of facts g.state p.id.0) people c.args.stands.now c.loop-k.k _ nobody_there c.requires less in
    let held = kept facts g.state (get_or people c.loop-k.k nobody_there).id.0 _ true stand (sym c.if-not-holds.false ∙ c.holds.ensures) ∙ c.in-Some.is in
    let on = subst (λ (z : List Person). IsRow c.args.rows.now c.loop-k.next (c.args.season.now.rounds + 1) (get_or z c.loop-k.k nobody_there).id c.in-Some.seat) same
    (slice_get-get_or c.args.rows.now c.loop-k.next _ (omega arith) ∙ ap Some (c.is_row.ensures.0 c.if-not-is_row.false)) in
    ends_with (c.args.season.now.rounds + 1) (final_seat facts g.state) people c.args.rows.now c.loop-k.k c.loop-k.next nobody_there c.in-Some.seat c.loop-k.invariant less held on
