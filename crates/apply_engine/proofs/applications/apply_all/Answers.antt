use Rattle.std.proofs.Common.{◌≡◌, ◌+◌, ◌∙◌, ℕ, List, length, sym, subst, ap, rules}
use Rattle.std.specs.Prelude.{replicate, sum}
use Rattle.office_base.proofs.Lists.{whole_again}
use Rattle.open_then_category.specs.State.{ProgrammeKept}
use Rattle.open_then_category.specs.declared.kept_lists.Tried.{Tried}
use Rattle.apply_engine.specs.Engine.{AreBegun, AreUntried}
use Rattle.apply_engine.proofs.Ending.{at_most, ended, enters, enters_untried, exactly, run_again}
use Rattle.apply_engine.proofs.applications.apply_all.Goals as goal

pub apply_in_order-requires : goal.apply_in_order-requires
apply_in_order-requires g c = λ κs within.
    let zeros = c.deref_mut-3.ensures.value ∙ (c.in_ok-next.ensures.items_if_clones_equal (λ y h. search rules) ∙ ap (λ (n : ℕ). replicate n 0) c.len.ensures) in (
      λ a member. within a member,
      (
        enters g.over _ _ _ _ _ _ _ c.requires.1 (subst (λ (states : List ProgrammeKept). AreBegun c.args.version c.args.matrix.now states) (sym c.deref_mut.ensures.value) c.in_ok-states.ensures) zeros,
        enters_untried g.over _ _ _ _ _ _ _ c.requires.1 (subst (λ (tallies : List Tried). AreUntried c.args.matrix.now tallies) (sym c.deref_mut-2.ensures.value) c.in_ok-tallies.ensures) zeros,
      ),
    )

pub returns-clause-run : goal.returns-clause-run
returns-clause-run g c =
    let zeros = c.deref_mut-3.ensures.value ∙ (c.in_ok-next.ensures.items_if_clones_equal (λ y h. search rules) ∙ ap (λ (n : ℕ). replicate n 0) c.len.ensures) in
    let begun = enters g.over _ _ _ _ _ _ _ c.requires.1 (subst (λ (states : List ProgrammeKept). AreBegun c.args.version c.args.matrix.now states) (sym c.deref_mut.ensures.value) c.in_ok-states.ensures) zeros in
    let untried = enters_untried g.over _ _ _ _ _ _ _ c.requires.1 (subst (λ (tallies : List Tried). AreUntried c.args.matrix.now tallies) (sym c.deref_mut-2.ensures.value) c.in_ok-tallies.ensures) zeros in
    let after = c.apply_in_order.ensures.applied in
    let tallied = c.apply_in_order.ensures.tallied in
    let all = ended g.over _ _ _ _ _ _ _ _ _ _ _ c.requires.1 after tallied in
    let same : length c.apply_in_order.new.next ≡ length c.in_ok-next.next.items = after.going.underway.full ∙ (sym begun.going.underway.full ∙ ap length c.deref_mut-3.ensures.value) in
    let same_states : length c.apply_in_order.new.states ≡ length c.in_ok-states.states.items = after.going.shows.full ∙ (sym begun.going.shows.full ∙ ap length c.deref_mut.ensures.value) in
    let same_tallies : length c.apply_in_order.new.tallies ≡ length c.in_ok-tallies.tallies.items = tallied.full ∙ (sym untried.full ∙ ap length c.deref_mut-2.ensures.value) in
    let next = whole_again c.apply_in_order.new.next c.in_ok-next.next.items c.in_ok-next.next.len same c.in_ok-next.next.ok.0 in
    let states = whole_again c.apply_in_order.new.states c.in_ok-states.states.items c.in_ok-states.states.len same_states c.in_ok-states.states.ok.0 in
    let tallies = whole_again c.apply_in_order.new.tallies c.in_ok-tallies.tallies.items c.in_ok-tallies.tallies.len same_tallies c.in_ok-tallies.tallies.ok.0 in
    run_again g.over _ _ _ _ _ _ next states tallies all

pub returns-clause-cost : goal.returns-clause-cost
returns-clause-cost g c =
    at_most g.over _ _ _ _ _ _ _ _ _ _ _ c.requires.1 (c.deref_mut-3.ensures.value ∙ (c.in_ok-next.ensures.items_if_clones_equal (λ y h. search rules) ∙ ap (λ (n : ℕ). replicate n 0) c.len.ensures)) c.apply_in_order.ensures.applied

pub returns-clause-counted : goal.returns-clause-counted
returns-clause-counted g c =
    let zeros = c.deref_mut-3.ensures.value ∙ (c.in_ok-next.ensures.items_if_clones_equal (λ y h. search rules) ∙ ap (λ (n : ℕ). replicate n 0) c.len.ensures) in
    let begun = enters g.over _ _ _ _ _ _ _ c.requires.1 (subst (λ (states : List ProgrammeKept). AreBegun c.args.version c.args.matrix.now states) (sym c.deref_mut.ensures.value) c.in_ok-states.ensures) zeros in
    let after = c.apply_in_order.ensures.applied in
    let same : length c.apply_in_order.new.next ≡ length c.in_ok-next.next.items = after.going.underway.full ∙ (sym begun.going.underway.full ∙ ap length c.deref_mut-3.ensures.value) in
    let next = whole_again c.apply_in_order.new.next c.in_ok-next.next.items c.in_ok-next.next.len same c.in_ok-next.next.ok.0 in
    exactly g.over _ _ _ _ _ _ _ _ _ _ _ c.requires.1 zeros after ∙ ap (λ (l : List ℕ). c.args.steps.now + sum l) (sym next)
