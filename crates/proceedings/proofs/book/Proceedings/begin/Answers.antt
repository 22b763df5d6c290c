use Rattle.std.proofs.Common.{◌≡◌, ◌∷◌, ◌++◌, [], ℕ, List, None, arith, rules, length, refl, sym, ap, ◌∙◌, subst}
use Rattle.std.specs.Prelude.{replicate}
use Rattle.office_base.specs.declared.choice.Choice.{Choice}
use Rattle.kept_rows.specs.declared.rows.RaiseRow.{RaiseRow}
use Rattle.answer_table.specs.Turns.{no_turns}
use Rattle.round_options.specs.declared.standing.Standing.TheVariants.{Waiting}
use Rattle.office_moves.specs.Facts.{SeasonFacts}
use Rattle.office_moves.specs.Raised.{raised}
use Rattle.season_facts.specs.Season.{facts_of}
use Rattle.office_moves.specs.State.{State, opening}
use Rattle.proceedings.specs.Proceeding.{answers_of, left_along, still_of}
use Rattle.proceedings.proofs.ChangeLemmas.{opening_history, opening_later, opening_left, opening_state, opening_still, opening_tables}
use Rattle.proceedings.proofs.CutLemmas.{AreTables}
use Rattle.proceedings.proofs.book.Proceedings.begin.Goals as goal

pub invariant_of-result : goal.invariant_of-result
invariant_of-result c =
    let facts : SeasonFacts = facts_of c.args.season in
    let people : length c.people-count.result.now ≡ length facts.people = ap (λ xs. length xs) c.people-count.ensures.same in
    let rounds = c.in_ok-rounds.ensures in
    let entries = c.in_ok-entries.ensures in
    let raises = c.new-2.ensures.raises in
    let turns = c.push.new.self in
    let only : List (List Choice) → List (List (List Choice)) = λ table. table ∷ [] in
    let first : turns.items ≡ no_turns (length facts.people) ∷ [] =
    c.in_ok-push.ensures.items ∙ (ap (λ tables. tables ++ c.in_ok-first.first ∷ []) c.in_ok-turns.ensures.items ∙ ap only (c.in_ok-first.ensures ∙ ap no_turns people)) in
    let waiting = c.in_ok-left.ensures.items_if_clones_equal (λ y h. search rules) in
    let new : State = record { now = 0; rounds = c.in_ok-rounds.rounds.items; finals = None; answers = answers_of c.in_ok-entries.entries.items; raises = c.new-2.result.raises } in
    let same : new ≡ opening = opening_state c.in_ok-rounds.rounds.items c.in_ok-entries.entries.items c.new-2.result.raises rounds.items entries.items raises in
    let history = opening_history facts c.in_ok-entries.entries.items new entries.items same in
    let T : State → Type 0 = λ s. AreTables facts s turns.items in
    record {
      sound = c.says_what_is_sound.ensures;
      history = history;
      orderly = c.orderly.ensures facts c.in_ok-entries.entries.items new c.says_what_is_sound.ensures history.reached;
      raised = c.new-2.ensures.matrix ∙ c.in_ok-matrix.ensures ∙ ap (λ (rs : List RaiseRow). raised facts.matrix rs) (sym raises);
      left = opening_left facts c.in_ok-left.left.items (waiting ∙ ap (λ (n : ℕ). replicate n Waiting) people) ∙ ap (left_along facts) (sym same);
      turns = subst T (sym same) (opening_tables facts turns.items (no_turns (length facts.people)) first refl);
      still = people ∙ (opening_still facts ∙ ap (still_of facts) (sym same));
      tables = omega (arith, c.in_ok-turns.ensures.len, c.in_ok-push.ensures.len, rounds.len);
      later = λ window id late. opening_later new window id same;
      withdrawals = omega (arith, entries.len, entries.capacity);
      rounds_room = omega (arith, rounds.capacity);
      tables_room = omega (arith, c.in_ok-turns.ensures.capacity, c.in_ok-push.ensures.capacity);
    }
