-- A sound season that is over has final admissions, and these leave a season.
use Rattle.std.proofs.Common.{◌≡◌, ◌<◌, ◌≤◌, ◌+◌, inl, inr, ℕ, zero, suc, add-one, Bool, true, false, List, [], ◌∷◌, Option, Some, None, length, arith, refl, sym, ap, ◌∙◌, subst}
use Rattle.std.specs.Prelude.{slice_get, IsSome}
use Rattle.std.specs.List.{AllByRecursion}
use Rattle.std.specs.Option.{unwrap_or}
use Rattle.std.proofs.lemmas.Bool.{cases_Bool, cases_lt, cond-false, cond-true}
use Rattle.office_base.specs.Lists.{Pairwise}
use Rattle.office_base.specs.Person.{number_in}
use Rattle.office_asks.specs.declared.ask.By.{By}
use Rattle.office_asks.specs.declared.ask.Request.{Request}
use Rattle.office_base.specs.declared.seat.Seat.{Seat}
use Rattle.office_base.specs.declared.person.ListId.{ListId}
use Rattle.office_base.specs.declared.person.Person.{Person}
use Rattle.office_base.specs.declared.person.ProgId.{ProgId}
use Rattle.office_base.proofs.Lists.{all-get, there_is}
use Rattle.allocations.specs.Market.{place_of}
use Rattle.choice_lists.specs.Choices.{list_of}
use Rattle.kept_rows.specs.declared.rows.AllotRow.{AllotRow}
use Rattle.rank_lists.specs.Register.{find_person}
use Rattle.seat_matrix.specs.Laws.{OneStepChanges}
use Rattle.seat_matrix.specs.Matrix.{SeatTable, list_in}
use Rattle.round_laws.proofs.People.{found_at}
use Rattle.round_options.specs.Options.{holds}
use Rattle.office_moves.specs.Decided.{decided}
use Rattle.office_moves.specs.Facts.{IsSound, SeasonFacts}
use Rattle.office_moves.specs.History.{newly}
use Rattle.office_moves.specs.Moves.{final_rows, final_seat, row_before, rows_along}
use Rattle.office_moves.specs.State.{State, last_seat, opening, standing_at, view_of}
use Rattle.office_moves.specs.declared.decide.Decision.{Decision}
use Rattle.office_moves.specs.declared.moves.Act.{Act}
use Rattle.history_laws.proofs.Changes.{Accepts, LastCut, NewAnswer, NewCut, NewRaise, accepts}
use Rattle.history_laws.proofs.Entering.{own_there}
use Rattle.audit_rules.specs.Cut.{EndHolds, HoldsAt}
use Rattle.audit_rules.specs.InOrder.{IsInOrder}
use Rattle.audit_rules.specs.Papers.{Papers}
use Rattle.audit_rules.specs.Replay.{before, taken}
use Rattle.allocations.proofs.Places.{place_read}
use Rattle.audit_rules.proofs.Ordering.{before_next, in_order_at_first, in_order_next, nothing_new}
use Rattle.season_audit.specs.Audit.{AllHold}
use Rattle.special_round.specs.Remaining.{AreFinals}

-- ---- rows of seats along people whose ids rise

-- what holds of the seat of each of some people
abbrev Each : (Person → Seat → Type 0) → (ℕ → Option Seat) → List Person → Type 0
Each P given people = (i : ℕ) (person : Person) (seat : Seat) → slice_get people i ≡ Some person → given person.id.0 ≡ Some seat → P person seat

module _ (P : AllotRow → Type 0) (number : ℕ) (given : ℕ → Option Seat) where
  one_row : (person : Person) (o : Option Seat) (rows : List AllotRow) → ((seat : Seat) → o ≡ Some seat → P (record { round = number; cand = person.id; prog = seat.prog; step = seat.step }))
      → AllByRecursion P rows → AllByRecursion P (row_before number person.id o rows)
  one_row person None rows here rest = rest
  one_row person (Some seat) rows here rest = (here seat refl, rest)

  each_row : (people : List Person) → Each (λ person seat. P (record { round = number; cand = person.id; prog = seat.prog; step = seat.step })) given people → AllByRecursion P (rows_along number given people)
  each_row [] each = tt
  each_row (person ∷ people) each = one_row person (given person.id.0) (rows_along number given people) (λ seat e. each 0 person seat refl e) (each_row people (λ i. each (suc i)))

-- rows of a season along people whose ids rise have rising ids
one_rises : (person : Person) (number : ℕ) (o : Option Seat) (rows : List AllotRow) → AllByRecursion (λ (row : AllotRow). person.id.0 < row.cand.0) rows → Pairwise (λ (a b : AllotRow). a.cand.0 < b.cand.0) rows
    → Pairwise (λ (a b : AllotRow). a.cand.0 < b.cand.0) (row_before number person.id o rows)
one_rises person number None rows less rest = rest
one_rises person number (Some seat) rows less rest = (less, rest)

all_rise : (facts : SeasonFacts) (state : State) (people : List Person) → Pairwise (λ (a b : Person). a.id.0 < b.id.0) people
    → Pairwise (λ (a b : AllotRow). a.cand.0 < b.cand.0) (rows_along (facts.rounds + 1) (final_seat facts state) people)
all_rise facts state [] rising = tt
all_rise facts state (person ∷ people) rising =
    one_rises person (facts.rounds + 1) (final_seat facts state person.id.0) (rows_along (facts.rounds + 1) (final_seat facts state) people)
    (each_row (λ (row : AllotRow). person.id.0 < row.cand.0) (facts.rounds + 1) (final_seat facts state) people
    (λ i other seat at e. all-get (λ (b : Person). person.id.0 < b.id.0) people i other rising.0 at)) (all_rise facts state people rising.1)

-- ---- the final rows of a replay

-- who ends with a seat has the last one
final_is : (facts : SeasonFacts) (state : State) (id : ℕ) (seat : Seat) → final_seat facts state id ≡ Some seat → last_seat facts state.rounds id ≡ Some seat
final_is facts state id seat e = elim (cases_Bool (holds (standing_at facts (view_of state id) id state.now))) [
  | inl keeps ↦ sym (cond-true (holds (standing_at facts (view_of state id) id state.now)) (last_seat facts state.rounds id) None keeps) ∙ e
  | inr away ↦ absurd (let none : None ≡ Some seat = sym (cond-false (holds (standing_at facts (view_of state id) id state.now)) (last_seat facts state.rounds id) None away) ∙ e in cc)
]

module _ (facts : SeasonFacts) (state : State) (sound : IsSound facts) (order : IsInOrder facts state) where
  -- the programme of a final seat is in the matrix, and the person has a place in its merit list
  placed_there : (i : ℕ) (person : Person) (seat : Seat) → slice_get facts.people i ≡ Some person → final_seat facts state person.id.0 ≡ Some seat
      → (seat.prog.0 < length facts.matrix.programmes) × IsSome (number_in (list_in facts.matrix seat.prog.0) person)
  placed_there i person seat at e =
      let list = list_of facts.lists person.id.0 in
      let own = own_there facts facts.matrix i person sound refl at in
      let (q, there, is) = place_read list seat.prog.0 (order.own person.id.0 seat (final_is facts state person.id.0 seat e)) in (
        subst (λ n. n < length facts.matrix.programmes) is (all-get (λ (prog : ProgId). prog.0 < length facts.matrix.programmes) list (place_of list seat.prog.0) q own.below there),
        subst (λ n. IsSome (number_in (list_in facts.matrix n) person)) is
            (all-get (λ (prog : ProgId). IsSome (number_in (list_in facts.matrix prog.0) person)) list (place_of list seat.prog.0) q own.placed there),
      )

  finals_known : AreFinals facts.people facts.matrix (final_rows facts state)
  finals_known = record {
    rising = all_rise facts state facts.people sound.ranks.rising;
    below = each_row (λ row. row.prog.0 < length facts.matrix.programmes) (facts.rounds + 1) (final_seat facts state) facts.people (λ i person seat at e. (placed_there i person seat at e).0);
    placed = each_row (λ row. (person : Person) × (find_person row.cand.0 facts.people ≡ Some person) × IsSome (number_in (list_in facts.matrix row.prog.0) person)) (facts.rounds + 1) (final_seat facts state)
        facts.people (λ i person seat at e. (person, found_at facts.people i person sound.ranks.rising at, (placed_there i person seat at e).1));
  }

-- ---- along a script in which no clause is broken

-- While a window is open there are no final rows. Then there are those of the papers, and they leave seats.
pub record IsWell (facts : SeasonFacts) (papers : Papers) (state : State) : Type 0 where
  pub early : state.now ≤ facts.rounds → state.finals ≡ None
  pub over : facts.rounds < state.now → (rows : List AllotRow) × (papers.finals ≡ Some rows) × (state.finals ≡ Some rows) × AreFinals facts.people facts.matrix rows

-- one request
well_next : (facts : SeasonFacts) (papers : Papers) (state : State) (request : Request) → IsSound facts → IsInOrder facts state → HoldsAt facts papers state (decided facts state request)
    → IsWell facts papers state → IsWell facts papers (taken facts papers state (decided facts state request))
well_next facts papers state request sound order holds' well = go (newly state.now (decided facts state request)) refl
  where
    accepted : (act : Act) → Accepts facts state request.by request.ask act → IsWell facts papers (taken facts papers state (decided facts state request))
    accepted act (NewAnswer row asks is n decides) =
        subst (λ (d : Decision). IsWell facts papers (taken facts papers state d)) (sym decides) (record { early = well.early; over = well.over })
    accepted act (NewRaise row code asks found known is n decides) =
        subst (λ (d : Decision). IsWell facts papers (taken facts papers state d)) (sym decides) (record { early = well.early; over = well.over })
    accepted act (LastCut window asks is n last decides) =
        let end : EndHolds facts papers state = subst (λ (d : Decision). HoldsAt facts papers state d) decides holds' in
        subst (λ (d : Decision). IsWell facts papers (taken facts papers state d)) (sym decides) (record {
          early = λ few. absurd (omega (arith, few, last));
          over = λ late. (final_rows facts state, end, ap (λ (o : Option (List AllotRow)). Some (unwrap_or o [])) end, finals_known facts state sound order);
        })
    accepted act (NewCut window asks is n less decides) =
        subst (λ (d : Decision). IsWell facts papers (taken facts papers state d)) (sym decides) (record {
          early = λ few. well.early (omega (arith, less));
          over = λ late. absurd (omega (arith, late, less));
        })

    go : (o : Option Act) → newly state.now (decided facts state request) ≡ o → IsWell facts papers (taken facts papers state (decided facts state request))
    go None e = subst (IsWell facts papers) (sym (nothing_new facts papers state (decided facts state request) e)) well
    go (Some act) e = accepted act (accepts facts state request.by request.ask act e)

-- before each request, where the state is in order
pub record IsWellAt (facts : SeasonFacts) (papers : Papers) (state : State) : Type 0 where
  pub order : IsInOrder facts state
  pub well : IsWell facts papers state

well_before : OneStepChanges → (facts : SeasonFacts) (script : List Request) (papers : Papers) → IsSound facts → AllHold facts script papers → (j : ℕ) → j ≤ length script
    → IsWellAt facts papers (before facts script papers j)
well_before law facts script papers sound all zero within = record {
  order = in_order_at_first facts sound;
  well = record { early = λ few. refl; over = λ late. absurd (omega (arith, late)) };
}
well_before law facts script papers sound all (suc j) within =
    let here = well_before law facts script papers sound all j (omega (arith, within)) in
    let request = there_is script j (omega (arith, within)) in
    let holds' = all j request.0 request.1 in
    subst (IsWellAt facts papers) (sym (ap (before facts script papers) (sym (add-one j)) ∙ before_next facts script papers j request.0 request.1)) (record {
      order = in_order_next law facts papers (before facts script papers j) request.0 sound here.order holds';
      well = well_next facts papers (before facts script papers j) request.0 sound here.order holds' here.well;
    })

-- after all of them
pub well_after : OneStepChanges → (facts : SeasonFacts) (script : List Request) (papers : Papers) → IsSound facts → AllHold facts script papers → IsWellAt facts papers (before facts script papers (length script))
well_after law facts script papers sound all = well_before law facts script papers sound all (length script) (omega arith)

-- final rows are known for a matrix of the same programmes
pub known_in : (people : List Person) (table more : SeatTable) (rows : List AllotRow) → more.programmes ≡ table.programmes → AreFinals people table rows → AreFinals people more rows
known_in people table more rows same are = record {
  rising = are.rising;
  below = subst (λ l. AllByRecursion (λ row. row.prog.0 < length l) rows) (sym same) are.below;
  placed = subst (λ l. AllByRecursion (λ row. (person : Person) × (find_person row.cand.0 people ≡ Some person) × IsSome (number_in (list_in (record { programmes = l; steps = more.steps }) row.prog.0) person)) rows)
      (sym same) are.placed;
}
