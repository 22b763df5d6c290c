-- The applications begin with nobody admitted, and end.
use Rattle.std.proofs.Common.{◌≡◌, ◌<◌, ◌≤◌, ◌+◌, inl, ℕ, List, [], ◌∷◌, Some, length, arith, refl, sym, ap, ◌∙◌, subst, nat_lt}
use Rattle.std.specs.Prelude.{Option, slice_get, replicate, sum}
use Rattle.std.proofs.lemmas.Bool.{ltb-true}
use Rattle.std.proofs.lemmas.Option.{slice_get_within}
use Rattle.std.proofs.lemmas.List.{length-replicate}
use Rattle.office_base.specs.Lists.{IsAmong}
use Rattle.office_base.specs.declared.person.Person.{Person}
use Rattle.office_base.specs.declared.person.ProgId.{ProgId}
use Rattle.placements.proofs.Ranks.{any_among}
use Rattle.allocations.specs.Course.{places, places_left, tried}
use Rattle.allocations.proofs.Course.{begins, left_at_first, tried_may}
use Rattle.allocations.proofs.Those.{of_those}
use Rattle.allocations.specs.Market.{Seeker, place_of}
use Rattle.open_then_category.specs.State.{ProgrammeKept, admissions_of, nobody}
use Rattle.open_then_category.proofs.Handed.{nobody_is}
use Rattle.open_then_category.specs.declared.kept_lists.Tried.{Tried}
use Rattle.programme_lists.specs.Chosen.{ChoosesFrom, everybody}
use Rattle.programme_lists.specs.Programme.{Admissions}
use Rattle.rounds.specs.Rule.{MayApplyIn}
use Rattle.round_laws.proofs.Everybody.{admitted_is_there}
use Rattle.seat_matrix.specs.Matrix.{SeatTable, seats_in}
use Rattle.allocations.proofs.Best.{zeros_at}
use Rattle.apply_engine.specs.Engine.{AreBegun, AreSettledBefore, AreTallied, AreUntried, Enters, HasApplied, HasRun, IsSet, IsSettledTo, Setting, seekers_in, rule_in}
use Rattle.apply_engine.proofs.Counting.{tried_and_left}
use Rattle.apply_engine.proofs.Setting.{chooses_well_in, length_with}
use Rattle.apply_engine.proofs.Tallies.{untried}

-- a list of which nobody is one is empty
none_of : {X : Type 0} (xs : List X) → ((x : X) → IsAmong x xs → ⊥) → xs ≡ []
none_of [] h = refl
none_of (x ∷ xs) h = absurd (h x (inl refl))

-- where everybody admitted is nobody, no step admits anyone
is_nobody : (admissions : Admissions) → everybody admissions ≡ [] → admissions ≡ nobody
is_nobody admissions e = λ i kind. none_of (admissions kind) (λ x there. subst (IsAmong x) e (admitted_is_there admissions x (kind, there))) i

-- nobody tried anything yet
none_tried : (p : ℕ) (seekers : List Seeker) (next : List ℕ) → ((i n : ℕ) → slice_get next i ≡ Some n → n ≡ 0) → tried p seekers next ≡ []
none_tried p seekers next none = none_of (tried p seekers next) (λ x among.
    let found = of_those (λ s n. nat_lt (place_of s.list p) n) seekers next x among in
    let less = ltb-true (place_of found.s.list p) found.value found.passes in
    let zero_is = none found.place found.value found.at in
    omega (arith, less, zero_is))

-- the choice from nobody is nobody
choice_from_none : (over : Setting) (p : ℕ) → IsSet over → p < length over.table.programmes → MayApplyIn over.table p [] → ChoosesFrom over.version (seats_in over.table p) [] nobody
choice_from_none over p set below may =
    let sound = set.seats.sound p below in
    let some = set.laws.some over.version (seats_in over.table p) [] sound may in
    let once = set.laws.once over.version (seats_in over.table p) [] some.0 sound may some.1 in
    let none : everybody some.0 ≡ [] = none_of (everybody some.0) (λ x among. any_among (λ y. x ≡ y) (everybody some.0) [] once.1 among) in
    subst (λ a. ChoosesFrom over.version (seats_in over.table p) [] a) (is_nobody some.0 none) some.1

-- The applications begin.
pub enters : (over : Setting) (version : ℕ) (table : SeatTable) (people : List Person) (lists : List (List ProgId)) (guaranteed : List (Option ProgId)) (next : List ℕ) (states : List ProgrammeKept)
    → Enters over version table people lists guaranteed → AreBegun version table states → next ≡ replicate (length lists) 0 → AreSettledBefore over people lists guaranteed next states 0
enters over version table people lists guaranteed next states e begun zeros =
    let people_is : over.people ≡ people = ap (λ (o : Setting). o.people) e.over_is in
    let lists_is : over.lists ≡ lists = ap (λ (o : Setting). o.lists) e.over_is in
    let table_is : over.table ≡ table = ap (λ (o : Setting). o.table) e.over_is in
    let version_is : over.version ≡ version = ap (λ (o : Setting). o.version) e.over_is in
    let none : (i n : ℕ) → slice_get next i ≡ Some n → n ≡ 0 = λ i n at. zeros_at (length lists) i n (subst (λ l. slice_get l i ≡ Some n) zeros at) in
    let size = length_with over.people over.lists e.set_is.full in
    let full : length next ≡ length (seekers_in over) = (let a = ap length zeros ∙ length-replicate (length lists) 0 in let b = ap length lists_is in let d = e.set_is.full in omega (arith, a, b, d, size)) in
    let well = chooses_well_in over e.set_is.laws e.set_is.seats in
    let underway = begins (rule_in over) (MayApplyIn over.table) (length over.table.programmes) (seekers_in over) next e.set_is.market well full none in
    record {
      people_is = people_is;
      lists_is = lists_is;
      guaranteed_is = ap (λ (o : Setting). o.guaranteed) e.over_is;
      set_is = e.set_is;
      going = record {
        underway = underway;
        shows = record {
          full = begun.full ∙ ap (λ (t : SeatTable). length t.programmes) (sym table_is);
          each = λ p state at.
              let is = begun.each p state at in
              let below : p < length over.table.programmes = (let less = slice_get_within states p state at in let f = begun.full in let g = ap (λ (t : SeatTable). length t.programmes) table_is in omega (arith, less, f, g)) in
              let may = tried_may (rule_in over) (MayApplyIn over.table) (length over.table.programmes) p (seekers_in over) next e.set_is.market well below full underway.within in
              let nobody_tried = none_tried p (seekers_in over) next none in
              let choice = choice_from_none over p e.set_is below (subst (λ people. MayApplyIn over.table p people) nobody_tried may) in
              record {
                version_is = ap (λ (z : ProgrammeKept). z.version) is ∙ sym version_is;
                seats_are = ap (λ (z : ProgrammeKept). z.seats) is ∙ ap (λ t. seats_in t p) (sym table_is);
                choice = subst (λ people. ChoosesFrom over.version (seats_in over.table p) people (admissions_of state)) (sym nobody_tried)
                    (subst (λ a. ChoosesFrom over.version (seats_in over.table p) [] a) (nobody_is ∙ sym (ap admissions_of is)) choice);
              };
        };
      };
      settled = λ j m t less. absurd (omega (arith, less));
      not_begun = λ j m far at. none j m at;
    }

-- and nobody came to any programme
pub enters_untried : (over : Setting) (version : ℕ) (table : SeatTable) (people : List Person) (lists : List (List ProgId)) (guaranteed : List (Option ProgId)) (next : List ℕ) (tallies : List Tried)
    → Enters over version table people lists guaranteed → AreUntried table tallies → next ≡ replicate (length lists) 0 → AreTallied over next tallies
enters_untried over version table people lists guaranteed next tallies e begun zeros =
    let table_is : over.table ≡ table = ap (λ (o : Setting). o.table) e.over_is in
    let none : (i n : ℕ) → slice_get next i ≡ Some n → n ≡ 0 = λ i n at. zeros_at (length lists) i n (subst (λ l. slice_get l i ≡ Some n) zeros at) in
    untried over next tallies (subst (λ (t : SeatTable). AreUntried t tallies) (sym table_is) begun) (λ p. none_tried p (seekers_in over) next none)

-- And end.
pub ended : (over : Setting) (version : ℕ) (table : SeatTable) (people : List Person) (lists : List (List ProgId)) (guaranteed : List (Option ProgId)) (before next : List ℕ) (states : List ProgrammeKept) (tallies : List Tried) (steps_before steps : ℕ)
    → Enters over version table people lists guaranteed → HasApplied over before next states (length people) steps_before steps → AreTallied over next tallies → HasRun over next states tallies
ended over version table people lists guaranteed before next states tallies steps_before steps e h tallied = record {
  set_is = e.set_is;
  ended = record {
    underway = h.going.underway;
    settled = subst (λ k. IsSettledTo over next k) (ap length (ap (λ (o : Setting). o.people) (sym e.over_is))) h.settled;
  };
  shows = h.going.shows;
  tallied = tallied;
}

-- the same run, with lists that are the same
pub run_again : (over : Setting) (next next2 : List ℕ) (states states2 : List ProgrammeKept) (tallies tallies2 : List Tried) → next2 ≡ next → states2 ≡ states → tallies2 ≡ tallies
    → HasRun over next states tallies → HasRun over next2 states2 tallies2
run_again over next next2 states states2 tallies tallies2 a b d run =
    subst (λ (l : List ℕ). HasRun over l states2 tallies2) (sym a)
    (subst (λ (l : List ProgrammeKept). HasRun over next l tallies2) (sym b) (subst (λ (l : List Tried). HasRun over next states l) (sym d) run))

-- at first all places are left to try
left_first : (over : Setting) (version : ℕ) (table : SeatTable) (people : List Person) (lists : List (List ProgId)) (guaranteed : List (Option ProgId)) (before : List ℕ) → Enters over version table people lists guaranteed
    → before ≡ replicate (length lists) 0 → places_left (seekers_in over) before ≡ places (seekers_in over)
left_first over version table people lists guaranteed before e zeros =
    let lists_is : over.lists ≡ lists = ap (λ (o : Setting). o.lists) e.over_is in
    let none : (i n : ℕ) → slice_get before i ≡ Some n → n ≡ 0 = λ i n at. zeros_at (length lists) i n (subst (λ l. slice_get l i ≡ Some n) zeros at) in
    let size = length_with over.people over.lists e.set_is.full in
    let full : length before ≡ length (seekers_in over) = (let a = ap length zeros ∙ length-replicate (length lists) 0 in let b = ap length lists_is in let d = e.set_is.full in omega (arith, a, b, d, size)) in
    left_at_first (seekers_in over) before full none

-- The steps are no more than there are places,
pub at_most : (over : Setting) (version : ℕ) (table : SeatTable) (people : List Person) (lists : List (List ProgId)) (guaranteed : List (Option ProgId)) (before next : List ℕ) (states : List ProgrammeKept) (last steps_before steps : ℕ)
    → Enters over version table people lists guaranteed → before ≡ replicate (length lists) 0 → HasApplied over before next states last steps_before steps → steps ≤ steps_before + places (seekers_in over)
at_most over version table people lists guaranteed before next states last steps_before steps e zeros h =
    let all = left_first over version table people lists guaranteed before e zeros in
    let cost = h.cost in
    omega (arith, all, cost)

-- and as many as were tried.
pub exactly : (over : Setting) (version : ℕ) (table : SeatTable) (people : List Person) (lists : List (List ProgId)) (guaranteed : List (Option ProgId)) (before next : List ℕ) (states : List ProgrammeKept) (last steps_before steps : ℕ)
    → Enters over version table people lists guaranteed → before ≡ replicate (length lists) 0 → HasApplied over before next states last steps_before steps → steps ≡ steps_before + sum next
exactly over version table people lists guaranteed before next states last steps_before steps e zeros h =
    let all = left_first over version table people lists guaranteed before e zeros in
    let both = tried_and_left (seekers_in over) next h.going.underway.full h.going.underway.within in
    let cost = h.cost in
    omega (arith, all, both, cost)
