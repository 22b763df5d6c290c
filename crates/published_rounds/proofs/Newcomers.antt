-- A newcomer who is within no line of a programme gets no seat of it by any list.
use Rattle.std.proofs.Common.{◌≡◌, ◌≢◌, ◌<◌, ◌⊎◌, inl, inr, ℕ, suc, true, List, [], ◌∷◌, Option, Some, None, length, arith, refl, sym, ap, ◌∙◌, subst}
use Rattle.std.specs.Prelude.{slice_get, slice_set}
use Rattle.std.proofs.Math.ListN.{length-set}
use Rattle.office_base.proofs.Lists.{at_among, get_set_other, there_is}
use Rattle.placements.proofs.Ranks.{among_sublist, any_weaker}
use Rattle.allocations.proofs.Course.{get_set_same}
use Rattle.std.proofs.lemmas.Bool.{cases_eq, false≢true}
use Rattle.office_base.specs.Lists.{IsAmong, IsSublist}
use Rattle.office_base.specs.declared.seat.Seat.{Seat}
use Rattle.office_base.specs.declared.seat.SeatKind.TheVariants.{Kept, Under}
use Rattle.office_base.specs.declared.person.Person.{Person}
use Rattle.office_base.specs.declared.person.ProgId.{ProgId}
use Rattle.allocations.specs.Compared.{TellsAnother}
use Rattle.allocations.specs.Fair.{IsFair, IsMarket, IsOwn}
use Rattle.allocations.specs.Market.{Seeker, applicants, applies, place_of}
use Rattle.allocations.specs.Rule.{AdmitsNoFewer, ChoosesWell, Refuses, Rule}
use Rattle.allocations.proofs.Claims.{applicants_may}
use Rattle.allocations.proofs.Places.{applies_means, place_read}
use Rattle.allocations.proofs.Seated.{fair_alike}
use Rattle.allocations.proofs.Those.{of_those, those_has, those_sublist, value_at}
use Rattle.allocations.proofs.Truthful.{alone_wants, with_list}
use Rattle.seat_matrix.specs.Matrix.{SeatTable, list_in, seats_in}
use Rattle.programme_lists.specs.declared.programme.Programme.{Programme}
use Rattle.programme_cutoffs.specs.Laws.{CutoffsDecideAdmissions, IsJoinedBy, LinesTellCutoffs}
use Rattle.programme_cutoffs.specs.Cutoffs.{MeetsCutoff}
use Rattle.programme_cutoffs.specs.Reading.{IsWithinLine, IsWithinLines}
use Rattle.programme_lists.specs.Chosen.{AreApplicants}
use Rattle.list_cutoffs.specs.declared.cutoffs.StepCutoff.{StepCutoff}
use Rattle.rounds.specs.Rule.{MayApplyIn, ProgrammesAdmitNoFewer, ProgrammesChooseWell, nobody, rule_of, seekers_of}
use Rattle.rounds.specs.declared.round.Round.{Round}
use Rattle.rounds.proofs.Entrants.{market}
use Rattle.round_laws.proofs.Told.{tells_otherwise}
use Rattle.office_moves.specs.Facts.{IsSound, SeasonFacts, lists_in_order}
use Rattle.office_moves.specs.Promise.{all_sought_then}
use Rattle.office_moves.specs.State.{State}
use Rattle.history_laws.specs.Orderly.{IsOrderly}
use Rattle.published_rounds.specs.Cutoffs.{AreCutoffsThen}
use Rattle.published_rounds.specs.OutsideLaws.{AreFairOtherwise, OutsideIsOutside}
use Rattle.published_rounds.specs.Fair.{AreFairOver}
use Rattle.published_rounds.specs.Published.{market_then, matrix_then, wanted_then}
use Rattle.published_rounds.proofs.FairThen.{fair_over}
use Rattle.published_rounds.proofs.Improved.{alone_fair, alone_market}
use Rattle.published_rounds.proofs.OutsideCutoffs.{shown_by, small_traits, told as lines_told}
use Rattle.published_rounds.proofs.Places.{AreOrderly, InRound, order_of, in_round, made_then}

-- a seeker who wants nothing, and one who wants one programme alone, in the same place among the same others
module _ (rule : Rule) (MayApply : ℕ → List Person → Type 0) (well : ChoosesWell rule MayApply) (count i : ℕ) (seekers alone : List Seeker) (seats : List (Option Seat)) (s : Seeker) (q : ProgId)
    (market : IsMarket MayApply count alone) (same : length alone ≡ length seekers) (others : (j : ℕ) → j ≢ i → slice_get alone j ≡ slice_get seekers j)
    (there : slice_get seekers i ≡ Some s) (there' : slice_get alone i ≡ Some (with_list s (q ∷ []))) (empty : s.list ≡ []) (fair : IsFair rule count seekers seats) where
  -- where both are, the persons are one, and what the one applies to the other applies to
  each : (j : ℕ) (a b : Seeker) → slice_get seekers j ≡ Some a → slice_get alone j ≡ Some b → ((j ≡ i) × (a ≡ s) × (b ≡ with_list s (q ∷ []))) ⊎ (a ≡ b)
  each j a b at at' = elim (cases_eq j i) [
    | inl here ↦
        let first : Some a ≡ Some s = sym at ∙ ap (slice_get seekers) here ∙ there in
        let second : Some b ≡ Some (with_list s (q ∷ [])) = sym at' ∙ ap (slice_get alone) here ∙ there' in
        inl (here, cc first, cc second)
    | inr apart ↦ let both : Some a ≡ Some b = sym at ∙ sym (others j apart) ∙ at' in inr (cc both)
  ]

  person_of : (j : ℕ) (a b : Seeker) → slice_get seekers j ≡ Some a → slice_get alone j ≡ Some b → a.person ≡ b.person
  person_of j a b at at' = elim (each j a b at at') [
    | inl here ↦ ap (λ (z : Seeker). z.person) here.1 ∙ ap (λ (z : Seeker). z.person) (sym here.2)
    | inr one ↦ ap (λ (z : Seeker). z.person) one
  ]

  -- who wants nothing applies to nothing
  applies_nowhere : (p : ℕ) (seat : Option Seat) → applies p s.list seat ≡ true → ⊥
  applies_nowhere p seat h = let a = applies_means p [] seat (subst (λ (l : List ProgId). applies p l seat ≡ true) empty h) in omega (arith, a.wants)

  pub part : (p : ℕ) → IsSublist (applicants p seekers seats) (applicants p alone seats)
  part p = those_sublist (λ s seat. applies p s.list seat) (λ s seat. applies p s.list seat) seekers alone seats seats (record {
    seekers = same;
    values = refl;
    persons = λ j a b at at'. person_of j a b at at';
    passes = λ j a b x y at at' has has' h.
        let one : Some x ≡ Some y = sym has ∙ has' in
        let value : x ≡ y = cc one in
        elim (each j a b at at') [
          | inl here ↦ absurd (applies_nowhere p x (subst (λ (z : Seeker). applies p z.list x ≡ true) here.1 h))
          | inr same ↦ subst (λ (z : Option Seat). applies p b.list z ≡ true) value (subst (λ (z : Seeker). applies p z.list x ≡ true) same h)
        ];
  })

  -- who applies then applied before, or is the newcomer, and the programme is the one that they want
  pub either : (p : ℕ) (x : Person) → IsAmong x (applicants p alone seats) → IsAmong x (applicants p seekers seats) ⊎ ((p ≡ q.0) × (x ≡ s.person))
  either p x here =
      let is = of_those (λ s seat. applies p s.list seat) alone seats x here in
      let a = value_at alone seekers is.place is.s (sym same) is.there in
      elim (each is.place a.0 is.s a.1 is.there) [
        | inl mine ↦
            let wanted = (applies_means p is.s.list is.value is.passes).wants in
            let alone_wanted = subst (λ (z : Seeker). place_of z.list p < length z.list) mine.2 wanted in
            inr (sym (alone_wants q p alone_wanted), is.person_is ∙ ap (λ (z : Seeker). z.person) mine.2)
        | inr one ↦ inl (subst (λ (z : Person). IsAmong z (applicants p seekers seats)) (sym (is.person_is ∙ ap (λ (z : Seeker). z.person) (sym one)))
            (those_has (λ s seat. applies p s.list seat) seekers seats is.place a.0 is.value a.1 is.at (subst (λ (z : Seeker). applies p z.list is.value ≡ true) (sym one) is.passes)))
      ]

  -- If the programme refuses the newcomer, the seats are fair with them too.
  pub joined_fair : Refuses rule q.0 (applicants q.0 alone seats) s.person → slice_get seats i ≡ Some None → IsFair rule count alone seats
  joined_fair refused none = record {
    allocation = record {
      full = full;
      own = λ j b seat at' has.
          let a = value_at alone seekers j b (sym same) at' in
          elim (each j a.0 b a.1 at') [
            | inl here ↦
                let at_i : Some seat ≡ Some None = sym has ∙ ap (slice_get seats) here.0 ∙ none in
                let is_none : seat ≡ None = cc at_i in
                subst (λ (z : Option Seat). IsOwn b.list z) (sym is_none) tt
            | inr one ↦ subst (λ (z : Seeker). IsOwn z.list seat) one (fair.allocation.own j a.0 seat a.1 has)
          ];
    };
    agrees = λ p j b kind below at'.
        let a = value_at alone seekers j b (sym same) at' in
        let person = person_of j a.0 b a.1 at' in
        let may = applicants_may rule MayApply count p alone seats market well below full in
        let chosen = well.without p (applicants p seekers seats) (applicants p alone seats) may (part p) (refused_all p) b.person kind in
        let agreed = fair.agrees p j a.0 kind below a.1 in (
          λ admits. agreed.0 (subst (λ z. rule p (applicants p seekers seats) z kind) (sym person) (chosen.1 admits)),
          λ has. chosen.0 (subst (λ z. rule p (applicants p seekers seats) z kind) person (agreed.1 has)),
        );
  }
    where
      full : length seats ≡ length alone
      full = fair.allocation.full ∙ sym same

      refused_all : (p : ℕ) (x : Person) → IsAmong x (applicants p alone seats) → (IsAmong x (applicants p seekers seats) → ⊥) → Refuses rule p (applicants p alone seats) x
      refused_all p x here not =
          let is : (p ≡ q.0) × (x ≡ s.person) = elim (either p x here) [ inl before ↦ absurd (not before) | inr mine ↦ mine ] in
          subst (λ (z : Person). Refuses rule p (applicants p alone seats) z) (sym is.1) (subst (λ (n : ℕ). Refuses rule n (applicants n alone seats) s.person) (sym is.0) refused)

-- ---- the newcomer and the fair seats with their list

module _ (rule : Rule) (MayApply : ℕ → List Person → Type 0) (well : ChoosesWell rule MayApply) (no_fewer : AdmitsNoFewer rule MayApply) (count i : ℕ) (seekers told : List Seeker)
    (seats others : List (Option Seat)) (s : Seeker) (x : Seat) (tells : TellsAnother i seekers told) (market' : IsMarket MayApply count told) (fair : IsFair rule count seekers seats)
    (fair' : IsFair rule count told others) (there : slice_get seekers i ≡ Some s) (has : slice_get seats i ≡ Some None) (has' : slice_get others i ≡ Some (Some x)) (empty : s.list ≡ []) where
  -- the newcomer with their list
  pub mine : (t : Seeker) × (slice_get told i ≡ Some t)
  mine = value_at seekers told i s tells.same there

  -- the seekers when the newcomer wants the programme alone
  abbrev alone : List Seeker
  alone = slice_set told i (with_list mine.0 (x.prog ∷ []))

  pub alone_is : IsMarket MayApply count alone
  alone_is = alone_market rule MayApply well count i told mine.0 x.prog market' mine.1 (fair'.allocation.own i mine.0 (Some x) mine.1 has')

  pub its_own : slice_get alone i ≡ Some (with_list s (x.prog ∷ []))
  its_own = get_set_same told i (with_list mine.0 (x.prog ∷ [])) mine.0 mine.1 ∙ ap (λ (p : Person). Some (record { person = p; list = x.prog ∷ [] })) (sym (tells.person s mine.0 there mine.1))

  pub as_many : length alone ≡ length seekers
  as_many = length-set told i (with_list mine.0 (x.prog ∷ [])) ∙ tells.same

  same_others : (j : ℕ) → j ≢ i → slice_get alone j ≡ slice_get seekers j
  same_others j apart = get_set_other told i j (with_list mine.0 (x.prog ∷ [])) apart ∙ tells.others j apart

  pub the_part_is : IsSublist (applicants x.prog.0 seekers seats) (applicants x.prog.0 alone seats)
  the_part_is = part rule MayApply well count i seekers alone seats s x.prog alone_is as_many same_others there its_own empty fair x.prog.0

  pub the_either_is : (other : Person) → IsAmong other (applicants x.prog.0 alone seats) → IsAmong other (applicants x.prog.0 seekers seats) ⊎ ((x.prog.0 ≡ x.prog.0) × (other ≡ s.person))
  the_either_is other here = either rule MayApply well count i seekers alone seats s x.prog alone_is as_many same_others there its_own empty fair x.prog.0 other here

  -- So the programme does not refuse the newcomer next to those who applied.
  pub not_refused : Refuses rule x.prog.0 (applicants x.prog.0 alone seats) s.person → ⊥
  not_refused refused =
      let joined = joined_fair rule MayApply well count i seekers alone seats s x.prog alone_is as_many same_others there its_own empty fair refused has in
      let held = alone_fair rule MayApply well count i told others mine.0 x market' fair' mine.1 has' in
      let alike = fair_alike rule MayApply well no_fewer count alone alone_is seats others joined held in
      let bad : Some (Some x) ≡ Some None = sym has' ∙ (alike.unseated i).0 has in
      cc bad

-- ---- the theorem

module _ (well : ProgrammesChooseWell) (no_fewer : ProgrammesAdmitNoFewer) (decide : CutoffsDecideAdmissions) (tell : LinesTellCutoffs) (facts : SeasonFacts) (state : State) (window i : ℕ) (round : Round)
    (sound : IsSound facts) (order : IsOrderly facts state) (is : slice_get state.rounds window ≡ Some round) (person : Person) (cutoffs : ℕ → List StepCutoff) (others : List (Option Seat)) (seat : Seat)
    (here : slice_get facts.people i ≡ Some person) (are : AreCutoffsThen facts round cutoffs) (nothing : wanted_then facts state window person.id.0 ≡ [])
    (outside : IsWithinLines (list_in facts.matrix seat.prog.0) person (cutoffs seat.prog.0) → ⊥) (otherwise : AreFairOtherwise facts state window i others) (has : slice_get others i ≡ Some (Some seat)) where
  abbrev table : SeatTable
  table = matrix_then facts state window

  abbrev rule : Rule
  rule = rule_of facts.version nobody table

  abbrev seekers : List Seeker
  seekers = market_then facts state window

  abbrev told : List Seeker
  told = seekers_of table facts.people otherwise.told otherwise.sought

  b : InRound facts state window i round person
  b = in_round facts state window i round person sound order is here

  over : AreFairOver facts.version table seekers round.seats
  over = fair_over facts state window round sound order is

  empty : b.s.list ≡ []
  empty = b.list_is ∙ nothing

  -- the newcomer has no seat of the round
  none : slice_get round.seats i ≡ Some None
  none = unseated b.seat b.has (over.fair.allocation.own i b.s b.seat b.there b.has)
    where
      unseated : (o : Option Seat) → slice_get round.seats i ≡ Some o → IsOwn b.s.list o → slice_get round.seats i ≡ Some None
      unseated None at own = at
      unseated (Some own_seat) at own = let less : place_of [] own_seat.prog.0 < 0 = subst (λ (l : List ProgId). place_of l own_seat.prog.0 < length l) empty own in absurd (omega (arith, less))

  told_market : IsMarket (MayApplyIn table) (length table.programmes) told
  told_market = market table facts.people otherwise.told otherwise.sought (order.course.seats (suc window)) otherwise.entrants

  tells : TellsAnother i seekers told
  tells = tells_otherwise table facts.people (lists_in_order facts) otherwise.told (all_sought_then facts state window) otherwise.sought i otherwise.otherwise

  good : ChoosesWell rule (MayApplyIn table)
  good = well facts.version nobody table (order.course.seats (suc window))

  fewer : AdmitsNoFewer rule (MayApplyIn table)
  fewer = no_fewer facts.version nobody table (order.course.seats (suc window))

  -- the seekers when the newcomer wants the programme alone, and who applies to it then
  abbrev alone_here : List Seeker
  alone_here = alone rule (MayApplyIn table) good fewer (length table.programmes) i seekers told round.seats others b.s seat tells told_market over.fair otherwise.fair b.there none has empty

  abbrev all : List Person
  all = applicants seat.prog.0 alone_here round.seats

  abbrev some : List Person
  some = applicants seat.prog.0 seekers round.seats

  alone_market_is : IsMarket (MayApplyIn table) (length table.programmes) alone_here
  alone_market_is = alone_is rule (MayApplyIn table) good fewer (length table.programmes) i seekers told round.seats others b.s seat tells told_market over.fair otherwise.fair b.there none has empty

  full : length round.seats ≡ length alone_here
  full = over.fair.allocation.full ∙ sym (as_many rule (MayApplyIn table) good fewer (length table.programmes) i seekers told round.seats others b.s seat tells told_market over.fair otherwise.fair b.there none has empty)

  the_part : IsSublist some all
  the_part = the_part_is rule (MayApplyIn table) good fewer (length table.programmes) i seekers told round.seats others b.s seat tells told_market over.fair otherwise.fair b.there none has empty

  the_either : (other : Person) → IsAmong other all → IsAmong other some ⊎ ((seat.prog.0 ≡ seat.prog.0) × (other ≡ b.s.person))
  the_either = the_either_is rule (MayApplyIn table) good fewer (length table.programmes) i seekers told round.seats others b.s seat tells told_market over.fair otherwise.fair b.there none has empty

  -- the programme is one of the round's
  below : seat.prog.0 < length table.programmes
  below =
      let t = value_at seekers told i b.s tells.same b.there in
      let own = otherwise.fair.allocation.own i t.0 (Some seat) t.1 has in
      let read = place_read t.0.list seat.prog.0 own in
      subst (λ n. n < length table.programmes) read.2 (told_market.below i (place_of t.0.list seat.prog.0) t.0 read.0 t.1 read.1)

  inside : (programme : Programme) × (slice_get round.programmes seat.prog.0 ≡ Some programme)
  inside = there_is round.programmes seat.prog.0 (let count = (made_then facts state window round order is).count in omega (arith, below, count))

  may_all : AreApplicants (list_in table seat.prog.0) all
  may_all = applicants_may rule (MayApplyIn table) (length table.programmes) seat.prog.0 alone_here round.seats alone_market_is good below full

  -- Next to those who applied the programme refuses the newcomer, who is within none of its lines.
  refused : Refuses rule seat.prog.0 all b.s.person
  refused Kept keeps = absurd (false≢true keeps.guaranteed_there)
  refused (Under kind) admits =
      let shown = shown_by well facts state window round sound order is seat.prog.0 inside.0 inside.1 in
      let joined : IsJoinedBy facts.version (seats_in table seat.prog.0) some all shown.admissions admits.0 b.s.person = record {
        both = record {
          are_seats = (order.course.seats (suc window)).sound seat.prog.0 below;
          distinct = shown.may.distinct;
          may = may_all;
          part = among_sublist some all the_part;
          choice = shown.choice;
          more_choice = admits.1;
        };
        there = good.among seat.prog.0 all b.s.person (Under kind) may_all admits;
        nobody_else = λ other one. elim (the_either other one) [ inl before ↦ inl before | inr mine ↦ inr mine.1 ];
      } in
      let met = (decide facts.version (seats_in table seat.prog.0) some all shown.admissions admits.0 b.s.person joined).0 (kind, admits.2) in
      let mine = subst (λ (p : Person). MeetsCutoff facts.version (seats_in table seat.prog.0) shown.admissions p met.0) b.person_is met.1 in
      let small = small_traits facts state window person sound order (at_among facts.people i person here) in
      let within = (lines_told well facts state window round sound order is tell seat.prog.0 inside.0 shown (cutoffs seat.prog.0) person met.0 small (are seat.prog.0 inside.0 inside.1)).0 mine in
      outside (any_weaker (λ line. (line.step ≡ met.0) × IsWithinLine (list_in facts.matrix seat.prog.0) person line) (λ line. IsWithinLine (list_in facts.matrix seat.prog.0) person line) (λ line is. is.1) (cutoffs seat.prog.0) within)

  pub no_seat : ⊥
  no_seat = not_refused rule (MayApplyIn table) good fewer (length table.programmes) i seekers told round.seats others b.s seat tells told_market over.fair otherwise.fair b.there none has empty refused

pub outside_is_outside : AreOrderly → ProgrammesChooseWell → ProgrammesAdmitNoFewer → CutoffsDecideAdmissions → LinesTellCutoffs → (facts : SeasonFacts) → OutsideIsOutside facts
outside_is_outside orderly well fewer decide tell facts entries state window i round person cutoffs others seat published here are nothing outside otherwise has =
    no_seat well fewer decide tell facts state window i round published.sound (order_of orderly facts entries state window round published) published.there person cutoffs others seat here are nothing outside otherwise has
