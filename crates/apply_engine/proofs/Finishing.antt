-- The end of a round: what the lists of the programmes show, and that the seats are the best allocation.
use Rattle.std.proofs.Common.{◌≡◌, ◌<◌, ◌≤◌, ◌+◌, ◌↔◌, ℕ, List, Option, Some, length, arith, refl, sym, ap, ◌∙◌, subst, nat_lt}
use Rattle.std.specs.Prelude.{slice_get, sum}
use Rattle.std.proofs.lemmas.Option.{slice_get_within}
use Rattle.office_base.specs.Merit.{in_merit}
use Rattle.office_base.specs.Lists.{IsAmong}
use Rattle.office_base.specs.declared.seat.Seat.{Seat}
use Rattle.office_base.specs.declared.person.Person.{Person}
use Rattle.office_base.specs.declared.seat.SeatKind.{SeatKind}
use Rattle.office_base.specs.declared.seat.SeatKind.TheVariants.{Kept, Under}
use Rattle.office_base.specs.declared.step.StepKind.{StepKind}
use Rattle.placements.proofs.Zips.{zip_at, zip_back, zip_length}
use Rattle.allocations.specs.Course.{AreSeatsOf, IsSettled, tried}
use Rattle.allocations.specs.Market.{Seeker, applicants, place_of, seat_at}
use Rattle.allocations.proofs.Course.{ends_best, tried_may, settled_applicants}
use Rattle.allocations.proofs.Places.{one_place}
use Rattle.allocations.proofs.Those.{of_those, same_place}
use Rattle.open_then_category.specs.State.{ProgrammeKept, admissions_of}
use Rattle.open_then_category.specs.Tried.{HaveCome, counted}
use Rattle.open_then_category.specs.declared.kept_lists.Tried.{Tried}
use Rattle.programme_lists.specs.Chosen.{AreApplicants, ChoosesFrom, ShowsFrom}
use Rattle.programme_lists.specs.Listing.{ShowsStep}
use Rattle.programme_lists.specs.Programme.{Admissions, admitted_by}
use Rattle.programme_lists.specs.declared.programme.Programme.{Programme}
use Rattle.programme_lists.specs.declared.programme.StepList.{StepList}
use Rattle.kept_seats.specs.Kept.{alone}
use Rattle.kept_seats.proofs.Ended as added
use Rattle.rounds.specs.Rule.{MayApplyIn, guarantees, steps_of}
use Rattle.office_base.specs.StepNumbers.{step_number}
use Rattle.seat_matrix.specs.Matrix.{seats_in}
use Rattle.seat_matrix.specs.declared.seats.ProgrammeSeats.{ProgrammeSeats}
use Rattle.office_base.proofs.StepNumbers.{kinds, kind_at, number_at}
use Rattle.office_base.proofs.Lists.{there_is}
use Rattle.seeks.specs.declared.seek.Seek.{Seek}
use Rattle.apply_engine.specs.Applications.{applications}
use Rattle.office_base.specs.declared.person.ProgId.{ProgId}
use Rattle.apply_engine.specs.Engine.{HasEnded, HasRun, IsMade, IsOver, IsSet, Setting, rule_in, seekers_in}
use Rattle.apply_engine.specs.Made.{AreGiven, AreInOrder, AreListed, AreSeated, AreShown, AreTried, admitted_of, shown}
use Rattle.round_laws.proofs.Everybody.{admitted_is_there}
use Rattle.apply_engine.proofs.Counting.{settled_applications}
use Rattle.apply_engine.proofs.Keeping.{all_below, are_added, steps_well}
use Rattle.apply_engine.proofs.Offers.{held_tried, rule_shows}
use Rattle.apply_engine.proofs.Setting.{chooses_well_in, length_with, seeker_at}

-- what the lists of a programme show
pub record ShownAt (over : Setting) (next : List ℕ) (p : ℕ) (programme : Programme) : Type 0 where
  pub admissions : Admissions
  pub choice : ChoosesFrom over.version (seats_in over.table p) (tried p (seekers_in over) next) admissions
  pub order : AreInOrder programme
  pub shown_is : (kind : StepKind) → shown programme kind ≡ admitted_by admissions kind

shown_at : (over : Setting) (next : List ℕ) (p : ℕ) (programme : Programme) → ShowsFrom over.version (seats_in over.table p) (tried p (seekers_in over) next) programme → ShownAt over next p programme
shown_at over next p programme (admissions, choice, steps) =
    let R : StepKind → StepList → Type 0 = ShowsStep over.version (seats_in over.table p) (in_merit (seats_in over.table p).list (tried p (seekers_in over) next)) admissions in
    record {
      admissions = admissions;
      choice = choice;
      order = record {
        whole = zip_length R kinds programme.steps steps;
        each = λ j list at.
            let found = zip_back R kinds programme.steps j list steps at in
            ap step_number found.2.of_kind ∙ number_at j found.0 found.1;
      };
      shown_is = λ kind.
          let found = zip_at R kinds programme.steps (step_number kind) kind steps (kind_at kind) in
          ap admitted_of found.1 ∙ found.2.persons;
    }

-- a run, with the lists of its programmes
pub record Run (over : Setting) (next : List ℕ) (programmes : List Programme) : Type 0 where
  pub set_is : IsSet over
  pub ended : HasEnded over next
  pub listed : AreListed over next programmes

pub run_of : (over : Setting) (next : List ℕ) (states : List ProgrammeKept) (tallies : List Tried) (programmes : List Programme) → HasRun over next states tallies → AreListed over next programmes
    → Run over next programmes
run_of over next states tallies programmes run listed = record { set_is = run.set_is; ended = run.ended; listed = listed }

pub may_of : (over : Setting) (next : List ℕ) (p : ℕ) → IsSet over → HasEnded over next → p < length over.table.programmes → MayApplyIn over.table p (tried p (seekers_in over) next)
may_of over next p set ended below =
    tried_may (rule_in over) (MayApplyIn over.table) (length over.table.programmes) p (seekers_in over) next set.market
    (chooses_well_in over set.laws set.seats) below ended.underway.full ended.underway.within

at_programme : (over : Setting) (next : List ℕ) (programmes : List Programme) (p : ℕ) (programme : Programme) → Run over next programmes → slice_get programmes p ≡ Some programme
    → (p < length over.table.programmes) × ShownAt over next p programme
at_programme over next programmes p programme r at =
    ((let short = slice_get_within programmes p programme at in let f = r.listed.full in omega (arith, short, f)), shown_at over next p programme (r.listed.each p programme at))

-- a person who is shown tried the programme last
pub record Seated (over : Setting) (next : List ℕ) (p : ℕ) (person : Person) (kind : StepKind) : Type 0 where
  pub place : ℕ
  pub s : Seeker
  pub n : ℕ
  pub there : slice_get (seekers_in over) place ≡ Some s
  pub at : slice_get next place ≡ Some n
  pub person_is : person ≡ s.person
  pub last : n ≡ place_of s.list p + 1
  pub rule_is : steps_of over.version over.table p (tried p (seekers_in over) next) person kind

seated : (over : Setting) (next : List ℕ) (programmes : List Programme) (p : ℕ) (programme : Programme) (person : Person) (kind : StepKind) → Run over next programmes
    → slice_get programmes p ≡ Some programme → IsAmong person (shown programme kind) → Seated over next p person kind
seated over next programmes p programme person kind r at among =
    let here = at_programme over next programmes p programme r at in
    let is = here.1 in
    let may = may_of over next p r.set_is r.ended here.0 in
    let among' : IsAmong person (admitted_by is.admissions kind) = subst (λ l. IsAmong person l) (is.shown_is kind) among in
    let tried_it = held_tried over.version over.table p (tried p (seekers_in over) next) is.admissions person r.set_is.laws r.set_is.seats here.0 may is.choice
    (admitted_is_there is.admissions person (kind, among')) in
    let found = of_those (λ s n. nat_lt (place_of s.list p) n) (seekers_in over) next person tried_it in
    let rule_is : steps_of over.version over.table p (tried p (seekers_in over) next) person kind = (is.admissions, is.choice, among') in
    record {
      place = found.place;
      s = found.s;
      n = found.value;
      there = found.there;
      at = found.at;
      person_is = found.person_is;
      last = r.ended.underway.last p found.place found.value found.s (Under kind) here.0 found.there found.at
          (subst (λ z. steps_of over.version over.table p (tried p (seekers_in over) next) z kind) found.person_is rule_is);
      rule_is = rule_is;
    }

-- What the programmes of a run show.
pub all_shown : (over : Setting) (next : List ℕ) (programmes : List Programme) → Run over next programmes → AreShown over.people programmes
all_shown over next programmes r = record {
  few = (let a = r.listed.full in let d = r.set_is.seats.few in omega (arith, a, d));
  in_order = λ p programme at. (at_programme over next programmes p programme r at).1.order;
  of_people = λ p programme kind at person among.
      let x = seated over next programmes p programme person kind r at among in
      let place = seeker_at over.people over.lists x.place x.s x.there in
      (x.place, subst (λ z. slice_get over.people x.place ≡ Some z) (sym x.person_is) place.person_at);
  once = λ p q programme other person kind next_kind at at' among among'.
      let x = seated over next programmes p programme person kind r at among in
      let y = seated over next programmes q other person next_kind r at' among' in
      let place : x.place ≡ y.place = same_place (seekers_in over) x.place y.place x.s y.s r.set_is.market.ids x.there y.there (ap (λ (z : Person). z.id) (sym x.person_is ∙ y.person_is)) in
      let there : slice_get (seekers_in over) x.place ≡ Some y.s = subst (λ k. slice_get (seekers_in over) k ≡ Some y.s) (sym place) y.there in
      let at_n : slice_get next x.place ≡ Some y.n = subst (λ k. slice_get next k ≡ Some y.n) (sym place) y.at in
      let seeker : x.s ≡ y.s = (let e = x.there in cc) in
      let value : x.n ≡ y.n = (let e = x.at in cc) in
      let places : place_of x.s.list p ≡ place_of x.s.list q = (let a = x.last in let b = y.last in let d = ap (λ (z : Seeker). place_of z.list q) seeker in omega (arith, a, b, d, value)) in
      let less : place_of x.s.list p < length x.s.list = (let a = x.last in let short = r.ended.underway.within x.place x.n x.s x.there x.at in omega (arith, a, short)) in
      let prog : p ≡ q = one_place x.s.list p q less places in
      let below = (at_programme over next programmes p programme r at).0 in
      let second : steps_of over.version over.table p (tried p (seekers_in over) next) person next_kind =
      subst (λ k. steps_of over.version over.table k (tried k (seekers_in over) next) person next_kind) (sym prog) y.rule_is in
      let well = chooses_well_in over r.set_is.laws r.set_is.seats in
      let kinds = well.one_step p (tried p (seekers_in over) next) person (Under kind) (Under next_kind) (may_of over next p r.set_is r.ended below) x.rule_is second in
      (prog, (let same : kind ≡ next_kind = cc (kinds) in same));
}

-- The seats that they show are those that the programmes give under their steps.
pub are_step_seats : (over : Setting) (next : List ℕ) (programmes : List Programme) (seats : List (Option Seat)) → Run over next programmes
    → AreGiven over.people programmes (length programmes) seats
    → AreSeatsOf (alone (steps_of over.version over.table)) (length over.table.programmes) (seekers_in over) next seats
are_step_seats over next programmes seats r given =
    let size = length_with over.people over.lists r.set_is.full in
    let count : length programmes ≡ length over.table.programmes = r.listed.full in
    record {
      full = (let g = given.full in omega (arith, g, size));
      below = λ i seat has.
          let person = there_is over.people i (let short = slice_get_within seats i (Some seat) has in let g = given.full in omega (arith, short, g)) in
          let only = given.only i person.0 seat person.1 has in
          (let less = only.0 in omega (arith, less, count));
      each = each;
    }
  where
    each : (p i : ℕ) (s : Seeker) (kind : SeatKind) → p < length over.table.programmes → slice_get (seekers_in over) i ≡ Some s
        → alone (steps_of over.version over.table) p (tried p (seekers_in over) next) s.person kind ↔ (slice_get seats i ≡ Some (Some (seat_at p kind)))
    each p i s (Under kind) below there =
        let count : length programmes ≡ length over.table.programmes = r.listed.full in
        let less : p < length programmes = omega (arith, below, count) in
        let programme = there_is programmes p less in
        let is = (at_programme over next programmes p programme.0 r programme.1).1 in
        let person = (seeker_at over.people over.lists i s there).person_at in
        let may = may_of over next p r.set_is r.ended below in (
          λ rule_is.
              let among = rule_shows over.version over.table p (tried p (seekers_in over) next) is.admissions s.person kind r.set_is.laws r.set_is.seats below may is.choice rule_is in
              given.given p i programme.0 s.person kind less programme.1 person (subst (λ l. IsAmong s.person l) (sym (is.shown_is kind)) among),
          λ has.
              let shows = (given.only i s.person (seat_at p (Under kind)) person has).1 in
              let same : shows.kind ≡ kind = (let e = shows.under in cc (e)) in
              let among = subst (λ k. IsAmong s.person (shown programme.0 k)) same (shows.among programme.0 programme.1) in
              (is.admissions, is.choice, subst (λ l. IsAmong s.person l) (is.shown_is kind) among),
        )
    each p i s Kept below there = (
      (λ none. absurd none),
      (λ has.
          let shows = (given.only i s.person (seat_at p Kept) (seeker_at over.people over.lists i s there).person_at has).1 in
          absurd (let e = shows.under in cc (e))),
    )

-- ---- the round

-- where the applications ended, everybody is settled
all_settled : (over : Setting) (next : List ℕ) → IsSet over → HasEnded over next → (i n : ℕ) (s : Seeker) → slice_get (seekers_in over) i ≡ Some s → slice_get next i ≡ Some n
    → IsSettled (rule_in over) (length over.table.programmes) (seekers_in over) next s n
all_settled over next set ended i n s there at =
    ended.settled i n s (slice_get_within over.people i s.person (seeker_at over.people over.lists i s there).person_at) there at

-- Along the seats of the register stand the lists, the guarantees and how much was tried.
pub are_tried : (over : Setting) (next : List ℕ) (people : List Person) (lists : List (List ProgId)) (guaranteed : List (Option ProgId)) (told : List ℕ) (own : List (Option Seat))
    → IsOver over people lists guaranteed → IsSet over → HasEnded over next → told ≡ next → length own ≡ length people → AreTried lists guaranteed told own
are_tried over next people lists guaranteed told own over_is set ended same full =
    let people_same : length over.people ≡ length people = ap length over_is.people_is in
    let size = length_with over.people over.lists set.full in
    subst (λ (l : List (List ProgId)). AreTried l guaranteed told own) over_is.lists_is
    (subst (λ (g : List (Option ProgId)). AreTried over.lists g told own) over_is.guaranteed_is
    (subst (λ (n : List ℕ). AreTried over.lists over.guaranteed n own) (sym same)
    (record {
      lists_full = (let a = set.full in omega (arith, a, full, people_same));
      sure = (let a = set.sure in omega (arith, a, full, people_same));
      full = (let a = ended.underway.full in omega (arith, a, full, people_same, size));
      in_place = λ i list at k prog here.
          let less : i < length (seekers_in over) = (let short = slice_get_within over.lists i list at in let a = set.full in omega (arith, short, a, size)) in
          let s = there_is (seekers_in over) i less in
          let row = seeker_at over.people over.lists i s.0 s.1 in
          let same_list : s.0.list ≡ list = (let e = row.list_at in cc) in
          subst (λ l. place_of l prog.0 ≡ k) same_list (set.market.distinct i k s.0 prog s.1 (subst (λ l. slice_get l k ≡ Some prog) (sym same_list) here));
      within = λ i n list at here.
          let less : i < length (seekers_in over) = (let short = slice_get_within over.lists i list at in let a = set.full in omega (arith, short, a, size)) in
          let s = there_is (seekers_in over) i less in
          let row = seeker_at over.people over.lists i s.0 s.1 in
          let same_list : s.0.list ≡ list = (let e = row.list_at in cc) in
          subst (λ l. n ≤ length l) same_list (ended.underway.within i n s.0 s.1 here);
    })))

-- The seats that were made are those over the setting.
pub seats_over : (over : Setting) (next : List ℕ) (people : List Person) (lists : List (List ProgId)) (guaranteed : List (Option ProgId)) (told : List ℕ) (programmes given : List Programme)
    (seats : List (Option Seat)) → IsOver over people lists guaranteed → told ≡ next → given ≡ programmes → AreSeated people given lists guaranteed told seats
    → AreSeated over.people programmes over.lists over.guaranteed next seats
seats_over over next people lists guaranteed told programmes given seats over_is same same_given seated =
    subst (λ (p : List Person). AreSeated p programmes over.lists over.guaranteed next seats) (sym over_is.people_is)
    (subst (λ (l : List (List ProgId)). AreSeated people programmes l over.guaranteed next seats) (sym over_is.lists_is)
    (subst (λ (g : List (Option ProgId)). AreSeated people programmes lists g next seats) (sym over_is.guaranteed_is)
    (subst (λ (n : List ℕ). AreSeated people programmes lists guaranteed n seats) same
    (subst (λ (ps : List Programme). AreSeated people ps lists guaranteed told seats) same_given seated))))

-- The seats of a round: those under steps, and those that are kept beyond them.
pub record AllSeats (over : Setting) (next : List ℕ) (programmes : List Programme) (seats : List (Option Seat)) : Type 0 where
  pub run : Run over next programmes
  pub seated : AreSeated over.people programmes over.lists over.guaranteed next seats

-- They are those that the programmes give.
pub are_seats : (over : Setting) (next : List ℕ) (programmes : List Programme) (seats : List (Option Seat)) → AllSeats over next programmes seats
    → AreSeatsOf (rule_in over) (length over.table.programmes) (seekers_in over) next seats
are_seats over next programmes seats all =
    let firsts = are_step_seats over next programmes all.seated.own all.run all.seated.given in
    added.are_seats (guarantees over.people over.guaranteed) (steps_of over.version over.table) (MayApplyIn over.table) (steps_well over all.run.set_is)
    (length over.table.programmes) (seekers_in over) next all.seated.own seats all.run.set_is.market all.run.ended.underway firsts (all.seated.kept.full ∙ firsts.full)
    (are_added over next all.seated.own seats all.run.set_is all.run.ended all.seated.kept) (all_below over next all.seated.own seats all.run.set_is all.run.ended all.seated.kept (alone (steps_of over.version over.table)) firsts)

-- The round of a run.
pub made : (over : Setting) (next : List ℕ) (programmes : List Programme) (seats : List (Option Seat)) (n : ℕ) (seeks : List Seek) → AllSeats over next programmes seats
    → IsMade over n seeks (record { number = n; seeks = seeks; seats = seats; programmes = programmes })
made over next programmes seats n seeks all =
    let r = all.run in
    let are = are_seats over next programmes seats all in
    let settled = all_settled over next r.set_is r.ended in
    record {
      number = refl;
      sought = refl;
      best = ends_best (rule_in over) (MayApplyIn over.table) (length over.table.programmes) (seekers_in over) next seats r.set_is.market
          (chooses_well_in over r.set_is.laws r.set_is.seats) r.ended.underway are settled;
      count = r.listed.full;
      shown = λ p programme at.
          let same : tried p (seekers_in over) next ≡ applicants p (seekers_in over) seats =
          sym (settled_applicants (rule_in over) (MayApplyIn over.table) (length over.table.programmes) p (seekers_in over) next seats r.ended.underway are settled) in
          subst (λ people. ShowsFrom over.version (seats_in over.table p) people programme) same (r.listed.each p programme at);
    }

-- The programmes that were tried in a run are the applications down to its seats.
pub run_applications : (over : Setting) (next : List ℕ) (programmes : List Programme) (seats : List (Option Seat)) → AllSeats over next programmes seats
    → sum next ≡ applications (seekers_in over) seats
run_applications over next programmes seats all =
    settled_applications (rule_in over) (length over.table.programmes) (seekers_in over) next seats all.run.ended.underway (are_seats over next programmes seats all)
    (all_settled over next all.run.set_is all.run.ended)

-- What came to a programme of a run: those who tried it.
pub have_come : (over : Setting) (next : List ℕ) (states : List ProgrammeKept) (tallies : List Tried) (p : ℕ) (state : ProgrammeKept) (tally : Tried) → HasRun over next states tallies
    → slice_get states p ≡ Some state → slice_get tallies p ≡ Some tally → HaveCome state tally (tried p (seekers_in over) next)
have_come over next states tallies p state tally run at at' =
    let below : p < length over.table.programmes = (let less = slice_get_within states p state at in let f = run.shows.full in omega (arith, less, f)) in
    let shows = run.shows.each p state at in
    let may = may_of over next p run.set_is run.ended below in
    let people = tried p (seekers_in over) next in
    let seats = sym shows.seats_are in
    record {
      may = subst (λ (s : ProgrammeSeats). AreApplicants s.list people) seats may;
      choice = subst (λ (s : ProgrammeSeats). ChoosesFrom state.version s people (admissions_of state)) seats (subst (λ v. ChoosesFrom v (seats_in over.table p) people (admissions_of state)) (sym shows.version_is) shows.choice);
      counts = run.tallied.each p tally at' ∙ ap (λ (s : ProgrammeSeats). counted s.list people) seats;
    }

-- what is shown from those who came is shown from those who tried
pub shows_tried : (over : Setting) (next : List ℕ) (states : List ProgrammeKept) (tallies : List Tried) (p : ℕ) (state : ProgrammeKept) (programme : Programme) → HasRun over next states tallies
    → slice_get states p ≡ Some state → ShowsFrom state.version state.seats (tried p (seekers_in over) next) programme
    → ShowsFrom over.version (seats_in over.table p) (tried p (seekers_in over) next) programme
shows_tried over next states tallies p state programme run at shown =
    let is = run.shows.each p state at in
    let people = tried p (seekers_in over) next in
    subst (λ v. ShowsFrom v (seats_in over.table p) people programme) is.version_is (subst (λ (s : ProgrammeSeats). ShowsFrom state.version s people programme) is.seats_are shown)
