-- What is so after an offer was answered.
use Rattle.std.proofs.Common.{◌≡◌, ◌≢◌, ◌<◌, ◌+◌, ◌⊎◌, if◌then◌else◌, Bool, true, false, inl, inr, ℕ, List, ◌∷◌, Some, None, length, slice_set, arith, refl, sym, ap, ◌∙◌, subst, nat_lt}
use Rattle.std.specs.Prelude.{slice_get}
use Rattle.std.proofs.lemmas.Option.{slice_get_within}
use Rattle.office_base.specs.Lists.{IsAmong}
use Rattle.office_base.specs.declared.person.CandId.{CandId}
use Rattle.office_base.specs.declared.person.Person.{Person}
use Rattle.office_base.proofs.Lists.{get_set_other}
use Rattle.office_base.proofs.People.{at_person-get}
use Rattle.kept_seats.specs.Kept.{Guarantees}
use Rattle.kept_seats.proofs.Kept.{chosen, decided_alone, widens}
use Rattle.kept_seats.proofs.Offers.{RuleKeepsAllBut, keeps_all, keeps_all_but, lets_go, sure}
use Rattle.placements.specs.Ranks.{AreAmong}
use Rattle.placements.proofs.Ranks.{any_all, among_itself}
use Rattle.merit_choice.specs.declared.state.Offered.{Offered}
use Rattle.merit_choice.specs.declared.state.Offered.TheVariants.{Taken, Displaced, Refused}
use Rattle.allocations.specs.Course.{IsUnderway, KeepsAllBut, MayTry, tried}
use Rattle.allocations.specs.Market.{Seeker, place_of}
use Rattle.allocations.specs.Rule.{Admits, Refuses}
use Rattle.allocations.proofs.Course.{get_set_same, goes_on}
use Rattle.allocations.proofs.Settled.{not_held, settled_displaced, settled_refused, settled_taken}
use Rattle.allocations.proofs.Those.{of_those, same_place}
use Rattle.open_then_category.specs.State.{IsAnswered, ProgrammeKept, admissions_of}
use Rattle.programme_lists.specs.Chosen.{AreApplicants, ChoosesFrom, everybody}
use Rattle.rank_lists.specs.Register.{row_of}
use Rattle.rounds.specs.Rule.{MayApplyIn, steps_of}
use Rattle.seat_matrix.specs.Matrix.{seats_in}
use Rattle.seat_matrix.specs.declared.seats.ProgrammeSeats.{ProgrammeSeats}
use Rattle.apply_engine.specs.Engine.{IsGoing, IsSet, Leaves, Setting, free_at, rule_in, seekers_in}
use Rattle.rounds.specs.Rule.{guarantees, is_programme}
use Rattle.round_laws.proofs.Everybody.{admitted_is_there, there_is_admitted}
use Rattle.apply_engine.proofs.Offers.{Facts, all_of, all_show, facts, goes_on_choice, held_tried, ids_apart, new_to_held, refused_shows, rule_shows, shown_admits}
use Rattle.round_laws.proofs.People.{row_at}
use Rattle.apply_engine.proofs.Setting.{chooses_well_in, seeker_at}

-- an offer that may be made
pub record Offer (set : Setting) (next : List ℕ) (states : List ProgrammeKept) (cur p n : ℕ) (s : Seeker) (old : ProgrammeKept) : Type 0 where
  pub set_is : IsSet set
  pub going : IsGoing set next states
  pub try : MayTry (rule_in set) (length set.table.programmes) (seekers_in set) next cur p n s
  pub at : slice_get states p ≡ Some old

underway_after : (set : Setting) (next : List ℕ) (states : List ProgrammeKept) (cur p n : ℕ) (s : Seeker) (old : ProgrammeKept) → Offer set next states cur p n s old
    → IsUnderway (rule_in set) (length set.table.programmes) (seekers_in set) (slice_set next cur (n + 1))
underway_after set next states cur p n s old o =
    goes_on (rule_in set) (MayApplyIn set.table) (length set.table.programmes) p cur n (seekers_in set) next s o.set_is.market
    (chooses_well_in set o.set_is.laws o.set_is.seats) o.going.underway o.try

facts_of : (set : Setting) (next : List ℕ) (states : List ProgrammeKept) (cur p n : ℕ) (s : Seeker) (old : ProgrammeKept) → Offer set next states cur p n s old
    → Facts set.version set.table (seekers_in set) next cur p n s
facts_of set next states cur p n s old o =
    facts (rule_in set) set.version set.table (seekers_in set) next cur p n s (chooses_well_in set o.set_is.laws o.set_is.seats) o.set_is.market o.going.underway
    (underway_after set next states cur p n s old o) o.try

-- the choice that the state shows before the offer
before_choice : (set : Setting) (next : List ℕ) (states : List ProgrammeKept) (cur p n : ℕ) (s : Seeker) (old : ProgrammeKept) → Offer set next states cur p n s old
    → ChoosesFrom set.version (seats_in set.table p) (tried p (seekers_in set) next) (admissions_of old)
before_choice set next states cur p n s old o = (o.going.shows.each p old o.at).choice

-- The seeker may be offered to the programme.
pub may_be_offered : (set : Setting) (next : List ℕ) (states : List ProgrammeKept) (cur p n : ℕ) (s : Seeker) (old : ProgrammeKept) → Offer set next states cur p n s old
    → AreApplicants old.seats.list (s.person ∷ everybody (admissions_of old))
may_be_offered set next states cur p n s old o =
    let f = facts_of set next states cur p n s old o in
    let choice = before_choice set next states cur p n s old o in
    let new = new_to_held set.version set.table (seekers_in set) next cur p n s (admissions_of old) o.set_is.laws o.set_is.seats o.try.below f choice in
    let once = o.set_is.laws.once set.version (seats_in set.table p) (tried p (seekers_in set) next) (admissions_of old) (o.set_is.seats.sound p o.try.below) f.may choice in
    let after = tried p (seekers_in set) (slice_set next cur (n + 1)) in
    let among : AreAmong (s.person ∷ everybody (admissions_of old)) after = (
      f.with_one.there,
      all_of (λ x. IsAmong x after) (everybody (admissions_of old))
          (λ other there. widens other _ _ f.with_one.within (held_tried set.version set.table p _ (admissions_of old) other o.set_is.laws o.set_is.seats o.try.below f.may choice there)),
    ) in
    let ranked = o.set_is.laws.part (seats_in set.table p).list (s.person ∷ everybody (admissions_of old)) after (new.distinct, once.0) f.may_after among in
    subst (λ (seats : ProgrammeSeats). AreApplicants seats.list (s.person ∷ everybody (admissions_of old))) (sym (o.going.shows.each p old o.at).seats_are) ranked

-- what the programme gives back
pub record Given (set : Setting) (next : List ℕ) (states : List ProgrammeKept) (cur p n : ℕ) (s : Seeker) (old new : ProgrammeKept) (result : Offered) : Type 0 where
  pub offer : Offer set next states cur p n s old
  pub stays : new ≡ record old { held = new.held }
  pub choice : ChoosesFrom old.version old.seats (s.person ∷ everybody (admissions_of old)) (admissions_of new)
  pub answer : IsAnswered old s.person result new

after_choice : (set : Setting) (next : List ℕ) (states : List ProgrammeKept) (cur p n : ℕ) (s : Seeker) (old new : ProgrammeKept) (result : Offered)
    → Given set next states cur p n s old new result → ChoosesFrom set.version (seats_in set.table p) (tried p (seekers_in set) (slice_set next cur (n + 1))) (admissions_of new)
after_choice set next states cur p n s old new result g =
    let o = g.offer in
    let shown = o.going.shows.each p old o.at in
    let first = subst (λ seats. ChoosesFrom old.version seats (s.person ∷ everybody (admissions_of old)) (admissions_of new)) shown.seats_are g.choice in
    let second = subst (λ v. ChoosesFrom v (seats_in set.table p) (s.person ∷ everybody (admissions_of old)) (admissions_of new)) shown.version_is first in
    goes_on_choice set.version set.table (seekers_in set) next cur p n s (admissions_of old) (admissions_of new) o.set_is.laws o.set_is.seats o.try.below
    (facts_of set next states cur p n s old o) shown.choice second

-- The applications go on.
pub going_after : (set : Setting) (next : List ℕ) (states : List ProgrammeKept) (cur p n : ℕ) (s : Seeker) (old new : ProgrammeKept) (result : Offered)
    → Given set next states cur p n s old new result → IsGoing set (slice_set next cur (n + 1)) (slice_set states p new)
going_after set next states cur p n s old new result g =
    let o = g.offer in
    let shown = o.going.shows.each p old o.at in
    record {
      underway = underway_after set next states cur p n s old o;
      shows = all_show (rule_in set) set.version set.table (seekers_in set) next states cur p n s old new o.going.shows o.try o.at (record {
        version_is = ap (λ (z : ProgrammeKept). z.version) g.stays ∙ shown.version_is;
        seats_are = ap (λ (z : ProgrammeKept). z.seats) g.stays ∙ shown.seats_are;
        choice = after_choice set next states cur p n s old new result g;
      });
    }

-- whom the programme admitted before is one of those held
was_held : (set : Setting) (next : List ℕ) (states : List ProgrammeKept) (cur p n : ℕ) (s : Seeker) (old : ProgrammeKept) (person : Person) → Offer set next states cur p n s old
    → Admits (steps_of set.version set.table) p (tried p (seekers_in set) next) person → IsAmong person (everybody (admissions_of old))
was_held set next states cur p n s old person o admitted =
    let f = facts_of set next states cur p n s old o in
    admitted_is_there (admissions_of old) person (
      admitted.0,
      rule_shows set.version set.table p (tried p (seekers_in set) next) (admissions_of old) person admitted.0 o.set_is.laws o.set_is.seats o.try.below f.may (before_choice set next states cur p n s old o) admitted.1,
    )

-- a person who is held after the offer is admitted
is_admitted : (set : Setting) (next : List ℕ) (states : List ProgrammeKept) (cur p n : ℕ) (s : Seeker) (old new : ProgrammeKept) (result : Offered) (person : Person)
    → Given set next states cur p n s old new result → IsAmong person (everybody (admissions_of new))
    → Admits (steps_of set.version set.table) p (tried p (seekers_in set) (slice_set next cur (n + 1))) person
is_admitted set next states cur p n s old new result person g there =
    shown_admits set.version set.table p (tried p (seekers_in set) (slice_set next cur (n + 1))) (admissions_of new) person (after_choice set next states cur p n s old new result g) (there_is_admitted (admissions_of new) person there)

-- a person who is not held after the offer is refused
is_refused : (set : Setting) (next : List ℕ) (states : List ProgrammeKept) (cur p n : ℕ) (s : Seeker) (old new : ProgrammeKept) (result : Offered) (person : Person)
    → Given set next states cur p n s old new result → (IsAmong person (everybody (admissions_of new)) → ⊥)
    → Refuses (steps_of set.version set.table) p (tried p (seekers_in set) (slice_set next cur (n + 1))) person
is_refused set next states cur p n s old new result person g apart =
    let o = g.offer in
    let f = facts_of set next states cur p n s old o in
    refused_shows set.version set.table p (tried p (seekers_in set) (slice_set next cur (n + 1))) (admissions_of new) person o.set_is.laws o.set_is.seats o.try.below f.may_after (after_choice set next states cur p n s old new result g)
    (λ kind there. apart (admitted_is_there (admissions_of new) person (kind, there)))

-- ---- with guarantees

-- who is guaranteed a seat, by the place
sure_at : (set : Setting) (p out : ℕ) (t : Seeker) → IsSet set → slice_get (seekers_in set) out ≡ Some t → guarantees set.people set.guaranteed p t.person ≡ is_programme p (slice_get set.guaranteed out)
sure_at set p out t set_is there = ap (λ o. is_programme p o) (at_person-get set.people set.guaranteed out t.person set_is.rising (seeker_at set.people set.lists out t there).person_at)

-- the programme admits or refuses each, from those who tried it
decides : (set : Setting) (next : List ℕ) (states : List ProgrammeKept) (cur p n : ℕ) (s : Seeker) (old : ProgrammeKept) → Offer set next states cur p n s old → (x : Person)
    → Admits (steps_of set.version set.table) p (tried p (seekers_in set) (slice_set next cur (n + 1))) x ⊎ Refuses (steps_of set.version set.table) p (tried p (seekers_in set) (slice_set next cur (n + 1))) x
decides set next states cur p n s old o x =
    decided_alone (guarantees set.people set.guaranteed) (steps_of set.version set.table) p (tried p (seekers_in set) (slice_set next cur (n + 1))) x
    ((chooses_well_in set o.set_is.laws o.set_is.seats).decided p (tried p (seekers_in set) (slice_set next cur (n + 1))) x (facts_of set next states cur p n s old o).may_after)

-- where the rule keeps all but one, so does the programme
keeps_but : (set : Setting) (next : List ℕ) (states : List ProgrammeKept) (cur p n : ℕ) (s : Seeker) (old : ProgrammeKept) → Offer set next states cur p n s old → (out : ℕ)
    → RuleKeepsAllBut (steps_of set.version set.table) p (seekers_in set) next (slice_set next cur (n + 1)) out
    → KeepsAllBut (rule_in set) p (seekers_in set) next (slice_set next cur (n + 1)) out
keeps_but set next states cur p n s old o out keeps =
    let f = facts_of set next states cur p n s old o in
    keeps_all_but (guarantees set.people set.guaranteed) (steps_of set.version set.table) p (seekers_in set) next (slice_set next cur (n + 1))
    (decides set next states cur p n s old o) out (λ x among. widens x _ _ f.with_one.within among) keeps

-- who is free where one is not chosen: nobody, if that one is guaranteed a seat there
by_guarantee : (set : Setting) (before after : List ℕ) (cur place : ℕ) (b : Bool) → (b ≡ true → Leaves set before after cur None) → (b ≡ false → Leaves set before after cur (Some place))
    → Leaves set before after cur (if b then None else Some place)
by_guarantee set before after cur place true kept free = kept refl
by_guarantee set before after cur place false kept free = free refl

-- Nobody left: all are settled.
pub leaves_taken : (set : Setting) (next : List ℕ) (states : List ProgrammeKept) (cur p n : ℕ) (s : Seeker) (old new : ProgrammeKept)
    → Given set next states cur p n s old new Taken → Leaves set next (slice_set next cur (n + 1)) cur None
leaves_taken set next states cur p n s old new g = λ first settled.
    settled_taken (rule_in set) (length set.table.programmes) p cur n first (seekers_in set) next s g.offer.try settled
    (λ out. keeps_but set next states cur p n s old g.offer out
    (λ j t there apart admitted. is_admitted set next states cur p n s old new Taken t.person g ((g.answer t.person).1 (inr (was_held set next states cur p n s old t.person g.offer admitted)))))
    (chosen (guarantees set.people set.guaranteed) (steps_of set.version set.table) p (tried p (seekers_in set) (slice_set next cur (n + 1))) s.person
    (is_admitted set next states cur p n s old new Taken s.person g ((g.answer s.person).1 (inl refl))))

-- The seeker was refused, and is free still, unless guaranteed a seat there.
pub leaves_refused : (set : Setting) (next : List ℕ) (states : List ProgrammeKept) (cur p n : ℕ) (s : Seeker) (old new : ProgrammeKept)
    → Given set next states cur p n s old new Refused → Leaves set next (slice_set next cur (n + 1)) cur (free_at set.guaranteed cur p)
leaves_refused set next states cur p n s old new g =
    let o = g.offer in
    let f = facts_of set next states cur p n s old o in
    let after = underway_after set next states cur p n s old o in
    let same : everybody (admissions_of new) ≡ everybody (admissions_of old) = ap (λ (z : ProgrammeKept). everybody (admissions_of z)) g.answer in
    let at' = get_set_same next cur (n + 1) n o.try.at in
    let apart : IsAmong s.person (everybody (admissions_of new)) → ⊥ = λ there.
    f.with_one.fresh (held_tried set.version set.table p _ (admissions_of old) s.person o.set_is.laws o.set_is.seats o.try.below f.may (before_choice set next states cur p n s old o)
    (subst (λ people. IsAmong s.person people) same there)) in
    let refused = is_refused set next states cur p n s old new Refused s.person g apart in
    let keeps : (out : ℕ) → KeepsAllBut (rule_in set) p (seekers_in set) next (slice_set next cur (n + 1)) out = λ out. keeps_but set next states cur p n s old o out
    (λ j t there apart' admitted. is_admitted set next states cur p n s old new Refused t.person g
    (subst (λ people. IsAmong t.person people) (sym same) (was_held set next states cur p n s old t.person o admitted))) in
    let one = sure_at set p cur s o.set_is o.try.there in
    by_guarantee set next (slice_set next cur (n + 1)) cur cur (is_programme p (slice_get set.guaranteed cur))
    (λ is_sure first settled. settled_taken (rule_in set) (length set.table.programmes) p cur n first (seekers_in set) next s o.try settled keeps
    (sure (guarantees set.people set.guaranteed) (steps_of set.version set.table) p (seekers_in set) next (slice_set next cur (n + 1)) (decides set next states cur p n s old o) s.person
    (one ∙ is_sure) f.with_one.there))
    (λ unsure. record {
      free = record {
        s = s;
        n = n + 1;
        there = o.try.there;
        at = at';
        free = not_held (rule_in set) (MayApplyIn set.table) (length set.table.programmes) p cur (n + 1) (seekers_in set) (slice_set next cur (n + 1)) s
            (let e = o.try.place in omega (arith, e)) (after.within cur (n + 1) s o.try.there at')
            (lets_go (guarantees set.people set.guaranteed) (steps_of set.version set.table) p (seekers_in set) next (slice_set next cur (n + 1)) (decides set next states cur p n s old o) s.person
            (λ is_sure. let no : is_programme p (slice_get set.guaranteed cur) ≡ true = sym one ∙ is_sure in cc) refused);
      };
      tried_some = λ m at. let value : m ≡ n + 1 = cc in omega (arith, value);
      settled = λ first settled. settled_refused (rule_in set) (length set.table.programmes) p cur n first (seekers_in set) next s o.try settled keeps;
    })

-- the one who left, by the place
pub record Gone (set : Setting) (next : List ℕ) (cur p n : ℕ) (cand : CandId) : Type 0 where
  pub out : ℕ
  pub row : row_of cand.0 set.people ≡ Some out
  pub within : out < length set.people
  pub leaves : Leaves set next (slice_set next cur (n + 1)) cur (free_at set.guaranteed out p)

pub leaves_displaced : (set : Setting) (next : List ℕ) (states : List ProgrammeKept) (cur p n : ℕ) (s : Seeker) (old new : ProgrammeKept) (cand : CandId)
    → Given set next states cur p n s old new (Displaced cand) → Gone set next cur p n cand
leaves_displaced set next states cur p n s old new cand g =
    let o = g.offer in
    let base = steps_of set.version set.table in
    let rule = rule_in set in
    let sure_of : Guarantees = guarantees set.people set.guaranteed in
    let count = length set.table.programmes in
    let seekers = seekers_in set in
    let f = facts_of set next states cur p n s old o in
    let after = underway_after set next states cur p n s old o in
    let one = any_all (λ (one : Person). one.id ≡ cand) (λ one. IsAmong one (everybody (admissions_of old))) (everybody (admissions_of old)) g.answer.0 (among_itself (everybody (admissions_of old))) in
    let gone : Person = one.0 in
    let tried_it = held_tried set.version set.table p _ (admissions_of old) gone o.set_is.laws o.set_is.seats o.try.below f.may (before_choice set next states cur p n s old o) one.2 in
    let found = of_those (λ s n. nat_lt (place_of s.list p) n) seekers next gone tried_it in
    let out : ℕ = found.place in
    let t : Seeker = found.s in
    let person : t.person.id ≡ cand = ap (λ (z : Person). z.id) (sym found.person_is) ∙ one.1 in
    let mine : s.person.id ≢ gone.id = ids_apart _ s.person gone f.may_after.distinct f.with_one.there (widens gone _ _ f.with_one.within tried_it)
    (λ e. f.with_one.fresh (subst (λ z. IsAmong z (tried p seekers next)) (sym e) tried_it)) in
    let elsewhere : out ≢ cur = λ e.
    let there' : slice_get seekers cur ≡ Some t = subst (λ k. slice_get seekers k ≡ Some t) e found.there in
    let same : s ≡ t = (let e' = o.try.there in cc) in
    mine (ap (λ (z : Seeker). z.person.id) same ∙ ap (λ (z : Person). z.id) (sym found.person_is)) in
    let at' : slice_get (slice_set next cur (n + 1)) out ≡ Some found.value = get_set_other next cur out (n + 1) elsewhere ∙ found.at in
    let admitted : Admits base p (tried p seekers next) t.person =
    subst (λ z. Admits base p (tried p seekers next) z) found.person_is
    (shown_admits set.version set.table p (tried p seekers next) (admissions_of old) gone (before_choice set next states cur p n s old o) (there_is_admitted (admissions_of old) gone one.2)) in
    let admitted' = chosen sure_of base p (tried p seekers next) t.person admitted in
    let last = o.going.underway.last p out found.value t admitted'.0 o.try.below found.there found.at admitted'.1 in
    let refused : Refuses base p (tried p seekers (slice_set next cur (n + 1))) t.person =
    subst (λ z. Refuses base p (tried p seekers (slice_set next cur (n + 1))) z) found.person_is
    (is_refused set next states cur p n s old new (Displaced cand) gone g (λ there. ((g.answer.1 gone).0 there).1 one.1)) in
    let keeps : RuleKeepsAllBut base p seekers next (slice_set next cur (n + 1)) out = λ j u there apart held. is_admitted set next states cur p n s old new (Displaced cand) u.person g
    ((g.answer.1 u.person).1 (
      inr (was_held set next states cur p n s old u.person o held),
      λ e. apart (same_place seekers j out u t o.set_is.market.ids there found.there (e ∙ sym person)),
    )) in
    let taken = chosen sure_of base p (tried p seekers (slice_set next cur (n + 1))) s.person
    (is_admitted set next states cur p n s old new (Displaced cand) s.person g ((g.answer.1 s.person).1 (inl refl, λ e. mine (e ∙ sym one.1)))) in
    let told = sure_at set p out t o.set_is found.there in
    record {
      out = out;
      within = slice_get_within set.people out t.person (seeker_at set.people set.lists out t found.there).person_at;
      row = subst (λ (c : CandId). row_of c.0 set.people ≡ Some out) person (row_at set.people out t.person o.set_is.rising (seeker_at set.people set.lists out t found.there).person_at);
      leaves = by_guarantee set next (slice_set next cur (n + 1)) cur out (is_programme p (slice_get set.guaranteed out))
          (λ is_sure first settled. settled_taken rule count p cur n first seekers next s o.try settled
          (keeps_all sure_of base p seekers next (slice_set next cur (n + 1)) (decides set next states cur p n s old o) out t (λ x among. widens x _ _ f.with_one.within among) keeps found.there
          (told ∙ is_sure) (subst (λ z. IsAmong z (tried p seekers (slice_set next cur (n + 1)))) found.person_is (widens gone _ _ f.with_one.within tried_it)))
          taken)
          (λ unsure. record {
            free = record {
              s = t;
              n = found.value;
              there = found.there;
              at = at';
              free = not_held rule (MayApplyIn set.table) count p out found.value seekers (slice_set next cur (n + 1)) t last (after.within out found.value t found.there at')
                  (lets_go sure_of base p seekers next (slice_set next cur (n + 1)) (decides set next states cur p n s old o) t.person
                  (λ is_sure. let no : is_programme p (slice_get set.guaranteed out) ≡ true = sym told ∙ is_sure in cc) refused);
            };
            tried_some = λ m at. let value : m ≡ found.value = cc in omega (arith, value, last);
            settled = λ first settled. settled_displaced rule count p cur n first out seekers next s o.try settled (keeps_but set next states cur p n s old o out keeps) taken;
          });
    }
