-- Those who enter the rounds of a season: the people of its register with their choice lists, by any matrix of its programmes.
use Rattle.std.proofs.Common.{◌≡◌, ◌<◌, ◌-◌, ℕ, zero, suc, true, false, List, [], ◌∷◌, Option, Some, None, length, map, refl, sym, ap, ◌∙◌, subst, ◌==◌}
use Rattle.std.specs.Prelude.{slice_get, IsSome, IsTrue}
use Rattle.std.proofs.lemmas.Bool.{cond-false, cond-true, eq-eqb}
use Rattle.std.specs.List.{AllByRecursion}
use Rattle.office_base.proofs.Lists.{all-get, all_from}
use Rattle.office_base.specs.Lists.{Pairwise}
use Rattle.office_base.specs.Person.{number_in}
use Rattle.office_base.specs.declared.person.Person.{Person}
use Rattle.office_base.specs.declared.person.ProgId.{ProgId}
use Rattle.rank_lists.specs.Register.{AreRanks, Ranks, find_person}
use Rattle.choice_lists.specs.Choices.{AreChoices, IsChoice, Lists, is_ranked_for, is_ranked_there, list_of, listed}
use Rattle.seat_matrix.specs.Matrix.{SeatTable, list_in}
use Rattle.seat_matrix.specs.declared.entry.Home.{Home}
use Rattle.rounds.specs.Rule.{AreEntrants, IsOwnList}
use Rattle.round_laws.specs.Laws.{lists_in}
use Rattle.round_laws.proofs.People.{apart_of_less, distinct_of_rising, found_at, one_row}

-- the list at a place is that of the person there
pub list_at_place : (lists : Lists) (people : List Person) (i : ℕ) (person : Person) (list : List ProgId) → map (λ (held : ℕ × List ProgId). held.0) lists ≡ map (λ (p : Person). p.id.0) people
    → Pairwise (λ (a b : Person). a.id.0 < b.id.0) people → slice_get people i ≡ Some person → slice_get (lists_in lists) i ≡ Some list → list_of lists person.id.0 ≡ list
list_at_place [] people i person list aligned rising at at' = absurd (cc)
list_at_place (held ∷ lists) [] i person list aligned rising at at' = absurd (cc)
list_at_place (held ∷ lists) (x ∷ people) zero person list aligned rising at at' =
    let same : x ≡ person = cc in
    let here : held.1 ≡ list = cc in
    let id : held.0 ≡ x.id.0 = cc in
    let test : (person.id.0 == held.0) ≡ true = eq-eqb person.id.0 held.0 (ap (λ (z : Person). z.id.0) (sym same) ∙ sym id) in
    ap listed (cond-true (person.id.0 == held.0) (Some held.1) _ test) ∙ here
list_at_place (held ∷ lists) (x ∷ people) (suc i) person list aligned rising at at' =
    let less = all-get (λ (b : Person). x.id.0 < b.id.0) people i person rising.0 at in
    let id : held.0 ≡ x.id.0 = cc in
    let rest : map (λ (held : ℕ × List ProgId). held.0) lists ≡ map (λ (p : Person). p.id.0) people = cc in
    let test : (person.id.0 == held.0) ≡ false = ap (λ n. person.id.0 == n) id ∙ apart_of_less x.id.0 person.id.0 less in
    ap listed (cond-false (person.id.0 == held.0) (Some held.1) _ test) ∙ list_at_place lists people i person list rest rising.1 at at'

-- a choice of the season is an own list
placed_for : (table : SeatTable) (person : Person) (n : ℕ) (home : Option (List ℕ × Home)) → slice_get table.programmes n ≡ home → IsTrue (is_ranked_for person home) → IsSome (number_in (list_in table n) person)
placed_for table person n None at ranked = absurd (cc)
placed_for table person n (Some held) at ranked =
    let list : list_in table n ≡ held.1.list = rw at refl in
    subst (λ l. IsSome (number_in l person)) (sym list) ranked

placed_all : (table : SeatTable) (person : Person) (progs : List ProgId) → AllByRecursion (λ (prog : ProgId). IsTrue (is_ranked_there table (Some person) prog.0)) progs
    → AllByRecursion (λ (prog : ProgId). IsSome (number_in (list_in table prog.0) person)) progs
placed_all table person [] all = tt
placed_all table person (prog ∷ progs) all = (placed_for table person prog.0 (slice_get table.programmes prog.0) refl all.0, placed_all table person progs all.1)

pub own_list : (ranks : Ranks) (table : SeatTable) (person : Person) (list : List ProgId) → find_person person.id.0 ranks.people ≡ Some person → IsChoice ranks table person.id.0 list → IsOwnList table person list
own_list ranks table person list found choice = record {
  below = choice.numbers;
  distinct = choice.distinct;
  placed = placed_all table person list (subst (λ p. AllByRecursion (λ (prog : ProgId). IsTrue (is_ranked_there table p prog.0)) list) found choice.ranked);
}

-- ---- any matrix of the same programmes

there_same : (table more : SeatTable) (who : Option Person) (n : ℕ) → more.programmes ≡ table.programmes → IsTrue (is_ranked_there table who n) → IsTrue (is_ranked_there more who n)
there_same table more None n same h = h
there_same table more (Some person) n same h = subst (λ (programmes : List (List ℕ × Home)). IsTrue (is_ranked_for person (slice_get programmes n))) (sym same) h

all_there : (table more : SeatTable) (who : Option Person) (list : List ProgId) → more.programmes ≡ table.programmes → AllByRecursion (λ (prog : ProgId). IsTrue (is_ranked_there table who prog.0)) list
    → AllByRecursion (λ (prog : ProgId). IsTrue (is_ranked_there more who prog.0)) list
all_there table more who [] same all = tt
all_there table more who (prog ∷ list) same all = (there_same table more who prog.0 same all.0, all_there table more who list same all.1)

-- choices of a matrix are choices of any matrix with the same programmes
pub same_choices : (ranks : Ranks) (table more : SeatTable) (lists : Lists) → more.programmes ≡ table.programmes → AreChoices ranks table lists → AreChoices ranks more lists
same_choices ranks table more lists same choices = λ candidate.
    let choice = choices candidate in
    record {
      distinct = choice.distinct;
      short = choice.short;
      numbers = subst (λ n. AllByRecursion (λ (prog : ProgId). prog.0 < n) (list_of lists candidate)) (ap (λ l. length l) (sym same)) choice.numbers;
      ranked = all_there table more (find_person candidate ranks.people) (list_of lists candidate) same choice.ranked;
    }

-- ---- those who enter

pub length_lists : (lists : Lists) → length (lists_in lists) ≡ length lists
length_lists [] = refl
length_lists (held ∷ lists) = ap suc (length_lists lists)

pub aligned_length : (lists : Lists) (people : List Person) → map (λ (held : ℕ × List ProgId). held.0) lists ≡ map (λ (p : Person). p.id.0) people → length lists ≡ length people
aligned_length [] [] e = refl
aligned_length [] (x ∷ people) e = absurd (cc)
aligned_length (held ∷ lists) [] e = absurd (cc)
aligned_length (held ∷ lists) (x ∷ people) e = ap suc (aligned_length lists people (cc))

-- The people of a season, with their choice lists, may enter its rounds.
pub entrants : (ranks : Ranks) (table : SeatTable) (lists : Lists) → AreRanks ranks → AreChoices ranks table lists
    → map (λ (held : ℕ × List ProgId). held.0) lists ≡ map (λ (p : Person). p.id.0) ranks.people → AreEntrants table ranks.people (lists_in lists)
entrants ranks table lists sound choices aligned = record {
  traits = all_from _ ranks.people (λ i person at. (sound.registered person.id.0 person (found_at ranks.people i person sound.rising at)).traits);
  distinct = distinct_of_rising ranks.people sound.rising;
  apart = λ list i j n a b is_list at at' first second.
      let one = sound.apart a.id.0 b.id.0 (list.0 - 1) n a b (found_at ranks.people i a sound.rising at) (found_at ranks.people j b sound.rising at') first second in
      one_row ranks.people i j a b sound.rising at at' one;
  full = length_lists lists ∙ aligned_length lists ranks.people aligned;
  own = λ i person list at at'.
      let found = found_at ranks.people i person sound.rising at in
      let same = list_at_place lists ranks.people i person list aligned sound.rising at at' in
      own_list ranks table person list found (subst (λ l. IsChoice ranks table person.id.0 l) same (choices person.id.0));
}
