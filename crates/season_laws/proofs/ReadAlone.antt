-- What is published of a state in which all is in order is read as nothing else.
use Rattle.std.proofs.Common.{◌≡◌, ◌<◌, ◌+◌, ◌^◌, ℕ, suc, List, [], ◌∷◌, Some, length, arith, refl}
use Rattle.std.specs.Prelude.{slice_get}
use Rattle.std.specs.List.{AllByRecursion}
use Rattle.office_base.specs.declared.person.Person.{Person}
use Rattle.text_readers.specs.Parts.{AreSmall, AreSpelled}
use Rattle.list_texts.specs.Laws.{ListsAreOne}
use Rattle.list_texts.specs.ListReader.{AreKnown}
use Rattle.publish.specs.Laws.{AreDistinct, FinalsAreOne, RoundsAreOne}
use Rattle.round_laws.proofs.People.{found_at}
use Rattle.office_moves.specs.Facts.{IsSound, SeasonFacts}
use Rattle.office_moves.specs.Moves.{allot_rows}
use Rattle.season_laws.specs.ReadBack.{PublishedIsRead, PublishedIsReadAlone}

-- the ids of a register are small
small : (facts : SeasonFacts) → IsSound facts → AreSmall facts.people
small facts sound =
    all facts.people (λ i person at.
    let most = (sound.ranks.registered person.id.0 person (found_at facts.people i person sound.ranks.rising at)).high in
    omega (arith, most))
  where
    all : (people : List Person) → ((i : ℕ) (person : Person) → slice_get people i ≡ Some person → person.id.0 < 2 ^ 32) → AllByRecursion (λ (person : Person). person.id.0 < 2 ^ 32) people
    all [] each = tt
    all (person ∷ people) each = (each 0 person refl, all people (λ i. each (suc i)))

distinct : (facts : SeasonFacts) → IsSound facts → AreSpelled facts.matrix → AreDistinct facts.matrix facts.people
distinct facts sound spelled = record {
  spelled = spelled;
  codes = sound.seats.codes;
  small = small facts sound;
  few = (let few = sound.ranks.few in omega (arith, few));
}

known : (facts : SeasonFacts) → IsSound facts → AreSpelled facts.matrix → 0 < length facts.matrix.programmes → AreKnown facts.matrix facts.people
known facts sound spelled some = record {
  some = some;
  spelled = spelled;
  codes = sound.seats.codes;
  small = small facts sound;
  rising = sound.ranks.rising;
  few = (let few = sound.ranks.few in omega (arith, few));
}

pub read_alone : (facts : SeasonFacts) → PublishedIsRead facts → RoundsAreOne → FinalsAreOne → ListsAreOne → PublishedIsReadAlone facts
read_alone facts is_read rounds finals lists state sound spelled orderly =
    let back = is_read state sound orderly in
    record {
      rounds = λ before round read published text.
          rounds facts.matrix facts.people _ read (record { round = round.number; rows = allot_rows facts round }) (distinct facts sound spelled) text (back.rounds before round published);
      lists = λ before round prog programme read published at text.
          let its = back.lists before round prog programme published at in
          let below = its.programme in
          lists facts.matrix facts.people _ read (record { round = round.number; prog = prog; programme = programme }) (known facts sound spelled (omega (arith, below))) text its;
      finals = λ rows read are text.
          let ten = sound.rounds.1 in
          finals facts.matrix facts.people (facts.rounds + 1) _ read (record { rows = rows }) (omega (arith, ten)) (distinct facts sound spelled) text (back.finals rows are);
    }
