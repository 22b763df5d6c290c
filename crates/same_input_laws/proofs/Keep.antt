-- Tables that represent one state hold the same.
use Rattle.std.proofs.Common.{◌≡◌, ℕ, List, [], ◌∷◌, refl, sym, ◌∙◌, subst}
use Rattle.office_base.specs.declared.person.CandId.{CandId}
use Rattle.kept_rows.specs.Tables.{AreTold, Tables, Untold, NoSeason, Records}
use Rattle.kept_rows.specs.declared.rows.Kept.{Kept}
use Rattle.office_moves.specs.Facts.{IsSound, SeasonFacts}
use Rattle.office_moves.specs.History.{IsHistory, Reaches}
use Rattle.office_moves.specs.Stands.{AreRecordsOf, Stand}
use Rattle.office_moves.specs.State.{State, opening}
use Rattle.office_moves.specs.declared.moves.Entry.{Entry}
use Rattle.same_input_laws.specs.Keep.{AreSameRecords, HistoriesKeepOne, HoldTheSame, SayTheSame}

-- ---- one state

same_records : (facts : SeasonFacts) (state : State) (records other : Kept) → AreRecordsOf facts state records → AreRecordsOf facts state other → AreSameRecords records other
same_records facts state records other first second = record {
  season = first.season ∙ sym second.season;
  cuts = first.cuts ∙ sym second.cuts;
  answers = λ window. first.answers window ∙ sym (second.answers window);
  raises = λ window. first.raises window ∙ sym (second.raises window);
  allots = λ number id. first.allots number id ∙ sym (second.allots number id);
}

hold_same : (facts : SeasonFacts) (state : State) (tables more : Tables) → Stand facts state tables → Stand facts state more → HoldTheSame tables more
hold_same facts state Untold more first second = tt
hold_same facts state NoSeason more first second = absurd first
hold_same facts state (Records records) Untold first second = tt
hold_same facts state (Records records) NoSeason first second = absurd second
hold_same facts state (Records records) (Records other) first second = same_records facts state records other first second

-- Tables of one season in one state hold the same.
pub stand_alike : (facts other : SeasonFacts) (state then : State) (tables more : Tables) → facts ≡ other → state ≡ then → Stand facts state tables → Stand other then more → HoldTheSame tables more
stand_alike facts other state then tables more same states first second =
    hold_same facts state tables more first (subst (λ (s : State). Stand facts s more) (sym states) (subst (λ (f : SeasonFacts). Stand f then more) (sym same) second))

-- ---- another order of tokens

-- the season with its tokens kept in another order
abbrev kept_so : SeasonFacts → List (List ℕ × CandId) → SeasonFacts
kept_so facts holders = record facts { holders = holders }

same_season : (facts other : SeasonFacts) → SayTheSame facts other → kept_so facts other.holders ≡ other
same_season facts other same = λ i. record {
  version = same.version i;
  rounds = same.rounds i;
  clerk = same.clerk i;
  people = same.people i;
  holders = other.holders;
  matrix = same.matrix i;
  lists = same.lists i;
  text = same.text i;
}

stand_too : (facts : SeasonFacts) (holders : List (List ℕ × CandId)) (state : State) (tables : Tables) → Stand (kept_so facts holders) state tables → Stand facts state tables
stand_too facts holders state Untold stands = tt
stand_too facts holders state NoSeason stands = stands
stand_too facts holders state (Records records) stands =
    record { season = stands.season; raises = stands.raises; answers = stands.answers; cuts = stands.cuts; allots = stands.allots }

reaches_too : (facts : SeasonFacts) (holders : List (List ℕ × CandId)) (old new : State) (entries : List Entry) → Reaches (kept_so facts holders) old entries new → Reaches facts old entries new
reaches_too facts holders old new [] reached = reached
reaches_too facts holders old new (entry ∷ entries) reached = (reached.0, reached.1, reached.2, reached.3, reaches_too facts holders reached.0 new entries reached.4)

pub histories_keep_one : ((facts : SeasonFacts) (entries : List Entry) (state other : State) → IsSound facts → IsHistory facts entries state → IsHistory facts entries other → state ≡ other)
    → HistoriesKeepOne
histories_keep_one one facts other entries state then tables more sound same first second stands its =
    let season = sym (same_season facts other same) in
    let by_season : IsHistory (kept_so facts other.holders) entries then = subst (λ (f : SeasonFacts). IsHistory f entries then) season second in
    let again : IsHistory facts entries then = record { numbers = by_season.numbers; reached = reaches_too facts other.holders opening then entries by_season.reached } in
    let by_stand = stand_too facts other.holders then more (subst (λ (f : SeasonFacts). Stand f then more) season its) in
    hold_same facts state tables more stands (subst (λ (s : State). Stand facts s more) (sym (one facts entries state then sound first again)) by_stand)

-- ---- tables that were left

same_self : (records other : Kept) → records ≡ other → AreSameRecords records other
same_self records other e = subst (λ (k : Kept). AreSameRecords records k) e (record { season = refl; cuts = refl; answers = λ window. refl; raises = λ window. refl; allots = λ number id. refl })

-- Tables that were left, if they are visible, hold the same.
pub left_alike : (before after later : Tables) → AreTold before after → AreTold before later → HoldTheSame after later
left_alike before Untold later first second = tt
left_alike before NoSeason Untold first second = tt
left_alike before NoSeason NoSeason first second = tt
left_alike before NoSeason (Records other) first second = absurd (let e = sym first ∙ second in cc e)
left_alike before (Records records) Untold first second = tt
left_alike before (Records records) NoSeason first second = absurd (let e = sym first ∙ second in cc e)
left_alike before (Records records) (Records other) first second = same_self records other (let e = sym first ∙ second in cc e)

-- Tables are left as they are.
pub left_told : (before after : Tables) → after ≡ before → AreTold before after
left_told before Untold e = tt
left_told before NoSeason e = sym e
left_told before (Records records) e = sym e
