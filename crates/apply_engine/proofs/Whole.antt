-- The whole round: the people with what their seeks leave of their lists are a sound setting, and what is made over it is the round.
use Rattle.std.proofs.Common.{◌≡◌, ◌<◌, ◌≤◌, ◌+◌, ◌∙◌, ℕ, zero, suc, List, [], ◌∷◌, Option, Some, length, arith, refl, sym, ap, subst}
use Rattle.std.specs.Prelude.{slice_get}
use Rattle.std.specs.List.{AllByRecursion}
use Rattle.std.proofs.lemmas.Option.{slice_get_within}
use Rattle.office_base.specs.Limits.{most_row_choices}
use Rattle.office_base.specs.declared.seat.Seat.{Seat}
use Rattle.office_base.specs.declared.person.Person.{Person}
use Rattle.office_base.specs.declared.person.ProgId.{ProgId}
use Rattle.office_base.proofs.Lists.{there_is}
use Rattle.allocations.specs.Course.{places}
use Rattle.allocations.specs.Fair.{IsBest, IsMarket}
use Rattle.allocations.specs.Market.{applicants}
use Rattle.placements.proofs.Sublists.{length-sublist}
use Rattle.programme_lists.specs.Chosen.{ShowsFrom}
use Rattle.choice_lists.specs.Choices.{Lists}
use Rattle.rank_lists.specs.Register.{AreRanks, Ranks}
use Rattle.rounds.specs.Round.{IsRound}
use Rattle.rounds.specs.Rule.{IsOwnList, MayApplyIn, guarantees, rule_of, seekers_of}
use Rattle.rounds.specs.declared.round.Round.{Round}
use Rattle.rounds.proofs.Entrants.{leaves_own, leaves_sublist, market}
use Rattle.seat_matrix.specs.Matrix.{AreSeats, SeatTable, seats_in}
use Rattle.seeks.specs.Seek.{AreBelow, seek_leaves}
use Rattle.seeks.specs.declared.seek.Seek.{Seek}
use Rattle.apply_engine.specs.Applications.{applications}
use Rattle.apply_engine.specs.Engine.{AreLawful, IsMade, IsSet, MayRun, Setting, lists_in, seekers_with}
use Rattle.apply_engine.specs.Made.{leaves_along}
use Rattle.round_laws.proofs.Season.{aligned_length, entrants, length_lists, list_at_place}

pub seekers_same : (table : SeatTable) (people : List Person) (lists : List (List ProgId)) (seeks : List Seek) → seekers_with people (leaves_along table lists seeks) ≡ seekers_of table people lists seeks
seekers_same table [] [] seeks = refl
seekers_same table [] (list ∷ lists) [] = refl
seekers_same table [] (list ∷ lists) (seek ∷ seeks) = refl
seekers_same table (person ∷ people) [] seeks = refl
seekers_same table (person ∷ people) (list ∷ lists) [] = refl
seekers_same table (person ∷ people) (list ∷ lists) (seek ∷ seeks) = ap (λ rest. record { person = person; list = seek_leaves table seek list } ∷ rest) (seekers_same table people lists seeks)

length_left : (table : SeatTable) (lists : List (List ProgId)) (seeks : List Seek) → length seeks ≡ length lists → length (leaves_along table lists seeks) ≡ length lists
length_left table [] seeks full = refl
length_left table (list ∷ lists) [] full = absurd (omega (arith, full))
length_left table (list ∷ lists) (seek ∷ seeks) full = ap suc (length_left table lists seeks (omega (arith, full)))

-- what is left at a place
record LeftAt (table : SeatTable) (lists : List (List ProgId)) (seeks : List Seek) (i : ℕ) (left : List ProgId) : Type 0 where
  list : List ProgId
  seek : Seek
  at : slice_get lists i ≡ Some list
  left_is : left ≡ seek_leaves table seek list

left_at : (table : SeatTable) (lists : List (List ProgId)) (seeks : List Seek) (i : ℕ) (left : List ProgId) → slice_get (leaves_along table lists seeks) i ≡ Some left → LeftAt table lists seeks i left
left_at table [] seeks i left at = absurd (cc)
left_at table (list ∷ lists) [] i left at = absurd (cc)
left_at table (list ∷ lists) (seek ∷ seeks) zero left at = let same : seek_leaves table seek list ≡ left = cc in record { list = list; seek = seek; at = refl; left_is = sym same }
left_at table (list ∷ lists) (seek ∷ seeks) (suc i) left at =
    let rest = left_at table lists seeks i left at in
    record { list = rest.list; seek = rest.seek; at = rest.at; left_is = rest.left_is }

-- the setting of a round
abbrev pub setting : ℕ → SeatTable → Ranks → Lists → List Seek → List (Option ProgId) → Setting
setting version table ranks lists seeks guaranteed = record { version = version; table = table; people = ranks.people; lists = leaves_along table (lists_in lists) seeks; guaranteed = guaranteed }

record OwnAt (table : SeatTable) (i : ℕ) (person : Person) (list : List ProgId) : Type 0 where
  own : IsOwnList table person list
  short : length list ≤ most_row_choices

own_at : (version : ℕ) (table : SeatTable) (ranks : Ranks) (lists : Lists) (seeks : List Seek) (guaranteed : List (Option ProgId)) (i : ℕ) (left : List ProgId) → MayRun version table ranks lists seeks guaranteed → AreRanks ranks
    → slice_get (leaves_along table (lists_in lists) seeks) i ≡ Some left → (person : Person) × OwnAt table i person left
own_at version table ranks lists seeks guaranteed i left may sound at =
    let found = left_at table (lists_in lists) seeks i left at in
    let less : i < length ranks.people =
    (let short = slice_get_within (lists_in lists) i found.list found.at in let a = length_lists lists in let b = aligned_length lists ranks.people may.aligned in omega (arith, short, a, b)) in
    let person = there_is ranks.people i less in
    let own = (entrants ranks table lists sound may.choices may.aligned).own i person.0 found.list person.1 found.at in
    let same = list_at_place lists ranks.people i person.0 found.list may.aligned sound.rising person.1 found.at in
    let few = (may.choices person.0.id.0).short in
    let size = length-sublist (seek_leaves table found.seek found.list) found.list (leaves_sublist table found.seek found.list) in (
      person.0,
      record {
        own = subst (λ l. IsOwnList table person.0 l) (sym found.left_is) (leaves_own table found.seek person.0 found.list own);
        short = (let a = ap (λ (l : List ProgId). length l) found.left_is in let b = ap (λ (l : List ProgId). length l) same in omega (arith, a, b, few, size));
      },
    )

pub is_set : (version : ℕ) (table : SeatTable) (ranks : Ranks) (lists : Lists) (seeks : List Seek) (guaranteed : List (Option ProgId)) → MayRun version table ranks lists seeks guaranteed → AreLawful → AreSeats table → AreRanks ranks
    → IsSet (setting version table ranks lists seeks guaranteed)
is_set version table ranks lists seeks guaranteed may laws seats sound = record {
  laws = laws;
  seats = seats;
  market = subst (λ s. IsMarket (MayApplyIn table) (length table.programmes) s) (sym (seekers_same table ranks.people (lists_in lists) seeks))
      (market table ranks.people (lists_in lists) seeks seats (entrants ranks table lists sound may.choices may.aligned));
  rising = sound.rising;
  full = length_left table (lists_in lists) seeks may.sought.full ∙ (length_lists lists ∙ aligned_length lists ranks.people may.aligned);
  sure = may.sure;
  few = sound.few;
  short = λ i left at. (own_at version table ranks lists seeks guaranteed i left may sound at).1.short;
  distinct = λ i left at. (own_at version table ranks lists seeks guaranteed i left may sound at).1.own.distinct;
  below = λ i left at. (own_at version table ranks lists seeks guaranteed i left may sound at).1.own.below;
}

all_below : (count : ℕ) (list : List ProgId) → AllByRecursion (λ (prog : ProgId). prog.0 < count) list → AreBelow count list
all_below count [] all k prog at = absurd (cc)
all_below count (x ∷ list) all zero prog at = let same : x ≡ prog = cc in subst (λ (z : ProgId). z.0 < count) same all.0
all_below count (x ∷ list) all (suc k) prog at = all_below count list all.1 k prog at

-- the choice lists name programmes of the matrix
pub lists_below : (version : ℕ) (table : SeatTable) (ranks : Ranks) (lists : Lists) (seeks : List Seek) (guaranteed : List (Option ProgId)) → MayRun version table ranks lists seeks guaranteed → AreRanks ranks → (i : ℕ) (list : List ProgId)
    → slice_get (lists_in lists) i ≡ Some list → AreBelow (length table.programmes) list
lists_below version table ranks lists seeks guaranteed may sound i list at =
    let less : i < length ranks.people =
    (let short = slice_get_within (lists_in lists) i list at in let a = length_lists lists in let b = aligned_length lists ranks.people may.aligned in omega (arith, short, a, b)) in
    let person = there_is ranks.people i less in
    all_below (length table.programmes) list ((entrants ranks table lists sound may.choices may.aligned).own i person.0 list person.1 at).below

-- what is made over the setting is the round
pub is_round : (version : ℕ) (table : SeatTable) (ranks : Ranks) (lists : Lists) (n : ℕ) (seeks : List Seek) (guaranteed : List (Option ProgId)) (round : Round)
    → IsMade (setting version table ranks lists seeks guaranteed) n seeks round → IsRound version (guarantees ranks.people guaranteed) table ranks.people (lists_in lists) n seeks round
is_round version table ranks lists n seeks guaranteed round made =
    let e = seekers_same table ranks.people (lists_in lists) seeks in
    record {
      number = made.number;
      sought = made.sought;
      best = subst (λ s. IsBest (rule_of version (guarantees ranks.people guaranteed) table) (length table.programmes) s round.seats) e made.best;
      count = made.count;
      shown = λ p programme at. subst (λ s. ShowsFrom version (seats_in table p) (applicants p s round.seats) programme) e (made.shown p programme at);
    }

-- over these lists the setting is that of the round
pub over_is : (version : ℕ) (table : SeatTable) (ranks : Ranks) (lists : Lists) (seeks : List Seek) (guaranteed : List (Option ProgId)) (left : List (List ProgId)) → left ≡ leaves_along table (lists_in lists) seeks
    → setting version table ranks lists seeks guaranteed ≡ record { version = version; table = table; people = ranks.people; lists = left; guaranteed = guaranteed }
over_is version table ranks lists seeks guaranteed left same =
    ap (λ l. let s : Setting = record { version = version; table = table; people = ranks.people; lists = l; guaranteed = guaranteed } in s) (sym same)

pub set_over : (version : ℕ) (table : SeatTable) (ranks : Ranks) (lists : Lists) (seeks : List Seek) (guaranteed : List (Option ProgId)) (left : List (List ProgId))
    → MayRun version table ranks lists seeks guaranteed → AreLawful → AreSeats table → AreRanks ranks → left ≡ leaves_along table (lists_in lists) seeks
    → IsSet (record { version = version; table = table; people = ranks.people; lists = left; guaranteed = guaranteed })
set_over version table ranks lists seeks guaranteed left may laws seats sound same =
    subst (λ (s : Setting). IsSet s) (over_is version table ranks lists seeks guaranteed left same) (is_set version table ranks lists seeks guaranteed may laws seats sound)

pub cost_over : (table : SeatTable) (people : List Person) (lists : List (List ProgId)) (seeks : List Seek) (left : List (List ProgId)) (before after : ℕ) → left ≡ leaves_along table lists seeks
    → after ≤ before + places (seekers_with people left) → after ≤ before + places (seekers_of table people lists seeks)
cost_over table people lists seeks left before after same less =
    subst (λ s. after ≤ before + places s) (ap (λ l. seekers_with people l) same ∙ seekers_same table people lists seeks) less

pub counted_over : (table : SeatTable) (people : List Person) (lists : List (List ProgId)) (seeks : List Seek) (left : List (List ProgId)) (seats : List (Option Seat)) (before after : ℕ)
    → left ≡ leaves_along table lists seeks → after ≡ before + applications (seekers_with people left) seats → after ≡ before + applications (seekers_of table people lists seeks) seats
counted_over table people lists seeks left seats before after same counted =
    subst (λ s. after ≡ before + applications s seats) (ap (λ l. seekers_with people l) same ∙ seekers_same table people lists seeks) counted

pub round_over_is : (version : ℕ) (table : SeatTable) (ranks : Ranks) (lists : Lists) (n : ℕ) (seeks : List Seek) (guaranteed : List (Option ProgId)) (left : List (List ProgId)) (round : Round)
    → left ≡ leaves_along table (lists_in lists) seeks → IsMade (record { version = version; table = table; people = ranks.people; lists = left; guaranteed = guaranteed }) n seeks round
    → IsRound version (guarantees ranks.people guaranteed) table ranks.people (lists_in lists) n seeks round
round_over_is version table ranks lists n seeks guaranteed left round same made =
    is_round version table ranks lists n seeks guaranteed round
    (subst (λ (s : Setting). IsMade s n seeks round) (sym (over_is version table ranks lists seeks guaranteed left same)) made)
