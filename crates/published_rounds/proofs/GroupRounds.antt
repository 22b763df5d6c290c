-- No group gains in a round, and in a published one.
use Rattle.std.proofs.Common.{◌≡◌, ◌<◌, ℕ, suc, Bool, List, Option, Some, length, sym, ap, ◌∙◌, subst}
use Rattle.std.specs.Prelude.{slice_get}
use Rattle.office_base.specs.declared.seat.Seat.{Seat}
use Rattle.office_base.specs.declared.person.Person.{Person}
use Rattle.office_base.specs.declared.person.ProgId.{ProgId}
use Rattle.allocations.specs.Market.{Seeker, rank_of}
use Rattle.seat_matrix.specs.Matrix.{SeatTable}
use Rattle.seeks.specs.Seek.{seek_leaves}
use Rattle.seeks.specs.declared.seek.Seek.{Seek}
use Rattle.rounds.specs.Rule.{MayApplyIn, ProgrammesAdmitNoFewer, ProgrammesChooseWell, nobody, rule_of, seekers_of}
use Rattle.rounds.specs.declared.round.Round.{Round}
use Rattle.rounds.proofs.Entrants.{entered, length_seekers, market}
use Rattle.office_moves.specs.Facts.{IsSound, SeasonFacts, lists_in_order}
use Rattle.office_moves.specs.Promise.{all_sought_then}
use Rattle.office_moves.specs.State.{State, seat_of}
use Rattle.history_laws.specs.Orderly.{IsOrderly}
use Rattle.history_laws.proofs.Entering.{lists_full}
use Rattle.history_laws.proofs.Fits.{enters, full_seeks}
use Rattle.published_rounds.specs.Published.{market_then, matrix_then, wanted_then}
use Rattle.published_rounds.proofs.Places.{AreOrderly, order_of, in_round, made_then}
use Rattle.published_rounds.proofs.FairThen.{fair_over}
use Rattle.published_rounds.specs.Groups.{AllGain, TellTogether}
use Rattle.published_rounds.specs.GroupLaws.{AllWouldGain, AreOtherwiseTogether, NoGroupGainsInARound, NoGroupWouldGain}
use Rattle.published_rounds.proofs.Together.{no_group_gains}

pub no_group_gains_in_a_round : ProgrammesChooseWell → ProgrammesAdmitNoFewer → NoGroupGainsInARound
no_group_gains_in_a_round well no_fewer version table ok = no_group_gains (rule_of version nobody table) (MayApplyIn table) (well version nobody table ok) (no_fewer version nobody table ok)

-- the seekers, when a group submits other lists and other seeks
tell_together : (table : SeatTable) (people : List Person) (lists told : List (List ProgId)) (seeks sought : List Seek) (group : ℕ → Bool) → length lists ≡ length people
    → length seeks ≡ length lists → AreOtherwiseTogether group lists told seeks sought → TellTogether group (seekers_of table people lists seeks) (seekers_of table people told sought)
tell_together table people lists told seeks sought group full full' h = record {
  same = length_seekers table people told sought (h.as_many_lists ∙ full) (h.as_many_seeks ∙ (full' ∙ sym h.as_many_lists)) ∙ sym (length_seekers table people lists seeks full full');
  persons = λ i s t there there'.
      let first = (entered table people lists seeks i s there).person_at in
      let second = (entered table people told sought i t there').person_at in
      cc;
  others = λ i s t out there there'.
      let first = entered table people lists seeks i s there in
      let second = entered table people told sought i t there' in
      let a = first.list_at in
      let b = second.list_at in
      let c = h.same_lists i out in
      let d = first.seek_at in
      let e = second.seek_at in
      let f = h.same_seeks i out in
      let list : second.list ≡ first.list = cc in
      let seek : second.seek ≡ first.seek = cc in
      second.leaves ∙ (ap (λ l. seek_leaves table second.seek l) list ∙ (ap (λ q. seek_leaves table q first.list) seek ∙ sym first.leaves));
}

all_gain : (facts : SeasonFacts) (state : State) (window : ℕ) (round : Round) (group : ℕ → Bool) (others : List (Option Seat)) → IsSound facts → IsOrderly facts state
    → slice_get state.rounds window ≡ Some round → AllWouldGain facts state window round group others → AllGain group (market_then facts state window) round.seats others
all_gain facts state window round group others sound order is gain j s seat other within there has has' =
    let at = (enters facts state window j s sound there).person_at in
    let mine = in_round facts state window j round s.person sound order is at in
    let one = mine.there in
    let two = mine.has in
    let same : mine.s ≡ s = cc in
    let given : mine.seat ≡ seat = cc in
    let list : wanted_then facts state window s.person.id.0 ≡ s.list = sym mine.list_is ∙ ap (λ (z : Seeker). z.list) same in
    let held : seat_of facts (Some round) s.person.id.0 ≡ seat = mine.seat_is ∙ given in
    let less = gain j s.person other within at has' in
    subst (λ l. rank_of l other < rank_of l seat) list
    (subst (λ o. rank_of (wanted_then facts state window s.person.id.0) other < rank_of (wanted_then facts state window s.person.id.0) o) held less)

pub no_group_would_gain : AreOrderly → NoGroupGainsInARound → (facts : SeasonFacts) → NoGroupWouldGain facts
no_group_would_gain orderly none facts entries state window round group i person told sought others published at within enter otherwise fair gain =
    let order = order_of orderly facts entries state window round published in
    let sound = published.sound in
    let table = matrix_then facts state window in
    let ok = order.course.seats (suc window) in
    let mine = in_round facts state window i round person sound order published.there at in
    let here' = market table facts.people told sought ok enter in
    none facts.version table ok (length table.programmes) group (market_then facts state window) (seekers_of table facts.people told sought) round.seats others i mine.s (fair_over facts state window round sound order published.there).market here'
    (tell_together table facts.people (lists_in_order facts) told (all_sought_then facts state window) sought group (lists_full facts sound) (full_seeks facts state window sound) otherwise)
    (made_then facts state window round order published.there).best fair within mine.there
    (all_gain facts state window round group others sound order published.there gain)
