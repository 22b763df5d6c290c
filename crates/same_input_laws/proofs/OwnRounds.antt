-- A dossier of which no clause is broken and each round is the best one has the office's own rounds and final admissions.
use Rattle.std.proofs.Common.{◌≡◌, ◌<◌, ◌≤◌, inl, inr, ℕ, zero, suc, Bool, true, false, List, [], ◌∷◌, Option, Some, None, length, map, arith, refl, sym, ap, ◌∙◌, subst}
use Rattle.std.specs.Prelude.{is_some, option_map, slice_get}
use Rattle.std.specs.List.{AllByRecursion}
use Rattle.std.specs.Option.{unwrap_or}
use Rattle.std.proofs.lemmas.Bool.{cases_lt}
use Rattle.std.proofs.lemmas.List.{length-map}
use Rattle.std.proofs.lemmas.Option.{same_Some, slice_get_within}
use Rattle.office_base.proofs.Lists.{there_is}
use Rattle.office_asks.specs.declared.ask.Request.{Request}
use Rattle.office_base.specs.declared.seat.Seat.{Seat}
use Rattle.office_base.specs.declared.person.Person.{Person}
use Rattle.kept_rows.specs.declared.rows.AllotRow.{AllotRow}
use Rattle.seat_matrix.specs.Matrix.{SeatTable}
use Rattle.rounds.specs.Rule.{ProgrammesChooseWell}
use Rattle.rounds.specs.declared.round.Round.{Round}
use Rattle.round_laws.proofs.OneRound.{same_places}
use Rattle.published_texts.specs.Texts.{final_text, round_text}
use Rattle.publish.specs.Laws.{rows_of}
use Rattle.publish.specs.Rows.{AreRows, IsFinalText, IsRoundText, round_rows_text}
use Rattle.publish.specs.declared.reads.FinalRead.{FinalRead}
use Rattle.publish.specs.declared.reads.RoundRead.{RoundRead}
use Rattle.office_moves.specs.Facts.{IsSound, SeasonFacts}
use Rattle.office_moves.specs.History.{IsHistory, Reaches}
use Rattle.office_moves.specs.Moves.{allot_rows}
use Rattle.office_moves.specs.State.{State, opening}
use Rattle.office_moves.specs.declared.moves.Entry.{Entry}
use Rattle.season_facts.specs.Season.{facts_of}
use Rattle.history_laws.specs.Laws.{HistoryGrows}
use Rattle.history_laws.specs.Orderly.{IsOrderly}
use Rattle.history_laws.proofs.Fits.{map_at}
use Rattle.season_laws.specs.ReadBack.{IsReadBack, PublishedIsRead}
use Rattle.one_output.specs.Laws.{SeasonsAreSound}
use Rattle.dossier_file.specs.Due.{cuts_accepted, due}
use Rattle.dossier_file.specs.Papers.{ArePapers}
use Rattle.dossier_file.specs.declared.due.Due.{Due}
use Rattle.dossier_file.specs.declared.due.Due.TheVariants.{Round as RoundDue, List as ListDue, Final as FinalDue}
use Rattle.dossier_file.specs.declared.papers.Papers.{Papers as Read}
use Rattle.audit_rules.specs.Papers.{rows_after, seats_told}
use Rattle.same_input_laws.specs.OwnRounds.{AreOwn, SoundAndBestAreOwn}
use Rattle.same_input_laws.specs.SeasonDossiers.{audited_papers, papers_told, round_told, texts_told}
use Rattle.same_input_laws.proofs.Answered.{counts, ends_history}
use Rattle.same_input_laws.proofs.DuePapers.{told}
use Rattle.same_input_laws.proofs.OwnPapers.{seats_of_rows}
use Rattle.same_input_laws.proofs.SameRounds.{Same, run}
use Rattle.same_input_laws.proofs.ToldRows.{rows_back}

-- ---- what is due tells the numbers of the rounds, and whether there are final admissions

abbrev round_numbers : List Due → List ℕ
round_numbers [] = []
round_numbers (RoundDue number ∷ dues) = number ∷ round_numbers dues
round_numbers (ListDue number prog ∷ dues) = round_numbers dues
round_numbers (FinalDue ∷ dues) = round_numbers dues

abbrev is_final_due : List Due → Bool
is_final_due [] = false
is_final_due (RoundDue number ∷ dues) = is_final_due dues
is_final_due (ListDue number prog ∷ dues) = is_final_due dues
is_final_due (FinalDue ∷ dues) = true

abbrev numbers_of : List RoundRead → List ℕ
numbers_of reads = map (λ (read : RoundRead). read.round) reads

module _ (table : SeatTable) (people : List Person) (rounds : ℕ) where
  numbered : (dues : List Due) (text : List ℕ) (papers : Read) → ArePapers table people rounds dues text papers → numbers_of papers.rounds ≡ round_numbers dues
  numbered [] text papers are = ap (λ (p : Read). numbers_of p.rounds) are.1
  numbered (RoundDue number ∷ dues) text papers are =
      ap (λ (p : Read). numbers_of p.rounds) are.all ∙ (ap (λ (n : ℕ). n ∷ numbers_of are.more.rounds) are.begins.1 ∙ ap (λ (l : List ℕ). number ∷ l) (numbered dues are.rest are.more are.later))
  numbered (ListDue number prog ∷ dues) text papers are = ap (λ (p : Read). numbers_of p.rounds) are.all ∙ numbered dues are.rest are.more are.later
  numbered (FinalDue ∷ dues) text papers are = ap (λ (p : Read). numbers_of p.rounds) are.all ∙ numbered dues are.rest are.more are.later

  ended : (dues : List Due) (text : List ℕ) (papers : Read) → ArePapers table people rounds dues text papers → is_some papers.last ≡ is_final_due dues
  ended [] text papers are = ap (λ (p : Read). is_some p.last) are.1
  ended (RoundDue number ∷ dues) text papers are = ap (λ (p : Read). is_some p.last) are.all ∙ ended dues are.rest are.more are.later
  ended (ListDue number prog ∷ dues) text papers are = ap (λ (p : Read). is_some p.last) are.all ∙ ended dues are.rest are.more are.later
  ended (FinalDue ∷ dues) text papers are = ap (λ (p : Read). is_some p.last) are.all

  -- the rows of each round are of people in their order
  abbrev AllAreRows : List RoundRead → Type 0
  AllAreRows reads = (k : ℕ) (read : RoundRead) → slice_get reads k ≡ Some read → AreRows table people read.round read.rows

  one_before : (first : RoundRead) (reads : List RoundRead) → AreRows table people first.round first.rows → AllAreRows reads → AllAreRows (first ∷ reads)
  one_before first reads here rest zero read at = let same : first ≡ read = cc in subst (λ (r : RoundRead). AreRows table people r.round r.rows) same here
  one_before first reads here rest (suc k) read at = rest k read at

  rows_are : (dues : List Due) (text : List ℕ) (papers : Read) → ArePapers table people rounds dues text papers → AllAreRows papers.rounds
  rows_are [] text papers are = subst (λ (p : Read). AllAreRows p.rounds) (sym are.1) (λ k read at. absurd (cc))
  rows_are (RoundDue number ∷ dues) text papers are =
      subst (λ (p : Read). AllAreRows p.rounds) (sym are.all) (one_before are.one are.more.rounds are.begins.0.rows (rows_are dues are.rest are.more are.later))
  rows_are (ListDue number prog ∷ dues) text papers are = subst (λ (p : Read). AllAreRows p.rounds) (sym are.all) (rows_are dues are.rest are.more are.later)
  rows_are (FinalDue ∷ dues) text papers are = subst (λ (p : Read). AllAreRows p.rounds) (sym are.all) (rows_are dues are.rest are.more are.later)

-- rows of a round have its number
only_numbers : (table : SeatTable) (number : ℕ) (rows : List AllotRow) → AllByRecursion (λ (row : AllotRow). (row.prog.0 < length table.programmes) × (row.round ≡ number)) rows
    → AllByRecursion (λ (row : AllotRow). row.round ≡ number) rows
only_numbers table number [] all = tt
only_numbers table number (row ∷ rows) all = (all.0.1, only_numbers table number rows all.1)

-- ---- the papers and a state

module _ (facts : SeasonFacts) (sound : IsSound facts) (well : ProgrammesChooseWell) (state : State) (orderly : IsOrderly facts state) (back : IsReadBack facts state) (papers : Read) (dues : List Due)
    (text other : List ℕ) (theirs : ArePapers facts.matrix facts.people facts.rounds dues text papers) (own : ArePapers facts.matrix facts.people facts.rounds dues other (papers_told facts state))
    (last : State) (same : Same facts sound (audited_papers papers) well opening state last) where
  numbers_same : numbers_of papers.rounds ≡ numbers_of (map (round_told facts) state.rounds)
  numbers_same = numbered facts.matrix facts.people facts.rounds dues text papers theirs ∙ sym (numbered facts.matrix facts.people facts.rounds dues other (papers_told facts state) own)

  as_many : length papers.rounds ≡ length (map (round_told facts) state.rounds)
  as_many =
      sym (length-map papers.rounds (λ (read : RoundRead). read.round))
      ∙ (ap (λ (l : List ℕ). length l) numbers_same ∙ length-map (map (round_told facts) state.rounds) (λ (read : RoundRead). read.round))

  -- rows are those of the seats that they tell
  by_seats : (number : ℕ) (rows : List AllotRow) → AreRows facts.matrix facts.people number rows → rows_of number facts.people (seats_told rows facts.people) ≡ rows
  by_seats number rows are = rows_back number facts.people rows sound.ranks.rising are.order (only_numbers facts.matrix number rows are.known)

  module _ (k : ℕ) (read : RoundRead) (round : Round) (at : slice_get papers.rounds k ≡ Some read) (here : slice_get state.rounds k ≡ Some round) where
    number_same : read.round ≡ round.number
    number_same =
        let mine = map_at (λ (r : RoundRead). r.round) papers.rounds k read at in
        let its = map_at (λ (r : RoundRead). r.round) (map (round_told facts) state.rounds) k (round_told facts round) (map_at (round_told facts) state.rounds k round here) in
        same_Some read.round round.number (sym mine ∙ (ap (λ (l : List ℕ). slice_get l k) numbers_same ∙ its))

    rows_there : rows_after (audited_papers papers) k ≡ read.rows
    rows_there = ap (λ (o : Option (List AllotRow)). unwrap_or o []) (map_at (λ (r : RoundRead). r.rows) papers.rounds k read at)

    seats_same : seats_told read.rows facts.people ≡ round.seats
    seats_same = ap (λ (rows : List AllotRow). seats_told rows facts.people) (sym rows_there) ∙ same.seats k round (omega arith) here

    rows_same : read.rows ≡ allot_rows facts round
    rows_same =
        let mine = by_seats read.round read.rows (rows_are facts.matrix facts.people facts.rounds dues text papers theirs k read at) in
        let its = by_seats round.number (allot_rows facts round) (back.rounds k round here).rows in
        let own_seats = seats_of_rows facts round sound (orderly.entries k round here) in
        sym mine ∙ (ap (λ (n : ℕ). rows_of n facts.people (seats_told read.rows facts.people)) number_same
        ∙ (ap (λ (seats : List (Option Seat)). rows_of round.number facts.people seats) (seats_same ∙ sym own_seats) ∙ its))

    same_read : read ≡ round_told facts round
    same_read = λ i. record { round = number_same i; rows = rows_same i }

    same_text : (line : List ℕ) → IsRoundText facts.matrix facts.people line read → line ≡ round_text facts.matrix facts.people round
    same_text line is =
        is.same ∙ (ap (λ (r : RoundRead). round_rows_text facts.matrix r.round r.rows) same_read ∙ sym (back.rounds k round here).same)

  rounds_same : papers.rounds ≡ map (round_told facts) state.rounds
  rounds_same =
      same_places papers.rounds (map (round_told facts) state.rounds) as_many (λ k read told at at'.
      let less = slice_get_within (map (round_told facts) state.rounds) k told at' in
      let size = length-map state.rounds (round_told facts) in
      let round = there_is state.rounds k (omega (arith, less, size)) in
      same_read k read round.0 at round.1 ∙ same_Some (round_told facts round.0) told (sym (map_at (round_told facts) state.rounds k round.0 round.1) ∙ at'))

  abbrev as_read : Option (List AllotRow) → Option FinalRead
  as_read finals = option_map (λ (rows : List AllotRow). let read : FinalRead = record { rows = rows } in read) finals

  both_end : is_some papers.last ≡ is_some (as_read state.finals)
  both_end = ended facts.matrix facts.people facts.rounds dues text papers theirs ∙ sym (ended facts.matrix facts.people facts.rounds dues other (papers_told facts state) own)

  last_same : papers.last ≡ as_read state.finals
  last_same = by state.finals refl papers.last refl
    where
      by : (finals : Option (List AllotRow)) → state.finals ≡ finals → (o : Option FinalRead) → papers.last ≡ o → o ≡ as_read finals
      by None e None f = refl
      by None e (Some read) f = absurd (let both = both_end in cc (e, f, both))
      by (Some rows) e None f = absurd (let both = both_end in cc (e, f, both))
      by (Some rows) e (Some read) f = elim (cases_lt facts.rounds state.now) [
        | inl over ↦
            let told : (audited_papers papers).finals ≡ state.finals = same.finals (omega arith) over in
            let mine : (audited_papers papers).finals ≡ Some read.rows = ap (λ (x : Option FinalRead). option_map (λ (r : FinalRead). r.rows) x) f in
            let rows_same : read.rows ≡ rows = same_Some read.rows rows (sym mine ∙ (told ∙ e)) in
            λ i. Some (let r : FinalRead = record { rows = rows_same i } in r)
        | inr before ↦ absurd (let none = orderly.unfinished before in cc (e, none))
      ]

  pub are_own : AreOwn facts state papers
  are_own = record {
    rounds = rounds_same;
    last = last_same;
    round_texts = λ k read round line at here is. same_text k read round at here line is;
    final_texts = λ read rows line f e is.
        let both : Some read ≡ as_read (Some rows) = sym f ∙ (last_same ∙ ap as_read e) in
        let rows_same : read.rows ≡ rows = same_Some read.rows rows (ap (λ (x : Option FinalRead). option_map (λ (r : FinalRead). r.rows) x) both) in
        is.same ∙ ap (λ (l : List AllotRow). final_text facts.matrix l) rows_same;
  }

pub own_where_best : ProgrammesChooseWell → SeasonsAreSound → ((facts : SeasonFacts) (entries : List Entry) (state : State) → IsSound facts → Reaches facts opening entries state → IsOrderly facts state)
    → ((facts : SeasonFacts) → HistoryGrows facts) → ((facts : SeasonFacts) → PublishedIsRead facts) → SoundAndBestAreOwn
own_where_best well sounds orderly grows reads bytes season script papers rounds output state dossier verdict best answers =
    let facts = facts_of season in
    let sound = sounds false dossier.bundle season dossier.of_season.row [] dossier.of_season.given in
    let start : IsHistory facts [] opening = record { numbers = refl; reached = refl } in
    let end = ends_history facts (grows facts) [] opening state script output start answers in
    let order = orderly facts end.0 state sound end.1.reached in
    let many = counts facts opening state script output answers in
    let cuts : state.now ≡ cuts_accepted season.rounds 0 script = omega (arith, many) in
    let own = subst (λ (n : ℕ). ArePapers season.matrix season.register.people season.rounds (due season.rounds (length season.matrix.programmes) n) (texts_told facts state) (papers_told facts state)) cuts
    (told facts state order (reads facts state sound order)) in
    let same = run facts sound (audited_papers papers) well (grows facts) (λ entries held reached. orderly facts entries held sound reached) state [] opening opening script output start refl answers
    (λ j request at. (verdict.1 j request at, λ is. best j (request, at, is))) in
    are_own facts sound well state order (reads facts state sound order) papers (due season.rounds (length season.matrix.programmes) (cuts_accepted season.rounds 0 script)) dossier.published
    (texts_told facts state) dossier.of_papers own _ same
