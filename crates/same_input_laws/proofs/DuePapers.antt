-- What an office publishes while it answers requests is a dossier with them.
use Rattle.std.proofs.Common.{◌≡◌, ◌≤◌, ◌<◌, ◌+◌, ◌++◌, inl, inr, ℕ, zero, suc, Bool, true, false, List, [], ◌∷◌, Option, Some, None, IsSome, length, map, arith, refl, sym, ap, ◌∙◌, subst, ◌==◌, if◌then◌else◌, append_assoc, append-nil}
use Rattle.std.specs.Prelude.{option_map, slice_get}
use Rattle.std.specs.List.{flat_map}
use Rattle.std.proofs.lemmas.Bool.{cases_lt, eq-eqb, ne_eqb}
use Rattle.office_base.specs.declared.person.Person.{Person}
use Rattle.kept_rows.specs.declared.rows.AllotRow.{AllotRow}
use Rattle.seat_matrix.specs.Matrix.{SeatTable}
use Rattle.programme_lists.specs.declared.programme.Programme.{Programme}
use Rattle.rounds.specs.declared.round.Round.{Round}
use Rattle.published_texts.specs.Texts.{final_text, list_text}
use Rattle.list_texts.specs.Listing.{IsListText}
use Rattle.list_texts.specs.declared.lists.ListRead.{ListRead}
use Rattle.publish.specs.declared.reads.FinalRead.{FinalRead}
use Rattle.publish.specs.declared.reads.RoundRead.{RoundRead}
use Rattle.office_moves.specs.Facts.{SeasonFacts}
use Rattle.office_moves.specs.State.{State}
use Rattle.history_laws.specs.Orderly.{IsOrderly}
use Rattle.season_laws.specs.ReadBack.{IsReadBack}
use Rattle.dossier_file.specs.Due.{due, lists_due, published_by}
use Rattle.dossier_file.specs.Papers.{ArePapers, IsThen, no_papers, with_final, with_list, with_round}
use Rattle.dossier_file.specs.declared.due.Due.{Due}
use Rattle.dossier_file.specs.declared.due.Due.TheVariants.{Round as RoundDue, List as ListDue, Final as FinalDue}
use Rattle.dossier_file.specs.declared.papers.Papers.{Papers}
use Rattle.same_input_laws.specs.SeasonDossiers.{final_texts, list_texts_from, lists_from, lists_told, papers_told, round_texts, round_told, texts_told}

-- ---- papers, one after another

abbrev or_last : Option FinalRead → Option FinalRead → Option FinalRead
or_last None last = last
or_last (Some first) last = Some first

abbrev joined : Papers → Papers → Papers
joined papers later = record { rounds = papers.rounds ++ later.rounds; lists = papers.lists ++ later.lists; last = or_last papers.last later.last }

-- a text and those after it, and then more of them
then_join : {A : Type 0} (join : A → Papers → Papers) (one : List ℕ → A → Type 0) (these those : List ℕ → Papers → Type 0) (text rest : List ℕ) (papers later : Papers)
    → ((read : A) (p : Papers) → joined (join read p) later ≡ join read (joined p later)) → ((t : List ℕ) (p : Papers) → these t p → those (t ++ rest) (joined p later))
    → IsThen join one these text papers → IsThen join one those (text ++ rest) (joined papers later)
then_join join one these those text rest papers later over go first = record {
  front = first.front;
  rest = first.rest ++ rest;
  one = first.one;
  more = joined first.more later;
  split = ap (λ (t : List ℕ). t ++ rest) first.split ∙ append_assoc first.front first.rest rest;
  all = ap (λ (p : Papers). joined p later) first.all ∙ over first.one first.more;
  begins = first.begins;
  later = go first.rest first.more first.later;
}

-- texts that are due, and then more of them
papers_join : (table : SeatTable) (people : List Person) (rounds : ℕ) (dues more : List Due) (text rest : List ℕ) (papers later : Papers) → ArePapers table people rounds dues text papers
    → ArePapers table people rounds more rest later → ArePapers table people rounds (dues ++ more) (text ++ rest) (joined papers later)
papers_join table people rounds [] more text rest papers later first second =
    subst (λ (t : List ℕ). ArePapers table people rounds more (t ++ rest) (joined papers later)) (sym first.0)
    (subst (λ (p : Papers). ArePapers table people rounds more rest (joined p later)) (sym first.1) second)
papers_join table people rounds (RoundDue number ∷ dues) more text rest papers later first second =
    then_join with_round _ _ _ text rest papers later (λ read p. refl) (λ t p h. papers_join table people rounds dues more t rest p later h second) first
papers_join table people rounds (ListDue number prog ∷ dues) more text rest papers later first second =
    then_join with_list _ _ _ text rest papers later (λ read p. refl) (λ t p h. papers_join table people rounds dues more t rest p later h second) first
papers_join table people rounds (FinalDue ∷ dues) more text rest papers later first second =
    then_join with_final _ _ _ text rest papers later (λ read p. refl) (λ t p h. papers_join table people rounds dues more t rest p later h second) first

-- ---- what is due, from the front

-- the lists of so many programmes from this one on
abbrev dues_from : ℕ → ℕ → ℕ → List Due
dues_from number prog zero = []
dues_from number prog (suc count) = ListDue number (record { 0 = prog }) ∷ dues_from number (suc prog) count

dues_last : (number prog count at : ℕ) → at ≡ prog + count → dues_from number prog (suc count) ≡ dues_from number prog count ++ ListDue number (record { 0 = at }) ∷ []
dues_last number prog zero at e = ap (λ (n : ℕ). ListDue number (record { 0 = n }) ∷ []) (omega (arith, e))
dues_last number prog (suc count) at e = ap (λ (l : List Due). ListDue number (record { 0 = prog }) ∷ l) (dues_last number (suc prog) count at (omega (arith, e)))

lists_same : (number count : ℕ) → lists_due number count ≡ dues_from number 0 count
lists_same number zero = refl
lists_same number (suc count) =
    ap (λ (l : List Due). l ++ ListDue number (record { 0 = count }) ∷ []) (lists_same number count) ∙ sym (dues_last number 0 count count (omega arith))

-- what so many cuts publish, from this window on
abbrev cuts_from : ℕ → ℕ → ℕ → ℕ → List Due
cuts_from rounds programmes window zero = []
cuts_from rounds programmes window (suc cuts) = published_by rounds programmes window ++ cuts_from rounds programmes (suc window) cuts

cuts_last : (rounds programmes window cuts at : ℕ) → at ≡ window + cuts
    → cuts_from rounds programmes window (suc cuts) ≡ cuts_from rounds programmes window cuts ++ published_by rounds programmes at
cuts_last rounds programmes window zero at e =
    append-nil (published_by rounds programmes window) ∙ ap (λ (n : ℕ). published_by rounds programmes n) (omega (arith, e))
cuts_last rounds programmes window (suc cuts) at e =
    ap (λ (l : List Due). published_by rounds programmes window ++ l) (cuts_last rounds programmes (suc window) cuts at (omega (arith, e)))
    ∙ sym (append_assoc (published_by rounds programmes window) (cuts_from rounds programmes (suc window) cuts) (published_by rounds programmes at))

due_same : (rounds programmes cuts : ℕ) → due rounds programmes cuts ≡ cuts_from rounds programmes 0 cuts
due_same rounds programmes zero = refl
due_same rounds programmes (suc cuts) =
    ap (λ (l : List Due). l ++ published_by rounds programmes cuts) (due_same rounds programmes cuts) ∙ sym (cuts_last rounds programmes 0 cuts cuts (omega arith))

-- what a cut publishes
choose : (b other : Bool) (one two : List Due) → b ≡ other → (if b then one else two) ≡ (if other then one else two)
choose b other one two e = ap (λ (z : Bool). if z then one else two) e

publishes_round : (rounds programmes window : ℕ) → window < rounds → published_by rounds programmes window ≡ RoundDue (window + 1) ∷ lists_due (window + 1) programmes
publishes_round rounds programmes window less =
    choose (window == rounds) false (FinalDue ∷ []) (RoundDue (window + 1) ∷ lists_due (window + 1) programmes) (ne_eqb window rounds (λ e. omega (arith, less, e)))

publishes_final : (rounds programmes : ℕ) → published_by rounds programmes rounds ≡ FinalDue ∷ []
publishes_final rounds programmes = choose (rounds == rounds) true (FinalDue ∷ []) (RoundDue (rounds + 1) ∷ lists_due (rounds + 1) programmes) (eq-eqb rounds rounds refl)

-- ---- the texts of a state

module _ (facts : SeasonFacts) (state : State) (orderly : IsOrderly facts state) (back : IsReadBack facts state) where
  abbrev count : ℕ
  count = length facts.matrix.programmes

  abbrev Due_papers : List Due → List ℕ → Papers → Type 0
  Due_papers dues text papers = ArePapers facts.matrix facts.people facts.rounds dues text papers

  -- each of these lists is read back
  abbrev AreReadFrom : ℕ → ℕ → List Programme → Type 0
  AreReadFrom number prog programmes = (i at : ℕ) (programme : Programme) → at ≡ prog + i → slice_get programmes i ≡ Some programme
      → IsListText facts.matrix facts.people (list_text facts.matrix number at programme) (record { round = number; prog = record { 0 = at }; programme = programme })

  lists_papers : (number prog : ℕ) (programmes : List Programme) → AreReadFrom number prog programmes
      → Due_papers (dues_from number prog (length programmes)) (list_texts_from facts.matrix number prog programmes) (record { rounds = []; lists = lists_from number prog programmes; last = None })
  lists_papers number prog [] reads = (refl, refl)
  lists_papers number prog (programme ∷ programmes) reads = record {
    front = list_text facts.matrix number prog programme;
    rest = list_texts_from facts.matrix number (suc prog) programmes;
    one = record { round = number; prog = record { 0 = prog }; programme = programme };
    more = record { rounds = []; lists = lists_from number (suc prog) programmes; last = None };
    split = refl;
    all = refl;
    begins = (reads 0 prog programme (omega arith) refl, (refl, refl));
    later = lists_papers number (suc prog) programmes (λ i at other e there. reads (suc i) at other (omega (arith, e)) there);
  }

  -- the papers of one round
  round_papers : (before : ℕ) (round : Round) → slice_get state.rounds before ≡ Some round
      → Due_papers (RoundDue (before + 1) ∷ lists_due (before + 1) count) (round_texts facts round) (record { rounds = round_told facts round ∷ []; lists = lists_told round; last = None })
  round_papers before round published =
      let number = (orderly.word.sought before round published).0 in
      let whole : length round.programmes ≡ count = (orderly.word.rounds before round published).count ∙ ap (λ l. length l) (orderly.course.programmes (suc before)) in
      let each = lists_papers round.number 0 round.programmes (λ i at programme e there.
      subst (λ (n : ℕ). IsListText facts.matrix facts.people (list_text facts.matrix round.number n programme) (record { round = round.number; prog = record { 0 = n }; programme = programme }))
      (omega (arith, e)) (back.lists before round (record { 0 = i }) programme published there)) in
      let same : dues_from round.number 0 (length round.programmes) ≡ lists_due (before + 1) count =
      ap (λ (n : ℕ). dues_from n 0 (length round.programmes)) number ∙ (ap (λ (n : ℕ). dues_from (before + 1) 0 n) whole ∙ sym (lists_same (before + 1) count)) in
      record {
        front = _;
        rest = list_texts_from facts.matrix round.number 0 round.programmes;
        one = round_told facts round;
        more = record { rounds = []; lists = lists_told round; last = None };
        split = refl;
        all = refl;
        begins = (back.rounds before round published, number);
        later = subst (λ (d : List Due). Due_papers d (list_texts_from facts.matrix round.number 0 round.programmes) (record { rounds = []; lists = lists_told round; last = None })) same each;
      }

  -- the papers of rounds, from this one on
  rounds_papers : (window : ℕ) (rounds : List Round) → ((i at : ℕ) (round : Round) → at ≡ window + i → slice_get rounds i ≡ Some round → slice_get state.rounds at ≡ Some round)
      → window + length rounds ≤ facts.rounds
      → Due_papers (cuts_from facts.rounds count window (length rounds)) (flat_map (round_texts facts) rounds)
      (record { rounds = map (round_told facts) rounds; lists = flat_map lists_told rounds; last = None })
  rounds_papers window [] held few = (refl, refl)
  rounds_papers window (round ∷ rounds) held few =
      let here = round_papers window round (held 0 window round (omega arith) refl) in
      let at_cut = subst (λ (d : List Due). Due_papers d (round_texts facts round) (record { rounds = round_told facts round ∷ []; lists = lists_told round; last = None }))
      (sym (publishes_round facts.rounds count window (omega (arith, few)))) here in
      let rest = rounds_papers (suc window) rounds (λ i at other e there. held (suc i) at other (omega (arith, e)) there) (omega (arith, few)) in
      papers_join facts.matrix facts.people facts.rounds (published_by facts.rounds count window) (cuts_from facts.rounds count (suc window) (length rounds))
      (round_texts facts round) (flat_map (round_texts facts) rounds) (record { rounds = round_told facts round ∷ []; lists = lists_told round; last = None })
      (record { rounds = map (round_told facts) rounds; lists = flat_map lists_told rounds; last = None }) at_cut rest

  -- the papers of a state
  abbrev rounds_alone : Papers
  rounds_alone = record { rounds = map (round_told facts) state.rounds; lists = flat_map lists_told state.rounds; last = None }

  all_rounds : length state.rounds ≤ facts.rounds → Due_papers (due facts.rounds count (length state.rounds)) (flat_map (round_texts facts) state.rounds) rounds_alone
  all_rounds few =
      subst (λ (d : List Due). Due_papers d (flat_map (round_texts facts) state.rounds) rounds_alone) (sym (due_same facts.rounds count (length state.rounds)))
      (rounds_papers 0 state.rounds (λ i at round e there. subst (λ (n : ℕ). slice_get state.rounds n ≡ Some round) (omega (arith, e)) there) (omega (arith, few)))

  final_papers : (rows : List AllotRow) → state.finals ≡ Some rows
      → Due_papers (FinalDue ∷ []) (final_text facts.matrix rows) (record { rounds = []; lists = []; last = Some (record { rows = rows }) })
  final_papers rows are = record {
    front = final_text facts.matrix rows;
    rest = [];
    one = record { rows = rows };
    more = no_papers;
    split = sym (append-nil (final_text facts.matrix rows));
    all = refl;
    begins = back.finals rows are;
    later = (refl, refl);
  }

  abbrev Told : Option (List AllotRow) → ℕ → Type 0
  Told finals cuts = Due_papers (due facts.rounds count cuts) (flat_map (round_texts facts) state.rounds ++ final_texts facts.matrix finals)
      (record { rounds = map (round_told facts) state.rounds; lists = flat_map lists_told state.rounds; last = option_map (λ rows. record { rows = rows }) finals })

  before_the_end : state.now ≤ facts.rounds → Told state.finals state.now
  before_the_end early =
      let order = orderly.course.order early in
      subst (λ (o : Option (List AllotRow)). Told o state.now) (sym (orderly.unfinished early))
      (subst (λ (n : ℕ). Told None n) order
      (subst (λ (t : List ℕ). Due_papers (due facts.rounds count (length state.rounds)) t rounds_alone) (sym (append-nil (flat_map (round_texts facts) state.rounds)))
      (all_rounds (omega (arith, early, order)))))

  at_the_end : facts.rounds < state.now → (rows : List AllotRow) → state.finals ≡ Some rows → Told state.finals state.now
  at_the_end over rows are =
      let size = (orderly.finished over).0 in
      let few = orderly.now in
      let last : state.now ≡ suc facts.rounds = omega (arith, over, few) in
      let first = subst (λ (n : ℕ). Due_papers (due facts.rounds count n) (flat_map (round_texts facts) state.rounds) rounds_alone) size (all_rounds (omega (arith, size))) in
      let final = subst (λ (d : List Due). Due_papers d (final_text facts.matrix rows) (record { rounds = []; lists = []; last = Some (record { rows = rows }) }))
      (sym (publishes_final facts.rounds count)) (final_papers rows are) in
      let both = papers_join facts.matrix facts.people facts.rounds (due facts.rounds count facts.rounds) (published_by facts.rounds count facts.rounds)
      (flat_map (round_texts facts) state.rounds) (final_text facts.matrix rows) rounds_alone (record { rounds = []; lists = []; last = Some (record { rows = rows }) }) first final in
      subst (λ (n : ℕ). Told state.finals n) (sym last) (subst (λ (o : Option (List AllotRow)). Told o (suc facts.rounds)) (sym are)
      (subst (λ (p : Papers). Due_papers (due facts.rounds count (suc facts.rounds)) (flat_map (round_texts facts) state.rounds ++ final_text facts.matrix rows) p) no_more both))
    where
      no_more : joined rounds_alone (record { rounds = []; lists = []; last = Some (record { rows = rows }) })
          ≡ record { rounds = map (round_told facts) state.rounds; lists = flat_map lists_told state.rounds; last = Some (record { rows = rows }) }
      no_more =
          ap (λ (r : List RoundRead). record { rounds = r; lists = flat_map lists_told state.rounds ++ []; last = Some (record { rows = rows }) }) (append-nil (map (round_told facts) state.rounds))
          ∙ ap (λ (l : List ListRead). record { rounds = map (round_told facts) state.rounds; lists = l; last = Some (record { rows = rows }) }) (append-nil (flat_map lists_told state.rounds))

  -- What is published of a state is due by the number of its cuts.
  pub told : Due_papers (due facts.rounds count state.now) (texts_told facts state) (papers_told facts state)
  told = elim (cases_lt facts.rounds state.now) [
    | inl over ↦ by_finals state.finals refl over
    | inr early ↦ before_the_end early
  ]
    where
      by_finals : (finals : Option (List AllotRow)) → state.finals ≡ finals → facts.rounds < state.now → Told state.finals state.now
      by_finals (Some rows) e over = at_the_end over rows e
      by_finals None e over = absurd (let some = (orderly.finished over).1 in let none = subst (λ (o : Option (List AllotRow)). IsSome o) e some in cc)
