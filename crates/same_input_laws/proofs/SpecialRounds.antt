-- The text of the special round over the same final rows and the same lists is one.
use Rattle.std.proofs.Common.{◌≡◌, ◌<◌, ◌-◌, ◌++◌, ◌∷◌, [], ℕ, suc, List, Some, length, refl, sym, ap, ◌∙◌, subst, arith}
use Rattle.std.specs.Prelude.{slice_get}
use Rattle.std.specs.List.{flat_map}
use Rattle.office_base.specs.declared.person.Person.{Person}
use Rattle.office_base.specs.declared.person.ProgId.{ProgId}
use Rattle.section_rows.specs.Rows.{Row, rows_of}
use Rattle.special_audit.specs.Laws.{OneRemaining}
use Rattle.office_base.specs.Lists.{Pairwise}
use Rattle.kept_rows.specs.declared.rows.AllotRow.{AllotRow}
use Rattle.rank_lists.specs.Register.{Ranks}
use Rattle.seat_matrix.specs.Matrix.{SeatTable, seats_in}
use Rattle.programme_lists.specs.declared.programme.Programme.{Programme}
use Rattle.list_cutoffs.specs.Cutoffs.{AreCutoffsIn, AreKeptListed}
use Rattle.list_cutoffs.specs.Laws.{OneListOfCutoffs}
use Rattle.list_cutoffs.specs.declared.cutoffs.StepCutoff.{StepCutoff}
use Rattle.choice_lists.specs.Choices.{IsRead}
use Rattle.choice_lists.specs.Laws.{HaveOneReading}
use Rattle.rounds.specs.Round.{IsRound, seated}
use Rattle.rounds.specs.Rule.{AreEntrants, nobody}
use Rattle.rounds.specs.declared.round.Round.{Round}
use Rattle.round_laws.specs.Laws.{Enter, OneRound, lists_in}
use Rattle.office_moves.specs.Facts.{IsSound, SeasonFacts, register_of}
use Rattle.office_moves.specs.Raised.{total_seats}
use Rattle.season_facts.specs.Season.{facts_of}
use Rattle.published_texts.specs.Texts.{list_text, round_text}
use Rattle.reply_texts.specs.Replies.{cutoffs_text}
use Rattle.special_round.specs.Remaining.{IsRemaining}
use Rattle.special_round.specs.Special.{IsSpecialOver, all_whole}
use Rattle.special_round.specs.declared.round_over.Special.{Special}
use Rattle.special_command.specs.Texts.{AreProgrammeTexts, CanBeListed, IsProgrammeText, IsTextOf, special_line, special_text}
use Rattle.special_command.specs.declared.lists.SpecialPapers.{SpecialPapers}
use Rattle.special_command.specs.declared.lists.SpecialPapers.TheVariants.{RoundAlone, WithLists}
use Rattle.published_rounds.proofs.Special.{left_sound}

-- ---- a special round

-- What the text of a special round is made of.
pub record IsMade (facts : SeasonFacts) (table : SeatTable) (rows : List AllotRow) (body : List ℕ) (special : Special) : Type 0 where
  pub people : special.season.register.people ≡ facts.people
  pub matrix : IsRemaining facts.people rows table special.season.matrix
  pub lists : IsRead (register_of facts) facts.matrix (rows_of body) special.season.choices
  pub vacant : special.vacant ≡ total_seats table - length rows
  pub round : IsRound facts.version nobody special.season.matrix facts.people (lists_in special.season.choices) 1 (all_whole facts.people) special.round
  pub sound : IsSound (facts_of special.season)

pub made : (facts : SeasonFacts) (table : SeatTable) (rows : List AllotRow) (body : List ℕ) (special : Special) → IsSound facts → IsSpecialOver facts table rows body special
    → IsMade facts table rows body special
made facts table rows body special sound over = record {
  people = ap (λ (r : Ranks). r.people) over.season.register;
  matrix = over.season.matrix;
  lists = over.season.lists;
  vacant = over.vacant;
  round = over.round;
  sound = left_sound facts table rows body special.season sound over.season;
}

-- ---- the round

entrants_of : Enter → (facts : SeasonFacts) (table : SeatTable) (rows : List AllotRow) (body : List ℕ) (special : Special) → IsMade facts table rows body special
    → AreEntrants special.season.matrix facts.people (lists_in special.season.choices)
entrants_of enter facts table rows body special made =
    let season = special.season in
    subst (λ (people : List Person). AreEntrants season.matrix people (lists_in season.choices)) made.people
    (enter (register_of (facts_of season)) season.matrix season.matrix season.choices made.sound.ranks made.sound.choices made.sound.aligned refl)

-- What two special rounds have in common.
pub record AreAlike (special other : Special) : Type 0 where
  pub matrix : special.season.matrix ≡ other.season.matrix
  pub round : special.round ≡ other.round
  pub vacant : special.vacant ≡ other.vacant
  pub register : special.season.register.people ≡ other.season.register.people

-- Special rounds over the same final rows and the same lists are alike.
pub alike : OneRemaining → ((ranks : Ranks) (seats : SeatTable) (rows : List Row) → HaveOneReading ranks seats rows) → Enter → OneRound → (facts : SeasonFacts) (table : SeatTable)
    (rows : List AllotRow) (body : List ℕ) (special other : Special) → Pairwise (λ a b. a.cand.0 < b.cand.0) rows → IsMade facts table rows body special → IsMade facts table rows body other → AreAlike special other
alike remaining reading enter one facts table rows body special other rising first second =
    let people = facts.people in
    let a = special.season in
    let b = other.season in
    let matrix : a.matrix ≡ b.matrix = remaining people rows table a.matrix b.matrix rising first.sound.seats second.sound.seats first.matrix second.matrix in
    let lists = ap lists_in ((reading (register_of facts) facts.matrix (rows_of body)).one_value a.choices b.choices first.lists second.lists) in
    let by_matrix = subst (λ (t : SeatTable). IsRound facts.version nobody t people (lists_in b.choices) 1 (all_whole people) other.round) (sym matrix) second.round in
    let by_lists = subst (λ (l : List (List ProgId)). IsRound facts.version nobody a.matrix people l 1 (all_whole people) other.round) (sym lists) by_matrix in
    let entrants = entrants_of enter facts table rows body special first in
    record {
      matrix = matrix;
      round = one facts.version 1 nobody a.matrix people (lists_in a.choices) (all_whole people) special.round other.round first.sound.seats entrants first.round by_lists;
      vacant = first.vacant ∙ sym second.vacant;
      register = first.people ∙ sym second.people;
    }

-- The text of a special round is one.
one_text : (special other : Special) → AreAlike special other → special_text special ≡ special_text other
one_text special other are =
    ap (λ n. special_line n (seated special.round.seats) ++ round_text special.season.matrix special.season.register.people special.round) are.vacant
    ∙ (ap (λ (r : Round). special_line other.vacant (seated r.seats) ++ round_text special.season.matrix special.season.register.people r) are.round
    ∙ (ap (λ (t : SeatTable). special_line other.vacant (seated other.round.seats) ++ round_text t special.season.register.people other.round) are.matrix
    ∙ ap (λ (p : List Person). special_line other.vacant (seated other.round.seats) ++ round_text other.season.matrix p other.round) are.register))

-- The text of a programme is one.
one_programme : OneListOfCutoffs → (table : SeatTable) (round : Round) (prog : ℕ) (text again : List ℕ)
    → ((programme : Programme) → slice_get round.programmes prog ≡ Some programme → AreKeptListed (seats_in table prog) programme.steps) → IsProgrammeText table round prog text → IsProgrammeText table round prog again
    → text ≡ again
one_programme one table round prog text again kept (p, lines, there, are, is) (q, more, its, they, other) =
    let both : Some p ≡ Some q = sym there ∙ its in
    let same : p ≡ q = cc in
    let they' = subst (λ (x : Programme). AreCutoffsIn (seats_in table prog) x.steps more) (sym same) they in
    let lined : lines ≡ more = one (seats_in table prog) p.steps lines more (kept p there) are they' in
    is ∙ ap (λ (l : List StepCutoff). list_text table round.number prog p ++ cutoffs_text table round.number prog l) lined
    ∙ ap (λ (x : Programme). list_text table round.number prog x ++ cutoffs_text table round.number prog more) same ∙ sym other

-- two lists with the same elements at the same places
same_places : {X : Type 0} (xs ys : List X) → length xs ≡ length ys → ((n : ℕ) (x y : X) → slice_get xs n ≡ Some x → slice_get ys n ≡ Some y → x ≡ y) → xs ≡ ys
same_places [] [] long each = refl
same_places [] (y ∷ ys) long each = absurd (omega (arith, long))
same_places (x ∷ xs) [] long each = absurd (omega (arith, long))
same_places (x ∷ xs) (y ∷ ys) long each =
    let here : x ≡ y = each 0 x y refl refl in
    let rest : xs ≡ ys = same_places xs ys (omega (arith, long)) (λ n a b. each (suc n) a b) in
    λ i. here i ∷ rest i

-- What is written of a special round is one.
pub one_papers : OneListOfCutoffs → (papers : SpecialPapers) (special other : Special) (text again : List ℕ) → AreAlike special other → CanBeListed special → IsTextOf papers special text
    → IsTextOf papers other again → text ≡ again
one_papers one RoundAlone special other text again are listed is its = is ∙ one_text special other are ∙ sym its
one_papers one WithLists special other text again are listed (texts, all, is) (more, they, its) =
    let by_matrix = subst (λ (t : SeatTable). AreProgrammeTexts t other.round more) (sym are.matrix) they in
    let here : AreProgrammeTexts special.season.matrix special.round more = subst (λ (r : Round). AreProgrammeTexts special.season.matrix r more) (sym are.round) by_matrix in
    let same : texts ≡ more = same_places texts more (all.count ∙ sym here.count)
    (λ prog t u at there. one_programme one special.season.matrix special.round prog t u (λ programme shows. listed.kept prog programme shows) (all.each prog t at) (here.each prog u there)) in
    is ∙ ap (λ (l : List ℕ). l ++ flat_map (λ text. text) texts) (one_text special other are) ∙ ap (λ (l : List (List ℕ)). special_text other ++ flat_map (λ text. text) l) same ∙ sym its
