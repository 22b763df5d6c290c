-- The lists of a special round can be shown, and they have cutoffs; the texts of all programmes.
use Rattle.std.proofs.Common.{◌≡◌, ◌<◌, ◌+◌, ◌++◌, ◌∷◌, ◌⊎◌, inl, inr, ℕ, zero, suc, List, [], Some, append_assoc, length, length-append, arith, refl, sym, ap, ◌∙◌, subst}
use Rattle.std.specs.Prelude.{slice_get}
use Rattle.std.specs.List.{flat_map}
use Rattle.std.proofs.lemmas.List.{flat_map_more}
use Rattle.std.proofs.lemmas.Option.{slice_get_within}
use Rattle.office_base.specs.declared.person.Person.{Person}
use Rattle.kept_rows.specs.declared.rows.AllotRow.{AllotRow}
use Rattle.rank_lists.specs.Register.{Ranks}
use Rattle.seat_matrix.specs.Matrix.{SeatTable, seats_in}
use Rattle.programme_lists.specs.declared.programme.Programme.{Programme}
use Rattle.programme_cutoffs.specs.Laws.{ListsAreKept}
use Rattle.open_then_category.specs.Laws.{SlotsAreTraits}
use Rattle.allocations.specs.Market.{Seeker, applicants}
use Rattle.allocations.proofs.Claims.{applicants_may}
use Rattle.rounds.specs.Round.{IsRound}
use Rattle.rounds.specs.declared.round.Round.{Round}
use Rattle.rounds.specs.Rule.{MayApplyIn, ProgrammesChooseWell, nobody, rule_of, seekers_of}
use Rattle.rounds.proofs.Entrants.{market}
use Rattle.round_laws.specs.Laws.{lists_in}
use Rattle.round_laws.proofs.Season.{entrants}
use Rattle.office_moves.specs.Facts.{IsSound, SeasonFacts, register_of}
use Rattle.season_facts.specs.Season.{facts_of}
use Rattle.special_round.specs.Special.{IsSpecialOver, all_whole}
use Rattle.special_round.specs.declared.round_over.Special.{Special}
use Rattle.list_cutoffs.specs.Cutoffs.{AreCutoffsIn}
use Rattle.list_cutoffs.specs.declared.cutoffs.StepCutoff.{StepCutoff}
use Rattle.published_texts.specs.Texts.{list_text}
use Rattle.reply_texts.specs.Replies.{cutoffs_text}
use Rattle.special_command.specs.Texts.{CanBeListed, IsProgrammeText}

-- The lists of a special round can be shown.
pub can_be_listed : ProgrammesChooseWell → SlotsAreTraits → ListsAreKept → (facts : SeasonFacts) (table : SeatTable) (rows : List AllotRow) (body : List ℕ) (special : Special)
    → IsSound (facts_of special.season) → IsSpecialOver facts table rows body special → CanBeListed special
can_be_listed well slots kept facts table rows body special sound is =
    let season = special.season in
    let people = season.register.people in
    let lists = lists_in season.choices in
    let register : facts.people ≡ people = ap (λ (r : Ranks). r.people) (sym is.season.register) in
    let made : IsRound facts.version nobody season.matrix people lists 1 (all_whole people) special.round =
    subst (λ (l : List Person). IsRound facts.version nobody season.matrix l lists 1 (all_whole l) special.round) register is.round in
    let seekers : List Seeker = seekers_of season.matrix people lists (all_whole people) in
    let enter = market season.matrix people lists (all_whole people) sound.seats (entrants (register_of (facts_of season)) season.matrix season.choices sound.ranks sound.choices sound.aligned) in
    let below : (p : ℕ) (programme : Programme) → slice_get special.round.programmes p ≡ Some programme → p < length season.matrix.programmes =
    λ p programme shows. (let inside = slice_get_within special.round.programmes p programme shows in let count = made.count in omega (arith, inside, count)) in
    let may : (p : ℕ) (less : p < length season.matrix.programmes) → MayApplyIn season.matrix p (applicants p seekers special.round.seats) =
    λ p less. applicants_may (rule_of facts.version nobody season.matrix) (MayApplyIn season.matrix) (length season.matrix.programmes) p seekers special.round.seats enter (well facts.version nobody season.matrix sound.seats) less made.best.fair.allocation.full in
    record {
      count = made.count;
      slots = λ p programme shows.
          let less = below p programme shows in
          slots facts.version (seats_in season.matrix p) (applicants p seekers special.round.seats) programme (sound.seats.sound p less) (may p less) (made.shown p programme shows);
      kept = λ p programme shows.
          let less = below p programme shows in
          kept facts.version (seats_in season.matrix p) (applicants p seekers special.round.seats) programme (sound.seats.sound p less) (may p less) (made.shown p programme shows);
    }

-- ---- the texts of the programmes

-- The texts of the first programmes, and what is written by then.
pub record AreFirst (table : SeatTable) (round : Round) (count : ℕ) (start out : List ℕ) : Type 0 where
  pub texts : List (List ℕ)
  pub long : length texts ≡ count
  pub each : (prog : ℕ) (text : List ℕ) → slice_get texts prog ≡ Some text → IsProgrammeText table round prog text
  pub written : out ≡ start ++ flat_map (λ text. text) texts

-- the last of some texts is the new one, and the others are as before
at_end : {X : Type 0} (xs : List X) (x : X) (n : ℕ) (y : X) → slice_get (xs ++ x ∷ []) n ≡ Some y → (slice_get xs n ≡ Some y) ⊎ ((n ≡ length xs) × (x ≡ y))
at_end [] x zero y e = inr (refl, cc e)
at_end [] x (suc n) y e = cc e
at_end (first ∷ xs) x zero y e = inl e
at_end (first ∷ xs) x (suc n) y e = elim (at_end xs x n y e) [ inl before ↦ inl before | inr here ↦ inr (ap (λ (k : ℕ). suc k) here.0, here.1) ]

-- one more is written
pub one_more : (table : SeatTable) (round : Round) (count : ℕ) (start out more text : List ℕ) → AreFirst table round count start out → IsProgrammeText table round count text → more ≡ out ++ text
    → AreFirst table round (count + 1) start more
one_more table round count start out more text first is put = record {
  texts = first.texts ++ text ∷ [];
  long = omega (arith, length-append first.texts (text ∷ []), first.long);
  each = λ prog other e. elim (at_end first.texts text prog other e) [
    | inl before ↦ first.each prog other before
    | inr here ↦ subst (λ (t : List ℕ). IsProgrammeText table round prog t) here.1 (subst (λ (n : ℕ). IsProgrammeText table round n text) (sym (here.0 ∙ first.long)) is)
  ];
  written = put ∙ ap (λ (l : List ℕ). l ++ text) first.written ∙ flat_map_more (λ (t : List ℕ). t) start first.texts text;
}

-- the text of a programme is its list and its cutoffs, one behind the other
pub programme_put : (table : SeatTable) (round : Round) (prog number : ℕ) (programme : Programme) (lines : List StepCutoff) (list cutoffs before between after first second : List ℕ) → number ≡ round.number
    → slice_get round.programmes prog ≡ Some programme → AreCutoffsIn (seats_in table prog) programme.steps lines → list ≡ list_text table number prog programme → cutoffs ≡ cutoffs_text table number prog lines
    → first ≡ list → second ≡ cutoffs → between ≡ before ++ first → after ≡ between ++ second → (text : List ℕ) × IsProgrammeText table round prog text × (after ≡ before ++ text)
programme_put table round prog number programme lines list cutoffs before between after first second numbered there are listed cut one two put put' = (
  list ++ cutoffs,
  (
    programme,
    lines,
    there,
    are,
    ap (λ (l : List ℕ). l ++ cutoffs) listed ∙ ap (λ (l : List ℕ). list_text table number prog programme ++ l) cut
        ∙ ap (λ (n : ℕ). list_text table n prog programme ++ cutoffs_text table n prog lines) numbered,
  ),
  put' ∙ ap (λ (l : List ℕ). l ++ second) put ∙ append_assoc before first second ∙ ap (λ (l : List ℕ). before ++ (l ++ second)) one ∙ ap (λ (l : List ℕ). before ++ (list ++ l)) two,
)
