-- The special round, put together from its parts.
use Rattle.std.proofs.Common.{◌≡◌, ◌<◌, ◌-◌, ℕ, zero, suc, Bool, true, List, [], ◌∷◌, Some, None, length, map, refl, sym, ap, ◌∙◌, subst, ◌==◌, ◌||◌}
use Rattle.std.specs.Prelude.{replicate, slice_get}
use Rattle.std.specs.List.{AllByRecursion}
use Rattle.std.proofs.lemmas.Bool.{eq-eqb, or_right}
use Rattle.std.proofs.lemmas.List.{length-map}
use Rattle.office_base.specs.declared.person.Person.{Person}
use Rattle.office_base.specs.declared.person.ProgId.{ProgId}
use Rattle.section_rows.specs.Rows.{rows_of}
use Rattle.kept_rows.specs.declared.rows.AllotRow.{AllotRow}
use Rattle.rank_lists.specs.Register.{Ranks}
use Rattle.seat_matrix.specs.Matrix.{SeatTable}
use Rattle.seeks.specs.Seek.{IsWithinList}
use Rattle.seeks.specs.declared.seek.Seek.{Seek}
use Rattle.seeks.specs.declared.seek.Seek.TheVariants.{Whole}
use Rattle.choice_lists.specs.Choices.{Lists}
use Rattle.season_file.specs.declared.season.Season.{Season}
use Rattle.rounds.specs.Round.{IsRound}
use Rattle.rounds.specs.Rule.{AreEntrants, AreSeeks, nobody}
use Rattle.rounds.specs.declared.round.Round.{Round}
use Rattle.round_laws.specs.Laws.{lists_in}
use Rattle.round_laws.proofs.Season.{aligned_length, length_lists}
use Rattle.office_moves.specs.Facts.{IsSound, SeasonFacts, register_of}
use Rattle.office_moves.specs.Raised.{total_seats}
use Rattle.season_facts.specs.Season.{facts_of}
use Rattle.office_moves.specs.State.{seat_of}
use Rattle.history_laws.proofs.Entering.{entrants}
use Rattle.special_round.specs.Laws.{FitInto, TogetherWithin}
use Rattle.special_round.specs.Rows.{rows_of_step}
use Rattle.special_round.specs.Season.{IsLeftSeason, has_final}
use Rattle.special_round.specs.Special.{IsSpecialOver, all_whole}
use Rattle.special_round.proofs.Unlisted.{unlisted, unseated}

-- ---- everybody seeks the whole own list

pub whole_for_all : (people : List Person) → replicate (length people) Whole ≡ all_whole people
whole_for_all [] = refl
whole_for_all (person ∷ people) = ap (λ l. Whole ∷ l) (whole_for_all people)

pub whole_seeks_fit : (people : List Person) (lists : Lists) → map (λ (held : ℕ × List ProgId). held.0) lists ≡ map (λ (p : Person). p.id.0) people
    → AreSeeks (lists_in lists) (all_whole people)
whole_seeks_fit people lists aligned = record {
  full = length-map people (λ (person : Person). Whole) ∙ sym (length_lists lists ∙ aligned_length lists people aligned);
  within = λ i list seek at at'. subst (λ (s : Seek). IsWithinList list s) (whole_at people i seek at') tt;
}
  where
    whole_at : (people : List Person) (i : ℕ) (seek : Seek) → slice_get (all_whole people) i ≡ Some seek → Whole ≡ seek
    whole_at [] i seek at = absurd (cc)
    whole_at (person ∷ people) zero seek at = cc
    whole_at (person ∷ people) (suc i) seek at = whole_at people i seek at

-- ---- nobody sits twice

final_there : (id : ℕ) (row : AllotRow) (rows : List AllotRow) (later : Bool) → row.cand.0 ≡ id → (row.cand.0 == id || later) ≡ true
final_there id row rows later same = rw (eq-eqb row.cand.0 id same) refl

all_final : (all : List AllotRow) (P : ℕ → Type 0) (rows : List AllotRow) → ((id : ℕ) → has_final id rows ≡ true → has_final id all ≡ true)
    → ((id : ℕ) → has_final id all ≡ true → P id) → AllByRecursion (λ (row : AllotRow). P row.cand.0) rows
all_final all P [] within each = tt
all_final all P (row ∷ rows) within each = (
  each row.cand.0 (within row.cand.0 (final_there row.cand.0 row rows (has_final row.cand.0 rows) refl)),
  all_final all P rows (λ id e. within id (or_right (row.cand.0 == id) (has_final id rows) e)) each,
)

pub sit_out : (facts : SeasonFacts) (table : SeatTable) (rows : List AllotRow) (body : List ℕ) (season : Season) (round : Round) → IsSound facts → IsSound (facts_of season)
    → IsLeftSeason facts table rows body season → IsRound facts.version nobody season.matrix facts.people (lists_in season.choices) 1 (all_whole facts.people) round
    → AllByRecursion (λ (row : AllotRow). seat_of facts (Some round) row.cand.0 ≡ None) rows
sit_out facts table rows body season round sound sound' left made =
    let people = facts.people in
    let register : season.register.people ≡ people = ap (λ (r : Ranks). r.people) left.register in
    let aligned : map (λ (held : ℕ × List ProgId). held.0) season.choices ≡ map (λ (p : Person). p.id.0) people =
    sound'.aligned ∙ ap (λ (l : List Person). map (λ (p : Person). p.id.0) l) register in
    all_final rows (λ id. seat_of facts (Some round) id ≡ None) rows (λ id e. e)
    (λ id final. unseated facts.version 1 season.matrix (register_of facts) season.choices (all_whole people) round id sound.ranks aligned (whole_seeks_fit people season.choices aligned).full made
    (unlisted (register_of facts) facts.matrix id rows (rows_of body) season.choices final left.nobody left.lists))

-- ---- all together

pub is_special : (facts : SeasonFacts) (table : SeatTable) (rows : List AllotRow) (body : List ℕ) (season : Season) (vacant : ℕ) (seeks : List Seek) (round : Round) → IsSound facts
    → IsSound (facts_of season) → TogetherWithin → table.programmes ≡ facts.matrix.programmes
    → ((prog : ℕ) → prog < length facts.matrix.programmes → FitInto table prog (rows_of_step rows prog))
    → IsLeftSeason facts table rows body season → vacant ≡ total_seats table - length rows → seeks ≡ all_whole season.register.people
    → IsRound season.version nobody season.matrix season.register.people (lists_in season.choices) 1 seeks round
    → IsSpecialOver facts table rows body (record { season = season; vacant = vacant; round = round })
is_special facts table rows body season vacant seeks round sound sound' together same fit left many whole made =
    let people = facts.people in
    let register : season.register.people ≡ people = ap (λ (r : Ranks). r.people) left.register in
    let sought : IsRound season.version nobody season.matrix season.register.people (lists_in season.choices) 1 (all_whole season.register.people) round =
    subst (λ q. IsRound season.version nobody season.matrix season.register.people (lists_in season.choices) 1 q round) whole made in
    let here : IsRound facts.version nobody season.matrix people (lists_in season.choices) 1 (all_whole people) round =
    subst (λ (l : List Person). IsRound facts.version nobody season.matrix l (lists_in season.choices) 1 (all_whole l) round) register
    (subst (λ v. IsRound v nobody season.matrix season.register.people (lists_in season.choices) 1 (all_whole season.register.people) round) left.version sought) in
    let enter : AreEntrants season.matrix people (lists_in season.choices) =
    subst (λ (l : List Person). AreEntrants season.matrix l (lists_in season.choices)) register (entrants (facts_of season) season.matrix sound' refl) in
    record {
      season = left;
      vacant = many;
      round = here;
      apart = sit_out facts table rows body season round sound sound' left here;
      within = λ prog below. together facts.version 1 table season.matrix people (lists_in season.choices) (all_whole people) rows round prog sound'.seats left.matrix (fit prog below) enter here
          (subst (λ l. prog < length l) (sym same) below);
    }
