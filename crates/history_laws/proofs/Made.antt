-- How the rounds and the final rows of a history were made.
use Rattle.std.proofs.Common.{◌≡◌, ◌<◌, ◌+◌, ◌⊎◌, inl, inr, ℕ, suc, List, [], ◌∷◌, ◌++◌, Option, Some, None, length, map, arith, sym, refl, ap, ◌∙◌, subst, if◌then◌else◌, length-append}
use Rattle.std.specs.Prelude.{slice_get, option_map}
use Rattle.std.proofs.lemmas.Bool.{cases_order}
use Rattle.std.proofs.lemmas.Option.{slice_get_within}
use Rattle.office_base.proofs.Lists.{get-after, get-before}
use Rattle.office_base.specs.declared.seat.Seat.{Seat}
use Rattle.office_base.specs.declared.person.Person.{Person}
use Rattle.kept_rows.specs.declared.rows.AllotRow.{AllotRow}
use Rattle.kept_rows.specs.declared.rows.RaiseRow.{RaiseRow}
use Rattle.allocations.specs.Market.{place_of}
use Rattle.choice_lists.specs.Choices.{list_of}
use Rattle.seat_matrix.specs.Matrix.{SeatTable}
use Rattle.seeks.specs.declared.seek.Seek.{Seek}
use Rattle.rounds.specs.Round.{IsRound}
use Rattle.rounds.specs.Rule.{guarantees}
use Rattle.office_base.specs.declared.person.ProgId.{ProgId}
use Rattle.rounds.specs.declared.round.Round.{Round}
use Rattle.round_options.specs.Options.{holds, seek_after}
use Rattle.round_options.specs.declared.standing.Standing.{Standing}
use Rattle.office_moves.specs.Facts.{SeasonFacts, lists_in_order}
use Rattle.office_moves.specs.State.{State, last_seat, opening, seat_in, with_finals, with_raise, with_round, with_row}
use Rattle.office_moves.specs.Raised.{matrix_at, matrix_of_round, raised}
use Rattle.office_moves.specs.Moves.{IsNextRound, final_rows, final_seat, guaranteed_next, kept_programmes, next_seek, next_seeks, row_before, rows_along}
use Rattle.office_moves.specs.History.{Reaches}
use Rattle.office_moves.specs.Promise.{kept_then, kept_to_the_end, standing_then}
use Rattle.office_moves.specs.declared.moves.Act.{Act}
use Rattle.office_moves.specs.declared.moves.Entry.{Entry}
use Rattle.history_laws.specs.Course.{guaranteed_then, kept_programmes_then, seek_then, seeks_then}
use Rattle.history_laws.proofs.Accepted.{is_open}
use Rattle.history_laws.proofs.Changes.{Answered, Finishes, Follows, Publishes, Raised}
use Rattle.history_laws.proofs.Rows.{before_same}
use Rattle.history_laws.proofs.Stays.{Stays, answered_stays, finished_stays, published_stays}
use Rattle.history_laws.proofs.Windows.{Runs, along_windows}

-- ---- what everybody sought

map_same : {X Y : Type 0} (f g : X → Y) (xs : List X) → ((x : X) → f x ≡ g x) → map f xs ≡ map g xs
map_same f g [] same = refl
map_same f g (x ∷ xs) same = ap (λ y. y ∷ map f xs) (same x) ∙ ap (λ ys. g x ∷ ys) (map_same f g xs same)

-- what is sought by a standing and a seat
abbrev sought : SeasonFacts → ℕ → Standing → Option Seat → Seek
sought facts id standing seat = seek_after standing (option_map (λ (held : Seat). place_of (list_of facts.lists id) held.prog.0) seat)

sought_same : (facts : SeasonFacts) (id : ℕ) (a b : Standing) (x y : Option Seat) → a ≡ b → x ≡ y → sought facts id a x ≡ sought facts id b y
sought_same facts id a b x y e f = ap (λ s. sought facts id s x) e ∙ ap (λ z. sought facts id b z) f

seeks_stay : (facts : SeasonFacts) (old new : State) (window : ℕ) → ((id : ℕ) → Stays facts old new window id) → seeks_then facts new window ≡ seeks_then facts old window
seeks_stay facts old new window stays =
    map_same (λ (person : Person). seek_then facts new window person.id.0) (λ (person : Person). seek_then facts old window person.id.0) facts.people
    (λ person. sought_same facts person.id.0 _ _ _ _ (stays person.id.0).standing (stays person.id.0).seat)

-- what is sought at a cut is what is sought next before it
pub seeks_next : (facts : SeasonFacts) (old : State) → length old.rounds ≡ old.now → seeks_then facts old old.now ≡ next_seeks facts old
seeks_next facts old same =
    map_same (λ (person : Person). seek_then facts old old.now person.id.0) (λ (person : Person). next_seek facts old person.id.0) facts.people
    (λ person. sought_same facts person.id.0 _ _ _ _ refl (ap (λ n. seat_in facts old.rounds n person.id.0) (sym same)))

-- ---- who was guaranteed a seat

-- the seat, if the candidate keeps it by the standing
abbrev kept_by : Standing → Option Seat → Option Seat
kept_by standing seat = if holds standing then seat else None

-- the programme of a seat that is kept
abbrev kept_programme : Standing → Option Seat → Option ProgId
kept_programme standing seat = option_map (λ (held : Seat). held.prog) (kept_by standing seat)

kept_same : (a b : Standing) (x y : Option Seat) → a ≡ b → x ≡ y → kept_programme a x ≡ kept_programme b y
kept_same a b x y e f = ap (λ s. kept_programme s x) e ∙ ap (λ z. kept_programme b z) f

kept_stay : (facts : SeasonFacts) (old new : State) (window : ℕ) → ((id : ℕ) → Stays facts old new window id) → kept_programmes_then facts new window ≡ kept_programmes_then facts old window
kept_stay facts old new window stays =
    map_same (λ (person : Person). option_map (λ (held : Seat). held.prog) (kept_then facts new window person.id.0))
    (λ (person : Person). option_map (λ (held : Seat). held.prog) (kept_then facts old window person.id.0)) facts.people
    (λ person. kept_same _ _ _ _ (stays person.id.0).standing (stays person.id.0).seat)

-- the seats that are kept at a cut are those that are kept next before it
pub kept_next : (facts : SeasonFacts) (old : State) → length old.rounds ≡ old.now → kept_programmes_then facts old old.now ≡ kept_programmes facts old
kept_next facts old same =
    map_same (λ (person : Person). option_map (λ (held : Seat). held.prog) (kept_then facts old old.now person.id.0))
    (λ (person : Person). option_map (λ (held : Seat). held.prog) (final_seat facts old person.id.0)) facts.people
    (λ person. kept_same _ _ _ _ refl (ap (λ n. seat_in facts old.rounds n person.id.0) (sym same)))

-- ---- how rounds were made

-- the rounds of a state were made so
abbrev pub AreMade : SeasonFacts → State → Type 0
AreMade facts state = (before : ℕ) (round : Round) → slice_get state.rounds before ≡ Some round
    → IsRound facts.version (guaranteed_then facts state before) (matrix_of_round facts state (suc before)) facts.people (lists_in_order facts) (before + 1) (seeks_then facts state before) round

-- a round by the matrix, the seats kept and the seeks of a cut
abbrev IsRoundBy : SeasonFacts → ℕ → Round → SeatTable → List (Option ProgId) → List Seek → Type 0
IsRoundBy facts before round table kept seeks = IsRound facts.version (guarantees facts.people kept) table facts.people (lists_in_order facts) (before + 1) seeks round

made_again : (facts : SeasonFacts) (old new : State) (before : ℕ) (round : Round) → matrix_of_round facts new (suc before) ≡ matrix_of_round facts old (suc before)
    → ((id : ℕ) → Stays facts old new before id)
    → IsRoundBy facts before round (matrix_of_round facts old (suc before)) (kept_programmes_then facts old before) (seeks_then facts old before)
    → IsRoundBy facts before round (matrix_of_round facts new (suc before)) (kept_programmes_then facts new before) (seeks_then facts new before)
made_again facts old new before round matrix stays made =
    subst (λ (m : SeatTable). IsRoundBy facts before round m (kept_programmes_then facts new before) (seeks_then facts new before)) (sym matrix)
    (subst (λ (k : List (Option ProgId)). IsRoundBy facts before round (matrix_of_round facts old (suc before)) k (seeks_then facts new before)) (sym (kept_stay facts old new before stays))
    (subst (λ (z : List Seek). IsRoundBy facts before round (matrix_of_round facts old (suc before)) (kept_programmes_then facts old before) z) (sym (seeks_stay facts old new before stays)) made))

-- the round that was just published
made_now : (facts : SeasonFacts) (old : State) (round : Round) → Runs facts old → length old.rounds ≡ old.now → IsNextRound facts old round
    → IsRoundBy facts old.now round (matrix_of_round facts (with_round old round) (suc old.now)) (kept_programmes_then facts (with_round old round) old.now) (seeks_then facts (with_round old round) old.now)
made_now facts old round runs same next =
    let new = with_round old round in
    let stays : (id : ℕ) → Stays facts old new old.now id = λ id. published_stays facts old round old.now id (omega (arith, same)) in
    let matrix : matrix_of_round facts new (suc old.now) ≡ matrix_at facts old = ap (λ (z : List RaiseRow). raised facts.matrix z) (runs.raises (suc old.now) (omega arith)) in
    let kept : kept_programmes_then facts new old.now ≡ kept_programmes facts old = kept_stay facts old new old.now stays ∙ kept_next facts old same in
    let seeks : seeks_then facts new old.now ≡ next_seeks facts old = seeks_stay facts old new old.now stays ∙ seeks_next facts old same in
    subst (λ (m : SeatTable). IsRoundBy facts old.now round m (kept_programmes_then facts new old.now) (seeks_then facts new old.now)) (sym matrix)
    (subst (λ (k : List (Option ProgId)). IsRoundBy facts old.now round (matrix_at facts old) k (seeks_then facts new old.now)) (sym kept)
    (subst (λ (z : List Seek). IsRoundBy facts old.now round (matrix_at facts old) (kept_programmes facts old) z) (sym seeks) next))

-- a round of the list with one more is one of the list, or the new one at the end
last_or_before : (rounds : List Round) (last : Round) (before : ℕ) (round : Round) → slice_get (rounds ++ last ∷ []) before ≡ Some round
    → ((before < length rounds) × (slice_get rounds before ≡ Some round)) ⊎ ((before ≡ length rounds) × (last ≡ round))
last_or_before rounds last before round e =
    let within = slice_get_within (rounds ++ last ∷ []) before round e in
    let long = length-append rounds (last ∷ []) in
    elim (cases_order before (length rounds)) [
      | inl same ↦ let end = get-after rounds last [] in let here : slice_get (rounds ++ last ∷ []) (length rounds) ≡ Some round = subst (λ n. slice_get (rounds ++ last ∷ []) n ≡ Some round) same e in inr (same, (let f : last ≡ round = cc in f))
      | inr apart ↦ elim apart [
        | inl less ↦ inl (less, sym (get-before rounds (last ∷ []) before less) ∙ e)
        | inr more ↦ absurd (omega (arith, within, long, more))
      ]
    ]

made_follows : (facts : SeasonFacts) (old new : State) (act : Act) → Runs facts old → Runs facts new → AreMade facts old → Follows facts old act new → AreMade facts new
made_follows facts old new act runs after made (Answered row asks is n e) =
    let opened = is_open old.now facts.rounds row.window n.opened in
    let same = runs.time.order opened.1 in
    let here = opened.0 in
    subst (λ s. AreMade facts s) (sym e) (λ before round there.
    let within = slice_get_within old.rounds before round there in
    made_again facts old (with_row old row) before round refl (λ id. answered_stays facts old row before id (omega (arith, here, same, within))) (made before round there))
made_follows facts old new act runs after made (Raised row code asks found known is n e) =
    let opened = is_open old.now facts.rounds row.window n.opened in
    let same = runs.time.order opened.1 in
    let here = opened.0 in
    subst (λ s. AreMade facts s) (sym e) (λ before round there.
    let within = slice_get_within old.rounds before round there in
    made_again facts old (with_raise old row) before round
    (ap (λ (z : List RaiseRow). raised facts.matrix z) (before_same (suc before) old.raises row (omega (arith, here, same, within))))
    (λ id. record { left = refl; standing = refl; seat = refl }) (made before round there))
made_follows facts old new act runs after made (Publishes window round asks is cuts less next e) =
    let same = runs.time.order (omega (arith, less)) in
    subst (λ s. AreMade facts s) (sym e) (λ before other there.
    elim (last_or_before old.rounds round before other there) [
      | inl past ↦
          let early = past.0 in
          made_again facts old (with_round old round) before other refl
          (λ id. published_stays facts old round before id (omega (arith, early)))
          (made before other past.1)
      | inr last ↦
          let at : old.now ≡ before = sym (last.0 ∙ same) in
          let new = with_round old round in
          subst (λ (n : ℕ). IsRoundBy facts n other (matrix_of_round facts new (suc n)) (kept_programmes_then facts new n) (seeks_then facts new n)) at
          (subst (λ (r : Round). IsRoundBy facts old.now r (matrix_of_round facts new (suc old.now)) (kept_programmes_then facts new old.now) (seeks_then facts new old.now)) last.1
          (made_now facts old round runs same next))
    ])
made_follows facts old new act runs after made (Finishes window asks is cuts last e) =
    subst (λ s. AreMade facts s) (sym e) (λ before round there.
    made_again facts old (with_finals old (final_rows facts old)) before round refl
    (λ id. finished_stays facts old before id)
    (made before round there))

pub rounds_made : (facts : SeasonFacts) (entries : List Entry) (state : State) → Reaches facts opening entries state → AreMade facts state
rounds_made facts entries state reached = along_windows facts (AreMade facts) (λ before round there. absurd (cc)) (made_follows facts) entries state reached

-- ---- the final rows

abbrev pub AreLast : SeasonFacts → State → Type 0
AreLast facts state = (rows : List AllotRow) → state.finals ≡ Some rows → rows ≡ rows_along (facts.rounds + 1) (kept_to_the_end facts state) facts.people

rows_same : (number : ℕ) (f g : ℕ → Option Seat) (people : List Person) → ((id : ℕ) → f id ≡ g id) → rows_along number f people ≡ rows_along number g people
rows_same number f g [] same = refl
rows_same number f g (person ∷ people) same =
    ap (λ (z : Option Seat). row_before number person.id z (rows_along number f people)) (same person.id.0)
    ∙ ap (λ (z : List AllotRow). row_before number person.id (g person.id.0) z) (rows_same number f g people same)

none_yet : (facts : SeasonFacts) (state : State) → state.finals ≡ None → AreLast facts state
none_yet facts state none rows some = absurd (cc)

final_same : (facts : SeasonFacts) (old : State) (id : ℕ) → old.now ≡ facts.rounds → length old.rounds ≡ old.now
    → final_seat facts old id ≡ kept_to_the_end facts (with_finals old (final_rows facts old)) id
final_same facts old id last same =
    let stays = finished_stays facts old facts.rounds id in
    ap (λ n. kept_by (standing_then facts old n id) (last_seat facts old.rounds id)) last
    ∙ (ap (λ (n : ℕ). kept_by (standing_then facts old facts.rounds id) (seat_in facts old.rounds n id)) (same ∙ last)
    ∙ (ap (λ (s : Standing). kept_by s (seat_in facts old.rounds facts.rounds id)) (sym stays.standing)))

finals_follow : (facts : SeasonFacts) (old new : State) (act : Act) → Runs facts old → Runs facts new → AreLast facts old → Follows facts old act new → AreLast facts new
finals_follow facts old new act runs after here (Answered row asks is n e) =
    subst (λ s. AreLast facts s) (sym e) (none_yet facts (with_row old row) (runs.time.unfinished (is_open old.now facts.rounds row.window n.opened).1))
finals_follow facts old new act runs after here (Raised row code asks found known is n e) =
    subst (λ s. AreLast facts s) (sym e) (none_yet facts (with_raise old row) (runs.time.unfinished (is_open old.now facts.rounds row.window n.opened).1))
finals_follow facts old new act runs after here (Publishes window round asks is cuts less next e) =
    subst (λ s. AreLast facts s) (sym e) (none_yet facts (with_round old round) (runs.time.unfinished (omega (arith, less))))
finals_follow facts old new act runs after here (Finishes window asks is cuts last e) =
    let same = runs.time.order (omega (arith, last)) in
    subst (λ s. AreLast facts s) (sym e) (λ rows some.
    let mine : final_rows facts old ≡ rows = cc in
    sym mine ∙ rows_same (facts.rounds + 1) (final_seat facts old) (kept_to_the_end facts (with_finals old (final_rows facts old))) facts.people (λ id. final_same facts old id last same))

pub final_rows_last : (facts : SeasonFacts) (entries : List Entry) (state : State) → Reaches facts opening entries state → AreLast facts state
final_rows_last facts entries state reached = along_windows facts (AreLast facts) (λ rows some. absurd (cc)) (finals_follow facts) entries state reached
