-- A request that was accepted gives its receipt again, and changes nothing.
use Rattle.std.proofs.Common.{◌≡◌, ◌<◌, ◌+◌, inl, inr, ℕ, Bool, true, false, List, [], ◌∷◌, ◌++◌, Option, Some, None, length, arith, refl, sym, ap, ◌∙◌, subst, nat_lt, ◌==◌, append_assoc, add-one, if◌then◌else◌}
use Rattle.std.specs.Prelude.{slice_get, option_map, ◌&&◌}
use Rattle.std.proofs.lemmas.Bool.{and_from, eq-eqb, lt-ltb, or_left, or_right}
use Rattle.std.specs.List.{list_any}
use Rattle.std.specs.Option.{unwrap_or}
use Rattle.std.proofs.lemmas.Bool.Decides.{nat_tests}
use Rattle.std.proofs.lemmas.List.Folds.{list_any-append}
use Rattle.office_base.proofs.Lists.{get-after}
use Rattle.office_asks.specs.declared.ask.Ask.{Ask}
use Rattle.office_asks.specs.declared.ask.By.{By}
use Rattle.office_base.specs.declared.choice.Choice.{Choice}
use Rattle.office_base.specs.declared.person.ProgId.{ProgId}
use Rattle.office_base.specs.declared.step.StepKind.{StepKind}
use Rattle.kept_rows.specs.declared.rows.AllotRow.{AllotRow}
use Rattle.kept_rows.specs.declared.rows.AnswerRow.{AnswerRow}
use Rattle.kept_rows.specs.declared.rows.RaiseRow.{RaiseRow}
use Rattle.office_base.specs.StepNumbers.{step_number}
use Rattle.rounds.specs.Round.{seated}
use Rattle.rounds.specs.declared.round.Round.{Round}
use Rattle.office_moves.specs.Facts.{SeasonFacts, find_programme}
use Rattle.office_moves.specs.State.{State, accepted, opening, round_at, rows_of, view_of, with_finals, with_raise, with_row}
use Rattle.office_moves.specs.Judge.{with_programme}
use Rattle.office_moves.specs.Decided.{answer_facts, decide_answer, decide_cut, decide_raise, decided, decided_by, raise_facts, same_raise}
use Rattle.office_moves.specs.Moves.{Does, IsMove, final_rows, noted, raised_reply, receipt, seated_in}
use Rattle.office_moves.specs.History.{Reaches, newly}
use Rattle.office_moves.specs.Laws.{RepeatsOnce}
use Rattle.office_moves.specs.declared.decide.Decision.{Decision}
use Rattle.office_moves.specs.declared.decide.Decision.TheVariants.{RaisedAgain}
use Rattle.office_moves.specs.declared.moves.Act.{Act}
use Rattle.office_moves.specs.declared.moves.Entry.{Entry}
use Rattle.office_moves.specs.declared.moves.Reply.{Reply}
use Rattle.office_moves.specs.declared.moves.Reply.TheVariants.{Final, Published}
use Rattle.office_moves.proofs.Chains.{answer_again, answer_new, cut_again, cut_new, raise_again, raise_new, with_new}
use Rattle.office_moves.proofs.Decisions.{by_kind, question_old}
use Rattle.office_moves.proofs.Grows.{InOrder, finals_stay, reaches_grows, reaches_order}

-- the reply and the state of a repeat
abbrev Again : State → Reply → Reply → State → Type 0
Again later reply again after = (again ≡ reply) × (after ≡ later)

-- ---- an answer

pub rows_when : (b : Bool) (row : AnswerRow) (rows more : List AnswerRow) → (if b then row ∷ (rows ++ more) else rows ++ more) ≡ (if b then row ∷ rows else rows) ++ more
rows_when true row rows more = refl
rows_when false row rows more = refl

pub rows_append : (id : ℕ) (rows more : List AnswerRow) → rows_of id (rows ++ more) ≡ rows_of id rows ++ rows_of id more
rows_append id [] more = refl
rows_append id (row ∷ rows) more =
    ap (λ (z : List AnswerRow). if row.cand.0 == id then row ∷ z else z) (rows_append id rows more) ∙ rows_when (row.cand.0 == id) row (rows_of id rows) (rows_of id more)

pub rows_own : (id : ℕ) (row : AnswerRow) (rows : List AnswerRow) → row.cand.0 ≡ id → rows_of id (row ∷ rows) ≡ row ∷ rows_of id rows
rows_own id row rows e = rows_if (row.cand.0 == id) row (rows_of id rows) (eq-eqb _ _ e)
  where
    rows_if : (b : Bool) (row : AnswerRow) (rows : List AnswerRow) → b ≡ true → (if b then row ∷ rows else rows) ≡ row ∷ rows
    rows_if true row rows e = refl
    rows_if false row rows e = absurd (cc)

found_when : (b : Bool) (choice : Choice) (rest other : Option Choice) → (if b then Some choice else rest) ≡ None → rest ≡ None
found_when true choice rest other e = absurd (cc)
found_when false choice rest other e = e

found_here : (b : Bool) (choice : Choice) (rest : Option Choice) → b ≡ true → (if b then Some choice else rest) ≡ Some choice
found_here true choice rest e = refl
found_here false choice rest e = absurd (cc)

found_later : (b : Bool) (choice : Choice) (rest rest' : Option Choice) (found : Choice) → (if b then Some choice else rest) ≡ None → rest' ≡ Some found → (if b then Some choice else rest') ≡ Some found
found_later true choice rest rest' found e f = absurd (cc)
found_later false choice rest rest' found e f = f

accepted_then : (window turn : ℕ) (rows more : List AnswerRow) (row : AnswerRow) → accepted window turn rows ≡ None → row.window ≡ window → row.turn ≡ turn
    → accepted window turn (rows ++ row ∷ more) ≡ Some row.choice
accepted_then window turn [] more row none e f = found_here _ row.choice _ (and_from _ _ (eq-eqb _ _ e) (eq-eqb _ _ f))
accepted_then window turn (first ∷ rows) more row none e f =
    found_later (first.window == window && first.turn == turn) first.choice (accepted window turn rows) _ row.choice none
    (accepted_then window turn rows more row (found_when _ first.choice _ None none) e f)

accepted_now : (old later : State) (row : AnswerRow) (more : List AnswerRow) → accepted row.window row.turn (rows_of row.cand.0 old.answers) ≡ None
    → later.answers ≡ (old.answers ++ row ∷ []) ++ more → accepted row.window row.turn (rows_of row.cand.0 later.answers) ≡ Some row.choice
accepted_now old later row more none e =
    let id = row.cand.0 in
    let rows : later.answers ≡ old.answers ++ row ∷ more = e ∙ append_assoc old.answers (row ∷ []) more in
    let own : rows_of id later.answers ≡ rows_of id old.answers ++ row ∷ rows_of id more =
    ap (rows_of id) rows ∙ (rows_append id old.answers (row ∷ more) ∙ ap (λ z. rows_of id old.answers ++ z) (rows_own id row more refl)) in
    subst (λ z. accepted row.window row.turn z ≡ Some row.choice) (sym own) (accepted_then row.window row.turn (rows_of id old.answers) (rows_of id more) row none refl refl)

answer_repeats : (facts : SeasonFacts) (more : List Entry) (old new later after : State) (by : By) (row : AnswerRow) (act : Act) (reply again : Reply)
    → newly old.now (decide_answer facts (view_of old row.cand.0) by row) ≡ Some act → Does facts old (decide_answer facts (view_of old row.cand.0) by row) reply new
    → Reaches facts new more later → Does facts later (decide_answer facts (view_of later row.cand.0) by row) again after → Again later reply again after
answer_repeats facts more old new later after by row act reply again accept first reached second =
    let n = answer_new old.now (answer_facts facts (view_of old row.cand.0) row) by row act accept in
    let did : (reply ≡ noted row) × (new ≡ with_row old row) = subst (λ d. Does facts old d reply new) n.noted first in
    let grown = reaches_grows facts new later more reached in
    let answers : later.answers ≡ (old.answers ++ row ∷ []) ++ grown.answers.0 = grown.answers.1 ∙ ap (λ (s : State). s.answers ++ grown.answers.0) did.1 in
    let kept = accepted_now old later row grown.answers.0 n.fresh answers in
    let does : (again ≡ noted row) × (after ≡ later) = subst (λ d. Does facts later d again after) (answer_again (answer_facts facts (view_of later row.cand.0) row) by row n.known n.own kept) second in
    (does.0 ∙ sym did.0, does.1)

-- ---- a raise

raise_self : (row : RaiseRow) → same_raise row row ≡ true
raise_self row =
    and_from _ _ (and_from _ _ (and_from _ _ (eq-eqb row.window row.window refl) (eq-eqb row.prog.0 row.prog.0 refl)) (eq-eqb (step_number row.step) (step_number row.step) refl))
    (eq-eqb row.seats row.seats refl)

raised_now : (raises more : List RaiseRow) (row : RaiseRow) → list_any (same_raise row) ((raises ++ row ∷ []) ++ more) ≡ true
raised_now raises more row =
    let same : (raises ++ row ∷ []) ++ more ≡ raises ++ row ∷ more = append_assoc raises (row ∷ []) more in
    ap (list_any (same_raise row)) same ∙ (list_any-append (same_raise row) raises (row ∷ more)
    ∙ or_right (list_any (same_raise row) raises) _ (or_left (same_raise row row) _ (raise_self row)))

with_found : (prog : Option ProgId) (p : ProgId) (rest : ProgId → Decision) → prog ≡ Some p → with_programme prog rest ≡ rest p
with_found None p rest e = absurd (cc)
with_found (Some q) p rest e = ap rest (let same : q ≡ p = cc in same)

raise_repeats : (facts : SeasonFacts) (more : List Entry) (old new later after : State) (by : By) (window : ℕ) (code : List ℕ) (step : StepKind) (seats : ℕ) (act : Act) (reply again : Reply)
    → newly old.now (decide_raise facts old by window code step seats) ≡ Some act → Does facts old (decide_raise facts old by window code step seats) reply new
    → Reaches facts new more later → Does facts later (decide_raise facts later by window code step seats) again after → Again later reply again after
raise_repeats facts more old new later after by window code step seats act reply again accept first reached second =
    let found = with_new old.now (find_programme facts code) _ act accept in
    let row : RaiseRow = record { window = window; prog = found.0; step = step; seats = seats } in
    let n = raise_new old.now (raise_facts facts old row) by row act found.2 in
    let did : (reply ≡ raised_reply row) × (new ≡ with_raise old row) = subst (λ d. Does facts old d reply new) (found.3 ∙ n.lifted) first in
    let grown = reaches_grows facts new later more reached in
    let raises : later.raises ≡ (old.raises ++ row ∷ []) ++ grown.raises.0 = grown.raises.1 ∙ ap (λ (s : State). s.raises ++ grown.raises.0) did.1 in
    let known : list_any (same_raise row) later.raises ≡ true = ap (list_any (same_raise row)) raises ∙ raised_now old.raises grown.raises.0 row in
    let again' : decide_raise facts later by window code step seats ≡ RaisedAgain row =
    with_found (find_programme facts code) found.0 _ found.1 ∙ raise_again (raise_facts facts later row) by row n.clerk known in
    let does : (again ≡ raised_reply row) × (after ≡ later) = subst (λ d. Does facts later d again after) again' second in
    (does.0 ∙ sym did.0, does.1)

-- ---- a cut

receipt_if : (b : Bool) (x y : Reply) → b ≡ true → (if b then x else y) ≡ x
receipt_if true x y e = refl
receipt_if false x y e = absurd (cc)

receipt_else : (b : Bool) (x y : Reply) → b ≡ false → (if b then x else y) ≡ y
receipt_else true x y e = absurd (cc)
receipt_else false x y e = refl

not_less : (m n : ℕ) → m ≡ n → nat_lt m n ≡ false
not_less m n e = grind (arith, nat_tests)

round_there : (old later : State) (window : ℕ) (round : Round) (more : List Round) → window ≡ old.now → length old.rounds ≡ old.now → later.rounds ≡ (old.rounds ++ round ∷ []) ++ more
    → round_at later.rounds (window + 1) ≡ Some round
round_there old later window round more e order rounds =
    let same : length old.rounds ≡ window = order ∙ sym e in
    let there : slice_get later.rounds window ≡ Some round =
    ap (λ z. slice_get z window) (rounds ∙ append_assoc old.rounds (round ∷ []) more) ∙ subst (λ n. slice_get (old.rounds ++ round ∷ more) n ≡ Some round) same (get-after old.rounds round more) in
    subst (λ n. round_at later.rounds n ≡ Some round) (sym (add-one window)) there

publish_receipt : (facts : SeasonFacts) (old later : State) (window : ℕ) (round : Round) (more : List Round) → window ≡ old.now → old.now < facts.rounds → length old.rounds ≡ old.now
    → later.rounds ≡ (old.rounds ++ round ∷ []) ++ more → receipt facts later window ≡ Published (old.now + 1) (seated round.seats)
publish_receipt facts old later window round more e less order rounds =
    receipt_if (nat_lt window facts.rounds) _ _ (lt-ltb window facts.rounds (omega (arith, e, less)))
    ∙ (ap (λ n. Published (window + 1) n) (ap seated_in (round_there old later window round more e order rounds)) ∙ ap (λ n. Published (n + 1) (seated round.seats)) e)

finish_receipt : (facts : SeasonFacts) (later : State) (window : ℕ) (rows : List AllotRow) → window ≡ facts.rounds → later.finals ≡ Some rows → receipt facts later window ≡ Final (length rows)
finish_receipt facts later window rows e finals =
    receipt_else (nat_lt window facts.rounds) _ _ (not_less window facts.rounds e) ∙ ap (λ (z : Option (List AllotRow)). Final (unwrap_or (option_map (λ rows. length rows) z) 0)) finals

cut_repeats : (facts : SeasonFacts) (more : List Entry) (old new later after : State) (by : By) (window : ℕ) (act : Act) (reply again : Reply) → InOrder facts old
    → newly old.now (decide_cut facts old by window) ≡ Some act → Does facts old (decide_cut facts old by window) reply new
    → Reaches facts new more later → Does facts later (decide_cut facts later by window) again after → Again later reply again after
cut_repeats facts more old new later after by window act reply again order accept first reached second =
    let n = cut_new by old.now facts.rounds window act accept in
    let grown = reaches_grows facts new later more reached in
    let onward = grown.later in
    let e = n.opened in
    elim n.ends [
      | inl last ↦
          let did : (reply ≡ Final (length (final_rows facts old))) × (new ≡ with_finals old (final_rows facts old)) = subst (λ d. Does facts old d reply new) last.0 first in
          let now : new.now ≡ old.now + 1 = ap (λ (s : State). s.now) did.1 in
          let end = last.1 in
          let does : (again ≡ receipt facts later window) × (after ≡ later) =
          subst (λ d. Does facts later d again after) (cut_again by later.now facts.rounds window n.clerk (omega (arith, e, now, onward))) second in
          let finals : later.finals ≡ Some (final_rows facts old) = finals_stay facts new later more (omega (arith, now, end)) reached ∙ ap (λ (s : State). s.finals) did.1 in
          (does.0 ∙ (finish_receipt facts later window (final_rows facts old) (e ∙ end) finals ∙ sym did.0), does.1)
      | inr next ↦
          let did = subst (λ d. Does facts old d reply new) next.0 first in
          let now : new.now ≡ old.now + 1 = ap (λ (s : State). s.now) did.3 in
          let less = next.1 in
          let does : (again ≡ receipt facts later window) × (after ≡ later) =
          subst (λ d. Does facts later d again after) (cut_again by later.now facts.rounds window n.clerk (omega (arith, e, now, onward))) second in
          let rounds : later.rounds ≡ (old.rounds ++ did.0 ∷ []) ++ grown.rounds.0 = grown.rounds.1 ∙ ap (λ (s : State). s.rounds ++ grown.rounds.0) did.3 in
          (does.0 ∙ (publish_receipt facts old later window did.0 grown.rounds.0 e less (order (omega (arith, less))) rounds ∙ sym did.2), does.1)
    ]

-- ---- every request

repeats_by : (facts : SeasonFacts) (more : List Entry) (old new later after : State) (by : By) (ask : Ask) (act : Act) (reply again : Reply) → InOrder facts old
    → newly old.now (decided facts old (record { by = by; ask = ask })) ≡ Some act → IsMove facts old (record { by = by; ask = ask }) reply new → Reaches facts new more later
    → IsMove facts later (record { by = by; ask = ask }) again after → Again later reply again after
repeats_by facts more old new later after by ask act reply again order =
    by_kind (λ a. newly old.now (decided_by facts old by a) ≡ Some act → Does facts old (decided_by facts old by a) reply new → Reaches facts new more later
    → Does facts later (decided_by facts later by a) again after → Again later reply again after)
    (λ cand window turn choice accept first reached second.
    answer_repeats facts more old new later after by (record { window = window; cand = cand; turn = turn; choice = choice }) act reply again accept first reached second)
    (λ window accept first reached second. cut_repeats facts more old new later after by window act reply again order accept first reached second)
    (λ window code step seats accept first reached second. raise_repeats facts more old new later after by window code step seats act reply again accept first reached second)
    (λ a is accept first reached second. absurd (let e = question_old facts old old.now by a is in cc)) ask

pub repeats_once : (facts : SeasonFacts) → RepeatsOnce facts
repeats_once facts before more old new later after request act reply again there accept first reached second =
    repeats_by facts more old new later after request.by request.ask act reply again (reaches_order facts opening old before (λ few. refl) there) accept first reached second
