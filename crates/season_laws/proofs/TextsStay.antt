-- What a state has under a number, it has later too.
use Rattle.std.proofs.Common.{◌≡◌, ◌<◌, ◌≤◌, ◌+◌, ◌⊎◌, inl, inr, ℕ, zero, suc, List, [], ◌∷◌, ◌++◌, Option, Some, None, length, arith, refl, sym, ap, ◌∙◌, subst, add-one}
use Rattle.std.specs.Prelude.{slice_get}
use Rattle.std.specs.Option.{unwrap_or}
use Rattle.std.proofs.lemmas.Bool.{cases_lt}
use Rattle.office_base.proofs.Lists.{get-after}
use Rattle.kept_rows.specs.declared.rows.AllotRow.{AllotRow}
use Rattle.rounds.specs.Round.{seated}
use Rattle.rounds.specs.declared.round.Round.{Round}
use Rattle.office_moves.specs.Facts.{SeasonFacts}
use Rattle.office_moves.specs.Laws.{RepeatsOnce}
use Rattle.office_moves.specs.State.{State, opening, round_at, with_finals, with_raise, with_round, with_row}
use Rattle.office_moves.specs.Decided.{decided}
use Rattle.office_moves.specs.Moves.{Does, final_rows, noted, raised_reply}
use Rattle.office_moves.specs.History.{Reaches}
use Rattle.office_moves.specs.declared.decide.Decision.{Decision}
use Rattle.office_moves.specs.declared.moves.Entry.{Entry}
use Rattle.office_moves.specs.declared.moves.Reply.{Reply}
use Rattle.office_moves.specs.declared.moves.Reply.TheVariants.{Final, Published, RoundIs}
use Rattle.office_moves.proofs.Grows.{Accepted, Answers, Finishes, InOrder, Publishes, Raises, finals_stay, reaches_grows, reaches_order, round_stays, was_accepted}
use Rattle.history_laws.specs.Laws.{WindowsPass}
use Rattle.published_texts.specs.Texts.{final_text, round_text}
use Rattle.reply_texts.specs.Replies.{final_line, published_line, shown_text, text_of_round}
use Rattle.shown_replies.specs.Shown.{reply_bytes, rows_shown}
use Rattle.season_laws.specs.Lasting.{CutsShowTheirRounds, FinalTextsStay, ReceiptsStay, RoundTextsStay}

-- ---- a list that grew

-- a round stays under its number
lasting : (facts : SeasonFacts) (more : List Entry) (old new : State) (number : ℕ) (round : Round) → Reaches facts old more new → round_at old.rounds number ≡ Some round
    → round_at new.rounds number ≡ Some round
lasting facts more old new number round reached e =
    let grown = (reaches_grows facts old new more reached).rounds in
    subst (λ rounds. round_at rounds number ≡ Some round) (sym grown.1) (round_stays old.rounds grown.0 number round e)

-- there is no round beyond the last
none_beyond : (rounds : List Round) (number : ℕ) → length rounds < number → round_at rounds number ≡ None
none_beyond rounds zero beyond = refl
none_beyond rounds (suc before) beyond = go rounds before (omega (arith, beyond))
  where
    go : (rounds : List Round) (i : ℕ) → length rounds ≤ i → slice_get rounds i ≡ None
    go [] i beyond = refl
    go (r ∷ rounds) zero beyond = absurd (omega (arith, beyond))
    go (r ∷ rounds) (suc i) beyond = go rounds i (omega (arith, beyond))

-- one chain of acts behind another
joined : (facts : SeasonFacts) (old mid new : State) (first second : List Entry) → Reaches facts old first mid → Reaches facts mid second new → Reaches facts old (first ++ second) new
joined facts old mid new [] second one two = subst (λ s. Reaches facts s second new) one two
joined facts old mid new (entry ∷ first) second one two = (one.0, one.1, one.2, one.3, joined facts one.0 mid new first second one.4 two)

-- ---- texts

shown_round : (facts : SeasonFacts) (state : State) (number : ℕ) (round : Round) → round_at state.rounds number ≡ Some round
    → reply_bytes facts state (RoundIs number) ≡ round_text facts.matrix facts.people round
unfolding reply_bytes
shown_round facts state number round e = ap (λ o. shown_text facts.matrix facts.people o (rows_shown state)) e

shown_finals : (facts : SeasonFacts) (state : State) (number : ℕ) (rows : List AllotRow) → round_at state.rounds number ≡ None → state.finals ≡ Some rows
    → reply_bytes facts state (RoundIs number) ≡ final_text facts.matrix rows
unfolding reply_bytes
shown_finals facts state number rows none e =
    ap (λ o. shown_text facts.matrix facts.people o (rows_shown state)) none ∙ ap (λ (o : Option (List AllotRow)). final_text facts.matrix (unwrap_or o [])) e

shown_published : (facts : SeasonFacts) (state : State) (number seated : ℕ) (round : Round) → round_at state.rounds number ≡ Some round
    → reply_bytes facts state (Published number seated) ≡ published_line number seated ++ round_text facts.matrix facts.people round
unfolding reply_bytes
shown_published facts state number seated round e = ap (λ o. published_line number seated ++ text_of_round facts.matrix facts.people o) e

shown_final : (facts : SeasonFacts) (state : State) (admitted : ℕ) (rows : List AllotRow) → state.finals ≡ Some rows
    → reply_bytes facts state (Final admitted) ≡ final_line admitted ++ final_text facts.matrix rows
unfolding reply_bytes
shown_final facts state admitted rows e = ap (λ (o : Option (List AllotRow)). final_line admitted ++ final_text facts.matrix (unwrap_or o [])) e

-- ---- what was newly accepted

-- the round that a cut publishes has its number
just_there : (rounds : List Round) (now : ℕ) (round : Round) → length rounds ≡ now → round_at (rounds ++ round ∷ []) (now + 1) ≡ Some round
just_there rounds now round e =
    subst (λ n. round_at (rounds ++ round ∷ []) n ≡ Some round) (sym (add-one now)) (subst (λ n. slice_get (rounds ++ round ∷ []) n ≡ Some round) e (get-after rounds round []))

cut_there : (facts : SeasonFacts) (old new : State) (round : Round) → InOrder facts old → old.now < facts.rounds → new ≡ with_round old round → round_at new.rounds (old.now + 1) ≡ Some round
cut_there facts old new round order less e =
    subst (λ (s : State). round_at s.rounds (old.now + 1) ≡ Some round) (sym e) (just_there old.rounds old.now round (order (omega (arith, less))))

-- the text of its reply is the same in every later state
same_text : (facts : SeasonFacts) (more : List Entry) (old new later : State) (decision : Decision) (reply : Reply) → InOrder facts old → Accepted facts old decision
    → Does facts old decision reply new → Reaches facts new more later → reply_bytes facts later reply ≡ reply_bytes facts new reply
unfolding reply_bytes
same_text facts more old new later decision reply order (Answers row e) d reached =
    let does : (reply ≡ noted row) × (new ≡ with_row old row) = subst (λ z. Does facts old z reply new) e d in
    subst (λ r. reply_bytes facts later r ≡ reply_bytes facts new r) (sym does.0) refl
same_text facts more old new later decision reply order (Raises row e) d reached =
    let does : (reply ≡ raised_reply row) × (new ≡ with_raise old row) = subst (λ z. Does facts old z reply new) e d in
    subst (λ r. reply_bytes facts later r ≡ reply_bytes facts new r) (sym does.0) refl
same_text facts more old new later decision reply order (Publishes e less) d reached =
    let does = subst (λ z. Does facts old z reply new) e d in
    let there = cut_there facts old new does.0 order less does.3 in
    let still = lasting facts more new later (old.now + 1) does.0 reached there in
    subst (λ r. reply_bytes facts later r ≡ reply_bytes facts new r) (sym does.2)
    (shown_published facts later (old.now + 1) (seated does.0.seats) does.0 still ∙ sym (shown_published facts new (old.now + 1) (seated does.0.seats) does.0 there))
same_text facts more old new later decision reply order (Finishes e last) d reached =
    let does : (reply ≡ Final (length (final_rows facts old))) × (new ≡ with_finals old (final_rows facts old)) = subst (λ z. Does facts old z reply new) e d in
    let now : new.now ≡ old.now + 1 = ap (λ (s : State). s.now) does.1 in
    let has : new.finals ≡ Some (final_rows facts old) = ap (λ (s : State). s.finals) does.1 in
    let still = finals_stay facts new later more (omega (arith, now, last)) reached ∙ has in
    subst (λ r. reply_bytes facts later r ≡ reply_bytes facts new r) (sym does.0)
    (shown_final facts later (length (final_rows facts old)) (final_rows facts old) still ∙ sym (shown_final facts new (length (final_rows facts old)) (final_rows facts old) has))

-- the round that was published in a reply
record HasPublished (facts : SeasonFacts) (old new : State) (number : ℕ) : Type 0 where
  pub round : Round
  pub there : round_at new.rounds number ≡ Some round

has_published : (facts : SeasonFacts) (old new : State) (decision : Decision) (number count : ℕ) → InOrder facts old → Accepted facts old decision
    → Does facts old decision (Published number count) new → HasPublished facts old new number
has_published facts old new decision number count order (Answers row e) d =
    absurd (let does : (Published number count ≡ noted row) × (new ≡ with_row old row) = subst (λ z. Does facts old z (Published number count) new) e d in let no = does.0 in cc)
has_published facts old new decision number count order (Raises row e) d =
    absurd (let does : (Published number count ≡ raised_reply row) × (new ≡ with_raise old row) = subst (λ z. Does facts old z (Published number count) new) e d in let no = does.0 in cc)
has_published facts old new decision number count order (Finishes e last) d =
    absurd (let does : (Published number count ≡ Final (length (final_rows facts old))) × (new ≡ with_finals old (final_rows facts old)) =
    subst (λ z. Does facts old z (Published number count) new) e d in let no = does.0 in cc)
has_published facts old new decision number count order (Publishes e less) d =
    let does = subst (λ z. Does facts old z (Published number count) new) e d in
    let same = does.2 in
    let one : old.now + 1 ≡ number = cc in
    record { round = does.0; there = subst (λ n. round_at new.rounds n ≡ Some does.0) one (cut_there facts old new does.0 order less does.3) }

-- ---- the laws

pub round_texts_stay : (facts : SeasonFacts) → RoundTextsStay facts
round_texts_stay facts more old new number round reached e = shown_round facts new number round (lasting facts more old new number round reached e)

pub final_texts_stay : ((facts : SeasonFacts) → WindowsPass facts) → (facts : SeasonFacts) → FinalTextsStay facts
final_texts_stay passes facts before more old new rows there has reached =
    let first = passes facts before old there in
    let then = passes facts (before ++ more) new (joined facts opening old new before more there reached) in
    let few = then.few in
    let late : facts.rounds < old.now = by (cases_lt facts.rounds old.now) first.unfinished in
    let stay = finals_stay facts old new more late reached ∙ has in
    shown_finals facts new (facts.rounds + 1) rows (none_beyond new.rounds (facts.rounds + 1) (omega (arith, few))) stay
  where
    by : (facts.rounds < old.now) ⊎ (old.now ≤ facts.rounds) → (old.now ≤ facts.rounds → old.finals ≡ None) → facts.rounds < old.now
    by (inr early) none = absurd (let gone = none early in cc)
    by (inl late) none = late

pub receipts_stay : ((facts : SeasonFacts) → RepeatsOnce facts) → (facts : SeasonFacts) → ReceiptsStay facts
receipts_stay repeats facts before more old new later after request act reply again there accept first reached second =
    let same = repeats facts before more old new later after request act reply again there accept first reached second in
    let order = reaches_order facts opening old before (λ few. refl) there in
    ap (λ r. reply_bytes facts after r) same.0 ∙ (ap (λ s. reply_bytes facts s reply) same.1
    ∙ same_text facts more old new later (decided facts old request) reply order (was_accepted facts old request.by request.ask act accept) first reached)

pub cuts_show_their_rounds : (facts : SeasonFacts) → CutsShowTheirRounds facts
cuts_show_their_rounds facts before more old new later request act number count there accept first reached =
    let order = reaches_order facts opening old before (λ few. refl) there in
    let found = has_published facts old new (decided facts old request) number count order (was_accepted facts old request.by request.ask act accept) first in
    (found.round, lasting facts more new later number found.round reached found.there, shown_published facts new number count found.round found.there)
