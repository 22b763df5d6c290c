-- The reply that led to a state in which all is in order can be shown.
use Rattle.std.proofs.Common.{◌≡◌, ◌+◌, ℕ, Bool, true, false, Option, Some, None, length, refl, sym, ap, ◌∙◌, subst, if◌then◌else◌}
use Rattle.std.specs.Prelude.{slice_get, nat_lt, option_map, ◌==◌}
use Rattle.allocations.specs.Market.{place_of}
use Rattle.choice_lists.specs.Choices.{list_of}
use Rattle.office_base.specs.Person.{at_person}
use Rattle.office_base.specs.declared.seat.Seat.{Seat}
use Rattle.office_base.specs.declared.person.CandId.{CandId}
use Rattle.office_base.specs.declared.person.Person.{Person}
use Rattle.office_base.specs.declared.person.ProgId.{ProgId}
use Rattle.programme_lists.specs.declared.programme.Programme.{Programme}
use Rattle.rank_lists.specs.Register.{find_person}
use Rattle.reasons.specs.declared.reason.WhyAnswer.{WhyAnswer}
use Rattle.reasons.specs.declared.reason.WhyAnswer.TheVariants.{NotSought}
use Rattle.rounds.specs.declared.round.Round.{Round}
use Rattle.round_options.specs.declared.standing.Standing.{Standing}
use Rattle.round_options.specs.declared.standing.Standing.TheVariants.{Waiting, Offered, Freeze, Float, Slide, Withdrawn, NoShow}
use Rattle.office_moves.specs.Facts.{IsSound, SeasonFacts}
use Rattle.office_moves.specs.Moves.{Does, Tells, told_seat, programme_in, receipt}
use Rattle.office_moves.specs.State.{State, last_seat, round_at, seat_of, standing_at, view_of}
use Rattle.office_moves.specs.Why.{is_sought_by, reason_in, why_answer, why_beside, why_refused}
use Rattle.office_moves.specs.Decided.{decided}
use Rattle.office_moves.specs.declared.decide.Decision.{Decision}
use Rattle.office_moves.specs.declared.decide.Decision.TheVariants.{RaisedAgain, CutAgain, Lift, Publish, Finish, Tell}
use Rattle.office_moves.specs.declared.decide.Question.{Question}
use Rattle.office_moves.specs.declared.decide.Question.TheVariants.{Seat as TheSeat, Why as TheReason, List as TheList, Round as TheRound, Choices as TheChoices, Cutoffs as TheCutoffs, Register as TheRegister}
use Rattle.office_moves.specs.declared.moves.Reply.{Reply}
use Rattle.office_moves.specs.declared.moves.Reply.TheVariants.{Published, Final, RegisterIs}
use Rattle.office_moves.proofs.Decisions.{IsThere, NamesThere, decided_there}
use Rattle.published_texts.specs.Texts.{IsAnswerOf, IsSeatOf}
use Rattle.history_laws.specs.Orderly.{IsOrderly}
use Rattle.reply_texts.specs.Replies.{HasTraitSlots, IsReplyOf}
use Rattle.shown_replies.specs.Shown.{CameOf, CanBeShown, round_shown, rows_shown}
use Rattle.shown_replies.proofs.Seats.{ChooseWell, finals_show, is_round_shown, round_at_shows, seat_shows}

abbrev Shows : SeasonFacts → State → Reply → Type 0
Shows facts state reply = IsReplyOf facts.matrix facts.people (round_shown state reply) (rows_shown state) reply

-- ---- why

refused_shows : (facts : SeasonFacts) (round : Round) (cand : CandId) (prog : ProgId) → IsAnswerOf facts.matrix (why_refused facts round cand prog)
refused_shows facts round cand prog =
    when (is_sought_by facts cand prog (at_person cand.0 facts.people round.seeks)) _ (reasons (slice_get round.programmes prog.0) (find_person cand.0 facts.people))
  where
    reasons : (programme : Option Programme) (person : Option Person) → IsAnswerOf facts.matrix (reason_in facts prog programme person)
    reasons None person = tt
    reasons (Some programme) None = tt
    reasons (Some programme) (Some person) = tt

    when : (b : Bool) (answer : WhyAnswer) → IsAnswerOf facts.matrix answer → IsAnswerOf facts.matrix (if b then answer else NotSought)
    when true answer h = h
    when false answer h = tt

beside_shows : (facts : SeasonFacts) (round : Round) (cand : CandId) (prog : ProgId) (seat : Option Seat) → IsSeatOf facts.matrix seat → IsAnswerOf facts.matrix (why_beside facts round cand prog seat)
beside_shows facts round cand prog None below = refused_shows facts round cand prog
beside_shows facts round cand prog (Some seat) below =
    either (seat.prog.0 == prog.0) (nat_lt (place_of (list_of facts.lists cand.0) seat.prog.0) (place_of (list_of facts.lists cand.0) prog.0)) _ _ _ tt below (refused_shows facts round cand prog)
  where
    either : (here better : Bool) (one two three : WhyAnswer) → IsAnswerOf facts.matrix one → IsAnswerOf facts.matrix two → IsAnswerOf facts.matrix three
        → IsAnswerOf facts.matrix (if here then one else if better then two else three)
    either true better one two three a b c = a
    either false true one two three a b c = b
    either false false one two three a b c = c

why_shows : (facts : SeasonFacts) (round : Option Round) (cand : CandId) (prog : ProgId) → IsSeatOf facts.matrix (seat_of facts round cand.0) → IsAnswerOf facts.matrix (why_answer facts round cand prog)
why_shows facts None cand prog below = tt
why_shows facts (Some round) cand prog below = beside_shows facts round cand prog (seat_of facts (Some round) cand.0) below

-- ---- seats, receipts and lists

told_shows : (facts : SeasonFacts) (standing : Standing) (seat : Option Seat) → IsSeatOf facts.matrix seat → IsSeatOf facts.matrix (told_seat standing seat)
told_shows facts Waiting seat h = tt
told_shows facts Offered seat h = h
told_shows facts Freeze seat h = h
told_shows facts Float seat h = h
told_shows facts Slide seat h = h
told_shows facts Withdrawn seat h = tt
told_shows facts NoShow seat h = tt

receipt_shows : (facts : SeasonFacts) (state : State) (window : ℕ) → ChooseWell → IsSound facts → IsOrderly facts state → Shows facts state (receipt facts state window)
receipt_shows facts state window laws sound orderly =
    either (nat_lt window facts.rounds) _ _ (is_round_shown facts state (window + 1) laws sound orderly) (finals_show facts state laws sound orderly)
  where
    either : (b : Bool) (seated admitted : ℕ) → Shows facts state (Published (window + 1) seated) → Shows facts state (Final admitted)
        → Shows facts state (if b then Published (window + 1) seated else Final admitted)
    either true seated admitted one two = one
    either false seated admitted one two = two

list_shows : (facts : SeasonFacts) (state : State) (number p : ℕ) (programme : Programme) → ChooseWell → IsSound facts → IsOrderly facts state
    → programme_in (round_at state.rounds number) p ≡ Some programme → HasTraitSlots programme
list_shows facts state number p programme laws sound orderly e = go (round_at state.rounds number) refl e
  where
    go : (o : Option Round) → round_at state.rounds number ≡ o → programme_in o p ≡ Some programme → HasTraitSlots programme
    go None is e = absurd (cc)
    go (Some round) is e = (round_at_shows facts state number round laws sound orderly is).slots p programme e

-- ---- each question

tells_shows : (facts : SeasonFacts) (state : State) (question : Question) (reply : Reply) → ChooseWell → IsSound facts → IsOrderly facts state → IsThere facts state question
    → Tells facts state question reply → Shows facts state reply
tells_shows facts state (TheSeat cand) reply laws sound orderly there e =
    subst (λ r. Shows facts state r) (sym e)
    (told_shows facts (standing_at facts (view_of state cand.0) cand.0 state.now) (last_seat facts state.rounds cand.0) (seat_shows facts state (length state.rounds) cand.0 laws sound orderly))
tells_shows facts state (TheReason cand prog) reply laws sound orderly there e =
    subst (λ r. Shows facts state r) (sym e)
    (there.1, why_shows facts (round_at state.rounds (length state.rounds)) cand prog (seat_shows facts state (length state.rounds) cand.0 laws sound orderly))
tells_shows facts state (TheList number prog) reply laws sound orderly there tells =
    subst (λ r. Shows facts state r) (sym tells.2) (there.2, list_shows facts state number prog.0 tells.0 laws sound orderly tells.1)
tells_shows facts state (TheRound number) reply laws sound orderly there e =
    subst (λ r. Shows facts state r) (sym e) (is_round_shown facts state number laws sound orderly, finals_show facts state laws sound orderly)
tells_shows facts state (TheChoices cand) reply laws sound orderly there e = subst (λ r. Shows facts state r) (sym e) (sound.choices cand.0).numbers
tells_shows facts state (TheCutoffs number prog) reply laws sound orderly there tells = subst (λ r. Shows facts state r) (sym tells.4) there.2
tells_shows facts state (TheRegister cand) reply laws sound orderly there e = entry_shows (find_person cand.0 facts.people) e
  where
    entry_shows : (entry : Option Person) → option_map (λ person. RegisterIs person) entry ≡ Some reply → Shows facts state reply
    entry_shows None none = absurd (cc)
    entry_shows (Some person) some = let same : RegisterIs person ≡ reply = cc in subst (λ r. Shows facts state r) same tt
tells_shows facts state question reply laws sound orderly there e = subst (λ r. Shows facts state r) (sym e) tt

-- ---- each decision

does_shows : (facts : SeasonFacts) (old new : State) (decision : Decision) (reply : Reply) → ChooseWell → IsSound facts → IsOrderly facts new → NamesThere facts old decision
    → Does facts old decision reply new → Shows facts new reply
does_shows facts old new (RaisedAgain row) reply laws sound orderly there does = subst (λ r. Shows facts new r) (sym does.0) there
does_shows facts old new (CutAgain window) reply laws sound orderly there does =
    subst (λ r. Shows facts new r) (sym (does.0 ∙ ap (λ s. receipt facts s window) (sym does.1))) (receipt_shows facts new window laws sound orderly)
does_shows facts old new (Lift row) reply laws sound orderly there does = subst (λ r. Shows facts new r) (sym does.0) there
does_shows facts old new Publish reply laws sound orderly there does = subst (λ r. Shows facts new r) (sym does.2) (is_round_shown facts new (old.now + 1) laws sound orderly)
does_shows facts old new Finish reply laws sound orderly there does = subst (λ r. Shows facts new r) (sym does.0) (finals_show facts new laws sound orderly)
does_shows facts old new (Tell question) reply laws sound orderly there does =
    let same = sym does.1 in
    tells_shows facts new question reply laws sound orderly (subst (λ s. IsThere facts s question) same there) (subst (λ s. Tells facts s question reply) same does.0)
does_shows facts old new decision reply laws sound orderly there does = subst (λ r. Shows facts new r) (sym does.0) tt

pub shows : (facts : SeasonFacts) (state : State) (reply : Reply) → ChooseWell → IsSound facts → IsOrderly facts state → CameOf facts state reply → CanBeShown facts state reply
unfolding CanBeShown
shows facts state reply laws sound orderly came =
    does_shows facts came.old state (decided facts came.old came.request) reply laws sound orderly (decided_there facts came.old came.request.by came.request.ask) came.moves
