-- What each request does to a replay.
use Rattle.std.proofs.Common.{◌≡◌, ◌<◌, ◌≤◌, ◌+◌, ◌*◌, ◌⊎◌, inl, inr, ℕ, suc, add-one, Bool, true, false, List, [], ◌∷◌, ◌++◌, Option, Some, None, length, map, get_or, slice_set, arith, refl, sym, ap, ◌∙◌, subst, not, nat_lt, ◌==◌, if◌then◌else◌}
use Rattle.std.specs.Prelude.{◌&&◌, ◌||◌, is_some, min, nat_le, option_map, replicate, slice_get}
use Rattle.std.specs.List.{list_any}
use Rattle.std.proofs.lemmas.Bool.{cases_eq, eq-eqb}
use Rattle.std.proofs.lemmas.Bool.Decides.{nat_tests}
use Rattle.std.proofs.lemmas.List.{length-map}
use Rattle.std.proofs.lemmas.Option.{same_Some, slice_get-get_or, slice_get-map, slice_get_within}
use Rattle.office_asks.specs.declared.ask.Ask.{Ask}
use Rattle.office_asks.specs.declared.ask.Ask.TheVariants.{Answer, Cut}
use Rattle.office_asks.specs.declared.ask.By.{By}
use Rattle.office_asks.specs.declared.ask.By.TheVariants.{Clerk, Candidate, Nobody}
use Rattle.office_asks.specs.declared.ask.Request.{Request}
use Rattle.office_base.specs.declared.person.Person.{Person}
use Rattle.kept_rows.specs.declared.rows.AllotRow.{AllotRow}
use Rattle.kept_rows.specs.declared.rows.AnswerRow.{AnswerRow}
use Rattle.kept_rows.specs.declared.rows.RaiseRow.{RaiseRow}
use Rattle.rank_lists.specs.Register.{find_person, row_of}
use Rattle.seat_matrix.specs.Laws.{OneStepChanges}
use Rattle.seat_matrix.specs.Matrix.{SeatTable, matrix_with, seating_in}
use Rattle.round_options.specs.declared.standing.Standing.TheVariants.{Waiting}
use Rattle.office_moves.specs.Decided.{answer_facts, decide_answer, decide_cut, decide_raise_of, decided, raise_facts, same_raise}
use Rattle.office_moves.specs.Facts.{IsSound, SeasonFacts}
use Rattle.office_moves.specs.History.{newly}
use Rattle.office_moves.specs.Judge.{is_clerk, refuse_if}
use Rattle.office_moves.specs.Raised.{matrix_at}
use Rattle.office_moves.specs.State.{State, opening, view_of, with_raise, with_round, with_row}
use Rattle.office_moves.specs.declared.decide.Decision.{Decision}
use Rattle.office_moves.specs.declared.decide.Decision.TheVariants.{CutAgain, Note, Lift, Publish, Finish}
use Rattle.office_moves.specs.declared.decide.RaiseFacts.{RaiseFacts}
use Rattle.office_moves.specs.declared.moves.Act.{Act}
use Rattle.office_moves.specs.declared.moves.Act.TheVariants.{Raise as ARaise}
use Rattle.office_moves.specs.declared.refusal.Refusal.TheVariants.{Ahead, Denied}
use Rattle.office_moves.proofs.Chains.{answer_new, cut_new, raise_new}
use Rattle.office_moves.proofs.Rising.{IsLift, raised_append}
use Rattle.raised_seats.specs.Raised.{Raised, looks_at}
use Rattle.audit_rules.specs.Cut.{BreaksAt, CutHolds, HoldsAt}
use Rattle.audit_rules.specs.Fair.{AreWhole, cuts_of}
use Rattle.audit_rules.specs.InOrder.{IsInOrder}
use Rattle.audit_rules.specs.Papers.{Papers}
use Rattle.audit_rules.specs.Replay.{before, round_of, taken}
use Rattle.audit_rules.specs.Verdict.{HoldsThere, IsFirstBroken}
use Rattle.audit_rules.proofs.Ordering.{before_next, in_order_at_first, in_order_next, is_open, nothing_new, published, was_lift, with_lift}
use Rattle.audit_rules.specs.Raises.{lifts}
use Rattle.audit_rules.specs.Stands.{after_answer, notes, stand_of, stands_along}
use Rattle.audit_rules.specs.declared.stand.Stand.{Stand}
use Rattle.audit_rules.proofs.RegisterLists.{AreRising, set_along}
use Rattle.audit_rules.proofs.TakenRaises.{is_lifted, not_lifted, opened}
use Rattle.audit_rules.proofs.NotedAnswers.{is_noted, next_turn, not_noted, unknown_not_noted}
use Rattle.audit_rules.proofs.NextStandings.{stand_answered, stand_other}
use Rattle.audit_rules.proofs.SeatsOfRows.{known, stands}
use Rattle.audit_rules.specs.declared.fault.Fault.{Fault}
use Rattle.dossier_file.specs.Due.{cuts_accepted}
use Rattle.list_texts.specs.declared.lists.ListRead.{ListRead}
use Rattle.publish.specs.declared.reads.RoundRead.{RoundRead}
use Rattle.season_audit.specs.Audit.{AllHold, IsUpTo, Passes, StandAfter}
use Rattle.season_audit.specs.declared.auditor.Auditor.{Auditor}

-- ---- before everything

first_along : (facts : SeasonFacts) (people : List Person)
    → replicate (length people) (record { left = Waiting; last = 0; standing = Waiting; seat = None }) ≡ map (λ (person : Person). stand_of facts opening person.id.0) people
first_along facts [] = refl
first_along facts (p ∷ people) = ap (λ (z : List Stand). record { left = Waiting; last = 0; standing = Waiting; seat = None } ∷ z) (first_along facts people)

pub begun : (facts : SeasonFacts) (auditor : Auditor) → IsSound facts → auditor.window ≡ 0 → auditor.raised.raises ≡ [] → auditor.raised.matrix ≡ facts.matrix
    → auditor.stands.items ≡ replicate (length facts.people) (record { left = Waiting; last = 0; standing = Waiting; seat = None }) → IsUpTo facts opening auditor
begun facts auditor sound window raises matrix all = record {
  sound = sound;
  order = in_order_at_first facts sound;
  few = omega arith;
  window = window;
  raises = raises;
  matrix = matrix;
  stands = λ few. all ∙ first_along facts facts.people;
}

-- ---- what changes nothing

quiet_holds : (facts : SeasonFacts) (papers : Papers) (state : State) (decision : Decision) → newly state.now decision ≡ None → HoldsAt facts papers state decision
quiet_holds facts papers state Publish e = absurd (cc)
quiet_holds facts papers state Finish e = absurd (cc)
quiet_holds facts papers state _ e = tt

pub quiet : (facts : SeasonFacts) (papers : Papers) (state : State) (decision : Decision) (auditor : Auditor) → newly state.now decision ≡ None → IsUpTo facts state auditor
    → Passes facts papers state decision auditor
quiet facts papers state decision auditor e upto = record {
  holds = quiet_holds facts papers state decision e;
  next = subst (λ (s : State). IsUpTo facts s auditor) (sym (nothing_new facts papers state decision e)) upto;
}

-- ---- answers

abbrev pub answer_by : SeasonFacts → State → By → AnswerRow → Decision
answer_by facts state by row = decide_answer facts (view_of state row.cand.0) by row

-- of another window
pub not_now : (facts : SeasonFacts) (state : State) (by : By) (row : AnswerRow) → (row.window ≡ state.now → row.window ≤ facts.rounds → ⊥) → newly state.now (answer_by facts state by row) ≡ None
not_now facts state by row other = go (newly state.now (answer_by facts state by row)) refl
  where
    go : (o : Option Act) → newly state.now (answer_by facts state by row) ≡ o → o ≡ None
    go None e = refl
    go (Some act) e =
        let n = answer_new state.now (answer_facts facts (view_of state row.cand.0) row) by row act e in
        let time = is_open state.now facts.rounds row.window n.opened in
        absurd (other time.0 (let same = time.0 in let few = time.1 in omega (arith, same, few)))

-- of nobody
pub of_nobody : (facts : SeasonFacts) (state : State) (by : By) (row : AnswerRow) → find_person row.cand.0 facts.people ≡ None → newly state.now (answer_by facts state by row) ≡ None
of_nobody facts state by row none = unknown_not_noted facts state by row (ap is_some none)

-- the candidate at the place
pub stand_at : (facts : SeasonFacts) (state : State) (all : List Stand) (id at : ℕ) (d : Stand) → all ≡ stands_along facts state → row_of id facts.people ≡ Some at → at < length facts.people
    → get_or all at d ≡ stand_of facts state id
stand_at facts state all id at d same place less =
    let who = stands id facts.people at place in
    let long : length all ≡ length facts.people = ap length same ∙ length-map facts.people (λ (p : Person). stand_of facts state p.id.0) in
    let there = slice_get-get_or all at d (omega (arith, less, long)) in
    let here : slice_get all at ≡ Some (stand_of facts state who.0.id.0) =
    ap (λ (z : List Stand). slice_get z at) same ∙ (slice_get-map (λ (p : Person). stand_of facts state p.id.0) facts.people at ∙ ap (λ (o : Option Person). option_map (λ (p : Person). stand_of facts state p.id.0) o) who.1) in
    same_Some (get_or all at d) (stand_of facts state who.0.id.0) (sym there ∙ here) ∙ ap (stand_of facts state) who.2

-- an answer that is noted
pub noted : (facts : SeasonFacts) (state : State) (by : By) (row : AnswerRow) (all : List Stand) (at : ℕ) (d : Stand) → AreRising facts.people → all ≡ stands_along facts state
    → row.window ≡ state.now → row.window ≤ facts.rounds → row_of row.cand.0 facts.people ≡ Some at → at < length facts.people → notes (get_or all at d) by row ≡ true
    → StandAfter facts state row (answer_by facts state by row) (slice_set all at (after_answer (get_or all at d) row))
noted facts state by row all at d rising same now few place less passes =
    let id = row.cand.0 in
    let mine = stand_at facts state all id at d same place less in
    let decides : answer_by facts state by row ≡ Note row =
    is_noted facts state by row (known id facts.people at place) (opened state.now facts.rounds row.window now (omega (arith, now, few))) now (subst (λ (s : Stand). notes s by row ≡ true) mine passes) in
    let turn : row.turn ≡ (stand_of facts state id).last + 1 = next_turn (stand_of facts state id) by row (subst (λ (s : Stand). notes s by row ≡ true) mine passes) in
    let who = stands id facts.people at place in
    let set : slice_set (stands_along facts state) at (stand_of facts (with_row state row) who.0.id.0) ≡ stands_along facts (with_row state row) =
    set_along (λ (p : Person). stand_of facts state p.id.0) (λ (p : Person). stand_of facts (with_row state row) p.id.0) facts.people at who.0 rising who.1
    (λ p other. stand_other facts state row p.id.0 now (λ e. other (e ∙ sym who.2))) in
    let value : after_answer (get_or all at d) row ≡ stand_of facts (with_row state row) who.0.id.0 =
    ap (λ (s : Stand). after_answer s row) mine ∙ (sym (stand_answered facts state row now turn) ∙ ap (stand_of facts (with_row state row)) (sym who.2)) in
    inl (decides, ap (λ (z : List Stand). slice_set z at (after_answer (get_or all at d) row)) same ∙ (ap (λ (s : Stand). slice_set (stands_along facts state) at s) value ∙ set))

-- and one that is not
pub unnoted : (facts : SeasonFacts) (state : State) (by : By) (row : AnswerRow) (all : List Stand) (at : ℕ) (d : Stand) → all ≡ stands_along facts state
    → row_of row.cand.0 facts.people ≡ Some at → at < length facts.people → notes (get_or all at d) by row ≡ false → StandAfter facts state row (answer_by facts state by row) all
unnoted facts state by row all at d same place less fails =
    inr (not_noted facts state by row (subst (λ (s : Stand). notes s by row ≡ false) (stand_at facts state all row.cand.0 at d same place less) fails), same)

pub not_known : (facts : SeasonFacts) (state : State) (by : By) (row : AnswerRow) (all : List Stand) → all ≡ stands_along facts state → find_person row.cand.0 facts.people ≡ None
    → StandAfter facts state row (answer_by facts state by row) all
not_known facts state by row all same none = inr (of_nobody facts state by row none, same)

-- so it passes
pub answer_passes : OneStepChanges → (facts : SeasonFacts) (papers : Papers) (state : State) (by : By) (row : AnswerRow) (old new : Auditor) → IsUpTo facts state old
    → StandAfter facts state row (answer_by facts state by row) new.stands.items → new.window ≡ old.window → new.raised ≡ old.raised
    → Passes facts papers state (answer_by facts state by row) new
answer_passes law facts papers state by row old new upto (inl (decides, made)) window raised =
    let order = in_order_next law facts papers state (record { by = by; ask = Answer row.cand row.window row.turn row.choice }) upto.sound upto.order (subst (λ (z : Decision). HoldsAt facts papers state z) (sym decides) tt) in
    record {
      holds = subst (λ (z : Decision). HoldsAt facts papers state z) (sym decides) tt;
      next = subst (λ (z : Decision). IsUpTo facts (taken facts papers state z) new) (sym decides) (record {
        sound = upto.sound;
        order = subst (λ (z : Decision). IsInOrder facts (taken facts papers state z)) decides order;
        few = upto.few;
        window = window ∙ upto.window;
        raises = ap (λ (r : Raised). r.raises) raised ∙ upto.raises;
        matrix = ap (λ (r : Raised). r.matrix) raised ∙ upto.matrix;
        stands = λ early. made;
      });
    }
answer_passes law facts papers state by row old new upto (inr (none, made)) window raised =
    quiet facts papers state (answer_by facts state by row) new none (record {
      sound = upto.sound;
      order = upto.order;
      few = upto.few;
      window = window ∙ upto.window;
      raises = ap (λ (r : Raised). r.raises) raised ∙ upto.raises;
      matrix = ap (λ (r : Raised). r.matrix) raised ∙ upto.matrix;
      stands = λ early. made;
    })

-- ---- raises

abbrev pub raise_by : SeasonFacts → State → By → RaiseRow → Decision
raise_by facts state by row = decide_raise_of facts state by row

-- the looks of a raise
pub looks_are : (facts : SeasonFacts) (state : State) (row : RaiseRow) (old : Auditor) (rounds : ℕ) (looks : RaiseFacts) → IsUpTo facts state old → rounds ≡ facts.rounds
    → looks ≡ looks_at old.raised old.window rounds row → looks ≡ raise_facts facts state row
looks_are facts state row old rounds looks upto r made =
    made ∙ (ap (λ (n : ℕ). looks_at old.raised n rounds row) upto.window ∙ (ap (λ (n : ℕ). looks_at old.raised state.now n row) r
    ∙ (ap (λ (m : SeatTable). looks_at (record { matrix = m; raises = old.raised.raises; room = old.raised.room }) state.now facts.rounds row) upto.matrix
    ∙ ap (λ (rows : List RaiseRow). looks_at (record { matrix = matrix_at facts state; raises = rows; room = old.raised.room }) state.now facts.rounds row) upto.raises)))

-- a raise that is taken lifts the matrix
pub lift_is : (facts : SeasonFacts) (state : State) (by : By) (row : RaiseRow) (old : Auditor) → IsUpTo facts state old → row.prog.0 < length facts.matrix.programmes
    → lifts (raise_facts facts state row) by row ≡ true → IsLift old.raised.matrix row
lift_is facts state by row old upto below passes =
    let decides : raise_by facts state by row ≡ Lift row = is_lifted (raise_facts facts state row) by row passes in
    let n = raise_new state.now (raise_facts facts state row) by row (ARaise row) (ap (newly state.now) decides) in
    subst (λ (m : SeatTable). IsLift m row) (sym upto.matrix) (was_lift facts state row (subst (λ z. row.prog.0 < length z) (sym upto.order.programmes) below) n.next)

-- and is none of those that were accepted
pub lift_fresh : (facts : SeasonFacts) (state : State) (by : By) (row : RaiseRow) (old : Auditor) → IsUpTo facts state old → lifts (raise_facts facts state row) by row ≡ true
    → list_any (same_raise row) old.raised.raises ≡ false
lift_fresh facts state by row old upto passes =
    let decides : raise_by facts state by row ≡ Lift row = is_lifted (raise_facts facts state row) by row passes in
    let n = raise_new state.now (raise_facts facts state row) by row (ARaise row) (ap (newly state.now) decides) in
    ap (list_any (same_raise row)) upto.raises ∙ n.fresh

pub lifted : OneStepChanges → (facts : SeasonFacts) (papers : Papers) (state : State) (by : By) (row : RaiseRow) (old new : Auditor) → IsUpTo facts state old → row.prog.0 < length facts.matrix.programmes
    → lifts (raise_facts facts state row) by row ≡ true → new.window ≡ old.window → new.raised.raises ≡ old.raised.raises ++ row ∷ []
    → new.raised.matrix ≡ matrix_with old.raised.matrix row.prog.0 row.step (record { seats = row.seats; protections = (seating_in old.raised.matrix row.prog.0 row.step).protections }) → new.stands ≡ old.stands
    → Passes facts papers state (raise_by facts state by row) new
lifted law facts papers state by row old new upto below passes window raises matrix same =
    let decides : raise_by facts state by row ≡ Lift row = is_lifted (raise_facts facts state row) by row passes in
    let lift = subst (λ (m : SeatTable). IsLift m row) upto.matrix (lift_is facts state by row old upto below passes) in
    let table : matrix_at facts (with_raise state row)
    ≡ matrix_with (matrix_at facts state) row.prog.0 row.step (record { seats = row.seats; protections = (seating_in (matrix_at facts state) row.prog.0 row.step).protections }) =
    raised_append facts.matrix state.raises (row ∷ []) in
    record {
      holds = subst (λ (z : Decision). HoldsAt facts papers state z) (sym decides) tt;
      next = subst (λ (z : Decision). IsUpTo facts (taken facts papers state z) new) (sym decides) (record {
        sound = upto.sound;
        order = with_lift law facts state row upto.order lift;
        few = upto.few;
        window = window ∙ upto.window;
        raises = raises ∙ ap (λ (z : List RaiseRow). z ++ row ∷ []) upto.raises;
        matrix = matrix ∙ (ap (λ (m : SeatTable). matrix_with m row.prog.0 row.step (record { seats = row.seats; protections = (seating_in m row.prog.0 row.step).protections })) upto.matrix ∙ sym table);
        stands = λ early. ap (λ v. v.items) same ∙ upto.stands early;
      });
    }

pub unlifted : (facts : SeasonFacts) (papers : Papers) (state : State) (by : By) (row : RaiseRow) (auditor : Auditor) → IsUpTo facts state auditor → lifts (raise_facts facts state row) by row ≡ false
    → Passes facts papers state (raise_by facts state by row) auditor
unlifted facts papers state by row auditor upto fails =
    quiet facts papers state (raise_by facts state by row) auditor (not_lifted state.now (raise_facts facts state row) by row fails) upto

-- ---- cuts

abbrev pub cut_by : SeasonFacts → State → By → ℕ → Decision
cut_by facts state by window = decide_cut facts state by window

-- not by the clerk, or of another window
pub not_cut : (facts : SeasonFacts) (state : State) (by : By) (window : ℕ) → (is_clerk by ≡ true → window ≡ state.now → window ≤ facts.rounds → ⊥) → newly state.now (cut_by facts state by window) ≡ None
not_cut facts state by window other = go (newly state.now (cut_by facts state by window)) refl
  where
    few : (now : ℕ) → ((cut_by facts state by window ≡ Finish) × (now ≡ facts.rounds)) ⊎ ((cut_by facts state by window ≡ Publish) × (now < facts.rounds)) → now ≤ facts.rounds
    few now (inl e) = (let last = e.1 in omega (arith, last))
    few now (inr e) = (let less = e.1 in omega (arith, less))

    go : (o : Option Act) → newly state.now (cut_by facts state by window) ≡ o → o ≡ None
    go None e = refl
    go (Some act) e =
        let n = cut_new by state.now facts.rounds window act e in
        absurd (other n.clerk n.opened (let same = n.opened in let most = few state.now n.ends in omega (arith, same, most)))

cut_chain : (clerk early ahead last : Bool) (now window : ℕ) → clerk ≡ true → early ≡ false → ahead ≡ false
    → refuse_if (not clerk) (Denied 2) (if early then CutAgain window else refuse_if ahead (Ahead now) (if last then Finish else Publish)) ≡ (if last then Finish else Publish)
cut_chain true false false last now window a b c = refl
cut_chain _ _ _ last now window a b c = absurd (cc)

not_below : (m n : ℕ) → n ≤ m → nat_lt m n ≡ false
not_below m n less = grind (arith, nat_tests)

neither : (a b : Bool) → a ≡ false → b ≡ false → (a || b) ≡ false
neither true b e f = absurd (cc)
neither false b e f = f

pub cut_is : (facts : SeasonFacts) (state : State) (by : By) (window : ℕ) → is_clerk by ≡ true → window ≡ state.now → window ≤ facts.rounds → cut_by facts state by window ≡ (if window == facts.rounds then Finish else Publish)
cut_is facts state by window clerk same few =
    cut_chain (is_clerk by) (nat_lt window state.now) (nat_lt state.now window || nat_lt facts.rounds window) (window == facts.rounds) state.now window clerk (not_below window state.now (omega (arith, same)))
    (neither (nat_lt state.now window) (nat_lt facts.rounds window) (not_below state.now window (omega (arith, same))) (not_below facts.rounds window few))

pub cut_last : (facts : SeasonFacts) (state : State) (by : By) (window : ℕ) → is_clerk by ≡ true → window ≡ state.now → window ≡ facts.rounds → cut_by facts state by window ≡ Finish
cut_last facts state by window clerk same last =
    cut_is facts state by window clerk same (omega (arith, last)) ∙ ap (λ (b : Bool). if b then Finish else Publish) (eq-eqb window facts.rounds last)

pub cut_early : (facts : SeasonFacts) (state : State) (by : By) (window : ℕ) → is_clerk by ≡ true → window ≡ state.now → window < facts.rounds → cut_by facts state by window ≡ Publish
cut_early facts state by window clerk same less =
    cut_is facts state by window clerk same (omega (arith, less)) ∙ ap (λ (b : Bool). if b then Finish else Publish) (not_equal window facts.rounds less)
  where
    not_equal : (m n : ℕ) → m < n → (m == n) ≡ false
    not_equal m n less = grind (arith, nat_tests)

-- a round that breaks no clause
pub is_published : (facts : SeasonFacts) (papers : Papers) (state : State) (old new : Auditor) → IsUpTo facts state old → state.now < facts.rounds → CutHolds facts papers state → new.window ≡ old.window + 1
    → new.raised ≡ old.raised → new.stands.items ≡ stands_along facts (with_round state (round_of facts papers state)) → Passes facts papers state Publish new
is_published facts papers state old new upto early holds' window raised made = record {
  holds = holds';
  next = record {
    sound = upto.sound;
    order = published facts papers state upto.sound upto.order early holds';
    few = omega (arith, early);
    window = window ∙ ap (λ (n : ℕ). n + 1) upto.window;
    raises = ap (λ (r : Raised). r.raises) raised ∙ upto.raises;
    matrix = ap (λ (r : Raised). r.matrix) raised ∙ upto.matrix;
    stands = λ few. made;
  };
}

-- ---- a script

-- the requests before a place break no clause, and the replay has reached the state there
pub record Stood (facts : SeasonFacts) (script : List Request) (papers : Papers) (j : ℕ) (auditor : Auditor) : Type 0 where
  pub upto : IsUpTo facts (before facts script papers j) auditor
  pub earlier : (i : ℕ) (request : Request) → i < j → slice_get script i ≡ Some request → HoldsThere facts script papers i request

pub stood_none : (facts : SeasonFacts) (script : List Request) (papers : Papers) (auditor : Auditor) → IsUpTo facts opening auditor → Stood facts script papers 0 auditor
stood_none facts script papers auditor upto = record { upto = upto; earlier = λ i request less there. absurd (omega (arith, less)) }

pub stood_next : (facts : SeasonFacts) (script : List Request) (papers : Papers) (j : ℕ) (old new : Auditor) (request : Request) → Stood facts script papers j old → slice_get script j ≡ Some request
    → Passes facts papers (before facts script papers j) (decided facts (before facts script papers j) request) new → Stood facts script papers (j + 1) new
stood_next facts script papers j old new request stood there passes = record {
  upto = subst (λ (s : State). IsUpTo facts s new) (sym (before_next facts script papers j request there)) passes.next;
  earlier = λ i other less at. elim (cases_eq i j) [
    | inl same ↦
        let one : other ≡ request = same_Some other request (sym at ∙ (ap (slice_get script) same ∙ there)) in
        subst (λ (k : ℕ). HoldsThere facts script papers k other) (sym same) (subst (λ (r : Request). HoldsThere facts script papers j r) (sym one) passes.holds)
    | inr apart ↦ stood.earlier i other (omega (arith, less, apart)) at
  ];
}

pub stood_whole : (facts : SeasonFacts) (script : List Request) (papers : Papers) (j : ℕ) (auditor : Auditor) → Stood facts script papers j auditor → length script ≤ j → AllHold facts script papers
stood_whole facts script papers j auditor stood end i request there = stood.earlier i request (let less = slice_get_within script i request there in omega (arith, less, end)) there

pub stood_broken : (facts : SeasonFacts) (script : List Request) (papers : Papers) (j number : ℕ) (auditor : Auditor) (request : Request) (fault : Fault) → Stood facts script papers j auditor
    → slice_get script j ≡ Some request → number ≡ auditor.window + 1
    → BreaksAt facts papers (before facts script papers j) (decided facts (before facts script papers j) request) fault.clause fault.prog fault.cand
    → IsFirstBroken facts script papers number fault.clause fault.prog fault.cand
stood_broken facts script papers j number auditor request fault stood there same breaks = record {
  at = j;
  request = request;
  there = there;
  earlier = stood.earlier;
  number = same ∙ ap (λ (n : ℕ). n + 1) stood.upto.window;
  here = breaks;
}

-- ---- whole dossiers

counts_are : (rounds now : ℕ) (script : List Request) → cuts_of rounds now script ≡ now + cuts_accepted rounds now script
counts_are rounds now [] = omega arith
counts_are rounds now (request ∷ script) = by_ask (λ k. counts_are rounds k script) request.by request.ask
  where
    both : ((k : ℕ) → cuts_of rounds k script ≡ k + cuts_accepted rounds k script) → (b : Bool)
        → cuts_of rounds (if b then now + 1 else now) script ≡ now + (if b then suc (cuts_accepted rounds (suc now) script) else cuts_accepted rounds now script)
    both rest true = (let e = rest (now + 1) in let f : cuts_accepted rounds (now + 1) script ≡ cuts_accepted rounds (suc now) script = ap (λ (n : ℕ). cuts_accepted rounds n script) (add-one now) in omega (arith, e, f))
    both rest false = rest now

    by_ask : ((k : ℕ) → cuts_of rounds k script ≡ k + cuts_accepted rounds k script) → (by : By) (ask : Ask)
        → cuts_of rounds now (record { by = by; ask = ask } ∷ script) ≡ now + cuts_accepted rounds now (record { by = by; ask = ask } ∷ script)
    by_ask rest Clerk (Cut window) = both rest (window == now && nat_le now rounds)
    by_ask rest (Candidate id) (Cut window) = rest now
    by_ask rest Nobody (Cut window) = rest now
    by_ask rest _ _ = rest now

pub is_whole : (facts : SeasonFacts) (script : List Request) (rounds : List RoundRead) (lists : List ListRead) (last : Option (List AllotRow))
    → length rounds ≡ min facts.rounds (cuts_accepted facts.rounds 0 script) → length lists ≡ length rounds * length facts.matrix.programmes
    → AreWhole facts script (record { rounds = map (λ (read : RoundRead). read.rows) rounds; lists = map (λ (read : ListRead). read.programme) lists; finals = last })
is_whole facts script rounds lists last some all =
    let a = length-map rounds (λ (read : RoundRead). read.rows) in
    let b = length-map lists (λ (read : ListRead). read.programme) in
    let c = counts_are facts.rounds 0 script in
    record {
      rounds = a ∙ (some ∙ ap (min facts.rounds) (let e : cuts_accepted facts.rounds 0 script ≡ cuts_of facts.rounds 0 script = omega (arith, c) in e));
      lists = b ∙ (all ∙ ap (λ (n : ℕ). n * length facts.matrix.programmes) (sym a));
    }
