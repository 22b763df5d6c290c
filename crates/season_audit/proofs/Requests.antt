-- What requests may do, and what holds at a cut.
use Rattle.std.proofs.Common.{◌≡◌, ◌<◌, true, List, Option, Some, None, length, ℕ, arith, refl, sym, ap, ◌∙◌, subst}
use Rattle.std.specs.Prelude.{IfOk, Result, is_some, slice_get}
use Rattle.std.proofs.lemmas.Result.{IfOk-weaker}
use Rattle.office_asks.specs.declared.ask.Ask.{Ask}
use Rattle.office_asks.specs.declared.ask.Ask.TheVariants.{Answer, Cut, Raise}
use Rattle.office_base.specs.declared.choice.Choice.{Choice}
use Rattle.office_asks.specs.declared.ask.Request.{Request}
use Rattle.office_base.specs.declared.seat.Seat.{Seat}
use Rattle.office_base.specs.declared.person.CandId.{CandId}
use Rattle.office_base.specs.declared.step.StepKind.{StepKind}
use Rattle.kept_rows.specs.declared.rows.AllotRow.{AllotRow}
use Rattle.office_moves.specs.Decided.{decided, decided_by}
use Rattle.office_moves.specs.Facts.{SeasonFacts}
use Rattle.office_moves.specs.History.{newly}
use Rattle.office_moves.specs.State.{State}
use Rattle.office_moves.specs.declared.decide.Decision.{Decision}
use Rattle.office_moves.specs.declared.decide.Decision.TheVariants.{Publish}
use Rattle.seat_matrix.specs.Matrix.{SeatTable}
use Rattle.office_moves.proofs.Decisions.{by_kind, question_old}
use Rattle.audit_rules.specs.Papers.{Papers, lists_after, rows_after, seats_told}
use Rattle.audit_rules.specs.AtCut.{IsAtCut, Setting}
use Rattle.audit_rules.specs.Comes.{AreLists, CutComesTo, told_by}
use Rattle.audit_rules.specs.declared.fault.Fault.{Fault}
use Rattle.audit_rules.specs.declared.stand.Stand.{Stand}
use Rattle.list_texts.specs.declared.lists.ListRead.{ListRead}
use Rattle.season_audit.specs.Audit.{ComesTo, IsUpTo, NameOnce, Passes}
use Rattle.season_audit.specs.declared.auditor.Auditor.{Auditor}

-- ---- the outcome of an ask

-- an ask that is no answer, no cut and no raise accepts nothing new
pub others_quiet : (facts : SeasonFacts) (request : Request) → ((cand : CandId) (window turn : ℕ) (choice : Choice) → request.ask ≡ Answer cand window turn choice → ⊥)
    → ((window : ℕ) → request.ask ≡ Cut window → ⊥) → ((window : ℕ) (code : List ℕ) (step : StepKind) (seats : ℕ) → request.ask ≡ Raise window code step seats → ⊥) → (state : State)
    → newly state.now (decided facts state request) ≡ None
others_quiet facts request answers cuts raises state =
    by_kind (λ (ask : Ask). request.ask ≡ ask → newly state.now (decided_by facts state request.by ask) ≡ None) (λ cand window turn choice e. absurd (answers cand window turn choice e))
    (λ window e. absurd (cuts window e)) (λ window code step seats e. absurd (raises window code step seats e)) (λ ask is e. question_old facts state state.now request.by ask is) request.ask refl

-- ---- the outcome of a request

-- what a decision passes, another passes that is the same
pub passes_as : (facts : SeasonFacts) (papers : Papers) (state : State) (one other : Decision) (auditor : Auditor) → one ≡ other → Passes facts papers state other auditor → Passes facts papers state one auditor
passes_as facts papers state one other auditor same passes = subst (λ (d : Decision). Passes facts papers state d auditor) (sym same) passes

pub comes_as : (facts : SeasonFacts) (papers : Papers) (state : State) (one other : Decision) (auditor : Auditor) (fault : Option Fault) → one ≡ other → ComesTo facts papers state other auditor fault
    → ComesTo facts papers state one auditor fault
comes_as facts papers state one other auditor fault same comes = subst (λ (d : Decision). ComesTo facts papers state d auditor fault) (sym same) comes

pub ok_as : {E : Type 0} (facts : SeasonFacts) (papers : Papers) (state : State) (one other : Decision) (auditor : Auditor) (result : Result (Option Fault) E) → one ≡ other
    → IfOk result (ComesTo facts papers state other auditor) → IfOk result (ComesTo facts papers state one auditor)
ok_as facts papers state one other auditor result same comes = subst (λ (d : Decision). IfOk result (ComesTo facts papers state d auditor)) (sym same) comes

-- of the request at a place of a script
pub ok_there : {E : Type 0} (facts : SeasonFacts) (papers : Papers) (state : State) (script : List Request) (at : ℕ) (other : Decision) (auditor : Auditor) (result : Result (Option Fault) E)
    → ((request : Request) → slice_get script at ≡ Some request → decided facts state request ≡ other) → IfOk result (ComesTo facts papers state other auditor)
    → IfOk result (λ fault. (request : Request) → slice_get script at ≡ Some request → ComesTo facts papers state (decided facts state request) auditor fault)
ok_there facts papers state script at other auditor result same comes =
    IfOk-weaker result (ComesTo facts papers state other auditor) (λ fault. (request : Request) → slice_get script at ≡ Some request → ComesTo facts papers state (decided facts state request) auditor fault)
    (λ fault there request is. comes_as facts papers state (decided facts state request) other auditor fault (same request is) there) comes

-- ---- raises

-- a programme of the season is one of the replay's matrix
pub of_matrix : (facts : SeasonFacts) (state : State) (auditor : Auditor) (prog : ℕ) → IsUpTo facts state auditor → prog < length facts.matrix.programmes → prog < length auditor.raised.matrix.programmes
of_matrix facts state auditor prog upto below = subst (λ z. prog < length z) (sym (ap (λ (m : SeatTable). m.programmes) upto.matrix ∙ upto.order.programmes)) below

-- ---- at a cut

pub at_cut : (facts : SeasonFacts) (at : Setting) (papers : Papers) (auditor : Auditor) (matrix : SeatTable) (stands : List Stand) (rows : List AllotRow) (seats : List (Option Seat)) → at.papers ≡ papers → IsUpTo facts at.state auditor
    → at.state.now < facts.rounds → matrix ≡ auditor.raised.matrix → stands ≡ auditor.stands.items → rows ≡ rows_after papers auditor.window → seats ≡ seats_told rows facts.people → IsAtCut facts at matrix stands seats
at_cut facts at papers auditor matrix stands rows seats these upto early raised same told given = record {
  sound = upto.sound;
  order = upto.order;
  early = early;
  matrix_is = raised ∙ upto.matrix;
  stands_are = same ∙ upto.stands (omega (arith, early));
  seats_are = given ∙ ap (λ (r : List AllotRow). seats_told r facts.people) (told ∙ (ap (rows_after papers) upto.window ∙ ap (λ (p : Papers). rows_after p at.state.now) (sym these)));
}

pub are_lists : (facts : SeasonFacts) (at : Setting) (papers : Papers) (auditor : Auditor) (count : ℕ) (lists : List ListRead) → at.papers ≡ papers → IsUpTo facts at.state auditor
    → count ≡ length facts.matrix.programmes → told_by lists ≡ lists_after papers count auditor.window → NameOnce lists → AreLists facts at lists
are_lists facts at papers auditor count lists these upto many told once = record {
  same = told ∙ (ap (λ (n : ℕ). lists_after papers n auditor.window) many
      ∙ (ap (lists_after papers (length facts.matrix.programmes)) upto.window ∙ ap (λ (p : Papers). lists_after p (length facts.matrix.programmes) at.state.now) (sym these)));
  once = once;
}

-- a clause that is broken at the cut
pub fault_comes : (facts : SeasonFacts) (at : Setting) (auditor : Auditor) (fault : Option Fault) → is_some fault ≡ true → CutComesTo facts at fault → ComesTo facts at.papers at.state Publish auditor fault
fault_comes facts at auditor None e comes = absurd (cc)
fault_comes facts at auditor (Some fault) e comes = comes
