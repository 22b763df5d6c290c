-- `special` writes the same for the same input.
use Rattle.std.proofs.Common.{◌≡◌, ◌⊎◌, inl, inr, ℕ, List, Option, Some, sym, ◌∙◌, subst}
use Rattle.section_rows.specs.Rows.{Row}
use Rattle.special_audit.specs.Laws.{OneRemaining}
use Rattle.list_cutoffs.specs.Laws.{OneListOfCutoffs}
use Rattle.kept_rows.specs.Tables.{AreTold, Tables, still}
use Rattle.kept_rows.specs.declared.rows.AllotRow.{AllotRow}
use Rattle.kept_rows.specs.declared.rows.Kept.{Kept}
use Rattle.rank_lists.specs.Register.{Ranks}
use Rattle.seat_matrix.specs.Matrix.{SeatTable}
use Rattle.choice_lists.specs.Laws.{HaveOneReading}
use Rattle.round_laws.specs.Laws.{Enter, OneRound}
use Rattle.office_moves.specs.Facts.{IsSound, SeasonFacts}
use Rattle.office_moves.specs.History.{Reaches}
use Rattle.office_moves.specs.Raised.{matrix_at}
use Rattle.office_moves.specs.State.{State, opening}
use Rattle.office_moves.specs.declared.moves.Entry.{Entry}
use Rattle.history_laws.specs.Laws.{HistoryGrows}
use Rattle.replays.specs.Replay.{IsReplayed}
use Rattle.replays.specs.Resume.{IsResumed}
use Rattle.history_laws.specs.Orderly.{IsOrderly}
use Rattle.special_round.specs.Laws.{FinalsAreKnown}
use Rattle.season_facts.specs.Season.{facts_of}
use Rattle.special_round.specs.Special.{IsSpecialOver}
use Rattle.special_round.specs.declared.round_over.Special.{Special}
use Rattle.special_command.specs.Texts.{CanBeListed}
use Rattle.command_answers.specs.Answers.{HaveOneAnswer}
use Rattle.command_answers.specs.Writes.{Writes}
use Rattle.command_answers.specs.declared.status.Status.{Status}
use Rattle.resume_command.specs.Resume.{IsUnresumedText}
use Rattle.special_command.specs.declared.lists.SpecialPapers.{SpecialPapers}
use Rattle.special_command.specs.Special.{HaveOneSpecial, IsSpecialOutput, IsSpecialText, special_answers}
use Rattle.same_input_laws.proofs.Written.{texts_are_one}
use Rattle.same_input_laws.proofs.Replayed.{history_replayed}
use Rattle.same_input_laws.proofs.Resumed.{AreKept, ReadingsAreOne, no_unresumed, of_first, one_unresumed, resumed_alike, same_tables}
use Rattle.same_input_laws.specs.SpecialOutputs.{SpecialsAreOne}
use Rattle.same_input_laws.proofs.SpecialRounds.{alike, made, one_papers}

-- The laws of the layers below.
pub record Laws : Type 0 where
  pub readings : ReadingsAreOne
  pub kept : AreKept
  pub grows : (facts : SeasonFacts) → HistoryGrows facts
  pub orderly : (facts : SeasonFacts) (entries : List Entry) (state : State) → IsSound facts → Reaches facts opening entries state → IsOrderly facts state
  pub known : FinalsAreKnown
  pub remaining : OneRemaining
  pub lists : (ranks : Ranks) (seats : SeatTable) (rows : List Row) → HaveOneReading ranks seats rows
  pub enter : Enter
  pub round : OneRound
  pub answer : (facts : SeasonFacts) (state : State) (bytes : List ℕ) → HaveOneSpecial facts state bytes
  pub cutoffs : OneListOfCutoffs
  pub listed : (facts : SeasonFacts) (table : SeatTable) (rows : List AllotRow) (body : List ℕ) (special : Special) → IsSound (facts_of special.season) → IsSpecialOver facts table rows body special
      → CanBeListed special

-- ---- a special round

one_rows : (rows more : List AllotRow) → ◌≡◌ {A = Option (List AllotRow)} (Some rows) (Some more) → rows ≡ more
one_rows rows more e = cc e

one_output : Laws → (papers : SpecialPapers) (bytes : List ℕ) (facts : SeasonFacts) (state : State) (kept : Kept) (output again : List ℕ) → IsSound facts
    → IsReplayed facts kept state → IsSpecialOutput papers facts state bytes output → IsSpecialOutput papers facts state bytes again → output ≡ again
one_output laws papers bytes facts state kept output again sound replayed (short, (a, is, text)) (short', (b, its, text')) =
    let rows = is.0 in
    let table = matrix_at facts state in
    let same = one_rows its.0 rows (sym its.1 ∙ is.1) in
    let over : IsSpecialOver facts table rows bytes b = subst (λ (r : List AllotRow). IsSpecialOver facts table r bytes b) same its.2 in
    let history = history_replayed facts (laws.grows facts) sound kept state replayed in
    let known = laws.known facts state rows sound (laws.orderly facts history.0 state sound history.1.reached) is.1 in
    let first = made facts table rows bytes a sound is.2 in
    let are = alike laws.remaining laws.lists laws.enter laws.round facts table rows bytes a b known.rising first (made facts table rows bytes b sound over) in
    one_papers laws.cutoffs papers a b output again are (laws.listed facts table rows bytes a first.sound is.2) text text'

-- the bytes have one answer over that state
one_special : Laws → (papers : SpecialPapers) (bytes : List ℕ) (facts : SeasonFacts) (state : State) (kept : Kept) → IsSound facts → IsReplayed facts kept state → HaveOneAnswer (special_answers papers facts state) bytes
one_special laws papers bytes facts state kept sound replayed = let one = laws.answer facts state bytes in record {
  some = one.some;
  apart = one.apart;
  of_input = one.of_input papers;
  of_fault = one.of_fault;
  one_output = λ output again. one_output laws papers bytes facts state kept output again sound replayed;
  one_line = one.one_line;
}

-- ---- the command

pub specials_are_one : Laws → SpecialsAreOne
specials_are_one laws papers bytes output again before after later status other answered answered' told seen first second =
    by first (subst (λ (t : Tables). EndsOver t later other again) (same_tables before after later told seen) second)
  where
    tables : Tables
    tables = still before after

    EndsOver : Tables → Tables → Status → List ℕ → Type 0
    EndsOver those left end text = (Writes (IsUnresumedText those) end text × AreTold before left)
        ⊎ ((facts : SeasonFacts) × (state : State) × IsResumed those facts state × Writes (IsSpecialText papers facts state (Some bytes)) end text × AreTold before left)

    by : EndsOver tables after status output → EndsOver tables later other again → (status ≡ other) × (output ≡ again)
    by (inl a) (inl b) = one_unresumed laws.readings laws.kept tables told status other output again answered answered' a.0 b.0
    by (inl a) (inr b) = absurd (no_unresumed laws.readings laws.kept tables told b.0 b.1 status output answered b.2 a.0)
    by (inr a) (inl b) = absurd (no_unresumed laws.readings laws.kept tables told a.0 a.1 other again answered' a.2 b.0)
    by (inr a) (inr b) =
        let alike = resumed_alike laws.kept tables told a.0 b.0 a.1 b.1 a.2 b.2 in
        let its = of_first a.0 b.0 a.1 b.1 alike.0 alike.1 (λ (facts : SeasonFacts) (state : State). Writes (IsSpecialText papers facts state (Some bytes)) other again) b.3 in
        texts_are_one (special_answers papers a.0 a.1) bytes (one_special laws papers bytes a.0 a.1 alike.0 alike.1.sound alike.1.replayed) status other output again answered answered' a.3 its
