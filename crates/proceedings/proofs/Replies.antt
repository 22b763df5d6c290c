-- Replies, from what was looked up.
use Rattle.std.proofs.Common.{◌≡◌, ◌<◌, ◌≤◌, inl, inr, ℕ, zero, suc, List, [], ◌∷◌, Option, Some, None, Fits, w32, get_or, length, arith, refl, sym, ap, ◌∙◌, ◌==◌}
use Rattle.std.specs.Prelude.{slice_get}
use Rattle.std.proofs.lemmas.Option.{slice_get-get_or, slice_get_read}
use Rattle.office_base.specs.declared.seat.Seat.{Seat}
use Rattle.office_base.specs.declared.person.CandId.{CandId}
use Rattle.office_base.specs.declared.person.Person.{Person}
use Rattle.office_base.specs.declared.person.ProgId.{ProgId}
use Rattle.office_base.proofs.Lists.{there_is}
use Rattle.programme_lists.specs.declared.programme.Programme.{Programme}
use Rattle.rank_lists.specs.Register.{find_person, row_of}
use Rattle.rank_lists.proofs.Known.{row_cases}
use Rattle.reasons.specs.declared.reason.Reason.{Reason}
use Rattle.reasons.specs.declared.reason.WhyAnswer.{WhyAnswer}
use Rattle.reasons.specs.declared.reason.WhyAnswer.TheVariants.{Reason as Because}
use Rattle.rounds.specs.declared.round.Round.{Round}
use Rattle.round_options.specs.declared.standing.Standing.{Standing}
use Rattle.seat_matrix.specs.Matrix.{SeatTable, list_in}
use Rattle.explain.specs.Reason.{reason_of}
use Rattle.office_moves.specs.Facts.{SeasonFacts}
use Rattle.office_moves.specs.State.{State, last_seat, round_at, seat_of, standing_at, view_of}
use Rattle.office_moves.specs.Moves.{seat_reply, told_seat}
use Rattle.office_moves.specs.Why.{reason_in, why_answer, why_beside}
use Rattle.office_moves.specs.declared.moves.Reply.TheVariants.{SeatIs}
use Rattle.proceedings.proofs.Positions.{place_later, place_when}

pub few_fit : (n m k : ℕ) → n ≡ m → m ≤ k → k ≤ 250000 → Fits w32 n
few_fit n m k e less few = omega arith

pub seat_reply_is : (facts : SeasonFacts) (state : State) (cand : CandId) (round : ℕ) (standing : Standing) (seat told : Option Seat) → round ≡ length state.rounds
    → standing ≡ standing_at facts (view_of state cand.0) cand.0 state.now → seat ≡ last_seat facts state.rounds cand.0 → told ≡ told_seat standing seat
    → SeatIs cand round standing told ≡ seat_reply facts (view_of state cand.0) cand
seat_reply_is facts state cand round standing seat told r s h t = rw (t, r, s, h) refl

pub reason_is : (facts : SeasonFacts) (prog : ProgId) (programme : Programme) (person : Person) (o : Option Programme) (p : Option Person) (reason : Reason) → o ≡ Some programme → p ≡ Some person
    → reason ≡ reason_of (list_in facts.matrix prog.0) programme person → reason_in facts prog o p ≡ Because reason
reason_is facts prog programme person o p reason a b e = rw (a, b, e) refl

pub why_is : (facts : SeasonFacts) (rounds : List Round) (cand : CandId) (prog : ProgId) (round : Round) (seat : Option Seat) (answer : WhyAnswer) → round_at rounds (length rounds) ≡ Some round
    → seat ≡ last_seat facts rounds cand.0 → answer ≡ why_beside facts round cand prog seat → answer ≡ why_answer facts (round_at rounds (length rounds)) cand prog
why_is facts rounds cand prog round seat answer there has e =
    e ∙ (ap (why_beside facts round cand prog) (has ∙ ap (λ (o : Option Round). seat_of facts o cand.0) there) ∙ ap (λ (o : Option Round). why_answer facts o cand prog) (sym there))

pub no_round : (rounds : List Round) (n : ℕ) → 0 < n → n ≤ length rounds → round_at rounds n ≡ None → ⊥
no_round rounds zero some less none = omega (arith, some)
no_round rounds (suc before) some less none = let there = there_is rounds before (omega (arith, less)) in (let both : Some there.0 ≡ None = sym there.1 ∙ none in cc)

pub found_at : (id : ℕ) (people : List Person) (at : ℕ) → row_of id people ≡ Some at → find_person id people ≡ slice_get people at
found_at id [] at e = absurd (cc)
found_at id (p ∷ people) at e = elim (row_cases (id == p.id.0) (row_of id people) at e) [
  | inl h ↦ place_when (id == p.id.0) p (find_person id people) people at h.0 h.1
  | inr h ↦ place_later (id == p.id.0) p (find_person id people) people at h.0 h.1 h.3 (found_at id people h.0 h.2)
]

pub index_within : (i p n m : ℕ) → i ≡ p → p < n → m ≡ n → i < m
index_within i p n m same less e = omega arith

-- the programme that was read at an index
pub shown_at : (xs programmes : List Programme) (i p : ℕ) (programme : Programme) → xs ≡ programmes → i ≡ p → programme ≡ get_or xs i programme → p < length programmes → slice_get programmes p ≡ Some programme
shown_at xs programmes i p programme same index read less =
    slice_get_read programmes (length programmes) p programme refl less (
    read ∙ (ap (λ (zs : List Programme). get_or zs i programme) same ∙ ap (λ (j : ℕ). get_or programmes j programme) index)
    )

pub reason_at : (facts : SeasonFacts) (cand : ℕ) (prog : ProgId) (at : ℕ) (o : Option Programme) (people : List Person) (matrix : SeatTable) (programme : Programme) (d : Person) (reason : Reason)
    → matrix ≡ facts.matrix → people ≡ facts.people → o ≡ Some programme → row_of cand facts.people ≡ Some at → at < length facts.people
    → reason ≡ reason_of (list_in matrix prog.0) programme (get_or people at d) → reason_in facts prog o (find_person cand facts.people) ≡ Because reason
reason_at facts cand prog at o people matrix programme d reason seats persons shown place within e =
    reason_is facts prog programme (get_or people at d) o (find_person cand facts.people) reason shown
    (found_at cand facts.people at place ∙ (slice_get-get_or facts.people at d within ∙ ap (λ (zs : List Person). Some (get_or zs at d)) (sym persons)))
    (e ∙ ap (λ (m : SeatTable). reason_of (list_in m prog.0) programme (get_or people at d)) seats)
