-- What is known of each candidate at a cut.
use Rattle.std.proofs.Common.{◌≡◌, ◌<◌, ◌≤◌, ◌+◌, ◌↔◌, inl, inr, ℕ, suc, Bool, true, false, List, [], ◌∷◌, ◌++◌, Option, Some, None, length, drop, get_or, ◌*◌, arith, refl, sym, ap, ◌∙◌, subst, ◌==◌, if◌then◌else◌}
use Rattle.std.specs.Prelude.{IsSome, is_some, option_map, slice_get}
use Rattle.std.proofs.lemmas.Bool.{cases_eq}
use Rattle.std.proofs.lemmas.List.{length-map, length-take}
use Rattle.std.proofs.lemmas.Option.{same_Some, slice_get-get_or, slice_get-map, slice_get_within}
use Rattle.office_base.proofs.Lists.{all-get, there_is}
use Rattle.office_base.specs.declared.seat.Seat.{Seat}
use Rattle.office_base.specs.declared.person.CandId.{CandId}
use Rattle.office_base.specs.declared.person.Category.TheVariants.{Gen}
use Rattle.office_base.specs.declared.person.Person.{Person}
use Rattle.office_base.specs.declared.person.ProgId.{ProgId}
use Rattle.allocations.specs.Fair.{IsOwn}
use Rattle.allocations.specs.Market.{Seeker, applicants, applies, place_of}
use Rattle.choice_lists.specs.Choices.{list_of}
use Rattle.list_audit.specs.Clauses.{IsListFault}
use Rattle.list_audit.specs.declared.clause.Clause.{Clause}
use Rattle.list_audit.specs.declared.clause.Clause.TheVariants.{NotSought, Fell, Unlisted, WrongNumbers, NotCandidate, WrongSize, BadCertificate, Overtaken, FinalDiffers}
use Rattle.round_options.specs.Options.{holds}
use Rattle.rounds.proofs.Entrants.{leaves_own, place_at}
use Rattle.rounds.specs.Rule.{IsOwnList, ProgrammesChooseWell}
use Rattle.programme_lists.specs.Chosen.{AreApplicants}
use Rattle.programme_lists.specs.declared.programme.Programme.{Programme}
use Rattle.list_texts.specs.declared.lists.ListRead.{ListRead}
use Rattle.seat_matrix.specs.Matrix.{SeatTable, list_in, seats_in}
use Rattle.seeks.specs.Seek.{AreBelow, is_listed, seek_leaves}
use Rattle.seeks.specs.declared.seek.Seek.{Seek}
use Rattle.office_moves.specs.Facts.{IsSound, SeasonFacts}
use Rattle.office_moves.specs.Moves.{next_seek}
use Rattle.office_moves.specs.Raised.{matrix_at}
use Rattle.office_moves.specs.State.{State, with_round}
use Rattle.history_laws.proofs.Entering.{own_there}
use Rattle.audit_rules.specs.Cut.{ComesTo, CutBreaks, HasStayed, IsFirstWithout, IsSought, IsUnsound, IsUnsought, IsSoundList, OfEach, applicants_at, lists_at, seat_given, seekers_at, sought_by}
use Rattle.audit_rules.specs.Papers.{lists_after, rows_after, seat_told}
use Rattle.audit_rules.specs.Replay.{round_of}
use Rattle.audit_rules.proofs.FairCuts.{enters, full_seekers, may_apply}
use Rattle.audit_rules.proofs.Ordering.{seat_of_told}
use Rattle.audit_rules.specs.AtCut.{IsAtCut, Setting}
use Rattle.audit_rules.specs.Comes.{AllListed, AreLists, HoldOn}
use Rattle.audit_rules.specs.Groups.{AreGroups, picked}
use Rattle.audit_rules.specs.Stands.{cut, seek_by, stand_of}
use Rattle.audit_rules.specs.declared.stand.Stand.{Stand}
use Rattle.audit_rules.proofs.RegisterLists.{read_at}
use Rattle.audit_rules.proofs.NextStandings.{stand_cut}
use Rattle.audit_rules.proofs.Grouping.{Grouping, grouping_next, grouping_whole, picked_those}

-- ---- lists

pub listed_own : (p : ℕ) (list : List ProgId) → is_listed p list ≡ true → place_of list p < length list
listed_own p [] e = absurd (cc)
listed_own p (q ∷ list) e = by (q.0 == p) (λ later. listed_own p list later) e
  where
    by : (b : Bool) → (is_listed p list ≡ true → place_of list p < length list) → (if b then true else is_listed p list) ≡ true → (if b then 0 else place_of list p + 1) < suc (length list)
    by true rest e = omega arith
    by false rest e = let less = rest e in omega (arith, less)

pub own_listed : (p : ℕ) (list : List ProgId) → is_listed p list ≡ false → place_of list p < length list → ⊥
own_listed p [] e less = omega (arith, less)
own_listed p (q ∷ list) e less = by (q.0 == p) (λ later. own_listed p list later) e less
  where
    by : (b : Bool) → (is_listed p list ≡ false → place_of list p < length list → ⊥) → (if b then true else is_listed p list) ≡ false → (if b then 0 else place_of list p + 1) < suc (length list) → ⊥
    by true rest e less = absurd (cc)
    by false rest e less = rest e (omega (arith, less))

-- ---- at a place

pub stand_is : (facts : SeasonFacts) (at : Setting) (matrix : SeatTable) (all : List Stand) (seats : List (Option Seat)) (k : ℕ) (d : Stand) (e : Person) → IsAtCut facts at matrix all seats → k < length facts.people
    → get_or all k d ≡ stand_of facts at.state (get_or facts.people k e).id.0
stand_is facts at matrix all seats k d e c less = read_at (λ (p : Person). stand_of facts at.state p.id.0) facts.people all k d e c.stands_are less

pub seat_is : (facts : SeasonFacts) (at : Setting) (matrix : SeatTable) (all : List Stand) (seats : List (Option Seat)) (k : ℕ) (d : Option Seat) (e : Person) → IsAtCut facts at matrix all seats → k < length facts.people
    → get_or seats k d ≡ seat_given at.papers at.state (get_or facts.people k e).id.0
seat_is facts at matrix all seats k d e c less = read_at (λ (p : Person). seat_told (rows_after at.papers at.state.now) p.id.0) facts.people seats k d e c.seats_are less

pub full_stands : (facts : SeasonFacts) (at : Setting) (matrix : SeatTable) (all : List Stand) (seats : List (Option Seat)) → IsAtCut facts at matrix all seats → length all ≡ length facts.people
full_stands facts at matrix all seats c = ap length c.stands_are ∙ length-map facts.people (λ (p : Person). stand_of facts at.state p.id.0)

pub full_seats : (facts : SeasonFacts) (at : Setting) (matrix : SeatTable) (all : List Stand) (seats : List (Option Seat)) → IsAtCut facts at matrix all seats → length seats ≡ length facts.people
full_seats facts at matrix all seats c = ap length c.seats_are ∙ length-map facts.people (λ (p : Person). seat_told (rows_after at.papers at.state.now) p.id.0)

-- a candidate who keeps a seat has one
pub is_seated : (facts : SeasonFacts) (at : Setting) (matrix : SeatTable) (all : List Stand) (seats : List (Option Seat)) (k : ℕ) (d : Stand) → IsAtCut facts at matrix all seats → k < length facts.people
    → holds (get_or all k d).standing ≡ true → IsSome (get_or all k d).seat
is_seated facts at matrix all seats k d c less keeps =
    let person = there_is facts.people k less in
    let same = stand_is facts at matrix all seats k d person.0 c less in
    subst (λ (s : Stand). IsSome s.seat) (sym same)
    (c.order.seated (get_or facts.people k person.0).id.0 (let early = c.early in omega (arith, early)) (subst (λ (s : Stand). holds s.standing ≡ true) same keeps))

-- and the seat is of a programme on their own list
pub is_own : (facts : SeasonFacts) (at : Setting) (matrix : SeatTable) (all : List Stand) (seats : List (Option Seat)) (k : ℕ) (d : Stand) (e : Person) (list : List ProgId) (held : Seat) → IsAtCut facts at matrix all seats
    → k < length facts.people → list ≡ list_of facts.lists (get_or facts.people k e).id.0 → (get_or all k d).seat ≡ Some held → place_of list held.prog.0 < length list
is_own facts at matrix all seats k d e list held c less own has =
    let same = stand_is facts at matrix all seats k d e c less in
    subst (λ (l : List ProgId). place_of l held.prog.0 < length l) (sym own)
    (c.order.own (get_or facts.people k e).id.0 held (sym (ap (λ (s : Stand). s.seat) same) ∙ has))

own_list : (facts : SeasonFacts) (at : Setting) (matrix : SeatTable) (all : List Stand) (seats : List (Option Seat)) (k : ℕ) (e : Person) → IsAtCut facts at matrix all seats → k < length facts.people
    → IsOwnList matrix (get_or facts.people k e) (list_of facts.lists (get_or facts.people k e).id.0)
own_list facts at matrix all seats k e c less =
    own_there facts matrix k (get_or facts.people k e) c.sound (ap (λ (m : SeatTable). m.programmes) c.matrix_is ∙ c.order.programmes) (slice_get-get_or facts.people k e less)

pub is_below : (facts : SeasonFacts) (at : Setting) (matrix : SeatTable) (all : List Stand) (seats : List (Option Seat)) (k : ℕ) (e : Person) (list : List ProgId) → IsAtCut facts at matrix all seats → k < length facts.people
    → list ≡ list_of facts.lists (get_or facts.people k e).id.0 → AreBelow (length matrix.programmes) list
is_below facts at matrix all seats k e list c less own j prog there =
    all-get (λ (q : ProgId). q.0 < length matrix.programmes) (list_of facts.lists (get_or facts.people k e).id.0) j prog (own_list facts at matrix all seats k e c less).below
    (subst (λ (l : List ProgId). slice_get l j ≡ Some prog) own there)

-- what is sought, by what is at the place
pub sought_is : (facts : SeasonFacts) (at : Setting) (matrix : SeatTable) (all : List Stand) (seats : List (Option Seat)) (k : ℕ) (d : Stand) (e : Person) (list : List ProgId) → IsAtCut facts at matrix all seats
    → k < length facts.people → list ≡ list_of facts.lists (get_or facts.people k e).id.0
    → seek_leaves matrix (seek_by list (get_or all k d)) list ≡ sought_by facts at.state (get_or facts.people k e).id.0
sought_is facts at matrix all seats k d e list c less own =
    let id = (get_or facts.people k e).id.0 in
    ap (λ (l : List ProgId). seek_leaves matrix (seek_by l (get_or all k d)) l) own
    ∙ (ap (λ (m : SeatTable). seek_leaves m (seek_by (list_of facts.lists id) (get_or all k d)) (list_of facts.lists id)) c.matrix_is
    ∙ ap (λ (s : Stand). seek_leaves (matrix_at facts at.state) (seek_by (list_of facts.lists id) s) (list_of facts.lists id)) (stand_is facts at matrix all seats k d e c less))

-- ---- the first who has what was not sought

pub sought_next : (P : Person → Type 0) (people : List Person) (k : ℕ) (e : Person) → k < length people → ((j : ℕ) (other : Person) → j < k → slice_get people j ≡ Some other → P other) → P (get_or people k e)
    → (j : ℕ) (other : Person) → j < k + 1 → slice_get people j ≡ Some other → P other
sought_next P people k e less before here j other early there = elim (cases_eq j k) [
  | inl same ↦ subst P (same_Some (get_or people k e) other (sym (slice_get-get_or people k e less) ∙ (ap (slice_get people) (sym same) ∙ there))) here
  | inr apart ↦ before j other (omega (arith, early, apart)) there
]

pub of_each : (P : Person → Type 0) (people : List Person) (k : ℕ) → length people ≤ k → ((j : ℕ) (other : Person) → j < k → slice_get people j ≡ Some other → P other) → OfEach P people
of_each P people k end before j other there = before j other (let less = slice_get_within people j other there in omega (arith, less, end)) there

pub is_sought : (facts : SeasonFacts) (at : Setting) (matrix : SeatTable) (all : List Stand) (seats : List (Option Seat)) (k : ℕ) (d : Stand) (s : Option Seat) (e : Person) (list : List ProgId)
    → IsAtCut facts at matrix all seats → k < length facts.people → list ≡ list_of facts.lists (get_or facts.people k e).id.0
    → IsOwn (seek_leaves matrix (seek_by list (get_or all k d)) list) (get_or seats k s) → IsSought facts at.papers at.state (get_or facts.people k e)
is_sought facts at matrix all seats k d s e list c less own h =
    subst (λ (o : Option Seat). IsOwn (sought_by facts at.state (get_or facts.people k e).id.0) o) (seat_is facts at matrix all seats k s e c less)
    (subst (λ (l : List ProgId). IsOwn l (get_or seats k s)) (sought_is facts at matrix all seats k d e list c less own) h)

of_some : (o : Option Seat) (prog : ProgId) → option_map (λ (seat : Seat). seat.prog) o ≡ Some prog → (seat : Seat) × (o ≡ Some seat) × (seat.prog ≡ prog)
of_some None prog e = absurd (cc)
of_some (Some seat) prog e = (seat, refl, same_Some seat.prog prog e)

pub is_unsought : (facts : SeasonFacts) (at : Setting) (matrix : SeatTable) (all : List Stand) (seats : List (Option Seat)) (k : ℕ) (d : Stand) (s : Option Seat) (e : Person) (list : List ProgId) (prog : ProgId)
    → IsAtCut facts at matrix all seats → k < length facts.people → list ≡ list_of facts.lists (get_or facts.people k e).id.0
    → (IsOwn (seek_leaves matrix (seek_by list (get_or all k d)) list) (get_or seats k s) → ⊥) → option_map (λ (seat : Seat). seat.prog) (get_or seats k s) ≡ Some prog
    → ((j : ℕ) (other : Person) → j < k → slice_get facts.people j ≡ Some other → IsSought facts at.papers at.state other) → IsUnsought facts at.papers at.state prog (get_or facts.people k e).id
is_unsought facts at matrix all seats k d s e list prog c less own fails some before =
    let found = of_some (get_or seats k s) prog some in
    record {
      first = record {
        at = k;
        person = get_or facts.people k e;
        there = slice_get-get_or facts.people k e less;
        is = refl;
        earlier = before;
        fails = λ h. fails (subst (λ (l : List ProgId). IsOwn l (get_or seats k s)) (sym (sought_is facts at matrix all seats k d e list c less own))
            (subst (λ (o : Option Seat). IsOwn (sought_by facts at.state (get_or facts.people k e).id.0) o) (sym (seat_is facts at matrix all seats k s e c less)) h));
      };
      seat = found.0;
      given = sym (seat_is facts at matrix all seats k s e c less) ∙ found.1;
      is = found.2;
    }

-- ---- the first who fell

abbrev pub nobody_there : Person
nobody_there = record { id = record { 0 = 0 }; category = Gen; traits = record { 0 = 0 }; places = [] }

pub has_stayed : (facts : SeasonFacts) (at : Setting) (matrix : SeatTable) (all : List Stand) (seats : List (Option Seat)) (k : ℕ) (d : Stand) (s : Option Seat) (e : Person)
    → IsAtCut facts at matrix all seats → k < length facts.people → (holds (get_or all k d).standing ≡ true → is_some (get_or seats k s) ≡ true) → HasStayed facts at.papers at.state (get_or facts.people k e)
has_stayed facts at matrix all seats k d s e c less h keeps =
    subst (λ (o : Option Seat). IsSome o) (seat_is facts at matrix all seats k s e c less)
    (h (subst (λ (x : Stand). holds x.standing ≡ true) (sym (stand_is facts at matrix all seats k d e c less)) keeps))

pub has_fallen : (facts : SeasonFacts) (at : Setting) (matrix : SeatTable) (all : List Stand) (seats : List (Option Seat)) (k : ℕ) (d : Stand) (s : Option Seat) (e : Person)
    → IsAtCut facts at matrix all seats → k < length facts.people → holds (get_or all k d).standing ≡ true → is_some (get_or seats k s) ≡ false
    → ((j : ℕ) (other : Person) → j < k → slice_get facts.people j ≡ Some other → HasStayed facts at.papers at.state other)
    → IsFirstWithout (HasStayed facts at.papers at.state) facts.people (get_or facts.people k e).id
has_fallen facts at matrix all seats k d s e c less keeps none before = record {
  at = k;
  person = get_or facts.people k e;
  there = slice_get-get_or facts.people k e less;
  is = refl;
  earlier = before;
  fails = λ h.
      let some = subst (λ (o : Option Seat). IsSome o) (sym (seat_is facts at matrix all seats k s e c less))
      (h (subst (λ (x : Stand). holds x.standing ≡ true) (stand_is facts at matrix all seats k d e c less) keeps)) in
      let wrong : true ≡ false = sym some ∙ none in
      cc;
}

-- ---- the next standings

pub stands_next : (facts : SeasonFacts) (at : Setting) (matrix : SeatTable) (all : List Stand) (seats : List (Option Seat)) (k : ℕ) (d : Stand) (s : Option Seat) (e : Person) (x : Stand)
    → IsAtCut facts at matrix all seats → k < length facts.people → x ≡ cut (get_or all k d) (get_or seats k s)
    → x ≡ stand_of facts (with_round at.state (round_of facts at.papers at.state)) (get_or facts.people k e).id.0
stands_next facts at matrix all seats k d s e x c less is =
    let id = (get_or facts.people k e).id.0 in
    is ∙ (ap (λ (z : Stand). cut z (get_or seats k s)) (stand_is facts at matrix all seats k d e c less)
    ∙ (ap (cut (stand_of facts at.state id)) (seat_is facts at matrix all seats k s e c less ∙ sym (seat_of_told facts at.papers at.state k (get_or facts.people k e) c.sound (slice_get-get_or facts.people k e less)))
    ∙ sym (stand_cut facts at.state (round_of facts at.papers at.state) id c.order c.early)))

-- a broken list is a clause broken at the cut
pub unsound_breaks : (facts : SeasonFacts) (at : Setting) (clause : Clause) (prog : ProgId) (cand : Option CandId) → IsUnsound facts at.papers at.state clause prog cand
    → CutBreaks facts at.papers at.state clause (Some prog) cand
unsound_breaks facts at NotSought prog cand u = absurd u.first.here
unsound_breaks facts at Fell prog cand u = absurd u.first.here
unsound_breaks facts at Unlisted prog cand u = absurd u.first.here
unsound_breaks facts at WrongNumbers prog cand u = u
unsound_breaks facts at NotCandidate prog cand u = u
unsound_breaks facts at WrongSize prog cand u = u
unsound_breaks facts at BadCertificate prog cand u = u
unsound_breaks facts at Overtaken prog cand u = u
unsound_breaks facts at FinalDiffers prog cand u = absurd u.first.here

-- ---- a list

-- the lists of a programme are those that were read
pub list_read : (facts : SeasonFacts) (at : Setting) (lists : List ListRead) (p : ℕ) (read : ListRead) → AreLists facts at lists → slice_get lists p ≡ Some read
    → lists_at facts at.papers at.state p ≡ Some read.programme
list_read facts at lists p read are there =
    ap (λ (z : List Programme). slice_get z p) (sym are.same)
    ∙ (slice_get-map (λ (r : ListRead). r.programme) lists p ∙ ap (λ (o : Option ListRead). option_map (λ (r : ListRead). r.programme) o) there)

-- and there are no more of them than programmes
pub list_within : (facts : SeasonFacts) (at : Setting) (lists : List ListRead) (p : ℕ) → AreLists facts at lists → p < length lists → p < length facts.matrix.programmes
list_within facts at lists p are less =
    let size : length (lists_after at.papers (length facts.matrix.programmes) at.state.now) ≡ length lists = ap length (sym are.same) ∙ length-map lists (λ (r : ListRead). r.programme) in
    let some = length-take (length facts.matrix.programmes) (drop (at.state.now * length facts.matrix.programmes) at.papers.lists) in
    omega (arith, size, some, less)

pub sound_next : (facts : SeasonFacts) (at : Setting) (lists : List ListRead) (p : ℕ) (read : ListRead) → AreLists facts at lists → slice_get lists p ≡ Some read
    → ((q : ℕ) → q < p → IsSoundList facts at.papers at.state q) → ComesTo facts at.papers at.state p read.programme None → (q : ℕ) → q < p + 1 → IsSoundList facts at.papers at.state q
sound_next facts at lists p read are there before here q less programme known = elim (cases_eq q p) [
  | inl same ↦
      let mine = list_read facts at lists p read are there in
      let one : read.programme ≡ programme = same_Some read.programme programme (sym mine ∙ (ap (λ (n : ℕ). lists_at facts at.papers at.state n) (sym same) ∙ known)) in
      subst (λ (n : ℕ). ComesTo facts at.papers at.state n programme None) (sym same) (subst (λ (x : Programme). ComesTo facts at.papers at.state p x None) one here)
  | inr apart ↦ before q (omega (arith, less, apart)) programme known
]

pub sound_whole : (facts : SeasonFacts) (at : Setting) (lists : List ListRead) (p : ℕ) → AreLists facts at lists → length lists ≤ p → ((q : ℕ) → q < p → IsSoundList facts at.papers at.state q)
    → (q : ℕ) → IsSoundList facts at.papers at.state q
sound_whole facts at lists p are end before q programme known =
    let size : length (lists_after at.papers (length facts.matrix.programmes) at.state.now) ≡ length lists = ap length (sym are.same) ∙ length-map lists (λ (r : ListRead). r.programme) in
    let less = slice_get_within (lists_after at.papers (length facts.matrix.programmes) at.state.now) q programme known in
    before q (omega (arith, less, size, end)) programme known

pub unsound_is : (facts : SeasonFacts) (at : Setting) (lists : List ListRead) (p : ℕ) (read : ListRead) (clause : Clause) (cand : Option CandId) → AreLists facts at lists → HoldOn facts at → AllListed facts at
    → slice_get lists p ≡ Some read → ((q : ℕ) → q < p → IsSoundList facts at.papers at.state q) → ComesTo facts at.papers at.state p read.programme (Some (clause, cand))
    → CutBreaks facts at.papers at.state clause (Some (record { 0 = p })) cand
unsound_is facts at lists p read clause cand are hold listed there before here =
    unsound_breaks facts at clause (record { 0 = p }) cand (record {
      sought = hold.sought;
      stayed = hold.stayed;
      listed = listed;
      before = before;
      programme = read.programme;
      there = list_read facts at lists p read are there;
      first = here;
    })

-- those who apply to a programme may apply together
pub may_be_ranked : ProgrammesChooseWell → (facts : SeasonFacts) (at : Setting) (matrix : SeatTable) (all : List Stand) (seats : List (Option Seat)) (p : ℕ) (people : List Person) → IsAtCut facts at matrix all seats
    → p < length facts.matrix.programmes → people ≡ applicants_at facts at.papers at.state p → AreApplicants (list_in matrix p) people
may_be_ranked well facts at matrix all seats p people c less are =
    subst (AreApplicants (list_in matrix p)) (sym are) (subst (λ (m : SeatTable). AreApplicants (list_in m p) (applicants_at facts at.papers at.state p)) (sym c.matrix_is)
    (may_apply well facts at.papers at.state p c.sound c.order less))

-- ---- those who apply

record SeekerAt (facts : SeasonFacts) (state : State) (k : ℕ) (person : Person) : Type 0 where
  s : Seeker
  there : slice_get (seekers_at facts state) k ≡ Some s
  list : s.list ≡ sought_by facts state person.id.0

seeker_at : (facts : SeasonFacts) (state : State) (k : ℕ) (person : Person) → IsSound facts → slice_get facts.people k ≡ Some person → SeekerAt facts state k person
seeker_at facts state k person sound there =
    let full = full_seekers facts state sound in
    let found = there_is (seekers_at facts state) k (let less = slice_get_within facts.people k person there in omega (arith, less, full)) in
    let entry = enters facts state k found.0 sound found.1 in
    let one : found.0.person ≡ person = same_Some found.0.person person (sym entry.person_at ∙ there) in
    record { s = found.0; there = found.1; list = entry.leaves ∙ ap (λ (p : Person). sought_by facts state p.id.0) one }

-- what one seeks names each programme once, and programmes of the matrix alone
pub leaves_below : (facts : SeasonFacts) (at : Setting) (matrix : SeatTable) (all : List Stand) (seats : List (Option Seat)) (k : ℕ) (d : Stand) (e : Person) (list sought : List ProgId) (count : ℕ)
    → IsAtCut facts at matrix all seats → k < length facts.people → list ≡ list_of facts.lists (get_or facts.people k e).id.0 → sought ≡ seek_leaves matrix (seek_by list (get_or all k d)) list
    → count ≡ length facts.matrix.programmes → AreBelow count sought
leaves_below facts at matrix all seats k d e list sought count c less own made size j prog there =
    let id = (get_or facts.people k e).id.0 in
    let same = made ∙ sought_is facts at matrix all seats k d e list c less own in
    let left = leaves_own (matrix_at facts at.state) (next_seek facts at.state id) (get_or facts.people k e) (list_of facts.lists id)
    (subst (λ (m : SeatTable). IsOwnList m (get_or facts.people k e) (list_of facts.lists id)) c.matrix_is (own_list facts at matrix all seats k e c less)) in
    let below = all-get (λ (q : ProgId). q.0 < length (matrix_at facts at.state).programmes) (sought_by facts at.state id) j prog left.below (subst (λ (l : List ProgId). slice_get l j ≡ Some prog) same there) in
    subst (λ (n : ℕ). prog.0 < n) (ap length c.order.programmes ∙ sym size) below

pub leaves_once : (facts : SeasonFacts) (at : Setting) (matrix : SeatTable) (all : List Stand) (seats : List (Option Seat)) (k : ℕ) (d : Stand) (e : Person) (list sought : List ProgId)
    → IsAtCut facts at matrix all seats → k < length facts.people → list ≡ list_of facts.lists (get_or facts.people k e).id.0 → sought ≡ seek_leaves matrix (seek_by list (get_or all k d)) list
    → (j : ℕ) (prog : ProgId) → slice_get sought j ≡ Some prog → place_of sought prog.0 ≡ j
leaves_once facts at matrix all seats k d e list sought c less own made j prog there =
    let id = (get_or facts.people k e).id.0 in
    let same = made ∙ sought_is facts at matrix all seats k d e list c less own in
    let left = leaves_own (matrix_at facts at.state) (next_seek facts at.state id) (get_or facts.people k e) (list_of facts.lists id)
    (subst (λ (m : SeatTable). IsOwnList m (get_or facts.people k e) (list_of facts.lists id)) c.matrix_is (own_list facts at matrix all seats k e c less)) in
    subst (λ (l : List ProgId). place_of l prog.0 ≡ j) (sym same) (place_at (sought_by facts at.state id) j prog left.distinct (subst (λ (l : List ProgId). slice_get l j ≡ Some prog) same there))

pub grouped_next : (facts : SeasonFacts) (at : Setting) (matrix : SeatTable) (all : List Stand) (seats : List (Option Seat)) (k : ℕ) (d : Stand) (s : Option Seat) (e : Person) (list sought : List ProgId)
    (count : ℕ) (old new : List (List ℕ)) → IsAtCut facts at matrix all seats → k < length facts.people → list ≡ list_of facts.lists (get_or facts.people k e).id.0
    → sought ≡ seek_leaves matrix (seek_by list (get_or all k d)) list → Grouping count k (seekers_at facts at.state) seats old → length new ≡ length old
    → ((p : ℕ) (group : List ℕ) → slice_get old p ≡ Some group → slice_get new p ≡ Some (group ++ (if applies p sought (get_or seats k s) then k ∷ [] else [])))
    → Grouping count (k + 1) (seekers_at facts at.state) seats new
grouped_next facts at matrix all seats k d s e list sought count old new c less own made g full each =
    let person = slice_get-get_or facts.people k e less in
    let seeker = seeker_at facts at.state k (get_or facts.people k e) c.sound person in
    let same : sought ≡ seeker.s.list = made ∙ (sought_is facts at matrix all seats k d e list c less own ∙ sym seeker.list) in
    let size = full_seats facts at matrix all seats c in
    let long : length seats ≡ length (seekers_at facts at.state) = size ∙ sym (full_seekers facts at.state c.sound) in
    grouping_next count k (seekers_at facts at.state) seats old new seeker.s (get_or seats k s) long g seeker.there (slice_get-get_or seats k s (omega (arith, less, size))) full
    (subst (λ (l : List ProgId). (p : ℕ) (group : List ℕ) → slice_get old p ≡ Some group → slice_get new p ≡ Some (group ++ (if applies p l (get_or seats k s) then k ∷ [] else []))) same each)

pub grouped_whole : (facts : SeasonFacts) (at : Setting) (matrix : SeatTable) (all : List Stand) (seats : List (Option Seat)) (k count : ℕ) (groups : List (List ℕ)) → IsAtCut facts at matrix all seats
    → length facts.people ≤ k → Grouping count k (seekers_at facts at.state) seats groups → AreGroups count (seekers_at facts at.state) seats groups
grouped_whole facts at matrix all seats k count groups c end g =
    let full = full_seekers facts at.state c.sound in
    grouping_whole count k (seekers_at facts at.state) seats groups (full_seats facts at matrix all seats c ∙ sym full) (omega (arith, end, full)) g

-- the people of the group of a programme whose list was read are those who apply
pub group_has : (facts : SeasonFacts) (at : Setting) (matrix : SeatTable) (all : List Stand) (seats : List (Option Seat)) (lists : List ListRead) (groups : List (List ℕ)) (group d : List ℕ) (p : ℕ) (people : List Person)
    → IsAtCut facts at matrix all seats → AreLists facts at lists → AreGroups (length facts.matrix.programmes) (seekers_at facts at.state) seats groups → p < length lists → group ≡ get_or groups p d
    → people ≡ picked facts.people group → people ≡ applicants_at facts at.papers at.state p
group_has facts at matrix all seats lists groups group d p people c are g less is some =
    let known = list_within facts at lists p are less in
    let full = g.full in
    let there : slice_get groups p ≡ Some group = slice_get-get_or groups p d (omega (arith, known, full)) ∙ ap Some (sym is) in
    some ∙ (ap (picked facts.people) (g.each p group there)
    ∙ (picked_those facts.people p 0 (seekers_at facts at.state) seats (λ i s at'. let number : 0 + i ≡ i = omega arith in ap (slice_get facts.people) number ∙ (enters facts at.state i s c.sound at').person_at)
    ∙ ap (λ (z : List (Option Seat)). applicants p (seekers_at facts at.state) z) c.seats_are))

-- what a seek leaves, put where nothing stood
pub left_is : (matrix : SeatTable) (list out mid new : List ProgId) (seek other : Seek) → out ≡ new → new ≡ mid ++ seek_leaves matrix seek list → mid ≡ [] → seek ≡ other → out ≡ seek_leaves matrix other list
left_is matrix list out mid new seek other is made none same =
    is ∙ (made ∙ (ap (λ (z : List ProgId). z ++ seek_leaves matrix seek list) none ∙ ap (λ (s : Seek). seek_leaves matrix s list) same))

-- what the check of a list found is what the list comes to
pub comes_to : (facts : SeasonFacts) (at : Setting) (matrix : SeatTable) (all : List Stand) (seats : List (Option Seat)) (p : ℕ) (people : List Person) (programme : Programme) (fault other : Option (Clause × Option CandId))
    → IsAtCut facts at matrix all seats → people ≡ applicants_at facts at.papers at.state p → fault ≡ other → IsListFault facts.version (seats_in matrix p) people programme fault
    → ComesTo facts at.papers at.state p programme other
comes_to facts at matrix all seats p people programme fault other c are same here =
    subst (λ (f : Option (Clause × Option CandId)). ComesTo facts at.papers at.state p programme f) same
    (subst (λ (m : SeatTable). IsListFault facts.version (seats_in m p) (applicants_at facts at.papers at.state p) programme fault) c.matrix_is
    (subst (λ (z : List Person). IsListFault facts.version (seats_in matrix p) z programme fault) are here))
