-- Who gains by the best round, along the register.
use Rattle.std.proofs.Common.{◌≡◌, ◌<◌, ◌≤◌, ◌+◌, inl, inr, ℕ, List, [], ◌++◌, Option, Some, length, get_or, arith, ap, subst, sym, ◌∙◌}
use Rattle.std.specs.Prelude.{slice_get}
use Rattle.std.proofs.lemmas.Bool.{cases_eq}
use Rattle.std.proofs.lemmas.List.{length-map}
use Rattle.std.proofs.lemmas.Option.{same_Some, slice_get-get_or, slice_get_within}
use Rattle.office_base.proofs.Lists.{all-get, there_is}
use Rattle.office_base.specs.declared.seat.Seat.{Seat}
use Rattle.office_base.specs.declared.person.Person.{Person}
use Rattle.office_base.specs.declared.person.ProgId.{ProgId}
use Rattle.kept_rows.specs.declared.rows.AllotRow.{AllotRow}
use Rattle.allocations.specs.Fair.{IsBest}
use Rattle.allocations.specs.Market.{Seeker, rank_of}
use Rattle.choice_lists.specs.Choices.{list_of}
use Rattle.history_laws.proofs.Entering.{list_there, lists_full, own_there}
use Rattle.rounds.specs.Round.{IsRound}
use Rattle.rounds.specs.Rule.{AreSeeks, nobody, rule_of, seekers_of}
use Rattle.rounds.specs.declared.round.Round.{Round}
use Rattle.seat_matrix.specs.Matrix.{SeatTable}
use Rattle.seeks.specs.Seek.{AreBelow, IsWithinList, seek_leaves}
use Rattle.seeks.specs.declared.seek.Seek.{Seek}
use Rattle.office_moves.specs.Facts.{SeasonFacts, lists_in_order}
use Rattle.office_moves.specs.Moves.{next_seek, next_seeks}
use Rattle.office_moves.specs.Raised.{matrix_at}
use Rattle.office_moves.specs.State.{State}
use Rattle.audit_rules.specs.Cut.{seekers_at, sought_by}
use Rattle.audit_rules.specs.Papers.{Papers, rows_after, seat_told, seats_told}
use Rattle.audit_rules.proofs.FairCuts.{enters, full_seekers}
use Rattle.audit_rules.proofs.RegisterLists.{read_at}
use Rattle.best_audit.specs.Best.{AreBestAt, Gains, GainsFirst, IsBestCut, IsBetter, seats_given}
use Rattle.best_audit.specs.Compared.{AreCompared, IsFairText, Setting}
use Rattle.season_audit.specs.Audit.{IsUpTo}
use Rattle.season_audit.specs.declared.auditor.Auditor.{Auditor}
use Rattle.best_audit.proofs.Seeking.{seeks_fit}

-- ---- lengths

pub full_best : (facts : SeasonFacts) (at : Setting) (matrix : SeatTable) (seeks : List Seek) (best seats : List (Option Seat)) → AreCompared facts at matrix seeks best seats → length best ≡ length facts.people
full_best facts at matrix seeks best seats c = c.is_best.fair.allocation.full ∙ full_seekers facts at.state c.sound

pub full_seats : (facts : SeasonFacts) (at : Setting) (matrix : SeatTable) (seeks : List Seek) (best seats : List (Option Seat)) → AreCompared facts at matrix seeks best seats → length seats ≡ length facts.people
full_seats facts at matrix seeks best seats c = ap length c.seats_are ∙ length-map facts.people (λ (p : Person). seat_told (rows_after at.papers at.state.now) p.id.0)

-- ---- at a place

-- A seeker at a place, with what was sought.
pub record IsSeeker (facts : SeasonFacts) (state : State) (k : ℕ) (person : Person) (list : List ProgId) : Type 0 where
  pub s : Seeker
  pub there : slice_get (seekers_at facts state) k ≡ Some s
  pub is : s.person ≡ person
  pub seeks : list ≡ s.list

pub seeker_is : (facts : SeasonFacts) (at : Setting) (matrix : SeatTable) (seeks : List Seek) (best seats : List (Option Seat)) (k : ℕ) (d : Seek) (e : Person) (list sought : List ProgId)
    → AreCompared facts at matrix seeks best seats → k < length facts.people → list ≡ list_of facts.lists (get_or facts.people k e).id.0 → sought ≡ seek_leaves matrix (get_or seeks k d) list
    → IsSeeker facts at.state k (get_or facts.people k e) sought
seeker_is facts at matrix seeks best seats k d e list sought c less own is =
    let seeker = there_is (seekers_at facts at.state) k (let full = full_seekers facts at.state c.sound in omega (arith, less, full)) in
    let entered = enters facts at.state k seeker.0 c.sound seeker.1 in
    let person : seeker.0.person ≡ get_or facts.people k e = same_Some seeker.0.person (get_or facts.people k e) (sym entered.person_at ∙ slice_get-get_or facts.people k e less) in
    let id = (get_or facts.people k e).id.0 in
    record {
      s = seeker.0;
      there = seeker.1;
      is = person;
      seeks = is ∙ (ap (λ (l : List ProgId). seek_leaves matrix (get_or seeks k d) l) own
          ∙ (ap (λ (m : SeatTable). seek_leaves m (get_or seeks k d) (list_of facts.lists id)) c.matrix_is
          ∙ (ap (λ (q : Seek). seek_leaves (matrix_at facts at.state) q (list_of facts.lists id)) (read_at (λ (p : Person). next_seek facts at.state p.id.0) facts.people seeks k d e c.seeks_are less)
          ∙ (ap (λ (p : Person). sought_by facts at.state p.id.0) (sym person) ∙ sym entered.leaves))));
    }

-- what was put into an empty list
pub left_is : (matrix : SeatTable) (list out mid new : List ProgId) (seek : Seek) → out ≡ new → new ≡ mid ++ seek_leaves matrix seek list → mid ≡ [] → out ≡ seek_leaves matrix seek list
left_is matrix list out mid new seek is made none = is ∙ (made ∙ ap (λ (z : List ProgId). z ++ seek_leaves matrix seek list) none)

-- ---- nobody before a place gains

abbrev pub NobodyBefore : SeasonFacts → State → List (Option Seat) → List (Option Seat) → ℕ → Type 0
NobodyBefore facts state best seats k = (j : ℕ) → j < k → IsBetter (seekers_at facts state) best seats j → ⊥

not_there : (facts : SeasonFacts) (state : State) (best seats : List (Option Seat)) (k : ℕ) (a b : Option Seat) (list : List ProgId) (person : Person) → IsSeeker facts state k person list
    → slice_get best k ≡ Some a → slice_get seats k ≡ Some b → (rank_of list a < rank_of list b → ⊥) → IsBetter (seekers_at facts state) best seats k → ⊥
not_there facts state best seats k a b list person is has had not_better g =
    let one : g.s ≡ is.s = same_Some g.s is.s (sym g.there ∙ is.there) in
    let same : g.seat ≡ a = same_Some g.seat a (sym g.has ∙ has) in
    let other : g.other ≡ b = same_Some g.other b (sym g.had ∙ had) in
    let l : g.s.list ≡ list = ap (λ (s : Seeker). s.list) one ∙ sym is.seeks in
    not_better (subst (λ (z : List ProgId). rank_of z a < rank_of z b) l
    (subst (λ (z : Option Seat). rank_of g.s.list a < rank_of g.s.list z) other (subst (λ (z : Option Seat). rank_of g.s.list z < rank_of g.s.list g.other) same g.better)))

pub nobody_next : (facts : SeasonFacts) (state : State) (best seats : List (Option Seat)) (k : ℕ) (a b : Option Seat) (list : List ProgId) (person : Person) → IsSeeker facts state k person list
    → slice_get best k ≡ Some a → slice_get seats k ≡ Some b → (rank_of list a < rank_of list b → ⊥) → NobodyBefore facts state best seats k → NobodyBefore facts state best seats (k + 1)
nobody_next facts state best seats k a b list person is has had not_better earlier j less g = elim (cases_eq j k) [
  | inl same ↦ not_there facts state best seats k a b list person is has had not_better (subst (λ (i : ℕ). IsBetter (seekers_at facts state) best seats i) same g)
  | inr apart ↦ earlier j (omega (arith, less, apart)) g
]

-- ---- the candidate who gains first

-- by any best seats nobody gains who does not by these
no_other : (facts : SeasonFacts) (at : Setting) (matrix : SeatTable) (seeks : List Seek) (best seats : List (Option Seat)) (j : ℕ) → AreCompared facts at matrix seeks best seats
    → (IsBetter (seekers_at facts at.state) best (seats_given facts at.papers at.state) j → ⊥) → Gains facts at.papers at.state j → ⊥
no_other facts at matrix seeks best seats j c none g =
    let less = slice_get_within (seekers_at facts at.state) j g.gain.s g.gain.there in
    let mine = there_is best j (let full = c.is_best.fair.allocation.full in omega (arith, less, full)) in
    let no_worse = c.is_best.best g.best g.is_best.fair j g.gain.s mine.0 g.gain.seat g.gain.there mine.1 g.gain.has in
    let better = g.gain.better in
    none (record { s = g.gain.s; there = g.gain.there; seat = mine.0; has = mine.1; other = g.gain.other; had = g.gain.had; better = omega (arith, no_worse, better) })

pub gains_first : (facts : SeasonFacts) (at : Setting) (matrix : SeatTable) (seeks : List Seek) (best seats : List (Option Seat)) (k : ℕ) (a b : Option Seat) (list : List ProgId) (person : Person)
    → AreCompared facts at matrix seeks best seats → IsSeeker facts at.state k person list → slice_get best k ≡ Some a → slice_get seats k ≡ Some b → rank_of list a < rank_of list b
    → NobodyBefore facts at.state best seats k → GainsFirst facts at.papers at.state person.id
gains_first facts at matrix seeks best seats k a b list person c is has had better earlier = record {
  at = k;
  gains = record {
    best = best;
    is_best = c.is_best;
    gain = record {
      s = is.s;
      there = is.there;
      seat = a;
      has = has;
      other = b;
      had = subst (λ (z : List (Option Seat)). slice_get z k ≡ Some b) c.seats_are had;
      better = subst (λ (z : List ProgId). rank_of z a < rank_of z b) is.seeks better;
    };
  };
  is = ap (λ (p : Person). p.id) is.is;
  earlier = λ j less. no_other facts at matrix seeks best seats j c (subst (λ (z : List (Option Seat)). IsBetter (seekers_at facts at.state) best z j → ⊥) c.seats_are (earlier j less));
}

-- ---- where nobody gains, the round is the best one

pub nobody_gains : (facts : SeasonFacts) (at : Setting) (matrix : SeatTable) (seeks : List Seek) (best seats : List (Option Seat)) (k : ℕ) → AreCompared facts at matrix seeks best seats → length facts.people ≤ k
    → NobodyBefore facts at.state best seats k → IsBestCut facts at.papers at.state
nobody_gains facts at matrix seeks best seats k c end earlier = record {
  fair = c.fair;
  best = λ others fair i s seat other there has had.
      let less = slice_get_within (seekers_at facts at.state) i s there in
      let full = full_seekers facts at.state c.sound in
      let mine = there_is best i (let all = c.is_best.fair.allocation.full in omega (arith, less, all)) in
      let no_worse = c.is_best.best others fair i s mine.0 other there mine.1 had in
      let none : rank_of s.list mine.0 < rank_of s.list seat → ⊥ = λ better. earlier i (omega (arith, less, full, end))
      (record { s = s; there = there; seat = mine.0; has = mine.1; other = seat; had = subst (λ (z : List (Option Seat)). slice_get z i ≡ Some seat) (sym c.seats_are) has; better = better }) in
      omega (arith, no_worse, none);
}

-- ---- what is compared at a cut

best_as : (facts : SeasonFacts) (state : State) (matrix : SeatTable) (seeks : List Seek) (seats : List (Option Seat)) → matrix ≡ matrix_at facts state → (matrix_at facts state).programmes ≡ facts.matrix.programmes
    → seeks ≡ next_seeks facts state → IsBest (rule_of facts.version nobody matrix) (length matrix.programmes) (seekers_of matrix facts.people (lists_in_order facts) seeks) seats → AreBestAt facts state seats
best_as facts state matrix seeks seats same programmes sought best =
    subst (λ (n : ℕ). IsBest (rule_of facts.version nobody (matrix_at facts state)) n (seekers_at facts state) seats) (ap (λ z. length z) programmes)
    (subst (λ (q : List Seek). IsBest (rule_of facts.version nobody (matrix_at facts state)) (length (matrix_at facts state).programmes) (seekers_of (matrix_at facts state) facts.people (lists_in_order facts) q) seats) sought
    (subst (λ (m : SeatTable). IsBest (rule_of facts.version nobody m) (length m.programmes) (seekers_of m facts.people (lists_in_order facts) seeks) seats) same best))

pub compared : (facts : SeasonFacts) (at : Setting) (papers : Papers) (auditor : Auditor) (matrix : SeatTable) (n : ℕ) (seeks told : List Seek) (round : Round) (best seats : List (Option Seat)) (rows : List AllotRow)
    → at.papers ≡ papers → IsUpTo facts at.state auditor → matrix ≡ auditor.raised.matrix → seeks ≡ next_seeks facts at.state → IsRound facts.version nobody matrix facts.people (lists_in_order facts) n seeks round
    → told ≡ round.seeks → best ≡ round.seats → rows ≡ rows_after papers auditor.window → seats ≡ seats_told rows facts.people → IsFairText facts at.papers at.state
    → AreCompared facts at matrix told best seats
compared facts at papers auditor matrix n seeks told round best seats rows these upto raised sought made as_seeks as_best row given fair =
    let is_seeks : told ≡ next_seeks facts at.state = as_seeks ∙ (made.sought ∙ sought) in
    record {
      sound = upto.sound;
      order = upto.order;
      matrix_is = raised ∙ upto.matrix;
      seeks_are = is_seeks;
      within = subst (λ (z : List Seek). AreSeeks (lists_in_order facts) z) (sym is_seeks) (seeks_fit facts at.state upto.sound upto.order);
      is_best = subst (λ (z : List (Option Seat)). AreBestAt facts at.state z) (sym as_best)
          (best_as facts at.state matrix seeks round.seats (raised ∙ upto.matrix) upto.order.programmes sought made.best);
      seats_are = given ∙ ap (λ (r : List AllotRow). seats_told r facts.people) (row ∙ (ap (rows_after papers) upto.window ∙ ap (λ (p : Papers). rows_after p at.state.now) (sym these)));
      fair = fair;
    }
