-- Who is settled after an offer: the one who tried, where the programme admits that one; and all others, but for whom the programme lets go.
use Rattle.std.proofs.Common.{◌≡◌, ◌≢◌, ◌<◌, ◌≤◌, ◌+◌, ◌⊎◌, inl, inr, ℕ, List, Option, Some, length, slice_set, arith, refl, sym, ap, ◌∙◌, subst}
use Rattle.std.specs.Prelude.{slice_get}
use Rattle.std.proofs.lemmas.Bool.Decides.{eqb_tells}
use Rattle.office_base.specs.declared.person.Person.{Person}
use Rattle.office_base.specs.declared.seat.SeatKind.{SeatKind}
use Rattle.allocations.specs.Market.{Seeker, place_of}
use Rattle.allocations.specs.Rule.{Rule, Admits, Refuses, ChoosesWell}
use Rattle.allocations.specs.Fair.{IsMarket}
use Rattle.allocations.specs.Course.{tried, IsHeld, IsUnderway, IsSettled, MayTry, AreSettledBut, AreSettled, HaveNotBegun, KeepsAllBut}
use Rattle.allocations.proofs.Course.{at_set, get_set_same, tried_other}
use Rattle.allocations.proofs.Places.{one_place}

-- who tried a programme other than the one that is tried now is as before
pub other_programmes : (rule : Rule) (count p i n q : ℕ) (seekers : List Seeker) (next : List ℕ) (s : Seeker) → MayTry rule count seekers next i p n s → q ≢ p
    → tried q seekers (slice_set next i (n + 1)) ≡ tried q seekers next
other_programmes rule count p i n q seekers next s try apart =
    tried_other q i n seekers next s try.there try.at (λ e. apart (sym (one_place s.list p q (omega (arith, try.place, try.less)) (try.place ∙ sym e))))

-- the one who tried is settled, where the programme admits that one
pub tried_settled : (rule : Rule) (count p i n : ℕ) (seekers : List Seeker) (next : List ℕ) (s : Seeker) → MayTry rule count seekers next i p n s
    → Admits rule p (tried p seekers (slice_set next i (n + 1))) s.person → IsHeld rule count seekers (slice_set next i (n + 1)) s (n + 1)
tried_settled rule count p i n seekers next s try admitted = (p, try.below, (let e = try.place in omega (arith, e)), admitted)

-- another one who was settled is settled still, unless the programme lets that one go
stays_settled : (rule : Rule) (count p i n j m : ℕ) (seekers : List Seeker) (next : List ℕ) (s t : Seeker) → MayTry rule count seekers next i p n s
    → (Admits rule p (tried p seekers next) t.person → Admits rule p (tried p seekers (slice_set next i (n + 1))) t.person)
    → IsSettled rule count seekers next t m → IsSettled rule count seekers (slice_set next i (n + 1)) t m
stays_settled rule count p i n j m seekers next s t try keeps settled = elim settled [
  | inl held ↦ elim (eqb_tells held.0 p) [
    | inl h ↦
        let before : Admits rule p (tried p seekers next) t.person = subst (λ q. Admits rule q (tried q seekers next) t.person) h.1 held.3 in
        inl (p, try.below, subst (λ q. m ≡ place_of t.list q + 1) h.1 held.2, keeps before)
    | inr h ↦ inl (held.0, held.1, held.2, (held.3.0, subst (λ people. rule held.0 people t.person held.3.0) (sym (other_programmes rule count p i n held.0 seekers next s try h.1)) held.3.1))
  ]
  | inr end ↦ inr end
]

-- all others who were settled are settled still, but for the one whom the programme lets go
others_settled : (rule : Rule) (count p i n first out : ℕ) (seekers : List Seeker) (next : List ℕ) (s : Seeker) → MayTry rule count seekers next i p n s
    → AreSettledBut rule count seekers next first i → KeepsAllBut rule p seekers next (slice_set next i (n + 1)) out
    → (j m : ℕ) (t : Seeker) → j < first → j ≢ i → j ≢ out → slice_get seekers j ≡ Some t → slice_get (slice_set next i (n + 1)) j ≡ Some m
    → IsSettled rule count seekers (slice_set next i (n + 1)) t m
others_settled rule count p i n first out seekers next s try settled keeps j m t less apart apart' there at = elim (at_set next i j n (n + 1) m try.at at) [
  | inl e ↦ absurd (apart e.0)
  | inr e ↦ stays_settled rule count p i n j m seekers next s t try (keeps j t there apart') (settled j m t less apart there e.1)
]

-- The programme admits the one who tried, and lets go the one at another place: all but that one are settled.
pub settled_displaced : (rule : Rule) (count p i n first out : ℕ) (seekers : List Seeker) (next : List ℕ) (s : Seeker) → MayTry rule count seekers next i p n s
    → AreSettledBut rule count seekers next first i → KeepsAllBut rule p seekers next (slice_set next i (n + 1)) out
    → Admits rule p (tried p seekers (slice_set next i (n + 1))) s.person → AreSettledBut rule count seekers (slice_set next i (n + 1)) first out
settled_displaced rule count p i n first out seekers next s try settled keeps admitted = λ j m t less apart there at. elim (eqb_tells j i) [
  | inl h ↦
      let there' : slice_get seekers i ≡ Some t = subst (λ k. slice_get seekers k ≡ Some t) h.1 there in
      let at' : slice_get (slice_set next i (n + 1)) i ≡ Some m = subst (λ k. slice_get (slice_set next i (n + 1)) k ≡ Some m) h.1 at in
      let seeker : s ≡ t = (let e = try.there in cc) in
      let value : n + 1 ≡ m = (let e = get_set_same next i (n + 1) n try.at in cc) in
      let held = tried_settled rule count p i n seekers next s try admitted in
      let held' = subst (λ k. IsHeld rule count seekers (slice_set next i (n + 1)) s k) value held in
      inl (subst (λ z. IsHeld rule count seekers (slice_set next i (n + 1)) z m) seeker held')
  | inr h ↦ others_settled rule count p i n first out seekers next s try settled keeps j m t less h.1 apart there at
]

-- The programme admits the one who tried, and lets nobody go: all are settled.
pub settled_taken : (rule : Rule) (count p i n first : ℕ) (seekers : List Seeker) (next : List ℕ) (s : Seeker) → MayTry rule count seekers next i p n s
    → AreSettledBut rule count seekers next first i → ((out : ℕ) → KeepsAllBut rule p seekers next (slice_set next i (n + 1)) out)
    → Admits rule p (tried p seekers (slice_set next i (n + 1))) s.person → AreSettled rule count seekers (slice_set next i (n + 1)) first
settled_taken rule count p i n first seekers next s try settled keeps admitted = λ j m t less there at.
    let none = settled_displaced rule count p i n first (j + 1) seekers next s try settled (keeps (j + 1)) admitted in
    none j m t less (λ e. omega (arith, e)) there at

-- The programme refuses the one who tried: all but that one are settled as before.
pub settled_refused : (rule : Rule) (count p i n first : ℕ) (seekers : List Seeker) (next : List ℕ) (s : Seeker) → MayTry rule count seekers next i p n s
    → AreSettledBut rule count seekers next first i → ((out : ℕ) → KeepsAllBut rule p seekers next (slice_set next i (n + 1)) out)
    → AreSettledBut rule count seekers (slice_set next i (n + 1)) first i
settled_refused rule count p i n first seekers next s try settled keeps = λ j m t less apart there at.
    others_settled rule count p i n first i seekers next s try settled (keeps i) j m t less apart apart there at

-- Whom the programme tried last refuses is not held.
pub not_held : (rule : Rule) (MayApply : ℕ → List Person → Type 0) (count p j m : ℕ) (seekers : List Seeker) (next : List ℕ) (t : Seeker) → m ≡ place_of t.list p + 1 → m ≤ length t.list
    → Refuses rule p (tried p seekers next) t.person → IsHeld rule count seekers next t m → ⊥
not_held rule MayApply count p j m seekers next t place short refused held =
    let same : place_of t.list p ≡ place_of t.list held.0 = omega (arith, place, held.2) in
    let less : place_of t.list p < length t.list = omega (arith, place, short) in
    let prog : p ≡ held.0 = one_place t.list p held.0 less same in
    let mine : Admits rule p (tried p seekers next) t.person = subst (λ q. Admits rule q (tried q seekers next) t.person) (sym prog) held.3 in
    refused mine.0 mine.1

-- Who has not tried anything is not held.
pub not_begun_free : (rule : Rule) (count : ℕ) (seekers : List Seeker) (next : List ℕ) (s : Seeker) (n : ℕ) → n ≡ 0 → IsHeld rule count seekers next s n → ⊥
not_begun_free rule count seekers next s n none held = (let e = held.2 in omega (arith, e, none))

-- a seeker who has not begun has not begun after an offer of somebody before
pub still_not_begun : (next : List ℕ) (i n first : ℕ) → slice_get next i ≡ Some n → i < first → HaveNotBegun next first → HaveNotBegun (slice_set next i (n + 1)) first
still_not_begun next i n first old less none = λ j m within at. elim (at_set next i j n (n + 1) m old at) [
  | inl e ↦ absurd (let e' = e.0 in omega (arith, e', less, within))
  | inr e ↦ none j m within e.1
]
