-- What holds of all entries holds with one more that is accepted.
use Rattle.std.proofs.Common.{◌≡◌, ◌⊎◌, inl, inr, ℕ, zero, suc, Bool, true, false, cond, List, [], ◌∷◌, ◌++◌, Option, Some, None, refl, sym, ap, subst, ◌∙◌, length-append, arith}
use Rattle.std.specs.Prelude.{◌==◌, ◌||◌, bytes_eq}
use Rattle.std.proofs.lemmas.Bool.{eqb-true, eq-eqb, or_left, or_parts, or_right}
use Rattle.std.proofs.lemmas.Slice.Eq.{bytes_eq-Decides}
use Rattle.office_base.specs.Codes.{is_token}
use Rattle.office_base.specs.Person.{number_of}
use Rattle.office_base.specs.declared.person.Person.{Person}
use Rattle.office_base.specs.declared.person.Place.{Place}
use Rattle.office_base.proofs.Options.{some_value, is_some_from}
use Rattle.rank_lists.specs.Register.{AreEntries, IsRegistered, any_repeats, holder_at, is_number, is_taken, person_at, place_at, repeats}
use Rattle.rank_lists.specs.declared.entry.Entry.{Entry}
use Rattle.section_rows.proofs.StepsLemmas.{found_cases}
use Rattle.rank_lists.proofs.BuilderLemmas.{IsAccepted}

-- the number of a known person is taken
taken_found : (entries : List Entry) (i list n : ℕ) (a : Person) → person_at i entries ≡ Some a → number_of (place_at a.places list) ≡ Some n → is_taken list n entries ≡ true
taken_found [] i list n a e f = cc e
taken_found (entry ∷ entries) i list n a e f = by (i == entry.person.id.0) e (taken_found entries i list n a)
  where
    here : is_number n (number_of (place_at a.places list)) ≡ true
    here = rw f (eq-eqb n n refl)

    by : (b : Bool) → cond b (Some entry.person) (person_at i entries) ≡ Some a
        → (person_at i entries ≡ Some a → number_of (place_at a.places list) ≡ Some n → is_taken list n entries ≡ true)
        → (is_number n (number_of (place_at entry.person.places list)) || is_taken list n entries) ≡ true
    by true h more = let same : entry.person ≡ a = cc h in or_left (is_number n (number_of (place_at entry.person.places list))) (is_taken list n entries) (ap (λ (p : Person). is_number n (number_of (place_at p.places list))) same ∙ here)
    by false h more = or_right (is_number n (number_of (place_at entry.person.places list))) (is_taken list n entries) (more h f)

-- a number that does not repeat is not taken
one_free : (entries : List Entry) (list n : ℕ) (o : Option ℕ) → repeats list o entries ≡ false → o ≡ Some n → is_taken list n entries ≡ false
one_free entries list n None e f = cc f
one_free entries list n (Some m) e f = let same : m ≡ n = cc f in subst (λ (k : ℕ). is_taken list k entries ≡ false) same e

-- where no number repeats, none of them is taken
not_taken : (entries : List Entry) (a b c d : Place) → any_repeats (a ∷ b ∷ c ∷ d ∷ []) entries ≡ false
    → (list n : ℕ) → number_of (place_at (a ∷ b ∷ c ∷ d ∷ []) list) ≡ Some n → is_taken list n entries ≡ false
not_taken entries a b c d none list n f =
    let r0 = repeats 0 (number_of a) entries in
    let r1 = repeats 1 (number_of b) entries in
    let r2 = repeats 2 (number_of c) entries in
    let r3 = repeats 3 (number_of d) entries in
    let p3 = or_parts ((r0 || r1) || r2) r3 none in
    let p2 = or_parts (r0 || r1) r2 p3.0 in
    let p1 = or_parts r0 r1 p2.0 in
    at list f p1.0 p1.1 p2.1 p3.1
  where
    at : (list : ℕ) → number_of (place_at (a ∷ b ∷ c ∷ d ∷ []) list) ≡ Some n
        → repeats 0 (number_of a) entries ≡ false → repeats 1 (number_of b) entries ≡ false → repeats 2 (number_of c) entries ≡ false → repeats 3 (number_of d) entries ≡ false
        → is_taken list n entries ≡ false
    at zero g q0 q1 q2 q3 = one_free entries 0 n (number_of a) q0 g
    at (suc zero) g q0 q1 q2 q3 = one_free entries 1 n (number_of b) q1 g
    at (suc (suc zero)) g q0 q1 q2 q3 = one_free entries 2 n (number_of c) q2 g
    at (suc (suc (suc zero))) g q0 q1 q2 q3 = one_free entries 3 n (number_of d) q3 g
    at (suc (suc (suc (suc l)))) g q0 q1 q2 q3 = cc g

-- an entry that is accepted has no number of those before it
apart_step : (entries : List Entry) (entry : Entry) → IsAccepted entries entry → (i list n : ℕ) (a : Person)
    → person_at i entries ≡ Some a → number_of (place_at a.places list) ≡ Some n → number_of (place_at entry.person.places list) ≡ Some n → ⊥
apart_step entries entry accepted i list n a e f g =
    let (p, q, r, s, shape) = accepted.four in
    let free = not_taken entries p q r s (subst (λ (places : List Place). any_repeats places entries ≡ false) shape accepted.apart) list n (subst (λ (places : List Place). number_of (place_at places list) ≡ Some n) shape g) in
    let taken = taken_found entries i list n a e f in
    cc (free, taken)

-- What holds of the entries holds with one more.
pub entries-step : (entries : List Entry) (entry : Entry) → AreEntries entries → IsAccepted entries entry → AreEntries (entries ++ entry ∷ [])
entries-step entries entry all accepted = record {
  few = omega (arith, accepted.few, length-append entries (entry ∷ []));
  apart = λ i j list n a b ha hb na nb.
      elim (cases_at i a ha) [
        | inl old ↦ elim (cases_at j b hb) [
          | inl other ↦ all.apart i j list n a b old other na nb
          | inr new ↦ absurd (apart_step entries entry accepted i list n a old na (ap (λ (p : Person). number_of (place_at p.places list)) new.1 ∙ nb))
        ]
        | inr new ↦ elim (cases_at j b hb) [
          | inl old ↦ absurd (apart_step entries entry accepted j list n b old nb (ap (λ (p : Person). number_of (place_at p.places list)) new.1 ∙ na))
          | inr other ↦ eqb-true i entry.person.id.0 new.0 ∙ sym (eqb-true j entry.person.id.0 other.0)
        ]
      ];
  registered = λ i a ha. elim (cases_at i a ha) [
    | inl old ↦ all.registered i a old
    | inr new ↦ subst IsRegistered new.1 accepted.registered
  ];
  tokens = λ token h.
      let (holder, e) = some_value (holder_at token (entries ++ entry ∷ [])) h in
      elim (found_cases (λ e. bytes_eq token e.token) (λ e. e.person.id) entries entry holder e) [
        | inl old ↦ all.tokens token (is_some_from (holder_at token entries) holder old)
        | inr new ↦ ap is_token ((bytes_eq-Decides token entry.token).0 new.0) ∙ accepted.token
      ];
}
  where
    cases_at : (i : ℕ) (a : Person) → person_at i (entries ++ entry ∷ []) ≡ Some a → (person_at i entries ≡ Some a) ⊎ (((i == entry.person.id.0) ≡ true) × (entry.person ≡ a))
    cases_at i a e = found_cases (λ e. i == e.person.id.0) (λ e. e.person) entries entry a e
