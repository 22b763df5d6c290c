-- Where a round's text and the lists differ: marks, misses, and the first of them.
use Rattle.std.proofs.Common.{◌≡◌, ◌<◌, ◌+◌, ◌⊎◌, inl, inr, ℕ, Bool, true, false, List, [], ◌∷◌, ◌++◌, Option, Some, None, length, slice_set, arith, refl, sym, ap, ◌∙◌, subst}
use Rattle.std.specs.Prelude.{slice_get}
use Rattle.std.proofs.lemmas.Bool.{cases_eq, cases_lt, cases_order}
use Rattle.std.proofs.lemmas.List.{length-set}
use Rattle.std.proofs.lemmas.Option.{same_Some}
use Rattle.office_base.specs.Lists.{IsAmong}
use Rattle.office_base.specs.declared.seat.Seat.{Seat}
use Rattle.office_base.specs.declared.person.Person.{Person}
use Rattle.office_base.proofs.Lists.{get_set_here, get_set_other, among_left}
use Rattle.rank_lists.specs.Register.{row_of}
use Rattle.audit_rules.specs.Entries.{AreMarking, ComesBefore, IsEarlier, IsFirstMiss, IsMiss, IsMissed, IsWrong}
use Rattle.audit_rules.specs.declared.entries.Entry.{Entry}
use Rattle.audit_rules.specs.declared.unlisted.Miss.{Miss}

-- ---- lists

among_last : {X : Type 0} (xs : List X) (x : X) → IsAmong x (xs ++ x ∷ [])
among_last [] x = inl refl
among_last (y ∷ xs) x = inr (among_last xs x)

of_more : {X : Type 0} (x : X) (xs : List X) (y : X) → IsAmong x (xs ++ y ∷ []) → IsAmong x xs ⊎ (x ≡ y)
of_more x [] y h = elim h [ inl e ↦ inr e | inr none ↦ absurd none ]
of_more x (z ∷ xs) y h = elim h [
  | inl e ↦ inl (inl e)
  | inr later ↦ elim (of_more x xs y later) [ inl there ↦ inl (inr there) | inr here ↦ inr here ]
]

-- ---- the first miss

-- what comes before the earlier one comes before the other
before_both : (q k : ℕ) (new old : Miss) → ComesBefore q k new → (ComesBefore old.prog.0 old.at new → ⊥) → ComesBefore q k old
before_both q k new old less not_before = elim (cases_order old.prog.0 new.prog.0) [
  | inl same ↦ elim (cases_lt old.at new.at) [
    | inl early ↦ absurd (not_before (inr (same, early)))
    | inr late ↦ elim less [
      | inl a ↦ inl (omega (arith, a, same))
      | inr b ↦ (let e = b.0 in let f = b.1 in inr (omega (arith, e, same), omega (arith, f, late)))
    ]
  ]
  | inr other ↦ elim other [
    | inl early ↦ absurd (not_before (inl early))
    | inr late ↦ elim less [
      | inl a ↦ inl (omega (arith, a, late))
      | inr b ↦ (let e = b.0 in inl (omega (arith, e, late)))
    ]
  ]
]

same_place : (q k p at : ℕ) (miss : Miss) → q ≡ p → k ≡ at → ComesBefore q k miss → ComesBefore p at miss
same_place q k p at miss e f h = subst (λ (n : ℕ). ComesBefore n at miss) e (subst (λ (n : ℕ). ComesBefore q n miss) f h)

not_itself : (p at : ℕ) (miss : Miss) → miss.prog.0 ≡ p → miss.at ≡ at → ComesBefore p at miss → ⊥
not_itself p at miss e f h = elim h [ inl a ↦ omega (arith, a, e) | inr b ↦ (let c = b.1 in omega (arith, c, f)) ]

pub first_more : (P Q : ℕ → ℕ → Type 0) (old new : Option Miss) (p at : ℕ) → IsEarlier old p at new → ((q k : ℕ) → P q k → Q q k) → Q p at
    → ((q k : ℕ) → Q q k → P q k ⊎ ((q ≡ p) × (k ≡ at))) → IsFirstMiss P old → IsFirstMiss Q new
first_more P Q old None p at earlier into here from first = absurd earlier
first_more P Q None (Some miss) p at earlier into here from first = (
  subst (λ (n : ℕ). Q n miss.at) (sym earlier.0) (subst (λ (n : ℕ). Q p n) (sym earlier.1) here),
  λ q k h less. elim (from q k h) [
    | inl before ↦ absurd (first q k before)
    | inr same ↦ not_itself p at miss earlier.0 earlier.1 (same_place q k p at miss same.0 same.1 less)
  ],
)
first_more P Q (Some old) (Some miss) p at earlier into here from first = elim earlier [
  | inl stays ↦ (
    subst (λ (m : Miss). Q m.prog.0 m.at) (sym stays.0) (into old.prog.0 old.at first.0),
    λ q k h less.
        let less' = subst (λ (m : Miss). ComesBefore q k m) stays.0 less in
        elim (from q k h) [
          | inl before ↦ first.1 q k before less'
          | inr same ↦ stays.1 (same_place q k p at old same.0 same.1 less')
        ],
  )
  | inr comes ↦ (
    subst (λ (n : ℕ). Q n miss.at) (sym comes.0) (subst (λ (n : ℕ). Q p n) (sym comes.1) here),
    λ q k h less. elim (from q k h) [
      | inl before ↦ first.1 q k before (before_both q k miss old less comes.2)
      | inr same ↦ not_itself p at miss comes.0 comes.1 (same_place q k p at miss same.0 same.1 less)
    ],
  )
]

pub first_same : (P Q : ℕ → ℕ → Type 0) (first : Option Miss) → ((q k : ℕ) → P q k → Q q k) → ((q k : ℕ) → Q q k → P q k) → IsFirstMiss P first → IsFirstMiss Q first
first_same P Q None into from h = λ q k here. h q k (from q k here)
first_same P Q (Some miss) into from h = (into miss.prog.0 miss.at h.0, λ q k here. h.1 q k (from q k here))

-- ---- marks

-- an entry more that names a candidate for their own seat
pub marking_right : (people : List Person) (seats : List (Option Seat)) (entries : List Entry) (marks : List Bool) (first : Option Miss) (entry : Entry) (at : ℕ) → AreMarking people seats entries marks first
    → row_of entry.cand.0 people ≡ Some at → at < length people → slice_get seats at ≡ Some (Some entry.seat) → AreMarking people seats (entries ++ entry ∷ []) (slice_set marks at true) first
marking_right people seats entries marks first entry at m place less has = record {
  marked = record {
    full = length-set marks at true ∙ m.marked.full;
    right = λ k is. elim (cases_eq k at) [
      | inl same ↦ (entry, among_last entries entry, place ∙ ap Some (sym same), ap (slice_get seats) same ∙ has)
      | inr other ↦ let old = m.marked.right k (sym (get_set_other marks at k true other) ∙ is) in (old.0, among_left old.0 entries (entry ∷ []) old.1, old.2, old.3)
    ];
    marked = λ k h. elim (cases_eq k at) [
      | inl same ↦ ap (slice_get (slice_set marks at true)) same ∙ get_set_here marks at true (let full = m.marked.full in omega (arith, full, less))
      | inr other ↦ elim (of_more h.0 entries entry h.1) [
        | inl there ↦ get_set_other marks at k true other ∙ m.marked.marked k (h.0, there, h.2, h.3)
        | inr here ↦ absurd (other (sym (same_Some at k (sym place ∙ (ap (λ (e : Entry). row_of e.cand.0 people) (sym here) ∙ h.2)))))
      ]
    ];
  };
  wrong = first_same (IsWrong people seats entries) (IsWrong people seats (entries ++ entry ∷ [])) first
      (λ q k h. (h.0, among_left h.0 entries (entry ∷ []) h.1, h.2, h.3, h.4))
      (λ q k h. elim (of_more h.0 entries entry h.1) [
        | inl there ↦ (h.0, there, h.2, h.3, h.4)
        | inr here ↦ absurd (
            let k_is : at ≡ k = same_Some at k (sym place ∙ (ap (λ (e : Entry). row_of e.cand.0 people) (sym here) ∙ h.3)) in
            h.4 (ap (slice_get seats) (sym k_is) ∙ (has ∙ ap (λ (e : Entry). Some (Some e.seat)) (sym here))))
      ]) m.wrong;
}

-- one that names one for another seat
pub marking_wrong : (people : List Person) (seats : List (Option Seat)) (entries : List Entry) (marks : List Bool) (first new : Option Miss) (entry : Entry) (at : ℕ) → AreMarking people seats entries marks first
    → row_of entry.cand.0 people ≡ Some at → (slice_get seats at ≡ Some (Some entry.seat) → ⊥) → IsEarlier first entry.seat.prog.0 at new → AreMarking people seats (entries ++ entry ∷ []) marks new
marking_wrong people seats entries marks first new entry at m place other earlier = record {
  marked = record {
    full = m.marked.full;
    right = λ k is. let old = m.marked.right k is in (old.0, among_left old.0 entries (entry ∷ []) old.1, old.2, old.3);
    marked = λ k h. elim (of_more h.0 entries entry h.1) [
      | inl there ↦ m.marked.marked k (h.0, there, h.2, h.3)
      | inr here ↦ absurd (
          let k_is : at ≡ k = same_Some at k (sym place ∙ (ap (λ (e : Entry). row_of e.cand.0 people) (sym here) ∙ h.2)) in
          other (ap (slice_get seats) k_is ∙ (h.3 ∙ ap (λ (e : Entry). Some (Some e.seat)) here)))
    ];
  };
  wrong = first_more (IsWrong people seats entries) (IsWrong people seats (entries ++ entry ∷ [])) first new entry.seat.prog.0 at earlier
      (λ q k h. (h.0, among_left h.0 entries (entry ∷ []) h.1, h.2, h.3, h.4))
      (entry, among_last entries entry, refl, place, other)
      (λ q k h. elim (of_more h.0 entries entry h.1) [
        | inl there ↦ inl (h.0, there, h.2, h.3, h.4)
        | inr here ↦ inr (sym h.2 ∙ ap (λ (e : Entry). e.seat.prog.0) here, sym (same_Some at k (sym place ∙ (ap (λ (e : Entry). row_of e.cand.0 people) (sym here) ∙ h.3))))
      ]) m.wrong;
}

-- one that names nobody of the register
pub marking_unknown : (people : List Person) (seats : List (Option Seat)) (entries : List Entry) (marks : List Bool) (first : Option Miss) (entry : Entry) → AreMarking people seats entries marks first
    → row_of entry.cand.0 people ≡ None → AreMarking people seats (entries ++ entry ∷ []) marks first
marking_unknown people seats entries marks first entry m none = record {
  marked = record {
    full = m.marked.full;
    right = λ k is. let old = m.marked.right k is in (old.0, among_left old.0 entries (entry ∷ []) old.1, old.2, old.3);
    marked = λ k h. elim (of_more h.0 entries entry h.1) [
      | inl there ↦ m.marked.marked k (h.0, there, h.2, h.3)
      | inr here ↦ absurd (let e : None ≡ Some k = sym none ∙ (ap (λ (e : Entry). row_of e.cand.0 people) (sym here) ∙ h.2) in cc)
    ];
  };
  wrong = first_same (IsWrong people seats entries) (IsWrong people seats (entries ++ entry ∷ [])) first
      (λ q k h. (h.0, among_left h.0 entries (entry ∷ []) h.1, h.2, h.3, h.4))
      (λ q k h. elim (of_more h.0 entries entry h.1) [
        | inl there ↦ (h.0, there, h.2, h.3, h.4)
        | inr here ↦ absurd (let e : None ≡ Some k = sym none ∙ (ap (λ (e : Entry). row_of e.cand.0 people) (sym here) ∙ h.3) in cc)
      ]) m.wrong;
}

-- ---- a candidate whom no entry names

-- nobody of the first
pub missed_none : (people : List Person) (seats : List (Option Seat)) (entries : List Entry) (marks : List Bool) (count : ℕ) (first : Option Miss) → IsFirstMiss (IsWrong people seats entries) first
    → IsFirstMiss (IsMiss people seats entries marks count 0) first
missed_none people seats entries marks count first h =
    first_same (IsWrong people seats entries) (IsMiss people seats entries marks count 0) first (λ q k w. inl w)
    (λ q k w. elim w [ inl wrong ↦ wrong | inr missed ↦ absurd (let less = missed.1 in omega (arith, less)) ]) h

longer : (seats : List (Option Seat)) (marks : List Bool) (count at p k : ℕ) → IsMissed seats marks count at p k → IsMissed seats marks count (at + 1) p k
longer seats marks count at p k h = (h.0, (let less = h.1 in omega (arith, less)), h.2, h.3, h.4, h.5)

-- the next one is none of them
pub missed_not : (people : List Person) (seats : List (Option Seat)) (entries : List Entry) (marks : List Bool) (count at : ℕ) (first : Option Miss)
    → ((seat : Seat) → slice_get seats at ≡ Some (Some seat) → seat.prog.0 < count → slice_get marks at ≡ Some false → ⊥)
    → IsFirstMiss (IsMiss people seats entries marks count at) first → IsFirstMiss (IsMiss people seats entries marks count (at + 1)) first
missed_not people seats entries marks count at first not_here h =
    first_same (IsMiss people seats entries marks count at) (IsMiss people seats entries marks count (at + 1)) first
    (λ q k w. elim w [ inl wrong ↦ inl wrong | inr missed ↦ inr (longer seats marks count at q k missed) ])
    (λ q k w. elim w [
      | inl wrong ↦ inl wrong
      | inr missed ↦ elim (cases_eq k at) [
        | inl same ↦ absurd (not_here missed.0 (ap (slice_get seats) (sym same) ∙ missed.2) (let e = missed.3 in let less = missed.4 in omega (arith, e, less)) (ap (slice_get marks) (sym same) ∙ missed.5))
        | inr other ↦ inr (missed.0, (let less = missed.1 in omega (arith, less, other)), missed.2, missed.3, missed.4, missed.5)
      ]
    ]) h

-- the next one is
pub missed_one : (people : List Person) (seats : List (Option Seat)) (entries : List Entry) (marks : List Bool) (count at : ℕ) (first new : Option Miss) (seat : Seat) → slice_get seats at ≡ Some (Some seat)
    → seat.prog.0 < count → slice_get marks at ≡ Some false → IsEarlier first seat.prog.0 at new
    → IsFirstMiss (IsMiss people seats entries marks count at) first → IsFirstMiss (IsMiss people seats entries marks count (at + 1)) new
missed_one people seats entries marks count at first new seat has few none earlier h =
    first_more (IsMiss people seats entries marks count at) (IsMiss people seats entries marks count (at + 1)) first new seat.prog.0 at earlier
    (λ q k w. elim w [ inl wrong ↦ inl wrong | inr missed ↦ inr (longer seats marks count at q k missed) ])
    (inr (seat, omega arith, has, refl, few, none))
    (λ q k w. elim w [
      | inl wrong ↦ inl (inl wrong)
      | inr missed ↦ elim (cases_eq k at) [
        | inl same ↦
            let one : missed.0 ≡ seat = (let a : Some (Some missed.0) ≡ Some (Some seat) = sym missed.2 ∙ (ap (slice_get seats) same ∙ has) in cc) in
            inr (sym missed.3 ∙ ap (λ (s : Seat). s.prog.0) one, same)
        | inr other ↦ inl (inr (missed.0, (let less = missed.1 in omega (arith, less, other)), missed.2, missed.3, missed.4, missed.5))
      ]
    ]) h
