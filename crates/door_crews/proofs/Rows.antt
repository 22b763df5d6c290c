-- A row of doors with a crew: each is served, and all their own entries are those of its links.
use Rattle.std.proofs.Common.{◌≡◌, ◌+◌, ◌≤◌, inl, inr, ℕ, false, List, [], ◌∷◌, ◌++◌, Option, map, arith, refl, sym, ap, subst, ◌∙◌}
use Rattle.std.proofs.lemmas.Bool.{or_parts}
use Rattle.office_asks.specs.declared.ask.Ask.{Ask}
use Rattle.office_desk.specs.Own.{Begins, AreMerged}
use Rattle.door_crews.specs.Rows.{AllServed}
use Rattle.http_sessions.specs.declared.counter.Answered.{Answered}
use Rattle.http_wire.specs.declared.faults.Fault.{Fault}
use Rattle.door_crews.specs.Counts.{RoseBy}
use Rattle.door_crews.specs.Ending.{SomeRose, AllEnded}
use Rattle.door_crews.specs.Served.{DoorLooks, AllDoorsServed, DoorServed, EachDoor}
use Rattle.door_crews.specs.Workers.{Worker, IsHired, IsTakenIn, HasWorked, IsRow}
use Rattle.door_crews.proofs.Later.{door_later}
use Rattle.door_crews.proofs.Bits.{some_is, not_both}
use Rattle.door_crews.proofs.Counting.{begins_self, begins_same, begins_trans, merged_sym, rose_within}

module _ {I : Type 0} where
  first_begins : (m w p : Worker I) → IsTakenIn m w p → Begins m.knows.seen p.knows.seen
  first_begins m w p j = elim j.seen [
    | inl a ↦ subst (λ (x : List I). Begins m.knows.seen x) (sym a.1) a.0
    | inr a ↦ subst (λ (x : List I). Begins m.knows.seen x) (sym a.1) (begins_self m.knows.seen)
  ]

  other_begins : (m w p : Worker I) → IsTakenIn m w p → Begins w.knows.seen p.knows.seen
  other_begins m w p j = elim j.seen [
    | inl a ↦ subst (λ (x : List I). Begins w.knows.seen x) (sym a.1) (begins_self w.knows.seen)
    | inr a ↦ subst (λ (x : List I). Begins w.knows.seen x) (sym a.1) a.0
  ]

module _ {I : Type 0} (Answers : List I → Option (List ℕ) → Ask → Answered → List I → Type 0) (Unanswers : List I → Option (List ℕ) → Ask → Fault → List I → Type 0) {D L : Type 0} (of : DoorLooks D L) where
  -- a later history, and a larger count
  later : (A : List I) (c : ℕ) (ds ds' : List D) (Es : List (List I)) (fs : List ℕ) (H K : List I) (k l m n : ℕ) → Begins H K → k ≤ l → m ≤ n
      → EachDoor Answers Unanswers m of A c ds ds' Es fs H k → EachDoor Answers Unanswers n of A c ds ds' Es fs K l
  later A c [] ds' Es fs H K k l m n begins le more e = e
  later A c (d ∷ ds) ds' Es fs H K k l m n begins le more e = (
    e.0,
    e.1,
    e.2,
    e.3,
    e.4,
    e.5,
    e.6,
    e.7,
    e.8,
    e.9,
    door_later Answers Unanswers m n more of d e.0 A e.2 e.4 e.6 e.10,
    begins_trans e.6 H K e.11 begins,
    rose_within e.4 c k l e.12 le,
    later A c ds e.1 e.3 e.5 H K k l m n begins le more e.13,
  )

  -- one door more before a row
  row_before : (number : ℕ) (d d' : D) (ds ds' es' : List D) (p q w w' m p' : Worker I) → p.knows.own ≡ [] → ds' ≡ d' ∷ es' → IsHired p q w → HasWorked Answers Unanswers of number d d' w w'
      → IsRow Answers Unanswers of q ds es' m → IsTakenIn m w' p' → IsRow Answers Unanswers of p (d ∷ ds) ds' p'
  row_before number d d' ds ds' es' p q w w' m p' none is hired worked rest joined =
      let own : w'.knows.own ≡ worked.entries = worked.own ∙ ap (λ (x : List I). x ++ worked.entries) hired.new_own in
      let on = first_begins m w' p' joined in
      let one = joined.more in
      let two = rest.counts in
      let three = hired.count in
      let some = joined.shares in
      let more = rest.shares in
      let back = worked.shares in
      let new = hired.new_shares in
      let all = hired.shares in
      record {
        entries = worked.entries ∷ rest.entries;
        failures = worked.failures ∷ rest.failures;
        each = (
          d',
          es',
          worked.entries,
          rest.entries,
          worked.failures,
          rest.failures,
          w'.knows.seen,
          is,
          refl,
          refl,
          door_later Answers Unanswers w'.knows.kept p'.knows.kept joined.most_kept of d d' p.knows.seen worked.entries worked.failures w'.knows.seen
              (subst (λ (x : List I). DoorServed Answers Unanswers w'.knows.kept of d d' x worked.entries worked.failures w'.knows.seen) hired.new_seen worked.served),
          other_begins m w' p' joined,
          rose_within worked.failures p.knows.count w'.knows.count p'.knows.count (subst (λ (k : ℕ). RoseBy worked.failures k w'.knows.count) hired.new_count worked.rose) joined.most,
          later p.knows.seen p.knows.count ds es' rest.entries rest.failures m.knows.seen p'.knows.seen m.knows.count p'.knows.count m.knows.kept p'.knows.kept on joined.more joined.more_kept
              (subst (λ (x : List I). EachDoor Answers Unanswers m.knows.kept of x p.knows.count ds es' rest.entries rest.failures m.knows.seen m.knows.count) hired.seen
              (subst (λ (k : ℕ). EachDoor Answers Unanswers m.knows.kept of q.knows.seen k ds es' rest.entries rest.failures m.knows.seen m.knows.count) hired.count rest.each)),
        );
        own = (m.knows.own, subst (λ (x : List I). AreMerged x m.knows.own p'.knows.own) own (merged_sym m.knows.own w'.knows.own p'.knows.own joined.own), rest.own);
        begins = begins_trans p.knows.seen m.knows.seen p'.knows.seen (subst (λ (x : List I). Begins x m.knows.seen) hired.seen rest.begins) on;
        counts = omega (arith, one, two, three);
        keeps = (let first = hired.kept in let then = rest.keeps in let last = joined.more_kept in omega (arith, first, then, last));
        shares = omega (arith, some, more, back, new, all);
        fails = λ yes. subst (λ (x : List D). SomeRose of.faults (d ∷ ds) x) (sym is) (elim (some_is m.failed w'.failed (sym joined.failed ∙ yes)) [
          | inl e ↦ inr (rest.fails e)
          | inr e ↦ inl (worked.fails e)
        ]);
        ends = λ no.
            let both = or_parts m.failed w'.failed (sym joined.failed ∙ no) in
            let others = rest.ends both.0 in
            let this = worked.ends both.1 in
            subst (λ (x : List D). AllEnded of.faults of.to_come (d ∷ ds) x) (sym is)
            ((this.0, others.0), ap (λ (x : ℕ). x ∷ map of.faults es') this.1 ∙ ap (λ (xs : List ℕ). of.faults d ∷ xs) others.1);
      }

  -- the row of a crew that began at the history A and with the count c,
  -- and ended where the history is H and the count k
  pub all_doors : (A H : List I) (c k kept : ℕ) (ds ds' : List D) (p p' : Worker I) → IsRow Answers Unanswers of p ds ds' p' → p.knows.seen ≡ A → p.knows.count ≡ c
      → H ≡ p'.knows.seen → H ≡ A ++ p'.knows.own → p'.knows.count ≤ k → p'.knows.kept ≤ kept → AllDoorsServed Answers Unanswers kept of A c ds ds' H k
  all_doors A H c k kept ds ds' p p' row begins counts ends grows le keeps =
      let more = row.counts in
      record {
        entries = row.entries;
        failures = row.failures;
        each = subst (λ (x : List I). EachDoor Answers Unanswers kept of x c ds ds' row.entries row.failures H k) begins
            (subst (λ (n : ℕ). EachDoor Answers Unanswers kept of p.knows.seen n ds ds' row.entries row.failures H k) counts
            (later p.knows.seen p.knows.count ds ds' row.entries row.failures p'.knows.seen H p'.knows.count k p'.knows.kept kept (begins_same p'.knows.seen H ends) le keeps row.each));
        added = p'.knows.own;
        goes_on = grows;
        merged = row.own;
        counts = omega (arith, counts, more, le);
      }

  module _ {P : Type 0} (seen_as : P → Worker I) where
    pub rows_are_served : (number : ℕ) (ds ds' : List D) (p p' : P) → (seen_as p).knows.own ≡ [] → (seen_as p).failed ≡ false
        → AllServed (λ p q w. IsHired (seen_as p) (seen_as q) (seen_as w)) (λ number d d' w w'. HasWorked Answers Unanswers of number d d' (seen_as w) (seen_as w')) (λ m w p. IsTakenIn (seen_as m) (seen_as w) (seen_as p)) number ds ds' p p'
        → IsRow Answers Unanswers of (seen_as p) ds ds' (seen_as p')
    rows_are_served number [] ds' p p' none fine a =
        let same : (seen_as p').knows.count ≡ (seen_as p).knows.count = ap (λ (s : P). (seen_as s).knows.count) a.1 in
        let as_many : (seen_as p').knows.kept ≡ (seen_as p).knows.kept = ap (λ (s : P). (seen_as s).knows.kept) a.1 in
        record {
          entries = [];
          failures = [];
          each = (a.0, refl, refl);
          own = ap (λ (s : P). (seen_as s).knows.own) a.1 ∙ none;
          begins = begins_same (seen_as p).knows.seen (seen_as p').knows.seen (ap (λ (s : P). (seen_as s).knows.seen) a.1);
          counts = omega (arith, same);
          keeps = omega (arith, as_many);
          shares = ap (λ (s : P). (seen_as s).knows.shares) a.1;
          fails = λ yes. absurd (not_both (seen_as p').failed yes (ap (λ (s : P). (seen_as s).failed) a.1 ∙ fine));
          ends = λ no. subst (λ (x : List D). AllEnded of.faults of.to_come [] x) (sym a.0) (tt, refl);
        }
    rows_are_served number (d ∷ ds) ds' p p' none fine a =
        let q = a.2 in
        let m = a.5 in
        let hired = a.7 in
        row_before number d a.0 ds ds' a.1 (seen_as p) (seen_as q) (seen_as a.3) (seen_as a.4) (seen_as m) (seen_as p') none a.6 hired a.8
        (rows_are_served (number + 1) ds a.1 q m (hired.own ∙ none) (hired.failed ∙ fine) a.9) a.10
