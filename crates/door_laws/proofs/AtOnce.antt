-- A link that is served where an ask without an answer adds nothing.
use Rattle.std.proofs.Common.{◌≡◌, ◌+◌, ℕ, List, [], ◌∷◌, ◌++◌, Option, Ok, Err, refl, sym, ap, subst, ◌∙◌}
use Rattle.office_asks.specs.declared.ask.Ask.{Ask}
use Rattle.office_desk.specs.Own.{Begins}
use Rattle.http_asks.specs.Verdicts.{Verdict, refuses, asks}
use Rattle.http_sessions.specs.Exchange.{Item, Outcome, wired, unread, heard, IsAsked}
use Rattle.http_sessions.specs.declared.counter.Answered.{Answered}
use Rattle.http_wire.specs.declared.faults.Fault.{Fault}
use Rattle.door_crews.specs.Served.{IsPlaced, IsServing}
use Rattle.door_crews.proofs.Counting.{begins_same, begins_trans}
use Rattle.door_laws.specs.Laws.{IsPlacedAtOnce, IsServingAtOnce}

-- what holds of an ask, if something else does
asked_more : (verdict : Verdict) (P Q : Option (List ℕ) → Ask → Type 0) → ((token : Option (List ℕ)) (ask : Ask) → P token ask → Q token ask) → IsAsked verdict P → IsAsked verdict Q
asked_more (refuses status allow) P Q more a = absurd a
asked_more (asks token ask) P Q more a = more token ask a

asked_so : {X : Type 0} (verdict : Verdict) (P : Option (List ℕ) → Ask → Type 0) → ((token : Option (List ℕ)) (ask : Ask) → P token ask → X) → IsAsked verdict P → X
asked_so (refuses status allow) P more a = absurd a
asked_so (asks token ask) P more a = more token ask a

module _ {I : Type 0} where
  -- the place begins what is behind it
  behind_begins : (A place added behind : List I) → Begins A place → behind ≡ place ++ added → Begins A behind
  behind_begins A place added behind a e = begins_trans A place behind a (added, e)

module _ {I : Type 0} (Answers : List I → Option (List ℕ) → Ask → Answered → List I → Type 0) (Unanswers : List I → Option (List ℕ) → Ask → Fault → List I → Type 0)
    (Fails : List I → Option (List ℕ) → Ask → Fault → Type 0)
    (nothing : (place : List I) (token : Option (List ℕ)) (ask : Ask) (fault : Fault) (added : List I) → Unanswers place token ask fault added → (added ≡ []) × Fails place token ask fault) (kept : ℕ) where
  placed_begins : (A : List I) (item : Item) (outcome : Outcome) (added : List I) (n : ℕ) (behind : List I) → IsPlaced Answers Unanswers kept A item outcome added n behind → Begins A behind
  placed_begins A item wired added n behind p = begins_same A behind p.3
  placed_begins A item unread added n behind p = begins_same A behind p.3
  placed_begins A item (heard (Ok answered)) added n behind p = asked_so item.verdict _ (λ token ask at. behind_begins A at.0 added behind at.1 at.3) p.2
  placed_begins A item (heard (Err fault)) added n behind p = asked_so item.verdict _ (λ token ask at. behind_begins A at.0 added behind at.1 at.3) p.1

  serving_begins : (A : List I) (items : List Item) (outcomes : List Outcome) (E : List I) (f : ℕ) (B : List I) → IsServing Answers Unanswers kept A items outcomes E f B → Begins A B
  serving_begins A [] [] E f B s = s.2
  serving_begins A [] (outcome ∷ outcomes) E f B s = absurd s
  serving_begins A (item ∷ items) [] E f B s = absurd s
  serving_begins A (item ∷ items) (outcome ∷ outcomes) E f B s = begins_trans A s.2 B (placed_begins A item outcome s.0 s.1 s.2 s.5) (serving_begins s.2 items outcomes s.3 s.4 B s.6)

  -- what is served from a history is served from each beginning of it
  placed_earlier : (A A' B : List I) → Begins A A' → (item : Item) (outcome : Outcome) (added : List I) (n : ℕ) (behind : List I) → IsPlacedAtOnce Answers Fails A' B item outcome added n behind
      → (behind' : List I) × Begins behind' behind × IsPlacedAtOnce Answers Fails A B item outcome added n behind'
  placed_earlier A A' B from item wired added n behind p = (A, subst (λ (x : List I). Begins A x) (sym p.3) from, (p.0, p.1, p.2, refl))
  placed_earlier A A' B from item unread added n behind p = (A, subst (λ (x : List I). Begins A x) (sym p.3) from, (p.0, p.1, p.2, refl))
  placed_earlier A A' B from item (heard (Ok answered)) added n behind p =
      (behind, begins_same behind behind refl, (p.0, asked_more item.verdict _ _ (λ token ask at. (at.0, begins_trans A A' at.0 from at.1, at.2, at.3)) p.1))
  placed_earlier A A' B from item (heard (Err fault)) added n behind p =
      (A, subst (λ (x : List I). Begins A x) (sym p.2) from, (p.0, p.1, refl, asked_more item.verdict _ _ (λ token ask at. (at.0, begins_trans A A' at.0 from at.1, at.2, at.3)) p.3))

  serving_earlier : (A A' : List I) (items : List Item) (outcomes : List Outcome) (E : List I) (f : ℕ) (B : List I) → Begins A A' → IsServingAtOnce Answers Fails A' items outcomes E f B
      → IsServingAtOnce Answers Fails A items outcomes E f B
  serving_earlier A A' [] [] E f B from s = (s.0, s.1, begins_trans A A' B from s.2)
  serving_earlier A A' [] (outcome ∷ outcomes) E f B from s = absurd s
  serving_earlier A A' (item ∷ items) [] E f B from s = absurd s
  serving_earlier A A' (item ∷ items) (outcome ∷ outcomes) E f B from s =
      let p = placed_earlier A A' B from item outcome s.0 s.1 s.2 s.5 in
      (s.0, s.1, p.0, s.3, s.4, p.2, serving_earlier p.0 s.2 items outcomes s.3 s.4 B p.1 s.6, s.7, s.8)

  placed_at_once : (A B : List I) (item : Item) (outcome : Outcome) (added : List I) (n : ℕ) (behind : List I) → Begins behind B → IsPlaced Answers Unanswers kept A item outcome added n behind
      → (behind' : List I) × Begins behind' behind × IsPlacedAtOnce Answers Fails A B item outcome added n behind'
  placed_at_once A B item wired added n behind on p = (behind, begins_same behind behind refl, p)
  placed_at_once A B item unread added n behind on p = (behind, begins_same behind behind refl, p)
  placed_at_once A B item (heard (Ok answered)) added n behind on p = (behind, begins_same behind behind refl, (p.0, p.2))
  placed_at_once A B item (heard (Err fault)) added n behind on p = (
    A,
    placed_begins A item (heard (Err fault)) added n behind p,
    (
      asked_so item.verdict _ (λ token ask at. (nothing at.0 token ask fault added at.2).0) p.1,
      p.0,
      refl,
      asked_more item.verdict _ _ (λ token ask at. (at.0, at.1, begins_trans at.0 behind B (added, at.3) on, (nothing at.0 token ask fault added at.2).1)) p.1,
    ),
  )

  pub at_once : (A : List I) (items : List Item) (outcomes : List Outcome) (E : List I) (f : ℕ) (B : List I) → IsServing Answers Unanswers kept A items outcomes E f B → IsServingAtOnce Answers Fails A items outcomes E f B
  at_once A [] [] E f B s = s
  at_once A [] (outcome ∷ outcomes) E f B s = absurd s
  at_once A (item ∷ items) [] E f B s = absurd s
  at_once A (item ∷ items) (outcome ∷ outcomes) E f B s =
      let p = placed_at_once A B item outcome s.0 s.1 s.2 (serving_begins s.2 items outcomes s.3 s.4 B s.6) s.5 in
      (s.0, s.1, p.0, s.3, s.4, p.2, serving_earlier p.0 s.2 items outcomes s.3 s.4 B p.1 (at_once s.2 items outcomes s.3 s.4 B s.6), s.7, s.8)
