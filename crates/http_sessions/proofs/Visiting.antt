-- One connection more.
use Rattle.std.proofs.Common.{◌≡◌, ℕ, List, [], ◌∷◌, ◌++◌, Option, Some, None, Result, map, refl, sym, ap, subst, ◌∙◌, append_assoc}
use Rattle.std.proofs.lemmas.List.{map-append}
use Rattle.office_asks.specs.declared.ask.Ask.{Ask}
use Rattle.office_links.specs.Visits.{Visits, GivesFirst, TakesBack}
use Rattle.http_sessions.specs.Doors.{HasPassed, IsHeld, AreHeld, HasVisited}
use Rattle.http_sessions.specs.declared.counter.Answered.{Answered}
use Rattle.http_wire.specs.declared.faults.Fault.{Fault}

module _ {L : Type 0} where
  -- if connections are visible after one came, they were visible before
  passed_on : (first mid then last : Option (Visits L)) (pairs : List (L × L)) (conn back : L) → HasPassed first pairs mid → GivesFirst mid conn then → TakesBack then back last → HasPassed first (pairs ++ (conn, back) ∷ []) last
  passed_on None None None last pairs conn back p g t = t
  passed_on None None (Some v) last pairs conn back p g t = absurd cc
  passed_on None (Some m) then last pairs conn back p g t = absurd cc
  passed_on (Some f) None then last pairs conn back p g t = absurd p
  passed_on (Some f) (Some m) None last pairs conn back p g t = absurd g
  passed_on (Some f) (Some m) (Some v) None pairs conn back p g t = absurd t
  passed_on (Some f) (Some m) (Some v) (Some l) pairs conn back p g t = (
    p.0 ∙ (ap (λ (x : List L). map (λ (q : L × L). q.0) pairs ++ x) (g.0 ∙ ap (λ (x : List L). conn ∷ x) (sym t.0))
        ∙ (sym (append_assoc (map (λ (q : L × L). q.0) pairs) (conn ∷ []) l.coming) ∙ ap (λ (x : List L). x ++ l.coming) (sym (map-append (λ (q : L × L). q.0) pairs ((conn, back) ∷ []))))),
    t.1 ∙ (ap (λ (x : List L). x ++ back ∷ []) (g.1 ∙ p.1) ∙ (append_assoc f.returned (map (λ (q : L × L). q.1) pairs) (back ∷ []) ∙ ap (λ (x : List L). f.returned ++ x) (sym (map-append (λ (q : L × L). q.1) pairs ((conn, back) ∷ []))))),
  )

module _ {C L : Type 0} (R : C → Option (List ℕ) → Ask → Result Answered Fault → C → Type 0) (left written : L → Option (List ℕ)) (faults : L → ℕ) where
  held_on : (c mid c' : C) (pairs : List (L × L)) (conn back : L) → AreHeld R left written faults c pairs mid → IsHeld R left written faults mid c' conn back → AreHeld R left written faults c (pairs ++ (conn, back) ∷ []) c'
  held_on c mid c' [] conn back same held = (c', subst (λ (s : C). IsHeld R left written faults s c' conn back) same held, refl)
  held_on c mid c' (pair ∷ pairs) conn back h held = (h.0, h.1, held_on h.0 mid c' pairs conn back h.2 held)

  pub visits_on : (c mid c' : C) (first told then last : Option (Visits L)) (conn back : L) → HasVisited R left written faults c mid first told → GivesFirst told conn then → IsHeld R left written faults mid c' conn back → TakesBack then back last
      → HasVisited R left written faults c c' first last
  visits_on c mid c' first told then last conn back v g held t = record {
    links = v.links ++ (conn, back) ∷ [];
    passed = passed_on first told then last v.links conn back v.passed g t;
    held = held_on c mid c' v.links conn back v.held held;
  }
