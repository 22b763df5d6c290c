-- The sessions of a door.
use Rattle.std.specs.Prelude.{◌≡◌, ◌≢◌, ◌+◌, ℕ, List, [], ◌∷◌, ◌++◌, Option, Some, None, Result, map}
use Rattle.office_base.specs.Outside.{AreLeft, Rose}
use Rattle.office_asks.specs.declared.ask.Ask.{Ask}
use Rattle.office_links.specs.Visits.{Visits}
use Rattle.http_sessions.specs.Sessions.{IsSession, Talk}
use Rattle.http_sessions.specs.declared.counter.Answered.{Answered}
use Rattle.http_wire.specs.declared.faults.Fault.{Fault}
use Rattle.http_sessions.specs.declared.conversation.SessionEnd.{SessionEnd}
use Rattle.http_sessions.specs.declared.conversation.SessionEnd.TheVariants.{LinkFault}

module _ {L : Type 0} where
  -- these connections came and were given back, in their order; hidden connections stay hidden
  abbrev pub HasPassed : Option (Visits L) → List (L × L) → Option (Visits L) → Type 0
  HasPassed None pairs after = after ≡ None
  HasPassed (Some before) pairs None = ⊥
  HasPassed (Some before) pairs (Some after) = (before.coming ≡ map (λ pair. pair.0) pairs ++ after.coming) × (after.returned ≡ before.returned ++ map (λ pair. pair.1) pairs)

module _ {C L : Type 0} (R : C → Option (List ℕ) → Ask → Result Answered Fault → C → Type 0) (left written : L → Option (List ℕ)) (faults : L → ℕ) where
  -- A session over a link, as it was found and as it was left: it ends with a fault if and only if the link failed.
  pub record IsHeld (c c' : C) (link link' : L) : Type 0 where
    pub bytes : List ℕ
    pub end : SessionEnd
    pub are : AreLeft bytes (left link)
    pub session : IsSession R c c' bytes (record { left_before = left link; left_after = left link'; written_before = written link; written_after = written link' }) end
    pub cause : end ≡ LinkFault → Rose (faults link) (faults link')
    pub steady : end ≢ LinkFault → faults link' ≡ faults link

  abbrev pub AreHeld : C → List (L × L) → C → Type 0
  AreHeld c [] c' = c' ≡ c
  AreHeld c (pair ∷ pairs) c' = (mid : C) × IsHeld c mid pair.0 pair.1 × AreHeld mid pairs c'

  -- the links that came, each with the same link as it was given back
  pub record HasVisited (c c' : C) (before after : Option (Visits L)) : Type 0 where
    pub links : List (L × L)
    pub passed : HasPassed before links after
    pub held : AreHeld c links c'
