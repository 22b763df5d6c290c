-- What a worker's asks, its split and its join leave of what it knows.
use Rattle.std.proofs.Common.{◌≡◌, ◌≤◌, ◌⊎◌, ◌==◌, inl, inr, ℕ, Bool, true, false, List, [], ◌∷◌, ◌++◌, Option, Result, arith, refl, sym, ap, subst, ◌∙◌}
use Rattle.office_asks.specs.declared.ask.Ask.{Ask}
use Rattle.office_moves.specs.declared.moves.Entry.{Entry}
use Rattle.http_sessions.specs.declared.counter.Answered.{Answered}
use Rattle.office_desk.specs.Words.{origin_of}
use Rattle.office_desk.specs.declared.handles.Desk.{Desk}
use Rattle.office_http.specs.Keeping.{StoodView}
use Rattle.http_wire.specs.declared.faults.Fault.{Fault}
use Rattle.office_desk.specs.Own.{among}
use Rattle.door_crews.specs.Desk.{Known, AsksDesk}
use Rattle.office_http.specs.Asking.{AnswersAt, UnanswersAt}
use Rattle.office_http.specs.Knowing.{AsksInTurn}

-- without a ticket no entry is its own
pub none_among : {I : Type 0} (number : I → ℕ) (entries : List I) → among number [] entries ≡ []
none_among number [] = refl
none_among number (e ∷ entries) = none_among number entries

-- a door has no connection to come, or it failed
pub ended_so : (failed : Bool) (X Y Z : Type 0) → (failed ≡ false → X × Y) → (failed ≡ true → Z) → X ⊎ Z
ended_so true X Y Z done fails = inr (fails refl)
ended_so false X Y Z done fails = inl (done refl).0

-- an ask at a desk keeps the desk
pub asked_there : {K : Type 0} (holds_room : K → Bool) (waits : Type 0) (x d d' : Desk (StoodView K) Entry) (p p' : Known Entry) (token : Option (List ℕ)) (ask : Ask) (r : Result Answered Fault) → d ≡ x
    → (d' ≡ d) × AsksInTurn (origin_of d).office.season (holds_room (origin_of d).office.keeper) waits p token ask r p'
    → (d' ≡ x) × AsksDesk (AnswersAt (origin_of x).office.season) (UnanswersAt (origin_of x).office.season (holds_room (origin_of x).office.keeper) waits) p token ask r p'
asked_there holds_room waits x d d' p p' token ask r is a =
    (a.0 ∙ is, subst (λ (k : Desk (StoodView _) Entry). AsksInTurn (origin_of k).office.season (holds_room (origin_of k).office.keeper) waits p token ask r p') is a.1)

-- of two counts the larger one stays
pub first_no_more : (a b c : ℕ) (X Y : Type 0) → ((a ≤ b) × (c ≡ b) × X) ⊎ ((b ≤ a) × (c ≡ a) × Y) → a ≤ c
first_no_more a b c X Y (inl u) = let le = u.0 in let is = u.1 in omega (arith, le, is)
first_no_more a b c X Y (inr u) = let is = u.1 in omega (arith, is)

pub other_no_more : (a b c : ℕ) (X Y : Type 0) → ((a ≤ b) × (c ≡ b) × X) ⊎ ((b ≤ a) × (c ≡ a) × Y) → b ≤ c
other_no_more a b c X Y (inl u) = let is = u.1 in omega (arith, is)
other_no_more a b c X Y (inr u) = let le = u.0 in let is = u.1 in omega (arith, le, is)

-- of two numbers of kept entries the larger one stays
pub first_kept : (a b c : ℕ) → ((a ≤ b) × (c ≡ b)) ⊎ ((b ≤ a) × (c ≡ a)) → a ≤ c
first_kept a b c (inl u) = let le = u.0 in let is = u.1 in omega (arith, le, is)
first_kept a b c (inr u) = let is = u.1 in omega (arith, is)

pub other_kept : (a b c : ℕ) → ((a ≤ b) × (c ≡ b)) ⊎ ((b ≤ a) × (c ≡ a)) → b ≤ c
other_kept a b c (inl u) = let is = u.1 in omega (arith, is)
other_kept a b c (inr u) = let le = u.0 in let is = u.1 in omega (arith, le, is)
