-- Acts that follow one another, as entries whose numbers count up.
use Rattle.std.proofs.Common.{◌≡◌, ◌+◌, ℕ, List, [], ◌∷◌, ◌++◌, refl, ap, ◌∙◌, subst, sym, append-nil, append_assoc}
use Rattle.std.specs.Prelude.{map}
use Rattle.office_base.specs.Numbered.{last_from}
use Rattle.office_moves.specs.declared.moves.Act.{Act}
use Rattle.office_moves.specs.declared.moves.Entry.{Entry}
use Rattle.proceedings.specs.Proceeding.{last_of}
use Rattle.replays.specs.Counted.{AreCounted, AreCountedAfter, Follow, counted, counted_after}

one_more : (n : ℕ) (before : List Act) (number : ℕ) (act : Act) → number ≡ last_from n (map (λ (e : Entry). e.number) (counted_after n before)) + 1
    → counted_after n before ++ record { number = number; act = act } ∷ [] ≡ counted_after n (before ++ act ∷ [])
one_more n [] number act next = ap (λ (m : ℕ). let entry : Entry = record { number = m; act = act } in entry ∷ []) next
one_more n (first ∷ before) number act next = ap (λ (z : List Entry). let entry : Entry = record { number = n + 1; act = first } in entry ∷ z) (one_more (n + 1) before number act next)

-- an act follows
pub follow_one : (entries after : List Entry) (number : ℕ) (act : Act) → number ≡ last_of entries + 1 → after ≡ entries ++ record { number = number; act = act } ∷ [] → Follow (act ∷ []) entries after
follow_one entries after number act next same before is =
    same ∙ (ap (λ (z : List Entry). z ++ record { number = number; act = act } ∷ []) is ∙ one_more 0 before number act (next ∙ ap (λ (z : List Entry). last_of z + 1) is))

-- the same where room was taken first
pub follow_from : (before entries after : List Entry) (number : ℕ) (act : Act) → entries ≡ before → number ≡ last_of entries + 1 → after ≡ entries ++ record { number = number; act = act } ∷ []
    → Follow (act ∷ []) before after
follow_from before entries after number act same next is = subst (λ (z : List Entry). Follow (act ∷ []) z after) same (follow_one entries after number act next is)

-- nothing follows
pub follow_none : (entries : List Entry) → Follow [] entries entries
follow_none entries before is = is ∙ ap counted (sym (append-nil before))

-- one after the other
pub follow_more : (one two : List Act) (old mid new : List Entry) → Follow one old mid → Follow two mid new → Follow (one ++ two) old new
follow_more one two old mid new first second before is = second (before ++ one) (first before is) ∙ ap counted (append_assoc before one two)

counted_acts : (n : ℕ) (acts : List Act) → AreCountedAfter n (counted_after n acts)
counted_acts n [] = tt
counted_acts n (act ∷ acts) = (refl, counted_acts (n + 1) acts)

-- entries of acts are counted
pub follow_counted : (acts : List Act) (entries : List Entry) → entries ≡ counted acts → AreCounted entries
follow_counted acts entries is = subst (λ (z : List Entry). AreCounted z) (sym is) (counted_acts 0 acts)
