-- The lists along the people, place by place.
use Rattle.std.proofs.Common.{◌≡◌, ◌<◌, ◌≤◌, ◌+◌, ◌-◌, ℕ, zero, suc, List, [], ◌∷◌, ◌++◌, Option, Some, None, length, take, get_or, arith, refl, sym, ap, ◌∙◌}
use Rattle.std.specs.Prelude.{slice_get, option_map, IsSome, true}
use Rattle.std.proofs.lemmas.List.{take_all, take_more}
use Rattle.std.proofs.lemmas.Option.{get_or_from_slice_get, same_Some, slice_get-get_or, slice_get_within}
use Rattle.office_base.specs.declared.choice.Choice.{Choice}
use Rattle.office_base.specs.declared.seat.Seat.{Seat}
use Rattle.office_base.specs.declared.person.Person.{Person}
use Rattle.office_base.specs.declared.person.ProgId.{ProgId}
use Rattle.answer_table.specs.Turns.{last_choice}
use Rattle.choice_lists.specs.Choices.{Lists, list_of}
use Rattle.seeks.specs.declared.seek.Seek.{Seek}
use Rattle.round_options.specs.Options.{after_cut, holds, standing_of}
use Rattle.round_options.specs.declared.standing.Standing.{Standing}
use Rattle.cut_arrays.specs.NextSeeks.{AreSeated, seek_for, seeks_after}
use Rattle.cut_arrays.specs.WindowEnd.{after_cuts, standings, stands}

-- ---- by the last choice

stands_some : (left : Standing) (choices : List Choice) (choice : Choice) → last_choice choices ≡ Some choice → stands left choices ≡ standing_of choice
stands_some left [] choice e = absurd (cc)
stands_some left (x ∷ []) choice e = ap standing_of (same_Some x choice e)
stands_some left (x ∷ y ∷ xs) choice e =
    let n : length (x ∷ y ∷ xs) - 1 ≡ suc (length (y ∷ xs) - 1) = omega arith in
    stands_some (standing_of x) (y ∷ xs) choice (sym (ap (λ (k : ℕ). slice_get (x ∷ y ∷ xs) k) n) ∙ e)

stands_none : (left : Standing) (choices : List Choice) → last_choice choices ≡ None → stands left choices ≡ left
stands_none left [] e = refl
stands_none left (x ∷ xs) e = absurd (let there = slice_get-get_or (x ∷ xs) (length (x ∷ xs) - 1) x (omega arith) in cc)

pub stood_some : (o : Option (List Choice)) (left : Standing) (choice : Choice) → option_map last_choice o ≡ Some (Some choice) → option_map (stands left) o ≡ Some (standing_of choice)
stood_some None left choice e = absurd (cc)
stood_some (Some choices) left choice e = ap Some (stands_some left choices choice (same_Some _ _ e))

pub stood_none : (o : Option (List Choice)) (left : Standing) → option_map last_choice o ≡ Some None → option_map (stands left) o ≡ Some left
stood_none None left e = absurd (cc)
stood_none (Some choices) left e = ap Some (stands_none left choices (same_Some _ _ e))

-- ---- at a place

pub stood_at : (left : List Standing) (table : List (List Choice)) (at : ℕ) (l s : Standing) → slice_get left at ≡ Some l → option_map (stands l) (slice_get table at) ≡ Some s → slice_get (standings left table) at ≡ Some s
stood_at [] table at l s a b = absurd (cc)
stood_at (x ∷ left) [] at l s a b = absurd (cc)
stood_at (x ∷ left) (choices ∷ table) zero l s a b = ap (λ (w : Standing). Some (stands w choices)) (same_Some x l a) ∙ b
stood_at (x ∷ left) (choices ∷ table) (suc at) l s a b = stood_at left table at l s a b

pub after_at : (all : List Standing) (seats : List (Option Seat)) (at : ℕ) (s : Standing) (seat : Option Seat) → slice_get all at ≡ Some s → slice_get seats at ≡ Some seat
    → slice_get (after_cuts all seats) at ≡ Some (after_cut s seat)
after_at [] seats at s seat a b = absurd (cc)
after_at (x ∷ all) [] at s seat a b = absurd (cc)
after_at (x ∷ all) (y ∷ seats) zero s seat a b = ap Some (ap (λ (w : Standing). after_cut w y) (same_Some x s a) ∙ ap (λ (w : Option Seat). after_cut s w) (same_Some y seat b))
after_at (x ∷ all) (y ∷ seats) (suc at) s seat a b = after_at all seats at s seat a b

pub seeks_at : (lists : Lists) (people : List Person) (all : List Standing) (seats : List (Option Seat)) (at : ℕ) (person : Person) (s : Standing) (seat : Option Seat)
    → slice_get people at ≡ Some person → slice_get all at ≡ Some s → slice_get seats at ≡ Some seat
    → slice_get (seeks_after lists people all seats) at ≡ Some (seek_for (list_of lists person.id.0) s seat)
seeks_at lists [] all seats at person s seat a b c = absurd (cc)
seeks_at lists (x ∷ people) [] seats at person s seat a b c = absurd (cc)
seeks_at lists (x ∷ people) (y ∷ all) [] at person s seat a b c = absurd (cc)
seeks_at lists (x ∷ people) (y ∷ all) (z ∷ seats) zero person s seat a b c =
    ap Some (ap (λ (w : Person). seek_for (list_of lists w.id.0) y z) (same_Some x person a)
    ∙ (ap (λ (w : Standing). seek_for (list_of lists person.id.0) w z) (same_Some y s b) ∙ ap (λ (w : Option Seat). seek_for (list_of lists person.id.0) s w) (same_Some z seat c)))
seeks_at lists (x ∷ people) (y ∷ all) (z ∷ seats) (suc at) person s seat a b c = seeks_at lists people all seats at person s seat a b c

-- ---- how long

pub standings_length : (left : List Standing) (table : List (List Choice)) → length table ≡ length left → length (standings left table) ≡ length left
standings_length [] table e = refl
standings_length (x ∷ left) [] e = absurd (omega arith)
standings_length (x ∷ left) (choices ∷ table) e = ap suc (standings_length left table (omega arith))

pub after_length : (all : List Standing) (seats : List (Option Seat)) → length seats ≡ length all → length (after_cuts all seats) ≡ length all
after_length [] seats e = refl
after_length (x ∷ all) [] e = absurd (omega arith)
after_length (x ∷ all) (y ∷ seats) e = ap suc (after_length all seats (omega arith))

pub seeks_length : (lists : Lists) (people : List Person) (all : List Standing) (seats : List (Option Seat)) → length all ≡ length people → length seats ≡ length people
    → length (seeks_after lists people all seats) ≡ length people
seeks_length lists [] all seats e f = refl
seeks_length lists (x ∷ people) [] seats e f = absurd (omega arith)
seeks_length lists (x ∷ people) (y ∷ all) [] e f = absurd (omega arith)
seeks_length lists (x ∷ people) (y ∷ all) (z ∷ seats) e f = ap suc (seeks_length lists people all seats (omega arith) (omega arith))

-- ---- one more of a whole

pub take_next : {X : Type 0} (whole done new : List X) (at : ℕ) (x : X) → done ≡ take at whole → slice_get whole at ≡ Some x → new ≡ done ++ x ∷ [] → new ≡ take (at + 1) whole
take_next {X} whole done new at x so here made =
    made ∙ (ap (λ (z : List X). z ++ x ∷ []) so ∙ (ap (λ (z : X). take at whole ++ z ∷ []) (sym (get_or_from_slice_get whole at x x here))
    ∙ sym (take_more whole at x (slice_get_within whole at x here))))

pub take_whole : {X : Type 0} (whole done : List X) (at : ℕ) → done ≡ take at whole → length whole ≤ at → done ≡ whole
take_whole whole done at so long = so ∙ take_all at whole long

-- one more of what all seek
pub seeks_more : (lists : Lists) (people : List Person) (left : List Standing) (table : List (List Choice)) (seats : List (Option Seat)) (at : ℕ) (d : Person) (e s : Standing) (seat : Option Seat)
    (list : List ProgId) (seek : Seek) (done new : List Seek) → at < length people → length left ≡ length people → option_map (stands (get_or left at e)) (slice_get table at) ≡ Some s
    → slice_get seats at ≡ Some seat → list ≡ list_of lists (get_or people at d).id.0 → seek ≡ seek_for list s seat
    → done ≡ take at (seeks_after lists people (standings left table) seats) → new ≡ done ++ seek ∷ [] → new ≡ take (at + 1) (seeks_after lists people (standings left table) seats)
seeks_more lists people left table seats at d e s seat list seek done new less full stood given own sought so made =
    let person = slice_get-get_or people at d less in
    let there = slice_get-get_or left at e (omega (arith, less, full)) in
    let here = seeks_at lists people (standings left table) seats at (get_or people at d) s seat person (stood_at left table at (get_or left at e) s there stood) given in
    let same : seek ≡ seek_for (list_of lists (get_or people at d).id.0) s seat = sought ∙ ap (λ (z : List ProgId). seek_for z s seat) own in
    take_next (seeks_after lists people (standings left table) seats) done new at seek so (here ∙ ap Some (sym same)) made

-- a candidate with this standing is seated
pub seated_there : (left : List Standing) (table : List (List Choice)) (seats : List (Option Seat)) (at : ℕ) (e s : Standing) (seat : Option Seat) → AreSeated (standings left table) seats → at < length left
    → option_map (stands (get_or left at e)) (slice_get table at) ≡ Some s → slice_get seats at ≡ Some seat → holds s ≡ true → IsSome seat
seated_there left table seats at e s seat seated less stood given =
    seated.each at s seat (stood_at left table at (get_or left at e) s (slice_get-get_or left at e less) stood) given

-- what all seek is whole
pub seeks_whole : (lists : Lists) (people : List Person) (left : List Standing) (table : List (List Choice)) (seats : List (Option Seat)) (at : ℕ) (done : List Seek)
    → length people ≤ at → length left ≡ length people → length table ≡ length people → length seats ≡ length people
    → done ≡ take at (seeks_after lists people (standings left table) seats) → done ≡ seeks_after lists people (standings left table) seats
seeks_whole lists people left table seats at done end full turns given so =
    let size = standings_length left table (turns ∙ sym full) in
    let all = seeks_length lists people (standings left table) seats (size ∙ full) given in
    take_whole (seeks_after lists people (standings left table) seats) done at so (omega (arith, all, end))
