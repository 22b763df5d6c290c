-- The first candidates are left as the cut leaves them.
use Rattle.std.proofs.Common.{◌≡◌, ◌<◌, ◌≤◌, ◌+◌, ℕ, zero, suc, Bool, true, false, List, [], ◌∷◌, ◌++◌, Option, Some, length, take, drop, get_or, slice_set, arith, refl, sym, ap, ◌∙◌, subst, if◌then◌else◌, length-set}
use Rattle.std.specs.Prelude.{slice_get, option_map}
use Rattle.std.proofs.lemmas.List.{drop-set-lt, take_all, take_more_set}
use Rattle.std.proofs.lemmas.Grind.{drop_more_same}
use Rattle.std.proofs.lemmas.Option.{slice_get-get_or, slice_get_within}
use Rattle.office_base.specs.declared.choice.Choice.{Choice}
use Rattle.office_base.specs.declared.seat.Seat.{Seat}
use Rattle.round_options.specs.Options.{after_cut}
use Rattle.round_options.specs.declared.standing.Standing.{Standing}
use Rattle.office_moves.specs.Judge.{is_gone}
use Rattle.cut_arrays.specs.WindowEnd.{after_cuts, standings, stands, still_in}
use Rattle.cut_arrays.proofs.PlaceLemmas.{after_at, after_length, standings_length, stood_at, take_next}

-- one where the standing is not out
abbrev pub one_in : Standing → ℕ
one_in standing = if is_gone standing then 0 else 1

-- the first are left, and so many of them are not out
pub record LeaveSome (at : ℕ) (old : List Standing) (table : List (List Choice)) (seats : List (Option Seat)) (new : List Standing) (still : ℕ) : Type 0 where
  pub done : take at new ≡ take at (after_cuts (standings old table) seats)
  pub rest : drop at new ≡ drop at old
  pub count : still ≡ still_in (take at (after_cuts (standings old table) seats))
  pub few : still ≤ at
  pub full : length new ≡ length old

one_more : (gone : Bool) (rest : ℕ) → (if gone then rest else rest + 1) ≡ rest + (if gone then 0 else 1)
one_more true rest = omega arith
one_more false rest = refl

after_one : (gone other : Bool) (rest : ℕ) → (if gone then rest + (if other then 0 else 1) else rest + (if other then 0 else 1) + 1) ≡ (if gone then rest else rest + 1) + (if other then 0 else 1)
after_one true other rest = refl
after_one false true rest = omega arith
after_one false false rest = omega arith

still_push : (xs : List Standing) (x : Standing) → still_in (xs ++ x ∷ []) ≡ still_in xs + one_in x
still_push [] x = one_more (is_gone x) 0
still_push (y ∷ xs) x =
    ap (λ (n : ℕ). if is_gone y then n else n + 1) (still_push xs x) ∙ after_one (is_gone y) (is_gone x) (still_in xs)

head_of_drop : {X : Type 0} (xs : List X) (at : ℕ) → slice_get (drop at xs) 0 ≡ slice_get xs at
head_of_drop [] zero = refl
head_of_drop [] (suc at) = refl
head_of_drop (x ∷ xs) zero = refl
head_of_drop (x ∷ xs) (suc at) = head_of_drop xs at

pub leave_next : (at : ℕ) (old : List Standing) (table : List (List Choice)) (seats : List (Option Seat)) (now : List Standing) (still : ℕ) (l s : Standing) (seat : Option Seat) (one : ℕ)
    → LeaveSome at old table seats now still → slice_get now at ≡ Some l → option_map (stands l) (slice_get table at) ≡ Some s → slice_get seats at ≡ Some seat → one ≡ one_in (after_cut s seat)
    → LeaveSome (at + 1) old table seats (slice_set now at (after_cut s seat)) (still + one)
leave_next at old table seats now still l s seat one h here stood given counted =
    let whole = after_cuts (standings old table) seats in
    let v = after_cut s seat in
    let less : at < length now = slice_get_within now at l here in
    let before : slice_get old at ≡ Some l = sym (head_of_drop old at) ∙ (ap (λ (z : List Standing). slice_get z 0) (sym h.rest) ∙ (head_of_drop now at ∙ here)) in
    let there : slice_get whole at ≡ Some v = after_at (standings old table) seats at s seat (stood_at old table at l s before stood) given in
    let more : take at whole ++ v ∷ [] ≡ take (at + 1) whole = take_next whole (take at whole) _ at v refl there refl in
    let counts : still_in (take (at + 1) whole) ≡ still_in (take at whole) + one_in v = ap still_in (sym more) ∙ still_push (take at whole) v in
    let one_or_none : one ≤ 1 = counted_few (is_gone v) one counted in
    record {
      done = take_more_set now at v less ∙ (ap (λ (z : List Standing). z ++ v ∷ []) h.done ∙ more);
      rest = drop-set-lt (at + 1) now at v (omega arith) ∙ drop_more_same now old at h.rest;
      count = ap (λ (n : ℕ). n + one) h.count ∙ (ap (λ (n : ℕ). still_in (take at whole) + n) counted ∙ sym counts);
      few = (let f = h.few in omega (arith, f, one_or_none));
      full = length-set now at v ∙ h.full;
    }
  where
    counted_few : (gone : Bool) (one : ℕ) → one ≡ (if gone then 0 else 1) → one ≤ 1
    counted_few true one e = omega arith
    counted_few false one e = omega arith

pub leave_whole : (at : ℕ) (old : List Standing) (table : List (List Choice)) (seats : List (Option Seat)) (new : List Standing) (still : ℕ)
    → length old ≤ at → length table ≡ length old → length seats ≡ length old → LeaveSome at old table seats new still → new ≡ after_cuts (standings old table) seats
leave_whole at old table seats new still end long given h =
    let size = standings_length old table long in
    let all = after_length (standings old table) seats (given ∙ sym size) in
    let full = h.full in
    sym (take_all at new (omega (arith, full, end))) ∙ (h.done ∙ take_all at (after_cuts (standings old table) seats) (omega (arith, all, size, end)))

-- one more is left
pub leave_more : (at : ℕ) (old : List Standing) (table : List (List Choice)) (seats : List (Option Seat)) (now : List Standing) (still : ℕ) (e s : Standing) (seat : Option Seat) (v : Standing) (one : ℕ)
    → LeaveSome at old table seats now still → at < length old → option_map (stands (get_or now at e)) (slice_get table at) ≡ Some s → slice_get seats at ≡ Some seat → v ≡ after_cut s seat → one ≡ one_in v
    → LeaveSome (at + 1) old table seats (slice_set now at v) (still + one)
leave_more at old table seats now still e s seat v one h less stood given cut counted =
    let full = h.full in
    let here = slice_get-get_or now at e (omega (arith, full, less)) in
    let next = leave_next at old table seats now still (get_or now at e) s seat one h here stood given (counted ∙ ap one_in cut) in
    subst (λ (z : Standing). LeaveSome (at + 1) old table seats (slice_set now at z) (still + one)) (sym cut) next
