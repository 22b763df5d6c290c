-- The seats that are kept beyond those of all steps: each is that of a person who tried the programme last and is guaranteed a seat of it.
use Rattle.std.proofs.Common.{◌≡◌, ◌≢◌, ◌<◌, ◌≤◌, ◌+◌, ◌==◌, inl, inr, ℕ, zero, suc, true, false, List, [], ◌∷◌, Option, Some, None, get_or, length, arith, refl, sym, ap, ◌∙◌, subst, eq-eqb, if◌then◌else◌}
use Rattle.std.specs.Prelude.{slice_get}
use Rattle.std.proofs.lemmas.Bool.{cond-false, cond-true, eqb-true}
use Rattle.std.proofs.lemmas.Bool.Decides.{eqb_tells}
use Rattle.std.proofs.lemmas.Option.{slice_get-get_or, slice_get_within}
use Rattle.office_base.specs.declared.person.ProgId.{ProgId}
use Rattle.office_base.specs.declared.seat.Seat.{Seat}
use Rattle.office_base.specs.declared.seat.SeatKind.TheVariants.{Kept}
use Rattle.office_base.proofs.Lists.{all_at, there_is}
use Rattle.office_base.proofs.People.{at_person-get}
use Rattle.allocations.specs.Course.{AreSeatsOf}
use Rattle.allocations.specs.Market.{Seeker, place_of, seat_at}
use Rattle.allocations.specs.Rule.{ChoosesWell, Rule}
use Rattle.allocations.proofs.Places.{place_read}
use Rattle.kept_seats.specs.Kept.{Guarantees}
use Rattle.kept_seats.proofs.Ended.{AreAdded, IsAdded}
use Rattle.rounds.specs.Rule.{MayApplyIn, guarantees, is_programme, steps_of}
use Rattle.apply_engine.specs.Engine.{HasEnded, IsSet, Setting, seekers_in}
use Rattle.apply_engine.specs.Made.{AreInPlace, AreKept, AreTried, kept_seat, or_seat}
use Rattle.apply_engine.proofs.Setting.{length_with, seeker_at}

pub steps_well : (over : Setting) → IsSet over → ChoosesWell (steps_of over.version over.table) (MayApplyIn over.table)
steps_well over set = set.laws.steps over.version over.table set.seats

-- ---- one seat

-- the seat that is kept of this programme, if there is one
kept_of : (list : List ProgId) (n : ℕ) (prog : ProgId) → n ≡ place_of list prog.0 + 1 → kept_seat list n (Some prog) ≡ Some (seat_at prog.0 Kept)
kept_of list n prog last = cond-true (n == place_of list prog.0 + 1) (Some (seat_at prog.0 Kept)) None (eq-eqb n (place_of list prog.0 + 1) last)

-- It is kept, where the programme was tried last.
pub last_is : (list : List ProgId) (n k : ℕ) (prog d : ProgId) → n ≡ k + 1 → n ≤ length list → AreInPlace list → (get_or list k d).0 ≡ prog.0
    → Some (seat_at prog.0 Kept) ≡ kept_seat list n (Some prog)
last_is list n k prog d next within in_place same =
    let at = slice_get-get_or list k d (omega (arith, next, within)) in
    let place = in_place k (get_or list k d) at in
    let last : n ≡ place_of list prog.0 + 1 = (let e = ap (λ p. place_of list p) same in omega (arith, next, place, e)) in
    sym (kept_of list n prog last)

-- And none is, where another one was.
pub last_is_not : (list : List ProgId) (n k : ℕ) (prog d : ProgId) → n ≡ k + 1 → n ≤ length list → (get_or list k d).0 ≢ prog.0 → None ≡ kept_seat list n (Some prog)
last_is_not list n k prog d next within other = elim (eqb_tells n (place_of list prog.0 + 1)) [
  | inl h ↦ absurd (
      let last = h.1 in
      let found = place_read list prog.0 (omega (arith, last, within)) in
      let here : slice_get list k ≡ Some found.0 = subst (λ j. slice_get list j ≡ Some found.0) (omega (arith, last, next)) found.1 in
      let at = slice_get-get_or list k d (omega (arith, next, within)) in
      let same : get_or list k d ≡ found.0 = cc in
      other (ap (λ (z : ProgId). z.0) same ∙ found.2))
  | inr h ↦ sym (cond-false (n == place_of list prog.0 + 1) (Some (seat_at prog.0 Kept)) None h.0)
]

-- A person has what the person had, or a seat that is kept.
is_added : (sure_of : Guarantees) (count n : ℕ) (s : Seeker) (sure : Option ProgId) (first seat : Option Seat) → ((p : ℕ) → sure_of p s.person ≡ is_programme p (Some sure))
    → n ≤ length s.list → ((prog : ProgId) → place_of s.list prog.0 < length s.list → prog.0 < count) → seat ≡ or_seat first (kept_seat s.list n sure) → IsAdded sure_of count s n first seat
is_added sure_of count n s sure (Some held) seat told within below is = record {
  stays = λ other same. is ∙ same;
  added = λ none. absurd (cc);
}
is_added sure_of count n s None None seat told within below is = record {
  stays = λ other same. absurd (cc);
  added = λ none. inr (is, λ p less last holds. let no : false ≡ true = sym (told p) ∙ holds in cc);
}
is_added sure_of count n s (Some prog) None seat told within below is = elim (eqb_tells n (place_of s.list prog.0 + 1)) [
  | inl h ↦ record {
    stays = λ other same. absurd (cc);
    added = λ none. inl (
      prog.0,
      below prog (let last = h.1 in omega (arith, last, within)),
      h.1,
      told prog.0 ∙ eq-eqb prog.0 prog.0 refl,
      is ∙ kept_of s.list n prog h.1,
    );
  }
  | inr h ↦ record {
    stays = λ other same. absurd (cc);
    added = λ none. inr (
      is ∙ cond-false (n == place_of s.list prog.0 + 1) (Some (seat_at prog.0 Kept)) None h.0,
      λ p less last holds.
          let test : prog.0 == p ≡ true = sym (told p) ∙ holds in
          let same : p ≡ prog.0 = sym (eqb-true prog.0 p test) in
          h.1 (last ∙ ap (λ q. place_of s.list q + 1) same),
    );
  }
]

-- a seat that is kept is of a programme of the list
kept_below : (count n : ℕ) (list : List ProgId) (sure : Option ProgId) (seat : Seat) → n ≤ length list → ((prog : ProgId) → place_of list prog.0 < length list → prog.0 < count)
    → kept_seat list n sure ≡ Some seat → seat.prog.0 < count
kept_below count n list None seat within below is = absurd (cc)
kept_below count n list (Some prog) seat within below is = elim (eqb_tells n (place_of list prog.0 + 1)) [
  | inl h ↦
      let same : seat_at prog.0 Kept ≡ seat = (let e = kept_of list n prog h.1 in cc) in
      let prog_is : prog.0 ≡ seat.prog.0 = ap (λ (z : Seat). z.prog.0) same in
      let less = below prog (let last = h.1 in omega (arith, last, within)) in
      omega (arith, prog_is, less)
  | inr h ↦ absurd (let e = cond-false (n == place_of list prog.0 + 1) (Some (seat_at prog.0 Kept)) None h.0 in cc)
]

either_below : (count n : ℕ) (list : List ProgId) (sure : Option ProgId) (first : Option Seat) (seat : Seat) → n ≤ length list → ((prog : ProgId) → place_of list prog.0 < length list → prog.0 < count)
    → ((held : Seat) → first ≡ Some held → held.prog.0 < count) → or_seat first (kept_seat list n sure) ≡ Some seat → seat.prog.0 < count
either_below count n list sure (Some held) seat within below own is = own seat is
either_below count n list sure None seat within below own is = kept_below count n list sure seat within below is

-- ---- all seats

-- the programmes of the lists are of the matrix
list_below : (over : Setting) (i : ℕ) (list : List ProgId) → IsSet over → slice_get over.lists i ≡ Some list → (prog : ProgId) → place_of list prog.0 < length list
    → prog.0 < length over.table.programmes
list_below over i list set at prog less =
    let found = place_read list prog.0 less in
    let below = all_at (λ (z : ProgId). z.0 < length over.table.programmes) list (place_of list prog.0) found.0 (set.below i list at) found.1 in
    let same = found.2 in
    omega (arith, below, same)

module _ (over : Setting) (next : List ℕ) (own seats : List (Option Seat)) (set : IsSet over) (ended : HasEnded over next) (kept : AreKept over.lists over.guaranteed next own seats) where
  -- what stands at the place of one of the people
  record At (i : ℕ) (s : Seeker) (n : ℕ) (first seat : Option Seat) : Type 0 where
    pub sure : Option ProgId
    pub told : (p : ℕ) → guarantees over.people over.guaranteed p s.person ≡ is_programme p (Some sure)
    pub within : n ≤ length s.list
    pub below : (prog : ProgId) → place_of s.list prog.0 < length s.list → prog.0 < length over.table.programmes
    pub is : seat ≡ or_seat first (kept_seat s.list n sure)

  stands : (i n : ℕ) (s : Seeker) (first seat : Option Seat) → slice_get (seekers_in over) i ≡ Some s → slice_get next i ≡ Some n → slice_get own i ≡ Some first → slice_get seats i ≡ Some seat
      → At i s n first seat
  stands i n s first seat there at owns has =
      let row = seeker_at over.people over.lists i s there in
      let less : i < length over.guaranteed = (let short = slice_get_within over.people i s.person row.person_at in let full = set.sure in omega (arith, short, full)) in
      let sure = there_is over.guaranteed i less in
      record {
        sure = sure.0;
        told = λ p. ap (λ o. is_programme p o) (at_person-get over.people over.guaranteed i s.person set.rising row.person_at ∙ sure.1);
        within = ended.underway.within i n s there at;
        below = list_below over i s.list set row.list_at;
        is = let e = kept.each i n s.list sure.0 first row.list_at sure.1 at owns in (let same : seat ≡ or_seat first (kept_seat s.list n sure.0) = cc in same);
      }

  -- They are added to those of the steps.
  pub are_added : AreAdded (guarantees over.people over.guaranteed) (length over.table.programmes) (seekers_in over) next own seats
  are_added i n s first seat there at owns has =
      let x = stands i n s first seat there at owns has in
      is_added (guarantees over.people over.guaranteed) (length over.table.programmes) n s x.sure first seat x.told x.within x.below x.is

  -- And are of programmes of the matrix.
  pub all_below : (rule : Rule) → AreSeatsOf rule (length over.table.programmes) (seekers_in over) next own → (i : ℕ) (seat : Seat) → slice_get seats i ≡ Some (Some seat)
      → seat.prog.0 < length over.table.programmes
  all_below rule firsts i seat has =
      let less : i < length (seekers_in over) = (let short = slice_get_within seats i (Some seat) has in let a = kept.full in let b = firsts.full in omega (arith, short, a, b)) in
      let s = there_is (seekers_in over) i less in
      let n = there_is next i (let full = ended.underway.full in omega (arith, less, full)) in
      let first = there_is own i (let full = firsts.full in omega (arith, less, full)) in
      let x = stands i n.0 s.0 first.0 (Some seat) s.1 n.1 first.1 has in
      either_below (length over.table.programmes) n.0 s.0.list x.sure first.0 seat x.within x.below
      (λ held same. firsts.below i held (first.1 ∙ ap Some same)) (sym x.is)

-- ---- step by step

-- the seats of those before this place are settled, and all others are as they were
pub record KeptTo (lists : List (List ProgId)) (guaranteed : List (Option ProgId)) (next : List ℕ) (own seats : List (Option Seat)) (at : ℕ) : Type 0 where
  pub full : length seats ≡ length own
  pub before : (i n : ℕ) (list : List ProgId) (sure : Option ProgId) (first : Option Seat) → i < at → slice_get lists i ≡ Some list → slice_get guaranteed i ≡ Some sure
      → slice_get next i ≡ Some n → slice_get own i ≡ Some first → slice_get seats i ≡ Some (or_seat first (kept_seat list n sure))
  pub later : (i : ℕ) → at ≤ i → slice_get seats i ≡ slice_get own i
