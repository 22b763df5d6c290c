-- The entries of lists, and what their marks and misses say of the round's text.
use Rattle.std.proofs.Common.{◌≡◌, ◌<◌, ◌+◌, ◌⊎◌, inl, inr, ℕ, zero, suc, Bool, true, false, List, [], ◌∷◌, ◌++◌, Option, Some, None, length, take, drop, append-nil, append_assoc, arith, refl, sym, ap, ◌∙◌, subst, ◌==◌}
use Rattle.std.specs.Prelude.{IsTrue, option_map, slice_get}
use Rattle.std.proofs.lemmas.Bool.{cases_Bool, eqb-false, eqb-true}
use Rattle.std.proofs.lemmas.List.{length-map, take_more, length-take-le}
use Rattle.std.proofs.lemmas.Option.{get_or_from_slice_get, same_Some, slice_get-map, slice_get_within}
use Rattle.office_base.proofs.SeatKinds.{one_seat_kind}
use Rattle.office_base.specs.CategorySteps.{all_steps}
use Rattle.office_base.specs.Lists.{IsAmong}
use Rattle.office_base.specs.SeatKinds.{seat_kind_number}
use Rattle.office_base.specs.declared.seat.Seat.{Seat}
use Rattle.office_base.specs.declared.person.Person.{Person}
use Rattle.office_base.specs.declared.seat.SeatKind.{SeatKind}
use Rattle.office_base.specs.declared.seat.SeatKind.TheVariants.{Kept, Under}
use Rattle.office_base.specs.declared.step.StepKind.{StepKind}
use Rattle.office_base.proofs.Lists.{there_is, among_left, among_right}
use Rattle.allocations.specs.Market.{seat_at}
use Rattle.list_audit.specs.Clauses.{list_of_step}
use Rattle.programme_lists.specs.declared.programme.Programme.{Programme}
use Rattle.rank_lists.specs.Register.{row_of}
use Rattle.programme_lists.proofs.Parts.{any_step}
use Rattle.round_laws.proofs.People.{row_at}
use Rattle.office_moves.specs.Facts.{IsSound, SeasonFacts}
use Rattle.list_texts.specs.declared.lists.ListRead.{ListRead}
use Rattle.audit_rules.specs.Cut.{Agree, Differ, is_named, lists_at, named_for, seat_given}
use Rattle.audit_rules.specs.Papers.{rows_after, seat_told, seats_told}
use Rattle.audit_rules.proofs.Agreeing.{named_by_id, somebody_named}
use Rattle.audit_rules.specs.AtCut.{IsAtCut, Setting}
use Rattle.audit_rules.specs.Comes.{AllListed, AreLists, HoldOn, told_by}
use Rattle.audit_rules.specs.Entries.{AreMarked, AreMarking, IsFirstMiss, IsMiss, IsWrong, entries_from, of_kind, of_kinds, of_programme, of_step}
use Rattle.audit_rules.specs.declared.entries.Entry.{Entry}
use Rattle.audit_rules.specs.declared.stand.Stand.{Stand}
use Rattle.seat_matrix.specs.Matrix.{SeatTable}
use Rattle.audit_rules.specs.declared.unlisted.Miss.{Miss}
use Rattle.audit_rules.proofs.SeatsOfRows.{stands}

-- ---- entries

abbrev entry_of : ℕ → SeatKind → Person → Entry
entry_of p kind person = record { seat = record { prog = record { 0 = p }; step = kind }; cand = person.id }

into_step : (p : ℕ) (kind : StepKind) (person : Person) (people : List Person) → IsAmong person people → IsAmong (entry_of p (Under kind) person) (of_step p kind people)
into_step p kind person [] h = absurd h
into_step p kind person (other ∷ people) h = elim h [ inl e ↦ inl (ap (entry_of p (Under kind)) e) | inr later ↦ inr (into_step p kind person people later) ]

from_step : (p : ℕ) (kind : StepKind) (entry : Entry) (people : List Person) → IsAmong entry (of_step p kind people) → (person : Person) × IsAmong person people × (entry ≡ entry_of p (Under kind) person)
from_step p kind entry [] h = absurd h
from_step p kind entry (other ∷ people) h = elim h [
  | inl e ↦ (other, inl refl, e)
  | inr later ↦ let rest = from_step p kind entry people later in (rest.0, inr rest.1, rest.2)
]

either : {X : Type 0} (x : X) (xs ys : List X) → IsAmong x (xs ++ ys) → IsAmong x xs ⊎ IsAmong x ys
either x [] ys h = inr h
either x (y ∷ xs) ys h = elim h [ inl e ↦ inl (inl e) | inr later ↦ elim (either x xs ys later) [ inl a ↦ inl (inr a) | inr b ↦ inr b ] ]

-- the entries of one step more
pub step_more : (p : ℕ) (programme : Programme) (items new : List Entry) (kinds : List StepKind) (i : ℕ) (kind : StepKind) → slice_get kinds i ≡ Some kind → new ≡ items ++ of_kind p programme kind
    → new ++ of_kinds p programme (drop (suc i) kinds) ≡ items ++ of_kinds p programme (drop i kinds)
step_more p programme items new [] i kind at more = absurd (cc)
step_more p programme items new (first ∷ kinds) zero kind at more =
    let rest : List Entry = of_kinds p programme kinds in
    let same : first ≡ kind = cc in
    ap (λ l. l ++ rest) more ∙ (append_assoc items (of_kind p programme kind) rest ∙ ap (λ (k : StepKind). items ++ (of_kind p programme k ++ rest)) (sym same))
step_more p programme items new (first ∷ kinds) (suc i) kind at more = step_more p programme items new kinds i kind at more

into_kinds : (p : ℕ) (programme : Programme) (kinds : List StepKind) (kind : StepKind) (entry : Entry) → IsAmong kind kinds → IsAmong entry (of_kind p programme kind) → IsAmong entry (of_kinds p programme kinds)
into_kinds p programme [] kind entry there h = absurd there
into_kinds p programme (first ∷ kinds) kind entry there h = elim there [
  | inl same ↦ among_left entry (of_kind p programme first) _ (subst (λ k. IsAmong entry (of_kind p programme k)) same h)
  | inr later ↦ among_right entry (of_kind p programme first) _ (into_kinds p programme kinds kind entry later h)
]

into_programme : (p : ℕ) (programme : Programme) (kind : StepKind) (entry : Entry) → IsAmong entry (of_kind p programme kind) → IsAmong entry (of_programme p programme)
into_programme p programme kind entry h = into_kinds p programme all_steps kind entry (any_step kind) h

from_kinds : (p : ℕ) (programme : Programme) (kinds : List StepKind) (entry : Entry) → IsAmong entry (of_kinds p programme kinds) → (kind : StepKind) × IsAmong entry (of_kind p programme kind)
from_kinds p programme [] entry h = absurd h
from_kinds p programme (first ∷ kinds) entry h = elim (either entry (of_kind p programme first) _ h) [ inl here ↦ (first, here) | inr later ↦ from_kinds p programme kinds entry later ]

from_programme : (p : ℕ) (programme : Programme) (entry : Entry) → IsAmong entry (of_programme p programme) → (kind : StepKind) × IsAmong entry (of_kind p programme kind)
from_programme p programme entry h = from_kinds p programme all_steps entry h

into_all : (q p : ℕ) (programmes : List Programme) (programme : Programme) (entry : Entry) → slice_get programmes p ≡ Some programme → IsAmong entry (of_programme (q + p) programme)
    → IsAmong entry (entries_from q programmes)
into_all q p [] programme entry there h = absurd (cc)
into_all q zero (first ∷ programmes) programme entry there h =
    let same : programme ≡ first = sym (same_Some first programme there) in
    let number : q + 0 ≡ q = omega arith in
    among_left entry (of_programme q first) _ (subst (λ (x : Programme). IsAmong entry (of_programme q x)) same (subst (λ (n : ℕ). IsAmong entry (of_programme n programme)) number h))
into_all q (suc p) (first ∷ programmes) programme entry there h =
    let number : q + suc p ≡ suc q + p = omega arith in
    among_right entry (of_programme q first) _ (into_all (suc q) p programmes programme entry there (subst (λ (n : ℕ). IsAmong entry (of_programme n programme)) number h))

from_all : (q : ℕ) (programmes : List Programme) (entry : Entry) → IsAmong entry (entries_from q programmes)
    → (p : ℕ) × (programme : Programme) × (slice_get programmes p ≡ Some programme) × IsAmong entry (of_programme (q + p) programme)
from_all q [] entry h = absurd h
from_all q (first ∷ programmes) entry h = elim (either entry (of_programme q first) _ h) [
  | inl here ↦ (0, first, refl, (let number : q ≡ q + 0 = omega arith in subst (λ (n : ℕ). IsAmong entry (of_programme n first)) number here))
  | inr later ↦
      let rest = from_all (suc q) programmes entry later in
      (suc rest.0, rest.1, rest.2, (let number : suc q + rest.0 ≡ q + suc rest.0 = omega arith in subst (λ (n : ℕ). IsAmong entry (of_programme n rest.1)) number rest.3))
]

entries_append : (p : ℕ) (some : List Programme) (programme : Programme) → entries_from p (some ++ programme ∷ []) ≡ entries_from p some ++ of_programme (p + length some) programme
entries_append p [] programme = append-nil (of_programme p programme) ∙ ap (λ (n : ℕ). of_programme n programme) (let e : p ≡ p + 0 = omega arith in e)
entries_append p (first ∷ some) programme =
    let number : suc p + length some ≡ p + suc (length some) = omega arith in
    ap (λ (z : List Entry). of_programme p first ++ z) (entries_append (suc p) some programme ∙ ap (λ (n : ℕ). entries_from (suc p) some ++ of_programme n programme) number)
    ∙ sym (append_assoc (of_programme p first) (entries_from (suc p) some) (of_programme (p + suc (length some)) programme))

-- with those of one programme more
pub entries_more : (lists : List ListRead) (p : ℕ) (read : ListRead) (old new : List Entry) → slice_get lists p ≡ Some read → old ≡ entries_from 0 (take p (told_by lists)) → new ≡ old ++ of_programme p read.programme
    → new ≡ entries_from 0 (take (p + 1) (told_by lists))
entries_more lists p read old new there so made =
    let told : slice_get (told_by lists) p ≡ Some read.programme = slice_get-map (λ (r : ListRead). r.programme) lists p ∙ ap (λ (o : Option ListRead). option_map (λ (r : ListRead). r.programme) o) there in
    let less = slice_get_within (told_by lists) p read.programme told in
    let more : take (p + 1) (told_by lists) ≡ take p (told_by lists) ++ read.programme ∷ [] =
    take_more (told_by lists) p read.programme less ∙ ap (λ (z : Programme). take p (told_by lists) ++ z ∷ []) (get_or_from_slice_get (told_by lists) p read.programme read.programme told) in
    let size : 0 + length (take p (told_by lists)) ≡ p = (let e = length-take-le p (told_by lists) (omega (arith, less)) in omega (arith, e)) in
    made ∙ (ap (λ (z : List Entry). z ++ of_programme p read.programme) so
    ∙ (ap (λ (n : ℕ). entries_from 0 (take p (told_by lists)) ++ of_programme n read.programme) (sym size)
    ∙ (sym (entries_append 0 (take p (told_by lists)) read.programme) ∙ ap (entries_from 0) (sym more))))

-- an entry of the lists
record IsEntry (programmes : List Programme) (entry : Entry) : Type 0 where
  p : ℕ
  programme : Programme
  there : slice_get programmes p ≡ Some programme
  kind : StepKind
  person : Person
  named : IsAmong person (list_of_step programme kind).admitted
  is : entry ≡ entry_of p (Under kind) person

is_entry : (programmes : List Programme) (entry : Entry) → IsAmong entry (entries_from 0 programmes) → IsEntry programmes entry
is_entry programmes entry h =
    let all = from_all 0 programmes entry h in
    let kind = from_programme (0 + all.0) all.1 entry all.3 in
    let who = from_step (0 + all.0) kind.0 entry (list_of_step all.1 kind.0).admitted kind.1 in
    let number : 0 + all.0 ≡ all.0 = omega arith in
    record { p = all.0; programme = all.1; there = all.2; kind = kind.0; person = who.0; named = who.1; is = who.2 ∙ ap (λ (n : ℕ). entry_of n (Under kind.0) who.0) number }

to_entry : (programmes : List Programme) (p : ℕ) (programme : Programme) (kind : SeatKind) (person : Person) → slice_get programmes p ≡ Some programme → IsAmong person (named_for programme kind)
    → IsAmong (entry_of p kind person) (entries_from 0 programmes)
to_entry programmes p programme (Under kind) person there h =
    let number : p ≡ 0 + p = omega arith in
    into_all 0 p programmes programme (entry_of p (Under kind) person) there
    (into_programme (0 + p) programme kind (entry_of p (Under kind) person)
    (subst (λ (n : ℕ). IsAmong (entry_of p (Under kind) person) (of_kind n programme kind)) number (into_step p kind person (list_of_step programme kind).admitted h)))
to_entry programmes p programme Kept person there h = absurd h

-- ---- seats are the same or not

seat_decides : (o : Option Seat) (seat : Seat) → (o ≡ Some seat) ⊎ (o ≡ Some seat → ⊥)
seat_decides None seat = inr (λ e. let wrong : None ≡ Some seat = e in cc)
seat_decides (Some other) seat = elim (cases_Bool (other.prog.0 == seat.prog.0)) [
  | inl e ↦ elim (cases_Bool (seat_kind_number other.step == seat_kind_number seat.step)) [
    | inl f ↦ inl (
        let prog : seat_at other.prog.0 other.step ≡ seat_at seat.prog.0 other.step = ap (λ (n : ℕ). seat_at n other.step) (eqb-true other.prog.0 seat.prog.0 e) in
        let step : seat_at seat.prog.0 other.step ≡ seat_at seat.prog.0 seat.step =
        ap (λ (k : SeatKind). seat_at seat.prog.0 k) (one_seat_kind other.step seat.step (eqb-true (seat_kind_number other.step) (seat_kind_number seat.step) f)) in
        ap Some (prog ∙ step))
    | inr f ↦ inr (λ same. eqb-false (seat_kind_number other.step) (seat_kind_number seat.step) f (ap (λ (s : Seat). seat_kind_number s.step) (same_Some other seat same)))
  ]
  | inr e ↦ inr (λ same. eqb-false other.prog.0 seat.prog.0 e (ap (λ (s : Seat). s.prog.0) (same_Some other seat same)))
]

-- ---- at a cut

-- what is known once all entries and seats were walked
pub record Walked (facts : SeasonFacts) (at : Setting) (seats : List (Option Seat)) (lists : List ListRead) (marks : List Bool) (first : Option Miss) : Type 0 where
  pub sound : IsSound facts
  pub seats_are : seats ≡ seats_told (rows_after at.papers at.state.now) facts.people
  pub lists_are : AreLists facts at lists
  pub hold : HoldOn facts at
  pub marked : AreMarked facts.people seats (entries_from 0 (told_by lists)) marks
  pub least : IsFirstMiss (IsMiss facts.people seats (entries_from 0 (told_by lists)) marks (length lists) (length seats)) first

abbrev all_of : List ListRead → List Entry
all_of lists = entries_from 0 (told_by lists)

seat_there : (facts : SeasonFacts) (at : Setting) (seats : List (Option Seat)) (k : ℕ) (person : Person) → seats ≡ seats_told (rows_after at.papers at.state.now) facts.people → slice_get facts.people k ≡ Some person
    → slice_get seats k ≡ Some (seat_given at.papers at.state person.id.0)
seat_there facts at seats k person same there =
    ap (λ (z : List (Option Seat)). slice_get z k) same
    ∙ (slice_get-map (λ (p : Person). seat_told (rows_after at.papers at.state.now) p.id.0) facts.people k ∙ ap (λ (o : Option Person). option_map (λ (p : Person). seat_told (rows_after at.papers at.state.now) p.id.0) o) there)

list_is : (facts : SeasonFacts) (at : Setting) (lists : List ListRead) (p : ℕ) → AreLists facts at lists → lists_at facts at.papers at.state p ≡ slice_get (told_by lists) p
list_is facts at lists p are = ap (λ (z : List Programme). slice_get z p) (sym are.same)

bool_at : (marks : List Bool) (k : ℕ) → k < length marks → (slice_get marks k ≡ Some true) ⊎ (slice_get marks k ≡ Some false)
bool_at [] k less = absurd (omega (arith, less))
bool_at (true ∷ marks) zero less = inl refl
bool_at (false ∷ marks) zero less = inr refl
bool_at (b ∷ marks) (suc k) less = bool_at marks k (omega (arith, less))

-- the walk of a cut
pub walk_is : (facts : SeasonFacts) (at : Setting) (matrix : SeatTable) (all : List Stand) (seats : List (Option Seat)) (lists : List ListRead) (entries : List Entry) (new marks : List Bool) (wrong first : Option Miss)
    → IsAtCut facts at matrix all seats → AreLists facts at lists → HoldOn facts at → entries ≡ all_of lists → AreMarking facts.people seats entries new wrong → marks ≡ new
    → (IsFirstMiss (IsWrong facts.people seats entries) wrong → IsFirstMiss (IsMiss facts.people seats entries marks (length lists) (length seats)) first) → Walked facts at seats lists marks first
walk_is facts at matrix all seats lists entries new marks wrong first c are hold same marking made least = record {
  sound = c.sound;
  seats_are = c.seats_are;
  lists_are = are;
  hold = hold;
  marked = subst (λ (z : List Entry). AreMarked facts.people seats z marks) same (subst (AreMarked facts.people seats entries) (sym made) marking.marked);
  least = subst (λ (z : List Entry). IsFirstMiss (IsMiss facts.people seats z marks (length lists) (length seats)) first) same (least marking.wrong);
}

-- on a candidate who is no miss, the lists and the round's text agree
agree : (facts : SeasonFacts) (at : Setting) (seats : List (Option Seat)) (lists : List ListRead) (marks : List Bool) (first : Option Miss) (p k : ℕ) (programme : Programme) (person : Person)
    → Walked facts at seats lists marks first → slice_get (told_by lists) p ≡ Some programme → slice_get facts.people k ≡ Some person
    → (IsMiss facts.people seats (all_of lists) marks (length lists) (length seats) p k → ⊥) → Agree at.papers at.state p programme person
agree facts at seats lists marks first p k programme person w there who none kind = (
  (λ named.
      let some = somebody_named person.id.0 (named_for programme kind) named in
      let entry = entry_of p kind some.0 in
      let place : row_of some.0.id.0 facts.people ≡ Some k = ap (λ (n : ℕ). row_of n facts.people) some.2 ∙ row_at facts.people k person w.sound.ranks.rising who in
      let has = seat_there facts at seats k person w.seats_are who in
      elim (seat_decides (seat_given at.papers at.state person.id.0) (seat_at p kind)) [
        | inl same ↦ same
        | inr other ↦ absurd (none (inl (
          entry,
          to_entry (told_by lists) p programme kind some.0 there some.1,
          refl,
          place,
          λ e. other (same_Some (seat_given at.papers at.state person.id.0) (Some (seat_at p kind)) (sym has ∙ e)),
        )))
      ]),
  (λ given.
      let has : slice_get seats k ≡ Some (Some (seat_at p kind)) = seat_there facts at seats k person w.seats_are who ∙ ap Some given in
      let full = w.marked.full in
      let inside = slice_get_within facts.people k person who in
      elim (bool_at marks k (omega (arith, full, inside))) [
        | inl yes' ↦
            let right = w.marked.right k yes' in
            let e = is_entry (told_by lists) right.0 right.1 in
            let seat : right.0.seat ≡ seat_at p kind = (let a : Some (Some right.0.seat) ≡ Some (Some (seat_at p kind)) = sym right.3 ∙ has in cc) in
            let own : seat_at e.p (Under e.kind) ≡ seat_at p kind = ap (λ (x : Entry). x.seat) (sym e.is) ∙ seat in
            let prog : e.p ≡ p = ap (λ (s : Seat). s.prog.0) own in
            let step : Under e.kind ≡ kind = ap (λ (s : Seat). s.step) own in
            let same : e.programme ≡ programme = same_Some e.programme programme (sym e.there ∙ (ap (slice_get (told_by lists)) prog ∙ there)) in
            let stood = stands right.0.cand.0 facts.people k right.2 in
            let one : person ≡ stood.0 = same_Some person stood.0 (sym who ∙ stood.1) in
            let id : e.person.id.0 ≡ person.id.0 = ap (λ (x : Entry). x.cand.0) (sym e.is) ∙ (sym stood.2 ∙ ap (λ (x : Person). x.id.0) (sym one)) in
            let named : is_named e.person.id.0 (named_for programme kind) ≡ true =
            named_by_id e.person (named_for programme kind)
            (subst (λ (x : SeatKind). IsAmong e.person (named_for programme x)) step (subst (λ (x : Programme). IsAmong e.person (list_of_step x e.kind).admitted) same e.named)) in
            subst (λ (n : ℕ). IsTrue (is_named n (named_for programme kind))) id named
        | inr no' ↦ absurd (none (inr (
          seat_at p kind,
          slice_get_within seats k (Some (seat_at p kind)) has,
          has,
          refl,
          (let a = slice_get_within (told_by lists) p programme there in let b = length-map lists (λ (x : ListRead). x.programme) in omega (arith, a, b)),
          no',
        )))
      ]),
)

-- on a candidate who is a miss, the lists and the round's text differ
record IsDifferent (facts : SeasonFacts) (at : Setting) (p k : ℕ) : Type 0 where
  programme : Programme
  there : lists_at facts at.papers at.state p ≡ Some programme
  person : Person
  who : slice_get facts.people k ≡ Some person
  differs : Agree at.papers at.state p programme person → ⊥

differ : (facts : SeasonFacts) (at : Setting) (seats : List (Option Seat)) (lists : List ListRead) (marks : List Bool) (first : Option Miss) (p k : ℕ) → Walked facts at seats lists marks first
    → IsMiss facts.people seats (all_of lists) marks (length lists) (length seats) p k → IsDifferent facts at p k
differ facts at seats lists marks first p k w (inl wrong) =
    let entry = wrong.0 in
    let e = is_entry (told_by lists) entry wrong.1 in
    let prog : e.p ≡ p = ap (λ (x : Entry). x.seat.prog.0) (sym e.is) ∙ wrong.2 in
    let stood = stands entry.cand.0 facts.people k wrong.3 in
    let there : slice_get (told_by lists) p ≡ Some e.programme = ap (slice_get (told_by lists)) (sym prog) ∙ e.there in
    let id : e.person.id.0 ≡ stood.0.id.0 = ap (λ (x : Entry). x.cand.0) (sym e.is) ∙ sym stood.2 in
    record {
      programme = e.programme;
      there = list_is facts at lists p w.lists_are ∙ there;
      person = stood.0;
      who = stood.1;
      differs = λ agrees.
          let named : IsTrue (is_named stood.0.id.0 (list_of_step e.programme e.kind).admitted) =
          subst (λ (n : ℕ). IsTrue (is_named n (list_of_step e.programme e.kind).admitted)) id (named_by_id e.person (list_of_step e.programme e.kind).admitted e.named) in
          let given = (agrees (Under e.kind)).0 named in
          let seat : seat_at p (Under e.kind) ≡ entry.seat = ap (λ (n : ℕ). seat_at n (Under e.kind)) (sym prog) ∙ ap (λ (x : Entry). x.seat) (sym e.is) in
          wrong.4 (seat_there facts at seats k stood.0 w.seats_are stood.1 ∙ (ap Some given ∙ ap (λ (s : Seat). Some (Some s)) seat));
    }
differ facts at seats lists marks first p k w (inr missed) =
    let seat = missed.0 in
    let size = length-map lists (λ (x : ListRead). x.programme) in
    let found = there_is (told_by lists) p (let less = missed.4 in omega (arith, less, size)) in
    let long : length seats ≡ length facts.people = ap length w.seats_are ∙ length-map facts.people (λ (q : Person). seat_told (rows_after at.papers at.state.now) q.id.0) in
    let who = there_is facts.people k (let less = missed.1 in omega (arith, less, long)) in
    record {
      programme = found.0;
      there = list_is facts at lists p w.lists_are ∙ found.1;
      person = who.0;
      who = who.1;
      differs = λ agrees.
          let has = seat_there facts at seats k who.0 w.seats_are who.1 in
          let given : seat_given at.papers at.state who.0.id.0 ≡ Some seat = same_Some (seat_given at.papers at.state who.0.id.0) (Some seat) (sym has ∙ missed.2) in
          let mine : seat ≡ seat_at p seat.step = ap (λ (n : ℕ). seat_at n seat.step) missed.3 in
          let named = (agrees seat.step).1 (given ∙ ap Some mine) in
          let some = somebody_named who.0.id.0 (named_for found.0 seat.step) named in
          let place : row_of some.0.id.0 facts.people ≡ Some k = ap (λ (n : ℕ). row_of n facts.people) some.2 ∙ row_at facts.people k who.0 w.sound.ranks.rising who.1 in
          let marked = w.marked.marked k (entry_of p seat.step some.0, to_entry (told_by lists) p found.0 seat.step some.0 found.1 some.1, place, missed.2 ∙ ap (λ (s : Seat). Some (Some s)) mine) in
          let no = missed.5 in
          let wrong : Some true ≡ Some false = sym marked ∙ no in
          cc;
    }

-- what the walk says
pub walked : (facts : SeasonFacts) (at : Setting) (seats : List (Option Seat)) (lists : List ListRead) (marks : List Bool) → Walked facts at seats lists marks None → AllListed facts at
walked facts at seats lists marks w p programme there k person who =
    agree facts at seats lists marks None p k programme person w (sym (list_is facts at lists p w.lists_are) ∙ there) who (λ miss. w.least p k miss)

pub walked_to : (facts : SeasonFacts) (at : Setting) (seats : List (Option Seat)) (lists : List ListRead) (marks : List Bool) (miss : Miss) (person : Person) → Walked facts at seats lists marks (Some miss)
    → slice_get facts.people miss.at ≡ Some person → Differ facts at.papers at.state miss.prog person.id
walked_to facts at seats lists marks miss person w here =
    let d = differ facts at seats lists marks (Some miss) miss.prog.0 miss.at w w.least.0 in
    let one : person ≡ d.person = same_Some person d.person (sym here ∙ d.who) in
    let there' = sym (list_is facts at lists miss.prog.0 w.lists_are) ∙ d.there in
    record {
      sought = w.hold.sought;
      stayed = w.hold.stayed;
      before = λ q less programme there k other who.
          agree facts at seats lists marks (Some miss) q k programme other w (sym (list_is facts at lists q w.lists_are) ∙ there) who (λ m. w.least.1 q k m (inl less));
      programme = d.programme;
      there = d.there;
      first = record {
        at = miss.at;
        person = person;
        there = here;
        is = refl;
        earlier = λ k other less who. agree facts at seats lists marks (Some miss) miss.prog.0 k d.programme other w there' who (λ m. w.least.1 miss.prog.0 k m (inr (refl, less)));
        fails = subst (λ (x : Person). Agree at.papers at.state miss.prog.0 d.programme x → ⊥) (sym one) d.differs;
      };
    }

-- a miss is somebody of the register
pub miss_within : (facts : SeasonFacts) (at : Setting) (seats : List (Option Seat)) (lists : List ListRead) (marks : List Bool) (miss : Miss) → Walked facts at seats lists marks (Some miss) → miss.at < length facts.people
miss_within facts at seats lists marks miss w =
    let d = differ facts at seats lists marks (Some miss) miss.prog.0 miss.at w w.least.0 in
    slice_get_within facts.people miss.at d.person d.who
