-- What texts that are due have: how many rounds and lists, and that no list names a person twice.
use Rattle.std.proofs.Common.{◌≡◌, ◌≢◌, ◌<◌, ◌≤◌, ◌+◌, ◌*◌, ◌^◌, ◌&&◌, inl, inr, ℕ, zero, suc, Bool, true, false, cond, eqb, List, [], ◌∷◌, ◌++◌, Option, length, min, refl, sym, ap, subst, ◌∙◌, arith, eq-eqb}
use Rattle.std.proofs.lemmas.Bool.{and_parts, cases_eq, cond-true, cond-false, false≢true, leb-true, ne_eqb}
use Rattle.std.specs.List.{AllByRecursion}
use Rattle.std.specs.Prelude.{nat_le}
use Rattle.office_asks.specs.declared.ask.Request.{Request}
use Rattle.office_base.specs.declared.person.Person.{Person}
use Rattle.office_base.specs.declared.step.StepKind.{StepKind}
use Rattle.programme_lists.specs.declared.programme.StepList.{StepList}
use Rattle.list_texts.specs.Listing.{AreEntries, AreStepLists, Entry, is_listed, persons_of, step_kinds}
use Rattle.list_texts.specs.declared.lists.ListRead.{ListRead}
use Rattle.list_texts.proofs.FreeLemmas.{listed-here, listed-kept}
use Rattle.publish.specs.declared.reads.FinalRead.{FinalRead}
use Rattle.publish.specs.declared.reads.RoundRead.{RoundRead}
use Rattle.seat_matrix.specs.Matrix.{SeatTable}
use Rattle.dossier_file.specs.Due.{IsDueOf, cuts_accepted, due, is_cut_by, lists_due, published_by}
use Rattle.dossier_file.specs.Kept.{AreApart, HasTexts, NamesOnce}
use Rattle.dossier_file.specs.Papers.{ArePapers}
use Rattle.dossier_file.specs.declared.due.Due.{Due}
use Rattle.dossier_file.specs.declared.due.Due.TheVariants.{Round as RoundDue, List as ListDue, Final as FinalDue}
use Rattle.dossier_file.specs.declared.papers.Papers.{Papers}

-- ---- accepted cuts

-- no more cuts are accepted than there are windows
pub cuts_within : (rounds now : ℕ) (script : List Request) → now ≤ rounds + 1 → now + cuts_accepted rounds now script ≤ rounds + 1
cuts_within rounds now [] within = omega (arith, within)
cuts_within rounds now (request ∷ script) within = by (is_cut_by now request.by request.ask && nat_le now rounds) refl (cuts_within rounds (suc now) script) (cuts_within rounds now script within)
  where
    by : (b : Bool) → (is_cut_by now request.by request.ask && nat_le now rounds) ≡ b → (suc now ≤ rounds + 1 → suc now + cuts_accepted rounds (suc now) script ≤ rounds + 1) → now + cuts_accepted rounds now script ≤ rounds + 1
        → now + cond b (suc (cuts_accepted rounds (suc now) script)) (cuts_accepted rounds now script) ≤ rounds + 1
    by true is later here =
        let below = leb-true now rounds (and_parts (is_cut_by now request.by request.ask) (nat_le now rounds) is).1 in
        let more = later (omega (arith, below)) in
        omega (arith, more)
    by false is later here = here

-- ---- texts that can be due

all-append : (table : SeatTable) (xs ys : List Due) → AllByRecursion (IsDueOf table) xs → AllByRecursion (IsDueOf table) ys → AllByRecursion (IsDueOf table) (xs ++ ys)
all-append table [] ys left right = right
all-append table (x ∷ xs) ys left right = (left.0, all-append table xs ys left.1 right)

lists_good : (table : SeatTable) (number count : ℕ) → number < 2 ^ 16 → count ≤ length table.programmes → AllByRecursion (IsDueOf table) (lists_due number count)
lists_good table number zero small few = tt
lists_good table number (suc count) small few =
    all-append table (lists_due number count) (ListDue number (record { 0 = count }) ∷ []) (lists_good table number count small (omega (arith, few))) ((small, omega (arith, few)), tt)

published_good : (table : SeatTable) (rounds window : ℕ) → window ≤ 10 → AllByRecursion (IsDueOf table) (published_by rounds (length table.programmes) window)
published_good table rounds window few = by (eqb window rounds)
  where
    by : (b : Bool) → AllByRecursion (IsDueOf table) (cond b (FinalDue ∷ []) (RoundDue (window + 1) ∷ lists_due (window + 1) (length table.programmes)))
    by true = (tt, tt)
    by false = (omega (arith, few), lists_good table (window + 1) (length table.programmes) (omega (arith, few)) (omega arith))

pub due_good : (table : SeatTable) (rounds cuts : ℕ) → cuts ≤ 11 → AllByRecursion (IsDueOf table) (due rounds (length table.programmes) cuts)
due_good table rounds zero few = tt
due_good table rounds (suc cuts) few =
    all-append table (due rounds (length table.programmes) cuts) (published_by rounds (length table.programmes) cuts) (due_good table rounds cuts (omega (arith, few))) (published_good table rounds cuts (omega (arith, few)))

-- ---- how many there are

-- the rounds among texts that are due
abbrev round_here : Due → ℕ
round_here (RoundDue number) = 1
round_here (ListDue number prog) = 0
round_here FinalDue = 0

abbrev rounds_in : List Due → ℕ
rounds_in [] = 0
rounds_in (x ∷ xs) = round_here x + rounds_in xs

-- the lists among them
abbrev list_here : Due → ℕ
list_here (RoundDue number) = 0
list_here (ListDue number prog) = 1
list_here FinalDue = 0

abbrev lists_in : List Due → ℕ
lists_in [] = 0
lists_in (x ∷ xs) = list_here x + lists_in xs

rounds-append : (xs ys : List Due) → rounds_in (xs ++ ys) ≡ rounds_in xs + rounds_in ys
rounds-append [] ys = omega arith
rounds-append (x ∷ xs) ys = (let h = rounds-append xs ys in omega (arith, h))

lists-append : (xs ys : List Due) → lists_in (xs ++ ys) ≡ lists_in xs + lists_in ys
lists-append [] ys = omega arith
lists-append (x ∷ xs) ys = (let h = lists-append xs ys in omega (arith, h))

no_rounds : (number count : ℕ) → rounds_in (lists_due number count) ≡ 0
no_rounds number zero = refl
no_rounds number (suc count) = (let h = rounds-append (lists_due number count) (ListDue number (record { 0 = count }) ∷ []) in let n = no_rounds number count in omega (arith, h, n))

all_lists : (number count : ℕ) → lists_in (lists_due number count) ≡ count
all_lists number zero = refl
all_lists number (suc count) = (let h = lists-append (lists_due number count) (ListDue number (record { 0 = count }) ∷ []) in let n = all_lists number count in omega (arith, h, n))

-- of the cuts of a season
due_rounds : (rounds programmes cuts : ℕ) → cuts ≤ rounds + 1 → rounds_in (due rounds programmes cuts) ≡ min rounds cuts
due_rounds rounds programmes zero few = omega arith
due_rounds rounds programmes (suc cuts) few =
    let h = rounds-append (due rounds programmes cuts) (published_by rounds programmes cuts) in
    let before = due_rounds rounds programmes cuts (omega (arith, few)) in
    elim (cases_eq cuts rounds) [
      | inl last ↦
          let here : rounds_in (published_by rounds programmes cuts) ≡ 0 =
          ap (λ (z : List Due). rounds_in z) (cond-true (eqb cuts rounds) (FinalDue ∷ []) (RoundDue (cuts + 1) ∷ lists_due (cuts + 1) programmes) (eq-eqb cuts rounds last)) in
          omega (arith, h, before, here, last)
      | inr other ↦
          let here : rounds_in (published_by rounds programmes cuts) ≡ 1 + rounds_in (lists_due (cuts + 1) programmes) =
          ap (λ (z : List Due). rounds_in z) (cond-false (eqb cuts rounds) (FinalDue ∷ []) (RoundDue (cuts + 1) ∷ lists_due (cuts + 1) programmes) (ne_eqb cuts rounds other)) in
          let none = no_rounds (cuts + 1) programmes in
          omega (arith, h, before, here, none, other, few)
    ]

mul_suc : (a b : ℕ) → suc a * b ≡ a * b + b
mul_suc a b = omega arith

due_lists : (rounds programmes cuts : ℕ) → cuts ≤ rounds + 1 → lists_in (due rounds programmes cuts) ≡ min rounds cuts * programmes
due_lists rounds programmes zero few =
    let none : min rounds 0 ≡ 0 = omega arith in
    let nothing : 0 * programmes ≡ 0 = omega arith in
    sym (ap (λ (n : ℕ). n * programmes) none ∙ nothing)
due_lists rounds programmes (suc cuts) few =
    let h = lists-append (due rounds programmes cuts) (published_by rounds programmes cuts) in
    let before = due_lists rounds programmes cuts (omega (arith, few)) in
    elim (cases_eq cuts rounds) [
      | inl last ↦
          let here : lists_in (published_by rounds programmes cuts) ≡ 0 =
          ap (λ (z : List Due). lists_in z) (cond-true (eqb cuts rounds) (FinalDue ∷ []) (RoundDue (cuts + 1) ∷ lists_due (cuts + 1) programmes) (eq-eqb cuts rounds last)) in
          let same : min rounds cuts ≡ min rounds (suc cuts) = omega (arith, last) in
          let to : min rounds cuts * programmes ≡ min rounds (suc cuts) * programmes = ap (λ (n : ℕ). n * programmes) same in
          let sum : lists_in (due rounds programmes (suc cuts)) ≡ lists_in (due rounds programmes cuts) = omega (arith, h, here) in
          sum ∙ (before ∙ to)
      | inr other ↦
          let here : lists_in (published_by rounds programmes cuts) ≡ 0 + lists_in (lists_due (cuts + 1) programmes) =
          ap (λ (z : List Due). lists_in z) (cond-false (eqb cuts rounds) (FinalDue ∷ []) (RoundDue (cuts + 1) ∷ lists_due (cuts + 1) programmes) (ne_eqb cuts rounds other)) in
          let all = all_lists (cuts + 1) programmes in
          let less : min rounds (suc cuts) ≡ suc (min rounds cuts) = omega (arith, other, few) in
          let to : min rounds (suc cuts) * programmes ≡ min rounds cuts * programmes + programmes = ap (λ (n : ℕ). n * programmes) less ∙ mul_suc (min rounds cuts) programmes in
          let sum : lists_in (due rounds programmes (suc cuts)) ≡ lists_in (due rounds programmes cuts) + programmes = omega (arith, h, here, all) in
          sum ∙ (ap (λ (n : ℕ). n + programmes) before ∙ sym to)
    ]

-- ---- no person twice

-- rows to come are of others than those who had one
later_new : (people used : List Person) (entries : List Entry) (id : ℕ) → is_listed id used ≡ true → AreEntries people used entries → AllByRecursion (λ (person : Person). person.id.0 ≡ id → ⊥) (persons_of entries)
later_new people used [] id listed are = tt
later_new people used (entry ∷ entries) id listed are = (
  λ same. false≢true (sym are.0.new ∙ (ap (λ (n : ℕ). is_listed n used) same ∙ listed)),
  later_new people (used ++ entry.0 ∷ []) entries id (listed-kept id used entry.0 listed) are.1,
)

apart_of : (person : Person) (others : List Person) → AllByRecursion (λ (other : Person). other.id.0 ≡ person.id.0 → ⊥) others → AllByRecursion (λ (other : Person). person.id ≢ other.id) others
apart_of person [] all = tt
apart_of person (other ∷ others) all = (λ same. all.0 (ap (λ z. z.0) (sym same)), apart_of person others all.1)

entries_apart : (people used : List Person) (entries : List Entry) → AreEntries people used entries → AreApart (persons_of entries)
entries_apart people used [] are = tt
entries_apart people used (entry ∷ entries) are = (
  apart_of entry.0 (persons_of entries) (later_new people (used ++ entry.0 ∷ []) entries entry.0.id.0 (listed-here used entry.0) are.1),
  entries_apart people (used ++ entry.0 ∷ []) entries are.1,
)

steps_apart : (people : List Person) (kinds : List StepKind) (steps : List StepList) → AreStepLists people kinds steps → AllByRecursion (λ (list : StepList). AreApart list.admitted) steps
steps_apart people [] [] are = tt
steps_apart people [] (list ∷ lists) are = absurd are
steps_apart people (kind ∷ kinds) [] are = absurd are
steps_apart people (kind ∷ kinds) (list ∷ lists) are = (
  subst AreApart (sym are.0.admitted) (entries_apart people [] are.0.entries are.0.are),
  steps_apart people kinds lists are.1,
)

-- ---- what texts have

-- What papers have of texts that are due.
record AreAsDue (dues : List Due) (papers : Papers) : Type 0 where
  rounds : length papers.rounds ≡ rounds_in dues
  lists : length papers.lists ≡ lists_in dues
  once : NamesOnce papers.lists

module _ (table : SeatTable) (people : List Person) (rounds : ℕ) where
  as_due : (dues : List Due) (text : List ℕ) (papers : Papers) → ArePapers table people rounds dues text papers → AreAsDue dues papers
  as_due [] text papers is = subst (AreAsDue []) (sym is.1) (record { rounds = refl; lists = refl; once = tt })
  as_due (RoundDue number ∷ dues) text papers is =
      let more = as_due dues is.rest is.more is.later in
      let sum = more.rounds in
      let none = more.lists in
      subst (AreAsDue (RoundDue number ∷ dues)) (sym is.all) (record { rounds = omega (arith, sum); lists = omega (arith, none); once = more.once })
  as_due (ListDue number prog ∷ dues) text papers is =
      let more = as_due dues is.rest is.more is.later in
      let none = more.rounds in
      let sum = more.lists in
      subst (AreAsDue (ListDue number prog ∷ dues)) (sym is.all) (record { rounds = omega (arith, none); lists = omega (arith, sum); once = (steps_apart people step_kinds is.one.programme.steps is.begins.0.steps, more.once) })
  as_due (FinalDue ∷ dues) text papers is =
      let more = as_due dues is.rest is.more is.later in
      let none = more.rounds in
      let sum = more.lists in
      subst (AreAsDue (FinalDue ∷ dues)) (sym is.all) (record { rounds = omega (arith, none); lists = omega (arith, sum); once = more.once })

  module _ (script : List Request) (reads : List RoundRead) (lists : List ListRead) (last : Option FinalRead) (has : HasTexts table people rounds script reads lists last) where
    cuts : ℕ
    cuts = cuts_accepted rounds 0 script

    all_due : AreAsDue (due rounds (length table.programmes) (cuts_accepted rounds 0 script)) (record { rounds = reads; lists = lists; last = last })
    all_due = as_due (due rounds (length table.programmes) (cuts_accepted rounds 0 script)) has.0 (record { rounds = reads; lists = lists; last = last }) has.1

    few : cuts_accepted rounds 0 script ≤ rounds + 1
    few = (let h = cuts_within rounds 0 script (omega arith) in omega (arith, h))

    pub rounds_whole : length reads ≡ min rounds (cuts_accepted rounds 0 script)
    rounds_whole = all_due.rounds ∙ due_rounds rounds (length table.programmes) (cuts_accepted rounds 0 script) few

    pub lists_whole : length lists ≡ length reads * length table.programmes
    lists_whole = all_due.lists ∙ (due_lists rounds (length table.programmes) (cuts_accepted rounds 0 script) few ∙ ap (λ (n : ℕ). n * length table.programmes) (sym rounds_whole))

    pub named_once : NamesOnce lists
    named_once = all_due.once
