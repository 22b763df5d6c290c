use Rattle.std.proofs.Common.{◌≡◌, ◌+◌, ◌++◌, ℕ, List, [], ◌∷◌, length, drop, sym, ap, subst, ◌∙◌, arith}
use Rattle.std.specs.BTreeSet.{contains}
use Rattle.std.specs.Ordering.{nat_cmp}
use Rattle.office_base.specs.declared.person.Person.{Person}
use Rattle.step_command.specs.declared.fault.SheetFault.{SheetFault}
use Rattle.step_command.specs.Reading.{AreRead, rest_rows, rest_numbers}
use Rattle.step_command.specs.Sheet.{person_of}
use Rattle.step_command.proofs.CandidateLemmas.{fault-read, read_more, left_more, all_read, all_people}
use Rattle.step_command.proofs.sheet.candidates.Goals as goal

pub returns-in-Err-clause-fault : goal.returns-in-Err-clause-fault
returns-in-Err-clause-fault c =
    let rows = rest_rows c.args.bytes.now in
    let numbers = rest_numbers c.args.number c.args.bytes.now in
    let people = c.loop-at.people in
    let left : drop (length people) rows ≡ c.in-Some.line.now ∷ rest_rows c.in-Some.after.now = c.loop-at.invariant.left ∙ c.in-Some.ensures.some in
    let told : drop (length people) numbers ≡ c.in-Some.at ∷ rest_numbers (c.in-Some.at + 1) c.in-Some.after.now = c.loop-at.invariant.numbers ∙ c.in-Some.ensures.number in
    let wrong = rw c.len-before.ensures at c.in-Err.ensures.fault in
    let fault : SheetFault = record { line = c.in-Some.at; kind = c.in-Err.kind } in
    fault-read rows numbers people (contains nat_cmp c.loop-at.known) c.in-Some.line.now (rest_rows c.in-Some.after.now) fault (rest_numbers (c.in-Some.at + 1) c.in-Some.after.now) c.loop-at.invariant.read left told wrong

pub loop-at-preserved : goal.loop-at-preserved
loop-at-preserved c =
    let rows = rest_rows c.args.bytes.now in
    let numbers = rest_numbers c.args.number c.args.bytes.now in
    let people = c.loop-at.people in
    let cand : ℕ × ℕ = (c.in-Ok.id.0, c.in-Ok.traits.0) in
    let left : drop (length people) rows ≡ c.in-Some.line.now ∷ rest_rows c.in-Some.after.now = c.loop-at.invariant.left ∙ c.in-Some.ensures.some in
    let told : drop (length people) numbers ≡ c.in-Some.at ∷ rest_numbers (c.in-Some.at + 1) c.in-Some.after.now = c.loop-at.invariant.numbers ∙ c.in-Some.ensures.number in
    let right = rw c.len-before.ensures at c.in-Ok.ensures.right in
    let place : c.person.result ≡ person_of (length people + 1) cand = c.person.ensures ∙ ap (λ (n : ℕ). person_of (n + 1) cand) c.len-before.ensures in
    let pushed : c.push.new.self ≡ people ++ person_of (length people + 1) cand ∷ [] = c.in_ok-push-in-Ok.ensures.ok ∙ ap (λ (p : Person). people ++ p ∷ []) place in
    let read = read_more rows people (contains nat_cmp c.loop-at.known) (contains nat_cmp c.insert.new.self) c.in-Some.line.now (rest_rows c.in-Some.after.now) cand c.loop-at.invariant.read left c.in-Ok.ensures.cand right (omega (arith, c.in-Ok.ensures.few)) c.in-Ok.ensures.set c.in-Ok.ensures.new c.in_ok-insert-in-Ok.ensures.updates.0 in
    record {
      read = subst (λ (xs : List Person). AreRead rows xs (contains nat_cmp c.insert.new.self)) (sym pushed) read;
      left = subst (λ (xs : List Person). drop (length xs) rows ≡ rest_rows c.in-Some.after.now) (sym pushed) (left_more rows people (person_of (length people + 1) cand) c.in-Some.line.now (rest_rows c.in-Some.after.now) left);
      numbers = subst (λ (xs : List Person). drop (length xs) numbers ≡ rest_numbers (c.in-Some.at + 1) c.in-Some.after.now) (sym pushed) (left_more numbers people (person_of (length people + 1) cand) c.in-Some.at (rest_numbers (c.in-Some.at + 1) c.in-Some.after.now) told);
      within = omega (arith, c.in-Some.ensures.within);
    }

pub returns-clause-faultless : goal.returns-clause-faultless
returns-clause-faultless c =
    all_read (rest_rows c.args.bytes.now) c.loop-at.people (contains nat_cmp c.loop-at.known) c.loop-at.invariant.read (c.loop-at.invariant.left ∙ c.in_default.ensures.none)

pub returns-clause-people : goal.returns-clause-people
returns-clause-people c =
    all_people (rest_rows c.args.bytes.now) c.loop-at.people (contains nat_cmp c.loop-at.known) c.loop-at.invariant.read (c.loop-at.invariant.left ∙ c.in_default.ensures.none)
