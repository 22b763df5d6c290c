use Rattle.std.proofs.Common.{◌≡◌, ◌≢◌, ◌≤◌, ◌-◌, ◌∷◌, ◌++◌, [], ℕ, List, is_some, sym, ap, subst, ◌∙◌}
use Rattle.std.proofs.lemmas.Bool.{false≢true}
use Rattle.std.specs.BTreeSet.{contains}
use Rattle.std.specs.Fmt.{decimal}
use Rattle.std.specs.Ordering.{nat_cmp}
use Rattle.office_base.specs.declared.person.Person.{Person}
use Rattle.rank_lists.specs.Register.{find_person}
use Rattle.step_lines.specs.Lines.{slot_letter}
use Rattle.text_readers.proofs.PartsLemmas.{if-none}
use Rattle.list_texts.specs.ListLines.{CanStand, entry_words, slots_in}
use Rattle.list_texts.specs.Listing.{Entry, is_listed}
use Rattle.list_texts.proofs.FreeLemmas.{all-unit, found-all, found-small}
use Rattle.list_texts.proofs.WordLemmas.{row-one}
use Rattle.list_texts.proofs.list_words.next_entry.Goals.{else-not-contains-via-then-not-contains+else-can_have, else-not-contains-via-else-not-contains}
use Rattle.list_texts.proofs.list_words.next_entry.Goals as goal

pub returns-in_err-id-clause-none : goal.returns-in_err-id-clause-none
returns-in_err-id-clause-none c =
    if-none c.from_residual.result ((admitted : List Person) → ((id : ℕ) → contains nat_cmp c.args.used.now id ≡ is_listed id admitted) → (row : Entry) → CanStand c.args.register.now.people admitted c.args.left c.args.slots row → c.args.line.now ≢ entry_words row)
    (λ admitted same row may is. c.in_err-id.ensures.none row.0.id.0 row.1 (found-small c.args.register.now.people row.0 c.requires may.is.known) may.is.slot is)

pub returns-in_err-person-clause-none : goal.returns-in_err-person-clause-none
returns-in_err-person-clause-none c =
    let people = c.args.register.now.people in
    if-none c.from_residual-in_err-person.result ((admitted : List Person) → ((id : ℕ) → contains nat_cmp c.args.used.now id ≡ is_listed id admitted) → (row : Entry) → CanStand c.args.register.now.people admitted c.args.left c.args.slots row → c.args.line.now ≢ entry_words row)
    (λ admitted same row may is.
    let one = row-one c.in_ok-id.id.0 row.0.id.0 c.in_ok-id.ensures.small (found-small people row.0 c.requires may.is.known) c.in_ok-id.slot row.1 c.in_ok-id.ensures.known may.is.slot (sym c.in_ok-id.ensures.some ∙ is) in
    false≢true (ap is_some (c.in_err-person.ensures ∙ ap (λ z. find_person z people) one.0 ∙ may.is.known)))

pub returns-then-can_have-clause-some : goal.returns-then-can_have-clause-some
returns-then-can_have-clause-some c =
    let people = c.args.register.now.people in
    let id = (found-all (λ _. Unit {0}) people c.in_ok-id.id.0 c.in_ok-person.person.now (all-unit people) (sym c.in_ok-person.ensures)).1 in
    c.in_ok-id.ensures.some ∙ ap (λ z. decimal z ++ 32 ∷ slot_letter c.in_ok-id.slot ∷ []) (sym id)

pub returns-then-can_have-clause-may : goal.returns-then-can_have-clause-may
returns-then-can_have-clause-may c = λ admitted same.
    let people = c.args.register.now.people in
    let person = c.in_ok-person.person.now in
    let id = (found-all (λ _. Unit {0}) people c.in_ok-id.id.0 person (all-unit people) (sym c.in_ok-person.ensures)).1 in
    let can = c.can_have.ensures.0 c.if-can_have.true in
    record {
      is = record {
        known = ap (λ z. find_person z people) id ∙ sym c.in_ok-person.ensures;
        new = ap (λ z. is_listed z admitted) id ∙ sym (same c.in_ok-id.id.0) ∙ sym c.contains.ensures ∙ c.if-not-contains.true;
        slot = c.in_ok-id.ensures.known;
      };
      some = can.0;
      enough = can.1;
    }

pub returns-else-not-contains-clause-none : goal.returns-else-not-contains-clause-none
returns-else-not-contains-clause-none c = λ admitted same row may is.
    let people = c.args.register.now.people in
    let one = row-one c.in_ok-id.id.0 row.0.id.0 c.in_ok-id.ensures.small (found-small people row.0 c.requires may.is.known) c.in_ok-id.slot row.1 c.in_ok-id.ensures.known may.is.slot (sym c.in_ok-id.ensures.some ∙ is) in
    elim c.else-not-contains.branch [
      | else-not-contains-via-then-not-contains+else-can_have w ↦
          let can = subst (λ z. (slots_in z ≤ c.args.slots) × (c.args.slots - slots_in z ≤ c.args.left)) (sym one.1) (may.some, may.enough) in
          false≢true (sym w.if-can_have.false ∙ w.can_have.ensures.1 can)
      | else-not-contains-via-else-not-contains w ↦
          false≢true (sym may.is.new ∙ ap (λ z. is_listed z admitted) (sym one.0) ∙ sym (same c.in_ok-id.id.0) ∙ sym c.contains.ensures ∙ w.if-not-contains.false)
    ]
