use Rattle.std.proofs.Common.{◌≡◌, ℕ, Bool, Some, sym, ap, ◌∙◌, cond, true}
use Rattle.std.specs.Prelude.{◌||◌, Option}
use Rattle.std.specs.BTreeSet as sorted
use Rattle.std.specs.Ordering.{nat_cmp}
use Rattle.office_base.specs.Person.{number_of}
use Rattle.rank_lists.specs.Register.{is_number}
use Rattle.section_rows.proofs.StepsLemmas.{cond-or, number_found}
use Rattle.rank_lists.proofs.builder.take.Goals as goal

pub returns-in_ok-insert : goal.returns-in_ok-insert
returns-in_ok-insert c = λ n.
    let old = sorted.contains nat_cmp c.args.taken.now n in
    let number : number_of c.args.place ≡ Some c.in-Some.number = sym c.number.ensures ∙ c.in-Some.is in
    c.in_ok-insert.ensures.updates.0 n
    ∙ ap (λ (b : Bool). cond b true old) (number_found c.in-Some.number n)
    ∙ cond-or _ old
    ∙ ap (λ (o : Option ℕ). is_number n o || old) (sym number)
