use Rattle.std.proofs.Common.{List, Option, Some, refl, ap, ◌∙◌, cond, arith}
use Rattle.std.specs.Prelude.{length}
use Rattle.std.specs.Cmp.Lexicographic.{slice_cmp}
use Rattle.std.specs.Ordering.{is_eq, nat_cmp}
use Rattle.office_base.specs.declared.person.CandId.{CandId}
use Rattle.office_base.specs.declared.person.Person.{Person}
use Rattle.office_base.specs.declared.person.Place.{Place}
use Rattle.rank_lists.proofs.EntriesLemmas.{entries-step}
use Rattle.rank_lists.proofs.BuilderLemmas.{accepted, count-step, holder-step, keyed-insert, person-step, place-there, taken-step}
use Rattle.rank_lists.proofs.builder.RegisterBuilder.add.Goals as goal

pub returns : goal.returns
returns c = λ entries row keeps e.
    let entry = c.args.entry in
    let ok = accepted entries row entry e in
    let (p, q, r, s, shape) = ok.four in
    let four = ap (λ (places : List Place). length places) shape in
    record {
      sound = entries-step entries entry keeps.sound ok;
      people = λ id.
          c.in_ok-insert-2.ensures.updates.0 id
          ∙ ap (λ (o : Option Person). cond (is_eq (nat_cmp entry.person.id.0 id)) (Some entry.person) o) (keeps.people id)
          ∙ person-step entries entry ok.fresh id;
      keyed = rw c.in_ok-insert-2.ensures.entries (keyed-insert entry.person.id.0 entry.person c.args.self.now.people.entries refl keeps.keyed);
      holders = λ token.
          c.in_ok-insert.ensures.updates.0 token
          ∙ ap (λ (o : Option CandId). cond (is_eq (slice_cmp nat_cmp entry.token token)) (Some entry.person.id) o) (keeps.holders token)
          ∙ holder-step entries entry ok.unheld token;
      first = λ n. taken-step entries entry 0 n _ _ _ (place-there entry.person.places _ 0 (omega (arith, four))) (keeps.first n) (c.in_ok-take.ensures n);
      second = λ n. taken-step entries entry 1 n _ _ _ (place-there entry.person.places _ 1 (omega (arith, four))) (keeps.second n) (c.in_ok-take-2.ensures n);
      third = λ n. taken-step entries entry 2 n _ _ _ (place-there entry.person.places _ 2 (omega (arith, four))) (keeps.third n) (c.in_ok-take-3.ensures n);
      fourth = λ n. taken-step entries entry 3 n _ _ _ (place-there entry.person.places _ 3 (omega (arith, four))) (keeps.fourth n) (c.in_ok-take-4.ensures n);
      count = count-step c.in_ok-insert-2.field-0 _ _ entries entry (c.in_ok-insert-2.ensures.old ∙ keeps.people entry.person.id.0 ∙ ok.fresh) c.in_ok-insert-2.ensures.len keeps.count;
    }
