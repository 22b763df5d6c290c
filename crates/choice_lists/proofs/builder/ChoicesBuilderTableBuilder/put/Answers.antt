use Rattle.std.proofs.Common.{◌≡◌, ℕ, true, List, length, refl, sym, ap, ◌∙◌, arith}
use Rattle.std.specs.Prelude.{◌+◌, ◌==◌, slice_index_or, slice_set}
use Rattle.std.specs.Vec.{with_item, with_items}
use Rattle.std.proofs.lemmas.List.{with_items_is}
use Rattle.office_base.specs.declared.person.ProgId.{ProgId}
use Rattle.choice_lists.specs.declared.builder.ChoicesBuilder.{ChoicesBuilder}
use Rattle.choice_lists.proofs.BuilderLemmas.{apart, had_within, keeps_step, lists_within, reading-bad-candidate, reading-bad-row, reading-ok}
use Rattle.choice_lists.proofs.builder.ChoicesBuilderTableBuilder.put.Goals as goal

pub returns-in-Err-clause-put : goal.returns-in-Err-clause-put
returns-in-Err-clause-put c = λ entries keeps.
    reading-bad-candidate c.args.self.now.register.now c.args.self.now.matrix.now entries c.args.row.now.row c.in-Err.kind (c.in-Err.ensures.given entries keeps)

pub read_programmes-requires-clause-apart : goal.read_programmes-requires-clause-apart
read_programmes-requires-clause-apart c = λ n.
    let (entries, keeps) = c.requires in
    ap (λ (ns : List ℕ). slice_index_or ns n 0 == c.in-Ok.found.1.id.0) c.as_mut_slice.ensures.value
    ∙ apart entries c.args.self.now c.args.row.now.row c.in-Ok.found.1 n keeps (c.in-Ok.ensures.given entries keeps)

pub returns-in-Some-clause-put : goal.returns-in-Some-clause-put
returns-in-Some-clause-put c = λ entries keeps.
    reading-bad-row c.args.self.now.register.now c.args.self.now.matrix.now entries c.args.row.now.row c.in-Ok.found.1 c.in-Some.kind (c.in-Ok.ensures.given entries keeps) (rw c.in-Some.is at c.in_ok-fault.ensures.given)

pub set-requires : goal.set-requires
set-requires c =
    let (entries, keeps) = c.requires in
    lists_within entries c.args.self.now c.in-Ok.found.1.id.0 c.in-Ok.found.0 keeps c.in-Ok.ensures.row

pub index_mut-requires : goal.index_mut-requires
index_mut-requires c =
    let (entries, keeps) = c.requires in
    let within = had_within entries c.args.self.now c.in-Ok.found.1.id.0 c.in-Ok.found.0 keeps c.in-Ok.ensures.row in
    omega (arith, within, c.args.self.now.had_row.ok)

pub returns-clause-put : goal.returns-clause-put
returns-clause-put c = λ entries keeps.
    let ranks = c.args.self.now.register.now in
    let seats = c.args.self.now.matrix.now in
    let row = c.args.row.now.row in
    let person = c.in-Ok.found.1 in
    let progs = c.read_programmes.new.chosen.items in
    let new : ChoicesBuilder = record {
      register = c.args.self.now.register;
      matrix = c.args.self.now.matrix;
      lists = c.set.new.self;
      had_row = with_item c.args.self.now.had_row c.in-Ok.found.0 true;
      named_last = with_items c.args.self.now.named_last c.read_programmes.new.named_last;
      guesses = with_items c.args.self.now.guesses c.read_programmes.new.guesses;
      chosen = c.read_programmes.new.chosen;
      total = c.args.self.now.total + length c.as_slice-2.result.now;
    } in
    let marks : length c.read_programmes.new.named_last ≡ length c.args.self.now.named_last.items = c.read_programmes.auto.named_last ∙ ap (λ (ns : List ℕ). length ns) c.as_mut_slice.ensures.value in
    let named : new.named_last.items ≡ c.read_programmes.new.named_last = with_items_is c.args.self.now.named_last c.read_programmes.new.named_last (marks ∙ sym c.args.self.now.named_last.ok.0) in
    let places : length c.read_programmes.new.guesses ≡ length c.args.self.now.guesses.items = c.read_programmes.auto.guesses ∙ ap (λ (ns : List ℕ). length ns) c.as_mut_slice-2.ensures.value in
    let guesses : new.guesses.items ≡ c.read_programmes.new.guesses = with_items_is c.args.self.now.guesses c.read_programmes.new.guesses (places ∙ sym c.args.self.now.guesses.ok.0) in
    let known = c.in-Ok.ensures.given entries keeps in
    let read = rw c.in_default.is at c.in_ok-fault.ensures.given in (
      record { candidate = person.id.0; programmes = progs },
      reading-ok ranks seats entries row person progs known read,
      keeps_step entries row person c.in-Ok.found.0 progs c.args.self.now new keeps known c.in-Ok.ensures.row read refl refl
          (c.in_ok-set.ensures ∙ ap (λ (l : List ProgId). slice_set c.args.self.now.lists c.in-Ok.found.0 l) c.as_slice.ensures.value) refl
          (ap (λ (ns : List ℕ). length ns) named ∙ marks) (ap (λ (ns : List ℕ). length ns) guesses ∙ places)
          (λ n q e f. ap (λ (ns : List ℕ). slice_index_or ns n 0 == q) named ∙ c.in_ok-fault.ensures.others n q e (ap (λ (ns : List ℕ). slice_index_or ns n 0 == q) c.as_mut_slice.ensures.value ∙ f))
          (ap (λ (l : List ProgId). c.args.self.now.total + length l) c.as_slice-2.ensures.value),
    )
