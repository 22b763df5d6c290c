use Rattle.std.proofs.Common.{get_or, refl, sym, ap, subst, ◌∙◌, inl, inr, arith}
use Rattle.std.proofs.lemmas.Bool.{cases_eq, false≢true}
use Rattle.std.specs.BTreeSet.{contains}
use Rattle.std.specs.Ordering.{nat_cmp}
use Rattle.list_texts.specs.ListPieces.{BeginsEntry}
use Rattle.list_texts.proofs.ListPieceLemmas.{at-found, entries-from, entries-none, get-same}
use Rattle.list_texts.proofs.list_pieces.begins_entries.Goals.{else-not-contains-via-then-not-contains+else-begins_entry, else-not-contains-via-else-not-contains}
use Rattle.list_texts.proofs.list_pieces.begins_entries.Goals as goal

pub returns-then-begins_entry : goal.returns-then-begins_entry
returns-then-begins_entry c = λ admitted same. (
  λ _. entries-from c.args.people.now admitted c.args.left c.args.slots c.args.piece.now _ (at-found c.args.people.now c.loop-person.person-index _ c.requires c.loop-person-test.true)
      (sym (same _) ∙ sym c.contains.ensures ∙ c.if-not-contains.true) (c.begins_entry.ensures.0 c.if-begins_entry.true),
  λ _. refl,
)

pub loop-person-preserved : goal.loop-person-preserved
loop-person-preserved c = λ at d below new begins. elim (cases_eq at c.loop-person.person-index) [
  | inl same ↦
      let place = ap (λ n. get_or c.args.people.now n d) same ∙ get-same c.args.people.now c.loop-person.person-index d _ c.loop-person-test.true in
      elim c.else-not-contains.branch [
        | else-not-contains-via-then-not-contains+else-begins_entry w ↦
            false≢true (sym w.if-begins_entry.false ∙ w.begins_entry.ensures.1 (subst (λ z. BeginsEntry z.id.0 c.args.left c.args.slots c.args.piece.now) place begins))
        | else-not-contains-via-else-not-contains w ↦
            false≢true (sym new ∙ ap (λ z. contains nat_cmp c.args.used.now z.id.0) place ∙ sym c.contains.ensures ∙ w.if-not-contains.false)
      ]
  | inr other ↦ c.loop-person.invariant at d (omega (arith, below, other)) new begins
]

pub returns : goal.returns
returns c = λ admitted same. (
  λ t. absurd (false≢true t),
  λ b. absurd (entries-none c.args.people.now admitted c.args.left c.args.slots c.args.piece.now b.part.0
      (λ at within new begins. c.loop-person.invariant at b.part.0 (omega (arith, within, c.loop-person-test.false)) (same _ ∙ new) begins) b),
)
