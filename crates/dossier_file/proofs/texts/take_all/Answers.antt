use Rattle.std.proofs.Common.{◌+◌, List, drop, sym, subst, ◌∙◌}
use Rattle.std.proofs.lemmas.List.{drop_more}
use Rattle.text_readers.specs.Reading.{IsTextFault}
use Rattle.text_readers.specs.declared.fault.TextFault.{TextFault}
use Rattle.text_readers.proofs.ReadLemmas.{no-bytes}
use Rattle.dossier_file.specs.Papers.{ArePapers}
use Rattle.dossier_file.specs.declared.due.Due.{Due}
use Rattle.dossier_file.proofs.DueLemmas.{IsAlong, along_done, along_fault, along_left, along_more, along_room, good_rest, none_left, some_bytes}
use Rattle.dossier_file.proofs.texts.take_all.Goals as goal

pub after_lines-requires : goal.after_lines-requires
after_lines-requires c =
    let season = c.args.season.now in
    let at = c.loop-due.due-index in
    along_room season.matrix season.register.people season.rounds c.args.dues.now _ (drop (at + 1) c.args.dues.now) c.args.bytes.now c.loop-due.rest.now c.loop-due.before c.loop-due.papers
    (subst (λ (left : List Due). IsAlong season.matrix season.register.people season.rounds c.args.dues.now left c.args.bytes.now c.loop-due.rest.now c.loop-due.before c.loop-due.papers)
    (drop_more c.args.dues.now at _ c.loop-due-test.true) c.loop-due.invariant)
    (good_rest season.matrix (at + 1) c.args.dues.now c.requires.dues) c.requires.short c.in-Err.fault c.in-Err.ensures.fault

pub returns-in-Err-clause-fault : goal.returns-in-Err-clause-fault
returns-in-Err-clause-fault c =
    let season = c.args.season.now in
    let at = c.loop-due.due-index in
    subst (λ (fault : TextFault). IsTextFault (ArePapers season.matrix season.register.people season.rounds c.args.dues.now) c.args.bytes.now fault) (sym c.after_lines.ensures)
    (along_fault season.matrix season.register.people season.rounds c.args.dues.now _ (drop (at + 1) c.args.dues.now) c.args.bytes.now c.loop-due.rest.now c.loop-due.before c.loop-due.papers
    (subst (λ (left : List Due). IsAlong season.matrix season.register.people season.rounds c.args.dues.now left c.args.bytes.now c.loop-due.rest.now c.loop-due.before c.loop-due.papers)
    (drop_more c.args.dues.now at _ c.loop-due-test.true) c.loop-due.invariant)
    (good_rest season.matrix (at + 1) c.args.dues.now c.requires.dues) c.in-Err.fault c.in-Err.ensures.fault)

pub loop-due-preserved : goal.loop-due-preserved
loop-due-preserved c =
    let season = c.args.season.now in
    let at = c.loop-due.due-index in
    along_more season.matrix season.register.people season.rounds c.args.dues.now _ (drop (at + 1) c.args.dues.now) c.args.bytes.now c.loop-due.rest.now c.in-Ok.later.now c.loop-due.before c.line_count-before.result c.loop-due.papers
    c.take_due.new.papers
    (subst (λ (left : List Due). IsAlong season.matrix season.register.people season.rounds c.args.dues.now left c.args.bytes.now c.loop-due.rest.now c.loop-due.before c.loop-due.papers)
    (drop_more c.args.dues.now at _ c.loop-due-test.true) c.loop-due.invariant)
    c.in-Ok.ensures.value c.line_count-before.ensures.value c.line_count-before.ensures.within

pub returns-then-is_empty-clause-value : goal.returns-then-is_empty-clause-value
returns-then-is_empty-clause-value c =
    let season = c.args.season.now in
    let at = c.loop-due.due-index in
    along_done season.matrix season.register.people season.rounds c.args.dues.now (drop at c.args.dues.now) c.args.bytes.now c.loop-due.rest.now c.loop-due.before c.loop-due.papers c.loop-due.invariant
    (none_left at c.args.dues.now c.loop-due-test.false) (no-bytes c.loop-due.rest.now (sym c.is_empty.ensures ∙ c.if-is_empty.true))

pub returns-else-is_empty-clause-fault : goal.returns-else-is_empty-clause-fault
returns-else-is_empty-clause-fault c =
    let season = c.args.season.now in
    let at = c.loop-due.due-index in
    along_left season.matrix season.register.people season.rounds c.args.dues.now (drop at c.args.dues.now) c.args.bytes.now c.loop-due.rest.now c.loop-due.before c.loop-due.papers c.loop-due.invariant
    (none_left at c.args.dues.now c.loop-due-test.false) (some_bytes c.loop-due.rest.now (sym c.is_empty.ensures ∙ c.if-is_empty.false))
