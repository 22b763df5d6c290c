use Rattle.std.proofs.Common.{◌≡◌, List, ℕ, Option, Some, ap, subst}
use Rattle.csv.specs.Writing.{text_written}
use Rattle.std.proofs.lemmas.Result.{on_ok_weaker}
use Rattle.section_rows.specs.Rows.{Row, rows_of}
use Rattle.quota_units.specs.Writing.{WritesHeader}
use Rattle.quota_units.proofs.Faults.{if-err}
use Rattle.quota_units.proofs.WritingLemmas.{header-fault, header-written}
use Rattle.quota_units.proofs.writer.write_all.Goals as goal

pub returns-clause-text : goal.returns-clause-text
returns-clause-text c =
    let all : c.new-rows.result.left ≡ rows_of c.args.body.now = ap (λ r. r.left) c.new-rows.ensures in
    let old : Option (List ℕ) = text_written (λ v. Some v.items) c.args.writer.now in
    let mid : Option (List ℕ) = text_written (λ v. Some v.items) c.write_header.new.writer in
    let new : Option (List ℕ) = text_written (λ v. Some v.items) c.write_choices.new.writer in
    let wrote = subst (λ (l : List Row). WritesHeader old mid l c.write_header.new.rows.left) all c.in_ok-write_header.ensures.text in
    on_ok_weaker c.write_choices.result (header-written c.args.tables.units.now c.args.tables.states.now old mid new (rows_of c.args.body.now) c.write_header.new.rows.left wrote) c.write_choices.ensures.text

pub returns-clause-fault : goal.returns-clause-fault
returns-clause-fault c =
    let all : c.new-rows.result.left ≡ rows_of c.args.body.now = ap (λ r. r.left) c.new-rows.ensures in
    let old : Option (List ℕ) = text_written (λ v. Some v.items) c.args.writer.now in
    let mid : Option (List ℕ) = text_written (λ v. Some v.items) c.write_header.new.writer in
    let wrote = subst (λ (l : List Row). WritesHeader old mid l c.write_header.new.rows.left) all c.in_ok-write_header.ensures.text in
    if-err c.write_choices.result _ _ (λ fault h. header-fault c.args.tables.units.now c.args.tables.states.now old mid (rows_of c.args.body.now) c.write_header.new.rows.left fault wrote h) c.write_choices.ensures.fault
