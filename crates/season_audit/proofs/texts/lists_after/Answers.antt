use Rattle.std.proofs.Common.{◌≡◌, ◌+◌, ◌*◌, ◌∙◌, List, length, take, drop, ap}
use Rattle.std.specs.Prelude.{◌-◌, min}
use Rattle.list_texts.specs.declared.lists.ListRead.{ListRead}
use Rattle.audit_rules.specs.Comes.{told_by}
use Rattle.season_audit.proofs.Reading.{part_once, part_told}
use Rattle.season_audit.proofs.texts.lists_after.Goals as goal

pub returns-clause-lists : goal.returns-clause-lists
returns-clause-lists c =
    let lists = c.args.dossier.now.lists in
    let same : c.as_slice-lists.result.now ≡ lists = cc in
    let first : c.min-from.result ≡ min (c.args.rounds * c.args.count) (length lists) = cc in
    let last : c.min-to.result ≡ min (c.min-from.result + c.args.count) (length lists) = cc in
    ap told_by (ap (λ (ls : List ListRead). take (c.min-to.result - c.min-from.result) (drop c.min-from.result ls)) same)
    ∙ part_told lists (c.args.rounds * c.args.count) c.args.count c.min-from.result c.min-to.result first last

pub returns-clause-once : goal.returns-clause-once
returns-clause-once c = rw (c.as_slice-lists.ensures) (part_once c.args.dossier.now.lists _ _ c.args.dossier.now.once)
