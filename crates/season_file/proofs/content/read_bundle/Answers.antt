use Rattle.std.proofs.Common.{◌≡◌, true, inr, refl}
use Rattle.std.specs.Prelude.{is_some}
use Rattle.rank_lists.specs.Register.{find_holder}
use Rattle.season_file.specs.Bundle.{Parts}
use Rattle.season_file.proofs.SeasonLemmas.{cut-told, not_some, script-told}
use Rattle.season_file.proofs.content.read_bundle.Goals as goal

pub returns-in-Err-clause-fault : goal.returns-in-Err-clause-fault
returns-in-Err-clause-fault c = cut-told c.args.requests c.args.bytes.now c.in-Err.fault c.requires c.in-Err.ensures

pub returns-then-is_some-clause-fault : goal.returns-then-is_some-clause-fault
returns-then-is_some-clause-fault c =
    let parts : Parts = record { version = c.in-Ok.cut.version; season = c.in-Ok.cut.season.now; register = c.in-Ok.cut.register.now; matrix = c.in-Ok.cut.matrix.now; choices = c.in-Ok.cut.choices.now; requests = c.in-Ok.cut.requests.now } in
    let content = c.in-Ok-read_sections.content in
    let held : is_some (find_holder content.head.clerk content.register.holders) ≡ true = cc in
    (c.requires, (parts, c.in-Ok.ensures, inr (content, c.in-Ok-read_sections.ensures.value, held, refl)))

pub returns-in-Err-read_requests-clause-fault : goal.returns-in-Err-read_requests-clause-fault
returns-in-Err-read_requests-clause-fault c =
    let parts : Parts = record { version = c.in-Ok.cut.version; season = c.in-Ok.cut.season.now; register = c.in-Ok.cut.register.now; matrix = c.in-Ok.cut.matrix.now; choices = c.in-Ok.cut.choices.now; requests = c.in-Ok.cut.requests.now } in
    let content = c.in-Ok-read_sections.content in
    let told : c.is_some.result ≡ is_some (find_holder content.head.clerk content.register.holders) = cc in
    let clerk = not_some (find_holder content.head.clerk content.register.holders) c.is_some.result told c.if-is_some.false in
    rw c.script_error.ensures
    (script-told c.args.requests c.args.bytes.now parts content c.in-Err-read_requests.fault c.requires c.in-Ok.ensures c.in-Ok-read_sections.ensures.value clerk c.in-Err-read_requests.ensures.fault)
