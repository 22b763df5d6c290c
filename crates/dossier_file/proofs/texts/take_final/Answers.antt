use Rattle.std.proofs.Common.{◌+◌}
use Rattle.dossier_file.proofs.TextLemmas.{final_refused, final_taken}
use Rattle.dossier_file.proofs.texts.take_final.Goals as goal

pub returns-in-Ok-clause-value : goal.returns-in-Ok-clause-value
returns-in-Ok-clause-value c =
    let season = c.args.season.now in
    final_taken season.matrix season.register.people c.requires (season.rounds + 1) c.args.bytes.now c.split_after_line.result.0.now c.split_after_line.result.1.now c.split_after_line.ensures c.in-Ok.read c.in-Ok.ensures.value

pub returns-in-Err-clause-fault : goal.returns-in-Err-clause-fault
returns-in-Err-clause-fault c =
    let season = c.args.season.now in
    final_refused season.matrix season.register.people c.requires (season.rounds + 1) c.args.bytes.now c.split_after_line.result.0.now c.split_after_line.result.1.now c.split_after_line.ensures c.in-Err.fault c.in-Err.ensures.fault
