use Rattle.season_audit.proofs.auditor.is_right.Given as goal

abbrev pub ghost-are_final : goal.ghost-are_final
ghost-are_final g a = g.state
