use Rattle.season_laws.proofs.laws.kept_has_no_fault.Goals as goal

pub returns : goal.returns
returns c = λ facts entries state kept fault sound history records is.
    (c.one_end.ensures facts kept sound).apart state fault (c.kept_is_replayed.ensures facts entries state kept history records) is
