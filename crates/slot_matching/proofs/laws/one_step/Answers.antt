use Rattle.std.proofs.Common.{inl, inr, arith}
use Rattle.std.proofs.lemmas.Bool.{cases_eq}
use Rattle.placements.proofs.Ranks.{monotone, one_step}
use Rattle.slot_matching.proofs.laws.one_step.Goals as goal

pub returns : goal.returns
returns c = λ protections people all person m n with_person h h'.
    let low = monotone protections people all m n with_person.1.1 h h' in
    let high = one_step protections person people all m n with_person.0 h h' in
    elim (cases_eq n m) [ inl same ↦ inl same | inr other ↦ inr (omega arith) ]
