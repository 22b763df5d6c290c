use Rattle.std.proofs.Common.{◌≡◌, rules}
use Rattle.office_http.proofs.Handing.{first_no_more, other_no_more, first_kept, other_kept}
use Rattle.office_http.proofs.hands.DeskWorkerDeskOfficeCrewSharedDeskOfficeBuffers.take_in.Goals as goal

pub returns-clause-after_return : goal.returns-clause-after_return
returns-clause-after_return g c =
    let u = c.join.ensures.union in
    record {
      shares = u.shares;
      seen = u.seen;
      own = u.own;
      more = first_no_more _ _ _ _ _ u.count;
      most = other_no_more _ _ _ _ _ u.count;
      more_kept = first_kept _ _ _ u.kept;
      most_kept = other_kept _ _ _ u.kept;
      failed = search rules;
    }
