use Rattle.std.proofs.Common.{◌≡◌, refl, ap, ◌∙◌}
use Rattle.office_desk.specs.Own.{among}
use Rattle.office_desk.specs.Words.{seen_of}
use Rattle.office_http.proofs.Handing.{none_among}
use Rattle.office_http.proofs.hands.DeskWorkerDeskOfficeCrewSharedDeskOfficeBuffers.hire.Goals as goal

pub returns-clause-after_hire : goal.returns-clause-after_hire
returns-clause-after_hire g c =
    let s = c.in-Ok.ensures.split.2 in
    record {
      shares = s.shares;
      seen = s.seen;
      own = s.own;
      count = s.count;
      kept = s.kept;
      failed = refl;
      new_shares = s.new_shares;
      new_seen = s.new_seen;
      new_own = ap (λ t. among (λ e. e.number) t (seen_of c.in-Ok.pass)) s.new_tickets ∙ none_among (λ e. e.number) (seen_of c.in-Ok.pass);
      new_count = s.new_count;
      new_kept = s.new_kept;
      new_failed = refl;
    }
