use Rattle.std.proofs.Common.{ℕ, List, Option, Some, None, [], sym, ap, ◌∙◌, cond, arith}
use Rattle.std.specs.Prelude.{bytes_eq}
use Rattle.std.specs.Ordering.{is_eq}
use Rattle.section_rows.specs.Steps.{or_else}
use Rattle.section_rows.proofs.StepsLemmas.{first_of-push}
use Rattle.seat_matrix.specs.Matrix.{with_code}
use Rattle.seat_matrix.specs.Builder.{step_cmp}
use Rattle.seat_matrix.specs.declared.entry.Home.{Home}
use Rattle.seat_matrix.specs.declared.seats.Seating.{Seating}
use Rattle.seat_matrix.proofs.Numbers.{home_known}
use Rattle.seat_matrix.proofs.SeatsLemmas.{accepted, codes-push, entries-step, seating-step, seats-push}
use Rattle.seat_matrix.proofs.builder.MatrixBuilder.add.Goals as goal

pub returns : goal.returns
returns c = λ entries row keeps e.
    let entry = c.args.entry in
    let ok = accepted entries row entry e in
    record {
      sound = entries-step entries entry keeps.sound ok (home_known entries c.args.self.now keeps entry.programme);
      programmes = c.in_ok-settle.ensures.keys ∙ ap (λ (l : List (List ℕ)). with_code l entry.programme) keeps.programmes ∙ sym (codes-push [] entries entry);
      homes = λ q.
          c.in_ok-settle.ensures.homes q
          ∙ ap (λ (o : Option Home). or_else o (cond (bytes_eq q entry.programme) (Some entry.home) None)) (keeps.homes q)
          ∙ sym (first_of-push (λ e. bytes_eq q e.programme) (λ e. e.home) entries entry);
      seatings = λ q t.
          c.in_ok-insert.ensures.updates.0 (q, t)
          ∙ ap (λ (o : Option Seating). cond (is_eq (step_cmp (entry.programme, c.step_number.result) (q, t))) (Some entry.seating) o) (keeps.seatings q t)
          ∙ seating-step entries entry c.step_number.result c.step_number.ensures ok.fresh q t;
      total = omega (arith, keeps.total, seats-push 0 entries entry, c.from.ensures);
    }
