use Rattle.std.proofs.Common.{sym, ap, ◌∙◌, map, ◌∷◌, ◌++◌, []}
use Rattle.std.proofs.lemmas.List.{map_push}
use Rattle.office_base.specs.Numbered.{last_of_numbers, rises}
use Rattle.office_desk.proofs.TicketLemmas.{last_from-snoc, rises-snoc}
use Rattle.serve_trials.specs.declared.book.Row.{Row}
use Rattle.serve_trials.proofs.book.Book.put.Goals as goal

pub invariant_of-self-2 : goal.invariant_of-self-2
invariant_of-self-2 c =
    let before = c.args.self.now.rows.items in
    let items = c.push_reserved.ensures.items ∙ ap (λ l. l ++ c.args.row ∷ []) c.in_ok-reserve.ensures.items in
    let numbers = ap (map (λ (r : Row). r.number)) items ∙ map_push (λ (r : Row). r.number) before c.args.row in
    record {
      rising = ap (rises 0) numbers ∙ rises-snoc 0 (map (λ (r : Row). r.number) before) c.args.row.number c.requires c.args.self.now.rising;
      last_is = sym (ap last_of_numbers numbers ∙ last_from-snoc 0 (map (λ (r : Row). r.number) before) c.args.row.number);
    }
