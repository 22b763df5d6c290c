use Rattle.std.proofs.Common.{◌≡◌, ◌-◌, List, Some, length, option_copied, sym, ap, ◌∙◌}
use Rattle.std.specs.Prelude.{slice_get}
use Rattle.office_moves.specs.declared.moves.Entry.{Entry}
use Rattle.proceedings.specs.Proceeding.{last_of}
use Rattle.proceedings.proofs.Lasts.{last_number_is}
use Rattle.proceedings.proofs.book.Proceedings.last_number.Goals as goal

pub returns-in-Some : goal.returns-in-Some
returns-in-Some c =
    let items = c.self.inside.entries.items in
    let at : slice_get items (length items - 1) ≡ Some c.in-Some.entry.now =
    ap (λ (xs : List Entry). slice_get xs (length xs - 1)) (sym c.deref.ensures.value) ∙ (sym c.last.ensures.value ∙ ap option_copied c.in-Some.is) in
    sym (last_number_is 0 items c.in-Some.entry.now at) ∙ ap (λ p. last_of p.entries) c.self.view_is
