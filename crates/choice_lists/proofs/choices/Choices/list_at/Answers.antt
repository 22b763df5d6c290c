use Rattle.std.proofs.Common.{ℕ, List, length, sym, ap, ◌∙◌, arith}
use Rattle.std.specs.Prelude.{option_map, slice_get}
use Rattle.office_base.specs.declared.person.ProgId.{ProgId}
use Rattle.choice_lists.specs.Choices.{Lists}
use Rattle.choice_lists.proofs.FoundLemmas.{length_along, list_there}
use Rattle.choice_lists.proofs.choices.Choices.list_at.Goals as goal

pub at-requires : goal.at-requires
at-requires c = omega (arith, c.requires, length_along c.self.inside.ids.items c.self.inside.lists c.self.invariant.count, ap (λ (ls : Lists). length ls) c.self.view_is)

pub returns : goal.returns
returns c =
    ap (λ (ls : Lists). option_map (λ (held : ℕ × List ProgId). held.1) (slice_get ls c.args.at)) (sym c.self.view_is)
    ∙ list_there c.self.inside.ids.items c.self.inside.lists c.args.at c.self.invariant.count ∙ c.at.ensures
