use Rattle.std.proofs.Common.{ℕ, ap, ◌∙◌, length, refl, rules}
use Rattle.std.proofs.lemmas.List.{length-replicate}
use Rattle.choice_lists.proofs.BuilderLemmas.{nothing_kept}
use Rattle.choice_lists.proofs.builder.ChoicesBuilder.new.Goals as goal

pub returns-clause-empty : goal.returns-clause-empty
returns-clause-empty c =
    nothing_kept _ _ _ c.people-people.ensures.ranks (ap (λ people. length people) c.people-people.ensures.same) (c.from-programmes.ensures ∙ c.count.ensures.count) c.in_ok-empty_lists.ensures
    (c.in_ok-vec.ensures.items_if_clones_equal (λ y h. search rules)) (c.in_ok-vec-2.ensures.items_if_clones_equal (λ y h. search rules))
    (ap (λ l. length l) (c.in_ok-vec-3.ensures.items_if_clones_equal (λ y h. search rules)) ∙ length-replicate {A = ℕ} 65536 0) refl
