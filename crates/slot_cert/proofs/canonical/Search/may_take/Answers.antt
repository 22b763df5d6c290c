use Rattle.std.proofs.Common.{ℕ, ◌<◌, get_or, sym, ◌∙◌, subst}
use Rattle.std.proofs.lemmas.Bool.{ltb-true}
use Rattle.slot_cert.proofs.SearchBounds.{takes_or_passes}
use Rattle.slot_cert.proofs.canonical.Search.may_take.Goals as goal
use Rattle.slot_cert.proofs.canonical.Search.may_take.Goals.{then-has, else-has}

pub returns-then-self-from-gt0 : goal.returns-then-self-from-gt0
returns-then-self-from-gt0 c =
    let search = c.args.self.now in
    elim c.if-has.branch [
      | then-has w ↦ (λ rest are.
          let left = ltb-true 0 (get_or search.room.counts w.from.result 0) (sym w.value-is ∙ c.if-self-from-gt0.true) in
          takes_or_passes search.bounds search.room rest search.most c.args.traits c.args.t c.keeps.result c.requires.trait_number are
          (sym c.has.ensures ∙ w.if-has.true) (subst (λ (t : ℕ). 0 < get_or search.room.counts t 0) w.from.ensures left) c.keeps.ensures)
      | else-has w ↦ absurd (cc)
    ]
