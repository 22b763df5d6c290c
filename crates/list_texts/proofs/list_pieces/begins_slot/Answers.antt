use Rattle.std.proofs.Common.{refl, sym, ◌∙◌}
use Rattle.std.proofs.lemmas.Bool.{false≢true}
use Rattle.list_texts.proofs.ListPieceLemmas.{dash-slot, slot-either, trait-slot}
use Rattle.list_texts.proofs.list_pieces.begins_slot.Goals as goal

pub returns-then-begins_dash : goal.returns-then-begins_dash
returns-then-begins_dash c = (λ _. dash-slot c.args.left c.args.slots c.args.piece.now (c.begins_dash.ensures.0 c.if-begins_dash.true), λ _. refl)

pub returns : goal.returns
returns c = (
  λ begins. trait-slot c.args.left c.args.slots c.args.piece.now (c.begins_trait.ensures.0 begins),
  λ b. c.begins_trait.ensures.1 (slot-either c.args.left c.args.slots c.args.piece.now b (λ can. false≢true (sym c.if-begins_dash.false ∙ c.begins_dash.ensures.1 can))),
)
