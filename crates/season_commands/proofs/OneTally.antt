-- Requests that are answered after a history have the same replies, and leave one state.
use Rattle.std.proofs.Common.{◌≡◌, ◌+◌, List, [], ◌∷◌, map, arith, refl, sym, ap, subst, ◌∙◌}
use Rattle.office_base.specs.Numbered.{last_of_numbers}
use Rattle.office_asks.specs.declared.ask.Request.{Request}
use Rattle.office_moves.specs.Facts.{SeasonFacts}
use Rattle.office_moves.specs.Decided.{decided}
use Rattle.office_moves.specs.Moves.{IsMove}
use Rattle.office_moves.specs.History.{grown, newly}
use Rattle.office_moves.specs.Laws.{NextRoundsAreOne}
use Rattle.office_moves.specs.declared.moves.Entry.{Entry}
use Rattle.office_moves.specs.declared.moves.Reply.{Reply}
use Rattle.season_commands.specs.Laws.{OneTally}
use Rattle.season_commands.specs.Tally.{AreHandled, Handled, requests_of}
use Rattle.season_commands.proofs.OneRun.{Determined}

-- a request with this reply
abbrev handled_with : Request → Reply → Handled
handled_with request reply = record { request = request; reply = reply }

-- what is equal in lists of the same requests
same_requests : (a b : Handled) (handled other : List Handled) → requests_of (a ∷ handled) ≡ requests_of (b ∷ other) → (a.request ≡ b.request) × (requests_of handled ≡ requests_of other)
same_requests a b handled other asked = (cc, cc)

same_handled : (a b : Handled) (handled other : List Handled) → a.request ≡ b.request → a.reply ≡ b.reply → handled ≡ other → a ∷ handled ≡ b ∷ other
same_handled a b handled other request reply rest =
    let one : a ≡ b = ap (λ r. handled_with r a.reply) request ∙ ap (λ r. handled_with b.request r) reply in
    ap (λ x. x ∷ handled) one ∙ ap (λ xs. b ∷ xs) rest

pub one_tally : (facts : SeasonFacts) → Determined facts → OneTally facts
one_tally facts laws sound entries old new then [] [] history run again asked = (refl, run ∙ sym again)
one_tally facts laws sound entries old new then [] (b ∷ other) history run again asked = absurd cc
one_tally facts laws sound entries old new then (a ∷ handled) [] history run again asked = absurd cc
one_tally facts laws sound entries old new then (a ∷ handled) (b ∷ other) history run again asked =
    let rounds : NextRoundsAreOne facts = λ es state reached. laws.one_round state sound (laws.orderly es state sound reached) in
    let (first, rest) = same_requests a b handled other asked in
    let moved : IsMove facts old a.request b.reply again.0 = subst (λ r. IsMove facts old r b.reply again.0) (sym first) again.1 in
    let same = laws.one_reply rounds (laws.one_cutoffs sound) entries old run.0 again.0 a.request a.reply b.reply history run.1 moved in
    let number = last_of_numbers (map (λ (entry : Entry). entry.number) entries) + 1 in
    let later = laws.grows entries old run.0 a.request a.reply number history (omega arith) run.1 in
    let on : AreHandled facts run.0 other then = subst (λ s. AreHandled facts s other then) (sym same.1) again.2 in
    let end = one_tally facts laws sound (grown entries number (newly old.now (decided facts old a.request))) run.0 new then handled other later run.2 on rest in
    (same_handled a b handled other first same.0 end.0, end.1)
