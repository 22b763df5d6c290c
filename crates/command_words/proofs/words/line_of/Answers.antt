use Rattle.std.proofs.Common.{◌≡◌, ◌++◌, ◌+◌, ◌∷◌, [], ℕ, List, ap, map, subst, sym, true, false, ◌∙◌}
use Rattle.std.proofs.lemmas.List.{map-append}
use Rattle.command_words.specs.Parts.{is_plain}
use Rattle.command_words.proofs.Lines.{IsDone, goes_on, not_plain}
use Rattle.command_words.proofs.words.line_of.Goals as goal

pub returns-then-not-is_plain-clause-usage : goal.returns-then-not-is_plain-clause-usage
returns-then-not-is_plain-clause-usage c usage plain =
    let flag : is_plain c.in-Some.word.now ≡ false = cc in
    not_plain c.args.words.now (map (λ word. word.now) c.loop-at.line.items) c.loop-at.at c.in-Some.word.now c.in-Some.ensures.some flag c.loop-at.invariant plain

pub loop-at-preserved : goal.loop-at-preserved
loop-at-preserved c =
    let plain : is_plain c.in-Some.word.now ≡ true = cc in
    let items : c.push.new.self.items ≡ c.loop-at.line.items ++ c.in-Some.word ∷ [] = c.in_ok-push.ensures.items in
    let words = ap (map (λ word. word.now)) items ∙ map-append (λ word. word.now) c.loop-at.line.items (c.in-Some.word ∷ []) in
    let more = goes_on c.args.words.now (map (λ word. word.now) c.loop-at.line.items) c.loop-at.at c.in-Some.word.now c.in-Some.ensures.some plain c.loop-at.invariant in
    subst (λ (done : List (List ℕ)). IsDone c.args.words.now done (c.loop-at.at + 1)) (sym words) more
