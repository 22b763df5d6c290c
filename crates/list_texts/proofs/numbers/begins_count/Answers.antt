use Rattle.std.proofs.Common.{[]}
use Rattle.std.proofs.lemmas.Bool.{false≢true}
use Rattle.list_texts.proofs.NumberLines.{count-apart, count-from, count-to}
use Rattle.list_texts.proofs.numbers.begins_count.Goals as goal

pub returns-in-Some : goal.returns-in-Some
returns-in-Some c =
    let both = c.begins_number.ensures 10 [] (c.in-Some.ensures.some.clear 10 c.requires) in (
      λ begins. count-from c.args.word.now c.args.most c.args.piece.now c.in-Some.rest.now c.in-Some.ensures.some (both.0 begins),
      λ b. both.1 (count-to c.args.word.now c.args.most c.args.piece.now c.in-Some.rest.now c.in-Some.ensures.some b),
    )

pub returns-in-None : goal.returns-in-None
returns-in-None c = (λ begins. absurd (false≢true begins), λ b. absurd (count-apart c.args.word.now c.args.most c.args.piece.now c.in-None.ensures.none b))
