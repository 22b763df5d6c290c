use mir.Val.{bool_byte}
use Rattle.std.proofs.Common.{◌≡◌, Bool, true, false, ◌∙◌, ◌++◌, [], ap, drop, take, append-nil, length-set, refl, sym, arith}
use Rattle.std.proofs.lemmas.List.{drop_all, take_all}
use Rattle.open_then_category.specs.Tried.{one_if, with_member}
use Rattle.open_then_category.proofs.Members.{few_later, whole_later}
use Rattle.open_then_category.proofs.kept_lists.count_member.Goals as goal

same_one : (b : Bool) → bool_byte b ≡ one_if b
same_one true = refl
same_one false = refl

pub loop-i-preserved : goal.loop-i-preserved
loop-i-preserved c =
    let i = c.loop-i.i in
    let size = c.loop-i.invariant.size in
    let rows = c.told-rows in
    let below = c.loop-i-test.true in
    record {
      size = length-set c.loop-i.members i _ ∙ size;
      few = few_later c.loop-i.members i (omega (arith, size, below)) _ c.loop-i.invariant.few;
      whole = whole_later c.args.person.now c.args.rows.now c.loop-i.members i _ (omega (arith, rows, below)) (omega (arith, size, below)) _ c.is_of.result _ c.from.result
          c.is_of.ensures refl (c.from.ensures ∙ same_one c.is_of.result) c.loop-i.invariant.whole;
    }

pub returns : goal.returns
returns c =
    let i = c.loop-i.i in
    let size = c.loop-i.invariant.size in
    let rows = c.told-rows in
    let past = c.loop-i-test.false in
    sym (append-nil c.loop-i.members)
    ∙ ap (λ front. front ++ []) (sym (take_all i c.loop-i.members (omega (arith, size, past))))
    ∙ sym (ap (λ some. take i c.loop-i.members ++ with_member c.args.person.now some (drop i c.loop-i.members)) (drop_all i c.args.rows.now (omega (arith, rows, past))))
    ∙ c.loop-i.invariant.whole
