use Rattle.std.proofs.Common.{◌≡◌, ℕ, ◌+◌, ◌≤◌, length, take, List, [], ◌++◌, sym, ap, ◌∙◌, subst, arith, length-append}
use Rattle.std.proofs.lemmas.List.{length-take}
use Rattle.office_base.specs.Outside.{Took}
use Rattle.office_base.proofs.Streams.{Took-none, Took-more, Took-end, at_end, took_more}
use Rattle.office_base.proofs.whole.read_through.Goals as goal

-- a prefix of n elements has at most n
length-take-bound : (n : ℕ) (xs : List ℕ) → length (take n xs) ≤ n
length-take-bound n xs = omega (arith, length-take n xs)

pub loop-bytes-init : goal.loop-bytes-init
loop-bytes-init g c =
    let none : c.args.bytes ≡ [] = c.requires.none in
    let short : length c.args.bytes ≡ 0 = ap length none in
    (subst (λ (x : List ℕ). Took x (g.S.Source.left c.args.source.now) (g.S.Source.left c.args.source.now)) (sym none) (Took-none _), omega arith, omega arith)

pub returns-then-count-eq0-clause-taken : goal.returns-then-count-eq0-clause-taken
returns-then-count-eq0-clause-taken g c =
    Took-end c.loop-bytes.bytes c.read.new.buf c.in_ok-count.count _ _ _ c.loop-bytes.invariant.0 c.in_ok-count.ensures.taken c.if-count-eq0.true

pub returns-then-count-eq0-clause-ended : goal.returns-then-count-eq0-clause-ended
returns-then-count-eq0-clause-ended g c =
    at_end c.read.new.buf c.in_ok-count.count _ _ _ c.in_ok-count.ensures.taken c.in_ok-count.ensures.ended c.if-count-eq0.true (omega arith)

pub returns-then-count-limit-clause-too_long : goal.returns-then-count-limit-clause-too_long
returns-then-count-limit-clause-too_long g c _ =
    took_more c.loop-bytes.bytes c.read.new.buf c.in_ok-count.count c.args.limit _ _ _ c.loop-bytes.invariant.0 c.in_ok-count.ensures.taken (omega (arith, c.in_ok-count.ensures.within)) (omega (arith, c.if-count-limit.true, c.len.ensures))

pub loop-bytes-preserved : goal.loop-bytes-preserved
loop-bytes-preserved g c =
    let bytes = c.loop-bytes.bytes in
    let buffer = c.read.new.buf in
    let n = c.in_ok-count.count in
    let ok : c.extend_from_slice.new.self ≡ bytes ++ take n buffer = c.in_ok-extend_from_slice.ensures.ok in
    let longer : length c.extend_from_slice.new.self ≡ length bytes + length (take n buffer) = ap length ok ∙ length-append bytes (take n buffer) in
    let some : length (take n buffer) ≤ n = length-take-bound n buffer in (
      subst (λ (x : List ℕ). Took x (g.S.Source.left c.args.source.now) (g.S.Source.left c.read.new.self)) (sym ok) (Took-more bytes buffer n _ _ _ c.loop-bytes.invariant.0 c.in_ok-count.ensures.taken),
      omega (arith, c.if-count-limit.false, c.len.ensures, c.loop-bytes.invariant.1),
      omega (arith, c.loop-bytes.invariant.2, c.in_ok-count.ensures.steady),
    )
