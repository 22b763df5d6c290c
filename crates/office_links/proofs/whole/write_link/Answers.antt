use Rattle.std.proofs.Common.{ℕ, ◌<◌, length, rules, take, drop, List, ◌++◌, sym, ap, ◌∙◌, arith, append_assoc}
use Rattle.std.proofs.lemmas.List.{take-append-drop}
use Rattle.std.proofs.lemmas.Bool.Decides.{nat_tests}
use Rattle.std.proofs.lemmas.Result.{err_from_is_err_and}
use Rattle.office_base.specs.Outside.{Appends}
use Rattle.office_base.proofs.Streams.{Appends-more}
use Rattle.office_links.proofs.Writing.{written_prefix}
use Rattle.office_links.proofs.whole.write_link.Goals as goal

pub returns-in_err-count-clause-err : goal.returns-in_err-count-clause-err
returns-in_err-count-clause-err g c =
    let i = c.loop-rest.invariant in
    let some : 0 < length c.loop-rest.rest.now = first_of (search rules, grind (arith, nat_tests)) in
    let f : (n : ℕ) × (n < length c.args.piece.now) × Appends (take n c.args.piece.now) (g.L.Link.written c.args.link.now) (g.L.Link.written c.write.new.self) =
    written_prefix c.args.piece.now i.0 _ _ _ _ i.1 some i.2 c.in_err-count.ensures.kept in
    let p = err_from_is_err_and c.from_residual.result c.from_residual.ensures.1 in
    rw p.1 f

pub loop-rest-preserved : goal.loop-rest-preserved
loop-rest-preserved g c =
    let i = c.loop-rest.invariant in
    let n = c.in_ok-count.count in (
      i.0 ++ take n c.loop-rest.rest.now,
      i.1 ∙ (ap (λ (x : List ℕ). i.0 ++ x) (sym (take-append-drop n c.loop-rest.rest.now)) ∙ (sym (append_assoc i.0 (take n c.loop-rest.rest.now) (drop n c.loop-rest.rest.now)) ∙ ap (λ (x : List ℕ). (i.0 ++ take n c.loop-rest.rest.now) ++ x) (sym c.split_at.ensures.back))),
      Appends-more i.0 c.loop-rest.rest.now n _ _ _ i.2 c.in_ok-count.ensures.appended,
      omega (arith, i.3, c.in_ok-count.ensures.steady),
      c.write.ensures.apart ∙ i.4,
    )
