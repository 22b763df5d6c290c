use Rattle.std.proofs.Common.{rules, arith, ◌≡◌, ◌≤◌, ◌+◌, ◌-◌, ◌++◌, length, take, drop, sym, ◌∙◌, ap, subst, refl, []}
use Rattle.http_sessions.specs.declared.inbox.Inbox.TheInside.{Inside}
use Rattle.std.proofs.lemmas.Result.{err_from_is_err_and}
use Rattle.office_base.proofs.Streams.{Took-more, Took-none}
use Rattle.http_sessions.proofs.Parts.{part_same, part_more, moved, with_items_whole}
use Rattle.std.proofs.lemmas.List.{length-take-le, length-drop}
use Rattle.http_sessions.proofs.inbox.Inbox.fill.Goals as goal
use Rattle.http_sessions.proofs.inbox.Inbox.fill.Goals.{then-self-len, else-self-len}

pub returns-in_err-n-clause-kept : goal.returns-in_err-n-clause-kept
returns-in_err-n-clause-kept g c =
    let a = c.if-self-len.self-inside in
    let P : Inside → Type 0 = λ b. (b.start ≤ b.end) × (take (b.end - b.start) (drop b.start b.bytes.items) ≡ c.args.self.now) in
    let i = c.self.invariant in
    let was : P a = elim c.if-self-len.branch [
      | then-self-len w ↦ subst P (sym w.self-inside-is) (omega arith, moved c.self.inside.start c.self.inside.end c.self.inside.bytes.items w.copy_within.new.self.items i.0 (omega (arith, i)) w.copy_within.ensures.items ∙ c.self.view_is)
      | else-self-len w ↦ subst P (sym w.self-inside-is) (i.0, c.self.view_is)
    ] in
    let same = part_same a.start a.end c.read_behind.new.bytes a.bytes.items was.0 (c.read_behind.ensures.front ∙ ap (take a.end) c.deref_mut.ensures.value) ∙ was.1 in
    let long : length c.read_behind.new.bytes ≡ a.bytes.len = search rules in
    let whole = with_items_whole a.bytes c.read_behind.new.bytes long in
    let p = err_from_is_err_and c.from_residual.result c.from_residual.ensures.1 in
    rw p.1 (ap (λ ys. take (a.end - a.start) (drop a.start ys)) whole ∙ same, search rules)

pub returns-clause-got : goal.returns-clause-got
returns-clause-got g c =
    let a = c.if-self-len.self-inside in
    let P : Inside → Type 0 = λ b. (b.start ≤ b.end) × (take (b.end - b.start) (drop b.start b.bytes.items) ≡ c.args.self.now) in
    let i = c.self.invariant in
    let was : P a = elim c.if-self-len.branch [
      | then-self-len w ↦ subst P (sym w.self-inside-is) (omega arith, moved c.self.inside.start c.self.inside.end c.self.inside.bytes.items w.copy_within.new.self.items i.0 (omega (arith, i)) w.copy_within.ensures.items ∙ c.self.view_is)
      | else-self-len w ↦ subst P (sym w.self-inside-is) (i.0, c.self.view_is)
    ] in
    let same = part_same a.start a.end c.read_behind.new.bytes a.bytes.items was.0 (c.read_behind.ensures.front ∙ ap (take a.end) c.deref_mut.ensures.value) ∙ was.1 in
    let long : length c.read_behind.new.bytes ≡ a.bytes.len = search rules in
    let whole = with_items_whole a.bytes c.read_behind.new.bytes long in
    (take c.in_ok-n.n (drop a.end c.read_behind.new.bytes), length-take-le c.in_ok-n.n _ (omega (arith, c.in_ok-n.ensures.within, length-drop a.end c.read_behind.new.bytes, long, c.deref_mut.ensures.len)), ap (λ ys. take ((a.end + c.in_ok-n.n) - a.start) (drop a.start ys)) whole ∙ (part_more a.start a.end c.in_ok-n.n c.read_behind.new.bytes was.0 ∙ ap (λ xs. xs ++ take c.in_ok-n.n (drop a.end c.read_behind.new.bytes)) same), Took-more [] (drop a.end c.read_behind.new.bytes) c.in_ok-n.n _ _ _ (Took-none _) c.in_ok-n.ensures.taken)
