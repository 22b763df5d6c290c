use Rattle.std.proofs.Common.{◌≡◌, ◌∷◌, [], ◌++◌, refl, sym, ap, subst, ◌∙◌, Err}
use Rattle.section_rows.specs.Rows.{RowsAhead, rows_of}
use Rattle.section_rows.specs.Table.{table_of}
use Rattle.section_rows.proofs.TableLemmas.{no-header, no-rows, read-header, read-more, read-fault, read-all}
use Rattle.section_rows.proofs.table.read_table.Goals as goal
use Rattle.section_rows.proofs.table.read_table.Goals.{then-not-branch-via-then-not-branch, then-not-branch-via-else-not-branch+then-not-is_header}

pub rows-init : goal.rows-init
rows-init g c =
    let B = g.B.TableBuilder in
    let split = sym (ap (λ (t : RowsAhead). t.left) c.new-rows.ensures) ∙ rw c.if-not-branch.false at c.in_ok-advance.ensures.more in
    ([], read-header B.bad B.names _ _ _ _ split (sym c.if-not-is_header.ensures), c.requires, refl)

pub rows-preserved : goal.rows-preserved
rows-preserved g c =
    let (entries, here, keeps, same) = c.rows.invariant in
    let (entry, gave, kept) = (rw c.in_default-2.is at c.in_ok-kind.ensures.put) entries keeps in
    let split = rw c.if-branch.true at c.in_ok-advance-2.ensures.more in
    let read = ap (λ (b : g.B.TableBuilder.Beside). g.B.TableBuilder.reading b entries c.advance-in-rows.new.self.row) (sym same) ∙ gave in
    (entries ++ entry ∷ [], read-more _ _ _ _ _ _ _ _ split c.in-Some.ensures.1 here entry read, kept, c.in_ok-kind.ensures.beside ∙ same)

pub returns-in-Some-2-clause-fault : goal.returns-in-Some-2-clause-fault
returns-in-Some-2-clause-fault g c =
    let (entries, here, keeps, same) = c.rows.invariant in
    let gave = (rw c.in-Some-2.is at c.in_ok-kind.ensures.put) entries keeps in
    let split = rw c.if-branch.true at c.in_ok-advance-2.ensures.more in
    let read = ap (λ (b : g.B.TableBuilder.Beside). g.B.TableBuilder.reading b entries c.advance-in-rows.new.self.row) (sym same) ∙ gave in
    read-fault _ _ _ _ _ _ _ _ split c.in-Some.ensures.1 here c.in-Some-2.kind read

pub returns-clause-entries : goal.returns-clause-entries
returns-clause-entries g c =
    let (entries, here, keeps, same) = c.rows.invariant in
    (entries, read-all _ _ _ _ _ (rw c.if-branch.false at c.in_ok-advance-2.ensures.more) here, keeps)

pub returns-then-not-branch-clause-fault : goal.returns-then-not-branch-clause-fault
returns-then-not-branch-clause-fault g c =
    let B = g.B.TableBuilder in
    let reading = B.reading (B.beside c.args.builder.now) in
    let split = sym (ap (λ (t : RowsAhead). t.left) c.new-rows.ensures) in
    let first : table_of B.bad B.names reading (rows_of c.args.body.now) ≡ Err (1, B.bad) = elim c.then-not-branch.branch [
      | then-not-branch-via-then-not-branch w ↦ no-rows B.bad B.names reading _ (split ∙ (rw w.if-not-branch.true at c.in_ok-advance.ensures.more))
      | then-not-branch-via-else-not-branch+then-not-is_header w ↦
          no-header B.bad B.names reading _ _ _ (split ∙ (rw w.if-not-branch.false at c.in_ok-advance.ensures.more)) (sym w.is_header.ensures ∙ w.if-not-is_header.true)
    ] in
    subst (λ kind. table_of B.bad B.names reading (rows_of c.args.body.now) ≡ Err (1, kind)) (sym c.bad_header.ensures) first

pub put-requires : goal.put-requires
put-requires g c = let (entries, here, keeps, same) = c.rows.invariant in (entries, keeps)
