use Rattle.std.proofs.Common.{◌≡◌, ◌∙◌, ◌++◌, [], ◌∷◌, Some}
use Rattle.section_rows.specs.Rows.{Row}
use Rattle.quota_units.specs.Homes.{AreAlike, Homes, is_key, most_homes, new_home}
use Rattle.quota_units.proofs.TableLemmas.{home-fresh, homes-step}
use Rattle.quota_units.proofs.Faults.{when-true}
use Rattle.quota_units.proofs.homes.read_homes.Goals as goal

pub rows-preserved : goal.rows-preserved
rows-preserved c =
    let homes : Homes = c.rows.invariant.0 in
    let alike : AreAlike homes c.rows.table = c.rows.invariant.1 in
    let row : Row = c.advance.new.self.row in
    let found : Some c.in-Some.home ≡ new_home (is_key c.args.keys) (most_homes c.args.keys) homes row = c.in-Some.ensures.value homes alike in
    let more : c.rows.rows.left ≡ row ∷ c.advance.new.self.left = when-true c.in_ok-advance.field-0 _ _ c.if-branch.true c.in_ok-advance.ensures.more in (
      homes ++ c.in-Some.home ∷ [],
      c.in_ok-put.ensures homes alike (home-fresh (is_key c.args.keys) (most_homes c.args.keys) homes row c.in-Some.home found),
      c.rows.invariant.2
          ∙ homes-step (is_key c.args.keys) (most_homes c.args.keys) homes c.rows.number c.in-Some-checked_add.next c.rows.rows.left c.advance.new.self.left row c.in-Some.home more found c.in-Some-checked_add.ensures.1,
    )
