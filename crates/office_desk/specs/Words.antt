-- What a clause reads of a desk and a pass.
use Rattle.std.specs.Prelude.{◌≡◌, ℕ, List, Some}
use Rattle.office_base.specs.declared.booked.Booked.{Ghosts}
use Rattle.office_desk.specs.declared.keeps.Keeps.{Ghosts as Kept}
use Rattle.office_desk.specs.declared.handles.Desk.{Desk}
use Rattle.office_desk.specs.declared.handles.Pass.{Pass}
use Rattle.office_desk.specs.Own.{among}

-- the value with which the desk began
abbrev pub origin_of : {V I : Type 0} → Desk V I → V
origin_of desk = desk.table.shared.key.value

module _ {V I : Type 0} {k : Kept V I} {g : Ghosts V I} where
  -- the pass is the first one of this desk, or was split from a pass of it
  abbrev pub belongs : Desk V I → Pass V I k g → Type 0
  belongs desk pass = (pass.seat.table_id ≡ desk.table.shared.table_id) × (pass.seat.me.0.about ≡ Some desk.table.shared.key)

  -- its shares, and the turns that it has left
  abbrev pub shares_of : Pass V I k g → ℕ
  shares_of pass = pass.seat.me.0.shares

  abbrev pub left_of : Pass V I k g → ℕ
  left_of pass = pass.seat.me.0.left

  -- the numbers of its turns
  abbrev pub tickets_of : Pass V I k g → List ℕ
  tickets_of pass = pass.seat.me.0.tickets

  -- the entries that it has seen
  abbrev pub seen_of : Pass V I k g → List I
  seen_of pass = pass.seat.me.0.seen

  -- its own entries: those that it has seen whose number is one of its tickets
  abbrev pub own_of : Pass V I k g → List I
  own_of pass = among g.number (tickets_of pass) (seen_of pass)

  -- the value's count before the last turn that it knows of, and after it
  abbrev pub found_of : Pass V I k g → ℕ
  found_of pass = pass.seat.me.0.found

  abbrev pub count_of : Pass V I k g → ℕ
  count_of pass = pass.seat.me.0.count

  -- how many entries of the value are kept after that turn
  abbrev pub kept_of : Pass V I k g → ℕ
  kept_of pass = pass.seat.me.0.kept
