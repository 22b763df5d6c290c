-- What may follow which standing, and what a candidate seeks next (JoSAA's freeze, float, slide and withdraw; the rules over windows are this office's).
use Rattle.std.specs.Prelude.{ℕ, Bool, true, false, Option, Some, None}
use Rattle.office_base.specs.declared.choice.Choice.{Choice}
use Rattle.office_base.specs.declared.choice.Choice.TheVariants.{Freeze as ToFreeze, Float as ToFloat, Slide as ToSlide, Withdraw as ToWithdraw}
use Rattle.office_base.specs.declared.seat.Seat.{Seat}
use Rattle.seeks.specs.declared.seek.Seek.{Seek}
use Rattle.seeks.specs.declared.seek.Seek.TheVariants.{Whole, UpTo, Within, Only, Nothing}
use Rattle.round_options.specs.declared.standing.Standing.{Standing}
use Rattle.round_options.specs.declared.standing.Standing.TheVariants.{Waiting, Offered, Freeze, Float, Slide, Withdrawn, NoShow}

-- Whether a candidate with this standing may give this answer. A waiting candidate has no seat and may only withdraw.
-- A candidate who is offered a first seat, or floats, may give any answer. A candidate who froze may freeze again or withdraw.
-- A candidate who slides may give any answer but float. A candidate who is out may give none.
abbrev pub may_follow : Standing → Choice → Bool
may_follow Waiting ToFreeze = false
may_follow Waiting ToFloat = false
may_follow Waiting ToSlide = false
may_follow Waiting ToWithdraw = true
may_follow Offered choice = true
may_follow Freeze ToFreeze = true
may_follow Freeze ToFloat = false
may_follow Freeze ToSlide = false
may_follow Freeze ToWithdraw = true
may_follow Float choice = true
may_follow Slide ToFreeze = true
may_follow Slide ToFloat = false
may_follow Slide ToSlide = true
may_follow Slide ToWithdraw = true
may_follow Withdrawn choice = false
may_follow NoShow choice = false

-- the standing of a candidate after an answer
abbrev pub standing_of : Choice → Standing
standing_of ToFreeze = Freeze
standing_of ToFloat = Float
standing_of ToSlide = Slide
standing_of ToWithdraw = Withdrawn

-- the candidate keeps a seat in the next round
abbrev pub holds : Standing → Bool
holds Waiting = false
holds Offered = false
holds Freeze = true
holds Float = true
holds Slide = true
holds Withdrawn = false
holds NoShow = false

-- What is sought next, by the place of the seat in the choice list: without a seat the whole list; with freeze the seat alone; with float the list up to
-- the seat; with slide the same within the institute of the seat; after all else nothing.
abbrev pub seek_after : Standing → Option ℕ → Seek
seek_after Waiting place = Whole
seek_after Offered place = Nothing
seek_after Freeze None = Nothing
seek_after Freeze (Some k) = Only k
seek_after Float None = Nothing
seek_after Float (Some k) = UpTo k
seek_after Slide None = Nothing
seek_after Slide (Some k) = Within k
seek_after Withdrawn place = Nothing
seek_after NoShow place = Nothing

-- The standing of a candidate after a cut, by the seat that the new round gives. A first seat that was not answered is lost.
-- A waiting candidate who has a seat now is offered it. All other standings stay the same.
abbrev pub after_cut : Standing → Option Seat → Standing
after_cut Waiting None = Waiting
after_cut Waiting (Some seat) = Offered
after_cut Offered seat = NoShow
after_cut Freeze seat = Freeze
after_cut Float seat = Float
after_cut Slide seat = Slide
after_cut Withdrawn seat = Withdrawn
after_cut NoShow seat = NoShow
