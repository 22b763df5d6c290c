mod BetterOff
mod Competing
mod EmptySeats
mod PassedOver
mod StillChosen
