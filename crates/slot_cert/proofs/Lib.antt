mod First
mod Least
mod OneCertificate
mod Pairs
mod SearchBounds
mod Traits
mod ListParts
mod PairsSoFar
