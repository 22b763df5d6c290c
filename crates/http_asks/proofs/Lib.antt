mod EachRoad
mod NamedLemmas
mod PagesLemmas
mod PiecesLemmas
mod RouterLemmas
mod WalkLemmas
