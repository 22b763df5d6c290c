-- What a dossier keeps of its texts.
use Rattle.std.specs.Prelude.{◌≢◌, ℕ, List, [], ◌∷◌, Option}
use Rattle.std.specs.Coded.{×_prop, →_prop, Unit-prop}
use Rattle.std.specs.List.{AllByRecursion, AllByRecursion-prop}
use Rattle.office_base.specs.Lists.{Pairwise}
use Rattle.office_asks.specs.declared.ask.Request.{Request}
use Rattle.office_base.specs.declared.person.Person.{Person}
use Rattle.list_texts.specs.declared.lists.ListRead.{ListRead}
use Rattle.publish.specs.declared.reads.FinalRead.{FinalRead}
use Rattle.publish.specs.declared.reads.RoundRead.{RoundRead}
use Rattle.seat_matrix.specs.Matrix.{SeatTable}
use Rattle.dossier_file.specs.Papers.{AreDuePapers}

-- there are texts that are due by the script, and this is what they say
abbrev pub HasTexts : SeatTable → List Person → ℕ → List Request → List RoundRead → List ListRead → Option FinalRead → Type 0
HasTexts table people rounds script reads lists last = (published : List ℕ) × AreDuePapers table people rounds script published (record { rounds = reads; lists = lists; last = last })

-- no two of the people have one number
abbrev pub AreApart : List Person → Type 0
AreApart people = Pairwise (λ a b. a.id ≢ b.id) people

-- each step of each list names each person once at most
abbrev pub NamesOnce : List ListRead → Type 0
NamesOnce lists = AllByRecursion (λ read. AllByRecursion (λ list. AreApart list.admitted) read.programme.steps) lists

AreApart-prop : (people : List Person) → IsProp (AreApart people)
AreApart-prop [] = Unit-prop
AreApart-prop (person ∷ people) = ×_prop (AllByRecursion-prop _ (λ other. →_prop (λ p q. absurd p)) people) (AreApart-prop people)

pub NamesOnce-prop : (lists : List ListRead) → IsProp (NamesOnce lists)
NamesOnce-prop lists = AllByRecursion-prop _ (λ read. AllByRecursion-prop _ (λ list. AreApart-prop list.admitted) read.programme.steps) lists
