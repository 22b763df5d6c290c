-- The generated season: n candidates, whose places, traits and choices are drawn from a seed, with an answer of each in each window.
--
-- Every draw has its number in the order of draws, so each row says for itself what is drawn for it: the places of list 1 take the first
-- n - 1 draws, those of list 2 the next n - 1, then each candidate six, and last each answer one.
use Rattle.std.specs.Prelude.{ℕ, zero, suc, ◌+◌, ◌-◌, ◌*◌, ◌/◌, ◌%◌, Bool, true, false, ◌==◌, ◌&&◌, nat_lt, List, [], ◌∷◌, ◌++◌, length, drop, swap, slice_index, codes, if◌then◌else◌}
use Rattle.std.specs.Fmt.{decimal}
use Rattle.std.specs.List.{flat_map, range_with_len}
use Rattle.office_base.specs.CategorySteps.{own_steps}
use Rattle.office_base.specs.declared.person.Category.{Category}
use Rattle.office_base.specs.declared.person.Category.TheVariants.{Gen, Ews, Obc, Sc, St}
use Rattle.office_base.specs.declared.step.StepKind.{StepKind}
use Rattle.office_base.specs.declared.step.StepKind.TheVariants.{Open, Obc as ObcStep, St as StStep}
use Rattle.office_text.specs.Names.{category_name, step_name}
use Rattle.season_generator.specs.Draws.{state_after, drawn, next}
use Rattle.season_generator.specs.declared.profile.Profile.{Profile}
use Rattle.season_generator.specs.declared.programmes.StepSeats.{StepSeats}

-- the lines of the numbers 0 to n - 1
unfoldable pub lines : ℕ → (ℕ → List ℕ) → List ℕ
lines n line = flat_map line (range_with_len 0 n)

-- ---- places

-- the places with the one numbered `last`, counted from 0, exchanged with one drawn among those up to it, and then so on down to the second
unfoldable pub exchanged : ℕ → ℕ → List ℕ → List ℕ
exchanged state zero places = places
exchanged state (suc before) places = exchanged (next state) before (swap places (suc before) (drawn (suc before + 1) state))

-- the places of n candidates in a list: those from 1 to n in an order that is drawn from this state on
abbrev pub places : ℕ → ℕ → List ℕ
places n state = exchanged state (n - 1) (range_with_len 1 n)

-- ---- candidates

-- the category of a number below 20
abbrev pub category_of : ℕ → Category
category_of number =
    if nat_lt number 8 then Gen else (if nat_lt number 10 then Ews else (if nat_lt number 16 then Obc else (if nat_lt number 19 then Sc else St)))

-- whether a category may have relaxed places
abbrev pub has_relaxed : Category → Bool
has_relaxed Gen = false
has_relaxed category = true

-- how far a choice is from the one before, by a number below 4
abbrev pub stride_of : ℕ → ℕ
stride_of number = if number == 0 then 1 else (if number == 1 then 3 else (if number == 2 then 7 else 9))

-- what six draws from this state on say of a candidate
unfoldable pub profile_at : ℕ → Profile
profile_at state = record {
  category = category_of (drawn 20 state);
  women = drawn 2 (state_after 1 state) == 0;
  disabled = drawn 20 (state_after 2 state) == 0;
  relaxed = has_relaxed (category_of (drawn 20 state)) && drawn 10 (state_after 3 state) == 0;
  first = drawn 100 (state_after 4 state);
  stride = stride_of (drawn 4 (state_after 5 state));
}

-- the profile of a candidate, counted from 0, where those of all are drawn from this state on
abbrev pub profile_of : ℕ → ℕ → Profile
profile_of state candidate = profile_at (state_after (6 * candidate) state)

-- a set of the traits W and D, as it is written
abbrev pub traits_name : Bool → Bool → List ℕ
traits_name false false = codes "-"
traits_name true false = codes "W"
traits_name false true = codes "D"
traits_name true true = codes "WD"

-- a number in eight digits, with zeros before it
abbrev pub eight_digits : ℕ → List ℕ
eight_digits number = drop (length (decimal number)) (codes "00000000") ++ decimal number

-- a place of a list, relaxed or common
abbrev pub place_field : ℕ → Bool → List ℕ
place_field place false = codes "," ++ decimal place
place_field place true = codes "," ++ decimal place ++ codes "R"

-- the row of a candidate in the register
unfoldable pub register_row : ℕ → Profile → ℕ → ℕ → List ℕ
register_row id profile first second =
    decimal id ++ codes "," ++ category_name profile.category ++ codes "," ++ traits_name profile.women profile.disabled ++ codes ",g" ++ eight_digits id
    ++ place_field first profile.relaxed ++ place_field second profile.relaxed ++ codes "\n"

-- the register: its header, and the row of each candidate
unfoldable pub register_text : ℕ → ℕ → List ℕ → List ℕ → List ℕ
register_text n state first second =
    codes "[register]\nid,category,traits,token,m1,m2,m3,m4\n"
    ++ lines n (λ candidate. register_row (candidate + 1) (profile_of state candidate) (slice_index first candidate) (slice_index second candidate))

-- ---- programmes

-- the code of a programme below 100, in two digits
abbrev pub programme_code : ℕ → List ℕ
programme_code programme = codes "P" ++ (48 + programme / 10) ∷ (48 + programme % 10) ∷ []

-- the row of a step of a programme: its seats, and those of them that are protected for women and for persons with disabilities
unfoldable pub matrix_row : ℕ → List ℕ → ℕ → ℕ → ℕ → List ℕ
matrix_row programme step seats women disabled =
    programme_code programme ++ codes ",I" ++ decimal (programme / 10) ++ codes "," ++ decimal (1 + programme % 2) ++ codes "," ++ step ++ codes "," ++ decimal seats
    ++ codes "," ++ decimal women ++ codes "," ++ decimal disabled ++ codes "\n"

-- what a programme has in a step, where the size is its seats for OBC
abbrev pub step_seats : ℕ → StepKind → StepSeats
step_seats size Open = record { seats = 2 * size; women = size / 2; disabled = size / 8 }
step_seats size ObcStep = record { seats = size; women = size / 4; disabled = size / 16 }
step_seats size StStep = record { seats = size / 4; women = 0; disabled = 0 }
step_seats size step = record { seats = size / 2; women = size / 8; disabled = 0 }

-- the row of a step of a programme of a size
abbrev pub step_row : ℕ → ℕ → StepKind → List ℕ
step_row size programme step =
    matrix_row programme (step_name step) (step_seats size step).seats (step_seats size step).women (step_seats size step).disabled

-- the rows of a programme of a size: one for each step that has seats of its own
unfoldable pub programme_rows : ℕ → ℕ → List ℕ
programme_rows size programme = flat_map (step_row size programme) own_steps

-- the matrix: its header, and the rows of 100 programmes, whose size grows with the candidates
unfoldable pub matrix_text : ℕ → List ℕ
matrix_text n = codes "[matrix]\nprogramme,institute,list,step,seats,W,D,X,S,F,L\n" ++ lines 100 (programme_rows (n / 800 + 1))

-- ---- choices

-- the row of a candidate's choices: forty programmes, each so far after the one before
unfoldable pub choices_row : ℕ → Profile → List ℕ
choices_row id profile = decimal id ++ lines 40 (λ place. codes "," ++ programme_code ((profile.first + place * profile.stride) % 100)) ++ codes "\n"

-- the choices: their header, and the row of each candidate
unfoldable pub choices_text : ℕ → ℕ → List ℕ
choices_text n state = codes "[choices]\ncandidate,programmes\n" ++ lines n (λ candidate. choices_row (candidate + 1) (profile_of state candidate))

-- ---- requests

-- the answer of a number below 20
abbrev pub choice_name : ℕ → List ℕ
choice_name number =
    if number == 0 then codes "withdraw" else (if nat_lt number 4 then codes "freeze" else (if nat_lt number 7 then codes "slide" else codes "float"))

-- the row of the clerk's cut of a window
unfoldable pub cut_row : ℕ → List ℕ
cut_row window = codes "cut,clerk," ++ decimal window ++ codes "\n"

-- the row of a candidate's only answer in a window
unfoldable pub answer_row : ℕ → ℕ → List ℕ → List ℕ
answer_row window id choice =
    codes "answer," ++ decimal id ++ codes "," ++ decimal id ++ codes "," ++ decimal window ++ codes ",1," ++ choice ++ codes "\n"

-- the rows of a window: an answer of each candidate, drawn from this state on, and the cut
unfoldable pub window_rows : ℕ → ℕ → ℕ → List ℕ
window_rows n state window = lines n (λ candidate. answer_row window (candidate + 1) (choice_name (drawn 20 (state_after candidate state)))) ++ cut_row window

-- the requests: the cut of window 0, and the rows of the windows 1 to 6
unfoldable pub requests_text : ℕ → ℕ → List ℕ
requests_text n state = codes "[requests]\n" ++ cut_row 0 ++ lines 6 (λ before. window_rows n (state_after (n * before) state) (before + 1))

-- ---- the bundle

-- the bundle before the register
abbrev pub season_head : List ℕ
season_head = codes "office bundle 1\n[season]\nrounds,6\nclerk,clerk0001\n"

-- the season of n candidates that a seed gives
unfoldable pub generated : ℕ → ℕ → List ℕ
generated n seed =
    let second = state_after (n - 1) seed in
    let profiles = state_after (n - 1) second in
    let answers = state_after (6 * n) profiles in
    season_head ++ register_text n profiles (places n seed) (places n second) ++ matrix_text n ++ choices_text n profiles ++ requests_text n answers
