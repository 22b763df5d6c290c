-- The limits of the office: how many of each thing it takes, the greatest number of each kind,
-- and how long a spelling may be.
use Rattle.std.specs.Prelude.{◌*◌, ℕ, length}
use Rattle.office_base.specs.CategorySteps.{own_steps}

-- candidates of a register, or of a step sheet
abbrev pub most_candidates : ℕ
most_candidates = 250000

-- programmes of a matrix
abbrev pub most_programmes : ℕ
most_programmes = 2000

-- seats of a step, and protections of one trait
abbrev pub most_step_seats : ℕ
most_step_seats = 4000

-- seats of all steps of a matrix
abbrev pub most_matrix_seats : ℕ
most_matrix_seats = 1000000

-- seats of all steps of a matrix after every raise
abbrev pub most_raised_seats : ℕ
most_raised_seats = length own_steps * most_step_seats * most_programmes

-- programmes on one choice list
abbrev pub most_row_choices : ℕ
most_row_choices = 1000

-- programmes on all choice lists
abbrev pub most_choices : ℕ
most_choices = 5000000

-- rounds of a season
abbrev pub most_rounds : ℕ
most_rounds = 10

-- accepted turns of one candidate in one window; a withdrawal may come after them
abbrev pub most_turns : ℕ
most_turns = 16

-- candidates of a season that is made up
abbrev pub most_generated : ℕ
most_generated = 100000

-- connections of one door
abbrev pub most_connections : ℕ
most_connections = 100000

-- doors of an office, each with a worker
abbrev pub most_doors : ℕ
most_doors = 64

-- bytes of a step sheet
abbrev pub most_sheet_bytes : ℕ
most_sheet_bytes = 16777216

-- bytes of a season bundle
abbrev pub most_bundle_bytes : ℕ
most_bundle_bytes = 134217728

-- the greatest number of a candidate
abbrev pub last_id : ℕ
last_id = 999999999

-- the greatest place in a merit list
abbrev pub last_place : ℕ
last_place = 9999999

-- the greatest number of a window or a round in a request
abbrev pub last_window : ℕ
last_window = 65535

-- the greatest number of a turn in a request
abbrev pub last_turn : ℕ
last_turn = 65535

-- bytes of a code
abbrev pub shortest_code : ℕ
shortest_code = 1

abbrev pub longest_code : ℕ
longest_code = 16

-- bytes of a token
abbrev pub shortest_token : ℕ
shortest_token = 8

abbrev pub longest_token : ℕ
longest_token = 32
