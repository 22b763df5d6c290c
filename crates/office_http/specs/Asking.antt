-- An ask that is put to an office with its token, and what comes of it.
use Rattle.std.specs.Prelude.{◌≡◌, ◌≤◌, ◌⊎◌, ◌++◌, ℕ, [], Bool, true, false, List, Option, Some, None, Result, Ok, Err, IfOk, length}
use Rattle.office_base.specs.Outside.{Rose}
use Rattle.office_asks.specs.declared.ask.Ask.{Ask}
use Rattle.office_asks.specs.declared.ask.By.{By}
use Rattle.office_asks.specs.declared.ask.By.TheVariants.{Nobody}
use Rattle.office_asks.specs.declared.ask.Request.{Request}
use Rattle.keeper_mem.specs.Keeper.{KeeperView}
use Rattle.kept_rows.specs.Tables.{AreTold, IsTold}
use Rattle.office_moves.specs.Facts.{SeasonFacts}
use Rattle.office_moves.specs.State.{State}
use Rattle.office_moves.specs.Decided.{decided}
use Rattle.office_moves.specs.History.{IsHistory, grown, newly}
use Rattle.office_moves.specs.Moves.{IsMove}
use Rattle.office_moves.specs.Stands.{Stand}
use Rattle.office_moves.specs.declared.moves.Entry.{Entry}
use Rattle.office_moves.specs.declared.moves.Reply.{Reply}
use Rattle.proceedings.specs.Told.{takes_nothing}
use Rattle.reply_bodies.specs.Bodies.{reply_body}
use Rattle.reply_bodies.specs.Status.{status_of}
use Rattle.round_cut.specs.Office.{OfficeView, who_by, withdraws}
use Rattle.shown_replies.specs.Shown.{round_shown, rows_shown}
use Rattle.http_wire.specs.declared.faults.Fault.{Fault}
use Rattle.http_wire.specs.declared.faults.Fault.TheVariants.{Keeper, Memory}
use Rattle.http_sessions.specs.declared.counter.Answered.{Answered}
use Rattle.office_http.specs.Keeping.{CountsKept, SettlesOffice, StoodView}

-- ---- who asks what

-- the token that its two parts are: whether there is one, and its bytes
abbrev pub token_of : Bool → List ℕ → Option (List ℕ)
token_of true bytes = Some bytes
token_of false bytes = None

-- who a token is for; without a token it is nobody
abbrev pub by_token : SeasonFacts → Option (List ℕ) → By
by_token facts None = Nobody
by_token facts (Some bytes) = who_by facts bytes

-- the request that an ask with its token is
abbrev pub request_of : SeasonFacts → Option (List ℕ) → Ask → Request
request_of facts token ask = record { by = by_token facts token; ask = ask }

-- ---- one ask after a history

-- The status is that of the reply, and so is the body, if there is one. The body shows what the state after the reply has.
abbrev pub IsAnswerOf : SeasonFacts → State → Reply → Answered → Type 0
IsAnswerOf facts state reply answered =
    (answered.status ≡ status_of reply)
    × IfOk answered.body (λ text. text ≡ reply_body facts.matrix facts.people (round_shown state reply) (rows_shown state) reply)

-- A request after a history is answered: it is the move of the state to which the history leads.
-- The answer is that of the move's reply.
-- These entries, one or none, are what it newly accepted.
pub record IsAnsweredAt (facts : SeasonFacts) (place : List Entry) (request : Request) (answered : Answered) (added : List Entry) : Type 0 where
  pub old : State
  pub new : State
  pub reply : Reply
  pub history : IsHistory facts place old
  pub moves : IsMove facts old request reply new
  pub number : ℕ
  pub grows : place ++ added ≡ grown place number (newly old.now (decided facts old request))
  pub answer : IsAnswerOf facts new reply answered

-- A request after a history is not answered. It is none of those that take nothing.
-- Over a keeper that holds room in advance, it is no withdrawal for which memory runs out.
-- If it would keep nothing, the fault is not the keeper's.
pub record IsUnanswered (facts : SeasonFacts) (room : Bool) (place : List Entry) (request : Request) (fault : Fault) : Type 0 where
  pub old : State
  pub history : IsHistory facts place old
  pub some : takes_nothing (decided facts old request) ≡ true → ⊥
  pub spared : room ≡ true → withdraws (decided facts old request) ≡ true → fault ≡ Memory → ⊥
  pub asked : newly old.now (decided facts old request) ≡ None → fault ≡ Keeper → ⊥

-- the same two of an ask with its token, in a season
abbrev pub AnswersAt : SeasonFacts → List Entry → Option (List ℕ) → Ask → Answered → List Entry → Type 0
AnswersAt facts place token ask answered added = IsAnsweredAt facts place (request_of facts token ask) answered added

-- Without an answer nothing was added; or, over a keeper that may let rows wait, the ask was answered and added these,
-- but what it had seen could not be kept, so that the answer was held back.
abbrev pub UnanswersAt : SeasonFacts → Bool → Type 0 → List Entry → Option (List ℕ) → Ask → Fault → List Entry → Type 0
UnanswersAt facts room waits place token ask fault added =
    ((added ≡ []) × IsUnanswered facts room place (request_of facts token ask) fault)
    ⊎ (waits × ((answered : Answered) × AnswersAt facts place token ask answered added))

-- ---- one ask of an office

module _ {K : Type 0} (seen : K → KeeperView) where
  -- The office answered a request under this number. The move begins where the last one ended.
  -- The answer is that of the move's reply.
  -- What is newly accepted is in the keeper's tables and is the last entry, and the keeper did not fail.
  -- If rows then wait to be kept, a crash leaves the same tables as before.
  pub record HasAnswered (number : ℕ) (request : Request) (answered : Answered) (old new : OfficeView K) : Type 0 where
    pub reply : Reply
    pub history : IsHistory old.season old.entries old.state
    pub moves : IsMove old.season old.state request reply new.state
    pub entries : new.entries ≡ grown old.entries number (newly old.state.now (decided old.season old.state request))
    pub season : new.season ≡ old.season
    pub stands : Stand new.season new.state (seen new.keeper).tables
    pub told_before : IsTold (seen new.keeper).tables → IsTold (seen old.keeper).tables
    pub answer : IsAnswerOf old.season new.state reply answered
    pub stays : (seen new.keeper).settled ≡ false → AreTold (seen old.keeper).kept (seen new.keeper).kept
    pub room : (seen new.keeper).holds_room ≡ (seen old.keeper).holds_room
    pub steady : (seen new.keeper).faults ≡ (seen old.keeper).faults

  -- The office did not answer a request: the office and the visible tables of its keeper are unchanged.
  -- The keeper failed if and only if that is the fault.
  -- If rows wait to be kept, a crash leaves the same tables as before.
  pub record HasNotAnswered (request : Request) (fault : Fault) (old new : OfficeView K) : Type 0 where
    pub unanswered : IsUnanswered old.season (seen old.keeper).holds_room old.entries request fault
    pub entries : new.entries ≡ old.entries
    pub state : new.state ≡ old.state
    pub season : new.season ≡ old.season
    pub told : AreTold (seen old.keeper).tables (seen new.keeper).tables
    pub told_before : IsTold (seen new.keeper).tables → IsTold (seen old.keeper).tables
    pub stays : (seen new.keeper).settled ≡ false → AreTold (seen old.keeper).kept (seen new.keeper).kept
    pub room : (seen new.keeper).holds_room ≡ (seen old.keeper).holds_room
    pub count : (seen old.keeper).faults ≤ (seen new.keeper).faults
    pub cause : fault ≡ Keeper → Rose (seen old.keeper).faults (seen new.keeper).faults
    pub steady : fault ≡ Memory → (seen new.keeper).faults ≡ (seen old.keeper).faults

  -- an ask with its token, put to an office under a number: its answer, and the office before and after it
  abbrev pub AsksOffice : ℕ → Option (List ℕ) → Ask → Result Answered Fault → OfficeView K → OfficeView K → Type 0
  AsksOffice number token ask (Ok answered) old new = HasAnswered number (request_of old.season token ask) answered old new
  AsksOffice number token ask (Err fault) old new = HasNotAnswered (request_of old.season token ask) fault old new

  -- The same, and what waits is settled in the same call: an answer is given once all is kept. If settling fails,
  -- the ask has no answer, though the office has what it added.
  abbrev pub AsksSettled : ℕ → Option (List ℕ) → Ask → Result Answered Fault → OfficeView K → OfficeView K → Type 0
  AsksSettled number token ask (Ok answered) old new = HasAnswered number (request_of old.season token ask) answered old new × ((seen new.keeper).settled ≡ true)
  AsksSettled number token ask (Err fault) old new = HasNotAnswered (request_of old.season token ask) fault old new
      ⊎ ((mid : OfficeView K) × (answered : Answered) × HasAnswered number (request_of old.season token ask) answered old mid
      × SettlesOffice seen (Err fault) mid new)

  -- an ask with its token, put to an office at a desk: its answer, what is kept then, and how many entries there are
  abbrev pub PutsStood : ℕ → Option (List ℕ) → Ask → Result Answered Fault → Bool → ℕ → StoodView K → StoodView K → Type 0
  PutsStood number token ask answer settled count old new =
      AsksOffice number token ask answer old.office new.office × CountsKept seen new.office old.kept settled new.kept × (old.kept ≤ new.kept) × (count ≡ length new.office.entries)
