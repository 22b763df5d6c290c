-- A run from request to request.
use Rattle.std.proofs.Common.{◌≡◌, ◌<◌, ◌+◌, ◌⊎◌, inl, inr, ℕ, zero, suc, List, [], ◌∷◌, ◌++◌, Option, Some, None, Result, Ok, Err, length, take, get_or, map, arith, refl, sym, ap, subst, ◌∙◌, append_assoc, append-nil}
use Rattle.std.specs.Prelude.{IfOk, OnOk, OnErr, slice_get}
use Rattle.std.proofs.lemmas.List.{take_all, take_more}
use Rattle.office_base.specs.Numbered.{last_of_numbers}
use Rattle.office_base.specs.Outside.{Appends}
use Rattle.office_asks.specs.declared.ask.Request.{Request}
use Rattle.kept_rows.specs.Tables.{Tables}
use Rattle.office_moves.specs.Facts.{SeasonFacts}
use Rattle.office_moves.specs.State.{State}
use Rattle.office_moves.specs.Decided.{decided}
use Rattle.office_moves.specs.Moves.{IsMove}
use Rattle.office_moves.specs.History.{IsHistory, grown, newly}
use Rattle.office_moves.specs.Promise.{KeepsItsWord}
use Rattle.office_moves.specs.Stands.{Stand}
use Rattle.office_moves.specs.declared.moves.Entry.{Entry}
use Rattle.office_moves.specs.declared.moves.Reply.{Reply}
use Rattle.history_laws.specs.Laws.{HistoryGrows}
use Rattle.proceedings.specs.Proceeding.{last_of as last_number}
use Rattle.round_cut.specs.declared.fault.OfficeFault.{OfficeFault}
use Rattle.shown_replies.specs.Shown.{reply_bytes}
use Rattle.season_commands.specs.Runs.{Accepts, AfterSome, Answers, EndsBefore, EndsBy, EndsWithin}
use Rattle.season_commands.specs.declared.fault.RunFault.{RunFault}
use Rattle.season_commands.specs.declared.fault.RunFault.TheVariants.{KeeperFault, OutOfMemory, WriteFault}
use Rattle.season_commands.specs.Steps.{HasAccepted, IsAnswered, IsAnsweredInPart, IsUnanswered, Moment}
use Rattle.season_commands.proofs.RunLemmas.{goes_on}

-- ---- what is written

pub nothing_written : (before after : Option (List ℕ)) → after ≡ before → Appends [] before after
nothing_written None after same = same
nothing_written (Some bytes) after same = same ∙ ap Some (sym (append-nil bytes))

pub appends_on : (xs ys : List ℕ) (a b c : Option (List ℕ)) → Appends xs a b → Appends ys b c → Appends (xs ++ ys) a c
appends_on xs ys None b c first second = subst (λ o. Appends ys o c) first second
appends_on xs ys (Some bytes) b c first second = subst (λ o. Appends ys o c) first second ∙ ap Some (append_assoc bytes xs ys)

-- ---- one request

-- a request after a history leads to a history, whether it is answered or not
pub history_on : (facts : SeasonFacts) (entries after : List Entry) (old new : State) (request : Request) (number : ℕ) (answer : Result Reply OfficeFault) → HistoryGrows facts
    → IsHistory facts entries old → last_of_numbers (map (λ entry. entry.number) entries) < number → IfOk answer (λ reply. IsMove facts old request reply new)
    → OnOk answer (after ≡ grown entries number (newly old.now (decided facts old request))) → OnErr answer ((after ≡ entries) × (new ≡ old)) → IsHistory facts after new
history_on facts entries after old new request number (Ok reply) grows history above moves added same =
    subst (λ es. IsHistory facts es new) (sym added) (grows entries old new request reply number history above moves)
history_on facts entries after old new request number (Err fault) grows history above moves added same =
    subst (λ es. IsHistory facts es new) (sym same.0) (subst (λ s. IsHistory facts entries s) (sym same.1) history)

-- ---- along the script

there_at : (script : List Request) (j : ℕ) (d : Request) → j < length script → slice_get script j ≡ Some (get_or script j d)
there_at [] j d less = absurd (omega (arith, less))
there_at (request ∷ script) zero d less = refl
there_at (request ∷ script) (suc j) d less = there_at script j d (omega (arith, less))

-- the request follows the first j
pub record IsNext (script : List Request) (j : ℕ) (request : Request) : Type 0 where
  pub within : j < length script
  pub there : slice_get script j ≡ Some request
  pub more : take (j + 1) script ≡ take j script ++ request ∷ []

pub next_at : (script : List Request) (j : ℕ) (request : Request) → j < length script → request ≡ get_or script j request → IsNext script j request
next_at script j request less is = record {
  within = less;
  there = there_at script j request less ∙ ap Some (sym is);
  more = take_more script j request less ∙ ap (λ r. take j script ++ r ∷ []) (sym is);
}

-- The first j requests are answered and their replies are written.
pub record IsRunning (facts : SeasonFacts) (script : List Request) (j : ℕ) (season : SeasonFacts) (old now : Moment) : Type 0 where
  pub same : season ≡ facts
  pub history : IsHistory season now.entries now.state
  pub stands : Stand season now.state now.tables
  pub output : List ℕ
  pub run : AfterSome facts old.state (take j script) output now.state now.tables
  pub accepted : Accepts facts old.state old.entries (take j script) now.state now.entries
  pub written : Appends output old.written now.written

pub begins : (facts : SeasonFacts) (script : List Request) (start : Moment) → IsHistory facts start.entries start.state → KeepsItsWord facts start.state → Stand facts start.state start.tables
    → IsRunning facts script 0 facts start start
begins facts script start history word stands = record {
  same = refl;
  history = history;
  stands = stands;
  output = [];
  run = record { answers = (refl, refl); history = (start.entries, history); promise = word; stands = stands };
  accepted = (refl, refl);
  written = nothing_written start.written start.written refl;
}

-- what is known of the office after a request
pub record IsLeft (facts season : SeasonFacts) (entries : List Entry) (state : State) (tables : Tables) : Type 0 where
  pub same : season ≡ facts
  pub history : IsHistory season entries state
  pub word : KeepsItsWord season state
  pub stands : Stand season state tables

-- the run is longer by one request, which led to this state
longer : (facts : SeasonFacts) (start mid new : State) (script : List Request) (j : ℕ) (request : Request) (output : List ℕ) (reply : Reply) (season : SeasonFacts) (entries : List Entry) (told tables : Tables)
    → AfterSome facts start (take j script) output mid told → IsNext script j request → IsMove facts mid request reply new → IsLeft facts season entries new tables
    → AfterSome facts start (take (j + 1) script) (output ++ reply_bytes facts new reply) new tables
longer facts start mid new script j request output reply season entries told tables some next moves left = record {
  answers = subst (λ rs. Answers facts start rs (output ++ reply_bytes facts new reply) new) (sym next.more)
      (goes_on facts start mid new (take j script) request reply output some.answers moves);
  history = (entries, subst (λ f. IsHistory f entries new) left.same left.history);
  promise = subst (λ f. KeepsItsWord f new) left.same left.word;
  stands = subst (λ f. Stand f new tables) left.same left.stands;
}

-- the entries of one request more
accepts_more : (facts : SeasonFacts) (old mid new : State) (held kept after : List Entry) (requests : List Request) (request : Request) (reply : Reply) → Accepts facts old held requests mid kept
    → IsMove facts mid request reply new → HasAccepted facts mid request kept after → Accepts facts old held (requests ++ request ∷ []) new after
accepts_more facts old mid new held kept after [] request reply before moves grows = (
  reply,
  new,
  subst (λ s. IsMove facts s request reply new) before.0 moves,
  (refl, subst (λ es. after ≡ grown es (last_number es + 1) (newly old.now (decided facts old request))) before.1 (subst (λ s. HasAccepted facts s request kept after) before.0 grows)),
)
accepts_more facts old mid new held kept after (r ∷ requests) request reply before moves grows = (
  before.0,
  before.1,
  before.2,
  accepts_more facts before.1 mid new (grown held (last_number held + 1) (newly old.now (decided facts old r))) kept after requests request reply before.3 moves grows,
)

pub accepts_next : (facts : SeasonFacts) (start : State) (begun : List Entry) (script : List Request) (j : ℕ) (request : Request) (mid new : State) (kept after : List Entry) (reply : Reply)
    → IsNext script j request → Accepts facts start begun (take j script) mid kept → IsMove facts mid request reply new → HasAccepted facts mid request kept after
    → Accepts facts start begun (take (j + 1) script) new after
accepts_next facts start begun script j request mid new kept after reply next before moves grows =
    subst (λ rs. Accepts facts start begun rs new after) (sym next.more) (accepts_more facts start mid new begun kept after (take j script) request reply before moves grows)

-- all bytes of the reply are written
pub answered_whole : (facts : SeasonFacts) (request : Request) (old new : Moment) (reply : Reply) → IsMove facts old.state request reply new.state → HasAccepted facts old.state request old.entries new.entries
    → Appends (reply_bytes facts new.state reply) old.written new.written → IsAnswered facts request old new
answered_whole facts request old new reply moves accepted written =
    let bytes = reply_bytes facts new.state reply in
    let all : take (length bytes) bytes ≡ bytes = take_all (length bytes) bytes (omega arith) in
    (length bytes, record { reply = reply; moves = moves; accepted = accepted; written = subst (λ xs. Appends xs old.written new.written) (sym all) written }, refl)

-- what is answered, by the season of the run
abbrev answered_at : (facts season : SeasonFacts) (request : Request) (n : ℕ) (now new : Moment) → season ≡ facts → IsAnsweredInPart season request n now new → IsAnsweredInPart facts request n now new
answered_at facts season request n now new same part = record {
  reply = part.reply;
  moves = subst (λ f. IsMove f now.state request part.reply new.state) same part.moves;
  accepted = subst (λ f. HasAccepted f now.state request now.entries new.entries) same part.accepted;
  written = subst (λ f. Appends (take n (reply_bytes f new.state part.reply)) now.written new.written) same part.written;
}

left_at : (facts season season' : SeasonFacts) (new : Moment) → season ≡ facts → IsLeft season season' new.entries new.state new.tables → IsLeft facts season' new.entries new.state new.tables
left_at facts season season' new same left = record { same = left.same ∙ same; history = left.history; word = left.word; stands = left.stands }

-- a reply is written
pub goes : (facts : SeasonFacts) (script : List Request) (j : ℕ) (request : Request) (season season' : SeasonFacts) (old now new : Moment) → IsRunning facts script j season old now → IsNext script j request
    → IsAnswered season request now new → IsLeft season season' new.entries new.state new.tables → IsRunning facts script (j + 1) season' old new
goes facts script j request season season' old now new running next (n, some, all) left =
    let part = answered_at facts season request n now new running.same some in
    let bytes = reply_bytes facts new.state part.reply in
    let whole : n ≡ length bytes = subst (λ f. n ≡ length (reply_bytes f new.state some.reply)) running.same all in
    let here = left_at facts season season' new running.same left in
    record {
      same = here.same;
      history = here.history;
      stands = here.stands;
      output = running.output ++ bytes;
      run = longer facts old.state now.state new.state script j request running.output part.reply season' new.entries now.tables new.tables running.run next part.moves here;
      accepted = accepts_next facts old.state old.entries script j request now.state new.state now.entries new.entries part.reply next running.accepted part.moves part.accepted;
      written = appends_on running.output bytes old.written now.written new.written running.written
          (subst (λ xs. Appends xs now.written new.written) (take_all n bytes (omega (arith, whole))) part.written);
    }

-- ---- ends

-- the request is not answered
stops_before : (facts : SeasonFacts) (script : List Request) (j : ℕ) (season season' : SeasonFacts) (old now new : Moment) → IsRunning facts script j season old now → j < length script
    → IsUnanswered now new → IsLeft season season' new.entries new.state new.tables
    → (output : List ℕ) × Appends output old.written new.written × EndsBefore facts old.state script output new.state new.tables
stops_before facts script j season season' old now new running within unanswered left = (
  running.output,
  subst (λ o. Appends running.output old.written o) (sym unanswered.written) running.written,
  (
    j,
    within,
    record {
      answers = subst (λ s. Answers facts old.state (take j script) running.output s) (sym unanswered.state) running.run.answers;
      history = subst (λ s. (es : List Entry) × IsHistory facts es s) (sym unanswered.state) running.run.history;
      promise = subst (λ s. KeepsItsWord facts s) (sym unanswered.state) running.run.promise;
      stands = subst (λ f. Stand f new.state new.tables) (left.same ∙ running.same) left.stands;
    },
  ),
)

-- the request is answered, and its reply is not written whole
stops_within : (facts : SeasonFacts) (script : List Request) (j : ℕ) (request : Request) (season season' : SeasonFacts) (n : ℕ) (old now new : Moment) → IsRunning facts script j season old now
    → IsNext script j request → IsAnsweredInPart season request n now new → IsLeft season season' new.entries new.state new.tables
    → (output : List ℕ) × Appends output old.written new.written × EndsWithin facts old.state script n output new.state new.tables
stops_within facts script j request season season' n old now new running next some left =
    let part = answered_at facts season request n now new running.same some in
    let here = left_at facts season season' new running.same left in (
      running.output ++ take n (reply_bytes facts new.state part.reply),
      appends_on running.output (take n (reply_bytes facts new.state part.reply)) old.written now.written new.written running.written part.written,
      record {
        j = j;
        some = running.output;
        mid = now.state;
        request = request;
        reply = part.reply;
        before = running.run.answers;
        there = next.there;
        moves = part.moves;
        after = longer facts old.state now.state new.state script j request running.output part.reply season' new.entries now.tables new.tables running.run next part.moves here;
        written = refl;
      },
    )

-- by each fault of the next request
pub ends_at_fault : (facts : SeasonFacts) (script : List Request) (j : ℕ) (request : Request) (season season' : SeasonFacts) (old now new : Moment) (fault : RunFault) → IsRunning facts script j season old now
    → IsNext script j request → (fault ≡ KeeperFault → IsUnanswered now new) → (fault ≡ OutOfMemory → IsUnanswered now new ⊎ IsAnsweredInPart season request 0 now new)
    → (fault ≡ WriteFault → (n : ℕ) × IsAnsweredInPart season request n now new) → IsLeft season season' new.entries new.state new.tables
    → (output : List ℕ) × Appends output old.written new.written × EndsBy facts old.state script (Err fault) output new.state new.tables
ends_at_fault facts script j request season season' old now new KeeperFault running next keeper memory write left =
    stops_before facts script j season season' old now new running next.within (keeper refl) left
ends_at_fault facts script j request season season' old now new OutOfMemory running next keeper memory write left =
    elim (memory refl) [
      | inl un ↦ let (output, appends, is) = stops_before facts script j season season' old now new running next.within un left in (output, appends, inl is)
      | inr part ↦ let (output, appends, is) = stops_within facts script j request season season' 0 old now new running next part left in (output, appends, inr is)
    ]
ends_at_fault facts script j request season season' old now new WriteFault running next keeper memory write left =
    let (n, part) = write refl in
    let (output, appends, is) = stops_within facts script j request season season' n old now new running next part left in
    (output, appends, (n, is))

-- ---- the entries at an end

accepts_before : (facts : SeasonFacts) (script : List Request) (j : ℕ) (season : SeasonFacts) (old now new : Moment) → IsRunning facts script j season old now → IsUnanswered now new
    → (n : ℕ) × Accepts facts old.state old.entries (take n script) new.state new.entries
accepts_before facts script j season old now new running unanswered = (
  j,
  subst (λ s. Accepts facts old.state old.entries (take j script) s new.entries) (sym unanswered.state)
      (subst (λ es. Accepts facts old.state old.entries (take j script) now.state es) (sym unanswered.entries) running.accepted),
)

accepts_within : (facts : SeasonFacts) (script : List Request) (j : ℕ) (request : Request) (season : SeasonFacts) (n : ℕ) (old now new : Moment) → IsRunning facts script j season old now
    → IsNext script j request → IsAnsweredInPart season request n now new → (m : ℕ) × Accepts facts old.state old.entries (take m script) new.state new.entries
accepts_within facts script j request season n old now new running next some =
    let part = answered_at facts season request n now new running.same some in
    (j + 1, accepts_next facts old.state old.entries script j request now.state new.state now.entries new.entries part.reply next running.accepted part.moves part.accepted)

-- by each fault of the next request
pub accepts_at_fault : (facts : SeasonFacts) (script : List Request) (j : ℕ) (request : Request) (season : SeasonFacts) (old now new : Moment) (fault : RunFault) → IsRunning facts script j season old now
    → IsNext script j request → (fault ≡ KeeperFault → IsUnanswered now new) → (fault ≡ OutOfMemory → IsUnanswered now new ⊎ IsAnsweredInPart season request 0 now new)
    → (fault ≡ WriteFault → (n : ℕ) × IsAnsweredInPart season request n now new) → (m : ℕ) × Accepts facts old.state old.entries (take m script) new.state new.entries
accepts_at_fault facts script j request season old now new KeeperFault running next keeper memory write = accepts_before facts script j season old now new running (keeper refl)
accepts_at_fault facts script j request season old now new OutOfMemory running next keeper memory write =
    elim (memory refl) [
      | inl un ↦ accepts_before facts script j season old now new running un
      | inr part ↦ accepts_within facts script j request season 0 old now new running next part
    ]
accepts_at_fault facts script j request season old now new WriteFault running next keeper memory write =
    let part = write refl in accepts_within facts script j request season part.0 old now new running next part.1
