-- What a piece of a line of a list begins, part by part.
use Rattle.std.proofs.Common.{◌≡◌, ◌<◌, ◌≤◌, ◌-◌, ◌^◌, ℕ, zero, suc, true, false, List, [], ◌∷◌, ◌++◌, Option, Some, None, IfSome, length, get_or, refl, sym, inl, inr, ap, subst, ◌∙◌, arith, append_assoc, unwrap_or, is_some, eq-eqb, eqb}
use Rattle.std.proofs.lemmas.Bool.{cases_eq, cond-true, cond-false, false≢true, ne_eqb}
use Rattle.std.specs.Fmt.{decimal}
use Rattle.std.specs.Prelude.{codes}
use Rattle.office_base.specs.declared.person.Person.{Person}
use Rattle.office_base.specs.declared.step.StepKind.{StepKind}
use Rattle.published_texts.specs.Texts.{code_in}
use Rattle.rank_lists.specs.Register.{find_person}
use Rattle.seat_matrix.specs.Matrix.{SeatTable}
use Rattle.step_lines.specs.Lines.{slot_letter, step_name}
use Rattle.text_readers.specs.Parts.{IsApart, IsLeft, is_prefix}
use Rattle.list_texts.specs.ListLines.{BeginsLine, CanStand, IsListHead, IsStepHead, entry_words, honoured_words, list_words, slots_in, step_words}
use Rattle.list_texts.specs.ListPieces.{BeginsCandidates, BeginsCount, BeginsEntry, BeginsLetter, BeginsListCode, BeginsNumbered, BeginsSeats, BeginsSlot, IsPast}
use Rattle.list_texts.specs.ListReader.{AreRising}
use Rattle.list_texts.specs.Listing.{is_listed}
use Rattle.list_texts.proofs.FreeLemmas.{found-later}

-- ---- the first line

list-assoc : (table : SeatTable) (number prog : ℕ) → list_words table (number, prog) ++ 10 ∷ [] ≡ codes "list " ++ (decimal number ++ 32 ∷ (code_in table prog ++ 10 ∷ []))
list-assoc table number prog = ap (λ z. codes "list " ++ z) (append_assoc (decimal number) (32 ∷ code_in table prog) (10 ∷ []))

module _ (table : SeatTable) (piece : List ℕ) where
  list-line : (prog : ℕ) → prog < length table.programmes → BeginsNumbered (codes "list ") 65535 (code_in table prog ++ 10 ∷ []) piece → BeginsLine (list_words table) (IsListHead table) piece
  list-line prog within b = record {
    part = (b.number, prog);
    may = (omega (arith, b.within), within);
    begins = ap (is_prefix piece) (list-assoc table b.number prog) ∙ b.begins;
  }

  line-list : (b : BeginsLine (list_words table) (IsListHead table) piece) → BeginsNumbered (codes "list ") 65535 (code_in table b.part.1 ++ 10 ∷ []) piece
  line-list b = record { number = b.part.0; within = omega (arith, b.may.0); begins = ap (is_prefix piece) (sym (list-assoc table b.part.0 b.part.1)) ∙ b.begins }

  pub list-inside : 0 < length table.programmes → ((tail : List ℕ) → BeginsNumbered (codes "list ") 65535 tail piece) → BeginsLine (list_words table) (IsListHead table) piece
  list-inside some all = list-line 0 some (all (code_in table 0 ++ 10 ∷ []))

  pub list-past : (rest : List ℕ) → IsPast (codes "list ") 65535 piece rest → BeginsListCode table rest → BeginsLine (list_words table) (IsListHead table) piece
  list-past rest past b = list-line b.prog b.within (past.on (code_in table b.prog ++ 10 ∷ []) b.begins)

  pub past-list : (rest : List ℕ) → IsPast (codes "list ") 65535 piece rest → BeginsLine (list_words table) (IsListHead table) piece → BeginsListCode table rest
  past-list rest past b = record { prog = b.part.1; within = b.may.1; begins = past.back (code_in table b.part.1 ++ 10 ∷ []) (line-list b) }

  pub list-apart : ((tail : List ℕ) → BeginsNumbered (codes "list ") 65535 tail piece → ⊥) → BeginsLine (list_words table) (IsListHead table) piece → ⊥
  list-apart never b = never (code_in table b.part.1 ++ 10 ∷ []) (line-list b)

-- ---- the numbers of a step

abbrev count_tail : ℕ → List ℕ
count_tail count = codes "admitted " ++ (decimal count ++ 10 ∷ [])

abbrev candidates_tail : ℕ → ℕ → List ℕ
candidates_tail candidates count = codes "candidates " ++ (decimal candidates ++ 32 ∷ count_tail count)

module _ (most : ℕ) (piece : List ℕ) where
  candidates-line : (count : ℕ) → count ≤ most → BeginsNumbered (codes "candidates ") 4294967295 (count_tail count) piece → BeginsCandidates most piece
  candidates-line count within b = record { candidates = b.number; count = count; many = omega (arith, b.within); within = within; begins = b.begins }

  line-candidates : (b : BeginsCandidates most piece) → BeginsNumbered (codes "candidates ") 4294967295 (count_tail b.count) piece
  line-candidates b = record { number = b.candidates; within = omega (arith, b.many); begins = b.begins }

  pub candidates-inside : ((tail : List ℕ) → BeginsNumbered (codes "candidates ") 4294967295 tail piece) → BeginsCandidates most piece
  candidates-inside all = candidates-line 0 (omega arith) (all (count_tail 0))

  pub candidates-past : (rest : List ℕ) → IsPast (codes "candidates ") 4294967295 piece rest → BeginsCount (codes "admitted ") most rest → BeginsCandidates most piece
  candidates-past rest past b = candidates-line b.count b.within (past.on (count_tail b.count) b.begins)

  pub past-candidates : (rest : List ℕ) → IsPast (codes "candidates ") 4294967295 piece rest → BeginsCandidates most piece → BeginsCount (codes "admitted ") most rest
  past-candidates rest past b = record { count = b.count; within = b.within; begins = past.back (count_tail b.count) (line-candidates b) }

  pub candidates-apart : ((tail : List ℕ) → BeginsNumbered (codes "candidates ") 4294967295 tail piece → ⊥) → BeginsCandidates most piece → ⊥
  candidates-apart never b = never (count_tail b.count) (line-candidates b)

  seats-line : (candidates count : ℕ) → candidates < 2 ^ 32 → count ≤ most → BeginsNumbered (codes " seats ") 4294967295 (candidates_tail candidates count) piece → BeginsSeats most piece
  seats-line candidates count many within b = record { seats = b.number; candidates = candidates; count = count; enough = omega (arith, b.within); many = many; within = within; begins = b.begins }

  line-seats : (b : BeginsSeats most piece) → BeginsNumbered (codes " seats ") 4294967295 (candidates_tail b.candidates b.count) piece
  line-seats b = record { number = b.seats; within = omega (arith, b.enough); begins = b.begins }

  pub seats-inside : ((tail : List ℕ) → BeginsNumbered (codes " seats ") 4294967295 tail piece) → BeginsSeats most piece
  seats-inside all = seats-line 0 0 (omega arith) (omega arith) (all (candidates_tail 0 0))

  pub seats-past : (rest : List ℕ) → IsPast (codes " seats ") 4294967295 piece rest → BeginsCandidates most rest → BeginsSeats most piece
  seats-past rest past b = seats-line b.candidates b.count b.many b.within (past.on (candidates_tail b.candidates b.count) b.begins)

  pub past-seats : (rest : List ℕ) → IsPast (codes " seats ") 4294967295 piece rest → BeginsSeats most piece → BeginsCandidates most rest
  past-seats rest past b = record { candidates = b.candidates; count = b.count; many = b.many; within = b.within; begins = past.back (candidates_tail b.candidates b.count) (line-seats b) }

  pub seats-apart : ((tail : List ℕ) → BeginsNumbered (codes " seats ") 4294967295 tail piece → ⊥) → BeginsSeats most piece → ⊥
  seats-apart never b = never (candidates_tail b.candidates b.count) (line-seats b)

-- ---- the line of a step

seats_tail : ℕ → ℕ → ℕ → List ℕ
seats_tail seats candidates count = codes " seats " ++ (decimal seats ++ 32 ∷ (codes "candidates " ++ (decimal candidates ++ 32 ∷ (codes "admitted " ++ (decimal count ++ 10 ∷ [])))))

step-assoc : (kind : StepKind) (seats candidates count : ℕ) → step_words kind (seats, candidates, count) ++ 10 ∷ [] ≡ codes "step " ++ (step_name kind ++ seats_tail seats candidates count)
unfolding seats_tail
step-assoc kind seats candidates count =
    let last = codes "admitted " ++ decimal count in
    let later = codes "candidates " ++ (decimal candidates ++ 32 ∷ last) in
    ap (λ z. codes "step " ++ z) (append_assoc (step_name kind) (codes " seats " ++ (decimal seats ++ 32 ∷ later)) (10 ∷ [])
    ∙ ap (λ z. step_name kind ++ (codes " seats " ++ z)) (append_assoc (decimal seats) (32 ∷ later) (10 ∷ [])
    ∙ ap (λ z. decimal seats ++ 32 ∷ (codes "candidates " ++ z)) (append_assoc (decimal candidates) (32 ∷ last) (10 ∷ []))))

module _ (kind : StepKind) (most : ℕ) (piece : List ℕ) where
  tail-of : (b : BeginsLine (step_words kind) (IsStepHead most) piece) → is_prefix piece (codes "step " ++ (step_name kind ++ seats_tail b.part.0 b.part.1 b.part.2)) ≡ true
  tail-of b = ap (is_prefix piece) (sym (step-assoc kind b.part.0 b.part.1 b.part.2)) ∙ b.begins

  pub step-apart : IsApart piece (codes "step ") → BeginsLine (step_words kind) (IsStepHead most) piece → ⊥
  step-apart apart b = false≢true (sym (apart (step_name kind ++ seats_tail b.part.0 b.part.1 b.part.2)) ∙ tail-of b)

  module _ (rest : List ℕ) (left : IsLeft piece (codes "step ") rest) where
    name-of : (b : BeginsLine (step_words kind) (IsStepHead most) piece) → is_prefix rest (step_name kind ++ seats_tail b.part.0 b.part.1 b.part.2) ≡ true
    name-of b = sym (left.same (step_name kind ++ seats_tail b.part.0 b.part.1 b.part.2)) ∙ tail-of b

    pub name-apart : IsApart rest (step_name kind) → BeginsLine (step_words kind) (IsStepHead most) piece → ⊥
    name-apart apart b = false≢true (sym (apart (seats_tail b.part.0 b.part.1 b.part.2)) ∙ name-of b)

    module _ (last : List ℕ) (name : IsLeft rest (step_name kind) last) where
      pub seats-step : BeginsSeats most last → BeginsLine (step_words kind) (IsStepHead most) piece
      unfolding seats_tail
      seats-step b = record {
        part = (b.seats, b.candidates, b.count);
        may = (b.enough, b.many, b.within);
        begins = ap (is_prefix piece) (step-assoc kind b.seats b.candidates b.count) ∙ left.same (step_name kind ++ seats_tail b.seats b.candidates b.count) ∙ name.same (seats_tail b.seats b.candidates b.count) ∙ b.begins;
      }

      pub step-seats' : BeginsLine (step_words kind) (IsStepHead most) piece → BeginsSeats most last
      unfolding seats_tail
      step-seats' b = record {
        seats = b.part.0;
        candidates = b.part.1;
        count = b.part.2;
        enough = b.may.0;
        many = b.may.1;
        within = b.may.2;
        begins = sym (name.same (seats_tail b.part.0 b.part.1 b.part.2)) ∙ name-of b;
      }

-- ---- slots

pub honoured-line : (most : ℕ) (piece : List ℕ) → BeginsCount (codes "honoured ") most piece → BeginsLine honoured_words (λ slots. slots ≤ most) piece
honoured-line most piece b = record { part = b.count; may = b.within; begins = ap (is_prefix piece) (append_assoc (codes "honoured ") (decimal b.count) (10 ∷ [])) ∙ b.begins }

pub line-honoured : (most : ℕ) (piece : List ℕ) → BeginsLine honoured_words (λ slots. slots ≤ most) piece → BeginsCount (codes "honoured ") most piece
line-honoured most piece b = record { count = b.part; within = b.may; begins = ap (is_prefix piece) (sym (append_assoc (codes "honoured ") (decimal b.part) (10 ∷ []))) ∙ b.begins }

-- ---- slots of rows

module _ (left slots : ℕ) (piece : List ℕ) where
  pub dash-slot : (slots ≤ left) × (is_prefix piece (45 ∷ 10 ∷ []) ≡ true) → BeginsSlot left slots piece
  dash-slot can = record { slot = None; known = tt; some = omega arith; enough = omega (arith, can.0); begins = can.1 }

  pub trait-slot : (0 < slots) × (slots - 1 ≤ left) × BeginsLetter piece → BeginsSlot left slots piece
  trait-slot can = record { slot = Some can.2.slot; known = can.2.within; some = omega (arith, can.0); enough = can.1; begins = can.2.begins }

  -- a dash or a letter
  pub slot-either : BeginsSlot left slots piece → ((slots ≤ left) × (is_prefix piece (45 ∷ 10 ∷ []) ≡ true) → ⊥) → (0 < slots) × (slots - 1 ≤ left) × BeginsLetter piece
  slot-either b never = from b.slot b.known b.some b.enough b.begins
    where
      from : (slot : Option ℕ) → IfSome slot (λ t. t < 6) → slots_in slot ≤ slots → slots - slots_in slot ≤ left → is_prefix piece (slot_letter slot ∷ 10 ∷ []) ≡ true → (0 < slots) × (slots - 1 ≤ left) × BeginsLetter piece
      from None known some enough begins = absurd (never (omega (arith, enough), begins))
      from (Some t) known some enough begins = (omega (arith, some), enough, record { slot = t; within = known; begins = begins })

-- ---- the people of rows

-- within a list the default does not matter
pub get-same : (people : List Person) (at : ℕ) (d e : Person) → at < length people → get_or people at d ≡ get_or people at e
get-same [] at d e within = absurd (omega (arith, within))
get-same (p ∷ people) zero d e within = refl
get-same (p ∷ people) (suc at) d e within = get-same people at d e (omega (arith, within))

-- everybody is found by the id
pub at-found : (people : List Person) (at : ℕ) (d : Person) → AreRising people → at < length people → find_person (get_or people at d).id.0 people ≡ Some (get_or people at d)
at-found [] at d rising within = absurd (omega (arith, within))
at-found (p ∷ people) zero d rising within = cond-true (eqb p.id.0 p.id.0) (Some p) (find_person p.id.0 people) (eq-eqb p.id.0 p.id.0 refl)
at-found (p ∷ people) (suc at) d rising within = found-later p people (get_or people at d) rising (at-found people at d rising.1 (omega (arith, within)))

-- a person who is found is somewhere
pub found-at : (people : List Person) (id : ℕ) (person d : Person) → find_person id people ≡ Some person → (at : ℕ) × (at < length people) × (get_or people at d ≡ person)
found-at [] id person d e = absurd (false≢true (ap is_some e))
found-at (p ∷ people) id person d e = elim (cases_eq id p.id.0) [
  | inl same ↦ (0, omega arith, ap (λ o. unwrap_or o p) (sym (cond-true (eqb id p.id.0) (Some p) (find_person id people) (eq-eqb id p.id.0 same)) ∙ e))
  | inr other ↦
      let (at, within, is) = found-at people id person d (sym (cond-false (eqb id p.id.0) (Some p) (find_person id people) (ne_eqb id p.id.0 other)) ∙ e) in
      (suc at, omega (arith, within), is)
]

module _ (people admitted : List Person) (left slots : ℕ) (piece : List ℕ) where
  -- the row of a person who had none
  pub entries-from : (person : Person) → find_person person.id.0 people ≡ Some person → is_listed person.id.0 admitted ≡ false → BeginsEntry person.id.0 left slots piece
      → BeginsLine entry_words (CanStand people admitted left slots) piece
  entries-from person found new b = record {
    part = (person, b.slot);
    may = record { is = record { known = found; new = new; slot = b.known }; some = b.some; enough = b.enough };
    begins = ap (is_prefix piece) (append_assoc (decimal person.id.0) (32 ∷ slot_letter b.slot ∷ []) (10 ∷ [])) ∙ b.begins;
  }

  -- no row of anybody
  pub entries-none : (d : Person) → ((at : ℕ) → at < length people → is_listed (get_or people at d).id.0 admitted ≡ false → BeginsEntry (get_or people at d).id.0 left slots piece → ⊥)
      → BeginsLine entry_words (CanStand people admitted left slots) piece → ⊥
  entries-none d never b =
      let person = b.part.0 in
      let (at, within, is) = found-at people person.id.0 person d b.may.is.known in
      never at within (ap (λ p. is_listed p.id.0 admitted) is ∙ b.may.is.new)
      (subst (λ p. BeginsEntry p.id.0 left slots piece) (sym is) (record {
        slot = b.part.1;
        known = b.may.is.slot;
        some = b.may.some;
        enough = b.may.enough;
        begins = ap (is_prefix piece) (sym (append_assoc (decimal person.id.0) (32 ∷ slot_letter b.part.1 ∷ []) (10 ∷ []))) ∙ b.begins;
      }))
