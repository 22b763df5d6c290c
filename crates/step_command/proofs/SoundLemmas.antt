-- A sheet without faults gives a sound step.
use Rattle.std.proofs.Common.{◌≡◌, ◌<◌, ◌≤◌, ◌+◌, ◌==◌, ℕ, zero, suc, Bool, true, false, nat_le, cond, List, [], ◌∷◌, ◌++◌, length, drop, get_or, Option, Some, None, is_some, if◌then◌else◌, refl, sym, ap, ◌∙◌, subst, arith, add-one, length-set}
use Rattle.std.specs.Option.{option_map}
use Rattle.std.specs.Ordering.{nat_cmp, is_eq}
use Rattle.std.specs.Prelude.{slice_index_or, codes}
use Rattle.std.specs.Str.{bytes_eq}
use Rattle.std.proofs.Math.Seq.{drop-cons}
use Rattle.std.proofs.lemmas.Bool.{leb-false, leb-true}
use Rattle.std.proofs.lemmas.List.{drop_all, length_push}
use Rattle.std.proofs.lemmas.List.Quantifiers.{position-Some}
use Rattle.office_base.specs.Limits.{last_id, most_candidates, most_step_seats}
use Rattle.office_base.specs.StepChoice.{AreRanked, IsStep}
use Rattle.office_base.specs.declared.person.Person.{Person}
use Rattle.office_base.specs.declared.step.Step.{Step}
use Rattle.office_text.specs.FirstFault.{IsFaultless}
use Rattle.office_text.specs.Number.{number_within}
use Rattle.office_text.specs.Traits.{is_dash, letters, read_from, weighted_letters}
use Rattle.office_text.specs.Lines.{fields_of}
use Rattle.step_command.specs.Reading.{AreRead}
use Rattle.step_command.specs.Sheet.{SheetGives, body_judge, both, cand_fault, cand_in, cand_judge, cand_lines, cand_of, is_protect, named_from, named_with, none_named, people_from, person_of, protect_fault, protect_in, protect_of, rows_of, seats_from, sheet_judge, step_of, total, trait_in, traits_in}
use Rattle.step_command.specs.declared.fault.SheetKind.TheVariants.{ProtectionsExceedSeats, RepeatedCandidate, RepeatedProtect, TooMany}
use Rattle.step_command.proofs.CandidateLemmas.{all_people, fault_at-read, read_more}
use Rattle.step_command.proofs.RowLemmas.{cands_end_same, judged_same, named_end_same, protect_after, total-more}

-- the bits of some letters together
abbrev weight : List (ℕ × ℕ) → ℕ
weight [] = 0
weight (pair ∷ allowed) = pair.1 + weight allowed

-- one more letter or none
weigh : (here : Bool) (bit bound : ℕ) (with_it without : Option ℕ) (n : ℕ) → ((m : ℕ) → with_it ≡ Some m → m ≤ bound) → ((m : ℕ) → without ≡ Some m → m ≤ bound)
    → (if here then option_map (λ k. bit + k) with_it else without) ≡ Some n → n ≤ bit + bound
weigh true bit bound (Some m) without n a b e = let same : bit + m ≡ n = cc in omega (arith, a m refl)
weigh true bit bound None without n a b e = absurd cc
weigh false bit bound with_it without n a b e = omega (arith, b n e)

-- The letters that are read have no more bits than those allowed.
within_weight : (allowed : List (ℕ × ℕ)) (text : List ℕ) (n : ℕ) → read_from allowed text ≡ Some n → n ≤ weight allowed
within_weight [] [] n e = let same : 0 ≡ n = cc in omega arith
within_weight [] (byte ∷ text) n e = absurd cc
within_weight (pair ∷ allowed) [] n e = let same : 0 ≡ n = cc in omega arith
within_weight (pair ∷ allowed) (byte ∷ text) n e =
    weigh (pair.0 == byte) pair.1 (weight allowed) (read_from allowed text) (read_from allowed (byte ∷ text)) n (within_weight allowed text) (within_weight allowed (byte ∷ text)) e

dash_or : (dash : Bool) (text : List ℕ) (n : ℕ) → (if dash then Some 0 else read_from weighted_letters text) ≡ Some n → n < 64
dash_or true text n e = let same : 0 ≡ n = cc in omega arith
dash_or false text n e = omega (arith, within_weight weighted_letters text n e)

-- A set of traits in fields is below 64.
traits_small : (fields : List (List ℕ)) (n : ℕ) → traits_in fields ≡ Some n → n < 64
traits_small [] n e = let same : 0 ≡ n = cc in omega arith
traits_small (text ∷ []) n e = dash_or (is_dash text) text n e
traits_small (text ∷ more ∷ fields) n e = absurd cc

-- The second of both is there.
second_of : (a b : Option ℕ) (pair : ℕ × ℕ) → both a b ≡ Some pair → b ≡ Some pair.1
second_of None b pair e = absurd cc
second_of (Some m) None pair e = absurd cc
second_of (Some m) (Some n) pair e = ap (option_map (λ (p : ℕ × ℕ). p.1)) e

first_of_both : (a b : Option ℕ) (pair : ℕ × ℕ) → both a b ≡ Some pair → a ≡ Some pair.0
first_of_both None b pair e = absurd cc
first_of_both (Some m) None pair e = absurd cc
first_of_both (Some m) (Some n) pair e = ap (option_map (λ (p : ℕ × ℕ). p.0)) e

cand_word : (right : Bool) (number : List ℕ) (fields : List (List ℕ)) (cand : ℕ × ℕ) → (if right then both (number_within 1 last_id number) (traits_in fields) else None) ≡ Some cand → cand.1 < 64
cand_word true number fields cand e = traits_small fields cand.1 (second_of (number_within 1 last_id number) (traits_in fields) cand e)
cand_word false number fields cand e = absurd cc

-- A candidate's set of traits is one.
cand_traits : (fields : List (List ℕ)) (cand : ℕ × ℕ) → cand_in fields ≡ Some cand → cand.1 < 64
cand_traits [] cand e = absurd cc
cand_traits (word ∷ []) cand e = absurd cc
cand_traits (word ∷ number ∷ fields) cand e = cand_word (bytes_eq word (codes "cand")) number fields cand e

-- A trait is one of six.
trait_small : (text : List ℕ) (t : ℕ) → trait_in text ≡ Some t → t < 6
trait_small [] t e = absurd cc
trait_small (byte ∷ []) t e = (position-Some (λ other. other == byte) letters t 0 e).0
trait_small (byte ∷ next ∷ text) t e = absurd cc

protect_trait : (fields : List (List ℕ)) (pair : ℕ × ℕ) → protect_in fields ≡ Some pair → pair.0 < 6
protect_trait [] pair e = absurd cc
protect_trait (word ∷ []) pair e = absurd cc
protect_trait (word ∷ text ∷ []) pair e = absurd cc
protect_trait (word ∷ text ∷ number ∷ []) pair e = trait_small text pair.0 (first_of_both (trait_in text) (number_within 0 most_step_seats number) pair e)
protect_trait (word ∷ text ∷ number ∷ more ∷ fields) pair e = absurd cc

-- the first n of the lines are read
abbrev ReadTo : List (List ℕ) → ℕ → Type 0
ReadTo lines n = (people : List Person) × (known : ℕ → Bool) × AreRead lines people known × (length people ≡ n)

-- before the first line nobody is
none_read : (lines : List (List ℕ)) → AreRead lines [] (λ _. false)
none_read lines = record {
  within = omega arith;
  few = omega arith;
  made = refl;
  told = λ id. refl;
  faultless = λ row below. absurd (omega arith);
  ranked = record { traits = tt; placed = tt; in_order = tt; distinct = tt };
  below = tt;
}

-- where nothing is wrong with a candidate the number is new and there is room
right_parts : (known full : Bool) → (if known then Some RepeatedCandidate else if full then Some TooMany else None) ≡ None → (known ≡ false) × (full ≡ false)
right_parts true full e = absurd cc
right_parts false true e = absurd cc
right_parts false false e = (refl, refl)

-- One line more is read, where nothing is wrong with it.
read_line : (lines : List (List ℕ)) (people : List Person) (known : ℕ → Bool) (line : List ℕ) (rest : List (List ℕ)) (cand : Option (ℕ × ℕ)) → AreRead lines people known
    → drop (length people) lines ≡ line ∷ rest → cand_of line ≡ cand → cand_fault (length people) known (cand_of line) ≡ None → ReadTo lines (suc (length people))
read_line lines people known line rest None read left given right = absurd (cc (ap (cand_fault (length people) known) given))
read_line lines people known line rest (Some cand) read left given right =
    let parts = right_parts (known cand.0) (nat_le most_candidates (length people)) (sym (ap (cand_fault (length people) known) given) ∙ right) in (
      people ++ person_of (length people + 1) cand ∷ [],
      (λ q. cond (is_eq (nat_cmp cand.0 q)) true (known q)),
      read_more lines people known _ line rest cand read left given right (leb-false most_candidates (length people) parts.1) (cand_traits (fields_of line) cand given) parts.0 (λ q. refl),
      length_push people (person_of (length people + 1) cand) ∙ add-one (length people),
    )

next_read : (lines : List (List ℕ)) (n : ℕ) → IsFaultless cand_judge lines → n < length lines → ReadTo lines n → ReadTo lines (suc n)
next_read lines n none within all =
    let (people, known, read, count) = all in
    let left : drop (length people) lines ≡ get_or lines (length people) [] ∷ drop (suc (length people)) lines = drop-cons lines (length people) [] (omega arith) in
    let right : cand_fault (length people) known (cand_of (get_or lines (length people) [])) ≡ None =
    sym (fault_at-read lines people known (get_or lines (length people) []) (drop (suc (length people)) lines) read left) ∙ none (length people) (omega arith) in
    subst (λ (m : ℕ). ReadTo lines (suc m)) count (read_line lines people known (get_or lines (length people) []) (drop (suc (length people)) lines) _ read left refl right)

read_to : (lines : List (List ℕ)) (n : ℕ) → IsFaultless cand_judge lines → n ≤ length lines → ReadTo lines n
read_to lines zero none within = ([], (λ _. false), none_read lines, refl)
read_to lines (suc n) none within = next_read lines n none (omega arith) (read_to lines n none (omega arith))

-- The people of candidate lines without faults are ranked.
ranked_people : (lines : List (List ℕ)) → IsFaultless cand_judge lines → AreRanked (record { 0 = 1 }) (people_from 1 lines)
ranked_people lines none =
    let (people, known, read, count) = read_to lines (length lines) none (omega arith) in
    subst (AreRanked (record { 0 = 1 })) (all_people lines people known read (drop_all (length people) lines (omega arith))) read.ranked

-- what lines named stays within the seats with one more that has no fault
right_protect : (named within : Bool) → (if named then Some RepeatedProtect else if within then None else Some ProtectionsExceedSeats) ≡ None → (named ≡ false) × (within ≡ true)
right_protect true within e = absurd cc
right_protect false true e = (refl, refl)
right_protect false false e = absurd cc

not_named : (o : Option ℕ) → is_some o ≡ false → o ≡ None
not_named None e = refl
not_named (Some n) e = absurd cc

-- what named traits within the seats
record AreWithin (seats : ℕ) (named : List (Option ℕ)) : Type 0 where
  size : length named ≡ 6
  sum : total named ≤ seats

one_more : (seats : ℕ) (named : List (Option ℕ)) (line : List ℕ) (pair : Option (ℕ × ℕ)) → AreWithin seats named → protect_of line ≡ pair → protect_fault seats named (protect_of line) ≡ None
    → AreWithin seats (named_with named (protect_of line))
one_more seats named line None all given right = absurd (cc (ap (protect_fault seats named) given))
one_more seats named line (Some pair) all given right =
    let parts = right_protect (is_some (slice_index_or named pair.0 None)) (nat_le (total named + pair.1) seats) (sym (ap (protect_fault seats named) given) ∙ right) in
    let new = not_named (slice_index_or named pair.0 None) parts.0 in
    let small : pair.0 < 6 = protect_trait (fields_of line) pair given in
    let more = total-more named pair.0 pair.1 (omega (arith, all.size)) new in
    subst (AreWithin seats) (sym (ap (named_with named) given)) (record {
      size = length-set named pair.0 (Some pair.1) ∙ all.size;
      sum = omega (arith, more, leb-true (total named + pair.1) seats parts.1);
    })

-- The rows from the seats on name traits within the seats, and the others are candidate lines without faults.
record AreSound (seats : ℕ) (named : List (Option ℕ)) (rows : List (List ℕ)) : Type 0 where
  within : AreWithin seats (named_from named rows)
  candidates : IsFaultless cand_judge (cand_lines rows)

sound_line : (protect : Bool) (seats : ℕ) (named : List (Option ℕ)) (line : List ℕ) (rows : List (List ℕ)) → AreWithin seats named → IsFaultless (body_judge seats named) (line ∷ rows) → is_protect line ≡ protect
    → ((next : List (Option ℕ)) → AreWithin seats next → IsFaultless (body_judge seats next) rows → AreSound seats next rows) → AreSound seats named (line ∷ rows)
sound_line true seats named line rows all none protect others =
    let right : protect_fault seats named (protect_of line) ≡ None =
    subst (λ (b : Bool). (if b then protect_fault seats named (protect_of line) else cand_judge [] (Some line)) ≡ None) protect (none zero (omega arith)) in
    let more = one_more seats named line _ all refl right in
    let rest = others (named_with named (protect_of line)) more (λ m within. sym (protect_after seats named line rows protect m (suc m) (omega arith)) ∙ none (suc m) (omega arith)) in
    record {
      within = rw protect rest.within;
      candidates = rw protect rest.candidates;
    }
sound_line false seats named line rows all none protect others = record {
  within = subst (AreWithin seats) (sym (named_end_same named (line ∷ rows) protect)) all;
  candidates = subst (IsFaultless cand_judge) (sym (cands_end_same (line ∷ rows) protect)) (λ m within. sym (judged_same seats named (line ∷ rows) protect m) ∙ none m within);
}

sound_rows : (seats : ℕ) (named : List (Option ℕ)) (rows : List (List ℕ)) → AreWithin seats named → IsFaultless (body_judge seats named) rows → AreSound seats named rows
sound_rows seats named [] all none = record { within = all; candidates = λ m within. sym (judged_same seats named [] refl m) ∙ none m within }
sound_rows seats named (line ∷ rows) all none = sound_line (is_protect line) seats named line rows all none refl (λ next. sound_rows seats next rows)

-- A sheet without faults gives a sound step.
sound_step : (rows : List (List ℕ)) → IsFaultless sheet_judge rows → IsStep (step_of rows)
sound_step [] none = absurd (cc (none zero (omega arith)))
sound_step (first ∷ []) none = absurd (cc (none (suc zero) (omega arith)))
sound_step (first ∷ second ∷ lines) none =
    let nought : total none_named ≡ 0 = refl in
    let sound = sound_rows (seats_from second) none_named lines (record { size = refl; sum = omega arith }) (λ m within. none (suc (suc m)) (omega arith)) in
    record {
      list = (omega arith, omega arith);
      people = ranked_people (cand_lines lines) sound.candidates;
      protections = sound.within.sum;
    }

pub sound_sheet : (bytes : List ℕ) (step : Step) → SheetGives bytes step → IsStep step
sound_sheet bytes step gives = subst IsStep (sym gives.given) (sound_step (rows_of bytes) gives.faultless)
