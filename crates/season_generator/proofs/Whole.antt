-- The season that is made up has no fault.
use Rattle.std.proofs.Common.{◌≡◌, ◌≤◌, ◌⊎◌, ◌+◌, ◌-◌, ◌*◌, ◌/◌, ℕ, true, List, [], ◌∷◌, ◌++◌, None, Result, Ok, Err, length, refl, sym, ap, subst, ◌∙◌, append_assoc, length-append, arith, inl, inr, lit≤}
use Rattle.std.specs.Prelude.{codes}
use Rattle.std.specs.List.{range_with_len}
use Rattle.std.specs.List.Sorted.{IsPermutation}
use Rattle.std.proofs.lemmas.Str.{IsUtf8-from_ascii}
use Rattle.office_base.specs.Limits.{most_bundle_bytes}
use Rattle.office_asks.specs.declared.ask.Request.{Request}
use Rattle.office_text.specs.Number.{AreInverse}
use Rattle.section_rows.specs.Rows.{Row}
use Rattle.section_rows.specs.Table.{Given}
use Rattle.section_rows.proofs.StageLemmas.{not_both, one_ok}
use Rattle.rank_lists.specs.Laws as rank_laws
use Rattle.rank_lists.specs.Register as rank_grammar
use Rattle.seat_matrix.specs.Laws as seat_laws
use Rattle.seat_matrix.specs.Matrix as seat_grammar
use Rattle.choice_lists.specs.Laws as choice_laws
use Rattle.choice_lists.specs.Choices as choice_grammar
use Rattle.request_rows.specs.Requests.{script_of}
use Rattle.season_generator.specs.Bundle.{choices_row, choices_text, programme_code, generated, lines, matrix_text, places, programme_rows, register_text, requests_text, season_head}
use Rattle.season_generator.specs.Draws.{state_after}
use Rattle.season_file.specs.Bundle.{bundle_of}
use Rattle.season_file.specs.Head.{head_of}
use Rattle.season_file.specs.Season.{BundleGives, IsText, SectionsGive, request_rows_of}
use Rattle.season_file.specs.declared.content.Content.{Content}
use Rattle.season_file.specs.declared.head.Head.{Head}
use Rattle.season_generator.specs.Laws.{IsSeasonBundle}
use Rattle.season_generator.proofs.Chosen.{HasCandidates, HasProgrammes, choice_rows, choices_lines, chosen, entries_to}
use Rattle.season_generator.proofs.Cut.{bundle-ascii, bundle-cut, bundle_text, parts_made, requests_section}
use Rattle.season_generator.proofs.Lengths.{choices-length, matrix-length, register-length, requests-length}
use Rattle.season_generator.proofs.ListedPlaces.{ArePlaces, are-places}
use Rattle.season_generator.proofs.Plain.{AreWordRows, rows-back, text_of}
use Rattle.season_generator.proofs.Registered.{clerk-apart, person-found, register_rows, registered}
use Rattle.season_generator.proofs.Requested.{request_rows, requested}
use Rattle.season_generator.proofs.Seated.{codes-to, home-found, matrix_lines, matrix_rows, seated}

-- ---- rows whose entries are known give something

made-of : {Entry Kind Value : Type 0} (table : Given Entry Kind) (Makes : List Entry → Value → Type 0) (entries : List Entry) → table ≡ Ok entries
    → ((value : Value) × ((others : List Entry) × (table ≡ Ok others) × Makes others value)) ⊎ ((row : ℕ) × (kind : Kind) × (table ≡ Err (row, kind))) → (value : Value) × Makes entries value
made-of {Entry} table Makes entries e (inl read) = (read.0, subst (λ (es : List Entry). Makes es read.0) (one_ok table read.1.0 entries read.1.1 e) read.1.2)
made-of table Makes entries e (inr fault) = absurd (not_both table entries (fault.0, fault.1) e fault.2)

-- ---- the season's section

season_rows : List Row
season_rows = (codes "rounds" ∷ codes "6" ∷ []) ∷ (codes "clerk" ∷ codes "clerk0001" ∷ []) ∷ []

abbrev head_made : Head
head_made = record { rounds = 6; clerk = codes "clerk0001"; row = 2 }

season-words : AreWordRows season_rows
unfolding season_rows
season-words = ((refl, (refl, tt)), ((refl, (refl, tt)), tt))

season-read : head_of season_rows ≡ Ok head_made
unfolding season_rows
season-read = refl

season-head : (rest : List ℕ) → season_head ++ rest ≡ codes "office bundle 1\n" ++ (codes "[season]\n" ++ (text_of season_rows ++ rest))
unfolding season_rows
season-head rest = refl

season-length : length (text_of season_rows) ≤ 100
unfolding season_rows
season-length = lit≤ tt

-- ---- the text

regroup : (h r m c q : List ℕ) → (((h ++ r) ++ m) ++ c) ++ q ≡ h ++ (r ++ (m ++ (c ++ q)))
regroup h r m c q = simp append_assoc

matrix-text : (n count : ℕ) → count ≡ 100 → matrix_text n ≡ matrix_lines (n / 800 + 1) count
unfolding matrix_text
matrix-text n count is = ap (λ (c : ℕ). codes "[matrix]\nprogramme,institute,list,step,seats,W,D,X,S,F,L\n" ++ lines c (programme_rows (n / 800 + 1))) (sym is)

choices-text : (n most state : ℕ) → most ≡ 40 → choices_text n state ≡ choices_lines most n state
unfolding choices_text choices_row
choices-text n most state is = ap (λ (m : ℕ). choices_lines m n state) (sym is)

-- What is known of the sections' rows.
record AreMade (n profiles answers : ℕ) (first second : List ℕ) (register matrix choices requests : List Row) : Type 0 where
  register-text : register_text n profiles first second ≡ codes "[register]\n" ++ text_of register
  matrix-text : matrix_text n ≡ codes "[matrix]\n" ++ text_of matrix
  choices-text : choices_text n profiles ≡ codes "[choices]\n" ++ text_of choices
  requests-text : requests_text n answers ≡ codes "[requests]\n" ++ text_of requests

whole-text : (n profiles answers : ℕ) (first second : List ℕ) (register matrix choices requests : List Row) → AreMade n profiles answers first second register matrix choices requests
    → season_head ++ register_text n profiles first second ++ matrix_text n ++ choices_text n profiles ++ requests_text n answers ≡ bundle_text season_rows register matrix choices requests
whole-text n profiles answers first second register matrix choices requests made =
    let r5 = requests_section requests in
    let c : List ℕ = text_of choices in
    let m : List ℕ = text_of matrix in
    let g : List ℕ = text_of register in
    regroup season_head (register_text n profiles first second) (matrix_text n) (choices_text n profiles) (requests_text n answers)
    ∙ ap (λ (l : List ℕ). season_head ++ (register_text n profiles first second ++ (matrix_text n ++ (choices_text n profiles ++ l)))) made.requests-text
    ∙ ap (λ (l : List ℕ). season_head ++ (register_text n profiles first second ++ (matrix_text n ++ (l ++ r5)))) made.choices-text
    ∙ ap (λ (l : List ℕ). season_head ++ (register_text n profiles first second ++ (matrix_text n ++ l))) (append_assoc (codes "[choices]\n") c r5)
    ∙ ap (λ (l : List ℕ). season_head ++ (register_text n profiles first second ++ (l ++ (codes "[choices]\n" ++ (c ++ r5))))) made.matrix-text
    ∙ ap (λ (l : List ℕ). season_head ++ (register_text n profiles first second ++ l)) (append_assoc (codes "[matrix]\n") m (codes "[choices]\n" ++ (c ++ r5)))
    ∙ ap (λ (l : List ℕ). season_head ++ (l ++ (codes "[matrix]\n" ++ (m ++ (codes "[choices]\n" ++ (c ++ r5)))))) made.register-text
    ∙ ap (λ (l : List ℕ). season_head ++ l) (append_assoc (codes "[register]\n") g (codes "[matrix]\n" ++ (m ++ (codes "[choices]\n" ++ (c ++ r5)))))
    ∙ season-head (codes "[register]\n" ++ (g ++ (codes "[matrix]\n" ++ (m ++ (codes "[choices]\n" ++ (c ++ r5))))))

-- the length of a bundle
bundle-length : (season register matrix choices requests : List Row)
    → length (bundle_text season register matrix choices requests) ≡ 66 + (length (text_of season) + (length (text_of register) + (length (text_of matrix) + (length (text_of choices) + length (text_of requests)))))
bundle-length season register matrix choices requests =
    let r5 = requests_section requests in
    let r4 : List ℕ = codes "[choices]\n" ++ (text_of choices ++ r5) in
    let r3 : List ℕ = codes "[matrix]\n" ++ (text_of matrix ++ r4) in
    let r2 : List ℕ = codes "[register]\n" ++ (text_of register ++ r3) in
    omega (arith, length-append (text_of season) r2, length-append (text_of register) r3, length-append (text_of matrix) r4, length-append (text_of choices) r5)

-- ---- the whole

-- The laws of the sections' readers.
pub record Readers : Type 0 where
  pub inverse : AreInverse
  pub once : (n state : ℕ) → IsPermutation (range_with_len 1 n) (places n state)
  pub ranks : (rows : List Row) → rank_laws.HaveOneReading rows
  pub table : (rows : List Row) → seat_laws.HaveOneReading rows
  pub lists : (ranks : rank_grammar.Ranks) (table : seat_grammar.SeatTable) (rows : List Row) → choice_laws.HaveOneReading ranks table rows

-- What the rows of the sections give.
record Give (bytes : List ℕ) (register matrix choices requests : List Row) : Type 0 where
  same : bytes ≡ bundle_text season_rows register matrix choices requests
  short : length (bundle_text season_rows register matrix choices requests) ≤ most_bundle_bytes
  register-words : AreWordRows register
  matrix-words : AreWordRows matrix
  choices-words : AreWordRows choices
  requests-words : AreWordRows requests
  ranks : rank_grammar.Ranks
  ranks-read : rank_grammar.IsRead register ranks
  table : seat_grammar.SeatTable
  table-read : seat_grammar.IsRead matrix table
  lists : choice_grammar.Lists
  lists-read : choice_grammar.IsRead ranks table choices lists
  sound : choice_grammar.AreChoices ranks table lists
  script : List Request
  script-read : script_of requests ≡ Ok script
  apart : rank_grammar.find_holder (codes "clerk0001") ranks.holders ≡ None

bundle-given : (bytes : List ℕ) (register matrix choices requests : List Row) → Give bytes register matrix choices requests → IsSeasonBundle bytes
bundle-given bytes register matrix choices requests give =
    let parts = parts_made season_rows register matrix choices requests in
    let whole = bundle_text season_rows register matrix choices requests in
    let content : Content = record { version = 1; head = head_made; register = give.ranks; matrix = give.table; choices = give.lists } in
    let cut : bundle_of true whole ≡ Ok parts =
    bundle-cut season_rows register matrix choices requests season-words give.register-words give.matrix-words give.choices-words give.requests-words in
    let text : IsText whole = record {
      short = give.short;
      utf8 = IsUtf8-from_ascii whole (bundle-ascii season_rows register matrix choices requests season-words give.register-words give.matrix-words give.choices-words give.requests-words);
    } in
    let sections : SectionsGive parts content = record {
      version = refl;
      head = ap head_of (rows-back season_rows season-words) ∙ season-read;
      register = subst (λ (rows : List Row). rank_grammar.IsRead rows give.ranks) (sym (rows-back register give.register-words)) give.ranks-read;
      matrix = subst (λ (rows : List Row). seat_grammar.IsRead rows give.table) (sym (rows-back matrix give.matrix-words)) give.table-read;
      choices = subst (λ (rows : List Row). choice_grammar.IsRead give.ranks give.table rows give.lists) (sym (rows-back choices give.choices-words)) give.lists-read;
      sound = give.sound;
    } in
    let script : script_of (request_rows_of parts) ≡ Ok give.script = ap script_of (rows-back requests give.requests-words) ∙ give.script-read in
    let given : BundleGives true whole content give.script = (text, (parts, cut, sections, script), give.apart) in
    (content, give.script, subst (λ (b : List ℕ). BundleGives true b content give.script) (sym give.same) given)

generated-by : Readers → (n seed count most : ℕ) → n ≤ 100000 → count ≡ 100 → most ≡ 40 → IsSeasonBundle (generated n seed)
unfolding generated
generated-by readers n seed count most small is-count is-most =
    let second = state_after (n - 1) seed in
    let profiles = state_after (n - 1) second in
    let answers = state_after (6 * n) profiles in
    let size = n / 800 + 1 in
    let size-small : size ≤ 126 = omega (arith, small) in
    let inverse = readers.inverse in
    let firsts : ArePlaces n (places n seed) = are-places n (places n seed) (readers.once n seed) in
    let seconds : ArePlaces n (places n second) = are-places n (places n second) (readers.once n second) in
    let register = register_rows n profiles (places n seed) (places n second) in
    let matrix = matrix_rows size count in
    let choices = choice_rows most n profiles in
    let requests = request_rows n answers in
    let in-register = registered inverse n profiles (places n seed) (places n second) small firsts seconds in
    let in-matrix = seated inverse size count size-small (omega (arith, is-count)) in
    let (ranks, ranks-are) = made-of (rank_grammar.entries_of register) rank_grammar.IsRegister _ in-register.read (readers.ranks register).some in
    let (table, table-is) = made-of (seat_grammar.entries_of matrix) seat_grammar.IsMatrix _ in-matrix.read (readers.table matrix).some in
    let people : HasCandidates n profiles (places n seed) (places n second) ranks = λ i less.
    ranks-are.people (i + 1) ∙ person-found n profiles (places n seed) (places n second) i less in
    let programmes : HasProgrammes count table = record {
      few = omega (arith, is-count);
      all = omega (arith, is-count);
      codes = table-is.programmes ∙ codes-to size count;
      homes = λ p less. table-is.homes (programme_code p) ∙ home-found size count p less;
    } in
    let in-choices = chosen inverse count most n profiles (places n seed) (places n second) ranks table (omega (arith, is-most)) small people programmes in
    let lists = choice_grammar.lists_for ranks (entries_to most profiles n) in
    let lists-are : choice_grammar.IsRead ranks table choices lists = (entries_to most profiles n, in-choices.read, refl) in
    let in-requests = requested inverse n answers small in
    bundle-given (generated n seed) register matrix choices requests (record {
      same = whole-text n profiles answers (places n seed) (places n second) register matrix choices requests (record {
        register-text = in-register.text;
        matrix-text = matrix-text n count is-count ∙ in-matrix.text;
        choices-text = choices-text n most profiles is-most ∙ in-choices.text;
        requests-text = in-requests.text;
      });
      short = omega (
        arith,
        small,
        is-count,
        season-length,
        bundle-length season_rows register matrix choices requests,
        register-length n profiles (places n seed) (places n second) small firsts seconds,
        matrix-length size count size-small (omega (arith, is-count)),
        choices-length most n profiles (omega (arith, is-most)) small,
        requests-length n answers small,
      );
      register-words = in-register.words;
      matrix-words = in-matrix.words;
      choices-words = in-choices.words;
      requests-words = in-requests.words;
      ranks = ranks;
      ranks-read = (_, in-register.read, ranks-are);
      table = table;
      table-read = (_, in-matrix.read, table-is);
      lists = lists;
      lists-read = lists-are;
      sound = (readers.lists ranks table choices).sound lists lists-are;
      script = in-requests.script;
      script-read = in-requests.read;
      apart = ranks-are.holders (codes "clerk0001") ∙ clerk-apart n profiles (places n seed) (places n second);
    })

-- The season that is made up is a season bundle.
pub is-bundle : Readers → (n seed : ℕ) → n ≤ 100000 → IsSeasonBundle (generated n seed)
is-bundle readers n seed small = generated-by readers n seed 100 40 small refl refl
