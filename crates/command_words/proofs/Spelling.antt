-- How commands are spelled.
use Rattle.std.proofs.Common.{◌≡◌, ◌≤◌, ◌<◌, ◌^◌, ◌⊎◌, ◌&&◌, inl, inr, true≢false, ℕ, zero, suc, Bool, true, false, List, [], ◌∷◌, Option, Some, None, Result, Ok, Err, length, refl, sym, ap, subst, arith, ◌∙◌}
use Rattle.std.specs.Prelude.{IfOk, IfSome, IsErrOf, option_map, slice_get}
use Rattle.std.specs.List.{list_all}
use Rattle.std.specs.Borrow.{Bor}
use Rattle.std.specs.Fmt.{decimal}
use Rattle.std.proofs.lemmas.Bool.Decides.{eqb_tells}
use Rattle.office_text.specs.Number.{AreInverse, is_number, number_of}
use Rattle.command_words.specs.Parts.{ArePlain, AreParts, NamePlain, is_plain}
use Rattle.command_words.specs.Words.{IsInRange, IsNamed, Spell, SpellNothing, word_of, word_out, word_start, words_of}
use Rattle.command_words.specs.declared.parts.Parts.{Parts}
use Rattle.command_words.specs.declared.words.Command.{Command}
use Rattle.command_words.specs.declared.words.Command.TheVariants.{Step, Check, Run, Resume, Units, Special, SpecialLists, Serve, Audit, AuditBest, Generate}
use Rattle.command_words.specs.declared.words.OutKind.{OutKind}
use Rattle.command_words.specs.declared.words.OutKind.TheVariants as out_kind
use Rattle.command_words.specs.declared.words.Start.{Start}
use Rattle.command_words.specs.declared.words.Start.TheVariants.{New, Kept}
use Rattle.command_words.specs.declared.words.WordsFault.{WordsFault}
use Rattle.command_words.specs.declared.words.WordsFault.TheVariants.{Usage}
use Rattle.command_words.specs.declared.words.Store.{Store}
use Rattle.command_words.specs.declared.words.Store.TheVariants.{Memory, File}

-- ---- numbers

-- digits are read as their number
digits_of : AreInverse → (n : ℕ) → n < 2 ^ 32 → number_of (decimal n) ≡ Some n
digits_of own n small = own.read_back n (omega (arith, small))

-- numbers with the same digits are one
one_number : AreInverse → (m n : ℕ) → m < 2 ^ 32 → n < 2 ^ 32 → decimal m ≡ decimal n → m ≡ n
one_number own m n first second same =
    let read : Some m ≡ Some n = sym (digits_of own m first) ∙ (ap number_of same ∙ digits_of own n second) in cc

-- what is read as a number is one
is_read : (text : List ℕ) (n : ℕ) → number_of text ≡ Some n → is_number text ≡ true
is_read text n read = go (is_number text) refl
  where
    go : (b : Bool) → is_number text ≡ b → is_number text ≡ true
    go true same = same
    go false same = let none : number_of text ≡ None = rw same refl in absurd cc

-- a number is no flag
plain_number : (text : List ℕ) → is_number text ≡ true → is_plain text ≡ true
plain_number [] is = is
plain_number (byte ∷ bytes) is =
    elim (eqb_tells byte 45) [ inl same ↦ absurd (no_dash bytes (subst (λ (b : ℕ). is_number (b ∷ bytes) ≡ true) same.1 is)) | inr other ↦ rw other.0 refl ]
  where
    no_dash : (bytes : List ℕ) → is_number (45 ∷ bytes) ≡ true → ⊥
    no_dash [] is = true≢false (sym is)
    no_dash (next ∷ bytes) is = true≢false (sym is)

plain_digits : AreInverse → (n : ℕ) → n < 2 ^ 32 → is_plain (decimal n) ≡ true
plain_digits own n small = plain_number (decimal n) (is_read (decimal n) n (digits_of own n small))

-- ---- commands

one_out : (out other : OutKind) → word_out out ≡ word_out other → out ≡ other
one_out out_kind.Text out_kind.Text same = refl
one_out out_kind.Text out_kind.Run same = absurd cc
one_out out_kind.Run out_kind.Text same = absurd cc
one_out out_kind.Run out_kind.Run same = refl

-- no two stores have one word
one_store : (store other : Store) → IsNamed store → IsNamed other → word_of store ≡ word_of other → store ≡ other
one_store Memory Memory first second same = refl
one_store Memory (File name) first second same = absurd (second.1 (sym same))
one_store (File name) Memory first second same = absurd (first.1 same)
one_store (File name) (File other) first second same = ap File same

-- no two ways to begin have one word
one_start : (start other : Start) → word_start start ≡ word_start other → start ≡ other
one_start New New same = refl
one_start New Kept same = absurd cc
one_start Kept New same = absurd cc
one_start Kept Kept same = refl

-- the first byte of words, 0 if there is none
abbrev first_byte : List (List ℕ) → ℕ
first_byte [] = 0
first_byte ([] ∷ words) = 0
first_byte ((byte ∷ bytes) ∷ words) = byte

-- no two commands are spelled alike
one_command : AreInverse → (command other : Command) → IsInRange command → IsInRange other → words_of command ≡ words_of other → command ≡ other
one_command own Step Step first second same = refl
one_command own Step Check first second same = absurd cc
one_command own Step (Run other) first second same = absurd cc
one_command own Step (Resume other) first second same = absurd cc
one_command own Step (Units other) first second same = absurd cc
one_command own Step (Special other) first second same = absurd cc
one_command own Step (SpecialLists other) first second same = absurd cc
one_command own Step (Serve many crew begin place other) first second same = absurd cc
one_command own Step Audit first second same = absurd cc
one_command own Step AuditBest first second same = absurd cc
one_command own Step (Generate m from last) first second same = absurd cc
one_command own Check Step first second same = absurd cc
one_command own Check Check first second same = refl
one_command own Check (Run other) first second same = absurd cc
one_command own Check (Resume other) first second same = absurd cc
one_command own Check (Units other) first second same = absurd cc
one_command own Check (Special other) first second same = absurd cc
one_command own Check (SpecialLists other) first second same = absurd cc
one_command own Check (Serve many crew begin place other) first second same = absurd cc
one_command own Check Audit first second same = let bytes : 99 ≡ 97 = ap first_byte same in absurd (omega (arith, bytes))
one_command own Check AuditBest first second same = absurd cc
one_command own Check (Generate m from last) first second same = absurd cc
one_command own (Run store) Step first second same = absurd cc
one_command own (Run store) Check first second same = absurd cc
one_command own (Run store) (Run other) first second same =
    let words : word_of store ≡ word_of other = cc in ap Run (one_store store other first second words)
one_command own (Run store) (Resume other) first second same = absurd cc
one_command own (Run store) (Units other) first second same = absurd cc
one_command own (Run store) (Special other) first second same = absurd cc
one_command own (Run store) (SpecialLists other) first second same = absurd cc
one_command own (Run store) (Serve many crew begin place other) first second same = absurd cc
one_command own (Run store) Audit first second same = absurd cc
one_command own (Run store) AuditBest first second same = let bytes : 114 ≡ 97 = ap first_byte same in absurd (omega (arith, bytes))
one_command own (Run store) (Generate m from last) first second same = absurd cc
one_command own (Resume store) Step first second same = absurd cc
one_command own (Resume store) Check first second same = absurd cc
one_command own (Resume store) (Run other) first second same = absurd cc
one_command own (Resume store) (Resume other) first second same =
    let words : word_of store ≡ word_of other = cc in ap Resume (one_store store other first second words)
one_command own (Resume store) (Units other) first second same = absurd cc
one_command own (Resume store) (Special other) first second same = absurd cc
one_command own (Resume store) (SpecialLists other) first second same = absurd cc
one_command own (Resume store) (Serve many crew begin place other) first second same = absurd cc
one_command own (Resume store) Audit first second same = absurd cc
one_command own (Resume store) AuditBest first second same = let bytes : 114 ≡ 97 = ap first_byte same in absurd (omega (arith, bytes))
one_command own (Resume store) (Generate m from last) first second same = absurd cc
one_command own (Units store) Step first second same = absurd cc
one_command own (Units store) Check first second same = absurd cc
one_command own (Units store) (Run other) first second same = absurd cc
one_command own (Units store) (Resume other) first second same = absurd cc
one_command own (Units store) (Units other) first second same =
    let words : word_of store ≡ word_of other = cc in ap Units (one_store store other first second words)
one_command own (Units store) (Special other) first second same = absurd cc
one_command own (Units store) (SpecialLists other) first second same = absurd cc
one_command own (Units store) (Serve many crew begin place other) first second same = absurd cc
one_command own (Units store) Audit first second same = absurd cc
one_command own (Units store) AuditBest first second same = let bytes : 117 ≡ 97 = ap first_byte same in absurd (omega (arith, bytes))
one_command own (Units store) (Generate m from last) first second same = absurd cc
one_command own (Special store) Step first second same = absurd cc
one_command own (Special store) Check first second same = absurd cc
one_command own (Special store) (Run other) first second same = absurd cc
one_command own (Special store) (Resume other) first second same = absurd cc
one_command own (Special store) (Units other) first second same = absurd cc
one_command own (Special store) (Special other) first second same =
    let words : word_of store ≡ word_of other = cc in ap Special (one_store store other first second words)
one_command own (Special store) (SpecialLists other) first second same = absurd cc
one_command own (Special store) (Serve many crew begin place other) first second same = absurd cc
one_command own (Special store) Audit first second same = absurd cc
one_command own (Special store) AuditBest first second same = let bytes : 115 ≡ 97 = ap first_byte same in absurd (omega (arith, bytes))
one_command own (Special store) (Generate m from last) first second same = absurd cc
one_command own (SpecialLists store) Step first second same = absurd cc
one_command own (SpecialLists store) Check first second same = absurd cc
one_command own (SpecialLists store) (Run other) first second same = absurd cc
one_command own (SpecialLists store) (Resume other) first second same = absurd cc
one_command own (SpecialLists store) (Units other) first second same = absurd cc
one_command own (SpecialLists store) (Special other) first second same = absurd cc
one_command own (SpecialLists store) (SpecialLists other) first second same =
    let words : word_of store ≡ word_of other = cc in ap SpecialLists (one_store store other first second words)
one_command own (SpecialLists store) (Serve many crew begin place other) first second same = absurd cc
one_command own (SpecialLists store) Audit first second same = absurd cc
one_command own (SpecialLists store) AuditBest first second same = absurd cc
one_command own (SpecialLists store) (Generate m from last) first second same = absurd cc
one_command own (Serve conns workers start port store) Step first second same = absurd cc
one_command own (Serve conns workers start port store) Check first second same = absurd cc
one_command own (Serve conns workers start port store) (Run other) first second same = absurd cc
one_command own (Serve conns workers start port store) (Resume other) first second same = absurd cc
one_command own (Serve conns workers start port store) (Units other) first second same = absurd cc
one_command own (Serve conns workers start port store) (Special other) first second same = absurd cc
one_command own (Serve conns workers start port store) (SpecialLists other) first second same = absurd cc
one_command own (Serve conns workers start port store) (Serve many crew begin place other) first second same =
    let conns_same : decimal conns ≡ decimal many = cc in
    let workers_same : decimal workers ≡ decimal crew = cc in
    let starts_same : word_start start ≡ word_start begin = cc in
    let ports_same : decimal port ≡ decimal place = cc in
    let words : word_of store ≡ word_of other = cc in
    let connections = one_number own conns many (omega (arith, first.0.1)) (omega (arith, second.0.1)) conns_same in
    let hands = one_number own workers crew (omega (arith, first.1.1)) (omega (arith, second.1.1)) workers_same in
    let ports = one_number own port place (omega (arith, first.2.1)) (omega (arith, second.2.1)) ports_same in
    let starts = one_start start begin starts_same in
    let stores = one_store store other first.3 second.3 words in
    cc
one_command own (Serve conns workers start port store) Audit first second same = absurd cc
one_command own (Serve conns workers start port store) AuditBest first second same = absurd cc
one_command own (Serve conns workers start port store) (Generate m from last) first second same = absurd cc
one_command own Audit Step first second same = absurd cc
one_command own Audit Check first second same = let bytes : 97 ≡ 99 = ap first_byte same in absurd (omega (arith, bytes))
one_command own Audit (Run other) first second same = absurd cc
one_command own Audit (Resume other) first second same = absurd cc
one_command own Audit (Units other) first second same = absurd cc
one_command own Audit (Special other) first second same = absurd cc
one_command own Audit (SpecialLists other) first second same = absurd cc
one_command own Audit (Serve many crew begin place other) first second same = absurd cc
one_command own Audit Audit first second same = refl
one_command own Audit AuditBest first second same = absurd cc
one_command own Audit (Generate m from last) first second same = absurd cc
one_command own AuditBest Step first second same = absurd cc
one_command own AuditBest Check first second same = absurd cc
one_command own AuditBest (Run other) first second same = let bytes : 97 ≡ 114 = ap first_byte same in absurd (omega (arith, bytes))
one_command own AuditBest (Resume other) first second same = let bytes : 97 ≡ 114 = ap first_byte same in absurd (omega (arith, bytes))
one_command own AuditBest (Units other) first second same = let bytes : 97 ≡ 117 = ap first_byte same in absurd (omega (arith, bytes))
one_command own AuditBest (Special other) first second same = let bytes : 97 ≡ 115 = ap first_byte same in absurd (omega (arith, bytes))
one_command own AuditBest (SpecialLists other) first second same = absurd cc
one_command own AuditBest (Serve many crew begin place other) first second same = absurd cc
one_command own AuditBest Audit first second same = absurd cc
one_command own AuditBest AuditBest first second same = refl
one_command own AuditBest (Generate m from last) first second same = absurd cc
one_command own (Generate n seed out) Step first second same = absurd cc
one_command own (Generate n seed out) Check first second same = absurd cc
one_command own (Generate n seed out) (Run other) first second same = absurd cc
one_command own (Generate n seed out) (Resume other) first second same = absurd cc
one_command own (Generate n seed out) (Units other) first second same = absurd cc
one_command own (Generate n seed out) (Special other) first second same = absurd cc
one_command own (Generate n seed out) (SpecialLists other) first second same = absurd cc
one_command own (Generate n seed out) (Serve many crew begin place other) first second same = absurd cc
one_command own (Generate n seed out) Audit first second same = absurd cc
one_command own (Generate n seed out) AuditBest first second same = absurd cc
one_command own (Generate n seed out) (Generate m from last) first second same =
    let numbers : decimal n ≡ decimal m = cc in
    let seeds : decimal seed ≡ decimal from = cc in
    let words : word_out out ≡ word_out last = cc in
    let number = one_number own n m (omega (arith, first.1)) (omega (arith, second.1)) numbers in
    let grown = one_number own seed from first.2 second.2 seeds in
    let kind = one_out out last words in
    cc

-- Words spell at most one command.
pub one_spelled : AreInverse → (words : List (List ℕ)) (command other : Command) → Spell words command → Spell words other → command ≡ other
one_spelled own words command other spelled also = one_command own command other spelled.1 also.1 (sym spelled.0 ∙ also.0)

-- the word of a store is plain
plain_store : (store : Store) → IsNamed store → is_plain (word_of store) ≡ true
plain_store Memory named = refl
plain_store (File name) named = named.0

-- the words of a command are plain
plain_command : AreInverse → (command : Command) → IsInRange command → ArePlain (words_of command)
plain_command own Step range = refl
plain_command own Check range = refl
plain_command own (Run store) range = rw (plain_store store range) refl
plain_command own (Resume store) range = rw (plain_store store range) refl
plain_command own (Units store) range = rw (plain_store store range) refl
plain_command own (Special store) range = rw (plain_store store range) refl
plain_command own (SpecialLists store) range = rw (plain_store store range) refl
plain_command own (Serve conns workers New port store) range =
    rw (plain_digits own conns (omega (arith, range.0.1)), plain_digits own workers (omega (arith, range.1.1)), plain_digits own port (omega (arith, range.2.1)), plain_store store range.3) refl
plain_command own (Serve conns workers Kept port store) range =
    rw (plain_digits own conns (omega (arith, range.0.1)), plain_digits own workers (omega (arith, range.1.1)), plain_digits own port (omega (arith, range.2.1)), plain_store store range.3) refl
plain_command own Audit range = refl
plain_command own AuditBest range = refl
plain_command own (Generate n seed out_kind.Text) range =
    rw (plain_digits own n (omega (arith, range.1)), plain_digits own seed range.2) refl
plain_command own (Generate n seed out_kind.Run) range =
    rw (plain_digits own n (omega (arith, range.1)), plain_digits own seed range.2) refl

-- a command has one word to four, or six
some_words : (command : Command) → (0 < length (words_of command)) × (length (words_of command) ≤ 6) × (length (words_of command) ≡ 5 → ⊥)
some_words Step = (omega arith, omega arith, λ h. omega (arith, h))
some_words Check = (omega arith, omega arith, λ h. omega (arith, h))
some_words (Run store) = (omega arith, omega arith, λ h. omega (arith, h))
some_words (Resume store) = (omega arith, omega arith, λ h. omega (arith, h))
some_words (Units store) = (omega arith, omega arith, λ h. omega (arith, h))
some_words (Special store) = (omega arith, omega arith, λ h. omega (arith, h))
some_words (SpecialLists store) = (omega arith, omega arith, λ h. omega (arith, h))
some_words (Serve conns workers start port store) = (omega arith, omega arith, λ h. omega (arith, h))
some_words Audit = (omega arith, omega arith, λ h. omega (arith, h))
some_words AuditBest = (omega arith, omega arith, λ h. omega (arith, h))
some_words (Generate n seed out) = (omega arith, omega arith, λ h. omega (arith, h))

-- Words that are not all plain spell no command.
pub flags_spell_nothing : AreInverse → (words : List (List ℕ)) → (ArePlain words → ⊥) → SpellNothing words
flags_spell_nothing own words flag command spelled = flag (subst ArePlain (sym spelled.0) (plain_command own command spelled.1))

-- No words, and more than six, spell no command.
pub many_spell_nothing : (words : List (List ℕ)) → (length words ≡ 0) ⊎ (6 < length words) → SpellNothing words
many_spell_nothing words many command spelled =
    let few = some_words command in
    let same : length words ≡ length (words_of command) = ap length spelled.0 in
    elim many [ inl none ↦ omega (arith, few.0, none, same) | inr more ↦ omega (arith, few.1, more, same) ]

-- ---- by places

-- the words in the places, and their numbers
abbrev now_of : Option (Bor (List ℕ)) → Option (List ℕ)
now_of word = option_map (λ s. s.now) word

-- the one word that there is
one_word : (words : List (List ℕ)) (parts : Parts) (s0 : Bor (List ℕ)) → AreParts words parts → parts.command ≡ Some s0 → parts.first ≡ None → words ≡ s0.now ∷ []
one_word [] parts s0 are h0 none = let bad : Some s0.now ≡ None = sym (ap now_of h0) ∙ are.command in absurd cc
one_word (w ∷ []) parts s0 are h0 none =
    let t0 : Some s0.now ≡ Some w = sym (ap now_of h0) ∙ are.command in
    let e0 : s0.now ≡ w = cc in cc
one_word (w ∷ x ∷ rest) parts s0 are h0 none = let bad : None ≡ Some x = sym (ap now_of none) ∙ are.first in absurd cc

-- the two words that there are
two_words : (words : List (List ℕ)) (parts : Parts) (s0 s1 : Bor (List ℕ)) → AreParts words parts → parts.command ≡ Some s0 → parts.first ≡ Some s1 → parts.second ≡ None → words ≡ s0.now ∷ s1.now ∷ []
two_words [] parts s0 s1 are h0 h1 none = let bad : Some s0.now ≡ None = sym (ap now_of h0) ∙ are.command in absurd cc
two_words (w ∷ []) parts s0 s1 are h0 h1 none = let bad : Some s1.now ≡ None = sym (ap now_of h1) ∙ are.first in absurd cc
two_words (w ∷ x ∷ []) parts s0 s1 are h0 h1 none =
    let t0 : Some s0.now ≡ Some w = sym (ap now_of h0) ∙ are.command in
    let t1 : Some s1.now ≡ Some x = sym (ap now_of h1) ∙ are.first in
    let e0 : s0.now ≡ w = cc in let e1 : s1.now ≡ x = cc in cc
two_words (w ∷ x ∷ y ∷ rest) parts s0 s1 are h0 h1 none = let bad : None ≡ Some y = sym (ap now_of none) ∙ are.second in absurd cc

-- the three words that there are
three_words : (words : List (List ℕ)) (parts : Parts) (s0 s1 s2 : Bor (List ℕ)) → AreParts words parts → parts.command ≡ Some s0 → parts.first ≡ Some s1 → parts.second ≡ Some s2 → parts.third ≡ None → words ≡ s0.now ∷ s1.now ∷ s2.now ∷ []
three_words [] parts s0 s1 s2 are h0 h1 h2 none = let bad : Some s0.now ≡ None = sym (ap now_of h0) ∙ are.command in absurd cc
three_words (w ∷ []) parts s0 s1 s2 are h0 h1 h2 none = let bad : Some s1.now ≡ None = sym (ap now_of h1) ∙ are.first in absurd cc
three_words (w ∷ x ∷ []) parts s0 s1 s2 are h0 h1 h2 none = let bad : Some s2.now ≡ None = sym (ap now_of h2) ∙ are.second in absurd cc
three_words (w ∷ x ∷ y ∷ []) parts s0 s1 s2 are h0 h1 h2 none =
    let t0 : Some s0.now ≡ Some w = sym (ap now_of h0) ∙ are.command in
    let t1 : Some s1.now ≡ Some x = sym (ap now_of h1) ∙ are.first in
    let t2 : Some s2.now ≡ Some y = sym (ap now_of h2) ∙ are.second in
    let e0 : s0.now ≡ w = cc in let e1 : s1.now ≡ x = cc in let e2 : s2.now ≡ y = cc in cc
three_words (w ∷ x ∷ y ∷ z ∷ rest) parts s0 s1 s2 are h0 h1 h2 none = let bad : None ≡ Some z = sym (ap now_of none) ∙ are.third in absurd cc

-- the four words that there are
four_words : (words : List (List ℕ)) (parts : Parts) (s0 s1 s2 s3 : Bor (List ℕ)) → AreParts words parts → parts.command ≡ Some s0 → parts.first ≡ Some s1 → parts.second ≡ Some s2 → parts.third ≡ Some s3 → parts.fourth ≡ None → words ≡ s0.now ∷ s1.now ∷ s2.now ∷ s3.now ∷ []
four_words [] parts s0 s1 s2 s3 are h0 h1 h2 h3 none = let bad : Some s0.now ≡ None = sym (ap now_of h0) ∙ are.command in absurd cc
four_words (w ∷ []) parts s0 s1 s2 s3 are h0 h1 h2 h3 none = let bad : Some s1.now ≡ None = sym (ap now_of h1) ∙ are.first in absurd cc
four_words (w ∷ x ∷ []) parts s0 s1 s2 s3 are h0 h1 h2 h3 none = let bad : Some s2.now ≡ None = sym (ap now_of h2) ∙ are.second in absurd cc
four_words (w ∷ x ∷ y ∷ []) parts s0 s1 s2 s3 are h0 h1 h2 h3 none = let bad : Some s3.now ≡ None = sym (ap now_of h3) ∙ are.third in absurd cc
four_words (w ∷ x ∷ y ∷ z ∷ []) parts s0 s1 s2 s3 are h0 h1 h2 h3 none =
    let t0 : Some s0.now ≡ Some w = sym (ap now_of h0) ∙ are.command in
    let t1 : Some s1.now ≡ Some x = sym (ap now_of h1) ∙ are.first in
    let t2 : Some s2.now ≡ Some y = sym (ap now_of h2) ∙ are.second in
    let t3 : Some s3.now ≡ Some z = sym (ap now_of h3) ∙ are.third in
    let e0 : s0.now ≡ w = cc in let e1 : s1.now ≡ x = cc in let e2 : s2.now ≡ y = cc in let e3 : s3.now ≡ z = cc in cc
four_words (w ∷ x ∷ y ∷ z ∷ u ∷ rest) parts s0 s1 s2 s3 are h0 h1 h2 h3 none = let bad : None ≡ Some u = sym (ap now_of none) ∙ are.fourth in absurd cc

-- the six words that there are
six_words : (words : List (List ℕ)) (parts : Parts) (s0 s1 s2 s3 s4 s5 : Bor (List ℕ)) → AreParts words parts → parts.command ≡ Some s0 → parts.first ≡ Some s1 → parts.second ≡ Some s2 → parts.third ≡ Some s3 → parts.fourth ≡ Some s4 → parts.fifth ≡ Some s5 → words ≡ s0.now ∷ s1.now ∷ s2.now ∷ s3.now ∷ s4.now ∷ s5.now ∷ []
six_words [] parts s0 s1 s2 s3 s4 s5 are h0 h1 h2 h3 h4 h5 = let bad : Some s0.now ≡ None = sym (ap now_of h0) ∙ are.command in absurd cc
six_words (w ∷ []) parts s0 s1 s2 s3 s4 s5 are h0 h1 h2 h3 h4 h5 = let bad : Some s1.now ≡ None = sym (ap now_of h1) ∙ are.first in absurd cc
six_words (w ∷ x ∷ []) parts s0 s1 s2 s3 s4 s5 are h0 h1 h2 h3 h4 h5 = let bad : Some s2.now ≡ None = sym (ap now_of h2) ∙ are.second in absurd cc
six_words (w ∷ x ∷ y ∷ []) parts s0 s1 s2 s3 s4 s5 are h0 h1 h2 h3 h4 h5 = let bad : Some s3.now ≡ None = sym (ap now_of h3) ∙ are.third in absurd cc
six_words (w ∷ x ∷ y ∷ z ∷ []) parts s0 s1 s2 s3 s4 s5 are h0 h1 h2 h3 h4 h5 = let bad : Some s4.now ≡ None = sym (ap now_of h4) ∙ are.fourth in absurd cc
six_words (w ∷ x ∷ y ∷ z ∷ u ∷ []) parts s0 s1 s2 s3 s4 s5 are h0 h1 h2 h3 h4 h5 = let bad : Some s5.now ≡ None = sym (ap now_of h5) ∙ are.fifth in absurd cc
six_words (w ∷ x ∷ y ∷ z ∷ u ∷ v ∷ []) parts s0 s1 s2 s3 s4 s5 are h0 h1 h2 h3 h4 h5 =
    let t0 : Some s0.now ≡ Some w = sym (ap now_of h0) ∙ are.command in
    let t1 : Some s1.now ≡ Some x = sym (ap now_of h1) ∙ are.first in
    let t2 : Some s2.now ≡ Some y = sym (ap now_of h2) ∙ are.second in
    let t3 : Some s3.now ≡ Some z = sym (ap now_of h3) ∙ are.third in
    let t4 : Some s4.now ≡ Some u = sym (ap now_of h4) ∙ are.fourth in
    let t5 : Some s5.now ≡ Some v = sym (ap now_of h5) ∙ are.fifth in
    let e0 : s0.now ≡ w = cc in let e1 : s1.now ≡ x = cc in let e2 : s2.now ≡ y = cc in let e3 : s3.now ≡ z = cc in let e4 : s4.now ≡ u = cc in let e5 : s5.now ≡ v = cc in cc
six_words (w ∷ x ∷ y ∷ z ∷ u ∷ v ∷ a ∷ rest) parts s0 s1 s2 s3 s4 s5 are h0 h1 h2 h3 h4 h5 = let bad = are.few in absurd (omega arith)

-- what was read of the words, by what was read of those that they spell
pub record AreRead (parts : Parts) (told : Result Command WordsFault) : Type 0 where
  pub some : IfOk told (λ command. (words : List (List ℕ)) → AreParts words parts → Spell words command)
  pub none : IsErrOf told Usage → (words : List (List ℕ)) → AreParts words parts → SpellNothing words

read : (parts : Parts) (spelled : List (List ℕ)) (told : Result Command WordsFault) → ((words : List (List ℕ)) → AreParts words parts → words ≡ spelled)
    → IfOk told (Spell spelled) → (IsErrOf told Usage → SpellNothing spelled) → AreRead parts told
read parts spelled told same is not = record { some = go told is; none = λ usage words are. subst SpellNothing (sym (same words are)) (not usage) }
  where
    go : (found : Result Command WordsFault) → IfOk found (Spell spelled) → IfOk found (λ command. (words : List (List ℕ)) → AreParts words parts → Spell words command)
    go (Err fault) found = tt
    go (Ok command) found = λ words are. subst (λ (ws : List (List ℕ)). Spell ws command) (sym (same words are)) found

-- One word.
pub read_one : (parts : Parts) (s0 : Bor (List ℕ)) (told : Result Command WordsFault) → parts.command ≡ Some s0 → parts.first ≡ None
    → IfOk told (Spell (s0.now ∷ [])) → (IsErrOf told Usage → SpellNothing (s0.now ∷ [])) → AreRead parts told
read_one parts s0 told h0 none = read parts (s0.now ∷ []) told (λ words are. one_word words parts s0 are h0 none)

-- Two words.
pub read_two : (parts : Parts) (s0 s1 : Bor (List ℕ)) (told : Result Command WordsFault) → parts.command ≡ Some s0 → parts.first ≡ Some s1 → parts.second ≡ None
    → IfOk told (Spell (s0.now ∷ s1.now ∷ [])) → (IsErrOf told Usage → SpellNothing (s0.now ∷ s1.now ∷ [])) → AreRead parts told
read_two parts s0 s1 told h0 h1 none = read parts (s0.now ∷ s1.now ∷ []) told (λ words are. two_words words parts s0 s1 are h0 h1 none)

-- Three words.
pub read_three : (parts : Parts) (s0 s1 s2 : Bor (List ℕ)) (told : Result Command WordsFault) → parts.command ≡ Some s0 → parts.first ≡ Some s1 → parts.second ≡ Some s2 → parts.third ≡ None
    → IfOk told (Spell (s0.now ∷ s1.now ∷ s2.now ∷ [])) → (IsErrOf told Usage → SpellNothing (s0.now ∷ s1.now ∷ s2.now ∷ [])) → AreRead parts told
read_three parts s0 s1 s2 told h0 h1 h2 none = read parts (s0.now ∷ s1.now ∷ s2.now ∷ []) told (λ words are. three_words words parts s0 s1 s2 are h0 h1 h2 none)

-- Four words.
pub read_four : (parts : Parts) (s0 s1 s2 s3 : Bor (List ℕ)) (told : Result Command WordsFault) → parts.command ≡ Some s0 → parts.first ≡ Some s1 → parts.second ≡ Some s2 → parts.third ≡ Some s3 → parts.fourth ≡ None
    → IfOk told (Spell (s0.now ∷ s1.now ∷ s2.now ∷ s3.now ∷ [])) → (IsErrOf told Usage → SpellNothing (s0.now ∷ s1.now ∷ s2.now ∷ s3.now ∷ [])) → AreRead parts told
read_four parts s0 s1 s2 s3 told h0 h1 h2 h3 none = read parts (s0.now ∷ s1.now ∷ s2.now ∷ s3.now ∷ []) told (λ words are. four_words words parts s0 s1 s2 s3 are h0 h1 h2 h3 none)

-- Six words.
pub read_six : (parts : Parts) (s0 s1 s2 s3 s4 s5 : Bor (List ℕ)) (told : Result Command WordsFault) → parts.command ≡ Some s0 → parts.first ≡ Some s1 → parts.second ≡ Some s2 → parts.third ≡ Some s3 → parts.fourth ≡ Some s4 → parts.fifth ≡ Some s5
    → IfOk told (Spell (s0.now ∷ s1.now ∷ s2.now ∷ s3.now ∷ s4.now ∷ s5.now ∷ [])) → (IsErrOf told Usage → SpellNothing (s0.now ∷ s1.now ∷ s2.now ∷ s3.now ∷ s4.now ∷ s5.now ∷ [])) → AreRead parts told
read_six parts s0 s1 s2 s3 s4 s5 told h0 h1 h2 h3 h4 h5 = read parts (s0.now ∷ s1.now ∷ s2.now ∷ s3.now ∷ s4.now ∷ s5.now ∷ []) told (λ words are. six_words words parts s0 s1 s2 s3 s4 s5 are h0 h1 h2 h3 h4 h5)

-- Those of plain words that may name a file are plain.
pub named_plain : (words : List (List ℕ)) (parts : Parts) → ArePlain words → AreParts words parts → NamePlain parts
named_plain words parts plain are = record { first = there words 1 parts.first plain are.first; second = there words 2 parts.second plain are.second; fifth = there words 5 parts.fifth plain are.fifth }
  where
    both : (a b : Bool) → (a && b) ≡ true → (a ≡ true) × (b ≡ true)
    both true true h = (refl, refl)
    both true false h = absurd (true≢false (sym h))
    both false b h = absurd (true≢false (sym h))

    there : (words : List (List ℕ)) (at : ℕ) (word : Option (Bor (List ℕ))) → ArePlain words → now_of word ≡ slice_get words at → IfSome word (λ word. is_plain word.now ≡ true)
    there words at None plain same = tt
    there [] at (Some word) plain same = let bad : Some word.now ≡ None = same in absurd cc
    there (w ∷ rest) zero (Some word) plain same =
        let next : Some word.now ≡ Some w = same in
        let here : word.now ≡ w = cc in
        subst (λ (t : List ℕ). is_plain t ≡ true) (sym here) (both (is_plain w) (list_all is_plain rest) plain).0
    there (w ∷ rest) (suc at) (Some word) plain same = there rest at (Some word) (both (is_plain w) (list_all is_plain rest) plain).1 same
