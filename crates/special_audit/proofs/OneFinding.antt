-- Bytes have one finding or one first fault.
use Rattle.std.proofs.lemmas.Bool.{cases_lt}
use Rattle.std.proofs.Common.{◌≡◌, ◌≢◌, ◌<◌, ◌≤◌, ◌-◌, ◌^◌, ◌⊎◌, inl, inr, ℕ, false, List, [], Option, Some, None, length, map, arith, refl, sym, ap, ◌∙◌, subst}
use Rattle.std.specs.Prelude.{option_map}
use Rattle.office_base.specs.Lists.{Pairwise}
use Rattle.office_asks.specs.declared.ask.Request.{Request}
use Rattle.office_base.specs.declared.person.Person.{Person}
use Rattle.kept_rows.specs.declared.rows.AllotRow.{AllotRow}
use Rattle.section_rows.specs.Rows.{Row, rows_of}
use Rattle.rank_lists.specs.Register.{Ranks}
use Rattle.choice_lists.specs.Laws.{HaveOneReading}
use Rattle.seat_matrix.specs.Laws.{OneStepChanges}
use Rattle.seat_matrix.specs.Matrix.{SeatTable, codes_in}
use Rattle.season_file.specs.declared.season.Season.{Season}
use Rattle.season_facts.specs.Season.{facts_of}
use Rattle.office_moves.specs.Facts.{IsSound, SeasonFacts, register_of}
use Rattle.office_moves.specs.Raised.{matrix_at}
use Rattle.office_moves.specs.State.{State}
use Rattle.one_output.specs.Laws.{SeasonsAreSound}
use Rattle.one_output.specs.VerdictLaws.{AreSame, OneDossierOfBytes}
use Rattle.text_readers.specs.Parts.{AreSpelled}
use Rattle.text_readers.specs.Reading.{IsFaultLine}
use Rattle.dossier_file.specs.Dossier.{HasDossierFault, IsDossier, papers_of}
use Rattle.dossier_file.specs.Laws.{HaveOneDossier, TextsAreOne}
use Rattle.dossier_file.specs.Papers.{AreDuePapers}
use Rattle.dossier_file.specs.Special.{IsSpecialCut}
use Rattle.dossier_file.specs.Texts.{AreReadable}
use Rattle.dossier_file.specs.declared.dossier.Dossier.{Dossier}
use Rattle.dossier_file.specs.declared.fault.DossierFault.{DossierFault}
use Rattle.dossier_file.specs.declared.fault.DossierFault.TheVariants.{ReadFault, TooLong, NoSection, Season as BadSeason, Published, OutOfMemory as NoDossierMemory}
use Rattle.dossier_file.specs.declared.papers.Papers.{Papers as Read}
use Rattle.dossier_file.proofs.LawLemmas.{one_line}
use Rattle.dossier_file.proofs.SpecialLemmas.{one_special_cut}
use Rattle.audit_rules.specs.InOrder.{IsInOrder}
use Rattle.audit_rules.specs.Laws.{OneVerdict}
use Rattle.audit_rules.specs.Papers.{Papers}
use Rattle.audit_rules.specs.Replay.{before}
use Rattle.audit_rules.specs.Verdict.{IsVerdict}
use Rattle.audit_rules.specs.declared.verdict.Verdict.{Verdict}
use Rattle.audit_rules.specs.declared.verdict.Verdict.TheVariants.{Sound, Broken}
use Rattle.season_audit.specs.Audit.{papers_in}
use Rattle.special_round.specs.Laws.{HaveOneAnswer}
use Rattle.special_round.specs.Season.{IsLeftSeason, IsRemainingSeason, IsSpecialFault}
use Rattle.special_round.specs.declared.fault.SpecialFault.{SpecialFault}
use Rattle.special_audit.specs.Found.{HasVerdict, IsBrokenFront, IsFollowed, IsFound, IsFoundFault, IsFront, IsFrontFault, IsBehindFault, IsPlainFault, IsSoundFront}
use Rattle.special_audit.specs.Laws.{AreAlike, HasFoundFault, HaveOneFinding, OneRemaining}
use Rattle.special_audit.specs.Special.{HasSpecialFault, IsSpecialOf, Leaves, one_cut, state_after}
use Rattle.special_audit.specs.declared.found.Found.{Found}
use Rattle.special_audit.specs.declared.found.Found.TheVariants.{OfSeason, OfSpecial}
use Rattle.special_audit.specs.declared.found.FoundFault.{FoundFault}
use Rattle.special_audit.specs.declared.found.FoundFault.TheVariants.{Dossier as BadDossier, Special as BadSpecial}
use Rattle.special_audit.specs.declared.special.SpecialError.{SpecialError}
use Rattle.special_audit.specs.declared.special.SpecialError.TheVariants.{Lists, Line, OutOfMemory}
use Rattle.special_audit.proofs.Over.{IsWell, IsWellAt, well_after}

-- The laws of the layers below.
pub record Laws : Type 0 where
  pub remaining : OneRemaining
  pub steps : OneStepChanges
  pub sound : SeasonsAreSound
  pub bytes_are : OneDossierOfBytes
  pub dossiers : (bytes : List ℕ) → HaveOneDossier bytes
  pub texts : TextsAreOne
  pub verdicts : OneVerdict
  pub lists : (facts : SeasonFacts) (state : State) (body : List ℕ) → HaveOneAnswer facts state body
  pub readings : (ranks : Ranks) (seats : SeatTable) (rows : List Row) → HaveOneReading ranks seats rows

-- ---- dossiers that say the same

-- the papers that an audit reads off
abbrev audited : Read → Papers
audited papers = record { rounds = map (λ read. read.rows) papers.rounds; lists = map (λ read. read.programme) papers.lists; finals = option_map (λ read. read.rows) papers.last }

by_same : (P : SeasonFacts → List Request → Read → Type 0) (dossier other : Dossier) → AreSame dossier other → P (facts_of other.season) other.script (papers_of other)
    → P (facts_of dossier.season) dossier.script (papers_of dossier)
by_same P dossier other same h =
    subst (λ f. P f dossier.script (papers_of dossier)) (sym same.facts) (subst (λ s. P (facts_of other.season) s (papers_of dossier)) (sym same.script)
    (subst (λ p. P (facts_of other.season) other.script p) (sym same.papers) h))

-- they have one verdict
same_verdict : OneVerdict → (dossier other : Dossier) (verdict more : Verdict) → AreSame dossier other → HasVerdict dossier verdict → HasVerdict other more → verdict ≡ more
same_verdict one dossier other verdict more same has its =
    one (facts_of dossier.season) dossier.script (papers_in dossier) verdict more has.is (by_same (λ f s p. IsVerdict f s (audited p) more) dossier other same its.is)

-- and leave one season, or have one fault
same_leaves : (dossier other : Dossier) (lists : List ℕ) (season : Season) → AreSame dossier other → Leaves other lists season → Leaves dossier lists season
same_leaves dossier other lists season same = by_same (λ f s p. IsRemainingSeason f (before f s (audited p) (length s)) lists season) dossier other same

same_fault : (dossier other : Dossier) (lists : List ℕ) (fault : SpecialFault) → AreSame dossier other → IsSpecialFault (facts_of other.season) (state_after other) lists fault
    → IsSpecialFault (facts_of dossier.season) (state_after dossier) lists fault
same_fault dossier other lists fault same = by_same (λ f s p. IsSpecialFault f (before f s (audited p) (length s)) lists fault) dossier other same

-- ---- one season is left

same_rows : (state : State) (rows more : List AllotRow) → state.finals ≡ Some rows → state.finals ≡ Some more → rows ≡ more
same_rows state rows more a b = let both : Some rows ≡ Some more = sym a ∙ b in cc

-- what is left by the same final rows
same_left : Laws → (facts : SeasonFacts) (table : SeatTable) (rows : List AllotRow) (body : List ℕ) (season other : Season) → Pairwise (λ a b. a.cand.0 < b.cand.0) rows
    → IsLeftSeason facts table rows body season → IsLeftSeason facts table rows body other → facts_of season ≡ facts_of other
same_left laws facts table rows body season other rising a b =
    let version = a.version ∙ sym b.version in
    let rounds = a.rounds ∙ sym b.rounds in
    let clerk = a.clerk ∙ sym b.clerk in
    let register = a.register ∙ sym b.register in
    let matrix = laws.remaining facts.people rows table season.matrix other.matrix rising a.seats b.seats a.matrix b.matrix in
    let lists = (laws.readings (register_of facts) facts.matrix (rows_of body)).one_value season.choices other.choices a.lists b.lists in
    let text = a.text ∙ sym b.text in
    λ i. record {
      version = version i;
      rounds = rounds i;
      clerk = clerk i;
      people = (register i).people;
      holders = (register i).holders;
      matrix = matrix i;
      lists = lists i;
      text = text i;
    }

-- A dossier of which no clause is broken, as bytes are it.
record IsSoundDossier (front : List ℕ) (dossier : Dossier) : Type 0 where
  is : IsDossier front dossier
  rounds : ℕ
  sound : HasVerdict dossier (Sound rounds)

-- its season is sound, and so is the state to which it leads
facts_sound : Laws → (front : List ℕ) (dossier : Dossier) → IsDossier front dossier → IsSound (facts_of dossier.season)
facts_sound laws front dossier is = laws.sound false is.bundle dossier.season is.of_season.row [] is.of_season.given

well_there : Laws → (front : List ℕ) (dossier : Dossier) → IsSoundDossier front dossier → IsWellAt (facts_of dossier.season) (papers_in dossier) (state_after dossier)
well_there laws front dossier d = well_after laws.steps (facts_of dossier.season) dossier.script (papers_in dossier) (facts_sound laws front dossier d.is) d.sound.is.1

-- the final rows rise
rising_there : (facts : SeasonFacts) (papers : Papers) (state : State) (rows : List AllotRow) → IsWell facts papers state → state.finals ≡ Some rows → Pairwise (λ a b. a.cand.0 < b.cand.0) rows
rising_there facts papers state rows well final = elim (cases_lt facts.rounds state.now) [
  | inl late ↦ (let over = well.over late in subst (λ r. Pairwise (λ a b. a.cand.0 < b.cand.0) r) (same_rows state over.0 rows over.2 final) over.3.rising)
  | inr not ↦ absurd (let none = well.early (omega (arith, not)) in let both : None ≡ Some rows = sym none ∙ final in cc)
]

one_left : Laws → (front lists : List ℕ) (dossier : Dossier) (season other : Season) → IsSoundDossier front dossier → Leaves dossier lists season → Leaves dossier lists other → facts_of season ≡ facts_of other
one_left laws front lists dossier season other d a b =
    let facts = facts_of dossier.season in
    let state = state_after dossier in
    let rising = rising_there facts (papers_in dossier) state a.0 (well_there laws front dossier d).well a.1 in
    let same = same_rows state b.0 a.0 b.1 a.1 in
    same_left laws facts (matrix_at facts state) a.0 lists season other rising a.2 (subst (λ r. IsLeftSeason facts (matrix_at facts state) r lists other) same b.2)

-- texts of it can be read
readable_by : (table more : SeatTable) (people : List Person) → more.programmes ≡ table.programmes → AreReadable table people → AreReadable more people
readable_by table more people same are = record {
  spelled = subst (λ l. AreSpelled (record { programmes = l; steps = more.steps })) (sym same) are.spelled;
  codes = subst (λ l. Pairwise (λ a b. a ≢ b) (codes_in l)) (sym same) are.codes;
  small = are.small;
  rising = are.rising;
  few = are.few;
}

left_readable : Laws → (front lists : List ℕ) (dossier : Dossier) (season : Season) → IsSoundDossier front dossier → Leaves dossier lists season → AreReadable season.matrix season.register.people
left_readable laws front lists dossier season d left =
    let facts = facts_of dossier.season in
    let state = state_after dossier in
    let own = (laws.dossiers front).readable dossier.season dossier.script (papers_of dossier) d.is in
    let order = (well_there laws front dossier d).order in
    let people : season.register.people ≡ facts.people = ap (λ (r : Ranks). r.people) left.2.register in
    subst (λ p. AreReadable season.matrix p) (sym people) (readable_by facts.matrix season.matrix facts.people (left.2.matrix.programmes ∙ order.programmes) own)

-- ---- one special round

one_special : Laws → (front lists published : List ℕ) (dossier special other : Dossier) → IsSoundDossier front dossier → IsSpecialOf dossier lists published special → IsSpecialOf dossier lists published other
    → AreSame special other
one_special laws front lists published dossier special other d a b =
    let same = one_left laws front lists dossier special.season other.season d a.season b.season in record {
      facts = same;
      script = a.script ∙ sym b.script;
      papers = laws.texts special.season.matrix special.season.register.people 1 one_cut published (papers_of special) (papers_of other) (omega arith)
          (left_readable laws front lists dossier special.season d a.season) a.papers
          (subst (λ (f : SeasonFacts). AreDuePapers f.matrix f.people 1 one_cut published (papers_of other)) (sym same) b.papers);
    }

-- a special round has no fault
not_faulty : Laws → (front lists published : List ℕ) (dossier special : Dossier) (fault : SpecialError) → IsSoundDossier front dossier → (fault ≡ OutOfMemory → ⊥) → IsSpecialOf dossier lists published special
    → HasSpecialFault dossier lists published fault → ⊥
not_faulty laws front lists published dossier special (Lists fault) d memory is has =
    let answer = laws.lists (facts_of dossier.season) (state_after dossier) lists in
    has.1 (answer.apart fault (answer.held special.season is.season) has.0)
not_faulty laws front lists published dossier special (Line line) d memory is has =
    let same = one_left laws front lists dossier has.season special.season d has.left is.season in
    has.is.none (papers_of special) (subst (λ (f : SeasonFacts). AreDuePapers f.matrix f.people 1 one_cut published (papers_of special)) (sym same) is.papers)
not_faulty laws front lists published dossier special OutOfMemory d memory is has = memory refl

-- and its papers have one fault
one_special_fault : Laws → (front lists published : List ℕ) (dossier : Dossier) (fault other : SpecialError) → IsSoundDossier front dossier → (fault ≡ OutOfMemory → ⊥) → (other ≡ OutOfMemory → ⊥)
    → HasSpecialFault dossier lists published fault → HasSpecialFault dossier lists published other → fault ≡ other
one_special_fault laws front lists published dossier (Lists fault) (Lists other) d some some' a b =
    ap Lists ((laws.lists (facts_of dossier.season) (state_after dossier) lists).one fault other a.0 b.0 a.1 b.1)
one_special_fault laws front lists published dossier (Lists fault) (Line line) d some some' a b =
    let answer = laws.lists (facts_of dossier.season) (state_after dossier) lists in absurd (a.1 (answer.apart fault (answer.held b.season b.left) a.0))
one_special_fault laws front lists published dossier (Line line) (Lists fault) d some some' a b =
    let answer = laws.lists (facts_of dossier.season) (state_after dossier) lists in absurd (b.1 (answer.apart fault (answer.held a.season a.left) b.0))
one_special_fault laws front lists published dossier (Line line) (Line other) d some some' a b =
    let same = one_left laws front lists dossier a.season b.season d a.left b.left in
    ap (λ (n : ℕ). Line n) (one_line (AreDuePapers a.season.matrix a.season.register.people 1 one_cut) published line other a.is
    (subst (λ (f : SeasonFacts). IsFaultLine (AreDuePapers f.matrix f.people 1 one_cut) published other) (sym same) b.is))
one_special_fault laws front lists published dossier OutOfMemory other d some some' a b = absurd (some refl)
one_special_fault laws front lists published dossier fault OutOfMemory d some some' a b = absurd (some' refl)

-- ---- bytes

-- Fronts of the same bytes are the same.
record AreSameFronts (dossier other : Dossier) (lists published more rest : List ℕ) : Type 0 where
  dossiers : AreSame dossier other
  lists_are : lists ≡ more
  texts : published ≡ rest

one_front : Laws → (bytes : List ℕ) (dossier other : Dossier) (lists published more rest : List ℕ) → IsFront bytes dossier lists published → IsFront bytes other more rest
    → AreSameFronts dossier other lists published more rest
one_front laws bytes dossier other lists published more rest a b =
    let cut = one_special_cut bytes a.0 lists published b.0 more rest a.1.cut b.1.cut in record {
      dossiers = laws.bytes_are b.0 dossier other (subst (λ (f : List ℕ). IsDossier f dossier) cut.fronts a.2) b.2;
      lists_are = cut.lists_are;
      texts = cut.texts;
    }

-- bytes that are a dossier have nothing behind them
pub not_followed : ((bytes : List ℕ) → HaveOneDossier bytes) → (bytes front lists published : List ℕ) (dossier : Dossier) → IsDossier bytes dossier → IsFollowed bytes front lists published → ⊥
not_followed dossiers bytes front lists published dossier is followed =
    (dossiers bytes).apart dossier.season dossier.script (papers_of dossier) (Published followed.line) is followed.more

-- a verdict is sound, or a clause is broken
sound_or_broken : (bytes : List ℕ) (dossier : Dossier) (verdict : Verdict) → IsBrokenFront bytes dossier verdict
    → (lists published : List ℕ) × IsFront bytes dossier lists published × ((rounds : ℕ) → verdict ≡ Sound rounds → ⊥)
sound_or_broken bytes dossier (Sound rounds) is = absurd is
sound_or_broken bytes dossier (Broken round clause prog cand) is = (is.0, is.1, is.2, λ rounds e. cc)

-- ---- one finding

alike_seasons : Laws → (bytes : List ℕ) (dossier other : Dossier) (verdict more : Verdict) → AreSame dossier other → HasVerdict dossier verdict → HasVerdict other more
    → AreAlike (OfSeason dossier verdict) (OfSeason other more)
alike_seasons laws bytes dossier other verdict more same has its = (same, same_verdict laws.verdicts dossier other verdict more same has its)

one_found : Laws → (bytes : List ℕ) (found other : Found) → IsFound bytes found → IsFound bytes other → AreAlike found other
one_found laws bytes (OfSeason dossier verdict) (OfSeason other more) (has, inl is) (its, inl are) = alike_seasons laws bytes dossier other verdict more (laws.bytes_are bytes dossier other is are) has its
one_found laws bytes (OfSeason dossier verdict) (OfSeason other more) (has, inl is) (its, inr are) =
    let front = sound_or_broken bytes other more are in absurd (not_followed laws.dossiers bytes front.2.0 front.0 front.1 dossier is front.2.1)
one_found laws bytes (OfSeason dossier verdict) (OfSeason other more) (has, inr is) (its, inl are) =
    let front = sound_or_broken bytes dossier verdict is in absurd (not_followed laws.dossiers bytes front.2.0 front.0 front.1 other are front.2.1)
one_found laws bytes (OfSeason dossier verdict) (OfSeason other more) (has, inr is) (its, inr are) =
    let a = sound_or_broken bytes dossier verdict is in
    let b = sound_or_broken bytes other more are in
    alike_seasons laws bytes dossier other verdict more (one_front laws bytes dossier other a.0 a.1 b.0 b.1 a.2 b.2).dossiers has its
one_found laws bytes (OfSeason dossier verdict) (OfSpecial other rounds special more) (has, inl is) (front, its) = absurd (not_followed laws.dossiers bytes front.front.0 front.lists front.published dossier is front.front.1)
one_found laws bytes (OfSeason dossier verdict) (OfSpecial other rounds special more) (has, inr is) (front, its) =
    let a = sound_or_broken bytes dossier verdict is in
    let same = one_front laws bytes dossier other a.0 a.1 front.lists front.published a.2 front.front in
    absurd (a.3 rounds (same_verdict laws.verdicts dossier other verdict (Sound rounds) same.dossiers has front.sound))
one_found laws bytes (OfSpecial dossier rounds special verdict) (OfSeason other more) (front, has) (its, inl are) = absurd (not_followed laws.dossiers bytes front.front.0 front.lists front.published other are front.front.1)
one_found laws bytes (OfSpecial dossier rounds special verdict) (OfSeason other more) (front, has) (its, inr are) =
    let b = sound_or_broken bytes other more are in
    let same = one_front laws bytes dossier other front.lists front.published b.0 b.1 front.front b.2 in
    absurd (b.3 rounds (sym (same_verdict laws.verdicts dossier other (Sound rounds) more same.dossiers front.sound its)))
one_found laws bytes (OfSpecial dossier rounds special verdict) (OfSpecial other number again more) (front, has) (behind, its) =
    let same = one_front laws bytes dossier other front.lists front.published behind.lists behind.published front.front behind.front in
    let d : IsSoundDossier front.front.0 dossier = record { is = front.front.2; rounds = rounds; sound = front.sound } in
    let first : Sound rounds ≡ Sound number = same_verdict laws.verdicts dossier other (Sound rounds) (Sound number) same.dossiers front.sound behind.sound in
    let specials = one_special laws front.front.0 front.lists front.published dossier special again d front.is (moved front behind same) in
    (same.dossiers, one_number rounds number first, specials, same_verdict laws.verdicts special again verdict more specials has its)
  where
    one_number : (m n : ℕ) → ◌≡◌ {A = Verdict} (Sound m) (Sound n) → m ≡ n
    one_number m n e = cc e

    moved : (front : IsSoundFront bytes dossier rounds special) (behind : IsSoundFront bytes other number again)
        → AreSameFronts dossier other front.lists front.published behind.lists behind.published → IsSpecialOf dossier front.lists front.published again
    moved front behind same = record {
      season = same_leaves dossier other front.lists again.season same.dossiers (subst (λ (l : List ℕ). Leaves other l again.season) (sym same.lists_are) behind.is.season);
      script = behind.is.script;
      papers = subst (λ (t : List ℕ). AreDuePapers again.season.matrix again.season.register.people 1 one_cut t (papers_of again)) (sym same.texts) behind.is.papers;
    }

-- ---- faults

-- a fault of the bytes, or of the front
of_dossier : (bytes : List ℕ) (fault : DossierFault) → HasFoundFault bytes (BadDossier fault) → IsPlainFault bytes fault ⊎ IsFrontFault bytes fault
of_dossier bytes NoDossierMemory h = absurd h.0
of_dossier bytes fault h = h.1

-- a fault behind the front
of_special : (bytes : List ℕ) (fault : SpecialError) → HasFoundFault bytes (BadSpecial fault) → IsBehindFault bytes fault × (fault ≡ OutOfMemory → ⊥)
of_special bytes OutOfMemory h = absurd h.0
of_special bytes (Lists fault) h = (h.1, λ e. cc)
of_special bytes (Line line) h = (h.1, λ e. cc)

plain_has : (bytes : List ℕ) (fault : DossierFault) → IsPlainFault bytes fault → HasDossierFault bytes fault
plain_has bytes (Published line) h = h.0
plain_has bytes fault h = h

-- bytes with something behind them have no fault of their own
not_plain : Laws → (bytes front lists published : List ℕ) (fault : DossierFault) → IsFollowed bytes front lists published → IsPlainFault bytes fault → ⊥
not_plain laws bytes front lists published (Published line) followed h = h.1 front lists published followed.cut
not_plain laws bytes front lists published ReadFault followed h = h
not_plain laws bytes front lists published NoDossierMemory followed h = h
not_plain laws bytes front lists published fault followed h = (let e = (laws.dossiers bytes).one_fault fault (Published followed.line) h followed.more in cc)

-- a front that is a dossier has no fault
front_apart : Laws → (bytes : List ℕ) (dossier : Dossier) (lists published : List ℕ) (fault : DossierFault) → IsFront bytes dossier lists published → IsFrontFault bytes fault → ⊥
front_apart laws bytes dossier lists published fault a b =
    let cut = one_special_cut bytes a.0 lists published b.0 b.1 b.2 a.1.cut b.3.cut in
    (laws.dossiers a.0).apart dossier.season dossier.script (papers_of dossier) fault a.2 (subst (λ (f : List ℕ). HasDossierFault f fault) (sym cut.fronts) b.4)

dossier_apart : Laws → (bytes : List ℕ) (dossier : Dossier) (lists published : List ℕ) (fault : DossierFault) → IsFront bytes dossier lists published → IsPlainFault bytes fault ⊎ IsFrontFault bytes fault → ⊥
dossier_apart laws bytes dossier lists published fault front (inl plain) = not_plain laws bytes front.0 lists published fault front.1 plain
dossier_apart laws bytes dossier lists published fault front (inr its) = front_apart laws bytes dossier lists published fault front its

-- what is behind one front, seen from another
moved_fault : (dossier other : Dossier) (lists published more rest : List ℕ) (fault : SpecialError) → AreSameFronts dossier other lists published more rest → HasSpecialFault other more rest fault
    → HasSpecialFault dossier lists published fault
moved_fault dossier other lists published more rest (Lists fault) same h =
    (same_fault dossier other lists fault same.dossiers (subst (λ (l : List ℕ). IsSpecialFault (facts_of other.season) (state_after other) l fault) (sym same.lists_are) h.0), h.1)
moved_fault dossier other lists published more rest (Line line) same h = record {
  season = h.season;
  left = same_leaves dossier other lists h.season same.dossiers (subst (λ (l : List ℕ). Leaves other l h.season) (sym same.lists_are) h.left);
  is = subst (λ (t : List ℕ). IsFaultLine (AreDuePapers h.season.matrix h.season.register.people 1 one_cut) t line) (sym same.texts) h.is;
}
moved_fault dossier other lists published more rest OutOfMemory same h = tt

-- a dossier and a fault
pub faultless : ((bytes : List ℕ) → HaveOneDossier bytes) → (bytes : List ℕ) (dossier : Dossier) (fault : FoundFault) → IsDossier bytes dossier → HasFoundFault bytes fault → ⊥
faultless dossiers bytes dossier (BadDossier fault) is h = elim (of_dossier bytes fault h) [
  | inl plain ↦ (dossiers bytes).apart dossier.season dossier.script (papers_of dossier) fault is (plain_has bytes fault plain)
  | inr front ↦ not_followed dossiers bytes front.0 front.1 front.2 dossier is front.3
]
faultless dossiers bytes dossier (BadSpecial fault) is h = let b = (of_special bytes fault h).0 in not_followed dossiers bytes b.front.0 b.lists b.published dossier is b.front.1

-- a finding and a fault
apart : Laws → (bytes : List ℕ) (found : Found) (fault : FoundFault) → IsFound bytes found → HasFoundFault bytes fault → ⊥
apart laws bytes (OfSeason dossier verdict) fault (has, inl is) h = faultless laws.dossiers bytes dossier fault is h
apart laws bytes (OfSeason dossier verdict) (BadDossier fault) (has, inr is) h =
    let a = sound_or_broken bytes dossier verdict is in dossier_apart laws bytes dossier a.0 a.1 fault a.2 (of_dossier bytes fault h)
apart laws bytes (OfSeason dossier verdict) (BadSpecial fault) (has, inr is) h =
    let a = sound_or_broken bytes dossier verdict is in
    let b = (of_special bytes fault h).0 in
    let same = one_front laws bytes dossier b.dossier a.0 a.1 b.lists b.published a.2 b.front in
    a.3 b.rounds (same_verdict laws.verdicts dossier b.dossier verdict (Sound b.rounds) same.dossiers has b.sound)
apart laws bytes (OfSpecial dossier rounds special verdict) (BadDossier fault) (front, has) h = dossier_apart laws bytes dossier front.lists front.published fault front.front (of_dossier bytes fault h)
apart laws bytes (OfSpecial dossier rounds special verdict) (BadSpecial fault) (front, has) h =
    let (b, memory) = of_special bytes fault h in
    let same = one_front laws bytes dossier b.dossier front.lists front.published b.lists b.published front.front b.front in
    not_faulty laws front.front.0 front.lists front.published dossier special fault (record { is = front.front.2; rounds = rounds; sound = front.sound }) memory front.is
    (moved_fault dossier b.dossier front.lists front.published b.lists b.published fault same b.is)

-- two faults
one_fault : Laws → (bytes : List ℕ) (fault other : FoundFault) → HasFoundFault bytes fault → HasFoundFault bytes other → fault ≡ other
one_fault laws bytes (BadDossier fault) (BadDossier other) h k = ap BadDossier (both (of_dossier bytes fault h) (of_dossier bytes other k))
  where
    both : IsPlainFault bytes fault ⊎ IsFrontFault bytes fault → IsPlainFault bytes other ⊎ IsFrontFault bytes other → fault ≡ other
    both (inl a) (inl b) = (laws.dossiers bytes).one_fault fault other (plain_has bytes fault a) (plain_has bytes other b)
    both (inl a) (inr b) = absurd (not_plain laws bytes b.0 b.1 b.2 fault b.3 a)
    both (inr a) (inl b) = absurd (not_plain laws bytes a.0 a.1 a.2 other a.3 b)
    both (inr a) (inr b) =
        let cut = one_special_cut bytes a.0 a.1 a.2 b.0 b.1 b.2 a.3.cut b.3.cut in
        (laws.dossiers a.0).one_fault fault other a.4 (subst (λ (f : List ℕ). HasDossierFault f other) (sym cut.fronts) b.4)
one_fault laws bytes (BadDossier fault) (BadSpecial other) h k =
    let b = (of_special bytes other k).0 in absurd (dossier_apart laws bytes b.dossier b.lists b.published fault b.front (of_dossier bytes fault h))
one_fault laws bytes (BadSpecial fault) (BadDossier other) h k =
    let a = (of_special bytes fault h).0 in absurd (dossier_apart laws bytes a.dossier a.lists a.published other a.front (of_dossier bytes other k))
one_fault laws bytes (BadSpecial fault) (BadSpecial other) h k =
    let (a, memory) = of_special bytes fault h in
    let (b, memory') = of_special bytes other k in
    let same = one_front laws bytes a.dossier b.dossier a.lists a.published b.lists b.published a.front b.front in
    ap BadSpecial (one_special_fault laws a.front.0 a.lists a.published a.dossier fault other (record { is = a.front.2; rounds = a.rounds; sound = a.sound }) memory memory' a.is
    (moved_fault a.dossier b.dossier a.lists a.published b.lists b.published other same b.is))

-- Bytes have one finding.
pub one_finding_of : Laws → (bytes : List ℕ) → HaveOneFinding bytes
one_finding_of laws bytes = record { apart = apart laws bytes; one_found = one_found laws bytes; one_fault = one_fault laws bytes }
