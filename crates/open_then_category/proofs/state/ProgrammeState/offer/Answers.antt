use Rattle.std.proofs.Common.{◌≡◌, ◌∙◌, ℕ, ap, sym, subst, refl, arith}
use Rattle.std.proofs.lemmas.Bool.{eqb-true, eqb-false}
use Rattle.office_base.specs.declared.person.CandId.{CandId}
use Rattle.merit_choice.specs.declared.state.Offered.{Offered}
use Rattle.merit_choice.specs.declared.state.Offered.TheVariants.{Displaced, Refused, Taken}
use Rattle.open_then_category.specs.State.{IsAnswered, ProgrammeKept, people_held}
use Rattle.open_then_category.proofs.Leaving.{count}
use Rattle.open_then_category.proofs.Keeping.{answer_displaced, answer_refused, answer_taken}
use Rattle.open_then_category.proofs.Offering.{all_there, are_held, chooses, chosen, few, goes_on, keeps, leaves, may_come, open_most, steps_most, tail_ranked, to_categories, to_last, to_open}
use Rattle.open_then_category.proofs.state.ProgrammeState.offer.Goals as goal
use Rattle.open_then_category.proofs.state.ProgrammeState.offer.Goals.{in-None, in-Some+then-eq, in-Some+else-eq}

pub hand_common-by_open-requires-clause-new : goal.hand_common-by_open-requires-clause-new
hand_common-by_open-requires-clause-new g c = to_open c.step_laws.ensures _ _ _ _ _ _ c.self.invariant c.self.view_is c.requires _ refl

pub hand_down-coming-requires : goal.hand_down-coming-requires
hand_down-coming-requires g c =
    to_categories c.step_laws.ensures _ _ _ _ _ _ c.self.invariant c.self.view_is c.requires _ refl
    c.hand_common-by_open.new.step c.hand_common-by_open.result c.hand_common-by_open.ensures.offered

pub held_by_steps-held-requires-clause-open : goal.held_by_steps-held-requires-clause-open
held_by_steps-held-requires-clause-open g c = open_most c.step_laws.ensures _ _ _ _ _ _ c.self.invariant c.self.view_is c.requires _ refl c.hand_common-by_open.new.step c.hand_common-by_open.ensures.stays

pub held_by_steps-held-requires-clause-categories : goal.held_by_steps-held-requires-clause-categories
held_by_steps-held-requires-clause-categories g c =
    steps_most c.step_laws.ensures _ _ _ _ _ _ c.self.invariant c.self.view_is c.requires _ refl
    c.hand_common-by_open.new.step c.hand_common-by_open.result c.hand_common-by_open.ensures.offered c.hand_down-coming.new.categories c.hand_down-coming.result c.hand_down-coming.ensures

pub left_unfilled-empty-requires-clause-held : goal.left_unfilled-empty-requires-clause-held
left_unfilled-empty-requires-clause-held g c =
    are_held c.step_laws.ensures _ _ _ _ _ _ c.self.invariant c.self.view_is c.requires _ refl
    c.hand_common-by_open.new.step c.hand_common-by_open.result c.hand_common-by_open.ensures.offered c.hand_down-coming.new.categories c.hand_down-coming.result c.hand_down-coming.ensures
    c.held_by_steps-held.result c.held_by_steps-held.ensures

pub keep_best-requires-clause-ranked : goal.keep_best-requires-clause-ranked
keep_best-requires-clause-ranked g c = tail_ranked c.step_laws.ensures _ _ _ _ _ _ c.self.invariant c.self.view_is c.requires _ refl

pub keep_best-requires-clause-new : goal.keep_best-requires-clause-new
keep_best-requires-clause-new g c =
    to_last c.step_laws.ensures _ _ _ _ _ _ c.self.invariant c.self.view_is c.requires _ refl
    c.hand_common-by_open.new.step c.hand_common-by_open.result c.hand_common-by_open.ensures.offered c.hand_down-coming.new.categories c.hand_down-coming.result c.hand_down-coming.ensures

pub keep_best-requires-clause-few : goal.keep_best-requires-clause-few
keep_best-requires-clause-few g c =
    let most = few c.step_laws.ensures _ _ _ _ _ _ c.self.invariant c.self.view_is c.requires _ refl
    c.hand_common-by_open.new.step c.hand_common-by_open.result c.hand_common-by_open.ensures.offered c.hand_down-coming.new.categories c.hand_down-coming.result c.hand_down-coming.ensures
    c.held_by_steps-held.result c.held_by_steps-held.ensures c.left_unfilled-empty.result c.left_unfilled-empty.ensures in
    omega (arith, most)

pub keep_best-requires-clause-free : goal.keep_best-requires-clause-free
keep_best-requires-clause-free g c other comes =
    let most = few c.step_laws.ensures _ _ _ _ _ _ c.self.invariant c.self.view_is c.requires _ refl
    c.hand_common-by_open.new.step c.hand_common-by_open.result c.hand_common-by_open.ensures.offered c.hand_down-coming.new.categories c.hand_down-coming.result c.hand_down-coming.ensures
    c.held_by_steps-held.result c.held_by_steps-held.ensures c.left_unfilled-empty.result c.left_unfilled-empty.ensures in
    let one = ap count comes in
    omega (arith, most, one)

pub invariant_of-self : goal.invariant_of-self
invariant_of-self g c =
    keeps c.step_laws.ensures _ _ _ _ _ _ c.self.invariant c.self.view_is c.requires _ refl
    c.hand_common-by_open.new.step c.hand_common-by_open.result c.hand_common-by_open.ensures.offered c.hand_down-coming.new.categories c.hand_down-coming.result c.hand_down-coming.ensures
    c.held_by_steps-held.result c.held_by_steps-held.ensures c.left_unfilled-empty.result c.left_unfilled-empty.ensures c.keep_best.result c.keep_best.new.people.items c.keep_best.ensures.last
    c.offers_keep_choices.ensures _ c.keep_best.ensures.room c.hand_common-by_open.ensures.stays

pub returns-clause-choice : goal.returns-clause-choice
returns-clause-choice g c =
    chooses c.step_laws.ensures _ _ _ _ _ _ c.self.invariant c.self.view_is c.requires _ refl
    c.hand_common-by_open.new.step c.hand_common-by_open.result c.hand_common-by_open.ensures.offered c.hand_down-coming.new.categories c.hand_down-coming.result c.hand_down-coming.ensures
    c.held_by_steps-held.result c.held_by_steps-held.ensures c.left_unfilled-empty.result c.left_unfilled-empty.ensures c.keep_best.result c.keep_best.new.people.items c.keep_best.ensures.last
    c.offers_keep_choices.ensures

pub returns-clause-all : goal.returns-clause-all
returns-clause-all g c =
    goes_on c.step_laws.ensures _ _ _ _ _ _ c.self.invariant c.self.view_is c.requires _ refl
    c.hand_common-by_open.new.step c.hand_common-by_open.result c.hand_common-by_open.ensures.offered c.hand_down-coming.new.categories c.hand_down-coming.result c.hand_down-coming.ensures
    c.held_by_steps-held.result c.held_by_steps-held.ensures c.left_unfilled-empty.result c.left_unfilled-empty.ensures c.keep_best.result c.keep_best.new.people.items c.keep_best.ensures.last
    c.offers_keep_choices.ensures c.resumes.ensures

pub returns-clause-answer : goal.returns-clause-answer
returns-clause-answer g c =
    let inside = c.self.inside in
    let person = c.args.person.now in
    let may = may_come c.step_laws.ensures _ _ _ _ _ _ c.self.invariant c.self.view_is c.requires _ refl in
    let choice = chosen c.step_laws.ensures _ _ _ _ _ _ c.self.invariant c.self.view_is c.requires _ refl
    c.hand_common-by_open.new.step c.hand_common-by_open.result c.hand_common-by_open.ensures.offered c.hand_down-coming.new.categories c.hand_down-coming.result c.hand_down-coming.ensures
    c.held_by_steps-held.result c.held_by_steps-held.ensures c.left_unfilled-empty.result c.left_unfilled-empty.ensures c.keep_best.result c.keep_best.new.people.items c.keep_best.ensures.last
    c.offers_keep_choices.ensures in
    let out = leaves c.step_laws.ensures _ _ _ _ _ _ c.self.invariant c.self.view_is c.requires _ refl
    c.hand_common-by_open.new.step c.hand_common-by_open.result c.hand_common-by_open.ensures.offered c.hand_down-coming.new.categories c.hand_down-coming.result c.hand_down-coming.ensures
    c.held_by_steps-held.result c.held_by_steps-held.ensures c.left_unfilled-empty.result c.left_unfilled-empty.ensures c.keep_best.result c.keep_best.new.people.items c.keep_best.ensures.last
    c.offers_leave_one.ensures in
    let each = all_there c.step_laws.ensures _ _ _ _ _ _ c.self.invariant c.self.view_is c.requires _ refl
    c.hand_common-by_open.new.step c.hand_common-by_open.result c.hand_common-by_open.ensures.offered c.hand_down-coming.new.categories c.hand_down-coming.result c.hand_down-coming.ensures
    c.keep_best.new.people.items in
    let old : ProgrammeKept = record { version = inside.version; seats = inside.seats; held = people_held inside.open_step inside.categories inside.dereserved.items } in
    let now : ProgrammeKept = record {
      version = inside.version;
      seats = inside.seats;
      held = people_held c.hand_common-by_open.new.step c.hand_down-coming.new.categories c.keep_best.new.people.items;
    } in
    let done = λ (result : Offered) (answered : IsAnswered old person result now).
    let a : IsAnswered c.args.self.now person result now = subst (λ (s : ProgrammeKept). IsAnswered s person result now) c.self.view_is answered in a in
    let answers = λ (result : Offered). IsAnswered c.args.self.now person result now in
    elim c.match-keep_best.branch [
      | in-None w ↦ subst answers (sym w.result-is) (done Taken (answer_taken old now person c.keep_best.result w.in-None.is out))
      | in-Some+then-eq w ↦
          let gone = w.in-Some.gone in
          let same : gone.id ≡ person.id = ap (λ (n : ℕ). let cand : CandId = record { 0 = n } in cand) (eqb-true gone.id.0 person.id.0 (sym w.eq.ensures ∙ w.if-eq.true)) in
          subst answers (sym w.result-is) (done Refused (answer_refused c.step_laws.ensures old now person gone c.keep_best.result refl each c.self.invariant.kept may choice w.in-Some.is same out))
      | in-Some+else-eq w ↦
          let gone = w.in-Some.gone in
          let apart : gone.id ≡ person.id → ⊥ = λ same. eqb-false gone.id.0 person.id.0 (sym w.eq.ensures ∙ w.if-eq.false) (ap (λ (cand : CandId). cand.0) same) in
          subst answers (sym w.result-is) (done (Displaced gone.id) (answer_displaced old now person gone c.keep_best.result may w.in-Some.is apart out))
    ]
