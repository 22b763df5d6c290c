use Rattle.std.proofs.Common.{◌≡◌, ◌∙◌, ◌<◌, ◌+◌, ◌++◌, ◌∷◌, [], ℕ, suc, List, length, take, get_or, sym, ap, subst, arith}
use Rattle.std.proofs.lemmas.List.{append-nil}
use Rattle.std.proofs.lemmas.Option.{slice_get-get_or}
use Rattle.office_base.specs.declared.person.ProgId.{ProgId}
use Rattle.seeks.specs.Seek.{IsWithinList, seek_leaves}
use Rattle.seeks.specs.declared.seek.Seek.{Seek}
use Rattle.seeks.proofs.Left.{left_whole, left_nothing, left_only, left_up_to}
use Rattle.seeks.proofs.seek.push_left.Goals as goal

pub returns-in_ok-extend_from_slice-in-Whole : goal.returns-in_ok-extend_from_slice-in-Whole
returns-in_ok-extend_from_slice-in-Whole c =
    let list = c.args.list.now in
    c.in_ok-extend_from_slice-in-Whole.ensures.items
    ∙ ap (λ (more : List ProgId). c.args.out.now.items ++ more)
    (subst (λ (s : Seek). list ≡ seek_leaves c.args.matrix.now s list) (sym c.in-Whole.is) (sym (left_whole c.args.matrix.now list 0 list)))

pub returns-in_ok-extend_from_slice-in-UpTo : goal.returns-in_ok-extend_from_slice-in-UpTo
returns-in_ok-extend_from_slice-in-UpTo c =
    let list = c.args.list.now in
    let last = c.in-UpTo.last in
    let count : c.from.result + 1 ≡ suc last = let same = c.from.ensures in omega arith in
    c.in_ok-extend_from_slice-in-UpTo.ensures.items
    ∙ ap (λ (k : ℕ). c.args.out.now.items ++ take k list) count
    ∙ ap (λ (more : List ProgId). c.args.out.now.items ++ more)
    (subst (λ (s : Seek). take (suc last) list ≡ seek_leaves c.args.matrix.now s list) (sym c.in-UpTo.is)
    (sym (left_up_to c.args.matrix.now list last 0 (suc last) list (omega arith))))

pub returns-in_ok-push-in-Only : goal.returns-in_ok-push-in-Only
returns-in_ok-push-in-Only c =
    let list = c.args.list.now in
    let seat = c.in-Only.seat in
    let inside : seat < length list = subst (IsWithinList list) c.in-Only.is c.requires.within in
    let there = slice_get-get_or list seat none inside in
    c.in_ok-push-in-Only.ensures.items
    ∙ ap (λ (k : ℕ). c.args.out.now.items ++ get_or list k none ∷ []) c.from-in-Only.ensures
    ∙ ap (λ (more : List ProgId). c.args.out.now.items ++ more)
    (subst (λ (s : Seek). get_or list seat none ∷ [] ≡ seek_leaves c.args.matrix.now s list) (sym c.in-Only.is)
    (sym (left_only c.args.matrix.now list seat 0 seat list (get_or list seat none) (omega arith) there)))
  where
    none : ProgId
    none = record { 0 = 0 }

pub returns-in-Nothing : goal.returns-in-Nothing
returns-in-Nothing c =
    sym (append-nil c.args.out.now.items)
    ∙ ap (λ (more : List ProgId). c.args.out.now.items ++ more)
    (subst (λ (s : Seek). [] ≡ seek_leaves c.args.matrix.now s c.args.list.now) (sym c.in-Nothing.is) (sym (left_nothing c.args.matrix.now c.args.list.now 0 c.args.list.now)))
