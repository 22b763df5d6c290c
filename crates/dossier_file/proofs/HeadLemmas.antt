-- The faults of the texts of one head.
use Rattle.std.proofs.Common.{◌≡◌, ◌≢◌, ◌⊎◌, ◌≤◌, ◌-◌, ◌+◌, ℕ, List, [], ◌∷◌, ◌++◌, length, sym, ap, ◌∙◌, subst, inl, inr, arith, append_assoc, length-append, false}
use Rattle.std.proofs.lemmas.Bool.{cases_eq}
use Rattle.text_readers.specs.Reading.{Begins, Grammar, HasNo, IsFaultLine, first_lines, lines_in}
use Rattle.text_readers.proofs.LineLemmas.{first_lines-none}
use Rattle.text_readers.proofs.PartsLemmas.{cut-one, has-one}
use Rattle.dossier_file.specs.Papers.{OwnTexts}
use Rattle.dossier_file.proofs.LineLemmas.{all_taken, are_front, first_line, one_line, some_line, some_lines, two_fronts, whole_line}

-- a value is one of these exactly where its text has this head
pub record IsHeaded {A : Type 0} (head : List ℕ) (grammar : Grammar A) (Own : A → Type 0) : Type 0 where
  pub back : (tail : List ℕ) (value : A) → grammar (head ++ tail) value → Own value
  pub starts : (text : List ℕ) (value : A) → grammar text value → Own value → (tail : List ℕ) × (text ≡ head ++ tail)

-- the head has no LF but at its end
abbrev pub IsHead : List ℕ → Type 0
IsHead head = HasNo 10 head ⊎ ((line : List ℕ) × (head ≡ line ++ 10 ∷ []) × HasNo 10 line)

-- the first lines of what begins with a head begin with it
head_first : (n : ℕ) → 1 ≤ n → (head tail : List ℕ) → IsHead head → (more : List ℕ) × (first_lines n (head ++ tail) ≡ head ++ more)
head_first n least head tail is = elim is [
  | inl clear ↦ (first_lines n tail, some_line n head tail least clear)
  | inr ended ↦ (
    first_lines (n - 1) tail,
    ap (λ (z : List ℕ). first_lines n (z ++ tail)) ended.1
        ∙ (ap (λ (z : List ℕ). first_lines n z) (append_assoc ended.0 (10 ∷ []) tail)
        ∙ (whole_line n ended.0 tail least ended.2
        ∙ (sym (append_assoc ended.0 (10 ∷ []) (first_lines (n - 1) tail)) ∙ ap (λ (z : List ℕ). z ++ first_lines (n - 1) tail) (sym ended.1)))),
  )
]

-- a part of a head that is not all of it has no LF
part_clear : (head bytes more : List ℕ) (byte : ℕ) → IsHead head → head ≡ bytes ++ byte ∷ more → HasNo 10 bytes
part_clear head bytes more byte is split = elim is [
  | inl clear ↦ front bytes (byte ∷ more) (subst (HasNo 10) split clear)
  | inr ended ↦ inside ended.0 bytes more byte (sym ended.1 ∙ split) ended.2
]
  where
    front : (a b : List ℕ) → HasNo 10 (a ++ b) → HasNo 10 a
    front [] b none = tt
    front (x ∷ a) b none = (none.0, front a b none.1)

    inside : (line a more : List ℕ) (x : ℕ) → line ++ 10 ∷ [] ≡ a ++ x ∷ more → HasNo 10 line → HasNo 10 a
    inside line [] more x e none = tt
    inside [] (y ∷ a) more x e none = (let gone : [] ≡ a ++ x ∷ more = cc in absurd (cons_left a more x (sym gone)))
      where
        cons_left : (a more : List ℕ) (x : ℕ) → a ++ x ∷ more ≡ [] → ⊥
        cons_left [] more x e = cc
        cons_left (z ∷ a) more x e = cc
    inside (z ∷ line) (y ∷ a) more x e none =
        let same : z ≡ y = cc in
        let rest : line ++ 10 ∷ [] ≡ a ++ x ∷ more = cc in
        (subst (λ (k : ℕ). k ≢ 10) same none.0, inside line a more x rest none.1)

module _ {A : Type 0} (head : List ℕ) (grammar : Grammar A) (Own : A → Type 0) (own : IsHeaded head grammar Own) (is_head : IsHead head) where
  -- what begins with the head begins an own text where it begins one
  own_begins : (tail : List ℕ) → Begins grammar (head ++ tail) → Begins (OwnTexts grammar Own) (head ++ tail)
  own_begins tail (more, value, text) = (more, value, (text, own.back (tail ++ more) value (subst (λ (z : List ℕ). grammar z value) (append_assoc head tail more) text)))

  any_begins : (bytes : List ℕ) → Begins (OwnTexts grammar Own) bytes → Begins grammar bytes
  any_begins bytes (more, value, text) = (more, value, text.0)

  module _ (some : Begins (OwnTexts grammar Own) []) where
    -- with its head the faults of a piece are those of `OwnTexts`
    pub own_fault : (tail : List ℕ) (n : ℕ) → IsFaultLine grammar (head ++ tail) n → IsFaultLine (OwnTexts grammar Own) (head ++ tail) n
    own_fault tail n fault = record {
      none = λ value text. fault.none value text.0;
      some = fault.some;
      before = elim (cases_eq n 1) [
        | inl one ↦ subst (Begins (OwnTexts grammar Own)) (sym (first_lines-none (head ++ tail)) ∙ ap (λ (k : ℕ). first_lines k (head ++ tail)) (omega (arith, one))) some
        | inr more ↦
            let least = fault.some in
            let front = head_first (n - 1) (omega (arith, more, least)) head tail is_head in
            subst (Begins (OwnTexts grammar Own)) (sym front.1) (own_begins front.0 (subst (Begins grammar) front.1 fault.before))
      ];
      here = elim fault.here [
        | inl h ↦ inl (h.0, λ begins. h.1 (any_begins (first_lines n (head ++ tail)) begins))
        | inr h ↦ inr (h.0, own_begins tail h.1)
      ];
    }

    -- bytes that end inside the head
    pub inside_fault : (bytes more : List ℕ) (byte n : ℕ) → head ≡ bytes ++ byte ∷ more → n ≡ lines_in bytes + 1 → IsFaultLine (OwnTexts grammar Own) bytes n
    inside_fault bytes more byte n split count =
        let begins : Begins (OwnTexts grammar Own) bytes =
        let start = own.starts some.0 some.1 some.2.0 some.2.1 in (
          (byte ∷ more) ++ start.0,
          some.1,
          subst (λ (z : List ℕ). OwnTexts grammar Own z some.1) (start.1 ∙ (ap (λ (z : List ℕ). z ++ start.0) split ∙ append_assoc bytes (byte ∷ more) start.0)) some.2,
        ) in
        record {
          none = λ value text.
              let start = own.starts bytes value text.0 text.1 in
              let long = ap length (start.1 ∙ (ap (λ (z : List ℕ). z ++ start.0) split ∙ append_assoc bytes (byte ∷ more) start.0)) in
              let sum = length-append bytes ((byte ∷ more) ++ start.0) in
              omega (arith, long, sum);
          some = omega (arith, count);
          before = subst (Begins (OwnTexts grammar Own)) (sym (ap (λ (k : ℕ). first_lines k bytes) (omega (arith, count)) ∙ all_taken false bytes)) begins;
          here = inr (count, begins);
        }

    -- and with their number
    pub inside_line : (bytes more : List ℕ) (byte : ℕ) → head ≡ bytes ++ byte ∷ more → bytes ≢ [] → IsFaultLine (OwnTexts grammar Own) bytes 2
    inside_line bytes more byte split held =
        let one = one_line bytes (part_clear head bytes more byte is_head split) held in
        inside_fault bytes more byte 2 split (omega (arith, one))

    -- bytes of which neither begins the other
    pub apart_fault : (bytes : List ℕ) → ((tail : List ℕ) → bytes ≡ head ++ tail → ⊥) → ((tail : List ℕ) → head ≡ bytes ++ tail → ⊥) → IsFaultLine (OwnTexts grammar Own) bytes 1
    apart_fault bytes longer shorter = record {
      none = λ value text. let start = own.starts bytes value text.0 text.1 in longer start.0 start.1;
      some = omega arith;
      before = subst (Begins (OwnTexts grammar Own)) (sym (first_lines-none bytes)) some;
      here = inl (some_lines bytes (λ empty. shorter head (ap (λ (z : List ℕ). z ++ head) (sym empty))), λ begins. never begins);
    }
      where
        -- the head begins the first line
        first_longer : (tail : List ℕ) → first_lines 1 bytes ≡ head ++ tail → ⊥
        first_longer tail e =
            let front = are_front 1 bytes in
            longer (tail ++ front.0) (front.1 ∙ (ap (λ (z : List ℕ). z ++ front.0) e ∙ append_assoc head tail front.0))

        -- the first line begins the head
        first_shorter : (tail : List ℕ) → head ≡ first_lines 1 bytes ++ tail → ⊥
        first_shorter tail e = elim (first_line bytes) [
          | inl all ↦ shorter tail (e ∙ ap (λ (z : List ℕ). z ++ tail) all)
          | inr is ↦
              let there : head ≡ is.line ++ 10 ∷ tail = e ∙ (ap (λ (z : List ℕ). z ++ tail) is.taken ∙ append_assoc is.line (10 ∷ []) tail) in
              elim is_head [
                | inl clear ↦ has-one 10 is.line tail (subst (HasNo 10) there clear)
                | inr ended ↦
                    let cut = cut-one 10 ended.0 is.line [] tail ended.2 is.clear (sym ended.1 ∙ there) in
                    longer is.tail (is.whole ∙ (ap (λ (z : List ℕ). z ++ 10 ∷ is.tail) (sym cut.0) ∙ (sym (append_assoc ended.0 (10 ∷ []) is.tail) ∙ ap (λ (z : List ℕ). z ++ is.tail) (sym ended.1))))
              ]
        ]

        never : Begins (OwnTexts grammar Own) (first_lines 1 bytes) → ⊥
        never begins =
            let start = own.starts (first_lines 1 bytes ++ begins.0) begins.1 begins.2.0 begins.2.1 in
            elim (two_fronts (first_lines 1 bytes) begins.0 head start.0 start.1) [
              | inl h ↦ first_shorter h.0 h.1
              | inr h ↦ first_longer h.0 h.1
            ]
