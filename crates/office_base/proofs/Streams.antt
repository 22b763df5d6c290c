-- What several reads or writes, one after another, do to the visible bytes.
use Rattle.std.proofs.Common.{◌≤◌, ◌≡◌, ◌<◌, ◌+◌, ℕ, List, [], ◌++◌, Option, Some, None, take, drop, length, refl, sym, ap, ◌∙◌, subst, arith, append_assoc, length-append}
use Rattle.std.proofs.lemmas.List.{length-take, append-nil, take-append-drop, take_at}
use Rattle.office_base.specs.Outside.{TakesPrefix, ComesAtTheEnd, AppendsPrefix, Took, IsAtEnd, TookMore, Appends}

-- nothing is written yet
pub Appends-none : (before : Option (List ℕ)) → Appends [] before before
Appends-none None = refl
Appends-none (Some bytes) = ap (λ (x : List ℕ). Some x) (sym (append-nil bytes))

-- one more prefix of a piece
pub Appends-more : (done piece : List ℕ) (n : ℕ) (before mid after : Option (List ℕ)) → Appends done before mid → AppendsPrefix n piece mid after → Appends (done ++ take n piece) before after
Appends-more done piece n None mid after a f = subst (λ (m : Option (List ℕ)). AppendsPrefix n piece m after) a f
Appends-more done piece n (Some bytes) mid after a f =
    let e : after ≡ Some ((bytes ++ done) ++ take n piece) = subst (λ (m : Option (List ℕ)). AppendsPrefix n piece m after) a f in
    e ∙ ap (λ (x : List ℕ). Some x) (append_assoc bytes done (take n piece))

-- nothing is read yet
pub Took-none : (before : Option (List ℕ)) → Took [] before before
Took-none None = refl
Took-none (Some bytes) = (bytes, refl, refl)

-- one more read
pub Took-more : (bytes buffer : List ℕ) (n : ℕ) (before mid after : Option (List ℕ)) → Took bytes before mid → TakesPrefix n mid after buffer → Took (bytes ++ take n buffer) before after
Took-more bytes buffer n None mid after t f = subst (λ (m : Option (List ℕ)). TakesPrefix n m after buffer) t f
Took-more bytes buffer n (Some left) mid after t f =
    let g : TakesPrefix n (Some t.0) after buffer = subst (λ (m : Option (List ℕ)). TakesPrefix n m after buffer) t.1 f in
    let e : t.0 ≡ take n buffer ++ drop n t.0 = sym (take-append-drop n t.0) ∙ ap (λ (x : List ℕ). x ++ drop n t.0) (sym g.1) in
    (drop n t.0, g.2, t.2 ∙ (ap (λ (x : List ℕ). bytes ++ x) e ∙ sym (append_assoc bytes (take n buffer) (drop n t.0))))

-- a read of nothing into room leaves nothing, since nothing was left
pub at_end : (buffer : List ℕ) (n room : ℕ) (mid after : Option (List ℕ)) → TakesPrefix n mid after buffer → ComesAtTheEnd n room mid → n ≡ 0 → 0 < room → IsAtEnd after
at_end buffer n room None after f c z r = subst IsAtEnd (sym f) tt
at_end buffer n room (Some left) after f c z r =
    let none : left ≡ [] = c z r in
    let gone : drop n left ≡ [] = ap (λ (x : List ℕ). drop n x) none ∙ ap (λ (k : ℕ). drop k []) z in
    subst IsAtEnd (sym f.2) gone

-- a read gives as many bytes as it says
length-prefix : (n : ℕ) (buffer : List ℕ) → n ≤ length buffer → length (take n buffer) ≡ n
length-prefix n buffer fits = omega (arith, length-take n buffer)

-- what was taken and what was read next are together longer than the limit
pub took_more : (bytes buffer : List ℕ) (n limit : ℕ) (before mid after : Option (List ℕ)) → Took bytes before mid → TakesPrefix n mid after buffer → n ≤ length buffer → limit < length bytes + n → TookMore limit before after
took_more bytes buffer n limit before mid after t f fits l = (
  bytes ++ take n buffer,
  omega (arith, length-append bytes (take n buffer), length-prefix n buffer fits),
  Took-more bytes buffer n before mid after t f,
)

-- a read of nothing adds nothing
pub Took-end : (bytes buffer : List ℕ) (n : ℕ) (before mid after : Option (List ℕ)) → Took bytes before mid → TakesPrefix n mid after buffer → n ≡ 0 → Took bytes before after
Took-end bytes buffer n before mid after t f z =
    subst (λ (x : List ℕ). Took x before after) (ap (λ (k : ℕ). bytes ++ take k buffer) z ∙ append-nil bytes) (Took-more bytes buffer n before mid after t f)

-- what was written is a prefix of the piece, also after a call that wrote nothing
pub written_prefix : (piece done rest : List ℕ) (before mid after : Option (List ℕ)) → piece ≡ done ++ rest → Appends done before mid → after ≡ mid → (n : ℕ) × Appends (take n piece) before after
written_prefix piece done rest before mid after e a k =
    (length done, subst (λ (x : List ℕ). Appends x before after) (sym (ap (λ (x : List ℕ). take (length done) x) e ∙ take_at done rest (length done) refl)) (subst (λ (m : Option (List ℕ)). Appends done before m) (sym k) a))
