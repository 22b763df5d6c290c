-- What bytes come to is one, and stays whatever follows.
use Rattle.std.proofs.Common.{◌≡◌, ◌<◌, ◌≤◌, ◌+◌, ◌⊎◌, ℕ, zero, suc, Bool, true, false, cond, ltb, codes, List, [], ◌∷◌, ◌++◌, length, take, drop, Option, None, Some, Result, Ok, Err, unwrap_or, refl, sym, ap, ◌∙◌, subst, inl, inr, arith}
use Rattle.std.specs.Prelude.{bytes_eq}
use Rattle.std.specs.Result.{result_ok}
use Rattle.std.proofs.lemmas.Bool.{ltb-false}
use Rattle.std.proofs.lemmas.List.{length-take, length-drop, length-append, take_all, take-append-le, drop-append-le}
use Rattle.http_wire.specs.Limits.{most_head_bytes, most_body_bytes, most_message_bytes}
use Rattle.httparse.specs.Grammar.{RequestHead}
use Rattle.httparse.proofs.GrammarLemmas.{request_unique}
use Rattle.http_wire.specs.Fields.{Pair, body_len, has_field, length_for, one_length, values}
use Rattle.http_wire.specs.HeadEnds.{head_len}
use Rattle.http_wire.specs.Messages.{Message, message_of, pairs, Reads, HeadEnds, Begins, IsWhole, IsNoHead, IsUnframed, IsRefused, HasNoHeadYet, IsUnfinished, IsTorn, Answer, whole, refused, unfinished, ComesTo, Stays}
use Rattle.http_wire.specs.Laws.{IsNoneOrTorn}
use Rattle.http_wire.proofs.HeadEndsLemmas.{head_len-append, head_len-fits}

-- ---- whatever follows

-- The first bytes stay.
take-append : (n : ℕ) (bytes more : List ℕ) → (rest : List ℕ) × (take n (bytes ++ more) ≡ take n bytes ++ rest)
take-append zero bytes more = ([], refl)
take-append (suc n) [] more = (take (suc n) more, refl)
take-append (suc n) (byte ∷ bytes) more = let rest = take-append n bytes more in (rest.0, ap (λ (list : List ℕ). byte ∷ list) rest.1)

ends-append : (n : ℕ) (bytes more : List ℕ) (end : ℕ) → head_len (take n bytes) ≡ Some end → head_len (take n (bytes ++ more)) ≡ Some end
ends-append n bytes more end ends = let rest = take-append n bytes more in ap head_len rest.1 ∙ head_len-append (take n bytes) rest.0 end ends

end-fits : (n : ℕ) (bytes : List ℕ) (end : ℕ) → head_len (take n bytes) ≡ Some end → end ≤ length bytes
end-fits n bytes end ends = omega (arith, head_len-fits (take n bytes) end ends, length-take n bytes)

HeadEnds-append : (bytes more : List ℕ) (end : ℕ) → HeadEnds bytes end → HeadEnds (bytes ++ more) end
HeadEnds-append bytes more end ends = ends-append most_head_bytes bytes more end ends

HeadEnds-fits : (bytes : List ℕ) (end : ℕ) → HeadEnds bytes end → end ≤ length bytes
HeadEnds-fits bytes end ends = end-fits most_head_bytes bytes end ends

-- the head of the bytes, and of more bytes
same_head_bytes : (bytes more : List ℕ) (end : ℕ) → HeadEnds bytes end → take end (bytes ++ more) ≡ take end bytes
same_head_bytes bytes more end ends = take-append-le end bytes more (HeadEnds-fits bytes end ends)

Reads-append : (bytes more : List ℕ) (end : ℕ) (head : RequestHead) → HeadEnds bytes end → Reads (take end bytes) head → Reads (take end (bytes ++ more)) head
Reads-append bytes more end head ends reads = subst (λ (list : List ℕ). Reads list head) (sym (same_head_bytes bytes more end ends)) reads

Reads-before : (bytes more : List ℕ) (end : ℕ) (head : RequestHead) → HeadEnds bytes end → Reads (take end (bytes ++ more)) head → Reads (take end bytes) head
Reads-before bytes more end head ends reads = subst (λ (list : List ℕ). Reads list head) (same_head_bytes bytes more end ends) reads

same_body : (bytes more : List ℕ) (end body : ℕ) → end + body ≤ length bytes → take body (drop end bytes) ≡ take body (drop end (bytes ++ more))
same_body bytes more end body come =
    let first : take body (drop end bytes ++ more) ≡ take body (drop end bytes) = take-append-le body (drop end bytes) more (omega (arith, length-drop end bytes)) in
    sym (ap (take body) (drop-append-le end bytes more (omega arith)) ∙ first)

pub IsWhole-append : (bytes more : List ℕ) (message : Message) (len : ℕ) → IsWhole bytes message len → IsWhole (bytes ++ more) message len
IsWhole-append bytes more message len it = record {
  end = it.end;
  head = it.head;
  body = it.body;
  begins = record {
    ends = HeadEnds-append bytes more it.end it.begins.ends;
    reads = Reads-append bytes more it.end it.head it.begins.ends it.begins.reads;
    framed = it.begins.framed;
  };
  come = omega (arith, length-append bytes more, it.come);
  told = it.told ∙ ap (message_of it.head) (same_body bytes more it.end it.body it.come);
  len_is = it.len_is;
}

pub IsRefused-append : (bytes more : List ℕ) (status : ℕ) → IsRefused bytes status → IsRefused (bytes ++ more) status
IsRefused-append bytes more status (inl long) =
    inl (long.0, (omega (arith, length-append bytes more, long.1.0), ap head_len (take-append-le most_head_bytes bytes more long.1.0) ∙ long.1.1))
IsRefused-append bytes more status (inr (inl none)) =
    let it = none.1 in
    inr (inl (none.0, (it.0, HeadEnds-append bytes more it.0 it.1, λ head reads. it.2 head (Reads-before bytes more it.0 head it.1 reads))))
IsRefused-append bytes more status (inr (inr it)) =
    inr (inr (it.0, it.1, HeadEnds-append bytes more it.0 it.2, Reads-append bytes more it.0 it.1 it.2 it.3, it.4))

pub stays : (bytes : List ℕ) (answer : Answer) → ComesTo bytes answer → Stays bytes answer
stays bytes (whole message len) it = λ more. IsWhole-append bytes more message len it
stays bytes (refused status) it = λ more. IsRefused-append bytes more status it
stays bytes unfinished it = it

-- ---- one answer

some_one : (a b : ℕ) (found : Option ℕ) → found ≡ Some a → found ≡ Some b → a ≡ b
some_one a b found x y = ap (λ (n : Option ℕ). unwrap_or n 0) (sym x ∙ y)

ok_one : (a b : ℕ) (found : Result ℕ ℕ) → found ≡ Ok a → found ≡ Ok b → a ≡ b
ok_one a b found x y = ap (λ (n : Result ℕ ℕ). unwrap_or (result_ok n) 0) (sym x ∙ y)

status_of : Result ℕ ℕ → ℕ
status_of (Ok n) = 0
status_of (Err status) = status

err_one : (a b : ℕ) (found : Result ℕ ℕ) → found ≡ Err a → found ≡ Err b → a ≡ b
unfolding status_of
err_one a b found x y = ap status_of (sym x ∙ y)

-- a head that came is one
pub record Came (bytes : List ℕ) (end : ℕ) (head : RequestHead) : Type 0 where
  pub ends : HeadEnds bytes end
  pub reads : Reads (take end bytes) head

came_one : (bytes : List ℕ) (end end' : ℕ) (head head' : RequestHead) → Came bytes end head → Came bytes end' head' → (end ≡ end') × (head ≡ head')
came_one bytes end end' head head' x y =
    let same = some_one end end' (head_len (take most_head_bytes bytes)) x.ends y.ends in
    let reads : Reads (take end' bytes) head = subst (λ (n : ℕ). Reads (take n bytes) head) same x.reads in
    (same, (request_unique (take end' bytes) head head' reads.rest y.reads.rest reads.reads y.reads.reads).0)

framed_same : (head head' : RequestHead) → head ≡ head' → body_len head.method (pairs head) ≡ body_len head'.method (pairs head')
framed_same head head' same = ap (λ (h : RequestHead). body_len h.method (pairs h)) same

came : (bytes : List ℕ) (end : ℕ) (head : RequestHead) (body : ℕ) → Begins bytes end head body → Came bytes end head
came bytes end head body begins = record { ends = begins.ends; reads = begins.reads }

begins_one : (bytes : List ℕ) (end end' : ℕ) (head head' : RequestHead) (body body' : ℕ) → Begins bytes end head body → Begins bytes end' head' body' → (end ≡ end') × (head ≡ head') × (body ≡ body')
begins_one bytes end end' head head' body body' x y =
    let same = came_one bytes end end' head head' (came bytes end head body x) (came bytes end' head' body' y) in
    (same.0, same.1, ok_one body body' (body_len head.method (pairs head)) x.framed (framed_same head head' same.1 ∙ y.framed))

-- a head that came is refused neither for its form nor with a status where its body has a length
not_no_head : (bytes : List ℕ) (end : ℕ) (head : RequestHead) → Came bytes end head → IsNoHead bytes → ⊥
not_no_head bytes end head it none =
    let same = some_one end none.0 (head_len (take most_head_bytes bytes)) it.ends none.1 in
    none.2 head (subst (λ (n : ℕ). Reads (take n bytes) head) same it.reads)

not_unframed : (bytes : List ℕ) (end : ℕ) (head : RequestHead) (body status : ℕ) → Begins bytes end head body → IsUnframed bytes status → ⊥
not_unframed bytes end head body status begins it =
    let same = came_one bytes end it.0 head it.1 (came bytes end head body begins) (record { ends = it.2; reads = it.3 }) in
    differs (body_len head.method (pairs head)) begins.framed (framed_same head it.1 same.1 ∙ it.4)
  where
    differs : (found : Result ℕ ℕ) → found ≡ Ok body → found ≡ Err status → ⊥
    differs found x y = cc

no_end : (found : Option ℕ) (end : ℕ) → found ≡ None → found ≡ Some end → ⊥
no_end found end x y = cc

not_refused : (bytes : List ℕ) (end : ℕ) (head : RequestHead) (body status : ℕ) → Begins bytes end head body → IsRefused bytes status → ⊥
not_refused bytes end head body status begins (inl long) = no_end (head_len (take most_head_bytes bytes)) end long.1.1 begins.ends
not_refused bytes end head body status begins (inr (inl none)) = not_no_head bytes end head (came bytes end head body begins) none.1
not_refused bytes end head body status begins (inr (inr it)) = not_unframed bytes end head body status begins it

-- where a head ended, one has
not_yet : (bytes : List ℕ) (end : ℕ) → HeadEnds bytes end → HasNoHeadYet bytes → ⊥
not_yet bytes end ends none = no_end (head_len (take most_head_bytes bytes)) end (ap head_len (take_all most_head_bytes bytes (omega (arith, none.0))) ∙ none.1) ends

whole_finished : (bytes : List ℕ) (message : Message) (len : ℕ) → IsWhole bytes message len → IsUnfinished bytes → ⊥
whole_finished bytes message len it (inl none) = not_yet bytes it.end it.begins.ends none
whole_finished bytes message len it (inr lacks) =
    let same = begins_one bytes it.end lacks.0 it.head lacks.1 it.body lacks.2 it.begins lacks.3 in
    omega (arith, it.come, lacks.4, same.0, same.2)

refused_finished : (bytes : List ℕ) (status : ℕ) → IsRefused bytes status → IsUnfinished bytes → ⊥
refused_finished bytes status (inl long) (inl none) = omega (arith, long.1.0, none.0)
refused_finished bytes status (inr (inl it)) (inl none) = not_yet bytes it.1.0 it.1.1 none
refused_finished bytes status (inr (inr it)) (inl none) = not_yet bytes it.0 it.2 none
refused_finished bytes status refuses (inr lacks) = not_refused bytes lacks.0 lacks.1 lacks.2 status lacks.3 refuses

refused_one : (bytes : List ℕ) (a b : ℕ) → IsRefused bytes a → IsRefused bytes b → a ≡ b
refused_one bytes a b (inl x) (inl y) = x.0 ∙ sym y.0
refused_one bytes a b (inl x) (inr (inl y)) = absurd (no_end (head_len (take most_head_bytes bytes)) y.1.0 x.1.1 y.1.1)
refused_one bytes a b (inl x) (inr (inr y)) = absurd (no_end (head_len (take most_head_bytes bytes)) y.0 x.1.1 y.2)
refused_one bytes a b (inr (inl x)) (inl y) = absurd (no_end (head_len (take most_head_bytes bytes)) x.1.0 y.1.1 x.1.1)
refused_one bytes a b (inr (inl x)) (inr (inl y)) = x.0 ∙ sym y.0
refused_one bytes a b (inr (inl x)) (inr (inr y)) = absurd (not_no_head bytes y.0 y.1 (record { ends = y.2; reads = y.3 }) x.1)
refused_one bytes a b (inr (inr x)) (inl y) = absurd (no_end (head_len (take most_head_bytes bytes)) x.0 y.1.1 x.2)
refused_one bytes a b (inr (inr x)) (inr (inl y)) = absurd (not_no_head bytes x.0 x.1 (record { ends = x.2; reads = x.3 }) y.1)
refused_one bytes a b (inr (inr x)) (inr (inr y)) =
    let same = came_one bytes x.0 y.0 x.1 y.1 (record { ends = x.2; reads = x.3 }) (record { ends = y.2; reads = y.3 }) in
    err_one a b (body_len x.1.method (pairs x.1)) x.4 (framed_same x.1 y.1 same.1 ∙ y.4)

whole_one : (bytes : List ℕ) (m n : Message) (len size : ℕ) → IsWhole bytes m len → IsWhole bytes n size → (m ≡ n) × (len ≡ size)
whole_one bytes m n len size x y =
    let same = begins_one bytes x.end y.end x.head y.head x.body y.body x.begins y.begins in
    (x.told ∙ (told_same x.end y.end x.head y.head x.body y.body same.0 same.1 same.2 ∙ sym y.told), omega (arith, x.len_is, y.len_is, same.0, same.2))
  where
    told_same : (end end' : ℕ) (head head' : RequestHead) (body body' : ℕ) → end ≡ end' → head ≡ head' → body ≡ body' → message_of head (take body (drop end bytes)) ≡ message_of head' (take body' (drop end' bytes))
    told_same end end' head head' body body' e h b =
        ap (λ (k : ℕ). message_of head (take body (drop k bytes))) e
        ∙ (ap (λ (k : ℕ). message_of head (take k (drop end' bytes))) b
        ∙ ap (λ (k : RequestHead). message_of k (take body' (drop end' bytes))) h)

pub one_answer : (bytes : List ℕ) (a b : Answer) → ComesTo bytes a → ComesTo bytes b → a ≡ b
one_answer bytes (whole m len) (whole n size) x y = let same = whole_one bytes m n len size x y in ap (λ (k : Message). whole k len) same.0 ∙ ap (λ (k : ℕ). whole n k) same.1
one_answer bytes (whole m len) (refused b) x y = absurd (not_refused bytes x.end x.head x.body b x.begins y)
one_answer bytes (whole m len) unfinished x y = absurd (whole_finished bytes m len x y)
one_answer bytes (refused a) (whole n size) x y = absurd (not_refused bytes y.end y.head y.body a y.begins x)
one_answer bytes (refused a) (refused b) x y = ap (λ (k : ℕ). refused k) (refused_one bytes a b x y)
one_answer bytes (refused a) unfinished x y = absurd (refused_finished bytes a x y)
one_answer bytes unfinished (whole n size) x y = absurd (whole_finished bytes n size y x)
one_answer bytes unfinished (refused b) x y = absurd (refused_finished bytes b y x)
one_answer bytes unfinished unfinished x y = refl

-- What was settled is what all bytes come to.
pub settled_one : (bytes more : List ℕ) (a b : Answer) → ComesTo bytes a → (a ≡ unfinished → ⊥) → ComesTo (bytes ++ more) b → a ≡ b
settled_one bytes more (whole m len) b x settled y = one_answer (bytes ++ more) (whole m len) b (IsWhole-append bytes more m len x) y
settled_one bytes more (refused a) b x settled y = one_answer (bytes ++ more) (refused a) b (IsRefused-append bytes more a x) y
settled_one bytes more unfinished b x settled y = absurd (settled refl)

-- ---- how much is held

length_for-fits : (method : List ℕ) (told : Result (Option ℕ) ℕ) (body : ℕ) → length_for method told ≡ Ok body → body ≤ most_body_bytes
length_for-fits method (Err status) body is = cc
length_for-fits method (Ok None) body is = by (bytes_eq method (codes "POST")) is
  where
    by : (posts : Bool) → cond {A = Result ℕ ℕ} posts (Err 411) (Ok 0) ≡ Ok body → body ≤ most_body_bytes
    by true is = cc
    by false is = omega (arith, ok_one 0 body (Ok 0) refl is)
length_for-fits method (Ok (Some len)) body is = by (ltb most_body_bytes len) refl is
  where
    by : (longer : Bool) → ltb most_body_bytes len ≡ longer → cond {A = Result ℕ ℕ} longer (Err 413) (Ok len) ≡ Ok body → body ≤ most_body_bytes
    by true test is = cc
    by false test is = omega (arith, ltb-false most_body_bytes len test, ok_one len body (Ok len) refl is)

body_len-fits : (method : List ℕ) (fields : List Pair) (body : ℕ) → body_len method fields ≡ Ok body → body ≤ most_body_bytes
body_len-fits method fields body is = by (has_field (codes "transfer-encoding") fields) (one_length (values (codes "content-length") fields)) is
  where
    by : (coded : Bool) (told : Result (Option ℕ) ℕ) → cond {A = Result ℕ ℕ} coded (Err 501) (length_for method told) ≡ Ok body → body ≤ most_body_bytes
    by true told is = cc
    by false told is = length_for-fits method told body is

-- Bytes to which more is wanted are fewer than a head and a body may have.
pub unfinished_few : (bytes : List ℕ) → IsUnfinished bytes → length bytes < most_message_bytes
unfinished_few bytes (inl none) = omega (arith, none.0)
unfinished_few bytes (inr lacks) =
    omega (arith, lacks.4, head_len-fits (take most_head_bytes bytes) lacks.0 lacks.3.ends, length-take most_head_bytes bytes, body_len-fits lacks.1.method (pairs lacks.1) lacks.2 lacks.3.framed)

-- Of no byte more is wanted, and of torn ones.
wanted : (bytes : List ℕ) → (bytes ≡ []) ⊎ IsTorn bytes → IsUnfinished bytes
wanted bytes (inl none) = subst IsUnfinished (sym none) (inl (omega arith, refl))
wanted bytes (inr torn) = torn.1

-- Bytes to which more is wanted are none, or torn.
pub none_or_torn : (bytes : List ℕ) → IsNoneOrTorn bytes
none_or_torn [] = (λ more. inl refl, wanted [])
none_or_torn (byte ∷ bytes) = (λ more. inr (omega arith, more), wanted (byte ∷ bytes))

-- ---- what was held

-- Fewer bytes than a head may have, in which none has ended.
pub no_head_yet : (bytes first : List ℕ) → first ≡ take most_head_bytes bytes → length bytes < most_head_bytes → None ≡ head_len first → IsUnfinished bytes
no_head_yet bytes first is few none = inl (few, ap head_len (sym (take_all most_head_bytes bytes (omega arith))) ∙ (ap head_len (sym is) ∙ sym none))
