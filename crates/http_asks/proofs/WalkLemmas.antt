-- The walk of a router over rows, whatever it keeps at them.
use Rattle.std.proofs.Common.{◌≡◌, ◌<◌, ◌≤◌, ◌+◌, ◌-◌, ◌==◌, ◌⊎◌, ℕ, zero, suc, Bool, true, false, cond, ltb, List, [], ◌∷◌, ◌++◌, length, length-append, drop, nat_eq, Option, None, Some, is_some, refl, sym, ap, ◌∙◌, inl, inr, arith}
use Rattle.std.proofs.lemmas.Bool.{and_from, eqb-true, lt-ltb}
use Rattle.std.specs.Cmp.Lexicographic.{pointwise}
use Rattle.matchit.specs.Rows.{RowsOf, param_token, catch_all_token}
use Rattle.matchit.specs.Seek.{own, step, or_else, seek, first, param_step, has_slash, segment, longest_suffix, with_suffix, same_text, cuts}
use Rattle.std.proofs.lemmas.Option.{none-some}

-- The bytes of the pattern before its first parameter begin the path, and are all of it if it has no parameter.
abbrev pub Follows : List ℕ → List ℕ → Type 0
Follows [] path = path ≡ []
Follows (token ∷ pattern) path = (256 ≤ token) ⊎ ((rest : List ℕ) × (path ≡ token ∷ rest) × Follows pattern rest)

-- all of these are bytes
abbrev pub AreBytes : List ℕ → Type 0
AreBytes [] = Unit {0}
AreBytes (byte ∷ bytes) = (byte < 256) × AreBytes bytes

follows-byte : (byte : ℕ) (front pattern path : List ℕ) → byte < 256 → ((rest : List ℕ) → Follows (front ++ pattern) rest → (end : List ℕ) × (rest ≡ front ++ end) × Follows pattern end)
    → Follows ((byte ∷ front) ++ pattern) path → (end : List ℕ) × (path ≡ (byte ∷ front) ++ end) × Follows pattern end
follows-byte byte front pattern path small later (inl large) = absurd (omega arith)
follows-byte byte front pattern path small later (inr (rest, same, it)) =
    let (end, there, ends) = later rest it in
    (end, same ∙ ap (λ (text : List ℕ). byte ∷ text) there, ends)

-- a path that follows a pattern begins as it does
pub follows-front : (front pattern path : List ℕ) → AreBytes front → Follows (front ++ pattern) path → (end : List ℕ) × (path ≡ front ++ end) × Follows pattern end
follows-front [] pattern path bytes it = (path, refl, it)
follows-front (byte ∷ front) pattern path bytes it = follows-byte byte front pattern path bytes.0 (λ rest it. follows-front front pattern rest bytes.1 it) it

same-some : {X : Type 0} (x y : X) → Some x ≡ Some y → x ≡ y
same-some x y e = cc

-- a text without a slash begins without one
plain-parts : (is rest : Bool) → cond is true rest ≡ false → (is ≡ false) × (rest ≡ false)
plain-parts true rest e = cc
plain-parts false rest e = (refl, e)

-- the segment of a text that continues behind a slash
segment-plain : (taken more : List ℕ) → has_slash taken ≡ false → segment (taken ++ 47 ∷ more) ≡ taken ++ 47 ∷ []
segment-plain [] more plain = refl
segment-plain (byte ∷ taken) more plain =
    let (other, rest) = plain-parts (byte == 47) (has_slash taken) plain in
    rw other (ap (λ (text : List ℕ). byte ∷ text) (segment-plain taken more rest))

drop-front : (taken more : List ℕ) → drop (length taken) (taken ++ more) ≡ more
drop-front [] more = refl
drop-front (byte ∷ taken) more = drop-front taken more

-- a slash ends the segment that it ends
cuts-slash : (taken : List ℕ) → 0 < length taken → cuts (taken ++ 47 ∷ []) (47 ∷ []) ≡ true
cuts-slash taken filled =
    let len : length (taken ++ 47 ∷ []) ≡ length taken + 1 = length-append taken (47 ∷ []) in
    let long : ltb 1 (length (taken ++ 47 ∷ [])) ≡ true = lt-ltb 1 (length (taken ++ 47 ∷ [])) (omega arith) in
    let end : drop (length (taken ++ 47 ∷ []) - 1) (taken ++ 47 ∷ []) ≡ 47 ∷ [] =
    ap (λ (n : ℕ). drop n (taken ++ 47 ∷ [])) (omega arith) ∙ drop-front taken (47 ∷ []) in
    and_from _ _ long (ap (λ (text : List ℕ). pointwise nat_eq (47 ∷ []) text) end)

module _ {K : Type 0} where
  -- a row with that key has a pattern that the path follows
  abbrev pub Matched : RowsOf K → K → List ℕ → Type 0
  Matched [] key path = ⊥
  Matched ((pattern, kept) ∷ rows) key path = ((kept ≡ key) × Follows pattern path) ⊎ Matched rows key path

  own-matched : (rows : RowsOf K) (key : K) → own rows ≡ Some key → Matched rows key []
  own-matched [] key e = none-some key e
  own-matched (([], kept) ∷ rows) key e = inl (same-some kept key e, refl)
  own-matched ((token ∷ pattern, kept) ∷ rows) key e = inr (own-matched rows key e)

  -- a step keeps what was true of the rows left
  step-row : (byte token : ℕ) (pattern : List ℕ) (kept : K) (rows : RowsOf K) (key : K) (path : List ℕ) (is : Bool) → (token == byte) ≡ is
      → (Matched (step byte rows) key path → Matched rows key (byte ∷ path))
      → Matched (cond is ((pattern, kept) ∷ step byte rows) (step byte rows)) key path → Matched ((token ∷ pattern, kept) ∷ rows) key (byte ∷ path)
  step-row byte token pattern kept rows key path true is later (inl it) = inl (it.0, inr (path, ap (λ (n : ℕ). n ∷ path) (sym (eqb-true token byte is)), it.1))
  step-row byte token pattern kept rows key path true is later (inr it) = inr (later it)
  step-row byte token pattern kept rows key path false is later it = inr (later it)

  step-matched : (byte : ℕ) (rows : RowsOf K) (key : K) (path : List ℕ) → Matched (step byte rows) key path → Matched rows key (byte ∷ path)
  step-matched byte [] key path it = it
  step-matched byte (([], kept) ∷ rows) key path it = inr (step-matched byte rows key path it)
  step-matched byte ((token ∷ pattern, kept) ∷ rows) key path it =
      step-row byte token pattern kept rows key path (token == byte) refl (λ it. step-matched byte rows key path it) it

  -- a pattern that begins with a parameter says nothing of the path
  wild-row : (wild token : ℕ) (pattern : List ℕ) (kept : K) (rows : RowsOf K) (key : K) (left path : List ℕ) (is : Bool) → (token == wild) ≡ is → 256 ≤ wild
      → (Matched (step wild rows) key left → Matched rows key path)
      → Matched (cond is ((pattern, kept) ∷ step wild rows) (step wild rows)) key left → Matched ((token ∷ pattern, kept) ∷ rows) key path
  wild-row wild token pattern kept rows key left path true is large later (inl it) =
      let same : token ≡ wild = eqb-true token wild is in
      inl (it.0, inl (omega arith))
  wild-row wild token pattern kept rows key left path true is large later (inr it) = inr (later it)
  wild-row wild token pattern kept rows key left path false is large later it = inr (later it)

  wild-matched : (wild : ℕ) (rows : RowsOf K) (key : K) (left path : List ℕ) → 256 ≤ wild → Matched (step wild rows) key left → Matched rows key path
  wild-matched wild [] key left path large it = it
  wild-matched wild (([], kept) ∷ rows) key left path large it = inr (wild-matched wild rows key left path large it)
  wild-matched wild ((token ∷ pattern, kept) ∷ rows) key left path large it =
      wild-row wild token pattern kept rows key left path (token == wild) refl large (λ it. wild-matched wild rows key left path large it) it

  -- the rows that continue behind a parameter are some of those that have one
  suffix-row : (pattern : List ℕ) (kept : K) (rows some : RowsOf K) (key : K) (path : List ℕ) (is : Bool) → (Matched some key path → Matched rows key path)
      → Matched (cond is ((pattern, kept) ∷ some) some) key path → Matched ((pattern, kept) ∷ rows) key path
  suffix-row pattern kept rows some key path true later (inl it) = inl it
  suffix-row pattern kept rows some key path true later (inr it) = inr (later it)
  suffix-row pattern kept rows some key path false later it = inr (later it)

  suffix-matched : (suffix : List ℕ) (rows : RowsOf K) (key : K) (path : List ℕ) → Matched (with_suffix suffix rows) key path → Matched rows key path
  suffix-matched suffix [] key path it = it
  suffix-matched suffix ((pattern, kept) ∷ rows) key path it =
      suffix-row pattern kept rows (with_suffix suffix rows) key path (same_text (segment pattern) suffix) (λ it. suffix-matched suffix rows key path it) it

  param-rows : (suffix : List ℕ) (rows : RowsOf K) (n m : ℕ) (key : K) (path : List ℕ) (has slash : Bool)
      → Matched (cond {A = ℕ × RowsOf K} has (n, with_suffix suffix rows) (cond {A = ℕ × RowsOf K} slash (0, []) (m, rows))).1 key path → Matched rows key path
  param-rows suffix rows n m key path true slash it = suffix-matched suffix rows key path it
  param-rows suffix rows n m key path false true it = absurd it
  param-rows suffix rows n m key path false false it = it

  param-matched : (rows : RowsOf K) (taken : List ℕ) (key : K) (path : List ℕ) → Matched (param_step rows taken).1 key path → Matched rows key path
  unfolding param_step
  param-matched rows taken key path it =
      param-rows (longest_suffix (segment taken) rows) rows (length (segment taken) - length (longest_suffix (segment taken) rows)) (length taken) key path
      (ltb 0 (length (longest_suffix (segment taken) rows))) (has_slash taken) it

  -- what is there under two answers is one of them
  either : (one other : Option K) (key : K) (G : Type 0) → or_else one other ≡ Some key → (one ≡ Some key → G) → (other ≡ Some key → G) → G
  either None other key G e here there = there e
  either (Some known) other key G e here there = here e

  -- what the walk finds is a row that the path follows
  pub seek-matched : (skip : ℕ) (rows : RowsOf K) (path : List ℕ) (key : K) → seek skip rows path ≡ Some key → Matched rows key (drop skip path)
  unfolding seek
  seek-matched zero rows [] key e = own-matched rows key e
  seek-matched (suc skip) rows [] key e = own-matched rows key e
  seek-matched (suc skip) rows (byte ∷ path) key e = seek-matched skip rows path key e
  seek-matched zero rows (byte ∷ path) key e =
      let wild = step param_token rows in
      let taken = param_step wild (byte ∷ path) in
      either (seek 0 (step byte rows) path) _ key (Matched rows key (byte ∷ path)) e
      (λ e. step-matched byte rows key path (seek-matched 0 (step byte rows) path key e))
      (λ e. either (seek (taken.0 - 1) taken.1 path) (own (step catch_all_token rows)) key (Matched rows key (byte ∷ path)) e
      (λ e. wild-matched param_token rows key (drop (taken.0 - 1) path) (byte ∷ path) (omega arith) (param-matched wild (byte ∷ path) key _ (seek-matched (taken.0 - 1) taken.1 path key e)))
      (λ e. wild-matched catch_all_token rows key [] (byte ∷ path) (omega arith) (own-matched (step catch_all_token rows) key e)))

  pub first-matched : (rows : RowsOf K) (path : List ℕ) (key : K) → first rows path ≡ Some key → Matched rows key path
  first-matched rows path key e = seek-matched 0 rows path key e

  -- ---- what the walk does find

  or-left : (one other : Option K) → is_some one ≡ true → is_some (or_else one other) ≡ true
  or-left None other is = cc
  or-left (Some key) other is = refl

  or-right : (one other : Option K) → is_some other ≡ true → is_some (or_else one other) ≡ true
  or-right None other is = is
  or-right (Some key) other is = refl

  -- the rows after these bytes
  abbrev pub steps : List ℕ → RowsOf K → RowsOf K
  steps [] rows = rows
  steps (byte ∷ bytes) rows = steps bytes (step byte rows)

  hit : (byte : ℕ) (rows : RowsOf K) (path : List ℕ) → is_some (first (step byte rows) path) ≡ true → is_some (first rows (byte ∷ path)) ≡ true
  unfolding seek
  hit byte rows path is = or-left (seek 0 (step byte rows) path) _ is

  pub along : (bytes : List ℕ) (rows : RowsOf K) (path : List ℕ) → is_some (first (steps bytes rows) path) ≡ true → is_some (first rows (bytes ++ path)) ≡ true
  along [] rows path is = is
  along (byte ∷ bytes) rows path is = hit byte rows (bytes ++ path) (along bytes (step byte rows) path is)

  skip-all : (rows : RowsOf K) (path : List ℕ) → seek (length path) rows path ≡ own rows
  unfolding seek
  skip-all rows [] = refl
  skip-all rows (byte ∷ path) = skip-all rows path

  skip-some : (rows : RowsOf K) (skipped path : List ℕ) → seek (length skipped) rows (skipped ++ path) ≡ first rows path
  unfolding seek
  skip-some rows [] path = refl
  skip-some rows (byte ∷ skipped) path = skip-some rows skipped path

  -- a parameter continues here, if it takes this many bytes
  by-param : (byte : ℕ) (rows : RowsOf K) (path : List ℕ) (n m : ℕ) (left : RowsOf K) → param_step (step param_token rows) (byte ∷ path) ≡ (m, left) → m - 1 ≡ n
      → is_some (seek n left path) ≡ true → is_some (first rows (byte ∷ path)) ≡ true
  unfolding seek
  by-param byte rows path n m left taken less is =
      let wild = param_step (step param_token rows) (byte ∷ path) in
      let goes : is_some (seek (wild.0 - 1) wild.1 path) ≡ true = rw (taken, less) is in
      or-right (seek 0 (step byte rows) path) _ (or-left (seek (wild.0 - 1) wild.1 path) _ goes)

  last-step : (key : K) (path : List ℕ) → has_slash path ≡ false → param_step (([], key) ∷ []) path ≡ (length path, ([], key) ∷ [])
  unfolding param_step
  last-step key path plain = rw plain refl

  -- a last parameter takes a rest that is not empty and has no slash
  pub last-found : (key : K) (path : List ℕ) → 0 < length path → has_slash path ≡ false → is_some (first ((256 ∷ [], key) ∷ []) path) ≡ true
  last-found key [] filled plain = absurd (omega arith)
  last-found key (byte ∷ path) filled plain =
      by-param byte ((256 ∷ [], key) ∷ []) path (length path) (length (byte ∷ path)) (([], key) ∷ []) (last-step key (byte ∷ path) plain) (omega arith) (ap (λ (o : Option K). is_some o) (skip-all (([], key) ∷ []) path))

  -- a parameter with something behind it in its segment takes what comes before that
  step-by : (rows : RowsOf K) (path : List ℕ) → ltb 0 (length (longest_suffix (segment path) rows)) ≡ true
      → param_step rows path ≡ (length (segment path) - length (longest_suffix (segment path) rows), with_suffix (longest_suffix (segment path) rows) rows)
  unfolding param_step
  step-by rows path is = rw is refl

  longest-slash : (key : K) (seg : List ℕ) → cuts seg (47 ∷ []) ≡ true → longest_suffix seg ((47 ∷ 256 ∷ [], key) ∷ []) ≡ 47 ∷ []
  longest-slash key seg is = rw is refl

  slash-step : (key : K) (taken more : List ℕ) → 0 < length taken → has_slash taken ≡ false
      → param_step ((47 ∷ 256 ∷ [], key) ∷ []) (taken ++ 47 ∷ more) ≡ (length taken, (47 ∷ 256 ∷ [], key) ∷ [])
  slash-step key taken more filled plain =
      let rows : RowsOf K = (47 ∷ 256 ∷ [], key) ∷ [] in
      let seg : segment (taken ++ 47 ∷ more) ≡ taken ++ 47 ∷ [] = segment-plain taken more plain in
      let longest : longest_suffix (segment (taken ++ 47 ∷ more)) rows ≡ 47 ∷ [] =
      longest-slash key (segment (taken ++ 47 ∷ more)) (ap (λ (s : List ℕ). cuts s (47 ∷ [])) seg ∙ cuts-slash taken filled) in
      let some : ltb 0 (length (longest_suffix (segment (taken ++ 47 ∷ more)) rows)) ≡ true = ap (λ (s : List ℕ). ltb 0 (length s)) longest in
      let len : length (segment (taken ++ 47 ∷ more)) - 1 ≡ length taken = omega (arith, ap length seg, length-append taken (47 ∷ [])) in
      step-by rows (taken ++ 47 ∷ more) some
      ∙ ap (λ (s : List ℕ). (length (segment (taken ++ 47 ∷ more)) - length s, with_suffix s rows)) longest
      ∙ ap (λ (n : ℕ). (n, rows)) len

  -- two parameters with a slash between them take what is on both sides of it
  pub pair-found : (key : K) (taken more : List ℕ) → 0 < length taken → has_slash taken ≡ false → 0 < length more → has_slash more ≡ false
      → is_some (first ((256 ∷ 47 ∷ 256 ∷ [], key) ∷ []) (taken ++ 47 ∷ more)) ≡ true
  pair-found key [] more filled plain some whole = absurd (omega arith)
  pair-found key (byte ∷ taken) more filled plain some whole =
      let rows : RowsOf K = (47 ∷ 256 ∷ [], key) ∷ [] in
      by-param byte ((256 ∷ 47 ∷ 256 ∷ [], key) ∷ []) (taken ++ 47 ∷ more) (length taken) (length (byte ∷ taken)) rows (slash-step key (byte ∷ taken) more filled plain) (omega arith)
      (ap (λ (o : Option K). is_some o) (skip-some rows taken (47 ∷ more)) ∙ along (47 ∷ []) rows more (last-found key more some whole))
