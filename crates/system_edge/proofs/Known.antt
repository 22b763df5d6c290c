-- Reads and writes that are made again, and what they do to known bytes.
use Rattle.std.proofs.Common.{ℕ, List, Option, None, Some, Result, Ok, Err, refl, sym, ◌∙◌}
use Rattle.std.specs.Io.KnownBytes.{Appends, Consumes, Keeps, ReadConsumes, WriteAppends}

-- known bytes are kept by nothing
pub keeps_same : (a : Option (List ℕ)) → Keeps a a
keeps_same None = tt
keeps_same (Some bytes) = refl

pub keeps_twice : (a b c : Option (List ℕ)) → Keeps a b → Keeps b c → Keeps a c
keeps_twice None b c p q = tt
keeps_twice (Some x) None c p q = absurd p
keeps_twice (Some x) (Some y) None p q = absurd q
keeps_twice (Some x) (Some y) (Some z) p q = q ∙ p

consumes_kept : (a b c : Option (List ℕ)) (bytes : List ℕ) → Keeps a b → Consumes b c bytes → Consumes a c bytes
consumes_kept None b c bytes p q = tt
consumes_kept (Some x) None c bytes p q = absurd p
consumes_kept (Some x) (Some y) None bytes p q = absurd q
consumes_kept (Some x) (Some y) (Some z) bytes p q = sym p ∙ q

appends_kept : (a b c : Option (List ℕ)) (bytes : List ℕ) → Keeps a b → Appends b c bytes → Appends a c bytes
appends_kept None b c bytes p q = tt
appends_kept (Some x) None c bytes p q = absurd p
appends_kept (Some x) (Some y) None bytes p q = absurd q
appends_kept (Some x) (Some y) (Some z) bytes p q = rw p at q

-- a read after some that took nothing
pub read_after : {E : Type 0} (a b c : Option (List ℕ)) (ended : Result ℕ E) (buf : List ℕ) → Keeps a b → ReadConsumes b c ended buf → ReadConsumes a c ended buf
read_after a b c (Ok n) buf p q = (consumes_kept a b c _ p q.0, q.1)
read_after a b c (Err e) buf p q = keeps_twice a b c p q

-- a write after some that took nothing
pub write_after : {E : Type 0} (a b c : Option (List ℕ)) (ended : Result ℕ E) (piece : List ℕ) → Keeps a b → WriteAppends b c ended piece → WriteAppends a c ended piece
write_after a b c (Ok n) piece p q = appends_kept a b c _ p q
write_after a b c (Err e) piece p q = keeps_twice a b c p q
