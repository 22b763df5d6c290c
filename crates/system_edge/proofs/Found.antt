-- What an open finds in files of which the log was only read before.
use Rattle.std.proofs.Common.{◌≡◌, Bool, true, false, IsTrue, ◌&&◌, List, ℕ, ap₂, subst, refl}
use Rattle.sqlite_disk.specs.declared.Disk as disk
use Rattle.sqlite_disk.specs.declared.Files.{Files}
use Rattle.sqlite_wal.specs.Recovery.{Image}
use Rattle.sqlite_wal.specs.Reads.{IsClean}
use Rattle.system_edge.specs.Stores.{AreOnlyRead}
use Rattle.sqlite.specs.Tree.{Trees}
use Rattle.sqlite_store.specs.declared.store.FileStore.{FileStore}
use Rattle.sqlite.specs.Held.{Held}
use Rattle.sqlite.specs.Files.{file_state, image_of, Finds, HoldsDatabase, AreFoundIn}

-- each of two that are true is true
pub first_of : (a b : Bool) → IsTrue (a && b) → IsTrue a
first_of true b both = refl
first_of false b both = both

-- two that are true stand for two others
other_both : (a b c d : Bool) → (IsTrue a → IsTrue b) → (IsTrue c → IsTrue d) → IsTrue (a && c) → IsTrue (b && d)
other_both true b c d h k both = rw (h refl) (k both)
other_both false b c d h k both = absurd (cc)

pub last_of : (a b : Bool) → IsTrue (a && b) → IsTrue b
last_of true b both = both
last_of false b both = absurd (cc)

module _ {D : Type 0} (g : disk.Ghosts D) (files read : Files D) (same : AreOnlyRead g files read) (connection : Held (FileStore D g)) where
  images : image_of g read ≡ image_of g files
  images = ap₂ (λ (log db : List ℕ). let image : Image = record { log = log; db = db } in image) same.0.seen same.1.seen

  pub found_before : Finds read connection → Finds files connection
  found_before found = record {
    honest = other_both (g.is_clean read.log) (g.is_clean files.log) (g.is_clean read.db) (g.is_clean files.db) same.0.clean same.1.clean found.honest;
    holds = subst (λ (image : Image). (db : Trees) → HoldsDatabase image db → (file_state connection).committed.trees ≡ db) images found.holds;
    reads = subst (λ (image : Image). AreFoundIn image (file_state connection).committed.trees) images found.reads;
  }

  pub log_is_clean : Finds read connection → IsClean g read.log
  log_is_clean found = first_of (g.is_clean read.log) (g.is_clean read.db) found.honest

  pub db_is_clean : Finds read connection → IsClean g read.db
  db_is_clean found = last_of (g.is_clean read.log) (g.is_clean read.db) found.honest
