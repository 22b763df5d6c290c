-- The faults of a dossier's parts as the dossier's.
use Rattle.std.proofs.Common.{◌≤◌, inl, inr, ℕ, false, List, Option, Ok, Err, length}
use Rattle.std.specs.Prelude.{Result, IfErr}
use Rattle.office_base.specs.Limits.{most_bundle_bytes}
use Rattle.office_base.specs.Outside.{IsAtEnd, Took}
use Rattle.office_asks.specs.declared.ask.Request.{Request}
use Rattle.text_readers.specs.Reading.{IsTextFault}
use Rattle.text_readers.specs.declared.fault.TextFault.{TextFault}
use Rattle.text_readers.specs.declared.fault.TextFault.TheVariants.{Line, OutOfMemory as NoTextMemory}
use Rattle.season_file.specs.Season.{IsSeason, IsSeasonFault, content_of}
use Rattle.season_file.specs.declared.season.Season.{Season}
use Rattle.dossier_file.specs.Papers.{AreDuePapers}
use Rattle.season_file.specs.declared.content.Content.{Content}
use Rattle.season_file.specs.declared.fault.SeasonFault.{SeasonFault}
use Rattle.season_file.specs.declared.fault.SeasonFault.TheVariants.{NotUtf8, BadRequest, OutOfMemory as NoSeasonMemory}
use Rattle.dossier_file.specs.Split.{IsSplit}
use Rattle.dossier_file.specs.Dossier.{GaveDossierFault, GivesContent, HasSeasonFault, IsBundleFault, IsBytesFault, IsRequestsError, IsScript, papers_error, season_error}
use Rattle.dossier_file.specs.declared.fault.DossierFault.{DossierFault}
use Rattle.dossier_file.specs.declared.fault.DossierFault.TheVariants.{ReadFault, TooLong, OutOfMemory}

module _ (bytes bundle requests published : List ℕ) (short : length bytes ≤ most_bundle_bytes) (cut : IsSplit bytes bundle requests published) where
  has : (fault : SeasonFault) → IsBundleFault bundle requests fault → HasSeasonFault bytes fault
  has fault is = record { short = short; bundle = bundle; requests = requests; published = published; cut = cut; is = is }

  -- the fault of a bundle
  pub bundle_fault : (fault : SeasonFault) → IsSeasonFault false bundle fault → IsBytesFault bytes (season_error fault)
  bundle_fault NoSeasonMemory is = tt
  bundle_fault fault is = has fault (inl is)

  -- the fault of its requests
  pub requests_fault : (content : Content) → GivesContent bundle content → (fault : SeasonFault) → IsRequestsError requests fault → IsBytesFault bytes (season_error fault)
  requests_fault content gives NotUtf8 is = has NotUtf8 (inr (content, gives, is))
  requests_fault content gives (BadRequest row) is = has (BadRequest row) (inr (content, gives, is))
  requests_fault content gives NoSeasonMemory is = tt
  requests_fault content gives _ is = absurd is

  -- the fault of the published texts
  pub papers_fault : (season : Season) → IsSeason bundle season → (script : List Request) → IsScript requests script → (fault : TextFault)
      → IsTextFault (AreDuePapers season.matrix season.register.people season.rounds script) published fault → IsBytesFault bytes (papers_error fault)
  papers_fault season of_season script of_script (Line n) is = record {
    short = short;
    bundle = bundle;
    requests = requests;
    published = published;
    cut = cut;
    content = content_of season of_season.row;
    script = script;
    of_season = of_season.given;
    of_script = of_script;
    is = is;
  }
  papers_fault season of_season script of_script NoTextMemory is = tt

-- the fault of the bytes that a source gave
gave : (before after : Option (List ℕ)) (bytes : List ℕ) → Took bytes before after → IsAtEnd after → (fault : DossierFault) → IsBytesFault bytes fault → GaveDossierFault before after fault
gave before after bytes took end ReadFault is = tt
gave before after bytes took end TooLong is = (bytes, is, took)
gave before after bytes took end OutOfMemory is = tt
gave before after bytes took end _ is = (bytes, took, end, is)

pub gave_fault : {X : Type 0} (before after : Option (List ℕ)) (bytes : List ℕ) → Took bytes before after → IsAtEnd after → (result : Result X DossierFault) → IfErr result (λ fault. IsBytesFault bytes fault)
    → IfErr result (λ fault. GaveDossierFault before after fault)
gave_fault before after bytes took end (Ok value) is = tt
gave_fault before after bytes took end (Err fault) is = gave before after bytes took end fault is
