-- What an answer of the code says in document 01's terms.
use Rattle.std.specs.Prelude.{ℕ, Result, Ok, Err}
use Rattle.centroid.specs.declared.Centre.{Centre}
use Rattle.centroid.specs.declared.CentroidRefusal.{CentroidRefusal}
use Rattle.centroid.specs.declared.CentroidRefusal.TheVariants.{OutsideLimits, NoArea}
use Rattle.centroid.specs.Centroid.{CentroidOutcome, refused}

abbrev pub centroid_number : CentroidRefusal → ℕ
centroid_number OutsideLimits = 11
centroid_number NoArea = 27

-- Each case of the answer, with its number and values. Two answers never read alike (proofs/ReadingLaw).
abbrev pub reading : Result Centre CentroidRefusal → CentroidOutcome
reading (Ok c) = record { number = 0; x = c.x; y = c.y }
reading (Err r) = refused (centroid_number r)
