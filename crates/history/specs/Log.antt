-- The versions of records, by number.
use Rattle.std.specs.Prelude.{ℕ}
use Rattle.history.specs.declared.log.Version.{Version}
use Rattle.history.specs.declared.log.Version.TheVariants.{One, Two}

-- the number by which records tell their version
abbrev pub version_number : Version → ℕ
version_number One = 1
version_number Two = 2
