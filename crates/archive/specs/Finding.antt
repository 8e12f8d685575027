-- What is found below a number.
use Rattle.std.specs.Prelude.{◌≡◌, ◌⊎◌, ◌≤◌, max, ℕ, Option, Some, None, nat_lt, if◌then◌else◌}
use Rattle.skippy.specs.Bound.{different, scan_bound}
use Rattle.skippy.specs.Mappings.{Mappings, pages_in}
use Rattle.skippy.specs.Steps.{AddsAtMost}
use Rattle.page_table.specs.Table.{IsFirstMet, Table}

-- the number, if it is below the limit
abbrev pub below : ℕ → Option ℕ → Option ℕ
below limit None = None
below limit (Some number) = if nat_lt number limit then Some number else None

-- A table was made to cover the mappings below a number, or memory ran out and it covers what it did: it is one of
-- first mappings still. No step was taken where they were covered, and else no more than the bound on entries read.
pub record Covers (levels : Mappings) (upto : ℕ) (old new : Table) (before after : ℕ) : Type 0 where
  pub start : new.start ≡ old.start
  pub met : IsFirstMet new levels
  pub covered : (new.covered ≡ old.covered) ⊎ (new.covered ≡ max old.covered upto)
  pub cost : AddsAtMost (scan_bound old.covered upto (different (pages_in levels old.covered upto))) before after
  pub no_cost : upto ≤ old.covered → after ≡ before
