-- What a source or a sink in memory is to contracts.
use Rattle.std.specs.Prelude.{ℕ, List}

-- a source or a sink in memory: the bytes that are left or held, the numbers of the calls that fail, and how many
-- calls were made and have failed
pub record Stock : Type 0 where
  pub bytes : List ℕ
  pub failing : List ℕ
  pub calls : ℕ
  pub faults : ℕ
