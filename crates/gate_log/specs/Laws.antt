-- What the bytes of a region stand for.
use Rattle.std.specs.Prelude.{◌≡◌, ℕ, List}
use Rattle.retro_base.specs.Framing.{AreRecords, BreaksAt}

-- bytes are the records of one list at most, or break at one place at most, and not both
pub record ReadOneWay : Type 0 where
  pub one_list : (bytes : List ℕ) (bodies others : List (List ℕ)) → AreRecords bodies bytes → AreRecords others bytes
      → bodies ≡ others
  pub one_place : (bytes : List ℕ) (place other : ℕ) → BreaksAt bytes place → BreaksAt bytes other → place ≡ other
  pub not_both : (bytes : List ℕ) (bodies : List (List ℕ)) (place : ℕ) → AreRecords bodies bytes → BreaksAt bytes place
      → ⊥
