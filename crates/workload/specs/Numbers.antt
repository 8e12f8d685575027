-- The numbers that a load draws.
use Rattle.std.specs.Prelude.{◌+◌, ◌*◌, ◌%◌, ℕ, zero, suc}

-- the number drawn after this one
abbrev pub drawn_after : ℕ → ℕ
drawn_after number = (75 * number + 74) % 65537

-- the number drawn at a place; the seed stands at place 0
abbrev pub drawn : ℕ → ℕ → ℕ
drawn seed zero = seed
drawn seed (suc place) = drawn_after (drawn seed place)
