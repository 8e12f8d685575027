-- The lines of one item.
use Rattle.std.specs.Prelude.{◌≡◌, ◌++◌, Bool, true, false, List, [], ◌∷◌, map, filter, Option, Some, None}
use Rattle.retro_base.specs.declared.who.Who.{Who}
use Rattle.history.specs.declared.journal.Line.{Line}
use Rattle.history.specs.declared.journal.What.{What}
use Rattle.history.specs.declared.journal.What.TheVariants.{Began, Looked, LookedAll}
use Rattle.history.specs.Sound.{same_item}

-- what the lines of an item say
abbrev pub own : Who → List Line → List What
own who lines = map (λ line. line.what) (filter (λ line. same_item line.who who) lines)

-- the last of these, or this one where there is none
abbrev pub last_behind : Option What → List What → Option What
last_behind last [] = last
last_behind last (what ∷ whats) = last_behind (Some what) whats

-- what the last line of an item says
abbrev pub last_of : Who → List Line → Option What
last_of who lines = last_behind None (own who lines)

abbrev pub is_began : Option What → Bool
is_began (Some Began) = true
is_began what = false

abbrev pub is_looked : Option What → Bool
is_looked (Some (Looked snapshot)) = true
is_looked (Some LookedAll) = true
is_looked what = false

-- an attempt of the item has begun, and has no end
abbrev pub is_trying : Who → List Line → Bool
is_trying who lines = is_began (last_of who lines)

-- a look of the item has begun, and has no end
abbrev pub is_looking : Who → List Line → Bool
is_looking who lines = is_looked (last_of who lines)

abbrev pub line : Who → What → Line
line who what = record { who = who; what = what }

-- the lines before a line of the item, behind which it has no other, and those behind that line
pub record SinceLine (who : Who) (what : What) (lines since rest : List Line) : Type 0 where
  pub whole : lines ≡ (since ++ line who what ∷ []) ++ rest
  pub none : own who rest ≡ []

-- those before this attempt's Began, and behind it
abbrev pub SinceBegan : Who → List Line → List Line → List Line → Type 0
SinceBegan who lines since rest = SinceLine who Began lines since rest
