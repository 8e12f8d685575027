-- Behind a refused edit.
use Rattle.std.specs.Prelude.{ℕ, Option, Some, None}
use Rattle.retro_base.specs.declared.refusal.Refusal.{Refusal}
use Rattle.retro_base.specs.declared.refusal.Refusal.TheVariants as refusal

-- the page for which an edit was refused as one too many, behind a refused edit of this one: the first such
abbrev pub asked_behind : Option ℕ → ℕ → Refusal → Option ℕ
asked_behind None page (refusal.TooManyPages needed) = Some page
asked_behind asked page why = asked
