-- When the log and the Maplog belong together.
use Rattle.std.specs.Prelude.{◌≤◌, ◌-◌, ◌==◌, ◌&&◌, ℕ, Bool, true, false, not}
use Rattle.std.specs.Prelude.{IsTrue, List, [], ◌∷◌, length, take, drop}
use Rattle.std.specs.List.{list_all}
use Rattle.history.specs.declared.entry.Base.{Base}
use Rattle.history.specs.Writes.{pages_of, is_among}
use Rattle.history.specs.Marks.{oldest_start, newest_start}
use Rattle.history.specs.History.{now, captures_of}
use Rattle.skippy.specs.Mappings.{Mappings, end_of}
use Rattle.replay.specs.Opened.{Contents, opened}

-- whether no page stands twice in the list
abbrev pub differ : List ℕ → Bool
differ [] = true
differ (page ∷ pages) = not (is_among page pages) && differ pages

-- whether each of these pages is among those
abbrev pub are_among : List ℕ → List ℕ → Bool
are_among pages others = list_all (λ page. is_among page others) pages

-- whether the list begins with these pages
abbrev pub begins_with : List ℕ → List ℕ → Bool
begins_with [] pages = true
begins_with (page ∷ front) [] = false
begins_with (page ∷ front) (other ∷ pages) = (page == other) && begins_with front pages

-- of pages numbered from `first` on, those from a number on
abbrev pub pages_from : ℕ → ℕ → List ℕ → List ℕ
pages_from number first pages = drop (number - first) pages

-- the kept mappings before the base, since its newest snapshot
abbrev pub mapped_since : Base → Mappings → List ℕ
mapped_since base mappings =
    pages_from (newest_start base.marks) mappings.low (take (base.captures - mappings.low) mappings.pages)

-- The archive holds the base's captures. Since the base's newest snapshot it maps different pages, each of which the
-- base tells as captured. It keeps at most the capacity.
pub record HoldsBase (base : Base) (mappings : Mappings) : Type 0 where
  pub counted : base.captures ≤ end_of mappings
  pub room : length mappings.pages ≤ base.capacity
  pub different : IsTrue (differ (mapped_since base mappings))
  pub captured : IsTrue (are_among (mapped_since base mappings) base.captured)

-- Behind a base with this count of captures, changes captured these pages. The archive holds no more, keeps all that a
-- retained snapshot needs, and from the base on it maps what the changes captured.
pub record HoldsChanges (count : ℕ) (behind : Base) (captured : List ℕ) (mappings : Mappings) : Type 0 where
  pub known : end_of mappings ≤ behind.captures
  pub needed : mappings.low ≤ oldest_start behind.marks
  pub same : IsTrue
      (begins_with (pages_from count mappings.low mappings.pages) (pages_from mappings.low count captured))

-- the log and the Maplog belong together
pub record AreJoined (contents : Contents) : Type 0 where
  pub holds_base : HoldsBase contents.log.base contents.mappings
  pub holds_changes : HoldsChanges contents.log.base.captures (now (opened contents)).base
      (pages_of (captures_of (opened contents).origin contents.log.changes)) contents.mappings
