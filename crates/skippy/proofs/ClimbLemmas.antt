-- What a climb meets, and what it reads.
use Rattle.std.proofs.Common.{◌≡◌, ◌+◌, ◌-◌, ◌*◌, ◌/◌, ◌^◌, ◌≤◌, ◌<◌, ◌++◌, ◌∷◌, [], ◌⊎◌, ℕ, zero, suc, List, Bool, true, false, cond, not, Option, Some, None, is_none, filter, nat_eq, min, max, take, drop, map, length, get_or, slice_get, refl, sym, ap, ◌∙◌, arith, true≢false, inl, inr, append_assoc, append-nil, ◌&&◌, eq-eqb, All}
use Rattle.std.proofs.lemmas.Bool.{cases_lt}
use Rattle.std.proofs.lemmas.List.{length-map}
use Rattle.std.proofs.lemmas.Nat.{le-div}
use Rattle.std.proofs.lemmas.Grind.{div_ceil_times}
use Rattle.std.proofs.Math.Nat.{mul-le-mul_right, div-mul-le_self, lt-div-mul-add}
use Rattle.std.specs.Int.{div_ceil}
use Rattle.skippy.specs.FirstTable.{meet}
use Rattle.skippy.specs.Mappings.{Mappings, end_of, pages_in, first_mappings}
use Rattle.skippy.specs.Bound.{different}
use Rattle.skippy.specs.Segments.{size_of, fan_of, from_start, climb_bound}
use Rattle.skippy.specs.Steps.{AddsAtMost}
use Rattle.skippy.proofs.BoundLemmas.{different-pages_in, length-first_mappings}
use Rattle.skippy.proofs.MeetLemmas.{meet-first_mappings-append}
use Rattle.skippy.proofs.PartLemmas.{different-part}
use Rattle.skippy.proofs.LevelLemmas.{next-times}

-- an entry of a level covers at most as many different pages as all do
pub entry-pages : (m : Mappings) (size from index to : ℕ) → m.low ≤ from * size → from ≤ index → index < to → to * size ≤ end_of m
    → different (pages_in m (index * size) ((index + 1) * size)) ≤ different (pages_in m (from * size) (to * size))
entry-pages m size from index to low first below known =
    let last : index + 1 ≤ to = omega arith in
    let a : from * size ≤ index * size = mul-le-mul_right size first in
    let b : (index + 1) * size ≤ to * size = mul-le-mul_right size last in
    different-part m (from * size) (index * size) ((index + 1) * size) (to * size) low a (omega arith) b known

pub adds-entry : (size pages own from index to old middle new : ℕ) → AddsAtMost ((index - from) * min size pages) old middle → AddsAtMost (min size own) middle new → own ≤ pages
    → from ≤ index → AddsAtMost ((index + 1 - from) * min size pages) old new
adds-entry size pages own from index to old middle new first second fewer above =
    let next : index + 1 - from ≡ index - from + 1 = omega arith in
    let least : min size own ≤ min size pages = omega arith in
    rw next (record { rises = omega (arith, first.rises, second.rises); within = omega (arith, first.within, second.within) })

pub adds-fewer : (few many size old new : ℕ) → AddsAtMost (few * size) old new → few ≤ many → AddsAtMost (many * size) old new
adds-fewer few many size old new adds fewer = record { rises = adds.rises; within = omega (arith, adds.within, mul-le-mul_right size fewer) }

-- the first mappings of a segment are its different pages, of which there are no more than mappings
pub segment-cost : (m : Mappings) (size index : ℕ) (places : List (ℕ × ℕ)) (old new : ℕ) → m.low ≤ index * size → from_start (index * size) places ≡ first_mappings m (index * size) ((index + 1) * size)
    → AddsAtMost (length places) old new → AddsAtMost (min size (different (pages_in m (index * size) ((index + 1) * size)))) old new
segment-cost m size index places old new low made adds =
    let few : different (pages_in m (index * size) ((index + 1) * size)) ≤ size
    = omega (arith, different-pages_in m (index * size) ((index + 1) * size)) in
    record {
      rises = adds.rises;
      within = omega (arith, adds.within, length-map {A = ℕ × ℕ} {B = ℕ × ℕ} places (λ e. (e.0, index * size + e.1)), ap length made, length-first_mappings m (index * size) ((index + 1) * size) low);
    }

pub bound-step : (level count pages : ℕ) → level ≤ 4 → (level ≡ 4 → ⊥)
    → climb_bound level count pages ≡ 2 * (fan_of level - 1) * min (size_of level) pages + climb_bound (level + 1) (count / fan_of level) pages
bound-step zero count pages low under = refl
bound-step (suc zero) count pages low under = refl
bound-step (suc (suc zero)) count pages low under = refl
bound-step (suc (suc (suc zero))) count pages low under = refl
bound-step (suc (suc (suc (suc zero)))) count pages low under = absurd (under refl)
bound-step (suc (suc (suc (suc (suc above))))) count pages low under = absurd (omega arith)

pub climb-meets : (table : List (ℕ × ℕ)) (m : Mappings) (level from first last to fan : ℕ) → fan ≡ fan_of level → m.low ≤ from * size_of level → from ≤ first * fan → first ≤ last → last * fan ≤ to
    → to * size_of level ≤ end_of m
    → meet table (first_mappings m (from * size_of level) (to * size_of level))
    ≡ meet (meet (meet table (first_mappings m (from * size_of level) (first * fan * size_of level))) (first_mappings m (first * size_of (level + 1)) (last * size_of (level + 1))))
    (first_mappings m (last * fan * size_of level) (to * size_of level))
climb-meets table m level from first last to fan is low a b c known =
    let size : ℕ = size_of level in
    let begin : first * size_of (level + 1) ≡ first * fan * size = next-times level first fan is in
    let end : last * size_of (level + 1) ≡ last * fan * size = next-times level last fan is in
    let x : from * size_of level ≤ first * fan * size_of level = mul-le-mul_right (size_of level) a in
    let y : first * fan * size_of level ≤ last * fan * size_of level = mul-le-mul_right (size_of level) (mul-le-mul_right fan b) in
    let z : last * fan * size_of level ≤ to * size_of level = mul-le-mul_right (size_of level) c in
    let known_last : last * fan * size_of level ≤ end_of m = omega arith in
    let low_first : m.low ≤ first * fan * size_of level = omega arith in
    let low_last : from * size_of level ≤ last * fan * size_of level = omega arith in
    rw begin (rw end
    (meet-first_mappings-append table m (from * size_of level) (last * fan * size_of level) (to * size_of level) low low_last z known
    ∙ ap (λ t. meet t (first_mappings m (last * fan * size_of level) (to * size_of level)))
    (meet-first_mappings-append table m (from * size_of level) (first * fan * size_of level) (last * fan * size_of level) low x y known_last)))

pub fan-some : (level : ℕ) → 0 < fan_of level
fan-some zero = omega arith
fan-some (suc above) = omega arith

-- the cost of a climb that reads its own entries alone
pub climb-short : (level from first last to fan count pages old new : ℕ) → fan ≡ fan_of level → level ≤ 4 → (level ≡ 4 → ⊥) → first ≡ div_ceil from fan → last ≡ to / fan → last < first → to - from ≤ count
    → AddsAtMost ((to - from) * min (size_of level) pages) old new → AddsAtMost (climb_bound level count pages) old new
climb-short level from first last to fan count pages old new is high under begins ends short few adds =
    let some : 0 < fan = rw is (fan-some level) in
    let up : first * fan < from + fan = rw begins ((div_ceil_times from fan some).1) in
    let down : to < last * fan + fan = rw ends (lt-div-mul-add some) in
    let after : last + 1 ≤ first = omega arith in
    let next : (last + 1) * fan ≤ first * fan = mul-le-mul_right fan after in
    let width : to - from ≤ 2 * (fan - 1) = omega arith in
    let wide : to - from ≤ 2 * (fan_of level - 1) = rw (sym is) width in
    rw (bound-step level count pages high under)
    (record { rises = adds.rises; within = omega (arith, adds.within, mul-le-mul_right (min (size_of level) pages) wide) })

-- the cost of a climb of three parts
pub climb-long : (level from first last to fan count pages a b c d : ℕ) → fan ≡ fan_of level → level ≤ 4 → (level ≡ 4 → ⊥) → first ≡ div_ceil from fan → last ≡ to / fan → to - from ≤ count
    → AddsAtMost ((first * fan - from) * min (size_of level) pages) a b → AddsAtMost (climb_bound (level + 1) (count / fan_of level) pages) b c
    → AddsAtMost ((to - last * fan) * min (size_of level) pages) c d → AddsAtMost (climb_bound level count pages) a d
climb-long level from first last to fan count pages a b c d is high under begins ends few one two three =
    let some : 0 < fan = rw is (fan-some level) in
    let up : first * fan < from + fan = rw begins ((div_ceil_times from fan some).1) in
    let down : to < last * fan + fan = rw ends (lt-div-mul-add some) in
    let front : first * fan - from ≤ fan_of level - 1 = rw (sym is) (omega arith) in
    let back : to - last * fan ≤ fan_of level - 1 = rw (sym is) (omega arith) in
    rw (bound-step level count pages high under)
    (record {
      rises = omega (arith, one.rises, two.rises, three.rises);
      within = omega (arith, one.within, two.within, three.within, mul-le-mul_right (min (size_of level) pages) front, mul-le-mul_right (min (size_of level) pages) back);
    })

-- so many of a level are so many of the next
pub next-count : (level from first last to fan count : ℕ) → fan ≡ fan_of level → first ≡ div_ceil from fan → last ≡ to / fan → to - from ≤ count → last - first ≤ count / fan_of level
next-count level from first last to fan count is begins ends few =
    let some : 0 < fan = rw is (fan-some level) in
    let least : 0 < fan_of level = fan-some level in
    let above : from ≤ first * fan = rw begins ((div_ceil_times from fan some).0) in
    let below : last * fan ≤ to = rw ends (div-mul-le_self to fan) in
    let spread : (last - first) * fan ≤ last * fan - first * fan = spread-times last first fan in
    let spread_is : (last - first) * fan_of level ≡ (last - first) * fan = ap (λ f. (last - first) * f) (sym is) in
    le-div (last - first) count (fan_of level) least (omega arith)
  where
    spread-times : (a b c : ℕ) → (a - b) * c ≤ a * c - b * c
    spread-times a b c = by (cases_lt a b)
      where
        by : (a < b) ⊎ (b ≤ a) → (a - b) * c ≤ a * c - b * c
        by (inl less) = let none : a - b ≡ 0 = omega arith in rw none (omega arith)
        by (inr more) = let whole : (a - b + b) * c ≡ a * c = ap (λ n. n * c) (omega arith) in omega (arith, whole)

-- a climb whose level is the highest reads its own entries
pub climb-top : (level width count pages old new : ℕ) → level ≡ 4 → width ≤ count → AddsAtMost (width * min (size_of level) pages) old new → AddsAtMost (climb_bound level count pages) old new
climb-top level width count pages old new is few adds =
    rw is (adds-fewer width count (min 262144 pages) old new (rw is at adds) few)

-- the three parts of a climb
pub record ClimbParts (m : Mappings) (level from first last to fan : ℕ) : Type 0 where
  pub front : from ≤ first * fan
  pub back : last * fan ≤ to
  pub low_next : m.low ≤ first * size_of (level + 1)
  pub known_next : last * size_of (level + 1) ≤ end_of m
  pub low_last : m.low ≤ last * fan * size_of level
  pub pages_front : different (pages_in m (from * size_of level) (first * fan * size_of level)) ≤ different (pages_in m (from * size_of level) (to * size_of level))
  pub pages_next : different (pages_in m (first * size_of (level + 1)) (last * size_of (level + 1))) ≤ different (pages_in m (from * size_of level) (to * size_of level))
  pub pages_back : different (pages_in m (last * fan * size_of level) (to * size_of level)) ≤ different (pages_in m (from * size_of level) (to * size_of level))

pub climb-parts : (m : Mappings) (level from first last to fan : ℕ) → fan ≡ fan_of level → first ≡ div_ceil from fan → last ≡ to / fan → first ≤ last → m.low ≤ from * size_of level → to * size_of level ≤ end_of m
    → ClimbParts m level from first last to fan
climb-parts m level from first last to fan is begins ends ordered low known =
    let some : 0 < fan = rw is (fan-some level) in
    let a : from ≤ first * fan = rw begins ((div_ceil_times from fan some).0) in
    let c : last * fan ≤ to = rw ends (div-mul-le_self to fan) in
    let begin : first * size_of (level + 1) ≡ first * fan * size_of level = next-times level first fan is in
    let end : last * size_of (level + 1) ≡ last * fan * size_of level = next-times level last fan is in
    let x : from * size_of level ≤ first * fan * size_of level = mul-le-mul_right (size_of level) a in
    let y : first * fan * size_of level ≤ last * fan * size_of level = mul-le-mul_right (size_of level) (mul-le-mul_right fan ordered) in
    let z : last * fan * size_of level ≤ to * size_of level = mul-le-mul_right (size_of level) c in
    record {
      front = a;
      back = c;
      low_next = omega arith;
      known_next = omega arith;
      low_last = omega arith;
      pages_front = different-part m (from * size_of level) (from * size_of level) (first * fan * size_of level) (to * size_of level) low (omega arith) x (omega arith) known;
      pages_next = rw begin (rw end (different-part m (from * size_of level) (first * fan * size_of level) (last * fan * size_of level) (to * size_of level) low x y z known));
      pages_back = different-part m (from * size_of level) (last * fan * size_of level) (to * size_of level) (to * size_of level) low (omega arith) z (omega arith) known;
    }

pub adds-none : (bound count : ℕ) → AddsAtMost bound count count
adds-none bound count = record { rises = omega arith; within = omega arith }
