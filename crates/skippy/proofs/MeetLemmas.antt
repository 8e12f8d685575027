-- Tables that meet the mappings of ranges one by one, or range by range.
use Rattle.std.proofs.Common.{◌≡◌, ◌+◌, ◌-◌, ◌*◌, ◌/◌, ◌^◌, ◌≤◌, ◌<◌, ◌++◌, ◌∷◌, [], ◌⊎◌, ℕ, zero, suc, List, Bool, true, false, cond, not, Option, Some, None, is_none, filter, nat_eq, min, max, take, drop, map, length, get_or, slice_get, refl, sym, ap, ◌∙◌, arith, true≢false, inl, inr, append_assoc, append-nil, ◌&&◌, eq-eqb, All}
use Rattle.std.proofs.lemmas.List.{take-append-le, length-append}
use Rattle.std.proofs.lemmas.Bool.{eqb-true}
use Rattle.skippy.specs.FirstTable.{number_of, meet}
use Rattle.skippy.specs.Mappings.{Mappings, end_of, push, trim, pages_in, first_mappings}
use Rattle.skippy.specs.Segments.{size_of, from_start, meet_each}
use Rattle.skippy.proofs.FirstLemmas.{firsts, others, meet-others, meet-had, meet-firsts-append, is_none-number_of-push, meet-empty}
use Rattle.skippy.proofs.ScanLemmas.{first_mappings-firsts, pages_in-append, length-pages_in, pages_in-trim, meet-first_mappings-more, meet-first_mappings-none}

-- a table that meets two ranges in turn meets their whole
pub meet-first_mappings-append : (table : List (ℕ × ℕ)) (m : Mappings) (from middle to : ℕ) → m.low ≤ from → from ≤ middle → middle ≤ to → to ≤ end_of m
    → meet table (first_mappings m from to) ≡ meet (meet table (first_mappings m from middle)) (first_mappings m middle to)
meet-first_mappings-append table m from middle to low first second known =
    let count : from + length (pages_in m from middle) ≡ middle = omega (arith, length-pages_in m from middle low first (omega arith)) in
    let later : m.low ≤ middle = omega arith in
    ap (meet table) (first_mappings-firsts m from to low ∙ ap (firsts from) (pages_in-append m from middle to low first second))
    ∙ meet-firsts-append table from (pages_in m from middle) (pages_in m middle to)
    ∙ ap (λ n. meet (meet table (firsts from (pages_in m from middle))) (firsts n (pages_in m middle to))) count
    ∙ ap (λ t. meet (meet table t) (firsts middle (pages_in m middle to))) (sym (first_mappings-firsts m from middle low))
    ∙ ap (meet (meet table (first_mappings m from middle))) (sym (first_mappings-firsts m middle to later))

-- more mappings behind the last change no range before them
pages_in-push : (m : Mappings) (more : List ℕ) (from to : ℕ) → m.low ≤ from → from ≤ to → to ≤ end_of m → pages_in (push m more) from to ≡ pages_in m from to
pages_in-push m more from to low ordered known = by (from - m.low) (to - from) m.pages (omega arith)
  where
    by : (n k : ℕ) (pages : List ℕ) → n + k ≤ length pages → take k (drop n (pages ++ more)) ≡ take k (drop n pages)
    by zero k pages within = take-append-le k pages more (omega arith)
    by (suc n) k [] within = absurd (omega arith)
    by (suc n) k (page ∷ pages) within = by n k pages (omega arith)

pub first_mappings-push : (m : Mappings) (more : List ℕ) (from to : ℕ) → m.low ≤ from → from ≤ to → to ≤ end_of m → first_mappings (push m more) from to ≡ first_mappings m from to
first_mappings-push m more from to low ordered known =
    first_mappings-firsts (push m more) from to low ∙ ap (firsts from) (pages_in-push m more from to low ordered known) ∙ sym (first_mappings-firsts m from to low)

pub first_mappings-trim : (m : Mappings) (low from to : ℕ) → m.low ≤ low → low ≤ from → first_mappings (trim m low) from to ≡ first_mappings m from to
first_mappings-trim m low from to above within =
    let before : m.low ≤ from = omega arith in
    first_mappings-firsts (trim m low) from to within ∙ ap (firsts from) (pages_in-trim m low from to above within) ∙ sym (first_mappings-firsts m from to before)

-- a page that a table has stays in what the table becomes
has-meet : (table : List (ℕ × ℕ)) (e : ℕ × ℕ) (page : ℕ) → is_none (number_of table page) ≡ false → is_none (number_of (meet table (e ∷ [])) page) ≡ false
has-meet table e page has = by (is_none (number_of table e.0)) refl
  where
    by : (b : Bool) → is_none (number_of table e.0) ≡ b → is_none (number_of (table ++ cond b (e ∷ []) []) page) ≡ false
    by true lacks = is_none-number_of-push table e.0 e.1 page ∙ ap (λ b. b && not (nat_eq page e.0)) has
    by false had = ap (λ t. is_none (number_of t page)) (append-nil table) ∙ has

and-false : (b : Bool) → (b && false) ≡ false
and-false true = refl
and-false false = refl

-- a table has the page that it met
has-met : (table : List (ℕ × ℕ)) (page number : ℕ) → is_none (number_of (meet table ((page, number) ∷ [])) page) ≡ false
has-met table page number = by (is_none (number_of table page)) refl
  where
    by : (b : Bool) → is_none (number_of table page) ≡ b → is_none (number_of (table ++ cond b ((page, number) ∷ []) []) page) ≡ false
    by true lacks =
        is_none-number_of-push table page number page
        ∙ ap (λ b. is_none (number_of table page) && not b) (eq-eqb page page refl) ∙ and-false (is_none (number_of table page))
    by false had = ap (λ t. is_none (number_of t page)) (append-nil table) ∙ had

-- a table that has a page meets the mappings of other pages as it meets all
meet_each-others : (table es : List (ℕ × ℕ)) (page : ℕ) → is_none (number_of table page) ≡ false → meet_each table (others page es) ≡ meet_each table es
meet_each-others table [] page has = refl
meet_each-others table (e ∷ es) page has = by (meet_each-others table es page has) (meet_each-others (meet table (e ∷ [])) es page (has-meet table e page has)) (nat_eq e.0 page) refl
  where
    by : meet_each table (others page es) ≡ meet_each table es → meet_each (meet table (e ∷ [])) (others page es) ≡ meet_each (meet table (e ∷ [])) es
        → (b : Bool) → nat_eq e.0 page ≡ b → meet_each table (cond (not b) (e ∷ others page es) (others page es)) ≡ meet_each (meet table (e ∷ [])) es
    by left_out met true same =
        left_out ∙ ap (λ t. meet_each t es) (sym (meet-had table e.0 e.1 (ap (λ p. is_none (number_of table p)) (eqb-true e.0 page same) ∙ has)))
    by left_out met false differ = met

-- a table meets first mappings one by one as it meets them all
pub meet_each-firsts : (table : List (ℕ × ℕ)) (first : ℕ) (pages : List ℕ) → meet_each table (firsts first pages) ≡ meet table (firsts first pages)
meet_each-firsts table first [] = sym (append-nil table)
meet_each-firsts table first (page ∷ pages) =
    meet_each-others (meet table ((page, first) ∷ [])) (firsts (first + 1) pages) page (has-met table page first)
    ∙ meet_each-firsts (meet table ((page, first) ∷ [])) (first + 1) pages
    ∙ sym (meet-others table page first (firsts (first + 1) pages))

pub meet_each-first_mappings : (table : List (ℕ × ℕ)) (m : Mappings) (from to : ℕ) → m.low ≤ from → meet_each table (first_mappings m from to) ≡ meet table (first_mappings m from to)
meet_each-first_mappings table m from to low =
    ap (meet_each table) (first_mappings-firsts m from to low) ∙ meet_each-firsts table from (pages_in m from to) ∙ ap (meet table) (sym (first_mappings-firsts m from to low))

-- a table meets the rest of a segment as it meets the first entry there and then those behind
pub meet_each-more : (table : List (ℕ × ℕ)) (start : ℕ) (places : List (ℕ × ℕ)) (index : ℕ) (e : ℕ × ℕ) → slice_get places index ≡ Some e
    → meet_each table (from_start start (drop index places)) ≡ meet_each (meet table ((e.0, start + e.1) ∷ [])) (from_start start (drop (index + 1) places))
meet_each-more table start [] index e here = absurd cc
meet_each-more table start (x ∷ places) zero e here =
    let same : x ≡ e = cc in
    ap (λ y. meet_each (meet table ((y.0, start + y.1) ∷ [])) (from_start start places)) same
meet_each-more table start (x ∷ places) (suc index) e here =
    let next : suc index + 1 ≡ suc (index + 1) = omega arith in
    meet_each-more table start places index e here ∙ ap (λ n. meet_each (meet table ((e.0, start + e.1) ∷ [])) (from_start start (drop n (x ∷ places)))) (sym next)

-- a mapping is the one first mapping of its own range
pub one-mapping : (m : Mappings) (level index page : ℕ) → level ≡ 0 → m.low ≤ index * size_of level → (index + 1) * size_of level ≤ end_of m → slice_get m.pages (index - m.low) ≡ Some page
    → first_mappings m (index * size_of level) ((index + 1) * size_of level) ≡ (page, index) ∷ []
one-mapping m level index page zeroth low known here =
    let here_is : index * size_of level ≡ index = ap (λ n. index * size_of n) zeroth ∙ times-one index in
    let next_is : (index + 1) * size_of level ≡ index + 1 = ap (λ n. (index + 1) * size_of n) zeroth ∙ times-one (index + 1) in
    ap (λ a. first_mappings m a ((index + 1) * size_of level)) here_is
    ∙ ap (first_mappings m index) next_is
    ∙ sym (meet-empty (first_mappings m index (index + 1)))
    ∙ meet-first_mappings-more [] m index (index + 1) page (omega arith) (omega arith) (omega arith) here
    ∙ meet-first_mappings-none ((page, index) ∷ []) m (index + 1) (index + 1) (omega arith)
  where
    times-one : (n : ℕ) → n * 1 ≡ n
    times-one n = omega arith

pub first_mappings-none : (m : Mappings) (from : ℕ) → first_mappings m from from ≡ []
first_mappings-none m from = sym (meet-empty (first_mappings m from from)) ∙ meet-first_mappings-none [] m from from (omega arith)

-- the first mappings of two ranges in turn
pub first_mappings-join : (m : Mappings) (from middle to : ℕ) → m.low ≤ from → from ≤ middle → middle ≤ to → to ≤ end_of m
    → meet (first_mappings m from middle) (first_mappings m middle to) ≡ first_mappings m from to
first_mappings-join m from middle to low first second known =
    ap (λ t. meet t (first_mappings m middle to)) (sym (meet-empty (first_mappings m from middle)))
    ∙ sym (meet-first_mappings-append [] m from middle to low first second known)
    ∙ meet-empty (first_mappings m from to)

-- the first mappings of a range that is one mapping longer
pub first_mappings-next : (m : Mappings) (from number page : ℕ) → m.low ≤ from → from ≤ number → number < end_of m → slice_get m.pages (number - m.low) ≡ Some page
    → meet (first_mappings m from number) ((page, number) ∷ []) ≡ first_mappings m from (number + 1)
first_mappings-next m from number page low above below here =
    let one : first_mappings m number (number + 1) ≡ (page, number) ∷ []
    = sym (meet-empty (first_mappings m number (number + 1)))
    ∙ meet-first_mappings-more [] m number (number + 1) page (omega arith) (omega arith) (omega arith) here
    ∙ meet-first_mappings-none ((page, number) ∷ []) m (number + 1) (number + 1) (omega arith) in
    ap (meet (first_mappings m from number)) (sym one) ∙ first_mappings-join m from number (number + 1) low above (omega arith) (omega arith)
