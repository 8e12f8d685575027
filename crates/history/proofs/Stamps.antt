-- Stamps of pages.
use Rattle.std.proofs.Common.{◌≡◌, ◌<◌, ◌≤◌, ◌+◌, ◌%◌, ◌^◌, ◌∙◌, ◌||◌, ℕ, zero, suc, Bool, true, false, cond, not, eqb, leb, List, [], ◌∷◌, ◌++◌, length, get_or, set, replicate, refl, sym, ap, subst, arith, append_assoc}
use Rattle.std.specs.Prelude.{filter, Some, None}
use Rattle.std.specs.List.{AllByRecursion}
use Rattle.std.proofs.lemmas.Bool.{and_parts, ne_eqb, eq-eqb, eqb-true, leb-true, lt-ltb, le-ltb}
use Rattle.std.proofs.lemmas.List.{length-set, length-map, set-get_or, append-nil, length-replicate}
use Rattle.history.specs.declared.entry.Base.{Base}
use Rattle.history.specs.declared.entry.Mark.{Mark}
use Rattle.history.specs.declared.writes.PageImage.{PageImage}
use Rattle.history.specs.declared.entry.Change.TheVariants.{Commit, Drop}
use Rattle.history.specs.Marks.{newest, kept_marks, MarksRise}
use Rattle.history.specs.Right.{IsBase}
use Rattle.history.specs.Writes.{pages_of, rises, is_among}
use Rattle.history.specs.History.{is_declared, capturing, with_page, with_pages, declared, base_after}
use Rattle.history.specs.Running.{stamped, with_stamps, captured_in, stamped_base}
use Rattle.history.proofs.Captures.{among-with_page, undeclared-none}
use Rattle.history.proofs.MarkLaws.{newest-push, kept-newest}

-- ---- which pages have the stamp

above : (number first page : ℕ) (stamps : List ℕ) → page < first → is_among page (stamped number first stamps) ≡ false
above number first page [] lt = refl
above number first page (stamp ∷ stamps) lt = go (eqb stamp number) (above number (first + 1) page stamps (omega (arith, lt))) where
  go : (b : Bool) → is_among page (stamped number (first + 1) stamps) ≡ false → is_among page (cond b (first ∷ stamped number (first + 1) stamps) (stamped number (first + 1) stamps)) ≡ false
  go true again = ap (λ b. b || is_among page (stamped number (first + 1) stamps)) (ne_eqb first page (λ is. absurd (omega (arith, is, lt)))) ∙ again
  go false again = again

past : (number first page : ℕ) (stamps : List ℕ) → first + length stamps ≤ page → is_among page (stamped number first stamps) ≡ false
past number first page [] le = refl
past number first page (stamp ∷ stamps) le = go (eqb stamp number) (past number (first + 1) page stamps (omega (arith, le))) where
  go : (b : Bool) → is_among page (stamped number (first + 1) stamps) ≡ false → is_among page (cond b (first ∷ stamped number (first + 1) stamps) (stamped number (first + 1) stamps)) ≡ false
  go true again = ap (λ b. b || is_among page (stamped number (first + 1) stamps)) (ne_eqb first page (λ is. absurd (omega (arith, is, le)))) ∙ again
  go false again = again

among : (number first k d : ℕ) (stamps : List ℕ) → k < length stamps → is_among (first + k) (stamped number first stamps) ≡ eqb (get_or stamps k d) number
among number first k d [] lt = absurd (omega (arith, lt))
among number first zero d (stamp ∷ stamps) lt = go (eqb stamp number) (above number (first + 1) (first + 0) stamps (omega arith)) where
  go : (b : Bool) → is_among (first + 0) (stamped number (first + 1) stamps) ≡ false → is_among (first + 0) (cond b (first ∷ stamped number (first + 1) stamps) (stamped number (first + 1) stamps)) ≡ b
  go true again = ap (λ b. b || is_among (first + 0) (stamped number (first + 1) stamps)) (eq-eqb first (first + 0) (omega arith))
  go false again = again
among number first (suc k) d (stamp ∷ stamps) lt =
    let next : first + suc k ≡ (first + 1) + k = omega arith in
    go (eqb stamp number) (subst (λ n. is_among n (stamped number (first + 1) stamps) ≡ eqb (get_or stamps k d) number) (sym next) (among number (first + 1) k d stamps (omega (arith, lt)))) where
      go : (b : Bool) → is_among (first + suc k) (stamped number (first + 1) stamps) ≡ eqb (get_or stamps k d) number
          → is_among (first + suc k) (cond b (first ∷ stamped number (first + 1) stamps) (stamped number (first + 1) stamps)) ≡ eqb (get_or stamps k d) number
      go true again = ap (λ b. b || is_among (first + suc k) (stamped number (first + 1) stamps)) (ne_eqb first (first + suc k) (λ is. absurd (omega (arith, is)))) ∙ again
      go false again = again

pub stamped_at : (number page d : ℕ) (stamps : List ℕ) → page < length stamps → is_among page (stamped number 0 stamps) ≡ eqb (get_or stamps page d) number
stamped_at number page d stamps lt = let here : 0 + page ≡ page = omega arith in subst (λ n. is_among n (stamped number 0 stamps) ≡ eqb (get_or stamps page d) number) here (among number 0 page d stamps lt)

pub stamped_past : (number page : ℕ) (stamps : List ℕ) → length stamps ≤ page → is_among page (stamped number 0 stamps) ≡ false
stamped_past number page stamps le = past number 0 page stamps (omega (arith, le))

-- ---- one page more

front : (number first page : ℕ) (stamps : List ℕ) → page < first → with_page page (stamped number first stamps) ≡ page ∷ stamped number first stamps
front number first page [] lt = refl
front number first page (stamp ∷ stamps) lt = go (eqb stamp number) (front number (first + 1) page stamps (omega (arith, lt))) where
  go : (b : Bool) → with_page page (stamped number (first + 1) stamps) ≡ page ∷ stamped number (first + 1) stamps
      → with_page page (cond b (first ∷ stamped number (first + 1) stamps) (stamped number (first + 1) stamps)) ≡ page ∷ cond b (first ∷ stamped number (first + 1) stamps) (stamped number (first + 1) stamps)
  go true again = ap (λ b. cond b (page ∷ first ∷ stamped number (first + 1) stamps) (first ∷ with_page page (stamped number (first + 1) stamps))) (lt-ltb page first lt)
  go false again = again

set_new : (number first k d : ℕ) (stamps : List ℕ) → k < length stamps → eqb (get_or stamps k d) number ≡ false → stamped number first (set stamps k number) ≡ with_page (first + k) (stamped number first stamps)
set_new number first k d [] lt new = absurd (omega (arith, lt))
set_new number first zero d (stamp ∷ stamps) lt new =
    let here : first + 0 ≡ first = omega arith in
    ap (λ b. cond b (first ∷ stamped number (first + 1) stamps) (stamped number (first + 1) stamps)) (eq-eqb number number refl)
    ∙ sym (ap (λ n. n ∷ stamped number (first + 1) stamps) here)
    ∙ sym (front number (first + 1) (first + 0) stamps (omega arith))
    ∙ sym (ap (λ b. with_page (first + 0) (cond b (first ∷ stamped number (first + 1) stamps) (stamped number (first + 1) stamps))) new)
set_new number first (suc k) d (stamp ∷ stamps) lt new =
    let next : (first + 1) + k ≡ first + suc k = omega arith in
    go (eqb stamp number) (subst (λ n. stamped number (first + 1) (set stamps k number) ≡ with_page n (stamped number (first + 1) stamps)) next (set_new number (first + 1) k d stamps (omega (arith, lt)) new)) where
      go : (b : Bool) → stamped number (first + 1) (set stamps k number) ≡ with_page (first + suc k) (stamped number (first + 1) stamps)
          → cond b (first ∷ stamped number (first + 1) (set stamps k number)) (stamped number (first + 1) (set stamps k number)) ≡ with_page (first + suc k) (cond b (first ∷ stamped number (first + 1) stamps) (stamped number (first + 1) stamps))
      go true again =
          ap (λ (t : List ℕ). first ∷ t) again
          ∙ sym (ap (λ b. cond b ((first + suc k) ∷ first ∷ stamped number (first + 1) stamps) (first ∷ with_page (first + suc k) (stamped number (first + 1) stamps))) (le-ltb (first + suc k) first (omega arith)))
      go false again = again

-- a page that is stamped is put into its place, where it is not there
stamp_one : (number page : ℕ) (stamps : List ℕ) → page < length stamps
    → stamped number 0 (set stamps page number) ≡ cond (is_among page (stamped number 0 stamps)) (stamped number 0 stamps) (with_page page (stamped number 0 stamps))
stamp_one number page stamps lt = go (eqb (get_or stamps page 0) number) refl where
  here : 0 + page ≡ page
  here = omega arith

  go : (b : Bool) → eqb (get_or stamps page 0) number ≡ b
      → stamped number 0 (set stamps page number) ≡ cond (is_among page (stamped number 0 stamps)) (stamped number 0 stamps) (with_page page (stamped number 0 stamps))
  go true e =
      ap (λ (l : List ℕ). stamped number 0 l) (ap (λ n. set stamps page n) (sym (eqb-true (get_or stamps page 0) number e)) ∙ set-get_or stamps page 0)
      ∙ sym (ap (λ b. cond b (stamped number 0 stamps) (with_page page (stamped number 0 stamps))) (stamped_at number page 0 stamps lt ∙ e))
  go false e =
      subst (λ n. stamped number 0 (set stamps page number) ≡ with_page n (stamped number 0 stamps)) here (set_new number 0 page 0 stamps lt e)
      ∙ sym (ap (λ b. cond b (stamped number 0 stamps) (with_page page (stamped number 0 stamps))) (stamped_at number page 0 stamps lt ∙ e))

-- ---- pages that rise

-- those of these pages that are not there yet
abbrev unknown : List ℕ → List ℕ → List ℕ
unknown known pages = filter (λ page. not (is_among page known)) pages

unknown-still : (least page : ℕ) (pages known : List ℕ) → rises least pages ≡ true → page < least → unknown (with_page page known) pages ≡ unknown known pages
unknown-still least page [] known rise lt = refl
unknown-still least page (other ∷ pages) known rise lt =
    let both = and_parts (leb least other) (rises (other + 1) pages) rise in
    let above : least ≤ other = leb-true least other both.0 in
    let here : is_among other (with_page page known) ≡ is_among other known = among-with_page other page known ∙ ap (λ b. b || is_among other known) (ne_eqb page other (λ is. absurd (omega (arith, is, above, lt)))) in
    ap (λ b. cond (not b) (other ∷ unknown (with_page page known) pages) (unknown (with_page page known) pages)) here
    ∙ ap (λ (t : List ℕ). cond (not (is_among other known)) (other ∷ t) t) (unknown-still (other + 1) page pages known both.1 (omega (arith, above, lt)))

stamp_all : (number least : ℕ) (pages stamps : List ℕ) → rises least pages ≡ true → AllByRecursion (λ page. page < length stamps) pages
    → stamped number 0 (with_stamps number stamps pages) ≡ with_pages (unknown (stamped number 0 stamps) pages) (stamped number 0 stamps)
stamp_all number least [] stamps rise within = refl
stamp_all number least (page ∷ pages) stamps rise within =
    let both = and_parts (leb least page) (rises (page + 1) pages) rise in
    stamp_all number (page + 1) pages (set stamps page number) both.1 (subst (λ n. AllByRecursion (λ p. p < n) pages) (sym (length-set stamps page number)) within.1)
    ∙ go (is_among page known) (stamp_one number page stamps within.0) (unknown-still (page + 1) page pages known both.1 (omega arith)) where
      known : List ℕ
      known = stamped number 0 stamps

      go : (b : Bool) → stamped number 0 (set stamps page number) ≡ cond b (stamped number 0 stamps) (with_page page (stamped number 0 stamps))
          → unknown (with_page page (stamped number 0 stamps)) pages ≡ unknown (stamped number 0 stamps) pages
          → with_pages (unknown (stamped number 0 (set stamps page number)) pages) (stamped number 0 (set stamps page number))
          ≡ with_pages (cond (not b) (page ∷ unknown (stamped number 0 stamps) pages) (unknown (stamped number 0 stamps) pages)) (stamped number 0 stamps)
      go true is still = ap (λ (t : List ℕ). with_pages (unknown t pages) t) is
      go false is still = ap (λ (t : List ℕ). with_pages (unknown t pages) t) is ∙ ap (λ (t : List ℕ). with_pages t (with_page page (stamped number 0 stamps))) still

-- ---- what a commit leaves

pages_of-filter : (test : ℕ → Bool) (writes : List PageImage) → pages_of (filter (λ (write : PageImage). test write.page) writes) ≡ filter test (pages_of writes)
pages_of-filter test [] = refl
pages_of-filter test (write ∷ writes) = go (test write.page) (pages_of-filter test writes) where
  go : (b : Bool) → pages_of (filter (λ (w : PageImage). test w.page) writes) ≡ filter test (pages_of writes)
      → pages_of (cond b (write ∷ filter (λ (w : PageImage). test w.page) writes) (filter (λ (w : PageImage). test w.page) writes)) ≡ cond b (write.page ∷ filter test (pages_of writes)) (filter test (pages_of writes))
  go true again = ap (λ (t : List ℕ). write.page ∷ t) again
  go false again = again

pages_within : (limit : ℕ) (writes : List PageImage) → AllByRecursion (λ (write : PageImage). write.page < limit) writes → AllByRecursion (λ page. page < limit) (pages_of writes)
pages_within limit [] all = tt
pages_within limit (write ∷ writes) all = (all.0, pages_within limit writes all.1)

-- behind a commit that declares nothing the captured pages are those with the stamp
stamped_by : (capacity changes captures : ℕ) (marks : List Mark) (stamps : List ℕ) (writes : List PageImage) → rises 0 (pages_of writes) ≡ true
    → AllByRecursion (λ (write : PageImage). write.page < length stamps) writes
    → captured_in marks (with_stamps (newest marks) stamps (pages_of writes)) ≡ with_pages (pages_of (capturing (stamped_base capacity changes captures marks stamps) writes)) (captured_in marks stamps)
stamped_by capacity changes captures [] stamps writes rise within =
    sym (ap (λ (t : List PageImage). with_pages (pages_of t) []) (undeclared-none (stamped_base capacity changes captures [] stamps) writes refl))
stamped_by capacity changes captures (mark ∷ marks) stamps writes rise within =
    stamp_all (newest (mark ∷ marks)) 0 (pages_of writes) stamps rise (pages_within (length stamps) writes within)
    ∙ ap (λ (t : List ℕ). with_pages t (captured_in (mark ∷ marks) stamps)) (sym (pages_of-filter (λ page. not (is_among page (captured_in (mark ∷ marks) stamps))) writes))

pub length-with_stamps : (number : ℕ) (stamps pages : List ℕ) → length (with_stamps number stamps pages) ≡ length stamps
length-with_stamps number stamps [] = refl
length-with_stamps number stamps (page ∷ pages) = length-with_stamps number (set stamps page number) pages ∙ length-set stamps page number

-- bases whose fields agree are one
abbrev base : ℕ → ℕ → ℕ → ℕ → List Mark → List ℕ → Base
base page_count capacity changes captures marks captured =
    record { page_count = page_count; capacity = capacity; changes = changes; captures = captures; marks = marks; captured = captured }

module _ (capacity changes : ℕ) where
  same_base : (p q c d : ℕ) (ms ns : List Mark) (xs ys : List ℕ) → p ≡ q → c ≡ d → ms ≡ ns → xs ≡ ys → base p capacity changes c ms xs ≡ base q capacity changes d ns ys
  same_base p q c d ms ns xs ys e f g h =
      ap (λ n. base n capacity changes c ms xs) e ∙ ap (λ n. base q capacity changes n ms xs) f ∙ ap (λ (l : List Mark). base q capacity changes d l xs) g ∙ ap (λ (l : List ℕ). base q capacity changes d ns l) h

pub committed : (capacity changes captures : ℕ) (marks : List Mark) (stamps : List ℕ) (writes : List PageImage) → rises 0 (pages_of writes) ≡ true
    → AllByRecursion (λ (write : PageImage). write.page < length stamps) writes
    → stamped_base capacity ((changes + 1) % 2 ^ 64) (captures + length (capturing (stamped_base capacity changes captures marks stamps) writes)) marks (with_stamps (newest marks) stamps (pages_of writes))
    ≡ base_after (stamped_base capacity changes captures marks stamps) (Commit None writes)
committed capacity changes captures marks stamps writes rise within =
    let old : Base = stamped_base capacity changes captures marks stamps in
    same_base capacity ((changes + 1) % 2 ^ 64) _ _ _ _ _ _ _ _ (length-with_stamps (newest marks) stamps (pages_of writes))
    (ap (λ n. captures + n) (sym (length-map (capturing old writes) (λ (image : PageImage). image.page)))) refl (stamped_by capacity changes captures marks stamps writes rise within)

-- ---- stamps that are not there

all_other : (number first : ℕ) (stamps : List ℕ) → AllByRecursion (λ stamp. stamp < number) stamps → stamped number first stamps ≡ []
all_other number first [] all = refl
all_other number first (stamp ∷ stamps) all =
    ap (λ b. cond b (first ∷ stamped number (first + 1) stamps) (stamped number (first + 1) stamps)) (ne_eqb stamp number (λ is. absurd (omega (arith, is, all.0))))
    ∙ all_other number (first + 1) stamps all.1

below_next : (number : ℕ) (stamps : List ℕ) → AllByRecursion (λ stamp. stamp ≤ number) stamps → AllByRecursion (λ stamp. stamp < number + 1) stamps
below_next number [] all = tt
below_next number (stamp ∷ stamps) all = (omega (arith, all.0), below_next number stamps all.1)

-- behind a declaration nothing is captured
none_behind : (marks : List Mark) (mark : Mark) (stamps : List ℕ) → mark.number ≡ newest marks + 1 → AllByRecursion (λ stamp. stamp ≤ newest marks) stamps → captured_in (marks ++ mark ∷ []) stamps ≡ []
none_behind marks mark stamps is all =
    by_number marks mark stamps ∙ ap (λ n. stamped n 0 stamps) is ∙ all_other (newest marks + 1) 0 stamps (below_next (newest marks) stamps all) where
      by_number : (marks : List Mark) (mark : Mark) (stamps : List ℕ) → captured_in (marks ++ mark ∷ []) stamps ≡ stamped mark.number 0 stamps
      by_number [] mark stamps = refl
      by_number (first ∷ marks) mark stamps = ap (λ n. stamped n 0 stamps) (newest-push (first ∷ marks) mark)

pub declaring : (capacity changes captures : ℕ) (marks : List Mark) (stamps : List ℕ) (label : List ℕ) (writes : List PageImage) → AllByRecursion (λ stamp. stamp ≤ newest marks) stamps
    → let count : ℕ = captures + length (capturing (stamped_base capacity changes captures marks stamps) writes) in
    stamped_base capacity ((changes + 1) % 2 ^ 64) count (marks ++ record { number = newest marks + 1; label = label; start = count } ∷ []) stamps
    ≡ base_after (stamped_base capacity changes captures marks stamps) (Commit (Some label) writes)
declaring capacity changes captures marks stamps label writes all =
    let old : Base = stamped_base capacity changes captures marks stamps in
    let count : ℕ = captures + length (capturing old writes) in
    let mark : Mark = record { number = newest marks + 1; label = label; start = count } in
    let told : count ≡ captures + length (pages_of (capturing old writes)) = ap (λ n. captures + n) (sym (length-map (capturing old writes) (λ (image : PageImage). image.page))) in
    same_base capacity ((changes + 1) % 2 ^ 64) _ _ _ _ _ _ _ _ refl told (ap (λ n. declared marks n (Some label)) told) (none_behind marks mark stamps refl all)

-- ---- a drop that leaves the newest

pub dropping : (capacity changes captures below : ℕ) (marks : List Mark) (stamps : List ℕ) → below ≤ newest marks
    → stamped_base capacity ((changes + 1) % 2 ^ 64) captures (kept_marks below marks) stamps ≡ base_after (stamped_base capacity changes captures marks stamps) (Drop below)
dropping capacity changes captures below marks stamps le =
    let kept = kept-newest below marks le in
    same_base capacity ((changes + 1) % 2 ^ 64) _ _ _ _ _ _ _ _ refl refl refl (alike (kept_marks below marks) marks stamps kept.0 kept.2) where
      alike : (marks others : List Mark) (stamps : List ℕ) → newest marks ≡ newest others → is_declared marks ≡ is_declared others → captured_in marks stamps ≡ captured_in others stamps
      alike [] [] stamps e f = refl
      alike [] (other ∷ others) stamps e f = absurd cc
      alike (mark ∷ marks) [] stamps e f = absurd cc
      alike (mark ∷ marks) (other ∷ others) stamps e f = ap (λ n. stamped n 0 stamps) e

-- ---- the stamps of a base

with_page-end : (page : ℕ) (pages : List ℕ) → AllByRecursion (λ other. other < page) pages → with_page page pages ≡ pages ++ page ∷ []
with_page-end page [] all = refl
with_page-end page (other ∷ pages) all =
    ap (λ b. cond b (page ∷ other ∷ pages) (other ∷ with_page page pages)) (le-ltb page other (omega (arith, all.0))) ∙ ap (λ (t : List ℕ). other ∷ t) (with_page-end page pages all.1)

with_pages-end : (least : ℕ) (more pages : List ℕ) → rises least more ≡ true → AllByRecursion (λ other. other < least) pages → with_pages more pages ≡ pages ++ more
with_pages-end least [] pages rise all = sym (append-nil pages)
with_pages-end least (page ∷ more) pages rise all =
    let both = and_parts (leb least page) (rises (page + 1) more) rise in
    let le : least ≤ page = leb-true least page both.0 in
    ap (λ (t : List ℕ). with_pages more t) (with_page-end page pages (higher least page pages le all))
    ∙ with_pages-end (page + 1) more (pages ++ page ∷ []) both.1 (and_one page pages (higher least page pages le all))
    ∙ append_assoc pages (page ∷ []) more where
      higher : (n m : ℕ) (others : List ℕ) → n ≤ m → AllByRecursion (λ other. other < n) others → AllByRecursion (λ other. other < m) others
      higher n m [] le all = tt
      higher n m (other ∷ others) le all = (omega (arith, le, all.0), higher n m others le all.1)

      and_one : (n : ℕ) (others : List ℕ) → AllByRecursion (λ other. other < n) others → AllByRecursion (λ other. other < n + 1) (others ++ n ∷ [])
      and_one n [] all = (omega arith, tt)
      and_one n (other ∷ others) all = (omega (arith, all.0), and_one n others all.1)

none_known : (pages : List ℕ) → unknown [] pages ≡ pages
none_known [] = refl
none_known (page ∷ pages) = ap (λ (t : List ℕ). page ∷ t) (none_known pages)

zeros : (number first count : ℕ) → 0 < number → stamped number first (replicate count 0) ≡ []
zeros number first zero some = refl
zeros number first (suc count) some =
    ap (λ b. cond b (first ∷ stamped number (first + 1) (replicate count 0)) (stamped number (first + 1) (replicate count 0))) (ne_eqb 0 number (λ is. absurd (omega (arith, is, some))))
    ∙ zeros number (first + 1) count some

-- stamps made from a base tell its captured pages
stamps_tell : (count : ℕ) (marks : List Mark) (captured : List ℕ) → (marks ≡ [] → captured ≡ []) → (0 < length marks → 0 < newest marks) → rises 0 captured ≡ true
    → AllByRecursion (λ page. page < count) captured → captured_in marks (with_stamps (newest marks) (replicate count 0) captured) ≡ captured
stamps_tell count [] captured none some rise within = sym (none refl)
stamps_tell count (mark ∷ marks) captured none some rise within =
    let number : ℕ = newest (mark ∷ marks) in
    let start : stamped number 0 (replicate count 0) ≡ [] = zeros number 0 count (some (omega arith)) in
    stamp_all number 0 captured (replicate count 0) rise (subst (λ n. AllByRecursion (λ p. p < n) captured) (sym (length-replicate count 0)) within)
    ∙ ap (λ (t : List ℕ). with_pages (unknown t captured) t) start
    ∙ ap (λ (t : List ℕ). with_pages t []) (none_known captured)
    ∙ with_pages-end 0 captured [] rise tt

pub stamps_bounded : (number : ℕ) (stamps pages : List ℕ) → AllByRecursion (λ stamp. stamp ≤ number) stamps → AllByRecursion (λ stamp. stamp ≤ number) (with_stamps number stamps pages)
stamps_bounded number stamps [] all = all
stamps_bounded number stamps (page ∷ pages) all = stamps_bounded number (set stamps page number) pages (set_within stamps page all) where
  set_within : (stamps : List ℕ) (page : ℕ) → AllByRecursion (λ stamp. stamp ≤ number) stamps → AllByRecursion (λ stamp. stamp ≤ number) (set stamps page number)
  set_within [] page all = tt
  set_within (stamp ∷ stamps) zero all = (omega arith, all.1)
  set_within (stamp ∷ stamps) (suc page) all = (all.0, set_within stamps page all.1)

pub zeros_bounded : (number count : ℕ) → AllByRecursion (λ stamp. stamp ≤ number) (replicate count 0)
zeros_bounded number zero = tt
zeros_bounded number (suc count) = (omega arith, zeros_bounded number count)

pub stamps_higher : (number more : ℕ) (stamps : List ℕ) → number ≤ more → AllByRecursion (λ stamp. stamp ≤ number) stamps → AllByRecursion (λ stamp. stamp ≤ more) stamps
stamps_higher number more [] le all = tt
stamps_higher number more (stamp ∷ stamps) le all = (omega (arith, le, all.0), stamps_higher number more stamps le all.1)

-- the numbers of marks are greater than 0
some_number : (captures n s : ℕ) (mark : Mark) (marks : List Mark) → MarksRise captures n s (mark ∷ marks) → n < newest (mark ∷ marks)
some_number captures n s mark [] rise = rise.0
some_number captures n s mark (next ∷ marks) rise = omega (arith, rise.0, some_number captures mark.number mark.start next marks rise.2)

pub opened_base : (base : Base) → IsBase base → stamped_base base.capacity base.changes base.captures base.marks (with_stamps (newest base.marks) (replicate base.page_count 0) base.captured) ≡ base
opened_base base is =
    let stamps : List ℕ = with_stamps (newest base.marks) (replicate base.page_count 0) base.captured in
    same_base base.capacity base.changes _ _ _ _ _ _ _ _ (length-with_stamps (newest base.marks) (replicate base.page_count 0) base.captured ∙ length-replicate base.page_count 0) refl refl
    (stamps_tell base.page_count base.marks base.captured (λ none. empty base.captured (omega (arith, is.captured, is.undeclared none))) (numbered base.marks is.marks) is.rising is.in_store) where
      empty : (pages : List ℕ) → length pages ≡ 0 → pages ≡ []
      empty [] e = refl
      empty (page ∷ pages) e = absurd (omega (arith, e))

      numbered : (marks : List Mark) → MarksRise base.captures 0 0 marks → 0 < length marks → 0 < newest marks
      numbered [] rise some = absurd (omega (arith, some))
      numbered (mark ∷ marks) rise some = some_number base.captures 0 0 mark marks rise
