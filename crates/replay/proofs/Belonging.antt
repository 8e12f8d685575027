-- What contents that belong together open to is consistent.
use Rattle.std.proofs.Common.{◌≡◌, ◌⊎◌, inl, inr, ◌≤◌, ◌<◌, ◌+◌, ◌-◌, ◌∙◌, ◌++◌, ◌&&◌, ◌||◌, ℕ, Bool, true, false, ltb, List, [], ◌∷◌, length, take, drop, replicate, map, Some, None, refl, sym, ap, subst, arith, append_assoc, length-append}
use Rattle.std.proofs.lemmas.List.{length-drop, length-take, length-map, length-replicate, take-append-drop, drop-drop, drop-append-le, drop_at, drop-take, drop_all, append-nil, nil_from_length, drop-map}
use Rattle.std.proofs.lemmas.Bool.{eqb-true, ltb-true, ltb-false, and_parts}
use Rattle.history.specs.declared.entry.Base.{Base}
use Rattle.history.specs.declared.entry.Mark.{Mark}
use Rattle.history.specs.declared.entry.Change.{Change}
use Rattle.history.specs.declared.entry.Change.TheVariants.{Commit, Drop}
use Rattle.history.specs.declared.writes.PageImage.{PageImage}
use Rattle.history.specs.Marks.{newest, newest_start, oldest_start, MarksRise}
use Rattle.history.specs.Writes.{pages_of, is_among}
use Rattle.history.specs.Right.{IsBase}
use Rattle.history.specs.History.{is_declared, State, base_after, bases_after, run, after, captured_by, captures_of, capturing, History, now, captures}
use Rattle.history.specs.Laws.{IsConsistent, AllKeepNewest}
use Rattle.history.proofs.MarkLaws.{newest_start-push, kept-newest, newest_start-within}
use Rattle.history.specs.declared.replaying.Replayed.{Replayed}
use Rattle.history.specs.Replayed.{state_of}
use Rattle.history.proofs.Captures.{run-base, among-append, captured-length}
use Rattle.history.proofs.Consistent.{stays_consistent}
use Rattle.skippy.specs.Mappings.{Mappings, end_of}
use Rattle.history.specs.Right.{AreRight}
use Rattle.replay.specs.Opened.{Contents, opened, slot_images, forgotten}
use Rattle.replay.specs.Joined.{differ, are_among, begins_with, mapped_since}
use Rattle.replay.specs.Laws.{AreRightContents, OpenedIsConsistent}
use Rattle.replay.proofs.Different.{same_pages}

pages_of-append : (xs ys : List PageImage) → pages_of (xs ++ ys) ≡ pages_of xs ++ pages_of ys
pages_of-append [] ys = refl
pages_of-append (x ∷ xs) ys = ap (λ (ps : List ℕ). x.page ∷ ps) (pages_of-append xs ys)

-- ---- changes that are right

right_keeps : (base : Base) (changes : List Change) → AreRight base changes → AllKeepNewest base changes
right_keeps base [] right = tt
right_keeps base (Commit label writes ∷ changes) right = (tt, right_keeps (base_after base (Commit label writes)) changes right.1)
right_keeps base (Drop below ∷ changes) right = (right.0.1, right_keeps (base_after base (Drop below)) changes right.1)

-- the newest snapshot is the one that was, or one declared since
abbrev IsOldOrLater : ℕ → ℕ → Base → Type 0
IsOldOrLater start count base = (newest_start base.marks ≡ start) ⊎ (count ≤ newest_start base.marks)

old_or_later : (start count : ℕ) (base : Base) (changes : List Change) → count ≤ base.captures → IsOldOrLater start count base → AreRight base changes → IsOldOrLater start count (bases_after base changes)
old_or_later start count base [] le is right = is
old_or_later start count base (Commit None writes ∷ changes) le is right = old_or_later start count (base_after base (Commit None writes)) changes (omega (arith, le)) is right.1
old_or_later start count base (Commit (Some label) writes ∷ changes) le is right =
    let total : ℕ = base.captures + length (pages_of (capturing base writes)) in
    let mark : Mark = record { number = newest base.marks + 1; label = label; start = total } in
    old_or_later start count (base_after base (Commit (Some label) writes)) changes (omega (arith, le)) (inr (omega (arith, le, newest_start-push base.marks mark))) right.1
old_or_later start count base (Drop below ∷ changes) le is right =
    let kept = kept-newest below base.marks right.0.1 in
    old_or_later start count (base_after base (Drop below)) changes le (elim is [ inl old ↦ inl (kept.1 ∙ old) | inr later ↦ inr (omega (arith, later, kept.1)) ]) right.1

oldest-le : (captures n s : ℕ) (marks : List Mark) → MarksRise captures n s marks → oldest_start marks ≤ newest_start marks
oldest-le captures n s [] rise = omega arith
oldest-le captures n s (mark ∷ []) rise = omega arith
oldest-le captures n s (mark ∷ next ∷ marks) rise = omega (arith, oldest-le captures mark.number mark.start (next ∷ marks) rise.2, rise.2.1)

-- ---- the base alone

image_of : ℕ → PageImage
image_of page = record { page = page; bytes = [] }

-- captures as the base tells them
told : Base → List PageImage
unfolding image_of
told base = replicate (newest_start base.marks) forgotten ++ map image_of base.captured

pages_told : (pages : List ℕ) → pages_of (map image_of pages) ≡ pages
unfolding image_of
pages_told [] = refl
pages_told (page ∷ pages) = ap (λ (ps : List ℕ). page ∷ ps) (pages_told pages)

length-told : (base : Base) → IsBase base → length (told base) ≡ base.captures
unfolding told
length-told base is =
    omega (
      arith,
      length-append (replicate (newest_start base.marks) forgotten) (map image_of base.captured),
      length-replicate (newest_start base.marks) forgotten,
      length-map base.captured image_of,
      is.captured,
      newest_start-within base.captures 0 0 base.marks is.marks,
    )

since_told : (base : Base) → pages_of (drop (newest_start base.marks) (told base)) ≡ base.captured
unfolding told
since_told base = ap pages_of (drop_at (replicate (newest_start base.marks) forgotten) (map image_of base.captured) (newest_start base.marks) (length-replicate (newest_start base.marks) forgotten)) ∙ pages_told base.captured

traced_told : (base : Base) → IsBase base → (page : ℕ) → is_among page base.captured ≡ (is_declared base.marks && is_among page (pages_of (drop (newest_start base.marks) (told base))))
traced_told base is page = go base.marks refl where
  go : (marks : List Mark) → base.marks ≡ marks → is_among page base.captured ≡ (is_declared marks && is_among page (pages_of (drop (newest_start base.marks) (told base))))
  go [] none =
      let empty : base.captured ≡ [] = nil_from_length base.captured (omega (arith, is.captured, is.undeclared none)) in
      ap (is_among page) empty
  go (mark ∷ marks) some = ap (is_among page) (sym (since_told base))

-- the history of a right log over captures that its base tells
abbrev ideal : Contents → History
ideal contents = record { origin = (opened contents).origin; held = told contents.log.base; changes = contents.log.changes }

ideal_is_consistent : (contents : Contents) → IsBase contents.log.base → AreRight contents.log.base contents.log.changes → IsConsistent (ideal contents)
ideal_is_consistent contents is right =
    let first : History = record { origin = (opened contents).origin; held = told contents.log.base; changes = [] } in
    let long = length-told contents.log.base is in
    let none : drop (length (told contents.log.base) - contents.log.base.captures) (captures_of first.origin []) ≡ [] = drop_all (length (told contents.log.base) - contents.log.base.captures) [] (omega arith) in
    let all : told contents.log.base ≡ captures first = sym (ap (λ (l : List PageImage). told contents.log.base ++ l) none ∙ append-nil (told contents.log.base)) in
    let begins : IsConsistent first = record {
      counted = omega (arith, long);
      known = omega (arith, long);
      marks = is.marks;
      captured = λ page. traced_told contents.log.base is page ∙ ap (λ (l : List PageImage). is_declared contents.log.base.marks && is_among page (pages_of (drop (newest_start contents.log.base.marks) l))) all;
    } in
    stays_consistent first contents.log.changes begins (right_keeps contents.log.base contents.log.changes right)

-- ---- the pages of the captures

pages_of-slots : (slots : ℕ → List ℕ) (capacity number : ℕ) (pages : List ℕ) → pages_of (slot_images slots capacity number pages) ≡ pages
pages_of-slots slots capacity number [] = refl
pages_of-slots slots capacity number (page ∷ pages) = ap (λ (ps : List ℕ). page ∷ ps) (pages_of-slots slots capacity (number + 1) pages)

begins : (front pages : List ℕ) → begins_with front pages ≡ true → pages ≡ front ++ drop (length front) pages
begins [] pages is = refl
begins (page ∷ front) [] is = absurd cc
begins (page ∷ front) (other ∷ pages) is =
    let both = and_parts _ (begins_with front pages) is in
    ap (λ (p : ℕ). p ∷ pages) (sym (eqb-true page other both.0)) ∙ ap (λ (ps : List ℕ). page ∷ ps) (begins front pages both.1)

-- the archive holds the captures below its end
pub held_long : (contents : Contents) → length (opened contents).held ≡ end_of contents.mappings
held_long contents =
    let forgot : List PageImage = replicate contents.mappings.low forgotten in
    let slots : List PageImage = slot_images contents.slots contents.log.base.capacity contents.mappings.low contents.mappings.pages in
    let many : length slots ≡ length contents.mappings.pages =
    sym (length-map slots (λ (image : PageImage). image.page)) ∙ ap (λ (l : List ℕ). length l) (pages_of-slots contents.slots contents.log.base.capacity contents.mappings.low contents.mappings.pages) in
    omega (arith, length-append forgot slots, length-replicate contents.mappings.low forgotten, many)

-- the captures from the lowest mapping on
pub opened_captures : (contents : Contents) → drop contents.mappings.low (captures (opened contents))
    ≡ slot_images contents.slots contents.log.base.capacity contents.mappings.low contents.mappings.pages ++ drop (end_of contents.mappings - contents.log.base.captures) (captures_of (opened contents).origin contents.log.changes)
opened_captures contents =
    let low : ℕ = contents.mappings.low in
    let forgot : List PageImage = replicate low forgotten in
    let slots : List PageImage = slot_images contents.slots contents.log.base.capacity low contents.mappings.pages in
    let caps : List PageImage = captures_of (opened contents).origin contents.log.changes in
    let behind : List PageImage = drop (length (opened contents).held - contents.log.base.captures) caps in
    ap (drop low) (append_assoc forgot slots behind)
    ∙ drop_at forgot (slots ++ behind) low (length-replicate low forgotten)
    ∙ ap (λ (n : ℕ). slots ++ drop (n - contents.log.base.captures) caps) (held_long contents)

-- there are as many captures as the log says
run_count : (state : State) (changes : List Change) → (run state changes).base.captures ≡ state.base.captures + length (captures_of state changes)
run_count state [] = omega arith
run_count state (change ∷ changes) = omega (arith, run_count (after state change) changes, captured-length state change, length-append (captured_by state change) (captures_of (after state change) changes))

pub store_count : (store : Replayed) (state : State) (first : List PageImage) (changes : List Change) → first ≡ [] → state_of store ≡ run state changes → store.captures ≡ first ++ captures_of state changes
    → store.base.captures ≡ state.base.captures + length store.captures
store_count store state first changes empty is are =
    let bases : store.base.captures ≡ (run state changes).base.captures = ap (λ (s : State). s.base.captures) is in
    let caps : store.captures ≡ captures_of state changes = are ∙ ap (λ (l : List PageImage). l ++ captures_of state changes) empty in
    omega (arith, bases, run_count state changes, ap (λ (l : List PageImage). length l) caps)

-- pages of one list in their places, before others
record Numbered (low : ℕ) (mapped others all : List ℕ) : Type 0 where
  hidden : List ℕ
  long : length hidden ≡ low
  is : all ≡ (hidden ++ mapped) ++ others

-- from a number on that is not below the mapped ones
numbered_from : (low k : ℕ) (mapped others all : List ℕ) → Numbered low mapped others all → low ≤ k → k ≤ low + length mapped → drop k all ≡ drop (k - low) mapped ++ others
numbered_from low k mapped others all n above within =
    let whole : drop k all ≡ drop k (n.hidden ++ mapped) ++ others = ap (drop k) n.is ∙ drop-append-le k (n.hidden ++ mapped) others (omega (arith, n.long, within, length-append n.hidden mapped)) in
    let sum : low + (k - low) ≡ k = omega (arith, above) in
    let inner : drop k (n.hidden ++ mapped) ≡ drop (k - low) mapped =
    ap (λ (m : ℕ). drop m (n.hidden ++ mapped)) (sym sum) ∙ sym (drop-drop (k - low) low (n.hidden ++ mapped)) ∙ ap (drop (k - low)) (drop_at n.hidden mapped low n.long) in
    whole ∙ ap (λ (l : List ℕ). l ++ others) inner

-- the pages of captures: those that are hidden or mapped, and behind them those that the changes captured
abbrev opened_pages : ℕ → ℕ → List ℕ → List ℕ → List ℕ → List ℕ
opened_pages low count mapped caps hidden = (hidden ++ mapped) ++ drop (low + length mapped - count) caps

-- mapped pages that belong to what changes captured behind so many
record Belong (low count : ℕ) (mapped caps hidden told : List ℕ) : Type 0 where
  hides : length hidden ≡ low
  tells : length told ≡ count
  counted : count ≤ low + length mapped
  same : begins_with (drop (count - low) mapped) (drop (low - count) caps) ≡ true

module _ (low count : ℕ) (mapped caps hidden told : List ℕ) (b : Belong low count mapped caps hidden told) where
  numbered : Numbered low mapped (drop (low + length mapped - count) caps) (opened_pages low count mapped caps hidden)
  numbered = record { hidden = hidden; long = b.hides; is = refl }

  joins : drop (low - count) caps ≡ drop (count - low) mapped ++ drop (low + length mapped - count) caps
  joins =
      let front : List ℕ = drop (count - low) mapped in
      let sum : (low - count) + length front ≡ low + length mapped - count = omega (arith, length-drop (count - low) mapped, b.counted) in
      begins front (drop (low - count) caps) b.same
      ∙ ap (λ (l : List ℕ). front ++ l) (drop-drop (length front) (low - count) caps ∙ ap (λ (n : ℕ). drop n caps) sum)

  agree_there : drop (low + (count - low)) (opened_pages low count mapped caps hidden) ≡ drop (low + (count - low)) (told ++ caps)
  agree_there =
      let place : ℕ = low + (count - low) in
      let behind : List ℕ = drop (low + length mapped - count) caps in
      let back : place - low ≡ count - low = omega arith in
      let other : count + (low - count) ≡ place = omega arith in
      numbered_from low place mapped behind (opened_pages low count mapped caps hidden) numbered (omega arith) (omega (arith, b.counted))
      ∙ ap (λ (n : ℕ). drop n mapped ++ behind) back
      ∙ sym joins
      ∙ ap (drop (low - count)) (sym (drop_at told caps count b.tells))
      ∙ drop-drop (low - count) count (told ++ caps)
      ∙ ap (λ (n : ℕ). drop n (told ++ caps)) other

  agree : (k : ℕ) → count ≤ k → low ≤ k → drop k (opened_pages low count mapped caps hidden) ≡ drop k (told ++ caps)
  agree k from above =
      let place : ℕ = low + (count - low) in
      let sum : place + (k - place) ≡ k = omega (arith, from, above) in
      ap (λ (n : ℕ). drop n (opened_pages low count mapped caps hidden)) (sym sum)
      ∙ sym (drop-drop (k - place) place (opened_pages low count mapped caps hidden))
      ∙ ap (drop (k - place)) agree_there
      ∙ drop-drop (k - place) place (told ++ caps)
      ∙ ap (λ (n : ℕ). drop n (told ++ caps)) sum

  -- before the changes, from a number on that is not below the mapped ones
  module _ (start : ℕ) (above : low ≤ start) (within : start ≤ count) where
    since_is : drop (start - low) (take (count - low) mapped) ≡ take (count - start) (drop (start - low) mapped)
    since_is =
        let sum : (start - low) + (count - start) ≡ count - low = omega (arith, above, within) in
        ap (λ (n : ℕ). drop (start - low) (take n mapped)) (sym sum) ∙ drop-take (start - low) (count - start) mapped

    length-since : length (drop (start - low) (take (count - low) mapped)) ≡ count - start
    length-since = omega (arith, ap (λ (l : List ℕ). length l) since_is, length-take (count - start) (drop (start - low) mapped), length-drop (start - low) mapped, b.counted, above, within)

    opened_since : drop start (opened_pages low count mapped caps hidden) ≡ drop (start - low) (take (count - low) mapped) ++ drop count (opened_pages low count mapped caps hidden)
    opened_since =
        let behind : List ℕ = drop (low + length mapped - count) caps in
        let all : List ℕ = opened_pages low count mapped caps hidden in
        let sum : (start - low) + (count - start) ≡ count - low = omega (arith, above, within) in
        let tail : List ℕ = drop (start - low) mapped in
        let rest : drop (count - start) tail ++ behind ≡ drop count all =
        ap (λ (l : List ℕ). l ++ behind) (drop-drop (count - start) (start - low) mapped ∙ ap (λ (n : ℕ). drop n mapped) sum)
        ∙ sym (numbered_from low count mapped behind all numbered (omega (arith, above, within)) b.counted) in
        numbered_from low start mapped behind all numbered above (omega (arith, within, b.counted))
        ∙ ap (λ (l : List ℕ). l ++ behind) (sym (take-append-drop (count - start) tail))
        ∙ append_assoc (take (count - start) tail) (drop (count - start) tail) behind
        ∙ ap (λ (l : List ℕ). take (count - start) tail ++ l) rest
        ∙ ap (λ (l : List ℕ). l ++ drop count all) (sym since_is)

    told_since : drop start (told ++ caps) ≡ drop start told ++ drop count (told ++ caps)
    told_since = drop-append-le start told caps (omega (arith, b.tells, within)) ∙ ap (λ (l : List ℕ). drop start told ++ l) (sym (drop_at told caps count b.tells))

    -- the same pages stand there where the mapped ones are those that are told
    same_there : (page : ℕ) → is_among page (drop (start - low) (take (count - low) mapped)) ≡ is_among page (drop start told)
        → is_among page (drop start (opened_pages low count mapped caps hidden)) ≡ is_among page (drop start (told ++ caps))
    same_there page same =
        ap (is_among page) (opened_since ∙ ap (λ (l : List ℕ). drop (start - low) (take (count - low) mapped) ++ l) (agree count (omega arith) (omega (arith, above, within))))
        ∙ among_both page (drop (start - low) (take (count - low) mapped)) (drop start told) (drop count (told ++ caps)) same
        ∙ ap (is_among page) (sym told_since)
      where
        among_both : (page : ℕ) (xs ys rest : List ℕ) → is_among page xs ≡ is_among page ys → is_among page (xs ++ rest) ≡ is_among page (ys ++ rest)
        among_both page xs ys rest same = among-append page xs rest ∙ ap (λ b. b || is_among page rest) same ∙ sym (among-append page ys rest)

choose : (a b : ℕ) → (b ≤ a) ⊎ (a < b)
choose a b = pick (ltb a b) refl where
  pick : (t : Bool) → ltb a b ≡ t → (b ≤ a) ⊎ (a < b)
  pick true e = inr (ltb-true a b e)
  pick false e = inl (ltb-false a b e)

module _ (contents : Contents) (right : AreRightContents contents) where
  abbrev base : Base
  base = contents.log.base

  abbrev mappings : Mappings
  mappings = contents.mappings

  abbrev caps : List PageImage
  caps = captures_of (opened contents).origin contents.log.changes

  abbrev marks : List Mark
  marks = (now (opened contents)).base.marks

  abbrev hidden : List ℕ
  hidden = pages_of (replicate mappings.low forgotten)

  abbrev told_pages : List ℕ
  told_pages = pages_of (told base)

  belong : Belong mappings.low base.captures mappings.pages (pages_of caps) hidden told_pages
  belong = record {
    hides = omega (arith, length-map (replicate mappings.low forgotten) (λ (image : PageImage). image.page), length-replicate mappings.low forgotten);
    tells = omega (arith, length-map (told base) (λ (image : PageImage). image.page), length-told base right.base);
    counted = right.joined.holds_base.counted;
    same = right.joined.holds_changes.same;
  }

  opened_is : pages_of (captures (opened contents)) ≡ opened_pages mappings.low base.captures mappings.pages (pages_of caps) hidden
  opened_is =
      let slots : List PageImage = slot_images contents.slots base.capacity mappings.low mappings.pages in
      let forgot : List PageImage = replicate mappings.low forgotten in
      pages_of-append (forgot ++ slots) (drop (length (opened contents).held - base.captures) caps)
      ∙ ap (λ (l : List ℕ). l ++ pages_of (drop (length (opened contents).held - base.captures) caps)) (pages_of-append forgot slots ∙ ap (λ (l : List ℕ). hidden ++ l) (pages_of-slots contents.slots base.capacity mappings.low mappings.pages))
      ∙ ap (λ (n : ℕ). (hidden ++ mappings.pages) ++ pages_of (drop (n - base.captures) caps)) (held_long contents)
      ∙ ap (λ (l : List ℕ). (hidden ++ mappings.pages) ++ l) (sym (drop-map (λ (image : PageImage). image.page) (end_of mappings - base.captures) caps))

  ideal_is : pages_of (captures (ideal contents)) ≡ told_pages ++ pages_of caps
  ideal_is =
      let none : length (told base) - base.captures ≡ 0 = omega (arith, length-told base right.base) in
      pages_of-append (told base) (drop (length (told base) - base.captures) caps) ∙ ap (λ (n : ℕ). told_pages ++ pages_of (drop n caps)) none

  is_ideal : IsConsistent (ideal contents)
  is_ideal = ideal_is_consistent contents right.base right.right

  start_above : mappings.low ≤ newest_start marks
  start_above = omega (arith, right.joined.holds_changes.needed, oldest-le (now (opened contents)).base.captures 0 0 marks is_ideal.marks)

  old_start : IsOldOrLater (newest_start base.marks) base.captures (now (opened contents)).base
  old_start =
      subst (IsOldOrLater (newest_start base.marks) base.captures) (sym (run-base (opened contents).origin contents.log.changes))
      (old_or_later (newest_start base.marks) base.captures base contents.log.changes (omega arith) (inl refl) right.right)

  -- at the newest snapshot of the base the mapped pages are those that the base tells
  same_at_old : (page start : ℕ) → newest_start base.marks ≡ start → mappings.low ≤ start → start ≤ base.captures
      → is_among page (drop (start - mappings.low) (take (base.captures - mappings.low) mappings.pages)) ≡ is_among page (drop start told_pages)
  same_at_old page start is above within =
      let held = right.joined.holds_base in
      let mapped : List ℕ = drop (start - mappings.low) (take (base.captures - mappings.low) mappings.pages) in
      let moved : mapped_since base mappings ≡ mapped = ap (λ (n : ℕ). drop (n - mappings.low) (take (base.captures - mappings.low) mappings.pages)) is in
      let few : length base.captured ≤ length mapped = omega (arith, right.base.captured, length-since mappings.low base.captures mappings.pages (pages_of caps) hidden told_pages belong start above within, is) in
      same_pages mapped base.captured (ap differ (sym moved) ∙ held.different) (ap (λ (l : List ℕ). are_among l base.captured) (sym moved) ∙ held.captured) few page
      ∙ ap (is_among page) (sym (since_told base) ∙ sym (drop-map (λ (image : PageImage). image.page) (newest_start base.marks) (told base)) ∙ ap (λ (n : ℕ). drop n told_pages) is)

  same_since : (page : ℕ) → is_among page (drop (newest_start marks) (opened_pages mappings.low base.captures mappings.pages (pages_of caps) hidden)) ≡ is_among page (drop (newest_start marks) (told_pages ++ pages_of caps))
  same_since page = go (newest_start marks) start_above old_start (choose (newest_start marks) base.captures) where
    go : (start : ℕ) → mappings.low ≤ start → (start ≡ newest_start base.marks) ⊎ (base.captures ≤ start) → (base.captures ≤ start) ⊎ (start < base.captures)
        → is_among page (drop start (opened_pages mappings.low base.captures mappings.pages (pages_of caps) hidden)) ≡ is_among page (drop start (told_pages ++ pages_of caps))
    go start above which (inl late) = ap (is_among page) (agree mappings.low base.captures mappings.pages (pages_of caps) hidden told_pages belong start late above)
    go start above (inr late) (inr before) = absurd (omega (arith, late, before))
    go start above (inl old) (inr before) =
        same_there mappings.low base.captures mappings.pages (pages_of caps) hidden told_pages belong start above (omega (arith, before)) page (same_at_old page start (sym old) above (omega (arith, before)))

  captured_same : (page : ℕ) → is_among page (pages_of (drop (newest_start marks) (captures (opened contents)))) ≡ is_among page (pages_of (drop (newest_start marks) (captures (ideal contents))))
  captured_same page =
      ap (is_among page) (sym (drop-map (λ (image : PageImage). image.page) (newest_start marks) (captures (opened contents))) ∙ ap (drop (newest_start marks)) opened_is)
      ∙ same_since page
      ∙ ap (is_among page) (ap (drop (newest_start marks)) (sym ideal_is) ∙ drop-map (λ (image : PageImage). image.page) (newest_start marks) (captures (ideal contents)))

  consistent : IsConsistent (opened contents)
  consistent = record {
    counted = omega (arith, (held_long contents), right.joined.holds_base.counted);
    known = omega (arith, (held_long contents), right.joined.holds_changes.known);
    marks = is_ideal.marks;
    captured = λ page. is_ideal.captured page ∙ ap (λ b. is_declared marks && b) (sym (captured_same page));
  }

pub opened_is_consistent : OpenedIsConsistent
opened_is_consistent contents right = consistent contents right
