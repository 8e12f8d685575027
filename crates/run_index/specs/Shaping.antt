-- What adding and taking out make of the entries of pages: proofs.
use Rattle.std.proofs.Common.{◌⊎◌, ◌≡◌, ◌≤◌, ◌+◌, ◌++◌, ◌∙◌, ◌||◌, ℕ, Bool, true, false, cond, eqb, leb}
use Rattle.std.proofs.Common.{List, [], ◌∷◌, length, take, drop, refl, sym, ap, subst, inl, inr, arith}
use Rattle.std.specs.List.{AllByRecursion, Contains, list_any}
use Rattle.std.specs.List.Sorted.{IsStrictlySortedBy}
use Rattle.std.proofs.lemmas.Bool.{le-leb, leb-true, ne_eqb, or_right, or_from, or_parts}
use Rattle.std.proofs.lemmas.List.{append-nil, length-append, take-append-drop}
use Rattle.std.proofs.lemmas.List.Concat.{flat_map-append}
use Rattle.std.proofs.lemmas.List.Elements.{All-drop, All-from_recursion, All-take, recursion_from_All}
use Rattle.pager.specs.Index.{IsFound, IsInOrder, IsShaped, with_found, without_found}
use Rattle.pager.specs.declared.index.Found.{Found}
use Rattle.index_page.specs.Entries.{entry_inserted, is_behind, reaches, taken_out}
use Rattle.index_page.specs.IndexPage.{AreOneMore, AreWritable, have_room, half, width}
use Rattle.index_page.proofs.Halving.{halves_fit}
use Rattle.index_page.proofs.Ordered.{inserted-all, inserted-in_order, inserted-is, inserted-same}
use Rattle.index_page.proofs.Ordered.{inserted-skip, inserted-stop, taken_out-all}
use Rattle.index_page.proofs.Ordered.{taken_out-in_order, taken_out-is, taken_out-skip, taken_out-stop}
use Rattle.index_page.proofs.Packing.{entry-short}
use Rattle.index_page.proofs.Placing.{inserted-same_width, inserted-width, taken_out-width}
use Rattle.run_index.specs.Run.{IsShape, at_target, entries_of, opens, paged, put, target, without}

-- what holds of each of some, and of others
pub all-join : {X : Type 0} (P : X → Type 0) (a b : List X) → AllByRecursion P a → AllByRecursion P b →
    AllByRecursion P (a ++ b)
all-join P [] b all also = also
all-join P (x ∷ a) b all also = (all.0, all-join P a b all.1 also)

pub all-left : {X : Type 0} (P : X → Type 0) (a b : List X) → AllByRecursion P (a ++ b) → AllByRecursion P a
all-left P [] b all = tt
all-left P (x ∷ a) b all = (all.0, all-left P a b all.1)

pub all-right : {X : Type 0} (P : X → Type 0) (a b : List X) → AllByRecursion P (a ++ b) → AllByRecursion P b
all-right P [] b all = all
all-right P (x ∷ a) b all = all-right P a b all.1

-- a page among pages
pub entries-middle : (before : List (List Found)) (page : List Found) (behind : List (List Found)) →
    entries_of (before ++ page ∷ behind) ≡ entries_of before ++ (page ++ entries_of behind)
entries-middle before page behind = flat_map-append (λ (p : List Found). p) before (page ∷ behind)

pub entries-parts : (before change behind : List (List Found)) →
    entries_of (before ++ (change ++ behind)) ≡ entries_of before ++ (entries_of change ++ entries_of behind)
entries-parts before change behind =
    flat_map-append (λ (p : List Found). p) before (change ++ behind) ∙
    ap (λ (l : List Found). entries_of before ++ l) (flat_map-append (λ (p : List Found). p) change behind)

-- The pages with the one in which an entry belongs: those before it have only entries below it, and where there are
-- pages behind it, one of its own entries is not below it.
pub record Target (entry : Found) (shape : List (List Found)) : Type 0 where
  pub before : List (List Found)
  pub page : List Found
  pub behind : List (List Found)
  pub whole : shape ≡ before ++ page ∷ behind
  pub skips : reaches entry (entries_of before) ≡ false
  pub stops : (behind ≡ []) ⊎ (reaches entry page ≡ true)

pub any-append : (test : Found → Bool) (a b : List Found) → list_any test a ≡ false → list_any test b ≡ false →
    list_any test (a ++ b) ≡ false
any-append test [] b none also = also
any-append test (x ∷ a) b none also =
    let parts = or_parts (test x) (list_any test a) none in
    or_from (test x) (list_any test (a ++ b)) parts.0 (any-append test a b parts.1 also)

pub targeted : (entry : Found) (shape : List (List Found)) → 1 ≤ length shape → Target entry shape
targeted entry [] some = absurd (omega arith)
targeted entry (page ∷ []) some =
    record { before = []; page = page; behind = []; whole = refl; skips = refl; stops = inl refl }
targeted entry (page ∷ (next ∷ rest)) some = step (reaches entry page) refl (targeted entry (next ∷ rest) (omega arith))
  where
    step : (b : Bool) → reaches entry page ≡ b → Target entry (next ∷ rest) → Target entry (page ∷ (next ∷ rest))
    step true e more =
        record { before = []; page = page; behind = next ∷ rest; whole = refl; skips = refl; stops = inr e }
    step false e more = record {
      before = page ∷ more.before;
      page = more.page;
      behind = more.behind;
      whole = ap (λ (l : List (List Found)). page ∷ l) more.whole;
      skips = any-append (is_behind entry) page (entries_of more.before) e more.skips;
      stops = more.stops;
    }

skips-left : (test : Found → Bool) (a b : List Found) → list_any test (a ++ b) ≡ false → list_any test a ≡ false
skips-left test [] b none = refl
skips-left test (x ∷ a) b none =
    let parts = or_parts (test x) (list_any test (a ++ b)) none in
    or_from (test x) (list_any test a) parts.0 (skips-left test a b parts.1)

skips-right : (test : Found → Bool) (a b : List Found) → list_any test (a ++ b) ≡ false → list_any test b ≡ false
skips-right test [] b none = none
skips-right test (x ∷ a) b none = skips-right test a b (or_parts (test x) (list_any test (a ++ b)) none).1

not-last : (before : List (List Found)) (page : List Found) (behind : List (List Found)) →
    eqb (length (before ++ page ∷ behind)) 0 ≡ false
not-last before page behind =
    ne_eqb (length (before ++ page ∷ behind)) 0 (λ e. omega (arith, length-append before (page ∷ behind)))

ends-here : (page : List Found) (behind : List (List Found)) (entry : Found) →
    ((behind ≡ []) ⊎ (reaches entry page ≡ true)) → (eqb (length behind) 0 || reaches entry page) ≡ true
ends-here page behind entry (inl none) = rw none refl
ends-here page behind entry (inr here) = or_right (eqb (length behind) 0) (reaches entry page) here

-- that page is the target
pub at_target-is : (entry : Found) (change : List Found → List (List Found)) (before : List (List Found))
    (page : List Found) (behind : List (List Found)) → reaches entry (entries_of before) ≡ false →
    ((behind ≡ []) ⊎ (reaches entry page ≡ true)) →
    at_target entry change (before ++ page ∷ behind) ≡ before ++ (change page ++ behind)
at_target-is entry change [] page behind skips stops = rw (ends-here page behind entry stops) refl
at_target-is entry change (first ∷ before) page behind skips stops =
    rw (or_from (eqb (length (before ++ page ∷ behind)) 0) (reaches entry first) (not-last before page behind)
    (skips-left (is_behind entry) first (entries_of before) skips))
    (ap (λ (l : List (List Found)). first ∷ l)
    (at_target-is entry change before page behind
    (skips-right (is_behind entry) first (entries_of before) skips) stops))

pub target-is : (entry : Found) (before : List (List Found)) (page : List Found) (behind : List (List Found)) →
    reaches entry (entries_of before) ≡ false → ((behind ≡ []) ⊎ (reaches entry page ≡ true)) →
    target entry (before ++ page ∷ behind) ≡ page
target-is entry [] page behind skips stops = rw (ends-here page behind entry stops) refl
target-is entry (first ∷ before) page behind skips stops =
    rw (or_from (eqb (length (before ++ page ∷ behind)) 0) (reaches entry first) (not-last before page behind)
    (skips-left (is_behind entry) first (entries_of before) skips))
    (target-is entry before page behind (skips-right (is_behind entry) first (entries_of before) skips) stops)

-- what is made of the entries of that page is made of all entries
pub inserted-there : (entry : Found) (front page rest : List Found) → reaches entry front ≡ false →
    ((rest ≡ []) ⊎ (reaches entry page ≡ true)) →
    entry_inserted entry (front ++ (page ++ rest)) ≡ front ++ (entry_inserted entry page ++ rest)
inserted-there entry front page rest skips (inl none) =
    rw (none, append-nil page, append-nil (entry_inserted entry page)) (inserted-skip entry front page skips)
inserted-there entry front page rest skips (inr here) =
    inserted-skip entry front (page ++ rest) skips ∙
    ap (λ (l : List Found). front ++ l) (inserted-stop entry page rest here)

pub taken_out-there : (entry : Found) (front page rest : List Found) → reaches entry front ≡ false →
    ((rest ≡ []) ⊎ (reaches entry page ≡ true)) →
    taken_out entry (front ++ (page ++ rest)) ≡ front ++ (taken_out entry page ++ rest)
taken_out-there entry front page rest skips (inl none) =
    rw (none, append-nil page, append-nil (taken_out entry page)) (taken_out-skip entry front page skips)
taken_out-there entry front page rest skips (inr here) =
    taken_out-skip entry front (page ++ rest) skips ∙
    ap (λ (l : List Found). front ++ l) (taken_out-stop entry page rest here)

rest-stops : (entry : Found) (page : List Found) (behind : List (List Found)) →
    ((behind ≡ []) ⊎ (reaches entry page ≡ true)) → (entries_of behind ≡ []) ⊎ (reaches entry page ≡ true)
rest-stops entry page behind (inl none) = inl (ap entries_of none)
rest-stops entry page behind (inr here) = inr here

-- entries on one page or two
pub entries-paged : (entries : List Found) → entries_of (paged entries) ≡ entries
entries-paged entries = step (have_room entries)
  where
    step : (b : Bool) →
        entries_of (cond b (entries ∷ []) (take (half entries) entries ∷ drop (half entries) entries ∷ [])) ≡ entries
    step true = append-nil entries
    step false = ap (λ (l : List Found). take (half entries) entries ++ l) (append-nil (drop (half entries) entries)) ∙
        take-append-drop (half entries) entries

pub front-writable : (entries : List Found) → AllByRecursion IsFound entries → AreOneMore entries →
    AreWritable (take (half entries) entries)
front-writable entries lawful most = record {
  lawful = recursion_from_All IsFound (take (half entries) entries)
      (All-take IsFound (half entries) entries (All-from_recursion IsFound entries lawful));
  fits = (halves_fit entries lawful most).0;
}

pub back-writable : (entries : List Found) → AllByRecursion IsFound entries → AreOneMore entries →
    AreWritable (drop (half entries) entries)
back-writable entries lawful most = record {
  lawful = recursion_from_All IsFound (drop (half entries) entries)
      (All-drop IsFound (half entries) entries (All-from_recursion IsFound entries lawful));
  fits = (halves_fit entries lawful most).1;
}

pub paged-writable : (entries : List Found) → AllByRecursion IsFound entries → AreOneMore entries →
    AllByRecursion AreWritable (paged entries)
paged-writable entries lawful most = step (have_room entries) refl
  where
    step : (b : Bool) → have_room entries ≡ b →
        AllByRecursion AreWritable
        (cond b (entries ∷ []) (take (half entries) entries ∷ drop (half entries) entries ∷ []))
    step true e = (record { lawful = lawful; fits = leb-true (width entries) 1016 e }, tt)
    step false e = (front-writable entries lawful most, (back-writable entries lawful most, tt))

pub inserted-most : (entry : Found) (page : List Found) → IsFound entry → AreWritable page →
    AreOneMore (entry_inserted entry page)
inserted-most entry page is writable = omega (arith, inserted-width entry page, entry-short entry is, writable.fits)

-- pages with that page changed are pages again
changed-shape : (before change behind : List (List Found)) (page : List Found) → IsShape (before ++ page ∷ behind) →
    AllByRecursion AreWritable change → 1 ≤ length change → IsInOrder (entries_of (before ++ (change ++ behind))) →
    IsShape (before ++ (change ++ behind))
changed-shape before change behind page is writable some order = record {
  some = omega (arith, length-append before (change ++ behind), length-append change behind);
  in_order = order;
  writable =
      let rest = all-right AreWritable before (page ∷ behind) is.writable in
      all-join AreWritable before (change ++ behind) (all-left AreWritable before (page ∷ behind) is.writable)
      (all-join AreWritable change behind writable rest.1);
}

paged-some : (entries : List Found) → 1 ≤ length (paged entries)
paged-some entries = step (have_room entries)
  where
    step : (b : Bool) →
        1 ≤ length (cond b (entries ∷ []) (take (half entries) entries ∷ drop (half entries) entries ∷ []))
    step true = omega arith
    step false = omega arith

put-in : (entry : Found) (shape : List (List Found)) → IsShape shape → IsFound entry → Target entry shape →
    IsShape (put entry shape) × (entries_of (put entry shape) ≡ with_found entry (entries_of shape))
put-in entry shape is found t =
    let page = t.page in
    let pages = paged (entry_inserted entry page) in
    let put-is : put entry shape ≡ t.before ++ (pages ++ t.behind) =
    ap (put entry) t.whole ∙
    at_target-is entry (λ p. paged (entry_inserted entry p)) t.before page t.behind t.skips t.stops in
    let here : IsShape (t.before ++ page ∷ t.behind) = subst IsShape t.whole is in
    let writable : AreWritable page = (all-right AreWritable t.before (page ∷ t.behind) here.writable).0 in
    let made : entries_of (t.before ++ (pages ++ t.behind))
    ≡ entry_inserted entry (entries_of (t.before ++ page ∷ t.behind)) =
    entries-parts t.before pages t.behind ∙ ap (λ (l : List Found). entries_of t.before ++ (l ++ entries_of t.behind))
    (entries-paged (entry_inserted entry page)) ∙
    sym (inserted-there entry (entries_of t.before) page (entries_of t.behind) t.skips
    (rest-stops entry page t.behind t.stops)) ∙
    ap (entry_inserted entry) (sym (entries-middle t.before page t.behind)) in
    let order : IsInOrder (entries_of (t.before ++ (pages ++ t.behind))) =
    subst IsInOrder (sym made) (inserted-in_order entry (entries_of (t.before ++ page ∷ t.behind)) here.in_order) in
    let lawful = inserted-all IsFound entry page found writable.lawful in (
      subst IsShape (sym put-is)
          (changed-shape t.before pages t.behind page here
          (paged-writable (entry_inserted entry page) lawful (inserted-most entry page found writable))
          (paged-some (entry_inserted entry page)) order),
      ap entries_of put-is ∙ made ∙ ap (λ (s : List (List Found)). entry_inserted entry (entries_of s)) (sym t.whole) ∙
          inserted-is entry (entries_of shape) is.in_order,
    )

without-in : (entry : Found) (shape : List (List Found)) → IsShape shape → Target entry shape →
    IsShape (without entry shape) × (entries_of (without entry shape) ≡ without_found entry (entries_of shape))
without-in entry shape is t =
    let page = t.page in
    let pages : List (List Found) = taken_out entry page ∷ [] in
    let without-is : without entry shape ≡ t.before ++ (pages ++ t.behind) =
    ap (without entry) t.whole ∙
    at_target-is entry (λ p. taken_out entry p ∷ []) t.before page t.behind t.skips t.stops in
    let here : IsShape (t.before ++ page ∷ t.behind) = subst IsShape t.whole is in
    let writable : AreWritable page = (all-right AreWritable t.before (page ∷ t.behind) here.writable).0 in
    let made : entries_of (t.before ++ (pages ++ t.behind))
    ≡ taken_out entry (entries_of (t.before ++ page ∷ t.behind)) =
    entries-parts t.before pages t.behind ∙ ap (λ (l : List Found). entries_of t.before ++ (l ++ entries_of t.behind))
    (append-nil (taken_out entry page)) ∙
    sym (taken_out-there entry (entries_of t.before) page (entries_of t.behind) t.skips
    (rest-stops entry page t.behind t.stops)) ∙ ap (taken_out entry) (sym (entries-middle t.before page t.behind)) in
    let order : IsInOrder (entries_of (t.before ++ (pages ++ t.behind))) =
    subst IsInOrder (sym made)
    (taken_out-in_order entry (entries_of (t.before ++ page ∷ t.behind)) here.in_order) in
    let one : AreWritable (taken_out entry page) =
    record {
      lawful = taken_out-all IsFound entry page writable.lawful;
      fits = omega (arith, taken_out-width entry page, writable.fits);
    } in (
      subst IsShape (sym without-is) (changed-shape t.before pages t.behind page here (one, tt) (omega arith) order),
      ap entries_of without-is ∙ made ∙ ap (λ (s : List (List Found)). taken_out entry (entries_of s)) (sym t.whole) ∙
          taken_out-is entry (entries_of shape) is.in_order,
    )

-- whether the entries fit does not depend on the page of the one that is added
pub fits-any_page : (entry : Found) (page : List Found) →
    have_room (entry_inserted (record { value = entry.value; number = entry.number; page = 0 }) page)
    ≡ have_room (entry_inserted entry page)
fits-any_page entry page = ap (λ (n : ℕ). leb n 1016) (inserted-same_width entry 0 page)

cancel-front : (front a b : List Found) → front ++ a ≡ front ++ b → a ≡ b
cancel-front [] a b e = e
cancel-front (x ∷ front) a b e = cancel-front front a b (tail e)
  where
    tail : x ∷ front ++ a ≡ x ∷ front ++ b → front ++ a ≡ front ++ b
    tail p = cc

cancel-back : (a b rest : List Found) → a ++ rest ≡ b ++ rest → a ≡ b
cancel-back [] [] rest e = refl
cancel-back [] (y ∷ b) rest e = absurd (omega (arith, ap length e, length-append (y ∷ b) rest))
cancel-back (x ∷ a) [] rest e = absurd (omega (arith, ap length e, length-append (x ∷ a) rest))
cancel-back (x ∷ a) (y ∷ b) rest e =
    let more = cancel-back a b rest (tail e) in
    cc (head e, more)
  where
    tail : x ∷ a ++ rest ≡ y ∷ b ++ rest → a ++ rest ≡ b ++ rest
    tail p = cc

    head : x ∷ a ++ rest ≡ y ∷ b ++ rest → x ≡ y
    head p = cc

opens-none-in : (entry : Found) (shape : List (List Found)) → IsShape shape → Contains (entries_of shape) entry →
    Target entry shape → opens entry.value entry.number shape ≡ 0
opens-none-in entry shape is there t =
    let page = t.page in
    let front = entries_of t.before in
    let rest = entries_of t.behind in
    let here : IsShape (t.before ++ page ∷ t.behind) = subst IsShape t.whole is in
    let writable : AreWritable page = (all-right AreWritable t.before (page ∷ t.behind) here.writable).0 in
    let whole : entries_of shape ≡ front ++ (page ++ rest) =
    ap entries_of t.whole ∙ entries-middle t.before page t.behind in
    let same : entry_inserted entry (front ++ (page ++ rest)) ≡ front ++ (page ++ rest) =
    subst (λ (l : List Found). entry_inserted entry l ≡ l) whole
    (inserted-same entry (entries_of shape) there.0 is.in_order there.1 there.2) in
    let moved : front ++ (entry_inserted entry page ++ rest) ≡ front ++ (page ++ rest) =
    sym (inserted-there entry front page rest t.skips (rest-stops entry page t.behind t.stops)) ∙ same in
    let one : entry_inserted entry page ≡ page =
    cancel-back (entry_inserted entry page) page rest
    (cancel-front front (entry_inserted entry page ++ rest) (page ++ rest) moved) in
    let low : target (record { value = entry.value; number = entry.number; page = 0 }) shape ≡ page =
    ap (target (record { value = entry.value; number = entry.number; page = 0 })) t.whole ∙
    target-is (record { value = entry.value; number = entry.number; page = 0 }) t.before page t.behind t.skips
    t.stops in
    let fit : have_room
    (entry_inserted (record { value = entry.value; number = entry.number; page = 0 })
    (target (record { value = entry.value; number = entry.number; page = 0 }) shape)) ≡ true =
    ap (λ (l : List Found). have_room
    (entry_inserted (record { value = entry.value; number = entry.number; page = 0 }) l)) low ∙
    fits-any_page entry page ∙ ap have_room one ∙ le-leb (width page) 1016 writable.fits in
    rw fit refl

pub empty-shape : IsShape ([] ∷ [])
unfolding IsStrictlySortedBy
empty-shape = record { some = omega arith; in_order = tt; writable = (record { lawful = tt; fits = omega arith }, tt) }

-- the shapes of a sorted chain
pub shaped : IsShaped (λ shape. IsShape shape) ([] ∷ []) entries_of put without opens
shaped = record {
  in_order = λ shape is. is.in_order;
  of_none = (empty-shape, refl);
  of_put = λ entry shape is found kinds. put-in entry shape is found (targeted entry shape is.some);
  of_without = λ entry shape is. without-in entry shape is (targeted entry shape is.some);
  opens_none = λ entry shape is there. opens-none-in entry shape is there (targeted entry shape is.some);
}
