-- Entries that are added to one leaf, one after the other.
use Rattle.std.proofs.Common.{◌≡◌, ◌∙◌, ◌<◌, ◌≤◌, ◌+◌, ◌^◌, ◌++◌, ◌||◌, ℕ, Bool, true, false, cond, eqb, List, [], ◌∷◌, drop, get_or, length, take, None, Some, Result, Ok, Err, refl, sym, ap, subst, inl, inr, arith, length-append}
use Rattle.std.specs.List.{AllByRecursion}
use Rattle.std.specs.Ordering.{is_lt}
use Rattle.std.proofs.lemmas.Bool.{le-leb}
use Rattle.std.proofs.lemmas.Bool.Decides.{eqb_tells}
use Rattle.std.proofs.lemmas.List.{length-take-le, take_more}
use Rattle.std.proofs.Math.Seq.{take-add}
use Rattle.retro_base.specs.declared.refusal.Refusal.{Refusal}
use Rattle.values.specs.Value.{kind_of}
use Rattle.values.specs.declared.value.Kind.{Kind}
use Rattle.pager.proofs.Turns.{in_turn-ended, in_turn-next}
use Rattle.pager.specs.Allows.{in_turn}
use Rattle.pager.specs.Index.{found_cmp}
use Rattle.pager.specs.Pages.{Pages, with_bytes}
use Rattle.pager.specs.declared.index.Found.{Found}
use Rattle.index_page.specs.Entries.{entry_inserted}
use Rattle.index_page.specs.IndexPage.{AreWritable, HoldsIndex, page_bytes, width}
use Rattle.index_page.specs.declared.page.Form.{Form}
use Rattle.index_page.specs.declared.page.Form.TheVariants as form
use Rattle.index_page.specs.declared.page.IndexPage.{IndexPage}
use Rattle.index_page.proofs.Ordered.{inserted-all}
use Rattle.index_page.proofs.Packing.{holds_one}
use Rattle.index_page.proofs.Taking.{at-own, written-other}
use Rattle.tree_index.specs.declared.filling.Filled.{Filled}
use Rattle.tree_index.specs.declared.walk.Met.{Met}
use Rattle.tree_index.specs.Filling.{BelongsWith, Fills, GoesAlong, IsFilled, added_on, kept}
use Rattle.tree_index.specs.Listing.{at-same}
use Rattle.tree_index.specs.Marking.{all-left, all-right}
use Rattle.tree_index.specs.Walk.{IsOfTree, IsTree, Meets, children, children_of, chosen, walked}
use Rattle.tree_index.specs.Work.{added, climbed, edited, with_entries}
use Rattle.tree_index.proofs.Climbed.{climbed-on}

-- one child is chosen for an entry
one-chosen : (e : Found) (child : ℕ) (keys : List Found) → length (chosen e e child keys) ≡ 1
one-chosen e child [] = refl
one-chosen e child (key ∷ keys) = go (is_lt (found_cmp e key)) (one-chosen e key.page keys)
  where
    go : (t : Bool) → length (chosen e e key.page keys) ≡ 1 → length (cond t (child ∷ []) [] ++ cond t [] (chosen e e key.page keys)) ≡ 1
    go true more = refl
    go false more = more

few-children : (e : Found) (f : Form) (link : ℕ) (keys : List Found) → length (children_of e e f link keys) ≤ 1
few-children e form.Run link keys = omega arith
few-children e form.Inner link keys = omega (arith, one-chosen e link keys)
few-children e form.Leaf link keys = omega arith

some-inner : (e : Found) (f : Form) (link : ℕ) (keys : List Found) → 0 < length (children_of e e f link keys) → f ≡ form.Inner
some-inner e form.Run link keys some = absurd (omega (arith, some))
some-inner e form.Inner link keys some = refl
some-inner e form.Leaf link keys some = absurd (omega (arith, some))

none-leaf : (kind : Kind) (e : Found) (f : Form) (link : ℕ) (keys : List Found) → IsOfTree kind f keys → children_of e e f link keys ≡ [] → f ≡ form.Leaf
none-leaf kind e form.Run link keys tree none = absurd tree
none-leaf kind e form.Inner link keys tree none = absurd (omega (arith, one-chosen e link keys, ap length none))
none-leaf kind e form.Leaf link keys tree none = refl

leaf-none : (e : Found) (f : Form) (link : ℕ) (keys : List Found) → f ≡ form.Leaf → children_of e e f link keys ≡ []
leaf-none e f link keys is = ap (λ (g : Form). children_of e e g link keys) is

nil-left : {X : Type 0} (xs ys : List X) → xs ++ ys ≡ [] → (xs ≡ []) × (ys ≡ [])
nil-left [] ys e = (refl, e)
nil-left (x ∷ xs) ys e = absurd cc

-- the way to a leaf, whatever is still to be met
module _ (kind : Kind) (size : ℕ) where
  meets-some : (e : Found) (pages : Pages) (todo : List ℕ) (front : List Met) (leaf : Met) → Meets e e kind size pages todo (front ++ leaf ∷ []) [] → 0 < length todo
  meets-some e pages todo [] leaf way = omega (arith, ap length way.1)
  meets-some e pages todo (met ∷ front) leaf way = omega (arith, ap length way.1)

  -- the pages above the leaf are above others
  inner-front : (e : Found) (pages : Pages) (todo : List ℕ) (front : List Met) (leaf : Met) → length todo ≤ 1 → Meets e e kind size pages todo (front ++ leaf ∷ []) [] → AllByRecursion (λ (met : Met). met.held.form ≡ form.Inner) front
  inner-front e pages todo [] leaf few way = tt
  inner-front e pages todo (met ∷ front) leaf few way =
      let none : length way.0 ≡ 0 = omega (arith, few, ap length way.1) in
      let next = children e e met.held ++ way.0 in
      let sum = length-append (children e e met.held) way.0 in
      let some = meets-some e pages next front leaf way.3 in (
        some-inner e met.held.form met.held.link met.held.entries (omega (arith, some, sum, none)),
        inner-front e pages next front leaf (omega (arith, few-children e met.held.form met.held.link met.held.entries, sum, none)) way.3,
      )

  -- each of them is a page of the tree, and the leaf is one without children
  trees : (e : Found) (pages : Pages) (todo : List ℕ) (front : List Met) (leaf : Met) → Meets e e kind size pages todo (front ++ leaf ∷ []) [] → AllByRecursion (λ (met : Met). IsTree kind size pages met.page met.held) front × IsTree kind size pages leaf.page leaf.held × (children e e leaf.held ≡ [])
  trees e pages todo [] leaf way = (tt, way.2, (nil-left (children e e leaf.held) way.0 way.3).0)
  trees e pages todo (met ∷ front) leaf way =
      let more = trees e pages (children e e met.held ++ way.0) front leaf way.3 in
      ((way.2, more.0), more.1, more.2)

  -- an entry that goes the same way meets the same pages, and the leaf as it then is
  again : (a b : Found) (pages after : Pages) (todo : List ℕ) (front : List Met) (leaf : Met) (held : IndexPage) → Meets a a kind size pages todo (front ++ leaf ∷ []) [] → AllByRecursion (λ (met : Met). after.at met.page ≡ pages.at met.page) front → AllByRecursion (GoesAlong a b) front → held.form ≡ form.Leaf → IsTree kind size after leaf.page held → Meets b b kind size after todo (front ++ record { page = leaf.page; held = held } ∷ []) []
  again a b pages after todo [] leaf held way same along is tree =
      let none = (nil-left (children a a leaf.held) way.0 way.3).1 in
      (way.0, way.1, tree, ap (λ (l : List ℕ). l ++ way.0) (leaf-none b held.form held.link held.entries is) ∙ none)
  again a b pages after todo (met ∷ front) leaf held way same along is tree = (
    way.0,
    way.1,
    (at-same size pages after met.page met.held same.0 way.2.0, way.2.1),
    subst (λ (l : List ℕ). Meets b b kind size after (l ++ way.0) (front ++ record { page = leaf.page; held = held } ∷ []) []) (sym along.0)
        (again a b pages after (children a a met.held ++ way.0) front leaf held way.3 same.1 along.1 is tree),
  )

  -- the leaf is none of the pages above it
  apart : (pages : Pages) (front : List Met) (leaf : Met) → AllByRecursion (λ (met : Met). met.held.form ≡ form.Inner) front → AllByRecursion (λ (met : Met). IsTree kind size pages met.page met.held) front → IsTree kind size pages leaf.page leaf.held → leaf.held.form ≡ form.Leaf → AllByRecursion (λ (met : Met). eqb met.page leaf.page ≡ false) front
  apart pages [] leaf inner tree at is = tt
  apart pages (met ∷ front) leaf inner tree at is = (
    elim (eqb_tells met.page leaf.page) [
      | inr differ ↦ differ.0
      | inl same ↦
          let one : met.held ≡ leaf.held = holds_one (pages.at leaf.page) met.held leaf.held (subst (λ (p : ℕ). HoldsIndex (pages.at p) met.held) same.1 tree.0.0.holds) at.0.holds in
          absurd (clash (sym inner.0 ∙ ap (λ (held : IndexPage). held.form) one ∙ is))
    ],
    apart pages front leaf inner.1 tree.1 at is,
  )
    where
      clash : form.Inner ≡ form.Leaf → ⊥
      clash e = absurd cc

-- a leaf with other entries
abbrev pub put_on : Met → List Found → Met
put_on leaf entries = record { page = leaf.page; held = with_entries leaf.held entries }

written-twice : (pages : Pages) (page : ℕ) (a b : List ℕ) → with_bytes (with_bytes pages page a) page b ≡ with_bytes pages page b
written-twice pages page a b = λ i. record { at = λ other. bytes (eqb other page) (pages.at other) i; edited = λ other. marks (eqb other page) (pages.edited other) i }
  where
    bytes : (t : Bool) (x : List ℕ) → cond t b (cond t a x) ≡ cond t b x
    bytes true x = refl
    bytes false x = refl

    marks : (t u : Bool) → t || (t || u) ≡ t || u
    marks true u = refl
    marks false u = refl

-- The way of an entry to its leaf.
pub record OnLeaf (first : Found) (size root : ℕ) (pages : Pages) (front : List Met) (leaf : Met) : Type 0 where
  pub way : Meets first first (kind_of first.value) size pages (root ∷ []) (front ++ leaf ∷ []) []
  pub few : length (front ++ leaf ∷ []) ≤ size

-- entries that go there too
module _ (first : Found) (size root : ℕ) (front : List Met) where
  leaf-is : (pages : Pages) (leaf : Met) → OnLeaf first size root pages front leaf → IsTree (kind_of first.value) size pages leaf.page leaf.held × (leaf.held.form ≡ form.Leaf)
  leaf-is pages leaf on =
      let t = trees (kind_of first.value) size first pages (root ∷ []) front leaf on.way in
      (t.1, none-leaf (kind_of first.value) first leaf.held.form leaf.held.link leaf.held.entries t.1.1 t.2)

  all-same : (pages : Pages) (mets : List Met) → AllByRecursion (λ (met : Met). pages.at met.page ≡ pages.at met.page) mets
  all-same pages [] = tt
  all-same pages (met ∷ mets) = (refl, all-same pages mets)

  -- one of them has that way
  pub walked-there : (pages : Pages) (leaf : Met) (e : Found) → OnLeaf first size root pages front leaf → BelongsWith first front e → walked e e (kind_of e.value) size pages root (Ok (front ++ leaf ∷ []))
  walked-there pages leaf e on belongs =
      let is = leaf-is pages leaf on in
      subst (λ (kind : Kind). walked e e kind size pages root (Ok (front ++ leaf ∷ []))) (sym belongs.0)
      (again (kind_of first.value) size first e pages pages (root ∷ []) front leaf leaf.held on.way (all-same pages front) belongs.1 is.1 is.0, on.few)

  -- one that has room is stored there
  one-more : (pages : Pages) (leaf : Met) (e : Found) → OnLeaf first size root pages front leaf → leaf.held.link < 2 ^ 32 → BelongsWith first front e → AreWritable (entry_inserted e leaf.held.entries)
      → added size root e pages (Ok (tt, with_bytes pages leaf.page (page_bytes (with_entries leaf.held (entry_inserted e leaf.held.entries))))) × OnLeaf first size root (with_bytes pages leaf.page (page_bytes (with_entries leaf.held (entry_inserted e leaf.held.entries)))) front (put_on leaf (entry_inserted e leaf.held.entries))
  one-more pages leaf e on link belongs room = (
    (front ++ leaf ∷ [], walked-there pages leaf e on belongs, ((edits, pages), edited_is, refl)),
    record { way = way; few = omega (arith, on.few, length-append front (leaf ∷ []), length-append front (put_on leaf entries ∷ [])) },
  )
    where
      kind : Kind
      kind = kind_of first.value

      entries : List Found
      entries = entry_inserted e leaf.held.entries

      edits : List Met
      edits = put_on leaf entries ∷ []

      after : Pages
      after = with_bytes pages leaf.page (page_bytes (with_entries leaf.held entries))

      is : IsTree (kind_of first.value) size pages leaf.page leaf.held × (leaf.held.form ≡ form.Leaf)
      is = leaf-is pages leaf on

      climbed_is : climbed size root e pages (leaf ∷ []) (Ok (record { edits = put_on leaf (entry_inserted e leaf.held.entries) ∷ []; up = None }, pages))
      climbed_is = ((record { edits = []; up = Some e }, pages), refl, rw (le-leb (width entries) 1016 room.fits) refl)

      edited_is : edited size root e pages (front ++ leaf ∷ []) (Ok (put_on leaf (entry_inserted e leaf.held.entries) ∷ [], pages))
      edited_is = ((record { edits = edits; up = None }, pages), climbed-on size root e pages front (leaf ∷ []) edits pages climbed_is, refl)

      tree : IsTree (kind_of first.value) size (with_bytes pages leaf.page (page_bytes (with_entries leaf.held (entry_inserted e leaf.held.entries)))) leaf.page (with_entries leaf.held (entry_inserted e leaf.held.entries))
      tree = (
        at-own size pages leaf.page (with_entries leaf.held entries) is.0.0.low is.0.0.there link room,
        subst (λ (f : Form). IsOfTree kind f entries) (sym is.1) (inserted-all (λ (found : Found). kind_of found.value ≡ kind) e leaf.held.entries belongs.0 (subst (λ (f : Form). IsOfTree kind f leaf.held.entries) is.1 is.0.1)),
      )

      others : (mets : List Met) → AllByRecursion (λ (met : Met). eqb met.page leaf.page ≡ false) mets → AllByRecursion (λ (met : Met). (with_bytes pages leaf.page (page_bytes (with_entries leaf.held (entry_inserted e leaf.held.entries)))).at met.page ≡ pages.at met.page) mets
      others [] differ = tt
      others (met ∷ mets) differ = (written-other pages leaf.page met.page (page_bytes (with_entries leaf.held entries)) differ.0, others mets differ.1)

      itself : (mets : List Met) → AllByRecursion (GoesAlong first first) mets
      itself [] = tt
      itself (met ∷ mets) = (refl, itself mets)

      way : Meets first first (kind_of first.value) size (with_bytes pages leaf.page (page_bytes (with_entries leaf.held (entry_inserted e leaf.held.entries)))) (root ∷ []) (front ++ put_on leaf (entry_inserted e leaf.held.entries) ∷ []) []
      way =
          let inner = inner-front kind size first pages (root ∷ []) front leaf (omega arith) on.way in
          let there = trees kind size first pages (root ∷ []) front leaf on.way in
          again kind size first first pages after (root ∷ []) front leaf (with_entries leaf.held entries) on.way (others front (apart kind size pages front leaf inner there.0 there.1 is.1)) (itself front) is.1 tree

  -- all that have room are stored there
  pub record Stored (pages : Pages) (leaf : Met) (entries after : List Found) : Type 0 where
    pub in_order : in_turn (added size root) entries pages (Ok (tt, kept (length entries) (put_on leaf after) pages))
    pub on : OnLeaf first size root (kept (length entries) (put_on leaf after) pages) front (put_on leaf after)

  pub all-stored : (pages : Pages) (leaf : Met) (entries after : List Found) → OnLeaf first size root pages front leaf → leaf.held.link < 2 ^ 32 → AllByRecursion (BelongsWith first front) entries → IsFilled leaf.held.entries entries after → Stored pages leaf entries after
  all-stored pages leaf [] after on link belong fills = record {
    in_order = refl;
    on = subst (λ (l : List Found). OnLeaf first size root pages front (put_on leaf l)) (sym fills) on;
  }
  all-stored pages leaf (e ∷ entries) after on link belong fills =
      let more : List Found = entry_inserted e leaf.held.entries in
      let next : Pages = with_bytes pages leaf.page (page_bytes (with_entries leaf.held more)) in
      let one = one-more pages leaf e on link belong.0 fills.0 in
      let rest = all-stored next (put_on leaf more) entries after one.1 link belong.1 fills.1 in
      let same = ending entries fills.1 in
      record {
        in_order = ((tt, next), one.0, subst (λ (p : Pages). in_turn (added size root) entries next (Ok (tt, p))) same rest.in_order);
        on = subst (λ (p : Pages). OnLeaf first size root p front (put_on leaf after)) same rest.on;
      }
    where
      ending : (more : List Found) → IsFilled (entry_inserted e leaf.held.entries) more after → kept (length more) (put_on leaf after) (with_bytes pages leaf.page (page_bytes (with_entries leaf.held (entry_inserted e leaf.held.entries)))) ≡ with_bytes pages leaf.page (page_bytes (with_entries leaf.held after))
      ending [] is = ap (λ (l : List Found). with_bytes pages leaf.page (page_bytes (with_entries leaf.held l))) (sym is)
      ending (x ∷ more) is = written-twice pages leaf.page (page_bytes (with_entries leaf.held (entry_inserted e leaf.held.entries))) (page_bytes (with_entries leaf.held after))

-- the way that was walked
pub on-leaf : (a first : Found) (entries rest : List Found) (size root : ℕ) (pages : Pages) (way front : List Met) (leaf : Met) → a ≡ get_or entries 0 a → entries ≡ first ∷ rest → way ≡ front ++ leaf ∷ [] → walked a a (kind_of a.value) size pages root (Ok way) → OnLeaf first size root pages front leaf
on-leaf a first entries rest size root pages way front leaf is begin split h =
    let same : a ≡ first = is ∙ ap (λ (l : List Found). get_or l 0 a) begin in
    let there : walked first first (kind_of first.value) size pages root (Ok (front ++ leaf ∷ [])) =
    subst (λ (x : Found). walked x x (kind_of x.value) size pages root (Ok (front ++ leaf ∷ []))) same (subst (λ (w : List Met). walked a a (kind_of a.value) size pages root (Ok w)) split h) in
    record { way = there.0; few = there.1 }

-- a way that was walked has a page
pub way-some : (a : Found) (kind : Kind) (size root : ℕ) (pages : Pages) → walked a a kind size pages root (Ok []) → ⊥
way-some a kind size root pages h = absurd (omega (arith, ap length h.0))

-- a way that is refused
pub run-unwalked : (a : Found) (entries : List Found) (size root : ℕ) (pages : Pages) (why : Refusal) → 0 < length entries → a ≡ get_or entries 0 a → walked a a (kind_of a.value) size pages root (Err why) → in_turn (added size root) entries pages (Err why)
run-unwalked a [] size root pages why some is h = absurd (omega (arith, some))
run-unwalked a (x ∷ entries) size root pages why some is h = inl (inl (subst (λ (y : Found). walked y y (kind_of y.value) size pages root (Err why)) is h))

-- the pages that are known by another name
pub added_on-at : (m n : ℕ) (root : ℕ) (v w : List Met) (e : Found) (p q : Pages) (answer : Result (Unit {0} × Pages) Refusal) → m ≡ n → v ≡ w → p ≡ q → added_on m root v e p answer → added_on n root w e q answer
added_on-at m n root v w e p q answer i j k h =
    subst (λ (p : Pages). added_on n root w e p answer) k (subst (λ (w : List Met). added_on n root w e p answer) j (subst (λ (n : ℕ). added_on n root v e p answer) i h))

-- entries of which all are added to a leaf, or all but the last
module _ (size root : ℕ) (pages : Pages) (front : List Met) (leaf : Met) (entries : List Found) (filled : Filled) (fills : Fills leaf.held.entries front entries filled) (on : OnLeaf fills.first size root pages front leaf) (link : leaf.held.link < 2 ^ 32) where
  belong-front : AllByRecursion (BelongsWith fills.first front) (take filled.count entries)
  belong-front = elim fills.all [
    | inl same ↦ subst (λ (n : ℕ). AllByRecursion (BelongsWith fills.first front) (take n entries)) same fills.belong
    | inr more ↦
        let split : take filled.run entries ≡ take filled.count entries ++ take 1 (drop filled.count entries) = ap (λ (n : ℕ). take n entries) more ∙ take-add filled.count 1 entries in
        all-left (BelongsWith fills.first front) (take filled.count entries) (take 1 (drop filled.count entries)) (subst (AllByRecursion (BelongsWith fills.first front)) split fills.belong)
  ]

  stored-length : length (take filled.count entries) ≡ filled.count
  stored-length = length-take-le filled.count entries (elim fills.all [
    | inl same ↦ omega (arith, same, fills.among)
    | inr more ↦ omega (arith, more, fills.among)
  ])

  abbrev behind : Pages
  behind = kept filled.count (put_on leaf filled.held) pages

  all-there : Stored fills.first size root front pages leaf (take filled.count entries) filled.held
  all-there = all-stored fills.first size root front pages leaf (take filled.count entries) filled.held on link belong-front fills.fills

  pub front-added : in_turn (added size root) (take filled.count entries) pages (Ok (tt, kept filled.count (put_on leaf filled.held) pages))
  front-added = subst (λ (n : ℕ). in_turn (added size root) (take filled.count entries) pages (Ok (tt, kept n (put_on leaf filled.held) pages))) stored-length all-there.in_order

  pub run-whole : filled.count ≡ filled.run → in_turn (added size root) (take filled.run entries) pages (Ok (tt, kept filled.count (put_on leaf filled.held) pages))
  run-whole same = subst (λ (n : ℕ). in_turn (added size root) (take n entries) pages (Ok (tt, behind))) same front-added

  -- the last one
  last-added : (e : Found) → filled.run ≡ filled.count + 1 → e ≡ get_or entries filled.count e → (answer : Result (Unit {0} × Pages) Refusal) → added_on size root (front ++ put_on leaf filled.held ∷ []) e (kept filled.count (put_on leaf filled.held) pages) answer → added size root e (kept filled.count (put_on leaf filled.held) pages) answer
  last-added e more is answer h = go answer h
    where
      there : walked e e (kind_of e.value) size (kept filled.count (put_on leaf filled.held) pages) root (Ok (front ++ put_on leaf filled.held ∷ []))
      there =
          let split : take filled.run entries ≡ take filled.count entries ++ e ∷ [] = ap (λ (n : ℕ). take n entries) more ∙ take_more entries filled.count e (omega (arith, more, fills.among)) ∙ ap (λ (x : Found). take filled.count entries ++ x ∷ []) (sym is) in
          let belongs = all-right (BelongsWith fills.first front) (take filled.count entries) (e ∷ []) (subst (AllByRecursion (BelongsWith fills.first front)) split fills.belong) in
          walked-there fills.first size root front behind (put_on leaf filled.held) e (subst (λ (n : ℕ). OnLeaf fills.first size root (kept n (put_on leaf filled.held) pages) front (put_on leaf filled.held)) stored-length all-there.on) belongs.0

      go : (answer : Result (Unit {0} × Pages) Refusal) → added_on size root (front ++ put_on leaf filled.held ∷ []) e (kept filled.count (put_on leaf filled.held) pages) answer → added size root e (kept filled.count (put_on leaf filled.held) pages) answer
      go (Ok y) k = (front ++ put_on leaf filled.held ∷ [], there, k)
      go (Err why) k = inr (front ++ put_on leaf filled.held ∷ [], there, k)

  run-more : (filled.count ≡ filled.run → ⊥) → filled.run ≡ filled.count + 1
  run-more some = elim fills.all [ inl same ↦ absurd (some (sym same)) | inr more ↦ more ]

  pub run-added : (e : Found) (after : Pages) → (filled.count ≡ filled.run → ⊥) → e ≡ get_or entries filled.count e → added_on size root (front ++ put_on leaf filled.held ∷ []) e (kept filled.count (put_on leaf filled.held) pages) (Ok (tt, after)) → in_turn (added size root) (take filled.run entries) pages (Ok (tt, after))
  run-added e after some is h =
      let more = run-more some in
      subst (λ (n : ℕ). in_turn (added size root) (take n entries) pages (Ok (tt, after))) (sym more)
      (in_turn-next (added size root) entries filled.count e tt pages behind after (omega (arith, more, fills.among)) is front-added (last-added e more is (Ok (tt, after)) h))

  pub run-ended : (e : Found) (why : Refusal) → (filled.count ≡ filled.run → ⊥) → e ≡ get_or entries filled.count e → added_on size root (front ++ put_on leaf filled.held ∷ []) e (kept filled.count (put_on leaf filled.held) pages) (Err why) → in_turn (added size root) entries pages (Err why)
  run-ended e why some is h =
      let more = run-more some in
      in_turn-ended (added size root) entries filled.count e pages behind why (omega (arith, more, fills.among)) is front-added (last-added e more is (Err why) h)
