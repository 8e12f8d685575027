-- A tree as the keys and entries of its pages.
use Rattle.std.specs.Prelude.{◌≡◌, ◌<◌, ◌+◌, ◌-◌, ◌^◌, ◌++◌, ℕ, zero, suc, false}
use Rattle.std.specs.Prelude.{List, [], ◌∷◌, take, drop, map, nat_eq, if◌then◌else◌}
use Rattle.std.specs.List.{flat_map, AllByRecursion, IsDistinct}
use Rattle.std.specs.Ordering.{is_lt}
use Rattle.std.specs.declared.cmp.Ordering.TheVariants.{Less}
use Rattle.values.specs.declared.value.Value.{Value}
use Rattle.pager.specs.Index.{found_cmp}
use Rattle.pager.specs.Pages.{Pages}
use Rattle.pager.specs.declared.index.Found.{Found}
use Rattle.index_page.specs.Entries.{entry_inserted, taken_out}
use Rattle.index_page.specs.IndexPage.{AreWritable, have_room, half}
use Rattle.index_page.specs.Paging.{IsIndexAt}
use Rattle.index_page.specs.declared.page.Form.TheVariants as form
use Rattle.index_page.specs.declared.page.IndexPage.{IndexPage}
use Rattle.tree_index.specs.declared.walk.Met.{Met}

-- what an inner page tells two children apart by
pub record Key : Type 0 where
  pub value : Value
  pub number : ℕ

abbrev pub key_of : Found → Key
key_of found = record { value = found.value; number = found.number }

-- a key as an entry that names a page
abbrev pub named : Key → ℕ → Found
named key page = record { value = key.value; number = key.number; page = page }

-- one thing and more behind it, with a key before each of those
abbrev pub Row : Type 0 → Type 0
Row X = X × List (Key × X)

-- a leaf's entries, or so many levels above the leaves the children of an inner page
abbrev pub Tree : ℕ → Type 0
Tree zero = List Found
Tree (suc levels) = Row (Tree levels)

pub record Shape : Type 0 where
  pub levels : ℕ
  pub tree : Tree levels

abbrev pub empty : Shape
empty = record { levels = 0; tree = [] }

-- what stands in a tree, from its first entry on
pub data Mark : Type 0 where
  at_key : Key → Mark
  at_entry : Found → Mark

abbrev pub row_marks : {X : Type 0} → (X → List Mark) → Row X → List Mark
row_marks {X} marks row = marks row.0 ++ flat_map (λ (b : Key × X). at_key b.0 ∷ marks b.1) row.1

abbrev pub marks : (levels : ℕ) → Tree levels → List Mark
marks zero entries = map at_entry entries
marks (suc levels) row = row_marks (marks levels) row

abbrev pub entries_in : List Mark → List Found
entries_in [] = []
entries_in (at_key k ∷ rest) = entries_in rest
entries_in (at_entry found ∷ rest) = found ∷ entries_in rest

abbrev pub entries_of : Shape → List Found
entries_of shape = entries_in (marks shape.levels shape.tree)

-- keys and entries rise; an entry may be as high as the key before it
abbrev pub Precedes : Mark → Mark → Type 0
Precedes (at_key j) (at_key k) = found_cmp (named j 0) (named k 0) ≡ Less
Precedes (at_key k) (at_entry found) = is_lt (found_cmp found (named k 0)) ≡ false
Precedes (at_entry found) (at_key k) = found_cmp found (named k 0) ≡ Less
Precedes (at_entry found) (at_entry other) = found_cmp found other ≡ Less

abbrev pub IsRising : List Mark → Type 0
IsRising [] = Unit {0}
IsRising (mark ∷ rest) = AllByRecursion (Precedes mark) rest × IsRising rest

-- the keys of a row as entries
abbrev pub row_keys : {X : Type 0} → List (Key × X) → List Found
row_keys {X} = map (λ (b : Key × X). named b.0 0)

-- each page can be written
abbrev pub Fits : (levels : ℕ) → Tree levels → Type 0
Fits zero entries = AreWritable entries
Fits (suc levels) row =
    AreWritable (row_keys row.1) × Fits levels row.0
    × AllByRecursion (λ (b : Key × Tree levels). Fits levels b.1) row.1

-- what the pages of a tree are
pub record IsShape (shape : Shape) : Type 0 where
  pub rises : IsRising (marks shape.levels shape.tree)
  pub fits : Fits shape.levels shape.tree

-- a row with the child changed in which an entry belongs: the last whose key is not above it, or else the first
abbrev pub changed : {X : Type 0} → (X → Row X) → Found → X → List (Key × X) → Row X
changed change entry first [] = change first
changed change entry first (b ∷ rest) =
    if is_lt (found_cmp entry (named b.0 0)) then ((change first).0, (change first).1 ++ b ∷ rest)
    else (first, (b.0, (changed change entry b.1 rest).0) ∷ (changed change entry b.1 rest).1)

-- entries of a leaf, and of another one behind it where they have no room on one
abbrev pub next_leaf : List Found → List (Key × List Found)
next_leaf [] = []
next_leaf (first ∷ back) = (key_of first, first ∷ back) ∷ []

abbrev pub leaves : List Found → Row (List Found)
leaves entries =
    if have_room entries then (entries, []) else (take (half entries) entries, next_leaf (drop (half entries) entries))

-- children of an inner page, and of another one behind it where their keys have no room on one
abbrev pub next_inner : {X : Type 0} → List (Key × X) → List (Key × Row X)
next_inner [] = []
next_inner (b ∷ back) = (b.0, (b.1, back)) ∷ []

abbrev pub inners : {X : Type 0} → Row X → Row (Row X)
inners row =
    if have_room (row_keys row.1) then (row, [])
    else ((row.0, take (half (row_keys row.1)) row.1), next_inner (drop (half (row_keys row.1)) row.1))

-- a tree with one more entry, and the tree behind it where its first page has no room
abbrev pub grown : Found → (levels : ℕ) → Tree levels → Row (Tree levels)
grown entry zero entries = leaves (entry_inserted entry entries)
grown entry (suc levels) row = inners (changed (grown entry levels) entry row.0 row.1)

-- one tree as it is, and more under one page
abbrev pub rooted : (levels : ℕ) → Tree levels → List (Key × Tree levels) → Shape
rooted levels first [] = record { levels = levels; tree = first }
rooted levels first (b ∷ rest) = record { levels = suc levels; tree = (first, b ∷ rest) }

abbrev pub put : Found → Shape → Shape
put entry shape =
    rooted shape.levels (grown entry shape.levels shape.tree).0 (grown entry shape.levels shape.tree).1

-- a tree without an entry
abbrev pub shrunk : Found → (levels : ℕ) → Tree levels → Tree levels
shrunk entry zero entries = taken_out entry entries
shrunk entry (suc levels) row = changed (λ tree. (shrunk entry levels tree, [])) entry row.0 row.1

abbrev pub without : Found → Shape → Shape
without entry shape = record { levels = shape.levels; tree = shrunk entry shape.levels shape.tree }

-- how many pages there are
abbrev pub count_behind : {X : Type 0} → (X → ℕ) → List (Key × X) → ℕ
count_behind count [] = 0
count_behind count (b ∷ rest) = count b.1 + count_behind count rest

abbrev pub page_count : (levels : ℕ) → Tree levels → ℕ
page_count zero entries = 1
page_count (suc levels) row = 1 + (page_count levels row.0 + count_behind (page_count levels) row.1)

-- how many more there are with one more entry
abbrev pub opens : Value → ℕ → Shape → ℕ
opens value number shape =
    let after = put (record { value = value; number = number; page = 0 }) shape in
    page_count after.levels after.tree - page_count shape.levels shape.tree

-- a tree with the numbers of its pages
abbrev pub Body : ℕ → Type 0
Body zero = List Found
Body (suc levels) = Row (ℕ × Body levels)

abbrev pub bare : (levels : ℕ) → Body levels → Tree levels
bare zero entries = entries
bare (suc levels) row =
    (bare levels row.0.1, map (λ (b : Key × (ℕ × Body levels)). (b.0, bare levels b.1.1)) row.1)

-- what its first page holds
abbrev pub content : (levels : ℕ) → Body levels → IndexPage
content zero entries = record { form = form.Leaf; link = 0; entries = entries }
content (suc levels) row = record {
  form = form.Inner;
  link = row.0.0;
  entries = map (λ (b : Key × (ℕ × Body levels)). named b.0 b.1.0) row.1;
}

-- all its pages
abbrev pub row_nodes : {X : Type 0} → (X → List Met) → Row X → List Met
row_nodes {X} nodes row = nodes row.0 ++ flat_map (λ (b : Key × X). nodes b.1) row.1

abbrev pub nodes : (levels : ℕ) → ℕ × Body levels → List Met
nodes zero tree = record { page = tree.0; held = content 0 tree.1 } ∷ []
nodes (suc levels) tree =
    record { page = tree.0; held = content (suc levels) tree.1 } ∷ row_nodes (nodes levels) tree.1

abbrev pub numbers : List Met → List ℕ
numbers = map (λ (met : Met). met.page)

-- these pages are a tree under the root page
pub record Lists (size : ℕ) (pages : Pages) (root : ℕ) (shape : Shape) (held : List ℕ) : Type 0 where
  pub is_shape : IsShape shape
  pub body : Body shape.levels
  pub bare_is : bare shape.levels body ≡ shape.tree
  pub held_is : numbers (nodes shape.levels (root, body)) ≡ held
  pub at : AllByRecursion (λ (met : Met). IsIndexAt size pages met.page met.held) (nodes shape.levels (root, body))
  pub narrow : AllByRecursion (λ page. page < 2 ^ 32) held
  pub distinct : IsDistinct nat_eq held
