-- The entries of an index, and what its calls do to the pages that hold them.
use Rattle.std.specs.Prelude.{◌≡◌, ◌⊎◌, ◌<◌, ◌≤◌, ◌^◌, ◌++◌, ◌==◌, ◌&&◌, not, ℕ}
use Rattle.std.specs.Prelude.{Bool, List, [], ◌∷◌, nat_eq, Result, Ok, Err}
use Rattle.std.specs.Int.{w64}
use Rattle.std.specs.Int.RustNames.{FitsSigned}
use Rattle.std.specs.List.{AllByRecursion, Contains, IsDistinct, filter}
use Rattle.std.specs.List.Sorted.{IsPermutation, IsStrictlySortedBy}
use Rattle.std.specs.Ordering.{is_eq, is_gt, is_lt, nat_cmp, ordering_then}
use Rattle.std.specs.declared.cmp.Ordering.{Ordering}
use Rattle.retro_base.specs.declared.refusal.Refusal.{Refusal}
use Rattle.values.specs.Text.{IsText}
use Rattle.values.specs.Value.{kind_of, value_cmp}
use Rattle.values.specs.declared.value.Kind.{Kind}
use Rattle.values.specs.declared.value.Value.{Value}
use Rattle.values.specs.declared.value.Value.TheVariants.{Int, Text}
use Rattle.pager.specs.Pages.{Pages}
use Rattle.pager.specs.Root.{all_taken, taken}
use Rattle.pager.specs.declared.index.Found.{Found}

-- what an indexed value may be
abbrev pub IsIndexed : Value → Type 0
IsIndexed (Int n) = FitsSigned w64 n
IsIndexed (Text t) = IsText t

-- what an entry may be
pub record IsFound (entry : Found) : Type 0 where
  pub value : IsIndexed entry.value
  pub number : entry.number < 2 ^ 64
  pub page : entry.page < 2 ^ 32

-- entries are ordered by value, and then by row number
abbrev pub found_cmp : Found → Found → Ordering
found_cmp a b = ordering_then (value_cmp a.value b.value) (nat_cmp a.number b.number)

-- entries in rising order: no two of one value and row number
abbrev pub IsInOrder : List Found → Type 0
IsInOrder = IsStrictlySortedBy found_cmp

-- entries whose values are of one kind
abbrev pub AreOfKind : Kind → List Found → Type 0
AreOfKind kind = AllByRecursion (λ (found : Found). kind_of found.value ≡ kind)

-- the entries with this one, behind those below it and before those above it; one of its value and row number gives way
-- to it
abbrev pub with_found : Found → List Found → List Found
with_found entry entries =
    filter (λ (found : Found). is_lt (found_cmp found entry)) entries
    ++ entry ∷ filter (λ (found : Found). is_gt (found_cmp found entry)) entries

-- whether two entries are one: of one value, row number and page
abbrev pub same_found : Found → Found → Bool
same_found a b = is_eq (found_cmp a b) && (a.page == b.page)

-- the entries without this one
abbrev pub without_found : Found → List Found → List Found
without_found entry = filter (λ (found : Found). not (same_found found entry))

-- the entries whose value is at least `low` and at most `high`
abbrev pub between : Value → Value → List Found → List Found
between low high =
    filter (λ (found : Found). not (is_lt (value_cmp found.value low)) && not (is_gt (value_cmp found.value high)))

-- every page but these is as before
abbrev pub EditsOnly : List ℕ → Pages → Pages → Type 0
EditsOnly list before after =
    (page : ℕ) → Contains list page ⊎ ((after.at page ≡ before.at page) × (after.edited page ≡ before.edited page))

-- no page that can be taken is one of these, and none is taken twice
abbrev pub IsApart : ℕ → Pages → List ℕ → Type 0
IsApart size pages held =
    (count : ℕ) (taken : List ℕ) (after : Pages)
    → all_taken size count pages ≡ Ok (taken, after) → IsDistinct nat_eq (held ++ taken)

-- What the shapes of an index are: `entries` are in order, `put` adds one, `without` takes one out, and `opens` tells
-- how many pages an entry of that value and row number opens: none where it is there.
pub record IsShaped {Shape : Type 0} (IsShape : Shape → Type 0) (empty : Shape) (entries : Shape → List Found)
    (put without : Found → Shape → Shape) (opens : Value → ℕ → Shape → ℕ) : Type 0 where
  pub in_order : (shape : Shape) → IsShape shape → IsInOrder (entries shape)
  pub of_none : IsShape empty × (entries empty ≡ [])
  pub of_put : (entry : Found) (shape : Shape) → IsShape shape → IsFound entry
      → AreOfKind (kind_of entry.value) (entries shape)
      → IsShape (put entry shape) × (entries (put entry shape) ≡ with_found entry (entries shape))
  pub of_without : (entry : Found) (shape : Shape) → IsShape shape
      → IsShape (without entry shape) × (entries (without entry shape) ≡ without_found entry (entries shape))
  pub opens_none : (entry : Found) (shape : Shape) → IsShape shape → Contains (entries shape) entry
      → opens entry.value entry.number shape ≡ 0

-- What it is that pages hold a shape, from the root page on: they hold one, on pages of the store, no page twice, and
-- all else is left out of it.
pub record IsListed {Shape : Type 0} (IsShape : Shape → Type 0)
    (lists : ℕ → Pages → ℕ → Shape → List ℕ → Type 0) : Type 0 where
  pub shape : (size root : ℕ) (pages : Pages) (shape : Shape) (held : List ℕ) → lists size pages root shape held
      → IsShape shape
  pub one : (size root : ℕ) (pages : Pages) (shape other : Shape) (held others : List ℕ)
      → lists size pages root shape held → lists size pages root other others → (shape ≡ other) × (held ≡ others)
  pub rooted : (size root : ℕ) (pages : Pages) (shape : Shape) (held : List ℕ) → lists size pages root shape held
      → Contains held root
  pub inside : (size root : ℕ) (pages : Pages) (shape : Shape) (held : List ℕ)
      → lists size pages root shape held → AllByRecursion (λ page. (2 ≤ page) × (page < size)) held
  pub distinct : (size root : ℕ) (pages : Pages) (shape : Shape) (held : List ℕ)
      → lists size pages root shape held → IsDistinct nat_eq held
  pub frame : (size root : ℕ) (pages after : Pages) (shape : Shape) (held : List ℕ)
      → lists size pages root shape held → ((page : ℕ) → Contains held page → after.at page ≡ pages.at page)
      → lists size after root shape held

-- an index is made on the page that was next to be taken, and refused exactly where none can be taken
abbrev pub MakesIndex : {Shape : Type 0} → (ℕ → Pages → ℕ → Shape → List ℕ → Type 0) → Shape → ℕ → Pages
    → Result (ℕ × Pages) Refusal → Type 0
MakesIndex lists empty size pages (Ok answer) =
    (before : Pages) × (taken size pages ≡ Ok (answer.0, before)) × EditsOnly (answer.0 ∷ []) before answer.1
    × lists size answer.1 answer.0 empty (answer.0 ∷ [])
MakesIndex lists empty size pages (Err why) = taken size pages ≡ Err why

-- an entry is added on the pages that are held and on so many that are taken, and refused exactly where so many cannot
-- be taken
abbrev pub AddsFound : (Pages → List ℕ → Type 0) → ℕ → ℕ → List ℕ → Pages → Result (Unit {0} × Pages) Refusal → Type 0
AddsFound lists size opens held pages (Ok answer) =
    (opened : List ℕ) × (before : Pages) × (all_taken size opens pages ≡ Ok (opened, before))
    × EditsOnly (held ++ opened) before answer.1 × (behind : List ℕ) × IsPermutation (held ++ opened) behind
    × lists answer.1 behind
AddsFound lists size opens held pages (Err why) = all_taken size opens pages ≡ Err why

-- an entry is taken out on the pages that are held; that is never refused
abbrev pub RemovesFound : (Pages → Type 0) → List ℕ → Pages → Result (Unit {0} × Pages) Refusal → Type 0
RemovesFound lists held pages (Ok answer) = EditsOnly held pages answer.1 × lists answer.1
RemovesFound lists held pages (Err why) = ⊥

-- What the calls of an index do to pages that hold a shape.
pub record IsIndexing {Shape : Type 0} (empty : Shape) (entries : Shape → List Found)
    (put without : Found → Shape → Shape) (opens : Value → ℕ → Shape → ℕ)
    (lists : ℕ → Pages → ℕ → Shape → List ℕ → Type 0)
    (made : ℕ → Pages → Result (ℕ × Pages) Refusal → Type 0)
    (added removed : ℕ → ℕ → Found → Pages → Result (Unit {0} × Pages) Refusal → Type 0)
    (ranged : ℕ → ℕ → Value → Value → Pages → Result (List Found) Refusal → Type 0) : Type 0 where
  pub make : (size : ℕ) (pages : Pages) (answer : Result (ℕ × Pages) Refusal)
      → made size pages answer → MakesIndex lists empty size pages answer
  pub add : (size root : ℕ) (entry : Found) (pages : Pages) (shape : Shape) (held : List ℕ)
      (answer : Result (Unit {0} × Pages) Refusal)
      → lists size pages root shape held → IsApart size pages held → IsFound entry
      → AreOfKind (kind_of entry.value) (entries shape)
      → added size root entry pages answer
      → AddsFound (λ after behind. lists size after root (put entry shape) behind) size
      (opens entry.value entry.number shape) held pages answer
  pub remove : (size root : ℕ) (entry : Found) (pages : Pages) (shape : Shape) (held : List ℕ)
      (answer : Result (Unit {0} × Pages) Refusal)
      → lists size pages root shape held → AreOfKind (kind_of entry.value) (entries shape)
      → removed size root entry pages answer
      → RemovesFound (λ after. lists size after root (without entry shape) held) held pages answer
  pub range : (size root : ℕ) (low high : Value) (pages : Pages) (shape : Shape) (held : List ℕ)
      (answer : Result (List Found) Refusal)
      → lists size pages root shape held → AreOfKind (kind_of low) (entries shape) → kind_of high ≡ kind_of low
      → ranged size root low high pages answer → answer ≡ Ok (between low high (entries shape))
