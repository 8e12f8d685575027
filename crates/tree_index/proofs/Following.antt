-- The entries that go the way of another, and what becomes of their leaf.
use Rattle.std.proofs.Common.{◌≡◌, ◌∙◌, ◌<◌, ◌≤◌, ◌+◌, ◌++◌, ℕ, Bool, true, false, cond, List, [], ◌∷◌, length, get_or, take, Option, Some, None, refl, sym, ap, subst, arith}
use Rattle.std.specs.Cmp.{IsStrictWeakOrder}
use Rattle.std.specs.List.{AllByRecursion}
use Rattle.std.specs.Ordering.{is_lt}
use Rattle.std.proofs.lemmas.List.{take_more}
use Rattle.std.proofs.lemmas.List.Sorted.{ranks_by}
use Rattle.pager.proofs.Orders.{found_total}
use Rattle.pager.specs.Index.{IsFound, found_cmp}
use Rattle.pager.specs.declared.index.Found.{Found}
use Rattle.index_page.proofs.Ordered.{inserted-all, rises}
use Rattle.index_page.proofs.Packing.{width-cons}
use Rattle.index_page.proofs.Placing.{inserted-width}
use Rattle.index_page.specs.Entries.{entry_inserted}
use Rattle.index_page.specs.IndexPage.{AreWritable, entry_code, width}
use Rattle.index_page.specs.declared.page.Form.{Form}
use Rattle.index_page.specs.declared.page.Form.TheVariants as form
use Rattle.tree_index.specs.Filling.{BelongsWith, Follows, GoesAlong, IsBound, IsFilled, first_above, is_under, lower}
use Rattle.tree_index.specs.Marking.{all-join, lt-from, not-itself, under}
use Rattle.tree_index.specs.Walk.{children_of, chosen}
use Rattle.tree_index.specs.declared.walk.Met.{Met}

-- what is not below a second that is not below a third is not below the third
order : IsStrictWeakOrder (λ (x y : Found). is_lt (found_cmp x y))
order = ranks_by found_total (λ (found : Found). found)

-- below the lower of two bounds
lower-left : (a b : Option Found) (e : Found) → is_under (lower a b) e ≡ true → is_under a e ≡ true
lower-left None b e h = refl
lower-left (Some a) None e h = h
lower-left (Some a) (Some b) e h = go (is_lt (found_cmp b a)) refl h
  where
    go : (t : Bool) → is_lt (found_cmp b a) ≡ t → is_lt (found_cmp e (cond t b a)) ≡ true → is_lt (found_cmp e a) ≡ true
    go true less k = ap is_lt (rises e b a (lt-from (found_cmp e b) k) (lt-from (found_cmp b a) less))
    go false less k = k

lower-right : (a b : Option Found) (e : Found) → is_under (lower a b) e ≡ true → is_under b e ≡ true
lower-right None b e h = h
lower-right (Some a) None e h = refl
lower-right (Some a) (Some b) e h = go (is_lt (found_cmp b a)) refl h
  where
    go : (t : Bool) → is_lt (found_cmp b a) ≡ t → is_lt (found_cmp e (cond t b a)) ≡ true → is_lt (found_cmp e b) ≡ true
    go true less k = k
    go false less k = ap is_lt (under e a b (lt-from (found_cmp e a) k) less)

lower-both : (a b : Option Found) (e : Found) → is_under a e ≡ true → is_under b e ≡ true → is_under (lower a b) e ≡ true
lower-both None b e one two = two
lower-both (Some a) None e one two = one
lower-both (Some a) (Some b) e one two = go (is_lt (found_cmp b a))
  where
    go : (t : Bool) → is_lt (found_cmp e (cond t b a)) ≡ true
    go true = two
    go false = one

-- an entry is below the first key that is above it
above-under : (first : Found) (keys : List Found) → is_under (first_above first keys) first ≡ true
above-under first [] = refl
above-under first (key ∷ keys) = go (is_lt (found_cmp first key)) refl (above-under first keys)
  where
    go : (t : Bool) → is_lt (found_cmp first key) ≡ t → is_under (first_above first keys) first ≡ true → is_under (cond t (Some key) (first_above first keys)) first ≡ true
    go true less more = less
    go false less more = more

-- what is not below an entry, and below the first key above it, goes to the same child
same-child : (first e : Found) (child : ℕ) (keys : List Found) → is_lt (found_cmp e first) ≡ false → is_under (first_above first keys) e ≡ true → chosen e e child keys ≡ chosen first first child keys
same-child first e child [] behind below = refl
same-child first e child (key ∷ keys) behind below = go (is_lt (found_cmp first key)) refl below (same-child first e key.page keys behind)
  where
    with : Bool → List ℕ → List ℕ
    with t rest = cond t (child ∷ []) [] ++ cond t [] rest

    go : (t : Bool) → is_lt (found_cmp first key) ≡ t → is_under (cond t (Some key) (first_above first keys)) e ≡ true → (is_under (first_above first keys) e ≡ true → chosen e e key.page keys ≡ chosen first first key.page keys) → with (is_lt (found_cmp e key)) (chosen e e key.page keys) ≡ with t (chosen first first key.page keys)
    go true less k more = ap (λ (t : Bool). with t (chosen e e key.page keys)) k
    go false less k more = ap (λ (t : Bool). with t (chosen e e key.page keys)) (order.chain e first key behind less) ∙ more k

same-children : (first e : Found) (f : Form) (link : ℕ) (keys : List Found) → is_lt (found_cmp e first) ≡ false → is_under (first_above first keys) e ≡ true → children_of e e f link keys ≡ children_of first first f link keys
same-children first e form.Run link keys behind below = refl
same-children first e form.Inner link keys behind below = same-child first e link keys behind below
same-children first e form.Leaf link keys behind below = refl

-- on a page that is none above others there is one way
no-children : (first e : Found) (f : Form) (link : ℕ) (keys : List Found) → (f ≡ form.Inner → ⊥) → children_of e e f link keys ≡ children_of first first f link keys
no-children first e form.Run link keys other = refl
no-children first e form.Inner link keys other = absurd (other refl)
no-children first e form.Leaf link keys other = refl

-- one page more on the way
pub bound-lower : (first : Found) (way : List Met) (i : ℕ) (met : Met) (bound : Option Found) → i < length way → met ≡ get_or way i met → IsBound first (take i way) bound → IsBound first (take (i + 1) way) (lower bound (first_above first met.held.entries))
bound-lower first way i met bound lt is so_far = record {
  above = lower-both bound (first_above first met.held.entries) first so_far.above (above-under first met.held.entries);
  leads = λ e behind below.
      rw (take_more way i met lt, ← is)
      (all-join (GoesAlong first e) (take i way) (met ∷ [])
      (so_far.leads e behind (lower-left bound (first_above first met.held.entries) e below))
      (same-children first e met.held.form met.held.link met.held.entries behind (lower-right bound (first_above first met.held.entries) e below), tt));
}

pub bound-stays : (first : Found) (way : List Met) (i : ℕ) (met : Met) (bound : Option Found) → i < length way → met ≡ get_or way i met → (met.held.form ≡ form.Inner → ⊥) → IsBound first (take i way) bound → IsBound first (take (i + 1) way) bound
bound-stays first way i met bound lt is other so_far = record {
  above = so_far.above;
  leads = λ e behind below.
      rw (take_more way i met lt, ← is)
      (all-join (GoesAlong first e) (take i way) (met ∷ []) (so_far.leads e behind below)
      (no-children first e met.held.form met.held.link met.held.entries other, tt));
}

-- the first follows itself
pub follows-itself : (first : Found) (way : List Met) (bound : Option Found) → IsBound first way bound → Follows first bound first
follows-itself first way bound is = record { kind = refl; behind = not-itself first; under = is.above }

pub follows-belongs : (first e : Found) (way : List Met) (bound : Option Found) → IsBound first way bound → Follows first bound e → BelongsWith first way e
follows-belongs first e way bound is one = (one.kind, is.leads e one.behind one.under)

-- one entry more
pub filled-more : (held : List Found) (entries : List Found) (e : Found) (after : List Found) → IsFilled held entries after → AreWritable (entry_inserted e after) → IsFilled held (entries ++ e ∷ []) (entry_inserted e after)
filled-more held [] e after is room = (subst (λ (l : List Found). AreWritable (entry_inserted e l)) is room, ap (entry_inserted e) is)
filled-more held (x ∷ entries) e after is room = (is.0, filled-more (entry_inserted x held) entries e after is.1 room)

-- what holds of one item more
pub all-next : {X : Type 0} (P : X → Type 0) (xs : List X) (i : ℕ) (x : X) → i < length xs → x ≡ get_or xs i x → AllByRecursion P (take i xs) → P x → AllByRecursion P (take (i + 1) xs)
all-next P xs i x lt is all one = rw (take_more xs i x lt, ← is) (all-join P (take i xs) (x ∷ []) all (one, tt))

pub filled-next : (held entries : List Found) (i : ℕ) (e : Found) (after : List Found) → i < length entries → e ≡ get_or entries i e → IsFilled held (take i entries) after → AreWritable (entry_inserted e after) → IsFilled held (take (i + 1) entries) (entry_inserted e after)
filled-next held entries i e after lt is so_far room = rw (take_more entries i e lt, ← is) (filled-more held (take i entries) e after so_far room)

-- an entry has room where its width fits beside the others
pub room-for : (e : Found) (held : List Found) (used : ℕ) → AreWritable held → IsFound e → width held ≤ used → used + width (e ∷ []) ≤ 1016 → AreWritable (entry_inserted e held) × (width (entry_inserted e held) ≤ used + width (e ∷ []))
room-for e held used is found below fits =
    let one : width (e ∷ []) ≡ length (entry_code e) + 0 = width-cons e [] in
    let most : width (entry_inserted e held) ≤ used + width (e ∷ []) = omega (arith, inserted-width e held, one) in
    (record { lawful = inserted-all IsFound e held found is.lawful; fits = omega (arith, most) }, most)

-- what was filled can be written
pub filled-writable : (held entries after : List Found) → AreWritable held → IsFilled held entries after → AreWritable after
filled-writable held [] after is fills = subst AreWritable (sym fills) is
filled-writable held (e ∷ entries) after is fills = filled-writable (entry_inserted e held) entries after fills.0 fills.1
