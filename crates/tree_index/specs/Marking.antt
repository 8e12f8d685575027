-- Keys and entries that rise: proofs.
use Rattle.std.proofs.Common.{◌≡◌, ◌++◌, ◌∙◌, Bool, true, false, cond, eqb, List}
use Rattle.std.proofs.Common.{[], ◌∷◌, map, refl, sym, ap, subst, append_assoc}
use Rattle.std.specs.List.{AllByRecursion}
use Rattle.std.specs.Ordering.{is_lt, ordering_reverse}
use Rattle.std.specs.declared.cmp.Ordering.{Ordering}
use Rattle.std.specs.declared.cmp.Ordering.TheVariants.{Less, Equal, Greater}
use Rattle.std.proofs.lemmas.Cmp.{tied_itself}
use Rattle.std.proofs.lemmas.List.{map-append}
use Rattle.pager.specs.Index.{found_cmp}
use Rattle.pager.specs.declared.index.Found.{Found}
use Rattle.index_page.specs.Entries.{entry_inserted, taken_out}
use Rattle.index_page.proofs.Ordered.{rises}
use Rattle.tree_index.specs.Tree.{IsRising, Key, Mark, Precedes, at_entry, at_key, entries_in, key_of, named}
use Rattle.pager.proofs.Orders.{found_total}

-- what holds of each of some, and of others
pub all-join : {X : Type 0} (P : X → Type 0) (a b : List X) → AllByRecursion P a → AllByRecursion P b →
    AllByRecursion P (a ++ b)
all-join P [] b all also = also
all-join P (x ∷ a) b all also = (all.0, all-join P a b all.1 also)

pub all-left : {X : Type 0} (P : X → Type 0) (a b : List X) → AllByRecursion P (a ++ b) → AllByRecursion P a
all-left P [] b all = tt
all-left P (x ∷ a) b all = (all.0, all-left P a b all.1)

pub all-right : {X : Type 0} (P : X → Type 0) (a b : List X) → AllByRecursion P (a ++ b) → AllByRecursion P b
all-right P [] b all = all
all-right P (x ∷ a) b all = all-right P a b all.1

pub all-more : {X : Type 0} (P Q : X → Type 0) (a : List X) → ((x : X) → P x → Q x) → AllByRecursion P a →
    AllByRecursion Q a
all-more P Q [] go all = tt
all-more P Q (x ∷ a) go all = (go x all.0, all-more P Q a go all.1)

pub shift : {X : Type 0} (a f g b : List X) (k : X) → a ++ ((f ++ k ∷ g) ++ b) ≡ (a ++ (f ++ k ∷ [])) ++ (g ++ b)
shift a f g b k = simp append_assoc

pub shift-one : {X : Type 0} (a f g b : List X) (k : X) → a ++ ((f ++ k ∷ g) ++ b) ≡ (a ++ f) ++ (k ∷ (g ++ b))
shift-one a f g b k = simp append_assoc

-- orders
pub lt-from : (o : Ordering) → is_lt o ≡ true → o ≡ Less
lt-from Less h = refl
lt-from Equal h = absurd cc
lt-from Greater h = absurd cc

pub not-below : (a b : Found) → found_cmp a b ≡ Less → is_lt (found_cmp b a) ≡ false
not-below a b less = ap is_lt (found_total.antisymm b a ∙ ap ordering_reverse less)

pub not-itself : (a : Found) → is_lt (found_cmp a a) ≡ false
not-itself a = ap is_lt (tied_itself found_total a)

-- below one that is not above another
pub under : (a k e : Found) → found_cmp a k ≡ Less → is_lt (found_cmp e k) ≡ false → found_cmp a e ≡ Less
under a k e less not_lt = step (found_cmp e k) refl not_lt
  where
    step : (o : Ordering) → found_cmp e k ≡ o → is_lt o ≡ false → found_cmp a e ≡ Less
    step Less q h = absurd cc
    step Equal q h =
        found_total.antisymm a e ∙
        ap ordering_reverse (found_total.congr e k a q ∙ (found_total.antisymm k a ∙ ap ordering_reverse less))
    step Greater q h = rises a k e less (found_total.antisymm k e ∙ ap ordering_reverse q)

-- one that is not above another that is below
pub over : (k f m : Found) → is_lt (found_cmp f k) ≡ false → found_cmp f m ≡ Less → found_cmp k m ≡ Less
over k f m not_lt less = step (found_cmp f k) refl not_lt
  where
    step : (o : Ordering) → found_cmp f k ≡ o → is_lt o ≡ false → found_cmp k m ≡ Less
    step Less q h = absurd cc
    step Equal q h = sym (found_total.congr f k m q) ∙ less
    step Greater q h = rises k f m (found_total.antisymm k f ∙ ap ordering_reverse q) less

-- what stands before a key that is not above an entry stands before the entry
pub pass-key : (e : Found) (k : Key) → is_lt (found_cmp e (named k 0)) ≡ false → (m : Mark) → Precedes m (at_key k) →
    Precedes m (at_entry e)
pass-key e k not_lt (at_key j) h = not-below (named j 0) e (under (named j 0) (named k 0) e h not_lt)
pass-key e k not_lt (at_entry f) h = under f (named k 0) e h not_lt

-- an entry below a key stands before what stands behind the key
pub stop-key : (e : Found) (k : Key) → found_cmp e (named k 0) ≡ Less → (m : Mark) → Precedes (at_key k) m →
    Precedes (at_entry e) m
stop-key e k less (at_key j) h = rises e (named k 0) (named j 0) less h
stop-key e k less (at_entry f) h = under e (named k 0) f less h

as-tied : (f e : Found) → found_cmp f e ≡ Equal → (m : Mark) → Precedes (at_entry f) m → Precedes (at_entry e) m
as-tied f e tied (at_key j) h = sym (found_total.congr f e (named j 0) tied) ∙ h
as-tied f e tied (at_entry g) h = sym (found_total.congr f e g tied) ∙ h

before-it : (e f : Found) → found_cmp e f ≡ Less → (m : Mark) → Precedes (at_entry f) m → Precedes (at_entry e) m
before-it e f less (at_key j) h = rises e f (named j 0) less h
before-it e f less (at_entry g) h = rises e f g less h

up-to : (f m : Found) → found_cmp f m ≡ Less → (x : Mark) → Precedes x (at_entry f) → Precedes x (at_key (key_of m))
up-to f m less (at_key k) h = over (named k 0) f (named (key_of m) 0) h less
up-to f m less (at_entry g) h = rises g f m h less

from-key : (m : Found) (x : Mark) → Precedes (at_entry m) x → Precedes (at_key (key_of m)) x
from-key m (at_key j) h = h
from-key m (at_entry g) h = not-below m g h

-- one more that rises, and one less
pub rising-in : (a r : List Mark) (x : Mark) → IsRising (a ++ r) → AllByRecursion (λ m. Precedes m x) a →
    AllByRecursion (Precedes x) r → IsRising (a ++ x ∷ r)
rising-in [] r x h low high = (high, h)
rising-in (m ∷ a) r x h low high = (
  all-join (Precedes m) a (x ∷ r) (all-left (Precedes m) a r h.0) (low.0, all-right (Precedes m) a r h.0),
  rising-in a r x h.1 low.1 high,
)

pub rising-out : (a r : List Mark) (x : Mark) → IsRising (a ++ x ∷ r) → IsRising (a ++ r)
rising-out [] r x h = h.1
rising-out (m ∷ a) r x h = (
  all-join (Precedes m) a r (all-left (Precedes m) a (x ∷ r) h.0) (all-right (Precedes m) a (x ∷ r) h.0).1,
  rising-out a r x h.1,
)

pub rising-right : (a r : List Mark) → IsRising (a ++ r) → IsRising r
rising-right [] r h = h
rising-right (m ∷ a) r h = rising-right a r h.1

pub rising-left : (a r : List Mark) → IsRising (a ++ r) → IsRising a
rising-left [] r h = tt
rising-left (m ∷ a) r h = (all-left (Precedes m) a r h.0, rising-left a r h.1)

pub rising-before : (a r : List Mark) (x : Mark) → IsRising (a ++ x ∷ r) → AllByRecursion (λ m. Precedes m x) a
rising-before [] r x h = tt
rising-before (m ∷ a) r x h = ((all-right (Precedes m) a (x ∷ r) h.0).0, rising-before a r x h.1)

pub rising-behind : (a r : List Mark) (x : Mark) → IsRising (a ++ x ∷ r) → AllByRecursion (Precedes x) r
rising-behind a r x h = (rising-right a (x ∷ r) h).0

-- an entry that is added among others
pub added-rises : (e : Found) (es : List Found) (a b : List Mark) → IsRising (a ++ (map at_entry es ++ b)) →
    AllByRecursion (λ m. Precedes m (at_entry e)) a → AllByRecursion (Precedes (at_entry e)) b →
    IsRising (a ++ (map at_entry (entry_inserted e es) ++ b))
added-rises e [] a b h low high = rising-in a b (at_entry e) h low high
added-rises e (f ∷ es) a b h low high = step (found_cmp f e) refl (λ c. added-rises e es c b)
  where
    rest : List Mark
    rest = map at_entry es ++ b

    step : (o : Ordering) → found_cmp f e ≡ o →
        ((c : List Mark) → IsRising (c ++ (map at_entry es ++ b)) → AllByRecursion (λ m. Precedes m (at_entry e)) c →
        AllByRecursion (Precedes (at_entry e)) b → IsRising (c ++ (map at_entry (entry_inserted e es) ++ b))) →
        IsRising (a ++ (map at_entry (entry_inserted e (f ∷ es)) ++ b))
    step Less q more =
        rw q (rw append_assoc at
        (more (a ++ at_entry f ∷ []) (rw append_assoc h)
        (all-join (λ m. Precedes m (at_entry e)) a (at_entry f ∷ []) low (q, tt)) high))
    step Equal q more =
        rw q (rising-in a (map at_entry es ++ b) (at_entry e) (rising-out a (map at_entry es ++ b) (at_entry f) h) low
        (all-more (Precedes (at_entry f)) (Precedes (at_entry e)) (map at_entry es ++ b) (as-tied f e q)
        (rising-behind a (map at_entry es ++ b) (at_entry f) h)))
    step Greater q more =
        let less : found_cmp e f ≡ Less = found_total.antisymm e f ∙ ap ordering_reverse q in
        rw q (rising-in a (at_entry f ∷ (map at_entry es ++ b)) (at_entry e) h low (
          less,
          all-more (Precedes (at_entry f)) (Precedes (at_entry e)) (map at_entry es ++ b) (before-it e f less)
              (rising-behind a (map at_entry es ++ b) (at_entry f) h),
        ))

-- an entry that is taken out of others
pub taken-rises : (e : Found) (es : List Found) (a b : List Mark) → IsRising (a ++ (map at_entry es ++ b)) →
    IsRising (a ++ (map at_entry (taken_out e es) ++ b))
taken-rises e [] a b h = h
taken-rises e (f ∷ es) a b h = step (found_cmp f e) refl (λ c. taken-rises e es c b)
  where
    chosen : (t : Bool) → IsRising (a ++ (map at_entry (cond t es (f ∷ es)) ++ b))
    chosen true = rising-out a (map at_entry es ++ b) (at_entry f) h
    chosen false = h

    step : (o : Ordering) → found_cmp f e ≡ o →
        ((c : List Mark) → IsRising (c ++ (map at_entry es ++ b)) →
        IsRising (c ++ (map at_entry (taken_out e es) ++ b))) →
        IsRising (a ++ (map at_entry (taken_out e (f ∷ es)) ++ b))
    step Less q more = rw q (rw append_assoc at (more (a ++ at_entry f ∷ []) (rw append_assoc h)))
    step Equal q more = rw q (chosen (eqb f.page e.page))
    step Greater q more = rw q h

low-entries : (m : Found) (front : List Found) → AllByRecursion (λ x. Precedes x (at_entry m)) (map at_entry front) →
    AllByRecursion (λ x. Precedes x (at_key (key_of m))) (map at_entry front)
low-entries m [] all = tt
low-entries m (f ∷ front) all = (all.0, low-entries m front all.1)

-- a key before an entry that is not the first
pub key-rises : (f : Found) (front : List Found) (m : Found) (back : List Found) (a b : List Mark) →
    IsRising (a ++ (map at_entry (f ∷ front ++ m ∷ back) ++ b)) →
    IsRising (a ++ ((map at_entry (f ∷ front) ++ at_key (key_of m) ∷ map at_entry (m ∷ back)) ++ b))
key-rises f front m back a b h =
    let whole : List Mark = map at_entry (f ∷ front) in
    let rest : List Mark = map at_entry back ++ b in
    let parts : IsRising (a ++ ((whole ++ at_entry m ∷ map at_entry back) ++ b)) =
    subst (λ (l : List Mark). IsRising (a ++ (l ++ b))) (map-append at_entry (f ∷ front) (m ∷ back)) h in
    let split : IsRising ((a ++ whole) ++ at_entry m ∷ rest) =
    subst IsRising (shift-one a whole (map at_entry back) b (at_entry m)) parts in
    let before = rising-before (a ++ whole) rest (at_entry m) split in
    let behind = rising-behind (a ++ whole) rest (at_entry m) split in
    let inner = all-right (λ x. Precedes x (at_entry m)) a whole before in
    let least : AllByRecursion (λ x. Precedes x (at_entry f)) a =
    rising-before a (map at_entry (front ++ m ∷ back) ++ b) (at_entry f) h in
    let low =
    all-join (λ x. Precedes x (at_key (key_of m))) a whole
    (all-more (λ x. Precedes x (at_entry f)) (λ x. Precedes x (at_key (key_of m))) a (up-to f m inner.0) least)
    (low-entries m (f ∷ front) inner) in
    let high : AllByRecursion (Precedes (at_key (key_of m))) (at_entry m ∷ rest) =
    (not-itself m, all-more (Precedes (at_entry m)) (Precedes (at_key (key_of m))) rest (from-key m) behind) in
    subst IsRising (sym (shift-one a whole (map at_entry (m ∷ back)) b (at_key (key_of m))))
    (rising-in (a ++ whole) (at_entry m ∷ rest) (at_key (key_of m)) split low high)

-- the entries among keys
pub entries-append : (a b : List Mark) → entries_in (a ++ b) ≡ entries_in a ++ entries_in b
entries-append [] b = refl
entries-append (at_key k ∷ a) b = entries-append a b
entries-append (at_entry f ∷ a) b = ap (λ (l : List Found). f ∷ l) (entries-append a b)

pub entries-map : (es : List Found) → entries_in (map at_entry es) ≡ es
entries-map [] = refl
entries-map (f ∷ es) = ap (λ (l : List Found). f ∷ l) (entries-map es)

pub entries-all : (P : Mark → Type 0) (Q : Found → Type 0) (ms : List Mark) → ((f : Found) → P (at_entry f) → Q f) →
    AllByRecursion P ms → AllByRecursion Q (entries_in ms)
entries-all P Q [] go all = tt
entries-all P Q (at_key k ∷ ms) go all = entries-all P Q ms go all.1
entries-all P Q (at_entry f ∷ ms) go all = (go f all.0, entries-all P Q ms go all.1)
