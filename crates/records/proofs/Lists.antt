-- Lists that are read item by item, each with a number that the one before gives.
use Rattle.std.proofs.Common.{◌≡◌, ◌<◌, ◌≤◌, ◌+◌, ◌-◌, ◌++◌, ◌∙◌, ℕ, zero, suc, List, [], ◌∷◌, length, Option, Some, None, refl, sym, ap, subst, arith, append_assoc}
use Rattle.std.specs.List.{flat_map}
use Rattle.std.proofs.lemmas.List.{append-nil}
use Rattle.records.specs.declared.decoding.DecodeError.{DecodeError}
use Rattle.records.specs.declared.decoding.DecodeError.TheVariants.{OutOfMemory, Malformed}
use Rattle.records.specs.Reading.{◌>>=◌, Fails, take_list, take_mark, after_mark}
use Rattle.records.proofs.Bytes.{IsBytes}
use Rattle.history.specs.declared.entry.Mark.{Mark}
use Rattle.records.proofs.Fields.{bind_some, some_is, Takes, Takes-then, mark_number}

-- what holds of each item with its number
abbrev pub AllInTurn : {X : Type 0} → (ℕ → X → Type 0) → (X → ℕ) → ℕ → List X → Type 0
AllInTurn P next number [] = Unit {0}
AllInTurn P next number (x ∷ xs) = P number x × AllInTurn P next (next x) xs

module _ {X : Type 0} (item : ℕ → List ℕ → Option (X × List ℕ)) (spell : X → List ℕ) (P : ℕ → X → Type 0) (next : X → ℕ) where
  -- of all lists that are read
  pub list_takes : ((number : ℕ) (bytes : List ℕ) (x : X × List ℕ) → IsBytes bytes → item number bytes ≡ Some x → Takes bytes (spell x.0) x.1 × P number x.0)
      → (count number : ℕ) (bytes : List ℕ) (x : List X × List ℕ) → IsBytes bytes → take_list item next count number bytes ≡ Some x → Takes bytes (flat_map spell x.0) x.1 × (length x.0 ≡ count) × AllInTurn P next number x.0
  unfolding take_list
  list_takes takes zero number bytes x fits e =
      subst (λ (y : List X × List ℕ). Takes bytes (flat_map spell y.0) y.1 × (length y.0 ≡ 0) × AllInTurn P next number y.0) (some_is ([], bytes) x e) (record { parts = refl; rest_fits = fits }, refl, tt)
  list_takes takes (suc count) number bytes x fits e =
      let a = bind_some (item number bytes) (λ first. take_list item next count (next first.0) first.1 >>= λ others. Some (first.0 ∷ others.0, others.1)) x e in
      let b = bind_some (take_list item next count (next a.0.0) a.0.1) (λ others. Some (a.0.0 ∷ others.0, others.1)) x a.2 in
      let first = takes number bytes a.0 fits a.1 in
      let second = list_takes takes count (next a.0.0) a.0.1 b.0 first.0.rest_fits b.1 in
      let both = Takes-then bytes (spell a.0.0) a.0.1 (flat_map spell b.0.0) b.0.1 first.0 second.0 in
      let made : List X × List ℕ = (a.0.0 ∷ b.0.0, b.0.1) in
      subst (λ (y : List X × List ℕ). Takes bytes (flat_map spell y.0) y.1 × (length y.0 ≡ suc count) × AllInTurn P next number y.0) (some_is made x b.2) (both, ap suc second.1, (first.1, second.2))

  pub list_taken : ((number : ℕ) (x : X) (rest : List ℕ) → P number x → item number (spell x ++ rest) ≡ Some (x, rest))
      → (number : ℕ) (xs : List X) (rest : List ℕ) → AllInTurn P next number xs → take_list item next (length xs) number (flat_map spell xs ++ rest) ≡ Some (xs, rest)
  unfolding take_list
  list_taken taken number [] rest all = refl
  list_taken taken number (x ∷ xs) rest all =
      ap (take_list item next (suc (length xs)) number) (append_assoc (spell x) (flat_map spell xs) rest)
      ∙ rw (taken number x (flat_map spell xs ++ rest) all.0, list_taken taken (next x) xs rest all.1) refl

-- what was read before, and what is still read
abbrev pub with_front : {X : Type 0} → List X → Option (List X × List ℕ) → Option (List X × List ℕ)
with_front front reading = reading >>= λ x. Some (front ++ x.0, x.1)

module _ {X : Type 0} (item : ℕ → List ℕ → Option (X × List ℕ)) (next : X → ℕ) where
  regroup : (front : List X) (x : X) (reading : Option (List X × List ℕ)) → with_front front (reading >>= λ y. Some (x ∷ y.0, y.1)) ≡ with_front (front ++ x ∷ []) reading
  regroup front x None = refl
  regroup front x (Some y) = ap (λ (ys : List X). Some (ys, y.1)) (sym (append_assoc front (x ∷ []) y.0))

  pub goes_on : (front : List X) (count i number : ℕ) (bytes : List ℕ) (x : X) (after : List ℕ) (total : Option (List X × List ℕ)) → i < count → item number bytes ≡ Some (x, after)
      → with_front front (take_list item next (count - i) number bytes) ≡ total → with_front (front ++ x ∷ []) (take_list item next (count - (i + 1)) (next x) after) ≡ total
  unfolding take_list
  goes_on front count i number bytes x after total lt h so_far =
      let k : count - i ≡ suc (count - (i + 1)) = omega arith in
      let one : with_front front (take_list item next (count - i) number bytes) ≡ with_front (front ++ x ∷ []) (take_list item next (count - (i + 1)) (next x) after) = rw (k, h) (regroup front x (take_list item next (count - (i + 1)) (next x) after)) in
      sym one ∙ so_far

  pub ends : (e : DecodeError) (front : List X) (count i number : ℕ) (bytes : List ℕ) (total : Option (List X × List ℕ)) → i < count → Fails e (item number bytes)
      → with_front front (take_list item next (count - i) number bytes) ≡ total → Fails e total
  unfolding take_list
  ends OutOfMemory front count i number bytes total lt h so_far = tt
  ends Malformed front count i number bytes total lt h so_far =
      let k : count - i ≡ suc (count - (i + 1)) = omega arith in
      let one : with_front front (take_list item next (count - i) number bytes) ≡ None = rw (k, h) refl in
      sym so_far ∙ one

  pub is_done : (front : List X) (count i number : ℕ) (bytes : List ℕ) (total : Option (List X × List ℕ)) → count ≤ i → with_front front (take_list item next (count - i) number bytes) ≡ total → total ≡ Some (front, bytes)
  unfolding take_list
  is_done front count i number bytes total le so_far =
      let k : count - i ≡ 0 = omega arith in
      let one : with_front front (take_list item next (count - i) number bytes) ≡ Some (front, bytes) = rw k (ap (λ (xs : List X). Some (xs, bytes)) (append-nil front)) in
      sym so_far ∙ one

  pub begins : (count number : ℕ) (bytes : List ℕ) → with_front [] (take_list item next (count - 0) number bytes) ≡ take_list item next count number bytes
  begins count number bytes = let k : count - 0 ≡ count = omega arith in rw k (same (take_list item next count number bytes)) where
    same : (reading : Option (List X × List ℕ)) → with_front [] reading ≡ reading
    same None = refl
    same (Some x) = refl

-- the same for marks, whose numbers count up
pub mark_read : (front : List Mark) (count i oldest number : ℕ) (bytes : List ℕ) (mark : Mark) (after : List ℕ) (total : Option (List Mark × List ℕ)) → i < count → number ≡ oldest + i → take_mark number bytes ≡ Some (mark, after)
    → with_front front (take_list take_mark after_mark (count - i) (oldest + i) bytes) ≡ total → with_front (front ++ mark ∷ []) (take_list take_mark after_mark (count - (i + 1)) (oldest + (i + 1)) after) ≡ total
mark_read front count i oldest number bytes mark after total lt is e so_far =
    let up : oldest + (i + 1) ≡ mark.number + 1 = omega (arith, is, mark_number number bytes (mark, after) e) in
    rw up (goes_on take_mark after_mark front count i (oldest + i) bytes mark after total lt (ap (λ n. take_mark n bytes) (sym is) ∙ e) so_far)

pub mark_refused : (e : DecodeError) (front : List Mark) (count i oldest number : ℕ) (bytes : List ℕ) (total : Option (List Mark × List ℕ)) → i < count → number ≡ oldest + i → Fails e (take_mark number bytes)
    → with_front front (take_list take_mark after_mark (count - i) (oldest + i) bytes) ≡ total → Fails e total
mark_refused e front count i oldest number bytes total lt is fails so_far =
    ends take_mark after_mark e front count i (oldest + i) bytes total lt (subst (λ n. Fails e (take_mark n bytes)) is fails) so_far

pub marks_begin : (count oldest : ℕ) (bytes : List ℕ) → with_front [] (take_list take_mark after_mark (count - 0) (oldest + 0) bytes) ≡ take_list take_mark after_mark count oldest bytes
marks_begin count oldest bytes = let k : oldest + 0 ≡ oldest = omega arith in rw k (begins take_mark after_mark count oldest bytes)
