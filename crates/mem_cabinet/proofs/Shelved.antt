-- A cabinet behind a change of one shelf.
use Rattle.std.proofs.Common.{◌≡◌, ◌≢◌, ◌⊎◌, ◌==◌, ◌++◌, ℕ, Bool, true, false, List, [], ◌∷◌, Option, Some, None, Ok, Err, length, get_or, set, refl, ap, sym, subst, ◌∙◌, inl, inr, ltb, cond, arith}
use Rattle.std.specs.Prelude.{is_some, not, position, slice_get, string_bytes}
use mathlib.Core.Bool.{true≢false}
use Rattle.std.specs.Cmp.Lexicographic.{bytes_decides, pointwise}
use Rattle.std.specs.List.{find, position_or_len}
use Rattle.std.specs.Option.{option_map, option_or}
use Rattle.std.proofs.lemmas.List.Folds.{find-append, find-set, find_at, find_past}
use Rattle.std.proofs.lemmas.List.Quantifiers.{position-Some}
use Rattle.std.proofs.lemmas.Option.{slice_get-get_or, slice_get_past}
use Rattle.std.proofs.lemmas.Bool.Decides.{nat_tests}
use Rattle.disk_model.specs.declared.four.Four.{Four}
use Rattle.disk_model.specs.Cabinet.{GoesOut, OneLessOut, OneMoreOut, Stands, TakesOut}
use Rattle.disk_model.specs.Cabinet.{AreSized, Each, IsBlank}
use Rattle.disk_model.specs.Sizes.{log_bytes, maplog_bytes, pagelog_bytes, pages_bytes}
use Rattle.disk_model.specs.declared.four.Sizes.{Sizes}
use Rattle.std.proofs.Common.{drop, replicate, take}
use Rattle.std.proofs.lemmas.List.{append-nil, length-replicate, take_all}
use Rattle.std.proofs.Math.ListN.{drop_of_length-le}
use Rattle.disk_mem.specs.History.{state_of}
use Rattle.disk_mem.specs.Disks.{Device}
use Rattle.mem_cabinet.specs.Shelves.{IsOut, blank, blank_store, has_name, shelf_of, store_of, store_on}
use Rattle.mem_cabinet.specs.declared.cabinet.Shelf.{Shelf}

other_name : (name q : List ℕ) (shelf : Shelf) → has_name name shelf ≡ true → q ≢ name → has_name q shelf ≡ false
other_name name q shelf is other = by_test (has_name q shelf) refl
  where
    by_test : (b : Bool) → has_name q shelf ≡ b → b ≡ false
    by_test true e = absurd (other (sym ((bytes_decides (string_bytes shelf.name) q).0 e) ∙ (bytes_decides (string_bytes shelf.name) name).0 is))
    by_test false e = refl

pos_is : {X : Type 0} (p : X → Bool) (xs : List X) (i : ℕ) → position p xs ≡ Some i → position_or_len p xs ≡ i
pos_is p xs i at = by_test (ltb (position_or_len p xs) (length xs)) at
  where
    by_test : (b : Bool) → cond b (Some (position_or_len p xs)) None ≡ Some i → position_or_len p xs ≡ i
    by_test true e = cc
    by_test false e = cc

found_at : (name : List ℕ) (shelves : List Shelf) (i : ℕ) (d : Shelf) → position (has_name name) shelves ≡ Some i → find (has_name name) shelves ≡ Some (get_or shelves i d)
found_at name shelves i d at =
    find_at (has_name name) shelves ∙ ap (slice_get shelves) (pos_is (has_name name) shelves i at) ∙ slice_get-get_or shelves i d (position-Some (has_name name) shelves i d at).0

-- what lies on the shelf of that name
pub lay_there : (name : List ℕ) (shelves : List Shelf) (i : ℕ) (d : Shelf) → position (has_name name) shelves ≡ Some i → shelf_of shelves name ≡ Some (get_or shelves i d).store
lay_there name shelves i d at = ap (option_map (λ (shelf : Shelf). shelf.store)) (found_at name shelves i d at)

pub no_shelf : (name : List ℕ) (shelves : List Shelf) → position (has_name name) shelves ≡ None → shelf_of shelves name ≡ None
no_shelf name shelves at = ap (option_map (λ (shelf : Shelf). shelf.store)) (find_at (has_name name) shelves ∙ by_test (ltb (position_or_len (has_name name) shelves) (length shelves)) refl at)
  where
    by_test : (b : Bool) → ltb (position_or_len (has_name name) shelves) (length shelves) ≡ b → cond b (Some (position_or_len (has_name name) shelves)) None ≡ None
        → slice_get shelves (position_or_len (has_name name) shelves) ≡ None
    by_test true p e = cc
    by_test false p e = slice_get_past shelves (position_or_len (has_name name) shelves) (grind (arith, nat_tests))

-- whether the store on the shelf is out
pub is_away : {X : Type 0} (store : Option X) (found : Option (Option X)) (answer : Bool) → is_some store ≡ not answer → found ≡ Some store → (answer ≡ true → found ≡ Some None) × (found ≡ Some None → answer ≡ true)
is_away None found true is at = (λ yes. at, λ out. refl)
is_away None found false is at = absurd cc
is_away (Some store) found true is at = absurd cc
is_away (Some store) found false is at = (λ yes. absurd cc, λ out. absurd cc)

-- behind another store on the shelf of that name
pub put_there : (name : List ℕ) (shelves : List Shelf) (i : ℕ) (d : Shelf) (store : Option (Four Device)) → position (has_name name) shelves ≡ Some i
    → Stands name (Some store) (shelf_of shelves) (shelf_of (set shelves i (record (get_or shelves i d) { store = store })))
put_there name shelves i d store at =
    let here = position-Some (has_name name) shelves i d at in
    let shelf : Shelf = record (get_or shelves i d) { store = store } in
    record {
      here = ap (option_map (λ (s : Shelf). s.store)) (find-set (has_name name) shelves i shelf (sym (pos_is (has_name name) shelves i at)) here.0 here.1);
      elsewhere = λ q other.
          let apart = other_name name q (get_or shelves i d) here.1 other in
          ap (option_map (λ (s : Shelf). s.store)) (find_past (has_name q) shelves i shelf d apart apart);
    }

-- behind a new shelf, which is empty
pub shelf_made : (name : List ℕ) (shelves : List Shelf) (shelf : Shelf) → string_bytes shelf.name ≡ name → shelf.store ≡ None → shelf_of shelves name ≡ None
    → Stands name (Some None) (shelf_of shelves) (shelf_of (shelves ++ shelf ∷ []))
shelf_made name shelves shelf is empty none =
    let same : has_name name shelf ≡ true = (bytes_decides (string_bytes shelf.name) name).1 is in
    record {
      here = ap (option_map (λ (s : Shelf). s.store)) (find-append (has_name name) shelves (shelf ∷ []) ∙ behind_none (find (has_name name) shelves) none same) ∙ ap Some empty;
      elsewhere = λ q other. ap (option_map (λ (s : Shelf). s.store)) (find-append (has_name q) shelves (shelf ∷ []) ∙ behind_other q (other_name name q shelf same other) (find (has_name q) shelves));
    }
  where
    behind_none : (found : Option Shelf) → option_map (λ (s : Shelf). s.store) found ≡ None → has_name name shelf ≡ true → option_or found (find (has_name name) (shelf ∷ [])) ≡ Some shelf
    behind_none None e same = rw same refl
    behind_none (Some f) e same = cc

    behind_other : (q : List ℕ) → has_name q shelf ≡ false → (found : Option Shelf) → option_or found (find (has_name q) (shelf ∷ [])) ≡ found
    behind_other q apart None = rw apart refl
    behind_other q apart (Some f) = refl

-- ---- what a cabinet tells

same_or_not : (q dir : List ℕ) → (q ≡ dir) ⊎ (q ≡ dir → ⊥)
same_or_not q dir = by_test (pointwise ◌==◌ q dir) refl
  where
    by_test : (b : Bool) → pointwise ◌==◌ q dir ≡ b → (q ≡ dir) ⊎ (q ≡ dir → ⊥)
    by_test true e = inl ((bytes_decides q dir).0 e)
    by_test false e = inr (λ is. true≢false (sym ((bytes_decides q dir).1 is) ∙ e))

-- the store of that name was taken out
pub taken_out : (dir : List ℕ) (old new : List Shelf) → Stands dir (Some None) (shelf_of old) (shelf_of new) → OneMoreOut dir (IsOut old) (IsOut new)
taken_out dir old new stands q = (λ out. by_name (same_or_not q dir) out, from)
  where
    by_name : (q ≡ dir) ⊎ (q ≡ dir → ⊥) → IsOut new q → IsOut old q ⊎ (q ≡ dir)
    by_name (inl is) out = inr is
    by_name (inr other) out = inl (sym (stands.elsewhere q other) ∙ out)

    by_other : (q ≡ dir) ⊎ (q ≡ dir → ⊥) → IsOut old q → IsOut new q
    by_other (inl is) out = ap (shelf_of new) is ∙ stands.here
    by_other (inr other) out = stands.elsewhere q other ∙ out

    from : IsOut old q ⊎ (q ≡ dir) → IsOut new q
    from (inl out) = by_other (same_or_not q dir) out
    from (inr is) = ap (shelf_of new) is ∙ stands.here

pub stands_so : (dir : List ℕ) (old new : List Shelf) (store : Option (Four Device)) → Stands dir (Some store) (shelf_of old) (shelf_of new) → Stands dir store (store_of old) (store_of new)
stands_so dir old new store stands = record { here = ap store_on stands.here; elsewhere = λ q other. ap store_on (stands.elsewhere q other) }

-- it came back
pub came_back : (dir : List ℕ) (old new : List Shelf) (store : Four Device) → Stands dir (Some (Some store)) (shelf_of old) (shelf_of new) → OneLessOut dir (IsOut old) (IsOut new)
came_back dir old new store stands q = (λ out. by_name (same_or_not q dir) out, λ h. stands.elsewhere q h.1 ∙ h.0)
  where
    by_name : (q ≡ dir) ⊎ (q ≡ dir → ⊥) → IsOut new q → IsOut old q × (q ≡ dir → ⊥)
    by_name (inl is) out = absurd (not_none (sym (ap (shelf_of new) is ∙ stands.here) ∙ out))
      where
        not_none : Some (Some store) ≡ Some None → ⊥
        not_none e = cc
    by_name (inr other) out = (sym (stands.elsewhere q other) ∙ out, other)

-- it was out before, so nothing has changed
pub was_out : (dir : List ℕ) (old new : List Shelf) → shelf_of old dir ≡ Some None → Stands dir (Some None) (shelf_of old) (shelf_of new) → (q : List ℕ) → shelf_of new q ≡ shelf_of old q
was_out dir old new was stands q = by_name (same_or_not q dir)
  where
    by_name : (q ≡ dir) ⊎ (q ≡ dir → ⊥) → shelf_of new q ≡ shelf_of old q
    by_name (inl is) = ap (shelf_of new) is ∙ stands.here ∙ sym was ∙ ap (shelf_of old) (sym is)
    by_name (inr other) = stands.elsewhere q other

-- a call that answers so took the store out
pub goes_ok : {T E : Type 0} (dir : List ℕ) (old new : List Shelf) (taken : T) → Stands dir (Some None) (shelf_of old) (shelf_of new) → GoesOut {Taken = T} {E = E} dir (IsOut old) (IsOut new) (Ok taken)
goes_ok dir old new taken stands = record { ok = taken_out dir old new stands; err = tt }

pub takes_ok : {T E : Type 0} (dir : List ℕ) (old new : List Shelf) (taken : T) → Stands dir (Some None) (shelf_of old) (shelf_of new)
    → TakesOut {Store = Four Device} {Taken = T} {E = E} dir (store_of old) (store_of new) (Ok taken)
takes_ok dir old new taken stands = record { ok = stands_so dir old new None stands; err = tt }

-- one that is refused left all as it was
pub goes_err : {T E : Type 0} (dir : List ℕ) (old new : List Shelf) (why : E) → ((q : List ℕ) → shelf_of new q ≡ shelf_of old q) → GoesOut {Taken = T} {E = E} dir (IsOut old) (IsOut new) (Err why)
goes_err dir old new why same = record { ok = tt; err = λ q. (λ out. sym (same q) ∙ out, λ out. same q ∙ out) }

pub takes_err : {T E : Type 0} (dir : List ℕ) (old new : List Shelf) (why : E) → ((q : List ℕ) → shelf_of new q ≡ shelf_of old q)
    → TakesOut {Store = Four Device} {Taken = T} {E = E} dir (store_of old) (store_of new) (Err why)
takes_err dir old new why same = record { ok = tt; err = λ q. ap store_on (same q) }

-- shelves of a list that were changed in place
pub whole_again : {X : Type 0} → (old new : List X) (count : ℕ) → count ≡ length old → length new ≡ length old → take count (new ++ drop (length new) old) ≡ new
whole_again {X = X} old new count is same =
    ap (λ (l : List X). take count (new ++ l)) (drop_of_length-le old (omega (arith, same)))
    ∙ ap (λ (l : List X). take count l) (append-nil new)
    ∙ take_all count new (omega (arith, is, same))

-- new devices

as_long : (size : ℕ) → length (replicate {A = ℕ} size 0) ≡ size
as_long size = length-replicate size 0

is_blank : (size : ℕ) → IsBlank (λ (disk : Device). length (state_of disk.past).seen) (λ _. Unit {0}) (λ disk. state_of disk.past) (blank size)
is_blank size = record { honest = tt; zeros = ap (λ (n : ℕ). replicate n 0) (sym (length-replicate size 0)); durable = λ _ no. no }

pub blank_blank : (sizes : Sizes) (four : Four Device) → four ≡ blank_store sizes
    → Each (IsBlank (λ (disk : Device). length (state_of disk.past).seen) (λ _. Unit {0}) (λ disk. state_of disk.past)) four
blank_blank sizes four is =
    subst (Each (IsBlank (λ (disk : Device). length (state_of disk.past).seen) (λ _. Unit {0}) (λ disk. state_of disk.past))) (sym is)
    (record { log = is_blank log_bytes; pages = is_blank (pages_bytes sizes.pages); pagelog = is_blank (pagelog_bytes sizes.capacity); maplog = is_blank (maplog_bytes sizes.capacity) })

pub blank_sized : (sizes : Sizes) (four : Four Device) → four ≡ blank_store sizes → AreSized (λ (disk : Device). length (state_of disk.past).seen) sizes four
blank_sized sizes four is =
    subst (AreSized (λ (disk : Device). length (state_of disk.past).seen) sizes) (sym is)
    (record { log = as_long log_bytes; pages = as_long (pages_bytes sizes.pages); pagelog = as_long (pagelog_bytes sizes.capacity); maplog = as_long (maplog_bytes sizes.capacity) })

pub made_so : (sizes : Sizes) (log pages pagelog maplog : Device) → log ≡ blank log_bytes → pages ≡ blank (pages_bytes sizes.pages) → pagelog ≡ blank (pagelog_bytes sizes.capacity) → maplog ≡ blank (maplog_bytes sizes.capacity)
    → let four : Four Device = record { log = log; pages = pages; pagelog = pagelog; maplog = maplog } in four ≡ blank_store sizes
made_so sizes log pages pagelog maplog one two three last =
    ap (λ (d : Device). let four : Four Device = record { log = d; pages = pages; pagelog = pagelog; maplog = maplog } in four) one
    ∙ ap (λ (d : Device). let four : Four Device = record { log = blank log_bytes; pages = d; pagelog = pagelog; maplog = maplog } in four) two
    ∙ ap (λ (d : Device). let four : Four Device = record { log = blank log_bytes; pages = blank (pages_bytes sizes.pages); pagelog = d; maplog = maplog } in four) three
    ∙ ap (λ (d : Device). let four : Four Device = record { log = blank log_bytes; pages = blank (pages_bytes sizes.pages); pagelog = blank (pagelog_bytes sizes.capacity); maplog = d } in four) last
