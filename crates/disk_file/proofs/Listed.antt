-- A list of names with one more, or without those of one name.
use Rattle.std.specs.Prelude.{◌≡◌, ◌⊎◌, ◌↔◌, ◌||◌, ◌++◌, ℕ, Bool, true, false, not, IsTrue, List, [], ◌∷◌, filter, cond, string_bytes, String, Ok, Err}
use mathlib.Core.Logic.{inl, inr}
use mathlib.Core.Path.{refl, sym, ◌∙◌, subst}
use mathlib.Core.Bool.{true≢false}
use Rattle.std.specs.Cmp.Lexicographic.{bytes_decides}
use Rattle.std.specs.List.{list_any}
use Rattle.disk_file.specs.Names.{has_bytes, IsNamed}
use Rattle.disk_model.specs.Cabinet.{GoesOut, OneLessOut, OneMoreOut}

is_same : {A : Type 0} (name : String A) (bytes : List ℕ) → has_bytes bytes name ≡ true → string_bytes name ≡ bytes
is_same name bytes h = (bytes_decides (string_bytes name) bytes).0 h

same_is : {A : Type 0} (name : String A) (bytes : List ℕ) → string_bytes name ≡ bytes → has_bytes bytes name ≡ true
same_is name bytes e = (bytes_decides (string_bytes name) bytes).1 e

or_left : (b c : Bool) → IsTrue b → IsTrue (b || c)
or_left true c e = refl
or_left false c e = absurd (true≢false (sym e))

or_right : (b c : Bool) → IsTrue c → IsTrue (b || c)
or_right true c e = refl
or_right false c e = e

either : (b c : Bool) → IsTrue (b || c) → IsTrue b ⊎ IsTrue c
either true c e = inl refl
either false c e = inr e

-- a name more
pub one_more : {A : Type 0} (names : List (String A)) (name : String A) → OneMoreOut (string_bytes name) (IsNamed names) (IsNamed (names ++ name ∷ []))
one_more {A} names name bytes = (to names, from names)
  where
    last : IsTrue (has_bytes bytes name) ⊎ IsTrue false → IsTrue false ⊎ (bytes ≡ string_bytes name)
    last (inl e) = inr (sym (is_same name bytes e))
    last (inr e) = inl e

    first : (b c d : Bool) → IsTrue b ⊎ IsTrue c → (IsTrue c → IsTrue d ⊎ (bytes ≡ string_bytes name)) → IsTrue (b || d) ⊎ (bytes ≡ string_bytes name)
    first b c d (inl e) next = inl (or_left b d e)
    first b c d (inr e) next = rest (next e)
      where
        rest : IsTrue d ⊎ (bytes ≡ string_bytes name) → IsTrue (b || d) ⊎ (bytes ≡ string_bytes name)
        rest (inl e) = inl (or_right b d e)
        rest (inr e) = inr e

    to : (xs : List (String A)) → IsNamed (xs ++ name ∷ []) bytes → IsNamed xs bytes ⊎ (bytes ≡ string_bytes name)
    to [] h = last (either (has_bytes bytes name) false h)
    to (x ∷ xs) h = first (has_bytes bytes x) (list_any (has_bytes bytes) (xs ++ name ∷ [])) (list_any (has_bytes bytes) xs) (either (has_bytes bytes x) (list_any (has_bytes bytes) (xs ++ name ∷ [])) h) (to xs)

    grown : (b c d : Bool) → IsTrue b ⊎ IsTrue c → (IsTrue c → IsTrue d) → IsTrue (b || d)
    grown b c d (inl e) next = or_left b d e
    grown b c d (inr e) next = or_right b d (next e)

    from : (xs : List (String A)) → IsNamed xs bytes ⊎ (bytes ≡ string_bytes name) → IsNamed (xs ++ name ∷ []) bytes
    from [] (inl e) = absurd (true≢false (sym e))
    from [] (inr e) = or_left (has_bytes bytes name) false (same_is name bytes (sym e))
    from (x ∷ xs) (inr e) = or_right (has_bytes bytes x) (list_any (has_bytes bytes) (xs ++ name ∷ [])) (from xs (inr e))
    from (x ∷ xs) (inl h) = grown (has_bytes bytes x) (list_any (has_bytes bytes) xs) (list_any (has_bytes bytes) (xs ++ name ∷ [])) (either (has_bytes bytes x) (list_any (has_bytes bytes) xs) h) (λ e. from xs (inl e))

abbrev kept : {A : Type 0} → List ℕ → List (String A) → List (String A)
kept {A} dir names = filter (λ (name : String A). not (has_bytes dir name)) names

-- the names without those of these bytes
pub one_less : {A : Type 0} (names : List (String A)) (dir : List ℕ) → OneLessOut dir (IsNamed names) (IsNamed (filter (λ (name : String A). not (has_bytes dir name)) names))
one_less {A} names dir bytes = (to names, from names)
  where
    stays : (x : String A) (xs : List (String A)) → has_bytes dir x ≡ false → IsTrue (has_bytes bytes x) ⊎ IsNamed (kept dir xs) bytes → (IsNamed (kept dir xs) bytes → IsNamed xs bytes × (bytes ≡ dir → ⊥)) → IsNamed (x ∷ xs) bytes × (bytes ≡ dir → ⊥)
    stays x xs p (inl e) next = (or_left (has_bytes bytes x) (list_any (has_bytes bytes) xs) e, λ q. true≢false (sym (same_is x dir (is_same x bytes e ∙ q)) ∙ p))
    stays x xs p (inr e) next = (or_right (has_bytes bytes x) (list_any (has_bytes bytes) xs) (next e).0, (next e).1)

    by_test : (x : String A) (xs : List (String A)) (d : Bool) → has_bytes dir x ≡ d → IsNamed (cond (not d) (x ∷ kept dir xs) (kept dir xs)) bytes → (IsNamed (kept dir xs) bytes → IsNamed xs bytes × (bytes ≡ dir → ⊥)) → IsNamed (x ∷ xs) bytes × (bytes ≡ dir → ⊥)
    by_test x xs true p h next = (or_right (has_bytes bytes x) (list_any (has_bytes bytes) xs) (next h).0, (next h).1)
    by_test x xs false p h next = stays x xs p (either (has_bytes bytes x) (list_any (has_bytes bytes) (kept dir xs)) h) next

    to : (xs : List (String A)) → IsNamed (kept dir xs) bytes → IsNamed xs bytes × (bytes ≡ dir → ⊥)
    to [] h = absurd (true≢false (sym h))
    to (x ∷ xs) h = by_test x xs (has_bytes dir x) refl h (to xs)

    into : (x : String A) (xs : List (String A)) (d : Bool) → (bytes ≡ dir → ⊥) → has_bytes dir x ≡ d → IsTrue (has_bytes bytes x) ⊎ IsNamed xs bytes → (IsNamed xs bytes → IsNamed (kept dir xs) bytes) → IsNamed (cond (not d) (x ∷ kept dir xs) (kept dir xs)) bytes
    into x xs true apart p (inl e) next = absurd (apart (sym (is_same x bytes e) ∙ is_same x dir p))
    into x xs true apart p (inr e) next = next e
    into x xs false apart p (inl e) next = or_left (has_bytes bytes x) (list_any (has_bytes bytes) (kept dir xs)) e
    into x xs false apart p (inr e) next = or_right (has_bytes bytes x) (list_any (has_bytes bytes) (kept dir xs)) (next e)

    from : (xs : List (String A)) → IsNamed xs bytes × (bytes ≡ dir → ⊥) → IsNamed (kept dir xs) bytes
    from [] (h, _) = absurd (true≢false (sym h))
    from (x ∷ xs) (h, apart) = into x xs (has_bytes dir x) apart refl (either (has_bytes bytes x) (list_any (has_bytes bytes) xs) h) (λ e. from xs (e, apart))

-- the devices of a store were handed out, and its name was listed
pub goes_out : {A T E : Type 0} (old new : List (String A)) (name : String A) (dir : List ℕ) (taken : T)
    → string_bytes name ≡ dir → new ≡ old ++ name ∷ [] → GoesOut {Taken = T} {E = E} dir (IsNamed old) (IsNamed new) (Ok taken)
goes_out old new name dir taken is listed = record {
  ok = subst (λ (names : List (String _)). OneMoreOut dir (IsNamed old) (IsNamed names)) (sym listed)
      (subst (λ (bytes : List ℕ). OneMoreOut bytes (IsNamed old) (IsNamed (old ++ name ∷ []))) is (one_more old name));
  err = tt;
}

-- a refused call lists none
pub goes_not_out : {A T E : Type 0} (old new : List (String A)) (dir : List ℕ) (why : E)
    → new ≡ old → GoesOut {Taken = T} {E = E} dir (IsNamed old) (IsNamed new) (Err why)
goes_not_out old new dir why same = record {
  ok = tt;
  err = λ bytes. subst (λ (names : List (String _)). IsNamed names bytes ↔ IsNamed old bytes) (sym same) ((λ h. h), (λ h. h));
}

-- a store came back, and its name was taken from the list
pub comes_back : {A : Type 0} (old new : List (String A)) (dir : List ℕ)
    → new ≡ filter (λ (name : String A). not (has_bytes dir name)) old → OneLessOut dir (IsNamed old) (IsNamed new)
comes_back old new dir left = subst (λ (names : List (String _)). OneLessOut dir (IsNamed old) (IsNamed names)) (sym left) (one_less old dir)
