-- Lists of answers, one more at a time.
use Rattle.std.proofs.Common.{◌≡◌, ◌∙◌, ◌<◌, ◌+◌, ℕ, ℤ, ◌+ℤ◌, Bool, true, false, List, [], ◌∷◌, ◌++◌, Result, Ok, Err, map, drop, get_or, length, refl, sym, ap, append_assoc}
use Rattle.std.specs.List.{flat_map}
use Rattle.std.proofs.lemmas.List.{drop_more}
use Rattle.std.proofs.Math.IntN.{+ℤ_assoc}
use Rattle.retro_base.specs.Gives.{◌>>=◌}
use Rattle.retro_base.specs.declared.refusal.Refusal.{Refusal}
use Rattle.values.specs.declared.value.Value.{Value}
use Rattle.values.specs.declared.value.Value.TheVariants.{Int, Text}
use Rattle.sql_select.specs.Aggregates.{number_of, total, whole}
use Rattle.sql_select.specs.Bound.{sum_from}
use Rattle.sql_select.specs.Each.{each, onto}
use Rattle.sql_select.specs.Rows.{beside, kept}

-- a number more of a sum
sum_on : (sum n : ℤ) (values : List Value) (rest : Result (List ℤ) Refusal) → each number_of values ≡ rest → each number_of (Int n ∷ values) >>= (λ ns. whole (sum +ℤ total ns)) ≡ each number_of values >>= (λ ns. whole ((sum +ℤ n) +ℤ total ns))
sum_on sum n values (Ok ns) e = rw e (ap whole (sym (+ℤ_assoc sum n (total ns))))
sum_on sum n values (Err why) e = rw e refl

pub sum_more : (sum n : ℤ) (values : List Value) → each number_of (Int n ∷ values) >>= (λ ns. whole (sum +ℤ total ns)) ≡ each number_of values >>= (λ ns. whole ((sum +ℤ n) +ℤ total ns))
sum_more sum n values = sum_on sum n values (each number_of values) refl

pub sum_step : (values : List Value) (i : ℕ) (x : Value) (sum n after : ℤ) (end : Result Value Refusal) → i < length values → x ≡ get_or values i x → x ≡ Int n → after ≡ sum +ℤ n
    → each number_of (drop i values) >>= (λ ns. whole (sum +ℤ total ns)) ≡ end → each number_of (drop (i + 1) values) >>= (λ ns. whole (after +ℤ total ns)) ≡ end
sum_step values i x sum n after end lt is number e h =
    let at : drop i values ≡ Int n ∷ drop (i + 1) values = drop_more values i x lt ∙ ap (λ v. v ∷ drop (i + 1) values) (sym is ∙ number) in
    ap (λ z. each number_of (drop (i + 1) values) >>= (λ ns. whole (z +ℤ total ns))) e
    ∙ sym (ap (λ l. each number_of l >>= (λ ns. whole (sum +ℤ total ns))) at ∙ sum_more sum n (drop (i + 1) values))
    ∙ h

-- one item more of a list of answers that goes on to an end
one_more : {X Y Z : Type 0} (f : X → Result Y Refusal) (g h : List Y → Result Z Refusal) (x : X) (y : Y) (rest : List X) → f x ≡ Ok y → ((ys : List Y) → h ys ≡ g (y ∷ ys)) → (r : Result (List Y) Refusal) → each f rest ≡ r → each f rest >>= h ≡ each f (x ∷ rest) >>= g
one_more f g h x y rest e same (Ok ys) is = rw (e, is) (same ys)
one_more f g h x y rest e same (Err why) is = rw (e, is) refl

pub item_at : {X : Type 0} (xs : List X) (i : ℕ) (x : X) → i < length xs → x ≡ get_or xs i x → drop i xs ≡ x ∷ drop (i + 1) xs
item_at xs i x lt is = drop_more xs i x lt ∙ ap (λ v. v ∷ drop (i + 1) xs) (sym is)

each_more : {X Y Z : Type 0} (f : X → Result Y Refusal) (g h : List Y → Result Z Refusal) (xs : List X) (i : ℕ) (x : X) (y : Y) (end : Result Z Refusal) → i < length xs → x ≡ get_or xs i x → f x ≡ Ok y → ((ys : List Y) → h ys ≡ g (y ∷ ys))
    → each f (drop i xs) >>= g ≡ end → each f (drop (i + 1) xs) >>= h ≡ end
each_more f g h xs i x y end lt is e same so_far =
    one_more f g h x y (drop (i + 1) xs) e same (each f (drop (i + 1) xs)) refl ∙ sym (ap (λ l. each f l >>= g) (item_at xs i x lt is)) ∙ so_far

sum_next : (has_text : Bool) (sum n : ℤ) (values : List Value) → sum_from has_text (sum +ℤ n) values ≡ sum_from has_text sum (Int n ∷ values)
sum_next true sum n values = refl
sum_next false sum n values = sym (sum_more sum n values)

sum_text : (has_text : Bool) (sum after : ℤ) (t : List ℕ) (values : List Value) → sum_from true after values ≡ sum_from has_text sum (Text t ∷ values)
sum_text true sum after t values = refl
sum_text false sum after t values = refl

-- a value more of a sum: a number, or a text
module _ {X : Type 0} (f : X → Result Value Refusal) (xs : List X) (i : ℕ) (x : X) (value : Value) (had_text has_text : Bool) (sum after : ℤ) (end : Result Value Refusal) (lt : i < length xs) (is : x ≡ get_or xs i x) (gives : f x ≡ Ok value) (so_far : each f (drop i xs) >>= sum_from had_text sum ≡ end) where
  pub number_more : (n : ℤ) → value ≡ Int n → has_text ≡ had_text → after ≡ sum +ℤ n → each f (drop (i + 1) xs) >>= sum_from has_text after ≡ end
  number_more n number same added = each_more f (sum_from had_text sum) (sum_from has_text after) xs i x value end lt is gives (λ values. rw (same, added, number) (sum_next had_text sum n values)) so_far

  pub text_more : (t : List ℕ) → value ≡ Text t → has_text ≡ true → each f (drop (i + 1) xs) >>= sum_from has_text after ≡ end
  text_more t text met = each_more f (sum_from had_text sum) (sum_from has_text after) xs i x value end lt is gives (λ values. rw (met, text) (sum_text had_text sum after t values)) so_far

module _ (holds : List Value → Result Bool Refusal) where
  onto_nothing : (r : Result (List (List Value)) Refusal) → onto [] r ≡ r
  onto_nothing (Ok xs) = refl
  onto_nothing (Err why) = refl

  kept_on : (x : List Value) (xs ys : List (List Value)) (h : Result Bool Refusal) (one : Result (List (List Value)) Refusal) (others : Result (List (List Value)) Refusal)
      → holds x ≡ h → kept holds xs ≡ one → kept holds ys ≡ others → kept holds (xs ++ ys) ≡ kept holds xs >>= (λ l. onto l (kept holds ys))
      → kept holds ((x ∷ xs) ++ ys) ≡ kept holds (x ∷ xs) >>= (λ l. onto l (kept holds ys))
  kept_on x xs ys (Err why) one others h o r ih = rw h refl
  kept_on x xs ys (Ok b) (Err why) others h o r ih = rw (h, ih, o) refl
  kept_on x xs ys (Ok b) (Ok l) (Err why) h o r ih = rw (h, ih, o, r) refl
  kept_on x xs ys (Ok true) (Ok l) (Ok zs) h o r ih = rw (h, ih, o, r) refl
  kept_on x xs ys (Ok false) (Ok l) (Ok zs) h o r ih = rw (h, ih, o, r) refl

  -- what is kept of two lists of rows
  pub kept-append : (xs ys : List (List Value)) → kept holds (xs ++ ys) ≡ kept holds xs >>= (λ l. onto l (kept holds ys))
  kept-append [] ys = sym (onto_nothing (kept holds ys))
  kept-append (x ∷ xs) ys = kept_on x xs ys (holds x) (kept holds xs) (kept holds ys) refl refl refl (kept-append xs ys)

  onto_both : (front xs : List (List Value)) (r : Result (List (List Value)) Refusal) → onto front (onto xs r) ≡ onto (front ++ xs) r
  onto_both front xs (Ok ys) = ap (λ l. Ok l) (sym (append_assoc front xs ys))
  onto_both front xs (Err why) = refl

  more_by : (front after xs ys : List (List Value)) (one : Result (List (List Value)) Refusal) → kept holds xs ≡ one → onto front (kept holds xs) ≡ Ok after → onto front (kept holds (xs ++ ys)) ≡ onto after (kept holds ys)
  more_by front after xs ys (Ok l) o e =
      let is : front ++ l ≡ after = ok_same (sym (ap (onto front) o) ∙ e) in
      ap (onto front) (kept-append xs ys ∙ ap (λ r. r >>= (λ l. onto l (kept holds ys))) o) ∙ onto_both front l (kept holds ys) ∙ ap (λ l. onto l (kept holds ys)) is
    where
      ok_same : {a b : List (List Value)} → ◌≡◌ {A = Result (List (List Value)) Refusal} (Ok a) (Ok b) → a ≡ b
      ok_same e = cc
  more_by front after xs ys (Err why) o e = let bad : ◌≡◌ {A = Result (List (List Value)) Refusal} (Err why) (Ok after) = sym (ap (onto front) o) ∙ e in absurd cc

  -- the rows kept so far, with those of a list of rows more
  pub kept_more : (front after xs ys : List (List Value)) → onto front (kept holds xs) ≡ Ok after → onto front (kept holds (xs ++ ys)) ≡ onto after (kept holds ys)
  kept_more front after xs ys e = more_by front after xs ys (kept holds xs) refl e

  refused_by : (front xs ys : List (List Value)) (why : Refusal) (one : Result (List (List Value)) Refusal) → kept holds xs ≡ one → onto front (kept holds xs) ≡ Err why → onto front (kept holds (xs ++ ys)) ≡ Err why
  refused_by front xs ys why (Ok l) o e = let bad : ◌≡◌ {A = Result (List (List Value)) Refusal} (Ok (front ++ l)) (Err why) = sym (ap (onto front) o) ∙ e in absurd cc
  refused_by front xs ys why (Err other) o e =
      ap (onto front) (kept-append xs ys ∙ ap (λ r. r >>= (λ l. onto l (kept holds ys))) o) ∙ sym (ap (onto front) o) ∙ e

  pub kept_refused : (front xs ys : List (List Value)) (why : Refusal) → onto front (kept holds xs) ≡ Err why → onto front (kept holds (xs ++ ys)) ≡ Err why
  kept_refused front xs ys why e = refused_by front xs ys why (kept holds xs) refl e

  module _ {R : Type 0} (row_of : R → List Value) (seconds : List (List Value)) where
    abbrev pairs : List R → List (List Value)
    pairs firsts = flat_map (beside seconds) (map row_of firsts)

    at_first : (firsts : List R) (i : ℕ) (x : R) (first : List Value) → i < length firsts → x ≡ get_or firsts i x → first ≡ row_of x → pairs (drop i firsts) ≡ beside seconds first ++ pairs (drop (i + 1) firsts)
    at_first firsts i x first lt is row =
        ap pairs (drop_more firsts i x lt) ∙ ap (λ r. beside seconds r ++ pairs (drop (i + 1) firsts)) (ap row_of (sym is) ∙ sym row)

    -- the pairs kept so far, with those of a row of the first table more
    pub pairs_more : (firsts : List R) (i : ℕ) (x : R) (first : List Value) (front after : List (List Value)) → i < length firsts → x ≡ get_or firsts i x → first ≡ row_of x
        → onto front (kept holds (beside seconds first)) ≡ Ok after → onto front (kept holds (pairs (drop i firsts))) ≡ onto after (kept holds (pairs (drop (i + 1) firsts)))
    pairs_more firsts i x first front after lt is row e =
        ap (λ l. onto front (kept holds l)) (at_first firsts i x first lt is row) ∙ kept_more front after (beside seconds first) (pairs (drop (i + 1) firsts)) e

    pub pairs_refused : (firsts : List R) (i : ℕ) (x : R) (first : List Value) (front : List (List Value)) (why : Refusal) → i < length firsts → x ≡ get_or firsts i x → first ≡ row_of x
        → onto front (kept holds (beside seconds first)) ≡ Err why → onto front (kept holds (pairs (drop i firsts))) ≡ Err why
    pairs_refused firsts i x first front why lt is row e =
        ap (λ l. onto front (kept holds l)) (at_first firsts i x first lt is row) ∙ kept_refused front (beside seconds first) (pairs (drop (i + 1) firsts)) why e
