-- Rows that go to the end of a table, with where they stand.
use Rattle.std.proofs.Common.{◌≡◌, ◌⊎◌, ◌++◌, ◌∙◌, ℕ, List, [], ◌∷◌, length, Result, Ok, Err, ap, sym, refl, arith, inl, inr}
use Rattle.std.proofs.lemmas.List.{append-nil}
use Rattle.std.specs.List.{zip}
use Rattle.retro_base.specs.declared.refusal.Refusal.{Refusal}
use Rattle.values.specs.declared.value.Value.{Value}
use Rattle.pager.specs.Pages.{Pages}
use Rattle.heap_file.specs.declared.chain.Placed.{Placed}
use Rattle.heap_file.specs.Work as heap
use Rattle.relation.specs.Work.{all_placed, standing}

abbrev pub told : List (ℕ × ℕ) → Pages → Result (List (ℕ × ℕ) × Pages) Refusal
told spots pages = Ok (spots, pages)

abbrev pub told_in : Result (List (ℕ × ℕ) × Pages) Refusal → List (ℕ × ℕ) × Pages → List (ℕ × ℕ) × Pages
told_in (Ok answer) other = answer
told_in (Err why) other = other

-- the parts of one answer
parts : (p q : List (ℕ × ℕ)) (m n : Pages) → told p m ≡ told q n → (p ≡ q) × (m ≡ n)
parts p q m n e =
    let both : (p, m) ≡ (q, n) = ap (λ (r : Result (List (ℕ × ℕ) × Pages) Refusal). told_in r (p, m)) e in
    (ap (λ (x : List (ℕ × ℕ) × Pages). x.0) both, ap (λ (x : List (ℕ × ℕ) × Pages). x.1) both)

-- rows that are added are placed where their numbers and pages tell
pub all-standing : (size first : ℕ) (rows : List (List Value)) (spots : List (ℕ × ℕ)) (pages after : Pages) → heap.all_placed size first rows pages (Ok (spots, after)) → all_placed size first rows pages (Ok (standing (zip rows spots), after))
all-standing size first [] spots pages after h = ap (λ (p : Pages). Ok ([], p)) (parts [] spots pages after h).1
all-standing size first (row ∷ rows) spots pages after h =
    let here = h.0 in
    let others = h.2.0 in
    let same = parts (here.0 ∷ others.0) spots others.1 after h.2.2 in
    let placed : Placed = record { number = here.0.0; page = here.0.1; row = row } in
    let rest = all-standing size first rows others.0 here.1 others.1 h.2.1 in
    let whole : standing (zip (row ∷ rows) (here.0 ∷ others.0)) ≡ standing (zip (row ∷ rows) spots) = ap (λ (s : List (ℕ × ℕ)). standing (zip (row ∷ rows) s)) same.0 in
    ((placed, here.1), (here, h.1, refl), ((standing (zip rows others.0), others.1), rest, (λ i. Ok (whole i, same.1 i))))

-- a refusal of the one is a refusal of the other
pub none-standing : (size first : ℕ) (rows : List (List Value)) (pages : Pages) (why : Refusal) → heap.all_placed size first rows pages (Err why) → all_placed size first rows pages (Err why)
none-standing size first [] pages why h = absurd (differ h)
  where
    differ : told [] pages ≡ Err why → ⊥
    differ e = cc
none-standing size first (row ∷ rows) pages why (inl refused) = inl (inl refused)
none-standing size first (row ∷ rows) pages why (inr (here, added, inl later)) =
    inr ((record { number = here.0.0; page = here.0.1; row = row }, here.1), (here, added, refl), inl (none-standing size first rows here.1 why later))
none-standing size first (row ∷ rows) pages why (inr (here, added, inr (others, rest, e))) = absurd (differ e)
  where
    differ : {x : List (ℕ × ℕ)} {p : Pages} → told x p ≡ Err why → ⊥
    differ e = cc

-- nothing stands behind the end of either list
pub none-behind : (items whole : List Placed) (rows : List (List Value)) (spots : List (ℕ × ℕ)) → (length rows ≡ 0) ⊎ (length spots ≡ 0) → items ++ standing (zip rows spots) ≡ whole → items ≡ whole
none-behind items whole [] spots short is = sym (append-nil items) ∙ is
none-behind items whole (row ∷ rows) [] short is = sym (append-nil items) ∙ is
none-behind items whole (row ∷ rows) (spot ∷ spots) short is = absurd (elim short [ inl e ↦ omega arith | inr e ↦ omega arith ])
