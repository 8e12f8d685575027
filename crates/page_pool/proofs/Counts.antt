-- How many pages pass a test.
use Rattle.std.proofs.Common.{◌≡◌, ◌⊎◌, inl, inr, ◌∙◌, ◌+◌, ◌-◌, ◌<◌, ◌≤◌, ℕ, zero, suc, Bool, true, false, not, cond, Option, None, refl, sym, ap, subst, arith}
use Rattle.std.specs.Prelude.{IsSome}
use Rattle.std.proofs.lemmas.Bool.{both_ways, cases_eq}
use Rattle.page_pool.specs.declared.frames.Frame.{Frame}
use Rattle.page_pool.specs.Frames.{AreFrames, count_below, is_dirty_in, SetsFrame}

one_of : (b : Bool) → b ≡ true → ◌≡◌ {A = ℕ} (cond b 1 0) 1
one_of true e = refl
one_of false e = absurd (both_ways false refl e)

none_of : (b : Bool) → b ≡ false → ◌≡◌ {A = ℕ} (cond b 1 0) 0
none_of false e = refl
none_of true e = absurd (both_ways true e refl)

-- the tests that agree count the same
pub count-same : (f g : ℕ → Bool) (n : ℕ) → ((page : ℕ) → page < n → f page ≡ g page) → count_below f n ≡ count_below g n
count-same f g zero same = refl
count-same f g (suc n) same =
    ap (λ k. k + cond (f n) 1 0) (count-same f g n (λ page lt. same page (omega (arith, lt)))) ∙ ap (λ (b : Bool). count_below g n + cond b 1 0) (same n (omega arith))

pub count-le : (f : ℕ → Bool) (n : ℕ) → count_below f n ≤ n
count-le f zero = omega arith
count-le f (suc n) = omega (arith, count-le f n, small (f n)) where
  small : (b : Bool) → cond b 1 0 ≤ 1
  small true = omega arith
  small false = omega arith

-- a test that one page more passes counts one more
pub count-more : (f g : ℕ → Bool) (n page : ℕ) → page < n → f page ≡ false → g page ≡ true → ((other : ℕ) → (other ≡ page → ⊥) → g other ≡ f other) → count_below g n ≡ count_below f n + 1
count-more f g zero page lt clean soiled same = absurd (omega (arith, lt))
count-more f g (suc n) page lt clean soiled same = go (cases_eq n page) (λ less. count-more f g n page less clean soiled same) where
  go : (n ≡ page) ⊎ (n ≡ page → ⊥) → (page < n → count_below g n ≡ count_below f n + 1) → count_below g n + cond (g n) 1 0 ≡ (count_below f n + cond (f n) 1 0) + 1
  go (inl is) again =
      let front = count-same g f n (λ other less. same other (λ e. omega (arith, e, is, less))) in
      let last = one_of (g n) (ap g is ∙ soiled) in
      let none = none_of (f n) (ap f is ∙ clean) in
      omega (arith, front, last, none)
  go (inr apart) again =
      let front = again (omega (arith, lt, apart)) in
      let last : ◌≡◌ {A = ℕ} (cond (g n) 1 0) (cond (f n) 1 0) = ap (λ (b : Bool). cond b 1 0) (same n apart) in
      omega (arith, front, last)

module _ (old new : ℕ → Option Frame) (page : ℕ) (frame : Option Frame) (sets : SetsFrame old new page frame) (pages count : ℕ) (are : AreFrames old pages count) where
  marks : (other : ℕ) → (other ≡ page → ⊥) → is_dirty_in (new other) ≡ is_dirty_in (old other)
  marks other apart = ap is_dirty_in (sets.others other apart)

  within : (IsSome frame → page < pages) → (other : ℕ) → IsSome (new other) → other < pages
  within there other some = go (cases_eq other page) where
    go : (other ≡ page) ⊎ (other ≡ page → ⊥) → other < pages
    go (inl is) = subst (λ (n : ℕ). n < pages) (sym is) (there (subst (λ (o : Option Frame). IsSome o) (ap new is ∙ sets.here) some))
    go (inr apart) = are.within other (subst (λ (o : Option Frame). IsSome o) (sets.others other apart) some)

  -- a frame that is as dirty as the one before it
  pub sets_same : (IsSome frame → page < pages) → is_dirty_in frame ≡ is_dirty_in (old page) → AreFrames new pages count
  sets_same there same = record {
    within = within there;
    counted = are.counted ∙ count-same (λ other. is_dirty_in (old other)) (λ other. is_dirty_in (new other)) pages (λ other lt. go other (cases_eq other page));
  } where
    go : (other : ℕ) → (other ≡ page) ⊎ (other ≡ page → ⊥) → is_dirty_in (old other) ≡ is_dirty_in (new other)
    go other (inl is) = ap (λ n. is_dirty_in (old n)) is ∙ sym same ∙ ap is_dirty_in (sym sets.here) ∙ ap (λ n. is_dirty_in (new n)) (sym is)
    go other (inr apart) = sym (marks other apart)

  -- a dirty frame in the place of a clean one or of none
  pub sets_dirty : page < pages → is_dirty_in (old page) ≡ false → is_dirty_in frame ≡ true → AreFrames new pages (count + 1)
  sets_dirty there clean soiled = record {
    within = within (λ some. there);
    counted = omega (arith, are.counted, count-more (λ other. is_dirty_in (old other)) (λ other. is_dirty_in (new other)) pages page there clean (ap is_dirty_in sets.here ∙ soiled) marks);
  }

  -- a dirty frame in the place of any
  pub sets_marked : page < pages → is_dirty_in frame ≡ true → AreFrames new pages (count + cond (not (is_dirty_in (old page))) 1 0)
  sets_marked there soiled = go (is_dirty_in (old page)) refl where
    go : (b : Bool) → is_dirty_in (old page) ≡ b → AreFrames new pages (count + cond (not b) 1 0)
    go true e = subst (λ (n : ℕ). AreFrames new pages n) (omega arith) (sets_same (λ some. there) (soiled ∙ sym e))
    go false e = sets_dirty there e soiled

  -- each page is as dirty as before
  pub marks_same : is_dirty_in frame ≡ is_dirty_in (old page) → (other : ℕ) → is_dirty_in (new other) ≡ is_dirty_in (old other)
  marks_same same other = go (cases_eq other page) where
    go : (other ≡ page) ⊎ (other ≡ page → ⊥) → is_dirty_in (new other) ≡ is_dirty_in (old other)
    go (inl is) = ap (λ n. is_dirty_in (new n)) is ∙ ap is_dirty_in sets.here ∙ same ∙ ap (λ n. is_dirty_in (old n)) (sym is)
    go (inr apart) = marks other apart

  -- a clean frame, or none, in the place of a dirty one
  pub sets_clean : page < pages → is_dirty_in (old page) ≡ true → is_dirty_in frame ≡ false → AreFrames new pages (count - 1)
  sets_clean there soiled clean = record {
    within = within (λ some. there);
    counted = omega (arith, are.counted, count-more (λ other. is_dirty_in (new other)) (λ other. is_dirty_in (old other)) pages page there (ap is_dirty_in sets.here ∙ clean) soiled (λ other apart. sym (marks other apart)));
  }

count-some : (f : ℕ → Bool) (n page : ℕ) → page < n → f page ≡ true → 1 ≤ count_below f n
count-some f zero page lt soiled = absurd (omega (arith, lt))
count-some f (suc n) page lt soiled = go (cases_eq n page) (λ less. count-some f n page less soiled) where
  go : (n ≡ page) ⊎ (n ≡ page → ⊥) → (page < n → 1 ≤ count_below f n) → 1 ≤ count_below f n + cond (f n) 1 0
  go (inl is) again = let last = one_of (f n) (ap f is ∙ soiled) in omega (arith, last)
  go (inr apart) again = omega (arith, again (omega (arith, lt, apart)))

-- where a page is dirty some are
pub one_dirty : (frame : ℕ → Option Frame) (pages count page : ℕ) → AreFrames frame pages count → page < pages → is_dirty_in (frame page) ≡ true → 1 ≤ count
one_dirty frame pages count page are lt soiled = omega (arith, are.counted, count-some (λ other. is_dirty_in (frame other)) pages page lt soiled)

count-none : (f : ℕ → Bool) (n : ℕ) → ((page : ℕ) → f page ≡ false) → count_below f n ≡ 0
count-none f zero none = refl
count-none f (suc n) none = let last = none_of (f n) (none n) in omega (arith, count-none f n none, last)

-- no frame is dirty where there is none
pub none_dirty : (frame : ℕ → Option Frame) (pages : ℕ) → ((page : ℕ) → frame page ≡ None) → AreFrames frame pages 0
none_dirty frame pages none = record {
  within = λ page some. absurd (both_ways false refl (subst (λ (o : Option Frame). IsSome o) (none page) some));
  counted = sym (count-none (λ page. is_dirty_in (frame page)) pages (λ page. ap is_dirty_in (none page)));
}
