-- What writes capture, one after the other.
use Rattle.std.proofs.Common.{◌≡◌, ◌∙◌, ◌+◌, ◌<◌, ◌≤◌, ℕ, Bool, true, false, List, [], ◌∷◌, ◌++◌, cond, length, drop, map, get_or, refl, sym, ap, subst, append_assoc}
use Rattle.std.proofs.lemmas.List.Elements.{All-from_recursion}
use Rattle.std.proofs.lemmas.List.{drop_more, drop_all, append-nil}
use Rattle.history.specs.declared.entry.Base.{Base}
use Rattle.history.specs.declared.writes.PageImage.{PageImage}
use Rattle.history.specs.History.{before_write, capturing, captures_page}
use Rattle.page_pool.specs.Side.{Pool, held}
use Rattle.desk.specs.Steps.{AreHeld}

pub held_at : {D : Type 0} (pool : Pool D) (writes : List PageImage) (i : ℕ) (d : PageImage) → AreHeld pool writes → i < length writes → d ≡ get_or writes i d → held pool d.page ≡ true
held_at pool writes i d all lt is = subst (λ (w : PageImage). held pool w.page ≡ true) (sym is) (All-from_recursion (λ (write : PageImage). held pool write.page ≡ true) writes all i d lt)

capturing-cons : (base : Base) (write : PageImage) (writes : List PageImage) → capturing base (write ∷ writes) ≡ capturing base (write ∷ []) ++ capturing base writes
capturing-cons base write writes = go (captures_page base write.page) where
  go : (b : Bool) → cond b (write ∷ capturing base writes) (capturing base writes) ≡ cond b (write ∷ []) [] ++ capturing base writes
  go true = refl
  go false = refl

-- a list made of what is captured, by any function that goes over lists piece by piece
module _ {X : Type 0} (f : List PageImage → List X) (joins : (xs ys : List PageImage) → f (xs ++ ys) ≡ f xs ++ f ys) (base : Base) (writes : List PageImage) where
  pub made_more : (i : ℕ) (write : PageImage) (made more : List X) → i < length writes → write ≡ get_or writes i write
      → more ≡ made ++ f (capturing base (write ∷ [])) → made ++ f (capturing base (drop i writes)) ≡ f (capturing base writes)
      → more ++ f (capturing base (drop (i + 1) writes)) ≡ f (capturing base writes)
  made_more i write made more lt is added so_far =
      ap (λ (l : List X). l ++ f (capturing base (drop (i + 1) writes))) added
      ∙ append_assoc made (f (capturing base (write ∷ []))) (f (capturing base (drop (i + 1) writes)))
      ∙ ap (λ (l : List X). made ++ l) (sym (joins (capturing base (write ∷ [])) (capturing base (drop (i + 1) writes))) ∙ ap f (sym (capturing-cons base write (drop (i + 1) writes))))
      ∙ ap (λ (l : List PageImage). made ++ f (capturing base l)) (ap (λ (w : PageImage). w ∷ drop (i + 1) writes) is ∙ sym (drop_more writes i write lt))
      ∙ so_far

  pub made_all : (i : ℕ) (made : List X) → length writes ≤ i → f [] ≡ [] → made ++ f (capturing base (drop i writes)) ≡ f (capturing base writes) → made ≡ f (capturing base writes)
  made_all i made past none so_far =
      sym (append-nil made) ∙ ap (λ (l : List X). made ++ l) (sym none)
      ∙ ap (λ (l : List PageImage). made ++ f (capturing base l)) (sym (drop_all i writes past)) ∙ so_far

pub map-joins : (pages : ℕ → List ℕ) (xs ys : List PageImage) → map (before_write pages) (xs ++ ys) ≡ map (before_write pages) xs ++ map (before_write pages) ys
map-joins pages [] ys = refl
map-joins pages (x ∷ xs) ys = ap (λ (l : List PageImage). before_write pages x ∷ l) (map-joins pages xs ys)
