-- Pages in their places, and writes of pages.
use Rattle.std.proofs.Common.{◌≡◌, ◌<◌, ◌+◌, ◌∙◌, ℕ, suc, Bool, true, false, cond, not, ltb, leb, eqb, List, [], ◌∷◌, ◌++◌, length, take, drop, get_or, map, refl, sym, ap, subst, arith}
use Rattle.std.specs.Prelude.{unwrap_or, Some, None}
use Rattle.std.specs.List.{AllByRecursion, position, position_or_len, slice_set}
use Rattle.std.proofs.lemmas.List.Elements.{All-from_recursion}
use Rattle.std.proofs.lemmas.List.Sums.{prefix_len-le-length}
use Rattle.std.proofs.lemmas.Bool.{eqb-true, eq-eqb, ltb-false}
use Rattle.std.proofs.lemmas.List.{get_or-set_same, get_or-set_other, drop_more, drop_all, take_all, append-nil}
use Rattle.history.specs.declared.entry.Mark.{Mark}
use Rattle.history.specs.declared.writes.PageImage.{PageImage}
use Rattle.history.specs.Marks.{kept_marks}
use Rattle.history.specs.declared.entry.Base.{Base}
use Rattle.std.proofs.Math.Path.{fun_ext}
use Rattle.history.specs.Writes.{pages_of}
use Rattle.history.specs.History.{State, with_write, written, before_write}
use Rattle.history.specs.Replayed.{page_in}

abbrev pub state : Base → (ℕ → List ℕ) → State
state base pages = record { base = base; pages = pages }

-- where the first that passes stands, or the end
module _ {X : Type 0} (test : X → Bool) where
  pub place_is : (xs : List X) → unwrap_or (position test xs) (length xs) ≡ position_or_len test xs
  place_is xs = go (ltb (position_or_len test xs) (length xs)) refl where
    go : (b : Bool) → ltb (position_or_len test xs) (length xs) ≡ b → unwrap_or (cond b (Some (position_or_len test xs)) None) (length xs) ≡ position_or_len test xs
    go true e = refl
    go false e = omega (arith, ltb-false _ _ e, prefix_len-le-length (λ x. not (test x)) xs)

-- the marks from the first that is not below a number
pub kept-drop : (below : ℕ) (marks : List Mark) → kept_marks below marks ≡ drop (position_or_len (λ (mark : Mark). leb below mark.number) marks) marks
kept-drop below [] = refl
kept-drop below (mark ∷ marks) = go (leb below mark.number) (kept-drop below marks) where
  go : (b : Bool) → kept_marks below marks ≡ drop (position_or_len (λ (m : Mark). leb below m.number) marks) marks
      → cond b (mark ∷ marks) (kept_marks below marks) ≡ drop (cond (not b) (1 + position_or_len (λ (m : Mark). leb below m.number) marks) 0) (mark ∷ marks)
  go true again = refl
  go false again =
      let k : 1 + position_or_len (λ (m : Mark). leb below m.number) marks ≡ suc (position_or_len (λ (m : Mark). leb below m.number) marks) = omega arith in
      rw k again

-- writes over the same pages give the same pages
pub written-same : (writes : List PageImage) (f g : ℕ → List ℕ) → ((p : ℕ) → f p ≡ g p) → (p : ℕ) → written f writes p ≡ written g writes p
written-same [] f g same p = same p
written-same (write ∷ writes) f g same p = written-same writes (with_write f write) (with_write g write) (λ q. step (eqb write.page q) q) p where
  step : (b : Bool) (q : ℕ) → cond b write.bytes (f q) ≡ cond b write.bytes (g q)
  step true q = refl
  step false q = same q

-- a write into a list of pages
pub set_page : (pages : List (List ℕ)) (write : PageImage) → write.page < length pages → (p : ℕ) → page_in (slice_set pages write.page write.bytes) p ≡ with_write (page_in pages) write p
set_page pages write lt p = go (eqb write.page p) refl where
  go : (b : Bool) → eqb write.page p ≡ b → get_or (slice_set pages write.page write.bytes) p [] ≡ cond b write.bytes (get_or pages p [])
  go true e = let is : write.page ≡ p = eqb-true write.page p e in subst (λ q. get_or (slice_set pages write.page write.bytes) q [] ≡ write.bytes) is (get_or-set_same pages write.page write.bytes [] lt)
  go false e = get_or-set_other pages write.page p write.bytes [] (λ is. absurd (cc (e, eq-eqb write.page p (sym is))))

-- one write more
pub write_more : (pages : List (List ℕ)) (writes : List PageImage) (i : ℕ) (write : PageImage) → i < length writes → write ≡ get_or writes i write → write.page < length pages → (p : ℕ)
    → written (page_in (slice_set pages write.page write.bytes)) (drop (i + 1) writes) p ≡ written (page_in pages) (drop i writes) p
write_more pages writes i write lt is within p =
    written-same (drop (i + 1) writes) (page_in (slice_set pages write.page write.bytes)) (with_write (page_in pages) write) (set_page pages write within) p
    ∙ ap (λ (ws : List PageImage). written (page_in pages) ws p) (ap (λ (w : PageImage). w ∷ drop (i + 1) writes) is ∙ sym (drop_more writes i write lt))

-- each write is of a page in the list
pub within_at : (limit : ℕ) (writes : List PageImage) (i : ℕ) (d : PageImage) → AllByRecursion (λ (write : PageImage). write.page < limit) writes → i < length writes → (get_or writes i d).page < limit
within_at limit writes i d all lt = All-from_recursion (λ (write : PageImage). write.page < limit) writes all i d lt

-- states of one base whose pages agree are one
pub same_state : (base other : Base) (f g : ℕ → List ℕ) → base ≡ other → ((p : ℕ) → f p ≡ g p) → state base f ≡ state other g
same_state base other f g same agree = ap (λ b. state b f) same ∙ ap (state other) (fun_ext agree)

-- what a page had, of the same page
pub pages_of-before : (f : ℕ → List ℕ) (writes : List PageImage) → pages_of (map (before_write f) writes) ≡ pages_of writes
pages_of-before f [] = refl
pages_of-before f (write ∷ writes) = ap (λ (ps : List ℕ). write.page ∷ ps) (pages_of-before f writes)

-- what stands in a vector after its whole slice was written
pub written_back : {X : Type 0} (items new : List X) (count : ℕ) → length new ≡ length items → count ≡ length items → take count (new ++ drop (length new) items) ≡ new
written_back items new count same long =
    let none : drop (length new) items ≡ [] = drop_all (length new) items (omega arith) in
    let all : take count new ≡ new = take_all count new (omega arith) in
    rw (none, append-nil, all)
