-- Edits for each item of a list, one after the other.
use Rattle.std.proofs.Common.{◌≡◌, ◌∙◌, ◌<◌, ◌+◌, ◌++◌, ℕ, suc, List, [], ◌∷◌, length, get_or, take, drop, Result, Ok, Err, inl, inr, refl, sym, ap, subst, drop-cons}
use Rattle.std.proofs.lemmas.List.{take_more, take-append-drop}
use Rattle.retro_base.specs.declared.refusal.Refusal.{Refusal}
use Rattle.pager.specs.Allows.{in_turn, only}
use Rattle.pager.specs.Pages.{Pages}

-- a list around one of its items
pub around : {A : Type 0} (xs : List A) (i : ℕ) (d : A) → i < length xs → take i xs ++ get_or xs i d ∷ drop (suc i) xs ≡ xs
around xs i d lt = ap (λ l. take i xs ++ l) (sym (drop-cons xs i d lt)) ∙ take-append-drop i xs

abbrev pub pages_in : Pages → Result (Unit {0} × Pages) Refusal → Pages
pages_in other (Ok done) = done.1
pages_in other (Err why) = other

pub left_pages : (p q : Pages) → only {A = Unit {0} × Pages} (Ok (tt, p)) (Ok (tt, q)) → p ≡ q
left_pages p q h = ap (pages_in p) h

module _ {A X : Type 0} (step : A → Pages → Result (X × Pages) Refusal → Type 0) where
  -- edits for the items of two lists
  pub in_turn-join : (xs ys : List A) (p q : Pages) (answer : Result (Unit {0} × Pages) Refusal) → in_turn step xs p (Ok (tt, q)) → in_turn step ys q answer → in_turn step (xs ++ ys) p answer
  in_turn-join [] ys p q answer h more = subst (λ (at : Pages). in_turn step ys at answer) (sym (left_pages p q h)) more
  in_turn-join (x ∷ xs) ys p q (Ok y) h more = (h.0, h.1, in_turn-join xs ys h.0.1 q (Ok y) h.2 more)
  in_turn-join (x ∷ xs) ys p q (Err why) h more = inr (h.0, h.1, in_turn-join xs ys h.0.1 q (Err why) h.2 more)

  -- one edit more
  pub in_turn-push : (xs : List A) (x : A) (v : X) (p q r : Pages) → in_turn step xs p (Ok (tt, q)) → step x q (Ok (v, r)) → in_turn step (xs ++ x ∷ []) p (Ok (tt, r))
  in_turn-push xs x v p q r h s = in_turn-join xs (x ∷ []) p q (Ok (tt, r)) h ((v, r), s, refl)

  -- an edit that is refused
  pub in_turn-stop : (xs : List A) (x : A) (behind : List A) (p q : Pages) (why : Refusal) → in_turn step xs p (Ok (tt, q)) → step x q (Err why) → in_turn step (xs ++ x ∷ behind) p (Err why)
  in_turn-stop xs x behind p q why h s = in_turn-join xs (x ∷ behind) p q (Err why) h (inl s)

  -- the same for a list that is read from its front
  pub in_turn-next : (xs : List A) (i : ℕ) (x : A) (v : X) (p q r : Pages) → i < length xs → x ≡ get_or xs i x → in_turn step (take i xs) p (Ok (tt, q)) → step x q (Ok (v, r)) → in_turn step (take (i + 1) xs) p (Ok (tt, r))
  in_turn-next xs i x v p q r lt is h s =
      rw (take_more xs i x lt, ← is) (in_turn-push (take i xs) x v p q r h s)

  pub in_turn-ended : (xs : List A) (i : ℕ) (x : A) (p q : Pages) (why : Refusal) → i < length xs → x ≡ get_or xs i x → in_turn step (take i xs) p (Ok (tt, q)) → step x q (Err why) → in_turn step xs p (Err why)
  in_turn-ended xs i x p q why lt is h s =
      subst (λ l. in_turn step l p (Err why)) (ap (λ y. take i xs ++ y ∷ drop (suc i) xs) is ∙ around xs i x lt) (in_turn-stop (take i xs) x (drop (suc i) xs) p q why h s)
