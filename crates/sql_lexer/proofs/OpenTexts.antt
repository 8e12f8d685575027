-- A text after its first quote, up to where it stops: no line has two.
use Rattle.std.proofs.Common.{◌≡◌, ◌∙◌, ◌≢◌, ◌==◌, ℕ, Bool, true, false, cond, List, [], ◌∷◌, ◌++◌, refl, sym, ap, subst, arith}
use Rattle.std.specs.List.{AllByRecursion}
use Rattle.std.proofs.lemmas.Bool.{false≢true}
use Rattle.std.proofs.lemmas.Bool.Decides.{nat_tests}
use Rattle.values.specs.Text.{IsPrintable}
use Rattle.sql_lexer.specs.Lexes.{EndsBefore}
use Rattle.sql_lexer.specs.Token.{quote, doubled}

-- a text does not go on with these bytes: none is left, or one that is not printable comes, or a lone quote
pub data Stops : List ℕ → Type 0 where
  ends : Stops []
  bad : {b : ℕ} {bs : List ℕ} → (IsPrintable b → ⊥) → Stops (b ∷ bs)
  closes : {bs : List ℕ} → EndsBefore (λ b. b == quote) bs → Stops (quote ∷ bs)

-- a quote or another byte
pub data Byte (b : ℕ) : Type 0 where
  a_quote : b ≡ quote → Byte b
  another : b ≢ quote → (b == quote) ≡ false → ((bs : List ℕ) → doubled (b ∷ bs) ≡ b ∷ doubled bs) → Byte b

pub byte : (b : ℕ) → Byte b
byte b = go (b == quote) refl
  where
    go : (v : Bool) → (b == quote) ≡ v → Byte b
    go true e = a_quote (grind (arith, nat_tests))
    go false e = another (λ is. grind (arith, nat_tests)) e (λ bs. ap (λ v. cond v (quote ∷ quote ∷ []) (b ∷ []) ++ doubled bs) e)

doubled-quote : (b : ℕ) (bs : List ℕ) → b ≡ quote → doubled (b ∷ bs) ≡ quote ∷ quote ∷ doubled bs
doubled-quote b bs is = ap (λ c. doubled (c ∷ bs)) is

-- what stops a text does not begin as one goes on
no_more : (r : List ℕ) (y : ℕ) (ys s : List ℕ) → Stops r → IsPrintable y → r ≡ doubled (y ∷ ys) ++ s → ⊥
no_more r y ys s stops printable e = go (byte y)
  where
    starts_other : {r : List ℕ} → Stops r → y ≢ quote → r ≡ y ∷ (doubled ys ++ s) → ⊥
    starts_other ends other e = cc
    starts_other (bad {b} not_printable) other e = let same : y ≡ b = cc in not_printable (subst IsPrintable same printable)
    starts_other (closes ends_before) other e = other cc

    starts_quote : {r : List ℕ} → Stops r → r ≡ quote ∷ quote ∷ (doubled ys ++ s) → ⊥
    starts_quote ends e = cc
    starts_quote (bad {b} not_printable) e = let is : b ≡ quote = cc in not_printable (omega arith, omega arith)
    starts_quote (closes {bs} ends_before) e =
        let same : bs ≡ quote ∷ (doubled ys ++ s) = cc in
        let h : EndsBefore (λ b. b == quote) (quote ∷ (doubled ys ++ s)) = subst (EndsBefore (λ b. b == quote)) same ends_before in false≢true (sym h)

    go : Byte y → ⊥
    go (a_quote is) = starts_quote stops (e ∙ ap (λ x. x ++ s) (doubled-quote y ys is))
    go (another other differs is) = starts_other stops other (e ∙ ap (λ x. x ++ s) (is ys))

pub same_text : (t u r s : List ℕ) → AllByRecursion IsPrintable t → AllByRecursion IsPrintable u → Stops r → Stops s → doubled t ++ r ≡ doubled u ++ s → (t ≡ u) × (r ≡ s)
same_text [] [] r s p q h k e = (refl, e)
same_text [] (y ∷ ys) r s p q h k e = absurd (no_more r y ys s h q.0 e)
same_text (x ∷ xs) [] r s p q h k e = absurd (no_more s x xs r k p.0 (sym e))
same_text (x ∷ xs) (y ∷ ys) r s p q h k e = go (byte x) (byte y) (same_text xs ys r s p.1 q.1 h k)
  where
    go : Byte x → Byte y → (doubled xs ++ r ≡ doubled ys ++ s → (xs ≡ ys) × (r ≡ s)) → (x ∷ xs ≡ y ∷ ys) × (r ≡ s)
    go (a_quote x_is) (a_quote y_is) rest =
        let f : quote ∷ quote ∷ (doubled xs ++ r) ≡ quote ∷ quote ∷ (doubled ys ++ s) = sym (ap (λ z. z ++ r) (doubled-quote x xs x_is)) ∙ e ∙ ap (λ z. z ++ s) (doubled-quote y ys y_is) in
        let g = rest cc in
        (cc, g.1)
    go (a_quote x_is) (another y_other y_differs y_is) rest =
        let f : quote ∷ quote ∷ (doubled xs ++ r) ≡ y ∷ (doubled ys ++ s) = sym (ap (λ z. z ++ r) (doubled-quote x xs x_is)) ∙ e ∙ ap (λ z. z ++ s) (y_is ys) in
        absurd (y_other cc)
    go (another x_other x_differs x_is) (a_quote y_is) rest =
        let f : x ∷ (doubled xs ++ r) ≡ quote ∷ quote ∷ (doubled ys ++ s) = sym (ap (λ z. z ++ r) (x_is xs)) ∙ e ∙ ap (λ z. z ++ s) (doubled-quote y ys y_is) in
        absurd (x_other cc)
    go (another x_other x_differs x_is) (another y_other y_differs y_is) rest =
        let f : x ∷ (doubled xs ++ r) ≡ y ∷ (doubled ys ++ s) = sym (ap (λ z. z ++ r) (x_is xs)) ∙ e ∙ ap (λ z. z ++ s) (y_is ys) in
        let g = rest cc in
        (cc, g.1)
