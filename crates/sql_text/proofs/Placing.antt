-- Tokens one after the other, with their places.
use Rattle.std.proofs.Common.{◌≡◌, ◌<◌, ◌+◌, ◌∙◌, ◌++◌, ◌∷◌, [], ℕ, suc, List, Bool, true, false, length, take, refl, ap, subst, sym, append_assoc, append-nil, add-one, arith}
use Rattle.sql_lexer.specs.declared.token.Placed.{Placed}
use Rattle.sql_lexer.specs.declared.token.Token.{Token}
use Rattle.sql_parts.specs.declared.action.Op.{Op}
use Rattle.sql_grammar.specs.declared.grammar.Rule.{Rule}
use Rattle.sql_grammar.specs.declared.grammar.Rule.TheVariants.{Sentence}
use Rattle.sql_grammar.specs.declared.grammar.Symbol.{Symbol}
use Rattle.sql_grammar.specs.Derivation.{Begins, Reaches}
use Rattle.sql_grammar.specs.Machine.{Stands, Takes}
use Rattle.sql_text.specs.Places.{AllBefore, place_at, tokens_of}
use Rattle.sql_text.specs.Reading.{StopsAt}

tokens_of-append : (xs ys : List Placed) → tokens_of (xs ++ ys) ≡ tokens_of xs ++ tokens_of ys
tokens_of-append [] ys = refl
tokens_of-append (x ∷ xs) ys = ap (λ ts. x.token ∷ ts) (tokens_of-append xs ys)

pub length-tokens_of : (xs : List Placed) → length (tokens_of xs) ≡ length xs
length-tokens_of [] = refl
length-tokens_of (x ∷ xs) = ap suc (length-tokens_of xs)

-- a loop over the tokens
pub took : (b : Bool) (r : Rule) (xs : List Placed) (t : Placed) (ss : List Symbol) (ops : List Op) → b ≡ true → Takes b r (tokens_of xs) t.token ss ops → Stands r (tokens_of (xs ++ t ∷ [])) ss ops
took b r xs t ss ops e h =
    let P : Bool → Type 0 = λ x. Takes x r (tokens_of xs) t.token ss ops in
    let T : List Token → Type 0 = λ x. Stands r x ss ops in
    subst T (sym (tokens_of-append xs (t ∷ []))) (subst P e h)

pub one_on : {X : Type 0} (all done left new : List X) (x : X) → all ≡ done ++ left → left ≡ x ∷ new → all ≡ (done ++ x ∷ []) ++ new
one_on all done left new x e h = e ∙ ap (λ ys. done ++ ys) h ∙ sym (append_assoc done (x ∷ []) new)

pub none_left : {X : Type 0} (xs : List X) → length xs ≡ 0 → xs ≡ []
none_left [] e = refl
none_left (x ∷ xs) e = absurd (omega (arith, e))

pub all_done : (r : Rule) (all done left : List Placed) (ss : List Symbol) (ops : List Op) → all ≡ done ++ left → left ≡ [] → Stands r (tokens_of done) ss ops → Stands r (tokens_of all) ss ops
all_done r all done left ss ops e h s =
    let P : List Placed → Type 0 = λ x. Stands r (tokens_of x) ss ops in
    subst P (sym (e ∙ ap (λ ys. done ++ ys) h ∙ append-nil done)) s

-- how far tokens begin a sentence
take_front : {X : Type 0} (xs ys : List X) → take (length xs) (xs ++ ys) ≡ xs
take_front [] ys = refl
take_front (x ∷ xs) ys = ap (λ zs. x ∷ zs) (take_front xs ys)

take_one_more : {X : Type 0} (xs ys : List X) (y : X) → take (suc (length xs)) (xs ++ y ∷ ys) ≡ xs ++ y ∷ []
take_one_more [] ys y = refl
take_one_more (x ∷ xs) ys y = ap (λ zs. x ∷ zs) (take_one_more xs ys y)

pub length-append : {X : Type 0} (xs ys : List X) → length (xs ++ ys) ≡ length xs + length ys
length-append [] ys = omega arith
length-append (x ∷ xs) ys = let ih = length-append xs ys in omega (arith, ih)

reaches_up_to : (r : Rule) (xs ys : List Token) (y : Token) → Begins r xs → (Begins r (xs ++ y ∷ []) → ⊥) → Reaches r (xs ++ y ∷ ys) (length xs)
reaches_up_to r xs ys y b never =
    let P : List Token → Type 0 = λ x. Begins r x in
    record {
      within = omega (arith, length-append xs (y ∷ ys));
      before = subst P (sym (take_front xs (y ∷ ys))) b;
      refused = λ lt m. never (subst P (ap (λ n. take n (xs ++ y ∷ ys)) (add-one (length xs)) ∙ take_one_more xs ys y) m);
    }

pub reaches_all : (r : Rule) (ts : List Token) → Begins r ts → Reaches r ts (length ts)
reaches_all r ts b =
    let P : List Token → Type 0 = λ x. Begins r x in
    record {
      within = omega arith;
      before = subst P (sym (ap (λ xs. take (length ts) xs) (sym (append-nil ts)) ∙ take_front ts [])) b;
      refused = λ lt m. absurd (omega (arith, lt));
    }

place_at-front : (xs ys : List Placed) (t : Placed) (end : ℕ) → place_at (xs ++ t ∷ ys) (length xs) end ≡ t.place
place_at-front [] ys t end = refl
place_at-front (x ∷ xs) ys t end = place_at-front xs ys t end

pub place_at-end : (ts : List Placed) (end : ℕ) → place_at ts (length ts) end ≡ end
place_at-end [] end = refl
place_at-end (t ∷ ts) end = place_at-end ts end

stops_in : (before after : List Placed) (t : Placed) → Begins Sentence (tokens_of before) → (Begins Sentence (tokens_of before ++ t.token ∷ []) → ⊥) → StopsAt (before ++ t ∷ after) t.place
stops_in before after t b never =
    let P : List Token → Type 0 = λ x. Reaches Sentence x (length before) in
    let Q : ℕ → Type 0 = λ n. Reaches Sentence (tokens_of before ++ t.token ∷ tokens_of after) n in (
      length before,
      omega (arith, length-append before (t ∷ after)),
      subst P (sym (tokens_of-append before (t ∷ after))) (subst Q (length-tokens_of before) (reaches_up_to Sentence (tokens_of before) (tokens_of after) t.token b never)),
      λ end. sym (place_at-front before after t end),
    )

pub stops : (taken : Bool) (ts before left after : List Placed) (t : Placed) (ss : List Symbol) (ops : List Op) → taken ≡ false → ts ≡ before ++ left → left ≡ t ∷ after
    → Begins Sentence (tokens_of before) → Takes taken Sentence (tokens_of before) t.token ss ops → StopsAt ts t.place
stops taken ts before left after t ss ops n e h b never =
    let P : List Placed → Type 0 = λ x. StopsAt x t.place in
    let T : Bool → Type 0 = λ x. Takes x Sentence (tokens_of before) t.token ss ops in
    subst P (sym (e ∙ ap (λ ys. before ++ ys) h)) (stops_in before after t b (subst T n never))

-- a token of a line stands before its end
in_front : (end : ℕ) (before after : List Placed) (t : Placed) → AllBefore end (before ++ t ∷ after) → t.place < end
in_front end [] after t h = h.0
in_front end (x ∷ before) after t h = in_front end before after t h.1

pub place_below : (end : ℕ) (ts before left after : List Placed) (t : Placed) → AllBefore end ts → ts ≡ before ++ left → left ≡ t ∷ after → t.place < end
place_below end ts before left after t h e l =
    let P : List Placed → Type 0 = λ x. AllBefore end x in
    in_front end before after t (subst P (e ∙ ap (λ ys. before ++ ys) l) h)
