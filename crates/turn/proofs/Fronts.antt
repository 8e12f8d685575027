-- Beginnings of one list, and the lines of one number.
use Rattle.std.proofs.Common.{◌≡◌, ◌≢◌, ℕ, zero, suc, ◌≤◌, List, [], ◌∷◌, ◌++◌, length, refl, ap, sym, ◌∙◌, arith, append_assoc, append-nil, length-append, ne_eqb, eqb, cond, ltb, Bool, true, false, ◌<◌, subst}
use Rattle.std.proofs.lemmas.Bool.Decides.{nat_tests}
use Rattle.std.proofs.lemmas.List.Elements.{filter-append}
use mathlib.Core.List.{IsPrefix}
use mathlib.Core.Option.{some, some-injective, some-ne-none}
use lib.ListN.{get_elem?}
use Rattle.history.specs.declared.journal.Line.{Line}
use Rattle.history.specs.Lines.{lines_of}
use Rattle.turn.specs.Views.{longer, longest}

pub prefix_self : {A : Type 0} (xs : List A) → IsPrefix xs xs
prefix_self xs = ([], append-nil xs)

pub prefix_trans : {A : Type 0} (xs ys zs : List A) → IsPrefix xs ys → IsPrefix ys zs → IsPrefix xs zs
prefix_trans xs ys zs p q = (p.0 ++ q.0, sym (append_assoc xs p.0 q.0) ∙ (ap (λ w. w ++ q.0) p.1 ∙ q.1))

-- of two beginnings of one list the shorter begins the longer
pub prefix_shorter : {A : Type 0} (xs ys zs : List A) → IsPrefix xs zs → IsPrefix ys zs → length xs ≤ length ys → IsPrefix xs ys
prefix_shorter [] ys zs p q le = (ys, refl)
prefix_shorter (x ∷ xs) [] zs p q le = absurd (omega arith)
prefix_shorter (x ∷ xs) (y ∷ ys) [] p q le = absurd (cc (p.1))
prefix_shorter (x ∷ xs) (y ∷ ys) (z ∷ zs) p q le =
    let heads : x ≡ y = cc (p.1, q.1) in
    let rest = prefix_shorter xs ys zs (p.0, cc (p.1)) (q.0, cc (q.1)) (omega arith) in
    (rest.0, cc (heads, rest.1))

pub prefix_length : {A : Type 0} (xs ys : List A) → IsPrefix xs ys → length xs ≤ length ys
prefix_length xs ys p = omega (arith, sym (ap length p.1) ∙ length-append xs p.0)

-- a line of another number
pub other_line : (n : ℕ) (J : List Line) (l : Line) → l.who.session ≢ n → lines_of n (J ++ l ∷ []) ≡ lines_of n J
other_line n J l other = rw filter-append (rw (ne_eqb l.who.session n other) (append-nil (lines_of n J)))

module _ {A : Type 0} (J : List A) where
  longer_at : (a b : List A) (t : Bool) → ltb (length a) (length b) ≡ t → IsPrefix a J → IsPrefix b J → IsPrefix (cond t b a) J × IsPrefix a (cond t b a) × IsPrefix b (cond t b a)
  longer_at a b true is p q = (q, prefix_shorter a b J p q (let h : length a < length b = grind (arith, nat_tests) in omega arith), prefix_self b)
  longer_at a b false is p q = (p, prefix_self a, prefix_shorter b a J q p (let h : length b ≤ length a = grind (arith, nat_tests) in h))

pub longer_of : (J a b : List Line) → IsPrefix a J → IsPrefix b J → IsPrefix (longer a b) J × IsPrefix a (longer a b) × IsPrefix b (longer a b)
longer_of J a b p q = longer_at J a b (ltb (length a) (length b)) refl p q

pub longest_of : (J f : List Line) (ts : List (List Line)) → IsPrefix f J → ((k : ℕ) (t : List Line) → get_elem? ts k ≡ some t → IsPrefix t J)
    → IsPrefix (longest f ts) J × IsPrefix f (longest f ts) × ((k : ℕ) (t : List Line) → get_elem? ts k ≡ some t → IsPrefix t (longest f ts))
longest_of J f [] p each = (p, prefix_self f, λ k t e. absurd (some-ne-none t (sym e)))
longest_of J f (t ∷ ts) p each =
    let l = longer_of J f t p (each zero t refl) in
    let r = longest_of J (longer f t) ts l.0 (λ k u e. each (suc k) u e) in
    (r.0, prefix_trans f (longer f t) (longest (longer f t) ts) l.1 r.1, at_each l.2 r.1 r.2)
  where
    at_each : IsPrefix t (longer f t) → IsPrefix (longer f t) (longest (longer f t) ts) → ((k : ℕ) (u : List Line) → get_elem? ts k ≡ some u → IsPrefix u (longest (longer f t) ts))
        → (k : ℕ) (u : List Line) → get_elem? (t ∷ ts) k ≡ some u → IsPrefix u (longest (longer f t) ts)
    at_each a b c zero u e = subst (λ (x : List Line). IsPrefix x (longest (longer f t) ts)) (some-injective t u e) (prefix_trans t (longer f t) (longest (longer f t) ts) a b)
    at_each a b c (suc k) u e = c k u e

-- a beginning as long as the whole is the whole
pub prefix_whole : {A : Type 0} (xs ys : List A) → IsPrefix xs ys → length ys ≤ length xs → xs ≡ ys
prefix_whole [] [] p le = refl
prefix_whole [] (y ∷ ys) p le = absurd (omega arith)
prefix_whole (x ∷ xs) [] p le = absurd (cc (p.1))
prefix_whole (x ∷ xs) (y ∷ ys) p le =
    let rest = prefix_whole xs ys (p.0, cc (p.1)) (omega arith) in cc (p.1, rest)

pub prefix_both : {A : Type 0} (xs ys : List A) → IsPrefix xs ys → IsPrefix ys xs → xs ≡ ys
prefix_both xs ys p q = prefix_whole xs ys p (prefix_length ys xs q)

-- the lines of one number in a front begin those in the whole
pub lines_front : (n : ℕ) (xs ys : List Line) → IsPrefix xs ys → IsPrefix (lines_of n xs) (lines_of n ys)
lines_front n xs ys p = (lines_of n p.0, sym (filter-append (λ (line : Line). eqb line.who.session n) xs p.0) ∙ ap (lines_of n) p.1)

longer_most : (a b : List Line) (t : Bool) → length a ≤ length b → length (cond t b a) ≤ length b
longer_most a b true le = omega arith
longer_most a b false le = le

-- what a second seat then sees is what the first does
pub meets : (a b c : List Line) → IsPrefix a b → IsPrefix b c → c ≡ longer a b → c ≡ b
meets a b c p q is =
    let le = longer_most a b (ltb (length a) (length b)) (prefix_length a b p) in
    let e = ap length is in sym (prefix_whole b c q (omega arith))
