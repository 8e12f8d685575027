-- Each keyword is found by its spelling.
use Rattle.std.proofs.Common.{◌≡◌, ◌≢◌, ◌∙◌, ◌⊎◌, inl, inr, ℕ, Bool, true, false, cond, subst, Option, Some, List, [], ◌∷◌, ◌==◌, length, refl, sym, ap}
use Rattle.std.specs.Prelude.{find, All}
use Rattle.std.specs.List.{AllByRecursion}
use Rattle.std.specs.Cmp.Lexicographic.{pointwise, bytes_decides}
use Rattle.std.proofs.lemmas.Bool.{false≢true}
use Rattle.std.proofs.lemmas.List.Elements.{recursion_from_All}
use Rattle.sql_lexer.specs.declared.token.Keyword.{Keyword}
use Rattle.sql_lexer.specs.declared.token.Keyword.TheVariants as keyword
use Rattle.sql_lexer.specs.Token.{keywords_of, spelling}

-- the keyword of this spelling
named : List ℕ → Option Keyword
named word = find (λ k. pointwise ◌==◌ (spelling k) word) (keywords_of (length word))

named-spelling : (k : Keyword) → named (spelling k) ≡ Some k
unfolding named
named-spelling keyword.And = refl
named-spelling _ = refl

-- no two keywords are spelt alike
pub same_from_spelling : (j k : Keyword) → spelling j ≡ spelling k → j ≡ k
same_from_spelling j k same =
    let e : Some j ≡ Some k = sym (named-spelling j) ∙ ap named same ∙ named-spelling k in cc

found_of_all : (P : Keyword → Type 0) (test : Keyword → Bool) (ks : List Keyword) (k : Keyword) → AllByRecursion P ks → find test ks ≡ Some k → P k
found_of_all P test [] k each found = absurd cc
found_of_all P test (j ∷ js) k each found = pick (test j) found (found_of_all P test js k each.1)
  where
    pick : (b : Bool) → cond b (Some j) (find test js) ≡ Some k → (find test js ≡ Some k → P k) → P k
    pick true e rest = let same : j ≡ k = cc in subst P same each.0
    pick false e rest = rest e

-- what holds of all keywords of a length holds of every keyword whose word has it
every_keyword : (P : Keyword → Type 0) (n : ℕ) → AllByRecursion P (keywords_of n) → (k : Keyword) → length (spelling k) ≡ n → P k
unfolding named
every_keyword P n each k e =
    let Q : ℕ → Type 0 = λ x. AllByRecursion P (keywords_of x) in
    found_of_all P (λ j. pointwise ◌==◌ (spelling j) (spelling k)) (keywords_of (length (spelling k))) k (subst Q (sym e) each) (named-spelling k)

-- a word that no keyword of its length spells is no keyword's
differs : (word : List ℕ) → AllByRecursion (λ k. word ≢ spelling k) (keywords_of (length word)) → (k : Keyword) → word ≢ spelling k
differs word each k same = every_keyword (λ j. word ≢ spelling j) (length word) each k (ap length (sym same)) same

pub each_differs : (word : List ℕ) (n : ℕ) → length word ≡ n → All (λ k. word ≢ spelling k) (keywords_of n) → (k : Keyword) → word ≢ spelling k
each_differs word n e each =
    let Q : ℕ → Type 0 = λ x. All (λ k. word ≢ spelling k) (keywords_of x) in
    differs word (recursion_from_All (λ k. word ≢ spelling k) (keywords_of (length word)) (subst Q (sym e) each))

same_or_not : (xs ys : List ℕ) → (xs ≡ ys) ⊎ (xs ≢ ys)
same_or_not xs ys = go (pointwise ◌==◌ xs ys) refl
  where
    go : (v : Bool) → pointwise ◌==◌ xs ys ≡ v → (xs ≡ ys) ⊎ (xs ≢ ys)
    go true e = inl ((bytes_decides xs ys).0 e)
    go false e = inr (λ same. false≢true (sym e ∙ (bytes_decides xs ys).1 same))

one_of : (ks : List Keyword) (word : List ℕ) → ((k : Keyword) × (word ≡ spelling k)) ⊎ AllByRecursion (λ k. word ≢ spelling k) ks
one_of [] word = inr tt
one_of (k ∷ ks) word = elim (same_or_not word (spelling k)) [
  | inl same ↦ inl (k, same)
  | inr differ ↦ elim (one_of ks word) [ inl found ↦ inl found | inr none ↦ inr (differ, none) ]
]

-- a word is a keyword's or no keyword's
pub keyword_or_not : (word : List ℕ) → ((k : Keyword) × (word ≡ spelling k)) ⊎ ((k : Keyword) → word ≢ spelling k)
keyword_or_not word = elim (one_of (keywords_of (length word)) word) [
  | inl found ↦ inl found
  | inr none ↦ inr (differs word none)
]
