-- Runs of bytes that pass a test.
use Rattle.std.proofs.Common.{◌≡◌, ◌∙◌, ◌+◌, ◌<◌, ◌-◌, ◌&&◌, ◌||◌, ℕ, suc, Bool, true, false, cond, List, [], ◌∷◌, length, take, drop, get_or, refl, sym, ap, subst, nat_le, arith}
use Rattle.std.specs.List.{list_all, prefix_len}
use Rattle.std.specs.Char.{is_ascii_digit, digit_value}
use Rattle.std.proofs.lemmas.Bool.Decides.{nat_tests}
use Rattle.std.proofs.lemmas.List.Sums.{prefix_len-le-length, AllPass-from_list_all}
use Rattle.values.specs.Name.{begins_word, continues_word}
use Rattle.sql_lexer.specs.declared.token.Token.{Token}
use Rattle.sql_lexer.specs.Front.{IsFirstToken}
use Rattle.sql_lexer.specs.Lexes.{EndsBefore}
use Rattle.sql_lexer.specs.Token.{IsWord, IsNumber, Spells, goes_on}

pub run_passes : (test : ℕ → Bool) (bytes : List ℕ) → list_all test (take (prefix_len test bytes) bytes) ≡ true
run_passes test [] = refl
run_passes test (b ∷ bs) = step (test b) refl (run_passes test bs)
  where
    one_more : 1 + prefix_len test bs ≡ suc (prefix_len test bs)
    one_more = omega arith

    step : (v : Bool) → test b ≡ v → list_all test (take (prefix_len test bs) bs) ≡ true → list_all test (take (cond v (1 + prefix_len test bs) 0) (b ∷ bs)) ≡ true
    step true e rest = subst (λ k. list_all test (take k (b ∷ bs)) ≡ true) (sym one_more) (ap (λ v. v && list_all test (take (prefix_len test bs) bs)) e ∙ rest)
    step false e rest = refl

pub run_ends : (test : ℕ → Bool) (bytes : List ℕ) → EndsBefore test (drop (prefix_len test bytes) bytes)
run_ends test [] = tt
run_ends test (b ∷ bs) = step (test b) refl (run_ends test bs)
  where
    one_more : 1 + prefix_len test bs ≡ suc (prefix_len test bs)
    one_more = omega arith

    step : (v : Bool) → test b ≡ v → EndsBefore test (drop (prefix_len test bs) bs) → EndsBefore test (drop (cond v (1 + prefix_len test bs) 0) (b ∷ bs))
    step true e rest = subst (λ k. EndsBefore test (drop k (b ∷ bs))) (sym one_more) rest
    step false e rest = e

-- a run that the first byte begins
begun_run : (test : ℕ → Bool) (b : ℕ) (bs : List ℕ) (count : ℕ) → count ≡ prefix_len test (b ∷ bs) → test b ≡ true → count ≡ suc (prefix_len test bs)
begun_run test b bs count is first =
    let e : count ≡ 1 + prefix_len test bs = is ∙ ap (λ v. cond v (1 + prefix_len test bs) 0) first in omega arith

-- the first run of bytes that pass is the first token, if it spells one that such bytes go on with
pub first_run : (test : ℕ → Bool) (bytes : List ℕ) (t : Token) (count : ℕ) → count ≡ prefix_len test bytes → 0 < length bytes → test (get_or bytes 0 0) ≡ true → Spells (take count bytes) t → goes_on t ≡ test → IsFirstToken bytes t count
first_run test [] t count is some first spelt on = absurd (omega arith)
first_run test (b ∷ bs) t count is some first spelt on = record {
  some = omega (arith, begun_run test b bs count is first);
  within = omega (arith, prefix_len-le-length test (b ∷ bs));
  spelt = spelt;
  longest = subst (λ n. EndsBefore (goes_on t) (drop n (b ∷ bs))) (sym is) (subst (λ p. EndsBefore p (drop (prefix_len test (b ∷ bs)) (b ∷ bs))) (sym on) (run_ends test (b ∷ bs)));
}

pub continues_from_begins : (b : ℕ) → begins_word b ≡ true → continues_word b ≡ true
continues_from_begins b first = ap (λ v. v || (nat_le 48 b && nat_le b 57)) first

pub word_run : (bytes : List ℕ) (count : ℕ) → count ≡ prefix_len continues_word bytes → 0 < length bytes → begins_word (get_or bytes 0 0) ≡ true → IsWord (take count bytes)
word_run [] count is some first = absurd (omega arith)
word_run (b ∷ bs) count is some first =
    subst (λ n. IsWord (take n (b ∷ bs))) (sym (begun_run continues_word b bs count is (continues_from_begins b first))) (first, run_passes continues_word bs)

pub number_run : (bytes : List ℕ) (count : ℕ) → count ≡ prefix_len is_ascii_digit bytes → 0 < length bytes → is_ascii_digit (get_or bytes 0 0) ≡ true → IsNumber (take count bytes)
number_run [] count is some first = absurd (omega arith)
number_run (b ∷ bs) count is some first =
    subst (λ n. IsNumber (take n (b ∷ bs))) (sym (begun_run is_ascii_digit b bs count is first))
    (ap (λ v. v && list_all is_ascii_digit (take (prefix_len is_ascii_digit bs) bs)) first ∙ run_passes is_ascii_digit bs)

digit_value-from_digit : (b : ℕ) → is_ascii_digit b ≡ true → digit_value b ≡ b - 48
digit_value-from_digit b digit = grind (arith, nat_tests)

pub digit_at : (digits : List ℕ) (i : ℕ) → IsNumber digits → i < length digits → digit_value (get_or digits i 0) ≡ get_or digits i 0 - 48
digit_at [] i number lt = absurd (omega arith)
digit_at (b ∷ bs) i number lt = digit_value-from_digit (get_or (b ∷ bs) i 0) (AllPass-from_list_all is_ascii_digit (b ∷ bs) number i 0 lt)
