-- Rows under numbers that count up.
use Rattle.std.proofs.Common.{◌≡◌, ℕ, ◌+◌, ◌<◌, List, [], ◌∷◌, ◌++◌, length, get_or, take, refl, ap, sym, ◌∙◌, arith}
use Rattle.values.specs.declared.value.Value.{Value}
use Rattle.tables.specs.declared.contents.NumberedRow.{NumberedRow}
use Rattle.tables.specs.Rows.{numbered}
use Rattle.std.proofs.lemmas.List.{take_more, length-take-le}

pub numbered-append : (next : ℕ) (xs ys : List (List Value)) → numbered next (xs ++ ys) ≡ numbered next xs ++ numbered (next + length xs) ys
numbered-append next [] ys = ap (λ (n : ℕ). numbered n ys) (omega arith)
numbered-append next (x ∷ xs) ys =
    let e : (next + 1) + length xs ≡ next + length (x ∷ xs) = omega arith in
    let rest : numbered (next + 1) (xs ++ ys) ≡ numbered (next + 1) xs ++ numbered (next + length (x ∷ xs)) ys = numbered-append (next + 1) xs ys ∙ ap (λ (n : ℕ). numbered (next + 1) xs ++ numbered n ys) e in
    ap (λ (rows : List NumberedRow). record { number = next; row = x } ∷ rows) rest

-- one more row gets the next number
pub numbered_more : (next : ℕ) (rows : List (List Value)) (i : ℕ) (row : List Value) → i < length rows → row ≡ get_or rows i row → numbered next (take (i + 1) rows) ≡ numbered next (take i rows) ++ record { number = next + i; row = row } ∷ []
numbered_more next rows i row below is =
    let long : length (take i rows) ≡ i = length-take-le i rows (omega arith) in
    let last : take (i + 1) rows ≡ take i rows ++ row ∷ [] = take_more rows i row below ∙ ap (λ (x : List Value). take i rows ++ x ∷ []) (sym is) in
    ap (numbered next) last ∙ numbered-append next (take i rows) (row ∷ []) ∙ ap (λ (n : ℕ). numbered next (take i rows) ++ record { number = next + n; row = row } ∷ []) long
