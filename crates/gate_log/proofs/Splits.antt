-- The first record of some bytes.
use Rattle.std.proofs.Common.{◌≡◌, ◌∙◌, ◌<◌, ◌≤◌, ◌-◌, ℕ, List, [], ◌∷◌, ◌++◌, length, take, drop, get_or, refl, sym, ap, arith, append_assoc}
use Rattle.std.proofs.lemmas.List.{take_rest, length-take-le, take-append-drop}
use Rattle.retro_base.specs.Fields.{number_at, field_bytes}
use Rattle.retro_base.specs.Framing.{sized}
use Rattle.retro_base.proofs.FieldLaws.{number_at-same}
use Rattle.retro_base.proofs.Numbers.{field_bytes-number_at}

-- the number behind the first byte
pub count_behind : (rest : List ℕ) → number_at 4 rest 1 ≡ number_at 4 (drop 1 rest) 0
count_behind rest = number_at-same 4 rest (drop 1 rest) 1 0 refl

pub record_split : (gate count : ℕ) (rest front back : List ℕ) → ((i : ℕ) → get_or rest i 0 < 256) → 6 ≤ length rest → get_or rest 0 0 ≡ gate → count ≡ number_at 4 rest 1
    → count < length (take (length rest - 5) (drop 5 rest)) → front ≡ take count (take (length rest - 5) (drop 5 rest)) → back ≡ drop count (take (length rest - 5) (drop 5 rest)) → rest ≡ (gate ∷ sized front) ++ back
record_split gate count [] front back small long is_open is_count within is_front is_back = absurd (omega arith)
record_split gate count (x ∷ xs) front back small long is_open is_count within is_front is_back =
    let behind = take (length (x ∷ xs) - 5) (drop 5 (x ∷ xs)) in
    let whole : behind ≡ drop 4 xs = take_rest (x ∷ xs) 5 in
    let joined : front ++ back ≡ drop 4 xs = ap (λ (l : List ℕ). l ++ back) is_front ∙ ap (λ (l : List ℕ). take count behind ++ l) is_back ∙ take-append-drop count behind ∙ whole in
    let counted : length front ≡ count = ap length is_front ∙ length-take-le count behind (omega arith) in
    let field : field_bytes 4 (length front) ≡ take 4 xs = ap (λ (n : ℕ). field_bytes 4 n) (counted ∙ is_count) ∙ field_bytes-number_at 4 (x ∷ xs) 1 small (omega arith) in
    let split : xs ≡ (field_bytes 4 (length front) ++ front) ++ back =
    sym (take-append-drop 4 xs) ∙ ap (λ (l : List ℕ). l ++ drop 4 xs) (sym field) ∙ ap (λ (l : List ℕ). field_bytes 4 (length front) ++ l) (sym joined) ∙ sym (append_assoc (field_bytes 4 (length front)) front back) in
    ap (λ (b : ℕ). b ∷ xs) is_open ∙ ap (λ (l : List ℕ). gate ∷ l) split
