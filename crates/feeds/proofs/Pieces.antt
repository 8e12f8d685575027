-- Reading and writing piece by piece, where the bytes are told.
use Rattle.std.proofs.Common.{◌≡◌, ◌≤◌, ◌+◌, ◌-◌, ◌++◌, ◌∙◌, ℕ, List, Option, Some, None, IfSome, length, take, drop, refl, sym, ap, append_assoc, arith}
use Rattle.std.specs.Option.{option_map}
use Rattle.std.proofs.Math.Seq.{take-add}
use Rattle.std.proofs.lemmas.List.{drop-drop, length-drop, take_all, take_rest, take-append-le}
use Rattle.feeds.specs.Feeds.{AreNext, added}

-- one more put of the bytes from that place on
pub added-more : (first mid last : Option (List ℕ)) (bytes : List ℕ) (place n : ℕ) → mid ≡ added first (take place bytes) → last ≡ added mid (take n (take (length bytes - place) (drop place bytes))) → last ≡ added first (take (place + n) bytes)
added-more None mid last bytes place n e f = rw e at f
added-more (Some front) mid last bytes place n e f =
    (rw e at f) ∙ (rw (take_rest bytes place, take-add place n bytes, append_assoc) refl)

-- one more piece that was read
pub front-more : (first mid : Option (List ℕ)) (read out rest : List ℕ) (k n : ℕ) → n ≤ length out → IfSome first (λ bytes. read ≡ take k bytes) → mid ≡ option_map (drop k) first → IfSome mid (AreNext n out) → IfSome first (λ bytes. read ++ take n (out ++ rest) ≡ take (k + n) bytes)
front-more None mid read out rest k n within front e are = tt
front-more (Some bytes) mid read out rest k n within front e are =
    let next : AreNext n out (drop k bytes) = rw e at are in
    rw (take-append-le n out rest within, next.1, front, take-add k n bytes) refl

-- what is left behind one more piece
pub rest-more : (first mid last : Option (List ℕ)) (k n : ℕ) → mid ≡ option_map (drop k) first → last ≡ option_map (drop n) mid → last ≡ option_map (drop (k + n)) first
rest-more None mid last k n e f = rw e at f
rest-more (Some bytes) mid last k n e f = (rw e at f) ∙ (rw drop-drop refl)

-- at the end all was read
pub front-all : (first mid : Option (List ℕ)) (read out : List ℕ) (k limit n : ℕ) → n ≡ 0 → k ≤ limit → IfSome first (λ bytes. read ≡ take k bytes) → mid ≡ option_map (drop k) first → IfSome mid (AreNext n out) → IfSome first (λ bytes. read ≡ take limit bytes)
front-all None mid read out k limit n none within front e are = tt
front-all (Some bytes) mid read out k limit n none within front e are =
    let next : AreNext n out (drop k bytes) = rw e at are in
    let short : length bytes ≤ k = omega (arith, length-drop k bytes, ap length (next.2 none)) in
    front ∙ take_all k bytes short ∙ sym (take_all limit bytes (omega arith))
